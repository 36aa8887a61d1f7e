-- A retired slot that a put uses again, and what is left of the others, try by try.
use Rattle.std.proofs.Common.{◌≡◌, ◌≢◌, ◌==◌, ℕ, ◌+◌, ◌≤◌, Bool, true, false, cond, if◌then◌else◌, List, [], ◌∷◌, length, map, Option, Some, None, ◌⊎◌, inl, inr, refl, sym, ap, subst, ◌∙◌, ⊎_elim, arith}
use lib.ListN.{get_elem?}
use mathlib.Core.Option.{some}
use Rattle.prcu_marks.specs.declared.mark.Mark.{Mark}
use Rattle.core_state.specs.declared.view.Held.{Held}
use Rattle.core_state.specs.declared.view.Retired.{Retired}
use Rattle.core_state.specs.declared.view.View.{View}
use Rattle.core_state.specs.Links.{without_retired}
use Rattle.list_laws.specs.Counts.{times}
use Rattle.seat_table.specs.Seats.{AreListed, IsSlotOf, SeatAt, unlisted}
use Rattle.node_slots.specs.Reclaiming.{IsReady, Reuses}
use Rattle.node_slots.proofs.Points.{reused_advanced, reused_retired}
use Rattle.node_slots.proofs.Reclaims.{same_all}
use Rattle.citrus_tree.specs.declared.insert.Reuse.{Reuse}
use Rattle.citrus_tree.specs.Going.{Goes, KeepsSlots, KeepsSlotsBy, LeafBy, MayUse, TakesBy, TakesSlot, UsesOrKeeps, UsesSlot, retired_marks, used_slot, without_mark}
use Rattle.citrus_tree.specs.Lookups.{Looked}
use Rattle.citrus_tree.proofs.Leavings.{goes_looked, goes_slots, slots_on, slots_same}
use Rattle.citrus_tree.specs.declared.insert.Reuse.TheVariants as reuse

-- The marks of the retired slots without one of them.

abbrev mark_of : Retired → ℕ × ℕ × Bool
mark_of r = (r.slot, r.unlinked, r.waited)

marks_if : (b : Bool) (slot : ℕ) (r : Retired) (rs : List Retired) → map mark_of (without_retired slot rs) ≡ without_mark slot (map mark_of rs)
    → map mark_of (if b then without_retired slot rs else r ∷ without_retired slot rs)
    ≡ (if b then without_mark slot (map mark_of rs) else mark_of r ∷ without_mark slot (map mark_of rs))
marks_if true slot r rs same = same
marks_if false slot r rs same = ap (λ l. mark_of r ∷ l) same

pub marks_without : (slot : ℕ) (rs : List Retired) → map mark_of (without_retired slot rs) ≡ without_mark slot (map mark_of rs)
marks_without slot [] = refl
marks_without slot (r ∷ rs) = marks_if (r.slot == slot) slot r rs (marks_without slot rs)

fewer_if : (b : Bool) (slot : ℕ) (r : Retired) (rs : List Retired) → length (without_retired slot rs) ≤ length rs
    → length (if b then without_retired slot rs else r ∷ without_retired slot rs) ≤ length (r ∷ rs)
fewer_if true slot r rs less = omega (arith, less)
fewer_if false slot r rs less = omega (arith, less)

fewer_without : (slot : ℕ) (rs : List Retired) → length (without_retired slot rs) ≤ length rs
fewer_without slot [] = omega arith
fewer_without slot (r ∷ rs) = fewer_if (r.slot == slot) slot r rs (fewer_without slot rs)

-- A retired slot came into the hand.
module _ {slot : ℕ} (s t : SeatAt) (reused : Reuses s.view slot t.view) (listed : t.listed ≡ unlisted slot s.listed) where
  pub uses_slot : UsesSlot slot s t
  uses_slot = record {
    waits = ap (λ (z : View). z.counts.waits) reused.rest;
    wait = ap (λ (z : View). z.wait) reused.rest;
    retired = ap (map mark_of) (reused_retired reused) ∙ marks_without slot s.view.hands.retired;
    listed = listed;
  }

  pub takes_retired : TakesSlot s.view t.view
  takes_retired = record {
    advanced = reused_advanced reused;
    fewer = let same = ap length (reused_retired reused) in let less = fewer_without slot s.view.hands.retired in omega (arith, same, less);
    wait = ap (λ (z : View). z.wait) reused.rest;
    waits = ap (λ (z : View). z.counts.waits) reused.rest;
  }

  pub listed_without : AreListed s → AreListed t
  listed_without are = record {
    each =
        λ x. ap (λ l. times x l) listed ∙ same_all (slot ∷ []) s.listed s.view.hands.retired are.each x
        ∙ ap (λ (rs : List Retired). times x (map (λ (r : Retired). r.slot) rs)) (sym (reused_retired reused));
  }

-- It is one that a put was told to use, which was ready, and the place had a spare.
pub chosen_ready : (chosen : Reuse) (spare : Option Held) {slot : ℕ} {v : View} → used_slot chosen spare ≡ Some slot → MayUse chosen v
    → IsReady v slot
chosen_ready reuse.Free spare is may = cc
chosen_ready (reuse.Retired one) None is may = cc
chosen_ready (reuse.Retired one) (Some held) {slot} {v} is may = let same : one ≡ slot = cc in subst (IsReady v) same may

pub chosen_spare : (chosen : Reuse) (spare : Option Held) {slot : ℕ} → used_slot chosen spare ≡ Some slot
    → (held : Held) × (spare ≡ Some held)
chosen_spare reuse.Free spare is = cc
chosen_spare (reuse.Retired one) None is = cc
chosen_spare (reuse.Retired one) (Some held) is = (held, refl)

-- Steps that leave the retired slots alone, before that or behind it.

uses_goes : {slot : ℕ} {r s t : SeatAt} {marks : List Mark} → UsesSlot slot r s → Goes s.view t.view marks → t.listed ≡ s.listed
    → UsesSlot slot r t
uses_goes used goes listed = record {
  waits = goes.waits ∙ used.waits;
  wait = goes.wait ∙ used.wait;
  retired = ap (map mark_of) goes.retired ∙ used.retired;
  listed = listed ∙ used.listed;
}

uses_on : (slot : Option ℕ) (r s t : SeatAt) (marks : List Mark) → UsesOrKeeps slot r s → Goes s.view t.view marks → t.listed ≡ s.listed
    → UsesOrKeeps slot r t
uses_on None r s t marks kept goes listed = goes_slots r s t marks kept goes listed
uses_on (Some slot) r s t marks used goes listed = uses_goes used goes listed

pub takes_goes : (chosen : Reuse) (spare : Option Held) (r s t : SeatAt) (marks : List Mark) → TakesBy chosen spare r s
    → Goes s.view t.view marks → t.listed ≡ s.listed → TakesBy chosen spare r t
takes_goes chosen spare r s t marks took goes listed = uses_on (used_slot chosen spare) r s t marks took goes listed

-- a put that took a slot so leaves the retired ones as it may
pub takes_so : (chosen : Reuse) (spare : Option Held) (s t : SeatAt) → TakesBy chosen spare s t → KeepsSlotsBy chosen s t
takes_so reuse.Free spare s t kept = kept
takes_so (reuse.Retired slot) None s t kept = inl kept
takes_so (reuse.Retired slot) (Some held) s t used = inr used

keeps_so : (chosen : Reuse) (s t : SeatAt) → KeepsSlots s t → KeepsSlotsBy chosen s t
keeps_so reuse.Free s t kept = kept
keeps_so (reuse.Retired slot) s t kept = inl kept

-- What tries have left so far.

-- none has taken a slot: what might be used again is as it was
pub record IsBefore (s t : SeatAt) : Type 0 where
  pub empty : t.view.hands.hand ≡ None
  pub spare : t.view.hands.spare ≡ s.view.hands.spare
  pub retired : t.view.hands.retired ≡ s.view.hands.retired
  pub listed : t.listed ≡ s.listed
  pub wait : t.view.wait ≡ s.view.wait
  pub waits : t.view.counts.waits ≡ s.view.counts.waits

-- one has, and it is in hand
pub record HasLeaf (chosen : Reuse) (s t : SeatAt) : Type 0 where
  pub leaf : ℕ
  pub in_hand : IsSlotOf (Some leaf) t.view.hands.hand
  pub took : TakesBy chosen s.view.hands.spare s t

abbrev pub SoFar : Reuse → SeatAt → SeatAt → Type 0
SoFar chosen s t = IsBefore s t ⊎ HasLeaf chosen s t

pub none_so_far : (chosen : Reuse) (s : SeatAt) → s.view.hands.hand ≡ None → SoFar chosen s s
none_so_far chosen s empty =
    inl (record { empty = empty; spare = refl; retired = refl; listed = refl; wait = refl; waits = refl })

before_keeps : (s t : SeatAt) → IsBefore s t → KeepsSlots s t
before_keeps s t b = slots_same s t b.waits b.wait (ap (map mark_of) b.retired) b.listed

-- a put that ends here may put its slot back, and leaves the retired ones as it may
pub so_far_ends : (chosen : Reuse) (s t u : SeatAt) → SoFar chosen s t → Goes t.view u.view [] → u.listed ≡ t.listed
    → KeepsSlotsBy chosen s u
so_far_ends chosen s t u so_far goes listed = ⊎_elim
    (λ (b : IsBefore s t). keeps_so chosen s u (goes_slots s t u [] (before_keeps s t b) goes listed))
    (λ (h : HasLeaf chosen s t). takes_so chosen s.view.hands.spare s u
    (takes_goes chosen s.view.hands.spare s t u [] h.took goes listed))
    so_far

-- a search changes nothing of it
pub so_far_looked : (chosen : Reuse) (s t u : SeatAt) {key : ℕ} {answer : Option ℕ} → SoFar chosen s t → Looked t.view key answer u.view
    → u.listed ≡ t.listed → SoFar chosen s u
so_far_looked chosen s t u so_far l listed = ⊎_elim
    (λ (b : IsBefore s t). inl (record {
      empty = ap (λ (z : View). z.hands.hand) l.others ∙ b.empty;
      spare = ap (λ (z : View). z.hands.spare) l.others ∙ b.spare;
      retired = ap (λ (z : View). z.hands.retired) l.others ∙ b.retired;
      listed = listed ∙ b.listed;
      wait = ap (λ (z : View). z.wait) l.others ∙ b.wait;
      waits = (goes_looked l).waits ∙ b.waits;
    }))
    (λ (h : HasLeaf chosen s t). inr (record {
      leaf = h.leaf;
      in_hand = subst (IsSlotOf (Some h.leaf)) (sym (ap (λ (z : View). z.hands.hand) l.others)) h.in_hand;
      took = takes_goes chosen s.view.hands.spare s t u _ h.took (goes_looked l) listed;
    }))
    so_far

-- what a put is told to use may be used still, until it has a slot
ready_still : (chosen : Reuse) (v w : View) → w.hands.retired ≡ v.hands.retired → MayUse chosen v → MayUse chosen w
ready_still reuse.Free v w same may = tt
ready_still (reuse.Retired slot) v w same ready = record {
  i = ready.i;
  r = ready.r;
  at = (ap (λ (rs : List Retired). get_elem? rs ready.i) same ∙ ready.at.0, ready.at.1);
  unraised = ready.unraised;
  waited = ready.waited;
}

pub may_use_still : (chosen : Reuse) (s t : SeatAt) → SoFar chosen s t → MayUse chosen s.view → t.view.hands.hand ≡ None
    → MayUse chosen t.view
may_use_still chosen s t so_far may empty = ⊎_elim
    (λ (b : IsBefore s t). ready_still chosen s.view t.view b.retired may)
    (λ (h : HasLeaf chosen s t). absurd (subst (IsSlotOf (Some h.leaf)) empty h.in_hand))
    so_far

-- a slot is in hand then, taken now or before
uses_from : (slot : Option ℕ) (s t u : SeatAt) → IsBefore s t → UsesOrKeeps slot t u → UsesOrKeeps slot s u
uses_from None s t u b kept = slots_on s t u (before_keeps s t b) kept
uses_from (Some slot) s t u b used = record {
  waits = used.waits ∙ b.waits;
  wait = used.wait ∙ b.wait;
  retired = used.retired ∙ ap (without_mark slot) (ap (map mark_of) b.retired);
  listed = used.listed ∙ ap (unlisted slot) b.listed;
}

leaf_same : (chosen : Reuse) (leaf : ℕ) (t u : SeatAt) (hand : Option Held) → IsSlotOf (Some leaf) hand → LeafBy hand chosen t u → u ≡ t
leaf_same chosen leaf t u None none l = absurd none
leaf_same chosen leaf t u (Some held) is l = l

pub leaf_took : (chosen : Reuse) (s t u : SeatAt) → SoFar chosen s t → LeafBy t.view.hands.hand chosen t u
    → TakesBy chosen s.view.hands.spare s u
leaf_took chosen s t u so_far leaf = ⊎_elim
    (λ (b : IsBefore s t).
    (let took : TakesBy chosen t.view.hands.spare t u = subst (λ (h : Option Held). LeafBy h chosen t u) b.empty leaf in
    uses_from (used_slot chosen s.view.hands.spare) s t u b (subst (λ (o : Option Held). TakesBy chosen o t u) b.spare took)))
    (λ (h : HasLeaf chosen s t). subst (λ (z : SeatAt). TakesBy chosen s.view.hands.spare s z)
    (sym (leaf_same chosen h.leaf t u t.view.hands.hand h.in_hand leaf)) h.took)
    so_far

-- where one was in hand already nothing was done
pub leaf_there : (chosen : Reuse) (leaf : ℕ) (s : SeatAt) (hand : Option Held) → IsSlotOf (Some leaf) hand → LeafBy hand chosen s s
leaf_there chosen leaf s None none = absurd none
leaf_there chosen leaf s (Some held) is = refl

-- and where none was, one was taken
pub leaf_new : (chosen : Reuse) (s t : SeatAt) (hand : Option Held) → IsSlotOf None hand → TakesBy chosen s.view.hands.spare s t
    → LeafBy hand chosen s t
leaf_new chosen s t None none took = took
leaf_new chosen s t (Some held) wrong took = absurd wrong

pub hand_empty : (hand : Option Held) → IsSlotOf None hand → hand ≡ None
hand_empty None none = refl
hand_empty (Some held) wrong = absurd wrong

-- what held before nothing was changed holds after it, and the other way round
pub after : (P : SeatAt → Type 0) {old new : SeatAt} → new ≡ old → P old → P new
after P same = subst P (sym same)

pub before : (P : SeatAt → Type 0) {old new : SeatAt} → new ≡ old → P new → P old
before P same = subst P same

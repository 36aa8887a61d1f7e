-- A step on a retired slot that was waited for: its life is raised, and it becomes the spare, comes into the hand, or stays retired. With it
-- the laws of K11, K12 and K15.
use Rattle.std.proofs.Common.{◌≡◌, ◌≢◌, ℕ, ◌+◌, ◌-◌, ◌/◌, ◌<◌, ◌≤◌, ◌⊎◌, ◌==◌, true, List, [], ◌∷◌, ◌++◌, length, set, Option, Some, None, refl, sym, ap, subst, ◌∙◌, ⊎_elim, inr, arith, Bool, false, cond, inl}
use Rattle.std.proofs.lemmas.Bool.{cases_eq, eqb-true}
use Rattle.prcu_marks.specs.declared.mark.Mark.{Mark}
use Rattle.core_state.specs.declared.words.Field.TheVariants.{State, Life}
use Rattle.core_state.specs.declared.view.Held.{Held}
use Rattle.core_state.specs.declared.view.Retired.{Retired}
use Rattle.core_state.specs.declared.view.View.{View}
use Rattle.list_laws.specs.Counts.{times, IsIn, Each}
use Rattle.core_state.specs.Memory.{flag, IsEven, IsOdd, Memory, stored, slot_count}
use Rattle.core_state.specs.Views.{IsOwnField, HasLock, held_list, retired_of, joined_retired, spares_of, slots_of, unraised_hand, unraised_among, Works}
use Rattle.core_state.specs.Invariant.{HoldsNow}
use Rattle.core_frames.specs.Laws.{IsKept, KeepsPast}
use Rattle.core_frames.proofs.WholeFrames.{no_mark, Stepper, StepKeeps, only_loaded}
use Rattle.core_frames.proofs.Views.{stored_here, sum_one_more, in_one, not_one}
use Rattle.core_laws.proofs.Stores.{StoresIn, stores_in}
use Rattle.core_frames.proofs.PlaceFrames.{counts_by, generations_in}
use Rattle.core_laws.proofs.ChartStays.{SameOutside, outer_same, outer_marked, OuterParts, grace_same}
use Rattle.core_laws.proofs.OffStep.{OffStep, no_marks, same_lock, SameElse, no_others, off_law, retired_away, held_away, even_away, copy_away, used_marks, grace_used, used_back, hand_away}
use Rattle.core_frames.proofs.Roles.{slots_count, held_there, own_off, own_once, spare_among, spares_count, own_below, retired_own, waited_unmet, retired_count, slots_in, without_in, raise, without_none, change_in, in_change, without_else, one_in, unraised_append, change_slots, change_length, without_length, change_unraised, in_without, without_unraised}
use Rattle.prcu_marks.specs.Marks.{gone_at, last_unlinked, greatest_key}
use Rattle.core_state.specs.Parts.{IsHandKnown, IsHeldKnown, IsRetired, HasFewSlots, IsUnraised, IsUnraisedOf, GraceParts, IsClear}
use Rattle.core_laws.proofs.LockSteps.{known_more}
use Rattle.core_state.specs.Links.{without_retired, change_retired, renewed, NeedsRaiseRetired, NeedsRaiseToHand, after_raise_to_spare, after_raise_to_hand, after_raise_retired, IsInHand, IsSpare, IsContent, seized, NeedsSeize, NeedsRaiseInHand, after_fill, after_raise_in_hand, NeedsFill, NeedsFreeInHand, NeedsFreeRetired, after_seize, after_free_in_hand, after_free_retired}
use Rattle.prcu_marks.proofs.Marks.{last_gone}
use Rattle.list_laws.proofs.Lists.{in_first, times_in, in_second, in_append}
use Rattle.prcu_marks.specs.declared.mark.Mark.TheVariants.{Given, Freed}
use Rattle.core_laws.proofs.LockLoads.{life_or_tag_stores}
use Rattle.prcu_model.specs.Dictionary.{map_of}
use mathlib.Core.Option.{some}
use lib.ListN.{get_elem?}
use Rattle.core_state.specs.declared.shape.Shape.{Shape}
use Rattle.core_state.specs.declared.words.Field.{Field}
use Rattle.core_laws.proofs.Filling.{content_filled, life_filled}
use Rattle.core_laws.proofs.Restating.{seizes, frees_hand, frees_retired}
use Rattle.atomic_table.proofs.Lists.{set_again}
use Rattle.std.specs.FinMap as finite

-- A raise of a retired slot's life.
pub record RaiseStep : Type 0 where
  pub who : Stepper
  pub at : ℕ
  pub r : Retired
  pub number : ℕ
  pub needs : NeedsRaiseRetired who.v at r r.slot number

-- the view with other tickets, another slot in hand, another spare, other retired slots, and what it has seen
abbrev view_with : View → ℕ → Option Held → Option Held → List Retired → List Mark → View
view_with v tickets hand spare retired seen = record v {
  allowance = record v.allowance { tickets = tickets };
  hands = record v.hands { hand = hand; spare = spare; retired = retired };
  seen = seen;
}

module _ (z : RaiseStep) where
  open z use {who.{k, m, vs, h, id, v, inv, there, works}, number, r.{slot as s}}

  abbrev n : ℕ
  n = slot_count z.who.k

  abbrev m' : Memory
  m' = stored z.who.m (Life z.r.slot) z.number

  mine : IsIn v.hands.retired z.r
  mine = (z.at, z.needs.retired.0)

  whole : IsIn (retired_of v) z.r
  whole = in_first v.hands.retired (joined_retired v.allowance.joined) z.r mine

  is : IsRetired m h z.r
  is = inv.slots.retired id v there whole.0 z.r whole.1

  odd : IsOdd (m (Life s))
  odd = is.marked z.needs.unraised

  here : m' (Life s) ≡ m (Life s) + 1
  here = stored_here m (Life s) number
      ∙ (let a = is.life z.needs.life z.needs.unraised z.needs.loaded in let b = odd in let c = z.needs.next in
      omega arith)

  among : 1 ≤ times s (slots_of v)
  among = retired_own v z.r whole

  below : s < n
  below = own_below m n inv.chart vs h inv.slots id v there s among

  stores : StoresIn m m' s
  stores = stores_in m s (Life s) number refl

  -- the slot stands once among the view's, as a retired one
  record OneRole : Type 0 where
    pub not_held : times s (held_list v.hands.hand) ≡ 0
    pub not_spare : times s (spares_of v) ≡ 0
    pub retired : times s (slots_in v.hands.retired) ≡ 1
    pub not_joined : times s (slots_in (joined_retired v.allowance.joined)) ≡ 0

  one_role : OneRole
  one_role =
      let a = own_once m n inv.chart vs h inv.slots id v there s in
      let b = slots_count v s in
      let c = retired_count v s in
      let d = times_in (λ (x : Retired). x.slot) v.hands.retired z.r mine in
      record { not_held = omega arith; not_spare = omega arith; retired = omega arith; not_joined = omega arith }

  joined_apart : (y : Retired) → IsIn (joined_retired v.allowance.joined) y → y.slot ≢ s
  joined_apart y has same = let a = times_in (λ (x : Retired). x.slot) (joined_retired v.allowance.joined) y has in
      let b = one_role.not_joined in
      let c = ap (λ x. times x (slots_in (joined_retired v.allowance.joined))) same in omega arith

  lives_more : generations_in m' n ≡ generations_in m n + 1
  lives_more = sum_one_more (λ t. m (Life t) / 2) (λ t. m' (Life t) / 2) s n below (λ t. ⊎_elim
      (λ (e : t ≡ s). (let a = ap (λ x. m' (Life x)) e in let b = ap (λ x. m (Life x)) e in let c = in_one t s e in let d = here in
      let o = odd in omega arith))
      (λ ne. (let a = stores.away t (Life t) ne refl in let c = not_one t s ne in omega arith))
      (cases_eq t s))

  pub raised_past : KeepsPast m h m'
  raised_past = record {
    lives = λ t. ⊎_elim (λ (e : t ≡ s). (let a = ap (λ x. m' (Life x)) e in let b = ap (λ x. m (Life x)) e in let d = here in omega arith))
        (λ ne. (let a = stores.away t (Life t) ne refl in omega arith)) (cases_eq t s);
    tags = λ t b. omega arith;
    content = λ t field gone o c. (life_or_tag_stores m s (Life s) number refl tt).content t field c;
  }

  -- What the step makes of the view's tickets and slots, and the marks afterwards.
  record Raised : Type 0 where
    pub tickets : ℕ
    pub hand : Option Held
    pub spare : Option Held
    pub retired : List Retired
    pub seen : List Mark
    pub hs : List Mark
    pub marks : SameElse z.r.slot z.who.h hs
    pub unraised : (t : ℕ) → t ≢ z.r.slot → IsUnraised z.who.v t → IsUnraisedOf retired t

  module _ (c : Raised) where
    abbrev w : View
    w = view_with z.who.v c.tickets c.hand c.spare c.retired c.seen

    same_outside : SameOutside v w
    same_outside = record {
      places = record { place = refl; places = refl; joined = refl; met = refl };
      section = refl;
      enter = refl;
      records = refl;
      moving = refl;
      commit = refl;
      wait = refl;
      sections = refl;
      waits = refl;
    }

    abbrev step : OffStep
    step = record {
      who = z.who;
      m' = m';
      hs = c.hs;
      w = w;
      s = z.r.slot;
      stores = stores;
      tag = λ t b. refl;
      grows = (let a = here in omega arith);
      fresh = inr (let a = here in let o = odd in omega arith);
      links = λ t p gone b. refl;
      below = below;
      off = own_off m n inv.chart vs h inv.slots id v there s among;
      unmet = waited_unmet k m vs h inv id v there z.r mine z.needs.waited;
      others = no_others m n inv.chart vs h inv.slots id v there s among;
      view = same_outside;
      few_locks = λ i. record { once = i.once; few = i.few; outside = i.outside };
      lock_back = λ t l is_held. (l, is_held, same_lock m' s t l);
      lock_forth = λ t l is_held. (l, is_held, same_lock m' s t l);
      unraised = λ t lock x. (let far : t ≢ s = (λ e. z.needs.unlocked (subst (HasLock v) e lock)) in (far, c.unraised t far x));
      marks = c.marks;
    }

    -- what is left to say of the slots of the view
    record RaisedSlots : Type 0 where
      pub same : (t : ℕ) → times t (slots_of w) ≡ times t (slots_of v)
      pub few : HasFewSlots k.room w
      pub hand : (held : Held) → c.hand ≡ Some held → IsHandKnown m' held
      pub spare : (held : Held) → c.spare ≡ Some held → IsHeldKnown m' held
      pub spares : (t : ℕ) → t ≢ s → 1 ≤ times t (spares_of w) → 1 ≤ times t (spares_of v)
      pub retired : Each c.retired (IsRetired m' c.hs)
      pub kept : (t p : ℕ) (y : Retired) → gone_at t c.hs ≡ Some p → IsIn v.hands.retired y → y.slot ≡ t
          → (x : Retired) × IsIn c.retired x × (x.slot ≡ t)
      pub paid : c.tickets ≤ v.allowance.tickets
      pub fewer : unraised_hand c.hand + unraised_among c.retired + c.tickets + 1
          ≤ unraised_hand v.hands.hand + unraised_among v.hands.retired + v.allowance.tickets

    raised_law : RaisedSlots → OuterParts k m' (set vs id w) c.hs → GraceParts (set vs id w) c.hs → HoldsNow k m' (set vs id w) c.hs
    raised_law d outer grace = off_law step (record {
      role = same_role s (d.same s);
      roles = λ t _. d.same t;
      low = inv.slots.roles.states s below;
      even = λ _. even_now;
      few = d.few;
      hands = record {
        hand = d.hand;
        spare = d.spare;
        copy = λ move q. copy_away step id v there move q;
        spares = λ t has. ⊎_elim (λ (e : t ≡ s). subst (λ x. IsEven (m' (Life x))) (sym e) even_now)
            (λ ne. even_away step t ne ((inv.slots.hands id v there).spares t (d.spares t ne has))) (cases_eq t s);
      };
      retired = λ j y e. ⊎_elim (λ (a : IsIn c.retired y). d.retired a.0 y a.1)
          (λ (a : IsIn (joined_retired v.allowance.joined) y). (let b = in_second v.hands.retired (joined_retired v.allowance.joined) y a in
          retired_away step y (joined_apart y a) (inv.slots.retired id v there b.0 y b.1)))
          (in_append c.retired (joined_retired v.allowance.joined) y (j, e));
      unlinked = λ t p gone y. ⊎_elim
          (λ (a : IsIn v.hands.retired y.retired). (let x = d.kept t p y.retired gone a y.slot in
          record { retired = x.0; has = in_first c.retired (joined_retired v.allowance.joined) x.0 x.1; slot = x.2 }))
          (λ a. record {
            retired = y.retired;
            has = in_second c.retired (joined_retired v.allowance.joined) y.retired a;
            slot = y.slot;
          })
          (in_append v.hands.retired (joined_retired v.allowance.joined) y.retired y.has);
    }) outer (counts_by k.tickets m m' n inv.chart inv.chart vs id v w h c.hs there (record {
      free = refl;
      clock = (let a = ap length c.marks.updates in let b = d.paid in omega arith);
      generations = (let a = lives_more in let b = d.fewer in let x = unraised_append c.retired (joined_retired v.allowance.joined) in
          let y = unraised_append v.hands.retired (joined_retired v.allowance.joined) in omega arith);
      tags = (let b = d.paid in omega arith);
      turns = omega arith;
      pairs = (let a = ap (λ us. finite.len (map_of us)) c.marks.updates in omega arith);
      olds = refl;
    }) inv.counts) grace
      where
        even_now : IsEven (m' (Life s))
        even_now = let a = here in let o = odd in omega arith

        same_role : (t : ℕ) → times t (slots_of w) ≡ times t (slots_of v)
            → flag (m' (State t) == 0) + times t (slots_of w) ≡ flag (m (State t) == 0) + times t (slots_of v)
        same_role t e = omega arith

    -- the slot in hand and the spare stay known where they are the same
    hand_stays : (held : Held) → v.hands.hand ≡ Some held → IsHandKnown m' held
    hand_stays held q = hand_away step held (λ e. (let b = one_role.not_held in let x = held_there v.hands.hand held q in
        let y = ap (λ o. times o (held_list v.hands.hand)) e in omega arith)) ((inv.slots.hands id v there).hand held q)

    spare_stays : (held : Held) → v.hands.spare ≡ Some held → IsHeldKnown m' held
    spare_stays held q = held_away step held
        (λ e. (let b = one_role.not_spare in let c = spare_among v held q in let d = ap (λ x. times x (spares_of v)) e in omega arith))
        ((inv.slots.hands id v there).spare held q)

  -- The slot is given anew: it is none of the retired ones any more, and its life is known.

  abbrev left_retired : List Retired
  left_retired = without_retired z.r.slot z.who.v.hands.retired

  abbrev held : Held
  held = renewed z.r.slot z.number

  held_known : IsHeldKnown m' held
  held_known field f known = ⊎_elim
      (λ (t : (Life s ≡ field) × (number ≡ f)). (
        subst (IsOwnField s) t.0 refl,
        subst (λ y. m' y ≡ f) t.0 (stored_here m (Life s) number ∙ t.1),
      ))
      (λ (t : None ≡ Some f). absurd (cc)) (known_more [] (Life s) field number f true known)

  still_unraised : (t : ℕ) → t ≢ s → IsUnraised v t → IsUnraisedOf left_retired t
  still_unraised t ne i = record {
    retired = i.retired;
    has = without_in s v.hands.retired i.retired i.has (λ e. ne (sym i.slot ∙ e));
    slot = i.slot;
    unraised = i.unraised;
  }

  -- so many slots fewer have a generation that isn't raised
  one_fewer : unraised_among v.hands.retired ≡ unraised_among left_retired + 1
  one_fewer = without_unraised s v.hands.retired z.r mine refl z.needs.unraised (let a = one_role.retired in omega arith)

  clear : (a : ℕ) → last_unlinked s h ≡ Some a → IsClear vs a 0 greatest_key
  clear a last =
      let q : Some z.r.unlinked ≡ Some a = sym (last_gone s h z.r.unlinked is.unlinked) ∙ last in
      let same : z.r.unlinked ≡ a = cc in
      subst (λ x. IsClear vs x 0 greatest_key) same ((inv.grace.retired id v there mine.0 z.r mine.1).clear z.needs.waited)

  abbrev given_as : ℕ → Option Held → Option Held → Raised
  given_as tickets hand spare = record {
    tickets = tickets;
    hand = hand;
    spare = spare;
    retired = without_retired z.r.slot z.who.v.hands.retired;
    seen = z.who.h ++ Given z.r.slot ∷ [];
    hs = z.who.h ++ Given z.r.slot ∷ [];
    marks = used_marks true z.r.slot z.who.h;
    unraised = still_unraised;
  }

  module _ (tickets : ℕ) (hand spare : Option Held) where
    -- what is left to say of it: the slot is in hand or the spare, and who is without a spare has a slot that becomes it
    record GivenSlots : Type 0 where
      pub same : (t : ℕ) → times t (held_list hand) + times t (held_list spare)
          ≡ times t (held_list v.hands.hand) + times t (held_list v.hands.spare) + times t (s ∷ [])
      pub one : v.hands.reserved ≡ true → hand ≡ None
      pub has_spare : spare ≢ None
      pub hand_known : (x : Held) → hand ≡ Some x → IsHandKnown m' x
      pub spare_known : (x : Held) → spare ≡ Some x → IsHeldKnown m' x
      pub spares : (t : ℕ) → t ≢ s → times t (held_list spare) ≡ times t (held_list v.hands.spare)
      pub paid : tickets ≤ v.allowance.tickets
      pub fewer : unraised_hand hand + tickets ≤ unraised_hand v.hands.hand + v.allowance.tickets

    -- the mark says that it is given
    given_law : GivenSlots → let to = given_as tickets hand spare in IsKept k m h m' (set vs id (w to)) (h ++ Given s ∷ [])
    given_law d = let to = given_as tickets hand spare in record {
      invariant = raised_law to (record {
        same = λ t.
            (let a = slots_count (w to) t in
            let b = slots_count v t in
            let c = retired_count (w to) t in
            let f = retired_count v t in
            let i = spares_count (w to) t in
            let j = spares_count v t in
            let one = d.same t in
            ⊎_elim
            (λ (e : t ≡ s).
            (let x = in_one t s e in
            let y = ap (λ o. times o (slots_in left_retired)) e ∙ without_none s v.hands.retired in
            let o = ap (λ x. times x (slots_in v.hands.retired)) e ∙ one_role.retired in
            omega arith))
            (λ ne. (let x = not_one t s ne in let y = without_else s t ne v.hands.retired in omega arith))
            (cases_eq t s));
        few = (let i = inv.slots.few id v there in let l = without_length s v.hands.retired in let a = i.few in
            record {
              one = d.one;
              few = omega arith;
              room = λ move q. (let b = i.room move q in omega arith);
              joined = i.joined;
              next_spare = λ _ none. absurd (d.has_spare none);
            });
        hand = d.hand_known;
        spare = d.spare_known;
        spares = λ t ne has. (let a = spares_count (w to) t in let b = spares_count v t in let x = d.spares t ne in omega arith);
        retired = λ j y e. (let x = in_without s v.hands.retired y (j, e) in
            let all = in_first v.hands.retired (joined_retired v.allowance.joined) y x.0 in
            retired_away (step to) y x.1 (inv.slots.retired id v there all.0 y all.1));
        kept = λ t p y gone has at. (y, without_in s v.hands.retired y has (λ e. (used_back true s h t p gone).0 (sym at ∙ e)), at);
        paid = d.paid;
        fewer = (let a = one_fewer in let b = d.fewer in omega arith);
      }) (outer_marked k m m' vs h id v (w to) inv there works stores.beside (same_outside to) (Given s) tt tt refl)
          (grace_used k m vs h id v (w to) inv there (same_outside to)
          (λ y has. (y, (in_without s v.hands.retired y has).0, refl, refl)) true s clear);
      past = raised_past;
    }

  -- the slot becomes the spare
  pub becomes_spare : v.hands.spare ≡ None → IsKept k m h m' (set vs id (after_raise_to_spare v s number h)) (h ++ Given s ∷ [])
  becomes_spare lacks = given_law v.allowance.tickets v.hands.hand (Some held) (record {
    same = λ t. (let none : times t (held_list v.hands.spare) ≡ 0 = ap (λ o. times t (held_list o)) lacks in omega arith);
    one = (inv.slots.few id v there).one;
    has_spare = λ none. (let q : Some held ≡ None = none in cc);
    hand_known = hand_stays (given_as v.allowance.tickets v.hands.hand (Some held));
    spare_known = λ x e. subst (IsHeldKnown m') (let q : held ≡ x = cc in q) held_known;
    spares = λ t ne. (let none : times t (held_list v.hands.spare) ≡ 0 = ap (λ o. times t (held_list o)) lacks in
        let x = not_one t s ne in omega arith);
    paid = omega arith;
    fewer = omega arith;
  })

  -- the slot comes into the hand
  pub comes_to_hand : NeedsRaiseToHand v z.at z.r s number → IsKept k m h m' (set vs id (after_raise_to_hand v s number h)) (h ++ Given s ∷ [])
  comes_to_hand needs =
      let empty = needs.empty in
      given_law (v.allowance.tickets - 1) (Some held) v.hands.spare (record {
        same = λ t. (let none : times t (held_list v.hands.hand) ≡ 0 = ap (λ o. times t (held_list o)) empty in omega arith);
        one = λ reserved. (let q : true ≡ false = sym reserved ∙ needs.unreserved in absurd (cc));
        has_spare = needs.spare;
        hand_known = λ x e. subst (IsHandKnown m') (let q : held ≡ x = cc in q)
            (record { known = held_known; even = (let a = here in let o = odd in omega arith) });
        spare_known = spare_stays (given_as (v.allowance.tickets - 1) (Some held) v.hands.spare);
        spares = λ t ne. refl;
        paid = omega arith;
        fewer = (let none : unraised_hand v.hands.hand ≡ 0 = ap unraised_hand empty in let ticket = needs.ticket in omega arith);
      })

  abbrev to_raised : Raised
  to_raised = record {
    tickets = z.who.v.allowance.tickets;
    hand = z.who.v.hands.hand;
    spare = z.who.v.hands.spare;
    retired = change_retired z.r.slot raise z.who.v.hands.retired;
    seen = z.who.v.seen;
    hs = z.who.h;
    marks = no_marks z.r.slot z.who.h;
    unraised = λ t ne i.
        (let c = change_in s v.hands.retired i.retired i.has in
        let same : c.0 ≡ i.retired = c.3 (λ e. ne (sym i.slot ∙ e)) in
        record { retired = c.0; has = c.1; slot = c.2 ∙ i.slot; unraised = ap (λ (x : Retired). x.raised) same ∙ i.unraised });
  }

  -- the slot stays retired: no mark is left
  pub stays_retired : (v.hands.spare ≡ None → ⊥) → IsKept k m h m' (set vs id (after_raise_retired v s)) (h ++ [])
  stays_retired some_spare = no_mark k m m' h (set vs id (w to_raised)) (record {
    invariant = raised_law to_raised (record {
      same = λ t. (let a = slots_count (w to_raised) t in let b = slots_count v t in let c = retired_count (w to_raised) t in
          let d = retired_count v t in let e = ap (times t) (change_slots s v.hands.retired) in let f = spares_count (w to_raised) t in
          let q = spares_count v t in omega arith);
      few = (let i = inv.slots.few id v there in let l = change_length s v.hands.retired in let a = i.few in
          record {
            one = i.one;
            few = omega arith;
            room = λ move q. (let b = i.room move q in omega arith);
            joined = i.joined;
            next_spare = λ _ none. absurd (some_spare none);
          });
      hand = hand_stays to_raised;
      spare = spare_stays to_raised;
      spares = λ t ne has. has;
      retired = changed_is;
      kept = λ t p y gone has at. (let c = change_in s v.hands.retired y has in (c.0, c.1, c.2 ∙ at));
      paid = omega arith;
      fewer = (let a = change_unraised s v.hands.retired z.r mine refl z.needs.unraised (let a = one_role.retired in omega arith) in
          omega arith);
    }) (outer_same k m m' vs h id v (w to_raised) inv there works stores.beside (same_outside to_raised) refl)
        (grace_same k m vs h id v (w to_raised) inv there (same_outside to_raised)
        (λ y has. (let x = in_change s v.hands.retired y has in let q = was_same x.0 y x.2 in (x.0, x.1, q.0, q.1))));
    past = raised_past;
  })
    where
      was_same : (x y : Retired) → ((x.slot ≡ s) × (raise x ≡ y)) ⊎ ((x.slot ≢ s) × (x ≡ y))
          → (y.unlinked ≡ x.unlinked) × (y.waited ≡ x.waited)
      was_same x y which = ⊎_elim (λ (t : (x.slot ≡ s) × (raise x ≡ y)). (
        ap (λ (o : Retired). o.unlinked) (sym t.1),
        ap (λ (o : Retired). o.waited) (sym t.1),
      ))
          (λ (t : (x.slot ≢ s) × (x ≡ y)). (ap (λ (o : Retired). o.unlinked) (sym t.1), ap (λ (o : Retired). o.waited) (sym t.1))) which

      changed_is : Each (change_retired s raise v.hands.retired) (IsRetired m' h)
      changed_is j y e =
          let x = in_change s v.hands.retired y (j, e) in
          let all = in_first v.hands.retired (joined_retired v.allowance.joined) x.0 x.1 in
          let i = inv.slots.retired id v there all.0 x.0 all.1 in
          ⊎_elim
          (λ (t : (x.0.slot ≡ s) × (raise x.0 ≡ y)). subst (IsRetired m' h) t.1 (record {
            unlinked = i.unlinked;
            some_slot = i.some_slot;
            marked = λ f. absurd (cc);
            life = λ number f q. absurd (cc);
            stays = λ field number f c q. absurd (cc);
            unmarked = λ f. subst (λ o. IsEven (m' (Life o))) (sym t.0) (let a = here in let o = odd in omega arith);
            after_wait = λ f. (let one : x.0 ≡ z.r = one_in s v.hands.retired x.0 z.r
                (let a = one_role.retired in omega arith) x.1 mine t.0 refl in ap (λ (o : Retired). o.waited) one ∙ z.needs.waited);
          }))
          (λ (t : (x.0.slot ≢ s) × (x.0 ≡ y)). subst (IsRetired m' h) t.1 (retired_away (step to_raised) x.0 t.0 i))
          x.2

-- A slot is seized, filled, raised or given back: the laws of K11, K12 and K15.

module _ (k : Shape) (m : Memory) (vs : List View) (h : List Mark) (id : ℕ) (v : View) (i : HoldsNow k m vs h)
    (there : get_elem? vs id ≡ some v) (works : Works v) where
  -- an exchange of a state, by its test
  exchanged : (slot : ℕ) (free : Bool) → slot < slot_count k → NeedsSeize v slot → (m (State slot) == 0) ≡ free
      → IsKept k m h (stored m (State slot) (cond free 1 (m (State slot))))
      (set vs id (cond free (record v {
        hands = record v.hands { reserved = false; hand = Some (seized slot) };
        seen = h ++ Given slot ∷ [];
      }) v)) (h ++ cond free (Given slot ∷ []) [])
  exchanged slot true small needs free = seizes k m vs h id v i there works slot small needs.reserved (eqb-true (m (State slot)) 0 free)
  exchanged slot false small needs free = no_mark k m (stored m (State slot) (m (State slot))) h (set vs id v)
      (only_loaded k m h (State slot) (set vs id v) h (subst (λ us. HoldsNow k m us h) (sym (set_again vs id v there)) i))

module _ (z : Stepper) where
  open z use {k, m, vs, h, id, v, inv, there, works}

  pub keeps_seize : (slot : ℕ) → slot < slot_count k → NeedsSeize v slot → let n = m (State slot) in
      StepKeeps z (State slot) (cond (n == 0) 1 n) (after_seize v slot n h) (cond (n == 0) (Given slot ∷ []) [])
  keeps_seize slot small needs = exchanged k m vs h id v inv there works slot (m (State slot) == 0) small needs refl

  pub keeps_fill : (held : Held) (slot : ℕ) (field : Field) (number : ℕ) → NeedsFill v held slot field
      → StepKeeps z field number (after_fill v slot field number) []
  keeps_fill held slot field number needs =
      let holder : ((v.hands.hand ≡ Some held) ⊎ (v.hands.spare ≡ Some held)) × (held.slot ≡ slot) =
      ⊎_elim (λ (a : IsInHand v held slot). (inl a.0, a.1)) (λ (a : IsSpare v held slot). (inr a.0, a.1)) needs.holder in
      subst (λ x. StepKeeps z field number (after_fill v x field number) []) holder.1
      (content_filled k m vs h id v inv there works held field number holder.0
      (subst (λ x. IsContent x field) (sym holder.1) needs.content))

  pub keeps_raise_in_hand : (held : Held) (slot number : ℕ) → NeedsRaiseInHand v held slot number
      → StepKeeps z (Life slot) number (after_raise_in_hand v slot number) []
  keeps_raise_in_hand held slot number needs =
      subst (λ x. NeedsRaiseInHand v held x number → StepKeeps z (Life x) number (after_raise_in_hand v x number) []) needs.in_hand.1
      (λ same. life_filled k m vs h id v inv there works held number same) needs

  -- the life of a retired slot is raised
  abbrev raising : (at : ℕ) (r : Retired) (number : ℕ) → NeedsRaiseRetired v at r r.slot number → RaiseStep
  raising at r number needs = record { who = z; at = at; r = r; number = number; needs = needs }

  pub keeps_raise_to_spare : (at : ℕ) (r : Retired) (slot number : ℕ) → NeedsRaiseRetired v at r slot number
      → v.hands.spare ≡ None → StepKeeps z (Life slot) number (after_raise_to_spare v slot number h) (Given slot ∷ [])
  keeps_raise_to_spare at r slot number needs lacks =
      subst (λ x. NeedsRaiseRetired v at r x number
      → StepKeeps z (Life x) number (after_raise_to_spare v x number h) (Given x ∷ [])) needs.retired.1
      (λ same. becomes_spare (raising at r number same) lacks) needs

  pub keeps_raise_to_hand : (at : ℕ) (r : Retired) (slot number : ℕ) → NeedsRaiseToHand v at r slot number
      → StepKeeps z (Life slot) number (after_raise_to_hand v slot number h) (Given slot ∷ [])
  keeps_raise_to_hand at r slot number needs =
      subst (λ x. NeedsRaiseToHand v at r x number
      → StepKeeps z (Life x) number (after_raise_to_hand v x number h) (Given x ∷ [])) needs.raises.retired.1
      (λ same. comes_to_hand (raising at r number same.raises) same) needs

  pub keeps_raise_retired : (at : ℕ) (r : Retired) (slot number : ℕ) → NeedsRaiseRetired v at r slot number
      → v.hands.spare ≢ None → StepKeeps z (Life slot) number (after_raise_retired v slot) []
  keeps_raise_retired at r slot number needs spare =
      subst (λ x. NeedsRaiseRetired v at r x number → StepKeeps z (Life x) number (after_raise_retired v x) []) needs.retired.1
      (λ same. stays_retired (raising at r number same) spare) needs

  pub keeps_free_in_hand : (held : Held) (slot : ℕ) → slot < slot_count k → NeedsFreeInHand v held slot
      → StepKeeps z (State slot) 0 (after_free_in_hand v slot h) (Freed slot ∷ [])
  keeps_free_in_hand held slot small needs = frees_hand k m vs h id v inv there works slot small held needs

  pub keeps_free_retired : (at : ℕ) (r : Retired) (slot : ℕ) → slot < slot_count k → NeedsFreeRetired v at r slot
      → StepKeeps z (State slot) 0 (after_free_retired v slot h) (Freed slot ∷ [])
  keeps_free_retired at r slot small needs = frees_retired k m vs h id v inv there works slot small at r needs

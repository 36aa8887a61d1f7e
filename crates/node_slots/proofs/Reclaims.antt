-- A wait for everybody, after which all that is listed goes back.
use Rattle.std.specs.List.{AllByRecursion}
use Rattle.std.proofs.Common.{◌≡◌, ◌≢◌, ℕ, zero, suc, ◌+◌, ◌-◌, ◌≤◌, ◌&&◌, ◌||◌, not, true, false, Bool, cond, List, [], ◌∷◌, ◌++◌, length, map, Some, None, refl, sym, ap, subst, ◌∙◌, ⊎_elim, arith, eq-eqb, append_assoc}
use Rattle.std.proofs.lemmas.Bool.{cases_eq, lt-ltb}
use mathlib.Core.Option.{some}
use lib.ListN.{get_elem?}
use mathlib.Core.List.{IsPrefix}
use Rattle.atomic_table.proofs.Lists.{at_map}
use Rattle.prcu_model.proofs.ListFacts.{prefix_trans}
use Rattle.prcu_marks.specs.declared.mark.Mark.{Mark}
use Rattle.prcu_marks.specs.declared.mark.Mark.TheVariants.{Began, Ended}
use Rattle.prcu_marks.specs.Marks.{own_of}
use Rattle.core_frames.proofs.Roles.{slots_in, without_none as retired_none, without_else as retired_else}
use Rattle.core_state.specs.declared.shape.Shape.{Shape}
use Rattle.core_state.specs.declared.view.Retired.{Retired}
use Rattle.core_state.specs.declared.view.Waiting.{Waiting}
use Rattle.core_state.specs.declared.view.View.{View}
use Rattle.core_state.specs.Links.{without_retired}
use Rattle.core_state.specs.Steps.{new_wait, waited_retired, waited_move, is_grace_for}
use Rattle.core_state.specs.Views.{held_list}
use Rattle.list_laws.specs.Counts.{times, IsIn, Each}
use Rattle.list_laws.proofs.Lists.{times_here, times_other}
use Rattle.seat_table.specs.Seats.{unlisted}
use Rattle.seat_table.specs.Sections.{HasBegun}
use Rattle.seat_table.specs.Waits.{HasWaited, HasEnded}
use Rattle.seat_table.proofs.SeveralSteps.{seen_more, own_more}
use Rattle.node_slots.specs.Reclaiming.{IsReady, AreReady, first_slots, without_slots, without_all, return_marks, first_spare, GivesBack, HasReclaimed}
use Rattle.node_slots.proofs.Takes.{each_begins, each_own, returned_nobodys}
use Rattle.seat_table.proofs.Seats.{unlisted_none, unlisted_else}
use Rattle.node_slots.proofs.Returns.{unlisted_length}

-- All that is listed.
pub all_gone : (n : ℕ) (xs : List ℕ) → length xs ≤ n → without_slots (first_slots n xs) xs ≡ []
all_gone zero [] few = refl
all_gone zero (x ∷ xs) few = absurd (omega arith)
all_gone (suc n) [] few = refl
all_gone (suc n) (x ∷ xs) few =
    let here : unlisted x (x ∷ xs) ≡ unlisted x xs = ap (λ b. cond (not b) (x ∷ unlisted x xs) (unlisted x xs)) (eq-eqb x x refl) in
    let less = unlisted_length x xs in
    ap (without_slots (first_slots n (unlisted x xs))) here ∙ all_gone n (unlisted x xs) (omega arith)

-- the slots that are listed are the retired ones, also where some went back
same_one : (xs : List ℕ) (rs : List Retired) (s : ℕ) → ((t : ℕ) → times t xs ≡ times t (slots_in rs)) → (t : ℕ)
    → times t (unlisted s xs) ≡ times t (slots_in (without_retired s rs))
same_one xs rs s same t = ⊎_elim
    (λ (e : t ≡ s). subst (λ y. times y (unlisted s xs) ≡ times y (slots_in (without_retired s rs))) (sym e)
    (unlisted_none s xs ∙ sym (retired_none s rs)))
    (λ (ne : t ≢ s). unlisted_else s t xs ne ∙ same t ∙ sym (retired_else s t ne rs))
    (cases_eq t s)

pub same_all : (slots xs : List ℕ) (rs : List Retired) → ((t : ℕ) → times t xs ≡ times t (slots_in rs)) → (t : ℕ)
    → times t (without_slots slots xs) ≡ times t (slots_in (without_all slots rs))
same_all [] xs rs same = same
same_all (s ∷ slots) xs rs same = same_all slots (unlisted s xs) (without_retired s rs) (same_one xs rs s same)

none_left : (rs : List Retired) → ((t : ℕ) → times t [] ≡ times t (slots_in rs)) → rs ≡ []
none_left [] same = refl
none_left (r ∷ rs) same = absurd (let a = same r.slot in let b = times_here r.slot (slots_in rs) in omega arith)

-- a slot that stands among the retired ones is one of them
pub retired_at : (s : ℕ) (rs : List Retired) → 1 ≤ times s (slots_in rs) → (r : Retired) × IsIn rs r × (r.slot ≡ s)
retired_at s [] least = absurd (omega arith)
retired_at s (r ∷ rs) least = ⊎_elim
    (λ (e : r.slot ≡ s). (r, (0, refl), e))
    (λ (ne : r.slot ≢ s). let more = retired_at s rs (let a = times_other s r.slot (slots_in rs) ne in omega arith) in
    (more.0, (suc more.1.0, more.1.1), more.2))
    (cases_eq r.slot s)

first_among : (n : ℕ) (xs : List ℕ) (P : ℕ → Type 0) → ((s : ℕ) → 1 ≤ times s xs → P s) → AllByRecursion P (first_slots n xs)
first_among zero xs P each = tt
first_among (suc n) [] P each = tt
first_among (suc n) (x ∷ xs) P each = (
  each x (let a = times_here x xs in omega arith),
  first_among n (unlisted x xs) P (λ s least. each s (⊎_elim
      (λ (e : s ≡ x). absurd (let a = unlisted_none x xs in
      let b : 1 ≤ times x (unlisted x xs) = subst (λ y. 1 ≤ times y (unlisted x xs)) e least in omega arith))
      (λ (ne : s ≢ x). let a = unlisted_else x s xs ne in let b = times_other s x xs (λ f. ne (sym f)) in omega arith)
      (cases_eq s x))),
)

spare_first : (spare : List ℕ) (n : ℕ) (xs : List ℕ) → length xs ≤ n → first_spare spare (first_slots n xs) ≡ first_spare spare xs
spare_first [] zero (x ∷ xs) few = absurd (omega arith)
spare_first [] (suc n) (x ∷ xs) few = refl
spare_first spare n xs few = refl

-- The wait.
module _ (k : Shape) (v w : View) (waits : HasWaited k v 0 18446744073709551615 w) (settled : v.moving ≡ None) where
  abbrev mid : View
  mid = waits.0

  abbrev wait : Waiting
  wait = (waits.2).wait

  begun : HasBegun v 0 18446744073709551615 mid
  begun = waits.1

  ended : HasEnded mid wait (waits.2).steps (waits.2).new w
  ended = (waits.2).ended

  wait_is : wait ≡ new_wait v 0 18446744073709551615 begun.clock begun.leaves.before
  wait_is = let one : Some wait ≡ Some (new_wait v 0 18446744073709551615 begun.clock begun.leaves.before) =
      sym (waits.2).was ∙ begun.wait_is in cc

  abbrev after_begin : View → View
  after_begin z = record z {
    allowance = record z.allowance { tickets = z.allowance.tickets - 1 };
    wait = mid.wait;
    counts = record z.counts { waits = z.counts.waits + 1 };
    trail = mid.trail;
    seen = mid.seen;
  }

  abbrev after_end : View → View
  after_end z = record z {
    enter = w.enter;
    hands = record z.hands { retired = map (waited_retired wait) z.hands.retired };
    moving = waited_move wait z.moving;
    wait = w.wait;
    counts = record z.counts { turns = w.counts.turns };
    trail = w.trail;
    seen = w.seen;
  }

  pub waited_is : w ≡ record v {
    allowance = record v.allowance { tickets = v.allowance.tickets - 1 };
    enter = w.enter;
    hands = record v.hands { retired = map (waited_retired wait) v.hands.retired };
    wait = w.wait;
    counts = record v.counts { waits = v.counts.waits + 1; turns = w.counts.turns };
    trail = w.trail;
    seen = w.seen;
  }
  waited_is =
      let moving : waited_move wait v.moving ≡ v.moving = ap (waited_move wait) settled ∙ sym settled in
      ended.others ∙ ap after_end begun.others ∙ (λ i. record v {
        allowance = record v.allowance { tickets = v.allowance.tickets - 1 };
        enter = w.enter;
        hands = record v.hands { retired = map (waited_retired wait) v.hands.retired };
        moving = moving i;
        wait = w.wait;
        counts = record v.counts { waits = v.counts.waits + 1; turns = w.counts.turns };
        trail = w.trail;
        seen = w.seen;
      })

  pub waited_begins : IsPrefix v.seen w.seen
  waited_begins = prefix_trans v.seen mid.seen w.seen (seen_more v mid _ begun.leaves) (seen_more mid w _ ended.leaves)

  pub waited_own : own_of v.allowance.place w.seen ≡ own_of v.allowance.place v.seen
      ++ Began v.allowance.place v.counts.waits 0 18446744073709551615 ∷ Ended v.allowance.place v.counts.waits ∷ []
  waited_own =
      let p : ℕ = v.allowance.place in
      let place : mid.allowance.place ≡ p = ap (λ (z : View). z.allowance.place) begun.others in
      let count : wait.count ≡ v.counts.waits = ap (λ (z : Waiting). z.count) wait_is in
      let a = own_more v mid _ (eq-eqb p p refl) begun.leaves in
      let b = own_more mid w _ (eq-eqb mid.allowance.place mid.allowance.place refl) ended.leaves in
      let c : own_of p w.seen ≡ own_of p mid.seen ++ Ended p v.counts.waits ∷ [] =
      subst (λ (z : ℕ × ℕ). own_of z.0 w.seen ≡ own_of z.0 mid.seen ++ Ended z.0 z.1 ∷ []) (λ i. (place i, count i)) b in
      c ∙ ap (λ l. l ++ Ended p v.counts.waits ∷ []) a
      ∙ append_assoc (own_of p v.seen) (Began p v.counts.waits 0 18446744073709551615 ∷ []) (Ended p v.counts.waits ∷ [])

  -- each retired slot was waited for
  outlasted : (i : ℕ) (r : Retired) → get_elem? v.hands.retired i ≡ some r → (waited_retired wait r).waited ≡ true
  outlasted i r there =
      let h : List Mark = begun.leaves.before in
      let grace : is_grace_for wait r.unlinked ≡ true =
      ap (λ (z : Waiting). is_grace_for z r.unlinked) wait_is
      ∙ ap (λ b. b && true) (lt-ltb r.unlinked (length h) (begun.older i r there)) in
      ap (λ b. r.waited || b) grace ∙ or_true r.waited
    where
      or_true : (b : Bool) → (b || true) ≡ true
      or_true true = refl
      or_true false = refl

  module _ (listed : List ℕ) (same : (t : ℕ) → times t listed ≡ times t (slots_in v.hands.retired))
      (unraised : Each v.hands.retired (λ (r : Retired). r.raised ≡ false)) where
    abbrev retired_then : List Retired
    retired_then = map (waited_retired wait) v.hands.retired

    retired_is : w.hands.retired ≡ retired_then
    retired_is = ap (λ (z : View). z.hands.retired) waited_is

    ready_one : (s : ℕ) → 1 ≤ times s listed → IsReady w s
    ready_one s some_there =
        let there = retired_at s v.hands.retired (let e = same s in omega arith) in
        let r : Retired = there.0 in
        let i : ℕ = (there.1).0 in
        let here : get_elem? w.hands.retired i ≡ some (waited_retired wait r) =
        ap (λ rs. get_elem? rs i) retired_is ∙ at_map (waited_retired wait) v.hands.retired i r (there.1).1 in
        record {
          i = i;
          r = waited_retired wait r;
          at = (here, there.2);
          unraised = unraised i r (there.1).1;
          waited = outlasted i r (there.1).1;
        }

    pub ready_all : (n : ℕ) → AreReady w (first_slots n listed)
    ready_all n = record { each = first_among n listed (IsReady w) ready_one }

    slots_then : (rs : List Retired) → slots_in (map (waited_retired wait) rs) ≡ slots_in rs
    slots_then [] = refl
    slots_then (r ∷ rs) = ap (λ l. r.slot ∷ l) (slots_then rs)

    none_retired : without_all (first_slots (length listed) listed) w.hands.retired ≡ []
    none_retired =
        let slots : List ℕ = first_slots (length listed) listed in
        let start : (t : ℕ) → times t listed ≡ times t (slots_in w.hands.retired) =
        λ t. same t ∙ ap (times t) (sym (slots_then v.hands.retired)) ∙ ap (λ rs. times t (slots_in rs)) (sym retired_is) in
        none_left (without_all slots w.hands.retired)
        (λ t. ap (times t) (sym (all_gone (length listed) listed (omega arith))) ∙ same_all slots listed w.hands.retired start t)

    pub reclaims : (u : View) → GivesBack w (first_slots (length listed) listed) u → HasReclaimed k v listed u
    reclaims u gives =
        let slots : List ℕ = first_slots (length listed) listed in
        let spare : w.hands.spare ≡ v.hands.spare = ap (λ (z : View). z.hands.spare) waited_is in
        let back : View → View = λ z. record z {
          hands = record z.hands { spare = u.hands.spare; retired = [] };
          latest = record z.latest { free = u.latest.free };
          trail = u.trail;
          seen = u.seen;
        } in
        let gone : u ≡ back w = gives.rest ∙ (λ i. record w {
          hands = record w.hands { spare = u.hands.spare; retired = none_retired i };
          latest = record w.latest { free = u.latest.free };
          trail = u.trail;
          seen = u.seen;
        }) in
        let enter : u.enter ≡ w.enter = ap (λ (z : View). z.enter) gone in
        let wait_now : u.wait ≡ w.wait = ap (λ (z : View). z.wait) gone in
        let turns : u.counts.turns ≡ w.counts.turns = ap (λ (z : View). z.counts.turns) gone in
        let place : w.allowance.place ≡ v.allowance.place = ap (λ (z : View). z.allowance.place) waited_is in
        let own : own_of v.allowance.place u.seen ≡ own_of v.allowance.place w.seen =
        subst (λ p. own_of p u.seen ≡ own_of p w.seen) place
        (each_own w u (return_marks (held_list w.hands.spare) slots) (returned_nobodys (held_list w.hands.spare) slots) gives.marks) in
        record {
          waited = w;
          waits = waits;
          gives = gives;
          seen = prefix_trans v.seen w.seen u.seen waited_begins
              (each_begins w u (return_marks (held_list w.hands.spare) slots) gives.marks);
          own = own ∙ waited_own;
          spare = gives.spare ∙ ap (λ o. first_spare (held_list o) slots) spare
              ∙ spare_first (held_list v.hands.spare) (length listed) listed (omega arith);
          rest = gone ∙ ap back waited_is ∙ (λ i. record v {
            allowance = record v.allowance { tickets = v.allowance.tickets - 1 };
            enter = sym enter i;
            hands = record v.hands { spare = u.hands.spare; retired = [] };
            wait = sym wait_now i;
            counts = record v.counts { waits = v.counts.waits + 1; turns = sym turns i };
            latest = record v.latest { free = u.latest.free };
            trail = u.trail;
            seen = u.seen;
          });
        }

-- K1: a seat is split in two.
use Rattle.std.proofs.Common.{◌≡◌, ◌≢◌, ℕ, zero, suc, ◌+◌, ◌-◌, ◌<◌, ◌≤◌, ◌⊎◌, ◌==◌, true, false, cond, List, [], ◌∷◌, ◌++◌, length, map, set, Some, None, refl, sym, ap, subst, ◌∙◌, ⊎_elim, inl, inr, arith, Bool}
use mathlib.Core.Logic.{dite}
use mathlib.Core.Option.{some, some-ne-none}
use native.Mathlib.Decide.{ℕ_discrete}
use lib.ListN.{get_elem?}
use Rattle.atomic_table.proofs.Lists.{at_set, at_longer, set_else}
use Rattle.prcu_marks.specs.declared.mark.Mark.{Mark}
use Rattle.prcu_marks.specs.declared.mark.Mark.TheVariants.{Entered, Began}
use Rattle.prcu_marks.specs.Marks.{own_of, entered_at, is_of}
use Rattle.core_state.specs.Parts.{HasSeenAll, IsOwned, IsCounted, inside_count, HasFewSlots, IsRetiredOf, AreHandsKnown, turns_to_come}
use Rattle.core_state.specs.declared.shape.Shape.{Shape}
use Rattle.core_state.specs.declared.view.Held.{Held}
use Rattle.core_state.specs.declared.view.Spent.{Spent}
use Rattle.core_state.specs.declared.view.View.{View}
use Rattle.list_laws.specs.Counts.{times, numbers_from, total}
use Rattle.core_state.specs.Memory.{flag, has, Memory}
use Rattle.core_state.specs.Views.{known_in, Works, places_of, held_list, joined_spares, spares_of, slots_of, unraised_of, emptied_among}
use Rattle.core_state.specs.Marks.{begun_at}
use Rattle.core_state.specs.Steps.{unknown_slot, NeedsSplit, first_of, second_of}
use Rattle.core_state.specs.Invariant.{HoldsNow}
use Rattle.list_laws.proofs.Lists.{at_end, at_one, total_set, total_append, times_append, somewhere_still, somewhere_longer}
use Rattle.core_laws.proofs.Regroup.{IsIdle, SameSums, Regroups, idle_quiet, regroup_law}
use Rattle.core_laws.specs.Whole.{SplitKeeps}
use Rattle.core_frames.proofs.Roles.{slots_count}
use Rattle.core_frames.proofs.PlaceFrames.{retired_of_by}

-- a row of numbers in two parts
pub row_split : (x first n m : ℕ) → times x (numbers_from first (n + m))
    ≡ times x (numbers_from first n) + times x (numbers_from (first + n) m)
row_split x first zero m =
    let e : 0 + m ≡ m = omega arith in
    let f : first + 0 ≡ first = omega arith in
    let a = ap (λ z. times x (numbers_from first z)) e in
    let b = ap (λ z. times x (numbers_from z m)) f in
    omega arith
row_split x first (suc n) m =
    let e : suc n + m ≡ suc (n + m) = omega arith in
    let f : first + suc n ≡ first + 1 + n = omega arith in
    let a = ap (λ z. times x (numbers_from first z)) e in
    let b = ap (λ z. times x (numbers_from z m)) f in
    let r = row_split x (first + 1) n m in
    omega arith

pub spares_count : (u : View) (s : ℕ) → times s (spares_of u)
    ≡ times s (held_list u.hands.spare) + (times s (numbers_from (u.allowance.place + 2) (u.allowance.places - 1))
    + times s (joined_spares u.allowance.joined))
spares_count u s =
    let a = times_append s (held_list u.hands.spare)
    (numbers_from (u.allowance.place + 2) (u.allowance.places - 1) ++ joined_spares u.allowance.joined) in
    let b = times_append s (numbers_from (u.allowance.place + 2) (u.allowance.places - 1)) (joined_spares u.allowance.joined) in
    omega arith

pub places_count : (u : View) (p : ℕ) → times p (places_of u)
    ≡ times p (numbers_from u.allowance.place u.allowance.places) + times p (map (λ (s : Spent). s.place) u.allowance.joined)
places_count u p = times_append p (numbers_from u.allowance.place u.allowance.places) (map (λ (s : Spent). s.place) u.allowance.joined)

none_later : (b : Bool) (m : Mark) (ms : List Mark) → cond b (m ∷ ms) ms ≡ [] → ms ≡ []
none_later true m ms none = absurd (cc)
none_later false m ms none = none

-- a place that left no marks entered no section and began no wait
no_marks : (p : ℕ) (h : List Mark) → own_of p h ≡ [] → (entered_at p h ≡ 0) × (begun_at p h ≡ 0)
no_marks p [] none = (refl, refl)
no_marks p (Entered q c x ∷ h) none =
    elim (q == p) as (λ b. cond b (Entered q c x ∷ own_of p h) (own_of p h) ≡ [] → (cond b 1 0 + entered_at p h ≡ 0) × (begun_at p h ≡ 0)) [
      | true ↦ λ e. absurd (cc)
      | false ↦ λ e. let r = no_marks p h e in let a = r.0 in (omega arith, r.1)
    ] none
no_marks p (Began q c x y ∷ h) none =
    elim (q == p) as (λ b. cond b (Began q c x y ∷ own_of p h) (own_of p h) ≡ [] → (entered_at p h ≡ 0) × (cond b 1 0 + begun_at p h ≡ 0)) [
      | true ↦ λ e. absurd (cc)
      | false ↦ λ e. let r = no_marks p h e in let a = r.1 in (r.0, omega arith)
    ] none
no_marks p (m ∷ h) none = no_marks p h (none_later (is_of p m) m (own_of p h) none)

module _ (k : Shape) (m : Memory) (vs : List View) (h : List Mark) (i : HoldsNow k m vs h) (id : ℕ) (v : View)
    (there : get_elem? vs id ≡ some v) (n t : ℕ) (needs : NeedsSplit v n t) where
  abbrev first : View
  first = first_of n t v

  abbrev second : View
  second = second_of n t v

  abbrev us : List View
  us = set vs id first ++ second ∷ []

  view_here : (j : ℕ) (u : View) → j ≡ id → get_elem? vs j ≡ some u → v ≡ u
  view_here j u here e = at_one vs id v u there (subst (λ x. get_elem? vs x ≡ some u) here e)

  back : (j : ℕ) (u : View) → get_elem? us j ≡ some u → (get_elem? vs j ≡ some u) ⊎ ((u ≡ first) ⊎ (u ≡ second))
  back j u e =
      ⊎_elim
      (λ (o : get_elem? (set vs id first) j ≡ some u). ⊎_elim (λ (x : (j ≡ id) × (first ≡ u)). inr (inl (sym x.1)))
      (λ (x : (j ≢ id) × (get_elem? vs j ≡ some u)). inl x.1) (at_set vs id j first u o))
      (λ (x : (j ≡ length (set vs id first)) × (second ≡ u)). inr (inr (sym x.1)))
      (at_end (set vs id first) second u j e)

  forth : (j : ℕ) (u : View) → get_elem? vs j ≡ some u → (get_elem? us j ≡ some u) ⊎ IsIdle u
  forth j u e = dite (ℕ_discrete j id) (λ here. inr (subst IsIdle (view_here j u here e) (idle_quiet v needs.quiet)))
      (λ ne. inl (at_longer (set vs id first) (second ∷ []) j u (set_else vs id j first ne ∙ e)))

  sum : (f : View → ℕ) → total f us + f v ≡ total f vs + (f first + f second)
  sum f =
      let a = total_append f (set vs id first) (second ∷ []) in
      let b = total_set f vs id v first there in
      omega arith

  places_two : (p : ℕ) → times p (places_of v) ≡ times p (places_of first) + times p (places_of second)
  places_two p =
      let few = needs.few in
      let e : v.allowance.places ≡ (v.allowance.places - n) + n = omega arith in
      let f : v.allowance.place + (v.allowance.places - n) ≡ v.allowance.place + v.allowance.places - n = omega arith in
      let g = ap (λ z. times p (numbers_from v.allowance.place z)) e in
      let c = row_split p v.allowance.place (v.allowance.places - n) n in
      let d = ap (λ z. times p (numbers_from z n)) f in
      let a = places_count v p in
      let b = places_count first p in
      let x = places_count second p in
      omega arith

  spares_two : (s : ℕ) → times s (spares_of v) ≡ times s (spares_of first) + times s (spares_of second)
  spares_two s =
      let few = needs.few in
      let some = needs.some in
      let e : v.allowance.places - 1 ≡ (v.allowance.places - n - 1) + n = omega arith in
      let f : v.allowance.place + 2 + (v.allowance.places - n - 1) ≡ v.allowance.place + v.allowance.places - n + 1 = omega arith in
      let one : n ≡ 1 + (n - 1) = omega arith in
      let next : v.allowance.place + v.allowance.places - n + 1 + 1 ≡ v.allowance.place + v.allowance.places - n + 2 = omega arith in
      let g = ap (λ z. times s (numbers_from (v.allowance.place + 2) z)) e in
      let c = row_split s (v.allowance.place + 2) (v.allowance.places - n - 1) n in
      let d = ap (λ z. times s (numbers_from z n)) f in
      let y = ap (λ z. times s (numbers_from (v.allowance.place + v.allowance.places - n + 1) z)) one in
      let w = row_split s (v.allowance.place + v.allowance.places - n + 1) 1 (n - 1) in
      let z = ap (λ z. times s (numbers_from z (n - 1))) next in
      let head : times s (numbers_from (v.allowance.place + v.allowance.places - n + 1) 1) ≡ times s (held_list second.hands.spare) =
      refl in
      let a = spares_count v s in
      let b = spares_count first s in
      let x = spares_count second s in
      omega arith

  sums : SameSums vs us
  sums =
      let q = needs.quiet in
      let paid = needs.paid in
      record {
        places = λ p. (let a = sum (λ (u : View). times p (places_of u)) in let b = places_two p in omega arith);
        slots = λ s. (let a = sum (λ (u : View). times s (slots_of u)) in let b = spares_two s in let c = slots_count v s in
            let d = slots_count first s in let e = slots_count second s in omega arith);
        inside = λ c side. (let a = sum (λ (u : View). inside_count c side u.section) in omega arith);
        tickets = (let a = sum (λ (u : View). u.allowance.tickets) in omega arith);
        reserved = (let a = sum (λ (u : View). flag u.hands.reserved) in omega arith);
        owes = (let a = sum (λ (u : View). flag u.hands.owes) in omega arith);
        unraised = (let a = sum unraised_of in omega arith);
        emptied = (let a = sum (λ (u : View). emptied_among u.locks) in omega arith);
        pending = (let a = sum (λ (u : View). has u.moving) in omega arith);
        turns = (let a = sum (λ (u : View). u.counts.turns + turns_to_come u.wait) in omega arith);
      }

  few_first : HasFewSlots k.room first
  few_first = let f = i.slots.few id v there in record {
    one = f.one;
    few = f.few;
    room = f.room;
    joined = f.joined;
    next_spare = λ works none. f.next_spare (let a = needs.few in omega arith) none;
  }

  few_second : HasFewSlots k.room second
  few_second = record {
    one = λ e. refl;
    few = omega arith;
    room = λ move none. absurd (let q : None ≡ Some move = none in cc);
    joined = λ j a e. absurd (some-ne-none a (sym e));
    next_spare = λ works none. absurd (let q : Some (unknown_slot (second.allowance.place + 1)) ≡ None = none in cc);
  }

  hands_first : AreHandsKnown m first
  hands_first = let g = i.slots.hands id v there in
      record { hand = g.hand; spare = g.spare; copy = g.copy; spares = λ s has. g.spares s (let a = spares_two s in omega arith) }

  hands_second : AreHandsKnown m second
  hands_second = record {
    hand = λ held none. absurd (let q : None ≡ Some held = none in cc);
    spare = λ held is field number known. absurd (let e : unknown_slot (second.allowance.place + 1) ≡ held = cc in
        let q : None ≡ Some number = ap (λ (x : Held). known_in x.known field) e ∙ known in cc);
    copy = λ move none. absurd (let q : None ≡ Some move = none in cc);
    spares = λ s has. (i.slots.hands id v there).spares s (let a = spares_two s in omega arith);
  }

  unlinked : (s : ℕ) → IsRetiredOf vs s → IsRetiredOf us s
  unlinked s r = somewhere_longer (set vs id first) (second ∷ []) (retired_of_by vs id v first there (λ x has. has) s r)

  second_unused : (p : ℕ) → second.allowance.place ≤ p → p < second.allowance.place + n → own_of p h ≡ []
  second_unused p low high = (i.seats.owned id v there).unused p (let few = needs.few in (omega arith, omega arith))

  owned_first : IsOwned h first
  owned_first = let o = i.seats.owned id v there in record {
    met = λ p has. o.met p (let a = places_two p in omega arith);
    unused = λ p x. o.unused p (let low = x.0 in let high = x.1 in (low, omega arith));
    joined = o.joined;
  }

  owned_second : IsOwned h second
  owned_second = let o = i.seats.owned id v there in record {
    met = λ p has. o.met p (let a = places_two p in omega arith);
    unused = λ p x. second_unused p (let low = x.0 in omega arith) x.1;
    joined = λ n meeting at. absurd (some-ne-none meeting (sym at));
  }

  counted_first : Works first → IsCounted h first
  counted_first works = let c = i.seats.counted id v there (let a = needs.few in omega arith) in
      record { sections = c.sections; waits = c.waits }

  counted_second : Works second → IsCounted h second
  counted_second works = let none = no_marks second.allowance.place h (second_unused second.allowance.place (omega arith) (omega arith)) in
      record { sections = sym none.0; waits = sym none.1 }

  longest : HasSeenAll us h
  longest = somewhere_longer (set vs id first) (second ∷ []) (somewhere_still vs id v first there (λ all. all) i.marks.seen.longest)

  regroups : Regroups vs us id v first second
  regroups = record {
    there = there;
    rest = refl;
    bare = refl;
    idle_v = idle_quiet v needs.quiet;
    idle_a = idle_quiet v needs.quiet;
    back = back;
    forth = forth;
  }

  split_law : HoldsNow k m us h
  split_law =
      let few = needs.few in
      let some = needs.some in
      regroup_law vs us id v first second regroups k m h (record {
        sums = sums;
        works = omega arith;
        waits = refl;
        seen_a = i.marks.seen.begins id v there;
        seen_b = i.marks.seen.begins id v there;
        longest = longest;
        spent_b = λ none. absurd (omega arith);
        owned_a = owned_first;
        owned_b = owned_second;
        counted_a = counted_first;
        counted_b = counted_second;
        few_a = few_first;
        few_b = few_second;
        hands_a = hands_first;
        hands_b = hands_second;
        retired_a = i.slots.retired id v there;
        unlinked = unlinked;
        joined = i.grace.joined id v there;
      }) i

pub split_keeps : SplitKeeps
split_keeps k m vs h id places tickets v i there needs = split_law k m vs h i id v there places tickets needs

-- Two seats are joined; and a split and a join that are noted in a trail.
use Rattle.std.proofs.Common.{◌≡◌, ◌≢◌, ℕ, zero, suc, ◌+◌, ◌-◌, ◌⊎◌, List, [], ◌∷◌, ◌++◌, length, map, set, Option, Some, None, refl, sym, ap, subst, ◌∙◌, ⊎_elim, inl, inr, arith, append_assoc, length-append, take}
use mathlib.Core.Logic.{dite}
use mathlib.Core.Option.{some, some-injective, some-ne-none}
use mathlib.Core.List.{IsPrefix}
use native.Mathlib.Decide.{dec_le, ℕ_discrete}
use lib.ListN.{get_elem?}
use Rattle.atomic_table.proofs.Lists.{at_set, set_here, set_else}
use Rattle.std.proofs.Math.Seq.{take-append_seam}
use Rattle.prcu_marks.specs.Marks.{own_of}
use Rattle.core_state.specs.Parts.{HasSeenAll, HasMet, IsOwned, IsCounted, inside_count, HasFewSpent, HasFewSlots, IsRetired, IsRetiredOf, AreHandsKnown, turns_to_come, IsWaitedRetired, HasRetired}
use Rattle.prcu_marks.specs.declared.mark.Mark.{Mark}
use Rattle.prcu_marks.proofs.Marks.{own_of-between, longer_begins, longer_first, longer_second, longer_whole_first, longer_whole_second}
use Rattle.core_state.specs.declared.shape.Shape.{Shape}
use Rattle.core_state.specs.declared.view.Held.{Held}
use Rattle.core_state.specs.declared.view.Retired.{Retired}
use Rattle.core_state.specs.declared.view.Spent.{Spent}
use Rattle.core_state.specs.declared.view.View.{View}
use Rattle.list_laws.specs.Counts.{times, numbers_from, total, IsIn, Each}
use Rattle.core_state.specs.Memory.{flag, has, Memory}
use Rattle.core_state.specs.Views.{Works, places_of, held_list, slot_list, joined_spares, spares_of, joined_retired, retired_of, slots_of, unraised_hand, unraised_among, unraised_of, emptied_among}
use Rattle.core_state.specs.Steps.{NeedsJoin, meeting_of, spare_slot, unused_spent, spent_places, both_of, spent_view, stepped, first_of, second_of}
use Rattle.core_state.specs.Invariant.{HoldsNow}
use Rattle.list_laws.proofs.Lists.{at_below, at_one, total_set, times_append, in_first, in_second, set_twice, somewhere_set}
use Rattle.core_laws.proofs.Regroup.{IsIdle, SameSums, Regroups, regroup_law, idle_quiet}
use Rattle.core_laws.proofs.Splitting.{spares_count, places_count, split_keeps}
use Rattle.core_laws.specs.Whole.{JoinKeeps, SplitNotedKeeps, JoinNotedKeeps}
use Rattle.core_frames.proofs.First.{each_append}
use Rattle.core_frames.proofs.Roles.{unraised_append, retired_times, slots_count, quiet_as}
use Rattle.core_state.specs.declared.words.Field.TheVariants.{Clock}
use Rattle.core_state.specs.declared.words.Kind.TheVariants.{K1, K2}
use Rattle.core_frames.proofs.WholeFrames.{stepped_keeps}

-- K2: two seats are joined.

-- places that stay behind
pub spent_places_append : (p : ℕ) (xs ys : List Spent)
    → times p (map (λ (s : Spent). s.place) (xs ++ ys))
    ≡ times p (map (λ (s : Spent). s.place) xs) + times p (map (λ (s : Spent). s.place) ys)
spent_places_append p [] ys = omega arith
spent_places_append p (x ∷ xs) ys = let r = spent_places_append p xs ys in omega arith

spares_append : (s : ℕ) (xs ys : List Spent) → times s (joined_spares (xs ++ ys)) ≡ times s (joined_spares xs) + times s (joined_spares ys)
spares_append s [] ys = omega arith
spares_append s (x ∷ xs) ys =
    let r = spares_append s xs ys in
    let a = times_append s (slot_list x.spare) (joined_spares (xs ++ ys)) in
    let b = times_append s (slot_list x.spare) (joined_spares xs) in
    omega arith

retired_append : (xs ys : List Spent) → joined_retired (xs ++ ys) ≡ joined_retired xs ++ joined_retired ys
retired_append [] ys = refl
retired_append (x ∷ xs) ys = ap (λ z. x.retired ++ z) (retired_append xs ys)
    ∙ sym (append_assoc x.retired (joined_retired xs) (joined_retired ys))

-- those that were never used
unused_places : (p first n : ℕ) → times p (map (λ (s : Spent). s.place) (map unused_spent (numbers_from first n)))
    ≡ times p (numbers_from first n)
unused_places p first zero = refl
unused_places p first (suc n) = let r = unused_places p (first + 1) n in omega arith

unused_spares : (s first n : ℕ) → times s (joined_spares (map unused_spent (numbers_from first n))) ≡ times s (numbers_from (first + 1) n)
unused_spares s first zero = refl
unused_spares s first (suc n) = let r = unused_spares s (first + 1) n in omega arith

unused_retired : (first n : ℕ) → joined_retired (map unused_spent (numbers_from first n)) ≡ []
unused_retired first zero = refl
unused_retired first (suc n) = unused_retired (first + 1) n

unused_each : (P : Spent → Type 0) (first n : ℕ) → ((p : ℕ) → P (unused_spent p)) → Each (map unused_spent (numbers_from first n)) P
unused_each P first zero all j a e = absurd (some-ne-none a (sym e))
unused_each P first (suc n) all zero a e = subst P (some-injective (unused_spent first) a e) (all first)
unused_each P first (suc n) all (suc j) a e = unused_each P (first + 1) n all j a e

spare_list : (o : Option Held) → slot_list (spare_slot o) ≡ held_list o
spare_list None = refl
spare_list (Some held) = refl

-- what a view leaves behind is what it had
pub spent_places_are : (u : View) → Works u → (p : ℕ) → times p (map (λ (s : Spent). s.place) (spent_places u)) ≡ times p (places_of u)
spent_places_are u works p =
    let a = spent_places_append p (map unused_spent (numbers_from (u.allowance.place + 1) (u.allowance.places - 1))) u.allowance.joined in
    let b = unused_places p (u.allowance.place + 1) (u.allowance.places - 1) in
    let one : u.allowance.places ≡ suc (u.allowance.places - 1) = omega arith in
    let c = ap (λ z. times p (numbers_from u.allowance.place z)) one in
    let d = places_count u p in
    omega arith

spent_spares_are : (u : View) (s : ℕ) → times s (joined_spares (spent_places u)) ≡ times s (spares_of u)
spent_spares_are u s =
    let a = spares_append s (map unused_spent (numbers_from (u.allowance.place + 1) (u.allowance.places - 1))) u.allowance.joined in
    let b = unused_spares s (u.allowance.place + 1) (u.allowance.places - 1) in
    let c = times_append s (slot_list (spare_slot u.hands.spare))
    (joined_spares (map unused_spent (numbers_from (u.allowance.place + 1) (u.allowance.places - 1)) ++ u.allowance.joined)) in
    let next : u.allowance.place + 1 + 1 ≡ u.allowance.place + 2 = omega arith in
    let d = ap (λ z. times s (numbers_from z (u.allowance.places - 1))) next in
    let e = ap (times s) (spare_list u.hands.spare) in
    let f = spares_count u s in
    omega arith

spent_retired_are : (u : View) → joined_retired (spent_places u) ≡ retired_of u
spent_retired_are u = ap (λ z. u.hands.retired ++ z)
    (retired_append (map unused_spent (numbers_from (u.allowance.place + 1) (u.allowance.places - 1))) u.allowance.joined
    ∙ ap (λ z. z ++ joined_retired u.allowance.joined) (unused_retired (u.allowance.place + 1) (u.allowance.places - 1)))

-- what holds of each place that a view leaves behind
each_spent : (P : Spent → Type 0) (u : View) → P
    (record { place = u.allowance.place; spare = spare_slot u.hands.spare; retired = u.hands.retired }) → ((p : ℕ) → P (unused_spent p))
    → Each u.allowance.joined P → Each (spent_places u) P
each_spent P u own unused joined zero a e = subst P
    (some-injective (record { place = u.allowance.place; spare = spare_slot u.hands.spare; retired = u.hands.retired }) a e) own
each_spent P u own unused joined (suc n) a e =
    each_append P (map unused_spent (numbers_from (u.allowance.place + 1) (u.allowance.places - 1))) u.allowance.joined
    (unused_each P (u.allowance.place + 1) (u.allowance.places - 1) unused) joined n a e

no_spare : (o : Option Held) → spare_slot o ≡ None → o ≡ None
no_spare None none = refl
no_spare (Some held) none = absurd (let q : Some held.slot ≡ None = none in cc)

module _ (k : Shape) (m : Memory) (vs : List View) (h : List Mark) (i : HoldsNow k m vs h) (id : ℕ) (v : View)
    (there : get_elem? vs id ≡ some v) (j : ℕ) (other : View) (there_other : get_elem? vs j ≡ some other) (two : id ≢ j)
    (works : Works v) (works_other : Works other) (needs : NeedsJoin v other) where
  abbrev both : View
  both = both_of v other

  abbrev us : List View
  us = set (set vs id both) j spent_view

  view_here : (n : ℕ) (u : View) → n ≡ id → get_elem? vs n ≡ some u → v ≡ u
  view_here n u here e = at_one vs id v u there (subst (λ x. get_elem? vs x ≡ some u) here e)

  other_here : (n : ℕ) (u : View) → n ≡ j → get_elem? vs n ≡ some u → other ≡ u
  other_here n u here e = at_one vs j other u there_other (subst (λ x. get_elem? vs x ≡ some u) here e)

  both_there : get_elem? us id ≡ some both
  both_there = set_else (set vs id both) j id spent_view two ∙ set_here vs id both (at_below vs id v there)

  other_there : get_elem? (set vs id both) j ≡ some other
  other_there = set_else vs id j both (λ e. two (sym e)) ∙ there_other

  back : (n : ℕ) (u : View) → get_elem? us n ≡ some u → (get_elem? vs n ≡ some u) ⊎ ((u ≡ both) ⊎ (u ≡ spent_view))
  back n u e =
      ⊎_elim (λ (x : (n ≡ j) × (spent_view ≡ u)). inr (inr (sym x.1)))
      (λ (x : (n ≢ j) × (get_elem? (set vs id both) n ≡ some u)). ⊎_elim (λ (y : (n ≡ id) × (both ≡ u)). inr (inl (sym y.1)))
      (λ (y : (n ≢ id) × (get_elem? vs n ≡ some u)). inl y.1) (at_set vs id n both u x.1))
      (at_set (set vs id both) j n spent_view u e)

  forth : (n : ℕ) (u : View) → get_elem? vs n ≡ some u → (get_elem? us n ≡ some u) ⊎ IsIdle u
  forth n u e =
      dite (ℕ_discrete n id) (λ here. inr (subst IsIdle (view_here n u here e) (idle_quiet v needs.first)))
      (λ not_id. dite (ℕ_discrete n j) (λ here. inr (subst IsIdle (other_here n u here e) (idle_quiet other needs.second)))
      (λ not_j. inl (set_else (set vs id both) j n spent_view not_j ∙ (set_else vs id n both not_id ∙ e))))

  sum : (f : View → ℕ) → total f us + (f v + f other) ≡ total f vs + (f both + f spent_view)
  sum f =
      let a = total_set f vs id v both there in
      let b = total_set f (set vs id both) j other spent_view other_there in
      omega arith

  -- the places, spares and retired slots of the two are those of the one
  places_two : (p : ℕ) → times p (places_of both) ≡ times p (places_of v) + times p (places_of other)
  places_two p =
      let a = places_count v p in
      let b = places_count both p in
      let c = spent_places_append p v.allowance.joined (spent_places other) in
      let d = spent_places_are other works_other p in
      omega arith

  spares_two : (s : ℕ) → times s (spares_of both) ≡ times s (spares_of v) + times s (spares_of other)
  spares_two s =
      let a = spares_count v s in
      let b = spares_count both s in
      let c = spares_append s v.allowance.joined (spent_places other) in
      let d = spent_spares_are other s in
      omega arith

  retired_two : retired_of both ≡ retired_of v ++ retired_of other
  retired_two = ap (λ z. v.hands.retired ++ z) (retired_append v.allowance.joined (spent_places other)
      ∙ ap (λ z. joined_retired v.allowance.joined ++ z) (spent_retired_are other))
      ∙ sym (append_assoc v.hands.retired (joined_retired v.allowance.joined) (retired_of other))

  slots_two : (s : ℕ) → times s (slots_of both) ≡ times s (slots_of v) + times s (slots_of other)
  slots_two s =
      let a = slots_count v s in
      let b = slots_count both s in
      let c = slots_count other s in
      let d = spares_two s in
      let e = ap (λ rs. times s (map (λ (r : Retired). r.slot) rs)) retired_two in
      let f = retired_times s (retired_of v) (retired_of other) in
      let none : times s (held_list other.hands.hand) ≡ 0 = ap (λ o. times s (held_list o)) needs.second.hand in
      omega arith

  unraised_two : unraised_of both ≡ unraised_of v + unraised_of other
  unraised_two =
      let e = ap unraised_among retired_two in
      let f = unraised_append (retired_of v) (retired_of other) in
      let none : unraised_hand other.hands.hand ≡ 0 = ap unraised_hand needs.second.hand in
      omega arith

  sums : SameSums vs us
  sums =
      let q = needs.second in
      record {
        places = λ p. (let a = sum (λ (u : View). times p (places_of u)) in let b = places_two p in
            let c : times p (places_of spent_view) ≡ 0 = refl in omega arith);
        slots = λ s. (let a = sum (λ (u : View). times s (slots_of u)) in let b = slots_two s in
            let c : times s (slots_of spent_view) ≡ 0 = refl in omega arith);
        inside = λ c side. (let a = sum (λ (u : View). inside_count c side u.section) in
            let b : inside_count c side other.section ≡ 0 = ap (inside_count c side) q.section in omega arith);
        tickets = (let a = sum (λ (u : View). u.allowance.tickets) in omega arith);
        reserved = (let a = sum (λ (u : View). flag u.hands.reserved) in let b = ap flag q.reserved in omega arith);
        owes = (let a = sum (λ (u : View). flag u.hands.owes) in let b = ap flag q.owes in omega arith);
        unraised = (let a = sum unraised_of in let b = unraised_two in let c : unraised_of spent_view ≡ 0 = refl in omega arith);
        emptied = (let a = sum (λ (u : View). emptied_among u.locks) in let b : emptied_among other.locks ≡ 0 = ap emptied_among q.locks in
            omega arith);
        pending = (let a = sum (λ (u : View). has u.moving) in let b : has other.moving ≡ 0 = ap has q.moving in omega arith);
        turns = (let a = sum (λ (u : View). u.counts.turns + turns_to_come u.wait) in omega arith);
      }

  few_both : HasFewSlots k.room both
  few_both =
      let f = i.slots.few id v there in
      let g = i.slots.few j other there_other in
      record {
        one = f.one;
        few = f.few;
        room = f.room;
        joined = each_append (HasFewSpent k.room) v.allowance.joined (spent_places other) f.joined
            (each_spent (HasFewSpent k.room) other
            (record { few = g.few; next_spare = λ none. g.next_spare works_other (no_spare other.hands.spare none) })
            (λ p. record { few = omega arith; next_spare = λ none. absurd (let q : Some (p + 1) ≡ None = none in cc) }) g.joined);
        next_spare = f.next_spare;
      }

  hands_both : AreHandsKnown m both
  hands_both =
      let g = i.slots.hands id v there in
      let o = i.slots.hands j other there_other in
      record {
        hand = g.hand;
        spare = g.spare;
        copy = g.copy;
        spares = λ s some_time. dite (dec_le 1 (times s (spares_of v))) (λ mine. g.spares s mine)
            (λ not_mine. o.spares s (let a = spares_two s in omega arith));
      }

  hands_spent : AreHandsKnown m spent_view
  hands_spent = record {
    hand = λ held none. absurd (let q : None ≡ Some held = none in cc);
    spare = λ held none. absurd (let q : None ≡ Some held = none in cc);
    copy = λ move none. absurd (let q : None ≡ Some move = none in cc);
    spares = λ s some_time. absurd (let c : times s (spares_of spent_view) ≡ 0 = refl in omega arith);
  }

  few_spent : HasFewSlots k.room spent_view
  few_spent = record {
    one = λ e. refl;
    few = omega arith;
    room = λ move none. absurd (let q : None ≡ Some move = none in cc);
    joined = λ n a e. absurd (some-ne-none a (sym e));
    next_spare = λ has_place none. absurd (omega arith);
  }

  retired_both : Each (retired_of both) (IsRetired m h)
  retired_both = subst (λ rs. Each rs (IsRetired m h)) (sym retired_two)
      (each_append (IsRetired m h) (retired_of v) (retired_of other) (i.slots.retired id v there) (i.slots.retired j other there_other))

  unlinked : (s : ℕ) → IsRetiredOf vs s → IsRetiredOf us s
  unlinked s r =
      let ours : (x : Retired) → IsIn (retired_of v ++ retired_of other) x → x.slot ≡ s → IsRetiredOf us s = (λ x has is.
      record {
        id = id;
        view = both;
        there = both_there;
        has = record {
          retired = x;
          has = subst (λ rs. IsIn rs x) (sym retired_two) has;
          slot = is;
        };
      }) in
      ⊎_elim (λ (x : HasRetired v s). ours x.retired (in_first (retired_of v) (retired_of other) x.retired x.has) x.slot)
      (λ (rest : IsRetiredOf (set vs id both) s). ⊎_elim
      (λ (x : HasRetired other s). ours x.retired (in_second (retired_of v) (retired_of other) x.retired x.has) x.slot) (λ left. left)
      (somewhere_set (set vs id both) j other spent_view other_there rest)) (somewhere_set vs id v both there r)

  -- the one has seen what each of the two has
  mine_seen : IsPrefix v.seen h
  mine_seen = i.marks.seen.begins id v there

  theirs_seen : IsPrefix other.seen h
  theirs_seen = i.marks.seen.begins j other there_other

  both_seen : IsPrefix both.seen h
  both_seen = longer_begins v.seen other.seen h mine_seen theirs_seen

  longer_mine : IsPrefix v.seen both.seen
  longer_mine = longer_first v.seen other.seen h mine_seen theirs_seen

  longer_theirs : IsPrefix other.seen both.seen
  longer_theirs = longer_second v.seen other.seen h mine_seen theirs_seen

  longest : HasSeenAll us h
  longest =
      let ours : both.seen ≡ h → HasSeenAll us h = (λ all. record { id = id; view = both; there = both_there; has = all }) in
      ⊎_elim (λ (whole : v.seen ≡ h). ours (longer_whole_first v.seen other.seen h mine_seen theirs_seen whole))
      (λ (rest : HasSeenAll (set vs id both) h). ⊎_elim
      (λ (whole : other.seen ≡ h). ours (longer_whole_second v.seen other.seen h mine_seen theirs_seen whole)) (λ left. left)
      (somewhere_set (set vs id both) j other spent_view other_there rest)) (somewhere_set vs id v both there i.marks.seen.longest)

  owned_both : IsOwned h both
  owned_both =
      let mine = i.seats.owned id v there in
      let theirs = i.seats.owned j other there_other in
      record {
        met = λ p some_time. dite (dec_le 1 (times p (places_of v)))
            (λ has_mine. let met = mine.met p has_mine in own_of-between p v.seen both.seen h longer_mine both_seen met ∙ met)
            (λ not_mine. let met = theirs.met p (let a = places_two p in omega arith) in
            own_of-between p other.seen both.seen h longer_theirs both_seen met ∙ met);
        unused = mine.unused;
        joined = met_both;
      }
    where
      met_of : (u : View) → IsOwned h u → IsPrefix u.seen h → IsPrefix u.seen both.seen → HasMet h (meeting_of u both.seen)
      met_of u owned begins grows =
          let cut : take (length both.seen) h ≡ both.seen =
          subst (λ z. take (length both.seen) z ≡ both.seen) both_seen.1 (take-append_seam both.seen both_seen.0) in
          record {
            past = (let e = ap length both_seen.1 in let n = length-append both.seen both_seen.0 in omega arith);
            begins = subst (IsPrefix u.seen) (sym cut) grows;
            own = λ p has. ap (own_of p) cut ∙ own_of-between p u.seen both.seen h grows both_seen (owned.met p has);
          }

      met_both : Each both.allowance.met (HasMet h)
      met_both zero meeting at = subst (HasMet h) (some-injective (meeting_of v both.seen) meeting at)
          (met_of v (i.seats.owned id v there) mine_seen longer_mine)
      met_both (suc zero) meeting at = subst (HasMet h) (some-injective (meeting_of other both.seen) meeting at)
          (met_of other (i.seats.owned j other there_other) theirs_seen longer_theirs)
      met_both (suc (suc n)) meeting at = absurd (some-ne-none meeting (sym at))

  owned_spent : IsOwned h spent_view
  owned_spent = record {
    met = λ p some_time. absurd (let c : times p (places_of spent_view) ≡ 0 = refl in omega arith);
    unused = λ p x. absurd (let low = x.0 in let high = x.1 in omega arith);
    joined = λ n meeting at. absurd (some-ne-none meeting (sym at));
  }

  counted_both : Works both → IsCounted h both
  counted_both has = let c = i.seats.counted id v there works in record { sections = c.sections; waits = c.waits }

  joined_both : Each both.allowance.joined (λ (s : Spent). Each s.retired (IsWaitedRetired vs h s.place))
  joined_both =
      each_append (λ (s : Spent). Each s.retired (IsWaitedRetired vs h s.place)) v.allowance.joined (spent_places other)
      (i.grace.joined id v there)
      (each_spent (λ (s : Spent). Each s.retired (IsWaitedRetired vs h s.place)) other (i.grace.retired j other there_other)
      (λ p n a e. absurd (some-ne-none a (sym e))) (i.grace.joined j other there_other))

  regroups : Regroups vs us id v both spent_view
  regroups = record {
    there = there;
    rest = refl;
    bare = refl;
    idle_v = idle_quiet v needs.first;
    idle_a = idle_quiet v needs.first;
    back = back;
    forth = forth;
  }

  join_law : HoldsNow k m us h
  join_law = regroup_law vs us id v both spent_view regroups k m h (record {
    sums = sums;
    works = works;
    waits = refl;
    seen_a = both_seen;
    seen_b = (h, refl);
    longest = longest;
    spent_b = λ none. refl;
    owned_a = owned_both;
    owned_b = owned_spent;
    counted_a = counted_both;
    counted_b = λ has. absurd (omega arith);
    few_a = few_both;
    few_b = few_spent;
    hands_a = hands_both;
    hands_b = hands_spent;
    retired_a = retired_both;
    unlinked = unlinked;
    joined = joined_both;
  }) i

pub join_keeps : JoinKeeps
join_keeps k m vs h id other_id v other i there there_other two works works_other needs =
    join_law k m vs h i id v there other_id other there_other two works works_other needs

-- A split and a join that are noted in a trail.

pub split_noted_keeps : SplitNotedKeeps
split_noted_keeps k m vs h id places tickets number v i there needs =
    let noted : View = stepped v K1 Clock number in
    let works : Works v = (let few = needs.few in omega arith) in
    subst (λ us. HoldsNow k m (us ++ second_of places tickets noted ∷ []) h) (set_twice vs id noted (first_of places tickets noted))
    (split_keeps k m (set vs id noted) h id places tickets noted (stepped_keeps k m vs h id v i there works K1 Clock number)
    (set_here vs id noted (at_below vs id v there))
    (record { quiet = quiet_as v noted refl refl refl refl refl needs.quiet; some = needs.some; few = needs.few; paid = needs.paid }))

pub join_noted_keeps : JoinNotedKeeps
join_noted_keeps k m vs h id other_id number v other i there there_other two works works_other needs =
    let noted : View = stepped v K2 Clock number in
    subst (λ us. HoldsNow k m (set us other_id spent_view) h) (set_twice vs id noted (both_of noted other))
    (join_keeps k m (set vs id noted) h id other_id noted other (stepped_keeps k m vs h id v i there works K2 Clock number)
    (set_here vs id noted (at_below vs id v there))
    (set_else vs id other_id noted (λ e. two (sym e)) ∙ there_other) two works works_other
    (record { first = quiet_as v noted refl refl refl refl refl needs.first; second = needs.second }))

-- A rotation, K38: all parts after it but those on locks, readers and listings, and the law.
use Rattle.std.proofs.Common.{◌≡◌, ◌≢◌, ℕ, ◌+◌, ◌≤◌, true, false, List, [], ◌∷◌, ◌++◌, length, map, Some, None, refl, sym, ap, subst, ◌∙◌, ⊎_elim, arith, length-append, ◌==◌, ◌&&◌, not, ◌⊎◌, inl, inr}
use Rattle.std.proofs.lemmas.Bool.{cases_eq}
use mathlib.Core.Option.{some}
use lib.ListN.{get_elem?}
use Rattle.prcu_marks.specs.Marks.{gone_at, last_unlinked, greatest_key}
use Rattle.core_state.specs.declared.view.Held.{Held}
use Rattle.core_state.specs.declared.view.Move.{Move}
use Rattle.core_state.specs.declared.view.Retired.{Retired}
use Rattle.core_state.specs.declared.view.View.{View}
use Rattle.core_state.specs.declared.words.Field.{Field}
use Rattle.core_state.specs.declared.words.Field.TheVariants.{Life, Link}
use Rattle.list_laws.specs.Counts.{times, IsIn, Each}
use Rattle.core_state.specs.Memory.{IsOdd, flag, sum_below, has, Memory, slot_count}
use Rattle.core_state.specs.Views.{known_in, known_under, HasLock, note_lock, change_lock, joined_retired, retired_of, slots_of, held_list, unraised_hand, unraised_of, emptied_among}
use Rattle.core_state.specs.Links.{newly_retired, with_mark, NeedsRotate, after_rotate, rotate_marks}
use Rattle.core_state.specs.Parts.{HasFewSlots, IsRetired, IsRetiredOf, AreHandsKnown, SlotParts, linked_count, young_count, old_count, CountParts, FrontParts, IsClear, IsWaitedRetired, GraceParts, MarkParts, SeatParts, IsMoving, IsOldOf, AreMoving, WaiterParts, map_now}
use Rattle.list_laws.proofs.Lists.{each_set, total_set, times_append, in_append, in_first, in_second, somewhere_here, somewhere_set}
use Rattle.core_frames.proofs.First.{each_one, each_append}
use Rattle.core_frames.proofs.Charts.{bool_cases}
use Rattle.core_frames.proofs.Roles.{retired_own, linked_none, map_append, slots_count, spares_count, retired_count, unraised_append}
use Rattle.core_frames.proofs.Views.{in_one, not_one, flag_false, flag_true, young_flags, old_flags, sum_equal, sum_add, one_sum, flag_root, flag_node, young_root, young_node}
use Rattle.core_frames.proofs.PlaceFrames.{front_stays, retired_of_by, counts_by, front_by, retired_by}
use Rattle.core_laws.proofs.Locks.{one_holder, emptied_change_same}
use Rattle.core_laws.proofs.Stores.{link_stores, moving_left, hands_beside}
use Rattle.core_laws.proofs.Turns.{shape_after, linked_as, top_on, sub_on, x_off, y_off, x_not_p, y_not_p, which, not_top, not_sub, old_else, place_else, top_young, sub_young, map_after}
use Rattle.core_laws.proofs.RotateSteps.{two_gone_upper, two_gone_lower, two_gone_other, two_plain, two_marks, two_reuse, two_updates, two_last_other, RotateStep, parent_lock, x_on, y_on, x_field, y_field, x_some, y_some, top_off, sub_off, apart, turn, turns, new, to, w, us, hs, gone_upper, gone_lower, not_same, some_of, known, same, others_apart, two_map, rotate_locks}
use Rattle.core_laws.proofs.RotateReaders.{unlinked_off, gone_same, moving_same, Stay, stays_on, rotate_readers, rotate_listings}
use Rattle.prcu_model.specs.Dictionary.{map_of}
use Rattle.core_frames.specs.Laws.{KeepsPast, IsKept}
use Rattle.core_frames.proofs.PlainLaws.{clocked_before}
use Rattle.core_frames.proofs.WaitFrames.{retired_still, grace_frame_by}
use Rattle.core_frames.proofs.WholeFrames.{mark_frame_plain, seat_frame_plain, waiter_frame_plain, waited_early, waited_more, waited_back, grace_plain, Stepper, StepKeeps}
use Rattle.core_frames.proofs.Marks.{end_more, PlainMarks}
use Rattle.core_state.specs.Tree.{HoldsMap, IsPending}
use Rattle.prcu_marks.specs.declared.mark.Side.{Side}
use Rattle.std.specs.FinMap as finite

-- The parts on slots after a rotation: the spare and the slot in hand are linked, and two slots are retired.

module _ (z : RotateStep) where
  open z use {who, who.{k, m, vs, h, id, v, there, inv as i, inv.{chart as g}}, upper.{slot as top}, p, b, x, y}
  open z use {needs, needs.{lower}, needs.lower.{slot as sub}}

  abbrev n : ℕ
  n = slot_count k

  abbrev later : Memory
  later = new z

  -- what a view has isn't linked, so the link isn't stored in it
  own_apart : (j : ℕ) (u : View) (s : ℕ) → get_elem? vs j ≡ some u → 1 ≤ times s (slots_of u) → s ≢ p
  own_apart j u s e has same = let none = linked_none m n g vs h i.slots j u e p (turns z).parent in
      let f = ap (λ q. times q (slots_of u)) same in absurd (omega arith)

  hands_other : (j : ℕ) (u : View) → j ≢ id → get_elem? vs j ≡ some u → AreHandsKnown later u
  hands_other j u ne e = hands_beside m later p (link_stores m p b top).within u
      (let none = linked_none m n g vs h i.slots j u e p (turns z).parent in let a = slots_count u p in omega arith)
      (λ move is same. ne
      (one_holder k m vs h i j id u v p e there (subst (HasLock u) same (i.tree.moves.each j u e move is).copy_lock) (parent_lock z)))
      (i.slots.hands j u e)

  no_move : (move : Move) → (w z).moving ≡ Some move → ⊥
  no_move move is = let q : None ≡ Some move = sym needs.settled ∙ sym (moving_same z) ∙ is in absurd (cc)

  hands_mine : AreHandsKnown later (w z)
  hands_mine = record {
    hand = λ held is. absurd (let q : None ≡ Some held = is in cc);
    spare = λ held is. absurd (let q : None ≡ Some held = is in cc);
    copy = λ move is. absurd (no_move move is);
    spares = λ s has. (i.slots.hands id v there).spares s
        (let a = spares_count (w z) s in let c = spares_count v s in omega arith);
  }

  -- the retired ones
  retired_stays : (j : ℕ) (u : View) (r : Retired) → get_elem? vs j ≡ some u → IsIn (retired_of u) r → IsRetired later (hs z) r
  retired_stays j u r e has =
      let q = i.slots.retired j u e has.0 r has.1 in
      retired_by m later h (hs z) r (gone_same z r.slot (unlinked_off z r.slot r.unlinked q.unlinked)) refl
      (λ field content. (link_stores m p b top).content r.slot field (own_apart j u r.slot e (retired_own u r has)) content) q

  -- a slot that goes is retired as it stands
  goes_retired : (s at : ℕ) → gone_at s (hs z) ≡ Some at → s ≢ 0 → IsOdd (m (Life s)) → s ≢ p
      → ((field : Field) (number : ℕ) → known_in (known_under v s) field ≡ Some number → m field ≡ number)
      → IsRetired later (hs z) (newly_retired v s at)
  goes_retired s at gone node odd away known = record {
    unlinked = gone;
    some_slot = node;
    marked = λ e. odd;
    life = λ number e is. absurd (cc);
    stays = λ field number e content is. (link_stores m p b top).content s field away content ∙ known field number is;
    unmarked = λ e. absurd (cc);
    after_wait = λ e. absurd (cc);
  }

  upper_is : IsRetired later (hs z) (gone_upper z)
  upper_is = goes_retired x (length h) (two_gone_upper v.allowance.place h x y (not_same z)) (x_some z) (x_on z).1
      (x_not_p m later n g (turn z) i.tree.shape (turns z)) (x_field z)

  lower_is : IsRetired later (hs z) (gone_lower z)
  lower_is = goes_retired y (length h + 1) (two_gone_lower v.allowance.place h x y (not_same z)) (y_some z) (y_on z).1
      (y_not_p m later n g (turn z) i.tree.shape (turns z)) (y_field z)

  abbrev two : List Retired
  two = gone_upper z ∷ (gone_lower z ∷ [])

  abbrev IsNowRetired : Retired → Type 0
  IsNowRetired r = IsRetired later (hs z) r

  retired_mine : Each (retired_of (w z)) IsNowRetired
  retired_mine = each_append IsNowRetired (v.hands.retired ++ two) (joined_retired v.allowance.joined)
      (each_append IsNowRetired v.hands.retired two
      (λ j r e. retired_stays id v r there (in_first v.hands.retired (joined_retired v.allowance.joined) r (j, e)))
      (each_append IsNowRetired (gone_upper z ∷ []) (gone_lower z ∷ []) (each_one IsNowRetired (gone_upper z) upper_is)
      (each_one IsNowRetired (gone_lower z) lower_is)))
      (λ j r e. retired_stays id v r there (in_second v.hands.retired (joined_retired v.allowance.joined) r (j, e)))

  retired_grows : (r : Retired) → IsIn (retired_of v) r → IsIn (retired_of (w z)) r
  retired_grows r has = ⊎_elim
      (λ (a : IsIn v.hands.retired r). in_first (v.hands.retired ++ two) (joined_retired v.allowance.joined) r
      (in_first v.hands.retired two r a))
      (λ a. in_second (v.hands.retired ++ two) (joined_retired v.allowance.joined) r a)
      (in_append v.hands.retired (joined_retired v.allowance.joined) r has)

  upper_among : IsIn (w z).hands.retired (gone_upper z)
  upper_among = in_second v.hands.retired two (gone_upper z) (0, refl)

  lower_among : IsIn (w z).hands.retired (gone_lower z)
  lower_among = in_second v.hands.retired two (gone_lower z) (1, refl)

  -- how often a slot is the view's
  slots_after : (s : ℕ) → times s (slots_of (w z)) + times s (top ∷ []) + times s (sub ∷ [])
      ≡ times s (slots_of v) + times s (x ∷ []) + times s (y ∷ [])
  slots_after s =
      let a = slots_count (w z) s in
      let e = slots_count v s in
      let f = spares_count (w z) s in
      let q = spares_count v s in
      let c = retired_count (w z) s in
      let d = retired_count v s in
      let hand : times s (held_list v.hands.hand) ≡ times s (sub ∷ []) = ap (λ o. times s (held_list o)) needs.hand_is.0 in
      let spare : times s (held_list v.hands.spare) ≡ times s (top ∷ []) = ap (λ o. times s (held_list o)) needs.spare_is.0 in
      let more : times s (map (λ (r : Retired). r.slot) (v.hands.retired ++ two))
      ≡ times s (map (λ (r : Retired). r.slot) v.hands.retired) + times s (x ∷ (y ∷ [])) =
      ap (times s) (map_append v.hands.retired two) ∙ times_append s (map (λ (r : Retired). r.slot) v.hands.retired) (x ∷ (y ∷ [])) in
      let both = times_append s (x ∷ []) (y ∷ []) in
      omega arith

  pub linked_after : (s : ℕ) → flag ((to z).linked s) + times s (x ∷ []) + times s (y ∷ [])
      ≡ flag (g.linked s) + times s (top ∷ []) + times s (sub ∷ [])
  linked_after s = ⊎_elim
      (λ (e : s ≡ top).
      (let a = ap flag (ap (to z).linked e ∙ top_on m later n g (turn z) i.tree.shape (turns z)) in
      let c = ap flag (ap g.linked e ∙ top_off z) in
      let d = in_one s top e in
      let f = not_one s sub (λ q. apart z (sym q ∙ e)) in
      let x' = not_one s x (λ q. not_new x (x_on z).0 (top_off z) (sym q ∙ e)) in
      let y' = not_one s y (λ q. not_new y (y_on z).0 (top_off z) (sym q ∙ e)) in
      omega arith))
      (λ nt. ⊎_elim
      (λ (e : s ≡ sub).
      (let a = ap flag (ap (to z).linked e ∙ sub_on m later n g (turn z) i.tree.shape (turns z)) in
      let c = ap flag (ap g.linked e ∙ sub_off z) in
      let d = not_one s top nt in
      let f = in_one s sub e in
      let x' = not_one s x (λ q. not_new x (x_on z).0 (sub_off z) (sym q ∙ e)) in
      let y' = not_one s y (λ q. not_new y (y_on z).0 (sub_off z) (sym q ∙ e)) in
      omega arith))
      (λ ns. (let d = not_one s top nt in let f = not_one s sub ns in
      ⊎_elim
      (λ (e : s ≡ x).
      (let a = ap flag (ap (to z).linked e ∙ x_off m later n g (turn z) i.tree.shape (turns z)) in
      let c = ap flag (ap g.linked e ∙ (x_on z).0) in
      let x' = in_one s x e in
      let y' = not_one s y (λ q. not_same z (sym e ∙ q)) in
      omega arith))
      (λ nx. ⊎_elim
      (λ (e : s ≡ y).
      (let a = ap flag (ap (to z).linked e ∙ y_off m later n g (turn z) i.tree.shape (turns z)) in
      let c = ap flag (ap g.linked e ∙ (y_on z).0) in
      let x' = not_one s x nx in
      let y' = in_one s y e in
      omega arith))
      (λ ny.
      (let x' = not_one s x nx in
      let y' = not_one s y ny in
      let a = ap flag (linked_as m later n g (turn z) i.tree.shape (turns z) s nt ns nx ny) in
      omega arith))
      (cases_eq s y))
      (cases_eq s x)))
      (cases_eq s sub))
      (cases_eq s top)
    where
      not_new : (a : ℕ) {c : ℕ} → g.linked a ≡ true → g.linked c ≡ false → a ≢ c
      not_new a on off e = let q : true ≡ false = sym on ∙ ap g.linked e ∙ off in absurd (cc)

  few_mine : HasFewSlots k.room (w z)
  few_mine =
      let f = i.slots.few id v there in
      let l = length-append v.hands.retired two in
      let room = needs.room in
      record {
        one = λ r. refl;
        few = omega arith;
        room = λ move is. absurd (no_move move is);
        joined = f.joined;
        next_spare = λ works none. record { retired = gone_upper z; has = upper_among; unraised = refl };
      }

  swaps : (s : ℕ) → times s (slots_of (w z)) + flag ((to z).linked s) ≡ times s (slots_of v) + flag (g.linked s)
  swaps s = let e = slots_after s in let f = linked_after s in omega arith

  in_range : (s : ℕ) → n ≤ s → flag ((to z).linked s) ≡ 0
  in_range s far = ⊎_elim
      (λ (l : (to z).linked s ≡ true). absurd (let lt = (shape_after m later n g (turn z) i.tree.shape (turns z)).within s l in
      omega arith))
      (λ off. ap flag off) (bool_cases ((to z).linked s))

  was_in_range : (s : ℕ) → n ≤ s → flag (g.linked s) ≡ 0
  was_in_range s far = ⊎_elim (λ (l : g.linked s ≡ true). absurd (let lt = i.tree.shape.within s l in omega arith)) (λ off. ap flag off)
      (bool_cases (g.linked s))

  pub rotate_slots : SlotParts k.room later n (to z) (us z) (hs z)
  rotate_slots = record {
    roles = record {
      once = λ s lt. (let a = total_set (λ (u : View). times s (slots_of u)) vs id v (w z) there in let q = i.slots.roles.once s lt in
          let e = swaps s in omega arith);
      beyond = λ s far. (let a = total_set (λ (u : View). times s (slots_of u)) vs id v (w z) there in let q = i.slots.roles.beyond s far in
          let e = swaps s in let c = in_range s far in let d = was_in_range s far in omega arith);
      states = i.slots.roles.states;
    };
    few = each_set (λ j u. HasFewSlots k.room u) vs id (w z) few_mine (λ j u ne e. i.slots.few j u e);
    free = i.slots.free;
    root = i.slots.root;
    hands = each_set (λ j u. AreHandsKnown later u) vs id (w z) hands_mine (λ j u ne e. hands_other j u ne e);
    retired = each_set (λ j u. Each (retired_of u) (IsRetired later (hs z))) vs id (w z) retired_mine
        (λ j u ne e l r is. retired_stays j u r e (l, is));
    unlinked = λ s at is. ⊎_elim (λ (e : s ≡ x). now s (gone_upper z) upper_among (sym e))
        (λ nx. ⊎_elim (λ (e : s ≡ y). now s (gone_lower z) lower_among (sym e))
        (λ ny. before s at (sym (two_gone_other v.allowance.place h x y (not_same z) s nx ny) ∙ is)) (cases_eq s y)) (cases_eq s x);
  }
    where
      now : (s : ℕ) (r : Retired) → IsIn (w z).hands.retired r → r.slot ≡ s → IsRetiredOf (us z) s
      now s r has e = somewhere_here vs id v (w z) there
          (record { retired = r; has = in_first (w z).hands.retired (joined_retired v.allowance.joined) r has; slot = e })

      before : (s at : ℕ) → gone_at s h ≡ Some at → IsRetiredOf (us z) s
      before s at is = retired_of_by vs id v (w z) there retired_grows s (i.slots.unlinked s at is)

  -- The other parts after a rotation: marks, seats and waiters, counts, pending moves, the front, and grace.
  plain : PlainMarks v.allowance.place h (hs z)
  plain = two_plain v.allowance.place h x y (not_same z)

  -- marks, seats, waiters
  pub rotate_marked : MarkParts k.places (us z) (hs z)
  rotate_marked = mark_frame_plain h (hs z) v.allowance.place plain k.places vs id v (w z) there (same z)
      (two_marks v.allowance.place h x y (not_same z) k.places i.marks.marks) i.marks

  pub rotate_seats : SeatParts k.places (us z) (hs z)
  rotate_seats = seat_frame_plain h (hs z) v.allowance.place plain k.places vs id v (w z) there who.works refl (same z) i.seats

  pub rotate_waiters : WaiterParts k later (us z) (hs z)
  rotate_waiters = waiter_frame_plain h (hs z) v.allowance.place plain k m later vs id v (w z) there (same z) refl refl
      (clocked_before k m vs h i) i.waiters

  -- the front
  pub rotate_front : FrontParts later (us z) (hs z)
  rotate_front = front_by m later vs id v (w z) h (hs z) there (front_stays m later refl refl) refl (λ e. moving_same z ∙ e)
      (two_updates v.allowance.place h x y (not_same z)) (end_more h (rotate_marks x y) refl refl refl) i.front

  -- no life and no tag falls, and unlinked slots stay as they are
  pub rotate_past : KeepsPast m h later
  rotate_past = record {
    lives = λ s. omega arith;
    tags = λ s a. omega arith;
    content = λ s field gone marked content. (link_stores m p b top).content s field
        (λ e. absurd (let off = unlinked_off z s gone.0 gone.1 in let on = (turns z).parent in cc)) content;
  }

  -- grace
  clean_after : (s at : ℕ) → gone_at s (hs z) ≡ None → last_unlinked s (hs z) ≡ Some at → IsClear vs at 0 greatest_key
  clean_after s at none last =
      let nx : s ≢ x = (λ e. (let q : None ≡ Some (length h) =
      sym none ∙ ap (λ r. gone_at r (hs z)) e ∙ two_gone_upper v.allowance.place h x y (not_same z) in absurd (cc))) in
      let ny : s ≢ y = (λ e. (let q : None ≡ Some (length h + 1) =
      sym none ∙ ap (λ r. gone_at r (hs z)) e ∙ two_gone_lower v.allowance.place h x y (not_same z) in absurd (cc))) in
      i.grace.clean s at (sym (two_gone_other v.allowance.place h x y (not_same z) s nx ny) ∙ none)
      (sym (two_last_other v.allowance.place h x y (not_same z) s nx ny) ∙ last)

  fresh_waited : (r : Retired) → length h ≤ r.unlinked → r.waited ≡ false → IsWaitedRetired (us z) (hs z) v.allowance.place r
  fresh_waited r late unwaited = record {
    shown = λ e. absurd (let q : false ≡ true = sym unwaited ∙ e in cc);
    noted = λ has. absurd (waited_early v.allowance.place h (hs z) plain v.allowance.place r.unlinked 0 greatest_key late has);
    clear = λ e. absurd (let q : false ≡ true = sym unwaited ∙ e in cc);
  }

  abbrev IsWaited : Retired → Type 0
  IsWaited r = IsWaitedRetired (us z) (hs z) v.allowance.place r

  waited_all : Each (v.hands.retired ++ two) IsWaited
  waited_all = each_append IsWaited v.hands.retired two
      (λ j r e. retired_still h (hs z) (waited_more v.allowance.place h (hs z) plain) (waited_back v.allowance.place h (hs z) plain)
      vs id v (w z) there refl v.allowance.place r (i.grace.retired id v there j r e))
      (each_append IsWaited (gone_upper z ∷ []) (gone_lower z ∷ [])
      (each_one IsWaited (gone_upper z) (fresh_waited (gone_upper z) (omega arith) refl))
      (each_one IsWaited (gone_lower z) (fresh_waited (gone_lower z) (omega arith) refl)))

  pub rotate_grace : GraceParts (us z) (hs z)
  rotate_grace = grace_frame_by h (hs z) (waited_more v.allowance.place h (hs z) plain)
      (waited_back v.allowance.place h (hs z) plain) vs id v (w z) there refl refl
      (grace_plain v.allowance.place h (hs z) plain i.grace.grace) (two_reuse v.allowance.place h x y (not_same z) i.grace.reuse)
      clean_after waited_all
      (λ move is. absurd (let q : None ≡ Some move = sym needs.settled ∙ sym (moving_same z) ∙ is in cc)) i.grace

  -- pending moves of other views
  moving_other : (j : ℕ) (u : View) (move : Move) → j ≢ id → get_elem? vs j ≡ some u → u.moving ≡ Some move → IsMoving m g h u move
      → IsMoving later (to z) (hs z) u move
  moving_other j u move ne e is r =
      let copy = others_apart z j u move.copy.slot ne e r.copy_lock in
      let old = others_apart z j u move.old ne e r.old_lock in
      let parent = others_apart z j u move.parent ne e r.parent_lock in
      let place = place_else m later n g (turn z) i.tree.shape (turns z) move.old
      (not_top m later n g (turn z) i.tree.shape (turns z) move.old r.old_linked)
      (not_sub m later n g (turn z) i.tree.shape (turns z) move.old r.old_linked)
      (λ q. parent.0 (sym r.parent ∙ q)) (λ q. parent.1 (sym r.parent ∙ q)) in
      moving_left m later g (to z) h (hs z) u u move (record {
        copy_linked = stays_on z move.copy.slot (record { on = r.copy_linked; not_x = copy.0; not_y = copy.1 });
        copy_old = same_old move.copy.slot r.copy_linked;
        copy_key = refl;
        copy_value = refl;
        copy_life = refl;
        old_linked = stays_on z move.old (record { on = r.old_linked; not_x = old.0; not_y = old.1 });
        old_old = same_old move.old r.old_linked;
        old_key = refl;
        old_value = refl;
        parent = place.0;
        side = place.1;
        held = λ s has. has;
        generation = λ l generation f c. (l, f, c);
        place = refl;
        records = refl;
        longer = plain.longer;
      }) r
    where
      same_old : (s : ℕ) → g.linked s ≡ true → (to z).old s ≡ g.old s
      same_old s l = old_else m later n g (turn z) i.tree.shape (turns z) s (not_top m later n g (turn z) i.tree.shape (turns z) s l)
          (not_sub m later n g (turn z) i.tree.shape (turns z) s l)

  pub rotate_moves : AreMoving later (to z) (hs z) (us z)
  rotate_moves = record {
    each = each_set (λ j u. (move : Move) → u.moving ≡ Some move → IsMoving later (to z) (hs z) u move) vs id (w z)
        (λ move is. absurd (let q : None ≡ Some move = sym needs.settled ∙ sym (moving_same z) ∙ is in cc))
        (λ j u ne e move is. moving_other j u move ne e is (i.tree.moves.each j u e move is));
    every = λ s l o. every s (which m later n g (turn z) i.tree.shape (turns z) s l) o;
    one_old = λ a c d e q r ea eb ia ib f. (let d' = back a d q ea ia in let e' = back c e r eb ib in
        i.tree.moves.one_old a c d e q r d' e' ia ib f);
    one_copy = λ a c d e q r ea eb ia ib f. (let d' = back a d q ea ia in let e' = back c e r eb ib in
        i.tree.moves.one_copy a c d e q r d' e' ia ib f);
  }
    where
      back : (j : ℕ) (u : View) (move : Move) → get_elem? (us z) j ≡ some u → u.moving ≡ Some move → get_elem? vs j ≡ some u
      back j u move e is = each_set (λ l r. r.moving ≡ Some move → get_elem? vs l ≡ some r) vs id (w z)
          (λ f. absurd (let q : None ≡ Some move = sym needs.settled ∙ sym (moving_same z) ∙ f in cc)) (λ l r ne f q. f) j u e is

      still : (s : ℕ) → IsOldOf vs s → IsOldOf (us z) s
      still s o = ⊎_elim
          (λ (mine : v.moving ≡ Some o.move). absurd (let q : None ≡ Some o.move = sym needs.settled ∙ mine in cc))
          (λ (p : IsPending (us z) o.move). record { move = o.move; pending = p; old = o.old }) (somewhere_set vs id v (w z) there o.pending)

      every : (s : ℕ) → (s ≡ top) ⊎ ((s ≡ sub) ⊎ Stay z s) → (to z).old s ≡ true → IsOldOf (us z) s
      every s (inl e) o = absurd (let f = top_young m later n g (turn z) i.tree.shape (turns z) in cc (ap (to z).old e))
      every s (inr (inl e)) o = absurd (let f = sub_young m later n g (turn z) i.tree.shape (turns z) in cc (ap (to z).old e))
      every s (inr (inr r)) o = still s (i.tree.moves.every s r.on
          (sym (old_else m later n g (turn z) i.tree.shape (turns z) s (not_top m later n g (turn z) i.tree.shape (turns z) s r.on)
          (not_sub m later n g (turn z) i.tree.shape (turns z) s r.on)) ∙ o))

  -- counts
  swapped : (f e : ℕ → ℕ) → ((s : ℕ) → e s + times s (x ∷ []) + times s (y ∷ []) ≡ f s + times s (top ∷ []) + times s (sub ∷ []))
      → sum_below e n ≡ sum_below f n
  swapped f e at =
      let whole = sum_equal (λ s. e s + times s (x ∷ []) + times s (y ∷ [])) (λ s. f s + times s (top ∷ []) + times s (sub ∷ [])) n
      (λ s _. at s) in
      let a = sum_add (λ s. e s + times s (x ∷ [])) (λ s. times s (y ∷ [])) n in
      let c = sum_add e (λ s. times s (x ∷ [])) n in
      let d = sum_add (λ s. f s + times s (top ∷ [])) (λ s. times s (sub ∷ [])) n in
      let q = sum_add f (λ s. times s (top ∷ [])) n in
      let x' = one_sum x n (i.tree.shape.within x (x_on z).0) in
      let y' = one_sum y n (i.tree.shape.within y (y_on z).0) in
      let top' = one_sum top n (turns z).top_within in
      let sub' = one_sum sub n (turns z).sub_within in
      let goal : sum_below e n ≡ sum_below f n = omega arith in goal

  at_root : (s : ℕ) → s ≡ 0 → (times s (x ∷ []) ≡ 0) × (times s (y ∷ []) ≡ 0) × (times s (top ∷ []) ≡ 0) × (times s (sub ∷ []) ≡ 0)
  at_root s e = (
    not_one s x (λ f. x_some z (sym f ∙ e)),
    not_one s y (λ f. y_some z (sym f ∙ e)),
    not_one s top (λ f. some_of z top (top_off z) (sym f ∙ e)),
    not_one s sub (λ f. some_of z sub (sub_off z) (sym f ∙ e)),
  )

  linked_same : linked_count (to z) n ≡ linked_count g n
  linked_same = swapped (λ s. flag (g.linked s && not (s == 0))) (λ s. flag ((to z).linked s && not (s == 0))) (λ s. ⊎_elim
      (λ (e : s ≡ 0).
      (let a = flag_root ((to z).linked s) s e in
      let c = flag_root (g.linked s) s e in
      let q = at_root s e in
      let q0 = q.0 in let q1 = q.1 in let q2 = q.2 in let q3 = q.3 in
      omega arith))
      (λ ne. (let a = flag_node ((to z).linked s) s ne in let c = flag_node (g.linked s) s ne in let f = linked_after s in omega arith))
      (cases_eq s 0))

  -- what the chart says of each slot
  -- none of the four is an old successor, and all others are as they were
  youngs : (s : ℕ) → (flag ((to z).linked s && not ((to z).old s)) + times s (x ∷ []) + times s (y ∷ [])
      ≡ flag (g.linked s && not (g.old s)) + times s (top ∷ []) + times s (sub ∷ []))
      × (flag ((to z).linked s && (to z).old s) ≡ flag (g.linked s && g.old s))
  youngs s = ⊎_elim
      (λ (e : s ≡ top). young_new s (ap (to z).old e ∙ top_young m later n g (turn z) i.tree.shape (turns z)) (ap g.linked e ∙ top_off z))
      (λ nt. ⊎_elim
      (λ (e : s ≡ sub). young_new s (ap (to z).old e ∙ sub_young m later n g (turn z) i.tree.shape (turns z)) (ap g.linked e ∙ sub_off z))
      (λ ns. (let o = old_else m later n g (turn z) i.tree.shape (turns z) s nt ns in
      ⊎_elim (λ (e : s ≡ x). young_else s o (ap g.old e ∙ (turns z).x_young))
      (λ nx. ⊎_elim (λ (e : s ≡ y). young_else s o (ap g.old e ∙ (turns z).y_young)) (λ ny. other s nt ns nx ny o) (cases_eq s y))
      (cases_eq s x)))
      (cases_eq s sub)) (cases_eq s top)
    where
      young_by : (s : ℕ) → (to z).old s ≡ false → flag (g.linked s && not (g.old s)) ≡ flag (g.linked s)
          → flag ((to z).linked s && not ((to z).old s)) + times s (x ∷ []) + times s (y ∷ [])
          ≡ flag (g.linked s && not (g.old s)) + times s (top ∷ []) + times s (sub ∷ [])
      young_by s o e =
          let a = young_flags ((to z).linked s) ((to z).old s) ((to z).linked s) false refl o in
          let c = flag_true ((to z).linked s) in
          let f = linked_after s in
          omega arith

      young_new : (s : ℕ) → (to z).old s ≡ false → g.linked s ≡ false
          → (flag ((to z).linked s && not ((to z).old s)) + times s (x ∷ []) + times s (y ∷ [])
          ≡ flag (g.linked s && not (g.old s)) + times s (top ∷ []) + times s (sub ∷ []))
          × (flag ((to z).linked s && (to z).old s) ≡ flag (g.linked s && g.old s))
      young_new s o off = (
        young_by s o (young_flags (g.linked s) (g.old s) false (g.old s) off refl ∙ sym (ap flag off)),
        old_flags ((to z).linked s) ((to z).old s) ((to z).linked s) false refl o ∙ flag_false ((to z).linked s)
            ∙ sym (old_flags (g.linked s) (g.old s) false (g.old s) off refl),
      )

      young_else : (s : ℕ) → (to z).old s ≡ g.old s → g.old s ≡ false
          → (flag ((to z).linked s && not ((to z).old s)) + times s (x ∷ []) + times s (y ∷ [])
          ≡ flag (g.linked s && not (g.old s)) + times s (top ∷ []) + times s (sub ∷ []))
          × (flag ((to z).linked s && (to z).old s) ≡ flag (g.linked s && g.old s))
      young_else s o young = (
        young_by s (o ∙ young) (young_flags (g.linked s) (g.old s) (g.linked s) false refl young ∙ flag_true (g.linked s)),
        old_flags ((to z).linked s) ((to z).old s) ((to z).linked s) false refl (o ∙ young) ∙ flag_false ((to z).linked s)
            ∙ sym (old_flags (g.linked s) (g.old s) (g.linked s) false refl young ∙ flag_false (g.linked s)),
      )

      other : (s : ℕ) → s ≢ top → s ≢ sub → s ≢ x → s ≢ y → (to z).old s ≡ g.old s
          → (flag ((to z).linked s && not ((to z).old s)) + times s (x ∷ []) + times s (y ∷ [])
          ≡ flag (g.linked s && not (g.old s)) + times s (top ∷ []) + times s (sub ∷ []))
          × (flag ((to z).linked s && (to z).old s) ≡ flag (g.linked s && g.old s))
      other s nt ns nx ny o =
          let l = linked_as m later n g (turn z) i.tree.shape (turns z) s nt ns nx ny in
          let a = young_flags ((to z).linked s) ((to z).old s) (g.linked s) (g.old s) l o in
          let x' = not_one s x nx in
          let y' = not_one s y ny in
          let top' = not_one s top nt in
          let sub' = not_one s sub ns in
          (omega arith, old_flags ((to z).linked s) ((to z).old s) (g.linked s) (g.old s) l o)

  young_same : young_count (to z) n ≡ young_count g n
  young_same = swapped (λ s. flag (g.linked s && (not (s == 0) && not (g.old s))))
      (λ s. flag ((to z).linked s && (not (s == 0) && not ((to z).old s))))
      (λ s. ⊎_elim
      (λ (e : s ≡ 0).
      (let a = young_root ((to z).linked s) ((to z).old s) s e in
      let c = young_root (g.linked s) (g.old s) s e in
      let q = at_root s e in
      let q0 = q.0 in let q1 = q.1 in let q2 = q.2 in let q3 = q.3 in
      omega arith))
      (λ ne. (let a = young_node ((to z).linked s) ((to z).old s) s ne in let c = young_node (g.linked s) (g.old s) s ne in
      let f = (youngs s).0 in omega arith))
      (cases_eq s 0))

  old_same : old_count (to z) n ≡ old_count g n
  old_same = sum_equal (λ s. flag ((to z).linked s && (to z).old s)) (λ s. flag (g.linked s && g.old s)) n (λ s _. (youngs s).1)

  unraised_more : unraised_of (w z) ≡ unraised_of v + 1
  unraised_more =
      let a : unraised_hand v.hands.hand ≡ 1 = ap unraised_hand needs.hand_is.0 ∙ one_hand lower needs.unraised in
      let c = unraised_append (v.hands.retired ++ two) (joined_retired v.allowance.joined) in
      let e = unraised_append v.hands.retired two in
      let f = unraised_append v.hands.retired (joined_retired v.allowance.joined) in
      omega arith
    where
      one_hand : (held : Held) → held.raised ≡ false → unraised_hand (Some held) ≡ 1
      one_hand held e = ap (λ r. unraised_hand (Some (record held { raised = r }))) e

  emptied_same : emptied_among (w z).locks ≡ emptied_among v.locks
  emptied_same = emptied_change_same y (with_mark false) (λ q. refl) (λ l. refl)
      (change_lock x (with_mark false) (change_lock p (note_lock (known z)) v.locks))
      ∙ emptied_change_same x (with_mark false) (λ q. refl) (λ l. refl) (change_lock p (note_lock (known z)) v.locks)
      ∙ emptied_change_same p (note_lock (known z)) (λ q. refl) (λ l. refl) v.locks

  pub rotate_counts : CountParts k.tickets later n (to z) (us z) (hs z)
  rotate_counts =
      let emptied = emptied_same in
      let none : has v.moving ≡ 0 = ap has needs.settled in
      let none_now : has (w z).moving ≡ 0 = ap has (moving_same z ∙ needs.settled) in
      let ticket = needs.ticket in
      let unraised = unraised_more in
      let updates = ap length (two_updates v.allowance.place h x y (not_same z)) in
      let linked = linked_same in
      counts_by k.tickets m later n g (to z) vs id v (w z) h (hs z) there (record {
        free = refl;
        clock = omega arith;
        generations = omega arith;
        tags = omega arith;
        turns = omega arith;
        pairs = (let young = young_same in
            let pairs = ap (λ us. finite.len (map_of us)) (two_updates v.allowance.place h x y (not_same z)) in omega arith);
        olds = (let old = old_same in omega arith);
      }) i.counts

-- A rotation, K38, keeps the invariant.

module _ (z : RotateStep) where
  open z use {who.{k, m, vs, h, id, v, inv, inv.{chart as g}}, x, y}

  pub rotate_kept : IsKept k m h (new z) (us z) (hs z)
  rotate_kept = record {
    past = rotate_past z;
    invariant = record {
      table = inv.table;
      chart = to z;
      marks = rotate_marked z;
      seats = rotate_seats z;
      waiters = rotate_waiters z;
      slots = rotate_slots z;
      locks = rotate_locks z;
      counts = rotate_counts z;
      tree = record {
        shape = shape_after m (new z) (slot_count k) g (turn z) inv.tree.shape (turns z);
        map = subst (HoldsMap (new z) (to z)) (sym (two_map v.allowance.place h x y (not_same z)))
            (map_after m (new z) (slot_count k) g (turn z) inv.tree.shape (turns z) (map_now h) inv.tree.map);
        moves = rotate_moves z;
      };
      readers = rotate_readers z;
      front = rotate_front z;
      listings = rotate_listings z;
      grace = rotate_grace z;
    };
  }

pub keeps_rotate : (z : Stepper) (upper : Held) (p : ℕ) (b : Side) (x y top : ℕ) → NeedsRotate z.k.room z.v upper p b x y top
    → StepKeeps z (Link p b) top (after_rotate z.v p b x y top z.h) (rotate_marks x y)
keeps_rotate z upper p b x y top needs =
    subst (λ s. NeedsRotate z.k.room z.v upper p b x y s
    → StepKeeps z (Link p b) s (after_rotate z.v p b x y s z.h) (rotate_marks x y)) needs.spare_is.1
    (λ same. rotate_kept (record { who = z; upper = upper; p = p; b = b; x = x; y = y; needs = same })) needs

-- A wait begins, a gate is turned; what marks say of waits, and what a view notes of one that ended.
use Rattle.std.proofs.Common.{◌≡◌, ℕ, ◌+◌, ◌≤◌, false, List, set, Option, Some, refl, sym, ap, subst, ◌∙◌, inr, arith, suc, cond, [], ◌∷◌, ◌++◌, length, take, drop, ⊎_elim, inl, eq-eqb, ne_eqb, zero, ◌-◌, ◌<◌, ◌⊎◌, None, ◌≢◌, ◌||◌, Bool, map}
use mathlib.Core.Option.{some, some-ne-none, some-injective}
use mathlib.Core.List.{IsPrefix}
use lib.ListN.{get_elem?}
use Rattle.prcu_marks.specs.declared.mark.Mark.{Mark}
use Rattle.core_state.specs.declared.shape.Shape.{Shape}
use Rattle.core_state.specs.declared.words.Field.TheVariants.{Clock, Free, Gate}
use Rattle.core_state.specs.declared.view.Section.{Section}
use Rattle.core_state.specs.declared.view.Waiting.{Waiting}
use Rattle.core_state.specs.declared.view.View.{View}
use Rattle.core_state.specs.Memory.{has, Memory, slot_count, stored}
use Rattle.core_state.specs.Views.{Works, slots_of, spares_of, held_list, joined_retired, unraised_hand, unraised_among, unraised_of}
use Rattle.core_state.specs.Parts.{WaitStands, IsTurnedOnce, WaiterParts, turns_to_come, HasEnded, HasFewSlots, IsRetired, IsRetiredOf, AreHandsKnown, IsMoving, HasRetired, IsHandKnown}
use Rattle.core_state.specs.Invariant.{HoldsNow}
use Rattle.core_frames.proofs.Marks.{end_same, end_snoc, silent_same, SilentMarks, silent_snoc, begun-append, begun_at-append, NoWaitEnded, others_snoc, prefix_snoc, at_some}
use Rattle.core_frames.proofs.Views.{reader_words, slots_stay, writer_words, same_slots, in_times, few_below}
use Rattle.core_frames.proofs.PlaceFrames.{front_stays, front_frame, counts_still, sums_same, seat_frame_still, lock_frame, slots_by}
use Rattle.core_frames.proofs.TreeFrames.{listing_frame_still, emptied_still, readers_stay, see_by, IsForm, tree_by, moving_by, SameMoves, HadMove, same_form}
use Rattle.core_frames.proofs.WaitFrames.{AreLoaded, StandsExcused, clocked_same, excused_wait, turned_frame, waiters_by, wait_same, marks_snoc, mark_frame_by, reuse_snoc, grace_frame, grace_longer}
use Rattle.core_state.specs.declared.words.Field.{Field}
use Rattle.core_frames.proofs.WholeFrames.{whole, slot_half, seat_half, SeatHalf, SlotHalf, Stepper, StepKeeps, by_store, by_waiter_store}
use Rattle.core_state.specs.Marks.{begun, begun_at, AreMarks, WasLeft}
use Rattle.prcu_marks.specs.Marks.{open_at, entered_at, Open, next_open}
use Rattle.prcu_model.proofs.ListFacts.{prefix_self}
use Rattle.core_frames.proofs.PlainLaws.{clocked_before}
use Rattle.std.proofs.lemmas.List.{take-append-drop, take_all, length-map}
use Rattle.std.proofs.Math.Seq.{take-append_seam}
use Rattle.atomic_table.proofs.Lists.{at_last, drop_at, at_set, at_map}
use Rattle.prcu_marks.specs.declared.mark.Mark.TheVariants.{Began, Ended, Entered, Left}
use Rattle.prcu_marks.proofs.Marks.{open_at-snoc, entered_at-append}
use Rattle.core_state.specs.Steps.{NeedsBegin, after_begin, new_wait, spot_of, keys_of, NeedsGateTurn, after_gate_turn, turned_gate, is_grace_for, is_move_grace, waited_retired, waited_move}
use Rattle.list_laws.proofs.Lists.{at_end, times_here, times_other, at_below, each_set, somewhere_here, somewhere_set, somewhere_still}
use Rattle.core_frames.proofs.Roles.{works_there, place_within, open_entered}
use mathlib.Core.Logic.{dite}
use native.Mathlib.Decide.{dec_le, ℕ_discrete}
use Rattle.key_interval.specs.Keys.{MeetsClass}
use Rattle.list_laws.specs.Counts.{times, IsIn, Each}
use Rattle.std.proofs.lemmas.Bool.{or_left}
use Rattle.core_state.specs.declared.view.Move.{Move}
use Rattle.core_state.specs.declared.view.Retired.{Retired}
use Rattle.core_state.specs.Tree.{Chart, IsPending}

-- Steps that change of the waits only the view's own: what they keep.

-- what holds of the one wait that a view has
pub of_wait : (P : Waiting → Type 0) (o : Option Waiting) (wait x : Waiting) → o ≡ Some wait → P wait → o ≡ Some x → P x
of_wait P o wait x has p is = let q : Some wait ≡ Some x = sym has ∙ is in let e : wait ≡ x = cc in subst P e p

-- a wait of which only what it has excused and turned is another
pub same_stands : (h : List Mark) (u z : View) (wait : Waiting) (excused : List Field) (turned : List ℕ)
    → z.allowance.place ≡ u.allowance.place → Works z → z.counts.waits ≡ u.counts.waits → WaitStands h u wait
    → WaitStands h z (record wait { excused = excused; turned = turned })
same_stands h u z wait excused turned place works waits s = let r = wait_same h u z wait place works waits s in
    record { works = r.works; begins = r.begins; clock = r.clock; newest = r.newest; over = r.over; going = r.going }

-- The parts on waiters, after a step on no word in which readers show, that leaves sections: of its wait it says that no reader stands
-- in a spot that it has excused, and that it turned each gate once.
pub waiters_own : (k : Shape) (m m' : Memory) (vs : List View) (id : ℕ) (v w : View) (h h' : List Mark) (wait : Waiting)
    → get_elem? vs id ≡ some v → w.allowance.place ≡ v.allowance.place → w.section ≡ v.section → w.enter ≡ v.enter → w.wait ≡ Some wait
    → reader_words m' ≡ reader_words m → m' Clock ≡ begun h' → IsPrefix h h'
    → ((p : ℕ) → open_at p h' ≡ open_at p h) → AreLoaded vs h
    → ((j : ℕ) (u : View) (section : Section) → wait.ended ≡ false → get_elem? vs j ≡ some u → u.section ≡ Some section
    → StandsExcused k wait u section → ⊥) → IsTurnedOnce wait → WaiterParts k m vs h → WaiterParts k m' (set vs id w) h'
waiters_own k m m' vs id v w h h' wait there place section enter has words clock grows opens low none turned t =
    waiters_by k m m' vs id v w h h' there (record
    { place = place; section = section; announced = ap (λ x. x.announced) enter }) words clock opens
    (clocked_same k.waiter vs id v w h h' there grows low section (ap (λ x. x.clock) enter) t.clocked)
    (excused_wait k vs id v w there place section
    (λ x j u s is. of_wait (λ (z : Waiting). z.ended ≡ false → get_elem? vs j ≡ some u → u.section ≡ Some s → StandsExcused k z u s
    → ⊥) w.wait wait x has (none j u s) is) t.excused)
    (turned_frame vs id w (λ x is. of_wait IsTurnedOnce w.wait wait x has turned is) t.turned) t

module _ (k : Shape) (m m' : Memory) (vs : List View) (h : List Mark) (id : ℕ) (v : View) (i : HoldsNow k m vs h)
    (there : get_elem? vs id ≡ some v) (works : Works v) (wait : Waiting) (turns : ℕ)
    (quiet : writer_words m' ≡ writer_words m) (words : reader_words m' ≡ reader_words m) where
  abbrev with_wait : View
  with_wait = record v { wait = Some wait; counts = record v.counts { turns = turns } }

  -- Steps that change no more of a view than its wait and its turns, and no word in which readers show.
  pub wait_law : WaitStands h with_wait wait → ((j : ℕ) (u : View) (section : Section) → wait.ended ≡ false → get_elem? vs j ≡ some u
      → u.section ≡ Some section → StandsExcused k wait u section → ⊥) → IsTurnedOnce wait
      → turns + turns_to_come (Some wait) ≤ v.counts.turns + turns_to_come v.wait → HoldsNow k m' (set vs id with_wait) h
  wait_law stands none turned fewer =
      let slots = slots_stay m m' (λ n. (quiet n).slots) in
      let clock : m' Clock ≡ m Clock = (λ n. (quiet n).clock) in
      let front = front_stays m m' (λ n. (quiet n).front) (λ n. (quiet n).moved) in
      let free : m' Free ≡ m Free = (λ n. (quiet n).free) in
      whole k m' i.chart (set vs id with_wait) h i.table
      (slot_half k m vs h id v with_wait i there m' h slots (silent_same h) refl (λ one. one))
      (seat_half k m vs h id v with_wait i there works refl (inr (refl, refl))
      (λ x is. of_wait (WaitStands h with_wait) with_wait.wait wait x refl stands is))
      (waiters_own k m m' vs id v with_wait h h wait there refl refl refl refl words (clock ∙ i.waiters.clock) (prefix_self h) (λ p. refl)
      (clocked_before k m vs h i) none turned i.waiters)
      (counts_still k.tickets m m' (slot_count k) i.chart vs id v with_wait h h there
      (sums_same m m' (slot_count k) slots.nodes slots.state) refl
      (record {
        free = omega arith;
        clock = omega arith;
        generations = omega arith;
        tags = omega arith;
        turns = omega arith;
        pending = refl;
      }) i.counts)
      (front_frame m m' vs id v with_wait h h there front refl (λ e. e) (silent_same h) (end_same h) i.front)
      (listing_frame_still m m' slots.nodes i.chart h h (silent_same h) vs id v with_wait there refl i.listings)

-- K7, the beginning of a wait, keeps the invariant.

-- a wait that stands in the list is counted after it
begun_there : (p n low high : ℕ) (h : List Mark) (i : ℕ) → get_elem? h i ≡ some (Began p n low high)
    → begun_at p (take i h) + 1 ≤ begun_at p h
begun_there p n low high h i e =
    let a = begun_at-append p (take i h) (drop i h) in
    let b = ap (begun_at p) (take-append-drop i h) in
    let c = ap (begun_at p) (drop_at h i (Began p n low high) e) in
    let d : begun_at p (Began p n low high ∷ drop (suc i) h) ≡ 1 + begun_at p (drop (suc i) h) =
    ap (λ t. cond t 1 0 + begun_at p (drop (suc i) h)) (eq-eqb p p refl) in
    omega arith

-- the next wait of a place hasn't ended
not_ended : (places p : ℕ) (h : List Mark) → AreMarks places h → HasEnded h p (begun_at p h) → ⊥
not_ended places p h t has =
    let r = t.ended has.0 p (begun_at p h) has.1 in
    let b = t.began r.at p (begun_at p h) r.low r.high r.begins in
    let c = begun_there p (begun_at p h) r.low r.high h r.at r.begins in
    let d = b.count in
    absurd (omega arith)

module _ (k : Shape) (m : Memory) (vs : List View) (h : List Mark) (id : ℕ) (v : View) (i : HoldsNow k m vs h)
    (there : get_elem? vs id ≡ some v) (works : Works v) (low high : ℕ) (needs : NeedsBegin v low high) where
  abbrev w : View
  w = after_begin v low high (m Clock) h

  abbrev wait : Waiting
  wait = new_wait v low high (m Clock) h

  abbrev mark : Mark
  mark = Began v.allowance.place v.counts.waits low high

  abbrev hs : List Mark
  hs = h ++ mark ∷ []

  abbrev new : Memory
  new = stored m Clock (m Clock + 1)

  quiet : SilentMarks h hs
  quiet = silent_snoc h mark tt

  counted : v.counts.waits ≡ begun_at v.allowance.place h
  counted = (i.seats.counted id v there works).waits

  not_over : HasEnded h v.allowance.place v.counts.waits → ⊥
  not_over has = not_ended k.places v.allowance.place h i.marks.marks (subst (HasEnded h v.allowance.place) counted has)

  -- no wait ends, and this one hasn't
  waits : NoWaitEnded h hs
  waits = record {
    began = λ j p n from to over e. ⊎_elim (λ (o : get_elem? h j ≡ some (Began p n from to)). o)
        (λ x. absurd (let q : mark ≡ Began p n from to = x.1 in let place : v.allowance.place ≡ p = cc in
        let count : v.counts.waits ≡ n = cc in not_over
        (subst (λ (y : ℕ × ℕ). HasEnded h y.0 y.1) (λ l. (sym place l, sym count l)) over)))
        (at_end h mark (Began p n from to) j e);
    ended = λ j p n e. ⊎_elim (λ (o : get_elem? h j ≡ some (Ended p n)). o) (λ x. absurd (let q : mark ≡ Ended p n = x.1 in cc))
        (at_end h mark (Ended p n) j e);
  }

  stands : WaitStands hs w wait
  stands = record {
    works = works;
    begins = at_last h mark (length h) refl;
    clock = i.waiters.clock ∙ ap begun (sym (take-append_seam h (mark ∷ [])));
    newest = refl;
    over = λ e. absurd (cc);
    going = λ _ has. not_over (has.0, waits.ended has.0 v.allowance.place v.counts.waits has.1);
  }

  places : SeatHalf k (set vs id w) hs
  places =
      let begun_here : begun_at v.allowance.place hs ≡ begun_at v.allowance.place h + 1 =
      (let a = begun_at-append v.allowance.place h (mark ∷ []) in
      let b : begun_at v.allowance.place (mark ∷ []) ≡ 1 + 0 =
      ap (λ t. cond t 1 0 + 0) (eq-eqb v.allowance.place v.allowance.place refl) in omega arith) in
      let c = i.seats.counted id v there works in
      let before = c.waits in
      record {
        marks = mark_frame_by k.places vs id v w h hs there (prefix_snoc h mark) (inl refl)
            (marks_snoc k.places h mark (record {
              within = place_within k.places vs i.seats.placed id v.allowance.place v there (works_there v works);
              count = counted;
              ordered = needs.some;
              high_fits = needs.high_fits;
            }) i.marks.marks) i.marks
            (λ x is. of_wait (WaitStands hs w) w.wait wait x refl stands is)
            (λ j u x ne e s has. (has.0, waits.ended has.0 u.allowance.place x.count has.1));
        seats = seat_frame_still k.places vs id v w h hs there works (record { place = refl; places = refl; joined = refl; met = refl })
            (others_snoc v.allowance.place h mark (λ p ne. ne_eqb v.allowance.place p (λ e. ne (sym e)))) (inl refl)
            (record { sections = c.sections ∙ sym (entered_more v.allowance.place); waits = omega arith }) i.seats refl
            (open_at-snoc v.allowance.place h mark);
        grace = grace_frame vs id v w h hs there (λ s is. inr (s, is, refl, refl)) quiet waits refl refl refl refl
            (grace_longer h hs (prefix_snoc h mark) waits i.grace.grace) (reuse_snoc h mark tt i.grace.reuse) i.grace;
      }
    where
      entered_more : (p : ℕ) → entered_at p hs ≡ entered_at p h
      entered_more p = let a = entered_at-append p h (mark ∷ []) in let b : entered_at p (mark ∷ []) ≡ 0 = refl in omega arith

  begun_law : HoldsNow k new (set vs id w) hs
  begun_law =
      let slots = slots_stay m new refl in
      let clock = i.waiters.clock in
      let ticket = needs.ticket in
      whole k new i.chart (set vs id w) hs i.table (slot_half k m vs h id v w i there new hs slots quiet refl (λ one. one)) places
      (waiters_own k m new vs id v w h hs wait there refl refl refl refl refl
      (let a = begun-append h (mark ∷ []) in let b : begun (mark ∷ []) ≡ 1 = refl in omega arith) (prefix_snoc h mark)
      (λ p. open_at-snoc p h mark) (clocked_before k m vs h i)
      (λ j u section going e inside x. absurd (some-ne-none (spot_of k.waiter u.allowance.place section) (sym x.2.1)))
      (record { met = λ c some_class. absurd (omega arith); once = λ c. omega arith }) i.waiters)
      (counts_still k.tickets m new (slot_count k) i.chart vs id v w h hs there
      (sums_same m new (slot_count k) slots.nodes slots.state) quiet.updates
      (record {
        free = omega arith;
        clock = omega arith;
        generations = omega arith;
        tags = omega arith;
        turns = omega arith;
        pending = refl;
      }) i.counts)
      (front_frame m new vs id v w h hs there (front_stays m new refl refl) refl (λ e. e) quiet (end_snoc h mark tt) i.front)
      (listing_frame_still m new slots.nodes i.chart h hs quiet vs id v w there refl i.listings)

module _ (z : Stepper) where
  open z use {k, m, vs, h, id, v, inv, there, works}

  pub keeps_begin : (low high : ℕ) → NeedsBegin v low high
      → StepKeeps z Clock (m Clock + 1) (after_begin v low high (m Clock) h) (Began v.allowance.place v.counts.waits low high ∷ [])
  keeps_begin low high needs =
      by_store z Clock (m Clock + 1) (after_begin v low high (m Clock) h) (Began v.allowance.place v.counts.waits low high ∷ [])
      (slots_stay m (stored m Clock (m Clock + 1)) refl) (begun_law k m vs h id v inv there works low high needs)

-- K32, the turn of a gate, keeps the invariant.

module _ (k : Shape) (m : Memory) (vs : List View) (h : List Mark) (id : ℕ) (v : View) (i : HoldsNow k m vs h)
    (there : get_elem? vs id ≡ some v) (works : Works v) (wait : Waiting) (class left : ℕ) (needs : NeedsGateTurn v wait class) where
  abbrev turning : Waiting
  turning = record wait { turned = class ∷ wait.turned }

  not_yet : times class wait.turned ≡ 0
  not_yet = dite (dec_le 1 (times class wait.turned)) (λ some_time. absurd (needs.once (in_times class wait.turned some_time)))
      (λ no_time. omega arith)

  turned_now : IsTurnedOnce turning
  turned_now =
      let t = i.waiters.turned id v there wait needs.wait_is in
      record {
        met = λ c some_time. dite (ℕ_discrete class c)
            (λ e. subst (λ z. (z < 64) × MeetsClass (keys_of wait) z) e (needs.small, needs.met))
            (λ ne. let o = times_other c class wait.turned ne in t.met c (omega arith));
        once = λ c. dite (ℕ_discrete class c)
            (λ e. let o = subst (λ z. times z (class ∷ wait.turned) ≡ 1 + times z wait.turned) e (times_here class wait.turned) in
            let n = ap (λ z. times z wait.turned) e in let y = not_yet in omega arith)
            (λ ne. let o = times_other c class wait.turned ne in let y = t.once c in omega arith);
      }

  fewer_turns : v.counts.turns + 1 + turns_to_come (Some turning) ≤ v.counts.turns + turns_to_come v.wait
  fewer_turns =
      let few = few_below (class ∷ wait.turned) 64 (λ c some_time. (turned_now.met c some_time).0) turned_now.once in
      let before : turns_to_come v.wait ≡ 64 - length wait.turned =
      ap turns_to_come needs.wait_is ∙ ap (λ b. cond b 0 (64 - length wait.turned)) needs.going in
      let after : turns_to_come (Some turning) ≡ 64 - length (class ∷ wait.turned) =
      ap (λ b. cond b 0 (64 - length (class ∷ wait.turned))) needs.going in
      omega arith

  turned_law : HoldsNow k (stored m (Gate class) left) (set vs id (after_gate_turn v wait class)) h
  turned_law =
      let m' : Memory = stored m (Gate class) left in
      wait_law k m m' vs h id v i there works turning (v.counts.turns + 1) refl refl
      (same_stands h v (after_gate_turn v wait class) wait wait.excused (class ∷ wait.turned) refl works refl
      (i.marks.waits id v there wait needs.wait_is))
      (λ j u section going e inside x. i.waiters.excused id j v u wait section there needs.wait_is going e inside x.0 x.1 x.2) turned_now
      fewer_turns

module _ (z : Stepper) where
  open z use {k, m, vs, h, id, v, inv, there, works}

  pub keeps_gate_turn : (wait : Waiting) (class : ℕ) → NeedsGateTurn v wait class
      → StepKeeps z (Gate class) (turned_gate (m (Gate class))) (after_gate_turn v wait class) []
  keeps_gate_turn wait class needs =
      let left : ℕ = turned_gate (m (Gate class)) in
      by_waiter_store z (Gate class) left (after_gate_turn v wait class) (slots_stay m (stored m (Gate class) left) refl)
      (turned_law k m vs h id v inv there works wait class left needs)

-- What a list of marks says of a section that was entered: it was left, or is open. And that a wait began at one place of the list.

-- the beginning with one more mark
pub take_next : (h : List Mark) (j : ℕ) (a : Mark) → get_elem? h j ≡ some a → take (suc j) h ≡ take j h ++ a ∷ []
take_next [] j a e = absurd (some-ne-none a (sym e))
take_next (x ∷ h) zero a e = ap (λ z. z ∷ []) (some-injective x a e)
take_next (x ∷ h) (suc j) a e = ap (λ z. x ∷ z) (take_next h j a e)

pub take_length : (h : List Mark) (j : ℕ) → j ≤ length h → length (take j h) ≡ j
take_length h zero le = refl
take_length [] (suc j) le = absurd (omega arith)
take_length (x ∷ h) (suc j) le = let r = take_length h j (omega arith) in omega arith

abbrev pub entered_open : ℕ → ℕ → ℕ → Open
entered_open c x e = record { count = c; key = x; at = e }

module _ (places : ℕ) (h : List Mark) (t : AreMarks places h) (e q c x : ℕ) (entered : get_elem? h e ≡ some (Entered q c x)) where
  -- one mark more, where the section is still open before it
  step : (j : ℕ) (a : Mark) → e < j → get_elem? h j ≡ some a → open_at q (take j h) ≡ Some (entered_open c x e) → (n : ℕ)
      → WasLeft h q c e (suc j) ⊎ (next_open q n (Some (entered_open c x e)) a ≡ Some (entered_open c x e))
  step j (Entered p d y) lt at now n = dite (ℕ_discrete p q)
      (λ same. absurd (let none = (t.entered j p d y at).outside in
      let f : None ≡ Some (entered_open c x e) = sym none ∙ ap (λ z. open_at z (take j h)) same ∙ now in cc))
      (λ ne. inr (ap (λ b. cond b (Some (entered_open d y n)) (Some (entered_open c x e))) (ne_eqb p q ne)))
  step j (Left p d) lt at now n = dite (ℕ_discrete p q)
      (λ same. inl (let r = t.left j p d at in
      let f : Some r.0 ≡ Some (entered_open c x e) = sym r.1 ∙ ap (λ z. open_at z (take j h)) same ∙ now in
      let g : r.0 ≡ entered_open c x e = cc in
      let count : d ≡ c = sym r.2 ∙ ap (λ (o : Open). o.count) g in
      record { at = j; after = lt; before = omega arith; left = at ∙ (λ i. some (Left (same i) (count i))) }))
      (λ ne. inr (ap (λ b. cond b None (Some (entered_open c x e))) (ne_eqb p q ne)))
  step j _ lt at now n = inr refl

  upto : (d : ℕ) → e + 1 + d ≤ length h → WasLeft h q c e (e + 1 + d) ⊎ (open_at q (take (e + 1 + d) h) ≡ Some (entered_open c x e))
  upto zero le =
      let n : e + 1 + 0 ≡ suc e = omega arith in
      let long = take_length h e (omega arith) in
      inr (ap (λ z. open_at q (take z h)) n ∙ ap (open_at q) (take_next h e (Entered q c x) entered) ∙ open_entered q (take e h) c x
      ∙ ap (λ z. Some (entered_open c x z)) long)
  upto (suc d) le =
      let n : e + 1 + suc d ≡ suc (e + 1 + d) = omega arith in
      let next = at_some h (e + 1 + d) (omega arith) in
      subst (λ z. WasLeft h q c e z ⊎ (open_at q (take z h) ≡ Some (entered_open c x e))) (sym n) (⊎_elim
      (λ (w : WasLeft h q c e (e + 1 + d)). inl (record { at = w.at; after = w.after; before = omega (arith, w.before); left = w.left }))
      (λ (now : open_at q (take (e + 1 + d) h) ≡ Some (entered_open c x e)). ⊎_elim (λ w. inl w)
      (λ (f : next_open q (length (take (e + 1 + d) h)) (Some (entered_open c x e)) next.0 ≡ Some (entered_open c x e)).
      inr (ap (open_at q) (take_next h (e + 1 + d) next.0 next.1) ∙ open_at-snoc q (take (e + 1 + d) h) next.0
      ∙ ap (λ o. next_open q (length (take (e + 1 + d) h)) o next.0) now ∙ f))
      (step (e + 1 + d) next.0 (omega arith) next.1 now (length (take (e + 1 + d) h))))
      (upto d (omega arith)))

  -- by all marks it was left, or is open
  pub left_or_open : WasLeft h q c e (length h) ⊎ (open_at q h ≡ Some (entered_open c x e))
  left_or_open =
      let short = at_below h e (Entered q c x) entered in
      let n : e + 1 + (length h - (e + 1)) ≡ length h = omega arith in
      let all = upto (length h - (e + 1)) (omega arith) in
      subst (λ z. WasLeft h q c e (length h) ⊎ (open_at q z ≡ Some (entered_open c x e))) (take_all (length h) h (omega arith))
      (subst (λ z. WasLeft h q c e z ⊎ (open_at q (take z h) ≡ Some (entered_open c x e))) n all)

-- fewer waits were begun at a place before one of them than before a later mark
begun_at_less : (h : List Mark) (i j p n low high : ℕ) → get_elem? h i ≡ some (Began p n low high) → i < j
    → begun_at p (take i h) < begun_at p (take j h)
begun_at_less [] i j p n low high e lt = absurd (some-ne-none (Began p n low high) (sym e))
begun_at_less (x ∷ h) i zero p n low high e lt = absurd (omega arith)
begun_at_less (x ∷ h) zero (suc j) p n low high e lt =
    let a = begun_at-append p (x ∷ []) (take j h) in
    let b : begun_at p (x ∷ []) ≡ 1 + 0 = ap (λ z. begun_at p (z ∷ [])) (some-injective x (Began p n low high) e)
    ∙ ap (λ t. cond t 1 0 + 0) (eq-eqb p p refl) in
    omega arith
begun_at_less (x ∷ h) (suc i) (suc j) p n low high e lt =
    let a = begun_at-append p (x ∷ []) (take i h) in
    let b = begun_at-append p (x ∷ []) (take j h) in
    let r = begun_at_less h i j p n low high e (omega arith) in
    omega arith

-- a wait with its number began at one place of the list
pub began_once : (places : ℕ) (h : List Mark) → AreMarks places h → (i j p n a b low high : ℕ) → get_elem? h i ≡ some (Began p n a b)
    → get_elem? h j ≡ some (Began p n low high) → i ≡ j
began_once places h t i j p n a b low high ei ej =
    let first = (t.began i p n a b ei).count in
    let second = (t.began j p n low high ej).count in
    dite (dec_le (suc i) j) (λ before. absurd (let r = begun_at_less h i j p n a b ei (omega arith) in omega arith))
    (λ not_before. dite (dec_le (suc j) i) (λ after. absurd (let r = begun_at_less h j i p n low high ej (omega arith) in omega arith))
    (λ not_after. omega arith))

-- and it is one wait
pub began_same : (places : ℕ) (h : List Mark) → AreMarks places h → (i j p n a b low high : ℕ) → get_elem? h i ≡ some (Began p n a b)
    → get_elem? h j ≡ some (Began p n low high)
    → (i ≡ j) × (a ≡ low) × (b ≡ high)
began_same places h t i j p n a b low high ei ej =
    let one = began_once places h t i j p n a b low high ei ej in
    let same : Began p n a b ≡ Began p n low high =
    some-injective (Began p n a b) (Began p n low high) (sym ei ∙ ap (get_elem? h) one ∙ ej) in
    (one, (cc), (cc))

-- A view notes at its retired slots and its move that a wait was for them. The parts on slots, locks, the tree and readers don't read
-- that.

-- a move, whatever was waited for
abbrev pub bare : Move → Move
bare move = record move { waited = false }

module _ (wait : Waiting) where
  -- the retired slots are the same but for what is noted
  slots_noted_in : (rs rest : List Retired) → map (λ (r : Retired). r.slot) (map (waited_retired wait) rs ++ rest)
      ≡ map (λ (r : Retired). r.slot) (rs ++ rest)
  slots_noted_in [] rest = refl
  slots_noted_in (r ∷ rs) rest = ap (λ xs. r.slot ∷ xs) (slots_noted_in rs rest)

  unraised_noted_in : (rs rest : List Retired) → unraised_among (map (waited_retired wait) rs ++ rest) ≡ unraised_among (rs ++ rest)
  unraised_noted_in [] rest = refl
  unraised_noted_in (r ∷ rs) rest = ap (λ n. cond r.raised 0 1 + n) (unraised_noted_in rs rest)

  each_noted : (P : Retired → Type 0) (rs rest : List Retired) → ((r : Retired) → P r → P (waited_retired wait r)) → Each (rs ++ rest) P
      → Each (map (waited_retired wait) rs ++ rest) P
  each_noted P [] rest own all j a e = all j a e
  each_noted P (r ∷ rs) rest own all zero a e = subst P (some-injective (waited_retired wait r) a e) (own r (all 0 r refl))
  each_noted P (r ∷ rs) rest own all (suc j) a e = each_noted P rs rest own (λ n b g. all (suc n) b g) j a e

  in_noted : (rs rest : List Retired) (r : Retired) → IsIn (rs ++ rest) r
      → (z : Retired) × IsIn (map (waited_retired wait) rs ++ rest) z × (z.slot ≡ r.slot)
  in_noted [] rest r there = (r, there, refl)
  in_noted (x ∷ rs) rest r (zero, e) = (waited_retired wait x, (0, refl), ap (λ (z : Retired). z.slot) (some-injective x r e))
  in_noted (x ∷ rs) rest r (suc j, e) = let q = in_noted rs rest r (j, e) in (q.0, (suc q.1.0, q.1.1), q.2)

  -- the move that stood before what is noted of it
  record MoveBefore (o : Option Move) (move : Move) : Type 0 where
    pub before : Move
    pub waited : Bool
    pub had : o ≡ Some before
    pub same : record before { waited = waited } ≡ move

  -- the move is the same but for what is noted
  move_back : (o : Option Move) (move : Move) → waited_move wait o ≡ Some move
      → MoveBefore o move
  move_back None move e = absurd (cc)
  move_back (Some z) move e = record { before = z; waited = z.waited || is_move_grace wait z; had = refl; same = cc }

  move_on : (o : Option Move) (z : Move) → o ≡ Some z → (move : Move) × (waited_move wait o ≡ Some move) × (bare move ≡ bare z)
  move_on o z e = (record z { waited = z.waited || is_move_grace wait z }, ap (waited_move wait) e, refl)

  has_noted_in : (o : Option Move) → has (waited_move wait o) ≡ has o
  has_noted_in None = refl
  has_noted_in (Some z) = refl

module _ (vs : List View) (id : ℕ) (v : View) (there : get_elem? vs id ≡ some v) (wait : Waiting) where
  abbrev view_noted : View
  view_noted = record v {
    hands = record v.hands { retired = map (waited_retired wait) v.hands.retired };
    moving = waited_move wait v.moving;
  }

  pub slots_noted : slots_of view_noted ≡ slots_of v
  slots_noted = ap (λ xs. held_list v.hands.hand ++ (spares_of v ++ xs))
      (slots_noted_in wait v.hands.retired (joined_retired v.allowance.joined))

  pub unraised_noted : unraised_of view_noted ≡ unraised_of v
  unraised_noted = ap (λ n. unraised_hand v.hands.hand + n) (unraised_noted_in wait v.hands.retired (joined_retired v.allowance.joined))

  pub moves_noted : has view_noted.moving ≡ has v.moving
  moves_noted = has_noted_in wait v.moving

  pending_on : (z : Move) → IsPending vs z → (move : Move) × IsPending (set vs id view_noted) move × (bare move ≡ bare z)
  pending_on z p = ⊎_elim
      (λ (is : v.moving ≡ Some z). let x = move_on wait v.moving z is in (x.0, somewhere_here vs id v view_noted there x.1, x.2))
      (λ (still : IsPending (set vs id view_noted) z). (z, still, refl)) (somewhere_set vs id v view_noted there p)

  module _ (m : Memory) (g : Chart) (h : List Mark) where
    retired_noted : (r : Retired) → IsRetired m h r → IsRetired m h (waited_retired wait r)
    retired_noted r i = record {
      unlinked = i.unlinked;
      some_slot = i.some_slot;
      marked = i.marked;
      life = i.life;
      stays = i.stays;
      unmarked = i.unmarked;
      after_wait = λ e. or_left r.waited (is_grace_for wait r.unlinked) (i.after_wait e);
    }

    hands_noted : AreHandsKnown m v → AreHandsKnown m view_noted
    hands_noted i = record {
      hand = i.hand;
      spare = i.spare;
      copy = λ move is. (let x = move_back wait v.moving move is in
          subst (λ (z : Move). IsHandKnown m z.copy) x.same (i.copy x.before x.had));
      spares = i.spares;
    }

    few_noted : {most : ℕ} → HasFewSlots most v → HasFewSlots most view_noted
    few_noted i = record {
      one = i.one;
      few = (let e = length-map v.hands.retired (waited_retired wait) in let f = i.few in omega arith);
      room = λ move is. (let x = move_back wait v.moving move is in let e = length-map v.hands.retired (waited_retired wait) in
          let f = i.room x.before x.had in omega arith);
      joined = i.joined;
      next_spare = λ works none. (let r = i.next_spare works none in record {
        retired = waited_retired wait r.retired;
        has = (r.has.0, at_map (waited_retired wait) v.hands.retired r.has.0 r.retired r.has.1);
        unraised = r.unraised;
      });
    }

    unlinked_noted : (s : ℕ) → IsRetiredOf vs s → IsRetiredOf (set vs id view_noted) s
    unlinked_noted s = somewhere_still vs id v view_noted there (λ (r : HasRetired v s).
        let x = in_noted wait v.hands.retired (joined_retired v.allowance.joined) r.retired r.has in
        record { retired = x.0; has = x.1; slot = x.2 ∙ r.slot })

    moving_noted : (z : Move) (b : Bool) → IsMoving m g h v z → IsMoving m g h view_noted (record z { waited = b })
    moving_noted z b = moving_by m m (same_slots m).nodes g h h v view_noted z b z.copy.known (λ n x e. e) refl (λ s which. refl) (λ r x. x)
        (λ r x. x)

    form : (a b : Move) → bare b ≡ bare a → IsForm a b
    form a b e = record {
      key = ap (λ (z : Move). z.key) e;
      next_key = ap (λ (z : Move). z.next_key) e;
      copy = ap (λ (z : Move). z.copy.slot) e;
      old = ap (λ (z : Move). z.old) e;
      made = ap (λ (z : Move). z.made) e;
    }

    -- a view that has a move now had one, of the same old successor and copy
    had_move : (j : ℕ) (u : View) (move : Move) → get_elem? (set vs id view_noted) j ≡ some u → u.moving ≡ Some move → HadMove vs j move
    had_move j u move e is =
        ⊎_elim
        (λ (t : (j ≡ id) × (view_noted ≡ u)). let x = move_back wait v.moving move (ap (λ (y : View). y.moving) t.1 ∙ is) in record {
          view = v;
          before = x.before;
          stands = subst (λ n. get_elem? vs n ≡ some v) (sym t.0) there;
          has_it = x.had;
          form = form x.before move (ap bare (sym x.same));
        })
        (λ (t : (j ≢ id) × (get_elem? vs j ≡ some u)). record {
          view = u;
          before = move;
          stands = t.1;
          has_it = is;
          form = same_form move;
        })
        (at_set vs id j view_noted u e)

    forms_noted : SameMoves vs (set vs id view_noted)
    forms_noted = record { forth = λ a p. (let x = pending_on a p in (x.0, x.1, form a x.0 x.2)); back = had_move }

    -- so a step that notes it keeps all of them
    pub noted_half : (k : Shape) → SlotHalf k m g vs h → SlotHalf k m g (set vs id view_noted) h
    noted_half k t = record {
      slots = slots_by m (slot_count k) g vs id v view_noted h there (λ s. ap (times s) slots_noted) few_noted hands_noted
          (λ i. each_noted wait (IsRetired m h) v.hands.retired (joined_retired v.allowance.joined) retired_noted i) unlinked_noted t.slots;
      locks = lock_frame m m (slot_count k) g vs id v view_noted there (same_slots m) (record {
        place = refl;
        locks = refl;
        unraised = λ s x. record {
          retired = waited_retired wait x.retired;
          has = (x.has.0, at_map (waited_retired wait) v.hands.retired x.has.0 x.retired x.has.1);
          slot = x.slot;
          unraised = x.unraised;
        };
        settled = λ e. ap (waited_move wait) e;
        outside = λ section is. (t.locks.few id v there).outside section is;
        readings = λ r has. inl has;
      }) t.locks;
      tree = tree_by m m (slot_count k) g vs (set vs id view_noted) h h (same_slots m).nodes (silent_same h) forms_noted
          (each_set (λ j u. (move : Move) → u.moving ≡ Some move → IsMoving m g h u move) vs id view_noted
          (λ move is. (let x = move_back wait v.moving move is in
          subst (IsMoving m g h view_noted) x.same (moving_noted x.before x.waited (t.tree.moves.each id v there x.before x.had))))
          (λ j u ne e. t.tree.moves.each j u e)) t.tree;
      readers = readers_stay m m (same_slots m).nodes g vs id v view_noted h h there (silent_same h)
          (see_by vs (set vs id view_noted) forms_noted (emptied_still vs id v view_noted there refl)) refl refl t.readers;
    }

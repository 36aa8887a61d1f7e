-- Steps on the free count, on the front and on the word of a move: what they keep, where they change no more of a view than its tickets, what
-- it has reserved or owes, its commit, its latest numbers, or what it has seen.
use Rattle.std.proofs.Common.{◌≡◌, ℕ, ◌⊎◌, Bool, true, List, ◌∷◌, ◌++◌, set, Option, None, refl, subst, ⊎_elim, inl, inr, ◌+◌, ◌*◌, ◌==◌, false, cond, length, Some, sym, ◌∙◌, arith, eqb-true, ◌-◌, ap, []}
use mathlib.Core.Option.{some}
use lib.ListN.{get_elem?}
use Rattle.prcu_marks.specs.declared.mark.Mark.{Mark}
use Rattle.prcu_marks.specs.declared.mark.Mark.TheVariants.{Given, Freed, Moved as MovedMark}
use Rattle.core_state.specs.declared.shape.Shape.{Shape}
use Rattle.core_state.specs.declared.words.Field.TheVariants.{Clock, Front, Free, Moved}
use Rattle.core_state.specs.declared.view.Latest.{Latest}
use Rattle.prcu_marks.specs.declared.commit.Commit.{Commit}
use Rattle.core_state.specs.declared.view.View.{View}
use Rattle.core_state.specs.Memory.{Memory, slot_count, stored, flag}
use Rattle.core_state.specs.Views.{Works}
use Rattle.core_state.specs.Parts.{FrontParts, IsOddHere}
use Rattle.core_state.specs.Invariant.{HoldsNow}
use Rattle.core_frames.proofs.Marks.{SilentMarks, PlainMarks, end_same, plain_one, reuse_more, silent_moved, silent_same, waits_snoc}
use Rattle.core_frames.proofs.Views.{SameSlots, same_slots, reader_words, slots_stay}
use Rattle.core_frames.proofs.PlaceFrames.{NumbersStep, numbers_of, counts_still, sums_same, numbers_stay, count_frame, front_frame, front_stays, last_by, not_moved, odd_by}
use Rattle.core_frames.proofs.TreeFrames.{listing_frame_still}
use Rattle.core_frames.proofs.WholeFrames.{SeatHalf, SameForMore, same_for_more, mark_frame_plain, seat_frame_plain, waiter_frame_plain, whole, slot_half, seat_half, wait_still, waiters_stay, Stepper, StepKeeps, by_store, by_waiter_store, only_loaded, no_mark, kept}
use Rattle.core_frames.proofs.WaitFrames.{grace_frame, grace_snoc, marks_snoc}
use Rattle.core_frames.proofs.PlainLaws.{clocked_before}
use Rattle.prcu_marks.specs.Marks.{updates_of, updates_by, moves_in}
use Rattle.prcu_marks.proofs.Marks.{moves_in-append, updates_behind-fresh}
use Rattle.core_state.specs.Marks.{IsReused}
use Rattle.prcu_model.specs.Dictionary.{IsLegal}
use Rattle.list_laws.specs.Counts.{Each}
use Rattle.core_state.specs.Steps.{NeedsOpenCommit, with_front, NeedsCloseCommit, after_close_commit, after_open_commit, NeedsGiveFrontBack, NeedsStoreMoved, after_store_moved, after_load_moved}
use Rattle.list_laws.proofs.Lists.{each_set, only_here}
use Rattle.core_frames.specs.Laws.{IsKept}
use Rattle.core_state.specs.Links.{NeedsReserve, NeedsCountFree, after_count_free, after_reserve, reserving, with_free}

module _ (k : Shape) (m m' : Memory) (vs : List View) (h : List Mark) (id : ℕ) (v : View) (i : HoldsNow k m vs h)
    (there : get_elem? vs id ≡ some v) (works : Works v)
    (tickets : ℕ) (reserved owes : Bool) (commit : Option Commit) (latest : Latest) (seen : List Mark) where
  abbrev w : View
  w = record v {
    allowance = record v.allowance { tickets = tickets };
    hands = record v.hands { reserved = reserved; owes = owes };
    commit = commit;
    latest = latest;
    seen = seen;
  }

  -- Where counts and front are right, the invariant is kept.
  pub number_law : SameSlots m m' → m' Clock ≡ m Clock → reader_words m' ≡ reader_words m → (seen ≡ h) ⊎ (seen ≡ v.seen)
      → (reserved ≡ true → v.hands.hand ≡ None)
      → NumbersStep m m' (numbers_of v) (numbers_of w) → FrontParts m' (set vs id w) h → HoldsNow k m' (set vs id w) h
  number_law slots clock words known one numbers front =
      whole k m' i.chart (set vs id w) h i.table (slot_half k m vs h id v w i there m' h slots (silent_same h) refl (λ _. one))
      (seat_half k m vs h id v w i there works refl (⊎_elim (λ e. inl e) (λ e. inr (refl, e)) known)
      (wait_still k m vs h id v w i there refl refl))
      (waiters_stay k m m' vs h id v w i there clock words refl)
      (counts_still k.tickets m m' (slot_count k) i.chart vs id v w h h there
      (sums_same m m' (slot_count k) slots.nodes slots.state) refl numbers i.counts) front
      (listing_frame_still m m' slots.nodes i.chart h h (silent_same h) vs id v w there refl i.listings)

  -- Where the front and the commit are as they were, only the counts have to be right.
  pub free_law : SameSlots m m' → m' Clock ≡ m Clock → m' Front ≡ m Front → m' Moved ≡ m Moved → reader_words m' ≡ reader_words m
      → commit ≡ v.commit
      → (seen ≡ h) ⊎ (seen ≡ v.seen) → (reserved ≡ true → v.hands.hand ≡ None) → NumbersStep m m' (numbers_of v) (numbers_of w)
      → HoldsNow k m' (set vs id w) h
  free_law slots clock front moved words same known one numbers =
      number_law slots clock words known one numbers
      (front_frame m m' vs id v w h h there (front_stays m m' front moved) same (λ e. e) (silent_same h) (end_same h) i.front)

-- only the latest numbers and what was seen change, and no word
pub seen_law : (k : Shape) (m : Memory) (vs : List View) (h : List Mark) (id : ℕ) (v : View) (i : HoldsNow k m vs h)
    → get_elem? vs id ≡ some v → Works v → (latest : Latest) (seen : List Mark) → (seen ≡ h) ⊎ (seen ≡ v.seen)
    → HoldsNow k m (set vs id (record v { latest = latest; seen = seen })) h
seen_law k m vs h id v i there works latest seen known =
    free_law k m m vs h id v i there works v.allowance.tickets v.hands.reserved v.hands.owes v.commit latest seen
    (same_slots m) refl refl refl refl refl known (i.slots.few id v there).one
    (numbers_stay m m (numbers_of v) (numbers_of v) refl refl refl)

-- The steps on the front keep the invariant: K19, K24 and K39.

module _ (k : Shape) (m : Memory) (vs : List View) (h : List Mark) (id : ℕ) (v : View) (i : HoldsNow k m vs h)
    (there : get_elem? vs id ≡ some v) (works : Works v) where
  -- K19: the front is made odd
  abbrev odd_view : ℕ → View
  odd_view expected = record (with_front v (expected + 1)) { commit = Some (record { found = expected; stored = false }) }

  opened_at : (expected : ℕ) → NeedsOpenCommit v expected → m Front ≡ expected
      → FrontParts (stored m Front (expected + 1)) (set vs id (odd_view expected)) h
  opened_at expected needs is =
      let w : View = odd_view expected in
      record {
        turned = ⊎_elim
            (λ (t : (m Front ≡ 2 * length (updates_of h) + m Moved) × Each vs (λ (u : View). u.commit ≡ None)).
            let front = t.0 in
            let even = needs.even in
            let word = i.front.last.word in
            let once = i.front.last.once in
            let here : m Moved ≡ 0 = omega arith in
            inr (record {
              here = here;
              odd = only_here vs id v w there
                  (record { commit = record { found = expected; stored = false }; has = refl; word = refl; updates = omega arith })
                  (λ j u _ e. t.1 j u e);
            }))
            (λ (t : IsOddHere m vs (length (updates_of h))). absurd
            (let a = t.odd.has.word in let b = t.odd.has.updates in let e = needs.even in let c = made_even t.odd.has.commit in omega arith))
            i.front.turned;
        last = last_by m (stored m Front (expected + 1)) h h refl (end_same h) i.front.last;
        settled = each_set (λ j u. (x : Commit) → u.commit ≡ Some x → x.stored ≡ false → u.moving ≡ None) vs id w
            (λ x is unmade. needs.settled) (λ j u ne e. i.front.settled j u e);
        legal = i.front.legal;
      }
    where
      made_even : (commit : Commit) → (updates_by commit ≡ commit.found) ⊎ (updates_by commit ≡ commit.found + 2)
      made_even commit = elim commit.stored as (λ b. (commit.found + cond b 2 0 ≡ commit.found)
          ⊎ (commit.found + cond b 2 0 ≡ commit.found + 2)) [ true ↦ inr refl | false ↦ inl (omega arith) ]

  opened_law : (expected : ℕ) → NeedsOpenCommit v expected → m Front ≡ expected
      → HoldsNow k (stored m Front (expected + 1)) (set vs id (odd_view expected)) h
  opened_law expected needs is =
      let m' : Memory = stored m Front (expected + 1) in
      let w : View = odd_view expected in
      number_law k m m' vs h id v i there works v.allowance.tickets v.hands.reserved v.hands.owes w.commit w.latest v.seen
      (slots_stay m m' refl) refl refl (inr refl) (i.slots.few id v there).one
      (numbers_stay m m' (numbers_of v) (numbers_of v) refl refl refl)
      (opened_at expected needs is)

  -- the front is made even again, as twice the number of updates
  even_again : (front : ℕ) (commit : Commit) → v.commit ≡ Some commit → updates_by commit ≡ front
      → HoldsNow k (stored m Front front) (set vs id (after_close_commit v front)) h
  even_again front commit mine is =
      let m' : Memory = stored m Front front in
      let w : View = after_close_commit v front in
      let odd = odd_by m vs h id v there i.front commit mine in
      number_law k m m' vs h id v i there works v.allowance.tickets v.hands.reserved v.hands.owes None w.latest v.seen
      (slots_stay m m' refl) refl refl (inr refl) (i.slots.few id v there).one
      (numbers_stay m m' (numbers_of v) (numbers_of v) refl refl refl)
      (record {
        turned = inl (
          (let here = not_moved m vs h id v there i.front commit mine in let count = odd.1 in omega arith),
          each_set (λ j u. u.commit ≡ None) vs id w refl (λ j u ne e. odd.2 j u ne e),
        );
        last = last_by m m' h h refl (end_same h) i.front.last;
        settled = each_set (λ j u. (x : Commit) → u.commit ≡ Some x → x.stored ≡ false → u.moving ≡ None) vs id w
            (λ x none unmade. absurd (let q : None ≡ Some x = none in cc)) (λ j u ne e. i.front.settled j u e);
        legal = i.front.legal;
      })

  -- K24: after the update
  closed_law : (front : ℕ) → NeedsCloseCommit v front → HoldsNow k (stored m Front front) (set vs id (after_close_commit v front)) h
  closed_law front needs = even_again front (record { found = needs.0; stored = true }) needs.1 (sym needs.2)

  -- K39: without an update
  given_back_law : (front : ℕ) → NeedsGiveFrontBack v front → HoldsNow k (stored m Front front) (set vs id (after_close_commit v front)) h
  given_back_law front needs = even_again front (record { found = front; stored = false }) needs (omega arith)

  -- an exchange of the front, by its test
  turns_odd : (expected : ℕ) (hit : Bool) → NeedsOpenCommit v expected → (m Front == expected) ≡ hit
      → IsKept k m h (stored m Front (cond hit (expected + 1) (m Front)))
      (set vs id (cond hit (odd_view expected) (with_front v (m Front)))) h
  turns_odd expected true needs hit =
      let m' : Memory = stored m Front (expected + 1) in
      kept k m m' h (set vs id (odd_view expected)) h (slots_stay m m' refl) (opened_law expected needs (eqb-true (m Front) expected hit))
  turns_odd expected false needs hit = only_loaded k m h Front (set vs id (with_front v (m Front))) h
      (seen_law k m vs h id v i there works (record v.latest { front = Some (m Front) }) v.seen (inr refl))

module _ (z : Stepper) where
  open z use {k, m, vs, h, id, v, inv, there, works}

  pub keeps_open_commit : (expected : ℕ) → NeedsOpenCommit v expected
      → StepKeeps z Front (cond (m Front == expected) (expected + 1) (m Front)) (after_open_commit v expected (m Front)) []
  keeps_open_commit expected needs = no_mark k m (stored m Front (cond (m Front == expected) (expected + 1) (m Front))) h
      (set vs id (after_open_commit v expected (m Front)))
      (turns_odd k m vs h id v inv there works expected (m Front == expected) needs refl)

  pub keeps_close_commit : (front : ℕ) → NeedsCloseCommit v front → StepKeeps z Front front (after_close_commit v front) []
  keeps_close_commit front needs = by_waiter_store z Front front (after_close_commit v front) (slots_stay m (stored m Front front) refl)
      (closed_law k m vs h id v inv there works front needs)

  pub keeps_give_front_back : (front : ℕ) → NeedsGiveFrontBack v front → StepKeeps z Front front (after_close_commit v front) []
  keeps_give_front_back front needs = by_waiter_store z Front front (after_close_commit v front) (slots_stay m (stored m Front front) refl)
      (given_back_law k m vs h id v inv there works front needs)

-- The steps on the word of a move keep the invariant: K41 and K42.

module _ (k : Shape) (m : Memory) (vs : List View) (h : List Mark) (id : ℕ) (v : View) (i : HoldsNow k m vs h)
    (there : get_elem? vs id ≡ some v) (works : Works v) where
  -- K41: from now on the front is odd by no view
  module _ (needs : NeedsStoreMoved v) where
    abbrev new : Memory
    new = stored m Moved 1

    abbrev moved_view : View
    moved_view = after_store_moved v h

    abbrev hs : List Mark
    hs = h ++ MovedMark ∷ []

    quiet : SilentMarks h hs
    quiet = silent_moved h

    plain : PlainMarks v.allowance.place h hs
    plain = plain_one v.allowance.place h MovedMark tt

    same : SameForMore v moved_view hs
    same = same_for_more refl

    here : m Moved ≡ 0
    here = not_moved m vs h id v there i.front (record { found = needs.found; stored = false }) needs.commit

    fresh : moves_in h ≡ 0
    fresh = sym i.front.last.word ∙ here

    moves : moves_in hs ≡ 1
    moves = let e = moves_in-append h (MovedMark ∷ []) in let none = fresh in let one : moves_in (MovedMark ∷ []) ≡ 1 = refl in omega arith

    unused : (s : ℕ) → IsReused MovedMark s → ⊥
    unused s = ⊎_elim (λ (e : MovedMark ≡ Given s). absurd (cc)) (λ (e : MovedMark ≡ Freed s). absurd (cc))

    places : SeatHalf k (set vs id moved_view) hs
    places = record {
      marks = mark_frame_plain h hs v.allowance.place plain k.places vs id v moved_view there same (marks_snoc k.places h MovedMark tt i.marks.marks)
          i.marks;
      seats = seat_frame_plain h hs v.allowance.place plain k.places vs id v moved_view there works refl same i.seats;
      grace = grace_frame vs id v moved_view h hs there (λ s is. inr (s, is, refl, refl)) quiet (waits_snoc h MovedMark tt) refl refl refl refl
          (grace_snoc h MovedMark tt i.grace.grace) (reuse_more h MovedMark unused i.grace.reuse) i.grace;
    }

    front : FrontParts new (set vs id moved_view) hs
    front =
        let commit : Commit = record { found = needs.found; stored = false } in
        let odd = odd_by m vs h id v there i.front commit needs.commit in
        let word = odd.0 in
        let count = odd.1 in
        let updates = ap length quiet.updates in
        let now : m Front ≡ 2 * length (updates_of hs) + 1 = omega arith in
        record {
          turned = inl (now, each_set (λ j u. u.commit ≡ None) vs id moved_view refl (λ j u ne e. odd.2 j u ne e));
          last = record { word = sym moves; once = (let one = moves in omega arith); none = updates_behind-fresh h (MovedMark ∷ []) fresh };
          settled = each_set (λ j u. (x : Commit) → u.commit ≡ Some x → x.stored ≡ false → u.moving ≡ None) vs id moved_view
              (λ x none unmade. absurd (let q : None ≡ Some x = none in cc)) (λ j u ne e. i.front.settled j u e);
          legal = subst IsLegal (sym quiet.updates) i.front.legal;
        }

    moved_law : HoldsNow k new (set vs id moved_view) hs
    moved_law =
        let slots = slots_stay m new refl in
        whole k new i.chart (set vs id moved_view) hs i.table (slot_half k m vs h id v moved_view i there new hs slots quiet refl (λ one. one)) places
        (waiter_frame_plain h hs v.allowance.place plain k m new vs id v moved_view there same refl refl (clocked_before k m vs h i) i.waiters)
        (count_frame k.tickets m new (slot_count k) i.chart vs id v moved_view h hs there slots refl refl refl quiet i.counts) front
        (listing_frame_still m new slots.nodes i.chart h hs quiet vs id v moved_view there refl i.listings)

  -- K42, by its test
  loads_moved : (none : Bool) → IsKept k m h (stored m Moved (m Moved)) (set vs id (cond none v (record v { seen = h }))) h
  loads_moved true = only_loaded k m h Moved (set vs id v) h (seen_law k m vs h id v i there works v.latest v.seen (inr refl))
  loads_moved false = only_loaded k m h Moved (set vs id (record v { seen = h })) h (seen_law k m vs h id v i there works v.latest h (inl refl))

module _ (z : Stepper) where
  open z use {k, m, vs, h, id, v, inv, there, works}

  pub keeps_store_moved : NeedsStoreMoved v → StepKeeps z Moved 1 (after_store_moved v h) (MovedMark ∷ [])
  keeps_store_moved needs = by_store z Moved 1 (after_store_moved v h) (MovedMark ∷ []) (slots_stay m (stored m Moved 1) refl)
      (moved_law k m vs h id v inv there works needs)

  pub keeps_load_moved : StepKeeps z Moved (m Moved) (after_load_moved v (m Moved) h) []
  keeps_load_moved = no_mark k m (stored m Moved (m Moved)) h (set vs id (after_load_moved v (m Moved) h))
      (loads_moved k m vs h id v inv there works (m Moved == 0))

-- The steps on the free count keep the invariant: K10 and K16.

module _ (k : Shape) (m : Memory) (vs : List View) (h : List Mark) (id : ℕ) (v : View) (i : HoldsNow k m vs h)
    (there : get_elem? vs id ≡ some v) (works : Works v) where
  -- K10: a slot is reserved
  reserved_law : (expected : ℕ) (latest : Latest) → NeedsReserve v expected → m Free ≡ expected
      → HoldsNow k (stored m Free (expected - 1)) (set vs id
      (record v {
        allowance = record v.allowance { tickets = v.allowance.tickets - 1 };
        hands = record v.hands { reserved = true };
        latest = latest;
      })) h
  reserved_law expected latest needs is =
      let m' : Memory = stored m Free (expected - 1) in
      let some = needs.some in
      let ticket = needs.ticket in
      let was_not = ap flag needs.unreserved in
      free_law k m m' vs h id v i there works (v.allowance.tickets - 1) true v.hands.owes v.commit latest v.seen
      (slots_stay m m' refl) refl refl refl refl refl (inr refl) (λ x. needs.empty)
      (record {
        free = omega arith;
        clock = omega arith;
        generations = omega arith;
        tags = omega arith;
        turns = omega arith;
        pending = refl;
      })

  -- K16: a slot that was freed is counted
  counted_law : (n : ℕ) → m Free ≡ n → NeedsCountFree v → HoldsNow k (stored m Free (n + 1)) (set vs id (after_count_free v n)) h
  counted_law n is needs =
      let m' : Memory = stored m Free (n + 1) in
      let owed = ap flag needs in
      free_law k m m' vs h id v i there works v.allowance.tickets v.hands.reserved false v.commit (after_count_free v n).latest v.seen
      (slots_stay m m' refl) refl refl refl refl refl (inr refl) (i.slots.few id v there).one
      (record {
        free = omega arith;
        clock = omega arith;
        generations = omega arith;
        tags = omega arith;
        turns = omega arith;
        pending = refl;
      })

  -- the exchange, by the two tests
  reserves : (expected : ℕ) (hit none : Bool) → NeedsReserve v expected → (m Free == expected) ≡ hit
      → IsKept k m h (stored m Free (cond hit (expected - 1) (m Free)))
      (set vs id (cond hit (reserving (with_free v (expected - 1)))
      (cond none (record (with_free v 0) { seen = h }) (with_free v (m Free))))) h
  reserves expected true none needs hit =
      let m' : Memory = stored m Free (expected - 1) in
      kept k m m' h (set vs id (reserving (with_free v (expected - 1)))) h (slots_stay m m' refl)
      (reserved_law expected (record v.latest { free = Some (expected - 1) }) needs (eqb-true (m Free) expected hit))
  reserves expected false true needs hit = only_loaded k m h Free (set vs id (record (with_free v 0) { seen = h })) h
      (seen_law k m vs h id v i there works (record v.latest { free = Some 0 }) h (inl refl))
  reserves expected false false needs hit = only_loaded k m h Free (set vs id (with_free v (m Free))) h
      (seen_law k m vs h id v i there works (record v.latest { free = Some (m Free) }) v.seen (inr refl))

module _ (z : Stepper) where
  open z use {k, m, vs, h, id, v, inv, there, works}

  pub keeps_reserve : (expected : ℕ) → NeedsReserve v expected
      → StepKeeps z Free (cond (m Free == expected) (expected - 1) (m Free)) (after_reserve v expected (m Free) h) []
  keeps_reserve expected needs = no_mark k m (stored m Free (cond (m Free == expected) (expected - 1) (m Free))) h
      (set vs id (after_reserve v expected (m Free) h))
      (reserves k m vs h id v inv there works expected (m Free == expected) (m Free == 0) needs refl)

  pub keeps_count_free : NeedsCountFree v → StepKeeps z Free (m Free + 1) (after_count_free v (m Free)) []
  keeps_count_free needs = by_waiter_store z Free (m Free + 1) (after_count_free v (m Free))
      (slots_stay m (stored m Free (m Free + 1)) refl) (counted_law k m vs h id v inv there works (m Free) refl needs)

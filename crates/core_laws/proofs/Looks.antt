-- A waiter looks at one spot: what a look excuses, and what the last one ends.
use Rattle.std.proofs.Common.{◌≡◌, ◌≢◌, ℕ, zero, suc, ◌<◌, ◌==◌, ◌||◌, nat_lt, nat_le, true, false, cond, List, ◌∷◌, Some, refl, sym, ap, ◌∙◌, ⊎_elim, arith, eq-eqb, ◌+◌, ◌^◌, ◌≤◌, ◌⊎◌, ◌&&◌, [], ◌++◌, length, map, set, Option, None, subst, inl, inr, ne_eqb, Bool, append-nil}
use Rattle.std.proofs.lemmas.Bool.{eqb-true, ltb-true, le-leb, and_from, not-true, or_cases, both_ways, leb-true, lt-ltb, and_parts, or_left, or_right}
use mathlib.Core.Option.{some, some-injective, some-ne-none}
use lib.ListN.{get_elem?}
use Rattle.prcu_marks.specs.declared.mark.Mark.{Mark}
use Rattle.key_interval.specs.Keys.{Holds, class_of}
use Rattle.core_state.specs.declared.shape.Shape.{Shape}
use Rattle.core_state.specs.declared.shape.Waiter.{Waiter}
use Rattle.core_state.specs.declared.shape.Waiter.TheVariants.{Eer, Domain, Deer}
use Rattle.core_state.specs.declared.words.Field.{Field}
use Rattle.core_state.specs.declared.words.Field.TheVariants.{Announced, Stamp, Count, Row}
use Rattle.core_state.specs.declared.view.Section.{Section}
use Rattle.core_state.specs.declared.view.Waiting.{Waiting}
use Rattle.core_state.specs.declared.view.View.{View}
use Rattle.list_laws.specs.Counts.{IsIn, Each}
use Rattle.core_state.specs.Memory.{Memory, idle, slot_count}
use Rattle.core_state.specs.Steps.{keys_of, is_for, IsSpot, spot_of, spot_seen, excuses, is_grace_for, is_move_grace, waited_retired, waited_move, ending, with_excused, after_look, look_marks}
use Rattle.core_state.specs.Parts.{inside_count, IsClear, WaitStands, MarkParts, HasEnded, SeatParts, WaiterParts, CountParts, IsWaitedRetired, IsWaitedMove, GraceParts, turns_to_come}
use Rattle.core_state.specs.Invariant.{HoldsNow}
use Rattle.list_laws.proofs.Lists.{total_part, at_below, at_end, each_set, set_twice}
use Rattle.core_frames.proofs.PlainLaws.{stamps_are_old, clocked_before}
use Rattle.core_laws.proofs.Entering.{in_table, inside_works, apart, joined_apart, moves_works, retired_works}
use Rattle.std.proofs.lemmas.List.{take-append-le}
use Rattle.atomic_table.proofs.Lists.{at_longer, at_last, set_here, set_again}
use Rattle.prcu_marks.specs.declared.mark.Mark.TheVariants.{Entered, Began, Ended}
use Rattle.prcu_marks.specs.Marks.{Open, open_at, entered_at, greatest_key}
use Rattle.prcu_marks.proofs.Marks.{open_at-snoc, entered_at-append}
use Rattle.core_state.specs.declared.view.Move.{Move}
use Rattle.core_state.specs.declared.view.Retired.{Retired}
use Rattle.core_state.specs.declared.view.Spent.{Spent}
use Rattle.core_state.specs.Marks.{begun, begun_at, Grace, HasWaited, WasLeft}
use Rattle.core_state.specs.Views.{Works}
use Rattle.core_frames.proofs.Marks.{end_snoc, SilentMarks, silent_snoc, begun-append, begun_at-append, others_snoc, prefix_snoc}
use Rattle.core_frames.proofs.Views.{same_slots}
use Rattle.core_frames.proofs.WaitFrames.{marks_snoc, mark_frame_by, reuse_snoc, StaysNoted, clear_same, move_stays, retired_stays, waited_longer, waited_by}
use Rattle.core_frames.proofs.PlaceFrames.{front_stays, counts_still, sums_same, front_frame, counted_still, seat_frame_still}
use Rattle.core_laws.proofs.Waits.{entered_open, left_or_open, began_same, moves_noted, noted_half, unraised_noted, of_wait, waiters_own, wait_law, same_stands}
use Rattle.core_frames.proofs.TreeFrames.{listing_frame_still}
use Rattle.core_frames.proofs.WholeFrames.{SlotHalf, slot_half, whole, Stepper, StepKeeps, only_loaded}
use Rattle.core_state.specs.Acts.{MayLook}

-- A word that excuses shows that no reader stands there that the wait is for; so where all spots are excused, no such reader is left.

module _ (k : Shape) (m : Memory) (vs : List View) (h : List Mark) (i : HoldsNow k m vs h) (id : ℕ) (v : View)
    (there : get_elem? vs id ≡ some v) (wait : Waiting) (waits : v.wait ≡ Some wait) where
  -- in the spot at which a load looks no reader stands that the wait is for
  abbrev pub SeesNone : Field → Type 0
  SeesNone field = (j : ℕ) (u : View) (section : Section) → get_elem? vs j ≡ some u → u.section ≡ Some section
      → section.entered < wait.began → Holds (keys_of wait) section.key
      → spot_seen field ≡ spot_of k.waiter u.allowance.place section → ⊥

  -- a reader that the wait is for stands in one of its spots
  reader_spot : (j : ℕ) (u : View) (section : Section) → get_elem? vs j ≡ some u → u.section ≡ Some section
      → Holds (keys_of wait) section.key → (way : Waiter) → k.waiter ≡ way → IsSpot k wait (spot_of way u.allowance.place section)
  reader_spot j u section at inside holds Eer e = (e, in_table k m vs h i j u at (inside_works k m vs h i j u section at inside))
  reader_spot j u section at inside holds Domain e =
      (e, (omega arith), (i.waiters.domain e).sides j u at section inside, (section.key, holds, refl))
  reader_spot j u section at inside holds Deer e =
      (e, in_table k m vs h i j u at (inside_works k m vs h i j u section at inside), (omega arith), (section.key, holds, refl))

  -- an old reader's stamp neither is idle nor above the wait's clock
  old_stamp : k.waiter ≢ Domain → (j : ℕ) (u : View) (section : Section) → get_elem? vs j ≡ some u → u.section ≡ Some section
      → section.entered < wait.began → (n : ℕ) → n ≡ section.stamp
      → (n == idle || nat_lt wait.clock n) ≡ true → ⊥
  old_stamp way j u section at inside older n is e =
      let old = stamps_are_old k m vs h i way id j v u wait section there waits at inside in
      let clocked = ((i.waiters.clocked j u at).stamped section inside).0 in
      let low = old.0 (omega arith) in
      let below = old.2 in
      let most = i.counts.clock in
      let tickets = i.table.few_tickets in
      ⊎_elim (λ (x : (n == idle) ≡ true). let y = eqb-true n idle x in absurd (omega arith))
      (λ (x : nat_lt wait.clock n ≡ true). let y = ltb-true wait.clock n x in absurd (omega arith))
      (or_cases (n == idle) (nat_lt wait.clock n) e)

  pub none_by_key : k.waiter ≡ Eer → (p : ℕ) → excuses wait (Announced p) (m (Announced p)) ≡ true → SeesNone (Announced p)
  none_by_key way p e j u section at inside older holds same =
      let spot : Stamp p ≡ Stamp u.allowance.place = same ∙ ap (λ x. spot_of x u.allowance.place section) way in
      let place : p ≡ u.allowance.place = cc in
      let key : m (Announced p) ≡ section.key = ap (λ q. m (Announced q)) place ∙ ((i.waiters.eer way).inside j u at section inside).0 in
      let low = holds.0 in
      let high = holds.1 in
      let is_for_it : is_for wait (m (Announced p)) ≡ true =
      and_from (nat_le wait.low (m (Announced p))) (nat_le (m (Announced p)) wait.high)
      (le-leb wait.low (m (Announced p)) (omega arith)) (le-leb (m (Announced p)) wait.high (omega arith)) in
      both_ways (is_for wait (m (Announced p))) (not-true (is_for wait (m (Announced p))) e) is_for_it

  pub none_by_stamp : k.waiter ≡ Eer → (p : ℕ) → excuses wait (Stamp p) (m (Stamp p)) ≡ true → SeesNone (Stamp p)
  none_by_stamp way p e j u section at inside older holds same =
      let spot : Stamp p ≡ Stamp u.allowance.place = same ∙ ap (λ x. spot_of x u.allowance.place section) way in
      let place : p ≡ u.allowance.place = cc in
      old_stamp (λ d. let f : Eer ≡ Domain = sym way ∙ d in absurd (cc)) j u section at inside older (m (Stamp p))
      (ap (λ q. m (Stamp q)) place ∙ ((i.waiters.eer way).inside j u at section inside).1) e

  pub none_by_count : k.waiter ≡ Domain → (c side : ℕ) → excuses wait (Count c side) (m (Count c side)) ≡ true → SeesNone (Count c side)
  none_by_count way c side e j u section at inside older holds same =
      let spot : Count c side ≡ Count (class_of section.key) section.stamp = same ∙ ap (λ x. spot_of x u.allowance.place section) way in
      let class_is : c ≡ class_of section.key = cc in
      let side_is : side ≡ section.stamp = cc in
      let low = (i.waiters.domain way).sides j u at section inside in
      let count = (i.waiters.domain way).counts c side (omega arith) (omega arith) in
      let part = total_part (λ (x : View). inside_count c side x.section) vs j u at in
      let one : inside_count c side u.section ≡ 1 =
      ap (inside_count c side) inside ∙ ap (λ b. cond b 1 0)
      (and_from (class_of section.key == c) (section.stamp == side) (eq-eqb (class_of section.key) c (sym class_is))
      (eq-eqb section.stamp side (sym side_is))) in
      let none = eqb-true (m (Count c side)) 0 e in
      absurd (omega arith)

  pub none_by_row : k.waiter ≡ Deer → (p c : ℕ) → excuses wait (Row p c) (m (Row p c)) ≡ true → SeesNone (Row p c)
  none_by_row way p c e j u section at inside older holds same =
      let spot : Row p c ≡ Row u.allowance.place (class_of section.key) = same ∙ ap (λ x. spot_of x u.allowance.place section) way in
      let place : p ≡ u.allowance.place = cc in
      let class_is : c ≡ class_of section.key = cc in
      old_stamp (λ d. let f : Deer ≡ Domain = sym way ∙ d in absurd (cc)) j u section at inside older (m (Row p c))
      ((λ n. m (Row (place n) (class_is n))) ∙ (i.waiters.deer way).inside j u at section inside) e

  -- with one more spot excused, no reader stands in one of them that the wait is for
  pub still_excused : (field : Field) → SeesNone field → wait.ended ≡ false
      → (j : ℕ) (u : View) (section : Section) → get_elem? vs j ≡ some u → u.section ≡ Some section → section.entered < wait.began
      → Holds (keys_of wait) section.key → IsIn (spot_seen field ∷ wait.excused) (spot_of k.waiter u.allowance.place section) → ⊥
  still_excused field none going j u section at inside older holds (zero, e) =
      none j u section at inside older holds (some-injective (spot_seen field) (spot_of k.waiter u.allowance.place section) e)
  still_excused field none going j u section at inside older holds (suc n, e) =
      i.waiters.excused id j v u wait section there waits going at inside older holds (n, e)

  -- where all spots are excused, no section is open that the wait is for
  pub cleared : (field : Field) → SeesNone field → wait.ended ≡ false
      → ((other : Field) → IsSpot k wait other → IsIn (spot_seen field ∷ wait.excused) other) → IsClear vs wait.began wait.low wait.high
  cleared field none going rest j u section at inside older low high =
      still_excused field none going j u section at inside older (low, high)
      (rest (spot_of k.waiter u.allowance.place section) (reader_spot j u section at inside (low, high) k.waiter refl))

-- The last look ends a wait: all its readers have left, and what was waited for is noted.

-- what holds of each element of a list that was mapped
pub each_map : {A B : Type 0} (f : A → B) (P : A → Type 0) (Q : B → Type 0) (xs : List A) → ((a : A) → P a → Q (f a)) → Each xs P
    → Each (map f xs) Q
each_map f P Q [] own all j b e = absurd (some-ne-none b (sym e))
each_map f P Q (x ∷ xs) own all zero b e = subst Q (some-injective (f x) b e) (own x (all 0 x refl))
each_map f P Q (x ∷ xs) own all (suc j) b e = each_map f P Q xs own (λ n a g. all (suc n) a g) j b e

-- a move that is noted
noted_move : (wait : Waiting) (o : Option Move) (move : Move) → waited_move wait o ≡ Some move
    → (z : Move) × (o ≡ Some z) × (record z { waited = z.waited || is_move_grace wait z } ≡ move)
noted_move wait None move e = absurd (cc)
noted_move wait (Some z) move e = (z, refl, (cc))

-- what the tests say
grace_is : (wait : Waiting) (unlinked : ℕ) → is_grace_for wait unlinked ≡ true
    → (unlinked < wait.began) × (wait.low ≡ 0) × (wait.high ≡ greatest_key)
grace_is wait unlinked e =
    let a = and_parts (nat_lt unlinked wait.began) (wait.low == 0 && wait.high == greatest_key) e in
    let b = and_parts (wait.low == 0) (wait.high == greatest_key) a.1 in
    (ltb-true unlinked wait.began a.0, eqb-true wait.low 0 b.0, eqb-true wait.high greatest_key b.1)

grace_from : (wait : Waiting) (unlinked : ℕ) → unlinked < wait.began → wait.low ≡ 0 → wait.high ≡ greatest_key
    → is_grace_for wait unlinked ≡ true
grace_from wait unlinked late low high =
    and_from (nat_lt unlinked wait.began) (wait.low == 0 && wait.high == greatest_key) (lt-ltb unlinked wait.began late)
    (and_from (wait.low == 0) (wait.high == greatest_key) (eq-eqb wait.low 0 low) (eq-eqb wait.high greatest_key high))

move_grace_is : (wait : Waiting) (move : Move) → is_move_grace wait move ≡ true
    → (move.made < wait.began) × (wait.low ≤ move.key + 1) × (move.next_key ≤ wait.high)
move_grace_is wait move e =
    let a = and_parts (nat_lt move.made wait.began) (nat_le wait.low (move.key + 1) && nat_le move.next_key wait.high) e in
    let b = and_parts (nat_le wait.low (move.key + 1)) (nat_le move.next_key wait.high) a.1 in
    (ltb-true move.made wait.began a.0, leb-true wait.low (move.key + 1) b.0, leb-true move.next_key wait.high b.1)

move_grace_from : (wait : Waiting) (move : Move) → move.made < wait.began → wait.low ≤ move.key + 1 → move.next_key ≤ wait.high
    → is_move_grace wait move ≡ true
move_grace_from wait move late low high =
    and_from (nat_lt move.made wait.began) (nat_le wait.low (move.key + 1) && nat_le move.next_key wait.high)
    (lt-ltb move.made wait.began late)
    (and_from (nat_le wait.low (move.key + 1)) (nat_le move.next_key wait.high) (le-leb wait.low (move.key + 1) low)
    (le-leb move.next_key wait.high high))

module _ (k : Shape) (m : Memory) (vs : List View) (h : List Mark) (id : ℕ) (v : View) (i : HoldsNow k m vs h)
    (there : get_elem? vs id ≡ some v) (works : Works v) (wait : Waiting) (waits : v.wait ≡ Some wait) (spot : Field)
    (clear : IsClear vs wait.began wait.low wait.high) where
  -- the wait with its last excuse, and when it is over
  abbrev last : Waiting
  last = record wait { excused = spot ∷ wait.excused }

  abbrev over : Waiting
  over = record last { ended = true }

  abbrev mark : Mark
  mark = Ended v.allowance.place wait.count

  abbrev h' : List Mark
  h' = h ++ mark ∷ []

  abbrev v1 : View
  v1 = record v { wait = Some over; seen = h' }

  abbrev w : View
  w = ending v last h

  stands : WaitStands h v wait
  stands = i.marks.waits id v there wait waits

  quiet : SilentMarks h h'
  quiet = silent_snoc h mark tt

  -- an end among the marks is an old one or this one
  new_end : (j p n : ℕ) → get_elem? h' j ≡ some (Ended p n)
      → (get_elem? h j ≡ some (Ended p n)) ⊎ ((j ≡ length h) × (v.allowance.place ≡ p) × (wait.count ≡ n))
  new_end j p n e = ⊎_elim (λ (o : get_elem? h j ≡ some (Ended p n)). inl o)
      (λ (t : (j ≡ length h) × (mark ≡ Ended p n)). let f = t.1 in inr (t.0, (cc), (cc))) (at_end h mark (Ended p n) j e)

  old_began : (j p n low high : ℕ) → get_elem? h' j ≡ some (Began p n low high) → get_elem? h j ≡ some (Began p n low high)
  old_began j p n low high e = ⊎_elim (λ (o : get_elem? h j ≡ some (Began p n low high)). o)
      (λ (t : (j ≡ length h) × (mark ≡ Began p n low high)). let f = t.1 in absurd (cc)) (at_end h mark (Began p n low high) j e)

  old_entered : (j p n x : ℕ) → get_elem? h' j ≡ some (Entered p n x) → get_elem? h j ≡ some (Entered p n x)
  old_entered j p n x e = ⊎_elim (λ (o : get_elem? h j ≡ some (Entered p n x)). o)
      (λ (t : (j ≡ length h) × (mark ≡ Entered p n x)). let f = t.1 in absurd (cc)) (at_end h mark (Entered p n x) j e)

  -- a wait of the view's place with this number is this wait
  this_wait : (j n low high : ℕ) → wait.count ≡ n → get_elem? h j ≡ some (Began v.allowance.place n low high)
      → (wait.began ≡ j) × (wait.low ≡ low) × (wait.high ≡ high)
  this_wait j n low high count e =
      began_same k.places h i.marks.marks wait.began j v.allowance.place wait.count wait.low wait.high low high stands.begins
      (subst (λ c. get_elem? h j ≡ some (Began v.allowance.place c low high)) (sym count) e)

  own_over : WaitStands h' w over
  own_over =
      let s = stands in record {
        works = works;
        begins = at_longer h (mark ∷ []) wait.began _ s.begins;
        clock = s.clock ∙ ap begun (sym (take-append-le wait.began h (mark ∷ [])
            (let l = at_below h wait.began _ s.begins in omega arith)));
        newest = s.newest;
        over = λ f. (length h, at_last h mark (length h) refl);
        going = λ f has. absurd (let q : true ≡ false = f in cc);
      }

  -- the waits of other views have not ended by this mark
  others_end : (j : ℕ) (u : View) (x : Waiting) → j ≢ id → get_elem? vs j ≡ some u → WaitStands h u x
      → HasEnded h' u.allowance.place x.count → HasEnded h u.allowance.place x.count
  others_end j u x ne e s has = ⊎_elim (λ (o : get_elem? h has.0 ≡ some (Ended u.allowance.place x.count)). (has.0, o))
      (λ (t : (has.0 ≡ length h) × (v.allowance.place ≡ u.allowance.place) × (wait.count ≡ x.count)). absurd
      (apart k m vs h i id v there works j u ne e s.works (sym t.1))) (new_end has.0 u.allowance.place x.count has.1)

  marks_end : MarkParts k.places (set vs id w) h'
  marks_end = mark_frame_by k.places vs id v w h h' there (prefix_snoc h mark) (inl refl)
      (marks_snoc k.places h mark (record {
        at = wait.began;
        low = wait.low;
        high = wait.high;
        before = at_below h wait.began _ stands.begins;
        begins = stands.begins;
      }) i.marks.marks) i.marks
      (λ x is. of_wait (WaitStands h' w) w.wait over x refl own_over is) others_end

  seats_end : SeatParts k.places (set vs id w) h'
  seats_end =
      seat_frame_still k.places vs id v w h h' there works (record { place = refl; places = refl; joined = refl; met = refl })
      (others_snoc v.allowance.place h mark (λ p ne. ne_eqb v.allowance.place p (λ e. ne (sym e)))) (inl refl)
      (counted_still h h' v w refl entries begins refl refl (i.seats.counted id v there works)) i.seats refl
      (open_at-snoc v.allowance.place h mark)
    where
      entries : entered_at v.allowance.place h' ≡ entered_at v.allowance.place h
      entries = let a = entered_at-append v.allowance.place h (mark ∷ []) in let b : entered_at v.allowance.place (mark ∷ []) ≡ 0 = refl in
          omega arith

      begins : begun_at v.allowance.place h' ≡ begun_at v.allowance.place h
      begins = let a = begun_at-append v.allowance.place h (mark ∷ []) in let b : begun_at v.allowance.place (mark ∷ []) ≡ 0 = refl in
          omega arith

  waiters_end : WaiterParts k m (set vs id w) h'
  waiters_end =
      let t = i.waiters.turned id v there wait waits in
      waiters_own k m m vs id v w h h' over there refl refl refl refl refl
      (let a = i.waiters.clock in let b = begun-append h (mark ∷ []) in let c : begun (mark ∷ []) ≡ 0 = refl in omega arith)
      (prefix_snoc h mark) (λ p. open_at-snoc p h mark) (clocked_before k m vs h i)
      (λ j u section going e inside x. absurd (let q : true ≡ false = going in cc)) (record { met = t.met; once = t.once }) i.waiters

  counts_end : CountParts k.tickets m (slot_count k) i.chart (set vs id w) h'
  counts_end =
      let unraised = unraised_noted vs id v there last in
      counts_still k.tickets m m (slot_count k) i.chart vs id v w h h' there
      (sums_same m m (slot_count k) (same_slots m).nodes (same_slots m).state) quiet.updates
      (record {
        free = omega arith;
        clock = omega arith;
        generations = omega arith;
        tags = omega arith;
        turns = omega arith;
        pending = moves_noted vs id v there last;
      }) i.counts

  -- The parts on slots are as if the wait had ended and nothing was noted yet.
  slots_end : SlotHalf k m i.chart (set vs id w) h'
  slots_end = subst (λ us. SlotHalf k m i.chart us h') (set_twice vs id v1 w)
      (noted_half (set vs id v1) id v1 (set_here vs id v1 (at_below vs id v there)) last m i.chart h' k
      (slot_half k m vs h id v v1 i there m h' (same_slots m) quiet refl (λ one. one)))

  -- Where a wait has ended, each section that it was for was left.
  left_now : (e q c x : ℕ) → get_elem? h e ≡ some (Entered q c x) → e < wait.began → wait.low ≤ x → x ≤ wait.high
      → WasLeft h q c e (length h)
  left_now e q c x entered lt from to =
      ⊎_elim (λ (l : WasLeft h q c e (length h)). l)
      (λ (now : open_at q h ≡ Some (entered_open c x e)).
      let o = i.seats.opened q (entered_open c x e) now in
      let at = ap (λ (z : Open). z.at) o.has.by_marks in
      let key = ap (λ (z : Open). z.key) o.has.by_marks in
      absurd (clear o.id o.view o.has.section o.there o.has.is_open (omega arith) (omega arith) (omega arith)))
      (left_or_open k.places h i.marks.marks e q c x entered)

  grace_end : Grace h'
  grace_end a j e p n low high q c x began ended entered lt from to =
      let b = old_began a p n low high began in
      let was_entered = old_entered e q c x entered in
      ⊎_elim
      (λ (o : get_elem? h j ≡ some (Ended p n)). let r = i.grace.grace a j e p n low high q c x b o was_entered lt from to in
      record { at = r.at; after = r.after; before = r.before; left = at_longer h (mark ∷ []) r.at _ r.left })
      (λ (t : (j ≡ length h) × (v.allowance.place ≡ p) × (wait.count ≡ n)).
      let place = t.1 in
      let it = this_wait a n low high t.2 (subst (λ z. get_elem? h a ≡ some (Began z n low high)) (sym place) b) in
      let same_began = it.0 in
      let same_low = it.1 in
      let same_high = it.2 in
      let end = t.0 in
      let r = left_now e q c x was_entered (omega arith) (omega arith) (omega arith) in
      record { at = r.at; after = r.after; before = omega (arith, r.before); left = at_longer h (mark ∷ []) r.at _ r.left })
      (new_end j p n ended)

  clear_for : (at low high : ℕ) → at < wait.began → wait.low ≤ low → high ≤ wait.high → IsClear vs at low high
  clear_for at low high late least most j u section e is lt from to = clear j u section e is (omega arith) (omega arith) (omega arith)

  waited_more : (p after low high : ℕ) → HasWaited h p after low high → HasWaited h' p after low high
  waited_more = waited_longer h h' quiet.longer

  waited_now : (after low high : ℕ) → after < wait.began → wait.low ≤ low → high ≤ wait.high → HasWaited h' v.allowance.place after low high
  waited_now after low high late least most = record {
    began = wait.began;
    ended = length h;
    count = wait.count;
    from = wait.low;
    to = wait.high;
    late = late;
    begins = at_longer h (mark ∷ []) wait.began _ stands.begins;
    ends = at_last h mark (length h) refl;
    least = least;
    most = most;
  }

  waited_back : (p after low high : ℕ) → HasWaited h' p after low high
      → HasWaited h p after low high ⊎ ((p ≡ v.allowance.place) × (after < wait.began) × (wait.low ≤ low) × (high ≤ wait.high))
  waited_back p after low high x =
      let b = old_began x.began p x.count x.from x.to x.begins in
      ⊎_elim
      (λ (o : get_elem? h x.ended ≡ some (Ended p x.count)). inl (waited_by x b o))
      (λ (t : (x.ended ≡ length h) × (v.allowance.place ≡ p) × (wait.count ≡ x.count)).
      let place = t.1 in
      let it = this_wait x.began x.count x.from x.to t.2
      (subst (λ z. get_elem? h x.began ≡ some (Began z x.count x.from x.to)) (sym place) b) in
      let same_began = it.0 in
      let same_low = it.1 in
      let same_high = it.2 in
      let late = x.late in
      let least = x.least in
      let most = x.most in
      inr (sym place, (omega arith), (omega arith), (omega arith)))
      (new_end x.ended p x.count x.ends)

  -- what was waited for at other places is as it was
  stays_else : (p : ℕ) → p ≢ v.allowance.place → StaysNoted vs (set vs id w) h h' p
  stays_else p ne = record {
    grow = waited_more p;
    shrink = λ after low high has. ⊎_elim (λ (o : HasWaited h p after low high). o)
        (λ (x : (p ≡ v.allowance.place) × (after < wait.began) × (wait.low ≤ low) × (high ≤ wait.high)). absurd (ne x.0))
        (waited_back p after low high has);
    clear = λ after low high small. clear_same vs id v w there refl after low high;
  }

  retired_else : (p : ℕ) (r : Retired) → p ≢ v.allowance.place → IsWaitedRetired vs h p r → IsWaitedRetired (set vs id w) h' p r
  retired_else p r ne = retired_stays vs (set vs id w) h h' p (stays_else p ne) r

  high_fits : wait.high < 2 ^ 64
  high_fits = (i.marks.marks.began wait.began v.allowance.place wait.count wait.low wait.high stands.begins).high_fits

  -- of its own they are noted
  retired_own : (r : Retired) → IsWaitedRetired vs h v.allowance.place r
      → IsWaitedRetired (set vs id w) h' v.allowance.place (waited_retired last r)
  retired_own r t = record {
    shown = λ e. ⊎_elim (λ (o : r.waited ≡ true). waited_more v.allowance.place r.unlinked 0 greatest_key (t.shown o))
        (λ (n : is_grace_for last r.unlinked ≡ true). let g = grace_is last r.unlinked n in let low = g.1 in let high = g.2 in
        waited_now r.unlinked 0 greatest_key g.0 (omega arith) (omega arith)) (or_cases r.waited (is_grace_for last r.unlinked) e);
    noted = λ has. ⊎_elim (λ (o : HasWaited h v.allowance.place r.unlinked 0 greatest_key). or_left r.waited (is_grace_for last r.unlinked)
        (t.noted o))
        (λ (x : (v.allowance.place ≡ v.allowance.place) × (r.unlinked < wait.began) × (wait.low ≤ 0) × (greatest_key ≤ wait.high)).
        let low = x.2 in let high = x.3 in let fits = high_fits in
        or_right r.waited (is_grace_for last r.unlinked) (grace_from last r.unlinked x.1 (omega arith) (omega arith)))
        (waited_back v.allowance.place r.unlinked 0 greatest_key has);
    clear = λ e. clear_same vs id v w there refl r.unlinked 0 greatest_key (⊎_elim (λ (o : r.waited ≡ true). t.clear o)
        (λ (n : is_grace_for last r.unlinked ≡ true). let g = grace_is last r.unlinked n in let low = g.1 in let high = g.2 in
        clear_for r.unlinked 0 greatest_key g.0 (omega arith) (omega arith)) (or_cases r.waited (is_grace_for last r.unlinked) e));
  }

  move_own : (z : Move) → IsWaitedMove vs h v.allowance.place z
      → IsWaitedMove (set vs id w) h' v.allowance.place (record z { waited = z.waited || is_move_grace last z })
  move_own z t = record {
    shown = λ e. ⊎_elim (λ (o : z.waited ≡ true). waited_more v.allowance.place z.made (z.key + 1) z.next_key (t.shown o))
        (λ (n : is_move_grace last z ≡ true). let g = move_grace_is last z n in waited_now z.made (z.key + 1) z.next_key g.0 g.1 g.2)
        (or_cases z.waited (is_move_grace last z) e);
    noted = λ has. ⊎_elim (λ (o : HasWaited h v.allowance.place z.made (z.key + 1) z.next_key). or_left z.waited (is_move_grace last z)
        (t.noted o))
        (λ (x : (v.allowance.place ≡ v.allowance.place) × (z.made < wait.began) × (wait.low ≤ z.key + 1)
        × (z.next_key ≤ wait.high)). or_right z.waited (is_move_grace last z) (move_grace_from last z x.1 x.2 x.3))
        (waited_back v.allowance.place z.made (z.key + 1) z.next_key has);
    clear = λ e. clear_same vs id v w there refl z.made (z.key + 1) z.next_key (⊎_elim (λ (o : z.waited ≡ true). t.clear o)
        (λ (n : is_move_grace last z ≡ true). let g = move_grace_is last z n in clear_for z.made (z.key + 1) z.next_key g.0 g.1 g.2)
        (or_cases z.waited (is_move_grace last z) e));
  }

  graces_end : GraceParts (set vs id w) h'
  graces_end = record {
    grace = grace_end;
    reuse = reuse_snoc h mark tt i.grace.reuse;
    clean = λ s at gone last. clear_same vs id v w there refl at 0 greatest_key
        (i.grace.clean s at (sym (quiet.gone s) ∙ gone) (sym (quiet.last s) ∙ last));
    retired = each_set (λ j u. Each u.hands.retired (IsWaitedRetired (set vs id w) h' u.allowance.place)) vs id w
        (each_map (waited_retired last) (IsWaitedRetired vs h v.allowance.place)
        (IsWaitedRetired (set vs id w) h' v.allowance.place) v.hands.retired retired_own (i.grace.retired id v there))
        (λ j u ne e n r at. retired_else u.allowance.place r
        (apart k m vs h i id v there works j u ne e (retired_works k m vs h i j u n r e at)) (i.grace.retired j u e n r at));
    joined = each_set (λ j u. Each u.allowance.joined (λ (s : Spent). Each s.retired (IsWaitedRetired (set vs id w) h' s.place))) vs id w
        (λ n s at x r f. retired_else s.place r (joined_apart k m vs h i id v there works id v n s there at)
        (i.grace.joined id v there n s at x r f))
        (λ j u ne e n s at x r f. retired_else s.place r (joined_apart k m vs h i id v there works j u n s e at)
        (i.grace.joined j u e n s at x r f));
    moves = each_set (λ j u. (move : Move) → u.moving ≡ Some move → IsWaitedMove (set vs id w) h' u.allowance.place move) vs id w
        (λ move is. (let x = noted_move last v.moving move is in
        subst (IsWaitedMove (set vs id w) h' v.allowance.place) x.2 (move_own x.0 (i.grace.moves id v there x.0 x.1))))
        (λ j u ne e move is. move_stays vs (set vs id w) h h' u.allowance.place
        (stays_else u.allowance.place (apart k m vs h i id v there works j u ne e (moves_works k m vs h i j u move e is))) move
        (i.grace.moves j u e move is));
  }

  pub end_law : HoldsNow k m (set vs id w) h'
  end_law =
      whole k m i.chart (set vs id w) h' i.table slots_end
      (record { marks = marks_end; seats = seats_end; grace = graces_end }) waiters_end counts_end
      (front_frame m m vs id v w h h' there (front_stays m m refl refl) refl (λ e. ap (waited_move last) e) quiet (end_snoc h mark tt) i.front)
      (listing_frame_still m m (same_slots m).nodes i.chart h h' quiet vs id v w there refl i.listings)

-- A waiter's look keeps the invariant: K8, K31 and K35.

module _ (k : Shape) (m : Memory) (vs : List View) (h : List Mark) (id : ℕ) (v : View) (i : HoldsNow k m vs h)
    (there : get_elem? vs id ≡ some v) (works : Works v) (wait : Waiting) (field : Field) (last : Bool)
    (needs : MayLook k v wait field last)
    (none : excuses wait field (m field) ≡ true → SeesNone k m vs h i id v there wait needs.wait_is field) where
  abbrev excusing : Waiting
  excusing = with_excused wait field

  abbrev view_excusing : View
  view_excusing = record v { wait = Some excusing }

  -- one more spot is excused
  excused_law : excuses wait field (m field) ≡ true → HoldsNow k m (set vs id view_excusing) h
  excused_law shows =
      let t = i.waiters.turned id v there wait needs.wait_is in
      let before : turns_to_come v.wait ≡ turns_to_come (Some wait) = ap turns_to_come needs.wait_is in
      let now : turns_to_come (Some excusing) ≡ turns_to_come (Some wait) = refl in
      wait_law k m m vs h id v i there works excusing v.counts.turns refl refl
      (same_stands h v view_excusing wait excusing.excused wait.turned refl works refl (i.marks.waits id v there wait needs.wait_is))
      (λ j u section going e inside x. still_excused k m vs h i id v there wait needs.wait_is field
      (none shows) needs.going j u section e inside x.0 x.1 x.2)
      (record { met = t.met; once = t.once }) (omega arith)

  cases : (shows is_last : Bool) → excuses wait field (m field) ≡ shows → last ≡ is_last
      → HoldsNow k m (set vs id (cond shows (cond is_last (ending v excusing h) view_excusing) v))
      (h ++ cond (shows && is_last) (Ended v.allowance.place wait.count ∷ []) [])
  cases true true shows ends =
      end_law k m vs h id v i there works wait needs.wait_is (spot_seen field)
      (cleared k m vs h i id v there wait needs.wait_is field (none shows) needs.going (λ other spot. needs.rest ends other spot))
  cases true false shows ends = subst (HoldsNow k m (set vs id view_excusing)) (sym (append-nil h)) (excused_law shows)
  cases false is_last shows ends = subst (λ us. HoldsNow k m us (h ++ [])) (sym (set_again vs id v there))
      (subst (HoldsNow k m vs) (sym (append-nil h)) i)

  look_law : HoldsNow k m (set vs id (after_look v wait field last (m field) h)) (h ++ look_marks v wait field last (m field))
  look_law = cases (excuses wait field (m field)) last refl refl

module _ (z : Stepper) (wait : Waiting) (last : Bool) where
  open z use {k, m, vs, h, id, v, inv, there, works}

  -- a look at a word
  abbrev Looked : Field → Type 0
  Looked field = StepKeeps z field (m field) (after_look v wait field last (m field) h) (look_marks v wait field last (m field))

  looked : (field : Field) (needs : MayLook k v wait field last)
      → (excuses wait field (m field) ≡ true → SeesNone k m vs h inv id v there wait needs.wait_is field) → Looked field
  looked field needs none =
      only_loaded k m h field (set vs id (after_look v wait field last (m field) h)) (h ++ look_marks v wait field last (m field))
      (look_law k m vs h id v inv there works wait field last needs none)

  pub keeps_key_look : (p : ℕ) → k.waiter ≡ Eer → MayLook k v wait (Announced p) last → Looked (Announced p)
  keeps_key_look p way needs = looked (Announced p) needs (none_by_key k m vs h inv id v there wait needs.wait_is way p)

  pub keeps_stamp_look : (p : ℕ) → k.waiter ≡ Eer → MayLook k v wait (Stamp p) last → Looked (Stamp p)
  keeps_stamp_look p way needs = looked (Stamp p) needs (none_by_stamp k m vs h inv id v there wait needs.wait_is way p)

  pub keeps_count_look : (class side : ℕ) → k.waiter ≡ Domain → MayLook k v wait (Count class side) last → Looked (Count class side)
  keeps_count_look class side way needs =
      looked (Count class side) needs (none_by_count k m vs h inv id v there wait needs.wait_is way class side)

  pub keeps_row_look : (p class : ℕ) → k.waiter ≡ Deer → MayLook k v wait (Row p class) last → Looked (Row p class)
  keeps_row_look p class way needs = looked (Row p class) needs (none_by_row k m vs h inv id v there wait needs.wait_is way p class)

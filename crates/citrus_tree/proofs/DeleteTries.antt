-- A delete whole: what comes before its first search, and its tries.
use Rattle.std.proofs.Common.{◌⊎◌, ◌≡◌, ◌≢◌, ℕ, ◌+◌, ◌-◌, ◌*◌, ◌^◌, ◌<◌, ◌≤◌, true, false, List, [], ◌∷◌, map, length, Option, Some, None, refl, sym, ap, subst, ◌∙◌, inl, inr, ⊎_elim, arith, ◌==◌, cond, ◌++◌, eq-eqb, append_assoc}
use mathlib.Core.List.{IsPrefix}
use Rattle.std.specs.Option.{IfSome, is_some}
use Rattle.list_laws.specs.Counts.{Each, times}
use Rattle.prcu_marks.specs.declared.mark.Mark.TheVariants.{Began, Ended, Entered, Left as LeftMark, Done, Unlinked}
use Rattle.prcu_marks.specs.Marks.{updates_of}
use Rattle.prcu_model.specs.Dictionary.{map_of}
use Rattle.prcu_model.proofs.ListFacts.{prefix_self, prefix_trans, all_append}
use Rattle.prcu_model.specs.declared.operation.Op.TheVariants.{Del}
use Rattle.core_state.specs.declared.shape.Shape.{Shape}
use Rattle.core_state.specs.declared.view.Allowance.{Allowance}
use Rattle.core_state.specs.declared.view.Held.{Held}
use Rattle.core_state.specs.declared.view.Retired.{Retired}
use Rattle.core_state.specs.declared.view.View.{View}
use Rattle.core_state.specs.Views.{IsQuiet}
use Rattle.core_points.specs.declared.stage.Aim.TheVariants.{Spare}
use Rattle.seat_table.specs.Seats.{TableAt, AreListed, IsQuietSeat, IsSlotOf, SeatAt}
use Rattle.seat_table.specs.Gains.{IsAsked, Told as StepTold, IsInformed}
use Rattle.node_slots.specs.Reclaiming.{HasReclaimed}
use Rattle.node_slots.specs.Taking.{FoundNone, HasTaken}
use Rattle.node_slots.proofs.Points.{MayReclaim, gives_all, none_begins_spare, none_advanced, reclaim_advanced, taken_advanced, takes_spare}
use Rattle.tree_points.specs.Points.{IsAt, HasAdvanced, IsDone, KeepsAllowance}
use Rattle.tree_points.proofs.Passing.{begins_delete, begins_room, begins_spare, none_raised, has_kept, is_quiet, needs, passes}
use Rattle.tree_points.proofs.Locks.{advanced_on, advanced_same, advanced_stays, stays}
use Rattle.tree_points.proofs.Waits.{reclaims_room, reclaims_spare}
use Rattle.citrus_tree.specs.Going.{GivesNoneBack, IsExpected, IsSeated, NeededRoom, NeededSlots, MayBegin, AreTries, IsOfTry, KeepsSeat, KeepsWait, waits_in}
use Rattle.citrus_tree.specs.Deletes.{DelTells, Removes, removed_of, FoundExpected, GaveWayAtOnce, GivesNoneOrAll, HasMadeRoom, HasWaitedForRoom, IsReadyToDelete, KeepsWaits, BeginsByLookup, DelsAtOnce, HasDeleted, HasSearched, KeepsRest, retired_slots, TellsTaken}
use Rattle.citrus_tree.proofs.Linking.{at_least_one, goes_none, needed_on}
use Rattle.citrus_tree.proofs.Replacing.{may_begin, waits_in-append}
use Rattle.citrus_tree.proofs.Leavings.{keeps_goes, none_back_on, none_begun, none_yet, reclaimed_first, wait_later, MayHaveBegun, begins_later, begins_searched, wait_on, KeepsView}
use Rattle.std.specs.List.{AllByRecursion}
use Rattle.prcu_marks.specs.declared.mark.Mark.{Mark}
use Rattle.prcu_marks.specs.Callers.{entered_for}
use Rattle.prcu_marks.proofs.Marks.{entered_for-append}
use Rattle.prcu_model.specs.declared.operation.Reply.{Reply}
use Rattle.prcu_model.specs.declared.operation.Reply.TheVariants.{Absent, Gone}
use Rattle.prcu_model.specs.declared.operation.Told.{Told}
use Rattle.citrus_tree.specs.Replies.{Dels, DelsBy, GaveWay, IsMoveWait, RetiresInOrder, TellsValue, TookOut, WasAnswered}
use Rattle.citrus_tree.proofs.DeleteMoves.{retires_before}
use Rattle.citrus_tree.proofs.DeleteSearches.{answered_before}
use Rattle.std.specs.FinMap as finite
use Rattle.core_points.specs.declared.stage.Stage.TheVariants as at
use Rattle.core_state.specs.declared.act.Act.TheVariants as acts

-- What a delete does before its first search: it sees to a spare, and to room among the retired slots.

zero_fits : 0 < 2 ^ 64
zero_fits = omega arith

pub empty_listed : (s : SeatAt) → s.listed ≡ [] → s.view.hands.retired ≡ [] → AreListed s
empty_listed s none gone = record {
  each = λ t. ap (times t) none
      ∙ ap (λ (rs : List Retired). times t (map (λ (r : Retired). r.slot) rs)) (sym gone);
}

pub same_room : {t u : TableAt} → t ≡ u → t.room ≡ u.room
same_room same = ap (λ (x : TableAt). x.room) same

-- the place has a spare
pub given_spare : (o : Option ℕ) (held : Option Held) → IsSlotOf o held → is_some o ≡ true → held ≢ None
given_spare None held is some none = absurd (let e : false ≡ true = some in cc)
given_spare (Some slot) None is some none = is
given_spare (Some slot) (Some held) is some none = cc

pub no_spare : (o : Option ℕ) (held : Option Held) → IsSlotOf o held → is_some o ≡ false → held ≡ None
no_spare None None is none = refl
no_spare None (Some held) is none = absurd is
no_spare (Some slot) held is none = absurd (let e : true ≡ false = none in cc)

-- Nothing had to be done.
pub room_same : {k : Shape} (v : View) → HasMadeRoom k v v
room_same v = record { marks = []; advanced = advanced_same; waited = inl refl; waits = omega arith; latest = inl (none_yet v) }

-- All retired slots were given back.
pub room_reclaimed : {k : Shape} {v w : View} {listed : List ℕ} → HasReclaimed k v listed w
    → NeededSlots k v w → HasMadeRoom k v w
room_reclaimed {k} {v} {w} {listed} back why = record {
  marks = Began v.allowance.place v.counts.waits 0 18446744073709551615 ∷ (Ended v.allowance.place v.counts.waits ∷ []);
  advanced = reclaim_advanced back;
  waited = inr (record { count = v.counts.waits; marks_are = refl; why = why });
  waits = (let e : w.counts.waits ≡ v.counts.waits + 1 = ap (λ (z : View). z.counts.waits) back.rest in omega arith);
  latest = inr (reclaimed_first back);
}

-- What was needed then was needed at the call, since when nothing was retired and the spare is the same.
needed_before : {k : Shape} {v w x : View} → IsPrefix v.seen w.seen → w.hands.retired ≡ v.hands.retired → w.hands.spare ≡ v.hands.spare
    → NeededSlots k w x → NeededSlots k v x
needed_before {k} {v} {w} {x} seen retired spare = ⊎_elim
    (λ (many : k.room ≤ length w.hands.retired + 1). inl (subst (λ (rs : List Retired). k.room ≤ length rs + 1) retired many))
    (λ (full : (w.hands.spare ≡ None) × NeededRoom k w x). inr (
      sym spare ∙ full.0,
      record {
        retired = subst (λ (rs : List Retired). 1 ≤ length rs) retired full.1.retired;
        until = full.1.until;
        since = prefix_trans v.seen w.seen full.1.until seen full.1.since;
        made = full.1.made;
        fills = subst (λ (rs : List Retired). k.slots
            ≤ finite.len (map_of (updates_of full.1.until)) + length rs + (k.room + 4) * (k.places - 1)) retired full.1.fills;
      },
    ))

-- Nothing of the place's own was left before.
pub room_later : {k : Shape} {v w x : View} → HasAdvanced v w [] → KeepsWaits v w → w.hands.retired ≡ v.hands.retired → w.hands.spare ≡ v.hands.spare
    → HasMadeRoom k w x → HasMadeRoom k v x
room_later {k} {v} {w} {x} g same retired spare r = record {
  marks = r.marks;
  advanced = advanced_on g r.advanced;
  waited = ⊎_elim (λ (none : r.marks ≡ []). inl none)
      (λ (f : HasWaitedForRoom k w r.marks x). inr (record {
        count = f.count;
        marks_are = f.marks_are ∙ ap (λ p. Began p f.count 0 18446744073709551615 ∷ (Ended p f.count ∷ [])) g.same;
        why = needed_before g.begins retired spare f.why;
      })) r.waited;
  waits = subst (λ n. n ≤ x.counts.waits) same.count r.waits;
  latest = wait_later (none_begun g same.count same.wait) r.latest;
}

-- Nothing was free, and the retired slots aren't given back.
pub found_none_room : {k : Shape} {v w : View} → FoundNone k v w → IsPrefix v.trail.steps w.trail.steps → HasMadeRoom k v w
found_none_room {k} {v} {w} empty steps = record {
  marks = [];
  advanced = none_advanced empty steps;
  waited = inl refl;
  waits = (let same : w.counts.waits ≡ v.counts.waits = ap (λ (z : View). z.counts.waits) empty.rest in omega arith);
  latest = inl (none_begun (none_advanced empty steps) (ap (λ (z : View). z.counts.waits) empty.rest) (ap (λ (z : View). z.wait) empty.rest));
}

pub found_none_keeps : {k : Shape} {s t : SeatAt} → IsQuietSeat s → FoundNone k s.view t.view → IsPrefix s.view.trail.steps t.view.trail.steps
    → t.listed ≡ s.listed → KeepsSeat 0 s t
found_none_keeps {k} {s} {t} q empty steps listed =
    let goes = goes_none empty steps in
    let same : t.view.allowance ≡ s.view.allowance = ap (λ (z : View). z.allowance) empty.rest in
    keeps_goes (record {
      quiet = subst IsQuiet (sym empty.rest) (record {
        section = q.view.section;
        locks = q.view.locks;
        reserved = q.view.reserved;
        hand = q.view.hand;
        moving = q.view.moving;
        owes = q.view.owes;
        commit = q.view.commit;
        raised = q.view.raised;
      });
      wait = inl (none_begun goes.advanced goes.waits goes.wait);
      tickets = (let e = ap (λ (a : Allowance). a.tickets) same in omega arith);
      allowance = goes.advanced.allowance;
    }) goes listed q.listed

module _ {k : Shape} {v : View} (quiet : IsQuiet v) where
  pub ready_at_once : length v.hands.retired + 1 < k.room → v.hands.spare ≢ None → IsReadyToDelete k v v
  ready_at_once few given = λ key kept fits paid.
      record {
        outside = quiet.section;
        unlocked = quiet.locks;
        at = λ seated. begins_delete quiet seated.works seated.some_place fits paid few given;
      }

  pub ready_reclaimed : {w : View} {listed : List ℕ} → 2 ≤ k.room → k.room ≤ length v.hands.retired + 1
      → ((t : ℕ) → times t listed ≡ times t (map (λ (r : Retired). r.slot) v.hands.retired)) → HasReclaimed k v listed w
      → IsReadyToDelete k v w
  ready_reclaimed roomy many same back = λ key kept fits paid. record {
    outside = ap (λ (z : View). z.section) back.rest ∙ quiet.section;
    unlocked = ap (λ (z : View). z.locks) back.rest ∙ quiet.locks;
    at = λ seated.
        (let works = subst (λ n. 1 ≤ n) (ap (λ (z : View). z.allowance.places) back.rest) seated.works in
        let some : v.hands.retired ≢ [] = λ none. (let long = ap length none in absurd (omega (arith, roomy, many, long))) in
        reclaims_room (begins_room quiet works seated.some_place fits paid many) (gives_all (λ _. some) same back));
  }

  -- A spare is taken.
  module _ (few : length v.hands.retired + 1 < k.room) (none : v.hands.spare ≡ None) where
    reserving : IsSeated k v → (key kept : ℕ) → key < 2 ^ 64 → kept + 4 ≤ v.allowance.tickets → IsAt k (Del key) kept (at.Reserve Spare 1) v
    reserving seated key kept fits paid = begins_spare quiet seated.works seated.some_place fits paid few none 1 (omega arith)

    module _ {slot generation : ℕ} {w : View} (taken : HasTaken v slot generation w) where
      keeping : 1 ≤ k.places → (key kept : ℕ) → key < 2 ^ 64 → kept + 4 ≤ v.allowance.tickets → IsAt k (Del key) kept (at.Keep slot) w
      keeping some_place key kept fits paid = takes_spare taken
          (reserving (record { works = taken.given.seen.works; some_place = some_place }) key kept fits paid)

      pub needs_kept : 4 ≤ v.allowance.tickets → IsAsked k w (acts.KeepAsSpare slot)
      needs_kept paid = λ told. needs (keeping told.tells.some_place 0 0 zero_fits paid) refl told

      module _ {n : ℕ} {x : View} (t : StepTold k w (acts.KeepAsSpare slot) n x) where
        pub ready_kept : IsReadyToDelete k v x
        ready_kept = λ key kept fits paid. may_begin (passes (keeping t.before.tells.some_place key kept fits paid) refl t)

        pub room_kept : IsPrefix v.trail.steps w.trail.steps → HasMadeRoom k v x
        room_kept steps = record {
          marks = [];
          advanced = advanced_stays (taken_advanced taken steps) (stays (acts.KeepAsSpare slot) refl t);
          waited = inl refl;
          waits = (let a : x.counts.waits ≡ w.counts.waits = ap (λ (z : View). z.counts.waits) t.goes in
              let b : w.counts.waits ≡ v.counts.waits = ap (λ (z : View). z.counts.waits) taken.rest in omega arith);
          latest = inl (none_begun (advanced_stays (taken_advanced taken steps) (stays (acts.KeepAsSpare slot) refl t))
              (ap (λ (z : View). z.counts.waits) t.goes ∙ ap (λ (z : View). z.counts.waits) taken.rest)
              (ap (λ (z : View). z.wait) t.goes ∙ ap (λ (z : View). z.wait) taken.rest));
        }

        pub kept_retired : x.hands.retired ≡ v.hands.retired
        kept_retired = ap (λ (z : View). z.hands.retired) t.goes ∙ ap (λ (z : View). z.hands.retired) taken.rest

    -- None was free: the retired slots are given back.
    module _ {w : View} (empty : FoundNone k v w) where
      pub may_reclaim_spare : 4 ≤ v.allowance.tickets → MayReclaim w
      may_reclaim_spare paid = record {
        outside = ap (λ (z : View). z.section) empty.rest ∙ quiet.section;
        unlocked = ap (λ (z : View). z.locks) empty.rest ∙ quiet.locks;
        settled = ap (λ (z : View). z.moving) empty.rest ∙ quiet.moving;
        paid = ap (λ (z : View). z.hands.owes) empty.rest ∙ quiet.owes;
        ticket = (let same = ap (λ (z : View). z.allowance.tickets) empty.rest in omega arith);
        unraised = subst (λ (rs : List Retired). Each rs (λ (r : Retired). r.raised ≡ false))
            (sym (ap (λ (z : View). z.hands.retired) empty.rest)) (none_raised v.hands.retired quiet.raised);
      }

      module _ {x : View} {listed : List ℕ} (same : (t : ℕ) → times t listed ≡ times t (map (λ (r : Retired). r.slot) w.hands.retired))
          (back : HasReclaimed k w listed x) where
        pub ready_spare : IsReadyToDelete k v x
        ready_spare = λ key kept fits paid. record {
          outside = ap (λ (z : View). z.section) back.rest ∙ (may_reclaim_spare (omega arith)).outside;
          unlocked = ap (λ (z : View). z.locks) back.rest ∙ (may_reclaim_spare (omega arith)).unlocked;
          at = λ seated. reclaims_spare (none_begins_spare empty
              (reserving (record { works = empty.sees.works; some_place = seated.some_place }) key kept fits paid))
              (gives_all empty.spare_comes same back);
        }

        needed_spare : NeededSlots k w x
        needed_spare = let spare = ap (λ (z : View). z.hands.spare) empty.rest ∙ none in inr (
          spare,
          record {
            retired = at_least_one w.hands.retired (empty.spare_comes spare);
            until = w.seen;
            since = prefix_self w.seen;
            made = (reclaim_advanced back).begins;
            fills = empty.full quiet.moving quiet.owes;
          },
        )

        pub room_spare : IsPrefix v.trail.steps w.trail.steps → HasMadeRoom k v x
        room_spare steps = room_later (none_advanced empty steps) (record
            { wait = ap (λ (z : View). z.wait) empty.rest; count = ap (λ (z : View). z.counts.waits) empty.rest })
            (ap (λ (z : View). z.hands.retired) empty.rest) (ap (λ (z : View). z.hands.spare) empty.rest)
            (room_reclaimed back needed_spare)

-- A delete's tries, one after another, and the call whole.

-- as many of each slot are retired as before
pub listed_still : (s t : SeatAt) → t.listed ≡ s.listed → retired_slots t.view ≡ retired_slots s.view → AreListed s → AreListed t
listed_still s t listed retired are = record { each = λ slot. ap (times slot) listed ∙ are.each slot ∙ ap (times slot) (sym retired) }

pub waits_on : {v w x : View} → KeepsWaits v w → KeepsWaits w x → KeepsWaits v x
waits_on a b = record { wait = b.wait ∙ a.wait; count = b.count ∙ a.count }

-- So far there were only sections with the key, and the call may begin its next try.
pub record TriesToDelete (k : Shape) (key : ℕ) (v w : View) : Type 0 where
  pub marks : List Mark
  pub advanced : HasAdvanced v w marks
  pub each : AllByRecursion (IsOfTry v.allowance.place key) marks
  pub none : waits_in marks ≡ 0
  pub waits : KeepsWaits v w
  pub first : MayHaveBegun v key w
  pub ready : (kept : ℕ) → MayBegin k (Del key) kept v → MayBegin k (Del key) kept w

pub tries_first : (k : Shape) (key : ℕ) (v : View) → TriesToDelete k key v v
tries_first k key v = record {
  marks = [];
  advanced = advanced_same;
  each = tt;
  none = refl;
  waits = record { wait = refl; count = refl };
  first = inl refl;
  ready = λ kept a. a;
}

-- one more section
module _ {k : Shape} {key : ℕ} {v w x : View} (t : TriesToDelete k key v w) (s : HasSearched w key x) where
  place : w.allowance.place ≡ v.allowance.place
  place = t.advanced.same

  advanced : HasAdvanced v x (t.marks ++ (Entered w.allowance.place s.count key ∷ (LeftMark w.allowance.place s.left ∷ [])))
  advanced = advanced_on t.advanced s.advanced

  none : waits_in (t.marks ++ (Entered w.allowance.place s.count key ∷ (LeftMark w.allowance.place s.left ∷ []))) ≡ 0
  none = waits_in-append t.marks (Entered w.allowance.place s.count key ∷ (LeftMark w.allowance.place s.left ∷ [])) ∙ ap (λ n. n + 0) t.none

  each : AllByRecursion (IsOfTry v.allowance.place key)
      (t.marks ++ (Entered w.allowance.place s.count key ∷ (LeftMark w.allowance.place s.left ∷ [])))
  each = all_append (IsOfTry v.allowance.place key) t.marks
      (Entered w.allowance.place s.count key ∷ (LeftMark w.allowance.place s.left ∷ [])) t.each ((place, refl), (place, tt))

  tries : AreTries v.allowance.place key (t.marks ++ (Entered w.allowance.place s.count key ∷ (LeftMark w.allowance.place s.left ∷ [])))
  tries = record {
    each = each;
    entered =
        (let split = entered_for-append v.allowance.place key t.marks
        (Entered w.allowance.place s.count key ∷ (LeftMark w.allowance.place s.left ∷ [])) in
        let one : entered_for v.allowance.place key (Entered w.allowance.place s.count key ∷ (LeftMark w.allowance.place s.left ∷ [])) ≡ 1 =
        ap (λ b. cond b (cond (key == key) 1 0) 0 + 0) (eq-eqb w.allowance.place v.allowance.place place)
        ∙ ap (λ b. cond b 1 0 + 0) (eq-eqb key key refl) in
        omega arith);
    once = (let n = none in omega arith);
  }

  pub searched_waits : KeepsWaits v x
  searched_waits = waits_on t.waits s.waits

  -- the key is absent
  pub absent_dels : WasAnswered w key None x → DelsAtOnce v key (record { reply = Absent; number = 0 }) x
  absent_dels a = (
    t.marks ++ (Entered w.allowance.place s.count key ∷ (LeftMark w.allowance.place s.left ∷ [])),
    (refl, record { tried = tries; own = advanced }, answered_before t.advanced a),
    none,
  )

  pub absent_begins : BeginsByLookup v key x
  absent_begins = begins_searched t.first s

  pub absent_wait : KeepsWait v x
  absent_wait = inl (none_begun advanced searched_waits.count searched_waits.wait)

  -- the target wasn't taken out
  pub tries_again : {y : View} → KeepsRest x y → ((kept : ℕ) → MayBegin k (Del key) kept w → IsAt k (Del key) kept at.EnterClock y)
      → TriesToDelete k key v y
  tries_again {y} rest again = record {
    marks = t.marks ++ (Entered w.allowance.place s.count key ∷ (LeftMark w.allowance.place s.left ∷ []));
    advanced = advanced_stays advanced rest.advanced;
    each = each;
    none = none;
    waits = waits_on searched_waits rest.waits;
    first = inr (begins_later absent_begins rest.advanced);
    ready = λ kept a. may_begin (again kept (t.ready kept a));
  }

  -- nor is it tried again
  module _ {y : View} (rest : KeepsRest x y) where
    pub rests_way : GaveWayAtOnce v key y
    rests_way = record {
      tries = t.marks ++ (Entered w.allowance.place s.count key ∷ (LeftMark w.allowance.place s.left ∷ []));
      tried = record { tried = tries; own = advanced_stays advanced rest.advanced };
      none = none;
    }

    pub rests_begins : BeginsByLookup v key y
    rests_begins = begins_later absent_begins rest.advanced

    pub rests_wait : KeepsWait v y
    rests_wait = inl (none_begun (advanced_stays advanced rest.advanced) (rest.waits.count ∙ searched_waits.count)
        (rest.waits.wait ∙ searched_waits.wait))

  -- or it was
  pub gone_dels : {y : View} {number : ℕ} → HasDeleted x key number y → IsInformed y
      → DelsAtOnce v key (record { reply = Gone; number = number }) y
  gone_dels {y} {number} d informed =
      let same : x.allowance.place ≡ v.allowance.place = advanced.same in
      let all : HasAdvanced v y ((t.marks ++ (Entered w.allowance.place s.count key ∷ (LeftMark w.allowance.place s.left ∷ [])))
      ++ (Done (record { caller = v.allowance.place; op = Del key }) ∷ d.after)) =
      subst (λ p. HasAdvanced v y ((t.marks ++ (Entered w.allowance.place s.count key ∷ (LeftMark w.allowance.place s.left ∷ [])))
      ++ (Done (record { caller = p; op = Del key }) ∷ d.after))) same (advanced_on advanced d.done.advanced) in (
        t.marks ++ (Entered w.allowance.place s.count key ∷ (LeftMark w.allowance.place s.left ∷ [])),
        (
          d.done.before,
          d.after,
          record {
            tried = tries;
            own = subst (HasAdvanced v y) (sym (append_assoc
                (t.marks ++ (Entered w.allowance.place s.count key ∷ (LeftMark w.allowance.place s.left ∷ [])))
                (Done (record { caller = v.allowance.place; op = Del key }) ∷ []) d.after)) all;
            since = prefix_trans v.seen x.seen d.done.before advanced.begins d.done.since;
            stands = subst (λ p. IsPrefix (d.done.before ++ Done (record { caller = p; op = Del key }) ∷ []) y.seen) same
                (prefix_trans _ (d.done.before ++ Done (record { caller = x.allowance.place; op = Del key })
                ∷ (Unlinked d.node ∷ [])) y.seen (
                  Unlinked d.node ∷ [],
                  append_assoc d.done.before (Done (record { caller = x.allowance.place; op = Del key }) ∷ [])
                      (Unlinked d.node ∷ []),
                ) d.done.stands);
            number_is = d.done.number_is;
            legal = informed.legal;
          },
          ⊎_elim (λ (bare : d.after ≡ []). inl bare)
              (λ (m : IsMoveWait x d.done.before key d.after). inr
              (m.0, m.1, m.2 ∙ ap (λ p. Began p m.0 (key + 1) m.1 ∷ (Ended p m.0 ∷ [])) same, m.3)) d.move,
        ),
        none,
      )

  pub gone_begins : {y : View} {number : ℕ} → HasDeleted x key number y → BeginsByLookup v key y
  gone_begins d = begins_later absent_begins d.done.advanced

  -- with the value that it tells
  pub tells_gone : (y : View) (number : ℕ) (o : Option ℕ) → TellsTaken x key number o y
      → TellsValue v key (record { reply = Gone; number = number }) o y
  tells_gone y number (Some value) took =
      (refl, subst (λ p. TookOut (updates_of y.seen) p key value number) advanced.same took)
  tells_gone y number None took = absurd took

  pub gone_wait : (y : View) → KeepsWait x y → KeepsWait v y
  gone_wait y later = wait_later (none_begun advanced searched_waits.count searched_waits.wait) later

-- what it retired, by the try that took it out
pub tried_retires : {k : Shape} {key : ℕ} (r l q y : SeatAt) (number : ℕ) → TriesToDelete k key r.view l.view
    → HasSearched l.view key q.view → q.listed ≡ r.listed → RetiresInOrder q key number y → RetiresInOrder r key number y
tried_retires {key = key} r l q y number t s same x = retires_before r q y key number (advanced_on t.advanced s.advanced) (inl same) x

-- the marks that a delete left
dels_gone : (v w : View) (key number : ℕ) (ms : List Mark) (reply : Reply) → DelsBy v key ms reply number w
    → (left : List Mark) × HasAdvanced v w left
dels_gone v w key number ms Gone d = ((ms ++ Done (record { caller = v.allowance.place; op = Del key }) ∷ []) ++ d.1, d.2.own)
dels_gone v w key number ms Absent d = (ms, d.1.own)
dels_gone v w key number ms _ d = absurd d

-- a wait that was needed by what had been seen
needed_later : {k : Shape} {v u w : View} → IsPrefix u.seen w.seen → NeededSlots k v u → NeededSlots k v w
needed_later {k} {v} {u} {w} seen = ⊎_elim (λ (many : k.room ≤ length v.hands.retired + 1). inl many)
    (λ (full : (v.hands.spare ≡ None) × NeededRoom k v u). inr (full.0, needed_on full.1 seen))

-- The call whole: what came before its first search, and the rest.
module _ {k : Shape} {v u : View} (room : HasMadeRoom k v u) (key : ℕ) where
  place_first : u.allowance.place ≡ v.allowance.place
  place_first = room.advanced.same

  first_each : AllByRecursion (IsOfTry v.allowance.place key) room.marks
  first_each = ⊎_elim (λ (bare : room.marks ≡ []). subst (AllByRecursion (IsOfTry v.allowance.place key)) (sym bare) tt)
      (λ (f : HasWaitedForRoom k v room.marks u). subst (AllByRecursion (IsOfTry v.allowance.place key)) (sym f.marks_are)
      ((refl, refl, refl), (refl, tt))) room.waited

  first_once : waits_in room.marks ≤ 1
  first_once = ⊎_elim (λ (bare : room.marks ≡ []). subst (λ ms. waits_in ms ≤ 1) (sym bare) (omega arith))
      (λ (f : HasWaitedForRoom k v room.marks u). subst (λ ms. waits_in ms ≤ 1) (sym f.marks_are) (omega arith)) room.waited

  all_tries : (ms : List Mark) → waits_in ms ≡ 0 → AreTries u.allowance.place key ms → AreTries v.allowance.place key (room.marks ++ ms)
  all_tries ms bare are = record {
    each = all_append (IsOfTry v.allowance.place key) room.marks ms first_each
        (subst (λ p. AllByRecursion (IsOfTry p key) ms) place_first are.each);
    entered = (let split = entered_for-append v.allowance.place key room.marks ms in
        let some : 1 ≤ entered_for v.allowance.place key ms = subst (λ p. 1 ≤ entered_for p key ms) place_first are.entered in omega arith);
    once = (let split = waits_in-append room.marks ms in let few = first_once in omega arith);
  }

  all_advanced : (ms after : List Mark) (w : View) → HasAdvanced u w
      ((ms ++ Done (record { caller = u.allowance.place; op = Del key }) ∷ []) ++ after)
      → HasAdvanced v w (((room.marks ++ ms) ++ Done (record { caller = v.allowance.place; op = Del key }) ∷ []) ++ after)
  all_advanced ms after w g =
      let d : List Mark = Done (record { caller = v.allowance.place; op = Del key }) ∷ [] in
      let mine : HasAdvanced u w ((ms ++ d) ++ after) =
      subst (λ p. HasAdvanced u w ((ms ++ Done (record { caller = p; op = Del key }) ∷ []) ++ after)) place_first g in
      subst (HasAdvanced v w) (sym (append_assoc room.marks (ms ++ d) after) ∙ ap (λ l. l ++ after) (sym (append_assoc room.marks ms d)))
      (advanced_on room.advanced mine)

  dels_by : (ms : List Mark) → waits_in ms ≡ 0 → (w : View) (reply : Reply) (number : ℕ) → DelsBy u key ms reply number w
      → DelsBy v key (room.marks ++ ms) reply number w
  dels_by ms bare w Gone number (before, after, up, move) = (
    before,
    after,
    record {
      tried = all_tries ms bare up.tried;
      own = all_advanced ms after w up.own;
      since = prefix_trans v.seen u.seen before room.advanced.begins up.since;
      stands = subst (λ p. IsPrefix (before ++ Done (record { caller = p; op = Del key }) ∷ []) w.seen) place_first up.stands;
      number_is = up.number_is;
      legal = up.legal;
    },
    ⊎_elim (λ (e : after ≡ []). inl e) (λ (m : IsMoveWait u before key after). inr
        (m.0, m.1, m.2 ∙ ap (λ p. Began p m.0 (key + 1) m.1 ∷ (Ended p m.0 ∷ [])) place_first, m.3)) move,
  )
  dels_by ms bare w Absent number (zero_is, tried, answered) =
      (zero_is, record { tried = all_tries ms bare tried.tried; own = advanced_on room.advanced tried.own }, answered_before room.advanced answered)
  dels_by ms bare w _ number d = absurd d

  pub dels : (w : View) (told : Told) → DelsAtOnce u key told w → Dels k v key told w
  dels w told (ms, by, bare) = (
    room.marks ++ ms,
    dels_by ms bare w told.reply told.number by,
    λ some. ⊎_elim (λ (e : room.marks ≡ []). absurd
        (let f : waits_in room.marks ≡ 0 = ap waits_in e in let split = waits_in-append room.marks ms in omega arith))
        (λ (f : HasWaitedForRoom k v room.marks u). needed_later (dels_gone u w key told.number ms told.reply by).1.begins f.why) room.waited,
  )

  -- others were in its way
  pub del_way : {w : View} → GaveWayAtOnce u key w → GaveWay k v (Del key) w
  del_way {w} g = record {
    tries = room.marks ++ g.tries;
    tried = record { tried = all_tries g.tries g.none g.tried.tried; own = advanced_on room.advanced g.tried.own };
    needed = λ some. ⊎_elim (λ (e : room.marks ≡ []). absurd
        (let f : waits_in room.marks ≡ 0 = ap waits_in e in let split = waits_in-append room.marks g.tries in
        let n = g.none in omega arith))
        (λ (f : HasWaitedForRoom k v room.marks u). needed_later g.tried.own.begins f.why) room.waited;
  }

  pub keeps_wait : (w : View) → KeepsWait u w → KeepsWait v w
  keeps_wait w later = wait_on room.waits room.latest later

-- of the allowance only tickets were used
pub dels_allowance : (k : Shape) (v w : View) (key : ℕ) (told : Told) → Dels k v key told w → KeepsAllowance v w
dels_allowance k v w key told d = (dels_gone v w key told.number d.0 told.reply d.1).1.allowance

-- What a call that is ready and comes to its end leaves: the seat is quiet, and it used four tickets at most.
module _ {k : Shape} (v : View) {u w : View} {key : ℕ} (ready : IsReadyToDelete k v u) (fits : key < 2 ^ 64)
    (paid : 4 ≤ v.allowance.tickets) where
  pub ends_keeps : ((kept : ℕ) → MayBegin k (Del key) kept u → IsDone k (Del key) kept w) → KeepsWait v w → KeepsAllowance v w
      → KeepsView 4 v w
  ends_keeps done wait allowance = record {
    quiet = is_quiet (done 0 (ready key 0 fits paid));
    wait = wait;
    tickets = (let left = has_kept (done (v.allowance.tickets - 4) (ready key (v.allowance.tickets - 4) fits (omega arith))) in omega arith);
    allowance = allowance;
  }

-- What went back before the first search, and what was listed after it.
pub none_or_all : (s ready t : SeatAt) → GivesNoneBack s ready ⊎ (ready.listed ≡ []) → GivesNoneBack ready t
    → length t.listed ≤ length ready.listed + 2 → GivesNoneOrAll s t
none_or_all s ready t room stays few = ⊎_elim
    (λ (none : GivesNoneBack s ready). inl (none_back_on s ready t none stays))
    (λ (all : ready.listed ≡ []). let a = ap length all in inr (omega arith))
    room

-- What a search found whose value isn't another one than the expected one.
pub found_expected : (v w : View) (key : ℕ) (expected value : Option ℕ) → is_some value ≡ is_some expected
    → IfSome value (λ found. WasAnswered v key (Some found) w) → IfSome value (λ found. IsExpected expected found) → FoundExpected key expected w
found_expected v w key None value looked said wanted = tt
found_expected v w key (Some x) None looked said wanted = absurd (let e : false ≡ true = looked in cc)
found_expected v w key (Some x) (Some found) looked said wanted = (v, subst (λ y. WasAnswered v key (Some y) w) wanted said)

-- What a remove is told, by what its delete came to.

pub removes_told : {k : Shape} {s t : SeatAt} {key : ℕ} (expected : Option ℕ) (told : Told) (value : Option ℕ) → DelTells k s key told t
    → TellsValue s.view key told value t.view → IfSome value (λ taken. IsExpected expected taken)
    → Removes k s key expected (removed_of told value) t
removes_told {k} {s} {t} {key} expected told (Some value) d tells wanted =
    (subst (λ (r : Reply). DelTells k s key (record { reply = r; number = told.number }) t) tells.0 d, tells.1, wanted)
removes_told {k} {s} {t} {key} expected told None d absent wanted =
    let none = (subst (λ (r : Reply). DelsBy s.view key d.dels.0 r told.number t.view) absent d.dels.1).0 in
    subst (λ (x : Told). DelTells k s key x t) (λ i. record { reply = absent i; number = none i }) d

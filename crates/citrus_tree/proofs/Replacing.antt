-- A set: its store under the lock, its tries; and what a compare is told by these.
use Rattle.std.proofs.Common.{◌≡◌, ℕ, List, Option, true, refl, sym, ap, subst, arith, ◌≢◌, ◌+◌, ◌*◌, ◌/◌, ◌%◌, ◌<◌, ◌==◌, Bool, false, [], ◌∷◌, ◌++◌, length, map, Some, None, ◌∙◌, eq-eqb, ne_eqb, eqb-true, length-append, ◌-◌, ◌≤◌, ◌^◌, cond, inl, append-nil, inr}
use Rattle.prcu_model.specs.declared.operation.Op.{Op}
use Rattle.prcu_model.specs.declared.operation.Op.TheVariants.{Set}
use Rattle.core_state.specs.declared.shape.Shape.{Shape}
use Rattle.core_state.specs.declared.view.View.{View}
use Rattle.core_points.specs.Programs.{Own, key_now, value_in}
use Rattle.core_points.specs.Facts.{HandFits, is_set, is_put}
use Rattle.core_points.proofs.Notes.{fits, set_owed, ready_set}
use Rattle.core_points.proofs.Locks.{one_again}
use Rattle.tree_points.specs.Points.{IsAt, IsDone, HasLocks, HasAdvanced}
use Rattle.tree_points.proofs.Passing.{moves_on, begins_set, has_kept, is_quiet, outside_enter, unlocked_enter, needs, at_true, at_false, commits_any, passes}
use Rattle.prcu_marks.specs.declared.commit.Commit.{Commit}
use Rattle.prcu_marks.specs.declared.mark.Mark.{Mark}
use Rattle.prcu_marks.specs.declared.mark.Mark.TheVariants.{Done, Entered, Left as LeftMark, Began}
use Rattle.prcu_marks.specs.declared.mark.Side.{Side}
use Rattle.prcu_marks.specs.Marks.{updates_of}
use Rattle.prcu_marks.proofs.Marks.{updates_of-append, entered_for-append}
use Rattle.prcu_model.specs.Dictionary.{key_of}
use Rattle.prcu_model.proofs.ListFacts.{prefix_trans, all_append}
use Rattle.core_state.specs.declared.view.HeldLock.{HeldLock}
use Rattle.core_state.specs.declared.view.SearchState.TheVariants.{Found}
use Rattle.core_state.specs.Memory.{slot_count}
use Rattle.core_state.specs.Views.{LoadedGeneration, IsQuiet}
use Rattle.core_laws.proofs.Acting.{commit_is}
use Rattle.seat_table.specs.Gains.{IsAsked, Told}
use Rattle.tree_points.proofs.Updates.{advanced_store_value, locks_replace, the_value, needs_store_value, passes_store_value}
use Rattle.tree_points.proofs.Locks.{passes_set_lock_free, passes_set_lock_busy, locks_set_check, needs_unlock, passes_unlock_again, passes_unlock_was, locks_store_value, keeps_locks, locks_from, same_locked}
use Rattle.citrus_tree.specs.declared.replace.Holder.{Holder}
use Rattle.citrus_tree.specs.declared.replace.Replaced.{Replaced}
use Rattle.citrus_tree.specs.Going.{Goes, LosesFront, Opened, Closed, Stores, MayBegin, Sought, set_stage, AreTries, IsOfTry, waits_in}
use Rattle.citrus_tree.specs.Lookups.{Looked}
use Rattle.citrus_tree.proofs.Leavings.{goes_on, goes_stays, goes_lock, goes_load, goes_unlock, goes_opened, goes_closed, goes_lost, locks_lost, MayHaveBegun, begins_later, begins_looked, none_begun, goes_looked, goes_same, was_answered, KeepsView}
use Rattle.std.specs.List.{AllByRecursion}
use Rattle.prcu_marks.specs.Callers.{entered_for}
use Rattle.prcu_model.specs.declared.operation.Reply.TheVariants.{Absent, Was}
use Rattle.prcu_model.specs.declared.operation.Told.{Told as Reply}
use Rattle.citrus_tree.specs.Deletes.{BeginsByLookup}
use Rattle.citrus_tree.specs.Replies.{GaveWay, HasTried, Sets, WasAnswered, Compares, SoughtValue}
use Rattle.citrus_tree.specs.declared.comparing.Compared.TheVariants.{Replaced as Exchanged, Differs, Absent as Missing}
use Rattle.citrus_tree.specs.declared.comparing.Seen.{Seen}
use Rattle.core_points.specs.declared.stage.Last.TheVariants as last
use Rattle.core_points.specs.declared.stage.Update.TheVariants as update
use Rattle.core_points.specs.declared.stage.Stage.TheVariants as at
use Rattle.core_state.specs.declared.act.Act.TheVariants as acts
use Rattle.core_state.specs.declared.act.Part.TheVariants as part

-- Where a set's value isn't to be replaced, it gives its lock up.

-- Before its update, whether or not others have the front, it may go on as where the slot's life was another one.
pub gives_up_value : {k : Shape} {op : Op} {kept e : ℕ} {v w : View} {s old : ℕ} → LosesFront v w
    → IsAt k op kept (at.Commit (update.Value s old) e) v → IsAt k op kept (at.Unlock last.Again) w
gives_up_value {k} {op} {kept} {e} {v} {w} {s} {old} lost a =
    let p = ((a.fits.point).0).1 in
    let q = p.quiet in
    let o : Own = a.own in
    subst (λ z. IsAt k op kept (at.Unlock last.Again) z) (sym lost.rest) (moves_on a o refl
    (fits a.fits.owns (a.fits.unraised refl) (let t = a.fits.tickets in let one = set_owed o p.sets in omega arith)
    (one_again o v s _ p.locks_are q a.fits.owns (ready_set o.op o.hand o.spare o.retired p.sets q.no_hand))))

-- A set's search, its record, and its store.

-- the life found is that of the record, unmarked
pub life_is : (life generation : ℕ) → life % 2 ≢ 1 → life / 2 ≡ generation → life ≡ 2 * generation
life_is life generation unmarked half = omega arith

-- the same, by a test for it
pub is_alive : (life generation : ℕ) {alive : Bool} → alive ≡ (life == 2 * generation) → alive ≡ true → life ≡ 2 * generation
is_alive life generation e holds = eqb-true life (2 * generation) (sym e ∙ holds)

pub not_alive : (life generation : ℕ) {alive : Bool} → alive ≡ (life == 2 * generation) → alive ≡ false → life ≢ 2 * generation
not_alive life generation e fails same = absurd (let both : true ≡ false = sym (eq-eqb life (2 * generation) same) ∙ sym e ∙ fails in cc)

module _ {k : Shape} {kept key value : ℕ} where
  -- in what the caller kept for a set there is no slot in hand
  no_hand : {v : View} (a : IsAt k (Set key value) kept at.EnterClock v) → (a.own.hand ≡ None) × (v.hands.hand ≡ None)
  no_hand {v} a =
      let calm = (a.fits.point).1 in
      let none : a.own.hand ≡ None = (calm.ready).empty (ap is_put a.op_is) in
      (none, subst (λ h. HandFits h a.own.hand_life (key_now a.own) (value_in a.own.op) v.hands.hand) none calm.hand)

  -- its search has left the section with a record
  pub at_lock : {v w : View} {old : ℕ} {holder : Holder} → IsAt k (Set key value) kept at.EnterClock v → (l : Looked v key (Some old) w)
      → (p : ℕ) × (b : Side) × (found : Option ℕ) × (l.reading.state ≡ Found holder.slot p b found)
      → LoadedGeneration l.reading holder.slot holder.generation → holder.slot < slot_count k
      → IsAt k (Set key value) kept (at.SetLock holder.slot holder.generation) w
  at_lock {v} {w} {old} {holder} a l found generation below =
      let none = no_hand a in
      let bare = ((a.fits.point).1).bare in
      subst (λ (z : View). IsAt k (Set key value) kept (at.SetLock holder.slot holder.generation) z) (sym l.others)
      (moves_on a a.own refl (record {
        owns = a.fits.owns;
        tickets = a.fits.tickets;
        unraised = a.fits.unraised;
        point = record {
          quiet = record {
            outside = refl;
            turn_is = bare.turn_is;
            settled = bare.settled;
            unreserved = bare.reserved_is;
            paid = bare.paid;
            empty = none.1;
            no_hand = none.0;
          };
          locks_are = bare.locks_are;
          found = record {
            reading = l.reading;
            kept = (0, refl);
            key_is = l.sought ∙ sym (ap key_of a.op_is);
            found = found;
            recorded = generation;
            inside = (let s = a.slots_are in let p = a.places_are in omega arith);
          };
          sets = ap is_set a.op_is;
        };
      }))

  -- or found nothing: the call is over
  pub at_end : {v w : View} {answer : Option ℕ} → IsAt k (Set key value) kept at.EnterClock v → Looked v key answer w
      → IsDone k (Set key value) kept w
  at_end {v} {w} {answer} a l =
      let none = no_hand a in
      let bare = ((a.fits.point).1).bare in
      subst (λ (z : View). IsDone k (Set key value) kept z) (sym l.others) (moves_on a a.own refl (record {
        owns = a.fits.owns;
        tickets = (let t = a.fits.tickets in omega arith);
        unraised = a.fits.unraised;
        point = (refl, bare, none.1);
      }))

-- the steps of the store, one after another
module _ {k : Shape} {key kept value s g : ℕ} {v : View} (a : IsAt k (Set key value) kept (at.SetLock s g) v) where
  pub locks : IsAsked k v (acts.Lock s)
  locks = needs a refl

  module _ {n : ℕ} {x : View} (first : Told k v (acts.Lock s) n x) where
    pub busy_goes : Goes v x []
    busy_goes = goes_lock first

    pub busy_at : n ≢ 0 → IsAt k (Set key value) kept at.EnterClock x
    busy_at e = passes_set_lock_busy e a first

    module _ (free : n ≡ 0) where
      checking : IsAt k (Set key value) kept (at.SetCheck s g) x
      checking = passes_set_lock_free free a first

      pub loads_life : IsAsked k x (acts.LockedLoad s part.Life)
      loads_life = needs checking refl

      module _ {life : ℕ} {y : View} (second : Told k x (acts.LockedLoad s part.Life) life y) where
        goes2 : Goes v y []
        goes2 = goes_stays busy_goes (goes_load second)

        module _ (other : life ≢ 2 * g) where
          again : IsAt k (Set key value) kept (at.Unlock last.Again) y
          again = at_false _ (ne_eqb _ _ other) (passes checking refl second)

          has_lock : HasLocks (s ∷ []) y
          has_lock = keeps_locks (same_locked second) (locks_set_check checking)

          pub gives_up : IsAsked k y (acts.Unlock s)
          gives_up = needs_unlock has_lock again

          module _ {m : ℕ} {z : View} (third : Told k y (acts.Unlock s) m z) where
            pub again_goes : Goes v z []
            again_goes = goes_stays goes2 (goes_unlock third)

            pub again_at : IsAt k (Set key value) kept at.EnterClock z
            again_at = passes_unlock_again has_lock again third

        module _ (same : life ≡ 2 * g) where
          valuing : IsAt k (Set key value) kept (at.SetValue s) y
          valuing = at_true _ (eq-eqb _ _ same) (passes checking refl second)

          pub loads_value : IsAsked k y (acts.LockedLoad s part.Value)
          loads_value = needs valuing refl

          module _ {old : ℕ} {z : View} (third : Told k y (acts.LockedLoad s part.Value) old z) where
            goes3 : Goes v z []
            goes3 = goes_stays goes2 (goes_load third)

            pub committing : IsAt k (Set key value) kept (at.Commit (update.Value s old) 0) z
            committing = commits_any (passes valuing refl third) 0 refl

            locked : HasLocks (s ∷ []) z
            locked = keeps_locks (same_locked third) (keeps_locks (same_locked second) (locks_set_check checking))

            -- another value is asked for, or others have the front
            module _ {o : View} (lost : LosesFront z o) where
              giving_up : IsAt k (Set key value) kept (at.Unlock last.Again) o
              giving_up = gives_up_value lost committing

              pub gives_way : IsAsked k o (acts.Unlock s)
              gives_way = needs_unlock (locks_lost lost locked) giving_up

              module _ {m : ℕ} {q : View} (fourth : Told k o (acts.Unlock s) m q) where
                pub gave_way_goes : Goes v q []
                gave_way_goes = goes_stays (goes_stays goes3 (goes_lost lost)) (goes_unlock fourth)

                pub gave_way_at : IsAt k (Set key value) kept at.EnterClock q
                gave_way_at = passes_unlock_again (locks_lost lost locked) giving_up fourth

            pub settled : z.moving ≡ None
            settled = (((committing.fits.point).0).1).quiet.settled

            pub unpaid : z.commit ≡ None
            unpaid = (((committing.fits.point).0).1).quiet.turn_is

            module _ {front : ℕ} {o : View} (odd : Opened z front o)
                (storing : IsAt k (Set key value) kept (at.Store (update.Value s old) front) o) where
              goes4 : Goes v o []
              goes4 = goes_stays goes3 (goes_opened odd)

              pub stores : IsAsked k o (acts.ReplaceValue s key value)
              stores = needs_store_value storing

              module _ {m : ℕ} {q : View} (fourth : Told k o (acts.ReplaceValue s key value) m q) where
                abbrev h : List Mark
                h = fourth.marks

                place_stays : o.allowance.place ≡ v.allowance.place
                place_stays = goes4.advanced.same

                seen : q.seen ≡ h ++ Done (record { caller = v.allowance.place; op = Set key value }) ∷ []
                seen = ap (λ (x : View). x.seen) fourth.goes
                    ∙ ap (λ (p : ℕ). h ++ Done (record { caller = p; op = Set key value }) ∷ []) place_stays

                pub is_odd : q.commit ≡ Some (record { found = front; stored = true })
                is_odd = ap (λ (x : View). x.commit) fourth.goes
                    ∙ ap (λ (c : Commit). Some (record c { stored = true })) (commit_is o _ (ap (λ (x : View). x.commit) odd.rest))

                pub evening : IsAt k (Set key value) kept (at.Even (update.Value s old) front) q
                evening = passes_store_value storing fourth

                goes5 : Goes v q (Done (record { caller = v.allowance.place; op = Set key value }) ∷ [])
                goes5 = subst (λ (p : ℕ). Goes v q (Done (record { caller = p; op = Set key value }) ∷ [])) place_stays
                    (goes_on goes4 (record {
                      advanced = advanced_store_value storing fourth;
                      retired = ap (λ (x : View). x.hands.retired) fourth.goes;
                      wait = ap (λ (x : View). x.wait) fourth.goes;
                      waits = ap (λ (x : View). x.counts.waits) fourth.goes;
                    }))

                module _ {t : View} (even : Closed q t) (unlocking : IsAt k (Set key value) kept
                    (at.Unlock (last.Was old ((front + 2) / 2))) t) where
                  last_lock : HasLocks (s ∷ []) t
                  last_lock = locks_from {v = q} {w = t} (ap (λ (x : View). map (λ (l : HeldLock). l.slot) x.locks) even.rest)
                      (locks_from {v = o} {w = q} (locks_replace fourth) (locks_store_value storing))

                  pub lets_go : IsAsked k t (acts.Unlock s)
                  lets_go = needs_unlock last_lock unlocking

                  module _ {j : ℕ} {e : View} (fifth : Told k t (acts.Unlock s) j e) where
                    pub done_at : IsDone k (Set key value) kept e
                    done_at = passes_unlock_was last_lock unlocking fifth

                    pub stored : (done : Replaced) → done.old ≡ old → done.number ≡ (front + 2) / 2 → Stores v key value done e
                    stored done old_is number_is =
                        let seen_e : e.seen ≡ h ++ Done (record { caller = v.allowance.place; op = Set key value }) ∷ [] =
                        ap (λ (x : View). x.seen) fifth.goes ∙ ap (λ (x : View). x.seen) even.rest ∙ seen in
                        let us : updates_of q.seen ≡ updates_of h ++ record { caller = v.allowance.place; op = Set key value } ∷ [] =
                        ap updates_of seen ∙ updates_of-append h
                        (Done (record { caller = v.allowance.place; op = Set key value }) ∷ []) in
                        let long : length (updates_of q.seen) ≡ length (updates_of h) + 1 =
                        ap length us ∙ length-append (updates_of h) (record { caller = v.allowance.place; op = Set key value } ∷ []) in
                        let counted : front + 2 ≡ 2 * length (updates_of q.seen) =
                        (fourth.gains.counted).found (record { found = front; stored = false }) (ap (λ (x : View). x.commit) odd.rest) in (
                          h,
                          record {
                            goes = goes_stays goes5 (goes_stays (goes_closed even) (goes_unlock fifth));
                            since = prefix_trans v.seen o.seen h goes4.advanced.begins fourth.sees.begins;
                            seen = seen_e;
                            number_is = number_is ∙ omega arith;
                            legal = fifth.informed.legal;
                          },
                          fourth.gains.was old (the_value o s storing.fits.point.0 old storing.fits.point.1.locks_are)
                              ∙ ap Some (sym old_is),
                        )

-- A set's tries, one after another.

pub waits_in-append : (a b : List Mark) → waits_in (a ++ b) ≡ waits_in a + waits_in b
waits_in-append [] b = omega arith
waits_in-append (Began p c low high ∷ a) b = (let e = waits_in-append a b in omega arith)
waits_in-append (_ ∷ a) b = waits_in-append a b

-- A call that stands at its first point may begin.
pub may_begin : {k : Shape} {op : Op} {kept : ℕ} {v : View} → IsAt k op kept at.EnterClock v → MayBegin k op kept v
may_begin a = record { outside = outside_enter a; unlocked = unlocked_enter a; at = λ seated. a }

-- A call with no slot in hand is quiet where it would try again: it may be given up there.
pub rests_at : {k : Shape} {op : Op} {kept : ℕ} {v : View} → is_put op ≡ false → IsAt k op kept at.EnterClock v → IsDone k op kept v
rests_at {k} {op} {kept} {v} bare a =
    let calm = (a.fits.point).1 in
    let none : a.own.hand ≡ None = (calm.ready).empty (ap is_put a.op_is ∙ bare) in
    moves_on a a.own refl (record {
      owns = a.fits.owns;
      tickets = (let t = a.fits.tickets in omega arith);
      unraised = a.fits.unraised;
      point = (
        outside_enter a,
        calm.bare,
        subst (λ h. HandFits h a.own.hand_life (key_now a.own) (value_in a.own.op) v.hands.hand) none calm.hand,
      );
    })

-- So far there were only sections with the key, and the call may begin its next try.
pub record Trying (k : Shape) (op : Op) (v w : View) : Type 0 where
  pub marks : List Mark
  pub goes : Goes v w marks
  pub each : AllByRecursion (IsOfTry v.allowance.place (key_of op)) marks
  pub none : waits_in marks ≡ 0
  pub first : MayHaveBegun v (key_of op) w
  pub ready : (kept : ℕ) → kept + 4 ≤ v.allowance.tickets → MayBegin k op kept w

module _ {k : Shape} {key value : ℕ} {v : View} where
  pub begins : IsQuiet v → key < 2 ^ 64 → Trying k (Set key value) v v
  begins quiet fits = record {
    marks = [];
    goes = goes_same v;
    each = tt;
    none = refl;
    first = inl refl;
    ready = λ kept few. record {
      outside = quiet.section;
      unlocked = quiet.locks;
      at = λ seated. begins_set quiet seated.works seated.some_place fits few;
    };
  }

  module _ {w : View} (t : Trying k (Set key value) v w) (few : 4 ≤ v.allowance.tickets) where
    pub outside : w.section ≡ None
    outside = (t.ready 0 few).outside

    pub unlocked : w.locks ≡ []
    unlocked = (t.ready 0 few).unlocked

    -- one more section
    module _ {answer : Option ℕ} {x : View} (l : Looked w key answer x) where
      section : List Mark
      section = Entered w.allowance.place w.counts.sections key ∷ (LeftMark w.allowance.place w.counts.sections ∷ [])

      marks : List Mark
      marks = t.marks ++ section

      place : w.allowance.place ≡ v.allowance.place
      place = t.goes.advanced.same

      goes : Goes v x (t.marks ++ (Entered w.allowance.place w.counts.sections key ∷ (LeftMark w.allowance.place w.counts.sections ∷ [])))
      goes = goes_on t.goes (goes_looked l)

      none : waits_in (t.marks ++ (Entered w.allowance.place w.counts.sections key ∷ (LeftMark w.allowance.place w.counts.sections ∷ [])))
          ≡ 0
      none = waits_in-append t.marks (Entered w.allowance.place w.counts.sections key ∷ (LeftMark w.allowance.place w.counts.sections ∷ []))
          ∙ ap (λ n. n + 0) t.none

      each : AllByRecursion (IsOfTry v.allowance.place key)
          (t.marks ++ (Entered w.allowance.place w.counts.sections key ∷ (LeftMark w.allowance.place w.counts.sections ∷ [])))
      each = all_append (IsOfTry v.allowance.place key) t.marks
          (Entered w.allowance.place w.counts.sections key ∷ (LeftMark w.allowance.place w.counts.sections ∷ [])) t.each
          ((place, refl), (place, tt))

      tries : AreTries v.allowance.place key (t.marks
          ++ (Entered w.allowance.place w.counts.sections key ∷ (LeftMark w.allowance.place w.counts.sections ∷ [])))
      tries = record {
        each = each;
        entered =
            (let split = entered_for-append v.allowance.place key t.marks
            (Entered w.allowance.place w.counts.sections key ∷ (LeftMark w.allowance.place w.counts.sections ∷ [])) in
            let one : entered_for v.allowance.place key
            (Entered w.allowance.place w.counts.sections key ∷ (LeftMark w.allowance.place w.counts.sections ∷ [])) ≡ 1 =
            ap (λ b. cond b (cond (key == key) 1 0) 0 + 0) (eq-eqb w.allowance.place v.allowance.place place)
            ∙ ap (λ b. cond b 1 0 + 0) (eq-eqb key key refl) in
            omega arith);
        once = (let n = none in omega arith);
      }

      -- the key is absent
      pub absent_sets : {told : Reply} → answer ≡ None → told ≡ record { reply = Absent; number = 0 } → Sets v key value told x
      absent_sets e told = subst (λ (r : Reply). Sets v key value r x) (sym told) (
        t.marks ++ (Entered w.allowance.place w.counts.sections key ∷ (LeftMark w.allowance.place w.counts.sections ∷ [])),
        (refl, record { tried = tries; own = goes.advanced }, subst (λ a. WasAnswered v key a x) e (was_answered l t.goes.advanced)),
        none,
      )

      pub looked_tried : HasTried v key (t.marks
          ++ (Entered w.allowance.place w.counts.sections key ∷ (LeftMark w.allowance.place w.counts.sections ∷ []))) x
      looked_tried = record { tried = tries; own = goes.advanced }

      pub looked_answered : WasAnswered v key answer x
      looked_answered = was_answered l t.goes.advanced

      pub looked_none : waits_in (t.marks
          ++ (Entered w.allowance.place w.counts.sections key ∷ (LeftMark w.allowance.place w.counts.sections ∷ []))) ≡ 0
      looked_none = none

      module _ (some_place : 1 ≤ k.places) where
        done : (kept : ℕ) → kept + 4 ≤ v.allowance.tickets → IsDone k (Set key value) kept x
        done kept enough = at_end ((t.ready kept enough).at (record { works = l.sees.works; some_place = some_place })) l

        pub absent_keeps : KeepsView 4 v x
        absent_keeps = record {
          quiet = is_quiet (done 0 few);
          wait = inl (none_begun goes.advanced goes.waits goes.wait);
          tickets = (let left = has_kept (done (v.allowance.tickets - 4) (omega arith)) in omega arith);
          allowance = goes.advanced.allowance;
        }

      pub absent_goes : Goes v x (t.marks ++ (Entered w.allowance.place w.counts.sections key
          ∷ (LeftMark w.allowance.place w.counts.sections ∷ [])))
      absent_goes = goes

      pub absent_begins : BeginsByLookup v key x
      absent_begins = begins_looked t.first l

    -- the key is there
    module _ {answer : Option Holder} {holder : Holder} (some_place : 1 ≤ k.places) (x : View) (is : answer ≡ Some holder)
        (sought : Sought k w key answer x) where
      found : Sought k w key (Some holder) x
      found = subst (λ (r : Option Holder). Sought k w key r x) is sought

      pub locking : (kept : ℕ) → kept + 4 ≤ v.allowance.tickets → IsAt k (Set key value) kept (at.SetLock holder.slot holder.generation) x
      locking kept enough = at_lock ((t.ready kept enough).at (record { works = found.looked.sees.works; some_place = some_place }))
          found.looked (found.parent, found.side, found.value, found.state_is) found.generation_is found.slot_is.inside

      pub may_store : (b : ℕ) × IsAt k (Set key value) b (at.SetLock holder.slot holder.generation) x
      may_store = (0, locking 0 few)

      -- the store wasn't made
      pub tries_again : {y : View} {done : Option Replaced} → Goes x y [] → done ≡ None
          → ((b : ℕ) → IsAt k (Set key value) b (at.SetLock holder.slot holder.generation) x → IsAt k (Set key value) b (set_stage done) y)
          → Trying k (Set key value) v y
      tries_again {y} g unmade again = record {
        marks = t.marks ++ (Entered w.allowance.place w.counts.sections key ∷ (LeftMark w.allowance.place w.counts.sections ∷ []));
        goes = goes_stays (goes found.looked) g;
        each = each found.looked;
        none = none found.looked;
        first = inr (begins_later (begins_looked t.first found.looked) g.advanced);
        ready = λ kept enough. may_begin (subst (λ r. IsAt k (Set key value) kept (set_stage r) y) unmade
            (again kept (locking kept enough)));
      }

      -- nor is it tried again
      module _ {y : View} {done : Option Replaced} (g : Goes x y []) (unmade : done ≡ None)
          (again : (b : ℕ) → IsAt k (Set key value) b (at.SetLock holder.slot holder.generation) x
          → IsAt k (Set key value) b (set_stage done) y) where
        pub rests_goes : Goes v y (t.marks ++ (Entered w.allowance.place w.counts.sections key
            ∷ (LeftMark w.allowance.place w.counts.sections ∷ [])))
        rests_goes = goes_stays (goes found.looked) g

        pub rests_way : GaveWay k v (Set key value) y
        rests_way = record {
          tries = t.marks ++ (Entered w.allowance.place w.counts.sections key ∷ (LeftMark w.allowance.place w.counts.sections ∷ []));
          tried = record { tried = tries found.looked; own = rests_goes.advanced };
          needed = λ some. absurd (let n = none found.looked in omega arith);
        }

        rested : (kept : ℕ) → kept + 4 ≤ v.allowance.tickets → IsDone k (Set key value) kept y
        rested kept enough = rests_at refl (subst (λ r. IsAt k (Set key value) kept (set_stage r) y) unmade
            (again kept (locking kept enough)))

        pub rests_keeps : KeepsView 4 v y
        rests_keeps = record {
          quiet = is_quiet (rested 0 few);
          wait = inl (none_begun rests_goes.advanced rests_goes.waits rests_goes.wait);
          tickets = (let left = has_kept (rested (v.allowance.tickets - 4) (omega arith)) in omega arith);
          allowance = rests_goes.advanced.allowance;
        }

        pub rests_begins : BeginsByLookup v key y
        rests_begins = begins_later (begins_looked t.first found.looked) g.advanced

      -- it was made
      module _ {y : View} {answered : Option Replaced} {done_as : Replaced} (one : answered ≡ Some done_as)
          (s : (b : ℕ) (r : Replaced) → IsAt k (Set key value) b (at.SetLock holder.slot holder.generation) x → answered ≡ Some r
          → Stores x key value r y)
          (at_done : (b : ℕ) → IsAt k (Set key value) b (at.SetLock holder.slot holder.generation) x
          → IsAt k (Set key value) b (set_stage answered) y) where
        is_stored : Stores x key value done_as y
        is_stored = s 0 done_as (locking 0 few) one

        same_place : x.allowance.place ≡ v.allowance.place
        same_place = (goes found.looked).advanced.same

        pub stored_begins : BeginsByLookup v key y
        stored_begins = begins_later (begins_looked t.first found.looked) is_stored.1.goes.advanced

        pub goes_all : Goes v y ((t.marks ++ (Entered w.allowance.place w.counts.sections key
            ∷ (LeftMark w.allowance.place w.counts.sections ∷ [])))
            ++ Done (record { caller = v.allowance.place; op = Set key value }) ∷ [])
        goes_all = subst (λ (p : ℕ). Goes v y ((t.marks
            ++ (Entered w.allowance.place w.counts.sections key ∷ (LeftMark w.allowance.place w.counts.sections ∷ [])))
            ++ Done (record { caller = p; op = Set key value }) ∷ [])) same_place
            (goes_on (goes found.looked) is_stored.1.goes)

        pub stored_sets : {told : Reply} → told ≡ record { reply = Was done_as.old; number = done_as.number } → Sets v key value told y
        stored_sets told = subst (λ (r : Reply). Sets v key value r y) (sym told) (
          t.marks ++ (Entered w.allowance.place w.counts.sections key ∷ (LeftMark w.allowance.place w.counts.sections ∷ [])),
          (
            is_stored.0,
            record {
              tried = tries found.looked;
              own = subst (HasAdvanced v y) (sym (append-nil
                  ((t.marks ++ (Entered w.allowance.place w.counts.sections key ∷ (LeftMark w.allowance.place w.counts.sections ∷ [])))
                  ++ Done (record { caller = v.allowance.place; op = Set key value }) ∷ []))) goes_all.advanced;
              since = prefix_trans v.seen x.seen is_stored.0 (goes found.looked).advanced.begins is_stored.1.since;
              stands = (
                [],
                append-nil (is_stored.0 ++ Done (record { caller = v.allowance.place; op = Set key value }) ∷ [])
                    ∙ sym (is_stored.1.seen ∙ (λ i. is_stored.0 ++ Done (record { caller = same_place i; op = Set key value }) ∷ [])),
              );
              number_is = is_stored.1.number_is;
              legal = is_stored.1.legal;
            },
            is_stored.2,
          ),
          none found.looked,
        )

        finished : (kept : ℕ) → kept + 4 ≤ v.allowance.tickets → IsDone k (Set key value) kept y
        finished kept enough = subst (λ r. IsAt k (Set key value) kept (set_stage r) y) one (at_done kept (locking kept enough))

        pub stored_keeps : KeepsView 4 v y
        stored_keeps = record {
          quiet = is_quiet (finished 0 few);
          wait = inl (none_begun goes_all.advanced goes_all.waits goes_all.wait);
          tickets = (let left = has_kept (finished (v.allowance.tickets - 4) (omega arith)) in omega arith);
          allowance = goes_all.advanced.allowance;
        }

-- What a compare is told, by its tries.

module _ (k : Shape) (w : View) (key : ℕ) (x : View) {answer : Option Seen} where
  -- a search that found none found the key absent
  pub absent_value : answer ≡ None → SoughtValue k w key answer x → Looked w key None x
  absent_value is sought = subst (λ (r : Option Seen). SoughtValue k w key r x) is sought

  -- one that found a value found its slot too
  pub found_value : {seen : Seen} → answer ≡ Some seen → SoughtValue k w key answer x → SoughtValue k w key (Some seen) x
  found_value is sought = subst (λ (r : Option Seen). SoughtValue k w key r x) is sought

module _ {k : Shape} {key value : ℕ} {v w : View} (t : Trying k (Set key value) v w) (few : 4 ≤ v.allowance.tickets) where
  pub absent_compares : (expected : ℕ) {x : View} → Looked w key None x → Compares v key expected value Missing x
  absent_compares expected {x} l = (_, (looked_tried t few l, looked_answered t few l), looked_none t few l)

  pub differs_compares : {expected : ℕ} {x : View} {seen : Seen} → SoughtValue k w key (Some seen) x → seen.value ≢ expected
      → Compares v key expected value (Differs seen.value) x
  differs_compares {expected} {x} {seen} sought other = subst (λ n. Compares v key expected value (Differs n) x) sought.1 (
    _,
    (looked_tried t few sought.0.looked, looked_answered t few sought.0.looked, λ same. other (sym sought.1 ∙ same)),
    looked_none t few sought.0.looked,
  )

  pub stored_compares : {expected : ℕ} {x y : View} {seen : Seen} {done_as : Replaced} {answered : Option Replaced} → 1 ≤ k.places
      → SoughtValue k w key (Some seen) x → answered ≡ Some done_as
      → ((b : ℕ) (r : Replaced) → IsAt k (Set key value) b (at.SetLock seen.holder.slot seen.holder.generation) x → answered ≡ Some r
      → Stores x key value r y)
      → ((b : ℕ) → IsAt k (Set key value) b (at.SetLock seen.holder.slot seen.holder.generation) x
      → IsAt k (Set key value) b (set_stage answered) y)
      → done_as.old ≡ expected → Compares v key expected value (Exchanged done_as.number) y
  stored_compares {expected} {x} {y} {seen} {done_as} some_place sought one stores at_done same =
      let s : Sets v key value (record { reply = Was done_as.old; number = done_as.number }) y =
      stored_sets t few some_place x refl sought.0 one stores at_done refl in
      (s.0, (s.1.0, s.1.1, s.1.2 ∙ ap (λ n. Some n) same), s.2)

-- A put's tries, one after another.
use Rattle.std.proofs.Common.{◌≡◌, ℕ, ◌+◌, ◌-◌, ◌*◌, ◌<◌, ◌≤◌, ◌==◌, ◌^◌, cond, List, [], ◌∷◌, ◌++◌, length, Option, Some, None, refl, sym, ap, subst, ◌∙◌, inl, inr, ⊎_elim, arith, eq-eqb, append-nil}
use Rattle.std.specs.List.{AllByRecursion}
use mathlib.Core.List.{IsPrefix}
use Rattle.prcu_marks.specs.declared.mark.Mark.{Mark}
use Rattle.prcu_marks.specs.declared.mark.Mark.TheVariants.{Entered, Left as LeftMark, Began, Ended, Done}
use Rattle.prcu_marks.specs.Callers.{entered_for}
use Rattle.prcu_marks.specs.Marks.{updates_of}
use Rattle.prcu_marks.proofs.Marks.{entered_for-append}
use Rattle.prcu_model.specs.declared.operation.Op.{Op}
use Rattle.prcu_model.specs.declared.operation.Op.TheVariants.{Put}
use Rattle.prcu_model.specs.declared.operation.Reply.TheVariants.{New, Old, Full}
use Rattle.prcu_model.specs.declared.operation.Told.{Told}
use Rattle.prcu_model.specs.Dictionary.{key_of, map_of}
use Rattle.prcu_model.proofs.ListFacts.{all_append, prefix_trans}
use Rattle.core_state.specs.declared.shape.Shape.{Shape}
use Rattle.core_state.specs.declared.view.Held.{Held}
use Rattle.core_state.specs.declared.view.Retired.{Retired}
use Rattle.core_state.specs.declared.view.View.{View}
use Rattle.core_state.specs.Memory.{slot_count}
use Rattle.core_state.specs.Steps.{spare_slot}
use Rattle.core_state.specs.Views.{IsQuiet}
use Rattle.core_points.specs.Programs.{key_now}
use Rattle.core_points.specs.Facts.{HasSpot, is_put, table_of}
use Rattle.core_points.specs.Fits.{owed_op}
use Rattle.core_points.specs.declared.stage.Spot.{Spot}
use Rattle.tree_points.specs.Points.{IsAt, HasAdvanced}
use Rattle.tree_points.proofs.Passing.{begins_put, has_kept, is_quiet, moves_on, outside_enter}
use Rattle.tree_points.proofs.Locks.{advanced_on, advanced_same, slot_in_hand}
use Rattle.citrus_tree.specs.Deletes.{BeginsByLookup, Comes, StandsAt}
use Rattle.citrus_tree.proofs.Leavings.{MayHaveBegun, begins_later, begins_looked, first_later, first_stays, none_begun, none_on, none_yet, answered_on, goes_looked, was_answered, KeepsView}
use Rattle.citrus_tree.specs.declared.insert.Reached.{Reached}
use Rattle.citrus_tree.specs.Going.{Goes, MayBegin, Searched, Since, Unwaited, Waited, leaf_stage, AreTries, HasBegunNone, IsOfTry, KeepsWait, NeededRoom, waits_in, Links, MakesRoom, Reused, TakesSlot, filled_stage, linked_stage, old_stage}
use Rattle.citrus_tree.specs.Hops.{Records}
use Rattle.citrus_tree.specs.Lookups.{Looked}
use Rattle.citrus_tree.specs.Replies.{GaveWay, IsFullNow, Puts}
use Rattle.citrus_tree.proofs.Linking.{needed_on}
use Rattle.citrus_tree.proofs.Replacing.{may_begin, waits_in-append}
use Rattle.std.specs.FinMap as finite
use Rattle.core_points.specs.declared.stage.Stage.TheVariants as at

-- the view after a lookup
abbrev left_view : {v w : View} {key : ℕ} {answer : Option ℕ} → Looked v key answer w → View
left_view {v} {w} l = record v {
  enter = w.enter;
  section = None;
  records = l.reading ∷ v.records;
  counts = record v.counts { sections = v.counts.sections + 1 };
  trail = w.trail;
  seen = w.seen;
}

-- Where a put stands after its search.
module _ {k : Shape} {kept key value : ℕ} {v : View} (a : IsAt k (Put key value) kept at.EnterClock v) where
  own_hand : (h : Option Held) → v.hands.hand ≡ h → a.own.hand ≡ spare_slot h
  own_hand h e = sym (slot_in_hand a.own.hand _ _ _ v.hands.hand ((a.fits.point).1).hand) ∙ ap spare_slot e

  -- the key is there
  pub old_at : {w : View} {old : ℕ} → Looked v key (Some old) w → IsAt k (Put key value) kept (old_stage w.hands.hand) w
  old_at {w} l = subst (λ (z : View). IsAt k (Put key value) kept (old_stage z.hands.hand) z) (sym l.others) (by v.hands.hand refl)
    where
      by : (h : Option Held) → v.hands.hand ≡ h → IsAt k (Put key value) kept (old_stage h) (left_view l)
      by None e = moves_on a a.own refl (record {
        owns = a.fits.owns;
        tickets = (let t = a.fits.tickets in omega arith);
        unraised = a.fits.unraised;
        point = (refl, ((a.fits.point).1).bare, e);
      })
      by (Some held) e = moves_on a a.own refl (record {
        owns = a.fits.owns;
        tickets = (let t = a.fits.tickets in omega arith);
        unraised = a.fits.unraised;
        point = (refl, (held.slot, own_hand (Some held) e), (a.fits.point).1, ap is_put a.op_is);
      })

  -- it may be given up, as where the key is there
  pub rest_at : IsAt k (Put key value) kept (old_stage v.hands.hand) v
  rest_at = by v.hands.hand refl
    where
      by : (h : Option Held) → v.hands.hand ≡ h → IsAt k (Put key value) kept (old_stage h) v
      by None e = moves_on a a.own refl (record {
        owns = a.fits.owns;
        tickets = (let t = a.fits.tickets in omega arith);
        unraised = a.fits.unraised;
        point = (outside_enter a, ((a.fits.point).1).bare, e);
      })
      by (Some held) e = moves_on a a.own refl (record {
        owns = a.fits.owns;
        tickets = (let t = a.fits.tickets in omega arith);
        unraised = a.fits.unraised;
        point = (outside_enter a, (held.slot, own_hand (Some held) e), (a.fits.point).1, ap is_put a.op_is);
      })

  -- it isn't, and the empty side is recorded
  pub spot_at : {w : View} {spot : Spot} (l : Looked v key None w) → Records l.reading spot → spot.slot < slot_count k
      → IsAt k (Put key value) kept (leaf_stage w.hands.hand spot) w
  spot_at {w} {spot} l r below = subst (λ (z : View). IsAt k (Put key value) kept (leaf_stage z.hands.hand spot) z) (sym l.others)
      (by v.hands.hand refl)
    where
      has : HasSpot (table_of a.own) (left_view l).records (key_now a.own) spot
      has = record {
        reading = l.reading;
        kept = (0, refl);
        key_is = l.sought ∙ sym (ap key_of a.op_is);
        missed = r.state_is;
        recorded = r.generation_is;
        tag_is = r.tag_is;
        inside = (let s = a.slots_are in let p = a.places_are in omega arith);
      }

      by : (h : Option Held) → v.hands.hand ≡ h → IsAt k (Put key value) kept (leaf_stage h spot) (left_view l)
      by None e = moves_on a a.own refl (record {
        owns = a.fits.owns;
        tickets = subst (λ (z : Op × Option ℕ). owed_op z.0 z.1 a.own.retired + 4 * length a.own.rest + a.own.kept ≤ v.allowance.tickets)
            (λ i. (a.op_is i, own_hand None e i)) a.fits.tickets;
        unraised = a.fits.unraised;
        point = record {
          idle = record { outside = refl; bare = ((a.fits.point).1).bare; empty = e; no_hand = own_hand None e };
          some = omega arith;
          takes = (has, ap is_put a.op_is);
        };
      })
      by (Some held) e = moves_on a a.own refl (record {
        owns = a.fits.owns;
        tickets = a.fits.tickets;
        unraised = a.fits.unraised;
        point = record {
          outside = refl;
          taken = (held.slot, own_hand (Some held) e);
          bare = ((a.fits.point).1).bare;
          hand = ((a.fits.point).1).hand;
          has_spot = has;
          puts = ap is_put a.op_is;
        };
      })

-- the marks of one more section
abbrev section_of : View → ℕ → List Mark
section_of w key = Entered w.allowance.place w.counts.sections key ∷ (LeftMark w.allowance.place w.counts.sections ∷ [])

-- where nothing was retired, and no slot more is, nothing is
nothing_more : (rs more : List Retired) → rs ≡ [] → length more ≤ length rs → more ≡ []
nothing_more rs [] none fewer = refl
nothing_more rs (r ∷ more) none fewer = absurd (let long = ap length none in omega (arith, fewer, long))

-- What was left so far goes on.
module _ {k : Shape} {v w : View} {key : ℕ} {marks : List Mark} (s : Since k v key marks w) where
  since_more : {x : View} (more : List Mark) → HasAdvanced w x more → length x.hands.retired ≤ length w.hands.retired → x.wait ≡ w.wait
      → x.counts.waits ≡ w.counts.waits → AllByRecursion (IsOfTry v.allowance.place key) more → waits_in more ≡ 0
      → Since k v key (marks ++ more) x
  since_more {x} more advanced fewer wait waits each none = record {
    advanced = advanced_on s.advanced advanced;
    each = all_append (IsOfTry v.allowance.place key) marks more s.each each;
    waits = ⊎_elim
        (λ (u : Unwaited v w marks). inl (record {
          none = (let both = waits_in-append marks more in let first = u.none in omega arith);
          fewer = (let first = u.fewer in omega (arith, first, fewer));
          wait = wait ∙ u.wait;
          waits = waits ∙ u.waits;
        }))
        (λ (t : Waited k v w marks). inr (record {
          one = (let both = waits_in-append marks more in let first = t.one in omega arith);
          none = nothing_more w.hands.retired x.hands.retired t.none fewer;
          needed = needed_on t.needed advanced.begins;
          wait = first_stays t.wait advanced.begins wait;
        }))
        s.waits;
  }

  since_goes : {x : View} (more : List Mark) → Goes w x more → AllByRecursion (IsOfTry v.allowance.place key) more → waits_in more ≡ 0
      → Since k v key (marks ++ more) x
  since_goes {x} more g each none = since_more more g.advanced (let same = ap length g.retired in omega (arith, same)) g.wait g.waits each none

  pub since_stays : {x : View} → Goes w x [] → Since k v key marks x
  since_stays {x} g = subst (λ ms. Since k v key ms x) (append-nil marks) (since_goes [] g tt refl)

  since_reused : {x : View} → Reused k w x → Since k v key
      (marks ++ (Began w.allowance.place w.counts.waits 0 18446744073709551615 ∷ (Ended w.allowance.place w.counts.waits ∷ []))) x
  since_reused {x} r =
      let more : List Mark = Began w.allowance.place w.counts.waits 0 18446744073709551615
      ∷ (Ended w.allowance.place w.counts.waits ∷ []) in
      record {
        advanced = advanced_on s.advanced r.advanced;
        each = all_append (IsOfTry v.allowance.place key) marks more s.each ((s.advanced.same, refl, refl), (s.advanced.same, tt));
        waits = ⊎_elim
            (λ (u : Unwaited v w marks). inr (record {
              one = (let both = waits_in-append marks more in let first = u.none in omega arith);
              none = r.none;
              needed = record {
                retired = (let fewer = u.fewer in let some = r.needed.retired in omega (arith, fewer, some));
                until = r.needed.until;
                since = prefix_trans v.seen w.seen r.needed.until s.advanced.begins r.needed.since;
                made = r.needed.made;
                fills = (let fewer = u.fewer in let fills = r.needed.fills in omega (arith, fewer, fills));
              };
              wait = first_later (none_begun s.advanced u.waits u.wait) r.wait;
            }))
            (λ (t : Waited k v w marks). absurd (let some = r.needed.retired in let none = ap length t.none in omega arith))
            s.waits;
      }

  pub since_room : {x : View} → MakesRoom k w x → (more : List Mark) × Since k v key (marks ++ more) x
  since_room {x} room = ⊎_elim
      (λ (t : TakesSlot w x). ([], since_more [] t.advanced t.fewer t.wait t.waits tt refl))
      (λ (r : Reused k w x). (
        Began w.allowance.place w.counts.waits 0 18446744073709551615 ∷ (Ended w.allowance.place w.counts.waits ∷ []),
        since_reused r,
      ))
      room

  -- one more section
  module _ {answer : Option ℕ} {x : View} (l : Looked w key answer x) where
    pub since_looked : Since k v key (marks ++ section_of w key) x
    since_looked = since_goes (section_of w key) (goes_looked l) ((s.advanced.same, refl), (s.advanced.same, tt)) refl

    pub entered_looked : 1 ≤ entered_for v.allowance.place key (marks ++ section_of w key)
    entered_looked =
        let split = entered_for-append v.allowance.place key marks (section_of w key) in
        let one : entered_for v.allowance.place key (section_of w key) ≡ 1 =
        ap (λ b. cond b (cond (key == key) 1 0) 0 + 0) (eq-eqb w.allowance.place v.allowance.place s.advanced.same)
        ∙ ap (λ b. cond b 1 0 + 0) (eq-eqb key key refl) in
        omega arith

  pub are_tries : 1 ≤ entered_for v.allowance.place key marks → AreTries v.allowance.place key marks
  are_tries some = record {
    each = s.each;
    entered = some;
    once = ⊎_elim (λ (u : Unwaited v w marks). (let none = u.none in omega arith))
        (λ (t : Waited k v w marks). (let one = t.one in omega arith)) s.waits;
  }

  pub needs_room : {x : View} → IsPrefix w.seen x.seen → 1 ≤ waits_in marks → NeededRoom k v x
  needs_room {x} more some = ⊎_elim (λ (u : Unwaited v w marks). absurd (let none = u.none in omega arith))
      (λ (t : Waited k v w marks). needed_on t.needed more) s.waits

  pub keeps_wait : (x : View) → HasBegunNone w x → KeepsWait v x
  keeps_wait x none = ⊎_elim (λ (u : Unwaited v w marks). inl (none_on (none_begun s.advanced u.waits u.wait) none))
      (λ (t : Waited k v w marks). inr (first_stays t.wait none.seen none.wait)) s.waits

-- the marks of room that was made, none of which is a section's
room_leaves : {k : Shape} {v w : View} → MakesRoom k v w → (more : List Mark) × HasAdvanced v w more × ((p s : ℕ) → entered_for p s more ≡ 0)
room_leaves {k} {v} {w} room = ⊎_elim
    (λ (t : TakesSlot v w). ([], t.advanced, λ p s. refl))
    (λ (r : Reused k v w). (
      Began v.allowance.place v.counts.waits 0 18446744073709551615 ∷ (Ended v.allowance.place v.counts.waits ∷ []),
      r.advanced,
      λ p s. refl,
    ))
    room

no_more : (xs : List Mark) → IsPrefix xs xs
no_more xs = ([], append-nil xs)

-- So far there were only sections with the key, and at most one wait; and the call may begin its next try.
pub record Trying (k : Shape) (key value : ℕ) (v w : View) : Type 0 where
  pub marks : List Mark
  pub since : Since k v key marks w
  pub first : MayHaveBegun v key w
  pub ready : (kept : ℕ) → kept + 4 ≤ v.allowance.tickets → MayBegin k (Put key value) kept w

module _ {k : Shape} {key value : ℕ} {v : View} where
  pub begins : IsQuiet v → key < 2 ^ 64 → Trying k key value v v
  begins quiet fits = record {
    marks = [];
    since = record { advanced = advanced_same; each = tt; waits = inl (record { none = refl; fewer = omega arith; wait = refl; waits = refl }) };
    first = inl refl;
    ready = λ kept few. record {
      outside = quiet.section;
      unlocked = quiet.locks;
      at = λ seated. begins_put quiet seated.works seated.some_place fits few;
    };
  }

  module _ {w : View} (t : Trying k key value v w) (few : 4 ≤ v.allowance.tickets) where
    pub outside : w.section ≡ None
    outside = (t.ready 0 few).outside

    pub unlocked : w.locks ≡ []
    unlocked = (t.ready 0 few).unlocked

    -- the key is there
    module _ {answer : Option Reached} (some_place : 1 ≤ k.places) (x : View) (is : answer ≡ None) (searched : Searched k w key answer x) where
      pub old_found : Searched k w key None x
      old_found = subst (λ (r : Option Reached). Searched k w key r x) is searched

      old_ready : (kept : ℕ) → kept + 4 ≤ v.allowance.tickets → IsAt k (Put key value) kept (old_stage x.hands.hand) x
      old_ready kept enough = old_at ((t.ready kept enough).at (record { works = old_found.1.sees.works; some_place = some_place }))
          old_found.1

      pub may_give_up : StandsAt k (old_stage x.hands.hand) x
      may_give_up = (Put key value, 0, old_ready 0 few)

      pub old_looked : Goes w x (section_of w key)
      old_looked = goes_looked old_found.1

      module _ {y : View} (g : Goes x y []) where
        pub old_puts : {told : Told} → told ≡ record { reply = Old; number = 0 } → Puts k v key value told y
        old_puts told =
            let before = since_looked t.since old_found.1 in
            let s = since_stays before g in subst (λ (r : Told). Puts k v key value r y) (sym told) (
              t.marks ++ section_of w key,
              (
                refl,
                record { tried = are_tries s (entered_looked t.since old_found.1); own = s.advanced },
                (old_found.0, answered_on before.advanced (was_answered old_found.1 t.since.advanced) g.advanced refl),
              ),
              needs_room s (no_more y.seen),
            )

        pub old_begins : BeginsByLookup v key y
        old_begins = begins_later (begins_looked t.first old_found.1) g.advanced

        pub old_keeps : Comes k (old_stage x.hands.hand) x at.Finished y → KeepsView 4 v y
        old_keeps ends = let since = since_stays (since_looked t.since old_found.1) g in record {
          quiet = is_quiet (ends (Put key value) 0 (old_ready 0 few));
          wait = keeps_wait since y (none_yet y);
          tickets = (let left = has_kept (ends (Put key value) (v.allowance.tickets - 4)
              (old_ready (v.allowance.tickets - 4) (omega arith))) in omega arith);
          allowance = since.advanced.allowance;
        }

    -- it isn't
    module _ {answer : Option Reached} {reached : Reached} (some_place : 1 ≤ k.places) (x : View) (is : answer ≡ Some reached)
        (searched : Searched k w key answer x) where
      abbrev spot : Spot
      spot = reached.spot

      pub spot_found : Searched k w key (Some reached) x
      spot_found = subst (λ (r : Option Reached). Searched k w key r x) is searched

      spot_ready : (kept : ℕ) → kept + 4 ≤ v.allowance.tickets → IsAt k (Put key value) kept (leaf_stage x.hands.hand spot) x
      spot_ready kept enough = spot_at ((t.ready kept enough).at
          (record { works = spot_found.0.sees.works; some_place = some_place })) spot_found.0 spot_found.1 spot_found.2.inside

      pub may_take_leaf : (c : ℕ) × (s : Spot) × IsAt k (Put key value) c (leaf_stage x.hands.hand s) x
      may_take_leaf = (0, spot, spot_ready 0 few)

      pub spot_looked : Goes w x (section_of w key)
      spot_looked = goes_looked spot_found.0

      module _ {y : View} (room : MakesRoom k x y) where
        left : (more : List Mark) × HasAdvanced x y more × ((p s : ℕ) → entered_for p s more ≡ 0)
        left = room_leaves room

        abbrev tried : List Mark
        tried = (t.marks ++ section_of w key) ++ (since_room (since_looked t.since spot_found.0) room).0

        since : Since k v key tried y
        since = (since_room (since_looked t.since spot_found.0) room).1

        entered : 1 ≤ entered_for v.allowance.place key tried
        entered =
            let split = entered_for-append v.allowance.place key (t.marks ++ section_of w key)
            (since_room (since_looked t.since spot_found.0) room).0 in
            let some = entered_looked t.since spot_found.0 in
            omega arith

        pub full_puts : {told : Told} → IsFullNow k y → told ≡ record { reply = Full; number = 0 } → Puts k v key value told y
        full_puts full told = subst (λ (r : Told). Puts k v key value r y) (sym told) (
          tried,
          (
            refl,
            record { tried = are_tries since entered; own = since.advanced },
            answered_on (since_looked t.since spot_found.0).advanced (was_answered spot_found.0 t.since.advanced) left.1 (left.2 v.allowance.place
                key),
            full,
          ),
          needs_room since (no_more y.seen),
        )

        -- it is to be made again rather than wait for readers
        pub readers_way : GaveWay k v (Put key value) y
        readers_way = record {
          tries = tried;
          tried = record { tried = are_tries since entered; own = since.advanced };
          needed = needs_room since (no_more y.seen);
        }

        pub full_begins : BeginsByLookup v key y
        full_begins = begins_later (begins_looked t.first spot_found.0) left.1

        module _ {leaf : Option ℕ} (none : leaf ≡ None) (comes : (c : ℕ) (s : Spot)
            → IsAt k (Put key value) c (leaf_stage x.hands.hand s) x → IsAt k (Put key value) c (filled_stage leaf s) y) where
          full_done : (kept : ℕ) → kept + 4 ≤ v.allowance.tickets → IsAt k (Put key value) kept at.Finished y
          full_done kept enough = subst (λ r. IsAt k (Put key value) kept (filled_stage r spot) y) none
              (comes kept spot (spot_ready kept enough))

          pub full_keeps : KeepsView 4 v y
          full_keeps = record {
            quiet = is_quiet (full_done 0 few);
            wait = keeps_wait since y (none_yet y);
            tickets = (let left = has_kept (full_done (v.allowance.tickets - 4) (omega arith)) in omega arith);
            allowance = since.advanced.allowance;
          }

        -- a filled slot is in hand
        module _ {leaf : Option ℕ} {slot : ℕ} (some : leaf ≡ Some slot) (comes : (c : ℕ) (s : Spot)
            → IsAt k (Put key value) c (leaf_stage x.hands.hand s) x → IsAt k (Put key value) c (filled_stage leaf s) y) where
          locking : (kept : ℕ) → kept + 4 ≤ v.allowance.tickets → IsAt k (Put key value) kept (at.LeafLock spot) y
          locking kept enough = subst (λ r. IsAt k (Put key value) kept (filled_stage r spot) y) some
              (comes kept spot (spot_ready kept enough))

          pub may_link : (c : ℕ) × IsAt k (Put key value) c (at.LeafLock spot) y
          may_link = (0, locking 0 few)

          -- it wasn't linked
          pub tries_again : {z : View} {number : Option ℕ} → Goes y z [] → number ≡ None
              → ((c : ℕ) → IsAt k (Put key value) c (at.LeafLock spot) y → IsAt k (Put key value) c (linked_stage number) z)
              → Trying k key value v z
          tries_again {z} g none again = record {
            marks = tried;
            since = since_stays since g;
            first = inr (begins_later full_begins g.advanced);
            ready = λ kept enough. may_begin (subst (λ r. IsAt k (Put key value) kept (linked_stage r) z) none
                (again kept (locking kept enough)));
          }

          -- nor is it tried again: the leaf is put back
          module _ {z : View} {number : Option ℕ} (g : Goes y z []) (none : number ≡ None)
              (again : (c : ℕ) → IsAt k (Put key value) c (at.LeafLock spot) y → IsAt k (Put key value) c (linked_stage number) z) where
            resting : (kept : ℕ) → kept + 4 ≤ v.allowance.tickets → IsAt k (Put key value) kept (old_stage z.hands.hand) z
            resting kept enough = rest_at (subst (λ r. IsAt k (Put key value) kept (linked_stage r) z) none
                (again kept (locking kept enough)))

            pub may_rest : StandsAt k (old_stage z.hands.hand) z
            may_rest = (Put key value, 0, resting 0 few)

            module _ {o : View} (back : Goes z o []) where
              rested : Since k v key tried o
              rested = since_stays (since_stays since g) back

              pub rests_way : GaveWay k v (Put key value) o
              rests_way = record {
                tries = tried;
                tried = record { tried = are_tries rested entered; own = rested.advanced };
                needed = needs_room rested (no_more o.seen);
              }

              pub rests_begins : BeginsByLookup v key o
              rests_begins = begins_later (begins_later full_begins g.advanced) back.advanced

              pub rests_keeps : Comes k (old_stage z.hands.hand) z at.Finished o → KeepsView 4 v o
              rests_keeps ends = record {
                quiet = is_quiet (ends (Put key value) 0 (resting 0 few));
                wait = keeps_wait rested o (none_yet o);
                tickets = (let left = has_kept (ends (Put key value) (v.allowance.tickets - 4)
                    (resting (v.allowance.tickets - 4) (omega arith))) in omega arith);
                allowance = rested.advanced.allowance;
              }

          -- it was linked
          module _ {z : View} {answered : Option ℕ} {number : ℕ} (one : answered ≡ Some number)
              (made : (c n : ℕ) → IsAt k (Put key value) c (at.LeafLock spot) y → answered ≡ Some n → Links y key value n z) where
            linked : Links y key value number z
            linked = made 0 number (locking 0 few) one

            same_place : y.allowance.place ≡ v.allowance.place
            same_place = since.advanced.same

            all_advanced : HasAdvanced v z (tried ++ Done (record { caller = v.allowance.place; op = Put key value }) ∷ [])
            all_advanced = subst (λ (p : ℕ). HasAdvanced v z (tried ++ Done (record { caller = p; op = Put key value }) ∷ [])) same_place
                (advanced_on since.advanced linked.1.goes.advanced)

            stands : IsPrefix (linked.0 ++ Done (record { caller = v.allowance.place; op = Put key value }) ∷ []) z.seen
            stands = (
              [],
              append-nil (linked.0 ++ Done (record { caller = v.allowance.place; op = Put key value }) ∷ [])
                  ∙ sym (linked.1.seen ∙ (λ i. linked.0 ++ Done (record { caller = same_place i; op = Put key value }) ∷ [])),
            )

            newest : IsPrefix z.seen (linked.0 ++ Done (record { caller = v.allowance.place; op = Put key value }) ∷ [])
            newest = (
              [],
              append-nil z.seen ∙ (linked.1.seen
                  ∙ (λ i. linked.0 ++ Done (record { caller = same_place i; op = Put key value }) ∷ [])),
            )

            pub new_puts : {told : Told} → told ≡ record { reply = New; number = number } → Puts k v key value told z
            new_puts told = subst (λ (r : Told). Puts k v key value r z) (sym told) (
              tried,
              (
                linked.0,
                record {
                  tried = are_tries since entered;
                  own = subst (HasAdvanced v z) (sym (append-nil
                      (tried ++ Done (record { caller = v.allowance.place; op = Put key value }) ∷ []))) all_advanced;
                  since = prefix_trans v.seen y.seen linked.0 since.advanced.begins linked.1.since;
                  stands = stands;
                  number_is = linked.1.number_is;
                  legal = linked.1.legal;
                },
                newest,
              ),
              needs_room since linked.1.goes.advanced.begins,
            )

            pub new_begins : BeginsByLookup v key z
            new_begins = begins_later full_begins linked.1.goes.advanced

            pub new_goes : Goes y z (Done (record { caller = y.allowance.place; op = Put key value }) ∷ [])
            new_goes = linked.1.goes

            module _ (last : (c : ℕ) → IsAt k (Put key value) c (at.LeafLock spot) y
                → IsAt k (Put key value) c (linked_stage answered) z) where
              new_done : (kept : ℕ) → kept + 4 ≤ v.allowance.tickets → IsAt k (Put key value) kept at.Finished z
              new_done kept enough = subst (λ r. IsAt k (Put key value) kept (linked_stage r) z) one (last kept (locking kept enough))

              pub new_keeps : KeepsView 4 v z
              new_keeps = record {
                quiet = is_quiet (new_done 0 few);
                wait = keeps_wait since z (none_begun linked.1.goes.advanced linked.1.goes.waits linked.1.goes.wait);
                tickets = (let left = has_kept (new_done (v.allowance.tickets - 4) (omega arith)) in omega arith);
                allowance = all_advanced.allowance;
              }

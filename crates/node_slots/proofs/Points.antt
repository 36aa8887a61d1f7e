-- The calls on slots over the points of a call of the tree: where one begins its conditions are met, and where it ends the next point
-- stands.
use Rattle.std.proofs.Common.{◌≡◌, ◌≢◌, ℕ, ◌+◌, ◌-◌, ◌*◌, ◌≤◌, length, true, false, List, [], ◌∷◌, ◌++◌, map, Option, Some, None, refl, sym, ap, subst, ◌∙◌, arith}
use Rattle.node_slots.specs.declared.answers.Taken.TheVariants.{Slot, Empty}
use Rattle.node_slots.specs.declared.answers.Taken.{Taken}
use mathlib.Core.List.{IsPrefix}
use Rattle.prcu_model.proofs.ListFacts.{prefix_trans}
use Rattle.prcu_model.specs.declared.operation.Op.{Op}
use Rattle.prcu_marks.specs.declared.mark.Mark.TheVariants.{Given, Freed, Began, Ended}
use Rattle.core_state.specs.declared.shape.Shape.{Shape}
use Rattle.core_state.specs.declared.words.Field.TheVariants.{Life}
use Rattle.core_state.specs.declared.view.Held.{Held}
use Rattle.core_state.specs.declared.view.Retired.{Retired}
use Rattle.core_state.specs.declared.view.View.{View}
use Rattle.core_state.specs.Steps.{spare_slot}
use Rattle.core_state.specs.Views.{noting, held_list}
use Rattle.core_state.specs.Links.{seized, renewed, without_retired}
use Rattle.core_frames.proofs.Roles.{in_without}
use Rattle.core_laws.proofs.LockSteps.{known_here}
use Rattle.list_laws.specs.Counts.{times, Each}
use Rattle.list_laws.proofs.Lists.{times_here}
use Rattle.core_points.specs.declared.stage.Spot.{Spot}
use Rattle.core_points.specs.declared.stage.Aim.{Aim}
use Rattle.core_points.specs.declared.stage.Aim.TheVariants.{Leaf, Spare}
use Rattle.core_points.specs.declared.stage.Waits.TheVariants.{Reuse}
use Rattle.core_points.specs.declared.stage.Stage.{Stage}
use Rattle.core_points.specs.declared.stage.Stage.TheVariants as at
use Rattle.core_points.specs.Programs.{Own, go, is_none_left, is_some, key_now, value_in}
use Rattle.core_points.specs.Facts.{HandFits, Owns}
use Rattle.core_points.specs.Fits.{Fits, Point, plain, owed, owed_reserve}
use Rattle.core_points.proofs.Calls.{of_call}
use Rattle.core_points.proofs.Notes.{fits, owns_noted, bare_noted}
use Rattle.seat_table.specs.Gains.{IsFull}
use Rattle.seat_table.specs.Seats.{IsSlotOf}
use Rattle.tree_points.specs.Points.{IsAt, IsDone, HasAdvanced, HasGivenAll}
use Rattle.tree_points.proofs.Passing.{moves_on}
use Rattle.tree_points.proofs.Locks.{allowed, further_by, advanced_with, advanced_all}
use Rattle.node_slots.specs.Slots.{aged, next_life, renewing, PutsBack}
use Rattle.node_slots.specs.Taking.{HasTaken, FoundNone, TriesBy}
use Rattle.node_slots.specs.Reclaiming.{first_spare, HasReclaimed, Reuses}

least_two : (aim : Aim) (retired : List ℕ) → 2 ≤ owed_reserve aim retired
least_two (Leaf spot) [] = omega arith
least_two aim retired = omega arith

three_left : (retired : List ℕ) (spot : Spot) → is_none_left retired ≡ false → owed_reserve (Leaf spot) retired ≡ 3
three_left [] spot e = cc
three_left (s ∷ ss) spot e = refl

-- The call goes on to a point where no retired slot is raised, with a view that is told whole.
comes_to : {k : Shape} {op : Op} {kept : ℕ} {from to : Stage} {v w told : View} (a : IsAt k op kept from v) (o : Own)
    → of_call o ≡ of_call a.own → w ≡ told → Owns o told → Each told.hands.retired (λ (r : Retired). r.raised ≡ false)
    → owed o to + 4 * length o.rest + o.kept ≤ told.allowance.tickets → Point o to (plain told) → IsAt k op kept to w
comes_to {to = to} a o same is owns unraised paid point =
    moves_on a o same (subst (Fits o to) (sym is) (fits owns unraised paid point))

-- What take asks.
pub record MayTake (v : View) : Type 0 where
  pub unreserved : v.hands.reserved ≡ false
  pub empty : v.hands.hand ≡ None
  pub ticket : 1 ≤ v.allowance.tickets

pub may_take : {k : Shape} {op : Op} {kept e : ℕ} {aim : Aim} {v : View} → IsAt k op kept (at.Reserve aim e) v → MayTake v
may_take {aim = aim} a =
    let i = a.fits.point.idle in record {
      unreserved = i.bare.reserved_is;
      empty = i.empty;
      ticket = (let t = a.fits.tickets in let two = least_two aim a.own.retired in omega arith);
    }

-- A take makes steps.
pub tries_further : (k : Shape) (v w : View) (looked now : ℕ) (t : Taken) → TriesBy k v looked t w now
    → IsPrefix v.trail.steps w.trail.steps
tries_further k v w looked now (Slot slot generation) tries = further_by v w _ tries.makes refl
tries_further k v w looked now Empty tries = further_by v w _ tries.makes refl

-- A slot was taken, for a leaf or for a spare.
module _ {slot generation : ℕ} {v w : View} (taken : HasTaken v slot generation w) where
  abbrev life : ℕ
  life = taken.life

  pub taken_in_hand : w.hands.hand ≡ Some (aged slot taken.life)
  taken_in_hand = ap (λ (z : View). z.hands.hand) taken.rest

  pub taken_slot : IsSlotOf (Some slot) w.hands.hand
  taken_slot = subst (IsSlotOf (Some slot)) (sym taken_in_hand) refl

  pub taken_advanced : IsPrefix v.trail.steps w.trail.steps → HasAdvanced v w []
  taken_advanced steps = advanced_with taken.given.before (Given slot ∷ []) steps taken.given.seen (allowed taken.rest refl) taken.given.marked

  pub taken_retired : w.hands.retired ≡ v.hands.retired
  taken_retired = ap (λ (z : View). z.hands.retired) taken.rest

  pub takes_leaf : {k : Shape} {op : Op} {kept e : ℕ} {spot : Spot} → IsAt k op kept (at.Reserve (Leaf spot) e) v
      → IsAt k op kept (at.LeafField spot 0) w
  takes_leaf {spot = spot} a =
      let o : Own = a.own in
      let f = a.fits in
      let p = f.point in
      let i = p.idle in
      comes_to a (go (record o { hand = Some slot; hand_life = life }) (at.LeafField spot 0)) refl taken.rest
      (owns_noted o v slot (Life slot) life false f.owns) (f.unraised refl)
      (let t = f.tickets in let two = least_two (Leaf spot) o.retired in omega arith) (record {
        outside = i.outside;
        bare = bare_noted v slot (Life slot) life false [] [] None false i.bare refl;
        slot = slot;
        taken = refl;
        before = (aged slot life).known;
        life_is = known_here (seized slot).known (Life slot) life false;
        in_hand = refl;
        has_spot = (p.takes).0;
        puts = (p.takes).1;
        small = omega arith;
      })

  pub takes_spare : {k : Shape} {op : Op} {kept e : ℕ} → IsAt k op kept (at.Reserve Spare e) v → IsAt k op kept (at.Keep slot) w
  takes_spare a =
      let o : Own = a.own in
      let f = a.fits in
      let i = (f.point).idle in
      comes_to a (go (record o { hand = Some slot; hand_life = life }) (at.Keep slot)) refl taken.rest
      (owns_noted o v slot (Life slot) life false f.owns) (f.unraised refl) (let t = f.tickets in omega arith) (record {
        outside = i.outside;
        bare = bare_noted v slot (Life slot) life false [] [] None false i.bare refl;
        held = aged slot life;
        in_hand = refl;
        slot_is = refl;
        lacks = (f.point).takes;
      })

-- What reuse asks beside a slot that is ready.
pub record MayReuse (v : View) : Type 0 where
  pub unlocked : v.locks ≡ []
  pub settled : v.moving ≡ None
  pub empty : v.hands.hand ≡ None
  pub unreserved : v.hands.reserved ≡ false
  pub ticket : 1 ≤ v.allowance.tickets

pub may_reuse : {k : Shape} {op : Op} {kept e : ℕ} {aim : Aim} {v : View} → IsAt k op kept (at.Reserve aim e) v → MayReuse v
may_reuse a =
    let take = may_take a in
    let bare = a.fits.point.idle.bare in record {
      unlocked = bare.locks_are;
      settled = bare.settled;
      empty = take.empty;
      unreserved = take.unreserved;
      ticket = take.ticket;
    }

-- A retired slot was used again, for a leaf.
module _ {slot : ℕ} {v w : View} (reused : Reuses v slot w) where
  pub reused_slot : IsSlotOf (Some slot) w.hands.hand
  reused_slot = subst (IsSlotOf (Some slot)) (sym (ap (λ (z : View). z.hands.hand) reused.rest)) refl

  pub reused_advanced : HasAdvanced v w []
  reused_advanced =
      advanced_with reused.given.before (Given slot ∷ []) steps reused.given.seen (allowed reused.rest refl) reused.given.marked
    where
      steps : IsPrefix v.trail.steps w.trail.steps
      steps = subst (λ (z : View). IsPrefix v.trail.steps z.trail.steps) (sym reused.rest)
          (prefix_trans v.trail.steps (v.trail.steps ++ _) ((v.trail.steps ++ _) ++ _) (_, refl) (_, refl))

  pub reused_retired : w.hands.retired ≡ without_retired slot v.hands.retired
  reused_retired = ap (λ (z : View). z.hands.retired) reused.rest

  pub reuses_leaf : {k : Shape} {op : Op} {kept e : ℕ} {spot : Spot} → IsAt k op kept (at.Reserve (Leaf spot) e) v
      → IsAt k op kept (at.LeafField spot 0) w
  reuses_leaf {spot = spot} a =
      let o : Own = a.own in
      let f = a.fits in
      let p = f.point in
      let own = f.owns in
      let life : ℕ = next_life reused.life in
      let left : List Retired = without_retired slot v.hands.retired in
      comes_to a
      (go (record o { hand = Some slot; hand_life = life; retired = map (λ (r : Retired). r.slot) left }) (at.LeafField spot 0)) refl
      reused.rest
      (record {
        same = own.same;
        works = own.works;
        spare_is = own.spare_is;
        retired_are = refl;
        locks_are = own.locks_are;
        key_fits = own.key_fits;
        keys_fit = own.keys_fit;
        scans = own.scans;
        scans_table = own.scans_table;
      })
      (λ j r at. (let has = (in_without slot v.hands.retired r (j, at)).0 in f.unraised refl has.0 r has.1))
      (let t = f.tickets in let two = least_two (Leaf spot) o.retired in omega arith) (record {
        outside = (p.idle).outside;
        bare = (p.idle).bare;
        slot = slot;
        taken = refl;
        before = (renewed slot life).known;
        life_is = known_here [] (Life slot) life true;
        in_hand = refl;
        has_spot = (p.takes).0;
        puts = (p.takes).1;
        small = omega arith;
      })

-- No slot was free.
none_retired : (rs : List Retired) (os : List ℕ) → map (λ (r : Retired). r.slot) rs ≡ os → rs ≢ [] → is_none_left os ≡ false
none_retired [] os e some = absurd (some refl)
none_retired (r ∷ rs) os e some = ap is_none_left (sym e)

module _ {k : Shape} {v w : View} (none : FoundNone k v w) where
  pub none_advanced : IsPrefix v.trail.steps w.trail.steps → HasAdvanced v w []
  none_advanced steps = advanced_all w.seen steps none.sees (allowed none.rest refl) refl

  pub none_retired_now : w.hands.retired ≡ v.hands.retired
  none_retired_now = ap (λ (z : View). z.hands.retired) none.rest

  -- A put answers Full, where nothing is retired; then the dictionary is as large as that asks for.
  pub none_is_full : {op : Op} {kept e : ℕ} {spot : Spot} → IsAt k op kept (at.Reserve (Leaf spot) e) v → IsFull k w
  none_is_full a = let b = a.fits.point.idle.bare in none.full b.settled b.paid

  pub none_ends : {op : Op} {kept e : ℕ} {spot : Spot} → IsAt k op kept (at.Reserve (Leaf spot) e) v → IsDone k op kept w
  none_ends a =
      let f = a.fits in
      let i = (f.point).idle in
      comes_to a (go a.own at.Finished) refl none.rest f.owns (f.unraised refl) (let t = f.tickets in omega arith)
      (i.outside, i.bare, i.empty)

  -- Where something is retired it is given back first.
  pub none_begins : {op : Op} {kept e : ℕ} {spot : Spot} → v.hands.retired ≢ [] → IsAt k op kept (at.Reserve (Leaf spot) e) v
      → IsAt k op kept (at.Begin (Reuse (Leaf spot))) w
  none_begins {spot = spot} some a =
      let o : Own = a.own in
      let f = a.fits in
      let p = f.point in
      comes_to a (go o (at.Begin (Reuse (Leaf spot)))) refl none.rest f.owns (f.unraised refl)
      (let t = f.tickets in let three = three_left o.retired spot
      (none_retired v.hands.retired o.retired f.owns.retired_are some) in omega arith)
      (p.idle, p.takes)

  pub none_begins_spare : {op : Op} {kept e : ℕ} → IsAt k op kept (at.Reserve Spare e) v → IsAt k op kept (at.Begin (Reuse Spare)) w
  none_begins_spare a =
      let f = a.fits in
      let p = f.point in
      comes_to a (go a.own (at.Begin (Reuse Spare))) refl none.rest f.owns (f.unraised refl) f.tickets (p.idle, (p.takes).deletes)

-- What put_back asks.
pub record MayPutBack (v : View) : Type 0 where
  pub paid : v.hands.owes ≡ false
  pub hand : (held : Held) × (v.hands.hand ≡ Some held) × (held.raised ≡ false)

pub may_put_back : {k : Shape} {op : Op} {kept : ℕ} {v : View} → IsAt k op kept at.Raise v → MayPutBack v
may_put_back {v = v} a =
    let o : Own = a.own in
    let p = a.fits.point in
    let calm = p.2 in
    let leaf = subst (λ x. HandFits x o.hand_life (key_now o) (value_in o.op) v.hands.hand) (p.1).1 calm.hand in
    record { paid = (calm.bare).paid; hand = (leaf.0, leaf.1, (leaf.2).unraised) }

module _ {slot : ℕ} {v w : View} (back : PutsBack v slot w) where
  pub back_advanced : HasAdvanced v w []
  back_advanced = advanced_with back.freed.before (Freed slot ∷ []) steps back.freed.seen (allowed back.rest refl) back.freed.marked
    where
      steps : IsPrefix v.trail.steps w.trail.steps
      steps = subst (λ (z : View). IsPrefix v.trail.steps z.trail.steps) (sym back.rest)
          (prefix_trans v.trail.steps ((v.trail.steps ++ _) ++ _) (((((v.trail.steps ++ _) ++ _) ++ _)) ++ _)
          (prefix_trans v.trail.steps (v.trail.steps ++ _) _ (_, refl) (_, refl))
          (prefix_trans ((v.trail.steps ++ _) ++ _) (((v.trail.steps ++ _) ++ _) ++ _) _ (_, refl) (_, refl)))

  pub back_retired : w.hands.retired ≡ v.hands.retired
  back_retired = ap (λ (z : View). z.hands.retired) back.rest

  -- The call has answered: the key was there.
  pub back_ends : {k : Shape} {op : Op} {kept : ℕ} → IsAt k op kept at.Raise v → IsDone k op kept w
  back_ends a =
      let o : Own = a.own in
      let f = a.fits in
      let p = f.point in
      let life : ℕ = back.life in
      let first : View = noting v slot (Life slot) life false in
      let u : View = renewing v slot life in
      let last : View = record u {
        hands = record u.hands { hand = None };
        latest = record v.latest { free = Some (back.found + 1) };
        trail = w.trail;
        seen = w.seen;
      } in
      let e = ap (λ (z : View). z.trail) back.rest in
      let is : w ≡ last = back.rest ∙ (λ i. record u {
        hands = record u.hands { hand = None };
        latest = record v.latest { free = Some (back.found + 1) };
        trail = sym e i;
        seen = w.seen;
      }) in
      let b1 = bare_noted v slot (Life slot) life false [] [] None false (p.2).bare refl in
      let b2 = bare_noted first slot (Life slot) (next_life life) true [] [] None false b1 refl in
      comes_to a (go (record o { hand = None }) at.Finished) refl is
      (owns_noted o first slot (Life slot) (next_life life) true (owns_noted o v slot (Life slot) life false f.owns))
      (f.unraised refl) f.tickets (p.0, b2, refl)

-- What reclaim asks.
pub record MayReclaim (v : View) : Type 0 where
  pub outside : v.section ≡ None
  pub unlocked : v.locks ≡ []
  pub settled : v.moving ≡ None
  pub paid : v.hands.owes ≡ false
  pub ticket : 1 ≤ v.allowance.tickets
  pub unraised : Each v.hands.retired (λ (r : Retired). r.raised ≡ false)

pub may_reclaim : {k : Shape} {op : Op} {kept : ℕ} {aim : Aim} {v : View} → IsAt k op kept (at.Begin (Reuse aim)) v → MayReclaim v
may_reclaim a =
    let f = a.fits in
    let i = (f.point).0 in
    let b = i.bare in
    record {
      outside = i.outside;
      unlocked = b.locks_are;
      settled = b.settled;
      paid = b.paid;
      ticket = (let t = f.tickets in omega arith);
      unraised = f.unraised refl;
    }

pub reclaim_advanced : {k : Shape} {v w : View} {listed : List ℕ} → HasReclaimed k v listed w
    → HasAdvanced v w (Began v.allowance.place v.counts.waits 0 18446744073709551615 ∷ (Ended v.allowance.place v.counts.waits ∷ []))
reclaim_advanced {v = v} {w = w} back = record {
  steps =
      let last = (back.waits).2 in
      let mid : View = (back.waits).0 in
      prefix_trans v.trail.steps back.waited.trail.steps w.trail.steps
      (prefix_trans v.trail.steps mid.trail.steps back.waited.trail.steps (further_by v mid _ (back.waits).1.made refl)
      (further_by mid back.waited _ last.ended.makes refl))
      back.gives.steps;
  same = ap (λ (z : View). z.allowance.place) back.rest;
  allowance = allowed back.rest refl;
  begins = back.seen;
  own = back.own;
}

pub reclaim_retired : {k : Shape} {v w : View} {listed : List ℕ} → HasReclaimed k v listed w → w.hands.retired ≡ []
reclaim_retired back = ap (λ (z : View). z.hands.retired) back.rest

some_listed : (rs : List Retired) (xs : List ℕ) → rs ≢ [] → ((t : ℕ) → times t xs ≡ times t (map (λ (r : Retired). r.slot) rs))
    → (x : ℕ) × (more : List ℕ) × (xs ≡ x ∷ more)
some_listed [] xs ne eq = absurd (ne refl)
some_listed (r ∷ rs) [] ne eq = absurd (let one = times_here r.slot (map (λ (r : Retired). r.slot) rs) in let none = eq r.slot in
    omega arith)
some_listed (r ∷ rs) (x ∷ xs) ne eq = (x, xs, refl)

one_held : (o : Option Held) (x : ℕ) → held_list o ≡ x ∷ [] → is_some (spare_slot o) ≡ true
one_held None x e = let bad : [] ≡ x ∷ [] = e in absurd (cc)
one_held (Some held) x e = refl

module _ {k : Shape} {v w : View} {listed : List ℕ} (comes : v.hands.spare ≡ None → v.hands.retired ≢ [])
    (same : (t : ℕ) → times t listed ≡ times t (map (λ (r : Retired). r.slot) v.hands.retired)) (back : HasReclaimed k v listed w) where
  -- the place has a spare then
  spare_there : (o : Option Held) → v.hands.spare ≡ o → is_some (spare_slot w.hands.spare) ≡ true
  spare_there None e =
      let l = some_listed v.hands.retired listed (comes e) same in
      one_held w.hands.spare l.0 (back.spare ∙ ap (λ o. first_spare (held_list o) listed) e ∙ ap (first_spare []) l.2)
  spare_there (Some held) e = one_held w.hands.spare held.slot (back.spare ∙ ap (λ o. first_spare (held_list o) listed) e)

  some_spare : (o : Option Held) → is_some (spare_slot o) ≡ true → o ≢ None
  some_spare None there none = absurd (cc)
  some_spare (Some held) there none = cc

  -- All retired slots were given back, and the place has a spare: a put takes a slot then, and a delete enters its section.
  pub gives_all : HasGivenAll v w
  gives_all =
      let e = back.rest in
      let tickets : w.allowance.tickets ≡ v.allowance.tickets - 1 = ap (λ (z : View). z.allowance.tickets) e in record {
        place = ap (λ (z : View). z.allowance.place) e;
        places = ap (λ (z : View). z.allowance.places) e;
        paid = omega (arith, tickets);
        section = ap (λ (z : View). z.section) e;
        records = ap (λ (z : View). z.records) e;
        locks = ap (λ (z : View). z.locks) e;
        commit = ap (λ (z : View). z.commit) e;
        moving = ap (λ (z : View). z.moving) e;
        reserved = ap (λ (z : View). z.hands.reserved) e;
        owes = ap (λ (z : View). z.hands.owes) e;
        hand = ap (λ (z : View). z.hands.hand) e;
        retired = ap (λ (z : View). z.hands.retired) e;
        spare = some_spare w.hands.spare (spare_there v.hands.spare refl);
      }

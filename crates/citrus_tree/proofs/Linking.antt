-- A put's leaf: it is filled, and linked or put back.
use Rattle.std.proofs.Common.{◌≡◌, ◌≢◌, ℕ, ◌+◌, ◌-◌, ◌*◌, ◌==◌, ◌≤◌, true, false, List, [], ◌∷◌, ◌++◌, length, map, Option, Some, None, refl, sym, ap, subst, ◌∙◌, inl, inr, ⊎_elim, arith, ne_eqb, append_assoc, ◌/◌, ◌&&◌, cond, Bool, eq-eqb, length-append}
use mathlib.Core.List.{IsPrefix}
use Rattle.prcu_marks.specs.declared.mark.Mark.TheVariants.{Began, Ended, Done}
use Rattle.prcu_marks.specs.Marks.{updates_of}
use Rattle.prcu_model.specs.declared.operation.Op.{Op}
use Rattle.prcu_model.specs.declared.operation.Op.TheVariants.{Put, Get, Del, Set}
use Rattle.prcu_model.specs.Dictionary.{map_of}
use Rattle.prcu_model.proofs.ListFacts.{prefix_trans}
use Rattle.core_state.specs.declared.shape.Shape.{Shape}
use Rattle.core_state.specs.declared.view.Held.{Held}
use Rattle.core_state.specs.declared.view.Retired.{Retired}
use Rattle.core_state.specs.declared.view.Trail.{Trail}
use Rattle.core_state.specs.declared.view.View.{View}
use Rattle.core_points.specs.declared.stage.Aim.TheVariants.{Leaf}
use Rattle.core_points.specs.declared.stage.Spot.{Spot}
use Rattle.list_laws.specs.Counts.{times}
use Rattle.prcu_marks.specs.declared.mark.Side.TheVariants.{Left, Right}
use Rattle.core_state.specs.declared.act.Part.{Part}
use Rattle.seat_table.specs.Seats.{AreListed, IsSlotOf, SeatAt}
use Rattle.seat_table.specs.Gains.{IsAsked, Told}
use Rattle.core_points.proofs.Locks.{one_clear, one_owned}
use Rattle.core_points.proofs.Notes.{fits, ready_put}
use Rattle.core_points.specs.Facts.{is_put}
use Rattle.core_points.specs.Fits.{owed_op}
use Rattle.core_points.specs.Programs.{Own}
use Rattle.tree_points.proofs.Passing.{moves_on, needs, passes, at_true, at_false, commits_any}
use Rattle.tree_points.specs.Points.{IsAt, HasAdvanced, IsDone, HasLocks}
use Rattle.tree_points.proofs.Locks.{advanced_on, advanced_stays, needs_leaf, passes_leaf, same_fill, keeps_hand, stays, passes_leaf_lock_free, passes_leaf_lock_busy, locks_leaf_tag, locks_store_leaf, needs_unlock, passes_unlock_again, passes_unlock_new, keeps_locks, locks_from, same_locked}
use Rattle.tree_points.proofs.Waits.{reclaims_leaf}
use Rattle.node_slots.specs.Slots.{PutsBack}
use Rattle.node_slots.specs.Taking.{HasTaken, FoundNone, TriesInVain, exchange}
use Rattle.node_slots.specs.Reclaiming.{HasReclaimed}
use Rattle.node_slots.proofs.Returns.{listed_length, some_there}
use Rattle.node_slots.proofs.Points.{back_ends, back_advanced, back_retired, gives_all, none_begins, none_advanced, none_is_full, none_retired_now, reclaim_advanced, reclaim_retired, taken_advanced, taken_retired}
use Rattle.citrus_tree.specs.Going.{Goes, LosesFront, leaf_stage, NeededRoom, MakesRoom, Reused, TakesSlot, old_stage, Opened, Closed, Links, held_stage}
use Rattle.citrus_tree.specs.Replies.{IsFullNow}
use Rattle.citrus_tree.proofs.Leavings.{first_later, first_stays, none_begun, reclaimed_first, goes_stays, goes_on, goes_lock, goes_load, goes_unlock, goes_opened, goes_closed, goes_lost, locks_lost}
use Rattle.std.proofs.lemmas.Bool.{cases_eq}
use Rattle.prcu_marks.specs.declared.commit.Commit.{Commit}
use Rattle.prcu_marks.specs.declared.mark.Mark.{Mark}
use Rattle.prcu_marks.proofs.Marks.{updates_of-append}
use Rattle.core_state.specs.declared.view.HeldLock.{HeldLock}
use Rattle.core_laws.proofs.Acting.{commit_is}
use Rattle.tree_points.proofs.Updates.{advanced_store_leaf, locks_link, needs_store_leaf, passes_store_leaf}
use Rattle.std.specs.FinMap as finite
use Rattle.core_points.specs.declared.stage.Stage.TheVariants as at
use Rattle.core_state.specs.declared.act.Act.TheVariants as acts
use Rattle.core_state.specs.declared.act.Part.TheVariants as part
use Rattle.core_points.specs.declared.stage.Last.TheVariants as last
use Rattle.core_points.specs.declared.stage.Update.TheVariants as update

-- A put takes a slot and fills it, or puts it back.

-- A part of the slot in hand was stored.
module _ {k : Shape} {v w : View} {s x n : ℕ} {p : Part} (t : Told k v (acts.Fill s p x) n w) where
  pub goes_fill : Goes v w []
  goes_fill = record {
    advanced = stays (acts.Fill s p x) refl t;
    retired = ap (λ (z : View). z.hands.retired) t.goes;
    wait = ap (λ (z : View). z.wait) t.goes;
    waits = ap (λ (z : View). z.counts.waits) t.goes;
  }

  pub hand_fill : (leaf : ℕ) → IsSlotOf (Some leaf) v.hands.hand → IsSlotOf (Some leaf) w.hands.hand
  hand_fill leaf is = keeps_hand (Some leaf) (same_fill t) is

module _ {k : Shape} {key value kept leaf : ℕ} {spot : Spot} {v : View} (is : IsSlotOf (Some leaf) v.hands.hand)
    (a : IsAt k (Put key value) kept (at.LeafField spot 0) v) where
  pub fills_key : IsAsked k v (acts.Fill leaf part.Key key)
  fills_key = needs_leaf 0 is a

  module _ {n : ℕ} {w : View} (first : Told k v (acts.Fill leaf part.Key key) n w) where
    is1 : IsSlotOf (Some leaf) w.hands.hand
    is1 = hand_fill first leaf is

    pub fills_value : IsAsked k w (acts.Fill leaf part.Value value)
    fills_value = needs_leaf 1 is1 (passes_leaf 0 is a first)

    module _ {m : ℕ} {x : View} (second : Told k w (acts.Fill leaf part.Value value) m x) where
      is2 : IsSlotOf (Some leaf) x.hands.hand
      is2 = hand_fill second leaf is1

      at2 : IsAt k (Put key value) kept (at.LeafField spot 2) x
      at2 = passes_leaf 1 is1 (passes_leaf 0 is a first) second

      pub fills_left : IsAsked k x (acts.Fill leaf (part.Link Left) 0)
      fills_left = needs_leaf 2 is2 at2

      module _ {i : ℕ} {y : View} (third : Told k x (acts.Fill leaf (part.Link Left) 0) i y) where
        is3 : IsSlotOf (Some leaf) y.hands.hand
        is3 = hand_fill third leaf is2

        at3 : IsAt k (Put key value) kept (at.LeafField spot 3) y
        at3 = passes_leaf 2 is2 at2 third

        pub fills_right : IsAsked k y (acts.Fill leaf (part.Link Right) 0)
        fills_right = needs_leaf 3 is3 at3

        module _ {j : ℕ} {z : View} (fourth : Told k y (acts.Fill leaf (part.Link Right) 0) j z) where
          pub filled_hand : IsSlotOf (Some leaf) z.hands.hand
          filled_hand = hand_fill fourth leaf is3

          pub filled_goes : Goes v z []
          filled_goes = goes_stays (goes_stays (goes_stays (goes_fill first) (goes_fill second)) (goes_fill third)) (goes_fill fourth)

          pub filled_at : IsAt k (Put key value) kept (at.LeafLock spot) z
          filled_at = passes_leaf 3 is3 at3 fourth

-- The slot in hand is put back.
pub goes_back : {slot : ℕ} {v w : View} → PutsBack v slot w → Goes v w []
goes_back back = record {
  advanced = back_advanced back;
  retired = back_retired back;
  wait = ap (λ (z : View). z.wait) back.rest;
  waits = ap (λ (z : View). z.counts.waits) back.rest;
}

pub gives_up : (slot : ℕ) {v w : View} → IsSlotOf (Some slot) v.hands.hand
    → ((held : Held) → v.hands.hand ≡ Some held → PutsBack v held.slot w) → Goes v w []
gives_up slot {v} {w} is back = let h = some_there v.hands.hand slot is in goes_back (back h.0 h.1)

pub gives_up_at : {k : Shape} {op : Op} {kept : ℕ} (slot : ℕ) {v w : View} → IsSlotOf (Some slot) v.hands.hand
    → ((held : Held) → v.hands.hand ≡ Some held → PutsBack v held.slot w)
    → IsAt k op kept (old_stage v.hands.hand) v → IsAt k op kept at.Finished w
gives_up_at {k} {op} {kept} slot {v} {w} is back a =
    let h = some_there v.hands.hand slot is in
    back_ends (back h.0 h.1) (subst (λ hand. IsAt k op kept (old_stage hand) v) h.1 a)

-- What leaves the retired slots alone takes none of them.
pub takes_none : {v w : View} → Goes v w [] → TakesSlot v w
takes_none goes = record {
  advanced = goes.advanced;
  fewer = let same = ap length goes.retired in omega (arith, same);
  wait = goes.wait;
  waits = goes.waits;
}

-- A lock was given up: the same slot is in hand.
pub hand_unlocked : {k : Shape} {v w : View} {n s : ℕ} (leaf : ℕ) → Told k v (acts.Unlock s) n w → IsSlotOf (Some leaf) v.hands.hand
    → IsSlotOf (Some leaf) w.hands.hand
hand_unlocked leaf t is = subst (IsSlotOf (Some leaf)) (sym (ap (λ (z : View). z.hands.hand) t.goes)) is

-- A slot was taken, or none was free.
pub goes_taken : {slot generation : ℕ} {v w : View} → HasTaken v slot generation w → IsPrefix v.trail.steps w.trail.steps → Goes v w []
goes_taken taken steps = record {
  advanced = taken_advanced taken steps;
  retired = taken_retired taken;
  wait = ap (λ (z : View). z.wait) taken.rest;
  waits = ap (λ (z : View). z.counts.waits) taken.rest;
}

pub goes_none : {k : Shape} {v w : View} → FoundNone k v w → IsPrefix v.trail.steps w.trail.steps → Goes v w []
goes_none none steps = record {
  advanced = none_advanced none steps;
  retired = none_retired_now none;
  wait = ap (λ (z : View). z.wait) none.rest;
  waits = ap (λ (z : View). z.counts.waits) none.rest;
}

none_listed : (xs : List ℕ) (rs : List Retired) → length xs ≡ length rs → xs ≡ [] → rs ≡ []
none_listed xs [] long e = refl
none_listed xs (r ∷ rs) long e = absurd (let none = ap length e in omega arith)

pub nothing_retired : (s : SeatAt) → AreListed s → s.listed ≡ [] → s.view.hands.retired ≡ []
nothing_retired s are e = none_listed s.listed s.view.hands.retired (listed_length s are) e

some_retired : (xs : List ℕ) (rs : List Retired) → length xs ≡ length rs → xs ≢ [] → rs ≢ []
some_retired [] rs long some none = some refl
some_retired (x ∷ xs) rs long some none = absurd (let e = ap length none in omega arith)

pub something_retired : (s : SeatAt) → AreListed s → s.listed ≢ [] → s.view.hands.retired ≢ []
something_retired s are some = some_retired s.listed s.view.hands.retired (listed_length s are) some

pub at_least_one : (rs : List Retired) → rs ≢ [] → 1 ≤ length rs
at_least_one [] some = absurd (some refl)
at_least_one (r ∷ rs) some = omega arith

pub empty_is : (xs : List ℕ) → (length xs == 0) ≡ true → xs ≡ []
empty_is [] e = refl
empty_is (x ∷ xs) e = absurd (let positive : (length (x ∷ xs) == 0) ≡ false = ne_eqb (length (x ∷ xs)) 0 (λ none. absurd (omega arith)) in
    let q : true ≡ false = sym e ∙ positive in cc)

pub empty_not : (xs : List ℕ) → (length xs == 0) ≡ false → xs ≢ []
empty_not [] e none = let q : true ≡ false = e in cc
empty_not (x ∷ xs) e none = cc

pub is_full_now : {k : Shape} {op : Op} {kept e looked now : ℕ} {spot : Spot} {v w : View} → FoundNone k v w → TriesInVain k v looked w now
    → w.hands.retired ≡ [] → IsAt k op kept (at.Reserve (Leaf spot) e) v → IsFullNow k w
is_full_now {k} {op} {kept} {e} {looked} {now} {spot} {v} {w} none vain nothing a = record {
  none = nothing;
  last = (
    v.trail.steps ++ vain.lost,
    ap (λ (t : Trail). t.steps) vain.makes
        ∙ sym (append_assoc v.trail.steps vain.lost (exchange 0 ∷ [])),
  );
  fills = (let full = none_is_full none a in let long : length w.hands.retired ≡ 0 = ap length nothing in omega arith);
}

pub needed_on : {k : Shape} {v w x : View} → NeededRoom k v w → IsPrefix w.seen x.seen → NeededRoom k v x
needed_on {k} {v} {w} {x} n more = record {
  retired = n.retired;
  until = n.until;
  since = n.since;
  made = prefix_trans n.until w.seen x.seen n.made more;
  fills = n.fills;
}

pub room_goes : {k : Shape} {v w x : View} → MakesRoom k v w → Goes w x [] → MakesRoom k v x
room_goes {k} {v} {w} {x} room goes = ⊎_elim
    (λ (t : TakesSlot v w). inl (record {
      advanced = advanced_stays t.advanced goes.advanced;
      fewer = let fewer = t.fewer in let same = ap length goes.retired in omega (arith, fewer, same);
      wait = goes.wait ∙ t.wait;
      waits = goes.waits ∙ t.waits;
    }))
    (λ (r : Reused k v w). inr (record {
      advanced = advanced_stays r.advanced goes.advanced;
      needed = needed_on r.needed goes.advanced.begins;
      none = goes.retired ∙ r.none;
      wait = first_stays r.wait goes.advanced.begins goes.wait;
    })) room

-- none was free, and the retired slots were given back
module _ {k : Shape} {v x y : View} {listed : List ℕ} (none : FoundNone k v x) (some : x.hands.retired ≢ [])
    (back : HasReclaimed k x listed y) where
  pub reuses : {op : Op} {kept e : ℕ} {spot : Spot} → IsPrefix v.trail.steps x.trail.steps → IsAt k op kept (at.Reserve (Leaf spot) e) v
      → Reused k v y
  reuses steps a =
      let g = goes_none none steps in
      let place : x.allowance.place ≡ v.allowance.place = g.advanced.same in
      let count : x.counts.waits ≡ v.counts.waits = g.waits in
      record {
        advanced = subst (λ (z : ℕ × ℕ). HasAdvanced v y (Began z.0 z.1 0 18446744073709551615 ∷ (Ended z.0 z.1 ∷ []))) (λ i. (place i, count i))
            (advanced_on g.advanced (reclaim_advanced back));
        needed = record {
          retired = subst (λ (rs : List Retired). 1 ≤ length rs) g.retired (at_least_one x.hands.retired some);
          until = x.seen;
          since = g.advanced.begins;
          made = (reclaim_advanced back).begins;
          fills = subst (λ (rs : List Retired). k.slots
              ≤ finite.len (map_of (updates_of x.seen)) + length rs + (k.room + 4) * (k.places - 1)) g.retired (none_is_full none a);
        };
        none = reclaim_retired back;
        wait = first_later (none_begun g.advanced g.waits g.wait) (reclaimed_first back);
      }

  pub reserves_again : {op : Op} {kept e : ℕ} {spot : Spot}
      → ((t : ℕ) → times t listed ≡ times t (map (λ (r : Retired). r.slot) x.hands.retired)) → IsAt k op kept (at.Reserve (Leaf spot) e) v
      → IsAt k op kept (at.Reserve (Leaf spot) 1) y
  reserves_again same a = reclaims_leaf (none_begins none (λ nothing. some (none_retired_now none ∙ nothing)) a)
      (gives_all (λ _. some) same back) 1 (omega arith)

-- who has no slot in hand takes one
pub leaf_taken : {k : Shape} {key value kept : ℕ} {spot : Spot} {v : View} (hand : Option Held) → IsSlotOf None hand
    → IsAt k (Put key value) kept (leaf_stage hand spot) v → IsAt k (Put key value) kept (at.Reserve (Leaf spot) 1) v
leaf_taken None none a = a
leaf_taken (Some held) wrong a = absurd wrong

-- A put compares its record under the lock, and links its leaf.

-- The three words are as recorded, or not.
module _ (spot : Spot) (life link tag : ℕ) where
  abbrev as_recorded : Bool
  as_recorded = (life == 2 * spot.generation) && ((link == 0) && (tag == spot.tag))

  all_same : (life ≡ 2 * spot.generation) × (link ≡ 0) × (tag ≡ spot.tag) → as_recorded ≡ true
  all_same (first, second, third) =
      ap (λ z. z && ((link == 0) && (tag == spot.tag))) (eq-eqb life (2 * spot.generation) first)
      ∙ ap (λ z. z && (tag == spot.tag)) (eq-eqb link 0 second) ∙ eq-eqb tag spot.tag third

  not_all : (life ≡ 2 * spot.generation → link ≡ 0 → tag ≡ spot.tag → ⊥) → as_recorded ≡ false
  not_all fails = ⊎_elim
      (λ (first : life ≡ 2 * spot.generation). ap (λ z. z && ((link == 0) && (tag == spot.tag))) (eq-eqb life (2 * spot.generation) first)
      ∙ ⊎_elim
      (λ (second : link ≡ 0). ap (λ z. z && (tag == spot.tag)) (eq-eqb link 0 second) ∙ ne_eqb tag spot.tag (fails first second))
      (λ (other : link ≢ 0). ap (λ z. z && (tag == spot.tag)) (ne_eqb link 0 other))
      (cases_eq link 0))
      (λ (other : life ≢ 2 * spot.generation). ap (λ z. z && ((link == 0) && (tag == spot.tag))) (ne_eqb life (2 * spot.generation) other))
      (cases_eq life (2 * spot.generation))

module _ {k : Shape} {op : Op} {kept : ℕ} {spot : Spot} {v : View} (a : IsAt k op kept (at.LeafLife spot) v) where
  pub checks_life : IsAsked k v (acts.LockedLoad spot.slot part.Life)
  checks_life = needs a refl

  module _ {life : ℕ} {x : View} (first : Told k v (acts.LockedLoad spot.slot part.Life) life x) where
    at_side : IsAt k op kept (at.LeafSide spot life) x
    at_side = passes a refl first

    pub checks_side : IsAsked k x (acts.LockedLoad spot.slot (part.Link spot.side))
    checks_side = needs at_side refl

    module _ {link : ℕ} {y : View} (second : Told k x (acts.LockedLoad spot.slot (part.Link spot.side)) link y) where
      at_tag : IsAt k op kept (at.LeafTag spot life link) y
      at_tag = passes at_side refl second

      pub checks_tag : IsAsked k y (acts.LockedLoad spot.slot (part.Tag spot.side))
      checks_tag = needs at_tag refl

      module _ {tag : ℕ} {z : View} (third : Told k y (acts.LockedLoad spot.slot (part.Tag spot.side)) tag z) where
        pub checked_goes : Goes v z []
        checked_goes = goes_stays (goes_stays (goes_load first) (goes_load second)) (goes_load third)

        pub checked_locks : HasLocks (spot.slot ∷ []) z
        checked_locks = keeps_locks (same_locked third) (locks_leaf_tag at_tag)

        pub checked_hand : (leaf : ℕ) → IsSlotOf (Some leaf) v.hands.hand → IsSlotOf (Some leaf) z.hands.hand
        checked_hand leaf is = keeps_hand (Some leaf) (same_locked third)
            (keeps_hand (Some leaf) (same_locked second) (keeps_hand (Some leaf) (same_locked first) is))

        pub checked_at : (b : Bool) → (b ≡ true → (life ≡ 2 * spot.generation) × (link ≡ 0) × (tag ≡ spot.tag))
            → (b ≡ false → life ≡ 2 * spot.generation → link ≡ 0 → tag ≡ spot.tag → ⊥) → IsAt k op kept (held_stage b spot) z
        checked_at true holds fails =
            commits_any (at_true _ (all_same spot life link tag (holds refl)) (passes at_tag refl third)) 0 refl
        checked_at false holds fails = at_false _ (not_all spot life link tag (fails refl)) (passes at_tag refl third)

-- what still holds, or doesn't
pub holds_at : {k : Shape} {op : Op} {kept : ℕ} {y : View} (spot : Spot) (b : Bool) → b ≡ true → IsAt k op kept (held_stage b spot) y
    → IsAt k op kept (at.Commit (update.Leaf spot) 0) y
holds_at {k} {op} {kept} {y} spot b e a = subst (λ z. IsAt k op kept (held_stage z spot) y) e a

pub fails_at : {k : Shape} {op : Op} {kept : ℕ} {y : View} (spot : Spot) (b : Bool) → b ≡ false → IsAt k op kept (held_stage b spot) y
    → IsAt k op kept (at.Unlock last.Again) y
fails_at {k} {op} {kept} {y} spot b e a = subst (λ z. IsAt k op kept (held_stage z spot) y) e a

pub settled_leaf : {k : Shape} {op : Op} {kept e : ℕ} {spot : Spot} {y : View} → IsAt k op kept (at.Commit (update.Leaf spot) e) y
    → y.moving ≡ None
settled_leaf a = (((a.fits.point).0).bare).settled

pub unpaid_leaf : {k : Shape} {op : Op} {kept e : ℕ} {spot : Spot} {y : View} → IsAt k op kept (at.Commit (update.Leaf spot) e) y
    → y.commit ≡ None
unpaid_leaf a = (((a.fits.point).0).bare).turn_is

-- a put with a slot in hand owes one ticket
leaf_owed : (op : Op) (hand : Option ℕ) (retired : List ℕ) {slot : ℕ} → is_put op ≡ true → hand ≡ Some slot → owed_op op hand retired ≡ 1
leaf_owed (Put key value) hand retired e some = ap (λ h. owed_op (Put key value) h retired) some
leaf_owed (Get key) hand retired e some = cc
leaf_owed (Del key) hand retired e some = cc
leaf_owed (Set key value) hand retired e some = cc

-- Others have the front. Before its update it may go on as where its record doesn't hold.
pub gives_way : {k : Shape} {op : Op} {kept e : ℕ} {spot : Spot} {v w : View} → LosesFront v w
    → IsAt k op kept (at.Commit (update.Leaf spot) e) v → IsAt k op kept (at.Unlock last.Again) w
gives_way {k} {op} {kept} {e} {spot} {v} {w} lost a =
    let p = (a.fits.point).0 in
    let o : Own = a.own in
    subst (λ z. IsAt k op kept (at.Unlock last.Again) z) (sym lost.rest) (moves_on a o refl
    (fits a.fits.owns (a.fits.unraised refl)
    (let t = a.fits.tickets in let one = leaf_owed o.op o.hand o.retired p.puts p.taken.1 in omega arith) (
      record {
        outside = p.outside;
        no_turn = p.bare.turn_is;
        settled = p.bare.settled;
        unreserved = p.bare.reserved_is;
        paid = p.bare.paid;
        clear = one_clear o v spot.slot _ p.bare.locks_are;
        some = one_owned o v spot.slot _ p.bare.locks_are a.fits.owns;
      },
      p.hand,
      ready_put o.op o.hand o.spare o.retired p.puts,
    )))

hand_if : (z : Bool) (x y : View) (hand : Option Held) → x.hands.hand ≡ hand → y.hands.hand ≡ hand → (cond z x y).hands.hand ≡ hand
hand_if true x y hand a b = a
hand_if false x y hand a b = b

-- a lock was tried: the same slot is in hand
pub hand_locked : {k : Shape} {v w : View} {n s : ℕ} (leaf : ℕ) → Told k v (acts.Lock s) n w → IsSlotOf (Some leaf) v.hands.hand
    → IsSlotOf (Some leaf) w.hands.hand
hand_locked {k} {v} {w} {n} {s} leaf t is = subst (IsSlotOf (Some leaf))
    (sym (ap (λ (z : View). z.hands.hand) t.goes ∙ hand_if (n == 0) _ _ v.hands.hand refl refl)) is

-- The lock is tried, the record holds or not, and the leaf is linked.
module _ {k : Shape} {key value kept : ℕ} {spot : Spot} {v : View} (a : IsAt k (Put key value) kept (at.LeafLock spot) v) where
  pub locks : IsAsked k v (acts.Lock spot.slot)
  locks = needs a refl

  module _ {n : ℕ} {x : View} (first : Told k v (acts.Lock spot.slot) n x) where
    pub busy_goes : Goes v x []
    busy_goes = goes_lock first

    pub busy_at : n ≢ 0 → IsAt k (Put key value) kept at.EnterClock x
    busy_at busy = passes_leaf_lock_busy busy a first

    pub checking : n ≡ 0 → IsAt k (Put key value) kept (at.LeafLife spot) x
    checking free = passes_leaf_lock_free free a first

    module _ {y : View} (checked : Goes x y []) where
      goes2 : Goes v y []
      goes2 = goes_stays busy_goes checked

      -- it doesn't hold
      module _ (held : HasLocks (spot.slot ∷ []) y) (again : IsAt k (Put key value) kept (at.Unlock last.Again) y) where
        pub gives_up_lock : IsAsked k y (acts.Unlock spot.slot)
        gives_up_lock = needs_unlock held again

        module _ {m : ℕ} {z : View} (third : Told k y (acts.Unlock spot.slot) m z) where
          pub again_goes : Goes v z []
          again_goes = goes_stays goes2 (goes_unlock third)

          pub again_at : IsAt k (Put key value) kept at.EnterClock z
          again_at = passes_unlock_again held again third

      -- others have the front
      module _ {o : View} (lost : LosesFront y o) (held : HasLocks (spot.slot ∷ []) y)
          (committing : IsAt k (Put key value) kept (at.Commit (update.Leaf spot) 0) y) where
        unlocking : IsAt k (Put key value) kept (at.Unlock last.Again) o
        unlocking = gives_way lost committing

        pub gives_way_lock : IsAsked k o (acts.Unlock spot.slot)
        gives_way_lock = needs_unlock (locks_lost lost held) unlocking

        module _ {m : ℕ} {z : View} (third : Told k o (acts.Unlock spot.slot) m z) where
          pub gave_way_goes : Goes v z []
          gave_way_goes = goes_stays (goes_stays goes2 (goes_lost lost)) (goes_unlock third)

          pub gave_way_at : IsAt k (Put key value) kept at.EnterClock z
          gave_way_at = passes_unlock_again (locks_lost lost held) unlocking third

      goes3 : {front : ℕ} {o : View} → Opened y front o → Goes v o []
      goes3 odd = goes_stays goes2 (goes_opened odd)

      -- it holds
      module _ {front : ℕ} {o : View} (odd : Opened y front o) (storing : IsAt k (Put key value) kept (at.Store (update.Leaf spot) front) o)
          (leaf : ℕ) (is : IsSlotOf (Some leaf) y.hands.hand) where
        in_hand : IsSlotOf (Some leaf) o.hands.hand
        in_hand = subst (IsSlotOf (Some leaf)) (sym (ap (λ (x : View). x.hands.hand) odd.rest)) is

        pub stores_leaf : IsAsked k o (acts.LinkLeaf spot.slot spot.side leaf key value)
        stores_leaf = needs_store_leaf in_hand storing

        module _ {m : ℕ} {q : View} (fourth : Told k o (acts.LinkLeaf spot.slot spot.side leaf key value) m q) where
          abbrev h : List Mark
          h = fourth.marks

          place : o.allowance.place ≡ v.allowance.place
          place = (goes3 odd).advanced.same

          seen : q.seen ≡ h ++ Done (record { caller = v.allowance.place; op = Put key value }) ∷ []
          seen = ap (λ (x : View). x.seen) fourth.goes ∙ ap (λ (p : ℕ). h ++ Done (record { caller = p; op = Put key value }) ∷ []) place

          pub is_odd : q.commit ≡ Some (record { found = front; stored = true })
          is_odd = ap (λ (x : View). x.commit) fourth.goes
              ∙ ap (λ (c : Commit). Some (record c { stored = true })) (commit_is o _ (ap (λ (x : View). x.commit) odd.rest))

          pub evening : IsAt k (Put key value) kept (at.Even (update.Leaf spot) front) q
          evening = passes_store_leaf in_hand storing fourth

          goes4 : Goes v q (Done (record { caller = v.allowance.place; op = Put key value }) ∷ [])
          goes4 = subst (λ (p : ℕ). Goes v q (Done (record { caller = p; op = Put key value }) ∷ [])) place
              (goes_on (goes3 odd) (record {
                advanced = advanced_store_leaf storing fourth;
                retired = ap (λ (x : View). x.hands.retired) fourth.goes;
                wait = ap (λ (x : View). x.wait) fourth.goes;
                waits = ap (λ (x : View). x.counts.waits) fourth.goes;
              }))

          module _ {t : View} (even : Closed q t) (unlocking : IsAt k (Put key value) kept (at.Unlock (last.New ((front + 2) / 2))) t) where
            last_lock : HasLocks (spot.slot ∷ []) t
            last_lock = locks_from {v = q} {w = t} (ap (λ (x : View). map (λ (l : HeldLock). l.slot) x.locks) even.rest)
                (locks_from {v = o} {w = q} (locks_link fourth) (locks_store_leaf storing))

            pub lets_go : IsAsked k t (acts.Unlock spot.slot)
            lets_go = needs_unlock last_lock unlocking

            module _ {j : ℕ} {e : View} (fifth : Told k t (acts.Unlock spot.slot) j e) where
              pub done_at : IsDone k (Put key value) kept e
              done_at = passes_unlock_new last_lock unlocking fifth

              pub links : (number : ℕ) → number ≡ (front + 2) / 2 → Links v key value number e
              links number number_is =
                  let seen_e : e.seen ≡ h ++ Done (record { caller = v.allowance.place; op = Put key value }) ∷ [] =
                  ap (λ (x : View). x.seen) fifth.goes ∙ ap (λ (x : View). x.seen) even.rest ∙ seen in
                  let us : updates_of q.seen ≡ updates_of h ++ record { caller = v.allowance.place; op = Put key value } ∷ [] =
                  ap updates_of seen ∙ updates_of-append h (Done (record { caller = v.allowance.place; op = Put key value }) ∷ []) in
                  let long : length (updates_of q.seen) ≡ length (updates_of h) + 1 =
                  ap length us ∙ length-append (updates_of h) (record { caller = v.allowance.place; op = Put key value } ∷ []) in
                  let counted : front + 2 ≡ 2 * length (updates_of q.seen) =
                  fourth.gains.found (record { found = front; stored = false }) (ap (λ (x : View). x.commit) odd.rest) in (
                    h,
                    record {
                      goes = goes_stays goes4 (goes_stays (goes_closed even) (goes_unlock fifth));
                      since = prefix_trans v.seen o.seen h (goes3 odd).advanced.begins fourth.sees.begins;
                      seen = seen_e;
                      number_is = number_is ∙ omega arith;
                      legal = fifth.informed.legal;
                    },
                  )

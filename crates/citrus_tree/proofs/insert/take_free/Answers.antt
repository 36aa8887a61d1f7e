use Rattle.core_points.specs.declared.stage.Aim.TheVariants.{Leaf}
use Rattle.core_points.specs.declared.stage.Spot.{Spot}
use Rattle.core_points.specs.declared.stage.Stage.TheVariants as at
use Rattle.prcu_model.specs.declared.operation.Op.{Op}
use Rattle.seat_table.specs.Seats.{IsSlotOf}
use Rattle.tree_points.specs.Points.{IsAt}
use Rattle.node_slots.specs.Taking.{FoundNone, HasTaken, Takes, TriesBy}
use Rattle.node_slots.specs.declared.answers.Taken.{Taken}
use Rattle.core_state.specs.declared.shape.Shape.{Shape}
use Rattle.core_state.specs.declared.view.View.{View}
use Rattle.std.proofs.Common.{◌≡◌, ◌≢◌, ℕ, Option, Some, ap, sym, ◌∙◌, inl, inr, subst}
use Rattle.citrus_tree.proofs.Linking.{goes_taken, goes_none, nothing_retired, something_retired, empty_is, empty_not, is_full_now, room_goes, reuses, reserves_again, takes_none}
use Rattle.node_slots.proofs.Points.{MayReclaim, may_reclaim, may_take, none_begins, none_ends, none_retired_now, reclaim_retired, taken_retired, taken_slot, takes_leaf, tries_further}
use Rattle.citrus_tree.proofs.DeleteTries.{empty_listed}
use Rattle.std.proofs.Common.{[]}
use Rattle.citrus_tree.proofs.Leavings.{goes_slots, slots_goes, slots_on, slots_reclaimed, listed_on}
use Rattle.citrus_tree.proofs.insert.take_free.Goals as goal

-- what a take left, once its answer is known
took : (k : Shape) (v w : View) {answer known : Taken} → answer ≡ known → Takes k v answer w → Takes k v known w
took k v w is takes = subst (λ (r : Taken). Takes k v r w) is takes

tried : (k : Shape) (v w : View) (looked now : ℕ) {answer known : Taken} → answer ≡ known → TriesBy k v looked answer w now
    → TriesBy k v looked known w now
tried k v w looked now is tries = subst (λ (r : Taken). TriesBy k v looked r w now) is tries

-- where nothing was free and something is retired, that is given back, and a slot taken then
reclaims : {k : Shape} {op : Op} {kept e : ℕ} {spot : Spot} {v w : View} → FoundNone k v w → w.hands.retired ≢ []
    → IsAt k op kept (at.Reserve (Leaf spot) e) v → MayReclaim w
reclaims none some a = may_reclaim (none_begins none (λ nothing. some (none_retired_now none ∙ nothing)) a)

in_hand : {slot generation now : ℕ} {v w : View} → HasTaken v slot generation w → Some slot ≡ Some now
    → IsSlotOf (Some now) w.hands.hand
in_hand {w = w} taken e = subst (λ (o : Option ℕ). IsSlotOf o w.hands.hand) e (taken_slot taken)

pub take-requires : goal.take-requires
take-requires g c = let m = may_take c.requires.at.2.2 in record {
  table = c.requires.table;
  unreserved = m.unreserved;
  empty = m.empty;
  ticket = m.ticket;
}

pub reclaim-requires : goal.reclaim-requires
reclaim-requires g c =
    let first = took _ _ _ c.in_default.is c.in_ok-slot.ensures.view in
    let listed = listed_on c.args.seat.now c.take.new.seat c.take.ensures.seat.1 (none_retired_now first) c.requires.listed in
    let some = something_retired c.take.new.seat listed
    (λ none. empty_not c.retired.result.now (sym c.is_empty.ensures ∙ c.if-is_empty.false) (c.retired.ensures ∙ none)) in
    let m = reclaims first some c.requires.at.2.2 in record {
      table = c.take.ensures.seat.0 ∙ c.requires.table;
      outside = m.outside;
      unlocked = m.unlocked;
      settled = m.settled;
      paid = m.paid;
      ticket = m.ticket;
      listed = listed;
      unraised = m.unraised;
    }

pub take-requires-2 : goal.take-requires-2
take-requires-2 g c =
    let first = took _ _ _ c.in_default.is c.in_ok-slot.ensures.view in
    let listed = listed_on c.args.seat.now c.take.new.seat c.take.ensures.seat.1 (none_retired_now first) c.requires.listed in
    let some = something_retired c.take.new.seat listed
    (λ none. empty_not c.retired.result.now (sym c.is_empty.ensures ∙ c.if-is_empty.false) (c.retired.ensures ∙ none)) in
    let m = may_take (reserves_again first some c.in_ok-reclaim.ensures.view listed.each c.requires.at.2.2) in record {
      table = c.reclaim.ensures.table ∙ c.take.ensures.seat.0 ∙ c.requires.table;
      unreserved = m.unreserved;
      empty = m.empty;
      ticket = m.ticket;
    }

pub returns-in-Slot-clause-listed : goal.returns-in-Slot-clause-listed
returns-in-Slot-clause-listed g c = listed_on c.args.seat.now c.take.new.seat c.take.ensures.seat.1
    (taken_retired (took _ _ _ c.in-Slot.is c.in_ok-slot.ensures.view)) c.requires.listed

pub returns-in-Slot-clause-slot : goal.returns-in-Slot-clause-slot
returns-in-Slot-clause-slot g c slot e = in_hand (took _ _ _ c.in-Slot.is c.in_ok-slot.ensures.view) e

pub returns-in-Slot-clause-room : goal.returns-in-Slot-clause-room
returns-in-Slot-clause-room g c = inl (takes_none (goes_taken
    (took _ _ _ c.in-Slot.is c.in_ok-slot.ensures.view) (tries_further _ _ _ _ _ _ c.in_ok-slot.ensures.tries)))

pub returns-in-Slot-clause-at : goal.returns-in-Slot-clause-at
returns-in-Slot-clause-at g c spot expected op kept a =
    takes_leaf (took _ _ _ c.in-Slot.is c.in_ok-slot.ensures.view) a

pub returns-then-is_empty-clause-listed : goal.returns-then-is_empty-clause-listed
returns-then-is_empty-clause-listed g c = listed_on c.args.seat.now c.take.new.seat c.take.ensures.seat.1
    (none_retired_now (took _ _ _ c.in_default.is c.in_ok-slot.ensures.view)) c.requires.listed

pub returns-then-is_empty-clause-at : goal.returns-then-is_empty-clause-at
returns-then-is_empty-clause-at g c spot expected op kept a = none_ends (took _ _ _ c.in_default.is c.in_ok-slot.ensures.view) a

pub returns-then-is_empty-clause-room : goal.returns-then-is_empty-clause-room
returns-then-is_empty-clause-room g c = inl (takes_none (goes_none
    (took _ _ _ c.in_default.is c.in_ok-slot.ensures.view) (tries_further _ _ _ _ _ _ c.in_ok-slot.ensures.tries)))

pub returns-then-is_empty-clause-full : goal.returns-then-is_empty-clause-full
returns-then-is_empty-clause-full g c e =
    let listed = listed_on c.args.seat.now c.take.new.seat c.take.ensures.seat.1
    (none_retired_now (took _ _ _ c.in_default.is c.in_ok-slot.ensures.view)) c.requires.listed in
    let nothing = nothing_retired c.take.new.seat listed
    (sym c.retired.ensures ∙ empty_is c.retired.result.now (sym c.is_empty.ensures ∙ c.if-is_empty.true)) in
    let none = took _ _ _ c.in_default.is c.in_ok-slot.ensures.view in
    let vain = tried _ _ _ _ _ c.in_default.is c.in_ok-slot.ensures.tries in
    is_full_now none vain nothing c.requires.at.2.2

-- where it is busy nothing is in hand, as where nothing is free

pub returns-in-Err-clause-listed : goal.returns-in-Err-clause-listed
returns-in-Err-clause-listed g c = listed_on c.args.seat.now c.take.new.seat c.take.ensures.seat.1
    (none_retired_now (took _ _ _ c.in_default.is c.in_ok-slot.ensures.view)) c.requires.listed

pub returns-in-Err-clause-busy : goal.returns-in-Err-clause-busy
returns-in-Err-clause-busy g c spot expected op kept a = none_ends (took _ _ _ c.in_default.is c.in_ok-slot.ensures.view) a

pub returns-in-Err-clause-room : goal.returns-in-Err-clause-room
returns-in-Err-clause-room g c = inl (takes_none (goes_none
    (took _ _ _ c.in_default.is c.in_ok-slot.ensures.view) (tries_further _ _ _ _ _ _ c.in_ok-slot.ensures.tries)))

pub returns-in-Err-clause-slots : goal.returns-in-Err-clause-slots
returns-in-Err-clause-slots g c = slots_goes c.args.seat.now c.take.new.seat []
    (goes_none (took _ _ _ c.in_default.is c.in_ok-slot.ensures.view) (tries_further _ _ _ _ _ _ c.in_ok-slot.ensures.tries))
    c.take.ensures.seat.1

pub returns-in-Empty-clause-full : goal.returns-in-Empty-clause-full
returns-in-Empty-clause-full g c e =
    let first = took _ _ _ c.in_default.is c.in_ok-slot.ensures.view in
    let second = took _ _ _ c.in-Empty.is c.in_ok-slot-2.ensures.view in
    let vain = tried _ _ _ _ _ c.in-Empty.is c.in_ok-slot-2.ensures.tries in
    let listed = listed_on c.args.seat.now c.take.new.seat c.take.ensures.seat.1 (none_retired_now first) c.requires.listed in
    let some = something_retired c.take.new.seat listed
    (λ none. empty_not c.retired.result.now (sym c.is_empty.ensures ∙ c.if-is_empty.false) (c.retired.ensures ∙ none)) in
    is_full_now second vain (none_retired_now second ∙ ap (λ (z : View). z.hands.retired) c.in_ok-reclaim.ensures.view.rest)
    (reserves_again first some c.in_ok-reclaim.ensures.view listed.each c.requires.at.2.2)

pub returns-in-Slot-2-clause-listed : goal.returns-in-Slot-2-clause-listed
returns-in-Slot-2-clause-listed g c = listed_on c.reclaim.new.seat c.take-2.new.seat c.take-2.ensures.seat.1
    (taken_retired (took _ _ _ c.in-Slot-2.is c.in_ok-slot-2.ensures.view))
    (empty_listed c.reclaim.new.seat c.in_ok-reclaim.ensures.listed (reclaim_retired c.in_ok-reclaim.ensures.view))

pub returns-in-Slot-2-clause-slot : goal.returns-in-Slot-2-clause-slot
returns-in-Slot-2-clause-slot g c slot e = in_hand (took _ _ _ c.in-Slot-2.is c.in_ok-slot-2.ensures.view) e

pub returns-in-Slot-2-clause-room : goal.returns-in-Slot-2-clause-room
returns-in-Slot-2-clause-room g c =
    let listed = listed_on c.args.seat.now c.take.new.seat c.take.ensures.seat.1
    (none_retired_now (took _ _ _ c.in_default.is c.in_ok-slot.ensures.view)) c.requires.listed in
    let some = something_retired c.take.new.seat listed
    (λ none. empty_not c.retired.result.now (sym c.is_empty.ensures ∙ c.if-is_empty.false) (c.retired.ensures ∙ none)) in
    room_goes (inr (reuses (took _ _ _ c.in_default.is c.in_ok-slot.ensures.view) some c.in_ok-reclaim.ensures.view (tries_further _ _ _ _ _
    _
    c.in_ok-slot.ensures.tries) c.requires.at.2.2))
    (goes_taken (took _ _ _ c.in-Slot-2.is c.in_ok-slot-2.ensures.view) (tries_further _ _ _ _ _ _ c.in_ok-slot-2.ensures.tries))

pub returns-in-Slot-2-clause-at : goal.returns-in-Slot-2-clause-at
returns-in-Slot-2-clause-at g c spot expected op kept a =
    let listed = listed_on c.args.seat.now c.take.new.seat c.take.ensures.seat.1
    (none_retired_now (took _ _ _ c.in_default.is c.in_ok-slot.ensures.view)) c.requires.listed in
    let some = something_retired c.take.new.seat listed
    (λ none. empty_not c.retired.result.now (sym c.is_empty.ensures ∙ c.if-is_empty.false) (c.retired.ensures ∙ none)) in
    takes_leaf (took _ _ _ c.in-Slot-2.is c.in_ok-slot-2.ensures.view) (reserves_again
    (took _ _ _ c.in_default.is c.in_ok-slot.ensures.view) some c.in_ok-reclaim.ensures.view listed.each a)

pub returns-in-Empty-clause-listed : goal.returns-in-Empty-clause-listed
returns-in-Empty-clause-listed g c = listed_on c.reclaim.new.seat c.take-2.new.seat c.take-2.ensures.seat.1
    (none_retired_now (took _ _ _ c.in-Empty.is c.in_ok-slot-2.ensures.view))
    (empty_listed c.reclaim.new.seat c.in_ok-reclaim.ensures.listed (reclaim_retired c.in_ok-reclaim.ensures.view))

pub returns-in-Empty-clause-room : goal.returns-in-Empty-clause-room
returns-in-Empty-clause-room g c =
    let listed = listed_on c.args.seat.now c.take.new.seat c.take.ensures.seat.1
    (none_retired_now (took _ _ _ c.in_default.is c.in_ok-slot.ensures.view)) c.requires.listed in
    let some = something_retired c.take.new.seat listed
    (λ none. empty_not c.retired.result.now (sym c.is_empty.ensures ∙ c.if-is_empty.false) (c.retired.ensures ∙ none)) in
    room_goes (inr (reuses (took _ _ _ c.in_default.is c.in_ok-slot.ensures.view) some c.in_ok-reclaim.ensures.view (tries_further _ _ _ _ _
    _
    c.in_ok-slot.ensures.tries) c.requires.at.2.2))
    (goes_none (took _ _ _ c.in-Empty.is c.in_ok-slot-2.ensures.view) (tries_further _ _ _ _ _ _ c.in_ok-slot-2.ensures.tries))

pub returns-in-Empty-clause-at : goal.returns-in-Empty-clause-at
returns-in-Empty-clause-at g c spot expected op kept a =
    let listed = listed_on c.args.seat.now c.take.new.seat c.take.ensures.seat.1
    (none_retired_now (took _ _ _ c.in_default.is c.in_ok-slot.ensures.view)) c.requires.listed in
    let some = something_retired c.take.new.seat listed
    (λ none. empty_not c.retired.result.now (sym c.is_empty.ensures ∙ c.if-is_empty.false) (c.retired.ensures ∙ none)) in
    none_ends (took _ _ _ c.in-Empty.is c.in_ok-slot-2.ensures.view) (reserves_again
    (took _ _ _ c.in_default.is c.in_ok-slot.ensures.view) some c.in_ok-reclaim.ensures.view listed.each a)

pub returns-in-Slot-clause-slots : goal.returns-in-Slot-clause-slots
returns-in-Slot-clause-slots g c = slots_goes c.args.seat.now c.take.new.seat []
    (goes_taken (took _ _ _ c.in-Slot.is c.in_ok-slot.ensures.view)
    (tries_further _ _ _ _ _ _ c.in_ok-slot.ensures.tries)) c.take.ensures.seat.1

pub returns-then-is_empty-clause-slots : goal.returns-then-is_empty-clause-slots
returns-then-is_empty-clause-slots g c = slots_goes c.args.seat.now c.take.new.seat []
    (goes_none (took _ _ _ c.in_default.is c.in_ok-slot.ensures.view) (tries_further _ _ _ _ _ _ c.in_ok-slot.ensures.tries))
    c.take.ensures.seat.1

pub returns-in-Slot-2-clause-slots : goal.returns-in-Slot-2-clause-slots
returns-in-Slot-2-clause-slots g c =
    let back = slots_on c.args.seat.now c.take.new.seat c.reclaim.new.seat
    (slots_goes c.args.seat.now c.take.new.seat []
    (goes_none (took _ _ _ c.in_default.is c.in_ok-slot.ensures.view) (tries_further _ _ _ _ _ _ c.in_ok-slot.ensures.tries))
    c.take.ensures.seat.1) (slots_reclaimed c.take.new.seat c.reclaim.new.seat c.in_ok-reclaim.ensures.view) in
    goes_slots c.args.seat.now c.reclaim.new.seat c.take-2.new.seat [] back
    (goes_taken (took _ _ _ c.in-Slot-2.is c.in_ok-slot-2.ensures.view) (tries_further _ _ _ _ _ _ c.in_ok-slot-2.ensures.tries))
    c.take-2.ensures.seat.1

pub returns-in-Empty-clause-slots : goal.returns-in-Empty-clause-slots
returns-in-Empty-clause-slots g c =
    let back = slots_on c.args.seat.now c.take.new.seat c.reclaim.new.seat
    (slots_goes c.args.seat.now c.take.new.seat []
    (goes_none (took _ _ _ c.in_default.is c.in_ok-slot.ensures.view) (tries_further _ _ _ _ _ _ c.in_ok-slot.ensures.tries))
    c.take.ensures.seat.1) (slots_reclaimed c.take.new.seat c.reclaim.new.seat c.in_ok-reclaim.ensures.view) in
    goes_slots c.args.seat.now c.reclaim.new.seat c.take-2.new.seat [] back
    (goes_none (took _ _ _ c.in-Empty.is c.in_ok-slot-2.ensures.view) (tries_further _ _ _ _ _ _ c.in_ok-slot-2.ensures.tries))
    c.take-2.ensures.seat.1

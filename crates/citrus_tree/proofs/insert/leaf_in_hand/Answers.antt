use Rattle.prcu_model.specs.declared.operation.Op.TheVariants.{Put}
use Rattle.tree_points.specs.Points.{IsAt}
use Rattle.citrus_tree.specs.Going.{taken_stage, leaf_stage}
use Rattle.seat_table.specs.Seats.{shape_of, IsSlotOf}
use Rattle.std.specs.declared.option.Option.{Option}
use Rattle.citrus_tree.proofs.Linking.{leaf_taken, room_goes, takes_none}
use Rattle.std.proofs.lemmas.Result.{IfErr-at_err, IfOk-at_ok}
use Rattle.std.proofs.Common.{[], None, Some, inl, subst, ℕ}
use Rattle.core_points.specs.declared.stage.Spot.{Spot}
use Rattle.core_points.specs.declared.stage.Stage.TheVariants as at
use Rattle.core_state.specs.declared.shape.Shape.{Shape}
use Rattle.core_state.specs.declared.view.Held.{Held}
use Rattle.core_state.specs.declared.view.View.{View}
use Rattle.citrus_tree.proofs.Leavings.{goes_same}
use Rattle.citrus_tree.proofs.Reusing.{hand_empty, leaf_new, leaf_there, takes_goes}
use Rattle.citrus_tree.proofs.insert.leaf_in_hand.Goals as goal

-- a filled slot is in hand
has_leaf : {k : Shape} {key value kept : ℕ} {spot : Spot} {v : View} (slot : ℕ) (hand : Option Held) → IsSlotOf (Some slot) hand
    → IsAt k (Put key value) kept (leaf_stage hand spot) v → IsAt k (Put key value) kept (at.LeafLock spot) v
has_leaf slot None wrong a = absurd wrong
has_leaf slot (Some held) is a = a

pub returns-in-Some-clause-slot : goal.returns-in-Some-clause-slot
returns-in-Some-clause-slot g c slot e = subst (λ (o : Option ℕ). IsSlotOf o c.args.seat.now.view.hands.hand) e c.in-Some.ensures

pub returns-in-Some-clause-room : goal.returns-in-Some-clause-room
returns-in-Some-clause-room g c = inl (takes_none (goes_same c.args.seat.now.view))

pub returns-in-Some-clause-slots : goal.returns-in-Some-clause-slots
returns-in-Some-clause-slots g c = leaf_there c.args.reuse _ c.args.seat.now c.args.seat.now.view.hands.hand c.in-Some.ensures

pub returns-in-Some-clause-at : goal.returns-in-Some-clause-at
returns-in-Some-clause-at g c kept spot a = has_leaf _ c.args.seat.now.view.hands.hand c.in-Some.ensures a

pub take_slot-requires-clause-ready : goal.take_slot-requires-clause-ready
take_slot-requires-clause-ready g c = c.requires.ready (hand_empty c.args.seat.now.view.hands.hand c.in_default.ensures)

pub take_slot-requires-clause-at : goal.take_slot-requires-clause-at
take_slot-requires-clause-at g c = let a = c.requires.at in (
  a.1,
  1,
  (Put c.args.key c.args.value, a.0, leaf_taken c.args.seat.now.view.hands.hand c.in_default.ensures a.2),
)

pub fill_leaf-requires-clause-slot : goal.fill_leaf-requires-clause-slot
fill_leaf-requires-clause-slot g c = (IfOk-at_ok _ c.in-Ok.is c.in_ok-taken.ensures.slot) _ c.in-Some-taken.is

pub fill_leaf-requires-clause-at : goal.fill_leaf-requires-clause-at
fill_leaf-requires-clause-at g c = let a = c.requires.at in (
  a.0,
  a.1,
  subst (λ (r : Option ℕ). IsAt (shape_of g.W.WaitWords.WAY c.args.table.now) (Put c.args.key c.args.value) a.0
      (taken_stage r a.1) c.take_slot.new.seat.view) c.in-Some-taken.is
      ((IfOk-at_ok _ c.in-Ok.is c.in_ok-taken.ensures.at) a.1 1 (Put c.args.key c.args.value) a.0
      (leaf_taken c.args.seat.now.view.hands.hand c.in_default.ensures a.2)),
)

pub returns-in_default-taken-clause-slots : goal.returns-in_default-taken-clause-slots
returns-in_default-taken-clause-slots g c =
    leaf_new c.args.reuse c.args.seat.now c.take_slot.new.seat c.args.seat.now.view.hands.hand c.in_default.ensures c.in_ok-taken.ensures.slots

pub returns-in_default-taken-clause-at : goal.returns-in_default-taken-clause-at
returns-in_default-taken-clause-at g c kept spot a = subst (λ (r : Option ℕ). IsAt (shape_of g.W.WaitWords.WAY c.args.table.now)
    (Put c.args.key c.args.value) kept (taken_stage r spot) c.take_slot.new.seat.view) c.in_default-taken.is
    ((IfOk-at_ok _ c.in-Ok.is c.in_ok-taken.ensures.at) spot 1 (Put c.args.key c.args.value) kept
    (leaf_taken c.args.seat.now.view.hands.hand c.in_default.ensures a))

pub returns-in-Err-clause-slots : goal.returns-in-Err-clause-slots
returns-in-Err-clause-slots g c =
    leaf_new c.args.reuse c.args.seat.now c.take_slot.new.seat c.args.seat.now.view.hands.hand c.in_default.ensures c.in_ok-taken.ensures.slots

pub returns-in-Err-clause-busy : goal.returns-in-Err-clause-busy
returns-in-Err-clause-busy g c kept spot a = (IfErr-at_err _ c.in-Err.is c.in_ok-taken.ensures.busy) spot 1 (Put c.args.key c.args.value) kept
    (leaf_taken c.args.seat.now.view.hands.hand c.in_default.ensures a)

pub returns-clause-room : goal.returns-clause-room
returns-clause-room g c = room_goes c.in_ok-taken.ensures.room c.fill_leaf.ensures.goes

pub returns-clause-slots : goal.returns-clause-slots
returns-clause-slots g c = leaf_new c.args.reuse c.args.seat.now c.fill_leaf.new.seat c.args.seat.now.view.hands.hand c.in_default.ensures
    (takes_goes c.args.reuse c.args.seat.now.view.hands.spare c.args.seat.now c.take_slot.new.seat c.fill_leaf.new.seat [] c.in_ok-taken.ensures.slots c.fill_leaf.ensures.goes c.fill_leaf.ensures.seat.1)

pub returns-clause-at : goal.returns-clause-at
returns-clause-at g c kept spot a =
    c.fill_leaf.ensures.at kept spot (subst (λ (r : Option ℕ). IsAt (shape_of g.W.WaitWords.WAY c.args.table.now)
    (Put c.args.key c.args.value) kept (taken_stage r spot) c.take_slot.new.seat.view) c.in-Some-taken.is
    ((IfOk-at_ok _ c.in-Ok.is c.in_ok-taken.ensures.at) spot 1 (Put c.args.key c.args.value) kept
    (leaf_taken c.args.seat.now.view.hands.hand c.in_default.ensures a)))

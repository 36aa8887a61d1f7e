use Rattle.std.proofs.Common.{refl, sym, subst, ◌∙◌}
use Rattle.seat_table.specs.Seats.{shape_of}
use Rattle.node_slots.specs.Taking.{Takes}
use Rattle.node_slots.specs.declared.answers.Taken.{Taken}
use Rattle.node_slots.proofs.Points.{tries_further}
use Rattle.citrus_tree.proofs.DeleteTries.{given_spare, no_spare}
use Rattle.tree_lift.proofs.Slots.{needs_kept, spare_at_once, spare_kept, spare_none}
use Rattle.tree_lift.proofs.room.have_spare.Goals as goal

pub take-requires-clause-unreserved : goal.take-requires-clause-unreserved
take-requires-clause-unreserved g c = c.requires.quiet.view.reserved

pub take-requires-clause-empty : goal.take-requires-clause-empty
take-requires-clause-empty g c = c.requires.quiet.view.hand

pub keep_as_spare-requires-clause-asks : goal.keep_as_spare-requires-clause-asks
keep_as_spare-requires-clause-asks g c =
    let k = shape_of g.W.WaitWords.WAY c.args.table.now in
    needs_kept k c.args.seat.now c.requires.quiet
    (no_spare c.spare.result c.args.seat.now.view.hands.spare c.spare.ensures (sym c.is_some.ensures ∙ c.if-is_some.false)) c.in-Slot.slot _
    c.take.new.seat
    (subst (λ (r : Taken). Takes k c.args.seat.now.view r c.take.new.seat.view) c.in-Slot.is c.in_ok-slot.ensures.view)

pub returns-then-is_some-clause-sees_to : goal.returns-then-is_some-clause-sees_to
returns-then-is_some-clause-sees_to g c =
    spare_at_once (shape_of g.W.WaitWords.WAY c.args.table.now) c.args.seat.now c.requires.quiet c.args.seat.now refl
    (given_spare c.spare.result c.args.seat.now.view.hands.spare c.spare.ensures (sym c.is_some.ensures ∙ c.if-is_some.true))

pub returns-in-Slot-clause-sees_to : goal.returns-in-Slot-clause-sees_to
returns-in-Slot-clause-sees_to g c =
    let k = shape_of g.W.WaitWords.WAY c.args.table.now in
    spare_kept k c.args.seat.now c.requires.quiet
    (no_spare c.spare.result c.args.seat.now.view.hands.spare c.spare.ensures (sym c.is_some.ensures ∙ c.if-is_some.false)) c.in-Slot.slot _
    c.take.new.seat
    (subst (λ (r : Taken). Takes k c.args.seat.now.view r c.take.new.seat.view) c.in-Slot.is c.in_ok-slot.ensures.view)
    c.keep_as_spare.new.seat c.keep_as_spare.result (tries_further _ _ _ _ _ _ c.in_ok-slot.ensures.tries) c.take.ensures.seat.1
    c.keep_as_spare.ensures.seat.1 c.requires.ticket c.keep_as_spare.ensures.told

pub returns-in-Empty-clause-sees_to : goal.returns-in-Empty-clause-sees_to
returns-in-Empty-clause-sees_to g c =
    let k = shape_of g.W.WaitWords.WAY c.args.table.now in
    spare_none k c.args.seat.now c.requires.quiet c.take.new.seat
    (no_spare c.spare.result c.args.seat.now.view.hands.spare c.spare.ensures (sym c.is_some.ensures ∙ c.if-is_some.false))
    (subst (λ (r : Taken). Takes k c.args.seat.now.view r c.take.new.seat.view) c.in-Empty.is c.in_ok-slot.ensures.view)
    (tries_further _ _ _ _ _ _ c.in_ok-slot.ensures.tries) c.take.ensures.seat.1 c.in_ok-slot.ensures.informed

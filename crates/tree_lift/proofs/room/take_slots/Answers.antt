use Rattle.std.proofs.Common.{subst}
use Rattle.seat_table.specs.Seats.{shape_of}
use Rattle.node_slots.specs.Taking.{Takes}
use Rattle.node_slots.specs.declared.answers.Taken.{Taken}
use Rattle.node_slots.proofs.Points.{tries_further}
use Rattle.tree_lift.specs.Lifts.{SeesToSpare}
use Rattle.tree_lift.proofs.Slots.{one_left, takes_both, takes_none, takes_no_spare}
use Rattle.tree_lift.proofs.room.take_slots.Goals as goal

pub returns-then-not-branch-clause-takes : goal.returns-then-not-branch-clause-takes
returns-then-not-branch-clause-takes g c =
    let k = shape_of g.W.WaitWords.WAY c.args.table.now in
    takes_no_spare k c.args.seat.now c.have_spare.new.seat
    (subst (λ b. SeesToSpare k c.args.seat.now b c.have_spare.new.seat) c.if-not-branch.true c.in_ok-have_spare.ensures.sees_to)

pub take-requires-clause-unreserved : goal.take-requires-clause-unreserved
take-requires-clause-unreserved g c = c.in_ok-have_spare.ensures.sees_to.quiet.view.reserved

pub take-requires-clause-empty : goal.take-requires-clause-empty
take-requires-clause-empty g c = c.in_ok-have_spare.ensures.sees_to.quiet.view.hand

pub take-requires-clause-ticket : goal.take-requires-clause-ticket
take-requires-clause-ticket g c = one_left _ _ _ _ c.in_ok-have_spare.ensures.sees_to c.requires.tickets

pub returns-in-Slot-clause-takes : goal.returns-in-Slot-clause-takes
returns-in-Slot-clause-takes g c =
    let k = shape_of g.W.WaitWords.WAY c.args.table.now in
    let some = subst (λ b. SeesToSpare k c.args.seat.now b c.have_spare.new.seat) c.if-not-branch.false
    c.in_ok-have_spare.ensures.sees_to in
    takes_both k c.args.seat.now c.have_spare.new.seat some c.take.new.seat _ _
    (subst (λ (r : Taken). Takes k c.have_spare.new.seat.view r c.take.new.seat.view) c.in-Slot.is c.in_ok-take.ensures.view)
    (tries_further _ _ _ _ _ _ c.in_ok-take.ensures.tries) c.take.ensures.seat.1 (one_left _ _ _ _ some c.requires.tickets)
    c.in_ok-take.ensures.informed

pub returns-in-Empty-clause-takes : goal.returns-in-Empty-clause-takes
returns-in-Empty-clause-takes g c =
    let k = shape_of g.W.WaitWords.WAY c.args.table.now in
    let some = subst (λ b. SeesToSpare k c.args.seat.now b c.have_spare.new.seat) c.if-not-branch.false
    c.in_ok-have_spare.ensures.sees_to in
    takes_none k c.args.seat.now c.have_spare.new.seat some c.take.new.seat
    (subst (λ (r : Taken). Takes k c.have_spare.new.seat.view r c.take.new.seat.view) c.in-Empty.is c.in_ok-take.ensures.view)
    (tries_further _ _ _ _ _ _ c.in_ok-take.ensures.tries) c.take.ensures.seat.1 c.in_ok-take.ensures.informed

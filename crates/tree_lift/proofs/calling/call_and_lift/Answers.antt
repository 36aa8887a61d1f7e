use Rattle.std.proofs.Common.{arith}
use Rattle.seat_table.specs.Seats.{shape_of}
use Rattle.citrus_tree.proofs.Leavings.{keeps_on, keeps_more}
use Rattle.tree_lift.proofs.Calls.{told_lifted}
use Rattle.tree_lift.proofs.calling.call_and_lift.Goals as goal

pub returns-clause-told : goal.returns-clause-told
returns-clause-told g c = told_lifted
    (shape_of g.W.WaitWords.WAY c.args.table.now) c.args.seat.now.view c.args.op c.in-Put.key c.in-Put.value c.call-called.result.told
    c.call-called.new.seat.view c.lift_if_deep.new.seat.view c.in-Put.is c.call-called.ensures.told c.lift_if_deep.ensures.updates

pub returns-clause-keeps : goal.returns-clause-keeps
returns-clause-keeps g c = keeps_on c.call-called.ensures.keeps c.lift_if_deep.ensures.keeps

pub returns-in_default-clause-keeps : goal.returns-in_default-clause-keeps
returns-in_default-clause-keeps g c = keeps_more (omega arith) c.call-called.ensures.keeps

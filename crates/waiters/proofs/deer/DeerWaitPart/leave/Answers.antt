use Rattle.seat_table.specs.Seats.{shape_of}
use Rattle.seat_table.proofs.SeveralSteps.{left_row}
use Rattle.waiters.proofs.deer.DeerWaitPart.leave.Goals as goal

pub returns-clause-left : goal.returns-clause-left
returns-clause-left c =
    left_row (shape_of 2 c.args.table.now) _ _ c.requires.inside.0 c.requires.inside.1 _ _ c.leave_by_row.ensures.told

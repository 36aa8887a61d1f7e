use Rattle.seat_table.specs.Seats.{shape_of}
use Rattle.seat_table.proofs.SeveralSteps.{left}
use Rattle.waiters.proofs.eer.EerWaitPart.leave.Goals as goal

pub returns-clause-left : goal.returns-clause-left
returns-clause-left c =
    left (shape_of 0 c.args.table.now) _ _ c.requires.inside.0 c.requires.inside.1 _ c.leave_by_stamp.ensures.told

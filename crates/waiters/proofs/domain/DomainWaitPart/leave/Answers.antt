use Rattle.seat_table.specs.Seats.{shape_of}
use Rattle.seat_table.proofs.SeveralSteps.{left_count}
use Rattle.waiters.proofs.domain.DomainWaitPart.leave.Goals as goal

pub returns-in-Some-clause-left : goal.returns-in-Some-clause-left
returns-in-Some-clause-left c =
    left_count (shape_of 1 c.args.table.now) _ _ c.requires.inside.0 c.requires.inside.1 c.leave_by_count.ensures.told.0 _ _
    c.leave_by_count.ensures.told.1

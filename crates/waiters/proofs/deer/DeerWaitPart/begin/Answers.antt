use Rattle.seat_table.specs.Seats.{shape_of}
use Rattle.seat_table.proofs.Seats.{begun_quiet}
use Rattle.seat_table.proofs.SeveralSteps.{begun}
use Rattle.seat_table.proofs.Waiting.{latest}
use Rattle.waiters.specs.declared.deer.Deer.{Deer}
use Rattle.waiters.proofs.deer.DeerWaitPart.begin.Goals as goal

pub returns-clause-begun : goal.returns-clause-begun
returns-clause-begun c = begun (shape_of 2 c.args.table.now) _ _ _ _ _ c.begin_wait-clock.ensures.told

pub returns-clause-latest : goal.returns-clause-latest
returns-clause-latest c =
    latest {W = Deer}
    (shape_of 2 c.args.table.now) _ _ c.args.keys c.begin_wait-clock.result _ c.new.ensures.keys c.new.ensures.clock c.new.ensures.start
    c.begin_wait-clock.ensures.told

pub returns-clause-quiet : goal.returns-clause-quiet
returns-clause-quiet c = begun_quiet (returns-clause-begun c) c.begin_wait-clock.ensures.seat.1

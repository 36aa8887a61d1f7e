use Rattle.std.proofs.Common.{rules, refl, arith}
use Rattle.seat_table.specs.Seats.{shape_of}
use Rattle.seat_table.proofs.Seats.{entered_quiet}
use Rattle.seat_table.proofs.SeveralSteps.{needs_row, entered_row, enters_row}
use Rattle.waiters.proofs.deer.DeerWaitPart.enter.Goals as goal

pub enter_by_row-requires-clause-asks : goal.enter_by_row-requires-clause-asks
enter_by_row-requires-clause-asks c = λ told. (
  (refl, told.tells.place_within, omega arith),
  needs_row (shape_of 2 c.args.table.now) _ _ _ _ c.load_clock-stamp.ensures.told (search rules) (search rules) c.ranges.key.fits,
)

pub returns-clause-entered : goal.returns-clause-entered
returns-clause-entered c = entered_row (shape_of 2 c.args.table.now) _ _ _ _ c.load_clock-stamp.ensures.told _ c.enter_by_row.ensures.told

pub returns-clause-steps : goal.returns-clause-steps
returns-clause-steps c = enters_row (shape_of 2 c.args.table.now) _ _ _ _ c.load_clock-stamp.ensures.told _ c.enter_by_row.ensures.told

pub returns-clause-quiet : goal.returns-clause-quiet
returns-clause-quiet c = entered_quiet (returns-clause-entered c) (search rules)

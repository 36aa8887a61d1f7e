use Rattle.std.proofs.Common.{rules, refl}
use Rattle.seat_table.specs.Seats.{shape_of}
use Rattle.seat_table.proofs.Seats.{entered_quiet}
use Rattle.seat_table.proofs.SeveralSteps.{needs_entry, entered, enters}
use Rattle.waiters.proofs.eer.EerWaitPart.enter.Goals as goal

pub enter_by_stamp-requires-clause-asks : goal.enter_by_stamp-requires-clause-asks
enter_by_stamp-requires-clause-asks c = λ told. (
  (refl, told.tells.place_within),
  needs_entry (shape_of 0 c.args.table.now) _ _ _ _ _ c.load_clock-stamp.ensures.told c.announce_key.ensures.told (search rules)
      (search rules) c.ranges.key.fits,
)

pub returns-clause-entered : goal.returns-clause-entered
returns-clause-entered c =
    entered (shape_of 0 c.args.table.now) _ _ _ _ _ c.load_clock-stamp.ensures.told c.announce_key.ensures.told _
    c.enter_by_stamp.ensures.told

pub returns-clause-steps : goal.returns-clause-steps
returns-clause-steps c =
    enters (shape_of 0 c.args.table.now) _ _ _ _ _ c.load_clock-stamp.ensures.told c.announce_key.ensures.told _
    c.enter_by_stamp.ensures.told

pub returns-clause-quiet : goal.returns-clause-quiet
returns-clause-quiet c = entered_quiet (returns-clause-entered c) (search rules)

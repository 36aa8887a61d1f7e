use Rattle.std.proofs.Common.{◌∙◌}
use Rattle.seat_table.specs.Seats.{shape_of}
use Rattle.tree_lift.proofs.Ways.{in_section, left, read_quiet}
use Rattle.tree_lift.proofs.finding.find_turn.Goals as goal

pub find_inside-turn-requires-clause-entered : goal.find_inside-turn-requires-clause-entered
find_inside-turn-requires-clause-entered g c = (c.args.seat.now.view, c.enter.ensures.entered)

pub leave-requires-clause-inside : goal.leave-requires-clause-inside
leave-requires-clause-inside g c =
    let found = c.find_inside-turn.ensures.finds c.args.seat.now.view c.enter.ensures.entered in
    in_section (shape_of g.W.WaitWords.WAY c.args.table.now) c.args.seat.now.view c.args.key found.0 c.find_inside-turn.new.seat.view found.1

pub returns-clause-finds : goal.returns-clause-finds
returns-clause-finds g c =
    let found = c.find_inside-turn.ensures.finds c.args.seat.now.view c.enter.ensures.entered in (
      found.0,
      left (shape_of g.W.WaitWords.WAY c.args.table.now) c.args.seat.now.view c.args.key found.0 c.find_inside-turn.new.seat.view found.1
          c.leave.new.seat.view c.leave.ensures.left,
      found.2,
    )

pub returns-clause-quiet : goal.returns-clause-quiet
returns-clause-quiet g c = read_quiet c.args.seat.now c.leave.new.seat (returns-clause-finds g c).1
    (c.leave.ensures.seat.1 ∙ c.find_inside-turn.ensures.seat.1 ∙ c.enter.ensures.seat.1)

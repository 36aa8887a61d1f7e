use Rattle.std.proofs.Common.{Some, None, ◌∙◌}
use Rattle.seat_table.specs.Seats.{shape_of}
use Rattle.many_gets.proofs.Lanes.{come_as, may_load, still_inside, inside_missed, got_found, got_none}
use Rattle.many_gets.proofs.lane.leave.Goals as goal

pub search_load-value-requires-clause-asks : goal.search_load-value-requires-clause-asks
search_load-value-requires-clause-asks g c =
    let e = c.requires.come in let k = shape_of g.W.WaitWords.WAY c.args.table.now in
    may_load e.0 c.args.index e.1 k c.in-Some.slot c.args.seat.now
    (come_as e.0 c.args.index e.1 k c.args.found (Some c.in-Some.slot) c.args.seat.now c.in-Some.is e.3)

pub leave-requires-clause-inside : goal.leave-requires-clause-inside
leave-requires-clause-inside g c =
    let e = c.requires.come in let k = shape_of g.W.WaitWords.WAY c.args.table.now in
    still_inside e.0 c.args.index e.1 k c.in-Some.slot c.args.seat.now
    (come_as e.0 c.args.index e.1 k c.args.found (Some c.in-Some.slot) c.args.seat.now c.in-Some.is e.3) c.search_load-value.result
    c.search_load-value.new.seat c.search_load-value.ensures.told

pub returns-in-Some-clause-got : goal.returns-in-Some-clause-got
returns-in-Some-clause-got g c keys s room p =
    let k = shape_of g.W.WaitWords.WAY c.args.table.now in
    got_found keys c.args.index s k c.in-Some.slot c.args.seat.now
    (come_as keys c.args.index s k c.args.found (Some c.in-Some.slot) c.args.seat.now c.in-Some.is p) c.search_load-value.result
    c.search_load-value.new.seat c.search_load-value.ensures.told c.args.answers.now room c.leave.new.seat
    (c.leave.ensures.seat.0 ∙ c.search_load-value.ensures.seat.0) (c.leave.ensures.seat.1 ∙ c.search_load-value.ensures.seat.1)
    c.leave.ensures.left

pub leave-requires-in-None-clause-inside : goal.leave-requires-in-None-clause-inside
leave-requires-in-None-clause-inside g c =
    let e = c.requires.come in let k = shape_of g.W.WaitWords.WAY c.args.table.now in
    inside_missed e.0 c.args.index e.1 k c.args.seat.now
    (come_as e.0 c.args.index e.1 k c.args.found None c.args.seat.now c.in-None.is e.3)

pub returns-in-None-clause-got : goal.returns-in-None-clause-got
returns-in-None-clause-got g c keys s room p =
    let k = shape_of g.W.WaitWords.WAY c.args.table.now in
    got_none keys c.args.index s k c.args.seat.now (come_as keys c.args.index s k c.args.found None c.args.seat.now c.in-None.is p)
    c.args.answers.now room c.leave-in-None.new.seat c.leave-in-None.ensures.seat.0 c.leave-in-None.ensures.seat.1
    c.leave-in-None.ensures.left

use Rattle.std.proofs.Common.{arith}
use Rattle.seat_table.specs.Seats.{shape_of}
use Rattle.citrus_tree.proofs.Searching.{finished}
use Rattle.seat_table.proofs.SeveralSteps.{makes_steps, told_steps}
use Rattle.citrus_tree.proofs.search.leave_with_spot.Goals as goal

pub returns-clause-looked : goal.returns-clause-looked
returns-clause-looked g c v key i =
    finished (shape_of g.W.WaitWords.WAY c.args.table.now) v key c.args.slot c.args.side c.args.seat.now.view i c.requires.slot
    c.search_load-tag.result c.search_load-tag.new.seat.view c.search_load-tag.ensures.told c.search_load-life.result
    c.search_load-life.new.seat.view c.search_load-life.ensures.told c.generation_of.result c.leave.new.seat.view c.generation_of.ensures
    c.leave.ensures.left

pub returns-clause-stepped : goal.returns-clause-stepped
returns-clause-stepped g c =
    let tag = told_steps c.search_load-tag.ensures.told in
    let life = told_steps c.search_load-life.ensures.told in
    let left = makes_steps c.search_load-life.new.seat.view c.leave.new.seat.view c.leave.ensures.left.made in
    omega (arith, tag, life, left)

use Rattle.std.proofs.Common.{sym, ◌∙◌, arith}
use Rattle.seat_table.specs.Seats.{shape_of}
use Rattle.seat_table.proofs.SeveralSteps.{told_steps}
use Rattle.citrus_tree.proofs.Searching.{ended_costs, found_costs, moved_costs, ended_at, slot_on, may_read, found_at, moved_on}
use Rattle.citrus_tree.proofs.descent.look_on.Goals as goal

pub returns-then-ahead-eq0-clause-searching : goal.returns-then-ahead-eq0-clause-searching
returns-then-ahead-eq0-clause-searching g c v u slot side i l = ended_at
    (shape_of g.W.WaitWords.WAY c.args.table.now) c.args.key slot side u c.args.ahead c.args.seat.now.view l c.if-ahead-eq0.true v i

pub search_load-found-requires-clause-asks : goal.search_load-found-requires-clause-asks
search_load-found-requires-clause-asks g c = let a = c.requires.loaded.1 in may_read
    (shape_of g.W.WaitWords.WAY c.args.table.now) c.args.key a.slot a.side a.before c.args.ahead c.args.seat.now.view a.loads
    c.if-ahead-eq0.false (c.requires.loaded.0, a.searching)

pub returns-in-None-clause-slot : goal.returns-in-None-clause-slot
returns-in-None-clause-slot g c slot side _ = let a = c.requires.loaded.1 in slot_on
    (shape_of g.W.WaitWords.WAY c.args.table.now) c.args.key a.slot a.side a.before c.args.ahead c.args.seat.now.view a.loads
    c.if-ahead-eq0.false (c.requires.loaded.0, a.searching)

pub returns-in-None-clause-searching : goal.returns-in-None-clause-searching
returns-in-None-clause-searching g c v u slot side i l = found_at
    (shape_of g.W.WaitWords.WAY c.args.table.now) c.args.key slot side u c.args.ahead c.args.seat.now.view l c.search_load-found.result
    c.search_load-found.new.seat.view c.search_load-found.ensures.told c.if-ahead-eq0.false (sym c.step_side.ensures ∙ c.in-None.is) v i

pub returns-in-Some-clause-slot : goal.returns-in-Some-clause-slot
returns-in-Some-clause-slot g c slot side _ = let a = c.requires.loaded.1 in slot_on
    (shape_of g.W.WaitWords.WAY c.args.table.now) c.args.key a.slot a.side a.before c.args.ahead c.args.seat.now.view a.loads
    c.if-ahead-eq0.false (c.requires.loaded.0, a.searching)

pub returns-in-Some-clause-searching : goal.returns-in-Some-clause-searching
returns-in-Some-clause-searching g c v u slot side i l = moved_on
    (shape_of g.W.WaitWords.WAY c.args.table.now) c.args.key slot side u c.args.ahead c.args.seat.now.view l c.search_load-found.result
    c.search_load-found.new.seat.view c.search_load-found.ensures.told c.in-Some.side c.if-ahead-eq0.false
    (sym c.step_side.ensures ∙ c.in-Some.is) v i

pub returns-then-ahead-eq0-clause-place : goal.returns-then-ahead-eq0-clause-place
returns-then-ahead-eq0-clause-place g c = c.requires.loaded.1.loads.left_told.before.tells.some_place

pub returns-in-None-clause-place : goal.returns-in-None-clause-place
returns-in-None-clause-place g c = c.requires.loaded.1.loads.left_told.before.tells.some_place

pub returns-in-Some-clause-place : goal.returns-in-Some-clause-place
returns-in-Some-clause-place g c = c.requires.loaded.1.loads.left_told.before.tells.some_place

pub returns-then-ahead-eq0-clause-costs : goal.returns-then-ahead-eq0-clause-costs
returns-then-ahead-eq0-clause-costs g c v u slot side i l = ended_costs
    (shape_of g.W.WaitWords.WAY c.args.table.now) c.args.key slot side u c.args.ahead c.args.seat.now.view l v i c.if-ahead-eq0.true

pub returns-in-None-clause-costs : goal.returns-in-None-clause-costs
returns-in-None-clause-costs g c v u slot side i l = found_costs
    (shape_of g.W.WaitWords.WAY c.args.table.now) c.args.key slot side u c.args.ahead c.args.seat.now.view l v i c.search_load-found.result
    c.search_load-found.new.seat.view c.search_load-found.ensures.told c.if-ahead-eq0.false (sym c.step_side.ensures ∙ c.in-None.is)

pub returns-in-Some-clause-costs : goal.returns-in-Some-clause-costs
returns-in-Some-clause-costs g c v u slot side i l = moved_costs
    (shape_of g.W.WaitWords.WAY c.args.table.now) c.args.key slot side u c.args.ahead c.args.seat.now.view l v i c.search_load-found.result
    c.search_load-found.new.seat.view c.search_load-found.ensures.told c.if-ahead-eq0.false c.in-Some.side
    (sym c.step_side.ensures ∙ c.in-Some.is)

pub returns-in-None-clause-more : goal.returns-in-None-clause-more
returns-in-None-clause-more g c = let stepped = told_steps c.search_load-found.ensures.told in omega (arith, stepped)

pub returns-in-Some-clause-more : goal.returns-in-Some-clause-more
returns-in-Some-clause-more g c = let stepped = told_steps c.search_load-found.ensures.told in omega (arith, stepped)

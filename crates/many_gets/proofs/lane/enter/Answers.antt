use Rattle.std.proofs.Common.{arith}
use Rattle.seat_table.specs.Seats.{shape_of}
use Rattle.citrus_tree.proofs.Searching.{entered_pace, root_is, begun}
use Rattle.many_gets.proofs.Lanes.{stands_outside, entered, enters_and_loads}
use Rattle.many_gets.proofs.lane.enter.Goals as goal

pub returns-then-index-keys-clause-at : goal.returns-then-index-keys-clause-at
returns-then-index-keys-clause-at g c = stands_outside
    c.args.keys.now c.args.index c.args.seat.now (shape_of g.W.WaitWords.WAY c.args.table.now) c.outside.result.searches
    c.outside.result.key c.outside.result.ahead c.outside.ensures.outside
    (let past = c.if-index-keys.true in omega (arith, past))

pub load_links-links-requires-clause-slot : goal.load_links-links-requires-clause-slot
load_links-links-requires-clause-slot g c = root_is (shape_of g.W.WaitWords.WAY c.args.table.now)

pub load_links-links-requires-clause-searching : goal.load_links-links-requires-clause-searching
load_links-links-requires-clause-searching g c = (
  c.args.seat.now.view,
  _,
  begun (shape_of g.W.WaitWords.WAY c.args.table.now) c.args.seat.now.view _ c.enter.new.seat.view c.enter.ensures.entered,
)

pub returns-clause-at : goal.returns-clause-at
returns-clause-at g c = entered
    c.args.keys.now c.args.index c.args.seat.now (shape_of g.W.WaitWords.WAY c.args.table.now) c.enter.new.seat
    c.load_links-links.new.seat c.load_links-links.result.ahead c.enter.ensures.seat.0 c.enter.ensures.seat.1
    c.load_links-links.ensures.seat.0 c.load_links-links.ensures.seat.1
    (let within = c.if-index-keys.false in omega (arith, within)) c.enter.ensures.entered
    (entered_pace c.enter.ensures.steps c.enter.ensures.entered) c.load_links-links.ensures.loads

pub returns-clause-stepped : goal.returns-clause-stepped
returns-clause-stepped g c _ = enters_and_loads c.enter.ensures.entered c.load_links-links.ensures.loads

pub returns-clause-more : goal.returns-clause-more
returns-clause-more g c =
    let stepped = enters_and_loads c.enter.ensures.entered c.load_links-links.ensures.loads in omega (arith, stepped)

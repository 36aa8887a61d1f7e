use Rattle.seat_table.specs.Seats.{shape_of}
use Rattle.citrus_tree.proofs.Searching.{root_is, begun}
use Rattle.citrus_tree.proofs.search.Search.start.Goals as goal

pub returns-clause-stands : goal.returns-clause-stands
returns-clause-stands g c = (
  root_is (shape_of g.W.WaitWords.WAY c.args.table.now),
  begun (shape_of g.W.WaitWords.WAY c.args.table.now) c.args.seat.now.view c.args.key c.enter.new.seat.view c.enter.ensures.entered,
)

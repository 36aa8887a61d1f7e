use Rattle.seat_table.specs.Seats.{shape_of}
use Rattle.citrus_tree.proofs.Leavings.{closes, closes_at}
use Rattle.citrus_tree.proofs.commit.close_commit.Goals as goal

pub returns-clause-closed : goal.returns-clause-closed
returns-clause-closed g c =
    closes (shape_of g.W.WaitWords.WAY c.args.table.now) c.args.seat.now.view c.close_commit.new.seat.view c.args.front
    c.close_commit.ensures.told

pub returns-clause-at : goal.returns-clause-at
returns-clause-at g c =
    closes_at (shape_of g.W.WaitWords.WAY c.args.table.now) c.args.seat.now.view c.close_commit.new.seat.view c.args.front
    c.close_commit.ensures.told

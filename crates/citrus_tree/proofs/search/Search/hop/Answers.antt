use Rattle.seat_table.specs.Seats.{shape_of}
use Rattle.citrus_tree.proofs.Searching.{hop_moved, hop_found, hop_ended}
use Rattle.citrus_tree.proofs.search.Search.hop.Goals as goal

pub returns-in-Moved-clause-stands : goal.returns-in-Moved-clause-stands
returns-in-Moved-clause-stands g c =
    hop_moved (shape_of g.W.WaitWords.WAY c.args.self.now.table.now) c.args.self.now.key c.args.self.now.last c.args.self.now.slot
    c.args.self.now.side c.args.self.now.seat.now.view c.requires.moved c.go_down.new.seat.view c.in-Moved.slot c.in-Moved.side
    c.in-Moved.ensures.slot c.in-Moved.ensures.searching

pub returns-in-Found-clause-stands : goal.returns-in-Found-clause-stands
returns-in-Found-clause-stands g c =
    hop_found (shape_of g.W.WaitWords.WAY c.args.self.now.table.now) c.args.self.now.key c.args.self.now.last c.args.self.now.slot
    c.args.self.now.side c.args.self.now.seat.now.view c.requires.moved c.go_down.new.seat.view c.in-Found.slot c.in-Found.ensures.slot
    c.in-Found.ensures.searching

pub returns-in-Ended-clause-stands : goal.returns-in-Ended-clause-stands
returns-in-Ended-clause-stands g c =
    hop_ended (shape_of g.W.WaitWords.WAY c.args.self.now.table.now) c.args.self.now.key c.args.self.now.last c.args.self.now.slot
    c.args.self.now.side c.args.self.now.seat.now.view c.requires.moved c.go_down.new.seat.view c.in-Ended.ensures.searching

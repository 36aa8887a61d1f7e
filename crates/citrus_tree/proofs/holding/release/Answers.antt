use Rattle.seat_table.specs.Seats.{shape_of}
use Rattle.citrus_tree.proofs.Searching.{looked_found}
use Rattle.citrus_tree.proofs.holding.release.Goals as goal

pub returns-clause-released : goal.returns-clause-released
returns-clause-released g c = λ v key value holding. looked_found
    (shape_of g.W.WaitWords.WAY c.args.table.now) v key holding.slot holding.parent value holding.side c.args.seat.now.view
    c.leave.new.seat.view holding.found c.leave.ensures.left

use Rattle.seat_table.specs.Seats.{shape_of}
use Rattle.tree_watch.proofs.Watched.{may_look_first, only_looked}
use Rattle.tree_watch.proofs.pauses.look_once.Goals as goal

pub look_at_front-front-requires-clause-asks : goal.look_at_front-front-requires-clause-asks
look_at_front-front-requires-clause-asks g c = λ told.
    may_look_first
    (shape_of g.W.WaitWords.WAY c.args.table.now) c.args.seat.now.view c.args.key c.enter.new.seat.view c.enter.ensures.entered

pub returns-clause-only : goal.returns-clause-only
returns-clause-only g c =
    only_looked (shape_of g.W.WaitWords.WAY c.args.table.now) c.args.seat.now.view c.args.key c.enter.new.seat.view
    c.look_at_front-front.result c.look_at_front-front.new.seat.view c.leave.new.seat.view c.requires.quiet.view.section
    c.enter.ensures.entered c.look_at_front-front.ensures.told c.leave.ensures.left

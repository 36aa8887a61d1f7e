use Rattle.std.proofs.Common.{◌∙◌}
use Rattle.tree_watch.proofs.Watched.{only_trans}
use Rattle.tree_watch.proofs.pauses.is_moved.Goals as goal

pub returns-then-look_once-last-clause-only : goal.returns-then-look_once-last-clause-only
returns-then-look_once-last-clause-only g c =
    only_trans c.args.seat.now.view c.loop.seat.view c.look_once.new.seat.view c.loop.invariant.2 c.look_once.ensures.only

pub loop-preserved : goal.loop-preserved
loop-preserved g c = (
  c.look_once.ensures.seat ∙ c.loop.invariant.0,
  c.look_once.ensures.quiet,
  only_trans c.args.seat.now.view c.loop.seat.view c.look_once.new.seat.view c.loop.invariant.2 c.look_once.ensures.only,
)

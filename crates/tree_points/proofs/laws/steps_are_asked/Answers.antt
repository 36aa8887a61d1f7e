use Rattle.tree_points.proofs.Passing.{needs}
use Rattle.tree_points.proofs.laws.steps_are_asked.Goals as goal

pub returns : goal.returns
returns c k op kept v stage a = needs a

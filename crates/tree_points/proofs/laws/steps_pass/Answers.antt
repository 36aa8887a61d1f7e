use Rattle.tree_points.proofs.Passing.{passes}
use Rattle.tree_points.proofs.laws.steps_pass.Goals as goal

pub returns : goal.returns
returns c k op kept v w n stage a = passes a

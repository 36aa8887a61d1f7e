use Rattle.core_points.proofs.AllPoints.{acts_are_within}
use Rattle.core_points.proofs.laws.acts_are_within.Goals as goal

pub returns : goal.returns
returns c = acts_are_within

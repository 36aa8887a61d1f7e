use Rattle.core_points.proofs.AllPoints.{points_keep}
use Rattle.core_points.proofs.laws.points_keep.Goals as goal

pub returns : goal.returns
returns c = points_keep

use Rattle.core_points.proofs.AllPoints.{trails_are_free}
use Rattle.core_points.proofs.laws.trails_are_free.Goals as goal

pub returns : goal.returns
returns c = trails_are_free

use Rattle.core_points.proofs.AllPoints.{needs_are_given}
use Rattle.core_points.proofs.laws.needs_are_given.Goals as goal

pub returns : goal.returns
returns c = needs_are_given

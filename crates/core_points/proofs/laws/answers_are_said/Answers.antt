use Rattle.core_points.proofs.AllPoints.{answers_are_said}
use Rattle.core_points.proofs.laws.answers_are_said.Goals as goal

pub returns : goal.returns
returns c = answers_are_said

use Rattle.core_points.proofs.AllPoints.{rule_tells}
use Rattle.core_points.proofs.laws.rule_tells.Goals as goal

pub returns : goal.returns
returns c = rule_tells

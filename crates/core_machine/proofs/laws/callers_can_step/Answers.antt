use Rattle.core_machine.proofs.Storing.{callers_can_step}
use Rattle.core_machine.proofs.laws.callers_can_step.Goals as goal

pub returns : goal.returns
returns c = callers_can_step

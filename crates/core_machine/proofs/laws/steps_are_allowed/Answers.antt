use Rattle.core_machine.proofs.Running.{steps_are_allowed}
use Rattle.core_machine.proofs.laws.steps_are_allowed.Goals as goal

pub returns : goal.returns
returns c = steps_are_allowed

use Rattle.core_machine.proofs.Storing.{steps_are_stored}
use Rattle.core_machine.proofs.laws.steps_are_stored.Goals as goal

pub returns : goal.returns
returns c = steps_are_stored

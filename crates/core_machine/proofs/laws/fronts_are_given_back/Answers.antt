use Rattle.core_machine.proofs.OwnSteps.{fronts_are_given_back}
use Rattle.core_machine.proofs.laws.fronts_are_given_back.Goals as goal

pub returns : goal.returns
returns c = fronts_are_given_back

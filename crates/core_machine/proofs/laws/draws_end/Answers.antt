use Rattle.core_machine.proofs.Making.{draws_end}
use Rattle.core_machine.proofs.laws.draws_end.Goals as goal

pub returns : goal.returns
returns c = draws_end

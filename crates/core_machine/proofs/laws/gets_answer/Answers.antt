use Rattle.core_machine.proofs.Sections.{gets_answer}
use Rattle.core_machine.proofs.laws.gets_answer.Goals as goal

pub returns : goal.returns
returns c = gets_answer

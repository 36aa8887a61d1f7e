use Rattle.core_machine.proofs.Sections.{sections_are_left}
use Rattle.core_machine.proofs.laws.sections_are_left.Goals as goal

pub returns : goal.returns
returns c = sections_are_left

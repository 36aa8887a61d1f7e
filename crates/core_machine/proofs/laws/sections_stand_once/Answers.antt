use Rattle.core_machine.proofs.Sections.{sections_stand_once}
use Rattle.core_machine.proofs.laws.sections_stand_once.Goals as goal

pub returns : goal.returns
returns c = sections_stand_once

use Rattle.core_machine.proofs.Sections.{gets_are_wait_free}
use Rattle.core_machine.proofs.laws.gets_are_wait_free.Goals as goal

pub returns : goal.returns
returns c = gets_are_wait_free

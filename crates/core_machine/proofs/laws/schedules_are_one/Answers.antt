use Rattle.core_machine.proofs.DrawnRuns.{schedules_are_one}
use Rattle.core_machine.proofs.laws.schedules_are_one.Goals as goal

pub returns : goal.returns
returns c = schedules_are_one

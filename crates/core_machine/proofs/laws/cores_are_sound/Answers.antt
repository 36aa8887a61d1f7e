use Rattle.core_machine.proofs.Running.{cores_are_sound}
use Rattle.core_machine.proofs.laws.cores_are_sound.Goals as goal

pub returns : goal.returns
returns c = cores_are_sound

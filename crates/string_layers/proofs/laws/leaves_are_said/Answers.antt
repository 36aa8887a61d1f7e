use Rattle.string_layers.proofs.Promises.{leaves_are_said}
use Rattle.string_layers.proofs.laws.leaves_are_said.Goals as goal

pub returns : goal.returns
returns c = leaves_are_said

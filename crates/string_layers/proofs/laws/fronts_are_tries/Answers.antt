use Rattle.string_layers.proofs.Promises.{fronts_are_tries}
use Rattle.string_layers.proofs.laws.fronts_are_tries.Goals as goal

pub returns : goal.returns
returns c = fronts_are_tries

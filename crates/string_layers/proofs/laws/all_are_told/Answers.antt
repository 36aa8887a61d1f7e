use Rattle.string_layers.proofs.Promises.{all_are_told}
use Rattle.string_layers.proofs.laws.all_are_told.Goals as goal

pub returns : goal.returns
returns c = all_are_told

use Rattle.string_layers.proofs.Promises.{new_layers_are_their_makers}
use Rattle.string_layers.proofs.laws.new_layers_are_their_makers.Goals as goal

pub returns : goal.returns
returns c = new_layers_are_their_makers

use Rattle.string_layers.proofs.Promises.{numbers_keep_their_prefix}
use Rattle.string_layers.proofs.laws.numbers_keep_their_prefix.Goals as goal

pub returns : goal.returns
returns c = numbers_keep_their_prefix

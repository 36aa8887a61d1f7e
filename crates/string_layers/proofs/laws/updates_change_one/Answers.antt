use Rattle.string_layers.proofs.Promises.{updates_change_one}
use Rattle.string_layers.proofs.laws.updates_change_one.Goals as goal

pub returns : goal.returns
returns c = updates_change_one

use Rattle.string_layers.proofs.Promises.{ways_end_with_what_was_said}
use Rattle.string_layers.proofs.laws.ways_end_with_what_was_said.Goals as goal

pub returns : goal.returns
returns c = ways_end_with_what_was_said

use Rattle.string_layers.proofs.Examples.{needs_can_be_met}
use Rattle.string_layers.proofs.laws.needs_can_be_met.Goals as goal

pub returns : goal.returns
returns c = needs_can_be_met

use Rattle.hash_core.proofs.Keeping.{chains_are_map}
use Rattle.hash_core.proofs.laws.chains_are_map.Goals as goal

pub returns : goal.returns
returns c = chains_are_map

use Rattle.hash_core.proofs.Keeping.{readers_are_counted}
use Rattle.hash_core.proofs.laws.readers_are_counted.Goals as goal

pub returns : goal.returns
returns c = readers_are_counted

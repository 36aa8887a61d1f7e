use Rattle.hash_core.proofs.Keeping.{fresh_holds}
use Rattle.hash_core.proofs.laws.fresh_holds.Goals as goal

pub returns : goal.returns
returns c = fresh_holds

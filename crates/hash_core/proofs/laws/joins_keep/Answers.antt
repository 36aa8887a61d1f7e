use Rattle.hash_core.proofs.Keeping.{joins_keep}
use Rattle.hash_core.proofs.laws.joins_keep.Goals as goal

pub returns : goal.returns
returns c = joins_keep

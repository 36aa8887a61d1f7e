use Rattle.hash_core.proofs.Keeping.{splits_keep}
use Rattle.hash_core.proofs.laws.splits_keep.Goals as goal

pub returns : goal.returns
returns c = splits_keep

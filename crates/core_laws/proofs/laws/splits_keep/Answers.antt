use Rattle.core_laws.proofs.Whole.{splits_keep}
use Rattle.core_laws.proofs.laws.splits_keep.Goals as goal

pub returns : goal.returns
returns c = splits_keep

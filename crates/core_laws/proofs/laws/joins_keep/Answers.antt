use Rattle.core_laws.proofs.Whole.{joins_keep}
use Rattle.core_laws.proofs.laws.joins_keep.Goals as goal

pub returns : goal.returns
returns c = joins_keep

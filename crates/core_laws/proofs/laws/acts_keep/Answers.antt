use Rattle.core_laws.proofs.Whole.{acts_keep}
use Rattle.core_laws.proofs.laws.acts_keep.Goals as goal

pub returns : goal.returns
returns c = acts_keep

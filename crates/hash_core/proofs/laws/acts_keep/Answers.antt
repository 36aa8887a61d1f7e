use Rattle.hash_core.proofs.Keeping.{acts_keep}
use Rattle.hash_core.proofs.laws.acts_keep.Goals as goal

pub returns : goal.returns
returns c = acts_keep

use Rattle.tree_handles.proofs.HeldValues.{outlives_its_lookups}
use Rattle.tree_handles.proofs.laws.outlives_its_lookups.Goals as goal

pub returns : goal.returns
returns c = outlives_its_lookups

use Rattle.tree_handles.proofs.HeldValues.{holds_back}
use Rattle.tree_handles.proofs.laws.holds_back.Goals as goal

pub returns : goal.returns
returns c = holds_back

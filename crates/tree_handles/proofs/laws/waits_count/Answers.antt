use Rattle.tree_handles.proofs.HeldValues.{waits_count}
use Rattle.tree_handles.proofs.laws.waits_count.Goals as goal

pub returns : goal.returns
returns c = waits_count

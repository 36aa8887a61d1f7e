use Rattle.tree_handles.proofs.HeldValues.{taken_is_left_first}
use Rattle.tree_handles.proofs.laws.taken_is_left_first.Goals as goal

pub returns : goal.returns
returns c = taken_is_left_first

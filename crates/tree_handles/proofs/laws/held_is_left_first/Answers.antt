use Rattle.tree_handles.proofs.HeldValues.{held_is_left_first}
use Rattle.tree_handles.proofs.laws.held_is_left_first.Goals as goal

pub returns : goal.returns
returns c = held_is_left_first

use Rattle.tree_handles.proofs.HeldValues.{own_waits_are_later}
use Rattle.tree_handles.proofs.laws.own_waits_are_later.Goals as goal

pub returns : goal.returns
returns c = own_waits_are_later

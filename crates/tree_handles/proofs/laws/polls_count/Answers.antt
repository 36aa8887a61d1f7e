use Rattle.tree_handles.proofs.HeldValues.{polls_count}
use Rattle.tree_handles.proofs.laws.polls_count.Goals as goal

pub returns : goal.returns
returns c = polls_count

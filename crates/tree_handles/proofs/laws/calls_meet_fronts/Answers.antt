use Rattle.tree_handles.proofs.Callers.{calls_meet}
use Rattle.tree_handles.proofs.laws.calls_meet_fronts.Goals as goal

pub returns : goal.returns
returns c = calls_meet

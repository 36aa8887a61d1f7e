use Rattle.tree_points.proofs.Passing.{has_kept, is_quiet}
use Rattle.tree_points.proofs.laws.calls_end.Goals as goal

pub returns : goal.returns
returns c = λ k op kept v done. (is_quiet done, has_kept done)

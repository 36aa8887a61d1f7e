use Rattle.tree_handles.proofs.Callers.{tidies_plain}
use Rattle.tree_handles.proofs.laws.tidies_make_no_update.Goals as goal

pub returns : goal.returns
returns c = tidies_plain

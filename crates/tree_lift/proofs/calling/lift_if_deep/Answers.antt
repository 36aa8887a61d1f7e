use Rattle.citrus_tree.proofs.Leavings.{keeps_same}
use Rattle.tree_lift.proofs.calling.lift_if_deep.Goals as goal

pub returns-then-not-is_deep-clause-keeps : goal.returns-then-not-is_deep-clause-keeps
returns-then-not-is_deep-clause-keeps g c = keeps_same c.requires.quiet

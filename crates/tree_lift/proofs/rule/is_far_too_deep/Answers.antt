use Rattle.std.proofs.Common.{refl}
use Rattle.tree_lift.proofs.rule.is_far_too_deep.Goals as goal

pub returns : goal.returns
returns c = (c.most_depth.result, c.most_depth.ensures, refl)

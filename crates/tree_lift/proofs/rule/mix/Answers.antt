use Rattle.std.proofs.Common.{refl}
use Rattle.tree_lift.specs.Ways.{mixed}
use Rattle.tree_lift.proofs.rule.mix.Goals as goal

pub returns : goal.returns
unfolding mixed
returns c = refl

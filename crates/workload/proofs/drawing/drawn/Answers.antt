use Rattle.std.proofs.Common.{refl}
use Rattle.workload.specs.Draws.{drawn}
use Rattle.workload.proofs.drawing.drawn.Goals as goal

pub returns-clause-drawn : goal.returns-clause-drawn
unfolding drawn
returns-clause-drawn c = refl

use Rattle.std.proofs.Common.{arith}
use Rattle.workload.specs.Draws.{next_state}
use Rattle.workload.proofs.drawing.next_state.Goals as goal

pub returns : goal.returns
unfolding next_state
returns c = omega arith

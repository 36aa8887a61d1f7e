use Rattle.core_laws.proofs.Joining.{join_keeps}
use Rattle.core_laws.proofs.laws.join.Goals as goal

pub returns : goal.returns
returns c = join_keeps

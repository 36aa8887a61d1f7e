use Rattle.core_laws.proofs.Joining.{join_noted_keeps}
use Rattle.core_laws.proofs.laws.join_noted.Goals as goal

pub returns : goal.returns
returns c = join_noted_keeps

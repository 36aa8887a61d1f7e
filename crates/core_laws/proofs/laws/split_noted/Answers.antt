use Rattle.core_laws.proofs.Joining.{split_noted_keeps}
use Rattle.core_laws.proofs.laws.split_noted.Goals as goal

pub returns : goal.returns
returns c = split_noted_keeps

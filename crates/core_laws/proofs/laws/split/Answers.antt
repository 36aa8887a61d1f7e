use Rattle.core_laws.proofs.Splitting.{split_keeps}
use Rattle.core_laws.proofs.laws.split.Goals as goal

pub returns : goal.returns
returns c = split_keeps

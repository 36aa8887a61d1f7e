use Rattle.moved_laws.proofs.Moving.{last_is_known}
use Rattle.moved_laws.proofs.laws.last_is_known.Goals as goal

pub returns : goal.returns
returns c = last_is_known

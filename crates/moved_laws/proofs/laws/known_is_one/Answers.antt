use Rattle.moved_laws.proofs.Moving.{known_is_one}
use Rattle.moved_laws.proofs.laws.known_is_one.Goals as goal

pub returns : goal.returns
returns c = known_is_one

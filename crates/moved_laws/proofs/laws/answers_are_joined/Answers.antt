use Rattle.moved_laws.proofs.Moving.{answers_are_joined}
use Rattle.moved_laws.proofs.laws.answers_are_joined.Goals as goal

pub returns : goal.returns
returns c = answers_are_joined

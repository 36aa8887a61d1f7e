use Rattle.moved_laws.proofs.Moving.{entered_before_is_left}
use Rattle.moved_laws.proofs.laws.entered_before_is_left.Goals as goal

pub returns : goal.returns
returns c = entered_before_is_left

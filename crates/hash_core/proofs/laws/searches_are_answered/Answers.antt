use Rattle.hash_core.proofs.Keeping.{searches_are_answered}
use Rattle.hash_core.proofs.laws.searches_are_answered.Goals as goal

pub returns : goal.returns
returns c = searches_are_answered

use Rattle.core_frames.proofs.PlainLaws.{searches_are_answered}
use Rattle.core_frames.proofs.laws.searches_are_answered.Goals as goal

pub returns : goal.returns
returns c = searches_are_answered

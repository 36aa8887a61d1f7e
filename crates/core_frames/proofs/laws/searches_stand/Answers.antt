use Rattle.core_frames.proofs.PlainLaws.{searches_stand}
use Rattle.core_frames.proofs.laws.searches_stand.Goals as goal

pub returns : goal.returns
returns c = searches_stand

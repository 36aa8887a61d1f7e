use Rattle.core_frames.proofs.PlainLaws.{stood_is_young}
use Rattle.core_frames.proofs.laws.stood_is_young.Goals as goal

pub returns : goal.returns
returns c = stood_is_young

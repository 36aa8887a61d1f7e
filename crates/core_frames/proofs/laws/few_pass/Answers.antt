use Rattle.core_frames.proofs.PlainLaws.{few_pass}
use Rattle.core_frames.proofs.laws.few_pass.Goals as goal

pub returns : goal.returns
returns c = few_pass

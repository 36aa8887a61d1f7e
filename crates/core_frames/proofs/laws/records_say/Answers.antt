use Rattle.core_frames.proofs.PlainLaws.{records_say}
use Rattle.core_frames.proofs.laws.records_say.Goals as goal

pub returns : goal.returns
returns c = records_say

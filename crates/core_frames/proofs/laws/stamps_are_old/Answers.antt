use Rattle.core_frames.proofs.PlainLaws.{stamps_are_old}
use Rattle.core_frames.proofs.laws.stamps_are_old.Goals as goal

pub returns : goal.returns
returns c = stamps_are_old

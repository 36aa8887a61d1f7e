use Rattle.core_frames.proofs.Counting.{empty_is_full}
use Rattle.core_frames.proofs.laws.empty_is_full.Goals as goal

pub returns : goal.returns
returns c = empty_is_full

use Rattle.core_frames.proofs.PlainLaws.{follow_is_map}
use Rattle.core_frames.proofs.laws.follow_is_map.Goals as goal

pub returns : goal.returns
returns c = follow_is_map

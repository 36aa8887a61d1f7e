use Rattle.core_frames.proofs.PlainLaws.{listings_go_on}
use Rattle.core_frames.proofs.laws.listings_go_on.Goals as goal

pub returns : goal.returns
returns c = listings_go_on

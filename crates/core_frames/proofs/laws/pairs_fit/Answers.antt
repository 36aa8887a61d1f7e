use Rattle.core_frames.proofs.Counting.{pairs_fit}
use Rattle.core_frames.proofs.laws.pairs_fit.Goals as goal

pub returns : goal.returns
returns c = pairs_fit

use Rattle.core_frames.proofs.First.{fresh_holds}
use Rattle.core_frames.proofs.laws.fresh_holds.Goals as goal

pub returns : goal.returns
returns c = fresh_holds

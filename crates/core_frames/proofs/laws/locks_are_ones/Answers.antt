use Rattle.core_frames.proofs.Roles.{locks_are_ones}
use Rattle.core_frames.proofs.laws.locks_are_ones.Goals as goal

pub returns : goal.returns
returns c = locks_are_ones

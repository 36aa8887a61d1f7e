use Rattle.core_frames.proofs.Roles.{slots_are_ones}
use Rattle.core_frames.proofs.laws.slots_are_ones.Goals as goal

pub returns : goal.returns
returns c = slots_are_ones

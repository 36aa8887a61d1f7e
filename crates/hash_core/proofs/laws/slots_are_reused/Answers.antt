use Rattle.hash_core.proofs.Keeping.{slots_are_reused}
use Rattle.hash_core.proofs.laws.slots_are_reused.Goals as goal

pub returns : goal.returns
returns c = slots_are_reused

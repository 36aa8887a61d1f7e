use Rattle.hash_core.proofs.Keeping.{slots_have_one_role}
use Rattle.hash_core.proofs.laws.slots_have_one_role.Goals as goal

pub returns : goal.returns
returns c = slots_have_one_role

use Rattle.core_laws.proofs.CopyNeeds.{copy_next}
use Rattle.core_laws.proofs.laws.copies_have_next_keys.Goals as goal

pub returns : goal.returns
returns c = copy_next

use Rattle.hash_core.proofs.Keeping.{marks_are_in_order}
use Rattle.hash_core.proofs.laws.marks_are_in_order.Goals as goal

pub returns : goal.returns
returns c = marks_are_in_order

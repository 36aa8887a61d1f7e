use Rattle.hash_core.proofs.Keeping.{front_counts}
use Rattle.hash_core.proofs.laws.front_counts.Goals as goal

pub returns : goal.returns
returns c = front_counts

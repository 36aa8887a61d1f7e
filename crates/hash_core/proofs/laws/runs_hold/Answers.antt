use Rattle.hash_core.proofs.Keeping.{runs_hold}
use Rattle.hash_core.proofs.laws.runs_hold.Goals as goal

pub returns : goal.returns
returns c = runs_hold

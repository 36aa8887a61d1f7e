use Rattle.tree_lift.proofs.Calls.{chains_meet}
use Rattle.tree_lift.proofs.laws.chains_meet_fronts.Goals as goal

pub returns : goal.returns
returns c = chains_meet

use Rattle.tree_run.proofs.Calls.{chains_meet}
use Rattle.tree_run.proofs.cookie_laws.chains_meet_fronts.Goals as goal

pub returns : goal.returns
returns c = chains_meet

use Rattle.class_hash.proofs.Trying.{chains_meet}
use Rattle.class_hash.proofs.client.chains_meet_fronts.Goals as goal

pub returns : goal.returns
returns c = chains_meet

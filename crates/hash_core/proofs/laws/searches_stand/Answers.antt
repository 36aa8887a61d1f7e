use Rattle.hash_core.proofs.Keeping.{searches_stand}
use Rattle.hash_core.proofs.laws.searches_stand.Goals as goal

pub returns : goal.returns
returns c = searches_stand

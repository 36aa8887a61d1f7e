use Rattle.exact_list.proofs.Walking.{pairs_one}
use Rattle.exact_list.proofs.laws.pairs_are_one.Goals as goal

pub returns : goal.returns
returns c = pairs_one

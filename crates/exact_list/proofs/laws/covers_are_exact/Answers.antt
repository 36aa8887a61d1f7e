use Rattle.exact_list.proofs.Walking.{covers_exact}
use Rattle.exact_list.proofs.laws.covers_are_exact.Goals as goal

pub returns : goal.returns
returns c = covers_exact

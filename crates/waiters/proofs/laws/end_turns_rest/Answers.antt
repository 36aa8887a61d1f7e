use Rattle.waiters.proofs.DomainPolls.{end_turns_rest}
use Rattle.waiters.proofs.laws.end_turns_rest.Goals as goal

pub returns : goal.returns
returns c = end_turns_rest

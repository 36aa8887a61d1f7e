use Rattle.waiters.proofs.DomainPolls.{wait_turns_each}
use Rattle.waiters.proofs.laws.wait_turns_each.Goals as goal

pub returns : goal.returns
returns c = wait_turns_each

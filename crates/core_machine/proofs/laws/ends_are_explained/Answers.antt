use Rattle.core_machine.proofs.Accounts.{ends_are_explained}
use Rattle.core_machine.proofs.laws.ends_are_explained.Goals as goal

pub returns : goal.returns
returns c = ends_are_explained

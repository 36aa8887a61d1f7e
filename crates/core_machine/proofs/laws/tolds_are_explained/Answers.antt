use Rattle.core_machine.proofs.Accounts.{tolds_are_explained}
use Rattle.core_machine.proofs.laws.tolds_are_explained.Goals as goal

pub returns : goal.returns
returns c = tolds_are_explained

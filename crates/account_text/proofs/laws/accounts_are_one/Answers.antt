use Rattle.account_text.proofs.Accounts.{accounts_are_one}
use Rattle.account_text.proofs.laws.accounts_are_one.Goals as goal

pub returns : goal.returns
returns c = accounts_are_one

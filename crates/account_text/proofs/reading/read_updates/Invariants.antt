use Rattle.std.proofs.Common.{◌≡◌, ℕ, ◌-◌, List, length}
use Rattle.prcu_model.specs.declared.operation.Update.{Update}
use Rattle.account_text.specs.Account.{TellsUpdates}
use Rattle.account_text.proofs.AccountTexts.{HasReadUpdates}
use Rattle.account_text.proofs.reading.read_updates.Given as goal

-- whichever updates the text begins with, some are read, and the rest begins with the others
abbrev pub invariant-loop-rest : goal.invariant-loop-rest
invariant-loop-rest l =
    (updates : List Update) (more : List (List ℕ)) → length updates ≡ l.count → TellsUpdates 1 l.initial.rest updates more
    → HasReadUpdates l.rest l.history.items updates more

abbrev pub decreases-loop-rest : goal.decreases-loop-rest
decreases-loop-rest l = l.count - length l.history.items

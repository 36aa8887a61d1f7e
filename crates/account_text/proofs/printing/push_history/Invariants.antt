use Rattle.std.proofs.Common.{◌≡◌, ◌+◌, ◌++◌, drop}
use Rattle.account_text.specs.Account.{history_from}
use Rattle.account_text.proofs.printing.push_history.Given as goal

-- the text so far and that of the updates that are left
abbrev pub invariant-loop-i : goal.invariant-loop-i
invariant-loop-i l =
    l.out.items ++ history_from (l.i + 1) (drop l.i l.history) ≡ l.initial.out.items ++ history_from 1 l.history

use Rattle.std.proofs.Common.{◌≡◌, ◌++◌, drop}
use Rattle.prcu_model.specs.Scripts.{entries_of}
use Rattle.account_text.specs.Account.{scripts_from}
use Rattle.account_text.proofs.printing.push_scripts.Given as goal

-- the text so far and that of the scripts that are left
abbrev pub invariant-loop-i : goal.invariant-loop-i
invariant-loop-i l =
    l.out.items ++ scripts_from l.i (entries_of (drop l.i l.scripts)) ≡ l.initial.out.items ++ scripts_from 0 (entries_of l.scripts)

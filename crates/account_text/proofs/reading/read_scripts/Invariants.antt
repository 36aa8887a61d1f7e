use Rattle.std.proofs.Common.{ℕ, List, drop}
use Rattle.prcu_model.specs.declared.operation.Line.{Line}
use Rattle.prcu_model.specs.Scripts.{entries_of}
use Rattle.account_text.specs.Account.{TellsScripts}
use Rattle.account_text.proofs.AccountTexts.{HasReadScripts}
use Rattle.account_text.proofs.reading.read_scripts.Given as goal

-- whichever scripts the text begins with, some are read, and the rest begins with the others
abbrev pub invariant-loop-i : goal.invariant-loop-i
invariant-loop-i l =
    (lines : List (List Line)) (more : List (List ℕ)) → TellsScripts 0 l.initial.rest l.scripts lines more
    → HasReadScripts l.i l.rest (drop l.i l.scripts) (entries_of l.told.items) lines more

use Rattle.std.proofs.Common.{◌≡◌, All, take}
use Rattle.prcu_model.specs.Scripts.{FitsWords}
use Rattle.script_text.specs.Grammar.{scripts_text}
use Rattle.script_text.proofs.printing.print.Given as goal

abbrev pub invariant-loop-i : goal.invariant-loop-i
invariant-loop-i l =
    record { text : l.text.items ≡ scripts_text (take l.i l.scripts); fits : All (All FitsWords) (take l.i l.scripts) }

use Rattle.std.proofs.Common.{ℕ, ◌<◌}
use Rattle.prcu_model.specs.Scripts.{entries_of}
use Rattle.account_text.specs.WrongLines.{IsScriptRight, course_of}
use Rattle.account_text.proofs.wrong_lines.first_wrong_line.Given as goal

-- the scripts so far are right
abbrev pub invariant-loop-i : goal.invariant-loop-i
invariant-loop-i l = (n : ℕ) → n < l.i → IsScriptRight (course_of l.scripts l.history l.slots) l.scripts (entries_of l.told) n

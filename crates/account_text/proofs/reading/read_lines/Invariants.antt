use Rattle.std.proofs.Common.{ℕ, ◌+◌, ◌≤◌, List, length, drop}
use Rattle.prcu_model.specs.declared.operation.Line.{Line}
use Rattle.account_text.specs.Account.{TellsScript}
use Rattle.account_text.proofs.AccountTexts.{HasRead}
use Rattle.account_text.proofs.reading.read_lines.Given as goal

-- whichever lines the text begins with, some are read, and the rest begins with the others
abbrev pub invariant-loop-op : goal.invariant-loop-op
invariant-loop-op l = record {
  room : length l.script ≤ l.told.spare + l.op-index;
  read : (lines : List Line) (more : List (List ℕ)) → TellsScript l.initial.rest l.script lines more
      → HasRead l.rest (drop l.op-index l.script) l.told.entries lines more;
}

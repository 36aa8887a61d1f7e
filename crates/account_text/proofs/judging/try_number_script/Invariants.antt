use Rattle.std.proofs.Common.{◌+◌, ◌≤◌, List, ◌++◌, ◌↔◌, length, drop}
use Rattle.prcu_model.specs.declared.operation.Line.{Line}
use Rattle.prcu_model.specs.Fronts.{CanBeNumbered, AreNumbered, told_lines}
use Rattle.account_text.proofs.JudgedScripts.{Can}
use Rattle.account_text.proofs.judging.try_number_script.Given as goal

-- the numbers so far are the least, and all lines can be numbered exactly where those that are left can be, after these
abbrev pub invariant-loop-op : goal.invariant-loop-op
invariant-loop-op l =
    let course = l.timeline in
    let left = told_lines (drop (length l.yielded) l.script) (drop (length l.yielded) l.told) in
    record {
      room : length l.script ≤ l.lines.spare + length l.yielded;
      same : Can course.room course.history l.before left ↔ CanBeNumbered course.room course.history (told_lines l.script l.told);
      numbered : (rest : List Line) → AreNumbered course.room course.history l.before left rest
          → AreNumbered course.room course.history 0 (told_lines l.script l.told) (l.lines.entries ++ rest);
    }

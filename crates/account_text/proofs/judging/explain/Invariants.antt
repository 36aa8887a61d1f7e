use Rattle.std.proofs.Common.{◌++◌, ◌↔◌, List}
use Rattle.prcu_model.specs.declared.operation.Line.{Line}
use Rattle.prcu_model.specs.Scripts.{entries_of}
use Rattle.prcu_model.specs.Fronts.{AllAreNumbered, all_told_lines}
use Rattle.account_text.proofs.JudgedScripts.{lines_left, AreAllExplained}
use Rattle.account_text.proofs.judging.explain.Given as goal
use Rattle.prcu_model.proofs.ListFacts.{SameLengths}

-- the scripts so far have their numbers, and all are explained exactly where those that are left are
abbrev pub invariant-loop-i : goal.invariant-loop-i
invariant-loop-i l =
    let course = l.timeline in
    let left = lines_left l.scripts l.told l.i in
    record {
      lengths : SameLengths l.scripts l.told l.i;
      same : AreAllExplained course.room course.history l.i left
          ↔ AreAllExplained course.room course.history 0 (all_told_lines l.scripts (entries_of l.told));
      numbered : (rest : List (List Line)) → AllAreNumbered course.room course.history left rest
          → AllAreNumbered course.room course.history (all_told_lines l.scripts (entries_of l.told)) (entries_of l.lists.items ++ rest);
    }

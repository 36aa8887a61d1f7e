use Rattle.std.proofs.Common.{◌≤◌, ◌↔◌, length, drop}
use Rattle.prcu_model.specs.Fronts.{own_updates, told_lines}
use Rattle.account_text.specs.Judging.{AreToldFrom}
use Rattle.account_text.proofs.judging.are_updates_told.Given as goal

-- all lines tell of the caller's updates exactly where those that are left tell of those that weren't passed
abbrev pub invariant-loop-op : goal.invariant-loop-op
invariant-loop-op l = record {
  few : l.passed ≤ length l.yielded;
  most : l.passed ≤ length (own_updates l.caller l.timeline.history);
  told : AreToldFrom l.timeline.history l.caller l.passed (told_lines (drop (length l.yielded) l.script) (drop (length l.yielded) l.told))
      ↔ AreToldFrom l.timeline.history l.caller 0 (told_lines l.script l.told);
}

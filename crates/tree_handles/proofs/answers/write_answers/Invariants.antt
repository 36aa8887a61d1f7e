use Rattle.std.proofs.Common.{◌≡◌, ◌≤◌, ◌++◌, length, map, take, drop}
use Rattle.tree_handles.specs.Lanes.{answer_of}
use Rattle.tree_handles.proofs.answers.write_answers.Given as goal

-- the first answers are written, and the rest is as it was
abbrev pub invariant-loop-i : goal.invariant-loop-i
invariant-loop-i l = record {
  few : l.i ≤ length l.found;
  written : l.answers ≡ map answer_of (take l.i l.found) ++ drop l.i l.fn.answers;
}

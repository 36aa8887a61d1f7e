use Rattle.std.proofs.Common.{◌≡◌, ◌≤◌}
use Rattle.tree_handles.specs.Calls.{Misses}
use Rattle.tree_handles.proofs.any_caller.AnyCaller.upsert.Given as goal

-- each round so far made no update
abbrev pub invariant-loop-round : goal.invariant-loop-round
invariant-loop-round l = record {
  few : l.round ≤ 1000;
  unwritten : l.old ≡ l.fn.old;
  missed : Misses l.fn.self l.key l.value l.round l.self;
}

use Rattle.std.proofs.Common.{◌≡◌, ◌≤◌, ◌++◌, length, map, take, drop}
use Rattle.tree_handles.specs.Lists.{pair_of}
use Rattle.tree_handles.proofs.lists.write_out.Given as goal

-- the first pairs are written, and the rest is as it was
abbrev pub invariant-loop-i : goal.invariant-loop-i
invariant-loop-i l = record {
  few : l.i ≤ length l.page.pairs;
  written : l.pairs ≡ map pair_of (take l.i l.page.pairs) ++ drop l.i l.fn.pairs;
}

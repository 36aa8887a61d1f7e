use Rattle.std.proofs.Common.{◌≡◌}
use Rattle.tree_tests.proofs.tree.run.Given as goal

-- the client is one of this table
abbrev pub invariant-loop-op : goal.invariant-loop-op
invariant-loop-op g l = l.client.table ≡ l.table

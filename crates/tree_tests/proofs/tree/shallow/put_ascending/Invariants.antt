use Rattle.std.proofs.Common.{◌≡◌}
use Rattle.tree_tests.proofs.tree.shallow.put_ascending.Given as goal

-- the client is one of this table
abbrev pub invariant-loop-key : goal.invariant-loop-key
invariant-loop-key g l = l.client.table ≡ l.table

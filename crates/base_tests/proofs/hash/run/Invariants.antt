use Rattle.std.proofs.Common.{◌≡◌}
use Rattle.base_tests.proofs.hash.run.Given as goal

-- the client is one of this table
abbrev pub invariant-loop-it : goal.invariant-loop-it
invariant-loop-it g l = l.client.table ≡ l.table

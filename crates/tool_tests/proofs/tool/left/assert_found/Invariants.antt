use Rattle.std.proofs.Common.{◌≡◌}
use Rattle.hash_core.specs.Steps.{IsQuiet}
use Rattle.tool_tests.proofs.tool.left.assert_found.Given as goal

abbrev pub invariant-loop-key : goal.invariant-loop-key
invariant-loop-key g l = (l.seat.table ≡ l.table.id) × IsQuiet l.seat.view

use Rattle.std.proofs.Common.{◌≡◌, None}
use Rattle.tree_benches.proofs.waits.work.wait.Given as goal

-- the seat is of this table, and in no section
abbrev pub invariant-loop : goal.invariant-loop
invariant-loop g l = (l.seat.table ≡ l.table) × (l.seat.view.section ≡ None)

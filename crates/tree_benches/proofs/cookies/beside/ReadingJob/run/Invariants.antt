use Rattle.std.proofs.Common.{◌≡◌, [], None}
use Rattle.tree_benches.proofs.cookies.beside.ReadingJob.run.Given as goal

-- the seat is of this table, in no section, and without locks
abbrev pub invariant-loop : goal.invariant-loop
invariant-loop g l = (l.seat.table ≡ l.table) × (l.seat.view.section ≡ None) × (l.seat.view.locks ≡ [])

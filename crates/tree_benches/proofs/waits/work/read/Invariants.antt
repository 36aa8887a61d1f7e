use Rattle.std.proofs.Common.{◌≡◌, [], None}
use Rattle.tree_benches.proofs.waits.work.read.Given as goal

-- the seat is of this table, in no section, and without locks
abbrev pub invariant-loop-key : goal.invariant-loop-key
invariant-loop-key g l = (l.seat.table ≡ l.table) × (l.seat.view.section ≡ None) × (l.seat.view.locks ≡ [])

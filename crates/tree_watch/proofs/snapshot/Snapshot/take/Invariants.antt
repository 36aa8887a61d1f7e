use Rattle.std.proofs.Common.{◌≡◌}
use Rattle.seat_table.specs.Seats.{IsQuietSeat}
use Rattle.tree_watch.specs.Snapshots.{OnlyLists}
use Rattle.tree_watch.proofs.snapshot.Snapshot.take.Given as goal

-- lists that were tried changed nothing
abbrev pub invariant-loop : goal.invariant-loop
invariant-loop g l = (l.seat.table ≡ l.fn.seat.table) × IsQuietSeat l.seat × OnlyLists l.fn.seat.view l.seat.view
    × (l.self-inside.page.capacity ≡ 4096)

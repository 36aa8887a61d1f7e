use Rattle.std.proofs.Common.{◌≡◌, ◌+◌}
use Rattle.node_slots.specs.Taking.{HasScanned, MissesNoted}
use Rattle.node_slots.proofs.taking.seize_noted.Given as goal

abbrev pub invariant-loop-i : goal.invariant-loop-i
invariant-loop-i g l = record {
  table : l.seat.table ≡ l.fn.seat.table;
  listed : l.seat.listed ≡ l.fn.seat.listed;
  scanned : HasScanned l.fn.seat.view l.seat.view;
  misses : MissesNoted (l.table.slots + l.table.places) l.fn.seat.view l.fn.seat.looked l.i l.seat.view l.seat.looked;
}

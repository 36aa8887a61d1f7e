use Rattle.std.proofs.Common.{◌≡◌, ◌+◌, ◌≤◌, length}
use Rattle.node_slots.specs.Taking.{HasScanned, MissesInRound}
use Rattle.node_slots.proofs.taking.scan.Given as goal

abbrev pub invariant-loop-round : goal.invariant-loop-round
invariant-loop-round g l = record {
  table : l.seat.table ≡ l.fn.seat.table;
  listed : l.seat.listed ≡ l.fn.seat.listed;
  scanned : HasScanned l.fn.seat.view l.seat.view;
  misses : MissesInRound (l.table.slots + l.table.places) l.fn.seat.view l.fn.seat.looked l.seat.view l.seat.looked;
  made : l.round ≤ length l.seat.view.trail.steps;
}

use Rattle.std.proofs.Common.{◌≡◌, ℕ, length}
use Rattle.seat_table.specs.Seats.{IsQuietSeat}
use Rattle.client_run.specs.Crews.{AreReadyFor}
use Rattle.tree_tests.proofs.tree.lifted.crew.Given as goal

abbrev pub invariant-loop-i : goal.invariant-loop-i
invariant-loop-i g l = record {
  table : l.rest.table ≡ l.table;
  quiet : IsQuietSeat l.rest;
  many : length l.workers.items ≡ l.i;
  ready : AreReadyFor (λ (client : ℕ). client) l.workers.items l.scripts;
}

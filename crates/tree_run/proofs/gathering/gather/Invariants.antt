use Rattle.std.proofs.Common.{◌≡◌, ◌+◌, ◌≤◌, length, vec_len, vec_capacity}
use Rattle.client_run.specs.Crews.{IsGathered}
use Rattle.seat_table.specs.Seats.{IsQuietSeat}
use Rattle.tree_run.specs.Runs.{StandsFor}
use Rattle.tree_run.proofs.gathering.gather.Given as goal

-- the seats of the workers that have gone are one
abbrev pub invariant-loop-seat : goal.invariant-loop-seat
invariant-loop-seat g l = record {
  gathered : IsGathered StandsFor l.fn.workers.items l.rest.items l.fn.told.items l.told.items l.seat;
  of_table : l.seat.table ≡ l.table;
  quiet : IsQuietSeat l.seat;
  room : vec_len l.told + vec_len l.rest ≤ vec_capacity l.told;
}

abbrev pub decreases-loop-seat : goal.decreases-loop-seat
decreases-loop-seat g l = length l.rest.items

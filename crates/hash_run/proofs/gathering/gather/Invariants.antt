use Rattle.std.proofs.Common.{◌≡◌, ◌+◌, ◌≤◌, length, vec_len, vec_capacity}
use Rattle.client_run.specs.Crews.{IsGathered}
use Rattle.hash_core.specs.Steps.{IsQuiet}
use Rattle.hash_run.specs.Crews.{StandsFor}
use Rattle.hash_run.proofs.gathering.gather.Given as goal

abbrev pub invariant-loop-seat : goal.invariant-loop-seat
invariant-loop-seat g l = record {
  of_table : l.seat.table ≡ l.table.id;
  quiet : IsQuiet l.seat.view;
  gathered : IsGathered (StandsFor l.table) l.fn.workers.items l.rest.items l.fn.told.items l.told.items l.seat.view;
  room : vec_len l.told + vec_len l.rest ≤ vec_capacity l.told;
}

abbrev pub decreases-loop-seat : goal.decreases-loop-seat
decreases-loop-seat g l = length l.rest.items

use Rattle.std.proofs.Common.{◌≡◌, ◌-◌, drop, length}
use Rattle.prcu_model.specs.Scripts.{op_count}
use Rattle.client_run.specs.Crews.{AreHired}
use Rattle.seat_table.specs.Seats.{IsQuietSeat}
use Rattle.tree_run.specs.Runs.{run_with, seat_for, client_for, tickets_for}
use Rattle.tree_run.proofs.crew.hire.Given as goal

-- the scripts so far have their workers, and the other places and tickets are those of the scripts that are left
abbrev pub invariant-loop-i : goal.invariant-loop-i
invariant-loop-i g l = record {
  hired : AreHired (client_for (run_with g.W.WaitWords.WAY l.cookies) l.table) l.scripts l.i l.workers.items;
  quiet : IsQuietSeat l.rest;
  left : l.rest ≡ seat_for l.table l.i (length l.scripts - l.i) (tickets_for l.cookies (op_count (drop l.i l.scripts)));
}

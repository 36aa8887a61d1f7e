use Rattle.std.proofs.Common.{◌≡◌, ◌-◌, drop, length}
use Rattle.prcu_model.specs.Scripts.{op_count}
use Rattle.client_run.specs.Crews.{AreHired}
use Rattle.hash_run.specs.Crews.{idle_view, client_for}
use Rattle.hash_run.proofs.crew.hire.Given as goal

-- the scripts so far have their workers, and the other places and tickets are those of the scripts that are left
abbrev pub invariant-loop-i : goal.invariant-loop-i
invariant-loop-i g l = record {
  hired : AreHired (client_for l.table) l.scripts l.i l.workers.items;
  of_table : l.rest.table ≡ l.table.id;
  left : l.rest.view ≡ idle_view l.i (length l.scripts - l.i) (op_count (drop l.i l.scripts));
}

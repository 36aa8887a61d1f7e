use Rattle.std.proofs.Common.{◌≡◌, ◌+◌, length}
use Rattle.client_run.proofs.Histories.{all_left}
use Rattle.client_run.proofs.merging.count_updates.Given as goal
use Rattle.prcu_model.proofs.ListFacts.{SameLengths}

-- those counted and those left are all
abbrev pub invariant-loop-list : goal.invariant-loop-list
invariant-loop-list l = record {
  lengths : SameLengths l.scripts l.told l.list-index;
  counted : l.count + length (all_left l.scripts l.told l.list-index) ≡ length (all_left l.scripts l.told 0);
}

use Rattle.std.proofs.Common.{◌≡◌, length}
use Rattle.client_run.specs.Crews.{stored, AreInside}
use Rattle.client_run.proofs.Histories.{all_left}
use Rattle.client_run.proofs.merging.store_all.Given as goal
use Rattle.prcu_model.proofs.ListFacts.{SameLengths}

-- storing those that are left gives the whole
abbrev pub invariant-loop-i : goal.invariant-loop-i
invariant-loop-i l = record {
  lengths : SameLengths l.scripts l.told l.i;
  inside : AreInside (length l.history) (all_left l.scripts l.told l.i);
  stored : stored l.history (all_left l.scripts l.told l.i) ≡ stored l.fn.history (all_left l.scripts l.told 0);
}

use Rattle.std.proofs.Common.{◌≡◌, length}
use Rattle.prcu_model.specs.Fronts.{told_lines}
use Rattle.client_run.specs.Crews.{numbered_updates, stored, AreInside}
use Rattle.client_run.proofs.Histories.{own_left}
use Rattle.client_run.proofs.merging.store_script.Given as goal

-- storing those that are left gives the whole
abbrev pub invariant-loop-op : goal.invariant-loop-op
invariant-loop-op l = record {
  inside : AreInside (length l.history) (own_left l.caller l.script l.told (length l.yielded));
  stored : stored l.history (own_left l.caller l.script l.told (length l.yielded))
      ≡ stored l.fn.history (numbered_updates l.caller (told_lines l.script l.told));
}

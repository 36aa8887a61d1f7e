use Rattle.std.proofs.Common.{◌≡◌, map, take}
use Rattle.prcu_model.specs.Scripts.{entries_of}
use Rattle.core_points.specs.Programs.{Own}
use Rattle.core_machine.proofs.scheduling.tolds_of.Given as goal

-- the first callers' lists are made
abbrev pub invariant-loop-caller : goal.invariant-loop-caller
invariant-loop-caller l = entries_of l.told.items ≡ map (λ (own : Own). own.told) (take l.caller l.machine.owns)

use Rattle.std.specs.Prelude.{length}
use Rattle.core_machine.proofs.Making.{HasMade}
use Rattle.core_machine.proofs.machine.make_callers.Given as goal

abbrev pub invariant-loop-place : goal.invariant-loop-place
invariant-loop-place l = HasMade l.scripts l.slots (length l.scripts) l.callers.items l.place

use Rattle.core_machine.proofs.Making.{IsRunning}
use Rattle.core_machine.proofs.machine.Machine.run.Given as goal

abbrev pub invariant-loop : goal.invariant-loop
invariant-loop g l = IsRunning l.fn.self l.fn.number l.state l.left.items l.self

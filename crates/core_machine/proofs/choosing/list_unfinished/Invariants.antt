use Rattle.core_machine.proofs.Making.{HasListed}
use Rattle.core_machine.proofs.choosing.list_unfinished.Given as goal

abbrev pub invariant-loop-i : goal.invariant-loop-i
invariant-loop-i l = HasListed l.callers l.i l.left.items

use Rattle.workload.specs.Draws.{made_script}
use Rattle.workload.proofs.MadeRuns.{HasBegun}
use Rattle.workload.proofs.making.add_made.Given as goal

abbrev pub invariant-loop : goal.invariant-loop
invariant-loop l = HasBegun l.fn.made l.made l.script l.state l.counter l.ops (made_script l.number l.ops l.script)

use Rattle.std.proofs.Common.{◌≡◌}
use Rattle.workload.specs.Draws.{made_scripts}
use Rattle.workload.proofs.making.make.Given as goal

abbrev pub invariant-loop : goal.invariant-loop
invariant-loop l = l.made ≡ made_scripts l.number l.counter l.ops

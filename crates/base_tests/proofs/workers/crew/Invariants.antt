use Rattle.std.proofs.Common.{◌≡◌, length}
use Rattle.client_run.specs.Crews.{AreReadyFor}
use Rattle.base_tests.proofs.workers.crew.Given as goal

abbrev pub invariant-loop-i : goal.invariant-loop-i
invariant-loop-i l = record {
  many : length l.workers.items ≡ l.i;
  ready : AreReadyFor (λ clerk. clerk.left) l.workers.items l.scripts;
}

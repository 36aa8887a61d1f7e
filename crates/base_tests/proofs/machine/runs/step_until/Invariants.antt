use Rattle.std.specs.Prelude.{◌≡◌, length}
use Rattle.base_tests.proofs.machine.runs.step_until.Given as goal

abbrev pub invariant-loop : goal.invariant-loop
invariant-loop l = length l.machine.owns ≡ length l.fn.machine.owns

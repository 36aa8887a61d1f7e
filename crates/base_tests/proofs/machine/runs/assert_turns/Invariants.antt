use Rattle.std.specs.Prelude.{◌≡◌, length}
use Rattle.base_tests.proofs.machine.runs.assert_turns.Given as goal

abbrev pub invariant-loop-place : goal.invariant-loop-place
invariant-loop-place g l = length l.machine.owns ≡ 2

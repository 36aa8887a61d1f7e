use Rattle.std.proofs.Common.{◌≡◌, ◌+◌, ◌≤◌, length, take}
use Rattle.base_tests.proofs.workers.told_list.Given as goal

abbrev pub invariant-loop-told : goal.invariant-loop-told
invariant-loop-told l = (l.list.entries ≡ take l.told-index l.answers) × (length l.answers ≤ l.list.spare + l.told-index)

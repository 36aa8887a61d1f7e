use Rattle.std.proofs.Common.{◌≡◌, ◌≤◌, ◌++◌, length, drop}
use Rattle.core_machine.proofs.scheduling.list_of.Given as goal

-- the answers so far and those that are left are all, and there is room for those that are left
abbrev pub invariant-loop-answer : goal.invariant-loop-answer
invariant-loop-answer l = (l.list.entries ++ drop l.answer-index l.answers ≡ l.answers)
    × (length (drop l.answer-index l.answers) ≤ l.list.spare)

use Rattle.std.proofs.Common.{◌≡◌, ◌↔◌, length, map}
use Rattle.prcu_model.specs.Scripts.{entries_of}
use Rattle.account_text.proofs.judging.are_all_answered.Given as goal
use Rattle.prcu_model.proofs.ListFacts.{SameLengths}

-- all scripts are answered exactly where those that are left are
abbrev pub invariant-loop-i : goal.invariant-loop-i
invariant-loop-i l = SameLengths l.scripts l.told l.i ↔ (map length (entries_of l.told) ≡ map length l.scripts)

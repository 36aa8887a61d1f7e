use Rattle.std.proofs.Common.{ℕ, ◌<◌, get_or}
use Rattle.account_text.specs.Judging.{IsFilled}
use Rattle.account_text.proofs.timeline.first_filled.Given as goal

-- none so far fills the slots
abbrev pub invariant-loop-i : goal.invariant-loop-i
invariant-loop-i l = (k : ℕ) → k < l.i → IsFilled (record { scripts = l.scripts; slots = l.slots }) (get_or l.sizes k 0) → ⊥

use Rattle.std.proofs.Common.{◌≡◌, ℕ, ◌<◌, get_or}
use Rattle.account_text.specs.declared.key_index.Change.{Change}
use Rattle.account_text.specs.Judging.{IsShown}
use Rattle.account_text.proofs.timeline.first_shown.Given as goal

-- those so far are at the key, and don't show the reply
abbrev pub invariant-loop-change : goal.invariant-loop-change
invariant-loop-change l =
    (i : ℕ) (none : Change) → i < l.change-index → ((get_or l.changes i none).key ≡ l.key)
    × (IsShown l.op l.reply (get_or l.changes i none).value → ⊥)

use Rattle.std.proofs.Common.{◌≡◌, ℕ, ◌<◌, length, get_or, take}
use Rattle.prcu_model.specs.declared.operation.Update.{Update}
use Rattle.account_text.specs.Judging.{own_count}
use Rattle.account_text.proofs.turns.Turns.new.Given as goal

-- the updates so far are counted
abbrev pub invariant-loop-update : goal.invariant-loop-update
invariant-loop-update l = record {
  callers : length l.counts.items ≡ l.callers;
  all : length l.turns.items ≡ l.update-index;
  turn : (i : ℕ) (none : Update) → i < l.update-index
      → get_or l.turns.items i 0 ≡ own_count (get_or l.history i none).caller (take i l.history);
  count : (caller : ℕ) → caller < l.callers → get_or l.counts.items caller 0 ≡ own_count caller (take l.update-index l.history);
}

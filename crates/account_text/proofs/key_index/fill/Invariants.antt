use Rattle.std.proofs.Common.{◌≡◌, ℕ, ◌+◌, ◌-◌, ◌<◌, ◌≤◌, length, get_or}
use Rattle.account_text.proofs.key_index.fill.Given as goal

-- the list has as many numbers as were counted: the first ones are as they were, and the others are this one
abbrev pub invariant-loop : goal.invariant-loop
invariant-loop l = record {
  long : length l.starts.items ≡ l.counter;
  above : length l.initial.starts.items ≤ l.counter;
  within : l.counter ≤ length l.initial.starts.items + (l.count - length l.initial.starts.items);
  kept : (i : ℕ) → i < length l.initial.starts.items → get_or l.starts.items i 0 ≡ get_or l.initial.starts.items i 0;
  filled : (i : ℕ) → length l.initial.starts.items ≤ i → i < length l.starts.items → get_or l.starts.items i 0 ≡ l.start;
}

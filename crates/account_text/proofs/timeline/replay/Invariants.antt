use Rattle.std.proofs.Common.{◌≡◌, ℕ, ◌+◌, ◌≤◌, ◌↔◌, true, false, length, get_or, drop}
use Rattle.std.specs.FinMap as map
use Rattle.std.specs.List.{All}
use Rattle.prcu_model.specs.Dictionary.{map_at, IsLegal, AreUpdatesFrom}
use Rattle.account_text.specs.Judging.{IsChangeOf, AreAllChanged}
use Rattle.account_text.proofs.timeline.replay.Given as goal

-- the map is the dictionary at this front, the lists are right so far, and the history is legal exactly where those so far were updates
-- and those that are left are
abbrev pub invariant-loop-i : goal.invariant-loop-i
invariant-loop-i l = record {
  here : l.map ≡ map_at l.history l.i;
  fronts : length l.sizes.items ≡ l.i + 1;
  size : (front : ℕ) → front ≤ l.i → get_or l.sizes.items front 0 ≡ map.len (map_at l.history front);
  right : All (IsChangeOf l.history) l.changes.items;
  whole : AreAllChanged l.changes.items l.i;
  still : l.legal ≡ true → AreUpdatesFrom l.map (drop l.i l.history) ↔ IsLegal l.history;
  broken : l.legal ≡ false → IsLegal l.history → ⊥;
}

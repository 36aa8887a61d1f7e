use Rattle.std.proofs.Common.{◌≡◌, ℕ, ◌<◌, ◌≤◌}
use mathlib.Core.Option.{some}
use lib.ListN.{get_elem?}
use Rattle.list_laws.specs.Counts.{Each}
use Rattle.seat_table.specs.Seats.{SeatAt}
use Rattle.many_gets.specs.declared.lane.Lane.{Lane}
use Rattle.many_gets.specs.Many.{IsAt, AreKept}
use Rattle.many_gets.proofs.many.enter_all.Given as goal

-- the first lanes have begun, and the other seats are as they were
abbrev pub invariant-loop-n : goal.invariant-loop-n
invariant-loop-n g l = record {
  tables : Each l.seats (λ (s : SeatAt). s.table ≡ l.table);
  kept : AreKept l.fn.seats l.seats;
  untouched : (i : ℕ) (s : SeatAt) → l.n ≤ i → get_elem? l.seats i ≡ some s → get_elem? l.fn.seats i ≡ some s;
  begun : (i : ℕ) (s : SeatAt) (lane : Lane) (t : SeatAt) → i < l.n → get_elem? l.fn.seats i ≡ some s → get_elem? l.lanes i ≡ some lane
      → get_elem? l.seats i ≡ some t → (lane.index ≡ i) × IsAt g.W.WaitWords.WAY l.table l.keys i s lane t;
}

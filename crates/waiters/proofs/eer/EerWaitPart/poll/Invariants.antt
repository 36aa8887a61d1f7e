use Rattle.std.proofs.Common.{◌≡◌}
use Rattle.seat_table.specs.Seats.{shape_of}
use Rattle.seat_table.specs.Looks.{LooksAt, IsOnward, FindsNone}
use Rattle.seat_table.specs.Waits.{IsGoingOn, reached}
use Rattle.waiters.proofs.EerPlaces.{at_place}
use Rattle.waiters.proofs.eer.EerWaitPart.poll.Given as goal

abbrev pub invariant-loop-place : goal.invariant-loop-place
invariant-loop-place l = record {
  table : l.seat.table ≡ l.fn.seat.table;
  listed : l.seat.listed ≡ l.fn.seat.listed;
  keys : l.grace.keys ≡ l.fn.grace.keys;
  clock : l.grace.clock ≡ l.fn.grace.clock;
  going : IsGoingOn (shape_of 0 l.table) l.fn.seat.view (at_place l.grace l.place) l.seat.view;
  clear : FindsNone l.fn.grace.keys l.fn.grace.clock l.fn.seat.view l.seat.view;
  looks : LooksAt (IsOnward (reached l.fn.grace)) l.fn.seat.view l.seat.view;
}

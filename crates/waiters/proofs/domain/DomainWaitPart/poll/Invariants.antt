use Rattle.std.proofs.Common.{◌≡◌}
use Rattle.seat_table.specs.Seats.{shape_of}
use Rattle.seat_table.specs.Looks.{LooksAt, IsOnward, IsLater, FindsNone}
use Rattle.seat_table.specs.Waits.{IsGoingOn, reached}
use Rattle.waiters.proofs.domain.DomainWaitPart.poll.Given as goal

abbrev pub invariant-loop : goal.invariant-loop
invariant-loop l = record {
  table : l.seat.table ≡ l.fn.seat.table;
  listed : l.seat.listed ≡ l.fn.seat.listed;
  keys : l.grace.keys ≡ l.fn.grace.keys;
  clock : l.grace.clock ≡ l.fn.grace.clock;
  class : l.grace.class ≡ l.counter;
  going : IsGoingOn (shape_of 1 l.table) l.fn.seat.view l.grace l.seat.view;
  clear : FindsNone l.fn.grace.keys l.fn.grace.clock l.fn.seat.view l.seat.view;
  looks : LooksAt (IsOnward (reached l.fn.grace)) l.fn.seat.view l.seat.view;
  later : IsLater (reached l.fn.grace) (reached l.grace);
}

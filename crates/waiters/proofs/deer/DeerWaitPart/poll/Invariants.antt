use Rattle.std.proofs.Common.{◌≡◌, ◌<◌, ◌≤◌, ◌⊎◌}
use Rattle.seat_table.specs.Seats.{shape_of}
use Rattle.seat_table.specs.Looks.{LooksAt, FindsNone}
use Rattle.seat_table.specs.Waits.{IsGoingOn}
use Rattle.waiters.specs.Classes.{IsRowFrom}
use Rattle.waiters.proofs.deer.DeerWaitPart.poll.Given as goal

abbrev pub invariant-loop : goal.invariant-loop
invariant-loop l = record {
  table : l.seat.table ≡ l.fn.seat.table;
  listed : l.seat.listed ≡ l.fn.seat.listed;
  keys : l.grace.keys ≡ l.fn.grace.keys;
  clock : l.grace.clock ≡ l.fn.grace.clock;
  place : l.grace.place ≡ l.counter;
  going : IsGoingOn (shape_of 2 l.table) l.fn.seat.view l.grace l.seat.view;
  clear : FindsNone l.fn.grace.keys l.fn.grace.clock l.fn.seat.view l.seat.view;
  looks : l.fn.grace.class ≤ l.image.last → LooksAt (IsRowFrom l.fn.grace.place l.fn.grace.class) l.fn.seat.view l.seat.view;
  come : ((l.fn.grace.place ≡ l.grace.place) × (l.fn.grace.class ≡ l.grace.class))
      ⊎ ((l.fn.grace.place < l.grace.place) × (l.grace.class ≡ 0));
}

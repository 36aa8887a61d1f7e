use Rattle.std.proofs.Common.{◌≡◌}
use Rattle.seat_table.specs.Seats.{shape_of}
use Rattle.seat_table.specs.Looks.{FindsNone, LooksAt}
use Rattle.seat_table.specs.Waits.{IsGoingOn}
use Rattle.waiters.specs.Classes.{IsRowFrom, StaysAtPlace}
use Rattle.waiters.proofs.deer.pass.Given as goal

abbrev pub invariant-loop-class : goal.invariant-loop-class
invariant-loop-class l = record {
  table : l.seat.table ≡ l.fn.seat.table;
  listed : l.seat.listed ≡ l.fn.seat.listed;
  stays : StaysAtPlace l.fn.grace l.grace;
  class : l.grace.class ≡ l.class;
  going : IsGoingOn (shape_of 2 l.table) l.fn.seat.view l.grace l.seat.view;
  clear : FindsNone l.fn.grace.keys l.fn.grace.clock l.fn.seat.view l.seat.view;
  looks : LooksAt (IsRowFrom l.fn.grace.place l.fn.grace.class) l.fn.seat.view l.seat.view;
}

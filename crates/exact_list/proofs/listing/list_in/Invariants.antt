use Rattle.std.proofs.Common.{◌≡◌, ◌≤◌, List}
use Rattle.exact_list.specs.Tries.{HoldsTo, IsRecent, EndAs, Try, HasTried}
use Rattle.exact_list.proofs.listing.list_in.Given as goal

abbrev pub invariant-loop-tried : goal.invariant-loop-tried
invariant-loop-tried g l = record {
  table : l.seat.table ≡ l.fn.seat.table;
  listed : l.seat.listed ≡ l.fn.seat.listed;
  capacity : l.page.capacity ≡ l.fn.page.capacity;
  few : l.tried ≤ l.tries;
  tried : (made : List Try) × HasTried l.fn.seat.view l.keys.low made l.seat.view × EndAs l.listed l.tried made;
  holds : HoldsTo g.D.Direction.SIDE l.listed l.keys l.seat.view.seen l.page;
  recent : IsRecent l.listed l.fn.seat.view.seen l.seat.view.seen;
}

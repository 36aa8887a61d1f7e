use Rattle.std.proofs.Common.{◌≡◌, ◌≤◌}
use Rattle.exact_list.proofs.Trying.{HasFailed}
use Rattle.exact_list.proofs.nearest.nearest_always.Given as goal

abbrev pub invariant-loop-tried : goal.invariant-loop-tried
invariant-loop-tried g l = record {
  table : l.seat.table ≡ l.fn.seat.table;
  listed : l.seat.listed ≡ l.fn.seat.listed;
  few : l.tried ≤ l.tries;
  failed : HasFailed l.fn.seat.view l.from l.tried l.seat.view;
}

use Rattle.std.proofs.Common.{◌≡◌}
use Rattle.seat_table.specs.Seats.{IsQuietSeat, shape_of}
use Rattle.tree_run.specs.Clients.{IsGood}
use Rattle.tree_run.proofs.Calls.{AsksSince}
use Rattle.tree_run.proofs.settling.ask_until_none.Given as goal

abbrev pub invariant-loop : goal.invariant-loop
invariant-loop g l =
    (l.seat.table ≡ l.fn.seat.table) × IsQuietSeat l.seat × IsGood (shape_of g.W.WaitWords.WAY l.fn.table) l.seat l.held
    × AsksSince (shape_of g.W.WaitWords.WAY l.fn.table) l.fn.cookie l.fn.seat l.held l.seat

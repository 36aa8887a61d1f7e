use Rattle.std.proofs.Common.{sym, subst}
use Rattle.seat_table.specs.Seats.{SeatAt, shape_of}
use Rattle.citrus_tree.specs.declared.search.End.{End}
use Rattle.citrus_tree.specs.Hops.{Finishes}
use Rattle.citrus_tree.proofs.Searching.{found_finished, at_ended}
use Rattle.citrus_tree.proofs.search.Search.finish.Goals as goal
use Rattle.citrus_tree.proofs.search.Search.finish.Goals.{in-Found, in-Ended}

pub returns-clause-finished : goal.returns-clause-finished
returns-clause-finished g c v stands = elim c.match-last.branch [
  | in-Found w ↦ subst (λ (z : End × SeatAt). Finishes v c.args.self.key z.0 z.1.view) (λ i. (sym w.result-is i, sym w.seat-is i))
      (found_finished
      (shape_of g.W.WaitWords.WAY c.args.self.table.now) c.args.self.key c.args.self.last c.args.self.slot c.args.self.side
      c.args.self.seat.now.view w.in-Found.slot w.in-Found.is w.search_load-value.result w.search_load-value.new.seat.view
      w.search_load-value.ensures.told v stands w.leave.new.seat.view w.leave.ensures.left)
  | in-Ended w ↦ subst (λ (z : End × SeatAt). Finishes v c.args.self.key z.0 z.1.view) (λ i. (sym w.result-is i, sym w.seat-is i))
      (w.leave_with_spot.ensures.looked v c.args.self.key
      (at_ended (shape_of g.W.WaitWords.WAY c.args.self.table.now) c.args.self.key c.args.self.last c.args.self.slot c.args.self.side
      c.args.self.seat.now.view w.in-Ended.slot w.in-Ended.side w.in-Ended.is v stands))
]

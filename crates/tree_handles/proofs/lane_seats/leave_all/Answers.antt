use Rattle.std.proofs.Common.{◌≡◌}
use Rattle.seat_table.specs.Seats.{SeatAt, IsQuietSeat}
use Rattle.tree_handles.proofs.LaneLists.{each_left, each_taken}
use Rattle.tree_handles.proofs.lane_seats.leave_all.Goals as goal

pub leave-requires-clause-table : goal.leave-requires-clause-table
leave-requires-clause-table g c = each_taken (λ (s : SeatAt). s.table ≡ c.args.shared.now) c.loop-at.seats.items c.pop.new.self.items c.pop.result
    c.in-Some.seat c.pop.ensures.items c.in-Some.is c.loop-at.invariant.tables

pub leave-requires-clause-quiet : goal.leave-requires-clause-quiet
leave-requires-clause-quiet g c = each_taken IsQuietSeat c.loop-at.seats.items c.pop.new.self.items c.pop.result c.in-Some.seat
    c.pop.ensures.items c.in-Some.is c.loop-at.invariant.quiet

pub loop-at-preserved : goal.loop-at-preserved
loop-at-preserved g c = record {
  tables = each_left (λ (s : SeatAt). s.table ≡ c.args.shared.now) c.loop-at.seats.items c.pop.new.self.items c.pop.result c.pop.ensures.items
      c.loop-at.invariant.tables;
  quiet = each_left IsQuietSeat c.loop-at.seats.items c.pop.new.self.items c.pop.result c.pop.ensures.items c.loop-at.invariant.quiet;
}

use Rattle.tree_handles.proofs.lane_seats.LaneSeats.drop.Goals as goal

pub leave_all-requires-clause-quiet : goal.leave_all-requires-clause-quiet
leave_all-requires-clause-quiet g c = c.self.invariant.1

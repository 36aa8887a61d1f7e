use Rattle.std.proofs.Common.{inl, subst}
use Rattle.seat_table.specs.Seats.{shape_of}
use Rattle.tree_lift.specs.Ways.{Comes}
use Rattle.tree_lift.proofs.finding.find_inside.Goals as goal

pub returns-in_default-clause-finds : goal.returns-in_default-clause-finds
returns-in_default-clause-finds g c = λ v e.
    let came = subst (λ o. Comes (shape_of g.W.WaitWords.WAY c.args.table.now) v c.args.key c.args.salt o c.find_crossing.new.seat.view)
    c.in_default.is (c.find_crossing.ensures.comes v e) in
    (came.0, came.1, inl came.2)

pub record_turn-requires-clause-crossing : goal.record_turn-requires-clause-crossing
record_turn-requires-clause-crossing g c =
    let q = c.requires.entered in
    let came = subst (λ o. Comes (shape_of g.W.WaitWords.WAY c.args.table.now) q.0 c.args.key c.args.salt o c.find_crossing.new.seat.view)
    c.in-Some.is (c.find_crossing.ensures.comes q.0 q.1) in
    (q.0, c.args.key, c.args.salt, came.0, came.1, came.2)

pub returns-clause-finds : goal.returns-clause-finds
returns-clause-finds g c = λ v e.
    let came = subst (λ o. Comes (shape_of g.W.WaitWords.WAY c.args.table.now) v c.args.key c.args.salt o c.find_crossing.new.seat.view)
    c.in-Some.is (c.find_crossing.ensures.comes v e) in
    c.record_turn.ensures.finds v c.args.key c.args.salt came.0 came.1 came.2

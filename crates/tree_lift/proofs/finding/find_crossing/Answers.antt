use Rattle.std.proofs.Common.{sym, subst, ◌∙◌, arith}
use Rattle.seat_table.specs.Seats.{shape_of}
use Rattle.tree_lift.specs.Ways.{IsReading, Starts, after_step}
use Rattle.tree_lift.proofs.Ways.{stands_by, level_end, level_found, goes_below, crosses}
use Rattle.tree_lift.proofs.finding.find_crossing.Goals as goal

pub returns-in_default-clause-comes : goal.returns-in_default-clause-comes
returns-in_default-clause-comes g c = λ v e.
    subst (λ o. Starts (shape_of g.W.WaitWords.WAY c.args.table.now) v c.args.key c.args.salt o c.first_stand.new.seat.view)
    c.in_default.is (c.first_stand.ensures.starts v c.args.salt e)

pub loop-child-init : goal.loop-child-init
loop-child-init g c = record {
  table = c.first_stand.ensures.seat.0;
  listed = c.first_stand.ensures.seat.1;
  stands = λ v e.
      subst (λ o. Starts (shape_of g.W.WaitWords.WAY c.args.table.now) v c.args.key c.args.salt o c.first_stand.new.seat.view)
      c.in-Some.is (c.first_stand.ensures.starts v c.args.salt e);
}

pub go_down-requires-clause-slot : goal.go_down-requires-clause-slot
go_down-requires-clause-slot g c =
    let q = c.requires.entered in
    (c.loop-child.invariant.stands q.0 q.1).2.node_slot

pub go_down-requires-clause-reading : goal.go_down-requires-clause-reading
go_down-requires-clause-reading g c =
    let q = c.requires.entered in
    let at = c.loop-child.invariant.stands q.0 q.1 in (
      q.0,
      c.args.key,
      at.0,
      at.1,
      stands_by (shape_of g.W.WaitWords.WAY c.args.table.now) c.args.key c.args.salt c.loop-child.at at.0 at.2,
    )

pub returns-in_default-go_down-clause-comes : goal.returns-in_default-go_down-clause-comes
returns-in_default-go_down-clause-comes g c = λ v e.
    let at = c.loop-child.invariant.stands v e in (
      _,
      subst (λ o. IsReading v c.args.key (after_step at.0 c.loop-child.at.node c.loop-child.at.turn o) c.go_down.new.seat.view) c.in_default-go_down.is
          (c.go_down.ensures.reading v c.args.key at.0 at.1),
      level_end (shape_of g.W.WaitWords.WAY c.args.table.now) c.args.key c.args.salt c.loop-child.at at.0 at.2,
    )

pub returns-then-rises_above-clause-comes : goal.returns-then-rises_above-clause-comes
returns-then-rises_above-clause-comes g c = λ v e.
    let at = c.loop-child.invariant.stands v e in
    let child = c.in-Some-go_down.child in
    let slot = c.in-Some-go_down.ensures.slot in (
      _,
      subst (λ o. IsReading v c.args.key (after_step at.0 c.loop-child.at.node c.loop-child.at.turn o) c.go_down.new.seat.view) c.in-Some-go_down.is
          (c.go_down.ensures.reading v c.args.key at.0 at.1),
      crosses (shape_of g.W.WaitWords.WAY c.args.table.now) c.args.key c.args.salt c.loop-child.at at.0 at.2 child slot.0 slot.1
          (sym c.rises_above.ensures ∙ c.if-rises_above.true),
    )

pub returns-in_default-step_side-clause-comes : goal.returns-in_default-step_side-clause-comes
returns-in_default-step_side-clause-comes g c = λ v e.
    let at = c.loop-child.invariant.stands v e in
    let child = c.in-Some-go_down.child in
    let slot = c.in-Some-go_down.ensures.slot in (
      _,
      subst (λ o. IsReading v c.args.key (after_step at.0 c.loop-child.at.node c.loop-child.at.turn o) c.go_down.new.seat.view) c.in-Some-go_down.is
          (c.go_down.ensures.reading v c.args.key at.0 at.1),
      level_found (shape_of g.W.WaitWords.WAY c.args.table.now) c.args.key c.args.salt c.loop-child.at at.0 at.2 child slot.0
          (sym c.rises_above.ensures ∙ c.if-rises_above.false) (sym c.step_side.ensures ∙ c.in_default-step_side.is),
    )

pub loop-child-preserved : goal.loop-child-preserved
loop-child-preserved g c = record {
  table = c.go_down.ensures.seat.0 ∙ c.loop-child.invariant.table;
  listed = c.go_down.ensures.seat.1 ∙ c.loop-child.invariant.listed;
  stands = λ v e.
      let at = c.loop-child.invariant.stands v e in
      let child = c.in-Some-go_down.child in
      let slot = c.in-Some-go_down.ensures.slot in (
        _,
        subst (λ o. IsReading v c.args.key (after_step at.0 c.loop-child.at.node c.loop-child.at.turn o) c.go_down.new.seat.view) c.in-Some-go_down.is
            (c.go_down.ensures.reading v c.args.key at.0 at.1),
        goes_below (shape_of g.W.WaitWords.WAY c.args.table.now) c.args.key c.args.salt c.loop-child.at at.0 at.2 child slot.0 slot.1
            c.in-Some-step_side.turn (sym c.rises_above.ensures ∙ c.if-rises_above.false) (sym c.step_side.ensures ∙ c.in-Some-step_side.is),
      );
}

pub loop-child-smaller : goal.loop-child-smaller
loop-child-smaller g c = let further = c.in-Some-go_down.ensures.further in let more = further.0 in let few = further.1 in omega (arith, more, few)

use Rattle.std.proofs.Common.{sym, subst}
use Rattle.core_state.specs.Steps.{fresh_reading}
use Rattle.seat_table.specs.Seats.{shape_of}
use Rattle.tree_lift.specs.Ways.{Starts}
use Rattle.citrus_tree.proofs.Searching.{root_is}
use Rattle.tree_lift.proofs.Ways.{at_root, begun, starts_at, starts_empty, starts_found}
use Rattle.tree_lift.proofs.finding.first_stand.Goals as goal

pub go_down-requires-clause-slot : goal.go_down-requires-clause-slot
go_down-requires-clause-slot g c = root_is (shape_of g.W.WaitWords.WAY c.args.table.now)

pub go_down-requires-clause-reading : goal.go_down-requires-clause-reading
go_down-requires-clause-reading g c =
    let v = c.requires.entered.0 in (
      v,
      c.args.key,
      fresh_reading c.args.key,
      begun (shape_of g.W.WaitWords.WAY c.args.table.now) v c.args.key c.args.seat.now.view c.requires.entered.1,
      at_root c.args.key,
    )

pub returns-in_err-top-clause-starts : goal.returns-in_err-top-clause-starts
returns-in_err-top-clause-starts g c = λ v salt e.
    let k = shape_of g.W.WaitWords.WAY c.args.table.now in
    subst (λ o. Starts k v c.args.key salt o c.go_down.new.seat.view) (sym c.from_residual.ensures)
    (starts_empty k c.args.key salt v c.go_down.new.seat.view
    (c.in_err-top.ensures.reading v c.args.key (fresh_reading c.args.key) (begun k v c.args.key c.args.seat.now.view e)))

pub returns-in_err-turn-clause-starts : goal.returns-in_err-turn-clause-starts
returns-in_err-turn-clause-starts g c = λ v salt e.
    let k = shape_of g.W.WaitWords.WAY c.args.table.now in
    subst (λ o. Starts k v c.args.key salt o c.go_down.new.seat.view) (sym c.from_residual-in_err-turn.ensures)
    (starts_found k c.args.key salt v c.go_down.new.seat.view c.in_ok-top.top c.in_ok-top.ensures.slot.0 (sym c.in_err-turn.ensures)
    (c.in_ok-top.ensures.reading v c.args.key (fresh_reading c.args.key) (begun k v c.args.key c.args.seat.now.view e)))

pub returns-clause-starts : goal.returns-clause-starts
returns-clause-starts g c = λ v salt e.
    let k = shape_of g.W.WaitWords.WAY c.args.table.now in
    let slot = c.in_ok-top.ensures.slot in (
      _,
      c.in_ok-top.ensures.reading v c.args.key (fresh_reading c.args.key) (begun k v c.args.key c.args.seat.now.view e),
      starts_at k c.args.key salt c.in_ok-top.top c.in_ok-turn.turn slot.0 slot.1 (sym c.in_ok-turn.ensures),
    )

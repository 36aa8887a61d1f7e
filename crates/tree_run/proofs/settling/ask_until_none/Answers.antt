use Rattle.std.proofs.Common.{not, [], refl, ap, ◌∙◌}
use Rattle.seat_table.specs.Seats.{shape_of}
use Rattle.tree_run.proofs.Calls.{still_asked, asked_out}
use Rattle.tree_run.proofs.settling.ask_until_none.Goals as goal

pub loop-init : goal.loop-init
loop-init g c = (refl, c.requires.quiet, c.requires.good, λ left u asks. ([], asks))

pub returns-then-is_none-clause-asks : goal.returns-then-is_none-clause-asks
returns-then-is_none-clause-asks g c =
    let e = c.ask_once-held.ensures in
    asked_out (shape_of g.W.WaitWords.WAY c.args.table.now) c.args.cookie c.args.seat.now c.loop.held c.loop.seat c.ask_once-held.result
    c.ask_once-held.new.seat c.loop.invariant.3 e.asks
    (c.is_none.ensures ∙ ap not c.if-is_none.true)

pub loop-preserved : goal.loop-preserved
loop-preserved g c =
    let e = c.ask_once-held.ensures in (
      e.table ∙ c.loop.invariant.0,
      e.quiet,
      e.good,
      still_asked (shape_of g.W.WaitWords.WAY c.args.table.now) c.args.cookie c.args.seat.now c.loop.held c.loop.seat c.ask_once-held.result
          c.ask_once-held.new.seat c.loop.invariant.3 e.asks
          (c.is_none.ensures ∙ ap not c.if-is_none.false) e.good,
    )

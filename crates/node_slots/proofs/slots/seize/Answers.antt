use Rattle.std.proofs.Common.{arith}
use Rattle.seat_table.specs.Seats.{shape_of}
use Rattle.seat_table.proofs.SeveralSteps.{needs_life}
use Rattle.node_slots.proofs.Takes.{has_seized}
use Rattle.node_slots.proofs.slots.seize.Goals as goal

pub load_own_life-life-requires-clause-asks : goal.load_own_life-life-requires-clause-asks
load_own_life-life-requires-clause-asks g c = λ told. (
  omega (arith, c.requires.slot.1),
  needs_life (shape_of g.W.WaitWords.WAY c.args.table.now) _ _ _ _ c.if-found-ne0.false c.seize-found.ensures.told,
)

pub returns-clause-view : goal.returns-clause-view
returns-clause-view g c =
    has_seized (shape_of g.W.WaitWords.WAY c.args.table.now) _ _ _ _ c.if-found-ne0.false c.seize-found.ensures.told _ _
    c.load_own_life-life.ensures.told

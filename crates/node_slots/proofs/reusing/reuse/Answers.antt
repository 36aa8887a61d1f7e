use Rattle.seat_table.specs.Seats.{shape_of}
use Rattle.node_slots.proofs.Returns.{needs_life, needs_hand, reuses}
use Rattle.node_slots.proofs.reusing.reuse.Goals as goal

pub load_retired_life-life-requires-clause-asks : goal.load_retired_life-life-requires-clause-asks
load_retired_life-life-requires-clause-asks g c = needs_life _ _ c.args.slot c.requires.ready

pub raise_to_hand-requires-clause-asks : goal.raise_to_hand-requires-clause-asks
raise_to_hand-requires-clause-asks g c = needs_hand
    (shape_of g.W.WaitWords.WAY c.args.table.now) _ c.args.slot c.requires.ready c.requires.unlocked c.requires.settled _ _
    c.load_retired_life-life.ensures.told c.requires.some.0 c.requires.some.1 c.requires.empty c.requires.unreserved c.requires.ticket

pub returns-clause-view : goal.returns-clause-view
returns-clause-view g c =
    reuses
    (shape_of g.W.WaitWords.WAY c.args.table.now) _ c.args.slot c.requires.ready c.requires.unlocked c.requires.settled _ _
    c.load_retired_life-life.ensures.told _ c.raise_to_hand.ensures.told

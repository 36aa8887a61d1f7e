use Rattle.seat_table.specs.Seats.{shape_of}
use Rattle.node_slots.proofs.Returns.{needs_life, needs_spare, becomes_spare}
use Rattle.node_slots.proofs.reclaiming.keep_spare.Goals as goal

pub load_retired_life-life-requires-clause-asks : goal.load_retired_life-life-requires-clause-asks
load_retired_life-life-requires-clause-asks g c = needs_life _ _ c.args.slot c.requires.ready

pub raise_to_spare-requires-clause-asks : goal.raise_to_spare-requires-clause-asks
raise_to_spare-requires-clause-asks g c = needs_spare
    (shape_of g.W.WaitWords.WAY c.args.table.now) _ c.args.slot c.requires.ready c.requires.unlocked c.requires.settled _ _
    c.load_retired_life-life.ensures.told c.requires.none

pub returns-clause-view : goal.returns-clause-view
returns-clause-view g c =
    becomes_spare
    (shape_of g.W.WaitWords.WAY c.args.table.now) _ c.args.slot c.requires.ready c.requires.unlocked c.requires.settled _ _
    c.load_retired_life-life.ensures.told c.requires.none _ c.raise_to_spare.ensures.told

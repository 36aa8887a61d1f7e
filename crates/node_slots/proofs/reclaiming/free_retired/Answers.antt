use Rattle.std.proofs.Common.{ap, sym, subst}
use Rattle.core_state.specs.declared.view.View.{View}
use Rattle.seat_table.specs.Seats.{SeatAt, shape_of}
use Rattle.node_slots.specs.Reclaiming.{BecomesFree}
use Rattle.node_slots.proofs.Returns.{needs_life, needs_raised, needs_freed, becomes_free}
use Rattle.node_slots.proofs.reclaiming.free_retired.Goals as goal

pub load_retired_life-life-requires-clause-asks : goal.load_retired_life-life-requires-clause-asks
load_retired_life-life-requires-clause-asks g c = needs_life _ _ c.args.slot c.requires.ready

pub raise_retired-requires-clause-asks : goal.raise_retired-requires-clause-asks
raise_retired-requires-clause-asks g c = needs_raised
    (shape_of g.W.WaitWords.WAY c.args.table.now) _ c.args.slot c.requires.ready c.requires.unlocked c.requires.settled _ _
    c.load_retired_life-life.ensures.told c.requires.some.0 c.requires.some.1

pub free_retired-requires-clause-asks : goal.free_retired-requires-clause-asks
free_retired-requires-clause-asks g c = needs_freed
    (shape_of g.W.WaitWords.WAY c.args.table.now) _ c.args.slot c.requires.ready c.requires.unlocked c.requires.settled _ _
    c.load_retired_life-life.ensures.told _ c.raise_retired.ensures.told c.requires.paid

pub count_free-requires-clause-asks : goal.count_free-requires-clause-asks
count_free-requires-clause-asks g c = λ told. (tt, ap (λ (z : View). z.hands.owes) c.free_retired.ensures.told.goes)

pub returns-clause-view : goal.returns-clause-view
returns-clause-view g c =
    subst (λ (z : SeatAt). BecomesFree c.args.seat.now.view c.args.slot z.view) (sym c.note_freed.ensures)
    (becomes_free
    (shape_of g.W.WaitWords.WAY c.args.table.now) _ c.args.slot c.requires.ready c.requires.unlocked c.requires.settled _ _
    c.load_retired_life-life.ensures.told _ c.raise_retired.ensures.told c.requires.some.0 c.requires.some.1 c.requires.paid _ _
    c.count_free.ensures.told.0 c.free_retired.ensures.told c.count_free.ensures.told.1)

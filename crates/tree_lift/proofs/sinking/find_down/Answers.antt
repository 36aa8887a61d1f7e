use Rattle.std.proofs.Common.{inl, subst}
use Rattle.core_state.specs.Parts.{state_slot}
use Rattle.citrus_tree.specs.Lookups.{IsSearching, state_of}
use Rattle.citrus_tree.specs.declared.descent.Descent.{Descent}
use Rattle.seat_table.specs.Gains.{IsSlot}
use Rattle.seat_table.specs.Seats.{shape_of}
use Rattle.tree_lift.proofs.TurnedDown.{reading_of}
use Rattle.tree_lift.proofs.Ways.{in_section, left}
use Rattle.tree_lift.proofs.sinking.find_down.Goals as goal

pub record_down-turn-requires-clause-slot : goal.record_down-turn-requires-clause-slot
record_down-turn-requires-clause-slot g c =
    subst (λ (d : Descent). IsSlot (shape_of g.W.WaitWords.WAY c.args.table.now) (state_slot (state_of d))) c.in-Found.is c.descend.ensures.slot

pub record_down-turn-requires-clause-found : goal.record_down-turn-requires-clause-found
record_down-turn-requires-clause-found g c = (
  c.args.seat.now.view,
  c.args.key,
  subst (λ (d : Descent). IsSearching c.args.seat.now.view c.args.key (state_of d) c.descend.new.seat.view) c.in-Found.is
      c.descend.ensures.searching,
)

pub leave-requires-clause-inside : goal.leave-requires-clause-inside
leave-requires-clause-inside g c =
    let v = c.args.seat.now.view in
    let i = subst (λ (d : Descent). IsSearching v c.args.key (state_of d) c.descend.new.seat.view) c.in-Found.is c.descend.ensures.searching in
    let reads = c.record_down-turn.ensures.reads v c.args.key i in
    in_section (shape_of g.W.WaitWords.WAY c.args.table.now) v c.args.key reads.0 c.record_down-turn.new.seat.view reads.1

pub returns-in-Found-clause-finds : goal.returns-in-Found-clause-finds
returns-in-Found-clause-finds g c =
    let v = c.args.seat.now.view in
    let i = subst (λ (d : Descent). IsSearching v c.args.key (state_of d) c.descend.new.seat.view) c.in-Found.is c.descend.ensures.searching in
    let reads = c.record_down-turn.ensures.reads v c.args.key i in (
      reads.0,
      left (shape_of g.W.WaitWords.WAY c.args.table.now) v c.args.key reads.0 c.record_down-turn.new.seat.view reads.1 c.leave.new.seat.view
          c.leave.ensures.left,
      reads.2,
    )

pub returns-in-Ended-clause-finds : goal.returns-in-Ended-clause-finds
returns-in-Ended-clause-finds g c =
    let v = c.args.seat.now.view in
    let i = subst (λ (d : Descent). IsSearching v c.args.key (state_of d) c.descend.new.seat.view) c.in-Ended.is c.descend.ensures.searching in (
      i.reading,
      left (shape_of g.W.WaitWords.WAY c.args.table.now) v c.args.key i.reading c.descend.new.seat.view (reading_of i)
          c.leave-in-Ended.new.seat.view c.leave-in-Ended.ensures.left,
      record { sought = i.key_is; why = inl (c.in-Ended.slot, c.in-Ended.side, i.state_is) },
    )

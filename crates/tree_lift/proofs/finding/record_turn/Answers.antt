use Rattle.core_state.specs.declared.act.Part.TheVariants as part
use Rattle.core_state.specs.declared.words.Field.TheVariants.{Life}
use Rattle.core_state.specs.Steps.{loaded}
use Rattle.seat_table.specs.Seats.{shape_of}
use Rattle.tree_lift.proofs.Ways.{asks, loads_on, parent_stood, node_stood, child_stood, records_turn}
use Rattle.tree_lift.proofs.finding.record_turn.Goals as goal

pub search_load-parent_life-requires-clause-asks : goal.search_load-parent_life-requires-clause-asks
search_load-parent_life-requires-clause-asks g c =
    let q = c.requires.crossing in
    let k = shape_of g.W.WaitWords.WAY c.args.table.now in
    asks k q.0 q.1 q.3 c.args.seat.now.view q.4 c.args.crossing.at.parent part.Life
    (parent_stood k q.1 q.2 c.args.crossing q.3 q.5) q.5.stands.parent_slot

pub search_load-node_life-requires-clause-asks : goal.search_load-node_life-requires-clause-asks
search_load-node_life-requires-clause-asks g c =
    let q = c.requires.crossing in
    let k = shape_of g.W.WaitWords.WAY c.args.table.now in
    let one = c.search_load-parent_life in
    asks k q.0 q.1 (loaded q.3 (Life c.args.crossing.at.parent) one.result) one.new.seat.view
    (loads_on k q.0 q.1 q.3 c.args.seat.now.view q.4 c.args.crossing.at.parent part.Life one.result one.new.seat.view one.ensures.told)
    c.args.crossing.at.node part.Life (node_stood k q.1 q.2 c.args.crossing q.3 q.5 one.result) q.5.stands.node_slot

pub search_load-child_life-requires-clause-asks : goal.search_load-child_life-requires-clause-asks
search_load-child_life-requires-clause-asks g c =
    let q = c.requires.crossing in
    let k = shape_of g.W.WaitWords.WAY c.args.table.now in
    let one = c.search_load-parent_life in
    let two = c.search_load-node_life in
    let at = c.args.crossing.at in
    let r1 = loaded q.3 (Life at.parent) one.result in
    asks k q.0 q.1 (loaded r1 (Life at.node) two.result) two.new.seat.view
    (loads_on k q.0 q.1 r1 one.new.seat.view
    (loads_on k q.0 q.1 q.3 c.args.seat.now.view q.4 at.parent part.Life one.result one.new.seat.view one.ensures.told)
    at.node part.Life two.result two.new.seat.view two.ensures.told)
    c.args.crossing.child.slot part.Life (child_stood k q.1 q.2 c.args.crossing q.3 q.5 one.result two.result) q.5.child_slot

pub returns-clause-finds : goal.returns-clause-finds
returns-clause-finds g c = λ v key salt r i x.
    let k = shape_of g.W.WaitWords.WAY c.args.table.now in
    let one = c.search_load-parent_life in
    let two = c.search_load-node_life in
    let three = c.search_load-child_life in
    let at = c.args.crossing.at in
    let r1 = loaded r (Life at.parent) one.result in
    let r2 = loaded r1 (Life at.node) two.result in (
      loaded r2 (Life c.args.crossing.child.slot) three.result,
      loads_on k v key r2 two.new.seat.view
          (loads_on k v key r1 one.new.seat.view
          (loads_on k v key r c.args.seat.now.view i at.parent part.Life one.result one.new.seat.view one.ensures.told)
          at.node part.Life two.result two.new.seat.view two.ensures.told)
          c.args.crossing.child.slot part.Life three.result three.new.seat.view three.ensures.told,
      records_turn k key salt c.args.crossing r x one.result two.result three.result c.if-at.false c.if-at-child.false c.if-child-at.false
          c.generation_of.result c.generation_of-2.result c.generation_of-3.result c.generation_of.ensures c.generation_of-2.ensures
          c.generation_of-3.ensures,
    )

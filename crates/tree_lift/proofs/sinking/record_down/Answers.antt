use Rattle.std.proofs.Common.{rules, inl, inr}
use Rattle.core_state.specs.declared.act.Part.TheVariants as part
use Rattle.core_state.specs.declared.words.Field.TheVariants.{Life, Link}
use Rattle.core_state.specs.Steps.{loaded}
use Rattle.prcu_marks.specs.declared.mark.Side.TheVariants.{Left, Right}
use Rattle.seat_table.specs.Seats.{shape_of}
use Rattle.tree_lift.proofs.TurnedDown.{child_after, child_stands, found_node, low_left, low_right, low_twice, node_after, node_stands, parent_stands, reading_of, records_down}
use Rattle.tree_lift.proofs.Ways.{asks, loads_on, slot_at}
use Rattle.tree_lift.proofs.sinking.record_down.Goals.{then-left-eq0-via-then-left-eq0, then-left-eq0-via-else-left-eq0+then-right-eq0, then-node-eq0-via-then-node-eq0, then-node-eq0-via-else-node-eq0+then-parent-node, then-node-eq0-via-else-node-eq0+else-parent-node+then-node-child, then-node-eq0-via-else-node-eq0+else-parent-node+else-node-child+then-child-parent}
use Rattle.tree_lift.proofs.sinking.record_down.Goals as goal

pub search_load-left-requires-clause-asks : goal.search_load-left-requires-clause-asks
search_load-left-requires-clause-asks g c =
    let q = c.requires.found in let v = q.0 in let key = q.1 in let i = q.2 in
    let k = shape_of g.W.WaitWords.WAY c.args.table.now in
    let w = c.args.seat.now.view in
    let node = c.args.node in
    let f = found_node i in
    let r = i.reading in
    asks k v key r w (reading_of i) node (part.Link Left) f.node_stood c.requires.slot

pub search_load-right-requires-clause-asks : goal.search_load-right-requires-clause-asks
search_load-right-requires-clause-asks g c =
    let q = c.requires.found in let v = q.0 in let key = q.1 in let i = q.2 in
    let k = shape_of g.W.WaitWords.WAY c.args.table.now in
    let w = c.args.seat.now.view in
    let node = c.args.node in
    let f = found_node i in
    let r = i.reading in
    let one = c.search_load-left in
    let on1 = loads_on k v key r w (reading_of i) node (part.Link Left) one.result one.new.seat.view one.ensures.told in
    let r1 = loaded r (Link node Left) one.result in
    asks k v key r1 one.new.seat.view on1 node (part.Link Right) (node_stands key node c.args.parent c.args.side r f one.result) c.requires.slot

pub returns-then-left-eq0-clause-reads : goal.returns-then-left-eq0-clause-reads
returns-then-left-eq0-clause-reads g c = λ v key i.
    let k = shape_of g.W.WaitWords.WAY c.args.table.now in
    let w = c.args.seat.now.view in
    let node = c.args.node in
    let f = found_node i in
    let r = i.reading in
    let one = c.search_load-left in
    let on1 = loads_on k v key r w (reading_of i) node (part.Link Left) one.result one.new.seat.view one.ensures.told in
    let r1 = loaded r (Link node Left) one.result in
    let two = c.search_load-right in
    let on2 = loads_on k v key r1 one.new.seat.view on1 node (part.Link Right) two.result two.new.seat.view two.ensures.told in
    let r2 = loaded r1 (Link node Right) two.result in (
      r2,
      on2,
      elim c.then-left-eq0.branch [
        | then-left-eq0-via-then-left-eq0 b ↦ low_left key node c.args.parent c.args.side r f one.result two.result b.if-left-eq0.true
        | then-left-eq0-via-else-left-eq0+then-right-eq0 b ↦ low_right key node c.args.parent c.args.side r f one.result two.result b.if-right-eq0.true
      ],
    )

pub overflow_cast-child : goal.overflow_cast-child
overflow_cast-child g c =
    let q = c.requires.found in let v = q.0 in let key = q.1 in let i = q.2 in
    let k = shape_of g.W.WaitWords.WAY c.args.table.now in
    let w = c.args.seat.now.view in
    let node = c.args.node in
    let f = found_node i in
    let r = i.reading in
    let one = c.search_load-left in
    let on1 = loads_on k v key r w (reading_of i) node (part.Link Left) one.result one.new.seat.view one.ensures.told in
    let r1 = loaded r (Link node Left) one.result in
    let two = c.search_load-right in
    let on2 = loads_on k v key r1 one.new.seat.view on1 node (part.Link Right) two.result two.new.seat.view two.ensures.told in
    let r2 = loaded r1 (Link node Right) two.result in
    let child = two.result in
    let parent = c.args.parent in
    let stands = child_stands key node parent c.args.side r f one.result child c.if-left-eq0.false c.if-right-eq0.false in
    let above = parent_stands key node parent c.args.side r f one.result child c.if-left-eq0.false c.if-right-eq0.false in
    let child_slot = slot_at k v key r2 two.new.seat.view on2 child stands node (part.Link Right) child one.new.seat.view two.ensures.told in
    let parent_slot = slot_at k v key r2 two.new.seat.view on2 parent above node (part.Link Right) child one.new.seat.view two.ensures.told in
    let small = child_slot.fits in
    search rules

pub returns-then-node-eq0-clause-reads : goal.returns-then-node-eq0-clause-reads
returns-then-node-eq0-clause-reads g c = λ v key i.
    let k = shape_of g.W.WaitWords.WAY c.args.table.now in
    let w = c.args.seat.now.view in
    let node = c.args.node in
    let f = found_node i in
    let r = i.reading in
    let one = c.search_load-left in
    let on1 = loads_on k v key r w (reading_of i) node (part.Link Left) one.result one.new.seat.view one.ensures.told in
    let r1 = loaded r (Link node Left) one.result in
    let two = c.search_load-right in
    let on2 = loads_on k v key r1 one.new.seat.view on1 node (part.Link Right) two.result two.new.seat.view two.ensures.told in
    let r2 = loaded r1 (Link node Right) two.result in (
      r2,
      on2,
      low_twice key node c.args.parent c.args.side r f one.result two.result (elim c.then-node-eq0.branch [
        | then-node-eq0-via-then-node-eq0 b ↦ inl b.if-node-eq0.true
        | then-node-eq0-via-else-node-eq0+then-parent-node b ↦ inr (inl b.if-parent-node.true)
        | then-node-eq0-via-else-node-eq0+else-parent-node+then-node-child b ↦ inr (inr (inl b.if-node-child.true))
        | then-node-eq0-via-else-node-eq0+else-parent-node+else-node-child+then-child-parent b ↦ inr (inr (inr b.if-child-parent.true))
      ]),
    )

pub search_load-parent_life-requires-clause-asks : goal.search_load-parent_life-requires-clause-asks
search_load-parent_life-requires-clause-asks g c =
    let q = c.requires.found in let v = q.0 in let key = q.1 in let i = q.2 in
    let k = shape_of g.W.WaitWords.WAY c.args.table.now in
    let w = c.args.seat.now.view in
    let node = c.args.node in
    let f = found_node i in
    let r = i.reading in
    let one = c.search_load-left in
    let on1 = loads_on k v key r w (reading_of i) node (part.Link Left) one.result one.new.seat.view one.ensures.told in
    let r1 = loaded r (Link node Left) one.result in
    let two = c.search_load-right in
    let on2 = loads_on k v key r1 one.new.seat.view on1 node (part.Link Right) two.result two.new.seat.view two.ensures.told in
    let r2 = loaded r1 (Link node Right) two.result in
    let child = two.result in
    let parent = c.args.parent in
    let stands = child_stands key node parent c.args.side r f one.result child c.if-left-eq0.false c.if-right-eq0.false in
    let above = parent_stands key node parent c.args.side r f one.result child c.if-left-eq0.false c.if-right-eq0.false in
    let child_slot = slot_at k v key r2 two.new.seat.view on2 child stands node (part.Link Right) child one.new.seat.view two.ensures.told in
    let parent_slot = slot_at k v key r2 two.new.seat.view on2 parent above node (part.Link Right) child one.new.seat.view two.ensures.told in
    asks k v key r2 two.new.seat.view on2 parent part.Life above parent_slot

pub search_load-node_life-requires-clause-asks : goal.search_load-node_life-requires-clause-asks
search_load-node_life-requires-clause-asks g c =
    let q = c.requires.found in let v = q.0 in let key = q.1 in let i = q.2 in
    let k = shape_of g.W.WaitWords.WAY c.args.table.now in
    let w = c.args.seat.now.view in
    let node = c.args.node in
    let f = found_node i in
    let r = i.reading in
    let one = c.search_load-left in
    let on1 = loads_on k v key r w (reading_of i) node (part.Link Left) one.result one.new.seat.view one.ensures.told in
    let r1 = loaded r (Link node Left) one.result in
    let two = c.search_load-right in
    let on2 = loads_on k v key r1 one.new.seat.view on1 node (part.Link Right) two.result two.new.seat.view two.ensures.told in
    let r2 = loaded r1 (Link node Right) two.result in
    let child = two.result in
    let parent = c.args.parent in
    let stands = child_stands key node parent c.args.side r f one.result child c.if-left-eq0.false c.if-right-eq0.false in
    let above = parent_stands key node parent c.args.side r f one.result child c.if-left-eq0.false c.if-right-eq0.false in
    let child_slot = slot_at k v key r2 two.new.seat.view on2 child stands node (part.Link Right) child one.new.seat.view two.ensures.told in
    let parent_slot = slot_at k v key r2 two.new.seat.view on2 parent above node (part.Link Right) child one.new.seat.view two.ensures.told in
    let three = c.search_load-parent_life in
    let on3 = loads_on k v key r2 two.new.seat.view on2 parent part.Life three.result three.new.seat.view three.ensures.told in
    let r3 = loaded r2 (Life parent) three.result in
    asks k v key r3 three.new.seat.view on3 node part.Life
    (node_after key node parent c.args.side r f one.result child c.if-left-eq0.false c.if-right-eq0.false three.result) c.requires.slot

pub search_load-child_life-requires-clause-asks : goal.search_load-child_life-requires-clause-asks
search_load-child_life-requires-clause-asks g c =
    let q = c.requires.found in let v = q.0 in let key = q.1 in let i = q.2 in
    let k = shape_of g.W.WaitWords.WAY c.args.table.now in
    let w = c.args.seat.now.view in
    let node = c.args.node in
    let f = found_node i in
    let r = i.reading in
    let one = c.search_load-left in
    let on1 = loads_on k v key r w (reading_of i) node (part.Link Left) one.result one.new.seat.view one.ensures.told in
    let r1 = loaded r (Link node Left) one.result in
    let two = c.search_load-right in
    let on2 = loads_on k v key r1 one.new.seat.view on1 node (part.Link Right) two.result two.new.seat.view two.ensures.told in
    let r2 = loaded r1 (Link node Right) two.result in
    let child = two.result in
    let parent = c.args.parent in
    let stands = child_stands key node parent c.args.side r f one.result child c.if-left-eq0.false c.if-right-eq0.false in
    let above = parent_stands key node parent c.args.side r f one.result child c.if-left-eq0.false c.if-right-eq0.false in
    let child_slot = slot_at k v key r2 two.new.seat.view on2 child stands node (part.Link Right) child one.new.seat.view two.ensures.told in
    let parent_slot = slot_at k v key r2 two.new.seat.view on2 parent above node (part.Link Right) child one.new.seat.view two.ensures.told in
    let three = c.search_load-parent_life in
    let on3 = loads_on k v key r2 two.new.seat.view on2 parent part.Life three.result three.new.seat.view three.ensures.told in
    let r3 = loaded r2 (Life parent) three.result in
    let four = c.search_load-node_life in
    let on4 = loads_on k v key r3 three.new.seat.view on3 node part.Life four.result four.new.seat.view four.ensures.told in
    let r4 = loaded r3 (Life node) four.result in
    asks k v key r4 four.new.seat.view on4 child part.Life
    (child_after key node parent c.args.side r f one.result child c.if-left-eq0.false c.if-right-eq0.false three.result four.result) child_slot

pub returns-clause-reads : goal.returns-clause-reads
returns-clause-reads g c = λ v key i.
    let k = shape_of g.W.WaitWords.WAY c.args.table.now in
    let w = c.args.seat.now.view in
    let node = c.args.node in
    let f = found_node i in
    let r = i.reading in
    let one = c.search_load-left in
    let on1 = loads_on k v key r w (reading_of i) node (part.Link Left) one.result one.new.seat.view one.ensures.told in
    let r1 = loaded r (Link node Left) one.result in
    let two = c.search_load-right in
    let on2 = loads_on k v key r1 one.new.seat.view on1 node (part.Link Right) two.result two.new.seat.view two.ensures.told in
    let r2 = loaded r1 (Link node Right) two.result in
    let child = two.result in
    let parent = c.args.parent in
    let stands = child_stands key node parent c.args.side r f one.result child c.if-left-eq0.false c.if-right-eq0.false in
    let above = parent_stands key node parent c.args.side r f one.result child c.if-left-eq0.false c.if-right-eq0.false in
    let child_slot = slot_at k v key r2 two.new.seat.view on2 child stands node (part.Link Right) child one.new.seat.view two.ensures.told in
    let parent_slot = slot_at k v key r2 two.new.seat.view on2 parent above node (part.Link Right) child one.new.seat.view two.ensures.told in
    let three = c.search_load-parent_life in
    let on3 = loads_on k v key r2 two.new.seat.view on2 parent part.Life three.result three.new.seat.view three.ensures.told in
    let r3 = loaded r2 (Life parent) three.result in
    let four = c.search_load-node_life in
    let on4 = loads_on k v key r3 three.new.seat.view on3 node part.Life four.result four.new.seat.view four.ensures.told in
    let r4 = loaded r3 (Life node) four.result in
    let five = c.search_load-child_life in (
      loaded r4 (Life child) five.result,
      loads_on k v key r4 four.new.seat.view on4 child part.Life five.result five.new.seat.view five.ensures.told,
      records_down key node parent c.args.side r f one.result child c.if-left-eq0.false c.if-right-eq0.false three.result four.result
          five.result k c.generation_of.result c.generation_of-2.result c.generation_of-3.result parent_slot c.requires.slot child_slot
          c.if-node-eq0.false c.if-parent-node.false c.if-node-child.false c.if-child-parent.false c.generation_of.ensures c.generation_of-2.ensures
          c.generation_of-3.ensures,
    )

use Rattle.std.proofs.Common.{rules, ap, subst, arith}
use Rattle.core_state.specs.declared.act.Part.TheVariants as part
use Rattle.core_state.specs.declared.words.Field.TheVariants.{Link}
use Rattle.core_state.specs.Steps.{loaded}
use Rattle.seat_table.specs.Seats.{shape_of}
use Rattle.citrus_tree.specs.Hops.{slots_in}
use Rattle.tree_lift.specs.Ways.{IsReading}
use Rattle.tree_lift.proofs.Ways.{asks, loads_on, slot_at, stood_below, went_met}
use Rattle.tree_lift.proofs.finding.go_down.Goals as goal

pub search_load-link-requires-clause-asks : goal.search_load-link-requires-clause-asks
search_load-link-requires-clause-asks g c =
    let q = c.requires.reading in let v = q.0 in let key = q.1 in let r = q.2 in let i = q.3 in let by = q.4 in
    asks (shape_of g.W.WaitWords.WAY c.args.table.now) v key r c.args.seat.now.view i c.args.slot (part.Link c.args.side) by.stood
    c.requires.slot

pub overflow_cast-child : goal.overflow_cast-child
overflow_cast-child g c =
    let q = c.requires.reading in let v = q.0 in let key = q.1 in let r = q.2 in let i = q.3 in let by = q.4 in
    let k = shape_of g.W.WaitWords.WAY c.args.table.now in
    let link = c.search_load-link.result in
    let after = c.search_load-link.new.seat.view in
    let told = c.search_load-link.ensures.told in
    let small = (slot_at k v key (loaded r (Link c.args.slot c.args.side) link) after
    (loads_on k v key r c.args.seat.now.view i c.args.slot (part.Link c.args.side) link after told) link
    (stood_below r c.args.slot c.args.side link by c.if-link-eq0.false) c.args.slot (part.Link c.args.side) link c.args.seat.now.view told).fits in
    search rules

pub search_load-key-requires-clause-asks : goal.search_load-key-requires-clause-asks
search_load-key-requires-clause-asks g c =
    let q = c.requires.reading in let v = q.0 in let key = q.1 in let r = q.2 in let i = q.3 in let by = q.4 in
    let k = shape_of g.W.WaitWords.WAY c.args.table.now in
    let link = c.search_load-link.result in
    let after = c.search_load-link.new.seat.view in
    let told = c.search_load-link.ensures.told in
    let on = loads_on k v key r c.args.seat.now.view i c.args.slot (part.Link c.args.side) link after told in
    let stood = stood_below r c.args.slot c.args.side link by c.if-link-eq0.false in
    asks k v key (loaded r (Link c.args.slot c.args.side) link) after on link part.Key stood
    (slot_at k v key (loaded r (Link c.args.slot c.args.side) link) after on link stood c.args.slot (part.Link c.args.side) link
    c.args.seat.now.view told)

pub returns-then-link-eq0-clause-reading : goal.returns-then-link-eq0-clause-reading
returns-then-link-eq0-clause-reading g c = λ v key r i.
    subst (λ n. IsReading v key (loaded r (Link c.args.slot c.args.side) n) c.search_load-link.new.seat.view) c.if-link-eq0.true
    (loads_on (shape_of g.W.WaitWords.WAY c.args.table.now) v key r c.args.seat.now.view i c.args.slot (part.Link c.args.side)
    c.search_load-link.result c.search_load-link.new.seat.view c.search_load-link.ensures.told)

pub returns-clause-slot : goal.returns-clause-slot
returns-clause-slot g c =
    let q = c.requires.reading in let v = q.0 in let key = q.1 in let r = q.2 in let i = q.3 in let by = q.4 in
    let k = shape_of g.W.WaitWords.WAY c.args.table.now in
    let link = c.search_load-link.result in
    let after = c.search_load-link.new.seat.view in
    let told = c.search_load-link.ensures.told in (
      c.if-link-eq0.false,
      slot_at k v key (loaded r (Link c.args.slot c.args.side) link) after
          (loads_on k v key r c.args.seat.now.view i c.args.slot (part.Link c.args.side) link after told) link
          (stood_below r c.args.slot c.args.side link by c.if-link-eq0.false) c.args.slot (part.Link c.args.side) link
          c.args.seat.now.view told,
    )

pub returns-clause-reading : goal.returns-clause-reading
returns-clause-reading g c = λ v key r i.
    let k = shape_of g.W.WaitWords.WAY c.args.table.now in
    let link = c.search_load-link.result in
    let after = c.search_load-link.new.seat.view in
    loads_on k v key (loaded r (Link c.args.slot c.args.side) link) after
    (loads_on k v key r c.args.seat.now.view i c.args.slot (part.Link c.args.side) link after c.search_load-link.ensures.told) link part.Key
    c.search_load-key.result c.search_load-key.new.seat.view c.search_load-key.ensures.told

pub returns-clause-further : goal.returns-clause-further
returns-clause-further g c =
    let q = c.requires.reading in let v = q.0 in let key = q.1 in let r = q.2 in let i = q.3 in let by = q.4 in
    let k = shape_of g.W.WaitWords.WAY c.args.table.now in
    let link = c.search_load-link.result in
    let after = c.search_load-link.new.seat.view in
    let down = loads_on k v key (loaded r (Link c.args.slot c.args.side) link) after
    (loads_on k v key r c.args.seat.now.view i c.args.slot (part.Link c.args.side) link after c.search_load-link.ensures.told) link part.Key
    c.search_load-key.result c.search_load-key.new.seat.view c.search_load-key.ensures.told in
    let few = (c.search_load-key.ensures.told.stood.few _ down.inside).inside in
    let here = ap slots_in down.inside in (
      went_met r c.args.slot c.args.side (record { slot = link; key = c.search_load-key.result }) by.state_is c.if-link-eq0.false i down,
      omega (arith, few, here),
    )

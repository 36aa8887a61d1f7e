use Rattle.std.proofs.Common.{◌∙◌, arith}
use Rattle.seat_table.specs.Seats.{shape_of}
use Rattle.citrus_tree.proofs.Searching.{entered_met, entered_pace, root_is, begun}
use Rattle.citrus_tree.proofs.descent.descend.Goals as goal

pub load_links-links-requires-clause-slot : goal.load_links-links-requires-clause-slot
load_links-links-requires-clause-slot g c = root_is (shape_of g.W.WaitWords.WAY c.args.table.now)

pub load_links-links-requires-clause-searching : goal.load_links-links-requires-clause-searching
load_links-links-requires-clause-searching g c = (
  c.args.seat.now.view,
  c.args.key,
  begun
      (shape_of g.W.WaitWords.WAY c.args.table.now) c.args.seat.now.view c.args.key c.enter.new.seat.view c.enter.ensures.entered,
)

pub loop-slot-init : goal.loop-slot-init
loop-slot-init g c = record {
  table = c.load_links-links.ensures.seat.0 ∙ c.enter.ensures.seat.0;
  listed = c.load_links-links.ensures.seat.1 ∙ c.enter.ensures.seat.1;
  slot = root_is (shape_of g.W.WaitWords.WAY c.args.table.now);
  loaded = (
    c.enter.new.seat.view,
    begun
        (shape_of g.W.WaitWords.WAY c.args.table.now) c.args.seat.now.view c.args.key c.enter.new.seat.view c.enter.ensures.entered,
    c.load_links-links.ensures.loads,
    entered_pace c.enter.ensures.steps c.enter.ensures.entered,
    entered_met c.enter.ensures.entered,
  );
  few = omega arith;
  fits = omega arith;
}

pub look_on-requires-clause-loaded : goal.look_on-requires-clause-loaded
look_on-requires-clause-loaded g c = let a = c.loop-slot.invariant.loaded in (
  c.args.seat.now.view,
  record {
    slot = c.loop-slot.at;
    side = c.loop-slot.side;
    before = a.0;
    is_slot = c.loop-slot.invariant.slot;
    searching = a.1;
    loads = a.2;
  },
)

pub load_links-links-requires-in-Moved-clause-slot : goal.load_links-links-requires-in-Moved-clause-slot
load_links-links-requires-in-Moved-clause-slot g c = c.in-Moved.ensures.slot _ c.loop-slot.side c.loop-slot.invariant.slot

pub load_links-links-requires-in-Moved-clause-searching : goal.load_links-links-requires-in-Moved-clause-searching
load_links-links-requires-in-Moved-clause-searching g c = let a = c.loop-slot.invariant.loaded in
    (c.args.seat.now.view, c.args.key, c.in-Moved.ensures.searching _ a.0 _ _ a.1 a.2)

pub overflow_add-depth : goal.overflow_add-depth
overflow_add-depth g c = let fits = c.loop-slot.invariant.fits in omega (arith, fits)

pub loop-slot-preserved : goal.loop-slot-preserved
loop-slot-preserved g c =
    let a = c.loop-slot.invariant.loaded in
    let cost = c.in-Moved.ensures.costs _ a.0 _ _ a.1 a.2 in
    let loads = cost.loads in
    let more = cost.met in
    let inside = cost.few.inside in
    let fits = cost.few.fits in
    let pace = a.3.pace in
    let met = a.4 in
    record {
      table = c.load_links-links-in-Moved.ensures.seat.0 ∙ c.look_on.ensures.seat.0 ∙ c.loop-slot.invariant.table;
      listed = c.load_links-links-in-Moved.ensures.seat.1 ∙ c.look_on.ensures.seat.1 ∙ c.loop-slot.invariant.listed;
      slot = c.in-Moved.ensures.slot _ c.loop-slot.side c.loop-slot.invariant.slot;
      few = omega (arith, more, inside, met);
      fits = omega (arith, more, fits, met);
      loaded = (
        c.look_on.new.seat.view,
        c.in-Moved.ensures.searching _ a.0 _ _ a.1 a.2,
        c.load_links-links-in-Moved.ensures.loads,
        record { pace = omega (arith, loads, more, pace) },
        omega (arith, more, met),
      );
    }

pub loop-slot-smaller : goal.loop-slot-smaller
loop-slot-smaller g c = let few = c.loop-slot.invariant.few in omega (arith, few)

pub returns-in-Found-clause-slot : goal.returns-in-Found-clause-slot
returns-in-Found-clause-slot g c = c.in-Found.ensures.slot _ c.loop-slot.side c.loop-slot.invariant.slot

pub returns-in-Found-clause-searching : goal.returns-in-Found-clause-searching
returns-in-Found-clause-searching g c =
    let a = c.loop-slot.invariant.loaded in c.in-Found.ensures.searching _ a.0 _ _ a.1 a.2

pub returns-in-Ended-clause-searching : goal.returns-in-Ended-clause-searching
returns-in-Ended-clause-searching g c =
    let a = c.loop-slot.invariant.loaded in c.in-Ended.ensures.searching _ a.0 _ _ a.1 a.2

pub returns-in-Found-clause-within : goal.returns-in-Found-clause-within
returns-in-Found-clause-within g c =
    let a = c.loop-slot.invariant.loaded in
    let cost = c.in-Found.ensures.costs _ a.0 _ _ a.1 a.2 in
    let loads = cost.loads in
    let more = cost.met in
    let inside = cost.few.inside in
    let pace = a.3.pace in
    omega (arith, loads, more, inside, pace)

pub returns-in-Ended-clause-within : goal.returns-in-Ended-clause-within
returns-in-Ended-clause-within g c =
    let a = c.loop-slot.invariant.loaded in
    let cost = c.in-Ended.ensures.costs _ a.0 _ _ a.1 a.2 in
    let loads = cost.loads in
    let more = cost.met in
    let inside = cost.few.inside in
    let pace = a.3.pace in
    omega (arith, loads, more, inside, pace)

use Rattle.std.proofs.Common.{rules, refl, ◌∙◌, arith}
use Rattle.seat_table.specs.Seats.{shape_of}
use Rattle.citrus_tree.specs.Deletes.{walked_to}
use Rattle.citrus_tree.proofs.DeleteSearches.{slot_fits, walks_first, needs_walk, walks_on, walk_fits, walk_further, walk_ends}
use Rattle.citrus_tree.proofs.delete.target.walk.Goals as goal

pub overflow_cast-slot : goal.overflow_cast-slot
overflow_cast-slot g c = let small = slot_fits c.args.node (walked_to c.args.node.node c.args.node.right)
    (c.requires.at).2 c.requires.inside in search rules

pub loop-parent-init : goal.loop-parent-init
loop-parent-init g c = record {
  table = refl;
  listed = refl;
  walks = walks_first (shape_of g.W.WaitWords.WAY c.args.table.now) c.args.node c.args.seat.now.view c.requires.inside;
}

pub search_load-left-requires-clause-asks : goal.search_load-left-requires-clause-asks
search_load-left-requires-clause-asks g c =
    needs_walk (shape_of g.W.WaitWords.WAY c.args.table.now) c.args.node c.loop-parent.parent c.loop-parent.slot c.args.seat.now.view
    c.loop-parent.seat.view
    c.requires.at c.loop-parent.invariant.walks

pub returns-then-left-eq0-clause-at : goal.returns-then-left-eq0-clause-at
returns-then-left-eq0-clause-at g c =
    (walk_ends (shape_of g.W.WaitWords.WAY c.args.table.now) c.args.node c.loop-parent.parent c.loop-parent.slot c.search_load-left.result
    c.args.seat.now.view c.loop-parent.seat.view c.search_load-left.new.seat.view c.if-left-eq0.true c.loop-parent.invariant.walks
    c.search_load-left.ensures.told).0

pub returns-then-left-eq0-clause-same : goal.returns-then-left-eq0-clause-same
returns-then-left-eq0-clause-same g c =
    (walk_ends (shape_of g.W.WaitWords.WAY c.args.table.now) c.args.node c.loop-parent.parent c.loop-parent.slot c.search_load-left.result
    c.args.seat.now.view c.loop-parent.seat.view c.search_load-left.new.seat.view c.if-left-eq0.true c.loop-parent.invariant.walks
    c.search_load-left.ensures.told).1

pub overflow_cast-slot-in-loop-parent : goal.overflow_cast-slot-in-loop-parent
overflow_cast-slot-in-loop-parent g c =
    let small = walk_fits
    (shape_of g.W.WaitWords.WAY c.args.table.now) c.args.node c.loop-parent.parent c.loop-parent.slot c.search_load-left.result
    c.args.seat.now.view
    c.loop-parent.seat.view c.search_load-left.new.seat.view c.requires.at c.if-left-eq0.false c.loop-parent.invariant.walks
    c.search_load-left.ensures.told in search rules

pub loop-parent-preserved : goal.loop-parent-preserved
loop-parent-preserved g c = record {
  table = (c.search_load-left.ensures.seat).0 ∙ c.loop-parent.invariant.table;
  listed = (c.search_load-left.ensures.seat).1 ∙ c.loop-parent.invariant.listed;
  walks = walks_on
      (shape_of g.W.WaitWords.WAY c.args.table.now) c.args.node c.loop-parent.parent c.loop-parent.slot c.search_load-left.result
      c.args.seat.now.view
      c.loop-parent.seat.view c.search_load-left.new.seat.view c.if-left-eq0.false c.loop-parent.invariant.walks
      c.search_load-left.ensures.told;
}

pub loop-parent-smaller : goal.loop-parent-smaller
loop-parent-smaller g c =
    let further = walk_further
    (shape_of g.W.WaitWords.WAY c.args.table.now) c.args.node c.loop-parent.parent c.loop-parent.slot c.search_load-left.result
    c.args.seat.now.view c.loop-parent.seat.view c.search_load-left.new.seat.view c.requires.at c.if-left-eq0.false
    c.loop-parent.invariant.walks c.search_load-left.ensures.told in
    let more = further.0 in let few = further.1 in omega (arith, more, few)

use Rattle.std.proofs.Common.{◌≡◌, ◌%◌, ◌∙◌, ℕ, ap, refl, sym}
use Rattle.core_state.specs.declared.shape.Shape.{Shape}
use Rattle.prcu_marks.specs.declared.mark.Side.{Side}
use Rattle.citrus_tree.specs.Hops.{link_on}
use Rattle.seat_table.specs.Seats.{shape_of}
use Rattle.citrus_tree.proofs.Searching.{both_loaded, half_on, may_load_left, may_load_right}
use Rattle.citrus_tree.proofs.descent.load_links.Goals as goal

halves_are : (b : Side) (left right low high : ℕ) → low ≡ left % 4294967296 → high ≡ right % 4294967296
    → link_on b (left % 4294967296) (right % 4294967296) ≡ link_on b low high
halves_are b left right low high low_is high_is = ap (λ n. link_on b (left % 4294967296) n) (sym high_is)
    ∙ ap (λ n. link_on b n high) (sym low_is)

pub search_load-left-requires-clause-asks : goal.search_load-left-requires-clause-asks
search_load-left-requires-clause-asks g c = may_load_left
    (shape_of g.W.WaitWords.WAY c.args.table.now) c.args.slot c.args.side c.args.seat.now.view c.requires.slot c.requires.searching

pub search_load-right-requires-clause-asks : goal.search_load-right-requires-clause-asks
search_load-right-requires-clause-asks g c = may_load_right
    (shape_of g.W.WaitWords.WAY c.args.table.now) c.args.slot c.args.side c.args.seat.now.view c.requires.slot c.requires.searching
    c.search_load-left.result c.search_load-left.new.seat.view c.search_load-left.ensures.told

pub returns-clause-loads : goal.returns-clause-loads
returns-clause-loads g c =
    let k : Shape = shape_of g.W.WaitWords.WAY c.args.table.now in
    let i = c.requires.searching in
    let left = c.search_load-left.result in
    let right = c.search_load-right.result in
    let u = c.search_load-left.new.seat.view in
    let w = c.search_load-right.new.seat.view in
    let first = c.search_load-left.ensures.told in
    let second = c.search_load-right.ensures.told in
    let loaded = both_loaded k c.args.seat.now.view u w c.args.slot c.args.side left right _ first second refl in
    both_loaded k c.args.seat.now.view u w c.args.slot c.args.side left right _ first second
    (half_on k i.1 c.args.slot c.args.side c.args.seat.now.view left right w loaded (i.0, i.2)
    ∙ halves_are c.args.side left right _ _ c.low_half-left_slot.ensures c.low_half-right_slot.ensures ∙ sym c.link_on-ahead.ensures)

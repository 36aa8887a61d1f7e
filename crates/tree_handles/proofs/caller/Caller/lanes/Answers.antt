use Rattle.std.proofs.Common.{rules, ◌≡◌, List, sym, subst, ◌∙◌}
use Rattle.core_state.specs.declared.view.View.{View}
use Rattle.core_state.specs.Steps.{first_of}
use Rattle.list_laws.specs.Counts.{Each}
use Rattle.seat_table.specs.Seats.{SeatAt, TableAt, IsEmptyFor, IsQuietSeat}
use Rattle.tree_handles.specs.Lanes.{AreSplitOff}
use Rattle.tree_handles.proofs.LaneLists.{each_more, empty_left, empty_taken, split_one_more}
use Rattle.tree_handles.proofs.caller.Caller.lanes.Goals as goal

-- the list is empty for the table of the caller as it is by now
pub split_off-requires-clause-list : goal.split_off-requires-clause-list
split_off-requires-clause-list g c =
    let before = c.loop-given.invariant in
    subst (λ (t : TableAt). IsEmptyFor t c.in-Some-pop.list) (sym before.index.table)
    (empty_taken _ _ c.pop.ensures.items c.in-Some-pop.is before.lists)

pub loop-given-preserved : goal.loop-given-preserved
loop-given-preserved g c =
    let before = c.loop-given.invariant in
    let seats = c.loop-given.seats.items in
    let seat = c.split_off.result in
    let first = c.args.self.now in
    let has_table = λ (s : SeatAt). s.table ≡ first.table in
    let pushed = sym c.push_reserved.ensures.items in record {
      few = search rules;
      lists = empty_left _ _ c.pop.ensures.items c.in-Some-pop.is before.lists (search rules);
      left_is = search rules;
      index = search rules;
      may = search rules;
      places = search rules;
      count_is = search rules;
      length_is = search rules;
      room = search rules;
      split = subst (λ (w : View). AreSplitOff first.seat.view c.push_reserved.new.self.items w) (sym c.split_off.ensures.first)
          (subst (λ (xs : List SeatAt). AreSplitOff first.seat.view xs (first_of 1 0 c.loop-given.self.seat.view)) pushed
          (split_one_more first.seat.view seats c.loop-given.self.seat.view seat before.split c.split_off.ensures.second));
      tables = subst (λ (xs : List SeatAt). Each xs has_table) pushed
          (each_more has_table seats seat before.tables (c.split_off.ensures.table ∙ before.index.table));
      quiet = subst (λ (xs : List SeatAt). Each xs IsQuietSeat) pushed
          (each_more IsQuietSeat seats seat before.quiet c.split_off.ensures.quiet);
    }

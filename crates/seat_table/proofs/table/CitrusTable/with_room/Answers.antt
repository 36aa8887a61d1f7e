use Rattle.std.proofs.Common.{rules, ◌≡◌, length, sym, ◌∙◌}
use Rattle.core_state.specs.declared.shape.Shape.{Shape}
use Rattle.core_state.specs.Memory.{word_count}
use Rattle.seat_table.proofs.Facts.{rule_starts, first_long, first_room, first_table}
use Rattle.seat_table.proofs.table.CitrusTable.with_room.Goals as goal

pub of_words-requires : goal.of_words-requires
of_words-requires g c = rule_starts _ _ (search rules) (search rules)

pub invariant_of-seat : goal.invariant_of-seat
invariant_of-seat g c =
    let k : Shape = record {
      waiter = c.waiter_of-waiter.result;
      slots = c.args.slots;
      places = c.args.places;
      room = c.args.room;
      tickets = c.args.tickets;
    } in
    let first = first_room g.W.WaitWords.WAY k c.waiter_of-waiter.ensures (search rules) _ _ (search rules) in
    (first.0, first.1, search rules)

pub invariant_of-result : goal.invariant_of-result
invariant_of-result g c =
    let k : Shape = record {
      waiter = c.waiter_of-waiter.result;
      slots = c.args.slots;
      places = c.args.places;
      room = c.args.room;
      tickets = c.args.tickets;
    } in
    let long : length c.as_slice.result.now ≡ word_count k = first_long k c.as_slice.result.now (search rules) in
    let made = c.in_ok-table.ensures in
    let t = first_table g.W.WaitWords.WAY k c.waiter_of-waiter.ensures (search rules) _ _ (search rules) (made.0 ∙ long) in (
      t.0,
      t.1,
      t.2,
      t.3,
      t.4,
      c.rows_of.ensures.rows _ (sym t.3) (sym t.4),
      c.rows_of.ensures.few.0,
    )

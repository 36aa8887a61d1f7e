use Rattle.std.proofs.Common.{rules, ap, sym, ◌∙◌}
use Rattle.seat_table.specs.Seats.{fresh_seat}
use Rattle.tree_handles.proofs.Callers.{pairs_fit_in}
use Rattle.tree_handles.proofs.caller.Caller.new.Goals as goal

-- the table's numbers are those of the call, and that so many pairs fit follows from them
pub returns-in-Ok : goal.returns-in-Ok
returns-in-Ok g c = record {
  way_is = search rules;
  salt_is = search rules;
  slots_are = search rules;
  pairs_are = pairs_fit_in c.in-Ok.shared.value c.args.pairs c.args.handles c.args.keep (search rules) (search rules) (search rules) c.requires.handles.0;
  handles_are = search rules;
  room_is = search rules;
  tickets_are = search rules;
  seat_is = c.in_ok-table.ensures.seat.0 ∙ ap (fresh_seat g.W.WaitWords.WAY) (sym (c.in-Ok.ensures.ok ∙ c.in_ok-new.ensures));
  cookie_is = search rules;
  keeper_is = search rules;
  may = search rules;
}

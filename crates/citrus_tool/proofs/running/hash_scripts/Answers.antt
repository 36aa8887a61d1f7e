use Rattle.std.proofs.Common.{sym, arith}
use Rattle.citrus_tool.proofs.Leavings.{explained_as, table_beside, none_hashed}
use Rattle.citrus_tool.proofs.running.hash_scripts.Goals as goal

pub make_account-requires-clause-explained : goal.make_account-requires-clause-explained
make_account-requires-clause-explained g c =
    let slots = c.default_slots-2.result in
    explained_as c.args.scripts.now _ _ _ _ slots c.deref.ensures.value c.deref-2.ensures.value (c.in_ok-ended.ensures.explained slots)

pub returns-then-count-eq0 : goal.returns-then-count-eq0
returns-then-count-eq0 g c =
    none_hashed c.args.scripts.now c.default_slots.result c.in_ok-account_of_none.field-0.items
    (omega (arith, c.count.ensures.count, c.if-count-eq0.true)) c.default_slots.ensures c.in_ok-account_of_none.ensures

pub returns : goal.returns
returns g c =
    let e = c.in_ok-ended.ensures in
    table_beside c.deref.ensures.value c.deref-2.ensures.value c.in_ok-text.ensures c.in_ok-ended.ended.table c.in_ok-ended.ended.seat
    (omega (arith, c.count.ensures.count, c.if-count-eq0.false))
    c.default_slots-2.ensures
    (record {
      run = e.run;
      of_table = e.seat;
      capacities = e.capacities;
      places = e.places;
      tickets = e.tickets;
      quiet = e.quiet;
      answers = e.answers;
      informed = e.informed;
      marks = record { fits = e.marks; updates = sym e.history };
      waits = e.waits;
    })

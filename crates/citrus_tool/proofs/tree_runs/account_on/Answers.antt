use Rattle.std.proofs.Common.{length, sym}
use Rattle.tree_run.specs.Runs.{run_with}
use Rattle.citrus_tool.proofs.Leavings.{explained_as, tree_beside}
use Rattle.citrus_tool.proofs.tree_runs.account_on.Goals as goal

pub make_account-requires-clause-explained : goal.make_account-requires-clause-explained
make_account-requires-clause-explained g c =
    explained_as c.args.scripts.now _ _ _ _ c.args.slots c.deref.ensures.value c.deref-2.ensures.value c.in_ok-ran.ensures.explained

pub returns : goal.returns
returns g c =
    let e = c.in_ok-ran.ensures in
    let ran = c.in_ok-ran.ran in
    tree_beside c.deref.ensures.value c.deref-2.ensures.value c.in_ok-text.ensures (run_with g.W.WaitWords.WAY c.args.cookies)
    (length c.args.scripts.now) ran.table ran.seat e.within
    (record {
      run = e.run;
      of_table = e.seat;
      slots_are = e.table.0;
      places_are = e.table.1;
      room_is = e.room;
      tickets = e.table.2;
      quiet = e.quiet;
      answers = e.answers;
      informed = e.informed;
      marks = record { fits = e.marks; updates = sym e.history };
    })

use Rattle.std.proofs.Common.{◌+◌, List, sym, subst}
use Rattle.prcu_model.specs.declared.operation.Told.{Told}
use Rattle.prcu_model.specs.Scripts.{Roomy, entries_of}
use Rattle.prcu_model.specs.Fronts.{StaysWithin}
use Rattle.account_text.specs.Account.{HaveReplies}
use Rattle.seat_table.specs.Seats.{way_of}
use Rattle.tree_watch.specs.Snapshots.{IsWatchText}
use Rattle.citrus_tool.specs.declared.tree_runs.Written.{Written}
use Rattle.citrus_tool.specs.Leavings.{IsWatchedTree}
use Rattle.citrus_tool.proofs.Leavings.{explained_as, watched_beside}
use Rattle.citrus_tool.proofs.watching.watch_on.Goals as goal

pub make_watch_text-requires-clause-explained : goal.make_watch_text-requires-clause-explained
make_watch_text-requires-clause-explained g c =
    explained_as c.args.scripts.now _ _ _ _ c.args.slots c.deref.ensures.value c.deref-2.ensures.value c.in_ok-ran.ensures.explained

pub returns : goal.returns
returns g c =
    let e = c.in_ok-ran.ensures in
    let ran = c.in_ok-ran.ran in
    subst (λ (made : Written g.row.W.Denot). (watch : IsWatchText c.args.scripts.now c.args.slots c.args.keys.low c.args.keys.high
    made.text.items) × StaysWithin watch.account.history (c.args.slots + 20)
    × ((told : List (Roomy Told)) × IsWatchedTree (way_of g.W.WaitWords.WAY) c.args.scripts.now c.args.slots told watch.account.history
    watch.snapshots made.table made.seat × HaveReplies (entries_of told) watch.account.lines)) (sym c.written_of.ensures)
    (watched_beside c.args.scripts.now c.args.slots c.args.keys.low c.args.keys.high c.in_ok-text.text.items
    (way_of g.W.WaitWords.WAY) ran.told.items c.deref.result.now ran.history.items c.deref-2.result.now ran.snapshots ran.table ran.seat
    c.deref.ensures.value c.deref-2.ensures.value e.within (
      record {
        run = e.run;
        of_table = e.seat;
        slots_are = e.table.0;
        places_are = e.table.1;
        room_is = e.room;
        tickets = e.table.2;
        quiet = e.quiet;
        answers = e.answers;
        informed = e.informed;
        marks = record { fits = e.marks; updates = sym e.history };
      },
      e.looked,
    )
    c.in_ok-text.ensures)

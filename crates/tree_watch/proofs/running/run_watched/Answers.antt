use Rattle.std.proofs.Common.{sym, subst}
use Rattle.prcu_model.specs.Scripts.{entries_of}
use Rattle.prcu_model.specs.Fronts.{all_told_lines}
use Rattle.prcu_marks.specs.Marks.{updates_of}
use Rattle.client_run.proofs.Histories.{AreOneToCount-own}
use Rattle.tree_watch.specs.Snapshots.{AreSnapshots}
use Rattle.tree_watch.proofs.Watched.{watched_explained, watched_merged}
use Rattle.tree_watch.proofs.running.run_watched.Goals as goal

pub merge-requires-clause-lengths : goal.merge-requires-clause-lengths
merge-requires-clause-lengths g c =
    let w = c.in_ok-watched.ensures in
    (watched_explained w.run w.stays w.idle c.requires.scripts.0 c.in_ok-table.ensures.table c.in_ok-table.ensures.room c.count-places.ensures.count
    c.deref.ensures.value).lengths

pub merge-requires-clause-numbers : goal.merge-requires-clause-numbers
merge-requires-clause-numbers g c =
    let w = c.in_ok-watched.ensures in
    let all = watched_explained w.run w.stays w.idle c.requires.scripts.0 c.in_ok-table.ensures.table c.in_ok-table.ensures.room c.count-places.ensures.count
    c.deref.ensures.value in
    AreOneToCount-own (updates_of c.in_ok-watched.watched.seat.view.seen)
    (all_told_lines c.args.scripts.now (entries_of c.deref.result.now)) all.explained.updates

pub returns-clause-explained : goal.returns-clause-explained
returns-clause-explained g c =
    let w = c.in_ok-watched.ensures in
    (watched_merged w.run w.stays w.idle c.requires.scripts.0 c.in_ok-table.ensures.table c.in_ok-table.ensures.room c.count-places.ensures.count c.deref.ensures.value
    c.in_ok-history.ensures.only).explained

pub returns-clause-legal : goal.returns-clause-legal
returns-clause-legal g c =
    let w = c.in_ok-watched.ensures in
    (watched_merged w.run w.stays w.idle c.requires.scripts.0 c.in_ok-table.ensures.table c.in_ok-table.ensures.room c.count-places.ensures.count c.deref.ensures.value
    c.in_ok-history.ensures.only).legal

pub returns-clause-within : goal.returns-clause-within
returns-clause-within g c =
    let w = c.in_ok-watched.ensures in
    (watched_merged w.run w.stays w.idle c.requires.scripts.0 c.in_ok-table.ensures.table c.in_ok-table.ensures.room c.count-places.ensures.count c.deref.ensures.value
    c.in_ok-history.ensures.only).within

pub returns-clause-history : goal.returns-clause-history
returns-clause-history g c =
    let w = c.in_ok-watched.ensures in
    (watched_merged w.run w.stays w.idle c.requires.scripts.0 c.in_ok-table.ensures.table c.in_ok-table.ensures.room c.count-places.ensures.count c.deref.ensures.value
    c.in_ok-history.ensures.only).history_is

pub returns-clause-snapshots : goal.returns-clause-snapshots
returns-clause-snapshots g c =
    let w = c.in_ok-watched.ensures in
    let merged = watched_merged w.run w.stays w.idle c.requires.scripts.0 c.in_ok-table.ensures.table c.in_ok-table.ensures.room c.count-places.ensures.count
    c.deref.ensures.value c.in_ok-history.ensures.only in
    subst (λ h. AreSnapshots h c.args.keys.low c.args.keys.high 0 c.in_ok-watched.watched.snapshots) (sym merged.history_is) w.snapshots

pub returns-clause-marks : goal.returns-clause-marks
returns-clause-marks g c =
    let w = c.in_ok-watched.ensures in
    (watched_merged w.run w.stays w.idle c.requires.scripts.0 c.in_ok-table.ensures.table c.in_ok-table.ensures.room c.count-places.ensures.count c.deref.ensures.value
    c.in_ok-history.ensures.only).marks

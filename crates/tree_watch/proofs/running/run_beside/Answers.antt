use Rattle.std.proofs.Common.{false, length}
use Rattle.std.proofs.lemmas.Result.{IfOk-at_ok}
use Rattle.seat_table.specs.Seats.{shape_of}
use Rattle.tree_run.specs.Runs.{run_with, HasRun}
use Rattle.tree_run.proofs.Finished.{run_beside}
use Rattle.tree_watch.proofs.Watched.{snapshots_seen, joined_idle, joined_answers, joined_looked}
use Rattle.tree_watch.proofs.running.run_beside.Goals as goal

pub returns-clause-run : goal.returns-clause-run
returns-clause-run g c =
    let ran = IfOk-at_ok
    (λ r. HasRun (run_with g.W.WaitWords.WAY false) c.args.table.now c.args.scripts.now r.told.items r.seat) c.in_ok-run.was
    c.join-ran.ensures.first.0 in
    run_beside ran c.join-ran.result.1.0 c.join.result c.join.ensures.own c.join.ensures.told.1.informed

pub returns-clause-stays : goal.returns-clause-stays
returns-clause-stays g c = c.join.ensures.told.1.stays

pub returns-clause-idle : goal.returns-clause-idle
returns-clause-idle g c =
    joined_idle c.args.table.now
    (length c.args.scripts.now) c.in_ok-run.run'.seat c.join-ran.result.1.0 c.join.result c.join-ran.ensures.second.1.0
    c.join.ensures.own

pub returns-clause-answers : goal.returns-clause-answers
returns-clause-answers g c =
    let ran = IfOk-at_ok
    (λ r. HasRun (run_with g.W.WaitWords.WAY false) c.args.table.now c.args.scripts.now r.told.items r.seat) c.in_ok-run.was
    c.join-ran.ensures.first.0 in
    joined_answers ran c.join-ran.result.1.0 c.join.result c.join-ran.ensures.second.1.0 c.join.ensures.own

pub returns-clause-snapshots : goal.returns-clause-snapshots
returns-clause-snapshots g c =
    snapshots_seen c.args.keys.low c.args.keys.high c.join-ran.result.1.0.view.seen c.join.result.view.seen 0 c.join-ran.result.1.1
    c.join.ensures.own.second_seen c.join-ran.ensures.second.1.1.0

pub returns-clause-looked : goal.returns-clause-looked
returns-clause-looked g c =
    joined_looked (shape_of g.W.WaitWords.WAY c.args.table.now) c.args.table.now
    (length c.args.scripts.now) c.join.ensures.told.0 c.in_ok-run.run'.seat c.join-ran.result.1.0 c.join.result c.join-ran.result.1.1
    c.join.ensures.told.1 c.join-ran.ensures.second.1.1.1

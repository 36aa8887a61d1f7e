use Rattle.std.proofs.Common.{refl, sym, subst, ◌∙◌, arith}
use Rattle.std.proofs.lemmas.List.{length-map}
use Rattle.prcu_model.specs.Scripts.{entries_of}
use Rattle.prcu_model.specs.Dictionary.{IsLegal}
use Rattle.prcu_model.specs.Fronts.{StaysWithin, all_told_lines, AreExplainable}
use Rattle.prcu_marks.specs.Marks.{updates_of}
use Rattle.client_run.specs.Crews.{Work}
use Rattle.client_run.proofs.Histories.{AreOneToCount-own}
use Rattle.tree_run.specs.Runs.{ScriptClientAt}
use Rattle.tree_run.proofs.Finished.{alone_explained, alone_marks}
use Rattle.tree_run.proofs.running.run_scripts.Goals as goal

pub merge-requires-clause-lengths : goal.merge-requires-clause-lengths
merge-requires-clause-lengths g c =
    let made = c.in_ok-table.ensures.table in
    let ran = c.in_ok-ran.ensures in
    let all = alone_explained ran.run ran.stays (made.1 ∙ c.count.ensures.count) made.0 c.in_ok-table.ensures.room c.deref.ensures.value in
    all.lengths

pub merge-requires-clause-numbers : goal.merge-requires-clause-numbers
merge-requires-clause-numbers g c =
    let made = c.in_ok-table.ensures.table in
    let ran = c.in_ok-ran.ensures in
    let all = alone_explained ran.run ran.stays (made.1 ∙ c.count.ensures.count) made.0 c.in_ok-table.ensures.room c.deref.ensures.value in
    AreOneToCount-own (updates_of c.in_ok-ran.ran.seat.view.seen)
    (all_told_lines c.args.scripts.now (entries_of c.deref.result.now)) all.explained.updates

pub returns-clause-explained : goal.returns-clause-explained
returns-clause-explained g c =
    let made = c.in_ok-table.ensures.table in
    let ran = c.in_ok-ran.ensures in
    let all = alone_explained ran.run ran.stays (made.1 ∙ c.count.ensures.count) made.0 c.in_ok-table.ensures.room c.deref.ensures.value in
    let history = c.in_ok-history.ensures.only (updates_of c.in_ok-ran.ran.seat.view.seen) all.explained.updates in
    subst (λ h. AreExplainable c.args.scripts.now (entries_of c.in_ok-ran.ran.told.items) h c.args.slots) (sym history)
    (alone_explained ran.run ran.stays (made.1 ∙ c.count.ensures.count) made.0 c.in_ok-table.ensures.room refl)

pub returns-clause-history : goal.returns-clause-history
returns-clause-history g c =
    let made = c.in_ok-table.ensures.table in
    let ran = c.in_ok-ran.ensures in
    let all = alone_explained ran.run ran.stays (made.1 ∙ c.count.ensures.count) made.0 c.in_ok-table.ensures.room c.deref.ensures.value in
    let history = c.in_ok-history.ensures.only (updates_of c.in_ok-ran.ran.seat.view.seen) all.explained.updates in
    history

pub returns-clause-legal : goal.returns-clause-legal
returns-clause-legal g c =
    let made = c.in_ok-table.ensures.table in
    let ran = c.in_ok-ran.ensures in
    let all = alone_explained ran.run ran.stays (made.1 ∙ c.count.ensures.count) made.0 c.in_ok-table.ensures.room c.deref.ensures.value in
    let history = c.in_ok-history.ensures.only (updates_of c.in_ok-ran.ran.seat.view.seen) all.explained.updates in
    subst IsLegal (sym history) ran.run.informed.legal

pub returns-clause-within : goal.returns-clause-within
returns-clause-within g c =
    let made = c.in_ok-table.ensures.table in
    let ran = c.in_ok-ran.ensures in
    let all = alone_explained ran.run ran.stays (made.1 ∙ c.count.ensures.count) made.0 c.in_ok-table.ensures.room c.deref.ensures.value in
    let history = c.in_ok-history.ensures.only (updates_of c.in_ok-ran.ran.seat.view.seen) all.explained.updates in
    subst (λ h. StaysWithin h c.args.slots) (sym history)
    (subst (StaysWithin (updates_of c.in_ok-ran.ran.seat.view.seen)) made.0 ran.stays.within)

pub returns-clause-answers : goal.returns-clause-answers
returns-clause-answers g c = λ place below.
    let run = c.in_ok-ran.ensures.run.ran in
    let clients = length-map run.workers (λ (w : Work ScriptClientAt). w.client) in
    let count = run.count in
    let hired = run.crew.count in
    run.joined.answers place (omega (arith, clients, count, hired, below))

pub returns-clause-marks : goal.returns-clause-marks
returns-clause-marks g c =
    let made = c.in_ok-table.ensures.table in
    alone_marks c.in_ok-ran.ensures.run c.in_ok-ran.ensures.stays (made.1 ∙ c.count.ensures.count)

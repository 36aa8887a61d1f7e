use Rattle.std.proofs.Common.{map, refl, sym, subst, ◌∙◌, arith}
use Rattle.std.proofs.lemmas.List.{length-map}
use Rattle.prcu_marks.specs.declared.mark.Mark.TheVariants.{Began}
use Rattle.prcu_model.specs.Scripts.{entries_of}
use Rattle.prcu_model.specs.Dictionary.{IsLegal}
use Rattle.prcu_marks.specs.Marks.{updates_of}
use Rattle.prcu_model.specs.Fronts.{all_told_lines, AreExplainable}
use Rattle.client_run.specs.Crews.{Work}
use Rattle.client_run.proofs.Histories.{AreOneToCount-own}
use Rattle.class_hash.specs.Replies.{ClientAt}
use Rattle.hash_run.proofs.Finished.{all_done, has_run, told_explained, told_marks}
use Rattle.hash_run.proofs.running.run_scripts.Goals as goal

pub gather-seat-requires-clause-done : goal.gather-seat-requires-clause-done
gather-seat-requires-clause-done g c =
    all_done c.in_ok-table.table c.args.scripts.now c.in_ok-workers.workers.items c.run_crew.result.items
    (c.in_ok-workers.ensures) c.run_crew.ensures.count c.run_crew.ensures.made

pub merge-requires-clause-lengths : goal.merge-requires-clause-lengths
merge-requires-clause-lengths g c =
    let made = c.in_ok-table.ensures.made in
    let run = has_run c.run_crew.result.items c.in_ok-workers.ensures c.run_crew.ensures.count c.run_crew.ensures.made
    c.gather-seat.ensures.joined
    c.deref.ensures.value c.gather-seat.ensures.told c.in_ok-told.ensures.items in
    let all = told_explained run (made.1 ∙ c.count-count.ensures.count) made.0 c.in_ok-capacities.ensures.capacities in
    (all 0).lengths

pub merge-requires-clause-numbers : goal.merge-requires-clause-numbers
merge-requires-clause-numbers g c =
    let made = c.in_ok-table.ensures.made in
    let run = has_run c.run_crew.result.items c.in_ok-workers.ensures c.run_crew.ensures.count c.run_crew.ensures.made
    c.gather-seat.ensures.joined
    c.deref.ensures.value c.gather-seat.ensures.told c.in_ok-told.ensures.items in
    let all = told_explained run (made.1 ∙ c.count-count.ensures.count) made.0 c.in_ok-capacities.ensures.capacities in
    AreOneToCount-own (updates_of c.gather-seat.result.view.seen) (all_told_lines c.args.scripts.now (entries_of c.deref.result.now))
    (all 0).explained.updates

pub returns-clause-run : goal.returns-clause-run
returns-clause-run g c = has_run c.run_crew.result.items c.in_ok-workers.ensures c.run_crew.ensures.count c.run_crew.ensures.made
    c.gather-seat.ensures.joined
    refl c.gather-seat.ensures.told c.in_ok-told.ensures.items

pub returns-clause-explained : goal.returns-clause-explained
returns-clause-explained g c slots =
    let made = c.in_ok-table.ensures.made in
    let run = has_run c.run_crew.result.items c.in_ok-workers.ensures c.run_crew.ensures.count c.run_crew.ensures.made
    c.gather-seat.ensures.joined
    c.deref.ensures.value c.gather-seat.ensures.told c.in_ok-told.ensures.items in
    let all = told_explained run (made.1 ∙ c.count-count.ensures.count) made.0 c.in_ok-capacities.ensures.capacities in
    let history = c.in_ok-history.ensures.only (updates_of c.gather-seat.result.view.seen) (all 0).explained.updates in
    subst (λ ts. AreExplainable c.args.scripts.now (entries_of ts) c.in_ok-history.history.items slots) c.deref.ensures.value
    (subst (λ h. AreExplainable c.args.scripts.now (entries_of c.deref.result.now) h slots) (sym history) (all slots))

pub returns-clause-legal : goal.returns-clause-legal
returns-clause-legal g c =
    let made = c.in_ok-table.ensures.made in
    let run = has_run c.run_crew.result.items c.in_ok-workers.ensures c.run_crew.ensures.count c.run_crew.ensures.made
    c.gather-seat.ensures.joined
    c.deref.ensures.value c.gather-seat.ensures.told c.in_ok-told.ensures.items in
    let all = told_explained run (made.1 ∙ c.count-count.ensures.count) made.0 c.in_ok-capacities.ensures.capacities in
    let history = c.in_ok-history.ensures.only (updates_of c.gather-seat.result.view.seen) (all 0).explained.updates in
    subst IsLegal (sym history) c.gather-seat.ensures.joined.informed.legal

pub returns-clause-history : goal.returns-clause-history
returns-clause-history g c =
    let made = c.in_ok-table.ensures.made in
    let run = has_run c.run_crew.result.items c.in_ok-workers.ensures c.run_crew.ensures.count c.run_crew.ensures.made
    c.gather-seat.ensures.joined
    c.deref.ensures.value c.gather-seat.ensures.told c.in_ok-told.ensures.items in
    let all = told_explained run (made.1 ∙ c.count-count.ensures.count) made.0 c.in_ok-capacities.ensures.capacities in
    c.in_ok-history.ensures.only (updates_of c.gather-seat.result.view.seen) (all 0).explained.updates

pub returns-clause-marks : goal.returns-clause-marks
returns-clause-marks g c =
    let made = c.in_ok-table.ensures.made in
    let run = has_run c.run_crew.result.items c.in_ok-workers.ensures c.run_crew.ensures.count c.run_crew.ensures.made
    c.gather-seat.ensures.joined
    refl c.gather-seat.ensures.told c.in_ok-told.ensures.items in
    told_marks run (made.1 ∙ c.count-count.ensures.count) made.0 c.in_ok-capacities.ensures.capacities

pub returns-clause-waits : goal.returns-clause-waits
returns-clause-waits g c = λ j place count low high there. c.gather-seat.ensures.joined.informed.marks.others j
    (Began place count low high) there

pub returns-clause-answers : goal.returns-clause-answers
returns-clause-answers g c = λ place below.
    let hired = c.in_ok-workers.ensures.count in
    let ran = c.run_crew.ensures.count in
    let clients = length-map c.run_crew.result.items (λ (w : Work ClientAt). w.client) in
    let views = length-map (map (λ (w : Work ClientAt). w.client) c.run_crew.result.items) (λ (client : ClientAt). client.view) in
    c.gather-seat.ensures.joined.joined.answers place (omega arith)

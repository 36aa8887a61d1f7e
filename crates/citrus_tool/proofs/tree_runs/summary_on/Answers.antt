use Rattle.std.proofs.Common.{false, length, sym, ap, subst, ◌∙◌}
use Rattle.prcu_model.specs.Scripts.{entries_of, default_slots_of}
use Rattle.prcu_model.specs.Dictionary.{map_of}
use Rattle.prcu_model.specs.Fronts.{AreExplainable}
use Rattle.workload.specs.Summaries.{summary_with}
use Rattle.tree_run.specs.Runs.{run_with}
use Rattle.citrus_tool.specs.Leavings.{IsTreeLeftOf}
use Rattle.citrus_tool.proofs.Leavings.{explained_as}
use Rattle.citrus_tool.proofs.tree_runs.summary_on.Goals as goal

pub summary_of-requires-clause-explainable : goal.summary_of-requires-clause-explainable
summary_of-requires-clause-explainable g c =
    let scripts = c.args.scripts.now in
    explained_as scripts _ _ _ _ (default_slots_of scripts) c.deref.ensures.value c.deref-2.ensures.value
    (subst (λ s. AreExplainable scripts
    (entries_of c.in_ok-ran.ran.told.items) c.in_ok-ran.ran.history.items s) c.default_slots.ensures.default
    c.in_ok-ran.ensures.explained)

pub returns-clause-left : goal.returns-clause-left
returns-clause-left g c =
    let scripts = c.args.scripts.now in
    let e = c.in_ok-ran.ensures in
    let ran = c.in_ok-ran.ran in
    let default = c.default_slots.ensures.default in (
      ran.told.items,
      ran.history.items,
      subst (λ s. IsTreeLeftOf (run_with g.W.WaitWords.WAY false) scripts s
          (length scripts) ran.told.items ran.history.items ran.table ran.seat) default
          (record {
            run = e.run;
            of_table = e.seat;
            slots_are = e.table.0;
            places_are = e.table.1;
            room_is = e.room;
            tickets = e.table.2;
            quiet = e.quiet;
            answers = e.answers;
            informed = e.informed;
            marks = record { fits = e.marks; updates = sym e.history };
          }),
      record {
        explained = subst (λ s. AreExplainable scripts (entries_of ran.told.items) ran.history.items s) default e.explained;
        legal = e.legal;
        counted = sym c.in_ok-summary.ensures.plain ∙ c.in_ok-summary.ensures.counted
            ∙ ap (λ ts. summary_with scripts (entries_of ts) (map_of c.deref-2.result.now)) c.deref.ensures.value
            ∙ ap (λ h. summary_with scripts (entries_of ran.told.items) (map_of h)) c.deref-2.ensures.value;
      },
    )

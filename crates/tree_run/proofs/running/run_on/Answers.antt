use Rattle.std.proofs.Common.{◌++◌, map, ap, ◌∙◌}
use Rattle.client_run.specs.Crews.{Work}
use Rattle.tree_run.specs.Runs.{ScriptClientAt, run_with}
use Rattle.tree_run.proofs.Finished.{all_done}
use Rattle.tree_run.proofs.running.run_on.Goals as goal

pub gather-seat-requires-clause-done : goal.gather-seat-requires-clause-done
gather-seat-requires-clause-done g c =
    all_done (run_with g.W.WaitWords.WAY c.args.cookies) c.args.table.now c.args.scripts.now c.in_ok-workers.workers.items
    c.run_crew.result.items c.in_ok-workers.ensures c.run_crew.ensures.count c.run_crew.ensures.made

pub returns-clause-run : goal.returns-clause-run
returns-clause-run g c = record {
  ran = record {
    hired = c.in_ok-workers.workers.items;
    workers = c.run_crew.result.items;
    crew = c.in_ok-workers.ensures;
    count = c.run_crew.ensures.count;
    made = c.run_crew.ensures.made;
    told_is = c.gather-seat.ensures.told ∙ ap (λ ts. ts
        ++ map (λ (w : Work ScriptClientAt). w.told) c.run_crew.result.items) c.in_ok-told.ensures.items;
    joined = c.gather-seat.ensures.joined;
  };
  informed = c.gather-seat.ensures.informed;
}

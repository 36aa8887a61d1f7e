use Rattle.std.proofs.Common.{ap, ◌∙◌, arith}
use Rattle.std.specs.List.{slice_get}
use Rattle.client_run.proofs.Crews.{gathered_first, gathered_next, gathered_more}
use Rattle.hash_core.specs.declared.view.View.{View}
use Rattle.class_hash.specs.Replies.{ClientAt}
use Rattle.hash_run.specs.Crews.{IsDone, StandsFor}
use Rattle.hash_run.proofs.Finished.{stands_first, stands_more}
use Rattle.hash_run.proofs.gathering.gather.Goals as goal

pub loop-seat-init : goal.loop-seat-init
loop-seat-init g c =
    let d = c.dismiss_first-seat.ensures.seat in
    let done = c.requires.done 0 d.worker (ap (λ ws. slice_get ws 0) d.first) in
    record {
      of_table = c.dismiss_first-seat.ensures.table d.worker d.first ∙ ap (λ (t : _). t.id) done.table_is;
      quiet = c.dismiss_first-seat.ensures.quiet;
      gathered = gathered_first (λ (client : ClientAt). client.view) (IsDone c.args.table.now)
          (StandsFor c.args.table.now) c.args.workers.items c.args.told.now.items c.requires.done
          c.dismiss_first-seat.new.workers.items c.dismiss_first-seat.new.told.items c.dismiss_first-seat.result.view d
          (λ client done same. stands_first c.args.table.now client c.dismiss_first-seat.result.view done
          c.dismiss_first-seat.ensures.quiet same);
      room = (let l = c.dismiss_first-seat.ensures.lengths in let n = c.dismiss_first-seat.ensures.room in let was = c.requires.room in
          omega arith);
    }

pub join-seat-requires-clause-table : goal.join-seat-requires-clause-table
join-seat-requires-clause-table g c =
    let d = c.dismiss_first.ensures.seat in
    let done = gathered_next (λ (client : ClientAt). client.view) (IsDone c.args.table.now)
    (StandsFor c.args.table.now) c.args.workers.items c.args.told.now.items c.requires.done
    c.loop-seat.rest.items c.dismiss_first.new.workers.items c.loop-seat.told.items c.dismiss_first.new.told.items c.loop-seat.seat.view
    c.dismiss_first.result.view c.loop-seat.invariant.gathered d in
    (c.loop-seat.invariant.of_table, c.dismiss_first.ensures.table d.worker d.first ∙ ap (λ (t : _). t.id) done.table_is)

pub loop-seat-preserved : goal.loop-seat-preserved
loop-seat-preserved g c =
    let j = c.join-seat.ensures in
    record {
      of_table = j.table ∙ c.loop-seat.invariant.of_table;
      quiet = (
        ap (λ (z : View). z.section) j.view.1 ∙ c.loop-seat.invariant.quiet.0,
        ap (λ (z : View). z.hold) j.view.1 ∙ c.loop-seat.invariant.quiet.1,
      );
      gathered = gathered_more (λ (client : ClientAt). client.view) (IsDone c.args.table.now)
          (StandsFor c.args.table.now) c.args.workers.items c.args.told.now.items c.requires.done
          c.loop-seat.rest.items c.dismiss_first.new.workers.items c.loop-seat.told.items c.dismiss_first.new.told.items
          c.loop-seat.seat.view c.dismiss_first.result.view c.join-seat.result.view c.loop-seat.invariant.gathered
          c.dismiss_first.ensures.seat
          (λ cs client done same so_far. stands_more c.args.table.now cs client c.loop-seat.seat.view c.dismiss_first.result.view
          c.join-seat.result.view j.view.0 done so_far c.dismiss_first.ensures.quiet same j.view.1 j.seen.0 j.seen.1 j.informed);
      room = (let l = c.dismiss_first.ensures.lengths in let n = c.dismiss_first.ensures.room in let was = c.loop-seat.invariant.room in
          omega arith);
    }

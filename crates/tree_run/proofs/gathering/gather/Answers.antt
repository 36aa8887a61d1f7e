use Rattle.std.proofs.Common.{◌≡◌, ◌≤◌, [], map, vec_len, sym, ap, subst, ◌∙◌, arith}
use Rattle.std.proofs.lemmas.Bool.{eqb-true}
use Rattle.std.proofs.lemmas.List.{nil_from_length}
use Rattle.client_run.specs.Crews.{Work, IsGathered}
use Rattle.client_run.proofs.Crews.{gathered_first, gathered_next, gathered_more, gathered_all}
use Rattle.seat_table.specs.Seats.{SeatAt, KeepsOwn}
use Rattle.tree_run.specs.Runs.{ScriptClientAt, IsDone, StandsFor}
use Rattle.tree_run.proofs.Finished.{joined_first, joined_more, looked_still}
use Rattle.tree_run.proofs.gathering.gather.Goals as goal

pub loop-seat-init : goal.loop-seat-init
loop-seat-init g c =
    let d = c.dismiss_first-seat.ensures.seat in
    let done = c.requires.done 0 d.worker (ap (λ ws. Rattle.std.specs.List.slice_get ws 0) d.first) in
    record {
      gathered = gathered_first (λ (client : ScriptClientAt). client.tree.seat)
          (IsDone c.args.table.now) StandsFor c.args.workers.items c.args.told.now.items c.requires.done
          c.dismiss_first-seat.new.workers.items c.dismiss_first-seat.new.told.items c.dismiss_first-seat.result d
          (λ client done same. joined_first c.args.table.now client c.dismiss_first-seat.result done c.dismiss_first-seat.ensures.works
          same);
      of_table = c.dismiss_first-seat.ensures.table d.worker d.first ∙ done.table_is;
      quiet = c.dismiss_first-seat.ensures.quiet;
      room = (let l = c.dismiss_first-seat.ensures.lengths in let n = c.dismiss_first-seat.ensures.room in let was = c.requires.room in
          omega arith);
    }

pub join-seat-requires-clause-table : goal.join-seat-requires-clause-table
join-seat-requires-clause-table g c =
    let d = c.dismiss_first.ensures.seat in
    let done = gathered_next (λ (client : ScriptClientAt). client.tree.seat)
    (IsDone c.args.table.now) StandsFor c.args.workers.items c.args.told.now.items c.requires.done
    c.loop-seat.rest.items c.dismiss_first.new.workers.items c.loop-seat.told.items c.dismiss_first.new.told.items c.loop-seat.seat
    c.dismiss_first.result c.loop-seat.invariant.gathered d in
    (c.loop-seat.invariant.of_table, c.dismiss_first.ensures.table d.worker d.first ∙ done.table_is)

pub loop-seat-preserved : goal.loop-seat-preserved
loop-seat-preserved g c =
    let j = c.join-seat.ensures in
    record {
      gathered = gathered_more (λ (client : ScriptClientAt). client.tree.seat)
          (IsDone c.args.table.now) StandsFor c.args.workers.items c.args.told.now.items c.requires.done
          c.loop-seat.rest.items c.dismiss_first.new.workers.items c.loop-seat.told.items c.dismiss_first.new.told.items c.loop-seat.seat
          c.dismiss_first.result c.join-seat.result c.loop-seat.invariant.gathered c.dismiss_first.ensures.seat
          (λ cs client done same so_far. joined_more c.args.table.now cs client c.loop-seat.seat c.join-seat.result done
          (subst (λ (s : SeatAt). 1 ≤ s.view.allowance.places) same c.dismiss_first.ensures.works) so_far
          (subst (λ (s : SeatAt). KeepsOwn c.loop-seat.seat.view s.view c.join-seat.result.view) same j.own));
      of_table = j.seat.0 ∙ c.loop-seat.invariant.of_table;
      quiet = j.quiet;
      room = (let l = c.dismiss_first.ensures.lengths in let n = c.dismiss_first.ensures.room in let was = c.loop-seat.invariant.room in
          omega arith);
    }

pub returns-clause-joined : goal.returns-clause-joined
returns-clause-joined g c =
    let none : c.loop-seat.rest.items ≡ [] = nil_from_length c.loop-seat.rest.items
    (sym c.loop-seat.rest.ok.0 ∙ eqb-true (vec_len c.loop-seat.rest) 0 (sym c.is_empty.ensures ∙ c.loop-seat-test.false)) in
    let whole : IsGathered StandsFor c.args.workers.items [] c.args.told.now.items c.loop-seat.told.items c.loop-seat.seat =
    subst (λ ws. IsGathered StandsFor c.args.workers.items ws c.args.told.now.items c.loop-seat.told.items c.loop-seat.seat) none
    c.loop-seat.invariant.gathered in
    let all = gathered_all (λ (client : ScriptClientAt). client.tree.seat)
    (IsDone c.args.table.now) StandsFor c.args.workers.items c.args.told.now.items c.requires.done c.loop-seat.told.items
    c.loop-seat.seat whole in
    let told = c.load_clock.ensures.told in
    looked_still (map
    (λ (w : Work ScriptClientAt). w.client) c.args.workers.items) c.loop-seat.seat c.load_clock.new.seat c.load_clock.result told.marks
    told.goes all.0

pub returns-clause-told : goal.returns-clause-told
returns-clause-told g c =
    let none : c.loop-seat.rest.items ≡ [] = nil_from_length c.loop-seat.rest.items
    (sym c.loop-seat.rest.ok.0 ∙ eqb-true (vec_len c.loop-seat.rest) 0 (sym c.is_empty.ensures ∙ c.loop-seat-test.false)) in
    let whole : IsGathered StandsFor c.args.workers.items [] c.args.told.now.items c.loop-seat.told.items c.loop-seat.seat =
    subst (λ ws. IsGathered StandsFor c.args.workers.items ws c.args.told.now.items c.loop-seat.told.items c.loop-seat.seat) none
    c.loop-seat.invariant.gathered in
    (gathered_all (λ (client : ScriptClientAt). client.tree.seat)
    (IsDone c.args.table.now) StandsFor c.args.workers.items c.args.told.now.items c.requires.done c.loop-seat.told.items
    c.loop-seat.seat whole).1

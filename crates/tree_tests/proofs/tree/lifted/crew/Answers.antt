use Rattle.std.proofs.Common.{◌≡◌, ℕ, ◌+◌, ◌/◌, List, [], ◌∷◌, ◌++◌, length, get_or, refl, sym, ap, subst, ◌∙◌, arith, length-append}
use Rattle.std.proofs.lemmas.Option.{get_or_from_slice_get}
use Rattle.prcu_model.specs.declared.operation.Op.{Op}
use Rattle.core_state.specs.declared.view.View.{View}
use Rattle.client_run.specs.Crews.{IsReadyFor, AreReadyFor}
use Rattle.client_run.proofs.Crews.{AreReadyFor-nil, AreReadyFor-push}
use Rattle.tree_tests.proofs.tree.lifted.crew.Goals as goal

pub loop-i-init : goal.loop-i-init
loop-i-init g c = rw c.new-workers.ensures.items
    (record {
      table = c.requires.0;
      quiet = c.requires.1;
      many = refl;
      ready = AreReadyFor-nil (λ (client : ℕ). client) c.args.scripts.now;
    })

pub loop-i-preserved : goal.loop-i-preserved
loop-i-preserved g c =
    let workers = c.loop-i.workers.items in
    let worker = c.in_ok-new.field-0 in
    let script = c.script-calls.result.now in
    let read : script ≡ get_or c.args.scripts.now (length workers) [] =
    sym (get_or_from_slice_get c.args.scripts.now c.loop-i.i script [] c.script-calls.ensures.script)
    ∙ ap (λ k. get_or c.args.scripts.now k []) (sym c.loop-i.invariant.many) in
    let tickets = c.in_ok-new.ensures.client ∙ c.new-client.ensures.client
    ∙ ap (λ (v : View). v.allowance.tickets / 16) c.split-left.ensures.views.1 in
    let ready : IsReadyFor (λ (client : ℕ). client) worker script = record {
      empty = c.in_ok-new.ensures.empty;
      room = c.in_ok-new.ensures.room;
      means = omega arith;
    } in
    let next : AreReadyFor (λ (client : ℕ). client) (workers ++ worker ∷ []) c.args.scripts.now =
    AreReadyFor-push (λ (client : ℕ). client) c.args.scripts.now workers worker c.loop-i.invariant.ready
    (subst (λ (ops : List Op). IsReadyFor (λ (client : ℕ). client) worker ops) read ready) in
    rw c.in_ok-push.ensures.items (record {
      table = c.split-left.ensures.seats.0 ∙ c.loop-i.invariant.table;
      quiet = c.split-left.ensures.quiet.0;
      many = length-append workers (worker ∷ []) ∙ ap (λ k. k + 1) c.loop-i.invariant.many;
      ready = next;
    })

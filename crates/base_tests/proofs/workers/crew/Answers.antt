use Rattle.std.proofs.Common.{◌≡◌, ◌+◌, List, [], ◌∷◌, ◌++◌, length, get_or, refl, sym, ap, subst, ◌∙◌, arith, length-append}
use Rattle.std.proofs.lemmas.Option.{get_or_from_slice_get}
use Rattle.prcu_model.specs.declared.operation.Op.{Op}
use Rattle.client_run.specs.Crews.{IsReadyFor, AreReadyFor}
use Rattle.client_run.proofs.Crews.{AreReadyFor-nil, AreReadyFor-push}
use Rattle.base_tests.proofs.workers.crew.Goals as goal

pub loop-i-init : goal.loop-i-init
loop-i-init c = rw c.new-workers.ensures.items (record { many = refl; ready = AreReadyFor-nil (λ clerk. clerk.left) c.args.scripts.now })

pub loop-i-preserved : goal.loop-i-preserved
loop-i-preserved c =
    let workers = c.loop-i.workers.items in
    let worker = c.in_ok-new.field-0 in
    let script = c.script-calls.result.now in
    let read : script ≡ get_or c.args.scripts.now (length workers) [] =
    sym (get_or_from_slice_get c.args.scripts.now c.loop-i.i script [] c.script-calls.ensures.script)
    ∙ ap (λ k. get_or c.args.scripts.now k []) (sym c.loop-i.invariant.many) in
    let ready : IsReadyFor (λ clerk. clerk.left) worker script = record {
      empty = c.in_ok-new.ensures.empty;
      room = c.in_ok-new.ensures.room;
      means = let left = ap (λ clerk. clerk.left) c.in_ok-new.ensures.client in omega arith;
    } in
    let next : AreReadyFor (λ clerk. clerk.left) (workers ++ worker ∷ []) c.args.scripts.now =
    AreReadyFor-push (λ clerk. clerk.left) c.args.scripts.now workers worker c.loop-i.invariant.ready
    (subst (λ (ops : List Op). IsReadyFor (λ clerk. clerk.left) worker ops) read ready) in
    rw c.in_ok-push.ensures.items (record {
      many = length-append workers (worker ∷ []) ∙ ap (λ k. k + 1) c.loop-i.invariant.many;
      ready = next;
    })

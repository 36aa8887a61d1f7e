use Rattle.std.proofs.Common.{◌≡◌, ◌+◌, ◌-◌, List, [], length, get_or, drop, Some, ap, sym, subst, ◌∙◌, arith}
use Rattle.std.proofs.lemmas.List.{drop_all}
use Rattle.std.proofs.lemmas.Option.{get_or_from_slice_get}
use Rattle.prcu_model.specs.declared.operation.Op.{Op}
use Rattle.prcu_model.specs.Scripts.{op_count}
use Rattle.hash_core.specs.declared.view.View.{View}
use Rattle.hash_core.specs.Steps.{first_of, second_of}
use Rattle.client_run.specs.Crews.{IsHired, AreHired, IsCrew}
use Rattle.client_run.proofs.Crews.{hired_more, tickets_turn}
use Rattle.hash_run.specs.Crews.{idle_view, client_for}
use Rattle.hash_run.proofs.Finished.{idle_first, idle_second}
use Rattle.hash_run.proofs.crew.hire.Goals as goal

pub overflow_sub-tickets : goal.overflow_sub-tickets
overflow_sub-tickets g c =
    let turn = tickets_turn c.args.scripts.now c.loop-i.i c.script-script.result.now c.script-script.ensures.script in
    let left = ap (λ (v : View). v.tickets) c.loop-i.invariant.left in
    omega arith

pub loop-i-preserved : goal.loop-i-preserved
loop-i-preserved g c =
    let scripts = c.args.scripts.now in
    let i = c.loop-i.i in
    let script = c.script-script.result.now in
    let turn = tickets_turn scripts i script c.script-script.ensures.script in
    let is : get_or c.args.scripts.now c.loop-i.i [] ≡ c.script-script.result.now =
    get_or_from_slice_get scripts i script [] c.script-script.ensures.script in
    let left = c.loop-i.invariant.left in
    let have : c.tickets.result ≡ op_count (drop c.loop-i.i c.args.scripts.now) = c.tickets.ensures ∙ ap (λ (v : View). v.tickets) left in
    let given : c.tickets.result - length c.script-script.result.now ≡ op_count (drop (c.loop-i.i + 1) c.args.scripts.now) = omega arith in
    let away = c.count-last.result - 1 - c.loop-i.i in
    let count = c.count-last.ensures.count in
    let views = c.split-mine.ensures.views in
    let mine : c.split-mine.result.0.view ≡ idle_view c.loop-i.i 1 (length c.script-script.result.now) =
    views.0 ∙ ap (first_of (c.count-last.result - 1 - c.loop-i.i) (c.tickets.result - length c.script-script.result.now)) left
    ∙ idle_first c.loop-i.i (length c.args.scripts.now - c.loop-i.i) (op_count (drop c.loop-i.i c.args.scripts.now))
    (c.count-last.result - 1 - c.loop-i.i) (c.tickets.result - length c.script-script.result.now) (omega arith) (omega arith)
    ∙ ap (idle_view c.loop-i.i 1) (omega arith) in
    let others : c.split-mine.result.1.view ≡ idle_view (c.loop-i.i + 1) (length c.args.scripts.now - (c.loop-i.i + 1))
    (op_count (drop (c.loop-i.i + 1) c.args.scripts.now)) =
    views.1 ∙ ap (second_of (c.count-last.result - 1 - c.loop-i.i) (c.tickets.result - length c.script-script.result.now)) left
    ∙ idle_second c.loop-i.i (length c.args.scripts.now - c.loop-i.i) (op_count (drop c.loop-i.i c.args.scripts.now))
    (c.count-last.result - 1 - c.loop-i.i) (c.tickets.result - length c.script-script.result.now) (omega arith)
    ∙ (let n : c.count-last.result - 1 - c.loop-i.i ≡ length c.args.scripts.now - (c.loop-i.i + 1) = omega arith in
    λ j. idle_view (c.loop-i.i + 1) (n j) (given j)) in
    let worker : IsHired (client_for c.args.table.now c.loop-i.i
    (length c.script-script.result.now)) c.script-script.result.now c.in_ok-hire_one.field-0 =
    c.in_ok-hire_one.ensures c.loop-i.i mine in
    record {
      hired = subst (AreHired (client_for c.args.table.now) c.args.scripts.now (c.loop-i.i + 1)) (sym (c.in_ok-push.ensures.items))
          (hired_more (client_for c.args.table.now) c.args.scripts.now c.loop-i.i c.loop-i.workers.items c.in_ok-hire_one.field-0
          c.loop-i.invariant.hired (subst (λ (s : List Op). IsHired
          (client_for c.args.table.now c.loop-i.i (length s)) s c.in_ok-hire_one.field-0) (sym is) worker));
      of_table = c.split-mine.ensures.table.1 ∙ c.loop-i.invariant.of_table;
      left = others;
    }

pub returns : goal.returns
returns g c =
    let scripts = c.args.scripts.now in
    let i = c.loop-i.i in
    let script = c.script.result.now in
    let count = c.count-last.ensures.count in
    let end : c.loop-i.i ≡ c.count-last.result - 1 = (let past = c.loop-i-test.false in let inside = c.loop-i.auto.i-end in omega arith) in
    let there : Rattle.std.specs.List.slice_get c.args.scripts.now c.loop-i.i ≡ Some c.script.result.now =
    subst (λ n. Rattle.std.specs.List.slice_get c.args.scripts.now n ≡ Some c.script.result.now) (sym end) c.script.ensures.script in
    let turn = tickets_turn scripts i script there in
    let none : op_count (drop (c.loop-i.i + 1) c.args.scripts.now) ≡ 0 =
    ap op_count (drop_all (c.loop-i.i + 1) c.args.scripts.now (omega arith)) in
    let is : get_or c.args.scripts.now c.loop-i.i [] ≡ c.script.result.now = get_or_from_slice_get scripts i script [] there in
    let left = c.loop-i.invariant.left in
    let mine : c.loop-i.rest.view ≡ idle_view c.loop-i.i 1 (length c.script.result.now) =
    left ∙ (let n : length c.args.scripts.now - c.loop-i.i ≡ 1 = omega arith in
    let t : op_count (drop c.loop-i.i c.args.scripts.now) ≡ length c.script.result.now = omega arith in
    λ j. idle_view c.loop-i.i (n j) (t j)) in
    let worker : IsHired (client_for c.args.table.now c.loop-i.i
    (length c.script.result.now)) c.script.result.now c.in_ok-hire_one-2.field-0 = c.in_ok-hire_one-2.ensures c.loop-i.i mine in
    let all = hired_more
    (client_for c.args.table.now) c.args.scripts.now c.loop-i.i c.loop-i.workers.items c.in_ok-hire_one-2.field-0
    c.loop-i.invariant.hired (subst (λ (s : List Op). IsHired
    (client_for c.args.table.now c.loop-i.i (length s)) s c.in_ok-hire_one-2.field-0) (sym is) worker) in
    subst (IsCrew (client_for c.args.table.now) c.args.scripts.now) (sym (c.in_ok-push-2.ensures.items))
    (record { count = (let n = all.count in omega arith); each = all.each })

use Rattle.std.proofs.Common.{◌≡◌, ◌+◌, ◌-◌, List, [], length, get_or, drop, Some, ap, sym, subst, ◌∙◌, arith}
use Rattle.std.specs.List.{slice_get}
use Rattle.std.proofs.lemmas.List.{drop_all}
use Rattle.std.proofs.lemmas.Option.{get_or_from_slice_get}
use Rattle.prcu_model.specs.declared.operation.Op.{Op}
use Rattle.prcu_model.specs.Scripts.{op_count}
use Rattle.client_run.specs.Crews.{IsHired, AreHired, IsCrew}
use Rattle.client_run.proofs.Crews.{hired_more}
use Rattle.seat_table.specs.Seats.{SeatAt}
use Rattle.tree_run.specs.Runs.{run_with, seat_for, client_for, tickets_for}
use Rattle.tree_run.proofs.Finished.{idle_first, idle_second, tickets_none, tickets_left}
use Rattle.tree_run.proofs.crew.hire.Goals as goal

pub overflow_sub-left : goal.overflow_sub-left
overflow_sub-left g c =
    let turn = tickets_left c.args.cookies c.args.scripts.now c.loop-i.i c.script-script.result.now c.script-script.ensures.script in
    let left = ap (λ (s : SeatAt). s.view.allowance.tickets) c.loop-i.invariant.left in
    let used = c.tickets_for-used.ensures in
    omega arith

pub loop-i-preserved : goal.loop-i-preserved
loop-i-preserved g c =
    let cookies = c.args.cookies in
    let scripts = c.args.scripts.now in
    let i = c.loop-i.i in
    let script = c.script-script.result.now in
    let turn = tickets_left cookies scripts i script c.script-script.ensures.script in
    let is : get_or c.args.scripts.now c.loop-i.i [] ≡ c.script-script.result.now =
    get_or_from_slice_get scripts i script [] c.script-script.ensures.script in
    let left = c.loop-i.invariant.left in
    let have : c.tickets.result ≡ tickets_for c.args.cookies (op_count (drop c.loop-i.i c.args.scripts.now)) =
    c.tickets.ensures ∙ ap (λ (s : SeatAt). s.view.allowance.tickets) left in
    let used : c.tickets_for-used.result ≡ tickets_for c.args.cookies (length c.script-script.result.now) = c.tickets_for-used.ensures in
    let given : c.tickets.result - c.tickets_for-used.result
    ≡ tickets_for c.args.cookies (op_count (drop (c.loop-i.i + 1) c.args.scripts.now)) = omega arith in
    let count = c.count-last.ensures.count in
    let seats = c.split-mine.ensures.seats in
    let views = c.split-mine.ensures.views in
    let looked = c.split-mine.ensures.looked in
    let all : length c.args.scripts.now - c.loop-i.i ≡ (c.count-last.result - 1 - c.loop-i.i) + 1 = omega arith in
    let mine : c.split-mine.result.0 ≡ seat_for c.args.table.now c.loop-i.i 1
    (tickets_for c.args.cookies (length c.script-script.result.now)) =
    idle_first c.args.table.now c.loop-i.i (length c.args.scripts.now - c.loop-i.i)
    (tickets_for c.args.cookies (op_count (drop c.loop-i.i c.args.scripts.now))) (c.count-last.result - 1 - c.loop-i.i)
    (c.tickets.result - c.tickets_for-used.result)
    c.loop-i.rest c.split-mine.result.0 left seats.0 views.0 seats.2 looked.0 all
    ∙ ap (seat_for c.args.table.now c.loop-i.i 1) (omega arith) in
    let others : c.split-mine.result.1 ≡ seat_for c.args.table.now (c.loop-i.i + 1) (length c.args.scripts.now - (c.loop-i.i + 1))
    (tickets_for c.args.cookies (op_count (drop (c.loop-i.i + 1) c.args.scripts.now))) =
    idle_second c.args.table.now c.loop-i.i (length c.args.scripts.now - c.loop-i.i)
    (tickets_for c.args.cookies (op_count (drop c.loop-i.i c.args.scripts.now))) (c.count-last.result - 1 - c.loop-i.i)
    (c.tickets.result - c.tickets_for-used.result)
    c.loop-i.rest c.split-mine.result.1 left seats.1 views.1 seats.3 looked.1 all
    ∙ (let n : c.count-last.result - 1 - c.loop-i.i ≡ length c.args.scripts.now - (c.loop-i.i + 1) = omega arith in
    λ j. seat_for c.args.table.now (c.loop-i.i + 1) (n j) (given j)) in
    let client_here = client_for (run_with g.W.WaitWords.WAY c.args.cookies) c.args.table.now in
    let hired = c.in_ok-hire_one.ensures c.loop-i.i mine in
    record {
      hired = subst (AreHired client_here c.args.scripts.now (c.loop-i.i + 1)) (sym hired.2)
          (hired_more client_here c.args.scripts.now c.loop-i.i c.loop-i.workers.items hired.0 c.loop-i.invariant.hired
          (subst (λ (s : List Op). IsHired (client_here c.loop-i.i (length s)) s hired.0) (sym is) hired.1));
      quiet = c.split-mine.ensures.quiet.1;
      left = others;
    }

pub returns : goal.returns
returns g c =
    let cookies = c.args.cookies in
    let scripts = c.args.scripts.now in
    let i = c.loop-i.i in
    let script = c.script-script-2.result.now in
    let count = c.count-last.ensures.count in
    let end : c.loop-i.i ≡ c.count-last.result - 1 = (let past = c.loop-i-test.false in let inside = c.loop-i.auto.i-end in omega arith) in
    let there : slice_get c.args.scripts.now c.loop-i.i ≡ Some c.script-script-2.result.now =
    subst (λ n. slice_get c.args.scripts.now n ≡ Some c.script-script-2.result.now) (sym end) c.script-script-2.ensures.script in
    let turn = tickets_left cookies scripts i script there in
    let none : tickets_for c.args.cookies (op_count (drop (c.loop-i.i + 1) c.args.scripts.now)) ≡ 0 =
    ap (λ xs. tickets_for c.args.cookies (op_count xs)) (drop_all (c.loop-i.i + 1) c.args.scripts.now (omega arith))
    ∙ tickets_none cookies in
    let is : get_or c.args.scripts.now c.loop-i.i [] ≡ c.script-script-2.result.now = get_or_from_slice_get scripts i script [] there in
    let mine : c.loop-i.rest ≡ seat_for c.args.table.now c.loop-i.i 1 (tickets_for c.args.cookies (length c.script-script-2.result.now)) =
    c.loop-i.invariant.left
    ∙ (let n : length c.args.scripts.now - c.loop-i.i ≡ 1 = omega arith in
    let t : tickets_for c.args.cookies (op_count (drop c.loop-i.i c.args.scripts.now))
    ≡ tickets_for c.args.cookies (length c.script-script-2.result.now) = omega arith in
    λ j. seat_for c.args.table.now c.loop-i.i (n j) (t j)) in
    let client_here = client_for (run_with g.W.WaitWords.WAY c.args.cookies) c.args.table.now in
    let hired = c.in_ok-hire_one-2.ensures c.loop-i.i mine in
    let all = hired_more client_here c.args.scripts.now c.loop-i.i c.loop-i.workers.items hired.0 c.loop-i.invariant.hired
    (subst (λ (s : List Op). IsHired (client_here c.loop-i.i (length s)) s hired.0) (sym is) hired.1) in
    subst (IsCrew client_here c.args.scripts.now) (sym hired.2)
    (record { count = (let n = all.count in omega arith); each = all.each })

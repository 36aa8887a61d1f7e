use Rattle.std.proofs.Common.{rules, [], ◌∷◌, ap, subst, ◌∙◌, arith}
use Rattle.std.proofs.lemmas.Result.{IfErr-weaker, IfOk-weaker}
use Rattle.core_state.specs.declared.view.View.{View}
use Rattle.exact_list.specs.Loads.{IsTold}
use Rattle.exact_list.specs.declared.listing.Listed.TheVariants.{Whole}
use Rattle.exact_list.proofs.Trying.{fails_none, fails_again, comes_by_try, comes_alone, gives_way, recent_later, quiet_tried}
use Rattle.exact_list.proofs.nearest.nearest_always.Goals as goal

pub loop-tried-init : goal.loop-tried-init
loop-tried-init g c = record {
  table = search rules;
  listed = search rules;
  few = search rules;
  failed = fails_none c.args.seat.now.view c.args.from;
}

pub look_for-requires-clause-outside : goal.look_for-requires-clause-outside
look_for-requires-clause-outside g c = ap (λ (v : View). v.section) c.loop-tried.invariant.failed.tried.others
    ∙ c.requires.quiet.view.section

pub look_for-requires-clause-unlocked : goal.look_for-requires-clause-unlocked
look_for-requires-clause-unlocked g c = ap (λ (v : View). v.locks) c.loop-tried.invariant.failed.tried.others ∙ c.requires.quiet.view.locks

pub loop-tried-preserved : goal.loop-tried-preserved
loop-tried-preserved g c = record {
  table = c.look_for.ensures.seat.0 ∙ c.loop-tried.invariant.table;
  listed = c.look_for.ensures.seat.1 ∙ c.loop-tried.invariant.listed;
  few = search rules;
  failed = fails_again c.loop-tried.invariant.failed c.in_ok-nearest.ensures.tried c.in_default.is;
}

pub returns-in_err-nearest-clause-quiet : goal.returns-in_err-nearest-clause-quiet
returns-in_err-nearest-clause-quiet g c =
    let t = c.in_err-nearest.ensures.left_off in
    let i = c.loop-tried.invariant in
    quiet_tried c.loop-tried.seat c.look_for.new.seat c.args.from (t.0 ∷ []) t.1 c.look_for.ensures.seat.1
    (quiet_tried c.args.seat.now c.loop-tried.seat c.args.from i.failed.made i.failed.tried i.listed c.requires.quiet)

pub returns-in_err-nearest-clause-tickets : goal.returns-in_err-nearest-clause-tickets
returns-in_err-nearest-clause-tickets g c = ap (λ (v : View). v.allowance.tickets) c.in_err-nearest.ensures.left_off.1.others
    ∙ ap (λ (v : View). v.allowance.tickets) c.loop-tried.invariant.failed.tried.others

pub returns-in-Some-clause-quiet : goal.returns-in-Some-clause-quiet
returns-in-Some-clause-quiet g c =
    let t = c.in_ok-nearest.ensures.tried in
    let i = c.loop-tried.invariant in
    quiet_tried c.loop-tried.seat c.look_for.new.seat c.args.from (t.0 ∷ []) t.1 c.look_for.ensures.seat.1
    (quiet_tried c.args.seat.now c.loop-tried.seat c.args.from i.failed.made i.failed.tried i.listed c.requires.quiet)

pub returns-in-Some-clause-tickets : goal.returns-in-Some-clause-tickets
returns-in-Some-clause-tickets g c = ap (λ (v : View). v.allowance.tickets) c.in_ok-nearest.ensures.tried.1.others
    ∙ ap (λ (v : View). v.allowance.tickets) c.loop-tried.invariant.failed.tried.others

pub returns-in-Some-clause-came : goal.returns-in-Some-clause-came
returns-in-Some-clause-came g c = comes_by_try c.loop-tried.invariant.failed c.in_ok-nearest.ensures.tried c.in-Some.is c.args.tries
    (omega (arith, c.loop-tried-test.true))

pub returns-in-Some-clause-holds : goal.returns-in-Some-clause-holds
returns-in-Some-clause-holds g c =
    (subst (λ r. IsTold r c.args.side c.args.from c.loop-tried.seat.view.seen c.look_for.new.seat.view.seen) c.in-Some.is
    c.in_ok-nearest.ensures.told).0

pub returns-in-Some-clause-recent : goal.returns-in-Some-clause-recent
returns-in-Some-clause-recent g c =
    recent_later (Whole c.in-Some.nearest.front) c.args.seat.now.view.seen c.loop-tried.seat.view.seen c.look_for.new.seat.view.seen
    c.loop-tried.invariant.failed.tried.seen
    (subst (λ r. IsTold r c.args.side c.args.from c.loop-tried.seat.view.seen c.look_for.new.seat.view.seen) c.in-Some.is
    c.in_ok-nearest.ensures.told).1

pub look_alone-requires-clause-quiet : goal.look_alone-requires-clause-quiet
look_alone-requires-clause-quiet g c = let i = c.loop-tried.invariant in
    quiet_tried c.args.seat.now c.loop-tried.seat c.args.from i.failed.made i.failed.tried i.listed c.requires.quiet

pub returns-clause-tickets : goal.returns-clause-tickets
returns-clause-tickets g c = c.look_alone.ensures.tickets
    ∙ ap (λ (v : View). v.allowance.tickets) c.loop-tried.invariant.failed.tried.others

pub returns-clause-came : goal.returns-clause-came
returns-clause-came g c =
    let few = c.loop-tried.invariant.few in
    IfOk-weaker c.look_alone.result _ _ (λ answer. IfOk-weaker answer _ _
    (λ nearest alone. comes_alone c.loop-tried.invariant.failed (omega (arith, few, c.loop-tried-test.false)) alone))
    c.look_alone.ensures.alone

pub returns-clause-busy : goal.returns-clause-busy
returns-clause-busy g c =
    let few = c.loop-tried.invariant.few in
    IfOk-weaker c.look_alone.result _ _ (λ answer. IfErr-weaker answer _ _
    (λ _ lost. gives_way c.loop-tried.invariant.failed (omega (arith, few, c.loop-tried-test.false)) lost))
    c.look_alone.ensures.busy

pub returns-clause-recent : goal.returns-clause-recent
returns-clause-recent g c = IfOk-weaker c.look_alone.result _ _ (λ answer. IfOk-weaker answer _ _ (λ nearest recent. recent_later
    (Whole nearest.front) c.args.seat.now.view.seen c.loop-tried.seat.view.seen c.look_alone.new.seat.view.seen
    c.loop-tried.invariant.failed.tried.seen recent)) c.look_alone.ensures.recent

use Rattle.std.proofs.Common.{rules, ◌++◌, ◌∷◌, [], ap, subst, ◌∙◌}
use Rattle.core_state.specs.declared.view.View.{View}
use Rattle.exact_list.specs.Tries.{EndAs}
use Rattle.exact_list.proofs.Trying.{tried_both, quiet_tried, ends_later, recent_later}
use Rattle.exact_list.proofs.listing.list_in.Goals as goal

pub returns-in_err-listed-clause-quiet : goal.returns-in_err-listed-clause-quiet
returns-in_err-listed-clause-quiet g c = let t = c.in_err-listed.ensures.left_off in
    quiet_tried c.args.seat.now c.attempt.new.seat c.args.keys.low (t.0 ∷ []) t.1 c.attempt.ensures.seat.1 c.requires.quiet

pub returns-in_err-listed-clause-tickets : goal.returns-in_err-listed-clause-tickets
returns-in_err-listed-clause-tickets g c = ap (λ (v : View). v.allowance.tickets) c.in_err-listed.ensures.left_off.1.others

pub returns-in_err-listed-in-Moved-clause-quiet : goal.returns-in_err-listed-in-Moved-clause-quiet
returns-in_err-listed-in-Moved-clause-quiet g c =
    let i = c.loop-tried.invariant in
    let t = c.in_err-listed-in-Moved.ensures.left_off in
    let key = c.args.keys.low in
    quiet_tried c.loop-tried.seat c.attempt-in-Moved.new.seat key (t.0 ∷ []) t.1 c.attempt-in-Moved.ensures.seat.1
    (quiet_tried c.args.seat.now c.loop-tried.seat key i.tried.0 i.tried.1 i.listed c.requires.quiet)

pub returns-in_err-listed-in-Moved-clause-tickets : goal.returns-in_err-listed-in-Moved-clause-tickets
returns-in_err-listed-in-Moved-clause-tickets g c =
    ap (λ (v : View). v.allowance.tickets) c.in_err-listed-in-Moved.ensures.left_off.1.others
    ∙ ap (λ (v : View). v.allowance.tickets) c.loop-tried.invariant.tried.1.others

pub attempt-requires-in-Moved-clause-outside : goal.attempt-requires-in-Moved-clause-outside
attempt-requires-in-Moved-clause-outside g c =
    ap (λ (v : View). v.section) c.loop-tried.invariant.tried.1.others ∙ c.requires.quiet.view.section

pub attempt-requires-in-Moved-clause-unlocked : goal.attempt-requires-in-Moved-clause-unlocked
attempt-requires-in-Moved-clause-unlocked g c =
    ap (λ (v : View). v.locks) c.loop-tried.invariant.tried.1.others ∙ c.requires.quiet.view.locks

pub returns-in_default-clause-quiet : goal.returns-in_default-clause-quiet
returns-in_default-clause-quiet g c = let i = c.loop-tried.invariant in
    quiet_tried c.args.seat.now c.loop-tried.seat c.args.keys.low i.tried.0 i.tried.1 i.listed c.requires.quiet

pub returns-in_default-clause-tickets : goal.returns-in_default-clause-tickets
returns-in_default-clause-tickets g c = ap (λ (v : View). v.allowance.tickets) c.loop-tried.invariant.tried.1.others

pub returns-clause-quiet : goal.returns-clause-quiet
returns-clause-quiet g c = let i = c.loop-tried.invariant in
    quiet_tried c.args.seat.now c.loop-tried.seat c.args.keys.low i.tried.0 i.tried.1 i.listed c.requires.quiet

pub returns-clause-tickets : goal.returns-clause-tickets
returns-clause-tickets g c = ap (λ (v : View). v.allowance.tickets) c.loop-tried.invariant.tried.1.others

pub loop-tried-preserved : goal.loop-tried-preserved
loop-tried-preserved g c =
    let i = c.loop-tried.invariant in
    let made = i.tried.0 in
    let v = c.args.seat.now.view in
    let mid = c.loop-tried.seat.view in
    let w = c.attempt-in-Moved.new.seat.view in
    let t = c.in_ok-listed-in-Moved.ensures.tried in
    let r = c.in_ok-listed-in-Moved.listed in
    let given = subst (λ z. EndAs z c.loop-tried.tried made) c.in-Moved.is i.tried.2 in record {
      table = c.attempt-in-Moved.ensures.seat.0 ∙ i.table;
      listed = c.attempt-in-Moved.ensures.seat.1 ∙ i.listed;
      capacity = c.in_ok-listed-in-Moved.ensures.capacity ∙ i.capacity;
      few = search rules;
      tried = (
        made ++ t.0 ∷ [],
        tried_both v mid w c.args.keys.low made (t.0 ∷ []) i.tried.1 t.1,
        ends_later r c.in-Moved.first c.in-Moved.last c.loop-tried.tried made (t.0 ∷ []) given t.2,
      );
      holds = c.in_ok-listed-in-Moved.ensures.holds;
      recent = recent_later r v.seen mid.seen w.seen i.tried.1.seen c.in_ok-listed-in-Moved.ensures.recent;
    }

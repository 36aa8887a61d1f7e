use Rattle.std.proofs.Common.{◌≡◌, ◌+◌, ◌++◌, ◌∷◌, [], suc, length, drop, sym, subst, ◌∙◌, arith}
use Rattle.std.proofs.lemmas.Bool.{false≢true}
use Rattle.std.proofs.lemmas.List.{length_push}
use Rattle.std.proofs.lemmas.Slice.Zip.{zip_turn, zip_end}
use Rattle.prcu_model.specs.Fronts.{told_lines}
use Rattle.account_text.specs.Judging.{line_of}
use Rattle.account_text.specs.WrongLines.{IsWrongAt}
use Rattle.account_text.proofs.JudgedScripts.{told_lines-turn, told_lines-past}
use Rattle.account_text.proofs.WrongLines.{right_next, wrong_next}
use Rattle.account_text.proofs.wrong_lines.first_wrong.Goals as goal
use Rattle.account_text.proofs.wrong_lines.first_wrong.Goals.{In-Some}

next_line : (c : In-Some) → told_lines (drop (length c.loop-op.yielded) c.args.script.now) (drop (length c.loop-op.yielded) c.args.told.now)
    ≡ line_of c.in-Some.op.now c.in-Some.answer.now
    ∷ told_lines (drop (length c.loop-op.yielded + 1) c.args.script.now) (drop (length c.loop-op.yielded + 1) c.args.told.now)
next_line c =
    let t = zip_turn c.args.script.now c.args.told.now c.loop-op.yielded c.into_iter-op-iterator.result c.loop-op.op-iterator
    c.next.new.self c.next.result (cc) (cc) c.loop-op.yielded_by (c.in-Some.op, c.in-Some.answer) c.in-Some.is c.next.ensures.steps in
    told_lines-turn c.args.script.now c.args.told.now (length c.loop-op.yielded) c.in-Some.op.now c.in-Some.answer.now t.0 t.1
    (t.2 c.in-Some.op.now) (t.3 c.in-Some.answer.now)

pub returns-then-not-is_right-clause-wrong : goal.returns-then-not-is_right-clause-wrong
returns-then-not-is_right-clause-wrong c =
    let here = next_line (goal.at.returns-then-not-is_right-clause-wrong c).In-Some in
    let wrong = rw here at c.loop-op.invariant.wrong in
    let is : length c.loop-op.yielded + 0 ≡ c.loop-op.place = omega (arith, c.loop-op.invariant.place) in
    subst (IsWrongAt c.args.timeline.now c.args.caller 0 0 (told_lines c.args.script.now c.args.told.now)) is
    (wrong 0 (λ right. false≢true (sym c.if-not-is_right.true ∙ c.is_right.ensures.1 right)))

pub loop-op-preserved : goal.loop-op-preserved
loop-op-preserved c =
    let course = c.args.timeline.now in
    let n = length c.loop-op.yielded in
    let inv = c.loop-op.invariant in
    let here = next_line (goal.at.loop-op-preserved c).In-Some in
    let line = line_of c.in-Some.op.now c.in-Some.answer.now in
    let left = told_lines (drop (n + 1) c.args.script.now) (drop (n + 1) c.args.told.now) in
    let all = told_lines c.args.script.now c.args.told.now in
    let is = c.is_right.ensures.0 c.if-not-is_right.false in
    let next = sym c.next_turn-turn.ensures.next in
    let right = rw here at inv.right in
    let wrong = rw here at inv.wrong in
    let more : length (c.loop-op.yielded ++ (c.in-Some.op, c.in-Some.answer) ∷ []) ≡ n + 1 =
    length_push c.loop-op.yielded (c.in-Some.op, c.in-Some.answer) in
    rw more (record {
      few = omega (arith, inv.few, c.next_turn-turn.ensures.within);
      place = omega (arith, inv.place);
      right = λ rest. right (right_next course c.args.caller c.loop-op.turn c.loop-op.before line left is _ next rest);
      wrong = λ m rest. let after : n + suc m ≡ n + 1 + m = omega arith in
          subst (IsWrongAt course c.args.caller 0 0 all) after
          (wrong (suc m) (wrong_next course c.args.caller c.loop-op.turn c.loop-op.before line left is _ next m rest));
    })

pub returns-clause-right : goal.returns-clause-right
returns-clause-right c =
    let turns = zip_end c.args.script.now c.args.told.now c.loop-op.yielded c.into_iter-op-iterator.result c.loop-op.op-iterator
    c.next.new.self c.next.result (cc) (cc) c.loop-op.yielded_by c.in-None.is c.next.ensures.steps in
    let none = told_lines-past c.args.script.now c.args.told.now (length c.loop-op.yielded) turns in
    let right = rw none at c.loop-op.invariant.right in
    right tt

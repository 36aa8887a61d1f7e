use Rattle.std.proofs.Common.{◌≡◌, ◌+◌, ◌++◌, ◌∷◌, [], length, drop, ap, sym, ◌∙◌, arith}
use Rattle.std.proofs.lemmas.Bool.{false≢true}
use Rattle.std.proofs.lemmas.Bool.Decides.{Decides-eqb}
use Rattle.std.proofs.lemmas.List.{length_push}
use Rattle.std.proofs.lemmas.Slice.Zip.{zip_turn, zip_end}
use Rattle.prcu_model.specs.Fronts.{own_updates, told_lines}
use Rattle.account_text.specs.Judging.{line_of}
use Rattle.account_text.proofs.JudgedScripts.{told_lines-turn, told_lines-past, own-turn, AreToldFrom-end, AreToldFrom-other, AreToldFrom-next}
use Rattle.account_text.proofs.judging.are_updates_told.Goals as goal
use Rattle.account_text.proofs.judging.are_updates_told.Goals.{In-Some}

next_line : (c : In-Some) → told_lines (drop (length c.loop-op.yielded) c.args.script.now) (drop (length c.loop-op.yielded) c.args.told.now)
    ≡ line_of c.in-Some.op.now c.in-Some.answer.now
    ∷ told_lines (drop (length c.loop-op.yielded + 1) c.args.script.now) (drop (length c.loop-op.yielded + 1) c.args.told.now)
next_line c =
    let t = zip_turn c.args.script.now c.args.told.now c.loop-op.yielded c.into_iter-op-iterator.result c.loop-op.op-iterator
    c.next.new.self c.next.result (cc) (cc) c.loop-op.yielded_by (c.in-Some.op, c.in-Some.answer) c.in-Some.is c.next.ensures.steps in
    told_lines-turn c.args.script.now c.args.told.now (length c.loop-op.yielded) c.in-Some.op.now c.in-Some.answer.now t.0 t.1
    (t.2 c.in-Some.op.now) (t.3 c.in-Some.answer.now)

pub returns-then-not-is_told : goal.returns-then-not-is_told
returns-then-not-is_told c =
    let n = length c.loop-op.yielded in
    let here = next_line (goal.at.returns-then-not-is_told c).In-Some in
    let left = told_lines (drop (n + 1) c.args.script.now) (drop (n + 1) c.args.told.now) in
    let same = rw here at c.loop-op.invariant.told in
    let next = AreToldFrom-next c.args.timeline.now.history c.args.caller c.loop-op.passed
    (line_of c.in-Some.op.now c.in-Some.answer.now) left (sym c.tells_update.ensures ∙ c.if-tells_update.true) in
    (λ e. absurd (false≢true e), λ all. sym c.if-not-is_told.true ∙ c.is_told.ensures.1 (next.0 (same.1 all)).0)

pub loop-op-preserved-then-tells_update : goal.loop-op-preserved-then-tells_update
loop-op-preserved-then-tells_update c =
    let history = c.args.timeline.now.history in
    let n = length c.loop-op.yielded in
    let inv = c.loop-op.invariant in
    let here = next_line (goal.at.loop-op-preserved-then-tells_update c).In-Some in
    let line = line_of c.in-Some.op.now c.in-Some.answer.now in
    let left = told_lines (drop (n + 1) c.args.script.now) (drop (n + 1) c.args.told.now) in
    let same = rw here at inv.told in
    let is = c.is_told.ensures.0 c.if-not-is_told.false in
    let next = AreToldFrom-next history c.args.caller c.loop-op.passed line left (sym c.tells_update.ensures ∙ c.if-tells_update.true) in
    let turn = own-turn history c.args.caller c.loop-op.passed (record { position = line.number; op = line.op }) is.0 in
    let more : length (c.loop-op.yielded ++ (c.in-Some.op, c.in-Some.answer) ∷ []) ≡ n + 1 =
    length_push c.loop-op.yielded (c.in-Some.op, c.in-Some.answer) in
    rw more (record {
      few = omega (arith, inv.few);
      most = omega (arith, turn);
      told = (λ rest. same.0 (next.1 (is, rest)), λ all. (next.0 (same.1 all)).1);
    })

pub loop-op-preserved : goal.loop-op-preserved
loop-op-preserved c =
    let n = length c.loop-op.yielded in
    let inv = c.loop-op.invariant in
    let here = next_line (goal.at.loop-op-preserved c).In-Some in
    let left = told_lines (drop (n + 1) c.args.script.now) (drop (n + 1) c.args.told.now) in
    let same = rw here at inv.told in
    let next = AreToldFrom-other c.args.timeline.now.history c.args.caller c.loop-op.passed
    (line_of c.in-Some.op.now c.in-Some.answer.now) left (sym c.tells_update.ensures ∙ c.if-tells_update.false) in
    let more : length (c.loop-op.yielded ++ (c.in-Some.op, c.in-Some.answer) ∷ []) ≡ n + 1 =
    length_push c.loop-op.yielded (c.in-Some.op, c.in-Some.answer) in
    rw more (record {
      few = omega (arith, inv.few);
      most = inv.most;
      told = (λ rest. same.0 (next.1 rest), λ all. next.0 (same.1 all));
    })

pub returns : goal.returns
returns c =
    let history = c.args.timeline.now.history in
    let turns = zip_end c.args.script.now c.args.told.now c.loop-op.yielded c.into_iter-op-iterator.result c.loop-op.op-iterator
    c.next.new.self c.next.result (cc) (cc) c.loop-op.yielded_by c.in-None.is c.next.ensures.steps in
    let none = told_lines-past c.args.script.now c.args.told.now (length c.loop-op.yielded) turns in
    let same = rw none at c.loop-op.invariant.told in
    let end = AreToldFrom-end history c.args.caller c.loop-op.passed c.loop-op.invariant.most in
    let count : c.count_of.result ≡ length (own_updates c.args.caller history) =
    c.count_of.ensures ∙ ap (λ h. length (own_updates c.args.caller h)) c.requires.history in
    let test = Decides-eqb c.loop-op.passed c.count_of.result in
    (λ e. same.0 (end.1 (test.0 e ∙ count)), λ all. test.1 (end.0 (same.1 all) ∙ sym count))

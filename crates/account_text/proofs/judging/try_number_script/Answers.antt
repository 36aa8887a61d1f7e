use Rattle.std.proofs.Common.{◌≡◌, ◌+◌, ◌++◌, ◌∷◌, [], length, drop, refl, sym, subst, arith, append_assoc}
use Rattle.std.proofs.lemmas.List.{length_push, append-nil}
use Rattle.std.proofs.lemmas.Slice.Zip.{zip_turn, zip_end}
use Rattle.prcu_model.specs.declared.operation.Line.{Line}
use Rattle.prcu_model.specs.Fronts.{AreNumbered, told_lines, IsLeastFor}
use Rattle.account_text.specs.Judging.{line_of}
use Rattle.account_text.proofs.JudgedScripts.{told_lines-turn, told_lines-past, Can-rest, Can-more}
use Rattle.account_text.proofs.judging.try_number_script.Goals as goal
use Rattle.account_text.proofs.judging.try_number_script.Goals.{In-Some}

next_line : (c : In-Some) → told_lines (drop (length c.loop-op.yielded) c.args.script.now) (drop (length c.loop-op.yielded) c.args.told.now)
    ≡ line_of c.in-Some.op.now c.in-Some.answer.now
    ∷ told_lines (drop (length c.loop-op.yielded + 1) c.args.script.now) (drop (length c.loop-op.yielded + 1) c.args.told.now)
next_line c =
    let t = zip_turn c.args.script.now c.args.told.now c.loop-op.yielded c.into_iter-op-iterator.result c.loop-op.op-iterator
    c.next.new.self c.next.result (cc) (cc) c.loop-op.yielded_by (c.in-Some.op, c.in-Some.answer) c.in-Some.is c.next.ensures.steps in
    told_lines-turn c.args.script.now c.args.told.now (length c.loop-op.yielded) c.in-Some.op.now c.in-Some.answer.now t.0 t.1
    (t.2 c.in-Some.op.now) (t.3 c.in-Some.answer.now)

pub loop-op-preserved : goal.loop-op-preserved
loop-op-preserved c =
    let course = c.args.timeline.now in
    let inv = c.loop-op.invariant in
    let n = length c.loop-op.yielded in
    let left = told_lines (drop (n + 1) c.args.script.now) (drop (n + 1) c.args.told.now) in
    let here = next_line (goal.at.loop-op-preserved c).In-Some in
    let told = line_of c.in-Some.op.now c.in-Some.answer.now in
    let number = c.in-Some-try_number_for.number in
    let line : Line = record { op = told.op; reply = told.reply; number = number } in
    let least : IsLeastFor course.room course.history c.loop-op.before told number = c.in-Some-try_number_for.ensures.least in
    let same = rw here at inv.same in
    let more : length (c.loop-op.yielded ++ (c.in-Some.op, c.in-Some.answer) ∷ []) ≡ n + 1 =
    length_push c.loop-op.yielded (c.in-Some.op, c.in-Some.answer) in
    rw more (record {
      room = omega arith;
      same = (
        λ h. same.0 (Can-more course.room course.history c.loop-op.before told left number least.0 h),
        λ h. Can-rest course.room course.history c.loop-op.before told left number least (same.1 h),
      );
      numbered = λ rest later.
          let from_here : AreNumbered course.room course.history c.loop-op.before
          (told_lines (drop n c.args.script.now) (drop n c.args.told.now)) (line ∷ rest) = rw here (refl, refl, least, later) in
          rw (c.push.ensures.appended, append_assoc) (inv.numbered (line ∷ rest) from_here);
    })

pub returns-clause-numbered : goal.returns-clause-numbered
returns-clause-numbered c =
    let course = c.args.timeline.now in
    let turns = zip_end c.args.script.now c.args.told.now c.loop-op.yielded c.into_iter-op-iterator.result c.loop-op.op-iterator
    c.next.new.self c.next.result (cc) (cc) c.loop-op.yielded_by c.in-None.is c.next.ensures.steps in
    let none = told_lines-past c.args.script.now c.args.told.now (length c.loop-op.yielded) turns in
    let all = c.loop-op.invariant.numbered [] (subst (λ left. AreNumbered course.room course.history c.loop-op.before left [])
    (sym none) tt) in
    rw append-nil at all

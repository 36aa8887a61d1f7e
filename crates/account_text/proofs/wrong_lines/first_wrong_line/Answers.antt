use Rattle.std.proofs.Common.{length, refl, subst, arith}
use Rattle.std.proofs.lemmas.Option.{slice_get_read}
use Rattle.prcu_model.specs.Fronts.{told_lines}
use Rattle.account_text.specs.WrongLines.{AreRight, course_of}
use Rattle.account_text.proofs.WrongLines.{right_more}
use Rattle.account_text.proofs.wrong_lines.first_wrong_line.Goals as goal
use Rattle.prcu_model.proofs.ListFacts.{same_count}

pub loop-i-preserved : goal.loop-i-preserved
loop-i-preserved c =
    let script = c.script-script.result.now in
    let list = c.index-told-i.result in
    let course = course_of c.args.scripts.now c.args.history.now c.args.slots in
    let right = rw (c.in_ok-timeline.ensures, c.count-2.ensures.count) at c.in_default.ensures.right in
    let this : AreRight course c.loop-i.i 0 0 (told_lines script list.entries) =
    subst (λ answers. AreRight course c.loop-i.i 0 0 (told_lines script answers)) c.entries.ensures right in
    let there = slice_get_read c.args.told.now (length c.args.told.now) c.loop-i.i list refl c.loop-i-test.true c.index-told-i.is in
    right_more c.args.scripts.now c.args.told.now c.loop-i.i script list c.script-script.ensures.script there course c.loop-i.invariant this

pub returns-clause-right : goal.returns-clause-right
returns-clause-right c = λ lengths below i within.
    c.loop-i.invariant i (omega (arith, same_count c.args.scripts.now c.args.told.now lengths, c.loop-i-test.false, within))

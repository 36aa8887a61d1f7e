use Rattle.std.proofs.Common.{◌≡◌, [], Err, ap, ◌∙◌, arith}
use Rattle.std.proofs.lemmas.Result.{err_from_is_err_and}
use Rattle.script_text.specs.declared.error.ScriptError.TheVariants.{Line}
use Rattle.script_text.proofs.ScriptTexts.{HasRead-more, reads_few, is_read, is_read_once, is_first_bad, is_not_read}
use Rattle.script_text.proofs.reading.parse_up_to.Goals as goal

pub returns-in_err-read_line-clause-line : goal.returns-in_err-read_line-clause-line
returns-in_err-read_line-clause-line c n e =
    let p = err_from_is_err_and c.from_residual.result c.from_residual.ensures.1 in
    let told : c.in_err-read_line.field-0.0 ≡ Line n = cc (p.1, p.2, e) in
    is_first_bad c.args.most c.loop-line.invariant c.in-Some.line.now c.in-Some.after.now c.in-Some.ensures.cut
    (c.in_err-read_line.ensures.bad n (ap Err told)) n
    (c.in_err-read_line.ensures.number n (ap Err told) ∙ c.saturating_add-number.ensures)

pub returns-in_err-read_line-clause-none : goal.returns-in_err-read_line-clause-none
returns-in_err-read_line-clause-none c n e =
    let p = err_from_is_err_and c.from_residual.result c.from_residual.ensures.1 in
    let told : c.in_err-read_line.field-0.0 ≡ Line n = cc (p.1, p.2, e) in
    is_not_read c.args.most c.loop-line.invariant c.in-Some.line.now c.in-Some.after.now c.in-Some.ensures.cut
    (c.in_err-read_line.ensures.bad n (ap Err told))

pub loop-line-preserved : goal.loop-line-preserved
loop-line-preserved c =
    HasRead-more c.args.most c.loop-line.invariant c.in-Some.line.now c.in-Some.after.now _ _ c.in-Some.ensures.cut
    c.in_ok-read_line.ensures.ok c.saturating_add-number.ensures

pub returns-clause-only : goal.returns-clause-only
returns-clause-only c = is_read_once c.args.most c.loop-line.invariant c.in_default.ensures.none

pub returns-clause-few : goal.returns-clause-few
returns-clause-few c = reads_few c.args.most _ [] c.loop-line.scripts (is_read c.args.most c.loop-line.invariant c.in_default.ensures.none)
    (omega arith)

use Rattle.std.proofs.Common.{arith}
use Rattle.std.proofs.lemmas.List.{take_all}
use Rattle.script_text.proofs.ScriptTexts.{scripts_text-more, scripts_text-again}
use Rattle.script_text.proofs.printing.print.Goals as goal

pub loop-i-preserved : goal.loop-i-preserved
loop-i-preserved c =
    let more = scripts_text-more c.loop-i.text.items c.push_script.new.out.items c.args.scripts.now c.loop-i.i c.script.result.now
    c.script.ensures.script c.loop-i.invariant.text c.loop-i.invariant.fits c.in_ok-push_script.ensures.text
    c.in_ok-push_script.ensures.fits in
    record { text = more.text; fits = more.fits }

pub returns-clause-again : goal.returns-clause-again
returns-clause-again c =
    let whole = take_all c.loop-i.i c.args.scripts.now (omega arith) in
    rw c.loop-i.invariant.text (rw whole (scripts_text-again c.args.scripts.now (rw whole at c.loop-i.invariant.fits) (omega arith)
    (omega arith)))

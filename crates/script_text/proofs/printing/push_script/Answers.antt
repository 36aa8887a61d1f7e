use Rattle.script_text.proofs.ScriptTexts.{script_text-more}
use Rattle.script_text.proofs.printing.push_script.Goals as goal

pub loop-op-preserved : goal.loop-op-preserved
loop-op-preserved c =
    let more = script_text-more c.args.out.now.items c.loop-op.out.items c.push_op.new.out.items c.push.new.self.items c.args.script.now
    c.loop-op.op-index _ c.loop-op-test.true c.loop-op.invariant.text c.loop-op.invariant.fits c.in_ok-push_op.ensures.text
    c.in_ok-push_op.ensures.fits c.in_ok-push.ensures.items in
    record { text = more.text; fits = more.fits }

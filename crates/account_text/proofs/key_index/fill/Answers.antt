use Rattle.std.proofs.Common.{◌+◌, length, ap, ◌∙◌, arith}
use Rattle.std.proofs.lemmas.List.{length_push}
use Rattle.account_text.proofs.Changes.{push-kept, push-filled}
use Rattle.account_text.proofs.key_index.fill.Goals as goal

pub loop-preserved : goal.loop-preserved
loop-preserved c =
    let inv = c.loop.invariant in
    record {
      long = ap length c.in_ok-push.ensures.items ∙ length_push c.loop.starts.items c.args.start ∙ ap (λ n. n + 1) inv.long;
      above = omega (arith, inv.above);
      within = omega (arith, inv.within, inv.above, c.loop-test.true);
      kept = rw c.in_ok-push.ensures.items (push-kept _ c.loop.starts.items c.args.start _ inv.kept (omega (arith, inv.long, inv.above)));
      filled = rw c.in_ok-push.ensures.items (push-filled c.loop.starts.items c.args.start _ inv.filled);
    }

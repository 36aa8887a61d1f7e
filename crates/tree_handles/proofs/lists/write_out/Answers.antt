use Rattle.std.proofs.Common.{rules, ◌≡◌, suc, ◌+◌, ◌++◌, map, take, drop, slice_set, subst, ap, ◌∙◌, arith}
use Rattle.tree_handles.specs.Lists.{pair_of}
use Rattle.tree_handles.proofs.LaneLists.{write_next}
use Rattle.tree_handles.proofs.lists.write_out.Goals as goal

pub loop-i-preserved : goal.loop-i-preserved
loop-i-preserved c =
    let i = c.loop-i.i in
    let one : suc i ≡ i + 1 = omega arith in record {
      few = search rules;
      written = ap (λ ps. slice_set ps i (pair_of c.pair-key.result)) c.loop-i.invariant.written
          ∙ subst (λ n. slice_set (map pair_of (take i c.args.page.now.pairs) ++ drop i c.args.pairs.now) i (pair_of c.pair-key.result)
          ≡ map pair_of (take n c.args.page.now.pairs) ++ drop n c.args.pairs.now) one
          (write_next c.args.page.now.pairs c.args.pairs.now i c.pair-key.result c.pair-key.ensures c.requires.room);
    }

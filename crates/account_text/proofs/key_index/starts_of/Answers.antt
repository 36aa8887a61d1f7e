use Rattle.std.proofs.Common.{◌+◌, get_or, refl, ap, ◌∙◌, arith}
use Rattle.std.proofs.lemmas.List.{get_or_default}
use Rattle.account_text.specs.Judging.{bucket_of}
use Rattle.account_text.proofs.Changes.{nothing, starts-more}
use Rattle.account_text.proofs.key_index.starts_of.Goals as goal

pub loop-i-preserved : goal.loop-i-preserved
loop-i-preserved c =
    let changes = c.args.changes.now in
    let here = get_or changes c.loop-i.i nothing in
    let is = c.bucket_of.ensures.is in
    let filled = c.in_ok-fill.ensures in
    starts-more c.args.buckets changes c.requires.ordered c.loop-i.i c.loop-i.starts.items c.fill.new.starts.items c.loop-i.invariant
    (c.bucket_of.result + 1) filled.long filled.kept filled.filled here refl c.loop-i-test.true
    (ap (λ b. b + 1) (is ∙ ap (λ d. bucket_of c.args.buckets d.key) (get_or_default changes c.loop-i.i _ nothing c.loop-i-test.true)))
    (omega (arith, c.bucket_of.ensures.below c.requires.some))

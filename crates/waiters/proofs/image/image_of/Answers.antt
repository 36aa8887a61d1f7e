use Rattle.std.proofs.Common.{ℕ, ◌+◌, ◌%◌, subst, sym, ap, ◌∙◌, arith}
use Rattle.waiters.specs.Classes.{IsImage}
use Rattle.waiters.proofs.DeerRows.{every_class, one_run, two_runs}
use Rattle.waiters.proofs.image.image_of.Goals as goal

pub returns-then-high-low-ge63 : goal.returns-then-high-low-ge63
returns-then-high-low-ge63 c = every_class c.args.keys.now (omega (arith, c.low-low.ensures.ordered))
    (omega (arith, c.if-high-low-ge63.true, c.low-low.ensures.low, c.high-high.ensures.high))

pub returns-then-from-last : goal.returns-then-from-last
returns-then-from-last c =
    let from = sym (c.class_of-from.ensures.class ∙ ap (λ n. n % 64) c.low-low.ensures.low) in
    let last = sym (c.class_of-last.ensures.class ∙ ap (λ n. n % 64) c.high-high.ensures.high) in
    subst (λ (z : ℕ × ℕ). IsImage c.args.keys.now (record { below = 0; from = z.0; last = z.1 })) (λ i. (from i, last i))
    (one_run c.args.keys.now (omega (arith, c.low-low.ensures.ordered))
    (omega (arith, c.if-high-low-ge63.false, c.low-low.ensures.low, c.high-high.ensures.high))
    (omega (arith, c.if-from-last.true, from, last)))

pub returns : goal.returns
returns c =
    let from = sym (c.class_of-from.ensures.class ∙ ap (λ n. n % 64) c.low-low.ensures.low) in
    let last = sym (c.class_of-last.ensures.class ∙ ap (λ n. n % 64) c.high-high.ensures.high) in
    subst (λ (z : ℕ × ℕ). IsImage c.args.keys.now (record { below = z.1 + 1; from = z.0; last = 63 })) (λ i. (from i, last i))
    (two_runs c.args.keys.now (omega (arith, c.low-low.ensures.ordered))
    (omega (arith, c.if-high-low-ge63.false, c.low-low.ensures.low, c.high-high.ensures.high))
    (omega (arith, c.if-from-last.false, from, last)))

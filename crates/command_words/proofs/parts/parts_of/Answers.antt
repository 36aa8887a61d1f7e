use Rattle.std.proofs.Common.{◌≡◌, ℕ, zero, suc, ◌-◌, Bool, false, eqb, List, [], length, take, drop, codes, sym, ap, subst, ◌∙◌, refl, rules, arith}
use Rattle.std.proofs.lemmas.Bool.{false≢true}
use Rattle.std.proofs.lemmas.Bool.Decides.{Decides-eqb}
use Rattle.std.proofs.lemmas.List.{take_rest, drop_all}
use Rattle.std.proofs.lemmas.Slice.Eq.{slice_eq-Decides}
use Rattle.std.specs.Cmp.Lexicographic.{pointwise}
use Rattle.script_text.specs.Grammar.{Lacks, IsParted}
use Rattle.command_words.proofs.Inputs.{CutAt-next, parts-at_line, parts-none}
use Rattle.command_words.proofs.parts.parts_of.Goals as goal

take-nil : (n : ℕ) → take n (let none : List ℕ = [] in none) ≡ []
take-nil zero = refl
take-nil (suc n) = refl

-- a test of bytes that failed
differ : (bytes : List ℕ) (seen : List ℕ) → seen ≡ codes "account" → (test : Bool) → test ≡ pointwise eqb bytes seen → test ≡ false
    → bytes ≡ codes "account" → ⊥
differ bytes seen is test by failed e = false≢true (sym failed ∙ (slice_eq-Decides Decides-eqb bytes seen test by).1 (e ∙ sym is))

pub returns-then-eq : goal.returns-then-eq
returns-then-eq c =
    let is : c.in-Some.line.now ≡ codes "account" = search rules in
    let rest = take_rest c.args.input.now c.loop-line.at in
    parts-at_line c.args.input.now c.loop-line.at c.loop-line.invariant c.in-Some.line.now c.in-Some.after.now
    (subst (λ r. IsParted r 10 c.in-Some.line.now c.in-Some.after.now) rest c.in-Some.ensures.some) is

pub loop-line-preserved : goal.loop-line-preserved
loop-line-preserved c =
    let rest = take_rest c.args.input.now c.loop-line.at in
    CutAt-next c.args.input.now c.loop-line.at c.loop-line.invariant c.in-Some.line.now c.in-Some.after.now
    (subst (λ r. IsParted r 10 c.in-Some.line.now c.in-Some.after.now) rest c.in-Some.ensures.some)
    (differ c.in-Some.line.now c.as_slice.result.now c.as_slice.ensures c.eq.result c.eq.ensures c.if-eq.false)

pub returns : goal.returns
returns c =
    let input = c.args.input.now in
    let rest = take_rest input c.loop-line.at in
    parts-none input c.loop-line.at c.loop-line.invariant (subst (λ r. Lacks r 10) rest c.in_default.ensures.none)
    (λ e. differ _ c.as_slice-2.result.now c.as_slice-2.ensures c.eq-2.result c.eq-2.ensures c.if-eq-2.false (rest ∙ e))
    (take (length input - length input) (drop (length input) input))
    (ap (take (length input - length input)) (drop_all (length input) input (omega arith)) ∙ take-nil (length input - length input))

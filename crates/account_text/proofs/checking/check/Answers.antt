use Rattle.std.proofs.Common.{◌≡◌, ◌<◌, ◌≤◌, ◌^◌, Option, Some, length, map, ap, ◌∙◌, arith}
use Rattle.std.proofs.lemmas.Bool.{false≢true}
use Rattle.std.proofs.lemmas.Result.{IfOk-weaker}
use Rattle.std.specs.FinMap as finite
use Rattle.prcu_model.specs.Dictionary.{map_of}
use Rattle.prcu_model.specs.Scripts.{entries_of}
use Rattle.account_text.specs.Account.{IsAccount, tolds_of}
use Rattle.account_text.proofs.Accounts.{Fit-account, IsAccount-by_claims}
use Rattle.account_text.proofs.checking.check.Goals as goal

same_some : {X : Type 0} (o : Option X) (x y : X) → o ≡ Some x → o ≡ Some y → x ≡ y
same_some o x y p q = cc

pub returns-in-Some : goal.returns-in-Some
returns-in-Some c =
    let scripts = c.args.scripts.now in
    let text = c.args.text.now in
    let long : length text < 2 ^ 64 = omega arith in
    let few : length scripts ≤ 64 = omega arith in
    let claims : (a : IsAccount scripts c.args.slots text)
    → (entries_of c.deref.result.now ≡ map tolds_of a.lines) × (c.deref-in-Some.result.now ≡ a.history) = λ a.
    let found = c.in_ok-claims.ensures.found a.lines a.history (finite.entries (map_of a.history))
    (Fit-account scripts c.args.slots text a c.count.ensures.fits few long) a.printed in
    let same = same_some c.in_ok-claims.field-0 c.in-Some.claims found.0 c.in-Some.is found.1 in (
      ap entries_of (c.deref.ensures.value ∙ ap (λ k. k.told.items) same) ∙ found.2,
      c.deref-in-Some.ensures.value ∙ ap (λ k. k.history.items) same ∙ found.3,
    ) in
    IfOk-weaker c.prints.result _ _ (λ answer decides. IsAccount-by_claims scripts c.args.slots text
    (entries_of c.deref.result.now) c.deref-in-Some.result.now claims answer decides) c.prints.ensures

pub returns-in-None : goal.returns-in-None
returns-in-None c =
    let scripts = c.args.scripts.now in
    let text = c.args.text.now in
    let long : length text < 2 ^ 64 = omega arith in
    let few : length scripts ≤ 64 = omega arith in (
      λ e. absurd (false≢true e),
      λ a. let found = c.in_ok-claims.ensures.found a.lines a.history (finite.entries (map_of a.history))
          (Fit-account scripts c.args.slots text a c.count.ensures.fits few long) a.printed in
          let none = c.in-None.is in absurd (cc found.1),
    )

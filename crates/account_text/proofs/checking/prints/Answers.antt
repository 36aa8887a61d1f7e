use Rattle.std.proofs.Common.{◌≡◌, ap, ◌∙◌}
use Rattle.std.specs.FinMap as finite
use Rattle.std.proofs.lemmas.Bool.{false≢true}
use Rattle.std.proofs.lemmas.Bool.Decides.{Decides-eqb}
use Rattle.std.proofs.lemmas.Slice.Eq.{slice_eq-Decides}
use Rattle.prcu_model.specs.Dictionary.{map_of}
use Rattle.prcu_model.specs.Scripts.{entries_of}
use Rattle.account_text.specs.Judging.{Course}
use Rattle.account_text.specs.Account.{account_of}
use Rattle.account_text.proofs.Accounts.{IsPrinted-compared}
use Rattle.account_text.proofs.checking.prints.Goals as goal

pub returns : goal.returns
returns c =
    let history = c.args.history.now in
    let pairs : c.in_ok-pairs.pairs.items ≡ finite.entries (map_of history) =
    c.in_ok-pairs.ensures ∙ ap (λ (t : Course). finite.entries (map_of t.history)) c.in_ok-timeline.ensures in
    let same = slice_eq-Decides Decides-eqb c.as_slice.result.now c.args.text.now c.eq.result c.eq.ensures in
    let explained = rw c.in-Some.is at c.in_ok-lines.ensures.explained in
    let numbered = rw c.in-Some.is at c.in_ok-lines.ensures.numbered in
    IsPrinted-compared c.args.scripts.now c.args.slots (entries_of c.args.told.now) history c.args.text.now
    (entries_of c.in-Some.lines.items)
    (rw c.in_ok-timeline.ensures at (c.is_legal.ensures.0 c.if-not-is_legal.false)) (rw c.in_ok-timeline.ensures at explained)
    (rw (c.in_ok-timeline.ensures, c.count.ensures.count) at numbered)
    c.as_slice.result.now (c.as_slice.ensures.value ∙ c.in_ok-printed.ensures
    ∙ (λ i. account_of (entries_of (c.deref.ensures.value i)) history ((c.deref-2.ensures.value ∙ pairs) i)))
    c.eq.result same

pub returns-in_default : goal.returns-in_default
returns-in_default c =
    let none = rw c.in_default.is at c.in_ok-lines.ensures.none in
    (λ e. absurd (false≢true e), λ p. absurd (none (rw c.in_ok-timeline.ensures p.explainable)))

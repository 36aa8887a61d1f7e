use Rattle.std.proofs.Common.{◌≡◌, sym, ap, subst, ◌∙◌}
use Rattle.std.specs.FinMap as finite
use Rattle.std.proofs.lemmas.Result.{IfOk-weaker}
use Rattle.prcu_model.specs.Dictionary.{map_of}
use Rattle.prcu_model.specs.Scripts.{entries_of}
use Rattle.account_text.specs.Account.{IsAccount, HaveReplies, account_of}
use Rattle.account_text.specs.Judging.{Course}
use Rattle.account_text.proofs.Accounts.{IsAccount-as_told}
use Rattle.account_text.proofs.numbering.make_account.Goals as goal

pub returns : goal.returns
returns c =
    let scripts = c.args.scripts.now in
    let history = c.args.history.now in
    let numbered = rw (c.in_ok-timeline.ensures, c.count.ensures.count) at c.in_ok-lines.ensures in
    let account = IsAccount-as_told scripts (entries_of c.args.told.now) history c.args.slots
    (entries_of c.in_ok-lines.lines.items) c.requires.explained numbered c.requires.legal in
    let pairs : c.in_ok-pairs.pairs.items ≡ finite.entries (map_of history) =
    c.in_ok-pairs.ensures ∙ ap (λ (t : Course). finite.entries (map_of t.history)) c.in_ok-timeline.ensures in
    IfOk-weaker c.print_account.result _ _ (λ text printed.
    subst (λ t. (found : IsAccount scripts c.args.slots t) × (found.history ≡ history)
    × HaveReplies (entries_of c.args.told.now) found.lines)
    (sym (printed ∙ (λ i. account_of (entries_of (c.deref.ensures.value i)) history
    ((c.deref-2.ensures.value ∙ pairs) i)))) account) c.print_account.ensures

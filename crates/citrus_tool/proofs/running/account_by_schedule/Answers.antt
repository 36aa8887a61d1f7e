use Rattle.std.proofs.Common.{sym, subst}
use Rattle.prcu_model.specs.Scripts.{entries_of}
use Rattle.prcu_model.specs.Fronts.{StaysWithin}
use Rattle.account_text.specs.Account.{HaveReplies}
use Rattle.core_machine.specs.Laws.{IsOfSchedule}
use Rattle.citrus_tool.proofs.Leavings.{explained_as, drawn_account}
use Rattle.std.proofs.lemmas.Result.{IfOk-weaker}
use Rattle.citrus_tool.proofs.running.account_by_schedule.Goals as goal

pub make_account-requires-clause-explained : goal.make_account-requires-clause-explained
make_account-requires-clause-explained g c =
    explained_as c.args.scripts.now _ _ _ _ c.args.slots c.deref.ensures.value c.deref-2.ensures.value c.in_ok-ran.ensures.explained

pub returns : goal.returns
returns g c =
    let history = c.deref-2.result.now in
    let told = c.in_ok-ran.ran.told.items in
    IfOk-weaker c.make_account.result _ _
    (λ text account. drawn_account c.args.scripts.now c.args.slots c.args.number (entries_of told) history text.items c.requires.some
    (subst (λ h. StaysWithin h c.args.slots) (sym c.deref-2.ensures.value) c.in_ok-ran.ensures.within)
    (subst (IsOfSchedule c.args.scripts.now c.args.slots c.args.number (entries_of told))
    (sym c.deref-2.ensures.value) c.in_ok-ran.ensures.drawn)
    (account.0, account.1, subst (λ t. HaveReplies (entries_of t) account.0.lines) c.deref.ensures.value account.2))
    c.make_account.ensures

use Rattle.std.proofs.lemmas.Result.{IfOk-weaker}
use Rattle.prcu_model.specs.Scripts.{entries_of}
use Rattle.account_text.proofs.Accounts.{IsAccount-with_history}
use Rattle.account_text.proofs.numbering.fronts.Goals as goal

pub returns-clause-account : goal.returns-clause-account
returns-clause-account c =
    let numbered = rw (c.in_ok-timeline.ensures, c.count.ensures.count) at c.number_scripts.ensures in
    IfOk-weaker c.number_scripts.result _ _ (λ lists is. IsAccount-with_history c.args.scripts.now
    (entries_of c.args.told.now) c.args.history.now c.args.slots (entries_of lists.items) c.requires is) numbered

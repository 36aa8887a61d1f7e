use Rattle.std.proofs.Common.{IfOk, refl, sym, subst, arith}
use Rattle.prcu_model.specs.Fronts.{StaysWithin}
use Rattle.account_text.specs.Account.{IsAccount}
use Rattle.command_words.specs.declared.commands.Mode.{Mode}
use Rattle.citrus_tool.specs.declared.outcome.Ran.TheVariants.{Nothing}
use Rattle.citrus_tool.specs.Leavings.{RunsBy}
use Rattle.citrus_tool.proofs.Leavings.{none_left}
use Rattle.citrus_tool.proofs.running.run_by.Goals as goal

pub returns-then-count-eq0 : goal.returns-then-count-eq0
returns-then-count-eq0 g c = none_left c.args.mode c.args.scripts.now c.args.slots c.in_ok-account_of_none.field-0.items
    (omega (arith, c.count.ensures.count, c.if-count-eq0.true)) c.in_ok-account_of_none.ensures

pub returns-in-Threads : goal.returns-in-Threads
returns-in-Threads g c =
    let scripts = c.args.scripts.now in
    let slots = c.args.slots in
    subst (λ (m : Mode). IfOk c.account_in_threads.result
    (λ made. (account : IsAccount scripts slots made.0.items) × StaysWithin account.history slots
    × RunsBy m scripts slots account.lines account.history made.1))
    (sym c.in-Threads.is) c.account_in_threads.ensures

pub returns-in_ok-account_by_schedule-in-Schedule : goal.returns-in_ok-account_by_schedule-in-Schedule
returns-in_ok-account_by_schedule-in-Schedule g c =
    let made = c.in_ok-account_by_schedule-in-Schedule.ensures in (
      made.0,
      made.1,
      subst (λ (m : Mode). RunsBy m c.args.scripts.now c.args.slots made.0.lines made.0.history Nothing)
          (sym c.in-Schedule.is) (refl, made.2),
    )

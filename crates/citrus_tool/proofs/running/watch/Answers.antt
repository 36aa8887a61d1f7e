use Rattle.std.proofs.Common.{◌+◌, refl, subst, arith}
use Rattle.prcu_model.specs.Fronts.{StaysWithin}
use Rattle.key_interval.specs.Keys.{Interval}
use Rattle.tree_watch.specs.Snapshots.{IsWatchText}
use Rattle.citrus_tool.specs.Leavings.{LeavesWatched}
use Rattle.command_words.specs.declared.commands.Command.TheVariants.{Watch}
use Rattle.citrus_tool.proofs.AnsweredInputs.{refused}
use Rattle.citrus_tool.proofs.Leavings.{watch_written}
use Rattle.citrus_tool.proofs.running.watch.Goals as goal

pub returns-in_ok-text-in-Ok : goal.returns-in_ok-text-in-Ok
returns-in_ok-text-in-Ok g c =
    watch_written c.args.low c.args.high c.args.slots c.args.waiter c.in-Ok.scripts c.slots_for-shared.result c.args.input.now
    c.in_ok-text-in-Ok.text.items c.in_ok-text-in-Ok.ran c.in-Ok.ensures.ok c.slots_for-shared.ensures.shared
    (subst (λ (keys : Interval). (watch : IsWatchText c.in-Ok.scripts c.slots_for-shared.result keys.low keys.high
    c.in_ok-text-in-Ok.text.items) × StaysWithin watch.account.history (c.slots_for-shared.result + 20)
    × LeavesWatched c.args.waiter c.in-Ok.scripts c.slots_for-shared.result watch.account.lines watch.account.history watch.snapshots
    c.in_ok-text-in-Ok.ran) c.in-Some.ensures.keys c.in_ok-text-in-Ok.ensures)

pub returns-in-Err : goal.returns-in-Err
returns-in-Err g c =
    refused 63 c.args.input.now c.in-Err.error (omega arith) c.in-Err.ensures.line c.in-Err.ensures.none
    (Watch c.args.low c.args.high c.args.slots c.args.waiter) c.bad_line.result (λ text bad. (bad, refl)) c.bad_line.ensures

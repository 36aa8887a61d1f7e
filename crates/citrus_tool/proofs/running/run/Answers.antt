use Rattle.std.proofs.Common.{refl, arith}
use Rattle.command_words.specs.declared.commands.Command.TheVariants.{Run}
use Rattle.citrus_tool.proofs.AnsweredInputs.{refused}
use Rattle.citrus_tool.proofs.Leavings.{run_written}
use Rattle.citrus_tool.proofs.running.run.Goals as goal

pub returns-in_ok-text-in-Ok : goal.returns-in_ok-text-in-Ok
returns-in_ok-text-in-Ok g c =
    run_written c.args.slots c.args.mode c.in-Ok.scripts c.slots_for-shared.result c.args.input.now c.in_ok-text-in-Ok.text.items
    c.in_ok-text-in-Ok.ran c.in-Ok.ensures.ok c.slots_for-shared.ensures.shared c.in_ok-text-in-Ok.ensures

pub returns-in-Err : goal.returns-in-Err
returns-in-Err g c =
    refused 64 c.args.input.now c.in-Err.error (omega arith) c.in-Err.ensures.line c.in-Err.ensures.none
    (Run c.args.slots c.args.mode) c.bad_line.result (λ text bad. (bad, refl)) c.bad_line.ensures

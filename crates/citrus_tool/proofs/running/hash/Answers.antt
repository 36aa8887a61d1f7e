use Rattle.std.proofs.Common.{None, refl, arith}
use Rattle.command_words.specs.declared.commands.Command.TheVariants.{Hash}
use Rattle.citrus_tool.proofs.AnsweredInputs.{refused}
use Rattle.citrus_tool.proofs.Leavings.{never_full, within_default}
use Rattle.citrus_tool.proofs.running.hash.Goals as goal

pub returns-in_ok-text-in-Ok : goal.returns-in_ok-text-in-Ok
returns-in_ok-text-in-Ok g c =
    let scripts = c.in-Ok.scripts in
    let text = c.in_ok-text-in-Ok.text.items in
    let account = c.in_ok-text-in-Ok.ensures.0 in (
      record {
        scripts = scripts;
        read = c.in-Ok.ensures.ok;
        account = account;
        never_full = never_full None scripts text account;
        within_slots = within_default scripts text account;
      },
      c.in_ok-text-in-Ok.ensures.1,
    )

pub returns-in-Err : goal.returns-in-Err
returns-in-Err g c =
    refused 64 c.args.input.now c.in-Err.error (omega arith) c.in-Err.ensures.line c.in-Err.ensures.none Hash c.bad_line.result
    (λ text bad. (bad, refl)) c.bad_line.ensures

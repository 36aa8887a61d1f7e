use Rattle.std.proofs.Common.{sym, subst, arith}
use Rattle.std.proofs.lemmas.Result.{IfOk-weaker}
use Rattle.command_words.specs.declared.commands.Command.TheVariants.{Check}
use Rattle.command_words.specs.declared.statuses.Status.{Status}
use Rattle.citrus_tool.specs.Answers.{Writes}
use Rattle.command_words.proofs.Inputs.{length-before}
use Rattle.citrus_tool.proofs.AnsweredInputs.{bad_told}
use Rattle.citrus_tool.proofs.running.check_claim.Goals as goal

pub returns-in-Err-clause-written : goal.returns-in-Err-clause-written
returns-in-Err-clause-written c =
    let parts = c.parts_of.result in
    let within = length-before c.args.input.now parts.0.now parts.1.now c.parts_of.ensures in
    IfOk-weaker c.bad_line.result _ _ (λ answer told. subst (λ (s : Status). Writes
    (Check c.args.slots) s c.args.input.now answer.text.items) (sym told.0) (record {
      before = parts.0.now;
      account = parts.1.now;
      parts = c.parts_of.ensures;
      bad = bad_told 64 parts.0.now c.in-Err.error (omega arith) c.in-Err.ensures.line c.in-Err.ensures.none answer told;
    })) c.bad_line.ensures

pub returns-in-Err-clause-ran : goal.returns-in-Err-clause-ran
returns-in-Err-clause-ran c = IfOk-weaker c.bad_line.result _ _ (λ answer told. told.1) c.bad_line.ensures

use Rattle.std.proofs.Common.{◌≡◌, Err, ap, subst, ◌∙◌, arith}
use Rattle.command_words.specs.LineFaults.{IsFaultOf, line_at}
use Rattle.citrus_tool.proofs.AnsweredInputs.{first_bad-within}
use Rattle.citrus_tool.proofs.details.first_fault.Goals as goal

pub returns : goal.returns
returns c =
    let text = c.args.text.now in
    let found = c.parse_up_to.ensures.line c.in-Err-Line.number (c.in-Err-Line.is ∙ ap Err c.in-Err-Line.field-0-is) in
    let within = first_bad-within c.args.most text found.0 found.1 in
    let same : c.in-Err-Line.number ≡ found.0 = omega (arith, found.2, within, c.requires.short) in
    record {
      number = found.0;
      first = found.1;
      is = subst (λ n. IsFaultOf c.fault_of.result (line_at text n)) same
          (subst (IsFaultOf c.fault_of.result) c.line_of.ensures c.fault_of.ensures);
    }

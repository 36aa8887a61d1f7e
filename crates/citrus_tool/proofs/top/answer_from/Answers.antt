use Rattle.std.proofs.Common.{inr, subst}
use Rattle.citrus_tool.specs.Details.{IsDetail}
use Rattle.citrus_tool.proofs.AnsweredInputs.{answered}
use Rattle.citrus_tool.proofs.top.answer_from.Goals as goal

pub returns-in-Ok-write_all-clause-done : goal.returns-in-Ok-write_all-clause-done
returns-in-Ok-write_all-clause-done g c = λ is.
    answered {command = c.args.command} {status = c.in-Ok-answer_to.answer.status} {text = c.in-Ok-answer_to.answer.text.items} is
    c.deref.ensures.value c.deref-2.ensures.value c.in-Ok.ensures.short c.in-Ok.ensures.whole c.in-Ok.ensures.end c.in-Ok-answer_to.ensures
    c.in-Ok-write_all.ensures.whole

pub returns-in-Ok-write_all-clause-refused : goal.returns-in-Ok-write_all-clause-refused
returns-in-Ok-write_all-clause-refused g c = λ is.
    answered {command = c.args.command} {status = c.in-Ok-answer_to.answer.status} {text = c.in-Ok-answer_to.answer.text.items} is
    c.deref.ensures.value c.deref-2.ensures.value c.in-Ok.ensures.short c.in-Ok.ensures.whole c.in-Ok.ensures.end c.in-Ok-answer_to.ensures
    c.in-Ok-write_all.ensures.whole

pub returns-in-Ok-write_all-clause-bad_script : goal.returns-in-Ok-write_all-clause-bad_script
returns-in-Ok-write_all-clause-bad_script g c = λ is.
    answered {command = c.args.command} {status = c.in-Ok-answer_to.answer.status} {text = c.in-Ok-answer_to.answer.text.items} is
    c.deref.ensures.value c.deref-2.ensures.value c.in-Ok.ensures.short c.in-Ok.ensures.whole c.in-Ok.ensures.end c.in-Ok-answer_to.ensures
    c.in-Ok-write_all.ensures.whole

pub returns-in-Ok-write_all-clause-detail : goal.returns-in-Ok-write_all-clause-detail
returns-in-Ok-write_all-clause-detail g c =
    inr (
      c.in-Ok.input.items,
      c.in-Ok.ensures.whole,
      c.in-Ok.ensures.end,
      subst (λ input. IsDetail c.args.command c.in-Ok-answer_to.answer.status input c.detail_of.result) c.deref-in-Ok-write_all.ensures.value
          c.detail_of.ensures,
    )

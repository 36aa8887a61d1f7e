use Rattle.std.proofs.Common.{◌+◌, List, drop, subst, arith}
use Rattle.std.proofs.lemmas.List.{drop_more, drop_all}
use Rattle.prcu_model.specs.declared.operation.Op.{Op}
use Rattle.account_text.proofs.AccountTexts.{HasRead, first_line, HasRead-end}
use Rattle.account_text.proofs.reading.read_lines.Goals as goal

pub returns-in_default : goal.returns-in_default
returns-in_default c lines more tells =
    let script = c.args.script.now in
    let i = c.loop-op.op-index in
    let ops = drop (i + 1) script in
    let here = drop_more script i _ c.loop-op-test.true in
    let h = subst (λ (x : List Op). HasRead c.loop-op.rest.now x c.loop-op.told.entries lines more) here
    (c.loop-op.invariant.read lines more tells) in
    let first = first_line c.loop-op.rest.now _ ops c.loop-op.told.entries lines more h in
    c.in_default.ensures first.line first.others first.op_is first.op_fits first.line_fits first.begins

pub loop-op-preserved : goal.loop-op-preserved
loop-op-preserved c =
    let script = c.args.script.now in
    let i = c.loop-op.op-index in
    let ops = drop (i + 1) script in
    record {
      room = omega (arith, c.push.ensures.spare, c.loop-op.invariant.room);
      read = λ lines more tells.
          let here = drop_more script i _ c.loop-op-test.true in
          let h = subst (λ (x : List Op). HasRead c.loop-op.rest.now x c.loop-op.told.entries lines more) here
          (c.loop-op.invariant.read lines more tells) in
          let first = first_line c.loop-op.rest.now _ ops c.loop-op.told.entries lines more h in
          let read = c.in-Some.ensures first.line first.others first.op_is first.op_fits first.line_fits first.begins in
          first.next c.in-Some.after.now c.in-Some.answer c.push.new.self.entries read.0 read.1 c.push.ensures.appended;
    }

pub returns : goal.returns
returns c lines more tells =
    let script = c.args.script.now in
    let none = drop_all c.loop-op.op-index script c.loop-op-test.false in
    let h = subst (λ (x : List Op). HasRead c.loop-op.rest.now x c.loop-op.told.entries lines more) none
    (c.loop-op.invariant.read lines more tells) in
    HasRead-end c.loop-op.rest.now c.loop-op.told.entries lines more h

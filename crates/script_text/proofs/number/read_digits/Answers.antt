use Rattle.std.proofs.Common.{arith}
use Rattle.std.proofs.lemmas.List.{take_all}
use Rattle.script_text.proofs.ScriptTexts.{no_digit, read_more, too_large}
use Rattle.script_text.proofs.number.read_digits.Goals as goal

pub returns-then-not-is_ascii_digit : goal.returns-then-not-is_ascii_digit
returns-then-not-is_ascii_digit c read =
    no_digit c.args.digits.now c.loop-digit.digit-index (omega arith) c.if-not-is_ascii_digit.ensures.cases read.0

pub returns-in_err-checked_mul : goal.returns-in_err-checked_mul
returns-in_err-checked_mul c =
    rw c.from_residual.ensures
    (λ read. too_large c.args.digits.now c.loop-digit.digit-index
    (omega arith) c.if-not-is_ascii_digit.ensures.cases _ c.loop-digit.invariant.value
    (omega (arith, c.in_err-checked_mul.ensures)) read.1)

pub returns-in_err-value : goal.returns-in_err-value
returns-in_err-value c =
    rw c.from_residual-in_err-value.ensures
    (λ read. too_large c.args.digits.now c.loop-digit.digit-index
    (omega arith) c.if-not-is_ascii_digit.ensures.cases _ c.loop-digit.invariant.value
    (omega (arith, c.in_ok-checked_mul.ensures, c.in_err-value.ensures)) read.1)

pub loop-digit-preserved : goal.loop-digit-preserved
loop-digit-preserved c =
    let more = read_more c.args.digits.now c.loop-digit.digit-index
    (omega arith) c.if-not-is_ascii_digit.ensures.cases c.loop-digit.value c.loop-digit.invariant.digits c.loop-digit.invariant.value in
    record {
      digits = more.0;
      value = omega (arith, c.in_ok-checked_mul.ensures, c.in_ok-value.ensures, more.1);
      small = omega (arith, c.in_ok-value.ensures);
    }

pub returns : goal.returns
returns c =
    let whole = take_all c.loop-digit.digit-index c.args.digits.now c.loop-digit-test.false in
    let all = rw whole at c.loop-digit.invariant.digits in
    let is = rw whole at c.loop-digit.invariant.value in
    ((all, omega arith), is)

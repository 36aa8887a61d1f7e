use Rattle.std.proofs.Common.{◌<◌, length, arith}
use Rattle.std.proofs.lemmas.Bool.Decides.{nat_tests}
use Rattle.script_text.proofs.ScriptTexts.{empty_no_decimal, zero_no_decimal, decimal_from_digits}
use Rattle.script_text.proofs.number.read_number.Goals as goal
use Rattle.script_text.proofs.number.read_number.Goals.{else-bytes-gt1-via-then-bytes-gt1+else-bytes-eq48, else-bytes-gt1-via-else-bytes-gt1}

pub returns-then-is_empty : goal.returns-then-is_empty
returns-then-is_empty c = empty_no_decimal c.args.bytes.now (grind (arith, nat_tests))

pub returns-then-bytes-eq48 : goal.returns-then-bytes-eq48
returns-then-bytes-eq48 c = zero_no_decimal c.args.bytes.now c.if-bytes-gt1.true c.if-bytes-eq48.true

pub returns : goal.returns
returns c =
    let some : 0 < length c.args.bytes.now = grind (arith, nat_tests) in
    decimal_from_digits c.args.bytes.now _ c.read_digits.ensures some
    (λ zero. elim c.else-bytes-gt1.branch [
      | else-bytes-gt1-via-then-bytes-gt1+else-bytes-eq48 w ↦ absurd (omega arith)
      | else-bytes-gt1-via-else-bytes-gt1 w ↦ omega arith
    ])

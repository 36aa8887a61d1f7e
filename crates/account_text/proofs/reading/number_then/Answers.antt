use Rattle.std.proofs.Common.{arith}
use Rattle.script_text.proofs.ScriptTexts.{Lacks-decimal}
use Rattle.account_text.proofs.AccountTexts.{no_space, at_space}
use Rattle.account_text.proofs.reading.number_then.Goals as goal
use Rattle.std.specs.Fmt.{decimal}

pub returns-in_err-word : goal.returns-in_err-word
returns-in_err-word c n rest small is = absurd (no_space c.args.bytes.now (decimal n) rest c.in_err-word.ensures.none is)

pub returns-in_err-last_number : goal.returns-in_err-last_number
returns-in_err-last_number c n rest small is =
    let parts = at_space c.args.bytes.now c.in_ok-word.word.now c.in_ok-word.rest.now (decimal n) rest c.in_ok-word.ensures.some
    (Lacks-decimal n 32 small (omega arith)) is in
    absurd (cc (c.in_err-last_number.ensures n small parts.0))

pub returns : goal.returns
returns c n rest small is =
    let parts = at_space c.args.bytes.now c.in_ok-word.word.now c.in_ok-word.rest.now (decimal n) rest c.in_ok-word.ensures.some
    (Lacks-decimal n 32 small (omega arith)) is in
    (cc (c.in_ok-last_number.ensures n small parts.0), parts.1)

use Rattle.account_text.proofs.AccountTexts.{no_space, at_space}
use Rattle.account_text.proofs.reading.skip_word.Goals as goal

pub returns-in_err-rest : goal.returns-in_err-rest
returns-in_err-rest c word rest lacks is = absurd (no_space c.args.bytes.now word rest c.in_err-rest.ensures.none is)

pub returns : goal.returns
returns c word rest lacks is =
    (at_space c.args.bytes.now c.in_ok-rest.field-0-0.now c.in_ok-rest.rest.now word rest c.in_ok-rest.ensures.some lacks is).1

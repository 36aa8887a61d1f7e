use Rattle.command_words.specs.Arguments.{waiter_word}
use Rattle.command_words.proofs.arguments.waiter_at.Goals as goal

pub returns-in_err-option-clause-only : goal.returns-in_err-option-clause-only
returns-in_err-option-clause-only c = λ waiter first rest cut spelled. absurd
    (c.in_err-option.ensures.only (waiter_word waiter) first rest cut spelled)

pub returns-in_err-waiter_of-clause-only : goal.returns-in_err-waiter_of-clause-only
returns-in_err-waiter_of-clause-only c = λ waiter first rest cut spelled.
    let is = c.in_err-waiter_of.ensures.only waiter (c.in_ok-option.ensures.only (waiter_word waiter) first rest cut spelled).0 in
    absurd (cc)

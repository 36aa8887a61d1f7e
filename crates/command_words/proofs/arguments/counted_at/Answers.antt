use Rattle.std.proofs.Common.{decimal}
use Rattle.command_words.proofs.arguments.counted_at.Goals as goal

pub returns-in_err-option-clause-only : goal.returns-in_err-option-clause-only
returns-in_err-option-clause-only c = λ number first rest small cut spelled. absurd
    (c.in_err-option.ensures.only (decimal number) first rest cut spelled)

pub returns-in_err-read_number-clause-only : goal.returns-in_err-read_number-clause-only
returns-in_err-read_number-clause-only c = λ number first rest small cut spelled.
    absurd (c.in_err-read_number.ensures number small (c.in_ok-option.ensures.only (decimal number) first rest cut spelled).0)

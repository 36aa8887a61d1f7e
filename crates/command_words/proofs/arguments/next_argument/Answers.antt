use Rattle.std.proofs.Common.{map, string_bytes}
use Rattle.command_words.proofs.Inputs.{number_left}
use Rattle.command_words.proofs.arguments.next_argument.Goals as goal

pub returns-clause-only : goal.returns-clause-only
returns-clause-only c =
    number_left (map string_bytes c.args.words.now) _ c.in_default.ensures.only c.in_default-counted_at.ensures.only
    c.in_default-waiter_at.ensures.only c.in_default-cookies_at.ensures.only c.number_at.ensures.only

use Rattle.std.proofs.Common.{Some, ap, sym, ◌∙◌, arith}
use Rattle.std.proofs.lemmas.Fmt.{decimal_injective}
use Rattle.account_text.proofs.reading.last_number.Goals as goal

pub returns-in_err-number : goal.returns-in_err-number
returns-in_err-number c n small is = absurd (c.in_err-number.ensures n small is)

pub returns : goal.returns
returns c n small is =
    ap Some (decimal_injective c.in_ok-number.number n (omega arith) small (sym c.in_ok-number.ensures ∙ is))

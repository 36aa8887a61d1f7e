use Rattle.script_text.proofs.ScriptTexts.{pair_parts}
use Rattle.script_text.proofs.operation.read_pair.Goals as goal

pub returns-in_err-read_number : goal.returns-in_err-read_number
returns-in_err-read_number c =
    rw c.from_residual-in_err-read_number.ensures
    (λ m n is_m is_n e. c.in_err-read_number.ensures m is_m
    (pair_parts c.args.words.now c.in_ok-first.first.now c.in_ok-first.second.now m n is_m c.in_ok-first.ensures.some e).0)

pub returns-in_err-read_number-2 : goal.returns-in_err-read_number-2
returns-in_err-read_number-2 c =
    rw c.from_residual-in_err-read_number-2.ensures
    (λ m n is_m is_n e. c.in_err-read_number-2.ensures n is_n
    (pair_parts c.args.words.now c.in_ok-first.first.now c.in_ok-first.second.now m n is_m c.in_ok-first.ensures.some e).1)

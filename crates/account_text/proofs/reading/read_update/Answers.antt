use Rattle.std.proofs.Common.{◌≡◌, ◌∷◌, ◌++◌, Some, ap, ◌∙◌, arith}
use Rattle.std.specs.Fmt.{decimal}
use Rattle.script_text.specs.Grammar.{op_text}
use Rattle.script_text.proofs.ScriptTexts.{Lacks-decimal}
use Rattle.account_text.proofs.AccountTexts.{update_words}
use Rattle.account_text.proofs.reading.read_update.Goals as goal

pub returns-in_err-after_position : goal.returns-in_err-after_position
returns-in_err-after_position c n update small fits is =
    absurd (c.in_err-after_position.ensures (decimal n) (decimal update.caller ++ 32 ∷ op_text update.op)
    (Lacks-decimal n 32 small (omega arith)) (is ∙ update_words n update))

pub returns-in_err-caller : goal.returns-in_err-caller
returns-in_err-caller c n update small fits is =
    let after = c.in_ok-after_position.ensures (decimal n) (decimal update.caller ++ 32 ∷ op_text update.op)
    (Lacks-decimal n 32 small (omega arith)) (is ∙ update_words n update) in
    absurd (c.in_err-caller.ensures update.caller (op_text update.op) (omega (arith, fits.0)) after)

pub returns-then-caller-from : goal.returns-then-caller-from
returns-then-caller-from c n update small fits is =
    let after = c.in_ok-after_position.ensures (decimal n) (decimal update.caller ++ 32 ∷ op_text update.op)
    (Lacks-decimal n 32 small (omega arith)) (is ∙ update_words n update) in
    let read = c.in_ok-caller.ensures update.caller (op_text update.op) (omega (arith, fits.0)) after in
    absurd (omega (arith, fits.0, read.0, c.from.ensures, c.if-caller-from.true))

pub returns-in_err-op : goal.returns-in_err-op
returns-in_err-op c n update small fits is =
    let after = c.in_ok-after_position.ensures (decimal n) (decimal update.caller ++ 32 ∷ op_text update.op)
    (Lacks-decimal n 32 small (omega arith)) (is ∙ update_words n update) in
    let read = c.in_ok-caller.ensures update.caller (op_text update.op) (omega (arith, fits.0)) after in
    absurd (cc (c.in_err-op.ensures update.op fits.1 read.1))

pub returns : goal.returns
returns c n update small fits is =
    let after = c.in_ok-after_position.ensures (decimal n) (decimal update.caller ++ 32 ∷ op_text update.op)
    (Lacks-decimal n 32 small (omega arith)) (is ∙ update_words n update) in
    let read = c.in_ok-caller.ensures update.caller (op_text update.op) (omega (arith, fits.0)) after in
    let op : c.in_ok-op.op ≡ update.op = cc (c.in_ok-op.ensures update.op fits.1 read.1) in
    ap (λ x. Some (record { caller = x; op = c.in_ok-op.op })) read.0 ∙ ap (λ x. Some (record { caller = update.caller; op = x })) op

use Rattle.std.proofs.Common.{◌∷◌, ◌++◌, ◌∙◌, arith}
use Rattle.std.specs.Fmt.{decimal}
use Rattle.script_text.proofs.ScriptTexts.{word_of, words_of, Lacks-word, Lacks-decimal}
use Rattle.account_text.proofs.AccountTexts.{after_key, key_fits, op_words, key_words, after_key-short, after_key-long}
use Rattle.account_text.proofs.reading.skip_op.Goals as goal
use Rattle.prcu_model.specs.Dictionary.{key_of}

pub returns-in_err-words : goal.returns-in_err-words
returns-in_err-words c rest fits is =
    let op = c.args.op in
    absurd (c.in_err-words.ensures (word_of op) (words_of op ++ 32 ∷ rest) (Lacks-word op 32 (omega arith)) (is ∙ op_words op rest))

pub returns-in_err-after_key : goal.returns-in_err-after_key
returns-in_err-after_key c rest fits is =
    let op = c.args.op in
    let words = c.in_ok-words.ensures (word_of op) (words_of op ++ 32 ∷ rest) (Lacks-word op 32 (omega arith)) (is ∙ op_words op rest) in
    absurd (c.in_err-after_key.ensures (decimal (key_of op)) (after_key op rest)
    (Lacks-decimal (key_of op) 32 (key_fits op fits) (omega arith)) (words ∙ key_words op rest))

pub returns-in-Get : goal.returns-in-Get
returns-in-Get c rest fits is =
    let op = c.args.op in
    let words = c.in_ok-words.ensures (word_of op) (words_of op ++ 32 ∷ rest) (Lacks-word op 32 (omega arith)) (is ∙ op_words op rest) in
    let after = c.in_ok-after_key.ensures (decimal (key_of op)) (after_key op rest)
    (Lacks-decimal (key_of op) 32 (key_fits op fits) (omega arith)) (words ∙ key_words op rest) in
    after ∙ after_key-short op rest c.in-Get.is

pub returns-in-Put : goal.returns-in-Put
returns-in-Put c rest fits is =
    let op = c.args.op in
    let words = c.in_ok-words.ensures (word_of op) (words_of op ++ 32 ∷ rest) (Lacks-word op 32 (omega arith)) (is ∙ op_words op rest) in
    let after = c.in_ok-after_key.ensures (decimal (key_of op)) (after_key op rest)
    (Lacks-decimal (key_of op) 32 (key_fits op fits) (omega arith)) (words ∙ key_words op rest) in
    let value = after_key-long op rest fits c.in-Put.is in
    c.skip_word-in-Put.ensures (decimal value.0) rest (Lacks-decimal value.0 32 value.1 (omega arith)) (after ∙ value.2)

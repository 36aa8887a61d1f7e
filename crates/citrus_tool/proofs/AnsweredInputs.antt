-- Which inputs are answered, and which line is told bad.
use Rattle.std.proofs.Common.{◌≡◌, ℕ, ◌-◌, ◌≤◌, suc, true, false, cond, eqb, List, [], ◌∷◌, ◌++◌, length, min, codes, decimal, Result, Err, IfOk, sym, ap, subst, ◌∙◌, arith, ◌<◌, Option, Some, ◌⊎◌, inl, inr, refl, append-nil, length-append}
use Rattle.std.proofs.lemmas.Result.{IfOk-weaker}
use Rattle.prcu_model.specs.declared.operation.Op.{Op}
use Rattle.prcu_model.proofs.Dictionaries.{below_from_slice_get}
use Rattle.script_text.specs.declared.error.ScriptError.{ScriptError}
use Rattle.script_text.specs.declared.error.ScriptError.TheVariants.{Line}
use Rattle.script_text.specs.Grammar.{lines_of, onto_first, IsFirstBadUpTo, IsScriptTextUpTo, IsScriptText}
use Rattle.command_words.specs.declared.commands.Command.{Command}
use Rattle.citrus_tool.specs.declared.outcome.Ran.{Ran}
use Rattle.citrus_tool.specs.declared.outcome.Ran.TheVariants.{Nothing}
use Rattle.command_words.specs.declared.statuses.Status.{Status}
use Rattle.command_words.specs.declared.statuses.Status.TheVariants.{BadScript, Done, Refused, Usage, ReadFault, WriteFault, NoMemory, TooLong}
use Rattle.citrus_tool.specs.declared.running.Answer.{Answer}
use Rattle.citrus_tool.specs.Answers.{TellsBadLineUpTo, Writes, Leaves, AnsweredBy, IsAnswerable}
use Rattle.io_edge.specs.Edge.{Takes, IsAtEnd, Appends, TakesToLimit}
use Rattle.command_words.specs.declared.commands.Command.TheVariants.{Run, Check, Load, Watch, Hash}
use Rattle.command_words.specs.Commands.{Reads, limit_of}
use Rattle.command_words.proofs.Inputs.{one_before}

-- Which line is told bad: a text has no more lines than bytes.

length-onto_first : (byte : ℕ) (lines : List (List ℕ)) → length (onto_first byte lines) ≤ suc (length lines)
length-onto_first byte [] = omega arith
length-onto_first byte (line ∷ lines) = omega arith

length-lines_of : (text : List ℕ) → length (lines_of text) ≤ length text
length-lines_of [] = omega arith
length-lines_of (byte ∷ bytes) =
    elim (eqb byte 10) as (λ b. length (cond b ([] ∷ lines_of bytes) (onto_first byte (lines_of bytes))) ≤ suc (length bytes)) [
      | true ↦ omega (arith, length-lines_of bytes)
      | false ↦ omega (arith, length-lines_of bytes, length-onto_first byte (lines_of bytes))
    ]

-- so the number of a bad line isn't larger
pub first_bad-within : (most : ℕ) (text : List ℕ) (number : ℕ) → IsFirstBadUpTo most text number → number ≤ length text
first_bad-within most text number bad =
    let there = below_from_slice_get (lines_of text) (number - 1) bad.line bad.there in
    let counted = bad.counted in
    omega (arith, length-lines_of text)

-- the error that reading tells of this line
abbrev IsLine : ScriptError → ℕ → Type 0
IsLine error n = ◌≡◌ {A = Result (List (List Op)) ScriptError} (Err error) (Err (Line n))

-- An answer that tells the first bad line of a text.
abbrev TellsError : ScriptError → Answer → Type 0
TellsError error answer = (answer.status ≡ BadScript) × (answer.ran ≡ Nothing) × (number : ℕ) × (error ≡ Line number)
    × (answer.text.items ≡ codes "bad line " ++ decimal number ++ codes "\n")

-- What is told of a text that isn't too long, where this error came of reading it.
module _ (most : ℕ) (input : List ℕ) (error : ScriptError) (short : length input ≤ 134217728)
    (line : (n : ℕ) → IsLine error n → (first : ℕ) × IsFirstBadUpTo most input first × (n ≡ min first 4294967295))
    (none : (n : ℕ) → IsLine error n → (scripts : List (List Op)) → IsScriptTextUpTo most input scripts → ⊥) where
  pub bad_told : (answer : Answer) → TellsError error answer → TellsBadLineUpTo most input answer.text.items
  bad_told answer tells =
      let number = tells.2 in
      let found = line number (ap Err tells.3) in
      let within = first_bad-within most input found.0 found.1 in
      let same : number ≡ found.0 = omega (arith, found.2) in
      record {
        number = found.0;
        first = found.1;
        none = none number (ap Err tells.3);
        told = tells.4 ∙ ap (λ n. codes "bad line " ++ decimal n ++ codes "\n") same;
      }

  -- So it is what a command writes that tells bad lines.
  pub refused : {E : Type 0} (command : Command) (result : Result Answer E)
      → ((text : List ℕ) → TellsBadLineUpTo most input text
      → (writes : Writes command BadScript input text) × Leaves command BadScript input text writes Nothing)
      → IfOk result (TellsError error) → IfOk result
      (λ answer. (writes : Writes command answer.status input answer.text.items)
      × Leaves command answer.status input answer.text.items writes answer.ran)
  refused command result tells =
      IfOk-weaker result _ _ (λ answer told.
      subst (λ (z : Status × Ran). (writes : Writes command z.0 input answer.text.items)
      × Leaves command z.0 input answer.text.items writes z.1) (λ i. (sym told.0 i, sym told.1 i))
      (tells answer.text.items (bad_told answer told)))

-- Which inputs are answered.

-- what was taken of an input is no longer than that
pub not_too_long : (limit : ℕ) (input : List ℕ) (after : Option (List ℕ)) (P : Type 0) → TakesToLimit limit (Some input) after P
    → length input ≤ limit → P → ⊥
not_too_long limit input after P t short p =
    let past : limit < length t.0 = t.3.0 p in
    omega (arith, ap length t.1.1, length-append t.0 t.1.0)

-- what was read to the end is the whole input
whole_input : (input : List ℕ) (after : Option (List ℕ)) (taken : List ℕ) → Takes (Some input) after taken → IsAtEnd after → taken ≡ input
whole_input input after taken t ended =
    let none : t.0 ≡ [] = subst IsAtEnd t.2 ended in
    sym (t.1 ∙ ap (λ rest. taken ++ rest) none ∙ append-nil taken)

no_bad_line : (command : Command) (input text : List ℕ) → Writes command BadScript input text → IsAnswerable command input → ⊥
no_bad_line (Run slots mode) input text bad good = bad.none good.0 good.1
no_bad_line (Check slots) input text bad good =
    let claims = good.2 in
    let same = one_before input bad.before claims.before bad.account good.1 bad.parts claims.parts in
    bad.bad.none good.0 (subst (λ b. IsScriptText b good.0) (sym same) claims.read)
no_bad_line (Load number scripts ops waiter) input text bad good = bad
no_bad_line (Watch low high slots waiter) input text bad good = bad.none good.0 good.1
no_bad_line Hash input text bad good = bad.none good.0 good.1

reads_bad : (command : Command) (input text : List ℕ) → Writes command BadScript input text → Reads command
reads_bad (Run slots mode) input text bad = tt
reads_bad (Check slots) input text bad = tt
reads_bad (Load number scripts ops waiter) input text bad = bad
reads_bad (Watch low high slots waiter) input text bad = tt
reads_bad Hash input text bad = tt

-- an input with good scripts isn't told bad
pub not_bad : (command : Command) (input : List ℕ) (after written written_now : Option (List ℕ)) (ran : Ran)
    → AnsweredBy command BadScript (Some input) after written written_now ran → IsAnswerable command input → ⊥
not_bad command input after written written_now ran a good =
    let same = whole_input input after a.input a.read (a.ended (reads_bad command a.input a.text a.answers)) in
    no_bad_line command a.input a.text a.answers (subst (IsAnswerable command) (sym same) good)

-- an input that was read whole, and an answer that was written whole
pub answered : {command : Command} {status told : Status} {left left_now written written_now : Option (List ℕ)} {ran : Ran}
    {input seen text sent : List ℕ} → status ≡ told → seen ≡ input → sent ≡ text
    → length input ≤ limit_of command → Takes left left_now input → (Reads command → IsAtEnd left_now)
    → (writes : Writes command status seen text) × Leaves command status seen text writes ran → Appends written written_now sent
    → AnsweredBy command told left left_now written written_now ran
answered {command} {status} {told} {left} {left_now} {written} {written_now} {ran} {input} {seen} {text} {sent}
    ends is wrote short took ended
    answers appended =
    let of_input = subst (λ (z : Status × List ℕ). (writes : Writes command z.0 z.1 text) × Leaves command z.0 z.1 text writes ran)
    (λ i. (ends i, is i)) answers in
    record {
      input = input;
      short = short;
      read = took;
      ended = ended;
      text = text;
      answers = of_input.0;
      leaves = of_input.1;
      appended = subst (Appends written written_now) wrote appended;
    }

-- the statuses that are left
pub one_of_three : (status : Status) → (status ≡ Usage → ⊥) → (status ≡ ReadFault → ⊥) → (status ≡ WriteFault → ⊥) → (status ≡ TooLong → ⊥)
    → (status ≡ BadScript → ⊥) → (status ≡ Done) ⊎ (status ≡ Refused) ⊎ (status ≡ NoMemory)
one_of_three Done u r w t b = inl refl
one_of_three Refused u r w t b = inr (inl refl)
one_of_three NoMemory u r w t b = inr (inr refl)
one_of_three Usage u r w t b = absurd (u refl)
one_of_three ReadFault u r w t b = absurd (r refl)
one_of_three WriteFault u r w t b = absurd (w refl)
one_of_three TooLong u r w t b = absurd (t refl)
one_of_three BadScript u r w t b = absurd (b refl)

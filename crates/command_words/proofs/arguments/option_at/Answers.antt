use Rattle.std.proofs.Common.{None, Some, string_bytes, sym}
use Rattle.std.proofs.lemmas.Bool.Decides.{Decides-eqb}
use Rattle.std.proofs.lemmas.List.{nil_from_length}
use Rattle.std.proofs.lemmas.Slice.Eq.{strip_prefix_is}
use Rattle.command_words.proofs.Inputs.{begins_with_name, separate, joined}
use Rattle.command_words.proofs.arguments.option_at.Goals as goal

pub returns-in_err-after-clause-only : goal.returns-in_err-after-clause-only
returns-in_err-after-clause-only c = λ value first rest cut spelled.
    let none = strip_prefix_is Decides-eqb c.as_bytes.result.now c.args.name.now None c.in_err-after.ensures.cases in
    absurd (begins_with_name string_bytes c.args.words.now c.in_ok-first.first.now c.in_ok-first.rest.now c.in_ok-first.ensures.cases.0
    c.as_bytes.result.now c.as_bytes.ensures.value c.args.name.now value first rest cut spelled none)

pub returns-in_ok-first-in-None-clause-some : goal.returns-in_ok-first-in-None-clause-some
returns-in_ok-first-in-None-clause-some c =
    let some = strip_prefix_is Decides-eqb c.as_bytes.result.now c.args.name.now (Some c.in_ok-after.after) c.in_ok-after.ensures.cases in
    separate string_bytes c.args.words.now c.in_ok-first.first.now c.in_ok-first.rest.now c.in_ok-first.ensures.cases.0
    c.as_bytes.result.now c.as_bytes.ensures.value c.args.name.now c.in_ok-after.after.now c.as_bytes-value.result.now
    c.in_ok-first-in-None.field-0.now some
    (nil_from_length c.in_ok-after.after.now c.in-None.ensures.cases)
    (sym c.in_ok-first-in-None.ensures.value) c.as_bytes-value.ensures.value

pub returns-in-Some-eq61-default-clause-some : goal.returns-in-Some-eq61-default-clause-some
returns-in-Some-eq61-default-clause-some c =
    let some = strip_prefix_is Decides-eqb c.as_bytes.result.now c.args.name.now (Some c.in_ok-after.after) c.in_ok-after.ensures.cases in
    let equals = rw c.in-Some-eq61-default.field-0-0-test at c.in-Some-eq61-default.ensures.cases.0 in
    joined string_bytes c.args.words.now c.in_ok-first.first.now c.in_ok-first.rest.now c.in_ok-first.ensures.cases.0 c.as_bytes.result.now
    c.as_bytes.ensures.value c.args.name.now c.in_ok-after.after.now c.in-Some-eq61-default.value.now some equals

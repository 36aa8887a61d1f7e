use Rattle.std.proofs.Common.{◌≡◌, Some, inl, inr, sym, subst}
use Rattle.io_edge.specs.Edge.{TakesToLimit}
use Rattle.command_words.specs.declared.statuses.Status.TheVariants.{BadScript, TooLong}
use Rattle.citrus_tool.specs.Answers.{AnsweredBy}
use Rattle.command_words.specs.Commands.{Reads, limit_of}
use Rattle.command_words.specs.declared.commands.Command.{Command}
use Rattle.citrus_tool.proofs.AnsweredInputs.{not_too_long, not_bad, one_of_three}
use Rattle.citrus_tool.proofs.top.tool.Goals as goal

pub returns-in-Some-clause-complete : goal.returns-in-Some-clause-complete
returns-in-Some-clause-complete g c = λ command input asked told good short quiet_source quiet_sink.
    let e = c.answer_from.ensures in
    let status = c.answer_from.result.status in
    let left = g.S.Source.rest c.answer_from.new.source in
    let written = g.K.Sink.bytes c.args.sink.now in
    let written_now = g.K.Sink.bytes c.answer_from.new.sink in
    let found = c.in-Some.ensures.only command asked in
    let same : c.in-Some.command ≡ command = cc in
    one_of_three status e.a_command (λ is. quiet_source (e.read_fault is)) (λ is. quiet_sink (e.write_fault is))
    (not_too_long (limit_of command) input left (status ≡ TooLong)
    (subst (λ k. TakesToLimit (limit_of k) (Some input) left (status ≡ TooLong)) same
    (subst (λ r. TakesToLimit (limit_of c.in-Some.command) r left (status ≡ TooLong)) told e.too_long)) short)
    (λ is. not_bad command input left written written_now c.answer_from.result.ran
    (subst (λ k. AnsweredBy k BadScript (Some input) left written written_now c.answer_from.result.ran) same
    (subst (λ r. AnsweredBy c.in-Some.command BadScript r left written written_now c.answer_from.result.ran) told
    (e.bad_script is))) good)

pub returns-in-Some-clause-too_long : goal.returns-in-Some-clause-too_long
returns-in-Some-clause-too_long g c = λ command asked.
    let left = g.S.Source.rest c.args.source.now in
    let left_now = g.S.Source.rest c.answer_from.new.source in
    let found = c.in-Some.ensures.only command asked in
    let same : c.in-Some.command ≡ command = cc in
    subst (λ (k : Command). TakesToLimit (limit_of k) left left_now
    (c.answer_from.result.status ≡ TooLong)) same c.answer_from.ensures.too_long

pub returns-in-None-clause-usage : goal.returns-in-None-clause-usage
returns-in-None-clause-usage g c = (
  λ _ some. let found = c.command_of.ensures.only some.0 some.1 in
      absurd (cc (found, c.in-None.is)),
  λ _. c.nothing.ensures.status,
)

pub returns-in-None-clause-complete : goal.returns-in-None-clause-complete
returns-in-None-clause-complete g c = λ command input asked told good short quiet_source quiet_sink.
    let found = c.command_of.ensures.only command asked in absurd (cc (found, c.in-None.is))

pub returns-in-Some-clause-last : goal.returns-in-Some-clause-last
returns-in-Some-clause-last g c = λ whole command asked reads.
    let found = c.in-Some.ensures.only command asked in
    let same : c.in-Some.command ≡ command = cc in
    c.answer_from.ensures.last whole (subst Reads (sym same) reads)

pub returns-in-Some-clause-detail : goal.returns-in-Some-clause-detail
returns-in-Some-clause-detail g c = inr (c.in-Some.command, c.in-Some.ensures.asked, c.answer_from.ensures.detail)

pub returns-in-None-clause-detail : goal.returns-in-None-clause-detail
returns-in-None-clause-detail g c = inl c.nothing.ensures.detail

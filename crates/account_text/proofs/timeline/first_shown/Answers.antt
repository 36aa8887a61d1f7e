use Rattle.std.proofs.Common.{inl, inr, ap, arith}
use Rattle.std.proofs.lemmas.Bool.{cases_lt}
use Rattle.std.proofs.lemmas.List.{get_or_default}
use Rattle.account_text.proofs.Changes.{nothing}
use Rattle.account_text.proofs.timeline.first_shown.Goals as goal

pub returns-then-change-key-clause-none : goal.returns-then-change-key-clause-none
returns-then-change-key-clause-none c = λ k none within own shown.
    elim (cases_lt k c.loop-change.change-index) [
      | inl before ↦ (c.loop-change.invariant k none before).1 shown
      | inr past ↦
          let rising = c.requires.ordered c.loop-change.change-index k none past within in
          let from = c.requires.from c.loop-change.change-index none c.loop-change-test.true in
          let same = ap (λ d. d.key) (get_or_default c.args.changes.now c.loop-change.change-index none nothing c.loop-change-test.true) in
          absurd (omega (arith, rising.0, from, same, own, c.if-change-key.true))
    ]

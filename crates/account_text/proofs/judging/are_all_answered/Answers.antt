use Rattle.std.proofs.Common.{◌≡◌, length, refl, ap, sym, ◌∙◌, arith}
use Rattle.std.proofs.lemmas.Bool.{false≢true}
use Rattle.account_text.proofs.JudgedScripts.{SameLengths-turn, SameLengths-end}
use Rattle.account_text.proofs.judging.are_all_answered.Goals as goal
use Rattle.prcu_model.proofs.ListFacts.{same_length, same_count, SameLengths-next}

pub returns-then-told-count : goal.returns-then-told-count
returns-then-told-count c = (
  λ e. absurd (false≢true e),
  λ same. absurd (c.if-told-count.true
      (same_count c.args.scripts.now c.args.told.now same ∙ sym c.count.ensures.count)),
)

pub loop-i-preserved : goal.loop-i-preserved
loop-i-preserved c =
    let scripts = c.args.scripts.now in
    let told = c.args.told.now in
    let inv = c.loop-i.invariant in
    let one : length c.index-told-i.result.entries ≡ length c.script.result.now =
    sym (ap length c.entries.ensures) ∙ c.if-entries-script.false in (
      λ rest. inv.0
          (SameLengths-turn scripts told c.loop-i.i c.script.result.now c.index-told-i.result c.script.ensures.script c.loop-i-test.true
          c.index-told-i.is one rest),
      λ all. SameLengths-next scripts told c.loop-i.i c.script.result.now c.index-told-i.result c.script.ensures.script c.loop-i-test.true
          c.index-told-i.is (inv.1 all),
    )

pub returns-then-entries-script : goal.returns-then-entries-script
returns-then-entries-script c =
    let scripts = c.args.scripts.now in
    let told = c.args.told.now in
    let inv = c.loop-i.invariant in (
      λ e. absurd (false≢true e),
      λ all. absurd (c.if-entries-script.true (ap length c.entries.ensures
          ∙ same_length scripts told c.loop-i.i c.script.result.now c.index-told-i.result c.script.ensures.script c.loop-i-test.true
          c.index-told-i.is (inv.1 all))),
    )

pub returns : goal.returns
returns c =
    (λ _. c.loop-i.invariant.0 (SameLengths-end c.args.scripts.now c.args.told.now c.loop-i.i (omega arith) (omega arith)), λ _. refl)

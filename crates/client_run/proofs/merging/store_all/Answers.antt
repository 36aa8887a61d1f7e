use Rattle.std.proofs.Common.{◌≡◌, ◌+◌, ◌++◌, List, length, ap, sym, subst, ◌∙◌, arith}
use Rattle.prcu_model.specs.declared.operation.Told.{Told}
use Rattle.prcu_model.specs.Fronts.{told_lines}
use Rattle.client_run.specs.Crews.{numbered_updates, stored, AreInside}
use Rattle.client_run.proofs.Histories.{all_left, all_left-turn, all_left-end, length-stored, stored-append, inside-append}
use Rattle.client_run.proofs.merging.store_all.Goals as goal
use Rattle.client_run.proofs.merging.store_all.Goals.{After-entries}
use Rattle.prcu_model.proofs.ListFacts.{SameLengths-next, same_count}

-- what is left begins with what this script was told of
next_left : (c : After-entries) → all_left c.args.scripts.now c.args.told.now c.loop-i.i
    ≡ numbered_updates c.loop-i.i (told_lines c.script.result.now c.entries.result.now)
    ++ all_left c.args.scripts.now c.args.told.now (c.loop-i.i + 1)
next_left c =
    all_left-turn c.args.scripts.now c.args.told.now c.loop-i.i c.script.result.now c.index-told-i.result c.script.ensures.script
    c.loop-i-test.true c.index-told-i.is
    ∙ ap (λ (told : List Told). numbered_updates c.loop-i.i (told_lines c.script.result.now told)
    ++ all_left c.args.scripts.now c.args.told.now (c.loop-i.i + 1)) (sym c.entries.ensures)

pub store_script-requires : goal.store_script-requires
store_script-requires c =
    let here = next_left (goal.at.store_script-requires c).After-entries in
    let own = numbered_updates c.loop-i.i (told_lines c.script.result.now c.entries.result.now) in
    record {
      inside = (inside-append (length c.loop-i.history) own (all_left c.args.scripts.now c.args.told.now (c.loop-i.i + 1))
          (subst (AreInside (length c.loop-i.history)) here c.loop-i.invariant.inside)).0;
    }

pub loop-i-preserved : goal.loop-i-preserved
loop-i-preserved c =
    let here = next_left (goal.at.loop-i-preserved c).After-entries in
    let own = numbered_updates c.loop-i.i (told_lines c.script.result.now c.entries.result.now) in
    let left = all_left c.args.scripts.now c.args.told.now (c.loop-i.i + 1) in
    let history = c.loop-i.history in
    let inside = (inside-append (length history) own left (subst (AreInside (length history)) here c.loop-i.invariant.inside)).1 in
    let same : length c.store_script.new.history ≡ length history = ap length c.store_script.ensures ∙ length-stored history own in
    record {
      lengths = SameLengths-next c.args.scripts.now c.args.told.now c.loop-i.i c.script.result.now c.index-told-i.result
          c.script.ensures.script c.loop-i-test.true c.index-told-i.is c.loop-i.invariant.lengths;
      inside = rw same inside;
      stored = ap (λ h. stored h left) c.store_script.ensures ∙ sym (stored-append history own left) ∙ ap (stored history) (sym here)
          ∙ c.loop-i.invariant.stored;
    }

pub returns : goal.returns
returns c =
    let none = all_left-end c.args.scripts.now c.args.told.now c.loop-i.i
    (omega (arith, same_count c.args.scripts.now c.args.told.now c.requires.lengths)) in
    rw none at c.loop-i.invariant.stored

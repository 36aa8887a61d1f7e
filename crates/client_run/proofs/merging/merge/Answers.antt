use Rattle.std.proofs.Common.{◌≡◌, length, drop, sym, ap, subst, ◌∙◌}
use Rattle.std.proofs.lemmas.List.{take_at}
use Rattle.prcu_model.specs.Scripts.{entries_of}
use Rattle.prcu_model.specs.Fronts.{all_told_lines}
use Rattle.client_run.specs.Crews.{all_numbered_updates, IsHistoryOf}
use Rattle.client_run.proofs.Histories.{length-stored, IsHistoryOf-stored, inside_from_all, same_history, IsHistoryOf-own}
use Rattle.client_run.proofs.merging.merge.Goals as goal

pub store_all-requires-clause-inside : goal.store_all-requires-clause-inside
store_all-requires-clause-inside c =
    let updates = all_numbered_updates 0 (all_told_lines c.args.scripts.now (entries_of c.args.told.now)) in
    let many : length c.deref_mut.result.now ≡ length updates =
    c.deref_mut.ensures.len ∙ c.in_ok-history.ensures.len ∙ c.count_updates-count.ensures in
    rw many (inside_from_all (length updates) updates c.requires.numbers.positive c.requires.numbers.limit)

pub returns-clause-history : goal.returns-clause-history
returns-clause-history c =
    let updates = all_numbered_updates 0 (all_told_lines c.args.scripts.now (entries_of c.args.told.now)) in
    let many : length c.deref_mut.result.now ≡ length updates =
    c.deref_mut.ensures.len ∙ c.in_ok-history.ensures.len ∙ c.count_updates-count.ensures in
    let long : length c.store_all.new.history ≡ c.in_ok-history.history.len =
    ap length c.store_all.ensures ∙ length-stored c.deref_mut.result.now updates ∙ c.deref_mut.ensures.len in
    let whole = take_at c.store_all.new.history (drop
    (length c.store_all.new.history) c.in_ok-history.history.items) c.in_ok-history.history.len long in
    subst (IsHistoryOf updates) (sym (whole ∙ c.store_all.ensures))
    (IsHistoryOf-stored c.deref_mut.result.now updates many c.requires.numbers)

pub returns-clause-only : goal.returns-clause-only
returns-clause-only c history tell =
    let lines = all_told_lines c.args.scripts.now (entries_of c.args.told.now) in
    same_history (all_numbered_updates 0 lines) _ history (returns-clause-history c) (IsHistoryOf-own history lines tell)

use Rattle.std.proofs.Common.{◌≡◌, ◌+◌, ◌++◌, ◌∷◌, [], length, subst, ◌∙◌}
use Rattle.std.proofs.lemmas.List.{length_push}
use Rattle.std.proofs.lemmas.Slice.Zip.{zip_turn, zip_end}
use Rattle.client_run.specs.Crews.{AreInside}
use Rattle.client_run.proofs.Histories.{own_left, own_left-turn, own_left-past, with_told, fits_with_told, stored-with_told, length-with_told, inside-with_told}
use Rattle.client_run.proofs.merging.store_script.Goals as goal
use Rattle.client_run.proofs.merging.store_script.Goals.{In-Some}

-- what is left begins with what this answer tells of
next_left : (c : In-Some) → own_left c.args.caller c.args.script.now c.args.told.now (length c.loop-op.yielded)
    ≡ with_told c.args.caller c.in-Some.op.now c.in-Some.answer.now
    (own_left c.args.caller c.args.script.now c.args.told.now (length c.loop-op.yielded + 1))
next_left c =
    let t = zip_turn c.args.script.now c.args.told.now c.loop-op.yielded c.into_iter-op-iterator.result c.loop-op.op-iterator
    c.next.new.self c.next.result (cc) (cc) c.loop-op.yielded_by (c.in-Some.op, c.in-Some.answer) c.in-Some.is c.next.ensures.steps in
    own_left-turn c.args.caller c.args.script.now c.args.told.now (length c.loop-op.yielded) c.in-Some.op.now c.in-Some.answer.now t.0 t.1
    (t.2 c.in-Some.op.now) (t.3 c.in-Some.answer.now)

pub store_update-requires : goal.store_update-requires
store_update-requires c =
    let left = own_left c.args.caller c.args.script.now c.args.told.now (length c.loop-op.yielded + 1) in
    let here = next_left (goal.at.store_update-requires c).In-Some in
    fits_with_told c.args.caller c.in-Some.op.now c.in-Some.answer.now c.loop-op.history c.loop-op.history left
    (subst (AreInside (length c.loop-op.history)) here c.loop-op.invariant.inside)

pub loop-op-preserved : goal.loop-op-preserved
loop-op-preserved c =
    let left = own_left c.args.caller c.args.script.now c.args.told.now (length c.loop-op.yielded + 1) in
    let here = next_left (goal.at.loop-op-preserved c).In-Some in
    let op = c.in-Some.op.now in
    let answer = c.in-Some.answer.now in
    let history = c.loop-op.history in
    let next = c.store_update.new.history in
    let same = length-with_told c.args.caller op answer history next left c.store_update.ensures in
    let inside = inside-with_told c.args.caller op answer history next left
    (subst (AreInside (length history)) here c.loop-op.invariant.inside) in
    let more : length (c.loop-op.yielded ++ (c.in-Some.op, c.in-Some.answer) ∷ []) ≡ length c.loop-op.yielded + 1 =
    length_push c.loop-op.yielded (c.in-Some.op, c.in-Some.answer) in
    rw more (record {
      inside = rw same inside;
      stored = stored-with_told c.args.caller op answer history next left c.store_update.ensures ∙ (rw here at c.loop-op.invariant.stored);
    })

pub returns : goal.returns
returns c =
    let turns = zip_end c.args.script.now c.args.told.now c.loop-op.yielded c.into_iter-op-iterator.result c.loop-op.op-iterator
    c.next.new.self c.next.result (cc) (cc) c.loop-op.yielded_by c.in-None.is c.next.ensures.steps in
    let none = own_left-past c.args.caller c.args.script.now c.args.told.now (length c.loop-op.yielded) turns in
    rw none at c.loop-op.invariant.stored

use Rattle.std.proofs.Common.{◌≡◌, ◌<◌, ◌≤◌, ◌%◌, ◌++◌, length, slice_index_or, subst, sym, ap, ◌∙◌}
use Rattle.std.proofs.lemmas.Bool.{eqb-true}
use Rattle.workload.specs.Draws.{drawn as drawn_at, next_state}
use Rattle.core_machine.specs.Runs.{unfinished_from}
use Rattle.core_machine.proofs.Making.{IsDrawing, ends_drawing, goes_drawing, run_ends, going_below, kept_after, picked_going, picked_is, some_left}
use Rattle.core_machine.proofs.machine.Machine.run.Goals as goal

pub returns-then-is_empty-clause-ran : goal.returns-then-is_empty-clause-ran
returns-then-is_empty-clause-ran g c scripts slots callers machine stored =
    let nobody : length (unfinished_from 0 c.loop.self.owns) ≡ 0 =
    sym (ap length c.loop.invariant.left_are) ∙ eqb-true (length c.loop.left.items) 0 (sym c.is_empty.ensures ∙ c.if-is_empty.true) in
    ends_drawing scripts slots callers c.args.number c.loop.state c.loop.self nobody
    (c.loop.invariant.draws scripts slots callers machine stored)

pub returns-then-is_empty-clause-ended : goal.returns-then-is_empty-clause-ended
returns-then-is_empty-clause-ended g c scripts slots callers machine stored =
    let nobody : length (unfinished_from 0 c.loop.self.owns) ≡ 0 =
    sym (ap length c.loop.invariant.left_are) ∙ eqb-true (length c.loop.left.items) 0 (sym c.is_empty.ensures ∙ c.if-is_empty.true) in
    run_ends scripts slots callers c.args.number c.loop.self machine
    (ends_drawing scripts slots callers c.args.number c.loop.state c.loop.self nobody
    (c.loop.invariant.draws scripts slots callers machine stored))

pub step-requires : goal.step-requires
step-requires g c =
    let some = some_left (length c.loop.left.items) (sym c.is_empty.ensures ∙ c.if-is_empty.false) in
    going_below c.loop.self.owns (slice_index_or c.deref.result.now (c.drawn.result % c.len.result) 0)
    (picked_going c.loop.self.owns c.loop.left.items c.deref.result.now c.drawn.result c.len.result c.loop.invariant.left_are
    c.deref.ensures.0 c.len.ensures.value some)

pub drop_ended-requires-clause-caller : goal.drop_ended-requires-clause-caller
drop_ended-requires-clause-caller g c =
    let some = some_left (length c.loop.left.items) (sym c.is_empty.ensures ∙ c.if-is_empty.false) in
    subst (λ n. slice_index_or c.deref.result.now (c.drawn.result % c.len.result) 0 < n) (sym c.step.ensures.count)
    (going_below c.loop.self.owns (slice_index_or c.deref.result.now (c.drawn.result % c.len.result) 0)
    (picked_going c.loop.self.owns c.loop.left.items c.deref.result.now c.drawn.result c.len.result c.loop.invariant.left_are
    c.deref.ensures.0 c.len.ensures.value some))

pub drop_ended-requires-clause-kept : goal.drop_ended-requires-clause-kept
drop_ended-requires-clause-kept g c own there going =
    let some = some_left (length c.loop.left.items) (sym c.is_empty.ensures ∙ c.if-is_empty.false) in
    c.loop.invariant.left_are
    ∙ kept_after c.loop.self.owns c.step.new.self.owns
    (slice_index_or c.deref.result.now (c.drawn.result % c.len.result) 0) c.step.ensures.others.0 own
    (picked_going c.loop.self.owns c.loop.left.items c.deref.result.now c.drawn.result c.len.result c.loop.invariant.left_are
    c.deref.ensures.0 c.len.ensures.value some) c.step.ensures.others.1 there going

pub loop-preserved : goal.loop-preserved
loop-preserved g c = record {
  count = c.step.ensures.count ∙ c.loop.invariant.count;
  left_are = c.drop_ended.ensures.left;
  draws = λ scripts slots callers machine stored.
      let drawing : IsDrawing scripts slots callers c.args.number c.loop.state c.loop.self =
      c.loop.invariant.draws scripts slots callers machine stored in
      let some : 1 ≤ length (unfinished_from 0 c.loop.self.owns) =
      subst (λ n. 1 ≤ n) (ap length c.loop.invariant.left_are)
      (some_left (length c.loop.left.items) (sym c.is_empty.ensures ∙ c.if-is_empty.false)) in
      let at : c.drawn.result ≡ drawn_at (next_state c.loop.state) = c.drawn.ensures.drawn ∙ ap drawn_at c.next_state-next.ensures in
      let chosen : slice_index_or c.deref.result.now (c.drawn.result % c.len.result) 0
      ≡ slice_index_or (unfinished_from 0 c.loop.self.owns)
      (drawn_at (next_state c.loop.state) % length (unfinished_from 0 c.loop.self.owns)) 0
      = picked_is c.loop.self.owns c.loop.left.items c.deref.result.now c.drawn.result c.len.result c.loop.invariant.left_are
      c.deref.ensures.0 c.len.ensures.value
      ∙ ap (λ n. slice_index_or (unfinished_from 0 c.loop.self.owns) (n % length (unfinished_from 0 c.loop.self.owns)) 0) at in
      subst (λ state. IsDrawing scripts slots callers c.args.number state c.step.new.self) (sym c.next_state-next.ensures)
      (goes_drawing scripts slots callers c.args.number c.loop.state
      (slice_index_or c.deref.result.now (c.drawn.result % c.len.result) 0) c.loop.self c.step.new.self drawing some chosen
      (c.step.ensures.stored scripts slots (callers ++ drawing.done) machine drawing.stored));
}

use Rattle.std.proofs.Common.{◌≡◌, ℕ, ◌<◌, List, [], ◌∷◌, ◌++◌, length, map, set, take, drop, slice_get, Some, refl, ◌∙◌, sym, ap, subst, vec_capacity}
use Rattle.std.proofs.lemmas.List.{take_at}
use Rattle.prcu_model.specs.declared.operation.Op.{Op}
use Rattle.core_points.specs.Programs.{Own}
use Rattle.core_points.specs.Laws.{is_finished}
use Rattle.core_machine.specs.declared.caller.Caller.{Caller}
use Rattle.core_machine.specs.Runs.{core}
use Rattle.core_machine.specs.Stored.{own_of}
use Rattle.core_machine.specs.Machines.{HasStored, IsReached, MachineAt}
use Rattle.core_machine.proofs.Owning.{at_of, below_by, got, has_room, lengths_by, next_answers, next_stored, one_changed, reached_by, reached_next, steppable, stored_by, unmoved, words_stay}
use Rattle.core_machine.proofs.machine.Machine.step.Goals as goal

pub step_at-requires-clause-caller : goal.step_at-requires-clause-caller
step_at-requires-clause-caller c =
    steppable c.deref_mut.result.now c.deref_mut-2.result.now c.self.inside.updates.items (vec_capacity c.self.inside.updates)
    (reached_by c.self.inside.words.items c.deref_mut.result.now c.self.inside.callers.items c.deref_mut-2.result.now
    c.self.inside.updates.items
    (vec_capacity c.self.inside.updates) c.deref_mut.ensures.value c.deref_mut-2.ensures.value c.self.invariant)
    c.args.caller (below_by c.args.caller c.self.inside.callers.items c.deref_mut-2.result.now c.args.self.now c.deref_mut-2.ensures.value
    (ap (λ (z : MachineAt). z.owns) c.self.view_is) c.requires)

pub step_at-requires-clause-room : goal.step_at-requires-clause-room
step_at-requires-clause-room c =
    let room = has_room c.self.inside.words.items c.self.inside.callers.items c.self.inside.updates.items
    (vec_capacity c.self.inside.updates) c.self.invariant in
    subst (λ n. n < vec_capacity c.self.inside.updates) (sym c.self.inside.updates.ok.0) room

-- the machine before the step, with the lists that the step borrows
reached_now : (c : goal.After-self-2-1) → IsReached
    (at_of c.deref_mut.result.now c.deref_mut-2.result.now c.self.inside.updates.items) c.deref_mut-2.result.now
    (vec_capacity c.self.inside.updates)
reached_now c =
    reached_by c.self.inside.words.items c.deref_mut.result.now c.self.inside.callers.items c.deref_mut-2.result.now
    c.self.inside.updates.items (vec_capacity c.self.inside.updates) c.deref_mut.ensures.value c.deref_mut-2.ensures.value c.self.invariant

-- the caller of the step, and what it left
stepper : (c : goal.After-self-2-1) → (x : Caller) × (slice_get c.deref_mut-2.result.now c.args.caller ≡ Some x)
stepper c = got c.deref_mut-2.result.now c.args.caller
    (below_by c.args.caller c.self.inside.callers.items c.deref_mut-2.result.now c.args.self.now c.deref_mut-2.ensures.value
    (ap (λ (z : MachineAt). z.owns) c.self.view_is) c.requires)

lengths : (c : goal.After-self-2-1) → (length c.step_at.new.words ≡ length c.deref_mut.result.now)
    × (length c.step_at.new.callers ≡ length c.deref_mut-2.result.now)
lengths c =
    let x = stepper c in
    lengths_by c.deref_mut.result.now c.deref_mut-2.result.now c.self.inside.updates.items (vec_capacity c.self.inside.updates)
    (reached_now c) c.args.caller x.0 x.1 c.step_at.new.words c.step_at.new.callers c.step_at.new.updates.items c.step_at.result
    (vec_capacity c.step_at.new.updates) c.step_at.ensures.capacity (is_finished x.0.stage) (c.step_at.ensures.stepped x.0 x.1)

-- the lists are written back whole
words_back : (c : goal.After-self-2-1) → take c.self.inside.words.len
    (c.step_at.new.words ++ drop (length c.step_at.new.words) c.self.inside.words.items) ≡ c.step_at.new.words
words_back c = take_at c.step_at.new.words (drop (length c.step_at.new.words) c.self.inside.words.items) c.self.inside.words.len
    ((lengths c).0 ∙ c.deref_mut.ensures.len)

callers_back : (c : goal.After-self-2-1) → take c.self.inside.callers.len
    (c.step_at.new.callers ++ drop (length c.step_at.new.callers) c.self.inside.callers.items) ≡ c.step_at.new.callers
callers_back c = take_at c.step_at.new.callers (drop (length c.step_at.new.callers) c.self.inside.callers.items) c.self.inside.callers.len
    ((lengths c).1 ∙ c.deref_mut-2.ensures.len)

pub invariant_of-self : goal.invariant_of-self
invariant_of-self c =
    let x = stepper c in
    subst (λ (z : List ℕ × List Caller). IsReached (at_of z.0 z.1 c.step_at.new.updates.items) z.1 (vec_capacity c.step_at.new.updates))
    (λ j. (sym (words_back c) j, sym (callers_back c) j))
    (reached_next c.deref_mut.result.now c.deref_mut-2.result.now c.self.inside.updates.items (vec_capacity c.self.inside.updates)
    (reached_now c) c.args.caller x.0 x.1 c.step_at.new.words c.step_at.new.callers c.step_at.new.updates.items c.step_at.result
    (vec_capacity c.step_at.new.updates) c.step_at.ensures.capacity (c.step_at.ensures.stepped x.0 x.1))

-- the core's stored part, on the lists that the step borrows
stored_now : (c : goal.After-self-2-1) (scripts : List (List Op)) (slots : ℕ) (callers : List ℕ)
    → HasStored scripts slots (core scripts slots callers) c.args.self.now
    → HasStored scripts slots (core scripts slots callers)
    (at_of c.deref_mut.result.now c.deref_mut-2.result.now c.self.inside.updates.items)
stored_now c scripts slots callers stored =
    stored_by scripts slots
    (core scripts slots callers) c.self.inside.words.items c.deref_mut.result.now c.self.inside.callers.items c.deref_mut-2.result.now
    c.self.inside.updates.items c.deref_mut.ensures.value c.deref_mut-2.ensures.value
    (subst (λ (z : MachineAt). HasStored scripts slots (core scripts slots callers) z) (sym c.self.view_is) stored)

pub returns-clause-stored : goal.returns-clause-stored
returns-clause-stored c scripts slots callers machine stored =
    let x = stepper c in
    subst (λ (z : List ℕ × List Caller). HasStored scripts slots (core scripts slots (callers ++ c.args.caller ∷ []))
    (at_of z.0 z.1 c.step_at.new.updates.items)) (λ j. (sym (words_back c) j, sym (callers_back c) j))
    (next_stored scripts slots callers machine c.deref_mut.result.now c.deref_mut-2.result.now c.self.inside.updates.items
    (stored_now c scripts slots callers stored) c.args.caller x.0 x.1
    c.step_at.new.words c.step_at.new.callers c.step_at.new.updates.items c.step_at.result (is_finished x.0.stage) refl
    (c.step_at.ensures.stepped x.0 x.1))

pub returns-clause-answers : goal.returns-clause-answers
returns-clause-answers c scripts slots callers machine stored =
    let x = stepper c in
    next_answers scripts slots callers machine c.deref_mut.result.now c.deref_mut-2.result.now c.self.inside.updates.items
    (stored_now c scripts slots callers stored) c.args.caller x.0 x.1
    c.step_at.new.words c.step_at.new.callers c.step_at.new.updates.items c.step_at.result (is_finished x.0.stage) refl
    (c.step_at.ensures.stepped x.0 x.1)

pub returns-clause-finished : goal.returns-clause-finished
returns-clause-finished c ended =
    let x = stepper c in
    (λ j. at_of (words_back c j) (callers_back c j) c.step_at.new.updates.items)
    ∙ unmoved c.deref_mut.result.now c.deref_mut-2.result.now c.self.inside.updates.items c.args.caller x.0 c.step_at.new.words
    c.step_at.new.callers c.step_at.new.updates.items c.step_at.result (is_finished x.0.stage) (c.step_at.ensures.stepped x.0 x.1) ended
    ∙ (λ j. at_of (c.deref_mut.ensures.value j) (c.deref_mut-2.ensures.value j) c.self.inside.updates.items) ∙ c.self.view_is

pub returns-clause-blocked : goal.returns-clause-blocked
returns-clause-blocked c why blocked =
    let x = stepper c in
    words_back c
    ∙ words_stay c.deref_mut.result.now c.deref_mut-2.result.now c.self.inside.updates.items c.args.caller x.0 c.step_at.new.words
    c.step_at.new.callers c.step_at.new.updates.items c.step_at.result (is_finished x.0.stage)
    (c.step_at.ensures.stepped x.0 x.1) why blocked
    ∙ c.deref_mut.ensures.value ∙ ap (λ (z : MachineAt). z.words) c.self.view_is

pub returns-clause-others : goal.returns-clause-others
returns-clause-others c =
    let x = stepper c in
    let one = one_changed c.deref_mut.result.now c.deref_mut-2.result.now c.self.inside.updates.items c.args.caller x.0 c.step_at.new.words
    c.step_at.new.callers c.step_at.new.updates.items c.step_at.result x.1 (is_finished x.0.stage)
    (c.step_at.ensures.stepped x.0 x.1) in (
      one.0,
      ap (map own_of) (callers_back c) ∙ one.1 ∙ ap (λ (os : List Own). set os c.args.caller one.0)
          (ap (map own_of) c.deref_mut-2.ensures.value ∙ ap (λ (z : MachineAt). z.owns) c.self.view_is),
    )

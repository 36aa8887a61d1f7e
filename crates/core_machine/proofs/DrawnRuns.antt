-- Which callers are drawn, and what the machine's run leaves of them.
-- The callers that are drawn from a number are determined by it.
use Rattle.std.proofs.Common.{◌≡◌, ℕ, ◌≤◌, List, [], ◌∷◌, length, refl, sym, ap, subst, ◌∙◌, arith, zero, suc, ◌+◌, ◌++◌, ◌<◌, map, take, slice_get, Some}
use Rattle.workload.specs.Draws.{next_state}
use Rattle.core_machine.specs.Runs.{AreDrawn, unfinished, Core, core, history_of, step, tolds_of}
use Rattle.core_machine.specs.Laws.{SchedulesAreOne, IsOfSchedule}
use Rattle.prcu_model.specs.declared.operation.Op.{Op}
use Rattle.prcu_model.specs.declared.operation.Told.{Told}
use Rattle.prcu_model.specs.declared.operation.Update.{Update}
use Rattle.prcu_model.specs.Fronts.{AreExplainable, StaysWithin}
use Rattle.prcu_model.specs.Dictionary.{IsLegal}
use Rattle.core_points.specs.Programs.{Own}
use Rattle.core_machine.specs.Machines.{HasEnded, HasRun, MachineAt}

nothing_left : (c : Core) → unfinished c ≡ [] → 1 ≤ length (unfinished c) → 1 ≤ 0
nothing_left c ended some = subst (λ (is : List ℕ). 1 ≤ length is) ended some

pub drawn_once : (c : Core) (state : ℕ) (is js : List ℕ) → AreDrawn c state is → AreDrawn c state js → is ≡ js
drawn_once c state [] [] d e = refl
drawn_once c state [] (j ∷ js) d e = absurd (let no = nothing_left c d e.0 in omega (arith, no))
drawn_once c state (i ∷ is) [] d e = absurd (let no = nothing_left c e d.0 in omega (arith, no))
drawn_once c state (i ∷ is) (j ∷ js) d e =
    let same : i ≡ j = d.1 ∙ sym e.1 in
    let rest : is ≡ js = drawn_once (step c i) (next_state state) is js d.2
    (subst (λ z. AreDrawn (step c z) (next_state state) js) (sym same) e.2) in
    λ k. same k ∷ rest k

pub schedules_are_one : SchedulesAreOne
schedules_are_one scripts slots number told other_told history other_history a b =
    let same : a.callers ≡ b.callers = drawn_once (core scripts slots []) number a.callers b.callers a.drawn b.drawn in (
      a.told_is ∙ ap (λ is. tolds_of (core scripts slots is)) same ∙ sym b.told_is,
      a.history_is ∙ ap (λ is. history_of (core scripts slots is)) same ∙ sym b.history_is,
    )

-- The lists of what callers were told, and what the machine's run leaves of them.

-- what each caller was told
abbrev pub tolds : List Own → List (List Told)
tolds owns = map (λ (own : Own). own.told) owns

pub copied_more : (owns : List Own) (i : ℕ) (answers : List Told) → i < length owns
    → ((own : Own) → slice_get owns i ≡ Some own → answers ≡ own.told) → tolds (take i owns) ++ answers ∷ [] ≡ tolds (take (i + 1) owns)
copied_more owns i answers below told = let next : i + 1 ≡ suc i = omega arith in
    from owns i below told ∙ ap (λ n. tolds (take n owns)) (sym next)
  where
    from : (owns : List Own) (i : ℕ) → i < length owns → ((own : Own) → slice_get owns i ≡ Some own → answers ≡ own.told)
        → tolds (take i owns) ++ answers ∷ [] ≡ tolds (take (suc i) owns)
    from [] i below told = absurd (omega (arith, below))
    from (o ∷ os) zero below told = let e : answers ≡ o.told = told o refl in ap (λ a. a ∷ []) e
    from (o ∷ os) (suc i) below told = ap (λ l. o.told ∷ l) (from os i (omega (arith, below)) told)

-- what was copied from a machine that has run
module _ (scripts : List (List Op)) (slots : ℕ) (m : MachineAt) (lists : List (List Told)) (history : List Update)
    (lists_are : lists ≡ tolds m.owns) (history_is : history ≡ m.updates) where
  pub copies_explained : HasEnded scripts slots m → AreExplainable scripts lists history slots
  copies_explained ended = subst (λ (z : List (List Told) × List Update). AreExplainable scripts z.0 z.1 slots)
      (λ j. (sym lists_are j, sym history_is j)) ended.explained

  pub copies_legal : HasEnded scripts slots m → IsLegal history
  copies_legal ended = subst IsLegal (sym history_is) ended.legal

  pub copies_within : HasEnded scripts slots m → StaysWithin history slots
  copies_within ended = subst (λ us. StaysWithin us slots) (sym history_is) ended.within

  pub copies_drawn : (number : ℕ) → HasRun scripts slots [] number m → IsOfSchedule scripts slots number lists history
  copies_drawn number run = record {
    callers = run.drawn;
    drawn = run.draws;
    told_is = lists_are ∙ ap tolds run.stored.owns;
    history_is = history_is ∙ run.stored.updates;
  }

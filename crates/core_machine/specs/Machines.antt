-- What a machine stores and answers.
-- Where the search of a caller's section stands.
-- Source: docs/TREE_CALLS.md, "The machine".
use Rattle.std.specs.Prelude.{ℕ, ◌==◌, if◌then◌else◌, Option, Some, None, ◌%◌, nat_lt, ◌||◌, ◌&&◌, not, map, ◌≡◌, ◌*◌, ◌<◌, Bool, true, false, List, ◌++◌, set, slice_get, slice_set}
use Rattle.core_state.specs.declared.view.Section.{Section}
use Rattle.core_state.specs.declared.view.View.{View}
use Rattle.core_state.specs.Parts.{state_slot}
use Rattle.core_points.specs.declared.stage.Stage.{Stage}
use mathlib.Core.Option.{none, some}
use lib.ListN.{get_elem?}
use Rattle.prcu_marks.specs.declared.mark.Why.{Why}
use Rattle.prcu_marks.specs.declared.mark.Why.TheVariants.{Reader, Lock, Front}
use Rattle.core_state.specs.Memory.{idle}
use Rattle.core_points.specs.Programs.{Own, or_root, target_lock, act_at, after}
use Rattle.core_points.specs.Laws.{is_finished}
use Rattle.core_machine.specs.Runs.{Core, told_in, core, history_of, shape_of, AreDrawn}
use Rattle.prcu_model.specs.declared.operation.Op.{Op}
use Rattle.prcu_model.specs.declared.operation.Update.{Update}
use Rattle.prcu_model.specs.Scripts.{op_count}
use Rattle.prcu_model.specs.Fronts.{AreExplainable, StaysWithin}
use Rattle.prcu_model.specs.Dictionary.{IsLegal}
use Rattle.core_machine.specs.declared.caller.Caller.{Caller}
use Rattle.core_machine.specs.declared.machine.Stepped.{Stepped}
use Rattle.core_machine.specs.declared.machine.Stepped.TheVariants.{Moved, Blocked, Finished}
use Rattle.prcu_marks.specs.Marks.{left_by}
use Rattle.core_state.specs.Acts.{access_of}
use Rattle.core_machine.specs.Laws.{IsMachine, CanStep, found_now, told_now, index_now, update_now, AreWordsOf}
use Rattle.core_machine.specs.Stored.{HasRoom, own_of}
use Rattle.core_points.specs.declared.stage.Stage.TheVariants as at

-- the slot at which the search of an open section stands or ended
abbrev pub slot_of : Option Section → Option ℕ
slot_of None = None
slot_of (Some section) = Some (state_slot section.reading.state)

abbrev pub standing_of : View → Option ℕ
standing_of v = slot_of v.section

-- where it stands after the step of this point, which found this number
abbrev pub stands_after : Option ℕ → ℕ → Stage → Option ℕ
stands_after old n (at.EnterStamp clock) = Some 0
stands_after old n (at.AtLink s b) = if n == 0 then old else Some n
stands_after old n (at.Leave next) = None
stands_after old n _ = old

-- What a step of the machine answers: that the caller went on, where it found its way blocked, or that its script had ended.
-- Source: docs/TREE_CALLS.md, "The machine".

-- a lock that was found taken
abbrev pub at_lock : ℕ → ℕ → Option Why
at_lock slot n = if n == 0 then None else Some (Lock slot)

-- Where the step of a point is blocked that found this number: an exchange found the lock taken or the front odd, or a load found a
-- stamp that stands in the wait's way.
abbrev pub blocked : Own → ℕ → Stage → Option Why
blocked o n (at.LeafLock spot) = at_lock spot.slot n
blocked o n (at.SetLock s generation) = at_lock s n
blocked o n (at.TargetLock t i) = at_lock (target_lock t i) n
blocked o n (at.CopyLock d u next_key) = at_lock (or_root o.spare) n
blocked o n (at.Commit update expected) = if not (n == expected) && (n % 2 == 1) then Some (Front n) else None
blocked o n (at.LookStamp waits clock p key) = if (n == idle) || nat_lt clock n then None else Some (Reader p key n)
blocked o n _ = None

-- what the step of this caller answers
pub data Answer : Type 0 where
  goes_on : Answer
  is_blocked : Why → Answer
  has_ended : Answer

abbrev pub answer_of : Option Why → Answer
answer_of None = goes_on
answer_of (Some why) = is_blocked why

abbrev pub own_answers : Core → Own → Answer
own_answers c o = if is_finished o.stage then has_ended else answer_of (blocked o (told_in c o) o.stage)

abbrev pub answers : Core → ℕ → Answer
answers c i = elim (get_elem? c.owns i) as (λ _. Answer) [ none ↦ has_ended | some o ↦ own_answers c o ]

-- What a machine stores, and that it is the core's.
-- Source: docs/TREE_CALLS.md, "The machine".

-- the words, what each caller keeps, the updates, and where the search of each caller's section stands
pub record MachineAt : Type 0 where
  pub words : List ℕ
  pub owns : List Own
  pub updates : List Update
  pub standing : List (Option ℕ)

-- The machine stores what the core has.
pub record HasStored (scripts : List (List Op)) (slots : ℕ) (c : Core) (m : MachineAt) : Type 0 where
  pub words : AreWordsOf (shape_of slots scripts) m.words c
  pub owns : m.owns ≡ c.owns
  pub updates : m.updates ≡ history_of c
  pub standing : m.standing ≡ map standing_of c.views

-- It was made for some scripts, some callers stepped, and there is room for what is still to come.
pub record IsReached (m : MachineAt) (kept : List Caller) (capacity : ℕ) : Type 0 where
  pub scripts : List (List Op)
  pub slots : ℕ
  pub callers : List ℕ
  pub machine : IsMachine scripts slots
  pub stored : HasStored scripts slots (core scripts slots callers) m
  pub rooms : (i : ℕ) (c : Caller) → slice_get kept i ≡ Some c → HasRoom c
  pub few : 4 * op_count scripts < capacity

-- After these callers, those that are drawn from the number stepped, until every script had ended.
pub record HasRun (scripts : List (List Op)) (slots : ℕ) (callers : List ℕ) (number : ℕ) (m : MachineAt) : Type 0 where
  pub drawn : List ℕ
  pub draws : AreDrawn (core scripts slots callers) number drawn
  pub stored : HasStored scripts slots (core scripts slots (callers ++ drawn)) m

-- All scripts have ended: the updates explain what the callers were told, and at none of their fronts were there more pairs than slots.
pub record HasEnded (scripts : List (List Op)) (slots : ℕ) (m : MachineAt) : Type 0 where
  pub explained : AreExplainable scripts (map (λ own. own.told) m.owns) m.updates slots
  pub legal : IsLegal m.updates
  pub within : StaysWithin m.updates slots

-- what a step answers, where it was blocked or not
abbrev pub stepped_of : Option Why → Stepped
stepped_of None = Moved
stepped_of (Some why) = Blocked why

abbrev pub stepped_as : Answer → Stepped
stepped_as goes_on = Moved
stepped_as (is_blocked why) = Blocked why
stepped_as has_ended = Finished

-- the caller can step, where its script hasn't ended
abbrev pub IsSteppable : List ℕ → List Caller → ℕ → Type 0
IsSteppable words callers i = (c : Caller) × (slice_get callers i ≡ Some c) × HasRoom c
    × (is_finished c.stage ≡ false → CanStep words (own_of c))

-- what a step of this caller leaves
pub record HasMoved (words : List ℕ) (callers : List Caller) (updates : List Update) (i : ℕ) (c : Caller) (words' : List ℕ)
    (callers' : List Caller) (updates' : List Update) (result : Stepped) : Type 0 where
  pub words_are : words' ≡ set words (index_now (own_of c))
      (left_by (access_of (own_of c).place (act_at (own_of c) c.stage)) (found_now words (own_of c)))
  pub now : Caller
  pub callers_are : callers' ≡ slice_set callers i now
  pub own : own_of now ≡ after (own_of c) (told_now words (own_of c)) c.stage
  pub room : HasRoom now
  pub stands : now.stands ≡ stands_after c.stands (told_now words (own_of c)) c.stage
  pub updates_are : updates' ≡ updates ++ update_now (own_of c)
  pub answer : result ≡ stepped_of (blocked (own_of c) (told_now words (own_of c)) c.stage)

pub record IsUnmoved (words : List ℕ) (callers : List Caller) (updates : List Update) (words' : List ℕ) (callers' : List Caller)
    (updates' : List Update) (result : Stepped) : Type 0 where
  pub words_are : words' ≡ words
  pub callers_are : callers' ≡ callers
  pub updates_are : updates' ≡ updates
  pub answer : result ≡ Finished

abbrev pub StepsBy : Bool → List ℕ → List Caller → List Update → ℕ → Caller → List ℕ → List Caller → List Update → Stepped → Type 0
StepsBy true words callers updates i c words' callers' updates' result = IsUnmoved words callers updates words' callers' updates' result
StepsBy false words callers updates i c words' callers' updates' result = HasMoved words callers updates i c words' callers' updates' result

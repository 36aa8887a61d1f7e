-- What is promised of the core's run, and of one step on the words.
-- What callers were told so far, as an account that isn't finished.
-- Source: docs/TREE_CALLS.md, "The machine".
use Rattle.std.specs.Prelude.{◌≡◌, ℕ, ◌+◌, ◌/◌, ◌≤◌, true, false, List, [], ◌∷◌, ◌++◌, length, Option, Some, None, ◌<◌, slice_index, set, zero, suc, ◌*◌, ◌⊎◌, Bool}
use Rattle.std.specs.List.{AllByRecursion}
use mathlib.Core.Option.{some}
use lib.ListN.{get_elem?}
use Rattle.prcu_model.specs.declared.operation.Op.{Op}
use Rattle.prcu_model.specs.declared.operation.Update.{Update}
use Rattle.prcu_model.specs.Dictionary.{Room, IsLegal}
use Rattle.prcu_model.specs.Fronts.{Placed, told_lines, own_updates, told_updates, IsConfirmed, CanBeNumbered, AreExplainable}
use Rattle.core_points.specs.declared.stage.Waits.TheVariants.{Move}
use Rattle.core_points.specs.declared.stage.Stage.{Stage}
use Rattle.core_points.specs.Programs.{Own, field_of, act_at, after}
use Rattle.core_points.specs.Laws.{is_finished}
use Rattle.prcu_model.specs.Scripts.{AllFit, op_count}
use Rattle.prcu_marks.specs.Callers.{FitsScripts}
use Rattle.core_state.specs.Marks.{Grace, Reuse}
use Rattle.core_state.specs.declared.shape.Shape.{Shape}
use Rattle.core_state.specs.declared.view.View.{View}
use Rattle.core_state.specs.Memory.{is_field, word_of, memory_of, word_count}
use Rattle.core_state.specs.Invariant.{Invariant}
use Rattle.core_frames.specs.Laws.{KeepsPast}
use Rattle.core_state.specs.Acts.{access_of, Asks}
use Rattle.core_machine.specs.Runs.{Core, core, history_of, moved, shape_of, step, steps, tolds_of, AreDrawn, unfinished}
use Rattle.core_state.specs.declared.shape.Waiter.TheVariants.{Eer}
use Rattle.core_state.specs.declared.words.Field.{Field}
use Rattle.prcu_marks.specs.Marks.{said_by, StaysWord, left_by}
use Rattle.core_machine.specs.Stored.{HasSize, IsAble, MayStore}
use Rattle.prcu_model.specs.declared.operation.Op.TheVariants.{Get}
use Rattle.prcu_model.specs.declared.operation.Reply.{Reply}
use Rattle.prcu_model.specs.declared.operation.Reply.TheVariants.{Absent, Val}
use Rattle.prcu_model.specs.declared.operation.Told.{Told}
use Rattle.prcu_marks.specs.declared.commit.Commit.{Commit}
use Rattle.core_state.specs.declared.view.Section.{Section}
use Rattle.core_state.specs.declared.words.Field.TheVariants.{Front}
use Rattle.list_laws.specs.Counts.{Each, times}
use Rattle.core_points.specs.declared.stage.Last.TheVariants as last
use Rattle.core_points.specs.declared.stage.Stage.TheVariants as at

-- the position of the update that a call has made and not yet told of
abbrev pub untold : Stage → Option ℕ
untold (at.Even update front) = Some ((front + 2) / 2)
untold (at.Unlock last.Again) = None
untold (at.Unlock (last.New number)) = Some number
untold (at.Unlock (last.Gone number)) = Some number
untold (at.Unlock (last.Was value number)) = Some number
untold (at.Begin (Move m)) = Some m.number
untold (at.LookKey (Move m) clock p) = Some m.number
untold (at.LookStamp (Move m) clock p key) = Some m.number
untold (at.OldMark m) = Some m.number
untold (at.OldRight m) = Some m.number
untold (at.Unlink m child) = Some m.number
untold (at.EmptyTag number s b) = Some number
untold (at.EmptyRaise number s b tag) = Some number
untold _ = None

abbrev pub at_position : Option ℕ → Op → List Placed
at_position None op = []
at_position (Some number) op = record { position = number; op = op } ∷ []

-- What the caller of a script was told so far: the updates of the history are its own that it was told of, with their positions, and
-- behind them the one that its call has made and not told of; and the lines are explained as those of an account.
pub record IsToldSoFar (room : Room) (history : List Update) (caller : ℕ) (script : List Op) (o : Own) : Type 0 where
  pub shorter : length o.told ≤ length script
  pub whole : is_finished o.stage ≡ true → length o.told ≡ length script
  pub next : is_finished o.stage ≡ false → get_elem? script (length o.told) ≡ some o.op
  pub updates : own_updates caller history ≡ told_updates (told_lines script o.told) ++ at_position (untold o.stage) o.op
  pub confirmed : AllByRecursion (IsConfirmed history) (told_lines script o.told)
  pub fronts : CanBeNumbered room history (told_lines script o.told)

-- The same of all scripts, whose callers' updates are the whole history.
pub record AreToldSoFar (scripts : List (List Op)) (owns : List Own) (history : List Update) (slots : ℕ) : Type 0 where
  pub count : length owns ≡ length scripts
  pub legal : IsLegal history
  pub each : (i : ℕ) (script : List Op) (o : Own) → get_elem? scripts i ≡ some script → get_elem? owns i ≡ some o
      → IsToldSoFar (record { scripts = length scripts; slots = slots }) history i script o
  pub others : (c : ℕ) → length scripts ≤ c → own_updates c history ≡ []

-- What is promised of the core's run, whatever the scripts, the slots and the order of steps.
-- Source: docs/TREE_CALLS.md, "The machine".

-- what a machine is made for: 1 to 2,097,152 slots and 1 to 64 scripts, with at most 1,048,576 operations on keys that fit a word
pub record IsMachine (scripts : List (List Op)) (slots : ℕ) : Type 0 where
  pub some_slot : 1 ≤ slots
  pub few_slots : slots ≤ 2097152
  pub some_script : 1 ≤ length scripts
  pub few_scripts : length scripts ≤ 64
  pub few_ops : op_count scripts ≤ 1048576
  pub fit : AllFit scripts

-- the invariant holds of the words, the views and the marks; so waits have outlasted their readers, and no slot was used again too early
pub record IsSound (scripts : List (List Op)) (slots : ℕ) (c : Core) : Type 0 where
  pub invariant : Invariant (shape_of slots scripts) c.memory c.views c.marks
  pub grace : Grace c.marks
  pub reuse : Reuse c.marks

-- After these callers have stepped in this order, whatever the order, the core is sound.
abbrev pub CoresAreSound : Type 0
CoresAreSound = (scripts : List (List Op)) (slots : ℕ) (callers : List ℕ) → IsMachine scripts slots
    → IsSound scripts slots (core scripts slots callers)

-- A step of a caller whose script hasn't ended is the act of its point, at the caller's place. It is on one of the tree's words, and what
-- it asks of the table and of the view is given.
pub record IsAllowed (k : Shape) (c : Core) (i : ℕ) (o : Own) (v : View) : Type 0 where
  pub place : v.allowance.place ≡ o.place
  pub field : is_field k (field_of o.place (act_at o o.stage)) ≡ true
  pub allowed : Asks k v (act_at o o.stage)
  pub past : KeepsPast c.memory c.marks (step c i).memory
  pub makes : step c i ≡ moved c i o v

abbrev pub StepsAreAllowed : Type 0
StepsAreAllowed = (scripts : List (List Op)) (slots : ℕ) (callers : List ℕ) (i : ℕ) (o : Own) (v : View) → IsMachine scripts slots
    → let c : Core = core scripts slots callers in
    get_elem? c.owns i ≡ some o → get_elem? c.views i ≡ some v → is_finished o.stage ≡ false → IsAllowed (shape_of slots scripts) c i o v

-- At each moment what was told is explained by the updates.
abbrev pub ToldsAreExplained : Type 0
ToldsAreExplained = (scripts : List (List Op)) (slots : ℕ) (callers : List ℕ) → IsMachine scripts slots → let c : Core =
    core scripts slots callers in AreToldSoFar scripts c.owns (history_of c) slots

-- Once all scripts have ended, it is so as an account asks, and the marks fit the scripts.
abbrev pub EndsAreExplained : Type 0
EndsAreExplained = (scripts : List (List Op)) (slots : ℕ) (callers : List ℕ) → IsMachine scripts slots → let c : Core =
    core scripts slots callers in unfinished c ≡ []
    → AreExplainable scripts (tolds_of c) (history_of c) slots × FitsScripts scripts c.marks

-- Callers that were drawn have stepped until every script had ended: a draw stops nowhere else. That there is one isn't said.
abbrev pub DrawsEnd : Type 0
DrawsEnd = (c : Core) (state : ℕ) (callers : List ℕ) → AreDrawn c state callers → unfinished (steps c callers) ≡ []

-- One step of a caller on the words: what it needs, and what it leaves.
-- Source: docs/TREE_CALLS.md, "The machine".

-- the field of the caller's step, and where its word lies among those of the first waiter
abbrev pub field_now : Own → Field
field_now o = field_of o.place (act_at o o.stage)

abbrev pub shape_for : ℕ → ℕ → Shape
shape_for slots places = record { waiter = Eer; slots = slots; places = places; room = 16; tickets = 0 }

abbrev pub index_now : Own → ℕ
index_now o = word_of (shape_for o.slots o.places) (field_now o)

abbrev pub found_now : List ℕ → Own → ℕ
found_now words o = slice_index words (index_now o)

-- the number that the step tells: the one found, or stored where it is a store
abbrev pub told_now : List ℕ → Own → ℕ
told_now words o = said_by (access_of o.place (act_at o o.stage)) (found_now words o)

-- What a step of the caller on these words needs, so that no index, sum or list passes its end.
pub record CanStep (words : List ℕ) (o : Own) : Type 0 where
  pub size : HasSize o
  pub field : is_field (shape_for o.slots o.places) (field_now o) ≡ true
  pub within : index_now o < length words
  pub stores : MayStore o o.stage
  pub rises : StaysWord (access_of o.place (act_at o o.stage)) (found_now words o)
  pub able : IsAble o (told_now words o) o.stage

-- the update that the caller's step makes, if it makes one
abbrev pub update_at : Own → Stage → List Update
update_at o (at.Store u front) = record { caller = o.place; op = o.op } ∷ []
update_at o _ = []

abbrev pub update_now : Own → List Update
update_now o = update_at o o.stage

-- What is promised of one step on the words, of any core.
-- Source: docs/TREE_CALLS.md, "The machine".

-- the words are the core's memory
pub record AreWordsOf (k : Shape) (words : List ℕ) (c : Core) : Type 0 where
  pub long : length words ≡ word_count k
  pub same : memory_of k words ≡ c.memory

-- A caller whose script hasn't ended can step on the core's words.
abbrev pub CallersCanStep : Type 0
CallersCanStep = (scripts : List (List Op)) (slots : ℕ) (callers : List ℕ) (words : List ℕ) (i : ℕ) (o : Own) → IsMachine scripts slots
    → let c : Core = core scripts slots callers in
    AreWordsOf (shape_of slots scripts) words c → get_elem? c.owns i ≡ some o → is_finished o.stage ≡ false → CanStep words o

-- Such a step leaves the words, what the callers keep and the updates of the core after these callers and then this one.
pub record IsStored (k : Shape) (words : List ℕ) (c next : Core) (i : ℕ) (o : Own) : Type 0 where
  pub words_are : AreWordsOf k (set words (index_now o) (left_by (access_of o.place (act_at o o.stage)) (found_now words o))) next
  pub owns_are : next.owns ≡ set c.owns i (after o (told_now words o) o.stage)
  pub updates_are : history_of next ≡ history_of c ++ update_now o

abbrev pub StepsAreStored : Type 0
StepsAreStored = (scripts : List (List Op)) (slots : ℕ) (callers : List ℕ) (words : List ℕ) (i : ℕ) (o : Own) → IsMachine scripts slots
    → let c : Core = core scripts slots callers in
    AreWordsOf (shape_of slots scripts) words c → get_elem? c.owns i ≡ some o → is_finished o.stage ≡ false
    → IsStored (shape_of slots scripts) words c (core scripts slots (callers ++ i ∷ [])) i o

-- How calls end, in whatever order callers step. All slots of a table are those asked for, a spare for each caller, and the root.
-- Source: docs/TREE_CALLS.md, "The machine".

-- While these callers step in this order, there is a moment at which the core is so.
pub record Comes (c : Core) (more : List ℕ) (IsSo : Core → Type 0) : Type 0 where
  pub first : List ℕ
  pub rest : List ℕ
  pub parts : first ++ rest ≡ more
  pub there : IsSo (steps c first)

-- ---- the front

-- the front is even, and nobody has it
pub record IsFrontFree (c : Core) : Type 0 where
  pub even : (count : ℕ) × (c.memory Front ≡ 2 * count)
  pub nobody : Each c.views (λ (v : View). v.commit ≡ None)

-- Whoever has the front gives it back within two steps of its own, whatever steps others make between.
abbrev pub FrontsAreGivenBack : Type 0
FrontsAreGivenBack = (scripts : List (List Op)) (slots : ℕ) (callers more : List ℕ) (i : ℕ) (v : View) (commit : Commit)
    → IsMachine scripts slots → let c : Core = core scripts slots callers in
    get_elem? c.views i ≡ some v → v.commit ≡ Some commit → 2 ≤ times i more → Comes c more IsFrontFree

-- ---- sections

-- In each reachable core an open section stood at no slot twice, neither with its search nor with its walk.
abbrev pub SectionsStandOnce : Type 0
SectionsStandOnce = (scripts : List (List Op)) (slots : ℕ) (callers : List ℕ) (i : ℕ) (v : View) (section : Section)
    → IsMachine scripts slots → get_elem? (core scripts slots callers).views i ≡ some v → v.section ≡ Some section
    → (s : ℕ) → times s section.reading.stood ≤ 1

-- this caller is in no section
pub record IsOutside (i : ℕ) (c : Core) : Type 0 where
  pub view : View
  pub there : get_elem? c.views i ≡ some view
  pub outside : view.section ≡ None

-- Whoever is in a section, whatever its call, leaves it within so many steps of its own, whatever steps others make between.
abbrev pub SectionsAreLeft : Type 0
SectionsAreLeft = (scripts : List (List Op)) (slots : ℕ) (callers more : List ℕ) (i : ℕ) (v : View) (section : Section)
    → IsMachine scripts slots → let c : Core = core scripts slots callers in
    get_elem? c.views i ≡ some v → v.section ≡ Some section → 2 * (slots + length scripts + 1) + 10 ≤ times i more
    → Comes c more (IsOutside i)

-- ---- gets

-- the points of a get, the first one first
abbrev pub is_getting : Stage → Bool
is_getting at.EnterClock = true
is_getting (at.EnterKey clock) = true
is_getting (at.EnterStamp clock) = true
is_getting (at.AtLink s b) = true
is_getting (at.AtKey s p b) = true
is_getting (at.Value s) = true
is_getting (at.Leave next) = true
is_getting _ = false

-- this caller was told so much, and then a get's answer: Absent, or a value
pub record IsAnswered (i : ℕ) (told : List Told) (c : Core) : Type 0 where
  pub own : Own
  pub there : get_elem? c.owns i ≡ some own
  pub reply : Reply
  pub told_is : own.told ≡ told ++ record { reply = reply; number = 0 } ∷ []
  pub answers : (reply ≡ Absent) ⊎ ((value : ℕ) × (reply ≡ Val value))

-- Who gets a key is answered within so many steps of its own, whatever steps others make between.
abbrev pub GetsAreWaitFree : Type 0
GetsAreWaitFree = (scripts : List (List Op)) (slots : ℕ) (callers more : List ℕ) (i x : ℕ) (o : Own)
    → IsMachine scripts slots → let c : Core = core scripts slots callers in
    get_elem? c.owns i ≡ some o → o.op ≡ Get x → is_getting o.stage ≡ true → 2 * (slots + length scripts + 1) + 4 ≤ times i more
    → Comes c more (IsAnswered i o.told)

-- so many steps of one caller
abbrev pub alone : ℕ → ℕ → List ℕ
alone i zero = []
alone i (suc n) = i ∷ alone i n

-- So who gets a key and steps alone is answered, whatever the others hold and wherever they stand.
abbrev pub GetsAnswer : Type 0
GetsAnswer = (scripts : List (List Op)) (slots : ℕ) (callers : List ℕ) (i x : ℕ) (o : Own)
    → IsMachine scripts slots → let c : Core = core scripts slots callers in
    get_elem? c.owns i ≡ some o → o.op ≡ Get x → is_getting o.stage ≡ true
    → Comes c (alone i (2 * (slots + length scripts + 1) + 4)) (IsAnswered i o.told)

-- The run whose callers are drawn from a number.
-- Source: docs/TREE_CALLS.md, "The machine".

-- After the callers that are drawn from the number have stepped, the core has told this and made these updates.
pub record IsOfSchedule (scripts : List (List Op)) (slots number : ℕ) (told : List (List Told)) (history : List Update) : Type 0 where
  pub callers : List ℕ
  pub drawn : AreDrawn (core scripts slots []) number callers
  pub told_is : told ≡ tolds_of (core scripts slots callers)
  pub history_is : history ≡ history_of (core scripts slots callers)

-- The number decides what is told and which updates are made.
abbrev pub SchedulesAreOne : Type 0
SchedulesAreOne = (scripts : List (List Op)) (slots number : ℕ) (told other_told : List (List Told)) (history other_history : List Update)
    → IsOfSchedule scripts slots number told history
    → IsOfSchedule scripts slots number other_told other_history → (told ≡ other_told) × (history ≡ other_history)

-- Calls of clients: chains of them, what each leaves in the marks, and what runs of scripts leave.
use Rattle.std.specs.Prelude.{◌≡◌, List, [], ◌∷◌, ◌⊎◌, ℕ, ◌+◌, ◌-◌, ◌^◌, ◌<◌, ◌≤◌, ◌==◌, if◌then◌else◌, MatchBool, true, ◌++◌, length, slice_get, Some, slice_index_or}
use Rattle.prcu_model.specs.declared.operation.Op.{Op}
use Rattle.prcu_model.specs.declared.operation.Told.{Told}
use Rattle.std.specs.List.{AllByRecursion}
use mathlib.Core.List.{IsPrefix}
use Rattle.prcu_marks.specs.declared.mark.Mark.{Mark}
use Rattle.prcu_marks.specs.declared.mark.Mark.TheVariants.{Entered, Left, Began, Ended, Done}
use Rattle.prcu_model.specs.declared.operation.Op.TheVariants.{Del}
use Rattle.prcu_model.specs.declared.operation.Reply.{Reply}
use Rattle.prcu_model.specs.declared.operation.Update.{Update}
use Rattle.prcu_model.specs.Dictionary.{Dictionary, key_of, map_at, Confirms, tells_update, IsLegal}
use Rattle.prcu_model.specs.declared.operation.Line.{Line}
use Rattle.prcu_model.specs.Fronts.{own_updates, told_updates, IsConfirmed, MayStandBesideBy}
use Rattle.prcu_marks.specs.Marks.{updates_of, own_of}
use Rattle.std.specs.FinMap as map

-- Calls of one client, one after another. What a call did is a relation between the client before it, the operation,
-- what was told, and the client after it.
-- Source: docs/ACCOUNTS.md, "Clients".

-- The operations with what they told lead from one client to another, where each call was made from the client that the
-- call before it left.
abbrev pub IsChain : {C : Type 0} → (C → Op → Told → C → Type 0) → C → List Op → List Told → C → Type 0
IsChain made before [] [] after = after ≡ before
IsChain {C} made before (op ∷ ops) (told ∷ tolds) after = (next : C) × made before op told next × IsChain made next ops tolds after
IsChain made before _ _ after = ⊥

-- What a call of a client leaves in the list of marks, and how what it is told fits them.
-- Source: docs/ACCOUNTS.md, "Clients".

-- a caller: its place, the marks that it left, and those that it has seen
pub record Caller : Type 0 where
  pub place : ℕ
  pub own : List Mark
  pub seen : List Mark

-- the marks that it has seen of its place are those that it left
abbrev pub HasSeenItsOwn : Caller → Type 0
HasSeenItsOwn c = own_of c.place c.seen ≡ own_of c.place c.own

-- a mark that a call for the key leaves at the place
abbrev pub IsLeftBy : ℕ → ℕ → Mark → Type 0
IsLeftBy place key (Entered p c x) = (p ≡ place) × (x ≡ key)
IsLeftBy place key (Left p c) = p ≡ place
IsLeftBy place key (Began p c low high) = p ≡ place
IsLeftBy place key (Ended p c) = p ≡ place
IsLeftBy place key (Done u) = u.caller ≡ place
IsLeftBy place key _ = ⊥

-- how many sections with the key were entered at the place
abbrev pub entered_for : ℕ → ℕ → List Mark → ℕ
entered_for place key [] = 0
entered_for place key (Entered p c x ∷ ms) = (if p == place then (if x == key then 1 else 0) else 0) + entered_for place key ms
entered_for place key (_ ∷ ms) = entered_for place key ms

-- the least key above this one that the dictionary has
pub record IsNextKey (m : Dictionary) (key next : ℕ) : Type 0 where
  pub above : key < next
  pub there : map.contains_key m next ≡ true
  pub least : (other : ℕ) → key < other → map.contains_key m other ≡ true → next ≤ other

-- The update at this position of the history is a del by the place's caller, and the interval has the keys above the one
-- that it took out, up to the next that was there.
pub record IsMoveWait (history : List Update) (place low high : ℕ) : Type 0 where
  pub position : ℕ
  pub key : ℕ
  pub update : slice_get history position ≡ Some (record { caller = place; op = Del key })
  pub low_is : low ≡ key + 1
  pub next : IsNextKey (map_at history position) key high

-- a wait is for all keys, or is that of a del
abbrev pub WaitsFor : List Update → Mark → Type 0
WaitsFor history (Began place c low high) = ((low ≡ 0) × (high + 1 ≡ 2 ^ 64)) ⊎ IsMoveWait history place low high
WaitsFor history _ = Unit {0}

-- The call made its update, which stands at its number, after all that was seen before the call; and the reply confirms it.
pub record HasMadeUpdate (before : Caller) (op : Op) (told : Told) (marks seen : List Mark) : Type 0 where
  pub left : updates_of marks ≡ record { caller = before.place; op = op } ∷ []
  pub later : length (updates_of before.seen) < told.number
  pub stands : slice_get (updates_of seen) (told.number - 1) ≡ Some (record { caller = before.place; op = op })
  pub confirms : Confirms (map_at (updates_of seen) (told.number - 1)) op told.reply

-- The call made no update. The dictionary at some front, from what was seen before the call to what is seen after it,
-- explains the reply.
pub record WasExplained (explains : Dictionary → Op → Reply → Type 0) (before : Caller) (op : Op) (told : Told)
    (marks seen : List Mark) : Type 0 where
  pub left : updates_of marks ≡ []
  pub front : ℕ
  pub since : length (updates_of before.seen) ≤ front
  pub until : front ≤ length (updates_of seen)
  pub explained : explains (map_at (updates_of seen) front) op told.reply

-- One call: the marks that it left, at least one section with its key among them, and what they say of the reply. Which
-- dictionary explains a reply that tells of no update is for the client to say.
pub record HasAnswered (explains : Dictionary → Op → Reply → Type 0) (before : Caller) (op : Op) (told : Told)
    (after : Caller) : Type 0 where
  pub place : after.place ≡ before.place
  pub marks : List Mark
  pub own : after.own ≡ before.own ++ marks
  pub keyed : AllByRecursion (IsLeftBy before.place (key_of op)) marks
  pub entered : 1 ≤ entered_for before.place (key_of op) marks
  pub waits : AllByRecursion (WaitsFor (updates_of after.seen)) marks
  pub since : IsPrefix before.seen after.seen
  pub met : HasSeenItsOwn after
  pub reply : MatchBool (tells_update told.reply) (HasMadeUpdate before op told marks after.seen)
      (WasExplained explains before op told marks after.seen)

-- What is asked of the lines of one caller, as far as they go, where it has seen this history: the updates that they tell of are
-- just its own, with their positions; each reply that tells of one is confirmed; and the other lines have fronts, so that the
-- numbers never fall.
pub record MeetsFronts (explains : Dictionary → Op → Reply → Type 0) (history : List Update) (place : ℕ) (lines : List Line) : Type 0 where
  pub updates : own_updates place history ≡ told_updates lines
  pub confirmed : AllByRecursion (IsConfirmed history) lines
  pub numbers : List ℕ
  pub fronts : MayStandBesideBy explains history 0 lines numbers

-- What the marks of a run of scripts are, where the caller of each script has the place of its number.
-- Source: docs/ACCOUNTS.md, "Clients".

-- how many operations ask for the key
abbrev pub asking : ℕ → List Op → ℕ
asking key [] = 0
asking key (op ∷ ops) = (if key_of op == key then 1 else 0) + asking key ops

-- The key of a section is one that the script of its place asks for, and a wait of a script's place is for all keys or is
-- that of a del.
abbrev pub FitsScript : List (List Op) → List Update → Mark → Type 0
FitsScript scripts history (Entered place c key) = place < length scripts → 1 ≤ asking key (slice_index_or scripts place [])
FitsScript scripts history (Began place c low high) = place < length scripts → WaitsFor history (Began place c low high)
FitsScript scripts history _ = Unit {0}

-- The marks are those of the scripts' calls: their updates are a history; sections have keys that their scripts ask for, at
-- least as many as operations on them; and waits are for all keys or those of dels.
pub record FitsScripts (scripts : List (List Op)) (marks : List Mark) : Type 0 where
  pub legal : IsLegal (updates_of marks)
  pub each : AllByRecursion (FitsScript scripts (updates_of marks)) marks
  pub enough : (i key : ℕ) → i < length scripts → asking key (slice_index_or scripts i []) ≤ entered_for i key marks

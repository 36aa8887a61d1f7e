-- What the calls of the dictionary are told, and its clients.
-- What the calls of the dictionary are told.
-- Source: docs/HASH_DICTIONARY.md, "The calls of the hash dictionary".
use Rattle.std.specs.Prelude.{◌≡◌, ℕ, ◌-◌, ◌%◌, ◌≤◌, List, [], ◌∷◌, ◌++◌, length, Option, Some, None}
use Rattle.prcu_model.specs.declared.operation.Reply.{Reply}
use Rattle.prcu_model.specs.declared.operation.Reply.TheVariants.{New, Old, Full, Val, Absent, Gone, Was}
use Rattle.std.specs.List.{AllByRecursion}
use mathlib.Core.List.{IsPrefix}
use Rattle.prcu_marks.specs.declared.mark.Mark.{Mark}
use Rattle.prcu_marks.specs.declared.mark.Mark.TheVariants.{Entered, Left, Done, Unlinked}
use Rattle.prcu_model.specs.declared.operation.Op.{Op}
use Rattle.prcu_model.specs.declared.operation.Op.TheVariants.{Put, Set, Del, Get}
use Rattle.prcu_model.specs.Dictionary.{key_of, map_of, IsLegal, Dictionary, Explains}
use Rattle.prcu_marks.specs.Callers.{entered_for, IsChain, Caller, MeetsFronts}
use Rattle.prcu_marks.specs.Marks.{updates_of}
use Rattle.prcu_model.specs.declared.operation.Told.{Told}
use Rattle.hash_core.specs.declared.view.Hold.{Hold}
use Rattle.hash_core.specs.declared.view.View.{View}
use Rattle.hash_core.specs.Memory.{capacity}
use Rattle.hash_core.specs.Laws.{HasPairs}
use Rattle.hash_core.specs.Steps.{ShowsAbsent}
use Rattle.class_hash.specs.Calls.{AddsNoLists, Looked}
use Rattle.class_hash.specs.Updates.{HasGiven, HasSeenRoom, LeavesFull}
use Rattle.prcu_model.specs.Fronts.{told_lines, own_updates}
use Rattle.class_hash.specs.Seats.{TableAt}
use Rattle.class_hash.specs.Answers.{IsInformed}
use Rattle.std.specs.FinMap as finite

-- what a get is told
abbrev pub told_of : Option ℕ → Told
told_of None = record { reply = Absent; number = 0 }
told_of (Some value) = record { reply = Val value; number = 0 }

-- A get changes nothing but what the view has seen and done, and is told what the dictionary gave between its marks.
abbrev pub Gets : View → ℕ → Told → View → Type 0
Gets v key told w = (answer : Option ℕ) × (told ≡ told_of answer) × Looked v key answer w

-- a mark of a section with the key at the place
abbrev pub IsOfSection : ℕ → ℕ → Mark → Type 0
IsOfSection place key (Entered p c x) = (p ≡ place) × (x ≡ key)
IsOfSection place key (Left p c) = p ≡ place
IsOfSection place key _ = ⊥

-- Some sections with the key were entered and left, and nothing else has changed but what was seen and done.
pub record HasTried (v : View) (key : ℕ) (w : View) : Type 0 where
  pub marks : List Mark
  pub plain : AllByRecursion (IsOfSection v.place key) marks
  pub own : w.own ≡ v.own ++ marks
  pub seen : IsPrefix v.seen w.seen
  pub view : w ≡ record v { sections = w.sections; own = w.own; trail = w.trail; seen = w.seen }

-- The one update of the call was made, as the last of the history so far, which is as long as the number. It used a ticket.
-- No other mark than these came with it, and those of one section at least.
pub record HasUpdated (v : View) (op : Op) (before more : List Mark) (number : ℕ) (w : View) : Type 0 where
  pub marks : List Mark
  pub plain : AllByRecursion (IsOfSection v.place (key_of op)) marks
  pub searched : 1 ≤ entered_for v.place (key_of op) marks
  pub own : w.own ≡ (v.own ++ marks) ++ Done (record { caller = v.place; op = op }) ∷ []
  pub since : IsPrefix v.seen before
  pub seen : w.seen ≡ before ++ Done (record { caller = v.place; op = op }) ∷ more
  pub legal : IsLegal (updates_of w.seen)
  pub number_is : number ≡ length (updates_of w.seen)
  pub view : w ≡ record v { tickets = v.tickets - 1; sections = w.sections; own = w.own; trail = w.trail; seen = w.seen }

-- After some tries the last search found nothing, and no update was made.
pub record FoundNothing (v : View) (key number : ℕ) (w : View) : Type 0 where
  pub before : View
  pub tried : HasTried v key before
  pub looked : Looked before key None w
  pub none : number ≡ 0

-- The update was made that gives the key another value: the dictionary gave it the old value just before.
pub record HasSet (v : View) (key value old number : ℕ) (w : View) : Type 0 where
  pub before : List Mark
  pub updated : HasUpdated v (Set key value) before [] number w
  pub was : finite.get (map_of (updates_of before)) key ≡ Some old

-- A set is told Absent where its last search found nothing, and made no update. It is told the old value where it made its
-- update: the dictionary gave the key that value just before.
abbrev pub SetsBy : View → ℕ → ℕ → Reply → ℕ → View → Type 0
SetsBy v key value Absent number w = FoundNothing v key number w
SetsBy v key value (Was old) number w = HasSet v key value old number w
SetsBy v key value _ number w = ⊥

abbrev pub Sets : View → ℕ → ℕ → Told → View → Type 0
Sets v key value told w = SetsBy v key value told.reply told.number w

-- The update was made that takes the key out, and the key's slot was unlinked.
pub record HasDeleted (v : View) (key number : ℕ) (w : View) : Type 0 where
  pub before : List Mark
  pub slot : ℕ
  pub updated : HasUpdated v (Del key) before (Unlinked slot ∷ []) number w

-- A del is told Absent as a set is. It is told Gone where it made its update and unlinked the key's slot.
abbrev pub DelsBy : View → ℕ → Reply → ℕ → View → Type 0
DelsBy v key Absent number w = FoundNothing v key number w
DelsBy v key Gone number w = HasDeleted v key number w
DelsBy v key _ number w = ⊥

abbrev pub Dels : View → ℕ → Told → View → Type 0
Dels v key told w = DelsBy v key told.reply told.number w

-- Under the lock of the key's class the walk showed the key absent, and nothing else has changed but what was seen and done.
pub record HasWalked (v : View) (key : ℕ) (w : View) : Type 0 where
  pub hold : Hold
  pub class : hold.class ≡ key % 64
  pub absent : ShowsAbsent hold key
  pub trail : AddsNoLists v.trail w.trail
  pub seen : IsPrefix v.seen w.seen
  pub view : w ≡ record v { sections = w.sections; hold = Some hold; own = w.own; trail = w.trail; seen = w.seen }

-- After the updates seen the key is absent, and its class has as many pairs as slots.
pub record HasNoRoom (capacities : List ℕ) (key : ℕ) (seen : List Mark) : Type 0 where
  pub absent : finite.get (map_of (updates_of seen)) key ≡ None
  pub pairs : HasPairs (key % 64) (map_of (updates_of seen)) (capacity capacities (key % 64))

-- what a put is told that found the key absent, by its update's position, where it made one
abbrev pub told_added : Option ℕ → Told
told_added None = record { reply = Full; number = 0 }
told_added (Some number) = record { reply = New; number = number }

-- After some tries the last search found the key. No update was made, and no lists were loaded.
pub record FoundOld (v : View) (key number : ℕ) (w : View) : Type 0 where
  pub before : View
  pub tried : HasTried v key before
  pub old : ℕ
  pub looked : Looked before key (Some old) w
  pub none : number ≡ 0
  pub trail : AddsNoLists v.trail w.trail

-- A slot was given and then the update made that adds the pair. Under the lock, where the key was absent, a free slot or a retired
-- one had been found.
pub record HasAdded (capacities : List ℕ) (v : View) (key value number : ℕ) (w : View) : Type 0 where
  pub before : List Mark
  pub slot : ℕ
  pub updated : HasUpdated v (Put key value) before [] number w
  pub given : HasGiven v.seen slot before
  pub locked : View
  pub walked : HasWalked v key locked
  pub room : HasSeenRoom capacities locked w

-- No update was made. Under the lock, where the key was absent, no free slot and no retired one was found: so the class had no room.
pub record FoundFull (capacities : List ℕ) (v : View) (key number : ℕ) (w : View) : Type 0 where
  pub tried : HasTried v key w
  pub searched : 1 ≤ entered_for v.place key tried.marks
  pub locked : View
  pub walked : HasWalked v key locked
  pub leaves : LeavesFull capacities locked w
  pub room : HasNoRoom capacities key w.seen
  pub none : number ≡ 0

-- A put is told Old where its last search found the key, and made no update. It is told New where it was given a slot and made
-- its update; under the lock, where the key was absent, it had found a free slot or a retired one. It is told Full where it made
-- no update, and under the lock, where the key was absent, found no free slot and no retired one: so the class had no room.
abbrev pub PutsBy : List ℕ → View → ℕ → ℕ → Reply → ℕ → View → Type 0
PutsBy capacities v key value Old number w = FoundOld v key number w
PutsBy capacities v key value New number w = HasAdded capacities v key value number w
PutsBy capacities v key value Full number w = FoundFull capacities v key number w
PutsBy capacities v key value _ number w = ⊥

abbrev pub Puts : List ℕ → View → ℕ → ℕ → Told → View → Type 0
Puts capacities v key value told w = PutsBy capacities v key value told.reply told.number w

-- Clients of the hash dictionary.
-- Source: docs/ACCOUNTS.md, "Clients".

-- what a clause sees of a client: its table, and what its seat knows
pub record ClientAt : Type 0 where
  pub table : TableAt
  pub view : View

-- the caller that a client is
abbrev pub caller_of : ClientAt → Caller
caller_of client = record { place = client.view.place; own = client.view.own; seen = client.view.seen }

-- what an operation is told, by its call
abbrev pub Makes : List ℕ → View → Op → Told → View → Type 0
Makes capacities v (Put key value) told w = Puts capacities v key value told w
Makes capacities v (Get key) told w = Gets v key told w
Makes capacities v (Del key) told w = Dels v key told w
Makes capacities v (Set key value) told w = Sets v key value told w

-- A call of a client: what its operation was told, and that the seat is informed of all marks of its place.
pub record HasCalled (before : ClientAt) (op : Op) (told : Told) (after : ClientAt) : Type 0 where
  pub table : after.table ≡ before.table
  pub makes : Makes before.table.capacities before.view op told after.view
  pub informed : IsInformed before.table.capacities before.table.places after.view

-- The dictionary at which an operation is given this reply, and changes nothing. A put is told that no slot is left where the key
-- is absent and its class has as many pairs as slots. All other replies are those of a plain dictionary.
abbrev pub ExplainsInClasses : List ℕ → Dictionary → Op → Reply → Type 0
ExplainsInClasses capacities m (Put key value) Full = (finite.get m key ≡ None) × HasPairs (key % 64) m (capacity capacities (key % 64))
ExplainsInClasses capacities m op reply = Explains (record { scripts = 0; slots = 0 }) m op reply

-- Of a client whose place had made no update, the calls so far tell of lines that fit the updates that it has seen.
abbrev pub ChainsMeetFronts : Type 0
ChainsMeetFronts = (ops : List Op) (tolds : List Told) (before after : ClientAt)
    → IsInformed before.table.capacities before.table.places before.view
    → own_updates before.view.place (updates_of before.view.seen) ≡ [] → IsChain HasCalled before ops tolds after
    → MeetsFronts (ExplainsInClasses before.table.capacities) (updates_of after.view.seen) before.view.place (told_lines ops tolds)

-- What a history is judged by: what is seen of it, each caller's updates, lines and scripts.
use Rattle.std.specs.Prelude.{ℕ, List, ◌≡◌, ◌<◌, ◌==◌, length, take, count_by, slice_index, slice_index_or, ◌-◌, drop, slice_get, Some, ◌≢◌, ◌+◌, ◌*◌, ◌/◌, ◌%◌, ◌^◌, ◌≤◌, ◌++◌, All, if◌then◌else◌, Bool, true, false, IsTrue, Option, None, is_some}
use Rattle.prcu_model.specs.declared.operation.Update.{Update}
use Rattle.prcu_model.specs.Dictionary.{Room, map_at, Confirms, key_of, Explains}
use Rattle.std.specs.List.{AllByRecursion, list_any}
use Rattle.prcu_model.specs.declared.operation.Op.{Op}
use Rattle.prcu_model.specs.declared.operation.Told.{Told}
use Rattle.prcu_model.specs.declared.operation.Line.{Line}
use Rattle.prcu_model.specs.Fronts.{own_updates, told_updates, IsConfirmed, CanBeNumbered}
use Rattle.account_text.specs.declared.key_index.Change.{Change}
use Rattle.prcu_model.specs.declared.operation.Op.TheVariants.{Put, Get, Del, Set}
use Rattle.prcu_model.specs.declared.operation.Reply.{Reply}
use Rattle.prcu_model.specs.declared.operation.Reply.TheVariants.{Old, Full, Val, Absent}
use Rattle.std.specs.FinMap as map

-- What contracts see of a history that was looked through.
-- Source: docs/FORMATS.md, "Accounts".

-- a history, with the scripts and slots by which replies are judged
pub record Course : Type 0 where
  pub room : Room
  pub history : List Update

-- a history, and how many callers it is of
pub record Calls : Type 0 where
  pub history : List Update
  pub callers : ℕ

-- The updates of each caller, counted.
-- Source: docs/FORMATS.md, "Accounts".

-- how many of the updates are the caller's
abbrev pub own_count : ℕ → List Update → ℕ
own_count caller updates = count_by (λ update. update.caller == caller) updates

-- `turns` says of each update how many its caller has before it, and `counts` of each caller how many it has.
pub record AreCounted (history : List Update) (turns counts : List ℕ) : Type 0 where
  pub all : length turns ≡ length history
  pub turn : (i : ℕ) (none : Update) → i < length history
      → slice_index turns i ≡ own_count (slice_index_or history i none).caller (take i history)
  pub count : (caller : ℕ) → caller < length counts → slice_index counts caller ≡ own_count caller history

-- Lines as they are judged, one after another.
-- Source: docs/FORMATS.md, "Accounts".

-- an operation with what it was told
abbrev pub line_of : Op → Told → Line
line_of op told = record { op = op; reply = told.reply; number = told.number }

-- The line tells of the caller's update after so many others of its own, and the reply fits it.
abbrev pub IsTold : List Update → ℕ → ℕ → Line → Type 0
IsTold history caller turn line =
    (slice_get (own_updates caller history) turn ≡ Some (record { position = line.number; op = line.op }))
    × Confirms (map_at history (line.number - 1)) line.op line.reply

-- The caller's updates after so many of its own are those that the lines tell of, and each reply fits its update.
pub record AreToldFrom (history : List Update) (caller turn : ℕ) (lines : List Line) : Type 0 where
  pub updates : drop turn (own_updates caller history) ≡ told_updates lines
  pub confirmed : AllByRecursion (IsConfirmed history) lines

-- What a history is judged by, one script at a time.
-- Source: docs/FORMATS.md, "Accounts".

-- What `AreExplained` says of all scripts, of this caller's lines.
pub record IsScriptExplained (room : Room) (history : List Update) (caller : ℕ) (lines : List Line) : Type 0 where
  pub updates : own_updates caller history ≡ told_updates lines
  pub confirmed : AllByRecursion (IsConfirmed history) lines
  pub fronts : CanBeNumbered room history lines

-- The changes of a history by their keys: the buckets that they lie in, and what each update leaves.

-- Changes in buckets, where those of a key are found.
-- Source: docs/ACCOUNTS.md, "Least fronts by an index".

-- the key's bucket, of so many
unfoldable pub bucket_of : ℕ → ℕ → ℕ
bucket_of buckets key = key * 11400714819323198485 % 2 ^ 64 / 2 ^ 32 * buckets / 2 ^ 32

-- at a lower key, or at the key and no later than the front
abbrev pub IsUpTo : ℕ → ℕ → Change → Type 0
IsUpTo key front change = (change.key ≤ key) × (change.key ≡ key → change.position ≤ front)

-- keys ascend, and for each key the positions do
abbrev pub IsOrdered : List Change → Type 0
IsOrdered changes =
    (i j : ℕ) (none : Change) → i ≤ j → j < length changes
    → IsUpTo (slice_index_or changes j none).key (slice_index_or changes j none).position (slice_index_or changes i none)

-- buckets ascend, in each the keys do, and for each key the positions
abbrev pub IsOrderedByBucket : ℕ → List Change → Type 0
IsOrderedByBucket buckets changes =
    (i j : ℕ) (none : Change) → i ≤ j → j < length changes
    → (bucket_of buckets (slice_index_or changes i none).key ≤ bucket_of buckets (slice_index_or changes j none).key)
    × (bucket_of buckets (slice_index_or changes i none).key ≡ bucket_of buckets (slice_index_or changes j none).key
    → IsUpTo (slice_index_or changes j none).key (slice_index_or changes j none).position (slice_index_or changes i none))

-- Each bucket begins where the changes of lower buckets end; the last number is where all end.
pub record AreStarts (buckets : ℕ) (changes : List Change) (starts : List ℕ) : Type 0 where
  pub count : length starts ≡ buckets + 1
  pub within : (bucket : ℕ) → bucket ≤ buckets → slice_index starts bucket ≤ length changes
  pub lower : (bucket i : ℕ) (none : Change) → bucket ≤ buckets → i < slice_index starts bucket
      → bucket_of buckets (slice_index_or changes i none).key < bucket
  pub others : (bucket i : ℕ) (none : Change) → bucket ≤ buckets → slice_index starts bucket ≤ i → i < length changes
      → bucket ≤ bucket_of buckets (slice_index_or changes i none).key

-- The changes lie in buckets, in order.
pub record IsInBuckets (buckets : ℕ) (changes : List Change) (starts : List ℕ) : Type 0 where
  pub some : 0 < buckets
  pub ordered : IsOrderedByBucket buckets changes
  pub starts_are : AreStarts buckets changes starts

-- The part lies in one piece among the changes, and those outside it aren't of the key.
pub record IsCutOut (changes part : List Change) (key : ℕ) : Type 0 where
  pub front : List Change
  pub back : List Change
  pub is : changes ≡ front ++ (part ++ back)
  pub none_front : All (λ change. change.key ≢ key) front
  pub none_back : All (λ change. change.key ≢ key) back

-- What each update of a history leaves at its key, in the order of the keys.
-- Source: docs/FORMATS.md, "Accounts".

-- whether the reply says that no slot is left for a put
abbrev pub asks_for_room : Op → Reply → Bool
asks_for_room (Put key value) Full = true
asks_for_room _ _ = false

-- so many pairs, with twenty slots for each other script, fill the slots
abbrev pub IsFilled : Room → ℕ → Type 0
IsFilled room pairs = room.slots ≤ pairs + 20 * (room.scripts - 1)

-- The reply is given where the operation's key has this value, and changes nothing there.
abbrev pub IsShown : Op → Reply → Option ℕ → Type 0
IsShown (Get key) (Val told) value = value ≡ Some told
IsShown (Get key) Absent value = is_some value ≡ false
IsShown (Del key) Absent value = is_some value ≡ false
IsShown (Set key new) Absent value = is_some value ≡ false
IsShown (Put key new) Old value = IsTrue (is_some value)
IsShown _ _ value = ⊥

-- The front isn't below the other, and its dictionary explains the reply.
abbrev pub ExplainsFrom : Course → ℕ → Op → Reply → ℕ → Type 0
ExplainsFrom course before op reply front =
    (before ≤ front) × (front ≤ length course.history) × Explains course.room (map_at course.history front) op reply

-- The change is that of the update at its position: it has the update's key, and the value of that after the update.
pub record IsChangeOf (history : List Update) (change : Change) : Type 0 where
  pub from_one : 0 < change.position
  pub within : change.position ≤ length history
  pub key : (none : Update) → change.key ≡ key_of (slice_index_or history (change.position - 1) none).op
  pub value : change.value ≡ map.get (map_at history change.position) change.key

-- each of the first so many positions is that of a change
abbrev pub AreAllChanged : List Change → ℕ → Type 0
AreAllChanged changes count = (position : ℕ) → 0 < position → position ≤ count
    → IsTrue (list_any (λ change. change.position == position) changes)

-- at a higher key, or at the key and later than the front
abbrev pub IsPast : ℕ → ℕ → Change → Type 0
IsPast key front change = (key ≤ change.key) × (change.key ≡ key → front < change.position)

-- the value that the change leaves, if it is at the key
abbrev pub value_for : ℕ → Option Change → Option ℕ
value_for key None = None
value_for key (Some change) = if change.key == key then change.value else None

-- The position is that of the first change that shows the reply, and those before it are at the key.
pub record IsFirstShown (changes : List Change) (key : ℕ) (op : Op) (reply : Reply) (position : ℕ) : Type 0 where
  pub place : ℕ
  pub within : place < length changes
  pub is : (none : Change) → (slice_index_or changes place none).position ≡ position
  pub key_is : (none : Change) → (slice_index_or changes place none).key ≡ key
  pub shown : (none : Change) → IsShown op reply (slice_index_or changes place none).value
  pub first : (i : ℕ) (none : Change) → i < place → IsShown op reply (slice_index_or changes i none).value → ⊥

-- `sizes` has the number of pairs at each front, and `changes` the change of each update.
pub record IsIndexed (history : List Update) (sizes : List ℕ) (changes : List Change) : Type 0 where
  pub fronts : length sizes ≡ length history + 1
  pub size : (front : ℕ) → front ≤ length history → slice_index sizes front ≡ map.len (map_at history front)
  pub right : All (IsChangeOf history) changes
  pub whole : AreAllChanged changes (length history)

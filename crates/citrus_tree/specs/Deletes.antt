-- What the parts of a delete come to, and with what an update begins.
use Rattle.std.specs.Prelude.{◌≡◌, ◌⊎◌, ℕ, ◌+◌, ◌*◌, ◌^◌, ◌<◌, ◌≤◌, ◌==◌, if◌then◌else◌, List, [], ◌∷◌, ◌++◌, length, map, Option, Some, None, ◌≢◌}
use mathlib.Core.List.{IsPrefix}
use Rattle.prcu_marks.specs.declared.mark.Mark.{Mark}
use Rattle.prcu_marks.specs.declared.mark.Mark.TheVariants.{Entered, Left, Began, Ended, Done, Unlinked}
use Rattle.prcu_marks.specs.declared.mark.Side.{Side}
use Rattle.prcu_marks.specs.declared.mark.Side.TheVariants.{Left as LeftSide, Right as RightSide}
use Rattle.list_laws.specs.Counts.{IsIn}
use Rattle.core_points.specs.Facts.{read_at}
use Rattle.prcu_marks.specs.Callers.{IsNextKey}
use Rattle.prcu_marks.specs.Marks.{updates_of}
use Rattle.prcu_model.specs.Dictionary.{key_of, map_of}
use Rattle.prcu_model.specs.declared.operation.Reply.{Reply}
use Rattle.prcu_model.specs.declared.operation.Reply.TheVariants.{Gone, Absent}
use Rattle.prcu_model.specs.declared.operation.Told.{Told}
use Rattle.prcu_model.specs.declared.operation.Op.{Op}
use Rattle.prcu_model.specs.declared.operation.Op.TheVariants.{Del, Put, Get, Set}
use Rattle.core_state.specs.declared.shape.Shape.{Shape}
use Rattle.core_state.specs.declared.view.HeldLock.{HeldLock}
use Rattle.core_state.specs.declared.view.Retired.{Retired}
use Rattle.core_state.specs.declared.view.View.{View}
use Rattle.core_state.specs.declared.view.Reading.{Reading}
use Rattle.core_state.specs.declared.view.SearchState.TheVariants.{Found}
use Rattle.core_state.specs.declared.view.Section.{Section}
use Rattle.core_state.specs.declared.words.Field.TheVariants.{Link, Value}
use Rattle.core_state.specs.Views.{known_in, known_under}
use Rattle.core_points.specs.declared.stage.Node.{Node}
use Rattle.core_points.specs.declared.stage.Successor.{Successor}
use Rattle.core_points.specs.declared.stage.Target.{Target}
use Rattle.core_points.specs.declared.stage.Stage.{Stage}
use Rattle.tree_points.specs.Points.{IsAt, HasAdvanced}
use Rattle.citrus_tree.specs.Going.{GivesNoneBack, IsExpected, IsOther, MayBegin, KeepsSeat, KeepsWait, NeededSlots, retired_marks, waits_in}
use Rattle.citrus_tree.specs.declared.delete.Outcome.{Outcome}
use Rattle.citrus_tree.specs.declared.delete.Removed.{Removed}
use Rattle.seat_table.specs.Gains.{IsInformed}
use Rattle.seat_table.specs.Seats.{SeatAt}
use Rattle.seat_table.specs.Sections.{HasLeft, Makes}
use Rattle.citrus_tree.specs.Lookups.{is_load, is_of_lookup}
use Rattle.citrus_tree.specs.Replies.{Dels, DelsBy, GaveWay, HasTried, IsMoveWait, RetiresInOrder, TookOut, WasAnswered}
use Rattle.citrus_tree.specs.declared.delete.Outcome.TheVariants as outcome
use Rattle.citrus_tree.specs.declared.delete.Removed.TheVariants as removed
use Rattle.core_points.specs.declared.stage.Last.TheVariants as last
use Rattle.core_points.specs.declared.stage.Then.TheVariants as next
use Rattle.core_points.specs.declared.stage.Stage.TheVariants as at

-- What the parts of a delete come to, from point to point of the call.
-- Source: docs/TREE_CALLS.md, "The calls".

-- A call stands at this point.
abbrev pub StandsAt : Shape → Stage → View → Type 0
StandsAt k stage v = (op : Op) × (kept : ℕ) × IsAt k op kept stage v

-- A call that stood at the first point stands at the second now.
abbrev pub Comes : Shape → Stage → View → Stage → View → Type 0
Comes k from v to w = (op : Op) (kept : ℕ) → IsAt k op kept from v → IsAt k op kept to w

-- the slots that a view has locked, and those that its place has retired
abbrev pub locked_slots : View → List ℕ
locked_slots v = map (λ (l : HeldLock). l.slot) v.locks

abbrev pub retired_slots : View → List ℕ
retired_slots v = map (λ (r : Retired). r.slot) v.hands.retired

-- The place has begun no wait.
pub record KeepsWaits (v w : View) : Type 0 where
  pub wait : w.wait ≡ v.wait
  pub count : w.counts.waits ≡ v.counts.waits

-- No mark was left at the place, and the same slots are locked and retired.
pub record KeepsAll (v w : View) : Type 0 where
  pub advanced : HasAdvanced v w []
  pub waits : KeepsWaits v w
  pub retired : retired_slots w ≡ retired_slots v
  pub stay : retired_marks w ≡ retired_marks v
  pub locked : locked_slots w ≡ locked_slots v

-- The same, but for the locks.
pub record KeepsRest (v w : View) : Type 0 where
  pub advanced : HasAdvanced v w []
  pub waits : KeepsWaits v w
  pub retired : retired_slots w ≡ retired_slots v
  pub stay : retired_marks w ≡ retired_marks v

-- Nothing was changed but what the open section has found, and only loads of a search were made.
pub record OnlyLoads (v w : View) : Type 0 where
  pub all : KeepsAll v w
  pub made : Makes is_load v.trail w.trail
  pub others : w ≡ record v { section = w.section; trail = w.trail }
  pub inside : (section : Section) → v.section ≡ Some section
      → (reading : Reading) × (w.section ≡ Some (record section { reading = reading }))

-- A section with the key was entered, in which there were only loads, and then one was left.
pub record HasSearched (v : View) (key : ℕ) (w : View) : Type 0 where
  pub made : Makes is_of_lookup v.trail w.trail
  pub count : ℕ
  pub left : ℕ
  pub advanced : HasAdvanced v w (Entered v.allowance.place count key ∷ (Left v.allowance.place left ∷ []))
  pub waits : KeepsWaits v w
  pub retired : retired_slots w ≡ retired_slots v
  pub stay : retired_marks w ≡ retired_marks v

-- a slot to which a walk came, below another, with no generation loaded yet
abbrev pub walked_to : ℕ → ℕ → Successor
walked_to parent slot = record { parent = parent; slot = slot; parent_generation = 0; generation = 0 }

-- where a delete goes on that gives up so many locks and starts again
abbrev pub giving_up : ℕ → Stage
giving_up count = if count == 0 then at.EnterClock else at.Unlock last.Again

-- The update of the operation was made, at its number, and unlinked this slot; and these marks were left after it.
pub record HasDone (v : View) (op : Op) (node : ℕ) (after : List Mark) (number : ℕ) (w : View) : Type 0 where
  pub before : List Mark
  pub advanced : HasAdvanced v w (Done (record { caller = v.allowance.place; op = op }) ∷ after)
  pub since : IsPrefix v.seen before
  pub stands : IsPrefix (before ++ Done (record { caller = v.allowance.place; op = op }) ∷ (Unlinked node ∷ [])) w.seen
  pub number_is : number ≡ length (updates_of before) + 1

-- the node of a target, with its links as they are now
abbrev pub IsNodeOf : Target → Node → Type 0
IsNodeOf t node = node ≡ record t.node { left = node.left; right = node.right }

-- the lives of what is deleted fit a word
abbrev pub AreLivesSmall : Node → Option Successor → Type 0
AreLivesSmall node None = 2 * node.generation < 2 ^ 64
AreLivesSmall node (Some successor) = (2 * node.generation < 2 ^ 64) × (2 * successor.generation < 2 ^ 64)

-- the target has a successor: its node has two children
abbrev pub HasTwo : Target → Type 0
HasTwo t = (successor : Successor) × (t.successor ≡ Some successor)

-- The last section that was left had sought the key and found its node, and both links of that were loaded in it. They lead to slots.
pub record FoundTwoChildren (key : ℕ) (v : View) : Type 0 where
  pub reading : Reading
  pub earlier : List Reading
  pub last : v.records ≡ reading ∷ earlier
  pub sought : reading.key ≡ key
  pub node : ℕ
  pub parent : ℕ
  pub side : Side
  pub found : (value : Option ℕ) × (reading.state ≡ Found node parent side value)
  pub left : ℕ
  pub left_some : left ≢ 0
  pub left_loaded : IsIn reading.loads (read_at (Link node LeftSide) left)
  pub right : ℕ
  pub right_some : right ≢ 0
  pub right_loaded : IsIn reading.loads (read_at (Link node RightSide) right)

-- The open section sought the key and found it, and has loaded this value.
pub record HasValue (key value : ℕ) (v : View) : Type 0 where
  pub section : Section
  pub inside : v.section ≡ Some section
  pub sought : section.reading.key ≡ key
  pub slot : ℕ
  pub parent : ℕ
  pub side : Side
  pub found : section.reading.state ≡ Found slot parent side (Some value)

-- A call stood before the end of its section, with this target. Where it leaves that from the second view, it tries its first lock; and where
-- the target has a successor the section found two children.
abbrev pub LeavesFor : Shape → Target → View → View → Type 0
LeavesFor k t v w = (op : Op) (kept : ℕ) (x : View) → IsAt k op kept (at.Leave (next.Delete t)) v → HasLeft w x
    → IsAt k op kept (at.TargetLock t 0) x × (HasTwo t → FoundTwoChildren (key_of op) x)

-- The same call had its value loaded before that, if one is told.
abbrev pub LoadsSeen : Shape → Target → View → ℕ → View → Type 0
LoadsSeen k t v value w = (op : Op) (kept : ℕ) → IsAt k op kept (at.Leave (next.Delete t)) v → HasValue (key_of op) value w

-- A delete made its update, and after it began no wait, or just the one for its move.
pub record HasDeleted (v : View) (key number : ℕ) (w : View) : Type 0 where
  pub node : ℕ
  pub after : List Mark
  pub done : HasDone v (Del key) node after number w
  pub move : (after ≡ []) ⊎ IsMoveWait v done.before key after

-- The copy was linked, with the next key that the dictionary had.
pub record HasCopied (v : View) (key next_key node number : ℕ) (w : View) : Type 0 where
  pub done : HasDone v (Del key) node [] number w
  pub next : IsNextKey (map_of (updates_of done.before)) key next_key

-- The place has a spare for a copy, and room for two more retired slots: a delete of any key may begin its search.
abbrev pub IsReadyToDelete : Shape → View → View → Type 0
IsReadyToDelete k v w = (key kept : ℕ) → key < 2 ^ 64 → kept + 4 ≤ v.allowance.tickets → MayBegin k (Del key) kept w

-- A wait for everybody was begun and has ended; that comes only where it is needed.
pub record HasWaitedForRoom (k : Shape) (v : View) (marks : List Mark) (w : View) : Type 0 where
  pub count : ℕ
  pub marks_are : marks ≡ Began v.allowance.place count 0 18446744073709551615 ∷ (Ended v.allowance.place count ∷ [])
  pub why : NeededSlots k v w

pub record HasMadeRoom (k : Shape) (v w : View) : Type 0 where
  pub marks : List Mark
  pub advanced : HasAdvanced v w marks
  pub waited : (marks ≡ []) ⊎ HasWaitedForRoom k v marks w
  pub waits : v.counts.waits ≤ w.counts.waits
  pub latest : KeepsWait v w

-- A delete of a node with one child at most: it has begun no wait but the one that was needed for room, before its first search.
pub record WaitsOnceAtMost (k : Shape) (v w : View) : Type 0 where
  pub ready : View
  pub room : HasMadeRoom k v ready
  pub at_once : length v.hands.retired + 1 < k.room → v.hands.spare ≢ None → ready ≡ v
  pub waits : KeepsWaits ready w

-- A delete came to its end with no wait for everybody.
abbrev pub DelsAtOnce : View → ℕ → Told → View → Type 0
DelsAtOnce v key told w = (tries : List Mark) × DelsBy v key tries told.reply told.number w × (waits_in tries ≡ 0)

-- A delete made no update, since others were in its way or its node is to be left, with no wait for everybody.
pub record GaveWayAtOnce (v : View) (key : ℕ) (w : View) : Type 0 where
  pub tries : List Mark
  pub tried : HasTried v key tries w
  pub none : waits_in tries ≡ 0

-- What is said of what a delete came to: where it is told something, where it left a node with two children, and where it found another
-- value.
abbrev pub IfTold : Outcome → (Told → Option ℕ → Type 0) → Type 0
IfTold (outcome.Told told value) says = says told value
IfTold _ says = Unit {0}

abbrev pub IfTwo : Outcome → Type 0 → Type 0
IfTwo outcome.TwoChildren says = says
IfTwo _ says = Unit {0}

abbrev pub IfDiffers : Outcome → (ℕ → Type 0) → Type 0
IfDiffers (outcome.Differs found) says = says found
IfDiffers _ says = Unit {0}

-- the last search found this value, which is another one than the expected one
abbrev pub FoundOther : View → ℕ → Option ℕ → ℕ → View → Type 0
FoundOther v key expected found w = WasAnswered v key (Some found) w × IsOther expected found × IsInformed w

-- where a value is expected, the last search found it
abbrev pub FoundExpected : ℕ → Option ℕ → View → Type 0
FoundExpected key None w = Unit {0}
FoundExpected key (Some wanted) w = (v : View) × WasAnswered v key (Some wanted) w

-- What a delete that was told this has retired, and what one that took nothing out leaves listed.
abbrev pub RetiresBy : SeatAt → ℕ → Reply → ℕ → SeatAt → Type 0
RetiresBy s key Gone number t = RetiresInOrder s key number t
RetiresBy s key _ number t = t.listed ≡ s.listed

-- the same of a try, by the number of its update
abbrev pub RetiresIf : SeatAt → ℕ → Option ℕ → SeatAt → Type 0
RetiresIf s key (Some number) t = RetiresInOrder s key number t
RetiresIf s key None t = t.listed ≡ s.listed

-- where a delete goes on after it stored this link in a side
abbrev pub relinked_at : ℕ → ℕ → Side → ℕ → Stage
relinked_at number slot b child = if child == 0 then at.EmptyTag number slot b else at.Unlock (last.Gone number)

-- What was known of a slot's value under its lock is known still.
pub record KeepsValue (slot : ℕ) (v w : View) : Type 0 where
  pub still : (value : ℕ) → known_in (known_under v slot) (Value slot) ≡ Some value
      → known_in (known_under w slot) (Value slot) ≡ Some value

-- A value that was known of the node under its lock is the one that the update took out.
pub record TakesValue (v : View) (node key number : ℕ) (w : View) : Type 0 where
  pub took : (value : ℕ) → known_in (known_under v node) (Value node) ≡ Some value
      → TookOut (updates_of w.seen) v.allowance.place key value number

-- the value that the update took out is told
abbrev pub TellsTaken : View → ℕ → ℕ → Option ℕ → View → Type 0
TellsTaken v key number (Some value) w = TookOut (updates_of w.seen) v.allowance.place key value number
TellsTaken v key number None w = ⊥

-- With what an update begins.
-- Source: docs/TREE_CALLS.md, "The calls".

-- The first steps are those of a lookup: a section with the key was entered, there were loads in it alone, and it was left. No other step
-- was made before.
pub record BeginsByLookup (v : View) (key : ℕ) (w : View) : Type 0 where
  pub looked : View
  pub count : ℕ
  pub left : ℕ
  pub section : HasAdvanced v looked (Entered v.allowance.place count key ∷ (Left v.allowance.place left ∷ []))
  pub made : Makes is_of_lookup v.trail looked.trail
  pub marks : List Mark
  pub later : HasAdvanced looked w marks

-- A del first sees to it that the place has a spare, and room for two more retired slots. Where it has both it begins by its lookup.
pub record BeginsOnceReady (k : Shape) (v : View) (key : ℕ) (w : View) : Type 0 where
  pub ready : View
  pub room : HasMadeRoom k v ready
  pub at_once : length v.hands.retired + 1 < k.room → v.hands.spare ≢ None → ready ≡ v
  pub lookup : BeginsByLookup ready key w

-- A del gave no slot back, whatever waits it began; or all that were listed, and then two are listed at most.
abbrev pub GivesNoneOrAll : SeatAt → SeatAt → Type 0
GivesNoneOrAll s t = GivesNoneBack s t ⊎ (length t.listed ≤ 2)

-- A del was told this: with what it began, what it has retired, and what it leaves of the seat.
pub record DelTells (k : Shape) (s : SeatAt) (key : ℕ) (told : Told) (t : SeatAt) : Type 0 where
  pub dels : Dels k s.view key told t.view
  pub begins : BeginsOnceReady k s.view key t.view
  pub retires : told.reply ≡ Gone → RetiresInOrder s key told.number t
  pub keeps : KeepsSeat 4 s t
  pub slots : GivesNoneOrAll s t
  pub informed : IsInformed t.view

-- A del made no update, since others were in its way or its node is to be left: with what it began, and what it leaves of the seat. So it is
-- of a remove that found another value than the expected one.
pub record DelGaveWay (k : Shape) (s : SeatAt) (key : ℕ) (t : SeatAt) : Type 0 where
  pub gave : GaveWay k s.view (Del key) t.view
  pub begins : BeginsOnceReady k s.view key t.view
  pub keeps : KeepsSeat 4 s t
  pub slots : GivesNoneOrAll s t

-- What a remove is told. Gone where it made its update: just before it the dictionary gave the key this value, which is the expected one, if
-- one is. Differs where its last search found another value, and Absent where it found none, with no update.
abbrev pub Removes : Shape → SeatAt → ℕ → Option ℕ → Removed → SeatAt → Type 0
Removes k s key expected (removed.Gone number value) t = DelTells k s key (record { reply = Gone; number = number }) t
    × TookOut (updates_of t.view.seen) s.view.allowance.place key value number × IsExpected expected value
Removes k s key expected (removed.Differs found) t = DelGaveWay k s key t × FoundOther s.view key expected found t.view
Removes k s key expected removed.Absent t = DelTells k s key (record { reply = Absent; number = 0 }) t

-- what a remove is told whose delete is told this
abbrev pub removed_of : Told → Option ℕ → Removed
removed_of told None = removed.Absent
removed_of told (Some value) = removed.Gone told.number value

-- with what the call of an operation begins; a get is a lookup and nothing else
abbrev pub Begins : Shape → View → Op → View → Type 0
Begins k v (Put key value) w = BeginsByLookup v key w
Begins k v (Set key value) w = BeginsByLookup v key w
Begins k v (Del key) w = BeginsOnceReady k v key w
Begins k v (Get key) w = BeginsByLookup v key w

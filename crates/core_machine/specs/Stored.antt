-- What the machine's values stand for: what a caller keeps, and what the next point asks of the numbers.
-- Source: docs/TREE_CALLS.md, "The machine".
use Rattle.std.specs.Prelude.{◌≡◌, ◌≢◌, ℕ, ◌+◌, ◌*◌, ◌/◌, ◌%◌, ◌^◌, ◌<◌, ◌≤◌, Bool, true, false, if◌then◌else◌, length, drop}
use Rattle.core_state.specs.declared.words.Field.{Field}
use Rattle.core_points.specs.declared.stage.Update.{Update}
use Rattle.core_points.specs.declared.stage.Update.TheVariants as update
use Rattle.core_points.specs.declared.stage.Waits.{Waits}
use Rattle.core_points.specs.declared.stage.Waits.TheVariants.{Reuse, Move}
use Rattle.core_points.specs.declared.stage.Stage.{Stage}
use Rattle.core_points.specs.declared.stage.Stage.TheVariants as at
use Rattle.prcu_marks.specs.declared.access.Access.{Access}
use Rattle.core_state.specs.Acts.{access_of}
use Rattle.core_points.specs.Programs.{field_of, Own, key_now, act_at}
use Rattle.core_points.specs.Laws.{is_finished}
use Rattle.core_machine.specs.declared.caller.Caller.{Caller}

-- what a caller keeps; a place of the machine's table has room for 16 retired slots
abbrev pub own_of : Caller → Own
own_of c = record {
  place = c.place;
  places = c.places;
  slots = c.slots;
  room = 16;
  op = c.op;
  rest = drop c.taken c.script.items;
  stage = c.stage;
  told = c.told.entries;
  hand = c.hand;
  hand_life = c.hand_life;
  spare = c.spare;
  retired = c.retired.items;
  locks = c.locks.items;
  scan = c.scan;
  free = c.free;
  front = c.front;
  kept = 0;
}

-- there is room for the answers that are still to come, and the front that was found last can be counted on
abbrev pub HasRoom : Caller → Type 0
HasRoom c = (length (drop c.taken c.script.items) + (if is_finished c.stage then 0 else 1) ≤ c.told.spare) × (c.front < 2 ^ 63)

-- the word of the caller's step, and what the step does to it
abbrev pub touched : Own → Field × Access
touched o = (field_of o.place (act_at o o.stage), access_of o.place (act_at o o.stage))

-- A number that the step of a point stores, and that is counted up for it, fits a word; that of an open commit is odd.
abbrev pub MayStore : Own → Stage → Type 0
MayStore o at.Raise = 2 * (o.hand_life / 2 + 1) < 2 ^ 64
MayStore o (at.OldRaise aim life) = 2 * (life / 2 + 1) < 2 ^ 64
MayStore o (at.Commit u expected) = expected % 2 ≡ 0
MayStore o (at.Even u front) = front + 2 < 2 ^ 64
MayStore o (at.Mark d child) = 2 * d.generation + 1 < 2 ^ 64
MayStore o (at.EmptyRaise number s b tag) = tag + 1 < 2 ^ 64
MayStore o (at.CopyMark d u next_key) = 2 * d.generation + 1 < 2 ^ 64
MayStore o (at.OldMark m) = 2 * m.successor.generation + 1 < 2 ^ 64
MayStore o _ = Unit {0}

-- The points of giving slots back, of locks, and of a move, as the code has them apart.
abbrev pub at_move : Stage → Bool
at_move (at.SuccessorKey d u) = true
at_move (at.SuccessorValue d u next_key) = true
at_move (at.CopyField d u next_key value i) = true
at_move (at.CopyAge d u next_key) = true
at_move (at.CopyLock d u next_key) = true
at_move (at.CopyMark d u next_key) = true
at_move (at.OldMark m) = true
at_move (at.OldRight m) = true
at_move (at.Unlink m child) = true
at_move _ = false

-- under a delete's locks, or in a move
abbrev pub at_target : Stage → Bool
at_target (at.TargetLock t i) = true
at_target (at.TargetLoad t i found) = true
at_target (at.Mark d child) = true
at_target (at.EmptyTag number s b) = true
at_target (at.EmptyRaise number s b tag) = true
at_target stage = at_move stage

-- at or under locks
abbrev pub at_locks : Stage → Bool
at_locks (at.LeafField spot i) = true
at_locks (at.LeafLock spot) = true
at_locks (at.LeafLife spot) = true
at_locks (at.LeafSide spot life) = true
at_locks (at.LeafTag spot life link) = true
at_locks (at.Commit u expected) = true
at_locks (at.Store u front) = true
at_locks (at.Even u front) = true
at_locks (at.Unlock last) = true
at_locks (at.SetLock s generation) = true
at_locks (at.SetCheck s generation) = true
at_locks (at.SetValue s) = true
at_locks stage = at_target stage

-- at a wait, or giving retired slots back
abbrev pub at_wait : Stage → Bool
at_wait (at.Begin waits) = true
at_wait (at.LookKey waits clock p) = true
at_wait (at.LookStamp waits clock p key) = true
at_wait (at.OldAge aim) = true
at_wait (at.OldRaise aim life) = true
at_wait (at.OldFree aim) = true
at_wait (at.OldCount aim) = true
at_wait stage = at_locks stage

-- outside a section
abbrev pub is_outside : Stage → Bool
is_outside (at.Reserve aim expected) = true
is_outside (at.Seize aim) = true
is_outside (at.Age aim s) = true
is_outside (at.Keep s) = true
is_outside at.Raise = true
is_outside at.Free = true
is_outside at.Count = true
is_outside (at.Begin waits) = true
is_outside (at.LookKey waits clock p) = true
is_outside (at.LookStamp waits clock p key) = true
is_outside (at.OldAge aim) = true
is_outside (at.OldRaise aim life) = true
is_outside (at.OldFree aim) = true
is_outside (at.OldCount aim) = true
is_outside stage = at_locks stage

-- in a delete's search, or outside
abbrev pub in_delete : Stage → Bool
in_delete (at.ParentLife p b d) = true
in_delete (at.NodeLife d) = true
in_delete (at.NodeLeft d) = true
in_delete (at.NodeRight d) = true
in_delete (at.SuccessorLeft d u) = true
in_delete (at.SuccessorParentLife d u) = true
in_delete (at.SuccessorLife d u) = true
in_delete stage = is_outside stage

-- a search that takes a slot, or a wait's key above the deleted one, where numbers are counted up
abbrev pub MayAdd : Own → Waits → Type 0
MayAdd o (Reuse aim) = Unit {0}
MayAdd o (Move m) = key_now o + 1 < 2 ^ 64

-- where an update retires a slot
abbrev pub MayRetire : Own → Update → Type 0
MayRetire o (update.Leaf spot) = Unit {0}
MayRetire o (update.Value s old) = Unit {0}
MayRetire o (update.Bypass d child) = length o.retired < 16
MayRetire o (update.Copy d u next_key copy) = length o.retired < 16

-- What a caller's next point asks of the number found and of what it keeps, so that no sum passes the end of its type and no list the
-- end of its room.
abbrev pub IsAble : Own → ℕ → Stage → Type 0
IsAble o n (at.AtLink s b) = n < 2 ^ 32
IsAble o n (at.NodeRight d) = (d.left ≢ 0 → n < 2 ^ 32)
IsAble o n (at.SuccessorLeft d u) = n < 2 ^ 32
IsAble o n (at.LeafField spot i) = i ≤ 3
IsAble o n (at.CopyField d u next_key value i) = i ≤ 3
IsAble o n (at.LeafLock spot) = length o.locks < 5
IsAble o n (at.SetLock s generation) = length o.locks < 5
IsAble o n (at.CopyLock d u next_key) = length o.locks < 5
IsAble o n (at.TargetLock t i) = (i < 4) × (length o.locks < 5)
IsAble o n (at.TargetLoad t i found) = i ≤ 8
IsAble o n at.Count = n + 1 < 2 ^ 64
IsAble o n (at.OldCount aim) = n + 1 < 2 ^ 64
IsAble o n (at.LookKey waits clock p) = (p < o.places) × MayAdd o waits
IsAble o n (at.LookStamp waits clock p key) = p < o.places
IsAble o n (at.OldRaise aim life) = 1 ≤ length o.retired
IsAble o n (at.OldFree aim) = 1 ≤ length o.retired
IsAble o n (at.Commit u expected) = n + 2 < 2 ^ 63
IsAble o n (at.Store u front) = MayRetire o u
IsAble o n (at.Even u front) = front + 2 < 2 ^ 63
IsAble o n (at.Unlock last) = 1 ≤ length o.locks
IsAble o n (at.Unlink m child) = length o.retired < 16
IsAble o n _ = Unit {0}

-- how large the table is, and that the scan is inside it
pub record HasSize (o : Own) : Type 0 where
  pub slots : o.slots ≤ 2097152
  pub places : o.places ≤ 64
  pub scan : o.scan ≤ o.slots + o.places

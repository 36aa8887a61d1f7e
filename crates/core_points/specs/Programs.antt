-- What the calls do: their acts, what a caller keeps, the locks and loads of a delete, and the step of each point.
use Rattle.std.specs.Prelude.{ℕ, Bool, true, false, List, ◌+◌, ◌==◌, if◌then◌else◌, [], ◌∷◌, Option, Some, None, ◌*◌, nat_lt, ◌&&◌, ◌||◌, not, ◌-◌, ◌/◌, ◌%◌, nat_le, ◌++◌, length}
use Rattle.prcu_marks.specs.Marks.{left_by}
use Rattle.prcu_marks.specs.declared.mark.Mark.{Mark}
use Rattle.core_state.specs.declared.shape.Shape.{Shape}
use Rattle.core_state.specs.declared.view.View.{View}
use Rattle.core_state.specs.declared.act.Act.TheVariants.{LoadClock, AnnounceKey, EnterByStamp, LeaveByStamp, BeginWait, LookKey, LookStamp, LoadOwnLife, KeepAsSpare, LoadRetiredLife, Reserve, Seize, Fill, RaiseInHand, RaiseToSpare, RaiseRetired, FreeInHand, FreeRetired, CountFree, Lock, Unlock, SearchLoad, LockedLoad, OpenCommit, CloseCommit, LinkLeaf, Bypass, Mark as MarkNode, RaiseTag, LinkCopy, UnlinkLeft, UnlinkRight, ReplaceValue}
pub use Rattle.core_state.specs.declared.act.Act.{Act}
pub use Rattle.core_state.specs.Acts.{kind_of, field_of}
use Rattle.prcu_marks.specs.declared.mark.Side.TheVariants.{Left, Right}
use Rattle.prcu_model.specs.declared.operation.Op.{Op}
use Rattle.prcu_model.specs.declared.operation.Op.TheVariants.{Put, Get, Del, Set}
use Rattle.prcu_model.specs.declared.operation.Told.{Told}
use Rattle.prcu_model.specs.Dictionary.{key_of}
use Rattle.core_state.specs.declared.words.Field.{Field}
use Rattle.core_state.specs.declared.act.Part.{Part}
use Rattle.core_state.specs.Acts.{in_slot}
use Rattle.core_points.specs.declared.stage.Waits.{Waits}
use Rattle.core_points.specs.declared.stage.Waits.TheVariants.{Reuse, Move}
use Rattle.core_points.specs.declared.stage.Stage.{Stage}
use Rattle.core_points.specs.declared.stage.Node.{Node}
use Rattle.core_points.specs.declared.stage.Successor.{Successor}
use Rattle.core_points.specs.declared.stage.Target.{Target}
use Rattle.core_points.specs.declared.stage.Found.{Found}
use Rattle.core_points.specs.declared.stage.Moving.{Moving}
use Rattle.prcu_marks.specs.declared.mark.Side.{Side}
use Rattle.prcu_model.specs.declared.operation.Reply.{Reply}
use Rattle.prcu_model.specs.declared.operation.Reply.TheVariants.{New, Old, Full, Val, Absent, Gone, Was}
use Rattle.core_state.specs.Memory.{idle, step_side}
use Rattle.core_points.specs.declared.stage.Aim.{Aim}
use Rattle.core_points.specs.declared.stage.Aim.TheVariants.{Leaf, Spare, Room}
use Rattle.core_points.specs.declared.stage.Then.{Then}
use Rattle.core_points.specs.declared.stage.Last.{Last}
use Rattle.core_points.specs.declared.stage.Update.{Update}
use Rattle.core_state.specs.Acts as acts
use Rattle.core_state.specs.declared.act.Part.TheVariants as part
use Rattle.core_points.specs.declared.stage.Then.TheVariants as then
use Rattle.core_points.specs.declared.stage.Last.TheVariants as last
use Rattle.core_points.specs.declared.stage.Update.TheVariants as update
use Rattle.core_points.specs.declared.stage.Stage.TheVariants as at

-- The acts as callers of the first waiter make them.
-- Source: docs/TREE_CALLS.md, "The calls".

abbrev pub left_of : ℕ → Act → ℕ → ℕ
left_of place a n = left_by (acts.access_of place a) n

abbrev pub view_after : View → List Mark → ℕ → Act → View
view_after v h n a = acts.after v a h n

abbrev pub marks_of : View → ℕ → Act → List Mark
marks_of v n a = acts.marks_of v a n

abbrev pub Needs : Shape → View → ℕ → Act → Type 0
Needs k v n a = acts.Needs k v a

-- the act is none of the waiter's
abbrev pub is_step : Act → Bool
is_step LoadClock = false
is_step (AnnounceKey key) = false
is_step (EnterByStamp key stamp) = false
is_step LeaveByStamp = false
is_step (BeginWait low high) = false
is_step (LookKey p last) = false
is_step (LookStamp p last) = false
is_step _ = true

-- What a caller keeps from call to call.
-- Source: docs/TREE_CALLS.md, "The calls".

-- What a caller keeps: its place in a table of so many places and slots, and of so much room at a place, its operation and those after it, where it is in it, what it
-- told, the slots of its place, its locks (the latest first), what its place last found or left in the free count and in the front, and how
-- many of its tickets are none of its operations'.
pub record Own : Type 0 where
  pub place : ℕ
  pub places : ℕ
  pub slots : ℕ
  pub room : ℕ
  pub op : Op
  pub rest : List Op
  pub stage : Stage
  pub told : List Told
  pub hand : Option ℕ
  pub hand_life : ℕ
  pub spare : Option ℕ
  pub retired : List ℕ
  pub locks : List ℕ
  pub scan : ℕ
  pub free : ℕ
  pub front : ℕ
  pub kept : ℕ

abbrev pub key_now : Own → ℕ
key_now o = key_of o.op

abbrev pub value_in : Op → ℕ
value_in (Put key value) = value
value_in (Get key) = 0
value_in (Del key) = 0
value_in (Set key value) = value

abbrev pub or_root : Option ℕ → ℕ
or_root None = 0
or_root (Some s) = s

abbrev pub first_or_root : List ℕ → ℕ
first_or_root [] = 0
first_or_root (s ∷ ss) = s

abbrev pub but_first : List ℕ → List ℕ
but_first [] = []
but_first (s ∷ ss) = ss

abbrev pub is_some : Option ℕ → Bool
is_some None = false
is_some (Some s) = true

abbrev pub is_none_left : List ℕ → Bool
is_none_left [] = true
is_none_left (s ∷ ss) = false

-- the node with the four fields of a new node, in the order in which they are stored
abbrev pub content_part : ℕ → Part
content_part i = if i == 0 then part.Key else if i == 1 then part.Value else if i == 2 then part.Link Left else part.Link Right

abbrev pub content : ℕ → ℕ → Field
content slot i = in_slot slot (content_part i)

abbrev pub contents : ℕ → ℕ → ℕ → ℕ → ℕ → ℕ
contents key value left right i = if i == 0 then key else if i == 1 then value else if i == 2 then left else right

-- the keys for whose readers it waits
abbrev pub low_key : Own → Waits → ℕ
low_key o (Reuse aim) = 0
low_key o (Move m) = key_now o + 1

abbrev pub high_key : Waits → ℕ
high_key (Reuse aim) = 18446744073709551615
high_key (Move m) = m.next_key

-- where a caller goes on
abbrev pub go : Own → Stage → Own
go o stage = record o { stage = stage }

-- The locks of a delete and the words that it loads under them, by number; and what it judges by them.
-- Source: docs/TREE_CALLS.md, "The calls".

-- the slots that a delete locks, in their order, and how many they are
abbrev pub successor_lock : Node → Option Successor → ℕ → ℕ
successor_lock d None i = d.parent
successor_lock d (Some u) i = if u.parent == d.node then u.slot else if i == 2 then u.parent else u.slot

abbrev pub target_lock : Target → ℕ → ℕ
target_lock t i = if i == 0 then t.node.parent else if i == 1 then t.node.node else successor_lock t.node t.successor i

abbrev pub target_locks : Target → ℕ
target_locks t = elim t.successor as (λ _. ℕ) [ None ↦ 2 | Some u ↦ if u.parent == t.node.node then 3 else 4 ]

-- the words that it loads under them, by number: the word between the node's right and the link to the successor is left out where
-- the node is the successor's parent
abbrev pub successor_slot : Node → Option Successor → ℕ → ℕ
successor_slot d None i = d.node
successor_slot d (Some u) i = if i == 5 then u.parent else if i == 6 then u.parent else u.slot

abbrev pub successor_part : Node → Option Successor → ℕ → Part
successor_part d None i = part.Life
successor_part d (Some u) i = if i == 5 then part.Life else if i == 6 then
    (if u.parent == d.node then part.Link Right else part.Link Left) else if i == 7 then part.Life else part.Link Left

abbrev pub target_slot : Target → ℕ → ℕ
target_slot t i = if nat_lt i 2 then t.node.parent else if nat_lt i 5 then t.node.node else successor_slot t.node t.successor i

abbrev pub target_part : Target → ℕ → Part
target_part t i = if i == 0 then part.Life else if i == 1 then part.Link t.node.side
    else if i == 2 then part.Life else if i == 3 then part.Link Left else if i == 4 then part.Link Right
    else successor_part t.node t.successor i

abbrev pub target_word : Target → ℕ → Field
target_word t i = in_slot (target_slot t i) (target_part t i)

abbrev pub with_found : Found → ℕ → ℕ → Found
with_found f i n = record {
  parent_life = if i == 0 then n else f.parent_life;
  link = if i == 1 then n else f.link;
  life = if i == 2 then n else f.life;
  left = if i == 3 then n else f.left;
  right = if i == 4 then n else f.right;
  successor_parent_life = if i == 5 then n else f.successor_parent_life;
  successor_link = if i == 6 then n else f.successor_link;
  successor_life = if i == 7 then n else f.successor_life;
  successor_left = if i == 8 then n else f.successor_left;
}

abbrev pub nothing_found : Found
nothing_found = record {
  parent_life = 0;
  link = 0;
  life = 0;
  left = 0;
  right = 0;
  successor_parent_life = 0;
  successor_link = 0;
  successor_life = 0;
  successor_left = 0;
}

abbrev pub successor_holds : Node → Option Successor → Found → Bool
successor_holds d None f = (f.left == 0) || (f.right == 0)
successor_holds d (Some u) f = not ((f.left == 0) || (f.right == 0))
    && (((u.parent == d.node) || (f.successor_parent_life == 2 * u.parent_generation))
    && ((f.successor_link == u.slot) && ((f.successor_life == 2 * u.generation) && (f.successor_left == 0))))

abbrev pub target_holds : Target → Found → Bool
target_holds t f = (f.parent_life == 2 * t.node.parent_generation)
    && ((f.link == t.node.node) && ((f.life == 2 * t.node.generation) && successor_holds t.node t.successor f))

-- the node's right as it was loaded last: where the node is the successor's parent, that was the link to the successor
abbrev pub last_right : Node → Option Successor → Found → ℕ
last_right d None f = f.right
last_right d (Some u) f = if u.parent == d.node then f.successor_link else f.right

-- the locks of a move in the order in which they are given up
abbrev pub move_locks : Moving → List ℕ
move_locks m = m.successor.slot ∷ (if m.successor.parent == m.node.node then m.copy
    ∷ (m.node.node ∷ (m.node.parent ∷ [])) else m.successor.parent ∷ (m.copy ∷ (m.node.node ∷ (m.node.parent ∷ []))))

-- The calls, step by step: at each point of a caller's program the step that it makes, and where it goes on.
-- Source: docs/TREE_CALLS.md, "The calls".

-- the step of a store while the front is odd
abbrev pub store_act : Own → Update → Act
store_act o (update.Leaf spot) = LinkLeaf spot.slot spot.side (or_root o.hand) (key_now o) (value_in o.op)
store_act o (update.Value slot old) = ReplaceValue slot (key_now o) (value_in o.op)
store_act o (update.Bypass d child) = Bypass d.parent d.side d.node child (key_now o)
store_act o (update.Copy d u next_key copy) = LinkCopy d.parent d.side d.node copy u.slot u.parent (key_now o) next_key

-- the step that a caller makes at a point
abbrev pub act_at : Own → Stage → Act
act_at o at.Finished = LoadClock
act_at o at.EnterClock = LoadClock
act_at o (at.EnterKey clock) = AnnounceKey (key_now o)
act_at o (at.EnterStamp clock) = EnterByStamp (key_now o) clock
act_at o (at.AtLink s b) = SearchLoad s (part.Link b)
act_at o (at.AtKey s parent b) = SearchLoad s part.Key
act_at o (at.Leave next) = LeaveByStamp
act_at o (at.Value s) = SearchLoad s part.Value
act_at o (at.SpotTag s b) = SearchLoad s (part.Tag b)
act_at o (at.SpotLife s b tag) = SearchLoad s part.Life
act_at o (at.LeafField spot i) = Fill (or_root o.hand) (content_part i) (contents (key_now o) (value_in o.op) 0 0 i)
act_at o (at.LeafLock spot) = Lock spot.slot
act_at o (at.LeafLife spot) = LockedLoad spot.slot part.Life
act_at o (at.LeafSide spot life) = LockedLoad spot.slot (part.Link spot.side)
act_at o (at.LeafTag spot life link) = LockedLoad spot.slot (part.Tag spot.side)
act_at o (at.Reserve aim expected) = Reserve expected
act_at o (at.Seize aim) = Seize o.scan
act_at o (at.Age aim s) = LoadOwnLife s
act_at o (at.Keep s) = KeepAsSpare s
act_at o at.Raise = RaiseInHand (or_root o.hand) (2 * (o.hand_life / 2 + 1))
act_at o at.Free = FreeInHand (or_root o.hand)
act_at o at.Count = CountFree
act_at o (at.Begin waits) = BeginWait (low_key o waits) (high_key waits)
act_at o (at.LookKey waits clock p) = LookKey p (p + 1 == o.places)
act_at o (at.LookStamp waits clock p key) = LookStamp p (p + 1 == o.places)
act_at o (at.OldAge aim) = LoadRetiredLife (first_or_root o.retired)
act_at o (at.OldRaise aim life) = if is_some o.spare then RaiseRetired (first_or_root o.retired) (2 * (life / 2 + 1)) else RaiseToSpare
    (first_or_root o.retired) (2 * (life / 2 + 1))
act_at o (at.OldFree aim) = FreeRetired (first_or_root o.retired)
act_at o (at.OldCount aim) = CountFree
act_at o (at.Commit update expected) = OpenCommit expected
act_at o (at.Store update front) = store_act o update
act_at o (at.Even update front) = CloseCommit (front + 2)
act_at o (at.Unlock last) = Unlock (first_or_root o.locks)
act_at o (at.SetLife s) = SearchLoad s part.Life
act_at o (at.SetLock s generation) = Lock s
act_at o (at.SetCheck s generation) = LockedLoad s part.Life
act_at o (at.SetValue s) = LockedLoad s part.Value
act_at o (at.ParentLife p b d) = SearchLoad p part.Life
act_at o (at.NodeLife d) = SearchLoad d.node part.Life
act_at o (at.NodeLeft d) = SearchLoad d.node (part.Link Left)
act_at o (at.NodeRight d) = SearchLoad d.node (part.Link Right)
act_at o (at.SuccessorLeft d u) = SearchLoad u.slot (part.Link Left)
act_at o (at.SuccessorParentLife d u) = SearchLoad u.parent part.Life
act_at o (at.SuccessorLife d u) = SearchLoad u.slot part.Life
act_at o (at.TargetLock t i) = Lock (target_lock t i)
act_at o (at.TargetLoad t i found) = LockedLoad (target_slot t i) (target_part t i)
act_at o (at.Mark d child) = MarkNode d.node (2 * d.generation)
act_at o (at.EmptyTag number s b) = LockedLoad s (part.Tag b)
act_at o (at.EmptyRaise number s b tag) = RaiseTag s b tag
act_at o (at.SuccessorKey d u) = LockedLoad u.slot part.Key
act_at o (at.SuccessorValue d u next_key) = LockedLoad u.slot part.Value
act_at o (at.CopyField d u next_key value i) = Fill (or_root o.spare) (content_part i) (contents next_key value d.left d.right i)
act_at o (at.CopyAge d u next_key) = LoadOwnLife (or_root o.spare)
act_at o (at.CopyLock d u next_key) = Lock (or_root o.spare)
act_at o (at.CopyMark d u next_key) = MarkNode d.node (2 * d.generation)
act_at o (at.OldMark m) = MarkNode m.successor.slot (2 * m.successor.generation)
act_at o (at.OldRight m) = LockedLoad m.successor.slot (part.Link Right)
act_at o (at.Unlink m child) =
    if m.successor.parent == m.node.node then UnlinkRight m.copy m.successor.slot child else UnlinkLeft m.successor.parent m.successor.slot
    child

abbrev pub taking : Own → Aim → Stage
taking o aim = at.Reserve aim (if o.free == 0 then 1 else o.free)

abbrev pub committing : Own → Update → Stage
committing o u = at.Commit u (o.front + o.front % 2)

-- the first point of an operation
abbrev pub spare_first : Own → Stage
spare_first o = if is_some o.spare then at.EnterClock else taking o Spare

abbrev pub first_point : Own → Op → Stage
first_point o (Del key) = if nat_le o.room (length o.retired + 1) then at.Begin (Reuse Room) else spare_first o
first_point o _ = at.EnterClock

abbrev pub begun_with : Own → List Op → Own
begun_with o [] = record o { rest = []; stage = at.Finished }
begun_with o (op ∷ ops) = record o { op = op; rest = ops; stage = first_point o op }

abbrev pub answer : Own → Reply → ℕ → Own
answer o reply number = begun_with (record o { told = o.told ++ record { reply = reply; number = number } ∷ [] }) o.rest

-- after a search
abbrev pub ended : Op → ℕ → Side → Stage
ended (Put key value) s b = at.SpotTag s b
ended _ s b = at.Leave then.Absent

abbrev pub found : Op → ℕ → ℕ → Side → Stage
found (Get key) s parent b = at.Value s
found (Put key value) s parent b = at.Leave then.Old
found (Del key) s parent b = at.ParentLife parent b s
found (Set key value) s parent b = at.SetLife s

abbrev pub key_read : Own → ℕ → ℕ → Side → Option Side → Stage
key_read o s parent b None = found o.op s parent b
key_read o s parent b (Some c) = at.AtLink s c

-- after a section was left
abbrev pub left_section : Own → Then → Own
left_section o then.Absent = answer o Absent 0
left_section o (then.Value value) = answer o (Val value) 0
left_section o then.Old = if is_some o.hand then go o at.Raise else answer o Old 0
left_section o (then.Link spot) = go o (if is_some o.hand then at.LeafLock spot else taking o (Leaf spot))
left_section o (then.Replace s generation) = go o (at.SetLock s generation)
left_section o (then.Delete target) = go o (at.TargetLock target 0)

-- taking a slot
abbrev pub none_free : Own → Aim → Own
none_free o (Leaf spot) = if is_none_left o.retired then answer o Full 0 else go o (at.Begin (Reuse (Leaf spot)))
none_free o aim = go o (at.Begin (Reuse aim))

abbrev pub past_reserve : Own → Aim → ℕ → ℕ → Own
past_reserve o aim expected n =
    if n == expected then go (record o { free = n - 1 }) (at.Seize aim)
    else if n == 0 then none_free (record o { free = 0 }) aim
    else go (record o { free = n }) (at.Reserve aim n)

abbrev pub past_seize : Own → Aim → ℕ → Own
past_seize o aim n =
    let moved = record o { scan = if o.scan == o.slots + o.places then 1 else o.scan + 1 } in
    if n == 0 then go (record moved { hand = Some o.scan }) (at.Age aim o.scan) else go moved (at.Seize aim)

abbrev pub past_age : Aim → ℕ → Stage
past_age (Leaf spot) s = at.LeafField spot 0
past_age aim s = at.Keep s

-- giving back the retired slots
abbrev pub given_back : Own → Aim → Stage
given_back o (Leaf spot) = taking o (Leaf spot)
given_back o Spare = at.EnterClock
given_back o Room = spare_first o

abbrev pub giving : Own → Aim → Own
giving o aim = go o (if is_none_left o.retired then given_back o aim else at.OldAge aim)

abbrev pub past_raise : Own → Aim → Own
past_raise o aim = if is_some o.spare then go o (at.OldFree aim) else giving
    (record o { spare = Some (first_or_root o.retired); retired = but_first o.retired }) aim

-- a wait
abbrev pub wait_over : Own → Waits → Own
wait_over o (Reuse aim) = giving o aim
wait_over o (Move m) = go o (at.OldMark m)

abbrev pub excused : Own → Waits → ℕ → ℕ → Own
excused o waits clock p = if p + 1 == o.places then wait_over o waits else go o (at.LookKey waits clock (p + 1))

abbrev pub is_reader : Own → Waits → ℕ → Bool
is_reader o waits key = nat_le (low_key o waits) key && nat_le key (high_key waits)

-- an update
abbrev pub past_store : Own → Update → Own
past_store o (update.Leaf spot) = record o { hand = None }
past_store o (update.Value s old) = o
past_store o (update.Bypass d child) = record o { retired = o.retired ++ d.node ∷ [] }
past_store o (update.Copy d u next_key copy) = record o { spare = None; retired = o.retired ++ d.node ∷ [] }

abbrev pub past_even : Update → ℕ → Stage
past_even (update.Leaf spot) number = at.Unlock (last.New number)
past_even (update.Value s old) number = at.Unlock (last.Was old number)
past_even (update.Bypass d child) number = if child == 0 then at.EmptyTag number d.parent d.side else at.Unlock (last.Gone number)
past_even (update.Copy d u next_key copy) number =
    at.Begin (Move (record { node = d; successor = u; copy = copy; next_key = next_key; number = number }))

abbrev pub unlocked : Own → Last → Own
unlocked o last.Again = go o at.EnterClock
unlocked o (last.New number) = answer o New number
unlocked o (last.Gone number) = answer o Gone number
unlocked o (last.Was value number) = answer o (Was value) number

abbrev pub past_unlock : Own → Last → Own
past_unlock o last = let less = record o { locks = but_first o.locks } in
    if is_none_left less.locks then unlocked less last else go less (at.Unlock last)

-- a lock that was found free, or not
abbrev pub past_lock : Own → ℕ → ℕ → Stage → Own
past_lock o s n next = if n == 0 then go (record o { locks = s ∷ o.locks }) next else go o
    (if is_none_left o.locks then at.EnterClock else at.Unlock last.Again)

-- a delete
abbrev pub past_right : Node → Stage
past_right d = if (d.left == 0) || (d.right == 0) then at.Leave (then.Delete (record { node = d; successor = None }))
    else at.SuccessorLeft d (record { parent = d.node; slot = d.right; parent_generation = 0; generation = 0 })

abbrev pub past_left : Node → Successor → ℕ → Stage
past_left d u n = if n == 0 then (if u.parent == d.node then at.SuccessorLife d u else at.SuccessorParentLife d u)
    else at.SuccessorLeft d (record u { parent = u.slot; slot = n })

abbrev pub deleting : Node → Option Successor → Stage
deleting d None = at.Mark d (if d.left == 0 then d.right else d.left)
deleting d (Some u) = at.SuccessorKey d u

abbrev pub verdict : Target → Found → Stage
verdict t f = if target_holds t f then deleting
    (record t.node { left = f.left; right = last_right t.node t.successor f }) t.successor else at.Unlock last.Again

abbrev pub past_target_load : Target → ℕ → Found → Stage
past_target_load t i f = elim t.successor as (λ _. Stage) [
  | None ↦ if i == 4 then verdict t f else at.TargetLoad t (i + 1) f
  | Some u ↦ if i == 8 then verdict t f else if (i == 4)
      && (u.parent == t.node.node) then at.TargetLoad t 6 f else at.TargetLoad t (i + 1) f
]

abbrev pub past_unlink : Own → Moving → ℕ → Own
past_unlink o m child = go (record o { retired = o.retired ++ m.successor.slot ∷ []; locks = move_locks m })
    (if child == 0 then
    (if m.successor.parent == m.node.node then at.EmptyTag m.number m.copy Right else at.EmptyTag m.number m.successor.parent
    Left) else at.Unlock (last.Gone m.number))

-- the caller after the step of a point that found this number
abbrev pub after : Own → ℕ → Stage → Own
after o n at.Finished = o
after o n at.EnterClock = go o (at.EnterKey n)
after o n (at.EnterKey clock) = go o (at.EnterStamp clock)
after o n (at.EnterStamp clock) = go o (at.AtLink 0 Right)
after o n (at.AtLink s b) = go o (if n == 0 then ended o.op s b else at.AtKey n s b)
after o n (at.AtKey s parent b) = go o (key_read o s parent b (step_side (key_now o) n))
after o n (at.Leave next) = left_section o next
after o n (at.Value s) = go o (at.Leave (then.Value n))
after o n (at.SpotTag s b) = go o (at.SpotLife s b n)
after o n (at.SpotLife s b tag) = go o (at.Leave (then.Link (record { slot = s; side = b; generation = n / 2; tag = tag })))
after o n (at.LeafField spot i) = go o (if i == 3 then at.LeafLock spot else at.LeafField spot (i + 1))
after o n (at.LeafLock spot) = past_lock o spot.slot n (at.LeafLife spot)
after o n (at.LeafLife spot) = go o (at.LeafSide spot n)
after o n (at.LeafSide spot life) = go o (at.LeafTag spot life n)
after o n (at.LeafTag spot life link) = go o (if (life == 2 * spot.generation)
    && ((link == 0) && (n == spot.tag)) then committing o (update.Leaf spot) else at.Unlock last.Again)
after o n (at.Reserve aim expected) = past_reserve o aim expected n
after o n (at.Seize aim) = past_seize o aim n
after o n (at.Age aim s) = go (record o { hand_life = n }) (past_age aim s)
after o n (at.Keep s) = go (record o { hand = None; spare = Some s }) at.EnterClock
after o n at.Raise = go o at.Free
after o n at.Free = go (record o { hand = None }) at.Count
after o n at.Count = answer (record o { free = n + 1 }) Old 0
after o n (at.Begin waits) = go o (at.LookKey waits n 0)
after o n (at.LookKey waits clock p) = if is_reader o waits n then go o (at.LookStamp waits clock p n) else excused o waits clock p
after o n (at.LookStamp waits clock p key) = if (n == idle) || nat_lt clock n then excused o waits clock p else go o
    (at.LookKey waits clock p)
after o n (at.OldAge aim) = go o (at.OldRaise aim n)
after o n (at.OldRaise aim life) = past_raise o aim
after o n (at.OldFree aim) = go (record o { retired = but_first o.retired }) (at.OldCount aim)
after o n (at.OldCount aim) = giving (record o { free = n + 1 }) aim
after o n (at.Commit update expected) = if n == expected then go (record o { front = expected + 1 }) (at.Store update expected) else go
    (record o { front = n }) (at.Commit update (n + n % 2))
after o n (at.Store update front) = go (past_store o update) (at.Even update front)
after o n (at.Even update front) = go (record o { front = front + 2 }) (past_even update ((front + 2) / 2))
after o n (at.Unlock last) = past_unlock o last
after o n (at.SetLife s) = go o (at.Leave (then.Replace s (n / 2)))
after o n (at.SetLock s generation) = past_lock o s n (at.SetCheck s generation)
after o n (at.SetCheck s generation) = go o (if n == 2 * generation then at.SetValue s else at.Unlock last.Again)
after o n (at.SetValue s) = go o (committing o (update.Value s n))
after o n (at.ParentLife p b d) = go o (at.NodeLife
    (record { parent = p; side = b; node = d; parent_generation = n / 2; generation = 0; left = 0; right = 0 }))
after o n (at.NodeLife d) = go o (at.NodeLeft (record d { generation = n / 2 }))
after o n (at.NodeLeft d) = go o (at.NodeRight (record d { left = n }))
after o n (at.NodeRight d) = go o (past_right (record d { right = n }))
after o n (at.SuccessorLeft d u) = go o (past_left d u n)
after o n (at.SuccessorParentLife d u) = go o (at.SuccessorLife d (record u { parent_generation = n / 2 }))
after o n (at.SuccessorLife d u) = go o (at.Leave (then.Delete (record { node = d; successor = Some (record u { generation = n / 2 }) })))
after o n (at.TargetLock t i) = past_lock o (target_lock t i) n
    (if i + 1 == target_locks t then at.TargetLoad t 0 nothing_found else at.TargetLock t (i + 1))
after o n (at.TargetLoad t i found) = go o (past_target_load t i (with_found found i n))
after o n (at.Mark d child) = go o (committing o (update.Bypass d child))
after o n (at.EmptyTag number s b) = go o (at.EmptyRaise number s b n)
after o n (at.EmptyRaise number s b tag) = go o (at.Unlock (last.Gone number))
after o n (at.SuccessorKey d u) = go o (at.SuccessorValue d u n)
after o n (at.SuccessorValue d u next_key) = go o (at.CopyField d u next_key n 0)
after o n (at.CopyField d u next_key value i) = go o (if i == 3 then at.CopyAge d u next_key else at.CopyField d u next_key value (i + 1))
after o n (at.CopyAge d u next_key) = go o (at.CopyLock d u next_key)
after o n (at.CopyLock d u next_key) = past_lock o (or_root o.spare) n (at.CopyMark d u next_key)
after o n (at.CopyMark d u next_key) = go o (committing o (update.Copy d u next_key (or_root o.spare)))
after o n (at.OldMark m) = go o (at.OldRight m)
after o n (at.OldRight m) = go o (at.Unlink m n)
after o n (at.Unlink m child) = past_unlink o m child

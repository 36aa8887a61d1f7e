-- What a delete knows: in its section, under its locks, and while its move is pending.
-- Source: docs/TREE_CALLS.md, "The calls".
use Rattle.std.specs.Prelude.{◌≡◌, ◌≢◌, ℕ, zero, suc, ◌+◌, ◌*◌, ◌<◌, ◌≤◌, ◌==◌, ◌⊎◌, if◌then◌else◌, Bool, true, false, List, [], ◌∷◌, length, Option, Some, None}
use Rattle.prcu_model.specs.declared.operation.Op.{Op}
use Rattle.prcu_model.specs.Dictionary.{key_of}
use Rattle.prcu_marks.specs.declared.mark.Side.{Side}
use Rattle.prcu_marks.specs.declared.mark.Side.TheVariants.{Left, Right}
use Rattle.core_state.specs.declared.words.Field.TheVariants.{Stamp, Life, Key, Value, Link}
use Rattle.prcu_marks.specs.declared.commit.Commit.{Commit}
use Rattle.core_state.specs.declared.view.Held.{Held}
use Rattle.core_state.specs.declared.view.HeldLock.{HeldLock}
use Rattle.core_state.specs.declared.view.Known.{Known}
use Rattle.core_state.specs.declared.view.Move as moves
use Rattle.core_state.specs.declared.view.Reading.{Reading}
use Rattle.core_state.specs.declared.view.Section.{Section}
use Rattle.core_state.specs.declared.view.SearchState.TheVariants.{Found as FoundAt}
use Rattle.core_state.specs.declared.view.View.{View}
use Rattle.core_state.specs.declared.view.Waiting.{Waiting}
use Rattle.list_laws.specs.Counts.{IsIn}
use Rattle.core_state.specs.Views.{known_in, loaded_in, lock_of, known_of, is_emptied, with_emptied, change_lock, LoadedGeneration}
use Rattle.core_state.specs.Links.{LacksChild, HadLinks, HadChild, with_mark}
use Rattle.core_points.specs.declared.stage.Node.{Node}
use Rattle.core_points.specs.declared.stage.Successor.{Successor}
use Rattle.core_points.specs.declared.stage.Target.{Target}
use Rattle.core_points.specs.declared.stage.Found.{Found}
use Rattle.core_points.specs.declared.stage.Moving.{Moving}
use Rattle.core_points.specs.Programs.{Own, key_now, or_root, content, contents, target_slot, target_word, target_lock, target_locks}
use Rattle.core_points.specs.Facts.{is_delete, table_of, read_at, AreClear, Calm, Inside, Settled, Ready, HasLocks}

-- In the section.

-- the slots of a delete with two children are apart
pub record ApartSlots (parent node walk_parent slot : ℕ) : Type 0 where
  pub from_parent : slot ≢ parent
  pub from_node : slot ≢ node
  pub walk : walk_parent ≢ node → (walk_parent ≢ parent) × (walk_parent ≢ slot)

abbrev pub AreApart : Node → Successor → Type 0
AreApart d u = ApartSlots d.parent d.node u.parent u.slot

-- the generations of the node and of its parent were loaded
pub record LivesRead (r : Reading) (parent node parent_generation generation : ℕ) : Type 0 where
  pub parent_life : parent ≢ node → LoadedGeneration r parent parent_generation
  pub node_life : LoadedGeneration r node generation

abbrev pub ReadsLives : Reading → Node → Type 0
ReadsLives r d = LivesRead r d.parent d.node d.parent_generation d.generation

-- both links of the node were loaded, neither empty, and a walk from its right stands at a slot below this parent
pub record WalkedTo (r : Reading) (node left right parent slot : ℕ) : Type 0 where
  pub left_some : left ≢ 0
  pub right_some : right ≢ 0
  pub slot_some : slot ≢ 0
  pub left_loaded : IsIn r.loads (read_at (Link node Left) left)
  pub right_loaded : IsIn r.loads (read_at (Link node Right) right)
  pub walk : r.walk ≡ Some (record { parent = parent; slot = slot })
  pub slot_stood : IsIn r.stood slot
  pub parent_stood : IsIn r.stood parent

abbrev pub WalksTo : Reading → Node → Successor → Type 0
WalksTo r d u = WalkedTo r d.node d.left d.right u.parent u.slot

abbrev pub ReadsParent : Reading → Node → Successor → Type 0
ReadsParent r d u = u.parent ≢ d.node → LoadedGeneration r u.parent u.parent_generation

-- what the section of a delete found out of the node's children: one is missing; or the successor, as far as the slots are apart
abbrev pub ReadsChildren : Reading → Node → Option Successor → Type 0
ReadsChildren r d None = ReadsLives r d × LacksChild d.left d.right × HadLinks r d.node d.left d.right
ReadsChildren r d (Some u) = WalksTo r d u × (AreApart d u → ReadsLives r d × ReadsParent r d u × LoadedGeneration r u.slot u.generation)

-- a section that was left found the node, and stood only at slots of the table
abbrev pub IsWithin : ℕ → Reading → Type 0
IsWithin n r = (s : ℕ) → IsIn r.stood s → s < n

pub record HasTarget (n : ℕ) (records : List Reading) (key : ℕ) (t : Target) : Type 0 where
  pub reading : Reading
  pub kept : IsIn records reading
  pub key_is : reading.key ≡ key
  pub found : (value : Option ℕ) × (reading.state ≡ FoundAt t.node.node t.node.parent t.node.side value)
  pub within : IsWithin n reading
  pub parent_stood : IsIn reading.stood t.node.parent
  pub node_stood : IsIn reading.stood t.node.node
  pub children : ReadsChildren reading t.node t.successor

abbrev pub Deleting : Own → Type 0
Deleting o = (is_delete o.op ≡ true) × Ready o

-- in the section, with the node found
abbrev pub OnNode : Own → View → ℕ → ℕ → Side → (Reading → Type 0) → Type 0
OnNode o v node parent b more = Calm o v × (is_delete o.op ≡ true)
    × Inside v (key_now o) (FoundAt node parent b None) (λ section. IsIn section.reading.stood parent × more section.reading)

-- Under its locks.

-- what is known under the lock of a slot
abbrev pub under : List HeldLock → ℕ → List Known
under locks s = known_of (lock_of locks s)

-- the first so many locks of a target, the latest first
abbrev pub first_locks : Target → ℕ → List ℕ
first_locks t zero = []
first_locks t (suc i) = target_lock t i ∷ first_locks t i

-- so many locks of the target were got, and they are apart
abbrev pub AreGot : Target → ℕ → List HeldLock → Type 0
AreGot t i locks = (j : ℕ) → j < i → ((lock : HeldLock) × (lock_of locks (target_lock t j) ≡ Some lock))
    × ((l : ℕ) → l < j → target_lock t l ≢ target_lock t j)

-- all locks of a node and its successor are held, at most four, and these slots are apart
abbrev pub Holds : List HeldLock → ℕ → Type 0
Holds locks s = (lock : HeldLock) × (lock_of locks s ≡ Some lock)

abbrev pub HoldsSuccessorLocks : List HeldLock → Node → Option Successor → Type 0
HoldsSuccessorLocks locks d None = Unit {0}
HoldsSuccessorLocks locks d (Some u) = AreApart d u × Holds locks u.slot × Holds locks u.parent

pub record HoldsAll (locks : List HeldLock) (t : Target) : Type 0 where
  pub few : length locks ≤ 4
  pub parent : Holds locks t.node.parent
  pub node : Holds locks t.node.node
  pub apart : t.node.parent ≢ t.node.node
  pub successor : HoldsSuccessorLocks locks t.node t.successor

abbrev pub found_number : Found → ℕ → ℕ
found_number f i =
    if i == 0 then f.parent_life else if i == 1 then f.link else if i == 2 then f.life else if i == 3 then f.left
    else if i == 4 then f.right
    else if i == 5 then f.successor_parent_life else if i == 6 then f.successor_link else if i == 7 then f.successor_life
    else f.successor_left

-- Where the node is the successor's parent, the life of that parent is left out, and the node's right is loaded again, as the link to the
-- successor.
pub record IsSkipped (t : Target) (i j : ℕ) : Type 0 where
  pub successor : Successor
  pub has : t.successor ≡ Some successor
  pub below_node : successor.parent ≡ t.node.node
  pub which : (j ≡ 5) ⊎ ((j ≡ 4) × (6 < i))

-- the words of the target below this number were loaded last with these numbers
abbrev pub HasLoaded : List HeldLock → Target → ℕ → Found → Type 0
HasLoaded locks t i f = (j : ℕ) → j < i → IsSkipped t i j
    ⊎ (loaded_in (under locks (target_slot t j)) (target_word t j) ≡ Some (found_number f j))

-- where the node is the successor's parent, the life of that parent isn't loaded
abbrev pub IsLoadedNow : Target → ℕ → Type 0
IsLoadedNow t i = (u : Successor) → t.successor ≡ Some u → u.parent ≡ t.node.node → i ≢ 5

-- how many words are loaded
abbrev pub target_words : Option Successor → ℕ
target_words None = 5
target_words (Some u) = 9

-- what was loaded under the locks of the node and its parent is as the section found it
pub record HoldsNode (records : List Reading) (locks : List HeldLock) (r : Reading) (d : Node) : Type 0 where
  pub kept : IsIn records r
  pub found : (value : Option ℕ) × (r.state ≡ FoundAt d.node d.parent d.side value)
  pub apart : d.parent ≢ d.node
  pub parent_recorded : LoadedGeneration r d.parent d.parent_generation
  pub recorded : LoadedGeneration r d.node d.generation
  pub parent_life : loaded_in (under locks d.parent) (Life d.parent) ≡ Some (2 * d.parent_generation)
  pub link : loaded_in (under locks d.parent) (Link d.parent d.side) ≡ Some d.node
  pub left : loaded_in (under locks d.node) (Link d.node Left) ≡ Some d.left
  pub right : loaded_in (under locks d.node) (Link d.node Right) ≡ Some d.right

-- the node lacks a child, and lacked one then
pub record HoldsFew (r : Reading) (d : Node) : Type 0 where
  pub few : LacksChild d.left d.right
  pub had : (first second : ℕ) × HadLinks r d.node first second × LacksChild first second

-- the link to the successor leads to it
abbrev pub HoldsLink : List HeldLock → Reading → Node → Successor → Type 0
HoldsLink locks r d u = ((u.parent ≡ d.node) × (d.right ≡ u.slot))
    ⊎ ((u.parent ≢ d.node) × LoadedGeneration r u.parent u.parent_generation
    × (loaded_in (under locks u.parent) (Life u.parent) ≡ Some (2 * u.parent_generation))
    × (loaded_in (under locks u.parent) (Link u.parent Left) ≡ Some u.slot))

-- the node has two children, and its successor is as the section found it, without a left
pub record HoldsSuccessor (locks : List HeldLock) (r : Reading) (d : Node) (u : Successor) : Type 0 where
  pub left_some : d.left ≢ 0
  pub right_some : d.right ≢ 0
  pub had : HadChild r d.node Left × HadChild r d.node Right
  pub walk : r.walk ≡ Some (record { parent = u.parent; slot = u.slot })
  pub apart : AreApart d u
  pub link : HoldsLink locks r d u
  pub recorded : LoadedGeneration r u.slot u.generation
  pub life : loaded_in (under locks u.slot) (Life u.slot) ≡ Some (2 * u.generation)
  pub left : loaded_in (under locks u.slot) (Link u.slot Left) ≡ Some 0

abbrev pub FewHold : List Reading → List HeldLock → ℕ → Node → Type 0
FewHold records locks key d = (r : Reading) × (r.key ≡ key) × HoldsNode records locks r d × HoldsFew r d

abbrev pub BothHold : List Reading → List HeldLock → ℕ → Node → Successor → Type 0
BothHold records locks key d u = (r : Reading) × (r.key ≡ key) × HoldsNode records locks r d × HoldsSuccessor locks r d u

-- the node has its generation, unmarked; or is marked by this view
abbrev pub IsUnmarked : List HeldLock → Node → Type 0
IsUnmarked locks d = loaded_in (under locks d.node) (Life d.node) ≡ Some (2 * d.generation)

pub record IsMarked (locks : List HeldLock) (d : Node) : Type 0 where
  pub lock : HeldLock
  pub locked : lock_of locks d.node ≡ Some lock
  pub marked : lock.marked ≡ true
  pub life : known_in lock.known (Life d.node) ≡ Some (2 * d.generation + 1)

-- but for this mark, all locks are clear
abbrev pub ClearButMark : List HeldLock → ℕ → Type 0
ClearButMark locks s = AreClear (change_lock s (with_mark false) locks)

pub record Bypassing (o : Own) (v : View) (d : Node) (child : ℕ) (commit : Option Commit) : Type 0 where
  pub quiet : Settled o v commit
  pub deleting : Deleting o
  pub has_locks : HasLocks o
  pub few : FewHold v.records v.locks (key_now o) d
  pub marked : IsMarked v.locks d
  pub clear : ClearButMark v.locks d.node
  pub child_is : child ≡ (if d.left == 0 then d.right else d.left)

-- so many of the target's locks were got, and one more is tried
pub record TargetLocking (o : Own) (v : View) (t : Target) (i : ℕ) : Type 0 where
  pub quiet : Settled o v None
  pub deleting : Deleting o
  pub target : HasTarget (table_of o) v.records (key_now o) t
  pub clear : AreClear v.locks
  pub long : length v.locks ≡ i
  pub locks_are : o.locks ≡ first_locks t i
  pub got : AreGot t i v.locks
  pub more : i < target_locks t

-- all were got, so many words were loaded, and one more is
pub record TargetLoading (o : Own) (v : View) (t : Target) (i : ℕ) (f : Found) : Type 0 where
  pub quiet : Settled o v None
  pub deleting : Deleting o
  pub target : HasTarget (table_of o) v.records (key_now o) t
  pub clear : AreClear v.locks
  pub locks_are : o.locks ≡ first_locks t (target_locks t)
  pub held : HoldsAll v.locks t
  pub loaded : HasLoaded v.locks t i f
  pub more : i < target_words t.successor
  pub now : IsLoadedNow t i

-- a node with at most one child is to be marked
pub record FewMarking (o : Own) (v : View) (d : Node) (child : ℕ) : Type 0 where
  pub quiet : Settled o v None
  pub deleting : Deleting o
  pub has_locks : HasLocks o
  pub clear : AreClear v.locks
  pub few : FewHold v.records v.locks (key_now o) d
  pub unmarked : IsUnmarked v.locks d
  pub child_is : child ≡ (if d.left == 0 then d.right else d.left)

-- The copy.

-- the copy is none of the slots of the delete
pub record IsAside (copy : ℕ) (d : Node) (u : Successor) : Type 0 where
  pub parent : copy ≢ d.parent
  pub node : copy ≢ d.node
  pub successor : copy ≢ u.slot
  pub walk_parent : copy ≢ u.parent

-- the successor's key and value, loaded under its lock
pub record KnowsSuccessor (locks : List HeldLock) (u : Successor) (next_key value : ℕ) : Type 0 where
  pub key : known_in (under locks u.slot) (Key u.slot) ≡ Some next_key
  pub value_is : known_in (under locks u.slot) (Value u.slot) ≡ Some value

-- the spare has so many of the fields of a copy
pub record HasCopy (spare : Option Held) (copy : ℕ) (d : Node) (next_key value i : ℕ) : Type 0 where
  pub held : Held
  pub spare_is : spare ≡ Some held
  pub slot_is : held.slot ≡ copy
  pub known : (j : ℕ) → j < i → known_in held.known (content copy j) ≡ Some (contents next_key value d.left d.right j)

-- the caller holds the locks of node and successor
abbrev pub two_children : Node → Successor → Target
two_children d u = record { node = d; successor = Some u }

abbrev pub all_locks : Node → Successor → List ℕ
all_locks d u = first_locks (two_children d u) (target_locks (two_children d u))

pub record Copying (o : Own) (v : View) (d : Node) (u : Successor) (commit : Option Commit) : Type 0 where
  pub quiet : Settled o v commit
  pub deleting : Deleting o
  pub both : BothHold v.records v.locks (key_now o) d u

pub record BeforeCopy (o : Own) (v : View) (d : Node) (u : Successor) : Type 0 where
  pub copying : Copying o v d u None
  pub unmarked : IsUnmarked v.locks d
  pub clear : AreClear v.locks
  pub few : length v.locks ≤ 4
  pub locks_are : o.locks ≡ all_locks d u
  pub held : Holds v.locks u.slot

-- the spare has so many of the copy's fields, and one more is stored
pub record CopyFilling (o : Own) (v : View) (d : Node) (u : Successor) (next_key value i : ℕ) : Type 0 where
  pub before : BeforeCopy o v d u
  pub aside : IsAside (or_root o.spare) d u
  pub knows : KnowsSuccessor v.locks u next_key value
  pub has_copy : HasCopy v.hands.spare (or_root o.spare) d next_key value i
  pub small : i ≤ 3

pub record FilledParts (spare : Option Held) (locks : List HeldLock) (d : Node) (u : Successor) (next_key copy : ℕ) : Type 0 where
  pub aside : IsAside copy d u
  pub value : ℕ
  pub knows : KnowsSuccessor locks u next_key value
  pub has_copy : HasCopy spare copy d next_key value 4

abbrev pub IsFilled : View → Node → Successor → ℕ → ℕ → Type 0
IsFilled v d u next_key copy = FilledParts v.hands.spare v.locks d u next_key copy

-- a node with two children is to be marked
pub record BothMarking (o : Own) (v : View) (d : Node) (u : Successor) (next_key copy : ℕ) : Type 0 where
  pub copying : Copying o v d u None
  pub filled : IsFilled v d u next_key copy
  pub unmarked : IsUnmarked v.locks d
  pub clear : AreClear v.locks
  pub locks_are : o.locks ≡ copy ∷ all_locks d u
  pub copy_held : Holds v.locks copy

pub record CopyMaking (o : Own) (v : View) (d : Node) (u : Successor) (next_key copy : ℕ) (commit : Option Commit) : Type 0 where
  pub copying : Copying o v d u commit
  pub filled : IsFilled v d u next_key copy
  pub marked : IsMarked v.locks d
  pub clear : ClearButMark v.locks d.node
  pub locks_are : o.locks ≡ copy ∷ all_locks d u
  pub copy_held : Holds v.locks copy

-- The move.
abbrev pub move_parent : Moving → ℕ
move_parent m = if m.successor.parent == m.node.node then m.copy else m.successor.parent

-- the pending move is this one, and was waited for or not
pub record IsMove (moving : Option moves.Move) (key : ℕ) (m : Moving) (waited : Bool) : Type 0 where
  pub move : moves.Move
  pub is : moving ≡ Some move
  pub key_is : move.key ≡ key
  pub next_is : move.next_key ≡ m.next_key
  pub copy_is : move.copy.slot ≡ m.copy
  pub old_is : move.old ≡ m.successor.slot
  pub parent_is : move.parent ≡ move_parent m
  pub waited_is : move.waited ≡ waited

-- the old successor's lock: its life as it was recorded, marked or not
pub record HoldsOld (locks : List HeldLock) (m : Moving) (marked : Bool) : Type 0 where
  pub lock : HeldLock
  pub locked : lock_of locks m.successor.slot ≡ Some lock
  pub marked_is : lock.marked ≡ marked
  pub life : known_in lock.known (Life m.successor.slot)
      ≡ Some (if marked then 2 * m.successor.generation + 1 else 2 * m.successor.generation)

pub record ShiftingParts (m : Moving) (waited : Bool) (commit : Option Commit) (op : Op) (o_hand : Option ℕ) (o_locks : List ℕ)
    (section : Option Section) (turn : Option Commit) (moving : Option moves.Move) (reserved owes : Bool) (hand : Option Held)
    (locks : List HeldLock) : Type 0 where
  pub outside : section ≡ None
  pub turn_is : turn ≡ commit
  pub unreserved : reserved ≡ false
  pub paid : owes ≡ false
  pub empty : hand ≡ None
  pub no_hand : o_hand ≡ None
  pub move : IsMove moving (key_of op) m waited
  pub locks_are : o_locks ≡ m.copy ∷ all_locks m.node m.successor
  pub parent_held : Holds locks (move_parent m)
  pub apart : m.copy ≢ m.successor.parent
  pub deletes : is_delete op ≡ true

abbrev pub Shifting : Own → View → Moving → Bool → Option Commit → Type 0
Shifting o v m waited commit = ShiftingParts m waited commit o.op o.hand o.locks
    v.section v.commit v.moving v.hands.reserved v.hands.owes v.hands.hand v.locks

-- the place's wait is for the readers that may pass the old successor, and has excused the places below this one
pub record OutlastsMove (wait : Waiting) (moving : Option moves.Move) (low high clock p : ℕ) : Type 0 where
  pub going : wait.ended ≡ false
  pub low_is : wait.low ≡ low
  pub high_is : wait.high ≡ high
  pub clock_is : wait.clock ≡ clock
  pub past : (q : ℕ) → q < p → IsIn wait.excused (Stamp q)
  pub later : (move : moves.Move) → moving ≡ Some move → move.made < wait.began

abbrev pub OutlastingMove : Own → View → Moving → ℕ → ℕ → Type 0
OutlastingMove o v m clock p = (p < o.places) × ((wait : Waiting) × (v.wait ≡ Some wait)
    × OutlastsMove wait v.moving (key_now o + 1) m.next_key clock p)

-- A side of a locked slot was emptied, and its tag isn't raised yet; but for this, all locks are clear.
pub record Emptied (locks : List HeldLock) (s : ℕ) (b : Side) (more : HeldLock → Type 0) : Type 0 where
  pub lock : HeldLock
  pub locked : lock_of locks s ≡ Some lock
  pub emptied : is_emptied lock b ≡ true
  pub clear : AreClear (change_lock s (with_emptied b false) locks)
  pub known : more lock

abbrev pub Anything : HeldLock → Type 0
Anything lock = Unit {0}

-- after a link was stored, which may have emptied the side
abbrev pub Relinked : Bool → List HeldLock → ℕ → Side → Type 0
Relinked true locks s b = Emptied locks s b Anything
Relinked false locks s b = AreClear locks

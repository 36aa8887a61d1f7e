-- The eleven groups of the invariant.
-- The invariant on locks: who holds them, which nodes are marked, and that what was loaded and stored under a lock is so.
-- Source: docs/TREE_INVARIANT.md, "The invariant of the tree".
use Rattle.std.specs.Prelude.{◌≡◌, ◌≢◌, ℕ, ◌+◌, ◌*◌, ◌/◌, ◌<◌, ◌≤◌, ◌⊎◌, true, false, List, [], length, map, Some, None, ◌==◌, if◌then◌else◌, Option, ◌^◌, ◌∷◌, ◌-◌, ◌&&◌, not, take, nat_lt}
use mathlib.Core.Option.{some}
use lib.ListN.{get_elem?}
use Rattle.prcu_marks.specs.declared.mark.Side.{Side}
use Rattle.core_state.specs.declared.words.Field.{Field}
use Rattle.core_state.specs.declared.words.Field.TheVariants.{Lock, Life, Key, Link, Tag, Value, State, Front, Clock, Free, Moved, Announced, Stamp, Count, Row}
use Rattle.core_state.specs.declared.view.HeldLock.{HeldLock}
use Rattle.core_state.specs.declared.view.Reading.{Reading}
use Rattle.core_state.specs.declared.view.Retired.{Retired}
use Rattle.core_state.specs.declared.view.Section.{Section}
use Rattle.core_state.specs.declared.view.View.{View}
use Rattle.list_laws.specs.Counts.{times, IsIn, Each, Somewhere, OnlyOne, total}
use Rattle.core_state.specs.Memory.{IsOdd, Memory, step_side, flag, IsEven, sum_below, count_below, has, idle}
use Rattle.core_state.specs.Views.{known_in, lock_of, is_emptied, IsOwnField, LoadedGeneration, readings_of, HasLock, IsLoadable, Works, spares_of, retired_of, slots_of, unraised_of, emptied_among, places_of, IsUnused, open_of}
use Rattle.core_state.specs.Tree.{Chart, IsShaped, HoldsMap, IsPending, OnRightLeft, Belongs, IsHeldBack, MayPass, IsOldFor, IsEmptied, Place, Walks}
use Rattle.prcu_marks.specs.declared.mark.Mark.{Mark}
use Rattle.prcu_marks.specs.declared.mark.Mark.TheVariants.{Done, Began, Ended}
use Rattle.prcu_marks.specs.declared.mark.Side.TheVariants.{Left, Right}
use Rattle.prcu_model.specs.declared.operation.Op.TheVariants.{Del}
use Rattle.prcu_model.specs.Dictionary.{map_of, WasSaid, IsLegal}
use Rattle.prcu_marks.specs.Marks.{updates_of, gone_at, last_unlinked, Open, open_at, own_of, entered_at, moves_in, updates_behind, updates_by, greatest_key}
use Rattle.core_state.specs.declared.view.Move.{Move}
use Rattle.prcu_model.specs.declared.operation.Update.{Update}
use Rattle.core_state.specs.declared.view.Listing.{Listing}
use Rattle.core_state.specs.declared.view.SearchState.{SearchState}
use Rattle.core_state.specs.declared.view.SearchState.TheVariants.{At, Unread, Found, Missed}
use Rattle.core_state.specs.declared.view.Walk.{Walk}
use Rattle.core_state.specs.Steps.{fresh_reading, spent_view, keys_of, spot_of, narrowed}
use Rattle.core_state.specs.declared.view.Held.{Held}
use Rattle.core_state.specs.declared.view.Spent.{Spent}
use Rattle.core_state.specs.Links.{IsContent}
use Rattle.prcu_marks.specs.declared.commit.Commit.{Commit}
use Rattle.core_state.specs.declared.view.Waiting.{Waiting}
use Rattle.core_state.specs.Marks.{Grace, Reuse, HasWaited, begun, AreMarks, begun_at}
use mathlib.Core.List.{IsPrefix}
use Rattle.core_state.specs.declared.view.Meeting.{Meeting}
use Rattle.key_interval.specs.Keys.{Holds, MeetsClass, class_of}
use Rattle.core_state.specs.declared.shape.Shape.{Shape}
use Rattle.core_state.specs.declared.shape.Waiter.{Waiter}
use Rattle.core_state.specs.declared.shape.Waiter.TheVariants.{Eer, Domain, Deer}
use Rattle.core_state.specs.declared.view.Clocked.{Clocked}
use Rattle.core_state.specs.declared.view.Fact.{Fact}
use Rattle.core_state.specs.declared.view.Gap.{Gap}
use Rattle.core_state.specs.declared.view.Visit.{Visit}
use Rattle.std.specs.FinMap as finite

-- a view holds the lock of a slot
abbrev pub IsHolderOf : List View → ℕ → HeldLock → Type 0
IsHolderOf vs s lock = Somewhere vs (λ v. lock_of v.locks s ≡ Some lock)

-- A lock word is the place plus 1 of the view that holds the lock, and 0 where none does.
pub record AreLocked (m : Memory) (n : ℕ) (vs : List View) : Type 0 where
  pub held : Each vs (λ v. (s : ℕ) (lock : HeldLock) → lock_of v.locks s ≡ Some lock → (m (Lock s) ≡ v.allowance.place + 1) × (s < n))
  pub named : (s : ℕ) → s < n → m (Lock s) ≢ 0 → (lock : HeldLock) × IsHolderOf vs s lock

-- A view has at most five locks, each once, and none in a section.
pub record HasFewLocks (v : View) : Type 0 where
  pub once : (s : ℕ) → times s (map (λ (l : HeldLock). l.slot) v.locks) ≤ 1
  pub few : length v.locks ≤ 5
  pub outside : (section : Section) → v.section ≡ Some section → (v.locks ≡ []) × (v.moving ≡ None)

-- the slot is one of these retired ones, with a generation that wasn't raised
pub record IsUnraisedOf (rs : List Retired) (s : ℕ) : Type 0 where
  pub retired : Retired
  pub has : IsIn rs retired
  pub slot : retired.slot ≡ s
  pub unraised : retired.raised ≡ false

-- one of the view's
abbrev pub IsUnraised : View → ℕ → Type 0
IsUnraised v s = IsUnraisedOf v.hands.retired s

-- A view's lock says that the view marked the slot, just where the slot is linked and marked; and which sides it emptied: these are
-- empty, and the slot is linked or an unraised retired one of the view.
pub record IsLockKept (m : Memory) (g : Chart) (v : View) (s : ℕ) (lock : HeldLock) : Type 0 where
  pub marked : lock.marked ≡ true → (g.linked s ≡ true) × IsOdd (m (Life s))
  pub own_mark : g.linked s ≡ true → IsOdd (m (Life s)) → lock.marked ≡ true
  pub emptied : (b : Side) → is_emptied lock b ≡ true → (m (Link s b) ≡ 0) × ((g.linked s ≡ true) ⊎ IsUnraised v s)

-- the slot still has the generation, unmarked or marked by the lock's holder
abbrev pub HasGeneration : Memory → ℕ → ℕ → HeldLock → Type 0
HasGeneration m s generation lock = (m (Life s) ≡ 2 * generation) ⊎ ((m (Life s) ≡ 2 * generation + 1) × (lock.marked ≡ true))

-- What was loaded or stored under a lock is so: each tag always; each field where the view keeps, from one of its sections, the
-- generation that the slot still has; the life itself where it is that of such a generation, and where the view marked the slot.
pub record IsLockKnown (m : Memory) (v : View) (s : ℕ) (lock : HeldLock) : Type 0 where
  pub own : (field : Field) (number : ℕ) → known_in lock.known field ≡ Some number → IsOwnField s field
  pub tags : (b : Side) (number : ℕ) → known_in lock.known (Tag s b) ≡ Some number → m (Tag s b) ≡ number
  pub fields : (r : Reading) (generation number : ℕ) (field : Field) → IsIn (readings_of v) r → LoadedGeneration r s generation
      → HasGeneration m s generation lock
      → known_in lock.known field ≡ Some number → m field ≡ number
  pub lives : (r : Reading) (generation : ℕ) → IsIn (readings_of v) r → LoadedGeneration r s generation
      → known_in lock.known (Life s) ≡ Some (2 * generation) → m (Life s) ≡ 2 * generation
  pub marked_life : lock.marked ≡ true → known_in lock.known (Life s) ≡ Some (m (Life s))

-- No generation and no tag that a section loaded is above the one now. Where it is the generation now, the slot has the key that was
-- loaded, marked or not; and where the node is unmarked, the slot is linked.
pub record IsReadingKept (m : Memory) (g : Chart) (r : Reading) : Type 0 where
  pub generations : (s life : ℕ) → known_in r.loads (Life s) ≡ Some life → life / 2 ≤ m (Life s) / 2
  pub tags : (s number : ℕ) (b : Side) → known_in r.loads (Tag s b) ≡ Some number → number ≤ m (Tag s b)
  pub linked : (s life : ℕ) → known_in r.loads (Life s) ≡ Some life → m (Life s) ≡ 2 * (life / 2) → g.linked s ≡ true
  pub keys : (s life key : ℕ) → known_in r.loads (Life s) ≡ Some life → m (Life s) / 2 ≡ life / 2 → known_in r.loads (Key s) ≡ Some key
      → m (Key s) ≡ key

-- Locks are held by whom their words name; a linked slot that is marked is locked by who marked it; and what views know under their
-- locks and from their sections is so, as far as the generation says.
pub record LockParts (m : Memory) (n : ℕ) (g : Chart) (vs : List View) : Type 0 where
  pub locked : AreLocked m n vs
  pub few : Each vs HasFewLocks
  pub kept : Each vs (λ v. (s : ℕ) (lock : HeldLock) → lock_of v.locks s ≡ Some lock → IsLockKept m g v s lock)
  pub marked : (s : ℕ) → g.linked s ≡ true → IsOdd (m (Life s)) → (lock : HeldLock) × IsHolderOf vs s lock × (lock.marked ≡ true)
  pub known : Each vs (λ v. (s : ℕ) (lock : HeldLock) → lock_of v.locks s ≡ Some lock → IsLockKnown m v s lock)
  pub readings : Each vs (λ v. Each (readings_of v) (IsReadingKept m g))

-- The invariant on links, shape, map and pending moves.
-- Source: docs/TREE_INVARIANT.md, "The invariant of the tree".

-- the dictionary now
abbrev pub map_now : List Mark → ℕ → Option ℕ
map_now h x = finite.get (map_of (updates_of h)) x

-- the old successor of a move, by a record of the view, still has the generation that its delete validated
pub record IsOldRecorded (m : Memory) (v : View) (old : ℕ) : Type 0 where
  pub reading : Reading
  pub generation : ℕ
  pub lock : HeldLock
  pub kept : IsIn v.records reading
  pub loaded : LoadedGeneration reading old generation
  pub locked : lock_of v.locks old ≡ Some lock
  pub same : HasGeneration m old generation lock

-- A pending move: the copy and the old successor are linked, with one key and one value; the old one hangs on its parent, from the
-- copy's right or by a left link; copy, old one and parent are locked by the move's view. Its update stands among the marks. No
-- section of the view met the copy.
pub record IsMoving (m : Memory) (g : Chart) (h : List Mark) (v : View) (move : Move) : Type 0 where
  pub order : move.key < move.next_key
  pub copy_some : move.copy.slot ≢ 0
  pub copy_linked : g.linked move.copy.slot ≡ true
  pub copy_young : g.old move.copy.slot ≡ false
  pub copy_key : m (Key move.copy.slot) ≡ move.next_key
  pub old_linked : g.linked move.old ≡ true
  pub old_old : g.old move.old ≡ true
  pub old_key : m (Key move.old) ≡ move.next_key
  pub same_value : m (Value move.copy.slot) ≡ m (Value move.old)
  pub parent : g.up move.old ≡ move.parent
  pub side : g.side move.old ≡ (if move.parent == move.copy.slot then Right else Left)
  pub copy_lock : HasLock v move.copy.slot
  pub old_lock : HasLock v move.old
  pub parent_lock : HasLock v move.parent
  pub made : get_elem? h move.made ≡ some (Done (record { caller = v.allowance.place; op = Del move.key }))
  pub recorded : IsOldRecorded m v move.old
  pub unmet : (r : Reading) (generation : ℕ) → IsIn v.records r → LoadedGeneration r move.copy.slot generation
      → m (Life move.copy.slot) ≢ 2 * generation

-- the linked slot is the old successor of a pending move
pub record IsOldOf (vs : List View) (s : ℕ) : Type 0 where
  pub move : Move
  pub pending : IsPending vs move
  pub old : move.old ≡ s

-- Each pending move is one; each old successor has one; and no two of them share a copy or an old successor.
pub record AreMoving (m : Memory) (g : Chart) (h : List Mark) (vs : List View) : Type 0 where
  pub each : Each vs (λ v. (move : Move) → v.moving ≡ Some move → IsMoving m g h v move)
  pub every : (s : ℕ) → g.linked s ≡ true → g.old s ≡ true → IsOldOf vs s
  pub one_old : (i j : ℕ) (v w : View) (a b : Move) → get_elem? vs i ≡ some v → get_elem? vs j ≡ some w → v.moving ≡ Some a
      → w.moving ≡ Some b → a.old ≡ b.old → i ≡ j
  pub one_copy : (i j : ℕ) (v w : View) (a b : Move) → get_elem? vs i ≡ some v → get_elem? vs j ≡ some w → v.moving ≡ Some a
      → w.moving ≡ Some b → a.copy.slot ≡ b.copy.slot → i ≡ j

-- The linked slots are in search order and hold the pairs of the dictionary now; and pending moves are as they should be.
pub record TreeParts (m : Memory) (n : ℕ) (g : Chart) (vs : List View) (h : List Mark) : Type 0 where
  pub shape : IsShaped m n g
  pub map : HoldsMap m g (map_now h)
  pub moves : AreMoving m g h vs

-- The invariant on readers, their records and walks, and on how old an unlinked slot is that a section may meet.
-- Source: docs/TREE_INVARIANT.md, "The invariant of the tree".

-- the slot at which a search stands or ended
abbrev pub state_slot : SearchState → ℕ
state_slot (At s b) = s
state_slot (Unread s parent b) = s
state_slot (Found s parent b value) = s
state_slot (Missed s b) = s

-- the side to which the sought key goes at a slot: right at the root, else as the key that was loaded there says
abbrev pub GoesTo : Reading → ℕ → Side → Type 0
GoesTo r s b = ((s ≡ 0) × (b ≡ Right)) ⊎ ((s ≢ 0) × ((key : ℕ) × (known_in r.loads (Key s) ≡ Some key) × (step_side r.key key ≡ Some b)))

-- a search reached a slot, which isn't the root, by a link of another at which it stood
pub record IsReached (r : Reading) (s parent : ℕ) (b : Side) : Type 0 where
  pub some_slot : s ≢ 0
  pub apart : parent ≢ s
  pub parent_stood : IsIn r.stood parent
  pub goes : GoesTo r parent b

-- where a search stands, by what it loaded
abbrev pub StandsWell : Reading → SearchState → Type 0
StandsWell r (At s b) = GoesTo r s b × (r.walk ≡ None)
StandsWell r (Unread s parent b) = IsReached r s parent b × (r.walk ≡ None)
StandsWell r (Found s parent b value) = IsReached r s parent b × (known_in r.loads (Key s) ≡ Some r.key)
StandsWell r (Missed s b) = GoesTo r s b × (r.walk ≡ None)

-- a walk stands at slots at which the search stood, and neither is the root
pub record HasWalked (stood : List ℕ) (walk : Walk) : Type 0 where
  pub some_slot : walk.slot ≢ 0
  pub some_parent : walk.parent ≢ 0
  pub slot_stood : IsIn stood walk.slot
  pub parent_stood : IsIn stood walk.parent

-- What a section found out, by itself: it began at the root, stood at all slots that it names, and loaded at such slots alone. Before
-- its first load it stands at the root.
pub record IsReading (r : Reading) : Type 0 where
  pub root : IsIn r.stood 0
  pub stands : IsIn r.stood (state_slot r.state)
  pub well : StandsWell r r.state
  pub walk : (walk : Walk) → r.walk ≡ Some walk → HasWalked r.stood walk
  pub loads : (field : Field) (number : ℕ) → known_in r.loads field ≡ Some number → (s : ℕ) × IsIn r.stood s × IsLoadable s field
  pub first : r.loads ≡ [] → r ≡ fresh_reading r.key

-- what a search has answered, where it did: nothing of the key where it ended, or the value that it loaded
abbrev pub Answered : List Update → Section → SearchState → Type 0
Answered us section (Missed s b) = WasSaid us section.key section.from None
Answered us section (Found s parent b (Some value)) = WasSaid us section.key section.from (Some value)
Answered us section _ = Unit {0}

-- A search of an open section that is no listing stands where its answer will be one that the dictionary gave since it was entered;
-- what it has answered is one.
pub record IsPlaced (m : Memory) (g : Chart) (h : List Mark) (vs : List View) (section : Section) : Type 0 where
  pub place : Place m g section.key (IsHeldBack g h section.entered) (MayPass vs section.key section.entered)
      (WasSaid (updates_of h) section.key section.from) (state_slot section.reading.state)
  pub answered : Answered (updates_of h) section section.reading.state

-- Where the search found a node that is linked, its walk stands right of it and then left; and so does the slot before.
pub record IsWalking (m : Memory) (g : Chart) (h : List Mark) (section : Section) (node : ℕ) (walk : Walk) : Type 0 where
  pub walks : g.linked node ≡ true → Walks m g node (IsHeldBack g h section.entered) walk.slot
  pub parent : g.linked node ≡ true → g.linked walk.parent ≡ true → (walk.parent ≡ node) ⊎ OnRightLeft m node walk.parent

-- A slot at which an open section stood is linked, or was unlinked since and not raised; the key loaded there is its key, and the
-- life loaded there has its generation.
pub record HasStood (m : Memory) (g : Chart) (h : List Mark) (section : Section) (s : ℕ) : Type 0 where
  pub here : (g.linked s ≡ true) ⊎ (IsHeldBack g h section.entered s × IsOdd (m (Life s)))
  pub key : (key : ℕ) → known_in section.reading.loads (Key s) ≡ Some key → m (Key s) ≡ key
  pub life : (life : ℕ) → known_in section.reading.loads (Life s) ≡ Some life → m (Life s) / 2 ≡ life / 2

-- The slots come before a slot, the last one first: each has a smaller rank than the one after it.
abbrev pub Falls : (ℕ → ℕ) → ℕ → List ℕ → Type 0
Falls rank s [] = Unit {0}
Falls rank s (q ∷ before) = (rank q < rank s) × Falls rank q before

-- the last slot at which a search stood, or its walk where one began
abbrev pub last_stood : Option Walk → ℕ → ℕ
last_stood None s = s
last_stood (Some walk) s = walk.slot

-- A search or its walk stands at the last slot of its way, and the rank grows along the way: so it stood at no slot twice.
pub record IsWay (g : Chart) (r : Reading) : Type 0 where
  pub before : List ℕ
  pub stood : r.stood ≡ last_stood r.walk (state_slot r.state) ∷ before
  pub falls : Falls g.rank (last_stood r.walk (state_slot r.state)) before

-- What holds of an open section. A listing's search never begins. The slots at which it stood are a way.
pub record IsServed (m : Memory) (g : Chart) (h : List Mark) (vs : List View) (section : Section) : Type 0 where
  pub placed : section.listing ≡ None → IsPlaced m g h vs section
  pub lists : (listing : Listing) → section.listing ≡ Some listing → section.reading.loads ≡ []
  pub walking : (node parent : ℕ) (b : Side) (value : Option ℕ) (walk : Walk) → section.reading.state ≡ Found node parent b value
      → section.reading.walk ≡ Some walk → IsWalking m g h section node walk
  pub stood : (s : ℕ) → IsIn section.reading.stood s → HasStood m g h section s
  pub way : IsWay g section.reading

-- the slot has the generation that the section loaded, and is unmarked
pub record IsAsRecorded (m : Memory) (r : Reading) (s : ℕ) : Type 0 where
  pub generation : ℕ
  pub recorded : LoadedGeneration r s generation
  pub same : m (Life s) ≡ 2 * generation

-- A kept record of an empty side: where the slot has the recorded generation, the side is empty and has the recorded tag, the key
-- belongs there. It says nothing of the old successor of a move whose interval holds the key, nor of a side that its lock's holder
-- has emptied and not yet raised the tag of.
abbrev pub SaysOfSide : Memory → Chart → List View → Reading → Type 0
SaysOfSide m g vs r = (s tag : ℕ) (b : Side) → r.state ≡ Missed s b → IsAsRecorded m r s → known_in r.loads (Tag s b) ≡ Some tag
    → m (Link s b) ≡ 0 → m (Tag s b) ≡ tag
    → (IsEmptied vs s b → ⊥) → IsOldFor vs r.key s ⊎ Belongs m g r.key s b

-- the slot is linked with the generation that the section loaded, marked or not
pub record IsStillLinked (m : Memory) (g : Chart) (r : Reading) (s : ℕ) : Type 0 where
  pub linked : g.linked s ≡ true
  pub generation : ℕ
  pub recorded : LoadedGeneration r s generation
  pub same : m (Life s) / 2 ≡ generation

-- A kept record of a walk: as long as its node is linked with its generation, be it marked, and its last slots are as recorded, they
-- lie right of the node and then left.
pub record SaysOfWalk (m : Memory) (g : Chart) (r : Reading) (node : ℕ) (walk : Walk) : Type 0 where
  pub parent : IsStillLinked m g r node → IsAsRecorded m r walk.parent → (walk.parent ≡ node) ⊎ OnRightLeft m node walk.parent
  pub slot : IsStillLinked m g r node → IsAsRecorded m r walk.slot → OnRightLeft m node walk.slot

-- What holds of a kept record.
pub record IsRecord (m : Memory) (g : Chart) (vs : List View) (r : Reading) : Type 0 where
  pub key_fits : r.key < 2 ^ 64
  pub side : SaysOfSide m g vs r
  pub walk : (node parent : ℕ) (b : Side) (value : Option ℕ) (walk : Walk) → r.state ≡ Found node parent b value → r.walk ≡ Some walk
      → SaysOfWalk m g r node walk

-- the view's section is open and was entered before this mark
pub record HasMetBefore (v : View) (at : ℕ) : Type 0 where
  pub section : Section
  pub is_open : v.section ≡ Some section
  pub before : section.entered < at

-- that of some view is
abbrev pub IsMetBefore : List View → ℕ → Type 0
IsMetBefore vs at = Somewhere vs (λ v. HasMetBefore v at)

-- the slot was unlinked after this mark, and neither given nor freed since
pub record IsGoneSince (h : List Mark) (since s : ℕ) : Type 0 where
  pub at : ℕ
  pub gone : gone_at s h ≡ Some at
  pub later : since < at

-- a slot leads to another of a greater rank that is linked, or was unlinked after this mark
pub record LeadsOn (g : Chart) (h : List Mark) (since s c : ℕ) : Type 0 where
  pub rank : g.rank s < g.rank c
  pub leads : (g.linked c ≡ true) ⊎ IsGoneSince h since c

-- A link of an unlinked slot that a section may still meet is 0, or leads to a linked slot, or to one that was unlinked later; of a
-- greater rank.
abbrev pub AreAged : Memory → Chart → List View → List Mark → Type 0
AreAged m g vs h = (s at c : ℕ) (b : Side) → gone_at s h ≡ Some at → IsMetBefore vs at → m (Link s b) ≡ c → c ≢ 0
    → LeadsOn g h at s c

-- Each open search will answer what the dictionary said since it was entered; walks, records and slots met are as they should be.
pub record ReaderParts (m : Memory) (g : Chart) (vs : List View) (h : List Mark) : Type 0 where
  pub readings : Each vs (λ v. Each (readings_of v) IsReading)
  pub served : Each vs (λ v. (section : Section) → v.section ≡ Some section → IsServed m g h vs section)
  pub records : Each vs (λ v. Each v.records (IsRecord m g vs))
  pub ages : AreAged m g vs h

-- The invariant on slots that aren't linked: each slot has one role, and what its life and its fields are there.
-- Source: docs/TREE_INVARIANT.md, "The invariant of the tree".

-- in how many roles a slot is: free, linked, in hand, a spare, retired
abbrev pub roles_of : Memory → Chart → List View → ℕ → ℕ
roles_of m g vs s = flag (m (State s) == 0) + flag (g.linked s) + total (λ v. times s (slots_of v)) vs

-- Each slot is in one role; what isn't a slot is no view's.
pub record HaveOneRole (m : Memory) (n : ℕ) (g : Chart) (vs : List View) : Type 0 where
  pub once : (s : ℕ) → s < n → roles_of m g vs s ≡ 1
  pub beyond : (s : ℕ) → n ≤ s → total (λ v. times s (slots_of v)) vs ≡ 0
  pub states : (s : ℕ) → s < n → m (State s) ≤ 1

-- one of these retired slots has a generation that wasn't raised
pub record HasUnraised (rs : List Retired) : Type 0 where
  pub retired : Retired
  pub has : IsIn rs retired
  pub unraised : retired.raised ≡ false

-- a place that was joined has at most so many slots retired, and without a spare one whose generation wasn't raised
pub record HasFewSpent (most : ℕ) (s : Spent) : Type 0 where
  pub few : length s.retired ≤ most
  pub next_spare : s.spare ≡ None → HasUnraised s.retired

-- A place has at most one slot reserved or in hand, and at most so many retired, while a move is pending one less; without a spare it has
-- a retired slot whose generation wasn't raised. So had those that were joined.
pub record HasFewSlots (most : ℕ) (v : View) : Type 0 where
  pub one : v.hands.reserved ≡ true → v.hands.hand ≡ None
  pub few : length v.hands.retired ≤ most
  pub room : (move : Move) → v.moving ≡ Some move → length v.hands.retired < most
  pub joined : Each v.allowance.joined (HasFewSpent most)
  pub next_spare : Works v → v.hands.spare ≡ None → HasUnraised v.hands.retired

-- A retired slot was unlinked where the view says, and neither given nor freed since. Until its generation is raised its node is
-- marked, and its life, its key, its value and its links are as they were known; once it is raised, the node is unmarked, and it was waited
-- for.
pub record IsRetired (m : Memory) (h : List Mark) (r : Retired) : Type 0 where
  pub unlinked : gone_at r.slot h ≡ Some r.unlinked
  pub some_slot : r.slot ≢ 0
  pub marked : r.raised ≡ false → IsOdd (m (Life r.slot))
  pub life : (number : ℕ) → r.raised ≡ false → r.life ≡ Some number → m (Life r.slot) ≡ number
  pub stays : (field : Field) (number : ℕ) → r.raised ≡ false → IsContent r.slot field → known_in r.known field ≡ Some number
      → m field ≡ number
  pub unmarked : r.raised ≡ true → IsEven (m (Life r.slot))
  pub after_wait : r.raised ≡ true → r.waited ≡ true

-- the slot is among the retired ones of the view
pub record HasRetired (v : View) (s : ℕ) : Type 0 where
  pub retired : Retired
  pub has : IsIn (retired_of v) retired
  pub slot : retired.slot ≡ s

-- it is among those of some view
abbrev pub IsRetiredOf : List View → ℕ → Type 0
IsRetiredOf vs s = Somewhere vs (λ v. HasRetired v s)

-- What the view loaded or stored in a slot since it got it is so.
abbrev pub IsHeldKnown : Memory → Held → Type 0
IsHeldKnown m held = (field : Field) (number : ℕ) → known_in held.known field ≡ Some number
    → IsOwnField held.slot field × (m field ≡ number)

-- that is so, and the slot is unmarked
pub record IsHandKnown (m : Memory) (held : Held) : Type 0 where
  pub known : IsHeldKnown m held
  pub even : IsEven (m (Life held.slot))

-- What the view knows of the slot in hand, the spare, and the copy of its move is so; and none of them is marked.
pub record AreHandsKnown (m : Memory) (v : View) : Type 0 where
  pub hand : (held : Held) → v.hands.hand ≡ Some held → IsHandKnown m held
  pub spare : (held : Held) → v.hands.spare ≡ Some held → IsHeldKnown m held
  pub copy : (move : Move) → v.moving ≡ Some move → IsHandKnown m move.copy
  pub spares : (s : ℕ) → 1 ≤ times s (spares_of v) → IsEven (m (Life s))

-- Each slot is in one role. Those that are free, in hand, spares or copies are unmarked, and what their holder knows of them is so;
-- those that are retired are those unlinked and not given back, at each place as many as it has room for.
pub record SlotParts (room : ℕ) (m : Memory) (n : ℕ) (g : Chart) (vs : List View) (h : List Mark) : Type 0 where
  pub roles : HaveOneRole m n g vs
  pub few : Each vs (HasFewSlots room)
  pub free : (s : ℕ) → s < n → m (State s) ≡ 0 → IsEven (m (Life s))
  pub root : m (Life 0) ≡ 0
  pub hands : Each vs (AreHandsKnown m)
  pub retired : Each vs (λ v. Each (retired_of v) (IsRetired m h))
  pub unlinked : (s p : ℕ) → gone_at s h ≡ Some p → IsRetiredOf vs s

-- The invariant on the front and the history.
-- Source: docs/TREE_INVARIANT.md, "The invariant of the tree".

-- the front is odd by this view
pub record MakesOdd (m : Memory) (count : ℕ) (v : View) : Type 0 where
  pub commit : Commit
  pub has : v.commit ≡ Some commit
  pub word : m Front ≡ commit.found + 1
  pub updates : updates_by commit ≡ 2 * count

-- by one view, and by no other
abbrev pub IsOddBy : Memory → List View → ℕ → Type 0
IsOddBy m vs count = OnlyOne vs (MakesOdd m count) (λ v. v.commit ≡ None)

-- the pairs haven't moved, and the front is odd by one view
pub record IsOddHere (m : Memory) (vs : List View) (count : ℕ) : Type 0 where
  pub here : m Moved ≡ 0
  pub odd : IsOddBy m vs count

-- A front that is no view's commit is twice the number of updates, and one more where the pairs moved: so it is even before, and odd for good
-- from then on. Before that an odd one may be one view's commit.
abbrev pub IsTurned : Memory → List View → ℕ → Type 0
IsTurned m vs count = ((m Front ≡ 2 * count + m Moved) × Each vs (λ v. v.commit ≡ None)) ⊎ IsOddHere m vs count

-- The word of a move says whether the pairs moved, which they do once at most. No update stands behind that mark.
pub record IsLast (m : Memory) (h : List Mark) : Type 0 where
  pub word : m Moved ≡ moves_in h
  pub once : moves_in h ≤ 1
  pub none : updates_behind h ≡ []

-- The front counts the updates, which are legal, and end where the pairs move; no view has a pending move while the front is odd by it and
-- its update unmade.
pub record FrontParts (m : Memory) (vs : List View) (h : List Mark) : Type 0 where
  pub turned : IsTurned m vs (length (updates_of h))
  pub last : IsLast m h
  pub settled : Each vs (λ v. (commit : Commit) → v.commit ≡ Some commit → commit.stored ≡ false → v.moving ≡ None)
  pub legal : IsLegal (updates_of h)

-- The invariant on counts: free slots, and the tickets that pay for clocks, generations, tags and turns.
-- Source: docs/TREE_INVARIANT.md, "The invariant of the tree".

-- the tickets that no view has used
abbrev pub tickets_left : List View → ℕ
tickets_left vs = total (λ v. v.allowance.tickets) vs

abbrev pub reserved_count : List View → ℕ
reserved_count vs = total (λ v. flag v.hands.reserved) vs

abbrev pub pending_count : List View → ℕ
pending_count vs = total (λ v. has v.moving) vs

-- how many linked slots there are but the root; those that are no old successors, and those that are
abbrev pub linked_count : Chart → ℕ → ℕ
linked_count g n = count_below (λ s. g.linked s && not (s == 0)) n

abbrev pub young_count : Chart → ℕ → ℕ
young_count g n = count_below (λ s. g.linked s && (not (s == 0) && not (g.old s))) n

abbrev pub old_count : Chart → ℕ → ℕ
old_count g n = count_below (λ s. g.linked s && g.old s) n

-- the gates that a wait may still turn
abbrev pub turns_to_come : Option Waiting → ℕ
turns_to_come None = 0
turns_to_come (Some wait) = if wait.ended then 0 else 64 - length wait.turned

-- The free count, with the reservations and with the slots freed whose count is owed, is the number of free slots. Each of clock,
-- generations and tags, with what is still to come of it, is paid for by tickets that were used; gate turns by waits begun. The
-- dictionary has as many pairs as there are linked slots that aren't old successors, and each of those has its move.
pub record CountParts (tickets : ℕ) (m : Memory) (n : ℕ) (g : Chart) (vs : List View) (h : List Mark) : Type 0 where
  pub free : m Free + reserved_count vs + total (λ v. flag v.hands.owes) vs ≡ count_below (λ s. m (State s) == 0) n
  pub clock : m Clock + length (updates_of h) + tickets_left vs ≤ tickets
  pub generations : sum_below (λ s. m (Life s) / 2) n + reserved_count vs + (linked_count g n + total unraised_of vs) + tickets_left vs
      ≤ tickets
  pub tags : sum_below (λ s. m (Tag s Left) + m (Tag s Right)) n + total (λ v. emptied_among v.locks) vs + pending_count vs
      + tickets_left vs ≤ tickets
  pub turns : total (λ v. v.counts.turns + turns_to_come v.wait) vs ≤ 64 * m Clock
  pub pairs : young_count g n ≡ finite.len (map_of (updates_of h))
  pub olds : old_count g n ≡ pending_count vs

-- The invariant on grace and reuse: waits outlast the readers they are for, and nothing is used again that a reader may meet.
-- Source: docs/TREE_INVARIANT.md, "The invariant of the tree".

-- no section is open that was entered before this mark with a key in the interval
abbrev pub IsClear : List View → ℕ → ℕ → ℕ → Type 0
IsClear vs at low high = (id : ℕ) (v : View) (section : Section) → get_elem? vs id ≡ some v → v.section ≡ Some section
    → section.entered < at → low ≤ section.key → section.key ≤ high → ⊥

-- That a retired slot of a place was waited for is what the marks show; and then no section is open that may meet it.
pub record IsWaitedRetired (vs : List View) (h : List Mark) (p : ℕ) (r : Retired) : Type 0 where
  pub shown : r.waited ≡ true → HasWaited h p r.unlinked 0 greatest_key
  pub noted : HasWaited h p r.unlinked 0 greatest_key → r.waited ≡ true
  pub clear : r.waited ≡ true → IsClear vs r.unlinked 0 greatest_key

-- The same of a pending move, and the readers that may pass its old successor.
pub record IsWaitedMove (vs : List View) (h : List Mark) (p : ℕ) (move : Move) : Type 0 where
  pub shown : move.waited ≡ true → HasWaited h p move.made (move.key + 1) move.next_key
  pub noted : HasWaited h p move.made (move.key + 1) move.next_key → move.waited ≡ true
  pub clear : move.waited ≡ true → IsClear vs move.made (move.key + 1) move.next_key

-- Waits have outlasted their readers; slots were used again only after those that may meet them; and no open section is older than
-- the last unlinking of a slot that isn't unlinked now.
pub record GraceParts (vs : List View) (h : List Mark) : Type 0 where
  pub grace : Grace h
  pub reuse : Reuse h
  pub clean : (s at : ℕ) → gone_at s h ≡ None → last_unlinked s h ≡ Some at → IsClear vs at 0 greatest_key
  pub retired : Each vs (λ v. Each v.hands.retired (IsWaitedRetired vs h v.allowance.place))
  pub joined : Each vs (λ v. Each v.allowance.joined (λ (s : Spent). Each s.retired (IsWaitedRetired vs h s.place)))
  pub moves : Each vs (λ v. (move : Move) → v.moving ≡ Some move → IsWaitedMove vs h v.allowance.place move)

-- The invariant on marks and waits.
-- Source: docs/TREE_INVARIANT.md, "The invariant of the tree".

-- a view has seen all of the marks
abbrev pub HasSeenAll : List View → List Mark → Type 0
HasSeenAll vs h = Somewhere vs (λ v. v.seen ≡ h)

-- Each view has seen a beginning of the marks, and one view has seen them all.
pub record AreSeen (vs : List View) (h : List Mark) : Type 0 where
  pub begins : Each vs (λ v. IsPrefix v.seen h)
  pub longest : HasSeenAll vs h

-- the wait has its end among the marks
abbrev pub HasEnded : List Mark → ℕ → ℕ → Type 0
HasEnded h place count = (j : ℕ) × (get_elem? h j ≡ some (Ended place count))

-- A view's wait is the latest of its place, it began where the view says, found as many waits begun as there were, and has ended
-- just where the view says so.
pub record WaitStands (h : List Mark) (v : View) (wait : Waiting) : Type 0 where
  pub works : Works v
  pub begins : get_elem? h wait.began ≡ some (Began v.allowance.place wait.count wait.low wait.high)
  pub clock : wait.clock ≡ begun (take wait.began h)
  pub newest : wait.count + 1 ≡ v.counts.waits
  pub over : wait.ended ≡ true → HasEnded h v.allowance.place wait.count
  pub going : wait.ended ≡ false → HasEnded h v.allowance.place wait.count → ⊥

-- The marks stand in order, and each view knows a beginning of them and its own wait.
pub record MarkParts (places : ℕ) (vs : List View) (h : List Mark) : Type 0 where
  pub seen : AreSeen vs h
  pub marks : AreMarks places h
  pub waits : Each vs (λ v. (wait : Waiting) → v.wait ≡ Some wait → WaitStands h v wait)

-- The invariant on seats and places: who answers for which place, which section is open where, and how many there were.
-- Source: docs/TREE_INVARIANT.md, "The invariant of the tree".

-- Each place of the table is worked at by one view, or unused of one, or joined into one; no other place is.
abbrev pub ArePlaced : ℕ → List View → Type 0
ArePlaced places vs = (p : ℕ) → total (λ v. times p (places_of v)) vs ≡ (if nat_lt p places then 1 else 0)

-- When two seats were joined, the marks of the places of each were among those that it had seen itself.
pub record HasMet (h : List Mark) (meeting : Meeting) : Type 0 where
  pub past : meeting.until ≤ length h
  pub begins : IsPrefix meeting.seen (take meeting.until h)
  pub own : (p : ℕ) → 1 ≤ times p meeting.places → own_of p (take meeting.until h) ≡ own_of p meeting.seen

-- The marks of a place are all seen by the view that answers for it, and its unused places have none.
pub record IsOwned (h : List Mark) (v : View) : Type 0 where
  pub met : (p : ℕ) → 1 ≤ times p (places_of v) → own_of p v.seen ≡ own_of p h
  pub unused : (p : ℕ) → IsUnused v p → own_of p h ≡ []
  pub joined : Each v.allowance.met (HasMet h)

-- A view's section is the open one of its place, and it knows how many updates there were when it was entered.
pub record SectionStands (h : List Mark) (v : View) (section : Section) : Type 0 where
  pub works : Works v
  pub is_open : open_at v.allowance.place h ≡ Some (open_of section)
  pub from : section.from ≡ length (updates_of (take section.entered h))
  pub key_fits : section.key < 2 ^ 64
  pub sought : section.reading.key ≡ section.key

-- A view has counted the sections and waits of the place at which it works.
pub record IsCounted (h : List Mark) (v : View) : Type 0 where
  pub sections : v.counts.sections ≡ entered_at v.allowance.place h
  pub waits : v.counts.waits ≡ begun_at v.allowance.place h

-- the view works at this place and has this section open
pub record HasOpen (v : View) (p : ℕ) (o : Open) : Type 0 where
  pub place : v.allowance.place ≡ p
  pub section : Section
  pub is_open : v.section ≡ Some section
  pub by_marks : o ≡ open_of section

-- an open section, by the marks, is that of the view that works at its place
abbrev pub IsOpenOf : List View → ℕ → Open → Type 0
IsOpenOf vs p o = Somewhere vs (λ v. HasOpen v p o)

-- Each place has one view that answers for it, which has seen what was done there; the sections open by the marks are those that
-- the views have open.
pub record SeatParts (places : ℕ) (vs : List View) (h : List Mark) : Type 0 where
  pub placed : ArePlaced places vs
  pub spent : Each vs (λ v. v.allowance.places ≡ 0 → v ≡ spent_view)
  pub owned : Each vs (IsOwned h)
  pub within : (p : ℕ) → places ≤ p → own_of p h ≡ []
  pub sections : Each vs (λ v. (section : Section) → v.section ≡ Some section → SectionStands h v section)
  pub opened : (p : ℕ) (o : Open) → open_at p h ≡ Some o → IsOpenOf vs p o
  pub counted : Each vs (λ v. Works v → IsCounted h v)

-- The invariant on the words of the three waiters: where the open sections show, and what a wait has excused.
-- Source: docs/TREE_INVARIANT.md, "The invariant of the tree".

-- A clock that was loaded is the number of waits that had begun then; so is the stamp of a section, which was loaded before it was
-- entered.
pub record IsClocked (waiter : Waiter) (h : List Mark) (v : View) : Type 0 where
  pub loaded : (clocked : Clocked) → v.enter.clock ≡ Some clocked → (clocked.at ≤ length h) × (clocked.number ≡ begun (take clocked.at h))
  pub stamped : (section : Section) → v.section ≡ Some section
      → (section.clocked ≤ section.entered) × (waiter ≢ Domain → section.stamp ≡ begun (take section.clocked h))

-- A wait that hasn't ended excused no spot in which an older reader stands that it is for.
abbrev pub AreExcused : Shape → List View → Type 0
AreExcused k vs = (i j : ℕ) (v u : View) (wait : Waiting) (section : Section) → get_elem? vs i ≡ some v → v.wait ≡ Some wait
    → wait.ended ≡ false
    → get_elem? vs j ≡ some u → u.section ≡ Some section → section.entered < wait.began → Holds (keys_of wait) section.key
    → IsIn wait.excused (spot_of k.waiter u.allowance.place section) → ⊥

-- A wait turned the gates of classes that its keys meet, each once.
pub record IsTurnedOnce (wait : Waiting) : Type 0 where
  pub met : (c : ℕ) → 1 ≤ times c wait.turned → (c < 64) × MeetsClass (keys_of wait) c
  pub once : (c : ℕ) → times c wait.turned ≤ 1

-- The first waiter: the key and stamp of a place are those of its open section; without one the stamp is idle. The key word is the
-- key that was announced last, inside a section or not.
pub record EerWords (places : ℕ) (m : Memory) (vs : List View) (h : List Mark) : Type 0 where
  pub inside : Each vs (λ v. (section : Section) → v.section ≡ Some section
      → (m (Announced v.allowance.place) ≡ section.key) × (m (Stamp v.allowance.place) ≡ section.stamp))
  pub outside : (p : ℕ) → p < places → open_at p h ≡ None → m (Stamp p) ≡ idle
  pub announced : Each vs (λ v. (key : ℕ) → v.enter.announced ≡ Some key → m (Announced v.allowance.place) ≡ key)

-- whether a section counts for a class and a side
abbrev pub inside_count : ℕ → ℕ → Option Section → ℕ
inside_count c side None = 0
inside_count c side (Some section) = if class_of section.key == c && section.stamp == side then 1 else 0

-- The second waiter: each side of a class counts the open sections of that class and side.
pub record DomainWords (m : Memory) (vs : List View) : Type 0 where
  pub counts : (c side : ℕ) → c < 64 → side < 2 → m (Count c side) ≡ total (λ v. inside_count c side v.section) vs
  pub sides : Each vs (λ v. (section : Section) → v.section ≡ Some section → section.stamp < 2)

-- The third waiter: the word of an open section's place and class is its stamp; the other words of the place are idle.
pub record DeerWords (places : ℕ) (m : Memory) (vs : List View) (h : List Mark) : Type 0 where
  pub inside : Each vs (λ v. (section : Section) → v.section ≡ Some section
      → m (Row v.allowance.place (class_of section.key)) ≡ section.stamp)
  pub outside : (p c : ℕ) → p < places → c < 64 → ((o : Open) → open_at p h ≡ Some o → class_of o.key ≢ c) → m (Row p c) ≡ idle

-- The clock counts the waits, stamps are clocks of before the section, and the waiter's words show the open sections.
pub record WaiterParts (k : Shape) (m : Memory) (vs : List View) (h : List Mark) : Type 0 where
  pub clock : m Clock ≡ begun h
  pub clocked : Each vs (IsClocked k.waiter h)
  pub excused : AreExcused k vs
  pub turned : Each vs (λ v. (wait : Waiting) → v.wait ≡ Some wait → IsTurnedOnce wait)
  pub eer : k.waiter ≡ Eer → EerWords k.places m vs h
  pub domain : k.waiter ≡ Domain → DomainWords m vs
  pub deer : k.waiter ≡ Deer → DeerWords k.places m vs h

-- The invariant on listings.
-- Source: docs/TREE_INVARIANT.md, "The invariant of the tree".

-- bounds as a range: from the first number on, below the second
abbrev pub low_bound : Option ℕ → ℕ
low_bound None = 0
low_bound (Some key) = key + 1

abbrev pub high_bound : Option ℕ → ℕ
high_bound None = 2 ^ 64
high_bound (Some key) = key

-- a key strictly between bounds
abbrev pub IsBetween : Gap → ℕ → Type 0
IsBetween bounds y = (low_bound bounds.low ≤ y) × (y < high_bound bounds.high)

-- the slot is linked, and its keys are those between the bounds
pub record HasBounds (g : Chart) (bounds : Gap) (s : ℕ) : Type 0 where
  pub linked : g.linked s ≡ true
  pub low : g.low s ≡ low_bound bounds.low
  pub high : g.high s ≡ high_bound bounds.high

-- From this slot the walk may go on: it is linked, and its keys are those between the bounds; or it was unlinked since the section was
-- entered, its pair is one of the map's, and past its key, on each side, there is no key between the bounds, or a slot of a greater rank
-- from which the walk may go on. live: the slots unlinked since. An old successor is such a slot, and one that a rotation replaced.
pub data GoesOn (m : Memory) (g : Chart) (live : ℕ → Type 0) (map : ℕ → Option ℕ) : Gap → ℕ → Type 0 where
  here : {bounds : Gap} {s : ℕ} → HasBounds g bounds s → GoesOn m g live map bounds s
  past : {bounds : Gap} {s : ℕ} → live s → map (m (Key s)) ≡ Some (m (Value s))
      → ((b : Side) → m (Link s b) ≡ 0 → (y : ℕ) → IsBetween (narrowed bounds (m (Key s)) b) y → map y ≡ None)
      → ((b : Side) (c : ℕ) → m (Link s b) ≡ c → c ≢ 0 → g.rank s < g.rank c)
      → ((b : Side) (c : ℕ) → m (Link s b) ≡ c → c ≢ 0 → GoesOn m g live map (narrowed bounds (m (Key s)) b) c)
      → GoesOn m g live map bounds s

-- where a listing has been, as long as nothing was updated: the rest of the bounds is there
abbrev pub StandsNow : Memory → Chart → List Mark → ℕ → Visit → Type 0
StandsNow m g h entered t = GoesOn m g (IsHeldBack g h entered) (map_now h) t.bounds t.slot

-- Where nothing was updated since a listing began: what it found is so now, and wherever it has been it may go on.
pub record ListsNow (m : Memory) (g : Chart) (h : List Mark) (entered : ℕ) (listing : Listing) : Type 0 where
  pub facts : Each listing.facts (λ (f : Fact). map_now h f.key ≡ Some f.value)
  pub gaps : Each listing.gaps (λ (gap : Gap). (y : ℕ) → IsBetween gap y → map_now h y ≡ None)
  pub visits : Each listing.visits (StandsNow m g h entered)

-- Where a section's listing has been is a slot that is linked or was unlinked since the entry, with the key that was loaded.
pub record IsVisit (m : Memory) (g : Chart) (h : List Mark) (entered : ℕ) (t : Visit) : Type 0 where
  pub node : t.slot ≢ 0
  pub key : (key : ℕ) → t.key ≡ Some key → m (Key t.slot) ≡ key
  pub here : (g.linked t.slot ≡ true) ⊎ IsHeldBack g h entered t.slot

-- The number with which a listing began is at most one more than twice the updates, and where it is even not before what was seen at its
-- entry. While no more updates were made than that number says, what the listing found is so now.
pub record IsListing (m : Memory) (g : Chart) (h : List Mark) (section : Section) (listing : Listing) : Type 0 where
  pub since : IsEven listing.front → 2 * section.from ≤ listing.front
  pub most : listing.front ≤ 2 * length (updates_of h) + 1
  pub visits : Each listing.visits (IsVisit m g h section.entered)
  pub now : 2 * length (updates_of h) ≤ listing.front → ListsNow m g h section.entered listing

pub record ListingParts (m : Memory) (g : Chart) (vs : List View) (h : List Mark) : Type 0 where
  pub listings : Each vs (λ v. (section : Section) (listing : Listing) → v.section ≡ Some section → section.listing ≡ Some listing
      → IsListing m g h section listing)

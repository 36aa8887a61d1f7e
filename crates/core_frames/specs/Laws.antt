-- What the invariant gives, in plain words; and what it is for a step to keep it.
-- Source: docs/TREE_INVARIANT.md, "What the invariant gives".
use Rattle.std.specs.Prelude.{◌≡◌, ◌≢◌, ℕ, ◌+◌, ◌-◌, ◌*◌, ◌^◌, ◌<◌, ◌≤◌, ◌⊎◌, true, false, List, [], ◌∷◌, length, Option, Some, None}
use mathlib.Core.Option.{some}
use lib.ListN.{get_elem?}
use Rattle.prcu_marks.specs.declared.mark.Mark.{Mark}
use Rattle.prcu_marks.specs.declared.mark.Side.{Side}
use Rattle.prcu_model.specs.Dictionary.{map_of, WasSaid}
use Rattle.prcu_marks.specs.Marks.{updates_of, gone_at, IsGone}
use Rattle.core_state.specs.declared.shape.Shape.{Shape}
use Rattle.core_state.specs.declared.shape.Waiter.TheVariants.{Domain}
use Rattle.core_state.specs.declared.words.Field.{Field}
use Rattle.core_state.specs.declared.words.Field.TheVariants.{Clock, Free, Life, Link, Tag, Lock, State}
use Rattle.core_state.specs.declared.view.Listing.{Listing}
use Rattle.core_state.specs.Parts.{IsBetween, state_slot, IsAsRecorded, map_now}
use Rattle.core_state.specs.declared.view.Move.{Move}
use Rattle.core_state.specs.declared.view.Reading.{Reading}
use Rattle.core_state.specs.declared.view.Section.{Section}
use Rattle.core_state.specs.declared.view.Visit.{Visit}
use Rattle.core_state.specs.declared.view.SearchState.{SearchState}
use Rattle.core_state.specs.declared.view.SearchState.TheVariants.{At, Unread, Found, Missed}
use Rattle.core_state.specs.declared.view.Waiting.{Waiting}
use Rattle.core_state.specs.Views.{known_in, Works, readings_of, HasLock, slots_of}
use Rattle.core_state.specs.declared.view.View.{View}
use Rattle.list_laws.specs.Counts.{IsIn, Somewhere, times}
use Rattle.core_state.specs.Memory.{IsOdd, Memory, slot_count}
use Rattle.core_state.specs.Tree.{last_of, follow, Hops, IsTree, IsPending, MayPass, IsOldFor, IsEmptied, Stands, Chart}
use Rattle.core_state.specs.Links.{IsContent}
use Rattle.core_state.specs.Invariant.{first_view, IsFresh, IsShape, HoldsNow}
use Rattle.std.specs.FinMap as finite

-- The links from the root are a tree of distinct slots in search order, the linked slots.
abbrev pub LinksAreTree : Type 0
LinksAreTree = (k : Shape) (m : Memory) (vs : List View) (h : List Mark) (i : HoldsNow k m vs h) → IsTree m i.chart.linked i.chart.old

-- A search from the root answers as the dictionary now.
abbrev pub FollowIsMap : Type 0
FollowIsMap = (k : Shape) (m : Memory) (vs : List View) (h : List Mark) → HoldsNow k m vs h → (x : ℕ) → x < 2 ^ 64
    → follow m (slot_count k) 0 x ≡ map_now h x

-- A section that is open and is no listing.
abbrev pub Searches : List View → Section → Type 0
Searches vs section = Somewhere vs (λ v. (v.section ≡ Some section) × (section.listing ≡ None))

-- What an open search will answer: nothing where it loaded an empty link, the value that it loaded at the slot found, and else what
-- its follow answers as the links stand now.
abbrev pub answer_of : Memory → ℕ → ℕ → SearchState → Option ℕ
answer_of m slots x (At s b) = follow m slots s x
answer_of m slots x (Unread s parent b) = follow m slots s x
answer_of m slots x (Found s parent b None) = follow m slots s x
answer_of m slots x (Found s parent b (Some value)) = Some value
answer_of m slots x (Missed s b) = None

-- What each open search will answer the dictionary said at some front since it was entered.
abbrev pub SearchesAreAnswered : Type 0
SearchesAreAnswered = (k : Shape) (m : Memory) (vs : List View) (h : List Mark) → HoldsNow k m vs h → (section : Section)
    → Searches vs section
    → WasSaid (updates_of h) section.key section.from (answer_of m (slot_count k) section.key section.reading.state)

-- Where an open search stands: it passes an old successor that it may pass, or meets the path from the root, or ends at a slot that
-- isn't linked.
abbrev pub SearchesStand : Type 0
SearchesStand = (k : Shape) (m : Memory) (vs : List View) (h : List Mark) (i : HoldsNow k m vs h) (section : Section) → Searches vs section
    → Stands m i.chart.linked section.key (MayPass vs section.key section.entered) (state_slot section.reading.state)

-- Only sections entered before a move's update pass its old successor with a key of its interval; after the move's wait none does.
abbrev pub FewPass : Type 0
FewPass = (k : Shape) (m : Memory) (vs : List View) (h : List Mark) → HoldsNow k m vs h → (section : Section) → Searches vs section
    → (move : Move) → IsPending vs move
    → move.key < section.key → section.key ≤ move.next_key → (hops : ℕ)
    → Hops m section.key hops (state_slot section.reading.state) move.old
    → (section.entered < move.made) × (move.waited ≡ false)

-- A record of an empty side, kept or of a section that is open: where the slot is as recorded and its side isn't one that was just
-- emptied, the search for the key from the root ends there, or the slot is the old successor of a move whose interval holds the key.
abbrev pub RecordsSay : Type 0
RecordsSay = (k : Shape) (m : Memory) (vs : List View) (h : List Mark) → HoldsNow k m vs h
    → (id : ℕ) (v : View) (r : Reading) (s tag : ℕ) (b : Side) → get_elem? vs id ≡ some v → IsIn (readings_of v) r
    → r.state ≡ Missed s b → IsAsRecorded m r s → known_in r.loads (Tag s b) ≡ Some tag → m (Link s b) ≡ 0 → m (Tag s b) ≡ tag
    → (IsEmptied vs s b → ⊥)
    → IsOldFor vs r.key s ⊎ (last_of m r.key (slot_count k) 0 ≡ s)

-- A stamp whose clock was loaded before a wait began isn't above the wait's clock; no stamp is above the clock word, and each wait's
-- clock is below it.
abbrev pub StampsAreOld : Type 0
StampsAreOld = (k : Shape) (m : Memory) (vs : List View) (h : List Mark) → HoldsNow k m vs h → k.waiter ≢ Domain
    → (i j : ℕ) (v u : View) (wait : Waiting) (section : Section)
    → get_elem? vs i ≡ some v → v.wait ≡ Some wait → get_elem? vs j ≡ some u → u.section ≡ Some section
    → (section.clocked ≤ wait.began → section.stamp ≤ wait.clock) × (section.stamp ≤ m Clock) × (wait.clock < m Clock)

-- While no more updates were made than the number says with which a listing began, it goes on to what the dictionary has now from wherever
-- it has been: for each key strictly between the bounds, the follow from there answers as the dictionary; and it passes an old successor
-- only for keys above that one's.
abbrev pub ListingsGoOn : Type 0
ListingsGoOn = (k : Shape) (m : Memory) (vs : List View) (h : List Mark) → HoldsNow k m vs h
    → (id : ℕ) (v : View) (section : Section) (listing : Listing) (t : Visit) → get_elem? vs id ≡ some v
    → v.section ≡ Some section → section.listing ≡ Some listing → 2 * length (updates_of h) ≤ listing.front → IsIn listing.visits t
    → (y : ℕ) → y < 2 ^ 64 → IsBetween t.bounds y
    → (follow m (slot_count k) t.slot y ≡ map_now h y)
    × ((move : Move) (hops : ℕ) → IsPending vs move → Hops m y hops t.slot move.old → move.next_key < y)

-- A slot at which an open section stood is linked, or was unlinked after the section was entered.
abbrev pub StoodIsYoung : Type 0
StoodIsYoung = (k : Shape) (m : Memory) (vs : List View) (h : List Mark) (i : HoldsNow k m vs h) (id s : ℕ) (v : View) (section : Section)
    → get_elem? vs id ≡ some v → v.section ≡ Some section → IsIn section.reading.stood s
    → (i.chart.linked s ≡ true) ⊎ ((at : ℕ) × (gone_at s h ≡ Some at) × (section.entered < at))

-- Where the free count is 0, a place with nothing reserved, in hand, owed or under way shows that the dictionary is large: its pairs,
-- with its retired slots and for each other place as many as it may hold back and four, are as many as the slots.
pub record HoldsNothing (v : View) : Type 0 where
  pub works : Works v
  pub reserved : v.hands.reserved ≡ false
  pub hand : v.hands.hand ≡ None
  pub owes : v.hands.owes ≡ false
  pub moving : v.moving ≡ None

abbrev pub EmptyIsFull : Type 0
EmptyIsFull = (k : Shape) (m : Memory) (vs : List View) (h : List Mark) → HoldsNow k m vs h → (id : ℕ) (v : View) → get_elem? vs id ≡ some v
    → HoldsNothing v → m Free ≡ 0
    → k.slots ≤ finite.len (map_of (updates_of h)) + length v.hands.retired + (k.room + 4) * (k.places - 1)

-- The dictionary has no more pairs than there are slots for them: each place keeps a slot.
abbrev pub PairsFit : Type 0
PairsFit = (k : Shape) (m : Memory) (vs : List View) (h : List Mark) → HoldsNow k m vs h → finite.len (map_of (updates_of h)) ≤ k.slots

-- What a step leaves: no life and no tag falls, and the key, value and links of an unlinked slot stay until its life is raised.
pub record KeepsPast (m : Memory) (h : List Mark) (to : Memory) : Type 0 where
  pub lives : (s : ℕ) → m (Life s) ≤ to (Life s)
  pub tags : (s : ℕ) (b : Side) → m (Tag s b) ≤ to (Tag s b)
  pub content : (s : ℕ) (field : Field) → IsGone h s → IsOdd (m (Life s)) → IsContent s field → to field ≡ m field

pub record IsKept (k : Shape) (m : Memory) (h : List Mark) (to : Memory) (vs : List View) (h' : List Mark) : Type 0 where
  pub invariant : HoldsNow k to vs h'
  pub past : KeepsPast m h to

-- A table as it is made has the invariant, whatever its waiter.
abbrev pub FreshHolds : Type 0
FreshHolds = (k : Shape) (m : Memory) → IsShape k → IsFresh k m → HoldsNow k m (first_view k ∷ []) []

-- Who has a lock and who has a slot, by the invariant, in plain words.
-- Source: docs/TREE_INVARIANT.md, "What the invariant gives".

-- The lock of the slot is this view's alone, and its word names the place of it.
pub record IsHeldByOne (m : Memory) (vs : List View) (id slot : ℕ) (v : View) : Type 0 where
  pub named : m (Lock slot) ≡ v.allowance.place + 1
  pub alone : (j : ℕ) (other : View) → get_elem? vs j ≡ some other → HasLock other slot → j ≡ id

-- A lock is held by at most one view, so at at most one place.
abbrev pub LocksAreOnes : Type 0
LocksAreOnes = (k : Shape) (m : Memory) (vs : List View) (h : List Mark) → HoldsNow k m vs h → (id slot : ℕ) (v : View)
    → get_elem? vs id ≡ some v → HasLock v slot → IsHeldByOne m vs id slot v

-- The slot is one of the table's, neither free nor linked; this view has it once, and no other view has it.
pub record IsOfOne (m : Memory) (slots : ℕ) (g : Chart) (vs : List View) (id slot : ℕ) (v : View) : Type 0 where
  pub inside : slot < slots
  pub taken : m (State slot) ≢ 0
  pub unlinked : g.linked slot ≡ false
  pub once : times slot (slots_of v) ≡ 1
  pub alone : (j : ℕ) (other : View) → get_elem? vs j ≡ some other → 1 ≤ times slot (slots_of other) → j ≡ id

-- A slot that a view has in hand, as a spare, or retired is that alone and nobody else's, and it is neither free nor linked.
abbrev pub SlotsAreOnes : Type 0
SlotsAreOnes = (k : Shape) (m : Memory) (vs : List View) (h : List Mark) (i : HoldsNow k m vs h) (id slot : ℕ) (v : View)
    → get_elem? vs id ≡ some v → 1 ≤ times slot (slots_of v)
    → IsOfOne m (slot_count k) i.chart vs id slot v

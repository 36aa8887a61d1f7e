-- What a seat knows by a step, between two steps, and what the step tells.
use Rattle.std.specs.Prelude.{◌≡◌, ◌≢◌, ℕ, ◌+◌, ◌-◌, ◌*◌, ◌/◌, ◌<◌, ◌≤◌, ◌⊎◌, false, List, length, map, Some, None, [], Option}
use mathlib.Core.List.{IsPrefix}
use Rattle.prcu_marks.specs.declared.mark.Mark.{Mark}
use Rattle.prcu_marks.specs.declared.mark.Side.{Side}
use Rattle.prcu_marks.specs.Marks.{updates_of, updates_behind, moves_in, own_of, most_front, most_life, most_tickets, most_turns, said_by}
use Rattle.prcu_marks.specs.Callers.{IsNextKey}
use Rattle.prcu_model.specs.Dictionary.{IsLegal, map_of, WasSaid}
use Rattle.core_state.specs.declared.shape.Shape.{Shape}
use Rattle.core_state.specs.declared.shape.Waiter.TheVariants.{Domain}
use Rattle.core_state.specs.declared.words.Field.{Field}
use Rattle.core_state.specs.declared.words.Field.TheVariants.{Clock, Front, Free, Moved, Lock, Life, Value, Tag}
use Rattle.prcu_marks.specs.declared.commit.Commit.{Commit}
use Rattle.core_state.specs.declared.view.Fact.{Fact}
use Rattle.core_state.specs.declared.view.Gap.{Gap}
use Rattle.core_state.specs.declared.view.Held.{Held}
use Rattle.core_state.specs.declared.view.Listing.{Listing}
use Rattle.core_state.specs.declared.view.Retired.{Retired}
use Rattle.core_state.specs.declared.view.SearchState.TheVariants.{Found, Missed}
use Rattle.core_state.specs.declared.view.Section.{Section}
use Rattle.core_state.specs.declared.view.View.{View}
use Rattle.core_state.specs.declared.view.Visit.{Visit}
use Rattle.list_laws.specs.Counts.{times, IsIn, Each}
use Rattle.core_state.specs.Memory.{most_free, IsEven, slot_count}
use Rattle.core_state.specs.Marks.{Grace, Reuse}
use Rattle.core_state.specs.Parts.{IsBetween, HasMet, map_now}
use Rattle.core_state.specs.Links.{IsInHand, IsSpare, IsRetiredAt}
use Rattle.core_state.specs.Views.{known_in, known_under, lock_of, Works, places_of, slots_of}
use Rattle.core_state.specs.declared.act.Act.{Act}
use Rattle.core_state.specs.declared.act.Act.TheVariants.{LoadClock, LeaveByStamp, BeginWait, LoadRetiredLife, Reserve, Seize, Lock as TakeLock, SearchLoad, LinkLeaf, Bypass, LinkCopy, LeaveByCount, LeaveByRow, ReplaceValue, LookAtFront, StoreMoved, LoadMoved}
use Rattle.core_state.specs.Acts.{field_of, access_of, noted, Asks, after}
use Rattle.core_frames.specs.Telling.{IsToldOf}
use Rattle.prcu_model.specs.Fronts.{StaysWithin}
use Rattle.seat_table.specs.Seats.{TableAt, HasPlace, HasFew, IsInside, IsStamp, IsSlotOf, IsLastFound, shape_of}
use Rattle.atomic_table.specs.Table.{Me, Step}
use Rattle.prcu_marks.specs.declared.access.Access.{Access}
use Rattle.seat_table.specs.declared.rule.Nothing.{Nothing}
use Rattle.std.specs.FinMap as finite

-- What a call takes from the rule after a step.
-- Source: docs/TREE_CALLS.md, "What a step sees".

-- All marks at a step: the view, which works at a place, has seen a beginning of them, and all marks of each place for which it answers.
pub record Sees (v : View) (h : List Mark) : Type 0 where
  pub works : Works v
  pub begins : IsPrefix v.seen h
  pub own : (p : ℕ) → 1 ≤ times p (places_of v) → own_of p v.seen ≡ own_of p h

-- What a seat has seen: its updates are a history, which ends where the pairs move, waits outlast the readers they are for, and no slot is
-- used again that an open reader may meet. Its waits with its tickets are few, and so are the gates that it turned.
pub record IsInformed (w : View) : Type 0 where
  pub legal : IsLegal (updates_of w.seen)
  pub last : updates_behind w.seen ≡ []
  pub grace : Grace w.seen
  pub reuse : Reuse w.seen
  pub few_waits : w.counts.waits + w.allowance.tickets ≤ most_tickets
  pub few_turns : w.counts.turns ≤ most_turns

-- how large the number in a word can be
abbrev pub WordFits : Shape → Field → ℕ → Type 0
WordFits k Clock n = n ≤ most_tickets
WordFits k Front n = n ≤ most_front
WordFits k Free n = n ≤ most_free
WordFits k Moved n = n ≤ 1
WordFits k (Lock s) n = n ≤ k.places
WordFits k (Life s) n = n ≤ most_life
WordFits k (Tag s b) n = n ≤ most_tickets
WordFits k _ n = Unit {0}

-- a slot of the table; its number fits 32 bits
pub record IsSlot (k : Shape) (s : ℕ) : Type 0 where
  pub inside : s < slot_count k
  pub fits : s < 4294967296

-- as many slots as a table has, or fewer; the number fits 32 bits
pub record AreFew (k : Shape) (n : ℕ) : Type 0 where
  pub inside : n ≤ slot_count k
  pub fits : n < 4294967296

-- The slots at which the open section has stood are the table's, and no more than it has; so are those where its listing has been.
pub record StoodInside (k : Shape) (w : View) : Type 0 where
  pub stood : (section : Section) (s : ℕ) → w.section ≡ Some section → IsIn section.reading.stood s → IsSlot k s
  pub few : (section : Section) → w.section ≡ Some section → AreFew k (length section.reading.stood)
  pub listed : (section : Section) (listing : Listing) (t : Visit) → w.section ≡ Some section → section.listing ≡ Some listing
      → IsIn listing.visits t → IsSlot k t.slot

-- The side of an open section of the second waiter is 0 or 1.
pub record HasSide (k : Shape) (w : View) : Type 0 where
  pub small : (section : Section) → w.section ≡ Some section → k.waiter ≡ Domain → section.stamp < 2

-- a place has retired each slot once
abbrev pub TellsApart : View → Type 0
TellsApart v = (s : ℕ) → times s (map (λ (r : Retired). r.slot) v.hands.retired) ≤ 1

-- What the rule tells of the seat's view, with all marks, of which the seat has seen a beginning and all of its places, and some words.
pub record TellsNow (k : Shape) (v : View) : Type 0 where
  pub marks : List Mark
  pub sees : Sees v marks
  pub word : Field → ℕ
  pub tells : IsToldOf k.slots k.places k.room v marks word
  pub apart : TellsApart v

-- What it told of the view before the step, with all marks before it and the words there were: by them the step found its number.
pub record TellsBefore (k : Shape) (v : View) (a : Act) (h : List Mark) (found : ℕ) : Type 0 where
  pub word : Field → ℕ
  pub found_is : said_by (access_of v.allowance.place a) (word (field_of v.allowance.place a)) ≡ found
  pub tells : IsToldOf k.slots k.places k.room v h word

-- At no front of what the seat has seen were there more pairs than the table was made with slots, and no mark is of a place that the
-- table hasn't.
pub record StaysIn (k : Shape) (w : View) : Type 0 where
  pub within : StaysWithin (updates_of w.seen) k.slots
  pub others : (p : ℕ) → k.places ≤ p → own_of p w.seen ≡ []

-- What the search of a section found, the dictionary said at some front since the section was entered. Where it found the key and loaded
-- no value, the key had some value then.
pub record GivesAnswer (seen : List Mark) (section : Section) : Type 0 where
  pub absent : (slot : ℕ) (b : Side) → section.listing ≡ None → section.reading.state ≡ Missed slot b
      → WasSaid (updates_of seen) section.key section.from None
  pub present : (slot parent value : ℕ) (b : Side) → section.listing ≡ None → section.reading.state ≡ Found slot parent b (Some value)
      → WasSaid (updates_of seen) section.key section.from (Some value)
  pub there : (slot parent : ℕ) (b : Side) → section.listing ≡ None → section.reading.state ≡ Found slot parent b None
      → IsIn section.reading.stood slot → section.reading.key ≡ section.key
      → (value : ℕ) × WasSaid (updates_of seen) section.key section.from (Some value)

-- after a section was left
pub record LeavesAnswer (v w : View) : Type 0 where
  pub answer : (section : Section) → v.section ≡ Some section → GivesAnswer w.seen section

-- After a load of a search: what the search has found by then, the dictionary said at some front since the section was entered. The marks
-- are all that there were at the load.
pub record FindsAnswer (w : View) (h : List Mark) : Type 0 where
  pub answer : (section : Section) → w.section ≡ Some section → GivesAnswer h section

-- After a wait was begun: the retired slots are the table's, and were unlinked before the latest mark.
pub record AreGone (k : Shape) (v w : View) : Type 0 where
  pub each : (r : Retired) → IsIn v.hands.retired r → (r.slot < slot_count k) × (r.unlinked + 1 < length w.seen)

-- the dictionary is as large as Full asks for, with the slots that the place has retired
abbrev pub IsFull : Shape → View → Type 0
IsFull k w = k.slots ≤ finite.len (map_of (updates_of w.seen)) + length w.hands.retired + (k.room + 4) * (k.places - 1)

-- after the free count was found
pub record FindsFull (k : Shape) (v : View) (found : ℕ) (w : View) : Type 0 where
  pub full : found ≡ 0 → v.moving ≡ None → v.hands.owes ≡ false → IsFull k w

-- No slot that is in hand or the spare is a retired one.
pub record IsApart (v : View) (slot : ℕ) : Type 0 where
  pub not_both : (held : Held) → IsInHand v held slot ⊎ IsSpare v held slot → (i : ℕ) (r : Retired) → IsRetiredAt v i r slot → ⊥

-- A slot that was found free was none of the place's own.
pub record WasNoOwn (v : View) (slot found : ℕ) : Type 0 where
  pub none : found ≡ 0 → times slot (slots_of v) ≡ 0

-- A lock that was found taken is another's, where the place doesn't hold it.
pub record IsOthers (v : View) (slot found : ℕ) : Type 0 where
  pub other : lock_of v.locks slot ≡ None → found ≢ v.allowance.place + 1

-- After an update: the front that was found shows how many updates there are.
pub record IsCounted (v w : View) : Type 0 where
  pub found : (commit : Commit) → v.commit ≡ Some commit → commit.found + 2 ≡ 2 * length (updates_of w.seen)

-- a value known under the lock of the slot is the one that the dictionary has for the key
abbrev pub KnowsValue : View → List Mark → ℕ → ℕ → Type 0
KnowsValue v h slot key = (value : ℕ) → known_in (known_under v slot) (Value slot) ≡ Some value → map_now h key ≡ Some value

-- The value loaded under the lock, where it is replaced or its node is taken out, is the one that the dictionary had.
pub record Changes (v w : View) (h : List Mark) (slot key : ℕ) : Type 0 where
  pub counted : IsCounted v w
  pub was : KnowsValue v h slot key

-- The same where a copy is linked in the node's place; and the spare's key is the next key that the dictionary had.
pub record Moves (v w : View) (h : List Mark) (node key next_key : ℕ) : Type 0 where
  pub counted : IsCounted v w
  pub was : KnowsValue v h node key
  pub next : IsNextKey (map_of (updates_of h)) key next_key

-- What a listing found is so of the dictionary now, after half as many updates as its number says, rounded down; the section saw fewer or
-- as many.
pub record IsListedNow (h : List Mark) (section : Section) (listing : Listing) : Type 0 where
  pub front : listing.front / 2 ≡ length (updates_of h)
  pub since : section.from ≤ length (updates_of h)
  pub facts : Each listing.facts (λ (f : Fact). map_now h f.key ≡ Some f.value)
  pub gaps : Each listing.gaps (λ (gap : Gap). (y : ℕ) → IsBetween gap y → map_now h y ≡ None)

-- After a look at the front: it finds the number to which the seat's open commit made it. After a later look that found what the first one
-- found: where that is even, or where the seat's commit is open and its update unmade.
pub record LooksAgain (v : View) (h : List Mark) (found : ℕ) : Type 0 where
  pub own : (commit : Commit) → v.commit ≡ Some commit → found ≡ commit.found + 1
  pub same : (section : Section) (listing : Listing) → v.section ≡ Some section → section.listing ≡ Some listing → IsEven found
      → found ≡ listing.front → IsListedNow h section listing
  pub held : (section : Section) (listing : Listing) (commit : Commit) → v.section ≡ Some section → section.listing ≡ Some listing
      → v.commit ≡ Some commit → commit.stored ≡ false → found ≡ listing.front → IsListedNow h section listing

-- After it was stored that the pairs moved: they hadn't before, and the front that was found shows how many updates there are, for good.
pub record MovesAll (v : View) (h : List Mark) : Type 0 where
  pub first : moves_in h ≡ 0
  pub found : (commit : Commit) → v.commit ≡ Some commit → commit.found ≡ 2 * length (updates_of h)

-- After a look whether they moved: the number found says it of all marks that there were.
abbrev pub FindsMoved : List Mark → ℕ → Type 0
FindsMoved h found = found ≡ moves_in h

-- When the seat was last joined with another, the marks of each one's places were those that it had seen itself.
pub record HaveMet (v : View) (h : List Mark) : Type 0 where
  pub each : Each v.allowance.met (HasMet h)

-- by the act, with the view before, all marks before, the number found and the view after
abbrev pub Gains : Shape → View → Act → List Mark → ℕ → View → Type 0
Gains k v LoadClock h found w = HaveMet v h
Gains k v LeaveByStamp h found w = LeavesAnswer v w
Gains k v (BeginWait low high) h found w = AreGone k v w
Gains k v (LoadRetiredLife slot) h found w = IsApart v slot
Gains k v (Reserve expected) h found w = FindsFull k v found w
Gains k v (Seize slot) h found w = WasNoOwn v slot found
Gains k v (TakeLock slot) h found w = IsOthers v slot found
Gains k v (SearchLoad slot p) h found w = FindsAnswer w h
Gains k v (LinkLeaf slot b leaf key value) h found w = IsCounted v w
Gains k v (Bypass parent b node child key) h found w = Changes v w h node key
Gains k v (LinkCopy parent b node copy old old_parent key next_key) h found w = Moves v w h node key next_key
Gains k v (LeaveByCount class side) h found w = LeavesAnswer v w
Gains k v (LeaveByRow class) h found w = LeavesAnswer v w
Gains k v (ReplaceValue slot key value) h found w = Changes v w h slot key
Gains k v LookAtFront h found w = LooksAgain v h found
Gains k v StoreMoved h found w = MovesAll v h
Gains k v LoadMoved h found w = FindsMoved h found
Gains k v _ h found w = Unit {0}

-- What is so of a seat between two steps.
-- Source: docs/TREE_CALLS.md, "The tree's table".

-- The numbers that a seat keeps when the program runs.
pub record Numbers : Type 0 where
  pub place : ℕ
  pub places : ℕ
  pub tickets : ℕ
  pub key : Option ℕ
  pub stamp : ℕ
  pub hand : Option ℕ
  pub spare : Option ℕ
  pub waits : ℕ
  pub turns : ℕ
  pub free : ℕ
  pub front : ℕ

-- They are those of its view, which works at a place of the table, and of which the rule told this.
pub record IsSeat (way : ℕ) (t : TableAt) (n : Numbers) (v : View) : Type 0 where
  pub room : HasPlace t v
  pub side : HasSide (shape_of way t) v
  pub told : TellsNow (shape_of way t) v
  pub few : HasFew v
  pub place : v.allowance.place ≡ n.place
  pub places : v.allowance.places ≡ n.places
  pub tickets : v.allowance.tickets ≡ n.tickets
  pub key : IsInside n.key v.section
  pub stamp : IsStamp n.stamp v.section
  pub hand : IsSlotOf n.hand v.hands.hand
  pub spare : IsSlotOf n.spare v.hands.spare
  pub waits : v.counts.waits ≡ n.waits
  pub turns : v.counts.turns ≡ n.turns
  pub free : IsLastFound t.slots n.free v.latest.free
  pub front : IsLastFound 0 n.front v.latest.front

-- What a step tells.
-- Source: docs/TREE_CALLS.md, "What a step sees".

-- What a call asks for an act may rest on what the rule tells of the view.
abbrev pub IsAsked : Shape → View → Act → Type 0
IsAsked k v a = TellsNow k v → Asks k v a

-- The step was made with some list of all marks, of which the seat's marks are a beginning: the view went on as its act says, and
-- what it gained from the rule; with these marks, what the rule told of the view before.
pub record Told (k : Shape) (v : View) (a : Act) (found : ℕ) (w : View) : Type 0 where
  pub marks : List Mark
  pub sees : Sees v marks
  pub goes : w ≡ after (noted v a found) a marks found
  pub informed : IsInformed w
  pub fits : WordFits k (field_of v.allowance.place a) found
  pub gains : Gains k v a marks found w
  pub stood : StoodInside k w
  pub side : HasSide k w
  pub before : TellsBefore k v a marks found
  pub stays : StaysIn k w

-- What an access asks: the word and the access are those of the act, which may be made.
pub record Touches (way : ℕ) (t : TableAt) (v : View) (a : Act) (access : Access) (word : Field) : Type 0 where
  pub room : HasPlace t v
  pub at : word ≡ field_of v.allowance.place a
  pub does : access_of v.allowance.place a ≡ access
  pub asks : Asks (shape_of way t) v a

abbrev pub tells : Shape → Act → Me Nothing View → ℕ → Me Nothing View → Type 0
tells k a me found me' = (me'.1 ≡ me.1) × TellsNow k me'.0 × Told k me.0 a found me'.0

abbrev pub told : Shape → Act → Step Nothing → Me Nothing View → ℕ → Me Nothing View → Type 0
told k a st = tells k a

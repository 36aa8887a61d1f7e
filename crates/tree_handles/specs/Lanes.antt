-- What lanes hold, and what is answered where they are opened and look up many keys.
-- Source: docs/TREE_CALLS.md, "The calls".
use Rattle.std.specs.Prelude.{◌≡◌, ◌⊎◌, ℕ, ◌<◌, ◌≤◌, true, List, [], ◌∷◌, ◌++◌, length, map, drop, Option, Some, None}
use Rattle.core_state.specs.declared.view.View.{View}
use Rattle.core_state.specs.Steps.{first_of, second_of}
use Rattle.list_laws.specs.Counts.{Each}
use Rattle.many_gets.specs.Many.{LooksUpAll}
use Rattle.seat_table.specs.Seats.{ListedAt, SeatAt, TableAt, IsEmptyFor, IsQuietSeat, shape_of}
use Rattle.tree_handles.specs.Callers.{CallerAt, IsSameCaller, MayGoOn}
use Rattle.tree_handles.specs.Calls.{StaysInside}
use Rattle.tree_handles.specs.Lists.{IsLeft}
use Rattle.tree_handles.specs.declared.answers.Answer.{Answer}
use Rattle.tree_handles.specs.declared.status.Status.{Status}
use Rattle.tree_handles.specs.declared.status.Status.TheVariants.{Done, Closed, BadArgument, NoMemory, Lost, Holds}

-- what a clause sees of lanes: the number of their waiter, their table, and the seat of each lane
pub record LanesAt : Type 0 where
  pub way : ℕ
  pub table : TableAt
  pub seats : List SeatAt

-- what is held where there may be no place for lanes, or none in it
abbrev pub lanes_in : Option (Option LanesAt) → Option LanesAt
lanes_in (Some lanes) = lanes
lanes_in None = None

-- The seats, 1 to 8, are of the table.
pub record AreSeated (table : TableAt) (seats : List SeatAt) : Type 0 where
  pub some : 1 ≤ length seats
  pub few : length seats ≤ 8
  pub tables : Each seats (λ (s : SeatAt). s.table ≡ table)

-- The lanes may look up: their seats are of their table, and quiet.
pub record MayLookUp (l : LanesAt) : Type 0 where
  pub seated : AreSeated l.table l.seats
  pub quiet : Each l.seats IsQuietSeat

-- So many lists are empty, each with all the room of a place of the table.
pub record AreEmptyFor (t : TableAt) (count : ℕ) (lists : List ListedAt) : Type 0 where
  pub count_is : length lists ≡ count
  pub each : Each lists (IsEmptyFor t)

-- From the first view these seats were split off one after another, each with one place and no ticket.
abbrev pub AreSplitOff : View → List SeatAt → View → Type 0
AreSplitOff v [] w = w ≡ v
AreSplitOff v (s ∷ seats) w = (s.view ≡ second_of 1 0 v) × AreSplitOff (first_of 1 0 v) seats w

-- The caller gave so many of its unused handles to lanes, one to each. The lanes have seen what the caller has.
pub record HasLanes (c : CallerAt) (count : ℕ) (d : CallerAt) (l : LanesAt) : Type 0 where
  pub index : IsSameCaller c d
  pub way : l.way ≡ c.way
  pub table : l.table ≡ c.table
  pub count_is : length l.seats ≡ count
  pub seats : AreSplitOff c.seat.view l.seats d.seat.view
  pub caller_may : MayGoOn d
  pub lanes_may : MayLookUp l

-- So many lanes, 1 to 8, can be opened where none are open: the caller has so many unused handles.
pub record CanOpenLanes (c : CallerAt) (count : ℕ) (was : Option LanesAt) : Type 0 where
  pub closed : was ≡ None
  pub some : 1 ≤ count
  pub few : count ≤ 8
  pub handles : count < c.seat.view.allowance.places

-- What is answered where lanes are opened, of the caller, and of the lanes that there are before and after.
abbrev pub OpensLanes : CallerAt → ℕ → Option LanesAt → Status → CallerAt → Option LanesAt → Type 0
OpensLanes c count was Done d after = (l : LanesAt) × CanOpenLanes c count was × (after ≡ Some l) × HasLanes c count d l
OpensLanes c count was BadArgument d after = (CanOpenLanes c count was → ⊥) × IsLeft c d × (after ≡ was)
OpensLanes c count was NoMemory d after = CanOpenLanes c count was × IsLeft c d × (after ≡ was)
OpensLanes c count was Lost d after = (c.lost ≡ true) × (d ≡ c) × (after ≡ was)
OpensLanes c count was Holds d after = StaysInside c d × (after ≡ was)
OpensLanes c count was _ d after = ⊥

-- Each of the keys was looked up by one of the lanes, and this was found of them. The lanes may look up more.
pub record HaveLookedUp (l : LanesAt) (keys : List ℕ) (found : List (Option ℕ)) (m : LanesAt) : Type 0 where
  pub way : m.way ≡ l.way
  pub table : m.table ≡ l.table
  pub before : MayLookUp l
  pub room : length found ≡ length keys
  pub same_count : length m.seats ≡ length l.seats
  pub looked_up : LooksUpAll (shape_of l.way l.table) keys found l.seats m.seats
  pub after : MayLookUp m

-- what was found of a key, as it is written
abbrev pub answer_of : Option ℕ → Answer
answer_of (Some value) = record { value = value; found = 1 }
answer_of None = record { value = 0; found = 0 }

-- What was found was written at the beginning, at the same indices, and the rest is as it was.
abbrev pub WritesAnswers : List Answer → List (Option ℕ) → List Answer → Type 0
WritesAnswers was found out = out ≡ map answer_of found ++ drop (length found) was

-- What many gets answer. `was` is what stood where they are told. They come to an end whatever others do. It is a bad argument where there is room for fewer answers than keys.
abbrev pub GetsMany : LanesAt → List ℕ → List Answer → Status → List Answer → LanesAt → Type 0
GetsMany l keys was Done out m = (found : List (Option ℕ)) × HaveLookedUp l keys found m × WritesAnswers was found out
GetsMany l keys was BadArgument out m = (length was < length keys) × (m ≡ l) × (out ≡ was)
GetsMany l keys was NoMemory out m = (length keys ≤ length was) × (m ≡ l) × (out ≡ was)
GetsMany l keys was _ out m = ⊥

-- No lanes are there, which the status says, and nothing was written.
pub record AreClosed (before : Option LanesAt) (was : List Answer) (status : Status) (out : List Answer) (after : Option LanesAt) : Type 0 where
  pub none : before ≡ None
  pub still : after ≡ None
  pub says : status ≡ Closed
  pub unwritten : out ≡ was

-- The lanes that are there looked up the keys, and are there still.
pub record AreOpen (before : Option LanesAt) (keys : List ℕ) (was : List Answer) (status : Status) (out : List Answer)
    (after : Option LanesAt) : Type 0 where
  pub first : LanesAt
  pub second : LanesAt
  pub some : before ≡ Some first
  pub still : after ≡ Some second
  pub got : GetsMany first keys was status out second

-- What many gets answer, of the lanes that there are before and after.
abbrev pub ManyGets : Option LanesAt → List ℕ → List Answer → Status → List Answer → Option LanesAt → Type 0
ManyGets before keys was status out after = AreClosed before was status out after ⊎ AreOpen before keys was status out after

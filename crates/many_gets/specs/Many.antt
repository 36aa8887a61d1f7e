-- Many lookups by lanes: what they make of the seats, and where the lanes stand.
-- What many lookups make of the seats that make them, and what they answer.
-- Source: docs/TREE_CALLS.md, "The calls".
use Rattle.std.specs.Prelude.{◌≡◌, ℕ, zero, suc, ◌+◌, ◌*◌, ◌<◌, ◌≤◌, List, length, slice_index, slice_index_or, Option, None, Bool, true, false, Some}
use mathlib.Core.Option.{some}
use lib.ListN.{get_elem?}
use Rattle.core_state.specs.declared.shape.Shape.{Shape}
use Rattle.core_state.specs.declared.view.View.{View}
use Rattle.list_laws.specs.Counts.{total}
use Rattle.seat_table.specs.Seats.{SeatAt, TableAt, IsQuietSeat, shape_of}
use Rattle.citrus_tree.specs.Hops.{EndsWithin, KeepsPace, slots_met, LooksAhead}
use Rattle.citrus_tree.specs.Lookups.{Looked, IsSearching}
use Rattle.prcu_marks.specs.declared.mark.Side.{Side}
use Rattle.core_state.specs.Memory.{slot_count}
use Rattle.seat_table.specs.Gains.{IsSlot}
use Rattle.many_gets.specs.declared.lane.Lane.{Lane}
use Rattle.core_state.specs.declared.view.SearchState.TheVariants as at

-- The key of that index was looked up, and its answer stands there. The lookup made at most three steps for each slot of the table, and four.
pub record LooksUpAt (k : Shape) (keys : List ℕ) (answers : List (Option ℕ)) (index : ℕ) (v w : View) : Type 0 where
  pub within : index < length keys
  pub looked : Looked v (slice_index keys index) (slice_index_or answers index None) w
  pub few : EndsWithin k 4 v w

-- So many keys were looked up one after another: the first at the seat's number, and each as many further on as there are seats.
abbrev pub LooksUpEach : Shape → List ℕ → List (Option ℕ) → ℕ → ℕ → ℕ → View → View → Type 0
LooksUpEach k keys answers seats number zero v w = w ≡ v
LooksUpEach k keys answers seats number (suc count) v w =
    (u : View) × LooksUpEach k keys answers seats number count v u × LooksUpAt k keys answers (count * seats + number) u w

-- Each seat looked up all keys of its own. So each key was looked up by one of them, once.
abbrev pub LooksUpAll : Shape → List ℕ → List (Option ℕ) → List SeatAt → List SeatAt → Type 0
LooksUpAll k keys answers before after = (number : ℕ) (s t : SeatAt) → get_elem? before number ≡ some s → get_elem? after number ≡ some t
    → (count : ℕ) × (length keys ≤ count * length before + number)
    × LooksUpEach k keys answers (length before) number count s.view t.view

-- The seats are still of their tables, with the retired slots that they listed.
abbrev pub AreKept : List SeatAt → List SeatAt → Type 0
AreKept before after = (number : ℕ) (s t : SeatAt) → get_elem? before number ≡ some s → get_elem? after number ≡ some t
    → (t.table ≡ s.table) × (t.listed ≡ s.listed)

-- how many steps they have made together
abbrev pub steps_of : List SeatAt → ℕ
steps_of seats = total (λ (s : SeatAt). length s.view.trail.steps) seats

-- Where the lanes stand while keys are being looked up.
-- Source: docs/TREE_CALLS.md, "The calls".

-- The search of an open section is over: it came to a slot with the key, or to an empty side.
abbrev pub HasCome : Shape → Option ℕ → View → ℕ → View → Type 0
HasCome k (Some holder) v key w = IsSlot k holder × EndsWithin k 2 v w
    × ((parent : ℕ) × (side : Side) × IsSearching v key (at.Found holder parent side None) w)
HasCome k None v key w = EndsWithin k 2 v w × ((slot : ℕ) × (side : Side) × IsSearching v key (at.Missed slot side) w)

-- Or it goes on by a link that was loaded, after at most three steps for each slot at which it has stood.
pub record LooksOn (k : Shape) (ahead : ℕ) (v : View) (key : ℕ) (w : View) : Type 0 where
  pub looks : LooksAhead k v key ahead w
  pub pace : KeepsPace v looks.before
  pub few : slots_met looks.before ≤ slot_count k

-- From the seat s a section was entered with the key of that index, and its search has come so far.
pub record Sought (keys : List ℕ) (index : ℕ) (s : SeatAt) (far : View → ℕ → View → Type 0) (t : SeatAt) : Type 0 where
  pub within : index < length keys
  pub same_table : t.table ≡ s.table
  pub same_list : t.listed ≡ s.listed
  pub search : far s.view (slice_index keys index) t.view

-- The same, by a link that was loaded; or there is no such key, and nothing was done.
abbrev pub StandsAt : Shape → List ℕ → ℕ → SeatAt → Bool → ℕ → ℕ → SeatAt → Type 0
StandsAt k keys index s false key ahead t = (length keys ≤ index) × (t ≡ s)
StandsAt k keys index s true key ahead t =
    (key ≡ slice_index keys index) × Sought keys index s (LooksOn k ahead) t

abbrev pub IsAt : ℕ → TableAt → List ℕ → ℕ → SeatAt → Lane → SeatAt → Type 0
IsAt way table keys index s lane t = StandsAt (shape_of way table) keys index s lane.searches lane.key lane.ahead t

-- The seat looked up the key of that index, and the answer stands there.
pub record HasGot (k : Shape) (keys : List ℕ) (answers : List (Option ℕ)) (index : ℕ) (s t : SeatAt) : Type 0 where
  pub same_table : t.table ≡ s.table
  pub same_list : t.listed ≡ s.listed
  pub looked_up : LooksUpAt k keys answers index s.view t.view

-- Since it was s the seat of this number, of so many, has looked up some of its keys, and is at the next one now.
pub record IsLane (way : ℕ) (table : TableAt) (keys : List ℕ) (answers : List (Option ℕ)) (seats number : ℕ) (s : SeatAt) (lane : Lane)
    (t : SeatAt) : Type 0 where
  pub count : ℕ
  pub index_is : lane.index ≡ count * seats + number
  pub last : SeatAt
  pub quiet : IsQuietSeat last
  pub same_table : last.table ≡ s.table
  pub same_list : last.listed ≡ s.listed
  pub looked_up : LooksUpEach (shape_of way table) keys answers seats number count s.view last.view
  pub at : IsAt way table keys lane.index last lane t

-- So it is of all seats.
pub record AreLanes (way : ℕ) (table : TableAt) (keys : List ℕ) (answers : List (Option ℕ)) (before : List SeatAt) (lanes : List Lane)
    (after : List SeatAt) : Type 0 where
  pub same_count : length before ≡ length after
  pub room : length answers ≡ length keys
  pub each : (number : ℕ) (s : SeatAt) (lane : Lane) (t : SeatAt) → get_elem? before number ≡ some s → get_elem? lanes number ≡ some lane
      → get_elem? after number ≡ some t → IsLane way table keys answers (length before) number s lane t

-- No search is under way, of so many lanes.
abbrev pub AreOver : ℕ → List Lane → Type 0
AreOver count lanes = (number : ℕ) (lane : Lane) → number < count → get_elem? lanes number ≡ some lane → lane.searches ≡ false

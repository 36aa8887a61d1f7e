-- Searches: what one is told, hop by hop, and how many steps it makes at most.
use base.Fml.{GName}
use denote.MutBor.{MutBor}
use Rattle.std.specs.Prelude.{◌≡◌, ◌≢◌, ℕ, Some, None, ◌+◌, ◌*◌, ◌≤◌, length, Option}
use Rattle.prcu_marks.specs.declared.mark.Side.{Side}
use Rattle.prcu_marks.specs.declared.mark.Side.TheVariants.{Left, Right}
use Rattle.core_state.specs.declared.shape.Shape.{Shape}
use Rattle.core_state.specs.declared.words.Field.TheVariants.{Tag}
use Rattle.core_state.specs.declared.view.Reading.{Reading}
use Rattle.core_state.specs.declared.view.SearchState.{SearchState}
use Rattle.core_state.specs.declared.view.View.{View}
use Rattle.core_state.specs.Views.{known_in, LoadedGeneration}
use Rattle.core_state.specs.Memory.{step_side, slot_count}
use Rattle.core_points.specs.declared.stage.Spot.{Spot}
use Rattle.core_state.specs.declared.act.Act.TheVariants.{SearchLoad}
use Rattle.seat_table.specs.Gains.{IsSlot, Told, AreFew}
use Rattle.seat_table.specs.Seats.{SeatAt, TableAt, shape_of}
use Rattle.citrus_tree.specs.declared.descent.Step.{Step}
use Rattle.citrus_tree.specs.declared.search.Hop.{Hop}
use Rattle.citrus_tree.specs.declared.search.Hop.TheVariants.{Moved, Found, Ended}
use Rattle.citrus_tree.specs.declared.search.Search.{Search}
use Rattle.citrus_tree.specs.declared.search.End.{End}
use Rattle.citrus_tree.specs.declared.search.End.TheVariants.{Hit, Missing}
use Rattle.citrus_tree.specs.Lookups.{IsSearching, Looked}
use Rattle.core_state.specs.declared.view.Section.{Section}
use Rattle.seat_table.specs.Sections.{HasMadeAtMost}
use Rattle.core_state.specs.declared.view.SearchState.TheVariants as at
use Rattle.core_state.specs.declared.act.Part.TheVariants as part
use Rattle.citrus_tree.specs.declared.descent.Step.TheVariants as step

-- What a search is told, hop by hop.
-- Source: docs/TREE_CALLS.md, "The calls".

-- What a clause sees of a search: the table, the seat that takes its steps and the reference by which it was lent, the sought key, the slot
-- and the side at which it stands, and what its last hop came to.
pub record SearchAt : Type 0 where
  pub table : TableAt
  pub seat : SeatAt
  pub lender : GName
  pub key : ℕ
  pub slot : ℕ
  pub side : Side
  pub last : Hop

abbrev pub search_at : {W : Type 0} → Search W → SearchAt
search_at s = record {
  table = s.table.now;
  seat = s.seat.now;
  lender = s.seat.ghost_name;
  key = s.key;
  slot = s.slot;
  side = s.side;
  last = s.last;
}

-- the seat as a search left it that is over, by the references that were in it
abbrev pub seat_left : {A X : Type 0} → A × (MutBor SeatAt × X) → SeatAt
seat_left (table, (seat, rest)) = seat.now

-- where a search stands that went on from a slot and a side
abbrev pub state_after : ℕ → Side → Step → SearchState
state_after s b (step.Moved c d) = at.At c d
state_after s b (step.Found c) = at.Found c s b None
state_after s b step.Ended = at.Missed s b

-- of two links that of a side
abbrev pub link_on : Side → ℕ → ℕ → ℕ
link_on Left left right = left
link_on Right left right = right

-- Both links of a slot were loaded, the left one first. That of the side is n.
pub record LoadsLinks (k : Shape) (v : View) (s : ℕ) (b : Side) (n : ℕ) (w : View) : Type 0 where
  pub left : ℕ
  pub right : ℕ
  pub between : View
  pub left_told : Told k v (SearchLoad s (part.Link Left)) left between
  pub right_told : Told k between (SearchLoad s (part.Link Right)) right w
  pub link_is : link_on b left right ≡ n

-- From the view v a section with the key was entered. Its search came to a side of a slot, and both links of the slot were loaded: that of
-- the side is n.
pub record LooksAhead (k : Shape) (v : View) (key n : ℕ) (w : View) : Type 0 where
  pub slot : ℕ
  pub side : Side
  pub before : View
  pub is_slot : IsSlot k slot
  pub searching : IsSearching v key (at.At slot side) before
  pub loads : LoadsLinks k before slot side n w

-- What a step down loads: the links of a slot, of which that of the side leads to a slot, and that slot's key, which is another or the
-- sought one; or links of which that of the side is 0.
abbrev pub Loads : Shape → View → ℕ → ℕ → Side → Step → View → Type 0
Loads k v key s b (step.Moved c d) w = (c ≢ 0)
    × ((u : View) × (there : ℕ) × LoadsLinks k v s b c u × Told k u (SearchLoad c part.Key) there w × (step_side key there ≡ Some d))
Loads k v key s b (step.Found c) w = (c ≢ 0) × ((u : View) × LoadsLinks k v s b c u × Told k u (SearchLoad c part.Key) key w)
Loads k v key s b step.Ended w = LoadsLinks k v s b 0 w

-- From the view v a section with the key was entered. Where its search stands, by what its last hop came to.
abbrev pub Stands : Shape → View → ℕ → Hop → ℕ → Side → View → Type 0
Stands k v key Moved s b w = IsSlot k s × IsSearching v key (at.At s b) w
Stands k v key (Found c) s b w = (c ≡ s) × IsSlot k c × ((p : ℕ) × (d : Side) × IsSearching v key (at.Found c p d None) w)
Stands k v key (Ended c d) s b w = (c ≡ s) × (d ≡ b) × IsSlot k c × IsSearching v key (at.Missed c d) w

-- the same of a search, by the number of its table's waiter
abbrev pub IsSearch : ℕ → View → SearchAt → Type 0
IsSearch way v search = Stands (shape_of way search.table) v search.key search.last search.slot search.side search.seat.view

-- What a hop loads, by where it stood before and stands afterwards.
abbrev pub Hops : Shape → View → ℕ → ℕ → Side → Hop → ℕ → Side → View → Type 0
Hops k v key s b Moved c d w = Loads k v key s b (step.Moved c d) w
Hops k v key s b (Found slot) c d w = (slot ≡ c) × Loads k v key s b (step.Found c) w
Hops k v key s b (Ended slot side) c d w = (slot ≡ s) × (side ≡ b) × Loads k v key s b step.Ended w

-- the same of a search before the hop and after it
abbrev pub HasHopped : ℕ → SearchAt → Hop → SearchAt → Type 0
HasHopped way before hop after =
    Hops (shape_of way before.table) before.seat.view before.key before.slot before.side hop after.slot after.side after.seat.view

-- The section recorded the empty side.
pub record Records (r : Reading) (spot : Spot) : Type 0 where
  pub state_is : r.state ≡ at.Missed spot.slot spot.side
  pub generation_is : LoadedGeneration r spot.slot spot.generation
  pub tag_is : known_in r.loads (Tag spot.slot spot.side) ≡ Some spot.tag

-- The section was left, and the dictionary gave what the search came to at a front in between.
abbrev pub Finishes : View → ℕ → End → View → Type 0
Finishes v key (Hit value) w = Looked v key (Some value) w
Finishes v key (Missing spot) w = (looked : Looked v key None w) × Records looked.reading spot

-- How many steps a lookup makes at most, whatever steps others make meanwhile.
-- Source: docs/TREE.md, "Why a get comes to its end".

-- at how many slots a section has stood
abbrev pub slots_in : Option Section → ℕ
slots_in None = 0
slots_in (Some section) = length section.reading.stood

abbrev pub slots_met : View → ℕ
slots_met v = slots_in v.section

-- whether a step down came to a slot more
abbrev pub slots_of : Step → ℕ
slots_of (step.Moved slot side) = 1
slots_of (step.Found slot) = 1
slots_of step.Ended = 0

-- A step down made two loads, and where it came to a slot a third. The search has stood at no more slots than the table has.
pub record Costs (k : Shape) (v : View) (step : Step) (w : View) : Type 0 where
  pub loads : length w.trail.steps ≡ length v.trail.steps + 2 + slots_of step
  pub met : slots_met w ≡ slots_met v + slots_of step
  pub few : AreFew k (slots_met w)

-- Since v there were at most three steps for each slot at which the open section has stood.
pub record KeepsPace (v w : View) : Type 0 where
  pub pace : length w.trail.steps ≤ length v.trail.steps + 3 * slots_met w

-- Between the two views at most three steps were made for each slot of the table, and so many more.
abbrev pub EndsWithin : Shape → ℕ → View → View → Type 0
EndsWithin k more = HasMadeAtMost (3 * slot_count k + more)

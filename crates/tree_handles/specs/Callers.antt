-- What a handle leads to, calls through it, and the numbers of their statuses.
-- What a handle leads to.
-- Source: docs/TREE_CALLS.md, "The tree's table".
use Rattle.std.specs.Prelude.{◌≡◌, ℕ, ◌+◌, ◌-◌, ◌*◌, ◌<◌, ◌≤◌, Bool, false, if◌then◌else◌, Option, Some, None, ◌⊎◌, ℤ, pos, negsuc}
use Rattle.prcu_marks.specs.Marks.{most_tickets, updates_of}
use Rattle.prcu_model.specs.Dictionary.{map_of}
use Rattle.core_state.specs.declared.view.Section.{Section}
use Rattle.core_state.specs.Steps.{first_of, second_of}
use Rattle.seat_table.specs.Seats.{fresh_seat, SeatAt, TableAt, IsQuietSeat}
use Rattle.seat_table.specs.Sections.{IsQuietButSection}
use Rattle.grace_cookie.specs.Cookies.{CookieAt}
use Rattle.tree_handles.specs.declared.status.Status.{Status}
use Rattle.tree_handles.specs.declared.status.Status.TheVariants.{Closed, Done, Unchanged, Full, More, Moved, New, Different, Busy, BadArgument, NoMemory, Spent, Lost, Holds}
use Rattle.std.specs.FinMap as finite

-- what a clause sees of a caller: the number of its waiter, its table, the salt by which the index's nodes rise, its seat, whether a call of
-- it gave up, the cookie of the wait that its user may ask about, and its keeper, a cookie of its own by which it gives slots back
pub record CallerAt : Type 0 where
  pub way : ℕ
  pub table : TableAt
  pub salt : ℕ
  pub seat : SeatAt
  pub lost : Bool
  pub cookie : Option CookieAt
  pub keeper : Option CookieAt

-- Both are callers of one index.
pub record AreOfOneIndex (c d : CallerAt) : Type 0 where
  pub way : d.way ≡ c.way
  pub table : d.table ≡ c.table
  pub salt : d.salt ≡ c.salt

-- The second is the first one later on: a caller of the same index, with the same cookie to ask about.
pub record KeepsCookie (c d : CallerAt) : Type 0 where
  pub way : d.way ≡ c.way
  pub table : d.table ≡ c.table
  pub salt : d.salt ≡ c.salt
  pub cookie : d.cookie ≡ c.cookie

-- The same, with the same keeper too.
pub record IsSameCaller (c d : CallerAt) : Type 0 where
  pub way : d.way ≡ c.way
  pub table : d.table ≡ c.table
  pub salt : d.salt ≡ c.salt
  pub cookie : d.cookie ≡ c.cookie
  pub keeper : d.keeper ≡ c.keeper

-- the keeper that stays beside a wait of the user: one that is over; a later wait gives up any other
abbrev pub if_over : Option CookieAt → Option CookieAt
if_over None = None
if_over (Some c) = if c.over then Some c else None

-- The keeper is there still; or there is none any more, since the place has begun a wait: a later one gives it up, and its slots may have gone
-- back by one.
abbrev pub StaysUnlessGone : Option CookieAt → SeatAt → Option CookieAt → SeatAt → Type 0
StaysUnlessGone keeper s left t = (left ≡ keeper) ⊎ ((left ≡ None) × (s.view.counts.waits < t.view.counts.waits))

-- So it is of a caller that isn't lost.
pub record KeepsKeeper (c d : CallerAt) : Type 0 where
  pub kept : d.lost ≡ false → StaysUnlessGone c.keeper c.seat d.keeper d.seat

-- The caller may go on: it isn't lost, and its seat is one of its table, and quiet.
pub record MayGoOn (c : CallerAt) : Type 0 where
  pub kept : c.lost ≡ false
  pub seat : c.seat.table ≡ c.table
  pub quiet : IsQuietSeat c.seat

-- The caller is in a section, and could go on but for that.
pub record IsInside (c : CallerAt) : Type 0 where
  pub kept : c.lost ≡ false
  pub seat : c.seat.table ≡ c.table
  pub quiet : IsQuietButSection c.seat
  pub inside : (section : Section) × (c.seat.view.section ≡ Some section)

-- how many pairs always fit: the slots, less what each place but one may keep from it, its room for retired slots and four
abbrev pub pairs_that_fit : TableAt → ℕ
pairs_that_fit table = table.slots - (table.room + 4) * (table.places - 1)

-- The dictionary, as the caller has seen it, has as many pairs as always fit, or more.
pub record IsFilled (c : CallerAt) : Type 0 where
  pub pairs : pairs_that_fit c.table ≤ finite.len (map_of (updates_of c.seat.view.seen))

-- how many slots it takes that so many pairs always fit, for so many handles, each of which may keep back so many retired slots and four
abbrev pub slots_for : ℕ → ℕ → ℕ → ℕ
slots_for pairs handles keep = pairs + (keep + 4) * handles

-- The first caller of a new index with this waiter and salt, in which so many pairs always fit, and as many more as one handle may keep back,
-- for so many handles, with all tickets. A place may hold back so many retired slots.
pub record IsFresh (way pairs handles keep salt : ℕ) (c : CallerAt) : Type 0 where
  pub way_is : c.way ≡ way
  pub salt_is : c.salt ≡ salt
  pub slots_are : c.table.slots ≡ slots_for pairs handles keep
  pub pairs_are : pairs_that_fit c.table ≡ pairs + (keep + 4)
  pub handles_are : c.table.places ≡ handles
  pub room_is : c.table.room ≡ keep
  pub tickets_are : c.table.tickets ≡ most_tickets
  pub seat_is : c.seat ≡ fresh_seat way c.table
  pub cookie_is : c.cookie ≡ None
  pub keeper_is : c.keeper ≡ None
  pub may : MayGoOn c

-- A caller became two. The second has the last of the unused handles, so many, and so many of the tickets, and has seen what the first has.
-- It has no cookie and no keeper.
pub record IsShared (c : CallerAt) (handles tickets : ℕ) (d other : CallerAt) : Type 0 where
  pub first_index : IsSameCaller c d
  pub second_index : AreOfOneIndex c other
  pub first : d.seat.view ≡ first_of handles tickets c.seat.view
  pub second : other.seat.view ≡ second_of handles tickets c.seat.view
  pub cookie : other.cookie ≡ None
  pub keeper : other.keeper ≡ None
  pub first_may : MayGoOn d
  pub second_may : MayGoOn other

-- Another caller of the index has a seat that a closed caller left. That it is of this table, and quiet, is all that the rule of the cells
-- tells of the seats there: whose it was isn't told, nor what it has.
pub record IsReopened (c other : CallerAt) : Type 0 where
  pub index : AreOfOneIndex c other
  pub cookie : other.cookie ≡ None
  pub keeper : other.keeper ≡ None
  pub may : MayGoOn other

-- Calls through a handle.
-- Source: docs/EMBEDDING.md, "Statuses".

-- The handle holds nothing, which the status says, and holds nothing afterwards.
pub record IsClosed (before : Option CallerAt) (status : Status) (after : Option CallerAt) : Type 0 where
  pub was : before ≡ None
  pub is : after ≡ None
  pub says : status ≡ Closed

-- The handle holds a caller, of which this call was made, and holds what the call left of it.
pub record IsOpen (call : CallerAt → CallerAt → Type 0) (before after : Option CallerAt) : Type 0 where
  pub first : CallerAt
  pub second : CallerAt
  pub was : before ≡ Some first
  pub is : after ≡ Some second
  pub made : call first second

-- The call was made of what the handle holds, or it is closed.
abbrev pub Makes : (CallerAt → CallerAt → Type 0) → Option CallerAt → Status → Option CallerAt → Type 0
Makes call before status after = IsClosed before status after ⊎ IsOpen call before after

-- The numbers of the statuses.
-- Source: docs/EMBEDDING.md, "Statuses".

abbrev pub code_of : Status → ℤ
code_of Done = pos 0
code_of Unchanged = pos 1
code_of Full = pos 2
code_of More = pos 3
code_of Moved = pos 4
code_of New = pos 5
code_of Different = pos 6
code_of Busy = pos 7
code_of Closed = negsuc 0
code_of BadArgument = negsuc 1
code_of NoMemory = negsuc 2
code_of Spent = negsuc 3
code_of Lost = negsuc 4
code_of Holds = negsuc 5

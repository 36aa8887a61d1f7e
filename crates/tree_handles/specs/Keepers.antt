-- The cookies of a caller: the one that its user may ask about, and its keeper, by which it gives retired slots back without waiting.
-- What is done about the keeper before an update.
-- Source: docs/TREE_CALLS.md, "Cookies".
use Rattle.std.specs.Prelude.{◌≡◌, ◌≢◌, ◌⊎◌, ℕ, ◌+◌, ◌-◌, ◌*◌, ◌/◌, ◌<◌, ◌≤◌, ◌==◌, if◌then◌else◌, true, false, min, List, [], ◌∷◌, length, Option, Some, None}
use Rattle.prcu_marks.specs.declared.mark.Mark.{Mark}
use Rattle.prcu_marks.specs.declared.mark.Mark.TheVariants.{Ended}
use Rattle.prcu_marks.specs.Marks.{greatest_key}
use Rattle.core_state.specs.declared.shape.Shape.{Shape}
use Rattle.core_state.specs.declared.view.Held.{Held}
use Rattle.core_state.specs.declared.view.View.{View}
use Rattle.seat_table.specs.Sections.{HasBegun}
use Rattle.seat_table.specs.Seats.{IsLastFound, SeatAt, shape_of}
use Rattle.tree_points.specs.Points.{HasAdvanced}
use Rattle.grace_cookie.specs.declared.answers.Ask.{Ask}
use Rattle.grace_cookie.specs.declared.answers.Ask.TheVariants.{Over, NotYet, GivenUp}
use Rattle.citrus_tree.specs.declared.insert.Reuse.{Reuse}
use Rattle.grace_cookie.specs.Cookies.{CookieAt, everybody, IsOf, HasKept, IsSameCookie, Asked, GivesFirst, less_one}
use Rattle.tree_handles.specs.Callers.{CallerAt, KeepsCookie, MayGoOn}
use Rattle.citrus_tree.specs.declared.insert.Reuse.TheVariants as reuse

-- The cookie of a caller, if it has one, wasn't found over, and is of the seat that knows this.
pub record HasCookie (k : Shape) (cookie : Option CookieAt) (v : View) : Type 0 where
  pub each : (c : CookieAt) → cookie ≡ Some c → (c.over ≡ false) × IsOf k c v

-- The keeper, if there is one, is for everybody and of this seat, and what was retired at its start is kept.
pub record HasKeeper (k : Shape) (keeper : Option CookieAt) (s : SeatAt) : Type 0 where
  pub each : (c : CookieAt) → keeper ≡ Some c → IsOf k c s.view × HasKept c s × (c.keys ≡ everybody)

-- The same of both, which are of two waits of the place.
pub record HasCookies (k : Shape) (cookie keeper : Option CookieAt) (s : SeatAt) : Type 0 where
  pub of_user : HasCookie k cookie s.view
  pub of_caller : HasKeeper k keeper s
  pub apart : (c other : CookieAt) → keeper ≡ Some c → cookie ≡ Some other → other.count ≢ c.count

-- The keeper is under way: its wait isn't over.
abbrev pub IsUnderWay : Option CookieAt → Type 0
IsUnderWay keeper = (c : CookieAt) × (keeper ≡ Some c) × (c.over ≡ false)

-- so many slots go back at a time, at most
abbrev pub most_given : ℕ
most_given = 256

-- with so many slots kept back none stays for inserts: with three quarters of the room, where that is less than 48
abbrev pub many_to_stay : ℕ → ℕ
many_to_stay room = min 48 (room - room / 4)

-- The slots of a keeper that is over may stay for inserts of its handle: few are kept back, and the handle last found 48 free or more.
pub record MayStay (s : SeatAt) : Type 0 where
  pub few : length s.listed < many_to_stay s.table.room
  pub free : (seen : ℕ) → IsLastFound s.table.slots seen s.view.latest.free → 48 ≤ seen

-- But for one, which becomes the spare where the place has none.
abbrev pub one_as_spare : Option Held → ℕ
one_as_spare None = 1
one_as_spare (Some held) = 0

-- so many slots of a keeper that is over go back now, at most
abbrev pub GoBackNow : SeatAt → ℕ → Type 0
GoBackNow s most = (MayStay s × (most ≡ one_as_spare s.view.hands.spare)) ⊎ ((MayStay s → ⊥) × (most ≡ most_given))

-- The keeper stays as long as slots of it are left.
abbrev pub StaysFor : CookieAt → Option CookieAt → Type 0
StaysFor c left = ((c.slots ≡ 0) × (left ≡ None)) ⊎ ((1 ≤ c.slots) × (left ≡ Some c))

-- By the answer about the keeper. Where it is over the first of its slots went back, unless they may stay, and it is kept for the others.
-- Where it isn't, it is kept as it is. Where it was given up there is none any more.
abbrev pub GivesBy : Ask → CookieAt → SeatAt → Option CookieAt → SeatAt → Type 0
GivesBy Over keeper s left t = (most n : ℕ) × GoBackNow s most × (n ≡ min keeper.slots most) × GivesFirst n s t
    × StaysFor (record keeper { slots = keeper.slots - n }) left
GivesBy (NotYet why) keeper s left t = (left ≡ Some keeper) × (t ≡ s)
GivesBy (GivenUp latest) keeper s left t = (left ≡ None) × (t ≡ s)

-- The keeper was asked about once.
pub record WasTended (k : Shape) (keeper : CookieAt) (s : SeatAt) (left : Option CookieAt) (t : SeatAt) : Type 0 where
  pub answer : Ask
  pub now : CookieAt
  pub between : SeatAt
  pub same : IsSameCookie keeper now
  pub asked : Asked k keeper s.view answer now between.view
  pub listed : between.listed ≡ s.listed
  pub gives : GivesBy answer now between left t

-- Where there was none nothing was done.
abbrev pub TendsTo : Shape → Option CookieAt → SeatAt → Option CookieAt → SeatAt → Type 0
TendsTo k None s left t = (left ≡ None) × (t ≡ s)
TendsTo k (Some keeper) s left t = WasTended k keeper s left t

-- What that leaves of the seat but for its slots. Of marks at most the end of the keeper's wait.
pub record LeavesEnd (keeper : Option CookieAt) (v w : View) : Type 0 where
  pub ended : List Mark
  pub advanced : HasAdvanced v w ended
  pub ends : (ended ≡ []) ⊎ ((c : CookieAt) × (keeper ≡ Some c) × (ended ≡ Ended v.allowance.place c.count ∷ []))
  pub allowance : w.allowance ≡ v.allowance
  pub waits : w.counts.waits ≡ v.counts.waits

-- What a caller does before an update: it asks about its keeper.
pub record Tends (c d : CallerAt) : Type 0 where
  pub index : KeepsCookie c d
  pub tends : TendsTo (shape_of c.way c.table) c.keeper c.seat d.keeper d.seat
  pub leaves : LeavesEnd c.keeper c.seat.view d.seat.view
  pub may : MayGoOn d

-- a wait that the user began is the latest of the place
abbrev pub HasLatest : Option CookieAt → View → Type 0
HasLatest cookie v = (c : CookieAt) × (cookie ≡ Some c) × (v.counts.waits ≡ c.count + 1)

-- so many slots are kept before a keeper is begun: half of the room, where that is less than 32
abbrev pub many_kept : ℕ → ℕ
many_kept room = min 32 (room / 2)

-- the place last found no slot free
abbrev pub FoundNoneFree : SeatAt → Type 0
FoundNoneFree s = (seen : ℕ) → IsLastFound s.table.slots seen s.view.latest.free → seen ≡ 0

-- The place has no room for two more retired slots; or it has no spare for a copy, and last found no slot free.
abbrev pub LacksSlots : SeatAt → Type 0
LacksSlots s = (s.table.room ≤ length s.listed + 1) ⊎ ((s.view.hands.spare ≡ None) × FoundNoneFree s)

-- enough slots are kept back for a keeper: so many; or some, where none was free
abbrev pub AreEnough : SeatAt → Type 0
AreEnough s = (many_kept s.table.room ≤ length s.listed) ⊎ ((1 ≤ length s.listed) × FoundNoneFree s)

-- A keeper came too early: there is room for no more slots, and at least half of those that are kept back were retired behind its start.
pub record IsOutgrown (keeper : CookieAt) (s : SeatAt) : Type 0 where
  pub full : s.table.room ≤ length s.listed + 1
  pub few : keeper.slots * 2 ≤ length s.listed

-- A new keeper may take its place: there is none, or it came too early.
abbrev pub MakesWay : Option CookieAt → SeatAt → Type 0
MakesWay None s = Unit {0}
MakesWay (Some keeper) s = IsOutgrown keeper s

-- A keeper may be begun: the one that there is makes way, enough slots are kept back, an update's tickets are left behind it, and no wait that
-- the user began is the latest one.
pub record CanBegin (keeper cookie : Option CookieAt) (s : SeatAt) : Type 0 where
  pub place : MakesWay keeper s
  pub enough : AreEnough s
  pub paid : 5 ≤ s.view.allowance.tickets
  pub free : HasLatest cookie s.view → ⊥

-- A keeper was begun, by a wait for everybody: it is for all slots that are retired.
pub record HasBegunKeeper (keeper cookie : Option CookieAt) (s : SeatAt) (left : Option CookieAt) (t : SeatAt) : Type 0 where
  pub can : CanBegin keeper cookie s
  pub begun : HasBegun s.view 0 greatest_key t.view
  pub listed : t.listed ≡ s.listed
  pub c : CookieAt
  pub left_is : left ≡ Some c
  pub count : c.count ≡ s.view.counts.waits
  pub slots : c.slots ≡ length s.view.hands.retired

-- It was begun just where it may be.
abbrev pub BeginsKeeper : Option CookieAt → Option CookieAt → SeatAt → Option CookieAt → SeatAt → Type 0
BeginsKeeper keeper cookie s left t = ((CanBegin keeper cookie s → ⊥) × (left ≡ keeper) × (t ≡ s)) ⊎ HasBegunKeeper keeper cookie s left t

-- What a caller does first: it begins a keeper where it may, by one ticket.
pub record StartsKeeper (c d : CallerAt) : Type 0 where
  pub index : KeepsCookie c d
  pub begins : BeginsKeeper c.keeper c.cookie c.seat d.keeper d.seat
  pub may : MayGoOn d

-- What a caller does about its keeper before an update: it begins one where it may, and then asks once about the one that it has.
pub record SeesToKeeper (c d : CallerAt) : Type 0 where
  pub begun : CallerAt
  pub starts : StartsKeeper c begun
  pub tends : Tends begun d

-- The slots of a keeper that serve inserts.
-- Source: docs/TREE_CALLS.md, "Cookies".

-- what an insert is to take: the first slot of a keeper that is over, else a free one
abbrev pub slot_for : Option CookieAt → List ℕ → Reuse
slot_for None listed = reuse.Free
slot_for (Some c) [] = reuse.Free
slot_for (Some c) (slot ∷ rest) = if c.over then (if c.slots == 0 then reuse.Free else reuse.Retired slot) else reuse.Free

-- An insert used a slot of the keeper again, which is over. It stays as long as others of its slots are left.
pub record ServesInsert (keeper left : Option CookieAt) : Type 0 where
  pub c : CookieAt
  pub keeper_is : keeper ≡ Some c
  pub over : c.over ≡ true
  pub some : 1 ≤ c.slots
  pub stays : StaysFor (less_one c) left

-- What becomes of the keeper behind a remove, before which the place had begun so many waits. It stays where it has begun none since; and where
-- more slots are listed than a remove leaves that gave all back it may stay, since none went back.
abbrev pub StaysBehind : ℕ → Option CookieAt → SeatAt → Option CookieAt → Type 0
StaysBehind waits keeper t left = ((left ≡ keeper) × ((t.view.counts.waits ≡ waits) ⊎ (3 ≤ length t.listed)))
    ⊎ ((left ≡ None) × (t.view.counts.waits ≢ waits))

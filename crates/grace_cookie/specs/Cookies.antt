-- Cookies, what asking about them answers and leaves, and what any other call has to leave.
-- Cookies: waits that were begun, and are asked about later.
-- Source: docs/TREE_CALLS.md, "Cookies".
use Rattle.std.specs.Prelude.{◌≡◌, ◌≢◌, ℕ, ◌+◌, ◌-◌, ◌<◌, ◌≤◌, Bool, true, false, List, [], ◌∷◌, ◌++◌, length, Some, ◌⊎◌, take}
use Rattle.std.specs.List.{AllByRecursion}
use mathlib.Core.List.{IsPrefix}
use Rattle.prcu_marks.specs.declared.mark.Mark.{Mark}
use Rattle.prcu_marks.specs.declared.mark.Mark.TheVariants.{Began, Ended}
use Rattle.key_interval.specs.Keys.{Interval}
use Rattle.core_state.specs.declared.shape.Shape.{Shape}
use Rattle.core_state.specs.declared.view.Retired.{Retired}
use Rattle.core_state.specs.declared.view.View.{View}
use Rattle.core_state.specs.declared.view.Waiting.{Waiting}
use Rattle.core_state.specs.Links.{IsRetiredAt}
use Rattle.list_laws.specs.Counts.{times, IsIn}
use Rattle.seat_table.specs.Seats.{SeatAt, unlisted}
use Rattle.seat_table.specs.Waits.{Reached, HasReached, HaveLeft, HasLooked, Shows, StopsAt, IsOver}
use Rattle.core_state.specs.declared.view.StepMade.{StepMade}
use Rattle.prcu_marks.specs.declared.mark.Why.{Why}
use Rattle.seat_table.specs.Looks.{FindsNone, FindsOnce}
use Rattle.node_slots.specs.Reclaiming.{GivesBack, first_of, without_slots}
use Rattle.grace_cookie.specs.declared.answers.Ask.{Ask}
use Rattle.grace_cookie.specs.declared.answers.Ask.TheVariants.{Over, NotYet, GivenUp}
use mathlib.Core.Option.{some}
use lib.ListN.{get_elem?}

-- the keys of everybody
abbrev pub everybody : Interval
everybody = record { low = 0; high = 18446744073709551615 }

-- What a clause sees of a cookie: the keys of its wait, how many waits its place had begun before this one, how many of the slots that were
-- retired then haven't gone back by it, whether it was found over, the wait's clock, and where the next poll goes on.
pub record CookieAt : Type 0 where
  pub keys : Interval
  pub count : ℕ
  pub slots : ℕ
  pub over : Bool
  pub clock : ℕ
  pub reached : Reached

-- its place has begun no later wait
abbrev pub IsLatest : CookieAt → View → Type 0
IsLatest c v = v.counts.waits ≡ c.count + 1

-- Among these marks the wait of the place for these keys with this number was begun, and it ended. Each section with one of the keys that
-- was entered before it began was left before it ended.
pub record HasOutlasted (p count : ℕ) (keys : Interval) (seen : List Mark) : Type 0 where
  pub before : List Mark
  pub began : IsIn before (Began p count keys.low keys.high)
  pub ends : IsPrefix (before ++ Ended p count ∷ []) seen
  pub left : HaveLeft p count keys.low keys.high (before ++ Ended p count ∷ [])

-- The wait of the cookie is the latest of the place and goes on. The cookie says where its next poll goes on.
abbrev pub GoesOn : Shape → CookieAt → View → Type 0
GoesOn k c v = (wait : Waiting) × (v.wait ≡ Some wait) × (wait.count ≡ c.count) × HasReached k c.keys c.clock c.reached wait

-- The cookie is of this seat. Its wait was begun at the seat's place. Where it was found over, the seat has seen that; else the wait goes
-- on as the cookie says, unless the place has begun a later one.
pub record IsOf (k : Shape) (c : CookieAt) (v : View) : Type 0 where
  pub begun : c.count < v.counts.waits
  pub began : IsIn v.seen (Began v.allowance.place c.count c.keys.low c.keys.high)
  pub outlasted : c.over ≡ true → HasOutlasted v.allowance.place c.count c.keys v.seen
  pub going : c.over ≡ false → IsLatest c v → GoesOn k c v

-- the latest wait of the place was begun after this mark
abbrev pub WasBegunSince : View → ℕ → Type 0
WasBegunSince v mark = (wait : Waiting) × (v.wait ≡ Some wait) × (mark < wait.began)

-- The slot is retired and was unlinked before the cookie was started. Where a cookie for everybody is over, the slot was waited for.
pub record IsKept (c : CookieAt) (v : View) (slot : ℕ) : Type 0 where
  pub i : ℕ
  pub r : Retired
  pub at : IsRetiredAt v i r slot
  pub since : c.over ≡ false → WasBegunSince v r.unlinked
  pub waited : c.keys ≡ everybody → c.over ≡ true → r.waited ≡ true

-- The listed slots begin with those that were retired when the cookie was started, but for those that went back by it.
pub record AreKept (c : CookieAt) (s : SeatAt) : Type 0 where
  pub slots : List ℕ
  pub later : List ℕ
  pub listed : s.listed ≡ slots ++ later
  pub many : length slots ≡ c.slots
  pub apart : (slot : ℕ) → times slot slots ≤ 1
  pub each : AllByRecursion (IsKept c s.view) slots

-- The same: for good where the cookie was found over, and else unless the place has begun a later wait.
pub record HasKept (c : CookieAt) (s : SeatAt) : Type 0 where
  pub kept : (c.over ≡ false → IsLatest c s.view) → AreKept c s

-- no generation of a slot of these was raised since it was unlinked
abbrev pub AreUnraised : View → List ℕ → Type 0
AreUnraised v slots = AllByRecursion (λ slot. (i : ℕ) (r : Retired) → IsRetiredAt v i r slot → r.raised ≡ false) slots

-- What asking about a cookie answers, and what giving slots back by it leaves.
-- Source: docs/TREE_CALLS.md, "Cookies".

-- the same cookie, which may have been found over, or have come further
abbrev pub IsSameCookie : CookieAt → CookieAt → Type 0
IsSameCookie c d = d ≡ record c { over = d.over; reached = d.reached }

-- It was found over before, and nothing changed; or its wait is the latest one and ended by this poll, which found no reader in its way.
abbrev pub EndedNowOrBefore : Shape → CookieAt → View → View → Type 0
EndedNowOrBefore k c v w = ((c.over ≡ true) × (w ≡ v))
    ⊎ ((c.over ≡ false) × IsLatest c v × IsOver k v w × FindsNone c.keys c.clock v w)

pub record IsFoundOver (k : Shape) (c : CookieAt) (v : View) (d : CookieAt) (w : View) : Type 0 where
  pub over : d.over ≡ true
  pub outlasted : HasOutlasted v.allowance.place c.count c.keys w.seen
  pub how : EndedNowOrBefore k c v w

-- Its wait is the latest one, and goes on by what this one poll found: it stopped at the first reader in its way. The cookie has come
-- there, so that the next question looks there first.
pub record IsFoundGoing (c : CookieAt) (v : View) (wait : Waiting) (steps : List StepMade) (new : Waiting) (why : Why) (d : CookieAt)
    (w : View) : Type 0 where
  pub was : c.over ≡ false
  pub going : d.over ≡ false
  pub latest : IsLatest c v
  pub wait_is : v.wait ≡ Some wait
  pub count_is : wait.count ≡ c.count
  pub looked : HasLooked v wait steps new w
  pub once : FindsOnce c.keys c.clock v why w
  pub there : StopsAt d.reached why

-- It wasn't found over before, and the place has begun a later wait, the latest of which has this number. Nothing changed.
pub record IsGivenUp (c : CookieAt) (v : View) (latest : ℕ) (d : CookieAt) (w : View) : Type 0 where
  pub was : c.over ≡ false
  pub later : c.count < latest
  pub latest_is : v.counts.waits ≡ latest + 1
  pub cookie : d ≡ c
  pub view : w ≡ v

abbrev pub Asked : Shape → CookieAt → View → Ask → CookieAt → View → Type 0
Asked k c v Over d w = IsFoundOver k c v d w
Asked k c v (NotYet why) d w = (wait : Waiting) × (steps : List StepMade) × (new : Waiting) × IsFoundGoing c v wait steps new why d w
    × Shows wait steps why
Asked k c v (GivenUp latest) d w = IsGivenUp c v latest d w

-- Where the cookie was given up the seat is as it was.
abbrev pub LeavesAlone : Ask → SeatAt → SeatAt → Type 0
LeavesAlone (GivenUp latest) s t = t ≡ s
LeavesAlone _ s t = Unit {0}

-- The first so many of the listed slots went back, in their order, and the others are listed still.
pub record GivesFirst (n : ℕ) (s t : SeatAt) : Type 0 where
  pub gives : GivesBack s.view (take n s.listed) t.view
  pub listed : t.listed ≡ without_slots (take n s.listed) s.listed

-- None was retired at the start. The answer is 0, and nothing changed.
pub record GivesNone (c : CookieAt) (s : SeatAt) (answer : ℕ) (t : SeatAt) : Type 0 where
  pub none : c.slots ≡ 0
  pub answer_is : answer ≡ 0
  pub same : t ≡ s

-- All slots that were retired at the start went back, and the answer is their number.
pub record GivesSome (c : CookieAt) (s : SeatAt) (answer : ℕ) (t : SeatAt) : Type 0 where
  pub some : 1 ≤ c.slots
  pub answer_is : answer ≡ c.slots
  pub first : GivesFirst c.slots s t

abbrev pub HasGivenBack : CookieAt → SeatAt → ℕ → SeatAt → Type 0
HasGivenBack c s answer t = GivesNone c s answer t ⊎ GivesSome c s answer t

-- What a call leaves of a seat, so that a cookie of the seat stays good.
-- Source: docs/TREE_CALLS.md, "Cookies".

-- The retired slot is still retired, and was waited for where it was.
abbrev pub StaysRetired : Retired → Retired → Type 0
StaysRetired r now = (now.slot ≡ r.slot) × (now.unlinked ≡ r.unlinked) × (r.waited ≡ true → now.waited ≡ true)

-- Each retired slot stays where it is, and later ones are behind.
pub record KeepsRetired (v w : View) : Type 0 where
  pub each : (i : ℕ) (r : Retired) → get_elem? v.hands.retired i ≡ some r
      → (now : Retired) × (get_elem? w.hands.retired i ≡ some now) × StaysRetired r now

-- The place is the same, it has begun no fewer waits, and the seat has seen as much. Where it has begun no further wait, the latest one is
-- as it was.
pub record KeepsLatest (v w : View) : Type 0 where
  pub place : w.allowance.place ≡ v.allowance.place
  pub seen : IsPrefix v.seen w.seen
  pub waits : v.counts.waits ≤ w.counts.waits
  pub wait : w.counts.waits ≡ v.counts.waits → w.wait ≡ v.wait

-- No slot went back: what was retired and listed stays so, in its order, and further slots are listed behind.
pub record KeepsListed (s t : SeatAt) : Type 0 where
  pub retired : KeepsRetired s.view t.view
  pub listed : (later : List ℕ) × (t.listed ≡ s.listed ++ later)

-- The latest wait is kept, and where the place has begun no further one no slot went back.
pub record KeepsCookies (s t : SeatAt) : Type 0 where
  pub latest : KeepsLatest s.view t.view
  pub slots : t.view.counts.waits ≡ s.view.counts.waits → KeepsListed s t

-- After a call that keeps the latest wait a cookie is of the seat still.
abbrev pub WaitsStay : Type 0
WaitsStay = (k : Shape) (c : CookieAt) (v w : View) → KeepsLatest v w → IsOf k c v → IsOf k c w

-- Where it keeps the slots too, what was retired at the cookie's start is kept: of a cookie that is over wherever no slot went back, whatever
-- waits were begun, and of another one as long as none was.
abbrev pub CookiesStay : Type 0
CookiesStay = (k : Shape) (c : CookieAt) (s t : SeatAt) → KeepsCookies s t → (c.over ≡ true → KeepsListed s t) → IsOf k c s.view → HasKept c s
    → IsOf k c t.view × HasKept c t

-- A question about a cookie leaves another one of the seat good: they are of two waits of the place.
abbrev pub OthersStay : Type 0
OthersStay = (k : Shape) (c : CookieAt) (s : SeatAt) (answer : Ask) (now : CookieAt) (t : SeatAt) (other : CookieAt) → Asked k c s.view answer now t.view
    → t.listed ≡ s.listed → other.count ≢ c.count → IsOf k other s.view → IsOf k other t.view × (HasKept other s → HasKept other t)

-- This retired slot was used again: it is listed no more, and each other slot is retired and listed as it was, in its order. The latest wait
-- is kept.
pub record UsesListed (slot : ℕ) (s t : SeatAt) : Type 0 where
  pub latest : KeepsLatest s.view t.view
  pub others : (r : Retired) → IsIn s.view.hands.retired r → r.slot ≢ slot
      → (now : Retired) × IsIn t.view.hands.retired now × StaysRetired r now
  pub listed : t.listed ≡ unlisted slot s.listed

-- the cookie with one slot less
abbrev pub less_one : CookieAt → CookieAt
less_one c = record c { slots = c.slots - 1 }

-- After a call that used the first listed slot again a cookie that is over is good for the others of its slots.
abbrev pub UsedStay : Type 0
UsedStay = (k : Shape) (c : CookieAt) (slot : ℕ) (s t : SeatAt) → c.over ≡ true → 1 ≤ c.slots → first_of s.listed ≡ Some slot
    → UsesListed slot s t → IsOf k c s.view → HasKept c s → IsOf k (less_one c) t.view × HasKept (less_one c) t

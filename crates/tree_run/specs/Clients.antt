-- Clients that hold a cookie, and what they do about it before a call and after an answer.
-- What a client does about its cookie after an answer.
-- Source: docs/TREE_CALLS.md, "Cookies".
use Rattle.std.specs.Prelude.{◌≡◌, ℕ, ◌/◌, ◌<◌, ◌≤◌, ◌⊎◌, false, List, [], ◌∷◌, ◌++◌, length, Option, Some, None, ◌+◌}
use Rattle.prcu_marks.specs.declared.mark.Mark.{Mark}
use Rattle.prcu_marks.specs.declared.mark.Mark.TheVariants.{Began, Ended}
use Rattle.prcu_marks.specs.Marks.{greatest_key, updates_of}
use Rattle.prcu_model.specs.Dictionary.{IsLegal, Explains}
use Rattle.core_state.specs.declared.shape.Shape.{Shape}
use Rattle.core_state.specs.declared.view.View.{View}
use Rattle.core_state.specs.Marks.{Grace, Reuse}
use Rattle.seat_table.specs.Seats.{SeatAt, IsQuietSeat}
use Rattle.seat_table.specs.Sections.{HasBegun}
use Rattle.tree_points.specs.Points.{HasAdvanced}
use Rattle.grace_cookie.specs.declared.answers.Ask.{Ask}
use Rattle.grace_cookie.specs.declared.answers.Ask.TheVariants.{Over, NotYet, GivenUp}
use Rattle.grace_cookie.specs.Cookies.{CookieAt, everybody, IsOf, HasKept, IsSameCookie, Asked, HasGivenBack}
use Rattle.prcu_model.specs.declared.operation.Op.{Op}
use Rattle.prcu_model.specs.declared.operation.Op.TheVariants.{Del}
use Rattle.prcu_model.specs.declared.operation.Told.{Told}
use Rattle.prcu_model.specs.Fronts.{told_lines, own_updates}
use Rattle.prcu_marks.specs.Callers.{MeetsFronts, IsChain}
use Rattle.citrus_tree.specs.Replies.{ClientAt, room_of}
use Rattle.tree_lift.specs.Lifts as tree

-- The cookie that is held, if any, is for everybody and wasn't found over yet, and it is of this seat.
abbrev pub IsGood : Shape → SeatAt → Option CookieAt → Type 0
IsGood k s None = Unit {0}
IsGood k s (Some c) = (c.over ≡ false) × IsOf k c s.view × HasKept c s × (c.keys ≡ everybody)

-- By the answer about a cookie: when it is over its slots go back, and none is held; where it was given up none is held; else it is held
-- still.
abbrev pub GoesOnBy : Ask → CookieAt → SeatAt → Option CookieAt → SeatAt → Type 0
GoesOnBy Over c s left t = (left ≡ None) × ((number : ℕ) × HasGivenBack c s number t)
GoesOnBy (NotYet why) c s left t = (left ≡ Some c) × (t ≡ s)
GoesOnBy (GivenUp latest) c s left t = (left ≡ None) × (t ≡ s)

-- The cookie was asked about once.
pub record WasAsked (k : Shape) (c : CookieAt) (s : SeatAt) (left : Option CookieAt) (t : SeatAt) : Type 0 where
  pub answer : Ask
  pub now : CookieAt
  pub seat : SeatAt
  pub same : IsSameCookie c now
  pub asked : Asked k c s.view answer now seat.view
  pub listed : seat.listed ≡ s.listed
  pub goes : GoesOnBy answer now seat left t

abbrev pub Asks : Shape → Option CookieAt → SeatAt → Option CookieAt → SeatAt → Type 0
Asks k None s left t = (left ≡ None) × (t ≡ s)
Asks k (Some c) s left t = WasAsked k c s left t

-- A cookie was started, where none was held and half of the room for retired slots is taken.
pub record WasStarted (s : SeatAt) (c : CookieAt) (t : SeatAt) : Type 0 where
  pub many : s.table.room / 2 ≤ length s.view.hands.retired
  pub begun : HasBegun s.view 0 greatest_key t.view
  pub listed : t.listed ≡ s.listed
  pub count : c.count ≡ s.view.counts.waits
  pub slots : c.slots ≡ length s.view.hands.retired

abbrev pub Starts : Option CookieAt → SeatAt → Option CookieAt → SeatAt → Type 0
Starts (Some c) s held t = (held ≡ Some c) × (t ≡ s)
Starts None s None t = (length s.view.hands.retired < s.table.room / 2) × (t ≡ s)
Starts None s (Some c) t = WasStarted s c t

-- First one asks, and then one may be started.
pub record Settles (k : Shape) (cookie : Option CookieAt) (s : SeatAt) (held : Option CookieAt) (t : SeatAt) : Type 0 where
  pub left : Option CookieAt
  pub between : SeatAt
  pub asks : Asks k cookie s left between
  pub starts : Starts left between held t

-- What this leaves of marks at the place: at most the end of the wait of the cookie that was held, and then at most the beginning of one
-- wait,
-- which is for everybody.
pub record LeavesWaits (cookie : Option CookieAt) (v w : View) : Type 0 where
  pub ended : List Mark
  pub began : List Mark
  pub advanced : HasAdvanced v w (ended ++ began)
  pub ends : (ended ≡ []) ⊎ ((c : CookieAt) × (cookie ≡ Some c) × (ended ≡ Ended v.allowance.place c.count ∷ []))
  pub begins : (began ≡ []) ⊎ (began ≡ Began v.allowance.place v.counts.waits 0 greatest_key ∷ [])

-- Few slots are retired, or a cookie is held.
abbrev pub IsFewOrHeld : SeatAt → Option CookieAt → Type 0
IsFewOrHeld s held = (length s.view.hands.retired < s.table.room / 2) ⊎ ((c : CookieAt) × (held ≡ Some c))

-- Among these marks the updates are a history, waits outlast the readers they are for, and no slot is used again that an open reader may
-- meet.
pub record AreSound (seen : List Mark) : Type 0 where
  pub legal : IsLegal (updates_of seen)
  pub grace : Grace seen
  pub reuse : Reuse seen

-- What a client does about its cookie before a call.
-- Source: docs/TREE_CALLS.md, "Cookies".

-- the cookie that is held at some moment, and the seat then
pub record Holding : Type 0 where
  pub cookie : CookieAt
  pub seat : SeatAt

-- One asked again and again, and held the cookie still at these moments, the latest one first. Then one asked once more.
abbrev pub AsksOn : Shape → Option CookieAt → SeatAt → List Holding → Option CookieAt → SeatAt → Type 0
AsksOn k cookie s [] left t = Asks k cookie s left t
AsksOn k cookie s (h ∷ earlier) left t = AsksOn k cookie s earlier (Some h.cookie) h.seat × IsGood k h.seat (Some h.cookie)
    × Asks k (Some h.cookie) h.seat left t

-- One asked until no cookie was held: it was over, and its slots went back, or it had been given up.
pub record AsksUntilNone (k : Shape) (cookie : Option CookieAt) (s t : SeatAt) : Type 0 where
  pub held : List Holding
  pub asks : AsksOn k cookie s held None t

-- a del whose place has room for one more retired slot at most
abbrev pub LacksRoom : Op → SeatAt → Type 0
LacksRoom op s = ((key : ℕ) × (op ≡ Del key)) × (s.table.room ≤ length s.view.hands.retired + 1)

-- Where the operation lacks room one asks until no cookie is held; else nothing is done.
abbrev pub MakesRoom : Shape → Op → Option CookieAt → SeatAt → Option CookieAt → SeatAt → Type 0
MakesRoom k op cookie s left t = ((LacksRoom op s → ⊥) × (left ≡ cookie) × (t ≡ s))
    ⊎ (LacksRoom op s × (left ≡ None) × AsksUntilNone k cookie s t)

-- What asking leaves of marks at the place: at most the end of the wait of the cookie that was held.
pub record LeavesEnd (cookie : Option CookieAt) (v w : View) : Type 0 where
  pub ended : List Mark
  pub advanced : HasAdvanced v w ended
  pub ends : (ended ≡ []) ⊎ ((c : CookieAt) × (cookie ≡ Some c) × (ended ≡ Ended v.allowance.place c.count ∷ []))

-- Clients of the tree that hold a cookie.
-- Source: docs/TREE_CALLS.md, "Cookies".

-- what a clause sees of a client: its table and its seat, as those of a client of the tree, and the cookie that it holds, if any
pub record CookieClientAt : Type 0 where
  pub tree : ClientAt
  pub cookie : Option CookieAt

-- A call: where the operation lacks room, what was done about the cookie first; that of a client of the tree, which began with this seat and
-- left that one; and then what was done about the cookie.
pub record HasCalled (before : CookieClientAt) (op : Op) (told : Told) (after : CookieClientAt) : Type 0 where
  pub held : Option CookieAt
  pub ready : SeatAt
  pub called : SeatAt
  pub room : MakesRoom before.tree.shape op before.cookie before.tree.seat held ready
  pub call : tree.HasCalled (record before.tree { seat = ready }) op told (record before.tree { seat = called })
  pub settles : Settles before.tree.shape held called after.cookie after.tree.seat
  pub same : after.tree ≡ record before.tree { seat = after.tree.seat }
  pub ends : LeavesEnd before.cookie before.tree.seat.view ready.view
  pub waits : LeavesWaits held called.view after.tree.seat.view
  pub few : IsFewOrHeld after.tree.seat after.cookie
  pub tickets : before.tree.seat.view.allowance.tickets ≤ after.tree.seat.view.allowance.tickets + 17
  pub quiet : IsQuietSeat after.tree.seat
  pub sound : AreSound after.tree.seat.view.seen

-- Of a client whose place had made no update, the calls so far tell of lines that fit the updates that it has seen.
abbrev pub ChainsMeetFronts : Type 0
ChainsMeetFronts = (ops : List Op) (tolds : List Told) (before after : CookieClientAt)
    → own_updates before.tree.seat.view.allowance.place (updates_of before.tree.seat.view.seen) ≡ []
    → IsChain HasCalled before ops tolds after → MeetsFronts (Explains (room_of before.tree.shape))
    (updates_of after.tree.seat.view.seen) before.tree.seat.view.allowance.place (told_lines ops tolds)

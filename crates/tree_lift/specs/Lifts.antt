-- Lifts: the room that a turn needs, what a lift leaves, and what it answers.
use Rattle.std.specs.Prelude.{◌≡◌, ◌≢◌, ◌⊎◌, ◌+◌, ◌<◌, ◌≤◌, Bool, true, false, [], length, Some, None, if◌then◌else◌, ℕ, List, ◌∷◌, ◌++◌}
use Rattle.core_state.specs.declared.shape.Shape.{Shape}
use Rattle.core_state.specs.declared.view.Held.{Held}
use Rattle.core_state.specs.declared.view.View.{View}
use Rattle.seat_table.specs.Gains.{IsFull, IsInformed}
use Rattle.seat_table.specs.Seats.{SeatAt, IsQuietSeat}
use Rattle.node_slots.specs.Reclaiming.{HasReclaimed}
use Rattle.node_slots.specs.Slots.{PutsBack}
use Rattle.citrus_tree.specs.Going.{Goes, IsOfTry, KeepsSeat, KeepsSlots, KeepsWait}
use Rattle.tree_turn.specs.Turns.{IsQuietButHand, HasTurned, HasTurnedNone}
use Rattle.std.specs.List.{AllByRecursion}
use Rattle.prcu_marks.specs.declared.mark.Mark.{Mark}
use Rattle.core_state.specs.declared.view.Reading.{Reading}
use Rattle.list_laws.specs.Counts.{IsIn}
use Rattle.tree_points.specs.Points.{HasAdvanced}
use Rattle.tree_turn.specs.declared.turn.Turn.{Turn}
use Rattle.tree_lift.specs.declared.lifting.Aim.{Aim}
use Rattle.tree_lift.specs.declared.lifting.Attempt.{Attempt}
use Rattle.tree_lift.specs.declared.lifting.Lifted.{Lifted}
use Rattle.tree_lift.specs.declared.lifting.Attempt.TheVariants.{Tried, Ended}
use Rattle.tree_lift.specs.declared.lifting.Stop.{Stop}
use Rattle.tree_lift.specs.declared.trying.Outcome.{Outcome}
use Rattle.tree_lift.specs.declared.trying.Outcome.TheVariants.{Turned, Refused, NoSlot as NoneFree}
use Rattle.tree_lift.specs.declared.lifting.Stop.TheVariants.{Level, NoRoom, NoSlot, Spent}
use Rattle.tree_lift.specs.Ways.{RecordsTurn, Finds}
use Rattle.prcu_model.specs.declared.operation.Op.{Op}
use Rattle.prcu_model.specs.declared.operation.Op.TheVariants.{Put}
use Rattle.prcu_model.specs.declared.operation.Told.{Told}
use Rattle.citrus_tree.specs.Replies.{IsTold, Puts, ClientAt, room_of}
use Rattle.prcu_marks.specs.Callers.{MeetsFronts, IsChain}
use Rattle.prcu_marks.specs.Marks.{updates_of}
use Rattle.prcu_model.specs.Fronts.{told_lines, own_updates}
use Rattle.prcu_model.specs.Dictionary.{Explains}

-- What a turn needs of the place, and how it comes by it.
-- Source: docs/TREE_CALLS.md, "Lifts".

-- All retired slots were given back, by one wait for everybody, where there was no room and the caller would stand still. Now there is
-- room, since a place may hold back two at least.
pub record Reclaims (k : Shape) (hard : Bool) (s t : SeatAt) : Type 0 where
  pub stands_still : hard ≡ true
  pub many : k.room ≤ length s.view.hands.retired + 1
  pub roomy : 2 ≤ k.room
  pub back : HasReclaimed k s.view s.listed t.view
  pub listed : t.listed ≡ []

-- Whether there is room for two more retired slots: there was, or there is now. Where there isn't nothing was done.
abbrev pub MakesRoom : Shape → Bool → SeatAt → Bool → SeatAt → Type 0
MakesRoom k hard s true t = ((t ≡ s) × (length s.view.hands.retired + 1 < k.room)) ⊎ Reclaims k hard s t
MakesRoom k hard s false t = (t ≡ s) × (hard ≡ false) × (k.room ≤ length s.view.hands.retired + 1)

-- When a lift waits for all readers, between two moments of it: once, where it is to stand still and the place had no room for two more
-- retired slots, and then it gave all of them back. Else it began no wait, and the same slots are retired.
pub data WaitsForRoom (k : Shape) (hard : Bool) (v w : View) : Type 0 where
  waits_none : w.counts.waits ≡ v.counts.waits → w.hands.retired ≡ v.hands.retired → WaitsForRoom k hard v w
  waits_once : hard ≡ true → k.room ≤ length v.hands.retired + 1 → w.counts.waits ≡ v.counts.waits + 1 → w.hands.retired ≡ []
      → WaitsForRoom k hard v w

-- Whether the place had retired slots: all were given back, by one wait for everybody. Where it had none nothing was done.
abbrev pub GivesAllBack : Shape → SeatAt → Bool → SeatAt → Type 0
GivesAllBack k s true t = HasReclaimed k s.view s.listed t.view × (t.listed ≡ []) × (s.view.hands.retired ≢ [])
GivesAllBack k s false t = (t ≡ s) × (s.view.hands.retired ≡ [])

-- Whether the place has a spare: it had, or it has one for a ticket. Where it hasn't no slot was free, and the dictionary is as large as
-- Full asks for. Nothing else changed.
pub record SeesToSpare (k : Shape) (s : SeatAt) (some : Bool) (t : SeatAt) : Type 0 where
  pub goes : Goes s.view t.view []
  pub quiet : IsQuietSeat t
  pub records : t.view.records ≡ s.view.records
  pub tickets : s.view.allowance.tickets ≤ t.view.allowance.tickets + 1
  pub at_once : s.view.hands.spare ≢ None → t.view ≡ s.view
  pub spare : some ≡ true → (held : Held) × (t.view.hands.spare ≡ Some held)
  pub full : some ≡ false → IsFull k t.view
  pub informed : IsInformed s.view → IsInformed t.view

-- A slot is in hand, whose generation wasn't raised, and the place has a spare.
pub record HasBoth (t : SeatAt) : Type 0 where
  pub quiet : IsQuietButHand t
  pub hand : Held
  pub hand_is : t.view.hands.hand ≡ Some hand
  pub unraised : hand.raised ≡ false
  pub spare : Held
  pub spare_is : t.view.hands.spare ≡ Some spare

pub record HasNone (k : Shape) (t : SeatAt) : Type 0 where
  pub quiet : IsQuietSeat t
  pub full : IsFull k t.view

-- Whether the place has both, for a ticket each that it took. Nothing else changed.
pub record TakesSlots (k : Shape) (s : SeatAt) (some : Bool) (t : SeatAt) : Type 0 where
  pub goes : Goes s.view t.view []
  pub records : t.view.records ≡ s.view.records
  pub tickets : s.view.allowance.tickets ≤ t.view.allowance.tickets + 2
  pub fewer : s.view.hands.spare ≢ None → s.view.allowance.tickets ≤ t.view.allowance.tickets + 1
  pub both : some ≡ true → HasBoth t
  pub none : some ≡ false → HasNone k t
  pub informed : IsInformed s.view → IsInformed t.view

-- The tickets for a turn: one for the turn itself, one for a slot in hand and, where the place has no spare, one for that.
abbrev pub CanPayTurn : View → Type 0
CanPayTurn v = (3 ≤ v.allowance.tickets) ⊎ ((2 ≤ v.allowance.tickets) × (v.hands.spare ≢ None))

-- A turn was made: the two that changed places are listed as retired, and the seat is quiet again.
pub record MakesTurn (s : SeatAt) (turn : Turn) (t : SeatAt) : Type 0 where
  pub advanced : HasAdvanced s.view t.view []
  pub turned : HasTurned s.view turn t.view
  pub retires : t.listed ≡ s.listed ++ turn.node ∷ (turn.child ∷ [])
  pub informed : IsInformed t.view
  pub quiet : IsQuietSeat t

-- A turn wasn't made, for its cause, and then the slot in hand was put back.
pub record RefusesTurn (s : SeatAt) (turn : Turn) (t : SeatAt) : Type 0 where
  pub refused : SeatAt
  pub advanced : HasAdvanced s.view refused.view []
  pub none : HasTurnedNone s.view turn refused.view
  pub still : IsQuietButHand refused
  pub same_list : refused.listed ≡ s.listed
  pub slot : ℕ
  pub back : PutsBack refused.view slot t.view
  pub kept : t.listed ≡ refused.listed
  pub informed : IsInformed t.view

-- The place took a slot in hand and has a spare, and then the turn was tried.
pub record HasTriedWith (k : Shape) (s : SeatAt) (comes : SeatAt → Type 0) : Type 0 where
  pub taken : SeatAt
  pub takes : TakesSlots k s true taken
  pub same : taken.listed ≡ s.listed
  pub came : comes taken

-- what came of a turn that was tried
abbrev pub TriesTurn : Shape → SeatAt → Turn → Outcome → SeatAt → Type 0
TriesTurn k s turn Turned t = HasTriedWith k s (λ taken. MakesTurn taken turn t)
TriesTurn k s turn Refused t = HasTriedWith k s (λ taken. RefusesTurn taken turn t)
TriesTurn k s turn NoneFree t = TakesSlots k s false t × (t.listed ≡ s.listed)

-- What a lift leaves, and what it answers.
-- Source: docs/TREE_CALLS.md, "Lifts".

-- Of its place no marks were left but those of sections with the key, and of waits for everybody: so none of an update.
pub record LeavesNoUpdate (v : View) (key : ℕ) (w : View) : Type 0 where
  pub marks : List Mark
  pub advanced : HasAdvanced v w marks
  pub each : AllByRecursion (IsOfTry v.allowance.place key) marks

-- What each part of a lift leaves. Where it isn't to stand still it begins no wait.
pub record Proceeds (key : ℕ) (hard : Bool) (s t : SeatAt) : Type 0 where
  pub updates : LeavesNoUpdate s.view key t.view
  pub wait : KeepsWait s.view t.view
  pub slots : KeepsSlots s t
  pub unwaited : hard ≡ false → t.view.counts.waits ≡ s.view.counts.waits
  pub informed : IsInformed s.view → IsInformed t.view

-- a turn that was tried: what a section found out, whether the turn was made, and what the seat knew before it was tried and afterwards
pub record TurnTried : Type 0 where
  pub turn : Turn
  pub reading : Reading
  pub made : Bool
  pub before : View
  pub after : View

-- The node and the child changed places; or nothing did, for its cause.
abbrev pub ComesOf : Bool → View → Turn → View → Type 0
ComesOf true v t w = HasTurned v t w
ComesOf false v t w = HasTurnedNone v t w

-- The section went down along the key, and found the topmost node whose child on the way is to stand above it. That these two change
-- places was tried.
pub record WasTried (k : Shape) (key salt : ℕ) (t : TurnTried) : Type 0 where
  pub recorded : RecordsTurn k key salt t.turn t.reading
  pub kept : IsIn t.before.records t.reading
  pub comes : ComesOf t.made t.before t.turn t.after

-- Before a turn, and behind the last one: no update was made, and readers were waited for only so that there is room for a turn.
pub record ComesBetween (k : Shape) (key : ℕ) (hard : Bool) (v w : View) : Type 0 where
  pub updates : LeavesNoUpdate v key w
  pub waits : WaitsForRoom k hard v w

-- Between two moments these turns were tried, one after another, and nothing else but what comes between turns.
abbrev pub WereTried : Shape → Aim → View → List TurnTried → View → Type 0
WereTried k aim v [] w = ComesBetween k aim.key aim.hard v w
WereTried k aim v (t ∷ later) w =
    ComesBetween k aim.key aim.hard v t.before × WasTried k aim.key aim.salt t × WereTried k aim t.after later w

-- how many of them were made
abbrev pub made_among : List TurnTried → ℕ
made_among [] = 0
made_among (t ∷ later) = (if t.made then 1 else 0) + made_among later

-- Why a lift ended: its last section found that the way needs no turn; or the place has no room for two more
-- retired slots, and it wasn't to stand still; or no slot was free, and the dictionary is as large as Full asks for. Where it has spent all
-- attempts, `HasLifted` says so.
abbrev pub EndsBy : Shape → Aim → Stop → View → Type 0
EndsBy k aim Level w = (v : View) × Finds k v aim.key aim.salt None w
EndsBy k aim NoRoom w = (aim.hard ≡ false) × (k.room ≤ length w.hands.retired + 1)
EndsBy k aim NoSlot w = IsFull k w
EndsBy k aim Spent w = Unit {0}

-- Right behind a turn that was tried no wait was begun, and no slot retired or given back.
pub record RestsBehind (key : ℕ) (v w : View) : Type 0 where
  pub updates : LeavesNoUpdate v key w
  pub waits : w.counts.waits ≡ v.counts.waits
  pub retired : w.hands.retired ≡ v.hands.retired

-- an attempt at one turn
pub record WasAttempted (k : Shape) (aim : Aim) (turned : Bool) (v w : View) : Type 0 where
  pub turn : TurnTried
  pub made : turn.made ≡ turned
  pub before : ComesBetween k aim.key aim.hard v turn.before
  pub tried : WasTried k aim.key aim.salt turn
  pub behind : RestsBehind aim.key turn.after w

-- what an attempt came to
abbrev pub Attempts : Shape → Aim → View → Attempt → View → Type 0
Attempts k aim v (Tried turned) w = WasAttempted k aim turned v w
Attempts k aim v (Ended stop) w = ComesBetween k aim.key aim.hard v w × EndsBy k aim stop w × (stop ≢ Spent)

-- What an attempt leaves, with at most three tickets.
pub record HasAttempted (k : Shape) (aim : Aim) (s : SeatAt) (answer : Attempt) (t : SeatAt) : Type 0 where
  pub proceeds : Proceeds aim.key aim.hard s t
  pub attempts : Attempts k aim s.view answer t.view
  pub tickets : s.view.allowance.tickets ≤ t.view.allowance.tickets + 3
  pub quiet : IsQuietSeat t

-- At most so many turns were tried as it was asked for, one after another, and as many were tried and made as it tells. Where it is spent it
-- tried all.
pub record HasLifted (k : Shape) (aim : Aim) (lifted : Lifted) (v w : View) : Type 0 where
  pub tried : List TurnTried
  pub were : WereTried k aim v tried w
  pub many : length tried ≡ lifted.tried
  pub few : length tried ≤ aim.attempts
  pub turns : made_among tried ≡ lifted.turns
  pub spent : lifted.stop ≡ Spent → length tried ≡ aim.attempts

-- Calls that keep the tree shallow, and clients that make them.
-- A call that keeps the tree shallow.
-- Source: docs/ACCOUNTS.md, "Clients".

-- A put was told this when the view was that one. Behind its answer came no update, and sections with its key alone.
pub record PutsThenLifts (k : Shape) (v : View) (key value : ℕ) (told : Told) (w : View) : Type 0 where
  pub answered : View
  pub puts : Puts k v key value told answered
  pub lift : LeavesNoUpdate answered key w

-- what an operation is told by its call, and what may come behind the answer of a put
abbrev pub IsToldThenLifts : Shape → View → Op → Told → View → Type 0
IsToldThenLifts k v (Put key value) told w = PutsThenLifts k v key value told w
IsToldThenLifts k v op told w = IsTold k v op told w

-- Clients of the tree that keep it shallow.
-- Source: docs/ACCOUNTS.md, "Clients".

-- A call of a client: what its operation was told, what may come behind the answer, and what holds after each call.
pub record HasCalled (before : ClientAt) (op : Op) (told : Told) (after : ClientAt) : Type 0 where
  pub shape : after.shape ≡ before.shape
  pub table : after.table ≡ before.table
  pub answer : IsToldThenLifts before.shape before.seat.view op told after.seat.view
  pub keeps : KeepsSeat 16 before.seat after.seat
  pub informed : IsInformed after.seat.view

-- Of a client whose place had made no update, the calls so far tell of lines that fit the updates that it has seen.
abbrev pub ChainsMeetFronts : Type 0
ChainsMeetFronts = (ops : List Op) (tolds : List Told) (before after : ClientAt)
    → own_updates before.seat.view.allowance.place (updates_of before.seat.view.seen) ≡ []
    → IsChain HasCalled before ops tolds after → MeetsFronts (Explains (room_of before.shape))
    (updates_of after.seat.view.seen) before.seat.view.allowance.place (told_lines ops tolds)

-- What a tidy answers, of a caller before and after.
-- Source: docs/TREE_CALLS.md, "Lifts".
use Rattle.std.specs.Prelude.{◌≡◌, ◌⊎◌, ℕ, zero, suc, ◌+◌, ◌-◌, ◌*◌, ◌<◌, ◌≤◌, true, false, List, [], length, Option, Some, None}
use Rattle.std.specs.List.{AllByRecursion}
use Rattle.key_interval.specs.Keys.{Interval}
use Rattle.prcu_marks.specs.declared.mark.Mark.{Mark}
use Rattle.core_state.specs.declared.view.View.{View}
use Rattle.seat_table.specs.Seats.{shape_of}
use Rattle.node_slots.specs.Reclaiming.{HasReclaimed}
use Rattle.tree_points.specs.Points.{HasAdvanced}
use Rattle.citrus_tree.specs.Going.{IsOfTry, KeepsSeat}
use Rattle.tree_lift.specs.declared.lifting.Aim.{Aim}
use Rattle.tree_lift.specs.declared.lifting.Lifted.{Lifted}
use Rattle.tree_lift.specs.declared.lifting.Stop.{Stop}
use Rattle.tree_lift.specs.declared.lifting.Stop.TheVariants as stop
use Rattle.tree_lift.specs.Lifts.{LeavesNoUpdate, HasLifted, EndsBy}
use Rattle.exact_list.specs.Tries.{Paged}
use Rattle.exact_list.specs.Pairs.{Pair, IsAt}
use Rattle.tree_handles.specs.Callers.{CallerAt, KeepsCookie, KeepsKeeper, IsFilled, MayGoOn}
use Rattle.tree_handles.specs.Calls.{IsLost, IsSpent, IsStoppedBy}
use Rattle.tree_handles.specs.Lists.{Lists, LooksInVain, IsLeft}
use Rattle.tree_handles.specs.declared.status.Status.{Status}
use Rattle.tree_handles.specs.declared.status.Status.TheVariants.{Done, Full, More, Busy, BadArgument, NoMemory, Spent, Lost}
use Rattle.tree_handles.specs.declared.tidying.Tally.{Tally}
use Rattle.tree_handles.specs.declared.tidying.Ending.{Ending}
use Rattle.tree_handles.specs.declared.tidying.Ending.TheVariants as ending

-- How often a turn is tried on a way: so often as is left to try, or as there are tickets for, three each.
pub record AreAttempts (most tickets attempts : ℕ) : Type 0 where
  pub few : attempts ≤ most
  pub paid : 3 * attempts ≤ tickets
  pub all : (attempts ≡ most) ⊎ (tickets < 3 * attempts + 3)

-- Nodes on the way to the key were turned by the index's salt, in so many attempts at most: what a lift says. It stands still for readers where it has to.
pub record LiftsWay (c : CallerAt) (key most : ℕ) (lifted : Lifted) (d : CallerAt) : Type 0 where
  pub index : KeepsCookie c d
  pub keeper : KeepsKeeper c d
  pub aim : Aim
  pub key_is : aim.key ≡ key
  pub salt_is : aim.salt ≡ c.salt
  pub hard_is : aim.hard ≡ true
  pub attempts : AreAttempts most c.seat.view.allowance.tickets aim.attempts
  pub turns : HasLifted (shape_of c.way c.table) aim lifted c.seat.view d.seat.view
  pub ends : EndsBy (shape_of c.way c.table) aim lifted.stop d.seat.view
  pub few : (lifted.turns ≤ lifted.tried) × (lifted.tried ≤ most)
  pub updates : LeavesNoUpdate c.seat.view key d.seat.view
  pub keeps : KeepsSeat (3 * lifted.tried + 3) c.seat d.seat
  pub may : MayGoOn d

-- The way to one more key was lifted, with as many attempts as are left of all, and ended so. What was tried and made on it is added.
pub record LiftsNext (key turns : ℕ) (ended : Stop) (c : CallerAt) (before : Tally) (d : CallerAt) (after : Tally) : Type 0 where
  pub lifted : Lifted
  pub stop_is : lifted.stop ≡ ended
  pub way : LiftsWay c key (turns - before.tried) lifted d
  pub tried : after.tried ≡ before.tried + lifted.tried
  pub made : after.made ≡ before.made + lifted.turns

-- The ways to the first so many keys were lifted, one after another, until each was found to need no turn.
abbrev pub LevelledTo : List Pair → ℕ → CallerAt → ℕ → Tally → CallerAt → Type 0
LevelledTo pairs turns c zero n d = (d ≡ c) × (n ≡ record { tried = 0; made = 0 })
LevelledTo pairs turns c (suc i) n d = (b : CallerAt) × (m : Tally) × (p : Pair) × LevelledTo pairs turns c i m b × IsAt pairs i p
    × LiftsNext p.0 turns stop.Level b m d n

-- The ways to the keys before this one were so, and the lift of its own ended otherwise.
pub record StopsAt (pairs : List Pair) (turns : ℕ) (c : CallerAt) (key : ℕ) (ended : Stop) (n : Tally) (d : CallerAt) : Type 0 where
  pub i : ℕ
  pub pair : Pair
  pub at : IsAt pairs i pair
  pub key_is : key ≡ pair.0
  pub before : CallerAt
  pub tally : Tally
  pub levelled : LevelledTo pairs turns c i tally before
  pub lifted : LiftsNext pair.0 turns ended before tally d n

-- The ways to the keys before this one were so. Then all turns were tried, or fewer than four tickets were left.
pub record StopsBefore (pairs : List Pair) (turns : ℕ) (c : CallerAt) (key : ℕ) (n : Tally) (d : CallerAt) : Type 0 where
  pub i : ℕ
  pub pair : Pair
  pub at : IsAt pairs i pair
  pub key_is : key ≡ pair.0
  pub levelled : LevelledTo pairs turns c i n d
  pub short : (n.tried ≡ turns) ⊎ (d.seat.view.allowance.tickets < 4)

-- All retired slots were given back, by one wait for everybody.
pub record GivesBack (c d : CallerAt) : Type 0 where
  pub index : KeepsCookie c d
  pub keeper : KeepsKeeper c d
  pub back : HasReclaimed (shape_of c.way c.table) c.seat.view c.seat.listed d.seat.view
  pub updates : (key : ℕ) → LeavesNoUpdate c.seat.view key d.seat.view
  pub keeps : KeepsSeat 1 c.seat d.seat
  pub may : MayGoOn d

-- What comes where no slot was free for a turn: too few tickets are left for more; or retired slots were given back, so that the next call
-- may find one free.
abbrev pub MakesSlots : CallerAt → CallerAt → Type 0
MakesSlots c d = ((c.seat.view.allowance.tickets < 4) × (d ≡ c)) ⊎ GivesBack c d

-- or the caller has no retired slots, and nothing was done
pub record HasNoneBack (c d : CallerAt) : Type 0 where
  pub none : c.seat.view.hands.retired ≡ []
  pub same : d ≡ c

-- how that was told of the way to the key
abbrev pub EndsWithoutSlot : CallerAt → ℕ → Ending → CallerAt → Type 0
EndsWithoutSlot c key ending.Level d = ⊥
EndsWithoutSlot c key (ending.Short at) d = (at ≡ key) × MakesSlots c d
EndsWithoutSlot c key (ending.NoSlot at) d = (at ≡ key) × HasNoneBack c d

-- The lift of the way to the key ended since no slot was free for a turn.
abbrev pub StopsForSlots : List Pair → ℕ → CallerAt → ℕ → Tally → CallerAt → Type 0
StopsForSlots pairs turns c key n d = (b : CallerAt) × StopsAt pairs turns c key stop.NoSlot n b × MakesSlots b d

-- how the lifts of ways to listed keys ended
abbrev pub Levels : List Pair → ℕ → CallerAt → Ending → Tally → CallerAt → Type 0
Levels pairs turns c ending.Level n d = LevelledTo pairs turns c (length pairs) n d
Levels pairs turns c (ending.Short key) n d = StopsBefore pairs turns c key n d
    ⊎ (StopsAt pairs turns c key stop.Spent n d ⊎ StopsForSlots pairs turns c key n d)
Levels pairs turns c (ending.NoSlot key) n d = StopsAt pairs turns c key stop.NoSlot n d × IsFilled d

-- what a tidy writes
pub record Output : Type 0 where
  pub made : ℕ
  pub next : ℕ

-- Nothing was written, but that no turn was made.
pub record IsUnwritten (was : ℕ) (out : Output) : Type 0 where
  pub made : out.made ≡ 0
  pub next : out.next ≡ was

-- What is answered of listed keys, behind which this key comes in the range, or none: whether the range is done, or the key with which to go
-- on.
abbrev pub Finishes : List Pair → ℕ → Option ℕ → CallerAt → ℕ → Status → Output → CallerAt → Type 0
Finishes pairs turns after c was Done out d = (n : Tally) × (out.made ≡ n.made) × (after ≡ None) × (out.next ≡ was)
    × Levels pairs turns c ending.Level n d
Finishes pairs turns after c was More out d = (n : Tally) × (out.made ≡ n.made)
    × (((after ≡ Some out.next) × Levels pairs turns c ending.Level n d) ⊎ Levels pairs turns c (ending.Short out.next) n d)
Finishes pairs turns after c was Full out d = (n : Tally) × (out.made ≡ n.made) × Levels pairs turns c (ending.NoSlot out.next) n d
Finishes pairs turns after c was Lost out d = IsLost c d × IsUnwritten was out
Finishes pairs turns after c was _ out d = ⊥

-- the arguments of a tidy are out of range: no key is between the two, or no turn is to be tried
abbrev pub IsBadTidy : Interval → ℕ → Type 0
IsBadTidy keys turns = (keys.high < keys.low) ⊎ (turns ≡ 0)

pub record IsGoodTidy (keys : Interval) (turns : ℕ) : Type 0 where
  pub some : keys.low ≤ keys.high
  pub turns_are : 1 ≤ turns

-- The arguments are in range, and four tickets or more are left.
pub record MayTidy (c : CallerAt) (keys : Interval) (turns : ℕ) : Type 0 where
  pub good : IsGoodTidy keys turns
  pub enough : 4 ≤ c.seat.view.allowance.tickets

-- It listed keys of the range, 256 at most, and lifted the ways to them.
pub record HasTidied (c : CallerAt) (keys : Interval) (turns was : ℕ) (status : Status) (out : Output) (d : CallerAt) : Type 0 where
  pub may : MayTidy c keys turns
  pub page : Paged
  pub capacity : page.capacity ≡ 256
  pub after : Option ℕ
  pub before : CallerAt
  pub front : ℕ
  pub listed : Lists c keys page (record { front = front; next = after }) before
  pub finished : Finishes page.pairs turns after before was status out d

-- a mark of a section at the place, or of a wait there for everybody
abbrev pub IsOfTidy : ℕ → Mark → Type 0
IsOfTidy place mark = (key : ℕ) × IsOfTry place key mark

-- Of its place no marks were left but those of sections entered and left, and of waits for everybody: so none of an update.
pub record LeavesNoUpdates (v w : View) : Type 0 where
  pub marks : List Mark
  pub advanced : HasAdvanced v w marks
  pub each : AllByRecursion (IsOfTidy v.allowance.place) marks

-- What a tidy answers.
abbrev pub Tidies : CallerAt → Interval → ℕ → ℕ → Status → Output → CallerAt → Type 0
Tidies c keys turns was Done out d = HasTidied c keys turns was Done out d
Tidies c keys turns was More out d = HasTidied c keys turns was More out d
Tidies c keys turns was Full out d = HasTidied c keys turns was Full out d
Tidies c keys turns was Busy out d = MayTidy c keys turns × LooksInVain c keys.low d × IsUnwritten was out
Tidies c keys turns was BadArgument out d = IsBadTidy keys turns × IsLeft c d × IsUnwritten was out
Tidies c keys turns was NoMemory out d = MayTidy c keys turns × IsLeft c d × IsUnwritten was out
Tidies c keys turns was Spent out d = IsGoodTidy keys turns × IsSpent 4 c d × IsUnwritten was out
Tidies c keys turns was status out d = IsStoppedBy status c d × IsUnwritten was out

-- A tidy makes no update, whatever it answers, and so no pair changes by it.
abbrev pub TidiesMakeNoUpdate : Type 0
TidiesMakeNoUpdate = (c : CallerAt) (keys : Interval) (turns was : ℕ) (status : Status) (out : Output) (d : CallerAt)
    → d.lost ≡ false → Tidies c keys turns was status out d → LeavesNoUpdates c.seat.view d.seat.view

-- Gets and updates, each alone and one after another.
-- What gets and updates answer, of a caller before and after.
-- Source: docs/TREE_CALLS.md, "The calls".
use Rattle.std.specs.Prelude.{◌≡◌, ◌≢◌, ◌⊎◌, ℕ, zero, suc, ◌+◌, ◌<◌, ◌≤◌, true, false, length, Option, Some, None, List, []}
use Rattle.prcu_model.specs.declared.operation.Op.{Op}
use Rattle.prcu_model.specs.declared.operation.Op.TheVariants.{Put, Get, Del, Set}
use Rattle.prcu_model.specs.declared.operation.Reply.{Reply}
use Rattle.prcu_model.specs.declared.operation.Told.{Told}
use Rattle.seat_table.specs.Gains.{IsInformed}
use Rattle.seat_table.specs.Sections.{HasMade}
use Rattle.seat_table.specs.Seats.{SeatAt, shape_of}
use Rattle.citrus_tree.specs.declared.comparing.Compared.{Compared}
use Rattle.citrus_tree.specs.declared.delete.Removed.{Removed}
use Rattle.citrus_tree.specs.Deletes.{Begins, BeginsByLookup, FoundOther, FoundTwoChildren, WaitsOnceAtMost}
use Rattle.citrus_tree.specs.Hops.{EndsWithin}
use Rattle.citrus_tree.specs.Replies.{GaveWay, IsTold, Compares, TookOut, room_of}
use Rattle.citrus_tree.specs.declared.insert.Reuse.{Reuse}
use Rattle.citrus_tree.specs.Going.{IsExpected, KeepsSeat, KeepsSeatBy, TakesBy}
use Rattle.tree_lift.specs.declared.lifting.Aim.{Aim}
use Rattle.tree_lift.specs.declared.lifting.Lifted.{Lifted}
use Rattle.tree_lift.specs.Lifts.{LeavesNoUpdate, HasLifted as TriesTurns}
use Rattle.tree_handles.specs.Callers.{CallerAt, AreOfOneIndex, IsSameCaller, KeepsCookie, KeepsKeeper, StaysUnlessGone, IsFilled, IsInside, MayGoOn}
use Rattle.tree_handles.specs.Keepers.{IsUnderWay, LacksSlots, SeesToKeeper, ServesInsert, slot_for}
use Rattle.tree_handles.specs.declared.status.Status.{Status}
use Rattle.tree_handles.specs.declared.status.Status.TheVariants.{Done, Unchanged, Full, Moved, New, Different, Busy, Spent, Lost, Holds}
use Rattle.prcu_marks.specs.Callers.{MeetsFronts, IsChain}
use Rattle.prcu_marks.specs.Marks.{updates_of}
use Rattle.prcu_model.specs.Fronts.{told_lines, own_updates}
use Rattle.prcu_model.specs.Dictionary.{Explains}
use Rattle.prcu_model.specs.declared.operation.Reply.TheVariants as reply
use Rattle.citrus_tree.specs.declared.comparing.Compared.TheVariants as compared
use Rattle.citrus_tree.specs.declared.insert.Reuse.TheVariants as reuse
use Rattle.citrus_tree.specs.declared.delete.Removed.TheVariants as removal

-- how many steps a seat has made at least with which a call gives up
abbrev pub patient_steps : ℕ
patient_steps = 18446744073709551615

-- what the tree's call is to take for a pair: an insert uses a slot of its keeper again, where that is over
abbrev pub reuse_for : Op → CallerAt → Reuse
reuse_for (Put key value) c = slot_for c.keeper c.seat.listed
reuse_for _ c = reuse.Free

-- So it took it, where the pair was added.
abbrev pub UsesFor : Op → CallerAt → Told → SeatAt → Type 0
UsesFor (Put key value) c told s =
    told.reply ≡ reply.New → TakesBy (slot_for c.keeper c.seat.listed) c.seat.view.hands.spare c.seat s
UsesFor _ c told s = Unit {0}

-- The tree's call told this of the operation, and left this seat, with at most four tickets less. It began by a lookup of the key; a remove
-- by that once its place had room for what it takes out. To `IsTold`, what the answer says, it adds what the call leaves.
pub record TreeTells (c : CallerAt) (op : Op) (told : Told) (s : SeatAt) : Type 0 where
  pub table : s.table ≡ c.table
  pub answer : IsTold (shape_of c.way c.table) c.seat.view op told s.view
  pub begins : Begins (shape_of c.way c.table) c.seat.view op s.view
  pub keeps : KeepsSeatBy 4 (reuse_for op c) c.seat s
  pub uses : UsesFor op c told s
  pub informed : IsInformed s.view

-- The caller has the seat as it was left, and may go on.
pub record GoesOn (s : SeatAt) (d : CallerAt) : Type 0 where
  pub seat : d.seat ≡ s
  pub may : MayGoOn d

-- A put added the pair of this key.
pub record HasAdded (key : ℕ) (op : Op) (told : Told) : Type 0 where
  pub value : ℕ
  pub put : op ≡ Put key value
  pub new : told.reply ≡ reply.New

-- how many tickets the lift behind an insert uses at most: three for each of 24 attempts
abbrev pub lift_tickets : ℕ
lift_tickets = 72

-- Nodes on the way to the key were lifted by the index's salt, with at most so many tickets: turns were tried, as a lift says, and between them all readers were
-- waited for only where the place had no room for two more retired slots. Of the place no marks were left but those of sections with the
-- key, and of such waits.
pub record HasLifted (key : ℕ) (s : SeatAt) (d : CallerAt) : Type 0 where
  pub aim : Aim
  pub key_is : aim.key ≡ key
  pub salt_is : aim.salt ≡ d.salt
  pub lifted : Lifted
  pub turns : TriesTurns (shape_of d.way d.table) aim lifted s.view d.seat.view
  pub updates : LeavesNoUpdate s.view key d.seat.view
  pub keeps : KeepsSeat lift_tickets s d.seat
  pub informed : IsInformed d.seat.view
  pub may : MayGoOn d

-- The lift gave up in its midst, when the seat had made that many steps.
pub record IsLostBehind (d : CallerAt) : Type 0 where
  pub lost : d.lost ≡ true
  pub tired : HasMade patient_steps d.seat.view

-- What comes behind the tree's call: nothing; or behind a put that added its pair a lift, which may give up.
abbrev pub ComesBehind : Op → Told → SeatAt → CallerAt → Type 0
ComesBehind op told s d = GoesOn s d ⊎ ((key : ℕ) × HasAdded key op told × (HasLifted key s d ⊎ IsLostBehind d))

-- The keeper is there still, or gone, as over any call; or the insert used a slot of it.
pub record MayServe (c d : CallerAt) : Type 0 where
  pub kept : d.lost ≡ false → StaysUnlessGone c.keeper c.seat d.keeper d.seat ⊎ ServesInsert c.keeper d.keeper

-- what becomes of the keeper over the operation
abbrev pub KeepsKeeperBy : Op → CallerAt → CallerAt → Type 0
KeepsKeeperBy (Put key value) c d = MayServe c d
KeepsKeeperBy _ c d = KeepsKeeper c d

-- The caller, which had four tickets or more, made the operation, and was told this by the tree's call. To `TreeTells`, which is of a seat, it
-- adds the caller, and what comes behind the answer: a lift.
pub record IsCalled (c : CallerAt) (op : Op) (told : Told) (d : CallerAt) : Type 0 where
  pub index : KeepsCookie c d
  pub keeper : KeepsKeeperBy op c d
  pub before : MayGoOn c
  pub enough : 4 ≤ c.seat.view.allowance.tickets
  pub answered : SeatAt
  pub tells : TreeTells c op told answered
  pub behind : ComesBehind op told answered d

-- The call of the operation found others in its way, and is to be made again: it made no update. The caller may go on, with at most four
-- tickets less.
pub record IsBusy (op : Op) (c d : CallerAt) : Type 0 where
  pub index : KeepsCookie c d
  pub keeper : KeepsKeeperBy op c d
  pub before : MayGoOn c
  pub enough : 4 ≤ c.seat.view.allowance.tickets
  pub gave : GaveWay (shape_of c.way c.table) c.seat.view op d.seat.view
  pub begins : Begins (shape_of c.way c.table) c.seat.view op d.seat.view
  pub keeps : KeepsSeatBy 4 (reuse_for op c) c.seat d.seat
  pub may : MayGoOn d

-- A reader is known to stay: the keeper isn't over, though the place keeps this many slots back.
pub record MeetsLastingReader (c : CallerAt) : Type 0 where
  pub going : IsUnderWay c.keeper
  pub many : 48 ≤ length c.seat.listed

-- A remove found two children at the key's node, and made no update. Then the node was turned down, or that was given up: no update was made
-- either, and no wait begun.
pub record WasTurnedDown (key : ℕ) (c d : CallerAt) : Type 0 where
  pub between : CallerAt
  pub two : IsBusy (Del key) c between
  pub found : FoundTwoChildren key between.seat.view
  pub index : IsSameCaller between d
  pub updates : LeavesNoUpdate between.seat.view key d.seat.view
  pub waits : d.seat.view.counts.waits ≡ between.seat.view.counts.waits
  pub enough : 4 ≤ d.seat.view.allowance.tickets
  pub may : MayGoOn d

-- so many times, one after another
abbrev pub TurnsDown : ℕ → ℕ → CallerAt → CallerAt → Type 0
TurnsDown key zero c d = d ≡ c
TurnsDown key (suc times) c d = (a : CallerAt) × TurnsDown key times c a × WasTurnedDown key a d

-- Where a reader is known to stay the key's node was turned down, so often.
pub record HasTurnedDown (key : ℕ) (c d : CallerAt) : Type 0 where
  pub times : ℕ
  pub few : times ≤ 64
  pub for_reader : 1 ≤ times → MeetsLastingReader c
  pub turns : TurnsDown key times c d

-- What may come before the tree's call: turns before a del, and nothing before other updates.
abbrev pub MayTurnDown : Op → CallerAt → CallerAt → Type 0
MayTurnDown (Del key) c d = HasTurnedDown key c d
MayTurnDown op c d = d ≡ c

-- What a caller does before an update that retires slots, or takes one: it sees to its keeper, and it may turn a node down.
pub record GetsReady (op : Op) (c d : CallerAt) : Type 0 where
  pub tended : CallerAt
  pub sees : SeesToKeeper c tended
  pub turns : MayTurnDown op tended d

-- Such an update, and what comes before it.
pub record IsCalledTended (c : CallerAt) (op : Op) (told : Told) (d : CallerAt) : Type 0 where
  pub ready : CallerAt
  pub gets : GetsReady op c ready
  pub called : IsCalled ready op told d

-- The same, where the reply was this: the number of the update, which a handle doesn't tell, is some number.
abbrev pub IsAnswered : CallerAt → Op → Reply → CallerAt → Type 0
IsAnswered c op answer d = (told : Told) × (told.reply ≡ answer) × IsCalled c op told d

abbrev pub IsAnsweredTended : CallerAt → Op → Reply → CallerAt → Type 0
IsAnsweredTended c op answer d = (told : Told) × (told.reply ≡ answer) × IsCalledTended c op told d

-- Fewer tickets are left than the call needs, and nothing has changed.
pub record IsSpent (needed : ℕ) (c d : CallerAt) : Type 0 where
  pub same : d ≡ c
  pub may : MayGoOn c
  pub few : c.seat.view.allowance.tickets < needed

-- The call gave up in its midst, when its seat had made that many steps; or an earlier one had, and then nothing has changed.
pub record IsLost (c d : CallerAt) : Type 0 where
  pub index : AreOfOneIndex c d
  pub lost : d.lost ≡ true
  pub tired : c.lost ≡ false → HasMade patient_steps d.seat.view
  pub earlier : c.lost ≡ true → d ≡ c

-- The caller is in a section, and nothing has changed.
pub record StaysInside (c d : CallerAt) : Type 0 where
  pub same : d ≡ c
  pub inside : IsInside c

-- why a call that needs no ticket wasn't made, or didn't come to its end
abbrev pub IsStoppedBy : Status → CallerAt → CallerAt → Type 0
IsStoppedBy Lost c d = IsLost c d
IsStoppedBy Holds c d = StaysInside c d
IsStoppedBy _ c d = ⊥

-- the same of a call that needs so many tickets
abbrev pub IsHinderedBy : ℕ → Status → CallerAt → CallerAt → Type 0
IsHinderedBy needed Spent c d = IsSpent needed c d
IsHinderedBy needed status c d = IsStoppedBy status c d

-- The place lacks the slots for a remove, and the keeper isn't over. Nothing has changed.
pub record LacksRoom (c d : CallerAt) : Type 0 where
  pub same : d ≡ c
  pub may : MayGoOn c
  pub going : IsUnderWay c.keeper
  pub lacks : LacksSlots c.seat

-- Why the update of a caller that is ready for it wasn't made.
abbrev pub CausedReady : Op → Status → CallerAt → CallerAt → Type 0
CausedReady op Busy c d = IsBusy op c d ⊎ LacksRoom c d
CausedReady op status c d = IsHinderedBy 4 status c d

-- Such an update found others in its way, or no room, once the caller was ready for it.
pub record IsBusyTended (op : Op) (c d : CallerAt) : Type 0 where
  pub ready : CallerAt
  pub gets : GetsReady op c ready
  pub busy : CausedReady op Busy ready d

-- the same of an update, which needs four, and may find others in its way
abbrev pub CausedBy : Op → Status → CallerAt → CallerAt → Type 0
CausedBy op Busy c d = IsBusy op c d
CausedBy op status c d = IsHinderedBy 4 status c d

abbrev pub CausedTended : Op → Status → CallerAt → CallerAt → Type 0
CausedTended op Busy c d = IsBusyTended op c d
CausedTended op status c d = IsHinderedBy 4 status c d

-- Whatever others did, the call made at most three steps for each slot of the table, and four.
abbrev pub IsWaitFree : CallerAt → CallerAt → Type 0
IsWaitFree c d = EndsWithin (shape_of c.way c.table) 4 c.seat.view d.seat.view

-- What a get answers. `was` is what stood where the value is told. It gives up in no case, so it is Lost only where an earlier call gave up.
abbrev pub Gets : CallerAt → ℕ → ℕ → Status → ℕ → CallerAt → Type 0
Gets c key was Done value d = IsAnswered c (Get key) (reply.Val value) d × IsWaitFree c d
Gets c key was Unchanged value d = IsAnswered c (Get key) reply.Absent d × IsWaitFree c d × (value ≡ was)
Gets c key was status value d = IsHinderedBy 4 status c d × (d ≡ c) × (value ≡ was)

-- What an insert answers. To `IsAnswered` it adds the status for each reply, and why no call was made. It is Full only where as many pairs are
-- there as always fit.
abbrev pub Inserts : CallerAt → ℕ → ℕ → Status → CallerAt → Type 0
Inserts c key value Done d = IsAnsweredTended c (Put key value) reply.New d
Inserts c key value Unchanged d = IsAnsweredTended c (Put key value) reply.Old d
Inserts c key value Full d = IsAnsweredTended c (Put key value) reply.Full d × IsFilled d
Inserts c key value status d = CausedTended (Put key value) status c d

abbrev pub Replaces : CallerAt → ℕ → ℕ → ℕ → Status → ℕ → CallerAt → Type 0
Replaces c key value was Done old d = IsAnswered c (Set key value) (reply.Was old) d
Replaces c key value was Unchanged old d = IsAnswered c (Set key value) reply.Absent d × (old ≡ was)
Replaces c key value was status old d = CausedBy (Set key value) status c d × (old ≡ was)

-- The tree's call took the key's pair out, and told its value, which is the expected one, if one is; or the key was absent. Or its last search
-- found another value, and it made no update.
abbrev pub IsRemoved : CallerAt → ℕ → Option ℕ → Removed → CallerAt → Type 0
IsRemoved c key expected (removal.Gone number value) d = IsCalled c (Del key) (record { reply = reply.Gone; number = number }) d
    × TookOut (updates_of d.seat.view.seen) c.seat.view.allowance.place key value number × IsExpected expected value
IsRemoved c key expected (removal.Differs found) d = IsBusy (Del key) c d × FoundOther c.seat.view key expected found d.seat.view
IsRemoved c key expected removal.Absent d = IsCalled c (Del key) (record { reply = reply.Absent; number = 0 }) d

-- No more turns are made: so many were, or fewer tickets are left than one takes with the removes around it.
abbrev pub StopsTurning : ℕ → CallerAt → Type 0
StopsTurning times c = (times ≡ 64) ⊎ (c.seat.view.allowance.tickets < 11)

-- The same behind turns, of a caller that had room or no keeper. Where a reader is known to stay it waits for no readers of a move, unless no
-- more turns are made.
pub record IsRemovedReady (c : CallerAt) (key : ℕ) (expected : Option ℕ) (answer : Removed) (d : CallerAt) : Type 0 where
  pub ready : CallerAt
  pub turned : HasTurnedDown key c ready
  pub removed : IsRemoved ready key expected answer d
  pub had_room : LacksRoom c c → ⊥
  pub waits : MeetsLastingReader c → WaitsOnceAtMost (shape_of ready.way ready.table) ready.seat.view d.seat.view
      ⊎ StopsTurning turned.times ready

-- with what the caller did about its keeper
pub record IsRemovedTended (c : CallerAt) (key : ℕ) (expected : Option ℕ) (answer : Removed) (d : CallerAt) : Type 0 where
  pub tended : CallerAt
  pub sees : SeesToKeeper c tended
  pub removed : IsRemovedReady tended key expected answer d

abbrev pub Removes : CallerAt → ℕ → ℕ → Status → ℕ → CallerAt → Type 0
Removes c key was Done old d = (number : ℕ) × IsRemovedTended c key None (removal.Gone number old) d
Removes c key was Unchanged old d = IsRemovedTended c key None removal.Absent d × (old ≡ was)
Removes c key was status old d = CausedTended (Del key) status c d × (old ≡ was)

-- What a take answers: a remove of the pair with the expected value. `was` is what stood where the value found is told.
abbrev pub TakesOut : CallerAt → ℕ → ℕ → ℕ → Status → ℕ → CallerAt → Type 0
TakesOut c key expected was Done found d =
    (number : ℕ) × IsRemovedTended c key (Some expected) (removal.Gone number expected) d × (found ≡ was)
TakesOut c key expected was Different found d = IsRemovedTended c key (Some expected) (removal.Differs found) d
TakesOut c key expected was Unchanged found d = IsRemovedTended c key (Some expected) removal.Absent d × (found ≡ was)
TakesOut c key expected was status found d = CausedTended (Del key) status c d × (found ≡ was)

-- The caller, which had four tickets or more, made a compare, which was answered so by the tree's, and began by a lookup of the key. Nothing
-- comes behind it.
pub record IsCompared (c : CallerAt) (key expected value : ℕ) (answer : Compared) (d : CallerAt) : Type 0 where
  pub index : KeepsCookie c d
  pub keeper : KeepsKeeper c d
  pub before : MayGoOn c
  pub enough : 4 ≤ c.seat.view.allowance.tickets
  pub told : Compares c.seat.view key expected value answer d.seat.view
  pub begins : BeginsByLookup c.seat.view key d.seat.view
  pub keeps : KeepsSeat 4 c.seat d.seat
  pub informed : IsInformed d.seat.view
  pub may : MayGoOn d

-- What a compare answers. `was` is what stood where the value found is told.
abbrev pub ComparesOut : CallerAt → ℕ → ℕ → ℕ → ℕ → Status → ℕ → CallerAt → Type 0
ComparesOut c key expected value was Done found d = (number : ℕ) × IsCompared c key expected value (compared.Replaced number) d × (found ≡ was)
ComparesOut c key expected value was Different found d = IsCompared c key expected value (compared.Differs found) d
ComparesOut c key expected value was Unchanged found d = IsCompared c key expected value compared.Absent d × (found ≡ was)
ComparesOut c key expected value was status found d = CausedBy (Set key value) status c d × (found ≡ was)

-- So many rounds of an upsert made no update: each time the key was absent at the set, and there at the put.
abbrev pub Misses : CallerAt → ℕ → ℕ → ℕ → CallerAt → Type 0
Misses c key value zero d = d ≡ c
Misses c key value (suc rounds) d = (a b : CallerAt) × Misses c key value rounds a × IsAnswered a (Set key value) reply.Absent b
    × IsAnsweredTended b (Put key value) reply.Old d

-- fewer than a thousand such rounds
abbrev pub MissesSome : CallerAt → ℕ → ℕ → CallerAt → Type 0
MissesSome c key value d = (rounds : ℕ) × (rounds < 1000) × Misses c key value rounds d

-- the same, and the set of one more
abbrev pub MissesOnceMore : CallerAt → ℕ → ℕ → CallerAt → Type 0
MissesOnceMore c key value d = (a : CallerAt) × MissesSome c key value a × IsAnswered a (Set key value) reply.Absent d

-- An upsert makes at most one update, by its last call. It gives up after a thousand rounds.
abbrev pub Upserts : CallerAt → ℕ → ℕ → ℕ → Status → ℕ → CallerAt → Type 0
Upserts c key value was Done old d = (a : CallerAt) × MissesSome c key value a × IsAnswered a (Set key value) (reply.Was old) d
Upserts c key value was New old d = (a : CallerAt) × MissesOnceMore c key value a × IsAnsweredTended a (Put key value) reply.New d × (old ≡ was)
Upserts c key value was Full old d = (a : CallerAt) × MissesOnceMore c key value a × IsAnsweredTended a (Put key value) reply.Full d × IsFilled d
    × (old ≡ was)
Upserts c key value was Moved old d = (rounds : ℕ) × (rounds ≡ 1000) × Misses c key value rounds d × (old ≡ was)
Upserts c key value was Holds old d = StaysInside c d × (old ≡ was)
Upserts c key value was status old d = (a : CallerAt) × ((MissesSome c key value a × CausedBy (Set key value) status a d)
    ⊎ (MissesOnceMore c key value a × CausedTended (Put key value) status a d)) × (old ≡ was)

-- Calls of a handle, one after another.
-- Source: docs/ACCOUNTS.md, "Clients".

-- So many calls of the operation, one after another, found others in their way.
abbrev pub WereBusy : ℕ → Op → CallerAt → CallerAt → Type 0
WereBusy zero op c d = d ≡ c
WereBusy (suc calls) op c d = (a : CallerAt) × WereBusy calls op c a × (IsBusy op a d ⊎ IsBusyTended op a d)

-- The caller made the operation, again and again while others were in its way. At last it was told this, and it isn't lost.
pub record IsCalledAndKept (c : CallerAt) (op : Op) (told : Told) (d : CallerAt) : Type 0 where
  pub calls : ℕ
  pub first : CallerAt
  pub busy : WereBusy calls op c first
  pub called : IsCalled first op told d ⊎ IsCalledTended first op told d
  pub kept : d.lost ≡ false

-- Of a caller whose place had made no update, the calls so far tell of lines that fit the updates that it has seen.
abbrev pub CallsMeetFronts : Type 0
CallsMeetFronts = (ops : List Op) (tolds : List Told) (before after : CallerAt)
    → own_updates before.seat.view.allowance.place (updates_of before.seat.view.seen) ≡ []
    → IsChain IsCalledAndKept before ops tolds after → MeetsFronts (Explains (room_of (shape_of before.way before.table)))
    (updates_of after.seat.view.seen) before.seat.view.allowance.place (told_lines ops tolds)

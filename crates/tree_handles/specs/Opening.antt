-- What is answered where handles are opened, shared, opened again and asked what they have left, and what they know.
-- Source: docs/EMBEDDING.md, "Statuses".
use Rattle.std.specs.Prelude.{◌≡◌, ◌≢◌, ℕ, ◌+◌, ◌-◌, ◌*◌, ◌/◌, ◌<◌, ◌≤◌, zero, suc, max, min, true, Option, Some, None, length}
use Rattle.core_state.specs.Memory.{most_slots, most_places}
use Rattle.seat_table.specs.Seats.{IsLastFound}
use Rattle.tree_handles.specs.Callers.{CallerAt, IsFresh, IsShared, IsReopened, slots_for}
use Rattle.tree_handles.specs.Calls.{StaysInside}
use Rattle.tree_handles.specs.Lists.{IsLeft}
use Rattle.tree_handles.specs.declared.opening.Options.{Options}
use Rattle.tree_handles.specs.declared.stats.Stats.{Stats}
use Rattle.tree_handles.specs.declared.status.Status.{Status}
use Rattle.tree_handles.specs.declared.status.Status.TheVariants.{Done, Unchanged, BadArgument, NoMemory, Lost, Holds}

-- the most pairs, with every number of handles: those for which there are slots enough beside what so many handles may keep back, each its
-- room and four
abbrev pub most_pairs : ℕ
most_pairs = most_slots - 68 * most_places

-- how many bytes a record of options takes. There is one form of it yet.
abbrev pub options_size : ℕ
options_size = 32

-- the salt of an index that was opened without one: who has the library knows it
abbrev pub known_salt : ℕ
known_salt = 0x9e3779b97f4a7c15

-- the options of an open without a salt
abbrev pub options_of : ℕ → ℕ → ℕ → Options
options_of pairs handles waiter = record {
  size = options_size;
  pairs = pairs;
  handles = handles;
  waiter = waiter;
  flags = 0;
  salt = known_salt;
}

-- An index can be made by these options: for so many pairs and handles, with this waiter, and the record is of the size that is known, with
-- no flag, since none is known.
pub record CanOpen (o : Options) : Type 0 where
  pub size_is : o.size ≡ options_size
  pub flags_are : o.flags ≡ 0
  pub pairs_are : (1 ≤ o.pairs) × (o.pairs ≤ most_pairs)
  pub handles_are : (1 ≤ o.handles) × (o.handles ≤ most_places)
  pub way_is : o.waiter ≤ 2

-- how many retired slots a handle of an index may keep back that is opened for so many pairs and handles, and with no number of its own: an
-- eighth of the pairs that there are for each handle, but 64 at least, and 65,536 at most, and no more than there can be slots for
abbrev pub usual_keep : ℕ → ℕ → ℕ
usual_keep pairs handles = min (min (max (pairs / (8 * handles)) 64) 65536) ((most_slots - pairs) / handles - 4)

-- What an open answers, of what the handle holds before and after.
abbrev pub Opens : Options → Option CallerAt → Status → Option CallerAt → Type 0
Opens o before Done after = (c : CallerAt) × (after ≡ Some c)
    × IsFresh o.waiter o.pairs o.handles (usual_keep o.pairs o.handles) o.salt c
Opens o before BadArgument after = (CanOpen o → ⊥) × (after ≡ before)
Opens o before NoMemory after = CanOpen o × (after ≡ before)
Opens o before _ after = ⊥

-- what the number stands for that an opener gives: 0 for the usual one, and each other for itself
abbrev pub keep_for : ℕ → ℕ → ℕ → ℕ
keep_for pairs handles zero = usual_keep pairs handles
keep_for pairs handles (suc n) = suc n

-- An index can be made by these options, each of whose handles may keep back so many retired slots: 16 or more. It has slots for the pairs,
-- and for what all handles may keep back, each so many and four; and they are no more than a table can have.
pub record CanKeep (o : Options) (keep : ℕ) : Type 0 where
  pub size_is : o.size ≡ options_size
  pub flags_are : o.flags ≡ 0
  pub some_pairs : 1 ≤ o.pairs
  pub handles_are : (1 ≤ o.handles) × (o.handles ≤ most_places)
  pub way_is : o.waiter ≤ 2
  pub some_keep : 16 ≤ keep
  pub fits : slots_for o.pairs o.handles keep ≤ most_slots

-- What an open that names what a handle may keep back answers, of what the handle holds before and after.
abbrev pub OpensKeeping : Options → ℕ → Option CallerAt → Status → Option CallerAt → Type 0
OpensKeeping o asked before Done after = (c : CallerAt) × (after ≡ Some c)
    × IsFresh o.waiter o.pairs o.handles (keep_for o.pairs o.handles asked) o.salt c
OpensKeeping o asked before BadArgument after = (CanKeep o (keep_for o.pairs o.handles asked) → ⊥) × (after ≡ before)
OpensKeeping o asked before NoMemory after = CanKeep o (keep_for o.pairs o.handles asked) × (after ≡ before)
OpensKeeping o asked before _ after = ⊥

-- so many of the caller's unused handles, and so many of its tickets, can go over to another
pub record CanShare (c : CallerAt) (handles tickets : ℕ) : Type 0 where
  pub handles_are : (1 ≤ handles) × (handles < c.seat.view.allowance.places)
  pub tickets_are : tickets ≤ c.seat.view.allowance.tickets

-- What a share answers, of the caller, and of what the other handle holds before and after.
abbrev pub Shares : CallerAt → ℕ → ℕ → Option CallerAt → Status → CallerAt → Option CallerAt → Type 0
Shares c handles tickets was Done d other = (e : CallerAt) × (other ≡ Some e) × IsShared c handles tickets d e
Shares c handles tickets was BadArgument d other = (CanShare c handles tickets → ⊥) × IsLeft c d × (other ≡ was)
Shares c handles tickets was NoMemory d other = CanShare c handles tickets × IsLeft c d × (other ≡ was)
Shares c handles tickets was Lost d other = (c.lost ≡ true) × (d ≡ c) × (other ≡ was)
Shares c handles tickets was Holds d other = StaysInside c d × (other ≡ was)
Shares c handles tickets was _ d other = ⊥

-- why there is no other caller: nothing was found that a closed one left, or memory is short
abbrev pub FailsToReopen : Status → Type 0
FailsToReopen Unchanged = Unit {0}
FailsToReopen NoMemory = Unit {0}
FailsToReopen _ = ⊥

-- What a reopen answers, of the caller, and of what the other handle holds before and after.
abbrev pub Reopens : CallerAt → Option CallerAt → Status → CallerAt → Option CallerAt → Type 0
Reopens c was Done d other = (e : CallerAt) × (was ≡ None) × (other ≡ Some e) × IsReopened c e × IsLeft c d
Reopens c was BadArgument d other = (e : CallerAt) × (was ≡ Some e) × (other ≡ was) × IsLeft c d
Reopens c was Lost d other = (c.lost ≡ true) × (d ≡ c) × (other ≡ was)
Reopens c was Holds d other = StaysInside c d × (other ≡ was)
Reopens c was status d other = FailsToReopen status × (was ≡ None) × (other ≡ was) × IsLeft c d

-- How many more handles can be shared from it, and how many tickets it has.
pub record HasLeft (c : CallerAt) (handles tickets : ℕ) (d : CallerAt) : Type 0 where
  pub handles_are : handles + 1 ≡ c.seat.view.allowance.places
  pub tickets_are : tickets ≡ c.seat.view.allowance.tickets
  pub same : d ≡ c

-- how many bytes what a handle tells takes. There is one form of it yet.
abbrev pub stats_size : ℕ
stats_size = 64

-- The numbers are those of the caller: its table's slots, places and room; the free slots as its place last found or left them; the waits
-- that it began; the retired slots that it lists; and the handles and tickets that can be shared from it.
pub record HasStats (c : CallerAt) (stats : Stats) : Type 0 where
  pub slots_are : stats.slots ≡ c.table.slots
  pub free_are : IsLastFound c.table.slots stats.free c.seat.view.latest.free
  pub waits_are : stats.waits ≡ c.seat.view.counts.waits
  pub tickets_are : stats.tickets ≡ c.seat.view.allowance.tickets
  pub kept_are : stats.kept ≡ length c.seat.listed
  pub room_is : stats.room ≡ c.table.room
  pub handles_are : stats.handles ≡ c.table.places
  pub unshared_are : stats.unshared + 1 ≡ c.seat.view.allowance.places

-- What a handle that is asked what it knows answers, of the caller, and of the record before and after.
abbrev pub TellsStats : CallerAt → Stats → Status → Stats → CallerAt → Type 0
TellsStats c was Done stats d = (was.size ≡ stats_size) × (stats.size ≡ stats_size) × HasStats c stats × (d ≡ c)
TellsStats c was BadArgument stats d = (was.size ≢ stats_size) × (stats ≡ was) × (d ≡ c)
TellsStats c was _ stats d = ⊥

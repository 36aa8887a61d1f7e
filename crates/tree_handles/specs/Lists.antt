-- What lists answer, of a caller before and after.
-- Source: docs/TREE_CALLS.md, "Lists of a key range".
use Rattle.std.specs.Prelude.{◌≡◌, ◌⊎◌, ℕ, ◌<◌, ◌≤◌, List, ◌++◌, length, map, drop, Some, None}
use Rattle.core_state.specs.Memory.{most_slots}
use Rattle.core_state.specs.declared.view.StepMade.{StepMade}
use Rattle.key_interval.specs.Keys.{Interval, Holds}
use Rattle.prcu_marks.specs.declared.mark.Side.{Side}
use Rattle.prcu_marks.specs.declared.mark.Side.TheVariants.{Left, Right}
use Rattle.prcu_marks.specs.Marks.{updates_of}
use Rattle.exact_list.specs.declared.alone.Exact.{Exact}
use Rattle.exact_list.specs.Loads.{HasListed, HoldsExactlyTo, IsOneWalk, IsOneWayDown, IsNearest}
use Rattle.exact_list.specs.declared.nearest.Nearest.{Nearest}
use Rattle.exact_list.specs.Tries.{Paged, HasGivenWay, IsBetweenFronts}
use Rattle.exact_list.specs.Pairs.{had_at}
use Rattle.exact_list.specs.Pairs as found
use Rattle.tree_handles.specs.Callers.{CallerAt, IsSameCaller, MayGoOn}
use Rattle.tree_handles.specs.Calls.{IsStoppedBy}
use Rattle.tree_handles.specs.declared.lists.Pair.{Pair}
use Rattle.tree_handles.specs.declared.status.Status.{Status}
use Rattle.tree_handles.specs.declared.status.Status.TheVariants.{Done, Unchanged, More, Busy, BadArgument, NoMemory}

-- The caller looked in sections with this key, and what it found is so after so many updates: by one of at most four tries, each a section
-- with looks at the front, or under the front, which it held for one more. All that it loaded under the front is this walk. It may go on,
-- and no ticket was taken.
pub record Looks (c : CallerAt) (key front : ℕ) (walk : List StepMade → Type 0) (d : CallerAt) : Type 0 where
  pub index : IsSameCaller c d
  pub before : MayGoOn c
  pub after : MayGoOn d
  pub tickets : d.seat.view.allowance.tickets ≡ c.seat.view.allowance.tickets
  pub came : HasListed c.seat.view key front 4 walk d.seat.view

-- The caller looked in four sections with this key, with updates in each, and then didn't get the front, under which it would have looked once
-- more. So the call is to be made again. It may go on, and no ticket was taken.
pub record LooksInVain (c : CallerAt) (key : ℕ) (d : CallerAt) : Type 0 where
  pub index : IsSameCaller c d
  pub before : MayGoOn c
  pub after : MayGoOn d
  pub tickets : d.seat.view.allowance.tickets ≡ c.seat.view.allowance.tickets
  pub gave : HasGivenWay c.seat.view key 4 d.seat.view

-- why a call that looks in sections with this key found nothing out
abbrev pub IsPreventedBy : ℕ → Status → CallerAt → CallerAt → Type 0
IsPreventedBy key Busy c d = LooksInVain c key d
IsPreventedBy key status c d = IsStoppedBy status c d

-- The caller listed these keys on the page, to this side: ascending to the right, descending to the left.
pub record ListsTo (side : Side) (c : CallerAt) (keys : Interval) (page : Paged) (exact : Exact) (d : CallerAt) : Type 0 where
  pub looks : Looks c keys.low exact.front (IsOneWalk page.pairs exact.next) d
  pub holds : HoldsExactlyTo side exact keys d.seat.view.seen page
  pub recent : IsBetweenFronts exact.front c.seat.view.seen d.seat.view.seen

abbrev pub Lists : CallerAt → Interval → Paged → Exact → CallerAt → Type 0
Lists c keys page exact d = ListsTo Right c keys page exact d

-- what a list writes
pub record Output : Type 0 where
  pub pairs : List Pair
  pub count : ℕ
  pub next : ℕ

-- a pair of the dictionary, as it is written
abbrev pub pair_of : found.Pair → Pair
pair_of p = record { key = p.0; value = p.1 }

-- The page was written at the beginning of the room, and the rest is as it was.
pub record IsWritten (was : Output) (page : Paged) (out : Output) : Type 0 where
  pub room : page.capacity ≡ length was.pairs
  pub count : out.count ≡ length page.pairs
  pub pairs : out.pairs ≡ map pair_of page.pairs ++ drop (length page.pairs) was.pairs

-- Nothing was written, but that there are no pairs.
pub record IsUnwritten (was out : Output) : Type 0 where
  pub count : out.count ≡ 0
  pub pairs : out.pairs ≡ was.pairs
  pub next : out.next ≡ was.next

-- the arguments of a list are out of range: no key is between the two, or there is no room, or too much
abbrev pub IsBadList : Interval → ℕ → Type 0
IsBadList keys room = (keys.high < keys.low) ⊎ ((room ≡ 0) ⊎ (most_slots < room))

pub record IsGoodList (keys : Interval) (room : ℕ) : Type 0 where
  pub some : keys.low ≤ keys.high
  pub room_is : (1 ≤ room) × (room ≤ most_slots)

-- The caller may go on, and nothing has changed.
pub record IsLeft (c d : CallerAt) : Type 0 where
  pub same : d ≡ c
  pub may : MayGoOn c

-- What a list to this side answers. At Done and More these are the pairs that the dictionary had at one front.
abbrev pub ListsOutTo : Side → CallerAt → Interval → Output → Status → Output → CallerAt → Type 0
ListsOutTo side c keys was Done out d = (front : ℕ) × (page : Paged) × ListsTo side c keys page (record { front = front; next = None }) d
    × IsWritten was page out × (out.next ≡ was.next)
ListsOutTo side c keys was More out d = (front : ℕ) × (page : Paged)
    × ListsTo side c keys page (record { front = front; next = Some out.next }) d × IsWritten was page out
ListsOutTo side c keys was Busy out d = IsGoodList keys (length was.pairs) × LooksInVain c keys.low d × IsUnwritten was out
ListsOutTo side c keys was BadArgument out d = IsBadList keys (length was.pairs) × IsLeft c d × IsUnwritten was out
ListsOutTo side c keys was NoMemory out d = IsGoodList keys (length was.pairs) × IsLeft c d × IsUnwritten was out
ListsOutTo side c keys was status out d = IsStoppedBy status c d × IsUnwritten was out

abbrev pub ListsOut : CallerAt → Interval → Output → Status → Output → CallerAt → Type 0
ListsOut c keys was status out d = ListsOutTo Right c keys was status out d

-- and down, with keys descending: at More the next key is the greatest one that isn't listed
abbrev pub ListsOutDown : CallerAt → Interval → Output → Status → Output → CallerAt → Type 0
ListsOutDown c keys was status out d = ListsOutTo Left c keys was status out d

-- The caller looked for the pair at this key, or the nearest one on that side of it, and it is the one after so many updates.
pub record Seeks (c : CallerAt) (side : Side) (from : ℕ) (nearest : Nearest) (d : CallerAt) : Type 0 where
  pub looks : Looks c from nearest.front (IsOneWayDown nearest.pair) d
  pub is : IsNearest (had_at (updates_of d.seat.view.seen) nearest.front) side from nearest.pair
  pub recent : IsBetweenFronts nearest.front c.seat.view.seen d.seat.view.seen

-- the end of the range from which a search goes to that side: up from its low end, or down from its high end
abbrev pub end_of : Side → Interval → ℕ
end_of Right keys = keys.low
end_of Left keys = keys.high

-- The dictionary had this pair of the range after some number of updates, and none nearer to the end from which the search went.
pub record FindsPairIn (c : CallerAt) (side : Side) (keys : Interval) (pair : found.Pair) (d : CallerAt) : Type 0 where
  pub inside : Holds keys pair.0
  pub front : ℕ
  pub seeks : Seeks c side (end_of side keys) (record { front = front; pair = Some (record { key = pair.0; value = pair.1 }) }) d

-- It had none in the range.
pub record FindsNoneIn (c : CallerAt) (side : Side) (keys : Interval) (d : CallerAt) : Type 0 where
  pub nearest : Nearest
  pub seeks : Seeks c side (end_of side keys) nearest d
  pub none : (key : ℕ) → Holds keys key → had_at (updates_of d.seat.view.seen) nearest.front key ≡ None

-- What a search answers for a pair of the range: for the first one to the right, for the last one to the left. `was` is what stood where the
-- pair is told.
abbrev pub Finds : CallerAt → Side → Interval → found.Pair → Status → found.Pair → CallerAt → Type 0
Finds c side keys was Done out d = FindsPairIn c side keys out d
Finds c side keys was Unchanged out d = FindsNoneIn c side keys d × (out ≡ was)
Finds c side keys was status out d = IsPreventedBy (end_of side keys) status c d × (out ≡ was)

-- What a first answers, of the keys from this one on.
abbrev pub Firsts : CallerAt → ℕ → found.Pair → Status → found.Pair → CallerAt → Type 0
Firsts c low = Finds c Right (record { low = low; high = 18446744073709551615 })

-- What a last answers. It has none where no key is between the two.
abbrev pub Lasts : CallerAt → Interval → found.Pair → Status → found.Pair → CallerAt → Type 0
Lasts c keys = Finds c Left keys

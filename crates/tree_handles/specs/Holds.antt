-- Sections that stay open, and waits, which are whole, or begun and asked about.
-- What calls answer that leave a section open, leave it, or wait for the sections of others.
-- Source: docs/EMBEDDING.md, "Statuses".
use Rattle.std.specs.Prelude.{◌≡◌, ◌⊎◌, ℕ, ◌+◌, ◌<◌, ◌≤◌, true, Option, Some, None, ◌≢◌, false}
use Rattle.key_interval.specs.Keys.{Interval}
use Rattle.seat_table.specs.Sections.{HasEntered, EntersBy, HasLeft, HasBegun}
use Rattle.seat_table.specs.Seats.{SeatAt, shape_of, way_of}
use Rattle.seat_table.specs.Waits.{HasWaited}
use Rattle.citrus_tree.specs.Lookups.{HoldsOrNot, Releases}
use Rattle.tree_handles.specs.Callers.{if_over, CallerAt, IsSameCaller, IsInside, MayGoOn, AreOfOneIndex, KeepsCookie}
use Rattle.tree_handles.specs.Calls.{IsSpent, IsStoppedBy, IsWaitFree}
use Rattle.tree_handles.specs.Lists.{IsLeft}
use Rattle.tree_handles.specs.declared.status.Status.{Status}
use Rattle.tree_handles.specs.declared.status.Status.TheVariants.{Done, Unchanged, BadArgument, Spent, Lost, Moved}
use Rattle.prcu_marks.specs.declared.mark.Why.{Why}
use Rattle.seat_table.specs.Looks.{LooksAt, IsOnward, IsWithin}
use Rattle.grace_cookie.specs.declared.answers.Ask.{Ask}
use Rattle.grace_cookie.specs.declared.answers.Ask.TheVariants.{Over, NotYet}
use Rattle.grace_cookie.specs.Cookies.{CookieAt, Asked, IsSameCookie}

-- where a hold found a value the caller is in a section, and else it may go on
abbrev pub IsLeftBy : Option ℕ → CallerAt → Type 0
IsLeftBy (Some value) d = IsInside d
IsLeftBy None d = MayGoOn d

-- The caller looked the key up in a section, which is open where the key has a value, with few steps whatever others did.
pub record HasHeld (c : CallerAt) (key : ℕ) (value : Option ℕ) (d : CallerAt) : Type 0 where
  pub index : IsSameCaller c d
  pub before : MayGoOn c
  pub held : HoldsOrNot c.seat.view key value d.seat.view
  pub soon : IsWaitFree c d
  pub after : IsLeftBy value d

-- What a hold answers. `was` is what stood where the value is told. It gives up in no case, so it is Lost only where an earlier call gave up.
abbrev pub HoldsValue : CallerAt → ℕ → ℕ → Status → ℕ → CallerAt → Type 0
HoldsValue c key was Done value d = HasHeld c key (Some value) d
HoldsValue c key was Unchanged value d = HasHeld c key None d × (value ≡ was)
HoldsValue c key was status value d = IsStoppedBy status c d × (d ≡ c) × (value ≡ was)

-- The caller entered a section with the key, by just the steps of its waiter.
pub record IsEntered (c : CallerAt) (key : ℕ) (d : CallerAt) : Type 0 where
  pub index : IsSameCaller c d
  pub before : MayGoOn c
  pub entered : HasEntered c.seat.view key d.seat.view
  pub steps : EntersBy (way_of c.way) c.seat.view key d.seat.view
  pub after : IsInside d

-- What an enter answers.
abbrev pub Enters : CallerAt → ℕ → Status → CallerAt → Type 0
Enters c key Done d = IsEntered c key d
Enters c key status d = IsStoppedBy status c d

-- The open section was left. Whatever was held in it, the dictionary gave at a front between the section's marks.
pub record IsReleased (c d : CallerAt) : Type 0 where
  pub index : IsSameCaller c d
  pub before : IsInside c
  pub left : HasLeft c.seat.view d.seat.view
  pub released : Releases c.seat.view d.seat.view
  pub after : MayGoOn d

-- What a release answers. It is Unchanged where the caller is in no section.
abbrev pub LeavesSection : CallerAt → Status → CallerAt → Type 0
LeavesSection c Done d = IsReleased c d
LeavesSection c Unchanged d = IsLeft c d
LeavesSection c Lost d = (c.lost ≡ true) × (d ≡ c)
LeavesSection c _ d = ⊥

-- What a close does with its seat before another may have it: the open section is left; or none was open, and no step is made.
abbrev pub EndsOutside : SeatAt → SeatAt → Type 0
EndsOutside s t = HasLeft s.view t.view ⊎ ((s.view.section ≡ None) × (t ≡ s))

-- The caller waited for the sections with these keys, by one ticket.
pub record HasOutwaited (c : CallerAt) (keys : Interval) (d : CallerAt) : Type 0 where
  pub index : KeepsCookie c d
  pub keeper : d.keeper ≡ if_over c.keeper
  pub before : MayGoOn c
  pub some : keys.low ≤ keys.high
  pub waited : HasWaited (shape_of c.way c.table) c.seat.view keys.low keys.high d.seat.view
  pub tickets : d.seat.view.allowance.tickets + 1 ≡ c.seat.view.allowance.tickets
  pub after : MayGoOn d

-- What a wait answers. It is a bad argument where no key is between the two.
abbrev pub Waits : CallerAt → Interval → Status → CallerAt → Type 0
Waits c keys Done d = HasOutwaited c keys d
Waits c keys BadArgument d = (keys.high < keys.low) × IsLeft c d
Waits c keys Spent d = (keys.low ≤ keys.high) × IsSpent 1 c d
Waits c keys status d = IsStoppedBy status c d

-- What calls answer that begin a wait, or ask about one.
-- Source: docs/TREE_CALLS.md, "Cookies".

-- The caller has the cookie of the wait with this number, which is for these keys.
pub record HasCookieOf (keys : Interval) (number : ℕ) (d : CallerAt) : Type 0 where
  pub cookie : CookieAt
  pub is : d.cookie ≡ Some cookie
  pub keys_are : cookie.keys ≡ keys
  pub number_is : cookie.count ≡ number

-- A wait for these keys was begun, by one ticket. Its number is how many the caller's place had begun before. The caller has its cookie,
-- and that of no earlier wait.
pub record HasStarted (c : CallerAt) (keys : Interval) (number : ℕ) (d : CallerAt) : Type 0 where
  pub index : AreOfOneIndex c d
  pub keeper : d.keeper ≡ if_over c.keeper
  pub before : MayGoOn c
  pub some : keys.low ≤ keys.high
  pub enough : 1 ≤ c.seat.view.allowance.tickets
  pub begun : HasBegun c.seat.view keys.low keys.high d.seat.view
  pub number_is : number ≡ c.seat.view.counts.waits
  pub cookie : HasCookieOf keys number d
  pub after : MayGoOn d

-- What a begin answers. `was` is what stood where the number is told. It is a bad argument where no key is between the two.
abbrev pub Begins : CallerAt → Interval → ℕ → Status → ℕ → CallerAt → Type 0
Begins c keys was Done number d = HasStarted c keys number d
Begins c keys was BadArgument number d = (keys.high < keys.low) × IsLeft c d × (number ≡ was)
Begins c keys was Spent number d = (keys.low ≤ keys.high) × IsSpent 1 c d × (number ≡ was)
Begins c keys was status number d = IsStoppedBy status c d × (number ≡ was)

-- What was asked about is over, and then the caller has no cookie; or it has the cookie still, which may have come further.
abbrev pub IsKeptBy : Ask → CookieAt → Option CookieAt → Type 0
IsKeptBy Over now left = left ≡ None
IsKeptBy _ now left = left ≡ Some now

-- The caller had the cookie with this number, and asked about it once, from where the last poll stopped: at no spot before that, as long as
-- the keys have the class at which the cookie stands or a later one.
pub record HasAsked (c : CallerAt) (number : ℕ) (answer : Ask) (d : CallerAt) : Type 0 where
  pub index : AreOfOneIndex c d
  pub keeper : d.keeper ≡ c.keeper
  pub before : MayGoOn c
  pub cookie : CookieAt
  pub was : c.cookie ≡ Some cookie
  pub number_is : cookie.count ≡ number
  pub going : cookie.over ≡ false
  pub now : CookieAt
  pub same : IsSameCookie cookie now
  pub asked : Asked (shape_of c.way c.table) cookie c.seat.view answer now d.seat.view
  pub onward : IsWithin cookie.keys cookie.reached.class → LooksAt (IsOnward cookie.reached) c.seat.view d.seat.view
  pub kept : IsKeptBy answer now d.cookie
  pub after : MayGoOn d

-- The caller has no cookie with this number, or its place has begun a later wait.
abbrev pub CannotAsk : CallerAt → ℕ → Type 0
CannotAsk c number = ((cookie : CookieAt) → c.cookie ≡ Some cookie → cookie.count ≢ number) ⊎ (number + 1 < c.seat.view.counts.waits)

-- What a poll answers. Done is told once: then the caller has no cookie any more.
abbrev pub Polls : CallerAt → ℕ → Status → CallerAt → Type 0
Polls c number Done d = HasAsked c number Over d
Polls c number Unchanged d = (why : Why) × HasAsked c number (NotYet why) d
Polls c number Moved d = CannotAsk c number × IsLeft c d
Polls c number status d = IsStoppedBy status c d

-- The kinds of step, each alone and together.
-- What a view knows of the bucket whose lock it holds.
-- Source: docs/HASH_DICTIONARY.md, "The hash dictionary".
use Rattle.std.specs.Prelude.{◌≡◌, ◌≢◌, ℕ, if◌then◌else◌, List, [], ◌∷◌, Option, Some, None, ◌+◌, ◌-◌, ◌%◌, ◌<◌, ◌≤◌, ◌==◌, true, false, ◌++◌, length, ◌^◌, unwrap_or}
use Rattle.hash_core.specs.declared.words.Field.{Field}
use Rattle.hash_core.specs.declared.words.Field.TheVariants.{Head, Key, Next, Free, Retired, Value, Chain}
use Rattle.hash_core.specs.declared.view.Known.{Known}
use Rattle.hash_core.specs.declared.view.Hold.{Hold}
use Rattle.hash_core.specs.Memory.{same_field, IsOfClass}
use Rattle.prcu_marks.specs.declared.mark.Mark.{Mark}
use Rattle.prcu_marks.specs.declared.mark.Mark.TheVariants.{Entered, Left, Done, Given, Unlinked}
use Rattle.prcu_model.specs.declared.operation.Op.{Op}
use Rattle.prcu_model.specs.declared.operation.Op.TheVariants.{Put, Del, Set}
use Rattle.hash_core.specs.declared.words.Kind.{Kind}
use Rattle.hash_core.specs.declared.view.SearchState.{SearchState}
use Rattle.hash_core.specs.declared.view.SearchState.TheVariants.{Start, Unread, Passed, Found, Ended}
use Rattle.hash_core.specs.declared.view.Section.{Section}
use Rattle.hash_core.specs.declared.view.View.{View}
use Rattle.prcu_marks.specs.Marks.{updates_of, longer, left_by, said_by}
use Rattle.list_laws.specs.Counts.{numbers_from}
use Rattle.prcu_marks.specs.declared.access.Access.{Access}
use Rattle.prcu_marks.specs.declared.access.Access.TheVariants.{Load, Store, Exchange, Add, Subtract}
use Rattle.prcu_marks.specs.declared.commit.Commit.{Commit}
use Rattle.hash_core.specs.declared.act.Act.{Act}
use Rattle.hash_core.specs.declared.act.Act.TheVariants.{LoadFront, Enter, Leave, SearchLoad, Lock, Unlock, LoadReaders, LockedLoad, TakeSlot, TakeRetired, FreeRetired, StoreChain, Retire, Fill, OpenCommit, LinkSlot, UnlinkSlot, ReplaceValue, CloseCommit}
use Rattle.hash_core.specs.declared.words.Kind.TheVariants.{H2, H3, H4, H5, H6, H7, H8, H9, H10, H11, H12, H13, H14, H15, H16}
use Rattle.hash_core.specs.declared.words.Field.TheVariants as word

-- the number that was last loaded or stored at a field
abbrev pub known_in : List Known → Field → Option ℕ
known_in [] field = None
known_in (k ∷ ks) field = if same_field k.field field then Some k.number else known_in ks field

-- with a number that is known from now on
abbrev pub knowing : Hold → Field → ℕ → Hold
knowing hold field number = record hold { known = record { field = field; number = number } ∷ hold.known }

-- The walk from a link goes, as far as known, over these slots to a link that is 0.
abbrev pub IsWholeWalk : List Known → ℕ → List ℕ → Type 0
IsWholeWalk known first [] = first ≡ 0
IsWholeWalk known first (s ∷ ss) = (first ≡ s) × (s ≢ 0) × ((next : ℕ) × (known_in known (Next s) ≡ Some next) × IsWholeWalk known next ss)

-- each key on it is known, and isn't this one
abbrev pub LacksKey : List Known → ℕ → List ℕ → Type 0
LacksKey known key [] = Unit {0}
LacksKey known key (s ∷ ss) = ((other : ℕ) × (known_in known (Key s) ≡ Some other) × (other ≢ key)) × LacksKey known key ss

-- the known walk is whole, and the key isn't on it
pub record ShowsAbsent (hold : Hold) (key : ℕ) : Type 0 where
  pub first : ℕ
  pub walk : List ℕ
  pub head : known_in hold.known (Head hold.class) ≡ Some first
  pub whole : IsWholeWalk hold.known first walk
  pub lacks : LacksKey hold.known key walk

-- The walk from a link goes over these slots, and then comes to the slot.
abbrev pub ComesTo : List Known → ℕ → List ℕ → ℕ → Type 0
ComesTo known first [] slot = (first ≡ slot) × (slot ≢ 0)
ComesTo known first (s ∷ ss) slot = (first ≡ s) × (s ≢ 0)
    × ((next : ℕ) × (known_in known (Next s) ≡ Some next) × ComesTo known next ss slot)

-- the slot is on the known walk
pub record IsOnWalk (hold : Hold) (slot : ℕ) : Type 0 where
  pub first : ℕ
  pub before : List ℕ
  pub head : known_in hold.known (Head hold.class) ≡ Some first
  pub comes : ComesTo hold.known first before slot

-- The kinds of step: what each needs of the stepping view, and the view after it.
-- Source: docs/HASH_DICTIONARY.md, "The steps of the hash dictionary".

-- the view with one more step in its trail: the kinds of step below are made of this view
abbrev pub stepped : View → Kind → Field → ℕ → View
stepped v kind field number = record v { trail = v.trail ++ record { kind = kind; field = field; number = number } ∷ [] }

-- the view with another mark of its place, which ends what it has seen
abbrev pub marked : View → List Mark → Mark → View
marked v h mark = record v { own = v.own ++ mark ∷ []; seen = h ++ mark ∷ [] }

-- outside a section and without a lock
abbrev pub IsQuiet : View → Type 0
IsQuiet v = (v.section ≡ None) × (v.hold ≡ None)

-- a view that has made no step, and has seen these marks
abbrev pub new_view : ℕ → ℕ → ℕ → List Mark → View
new_view place places tickets seen = record {
  place = place;
  places = places;
  tickets = tickets;
  section = None;
  sections = 0;
  hold = None;
  commit = None;
  joined = [];
  heard = [];
  own = [];
  trail = [];
  seen = seen;
}

-- H1: the second seat gets the last places, and tickets. It has seen what the first has, and made no step.
abbrev pub NeedsSplit : View → ℕ → ℕ → Type 0
NeedsSplit v places tickets = IsQuiet v × (1 ≤ places) × (places < v.places) × (tickets ≤ v.tickets)

abbrev pub first_of : ℕ → ℕ → View → View
first_of places tickets v = record v { places = v.places - places; tickets = v.tickets - tickets }

abbrev pub second_of : ℕ → ℕ → View → View
second_of places tickets v = new_view (v.place + v.places - places) places tickets v.seen

-- H2: the other seat's places are spent, and the longer of the two lists was seen.
abbrev pub both_of : View → View → View
both_of v other = record v {
  tickets = v.tickets + other.tickets;
  joined = v.joined ++ (numbers_from other.place other.places ++ other.joined);
  heard = v.seen ∷ other.seen ∷ (v.heard ++ other.heard);
  own = v.own ++ other.own;
  trail = v.trail ++ other.trail;
  seen = longer v.seen other.seen;
}

abbrev pub spent : View
spent = new_view 0 0 0 []

-- H3: a section with this key is entered.
abbrev pub after_enter : View → ℕ → List Mark → View
after_enter v key h = record (marked v h (Entered v.place v.sections key)) {
  section = Some (record { key = key; count = v.sections; entered = length h; from = length (updates_of h); state = Start; loaded = None });
  sections = v.sections + 1;
}

-- H4: it is left.
abbrev pub after_leave : View → Section → List Mark → View
after_leave v section h = record (marked v h (Left v.place section.count)) { section = None }

-- the slot at which a search stands
abbrev pub StandsAt : SearchState → ℕ → Type 0
StandsAt Start slot = ⊥
StandsAt (Unread s) slot = s ≡ slot
StandsAt (Passed s) slot = s ≡ slot
StandsAt (Found s) slot = s ≡ slot
StandsAt Ended slot = ⊥

-- H5: the head of the own class, or a field of the slot at which the search stands, is loaded.
abbrev pub MayLoad : Section → Field → Type 0
MayLoad section (Head c) = section.key % 64 ≡ c
MayLoad section (Key s) = StandsAt section.state s
MayLoad section (Value s) = StandsAt section.state s
MayLoad section (Next s) = StandsAt section.state s
MayLoad section _ = ⊥

abbrev pub link_stand : ℕ → SearchState
link_stand link = if link == 0 then Ended else Unread link

-- the search after it loaded the number there
abbrev pub searched : Section → SearchState → Field → ℕ → Section
searched section Start (Head c) number = record section { state = link_stand number }
searched section (Unread s) (Key t) number = record section { state = if number == section.key then Found s else Passed s }
searched section (Passed s) (Next t) number = record section { state = link_stand number }
searched section (Found s) (Value t) number = record section { loaded = Some number }
searched section _ _ number = section

abbrev pub after_search_load : View → Section → Field → ℕ → View
after_search_load v section field number = record v { section = Some (searched section section.state field number) }

-- H6: the lock of a class's bucket is exchanged from 0 to the place plus 1.
abbrev pub fresh_hold : ℕ → Hold
fresh_hold c = record { class = c; known = []; clear = false; taken = None; unlinked = None; moved = None }

abbrev pub after_lock : View → ℕ → ℕ → View
after_lock v c found = if found == 0 then record v { hold = Some (fresh_hold c) } else v

-- H7: the lock is given up, with nothing in hand and no odd front.
pub record NeedsUnlock (v : View) (hold : Hold) : Type 0 where
  pub hold_is : v.hold ≡ Some hold
  pub taken : hold.taken ≡ None
  pub unlinked : hold.unlinked ≡ None
  pub moved : hold.moved ≡ None
  pub even : v.commit ≡ None

abbrev pub after_unlock : View → View
after_unlock v = record v { hold = None }

-- H8: the readers of the class are loaded under its lock.
abbrev pub after_readers_load : View → Hold → ℕ → View
after_readers_load v hold found = if found == 0 then record v { hold = Some (record hold { clear = true }) } else v

-- H9: another word of the class, or of a slot of it, is loaded under the lock. Who finds 0 has seen all marks.
abbrev pub after_held_load : View → Hold → Field → ℕ → List Mark → View
after_held_load v hold field found h = record v { hold = Some (knowing hold field found); seen = if found == 0 then h else v.seen }

-- H10: the free word, the retired word, or the chain of the slot in hand is stored.
-- Take: the first free slot comes into the hand.
pub record NeedsTake (v : View) (hold : Hold) (slot next : ℕ) : Type 0 where
  pub hold_is : v.hold ≡ Some hold
  pub some : slot ≢ 0
  pub first : known_in hold.known (Free hold.class) ≡ Some slot
  pub next_is : known_in hold.known (Chain slot) ≡ Some next
  pub empty : hold.taken ≡ None

abbrev pub after_take : View → Hold → ℕ → ℕ → List Mark → View
after_take v hold slot next h = record v {
  hold = Some (record (knowing hold (Free hold.class) next) { taken = Some slot });
  seen = h ++ Given slot ∷ [];
}

-- Refill: the list in hand becomes the free list, which is empty.
pub record NeedsRefill (v : View) (hold : Hold) (slot : ℕ) : Type 0 where
  pub hold_is : v.hold ≡ Some hold
  pub empty : known_in hold.known (Free hold.class) ≡ Some 0
  pub moved : hold.moved ≡ Some slot

abbrev pub after_refill : View → Hold → ℕ → View
after_refill v hold slot = record v { hold = Some (record (knowing hold (Free hold.class) slot) { moved = None }) }

-- Move: the retired list comes into the hand, where a load of the readers found none since the latest unlinking.
pub record NeedsMove (v : View) (hold : Hold) (slot : ℕ) : Type 0 where
  pub hold_is : v.hold ≡ Some hold
  pub some : slot ≢ 0
  pub first : known_in hold.known (Retired hold.class) ≡ Some slot
  pub clear : hold.clear ≡ true
  pub empty : hold.moved ≡ None

abbrev pub after_move : View → Hold → ℕ → View
after_move v hold slot = record v { hold = Some (record (knowing hold (Retired hold.class) 0) { moved = Some slot }) }

-- Push: the slot unlinked becomes the first of the retired list, to which its chain leads.
pub record NeedsPush (v : View) (hold : Hold) (slot first : ℕ) : Type 0 where
  pub hold_is : v.hold ≡ Some hold
  pub unlinked : hold.unlinked ≡ Some slot
  pub first_is : known_in hold.known (Retired hold.class) ≡ Some first
  pub chained : known_in hold.known (Chain slot) ≡ Some first

abbrev pub after_push : View → Hold → ℕ → View
after_push v hold slot = record v { hold = Some (record (knowing hold (Retired hold.class) slot) { unlinked = None }) }

-- Chain: the chain of the slot unlinked is stored.
pub record NeedsChain (v : View) (hold : Hold) (slot : ℕ) : Type 0 where
  pub hold_is : v.hold ≡ Some hold
  pub unlinked : hold.unlinked ≡ Some slot

abbrev pub after_chain : View → Hold → ℕ → ℕ → View
after_chain v hold slot number = record v { hold = Some (knowing hold (Chain slot) number) }

-- H11: a field of the slot taken is stored.
abbrev pub IsFieldOf : ℕ → Field → Type 0
IsFieldOf slot (Key s) = s ≡ slot
IsFieldOf slot (Value s) = s ≡ slot
IsFieldOf slot (Next s) = s ≡ slot
IsFieldOf slot _ = ⊥

pub record NeedsWrite (v : View) (hold : Hold) (slot : ℕ) (field : Field) : Type 0 where
  pub hold_is : v.hold ≡ Some hold
  pub taken : hold.taken ≡ Some slot
  pub field_is : IsFieldOf slot field

abbrev pub after_write : View → Hold → Field → ℕ → View
after_write v hold field number = record v { hold = Some (knowing hold field number) }

-- H12: the front is exchanged from an even number to the next, by the holder of a lock.
abbrev pub NeedsCommit : View → Hold → ℕ → Type 0
NeedsCommit v hold even = (v.hold ≡ Some hold) × (even % 2 ≡ 0)

abbrev pub after_commit : View → ℕ → ℕ → View
after_commit v even found = if found == even then record v { commit = Some (record { found = even; stored = false }) } else v

-- the front is odd by this view, and its update isn't made yet
pub record HasCommit (v : View) (hold : Hold) (even : ℕ) : Type 0 where
  pub hold_is : v.hold ≡ Some hold
  pub commit_is : v.commit ≡ Some (record { found = even; stored = false })
  pub ticket : 1 ≤ v.tickets

-- the view after its update, with another hold
abbrev pub updated_view : View → Hold → ℕ → Op → List Mark → List Mark → View
updated_view v hold even op h more = record v {
  tickets = v.tickets - 1;
  hold = Some hold;
  commit = Some (record { found = even; stored = true });
  own = v.own ++ Done (record { caller = v.place; op = op }) ∷ [];
  seen = h ++ Done (record { caller = v.place; op = op }) ∷ more;
}

-- H13: the slot taken is linked at the head, where the known walk shows its key absent.
pub record NeedsLink (v : View) (hold : Hold) (even slot key value first : ℕ) : Type 0 where
  pub commit : HasCommit v hold even
  pub taken : hold.taken ≡ Some slot
  pub key_is : known_in hold.known (Key slot) ≡ Some key
  pub value_is : known_in hold.known (Value slot) ≡ Some value
  pub next_is : known_in hold.known (Next slot) ≡ Some first
  pub head_is : known_in hold.known (Head hold.class) ≡ Some first
  pub class : key % 64 ≡ hold.class
  pub absent : ShowsAbsent hold key

abbrev pub after_link : View → Hold → ℕ → ℕ → ℕ → ℕ → List Mark → View
after_link v hold even slot key value h = updated_view v (record (knowing hold (Head hold.class) slot) { taken = None }) even
    (Put key value) h []

-- the link to a slot on the known walk: the head, or the next of a slot on the walk
abbrev pub LinksTo : Hold → Field → Type 0
LinksTo hold (Head c) = c ≡ hold.class
LinksTo hold (Next s) = IsOnWalk hold s
LinksTo hold _ = ⊥

-- H14: a slot on the known walk is unlinked.
pub record NeedsUnlink (v : View) (hold : Hold) (even : ℕ) (link : Field) (slot key next : ℕ) : Type 0 where
  pub commit : HasCommit v hold even
  pub empty : hold.unlinked ≡ None
  pub link_is : LinksTo hold link
  pub linked : known_in hold.known link ≡ Some slot
  pub some : slot ≢ 0
  pub key_is : known_in hold.known (Key slot) ≡ Some key
  pub next_is : known_in hold.known (Next slot) ≡ Some next

abbrev pub after_unlink : View → Hold → ℕ → Field → ℕ → ℕ → ℕ → List Mark → View
after_unlink v hold even link slot key next h =
    updated_view v (record (knowing hold link next) { clear = false; unlinked = Some slot }) even (Del key) h (Unlinked slot ∷ [])

-- H15: the value of a slot on the known walk is replaced.
pub record NeedsReplace (v : View) (hold : Hold) (even slot key : ℕ) : Type 0 where
  pub commit : HasCommit v hold even
  pub on_walk : IsOnWalk hold slot
  pub key_is : known_in hold.known (Key slot) ≡ Some key

abbrev pub after_replace : View → Hold → ℕ → ℕ → ℕ → ℕ → List Mark → View
after_replace v hold even slot key value h = updated_view v (knowing hold (Value slot) value) even (Set key value) h []

-- H16: the front is made even again.
abbrev pub NeedsEven : View → ℕ → Type 0
NeedsEven v even = v.commit ≡ Some (record { found = even; stored = true })

abbrev pub after_even : View → View
after_even v = record v { commit = None }

-- The steps as values: the word of each, what it does to the number there, what it needs, the view after it, and its marks.
-- Source: docs/HASH_DICTIONARY.md, "The steps of the hash dictionary".

-- the mark of an update
abbrev pub done_by : View → Op → Mark
done_by v op = Done (record { caller = v.place; op = op })

-- What a view has open, or anything where it has nothing open: an act that needs it says that it is there.
abbrev pub section_of : View → Section
section_of v = unwrap_or v.section (record { key = 0; count = 0; entered = 0; from = 0; state = Start; loaded = None })

abbrev pub hold_of : View → Hold
hold_of v = unwrap_or v.hold (fresh_hold 0)

abbrev pub commit_of : View → Commit
commit_of v = unwrap_or v.commit (record { found = 0; stored = false })

-- the kind of step by which the laws know it
abbrev pub kind_of : Act → Kind
kind_of LoadFront = H2
kind_of (Enter key) = H3
kind_of Leave = H4
kind_of (SearchLoad field) = H5
kind_of (Lock class) = H6
kind_of Unlock = H7
kind_of LoadReaders = H8
kind_of (LockedLoad field) = H9
kind_of (TakeSlot slot next) = H10
kind_of (TakeRetired slot) = H10
kind_of (FreeRetired slot) = H10
kind_of (StoreChain slot number) = H10
kind_of (Retire slot) = H10
kind_of (Fill field number) = H11
kind_of (OpenCommit even) = H12
kind_of (LinkSlot slot key value) = H13
kind_of (UnlinkSlot link slot key next) = H14
kind_of (ReplaceValue slot key value) = H15
kind_of (CloseCommit front) = H16

-- the word that it is on, for the section and the lock of who makes it
abbrev pub field_of : View → Act → Field
field_of v LoadFront = word.Front
field_of v (Enter key) = word.Readers (key % 64)
field_of v Leave = word.Readers ((section_of v).key % 64)
field_of v (SearchLoad field) = field
field_of v (Lock class) = word.Lock class
field_of v Unlock = word.Lock (hold_of v).class
field_of v LoadReaders = word.Readers (hold_of v).class
field_of v (LockedLoad field) = field
field_of v (TakeSlot slot next) = word.Free (hold_of v).class
field_of v (TakeRetired slot) = word.Retired (hold_of v).class
field_of v (FreeRetired slot) = word.Free (hold_of v).class
field_of v (StoreChain slot number) = word.Chain slot
field_of v (Retire slot) = word.Retired (hold_of v).class
field_of v (Fill field number) = field
field_of v (OpenCommit even) = word.Front
field_of v (LinkSlot slot key value) = word.Head (hold_of v).class
field_of v (UnlinkSlot link slot key next) = link
field_of v (ReplaceValue slot key value) = word.Value slot
field_of v (CloseCommit front) = word.Front

-- what it does to the number there
abbrev pub access_of : View → Act → Access
access_of v (Enter key) = Add 1
access_of v Leave = Subtract 1
access_of v (Lock class) = Exchange 0 (v.place + 1)
access_of v Unlock = Store 0
access_of v (TakeSlot slot next) = Store next
access_of v (TakeRetired slot) = Store 0
access_of v (FreeRetired slot) = Store slot
access_of v (StoreChain slot number) = Store number
access_of v (Retire slot) = Store slot
access_of v (Fill field number) = Store number
access_of v (OpenCommit even) = Exchange even (even + 1)
access_of v (LinkSlot slot key value) = Store slot
access_of v (UnlinkSlot link slot key next) = Store next
access_of v (ReplaceValue slot key value) = Store value
access_of v (CloseCommit front) = Store front
access_of v _ = Load

-- the view with the step in its trail
abbrev pub noted : View → Act → ℕ → View
noted v a number = stepped v (kind_of a) (field_of v a) number

-- What it needs of the view, and of the table: that the slot whose word it is on is one of the class.
abbrev pub Needs : List ℕ → View → Act → Type 0
Needs capacities v LoadFront = Unit {0}
Needs capacities v (Enter key) = (key < 2 ^ 64) × IsQuiet v
Needs capacities v Leave = (section : Section) × (v.section ≡ Some section)
Needs capacities v (SearchLoad field) = (section : Section) × (v.section ≡ Some section) × MayLoad section field
    × IsOfClass capacities (section.key % 64) field
Needs capacities v (Lock class) = (class < 64) × IsQuiet v
Needs capacities v Unlock = (hold : Hold) × NeedsUnlock v hold
Needs capacities v LoadReaders = (hold : Hold) × (v.hold ≡ Some hold)
Needs capacities v (LockedLoad field) = (hold : Hold) × (v.hold ≡ Some hold) × IsOfClass capacities hold.class field
Needs capacities v (TakeSlot slot next) = (hold : Hold) × NeedsTake v hold slot next
Needs capacities v (TakeRetired slot) = (hold : Hold) × NeedsMove v hold slot
Needs capacities v (FreeRetired slot) = (hold : Hold) × NeedsRefill v hold slot
Needs capacities v (StoreChain slot number) = (hold : Hold) × NeedsChain v hold slot × IsOfClass capacities hold.class (word.Chain slot)
Needs capacities v (Retire slot) = (hold : Hold) × (first : ℕ) × NeedsPush v hold slot first
Needs capacities v (Fill field number) = (hold : Hold) × (slot : ℕ) × NeedsWrite v hold slot field × IsOfClass capacities hold.class field
Needs capacities v (OpenCommit even) = (hold : Hold) × NeedsCommit v hold even
Needs capacities v (LinkSlot slot key value) = (hold : Hold) × (even first : ℕ) × NeedsLink v hold even slot key value first
Needs capacities v (UnlinkSlot link slot key next) =
    (hold : Hold) × (even : ℕ) × NeedsUnlink v hold even link slot key next × IsOfClass capacities hold.class link
Needs capacities v (ReplaceValue slot key value) =
    (hold : Hold) × (even : ℕ) × NeedsReplace v hold even slot key × IsOfClass capacities hold.class (word.Value slot)
Needs capacities v (CloseCommit front) = (even : ℕ) × NeedsEven v even × (front ≡ even + 2)

-- The view after it, by all marks before it and the number that it tells; v is the view before, with the step in its trail.
abbrev pub after : View → Act → List Mark → ℕ → View
after v LoadFront h n = v
after v (Enter key) h n = after_enter v key h
after v Leave h n = after_leave v (section_of v) h
after v (SearchLoad field) h n = after_search_load v (section_of v) field n
after v (Lock class) h n = after_lock v class n
after v Unlock h n = after_unlock v
after v LoadReaders h n = after_readers_load v (hold_of v) n
after v (LockedLoad field) h n = after_held_load v (hold_of v) field n h
after v (TakeSlot slot next) h n = after_take v (hold_of v) slot next h
after v (TakeRetired slot) h n = after_move v (hold_of v) slot
after v (FreeRetired slot) h n = after_refill v (hold_of v) slot
after v (StoreChain slot number) h n = after_chain v (hold_of v) slot number
after v (Retire slot) h n = after_push v (hold_of v) slot
after v (Fill field number) h n = after_write v (hold_of v) field number
after v (OpenCommit even) h n = after_commit v even n
after v (LinkSlot slot key value) h n = after_link v (hold_of v) (commit_of v).found slot key value h
after v (UnlinkSlot link slot key next) h n = after_unlink v (hold_of v) (commit_of v).found link slot key next h
after v (ReplaceValue slot key value) h n = after_replace v (hold_of v) (commit_of v).found slot key value h
after v (CloseCommit front) h n = after_even v

-- the marks that it leaves
abbrev pub marks_of : View → Act → List Mark
marks_of v (Enter key) = Entered v.place v.sections key ∷ []
marks_of v Leave = Left v.place (section_of v).count ∷ []
marks_of v (TakeSlot slot next) = Given slot ∷ []
marks_of v (LinkSlot slot key value) = done_by v (Put key value) ∷ []
marks_of v (UnlinkSlot link slot key next) = done_by v (Del key) ∷ Unlinked slot ∷ []
marks_of v (ReplaceValue slot key value) = done_by v (Set key value) ∷ []
marks_of v _ = []

-- the number that it leaves, and the view after it, where it finds a number
abbrev pub left : View → Act → ℕ → ℕ
left v a n = left_by (access_of v a) n

abbrev pub said : View → Act → ℕ → ℕ
said v a n = said_by (access_of v a) n

abbrev pub done : View → Act → List Mark → ℕ → View
done v a h n = after (noted v a (said v a n)) a h (said v a n)

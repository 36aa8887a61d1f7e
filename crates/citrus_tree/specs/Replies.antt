-- What the calls of the tree are told.
-- Source: docs/TREE_CALLS.md, "The calls".
use Rattle.std.specs.Prelude.{◌≡◌, ◌⊎◌, ℕ, ◌+◌, ◌-◌, ◌*◌, ◌≤◌, List, [], ◌∷◌, ◌++◌, length, Option, Some, None, ◌≢◌}
use mathlib.Core.List.{IsPrefix}
use Rattle.prcu_marks.specs.declared.mark.Mark.{Mark}
use Rattle.prcu_marks.specs.declared.mark.Mark.TheVariants.{Entered, Left, Began, Ended, Done, Unlinked}
use Rattle.prcu_marks.specs.Callers.{IsNextKey, entered_for, Caller}
use Rattle.prcu_marks.specs.Marks.{own_of, updates_of}
use Rattle.prcu_model.specs.declared.operation.Op.{Op}
use Rattle.prcu_model.specs.declared.operation.Op.TheVariants.{Put, Del, Set, Get}
use Rattle.prcu_model.specs.declared.operation.Reply.{Reply}
use Rattle.prcu_model.specs.declared.operation.Reply.TheVariants.{New, Old, Full, Absent, Gone, Was}
use Rattle.prcu_model.specs.declared.operation.Told.{Told}
use Rattle.prcu_model.specs.declared.operation.Update.{Update}
use Rattle.prcu_model.specs.Dictionary.{WasSaid, key_of, map_of, IsLegal, Room}
use Rattle.core_state.specs.declared.shape.Shape.{Shape}
use Rattle.core_state.specs.declared.words.Field.TheVariants.{Free}
use Rattle.core_state.specs.declared.words.Kind.TheVariants.{K10}
use Rattle.core_state.specs.declared.view.View.{View}
use Rattle.seat_table.specs.Seats.{SeatAt, TableAt}
use Rattle.seat_table.specs.Waits.{EndWith}
use Rattle.tree_points.specs.Points.{HasAdvanced}
use Rattle.citrus_tree.specs.Going.{AreTries, NeededRoom, NeededSlots, waits_in, FoundHolder}
use Rattle.citrus_tree.specs.declared.comparing.Compared.{Compared}
use Rattle.citrus_tree.specs.declared.comparing.Compared.TheVariants.{Replaced, Differs, Absent as Missing}
use Rattle.citrus_tree.specs.declared.comparing.Seen.{Seen}
use Rattle.citrus_tree.specs.Lookups.{Looked, Gets}
use Rattle.std.specs.FinMap as finite

-- A section with the key was entered at the place after all that was seen at the call, and left before what is seen now. It is the last
-- one:
-- the place has entered none with the key since. The dictionary gave the answer at a front in between.
pub record WasAnswered (v : View) (key : ℕ) (answer : Option ℕ) (w : View) : Type 0 where
  pub count : ℕ
  pub before : List Mark
  pub until : List Mark
  pub since : IsPrefix v.seen before
  pub within : IsPrefix (before ++ Entered v.allowance.place count key ∷ []) until
  pub seen : IsPrefix (until ++ Left v.allowance.place count ∷ []) w.seen
  pub more : List Mark
  pub own : own_of v.allowance.place w.seen ≡ own_of v.allowance.place before
      ++ Entered v.allowance.place count key ∷ (Left v.allowance.place count ∷ more)
  pub last : entered_for v.allowance.place key more ≡ 0
  pub said : WasSaid (updates_of until) key (length (updates_of before)) answer

-- The call made its update, which stands in the history at its number, after all that was seen at the call. These are the marks that its
-- place left before the update, and after it.
pub record HasUpdated (v : View) (op : Op) (tries before after : List Mark) (number : ℕ) (w : View) : Type 0 where
  pub tried : AreTries v.allowance.place (key_of op) tries
  pub own : HasAdvanced v w ((tries ++ Done (record { caller = v.allowance.place; op = op }) ∷ []) ++ after)
  pub since : IsPrefix v.seen before
  pub stands : IsPrefix (before ++ Done (record { caller = v.allowance.place; op = op }) ∷ []) w.seen
  pub number_is : number ≡ length (updates_of before) + 1
  pub legal : IsLegal (updates_of w.seen)

-- The call made no update. These are the marks that its place left.
pub record HasTried (v : View) (key : ℕ) (tries : List Mark) (w : View) : Type 0 where
  pub tried : AreTries v.allowance.place key tries
  pub own : HasAdvanced v w tries

-- For what a call of the operation may have begun a wait for everybody: a put needed a slot, a del a spare, or room for two more retired
-- slots. No other begins one.
abbrev pub NeededBy : Shape → View → Op → View → Type 0
NeededBy k v (Put key value) w = NeededRoom k v w
NeededBy k v (Del key) w = NeededSlots k v w
NeededBy k v _ w = ⊥

-- The call found others in its way, and is to be made again: it made no update. These are the marks that its place left.
pub record GaveWay (k : Shape) (v : View) (op : Op) (w : View) : Type 0 where
  pub tries : List Mark
  pub tried : HasTried v (key_of op) tries w
  pub needed : 1 ≤ waits_in tries → NeededBy k v op w

-- The last step found the free count 0, with nothing retired at the place. So the dictionary, with as many slots as each other place may
-- keep from it, its room for retired ones and four, fills the slots.
pub record IsFullNow (k : Shape) (w : View) : Type 0 where
  pub none : w.hands.retired ≡ []
  pub last : EndWith w.trail.steps (record { kind = K10; field = Free; number = 0 } ∷ [])
  pub fills : k.slots ≤ finite.len (map_of (updates_of w.seen)) + (k.room + 4) * (k.places - 1)

-- A put is told New where it made its update, Old where its last search found the key, and Full where its last search found the key absent
-- and the last step nothing free.
abbrev pub PutsBy : Shape → View → ℕ → ℕ → List Mark → Reply → ℕ → View → Type 0
PutsBy k v key value tries New number w = (before : List Mark) × HasUpdated v (Put key value) tries before [] number w
    × IsPrefix w.seen (before ++ Done (record { caller = v.allowance.place; op = Put key value }) ∷ [])
PutsBy k v key value tries Old number w = (number ≡ 0) × HasTried v key tries w × ((old : ℕ) × WasAnswered v key (Some old) w)
PutsBy k v key value tries Full number w = (number ≡ 0) × HasTried v key tries w × WasAnswered v key None w × IsFullNow k w
PutsBy k v key value tries _ number w = ⊥

-- what a put is told, and that it began a wait only where one was needed
abbrev pub Puts : Shape → View → ℕ → ℕ → Told → View → Type 0
Puts k v key value told w = (tries : List Mark) × PutsBy k v key value tries told.reply told.number w
    × (1 ≤ waits_in tries → NeededRoom k v w)

-- A set begins no wait. It is told Was where it made its update: just before it the dictionary gave the key the old value.
abbrev pub SetsBy : View → ℕ → ℕ → List Mark → Reply → ℕ → View → Type 0
SetsBy v key value tries (Was old) number w = (before : List Mark) × HasUpdated v (Set key value) tries before [] number w
    × (finite.get (map_of (updates_of before)) key ≡ Some old)
SetsBy v key value tries Absent number w = (number ≡ 0) × HasTried v key tries w × WasAnswered v key None w
SetsBy v key value tries _ number w = ⊥

abbrev pub Sets : View → ℕ → ℕ → Told → View → Type 0
Sets v key value told w = (tries : List Mark) × SetsBy v key value tries told.reply told.number w × (waits_in tries ≡ 0)

-- the marks of a wait for the keys above this one, up to the next that the dictionary had
abbrev pub IsMoveWait : View → List Mark → ℕ → List Mark → Type 0
IsMoveWait v before key after = (count next : ℕ)
    × (after ≡ Began v.allowance.place count (key + 1) next ∷ (Ended v.allowance.place count ∷ []))
    × IsNextKey (map_of (updates_of before)) key next

-- The slot was unlinked after these marks.
pub record IsUnlinkedSince (from : List Mark) (slot : ℕ) (seen : List Mark) : Type 0 where
  pub until : List Mark
  pub since : IsPrefix from until
  pub stands : IsPrefix (until ++ Unlinked slot ∷ []) seen

-- a delete has an old successor at most, which was unlinked after these marks
abbrev pub AreUnlinkedSince : List Mark → List ℕ → List Mark → Type 0
AreUnlinkedSince from [] seen = Unit {0}
AreUnlinkedSince from (old ∷ []) seen = IsUnlinkedSince from old seen
AreUnlinkedSince from (old ∷ (other ∷ more)) seen = ⊥

-- What a del has retired it has listed last: first the slot that its update took out, whose unlinking stands just behind the update, and
-- behind it the old successor, where it moved one, which was unlinked later. What was listed before stays before, or was given back.
pub record RetiresInOrder (s : SeatAt) (key number : ℕ) (t : SeatAt) : Type 0 where
  pub before : List Mark
  pub number_is : number ≡ length (updates_of before) + 1
  pub deleted : ℕ
  pub unlinked : IsPrefix (before ++ Done (record { caller = s.view.allowance.place; op = Del key }) ∷ (Unlinked deleted ∷ [])) t.view.seen
  pub old : List ℕ
  pub later : AreUnlinkedSince (before ++ Done (record { caller = s.view.allowance.place; op = Del key })
      ∷ (Unlinked deleted ∷ [])) old t.view.seen
  pub kept : List ℕ
  pub kept_is : (kept ≡ s.listed) ⊎ (kept ≡ [])
  pub listed : t.listed ≡ kept ++ deleted ∷ old

-- After its update a del has begun no other wait, or just the one for its move. Before it one for everybody at most, where that was needed.
abbrev pub DelsBy : View → ℕ → List Mark → Reply → ℕ → View → Type 0
DelsBy v key tries Gone number w = (before after : List Mark) × HasUpdated v (Del key) tries before after number w
    × ((after ≡ []) ⊎ IsMoveWait v before key after)
DelsBy v key tries Absent number w = (number ≡ 0) × HasTried v key tries w × WasAnswered v key None w
DelsBy v key tries _ number w = ⊥

abbrev pub Dels : Shape → View → ℕ → Told → View → Type 0
Dels k v key told w = (tries : List Mark) × DelsBy v key tries told.reply told.number w
    × (1 ≤ waits_in tries → NeededSlots k v w)

-- The update of this number took this pair out: the dictionary of the updates before it had the pair.
pub record TookOut (history : List Update) (caller key value number : ℕ) : Type 0 where
  pub before : List Update
  pub stands : IsPrefix (before ++ record { caller = caller; op = Del key } ∷ []) history
  pub number_is : number ≡ length before + 1
  pub value_is : finite.get (map_of before) key ≡ Some value

-- What a remove is told besides: at Gone the value of the pair that its update took out, and at Absent none.
abbrev pub TellsValue : View → ℕ → Told → Option ℕ → View → Type 0
TellsValue v key told (Some value) w = (told.reply ≡ Gone) × TookOut (updates_of w.seen) v.allowance.place key value told.number
TellsValue v key told None w = told.reply ≡ Absent

-- What a compare is told.
-- Source: docs/TREE_CALLS.md, "The calls".

-- Replaced where the call made its update: just before it the dictionary gave the key the expected value. Differs where the last search
-- found another value, and Absent where it found none, with no update.
abbrev pub ComparesBy : View → ℕ → ℕ → ℕ → List Mark → Compared → View → Type 0
ComparesBy v key expected value tries (Replaced number) w = (before : List Mark) × HasUpdated v (Set key value) tries before [] number w
    × (finite.get (map_of (updates_of before)) key ≡ Some expected)
ComparesBy v key expected value tries (Differs found) w = HasTried v key tries w × WasAnswered v key (Some found) w × (found ≢ expected)
ComparesBy v key expected value tries Missing w = HasTried v key tries w × WasAnswered v key None w

-- A compare begins no wait.
abbrev pub Compares : View → ℕ → ℕ → ℕ → Compared → View → Type 0
Compares v key expected value answer w = (tries : List Mark) × ComparesBy v key expected value tries answer w × (waits_in tries ≡ 0)

-- what a compare's search came to: the slot that has the key, with its value, or that the key is absent
abbrev pub SoughtValue : Shape → View → ℕ → Option Seen → View → Type 0
SoughtValue k v key None w = Looked v key None w
SoughtValue k v key (Some seen) w = (found : FoundHolder k v key seen.holder w) × (found.old ≡ seen.value)

-- Calls by clients of the tree.
-- Source: docs/ACCOUNTS.md, "Clients".

-- what a clause sees of a client: its table with the waiter, and its seat
pub record ClientAt : Type 0 where
  pub shape : Shape
  pub table : TableAt
  pub seat : SeatAt

-- the caller that a client is
abbrev pub caller_of : ClientAt → Caller
caller_of client = record {
  place = client.seat.view.allowance.place;
  own = own_of client.seat.view.allowance.place client.seat.view.seen;
  seen = client.seat.view.seen;
}

-- What an operation is told, by its call: it adds to `Puts` and its like which of them is an operation's.
abbrev pub IsTold : Shape → View → Op → Told → View → Type 0
IsTold k v (Put key value) told w = Puts k v key value told w
IsTold k v (Get key) told w = Gets v key told w
IsTold k v (Del key) told w = Dels k v key told w
IsTold k v (Set key value) told w = Sets v key value told w

-- How many places and slots count where a put is told that nothing is free. An account has 20 slots for each other place, where it may hold
-- back 16 retired ones; what it may hold back beyond them are slots that the account's table hasn't.
abbrev pub room_of : Shape → Room
room_of k = record { scripts = k.places; slots = k.slots - (k.room - 16) * (k.places - 1) }

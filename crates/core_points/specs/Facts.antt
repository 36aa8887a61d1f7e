-- What the view of a caller knows of what the caller keeps: the parts of which the points are made.
-- Source: docs/TREE_CALLS.md, "The calls".
use Rattle.std.specs.Prelude.{◌≡◌, ℕ, ◌+◌, ◌-◌, ◌*◌, ◌^◌, ◌<◌, ◌≤◌, ◌==◌, if◌then◌else◌, Bool, true, false, List, [], ◌∷◌, length, map, Option, Some, None}
use Rattle.prcu_marks.specs.declared.mark.Side.{Side}
use Rattle.prcu_marks.specs.declared.mark.Side.TheVariants.{Left, Right}
use Rattle.prcu_model.specs.declared.operation.Op.{Op}
use Rattle.prcu_model.specs.declared.operation.Op.TheVariants.{Put, Del, Set}
use Rattle.core_state.specs.declared.words.Field.{Field}
use Rattle.core_state.specs.declared.words.Field.TheVariants.{Stamp, Life, Key, Value, Link, Tag}
use Rattle.core_state.specs.declared.view.Held.{Held}
use Rattle.core_state.specs.declared.view.HeldLock.{HeldLock}
use Rattle.core_state.specs.declared.view.Known.{Known}
use Rattle.core_state.specs.declared.view.Move.{Move}
use Rattle.core_state.specs.declared.view.Reading.{Reading}
use Rattle.core_state.specs.declared.view.Retired.{Retired}
use Rattle.core_state.specs.declared.view.Section.{Section}
use Rattle.core_state.specs.declared.view.SearchState.{SearchState}
use Rattle.core_state.specs.declared.view.SearchState.TheVariants.{Found, Missed}
use Rattle.prcu_marks.specs.declared.commit.Commit.{Commit}
use Rattle.core_state.specs.declared.view.View.{View}
use Rattle.core_state.specs.declared.view.Waiting.{Waiting}
use Rattle.list_laws.specs.Counts.{IsIn, Each, times}
use Rattle.core_state.specs.Views.{known_in, LoadedGeneration}
use Rattle.core_state.specs.Parts.{state_slot}
use Rattle.core_state.specs.Steps.{spare_slot}
use Rattle.core_state.specs.Links.{seized}
use Rattle.prcu_model.specs.Dictionary.{key_of}
use Rattle.core_points.specs.declared.stage.Spot.{Spot}
use Rattle.core_points.specs.declared.stage.Aim.{Aim}
use Rattle.core_points.specs.declared.stage.Aim.TheVariants.{Leaf, Spare, Room}
use Rattle.core_points.specs.Programs.{Own, key_now, value_in, is_some, is_none_left}

abbrev pub is_put : Op → Bool
is_put (Put key value) = true
is_put _ = false

abbrev pub is_delete : Op → Bool
is_delete (Del key) = true
is_delete _ = false

abbrev pub is_set : Op → Bool
is_set (Set key value) = true
is_set _ = false

-- how many slots the table has
abbrev pub table_of : Own → ℕ
table_of o = o.slots + o.places + 1

-- The next facts are of a view's groups and of plain values: the running calls of the tree have them too.

-- what was loaded, and what was stored
abbrev pub read_at : Field → ℕ → Known
read_at field n = record { field = field; number = n; stored = false }

abbrev pub stored_at : Field → ℕ → Known
stored_at field n = record { field = field; number = n; stored = true }

-- the slot in hand, of which this was known before, after so many of the four fields of a leaf were stored
abbrev pub leaf_known : List Known → ℕ → ℕ → ℕ → ℕ → List Known
leaf_known before s key value i =
    if i == 0 then before
    else if i == 1 then stored_at (Key s) key ∷ before
    else if i == 2 then stored_at (Value s) value ∷ (stored_at (Key s) key ∷ before)
    else if i == 3 then stored_at (Link s Left) 0 ∷ (stored_at (Value s) value ∷ (stored_at (Key s) key ∷ before))
    else stored_at (Link s Right) 0 ∷ (stored_at (Link s Left) 0 ∷ (stored_at (Value s) value ∷ (stored_at (Key s) key ∷ before)))

abbrev pub leaf_held : List Known → ℕ → ℕ → ℕ → ℕ → Held
leaf_held before s key value i = record { slot = s; known = leaf_known before s key value i; raised = false }

-- a slot in hand that has a leaf's fields, whose life was loaded, and that wasn't raised
pub record IsLeaf (held : Held) (s life key value : ℕ) : Type 0 where
  pub slot_is : held.slot ≡ s
  pub unraised : held.raised ≡ false
  pub life_is : known_in held.known (Life s) ≡ Some life
  pub key_is : known_in held.known (Key s) ≡ Some key
  pub value_is : known_in held.known (Value s) ≡ Some value
  pub left_is : known_in held.known (Link s Left) ≡ Some 0
  pub right_is : known_in held.known (Link s Right) ≡ Some 0

abbrev pub HandFits : Option ℕ → ℕ → ℕ → ℕ → Option Held → Type 0
HandFits None life key value hand = hand ≡ None
HandFits (Some s) life key value hand = (held : Held) × (hand ≡ Some held) × IsLeaf held s life key value

-- nothing is under way but this much: locks, the front odd, a reservation
pub record BareParts (locks : List HeldLock) (commit : Option Commit) (reserved : Bool) (held : List HeldLock) (turn : Option Commit)
    (moving : Option Move) (reserves owes : Bool) : Type 0 where
  pub locks_are : held ≡ locks
  pub turn_is : turn ≡ commit
  pub settled : moving ≡ None
  pub reserved_is : reserves ≡ reserved
  pub paid : owes ≡ false

abbrev pub Bare : View → List HeldLock → Option Commit → Bool → Type 0
Bare v locks commit reserved = BareParts locks commit reserved v.locks v.commit v.moving v.hands.reserved v.hands.owes

-- an open section that searches for a key, and where its search stands
pub record Stands (section : Section) (key : ℕ) (state : SearchState) : Type 0 where
  pub searches : section.listing ≡ None
  pub key_is : section.key ≡ key
  pub sought : section.reading.key ≡ key
  pub state_is : section.reading.state ≡ state
  pub here : IsIn section.reading.stood (state_slot state)

pub record InsideParts (now : Option Section) (key : ℕ) (state : SearchState) (more : Section → Type 0) : Type 0 where
  pub section : Section
  pub is : now ≡ Some section
  pub stands : Stands section key state
  pub known : more section

abbrev pub Inside : View → ℕ → SearchState → (Section → Type 0) → Type 0
Inside v key state more = InsideParts v.section key state more

abbrev pub Nothing : Section → Type 0
Nothing section = Unit {0}

-- a section that was left recorded an empty side of one of so many slots
pub record HasSpot (n : ℕ) (records : List Reading) (key : ℕ) (spot : Spot) : Type 0 where
  pub reading : Reading
  pub kept : IsIn records reading
  pub key_is : reading.key ≡ key
  pub missed : reading.state ≡ Missed spot.slot spot.side
  pub recorded : LoadedGeneration reading spot.slot spot.generation
  pub tag_is : known_in reading.loads (Tag spot.slot spot.side) ≡ Some spot.tag
  pub inside : spot.slot < n

-- the one lock of a put or a set, with what was loaded and stored under it
abbrev pub one_lock : ℕ → List Known → List HeldLock
one_lock s known = record { slot = s; known = known; left_emptied = false; right_emptied = false; marked = false } ∷ []

-- what a put loaded under its lock, where it holds its record
abbrev pub spot_known : Spot → List Known
spot_known spot = read_at (Tag spot.slot spot.side) spot.tag
    ∷ (read_at (Link spot.slot spot.side) 0 ∷ (read_at (Life spot.slot) (2 * spot.generation) ∷ []))

-- locks of which none has an emptied side or a mark
abbrev pub AreClear : List HeldLock → Type 0
AreClear locks = Each locks (λ (l : HeldLock). (l.left_emptied ≡ false) × (l.right_emptied ≡ false) × (l.marked ≡ false))

-- the locks that a caller keeps are those that its view holds, in some order
abbrev pub SameLocks : List ℕ → List HeldLock → Type 0
SameLocks slots locks = (s : ℕ) → times s (map (λ (l : HeldLock). l.slot) locks) ≡ times s slots

-- What a caller keeps is what its view says: of its place, the spare and the retired slots.
pub record OwnsParts (o_place key : ℕ) (rest : List Op) (scan most : ℕ) (o_spare : Option ℕ) (o_retired o_locks : List ℕ) (place places : ℕ)
    (spare : Option Held) (retired : List Retired) (locks : List HeldLock) : Type 0 where
  pub same : place ≡ o_place
  pub works : 1 ≤ places
  pub spare_is : spare_slot spare ≡ o_spare
  pub retired_are : map (λ (r : Retired). r.slot) retired ≡ o_retired
  pub locks_are : SameLocks o_locks locks
  pub key_fits : key < 2 ^ 64
  pub keys_fit : Each rest (λ later. key_of later < 2 ^ 64)
  pub scans : 1 ≤ scan
  pub scans_table : scan ≤ most

abbrev pub Owns : Own → View → Type 0
Owns o v = OwnsParts o.place (key_now o) o.rest o.scan
    (o.slots + o.places) o.spare o.retired o.locks v.allowance.place v.allowance.places v.hands.spare v.hands.retired v.locks

-- What a call has before it searches: only a put has a slot in hand, and a delete has a spare and, of the place's room, two left.
pub record IsReady (most : ℕ) (op : Op) (hand spare : Option ℕ) (retired : List ℕ) : Type 0 where
  pub empty : is_put op ≡ false → hand ≡ None
  pub room : is_delete op ≡ true → length retired ≤ most - 2
  pub has_spare : is_delete op ≡ true → is_some spare ≡ true

abbrev pub Ready : Own → Type 0
Ready o = IsReady o.room o.op o.hand o.spare o.retired

-- the slot in hand of a caller is a filled one
abbrev pub Hand : Own → View → Type 0
Hand o v = HandFits o.hand o.hand_life (key_now o) (value_in o.op) v.hands.hand

-- with nothing under way but a filled slot in hand
pub record CalmParts (most : ℕ) (op : Op) (o_hand o_spare : Option ℕ) (life : ℕ) (o_retired : List ℕ) (locks : List HeldLock) (turn : Option Commit)
    (moving : Option Move) (reserves owes : Bool) (held : Option Held) : Type 0 where
  pub bare : BareParts [] None false locks turn moving reserves owes
  pub hand : HandFits o_hand life (key_of op) (value_in op) held
  pub ready : IsReady most op o_hand o_spare o_retired

abbrev pub Calm : Own → View → Type 0
Calm o v = CalmParts o.room o.op o.hand o.spare o.hand_life o.retired v.locks v.commit v.moving v.hands.reserved v.hands.owes v.hands.hand

-- a put that has a slot in hand, a record, and this much under way
pub record Putting (o : Own) (v : View) (spot : Spot) (locks : List HeldLock) (commit : Option Commit) : Type 0 where
  pub outside : v.section ≡ None
  pub taken : (s : ℕ) × (o.hand ≡ Some s)
  pub bare : Bare v locks commit false
  pub hand : Hand o v
  pub has_spot : HasSpot (table_of o) v.records (key_now o) spot
  pub puts : is_put o.op ≡ true

-- outside a section, with nothing in hand or under way
pub record IdleParts (o_hand : Option ℕ) (section : Option Section) (locks : List HeldLock) (turn : Option Commit) (moving : Option Move)
    (reserves owes : Bool) (hand : Option Held) : Type 0 where
  pub outside : section ≡ None
  pub bare : BareParts [] None false locks turn moving reserves owes
  pub empty : hand ≡ None
  pub no_hand : o_hand ≡ None

abbrev pub Idle : Own → View → Type 0
Idle o v = IdleParts o.hand v.section v.locks v.commit v.moving v.hands.reserved v.hands.owes v.hands.hand

-- what slots are given back for: a put's spot, or a delete
abbrev pub AimsAt : ℕ → Op → List Reading → Aim → Type 0
AimsAt n op records (Leaf spot) = HasSpot n records (key_of op) spot × (is_put op ≡ true)
AimsAt n op records aim = is_delete op ≡ true

abbrev pub ForAim : Own → View → Aim → Type 0
ForAim o v aim = AimsAt (table_of o) o.op v.records aim

-- a delete that takes a spare, with two left of the room of its place
pub record LacksSpare (most : ℕ) (op : Op) (spare : Option ℕ) (retired : List ℕ) : Type 0 where
  pub deletes : is_delete op ≡ true
  pub room : length retired ≤ most - 2
  pub no_spare : spare ≡ None

-- what a slot is taken for: a put's spot, or a delete's spare
abbrev pub TakesAt : ℕ → ℕ → Op → Option ℕ → List ℕ → List Reading → Aim → Type 0
TakesAt n most op spare retired records (Leaf spot) = AimsAt n op records (Leaf spot)
TakesAt n most op spare retired records Spare = LacksSpare most op spare retired
TakesAt n most op spare retired records Room = ⊥

abbrev pub TakesFor : Own → View → Aim → Type 0
TakesFor o v aim = TakesAt (table_of o) o.room o.op o.spare o.retired v.records aim

-- before a slot is reserved, where some are free
pub record Reserving (o : Own) (v : View) (aim : Aim) (expected : ℕ) : Type 0 where
  pub idle : Idle o v
  pub some : 1 ≤ expected
  pub takes : TakesFor o v aim

-- one is reserved
pub record Seizing (o : Own) (v : View) (aim : Aim) : Type 0 where
  pub outside : v.section ≡ None
  pub bare : Bare v [] None true
  pub empty : v.hands.hand ≡ None
  pub no_hand : o.hand ≡ None
  pub takes : TakesFor o v aim

-- this one was seized
pub record Aging (o : Own) (v : View) (aim : Aim) (s : ℕ) : Type 0 where
  pub outside : v.section ≡ None
  pub bare : Bare v [] None false
  pub in_hand : v.hands.hand ≡ Some (seized s)
  pub taken : o.hand ≡ Some s
  pub takes : TakesFor o v aim

-- the slot in hand, whose life was loaded or stored before, has so many of a leaf's fields
pub record Filling (o : Own) (v : View) (spot : Spot) (i : ℕ) : Type 0 where
  pub outside : v.section ≡ None
  pub bare : Bare v [] None false
  pub slot : ℕ
  pub taken : o.hand ≡ Some slot
  pub before : List Known
  pub life_is : known_in before (Life slot) ≡ Some o.hand_life
  pub in_hand : v.hands.hand ≡ Some (leaf_held before slot (key_now o) (value_in o.op) i)
  pub has_spot : HasSpot (table_of o) v.records (key_now o) spot
  pub puts : is_put o.op ≡ true
  pub small : i ≤ 3

-- a slot in hand is kept as the spare
pub record Keeping (o : Own) (v : View) (s : ℕ) : Type 0 where
  pub outside : v.section ≡ None
  pub bare : Bare v [] None false
  pub held : Held
  pub in_hand : v.hands.hand ≡ Some held
  pub slot_is : held.slot ≡ s
  pub lacks : LacksSpare o.room o.op o.spare o.retired

-- the life of the slot in hand was raised
pub record HasRaised (o_hand : Option ℕ) (hand : Option Held) : Type 0 where
  pub slot : ℕ
  pub held : Held
  pub taken : o_hand ≡ Some slot
  pub slot_is : held.slot ≡ slot
  pub raised : held.raised ≡ true
  pub in_hand : hand ≡ Some held

-- the life of the first retired slot was loaded
pub record FirstAged (retired : List Retired) (life : ℕ) : Type 0 where
  pub first : Retired
  pub rest : List Retired
  pub are : retired ≡ first ∷ rest
  pub loaded : first.life ≡ Some life

-- the life of the first retired slot was raised, and of no other
pub record FirstRaised (retired : List Retired) : Type 0 where
  pub first : Retired
  pub rest : List Retired
  pub are : retired ≡ first ∷ rest
  pub raised : first.raised ≡ true
  pub others : Each rest (λ (r : Retired). r.raised ≡ false)

-- all retired slots were waited for, and the first is given back
pub record GivingBack (o : Own) (v : View) (aim : Aim) : Type 0 where
  pub idle : Idle o v
  pub aimed : ForAim o v aim
  pub waited : Each v.hands.retired (λ (r : Retired). r.waited ≡ true)
  pub first : FirstRaised v.hands.retired
  pub has_spare : is_some o.spare ≡ true

-- the place's wait is for everybody, began after each unlinking, and has excused the places below this one
pub record Outlasts (wait : Waiting) (retired : List Retired) (clock p : ℕ) : Type 0 where
  pub going : wait.ended ≡ false
  pub low_is : wait.low ≡ 0
  pub high_is : wait.high ≡ 18446744073709551615
  pub clock_is : wait.clock ≡ clock
  pub past : (q : ℕ) → q < p → IsIn wait.excused (Stamp q)
  pub later : Each retired (λ (r : Retired). r.unlinked < wait.began)

abbrev pub Outlasting : Own → View → ℕ → ℕ → Type 0
Outlasting o v clock p = (wait : Waiting) × (v.wait ≡ Some wait) × Outlasts wait v.hands.retired clock p

-- Outside a section, with no slot in hand and no move: what holds before and after an update under locks.
pub record SettledParts (commit : Option Commit) (o_hand : Option ℕ) (section : Option Section) (turn : Option Commit) (moving : Option Move)
    (reserved owes : Bool) (hand : Option Held) : Type 0 where
  pub outside : section ≡ None
  pub turn_is : turn ≡ commit
  pub settled : moving ≡ None
  pub unreserved : reserved ≡ false
  pub paid : owes ≡ false
  pub empty : hand ≡ None
  pub no_hand : o_hand ≡ None

abbrev pub Settled : Own → View → Option Commit → Type 0
Settled o v commit = SettledParts commit o.hand v.section v.commit v.moving v.hands.reserved v.hands.owes v.hands.hand

abbrev pub HasLocks : Own → Type 0
HasLocks o = is_none_left o.locks ≡ false

-- before a lock is given up
pub record UnlockingParts (o_locks : List ℕ) (section : Option Section) (turn : Option Commit) (moving : Option Move) (reserved owes : Bool)
    (locks : List HeldLock) : Type 0 where
  pub outside : section ≡ None
  pub no_turn : turn ≡ None
  pub settled : moving ≡ None
  pub unreserved : reserved ≡ false
  pub paid : owes ≡ false
  pub clear : AreClear locks
  pub some : is_none_left o_locks ≡ false

abbrev pub Unlocking : Own → View → Type 0
Unlocking o v = UnlockingParts o.locks v.section v.commit v.moving v.hands.reserved v.hands.owes v.locks

-- outside a section, with a slot freed that isn't counted yet, and nothing else in hand or under way
pub record OwingParts (o_hand : Option ℕ) (section : Option Section) (turn : Option Commit) (moving : Option Move) (reserves owes : Bool)
    (hand : Option Held) (locks : List HeldLock) : Type 0 where
  pub outside : section ≡ None
  pub no_hand : o_hand ≡ None
  pub empty : hand ≡ None
  pub unlocked : locks ≡ []
  pub no_turn : turn ≡ None
  pub settled : moving ≡ None
  pub unreserved : reserves ≡ false
  pub owing : owes ≡ true

abbrev pub Owing : Own → View → Type 0
Owing o v = OwingParts o.hand v.section v.commit v.moving v.hands.reserved v.hands.owes v.hands.hand v.locks

-- a section that was left found one of so many slots, and loaded its generation
pub record HasFound (n : ℕ) (records : List Reading) (key s generation : ℕ) : Type 0 where
  pub reading : Reading
  pub kept : IsIn records reading
  pub key_is : reading.key ≡ key
  pub found : (p : ℕ) × (b : Side) × (value : Option ℕ) × (reading.state ≡ Found s p b value)
  pub recorded : LoadedGeneration reading s generation
  pub inside : s < n

-- a set that has a record, and this much under way
pub record Setting (o : Own) (v : View) (s generation : ℕ) (locks : List HeldLock) (commit : Option Commit) : Type 0 where
  pub quiet : Settled o v commit
  pub locks_are : v.locks ≡ locks
  pub found : HasFound (table_of o) v.records (key_now o) s generation
  pub sets : is_set o.op ≡ true

-- what a set loaded under its lock, where it holds its record
abbrev pub set_known : ℕ → ℕ → ℕ → List Known
set_known s generation value = read_at (Value s) value ∷ (read_at (Life s) (2 * generation) ∷ [])

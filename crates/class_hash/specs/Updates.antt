-- What updates make of a view, under a bucket's lock.
-- What an update makes of a view, under a bucket's lock.
-- Source: docs/HASH_DICTIONARY.md, "The calls of the hash dictionary".
use Rattle.std.specs.Prelude.{◌≡◌, ℕ, ◌-◌, ◌≤◌, true, false, List, [], ◌∷◌, ◌++◌, length, Option, Some, None, ◌≢◌, ◌%◌}
use mathlib.Core.List.{IsPrefix}
use Rattle.prcu_marks.specs.declared.mark.Mark.{Mark}
use Rattle.prcu_marks.specs.declared.mark.Mark.TheVariants.{Done, Unlinked, Given}
use Rattle.prcu_model.specs.declared.operation.Op.TheVariants.{Set, Del, Put}
use Rattle.prcu_model.specs.declared.operation.Op.{Op}
use Rattle.prcu_model.specs.Dictionary.{map_of, IsLegal}
use Rattle.hash_core.specs.declared.words.Field.{Field}
use Rattle.hash_core.specs.declared.words.Field.TheVariants.{Head, Key, Next, Free, Retired, Value}
use Rattle.hash_core.specs.declared.view.Hold.{Hold}
use Rattle.hash_core.specs.declared.view.View.{View}
use Rattle.hash_core.specs.declared.view.StepMade.{StepMade}
use Rattle.prcu_marks.specs.Marks.{updates_of, most_front}
use Rattle.hash_core.specs.Memory.{is_slot_of, IsOfClass}
use Rattle.hash_core.specs.Steps.{known_in, IsOnWalk, fresh_hold, NeedsUnlock, ShowsAbsent}
use Rattle.class_hash.specs.Calls.{AddsNoLists, IsFoundAt, Unlocks, Lists, polled}
use Rattle.std.specs.FinMap as finite

-- Some steps were made, and nothing else has changed.
pub record HasStepped (v w : View) : Type 0 where
  pub trail : AddsNoLists v.trail w.trail
  pub view : w ≡ record v { trail = w.trail }

-- A bucket's lock was taken, after some steps.
pub record HasLocked (v : View) (class : ℕ) (w : View) : Type 0 where
  pub trail : AddsNoLists v.trail w.trail
  pub view : w ≡ record v { hold = Some (fresh_hold class); trail = w.trail }

-- the front was made odd, after some steps
pub record HasTurned (v : View) (even : ℕ) (w : View) : Type 0 where
  pub small : even ≤ most_front
  pub trail : AddsNoLists v.trail w.trail
  pub view : w ≡ record v { commit = Some (record { found = even; stored = false }); trail = w.trail }

-- Under the lock, with nothing begun, the slot is on the known walk and has the key; and a ticket is left.
pub record MayReplace (capacities : List ℕ) (v : View) (slot key : ℕ) : Type 0 where
  pub hold : Hold
  pub finished : NeedsUnlock v hold
  pub on : IsOnWalk hold slot
  pub key_is : known_in hold.known (Key slot) ≡ Some key
  pub slot_is : is_slot_of capacities hold.class slot ≡ true
  pub ticket : 1 ≤ v.tickets

-- An update was made after these marks, further marks were left with it, and the lock was given up.
abbrev pub with_update : View → Op → List Mark → List Mark → List StepMade → View
with_update v op before more trail = record v {
  tickets = v.tickets - 1;
  hold = None;
  own = v.own ++ Done (record { caller = v.place; op = op }) ∷ [];
  trail = trail;
  seen = before ++ Done (record { caller = v.place; op = op }) ∷ more;
}

-- The one update of the call was made as the last of the history so far, which is as long as the number, and the lock was
-- given up. After the updates before it the dictionary gave the key the old value.
pub record Replaced (v : View) (key value old number : ℕ) (w : View) : Type 0 where
  pub before : List Mark
  pub since : IsPrefix v.seen before
  pub was : finite.get (map_of (updates_of before)) key ≡ Some old
  pub legal : IsLegal (updates_of w.seen)
  pub number_is : number ≡ length (updates_of w.seen)
  pub view : w ≡ with_update v (Set key value) before [] w.trail

-- the link to the slot that comes after another, or first
abbrev pub link_after : ℕ → Option ℕ → Field
link_after class None = Head class
link_after class (Some slot) = Next slot

-- Under the lock, with nothing begun, the slot was found on the known walk, from a link of the class; and a ticket is left.
pub record MayUnlink (capacities : List ℕ) (v : View) (previous : Option ℕ) (slot key : ℕ) : Type 0 where
  pub hold : Hold
  pub finished : NeedsUnlock v hold
  pub found : IsFoundAt key hold previous slot
  pub link : IsOfClass capacities hold.class (link_after hold.class previous)
  pub slot_is : is_slot_of capacities hold.class slot ≡ true
  pub ticket : 1 ≤ v.tickets

-- The one update of the call was made, as where a value is replaced, and a slot was unlinked with it.
pub record Removed (v : View) (key number : ℕ) (w : View) : Type 0 where
  pub before : List Mark
  pub slot : ℕ
  pub since : IsPrefix v.seen before
  pub legal : IsLegal (updates_of w.seen)
  pub number_is : number ≡ length (updates_of w.seen)
  pub view : w ≡ with_update v (Del key) before (Unlinked slot ∷ []) w.trail

-- What a put makes of a view, under a bucket's lock.
-- Source: docs/HASH_DICTIONARY.md, "The calls of the hash dictionary".

-- After some looks for readers, the retired list became the free list.
pub record HasPolled (v w : View) : Type 0 where
  pub hold : Hold
  pub is : v.hold ≡ Some hold
  pub first : ℕ
  pub retired : known_in hold.known (Retired hold.class) ≡ Some first
  pub trail : AddsNoLists v.trail w.trail
  pub view : w ≡ record v { hold = Some (polled hold first); trail = w.trail }

-- The free and the retired word of the class were loaded, and one of them wasn't 0. They weren't loaded again.
pub record HasSeenRoom (capacities : List ℕ) (v w : View) : Type 0 where
  pub listed : View
  pub free : ℕ
  pub retired : ℕ
  pub lists : Lists capacities v free retired listed
  pub some : free ≡ 0 → retired ≢ 0
  pub trail : AddsNoLists listed.trail w.trail

-- Under the lock, with nothing begun, the first free slot is known, after the lists were not both found empty. What was known to
-- be absent is so still.
pub record HasFree (capacities : List ℕ) (v : View) (slot : ℕ) (w : View) : Type 0 where
  pub hold : Hold
  pub new : Hold
  pub was : v.hold ≡ Some hold
  pub finished : NeedsUnlock w new
  pub class : new.class ≡ hold.class
  pub first : known_in new.known (Free new.class) ≡ Some slot
  pub slot_is : is_slot_of capacities hold.class slot ≡ true
  pub absent : (key : ℕ) → ShowsAbsent hold key → ShowsAbsent new key
  pub room : HasSeenRoom capacities v w
  pub seen : IsPrefix v.seen w.seen
  pub view : w ≡ record v { hold = Some new; trail = w.trail; seen = w.seen }

-- Under the lock of the key's class, with nothing begun, the walk shows the key absent; and a ticket is left.
pub record MayAdd (v : View) (key : ℕ) : Type 0 where
  pub hold : Hold
  pub finished : NeedsUnlock v hold
  pub class : key % 64 ≡ hold.class
  pub absent : ShowsAbsent hold key
  pub ticket : 1 ≤ v.tickets

-- The first free slot is known besides.
pub record MayFill (capacities : List ℕ) (v : View) (slot key : ℕ) : Type 0 where
  pub hold : Hold
  pub finished : NeedsUnlock v hold
  pub class : key % 64 ≡ hold.class
  pub absent : ShowsAbsent hold key
  pub ticket : 1 ≤ v.tickets
  pub first : known_in hold.known (Free hold.class) ≡ Some slot
  pub slot_is : is_slot_of capacities hold.class slot ≡ true

-- The slot was taken, has the pair, and leads to the head; all else is as it was for an update to be begun.
pub record MayLink (v : View) (slot key value : ℕ) : Type 0 where
  pub hold : Hold
  pub first : ℕ
  pub is : v.hold ≡ Some hold
  pub taken : hold.taken ≡ Some slot
  pub unlinked : hold.unlinked ≡ None
  pub moved : hold.moved ≡ None
  pub commit : v.commit ≡ None
  pub key_is : known_in hold.known (Key slot) ≡ Some key
  pub value_is : known_in hold.known (Value slot) ≡ Some value
  pub next_is : known_in hold.known (Next slot) ≡ Some first
  pub head_is : known_in hold.known (Head hold.class) ≡ Some first
  pub class : key % 64 ≡ hold.class
  pub absent : ShowsAbsent hold key
  pub ticket : 1 ≤ v.tickets

-- The slot was given after these marks, and may be linked.
pub record Filled (v : View) (slot key value : ℕ) (w : View) : Type 0 where
  pub before : List Mark
  pub since : IsPrefix v.seen before
  pub may : MayLink w slot key value
  pub trail : AddsNoLists v.trail w.trail
  pub view : w ≡ record v { hold = w.hold; trail = w.trail; seen = before ++ Given slot ∷ [] }

-- The one update of the call was made as the last of the history so far, which is as long as the number, and the lock was
-- given up.
pub record Linked (v : View) (key value number : ℕ) (w : View) : Type 0 where
  pub before : List Mark
  pub since : IsPrefix v.seen before
  pub legal : IsLegal (updates_of w.seen)
  pub number_is : number ≡ length (updates_of w.seen)
  pub view : w ≡ with_update v (Put key value) before [] w.trail

-- A slot was given between these marks: after all of the first, and among the second.
pub record HasGiven (first : List Mark) (slot : ℕ) (last : List Mark) : Type 0 where
  pub before : List Mark
  pub since : IsPrefix first before
  pub until : IsPrefix (before ++ Given slot ∷ []) last

-- As where a pair is linked; before that its slot was given, and before that the lists were not both found empty.
pub record Added (capacities : List ℕ) (v : View) (key value number : ℕ) (w : View) : Type 0 where
  pub linked : Linked v key value number w
  pub slot : ℕ
  pub given : HasGiven v.seen slot linked.before
  pub room : HasSeenRoom capacities v w

-- The free and the retired word of the class were loaded as 0, and then the lock was given up.
pub record LeavesFull (capacities : List ℕ) (v w : View) : Type 0 where
  pub listed : View
  pub lists : Lists capacities v 0 0 listed
  pub unlocks : Unlocks listed w

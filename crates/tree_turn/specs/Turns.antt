-- What a turn asks, and what it leaves: a node and its child change places.
-- Source: docs/TREE_CALLS.md, "Turns".
use Rattle.std.specs.Prelude.{◌≡◌, ◌≢◌, ◌⊎◌, ℕ, ◌+◌, ◌-◌, ◌*◌, ◌<◌, ◌≤◌, Bool, true, false, List, [], ◌∷◌, ◌++◌, length, Some, None, ◌==◌, if◌then◌else◌, Option, ◌&&◌, not}
use Rattle.prcu_marks.specs.declared.mark.Mark.{Mark}
use Rattle.prcu_marks.specs.declared.mark.Side.{Side}
use Rattle.core_state.specs.declared.shape.Shape.{Shape}
use Rattle.core_state.specs.declared.words.Field.{Field}
use Rattle.core_state.specs.declared.words.Field.TheVariants.{Lock, Life, Key, Value, Link}
use Rattle.core_state.specs.declared.words.Kind.{Kind}
use Rattle.core_state.specs.declared.words.Kind.TheVariants.{K12, K13, K14, K18, K22, K38}
use Rattle.core_state.specs.declared.view.Held.{Held}
use Rattle.core_state.specs.declared.view.Reading.{Reading}
use Rattle.core_state.specs.declared.view.Retired.{Retired}
use Rattle.core_state.specs.declared.view.StepMade.{StepMade}
use Rattle.core_state.specs.declared.view.View.{View}
use Rattle.list_laws.specs.Counts.{IsIn}
use Rattle.core_state.specs.Memory.{across}
use Rattle.core_state.specs.Links.{rotate_marks, IsInHand, IsSpare}
use Rattle.core_state.specs.Views.{LoadedGeneration, change_lock}
use Rattle.seat_table.specs.Gains.{IsSlot, Sees}
use Rattle.seat_table.specs.Seats.{SeatAt, IsQuietSeat}
use Rattle.node_slots.specs.Taking.{MakesSteps}
use Rattle.tree_turn.specs.declared.turn.Turn.{Turn}
use Rattle.tree_turn.specs.declared.turn.Content.{Content}
use Rattle.tree_turn.specs.declared.turn.NodeWords.{NodeWords}
use Rattle.tree_turn.specs.declared.turn.TurnWords.{TurnWords}
use Rattle.core_state.specs.declared.view.HeldLock.{HeldLock}
use Rattle.core_state.specs.declared.view.Known.{Known}
use Rattle.core_state.specs.declared.view.Trail.{Trail}

-- The three are slots of the table, apart from each other. The node and the child aren't the root.
pub record AreThree (k : Shape) (t : Turn) : Type 0 where
  pub parent_slot : IsSlot k t.parent
  pub node_slot : IsSlot k t.node
  pub child_slot : IsSlot k t.child
  pub node_apart : t.node ≢ t.parent
  pub child_apart : t.child ≢ t.node
  pub child_off : t.child ≢ t.parent
  pub some_node : t.node ≢ 0
  pub some_child : t.child ≢ 0

-- One section loaded the generations of the three, and its record is kept.
pub record HasRecorded (k : Shape) (v : View) (t : Turn) : Type 0 where
  pub three : AreThree k t
  pub reading : Reading
  pub kept : IsIn v.records reading
  pub parent_age : LoadedGeneration reading t.parent t.parent_generation
  pub node_age : LoadedGeneration reading t.node t.node_generation
  pub child_age : LoadedGeneration reading t.child t.child_generation

-- The seat is outside a section, holds no lock and moves nothing. It has a slot in hand, whose generation wasn't raised, and a spare, one
-- ticket, and room for two more retired slots, where its place may hold so many back.
pub record IsReadyToTurn (most : ℕ) (v : View) : Type 0 where
  pub outside : v.section ≡ None
  pub unlocked : v.locks ≡ []
  pub settled : v.moving ≡ None
  pub ticket : 1 ≤ v.allowance.tickets
  pub room : length v.hands.retired + 1 < most
  pub hand : Held
  pub hand_is : v.hands.hand ≡ Some hand
  pub unraised : hand.raised ≡ false
  pub spare : Held
  pub spare_is : v.hands.spare ≡ Some spare

-- The seat is quiet but for a slot that may be in hand.
pub record IsQuietButHand (s : SeatAt) : Type 0 where
  pub quiet : IsQuietSeat (record s { view = record s.view { hands = record s.view.hands { hand = None } } })

-- the steps of a turn: a lock is tried, and given up; a word is loaded under a lock; a word of a slot that isn't linked is stored; a node
-- is marked; the two nodes are replaced
abbrev pub locking : ℕ → ℕ → StepMade
locking slot found = record { kind = K13; field = Lock slot; number = found }

abbrev pub unlocking : ℕ → StepMade
unlocking slot = record { kind = K14; field = Lock slot; number = 0 }

abbrev pub loading : Field → ℕ → StepMade
loading field number = record { kind = K18; field = field; number = number }

abbrev pub filling : Field → ℕ → StepMade
filling field number = record { kind = K12; field = field; number = number }

abbrev pub marking : ℕ → ℕ → StepMade
marking slot life = record { kind = K22; field = Life slot; number = life + 1 }

abbrev pub rotating : Turn → ℕ → StepMade
rotating t top = record { kind = K38; field = Link t.parent t.side; number = top }

-- the locks are got from above, and given up from below
abbrev pub lock_steps : Turn → List StepMade
lock_steps t = locking t.parent 0 ∷ (locking t.node 0 ∷ (locking t.child 0 ∷ []))

abbrev pub unlock_steps : Turn → List StepMade
unlock_steps t = unlocking t.child ∷ (unlocking t.node ∷ (unlocking t.parent ∷ []))

-- the loads under them
abbrev pub parent_loads : Turn → TurnWords → List StepMade
parent_loads t words = loading (Life t.parent) words.parent_life ∷ (loading (Link t.parent t.side) words.link ∷ [])

abbrev pub node_loads : ℕ → Side → NodeWords → List StepMade
node_loads slot turn n =
    loading (Life slot) n.life ∷ (loading (Key slot) n.content.key ∷ (loading (Value slot) n.content.value
    ∷ (loading (Link slot turn) n.content.turn_link ∷ (loading (Link slot (across turn)) n.content.other_link ∷ []))))

abbrev pub load_steps : Turn → TurnWords → List StepMade
load_steps t words = parent_loads t words ++ (node_loads t.node t.turn words.node ++ node_loads t.child t.turn words.child)

-- What stands under the locks is what was recorded: the three have the recorded generations and are unmarked, the parent's link leads to
-- the node, and the node's to the child.
pub record IsAsRecorded (t : Turn) (words : TurnWords) : Type 0 where
  pub parent_life : words.parent_life ≡ 2 * t.parent_generation
  pub node_life : words.node.life ≡ 2 * t.node_generation
  pub child_life : words.child.life ≡ 2 * t.child_generation
  pub link : words.link ≡ t.node
  pub turn_link : words.node.content.turn_link ≡ t.child

-- The new node below has the node's pair, what was between the two, and what the node had on the other side. The new node above has the
-- child's pair, what the child had on the side of the turn, and the one below.
abbrev pub lower_content : TurnWords → Content
lower_content words = record {
  key = words.node.content.key;
  value = words.node.content.value;
  turn_link = words.child.content.other_link;
  other_link = words.node.content.other_link;
}

abbrev pub upper_content : TurnWords → ℕ → Content
upper_content words bottom = record {
  key = words.child.content.key;
  value = words.child.content.value;
  turn_link = words.child.content.turn_link;
  other_link = bottom;
}

abbrev pub fill_steps : ℕ → Side → Content → List StepMade
fill_steps slot turn c =
    filling (Key slot) c.key ∷ (filling (Value slot) c.value ∷ (filling (Link slot turn) c.turn_link
    ∷ (filling (Link slot (across turn)) c.other_link ∷ [])))

-- the slot in hand becomes the lower node, the spare the upper one
abbrev pub replace_steps : Turn → TurnWords → ℕ → ℕ → List StepMade
replace_steps t words bottom top =
    fill_steps bottom t.turn (lower_content words) ++ (fill_steps top t.turn (upper_content words bottom)
    ++ (marking t.node words.node.life ∷ (marking t.child words.child.life ∷ (rotating t top ∷ []))))

-- all steps of a turn that is made
abbrev pub turn_steps : Turn → TurnWords → ℕ → ℕ → List StepMade
turn_steps t words bottom top = lock_steps t ++ (load_steps t words ++ (replace_steps t words bottom top ++ unlock_steps t))

-- the slot was unlinked by the mark at this place, and nothing was done with it since
pub record IsUnlinkedAt (slot unlinked : ℕ) (r : Retired) : Type 0 where
  pub slot_is : r.slot ≡ slot
  pub unlinked_is : r.unlinked ≡ unlinked
  pub unraised : r.raised ≡ false
  pub unwaited : r.waited ≡ false

-- The two changed places: all was as recorded, and these steps were made. The node and the child were unlinked, the node first, after all
-- marks that there were, of which the seat has seen a beginning and all of its places. They are the last retired slots; nothing is in hand
-- or spare; and a ticket was spent. Nothing else of what the seat knows changed.
pub record HasTurned (v : View) (t : Turn) (w : View) : Type 0 where
  pub words : TurnWords
  pub as_recorded : IsAsRecorded t words
  pub bottom : Held
  pub hand_was : v.hands.hand ≡ Some bottom
  pub top : Held
  pub spare_was : v.hands.spare ≡ Some top
  pub made : MakesSteps v (turn_steps t words bottom.slot top.slot) w
  pub before : List Mark
  pub sees : Sees v before
  pub node_gone : Retired
  pub node_is : IsUnlinkedAt t.node (length before) node_gone
  pub child_gone : Retired
  pub child_is : IsUnlinkedAt t.child (length before + 1) child_gone
  pub rest : w ≡ record v {
    allowance = record v.allowance { tickets = v.allowance.tickets - 1 };
    hands = record v.hands { hand = None; spare = None; retired = v.hands.retired ++ node_gone ∷ (child_gone ∷ []) };
    trail = w.trail;
    seen = before ++ rotate_marks t.node t.child;
  }

-- The slots in hand and spare are none of the three, and two.
pub record AreAside (t : Turn) (bottom top : ℕ) : Type 0 where
  pub two : bottom ≢ top
  pub bottom_parent : bottom ≢ t.parent
  pub bottom_node : bottom ≢ t.node
  pub bottom_child : bottom ≢ t.child
  pub top_parent : top ≢ t.parent
  pub top_node : top ≢ t.node
  pub top_child : top ≢ t.child

-- What was recorded is stale, since one of the three is by now in hand or the spare; or these are one slot, which the rule excludes. No
-- step was made.
pub record FoundOwn (v : View) (t : Turn) (w : View) : Type 0 where
  pub bottom : Held
  pub hand_was : v.hands.hand ≡ Some bottom
  pub top : Held
  pub spare_was : v.hands.spare ≡ Some top
  pub not_aside : AreAside t bottom.slot top.slot → ⊥
  pub made : MakesSteps v [] w

-- A lock was found taken. Those that were got before are given up.
abbrev pub Finds : View → Turn → ℕ → View → Type 0
Finds v t found w =
    MakesSteps v (locking t.parent found ∷ []) w
    ⊎ (MakesSteps v (locking t.parent 0 ∷ (locking t.node found ∷ (unlocking t.parent ∷ []))) w
    ⊎ MakesSteps v (locking t.parent 0 ∷ (locking t.node 0 ∷ (locking t.child found ∷ (unlocking t.node ∷ (unlocking t.parent ∷ []))))) w)

pub record FoundLocked (v : View) (t : Turn) (w : View) : Type 0 where
  pub found : ℕ
  pub taken : found ≢ 0
  pub made : Finds v t found w

-- What stands under the locks isn't as recorded.
pub record FoundOther (v : View) (t : Turn) (w : View) : Type 0 where
  pub words : TurnWords
  pub other : IsAsRecorded t words → ⊥
  pub made : MakesSteps v (lock_steps t ++ (load_steps t words ++ unlock_steps t)) w

-- Nothing is changed but the trail, and why.
pub record HasTurnedNone (v : View) (t : Turn) (w : View) : Type 0 where
  pub why : FoundOwn v t w ⊎ (FoundLocked v t w ⊎ FoundOther v t w)
  pub rest : w ≡ record v { trail = w.trail }

-- the kind of the step that replaces a node and its child
abbrev pub is_rotation : Kind → Bool
is_rotation K38 = true
is_rotation _ = false

-- What stands in the seat's view while a turn holds its three locks.
-- Source: docs/TREE_CALLS.md, "Turns".

-- a word that was loaded, and one that was stored
abbrev pub loaded : Field → ℕ → Known
loaded field number = record { field = field; number = number; stored = false }

abbrev pub filled : Field → ℕ → Known
filled field number = record { field = field; number = number; stored = true }

-- a lock with what is known under it, and whether this seat marked its slot
abbrev pub held_lock : ℕ → List Known → Bool → HeldLock
held_lock slot known marked = record { slot = slot; known = known; left_emptied = false; right_emptied = false; marked = marked }

-- the three locks, the latest first, with what is known of the parent, the node and the child
abbrev pub three_locks : Turn → List Known → List Known → List Known → List HeldLock
three_locks t parent node child =
    held_lock t.child child false ∷ (held_lock t.node node false ∷ (held_lock t.parent parent false ∷ []))

-- what is known by the loads, the latest first
abbrev pub parent_known : Turn → TurnWords → List Known
parent_known t words = loaded (Link t.parent t.side) words.link ∷ (loaded (Life t.parent) words.parent_life ∷ [])

abbrev pub node_known : ℕ → Side → NodeWords → List Known
node_known slot turn n =
    loaded (Link slot (across turn)) n.content.other_link ∷ (loaded (Link slot turn) n.content.turn_link
    ∷ (loaded (Value slot) n.content.value ∷ (loaded (Key slot) n.content.key ∷ (loaded (Life slot) n.life ∷ []))))

abbrev pub loaded_locks : Turn → TurnWords → List HeldLock
loaded_locks t words =
    three_locks t (parent_known t words) (node_known t.node t.turn words.node) (node_known t.child t.turn words.child)

-- what is known of a slot that was filled
abbrev pub content_known : ℕ → Side → Content → List Known
content_known slot turn c =
    filled (Link slot (across turn)) c.other_link ∷ (filled (Link slot turn) c.turn_link ∷ (filled (Value slot) c.value
    ∷ (filled (Key slot) c.key ∷ [])))

-- more is known under a lock, and of a slot in hand or spare
abbrev pub knowing : List Known → HeldLock → HeldLock
knowing known lock = record lock { known = known ++ lock.known }

abbrev pub learning : ℕ → List Known → Option Held → Option Held
learning slot known None = None
learning slot known (Some held) = Some (if held.slot == slot then record held { known = known ++ held.known } else held)

-- these steps more
abbrev pub adding : Trail → List StepMade → Trail
adding trail steps = record trail { steps = trail.steps ++ steps }

-- the slot is neither in hand nor the spare
pub record IsAside (v : View) (slot : ℕ) : Type 0 where
  pub not_hand : (held : Held) → v.hands.hand ≡ Some held → held.slot ≢ slot
  pub not_spare : (held : Held) → v.hands.spare ≡ Some held → held.slot ≢ slot

-- neither is one of the three
pub record ThreeAside (v : View) (t : Turn) : Type 0 where
  pub parent_aside : IsAside v t.parent
  pub node_aside : IsAside v t.node
  pub child_aside : IsAside v t.child

-- the slot in hand, or the spare
abbrev pub IsHeldSlot : View → ℕ → Type 0
IsHeldSlot v slot = (held : Held) × (IsInHand v held slot ⊎ IsSpare v held slot)

-- The three locks were got.
abbrev pub HasLocked : View → Turn → View → Type 0
HasLocked v t w = w ≡ record v { locks = three_locks t [] [] []; trail = adding v.trail (lock_steps t) }

-- One was found taken, and no lock is held.
pub record HasGivenUp (v : View) (t : Turn) (w : View) : Type 0 where
  pub found : ℕ
  pub taken : found ≢ 0
  pub made : Finds v t found w
  pub rest : w ≡ record v { trail = w.trail }

-- Words of a slot were loaded under its lock.
abbrev pub HasLoaded : View → ℕ → List Known → List StepMade → View → Type 0
HasLoaded v slot known steps w = w ≡ record v { locks = change_lock slot (knowing known) v.locks; trail = adding v.trail steps }

-- whether what was loaded is as recorded, and whether the slots in hand and spare are none of the three, and two
abbrev pub agrees : Turn → TurnWords → Bool
agrees t words = (words.parent_life == 2 * t.parent_generation) && ((words.node.life == 2 * t.node_generation)
    && ((words.child.life == 2 * t.child_generation) && ((words.link == t.node) && (words.node.content.turn_link == t.child))))

abbrev pub stands_aside : Turn → ℕ → ℕ → Bool
stands_aside t bottom top = not (bottom == top) && (not (bottom == t.parent) && (not (bottom == t.node) && (not (bottom == t.child)
    && (not (top == t.parent) && (not (top == t.node) && not (top == t.child))))))

-- All that a turn loads was loaded.
abbrev pub HasLoadedAll : View → Turn → TurnWords → View → Type 0
HasLoadedAll v t words w = w ≡ record v { locks = loaded_locks t words; trail = adding v.trail (load_steps t words) }

-- Words of a slot in hand or spare were stored.
abbrev pub HasFilled : View → ℕ → Side → Content → View → Type 0
HasFilled v slot turn c w = w ≡ record v {
  hands = record v.hands {
    hand = learning slot (content_known slot turn c) v.hands.hand;
    spare = learning slot (content_known slot turn c) v.hands.spare;
  };
  trail = adding v.trail (fill_steps slot turn c);
}

-- The three locks were given up.
abbrev pub HasUnlocked : View → Turn → View → Type 0
HasUnlocked v t w = w ≡ record v { locks = []; trail = adding v.trail (unlock_steps t) }

-- All that stands under the locks is as recorded, and the seat may replace the node and the child.
pub record MayReplace (most : ℕ) (v : View) (t : Turn) (words : TurnWords) (bottom top : ℕ) : Type 0 where
  pub as_recorded : IsAsRecorded t words
  pub locks_are : v.locks ≡ loaded_locks t words
  pub settled : v.moving ≡ None
  pub ticket : 1 ≤ v.allowance.tickets
  pub room : length v.hands.retired + 1 < most
  pub lower : Held
  pub hand_is : IsInHand v lower bottom
  pub unraised : lower.raised ≡ false
  pub upper : Held
  pub spare_is : IsSpare v upper top
  pub aside : AreAside t bottom top

-- They were replaced; the locks are still held.
pub record HasReplaced (v : View) (t : Turn) (words : TurnWords) (bottom top : ℕ) (w : View) : Type 0 where
  pub before : List Mark
  pub sees : Sees v before
  pub node_gone : Retired
  pub node_is : IsUnlinkedAt t.node (length before) node_gone
  pub child_gone : Retired
  pub child_is : IsUnlinkedAt t.child (length before + 1) child_gone
  pub parent_words : List Known
  pub node_words : List Known
  pub child_words : List Known
  pub rest : w ≡ record v {
    allowance = record v.allowance { tickets = v.allowance.tickets - 1 };
    locks = three_locks t parent_words node_words child_words;
    hands = record v.hands { hand = None; spare = None; retired = v.hands.retired ++ node_gone ∷ (child_gone ∷ []) };
    trail = adding v.trail (replace_steps t words bottom top);
    seen = before ++ rotate_marks t.node t.child;
  }

-- Runs on literal words.
use Rattle.std.proofs.Common.{ℕ, ◌+◌, ◌-◌, List, [], ◌∷◌, ◌++◌, refl, ◌≡◌, ◌*◌, true, false, take, sym, inl, arith}
use Rattle.prcu_marks.specs.declared.mark.Side.{Side}
use Rattle.prcu_marks.specs.declared.mark.Side.TheVariants.{Left, Right}
use Rattle.core_state.specs.declared.act.Part.{Part}
use Rattle.core_state.specs.declared.act.Part.TheVariants.{Key, Value, Life, Link, Tag}
use Rattle.core_state.specs.Invariant.{first_view}
use Rattle.core_state.specs.Memory.{place_room, idle, class_room, classes, row_room}
use Rattle.core_examples.proofs.Tests.{State, many, words_with, reached, AllAsked, over, ◌⟫◌, all_spots}
use Rattle.core_examples.proofs.Acts.{small, Step, Run, run, end_of, enter_at, enter_for, search_by, leave, take_slot, fill, lock, look_at, look_front, list_root, list_part, open_commit, close_commit, give_front_back, store_moved, load_moved, unlock, own_life, lock_all, look, begin, look_key, raise_emptied, unlock_all, look_stamp, reserve, seize}
use Rattle.core_examples.proofs.Stretches.{link_leaf, replace, Node, mark_both, mark_old, link_copy, bypass, mark_few, unlink_right, unlink_left, mark_recorded, rotate, keep, raise_hand, free_hand, count_free, load_retired, raise_to_spare, raise_to_hand, raise_retired, free_retired}
use Rattle.core_state.specs.Links.{Rotation}
use Rattle.std.proofs.lemmas.Bool.{leb-true, ltb-true}
use Rattle.prcu_marks.specs.Marks.{greatest_key}
use Rattle.core_state.specs.declared.view.View.{View}
use Rattle.core_state.specs.Steps.{new_view, NeedsSplit, NeedsJoin, first_of, second_of, IsSpot, keys_of}
use Rattle.core_frames.proofs.Roles.{new_view_quiet, quiet_as}
use mathlib.Core.Logic.{dite}
use mathlib.Core.Option.{some, some-ne-none}
use native.Mathlib.Decide.{ℕ_discrete}
use Rattle.key_interval.specs.Keys.{MeetsClass}
use Rattle.core_state.specs.declared.shape.Shape.{Shape}
use Rattle.core_state.specs.declared.shape.Waiter.TheVariants.{Eer, Domain, Deer}
use Rattle.core_state.specs.declared.words.Field.{Field}
use Rattle.core_state.specs.declared.words.Field.TheVariants.{Gate, Count, Row}
use Rattle.core_state.specs.declared.view.Waiting.{Waiting}
use Rattle.list_laws.specs.Counts.{IsIn}
use Rattle.core_state.specs.declared.act.Act.{Act}
use Rattle.core_state.specs.declared.act.Act.TheVariants.{LoadClock, BeginWait, LoadGate, EnterByCount, LeaveByCount, LookCount, TurnGate, EnterByRow, LeaveByRow, LookRow}
use Rattle.core_state.specs.Acts.{IsWord, wait_of}

-- A run on literal words: from a fresh table with five slots, one place and the first waiter, four pairs are put, a value is replaced,
-- and the pairs are listed; then they are listed while the front is held.

-- five slots are free, the place's key and stamp stand with their room, and of seven slots the root and the first spare are taken
abbrev pub fresh : State
fresh = record {
  words = words_with 5 (0 ∷ idle ∷ many 0 (place_room - 2) []) 7 (1 ∷ 1 ∷ 0 ∷ 0 ∷ 0 ∷ 0 ∷ 0 ∷ []);
  view = first_view small;
  marks = [];
}

-- A pair that is put: the way on which its key is sought, the slot and the side where it is missed, its leaf, the steps by which that
-- comes into the hand, and the front.
pub record Pair : Type 0 where
  pub key : ℕ
  pub value : ℕ
  pub way : List (ℕ × Part)
  pub parent : ℕ
  pub side : Side
  pub leaf : ℕ
  pub taking : List Step
  pub front : ℕ

-- It is put after so many waits.
abbrev pub put_after : ℕ → Pair → List Step
put_after waits p =
    enter_at waits p.key
    ++ (search_by p.way
    ++ (search_by ((p.parent, Link p.side) ∷ (p.parent, Tag p.side) ∷ (p.parent, Life) ∷ [])
    ++ (leave ∷ p.taking
    ++ (fill p.leaf p.key p.value 0 0
    ++ (lock p.parent ∷ look_at ((p.parent, Life) ∷ (p.parent, Link p.side) ∷ (p.parent, Tag p.side) ∷ [])
    ++ (open_commit p.front ∷ link_leaf p.parent p.side p.leaf p.key p.value ∷ close_commit (p.front + 2) ∷ unlock p.parent ∷ []))))))

abbrev pub put : Pair → List Step
put = put_after 0

-- 50 is put below the root
abbrev pub put_fifty : Run fresh
put_fifty = run (put (record {
  key = 50;
  value = 5;
  way = [];
  parent = 0;
  side = Right;
  leaf = 2;
  taking = take_slot 5 2;
  front = 0;
})) refl

-- 20 is put left of it
abbrev pub put_twenty : Run (end_of put_fifty)
put_twenty = run (put (record {
  key = 20;
  value = 2;
  way = (0, Link Right) ∷ (2, Key) ∷ [];
  parent = 2;
  side = Left;
  leaf = 3;
  taking = take_slot 4 3;
  front = 2;
})) refl

-- 70 is put right of 50
abbrev pub put_seventy : Run (end_of put_twenty)
put_seventy = run (put (record {
  key = 70;
  value = 7;
  way = (0, Link Right) ∷ (2, Key) ∷ [];
  parent = 2;
  side = Right;
  leaf = 4;
  taking = take_slot 3 4;
  front = 4;
})) refl

-- 60 is put left of 70
abbrev pub put_sixty : Run (end_of put_seventy)
put_sixty =
    run (put (record {
      key = 60;
      value = 6;
      way = (0, Link Right) ∷ (2, Key) ∷ (2, Link Right) ∷ (4, Key) ∷ [];
      parent = 4;
      side = Left;
      leaf = 5;
      taking = take_slot 2 5;
      front = 6;
    })) refl

-- the value of 20 is replaced
abbrev pub set_twenty : Run (end_of put_sixty)
set_twenty =
    run
    (enter_for 20
    ++ (search_by ((0, Link Right) ∷ (2, Key) ∷ (2, Link Left) ∷ (3, Key) ∷ (3, Value) ∷ (3, Life) ∷ [])
    ++ (leave ∷ lock 3 ∷ look_at ((3, Life) ∷ (3, Value) ∷ [])
    ++ (open_commit 8 ∷ replace 3 2 Left 20 22 ∷ close_commit 10 ∷ unlock 3 ∷ []))))
    refl

-- a listing finds 20, goes back to 50, and on from there
abbrev pub list_two : Run (end_of set_twenty)
list_two =
    run
    (enter_for 0
    ++ (look_front ∷ list_root ∷ list_part 2 Key ∷ list_part 2 (Link Left) ∷ list_part 3 Key ∷ list_part 3 (Link Left) ∷ list_part 3 Value
    ∷ list_part 3 (Link Right)
    ∷ list_part 2 Value ∷ list_part 2 (Link Right) ∷ list_part 4 Key ∷ look_front ∷ leave ∷ []))
    refl

-- the front is made odd; a listing begins with that number, and finds 20; the front is given back, and made odd for the next update
abbrev pub hold_front : Run (end_of set_twenty)
hold_front =
    run
    (open_commit 10 ∷ enter_for 0
    ++ (look_front ∷ list_root ∷ list_part 2 Key ∷ list_part 2 (Link Left) ∷ list_part 3 Key ∷ list_part 3 Value ∷ look_front ∷ leave
    ∷ give_front_back 10 ∷ open_commit 10 ∷ []))
    refl

-- the front is made odd, and 20 is listed; it is stored that the pairs moved. Then the front is sought for an update, and is odd still; and that
-- they moved is found outside a section and in one, whose search finds 20
abbrev pub move_away : Run (end_of set_twenty)
move_away =
    run
    (load_moved ∷ open_commit 10 ∷ enter_for 0
    ++ (look_front ∷ list_root ∷ list_part 2 Key ∷ list_part 2 (Link Left) ∷ list_part 3 Key ∷ list_part 3 Value ∷ look_front ∷ leave
    ∷ store_moved 10 ∷ open_commit 10 ∷ load_moved ∷ enter_for 20
    ++ (load_moved ∷ search_by ((0, Link Right) ∷ (2, Key) ∷ (2, Link Left) ∷ (3, Key) ∷ (3, Value) ∷ []) ++ (leave ∷ []))))
    refl

-- A delete of 50, which stands in slot 2 below the root and has two children: what it does alike, whatever slot its successor has.

abbrev pub fifty : Node
fifty = record { parent = 0; side = Right; slot = 2; left = 3; right = 4 }

-- the successor: its slot, its parent, its key and its value; what is loaded of it in the section and under the locks besides what is
-- loaded of 50; and the front
pub record Successor : Type 0 where
  pub slot : ℕ
  pub parent : ℕ
  pub key : ℕ
  pub value : ℕ
  pub searched : List (ℕ × Part)
  pub locked : List ℕ
  pub looked_at : List (ℕ × Part)
  pub front : ℕ

-- 50 is sought, and its successor; the slots are locked, and are as they were found
abbrev pub find_fifty : Successor → List Step
find_fifty next =
    enter_for 50
    ++ (search_by ((0, Link Right) ∷ (2, Key) ∷ (0, Life) ∷ (2, Life) ∷ (2, Link Left) ∷ (2, Link Right) ∷ next.searched)
    ++ (leave ∷ lock_all (0 ∷ 2 ∷ next.locked)
    ++ look_at
    ((0, Life) ∷ (0, Link Right) ∷ (2, Life) ∷ (2, Link Left) ∷ (2, Link Right) ∷ next.looked_at
    ++ ((next.slot, Link Left) ∷ (next.slot, Key) ∷ (next.slot, Value) ∷ []))))

-- the spare becomes a copy of the successor and is linked in the place of 50; after a wait for the readers between the two, the old
-- successor is marked
abbrev pub move_up : Successor → List Step
move_up next =
    fill 1 next.key next.value fifty.left fifty.right
    ++ (own_life 1 ∷ lock 1 ∷ mark_both fifty 0 next.parent next.slot
    ∷ open_commit next.front ∷ link_copy fifty 1 next.parent next.slot 50 next.key next.value ∷ close_commit (next.front + 2)
    ∷ begin 51 next.key ∷ look_key ∷ mark_old next.slot 0 ∷ look next.slot (Link Right) ∷ [])

-- Two runs on literal words, each after three pairs are put: a leaf is deleted; and a node whose successor is its right child, with its
-- wait.

abbrev pub twenty : Node
twenty = record { parent = 2; side = Left; slot = 3; left = 0; right = 0 }

-- 20, which has no child, is deleted: it is bypassed, and the tag of the side that this empties is raised
abbrev pub delete_twenty : Run (end_of put_seventy)
delete_twenty =
    run
    (enter_for 20
    ++ (search_by ((0, Link Right) ∷ (2, Key) ∷ (2, Link Left) ∷ (3, Key) ∷ (2, Life) ∷ (3, Life) ∷ (3, Link Left) ∷ (3, Link Right) ∷ [])
    ++ (leave ∷ lock_all (2 ∷ 3 ∷ [])
    ++ (look_at ((2, Life) ∷ (2, Link Left) ∷ (3, Life) ∷ (3, Link Left) ∷ (3, Link Right) ∷ [])
    ++ (mark_few twenty 0 ∷ open_commit 6 ∷ bypass twenty 20 ∷ close_commit 8 ∷ raise_emptied 2 Left ++ unlock_all (3 ∷ 2 ∷ []))))))
    refl

-- the successor of 50 is 70, its right child
abbrev pub seventy : Successor
seventy = record {
  slot = 4;
  parent = 2;
  key = 70;
  value = 7;
  searched = (4, Link Left) ∷ (4, Life) ∷ [];
  locked = 4 ∷ [];
  looked_at = (4, Life) ∷ [];
  front = 6;
}

-- 50 is deleted: 70 moves into its place, and the old 70 is unlinked from the right of the copy
abbrev pub delete_fifty_by_seventy : Run (end_of put_seventy)
delete_fifty_by_seventy =
    run
    (find_fifty seventy
    ++ (move_up seventy
    ++ (unlink_right 1 4 0 ∷ raise_emptied 1 Right ++ unlock_all (4 ∷ 1 ∷ 2 ∷ 0 ∷ []))))
    refl

-- A run on literal words, after four pairs are put: a node is deleted whose successor stands further down, with its wait.

-- the successor of 50 is 60, left of 70
abbrev pub sixty : Successor
sixty = record {
  slot = 5;
  parent = 4;
  key = 60;
  value = 6;
  searched = (4, Link Left) ∷ (5, Link Left) ∷ (4, Life) ∷ (5, Life) ∷ [];
  locked = 4 ∷ 5 ∷ [];
  looked_at = (4, Life) ∷ (4, Link Left) ∷ (5, Life) ∷ [];
  front = 8;
}

-- 50 is deleted: 60 moves into its place, and the old 60 is unlinked from the left of 70
abbrev pub delete_fifty_by_sixty : Run (end_of put_sixty)
delete_fifty_by_sixty =
    run
    (find_fifty sixty
    ++ (move_up sixty
    ++ (unlink_left 4 5 0 ∷ raise_emptied 4 Left ++ unlock_all (5 ∷ 4 ∷ 1 ∷ 2 ∷ 0 ∷ []))))
    refl

-- A run on literal words, after four pairs are put: 50, below the root, and 70, its right child, are replaced by two new slots, that of 70
-- above. 60, below 70 before, is below 50 from then on.

abbrev pub fifty_and_seventy : Rotation
fifty_and_seventy = record {
  turn = Right;
  node_key = 50;
  node_value = 5;
  child_key = 70;
  child_value = 7;
  outer = 0;
  inner = 5;
  far = 3;
  bottom = 6;
}

abbrev pub rotate_fifty : Run (end_of put_sixty)
rotate_fifty =
    run
    (enter_for 70
    ++ (search_by ((0, Link Right) ∷ (2, Key) ∷ (2, Link Right) ∷ (4, Key) ∷ (0, Life) ∷ (2, Life) ∷ (4, Life) ∷ [])
    ++ (leave ∷ take_slot 1 6
    ++ (fill 6 50 5 3 5
    ++ (fill 1 70 7 6 0
    ++ (lock_all (0 ∷ 2 ∷ 4 ∷ [])
    ++ (look_at
    ((0, Life) ∷ (0, Link Right) ∷ (2, Life) ∷ (2, Link Left) ∷ (2, Link Right) ∷ (2, Key) ∷ (2, Value)
    ∷ (4, Life) ∷ (4, Link Left) ∷ (4, Link Right) ∷ (4, Key) ∷ (4, Value) ∷ [])
    ++ (mark_recorded 2 0 ∷ mark_recorded 4 0 ∷ rotate 0 Right 2 4 1 fifty_and_seventy ∷ unlock_all (4 ∷ 2 ∷ 0 ∷ [])))))))))
    refl

-- A run on literal words, after a moving delete: slots are used again after a wait, taken and given back; and seats are split and joined.

-- After a wait for everybody the slot of 50 becomes the spare, of which the place had none, and that of the old 60 is freed.
abbrev pub reclaim : Run (end_of delete_fifty_by_sixty)
reclaim =
    run
    (begin 0 greatest_key ∷ look_stamp
    ∷ load_retired 2 ∷ raise_to_spare 2 2
    ∷ load_retired 5 ∷ raise_retired 5 2 ∷ free_retired 5 ∷ count_free ∷ [])
    refl

-- the freed slot is taken again, and given back
abbrev pub take_again : Run (end_of reclaim)
take_again = run (take_slot 2 5 ++ (raise_hand 5 4 ∷ free_hand 5 ∷ count_free ∷ [])) refl

-- or, after that wait, the slot of the old 60 comes into the hand, and 80 is put there right of 70
abbrev pub reuse : Run (end_of delete_fifty_by_sixty)
reuse =
    run
    (begin 0 greatest_key ∷ look_stamp
    ∷ load_retired 2 ∷ raise_to_spare 2 2
    ∷ put_after 2 (record {
      key = 80;
      value = 8;
      way = (0, Link Right) ∷ (1, Key) ∷ (1, Link Right) ∷ (4, Key) ∷ [];
      parent = 4;
      side = Right;
      leaf = 5;
      taking = load_retired 5 ∷ raise_to_hand 5 2 ∷ [];
      front = 10;
    }))
    refl

-- without that wait, a slot that is taken becomes the spare
abbrev pub take_spare : Run (end_of delete_fifty_by_sixty)
take_spare = run (reserve 1 ∷ seize 6 ∷ keep 6 ∷ []) refl

-- a seat with two places is split, and the two are joined again
two_places : View
two_places = new_view 0 2 20 []

splits : NeedsSplit two_places 1 10
unfolding two_places
splits = record {
  quiet = new_view_quiet 0 2 20 [];
  some = leb-true 1 1 refl;
  few = ltb-true 1 2 refl;
  paid = leb-true 10 20 refl;
}

joins : NeedsJoin (first_of 1 10 two_places) (second_of 1 10 two_places)
unfolding two_places
joins = record { first = quiet_as two_places _ refl refl refl refl refl splits.quiet; second = new_view_quiet 1 1 10 [] }

-- Runs on literal words with the second and the third waiter: a section, and a wait for its key. Each step is allowed by the view that
-- the steps before it left. So no need of these kinds of step is one that cannot be met.

-- the second waiter
abbrev counted : Shape
counted = record { waiter = Domain; slots = 1; places = 1; room = 16; tickets = 10 }

abbrev counted_start : State
counted_start = record { words = words_with 1 (many 0 (class_room * classes) []) 3 (1 ∷ 1 ∷ 0 ∷ []); view = first_view counted; marks = [] }

-- a class that a wait for key 5 alone meets is 5
class_five : (wait : Waiting) (c : ℕ) → wait.low ≡ 5 → wait.high ≡ 5 → MeetsClass (keys_of wait) c → 5 ≡ c
class_five wait c low high met =
    let from = met.1.0 in
    let to = met.1.1 in
    let is = met.2 in
    omega arith

-- the spots of a wait for key 5 are the two sides of its class
two_spots : (wait : Waiting) → wait.low ≡ 5 → wait.high ≡ 5 → (other : Field) → IsSpot counted wait other
    → IsIn (Count 5 1 ∷ (Count 5 0 ∷ [])) other
two_spots wait low high = all_spots {k = counted} {wait = wait} {spots = Count 5 1 ∷ (Count 5 0 ∷ [])} (record {
  stamps = λ p spot. absurd (let w : Domain ≡ Eer = spot.0 in cc);
  counts = λ c side spot.
      (let class_is = class_five wait c low high spot.3 in
      let small = spot.2 in
      dite (ℕ_discrete side 0)
      (λ e. (1, (let side_is : 0 ≡ side = omega arith in λ n. some (Count (class_is n) (side_is n)))))
      (λ ne. (0, (let side_is : 1 ≡ side = omega arith in λ n. some (Count (class_is n) (side_is n))))));
  rows = λ p c spot. absurd (let w : Domain ≡ Deer = spot.0 in cc);
})

-- a section on the first side; a wait for its key, which finds that side empty, turns the gate, and finds the other side empty; and a
-- section on that other side
abbrev pub counted_run : List Act
counted_run =
    LoadGate 5 ∷
    EnterByCount 5 0 ∷
    LeaveByCount 5 0 ∷
    BeginWait 5 5 ∷
    LookCount 5 0 false ∷
    TurnGate 5 ∷
    LoadGate 5 ∷
    LookCount 5 1 true ∷
    LoadGate 5 ∷
    EnterByCount 5 1 ∷
    LeaveByCount 5 1 ∷ []

-- where it stands before its act of this number
abbrev counted_at : ℕ → View
counted_at i = (reached counted counted_start (take i counted_run)).view

gate_five : IsWord counted (Gate 5)
gate_five = (refl, ltb-true _ _ refl)

side_zero : IsWord counted (Count 5 0)
side_zero = (refl, ltb-true _ _ refl, ltb-true _ _ refl)

side_one : IsWord counted (Count 5 1)
side_one = (refl, ltb-true _ _ refl, ltb-true _ _ refl)

counted_asked : AllAsked counted counted_start counted_run
counted_asked =
    (gate_five, record { why = inl refl }) ⟫ (
      side_zero,
      record {
        entry = record { outside = refl; free = refl; key_fits = ltb-true _ _ refl };
        gate = 0;
        gate_is = refl;
        side_is = refl;
      },
    ) ⟫
    (side_zero, record { section_is = refl; class_is = refl; side_is = refl }) ⟫
    (tt, record { outside = refl; ticket = leb-true _ _ refl; some = leb-true _ _ refl; high_fits = ltb-true _ _ refl }) ⟫
    (side_zero, record { wait_is = refl; going = refl; rest = λ l. absurd (cc) }) ⟫ (
      gate_five,
      record {
        wait_is = refl;
        going = refl;
        small = ltb-true _ _ refl;
        met = (5, (leb-true _ _ refl, leb-true _ _ refl), refl);
        once = λ has. absurd (some-ne-none _ (sym has.1));
      },
    ) ⟫
    (gate_five, record { why = inl refl }) ⟫ (
      side_one,
      record {
        wait_is = refl;
        going = refl;
        rest = λ l other spot. two_spots (wait_of (counted_at 7)) refl refl other spot;
      },
    ) ⟫
    (gate_five, record { why = inl refl }) ⟫ (
      side_one,
      record {
        entry = record { outside = refl; free = refl; key_fits = ltb-true _ _ refl };
        gate = 1;
        gate_is = refl;
        side_is = refl;
      },
    ) ⟫
    (side_one, record { section_is = refl; class_is = refl; side_is = refl }) ⟫ over

-- it ended its wait, and its second section was counted on the other side
counted_ended : (wait_of (reached counted counted_start counted_run).view).ended ≡ true
counted_ended = refl

-- the third waiter
abbrev rowed : Shape
rowed = record { waiter = Deer; slots = 1; places = 1; room = 16; tickets = 10 }

abbrev rowed_start : State
rowed_start = record { words = words_with 1 (many idle row_room []) 3 (1 ∷ 1 ∷ 0 ∷ []); view = first_view rowed; marks = [] }

-- the spot of a wait for key 5 is the place's word of its class
one_spot : (wait : Waiting) → wait.low ≡ 5 → wait.high ≡ 5 → (other : Field) → IsSpot rowed wait other → IsIn (Row 0 5 ∷ []) other
one_spot wait low high = all_spots {k = rowed} {wait = wait} {spots = Row 0 5 ∷ []} (record {
  stamps = λ p spot. absurd (let w : Deer ≡ Eer = spot.0 in cc);
  counts = λ c side spot. absurd (let w : Deer ≡ Domain = spot.0 in cc);
  rows = λ p c spot.
      (let class_is = class_five wait c low high spot.3 in
      let place_is : 0 ≡ p = (let lt = spot.1 in omega arith) in
      (0, (λ n. some (Row (place_is n) (class_is n)))));
})

-- a section, and a wait for its key, which finds the place's word idle
abbrev pub rowed_run : List Act
rowed_run = LoadClock ∷ EnterByRow 5 0 ∷ LeaveByRow 5 ∷ BeginWait 5 5 ∷ LookRow 0 5 true ∷ []

abbrev rowed_at : ℕ → View
rowed_at i = (reached rowed rowed_start (take i rowed_run)).view

row_five : IsWord rowed (Row 0 5)
row_five = (refl, ltb-true _ _ refl, ltb-true _ _ refl)

rowed_asked : AllAsked rowed rowed_start rowed_run
rowed_asked =
    (tt, tt) ⟫ (
      row_five,
      record {
        entry = record { outside = refl; free = refl; key_fits = ltb-true _ _ refl };
        clock = refl;
        stamp_is = refl;
      },
    ) ⟫
    (row_five, record { section_is = refl; class_is = refl }) ⟫
    (tt, record { outside = refl; ticket = leb-true _ _ refl; some = leb-true _ _ refl; high_fits = ltb-true _ _ refl }) ⟫ (
      row_five,
      record {
        wait_is = refl;
        going = refl;
        rest = λ l other spot. one_spot (wait_of (rowed_at 4)) refl refl other spot;
      },
    ) ⟫ over

rowed_ended : (wait_of (reached rowed rowed_start rowed_run).view).ended ≡ true
rowed_ended = refl

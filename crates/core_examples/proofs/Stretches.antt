-- Steps that are made at one stretch: updates, slots that are used again, rotations.
use Rattle.std.proofs.lemmas.Bool.{and_parts, eqb-true, leb-true, ltb-true}
use Rattle.std.proofs.Common.{◌≡◌, ◌⊎◌, ℕ, ◌+◌, ◌*◌, ◌%◌, ◌==◌, ◌&&◌, nat_lt, nat_le, not, cond, Bool, true, List, [], ◌∷◌, length, refl, inl, inr, unwrap_or, ◌/◌, Some, None, sym, ◌∙◌}
use Rattle.prcu_marks.specs.declared.mark.Side.{Side}
use Rattle.prcu_marks.specs.declared.mark.Side.TheVariants.{Left, Right}
use Rattle.core_state.specs.declared.words.Field.TheVariants.{Key, Value, Life, Link, Tag}
use Rattle.core_state.specs.declared.view.View.{View}
use Rattle.core_state.specs.Views.{known_in, known_under, lock_of, is_emptied}
use Rattle.core_state.specs.Links.{HasCommit, NeedsMark, IsNodeOfDelete, IsOldOfMove, IsRecordedNode, NeedsUnlinkOld, IsRetiredAt, NeedsRaiseRetired, IsKnownAs, Rotation, IsEndOf}
use Rattle.core_examples.proofs.Tests.{hand_now, lock_now, moving_now, reading_now, all_of, passed, is_some, some_is, is_empty, is_number, number_is, false_is, not_same, first_in, is_missed, missed_is, generation_of, is_recorded, recorded_is, is_found, found_is, few_tests, few_children, both_tests, both_children, marked_tests, marked_node, oldest_retired, none_is, some_not_none}
use Rattle.core_state.specs.declared.act.Act.TheVariants.{LinkLeaf, Bypass, Mark, LinkCopy, UnlinkLeft, UnlinkRight, ReplaceValue, KeepAsSpare, LoadRetiredLife, RaiseInHand, RaiseToSpare, RaiseToHand, RaiseRetired, FreeInHand, FreeRetired, CountFree, Rotate}
use Rattle.core_state.specs.Acts.{commit_of, spare_of}
use Rattle.core_examples.proofs.Acts.{Step, small}
use Rattle.core_state.specs.declared.view.Known.{Known}
use Rattle.core_state.specs.Memory.{across}

-- Steps that update the tree, or that mark a node of it: inserts, replaced values, deletes, and moves.

-- the node of a delete: where it hangs, its slot, and its links
pub record Node : Type 0 where
  pub parent : ℕ
  pub side : Side
  pub slot : ℕ
  pub left : ℕ
  pub right : ℕ

-- what each update needs of the front: it is odd by this view, whose update isn't made yet
abbrev pub can_commit : View → Bool
can_commit v = is_some v.commit && (not (commit_of v).stored && nat_le 1 v.allowance.tickets)

pub commit_is : (v : View) → can_commit v ≡ true → HasCommit v (commit_of v)
commit_is v e =
    let a = and_parts (is_some v.commit) (not (commit_of v).stored && nat_le 1 v.allowance.tickets) e in
    let b = and_parts (not (commit_of v).stored) (nat_le 1 v.allowance.tickets) a.1 in
    record { commit_is = some_is _ v.commit a.0; unmade = false_is (commit_of v).stored b.0; ticket = leb-true 1 v.allowance.tickets b.1 }

-- an insert, a replaced value, a bypass
abbrev pub link_leaf : ℕ → Side → ℕ → ℕ → ℕ → Step
link_leaf slot b leaf key value = record {
  act = LinkLeaf slot b leaf key value;
  tests = λ v.
      can_commit v ∷
      not (is_empty v.records) ∷
      is_missed (reading_now v).state slot b ∷
      is_some (known_in (reading_now v).loads (Life slot)) ∷
      is_some (known_in (reading_now v).loads (Tag slot b)) ∷
      is_some (lock_of v.locks slot) ∷
      is_number (known_in (lock_now v slot).known (Life slot)) (2 * generation_of v slot) ∷
      is_number (known_in (lock_now v slot).known (Link slot b)) 0 ∷
      is_number (known_in (lock_now v slot).known (Tag slot b)) (unwrap_or (known_in (reading_now v).loads (Tag slot b)) 0) ∷
      not (is_emptied (lock_now v slot) b) ∷
      is_some v.hands.hand ∷
      ((hand_now v).slot == leaf) ∷
      not (hand_now v).raised ∷
      is_number (known_in (hand_now v).known (Key leaf)) (reading_now v).key ∷
      is_number (known_in (hand_now v).known (Value leaf)) value ∷
      is_number (known_in (hand_now v).known (Link leaf Left)) 0 ∷
      is_number (known_in (hand_now v).known (Link leaf Right)) 0 ∷
      ((reading_now v).key == key) ∷
      [];
  met = λ v t. record {
    has_commit = commit_is v (t 0);
    reading = reading_now v;
    kept = (0, first_in _ v.records (t 1));
    sought = eqb-true _ _ (t 17);
    missed = missed_is (reading_now v).state slot b (t 2);
    generation = generation_of v slot;
    generation_is = (_, some_is 0 _ (t 3), refl);
    tag = unwrap_or (known_in (reading_now v).loads (Tag slot b)) 0;
    tag_is = some_is 0 _ (t 4);
    lock = lock_now v slot;
    locked = some_is _ _ (t 5);
    life_now = number_is _ _ (t 6);
    empty_now = number_is _ _ (t 7);
    tag_now = number_is _ _ (t 8);
    settled = false_is _ (t 9);
    held = hand_now v;
    in_hand = (some_is _ _ (t 10), eqb-true _ _ (t 11));
    unraised = false_is _ (t 12);
    key_is = number_is _ _ (t 13);
    value_is = number_is _ _ (t 14);
    left_is = number_is _ _ (t 15);
    right_is = number_is _ _ (t 16);
  };
}

abbrev pub replace : ℕ → ℕ → Side → ℕ → ℕ → Step
replace slot parent b key value = record {
  act = ReplaceValue slot key value;
  tests = λ v.
      can_commit v ∷
      not (is_empty v.records) ∷
      is_found (reading_now v).state slot parent b ∷
      is_some (known_in (reading_now v).loads (Life slot)) ∷
      is_number (known_in (known_under v slot) (Life slot)) (2 * generation_of v slot) ∷
      ((reading_now v).key == key) ∷
      [];
  met = λ v t. let seen = found_is (reading_now v).state slot parent b (t 2) in record {
    has_commit = commit_is v (t 0);
    reading = reading_now v;
    kept = (0, first_in _ v.records (t 1));
    sought = eqb-true _ _ (t 5);
    found = (parent, b, seen.0, seen.1);
    generation = generation_of v slot;
    generation_is = (_, some_is 0 _ (t 3), refl);
    life_now = number_is _ _ (t 4);
  };
}

abbrev pub bypass : Node → ℕ → Step
bypass node key = record {
  act = Bypass node.parent node.side node.slot (cond (node.left == 0) node.right node.left) key;
  tests = λ v.
      can_commit v ∷
      nat_lt (length v.hands.retired) small.room ∷
      all_of (few_tests v node.parent node.side node.slot node.left node.right) ∷
      all_of (marked_tests v node.slot) ∷
      ((reading_now v).key == key) ∷
      [];
  met = λ v t. record {
    has_commit = commit_is v (t 0);
    room = ltb-true _ _ (t 1);
    reading = reading_now v;
    sought = eqb-true _ _ (t 4);
    left = node.left;
    right = node.right;
    records = few_children v node.parent node.side node.slot node.left node.right (t 2);
    marked = marked_node v node.slot (t 3);
    child_is = refl;
  };
}

-- marks: of the node of a delete, with few children or with both, and of the old successor of a move
abbrev pub mark_tests : View → ℕ → ℕ → List Bool
mark_tests v slot life = is_some (lock_of v.locks slot) ∷ is_number (known_in (lock_now v slot).known (Life slot)) life ∷ (life % 2 == 0)
    ∷ []

abbrev pub why_mark : (v : View) (slot life : ℕ) → all_of (mark_tests v slot life) ≡ true
    → IsNodeOfDelete v slot ⊎ (IsOldOfMove v slot ⊎ IsRecordedNode v slot)
    → NeedsMark v slot life
why_mark v slot life e why =
    let t = passed (mark_tests v slot life) e in
    record {
      lock = lock_now v slot;
      locked = some_is _ (lock_of v.locks slot) (t 0);
      life_now = number_is _ _ (t 1);
      unmarked = eqb-true _ _ (t 2);
      why = why;
    }

abbrev pub mark_few : Node → ℕ → Step
mark_few node life = record {
  act = Mark node.slot life;
  tests = λ v. all_of (mark_tests v node.slot life) ∷ is_recorded v node.slot
      ∷ all_of (few_tests v node.parent node.side node.slot node.left node.right) ∷ [];
  met = λ v t. why_mark v node.slot life (t 0)
      (inl (record {
        reading = reading_now v;
        parent = node.parent;
        left = node.left;
        right = node.right;
        side = node.side;
        unmarked = recorded_is v node.slot (t 1);
        children = inl (few_children v node.parent node.side node.slot node.left node.right (t 2));
      }));
}

abbrev pub mark_both : Node → ℕ → ℕ → ℕ → Step
mark_both node life old_parent old = record {
  act = Mark node.slot life;
  tests = λ v. all_of (mark_tests v node.slot life) ∷ is_recorded v node.slot
      ∷ all_of (both_tests v node.parent node.side node.slot node.left node.right old_parent old) ∷ [];
  met = λ v t. why_mark v node.slot life (t 0)
      (inl (record {
        reading = reading_now v;
        parent = node.parent;
        left = node.left;
        right = node.right;
        side = node.side;
        unmarked = recorded_is v node.slot (t 1);
        children = inr (old_parent, old, both_children v node.parent node.side node.slot node.left node.right old_parent old (t 2));
      }));
}

abbrev pub mark_old : ℕ → ℕ → Step
mark_old slot life = record {
  act = Mark slot life;
  tests = λ v. all_of (mark_tests v slot life) ∷ is_some v.moving ∷ ((moving_now v).old == slot) ∷ [];
  met = λ v t. why_mark v slot life (t 0) (inr (inl (moving_now v, some_is _ v.moving (t 1), eqb-true _ _ (t 2))));
}

-- a move: the copy is linked in the node's place, and the old successor is unlinked after the wait
abbrev pub link_copy : Node → ℕ → ℕ → ℕ → ℕ → ℕ → ℕ → Step
link_copy node copy old_parent old key next_key value = record {
  act = LinkCopy node.parent node.side node.slot copy old old_parent key next_key;
  tests = λ v.
      can_commit v ∷
      nat_lt (length v.hands.retired + 1) small.room ∷
      all_of (both_tests v node.parent node.side node.slot node.left node.right old_parent old) ∷
      all_of (marked_tests v node.slot) ∷
      is_some v.hands.spare ∷
      ((spare_of v).slot == copy) ∷
      is_some (lock_of v.locks copy) ∷
      is_number (known_in (known_under v old) (Key old)) next_key ∷
      is_number (known_in (known_under v old) (Value old)) value ∷
      is_number (known_in (spare_of v).known (Key copy)) next_key ∷
      is_number (known_in (spare_of v).known (Value copy)) value ∷
      is_number (known_in (spare_of v).known (Link copy Left)) node.left ∷
      is_number (known_in (spare_of v).known (Link copy Right)) node.right ∷
      ((reading_now v).key == key) ∷
      [];
  met = λ v t. record {
    has_commit = commit_is v (t 0);
    room = ltb-true _ _ (t 1);
    reading = reading_now v;
    sought = eqb-true _ _ (t 13);
    left = node.left;
    right = node.right;
    value = value;
    records = both_children v node.parent node.side node.slot node.left node.right old_parent old (t 2);
    marked = marked_node v node.slot (t 3);
    spare_is = (some_is _ v.hands.spare (t 4), eqb-true _ _ (t 5));
    locked = (lock_now v copy, some_is _ (lock_of v.locks copy) (t 6));
    old_key = number_is _ _ (t 7);
    old_value = number_is _ _ (t 8);
    key_is = number_is _ _ (t 9);
    value_is = number_is _ _ (t 10);
    left_is = number_is _ _ (t 11);
    right_is = number_is _ _ (t 12);
  };
}

abbrev pub unlink_tests : View → ℕ → ℕ → ℕ → List Bool
unlink_tests v parent old child =
    is_some v.moving ∷
    ((moving_now v).old == old) ∷
    ((moving_now v).parent == parent) ∷
    (moving_now v).waited ∷
    is_some (lock_of v.locks old) ∷
    (lock_now v old).marked ∷
    is_some (known_in (lock_now v old).known (Life old)) ∷
    (unwrap_or (known_in (lock_now v old).known (Life old)) 0 % 2 == 1) ∷
    is_number (known_in (lock_now v old).known (Link old Right)) child ∷ []

pub may_unlink : (v : View) (parent : ℕ) (b : Side) (old child : ℕ) → IsEndOf (moving_now v).copy.slot parent b
    → all_of (unlink_tests v parent old child) ≡ true
    → NeedsUnlinkOld v parent b old child
may_unlink v parent b old child end e =
    let t = passed (unlink_tests v parent old child) e in
    record {
      move = moving_now v;
      end = end;
      moving = some_is _ v.moving (t 0);
      old_is = eqb-true _ _ (t 1);
      parent_is = eqb-true _ _ (t 2);
      waited = t 3;
      lock = lock_now v old;
      locked = some_is _ (lock_of v.locks old) (t 4);
      marked = t 5;
      life = unwrap_or (known_in (lock_now v old).known (Life old)) 0;
      life_now = some_is 0 _ (t 6);
      odd = eqb-true _ _ (t 7);
      right_now = number_is _ _ (t 8);
    }

abbrev pub unlink_left : ℕ → ℕ → ℕ → Step
unlink_left parent old child = record {
  act = UnlinkLeft parent old child;
  tests = λ v. all_of (unlink_tests v parent old child) ∷ not (parent == (moving_now v).copy.slot) ∷ [];
  met = λ v t. may_unlink v parent Left old child (not_same parent (moving_now v).copy.slot (t 1)) (t 0);
}

abbrev pub unlink_right : ℕ → ℕ → ℕ → Step
unlink_right parent old child = record {
  act = UnlinkRight parent old child;
  tests = λ v. all_of (unlink_tests v parent old child) ∷ (parent == (moving_now v).copy.slot) ∷ [];
  met = λ v t. may_unlink v parent Right old child (eqb-true parent (moving_now v).copy.slot (t 1)) (t 0);
}

-- Steps of slots that are used again: a retired slot becomes the spare or is freed, and so is a slot in hand.

-- a slot is the oldest of the retired ones
abbrev pub is_oldest : View → ℕ → List Bool
is_oldest v slot = not (is_empty v.hands.retired) ∷ ((oldest_retired v).slot == slot) ∷ []

pub oldest_is : (v : View) (slot : ℕ) → all_of (is_oldest v slot) ≡ true → IsRetiredAt v 0 (oldest_retired v) slot
oldest_is v slot e =
    let t = passed (is_oldest v slot) e in
    (first_in _ v.hands.retired (t 0), eqb-true _ _ (t 1))

-- its generation is raised after a wait for everybody
abbrev pub raise_tests : View → ℕ → ℕ → List Bool
raise_tests v slot number =
    all_of (is_oldest v slot) ∷
    not (oldest_retired v).raised ∷
    not (is_some (lock_of v.locks slot)) ∷
    (oldest_retired v).waited ∷
    is_some (oldest_retired v).life ∷
    (number == 2 * (unwrap_or (oldest_retired v).life 0 / 2 + 1)) ∷ []

pub may_raise : (v : View) (slot number : ℕ) → all_of (raise_tests v slot number) ≡ true
    → NeedsRaiseRetired v 0 (oldest_retired v) slot number
may_raise v slot number e =
    let t = passed (raise_tests v slot number) e in
    record {
      retired = oldest_is v slot (t 0);
      unraised = false_is _ (t 1);
      unlocked = λ has. absurd (let q : None ≡ Some has.0 = sym (none_is (lock_of v.locks slot) (t 2)) ∙ has.1 in cc);
      waited = t 3;
      life = unwrap_or (oldest_retired v).life 0;
      loaded = some_is 0 _ (t 4);
      next = eqb-true _ _ (t 5);
    }

-- a slot in hand
abbrev pub keep : ℕ → Step
keep slot = record {
  act = KeepAsSpare slot;
  tests = λ v. is_some v.hands.hand ∷ ((hand_now v).slot == slot) ∷ not (is_some v.hands.spare) ∷ [];
  met = λ v t. (hand_now v, record { in_hand = (some_is _ v.hands.hand (t 0), eqb-true _ _ (t 1)); none = none_is _ (t 2) });
}

abbrev pub raise_hand : ℕ → ℕ → Step
raise_hand slot number = record {
  act = RaiseInHand slot number;
  tests = λ v.
      is_some v.hands.hand ∷
      ((hand_now v).slot == slot) ∷
      not (hand_now v).raised ∷
      is_some (known_in (hand_now v).known (Life slot)) ∷
      (number == 2 * (unwrap_or (known_in (hand_now v).known (Life slot)) 0 / 2 + 1)) ∷
      [];
  met = λ v t. (
    hand_now v,
    record {
      in_hand = (some_is _ v.hands.hand (t 0), eqb-true _ _ (t 1));
      unraised = false_is _ (t 2);
      life = unwrap_or (known_in (hand_now v).known (Life slot)) 0;
      loaded = some_is 0 _ (t 3);
      next = eqb-true _ _ (t 4);
    },
  );
}

abbrev pub free_hand : ℕ → Step
free_hand slot = record {
  act = FreeInHand slot;
  tests = λ v.
      is_some v.hands.hand ∷
      ((hand_now v).slot == slot) ∷
      not v.hands.owes ∷
      (hand_now v).raised ∷
      [];
  met = λ v t. (
    hand_now v,
    record {
      paid = false_is _ (t 2);
      in_hand = (some_is _ v.hands.hand (t 0), eqb-true _ _ (t 1));
      raised = (t 3);
    },
  );
}

abbrev pub count_free : Step
count_free = record {
  act = CountFree;
  tests = λ v. v.hands.owes ∷ [];
  met = λ v t. t 0;
}

-- a retired slot
abbrev pub load_retired : ℕ → Step
load_retired slot = record {
  act = LoadRetiredLife slot;
  tests = λ v. all_of (is_oldest v slot) ∷ [];
  met = λ v t. (0, oldest_retired v, oldest_is v slot (t 0));
}

abbrev pub raise_to_spare : ℕ → ℕ → Step
raise_to_spare slot number = record {
  act = RaiseToSpare slot number;
  tests = λ v. all_of (raise_tests v slot number) ∷ not (is_some v.hands.spare) ∷ [];
  met = λ v t. (0, oldest_retired v, may_raise v slot number (t 0), none_is v.hands.spare (t 1));
}

abbrev pub raise_to_hand : ℕ → ℕ → Step
raise_to_hand slot number = record {
  act = RaiseToHand slot number;
  tests = λ v.
      all_of (raise_tests v slot number) ∷
      is_some v.hands.spare ∷
      not (is_some v.hands.hand) ∷
      not v.hands.reserved ∷
      nat_le 1 v.allowance.tickets ∷
      [];
  met = λ v t. (
    0,
    oldest_retired v,
    record {
      raises = may_raise v slot number (t 0);
      spare = some_not_none v.hands.spare (t 1);
      empty = none_is v.hands.hand (t 2);
      unreserved = false_is v.hands.reserved (t 3);
      ticket = leb-true 1 v.allowance.tickets (t 4);
    },
  );
}

abbrev pub raise_retired : ℕ → ℕ → Step
raise_retired slot number = record {
  act = RaiseRetired slot number;
  tests = λ v. all_of (raise_tests v slot number) ∷ is_some v.hands.spare ∷ [];
  met = λ v t. (0, oldest_retired v, may_raise v slot number (t 0), some_not_none v.hands.spare (t 1));
}

abbrev pub free_retired : ℕ → Step
free_retired slot = record {
  act = FreeRetired slot;
  tests = λ v. all_of (is_oldest v slot) ∷ not v.hands.owes ∷ (oldest_retired v).raised ∷ [];
  met = λ v t. (0, oldest_retired v, record { paid = false_is _ (t 1); retired = oldest_is v slot (t 0); raised = (t 2) });
}

-- Steps of a rotation.

-- a node is marked that has the generation of a record
abbrev pub mark_recorded : ℕ → ℕ → Step
mark_recorded slot life = record {
  act = Mark slot life;
  tests = λ v. all_of (mark_tests v slot life) ∷ not (is_empty v.records) ∷ is_recorded v slot ∷ not (slot == 0) ∷ not (is_some v.moving)
      ∷ [];
  met = λ v t. why_mark v slot life (t 0)
      (inr (inr (record {
        settled = none_is v.moving (t 4);
        reading = reading_now v;
        kept = (0, first_in _ v.records (t 1));
        unmarked = recorded_is v slot (t 2);
        some_slot = not_same slot 0 (t 3);
      })));
}

-- what is known of a slot's pair and links
abbrev pub known_tests : List Known → ℕ → ℕ → ℕ → Side → ℕ → ℕ → List Bool
known_tests known slot key value side near far =
    is_number (known_in known (Key slot)) key ∷
    is_number (known_in known (Value slot)) value ∷
    is_number (known_in known (Link slot side)) near ∷
    is_number (known_in known (Link slot (across side))) far ∷
    []

pub known_as : (known : List Known) (slot key value : ℕ) (side : Side) (near far : ℕ)
    → all_of (known_tests known slot key value side near far) ≡ true → IsKnownAs known slot key value side near far
known_as known slot key value side near far e =
    let t = passed (known_tests known slot key value side near far) e in
    record { key_is = number_is _ _ (t 0); value_is = number_is _ _ (t 1); near_is = number_is _ _ (t 2); far_is = number_is _ _ (t 3) }

abbrev pub rotate : ℕ → Side → ℕ → ℕ → ℕ → Rotation → Step
rotate parent b node child top turning = record {
  act = Rotate parent b node child top;
  tests = λ v.
      not (is_some v.moving) ∷
      nat_le 1 v.allowance.tickets ∷
      nat_lt (length v.hands.retired + 1) small.room ∷
      not (is_empty v.records) ∷
      is_recorded v parent ∷
      is_number (known_in (known_under v parent) (Link parent b)) node ∷
      all_of (marked_tests v node) ∷
      all_of (marked_tests v child) ∷
      all_of (known_tests (known_under v node) node turning.node_key turning.node_value turning.turn child turning.far) ∷
      all_of (known_tests (known_under v child) child turning.child_key turning.child_value turning.turn turning.outer turning.inner) ∷
      is_some v.hands.spare ∷
      ((spare_of v).slot == top) ∷
      is_some v.hands.hand ∷
      ((hand_now v).slot == turning.bottom) ∷
      not (hand_now v).raised ∷
      all_of (known_tests (spare_of v).known top turning.child_key turning.child_value turning.turn turning.outer turning.bottom) ∷
      all_of (known_tests (hand_now v).known turning.bottom turning.node_key turning.node_value turning.turn turning.inner turning.far) ∷
      [];
  met = λ v t. record {
    settled = none_is v.moving (t 0);
    ticket = leb-true 1 v.allowance.tickets (t 1);
    room = ltb-true _ _ (t 2);
    reading = reading_now v;
    kept = (0, first_in _ v.records (t 3));
    parent_now = recorded_is v parent (t 4);
    link_now = number_is _ _ (t 5);
    node_marked = marked_node v node (t 6);
    child_marked = marked_node v child (t 7);
    turning = turning;
    node_is = known_as _ node _ _ turning.turn child _ (t 8);
    child_is = known_as _ child _ _ turning.turn _ _ (t 9);
    spare_is = (some_is _ v.hands.spare (t 10), eqb-true _ _ (t 11));
    lower = hand_now v;
    hand_is = (some_is _ v.hands.hand (t 12), eqb-true _ _ (t 13));
    unraised = false_is _ (t 14);
    top_is = known_as _ top _ _ turning.turn _ _ (t 15);
    bottom_is = known_as _ turning.bottom _ _ turning.turn _ _ (t 16);
  };
}

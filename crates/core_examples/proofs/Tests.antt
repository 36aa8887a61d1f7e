-- States of a run, what a view has there, at which words a wait looks; and tests by computing of what a step needs.
use Rattle.std.proofs.Common.{ℕ, false, List, [], ◌∷◌, None, unwrap_or, zero, suc, ◌+◌, ◌-◌, ◌*◌, ◌++◌, set, ◌≡◌, ◌≢◌, ◌⊎◌, ◌==◌, ◌&&◌, ◌||◌, nat_lt, not, Bool, true, Option, Some, refl, sym, ap, ◌∙◌, ⊎_elim, inl, inr, eq-eqb, ◌/◌}
use Rattle.core_state.specs.declared.view.Held.{Held}
use Rattle.core_state.specs.declared.view.HeldLock.{HeldLock}
use Rattle.core_state.specs.declared.view.Move.{Move}
use Rattle.core_state.specs.declared.view.Reading.{Reading}
use Rattle.core_state.specs.declared.view.Retired.{Retired}
use Rattle.core_state.specs.declared.view.View.{View}
use Rattle.core_state.specs.Views.{lock_of, known_in, loaded_in, known_under, LoadedGeneration}
use Rattle.core_state.specs.Steps.{fresh_reading, unknown_slot, new_lock, IsSpot, IsNoEnd}
use Rattle.prcu_marks.specs.declared.mark.Mark.{Mark}
use Rattle.core_state.specs.declared.shape.Shape.{Shape}
use Rattle.core_state.specs.declared.words.Field.{Field}
use Rattle.core_state.specs.Memory.{line, apart, lead, room_behind, memory_of, word_of, same_side, same_waiter, slot_count, is_field, same_field}
use Rattle.core_state.specs.declared.act.Act.{Act}
use Rattle.core_state.specs.Acts.{field_of, Asks, in_slot, IsWord, left, done, marks as marks_left}
use Rattle.core_state.specs.declared.words.Field.TheVariants.{Clock, Front, Free, Announced, Stamp, Gate, Count, Row, State as StateWord, Lock, Key, Value, Life, Link, Tag}
use Rattle.core_state.specs.declared.view.Waiting.{Waiting}
use Rattle.list_laws.specs.Counts.{IsIn}
use Rattle.std.proofs.lemmas.Bool.{and_parts, or_cases, eqb-true, ltb-true}
use mathlib.Core.Option.{some}
use lib.ListN.{get_elem?}
use Rattle.prcu_marks.specs.declared.commit.Commit.{Commit}
use Rattle.core_state.specs.declared.view.Visit.{Visit}
use Rattle.core_state.specs.Links.{IsInHand, IsSpare, IsContent, NodeRecords, FewChildren, BothChildren, IsMarkedNode, LacksChild, SuccessorLink}
use Rattle.prcu_marks.specs.declared.mark.Side.{Side}
use Rattle.core_state.specs.declared.view.SearchState.{SearchState}
use Rattle.core_state.specs.declared.view.SearchState.TheVariants.{Found, Missed}
use Rattle.core_state.specs.declared.shape.Waiter.{Waiter}
use Rattle.core_state.specs.declared.shape.Waiter.TheVariants.{Eer, Domain, Deer}
use Rattle.core_state.specs.declared.act.Part.{Part}
use Rattle.core_frames.proofs.Views.{side_is, same_is}
use Rattle.prcu_marks.specs.declared.mark.Side.TheVariants.{Left, Right}
use Rattle.core_state.specs.declared.view.Known.{Known}
use Rattle.core_state.specs.declared.view.Walk.{Walk}
use Rattle.core_state.specs.declared.words.Field.TheVariants as word
use Rattle.core_state.specs.declared.act.Part.TheVariants as part

-- What a view of a run has, beside what is open: what it holds, its lock of a slot, its latest record, its move.

abbrev pub first_of : {A : Type 0} → A → List A → A
first_of other [] = other
first_of other (x ∷ xs) = x

abbrev pub hand_now : View → Held
hand_now v = unwrap_or v.hands.hand (unknown_slot 0)

abbrev pub lock_now : View → ℕ → HeldLock
lock_now v slot = unwrap_or (lock_of v.locks slot) (new_lock 0)

abbrev pub reading_now : View → Reading
reading_now v = first_of (fresh_reading 0) v.records

abbrev pub moving_now : View → Move
moving_now v = unwrap_or v.moving (record { key = 0; next_key = 0; copy = unknown_slot 0; old = 0; parent = 0; made = 0; waited = false })

abbrev pub oldest_retired : View → Retired
oldest_retired v = first_of (record { slot = 0; unlinked = 0; raised = false; waited = false; life = None; known = [] }) v.hands.retired

-- Acts of one seat on literal words, one after another: the state that each leaves, and that each is asked for what it needs.

pub record State : Type 0 where
  pub words : List ℕ
  pub view : View
  pub marks : List Mark

-- the state after an act
abbrev pub after : Shape → State → Act → State
after k s a =
    let field : Field = field_of s.view.allowance.place a in
    let n : ℕ = memory_of k s.words field in
    record {
      words = set s.words (word_of k field) (left s.view a n);
      view = done s.view a s.marks n;
      marks = s.marks ++ marks_left s.view a n;
    }

-- the state after these acts, and that each of them is asked for what it needs where it is made
abbrev pub reached : Shape → State → List Act → State
reached k s [] = s
reached k s (a ∷ rest) = reached k (after k s a) rest

infixr 5 ◌⟫◌
pub data AllAsked (k : Shape) : State → List Act → Type 0 where
  over : {s : State} → AllAsked k s []
  ◌⟫◌ : {s : State} {a : Act} {rest : List Act} → Asks k s.view a → AllAsked k (after k s a) rest → AllAsked k s (a ∷ rest)

-- so many words with one number, before others
abbrev pub many : ℕ → ℕ → List ℕ → List ℕ
many x zero more = more
many x (suc n) more = x ∷ many x n more

-- the room in front, the clock, the front, a free count, the word of a move and so many slots' lines, their states, and what the waiter has
-- behind some room
abbrev pub words_with : ℕ → List ℕ → ℕ → List ℕ → List ℕ
words_with free waiter slots states =
    many 0 (lead + 2 * apart) (free ∷ many 0 (apart - 1) (many 0 (apart + line * slots) (states ++ many 0 (room_behind slots) waiter)))

-- The spots of a wait on a literal table: a wait looks at stamps, at counts or at rows, and at no other word.

pub record SpotsIn (k : Shape) (wait : Waiting) (spots : List Field) : Type 0 where
  pub stamps : (p : ℕ) → IsSpot k wait (Stamp p) → IsIn spots (Stamp p)
  pub counts : (c side : ℕ) → IsSpot k wait (Count c side) → IsIn spots (Count c side)
  pub rows : (p c : ℕ) → IsSpot k wait (Row p c) → IsIn spots (Row p c)

-- so many spots are all of them
pub all_spots : {k : Shape} {wait : Waiting} {spots : List Field} → SpotsIn k wait spots → (other : Field) → IsSpot k wait other
    → IsIn spots other
all_spots known (Stamp p) spot = known.stamps p spot
all_spots known (Count c side) spot = known.counts c side spot
all_spots known (Row p c) spot = known.rows p c spot
all_spots known _ spot = absurd spot

-- Tests by computing of what a step needs of a view, and what each of them says where it is true.

-- tests that are all true, and one of them
abbrev pub all_of : List Bool → Bool
all_of [] = true
all_of (test ∷ tests) = test && all_of tests

abbrev pub test_at : List Bool → ℕ → Bool
test_at [] i = true
test_at (test ∷ tests) zero = test
test_at (test ∷ tests) (suc i) = test_at tests i

pub passed : (tests : List Bool) → all_of tests ≡ true → (i : ℕ) → test_at tests i ≡ true
passed [] e i = refl
passed (test ∷ tests) e zero = (and_parts test (all_of tests) e).0
passed (test ∷ tests) e (suc i) = passed tests (and_parts test (all_of tests) e).1 i

abbrev pub is_some : {A : Type 0} → Option A → Bool
is_some None = false
is_some (Some x) = true

pub some_is : {A : Type 0} (other : A) (o : Option A) → is_some o ≡ true → o ≡ Some (unwrap_or o other)
some_is other None e = cc
some_is other (Some x) e = refl

pub none_is : {A : Type 0} (o : Option A) → not (is_some o) ≡ true → o ≡ None
none_is None e = refl
none_is (Some x) e = cc

pub some_not_none : {A : Type 0} (o : Option A) → is_some o ≡ true → o ≡ None → ⊥
some_not_none None e none = absurd (cc)
some_not_none (Some x) e none = absurd (cc)

pub false_is : (b : Bool) → not b ≡ true → b ≡ false
false_is true e = cc
false_is false e = refl

pub not_same : (a b : ℕ) → not (a == b) ≡ true → a ≢ b
not_same a b e same = absurd (let q : true ≡ false = sym (eq-eqb a b same) ∙ false_is (a == b) e in cc)

abbrev pub is_empty : {A : Type 0} → List A → Bool
is_empty [] = true
is_empty (x ∷ xs) = false

pub empty_is : {A : Type 0} (xs : List A) → is_empty xs ≡ true → xs ≡ []
empty_is [] e = refl
empty_is (x ∷ xs) e = cc

pub first_in : {A : Type 0} (other : A) (xs : List A) → not (is_empty xs) ≡ true → get_elem? xs 0 ≡ some (first_of other xs)
first_in other [] e = cc
first_in other (x ∷ xs) e = refl

abbrev pub is_number : Option ℕ → ℕ → Bool
is_number None n = false
is_number (Some m) n = m == n

pub number_is : (o : Option ℕ) (n : ℕ) → is_number o n ≡ true → o ≡ Some n
number_is None n e = cc
number_is (Some m) n e = ap Some (eqb-true m n e)

abbrev pub has : ℕ → List ℕ → Bool
has x [] = false
has x (y ∷ ys) = (y == x) || has x ys

pub has_in : (x : ℕ) (ys : List ℕ) → has x ys ≡ true → IsIn ys x
has_in x [] e = cc
has_in x (y ∷ ys) e =
    ⊎_elim
    (λ (here : (y == x) ≡ true). (let is_in : IsIn (y ∷ ys) x = (0, ap some (eqb-true y x here)) in is_in))
    (λ (further : has x ys ≡ true). (let i = has_in x ys further in let is_in : IsIn (y ∷ ys) x = (suc i.0, i.1) in is_in))
    (or_cases (y == x) (has x ys) e)

-- a listing has been at a slot
abbrev pub has_been : ℕ → List Visit → Bool
has_been slot [] = false
has_been slot (t ∷ ts) = (t.slot == slot) || has_been slot ts

pub been_at : (slot : ℕ) (ts : List Visit) → has_been slot ts ≡ true → (t : Visit) × IsIn ts t × (t.slot ≡ slot)
been_at slot [] e = cc
been_at slot (t ∷ ts) e =
    ⊎_elim
    (λ (here : (t.slot == slot) ≡ true). (t, (zero, refl), eqb-true t.slot slot here))
    (λ (further : has_been slot ts ≡ true). (let b = been_at slot ts further in (b.0, (suc b.1.0, b.1.1), b.2)))
    (or_cases (t.slot == slot) (has_been slot ts) e)

-- a part with which a slot is filled
abbrev pub is_content : Part → Bool
is_content part.Life = false
is_content (part.Tag b) = false
is_content _ = true

pub content_is : (s : ℕ) (p : Part) → is_content p ≡ true → IsContent s (in_slot s p)
content_is s part.Life e = cc
content_is s (part.Tag b) e = cc
content_is s _ e = refl

-- the word is one of the table's
waiter_is : (a b : Waiter) → same_waiter a b ≡ true → a ≡ b
waiter_is Eer Eer e = refl
waiter_is Domain Domain e = refl
waiter_is Deer Deer e = refl
waiter_is _ _ e = cc

pub is_word : (k : Shape) (field : Field) → is_field k field ≡ true → IsWord k field
is_word k word.Clock e = tt
is_word k word.Front e = tt
is_word k word.Free e = tt
is_word k word.Moved e = tt
is_word k (word.Announced p) e = let a = and_parts (same_waiter k.waiter Eer) (nat_lt p k.places) e in
    (waiter_is k.waiter Eer a.0, ltb-true p k.places a.1)
is_word k (word.Stamp p) e = let a = and_parts (same_waiter k.waiter Eer) (nat_lt p k.places) e in
    (waiter_is k.waiter Eer a.0, ltb-true p k.places a.1)
is_word k (word.Gate c) e = let a = and_parts (same_waiter k.waiter Domain) (nat_lt c 64) e in
    (waiter_is k.waiter Domain a.0, ltb-true c 64 a.1)
is_word k (word.Count c side) e =
    let a = and_parts (same_waiter k.waiter Domain) (nat_lt c 64 && nat_lt side 2) e in
    let b = and_parts (nat_lt c 64) (nat_lt side 2) a.1 in
    (waiter_is k.waiter Domain a.0, ltb-true c 64 b.0, ltb-true side 2 b.1)
is_word k (word.Row p c) e =
    let a = and_parts (same_waiter k.waiter Deer) (nat_lt p k.places && nat_lt c 64) e in
    let b = and_parts (nat_lt p k.places) (nat_lt c 64) a.1 in
    (waiter_is k.waiter Deer a.0, ltb-true p k.places b.0, ltb-true c 64 b.1)
is_word k _ e = ltb-true _ (slot_count k) e

-- a slot in hand, or the spare
abbrev pub is_slot : Option Held → ℕ → Bool
is_slot None slot = false
is_slot (Some held) slot = held.slot == slot

slot_is : (o : Option Held) (slot : ℕ) → is_slot o slot ≡ true → (held : Held) × (o ≡ Some held) × (held.slot ≡ slot)
slot_is None slot e = cc
slot_is (Some held) slot e = (held, refl, eqb-true held.slot slot e)

abbrev pub is_holder : View → ℕ → Bool
is_holder v slot = is_slot v.hands.hand slot || is_slot v.hands.spare slot

abbrev pub IsHolder : View → ℕ → Type 0
IsHolder v slot = (held : Held) × (IsInHand v held slot ⊎ IsSpare v held slot)

pub holder_is : (v : View) (slot : ℕ) → is_holder v slot ≡ true → IsHolder v slot
holder_is v slot e =
    ⊎_elim
    (λ (hand : is_slot v.hands.hand slot ≡ true). (let h = slot_is v.hands.hand slot hand in
    let is : IsHolder v slot = (h.0, inl (h.1, h.2)) in is))
    (λ (spare : is_slot v.hands.spare slot ≡ true). (let h = slot_is v.hands.spare slot spare in
    let is : IsHolder v slot = (h.0, inr (h.1, h.2)) in is))
    (or_cases (is_slot v.hands.hand slot) (is_slot v.hands.spare slot) e)

-- a lock may be given up, as far as a move goes
abbrev pub is_no_end : ℕ → Option Move → Bool
is_no_end slot None = true
is_no_end slot (Some move) = not (move.copy.slot == slot) && (not (move.old == slot) && not (move.parent == slot))

pub no_end_is : (slot : ℕ) (o : Option Move) → is_no_end slot o ≡ true → IsNoEnd slot o
no_end_is slot None e = tt
no_end_is slot (Some move) e =
    let a = and_parts (not (move.copy.slot == slot)) (not (move.old == slot) && not (move.parent == slot)) e in
    let b = and_parts (not (move.old == slot)) (not (move.parent == slot)) a.1 in
    (not_same move.copy.slot slot a.0, not_same move.old slot b.0, not_same move.parent slot b.1)

-- a commit whose store is made, and which a front closes
abbrev pub is_closing : Option Commit → ℕ → Bool
is_closing None front = false
is_closing (Some commit) front = commit.stored && (front == commit.found + 2)

abbrev Closing : Option Commit → ℕ → Type 0
Closing o front = (found : ℕ) × (o ≡ Some (record { found = found; stored = true })) × (front ≡ found + 2)

pub closing_is : (o : Option Commit) (front : ℕ) → is_closing o front ≡ true → Closing o front
closing_is None front e = cc
closing_is (Some commit) front e =
    let a = and_parts commit.stored (front == commit.found + 2) e in
    (commit.found, (λ i. Some (record { found = commit.found; stored = a.0 i })), eqb-true front (commit.found + 2) a.1)

-- a commit whose store isn't made, and the front as it was found
abbrev pub is_unmade : Option Commit → ℕ → Bool
is_unmade None front = false
is_unmade (Some commit) front = commit.found == front && not commit.stored

pub unmade_is : (o : Option Commit) (front : ℕ) → is_unmade o front ≡ true → o ≡ Some (record { found = front; stored = false })
unmade_is None front e = cc
unmade_is (Some commit) front e =
    let a = and_parts (commit.found == front) (not commit.stored) e in
    (λ i. Some (record { found = eqb-true commit.found front a.0 i; stored = false_is commit.stored a.1 i }))

-- where a search ended
abbrev pub is_missed : SearchState → ℕ → Side → Bool
is_missed (Missed t c) slot b = t == slot && same_side c b
is_missed _ slot b = false

pub missed_is : (state : SearchState) (slot : ℕ) (b : Side) → is_missed state slot b ≡ true → state ≡ Missed slot b
missed_is (Missed t c) slot b e =
    let a = and_parts (t == slot) (same_side c b) e in
    (λ i. Missed (eqb-true t slot a.0 i) (side_is c b a.1 i))
missed_is _ slot b e = cc

-- Tests by computing of a delete's records: that what was loaded under locks is what the search found out, and that a node is marked.

-- the generation of a slot that the search found out
abbrev pub generation_of : View → ℕ → ℕ
generation_of v slot = unwrap_or (known_in (reading_now v).loads (Life slot)) 0 / 2

-- the slot has that generation under its lock and is unmarked
abbrev pub is_recorded : View → ℕ → Bool
is_recorded v slot =
    is_some (known_in (reading_now v).loads (Life slot))
    && is_number (loaded_in (known_under v slot) (Life slot)) (2 * generation_of v slot)

abbrev pub IsRecorded : View → ℕ → Type 0
IsRecorded v slot = (generation : ℕ) × LoadedGeneration (reading_now v) slot generation
    × (loaded_in (known_under v slot) (Life slot) ≡ Some (2 * generation))

pub recorded_is : (v : View) (slot : ℕ) → is_recorded v slot ≡ true → IsRecorded v slot
recorded_is v slot e =
    let a = and_parts (is_some (known_in (reading_now v).loads (Life slot)))
    (is_number (loaded_in (known_under v slot) (Life slot)) (2 * generation_of v slot)) e in
    (generation_of v slot, (unwrap_or (known_in (reading_now v).loads (Life slot)) 0, some_is 0 _ a.0, refl), number_is _ _ a.1)

-- where a search ended that found its key
abbrev pub is_found : SearchState → ℕ → ℕ → Side → Bool
is_found (Found s p c value) slot parent b = s == slot && (p == parent && same_side c b)
is_found _ slot parent b = false

abbrev IsFound : SearchState → ℕ → ℕ → Side → Type 0
IsFound state slot parent b = (value : Option ℕ) × (state ≡ Found slot parent b value)

pub found_is : (state : SearchState) (slot parent : ℕ) (b : Side) → is_found state slot parent b ≡ true → IsFound state slot parent b
found_is (Found s p c value) slot parent b e =
    let a = and_parts (s == slot) (p == parent && same_side c b) e in
    let d = and_parts (p == parent) (same_side c b) a.1 in
    (value, (λ i. Found (eqb-true s slot a.0 i) (eqb-true p parent d.0 i) (side_is c b d.1 i) value))
found_is _ slot parent b e = cc

abbrev pub node_tests : View → ℕ → Side → ℕ → ℕ → ℕ → List Bool
node_tests v parent b node left right =
    not (is_empty v.records) ∷
    is_found (reading_now v).state node parent b ∷
    is_recorded v parent ∷
    is_number (loaded_in (known_under v parent) (Link parent b)) node ∷
    is_number (loaded_in (known_under v node) (Link node Left)) left ∷
    is_number (loaded_in (known_under v node) (Link node Right)) right ∷ []

pub node_records : (v : View) (parent : ℕ) (b : Side) (node left right : ℕ) → all_of (node_tests v parent b node left right) ≡ true
    → NodeRecords v (reading_now v) parent b node left right
node_records v parent b node left right e =
    let t = passed (node_tests v parent b node left right) e in
    record {
      kept = (0, first_in _ v.records (t 0));
      found = found_is (reading_now v).state node parent b (t 1);
      parent_now = recorded_is v parent (t 2);
      link_now = number_is _ _ (t 3);
      left_now = number_is _ _ (t 4);
      right_now = number_is _ _ (t 5);
    }

-- one of two links is empty
lacks_child : (left right : ℕ) → ((left == 0) || (right == 0)) ≡ true → LacksChild left right
lacks_child left right e =
    ⊎_elim
    (λ (x : (left == 0) ≡ true). (let is : LacksChild left right = inl (eqb-true left 0 x) in is))
    (λ (x : (right == 0) ≡ true). (let is : LacksChild left right = inr (eqb-true right 0 x) in is))
    (or_cases (left == 0) (right == 0) e)

abbrev pub had_link : View → ℕ → Side → ℕ
had_link v node b = unwrap_or (known_in (reading_now v).loads (Link node b)) 0

abbrev pub few_tests : View → ℕ → Side → ℕ → ℕ → ℕ → List Bool
few_tests v parent b node left right =
    all_of (node_tests v parent b node left right) ∷
    ((left == 0) || (right == 0)) ∷
    is_some (known_in (reading_now v).loads (Link node Left)) ∷
    is_some (known_in (reading_now v).loads (Link node Right)) ∷
    ((had_link v node Left == 0) || (had_link v node Right == 0)) ∷ []

pub few_children : (v : View) (parent : ℕ) (b : Side) (node left right : ℕ) → all_of (few_tests v parent b node left right) ≡ true
    → FewChildren v (reading_now v) parent b node left right
few_children v parent b node left right e =
    let t = passed (few_tests v parent b node left right) e in
    record {
      records = node_records v parent b node left right (t 0);
      few = lacks_child left right (t 1);
      had = (
        had_link v node Left,
        had_link v node Right,
        (some_is 0 _ (t 2), some_is 0 _ (t 3)),
        lacks_child (had_link v node Left) (had_link v node Right) (t 4),
      );
    }

-- a load that the search made
abbrev pub has_load : List Known → Field → ℕ → Bool
has_load [] field number = false
has_load (k ∷ ks) field number = (same_field k.field field && (k.number == number && not k.stored)) || has_load ks field number

abbrev IsLoad : List Known → Field → ℕ → Type 0
IsLoad ks field number = IsIn ks (record { field = field; number = number; stored = false })

load_in : (ks : List Known) (field : Field) (number : ℕ) → has_load ks field number ≡ true → IsLoad ks field number
load_in [] field number e = cc
load_in (k ∷ ks) field number e =
    ⊎_elim
    (λ (here : (same_field k.field field && (k.number == number && not k.stored)) ≡ true).
    (let a = and_parts (same_field k.field field) (k.number == number && not k.stored) here in
    let b = and_parts (k.number == number) (not k.stored) a.1 in
    let is : IsLoad (k ∷ ks) field number = (
      0,
      (λ i. some
          (record { field = same_is k.field field a.0 i; number = eqb-true k.number number b.0 i; stored = false_is k.stored b.1 i })),
    ) in
    is))
    (λ (further : has_load ks field number ≡ true). (let j = load_in ks field number further in
    let is : IsLoad (k ∷ ks) field number = (suc j.0, j.1) in is))
    (or_cases (same_field k.field field && (k.number == number && not k.stored)) (has_load ks field number) e)

-- where a walk to the successor stands
abbrev pub is_walk : Option Walk → ℕ → ℕ → Bool
is_walk None parent slot = false
is_walk (Some walk) parent slot = walk.parent == parent && walk.slot == slot

abbrev WalkIs : Option Walk → ℕ → ℕ → Type 0
WalkIs o parent slot = o ≡ Some (record { parent = parent; slot = slot })

walk_is : (o : Option Walk) (parent slot : ℕ) → is_walk o parent slot ≡ true → WalkIs o parent slot
walk_is None parent slot e = cc
walk_is (Some walk) parent slot e =
    let a = and_parts (walk.parent == parent) (walk.slot == slot) e in
    (λ i. Some (record { parent = eqb-true walk.parent parent a.0 i; slot = eqb-true walk.slot slot a.1 i }))

-- the successor's parent is the node, or leads to it by its left
abbrev pub is_right_child : ℕ → ℕ → ℕ → ℕ → Bool
is_right_child node right parent old = parent == node && right == old

abbrev pub is_further_down : View → ℕ → ℕ → ℕ → Bool
is_further_down v node parent old = not (parent == node)
    && (is_recorded v parent && is_number (loaded_in (known_under v parent) (Link parent Left)) old)

successor_link : (v : View) (node right parent old : ℕ) → (is_right_child node right parent old || is_further_down v node parent old) ≡ true
    → SuccessorLink v (reading_now v) node right parent old
successor_link v node right parent old e =
    ⊎_elim
    (λ (x : is_right_child node right parent old ≡ true).
    (let a = and_parts (parent == node) (right == old) x in
    let is : SuccessorLink v (reading_now v) node right parent old = inl (eqb-true parent node a.0, eqb-true right old a.1) in
    is))
    (λ (x : is_further_down v node parent old ≡ true).
    (let a = and_parts (not (parent == node)) (is_recorded v parent
    && is_number (loaded_in (known_under v parent) (Link parent Left)) old) x in
    let b = and_parts (is_recorded v parent) (is_number (loaded_in (known_under v parent) (Link parent Left)) old) a.1 in
    let is : SuccessorLink v (reading_now v) node right parent old =
    inr (not_same parent node a.0, recorded_is v parent b.0, number_is _ _ b.1) in
    is))
    (or_cases (is_right_child node right parent old) (is_further_down v node parent old) e)

abbrev pub both_tests : View → ℕ → Side → ℕ → ℕ → ℕ → ℕ → ℕ → List Bool
both_tests v parent b node left right old_parent old =
    all_of (node_tests v parent b node left right) ∷
    not (left == 0) ∷
    not (right == 0) ∷
    has_load (reading_now v).loads (Link node Left) left ∷
    has_load (reading_now v).loads (Link node Right) right ∷
    is_walk (reading_now v).walk old_parent old ∷
    (is_right_child node right old_parent old || is_further_down v node old_parent old) ∷
    is_recorded v old ∷
    is_number (loaded_in (known_under v old) (Link old Left)) 0 ∷ []

pub both_children : (v : View) (parent : ℕ) (b : Side) (node left right old_parent old : ℕ)
    → all_of (both_tests v parent b node left right old_parent old) ≡ true
    → BothChildren v (reading_now v) parent b node left right old_parent old
both_children v parent b node left right old_parent old e =
    let t = passed (both_tests v parent b node left right old_parent old) e in
    let left_some = not_same left 0 (t 1) in
    let right_some = not_same right 0 (t 2) in
    record {
      records = node_records v parent b node left right (t 0);
      left_some = left_some;
      right_some = right_some;
      had = ((left, left_some, load_in _ _ _ (t 3)), (right, right_some, load_in _ _ _ (t 4)));
      walk = walk_is _ _ _ (t 5);
      link = successor_link v node right old_parent old (t 6);
      old_life = recorded_is v old (t 7);
      old_left = number_is _ _ (t 8);
    }

-- a node that this view marked
abbrev pub marked_tests : View → ℕ → List Bool
marked_tests v node =
    is_some (known_in (reading_now v).loads (Life node)) ∷
    is_some (lock_of v.locks node) ∷
    (lock_now v node).marked ∷
    is_number (known_in (lock_now v node).known (Life node)) (2 * generation_of v node + 1) ∷ []

pub marked_node : (v : View) (node : ℕ) → all_of (marked_tests v node) ≡ true → IsMarkedNode v (reading_now v) node
marked_node v node e =
    let t = passed (marked_tests v node) e in
    record {
      generation = generation_of v node;
      lock = lock_now v node;
      recorded = (unwrap_or (known_in (reading_now v).loads (Life node)) 0, some_is 0 _ (t 0), refl);
      locked = some_is _ (lock_of v.locks node) (t 1);
      marked = t 2;
      life = number_is _ _ (t 3);
    }

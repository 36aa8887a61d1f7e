-- What stays the same over a step, of words and of lists of views; what a load makes of a reading; sums; the way of a search.
use Rattle.std.proofs.Common.{◌≡◌, ◌≢◌, ℕ, ◌+◌, ◌-◌, List, ◌++◌, map, set, refl, sym, ap, subst, ◌∙◌, ⊎_elim, Option, ◌==◌, Bool, true, false, cond, eq-eqb, ◌&&◌, ◌∷◌, Some, None, zero, suc, ◌<◌, ◌≤◌, not, [], arith, ne_eqb, length}
use mathlib.Core.Logic.{dite}
use mathlib.Core.Option.{some, some-injective}
use native.Mathlib.Decide.{ℕ_discrete}
use lib.ListN.{get_elem?}
use Rattle.atomic_table.proofs.Lists.{at_set, set_here, set_else}
use Rattle.prcu_marks.specs.declared.mark.Side.{Side}
use Rattle.core_state.specs.declared.words.Field.{Field}
use Rattle.core_state.specs.declared.words.Field.TheVariants.{Clock, Front, Free, Moved, Announced, Stamp, Gate, Count, Row, State, Lock, Life, Key, Value, Link, Tag}
use Rattle.core_state.specs.declared.view.Retired.{Retired}
use Rattle.core_state.specs.declared.view.Spent.{Spent}
use Rattle.core_state.specs.declared.view.View.{View}
use Rattle.list_laws.specs.Counts.{numbers_from, times, IsIn}
use Rattle.core_state.specs.Memory.{Memory, same_side, same_field, stored, step_side, sum_below, flag}
use Rattle.core_state.specs.Views.{IsOwnField, places_of, spares_of, retired_of, slots_of, held_list, joined_spares, joined_retired, IsLoadable}
use Rattle.core_state.specs.Links.{IsContent}
use Rattle.list_laws.proofs.Lists.{at_below, times_here, times_other}
use Rattle.core_state.specs.declared.view.Held.{Held}
use Rattle.std.proofs.lemmas.Bool.{eqb-true, and_parts, and_from, cases_eq, cases_lt}
use Rattle.prcu_marks.specs.declared.mark.Side.TheVariants.{Left, Right}
use Rattle.core_state.specs.declared.view.Reading.{Reading}
use Rattle.core_state.specs.declared.view.SearchState.TheVariants.{At, Unread, Found, Missed}
use Rattle.core_state.specs.Steps.{key_stand, linked_on, searched, loaded}
use Rattle.core_state.specs.Tree.{Chart}
use Rattle.core_state.specs.Parts.{state_slot, last_stood, Falls, IsWay}

-- What stays the same over a step: words, fields of a view, and how it is found among all views.

-- the words of nodes are the same
pub record SameNodes (m m' : Memory) : Type 0 where
  pub life : (s : ℕ) → m' (Life s) ≡ m (Life s)
  pub key : (s : ℕ) → m' (Key s) ≡ m (Key s)
  pub value : (s : ℕ) → m' (Value s) ≡ m (Value s)
  pub link : (s : ℕ) (b : Side) → m' (Link s b) ≡ m (Link s b)
  pub tag : (s : ℕ) (b : Side) → m' (Tag s b) ≡ m (Tag s b)

-- and their states and locks
pub record SameSlots (m m' : Memory) : Type 0 where
  pub nodes : SameNodes m m'
  pub state : (s : ℕ) → m' (State s) ≡ m (State s)
  pub lock : (s : ℕ) → m' (Lock s) ≡ m (Lock s)

pub own_same : (m m' : Memory) → SameNodes m m' → ((s : ℕ) → m' (State s) ≡ m (State s)) → (s : ℕ) (field : Field) → IsOwnField s field
    → m' field ≡ m field
own_same m m' e state s (State t) o = state t
own_same m m' e state s (Life t) o = e.life t
own_same m m' e state s (Key t) o = e.key t
own_same m m' e state s (Value t) o = e.value t
own_same m m' e state s (Link t b) o = e.link t b
own_same m m' e state s (Tag t b) o = e.tag t b
own_same m m' e state s _ o = absurd o

pub content_same : (m m' : Memory) → SameNodes m m' → (s : ℕ) (field : Field) → IsContent s field → m' field ≡ m field
content_same m m' e s (Key t) o = e.key t
content_same m m' e s (Value t) o = e.value t
content_same m m' e s (Link t b) o = e.link t b
content_same m m' e s _ o = absurd o

-- The words of all slots, and those in which the readers of each waiter show. A step that stores elsewhere leaves all of them: one
-- equation, which `refl` proves.
pub record SlotWords : Type 0 where
  pub life : ℕ → ℕ
  pub key : ℕ → ℕ
  pub value : ℕ → ℕ
  pub link : ℕ → Side → ℕ
  pub tag : ℕ → Side → ℕ
  pub state : ℕ → ℕ
  pub lock : ℕ → ℕ

abbrev pub slot_words : Memory → SlotWords
slot_words m = record {
  life = λ s. m (Life s);
  key = λ s. m (Key s);
  value = λ s. m (Value s);
  link = λ s b. m (Link s b);
  tag = λ s b. m (Tag s b);
  state = λ s. m (State s);
  lock = λ s. m (Lock s);
}

pub record ReaderWords : Type 0 where
  pub announced : ℕ → ℕ
  pub stamp : ℕ → ℕ
  pub count : ℕ → ℕ → ℕ
  pub row : ℕ → ℕ → ℕ

abbrev pub reader_words : Memory → ReaderWords
reader_words m = record {
  announced = λ p. m (Announced p);
  stamp = λ p. m (Stamp p);
  count = λ c side. m (Count c side);
  row = λ p c. m (Row p c);
}

-- all words but those in which readers show, and the gates
pub record WriterWords : Type 0 where
  pub slots : SlotWords
  pub clock : ℕ
  pub front : ℕ
  pub free : ℕ
  pub moved : ℕ

abbrev pub writer_words : Memory → WriterWords
writer_words m = record { slots = slot_words m; clock = m Clock; front = m Front; free = m Free; moved = m Moved }

pub slots_stay : (m m' : Memory) → slot_words m' ≡ slot_words m → SameSlots m m'
slots_stay m m' e = record {
  nodes = record {
    life = λ s i. (e i).life s;
    key = λ s i. (e i).key s;
    value = λ s i. (e i).value s;
    link = λ s b i. (e i).link s b;
    tag = λ s b i. (e i).tag s b;
  };
  state = λ s i. (e i).state s;
  lock = λ s i. (e i).lock s;
}

pub same_slots : (m : Memory) → SameSlots m m
same_slots m = slots_stay m m refl

-- the places of a view are the same
pub record SamePlaces (v w : View) : Type 0 where
  pub place : w.allowance.place ≡ v.allowance.place
  pub places : w.allowance.places ≡ v.allowance.places
  pub joined : w.allowance.joined ≡ v.allowance.joined
  pub met : w.allowance.met ≡ v.allowance.met

pub places_same : (v w : View) → SamePlaces v w → places_of w ≡ places_of v
places_same v w e = λ i. numbers_from (e.place i) (e.places i) ++ map (λ (s : Spent). s.place) (e.joined i)

-- what a view has of slots: its places, the slot in hand, the spare, the retired ones
pub record OwnSlots : Type 0 where
  pub place : ℕ
  pub places : ℕ
  pub joined : List Spent
  pub hand : Option Held
  pub spare : Option Held
  pub retired : List Retired

abbrev pub own_slots : View → OwnSlots
own_slots u = record {
  place = u.allowance.place;
  places = u.allowance.places;
  joined = u.allowance.joined;
  hand = u.hands.hand;
  spare = u.hands.spare;
  retired = u.hands.retired;
}

pub retired_same : (v w : View) → own_slots w ≡ own_slots v → retired_of w ≡ retired_of v
retired_same v w e = λ i. (e i).retired ++ joined_retired (e i).joined

pub spares_same : (v w : View) → own_slots w ≡ own_slots v → spares_of w ≡ spares_of v
spares_same v w e = λ i. held_list (e i).spare ++ (numbers_from ((e i).place + 2) ((e i).places - 1) ++ joined_spares (e i).joined)

pub slots_same : (v w : View) → own_slots w ≡ own_slots v → slots_of w ≡ slots_of v
slots_same v w e = λ i. held_list (e i).hand ++ (spares_same v w e i ++ map (λ (r : Retired). r.slot) (retired_same v w e i))

-- A field of a view that the step leaves alone: each view afterwards has one before with the same, and the other way about.
module _ {X : Type 0} (f : View → X) (vs : List View) (id : ℕ) (v w : View) (there : get_elem? vs id ≡ some v) (same : f w ≡ f v) where
  pub was : (j : ℕ) (u : View) → get_elem? (set vs id w) j ≡ some u → (z : View) × (get_elem? vs j ≡ some z) × (f u ≡ f z)
  was j u e = ⊎_elim (λ (t : (j ≡ id) × (w ≡ u)). (v, subst (λ i. get_elem? vs i ≡ some v) (sym t.0) there, ap f (sym t.1) ∙ same))
      (λ (t : (j ≢ id) × (get_elem? vs j ≡ some u)). (u, t.1, refl)) (at_set vs id j w u e)

  pub still : (j : ℕ) (z : View) → get_elem? vs j ≡ some z → (u : View) × (get_elem? (set vs id w) j ≡ some u) × (f u ≡ f z)
  still j z e = dite (ℕ_discrete j id)
      (λ i. (
        w,
        subst (λ n. get_elem? (set vs id w) n ≡ some w) (sym i) (set_here vs id w (at_below vs id v there)),
        same ∙ ap f (some-injective v z (sym there ∙ subst (λ n. get_elem? vs n ≡ some z) i e)),
      ))
      (λ ne. (z, set_else vs id j w ne ∙ e, refl))

-- What a store leaves in the fields.

pub side_is : (a b : Side) → same_side a b ≡ true → a ≡ b
side_is Left Left e = refl
side_is Right Right e = refl
side_is _ _ e = absurd (cc)

pub side_self : (a : Side) → same_side a a ≡ true
side_self Left = refl
side_self Right = refl

-- the test on fields tells equal ones
pub same_is : (field other : Field) → same_field field other ≡ true → field ≡ other
same_is Clock Clock e = refl
same_is Front Front e = refl
same_is Free Free e = refl
same_is Moved Moved e = refl
same_is (Announced p) (Announced q) e = ap Announced (eqb-true p q e)
same_is (Stamp p) (Stamp q) e = ap Stamp (eqb-true p q e)
same_is (Gate c) (Gate d) e = ap Gate (eqb-true c d e)
same_is (Count c a) (Count d b) e = let w = and_parts (c == d) (a == b) e in λ i. Count (eqb-true c d w.0 i) (eqb-true a b w.1 i)
same_is (Row p c) (Row q d) e = let w = and_parts (p == q) (c == d) e in λ i. Row (eqb-true p q w.0 i) (eqb-true c d w.1 i)
same_is (State s) (State t) e = ap State (eqb-true s t e)
same_is (Lock s) (Lock t) e = ap Lock (eqb-true s t e)
same_is (Life s) (Life t) e = ap Life (eqb-true s t e)
same_is (Key s) (Key t) e = ap Key (eqb-true s t e)
same_is (Value s) (Value t) e = ap Value (eqb-true s t e)
same_is (Link s a) (Link t b) e = let w = and_parts (s == t) (same_side a b) e in λ i. Link (eqb-true s t w.0 i) (side_is a b w.1 i)
same_is (Tag s a) (Tag t b) e = let w = and_parts (s == t) (same_side a b) e in λ i. Tag (eqb-true s t w.0 i) (side_is a b w.1 i)
same_is _ _ e = absurd (cc)

pub same_self : (field : Field) → same_field field field ≡ true
same_self Clock = refl
same_self Front = refl
same_self Free = refl
same_self Moved = refl
same_self (Count c a) = and_from (c == c) (a == a) (eq-eqb c c refl) (eq-eqb a a refl)
same_self (Row p c) = and_from (p == p) (c == c) (eq-eqb p p refl) (eq-eqb c c refl)
same_self (Link s a) = and_from (s == s) (same_side a a) (eq-eqb s s refl) (side_self a)
same_self (Tag s a) = and_from (s == s) (same_side a a) (eq-eqb s s refl) (side_self a)
same_self _ = eq-eqb _ _ refl

pub stored_here : (m : Memory) (field : Field) (n : ℕ) → stored m field n field ≡ n
stored_here m field n = ap (λ b. cond b n (m field)) (same_self field)

pub stored_else : (m : Memory) (field other : Field) (n : ℕ) → field ≢ other → stored m field n other ≡ m other
stored_else m field other n ne = cases (same_field field other) refl
  where
    cases : (b : Bool) → same_field field other ≡ b → cond (same_field field other) n (m other) ≡ m other
    cases true e = absurd (ne (same_is field other e))
    cases false e = ap (λ b. cond b n (m other)) e

-- a load leaves the memory as it was
pub stored_same : (m : Memory) (field : Field) → stored m field (m field) ≡ m
stored_same m field = λ i other. at other i
  where
    cases : (other : Field) (b : Bool) → same_field field other ≡ b → cond b (m field) (m other) ≡ m other
    cases other true e = ap m (same_is field other e)
    cases other false e = refl

    at : (other : Field) → cond (same_field field other) (m field) (m other) ≡ m other
    at other = cases other (same_field field other) refl

-- the slot of a field that its holder, or a section, may have to do with
pub own_one : (s t : ℕ) (field : Field) → IsOwnField s field → IsOwnField t field → s ≡ t
own_one s t (State u) a b = sym a ∙ b
own_one s t (Life u) a b = sym a ∙ b
own_one s t (Key u) a b = sym a ∙ b
own_one s t (Value u) a b = sym a ∙ b
own_one s t (Link u c) a b = sym a ∙ b
own_one s t (Tag u c) a b = sym a ∙ b
own_one s t _ a b = absurd a

pub loadable_own : (s : ℕ) (field : Field) → IsLoadable s field → IsOwnField s field
loadable_own s (Life u) a = a
loadable_own s (Key u) a = a
loadable_own s (Value u) a = a
loadable_own s (Link u c) a = a
loadable_own s (Tag u c) a = a
loadable_own s _ a = absurd a

-- What a load makes of a reading, by where its search stands: it goes on, or it only has one load more.

pub link_moves : (r : Reading) (s : ℕ) (b : Side) (n : ℕ) → r.state ≡ At s b
    → loaded r (Link s b) n ≡ linked_on (record r { loads = record { field = Link s b; number = n; stored = false } ∷ r.loads }) s b n
link_moves r s b n e =
    let r' : Reading = record r { loads = record { field = Link s b; number = n; stored = false } ∷ r.loads } in
    ap (λ z. searched r' z (Link s b) n) e ∙ ap (λ z. cond z (linked_on r' s b n) r')
    (ap (λ z. z && same_side b b) (eq-eqb s s refl) ∙ side_self b)

pub key_moves : (r : Reading) (s p : ℕ) (b : Side) (n : ℕ) → r.state ≡ Unread s p b
    → loaded r (Key s) n ≡ record r {
      loads = record { field = Key s; number = n; stored = false } ∷ r.loads;
      state = key_stand s p b (step_side r.key n);
    }
key_moves r s p b n e =
    let r' : Reading = record r { loads = record { field = Key s; number = n; stored = false } ∷ r.loads } in
    ap (λ z. searched r' z (Key s) n) e ∙ ap (λ z. cond z (record r' { state = key_stand s p b (step_side r'.key n) }) r') (eq-eqb s s refl)

pub value_moves : (r : Reading) (s p : ℕ) (b : Side) (n : ℕ) → r.state ≡ Found s p b None
    → loaded r (Value s) n ≡ record r {
      loads = record { field = Value s; number = n; stored = false } ∷ r.loads;
      state = Found s p b (Some n);
    }
value_moves r s p b n e =
    let r' : Reading = record r { loads = record { field = Value s; number = n; stored = false } ∷ r.loads } in
    ap (λ z. searched r' z (Value s) n) e ∙ ap (λ z. cond z (record r' { state = Found s p b (Some n) }) r') (eq-eqb s s refl)

-- a load at the end of a search that missed only adds what it loaded
pub missed_stays : (r : Reading) (s : ℕ) (b : Side) (field : Field) (n : ℕ) → r.state ≡ Missed s b
    → loaded r field n ≡ record r { loads = record { field = field; number = n; stored = false } ∷ r.loads }
missed_stays r s b field n e = ap (λ z. searched
    (record r { loads = record { field = field; number = n; stored = false } ∷ r.loads }) z field n) e

-- Sums below a number: where one number or two change, and the numbers of a list counted one by one.

pub sum_add : (f g : ℕ → ℕ) (n : ℕ) → sum_below (λ s. f s + g s) n ≡ sum_below f n + sum_below g n
sum_add f g zero = refl
sum_add f g (suc n) = let a = sum_add f g n in omega arith

-- one number passes the test of being it
pub sum_same : (y n : ℕ) → sum_below (λ s. flag (y == s)) n ≤ 1
sum_same y zero = omega arith
sum_same y (suc n) = dite (ℕ_discrete y n)
    (λ e. (let a = ap flag (eq-eqb y n e) in let b = none y n (omega arith) in omega arith))
    (λ ne. (let a = ap flag (ne_eqb y n ne) in let b = sum_same y n in omega arith))
  where
    none : (y n : ℕ) → n ≤ y → sum_below (λ s. flag (y == s)) n ≡ 0
    none y zero le = refl
    none y (suc n) le = let a = ap flag (ne_eqb y n (λ e. omega arith)) in let b = none y n (omega arith) in omega arith

pub sum_here : (y n : ℕ) → y < n → 1 ≤ sum_below (λ s. flag (y == s)) n
sum_here y zero lt = absurd (omega arith)
sum_here y (suc n) lt = dite (ℕ_discrete y n)
    (λ e. (let a = ap flag (eq-eqb y n e) in omega arith))
    (λ ne. (let b = sum_here y n (omega arith) in omega arith))

-- the numbers of a list, counted one by one
pub sum_times : (xs : List ℕ) (n : ℕ) → sum_below (λ s. times s xs) n ≤ length xs
sum_times [] zero = omega arith
sum_times [] (suc n) = let a = sum_times [] n in omega arith
sum_times (y ∷ ys) n = let a = sum_add (λ s. flag (y == s)) (λ s. times s ys) n in let b = sum_same y n in let c = sum_times ys n in
    omega arith

pub times_sum : (xs : List ℕ) (n : ℕ) → ((x : ℕ) → 1 ≤ times x xs → x < n) → length xs ≤ sum_below (λ s. times s xs) n
times_sum [] n all = omega arith
times_sum (y ∷ ys) n all =
    let a = sum_add (λ s. flag (y == s)) (λ s. times s ys) n in
    let b = sum_here y n (all y (let e = ap flag (eq-eqb y y refl) in omega arith)) in
    let c = times_sum ys n (λ x there. all x (omega arith)) in
    omega arith

pub sum_equal : (f g : ℕ → ℕ) (n : ℕ) → ((s : ℕ) → s < n → f s ≡ g s) → sum_below f n ≡ sum_below g n
sum_equal f g zero e = refl
sum_equal f g (suc n) e = let a = e n (omega arith) in let b = sum_equal f g n (λ s lt. e s (omega arith)) in omega arith

-- a number in a list of one
pub in_one : (s x : ℕ) → s ≡ x → times s (x ∷ []) ≡ 1
in_one s x e = let t : times s (x ∷ []) ≡ 1 + 0 = subst (λ y. times s (y ∷ []) ≡ 1 + 0) e (times_here s []) in omega arith

pub not_one : (s x : ℕ) → s ≢ x → times s (x ∷ []) ≡ 0
not_one s x ne = times_other s x [] (λ e. ne (sym e))

none_sum : (x n : ℕ) → n ≤ x → sum_below (λ s. times s (x ∷ [])) n ≡ 0
none_sum x zero le = refl
none_sum x (suc n) le = let a = not_one n x (λ e. absurd (omega arith)) in let b = none_sum x n (omega arith) in omega arith

pub one_sum : (x n : ℕ) → x < n → sum_below (λ s. times s (x ∷ [])) n ≡ 1
one_sum x zero lt = absurd (omega arith)
one_sum x (suc n) lt = ⊎_elim
    (λ (e : n ≡ x). (let a = in_one n x e in let b = none_sum x n (omega arith) in omega arith))
    (λ ne. (let a = not_one n x ne in let b = one_sum x n (omega arith) in omega arith))
    (cases_eq n x)

-- a sum of which one number more is counted, and one fewer
pub sum_swapped : (f g : ℕ → ℕ) (d c n : ℕ) → d < n → c < n → ((s : ℕ) → g s + times s (d ∷ []) ≡ f s + times s (c ∷ []))
    → sum_below g n ≡ sum_below f n
sum_swapped f g d c n dn cn e =
    let a = sum_equal (λ s. g s + times s (d ∷ [])) (λ s. f s + times s (c ∷ [])) n (λ s _. e s) in
    let p = sum_add g (λ s. times s (d ∷ [])) n in
    let q = sum_add f (λ s. times s (c ∷ [])) n in
    let x = one_sum d n dn in
    let y = one_sum c n cn in
    omega arith

pub sum_one_more : (f g : ℕ → ℕ) (u n : ℕ) → u < n → ((s : ℕ) → g s ≡ f s + times s (u ∷ [])) → sum_below g n ≡ sum_below f n + 1
sum_one_more f g u n un e =
    let a = sum_equal g (λ s. f s + times s (u ∷ [])) n (λ s _. e s) in
    let q = sum_add f (λ s. times s (u ∷ [])) n in
    let x = one_sum u n un in
    omega arith

-- tests of flags
pub flag_false : (x : Bool) → flag (x && false) ≡ 0
flag_false true = refl
flag_false false = refl

pub flag_true : (x : Bool) → flag (x && true) ≡ flag x
flag_true true = refl
flag_true false = refl

pub young_flags : (a b x y : Bool) → a ≡ x → b ≡ y → flag (a && not b) ≡ flag (x && not y)
young_flags a b x y e f = λ i. flag (e i && not (f i))

pub old_flags : (a b x y : Bool) → a ≡ x → b ≡ y → flag (a && b) ≡ flag (x && y)
old_flags a b x y e f = λ i. flag (e i && f i)

pub flag_root : (x : Bool) (s : ℕ) → s ≡ 0 → flag (x && not (s == 0)) ≡ 0
flag_root x s e = ap (λ b. flag (x && not b)) (eq-eqb s 0 e) ∙ flag_false x

pub flag_node : (x : Bool) (s : ℕ) → s ≢ 0 → flag (x && not (s == 0)) ≡ flag x
flag_node x s ne = ap (λ b. flag (x && not b)) (ne_eqb s 0 ne) ∙ flag_true x

pub young_root : (x o : Bool) (s : ℕ) → s ≡ 0 → flag (x && (not (s == 0) && not o)) ≡ 0
young_root x o s e = ap (λ b. flag (x && (not b && not o))) (eq-eqb s 0 e) ∙ flag_false x

pub young_node : (x o : Bool) (s : ℕ) → s ≢ 0 → flag (x && (not (s == 0) && not o)) ≡ flag (x && not o)
young_node x o s ne = ap (λ b. flag (x && (not b && not o))) (ne_eqb s 0 ne)

-- sums that differ at one number
pub sum_one_other : (f g : ℕ → ℕ) (i n : ℕ) → i < n → ((s : ℕ) → s ≢ i → g s ≡ f s) → sum_below g n + f i ≡ sum_below f n + g i
sum_one_other f g i zero lt same = absurd (omega arith)
sum_one_other f g i (suc n) lt same =
    dite (ℕ_discrete i n)
    (λ e. let a = ap f e in let b = ap g e in let c = sum_equal g f n (λ s small. same s (λ z. omega arith)) in omega arith)
    (λ ne. let a = same n (λ z. ne (sym z)) in let b = sum_one_other f g i n (omega arith) same in omega arith)

-- The way of a search: the rank grows along it, so it meets no slot twice.

falls_by : (rank to : ℕ → ℕ) (s : ℕ) (before : List ℕ)
    → ((a b : ℕ) → IsIn (s ∷ before) a → IsIn (s ∷ before) b → rank a < rank b → to a < to b) → Falls rank s before → Falls to s before
falls_by rank to s [] grows f = tt
falls_by rank to s (q ∷ before) grows f = (
  grows q s (suc zero, refl) (zero, refl) f.0,
  falls_by rank to q before (λ a b x y. grows a b (suc x.0, x.1) (suc y.0, y.1)) f.1,
)

-- a way stays one where the ranks of its slots stay in order
pub way_by : (g to : Chart) (r : Reading)
    → ((a b : ℕ) → IsIn r.stood a → IsIn r.stood b → g.rank a < g.rank b → to.rank a < to.rank b) → IsWay g r → IsWay to r
way_by g to r grows w = record {
  before = w.before;
  stood = w.stood;
  falls = falls_by g.rank to.rank (last_stood r.walk (state_slot r.state)) w.before
      (λ a b x y. grows a b (subst (λ l. IsIn l a) (sym w.stood) x) (subst (λ l. IsIn l b) (sym w.stood) y)) w.falls;
}

pub way_same : (g to : Chart) (r : Reading) → ((s : ℕ) → IsIn r.stood s → to.rank s ≡ g.rank s) → IsWay g r → IsWay to r
way_same g to r same = way_by g to r (λ a b x y lt. omega (arith, lt, same a x, same b y))

abbrev one_if : Bool → ℕ
one_if z = cond z 1 0

one_most : (z : Bool) → one_if z ≤ 1
one_most true = omega arith
one_most false = omega arith

falls_none : (rank : ℕ → ℕ) (s x : ℕ) (before : List ℕ) → rank s ≤ rank x → Falls rank s before → times x before ≡ 0
falls_none rank s x [] le f = refl
falls_none rank s x (q ∷ before) le f =
    let lt = f.0 in
    let other = ap one_if (ne_eqb q x (λ e. (let same = ap rank e in absurd (omega (arith, lt, le, same))))) in
    let rest = falls_none rank q x before (omega (arith, lt, le)) f.1 in
    omega (arith, other, rest)

falls_once : (rank : ℕ → ℕ) (s x : ℕ) (before : List ℕ) → Falls rank s before → times x (s ∷ before) ≤ 1
falls_once rank s x [] f = let one = one_most (s == x) in omega (arith, one)
falls_once rank s x (q ∷ before) f = higher (falls_once rank q x before f.1)
  where
    higher : times x (q ∷ before) ≤ 1 → times x (s ∷ q ∷ before) ≤ 1
    higher rest = ⊎_elim
        (λ (lt : rank x < rank s). (let other = ap one_if (ne_eqb s x (λ e. (let same = ap rank e in absurd (omega (arith, lt, same))))) in
        omega (arith, other, rest)))
        (λ le. (let none = falls_none rank s x (q ∷ before) le f in let one = one_most (s == x) in omega (arith, none, one)))
        (cases_lt (rank x) (rank s))

-- on a way no slot stands twice
pub way_once : (g : Chart) (r : Reading) (x : ℕ) → IsWay g r → times x r.stood ≤ 1
way_once g r x w = subst (λ l. times x l ≤ 1) (sym w.stood) (falls_once g.rank (last_stood r.walk (state_slot r.state)) x w.before w.falls)

-- a number that is counted in a list stands in it
pub in_times : (x : ℕ) (xs : List ℕ) → 1 ≤ times x xs → IsIn xs x
in_times x [] one = absurd (omega (arith, one))
in_times x (y ∷ ys) one = ⊎_elim (λ (same : y ≡ x). (0, ap some same)) (λ ne.
    let rest = in_times x ys (let h = ap flag (ne_eqb y x ne) in omega (arith, one, h)) in (suc rest.0, rest.1)) (cases_eq y x)

sum_few : (f : ℕ → ℕ) (n : ℕ) → ((s : ℕ) → f s ≤ 1) → sum_below f n ≤ n
sum_few f zero few = omega arith
sum_few f (suc n) few = let a = few n in let b = sum_few f n few in omega (arith, a, b)

-- numbers below another, each once, are at most as many
pub few_below : (xs : List ℕ) (n : ℕ) → ((x : ℕ) → 1 ≤ times x xs → x < n) → ((x : ℕ) → times x xs ≤ 1) → length xs ≤ n
few_below xs n below once = let a = times_sum xs n below in let b = sum_few (λ x. times x xs) n once in omega (arith, a, b)

-- so a way is no longer than there are slots
pub way_short : (g : Chart) (r : Reading) (n : ℕ) → IsWay g r → ((s : ℕ) → IsIn r.stood s → s < n) → length r.stood ≤ n
way_short g r n w below = few_below r.stood n (λ x one. below x (in_times x r.stood one)) (λ x. way_once g r x w)

-- A view that holds locks: what one step of a turn asks of it, and what it makes of it.
use Rattle.std.proofs.Common.{◌≡◌, ◌≢◌, ℕ, cond, List, [], ◌∷◌, Some, None, refl, sym, ap, ◌∙◌, ⊎_elim, eq-eqb, ne_eqb, ◌+◌, true, ◌++◌, Option, append_assoc, append-nil, ◌<◌, false, length, subst, ◌&&◌, Bool, inl, inr}
use Rattle.std.proofs.lemmas.Bool.{cases_eq}
use Rattle.core_state.specs.declared.shape.Shape.{Shape}
use Rattle.core_state.specs.declared.view.HeldLock.{HeldLock}
use Rattle.core_state.specs.declared.view.Known.{Known}
use Rattle.core_state.specs.Views.{lock_of, change_lock, without_lock, note_lock, note_option, note_moving, HasLock, IsLoadable, known_in, loaded_in}
use Rattle.tree_turn.specs.declared.turn.Turn.{Turn}
use Rattle.tree_turn.specs.Turns.{AreThree, knowing, locking, unlocking, loading, filling, marking, loaded, filled, learning, adding, IsHeldSlot, node_loads, node_known, IsAside, HasLoaded, HasFilled}
use Rattle.core_state.specs.declared.words.Field.TheVariants.{Life, Key, Value, Link}
use Rattle.core_state.specs.declared.view.Held.{Held}
use Rattle.core_state.specs.declared.view.Move.{Move}
use Rattle.core_state.specs.declared.view.StepMade.{StepMade}
use Rattle.core_state.specs.declared.view.Trail.{Trail}
use Rattle.core_state.specs.declared.view.View.{View}
use Rattle.core_state.specs.Links.{with_mark, IsContent, IsInHand, IsSpare}
use Rattle.core_state.specs.Steps.{new_lock, after_lock, IsNoEnd}
use Rattle.core_state.specs.declared.act.Part.{Part}
use Rattle.core_state.specs.declared.act.Act.TheVariants.{Lock, Unlock, LockedLoad, Fill, Mark}
use Rattle.core_state.specs.Acts.{in_slot, noted}
use Rattle.seat_table.specs.Gains.{Told, TellsNow, IsAsked}
use Rattle.seat_table.proofs.SeveralSteps.{goes_from}
use Rattle.core_state.specs.Memory.{slot_count, same_field, same_side, across}
use Rattle.core_laws.proofs.Acting.{part_word}
use Rattle.prcu_marks.specs.declared.mark.Side.{Side}
use Rattle.prcu_marks.specs.declared.mark.Side.TheVariants.{Left, Right}
use Rattle.core_state.specs.declared.words.Field.{Field}
use Rattle.core_frames.proofs.Views.{same_self}
use Rattle.tree_turn.specs.declared.turn.Content.{Content}
use Rattle.tree_turn.specs.declared.turn.NodeWords.{NodeWords}

-- The locks that a view holds: one is found, changed or given up.

pub lock_first : (s : ℕ) (l : HeldLock) (ls : List HeldLock) → l.slot ≡ s → lock_of (l ∷ ls) s ≡ Some l
lock_first s l ls e = ap (λ b. cond b (Some l) (lock_of ls s)) (eq-eqb l.slot s e)

pub lock_next : (s : ℕ) (l : HeldLock) (ls : List HeldLock) → l.slot ≢ s → lock_of (l ∷ ls) s ≡ lock_of ls s
lock_next s l ls ne = ap (λ b. cond b (Some l) (lock_of ls s)) (ne_eqb l.slot s ne)

change_first : (s : ℕ) (f : HeldLock → HeldLock) (l : HeldLock) (ls : List HeldLock) → l.slot ≡ s
    → change_lock s f (l ∷ ls) ≡ f l ∷ change_lock s f ls
change_first s f l ls e = ap (λ b. cond b (f l) l ∷ change_lock s f ls) (eq-eqb l.slot s e)

change_next : (s : ℕ) (f : HeldLock → HeldLock) (l : HeldLock) (ls : List HeldLock) → l.slot ≢ s
    → change_lock s f (l ∷ ls) ≡ l ∷ change_lock s f ls
change_next s f l ls ne = ap (λ b. cond b (f l) l ∷ change_lock s f ls) (ne_eqb l.slot s ne)

pub without_first : (s : ℕ) (l : HeldLock) (ls : List HeldLock) → l.slot ≡ s → without_lock s (l ∷ ls) ≡ without_lock s ls
without_first s l ls e = ap (λ b. cond b (without_lock s ls) (l ∷ without_lock s ls)) (eq-eqb l.slot s e)

pub without_next : (s : ℕ) (l : HeldLock) (ls : List HeldLock) → l.slot ≢ s → without_lock s (l ∷ ls) ≡ l ∷ without_lock s ls
without_next s l ls ne = ap (λ b. cond b (without_lock s ls) (l ∷ without_lock s ls)) (ne_eqb l.slot s ne)

-- a lock that isn't held is changed nowhere
pub change_none : (s : ℕ) (f : HeldLock → HeldLock) (ls : List HeldLock) → lock_of ls s ≡ None → change_lock s f ls ≡ ls
change_none s f [] e = refl
change_none s f (l ∷ ls) e = ⊎_elim
    (λ (here : l.slot ≡ s). absurd (let q : Some l ≡ None = sym (lock_first s l ls here) ∙ e in cc))
    (λ (ne : l.slot ≢ s). change_next s f l ls ne ∙ ap (λ z. l ∷ z) (change_none s f ls (sym (lock_next s l ls ne) ∙ e)))
    (cases_eq l.slot s)

-- one that is held stays so, with what is known more
pub lock_knowing : (s : ℕ) (known : List Known) (ls : List HeldLock) (found : HeldLock) → lock_of ls s ≡ Some found
    → lock_of (change_lock s (knowing known) ls) s ≡ Some (knowing known found)
lock_knowing s known [] found e = absurd (let q : None ≡ Some found = e in cc)
lock_knowing s known (l ∷ ls) found e = ⊎_elim
    (λ (here : l.slot ≡ s).
    let same : Some l ≡ Some found = sym (lock_first s l ls here) ∙ e in
    ap (λ z. lock_of z s) (change_first s (knowing known) l ls here)
    ∙ lock_first s (knowing known l) (change_lock s (knowing known) ls) here
    ∙ ap (λ (z : HeldLock). Some (knowing known z)) (let q : l ≡ found = cc in q))
    (λ (ne : l.slot ≢ s).
    ap (λ z. lock_of z s) (change_next s (knowing known) l ls ne)
    ∙ lock_next s l (change_lock s (knowing known) ls) ne
    ∙ lock_knowing s known ls found (sym (lock_next s l ls ne) ∙ e))
    (cases_eq l.slot s)

-- one note more under a lock
pub note_knowing : (s : ℕ) (k : Known) (known : List Known) (ls : List HeldLock)
    → change_lock s (note_lock k) (change_lock s (knowing known) ls) ≡ change_lock s (knowing (k ∷ known)) ls
note_knowing s k known [] = refl
note_knowing s k known (l ∷ ls) = ⊎_elim
    (λ (here : l.slot ≡ s).
    ap (change_lock s (note_lock k)) (change_first s (knowing known) l ls here)
    ∙ change_first s (note_lock k) (knowing known l) (change_lock s (knowing known) ls) here
    ∙ ap (λ z. knowing (k ∷ known) l ∷ z) (note_knowing s k known ls)
    ∙ sym (change_first s (knowing (k ∷ known)) l ls here))
    (λ (ne : l.slot ≢ s).
    ap (change_lock s (note_lock k)) (change_next s (knowing known) l ls ne)
    ∙ change_next s (note_lock k) l (change_lock s (knowing known) ls) ne
    ∙ ap (λ z. l ∷ z) (note_knowing s k known ls)
    ∙ sym (change_next s (knowing (k ∷ known)) l ls ne))
    (cases_eq l.slot s)

-- The three locks of a turn.
module _ {k : Shape} (t : Turn) (three : AreThree k t) (y x p : HeldLock) (ys : y.slot ≡ t.child) (xs : x.slot ≡ t.node)
    (ps : p.slot ≡ t.parent) where
  abbrev all : List HeldLock
  all = y ∷ (x ∷ (p ∷ []))

  node_no_child : x.slot ≢ t.child
  node_no_child e = three.child_apart (sym e ∙ xs)

  child_no_node : y.slot ≢ t.node
  child_no_node e = three.child_apart (sym ys ∙ e)

  child_no_parent : y.slot ≢ t.parent
  child_no_parent e = three.child_off (sym ys ∙ e)

  parent_no_child : p.slot ≢ t.child
  parent_no_child e = three.child_off (sym e ∙ ps)

  node_no_parent : x.slot ≢ t.parent
  node_no_parent e = three.node_apart (sym xs ∙ e)

  parent_no_node : p.slot ≢ t.node
  parent_no_node e = three.node_apart (sym e ∙ ps)

  pub lock_child : lock_of all t.child ≡ Some y
  lock_child = lock_first t.child y (x ∷ (p ∷ [])) ys

  pub lock_node : lock_of all t.node ≡ Some x
  lock_node = lock_next t.node y (x ∷ (p ∷ [])) child_no_node ∙ lock_first t.node x (p ∷ []) xs

  pub lock_parent : lock_of all t.parent ≡ Some p
  lock_parent = lock_next t.parent y (x ∷ (p ∷ [])) child_no_parent ∙ lock_next t.parent x (p ∷ []) node_no_parent
      ∙ lock_first t.parent p [] ps

  -- another slot isn't locked
  pub lock_other : (s : ℕ) → s ≢ t.parent → s ≢ t.node → s ≢ t.child → lock_of all s ≡ None
  lock_other s a b c = lock_next s y (x ∷ (p ∷ [])) (λ e. c (sym e ∙ ys)) ∙ lock_next s x (p ∷ []) (λ e. b (sym e ∙ xs))
      ∙ lock_next s p [] (λ e. a (sym e ∙ ps))

  pub change_child : (f : HeldLock → HeldLock) → change_lock t.child f all ≡ f y ∷ (x ∷ (p ∷ []))
  change_child f = change_first t.child f y (x ∷ (p ∷ [])) ys
      ∙ ap (λ z. f y ∷ z) (change_next t.child f x (p ∷ []) node_no_child)
      ∙ ap (λ z. f y ∷ (x ∷ z)) (change_next t.child f p [] parent_no_child)

  pub change_node : (f : HeldLock → HeldLock) → change_lock t.node f all ≡ y ∷ (f x ∷ (p ∷ []))
  change_node f = change_next t.node f y (x ∷ (p ∷ [])) child_no_node
      ∙ ap (λ z. y ∷ z) (change_first t.node f x (p ∷ []) xs)
      ∙ ap (λ z. y ∷ (f x ∷ z)) (change_next t.node f p [] parent_no_node)

  pub change_parent : (f : HeldLock → HeldLock) → change_lock t.parent f all ≡ y ∷ (x ∷ (f p ∷ []))
  change_parent f = change_next t.parent f y (x ∷ (p ∷ [])) child_no_parent
      ∙ ap (λ z. y ∷ z) (change_next t.parent f x (p ∷ []) node_no_parent)
      ∙ ap (λ z. y ∷ (x ∷ z)) (change_first t.parent f p [] ps)

  -- they are given up one after another
  pub without_child : without_lock t.child all ≡ x ∷ (p ∷ [])
  without_child = without_first t.child y (x ∷ (p ∷ [])) ys ∙ without_next t.child x (p ∷ []) node_no_child
      ∙ ap (λ z. x ∷ z) (without_next t.child p [] parent_no_child)

  pub without_node : without_lock t.node (x ∷ (p ∷ [])) ≡ p ∷ []
  without_node = without_first t.node x (p ∷ []) xs ∙ without_next t.node p [] parent_no_node

  pub without_parent : without_lock t.parent (p ∷ []) ≡ []
  without_parent = without_first t.parent p [] ps

-- A view with other locks, slots and further steps: what one step more makes of it.

abbrev pub standing : View → List HeldLock → Option Held → Option Held → List StepMade → View
standing v locks hand spare steps = record v {
  locks = locks;
  hands = record v.hands { hand = hand; spare = spare };
  trail = adding v.trail steps;
}

-- where the view stands
pub record Stands (v : View) (locks : List HeldLock) (hand spare : Option Held) (steps : List StepMade) (u : View) : Type 0 where
  pub is : u ≡ standing v locks hand spare steps

-- at first
pub stands_first : (v : View) (locks : List HeldLock) → v.locks ≡ locks → Stands v locks v.hands.hand v.hands.spare [] v
stands_first v locks e = record {
  is = λ i. record v { locks = e i; trail = record v.trail { steps = sym (append-nil v.trail.steps) i } };
}

pub steps_both : (a : Trail) (s t : List StepMade) → adding (adding a s) t ≡ adding a (s ++ t)
steps_both a s t = λ i. record a { steps = append_assoc a.steps s t i }

-- the slot isn't this one
abbrev pub IsOff : ℕ → Option Held → Type 0
IsOff slot o = (held : Held) → o ≡ Some held → held.slot ≢ slot

note_off : (slot : ℕ) (known : Known) (o : Option Held) → IsOff slot o → note_option slot known o ≡ o
note_off slot known None off = refl
note_off slot known (Some held) off =
    ap (λ b. Some (cond b (record held { known = known ∷ held.known }) held)) (ne_eqb held.slot slot (off held refl))

-- one note more of a slot in hand or spare
pub note_learning : (slot : ℕ) (k : Known) (known : List Known) (o : Option Held)
    → note_option slot k (learning slot known o) ≡ learning slot (k ∷ known) o
note_learning slot k known None = refl
note_learning slot k known (Some held) =
    let more : Held = record held { known = known ++ held.known } in
    let most : Held = record held { known = k ∷ (known ++ held.known) } in
    ⊎_elim
    (λ (e : held.slot ≡ slot).
    ap (λ b. note_option slot k (Some (cond b more held))) (eq-eqb held.slot slot e)
    ∙ ap (λ b. Some (cond b most more)) (eq-eqb held.slot slot e)
    ∙ sym (ap (λ b. Some (cond b most held)) (eq-eqb held.slot slot e)))
    (λ (ne : held.slot ≢ slot).
    ap (λ b. note_option slot k (Some (cond b more held))) (ne_eqb held.slot slot ne)
    ∙ ap (λ b. Some (cond b (record held { known = k ∷ held.known }) held)) (ne_eqb held.slot slot ne)
    ∙ sym (ap (λ b. Some (cond b most held)) (ne_eqb held.slot slot ne)))
    (cases_eq held.slot slot)

pub learning_here : (slot : ℕ) (known : List Known) (held : Held) → held.slot ≡ slot
    → learning slot known (Some held) ≡ Some (record held { known = known ++ held.known })
learning_here slot known held e = ap (λ b. Some (cond b (record held { known = known ++ held.known }) held)) (eq-eqb held.slot slot e)

pub learning_off : (slot : ℕ) (known : List Known) (held : Held) → held.slot ≢ slot → learning slot known (Some held) ≡ Some held
learning_off slot known held ne = ap (λ b. Some (cond b (record held { known = known ++ held.known }) held)) (ne_eqb held.slot slot ne)

pub settles : (v : View) → v.moving ≡ None → (s : ℕ) (known : Known) → note_moving s known v.moving ≡ v.moving
settles v settled s known = ap (λ (m : Option Move). note_moving s known m) settled ∙ sym settled

module _ {k : Shape} {v : View} {locks : List HeldLock} {hand spare : Option Held} {steps : List StepMade} {u w : View}
    (st : Stands v locks hand spare steps u) where
  -- a load under a lock
  pub loads_on : v.moving ≡ None → (s : ℕ) (p : Part) (n : ℕ) → IsOff s hand → IsOff s spare → Told k u (LockedLoad s p) n w
      → Stands v (change_lock s (note_lock (loaded (in_slot s p) n)) locks) hand spare (steps ++ loading (in_slot s p) n ∷ []) w
  loads_on settled s p n a b told = record {
    is =
        let kn : Known = loaded (in_slot s p) n in
        goes_from st.is told ∙ (λ i. record v {
          locks = change_lock s (note_lock kn) locks;
          hands = record v.hands { hand = note_off s kn hand a i; spare = note_off s kn spare b i };
          moving = settles v settled s kn i;
          trail = steps_both v.trail steps (loading (in_slot s p) n ∷ []) i;
        });
  }

  -- a store in a slot that isn't locked
  pub fills_on : v.moving ≡ None → (s : ℕ) (p : Part) (n : ℕ) → lock_of locks s ≡ None → Told k u (Fill s p n) n w
      → Stands v locks (note_option s (filled (in_slot s p) n) hand) (note_option s (filled (in_slot s p) n) spare)
      (steps ++ filling (in_slot s p) n ∷ []) w
  fills_on settled s p n free told = record {
    is =
        let kn : Known = filled (in_slot s p) n in
        goes_from st.is told ∙ (λ i. record v {
          locks = change_none s (note_lock kn) locks free i;
          hands = record v.hands { hand = note_option s kn hand; spare = note_option s kn spare };
          moving = settles v settled s kn i;
          trail = steps_both v.trail steps (filling (in_slot s p) n ∷ []) i;
        });
  }

  -- a node is marked
  pub marks_on : v.moving ≡ None → (s life : ℕ) → IsOff s hand → IsOff s spare → Told k u (Mark s life) (life + 1) w
      → Stands v (change_lock s (with_mark true) (change_lock s (note_lock (filled (Life s) (life + 1))) locks)) hand spare
      (steps ++ marking s life ∷ []) w
  marks_on settled s life a b told = record {
    is =
        let kn : Known = filled (Life s) (life + 1) in
        goes_from st.is told ∙ (λ i. record v {
          locks = change_lock s (with_mark true) (change_lock s (note_lock kn) locks);
          hands = record v.hands { hand = note_off s kn hand a i; spare = note_off s kn spare b i };
          moving = settles v settled s kn i;
          trail = steps_both v.trail steps (marking s life ∷ []) i;
        });
  }

  -- a lock is got, found taken, or given up
  pub locks_on : (s found : ℕ) → found ≡ 0 → Told k u (Lock s) found w
      → Stands v (new_lock s ∷ locks) hand spare (steps ++ locking s 0 ∷ []) w
  locks_on s found none told = record {
    is =
        goes_from st.is told ∙ ap (λ n. after_lock (noted (standing v locks hand spare steps) (Lock s) n) s n) none ∙ (λ i. record v {
          locks = new_lock s ∷ locks;
          hands = record v.hands { hand = hand; spare = spare };
          trail = steps_both v.trail steps (locking s 0 ∷ []) i;
        });
  }

  pub misses_on : (s found : ℕ) → found ≢ 0 → Told k u (Lock s) found w → Stands v locks hand spare (steps ++ locking s found ∷ []) w
  misses_on s found some told = record {
    is =
        let x : View = noted (standing v locks hand spare steps) (Lock s) found in
        goes_from st.is told ∙ ap (λ b. cond b (record x { locks = new_lock s ∷ x.locks }) x) (ne_eqb found 0 some) ∙ (λ i. record v {
          locks = locks;
          hands = record v.hands { hand = hand; spare = spare };
          trail = steps_both v.trail steps (locking s found ∷ []) i;
        });
  }

  pub unlocks_on : (s : ℕ) (left : List HeldLock) → without_lock s locks ≡ left → Told k u (Unlock s) 0 w
      → Stands v left hand spare (steps ++ unlocking s ∷ []) w
  unlocks_on s left e told = record {
    is =
        goes_from st.is told ∙ (λ i. record v {
          locks = e i;
          hands = record v.hands { hand = hand; spare = spare };
          trail = steps_both v.trail steps (unlocking s ∷ []) i;
        });
  }

-- What the steps of a turn ask, of a view that stands somewhere.

pub asks_load : {k : Shape} {u : View} (s : ℕ) (p : Part) → HasLock u s → IsLoadable s (in_slot s p) → IsAsked k u (LockedLoad s p)
asks_load {k} s p has loadable = λ told. (
  part_word k s p (told.tells.locks_within s has),
  record { held = has; loadable = loadable },
)

-- a slot in hand or spare is the table's
held_inside : (k : Shape) (u : View) (s : ℕ) → IsHeldSlot u s → TellsNow k u → s < slot_count k
held_inside k u s (held, holder) told = ⊎_elim
    (λ (h : IsInHand u held s). subst (λ x. x < slot_count k) h.1 (told.tells.hand_within held h.0))
    (λ (h : IsSpare u held s). subst (λ x. x < slot_count k) h.1 (told.tells.spare_within held h.0)) holder

pub asks_fill : {k : Shape} {u : View} (s : ℕ) (p : Part) (n : ℕ) → IsHeldSlot u s → IsContent s (in_slot s p) → IsAsked k u (Fill s p n)
asks_fill {k} {u} s p n holds content = λ told. (
  part_word k s p (held_inside k u s holds told),
  (holds.0, record { holder = holds.1; content = content }),
)

pub lock_there : {v : View} {locks : List HeldLock} {hand spare : Option Held} {steps : List StepMade} {u : View}
    → Stands v locks hand spare steps u → (s : ℕ) (lock : HeldLock) → lock_of locks s ≡ Some lock → lock_of u.locks s ≡ Some lock
lock_there st s lock held = ap (λ (z : View). lock_of z.locks s) st.is ∙ held

module _ {k : Shape} {v : View} {locks : List HeldLock} {hand spare : Option Held} {steps : List StepMade} {u : View}
    (st : Stands v locks hand spare steps u) where
  pub asks_lock : (s : ℕ) → v.section ≡ None → length locks < 5 → s < slot_count k → IsAsked k u (Lock s)
  asks_lock s outside few inside = λ told. (
    inside,
    record {
      outside = ap (λ (z : View). z.section) st.is ∙ outside;
      few = subst (λ (z : View). length z.locks < 5) (sym st.is) few;
    },
  )

  pub asks_unlock : v.moving ≡ None → (s : ℕ) (lock : HeldLock) → lock_of locks s ≡ Some lock → lock.left_emptied ≡ false
      → lock.right_emptied ≡ false → lock.marked ≡ false → IsAsked k u (Unlock s)
  asks_unlock settled s lock held left right unmarked = λ told. (
    told.tells.locks_within s (lock, lock_there st s lock held),
    record {
      lock = lock;
      held = lock_there st s lock held;
      no_end = subst (IsNoEnd s) (sym (ap (λ (z : View). z.moving) st.is ∙ settled)) tt;
      left = left;
      right = right;
      unmarked = unmarked;
    },
  )

-- What is known of the words of a node: each word that was loaded or stored is found among them.

-- the latest word
pub known_first : (field : Field) (n : ℕ) (by_store : Bool) (rest : List Known)
    → known_in (record { field = field; number = n; stored = by_store } ∷ rest) field ≡ Some n
known_first field n by_store rest = ap (λ b. cond b (Some n) (known_in rest field)) (same_self field)

pub loaded_first : (field : Field) (n : ℕ) (rest : List Known) → loaded_in (loaded field n ∷ rest) field ≡ Some n
loaded_first field n rest = ap (λ b. cond b (Some n) (loaded_in rest field)) (same_self field)

-- the link on the other side is another word
sides_differ : (turn : Side) → same_side (across turn) turn ≡ false
sides_differ Left = refl
sides_differ Right = refl

links_differ : (s : ℕ) (turn : Side) → same_field (Link s (across turn)) (Link s turn) ≡ false
links_differ s turn = ap (λ b. b && same_side (across turn) turn) (eq-eqb s s refl) ∙ sides_differ turn

module _ (s : ℕ) (turn : Side) (key value turn_link other_link : ℕ) (by_store : Bool) (rest : List Known) where
  abbrev four : List Known
  four = record { field = Link s (across turn); number = other_link; stored = by_store }
      ∷ (record { field = Link s turn; number = turn_link; stored = by_store }
      ∷ (record { field = Value s; number = value; stored = by_store }
      ∷ (record { field = Key s; number = key; stored = by_store } ∷ rest)))

  pub other_known : known_in four (Link s (across turn)) ≡ Some other_link
  other_known = ap (λ b. cond b (Some other_link) (cond (same_field (Link s turn) (Link s (across turn))) (Some turn_link)
      (known_in rest (Link s (across turn))))) (same_self (Link s (across turn)))

  pub turn_known : known_in four (Link s turn) ≡ Some turn_link
  turn_known = ap (λ b. cond b (Some other_link) (cond (same_field (Link s turn) (Link s turn)) (Some turn_link)
      (known_in rest (Link s turn)))) (links_differ s turn)
      ∙ ap (λ b. cond b (Some turn_link) (known_in rest (Link s turn))) (same_self (Link s turn))

  pub value_known : known_in four (Value s) ≡ Some value
  value_known = ap (λ b. cond b (Some value) (known_in rest (Value s))) (same_self (Value s))

  pub key_known : known_in four (Key s) ≡ Some key
  key_known = ap (λ b. cond b (Some key) (known_in rest (Key s))) (same_self (Key s))

-- Loads of one slot under its lock, one after another; and stores in a slot that is in hand or the spare.

-- words of a slot were loaded
pub record Reads (v : View) (s : ℕ) (known : List Known) (steps : List StepMade) (u : View) : Type 0 where
  pub stands : Stands v (change_lock s (knowing known) v.locks) v.hands.hand v.hands.spare steps u

module _ {k : Shape} {v : View} {s : ℕ} (settled : v.moving ≡ None) (aside : IsAside v s) where
  pub reads_first : {w : View} (p : Part) (n : ℕ) → Told k v (LockedLoad s p) n w
      → Reads v s (loaded (in_slot s p) n ∷ []) (loading (in_slot s p) n ∷ []) w
  reads_first p n told = record {
    stands = loads_on (stands_first v v.locks refl) settled s p n aside.not_hand aside.not_spare told;
  }

  pub reads_more : {known : List Known} {steps : List StepMade} {u w : View} → Reads v s known steps u → (p : Part) (n : ℕ)
      → Told k u (LockedLoad s p) n w → Reads v s (loaded (in_slot s p) n ∷ known) (steps ++ loading (in_slot s p) n ∷ []) w
  reads_more {known} {steps} {u} {w} reads p n told =
      let more = loads_on reads.stands settled s p n aside.not_hand aside.not_spare told in
      record {
        stands = record {
          is = more.is ∙ ap (λ ls. standing v ls v.hands.hand v.hands.spare (steps ++ loading (in_slot s p) n ∷ []))
              (note_knowing s (loaded (in_slot s p) n) known v.locks);
        };
      }

-- the lock is still held
pub still_locked : {v : View} {s : ℕ} {known : List Known} {steps : List StepMade} {u : View} → HasLock v s → Reads v s known steps u
    → HasLock u s
still_locked {v} {s} {known} has reads = (
  knowing known has.0,
  ap (λ (z : View). lock_of z.locks s) reads.stands.is ∙ lock_knowing s known v.locks has.0 has.1,
)

pub asks_next : {k : Shape} {v : View} {s : ℕ} {known : List Known} {steps : List StepMade} {u : View} → HasLock v s
    → Reads v s known steps u → (p : Part) → IsLoadable s (in_slot s p) → IsAsked k u (LockedLoad s p)
asks_next {s = s} has reads p loadable = asks_load s p (still_locked has reads) loadable

-- words of a slot were stored
pub record Fills (v : View) (s : ℕ) (known : List Known) (steps : List StepMade) (u : View) : Type 0 where
  pub stands : Stands v v.locks (learning s known v.hands.hand) (learning s known v.hands.spare) steps u

learning_first : (s : ℕ) (k : Known) (o : Option Held) → note_option s k o ≡ learning s (k ∷ []) o
learning_first s k None = refl
learning_first s k (Some held) = refl

module _ {k : Shape} {v : View} {s : ℕ} (settled : v.moving ≡ None) (free : lock_of v.locks s ≡ None) where
  pub fills_first : {w : View} (p : Part) (n : ℕ) → Told k v (Fill s p n) n w
      → Fills v s (filled (in_slot s p) n ∷ []) (filling (in_slot s p) n ∷ []) w
  fills_first {w} p n told =
      let more = fills_on (stands_first v v.locks refl) settled s p n free told in
      let kn : Known = filled (in_slot s p) n in
      record {
        stands = record {
          is = more.is ∙ (λ i. standing v v.locks (learning_first s kn v.hands.hand i) (learning_first s kn v.hands.spare i)
              (filling (in_slot s p) n ∷ []));
        };
      }

  pub fills_more : {known : List Known} {steps : List StepMade} {u w : View} → Fills v s known steps u → (p : Part) (n : ℕ)
      → Told k u (Fill s p n) n w → Fills v s (filled (in_slot s p) n ∷ known) (steps ++ filling (in_slot s p) n ∷ []) w
  fills_more {known} {steps} {u} {w} fills p n told =
      let more = fills_on fills.stands settled s p n free told in
      let kn : Known = filled (in_slot s p) n in
      record {
        stands = record {
          is = more.is ∙ (λ i. standing v v.locks (note_learning s kn known v.hands.hand i) (note_learning s kn known v.hands.spare i)
              (steps ++ filling (in_slot s p) n ∷ []));
        };
      }

-- the slot is still in hand or the spare
pub still_held : {v : View} {s : ℕ} {known : List Known} {steps : List StepMade} {u : View} → IsHeldSlot v s → Fills v s known steps u
    → IsHeldSlot u s
still_held {v} {s} {known} (held, holder) fills = (
  record held { known = known ++ held.known },
  ⊎_elim
      (λ (h : IsInHand v held s). inl (
        ap (λ (z : View). z.hands.hand) fills.stands.is ∙ ap (learning s known) h.0
            ∙ learning_here s known held h.1,
        h.1,
      ))
      (λ (h : IsSpare v held s). inr (
        ap (λ (z : View). z.hands.spare) fills.stands.is ∙ ap (learning s known) h.0
            ∙ learning_here s known held h.1,
        h.1,
      ))
      holder,
)

pub asks_fill_next : {k : Shape} {v : View} {s : ℕ} {known : List Known} {steps : List StepMade} {u : View} → IsHeldSlot v s
    → Fills v s known steps u → (p : Part) (n : ℕ) → IsContent s (in_slot s p) → IsAsked k u (Fill s p n)
asks_fill_next {s = s} holds fills p n content = asks_fill s p n (still_held holds fills) content

-- all words of a node were loaded, and all of a new one stored
pub node_loaded : {v u : View} {s : ℕ} {turn other : Side} (n : NodeWords) → other ≡ across turn
    → Reads v s (loaded (Link s other) n.content.other_link ∷ (loaded (Link s turn) n.content.turn_link
    ∷ (loaded (Value s) n.content.value ∷ (loaded (Key s) n.content.key ∷ (loaded (Life s) n.life ∷ [])))))
    (loading (Life s) n.life ∷ (loading (Key s) n.content.key ∷ (loading (Value s) n.content.value
    ∷ (loading (Link s turn) n.content.turn_link ∷ (loading (Link s other) n.content.other_link ∷ []))))) u
    → HasLoaded v s (node_known s turn n) (node_loads s turn n) u
node_loaded {v} {u} {s} {turn} n e reads = subst (λ b. HasLoaded v s
    (loaded (Link s b) n.content.other_link ∷ (loaded (Link s turn) n.content.turn_link
    ∷ (loaded (Value s) n.content.value ∷ (loaded (Key s) n.content.key ∷ (loaded (Life s) n.life ∷ [])))))
    (loading (Life s) n.life ∷ (loading (Key s) n.content.key ∷ (loading (Value s) n.content.value
    ∷ (loading (Link s turn) n.content.turn_link ∷ (loading (Link s b) n.content.other_link ∷ []))))) u) e (reads.stands).is

pub all_filled : {v u : View} {s : ℕ} {turn other : Side} (c : Content) → other ≡ across turn
    → Fills v s (filled (Link s other) c.other_link ∷ (filled (Link s turn) c.turn_link ∷ (filled (Value s) c.value
    ∷ (filled (Key s) c.key ∷ []))))
    (filling (Key s) c.key ∷ (filling (Value s) c.value ∷ (filling (Link s turn) c.turn_link
    ∷ (filling (Link s other) c.other_link ∷ [])))) u
    → HasFilled v s turn c u
all_filled {v} {u} {s} {turn} {other} c e fills = (fills.stands).is ∙ (λ i. record v {
  hands = record v.hands {
    hand = learning s (filled (Link s (e i)) c.other_link ∷ (filled (Link s turn) c.turn_link ∷ (filled (Value s) c.value
        ∷ (filled (Key s) c.key ∷ [])))) v.hands.hand;
    spare = learning s (filled (Link s (e i)) c.other_link ∷ (filled (Link s turn) c.turn_link ∷ (filled (Value s) c.value
        ∷ (filled (Key s) c.key ∷ [])))) v.hands.spare;
  };
  trail = adding v.trail (filling (Key s) c.key ∷ (filling (Value s) c.value ∷ (filling (Link s turn) c.turn_link
      ∷ (filling (Link s (e i)) c.other_link ∷ []))));
})

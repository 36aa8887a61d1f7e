-- The locks of views: what their holders may count on, and what becomes of them where one changes.
use Rattle.std.proofs.Common.{◌≡◌, ℕ, ◌≤◌, ◌⊎◌, true, false, List, Some, None, sym, ap, subst, ◌∙◌, ⊎_elim, arith, ◌≢◌, ◌*◌, cond, [], ◌∷◌, Option, refl, inl, ◌+◌, inr, suc, ◌==◌, Bool, length, map, eq-eqb, ne_eqb}
use mathlib.Core.Logic.{dite}
use mathlib.Core.Option.{some, some-injective}
use native.Mathlib.Decide.{dec_le}
use lib.ListN.{get_elem?}
use Rattle.prcu_marks.specs.declared.mark.Mark.{Mark}
use Rattle.prcu_marks.specs.Marks.{gone_at}
use Rattle.core_state.specs.declared.shape.Shape.{Shape}
use Rattle.core_state.specs.declared.view.Move.{Move}
use Rattle.core_state.specs.declared.view.View.{View}
use Rattle.list_laws.specs.Counts.{times, IsIn}
use Rattle.core_state.specs.Memory.{Memory, slot_count, same_field, IsOdd, flag}
use Rattle.core_state.specs.Views.{lock_of, HasLock, Works, places_of, slots_of, known_in, loaded_in, known_of, known_under, LoadedGeneration, readings_of, is_emptied, with_emptied, change_lock, note_lock, emptied_among}
use Rattle.core_state.specs.Tree.{IsPending}
use Rattle.core_state.specs.Invariant.{HoldsNow}
use Rattle.core_frames.proofs.Roles.{works_there, places_apart, linked_none, gone_off, hand_own, spare_own}
use Rattle.core_state.specs.declared.words.Field.{Field}
use Rattle.core_state.specs.declared.words.Field.TheVariants.{Life}
use Rattle.core_state.specs.declared.view.HeldLock.{HeldLock}
use Rattle.core_state.specs.declared.view.Known.{Known}
use Rattle.core_state.specs.declared.view.Reading.{Reading}
use Rattle.core_frames.proofs.Charts.{bool_cases}
use Rattle.core_state.specs.declared.view.Held.{Held}
use Rattle.core_state.specs.declared.view.Section.{Section}
use Rattle.core_state.specs.Links.{IsMarkedNode, with_mark}
use Rattle.core_frames.proofs.WholeFrames.{Stepper}
use Rattle.std.proofs.lemmas.Bool.{cases_eq, eqb-true}
use Rattle.prcu_marks.specs.declared.mark.Side.{Side}
use Rattle.prcu_marks.specs.declared.mark.Side.TheVariants.{Left, Right}
use Rattle.list_laws.proofs.Lists.{somewhere_at}

-- A lock has one holder; and a linked slot is in nobody's hands.

module _ (k : Shape) (m : Memory) (vs : List View) (h : List Mark) (i : HoldsNow k m vs h) where
  -- who has a lock works at a place
  holds_works : (j : ℕ) (u : View) (s : ℕ) → get_elem? vs j ≡ some u → HasLock u s → Works u
  holds_works j u s e has =
      dite (dec_le 1 u.allowance.places) (λ w. w)
      (λ none. absurd (let spent = i.seats.spent j u e (omega arith) in
      let q : None ≡ Some has.0 = sym (ap (λ (z : View). lock_of z.locks s) spent) ∙ has.1 in cc))

  pub one_holder : (j l : ℕ) (u v : View) (s : ℕ) → get_elem? vs j ≡ some u → get_elem? vs l ≡ some v → HasLock u s → HasLock v s → j ≡ l
  one_holder j l u v s eu ev a b =
      let x = (i.locks.locked.held j u eu s a.0 a.1).0 in
      let y = (i.locks.locked.held l v ev s b.0 b.1).0 in
      let same : u.allowance.place ≡ v.allowance.place = omega arith in
      places_apart k.places vs i.seats.placed j l v.allowance.place u v eu ev
      (subst (λ p. 1 ≤ times p (places_of u)) same (works_there u (holds_works j u s eu a))) (works_there v (holds_works l v s ev b))

  -- a linked slot is nobody's, and isn't unlinked by the marks
  pub linked_apart : (s : ℕ) → i.chart.linked s ≡ true → (j : ℕ) (u : View) → get_elem? vs j ≡ some u → times s (slots_of u) ≡ 0
  linked_apart s l j u e = linked_none m (slot_count k) i.chart vs h i.slots j u e s l

  pub linked_stays : (s at : ℕ) → i.chart.linked s ≡ true → gone_at s h ≡ Some at → ⊥
  linked_stays s at l gone = absurd (let off = gone_off m (slot_count k) i.chart vs h i.slots s at gone in
      let q : true ≡ false = sym l ∙ off in cc)

  -- the view of a pending move has the locks of the copy, of the old successor and of its parent
  pub move_holder : (move : Move) (p : IsPending vs move) (l : ℕ) (v : View) (s : ℕ) → get_elem? vs l ≡ some v → HasLock v s
      → (move.copy.slot ≡ s) ⊎ ((move.old ≡ s) ⊎ (move.parent ≡ s)) → v.moving ≡ Some move
  move_holder move p l v s ev has which =
      let t = i.tree.moves.each p.id p.view p.there move p.has in
      let same : p.id ≡ l = one_holder p.id l p.view v s p.there ev
      (⊎_elim (λ (e : move.copy.slot ≡ s). subst (HasLock p.view) e t.copy_lock)
      (λ (o : (move.old ≡ s) ⊎ (move.parent ≡ s)). ⊎_elim (λ (e : move.old ≡ s). subst (HasLock p.view) e t.old_lock)
      (λ (e : move.parent ≡ s). subst (HasLock p.view) e t.parent_lock) o) which) has in
      somewhere_at vs l v ev p same

-- What a view that holds the lock of a slot knows: no other view holds it; and where the slot has a generation that the view keeps, it
-- is linked, and what was loaded under the lock is so.

-- what was loaded is known
pub loaded_known : (ls : List Known) (field : Field) (number : ℕ) → loaded_in ls field ≡ Some number → known_in ls field ≡ Some number
loaded_known [] field number e = e
loaded_known (l ∷ ls) field number e =
    elim (same_field l.field field) as (λ b. cond b (cond l.stored None (Some l.number)) (loaded_in ls field) ≡ Some number
    → cond b (Some l.number) (known_in ls field) ≡ Some number) [
      | true ↦ λ f. elim l.stored as (λ b. cond b None (Some l.number) ≡ Some number
          → Some l.number ≡ Some number) [ true ↦ λ g. absurd (cc) | false ↦ λ g. g ] f
      | false ↦ λ f. loaded_known ls field number f
    ] e

-- what is known of a slot is known under its lock
pub lock_under : (v : View) (s : ℕ) (field : Field) (number : ℕ) → known_in (known_under v s) field ≡ Some number
    → (lock : HeldLock) × (lock_of v.locks s ≡ Some lock) × (known_in lock.known field ≡ Some number)
lock_under v s field number e = cases (lock_of v.locks s) refl
  where
    cases : (o : Option HeldLock) → lock_of v.locks s ≡ o → (lock : HeldLock) × (o ≡ Some lock) × (known_in lock.known field ≡ Some number)
    cases None f = absurd (let q : None ≡ Some number = ap (λ o. known_in (known_of o) field) (sym f) ∙ e in cc)
    cases (Some lock) f = (lock, refl, ap (λ o. known_in (known_of o) field) (sym f) ∙ e)

pub under_lock : (v : View) (s : ℕ) (lock : HeldLock) (field : Field) (number : ℕ) → lock_of v.locks s ≡ Some lock
    → known_in (known_under v s) field ≡ Some number → known_in lock.known field ≡ Some number
under_lock v s lock field number is e = ap (λ o. known_in (known_of o) field) (sym is) ∙ e

module _ (k : Shape) (m : Memory) (vs : List View) (h : List Mark) (i : HoldsNow k m vs h) where
  module _ (id : ℕ) (v : View) (there : get_elem? vs id ≡ some v) where
    pub holds_alone : (s j : ℕ) (u : View) (x : HeldLock) → HasLock v s → get_elem? vs j ≡ some u → lock_of u.locks s ≡ Some x → j ≡ id
    holds_alone s j u x mine e is = one_holder k m vs h i j id u v s e there (x, is) mine

    -- A view with no move of its own holds the locks of no copy, old successor or its parent.
    pub no_end_of : v.moving ≡ None → (s : ℕ) → HasLock v s → (j : ℕ) (u : View) (move : Move) → get_elem? vs j ≡ some u
        → u.moving ≡ Some move → (move.copy.slot ≢ s) × (move.old ≢ s) × (move.parent ≢ s)
    no_end_of settled s mine j u move e is =
        let w = i.tree.moves.each j u e move is in (
          λ z. apart (subst (HasLock u) z w.copy_lock),
          λ z. apart (subst (HasLock u) z w.old_lock),
          λ z. apart (subst (HasLock u) z w.parent_lock),
        )
      where
        apart : HasLock u s → ⊥
        apart l =
            let same = holds_alone s j u l.0 mine e l.1 in
            let it : u ≡ v = some-injective u v (sym e ∙ subst (λ z. get_elem? vs z ≡ some v) (sym same) there) in
            absurd (let q : Some move ≡ None = sym is ∙ ap (λ (z : View). z.moving) it ∙ settled in cc)

    pub young_locked : v.moving ≡ None → (s : ℕ) → HasLock v s → i.chart.linked s ≡ true → i.chart.old s ≡ false
    young_locked settled s mine on = ⊎_elim
        (λ (o : i.chart.old s ≡ true). (let a = i.tree.moves.every s on o in
        absurd ((no_end_of settled s mine a.pending.id a.pending.view a.move a.pending.there a.pending.has).1 a.old)))
        (λ e. e) (bool_cases (i.chart.old s))

    -- A slot with the generation of a record, as it was last loaded or stored under the lock.
    pub record IsAlive (r : Reading) (s : ℕ) : Type 0 where
      pub generation : ℕ
      pub recorded : LoadedGeneration r s generation
      pub lock : HeldLock
      pub locked : lock_of v.locks s ≡ Some lock
      pub life : m (Life s) ≡ 2 * generation
      pub on : i.chart.linked s ≡ true

    pub alive : (r : Reading) (s generation : ℕ) → IsIn (readings_of v) r → LoadedGeneration r s generation
        → known_in (known_under v s) (Life s) ≡ Some (2 * generation) → IsAlive r s
    alive r s generation has recorded known =
        let l = lock_under v s (Life s) (2 * generation) known in
        let life : m (Life s) ≡ 2 * generation = (i.locks.known id v there s l.0 l.1).lives r generation has recorded l.2 in
        record {
          generation = generation;
          recorded = recorded;
          lock = l.0;
          locked = l.1;
          life = life;
          on = (i.locks.readings id v there has.0 r has.1).linked s recorded.0 recorded.1 (life ∙ ap (λ x. 2 * x) recorded.2);
        }

    pub alive_field : (r : Reading) (s : ℕ) → IsIn (readings_of v) r → IsAlive r s → (field : Field) (number : ℕ)
        → known_in (known_under v s) field ≡ Some number → m field ≡ number
    alive_field r s has a field number known =
        (i.locks.known id v there s a.lock a.locked).fields r a.generation number field has a.recorded (inl a.life)
        (under_lock v s a.lock field number a.locked known)

-- What the holder of a slot's lock may count on: it is in no section, no other view holds the lock, and where the slot is linked it is in
-- nobody's hands.

module _ (k : Shape) (m : Memory) (vs : List View) (h : List Mark) (i : HoldsNow k m vs h) where
  module _ (id : ℕ) (v : View) (there : get_elem? vs id ≡ some v) (slot : ℕ) (lock : HeldLock)
      (locked : lock_of v.locks slot ≡ Some lock) where
    pub lock_outside : v.section ≡ None
    lock_outside = cases v.section refl
      where
        cases : (o : Option Section) → v.section ≡ o → o ≡ None
        cases None e = refl
        cases (Some s) e = absurd (let none = ((i.locks.few id v there).outside s e).0 in
            let q : None ≡ Some lock = ap (λ ls. lock_of ls slot) (sym none) ∙ locked in cc)

    pub lock_alone : (j : ℕ) (u : View) → j ≢ id → get_elem? vs j ≡ some u → HasLock u slot → ⊥
    lock_alone j u ne e has = ne (holds_alone k m vs h i id v there slot j u has.0 (lock, locked) e has.1)

  module _ (slot : ℕ) (linked : i.chart.linked slot ≡ true) (j : ℕ) (u : View) (at : get_elem? vs j ≡ some u) where
    pub linked_nobody : times slot (slots_of u) ≡ 0
    linked_nobody = linked_none m (slot_count k) i.chart vs h i.slots j u at slot linked

    pub linked_hand : (x : Held) → u.hands.hand ≡ Some x → x.slot ≢ slot
    linked_hand x is same = absurd (let a = hand_own u x is in let c = linked_nobody in let d = ap (λ z. times z (slots_of u)) same in
        omega arith)

    pub linked_spare : (x : Held) → u.hands.spare ≡ Some x → x.slot ≢ slot
    linked_spare x is same = absurd (let a = spare_own u x is in let c = linked_nobody in let d = ap (λ z. times z (slots_of u)) same in
        omega arith)

-- A node that its view has marked, with the generation of a record: what it holds now.

module _ (who : Stepper) (r : Reading) (d : ℕ) (kept : IsIn (readings_of who.v) r) (marked : IsMarkedNode who.v r d) where
  open who use {m, id, v, there, inv, inv.{chart as g}}

  pub marked_lock : HasLock v d
  marked_lock = (marked.lock, marked.locked)

  pub marked_linked : (g.linked d ≡ true) × IsOdd (m (Life d))
  marked_linked = (inv.locks.kept id v there d marked.lock marked.locked).marked marked.marked

  pub marked_life : m (Life d) ≡ 2 * marked.generation + 1
  marked_life =
      let e = (inv.locks.known id v there d marked.lock marked.locked).marked_life marked.marked in
      let f : Some (m (Life d)) ≡ Some (2 * marked.generation + 1) = sym e ∙ marked.life in
      cc

  pub marked_field : (field : Field) (number : ℕ) → known_in (known_under v d) field ≡ Some number → m field ≡ number
  marked_field field number known =
      (inv.locks.known id v there d marked.lock marked.locked).fields r marked.generation number field kept marked.recorded
      (inr (marked_life, marked.marked)) (under_lock v d marked.lock field number marked.locked known)

  pub marked_some : d ≢ 0
  marked_some e = let a = marked_linked.1 in let c = inv.slots.root in let f = ap (λ s. m (Life s)) e in absurd (omega arith)

-- The locks of a view after one was changed, and after a link of one slot was stored and another slot was unlinked.

abbrev pub changed : (HeldLock → HeldLock) → Bool → Option HeldLock → Option HeldLock
changed f b None = None
changed f b (Some l) = Some (cond b (f l) l)

-- the lock of a slot after one lock was changed
module _ (s : ℕ) (f : HeldLock → HeldLock) (keep : (l : HeldLock) → (f l).slot ≡ l.slot) where
  one_slot : (x : HeldLock) (b : Bool) → (cond b (f x) x).slot ≡ x.slot
  one_slot x true = keep x
  one_slot x false = refl

  pub lock_of-change : (ls : List HeldLock) (t : ℕ) → lock_of (change_lock s f ls) t ≡ changed f (t == s) (lock_of ls t)
  lock_of-change [] t = refl
  lock_of-change (x ∷ ls) t =
      let y : HeldLock = cond (x.slot == s) (f x) x in
      let same : y.slot ≡ x.slot = one_slot x (x.slot == s) in
      ⊎_elim
      (λ (e : x.slot ≡ t). ap (λ b. cond b (Some y) (lock_of (change_lock s f ls) t)) (eq-eqb y.slot t (same ∙ e))
      ∙ ap (λ z. Some (cond (z == s) (f x) x)) e ∙ sym
      (ap (λ b. changed f (t == s) (cond b (Some x) (lock_of ls t))) (eq-eqb x.slot t e)))
      (λ ne. ap (λ b. cond b (Some y) (lock_of (change_lock s f ls) t)) (ne_eqb y.slot t (λ z. ne (sym same ∙ z))) ∙ lock_of-change ls t
      ∙ sym (ap (λ b. changed f (t == s) (cond b (Some x) (lock_of ls t))) (ne_eqb x.slot t ne)))
      (cases_eq x.slot t)

  pub slots_change : (ls : List HeldLock) → map (λ (l : HeldLock). l.slot) (change_lock s f ls) ≡ map (λ (l : HeldLock). l.slot) ls
  slots_change [] = refl
  slots_change (x ∷ ls) = λ i. one_slot x (x.slot == s) i ∷ slots_change ls i

  pub length_change : (ls : List HeldLock) → length (change_lock s f ls) ≡ length ls
  length_change [] = refl
  length_change (x ∷ ls) = ap suc (length_change ls)

  abbrev flags : HeldLock → ℕ
  flags l = flag l.left_emptied + flag l.right_emptied

  pub emptied_change_same : ((l : HeldLock) → flag (f l).left_emptied + flag (f l).right_emptied
      ≡ flag l.left_emptied + flag l.right_emptied) → (ls : List HeldLock) → emptied_among (change_lock s f ls) ≡ emptied_among ls
  emptied_change_same same [] = refl
  emptied_change_same same (x ∷ ls) = let r = emptied_change_same same ls in let h = here (x.slot == s) in omega arith
    where
      here : (b : Bool) → flag (cond b (f x) x).left_emptied + flag (cond b (f x) x).right_emptied
          ≡ flag x.left_emptied + flag x.right_emptied
      here true = same x
      here false = refl

  pub emptied_change_more : ((l : HeldLock) → flag (f l).left_emptied + flag (f l).right_emptied
      ≤ flag l.left_emptied + flag l.right_emptied + 1) → (ls : List HeldLock)
      → emptied_among (change_lock s f ls) ≤ emptied_among ls + times s (map (λ (l : HeldLock). l.slot) ls)
  emptied_change_more more [] = omega arith
  emptied_change_more more (x ∷ ls) = let r = emptied_change_more more ls in let h = here (x.slot == s) in omega arith
    where
      here : (b : Bool) → flag (cond b (f x) x).left_emptied + flag (cond b (f x) x).right_emptied
          ≤ flag x.left_emptied + flag x.right_emptied + cond b 1 0
      here true = more x
      here false = omega arith

pub change_here : (s : ℕ) (f : HeldLock → HeldLock) → ((l : HeldLock) → (f l).slot ≡ l.slot) → (ls : List HeldLock) (l : HeldLock)
    → lock_of ls s ≡ Some l → lock_of (change_lock s f ls) s ≡ Some (f l)
change_here s f keep ls l e = lock_of-change s f keep ls s ∙ ap (changed f (s == s)) e ∙ ap (λ b. Some (cond b (f l) l)) (eq-eqb s s refl)

pub change_other : (s : ℕ) (f : HeldLock → HeldLock) → ((l : HeldLock) → (f l).slot ≡ l.slot) → (ls : List HeldLock) (t : ℕ) → t ≢ s
    → lock_of (change_lock s f ls) t ≡ lock_of ls t
change_other s f keep ls t ne = lock_of-change s f keep ls t ∙ ap (λ b. changed f b (lock_of ls t)) (ne_eqb t s ne) ∙ same (lock_of ls t)
  where
    same : (o : Option HeldLock) → changed f false o ≡ o
    same None = refl
    same (Some l) = refl

-- what the changes of a lock leave
pub emptied_slot : (b : Side) (e : Bool) (l : HeldLock) → (with_emptied b e l).slot ≡ l.slot
emptied_slot Left e l = refl
emptied_slot Right e l = refl

pub emptied_known : (b : Side) (e : Bool) (l : HeldLock) → (with_emptied b e l).known ≡ l.known
emptied_known Left e l = refl
emptied_known Right e l = refl

pub emptied_marked : (b : Side) (e : Bool) (l : HeldLock) → (with_emptied b e l).marked ≡ l.marked
emptied_marked Left e l = refl
emptied_marked Right e l = refl

emptied_now : (b : Side) (l : HeldLock) → is_emptied (with_emptied b true l) b ≡ true
emptied_now Left l = refl
emptied_now Right l = refl

emptied_still : (b a : Side) (l : HeldLock) → is_emptied l a ≡ true → is_emptied (with_emptied b true l) a ≡ true
emptied_still Left Left l e = refl
emptied_still Left Right l e = e
emptied_still Right Left l e = e
emptied_still Right Right l e = refl

emptied_back : (b a : Side) (l : HeldLock) → is_emptied (with_emptied b true l) a ≡ true → (is_emptied l a ≡ true) ⊎ (a ≡ b)
emptied_back Left Left l e = inr refl
emptied_back Left Right l e = inl e
emptied_back Right Left l e = inl e
emptied_back Right Right l e = inr refl

mark_emptied : (x : Bool) (a : Side) (l : HeldLock) → is_emptied (with_mark x l) a ≡ is_emptied l a
mark_emptied x Left l = refl
mark_emptied x Right l = refl

-- a number that is noted says nothing of the sides
pub note_side : (known : Known) (a : Side) (l : HeldLock) → is_emptied (note_lock known l) a ≡ is_emptied l a
note_side known Left l = refl
note_side known Right l = refl

emptied_flags : (b : Side) (l : HeldLock) → flag (with_emptied b true l).left_emptied + flag (with_emptied b true l).right_emptied
    ≤ flag l.left_emptied + flag l.right_emptied + 1
emptied_flags Left l = omega arith
emptied_flags Right l = omega arith

-- what a lock was, where it is known what each becomes, and a slot without a lock gets none
pub locks_back : (ls ls' : List HeldLock) (t : ℕ) (becomes : HeldLock → HeldLock → Type 0)
    → (lock_of ls t ≡ None → lock_of ls' t ≡ None)
    → ((l : HeldLock) → lock_of ls t ≡ Some l → (l' : HeldLock) × (lock_of ls' t ≡ Some l') × becomes l l')
    → (l' : HeldLock) → lock_of ls' t ≡ Some l' → (l : HeldLock) × (lock_of ls t ≡ Some l) × becomes l l'
locks_back ls ls' t becomes none forth l' e = cases (lock_of ls t) refl
  where
    cases : (o : Option HeldLock) → lock_of ls t ≡ o → (l : HeldLock) × (lock_of ls t ≡ Some l) × becomes l l'
    cases None q = absurd (let r : None ≡ Some l' = sym (none q) ∙ e in cc)
    cases (Some l) q =
        let f = forth l q in
        let r : Some f.0 ≡ Some l' = sym f.1 ∙ e in
        let same : f.0 ≡ l' = cc in
        (l, q, subst (becomes l) same f.2)

-- what a lock of a slot becomes where something was noted of slot p, where side b of p became empty if `empties`, and where slot d is
-- unmarked
pub record IsRelocked (p : ℕ) (b : Side) (empties : Bool) (d : ℕ) (known : Known) (t : ℕ) (l l' : HeldLock) : Type 0 where
  pub here : t ≡ p → l'.known ≡ known ∷ l.known
  pub there : t ≢ p → l'.known ≡ l.known
  pub kept : t ≢ d → l'.marked ≡ l.marked
  pub unmarked : t ≡ d → l'.marked ≡ false
  pub still : (a : Side) → is_emptied l a ≡ true → is_emptied l' a ≡ true
  pub back : (a : Side) → is_emptied l' a ≡ true → (is_emptied l a ≡ true) ⊎ ((t ≡ p) × (a ≡ b) × (empties ≡ true))
  pub now : t ≡ p → empties ≡ true → is_emptied l' b ≡ true

module _ (p : ℕ) (b : Side) (d : ℕ) (known : Known) where
  abbrev pub noted_locks : List HeldLock → List HeldLock
  noted_locks ls = change_lock p (note_lock known) ls

  abbrev pub emptied_locks : Bool → List HeldLock → List HeldLock
  emptied_locks empties ls = cond empties (change_lock p (with_emptied b true) (noted_locks ls)) (noted_locks ls)

  abbrev pub relocked : Bool → List HeldLock → List HeldLock
  relocked empties ls = change_lock d (with_mark false) (emptied_locks empties ls)

  -- one lock through the three changes, by whether it is p's, whether it is d's, and whether the side became empty
  abbrev one_noted : Bool → HeldLock → HeldLock
  one_noted at_p l = cond at_p (note_lock known l) l

  abbrev one_emptied : Bool → Bool → HeldLock → HeldLock
  one_emptied empties at_p l = cond empties (cond at_p (with_emptied b true (one_noted at_p l)) (one_noted at_p l)) (one_noted at_p l)

  abbrev one_relocked : Bool → Bool → Bool → HeldLock → HeldLock
  one_relocked empties at_p at_d l = cond at_d (with_mark false (one_emptied empties at_p l)) (one_emptied empties at_p l)

  record Middle (at_p empties : Bool) (l l' : HeldLock) : Type 0 where
    pub known_is : l'.known ≡ cond at_p (known ∷ l.known) l.known
    pub marked : l'.marked ≡ l.marked
    pub still : (a : Side) → is_emptied l a ≡ true → is_emptied l' a ≡ true
    pub back : (a : Side) → is_emptied l' a ≡ true → (is_emptied l a ≡ true) ⊎ ((at_p ≡ true) × (a ≡ b) × (empties ≡ true))
    pub now : at_p ≡ true → empties ≡ true → is_emptied l' b ≡ true

  middle : (empties at_p : Bool) (l : HeldLock) → Middle at_p empties l (one_emptied empties at_p l)
  middle true true l = record {
    known_is = emptied_known b true (note_lock known l);
    marked = emptied_marked b true (note_lock known l);
    still = λ a e. emptied_still b a (note_lock known l) (note_side known a l ∙ e);
    back = λ a e. ⊎_elim (λ (o : is_emptied (note_lock known l) a ≡ true). inl (sym (note_side known a l) ∙ o))
        (λ (o : a ≡ b). inr (refl, o, refl)) (emptied_back b a (note_lock known l) e);
    now = λ x y. emptied_now b (note_lock known l);
  }
  middle true false l = record { known_is = refl; marked = refl; still = λ a e. e; back = λ a e. inl e; now = λ x y. absurd (cc) }
  middle false true l = record {
    known_is = refl;
    marked = refl;
    still = λ a e. note_side known a l ∙ e;
    back = λ a e. inl (sym (note_side known a l) ∙ e);
    now = λ x y. absurd (cc);
  }
  middle false false l = record { known_is = refl; marked = refl; still = λ a e. e; back = λ a e. inl e; now = λ x y. absurd (cc) }

  relocked_is : (empties : Bool) (t : ℕ) (l : HeldLock) → IsRelocked p b empties d known t l (one_relocked empties (t == p) (t == d) l)
  relocked_is empties t l =
      let q = middle empties (t == p) l in
      let x : HeldLock = one_emptied empties (t == p) l in
      let y : HeldLock = one_relocked empties (t == p) (t == d) l in
      let same_known : y.known ≡ x.known = known_same x (t == d) in
      let same_emptied : (a : Side) → is_emptied y a ≡ is_emptied x a = λ a. emptied_same x (t == d) a in
      record {
        here = λ e. same_known ∙ q.known_is ∙ ap (λ z. cond z (known ∷ l.known) l.known) (eq-eqb t p e);
        there = λ ne. same_known ∙ q.known_is ∙ ap (λ z. cond z (known ∷ l.known) l.known) (ne_eqb t p ne);
        kept = λ ne. ap (λ z. (cond z (with_mark false x) x).marked) (ne_eqb t d ne) ∙ q.marked;
        unmarked = λ e. ap (λ z. (cond z (with_mark false x) x).marked) (eq-eqb t d e);
        still = λ a e. same_emptied a ∙ q.still a e;
        back = λ a e. ⊎_elim (λ (o : is_emptied l a ≡ true). inl o)
            (λ (o : ((t == p) ≡ true) × (a ≡ b) × (empties ≡ true)). inr (eqb-true t p o.0, o.1, o.2))
            (q.back a (sym (same_emptied a) ∙ e));
        now = λ e z. same_emptied b ∙ q.now (eq-eqb t p e) z;
      }
    where
      known_same : (x : HeldLock) (z : Bool) → (cond z (with_mark false x) x).known ≡ x.known
      known_same x true = refl
      known_same x false = refl

      emptied_same : (x : HeldLock) (z : Bool) (a : Side) → is_emptied (cond z (with_mark false x) x) a ≡ is_emptied x a
      emptied_same x true a = mark_emptied false a x
      emptied_same x false a = refl

  lock_of-emptied : (empties : Bool) (ls : List HeldLock) (t : ℕ) (l : HeldLock) → lock_of ls t ≡ Some l
      → lock_of (emptied_locks empties ls) t ≡ Some (one_emptied empties (t == p) l)
  lock_of-emptied true ls t l e = lock_of-change p (with_emptied b true) (emptied_slot b true) (noted_locks ls) t
      ∙ ap (changed (with_emptied b true) (t == p))
      (lock_of-change p (note_lock known) (λ x. refl) ls t ∙ ap (changed (note_lock known) (t == p)) e)
  lock_of-emptied false ls t l e = lock_of-change p (note_lock known) (λ x. refl) ls t ∙ ap (changed (note_lock known) (t == p)) e

  -- the lock of a slot afterwards
  pub relocked_forth : (empties : Bool) (ls : List HeldLock) (t : ℕ) (l : HeldLock) → lock_of ls t ≡ Some l
      → (l' : HeldLock) × (lock_of (relocked empties ls) t ≡ Some l') × IsRelocked p b empties d known t l l'
  relocked_forth empties ls t l e = (
    one_relocked empties (t == p) (t == d) l,
    lock_of-change d (with_mark false) (λ x. refl) (emptied_locks empties ls) t
        ∙ ap (changed (with_mark false) (t == d)) (lock_of-emptied empties ls t l e),
    relocked_is empties t l,
  )

  emptied_none : (empties : Bool) (ls : List HeldLock) (t : ℕ) → lock_of ls t ≡ None → lock_of (emptied_locks empties ls) t ≡ None
  emptied_none true ls t e = lock_of-change p (with_emptied b true) (emptied_slot b true) (noted_locks ls) t
      ∙ ap (changed (with_emptied b true) (t == p))
      (lock_of-change p (note_lock known) (λ x. refl) ls t ∙ ap (changed (note_lock known) (t == p)) e)
  emptied_none false ls t e = lock_of-change p (note_lock known) (λ x. refl) ls t ∙ ap (changed (note_lock known) (t == p)) e

  -- and what it was before
  pub relocked_back : (empties : Bool) (ls : List HeldLock) (t : ℕ) (l' : HeldLock) → lock_of (relocked empties ls) t ≡ Some l'
      → (l : HeldLock) × (lock_of ls t ≡ Some l) × IsRelocked p b empties d known t l l'
  relocked_back empties ls t = locks_back ls (relocked empties ls) t (IsRelocked p b empties d known t)
      (λ none. lock_of-change d (with_mark false) (λ x. refl) (emptied_locks empties ls) t
      ∙ ap (changed (with_mark false) (t == d)) (emptied_none empties ls t none)) (relocked_forth empties ls t)

  pub relocked_slots : (empties : Bool) (ls : List HeldLock)
      → map (λ (l : HeldLock). l.slot) (relocked empties ls) ≡ map (λ (l : HeldLock). l.slot) ls
  relocked_slots true ls = slots_change d (with_mark false) (λ x. refl) (emptied_locks true ls)
      ∙ slots_change p (with_emptied b true) (emptied_slot b true) (noted_locks ls) ∙ slots_change p (note_lock known) (λ x. refl) ls
  relocked_slots false ls = slots_change d (with_mark false) (λ x. refl) (emptied_locks false ls)
      ∙ slots_change p (note_lock known) (λ x. refl) ls

  pub relocked_length : (empties : Bool) (ls : List HeldLock) → length (relocked empties ls) ≡ length ls
  relocked_length true ls = length_change d (with_mark false) (λ x. refl) (emptied_locks true ls)
      ∙ length_change p (with_emptied b true) (emptied_slot b true) (noted_locks ls) ∙ length_change p (note_lock known) (λ x. refl) ls
  relocked_length false ls = length_change d (with_mark false) (λ x. refl) (emptied_locks false ls)
      ∙ length_change p (note_lock known) (λ x. refl) ls

  -- at most one side more is emptied
  pub relocked_emptied : (empties : Bool) (ls : List HeldLock) → times p (map (λ (l : HeldLock). l.slot) ls) ≤ 1
      → emptied_among (relocked empties ls) ≤ emptied_among ls + 1
  relocked_emptied true ls once =
      let a = emptied_change_same d (with_mark false) (λ x. refl) (λ l. refl) (emptied_locks true ls) in
      let c = emptied_change_more p (with_emptied b true) (emptied_slot b true) (emptied_flags b) (noted_locks ls) in
      let e = ap (times p) (slots_change p (note_lock known) (λ x. refl) ls) in
      let f = emptied_change_same p (note_lock known) (λ x. refl) (λ l. refl) ls in
      omega arith
  relocked_emptied false ls once =
      let a = emptied_change_same d (with_mark false) (λ x. refl) (λ l. refl) (emptied_locks false ls) in
      let f = emptied_change_same p (note_lock known) (λ x. refl) (λ l. refl) ls in
      omega arith

-- what a lock becomes where something was noted of slot p alone
pub record IsNoted (p : ℕ) (known : Known) (t : ℕ) (l l' : HeldLock) : Type 0 where
  pub here : t ≡ p → l'.known ≡ known ∷ l.known
  pub there : t ≢ p → l'.known ≡ l.known
  pub marked : l'.marked ≡ l.marked
  pub emptied : (a : Side) → is_emptied l' a ≡ is_emptied l a

module _ (p : ℕ) (known : Known) where
  noted_is : (t : ℕ) (l : HeldLock) → IsNoted p known t l (cond (t == p) (note_lock known l) l)
  noted_is t l = record {
    here = λ e. ap (λ z. (cond z (note_lock known l) l).known) (eq-eqb t p e);
    there = λ ne. ap (λ z. (cond z (note_lock known l) l).known) (ne_eqb t p ne);
    marked = same_mark (t == p);
    emptied = λ a. same_emptied a (t == p);
  }
    where
      same_mark : (z : Bool) → (cond z (note_lock known l) l).marked ≡ l.marked
      same_mark true = refl
      same_mark false = refl

      same_emptied : (a : Side) (z : Bool) → is_emptied (cond z (note_lock known l) l) a ≡ is_emptied l a
      same_emptied a true = note_side known a l
      same_emptied a false = refl

  pub noted_forth : (ls : List HeldLock) (t : ℕ) (l : HeldLock) → lock_of ls t ≡ Some l
      → (l' : HeldLock) × (lock_of (change_lock p (note_lock known) ls) t ≡ Some l') × IsNoted p known t l l'
  noted_forth ls t l e = (
    cond (t == p) (note_lock known l) l,
    lock_of-change p (note_lock known) (λ x. refl) ls t ∙ ap (changed (note_lock known) (t == p)) e,
    noted_is t l,
  )

  pub noted_back : (ls : List HeldLock) (t : ℕ) (l' : HeldLock) → lock_of (change_lock p (note_lock known) ls) t ≡ Some l'
      → (l : HeldLock) × (lock_of ls t ≡ Some l) × IsNoted p known t l l'
  noted_back ls t = locks_back ls (change_lock p (note_lock known) ls) t (IsNoted p known t)
      (λ none. lock_of-change p (note_lock known) (λ x. refl) ls t ∙ ap (changed (note_lock known) (t == p)) none) (noted_forth ls t)

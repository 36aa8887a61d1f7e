-- A lock is taken or given up: the lock word, the view's list of locks, and what that leaves of the groups.
use Rattle.std.proofs.Common.{◌≡◌, ◌≢◌, ℕ, ◌≤◌, ◌==◌, true, false, cond, List, [], ◌∷◌, length, map, Some, None, refl, sym, ap, ◌∙◌, arith, eq-eqb, ne_eqb, ◌+◌, ◌<◌, set, subst, ⊎_elim, inl, ◌⊎◌, ◌*◌, Option, inr, Bool}
use mathlib.Core.Logic.{dite}
use native.Mathlib.Decide.{ℕ_discrete, dec_le}
use Rattle.prcu_marks.specs.declared.mark.Mark.{Mark}
use Rattle.core_state.specs.declared.words.Field.TheVariants.{Lock, Life}
use Rattle.core_state.specs.declared.view.HeldLock.{HeldLock}
use Rattle.list_laws.specs.Counts.{times, IsIn, Each}
use Rattle.core_state.specs.Memory.{Memory, stored, IsOdd, slot_count}
use Rattle.core_state.specs.Views.{lock_of, without_lock, emptied_among, is_emptied, readings_of, Works}
use Rattle.core_frames.specs.Laws.{KeepsPast, IsKept}
use Rattle.list_laws.proofs.Lists.{times_other, each_set, each_change, times_here, somewhere_here, somewhere_still}
use Rattle.core_frames.proofs.Views.{SameNodes, content_same, same_slots}
use mathlib.Core.Option.{some}
use lib.ListN.{get_elem?}
use Rattle.atomic_table.proofs.Lists.{set_again}
use Rattle.prcu_marks.specs.declared.mark.Side.{Side}
use Rattle.core_state.specs.declared.view.Move.{Move}
use Rattle.core_state.specs.declared.view.View.{View}
use Rattle.core_state.specs.Tree.{Chart, IsEmptied, HasEmptied}
use Rattle.core_state.specs.Parts.{IsHolderOf, HasFewLocks, IsUnraised, IsLockKept, IsLockKnown, IsReadingKept, LockParts, ReaderParts, IsMoving, TreeParts}
use Rattle.core_frames.proofs.TreeFrames.{moves_same, tree_by, moving_by, moving_same, may_still, old_still, readers_stay, listing_frame_still}
use Rattle.core_frames.proofs.Marks.{end_same, silent_same}
use Rattle.core_state.specs.declared.view.Reading.{Reading}
use Rattle.core_frames.proofs.PlaceFrames.{front_stays, kept_same, known_same, reading_same, counts_still, sums_same, slot_frame, slots_elsewhere, front_frame}
use Rattle.prcu_marks.specs.declared.mark.Side.TheVariants.{Left, Right}
use Rattle.core_state.specs.declared.shape.Shape.{Shape}
use Rattle.core_state.specs.Steps.{new_lock, IsNoEnd, NeedsLock, NeedsUnlock, after_lock, after_unlock}
use Rattle.core_state.specs.Invariant.{HoldsNow}
use Rattle.core_laws.proofs.Entering.{apart}
use Rattle.core_frames.proofs.WholeFrames.{no_mark, seat_half, wait_still, waiters_stay, whole, Stepper, StepKeeps, only_loaded}
use Rattle.std.proofs.lemmas.Bool.{eqb-true}

-- A store in a lock word, and lists of locks without one of them.

-- the words of nodes are as before
pub lock_nodes : (m : Memory) (slot x : ℕ) → SameNodes m (stored m (Lock slot) x)
lock_nodes m slot x = record { life = λ s. refl; key = λ s. refl; value = λ s. refl; link = λ s b. refl; tag = λ s b. refl }

-- no life and no tag falls, and no content changes
pub lock_past : (m : Memory) (slot x : ℕ) (h : List Mark) → KeepsPast m h (stored m (Lock slot) x)
lock_past m slot x h = record {
  lives = λ s. omega arith;
  tags = λ s b. omega arith;
  content = λ s field gone odd content. content_same m (stored m (Lock slot) x) (lock_nodes m slot x) s field content;
}

-- the lock word of the slot, and of another
pub word_here : (m : Memory) (slot x : ℕ) → stored m (Lock slot) x (Lock slot) ≡ x
word_here m slot x = ap (λ b. cond b x (m (Lock slot))) (eq-eqb slot slot refl)

pub word_else : (m : Memory) (slot x s : ℕ) → s ≢ slot → stored m (Lock slot) x (Lock s) ≡ m (Lock s)
word_else m slot x s ne = ap (λ b. cond b x (m (Lock s))) (ne_eqb slot s (λ e. ne (sym e)))

-- a view without a lock of a slot has it nowhere in its list
pub no_lock_times : (ls : List HeldLock) (s : ℕ) → lock_of ls s ≡ None → times s (map (λ (l : HeldLock). l.slot) ls) ≡ 0
no_lock_times [] s none = refl
no_lock_times (l ∷ ls) s none =
    dite (ℕ_discrete l.slot s)
    (λ e. absurd (let q : Some l ≡ None = sym (ap (λ b. cond b (Some l) (lock_of ls s)) (eq-eqb l.slot s e)) ∙ none in cc))
    (λ ne. let t = times_other s l.slot (map (λ (l : HeldLock). l.slot) ls) ne in
    let r = no_lock_times ls s (sym (ap (λ b. cond b (Some l) (lock_of ls s)) (ne_eqb l.slot s ne)) ∙ none) in omega arith)

-- the locks without one
pub without_here : (slot : ℕ) (ls : List HeldLock) → lock_of (without_lock slot ls) slot ≡ None
without_here slot [] = refl
without_here slot (l ∷ ls) =
    dite (ℕ_discrete l.slot slot)
    (λ e. ap (λ b. lock_of (cond b (without_lock slot ls) (l ∷ without_lock slot ls)) slot) (eq-eqb l.slot slot e) ∙ without_here slot ls)
    (λ ne. ap (λ b. lock_of (cond b (without_lock slot ls) (l ∷ without_lock slot ls)) slot) (ne_eqb l.slot slot ne)
    ∙ ap (λ b. cond b (Some l) (lock_of (without_lock slot ls) slot)) (ne_eqb l.slot slot ne) ∙ without_here slot ls)

pub without_other : (slot s : ℕ) (ls : List HeldLock) → s ≢ slot → lock_of (without_lock slot ls) s ≡ lock_of ls s
without_other slot s [] ne = refl
without_other slot s (l ∷ ls) ne =
    dite (ℕ_discrete l.slot slot)
    (λ e. ap (λ b. lock_of (cond b (without_lock slot ls) (l ∷ without_lock slot ls)) s) (eq-eqb l.slot slot e) ∙ without_other slot s ls ne
    ∙ ap (λ b. cond b (Some l) (lock_of ls s)) (sym (ne_eqb l.slot s (λ f. ne (sym f ∙ e)))))
    (λ other. ap (λ b. lock_of (cond b (without_lock slot ls) (l ∷ without_lock slot ls)) s) (ne_eqb l.slot slot other)
    ∙ ap (λ z. cond (l.slot == s) (Some l) z) (without_other slot s ls ne))

pub without_fewer : (slot s : ℕ) (ls : List HeldLock)
    → (times s (map (λ (l : HeldLock). l.slot) (without_lock slot ls)) ≤ times s (map (λ (l : HeldLock). l.slot) ls))
    × (length (without_lock slot ls) ≤ length ls) × (emptied_among (without_lock slot ls) ≤ emptied_among ls)
without_fewer slot s [] = (omega arith, omega arith, omega arith)
without_fewer slot s (l ∷ ls) =
    let r = without_fewer slot s ls in
    let a = r.0 in
    let b = r.1 in
    let c = r.2 in
    elim (l.slot == slot) as (λ z. (times s (map (λ (l : HeldLock). l.slot) (cond z (without_lock slot ls) (l ∷ without_lock slot ls)))
    ≤ times s (map (λ (l : HeldLock). l.slot) (l ∷ ls)))
    × (length (cond z (without_lock slot ls) (l ∷ without_lock slot ls)) ≤ length (l ∷ ls))
    × (emptied_among (cond z (without_lock slot ls) (l ∷ without_lock slot ls)) ≤ emptied_among (l ∷ ls))) [
      | true ↦ (omega arith, omega arith, omega arith)
      | false ↦ (omega arith, omega arith, omega arith)
    ]

-- The parts on locks, on the tree and on readers, where one lock of a view is taken or given up.

module _ (vs : List View) (id : ℕ) (v : View) (there : get_elem? vs id ≡ some v) (slot : ℕ) (locks : List HeldLock)
    (other : (s : ℕ) → s ≢ slot → lock_of locks s ≡ lock_of v.locks s)
    (settled : (lock : HeldLock) (b : Side) → lock_of v.locks slot ≡ Some lock → is_emptied lock b ≡ true → ⊥)
    (no_end : (move : Move) → v.moving ≡ Some move → (move.copy.slot ≢ slot) × (move.old ≢ slot) × (move.parent ≢ slot)) where
  abbrev w : View
  w = record v { locks = locks }

  -- who holds another slot's lock holds it still
  holder_on : (s : ℕ) (lock : HeldLock) → s ≢ slot → IsHolderOf vs s lock → IsHolderOf (set vs id w) s lock
  holder_on s lock ne i = somewhere_still vs id v w there (λ held. other s ne ∙ held) i

  emptied_on : (s : ℕ) (b : Side) → IsEmptied vs s b → IsEmptied (set vs id w) s b
  emptied_on s b = somewhere_still vs id v w there (λ (x : HasEmptied v s b). record {
    lock = x.lock;
    held = other s (λ on. settled x.lock b (ap (lock_of v.locks) (sym on) ∙ x.held) x.emptied) ∙ x.held;
    emptied = x.emptied;
  })

  module _ (m m' : Memory) (nodes : SameNodes m m') (g : Chart) (h : List Mark) where
    moving_on : (move : Move) → v.moving ≡ Some move → IsMoving m g h v move → IsMoving m' g h w move
    moving_on move is = moving_by m m' nodes g h h v w move move.waited move.copy.known (λ n x e. e) refl
        (λ s which. other s (λ e. ⊎_elim (λ (c : s ≡ move.copy.slot). (no_end move is).0 (sym c ∙ e))
        (λ r. ⊎_elim (λ (o : s ≡ move.old). (no_end move is).1 (sym o ∙ e))
        (λ (p : s ≡ move.parent). (no_end move is).2 (sym p ∙ e)) r) which)) (λ r x. x) (λ r x. x)

    pub tree_locks : (n : ℕ) → TreeParts m n g vs h → TreeParts m' n g (set vs id w) h
    tree_locks n t = tree_by m m' n g vs (set vs id w) h h nodes (silent_same h) (moves_same vs id v w there refl)
        (each_set (λ j u. (move : Move) → u.moving ≡ Some move → IsMoving m' g h u move) vs id w
        (λ move is. moving_on move is (t.moves.each id v there move is))
        (λ j u ne e move is. moving_same m m' nodes g h h u u move (silent_same h) refl refl (λ r x. x) (λ r x. x)
        (t.moves.each j u e move is))) t

    pub readers_locks : ReaderParts m g vs h → ReaderParts m' g (set vs id w) h
    readers_locks = readers_stay m m' nodes g vs id v w h h there (silent_same h)
        (record { may = may_still vs id v w there refl; old_for = old_still vs id v w there refl; emptied = emptied_on }) refl refl

  -- What a step has to say of the slot whose lock it is.
  pub record Relocks (m : Memory) (n : ℕ) (g : Chart) (x : ℕ) : Type 0 where
    pub small : slot < n
    pub word : (lock : HeldLock) → lock_of locks slot ≡ Some lock → x ≡ v.allowance.place + 1
    pub named : x ≢ 0 → (lock : HeldLock) × (lock_of locks slot ≡ Some lock)
    pub alone : (j : ℕ) (u : View) (s : ℕ) (lock : HeldLock) → j ≢ id → get_elem? vs j ≡ some u → lock_of u.locks s ≡ Some lock → s ≢ slot
    pub few : HasFewLocks w
    pub kept : (lock : HeldLock) → lock_of locks slot ≡ Some lock → IsLockKept (stored m (Lock slot) x) g w slot lock
    pub unmarked : g.linked slot ≡ true → IsOdd (m (Life slot)) → ⊥
    pub known : (lock : HeldLock) → lock_of locks slot ≡ Some lock → IsLockKnown (stored m (Lock slot) x) w slot lock

  module _ (m : Memory) (n : ℕ) (g : Chart) (x : ℕ) (c : Relocks m n g x) where
    abbrev m' : Memory
    m' = stored m (Lock slot) x

    kept_on : (u z : View) (s : ℕ) (lock : HeldLock) → (IsUnraised u s → IsUnraised z s) → IsLockKept m g u s lock
        → IsLockKept m' g z s lock
    kept_on = kept_same m m' (lock_nodes m slot x) (λ s. refl) g

    known_on : (u z : View) (s : ℕ) (lock : HeldLock) → ((r : Reading) → IsIn (readings_of z) r → IsIn (readings_of u) r ⊎ (r.loads ≡ []))
        → IsLockKnown m u s lock → IsLockKnown m' z s lock
    known_on = known_same m m' (lock_nodes m slot x) (λ s. refl) g

    was_lock : (s : ℕ) (lock : HeldLock) → s ≢ slot → lock_of locks s ≡ Some lock → lock_of v.locks s ≡ Some lock
    was_lock s lock ne e = sym (other s ne) ∙ e

    pub locks_locks : LockParts m n g vs → LockParts m' n g (set vs id w)
    locks_locks t = record {
      locked = record {
        held = each_set (λ j u. (s : ℕ) (lock : HeldLock) → lock_of u.locks s ≡ Some lock
            → (m' (Lock s) ≡ u.allowance.place + 1) × (s < n)) vs id w
            (λ s lock e. dite (ℕ_discrete s slot)
            (λ on. subst (λ z. (m' (Lock z) ≡ v.allowance.place + 1) × (z < n)) (sym on)
            (word_here m slot x ∙ c.word lock (ap (lock_of locks) (sym on) ∙ e), c.small))
            (λ ne. let r = t.locked.held id v there s lock (was_lock s lock ne e) in (word_else m slot x s ne ∙ r.0, r.1)))
            (λ j u ne e s lock is. (let r = t.locked.held j u e s lock is in
            (word_else m slot x s (c.alone j u s lock ne e is) ∙ r.0, r.1)));
        named = λ s lt nz. dite (ℕ_discrete s slot)
            (λ on. let r = c.named (λ z. nz (ap (λ y. m' (Lock y)) on ∙ word_here m slot x ∙ z)) in
            (r.0, somewhere_here vs id v w there (ap (lock_of locks) on ∙ r.1)))
            (λ ne. let r = t.locked.named s lt (λ z. nz (word_else m slot x s ne ∙ z)) in (r.0, holder_on s r.0 ne r.1));
      };
      few = each_set (λ j u. HasFewLocks u) vs id w c.few (λ j u ne e. t.few j u e);
      kept = each_set (λ j u. (s : ℕ) (lock : HeldLock) → lock_of u.locks s ≡ Some lock → IsLockKept m' g u s lock) vs id w
          (λ s lock e. dite (ℕ_discrete s slot)
          (λ on. subst (λ z. IsLockKept m' g w z lock) (sym on) (c.kept lock (ap (lock_of locks) (sym on) ∙ e)))
          (λ ne. kept_on v w s lock (λ y. y) (t.kept id v there s lock (was_lock s lock ne e))))
          (λ j u ne e s lock is. kept_on u u s lock (λ y. y) (t.kept j u e s lock is));
      marked = λ s l o. dite (ℕ_discrete s slot)
          (λ on. absurd (c.unmarked (subst (λ z. g.linked z ≡ true) on l) (subst (λ z. IsOdd (m (Life z))) on o)))
          (λ ne. let r = t.marked s l o in (r.0, holder_on s r.0 ne r.1, r.2));
      known = each_set (λ j u. (s : ℕ) (lock : HeldLock) → lock_of u.locks s ≡ Some lock → IsLockKnown m' u s lock) vs id w
          (λ s lock e. dite (ℕ_discrete s slot)
          (λ on. subst (λ z. IsLockKnown m' w z lock) (sym on) (c.known lock (ap (lock_of locks) (sym on) ∙ e)))
          (λ ne. known_on v w s lock (λ r has. inl has) (t.known id v there s lock (was_lock s lock ne e))))
          (λ j u ne e s lock is. known_on u u s lock (λ r has. inl has) (t.known j u e s lock is));
      readings = each_change (λ (u : View). Each (readings_of u) (IsReadingKept m g))
          (λ (u : View). Each (readings_of u) (IsReadingKept m' g)) vs id v w there
          (λ a j r e. reading_same m m' (lock_nodes m slot x) (λ s. refl) g r (a j r e))
          (λ u a j r e. reading_same m m' (lock_nodes m slot x) (λ s. refl) g r (a j r e)) t.readings;
    }

-- A lock is taken or given up: K13 and K14.

-- The invariant after a lock was taken or given up.
module _ (k : Shape) (m : Memory) (vs : List View) (h : List Mark) (id : ℕ) (v : View) (i : HoldsNow k m vs h)
    (there : get_elem? vs id ≡ some v) (works : Works v) (slot x : ℕ) (locks : List HeldLock)
    (other : (s : ℕ) → s ≢ slot → lock_of locks s ≡ lock_of v.locks s)
    (settled : (lock : HeldLock) (b : Side) → lock_of v.locks slot ≡ Some lock → is_emptied lock b ≡ true → ⊥)
    (no_end : (move : Move) → v.moving ≡ Some move → (move.copy.slot ≢ slot) × (move.old ≢ slot) × (move.parent ≢ slot))
    (c : Relocks vs id v there slot locks other settled no_end m (slot_count k) i.chart x)
    (fewer : emptied_among locks ≤ emptied_among v.locks) where
  abbrev w' : View
  w' = record v { locks = locks }

  abbrev to : Memory
  to = stored m (Lock slot) x

  relock_law : HoldsNow k to (set vs id w') h
  relock_law =
      let nodes = lock_nodes m slot x in
      let quiet = silent_same h in
      whole k to i.chart (set vs id w') h i.table
      (record {
        slots = slots_elsewhere m to nodes (λ s. refl) (slot_count k) i.chart (set vs id w') h h quiet
            (slot_frame m m (slot_count k) i.chart vs id v w' h h there (same_slots m)
            (record { own = refl; moving = refl; one = λ one. one }) quiet i.slots);
        locks = locks_locks vs id v there slot locks other settled no_end m (slot_count k) i.chart x c i.locks;
        tree = tree_locks vs id v there slot locks other settled no_end m to nodes i.chart h (slot_count k) i.tree;
        readers = readers_locks vs id v there slot locks other settled no_end m to nodes i.chart h i.readers;
      })
      (seat_half k m vs h id v w' i there works refl (inr (refl, refl)) (wait_still k m vs h id v w' i there refl refl))
      (waiters_stay k m to vs h id v w' i there refl refl refl)
      (counts_still k.tickets m to (slot_count k) i.chart vs id v w' h h there (sums_same m to (slot_count k) nodes (λ s. refl)) refl
      (record {
        free = refl;
        clock = omega arith;
        generations = omega arith;
        tags = omega arith;
        turns = omega arith;
        pending = refl;
      }) i.counts)
      (front_frame m to vs id v w' h h there (front_stays m to refl refl) refl (λ e. e) quiet (end_same h) i.front)
      (listing_frame_still m to nodes i.chart h h quiet vs id v w' there refl i.listings)

module _ (k : Shape) (m : Memory) (vs : List View) (h : List Mark) (id : ℕ) (v : View) (i : HoldsNow k m vs h)
    (there : get_elem? vs id ≡ some v) (works : Works v) (slot : ℕ) (small : slot < slot_count k) where
  -- K13: a lock that is free is taken
  module _ (needs : NeedsLock v) (free : m (Lock slot) ≡ 0) where
    nobody : (j : ℕ) (u : View) (s : ℕ) (lock : HeldLock) → get_elem? vs j ≡ some u → lock_of u.locks s ≡ Some lock → s ≢ slot
    nobody j u s lock e is same = let r = (i.locks.locked.held j u e s lock is).0 in let f = ap (λ z. m (Lock z)) same in
        absurd (omega arith)

    not_held : lock_of v.locks slot ≡ None
    not_held = cases (lock_of v.locks slot) refl
      where
        cases : (o : Option HeldLock) → lock_of v.locks slot ≡ o → o ≡ None
        cases None e = refl
        cases (Some lock) e = absurd (nobody id v slot lock there e refl)

    abbrev locked_locks : List HeldLock
    locked_locks = new_lock slot ∷ v.locks

    locked_other : (s : ℕ) → s ≢ slot → lock_of locked_locks s ≡ lock_of v.locks s
    locked_other s ne = ap (λ b. cond b (Some (new_lock slot)) (lock_of v.locks s)) (ne_eqb slot s (λ e. ne (sym e)))

    locked_now : (lock : HeldLock) → lock_of locked_locks slot ≡ Some lock → new_lock slot ≡ lock
    locked_now lock e = let q : Some (new_lock slot) ≡ Some lock =
        sym (ap (λ b. cond b (Some (new_lock slot)) (lock_of v.locks slot)) (eq-eqb slot slot refl)) ∙ e in cc

    locked_settled : (lock : HeldLock) (b : Side) → lock_of v.locks slot ≡ Some lock → is_emptied lock b ≡ true → ⊥
    locked_settled lock b is e = absurd (nobody id v slot lock there is refl)

    locked_no_end : (move : Move) → v.moving ≡ Some move → (move.copy.slot ≢ slot) × (move.old ≢ slot) × (move.parent ≢ slot)
    locked_no_end move is =
        let x = i.tree.moves.each id v there move is in (
          nobody id v move.copy.slot x.copy_lock.0 there x.copy_lock.1,
          nobody id v move.old x.old_lock.0 there x.old_lock.1,
          nobody id v move.parent x.parent_lock.0 there x.parent_lock.1,
        )

    locked_unmarked : i.chart.linked slot ≡ true → IsOdd (m (Life slot)) → ⊥
    locked_unmarked l o = let r = i.locks.marked slot l o in nobody r.1.id r.1.view slot r.0 r.1.there r.1.has refl

    locked_few : HasFewLocks (record v { locks = locked_locks })
    locked_few = let f = i.locks.few id v there in record {
      once = λ s. dite (ℕ_discrete slot s)
          (λ e. let none = no_lock_times v.locks s (ap (lock_of v.locks) (sym e) ∙ not_held) in
          let t = subst (λ z. times z (slot ∷ map (λ (l : HeldLock). l.slot) v.locks)
          ≡ 1 + times z (map (λ (l : HeldLock). l.slot) v.locks)) e (times_here slot (map (λ (l : HeldLock). l.slot) v.locks)) in
          omega arith)
          (λ ne. let t = times_other s slot (map (λ (l : HeldLock). l.slot) v.locks) ne in let o = f.once s in omega arith);
      few = (let few = needs.few in omega arith);
      outside = λ section is. absurd (let q : None ≡ Some section = sym needs.outside ∙ is in cc);
    }

    locked_law : HoldsNow k (stored m (Lock slot) (v.allowance.place + 1)) (set vs id (record v { locks = locked_locks })) h
    locked_law =
        relock_law k m vs h id v i there works slot (v.allowance.place + 1) locked_locks locked_other locked_settled locked_no_end (record {
          small = small;
          word = λ lock e. refl;
          named = λ nz. (new_lock slot, ap (λ b. cond b (Some (new_lock slot)) (lock_of v.locks slot)) (eq-eqb slot slot refl));
          alone = λ j u s lock ne e is. nobody j u s lock e is;
          few = locked_few;
          kept = λ lock e. subst (IsLockKept (stored m (Lock slot) (v.allowance.place + 1)) i.chart (record v { locks = locked_locks })
              slot)
              (locked_now lock e) (record {
                marked = λ q. absurd (let z : false ≡ true = q in cc);
                own_mark = λ l o. absurd (locked_unmarked l o);
                emptied = λ b q. absurd (not_emptied b q);
              });
          unmarked = locked_unmarked;
          known = λ lock e. subst (IsLockKnown (stored m (Lock slot) (v.allowance.place + 1)) (record v { locks = locked_locks }) slot)
              (locked_now lock e) (record {
                own = λ field number q. absurd (let z : None ≡ Some number = q in cc);
                tags = λ b number q. absurd (let z : None ≡ Some number = q in cc);
                fields = λ r generation number field has loaded same q. absurd (let z : None ≡ Some number = q in cc);
                lives = λ r generation has loaded q. absurd (let z : None ≡ Some (2 * generation) = q in cc);
                marked_life = λ q. absurd (let z : false ≡ true = q in cc);
              });
        }) (omega arith)
      where
        not_emptied : (b : Side) → is_emptied (new_lock slot) b ≡ true → ⊥
        not_emptied Left q = absurd (let z : false ≡ true = q in cc)
        not_emptied Right q = absurd (let z : false ≡ true = q in cc)

  -- K14: a lock is given up
  module _ (needs : NeedsUnlock v slot) where
    open needs use {lock}

    abbrev unlocked_locks : List HeldLock
    unlocked_locks = without_lock slot v.locks

    unlocked_gone : (l : HeldLock) → lock_of unlocked_locks slot ≡ Some l → ⊥
    unlocked_gone l e = absurd (let q : None ≡ Some l = sym (without_here slot v.locks) ∙ e in cc)

    unlocked_settled : (l : HeldLock) (b : Side) → lock_of v.locks slot ≡ Some l → is_emptied l b ≡ true → ⊥
    unlocked_settled l b is e = let q : Some lock ≡ Some l = sym needs.held ∙ is in let same : lock ≡ l = cc in
        side b (ap (λ (x : HeldLock). is_emptied x b) same ∙ e)
      where
        side : (b : Side) → is_emptied lock b ≡ true → ⊥
        side Left is_left = absurd (let q : false ≡ true = sym needs.left ∙ is_left in cc)
        side Right is_right = absurd (let q : false ≡ true = sym needs.right ∙ is_right in cc)

    unlocked_no_end : (move : Move) → v.moving ≡ Some move → (move.copy.slot ≢ slot) × (move.old ≢ slot) × (move.parent ≢ slot)
    unlocked_no_end move is = subst (IsNoEnd slot) is needs.no_end

    unlocked_alone : (j : ℕ) (u : View) (s : ℕ) (l : HeldLock) → j ≢ id → get_elem? vs j ≡ some u → lock_of u.locks s ≡ Some l → s ≢ slot
    unlocked_alone j u s l ne e is same =
        let mine = (i.locks.locked.held id v there slot lock needs.held).0 in
        let theirs = (i.locks.locked.held j u e s l is).0 in
        let f = ap (λ z. m (Lock z)) same in
        let has = dite (dec_le 1 u.allowance.places) (λ x. x)
        (λ none. let spent = i.seats.spent j u e (omega arith) in
        absurd (let q : None ≡ Some l = sym (ap (λ (z : View). lock_of z.locks s) spent) ∙ is in cc)) in
        apart k m vs h i id v there works j u ne e has (omega arith)

    unlocked_unmarked : i.chart.linked slot ≡ true → IsOdd (m (Life slot)) → ⊥
    unlocked_unmarked l o = absurd (let q : false ≡ true = sym needs.unmarked
        ∙ (i.locks.kept id v there slot lock needs.held).own_mark l o in cc)

    unlocked_few : HasFewLocks (record v { locks = unlocked_locks })
    unlocked_few = let f = i.locks.few id v there in record {
      once = λ s. (let r = (without_fewer slot s v.locks).0 in let o = f.once s in omega arith);
      few = (let r = (without_fewer slot 0 v.locks).1 in let o = f.few in omega arith);
      outside = λ section is. (let r = f.outside section is in (ap (without_lock slot) r.0, r.1));
    }

    unlocked_law : HoldsNow k (stored m (Lock slot) 0) (set vs id (record v { locks = unlocked_locks })) h
    unlocked_law =
        relock_law k m vs h id v i there works slot 0 unlocked_locks (λ s ne. without_other slot s v.locks ne) unlocked_settled
        unlocked_no_end (record {
          small = small;
          word = λ l e. absurd (unlocked_gone l e);
          named = λ nz. absurd (nz refl);
          alone = unlocked_alone;
          few = unlocked_few;
          kept = λ l e. absurd (unlocked_gone l e);
          unmarked = unlocked_unmarked;
          known = λ l e. absurd (unlocked_gone l e);
        }) ((without_fewer slot 0 v.locks).2)

module _ (k : Shape) (m : Memory) (vs : List View) (h : List Mark) (id : ℕ) (v : View) (i : HoldsNow k m vs h)
    (there : get_elem? vs id ≡ some v) (works : Works v) where
  -- an exchange of a lock, by its test
  takes : (slot : ℕ) (free : Bool) → slot < slot_count k → NeedsLock v → (m (Lock slot) == 0) ≡ free
      → IsKept k m h (stored m (Lock slot) (cond free (v.allowance.place + 1) (m (Lock slot))))
      (set vs id (cond free (record v { locks = new_lock slot ∷ v.locks }) v)) h
  takes slot true small needs free = record {
    invariant = locked_law k m vs h id v i there works slot small needs (eqb-true (m (Lock slot)) 0 free);
    past = lock_past m slot (v.allowance.place + 1) h;
  }
  takes slot false small needs free = only_loaded k m h (Lock slot) (set vs id v) h
      (subst (λ us. HoldsNow k m us h) (sym (set_again vs id v there)) i)

module _ (z : Stepper) where
  open z use {k, m, vs, h, id, v, inv, there, works}

  pub keeps_lock : (slot : ℕ) → slot < slot_count k → NeedsLock v
      → StepKeeps z (Lock slot) (cond (m (Lock slot) == 0) (v.allowance.place + 1) (m (Lock slot))) (after_lock v slot (m (Lock slot))) []
  keeps_lock slot small needs =
      no_mark k m (stored m (Lock slot) (cond (m (Lock slot) == 0) (v.allowance.place + 1) (m (Lock slot)))) h
      (set vs id (after_lock v slot (m (Lock slot)))) (takes k m vs h id v inv there works slot (m (Lock slot) == 0) small needs refl)

  pub keeps_unlock : (slot : ℕ) → slot < slot_count k → NeedsUnlock v slot → StepKeeps z (Lock slot) 0 (after_unlock v slot) []
  keeps_unlock slot small needs = no_mark k m (stored m (Lock slot) 0) h (set vs id (after_unlock v slot)) (record {
    invariant = unlocked_law k m vs h id v inv there works slot small needs;
    past = lock_past m slot 0 h;
  })

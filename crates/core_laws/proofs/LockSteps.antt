-- A step under a lock: the parts on locks after it, what is noted of a slot, and the parts on locks and on slots after the store of a link
-- or a value.
use Rattle.std.proofs.Common.{◌≡◌, ◌≢◌, ◌⊎◌, ℕ, ◌+◌, ◌*◌, ◌<◌, ◌≤◌, true, List, length, map, set, Some, None, refl, sym, ap, subst, ◌∙◌, ⊎_elim, inl, inr, Bool, false, cond, ◌∷◌, ◌-◌, ◌==◌, [], ◌++◌, Option, ne_eqb, eq-eqb, ◌/◌, arith}
use mathlib.Core.Logic.{dite}
use mathlib.Core.Option.{some}
use native.Mathlib.Decide.{ℕ_discrete}
use lib.ListN.{get_elem?}
use Rattle.prcu_marks.specs.declared.mark.Side.{Side}
use Rattle.core_state.specs.declared.words.Field.{Field}
use Rattle.core_state.specs.declared.words.Field.TheVariants.{Lock, Life, Link, Tag}
use Rattle.core_state.specs.declared.view.HeldLock.{HeldLock}
use Rattle.core_state.specs.declared.view.Reading.{Reading}
use Rattle.core_state.specs.declared.view.View.{View}
use Rattle.list_laws.specs.Counts.{times, IsIn, Each, numbers_from, total}
use Rattle.core_state.specs.Memory.{IsOdd, Memory, same_field, IsEven, stored, slot_count, flag}
use Rattle.core_state.specs.Views.{lock_of, HasLock, is_emptied, IsOwnField, known_in, readings_of, change_lock, note_lock, note_held, note_option, note_moving, noting, joined_spares, held_list, unraised_hand, joined_retired, spares_of, retired_of, slots_of}
use Rattle.core_state.specs.Tree.{Chart, IsEmptied, HasEmptied}
use Rattle.core_state.specs.Parts.{IsHolderOf, HasFewLocks, IsUnraised, IsLockKept, HasGeneration, IsLockKnown, IsReadingKept, LockParts, IsUnraisedOf, IsHeldKnown, AreHandsKnown, HasFewSpent, HasFewSlots, IsRetired, SlotParts, IsHandKnown}
use Rattle.list_laws.proofs.Lists.{each_set, total_same, somewhere_here, somewhere_set, somewhere_still}
use Rattle.core_laws.proofs.Locks.{change_here, change_other, slots_change, length_change, one_holder, linked_apart}
use Rattle.core_state.specs.declared.view.Known.{Known}
use Rattle.core_laws.proofs.Stores.{StoresIn, StoresAt, hands_beside}
use Rattle.core_frames.proofs.Views.{same_is, same_self, stored_here, stored_else, SamePlaces}
use Rattle.std.proofs.lemmas.Bool.{eqb-true, cases_eq}
use Rattle.core_state.specs.declared.view.Held.{Held}
use Rattle.core_state.specs.declared.view.Move.{Move}
use Rattle.prcu_marks.specs.declared.mark.Mark.{Mark}
use Rattle.core_state.specs.declared.shape.Shape.{Shape}
use Rattle.core_state.specs.Invariant.{HoldsNow}
use Rattle.prcu_marks.specs.Marks.{gone_at}
use Rattle.core_state.specs.declared.view.Retired.{Retired}
use Rattle.core_frames.proofs.Roles.{retired_own, slots_count}
use Rattle.core_frames.proofs.PlaceFrames.{retired_of_by, retired_by}

-- The parts on locks, after a step that changes locks of one view; and after one that changes one lock and stores in that lock's slot
-- alone.

-- What a step says of locks: which lock each lock of the view was, and that what is said of each lock holds of it afterwards.
module _ (m m' : Memory) (n : ℕ) (g to : Chart) (vs : List View) (id : ℕ) (v w : View) (Becomes : ℕ → HeldLock → HeldLock → Type 0) where
  pub record ChangesLocks : Type 0 where
    pub words : (s : ℕ) → m' (Lock s) ≡ m (Lock s)
    pub place : w.allowance.place ≡ v.allowance.place
    pub few : HasFewLocks v → HasFewLocks w
    pub back : (s : ℕ) (l' : HeldLock) → lock_of w.locks s ≡ Some l' → (l : HeldLock) × (lock_of v.locks s ≡ Some l) × Becomes s l l'
    pub forth : (s : ℕ) (l : HeldLock) → lock_of v.locks s ≡ Some l → (l' : HeldLock) × (lock_of w.locks s ≡ Some l')
    pub holder : (s : ℕ) → to.linked s ≡ true → IsOdd (m' (Life s)) → (l : HeldLock) × IsHolderOf vs s l
    pub kept : (s : ℕ) (l l' : HeldLock) → lock_of v.locks s ≡ Some l → Becomes s l l' → IsLockKept m' to w s l'
    pub kept_else : (j : ℕ) (u : View) (s : ℕ) (l : HeldLock) → j ≢ id → get_elem? vs j ≡ some u → lock_of u.locks s ≡ Some l
        → IsLockKept m' to u s l
    pub known : (s : ℕ) (l l' : HeldLock) → lock_of v.locks s ≡ Some l → Becomes s l l' → IsLockKnown m' w s l'
    pub known_else : (j : ℕ) (u : View) (s : ℕ) (l : HeldLock) → j ≢ id → get_elem? vs j ≡ some u → lock_of u.locks s ≡ Some l
        → IsLockKnown m' u s l
    pub readings : Each (readings_of w) (IsReadingKept m' to)
    pub readings_else : (j : ℕ) (u : View) → j ≢ id → get_elem? vs j ≡ some u → Each (readings_of u) (IsReadingKept m' to)

  module _ (there : get_elem? vs id ≡ some v) (c : ChangesLocks) where
    -- who holds a lock holds it afterwards
    holder_after : (s : ℕ) (l : HeldLock) → IsHolderOf vs s l → (l' : HeldLock) × IsHolderOf (set vs id w) s l'
    holder_after s l x = ⊎_elim
        (λ (held : lock_of v.locks s ≡ Some l). (let f = c.forth s l held in (f.0, somewhere_here vs id v w there f.1)))
        (λ (still : IsHolderOf (set vs id w) s l). (l, still)) (somewhere_set vs id v w there x)

    kept_after : Each (set vs id w) (λ u. (s : ℕ) (l : HeldLock) → lock_of u.locks s ≡ Some l → IsLockKept m' to u s l)
    kept_after = each_set (λ j u. (s : ℕ) (l : HeldLock) → lock_of u.locks s ≡ Some l → IsLockKept m' to u s l) vs id w
        (λ s l is. (let b = c.back s l is in c.kept s b.0 l b.1 b.2)) (λ j u ne e s l is. c.kept_else j u s l ne e is)

    pub locks_by : LockParts m n g vs → LockParts m' n to (set vs id w)
    locks_by t = record {
      locked = record {
        held = each_set (λ j u. (s : ℕ) (l : HeldLock) → lock_of u.locks s ≡ Some l
            → (m' (Lock s) ≡ u.allowance.place + 1) × (s < n)) vs id w
            (λ s l is. (let b = c.back s l is in let r = t.locked.held id v there s b.0 b.1 in
            (c.words s ∙ r.0 ∙ ap (λ x. x + 1) (sym c.place), r.1)))
            (λ j u ne e s l is. (let r = t.locked.held j u e s l is in (c.words s ∙ r.0, r.1)));
        named = λ s lt ne. (let r = t.locked.named s lt (λ e. ne (c.words s ∙ e)) in holder_after s r.0 r.1);
      };
      few = each_set (λ j u. HasFewLocks u) vs id w (c.few (t.few id v there)) (λ j u ne e. t.few j u e);
      kept = kept_after;
      marked = λ s on odd. (let x = c.holder s on odd in let y = holder_after s x.0 x.1 in let z = y.1 in
          (y.0, z, (kept_after z.id z.view z.there s y.0 z.has).own_mark on odd));
      known = each_set (λ j u. (s : ℕ) (l : HeldLock) → lock_of u.locks s ≡ Some l → IsLockKnown m' u s l) vs id w
          (λ s l is. (let b = c.back s l is in c.known s b.0 l b.1 b.2)) (λ j u ne e s l is. c.known_else j u s l ne e is);
      readings = each_set (λ j u. Each (readings_of u) (IsReadingKept m' to)) vs id w c.readings c.readings_else;
    }

-- locks of the same slots are as few, outside sections
pub few_outside : (v w : View) → map (λ (l : HeldLock). l.slot) w.locks ≡ map (λ (l : HeldLock). l.slot) v.locks
    → length w.locks ≡ length v.locks → w.section ≡ None → HasFewLocks v → HasFewLocks w
few_outside v w slots few outside t = record {
  once = λ s. subst (λ ls. times s ls ≤ 1) (sym slots) (t.once s);
  few = subst (λ z. z ≤ 5) (sym few) t.few;
  outside = λ section is. absurd (let e : None ≡ Some section = sym outside ∙ is in cc);
}

-- What is known under the lock of a slot of which no field has changed.
pub lock_beside : (m m' : Memory) (v w : View) (s : ℕ) (l l' : HeldLock) → ((field : Field) → IsOwnField s field → m' field ≡ m field)
    → l'.known ≡ l.known → (l'.marked ≡ true → l.marked ≡ true) → readings_of w ≡ readings_of v → IsLockKnown m v s l
    → IsLockKnown m' w s l'
lock_beside m m' v w s l l' words known marks same t = record {
  own = λ field number e. t.own field number (was field number e);
  tags = λ b number e. words (Tag s b) refl ∙ t.tags b number (was (Tag s b) number e);
  fields = λ r generation number field has loaded is e. words field (t.own field number (was field number e))
      ∙ t.fields r generation number field (subst (λ rs. IsIn rs r) same has) loaded (back generation is) (was field number e);
  lives = λ r generation has loaded e. words (Life s) refl
      ∙ t.lives r generation (subst (λ rs. IsIn rs r) same has) loaded (was (Life s) (2 * generation) e);
  marked_life = λ e. ap (λ ks. known_in ks (Life s)) known ∙ t.marked_life (marks e) ∙ ap Some (sym (words (Life s) refl));
}
  where
    was : (field : Field) (number : ℕ) → known_in l'.known field ≡ Some number → known_in l.known field ≡ Some number
    was field number e = ap (λ ks. known_in ks field) (sym known) ∙ e

    back : (generation : ℕ) → HasGeneration m' s generation l' → HasGeneration m s generation l
    back generation has = ⊎_elim (λ e. inl (sym (words (Life s) refl) ∙ e))
        (λ (e : (m' (Life s) ≡ 2 * generation + 1) × (l'.marked ≡ true)). inr (sym (words (Life s) refl) ∙ e.0, marks e.1)) has

-- one lock of the view is another now
pub record OneLock (v w : View) (slot : ℕ) (lock new : HeldLock) : Type 0 where
  pub held : lock_of v.locks slot ≡ Some lock
  pub now : lock_of w.locks slot ≡ Some new
  pub other : (s : ℕ) → s ≢ slot → lock_of w.locks s ≡ lock_of v.locks s
  pub slots : map (λ (l : HeldLock). l.slot) w.locks ≡ map (λ (l : HeldLock). l.slot) v.locks
  pub few : length w.locks ≡ length v.locks
  pub place : w.allowance.place ≡ v.allowance.place
  pub readings : readings_of w ≡ readings_of v
  pub retired : w.hands.retired ≡ v.hands.retired
  pub outside : w.section ≡ None

-- one change of a lock, and one after another
pub one_changed : (v : View) (slot : ℕ) (lock : HeldLock) (f : HeldLock → HeldLock) → ((l : HeldLock) → (f l).slot ≡ l.slot)
    → lock_of v.locks slot ≡ Some lock → v.section ≡ None → OneLock v (record v { locks = change_lock slot f v.locks }) slot lock (f lock)
one_changed v slot lock f keep held outside = record {
  held = held;
  now = change_here slot f keep v.locks lock held;
  other = λ s ne. change_other slot f keep v.locks s ne;
  slots = slots_change slot f keep v.locks;
  few = length_change slot f keep v.locks;
  place = refl;
  readings = refl;
  retired = refl;
  outside = outside;
}

pub one_then : (v u w : View) (slot : ℕ) (a b c : HeldLock) → OneLock v u slot a b → OneLock u w slot b c → OneLock v w slot a c
one_then v u w slot a b c x y = record {
  held = x.held;
  now = y.now;
  other = λ s ne. y.other s ne ∙ x.other s ne;
  slots = y.slots ∙ x.slots;
  few = y.few ∙ x.few;
  place = y.place ∙ x.place;
  readings = y.readings ∙ x.readings;
  retired = y.retired ∙ x.retired;
  outside = y.outside;
}

pub noted_then : (v : View) (slot : ℕ) (lock : HeldLock) (entry : Known) (f : HeldLock → HeldLock) → ((l : HeldLock) → (f l).slot ≡ l.slot)
    → lock_of v.locks slot ≡ Some lock → v.section ≡ None
    → OneLock v (record v { locks = change_lock slot f (change_lock slot (note_lock entry) v.locks) }) slot lock (f (note_lock entry lock))
noted_then v slot lock entry f keep held outside =
    let noted : View = record v { locks = change_lock slot (note_lock entry) v.locks } in
    let first = one_changed v slot lock (note_lock entry) (λ l. refl) held outside in
    one_then v noted (record v { locks = change_lock slot f (change_lock slot (note_lock entry) v.locks) }) slot lock (note_lock entry lock)
    (f (note_lock entry lock)) first (one_changed noted slot (note_lock entry lock) f keep first.now outside)

-- Who emptied a side still did, where the changed lock still says so.
pub emptied_after : (vs : List View) (id : ℕ) (v w : View) (slot : ℕ) (lock new : HeldLock) → get_elem? vs id ≡ some v
    → OneLock v w slot lock new → (s : ℕ) (a : Side) → (s ≡ slot → is_emptied lock a ≡ true → is_emptied new a ≡ true)
    → IsEmptied vs s a → IsEmptied (set vs id w) s a
emptied_after vs id v w slot lock new there one s a says x =
    somewhere_still vs id v w there (λ (had : HasEmptied v s a). dite (ℕ_discrete s slot)
    (λ same. (let q : Some had.lock ≡ Some lock = sym had.held ∙ ap (lock_of v.locks) same ∙ one.held in let l : had.lock ≡ lock = cc in
    record {
      lock = new;
      held = ap (lock_of w.locks) same ∙ one.now;
      emptied = says same (ap (λ z. is_emptied z a) (sym l) ∙ had.emptied);
    }))
    (λ ne. record { lock = had.lock; held = one.other s ne ∙ had.held; emptied = had.emptied })) x

module _ (m m' : Memory) (n : ℕ) (g to : Chart) (vs : List View) (id : ℕ) (v w : View) (there : get_elem? vs id ≡ some v) (slot : ℕ)
    (lock new : HeldLock) (one : OneLock v w slot lock new) where
  -- what the step stored, and what it has to say of its slot
  pub record StoresUnder : Type 0 where
    pub words : (s : ℕ) (field : Field) → s ≢ slot → IsOwnField s field → m' field ≡ m field
    pub locks : (s : ℕ) → m' (Lock s) ≡ m (Lock s)
    pub alone : (j : ℕ) (u : View) → j ≢ id → get_elem? vs j ≡ some u → HasLock u slot → ⊥
    pub still : (s : ℕ) → g.linked s ≡ true → to.linked s ≡ true
    pub back : (s : ℕ) → to.linked s ≡ true → IsOdd (m' (Life s)) → g.linked s ≡ true
    pub kept : IsLockKept m' to w slot new
    pub known : IsLockKnown m' w slot new
    pub reading : (r : Reading) → IsReadingKept m g r → IsReadingKept m' to r

  module _ (c : StoresUnder) where
    life_else : (s : ℕ) → s ≢ slot → m' (Life s) ≡ m (Life s)
    life_else s ne = c.words s (Life s) ne refl

    kept_else : (u z : View) (s : ℕ) (l : HeldLock) → s ≢ slot → z.hands.retired ≡ u.hands.retired → IsLockKept m g u s l
        → IsLockKept m' to z s l
    kept_else u z s l ne retired t = record {
      marked = λ e. (let r = t.marked e in (c.still s r.0, subst IsOdd (sym (life_else s ne)) r.1));
      own_mark = λ linked odd. t.own_mark (c.back s linked odd) (subst IsOdd (life_else s ne) odd);
      emptied = λ b e. (let r = t.emptied b e in (
        c.words s (Link s b) ne refl ∙ r.0,
        ⊎_elim (λ on. inl (c.still s on)) (λ (x : IsUnraised u s). inr
            (subst (λ rs. IsUnraisedOf rs s) (sym retired) x)) r.1,
      ));
    }

    apart : (j : ℕ) (u : View) (s : ℕ) (l : HeldLock) → j ≢ id → get_elem? vs j ≡ some u → lock_of u.locks s ≡ Some l → s ≢ slot
    apart j u s l ne e is same = c.alone j u ne e (l, ap (lock_of u.locks) (sym same) ∙ is)

    -- the changed lock is another now, and each other is what it was
    abbrev becomes : ℕ → HeldLock → HeldLock → Type 0
    becomes s l l' = ((s ≡ slot) × (new ≡ l')) ⊎ ((s ≢ slot) × (l ≡ l'))

    pub lock_step : LockParts m n g vs → LockParts m' n to (set vs id w)
    lock_step t = locks_by m m' n g to vs id v w becomes there (record {
      words = c.locks;
      place = one.place;
      few = few_outside v w one.slots one.few one.outside;
      back = λ s l' is. dite (ℕ_discrete s slot)
          (λ same. (let q : Some new ≡ Some l' = sym one.now ∙ ap (lock_of w.locks) (sym same) ∙ is in let r : new ≡ l' = cc in
          (lock, ap (lock_of v.locks) same ∙ one.held, inl (same, r))))
          (λ ne. (l', sym (one.other s ne) ∙ is, inr (ne, refl)));
      forth = λ s l is. dite (ℕ_discrete s slot) (λ same. (new, ap (lock_of w.locks) same ∙ one.now)) (λ ne. (l, one.other s ne ∙ is));
      holder = λ s on odd. dite (ℕ_discrete s slot)
          (λ same. (lock, record { id = id; view = v; there = there; has = ap (lock_of v.locks) same ∙ one.held }))
          (λ ne. (let r = t.marked s (c.back s on odd) (subst IsOdd (life_else s ne) odd) in (r.0, r.1)));
      kept = λ s l l' is which. ⊎_elim
          (λ (x : (s ≡ slot) × (new ≡ l')). subst (λ (z : ℕ × HeldLock). IsLockKept m' to w z.0 z.1) (λ i. (sym x.0 i, x.1 i)) c.kept)
          (λ (x : (s ≢ slot) × (l ≡ l')). subst (IsLockKept m' to w s) x.1
          (kept_else v w s l x.0 one.retired (t.kept id v there s l is))) which;
      kept_else = λ j u s l ne e is. kept_else u u s l (apart j u s l ne e is) refl (t.kept j u e s l is);
      known = λ s l l' is which. ⊎_elim
          (λ (x : (s ≡ slot) × (new ≡ l')). subst (λ (z : ℕ × HeldLock). IsLockKnown m' w z.0 z.1) (λ i. (sym x.0 i, x.1 i)) c.known)
          (λ (x : (s ≢ slot) × (l ≡ l')). subst (IsLockKnown m' w s) x.1
          (lock_beside m m' v w s l l (λ field own. c.words s field x.0 own) refl (λ q. q) one.readings
          (t.known id v there s l is))) which;
      known_else = λ j u s l ne e is. lock_beside m m' u u s l l (λ field own. c.words s field (apart j u s l ne e is) own) refl
          (λ q. q) refl (t.known j u e s l is);
      readings = subst (λ rs. Each rs (IsReadingKept m' to)) (sym one.readings) (λ j r e. c.reading r (t.readings id v there j r e));
      readings_else = λ j u ne e l r is. c.reading r (t.readings j u e l r is);
    }) t

-- the same, where the chart stays
pub lock_stays : (m m' : Memory) (n : ℕ) (g : Chart) (vs : List View) (id : ℕ) (v w : View) → get_elem? vs id ≡ some v
    → (slot : ℕ) (lock new : HeldLock) → OneLock v w slot lock new → StoresIn m m' slot
    → ((j : ℕ) (u : View) → j ≢ id → get_elem? vs j ≡ some u → HasLock u slot → ⊥)
    → IsLockKept m' g w slot new → IsLockKnown m' w slot new → ((r : Reading) → IsReadingKept m g r → IsReadingKept m' g r)
    → LockParts m n g vs → LockParts m' n g (set vs id w)
lock_stays m m' n g vs id v w there slot lock new one stores alone kept known reading =
    lock_step m m' n g g vs id v w there slot lock new one
    (record {
      words = stores.away;
      locks = stores.lock;
      alone = alone;
      still = λ s l. l;
      back = λ s l odd. l;
      kept = kept;
      known = known;
      reading = reading;
    })

-- What is known with one more entry.

-- what is known of a field is the new entry's number, or was known of another
pub known_cases : (loads : List Known) (field f : Field) (number n : ℕ) (by_store : Bool)
    → known_in (record { field = field; number = number; stored = by_store } ∷ loads) f ≡ Some n
    → ((field ≡ f) × (number ≡ n)) ⊎ ((field ≢ f) × (known_in loads f ≡ Some n))
known_cases loads field f number n by_store known = cases (same_field field f) refl known
  where
    cases : (b : Bool) → same_field field f ≡ b → cond b (Some number) (known_in loads f) ≡ Some n
        → ((field ≡ f) × (number ≡ n)) ⊎ ((field ≢ f) × (known_in loads f ≡ Some n))
    cases true e q = inl (same_is field f e, (let r : number ≡ n = cc in r))
    cases false e q = inr ((λ same. absurd (let r : false ≡ true = sym e ∙ ap (same_field field) (sym same) ∙ same_self field in cc)), q)

pub known_more : (loads : List Known) (field f : Field) (number n : ℕ) (by_store : Bool)
    → known_in (record { field = field; number = number; stored = by_store } ∷ loads) f ≡ Some n
    → ((field ≡ f) × (number ≡ n)) ⊎ (known_in loads f ≡ Some n)
known_more loads field f number n by_store known =
    ⊎_elim (λ e. inl e) (λ (q : (field ≢ f) × (known_in loads f ≡ Some n)). inr q.1) (known_cases loads field f number n by_store known)

-- what was known is known, where the new entry doesn't differ
pub known_still : (loads : List Known) (field f : Field) (number n : ℕ) (by_store : Bool) → (field ≡ f → number ≡ n)
    → known_in loads f ≡ Some n → known_in (record { field = field; number = number; stored = by_store } ∷ loads) f ≡ Some n
known_still loads field f number n by_store agree known = cases (same_field field f) refl
  where
    cases : (b : Bool) → same_field field f ≡ b → cond b (Some number) (known_in loads f) ≡ Some n
    cases true e = ap Some (agree (same_is field f e))
    cases false e = known

pub known_here : (loads : List Known) (field : Field) (number : ℕ) (by_store : Bool)
    → known_in (record { field = field; number = number; stored = by_store } ∷ loads) field ≡ Some number
known_here loads field number by_store = ap (λ b. cond b (Some number) (known_in loads field)) (same_self field)

-- What is noted of a slot: under its lock, and of the slot in hand, the spare and the copy. What was known is known, and what is new is so.

-- What is known under the lock of a slot with one more entry, which is so, where the other fields that are known of the slot stay.
pub lock_noted : (m m' : Memory) (v w : View) (slot : ℕ) (lock new : HeldLock) (field : Field) (number : ℕ) (by_store : Bool)
    → new.known ≡ record { field = field; number = number; stored = by_store } ∷ lock.known
    → IsOwnField slot field → m' field ≡ number → ((f : Field) → IsOwnField slot f → field ≢ f → m' f ≡ m f) → readings_of w ≡ readings_of v
    → ((generation : ℕ) → HasGeneration m' slot generation new → HasGeneration m slot generation lock)
    → (new.marked ≡ true → known_in new.known (Life slot) ≡ Some (m' (Life slot))) → IsLockKnown m v slot lock
    → IsLockKnown m' w slot new
lock_noted m m' v w slot lock new field number by_store noted own now else same back marked t = record {
  own = λ f n e. ⊎_elim (λ (q : (field ≡ f) × (number ≡ n)). subst (IsOwnField slot) q.0 own)
      (λ (q : (field ≢ f) × (known_in lock.known f ≡ Some n)). t.own f n q.1) (by_entry f n e);
  tags = λ b n e. ⊎_elim (λ (q : (field ≡ Tag slot b) × (number ≡ n)). ap m' (sym q.0) ∙ now ∙ q.1)
      (λ (q : (field ≢ Tag slot b) × (known_in lock.known (Tag slot b) ≡ Some n)). else (Tag slot b) refl q.0 ∙ t.tags b n q.1)
      (by_entry (Tag slot b) n e);
  fields = λ r generation n f has loaded is e. ⊎_elim (λ (q : (field ≡ f) × (number ≡ n)). ap m' (sym q.0) ∙ now ∙ q.1)
      (λ (q : (field ≢ f) × (known_in lock.known f ≡ Some n)). else f (t.own f n q.1) q.0
      ∙ t.fields r generation n f (subst (λ rs. IsIn rs r) same has) loaded (back generation is) q.1) (by_entry f n e);
  lives = λ r generation has loaded e. ⊎_elim (λ (q : (field ≡ Life slot) × (number ≡ 2 * generation)). ap m' (sym q.0) ∙ now ∙ q.1)
      (λ (q : (field ≢ Life slot) × (known_in lock.known (Life slot) ≡ Some (2 * generation))). else (Life slot) refl q.0
      ∙ t.lives r generation (subst (λ rs. IsIn rs r) same has) loaded q.1) (by_entry (Life slot) (2 * generation) e);
  marked_life = marked;
}
  where
    by_entry : (f : Field) (n : ℕ) → known_in new.known f ≡ Some n
        → ((field ≡ f) × (number ≡ n)) ⊎ ((field ≢ f) × (known_in lock.known f ≡ Some n))
    by_entry f n e = known_cases lock.known field f number n by_store (ap (λ ks. known_in ks f) (sym noted) ∙ e)

-- what is noted of another slot
pub note_held-else : (s : ℕ) (known : Known) (held : Held) → held.slot ≢ s → note_held s known held ≡ held
note_held-else s known held ne = ap (λ b. cond b (record held { known = known ∷ held.known }) held) (ne_eqb held.slot s ne)

pub note_option-else : (s : ℕ) (known : Known) (o : Option Held) → ((held : Held) → o ≡ Some held → held.slot ≢ s)
    → note_option s known o ≡ o
note_option-else s known None apart = refl
note_option-else s known (Some held) apart = ap Some (note_held-else s known held (apart held refl))

pub note_moving-else : (s : ℕ) (known : Known) (o : Option Move) → ((move : Move) → o ≡ Some move → move.copy.slot ≢ s)
    → note_moving s known o ≡ o
note_moving-else s known None apart = refl
note_moving-else s known (Some move) apart = ap (λ c. Some (record move { copy = c })) (note_held-else s known move.copy (apart move refl))

-- what is noted changes no slot
pub note_held-slot : (s : ℕ) (known : Known) (held : Held) → (note_held s known held).slot ≡ held.slot
note_held-slot s known held = cases (held.slot == s)
  where
    cases : (b : Bool) → (cond b (record held { known = known ∷ held.known }) held).slot ≡ held.slot
    cases true = refl
    cases false = refl

-- and is one more entry, or none
pub note_held-form : (s : ℕ) (known : Known) (held : Held) → record held { known = (note_held s known held).known } ≡ note_held s known held
note_held-form s known held = cases (held.slot == s)
  where
    cases : (t : Bool) → record held { known = (cond t (record held { known = known ∷ held.known }) held).known }
        ≡ cond t (record held { known = known ∷ held.known }) held
    cases true = refl
    cases false = refl

pub note_option-slots : (s : ℕ) (known : Known) (o : Option Held) → held_list (note_option s known o) ≡ held_list o
note_option-slots s known None = refl
note_option-slots s known (Some held) = ap (λ x. x ∷ []) (note_held-slot s known held)

-- Where the slot is none in hand, no spare and no copy, its lock alone is another.
pub noting-lock : (v : View) (s : ℕ) (field : Field) (number : ℕ) (by_store : Bool)
    → ((held : Held) → v.hands.hand ≡ Some held → held.slot ≢ s) → ((held : Held) → v.hands.spare ≡ Some held → held.slot ≢ s)
    → ((move : Move) → v.moving ≡ Some move → move.copy.slot ≢ s)
    → noting v s field number by_store ≡ record v
    { locks = change_lock s (note_lock (record { field = field; number = number; stored = by_store })) v.locks }
noting-lock v s field number by_store hand spare copy =
    let known : Known = record { field = field; number = number; stored = by_store } in
    λ i. record v {
      locks = change_lock s (note_lock known) v.locks;
      hands = record v.hands {
        hand = note_option-else s known v.hands.hand hand i;
        spare = note_option-else s known v.hands.spare spare i;
      };
      moving = note_moving-else s known v.moving copy i;
    }

-- What is known of a slot of one's own, after a number was noted of a slot: words of that slot alone have changed.
module _ (m m' : Memory) (s : ℕ) (field : Field) (number : ℕ) (by_store : Bool) (own : IsOwnField s field) (now : m' field ≡ number)
    (words : (t : ℕ) (f : Field) → t ≢ s → IsOwnField t f → m' f ≡ m f) (else : (f : Field) → IsOwnField s f → field ≢ f → m' f ≡ m f) where
  abbrev entry : Known
  entry = record { field = field; number = number; stored = by_store }

  pub held_else : (held : Held) → held.slot ≢ s → IsHeldKnown m held → IsHeldKnown m' held
  held_else held ne t f n e = let r = t f n e in (r.0, words held.slot f ne r.0 ∙ r.1)

  pub held_noted : (held : Held) → IsHeldKnown m held → IsHeldKnown m' (note_held s entry held)
  held_noted held t = cases (held.slot == s) refl
    where
      cases : (b : Bool) → (held.slot == s) ≡ b → IsHeldKnown m' (cond b (record held { known = entry ∷ held.known }) held)
      cases true e f n known = let same = eqb-true held.slot s e in
          ⊎_elim (λ (q : (field ≡ f) × (number ≡ n)). (
            subst (λ t. IsOwnField t f) (sym same) (subst (IsOwnField s) q.0 own),
            ap m' (sym q.0) ∙ now ∙ q.1,
          ))
          (λ (q : (field ≢ f) × (known_in held.known f ≡ Some n)). (let r = t f n q.1 in
          (r.0, else f (subst (λ z. IsOwnField z f) same r.0) q.0 ∙ r.1)))
          (known_cases held.known field f number n by_store known)
      cases false e f n known = held_else held (λ same. absurd (let q : true ≡ false = sym (eq-eqb held.slot s same) ∙ e in cc)) t f n known

  option_noted : (o : Option Held) → ((held : Held) → o ≡ Some held → IsHeldKnown m held) → (held : Held)
      → note_option s entry o ≡ Some held → IsHeldKnown m' held
  option_noted None all held is = absurd (cc)
  option_noted (Some was) all held is = let q : note_held s entry was ≡ held = cc in
      subst (IsHeldKnown m') q (held_noted was (all was refl))

  -- the slot in hand, the spare and the copy are known, and unmarked where the lives of those slots are even
  pub hands_noted : (v : View) → ((t : ℕ) → IsEven (m (Life t)) → IsEven (m' (Life t))) → AreHandsKnown m v
      → AreHandsKnown m' (noting v s field number by_store)
  hands_noted v even t = record {
    hand = λ held is. hand_noted v.hands.hand t.hand held is;
    spare = λ held is. option_noted v.hands.spare t.spare held is;
    copy = λ move is. copy_noted v.moving (λ x e. t.copy x e) move is;
    spares = λ x has. even x (t.spares x (subst (λ l. 1 ≤ times x l)
        (λ i. note_option-slots s entry v.hands.spare i
        ++ (numbers_from (v.allowance.place + 2) (v.allowance.places - 1) ++ joined_spares v.allowance.joined)) has));
  }
    where
      one_noted : (held : Held) → IsHandKnown m held → IsHandKnown m' (note_held s entry held)
      one_noted held r = record {
        known = held_noted held r.known;
        even = subst (λ z. IsEven (m' (Life z))) (sym (note_held-slot s entry held)) (even held.slot r.even);
      }

      hand_noted : (o : Option Held) → ((held : Held) → o ≡ Some held → IsHandKnown m held) → (held : Held)
          → note_option s entry o ≡ Some held → IsHandKnown m' held
      hand_noted None all held is = absurd (cc)
      hand_noted (Some was) all held is = let q : note_held s entry was ≡ held = cc in subst (IsHandKnown m') q (one_noted was (all was refl))

      copy_noted : (o : Option Move) → ((move : Move) → o ≡ Some move → IsHandKnown m move.copy) → (move : Move)
          → note_moving s entry o ≡ Some move → IsHandKnown m' move.copy
      copy_noted None all move is = absurd (cc)
      copy_noted (Some was) all move is =
          let q : record was { copy = note_held s entry was.copy } ≡ move = cc in
          subst (λ (z : Move). IsHandKnown m' z.copy) q (one_noted was.copy (all was refl))

-- the slot in hand and the spare stay what they are
pub note_option-unraised : (s : ℕ) (known : Known) (o : Option Held) → unraised_hand (note_option s known o) ≡ unraised_hand o
note_option-unraised s known None = refl
note_option-unraised s known (Some held) = cases (held.slot == s)
  where
    cases : (b : Bool) → unraised_hand (Some (cond b (record held { known = known ∷ held.known }) held)) ≡ unraised_hand (Some held)
    cases true = refl
    cases false = refl

pub note_option-none : (s : ℕ) (known : Known) (o : Option Held) → note_option s known o ≡ None → o ≡ None
note_option-none s known None e = refl
note_option-none s known (Some held) e = absurd (cc)

pub note_option-still_none : (s : ℕ) (known : Known) (o : Option Held) → o ≡ None → note_option s known o ≡ None
note_option-still_none s known o e = ap (note_option s known) e

-- The parts on locks, after the store of a link or a value under its slot's lock.

module _ (k : Shape) (m : Memory) (vs : List View) (h : List Mark) (i : HoldsNow k m vs h) (id : ℕ) (v w : View)
    (there : get_elem? vs id ≡ some v)
    (f : Field) (n p : ℕ) (stores : StoresAt m (stored m f n) p f) (by_store : Bool) (to : Chart) where
  abbrev m' : Memory
  m' = stored m f n

  abbrev new : Known
  new = record { field = f; number = n; stored = by_store }

  -- what becomes of a lock of the view
  pub record LockChange (s : ℕ) (l l' : HeldLock) : Type 0 where
    pub here : s ≡ p → l'.known ≡ new ∷ l.known
    pub beside : s ≢ p → l'.known ≡ l.known
    pub marked : to.linked s ≡ true → l'.marked ≡ l.marked
    pub still_marked : l'.marked ≡ true → (l.marked ≡ true) × (i.chart.linked s ≡ true → to.linked s ≡ true)
    pub emptied : (a : Side) → is_emptied l' a ≡ true → (m' (Link s a) ≡ 0) × ((to.linked s ≡ true) ⊎ IsUnraised w s)

  -- what a step has to say for the parts on locks
  pub record StoresLocked : Type 0 where
    pub mine : HasLock v p
    pub linked_back : (s : ℕ) → to.linked s ≡ true → i.chart.linked s ≡ true
    pub even_stays : (s : ℕ) → i.chart.linked s ≡ true → IsEven (m (Life s)) → to.linked s ≡ true
    pub others_stay : (j : ℕ) (u : View) (s : ℕ) → j ≢ id → get_elem? vs j ≡ some u → HasLock u s → i.chart.linked s ≡ true
        → to.linked s ≡ true
    pub place : w.allowance.place ≡ v.allowance.place
    pub slots : map (λ (l : HeldLock). l.slot) w.locks ≡ map (λ (l : HeldLock). l.slot) v.locks
    pub few : length w.locks ≡ length v.locks
    pub readings : readings_of w ≡ readings_of v
    pub outside : w.section ≡ None
    pub back : (s : ℕ) (l' : HeldLock) → lock_of w.locks s ≡ Some l' → (l : HeldLock) × (lock_of v.locks s ≡ Some l) × LockChange s l l'
    pub forth : (s : ℕ) (l : HeldLock) → lock_of v.locks s ≡ Some l → (l' : HeldLock) × (lock_of w.locks s ≡ Some l') × LockChange s l l'

  module _ (c : StoresLocked) where
    -- a slot that another view locks isn't the one stored in
    other_slot : (j : ℕ) (u : View) (s : ℕ) → j ≢ id → get_elem? vs j ≡ some u → HasLock u s → s ≢ p
    other_slot j u s ne e has same = ne (one_holder k m vs h i j id u v p e there (subst (HasLock u) same has) c.mine)

    known_mine : (s : ℕ) (l l' : HeldLock) → LockChange s l l' → IsLockKnown m v s l → IsLockKnown m' w s l'
    known_mine s l l' q t = ⊎_elim
        (λ (e : s ≡ p). lock_noted m m' v w s l l' f n by_store (q.here e) (subst (λ z. IsOwnField z f) (sym e) stores.own)
        (stored_here m f n) (λ field own ne. stored_else m f field n ne) c.readings back
        (λ z. ap (λ ks. known_in ks (Life s)) (q.here e)
        ∙ known_still l.known f (Life s) n (m' (Life s)) by_store (λ same. absurd (stores.no_life s same)) (was_marked z)) t)
        (λ ne. lock_beside m m' v w s l l' (λ field own. stores.away s field ne own) (q.beside ne) (λ z. (q.still_marked z).0) c.readings t)
        (cases_eq s p)
      where
        was_marked : l'.marked ≡ true → known_in l.known (Life s) ≡ Some (m' (Life s))
        was_marked z = t.marked_life (q.still_marked z).0 ∙ ap Some (sym (stores.life s))

        back : (generation : ℕ) → HasGeneration m' s generation l' → HasGeneration m s generation l
        back generation has = ⊎_elim (λ e. inl (sym (stores.life s) ∙ e))
            (λ (e : (m' (Life s) ≡ 2 * generation + 1) × (l'.marked ≡ true)). inr (sym (stores.life s) ∙ e.0, (q.still_marked e.1).0)) has

    odd_back : (s : ℕ) → IsOdd (m' (Life s)) → IsOdd (m (Life s))
    odd_back s e = subst IsOdd (stores.life s) e

    kept_mine : (s : ℕ) (l l' : HeldLock) → LockChange s l l' → IsLockKept m i.chart v s l → IsLockKept m' to w s l'
    kept_mine s l l' q t = record {
      marked = λ z. (let a = q.still_marked z in let r = t.marked a.0 in (a.1 r.0, subst IsOdd (sym (stores.life s)) r.1));
      own_mark = λ linked odd. q.marked linked ∙ t.own_mark (c.linked_back s linked) (odd_back s odd);
      emptied = λ b z. q.emptied b z;
    }

    kept_others : (j : ℕ) (u : View) (s : ℕ) (l : HeldLock) → j ≢ id → get_elem? vs j ≡ some u → lock_of u.locks s ≡ Some l
        → IsLockKept m i.chart u s l → IsLockKept m' to u s l
    kept_others j u s l ne e is t = record {
      marked = λ z. (let r = t.marked z in (c.others_stay j u s ne e (l, is) r.0, subst IsOdd (sym (stores.life s)) r.1));
      own_mark = λ linked odd. t.own_mark (c.linked_back s linked) (odd_back s odd);
      emptied = λ b z. (let r = t.emptied b z in (
        stores.away s (Link s b) (other_slot j u s ne e (l, is)) refl ∙ r.0,
        ⊎_elim (λ g. inl (c.others_stay j u s ne e (l, is) g)) (λ x. inr x) r.1,
      ));
    }

    reading_kept : (r : Reading) → IsReadingKept m i.chart r → IsReadingKept m' to r
    reading_kept r t = record {
      generations = λ s life e. subst (λ x. life / 2 ≤ x / 2) (sym (stores.life s)) (t.generations s life e);
      tags = λ s number b e. subst (λ x. number ≤ x) (sym (stores.tag s b)) (t.tags s number b e);
      linked = λ s life e same. (let now : m (Life s) ≡ 2 * (life / 2) = sym (stores.life s) ∙ same in
          c.even_stays s (t.linked s life e now) (omega arith));
      keys = λ s life key e same known. stores.key s ∙ t.keys s life key e (ap (λ x. x / 2) (sym (stores.life s)) ∙ same) known;
    }

    pub locks_stored : LockParts m' (slot_count k) to (set vs id w)
    locks_stored = let t = i.locks in locks_by m m' (slot_count k) i.chart to vs id v w LockChange there (record {
      words = stores.within.lock;
      place = c.place;
      few = few_outside v w c.slots c.few c.outside;
      back = c.back;
      forth = λ s l is. (let f = c.forth s l is in (f.0, f.1));
      holder = λ s on odd. (let r = t.marked s (c.linked_back s on) (odd_back s odd) in (r.0, r.1));
      kept = λ s l l' is q. kept_mine s l l' q (t.kept id v there s l is);
      kept_else = λ j u s l ne e is. kept_others j u s l ne e is (t.kept j u e s l is);
      known = λ s l l' is q. known_mine s l l' q (t.known id v there s l is);
      known_else = λ j u s l ne e is. lock_beside m m' u u s l l (λ field own. stores.away s field (other_slot j u s ne e (l, is)) own) refl
          (λ z. z) refl (t.known j u e s l is);
      readings = subst (λ rs. Each rs (IsReadingKept m' to)) (sym c.readings) (λ j r e. reading_kept r (t.readings id v there j r e));
      readings_else = λ j u ne e l r is. reading_kept r (t.readings j u e l r is);
    }) t

-- The parts on slots, after the store of a link or a value of a linked slot.

module _ (k : Shape) (m : Memory) (vs : List View) (h : List Mark) (i : HoldsNow k m vs h) (id : ℕ) (v w : View)
    (there : get_elem? vs id ≡ some v)
    (f : Field) (n p : ℕ) (stores : StoresAt m (stored m f n) p f) (by_store : Bool) (linked : i.chart.linked p ≡ true)
    (h' : List Mark) where
  abbrev slots_memory : Memory
  slots_memory = stored m f n

  abbrev slots_entry : Known
  slots_entry = record { field = f; number = n; stored = by_store }

  even_same : (s : ℕ) → IsEven (m (Life s)) → IsEven (slots_memory (Life s))
  even_same s e = subst IsEven (sym (stores.life s)) e

  not_mine : (s : ℕ) (j : ℕ) (u : View) → get_elem? vs j ≡ some u → 1 ≤ times s (slots_of u) → s ≢ p
  not_mine s j u e has same = let none = linked_apart k m vs h i p linked j u e in
      let one = subst (λ z. 1 ≤ times z (slots_of u)) same has in absurd (omega arith)

  -- what a step has to say of the view's hands
  pub record StoresHands : Type 0 where
    pub places : SamePlaces v w
    pub hand : w.hands.hand ≡ note_option p slots_entry v.hands.hand
    pub spare : w.hands.spare ≡ note_option p slots_entry v.hands.spare
    pub reserved : w.hands.reserved ≡ v.hands.reserved
    pub moving : w.moving ≡ None
    pub mine : HasLock v p
    pub same_gone : (s : ℕ) → i.chart.linked s ≡ false → gone_at s h' ≡ gone_at s h

  module _ (c : StoresHands) where
    pub spares_noted : spares_of w ≡ spares_of v
    spares_noted = λ z. spare_part z ++ (numbers_from (c.places.place z + 2) (c.places.places z - 1) ++ joined_spares (c.places.joined z))
      where
        spare_part : held_list w.hands.spare ≡ held_list v.hands.spare
        spare_part = ap held_list c.spare ∙ note_option-slots p slots_entry v.hands.spare

    pub hand_list_noted : held_list w.hands.hand ≡ held_list v.hands.hand
    hand_list_noted = ap held_list c.hand ∙ note_option-slots p slots_entry v.hands.hand

    hands_mine : AreHandsKnown m v → AreHandsKnown slots_memory w
    hands_mine t = let noted = hands_noted m slots_memory p f n by_store stores.own (stored_here m f n) stores.away
        (λ field own ne. stored_else m f field n ne) v even_same t in record {
          hand = λ held is. noted.hand held (sym c.hand ∙ is);
          spare = λ held is. noted.spare held (sym c.spare ∙ is);
          copy = λ move is. absurd (let q : None ≡ Some move = sym c.moving ∙ is in cc);
          spares = λ s has. even_same s (t.spares s (subst (λ l. 1 ≤ times s l) spares_noted has));
        }

    hands_others : (j : ℕ) (u : View) → j ≢ id → get_elem? vs j ≡ some u → AreHandsKnown m u → AreHandsKnown slots_memory u
    hands_others j u ne e = hands_beside m slots_memory p stores.within u
        (let none = linked_apart k m vs h i p linked j u e in let a = slots_count u p in omega arith)
        (λ move is same. ne
        (one_holder k m vs h i j id u v p e there (subst (HasLock u) same (i.tree.moves.each j u e move is).copy_lock) c.mine))

    pub hands_stored : Each (set vs id w) (AreHandsKnown slots_memory)
    hands_stored = each_set (λ j u. AreHandsKnown slots_memory u) vs id w (hands_mine (i.slots.hands id v there))
        (λ j u ne e. hands_others j u ne e (i.slots.hands j u e))

    -- a slot that was retired is what it was
    pub retired_kept : (j : ℕ) (u : View) (r : Retired) → get_elem? vs j ≡ some u → IsIn (retired_of u) r → IsRetired slots_memory h' r
    retired_kept j u r e has = retired_by m slots_memory h h' r (c.same_gone r.slot (off j u r e has)) (stores.life r.slot)
        (λ field content. stores.content r.slot field (not_mine r.slot j u e (retired_own u r has)) content)
        (i.slots.retired j u e has.0 r has.1)
      where
        off : (j : ℕ) (u : View) (r : Retired) → get_elem? vs j ≡ some u → IsIn (retired_of u) r → i.chart.linked r.slot ≡ false
        off j u r e has = cases (i.chart.linked r.slot) refl
          where
            cases : (b : Bool) → i.chart.linked r.slot ≡ b → b ≡ false
            cases true l = absurd (let none = linked_apart k m vs h i r.slot l j u e in let one = retired_own u r has in omega arith)
            cases false l = refl

    few_same : length w.hands.retired ≤ k.room → ((r : Retired) → IsIn v.hands.retired r → IsIn w.hands.retired r) → HasFewSlots k.room v
        → HasFewSlots k.room w
    few_same few more t = record {
      one = λ q. c.hand ∙ note_option-still_none p slots_entry v.hands.hand (t.one (sym c.reserved ∙ q));
      few = few;
      room = λ move is. absurd (let q : None ≡ Some move = sym c.moving ∙ is in cc);
      joined = subst (λ ss. Each ss (HasFewSpent k.room)) (sym c.places.joined) t.joined;
      next_spare = λ works none. (let r = t.next_spare (subst (λ x. 1 ≤ x) c.places.places works)
          (note_option-none p slots_entry v.hands.spare (sym c.spare ∙ none)) in
          record { retired = r.retired; has = more r.retired r.has; unraised = r.unraised });
    }

    -- the same where the step unlinks no slot
    module _ (same_retired : w.hands.retired ≡ v.hands.retired) (gone : (s : ℕ) → gone_at s h' ≡ gone_at s h) where
      retired_same : retired_of w ≡ retired_of v
      retired_same = λ z. same_retired z ++ joined_retired (c.places.joined z)

      slots_same : slots_of w ≡ slots_of v
      slots_same = λ z. hand_list_noted z ++ (spares_noted z ++ map (λ (r : Retired). r.slot) (retired_same z))

      pub slots_stored : SlotParts k.room slots_memory (slot_count k) i.chart (set vs id w) h'
      slots_stored = record {
        roles = record {
          once = λ s lt. (let a = i.slots.roles.once s lt in let b = ap (λ x. flag (x == 0)) (stores.state s) in let d = whole s in
              omega arith);
          beyond = λ s far. whole s ∙ i.slots.roles.beyond s far;
          states = λ s lt. subst (λ x. x ≤ 1) (sym (stores.state s)) (i.slots.roles.states s lt);
        };
        few = each_set (λ j u. HasFewSlots k.room u) vs id w
            (few_same (subst (λ rs. length rs ≤ k.room) (sym same_retired) (i.slots.few id v there).few)
            (λ r has. subst (λ rs. IsIn rs r) (sym same_retired) has) (i.slots.few id v there)) (λ j u ne e. i.slots.few j u e);
        free = λ s lt e. even_same s (i.slots.free s lt (sym (stores.state s) ∙ e));
        root = stores.life 0 ∙ i.slots.root;
        hands = hands_stored;
        retired = each_set (λ j u. Each (retired_of u) (IsRetired slots_memory h')) vs id w
            (subst (λ rs. Each rs (IsRetired slots_memory h')) (sym retired_same) (λ j r e. retired_kept id v r there (j, e)))
            (λ j u ne e l r is. retired_kept j u r e (l, is));
        unlinked = λ s q is. retired_of_by vs id v w there (λ x has. subst (λ rs. IsIn rs x) (sym retired_same) has) s
            (i.slots.unlinked s q (sym (gone s) ∙ is));
      }
        where
          whole : (s : ℕ) → total (λ (u : View). times s (slots_of u)) (set vs id w) ≡ total (λ (u : View). times s (slots_of u)) vs
          whole s = total_same (λ (u : View). times s (slots_of u)) vs id v w there (ap (times s) slots_same)

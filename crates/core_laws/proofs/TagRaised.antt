-- The tag of an emptied side is raised, K23.
use Rattle.std.proofs.Common.{◌≡◌, ◌≢◌, ℕ, ◌+◌, ◌≤◌, true, false, cond, List, [], ◌∷◌, map, Some, refl, sym, ap, subst, ◌∙◌, ⊎_elim, arith, eq-eqb, ne_eqb, ◌*◌, ◌<◌, Bool, set, Option, None, inl, inr}
use Rattle.std.proofs.lemmas.Bool.{cases_eq}
use Rattle.prcu_marks.specs.declared.mark.Side.{Side}
use Rattle.prcu_marks.specs.declared.mark.Side.TheVariants.{Left, Right}
use Rattle.core_state.specs.declared.words.Field.{Field}
use Rattle.core_state.specs.declared.words.Field.TheVariants.{Tag, Life}
use Rattle.core_state.specs.declared.view.HeldLock.{HeldLock}
use Rattle.list_laws.specs.Counts.{times, IsIn}
use Rattle.core_state.specs.Memory.{flag, sum_below, has, Memory, same_field, stored, slot_count}
use Rattle.core_state.specs.Views.{lock_of, is_emptied, with_emptied, change_lock, emptied_among, known_in, HasLock, note_lock, note_held, note_moving, IsOwnField, Works, open_reading, held_list, spares_of, slots_of, joined_retired}
use mathlib.Core.Logic.{dite}
use mathlib.Core.Option.{some, some-injective}
use native.Mathlib.Decide.{ℕ_discrete}
use lib.ListN.{get_elem?}
use Rattle.atomic_table.proofs.Lists.{set_here}
use Rattle.prcu_marks.specs.declared.mark.Mark.{Mark}
use Rattle.prcu_marks.specs.Marks.{gone_at}
use Rattle.core_state.specs.declared.shape.Shape.{Shape}
use Rattle.core_state.specs.declared.view.Held.{Held}
use Rattle.core_state.specs.declared.view.Known.{Known}
use Rattle.core_state.specs.declared.view.Move.{Move}
use Rattle.core_state.specs.declared.view.Reading.{Reading}
use Rattle.core_state.specs.declared.view.View.{View}
use Rattle.core_state.specs.Steps.{NeedsRaiseTag, after_raise_tag}
use Rattle.core_state.specs.Tree.{Chart, IsEmptied}
use Rattle.core_state.specs.Parts.{IsHeldKnown, AreHandsKnown, IsUnraised, IsLockKept, IsLockKnown, IsReadingKept, LockParts}
use Rattle.core_state.specs.Invariant.{HoldsNow}
use Rattle.core_frames.specs.Laws.{KeepsPast}
use Rattle.list_laws.proofs.Lists.{at_below, set_twice, in_first, in_second}
use Rattle.core_laws.proofs.Locks.{lock_outside, lock_alone, emptied_change_same, emptied_slot, emptied_known, emptied_marked, note_side}
use Rattle.core_laws.proofs.Stores.{cases_side, sum_more, StoresIn, stores_in, held_beside, hand_beside}
use Rattle.core_laws.proofs.LockSteps.{emptied_after, OneLock, one_changed, noted_then, lock_stays, note_held-form, lock_noted, note_option-else, note_held-slot, held_noted}
use Rattle.core_frames.proofs.Roles.{linked_none, not_gone, held_there, spare_among, slots_count}
use Rattle.core_laws.proofs.LockLoads.{law_copy, life_or_tag_stores, under_lock}
use Rattle.core_frames.proofs.Views.{same_is, stored_here, stored_else}
use Rattle.core_frames.proofs.PlaceFrames.{tags_raised}
use Rattle.core_frames.proofs.WholeFrames.{Stepper, StepKeeps, no_mark}
use Rattle.core_frames.proofs.TreeFrames.{recorded_back}

-- A side is emptied no more: what becomes of a lock, and of the number of sides that are emptied.

abbrev pub side_at : Field → Side
side_at (Tag s a) = a
side_at _ = Left

-- the side isn't emptied any more, the other as before
pub emptied_back : (b a : Side) (l : HeldLock) → is_emptied (with_emptied b false l) a ≡ true → (is_emptied l a ≡ true) × (a ≢ b)
emptied_back Left Right l e = (e, λ q. absurd (cc))
emptied_back Right Left l e = (e, λ q. absurd (cc))
emptied_back _ _ l e = absurd (cc)

pub emptied_other : (b a : Side) (l : HeldLock) → a ≢ b → is_emptied (with_emptied b false l) a ≡ is_emptied l a
emptied_other Left Right l ne = refl
emptied_other Right Left l ne = refl
emptied_other _ _ l ne = absurd (ne refl)

pub emptied_flags : (b : Side) (l : HeldLock) → is_emptied l b ≡ true
    → flag (with_emptied b false l).left_emptied + flag (with_emptied b false l).right_emptied + 1
    ≡ flag l.left_emptied + flag l.right_emptied
emptied_flags Left l e = let f = ap flag e in omega arith
emptied_flags Right l e = let f = ap flag e in omega arith

-- one side less is emptied, where one lock has one less
pub emptied_less : (s : ℕ) (f : HeldLock → HeldLock) (ls : List HeldLock) (l : HeldLock) → lock_of ls s ≡ Some l
    → times s (map (λ (x : HeldLock). x.slot) ls) ≤ 1
    → flag (f l).left_emptied + flag (f l).right_emptied + 1 ≡ flag l.left_emptied + flag l.right_emptied
    → emptied_among (change_lock s f ls) + 1 ≡ emptied_among ls
emptied_less s f [] l e once less = absurd (cc)
emptied_less s f (x ∷ ls) l e once less =
    ⊎_elim
    (λ (here : x.slot ≡ s).
    (let same : Some x ≡ Some l = sym (ap (λ b. cond b (Some x) (lock_of ls s)) (eq-eqb x.slot s here)) ∙ e in
    let it : x ≡ l = cc in
    let now : emptied_among (change_lock s f (x ∷ ls))
    ≡ flag (f x).left_emptied + flag (f x).right_emptied + emptied_among (change_lock s f ls) =
    ap (λ b. flag (cond b (f x) x).left_emptied + flag (cond b (f x) x).right_emptied + emptied_among (change_lock s f ls))
    (eq-eqb x.slot s here) in
    let count : times s (map (λ (z : HeldLock). z.slot) (x ∷ ls)) ≡ 1 + times s (map (λ (z : HeldLock). z.slot) ls) =
    ap (λ b. cond b 1 0 + times s (map (λ (z : HeldLock). z.slot) ls)) (eq-eqb x.slot s here) in
    let rest = none_changes ls (omega arith) in
    let less_x : flag (f x).left_emptied + flag (f x).right_emptied + 1 ≡ flag x.left_emptied + flag x.right_emptied =
    subst (λ (z : HeldLock). flag (f z).left_emptied + flag (f z).right_emptied + 1 ≡ flag z.left_emptied + flag z.right_emptied)
    (sym it) less in
    omega arith))
    (λ ne.
    (let rest_is : lock_of ls s ≡ Some l = sym (ap (λ b. cond b (Some x) (lock_of ls s)) (ne_eqb x.slot s ne)) ∙ e in
    let now : emptied_among (change_lock s f (x ∷ ls)) ≡ flag x.left_emptied + flag x.right_emptied + emptied_among (change_lock s f ls) =
    ap (λ b. flag (cond b (f x) x).left_emptied + flag (cond b (f x) x).right_emptied + emptied_among (change_lock s f ls))
    (ne_eqb x.slot s ne) in
    let count : times s (map (λ (z : HeldLock). z.slot) (x ∷ ls)) ≡ 0 + times s (map (λ (z : HeldLock). z.slot) ls) =
    ap (λ b. cond b 1 0 + times s (map (λ (z : HeldLock). z.slot) ls)) (ne_eqb x.slot s ne) in
    let rest = emptied_less s f ls l rest_is (omega arith) less in
    omega arith))
    (cases_eq x.slot s)
  where
    none_changes : (ls : List HeldLock) → times s (map (λ (z : HeldLock). z.slot) ls) ≡ 0
        → emptied_among (change_lock s f ls) ≡ emptied_among ls
    none_changes [] e = refl
    none_changes (y ∷ ls) e =
        ⊎_elim
        (λ (here : y.slot ≡ s). absurd (let count : times s (map (λ (z : HeldLock). z.slot) (y ∷ ls))
        ≡ 1 + times s (map (λ (z : HeldLock). z.slot) ls) =
        ap (λ b. cond b 1 0 + times s (map (λ (z : HeldLock). z.slot) ls)) (eq-eqb y.slot s here) in omega arith))
        (λ ne.
        (let count : times s (map (λ (z : HeldLock). z.slot) (y ∷ ls)) ≡ 0 + times s (map (λ (z : HeldLock). z.slot) ls) =
        ap (λ b. cond b 1 0 + times s (map (λ (z : HeldLock). z.slot) ls)) (ne_eqb y.slot s ne) in
        ap (λ b. flag (cond b (f y) y).left_emptied + flag (cond b (f y) y).right_emptied + emptied_among (change_lock s f ls))
        (ne_eqb y.slot s ne) ∙ ap (λ z. flag y.left_emptied + flag y.right_emptied + z) (none_changes ls (omega arith))))
        (cases_eq y.slot s)

-- The tag of a side that was emptied is raised: K23.

module _ (k : Shape) (m : Memory) (vs : List View) (h : List Mark) (id : ℕ) (v : View) (i : HoldsNow k m vs h)
    (there : get_elem? vs id ≡ some v) (works : Works v)
    (slot : ℕ) (b : Side) (tag : ℕ) (needs : NeedsRaiseTag v slot b tag) where
  open needs use {lock}

  abbrev g : Chart
  g = i.chart

  abbrev pub raised_memory : Memory
  raised_memory = stored m (Tag slot b) (tag + 1)

  abbrev pub entry : Known
  entry = record { field = Tag slot b; number = tag + 1; stored = true }

  abbrev noted_locks : List HeldLock
  noted_locks = change_lock slot (note_lock entry) v.locks

  abbrev pub raised_locks : List HeldLock
  raised_locks = change_lock slot (with_emptied b false) noted_locks

  abbrev new_lock : HeldLock
  new_lock = with_emptied b false (note_lock entry lock)

  abbrev w : View
  w = record v { locks = raised_locks }

  known_here : IsLockKnown m v slot lock
  known_here = i.locks.known id v there slot lock needs.held

  tag_now : m (Tag slot b) ≡ tag
  tag_now = known_here.tags b tag needs.known

  tag_here : raised_memory (Tag slot b) ≡ tag + 1
  tag_here = stored_here m (Tag slot b) (tag + 1)

  alone : (j : ℕ) (u : View) → j ≢ id → get_elem? vs j ≡ some u → HasLock u slot → ⊥
  alone = lock_alone k m vs h i id v there slot lock needs.held

  -- the slot is linked, or retired: in nobody's hand, and no spare
  not_ours : (j : ℕ) (u : View) (s : ℕ) → get_elem? vs j ≡ some u → 1 ≤ times s (held_list u.hands.hand) + times s (spares_of u) → s ≢ slot
  not_ours j u s e has same =
      let x = ((i.locks.kept id v there slot lock needs.held).emptied b needs.emptied).1 in
      ⊎_elim
      (λ (l : g.linked slot ≡ true). absurd (let none = linked_none m (slot_count k) g vs h i.slots j u e slot l in
      let c = slots_count u s in let d = ap (λ z. times z (slots_of u)) same in omega arith))
      (λ (r : IsUnraised v slot).
      (let all = in_first v.hands.retired (joined_retired v.allowance.joined) r.retired r.has in
      let gone = (i.slots.retired id v there all.0 r.retired all.1).unlinked in
      absurd (let q : None ≡ Some r.retired.unlinked = sym (not_gone m (slot_count k) g vs h i.slots j u e s has)
      ∙ ap (λ z. gone_at z h) (same ∙ sym r.slot) ∙ gone in cc)))
      x

  hand_apart : (j : ℕ) (u : View) (x : Held) → get_elem? vs j ≡ some u → u.hands.hand ≡ Some x → x.slot ≢ slot
  hand_apart j u x e is = not_ours j u x.slot e (let a = held_there u.hands.hand x is in omega arith)

  spare_apart : (j : ℕ) (u : View) (x : Held) → get_elem? vs j ≡ some u → u.hands.spare ≡ Some x → x.slot ≢ slot
  spare_apart j u x e is = not_ours j u x.slot e (let a = spare_among u x is in omega arith)

  stores : StoresIn m raised_memory slot
  stores = stores_in m slot (Tag slot b) (tag + 1) refl

  pub words : (s : ℕ) (field : Field) → s ≢ slot → IsOwnField s field → raised_memory field ≡ m field
  words = stores.away

  outside : v.section ≡ None
  outside = lock_outside k m vs h i id v there slot lock needs.held

  one : OneLock v w slot lock new_lock
  one = noted_then v slot lock entry (with_emptied b false) (emptied_slot b false) needs.held outside

  kept_slot : IsLockKept raised_memory g w slot new_lock
  kept_slot = let t = i.locks.kept id v there slot lock needs.held in record {
    marked = λ e. t.marked (sym (emptied_marked b false (note_lock entry lock)) ∙ e);
    own_mark = λ l odd. emptied_marked b false (note_lock entry lock) ∙ t.own_mark l odd;
    emptied = λ a e. (let x = t.emptied a (sym (note_side entry a lock) ∙ (emptied_back b a (note_lock entry lock) e).0) in
        (x.0, ⊎_elim (λ l. inl l) (λ (y : IsUnraised v slot). inr y) x.1));
  }

  tag_le : (s : ℕ) (a : Side) → m (Tag s a) ≤ raised_memory (Tag s a)
  tag_le s a = cases (same_field (Tag slot b) (Tag s a)) refl
    where
      cases : (t : Bool) → same_field (Tag slot b) (Tag s a) ≡ t
          → m (Tag s a) ≤ cond (same_field (Tag slot b) (Tag s a)) (tag + 1) (m (Tag s a))
      cases true e = let f = ap m (same_is (Tag slot b) (Tag s a) e) in let g = tag_now in
          let c = ap (λ z. cond z (tag + 1) (m (Tag s a))) e in omega arith
      cases false e = let c = ap (λ z. cond z (tag + 1) (m (Tag s a))) e in omega arith

  reading_kept : (r : Reading) → IsReadingKept m g r → IsReadingKept raised_memory g r
  reading_kept r t = record {
    generations = t.generations;
    tags = λ s number a known. (let x = t.tags s number a known in let y = tag_le s a in omega arith);
    linked = t.linked;
    keys = t.keys;
  }

  locks_parts : LockParts raised_memory (slot_count k) g (set vs id w)
  locks_parts = lock_stays m raised_memory (slot_count k) g vs id v w there slot lock new_lock one stores alone kept_slot
      (lock_noted m raised_memory v w slot lock new_lock (Tag slot b) (tag + 1) true
      (emptied_known b false (note_lock entry lock)) refl tag_here (λ f own ne. stored_else m (Tag slot b) f (tag + 1) ne) refl
      (λ x has. ⊎_elim (λ e. inl e) (λ (e : (m (Life slot) ≡ 2 * x + 1) × (new_lock.marked ≡ true)). inr
      (e.0, sym (emptied_marked b false (note_lock entry lock)) ∙ e.1)) has)
      (λ e. ap (λ ks. known_in ks (Life slot)) (emptied_known b false (note_lock entry lock))
      ∙ known_here.marked_life (sym (emptied_marked b false (note_lock entry lock)) ∙ e)) known_here)
      reading_kept i.locks

  within : slot < slot_count k
  within = (i.locks.locked.held id v there slot lock needs.held).1

  tag_sum : sum_below (λ s. raised_memory (Tag s Left) + raised_memory (Tag s Right)) (slot_count k)
      ≡ sum_below (λ s. m (Tag s Left) + m (Tag s Right)) (slot_count k) + 1
  tag_sum = sum_more (λ s. m (Tag s Left) + m (Tag s Right)) (λ s. raised_memory (Tag s Left) + raised_memory (Tag s Right)) slot
      (slot_count k) within (here b refl) (λ s ne j. words s (Tag s Left) ne refl j + words s (Tag s Right) ne refl j)
    where
      side_of : {s t : ℕ} {a c : Side} → Tag s a ≡ Tag t c → a ≡ c
      side_of e = ap side_at e

      apart : (a c : Side) → b ≡ a → b ≡ c → (a ≡ c → ⊥) → ⊥
      apart a c e f ne = ne (sym e ∙ f)

      here : (a : Side) → b ≡ a → raised_memory (Tag slot Left) + raised_memory (Tag slot Right)
          ≡ m (Tag slot Left) + m (Tag slot Right) + 1
      here Left e =
          let x = tag_here in let y = tag_now in
          let p = ap (λ z. raised_memory (Tag slot z)) e in let q = ap (λ z. m (Tag slot z)) e in
          let o = stored_else m (Tag slot b) (Tag slot Right) (tag + 1) (λ f. apart Left Right e (side_of f) (λ z. absurd (cc))) in
          omega arith
      here Right e =
          let x = tag_here in let y = tag_now in
          let p = ap (λ z. raised_memory (Tag slot z)) e in let q = ap (λ z. m (Tag slot z)) e in
          let o = stored_else m (Tag slot b) (Tag slot Left) (tag + 1) (λ f. apart Right Left e (side_of f) (λ z. absurd (cc))) in
          omega arith

  -- one tag more, and one side fewer whose tag is still to be raised
  tags_counted : tags_raised raised_memory (slot_count k) + emptied_among raised_locks
      ≤ tags_raised m (slot_count k) + emptied_among v.locks
  tags_counted =
      let first = one_changed v slot lock (note_lock entry) (λ l. refl) needs.held outside in
      let fewer = emptied_less slot (with_emptied b false) noted_locks (note_lock entry lock) first.now
      (subst (λ ls. times slot ls ≤ 1) (sym first.slots) ((i.locks.few id v there).once slot))
      (emptied_flags b (note_lock entry lock) (note_side entry b lock ∙ needs.emptied)) in
      let noted = emptied_change_same slot (note_lock entry) (λ l. refl) (λ l. refl) v.locks in
      let sum = tag_sum in
      omega arith

  -- another side that was emptied still is
  emptied_still : (s : ℕ) (a : Side) → ((s ≡ slot) → a ≢ b) → IsEmptied vs s a → IsEmptied (set vs id w) s a
  emptied_still s a other = emptied_after vs id v w slot lock new_lock there one s a
      (λ same e. emptied_other b a (note_lock entry lock) (other same) ∙ note_side entry a lock ∙ e)

  -- a record with the tag from before says nothing
  tag_back : (j : ℕ) (u : View) (r : Reading) (s number : ℕ) (a : Side) → get_elem? vs j ≡ some u → IsIn u.records r
      → known_in r.loads (Tag s a) ≡ Some number → raised_memory (Tag s a) ≡ number → (IsEmptied (set vs id w) s a → ⊥)
      → (m (Tag s a) ≡ number) × (IsEmptied vs s a → ⊥)
  tag_back j u r s number a e has known same settled = dite (ℕ_discrete s slot)
      (λ here. ⊎_elim
      (λ (z : a ≡ b). absurd (let x = in_second (open_reading u.section) u.records r has in
      let le = (i.locks.readings j u e x.0 r x.1).tags s number a known in
      let p = ap (λ q. m (Tag q a)) here in let p2 = ap (λ q. m (Tag slot q)) z in let q = ap (λ y. raised_memory (Tag y a)) here in
      let q2 = ap (λ y. raised_memory (Tag slot y)) z in let c = tag_here in let d = tag_now in omega arith))
      (λ ne. (
        sym (stored_else m (Tag slot b) (Tag s a) (tag + 1) (λ f. ne (sym (tag_side f)))) ∙ same,
        λ x. settled (emptied_still s a (λ _. ne) x),
      ))
      (cases_side a b))
      (λ ne. (sym (words s (Tag s a) ne refl) ∙ same, λ x. settled (emptied_still s a (λ z. absurd (ne z)) x)))
    where
      tag_side : Tag slot b ≡ Tag s a → b ≡ a
      tag_side f = ap side_at f

  -- the law, where what is known of a copy of the view stays so
  module _ (copy_known : (move : Move) → v.moving ≡ Some move → IsHeldKnown raised_memory move.copy) where
    hands_else : (j : ℕ) (u : View) → get_elem? vs j ≡ some u → AreHandsKnown m u → AreHandsKnown raised_memory u
    hands_else j u e t = record {
      hand = λ x is. hand_beside m raised_memory slot stores x (hand_apart j u x e is) (t.hand x is);
      spare = λ x is. held_beside m raised_memory slot stores x (spare_apart j u x e is) (t.spare x is);
      copy = λ move is. (let y = t.copy move is in record {
        known = dite (ℕ_discrete j id)
            (λ same. (let it : u ≡ v = some-injective u v (sym e ∙ subst (λ z. get_elem? vs z ≡ some v) (sym same) there) in
            copy_known move (ap (λ (z : View). z.moving) (sym it) ∙ is)))
            (λ ne. held_beside m raised_memory slot stores move.copy
            (λ here. alone j u ne e (subst (HasLock u) here (i.tree.moves.each j u e move is).copy_lock)) y.known);
        even = y.even;
      });
      spares = t.spares;
    }

    pub raised_but_copy : HoldsNow k raised_memory (set vs id w) h
    raised_but_copy = under_lock k m raised_memory vs h id v i there works raised_locks slot lock new_lock one
        (life_or_tag_stores m slot (Tag slot b) (tag + 1) refl tt) (record {
          half = λ s. refl;
          off = λ s off. refl;
          root = i.slots.root;
          recorded = recorded_back m raised_memory (λ s. refl);
          tags = tag_back;
          hands = hands_else;
          away = λ s ne. refl;
          alone = alone;
          here = λ x has. ⊎_elim (λ e. inl e) (λ (e : (m (Life slot) ≡ 2 * x + 1) × (lock.marked ≡ true)). inr
              (e.0, emptied_marked b false (note_lock entry lock) ∙ e.1)) has;
          copies = λ j u move e is. refl;
        }) locks_parts tags_counted

  pub past_raised : KeepsPast m h raised_memory
  past_raised = record {
    lives = λ s. omega arith;
    tags = tag_le;
    content = λ s field gone odd content. (life_or_tag_stores m slot (Tag slot b) (tag + 1) refl tt).content s field content;
  }

  -- what is noted in hands is nothing
  pub hands_same : (o : Option Move) → record (after_raise_tag v slot b tag) { moving = o } ≡ record v { locks = raised_locks; moving = o }
  hands_same o = λ j. record v {
    locks = raised_locks;
    hands = record v.hands {
      hand = note_option-else slot entry v.hands.hand (λ x is. hand_apart id v x there is) j;
      spare = note_option-else slot entry v.hands.spare (λ x is. spare_apart id v x there is) j;
    };
    moving = o;
  }

module _ (k : Shape) (m : Memory) (vs : List View) (h : List Mark) (id : ℕ) (v : View) (i : HoldsNow k m vs h)
    (there : get_elem? vs id ≡ some v) (works : Works v)
    (slot : ℕ) (b : Side) (tag : ℕ) (needs : NeedsRaiseTag v slot b tag) where
  open needs use {lock}

  abbrev m_new : Memory
  m_new = stored m (Tag slot b) (tag + 1)

  abbrev noted : Known
  noted = record { field = Tag slot b; number = tag + 1; stored = true }

  abbrev raised : List HeldLock
  raised = change_lock slot (with_emptied b false) (change_lock slot (note_lock noted) v.locks)

  by_move : (o : Option Move) → v.moving ≡ o → HoldsNow k m_new (set vs id (after_raise_tag v slot b tag)) h
  by_move None e = subst (λ (z : View). HoldsNow k m_new (set vs id z) h)
      ((λ j. record v { locks = raised; moving = e j }) ∙ sym (hands_same k m vs h id v i there works slot b tag needs None)
      ∙ (λ j. record (after_raise_tag v slot b tag) { moving = note_moving slot noted (sym e j) }))
      (raised_but_copy k m vs h id v i there works slot b tag needs (λ move is. absurd (let q : None ≡ Some move = sym e ∙ is in cc)))
  by_move (Some move) e =
      let empty : View = record v { moving = Some (record move { copy = record move.copy { known = [] } }) } in
      let first : HoldsNow k m (set vs id empty) h =
      law_copy k m vs h id v i there works move e [] (λ field number is. absurd (let q : None ≡ Some number = is in cc)) in
      let here = set_here vs id empty (at_below vs id v there) in
      let stored_view : View = record empty { locks = raised } in
      let second : HoldsNow k m_new (set vs id stored_view) h = subst (λ us. HoldsNow k m_new us h) (set_twice vs id empty stored_view)
      (raised_but_copy k m (set vs id empty) h id empty first here works slot b tag
      (record { lock = lock; held = needs.held; emptied = needs.emptied; known = needs.known })
      (λ other is field number known. absurd (none_known other is field number known))) in
      let ks = (note_held slot noted move.copy).known in
      let now : IsHeldKnown m_new (record move.copy { known = ks }) = λ field number known.
      (let r = held_noted m m_new slot (Tag slot b) (tag + 1) true refl (stored_here m (Tag slot b) (tag + 1))
      (words k m vs h id v i there works slot b tag needs) (λ f own ne. stored_else m (Tag slot b) f (tag + 1) ne) move.copy
      ((i.slots.hands id v there).copy move e).known field number known in
      (subst (λ z. IsOwnField z field) (note_held-slot slot noted move.copy) r.0, r.1)) in
      let third : HoldsNow k m_new (set (set vs id stored_view) id
      (record stored_view { moving = Some (record move { copy = record move.copy { known = ks } }) })) h =
      law_copy k m_new (set vs id stored_view) h id stored_view second (set_here vs id stored_view (at_below vs id v there)) works
      (record move { copy = record move.copy { known = [] } }) refl ks now in
      let fourth : HoldsNow k m_new (set vs id (record v
      { locks = raised; moving = Some (record move { copy = record move.copy { known = ks } }) })) h =
      subst (λ us. HoldsNow k m_new us h) (set_twice vs id stored_view
      (record stored_view { moving = Some (record move { copy = record move.copy { known = ks } }) })) third in
      subst (λ (z : View). HoldsNow k m_new (set vs id z) h)
      ((λ j. record v { locks = raised; moving = Some (record move { copy = note_held-form slot noted move.copy j }) })
      ∙ sym (hands_same k m vs h id v i there works slot b tag needs
      (Some (record move { copy = note_held slot noted move.copy })))
      ∙ (λ j. record (after_raise_tag v slot b tag) { moving = note_moving slot noted (sym e j) }))
      fourth
    where
      none_known : (other : Move) → Some (record move { copy = record move.copy { known = [] } }) ≡ Some other
          → (field : Field) (number : ℕ) → known_in other.copy.known field ≡ Some number → ⊥
      none_known other is field number known =
          let same : ◌≡◌ {A = Move} (record move { copy = record move.copy { known = [] } }) other = cc in
          absurd (let q : None ≡ Some number = ap (λ (z : Move). known_in z.copy.known field) same ∙ known in cc)

  pub tag_raised : HoldsNow k m_new (set vs id (after_raise_tag v slot b tag)) h
  tag_raised = by_move v.moving refl

module _ (z : Stepper) where
  open z use {k, m, vs, h, id, v, inv, there, works}

  pub keeps_raise_tag : (slot : ℕ) (b : Side) (tag : ℕ) → NeedsRaiseTag v slot b tag
      → StepKeeps z (Tag slot b) (tag + 1) (after_raise_tag v slot b tag) []
  keeps_raise_tag slot b tag needs =
      no_mark k m (stored m (Tag slot b) (tag + 1)) h (set vs id (after_raise_tag v slot b tag)) (record {
        invariant = tag_raised k m vs h id v inv there works slot b tag needs;
        past = past_raised k m vs h id v inv there works slot b tag needs;
      })

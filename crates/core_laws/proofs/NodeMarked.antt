-- A node is marked: K22.
use Rattle.std.proofs.Common.{◌≡◌, ◌≢◌, ℕ, ◌+◌, ◌*◌, ◌/◌, ◌≤◌, true, false, List, set, Some, None, refl, sym, ap, subst, ◌∙◌, inl, inr, ⊎_elim, arith, []}
use mathlib.Core.Logic.{dite}
use mathlib.Core.Option.{some, some-injective}
use native.Mathlib.Decide.{ℕ_discrete}
use lib.ListN.{get_elem?}
use Rattle.prcu_marks.specs.declared.mark.Mark.{Mark}
use Rattle.prcu_marks.specs.declared.mark.Side.{Side}
use Rattle.prcu_marks.specs.declared.mark.Side.TheVariants.{Left, Right}
use Rattle.core_state.specs.declared.shape.Shape.{Shape}
use Rattle.core_state.specs.declared.words.Field.{Field}
use Rattle.core_state.specs.declared.words.Field.TheVariants.{Life}
use Rattle.core_state.specs.declared.view.Held.{Held}
use Rattle.core_state.specs.declared.view.HeldLock.{HeldLock}
use Rattle.core_state.specs.declared.view.Known.{Known}
use Rattle.core_state.specs.declared.view.Move.{Move}
use Rattle.core_state.specs.declared.view.Reading.{Reading}
use Rattle.core_state.specs.declared.view.View.{View}
use Rattle.list_laws.specs.Counts.{IsIn}
use Rattle.core_state.specs.Memory.{has, Memory, stored, slot_count}
use Rattle.core_state.specs.Views.{known_in, lock_of, known_under, HasLock, is_emptied, change_lock, note_lock, IsOwnField, LoadedGeneration, Works, readings_of, open_reading}
use Rattle.core_state.specs.Links.{NodeRecords, IsUnmarkedNode, FewChildren, BothChildren, IsNodeOfDelete, IsOldOfMove, IsRecordedNode, NeedsMark, with_mark, after_mark}
use Rattle.core_state.specs.Tree.{Chart, IsEmptied}
use Rattle.core_state.specs.Parts.{AreHandsKnown, HasGeneration, IsLockKept, IsLockKnown, IsReadingKept, LockParts, StandsWell}
use Rattle.core_state.specs.Invariant.{HoldsNow}
use Rattle.core_frames.specs.Laws.{KeepsPast}
use Rattle.list_laws.proofs.Lists.{in_second}
use Rattle.core_laws.proofs.Locks.{lock_outside, lock_alone, linked_hand, linked_spare, emptied_change_same, lock_under, loaded_known, under_lock as known_under_lock, linked_apart}
use Rattle.core_laws.proofs.LockSteps.{known_here as noted_here, emptied_after, OneLock, noted_then, lock_stays, lock_noted, noting-lock}
use Rattle.core_frames.proofs.Roles.{slots_count}
use Rattle.core_laws.proofs.LockLoads.{life_or_tag_stores, under_lock}
use Rattle.core_frames.proofs.Views.{stored_here, stored_else}
use Rattle.core_laws.proofs.Stores.{StoresIn, stores_in, hands_beside}
use Rattle.core_frames.proofs.WholeFrames.{Stepper, StepKeeps, no_mark}

module _ (k : Shape) (m : Memory) (vs : List View) (h : List Mark) (id : ℕ) (v : View) (i : HoldsNow k m vs h)
    (there : get_elem? vs id ≡ some v) (works : Works v)
    (slot life : ℕ) (needs : NeedsMark v slot life) where
  open needs use {lock}

  abbrev g : Chart
  g = i.chart

  -- what the reasons for a mark say
  record IsReady : Type 0 where
    pub generation : ℕ
    pub life_is : life ≡ 2 * generation
    pub now : m (Life slot) ≡ life
    pub linked : g.linked slot ≡ true
    pub some_slot : slot ≢ 0
    pub no_copy : (move : Move) → v.moving ≡ Some move → move.copy.slot ≢ slot

  known_here : IsLockKnown m v slot lock
  known_here = i.locks.known id v there slot lock needs.locked

  recorded_ready : (r : Reading) → IsIn v.records r → IsUnmarkedNode v r slot → slot ≢ 0 → IsReady
  recorded_ready r kept node some_slot =
      let has : IsIn (readings_of v) r = in_second (open_reading v.section) v.records r kept in
      let l = lock_under v slot (Life slot) (2 * node.0) (loaded_known (known_under v slot) (Life slot) (2 * node.0) node.2) in
      let known : known_in lock.known (Life slot) ≡ Some (2 * node.0) =
      known_under_lock v slot lock (Life slot) (2 * node.0) needs.locked
      (loaded_known (known_under v slot) (Life slot) (2 * node.0) node.2) in
      let is : Some life ≡ Some (2 * node.0) = sym needs.life_now ∙ known in
      let same : life ≡ 2 * node.0 = cc in
      let now : m (Life slot) ≡ 2 * node.0 = known_here.lives r node.0 has node.1 known in
      let loaded = node.1 in
      record {
        generation = node.0;
        life_is = same;
        now = now ∙ sym same;
        linked = (i.locks.readings id v there has.0 r has.1).linked slot loaded.0 loaded.1 (now ∙ ap (λ z. 2 * z) loaded.2);
        some_slot = some_slot;
        no_copy = λ move is copy. (let t = i.tree.moves.each id v there move is in
            t.unmet r node.0 kept (subst (λ z. LoadedGeneration r z node.0) (sym copy) loaded) (ap (λ z. m (Life z)) copy ∙ now));
      }

  node_ready : (r : Reading) (parent left right : ℕ) (b : Side) → IsUnmarkedNode v r slot → NodeRecords v r parent b slot left right
      → IsReady
  node_ready r parent left right b node records =
      let has : IsIn (readings_of v) r = in_second (open_reading v.section) v.records r records.kept in
      let found = records.found in
      recorded_ready r records.kept node
      (let w = subst (StandsWell r) found.1 (i.readers.readings id v there has.0 r has.1).well in let reached = w.0 in reached.some_slot)

  old_ready : (move : Move) → v.moving ≡ Some move → move.old ≡ slot → IsReady
  old_ready move is old =
      let t = i.tree.moves.each id v there move is in
      let x = t.recorded in
      let has : IsIn (readings_of v) x.reading = in_second (open_reading v.section) v.records x.reading x.kept in
      let locks : Some x.lock ≡ Some lock = sym x.locked ∙ ap (lock_of v.locks) old ∙ needs.locked in
      let same_lock : x.lock ≡ lock = cc in
      let generation : HasGeneration m slot x.generation lock =
      subst (λ (z : ℕ × HeldLock). HasGeneration m z.0 x.generation z.1) (λ j. (old j, same_lock j)) x.same in
      let loaded : LoadedGeneration x.reading slot x.generation = subst (λ z. LoadedGeneration x.reading z x.generation) old x.loaded in
      let now : m (Life slot) ≡ life = known_here.fields x.reading x.generation life (Life slot) has loaded generation needs.life_now in
      let even = needs.unmarked in
      record {
        generation = x.generation;
        life_is = ⊎_elim (λ (e : m (Life slot) ≡ 2 * x.generation). sym now ∙ e)
            (λ (e : (m (Life slot) ≡ 2 * x.generation + 1) × (lock.marked ≡ true)). absurd (let f = e.0 in omega arith)) generation;
        now = now;
        linked = subst (λ z. g.linked z ≡ true) old t.old_linked;
        some_slot = λ z. absurd (let q : true ≡ false = sym t.old_old ∙ ap g.old (old ∙ z) ∙ i.tree.shape.root_new in cc);
        no_copy = λ other its copy.
            (let q : Some other ≡ Some move = sym its ∙ is in
            let same : other ≡ move = cc in
            absurd (let f : false ≡ true = sym t.copy_young ∙ ap g.old (ap (λ (z : Move). z.copy.slot) (sym same) ∙ copy ∙ sym old)
            ∙ t.old_old in cc));
      }

  ready : IsReady
  ready = ⊎_elim
      (λ (x : IsNodeOfDelete v slot). (let ready = node_ready x.reading x.parent x.left x.right x.side x.unmarked in
      ⊎_elim (λ (y : FewChildren v x.reading x.parent x.side slot x.left x.right). ready y.records)
      (λ (y : (old_parent old : ℕ) × BothChildren v x.reading x.parent x.side slot x.left x.right old_parent old). (let z = y.2 in
      ready z.records)) x.children))
      (λ o. ⊎_elim (λ (x : IsOldOfMove v slot). old_ready x.0 x.1 x.2)
      (λ (x : IsRecordedNode v slot). recorded_ready x.reading x.kept x.unmarked x.some_slot) o) needs.why

  abbrev marked_memory : Memory
  marked_memory = stored m (Life slot) (life + 1)

  abbrev entry : Known
  entry = record { field = Life slot; number = life + 1; stored = true }

  abbrev noted_locks : List HeldLock
  noted_locks = change_lock slot (note_lock entry) v.locks

  abbrev locks : List HeldLock
  locks = change_lock slot (with_mark true) noted_locks

  abbrev new_lock : HeldLock
  new_lock = with_mark true (note_lock entry lock)

  abbrev w : View
  w = record v { locks = locks }

  life_here : marked_memory (Life slot) ≡ life + 1
  life_here = stored_here m (Life slot) (life + 1)

  stores : StoresIn m marked_memory slot
  stores = stores_in m slot (Life slot) (life + 1) refl

  words : (s : ℕ) (field : Field) → s ≢ slot → IsOwnField s field → marked_memory field ≡ m field
  words = stores.away

  life_else : (s : ℕ) → s ≢ slot → marked_memory (Life s) ≡ m (Life s)
  life_else s ne = words s (Life s) ne refl

  odd_here : (x : ℕ) → life + 1 ≢ 2 * x
  odd_here x e = let r = ready in let f = r.life_is in absurd (omega arith)

  half : (s : ℕ) → marked_memory (Life s) / 2 ≡ m (Life s) / 2
  half s = dite (ℕ_discrete s slot)
      (λ same. subst (λ z. marked_memory (Life z) / 2 ≡ m (Life z) / 2) (sym same)
      (let a = life_here in let r = ready in let c = r.life_is in let d = r.now in omega arith))
      (λ ne. ap (λ z. z / 2) (life_else s ne))

  alone : (j : ℕ) (u : View) → j ≢ id → get_elem? vs j ≡ some u → HasLock u slot → ⊥
  alone = lock_alone k m vs h i id v there slot lock needs.locked

  hand_apart : (j : ℕ) (u : View) (x : Held) → get_elem? vs j ≡ some u → u.hands.hand ≡ Some x → x.slot ≢ slot
  hand_apart j u x e is = linked_hand k m vs h i slot ready.linked j u e x is

  spare_apart : (j : ℕ) (u : View) (x : Held) → get_elem? vs j ≡ some u → u.hands.spare ≡ Some x → x.slot ≢ slot
  spare_apart j u x e is = linked_spare k m vs h i slot ready.linked j u e x is

  copy_apart : (j : ℕ) (u : View) (move : Move) → get_elem? vs j ≡ some u → u.moving ≡ Some move → move.copy.slot ≢ slot
  copy_apart j u move e is = dite (ℕ_discrete j id)
      (λ same. (let it : u ≡ v = some-injective u v (sym e ∙ subst (λ z. get_elem? vs z ≡ some v) (sym same) there) in
      ready.no_copy move (ap (λ (z : View). z.moving) (sym it) ∙ is)))
      (λ ne here. alone j u ne e (subst (HasLock u) here (i.tree.moves.each j u e move is).copy_lock))

  after_is : after_mark v slot life ≡ w
  after_is = ap (λ (z : View). record z { locks = change_lock slot (with_mark true) z.locks })
      (noting-lock v slot (Life slot) (life + 1) true (λ x is. hand_apart id v x there is) (λ x is. spare_apart id v x there is)
      (λ move is. copy_apart id v move there is))

  emptied_same : (a : Side) → is_emptied new_lock a ≡ is_emptied lock a
  emptied_same Left = refl
  emptied_same Right = refl

  outside : v.section ≡ None
  outside = lock_outside k m vs h i id v there slot lock needs.locked

  one : OneLock v w slot lock new_lock
  one = noted_then v slot lock entry (with_mark true) (λ l. refl) needs.locked outside

  kept_slot : IsLockKept marked_memory g w slot new_lock
  kept_slot = let t = i.locks.kept id v there slot lock needs.locked in record {
    marked = λ e. (ready.linked, (let a = life_here in let r = ready in let c = r.life_is in omega arith));
    own_mark = λ l odd. refl;
    emptied = λ a e. t.emptied a (sym (emptied_same a) ∙ e);
  }

  generation_back : (x : ℕ) → HasGeneration marked_memory slot x new_lock → HasGeneration m slot x lock
  generation_back x has = ⊎_elim (λ (e : marked_memory (Life slot) ≡ 2 * x). absurd (odd_here x (sym life_here ∙ e)))
      (λ (e : (marked_memory (Life slot) ≡ 2 * x + 1) × (new_lock.marked ≡ true)). inl
      (let a = life_here in let c = e.0 in let r = ready in let d = r.now in omega arith)) has

  reading_kept : (r : Reading) → IsReadingKept m g r → IsReadingKept marked_memory g r
  reading_kept r t = record {
    generations = λ s l known. (let a = t.generations s l known in let c = half s in omega arith);
    tags = t.tags;
    linked = λ s l known same. dite (ℕ_discrete s slot) (λ here. ap g.linked here ∙ ready.linked)
        (λ ne. t.linked s l known (sym (life_else s ne) ∙ same));
    keys = λ s l key known same known_key. t.keys s l key known (sym (half s) ∙ same) known_key;
  }

  locks_marked : LockParts marked_memory (slot_count k) g (set vs id w)
  locks_marked = lock_stays m marked_memory (slot_count k) g vs id v w there slot lock new_lock one stores alone kept_slot
      (lock_noted m marked_memory v w slot lock new_lock (Life slot) (life + 1) true refl refl life_here
      (λ f own ne. stored_else m (Life slot) f (life + 1) ne) refl generation_back
      (λ e. noted_here lock.known (Life slot) (life + 1) true ∙ ap Some (sym life_here)) known_here)
      reading_kept i.locks

  -- who emptied a side still did
  emptied_now : (s : ℕ) (a : Side) → IsEmptied vs s a → IsEmptied (set vs id w) s a
  emptied_now s a = emptied_after vs id v w slot lock new_lock there one s a (λ _ e. emptied_same a ∙ e)

  off_slot : (s : ℕ) → g.linked s ≡ false → s ≢ slot
  off_slot s off e = absurd (let q : true ≡ false = sym ready.linked ∙ ap g.linked (sym e) ∙ off in cc)

  hands_else : (j : ℕ) (u : View) → get_elem? vs j ≡ some u → AreHandsKnown m u → AreHandsKnown marked_memory u
  hands_else j u e = hands_beside m marked_memory slot stores u
      (let none = linked_apart k m vs h i slot ready.linked j u e in let a = slots_count u slot in omega arith)
      (λ move is. copy_apart j u move e is)

  generation_here : (x : ℕ) → HasGeneration m slot x lock → HasGeneration marked_memory slot x new_lock
  generation_here x has = ⊎_elim
      (λ (e : m (Life slot) ≡ 2 * x). inr (life_here ∙ (let r = ready in let a = r.now in omega arith), refl))
      (λ (e : (m (Life slot) ≡ 2 * x + 1) × (lock.marked ≡ true)). absurd
      (let f = e.0 in let r = ready in let a = r.now in let d = r.life_is in omega arith)) has

  marked_before : HoldsNow k marked_memory (set vs id w) h
  marked_before = under_lock k m marked_memory vs h id v i there works locks slot lock new_lock one
      (life_or_tag_stores m slot (Life slot) (life + 1) refl tt) (record {
        half = half;
        off = λ s off. life_else s (off_slot s off);
        root = life_else 0 (λ e. ready.some_slot (sym e)) ∙ i.slots.root;
        recorded = λ r s x. record {
          generation = x.generation;
          recorded = x.recorded;
          same = dite (ℕ_discrete s slot)
              (λ same. absurd (odd_here x.generation (sym life_here ∙ ap (λ z. marked_memory (Life z)) (sym same) ∙ x.same)))
              (λ ne. sym (life_else s ne) ∙ x.same);
        };
        tags = λ j u r s tag b e has known same settled. (same, λ x. settled (emptied_now s b x));
        hands = hands_else;
        away = life_else;
        alone = alone;
        here = generation_here;
        copies = λ j u move e is. life_else move.copy.slot (copy_apart j u move e is);
      }) locks_marked (let a = emptied_change_same slot (with_mark true) (λ l. refl) (λ l. refl) noted_locks in
      let b = emptied_change_same slot (note_lock entry) (λ l. refl) (λ l. refl) v.locks in omega arith)

  pub node_marked : HoldsNow k marked_memory (set vs id (after_mark v slot life)) h
  node_marked = subst (λ (z : View). HoldsNow k marked_memory (set vs id z) h) (sym after_is) marked_before

  pub past_marked : KeepsPast m h marked_memory
  past_marked = record {
    lives = λ s. dite (ℕ_discrete s slot) (λ same. subst (λ z. m (Life z) ≤ marked_memory (Life z)) (sym same)
        (let a = life_here in let r = ready in let c = r.now in omega arith)) (λ ne. (let e = life_else s ne in omega arith));
    tags = λ s b. omega arith;
    content = λ s field gone odd content. (life_or_tag_stores m slot (Life slot) (life + 1) refl tt).content s field content;
  }

module _ (z : Stepper) where
  open z use {k, m, vs, h, id, v, inv, there, works}

  pub keeps_mark : (slot life : ℕ) → NeedsMark v slot life
      → StepKeeps z (Life slot) (life + 1) (after_mark v slot life) []
  keeps_mark slot life needs = no_mark k m (stored m (Life slot) (life + 1)) h (set vs id (after_mark v slot life)) (record {
    invariant = node_marked k m vs h id v inv there works slot life needs;
    past = past_marked k m vs h id v inv there works slot life needs;
  })

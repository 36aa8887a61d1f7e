-- A step that stores in a slot that isn't linked, that no open section can meet and that no other view has to do with: what it leaves, and
-- what its mark says where it gives or frees the slot.
use Rattle.std.proofs.Common.{◌≡◌, ◌≢◌, ℕ, ◌+◌, ◌*◌, ◌/◌, ◌<◌, ◌≤◌, ◌⊎◌, true, false, List, Some, refl, sym, ap, subst, ◌∙◌, ⊎_elim, inl, inr, arith, ◌++◌, set, ◌==◌, suc, Bool, cond, [], ◌∷◌, length, Option, None, append-nil, ne_eqb, eq-eqb}
use mathlib.Core.Option.{some, some-injective}
use lib.ListN.{get_elem?}
use Rattle.prcu_model.specs.declared.operation.Update.{Update}
use Rattle.prcu_marks.specs.declared.mark.Mark.{Mark}
use Rattle.prcu_marks.specs.declared.mark.Mark.TheVariants.{Done, Entered, Left, Began, Ended, Given, Unlinked, Freed, Moved}
use Rattle.prcu_marks.specs.declared.mark.Side.{Side}
use Rattle.prcu_marks.specs.Marks.{updates_of, gone_at, Open, open_at, next_gone, unlinked_from, last_unlinked, greatest_key}
use Rattle.core_state.specs.declared.words.Field.{Field}
use Rattle.core_state.specs.declared.words.Field.TheVariants.{Life, Key, Value, Link, Tag, State}
use Rattle.core_state.specs.declared.view.HeldLock.{HeldLock}
use Rattle.core_state.specs.declared.view.Reading.{Reading}
use Rattle.core_state.specs.declared.view.Section.{Section}
use Rattle.core_state.specs.declared.view.View.{View}
use Rattle.list_laws.specs.Counts.{times, IsIn, Each}
use Rattle.core_state.specs.Memory.{IsEven, Memory, slot_count, IsOdd, flag}
use Rattle.core_state.specs.Views.{known_in, lock_of, HasLock, is_emptied, IsOwnField, LoadedGeneration, readings_of, slots_of, open_reading, joined_retired, held_list, retired_of, spares_of}
use Rattle.core_state.specs.Tree.{IsHeldBack, Chart, HasEmptied}
use Rattle.core_state.specs.Parts.{HasFewLocks, IsUnraised, HasGeneration, IsAsRecorded, SlotParts, IsLockKept, IsLockKnown, IsReadingKept, LockParts, roles_of, HasFewSlots, IsRetired, IsHeldKnown, AreHandsKnown, CountParts, GraceParts, IsClear, HasRetired, IsHandKnown}
use Rattle.list_laws.proofs.Lists.{in_second, in_first, each_set, total_set, at_end, past_snoc, somewhere_still}
use Rattle.core_laws.proofs.Stores.{StoresIn, held_beside, content_away, hand_beside, hands_beside}
use Rattle.core_laws.proofs.ChartStays.{SameOutside, ChartStep, OuterParts, chart_stays, grace_by}
use Rattle.core_frames.proofs.WholeFrames.{Stepper, waited_more, waited_back, grace_plain}
use Rattle.core_frames.proofs.Roles.{own_apart, retired_own, slots_count}
use mathlib.Core.Logic.{dite}
use native.Mathlib.Decide.{dec_le, ℕ_discrete}
use Rattle.std.proofs.lemmas.Bool.{cases_eq, eqb-true}
use Rattle.core_laws.proofs.LockSteps.{locks_by}
use Rattle.core_state.specs.declared.view.Held.{Held}
use Rattle.core_state.specs.declared.view.Move.{Move}
use Rattle.core_state.specs.declared.view.Retired.{Retired}
use Rattle.core_state.specs.Invariant.{HoldsNow}
use Rattle.atomic_table.proofs.Lists.{at_longer}
use Rattle.prcu_marks.proofs.Marks.{updates_of-append, gone_at-snoc}
use Rattle.core_state.specs.Marks.{IsReused, Reuse}
use Rattle.core_frames.proofs.Marks.{SameEnd, end_same, end_more, open_mark, IsPlain, plain_one}
use Rattle.core_frames.proofs.WaitFrames.{NewMark}
use Rattle.core_state.specs.declared.shape.Shape.{Shape}
use Rattle.core_frames.proofs.PlaceFrames.{retired_by}

-- What becomes of a lock of the view: at most one thing more is known of the slot, which is so.
pub record OffLock (m' : Memory) (s t : ℕ) (l l' : HeldLock) : Type 0 where
  pub marked : l'.marked ≡ l.marked
  pub emptied : (a : Side) → is_emptied l' a ≡ is_emptied l a
  pub knew : (f : Field) (number : ℕ) → known_in l'.known f ≡ Some number
      → ((t ≡ s) × IsOwnField s f × (m' f ≡ number)) ⊎ (known_in l.known f ≡ Some number)
  pub apart : t ≢ s → l'.known ≡ l.known

pub same_lock : (m' : Memory) (s t : ℕ) (l : HeldLock) → OffLock m' s t l l
same_lock m' s t l = record { marked = refl; emptied = λ a. refl; knew = λ f number e. inr e; apart = λ _. refl }

-- The marks afterwards say the same of the dictionary and of the other slots.
pub record SameElse (s : ℕ) (h hs : List Mark) : Type 0 where
  pub updates : updates_of hs ≡ updates_of h
  pub ends : SameEnd h hs
  pub longer : (j : ℕ) (a : Mark) → get_elem? h j ≡ some a → get_elem? hs j ≡ some a
  pub done : (j : ℕ) (u : Update) → get_elem? hs j ≡ some (Done u) → get_elem? h j ≡ some (Done u)
  pub else : (t : ℕ) → t ≢ s → gone_at t hs ≡ gone_at t h
  pub back : (t p : ℕ) → gone_at t hs ≡ Some p → gone_at t h ≡ Some p

pub no_marks : (s : ℕ) (h : List Mark) → SameElse s h h
no_marks s h = record { updates = refl; ends = end_same h; longer = λ j a e. e; done = λ j u e. e; else = λ t _. refl; back = λ t p e. e }

-- a slot that is among those of one view is no other view's
pub no_others : {room : ℕ} (m : Memory) (n : ℕ) (g : Chart) (vs : List View) (h : List Mark) → SlotParts room m n g vs h → (id : ℕ) (v : View)
    → get_elem? vs id ≡ some v → (s : ℕ) → 1 ≤ times s (slots_of v)
    → (j : ℕ) (u : View) → j ≢ id → get_elem? vs j ≡ some u → times s (slots_of u) ≡ 0
no_others m n g vs h t id v there s mine j u ne e =
    dite (dec_le 1 (times s (slots_of u))) (λ has. absurd (ne (own_apart m n g vs h t id v there s j u e mine has))) (λ none. omega arith)

-- Such a step.
pub record OffStep : Type 0 where
  pub who : Stepper
  pub m' : Memory
  pub hs : List Mark
  pub w : View
  pub s : ℕ
  -- the words of the slot: no tag changes, and the generation only to one that no section has loaded
  pub stores : StoresIn who.m m' s
  pub tag : (t : ℕ) (b : Side) → m' (Tag t b) ≡ who.m (Tag t b)
  pub grows : who.m (Life s) / 2 ≤ m' (Life s) / 2
  pub fresh : IsEven (who.m (Life s)) ⊎ (who.m (Life s) / 2 < m' (Life s) / 2)
  pub links : (t p : ℕ) → gone_at t hs ≡ Some p → (b : Side) → m' (Link t b) ≡ who.m (Link t b)
  -- who has to do with the slot
  pub below : s < slot_count who.k
  pub off : who.inv.chart.linked s ≡ false
  pub unmet : (j : ℕ) (u : View) (section : Section) → get_elem? who.vs j ≡ some u → u.section ≡ Some section
      → IsHeldBack who.inv.chart who.h section.entered s → ⊥
  pub others : (j : ℕ) (u : View) → j ≢ who.id → get_elem? who.vs j ≡ some u → times s (slots_of u) ≡ 0
  -- the view and the marks afterwards
  pub view : SameOutside who.v w
  pub few_locks : HasFewLocks who.v → HasFewLocks w
  pub lock_back : (t : ℕ) (l' : HeldLock) → lock_of w.locks t ≡ Some l'
      → (l : HeldLock) × (lock_of who.v.locks t ≡ Some l) × OffLock m' s t l l'
  pub lock_forth : (t : ℕ) (l : HeldLock) → lock_of who.v.locks t ≡ Some l
      → (l' : HeldLock) × (lock_of w.locks t ≡ Some l') × OffLock m' s t l l'
  pub unraised : (t : ℕ) → HasLock who.v t → IsUnraised who.v t → (t ≢ s) × IsUnraised w t
  pub marks : SameElse s who.h hs

module _ (z : OffStep) where
  open z use {who.{m, vs, h, id, v, inv.{chart as g}}, m', w, s}

  pub on_apart : (t : ℕ) → g.linked t ≡ true → t ≢ s
  on_apart t l e = let q : true ≡ false = sym l ∙ ap g.linked e ∙ z.off in absurd (cc)

  pub life_away : (t : ℕ) → t ≢ s → m' (Life t) ≡ m (Life t)
  life_away t ne = z.stores.away t (Life t) ne refl

  -- no section has loaded the generation that the slot has now
  pub unread : (j : ℕ) (u : View) (r : Reading) (life : ℕ) → get_elem? vs j ≡ some u → IsIn (readings_of u) r
      → known_in r.loads (Life s) ≡ Some life → m' (Life s) / 2 ≡ life / 2 → ⊥
  unread j u r life e has loaded is =
      let i = z.who.inv.locks.readings j u e has.0 r has.1 in
      let a = i.generations s life loaded in
      let b = z.grows in
      ⊎_elim
      (λ (even : IsEven (m (Life s))). (let on = i.linked s life loaded (omega arith) in let q : true ≡ false = sym on ∙ z.off in
      absurd (cc)))
      (λ (more : m (Life s) / 2 < m' (Life s) / 2). absurd (omega arith)) z.fresh

  pub unloaded : (j : ℕ) (u : View) (r : Reading) (t generation : ℕ) → get_elem? vs j ≡ some u → IsIn (readings_of u) r
      → LoadedGeneration r t generation → m' (Life t) / 2 ≡ generation → t ≢ s
  unloaded j u r t generation e has loaded is same =
      unread j u r loaded.0 e has (ap (λ x. known_in r.loads (Life x)) (sym same) ∙ loaded.1)
      (ap (λ x. m' (Life x) / 2) (sym same) ∙ is ∙ loaded.2)

  pub recorded_back : (j : ℕ) (u : View) (r : Reading) → get_elem? vs j ≡ some u → IsIn u.records r → (t : ℕ) → IsAsRecorded m' r t
      → (t ≢ s) × IsAsRecorded m r t
  recorded_back j u r e has t i =
      let far = unloaded j u r t i.generation e (in_second (open_reading u.section) u.records r has) i.recorded
      (let a = i.same in omega arith) in
      (far, record { generation = i.generation; recorded = i.recorded; same = sym (life_away t far) ∙ i.same })

  pub generation_away : (t generation : ℕ) (l l' : HeldLock) → t ≢ s → l'.marked ≡ l.marked → HasGeneration m t generation l
      → HasGeneration m' t generation l'
  generation_away t generation l l' ne marked has =
      ⊎_elim (λ y. inl (life_away t ne ∙ y)) (λ (y : (m (Life t) ≡ 2 * generation + 1) × (l.marked ≡ true)). inr
      (life_away t ne ∙ y.0, marked ∙ y.1)) has

  abbrev pub off_chart : ChartStep (λ t. t ≢ z.s)
  off_chart = record {
    who = z.who;
    m' = z.m';
    hs = z.hs;
    w = z.w;
    contents = record {
      key = λ t ne. z.stores.away t (Key t) ne refl;
      link = λ t b ne. z.stores.away t (Link t b) ne refl;
      value = λ t ne. z.stores.away t (Value t) ne refl;
    };
    beside = z.stores.beside;
    on = on_apart;
    half = λ t ne. ap (λ x. x / 2) (life_away t ne);
    met = λ j u section e inside t back.
        (let ne : t ≢ z.s = (λ same. z.unmet j u section e inside (subst (IsHeldBack z.who.inv.chart z.who.h section.entered) same back)) in
        (ne, z.marks.else t ne, life_away t ne));
    gone = λ t p gone. (z.marks.back t p gone, z.links t p gone);
    recorded = recorded_back;
    side = λ j u r t tag b e has known same settled. (
      sym (z.tag t b) ∙ same,
      λ x. settled (somewhere_still z.who.vs z.who.id z.who.v z.w z.who.there (λ (y : HasEmptied z.who.v t b).
          (let f = z.lock_forth t y.lock y.held in record { lock = f.0; held = f.1; emptied = f.2.emptied b ∙ y.emptied })) x),
    );
    held = λ t l. (let f = z.lock_forth t l.0 l.1 in (f.0, f.1));
    generation = λ j u t l generation ne e is on x. generation_away t generation l l (on_apart t on) refl x;
    own_generation = λ t l generation is on x. (let f = z.lock_forth t l is in
        (f.0, f.1, generation_away t generation l f.0 (on_apart t on) f.2.marked x));
    copies = λ j u move e is. life_away move.copy.slot (on_apart move.copy.slot (z.who.inv.tree.moves.each j u e move is).copy_linked);
    view = z.view;
    updates = z.marks.updates;
    ends = z.marks.ends;
    longer = z.marks.longer;
    done = z.marks.done;
  }

-- A store in a slot that isn't linked: the parts on locks.

module _ (z : OffStep) where
  open z use {who.{m, vs, h, id, v, inv.{chart as g}}, m', w, s}

  kept_any : (j : ℕ) (u x : View) → get_elem? vs j ≡ some u → (t : ℕ) (l l' : HeldLock) → lock_of u.locks t ≡ Some l → OffLock m' s t l l'
      → (IsUnraised u t → (t ≢ s) × IsUnraised x t) → IsLockKept m' g x t l'
  kept_any j u x e t l l' holds same unraised = let i = z.who.inv.locks.kept j u e t l holds in record {
    marked = λ q. (let a = i.marked (sym same.marked ∙ q) in (a.0, subst IsOdd (sym (life_away z t (on_apart z t a.0))) a.1));
    own_mark = λ on o. same.marked ∙ i.own_mark on (subst IsOdd (life_away z t (on_apart z t on)) o);
    emptied = λ b q.
        (let a = i.emptied b (sym (same.emptied b) ∙ q) in
        ⊎_elim (λ (on : g.linked t ≡ true). (z.stores.away t (Link t b) (on_apart z t on) refl ∙ a.0, inl on))
        (λ (y : IsUnraised u t). (let far = unraised y in (z.stores.away t (Link t b) far.0 refl ∙ a.0, inr far.1))) a.1);
  }

  unraised_else : (j : ℕ) (u : View) → j ≢ id → get_elem? vs j ≡ some u → (t : ℕ) → IsUnraised u t → (t ≢ s) × IsUnraised u t
  unraised_else j u ne e t i =
      let among = in_first u.hands.retired (joined_retired u.allowance.joined) i.retired i.has in (
        (λ same. (let none = z.others j u ne e in let one = retired_own u i.retired among in
            let a = ap (λ x. times x (slots_of u)) (i.slot ∙ same) in
            absurd (omega arith))),
        i,
      )

  known_any : (j : ℕ) (u x : View) → get_elem? vs j ≡ some u → readings_of x ≡ readings_of u → (t : ℕ) (l l' : HeldLock)
      → lock_of u.locks t ≡ Some l → OffLock m' s t l l' → IsLockKnown m' x t l'
  known_any j u x e readings t l l' holds same =
      let i = z.who.inv.locks.known j u e t l holds in
      let was_in : (r : Reading) → IsIn (readings_of x) r → IsIn (readings_of u) r = (λ r has. subst (λ rs. IsIn rs r) readings has) in
      record {
        own = λ f number q. ⊎_elim (λ (y : (t ≡ s) × IsOwnField s f × (m' f ≡ number)). subst (λ o. IsOwnField o f) (sym y.0) y.1)
            (λ y. i.own f number y) (same.knew f number q);
        tags = λ b number q. ⊎_elim (λ (y : (t ≡ s) × IsOwnField s (Tag t b) × (m' (Tag t b) ≡ number)). y.2)
            (λ y. z.tag t b ∙ i.tags b number y) (same.knew (Tag t b) number q);
        fields = λ r generation number f has loaded gen q.
            (let far : t ≢ s = unloaded z j u r t generation e (was_in r has) loaded (half_of generation gen) in
            let old : HasGeneration m t generation l =
            ⊎_elim (λ (y : m' (Life t) ≡ 2 * generation). inl (sym (life_away z t far) ∙ y))
            (λ (y : (m' (Life t) ≡ 2 * generation + 1) × (l'.marked ≡ true)). inr
            (sym (life_away z t far) ∙ y.0, sym same.marked ∙ y.1)) gen in
            ⊎_elim (λ (y : (t ≡ s) × IsOwnField s f × (m' f ≡ number)). y.2)
            (λ (y : known_in l.known f ≡ Some number). z.stores.away t f far (i.own f number y)
            ∙ i.fields r generation number f (was_in r has) loaded old y) (same.knew f number q));
        lives = λ r generation has loaded q. ⊎_elim
            (λ (y : (t ≡ s) × IsOwnField s (Life t) × (m' (Life t) ≡ 2 * generation)). y.2)
            (λ (y : known_in l.known (Life t) ≡ Some (2 * generation)).
            (let a = i.lives r generation (was_in r has) loaded y in
            let on = (z.who.inv.locks.readings j u e (was_in r has).0 r (was_in r has).1).linked t loaded.0 loaded.1
            (let b = loaded.2 in omega arith) in
            life_away z t (on_apart z t on) ∙ a)) (same.knew (Life t) (2 * generation) q);
        marked_life = λ q.
            (let on = ((z.who.inv.locks.kept j u e t l holds).marked (sym same.marked ∙ q)).0 in
            let far = on_apart z t on in
            ap (λ ks. known_in ks (Life t)) (same.apart far) ∙ i.marked_life (sym same.marked ∙ q) ∙ ap Some (sym (life_away z t far)));
      }
    where
      half_of : (generation : ℕ) → HasGeneration m' t generation l' → m' (Life t) / 2 ≡ generation
      half_of generation gen = ⊎_elim (λ (y : m' (Life t) ≡ 2 * generation). omega arith)
          (λ (y : (m' (Life t) ≡ 2 * generation + 1) × (l'.marked ≡ true)). let a = y.0 in omega arith) gen

  reading_any : (j : ℕ) (u : View) → get_elem? vs j ≡ some u → (r : Reading) → IsIn (readings_of u) r → IsReadingKept m' g r
  reading_any j u e r has = let i = z.who.inv.locks.readings j u e has.0 r has.1 in record {
    generations = λ t life q. ⊎_elim
        (λ (f : t ≡ s). (let a = i.generations t life q in let b = z.grows in let c = ap (λ x. m' (Life x)) f in
        let d = ap (λ x. m (Life x)) f in omega arith))
        (λ ne. (let a = i.generations t life q in let b = life_away z t ne in omega arith)) (cases_eq t s);
    tags = λ t number b q. (let a = i.tags t number b q in let c = z.tag t b in omega arith);
    linked = λ t life q f. (let far : t ≢ s = (λ y. fresh t life q y (omega arith)) in i.linked t life q (sym (life_away z t far) ∙ f));
    keys = λ t life key q f known. (let far : t ≢ s = (λ y. fresh t life q y f) in
        z.stores.away t (Key t) far refl ∙ i.keys t life key q (ap (λ x. x / 2) (sym (life_away z t far)) ∙ f) known);
  }
    where
      fresh : (t life : ℕ) → known_in r.loads (Life t) ≡ Some life → t ≡ s → m' (Life t) / 2 ≡ life / 2 → ⊥
      fresh t life q y f = unread z j u r life e has (ap (λ x. known_in r.loads (Life x)) (sym y) ∙ q)
          (ap (λ x. m' (Life x) / 2) (sym y) ∙ f)

  readings_same : readings_of w ≡ readings_of v
  readings_same = λ j. open_reading (z.view.section j) ++ z.view.records j

  pub off_locks : LockParts m' (slot_count z.who.k) g (set vs id w)
  off_locks = locks_by m m' (slot_count z.who.k) g g vs id v w (OffLock m' s) z.who.there (record {
    words = z.stores.lock;
    place = z.view.places.place;
    few = z.few_locks;
    back = z.lock_back;
    forth = λ t l is. (let f = z.lock_forth t l is in (f.0, f.1));
    holder = λ t on odd. (let a = z.who.inv.locks.marked t on (subst IsOdd (life_away z t (on_apart z t on)) odd) in (a.0, a.1));
    kept = λ t l l' is same. kept_any id v w z.who.there t l l' is same (z.unraised t (l, is));
    kept_else = λ j u t l ne e is. kept_any j u u e t l l is (same_lock m' s t l) (unraised_else j u ne e t);
    known = λ t l l' is same. known_any id v w z.who.there readings_same t l l' is same;
    known_else = λ j u t l ne e is. known_any j u u e refl t l l is (same_lock m' s t l);
    readings = subst (λ rs. Each rs (IsReadingKept m' g)) (sym readings_same) (λ j r e. reading_any id v z.who.there r (j, e));
    readings_else = λ j u ne e n r is. reading_any j u e r (n, is);
  }) z.who.inv.locks

-- A store in a slot that isn't linked: the parts on slots, and the whole.

module _ (z : OffStep) where
  open z use {who.{k, m, vs, h, id, v, inv.{chart as g}}, m', hs, w, s}

  abbrev n : ℕ
  n = slot_count z.who.k

  abbrev us : List View
  us = set vs id w

  -- what is known of other slots is so
  pub held_away : (held : Held) → held.slot ≢ s → IsHeldKnown m held → IsHeldKnown m' held
  held_away = held_beside m m' s z.stores

  pub even_away : (t : ℕ) → t ≢ s → IsEven (m (Life t)) → IsEven (m' (Life t))
  even_away t ne even = subst IsEven (sym (life_away z t ne)) even

  pub retired_away : (r : Retired) → r.slot ≢ s → IsRetired m h r → IsRetired m' hs r
  retired_away r ne = retired_by m m' h hs r (z.marks.else r.slot ne) (life_away z r.slot ne)
      (λ field c. content_away m m' s z.stores r.slot field ne c)

  pub hand_away : (held : Held) → held.slot ≢ s → IsHandKnown m held → IsHandKnown m' held
  hand_away = hand_beside m m' s z.stores

  pub copy_away : (j : ℕ) (u : View) → get_elem? vs j ≡ some u → (move : Move) → u.moving ≡ Some move → IsHandKnown m' move.copy
  copy_away j u e move q = hand_away move.copy (on_apart z move.copy.slot (z.who.inv.tree.moves.each j u e move q).copy_linked)
      ((z.who.inv.slots.hands j u e).copy move q)

  -- of a view that has the slot neither in hand nor as a spare
  pub hands_away : (j : ℕ) (u : View) → get_elem? vs j ≡ some u → times s (held_list u.hands.hand) + times s (spares_of u) ≡ 0
      → AreHandsKnown m' u
  hands_away j u e none = hands_beside m m' s z.stores u none
      (λ move q. on_apart z move.copy.slot (z.who.inv.tree.moves.each j u e move q).copy_linked) (z.who.inv.slots.hands j u e)

  -- what the step has to say of the slots of its own view
  pub record OwnSlots : Type 0 where
    pub role : flag (m' (State s) == 0) + times s (slots_of w) ≡ flag (m (State s) == 0) + times s (slots_of v)
    pub roles : (t : ℕ) → t ≢ s → times t (slots_of w) ≡ times t (slots_of v)
    pub low : m' (State s) ≤ 1
    pub even : m' (State s) ≡ 0 → IsEven (m' (Life s))
    pub few : HasFewSlots k.room w
    pub hands : AreHandsKnown m' w
    pub retired : Each (retired_of w) (IsRetired m' hs)
    pub unlinked : (t p : ℕ) → gone_at t hs ≡ Some p → HasRetired v t → HasRetired w t

  module _ (c : OwnSlots) where
    pub once_now : (t : ℕ) → t < n → roles_of m' g us t ≡ 1
    once_now t lt =
        let sum = total_set (λ (u : View). times t (slots_of u)) vs id v w z.who.there in
        let before = z.who.inv.slots.roles.once t lt in
        ⊎_elim
        (λ (on : t ≡ s).
        (let r = c.role in
        let now = ap (λ x. flag (m' (State x) == 0)) on in
        let was = ap (λ x. flag (m (State x) == 0)) on in
        let mine_now = ap (λ x. times x (slots_of w)) on in
        let mine = ap (λ x. times x (slots_of v)) on in
        omega arith))
        (λ ne. (let r = c.roles t ne in let word = ap (λ x. flag (x == 0)) (z.stores.away t (State t) ne refl) in omega arith))
        (cases_eq t s)

    pub slots_now : SlotParts k.room m' n g us hs
    slots_now = let t = z.who.inv.slots in record {
      roles = record {
        once = once_now;
        beyond = λ x far. (let sum = total_set (λ (u : View). times x (slots_of u)) vs id v w z.who.there in
            let before = t.roles.beyond x far in let lt = z.below in let r = c.roles x (λ e. omega arith) in omega arith);
        states = λ x lt. ⊎_elim (λ (on : x ≡ s). subst (λ y. m' (State y) ≤ 1) (sym on) c.low)
            (λ ne. subst (λ y. y ≤ 1) (sym (z.stores.away x (State x) ne refl)) (t.roles.states x lt)) (cases_eq x s);
      };
      few = each_set (λ j u. HasFewSlots k.room u) vs id w c.few (λ j u ne e. t.few j u e);
      free = λ x lt e. ⊎_elim (λ (on : x ≡ s). subst (λ y. IsEven (m' (Life y))) (sym on) (c.even (ap (λ y. m' (State y)) (sym on) ∙ e)))
          (λ ne. even_away x ne (t.free x lt (sym (z.stores.away x (State x) ne refl) ∙ e))) (cases_eq x s);
      root = life_away z 0 (on_apart z 0 z.who.inv.tree.shape.root) ∙ t.root;
      hands = each_set (λ j u. AreHandsKnown m' u) vs id w c.hands
          (λ j u ne e. hands_away j u e (let none = z.others j u ne e in let a = slots_count u s in omega arith));
      retired = each_set (λ j u. Each (retired_of u) (IsRetired m' hs)) vs id w c.retired
          (λ j u ne e i r f. retired_away r (λ same. (let none = z.others j u ne e in let one = retired_own u r (i, f) in
          let a = ap (λ x. times x (slots_of u)) same in absurd (omega arith))) (t.retired j u e i r f));
      unlinked = λ x p gone. somewhere_still vs id v w z.who.there (c.unlinked x p gone) (t.unlinked x p (z.marks.back x p gone));
    }

    -- the invariant, with the parts on counts and grace, and those that speak of no slot
    pub off_law : OuterParts z.who.k m' us hs → CountParts z.who.k.tickets m' n g us hs → GraceParts us hs → HoldsNow z.who.k m' us hs
    off_law outer counts grace = chart_stays (λ t. t ≢ z.s) (off_chart z) outer slots_now (off_locks z) counts grace

-- A slot is given or freed: what the mark says of it, and that it is used again only after all sections that may meet it.

-- the mark of the last unlinking stands in the list, or it was there before
abbrev pub LastStands : ℕ → ℕ → List Mark → ℕ → Type 0
LastStands s i h p = (j : ℕ) × (p ≡ i + j) × (get_elem? h j ≡ some (Unlinked s))

last_step : (s i : ℕ) (m : Mark) (h : List Mark) (p : ℕ) → LastStands s (i + 1) h p → LastStands s i (m ∷ h) p
last_step s i m h p l = (suc l.0, (let e = l.1 in omega arith), l.2)

last_more : (s i : ℕ) (g : Option ℕ) (m : Mark) (h : List Mark) (p : ℕ) → (g ≡ Some p) ⊎ LastStands s (i + 1) h p
    → (g ≡ Some p) ⊎ LastStands s i (m ∷ h) p
last_more s i g m h p (inl e) = inl e
last_more s i g m h p (inr l) = inr (last_step s i m h p l)

last_is : (s i : ℕ) (g : Option ℕ) (h : List Mark) (p : ℕ) → unlinked_from s i g h ≡ Some p → (g ≡ Some p) ⊎ LastStands s i h p
last_is s i g [] p e = inl e
last_is s i g (Entered q c x ∷ h) p e = last_more s i g (Entered q c x) h p (last_is s (i + 1) g h p e)
last_is s i g (Left q c ∷ h) p e = last_more s i g (Left q c) h p (last_is s (i + 1) g h p e)
last_is s i g (Began q c a b ∷ h) p e = last_more s i g (Began q c a b) h p (last_is s (i + 1) g h p e)
last_is s i g (Ended q c ∷ h) p e = last_more s i g (Ended q c) h p (last_is s (i + 1) g h p e)
last_is s i g (Done u ∷ h) p e = last_more s i g (Done u) h p (last_is s (i + 1) g h p e)
last_is s i g (Given t ∷ h) p e = last_more s i g (Given t) h p (last_is s (i + 1) g h p e)
last_is s i g (Freed t ∷ h) p e = last_more s i g (Freed t) h p (last_is s (i + 1) g h p e)
last_is s i g (Moved ∷ h) p e = last_more s i g Moved h p (last_is s (i + 1) g h p e)
last_is s i g (Unlinked t ∷ h) p e =
    ⊎_elim
    (λ (now : cond (t == s) (Some i) g ≡ Some p). here (t == s) refl now)
    (λ (l : LastStands s (i + 1) h p). inr (last_step s i (Unlinked t) h p l))
    (last_is s (i + 1) (cond (t == s) (Some i) g) h p e)
  where
    here : (b : Bool) → (t == s) ≡ b → cond b (Some i) g ≡ Some p → (g ≡ Some p) ⊎ LastStands s i (Unlinked t ∷ h) p
    here true same now = inr (0, (let f : i ≡ p = cc in omega arith), (let f = eqb-true t s same in λ n. some (Unlinked (f n))))
    here false same now = inl now

-- an open section was entered at another mark than that of an unlinking
entered_apart : (p s i : ℕ) (h : List Mark) (o : Open) → open_at p h ≡ Some o → last_unlinked s h ≡ Some i → o.at ≢ i
entered_apart p s i h o open_now last same =
    ⊎_elim (λ (none : None ≡ Some i). absurd (cc))
    (λ (l : LastStands s 0 h i).
    let b = l.1 in
    let one : o.at ≡ l.0 = omega arith in
    let q : some (Entered p o.count o.key) ≡ some (Unlinked s) = sym (open_mark p h o open_now) ∙ ap (get_elem? h) one ∙ l.2 in
    absurd (let r = some-injective (Entered p o.count o.key) (Unlinked s) q in cc))
    (last_is s 0 None h i last)

-- the mark of a slot that is given, or freed
abbrev pub used_mark : Bool → ℕ → Mark
used_mark true s = Given s
used_mark false s = Freed s

module _ (given : Bool) (s : ℕ) (h : List Mark) where
  abbrev more_marks : List Mark
  more_marks = h ++ used_mark given s ∷ []

  pub used_plain : (place : ℕ) → IsPlain place (used_mark given s)
  used_plain place = elim given as (λ b. IsPlain place (used_mark b s)) [ true ↦ tt | false ↦ tt ]

  pub used_new : (places : ℕ) → NewMark places h (used_mark given s)
  used_new places = elim given as (λ b. NewMark places h (used_mark b s)) [ true ↦ tt | false ↦ tt ]

  used_only : (t : ℕ) → IsReused (used_mark given s) t → t ≡ s
  used_only t = elim given as (λ b. IsReused (used_mark b s) t → t ≡ s) [
    | true ↦ λ x. ⊎_elim (λ (e : Given s ≡ Given t). let f : s ≡ t = cc in sym f) (λ (e : Given s ≡ Freed t). absurd (cc)) x
    | false ↦ λ x. ⊎_elim (λ (e : Freed s ≡ Given t). absurd (cc)) (λ (e : Freed s ≡ Freed t). let f : s ≡ t = cc in sym f) x
  ]

  -- the dictionary is the same, and so is what the marks say of other slots; of this one they say that it isn't unlinked
  pub used_updates : updates_of more_marks ≡ updates_of h
  used_updates =
      updates_of-append h (used_mark given s ∷ []) ∙ elim given as (λ b. updates_of h ++ updates_of (used_mark b s ∷ []) ≡ updates_of h) [
        | true ↦ append-nil (updates_of h)
        | false ↦ append-nil (updates_of h)
      ]

  pub used_ends : SameEnd h more_marks
  used_ends = elim given as (λ b. SameEnd h (h ++ used_mark b s ∷ [])) [
    | true ↦ end_more h (Given s ∷ []) refl refl refl
    | false ↦ end_more h (Freed s ∷ []) refl refl refl
  ]

  pub used_longer : (j : ℕ) (a : Mark) → get_elem? h j ≡ some a → get_elem? more_marks j ≡ some a
  used_longer j a e = at_longer h (used_mark given s ∷ []) j a e

  pub used_done : (j : ℕ) (u : Update) → get_elem? more_marks j ≡ some (Done u) → get_elem? h j ≡ some (Done u)
  used_done j u e = ⊎_elim (λ (o : get_elem? h j ≡ some (Done u)). o)
      (λ (x : (j ≡ length h) × (used_mark given s ≡ Done u)). absurd (no_update x.1)) (at_end h (used_mark given s) (Done u) j e)
    where
      no_update : used_mark given s ≡ Done u → ⊥
      no_update = elim given as (λ b. used_mark b s ≡ Done u → ⊥) [ true ↦ λ e. absurd (cc) | false ↦ λ e. absurd (cc) ]

  gone_by : (t : ℕ) → gone_at t more_marks ≡ cond (s == t) None (gone_at t h)
  gone_by t =
      gone_at-snoc t h (used_mark given s)
      ∙ elim given as (λ b. next_gone t (length h) (gone_at t h) (used_mark b s) ≡ cond (s == t) None (gone_at t h)) [
        | true ↦ refl
        | false ↦ refl
      ]

  pub used_gone : gone_at s more_marks ≡ None
  used_gone = gone_by s ∙ ap (λ b. cond b None (gone_at s h)) (eq-eqb s s refl)

  pub used_else : (t : ℕ) → t ≢ s → gone_at t more_marks ≡ gone_at t h
  used_else t ne = gone_by t ∙ ap (λ b. cond b None (gone_at t h)) (ne_eqb s t (λ e. ne (sym e)))

  pub used_back : (t p : ℕ) → gone_at t more_marks ≡ Some p → (t ≢ s) × (gone_at t h ≡ Some p)
  used_back t p e =
      let apart : t ≢ s = λ same. (let q : None ≡ Some p = sym used_gone ∙ ap (λ x. gone_at x more_marks) (sym same) ∙ e in absurd (cc)) in
      (apart, sym (used_else t apart) ∙ e)

  -- where a slot was unlinked last is as before
  last_from : (t i : ℕ) (g : Option ℕ) (l : List Mark) → unlinked_from t i g (l ++ used_mark given s ∷ []) ≡ unlinked_from t i g l
  last_from t i g [] = elim given as (λ b. unlinked_from t i g (used_mark b s ∷ []) ≡ g) [ true ↦ refl | false ↦ refl ]
  last_from t i g (Unlinked q ∷ l) = last_from t (i + 1) (cond (q == t) (Some i) g) l
  last_from t i g (_ ∷ l) = last_from t (i + 1) g l

  pub used_last : (t : ℕ) → last_unlinked t more_marks ≡ last_unlinked t h
  used_last t = last_from t 0 None h

  -- reuse goes on where the slot that is used again is met by no open section
  pub used_reuse : ((i p : ℕ) (o : Open) → last_unlinked s h ≡ Some i → open_at p h ≡ Some o → i < o.at) → Reuse h → Reuse more_marks
  used_reuse clean reuse j t i p a o at used last there =
      past_snoc (λ (past : List Mark) (b : Mark). IsReused b t → last_unlinked t past ≡ Some i → open_at p past ≡ Some o → i < o.at)
      h (used_mark given s) a
      (λ again gone now. clean i p o (ap (λ z. last_unlinked z h) (sym (used_only t again)) ∙ gone) now)
      (λ n old. reuse n t i p a o old) j at used last there

-- Where no section is open that was entered before a slot was unlinked last, each open one was entered after it.
pub entered_later : (k : Shape) (m : Memory) (vs : List View) (h : List Mark) → HoldsNow k m vs h → (s a p : ℕ) (o : Open)
    → IsClear vs a 0 greatest_key → last_unlinked s h ≡ Some a → open_at p h ≡ Some o → a < o.at
entered_later k m vs h i s a p o clear last now =
    let x = i.seats.opened p o now in
    let section = x.has.section in
    let at = ap (λ (z : Open). z.at) x.has.by_marks in
    let fits = (i.seats.sections x.id x.view x.there section x.has.is_open).key_fits in
    let ne = entered_apart p s a h o now last in
    dite (dec_le (suc a) o.at) (λ late. late)
    (λ early. dite (ℕ_discrete o.at a) (λ e. absurd (ne e))
    (λ n. absurd (clear x.id x.view section x.there x.has.is_open (omega arith) (omega arith) (omega arith))))

-- What a step leaves of marks, of waits and of reuse, where a slot is given or freed.

pub used_marks : (given : Bool) (s : ℕ) (h : List Mark) → SameElse s h (h ++ used_mark given s ∷ [])
used_marks given s h = record {
  updates = used_updates given s h;
  ends = used_ends given s h;
  longer = used_longer given s h;
  done = used_done given s h;
  else = used_else given s h;
  back = λ t p e. (used_back given s h t p e).1;
}

module _ (k : Shape) (m : Memory) (vs : List View) (h : List Mark) (id : ℕ) (v w : View) (i : HoldsNow k m vs h)
    (there : get_elem? vs id ≡ some v) (view : SameOutside v w)
    (came : (y : Retired) → IsIn w.hands.retired y
    → (x : Retired) × IsIn v.hands.retired x × (y.unlinked ≡ x.unlinked) × (y.waited ≡ x.waited)) where
  -- nobody is inside who entered before the slot was unlinked
  pub grace_used : (given : Bool) (s : ℕ) → ((a : ℕ) → last_unlinked s h ≡ Some a → IsClear vs a 0 greatest_key)
      → GraceParts (set vs id w) (h ++ used_mark given s ∷ [])
  grace_used given s clear =
      let hs = h ++ used_mark given s ∷ [] in
      let more = plain_one v.allowance.place h (used_mark given s) (used_plain given s h v.allowance.place) in
      grace_by k m vs h id v w i there view came hs (waited_more v.allowance.place h hs more) (waited_back v.allowance.place h hs more)
      (grace_plain v.allowance.place h hs more i.grace.grace)
      (used_reuse given s h (λ a p o last now. entered_later k m vs h i s a p o (clear a last) last now) i.grace.reuse)
      (λ t at none last. (let was = sym (used_last given s h t) ∙ last in
      ⊎_elim (λ (e : t ≡ s). clear at (ap (λ x. last_unlinked x h) (sym e) ∙ was))
      (λ ne. i.grace.clean t at (sym (used_else given s h t ne) ∙ none) was) (cases_eq t s)))

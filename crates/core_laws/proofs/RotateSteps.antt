-- A rotation: its marks, the step and what its needs give, and the parts on locks after it.
use Rattle.std.proofs.Common.{◌≡◌, ◌≢◌, ℕ, ◌+◌, List, [], ◌∷◌, ◌++◌, length, Some, sym, ap, subst, ◌∙◌, arith, append_assoc, length-append, append-nil, ◌*◌, ◌/◌, ◌≤◌, true, false, set, None, refl, ◌⊎◌, cond, ⊎_elim, inl, inr, Bool, eq-eqb, ne_eqb, ◌==◌}
use Rattle.prcu_marks.specs.declared.mark.Mark.{Mark}
use Rattle.prcu_marks.specs.declared.mark.Mark.TheVariants.{Unlinked}
use Rattle.prcu_model.specs.Dictionary.{map_of}
use Rattle.prcu_marks.specs.Marks.{updates_of, gone_at, last_unlinked}
use Rattle.prcu_marks.proofs.Marks.{updates_of-append}
use Rattle.core_state.specs.Marks.{AreMarks, Reuse}
use Rattle.core_state.specs.Parts.{map_now, IsHeldKnown, IsUnraised, LockParts}
use Rattle.core_frames.proofs.Marks.{PlainMarks, plain_one, plain_trans, unlinked_snoc, marks_unlinked, reuse_unlinked}
use Rattle.core_state.specs.Links.{rotate_marks, newly_retired, IsKnownAs, NeedsRotate, after_rotate, with_mark}
use mathlib.Core.Option.{some}
use lib.ListN.{get_elem?}
use Rattle.prcu_marks.specs.declared.mark.Side.{Side}
use Rattle.core_state.specs.declared.words.Field.{Field}
use Rattle.core_state.specs.declared.words.Field.TheVariants.{Life, Key, Value, Link}
use Rattle.core_state.specs.declared.view.Held.{Held}
use Rattle.core_state.specs.declared.view.Known.{Known}
use Rattle.core_state.specs.declared.view.Move.{Move}
use Rattle.core_state.specs.declared.view.Reading.{Reading}
use Rattle.core_state.specs.declared.view.Retired.{Retired}
use Rattle.core_state.specs.declared.view.View.{View}
use Rattle.list_laws.specs.Counts.{times, IsIn}
use Rattle.core_state.specs.Memory.{IsEven, IsOdd, Memory, stored, slot_count, across}
use Rattle.core_state.specs.Views.{known_in, known_under, HasLock, LoadedGeneration, readings_of, open_reading, spares_of, slots_of, lock_of, is_emptied, change_lock}
use Rattle.core_state.specs.Tree.{Chart, IsEmptied, HasEmptied}
use Rattle.list_laws.proofs.Lists.{in_second, in_first, somewhere_still}
use Rattle.core_frames.proofs.Roles.{hand_own, spare_own, spare_among, held_there, slots_count, own_below, own_off, own_once, not_gone}
use Rattle.core_frames.proofs.WholeFrames.{Stepper, SameForMore, same_for_more}
use Rattle.core_laws.proofs.Locks.{marked_lock, marked_linked, marked_field, marked_some, lock_outside, loaded_known, no_end_of, young_locked, IsAlive, alive, alive_field, one_holder, changed, lock_of-change, slots_change, length_change, IsRelocked, relocked, relocked_forth, relocked_back, relocked_slots, relocked_length, locks_back}
use Rattle.core_laws.proofs.Stores.{stores_link, link_at, link_stores}
use Rattle.core_laws.proofs.Turns.{Turn, Turns, turned, x_not_y, Stays, which, still as stays_on}
use Rattle.std.proofs.lemmas.Bool.{cases_eq}
use Rattle.prcu_marks.specs.declared.mark.Side.TheVariants.{Left, Right}
use Rattle.core_state.specs.declared.view.HeldLock.{HeldLock}
use Rattle.core_laws.proofs.ChartChanges.{put, put-same, put-other}
use Rattle.core_laws.proofs.LinkParts.{locks_more}
use Rattle.core_laws.proofs.LockSteps.{LockChange, locks_stored}
use Rattle.std.specs.FinMap as finite

-- The marks of a rotation: two slots are unlinked, the upper one first.

module _ (place : ℕ) (h : List Mark) (x y : ℕ) (ne : x ≢ y) where
  abbrev one : List Mark
  one = h ++ Unlinked x ∷ []

  abbrev pub both : List Mark
  both = h ++ rotate_marks x y

  both_is : one ++ Unlinked y ∷ [] ≡ both
  both_is = append_assoc h (Unlinked x ∷ []) (Unlinked y ∷ [])

  one_longer : length one ≡ length h + 1
  one_longer = let l = length-append h (Unlinked x ∷ []) in omega arith

  pub two_plain : PlainMarks place h both
  two_plain = subst (PlainMarks place h) both_is
      (plain_trans place h one (one ++ Unlinked y ∷ []) (plain_one place h (Unlinked x) tt) (plain_one place one (Unlinked y) tt))

  pub two_gone_upper : gone_at x both ≡ Some (length h)
  two_gone_upper = ap (gone_at x) (sym both_is) ∙ (unlinked_snoc one y).gone x ne ∙ (unlinked_snoc h x).here

  pub two_gone_lower : gone_at y both ≡ Some (length h + 1)
  two_gone_lower = ap (gone_at y) (sym both_is) ∙ (unlinked_snoc one y).here ∙ ap Some one_longer

  pub two_gone_other : (s : ℕ) → s ≢ x → s ≢ y → gone_at s both ≡ gone_at s h
  two_gone_other s nx ny = ap (gone_at s) (sym both_is) ∙ (unlinked_snoc one y).gone s ny ∙ (unlinked_snoc h x).gone s nx

  pub two_last_other : (s : ℕ) → s ≢ x → s ≢ y → last_unlinked s both ≡ last_unlinked s h
  two_last_other s nx ny = ap (last_unlinked s) (sym both_is) ∙ (unlinked_snoc one y).last s ny ∙ (unlinked_snoc h x).last s nx

  pub two_updates : updates_of both ≡ updates_of h
  two_updates = updates_of-append h (rotate_marks x y) ∙ append-nil (updates_of h)

  pub two_map : map_now both ≡ map_now h
  two_map = ap (λ us q. finite.get (map_of us) q) two_updates

  pub two_marks : (places : ℕ) → AreMarks places h → AreMarks places both
  two_marks places t = subst (AreMarks places) both_is (marks_unlinked place one y places (marks_unlinked place h x places t))

  pub two_reuse : Reuse h → Reuse both
  two_reuse t = subst Reuse both_is (reuse_unlinked one y (reuse_unlinked h x t))

-- A rotation: what its needs give of the words and the chart.

-- The step: the words, the view and what it has. Side b of p leads to x, and a side of x to y.
pub record RotateStep : Type 0 where
  pub who : Stepper
  pub upper : Held
  pub p : ℕ
  pub b : Side
  pub x : ℕ
  pub y : ℕ
  pub needs : NeedsRotate who.k.room who.v upper p b x y upper.slot

module _ (z : RotateStep) where
  open z use {who, who.{k, m, vs, h, id, v, there, inv, inv.{chart as g}}, upper, upper.{slot as top}, p, b, x, y, needs}
  open z.needs use {reading as r, lower, lower.{slot as sub}, turning, turning.{turn as t}}

  abbrev n : ℕ
  n = slot_count k

  kept : IsIn (readings_of v) r
  kept = in_second (open_reading v.section) v.records r needs.kept

  pub parent_alive : IsAlive k m vs h inv id v there r p
  parent_alive = let e = needs.parent_now in alive k m vs h inv id v there r p e.0 kept e.1
      (loaded_known (known_under v p) (Life p) (2 * e.0) e.2)

  pub parent_lock : HasLock v p
  parent_lock = (parent_alive.lock, parent_alive.locked)

  pub link_is : m (Link p b) ≡ x
  link_is = alive_field k m vs h inv id v there r p kept parent_alive (Link p b) x needs.link_now

  pub x_on : (g.linked x ≡ true) × IsOdd (m (Life x))
  x_on = marked_linked who r x kept needs.node_marked

  pub y_on : (g.linked y ≡ true) × IsOdd (m (Life y))
  y_on = marked_linked who r y kept needs.child_marked

  pub x_field : (field : Field) (number : ℕ) → known_in (known_under v x) field ≡ Some number → m field ≡ number
  x_field = marked_field who r x kept needs.node_marked

  pub y_field : (field : Field) (number : ℕ) → known_in (known_under v y) field ≡ Some number → m field ≡ number
  y_field = marked_field who r y kept needs.child_marked

  pub x_lock : HasLock v x
  x_lock = marked_lock who r x kept needs.node_marked

  pub y_lock : HasLock v y
  y_lock = marked_lock who r y kept needs.child_marked

  pub x_some : x ≢ 0
  x_some = marked_some who r x kept needs.node_marked

  pub y_some : y ≢ 0
  y_some = marked_some who r y kept needs.child_marked

  pub outside : v.section ≡ None
  outside = lock_outside k m vs h inv id v there p parent_alive.lock parent_alive.locked

  -- no other view has to do with the slots that are locked here
  pub no_end : (s : ℕ) → HasLock v s → (j : ℕ) (w : View) (move : Move) → get_elem? vs j ≡ some w → w.moving ≡ Some move
      → (move.copy.slot ≢ s) × (move.old ≢ s) × (move.parent ≢ s)
  no_end s mine j w move e is = no_end_of k m vs h inv id v there needs.settled s mine j w move e is

  -- the new slots
  top_known : IsHeldKnown m upper
  top_known = (inv.slots.hands id v there).spare upper needs.spare_is.0

  sub_known : IsHeldKnown m lower
  sub_known = ((inv.slots.hands id v there).hand lower needs.hand_is.0).known

  top_own : 1 ≤ times top (slots_of v)
  top_own = spare_own v upper needs.spare_is.0

  sub_own : 1 ≤ times sub (slots_of v)
  sub_own = hand_own v lower needs.hand_is.0

  pub top_off : g.linked top ≡ false
  top_off = own_off m n g vs h inv.slots id v there top top_own

  pub sub_off : g.linked sub ≡ false
  sub_off = own_off m n g vs h inv.slots id v there sub sub_own

  pub top_even : IsEven (m (Life top))
  top_even = (inv.slots.hands id v there).spares top (spare_among v upper needs.spare_is.0)

  pub sub_even : IsEven (m (Life sub))
  sub_even = ((inv.slots.hands id v there).hand lower needs.hand_is.0).even

  pub top_gone : gone_at top h ≡ None
  top_gone = let a = spare_among v upper needs.spare_is.0 in not_gone m n g vs h inv.slots id v there top (omega arith)

  pub sub_gone : gone_at sub h ≡ None
  sub_gone = let a = held_there v.hands.hand lower needs.hand_is.0 in not_gone m n g vs h inv.slots id v there sub (omega arith)

  pub apart : sub ≢ top
  apart e =
      let a = held_there v.hands.hand lower needs.hand_is.0 in
      let c = spare_among v upper needs.spare_is.0 in
      let f = slots_count v sub in
      let q = own_once m n g vs h inv.slots id v there sub in
      let i : times sub (spares_of v) ≡ times top (spares_of v) = ap (λ s. times s (spares_of v)) e in
      absurd (omega arith)

  pub some_of : (s : ℕ) → g.linked s ≡ false → s ≢ 0
  some_of s off e = let q : true ≡ false = sym inv.tree.shape.root ∙ ap g.linked (sym e) ∙ off in absurd (cc)

  -- no section has loaded the generation that a new slot has
  pub unread : (c : ℕ) → g.linked c ≡ false → IsEven (m (Life c)) → (j : ℕ) (w : View) (q : Reading) (generation : ℕ)
      → get_elem? vs j ≡ some w → IsIn (readings_of w) q → LoadedGeneration q c generation → m (Life c) / 2 ≡ generation → ⊥
  unread c off even j w q generation e has loaded is =
      let l = loaded.2 in
      let on = (inv.locks.readings j w e has.0 q has.1).linked c loaded.0 loaded.1 (omega arith) in
      let q : true ≡ false = sym on ∙ off in absurd (cc)

  -- what the slot in hand has, by its own number
  sub_is : IsKnownAs lower.known sub turning.node_key turning.node_value t turning.inner turning.far
  sub_is = subst (λ s. IsKnownAs lower.known s turning.node_key turning.node_value t turning.inner turning.far) (sym needs.hand_is.1)
      needs.bottom_is

  abbrev pub turn : Turn
  turn = record { p = p; b = b; x = x; t = t; y = y; top = top; sub = sub }

  abbrev pub new : Memory
  new = stored m (Link p b) top

  pub turns : Turns m new n g turn
  turns = record {
    stores = stores_link m p b top;
    parent = parent_alive.on;
    link = link_is;
    some_x = x_some;
    leads = x_field (Link x t) y needs.node_is.near_is;
    some_y = y_some;
    x_young = young_locked k m vs h inv id v there needs.settled x x_lock x_on.0;
    y_young = young_locked k m vs h inv id v there needs.settled y y_lock y_on.0;
    top_off = top_off;
    sub_off = sub_off;
    apart = apart;
    top_some = some_of top top_off;
    sub_some = some_of sub sub_off;
    top_within = own_below m n g vs h inv.slots id v there top top_own;
    sub_within = own_below m n g vs h inv.slots id v there sub sub_own;
    top_key = (top_known (Key top) turning.child_key needs.top_is.key_is).1 ∙ sym (y_field (Key y) turning.child_key needs.child_is.key_is);
    top_value = (top_known (Value top) turning.child_value needs.top_is.value_is).1
        ∙ sym (y_field (Value y) turning.child_value needs.child_is.value_is);
    top_outer = (top_known (Link top t) turning.outer needs.top_is.near_is).1
        ∙ sym (y_field (Link y t) turning.outer needs.child_is.near_is);
    top_inner = (top_known (Link top (across t)) turning.bottom needs.top_is.far_is).1 ∙ sym needs.hand_is.1;
    sub_key = (sub_known (Key sub) turning.node_key sub_is.key_is).1 ∙ sym (x_field (Key x) turning.node_key needs.node_is.key_is);
    sub_value = (sub_known (Value sub) turning.node_value sub_is.value_is).1
        ∙ sym (x_field (Value x) turning.node_value needs.node_is.value_is);
    sub_inner = (sub_known (Link sub t) turning.inner sub_is.near_is).1
        ∙ sym (y_field (Link y (across t)) turning.inner needs.child_is.far_is);
    sub_outer = (sub_known (Link sub (across t)) turning.far sub_is.far_is).1
        ∙ sym (x_field (Link x (across t)) turning.far needs.node_is.far_is);
  }

  abbrev pub to : Chart
  to = turned m g turn

  abbrev pub w : View
  w = after_rotate v p b x y top h

  abbrev pub us : List View
  us = set vs id w

  abbrev pub hs : List Mark
  hs = h ++ rotate_marks x y

  abbrev pub known : Known
  known = record { field = Link p b; number = top; stored = true }

  abbrev pub gone_upper : Retired
  gone_upper = newly_retired v x (length h)

  abbrev pub gone_lower : Retired
  gone_lower = newly_retired v y (length h + 1)

  pub not_same : x ≢ y
  not_same = x_not_y m new n g turn inv.tree.shape turns

  pub same : SameForMore v w hs
  same = same_for_more refl

-- The parts on locks after a rotation.

-- what a lock becomes where slot d is unmarked
record IsUnmarked (d s : ℕ) (l l' : HeldLock) : Type 0 where
  pub known : l'.known ≡ l.known
  pub kept : s ≢ d → l'.marked ≡ l.marked
  pub off : s ≡ d → l'.marked ≡ false
  pub emptied : (a : Side) → is_emptied l' a ≡ is_emptied l a

module _ (d : ℕ) where
  unmarked_is : (s : ℕ) (l : HeldLock) → IsUnmarked d s l (cond (s == d) (with_mark false l) l)
  unmarked_is s l = record {
    known = known_same (s == d);
    kept = λ ne. ap (λ b. (cond b (with_mark false l) l).marked) (ne_eqb s d ne);
    off = λ e. ap (λ b. (cond b (with_mark false l) l).marked) (eq-eqb s d e);
    emptied = λ a. emptied_same (s == d) a;
  }
    where
      known_same : (b : Bool) → (cond b (with_mark false l) l).known ≡ l.known
      known_same true = refl
      known_same false = refl

      emptied_same : (b : Bool) (a : Side) → is_emptied (cond b (with_mark false l) l) a ≡ is_emptied l a
      emptied_same true Left = refl
      emptied_same true Right = refl
      emptied_same false a = refl

  unmark_forth : (ls : List HeldLock) (s : ℕ) (l : HeldLock) → lock_of ls s ≡ Some l
      → (l' : HeldLock) × (lock_of (change_lock d (with_mark false) ls) s ≡ Some l') × IsUnmarked d s l l'
  unmark_forth ls s l e = (
    cond (s == d) (with_mark false l) l,
    lock_of-change d (with_mark false) (λ x. refl) ls s ∙ ap (changed (with_mark false) (s == d)) e,
    unmarked_is s l,
  )

  unmark_back : (ls : List HeldLock) (s : ℕ) (l' : HeldLock) → lock_of (change_lock d (with_mark false) ls) s ≡ Some l'
      → (l : HeldLock) × (lock_of ls s ≡ Some l) × IsUnmarked d s l l'
  unmark_back ls s = locks_back ls (change_lock d (with_mark false) ls) s (IsUnmarked d s)
      (λ none. lock_of-change d (with_mark false) (λ x. refl) ls s ∙ ap (changed (with_mark false) (s == d)) none) (unmark_forth ls s)

module _ (z : RotateStep) where
  open z use {who.{k, m, vs, h, id, v, there, inv as i, inv.{chart as g}}, upper.{slot as top}, needs.lower.{slot as sub}, p, b, x, y}

  abbrev later : Memory
  later = new z

  abbrev Stay : ℕ → Type 0
  Stay s = Stays m later (slot_count k) g (turn z) i.tree.shape (turns z) s

  -- the chart without the two slots that go
  abbrev without : Chart
  without = record g { linked = put (put g.linked x false) y false }

  still : (s : ℕ) → g.linked s ≡ true → s ≢ x → s ≢ y → without.linked s ≡ true
  still s l nx ny = put-other (put g.linked x false) y false s ny ∙ put-other g.linked x false s nx ∙ l

  was : (s : ℕ) → without.linked s ≡ true → Stay s
  was s l =
      let ny : s ≢ y = λ e. (let f = put-same (put g.linked x false) y false s e in absurd (let q : true ≡ false = sym l ∙ f in cc)) in
      let nx : s ≢ x = λ e. (let f = put-other (put g.linked x false) y false s ny ∙ put-same g.linked x false s e in
      absurd (let q : true ≡ false = sym l ∙ f in cc)) in
      record {
        on = sym (put-other g.linked x false s nx) ∙ sym (put-other (put g.linked x false) y false s ny) ∙ l;
        not_x = nx;
        not_y = ny;
      }

  -- what isn't marked isn't one of the two
  pub not_even : (s : ℕ) → IsEven (m (Life s)) → (s ≢ x) × (s ≢ y)
  not_even s even = (
    λ e. (let f = ap (λ q. m (Life q)) e in let o = (x_on z).1 in absurd (omega arith)),
    λ e. (let f = ap (λ q. m (Life q)) e in let o = (y_on z).1 in absurd (omega arith)),
  )

  -- what another view has locked isn't either
  pub others_apart : (j : ℕ) (u : View) (s : ℕ) → j ≢ id → get_elem? vs j ≡ some u → HasLock u s → (s ≢ x) × (s ≢ y)
  others_apart j u s ne e locks = (
    λ q. ne (one_holder k m vs h i j id u v x e there (subst (HasLock u) q locks) (x_lock z)),
    λ q. ne (one_holder k m vs h i j id u v y e there (subst (HasLock u) q locks) (y_lock z)),
  )

  record Both (s : ℕ) (l l' : HeldLock) : Type 0 where
    pub middle : HeldLock
    pub first : IsRelocked p b false x (known z) s l middle
    pub second : IsUnmarked y s middle l'

  back : (s : ℕ) (l' : HeldLock) → lock_of (w z).locks s ≡ Some l' → (l : HeldLock) × (lock_of v.locks s ≡ Some l) × Both s l l'
  back s l' is =
      let a = unmark_back y (relocked p b x (known z) false v.locks) s l' is in
      let c = relocked_back p b x (known z) false v.locks s a.0 a.1 in
      (c.0, c.1, record { middle = a.0; first = c.2; second = a.2 })

  forth : (s : ℕ) (l : HeldLock) → lock_of v.locks s ≡ Some l → (l' : HeldLock) × (lock_of (w z).locks s ≡ Some l') × Both s l l'
  forth s l is =
      let c = relocked_forth p b x (known z) false v.locks s l is in
      let a = unmark_forth y (relocked p b x (known z) false v.locks) s c.0 c.1 in
      (a.0, a.1, record { middle = c.0; first = c.2; second = a.2 })

  unraised_still : (s : ℕ) → IsUnraised v s → IsUnraised (w z) s
  unraised_still s q = record {
    retired = q.retired;
    has = in_first v.hands.retired (gone_upper z ∷ (gone_lower z ∷ [])) q.retired q.has;
    slot = q.slot;
    unraised = q.unraised;
  }

  unraised_new : (r : Retired) → IsIn (gone_upper z ∷ (gone_lower z ∷ [])) r → r.raised ≡ false → IsUnraised (w z) r.slot
  unraised_new r has unraised = record {
    retired = r;
    has = in_second v.hands.retired (gone_upper z ∷ (gone_lower z ∷ [])) r has;
    slot = refl;
    unraised = unraised;
  }

  unraised_x : IsUnraised (w z) x
  unraised_x = unraised_new (gone_upper z) (0, refl) refl

  unraised_y : IsUnraised (w z) y
  unraised_y = unraised_new (gone_lower z) (1, refl) refl

  change : (s : ℕ) (l l' : HeldLock) → lock_of v.locks s ≡ Some l → Both s l l'
      → LockChange k m vs h i id v (w z) there (Link p b) top p (link_stores m p b top) true without s l l'
  change s l l' is q = record {
    here = λ e. q.second.known ∙ q.first.here e;
    beside = λ ne. q.second.known ∙ q.first.there ne;
    marked = λ linked. (let r = was s linked in q.second.kept r.not_y ∙ q.first.kept r.not_x);
    still_marked = λ e.
        (let ny : s ≢ y = (λ f. absurd (let c : false ≡ true = sym (q.second.off f) ∙ e in cc)) in
        let nx : s ≢ x = (λ f. absurd (let c : false ≡ true = sym (q.second.kept ny ∙ q.first.unmarked f) ∙ e in cc)) in
        (sym (q.second.kept ny ∙ q.first.kept nx) ∙ e, λ linked. still s linked nx ny));
    emptied = λ a e. ⊎_elim
        (λ (old : is_emptied l a ≡ true). was_emptied a ((i.locks.kept id v there s l is).emptied a old))
        (λ (r : (s ≡ p) × (a ≡ b) × (false ≡ true)). absurd (let c = r.2 in cc))
        (q.first.back a (sym (q.second.emptied a) ∙ e));
  }
    where
      was_emptied : (a : Side) → (m (Link s a) ≡ 0) × ((g.linked s ≡ true) ⊎ IsUnraised v s)
          → (later (Link s a) ≡ 0) × ((without.linked s ≡ true) ⊎ IsUnraised (w z) s)
      was_emptied a r = (
        (turns z).stores.link s a (λ e f. x_some z (sym (link_is z) ∙ link_at m p s b a (sym e) (sym f) ∙ r.0)) ∙ r.0,
        ⊎_elim (λ (o : g.linked s ≡ true). ⊎_elim (λ (e : s ≡ x). inr (subst (IsUnraised (w z)) (sym e) unraised_x))
            (λ nx. ⊎_elim (λ (e : s ≡ y). inr (subst (IsUnraised (w z)) (sym e) unraised_y)) (λ ny. inl (still s o nx ny)) (cases_eq s y))
            (cases_eq s x)) (λ q. inr (unraised_still s q)) r.1,
      )

  locks_without : LockParts later (slot_count k) without (us z)
  locks_without = locks_stored k m vs h i id v (w z) there (Link p b) top p (link_stores m p b top) true without (record {
    mine = parent_lock z;
    linked_back = λ s l. (was s l).on;
    even_stays = λ s l even. (let ne = not_even s even in still s l ne.0 ne.1);
    others_stay = λ j u s ne e locks l. (let q = others_apart j u s ne e locks in still s l q.0 q.1);
    place = refl;
    slots = slots_change y (with_mark false) (λ x. refl) (relocked p b x (known z) false v.locks)
        ∙ relocked_slots p b x (known z) false v.locks;
    few = length_change y (with_mark false) (λ x. refl) (relocked p b x (known z) false v.locks)
        ∙ relocked_length p b x (known z) false v.locks;
    readings = refl;
    outside = outside z;
    back = λ s l' is. (let q = back s l' is in (q.0, q.1, change s q.0 l' q.1 q.2));
    forth = λ s l is. (let q = forth s l is in (q.0, q.1, change s l q.0 is q.2));
  })

  pub rotate_locks : LockParts later (slot_count k) (to z) (us z)
  rotate_locks = locks_more later (slot_count k) without (to z) (us z)
      (λ s l. stays_on m later (slot_count k) g (turn z) i.tree.shape (turns z) s (was s l))
      back_linked locks_without
    where
      back_linked : (s : ℕ) → (to z).linked s ≡ true → IsOdd (m (Life s)) → without.linked s ≡ true
      back_linked s l odd = ⊎_elim
          (λ (e : s ≡ top). absurd (let f = ap (λ q. m (Life q)) e in let even = top_even z in omega arith))
          (λ r. ⊎_elim (λ (e : s ≡ sub). absurd (let f = ap (λ q. m (Life q)) e in let even = sub_even z in omega arith))
          (λ (r : Stay s). still s r.on r.not_x r.not_y) r)
          (which m later (slot_count k) g (turn z) i.tree.shape (turns z) s l)

  pub emptied_still : (s : ℕ) (a : Side) → IsEmptied vs s a → IsEmptied (us z) s a
  emptied_still s a = somewhere_still vs id v (w z) there (λ (x : HasEmptied v s a). (let f = forth s x.lock x.held in
      record { lock = f.0; held = f.1; emptied = f.2.second.emptied a ∙ f.2.first.still a x.emptied }))

  -- a side that is empty now was so
  pub link_back : (s : ℕ) (a : Side) → later (Link s a) ≡ 0 → m (Link s a) ≡ 0
  link_back s a none = sym ((turns z).stores.link s a
      (λ e f. some_of z top (top_off z) (sym (turns z).stores.here ∙ link_at later p s b a (sym e) (sym f) ∙ none))) ∙ none

  pub still_locked : (s : ℕ) → HasLock v s → HasLock (w z) s
  still_locked s has = let f = forth s has.0 has.1 in (f.0, f.1)

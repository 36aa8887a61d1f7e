-- A leaf is linked, K20: the chart with the leaf, the mark of a put, what the step's needs give, the parts after it, and the law.
use Rattle.std.proofs.Common.{◌<◌, ◌≤◌, ◌+◌, suc, ◌≡◌, ◌≢◌, ℕ, true, false, refl, sym, ap, ◌∙◌, arith, ⊎_elim, Option, Some, None, cond, is_some, List, [], ◌∷◌, ◌++◌, length, subst, length-append, ◌*◌, inl, ◌-◌, ◌==◌, map, set, eq-eqb, ne_eqb, ◌⊎◌, not, ◌&&◌, inr}
use Rattle.std.proofs.lemmas.Bool.{cases_eq}
use Rattle.prcu_marks.specs.declared.mark.Side.{Side}
use Rattle.prcu_marks.specs.declared.mark.Side.TheVariants.{Left, Right}
use Rattle.core_state.specs.declared.words.Field.TheVariants.{Key, Value, Link, Life}
use Rattle.core_state.specs.Memory.{Memory, step_side, IsEven, stored, slot_count, flag, IsOdd}
use Rattle.core_state.specs.Tree.{Chart, low_of, high_of, IsBelow, IsShaped, HoldsMap, HoldsPair, Belongs, IsOldFor, IsEmptied, in_range}
use Rattle.core_laws.proofs.Stores.{StoresLink, same_after, stores_link, link_stores, count_same, count_more, moving_left, front_made}
use Rattle.core_laws.proofs.ChartChanges.{put, put-same, put-other, ChangesChart, map_after}
use Rattle.core_frames.proofs.TreeFrames.{pair_by, pending_still, may_still, old_still}
use Rattle.std.specs.Cmp.{nat_cmp_total}
use Rattle.prcu_marks.specs.declared.mark.Mark.{Mark}
use Rattle.prcu_marks.specs.declared.mark.Mark.TheVariants.{Done}
use Rattle.prcu_model.specs.declared.operation.Op.TheVariants.{Put, Del}
use Rattle.prcu_model.specs.declared.operation.Update.{Update}
use Rattle.prcu_model.specs.Dictionary.{updated, map_of, WasSaid, IsLegal}
use Rattle.prcu_marks.specs.Marks.{updates_of, gone_at}
use Rattle.prcu_model.proofs.Dictionaries.{map_of-push, updated-put_absent, get-updated_other, get-put}
use Rattle.core_state.specs.Marks.{AreMarks}
use Rattle.core_state.specs.Parts.{map_now, IsLockKnown, GoesTo, StandsWell, IsRecord, IsLockKept, IsReadingKept, LockParts, linked_count, young_count, old_count, CountParts, IsMoving, AreMoving}
use Rattle.prcu_marks.proofs.Callers.{said_longer, legal_more}
use Rattle.core_frames.proofs.Marks.{here_more, PlainMarks, plain_one, marks_done, updates_done, gone_done, last_done, reuse_done}
use Rattle.core_state.specs.declared.view.Known.{Known}
use mathlib.Core.Option.{some, some-injective}
use lib.ListN.{get_elem?}
use Rattle.core_state.specs.declared.words.Field.{Field}
use Rattle.core_state.specs.declared.view.Held.{Held}
use Rattle.core_state.specs.declared.view.HeldLock.{HeldLock}
use Rattle.core_state.specs.declared.view.Move.{Move}
use Rattle.core_state.specs.declared.view.Reading.{Reading}
use Rattle.prcu_marks.specs.declared.commit.Commit.{Commit}
use Rattle.core_state.specs.declared.view.View.{View}
use Rattle.list_laws.specs.Counts.{times, IsIn}
use Rattle.core_state.specs.Views.{known_in, lock_of, HasLock, is_emptied, note_lock, change_lock, readings_of, open_reading, held_list, slots_of, IsOwnField, spares_of, retired_of, unraised_hand, unraised_among, unraised_of}
use Rattle.core_state.specs.Links.{NeedsLeafLink, after_leaf_link}
use Rattle.list_laws.proofs.Lists.{in_second, each_set}
use Rattle.core_laws.proofs.Locks.{lock_outside, lock_alone, linked_spare, holds_alone, change_here, change_other, slots_change, length_change, emptied_change_same, note_side}
use Rattle.core_frames.proofs.WholeFrames.{same_for_more, Stepper, StepKeeps, grace_same}
use Rattle.core_frames.proofs.Charts.{absent}
use Rattle.core_frames.proofs.Roles.{own_off, own_below, hand_own, not_gone, held_there}
use Rattle.core_laws.proofs.LinkSteps.{LinkStep, listings_past, range_stays, side_stays, empty_stays, LinkReads, link_kept}
use Rattle.core_state.specs.declared.view.Retired.{Retired}
use Rattle.core_laws.proofs.LockSteps.{OneLock, lock_step, lock_noted, emptied_after, note_option-else, note_moving-else}
use Rattle.core_frames.proofs.Views.{stored_else, was}
use Rattle.core_laws.proofs.LinkParts.{SlotsGo, slots_after}
use Rattle.atomic_table.proofs.Lists.{at_longer}
use Rattle.core_frames.proofs.PlaceFrames.{front_stays, counts_by}
use Rattle.core_state.specs.Steps.{done_by}
use Rattle.core_frames.specs.Laws.{IsKept}
use Rattle.std.specs.FinMap as finite

-- A leaf link: the chart with the leaf is a shape, and holds the map with the leaf's pair.

-- a leaf link: the fresh slot c goes below side b of slot p, which was empty and is where c's key belongs
pub record LinksLeaf (m new : Memory) (n : ℕ) (g : Chart) (p : ℕ) (b : Side) (c : ℕ) : Type 0 where
  pub stores : StoresLink m new p b c
  pub parent : g.linked p ≡ true
  pub fresh : g.linked c ≡ false
  pub within : c < n
  pub empty : m (Link p b) ≡ 0
  pub left : m (Link c Left) ≡ 0
  pub right : m (Link c Right) ≡ 0
  pub low : low_of m g p b ≤ m (Key c)
  pub high : m (Key c) < high_of m g p b
  pub root : p ≡ 0 → b ≡ Right

-- the chart with the leaf
abbrev pub leaf_linked : Memory → Chart → ℕ → Side → ℕ → Chart
leaf_linked m g p b c = record {
  linked = put g.linked c true;
  old = put g.old c false;
  low = put g.low c (low_of m g p b);
  high = put g.high c (high_of m g p b);
  rank = put g.rank c (suc (g.rank p));
  up = put g.up c p;
  side = put g.side c b;
}

-- what is known of a slot beside its words is the same
pub record IsSameAt (g to : Chart) (s : ℕ) : Type 0 where
  pub linked : to.linked s ≡ g.linked s
  pub old : to.old s ≡ g.old s
  pub low : to.low s ≡ g.low s
  pub high : to.high s ≡ g.high s
  pub rank : to.rank s ≡ g.rank s
  pub up : to.up s ≡ g.up s
  pub side : to.side s ≡ g.side s

-- what changes at no slot but c
put_away : (m : Memory) (g : Chart) (p : ℕ) (b : Side) (c s : ℕ) → s ≢ c → IsSameAt g (leaf_linked m g p b c) s
put_away m g p b c s ne =
    record {
      linked = put-other g.linked c true s ne;
      old = put-other g.old c false s ne;
      low = put-other g.low c (low_of m g p b) s ne;
      high = put-other g.high c (high_of m g p b) s ne;
      rank = put-other g.rank c (suc (g.rank p)) s ne;
      up = put-other g.up c p s ne;
      side = put-other g.side c b s ne;
    }

-- nothing belongs below the left of an old successor
right_of_old : (m : Memory) (g : Chart) (p : ℕ) (b : Side) (v : ℕ) → low_of m g p b ≤ v → v < high_of m g p b → g.low p ≡ m (Key p) + 1
    → b ≡ Right
right_of_old m g p Left v lo hi e = absurd (omega arith)
right_of_old m g p Right v lo hi e = refl

module _ (m new : Memory) (n : ℕ) (g : Chart) (p : ℕ) (b : Side) (c : ℕ) (h : IsShaped m n g) (k : LinksLeaf m new n g p b c) where
  abbrev pub chart_with_leaf : Chart
  chart_with_leaf = leaf_linked m g p b c

  not_leaf : (s : ℕ) → g.linked s ≡ true → s ≢ c
  not_leaf s l e = let f = k.fresh in cc (ap g.linked e)

  pub same_at : (s : ℕ) → g.linked s ≡ true → IsSameAt g chart_with_leaf s
  same_at s l = put_away m g p b c s (not_leaf s l)

  pub was_linked : (s : ℕ) → chart_with_leaf.linked s ≡ true → s ≢ c → g.linked s ≡ true
  was_linked s l ne = sym (put-other g.linked c true s ne) ∙ l

  no_links : (a : Side) → new (Link c a) ≡ 0
  no_links a = k.stores.link c a (λ e. absurd (not_leaf p k.parent (sym e))) ∙ empty a
    where
      empty : (a : Side) → m (Link c a) ≡ 0
      empty Left = k.left
      empty Right = k.right

  side_low : (a : Side) → low_of m g p a ≡ low_of new chart_with_leaf p a
  side_low Left = sym (same_at p k.parent).low
  side_low Right = sym (same_after m new p (k.stores.key p))

  side_high : (a : Side) → high_of m g p a ≡ high_of new chart_with_leaf p a
  side_high Left = sym (k.stores.key p)
  side_high Right = sym (same_at p k.parent).high

  leaf_below : IsBelow new chart_with_leaf p b c
  leaf_below = record {
    linked = put-same g.linked c true c refl;
    up = put-same g.up c p c refl;
    side = put-same g.side c b c refl;
    rank = omega (arith, put-same g.rank c (suc (g.rank p)) c refl, (same_at p k.parent).rank);
    low = put-same g.low c (low_of m g p b) c refl ∙ side_low b;
    high = put-same g.high c (high_of m g p b) c refl ∙ side_high b;
  }

  pub changes : ChangesChart m new n g chart_with_leaf p b 0 c (λ x. x) (λ x. x)
  changes = record {
    stores = k.stores;
    parent = k.parent;
    link = k.empty;
    right_alone = λ which. ⊎_elim k.root (λ o. right_of_old m g p b (m (Key c)) k.low k.high (h.displaced p k.parent o).low) which;
    goes = λ ne. absurd (ne refl);
    stays = λ s l _. (same_at s l).linked ∙ l;
    comes = λ s t off. ⊎_elim (λ (e : s ≡ c). e) (λ ne. absurd (let l = was_linked s t ne in cc)) (cases_eq s c);
    rank = λ s on. (put_away m g p b c s (λ e. (let l = on e in let f = k.fresh in cc))).rank;
    place = λ s l _ _. ((same_at s l).up, (same_at s l).side);
    low = λ s l. (same_at s l).low;
    high = λ s l. (same_at s l).high;
    after_stays = λ s _ _. refl;
    key_stays = λ s _ _ _. refl;
    first = refl;
    last = refl;
    grows = λ x. omega arith;
    keyed = λ s l _ ne o. (h.keyed s l ne (sym (same_at s l).old ∙ o)).low;
    root_young = (same_at 0 h.root).old ∙ h.root_new;
    was_young = λ s l o. sym (same_at s l).old ∙ o;
    newly_old = λ s l young o. absurd (let e = (same_at s l).old in cc);
    child = λ _. leaf_below;
    over = λ y e ne. absurd (ne (sym e ∙ h.root_left));
    adopted = λ x _ _ ne _. absurd (ne refl);
    fresh = λ _. record {
      young = put-same g.old c false c refl;
      within = k.within;
      keyed = (let e = k.stores.key c in record {
        low = omega (arith, put-same g.low c (low_of m g p b) c refl, k.low);
        high = omega (arith, put-same g.high c (high_of m g p b) c refl, k.high);
      });
      below = λ x a e ne. absurd (ne (sym e ∙ no_links a));
    };
  }

  key_unused : (map : ℕ → Option ℕ) → HoldsMap m g map → map (m (Key c)) ≡ None → (s : ℕ) → g.linked s ≡ true → s ≢ 0 → g.old s ≡ false
      → m (Key s) ≢ m (Key c)
  key_unused map q none s l ne o e = let w = q.sound s l ne o in cc (ap map e)

  -- the map with the leaf's pair
  pub leaf_map : (map later : ℕ → Option ℕ) → c ≢ 0 → HoldsMap m g map → map (m (Key c)) ≡ None → later (m (Key c)) ≡ Some (m (Value c))
      → ((x : ℕ) → x ≢ m (Key c) → later x ≡ map x) → HoldsMap new chart_with_leaf later
  leaf_map map later nz q none here else =
      map_after m new n g chart_with_leaf p b 0 c (λ x. x) (λ x. x) h changes map later q
      (λ s l _ ne o. else (m (Key s)) (key_unused map q none s l ne o)) (λ _. here) (λ x v e. ⊎_elim
      (λ (w : x ≡ m (Key c)). record {
        slot = c;
        linked = put-same g.linked c true c refl;
        some_slot = nz;
        young = put-same g.old c false c refl;
        key = sym w;
        value = some_of (sym (ap later w ∙ here) ∙ e);
      })
      (λ not. other_pair x v (sym (else x not) ∙ e))
      (cases_eq x (m (Key c))))
    where
      other_pair : (x v : ℕ) → map x ≡ Some v → HoldsPair m chart_with_leaf x v
      other_pair x v e = let w = q.complete x v e in let i = same_at w.slot w.linked in
          pair_by w (i.linked ∙ w.linked) (i.old ∙ w.young) refl refl

      some_of : {a b : ℕ} → Some a ≡ Some b → a ≡ b
      some_of e = cc

-- What the mark of a put leaves, and what it makes of the dictionary.

module _ (h : List Mark) (caller key value : ℕ) where
  abbrev pub put_update : Update
  put_update = record { caller = caller; op = Put key value }

  abbrev pub put_marks : List Mark
  put_marks = h ++ Done put_update ∷ []

  pub put_plain : PlainMarks caller h put_marks
  put_plain = plain_one caller h (Done put_update) refl

  pub marks_put : (places : ℕ) → AreMarks places h → AreMarks places put_marks
  marks_put = marks_done h put_update (λ x e. absurd (let q : Put key value ≡ Del x = e in cc))

  -- the dictionary after a put of a key that it lacked
  module _ (absent : map_now h key ≡ None) where
    lacks : finite.contains_key (map_of (updates_of h)) key ≡ false
    lacks = ap is_some absent

    map_put : map_of (updates_of put_marks) ≡ updated (map_of (updates_of h)) (Put key value)
    map_put = ap map_of (updates_done h put_update) ∙ map_of-push (updates_of h) put_update

    pub put_here : map_now put_marks key ≡ Some value
    put_here = ap (λ z. finite.get z key) map_put ∙ get-put (map_of (updates_of h)) key value lacks

    pub put_else : (x : ℕ) → x ≢ key → map_now put_marks x ≡ map_now h x
    put_else x ne = ap (λ z. finite.get z x) map_put ∙ get-updated_other (map_of (updates_of h)) (Put key value) x ne

    pub put_length : finite.len (map_of (updates_of put_marks)) ≡ finite.len (map_of (updates_of h)) + 1
    put_length = ap finite.len map_put ∙ ap finite.len (updated-put_absent (map_of (updates_of h)) key value lacks)
        ∙ finite.len-insert nat_cmp_total (map_of (updates_of h)) key value
        ∙ ap (λ b. cond b (finite.len (map_of (updates_of h))) (finite.len (map_of (updates_of h)) + 1)) lacks

    pub put_legal : IsLegal (updates_of h) → IsLegal (updates_of put_marks)
    put_legal legal = subst IsLegal (sym (updates_done h put_update)) (legal_more (updates_of h) put_update legal lacks)

    pub put_count : length (updates_of put_marks) ≡ length (updates_of h) + 1
    put_count = ap length (updates_done h put_update) ∙ length-append (updates_of h) (put_update ∷ [])

  pub put_said : (x from : ℕ) (o : Option ℕ) → WasSaid (updates_of h) x from o → WasSaid (updates_of put_marks) x from o
  put_said x from o said = subst (λ us. WasSaid us x from o) (sym (updates_done h put_update))
      (said_longer (updates_of h) (put_update ∷ []) x from o said)

-- What is so where a leaf may be linked.

-- The link of a leaf: the view that takes it has the lock of the slot, and a record that says that the leaf's key belongs below side b.
pub record LeafLink : Type 0 where
  pub who : Stepper
  pub commit : Commit
  pub slot : ℕ
  pub b : Side
  pub leaf : ℕ
  pub key : ℕ
  pub value : ℕ
  pub needs : NeedsLeafLink who.v commit slot b leaf key value

-- What it leaves, by short names. The view is as if neither the spare nor a copy were the slot.
abbrev pub leafed : (z : LeafLink) → record {
  n : ℕ;
  new : Memory;
  to : Chart;
  hs : List Mark;
  entry : Known;
  new_lock : HeldLock;
  w : View;
}
leafed z = record {
  n = slot_count z.who.k;
  new = stored z.who.m (Link z.slot z.b) z.leaf;
  to = leaf_linked z.who.m z.who.inv.chart z.slot z.b z.leaf;
  hs = put_marks z.who.h z.who.v.allowance.place z.needs.reading.key z.value;
  entry = record { field = Link z.slot z.b; number = z.leaf; stored = true };
  new_lock = note_lock (record { field = Link z.slot z.b; number = z.leaf; stored = true }) z.needs.lock;
  w = record z.who.v {
    allowance = record z.who.v.allowance { tickets = z.who.v.allowance.tickets - 1 };
    locks = change_lock z.slot (note_lock (record { field = Link z.slot z.b; number = z.leaf; stored = true })) z.who.v.locks;
    hands = record z.who.v.hands { hand = None };
    commit = Some (record z.commit { stored = true });
    seen = put_marks z.who.h z.who.v.allowance.place z.needs.reading.key z.value;
  };
}

module _ (z : LeafLink) where
  open z use {
    who.{k, m, vs, h, id, v, inv as i, there, inv.{chart as g}},
    commit,
    slot,
    b,
    leaf,
    value,
    needs,
    needs.{reading as r, lock, held, generation, tag},
  }
  open leafed z use {n, new, to, w}

  -- what the view knows
  in_readings : IsIn (readings_of v) r
  in_readings = in_second (open_reading v.section) v.records r needs.kept

  pub known_here : IsLockKnown m v slot lock
  known_here = i.locks.known id v there slot lock needs.locked

  life_now : m (Life slot) ≡ 2 * generation
  life_now = known_here.lives r generation in_readings needs.generation_is needs.life_now

  field_now : (field : Field) (number : ℕ) → known_in lock.known field ≡ Some number → m field ≡ number
  field_now field number known = known_here.fields r generation number field in_readings needs.generation_is (inl life_now) known

  pub linked_slot : g.linked slot ≡ true
  linked_slot = let l = needs.generation_is in (i.locks.readings id v there in_readings.0 r in_readings.1).linked slot l.0 l.1
      (life_now ∙ ap (λ z. 2 * z) l.2)

  pub settled : v.moving ≡ None
  settled = let t = needs.has_commit in i.front.settled id v there commit t.commit_is t.unmade

  pub mine : HasLock v slot
  mine = (lock, needs.locked)

  pub alone : (j : ℕ) (u : View) → j ≢ id → get_elem? vs j ≡ some u → HasLock u slot → ⊥
  alone = lock_alone k m vs h i id v there slot lock needs.locked

  view_is : (j : ℕ) (u : View) (s : ℕ) (l : HeldLock) → s ≡ slot → get_elem? vs j ≡ some u → lock_of u.locks s ≡ Some l → u ≡ v
  view_is j u s l same e is =
      let here = holds_alone k m vs h i id v there slot j u l mine e (ap (lock_of u.locks) (sym same) ∙ is) in
      some-injective u v (sym e ∙ subst (λ z. get_elem? vs z ≡ some v) (sym here) there)

  pub outside : v.section ≡ None
  outside = lock_outside k m vs h i id v there slot lock needs.locked

  -- the key belongs there
  not_emptied : IsEmptied vs slot b → ⊥
  not_emptied x =
      let has = x.has in
      let is = view_is x.id x.view slot has.lock refl x.there has.held in
      let q : Some has.lock ≡ Some lock = sym has.held ∙ ap (λ (u : View). lock_of u.locks slot) is ∙ needs.locked in
      let same : has.lock ≡ lock = cc in
      absurd (let f : true ≡ false = sym has.emptied ∙ ap (λ l. is_emptied l b) same ∙ needs.settled in cc)

  not_old : IsOldFor vs r.key slot → ⊥
  not_old o =
      let p = o.pending in
      let l = (i.tree.moves.each p.id p.view p.there o.move p.has).old_lock in
      let is = view_is p.id p.view o.move.old l.0 o.old p.there l.1 in
      absurd (let q : None ≡ Some o.move = sym settled ∙ ap (λ (u : View). u.moving) (sym is) ∙ p.has in cc)

  told : IsRecord m g vs r
  told = let x = needs.kept in i.readers.records id v there x.0 r x.1

  empty_now : m (Link slot b) ≡ 0
  empty_now = field_now (Link slot b) 0 needs.empty_now

  belongs : Belongs m g r.key slot b
  belongs = ⊎_elim (λ o. absurd (not_old o)) (λ x. x)
      (told.side slot tag b needs.missed (record { generation = generation; recorded = needs.generation_is; same = life_now }) needs.tag_is
      empty_now (known_here.tags b tag needs.tag_now) not_emptied)

  root_side : slot ≡ 0 → b ≡ Right
  root_side z = ⊎_elim (λ (e : (slot ≡ 0) × (b ≡ Right)). e.1)
      (λ (e : (slot ≢ 0) × ((key : ℕ) × (known_in r.loads (Key slot) ≡ Some key) × (step_side r.key key ≡ Some b))). absurd (e.0 z)) goes
    where
      goes : GoesTo r slot b
      goes = let w : GoesTo r slot b × (r.walk ≡ None) =
          subst (StandsWell r) needs.missed (i.readers.readings id v there in_readings.0 r in_readings.1).well in w.0

  -- the leaf is in hand
  pub hand_is : v.hands.hand ≡ Some held
  hand_is = let x = needs.in_hand in x.0

  pub leaf_is : held.slot ≡ leaf
  leaf_is = let x = needs.in_hand in x.1

  leaf_own : 1 ≤ times leaf (slots_of v)
  leaf_own = subst (λ z. 1 ≤ times z (slots_of v)) leaf_is (hand_own v held hand_is)

  pub leaf_off : g.linked leaf ≡ false
  leaf_off = own_off m n g vs h i.slots id v there leaf leaf_own

  pub some_leaf : leaf ≢ 0
  some_leaf e = absurd (let q : false ≡ true = sym leaf_off ∙ ap g.linked e ∙ i.tree.shape.root in cc)

  hand_known : (field : Field) (number : ℕ) → known_in held.known field ≡ Some number → m field ≡ number
  hand_known field number known = (((i.slots.hands id v there).hand held hand_is).known field number known).1

  pub leaf_even : IsEven (m (Life leaf))
  leaf_even = subst (λ z. IsEven (m (Life z))) leaf_is ((i.slots.hands id v there).hand held hand_is).even

  pub leaf_key : m (Key leaf) ≡ r.key
  leaf_key = hand_known (Key leaf) r.key needs.key_is

  pub leaf_value : m (Value leaf) ≡ value
  leaf_value = hand_known (Value leaf) value needs.value_is

  pub leaf_unmarked : gone_at leaf h ≡ None
  leaf_unmarked = not_gone m n g vs h i.slots id v there leaf
      (let a = held_there v.hands.hand held hand_is in let c = ap (λ z. times z (held_list v.hands.hand)) leaf_is in omega arith)

  pub links : LinksLeaf m new n g slot b leaf
  links = record {
    stores = stores_link m slot b leaf;
    parent = linked_slot;
    fresh = leaf_off;
    within = own_below m n g vs h i.slots id v there leaf leaf_own;
    empty = empty_now;
    left = hand_known (Link leaf Left) 0 needs.left_is;
    right = hand_known (Link leaf Right) 0 needs.right_is;
    low = (let e = leaf_key in let w = belongs.0 in omega arith);
    high = (let e = leaf_key in let w = belongs.1 in omega arith);
    root = root_side;
  }

  pub key_absent : map_now h r.key ≡ None
  key_absent = absent m n g r.key slot b i.tree.shape linked_slot root_side (map_now h) i.tree.map told.key_fits empty_now belongs

  pub still_linked : (s : ℕ) → g.linked s ≡ true → to.linked s ≡ true
  still_linked s l = put-other g.linked leaf true s (λ e. absurd (let q : true ≡ false = sym l ∙ ap g.linked e ∙ leaf_off in cc)) ∙ l

  pub spare_apart : (j : ℕ) (u : View) (x : Held) → get_elem? vs j ≡ some u → u.hands.spare ≡ Some x → x.slot ≢ slot
  spare_apart j u x e is = linked_spare k m vs h i slot linked_slot j u e x is

  pub copy_apart : (j : ℕ) (u : View) (move : Move) → get_elem? vs j ≡ some u → u.moving ≡ Some move → move.copy.slot ≢ slot
  copy_apart j u move e is same =
      let l = (i.tree.moves.each j u e move is).copy_lock in
      let v_is = view_is j u move.copy.slot l.0 same e l.1 in
      absurd (let q : None ≡ Some move = sym settled ∙ ap (λ (z : View). z.moving) (sym v_is) ∙ is in cc)

module _ (z : LeafLink) where
  open z use {who.{k, m, vs, h, id, v, inv as i, inv.{chart as g}}, needs.{reading as r}, slot, b, leaf, value}
  open leafed z use {n, new, to, hs, w}

  abbrev pub leaf_step : LinkStep
  leaf_step = record {
    who = z.who;
    p = slot;
    b = b;
    d = 0;
    c = leaf;
    lower = λ x. x;
    upper = λ x. x;
    to = to;
    w = w;
    hs = hs;
    changes = changes m new n g slot b leaf i.tree.shape (links z);
    same = same_for_more refl;
    outside = outside z;
    records = refl;
    plain = put_plain h v.allowance.place r.key value;
    marks = marks_put h v.allowance.place r.key value k.places i.marks.marks;
    said = put_said h v.allowance.place r.key value;
    gone_same = λ s _. gone_done h (put_update h v.allowance.place r.key value) s;
    gone_now = λ ne. absurd (ne refl);
    odd = λ ne. absurd (ne refl);
    fresh = λ _. (leaf_unmarked z, leaf_even z);
  }

-- What the link of a leaf makes of locks and of slots.

module _ (z : LeafLink) where
  open z use {who.{m, vs, h, id, v, inv as i, there, inv.{chart as g}}, needs.{reading as r, lock}, slot, b, leaf, value}
  open leafed z use {n, new, to, hs, entry, new_lock, w}

  pub words : (s : ℕ) (field : Field) → s ≢ slot → IsOwnField s field → new field ≡ m field
  words s field ne own = (link_stores m slot b leaf).away s field ne own

  -- parts on locks
  pub leaf_lock : OneLock v w slot lock new_lock
  leaf_lock = record {
    held = z.needs.locked;
    now = change_here slot (note_lock entry) (λ l. refl) v.locks lock z.needs.locked;
    other = λ s ne. change_other slot (note_lock entry) (λ l. refl) v.locks s ne;
    slots = slots_change slot (note_lock entry) (λ l. refl) v.locks;
    few = length_change slot (note_lock entry) (λ l. refl) v.locks;
    place = refl;
    readings = refl;
    retired = refl;
    outside = (outside z);
  }

  back_linked : (s : ℕ) → to.linked s ≡ true → IsOdd (m (Life s)) → g.linked s ≡ true
  back_linked s l odd = was_linked m new n g slot b leaf i.tree.shape (links z) s l
      (λ e. absurd (let even = (leaf_even z) in let f = ap (λ z. m (Life z)) e in omega arith))

  emptied_else : (a : Side) → is_emptied lock a ≡ true → a ≢ b
  emptied_else a e same = absurd (let q : true ≡ false = sym e ∙ ap (is_emptied lock) same ∙ z.needs.settled in cc)

  kept_slot : IsLockKept new to w slot new_lock
  kept_slot = let t = i.locks.kept id v there slot lock z.needs.locked in record {
    marked = λ e. (let x = t.marked e in ((still_linked z) slot x.0, x.1));
    own_mark = λ l odd. t.own_mark (linked_slot z) odd;
    emptied = λ a e. (let was = emptied_note a e in let x = t.emptied a was in
        ((stores_link m slot b leaf).link slot a (λ _. emptied_else a was) ∙ x.0, inl ((still_linked z) slot (linked_slot z))));
  }
    where
      emptied_note : (a : Side) → is_emptied new_lock a ≡ true → is_emptied lock a ≡ true
      emptied_note Left e = e
      emptied_note Right e = e

  reading_kept : (x : Reading) → IsReadingKept m g x → IsReadingKept new to x
  reading_kept x t = record {
    generations = t.generations;
    tags = t.tags;
    linked = λ s life known same. (still_linked z) s (t.linked s life known same);
    keys = t.keys;
  }

  pub leaf_locks : LockParts new n to (set vs id w)
  leaf_locks = lock_step m new n g to vs id v w there slot lock new_lock leaf_lock (record {
    words = words;
    locks = λ s. refl;
    alone = (alone z);
    still = (still_linked z);
    back = back_linked;
    kept = kept_slot;
    known = lock_noted m new v w slot lock new_lock (Link slot b) leaf true refl refl (stores_link m slot b leaf).here
        (λ f own ne. stored_else m (Link slot b) f leaf ne) refl (λ x has. has) (λ e. (known_here z).marked_life e) (known_here z);
    reading = reading_kept;
  }) i.locks

  -- the slot in hand is linked
  -- how often a slot is the view's afterwards
  own_times : (s : ℕ) → times s (slots_of v) ≡ cond (leaf == s) 1 0 + times s (slots_of w)
  own_times s =
      ap (λ o. times s (held_list o ++ (spares_of v ++ map (λ (x : Retired). x.slot) (retired_of v)))) (hand_is z)
      ∙ ap (λ z. cond (z == s) 1 0 + times s (spares_of v ++ map (λ (x : Retired). x.slot) (retired_of v))) (leaf_is z)

  swaps : (s : ℕ) → times s (slots_of w) + flag (to.linked s) ≡ times s (slots_of v) + flag (g.linked s)
  swaps s = ⊎_elim
      (λ (e : s ≡ leaf). (let c = own_times s in let on = ap flag (put-same g.linked leaf true s e) in
      let off = ap flag (ap g.linked e ∙ leaf_off z) in let x = ap flag (eq-eqb leaf s (sym e)) in omega arith))
      (λ ne. (let c = own_times s in let on = ap flag (put-other g.linked leaf true s ne) in
      let x = ap flag (ne_eqb leaf s (λ e. ne (sym e))) in omega arith))
      (cases_eq s leaf)

  pub leaf_slots : SlotsGo (leaf_step z)
  leaf_slots = record {
    mine = (lock, z.needs.locked);
    few = λ x. record {
      one = λ e. refl;
      few = x.few;
      room = x.room;
      joined = x.joined;
      next_spare = x.next_spare;
    };
    swaps = swaps;
    hand = λ x is. absurd (let q : None ≡ Some x = is in cc);
    spare = λ x is. is;
    copy = λ move is. absurd (let q : None ≡ Some move = sym (settled z) ∙ is in cc);
    spares = λ s has. has;
    retired = λ x has. inl has;
    still_retired = λ x has. has;
    gone_retired = λ ne. absurd (ne refl);
  }

-- The parts on counts and on the tree, after a leaf was linked.

module _ (z : LeafLink) where
  open z use {who.{k, m, vs, h, id, v, inv as i, there, inv.{chart as g}}, needs.{reading as r}, slot, b, leaf, value}
  open leafed z use {n, new, to, hs, entry, w}

  -- counts
  unraised_now : unraised_of v ≡ 1 + unraised_of w
  unraised_now = let e : unraised_of v ≡ 1 + unraised_among (retired_of v) =
      ap (λ o. unraised_hand o + unraised_among (retired_of v)) (hand_is z)
      ∙ ap (λ z. cond z 0 1 + unraised_among (retired_of v)) z.needs.unraised in omega arith

  more_linked : linked_count to n ≡ linked_count g n + 1
  more_linked = count_more (λ s. g.linked s && not (s == 0)) (λ s. to.linked s && not (s == 0)) leaf n (links z).within
      (ap (λ z. z && not (leaf == 0)) (leaf_off z))
      (λ j. put-same g.linked leaf true leaf refl j && not (ne_eqb leaf 0 (some_leaf z) j))
      (λ s ne. ap (λ z. z && not (s == 0)) (put-other g.linked leaf true s ne))

  more_young : young_count to n ≡ young_count g n + 1
  more_young = count_more (λ s. g.linked s && (not (s == 0) && not (g.old s))) (λ s. to.linked s && (not (s == 0) && not (to.old s))) leaf n
      (links z).within
      (ap (λ z. z && (not (leaf == 0) && not (g.old leaf))) (leaf_off z))
      (λ j. put-same g.linked leaf true leaf refl j && (not (ne_eqb leaf 0 (some_leaf z) j) && not (put-same g.old leaf false leaf refl j)))
      (λ s ne j. put-other g.linked leaf true s ne j && (not (s == 0) && not (put-other g.old leaf false s ne j)))

  same_old : old_count to n ≡ old_count g n
  same_old = count_same (λ s. g.linked s && g.old s) (λ s. to.linked s && to.old s) n (λ s lt. each s (cases_eq s leaf))
    where
      each : (s : ℕ) → (s ≡ leaf) ⊎ (s ≢ leaf) → (to.linked s && to.old s) ≡ (g.linked s && g.old s)
      each s (inl e) = (λ j. put-same g.linked leaf true s e j && put-same g.old leaf false s e j)
          ∙ sym (ap (λ z. z && g.old s) (ap g.linked e ∙ (leaf_off z)))
      each s (inr ne) = λ j. put-other g.linked leaf true s ne j && put-other g.old leaf false s ne j

  pub leaf_counts : CountParts k.tickets new n to (set vs id w) hs
  leaf_counts =
      let emptied_same = emptied_change_same slot (note_lock entry) (λ l. refl) (λ l. refl) v.locks in
      let unraised = unraised_now in
      let linked = more_linked in
      let ticket = z.needs.has_commit.ticket in
      let longer = put_count h v.allowance.place r.key value (key_absent z) in
      counts_by k.tickets m new n g to vs id v w h hs there (record {
        free = refl;
        clock = omega arith;
        generations = omega arith;
        tags = omega arith;
        turns = omega arith;
        pairs = (let a = more_young in let b = put_length h v.allowance.place r.key value (key_absent z) in omega arith);
        olds = (let o = same_old in omega arith);
      }) i.counts

  -- the tree
  moving_after : (j : ℕ) (u : View) (move : Move) → get_elem? vs j ≡ some u → u.moving ≡ Some move → IsMoving m g h u move
      → IsMoving new to hs u move
  moving_after j u move e is t =
      let c = same_at m new n g slot b leaf i.tree.shape (links z) move.copy.slot t.copy_linked in
      let o = same_at m new n g slot b leaf i.tree.shape (links z) move.old t.old_linked in
      moving_left m new g to h hs u u move (record {
        copy_linked = c.linked ∙ t.copy_linked;
        copy_old = c.old;
        copy_key = refl;
        copy_value = refl;
        copy_life = refl;
        old_linked = o.linked ∙ t.old_linked;
        old_old = o.old;
        old_key = refl;
        old_value = refl;
        parent = o.up;
        side = o.side;
        held = λ s has. has;
        generation = λ l generation locked has. (l, locked, has);
        place = refl;
        records = refl;
        longer = at_longer h (Done (put_update h v.allowance.place r.key value) ∷ []);
      }) t

  pub no_move : (move : Move) → w.moving ≡ Some move → ⊥
  no_move move is = absurd (let q : None ≡ Some move = sym (settled z) ∙ is in cc)

  pub leaf_map_after : HoldsMap new to (map_now hs)
  leaf_map_after = let t = i.tree in
      leaf_map m new n g slot b leaf t.shape (links z) (map_now h) (map_now hs) (some_leaf z) t.map
      (ap (map_now h) (leaf_key z) ∙ (key_absent z))
      (ap (map_now hs) (leaf_key z) ∙ put_here h v.allowance.place r.key value (key_absent z) ∙ ap Some (sym (leaf_value z)))
      (λ x ne. put_else h v.allowance.place r.key value (key_absent z) x (λ e. ne (e ∙ sym (leaf_key z))))

  pub leaf_moves : AreMoving new to hs (set vs id w)
  leaf_moves = let t = i.tree in record {
    each = each_set (λ j u. (move : Move) → u.moving ≡ Some move → IsMoving new to hs u move) vs id w (λ move is. absurd (no_move move is))
        (λ j u ne e move is. moving_after j u move e is (t.moves.each j u e move is));
    every = λ s l o. (let was = old_was s l o (cases_eq s leaf) in let a = t.moves.every s was.0 was.1 in
        record { move = a.move; pending = pending_still vs id v w there refl a.move a.pending; old = a.old });
    one_old = λ x y a c p q ea ec ia ic e. (let u = was (λ (z : View). z.moving) vs id v w there refl x a ea in
        let z = was (λ (z : View). z.moving) vs id v w there refl y c ec in
        t.moves.one_old x y u.0 z.0 p q u.1 z.1 (sym u.2 ∙ ia) (sym z.2 ∙ ic) e);
    one_copy = λ x y a c p q ea ec ia ic e. (let u = was (λ (z : View). z.moving) vs id v w there refl x a ea in
        let z = was (λ (z : View). z.moving) vs id v w there refl y c ec in
        t.moves.one_copy x y u.0 z.0 p q u.1 z.1 (sym u.2 ∙ ia) (sym z.2 ∙ ic) e);
  }
    where
      old_was : (s : ℕ) → to.linked s ≡ true → to.old s ≡ true → (s ≡ leaf) ⊎ (s ≢ leaf) → (g.linked s ≡ true) × (g.old s ≡ true)
      old_was s l o (inl e) = absurd (let q : false ≡ true = sym (put-same g.old leaf false s e) ∙ o in cc)
      old_was s l o (inr ne) = (sym (put-other g.linked leaf true s ne) ∙ l, sym (put-other g.old leaf false s ne) ∙ o)

-- The link of a leaf, K20, keeps the invariant.

module _ (z : LeafLink) where
  open z use {who.{k, m, vs, h, id, v, inv as i, there, inv.{chart as g}}, commit, needs.{reading as r, lock}, slot, b, leaf, value}
  open leafed z use {n, new, to, hs, entry, new_lock, w}

  -- the view afterwards
  after_is : after_leaf_link v commit slot b leaf r.key value h ≡ w
  after_is = λ j. record w {
    hands = record v.hands { hand = None; spare = note_option-else slot entry v.hands.spare (λ x is. spare_apart z id v x there is) j };
    moving = note_moving-else slot entry v.moving (λ move is. copy_apart z id v move there is) j;
  }

  abbrev step : LinkStep
  step = leaf_step z

  emptied : (s : ℕ) (a : Side) → IsEmptied vs s a → IsEmptied (set vs id w) s a
  emptied s a = emptied_after vs id v w slot lock new_lock there (leaf_lock z) s a (λ _ e. note_side entry a lock ∙ e)

  reads : LinkReads step
  reads = record {
    spare = λ j u section e inside s may l o. (
      (λ q. (let root = i.tree.shape.root_new in cc)),
      may_still vs id v w there refl section.key section.entered s may,
      (same_at m new n g slot b leaf i.tree.shape (links z) s l).old ∙ o,
    );
    other = λ j u section e inside s range _. in_range (range_stays step section.key s (still_linked z s range.linked) range.low range);
    old_for = λ x s _. old_still vs id v w there refl x s;
    side = λ x s a fits l even root empty below. inr (side_stays step x s a l (still_linked z s l) (λ _. refl) below.0 below);
    link_back = λ s a _ none. empty_stays step (some_leaf z) s a none;
    emptied = emptied;
  }

  kept : IsKept k m h new (set vs id w) hs
  kept = link_kept step (record {
    slots = slots_after step (leaf_slots z);
    locks = leaf_locks z;
    counts = leaf_counts z;
    map = leaf_map_after z;
    moves = leaf_moves z;
    reads = reads;
    front = front_made m new vs id v w there h hs (front_stays m new refl refl) i.front commit z.needs.has_commit refl
        (put_count h v.allowance.place r.key value (key_absent z))
        (here_more h (Done (put_update h v.allowance.place r.key value) ∷ []) refl refl)
        (put_legal h v.allowance.place r.key value (key_absent z) i.front.legal);
    listings = listings_past step (put_count h v.allowance.place r.key value (key_absent z));
    grace = grace_same v.allowance.place h hs step.plain vs id v w there refl step.same.places (settled z)
        (reuse_done h (put_update h v.allowance.place r.key value) i.grace.reuse)
        (gone_done h (put_update h v.allowance.place r.key value)) (last_done h (put_update h v.allowance.place r.key value)) refl i.grace;
  })

  pub leaf_kept : IsKept k m h new (set vs id (after_leaf_link v commit slot b leaf r.key value h)) hs
  leaf_kept = subst (λ (y : View). IsKept k m h new (set vs id y) hs) (sym after_is) kept

pub keeps_leaf_link : (z : Stepper) (commit : Commit) (slot : ℕ) (b : Side) (leaf key value : ℕ)
    → NeedsLeafLink z.v commit slot b leaf key value
    → StepKeeps z (Link slot b) leaf (after_leaf_link z.v commit slot b leaf key value z.h) (done_by z.v (Put key value) ∷ [])
keeps_leaf_link z commit slot b leaf key value needs =
    subst (λ x. StepKeeps z (Link slot b) leaf (after_leaf_link z.v commit slot b leaf x value z.h) (done_by z.v (Put x value) ∷ []))
    needs.sought
    (leaf_kept (record { who = z; commit = commit; slot = slot; b = b; leaf = leaf; key = key; value = value; needs = needs }))

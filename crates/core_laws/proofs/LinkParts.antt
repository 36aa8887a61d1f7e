-- A step that stores one link and changes the chart at few slots: the parts on locks and on slots after it.
use Rattle.std.proofs.Common.{◌≡◌, ◌≢◌, ℕ, ◌⊎◌, true, false, List, [], ◌∷◌, ◌++◌, length, map, Some, refl, sym, ap, subst, ◌∙◌, ⊎_elim, inl, inr, arith, Bool, ◌+◌, ◌≤◌, ◌-◌}
use Rattle.std.proofs.lemmas.Bool.{cases_eq}
use mathlib.Core.Option.{some}
use lib.ListN.{get_elem?}
use Rattle.prcu_marks.specs.declared.mark.Side.{Side}
use Rattle.core_state.specs.declared.words.Field.TheVariants.{Life, Link}
use Rattle.core_state.specs.declared.view.HeldLock.{HeldLock}
use Rattle.core_state.specs.declared.view.Known.{Known}
use Rattle.core_state.specs.declared.view.Retired.{Retired}
use Rattle.core_state.specs.declared.view.View.{View}
use Rattle.list_laws.specs.Counts.{IsIn, times, Each, numbers_from}
use Rattle.core_state.specs.Memory.{IsEven, IsOdd, flag, Memory, slot_count}
use Rattle.core_state.specs.Views.{lock_of, HasLock, is_emptied, note_option, open_reading, spares_of, joined_retired, retired_of, slots_of, held_list, joined_spares}
use Rattle.core_state.specs.Links.{newly_retired}
use Rattle.core_state.specs.Tree.{Chart, IsEmptied, HasEmptied}
use Rattle.core_state.specs.Parts.{IsUnraised, LockParts, HasFewSlots, IsRetired, IsRetiredOf, IsHeldKnown, AreHandsKnown, SlotParts, HasRetired, IsHandKnown}
use Rattle.list_laws.proofs.Lists.{in_first, in_second, at_end, each_set, total_set, times_append, in_append, somewhere_here, somewhere_still}
use Rattle.core_frames.proofs.Charts.{bool_cases}
use Rattle.core_laws.proofs.ChartChanges.{put, put-same, put-other, shape_after}
use Rattle.core_laws.proofs.Locks.{one_holder, IsRelocked, relocked, relocked_forth, relocked_back, relocked_slots, relocked_length}
use Rattle.core_laws.proofs.LinkSteps.{LinkStep, words_after, views_after, below, still_linked, not_gone, Retires, unlinked_off, off_not_gone}
use Rattle.core_laws.proofs.LockSteps.{LockChange, locks_stored, note_option-else}
use Rattle.core_laws.proofs.Stores.{link_at, link_stores, StoresIn, held_beside, hand_beside, hands_beside}
use Rattle.prcu_marks.specs.Marks.{gone_at}
use Rattle.core_state.specs.declared.view.Held.{Held}
use Rattle.core_state.specs.declared.view.Move.{Move}
use Rattle.core_frames.proofs.Roles.{hand_own, spare_own, retired_own, linked_none, map_append, slots_count, spares_count, retired_count}
use Rattle.core_frames.proofs.PlaceFrames.{retired_of_by, retired_by}

-- The parts on locks after a step that stores a link under the lock of its slot and unlinks a slot that the view has locked.

-- What is said of locks holds of a chart with more slots linked, where none of these is marked.
pub locks_more : (m : Memory) (n : ℕ) (g to : Chart) (vs : List View) → ((s : ℕ) → g.linked s ≡ true → to.linked s ≡ true)
    → ((s : ℕ) → to.linked s ≡ true → IsOdd (m (Life s)) → g.linked s ≡ true) → LockParts m n g vs → LockParts m n to vs
locks_more m n g to vs still back t = record {
  locked = t.locked;
  few = t.few;
  kept = λ j u e s l is. (let q = t.kept j u e s l is in record {
    marked = λ y. (let r = q.marked y in (still s r.0, r.1));
    own_mark = λ on odd. q.own_mark (back s on odd) odd;
    emptied = λ a y. (let r = q.emptied a y in (r.0, ⊎_elim (λ on. inl (still s on)) (λ x. inr x) r.1));
  });
  marked = λ s on odd. t.marked s (back s on odd) odd;
  known = t.known;
  readings = λ j u e l r is. (let q = t.readings j u e l r is in
      record {
        generations = q.generations;
        tags = q.tags;
        linked = λ s life known same. still s (q.linked s life known same);
        keys = q.keys;
      });
}

module _ (z : LinkStep) where
  open z use {who.{k, m, vs, h, id, v, there, inv as i, inv.{chart as g}}, p, b, d, c, to, w, hs, changes}

  abbrev n : ℕ
  n = slot_count k

  abbrev new : Memory
  new = words_after z

  abbrev us : List View
  us = views_after z

  abbrev known : Known
  known = record { field = Link p b; number = c; stored = true }

  -- what the step says of locks, and whether it emptied the side
  pub record Relinks : Type 0 where
    pub retires : Retires z
    pub empties : Bool
    pub empty : empties ≡ true → c ≡ 0
    pub emptied : c ≡ 0 → empties ≡ true
    pub has_parent : HasLock v p
    pub has_node : HasLock v d
    pub locks : w.locks ≡ relocked p b d known empties v.locks

  module _ (r : Relinks) where
    abbrev newly_gone : Retired
    newly_gone = newly_retired v d r.retires.at

    -- the chart without d, and without c if that is fresh
    abbrev without : Chart
    without = record g { linked = put g.linked d false }

    still : (s : ℕ) → g.linked s ≡ true → s ≢ d → without.linked s ≡ true
    still s l ne = put-other g.linked d false s ne ∙ l

    was : (s : ℕ) → without.linked s ≡ true → (g.linked s ≡ true) × (s ≢ d)
    was s l = ⊎_elim (λ (e : s ≡ d). absurd (let f = put-same g.linked d false s e in cc))
        (λ ne. (sym (put-other g.linked d false s ne) ∙ l, ne)) (cases_eq s d)

    not_even : (s : ℕ) → IsEven (m (Life s)) → s ≢ d
    not_even s even e = r.retires.node (sym e ∙ not_gone z s (inr even) e)

    apart : p ≢ d
    apart e = omega (arith, (below z r.retires.node).rank, ap g.rank e)

    -- a lock of the view, before and afterwards
    back : (s : ℕ) (l' : HeldLock) → lock_of w.locks s ≡ Some l'
        → (l : HeldLock) × (lock_of v.locks s ≡ Some l) × IsRelocked p b r.empties d known s l l'
    back s l' is = relocked_back p b d known r.empties v.locks s l' (sym (ap (λ ls. lock_of ls s) r.locks) ∙ is)

    pub forth : (s : ℕ) (l : HeldLock) → lock_of v.locks s ≡ Some l
        → (l' : HeldLock) × (lock_of w.locks s ≡ Some l') × IsRelocked p b r.empties d known s l l'
    forth s l is = let q = relocked_forth p b d known r.empties v.locks s l is in (q.0, ap (λ ls. lock_of ls s) r.locks ∙ q.1, q.2)

    others_stay : (j : ℕ) (u : View) (s : ℕ) → j ≢ id → get_elem? vs j ≡ some u → HasLock u s → g.linked s ≡ true → without.linked s ≡ true
    others_stay j u s ne e locks l = still s l (λ y. ne (one_holder k m vs h i j id u v d e there (subst (HasLock u) y locks) r.has_node))

    unraised_still : (s : ℕ) → IsUnraised v s → IsUnraised w s
    unraised_still s q = record {
      retired = q.retired;
      has = subst (λ rs. IsIn rs q.retired) (sym r.retires.retired) (in_first v.hands.retired (newly_gone ∷ []) q.retired q.has);
      slot = q.slot;
      unraised = q.unraised;
    }

    unraised_new : IsUnraised w d
    unraised_new = record {
      retired = newly_gone;
      has = subst (λ rs. IsIn rs newly_gone) (sym r.retires.retired) (in_second v.hands.retired (newly_gone ∷ []) newly_gone (0, refl));
      slot = refl;
      unraised = refl;
    }

    change : (t : ℕ) (l l' : HeldLock) → lock_of v.locks t ≡ Some l → IsRelocked p b r.empties d known t l l'
        → LockChange k m vs h i id v w there (Link p b) c p (link_stores m p b c) true without t l l'
    change t l l' is q = record {
      here = q.here;
      beside = q.there;
      marked = λ linked. q.kept (was t linked).1;
      still_marked = λ e.
          (let ne : t ≢ d = (λ y. absurd (let f : false ≡ true = sym (q.unmarked y) ∙ e in cc)) in
          (sym (q.kept ne) ∙ e, λ linked. still t linked ne));
      emptied = λ a e. ⊎_elim
          (λ (old : is_emptied l a ≡ true). was_emptied a ((i.locks.kept id v there t l is).emptied a old))
          (λ (y : (t ≡ p) × (a ≡ b) × (r.empties ≡ true)). (
            link_at new t p a b y.0 y.1 ∙ changes.stores.here ∙ r.empty y.2,
            inl (ap without.linked y.0 ∙ still p changes.parent apart),
          ))
          (q.back a e);
    }
      where
        was_emptied : (a : Side) → (m (Link t a) ≡ 0) × ((g.linked t ≡ true) ⊎ IsUnraised v t)
            → (new (Link t a) ≡ 0) × ((without.linked t ≡ true) ⊎ IsUnraised w t)
        was_emptied a y = (
          changes.stores.link t a (λ e f. r.retires.node (sym changes.link ∙ link_at m p t b a (sym e) (sym f) ∙ y.0)) ∙ y.0,
          ⊎_elim (λ (o : g.linked t ≡ true). ⊎_elim (λ (e : t ≡ d). inr (subst (IsUnraised w) (sym e) unraised_new))
              (λ ne. inl (still t o ne)) (cases_eq t d)) (λ q. inr (unraised_still t q)) y.1,
        )

    locks_without : LockParts new (slot_count k) without us
    locks_without = locks_stored k m vs h i id v w there (Link p b) c p (link_stores m p b c) true without (record {
      mine = r.has_parent;
      linked_back = λ s l. (was s l).0;
      even_stays = λ s l even. still s l (not_even s even);
      others_stay = others_stay;
      place = z.same.places.place;
      slots = ap (map (λ (l : HeldLock). l.slot)) r.locks ∙ relocked_slots p b d known r.empties v.locks;
      few = ap length r.locks ∙ relocked_length p b d known r.empties v.locks;
      readings = λ y. open_reading (z.same.section y) ++ z.records y;
      outside = z.same.section ∙ z.outside;
      back = λ s l' is. (let q = back s l' is in (q.0, q.1, change s q.0 l' q.1 q.2));
      forth = λ s l is. (let q = forth s l is in (q.0, q.1, change s l q.0 is q.2));
    })

    pub locks_after : LockParts new (slot_count k) to us
    locks_after = locks_more new (slot_count k) without to us
        (λ s l. (let q = was s l in still_linked z s q.0 q.1)) back_linked locks_without
      where
        back_linked : (s : ℕ) → to.linked s ≡ true → IsOdd (m (Life s)) → without.linked s ≡ true
        back_linked s t odd = ⊎_elim
            (λ (l : g.linked s ≡ true). still s l (λ e. r.retires.node (sym e ∙ not_gone z s (inl t) e)))
            (λ off. absurd (let e = changes.comes s t off in let even = (z.fresh (ap g.linked (sym e) ∙ off)).1 in
            let f = ap (λ y. m (Life y)) e in omega arith))
            (bool_cases (g.linked s))

    pub emptied_still : (s : ℕ) (a : Side) → IsEmptied vs s a → IsEmptied us s a
    emptied_still s a = somewhere_still vs id v w there (λ (x : HasEmptied v s a).
        (let f = forth s x.lock x.held in record { lock = f.0; held = f.1; emptied = f.2.still a x.emptied }))

    emptied_now : c ≡ 0 → IsEmptied us p b
    emptied_now e =
        let f = forth p r.has_parent.0 r.has_parent.1 in
        somewhere_here vs id v w there (record { lock = f.0; held = f.1; emptied = f.2.now refl (r.emptied e) })

    -- a side that is empty now, and wasn't emptied just now, was empty
    pub link_back : (s : ℕ) (a : Side) → (IsEmptied us s a → ⊥) → new (Link s a) ≡ 0 → m (Link s a) ≡ 0
    link_back s a settled none =
        sym (changes.stores.link s a (λ e f. settled
        (subst (λ (y : ℕ × Side). IsEmptied us y.0 y.1) (λ q. (sym e q, sym f q))
        (emptied_now (sym changes.stores.here ∙ link_at new p s b a (sym e) (sym f) ∙ none))))) ∙ none

  -- The parts on slots after a step that stores one link and changes the chart at few slots.
  -- what a view has isn't linked, so the link isn't stored in it
  own_apart : (j : ℕ) (u : View) (s : ℕ) → get_elem? vs j ≡ some u → 1 ≤ times s (slots_of u) → s ≢ p
  own_apart j u s e has same = let none = linked_none m n g vs h i.slots j u e p changes.parent in
      let f = ap (λ x. times x (slots_of u)) same in absurd (omega arith)

  stores_p : StoresIn m new p
  stores_p = (link_stores m p b c).within

  pub spare_stays : (x : Held) → v.hands.spare ≡ Some x → IsHeldKnown new x
  spare_stays x is = held_beside m new p stores_p x (own_apart id v x.slot there (spare_own v x is)) ((i.slots.hands id v there).spare x is)

  -- so what is noted of p is noted of neither
  pub hand_noted : (known : Known) → note_option p known v.hands.hand ≡ v.hands.hand
  hand_noted known = note_option-else p known v.hands.hand (λ x is. own_apart id v x.slot there (hand_own v x is))

  pub spare_noted : (known : Known) → note_option p known v.hands.spare ≡ v.hands.spare
  spare_noted known = note_option-else p known v.hands.spare (λ x is. own_apart id v x.slot there (spare_own v x is))

  retired_stays : (j : ℕ) (u : View) (x : Retired) → get_elem? vs j ≡ some u → IsIn (retired_of u) x → IsRetired new hs x
  retired_stays j u x e has =
      let t = i.slots.retired j u e has.0 x has.1 in
      retired_by m new h hs x (z.gone_same x.slot (off_not_gone z x.slot (unlinked_off z x.slot x.unlinked t.unlinked))) refl
      (λ field content. (link_stores m p b c).content x.slot field (own_apart j u x.slot e (retired_own u x has)) content) t

  -- how often a slot is the view's, by what is in hand, the spare and the retired ones: all else stays
  pub slots_become : (s : ℕ) → times s (slots_of w) + times s (held_list v.hands.hand) + times s (held_list v.hands.spare)
      + times s (map (λ (x : Retired). x.slot) v.hands.retired)
      ≡ times s (slots_of v) + times s (held_list w.hands.hand) + times s (held_list w.hands.spare)
      + times s (map (λ (x : Retired). x.slot) w.hands.retired)
  slots_become s =
      let a = slots_count w s in
      let e = slots_count v s in
      let f = spares_count w s in
      let q = spares_count v s in
      let x = retired_count w s in
      let y = retired_count v s in
      let same = ap (times s) places in
      let joined = ap (λ js. times s (map (λ (r : Retired). r.slot) (joined_retired js))) z.same.places.joined in
      omega arith
    where
      places : numbers_from (w.allowance.place + 2) (w.allowance.places - 1)
          ++ joined_spares w.allowance.joined ≡ numbers_from (v.allowance.place + 2) (v.allowance.places - 1)
          ++ joined_spares v.allowance.joined
      places = λ t. numbers_from (z.same.places.place t + 2) (z.same.places.places t - 1) ++ joined_spares (z.same.places.joined t)

  -- what the step says of slots: which the view has afterwards, and what it knows of them
  pub record SlotsGo : Type 0 where
    pub mine : HasLock v p
    pub few : HasFewSlots k.room v → HasFewSlots k.room w
    pub swaps : (s : ℕ) → times s (slots_of w) + flag (to.linked s) ≡ times s (slots_of v) + flag (g.linked s)
    pub hand : (x : Held) → w.hands.hand ≡ Some x → v.hands.hand ≡ Some x
    pub spare : (x : Held) → w.hands.spare ≡ Some x → v.hands.spare ≡ Some x
    pub copy : (move : Move) → w.moving ≡ Some move → IsHandKnown new move.copy
    pub spares : (s : ℕ) → 1 ≤ times s (spares_of w) → 1 ≤ times s (spares_of v)
    pub retired : (x : Retired) → IsIn (retired_of w) x → IsIn (retired_of v) x ⊎ IsRetired new hs x
    pub still_retired : (x : Retired) → IsIn (retired_of v) x → IsIn (retired_of w) x
    pub gone_retired : d ≢ 0 → HasRetired w d

  module _ (r : SlotsGo) where
    hands_mine : AreHandsKnown new w
    hands_mine = record {
      hand = λ x is. (let was = r.hand x is in
          hand_beside m new p stores_p x (own_apart id v x.slot there (hand_own v x was)) ((i.slots.hands id v there).hand x was));
      spare = λ x is. spare_stays x (r.spare x is);
      copy = r.copy;
      spares = λ s has. (i.slots.hands id v there).spares s (r.spares s has);
    }

    hands_other : (j : ℕ) (u : View) → j ≢ id → get_elem? vs j ≡ some u → AreHandsKnown new u
    hands_other j u ne e = hands_beside m new p stores_p u
        (let none = linked_none m n g vs h i.slots j u e p changes.parent in let a = slots_count u p in omega arith)
        (λ move is same. ne
        (one_holder k m vs h i j id u v p e there (subst (HasLock u) same (i.tree.moves.each j u e move is).copy_lock) r.mine))
        (i.slots.hands j u e)

    in_range : (s : ℕ) → n ≤ s → flag (to.linked s) ≡ 0
    in_range s far = ⊎_elim
        (λ (t : to.linked s ≡ true). absurd (let lt = (shape_after m new n g to p b d c z.lower z.upper i.tree.shape changes).within s t in
        omega arith))
        (λ off. ap flag off) (bool_cases (to.linked s))

    was_in_range : (s : ℕ) → n ≤ s → flag (g.linked s) ≡ 0
    was_in_range s far = ⊎_elim (λ (l : g.linked s ≡ true). absurd (let lt = i.tree.shape.within s l in omega arith)) (λ off. ap flag off)
        (bool_cases (g.linked s))

    pub slots_after : SlotParts k.room new n to us hs
    slots_after = record {
      roles = record {
        once = λ s lt. (let a = total_set (λ (u : View). times s (slots_of u)) vs id v w there in let q = i.slots.roles.once s lt in
            let e = r.swaps s in omega arith);
        beyond = λ s far. (let a = total_set (λ (u : View). times s (slots_of u)) vs id v w there in let q = i.slots.roles.beyond s far in
            let e = r.swaps s in let x = in_range s far in let y = was_in_range s far in omega arith);
        states = i.slots.roles.states;
      };
      few = each_set (λ j u. HasFewSlots k.room u) vs id w (r.few (i.slots.few id v there)) (λ j u ne e. i.slots.few j u e);
      free = i.slots.free;
      root = i.slots.root;
      hands = each_set (λ j u. AreHandsKnown new u) vs id w hands_mine (λ j u ne e. hands_other j u ne e);
      retired = each_set (λ j u. Each (retired_of u) (IsRetired new hs)) vs id w
          (λ j x e. ⊎_elim (λ (was : IsIn (retired_of v) x). retired_stays id v x there was) (λ y. y) (r.retired x (j, e)))
          (λ j u ne e l x is. retired_stays j u x e (l, is));
      unlinked = λ s at is. ⊎_elim
          (λ (e : s ≡ d). ⊎_elim (λ (y : d ≡ 0). before s at (sym (z.gone_same s (λ _. e ∙ y)) ∙ is)) (λ nz. now s e nz) (cases_eq d 0))
          (λ ne. before s at (sym (z.gone_same s (λ e. absurd (ne e))) ∙ is)) (cases_eq s d);
    }
      where
        now : (s : ℕ) → s ≡ d → d ≢ 0 → IsRetiredOf us s
        now s e nz = somewhere_here vs id v w there (subst (HasRetired w) (sym e) (r.gone_retired nz))

        before : (s at : ℕ) → gone_at s h ≡ Some at → IsRetiredOf us s
        before s at is = retired_of_by vs id v w there r.still_retired s (i.slots.unlinked s at is)

  -- d is retired
  module _ (r : Retires z) where
    abbrev gone : Retired
    gone = newly_retired v d r.at

    retired_is : retired_of w ≡ (v.hands.retired ++ gone ∷ []) ++ joined_retired v.allowance.joined
    retired_is = λ y. r.retired y ++ joined_retired (z.same.places.joined y)

    gone_is : IsRetired new hs gone
    gone_is = record {
      unlinked = r.here;
      some_slot = r.node;
      marked = λ e. z.odd r.node;
      life = λ number e is. absurd (cc);
      stays = λ field number e content is. (link_stores m p b c).content d field
          (λ same. omega (arith, (below z r.node).rank, ap g.rank same)) content ∙ r.knows field number is;
      unmarked = λ e. absurd (cc);
      after_wait = λ e. absurd (cc);
    }

    pub retired_times : (s : ℕ) → times s (map (λ (x : Retired). x.slot) w.hands.retired)
        ≡ times s (map (λ (x : Retired). x.slot) v.hands.retired) + times s (d ∷ [])
    retired_times s = ap (λ rs. times s (map (λ (x : Retired). x.slot) rs)) r.retired
        ∙ ap (times s) (map_append v.hands.retired (gone ∷ [])) ∙ times_append s (map (λ (x : Retired). x.slot) v.hands.retired) (d ∷ [])

    pub retired_or_gone : (x : Retired) → IsIn (retired_of w) x → IsIn (retired_of v) x ⊎ IsRetired new hs x
    retired_or_gone x has = ⊎_elim
        (λ (a : IsIn (v.hands.retired ++ gone ∷ []) x). ⊎_elim
        (λ (o : get_elem? v.hands.retired a.0 ≡ some x). inl (in_first v.hands.retired (joined_retired v.allowance.joined) x (a.0, o)))
        (λ o. inr (subst (IsRetired new hs) o.1 gone_is)) (at_end v.hands.retired gone x a.0 a.1))
        (λ a. inl (in_second v.hands.retired (joined_retired v.allowance.joined) x a))
        (in_append (v.hands.retired ++ gone ∷ []) (joined_retired v.allowance.joined) x (subst (λ rs. IsIn rs x) retired_is has))

    pub retired_grows : (x : Retired) → IsIn (retired_of v) x → IsIn (retired_of w) x
    retired_grows x has = subst (λ rs. IsIn rs x) (sym retired_is) (⊎_elim
        (λ (a : IsIn v.hands.retired x). in_first (v.hands.retired ++ gone ∷ []) (joined_retired v.allowance.joined) x
        (in_first v.hands.retired (gone ∷ []) x a))
        (λ a. in_second (v.hands.retired ++ gone ∷ []) (joined_retired v.allowance.joined) x a)
        (in_append v.hands.retired (joined_retired v.allowance.joined) x has))

    pub gone_among : IsIn w.hands.retired gone
    gone_among = subst (λ rs. IsIn rs gone) (sym r.retired) (in_second v.hands.retired (gone ∷ []) gone (0, refl))

    pub gone_in_retired : IsIn (retired_of w) gone
    gone_in_retired = in_first w.hands.retired (joined_retired w.allowance.joined) gone gone_among

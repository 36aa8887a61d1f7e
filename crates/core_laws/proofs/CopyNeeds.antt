-- The link of a copy, K25: the step and what its needs give, the parts on slots, counts and the front after it, and the copy's key.
use Rattle.core_state.specs.Links.{newly_retired, NeedsCopyLink, after_copy_link, new_move, with_mark}
use Rattle.core_state.specs.declared.view.Known.{Known}
use Rattle.core_state.specs.declared.view.Retired.{Retired}
use Rattle.std.proofs.Common.{◌≡◌, ◌≢◌, ℕ, ◌+◌, ◌*◌, ◌/◌, ◌<◌, ◌≤◌, true, false, List, set, Some, None, sym, ap, ◌∙◌, arith, length, refl, [], ◌∷◌, subst, ⊎_elim, length-append, ◌-◌, ◌==◌, ◌⊎◌, not, ◌&&◌, ◌++◌, inl, inr, Option}
use mathlib.Core.Option.{some}
use lib.ListN.{get_elem?}
use Rattle.prcu_marks.specs.declared.mark.Mark.{Mark}
use Rattle.prcu_marks.specs.declared.mark.Side.{Side}
use Rattle.prcu_marks.specs.declared.mark.Side.TheVariants.{Left, Right}
use Rattle.prcu_model.specs.declared.operation.Update.{Update}
use Rattle.prcu_marks.specs.Marks.{gone_at, updates_of}
use Rattle.core_state.specs.declared.words.Field.{Field}
use Rattle.core_state.specs.declared.words.Field.TheVariants.{Life, Key, Value, Link}
use Rattle.core_state.specs.declared.view.Held.{Held}
use Rattle.core_state.specs.declared.view.Move.{Move}
use Rattle.core_state.specs.declared.view.Reading.{Reading}
use Rattle.prcu_marks.specs.declared.commit.Commit.{Commit}
use Rattle.core_state.specs.declared.view.View.{View}
use Rattle.list_laws.specs.Counts.{times, IsIn}
use Rattle.core_state.specs.Memory.{IsEven, Memory, stored, slot_count, flag, sum_below, has}
use Rattle.core_state.specs.Views.{known_in, known_under, HasLock, LoadedGeneration, readings_of, spares_of, slots_of, note_option, held_list, note_lock, change_lock, unraised_of, emptied_among, joined_retired}
use Rattle.core_state.specs.Tree.{OnRightLeft, Chart}
use Rattle.core_state.specs.Parts.{IsRecord, IsStillLinked, IsHeldKnown, HasFewSlots, linked_count, young_count, old_count, CountParts, FrontParts, map_now, IsHandKnown}
use Rattle.core_frames.proofs.WholeFrames.{same_for_more, Stepper}
use Rattle.core_frames.proofs.Roles.{right_left_low, spare_own, spare_among, own_below, own_off, not_gone, spares_count, unraised_append}
use Rattle.core_laws.proofs.Updates.{delete_update, both_marks, delete_said, Deletion, settled, kept, reading, parent_alive, link_is, node_marked, node_life, left_is, right_is, some_node, node_young, single, node_lock, node_field, delete_longer, delete_here, delete_count, delete_legal, has_key, node_key, there_of}
use Rattle.core_laws.proofs.Locks.{lock_outside, loaded_known, no_end_of, young_locked, IsAlive, alive, alive_field, emptied_change_same}
use Rattle.core_laws.proofs.CopyShape.{CopyLink, after_copy, lower, upper, changes, not_c, c_linked, c_young, next_not, none_between, next_keyed}
use Rattle.core_laws.proofs.LinkParts.{Relinks, forth, SlotsGo, hand_noted, spare_stays, retired_times, retired_or_gone, retired_grows, gone_among, gone_in_retired, slots_become}
use Rattle.core_laws.proofs.LinkSteps.{LinkStep, Retires}
use Rattle.core_frames.proofs.Marks.{delete_plain, delete_marks, delete_gone_here, delete_gone_other}
use Rattle.std.proofs.lemmas.Bool.{cases_eq}
use Rattle.list_laws.proofs.Lists.{times_here, times_other}
use Rattle.core_laws.proofs.ChartChanges.{put, put-same, put-other}
use Rattle.core_laws.proofs.LockSteps.{note_option-slots, note_option-unraised}
use Rattle.prcu_model.specs.Dictionary.{map_of, Dictionary}
use Rattle.core_laws.proofs.Stores.{front_made}
use Rattle.core_frames.proofs.Views.{flag_false, young_flags, old_flags, sum_equal, sum_add, in_one, not_one, one_sum, sum_swapped, sum_one_more, flag_root, flag_node, young_root, young_node}
use Rattle.core_frames.proofs.PlaceFrames.{front_stays, counts_by}
use Rattle.std.specs.Prelude.{is_some}
use mathlib.Core.Logic.{dite}
use native.Mathlib.Decide.{dec_le}
use Rattle.prcu_marks.specs.Callers.{IsNextKey}
use Rattle.core_laws.specs.Whole.{CopiesHaveNextKeys}
use Rattle.std.specs.FinMap as finite

-- The link of a copy: what its case gives of the words and the chart.

-- The step that links a copy: p, b, d, u, q are its parent, side, node, old successor and the old successor's parent.
pub record CopyStep : Type 0 where
  pub who : Stepper
  pub commit : Commit
  pub held : Held
  pub p : ℕ
  pub b : Side
  pub d : ℕ
  pub u : ℕ
  pub q : ℕ
  pub key : ℕ
  pub next_key : ℕ
  pub needs : NeedsCopyLink who.k.room who.v commit held p b d held.slot u q key next_key

abbrev pub update_of : CopyStep → Update
update_of z = delete_update z.who.h z.who.v.allowance.place z.needs.reading.key z.d

module _ (z : CopyStep) where
  open z use {who.{k, m, vs, h, id, v, there, inv, inv.{chart as g}}, held.{slot as c}}

  abbrev pub deletion : Deletion
  deletion = record {
    who = z.who;
    commit = z.commit;
    r = z.needs.reading;
    p = z.p;
    b = z.b;
    d = z.d;
    left = z.needs.left;
    right = z.needs.right;
    has_commit = z.needs.has_commit;
    records = z.needs.records.records;
    marked = z.needs.marked;
  }

  is_record : IsRecord m g vs z.needs.reading
  is_record = let has = z.needs.records.records.kept in inv.readers.records id v there has.0 z.needs.reading has.1

  node_still : IsStillLinked m g z.needs.reading z.d
  node_still = record {
    linked = (node_marked deletion).0;
    generation = z.needs.marked.generation;
    recorded = z.needs.marked.recorded;
    same = (let e = node_life deletion in omega arith);
  }

  -- the old successor
  pub old_alive : IsAlive k m vs h inv id v there z.needs.reading z.u
  old_alive = let e = z.needs.records.old_life in
      alive k m vs h inv id v there z.needs.reading z.u e.0 (kept deletion) e.1 (loaded_known (known_under v z.u) (Life z.u) (2 * e.0) e.2)

  old_field : (field : Field) (number : ℕ) → known_in (known_under v z.u) field ≡ Some number → m field ≡ number
  old_field field number known = alive_field k m vs h inv id v there z.needs.reading z.u (kept deletion) old_alive field number known

  pub old_left : m (Link z.u Left) ≡ 0
  old_left = old_field (Link z.u Left) 0 (loaded_known (known_under v z.u) (Link z.u Left) 0 z.needs.records.old_left)

  pub old_key : m (Key z.u) ≡ z.next_key
  old_key = old_field (Key z.u) z.next_key z.needs.old_key

  pub old_value : m (Value z.u) ≡ z.needs.value
  old_value = old_field (Value z.u) z.needs.value z.needs.old_value

  pub old_lock : HasLock v z.u
  old_lock = (old_alive.lock, old_alive.locked)

  pub old_young : g.old z.u ≡ false
  old_young = young_locked k m vs h inv id v there (settled deletion) z.u old_lock old_alive.on

  on_path : OnRightLeft m z.d z.u
  on_path = (is_record.walk z.d z.p z.b z.needs.records.records.found.0
      (record { parent = z.q; slot = z.u }) z.needs.records.records.found.1 z.needs.records.walk).slot node_still
      (record { generation = old_alive.generation; recorded = old_alive.recorded; same = old_alive.life })

  pub old_some : z.u ≢ 0
  old_some = ((reading deletion).walk (record { parent = z.q; slot = z.u }) z.needs.records.walk).some_slot

  pub old_low : g.low z.u ≡ m (Key z.d) + 1
  old_low = (right_left_low m (slot_count k) g z.d z.u inv.tree.shape (node_marked deletion).0 (some_node deletion) on_path).1

  -- the copy
  pub spare_known : IsHeldKnown m z.held
  spare_known = (inv.slots.hands id v there).spare z.held z.needs.spare_is.0

  pub copy_own : 1 ≤ times c (slots_of v)
  copy_own = spare_own v z.held z.needs.spare_is.0

  pub copy_off : g.linked c ≡ false
  copy_off = own_off m (slot_count k) g vs h inv.slots id v there c copy_own

  pub copy_below : c < slot_count k
  copy_below = own_below m (slot_count k) g vs h inv.slots id v there c copy_own

  copy_among : 1 ≤ times c (spares_of v)
  copy_among = spare_among v z.held z.needs.spare_is.0

  pub copy_even : IsEven (m (Life c))
  copy_even = (inv.slots.hands id v there).spares c copy_among

  pub copy_gone : gone_at c h ≡ None
  copy_gone = let a = copy_among in not_gone m (slot_count k) g vs h inv.slots id v there c (omega arith)

  pub copy_some : c ≢ 0
  copy_some e = let q : true ≡ false = sym inv.tree.shape.root ∙ ap g.linked (sym e) ∙ copy_off in absurd (cc)

  -- no section has loaded the generation that the copy has
  pub copy_unread : (j : ℕ) (w : View) (r : Reading) (generation : ℕ) → get_elem? vs j ≡ some w → IsIn (readings_of w) r
      → LoadedGeneration r c generation → m (Life c) / 2 ≡ generation → ⊥
  copy_unread j w r generation e has loaded is =
      let even = copy_even in
      let l = loaded.2 in
      let on = (inv.locks.readings j w e has.0 r has.1).linked c loaded.0 loaded.1 (omega arith) in
      let q : true ≡ false = sym on ∙ copy_off in absurd (cc)

  -- no other view has to do with the slots that are locked here
  pub no_end : (s : ℕ) → HasLock v s → (j : ℕ) (w : View) (move : Move) → get_elem? vs j ≡ some w → w.moving ≡ Some move
      → (move.copy.slot ≢ s) × (move.old ≢ s) × (move.parent ≢ s)
  no_end s mine j w move e is = no_end_of k m vs h inv id v there (settled deletion) s mine j w move e is

  abbrev pub copy_link : CopyLink
  copy_link = record {
    m = m;
    n = slot_count k;
    g = g;
    p = z.p;
    b = z.b;
    d = z.d;
    c = c;
    u = z.u;
    shape = inv.tree.shape;
    parent = (parent_alive deletion).on;
    link = link_is deletion;
    node = some_node deletion;
    young = node_young deletion;
    fresh = copy_off;
    within = copy_below;
    some = copy_some;
    next_on = old_alive.on;
    next_young = old_young;
    next_low = old_low;
    next_left = old_left;
    key = (spare_known (Key c) z.next_key z.needs.key_is).1 ∙ sym old_key;
    value = (spare_known (Value c) z.needs.value z.needs.value_is).1 ∙ sym old_value;
    left = (spare_known (Link c Left) z.needs.left z.needs.left_is).1 ∙ sym (left_is deletion);
    right = (spare_known (Link c Right) z.needs.right z.needs.right_is).1 ∙ sym (right_is deletion);
    single = single deletion;
  }

  pub outside : v.section ≡ None
  outside = lock_outside k m vs h inv id v there z.u old_alive.lock old_alive.locked

-- what the step leaves, by short names
abbrev pub copied : (z : CopyStep) → record {
  n : ℕ;
  new : Memory;
  to : Chart;
  w : View;
  us : List View;
  hs : List Mark;
  gone : Retired;
  known : Known;
}
copied z = record {
  n = slot_count z.who.k;
  new = stored z.who.m (Link z.p z.b) z.held.slot;
  to = (after_copy (copy_link z)).to;
  w = after_copy_link z.who.v z.commit z.held z.p z.b z.d z.u z.q z.needs.reading.key z.next_key z.who.h;
  us = set z.who.vs z.who.id (after_copy_link z.who.v z.commit z.held z.p z.b z.d z.u z.q z.needs.reading.key z.next_key z.who.h);
  hs = both_marks z.who.h z.who.v.allowance.place z.needs.reading.key z.d;
  gone = newly_retired z.who.v z.d (length z.who.h + 1);
  known = record { field = Link z.p z.b; number = z.held.slot; stored = true };
}

module _ (z : CopyStep) where
  open z use {who.{k, m, vs, h, id, v, inv}, held.{slot as c}}
  open copied z use {to, w, hs}

  abbrev pub copy_step : LinkStep
  copy_step = record {
    who = z.who;
    p = z.p;
    b = z.b;
    d = z.d;
    c = c;
    lower = lower (copy_link z);
    upper = upper (copy_link z);
    to = to;
    w = w;
    hs = hs;
    changes = changes (copy_link z);
    same = same_for_more refl;
    outside = outside z;
    records = refl;
    plain = delete_plain h (update_of z) z.d;
    marks = delete_marks h (update_of z) z.d k.places inv.marks.marks;
    said = delete_said h v.allowance.place z.needs.reading.key z.d;
    gone_same = λ s some_slot. delete_gone_other h (update_of z) z.d s (λ e. some_node (deletion z) (sym e ∙ some_slot e));
    gone_now = λ _. (length h + 1, delete_gone_here h (update_of z) z.d, omega arith);
    odd = λ _. (node_marked (deletion z)).1;
    fresh = λ _. (copy_gone z, copy_even z);
  }

  abbrev pub copy_retires : Retires copy_step
  copy_retires = record {
    node = some_node (deletion z);
    at = length h + 1;
    here = delete_gone_here h (update_of z) z.d;
    retired = refl;
    knows = node_field (deletion z);
  }

  -- the link empties no side
  pub copy_relinks : Relinks copy_step
  copy_relinks = record {
    retires = copy_retires;
    empties = false;
    empty = λ e. absurd (cc);
    emptied = λ e. absurd (copy_some z e);
    has_parent = ((parent_alive (deletion z)).lock, (parent_alive (deletion z)).locked);
    has_node = node_lock (deletion z);
    locks = refl;
  }

  pub still_locked : (s : ℕ) → HasLock v s → HasLock w s
  still_locked s has = let f = forth copy_step copy_relinks s has.0 has.1 in (f.0, f.1)

-- What the link of a copy makes of slots.

module _ (z : CopyStep) where
  open z use {who.{k, m, vs, h, id, v, there, inv, inv.{chart as g}}, held.{slot as c}}
  open copied z use {n, new, to, w, us, hs, gone, known}

  pub node_not_copy : z.d ≢ c
  node_not_copy e = not_c (copy_link z) z.d (node_marked (deletion z)).0 e

  -- which slots the view has afterwards
  slots_after : (s : ℕ) → times s (slots_of w) + times s (c ∷ []) ≡ times s (slots_of v) + times s (z.d ∷ [])
  slots_after s =
      let a = slots_become (copy_step z) s in
      let hand = ap (times s) (note_option-slots z.p known v.hands.hand) in
      let spare : times s (held_list v.hands.spare) ≡ times s (c ∷ []) = ap (λ o. times s (held_list o)) z.needs.spare_is.0 in
      let more = retired_times (copy_step z) (copy_retires z) s in
      omega arith

  pub linked_after : (s : ℕ) → flag (to.linked s) + times s (z.d ∷ []) ≡ flag (g.linked s) + times s (c ∷ [])
  linked_after s = ⊎_elim
      (λ (e : s ≡ c).
      (let a = ap flag (put-same (put g.linked z.d false) c true s e) in
      let b = ap flag (ap g.linked e ∙ copy_off z) in
      let x : times s (c ∷ []) ≡ 1 + 0 = subst (λ y. times y (c ∷ []) ≡ 1 + 0) (sym e) (times_here c []) in
      let y = times_other s z.d [] (λ f. node_not_copy (f ∙ e)) in
      omega arith))
      (λ ne. ⊎_elim
      (λ (e : s ≡ z.d).
      (let a = ap flag (put-other (put g.linked z.d false) c true s ne ∙ put-same g.linked z.d false s e) in
      let b = ap flag (ap g.linked e ∙ (node_marked (deletion z)).0) in
      let x : times s (z.d ∷ []) ≡ 1 + 0 = subst (λ y. times y (z.d ∷ []) ≡ 1 + 0) (sym e) (times_here z.d []) in
      let y = times_other s c [] (λ f. ne (sym f)) in
      omega arith))
      (λ not.
      (let a = ap flag (put-other (put g.linked z.d false) c true s ne ∙ put-other g.linked z.d false s not) in
      let x = times_other s z.d [] (λ f. not (sym f)) in
      let y = times_other s c [] (λ f. ne (sym f)) in
      omega arith))
      (cases_eq s z.d))
      (cases_eq s c)

  few_mine : HasFewSlots k.room w
  few_mine =
      let i = inv.slots.few id v there in
      let l = length-append v.hands.retired (gone ∷ []) in
      let room = z.needs.room in
      record {
        one = λ r. ap (note_option z.p known) (i.one r);
        few = omega arith;
        room = λ move is. omega arith;
        joined = i.joined;
        next_spare = λ works none. record { retired = gone; has = gone_among (copy_step z) (copy_retires z); unraised = refl };
      }

  pub copy_slots : SlotsGo (copy_step z)
  copy_slots = record {
    mine = ((parent_alive (deletion z)).lock, (parent_alive (deletion z)).locked);
    few = λ _. few_mine;
    swaps = λ s. (let e = slots_after s in let f = linked_after s in omega arith);
    hand = λ x is. sym (hand_noted (copy_step z) known) ∙ is;
    spare = λ x is. absurd (let q : None ≡ Some x = is in cc);
    copy = λ move is.
        (let e : new_move z.held z.needs.reading.key z.next_key z.d z.u z.q (length h) ≡ move = cc in
        subst (λ (x : Move). IsHandKnown new x.copy) e
        (record { known = spare_stays (copy_step z) z.held z.needs.spare_is.0; even = copy_even z }));
    spares = λ s has. (let a = spares_count w s in let b = spares_count v s in omega arith);
    retired = retired_or_gone (copy_step z) (copy_retires z);
    still_retired = retired_grows (copy_step z) (copy_retires z);
    gone_retired = λ _. record { retired = gone; has = gone_in_retired (copy_step z) (copy_retires z); slot = refl };
  }

-- The link of a copy: the parts on counts and on the front.

module _ (z : CopyStep) where
  open z use {who.{k, m, vs, h, id, v, there, inv, inv.{chart as g}}, held.{slot as c}}
  open copied z use {n, new, to, w, us, hs, gone, known}

  d_below : z.d < n
  d_below = inv.tree.shape.within z.d (node_marked (deletion z)).0

  u_below : z.u < n
  u_below = inv.tree.shape.within z.u (old_alive z).on

  old_not_node : z.u ≢ z.d
  old_not_node = next_not (copy_link z)

  old_not_copy : z.u ≢ c
  old_not_copy = not_c (copy_link z) z.u (old_alive z).on

  linked_same : linked_count to n ≡ linked_count g n
  linked_same = sum_swapped (λ s. flag (g.linked s && not (s == 0))) (λ s. flag (to.linked s && not (s == 0))) z.d c n d_below
      (copy_below z) (λ s. ⊎_elim
      (λ (e : s ≡ 0).
      (let a = flag_root (to.linked s) s e in
      let b = flag_root (g.linked s) s e in
      let x = not_one s z.d (λ f. some_node (deletion z) (sym f ∙ e)) in
      let y = not_one s c (λ f. copy_some z (sym f ∙ e)) in
      omega arith))
      (λ ne. (let a = flag_node (to.linked s) s ne in let b = flag_node (g.linked s) s ne in let f = linked_after z s in omega arith))
      (cases_eq s 0))

  -- what the chart says of each slot
  off : (s : ℕ) → s ≢ c → s ≡ z.d → to.linked s ≡ false
  off s nc e = put-other (put g.linked z.d false) c true s nc ∙ put-same g.linked z.d false s e

  on : (s : ℕ) → s ≢ c → s ≢ z.d → to.linked s ≡ g.linked s
  on s nc nd = put-other (put g.linked z.d false) c true s nc ∙ put-other g.linked z.d false s nd

  same_old : (s : ℕ) → s ≢ c → s ≢ z.u → to.old s ≡ g.old s
  same_old s nc nu = put-other (put g.old c false) z.u true s nu ∙ put-other g.old c false s nc

  now_old : (s : ℕ) → s ≡ z.u → to.old s ≡ true
  now_old s e = put-same (put g.old c false) z.u true s e

  -- a slot that holds a pair, with those that no longer do
  young_at : (s : ℕ) → s ≢ 0 → flag (to.linked s && not (to.old s)) + times s (z.d ∷ []) + times s (z.u ∷ [])
      ≡ flag (g.linked s && not (g.old s)) + times s (c ∷ [])
  young_at s nz = ⊎_elim
      (λ (e : s ≡ c).
      (let a = young_flags (to.linked s) (to.old s) true false (ap to.linked e ∙ c_linked (copy_link z))
      (ap to.old e ∙ c_young (copy_link z)) in
      let b = young_flags (g.linked s) (g.old s) false (g.old s) (ap g.linked e ∙ copy_off z) refl in
      let x = in_one s c e in
      let y = not_one s z.d (λ f. node_not_copy z (sym f ∙ e)) in
      let t = not_one s z.u (λ f. old_not_copy (sym f ∙ e)) in
      omega arith))
      (λ nc. ⊎_elim
      (λ (e : s ≡ z.d).
      (let a = young_flags (to.linked s) (to.old s) false (to.old s) (off s nc e) refl in
      let b = young_flags (g.linked s) (g.old s) true false (ap g.linked e ∙ (node_marked (deletion z)).0)
      (ap g.old e ∙ node_young (deletion z)) in
      let x = not_one s c nc in
      let y = in_one s z.d e in
      let t = not_one s z.u (λ f. old_not_node (sym f ∙ e)) in
      omega arith))
      (λ nd. ⊎_elim
      (λ (e : s ≡ z.u).
      (let a = young_flags (to.linked s) (to.old s) true true (on s nc nd ∙ ap g.linked e ∙ (old_alive z).on) (now_old s e) in
      let b = young_flags (g.linked s) (g.old s) true false (ap g.linked e ∙ (old_alive z).on) (ap g.old e ∙ old_young z) in
      let x = not_one s c nc in
      let y = not_one s z.d nd in
      let t = in_one s z.u e in
      omega arith))
      (λ nu.
      (let a = young_flags (to.linked s) (to.old s) (g.linked s) (g.old s) (on s nc nd) (same_old s nc nu) in
      let x = not_one s c nc in
      let y = not_one s z.d nd in
      let t = not_one s z.u nu in
      omega arith))
      (cases_eq s z.u))
      (cases_eq s z.d))
      (cases_eq s c)

  young_less : young_count to n + 1 ≡ young_count g n
  young_less =
      let f : ℕ → ℕ = λ s. flag (g.linked s && (not (s == 0) && not (g.old s))) in
      let e : ℕ → ℕ = λ s. flag (to.linked s && (not (s == 0) && not (to.old s))) in
      let whole = sum_equal (λ s. e s + times s (z.d ∷ []) + times s (z.u ∷ [])) (λ s. f s + times s (c ∷ [])) n
      (λ s _. at s (cases_eq s 0)) in
      let a = sum_add (λ s. e s + times s (z.d ∷ [])) (λ s. times s (z.u ∷ [])) n in
      let b = sum_add e (λ s. times s (z.d ∷ [])) n in
      let x = sum_add f (λ s. times s (c ∷ [])) n in
      let i = one_sum z.d n d_below in
      let j = one_sum z.u n u_below in
      let l = one_sum c n (copy_below z) in
      let goal : sum_below e n + 1 ≡ sum_below f n = omega arith in goal
    where
      at : (s : ℕ) → (s ≡ 0) ⊎ (s ≢ 0) → flag (to.linked s && (not (s == 0) && not (to.old s))) + times s (z.d ∷ []) + times s (z.u ∷ [])
          ≡ flag (g.linked s && (not (s == 0) && not (g.old s))) + times s (c ∷ [])
      at s (inl e) =
          let a = young_root (to.linked s) (to.old s) s e in
          let b = young_root (g.linked s) (g.old s) s e in
          let x = not_one s z.d (λ f. some_node (deletion z) (sym f ∙ e)) in
          let y = not_one s c (λ f. copy_some z (sym f ∙ e)) in
          let t = not_one s z.u (λ f. old_some z (sym f ∙ e)) in
          omega arith
      at s (inr ne) =
          let a = young_node (to.linked s) (to.old s) s ne in
          let b = young_node (g.linked s) (g.old s) s ne in
          let f = young_at s ne in
          omega arith

  old_more : old_count to n ≡ old_count g n + 1
  old_more = sum_one_more (λ s. flag (g.linked s && g.old s)) (λ s. flag (to.linked s && to.old s)) z.u n u_below (λ s. ⊎_elim
      (λ (e : s ≡ c).
      (let a = old_flags (to.linked s) (to.old s) (to.linked s) false refl (ap to.old e ∙ c_young (copy_link z))
      ∙ flag_false (to.linked s) in
      let b = old_flags (g.linked s) (g.old s) false (g.old s) (ap g.linked e ∙ copy_off z) refl in
      let t = not_one s z.u (λ f. old_not_copy (sym f ∙ e)) in
      omega arith))
      (λ nc. ⊎_elim
      (λ (e : s ≡ z.d).
      (let a = old_flags (to.linked s) (to.old s) false (to.old s) (off s nc e) refl in
      let b = old_flags (g.linked s) (g.old s) (g.linked s) false refl (ap g.old e ∙ node_young (deletion z)) ∙ flag_false (g.linked s) in
      let t = not_one s z.u (λ f. old_not_node (sym f ∙ e)) in
      omega arith))
      (λ nd. ⊎_elim
      (λ (e : s ≡ z.u).
      (let a = old_flags (to.linked s) (to.old s) true true (on s nc nd ∙ ap g.linked e ∙ (old_alive z).on) (now_old s e) in
      let b = old_flags (g.linked s) (g.old s) (g.linked s) false refl (ap g.old e ∙ old_young z) ∙ flag_false (g.linked s) in
      let t = in_one s z.u e in
      omega arith))
      (λ nu.
      (let a = old_flags (to.linked s) (to.old s) (g.linked s) (g.old s) (on s nc nd) (same_old s nc nu) in
      let t = not_one s z.u nu in
      omega arith))
      (cases_eq s z.u))
      (cases_eq s z.d))
      (cases_eq s c))

  pub updates_longer : length (updates_of hs) ≡ length (updates_of h) + 1
  updates_longer = delete_longer h v.allowance.place z.needs.reading.key z.d

  pairs_less : finite.len (map_of (updates_of hs)) ≡ finite.len (map_of (updates_of h)) - 1
  pairs_less = delete_count h v.allowance.place z.needs.reading.key z.d (has_key (deletion z))

  unraised_more : unraised_of w ≡ unraised_of v + 1
  unraised_more =
      let a = note_option-unraised z.p known v.hands.hand in
      let b = unraised_append (v.hands.retired ++ gone ∷ []) (joined_retired v.allowance.joined) in
      let e = unraised_append v.hands.retired (gone ∷ []) in
      let f = unraised_append v.hands.retired (joined_retired v.allowance.joined) in
      omega arith

  emptied_same : emptied_among w.locks ≡ emptied_among v.locks
  emptied_same = emptied_change_same z.d (with_mark false) (λ x. refl) (λ l. refl) (change_lock z.p (note_lock known) v.locks)
      ∙ emptied_change_same z.p (note_lock known) (λ x. refl) (λ l. refl) v.locks

  pub copy_counts : CountParts k.tickets new n to us hs
  copy_counts =
      let emptied = emptied_same in
      let none : has v.moving ≡ 0 = ap has (settled (deletion z)) in
      let ticket = z.needs.has_commit.ticket in
      let unraised = unraised_more in
      let longer = updates_longer in
      let linked = linked_same in
      counts_by k.tickets m new n g to vs id v w h hs there (record {
        free = refl;
        clock = omega arith;
        generations = omega arith;
        tags = omega arith;
        turns = omega arith;
        pairs = (let pairs = inv.counts.pairs in let less = pairs_less in let young = young_less in omega arith);
        olds = (let old = old_more in omega arith);
      }) inv.counts

  pub copy_front : FrontParts new us hs
  copy_front = front_made m new vs id v w there h hs (front_stays m new refl refl) inv.front z.commit z.needs.has_commit refl updates_longer
      (delete_here h v.allowance.place z.needs.reading.key z.d)
      (delete_legal h v.allowance.place z.needs.reading.key z.d (has_key (deletion z)) inv.front.legal)

-- The link of a copy: the key of the copy is the next one in the dictionary above the key that is deleted.

-- a key that is there has a value
value_of : (d : Dictionary) (key : ℕ) → finite.contains_key d key ≡ true → (value : ℕ) × (finite.get d key ≡ Some value)
value_of d key has = by_get (finite.get d key) refl
  where
    by_get : (o : Option ℕ) → finite.get d key ≡ o → (value : ℕ) × (o ≡ Some value)
    by_get None e = absurd (let q : false ≡ true = ap is_some (sym e) ∙ has in cc)
    by_get (Some value) e = (value, refl)

module _ (z : CopyStep) where
  open z use {who.{m, h, inv, inv.{chart as g}}, needs.{reading as r}, u, next_key}

  above : r.key < next_key
  above = let low = (next_keyed (copy_link z)).low in let base = old_low z in let key = node_key (deletion z) in let last = old_key z in
      omega arith

  there : map_now h next_key ≡ Some (m (Value u))
  there =
      let c = copy_link z in
      let some_old : u ≢ 0 = (λ e. let none = ap g.low e in let root = inv.tree.shape.root_low in let base = old_low z in
      absurd (omega arith)) in
      ap (map_now h) (sym (old_key z)) ∙ inv.tree.map.sound u c.next_on some_old c.next_young

  -- no key stands between: it would be the copied slot's
  least : (other value : ℕ) → r.key < other → map_now h other ≡ Some value → next_key ≤ other
  least other value more has = dite (dec_le next_key other) (λ le. le) (λ less.
      let s = inv.tree.map.complete other value has in
      let key = node_key (deletion z) in
      let last = old_key z in
      let at : m (Key s.slot) ≡ other = s.key in
      let same : s.slot ≡ u = none_between (copy_link z) s.slot s.linked s.some_slot s.young (omega arith) (omega arith) in
      let one : m (Key s.slot) ≡ m (Key u) = ap (λ t. m (Key t)) same in
      absurd (omega arith))

  next_of : IsNextKey (map_of (updates_of h)) r.key next_key
  next_of = record {
    above = above;
    there = there_of (map_of (updates_of h)) next_key (m (Value u)) there;
    least = λ other more has. let v = value_of (map_of (updates_of h)) other has in least other v.0 more v.1;
  }

pub copy_next : CopiesHaveNextKeys
copy_next k m vs h id v inv at works commit held parent b node copy old old_parent key next needs =
    let step : CopyStep = record {
      who = record { k = k; m = m; vs = vs; h = h; id = id; v = v; inv = inv; there = at; works = works };
      commit = commit;
      held = held;
      p = parent;
      b = b;
      d = node;
      u = old;
      q = old_parent;
      key = key;
      next_key = next;
      needs = subst (λ c. NeedsCopyLink k.room v commit held parent b node c old old_parent key next) (sym needs.spare_is.1) needs;
    } in
    subst (λ x. IsNextKey (map_of (updates_of h)) x next) step.needs.sought (next_of step)

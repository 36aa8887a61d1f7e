-- A linked slot is unlinked whose links lead to one slot at most: the link that led to it leads to its child from now on, or nowhere, and
-- its range becomes its child's. A bypass and the unlinking of an old successor are such: first on the chart, then the step.
use Rattle.std.proofs.Common.{◌≡◌, ◌≢◌, ℕ, ◌≤◌, ◌^◌, true, false, refl, sym, ap, ◌∙◌, arith, ◌⊎◌, inl, inr, ⊎_elim, ◌+◌, Option, Some, None, ◌<◌, ◌==◌, List, [], ◌∷◌, ◌++◌, length, map, set, subst, eq-eqb, ◌-◌, length-append}
use Rattle.std.proofs.lemmas.Bool.{cases_eq, eqb-true}
use Rattle.prcu_marks.specs.declared.mark.Side.{Side}
use Rattle.prcu_marks.specs.declared.mark.Side.TheVariants.{Left, Right}
use Rattle.core_state.specs.declared.words.Field.TheVariants.{Key, Link, Life}
use Rattle.core_state.specs.Memory.{Memory, IsEven, IsOdd, flag, has, stored, slot_count}
use Rattle.core_state.specs.Tree.{after, Chart, low_of, high_of, IsBelow, Hangs, IsShaped, IsKeyed, HoldsMap, HoldsPair, in_range, MayPass, IsPending}
use Rattle.core_laws.proofs.Stores.{StoresLink, hangs_at, same_after, link_stores, moves_stored, StoresCounted, linked_less, young_less, young_same, old_less, old_same, counts_node_gone, counts_old_gone}
use Rattle.core_laws.proofs.ChartChanges.{put, put-same, put-other, ChangesChart, hangs_right, not_root_left, moved, moved_tells, moved-other, map_after}
use Rattle.core_frames.proofs.TreeFrames.{pair_by, may_by, old_by}
use Rattle.core_frames.proofs.Charts.{bool_cases, after-node, key_bound, one_key}
use mathlib.Core.Option.{some}
use lib.ListN.{get_elem?}
use Rattle.prcu_marks.specs.declared.mark.Mark.{Mark}
use Rattle.prcu_marks.specs.Marks.{updates_of}
use Rattle.prcu_model.specs.Dictionary.{WasSaid, map_of}
use Rattle.core_state.specs.declared.words.Field.{Field}
use Rattle.core_state.specs.declared.view.Known.{Known}
use Rattle.core_state.specs.declared.view.Move.{Move}
use Rattle.core_state.specs.declared.view.Retired.{Retired}
use Rattle.core_state.specs.declared.view.Section.{Section}
use Rattle.core_state.specs.declared.view.View.{View}
use Rattle.core_state.specs.Views.{known_in, known_under, HasLock, note_option, slots_of, spares_of, held_list, joined_spares, unraised_hand, unraised_among, unraised_of, emptied_among, joined_retired}
use Rattle.core_state.specs.Links.{newly_retired}
use Rattle.core_state.specs.Parts.{CountParts, FrontParts, ListingParts, HasFewSlots, HasFewSpent, map_now, AreMoving, GraceParts}
use Rattle.core_frames.specs.Laws.{IsKept}
use Rattle.core_laws.proofs.Locks.{one_holder, lock_outside, relocked, relocked_emptied}
use Rattle.core_laws.proofs.LinkSteps.{LinkReads, link_kept, LinkStep, Retires, range_stays, side_stays, words_after, views_after}
use Rattle.core_laws.proofs.LinkParts.{Relinks, locks_after, emptied_still, link_back, SlotsGo, slots_after, hand_noted, spare_noted, retired_times, retired_or_gone, retired_grows, gone_among, gone_in_retired, slots_become}
use Rattle.core_frames.proofs.WholeFrames.{Stepper, SameForMore, grace_unlinked}
use Rattle.core_frames.proofs.Marks.{PlainMarks, IsUnlinkedNow}
use Rattle.core_state.specs.Marks.{AreMarks, Reuse}
use Rattle.list_laws.specs.Counts.{times, numbers_from, Each}
use Rattle.list_laws.proofs.Lists.{times_here, times_other, somewhere_still}
use Rattle.core_frames.proofs.Roles.{unraised_append}
use Rattle.core_laws.proofs.LockSteps.{note_option-unraised}
use Rattle.std.specs.FinMap as finite

-- side b of slot p led to the slot d, and leads to c from now on, or nowhere
pub record Replaces (m new : Memory) (g : Chart) (p : ℕ) (b : Side) (d c : ℕ) : Type 0 where
  pub stores : StoresLink m new p b c
  pub parent : g.linked p ≡ true
  pub link : m (Link p b) ≡ d
  pub node : d ≢ 0

-- below a slot there is one child, on one side, or none
pub record OnlyChild (m : Memory) (d c : ℕ) : Type 0 where
  pub side : Side
  pub beside : Side
  pub apart : side ≢ beside
  pub leads : m (Link d side) ≡ c
  pub empty : m (Link d beside) ≡ 0

-- Where d's only link leads to c, or nowhere: the bounds of ranges are renamed by `lower` and
-- `upper`, which leave the keys of all other slots and make d's range c's.
pub record Splices (m new : Memory) (n : ℕ) (g : Chart) (p : ℕ) (b : Side) (d c : ℕ) (lower upper : ℕ → ℕ) : Type 0 where
  pub replaces : Replaces m new g p b d c
  pub only : OnlyChild m d c
  pub after_stays : (s : ℕ) → g.linked s ≡ true → s ≢ d → lower (after m s) ≡ after m s
  pub key_stays : (s : ℕ) → g.linked s ≡ true → s ≢ d → s ≢ 0 → upper (m (Key s)) ≡ m (Key s)
  pub falls : (x : ℕ) → lower x ≤ x
  pub grows : (x : ℕ) → x ≤ upper x
  pub last : upper (2 ^ 64) ≡ 2 ^ 64
  pub own_low : lower (g.low d) ≡ g.low d
  pub own_high : upper (g.high d) ≡ g.high d
  pub child_low : c ≢ 0 → lower (low_of m g d only.side) ≡ g.low d
  pub child_high : c ≢ 0 → upper (high_of m g d only.side) ≡ g.high d

-- the chart without d
abbrev pub spliced : Chart → ℕ → Side → ℕ → ℕ → (ℕ → ℕ) → (ℕ → ℕ) → Chart
spliced g p b d c lower upper = record {
  linked = put g.linked d false;
  old = g.old;
  low = λ s. lower (g.low s);
  high = λ s. upper (g.high s);
  rank = g.rank;
  up = put g.up c p;
  side = put g.side c b;
}

side_cases : (e f a : Side) → e ≢ f → (a ≡ e) ⊎ (a ≡ f)
side_cases Left f Left ne = inl refl
side_cases Right f Right ne = inl refl
side_cases Left Right Right ne = inr refl
side_cases Right Left Left ne = inr refl
side_cases _ _ _ ne = absurd (ne refl)

module _ (m new : Memory) (n : ℕ) (g : Chart) (p : ℕ) (b : Side) (d c : ℕ) (lower upper : ℕ → ℕ) (h : IsShaped m n g)
    (k : Splices m new n g p b d c lower upper) where
  abbrev pub spliced_chart : Chart
  spliced_chart = spliced g p b d c lower upper

  pub at_node : IsBelow m g p b d
  at_node = h.below p d b k.replaces.parent k.replaces.link k.replaces.node

  pub parent_not : p ≢ d
  parent_not e = omega (arith, at_node.rank, ap g.rank e)

  pub was_linked : (s : ℕ) → spliced_chart.linked s ≡ true → (g.linked s ≡ true) × (s ≢ d)
  was_linked s l = ⊎_elim (λ (w : s ≡ d). absurd (let e = put-same g.linked d false s w in cc))
      (λ not. (sym (put-other g.linked d false s not) ∙ l, not)) (cases_eq s d)

  pub still_linked : (s : ℕ) → g.linked s ≡ true → s ≢ d → spliced_chart.linked s ≡ true
  still_linked s l not = put-other g.linked d false s not ∙ l

  pub child_below : c ≢ 0 → IsBelow m g d k.only.side c
  child_below ne = h.below d c k.only.side at_node.linked k.only.leads ne

  -- where c is none it is the root
  pub child_linked : g.linked c ≡ true
  child_linked = ⊎_elim (λ (z : c ≡ 0). ap g.linked z ∙ h.root) (λ ne. (child_below ne).linked) (cases_eq c 0)

  -- below d is its child alone
  only_child : (x : ℕ) (a : Side) → m (Link d a) ≡ x → x ≢ 0 → x ≡ c
  only_child x a e nz = ⊎_elim (λ w. sym e ∙ ap (λ (y : Side). m (Link d y)) w ∙ k.only.leads)
      (λ w. absurd (nz (sym e ∙ ap (λ (y : Side). m (Link d y)) w ∙ k.only.empty))) (side_cases k.only.side k.only.beside a k.only.apart)

  side_low : (a : Side) → low_of new spliced_chart p a ≡ lower (low_of m g p a)
  side_low Left = refl
  side_low Right = same_after m new p (k.replaces.stores.key p) ∙ sym (k.after_stays p k.replaces.parent parent_not)

  side_high : (a : Side) → (a ≡ Left → p ≢ 0) → high_of new spliced_chart p a ≡ upper (high_of m g p a)
  side_high Left ne = k.replaces.stores.key p ∙ sym (k.key_stays p k.replaces.parent parent_not (ne refl))
  side_high Right ne = refl

  child_after : c ≢ 0 → IsBelow new spliced_chart p b c
  child_after ne =
      let q = child_below ne in
      record {
        linked = still_linked c q.linked (λ e. omega (arith, q.rank, ap g.rank e));
        up = put-same g.up c p c refl;
        side = put-same g.side c b c refl;
        rank = omega (arith, at_node.rank, q.rank);
        low = ap lower q.low ∙ k.child_low ne ∙ sym k.own_low ∙ ap lower at_node.low ∙ sym (side_low b);
        high = ap upper q.high ∙ k.child_high ne ∙ sym k.own_high ∙ ap upper at_node.high
            ∙ sym (side_high b (not_root_left m n g p b h (λ z. k.replaces.node (sym k.replaces.link ∙ z))));
      }

  child_hangs : (x : ℕ) → x ≡ c → Hangs new spliced_chart x
  child_hangs x w = hangs_at new spliced_chart x p b (put-same g.up c p x w) (put-same g.side c b x w) (still_linked p k.replaces.parent parent_not)
      (k.replaces.stores.here ∙ sym w)

  pub place_stays : (s : ℕ) → s ≢ c → (spliced_chart.up s ≡ g.up s) × (spliced_chart.side s ≡ g.side s)
  place_stays s ne = (put-other g.up c p s ne, put-other g.side c b s ne)

  pub changes : ChangesChart m new n g spliced_chart p b d c lower upper
  changes = record {
    stores = k.replaces.stores;
    parent = k.replaces.parent;
    link = k.replaces.link;
    right_alone = hangs_right m n g p b h k.replaces.parent (λ z. k.replaces.node (sym k.replaces.link ∙ z));
    goes = λ _. put-same g.linked d false d refl;
    stays = λ s l some_slot. still_linked s l (λ e. k.replaces.node (sym e ∙ some_slot e));
    comes = λ s t off. absurd (let l = (was_linked s t).0 in cc);
    rank = λ s _. refl;
    place = λ s l up nz. place_stays s (λ e. (was_linked (g.up s) up).1 (ap g.up e ∙ (child_below (λ z. nz (e ∙ z))).up));
    low = λ s _. refl;
    high = λ s _. refl;
    after_stays = λ s l t. k.after_stays s l (was_linked s t).1;
    key_stays = λ s l t. k.key_stays s l (was_linked s t).1;
    first = (let e = k.falls 0 in omega arith);
    last = k.last;
    grows = k.grows;
    keyed = λ s l _ nz o. (let was = (h.keyed s l nz o).low in let e = k.falls (g.low s) in omega arith);
    root_young = h.root_new;
    was_young = λ s _ o. o;
    newly_old = λ s _ young o. absurd (cc);
    child = child_after;
    over = λ y e nz. inl (only_child y Left e nz);
    adopted = λ x l nz _ up. (let was = h.hangs x l nz in
        child_hangs x (only_child x (g.side x) (ap (λ y. m (Link y (g.side x))) (sym up) ∙ was.link) nz));
    fresh = λ off. absurd (let l = child_linked in cc);
  }

-- A marked node is bypassed: the chart without it is a shape, and holds the map without its key.

-- a bypass: side b of slot p, which led to d, now leads to d's only child, or nowhere
pub record Bypasses (m new : Memory) (g : Chart) (p : ℕ) (b : Side) (d c : ℕ) : Type 0 where
  pub replaces : Replaces m new g p b d c
  pub young : g.old d ≡ false
  pub only : OnlyChild m d c
  pub single : (s : ℕ) → g.linked s ≡ true → g.old s ≡ true → m (Key s) ≢ m (Key d)

-- where ranges ended at the key that goes, they end with its slot's range
abbrev pub lower_past : Memory → Chart → ℕ → ℕ → ℕ
lower_past m g d = moved (m (Key d) + 1) (g.low d)

abbrev pub upper_past : Memory → Chart → ℕ → ℕ → ℕ
upper_past m g d = moved (m (Key d)) (g.high d)

abbrev pub bypassed : Memory → Chart → ℕ → Side → ℕ → ℕ → Chart
bypassed m g p b d c = spliced g p b d c (lower_past m g d) (upper_past m g d)

-- the key of a slot that is no old successor, where no old successor has it, is the slot's alone
module _ (m : Memory) (n : ℕ) (g : Chart) (d : ℕ) (h : IsShaped m n g) (linked : g.linked d ≡ true) (node : d ≢ 0) (young : g.old d ≡ false)
    (single : (s : ℕ) → g.linked s ≡ true → g.old s ≡ true → m (Key s) ≢ m (Key d)) where
  pub key_differs : (s : ℕ) → g.linked s ≡ true → s ≢ d → s ≢ 0 → m (Key s) ≢ m (Key d)
  key_differs s l not ne e = ⊎_elim (λ o. single s l o e) (λ o. not (one_key m n g s d h l ne o linked node young e)) (bool_cases (g.old s))

  pub after_differs : (s : ℕ) → g.linked s ≡ true → s ≢ d → after m s ≢ m (Key d) + 1
  after_differs s l not e = ⊎_elim (λ (z : s ≡ 0). omega (arith, e, ap (after m) z))
      (λ ne. key_differs s l not ne (omega (arith, e, after-node m s ne))) (cases_eq s 0)

  -- the map without its key
  pub pair_else : (map : ℕ → Option ℕ) → HoldsMap m g map → (x v : ℕ) → put map (m (Key d)) None x ≡ Some v
      → (pair : HoldsPair m g x v) × (pair.slot ≢ d)
  pair_else map q x v e = ⊎_elim
      (λ (w : x ≡ m (Key d)). absurd (let f = put-same map (m (Key d)) None x w in cc))
      (λ w. (let a = q.complete x v (sym (put-other map (m (Key d)) None x w) ∙ e) in
      (a, (λ i. w (sym a.key ∙ ap (λ y. m (Key y)) i)))))
      (cases_eq x (m (Key d)))

module _ (m new : Memory) (n : ℕ) (g : Chart) (p : ℕ) (b : Side) (d c : ℕ) (h : IsShaped m n g) (k : Bypasses m new g p b d c) where
  node_at : IsBelow m g p b d
  node_at = h.below p d b k.replaces.parent k.replaces.link k.replaces.node

  keyed : IsKeyed m g d
  keyed = h.keyed d node_at.linked k.replaces.node k.young

  child_low : (e : Side) → lower_past m g d (low_of m g d e) ≡ g.low d
  child_low Left = moved-other (m (Key d) + 1) (g.low d) (g.low d) (λ e. omega (arith, e, keyed.low))
  child_low Right = omega (arith, after-node m d k.replaces.node, moved_tells (m (Key d) + 1) (g.low d) (after m d))

  child_high : (e : Side) → upper_past m g d (high_of m g d e) ≡ g.high d
  child_high Left = omega (arith, moved_tells (m (Key d)) (g.high d) (m (Key d)))
  child_high Right = moved-other (m (Key d)) (g.high d) (g.high d) (λ e. omega (arith, e, keyed.high))

  pub bypass_splice : Splices m new n g p b d c (lower_past m g d) (upper_past m g d)
  bypass_splice = record {
    replaces = k.replaces;
    only = k.only;
    after_stays = λ s l not. moved-other (m (Key d) + 1) (g.low d) (after m s)
        (after_differs m n g d h node_at.linked k.replaces.node k.young k.single s l not);
    key_stays = λ s l not ne. moved-other (m (Key d)) (g.high d) (m (Key s))
        (key_differs m n g d h node_at.linked k.replaces.node k.young k.single s l not ne);
    falls = λ x. omega (arith, keyed.low, moved_tells (m (Key d) + 1) (g.low d) x);
    grows = λ x. omega (arith, keyed.high, moved_tells (m (Key d)) (g.high d) x);
    last = moved-other (m (Key d)) (g.high d) 18446744073709551616
        (λ e. omega (arith, e, key_bound m n g d h node_at.linked k.replaces.node k.young));
    own_low = child_low Left;
    own_high = child_high Right;
    child_low = λ _. child_low k.only.side;
    child_high = λ _. child_high k.only.side;
  }

  pub bypass_map : (map : ℕ → Option ℕ) → HoldsMap m g map → HoldsMap new (bypassed m g p b d c) (put map (m (Key d)) None)
  bypass_map map q =
      map_after m new n g (bypassed m g p b d c) p b d c (lower_past m g d) (upper_past m g d) h
      (changes m new n g p b d c (lower_past m g d) (upper_past m g d) h bypass_splice) map (put map (m (Key d)) None) q
      (λ s l t ne o. put-other map (m (Key d)) None (m (Key s))
      (key_differs m n g d h node_at.linked k.replaces.node k.young k.single s l
      (was_linked m new n g p b d c (lower_past m g d) (upper_past m g d) h bypass_splice s t).1 ne))
      (λ off. absurd (let l = child_linked m new n g p b d c (lower_past m g d) (upper_past m g d) h bypass_splice in cc))
      (λ x v e. (let w = pair_else m n g d h node_at.linked k.replaces.node k.young k.single map q x v e in
      let a = w.0 in
      pair_by a (still_linked m new n g p b d c (lower_past m g d) (upper_past m g d) h bypass_splice a.slot a.linked w.1)
      a.young refl refl))

-- A slot that the view has marked is spliced out: the link of its parent, which led to it, is stored under the parent's lock. What this
-- leaves, and what a bypass and the unlinking of an old successor have to say yet.

-- What such a step says: side b of the parent p leads to c from now on, where d's only link leads, and d is retired.
pub record Cut : Type 0 where
  pub who : Stepper
  pub p : ℕ
  pub b : Side
  pub d : ℕ
  pub c : ℕ
  pub lower : ℕ → ℕ
  pub upper : ℕ → ℕ
  pub w : View
  pub hs : List Mark
  pub at : ℕ
  pub splice : Splices who.m (stored who.m (Link p b) c) (slot_count who.k) who.inv.chart p b d c lower upper
  pub odd : IsOdd (who.m (Life d))
  pub has_parent : HasLock who.v p
  pub has_node : HasLock who.v d
  pub knows : (field : Field) (number : ℕ) → known_in (known_under who.v d) field ≡ Some number → who.m field ≡ number
  pub room : length who.v.hands.retired < who.k.room
  pub plain : PlainMarks who.v.allowance.place who.h hs
  pub marks : AreMarks who.k.places hs
  pub said : (key from : ℕ) (o : Option ℕ) → WasSaid (updates_of who.h) key from o → WasSaid (updates_of hs) key from o
  pub now : IsUnlinkedNow who.h hs d at
  pub reuse : Reuse hs
  pub same : SameForMore who.v w hs
  pub locks : w.locks ≡ relocked p b d (record { field = Link p b; number = c; stored = true }) (c == 0) who.v.locks
  pub hand : w.hands.hand ≡ note_option p (record { field = Link p b; number = c; stored = true }) who.v.hands.hand
  pub spare : w.hands.spare ≡ note_option p (record { field = Link p b; number = c; stored = true }) who.v.hands.spare
  pub reserved : w.hands.reserved ≡ who.v.hands.reserved
  pub retired : w.hands.retired ≡ who.v.hands.retired ++ newly_retired who.v d at ∷ []
  pub records : w.records ≡ who.v.records
  pub moving : w.moving ≡ None
  -- the view's own move, if it has one, has d as its old successor, which no open search passes
  pub own_move : (move : Move) → who.v.moving ≡ Some move → move.old ≡ d
  pub unpassed : (j : ℕ) (u : View) (section : Section) → get_elem? who.vs j ≡ some u → u.section ≡ Some section
      → MayPass who.vs section.key section.entered d → who.inv.chart.old d ≡ true → ⊥

module _ (z : Cut) where
  open z use {who.{k, m, vs, h, id, v, there, inv as i, inv.{chart as g}}, p, b, d, c, lower, upper, w, hs, at, splice}

  abbrev n : ℕ
  n = slot_count k

  abbrev new : Memory
  new = stored m (Link p b) c

  abbrev to : Chart
  to = spliced g p b d c lower upper

  abbrev us : List View
  us = set vs id w

  abbrev known : Known
  known = record { field = Link p b; number = c; stored = true }

  abbrev gone : Retired
  gone = newly_retired v d at

  pub outside : v.section ≡ None
  outside = lock_outside k m vs h i id v there d z.has_node.0 z.has_node.1

  pub not_fresh : g.linked c ≡ false → ⊥
  not_fresh off = let l = child_linked m new n g p b d c lower upper i.tree.shape splice in cc

  abbrev pub cut_step : LinkStep
  cut_step = record {
    who = z.who;
    p = p;
    b = b;
    d = d;
    c = c;
    lower = lower;
    upper = upper;
    to = to;
    w = w;
    hs = hs;
    changes = changes m new n g p b d c lower upper i.tree.shape splice;
    same = z.same;
    outside = outside;
    records = z.records;
    plain = z.plain;
    marks = z.marks;
    said = z.said;
    gone_same = λ s some_slot. z.now.gone s (λ e. splice.replaces.node (sym e ∙ some_slot e));
    gone_now = λ _. (at, z.now.here, z.now.after);
    odd = λ _. z.odd;
    fresh = λ off. absurd (not_fresh off);
  }

  d_linked : g.linked d ≡ true
  d_linked = (at_node m new n g p b d c lower upper i.tree.shape splice).linked

  was : (s : ℕ) → to.linked s ≡ true → (g.linked s ≡ true) × (s ≢ d)
  was = was_linked m new n g p b d c lower upper i.tree.shape splice

  still : (s : ℕ) → g.linked s ≡ true → s ≢ d → to.linked s ≡ true
  still = still_linked m new n g p b d c lower upper i.tree.shape splice

  not_even : (s : ℕ) → IsEven (m (Life s)) → s ≢ d
  not_even s even e = let f = ap (λ y. m (Life y)) e in let o = z.odd in absurd (omega arith)

  others_stay : (j : ℕ) (u : View) (s : ℕ) → j ≢ id → get_elem? vs j ≡ some u → HasLock u s → g.linked s ≡ true → to.linked s ≡ true
  others_stay j u s ne e locks l = still s l (λ y. ne (one_holder k m vs h i j id u v d e there (subst (HasLock u) y locks) z.has_node))

  abbrev retires : Retires cut_step
  retires = record { node = splice.replaces.node; at = at; here = z.now.here; retired = z.retired; knows = z.knows }

  relinks : Relinks cut_step
  relinks = record {
    retires = retires;
    empties = c == 0;
    empty = eqb-true c 0;
    emptied = eq-eqb c 0;
    has_parent = z.has_parent;
    has_node = z.has_node;
    locks = z.locks;
  }

  -- the slot is retired
  swaps : (s : ℕ) → times s (slots_of w) + flag (to.linked s) ≡ times s (slots_of v) + flag (g.linked s)
  swaps s =
      let a = slots_become cut_step s in
      let more = retired_times cut_step retires s in
      let hand = ap (λ o. times s (held_list o)) (z.hand ∙ hand_noted cut_step known) in
      let spare = ap (λ o. times s (held_list o)) (z.spare ∙ spare_noted cut_step known) in
      linked_goes s (omega arith)
    where
      linked_goes : (s : ℕ) → times s (slots_of w) ≡ times s (slots_of v) + times s (d ∷ [])
          → times s (slots_of w) + flag (to.linked s) ≡ times s (slots_of v) + flag (g.linked s)
      linked_goes s e = ⊎_elim
          (λ (is : s ≡ d). (let off = ap flag (put-same g.linked d false s is) in let on = ap flag (ap g.linked is ∙ d_linked) in
          let x : times s (d ∷ []) ≡ 1 + 0 = subst (λ y. times y (d ∷ []) ≡ 1 + 0) (sym is) (times_here d []) in omega arith))
          (λ ne. (let q = ap flag (put-other g.linked d false s ne) in let x = times_other s d [] (λ f. ne (sym f)) in omega arith))
          (cases_eq s d)

  few_slots : HasFewSlots k.room v → HasFewSlots k.room w
  few_slots t = record {
    one = λ y. z.hand ∙ hand_noted cut_step known ∙ t.one (sym z.reserved ∙ y);
    few = (let l = ap length z.retired ∙ length-append v.hands.retired (gone ∷ []) in let room = z.room in omega arith);
    room = λ move is. absurd (let q : None ≡ Some move = sym z.moving ∙ is in cc);
    joined = subst (λ js. Each js (HasFewSpent k.room)) (sym z.same.places.joined) t.joined;
    next_spare = λ works none. record { retired = gone; has = gone_among cut_step retires; unraised = refl };
  }

  slots : SlotsGo cut_step
  slots = record {
    mine = z.has_parent;
    few = few_slots;
    swaps = swaps;
    hand = λ x is. sym (z.hand ∙ hand_noted cut_step known) ∙ is;
    spare = λ x is. sym (z.spare ∙ spare_noted cut_step known) ∙ is;
    copy = λ move is. absurd (let q : None ≡ Some move = sym z.moving ∙ is in cc);
    spares = λ s has. subst (λ ns. 1 ≤ times s ns) same_spares has;
    retired = retired_or_gone cut_step retires;
    still_retired = retired_grows cut_step retires;
    gone_retired = λ _. record { retired = gone; has = gone_in_retired cut_step retires; slot = refl };
  }
    where
      same_spares : spares_of w ≡ spares_of v
      same_spares = λ y. held_list ((z.spare ∙ spare_noted cut_step known) y)
          ++ (numbers_from (z.same.places.place y + 2) (z.same.places.places y - 1) ++ joined_spares (z.same.places.joined y))

  grace_after : GraceParts us hs
  grace_after =
      grace_unlinked v.allowance.place h hs z.plain vs id v w there z.same.section z.same.places z.moving z.reuse d at gone z.now z.retired
      refl refl i.grace

  moves_after : AreMoving new to hs us
  moves_after = moves_stored k m vs h i id v w there (Link p b) c p (link_stores m p b c) z.has_parent z.moving to hs z.plain (record {
    stays = others_stay;
    linked_back = λ s l. (was s l).0;
    old_same = λ s. refl;
    hangs = λ j u other ne e is. place_stays m new n g p b d c lower upper i.tree.shape splice other.old (not_child j u other ne e is);
    own_gone = λ move is l. (was move.old l).1 (z.own_move move is);
  })
    where
      -- the view of another move with the child as its old successor would have the lock of d
      not_child : (j : ℕ) (u : View) (other : Move) → j ≢ id → get_elem? vs j ≡ some u → u.moving ≡ Some other → other.old ≢ c
      not_child j u other ne e is same =
          let t = i.tree.moves.each j u e other is in
          let some_old : other.old ≢ 0 = λ f. let o = t.old_old in let root = i.tree.shape.root_new in cc (ap g.old f) in
          let child = child_below m new n g p b d c lower upper i.tree.shape splice (λ f. some_old (same ∙ f)) in
          ne (one_holder k m vs h i j id u v d e there
          (subst (HasLock u) (sym t.parent ∙ ap g.up same ∙ child.up) t.parent_lock) z.has_node)

  -- another view's move is pending still
  still_pending : (move : Move) → IsPending vs move → move.old ≢ d → IsPending us move
  still_pending move y ne = somewhere_still vs id v w there (λ (mine : v.moving ≡ Some move). absurd (ne (z.own_move move mine))) y

  reads : LinkReads cut_step
  reads = record {
    spare = λ j u section e inside s y l o.
        (let ne : s ≢ d = λ same. z.unpassed j u section e inside (subst (MayPass vs section.key section.entered) same y)
        (ap g.old (sym same) ∙ o) in (
          ne,
          may_by y (still_pending y.move y.pending (λ f. ne (sym y.old ∙ f))),
          o,
        ));
    other = λ j u section e inside s range some_slot.
        (let le : lower (g.low s) ≤ section.key = (let a = splice.falls (g.low s) in let q = range.low in omega arith) in
        in_range (range_stays cut_step section.key s (still s range.linked (λ f. splice.replaces.node (sym f ∙ some_slot f))) le range));
    old_for = λ x s even o. old_by o (still_pending o.move o.pending (λ f. not_even s even (sym o.old ∙ f)));
    side = λ x s a fits l even root empty below.
        (let ne = not_even s even in
        let le : lower (low_of m g s a) ≤ x = (let e = splice.falls (low_of m g s a) in let q = below.0 in omega arith) in
        inr (side_stays cut_step x s a l (still s l ne)
        (λ left. splice.key_stays s l ne (λ f. absurd (let q : Left ≡ Right = sym left ∙ root f in cc))) le below));
    link_back = link_back cut_step relinks;
    emptied = emptied_still cut_step relinks;
  }

  -- what each of the two steps says yet
  pub cut_kept : CountParts k.tickets new n to us hs → HoldsMap new to (map_now hs) → FrontParts new us hs → ListingParts new to us hs
      → IsKept k m h new us hs
  cut_kept counts map front listings =
      link_kept cut_step (record {
        slots = slots_after cut_step slots;
        locks = locks_after cut_step relinks;
        counts = counts;
        map = map;
        moves = moves_after;
        reads = reads;
        front = front;
        listings = listings;
        grace = grace_after;
      })

  -- The parts on counts after a slot was spliced out: a node by an update, or an old successor.
  module _ (kept : StoresCounted k m vs h i id v w there (Link p b) c p (link_stores m p b c) hs) where
    on : g.linked d ≡ true
    on = (at_node m (stored m (Link p b) c) n g p b d c lower upper i.tree.shape splice).linked

    small : d < n
    small = i.tree.shape.within d on

    off : to.linked d ≡ false
    off = put-same g.linked d false d refl

    others : (s : ℕ) → s ≢ d → to.linked s ≡ g.linked s
    others s ne = put-other g.linked d false s ne

    unraised_more : unraised_of w ≡ unraised_of v + 1
    unraised_more =
        let whole : unraised_of w ≡ unraised_hand (note_option p known v.hands.hand)
        + unraised_among ((v.hands.retired ++ gone ∷ []) ++ joined_retired v.allowance.joined) =
        (λ y. unraised_hand (z.hand y) + unraised_among (z.retired y ++ joined_retired (z.same.places.joined y))) in
        let a = note_option-unraised p known v.hands.hand in
        let e = unraised_append (v.hands.retired ++ gone ∷ []) (joined_retired v.allowance.joined) in
        let f = unraised_append v.hands.retired (gone ∷ []) in
        let q = unraised_append v.hands.retired (joined_retired v.allowance.joined) in
        omega arith

    emptied_more : emptied_among w.locks ≤ emptied_among v.locks + 1
    emptied_more = let e = ap emptied_among z.locks in
        let r = relocked_emptied p b d known (c == 0) v.locks ((i.locks.few id v there).once p) in omega arith

    -- the slot held a pair, which an update took away
    pub counts_without_node : g.old d ≡ false → v.moving ≡ None → 1 ≤ v.allowance.tickets → w.allowance.tickets ≡ v.allowance.tickets - 1
        → length (updates_of hs) ≡ length (updates_of h) + 1 → finite.len (map_of (updates_of hs)) ≡ finite.len (map_of (updates_of h)) - 1
        → CountParts k.tickets (words_after cut_step) n to (views_after cut_step) hs
    counts_without_node young settled ticket less longer fewer =
        counts_node_gone k m vs h i id v w there (Link p b) c p (link_stores m p b c) hs kept to
        (linked_less g to d n small splice.replaces.node on off others (λ s. refl))
        (young_less g to d n small splice.replaces.node on off others (λ s. refl) young)
        (old_same g to d n small splice.replaces.node on off others (λ s. refl) young)
        (ap has settled) ticket less unraised_more emptied_more longer fewer

    -- it was the old successor of the view's move
    pub counts_without_old : g.old d ≡ true → (move : Move) → v.moving ≡ Some move → w.allowance.tickets ≡ v.allowance.tickets
        → updates_of hs ≡ updates_of h → CountParts k.tickets (words_after cut_step) n to (views_after cut_step) hs
    counts_without_old old move moving tickets updates =
        counts_old_gone k m vs h i id v w there (Link p b) c p (link_stores m p b c) hs kept to
        (linked_less g to d n small splice.replaces.node on off others (λ s. refl))
        (young_same g to d n small splice.replaces.node on off others (λ s. refl) old)
        (old_less g to d n small splice.replaces.node on off others (λ s. refl) old)
        (ap has moving) tickets unraised_more emptied_more updates

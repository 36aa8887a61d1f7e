-- A copy link: what it needs of the words and the chart, the chart after it, and what becomes of readers. Nothing here knows of views.
use Rattle.std.proofs.Common.{◌≡◌, ◌≢◌, ℕ, ◌+◌, ◌<◌, true, false, zero, suc, ◌≤◌, Option, Some, None, refl, sym, ap, ◌∙◌, subst, arith, ◌⊎◌, inl, inr, ⊎_elim, ◌^◌}
use Rattle.prcu_marks.specs.declared.mark.Side.{Side}
use Rattle.prcu_marks.specs.declared.mark.Side.TheVariants.{Left, Right}
use Rattle.core_state.specs.declared.words.Field.TheVariants.{Key, Value, Link}
use Rattle.core_state.specs.Memory.{Memory, stored}
use Rattle.core_state.specs.Tree.{Chart, IsShaped, after, next, low_of, high_of, IsBelow, Hangs, IsKeyed, IsDisplaced, HoldsMap, IsInRange, HoldsPair, answer_at, Hops, Belongs, Spine, bottom, more, Place, in_range, at_old}
use Rattle.core_laws.proofs.ChartChanges.{put, moved, ChangesChart, hangs_right, not_root_left, map_after, put-same, put-other, moved_tells, moved-other, moved-same, in_after, spines, told_here, belongs_after}
use Rattle.std.proofs.lemmas.Bool.{cases_eq, cases_lt}
use Rattle.core_frames.proofs.TreeFrames.{pair_by}
use Rattle.core_frames.proofs.Charts.{after-node, next-left, next-here, one_end, high_within, key_bound, range_of_side, bool_cases, next_goes, above, ends, range_hop, stops}
use Rattle.core_laws.proofs.Cutting.{key_differs, after_differs, pair_else}
use Rattle.core_laws.proofs.Stores.{StoresLink, stores_link, hangs_at, same_after, after_stays, answer_stays}

-- A copy link: side b of slot p, which led to d, is to lead to c, which has d's links and the key and value of d's successor u. The
-- successor lies right of d and then left, and has no left.
pub record CopyLink : Type 0 where
  pub m : Memory
  pub n : ℕ
  pub g : Chart
  pub p : ℕ
  pub b : Side
  pub d : ℕ
  pub c : ℕ
  pub u : ℕ
  pub shape : IsShaped m n g
  pub parent : g.linked p ≡ true
  pub link : m (Link p b) ≡ d
  pub node : d ≢ 0
  pub young : g.old d ≡ false
  pub fresh : g.linked c ≡ false
  pub within : c < n
  pub some : c ≢ 0
  pub next_on : g.linked u ≡ true
  pub next_young : g.old u ≡ false
  pub next_low : g.low u ≡ m (Key d) + 1
  pub next_left : m (Link u Left) ≡ 0
  pub key : m (Key c) ≡ m (Key u)
  pub value : m (Value c) ≡ m (Value u)
  pub left : m (Link c Left) ≡ m (Link d Left)
  pub right : m (Link c Right) ≡ m (Link d Right)
  pub single : (s : ℕ) → g.linked s ≡ true → g.old s ≡ true → m (Key s) ≢ m (Key d)

abbrev pub copy_linked : Memory → Chart → ℕ → Side → ℕ → ℕ → ℕ → Chart
copy_linked m g p b d c u = record {
  linked = put (put g.linked d false) c true;
  old = put (put g.old c false) u true;
  low = put (λ s. moved (m (Key d) + 1) (m (Key u) + 1) (g.low s)) c (g.low d);
  high = put (λ s. moved (m (Key d)) (m (Key u)) (g.high s)) c (g.high d);
  rank = put g.rank c (g.rank d);
  up = put (λ s. moved d c (g.up s)) c p;
  side = put g.side c b;
}

-- the memory and the chart after it
abbrev pub after_copy : (k : CopyLink) → record { new : Memory; to : Chart }
after_copy k = record { new = stored k.m (Link k.p k.b) k.c; to = copy_linked k.m k.g k.p k.b k.d k.c k.u }

-- A copy link: the chart after it is a shape, and holds the map without the node's key.

module _ (k : CopyLink) where
  open k use {m, n, g, p, b, d, c, u, shape as h}
  open after_copy k use {new, to}

  pub at : IsBelow m g p b d
  at = h.below p d b k.parent k.link k.node

  pub keyed : IsKeyed m g d
  keyed = h.keyed d at.linked k.node k.young

  pub not_c : (s : ℕ) → g.linked s ≡ true → s ≢ c
  not_c s l e = let f = k.fresh in cc (ap g.linked e)

  pub was_linked : (s : ℕ) → to.linked s ≡ true → s ≢ c → (g.linked s ≡ true) × (s ≢ d)
  was_linked s l nc =
      let e = sym (put-other (put g.linked d false) c true s nc) ∙ l in
      ⊎_elim (λ (w : s ≡ d). absurd (let f = put-same g.linked d false s w in cc))
      (λ not. (sym (put-other g.linked d false s not) ∙ e, not)) (cases_eq s d)

  pub still_linked : (s : ℕ) → g.linked s ≡ true → s ≢ d → to.linked s ≡ true
  still_linked s l not = put-other (put g.linked d false) c true s (not_c s l) ∙ put-other g.linked d false s not ∙ l

  pub c_linked : to.linked c ≡ true
  c_linked = put-same (put g.linked d false) c true c refl

  -- what the chart says of a slot but the copy
  low_is : (s : ℕ) → s ≢ c → to.low s ≡ moved (m (Key d) + 1) (m (Key u) + 1) (g.low s)
  low_is s ne = put-other (λ y. moved (m (Key d) + 1) (m (Key u) + 1) (g.low y)) c (g.low d) s ne

  pub high_is : (s : ℕ) → s ≢ c → to.high s ≡ moved (m (Key d)) (m (Key u)) (g.high s)
  high_is s ne = put-other (λ y. moved (m (Key d)) (m (Key u)) (g.high y)) c (g.high d) s ne

  up_is : (s : ℕ) → s ≢ c → to.up s ≡ moved d c (g.up s)
  up_is s ne = put-other (λ y. moved d c (g.up y)) c p s ne

  rank_is : (s : ℕ) → s ≢ c → to.rank s ≡ g.rank s
  rank_is s ne = put-other g.rank c (g.rank d) s ne

  side_is : (s : ℕ) → s ≢ c → to.side s ≡ g.side s
  side_is s ne = put-other g.side c b s ne

  stores : StoresLink m new p b c
  stores = stores_link m p b c

  parent_not : p ≢ d
  parent_not e = omega (arith, at.rank, ap g.rank e)

  abbrev pub lower : ℕ → ℕ
  lower = moved (m (Key d) + 1) (m (Key u) + 1)

  abbrev pub upper : ℕ → ℕ
  upper = moved (m (Key d)) (m (Key u))

  after_kept : (s : ℕ) → g.linked s ≡ true → s ≢ d → lower (after m s) ≡ after m s
  after_kept s l not = moved-other (m (Key d) + 1) (m (Key u) + 1) (after m s)
      (after_differs m n g d h at.linked k.node k.young k.single s l not)

  pub key_stays : (s : ℕ) → g.linked s ≡ true → s ≢ d → s ≢ 0 → upper (m (Key s)) ≡ m (Key s)
  key_stays s l not ne = moved-other (m (Key d)) (m (Key u)) (m (Key s))
      (key_differs m n g d h at.linked k.node k.young k.single s l not ne)

  low_stays : moved (m (Key d) + 1) (m (Key u) + 1) (g.low d) ≡ g.low d
  low_stays = moved-other (m (Key d) + 1) (m (Key u) + 1) (g.low d) (λ e. omega (arith, e, keyed.low))

  high_stays : moved (m (Key d)) (m (Key u)) (g.high d) ≡ g.high d
  high_stays = moved-other (m (Key d)) (m (Key u)) (g.high d) (λ e. omega (arith, e, keyed.high))

  c_low : to.low c ≡ g.low d
  c_low = put-same (λ y. moved (m (Key d) + 1) (m (Key u) + 1) (g.low y)) c (g.low d) c refl

  c_high : to.high c ≡ g.high d
  c_high = put-same (λ y. moved (m (Key d)) (m (Key u)) (g.high y)) c (g.high d) c refl

  side_low : (a : Side) → low_of new to p a ≡ lower (low_of m g p a)
  side_low Left = low_is p (not_c p k.parent)
  side_low Right = same_after m new p refl ∙ sym (after_kept p k.parent parent_not)

  side_high : (a : Side) → (a ≡ Left → p ≢ 0) → high_of new to p a ≡ upper (high_of m g p a)
  side_high Left ne = sym (key_stays p k.parent parent_not (ne refl))
  side_high Right ne = high_is p (not_c p k.parent)

  copy_below : IsBelow new to p b c
  copy_below =
      record {
        linked = c_linked;
        up = put-same (λ y. moved d c (g.up y)) c p c refl;
        side = put-same g.side c b c refl;
        rank = omega (arith, at.rank, put-same g.rank c (g.rank d) c refl, rank_is p (not_c p k.parent));
        low = c_low ∙ sym (side_low b ∙ ap lower (sym at.low) ∙ low_stays);
        high = c_high ∙ sym (side_high b (not_root_left m n g p b h (λ z. k.node (sym k.link ∙ z))) ∙ ap upper (sym at.high) ∙ high_stays);
      }

  copy_links : (a : Side) → new (Link c a) ≡ m (Link d a)
  copy_links Left = stores.link c Left (λ e. absurd (not_c p k.parent (sym e))) ∙ k.left
  copy_links Right = stores.link c Right (λ e. absurd (not_c p k.parent (sym e))) ∙ k.right

  pub c_key : new (Key c) ≡ m (Key u)
  c_key = k.key

  below_low : (x : ℕ) (a : Side) → g.low x ≡ low_of m g d a → moved (m (Key d) + 1) (m (Key u) + 1) (g.low x) ≡ low_of new to c a
  below_low x Left e = ap (moved (m (Key d) + 1) (m (Key u) + 1)) e ∙ low_stays ∙ sym c_low
  below_low x Right e = omega (
    arith,
    e,
    after-node m d k.node,
    after-node new c k.some,
    c_key,
    moved_tells (m (Key d) + 1) (m (Key u) + 1) (g.low x),
  )

  below_high : (x : ℕ) (a : Side) → g.high x ≡ high_of m g d a → moved (m (Key d)) (m (Key u)) (g.high x) ≡ high_of new to c a
  below_high x Left e = omega (arith, e, c_key, moved_tells (m (Key d)) (m (Key u)) (g.high x))
  below_high x Right e = ap (moved (m (Key d)) (m (Key u))) e ∙ high_stays ∙ sym c_high

  below_copy : (x : ℕ) (a : Side) → new (Link c a) ≡ x → x ≢ 0 → IsBelow new to c a x
  below_copy x a e nz =
      let was = h.below d x a at.linked (sym (copy_links a) ∙ e) nz in
      let nc = not_c x was.linked in
      record {
        linked = still_linked x was.linked (λ y. omega (arith, was.rank, ap g.rank y));
        up = up_is x nc ∙ moved-same d c (g.up x) was.up;
        side = side_is x nc ∙ was.side;
        rank = omega (arith, was.rank, rank_is x nc, put-same g.rank c (g.rank d) c refl);
        low = low_is x nc ∙ below_low x a was.low;
        high = high_is x nc ∙ below_high x a was.high;
      }

  below_hangs : (x : ℕ) → x ≢ c → Hangs m g x → g.up x ≡ d → Hangs new to x
  below_hangs x nc was e = hangs_at new to x c (g.side x) (up_is x nc ∙ moved-same d c (g.up x) e) (side_is x nc) c_linked
      (copy_links (g.side x) ∙ ap (λ y. m (Link y (g.side x))) (sym e) ∙ was.link)

  -- the successor
  next_not_root : u ≢ 0
  next_not_root e = omega (arith, k.next_low, ap g.low e, h.root_low)

  pub next_keyed : IsKeyed m g u
  next_keyed = h.keyed u k.next_on next_not_root k.next_young

  pub next_not : u ≢ d
  next_not e = omega (arith, k.next_low, keyed.low, ap g.low e)

  -- a search for what lies between the keys ends at the successor
  pub ends_at_next : (x : ℕ) → m (Key d) < x → x ≤ m (Key u) → IsInRange g x u × (next m x u ≡ 0)
  ends_at_next x lo hi = (
    record { linked = k.next_on; low = omega (arith, k.next_low); high = omega (arith, next_keyed.high) },
    stops (cases_eq x (m (Key u))),
  )
    where
      stops : (x ≡ m (Key u)) ⊎ (x ≢ m (Key u)) → next m x u ≡ 0
      stops (inl e) = next-here m x u next_not_root (sym e)
      stops (inr ne) = next-left m x u next_not_root (omega arith) ∙ k.next_left

  -- no key lies between the two
  pub none_between : (s : ℕ) → g.linked s ≡ true → s ≢ 0 → g.old s ≡ false → m (Key d) < m (Key s) → m (Key s) ≤ m (Key u) → s ≡ u
  none_between s l ne o lo hi =
      let i = h.keyed s l ne o in
      let w = ends_at_next (m (Key s)) lo hi in
      one_end m n g (m (Key s)) s u h (key_bound m n g s h l ne o) (record { linked = l; low = i.low; high = i.high })
      (next-here m (m (Key s)) s ne refl) w.0 w.1

  -- what begins above d's key lies below d's right
  ends_below : (fuel s : ℕ) → g.rank s < fuel → g.linked s ≡ true → g.low s ≡ m (Key d) + 1 → g.high s ≤ g.high d
  ends_below zero s lt l e = absurd (omega arith)
  ends_below (suc fuel) s lt l e =
      let nz : s ≢ 0 = λ z. omega (arith, e, ap g.low z, h.root_low) in
      let a = h.hangs s l nz in
      let w = h.below (g.up s) s (g.side s) a.above a.link nz in
      up_one (g.up s) s (g.side s) a.above (λ z. nz (sym a.link ∙ z)) w e (λ v. ends_below fuel (g.up s) (omega (arith, w.rank)) a.above v)
    where
      up_one : (q s : ℕ) (a : Side) → g.linked q ≡ true → m (Link q a) ≢ 0 → IsBelow m g q a s → g.low s ≡ m (Key d) + 1
          → (g.low q ≡ m (Key d) + 1 → g.high q ≤ g.high d) → g.high s ≤ g.high d
      up_one q s Left l ne w e ih = omega (arith, w.high, high_within m n g q Left h l ne, ih (sym w.low ∙ e))
      up_one q s Right l ne w e ih = ⊎_elim (λ (z : q ≡ d). omega (arith, w.high, ap g.high z))
          (λ z. absurd (after_differs m n g d h at.linked k.node k.young k.single q l z (sym w.low ∙ e))) (cases_eq q d)

  pub was_old : (s : ℕ) → g.linked s ≡ true → s ≢ u → to.old s ≡ g.old s
  was_old s l ne = put-other (put g.old c false) u true s ne ∙ put-other g.old c false s (not_c s l)

  pub c_young : to.old c ≡ false
  c_young = put-other (put g.old c false) u true c (λ e. not_c u k.next_on (sym e)) ∙ put-same g.old c false c refl

  copy_keyed : IsKeyed new to c
  copy_keyed = record {
    low = omega (arith, c_low, c_key, keyed.low, k.next_low, next_keyed.low);
    high = omega (arith, c_high, c_key, next_keyed.high, ends_below (suc (g.rank u)) u (omega arith) k.next_on k.next_low);
  }

  next_is_old : (s : ℕ) → to.old s ≡ false → s ≢ u
  next_is_old s o e = let f = put-same (put g.old c false) u true s e in cc

  was_young : (s : ℕ) → g.linked s ≡ true → to.old s ≡ false → g.old s ≡ false
  was_young s l o = sym (was_old s l (next_is_old s o)) ∙ o

  -- a slot that keeps its pair has no key between the two
  low_keyed : (s : ℕ) → g.linked s ≡ true → s ≢ 0 → to.old s ≡ false → lower (g.low s) ≤ m (Key s)
  low_keyed s l ne o = go (cases_eq (g.low s) (m (Key d) + 1))
    where
      was : IsKeyed m g s
      was = h.keyed s l ne (was_young s l o)

      between : m (Key d) < m (Key s) → m (Key s) ≤ m (Key u) → ⊥
      between x y = next_is_old s o (none_between s l ne (was_young s l o) x y)

      go : (g.low s ≡ m (Key d) + 1) ⊎ (g.low s ≢ m (Key d) + 1) → lower (g.low s) ≤ m (Key s)
      go (inl i) = omega (arith, was.low, between, moved_tells (m (Key d) + 1) (m (Key u) + 1) (g.low s))
      go (inr i) = omega (arith, was.low, moved_tells (m (Key d) + 1) (m (Key u) + 1) (g.low s))

  -- the successor is an old one from now on
  next_displaced : IsDisplaced new to u
  next_displaced =
      let nc = not_c u k.next_on in
      record {
        low = omega (arith, low_is u nc, k.next_low, moved_tells (m (Key d) + 1) (m (Key u) + 1) (g.low u));
        high = omega (
          arith,
          low_is u nc,
          high_is u nc,
          k.next_low,
          next_keyed.low,
          next_keyed.high,
          moved_tells (m (Key d) + 1) (m (Key u) + 1) (g.low u),
          moved_tells (m (Key d)) (m (Key u)) (g.high u),
        );
        left = stores.link u Left (λ i j. k.node (sym k.link ∙ ap (λ (y : Side). m (Link p y)) (sym j) ∙ ap (λ y. m (Link y Left)) (sym i)
            ∙ k.next_left)) ∙ k.next_left;
      }

  newly_old : (s : ℕ) → g.linked s ≡ true → g.old s ≡ false → to.old s ≡ true → IsDisplaced new to s
  newly_old s l young o = ⊎_elim (λ (e : s ≡ u). subst (IsDisplaced new to) (sym e) next_displaced)
      (λ ne. absurd (let f = was_old s l ne in cc)) (cases_eq s u)

  pub changes : ChangesChart m new n g to p b d c lower upper
  changes = record {
    stores = stores;
    parent = k.parent;
    link = k.link;
    right_alone = hangs_right m n g p b h k.parent (λ z. k.node (sym k.link ∙ z));
    goes = λ _. put-other (put g.linked d false) c true d (not_c d at.linked) ∙ put-same g.linked d false d refl;
    stays = λ s l some_slot. still_linked s l (λ e. k.node (sym e ∙ some_slot e));
    comes = λ s t off. ⊎_elim (λ (e : s ≡ c). e) (λ nc. absurd (let l = (was_linked s t nc).0 in cc)) (cases_eq s c);
    rank = λ s on. rank_is s (λ e. (let l = on e in let f = k.fresh in cc));
    place = λ s l up nz. (let nc = not_c s l in (
      up_is s nc ∙ moved-other d c (g.up s) (λ e. up_not (g.up s) l up e (h.hangs s l nz).above),
      side_is s nc,
    ));
    low = λ s l. low_is s (not_c s l);
    high = λ s l. high_is s (not_c s l);
    after_stays = λ s l t. after_kept s l (was_linked s t (not_c s l)).1;
    key_stays = λ s l t. key_stays s l (was_linked s t (not_c s l)).1;
    first = moved-other (m (Key d) + 1) (m (Key u) + 1) 0 (λ e. omega (arith, e));
    last = moved-other (m (Key d)) (m (Key u)) 18446744073709551616 (λ e. omega (arith, e, key_bound m n g d h at.linked k.node k.young));
    grows = λ x. omega (arith, keyed.low, next_keyed.low, k.next_low, moved_tells (m (Key d)) (m (Key u)) x);
    keyed = λ s l _. low_keyed s l;
    root_young = was_old 0 h.root (λ e. next_not_root (sym e)) ∙ h.root_new;
    was_young = was_young;
    newly_old = newly_old;
    child = λ _. copy_below;
    over = λ y e nz. inr (record {
      some_slot = k.some;
      linked = c_linked;
      above = omega (arith, c_key, k.next_low, next_keyed.low);
      left = copy_links Left ∙ e;
    });
    adopted = λ x l nz _ up. below_hangs x (not_c x l) (h.hangs x l nz) up;
    fresh = λ _. record { young = c_young; within = k.within; keyed = copy_keyed; below = below_copy };
  }
    where
      up_not : (q : ℕ) {s : ℕ} → g.linked s ≡ true → to.linked q ≡ true → q ≡ d → g.linked q ≡ true → ⊥
      up_not q l up e on = (was_linked q up (not_c q on)).1 e

  pub copy_map : (map : ℕ → Option ℕ) → HoldsMap m g map → HoldsMap new to (put map (m (Key d)) None)
  copy_map map q =
      map_after m new n g to p b d c lower upper h changes map (put map (m (Key d)) None) q
      (λ s l t ne o. put-other map (m (Key d)) None (m (Key s))
      (key_differs m n g d h at.linked k.node k.young k.single s l (was_linked s t (not_c s l)).1 ne))
      (λ _. ap (put map (m (Key d)) None) k.key ∙ put-other map (m (Key d)) None (m (Key u))
      (λ e. omega (arith, e, k.next_low, next_keyed.low)) ∙ q.sound u k.next_on next_not_root k.next_young ∙ ap Some (sym k.value))
      complete
    where
      complete : (x v : ℕ) → put map (m (Key d)) None x ≡ Some v → HoldsPair m to x v
      complete x v e =
          let a = pair_else m n g d h at.linked k.node k.young k.single map q x v e in
          let w = a.0 in
          ⊎_elim
          (λ (i : w.slot ≡ u). record {
            slot = c;
            linked = c_linked;
            some_slot = k.some;
            young = c_young;
            key = k.key ∙ ap (λ y. m (Key y)) (sym i) ∙ w.key;
            value = k.value ∙ ap (λ y. m (Value y)) (sym i) ∙ w.value;
          })
          (λ i. pair_by w (still_linked w.slot w.linked a.1) (was_old w.slot w.linked i ∙ w.young) refl refl)
          (cases_eq w.slot u)

  -- a bound passes nothing, but for what lies between the two keys
  pub low_in : (x low : ℕ) → (m (Key d) < x → x ≤ m (Key u) → low ≢ m (Key d) + 1) → low ≤ x → lower low ≤ x
  low_in x low out le = ⊎_elim
      (λ (e : low ≡ m (Key d) + 1). ⊎_elim (λ (lt : m (Key u) < x). omega (arith, moved_tells (m (Key d) + 1) (m (Key u) + 1) low))
      (λ le'. absurd (out (omega (arith, e, le)) le' e)) (cases_lt (m (Key u)) x))
      (λ ne. omega (arith, le, moved_tells (m (Key d) + 1) (m (Key u) + 1) low))
      (cases_eq low (m (Key d) + 1))

-- Readers and recorded sides at a copy link: who searches for a key between the node's and the successor's will pass the successor.

module _ (k : CopyLink) where
  open k use {m, n, g, p, b, d, c, u, shape as h}
  open after_copy k use {new, to}

  -- a search for what lies between the keys goes left until it is at the successor
  next_low : (x s y : ℕ) → m (Key d) < x → x ≤ m (Key u) → IsInRange g x s → g.low s ≡ m (Key d) + 1 → next m x s ≡ y → y ≢ 0
      → (x < m (Key s)) × (m (Link s Left) ≡ y) × (g.low y ≡ m (Key d) + 1)
  next_low x s y lo hi i e f ne = let w = next_goes m g x s y i f ne in side w.side w.link w.low w.high
    where
      nz : s ≢ 0
      nz z = omega (arith, e, ap g.low z, h.root_low)

      right : m (Key s) < x → (g.old s ≡ true) ⊎ (g.old s ≡ false) → ⊥
      right gt (inl o) = k.single s i.linked o (omega (arith, e, (h.displaced s i.linked o).low))
      right gt (inr o) = let w = none_between k s i.linked nz o (omega (arith, e, (h.keyed s i.linked nz o).low)) (omega arith) in
          omega (arith, gt, hi, ap (λ v. m (Key v)) w)

      side : (a : Side) → m (Link s a) ≡ y → low_of m g s a ≤ x → x < high_of m g s a
          → (x < m (Key s)) × (m (Link s Left) ≡ y) × (g.low y ≡ m (Key d) + 1)
      side Left v l r = (r, v, (h.below s y Left i.linked v ne).low ∙ e)
      side Right v l r = absurd (right (omega (arith, l, after-node m s nz)) (bool_cases (g.old s)))

  spine_of_hops : (x : ℕ) → m (Key d) < x → x ≤ m (Key u) → (hops s : ℕ) → IsInRange g x s → g.low s ≡ m (Key d) + 1 → Hops m x hops s u
      → Spine m g x u s
  spine_of_hops x lo hi zero s i e w = bottom w k.next_on
  spine_of_hops x lo hi (suc hops) s i e w =
      let v = next_low x s (next m x s) lo hi i e refl w.0 in
      more i.linked v.0 v.1 w.0 (spine_of_hops x lo hi hops (next m x s) (range_hop m n g x s (next m x s) h i refl w.0).0 v.2 w.1)

  -- who stands below the node's right with such a key will pass the successor
  pub passes : (x s : ℕ) → x < 2 ^ 64 → m (Key d) < x → x ≤ m (Key u) → IsInRange g x s → g.low s ≡ m (Key d) + 1 → Spine m g x u s
  passes x s bound lo hi i e =
      let r = ends m x n g.rank (IsInRange g x) (λ y v. h.within y v.linked) (λ y v ne. range_hop m n g x y (next m x y) h v refl ne)
      (suc (above g.rank (g.rank s) n)) s (omega arith) i in
      let w = ends_at_next k x lo hi in
      spine_of_hops x lo hi r.hops s i e (subst (Hops m x r.hops s) (one_end m n g x r.slot u h bound r.met r.last w.0 w.1) r.way)

  -- the successor is old from now on
  now_old : to.old u ≡ true
  now_old = put-same (put g.old c false) u true u refl

  -- Who stands at another slot than the node: x is in its range still; or x lies between the two keys, and the search will pass the
  -- successor.
  pub other_place : (map : ℕ → Option ℕ) → HoldsMap m g map → (x : ℕ) → x < 2 ^ 64
      → (later due : ℕ → Type 0) (told more_told : Option ℕ → Type 0)
      → (m (Key d) < x → x ≤ m (Key u) → due u) → ((o : Option ℕ) → told o → more_told o) → told (map x)
      → (s : ℕ) → IsInRange g x s → s ≢ d → Place new to x later due more_told s
  other_place map q x bound later due told more_told mine keep now s i ne =
      cases (cases_lt (m (Key d)) x) (cases_lt (m (Key u)) x) (cases_eq (g.low s) (m (Key d) + 1))
    where
      stays : (m (Key d) < x → x ≤ m (Key u) → g.low s ≢ m (Key d) + 1) → Place new to x later due more_told s
      stays out = in_range (in_after m new n g to p b d c (lower k) (upper k) h (changes k) x s (still_linked k s i.linked ne)
          (low_in k x (g.low s) out i.low) i)

      between : m (Key d) < x → x ≤ m (Key u) → g.low s ≡ m (Key d) + 1 → Place new to x later due more_told s
      between lo hi e =
          let w = ends_at_next k x lo hi in
          at_old (mine lo hi) now_old hi (keep (answer_at new x u)
          (subst told (sym (answer_stays m p b c x u))
          (told_here m new n g to p b d c (lower k) (upper k) h (changes k) map x u told q bound now w.0 w.1)))
          ((spines m new n g to p b d c (lower k) (upper k) h (changes k) x u (next_not k) s (passes x s bound lo hi i e)).other ne)

      cases : (m (Key d) < x) ⊎ (x ≤ m (Key d)) → (m (Key u) < x) ⊎ (x ≤ m (Key u)) → (g.low s ≡ m (Key d) + 1) ⊎ (g.low s ≢ m (Key d) + 1)
          → Place new to x later due more_told s
      cases (inr a) f w = stays (λ lo hi. absurd (omega arith))
      cases (inl a) (inl f) w = stays (λ lo hi. absurd (omega arith))
      cases (inl a) (inr f) (inr w) = stays (λ lo hi. w)
      cases (inl a) (inr f) (inl w) = between a f w

  -- what belongs below an empty side of a slot that stays does so still, but for the left of the successor
  pub empty_side : (x s : ℕ) (a : Side) → g.linked s ≡ true → s ≢ d → s ≢ u → (s ≡ 0 → a ≡ Right) → x < 2 ^ 64 → m (Link s a) ≡ 0
      → Belongs m g x s a → Belongs new to x s a
  empty_side x s a l not nu root bound e w =
      belongs_after m new n g to p b d c (lower k) (upper k) h (changes k) x s a l (still_linked k s l not)
      (λ left. key_stays k s l not (λ z. (let f = root z in absurd (let q : Left ≡ Right = sym left ∙ f in cc))))
      (low_in k x (low_of m g s a) (λ lo hi _. (let v = ends_at_next k x lo hi in
      nu (one_end m n g x s u h bound (range_of_side m n g x s a h l root w) (stops m n g x s a h l root e w) v.0 v.1))) w.0) w

  -- right of the successor too; left of it stand the keys between the two
  pub right_of_next : (x : ℕ) → Belongs m g x u Right → Belongs new to x u Right
  right_of_next x w =
      let i = next_keyed k in (
        omega (arith, w.0, after_stays m p b c u),
        omega
            (arith, w.1, i.low, i.high, k.next_low, high_is k u (not_c k u k.next_on), moved_tells (m (Key d)) (m (Key u)) (g.high u)),
      )

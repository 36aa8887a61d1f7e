-- A step that stores one link and changes the chart at few slots: that the chart after it is a shape and holds its map, and what becomes of
-- readers, walks and sides. Nothing here knows of views.
use Rattle.std.proofs.Common.{◌≡◌, ◌≢◌, ℕ, ◌==◌, if◌then◌else◌, arith, ◌⊎◌, inl, inr, ⊎_elim, ◌+◌, ◌<◌, ◌≤◌, ◌^◌, true, false, refl, sym, ap, ◌∙◌, subst}
use Rattle.std.proofs.lemmas.Bool.Decides.{nat_tests}
use Rattle.std.proofs.lemmas.Bool.{cases_eq}
use Rattle.std.specs.Prelude.{Option, Some}
use Rattle.prcu_marks.specs.declared.mark.Side.{Side}
use Rattle.prcu_marks.specs.declared.mark.Side.TheVariants.{Left, Right}
use Rattle.core_state.specs.declared.words.Field.TheVariants.{Key, Value, Link}
use Rattle.core_state.specs.Memory.{Memory}
use Rattle.core_state.specs.Tree.{after, Chart, low_of, high_of, IsBelow, Hangs, IsKeyed, IsDisplaced, IsShaped, HoldsMap, IsInRange, HoldsPair, next, answer_at, OnRightLeft, first, further, Belongs, Spine, bottom, more, Place, at_old, at_end, on, Walks, at_linked, at_stop, at_live}
use Rattle.core_frames.proofs.TreeFrames.{pair_by}
use Rattle.core_frames.proofs.Charts.{bool_cases, after-node, one_link, next-left, ended_is, range_hop, carry, end_linked}
use Rattle.core_laws.proofs.Stores.{StoresLink, cases_side, same_after, hangs_at, store_next, same_answer}

-- A function changed at one number, and a bound that is renamed.

-- f, but v at i
unfoldable pub put : {A : Type 0} → (ℕ → A) → ℕ → A → ℕ → A
put f i v s = if s == i then v else f s

-- v, but where it is a then b
unfoldable pub moved : ℕ → ℕ → ℕ → ℕ
moved a b v = if v == a then b else v

pub put-same : {A : Type 0} (f : ℕ → A) (i : ℕ) (v : A) (s : ℕ) → s ≡ i → put f i v s ≡ v
unfolding put
put-same f i v s e = grind (arith, nat_tests)

pub put-other : {A : Type 0} (f : ℕ → A) (i : ℕ) (v : A) (s : ℕ) → s ≢ i → put f i v s ≡ f s
unfolding put
put-other f i v s e = grind (arith, nat_tests)

pub moved_tells : (a b v : ℕ) → ((v ≡ a) × (moved a b v ≡ b)) ⊎ ((v ≢ a) × (moved a b v ≡ v))
unfolding moved
moved_tells a b v = ⊎_elim (λ (e : v ≡ a). inl (e, grind (arith, nat_tests))) (λ ne. inr (ne, grind (arith, nat_tests))) (cases_eq v a)

pub moved-other : (a b v : ℕ) → v ≢ a → moved a b v ≡ v
moved-other a b v ne = omega (arith, moved_tells a b v)

pub moved-same : (a b v : ℕ) → v ≡ a → moved a b v ≡ b
moved-same a b v e = omega (arith, moved_tells a b v)

-- One link is stored, and the chart changes at few slots: what a step has to give of these, and that the chart after it is a shape
-- and holds its map. The leaf link, the bypass, the unlinking of an old successor and the copy link are such steps.

-- what is given of a slot that is linked from now on
pub record IsFresh (new : Memory) (n : ℕ) (to : Chart) (c : ℕ) : Type 0 where
  pub young : to.old c ≡ false
  pub within : c < n
  pub keyed : IsKeyed new to c
  pub below : (x : ℕ) (a : Side) → new (Link c a) ≡ x → x ≢ 0 → IsBelow new to c a x

-- c stands above d's key, and its left leads to y
pub record LeadsLeft (m new : Memory) (to : Chart) (d c y : ℕ) : Type 0 where
  pub some_slot : c ≢ 0
  pub linked : to.linked c ≡ true
  pub above : m (Key d) ≤ m (Key c)
  pub left : new (Link c Left) ≡ y

-- Side b of slot p led to d, or nowhere, and leads to c from now on, or nowhere. Only d may be linked no more, and only c may be linked
-- that wasn't. Each slot's range is what it was, with its bounds renamed: the lower ones by `lower` and the upper ones by `upper`.
pub record ChangesChart (m new : Memory) (n : ℕ) (g to : Chart) (p : ℕ) (b : Side) (d c : ℕ) (lower upper : ℕ → ℕ) : Type 0 where
  pub stores : StoresLink m new p b c
  pub parent : g.linked p ≡ true
  pub link : m (Link p b) ≡ d
  pub right_alone : (p ≡ 0) ⊎ (g.old p ≡ true) → b ≡ Right
  pub goes : d ≢ 0 → to.linked d ≡ false
  pub stays : (s : ℕ) → g.linked s ≡ true → (s ≡ d → s ≡ 0) → to.linked s ≡ true
  pub comes : (s : ℕ) → to.linked s ≡ true → g.linked s ≡ false → s ≡ c
  pub rank : (s : ℕ) → (s ≡ c → g.linked c ≡ true) → to.rank s ≡ g.rank s
  pub place : (s : ℕ) → g.linked s ≡ true → to.linked (g.up s) ≡ true → s ≢ 0 → (to.up s ≡ g.up s) × (to.side s ≡ g.side s)
  pub low : (s : ℕ) → g.linked s ≡ true → to.low s ≡ lower (g.low s)
  pub high : (s : ℕ) → g.linked s ≡ true → to.high s ≡ upper (g.high s)
  pub after_stays : (s : ℕ) → g.linked s ≡ true → to.linked s ≡ true → lower (after m s) ≡ after m s
  pub key_stays : (s : ℕ) → g.linked s ≡ true → to.linked s ≡ true → s ≢ 0 → upper (m (Key s)) ≡ m (Key s)
  pub first : lower 0 ≡ 0
  pub last : upper (2 ^ 64) ≡ 2 ^ 64
  pub grows : (x : ℕ) → x ≤ upper x
  pub keyed : (s : ℕ) → g.linked s ≡ true → to.linked s ≡ true → s ≢ 0 → to.old s ≡ false → lower (g.low s) ≤ m (Key s)
  pub root_young : to.old 0 ≡ false
  pub was_young : (s : ℕ) → g.linked s ≡ true → to.old s ≡ false → g.old s ≡ false
  pub newly_old : (s : ℕ) → g.linked s ≡ true → g.old s ≡ false → to.old s ≡ true → IsDisplaced new to s
  pub child : c ≢ 0 → IsBelow new to p b c
  -- a slot left of d is c, or left of c from now on
  pub over : (y : ℕ) → m (Link d Left) ≡ y → y ≢ 0 → (y ≡ c) ⊎ LeadsLeft m new to d c y
  pub adopted : (x : ℕ) → g.linked x ≡ true → x ≢ 0 → d ≢ 0 → g.up x ≡ d → Hangs new to x
  pub fresh : g.linked c ≡ false → IsFresh new n to c

left_not_right : Left ≡ Right → ⊥
left_not_right e = cc

pub not_root_left : (m : Memory) (n : ℕ) (g : Chart) (s : ℕ) (a : Side) → IsShaped m n g → m (Link s a) ≢ 0 → a ≡ Left → s ≢ 0
not_root_left m n g s a h ne w z = ne (ap (λ y. m (Link y a)) z ∙ ap (λ y. m (Link 0 y)) w ∙ h.root_left)

-- a slot hangs only right of the root and of old successors
pub hangs_right : (m : Memory) (n : ℕ) (g : Chart) (p : ℕ) (b : Side) → IsShaped m n g → g.linked p ≡ true → m (Link p b) ≢ 0
    → (p ≡ 0) ⊎ (g.old p ≡ true) → b ≡ Right
hangs_right m n g p Right h l ne which = refl
hangs_right m n g p Left h l ne (inl z) = absurd (not_root_left m n g p Left h ne refl z)
hangs_right m n g p Left h l ne (inr o) = absurd (ne (h.displaced p l o).left)

module _ (m new : Memory) (n : ℕ) (g to : Chart) (p : ℕ) (b : Side) (d c : ℕ) (lower upper : ℕ → ℕ) (h : IsShaped m n g)
    (k : ChangesChart m new n g to p b d c lower upper) where
  parent_stays : to.linked p ≡ true
  parent_stays = k.stays p k.parent (λ e. ⊎_elim (λ (z : d ≡ 0). e ∙ z)
      (λ nz. absurd (let below = h.below p d b k.parent k.link nz in omega (arith, below.rank, ap g.rank e))) (cases_eq d 0))

  -- the bounds of what lies below a side of a slot that stays
  pub low_after : (s : ℕ) (a : Side) → g.linked s ≡ true → to.linked s ≡ true → low_of new to s a ≡ lower (low_of m g s a)
  low_after s Left l t = k.low s l
  low_after s Right l t = same_after m new s (k.stores.key s) ∙ sym (k.after_stays s l t)

  pub high_after : (s : ℕ) (a : Side) → g.linked s ≡ true → to.linked s ≡ true → (a ≡ Left → upper (m (Key s)) ≡ m (Key s))
      → high_of new to s a ≡ upper (high_of m g s a)
  high_after s Left l t key = k.stores.key s ∙ sym (key refl)
  high_after s Right l t key = k.high s l

  pub same_rank : (s : ℕ) → g.linked s ≡ true → to.rank s ≡ g.rank s
  same_rank s l = k.rank s (λ e. ap g.linked (sym e) ∙ l)

  -- a link that isn't stored
  other_below : (s x : ℕ) (a : Side) → g.linked s ≡ true → to.linked s ≡ true → (s ≡ p → a ≢ b) → new (Link s a) ≡ x → x ≢ 0
      → IsBelow new to s a x
  other_below s x a l t ne e nz =
      let f : m (Link s a) ≡ x = sym (k.stores.link s a ne) ∙ e in
      let was = h.below s x a l f nz in
      let place = k.place x was.linked (ap to.linked was.up ∙ t) nz in
      record {
        linked = k.stays x was.linked (λ y. absurd (let w = one_link m n g s p d a b h l k.parent (f ∙ y) k.link (λ z. nz (y ∙ z)) in
            ne w.0 w.1));
        up = place.0 ∙ was.up;
        side = place.1 ∙ was.side;
        rank = omega (arith, was.rank, same_rank s l, same_rank x was.linked);
        low = k.low x was.linked ∙ ap lower was.low ∙ sym (low_after s a l t);
        high = k.high x was.linked ∙ ap upper was.high
            ∙ sym (high_after s a l t (λ left. k.key_stays s l t (not_root_left m n g s a h (λ z. nz (sym f ∙ z)) left)));
      }

  at_parent : (s x : ℕ) (a : Side) → g.linked s ≡ true → to.linked s ≡ true → s ≡ p → (a ≡ b) ⊎ (a ≢ b) → new (Link s a) ≡ x → x ≢ 0
      → IsBelow new to s a x
  at_parent s x a l t w (inl v) e nz =
      let is_c : c ≡ x = sym k.stores.here ∙ ap (λ (y : Side). new (Link p y)) (sym v) ∙ ap (λ y. new (Link y a)) (sym w) ∙ e in
      subst (λ y. IsBelow new to y a x) (sym w) (subst (λ y. IsBelow new to p y x) (sym v)
      (subst (IsBelow new to p b) is_c (k.child (λ z. nz (sym is_c ∙ z)))))
  at_parent s x a l t w (inr v) e nz = other_below s x a l t (λ y. v) e nz

  below_after : (s x : ℕ) (a : Side) → to.linked s ≡ true → new (Link s a) ≡ x → x ≢ 0 → IsBelow new to s a x
  below_after s x a t e nz = ⊎_elim
      (λ (l : g.linked s ≡ true). ⊎_elim (λ (v : s ≡ p). at_parent s x a l t v (cases_side a b) e nz)
      (λ v. other_below s x a l t (λ y. absurd (v y)) e nz) (cases_eq s p))
      (λ off. let is = k.comes s t off in subst (λ y. IsBelow new to y a x) (sym is)
      ((k.fresh (ap g.linked (sym is) ∙ off)).below x a (ap (λ y. new (Link y a)) (sym is) ∙ e) nz))
      (bool_cases (g.linked s))

  hangs_after : (x : ℕ) → to.linked x ≡ true → x ≢ 0 → Hangs new to x
  hangs_after x t nz = ⊎_elim
      (λ (l : g.linked x ≡ true). other_hangs l (h.hangs x l nz) (bool_cases (to.linked (g.up x))) (cases_eq (g.up x) d))
      (λ off. let is = k.comes x t off in let w = k.child (λ z. nz (is ∙ z)) in
      subst (Hangs new to) (sym is) (hangs_at new to c p b w.up w.side parent_stays k.stores.here))
      (bool_cases (g.linked x))
    where
      gone_not_x : x ≡ d → ⊥
      gone_not_x e = let f = k.goes (λ z. nz (e ∙ z)) in cc (ap to.linked e)

      other_hangs : g.linked x ≡ true → Hangs m g x → (to.linked (g.up x) ≡ true) ⊎ (to.linked (g.up x) ≡ false)
          → (g.up x ≡ d) ⊎ (g.up x ≢ d) → Hangs new to x
      other_hangs l was (inl above) which =
          let place = k.place x l above nz in
          hangs_at new to x (g.up x) (g.side x) place.0 place.1 above
          (k.stores.link (g.up x) (g.side x) (λ i j. gone_not_x
          (sym was.link ∙ ap (λ y. m (Link y (g.side x))) i ∙ ap (λ (y : Side). m (Link p y)) j ∙ k.link)) ∙ was.link)
      other_hangs l was (inr off) (inl e) = k.adopted x l nz
          (λ z. absurd (let root = k.stays 0 h.root (λ _. refl) in cc (ap to.linked (e ∙ z)))) e
      other_hangs l was (inr off) (inr ne) = absurd (let above = k.stays (g.up x) was.above (λ e. absurd (ne e)) in cc)

  keyed_after : (s : ℕ) → to.linked s ≡ true → s ≢ 0 → to.old s ≡ false → IsKeyed new to s
  keyed_after s t ne o = ⊎_elim
      (λ (l : g.linked s ≡ true).
      (let was = h.keyed s l ne (k.was_young s l o) in
      let e = k.stores.key s in
      record { low = omega (arith, e, k.low s l, k.keyed s l t ne o); high = omega (arith, e, was.high, k.high s l, k.grows (g.high s)) }))
      (λ off. let is = k.comes s t off in subst (IsKeyed new to) (sym is) (k.fresh (ap g.linked (sym is) ∙ off)).keyed)
      (bool_cases (g.linked s))

  displaced_after : (s : ℕ) → to.linked s ≡ true → to.old s ≡ true → IsDisplaced new to s
  displaced_after s t o = ⊎_elim
      (λ (l : g.linked s ≡ true). ⊎_elim (still_old l) (λ young. k.newly_old s l young o) (bool_cases (g.old s)))
      (λ off. absurd (let is = k.comes s t off in let young = (k.fresh (ap g.linked (sym is) ∙ off)).young in cc (ap to.old is)))
      (bool_cases (g.linked s))
    where
      still_old : g.linked s ≡ true → g.old s ≡ true → IsDisplaced new to s
      still_old l old =
          let was = h.displaced s l old in
          let e = k.stores.key s in
          let nz : s ≢ 0 = λ z. let root = h.root_new in cc (ap g.old z) in
          let low : to.low s ≡ m (Key s) + 1 = k.low s l ∙ ap lower (was.low ∙ sym (after-node m s nz)) ∙ k.after_stays s l t
          ∙ after-node m s nz in
          record {
            low = omega (arith, low, e);
            high = omega (arith, low, was.low, was.high, k.high s l, k.grows (g.high s));
            left = k.stores.link s Left (λ w x. left_not_right (x ∙ k.right_alone (inr (ap g.old (sym w) ∙ old)))) ∙ was.left;
          }

  pub shape_after : IsShaped new n to
  shape_after = record {
    root = k.stays 0 h.root (λ _. refl);
    root_left = k.stores.link 0 Left (λ w x. left_not_right (x ∙ k.right_alone (inl (sym w)))) ∙ h.root_left;
    root_low = k.low 0 h.root ∙ ap lower h.root_low ∙ k.first;
    root_high = k.high 0 h.root ∙ ap upper h.root_high ∙ k.last;
    root_new = k.root_young;
    below = λ s x a t e ne. below_after s x a t e ne;
    hangs = hangs_after;
    keyed = keyed_after;
    displaced = displaced_after;
    within = λ s t. ⊎_elim (λ (l : g.linked s ≡ true). h.within s l)
        (λ off. let is = k.comes s t off in omega (arith, is, (k.fresh (ap g.linked (sym is) ∙ off)).within)) (bool_cases (g.linked s));
  }

  -- a side that is empty now was so, where the link isn't emptied
  pub was_empty : c ≢ 0 → (s : ℕ) (a : Side) → new (Link s a) ≡ 0 → m (Link s a) ≡ 0
  was_empty nz s a none = sym (k.stores.link s a
      (λ e f. nz (sym k.stores.here ∙ ap (λ y. new (Link y b)) (sym e) ∙ ap (λ (y : Side). new (Link s y)) (sym f) ∙ none))) ∙ none

  -- the pairs of the slots that stay, that of the slot that comes, and no others
  pub map_after : (map later : ℕ → Option ℕ) → HoldsMap m g map
      → ((s : ℕ) → g.linked s ≡ true → to.linked s ≡ true → s ≢ 0 → g.old s ≡ false → later (m (Key s)) ≡ map (m (Key s)))
      → (g.linked c ≡ false → later (m (Key c)) ≡ Some (m (Value c)))
      → ((x v : ℕ) → later x ≡ Some v → HoldsPair m to x v)
      → HoldsMap new to later
  map_after map later q same fresh complete = record {
    sound = λ s t ne o. ap later (k.stores.key s) ∙ pair s t ne o (bool_cases (g.linked s)) ∙ ap Some (sym (k.stores.value s));
    complete = λ x v e. (let w = complete x v e in pair_by w w.linked w.young (k.stores.key w.slot) (k.stores.value w.slot));
  }
    where
      pair : (s : ℕ) → to.linked s ≡ true → s ≢ 0 → to.old s ≡ false → (g.linked s ≡ true) ⊎ (g.linked s ≡ false)
          → later (m (Key s)) ≡ Some (m (Value s))
      pair s t ne o (inl l) = let young = k.was_young s l o in same s l t ne young ∙ q.sound s l ne young
      pair s t ne o (inr off) = let is = k.comes s t off in
          subst (λ y. later (m (Key y)) ≡ Some (m (Value y))) (sym is) (fresh (ap g.linked (sym is) ∙ off))

  -- what is in the range of a slot that stays is so still, where its lower bound doesn't pass it
  pub in_after : (x s : ℕ) → to.linked s ≡ true → lower (g.low s) ≤ x → IsInRange g x s → IsInRange to x s
  in_after x s t le i = record {
    linked = t;
    low = omega (arith, le, k.low s i.linked);
    high = omega (arith, i.high, k.high s i.linked, k.grows (g.high s));
  }

-- Readers, walks and sides of slots where one link is stored and the chart changes at few slots.

module _ (m new : Memory) (n : ℕ) (g to : Chart) (p : ℕ) (b : Side) (d c : ℕ) (lower upper : ℕ → ℕ) (h : IsShaped m n g)
    (k : ChangesChart m new n g to p b d c lower upper) where
  pub still_linked : (s : ℕ) → g.linked s ≡ true → s ≢ d → to.linked s ≡ true
  still_linked s l ne = k.stays s l (λ e. absurd (ne e))

  -- a link that leads to d, and one that doesn't
  link_past : (s : ℕ) (a : Side) → g.linked s ≡ true → d ≢ 0 → m (Link s a) ≡ d → new (Link s a) ≡ c
  link_past s a l nz e =
      let w = one_link m n g s p d a b h l k.parent e k.link nz in
      ap (λ y. new (Link y a)) w.0 ∙ ap (λ (y : Side). new (Link p y)) w.1 ∙ k.stores.here

  link_stays : (s y : ℕ) (a : Side) → m (Link s a) ≡ y → y ≢ d → new (Link s a) ≡ y
  link_stays s y a e not = k.stores.link s a (λ i j. not
      (sym e ∙ ap (λ (z : ℕ). m (Link z a)) i ∙ ap (λ (z : Side). m (Link p z)) j ∙ k.link)) ∙ e

  at : d ≢ 0 → IsBelow m g p b d
  at nz = h.below p d b k.parent k.link nz

  not_parent : d ≢ 0 → d ≢ p
  not_parent nz e = omega (arith, (at nz).rank, ap g.rank e)

  -- what isn't linked isn't the slot whose link is stored
  off_stays : (s : ℕ) (a : Side) → g.linked s ≡ false → new (Link s a) ≡ m (Link s a)
  off_stays s a out = k.stores.link s a (λ e. absurd (let l = k.parent in cc (ap g.linked e)))

  -- the spine goes on by the left of d
  pub record GoesOn (x u : ℕ) : Type 0 where
    pub slot : ℕ
    pub left : m (Link d Left) ≡ slot
    pub some_slot : slot ≢ 0
    pub less : x < m (Key d)
    pub rest : Spine new to x u slot

  -- a spine, from another slot and from d
  pub record Spines (x u s : ℕ) : Type 0 where
    pub other : s ≢ d → Spine new to x u s
    pub node : s ≡ d → GoesOn x u

  pub spines : (x u : ℕ) → u ≢ d → (s : ℕ) → Spine m g x u s → Spines x u s
  spines x u nu s (bottom e l) = record { other = λ ne. bottom e (still_linked u l nu); node = λ z. absurd (nu (sym e ∙ z)) }
  spines x u nu s (more {c = y} l lt e nz sp) =
      let ih = spines x u nu y sp in
      record {
        other = λ ne. ⊎_elim (λ (w : y ≡ d). past s l lt ne e w (λ z. nz (w ∙ z)) (ih.node w))
            (λ w. more (still_linked s l ne) (omega (arith, lt, k.stores.key s)) (link_stays s y Left e w) nz (ih.other w)) (cases_eq y d);
        node = λ z. record {
          slot = y;
          left = ap (λ i. m (Link i Left)) (sym z) ∙ e;
          some_slot = nz;
          less = omega (arith, lt, ap (λ i. m (Key i)) z);
          rest = ih.other (λ w. omega (arith, (h.below s y Left l e nz).rank, ap g.rank z, ap g.rank w));
        };
      }
    where
      past : (s : ℕ) → g.linked s ≡ true → x < m (Key s) → s ≢ d → m (Link s Left) ≡ y → y ≡ d → d ≢ 0 → GoesOn x u
          → Spine new to x u s
      past s l lt ne e w nz r = ⊎_elim
          (λ (is_c : r.slot ≡ c). more (still_linked s l ne) (omega (arith, lt, k.stores.key s))
          (link_past s Left l nz (e ∙ w) ∙ sym is_c) r.some_slot r.rest)
          (λ (t : LeadsLeft m new to d c r.slot).
          more (still_linked s l ne) (omega (arith, lt, k.stores.key s)) (link_past s Left l nz (e ∙ w)) t.some_slot
          (more t.linked (omega (arith, r.less, t.above, k.stores.key c)) t.left r.some_slot r.rest))
          (k.over r.slot r.left r.some_slot)

  -- what a step has to say of the readers with a key
  pub record ReadsOn (x : ℕ) (live later pend due : ℕ → Type 0) (told more_told : Option ℕ → Type 0) : Type 0 where
    pub out : (s : ℕ) → live s → g.linked s ≡ false
    pub unmet : (s : ℕ) → live s → s ≡ c → g.linked c ≡ true
    pub grow : (s : ℕ) → live s → later s
    pub gone : d ≢ 0 → later d
    pub keep : (o : Option ℕ) → told o → more_told o
    pub now : d ≢ 0 → IsInRange g x d → next m x d ≡ 0 → told (answer_at m x d)
    pub spare : (v : ℕ) → pend v → g.linked v ≡ true → g.old v ≡ true → (v ≢ d) × due v × (to.old v ≡ true)
    pub other : (s : ℕ) → IsInRange g x s → (s ≡ d → s ≡ 0) → Place new to x later due more_told s

  pub readers : (x : ℕ) (live later pend due : ℕ → Type 0) (told more_told : Option ℕ → Type 0)
      → ReadsOn x live later pend due told more_told → (s : ℕ) → Place m g x live pend told s → Place new to x later due more_told s
  readers x live later pend due told more_told r =
      carry m new g to x live later pend due told more_told (record {
        range = λ s i. range s i (cases_eq s d) (cases_eq d 0);
        old = λ s v e o le t sp. old s v e (end_linked m g x v s sp) o le t sp (cases_eq s d);
        still_live = r.grow;
        same_next = λ s l. store_next m new p b c x s k.stores (λ e. let i = k.parent in let j = r.out s l in cc (ap g.linked e));
        same_answer = λ s l. answer_stays s;
        same_rank = λ s w. ⊎_elim (λ (l : g.linked s ≡ true). same_rank m new n g to p b d c lower upper h k s l)
            (λ (l : live s). k.rank s (r.unmet s l)) w;
        still_told = r.keep;
      })
    where
      answer_stays : (s : ℕ) → answer_at new x s ≡ answer_at m x s
      answer_stays s = same_answer m new x s (k.stores.key s) (k.stores.value s)

      node_next : d ≢ 0 → next new x d ≡ next m x d
      node_next nz = store_next m new p b c x d k.stores (not_parent nz)

      rank_grows : (s t : ℕ) → g.linked s ≡ true → g.linked t ≡ true → g.rank s < g.rank t → to.rank s < to.rank t
      rank_grows s t l l' lt = omega (
        arith,
        lt,
        same_rank m new n g to p b d c lower upper h k s l,
        same_rank m new n g to p b d c lower upper h k t l',
      )

      at_node : d ≢ 0 → IsInRange g x d → (next m x d ≡ 0) ⊎ (next m x d ≢ 0) → Place new to x later due more_told d
      at_node nz i (inl z) = at_end (r.gone nz) (node_next nz ∙ z)
          (r.keep (answer_at new x d) (subst told (sym (answer_stays d)) (r.now nz i z)))
      at_node nz i (inr ne) =
          let w = range_hop m n g x d (next m x d) h i refl ne in
          on (r.gone nz) (node_next nz) ne (rank_grows d (next m x d) i.linked w.0.linked w.1)
          (r.other (next m x d) w.0 (λ e. absurd (omega (arith, w.1, ap g.rank e))))

      range : (s : ℕ) → IsInRange g x s → (s ≡ d) ⊎ (s ≢ d) → (d ≡ 0) ⊎ (d ≢ 0) → Place new to x later due more_told s
      range s i (inl e) (inl z) = r.other s i (λ _. e ∙ z)
      range s i (inl e) (inr nz) = subst (Place new to x later due more_told) (sym e)
          (at_node nz (subst (IsInRange g x) e i) (cases_eq (next m x d) 0))
      range s i (inr ne) which = r.other s i (λ e. absurd (ne e))

      old : (s v : ℕ) → pend v → g.linked v ≡ true → g.old v ≡ true → x ≤ m (Key v) → told (answer_at m x v) → Spine m g x v s
          → (s ≡ d) ⊎ (s ≢ d) → Place new to x later due more_told s
      old s v e l o le t sp which = place (r.spare v e l o) which
        where
          told_still : more_told (answer_at new x v)
          told_still = r.keep (answer_at new x v) (subst told (sym (answer_stays v)) t)

          place : (v ≢ d) × due v × (to.old v ≡ true) → (s ≡ d) ⊎ (s ≢ d) → Place new to x later due more_told s
          place w (inr ne) = at_old w.1 w.2 (omega (arith, le, k.stores.key v)) told_still ((spines x v w.0 s sp).other ne)
          place w (inl is) =
              let y = (spines x v w.0 s sp).node is in
              let nz : d ≢ 0 = λ z. y.some_slot (sym y.left ∙ ap (λ i. m (Link i Left)) z ∙ h.root_left) in
              let below = h.below d y.slot Left (at nz).linked y.left y.some_slot in
              subst (Place new to x later due more_told) (sym is)
              (on (r.gone nz) (node_next nz ∙ next-left m x d nz y.less ∙ y.left) y.some_slot
              (rank_grows d y.slot (at nz).linked below.linked below.rank)
              (at_old w.1 w.2 (omega (arith, le, k.stores.key v)) told_still y.rest))

  -- what a search says that ends in its range
  pub told_here : (map : ℕ → Option ℕ) (x s : ℕ) (told : Option ℕ → Type 0) → HoldsMap m g map → x < 2 ^ 64 → told (map x) → IsInRange g x s
      → next m x s ≡ 0 → told (answer_at m x s)
  told_here map x s told q bound now i z = subst told (sym (ended_is m n g map x s h q bound i z (map x) refl)) now

  path_linked : (e s : ℕ) → g.linked e ≡ true → OnRightLeft m e s → g.linked s ≡ true
  path_linked e s l (first f nz) = (h.below e s Right l f nz).linked
  path_linked e s l (further {s = t} way f nz) = (h.below t s Left (path_linked e t l way) f nz).linked

  -- a path right of a slot and then left, where it leads to another slot and where it led to d
  record Paths (e s : ℕ) : Type 0 where
    pub other : s ≢ d → OnRightLeft new e s
    pub node : s ≡ d → d ≢ 0 → c ≢ 0 → OnRightLeft new e c

  path_over : (e y : ℕ) → m (Link d Left) ≡ y → y ≢ 0 → (c ≢ 0 → OnRightLeft new e c) → OnRightLeft new e y
  path_over e y f nz way = ⊎_elim
      (λ (is_c : y ≡ c). subst (OnRightLeft new e) (sym is_c) (way (λ z. nz (is_c ∙ z))))
      (λ (t : LeadsLeft m new to d c y). further (way t.some_slot) t.left nz)
      (k.over y f nz)

  paths : (e s : ℕ) → g.linked e ≡ true → OnRightLeft m e s → Paths e s
  paths e s l (first f nz) = record {
    other = λ not. first (link_stays e s Right f not) nz;
    node = λ z dz cz. first (link_past e Right l dz (f ∙ z)) cz;
  }
  paths e s l (further {s = t} way f nz) =
      let ih = paths e t l way in
      let lt = path_linked e t l way in
      let below = h.below t s Left lt f nz in
      record {
        other = λ not. ⊎_elim
            (λ (z : t ≡ d). path_over e s (ap (λ y. m (Link y Left)) (sym z) ∙ f) nz
            (ih.node z (λ dz. nz (sym f ∙ ap (λ y. m (Link y Left)) (z ∙ dz) ∙ h.root_left))))
            (λ nt. further (ih.other nt) (link_stays t s Left f not) nz) (cases_eq t d);
        node = λ z dz cz. further (ih.other (λ w. omega (arith, below.rank, ap g.rank z, ap g.rank w))) (link_past t Left lt dz (f ∙ z)) cz;
      }

  pub path_after : (e s : ℕ) → g.linked e ≡ true → OnRightLeft m e s → (s ≡ d → s ≡ 0) → OnRightLeft new e s
  path_after e s l way not = (paths e s l way).other (λ is. path_some e s way (not is))
    where
      path_some : (e s : ℕ) → OnRightLeft m e s → s ≢ 0
      path_some e s (first f nz) = nz
      path_some e s (further way f nz) = nz

  -- a walk; at d it stands at an unlinked slot from now on
  pub walks_after : (e : ℕ) (live later : ℕ → Type 0) → ((s : ℕ) → live s → g.linked s ≡ false) → ((s : ℕ) → live s → later s)
      → (d ≢ 0 → later d) → g.linked e ≡ true → (s : ℕ) → Walks m g e live s → Walks new to e later s
  walks_after e live later out grow gone le s (at_linked l way) = ⊎_elim
      (λ (z : s ≡ d). ⊎_elim
      (λ (dz : d ≡ 0). at_linked (k.stays s l (λ _. z ∙ dz)) (path_after e s le way (λ _. z ∙ dz)))
      (λ nz. subst (Walks new to e later) (sym z) (from_node nz (subst (OnRightLeft m e) z way) (cases_eq (m (Link d Left)) 0)))
      (cases_eq d 0))
      (λ ne. at_linked (still_linked s l ne) (path_after e s le way (λ z. absurd (ne z))))
      (cases_eq s d)
    where
      node_left : d ≢ 0 → new (Link d Left) ≡ m (Link d Left)
      node_left nz = k.stores.link d Left (λ i. absurd (not_parent nz i))

      from_node : d ≢ 0 → OnRightLeft m e d → (m (Link d Left) ≡ 0) ⊎ (m (Link d Left) ≢ 0) → Walks new to e later d
      from_node nz way (inl z) = at_stop (gone nz) (node_left nz ∙ z)
      from_node nz way (inr some_left) =
          let below = h.below d (m (Link d Left)) Left (at nz).linked refl some_left in
          at_live (gone nz) (node_left nz) some_left (at_linked
          (still_linked (m (Link d Left)) below.linked (λ y. omega (arith, below.rank, ap g.rank y)))
          (path_over e (m (Link d Left)) refl some_left ((paths e d le way).node refl nz)))
  walks_after e live later out grow gone le s (at_stop l f) = at_stop (grow s l) (off_stays s Left (out s l) ∙ f)
  walks_after e live later out grow gone le s (at_live {c = y} l f nz w) =
      at_live (grow s l) (off_stays s Left (out s l) ∙ f) nz (walks_after e live later out grow gone le y w)

  -- what belongs below a side of a slot that stays does so still, where the lower bound doesn't pass it
  pub belongs_after : (x s : ℕ) (a : Side) → g.linked s ≡ true → to.linked s ≡ true → (a ≡ Left → upper (m (Key s)) ≡ m (Key s))
      → lower (low_of m g s a) ≤ x → Belongs m g x s a → Belongs new to x s a
  belongs_after x s a l t key le w = (
    omega (arith, le, low_after m new n g to p b d c lower upper h k s a l t),
    omega (arith, w.1, high_after m new n g to p b d c lower upper h k s a l t key, k.grows (high_of m g s a)),
  )

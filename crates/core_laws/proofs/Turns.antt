-- A rotation: a slot and its child are replaced by two new ones in one store. Side b of p leads to x, and side t of x to y; from now on p
-- leads to `top`, which has y's key, and whose other side leads to `sub`, which has x's. The chart after it is a shape and holds the same
-- map.
use Rattle.std.proofs.Common.{zero, suc, ◌≡◌, ◌≢◌, ℕ, ◌+◌, ◌*◌, ◌<◌, ◌==◌, if◌then◌else◌, cond, true, false, refl, sym, ap, ◌∙◌, subst, arith, ◌⊎◌, inl, inr, ⊎_elim, eq-eqb, ne_eqb}
use Rattle.std.specs.Prelude.{Option, Some}
use Rattle.std.proofs.lemmas.Bool.{cases_eq}
use Rattle.prcu_marks.specs.declared.mark.Side.{Side}
use Rattle.prcu_marks.specs.declared.mark.Side.TheVariants.{Left, Right}
use Rattle.core_state.specs.declared.words.Field.TheVariants.{Key, Value, Link}
use Rattle.core_state.specs.Memory.{Memory, across}
use Rattle.core_state.specs.Tree.{after, Chart, low_of, high_of, IsBelow, Hangs, IsKeyed, IsDisplaced, IsShaped, HoldsMap, HoldsPair}
use Rattle.core_frames.proofs.TreeFrames.{pair_by}
use Rattle.core_frames.proofs.Charts.{one_link}
use Rattle.core_laws.proofs.Stores.{StoresLink, cases_side, same_after, hangs_at, link_at}
use Rattle.core_laws.proofs.ChartChanges.{put, put-same, put-other}

pub across_not : (t : Side) → across t ≢ t
across_not Left e = cc
across_not Right e = cc

pub side_else : (t a : Side) → a ≢ t → a ≡ across t
side_else Left Right ne = refl
side_else Right Left ne = refl
side_else _ _ ne = absurd (ne refl)

-- one of two numbers, by whether two sides are the same
abbrev pub by_side : Side → Side → ℕ → ℕ → ℕ
by_side Left Left a c = a
by_side Right Right a c = a
by_side _ _ a c = c

by_side-same : (s t : Side) (a c : ℕ) → s ≡ t → by_side s t a c ≡ a
by_side-same Left Left a c e = refl
by_side-same Right Right a c e = refl
by_side-same _ _ a c e = absurd (cc)

by_side-other : (s t : Side) (a c : ℕ) → s ≢ t → by_side s t a c ≡ c
by_side-other Left Right a c ne = refl
by_side-other Right Left a c ne = refl
by_side-other _ _ a c ne = absurd (ne refl)

-- who led to whom, and the two new slots
pub record Turn : Type 0 where
  pub p : ℕ
  pub b : Side
  pub x : ℕ
  pub t : Side
  pub y : ℕ
  pub top : ℕ
  pub sub : ℕ

-- the two slots are there, p leads to them, and the new ones are as they should be
pub record Turns (m new : Memory) (n : ℕ) (g : Chart) (z : Turn) : Type 0 where
  pub stores : StoresLink m new z.p z.b z.top
  pub parent : g.linked z.p ≡ true
  pub link : m (Link z.p z.b) ≡ z.x
  pub some_x : z.x ≢ 0
  pub leads : m (Link z.x z.t) ≡ z.y
  pub some_y : z.y ≢ 0
  pub x_young : g.old z.x ≡ false
  pub y_young : g.old z.y ≡ false
  pub top_off : g.linked z.top ≡ false
  pub sub_off : g.linked z.sub ≡ false
  pub apart : z.sub ≢ z.top
  pub top_some : z.top ≢ 0
  pub sub_some : z.sub ≢ 0
  pub top_within : z.top < n
  pub sub_within : z.sub < n
  pub top_key : m (Key z.top) ≡ m (Key z.y)
  pub top_value : m (Value z.top) ≡ m (Value z.y)
  pub top_outer : m (Link z.top z.t) ≡ m (Link z.y z.t)
  pub top_inner : m (Link z.top (across z.t)) ≡ z.sub
  pub sub_key : m (Key z.sub) ≡ m (Key z.x)
  pub sub_value : m (Value z.sub) ≡ m (Value z.x)
  pub sub_inner : m (Link z.sub z.t) ≡ m (Link z.y (across z.t))
  pub sub_outer : m (Link z.sub (across z.t)) ≡ m (Link z.x (across z.t))

-- the range of the new lower slot
abbrev pub sub_low : Memory → Chart → ℕ → ℕ → Side → ℕ
sub_low m g x y Left = after m y
sub_low m g x y Right = g.low x

abbrev pub sub_high : Memory → Chart → ℕ → ℕ → Side → ℕ
sub_high m g x y Left = g.high x
sub_high m g x y Right = m (Key y)

-- what led to a slot leads to it from now on
unfoldable pub hung_up : Chart → Turn → ℕ → ℕ
hung_up g z s = if g.up s == z.y then by_side (g.side s) z.t z.top z.sub else if g.up s == z.x then z.sub else g.up s

unfoldable pub hung_side : Chart → Turn → ℕ → Side
hung_side g z s = if g.up s == z.y then z.t else g.side s

pub hung_else : (g : Chart) (z : Turn) (s : ℕ) → g.up s ≢ z.x → g.up s ≢ z.y → (hung_up g z s ≡ g.up s) × (hung_side g z s ≡ g.side s)
unfolding hung_up hung_side
hung_else g z s nx ny = (
  ap (λ v. cond v (by_side (g.side s) z.t z.top z.sub) (cond (g.up s == z.x) z.sub (g.up s))) (ne_eqb (g.up s) z.y ny)
      ∙ ap (λ v. cond v z.sub (g.up s)) (ne_eqb (g.up s) z.x nx),
  ap (λ v. cond v z.t (g.side s)) (ne_eqb (g.up s) z.y ny),
)

hung_x : (g : Chart) (z : Turn) (s : ℕ) → z.x ≢ z.y → g.up s ≡ z.x → (hung_up g z s ≡ z.sub) × (hung_side g z s ≡ g.side s)
unfolding hung_up hung_side
hung_x g z s ne is =
    let ny : g.up s ≢ z.y = λ e. ne (sym is ∙ e) in (
      ap (λ v. cond v (by_side (g.side s) z.t z.top z.sub) (cond (g.up s == z.x) z.sub (g.up s))) (ne_eqb (g.up s) z.y ny)
          ∙ ap (λ v. cond v z.sub (g.up s)) (eq-eqb (g.up s) z.x is),
      ap (λ v. cond v z.t (g.side s)) (ne_eqb (g.up s) z.y ny),
    )

hung_y : (g : Chart) (z : Turn) (s : ℕ) → g.up s ≡ z.y → (hung_up g z s ≡ by_side (g.side s) z.t z.top z.sub) × (hung_side g z s ≡ z.t)
unfolding hung_up hung_side
hung_y g z s is = (
  ap (λ v. cond v (by_side (g.side s) z.t z.top z.sub) (cond (g.up s == z.x) z.sub (g.up s))) (eq-eqb (g.up s) z.y is),
  ap (λ v. cond v z.t (g.side s)) (eq-eqb (g.up s) z.y is),
)

-- the chart after it
abbrev pub turned : Memory → Chart → Turn → Chart
turned m g z = record {
  linked = put (put (put (put g.linked z.x false) z.y false) z.sub true) z.top true;
  old = put (put g.old z.sub false) z.top false;
  low = put (put g.low z.sub (sub_low m g z.x z.y z.t)) z.top (g.low z.x);
  high = put (put g.high z.sub (sub_high m g z.x z.y z.t)) z.top (g.high z.x);
  rank = put (put (λ s. 2 * g.rank s + 1) z.sub (2 * g.rank z.x + 1)) z.top (2 * g.rank z.x);
  up = put (put (hung_up g z) z.sub z.top) z.top z.p;
  side = put (put (hung_side g z) z.sub (across z.t)) z.top z.b;
}

-- what is known of the new slots' keys and ranges
record AreRanged (m new : Memory) (g to : Chart) (x y top sub : ℕ) (t : Side) : Type 0 where
  pub y_low : g.low y ≡ low_of m g x t
  pub y_high : g.high y ≡ high_of m g x t
  pub y_keyed : IsKeyed m g y
  pub x_keyed : IsKeyed m g x
  pub x_after : after m x ≡ m (Key x) + 1
  pub y_after : after m y ≡ m (Key y) + 1
  pub top_key : new (Key top) ≡ m (Key y)
  pub sub_key : new (Key sub) ≡ m (Key x)
  pub top_after : after new top ≡ after m y
  pub sub_after : after new sub ≡ after m x
  pub top_low : to.low top ≡ g.low x
  pub top_high : to.high top ≡ g.high x
  pub sub_low : to.low sub ≡ sub_low m g x y t
  pub sub_high : to.high sub ≡ sub_high m g x y t

module _ (m new : Memory) (g to : Chart) (x y top sub : ℕ) where
  -- below the new upper slot's side t is what was below y's
  outer_range : (t : Side) → AreRanged m new g to x y top sub t
      → (low_of new to top t ≡ low_of m g y t) × (high_of new to top t ≡ high_of m g y t)
  outer_range Left r = (r.top_low ∙ sym r.y_low, r.top_key)
  outer_range Right r = (r.top_after, r.top_high ∙ sym r.y_high)

  -- below the new lower slot's side t is what was below y's other side
  inner_range : (t : Side) → AreRanged m new g to x y top sub t
      → (low_of new to sub t ≡ low_of m g y (across t)) × (high_of new to sub t ≡ high_of m g y (across t))
  inner_range Left r = (r.sub_low, r.sub_key ∙ sym r.y_high)
  inner_range Right r = (r.sub_after ∙ sym r.y_low, r.sub_high)

  -- and below its other side what was below x's
  other_range : (t : Side) → AreRanged m new g to x y top sub t
      → (low_of new to sub (across t) ≡ low_of m g x (across t)) × (high_of new to sub (across t) ≡ high_of m g x (across t))
  other_range Left r = (r.sub_after, r.sub_high)
  other_range Right r = (r.sub_low, r.sub_key)

  -- it is below the new upper slot
  sub_range : (t : Side) → AreRanged m new g to x y top sub t
      → (to.low sub ≡ low_of new to top (across t)) × (to.high sub ≡ high_of new to top (across t))
  sub_range Left r = (r.sub_low ∙ sym r.top_after, r.sub_high ∙ sym r.top_high)
  sub_range Right r = (r.sub_low ∙ sym r.top_low, r.sub_high ∙ sym r.top_key)

  -- their keys are in their ranges
  keys_in : (t : Side) → AreRanged m new g to x y top sub t → IsKeyed new to top × IsKeyed new to sub
  keys_in Left r =
      let a = r.y_keyed in let c = r.x_keyed in (
        record {
          low = omega (arith, a.low, r.top_low, r.top_key, r.y_low);
          high = omega (arith, a.high, r.y_high, c.high, r.top_high, r.top_key);
        },
        record {
          low = omega (arith, a.high, r.y_high, r.sub_low, r.sub_key, r.y_after);
          high = omega (arith, c.high, r.sub_high, r.sub_key);
        },
      )
  keys_in Right r =
      let a = r.y_keyed in let c = r.x_keyed in (
        record {
          low = omega (arith, a.low, r.y_low, r.x_after, c.low, r.top_low, r.top_key);
          high = omega (arith, a.high, r.y_high, r.top_high, r.top_key);
        },
        record {
          low = omega (arith, c.low, r.sub_low, r.sub_key);
          high = omega (arith, a.low, r.y_low, r.x_after, r.sub_high, r.sub_key);
        },
      )

module _ (m new : Memory) (n : ℕ) (g : Chart) (z : Turn) (h : IsShaped m n g) (k : Turns m new n g z) where
  open z use {p, b, x, t, y, top, sub}

  abbrev pub to : Chart
  to = turned m g z

  pub at_x : IsBelow m g p b x
  at_x = h.below p x b k.parent k.link k.some_x

  pub at_y : IsBelow m g x t y
  at_y = h.below x y t at_x.linked k.leads k.some_y

  pub x_not_y : x ≢ y
  x_not_y e = omega (arith, at_y.rank, ap g.rank e)

  pub x_not_p : x ≢ p
  x_not_p e = omega (arith, at_x.rank, ap g.rank e)

  pub y_not_p : y ≢ p
  y_not_p e = omega (arith, at_x.rank, at_y.rank, ap g.rank e)

  -- what was linked isn't new
  pub not_top : (s : ℕ) → g.linked s ≡ true → s ≢ top
  not_top s l e = let f = k.top_off in cc (ap g.linked e)

  pub not_sub : (s : ℕ) → g.linked s ≡ true → s ≢ sub
  not_sub s l e = let f = k.sub_off in cc (ap g.linked e)

  -- a slot that was linked and is so still
  pub record Stays (s : ℕ) : Type 0 where
    pub on : g.linked s ≡ true
    pub not_x : s ≢ x
    pub not_y : s ≢ y

  pub top_on : to.linked top ≡ true
  top_on = put-same (put (put (put g.linked x false) y false) sub true) top true top refl

  pub sub_on : to.linked sub ≡ true
  sub_on = put-other (put (put (put g.linked x false) y false) sub true) top true sub k.apart
      ∙ put-same (put (put g.linked x false) y false) sub true sub refl

  linked_else : (s : ℕ) → s ≢ top → s ≢ sub → to.linked s ≡ put (put g.linked x false) y false s
  linked_else s nt ns = put-other (put (put (put g.linked x false) y false) sub true) top true s nt
      ∙ put-other (put (put g.linked x false) y false) sub true s ns

  pub still : (s : ℕ) → Stays s → to.linked s ≡ true
  still s w = linked_else s (not_top s w.on) (not_sub s w.on) ∙ put-other (put g.linked x false) y false s w.not_y
      ∙ put-other g.linked x false s w.not_x ∙ w.on

  -- a slot that is neither of the four
  pub linked_as : (s : ℕ) → s ≢ top → s ≢ sub → s ≢ x → s ≢ y → to.linked s ≡ g.linked s
  linked_as s nt ns nx ny = linked_else s nt ns ∙ put-other (put g.linked x false) y false s ny ∙ put-other g.linked x false s nx

  pub x_off : to.linked x ≡ false
  x_off = linked_else x (not_top x at_x.linked) (not_sub x at_x.linked) ∙ put-other (put g.linked x false) y false x x_not_y
      ∙ put-same g.linked x false x refl

  pub y_off : to.linked y ≡ false
  y_off = linked_else y (not_top y at_y.linked) (not_sub y at_y.linked) ∙ put-same (put g.linked x false) y false y refl

  -- what is linked afterwards
  pub which : (s : ℕ) → to.linked s ≡ true → (s ≡ top) ⊎ ((s ≡ sub) ⊎ Stays s)
  which s l = ⊎_elim (λ (e : s ≡ top). inl e) (λ nt. ⊎_elim (λ (e : s ≡ sub). inr (inl e)) (λ ns. inr (inr (record {
    on = was nt ns;
    not_x = λ e. (let f = x_off in cc (ap to.linked e));
    not_y = λ e. (let f = y_off in cc (ap to.linked e));
  }))) (cases_eq s sub)) (cases_eq s top)
    where
      was : s ≢ top → s ≢ sub → g.linked s ≡ true
      was nt ns = sym (put-other g.linked x false s (λ e. (let f = x_off in absurd (cc (ap to.linked e)))))
          ∙ sym (put-other (put g.linked x false) y false s (λ e. (let f = y_off in absurd (cc (ap to.linked e)))))
          ∙ sym (linked_else s nt ns) ∙ l

  -- the rest of the chart, at a slot that isn't new
  pub old_else : (s : ℕ) → s ≢ top → s ≢ sub → to.old s ≡ g.old s
  old_else s nt ns = put-other (put g.old sub false) top false s nt ∙ put-other g.old sub false s ns

  pub low_else : (s : ℕ) → s ≢ top → s ≢ sub → to.low s ≡ g.low s
  low_else s nt ns = put-other (put g.low sub (sub_low m g x y t)) top (g.low x) s nt ∙ put-other g.low sub (sub_low m g x y t) s ns

  pub high_else : (s : ℕ) → s ≢ top → s ≢ sub → to.high s ≡ g.high s
  high_else s nt ns = put-other (put g.high sub (sub_high m g x y t)) top (g.high x) s nt
      ∙ put-other g.high sub (sub_high m g x y t) s ns

  pub rank_else : (s : ℕ) → s ≢ top → s ≢ sub → to.rank s ≡ 2 * g.rank s + 1
  rank_else s nt ns = put-other (put (λ s. 2 * g.rank s + 1) sub (2 * g.rank x + 1)) top (2 * g.rank x) s nt
      ∙ put-other (λ s. 2 * g.rank s + 1) sub (2 * g.rank x + 1) s ns

  up_else : (s : ℕ) → s ≢ top → s ≢ sub → to.up s ≡ hung_up g z s
  up_else s nt ns = put-other (put (hung_up g z) sub top) top p s nt ∙ put-other (hung_up g z) sub top s ns

  side_of_else : (s : ℕ) → s ≢ top → s ≢ sub → to.side s ≡ hung_side g z s
  side_of_else s nt ns = put-other (put (hung_side g z) sub (across t)) top b s nt ∙ put-other (hung_side g z) sub (across t) s ns

  -- where neither of the two slots that go led to it
  pub place_else : (s : ℕ) → s ≢ top → s ≢ sub → g.up s ≢ x → g.up s ≢ y → (to.up s ≡ g.up s) × (to.side s ≡ g.side s)
  place_else s nt ns nx ny = let e = hung_else g z s nx ny in (up_else s nt ns ∙ e.0, side_of_else s nt ns ∙ e.1)

  -- at the new slots
  top_rank : to.rank top ≡ 2 * g.rank x
  top_rank = put-same (put (λ s. 2 * g.rank s + 1) sub (2 * g.rank x + 1)) top (2 * g.rank x) top refl

  sub_rank : to.rank sub ≡ 2 * g.rank x + 1
  sub_rank = put-other (put (λ s. 2 * g.rank s + 1) sub (2 * g.rank x + 1)) top (2 * g.rank x) sub k.apart
      ∙ put-same (λ s. 2 * g.rank s + 1) sub (2 * g.rank x + 1) sub refl

  pub top_young : to.old top ≡ false
  top_young = put-same (put g.old sub false) top false top refl

  pub sub_young : to.old sub ≡ false
  sub_young = put-other (put g.old sub false) top false sub k.apart ∙ put-same g.old sub false sub refl

  ranged : AreRanged m new g to x y top sub t
  ranged = record {
    y_low = at_y.low;
    y_high = at_y.high;
    y_keyed = h.keyed y at_y.linked k.some_y k.y_young;
    x_keyed = h.keyed x at_x.linked k.some_x k.x_young;
    x_after = after_some x k.some_x;
    y_after = after_some y k.some_y;
    top_key = k.stores.key top ∙ k.top_key;
    sub_key = k.stores.key sub ∙ k.sub_key;
    top_after = after_as top y k.top_some k.some_y (k.stores.key top ∙ k.top_key);
    sub_after = after_as sub x k.sub_some k.some_x (k.stores.key sub ∙ k.sub_key);
    top_low = put-same (put g.low sub (sub_low m g x y t)) top (g.low x) top refl;
    top_high = put-same (put g.high sub (sub_high m g x y t)) top (g.high x) top refl;
    sub_low = put-other (put g.low sub (sub_low m g x y t)) top (g.low x) sub k.apart ∙ put-same g.low sub (sub_low m g x y t) sub refl;
    sub_high = put-other (put g.high sub (sub_high m g x y t)) top (g.high x) sub k.apart
        ∙ put-same g.high sub (sub_high m g x y t) sub refl;
  }
    where
      after_some : (s : ℕ) → s ≢ 0 → after m s ≡ m (Key s) + 1
      after_some zero ne = absurd (ne refl)
      after_some (suc s) ne = refl

      after_as : (s r : ℕ) → s ≢ 0 → r ≢ 0 → new (Key s) ≡ m (Key r) → after new s ≡ after m r
      after_as zero r ns nr e = absurd (ns refl)
      after_as (suc s) zero ns nr e = absurd (nr refl)
      after_as (suc s) (suc r) ns nr e = ap (λ v. v + 1) e

  -- links: that of the parent, those of the new slots, and all others
  pub past_parent : (s : ℕ) (a : Side) → m (Link s a) ≢ x → new (Link s a) ≡ m (Link s a)
  past_parent s a ne = k.stores.link s a (λ e f. ne (link_at m s p a b e f ∙ k.link))

  pub link_off : (s : ℕ) (a : Side) → s ≢ p → new (Link s a) ≡ m (Link s a)
  link_off s a ne = k.stores.link s a (λ e. absurd (ne e))

  pub top_not_p : top ≢ p
  top_not_p e = not_top p k.parent (sym e)

  pub sub_not_p : sub ≢ p
  sub_not_p e = not_sub p k.parent (sym e)

  pub top_outer : new (Link top t) ≡ m (Link y t)
  top_outer = link_off top t top_not_p ∙ k.top_outer

  pub top_inner : new (Link top (across t)) ≡ sub
  top_inner = link_off top (across t) top_not_p ∙ k.top_inner

  pub sub_inner : new (Link sub t) ≡ m (Link y (across t))
  sub_inner = link_off sub t sub_not_p ∙ k.sub_inner

  pub sub_outer : new (Link sub (across t)) ≡ m (Link x (across t))
  sub_outer = link_off sub (across t) sub_not_p ∙ k.sub_outer

  -- a slot that leads to x is p, and one that leads to y is x
  pub leads_x : (s : ℕ) (a : Side) → g.linked s ≡ true → m (Link s a) ≡ x → (s ≡ p) × (a ≡ b)
  leads_x s a l e = one_link m n g s p x a b h l k.parent e k.link k.some_x

  pub leads_y : (s : ℕ) (a : Side) → g.linked s ≡ true → m (Link s a) ≡ y → (s ≡ x) × (a ≡ t)
  leads_y s a l e = one_link m n g s x y a t h l at_x.linked e k.leads k.some_y

  -- a child of x but y, and one of y, stays
  pub child_stays : (s c : ℕ) (a : Side) → (s ≡ y) ⊎ ((s ≡ x) × (a ≢ t)) → m (Link s a) ≡ c → c ≢ 0 → Stays c
  child_stays s c a (inl e) f nz =
      let w = h.below s c a (ap g.linked e ∙ at_y.linked) f nz in
      record {
        on = w.linked;
        not_x = λ v. omega (arith, w.rank, at_y.rank, ap g.rank e, ap g.rank v);
        not_y = λ v. omega (arith, w.rank, ap g.rank e, ap g.rank v);
      }
  child_stays s c a (inr e) f nz =
      let w = h.below s c a (ap g.linked e.0 ∙ at_x.linked) f nz in
      record {
        on = w.linked;
        not_x = λ v. omega (arith, w.rank, ap g.rank e.0, ap g.rank v);
        not_y = λ v. e.1 (leads_y s a (ap g.linked e.0 ∙ at_x.linked) (f ∙ v)).1;
      }

  -- what is below the new slots
  below_top : (c : ℕ) (a : Side) → (a ≡ t) ⊎ (a ≢ t) → new (Link top a) ≡ c → c ≢ 0 → IsBelow new to top a c
  below_top c a (inl v) e nz =
      let f : m (Link y t) ≡ c = sym top_outer ∙ ap (λ (w : Side). new (Link top w)) (sym v) ∙ e in
      let was = h.below y c t at_y.linked f nz in
      let stays = child_stays y c t (inl refl) f nz in
      let nt = not_top c was.linked in
      let ns = not_sub c was.linked in
      let hung = hung_y g z c was.up in
      let r = outer_range m new g to x y top sub t ranged in
      subst (λ (w : Side). IsBelow new to top w c) (sym v) (record {
        linked = still c stays;
        up = up_else c nt ns ∙ hung.0 ∙ by_side-same (g.side c) t top sub was.side;
        side = side_of_else c nt ns ∙ hung.1;
        rank = omega (arith, top_rank, rank_else c nt ns, was.rank, at_y.rank);
        low = low_else c nt ns ∙ was.low ∙ sym r.0;
        high = high_else c nt ns ∙ was.high ∙ sym r.1;
      })
  below_top c a (inr v) e nz =
      let w = side_else t a v in
      let f : sub ≡ c = sym top_inner ∙ ap (λ (q : Side). new (Link top q)) (sym w) ∙ e in
      let r = sub_range m new g to x y top sub t ranged in
      subst (λ (q : Side). IsBelow new to top q c) (sym w) (subst (IsBelow new to top (across t)) f (record {
        linked = sub_on;
        up = put-other (put (hung_up g z) sub top) top p sub k.apart ∙ put-same (hung_up g z) sub top sub refl;
        side = put-other (put (hung_side g z) sub (across t)) top b sub k.apart ∙ put-same (hung_side g z) sub (across t) sub refl;
        rank = omega (arith, top_rank, sub_rank);
        low = r.0;
        high = r.1;
      }))

  below_sub : (c : ℕ) (a : Side) → (a ≡ t) ⊎ (a ≢ t) → new (Link sub a) ≡ c → c ≢ 0 → IsBelow new to sub a c
  below_sub c a (inl v) e nz =
      let f : m (Link y (across t)) ≡ c = sym sub_inner ∙ ap (λ (w : Side). new (Link sub w)) (sym v) ∙ e in
      let was = h.below y c (across t) at_y.linked f nz in
      let stays = child_stays y c (across t) (inl refl) f nz in
      let nt = not_top c was.linked in
      let ns = not_sub c was.linked in
      let hung = hung_y g z c was.up in
      let r = inner_range m new g to x y top sub t ranged in
      subst (λ (w : Side). IsBelow new to sub w c) (sym v) (record {
        linked = still c stays;
        up = up_else c nt ns ∙ hung.0 ∙ by_side-other (g.side c) t top sub (λ q. across_not t (sym was.side ∙ q));
        side = side_of_else c nt ns ∙ hung.1;
        rank = omega (arith, sub_rank, rank_else c nt ns, was.rank, at_y.rank);
        low = low_else c nt ns ∙ was.low ∙ sym r.0;
        high = high_else c nt ns ∙ was.high ∙ sym r.1;
      })
  below_sub c a (inr v) e nz =
      let w = side_else t a v in
      let f : m (Link x (across t)) ≡ c = sym sub_outer ∙ ap (λ (q : Side). new (Link sub q)) (sym w) ∙ e in
      let was = h.below x c (across t) at_x.linked f nz in
      let stays = child_stays x c (across t) (inr (refl, across_not t)) f nz in
      let nt = not_top c was.linked in
      let ns = not_sub c was.linked in
      let hung = hung_x g z c x_not_y was.up in
      let r = other_range m new g to x y top sub t ranged in
      subst (λ (q : Side). IsBelow new to sub q c) (sym w) (record {
        linked = still c stays;
        up = up_else c nt ns ∙ hung.0;
        side = side_of_else c nt ns ∙ hung.1 ∙ was.side;
        rank = omega (arith, sub_rank, rank_else c nt ns, was.rank);
        low = low_else c nt ns ∙ was.low ∙ sym r.0;
        high = high_else c nt ns ∙ was.high ∙ sym r.1;
      })

  -- the ranges below a side of a slot that stays
  pub low_after : (s : ℕ) (a : Side) → g.linked s ≡ true → low_of new to s a ≡ low_of m g s a
  low_after s Left l = low_else s (not_top s l) (not_sub s l)
  low_after s Right l = same_after m new s (k.stores.key s)

  pub high_after : (s : ℕ) (a : Side) → g.linked s ≡ true → high_of new to s a ≡ high_of m g s a
  high_after s Left l = k.stores.key s
  high_after s Right l = high_else s (not_top s l) (not_sub s l)

  top_below : IsBelow new to p b top
  top_below = record {
    linked = top_on;
    up = put-same (put (hung_up g z) sub top) top p top refl;
    side = put-same (put (hung_side g z) sub (across t)) top b top refl;
    rank = omega (arith, top_rank, rank_else p (not_top p k.parent) (not_sub p k.parent), at_x.rank);
    low = ranged.top_low ∙ at_x.low ∙ sym (low_after p b k.parent);
    high = ranged.top_high ∙ at_x.high ∙ sym (high_after p b k.parent);
  }

  below_staying : (s c : ℕ) (a : Side) → Stays s → ((s ≡ p) × (a ≡ b)) ⊎ ((s ≡ p) → a ≢ b) → new (Link s a) ≡ c → c ≢ 0
      → IsBelow new to s a c
  below_staying s c a w (inl v) e nz =
      let is : top ≡ c = sym k.stores.here ∙ link_at new p s b a (sym v.0) (sym v.1) ∙ e in
      subst (λ q. IsBelow new to q a c) (sym v.0) (subst (λ (q : Side). IsBelow new to p q c) (sym v.1)
      (subst (IsBelow new to p b) is top_below))
  below_staying s c a w (inr v) e nz =
      let f : m (Link s a) ≡ c = sym (k.stores.link s a v) ∙ e in
      let was = h.below s c a w.on f nz in
      let nt = not_top c was.linked in
      let ns = not_sub c was.linked in
      let place = place_else c nt ns (λ q. w.not_x (sym was.up ∙ q)) (λ q. w.not_y (sym was.up ∙ q)) in
      record {
        linked = still c (record {
          on = was.linked;
          not_x = λ q. (let r = leads_x s a w.on (f ∙ q) in v r.0 r.1);
          not_y = λ q. w.not_x (leads_y s a w.on (f ∙ q)).0;
        });
        up = place.0 ∙ was.up;
        side = place.1 ∙ was.side;
        rank = omega (arith, rank_else c nt ns, rank_else s (not_top s w.on) (not_sub s w.on), was.rank);
        low = low_else c nt ns ∙ was.low ∙ sym (low_after s a w.on);
        high = high_else c nt ns ∙ was.high ∙ sym (high_after s a w.on);
      }

  at_parent : (s : ℕ) (a : Side) → ((s ≡ p) × (a ≡ b)) ⊎ ((s ≡ p) → a ≢ b)
  at_parent s a = ⊎_elim (λ (e : s ≡ p). ⊎_elim (λ (f : a ≡ b). inl (e, f)) (λ f. inr (λ _. f)) (cases_side a b))
      (λ ne. inr (λ e. absurd (ne e))) (cases_eq s p)

  below_after : (s c : ℕ) (a : Side) → to.linked s ≡ true → new (Link s a) ≡ c → c ≢ 0 → IsBelow new to s a c
  below_after s c a l e nz = ⊎_elim
      (λ (v : s ≡ top). subst (λ q. IsBelow new to q a c) (sym v)
      (below_top c a (cases_side a t) (ap (λ q. new (Link q a)) (sym v) ∙ e) nz))
      (λ r. ⊎_elim
      (λ (v : s ≡ sub). subst (λ q. IsBelow new to q a c) (sym v)
      (below_sub c a (cases_side a t) (ap (λ q. new (Link q a)) (sym v) ∙ e) nz))
      (λ w. below_staying s c a w (at_parent s a) e nz) r)
      (which s l)

  p_stays : Stays p
  p_stays = record { on = k.parent; not_x = λ e. x_not_p (sym e); not_y = λ e. y_not_p (sym e) }

  hangs_staying : (c : ℕ) → Stays c → c ≢ 0 → Hangs m g c → (g.up c ≡ y) ⊎ (g.up c ≢ y) → (g.up c ≡ x) ⊎ (g.up c ≢ x)
      → (g.side c ≡ t) ⊎ (g.side c ≢ t) → Hangs new to c
  hangs_staying c w nz was (inl uy) ux (inl st) =
      let nt = not_top c w.on in let ns = not_sub c w.on in let hung = hung_y g z c uy in
      hangs_at new to c top t (up_else c nt ns ∙ hung.0 ∙ by_side-same (g.side c) t top sub st) (side_of_else c nt ns ∙ hung.1) top_on
      (top_outer ∙ link_at m y (g.up c) t (g.side c) (sym uy) (sym st) ∙ was.link)
  hangs_staying c w nz was (inl uy) ux (inr st) =
      let nt = not_top c w.on in let ns = not_sub c w.on in let hung = hung_y g z c uy in
      hangs_at new to c sub t (up_else c nt ns ∙ hung.0 ∙ by_side-other (g.side c) t top sub st) (side_of_else c nt ns ∙ hung.1) sub_on
      (sub_inner ∙ link_at m y (g.up c) (across t) (g.side c) (sym uy) (sym (side_else t (g.side c) st)) ∙ was.link)
  hangs_staying c w nz was (inr ny) (inl ux) (inl st) =
      absurd (w.not_y (sym was.link ∙ link_at m (g.up c) x (g.side c) t ux st ∙ k.leads))
  hangs_staying c w nz was (inr ny) (inl ux) (inr st) =
      let nt = not_top c w.on in let ns = not_sub c w.on in let hung = hung_x g z c x_not_y ux in
      hangs_at new to c sub (across t) (up_else c nt ns ∙ hung.0) (side_of_else c nt ns ∙ hung.1 ∙ side_else t (g.side c) st) sub_on
      (sub_outer ∙ link_at m x (g.up c) (across t) (g.side c) (sym ux) (sym (side_else t (g.side c) st)) ∙ was.link)
  hangs_staying c w nz was (inr ny) (inr nx) st =
      let nt = not_top c w.on in let ns = not_sub c w.on in let place = place_else c nt ns nx ny in
      hangs_at new to c (g.up c) (g.side c) place.0 place.1 (still (g.up c) (record { on = was.above; not_x = nx; not_y = ny }))
      (past_parent (g.up c) (g.side c) (λ e. w.not_x (sym was.link ∙ e)) ∙ was.link)

  hangs_after : (c : ℕ) → to.linked c ≡ true → c ≢ 0 → Hangs new to c
  hangs_after c l nz = ⊎_elim
      (λ (v : c ≡ top). subst (Hangs new to) (sym v)
      (hangs_at new to top p b top_below.up top_below.side (still p p_stays) k.stores.here))
      (λ r. ⊎_elim
      (λ (v : c ≡ sub). (let w = below_top sub (across t) (inr (across_not t)) top_inner k.sub_some in
      subst (Hangs new to) (sym v) (hangs_at new to sub top (across t) w.up w.side top_on top_inner)))
      (λ w. hangs_staying c w nz (h.hangs c w.on nz) (cases_eq (g.up c) y) (cases_eq (g.up c) x) (cases_side (g.side c) t)) r)
      (which c l)

  keyed_after : (s : ℕ) → to.linked s ≡ true → s ≢ 0 → to.old s ≡ false → IsKeyed new to s
  keyed_after s l nz o = ⊎_elim
      (λ (v : s ≡ top). subst (IsKeyed new to) (sym v) (keys_in m new g to x y top sub t ranged).0)
      (λ r. ⊎_elim
      (λ (v : s ≡ sub). subst (IsKeyed new to) (sym v) (keys_in m new g to x y top sub t ranged).1)
      (λ (w : Stays s). (let nt = not_top s w.on in let ns = not_sub s w.on in
      let was = h.keyed s w.on nz (sym (old_else s nt ns) ∙ o) in
      record {
        low = omega (arith, was.low, low_else s nt ns, k.stores.key s);
        high = omega (arith, was.high, high_else s nt ns, k.stores.key s);
      })) r)
      (which s l)

  displaced_after : (s : ℕ) → to.linked s ≡ true → to.old s ≡ true → IsDisplaced new to s
  displaced_after s l o = ⊎_elim
      (λ (v : s ≡ top). absurd (let f = top_young in cc (ap to.old v)))
      (λ r. ⊎_elim
      (λ (v : s ≡ sub). absurd (let f = sub_young in cc (ap to.old v)))
      (λ (w : Stays s). (let nt = not_top s w.on in let ns = not_sub s w.on in
      let was = h.displaced s w.on (sym (old_else s nt ns) ∙ o) in
      record {
        low = omega (arith, was.low, low_else s nt ns, k.stores.key s);
        high = omega (arith, was.high, low_else s nt ns, high_else s nt ns);
        left = past_parent s Left (λ e. k.some_x (sym e ∙ was.left)) ∙ was.left;
      })) r)
      (which s l)

  root_stays : Stays 0
  root_stays = record { on = h.root; not_x = λ e. k.some_x (sym e); not_y = λ e. k.some_y (sym e) }

  pub shape_after : IsShaped new n to
  shape_after = record {
    root = still 0 root_stays;
    root_left = past_parent 0 Left (λ e. k.some_x (sym e ∙ h.root_left)) ∙ h.root_left;
    root_low = low_else 0 (not_top 0 h.root) (not_sub 0 h.root) ∙ h.root_low;
    root_high = high_else 0 (not_top 0 h.root) (not_sub 0 h.root) ∙ h.root_high;
    root_new = old_else 0 (not_top 0 h.root) (not_sub 0 h.root) ∙ h.root_new;
    below = λ s c a l e nz. below_after s c a l e nz;
    hangs = hangs_after;
    keyed = keyed_after;
    displaced = displaced_after;
    within = λ s l. ⊎_elim (λ (v : s ≡ top). omega (arith, v, k.top_within))
        (λ r. ⊎_elim (λ (v : s ≡ sub). omega (arith, v, k.sub_within)) (λ (w : Stays s). h.within s w.on) r) (which s l);
  }

  -- the pairs are the same
  pub map_after : (map : ℕ → Option ℕ) → HoldsMap m g map → HoldsMap new to map
  map_after map q = record {
    sound = λ s l nz o. ⊎_elim
        (λ (v : s ≡ top). subst (λ r. map (new (Key r)) ≡ Some (new (Value r))) (sym v)
        (as_was top y (k.stores.key top ∙ k.top_key) (k.stores.value top ∙ k.top_value) (q.sound y at_y.linked k.some_y k.y_young)))
        (λ r. ⊎_elim
        (λ (v : s ≡ sub). subst (λ r. map (new (Key r)) ≡ Some (new (Value r))) (sym v)
        (as_was sub x (k.stores.key sub ∙ k.sub_key) (k.stores.value sub ∙ k.sub_value) (q.sound x at_x.linked k.some_x k.x_young)))
        (λ (w : Stays s). as_was s s (k.stores.key s) (k.stores.value s)
        (q.sound s w.on nz (sym (old_else s (not_top s w.on) (not_sub s w.on)) ∙ o))) r)
        (which s l);
    complete = λ key v e. (let w = q.complete key v e in pair_at key v w (cases_eq w.slot x) (cases_eq w.slot y));
  }
    where
      as_was : (s r : ℕ) → new (Key s) ≡ m (Key r) → new (Value s) ≡ m (Value r) → map (m (Key r)) ≡ Some (m (Value r))
          → map (new (Key s)) ≡ Some (new (Value s))
      as_was s r e f was = ap map e ∙ was ∙ ap Some (sym f)

      pair_at : (key v : ℕ) (w : HoldsPair m g key v) → (w.slot ≡ x) ⊎ (w.slot ≢ x) → (w.slot ≡ y) ⊎ (w.slot ≢ y)
          → HoldsPair new to key v
      pair_at key v w (inl e) is_y = record {
        slot = sub;
        linked = sub_on;
        some_slot = k.sub_some;
        young = sub_young;
        key = k.stores.key sub ∙ k.sub_key ∙ ap (λ r. m (Key r)) (sym e) ∙ w.key;
        value = k.stores.value sub ∙ k.sub_value ∙ ap (λ r. m (Value r)) (sym e) ∙ w.value;
      }
      pair_at key v w (inr ne) (inl e) = record {
        slot = top;
        linked = top_on;
        some_slot = k.top_some;
        young = top_young;
        key = k.stores.key top ∙ k.top_key ∙ ap (λ r. m (Key r)) (sym e) ∙ w.key;
        value = k.stores.value top ∙ k.top_value ∙ ap (λ r. m (Value r)) (sym e) ∙ w.value;
      }
      pair_at key v w (inr nx) (inr ny) = pair_by w (still w.slot (record { on = w.linked; not_x = nx; not_y = ny }))
          (old_else w.slot (not_top w.slot w.linked) (not_sub w.slot w.linked) ∙ w.young) (k.stores.key w.slot) (k.stores.value w.slot)

-- What makes pairs a trie, and what comes of it: each string has one place.
use Rattle.std.proofs.Common.{◌≡◌, ◌≢◌, ℕ, zero, suc, ◌+◌, ◌<◌, ◌≤◌, Bool, true, false, [], length, Option, Some, None, refl, sym, ap, subst, ◌∙◌, arith, if◌then◌else◌}
use Rattle.std.specs.Str.{bytes_eq}
use Rattle.std.proofs.lemmas.Slice.Eq.{bytes_eq-Decides}
use mathlib.Core.Logic.{dite}
use native.Mathlib.Decide.{ℕ_discrete}
use Rattle.string_layers.specs.Things.{Text, first_bytes, bytes_at, slice, Begins, begins, Layer, outermost, Leaf, Thing, to_leaf, to_layer, to_mark, layer_of, text_of, Spot, spot_in, Belongs}
use Rattle.string_layers.specs.Fronts.{Front, where_it_has, next_on, way_from, place, told, says}
use Rattle.string_layers.specs.Events.{Life, free, unseen, in_place, taken_out}
use Rattle.string_layers.proofs.Texts.{begins_within, begins_trans, slice_alike, begins_test, begins_is, same_text, if_true, layer_text, layer_whole, some_bytes}

abbrev pub spot : ℕ → Text → Spot
spot number bytes = record { within = number; slice = bytes }

abbrev pub Lives : Type 0
Lives = ℕ → Life

-- A layer in place has this at the slice.
pub record Has (f : Front) (l : Lives) (y : Layer) (bytes : Text) (x : Thing) : Type 0 where
  pub placed : l y.number ≡ in_place y.prefix
  pub is : f (spot y.number bytes) ≡ Some x

pub record IsLed (f : Front) (l : Lives) (z : Layer) : Type 0 where
  pub above : Layer
  pub bytes : Text
  pub by : Thing
  pub has : Has f l above bytes by
  pub leads : layer_of by ≡ Some z

pub record Trie (f : Front) (l : Lives) : Type 0 where
  pub root : l zero ≡ in_place []
  pub long : (n : ℕ) (p : Text) → l n ≡ in_place p → n ≢ zero → first_bytes ≤ length p
  pub belongs : (y : Layer) (bytes : Text) (x : Thing) → Has f l y bytes x → Belongs y x × (bytes ≡ slice (text_of x) (length y.prefix))
  pub leads : (y : Layer) (bytes : Text) (x : Thing) (z : Layer) → Has f l y bytes x → layer_of x ≡ Some z → l z.number ≡ in_place z.prefix
  pub one : (z y other : Layer) (bytes more : Text) (x by : Thing) → Has f l y bytes x → Has f l other more by → layer_of x ≡ Some z
      → layer_of by ≡ Some z → spot y.number bytes ≡ spot other.number more
  pub led : (z : Layer) → l z.number ≡ in_place z.prefix → z.number ≢ zero → IsLed f l z
  pub none : (n : ℕ) (bytes : Text) → l n ≡ free → f (spot n bytes) ≡ None
  pub gone : (n : ℕ) (p : Text) (m : ℕ) (bytes : Text) → l n ≡ taken_out p m → f (spot n bytes) ≡ None
  pub unmarked : (n : ℕ) (p bytes : Text) (m : ℕ) (z : Layer) → l n ≡ unseen p → f (spot n bytes) ≢ Some (to_mark m z)

-- the prefix of a layer in place
pub placed_once : (l : Lives) (n : ℕ) (p q : Text) → l n ≡ in_place p → l n ≡ in_place q → p ≡ q
placed_once l n p q a b = cc

-- hops of a way, and its end
pub next_is : (t : Text) (x : Option Thing) (by : Thing) (z : Layer) → x ≡ Some by → layer_of by ≡ Some z → Begins z.prefix t → next_on t x ≡ Some z
next_is t x by z e leads b = ap (next_on t) e ∙ ap (where_it_has t) leads ∙ if_true (begins z.prefix t) (Some z) None (begins_is z.prefix t b)

pub way_next : (f : Front) (t : Text) (k : ℕ) (y z : Layer) → next_on t (f (spot_in y t)) ≡ Some z → way_from f t (suc k) y ≡ way_from f t k z
way_next f t k y z e = ap (λ x. elim x as (λ _. Spot) [ None ↦ spot_in y t | Some w ↦ way_from f t k w ]) e

pub way_ends : (f : Front) (t : Text) (k : ℕ) (y : Layer) → next_on t (f (spot_in y t)) ≡ None → way_from f t (suc k) y ≡ spot_in y t
way_ends f t k y e = ap (λ x. elim x as (λ _. Spot) [ None ↦ spot_in y t | Some w ↦ way_from f t k w ]) e

-- what goes on leads to a layer that has the string
pub record IsNext (t : Text) (x : Option Thing) (z : Layer) : Type 0 where
  pub by : Thing
  pub is : x ≡ Some by
  pub leads : layer_of by ≡ Some z
  pub begins : Begins z.prefix t

has_it : (t : Text) (w : Layer) (z : Layer) (b : Bool) → b ≡ begins w.prefix t → (if b then Some w else None) ≡ Some z
    → (w ≡ z) × Begins z.prefix t
has_it t w z true e s =
    let same : w ≡ z = cc in (same, subst (λ (v : Layer). Begins v.prefix t) same ((begins_test w.prefix t).0 (sym e)))
has_it t w z false e s = absurd (cc)

next_by : (t : Text) (by : Thing) (z : Layer) (o : Option Layer) → layer_of by ≡ o → where_it_has t o ≡ Some z
    → (layer_of by ≡ Some z) × Begins z.prefix t
next_by t by z None l e = absurd (cc)
next_by t by z (Some w) l e = let r = has_it t w z (begins w.prefix t) refl e in (l ∙ ap (λ v. Some v) r.0, r.1)

pub next_of : (t : Text) (x : Option Thing) (z : Layer) → next_on t x ≡ Some z → IsNext t x z
next_of t None z e = absurd (cc)
next_of t (Some by) z e = let r = next_by t by z (layer_of by) refl e in record { by = by; is = refl; leads = r.0; begins = r.1 }

-- The string's way comes to each layer in place that has it.
pub record Comes (f : Front) (t : Text) (y : Layer) : Type 0 where
  pub left : ℕ
  pub enough : length t < left + length y.prefix
  pub way : place f t ≡ way_from f t left y

-- a layer in place, which has the string: its way ends there
pub record Ending (f : Front) (l : Lives) (t : Text) (at : Spot) : Type 0 where
  pub last : Layer
  pub placed : l last.number ≡ in_place last.prefix
  pub begins : Begins last.prefix t
  pub is : at ≡ spot_in last t

module _ (f : Front) (l : Lives) (trie : Trie f l) where
  is_outermost : (y : Layer) → l y.number ≡ in_place y.prefix → y.number ≡ zero → y ≡ outermost
  is_outermost y placed e =
      let p : y.prefix ≡ [] = placed_once l y.number y.prefix [] placed (ap l e ∙ trie.root) in
      λ i. record { number = e i; prefix = p i }

  hops : (t : Text) (y z : Layer) (by : Thing) (k : ℕ) → Has f l y (slice t (length y.prefix)) by → layer_of by ≡ Some z → Begins z.prefix t
      → length y.prefix < length z.prefix → length z.prefix ≤ length t → length t < k + length y.prefix → place f t ≡ way_from f t k y
      → Comes f t z
  hops t y z by zero has leads b more within less way = absurd (omega arith)
  hops t y z by (suc k) has leads b more within less way = record {
    left = k;
    enough = omega arith;
    way = way ∙ way_next f t k y z (next_is t (f (spot_in y t)) by z has.is leads b);
  }

  reach : (m : ℕ) (y : Layer) (t : Text) → length y.prefix < m → l y.number ≡ in_place y.prefix → Begins y.prefix t → Comes f t y
  reach zero y t less placed b = absurd (omega arith)
  reach (suc m) y t less placed b = dite (ℕ_discrete y.number zero)
      (λ e. subst (λ (z : Layer). Comes f t z) (sym (is_outermost y placed e))
      (record { left = suc (length t); enough = omega arith; way = refl }))
      (λ ne.
      let led = trie.led y placed ne in
      let fits = trie.belongs led.above led.bytes led.by led.has in
      let text : text_of led.by ≡ y.prefix = layer_text led.by y led.leads in
      let whole : length led.above.prefix + bytes_at (length led.above.prefix) ≤ length y.prefix =
      layer_whole (length led.above.prefix) led.by y led.leads fits.0.whole in
      let bytes = some_bytes (length led.above.prefix) in
      let above : Begins led.above.prefix y.prefix = subst (λ s. Begins led.above.prefix s) text fits.0.begins in
      let alike : slice t (length led.above.prefix) ≡ slice y.prefix (length led.above.prefix) =
      slice_alike y.prefix t (length led.above.prefix) b whole in
      let here : led.bytes ≡ slice t (length led.above.prefix) =
      fits.1 ∙ ap (λ s. slice s (length led.above.prefix)) text ∙ sym alike in
      let comes = reach m led.above t (omega arith) led.has.placed (begins_trans led.above.prefix y.prefix t above b) in
      hops t led.above y led.by comes.left (subst (λ s. Has f l led.above s led.by) here led.has) led.leads b (omega arith)
      (begins_within y.prefix t b) comes.enough comes.way)

  pub comes : (y : Layer) (t : Text) → l y.number ≡ in_place y.prefix → Begins y.prefix t → Comes f t y
  comes y t placed b = reach (suc (length y.prefix)) y t (omega arith) placed b

  ends_in : (y : Layer) (t : Text) (k : ℕ) → length y.prefix ≤ length t → length t < k + length y.prefix → place f t ≡ way_from f t k y
      → next_on t (f (spot_in y t)) ≡ None → place f t ≡ spot_in y t
  ends_in y t zero within less way e = absurd (omega arith)
  ends_in y t (suc k) within less way e = way ∙ way_ends f t k y e

  -- and where it doesn't go on from there, there is the string's place
  pub ends : (y : Layer) (t : Text) → l y.number ≡ in_place y.prefix → Begins y.prefix t → next_on t (f (spot_in y t)) ≡ None
      → place f t ≡ spot_in y t
  ends y t placed b e = let c = comes y t placed b in ends_in y t c.left (begins_within y.prefix t b) c.enough c.way e

  goes : (k : ℕ) (t : Text) (y : Layer) (o : Option Layer) → next_on t (f (spot_in y t)) ≡ o → l y.number ≡ in_place y.prefix
      → Begins y.prefix t → ((z : Layer) → l z.number ≡ in_place z.prefix → Begins z.prefix t → Ending f l t (way_from f t k z))
      → Ending f l t (way_from f t (suc k) y)
  goes k t y None e placed b more = record { last = y; placed = placed; begins = b; is = way_ends f t k y e }
  goes k t y (Some z) e placed b more =
      let next = next_of t (f (spot_in y t)) z e in
      subst (λ q. Ending f l t q) (sym (way_next f t k y z e))
      (more z (trie.leads y (slice t (length y.prefix)) next.by z (record { placed = placed; is = next.is }) next.leads) next.begins)

  ending : (k : ℕ) (t : Text) (y : Layer) → l y.number ≡ in_place y.prefix → Begins y.prefix t → Ending f l t (way_from f t k y)
  ending zero t y placed b = record { last = y; placed = placed; begins = b; is = refl }
  ending (suc k) t y placed b = goes k t y (next_on t (f (spot_in y t))) refl placed b (λ z. ending k t z)

  pub place_is : (t : Text) → Ending f l t (place f t)
  place_is t = ending (suc (length t)) t outermost trie.root refl

  -- what the front says of a string whose way ends in a layer
  pub says_there : (y : Layer) (t : Text) (x : Option Thing) → l y.number ≡ in_place y.prefix → Begins y.prefix t → f (spot_in y t) ≡ x
      → next_on t x ≡ None → says f t ≡ told t x
  says_there y t x placed b is e = ap (λ q. told t (f q)) (ends y t placed b (ap (next_on t) is ∙ e)) ∙ ap (told t) is

  -- a leaf in place stands in its string's place
  pub leaf_stands : (y : Layer) (bytes : Text) (x : Leaf) → Has f l y bytes (to_leaf x) → (spot y.number bytes ≡ spot_in y x.text) × Begins y.prefix x.text
  leaf_stands y bytes x has = let b = trie.belongs y bytes (to_leaf x) has in (ap (λ s. spot y.number s) b.1, b.0.begins)

  pub leaf_place : (y : Layer) (bytes : Text) (x : Leaf) → Has f l y bytes (to_leaf x) → spot y.number bytes ≡ place f x.text
  leaf_place y bytes x has =
      let s = leaf_stands y bytes x has in
      s.0 ∙ sym (ends y x.text has.placed s.1 (ap (λ q. next_on x.text (f q)) (sym s.0) ∙ ap (next_on x.text) has.is))

  pub leaf_says : (y : Layer) (bytes : Text) (x : Leaf) → Has f l y bytes (to_leaf x) → says f x.text ≡ Some x.value
  leaf_says y bytes x has =
      let s = leaf_stands y bytes x has in
      says_there y x.text (Some (to_leaf x)) has.placed s.1 (ap f (sym s.0) ∙ has.is) refl
      ∙ if_true (bytes_eq x.text x.text) (Some x.value) None (same_text x.text)

-- A leaf of the string with this value is in place.
pub record There (f : Front) (l : Lives) (t : Text) (v : ℕ) : Type 0 where
  pub layer : Layer
  pub bytes : Text
  pub leaf : Leaf
  pub has : Has f l layer bytes (to_leaf leaf)
  pub text_is : leaf.text ≡ t
  pub value_is : leaf.value ≡ v

-- what is told of a string is a leaf's value
pub record IsLeafOf (x : Option Thing) (t : Text) (v : ℕ) : Type 0 where
  pub leaf : Leaf
  pub is : x ≡ Some (to_leaf leaf)
  pub text_is : leaf.text ≡ t
  pub value_is : leaf.value ≡ v

tells_it : (x : Leaf) (t : Text) (v : ℕ) (b : Bool) → b ≡ bytes_eq x.text t → (if b then Some x.value else None) ≡ Some v
    → (x.text ≡ t) × (x.value ≡ v)
tells_it x t v true e s = ((bytes_eq-Decides x.text t).0 (sym e), let same : x.value ≡ v = cc in same)
tells_it x t v false e s = absurd (cc)

pub told_by : (x : Option Thing) (t : Text) (v : ℕ) → told t x ≡ Some v → IsLeafOf x t v
told_by None t v e = absurd (cc)
told_by (Some (to_leaf x)) t v e = let r = tells_it x t v (bytes_eq x.text t) refl e in
    record { leaf = x; is = refl; text_is = r.0; value_is = r.1 }
told_by (Some (to_layer y)) t v e = absurd (cc)
told_by (Some (to_mark m y)) t v e = absurd (cc)

pub there_says : (f : Front) (l : Lives) (trie : Trie f l) (t : Text) (v : ℕ) → There f l t v → says f t ≡ Some v
there_says f l trie t v it = subst (λ s. says f s ≡ Some v) it.text_is
    (leaf_says f l trie it.layer it.bytes it.leaf it.has ∙ ap (λ n. Some n) it.value_is)

pub says_is_there : (f : Front) (l : Lives) (trie : Trie f l) (t : Text) (v : ℕ) → says f t ≡ Some v → There f l t v
says_is_there f l trie t v e =
    let its = told_by (f (place f t)) t v e in
    let end = place_is f l trie t in
    record {
      layer = end.last;
      bytes = slice t (length end.last.prefix);
      leaf = its.leaf;
      has = record { placed = end.placed; is = ap f (sym end.is) ∙ its.is };
      text_is = its.text_is;
      value_is = its.value_is;
    }

-- Two fronts at which the same leaves of a string are in place say the same of it.
same_answer : (a b : Option ℕ) → ((v : ℕ) → a ≡ Some v → b ≡ Some v) → ((v : ℕ) → b ≡ Some v → a ≡ Some v) → b ≡ a
same_answer None None f g = refl
same_answer None (Some v) f g = sym (g v refl)
same_answer (Some v) b f g = f v refl

pub says_alike : (f g : Front) (l k : Lives) (t : Text) → Trie f l → Trie g k → ((v : ℕ) → There f l t v → There g k t v)
    → ((v : ℕ) → There g k t v → There f l t v) → says g t ≡ says f t
says_alike f g l k t trie next onward back = same_answer (says f t) (says g t)
    (λ v e. there_says g k next t v (onward v (says_is_there f l trie t v e)))
    (λ v e. there_says f l trie t v (back v (says_is_there g k next t v e)))

-- the same leaf in place at another front
pub there_by : (f g : Front) (l k : Lives) (t : Text) (v : ℕ) (it : There f l t v) → Has g k it.layer it.bytes (to_leaf it.leaf) → There g k t v
there_by f g l k t v it has = record {
  layer = it.layer;
  bytes = it.bytes;
  leaf = it.leaf;
  has = has;
  text_is = it.text_is;
  value_is = it.value_is;
}

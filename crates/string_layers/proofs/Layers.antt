-- A layer comes into place above what stood there, and one without pairs is taken out: the pairs are a trie still.
use Rattle.std.proofs.Common.{◌≡◌, ◌≢◌, ◌⊎◌, inl, inr, ⊎_elim, ℕ, zero, ◌+◌, ◌≤◌, [], length, Some, None, refl, sym, ap, subst, ◌∙◌, arith}
use mathlib.Core.Logic.{dite}
use native.Mathlib.Decide.{ℕ_discrete}
use Rattle.string_layers.specs.Things.{Text, first_bytes, bytes_at, slice, Begins, Layer, Leaf, Thing, to_leaf, to_layer, to_mark, layer_of, text_of, Spot, spot_in, Belongs}
use Rattle.string_layers.specs.Fronts.{Front, next_on, told, says}
use Rattle.string_layers.specs.Events.{Life, free, unseen, in_place, taken_out}
use Rattle.string_layers.proofs.Texts.{is_none, begins_trans, spot_or_not, text_or_not, slice_alike, layer_text, layer_whole, some_bytes}
use Rattle.string_layers.proofs.Trie.{spot, Lives, Has, IsLed, Trie, There, there_by, placed_once, next_of, says_there, told_by}
use Rattle.string_layers.proofs.Frames.{lead, Changed, Lived, elsewhere, placed_same}

-- What a new layer has before it comes into place.
pub record JustTwo (f : Front) (by : Layer) (old : Thing) (x : Leaf) : Type 0 where
  pub old_belongs : Belongs by old
  pub leaf_belongs : Begins by.prefix x.text
  pub apart : slice (text_of old) (length by.prefix) ≢ slice x.text (length by.prefix)
  pub has_old : f (spot_in by (text_of old)) ≡ Some old
  pub has_leaf : f (spot_in by x.text) ≡ Some (to_leaf x)
  pub no_other : (bytes : Text) → bytes ≢ slice (text_of old) (length by.prefix) → bytes ≢ slice x.text (length by.prefix)
      → f (spot by.number bytes) ≡ None

module _ (f g : Front) (l k : Lives) (trie : Trie f l) (y by : Layer) (old : Thing) (x : Leaf) (placed : l y.number ≡ in_place y.prefix)
    (was : f (spot_in y by.prefix) ≡ Some old) (unknown : l by.number ≡ unseen by.prefix) (fits : Belongs y (to_layer by))
    (two : JustTwo f by old x) (changed : Changed f g (spot_in y by.prefix) (Some (to_layer by)))
    (lived : Lived l k by.number (in_place by.prefix)) where
  abbrev at : Spot
  at = spot_in y by.prefix

  at_or_not : (q : Spot) → (at ≡ q) ⊎ (at ≢ q)
  at_or_not q = elim (spot_or_not at q) [ inl e ↦ inl e | inr n ↦ inr n.1 ]

  off : (n : ℕ) (more : Text) (a : Life) → l n ≡ a → in_place y.prefix ≢ a → at ≢ spot n more
  off n more a e ne = elsewhere l at (spot n more) (in_place y.prefix) a placed e ne

  -- another layer in place
  other_placed : (n : ℕ) (p : Text) → by.number ≢ n → k n ≡ in_place p → l n ≡ in_place p
  other_placed n p ne e = sym (lived.other n ne) ∙ e

  still_placed : (n : ℕ) (p : Text) → l n ≡ in_place p → k n ≡ in_place p
  still_placed n p e = lived.other n (λ same. let not_it : unseen by.prefix ≡ in_place p = sym unknown ∙ ap l same ∙ e in cc) ∙ e

  -- What a layer in place has: the new one is where the old thing was; the new one has that and the leaf; all else is as it was.
  data Where (w : Layer) (more : Text) (t : Thing) : Type 0 where
    is_above : at ≡ spot w.number more → y ≡ w → t ≡ to_layer by → Where w more t
    is_old : by ≡ w → more ≡ slice (text_of old) (length by.prefix) → t ≡ old → Where w more t
    is_new : by ≡ w → more ≡ slice x.text (length by.prefix) → t ≡ to_leaf x → Where w more t
    is_as_before : by.number ≢ w.number → at ≢ spot w.number more → Has f l w more t → Where w more t

  in_new : (w : Layer) (more : Text) (t : Thing) → Has g k w more t → by ≡ w → Where w more t
  in_new w more t has same =
      let number : by.number ≡ w.number = ap (λ (z : Layer). z.number) same in
      let there : f (spot by.number more) ≡ Some t =
      sym (changed.other (spot by.number more) (off by.number more (unseen by.prefix) unknown (λ e. cc)))
      ∙ ap (λ n. g (spot n more)) number ∙ has.is in
      ⊎_elim
      (λ (e : more ≡ slice (text_of old) (length by.prefix)). is_old same e
      (let told : f (spot by.number more) ≡ Some old = ap (λ s. f (spot by.number s)) e ∙ two.has_old in cc))
      (λ ne. ⊎_elim
      (λ (e : more ≡ slice x.text (length by.prefix)). is_new same e
      (let told : f (spot by.number more) ≡ Some (to_leaf x) = ap (λ s. f (spot by.number s)) e ∙ two.has_leaf in cc))
      (λ other. let nothing = two.no_other more ne other in absurd (cc))
      (text_or_not more (slice x.text (length by.prefix))))
      (text_or_not more (slice (text_of old) (length by.prefix)))

  where_it_is : (w : Layer) (more : Text) (t : Thing) → Has g k w more t → Where w more t
  where_it_is w more t has = dite (ℕ_discrete by.number w.number)
      (λ same. in_new w more t has (let p : by.prefix ≡ w.prefix = placed_once k w.number by.prefix w.prefix (ap k (sym same) ∙ lived.here) has.placed in
      λ i. record { number = same i; prefix = p i }))
      (λ ne.
      let before = other_placed w.number w.prefix ne has.placed in
      ⊎_elim
      (λ (here : at ≡ spot w.number more). is_above here (placed_same l y w placed before (ap (λ (q : Spot). q.within) here))
      (let e : Some (to_layer by) ≡ Some t = sym changed.here ∙ ap g here ∙ has.is in cc))
      (λ off_it. is_as_before ne off_it (record { placed = before; is = sym (changed.other (spot w.number more) off_it) ∙ has.is }))
      (at_or_not (spot w.number more)))

  -- and what had its place before
  has_new : Has g k y (slice by.prefix (length y.prefix)) (to_layer by)
  has_new = record { placed = still_placed y.number y.prefix placed; is = changed.here }

  in_by : (bytes : Text) (t : Thing) → f (spot by.number bytes) ≡ Some t → Has g k by bytes t
  in_by bytes t e = record {
    placed = lived.here;
    is = changed.other (spot by.number bytes) (off by.number bytes (unseen by.prefix) unknown (λ s. cc)) ∙ e;
  }

  has_old : Has g k by (slice (text_of old) (length by.prefix)) old
  has_old = in_by (slice (text_of old) (length by.prefix)) old two.has_old

  has_leaf : Has g k by (slice x.text (length by.prefix)) (to_leaf x)
  has_leaf = in_by (slice x.text (length by.prefix)) (to_leaf x) two.has_leaf

  has_still : (w : Layer) (more : Text) (t : Thing) → Has f l w more t → at ≢ spot w.number more → Has g k w more t
  has_still w more t has ne = record {
    placed = still_placed w.number w.prefix has.placed;
    is = changed.other (spot w.number more) ne ∙ has.is;
  }

  old_has : Has f l y (slice by.prefix (length y.prefix)) old
  old_has = record { placed = placed; is = was }

  long_by : first_bytes ≤ length by.prefix
  long_by = dite (ℕ_discrete y.number zero)
      (λ e. let p : y.prefix ≡ [] = placed_once l y.number y.prefix [] placed (ap l e ∙ trie.root) in
      subst (λ s. length s + bytes_at (length s) ≤ length by.prefix) p fits.whole)
      (λ ne. let long = trie.long y.number y.prefix placed ne in let more = fits.whole in
      let some = some_bytes (length y.prefix) in omega arith)

  belongs_in : (w : Layer) (more : Text) (t : Thing) → Where w more t → Belongs w t × (more ≡ slice (text_of t) (length w.prefix))
  belongs_in w more t (is_above here same is) =
      let bytes : more ≡ slice by.prefix (length y.prefix) = sym (ap (λ (q : Spot). q.slice) here) in
      subst (λ (z : Layer × Thing). Belongs z.0 z.1 × (more ≡ slice (text_of z.1) (length z.0.prefix))) (λ i. (same i, sym is i)) (fits, bytes)
  belongs_in w more t (is_old same bytes is) =
      subst (λ (z : Layer × Thing). Belongs z.0 z.1 × (more ≡ slice (text_of z.1) (length z.0.prefix))) (λ i. (same i, sym is i))
      (two.old_belongs, bytes)
  belongs_in w more t (is_new same bytes is) =
      subst (λ (z : Layer × Thing). Belongs z.0 z.1 × (more ≡ slice (text_of z.1) (length z.0.prefix))) (λ i. (same i, sym is i))
      (record { begins = two.leaf_belongs; whole = tt }, bytes)
  belongs_in w more t (is_as_before ne off_it has) = trie.belongs w more t has

  leads_in : (w : Layer) (more : Text) (t : Thing) (z : Layer) → Where w more t → layer_of t ≡ Some z → k z.number ≡ in_place z.prefix
  leads_in w more t z (is_above here same is) e =
      let it : by ≡ z = (let s : Some by ≡ Some z = sym (ap layer_of is) ∙ e in cc) in
      subst (λ (v : Layer). k v.number ≡ in_place v.prefix) it lived.here
  leads_in w more t z (is_old same bytes is) e =
      still_placed z.number z.prefix (trie.leads y (slice by.prefix (length y.prefix)) old z old_has (sym (ap layer_of is) ∙ e))
  leads_in w more t z (is_new same bytes is) e = let no_layer : None ≡ Some z = sym (ap layer_of is) ∙ e in absurd (cc)
  leads_in w more t z (is_as_before ne off_it has) e = still_placed z.number z.prefix (trie.leads w more t z has e)

  -- nothing led to the new layer before
  not_new : (w : Layer) (more : Text) (t : Thing) → Has f l w more t → layer_of t ≡ Some by → ⊥
  not_new w more t has e = let known = trie.leads w more t by has e in cc

  led_new : (t : Thing) (z : Layer) → t ≡ to_layer by → layer_of t ≡ Some z → by ≡ z
  led_new t z is e = let s : Some by ≡ Some z = sym (ap layer_of is) ∙ e in cc

  no_leaf : (t : Thing) (z : Layer) → t ≡ to_leaf x → layer_of t ≡ Some z → ⊥
  no_leaf t z is e = let s : None ≡ Some z = sym (ap layer_of is) ∙ e in cc

  old_and_new : (t by_it : Thing) (z : Layer) → t ≡ to_layer by → layer_of t ≡ Some z → by_it ≡ old → layer_of by_it ≡ Some z → ⊥
  old_and_new t by_it z is e same d =
      not_new y (slice by.prefix (length y.prefix)) old old_has (sym (ap layer_of same) ∙ d ∙ ap (λ v. Some v) (sym (led_new t z is e)))

  before_and_new : (w : Layer) (more : Text) (t by_it : Thing) (z : Layer) → t ≡ to_layer by → layer_of t ≡ Some z → Has f l w more by_it
      → layer_of by_it ≡ Some z → ⊥
  before_and_new w more t by_it z is e has d = not_new w more by_it has (d ∙ ap (λ v. Some v) (sym (led_new t z is e)))

  before_and_old : (w : Layer) (more : Text) (t by_it : Thing) (z : Layer) → at ≢ spot w.number more → t ≡ old → layer_of t ≡ Some z
      → Has f l w more by_it → layer_of by_it ≡ Some z → ⊥
  before_and_old w more t by_it z ne same e has d =
      ne (trie.one z y w (slice by.prefix (length y.prefix)) more old by_it old_has has (sym (ap layer_of same) ∙ e) d)

  spots_in : (w v : Layer) (more rest bytes : Text) → by ≡ w → by ≡ v → more ≡ bytes → rest ≡ bytes → spot w.number more ≡ spot v.number rest
  spots_in w v more rest bytes a b c d =
      let n : w.number ≡ v.number = ap (λ (z : Layer). z.number) (sym a ∙ b) in let s : more ≡ rest = c ∙ sym d in
      λ i. record { within = n i; slice = s i }

  one_in : (z w v : Layer) (more rest : Text) (t s : Thing) → Where w more t → Where v rest s → layer_of t ≡ Some z → layer_of s ≡ Some z
      → spot w.number more ≡ spot v.number rest
  one_in z w v more rest t s (is_above here a b) (is_above there c d) e i = sym here ∙ there
  one_in z w v more rest t s (is_above here a b) (is_old c d same) e i = absurd (old_and_new t s z b e same i)
  one_in z w v more rest t s (is_above here a b) (is_as_before ne c has) e i = absurd (before_and_new v rest t s z b e has i)
  one_in z w v more rest t s (is_old a b same) (is_above there c d) e i = absurd (old_and_new s t z d i same e)
  one_in z w v more rest t s (is_old a b same) (is_old c d too) e i = spots_in w v more rest (slice (text_of old) (length by.prefix)) a c b d
  one_in z w v more rest t s (is_old a b same) (is_as_before ne c has) e i = absurd (before_and_old v rest t s z c same e has i)
  one_in z w v more rest t s (is_as_before ne a has) (is_above there c d) e i = absurd (before_and_new w more s t z d i has e)
  one_in z w v more rest t s (is_as_before ne a has) (is_old c d same) e i = absurd (before_and_old w more s t z a same i has e)
  one_in z w v more rest t s (is_as_before ne a has) (is_as_before other c its) e i = trie.one z w v more rest t s has its e i
  one_in z w v more rest t s (is_new a b same) there e i = absurd (no_leaf t z same e)
  one_in z w v more rest t s here (is_new a b same) e i = absurd (no_leaf s z same i)

  led_in : (z : Layer) → IsLed f l z → IsLed g k z
  led_in z led = ⊎_elim
      (λ (here : at ≡ spot led.above.number led.bytes).
      let e : old ≡ led.by = (let s : Some old ≡ Some led.by = sym was ∙ ap f here ∙ led.has.is in cc) in
      record { above = by; bytes = slice (text_of old) (length by.prefix); by = old; has = has_old; leads = ap layer_of e ∙ led.leads })
      (λ ne. record { above = led.above; bytes = led.bytes; by = led.by; has = has_still led.above led.bytes led.by led.has ne; leads = led.leads })
      (at_or_not (spot led.above.number led.bytes))

  pub parted : Trie g k
  parted = record {
    root = still_placed zero [] trie.root;
    long = λ n p e ne. dite (ℕ_discrete by.number n)
        (λ same. subst (λ s. first_bytes ≤ length s) (placed_once k n by.prefix p (ap k (sym same) ∙ lived.here) e) long_by)
        (λ other. trie.long n p (other_placed n p other e) ne);
    belongs = λ w more t has. belongs_in w more t (where_it_is w more t has);
    leads = λ w more t z has e. leads_in w more t z (where_it_is w more t has) e;
    one = λ z w v more rest t s has its e i. one_in z w v more rest t s (where_it_is w more t has) (where_it_is v rest s its) e i;
    led = λ z e ne. dite (ℕ_discrete by.number z.number)
        (λ same. let p : by.prefix ≡ z.prefix = placed_once k z.number by.prefix z.prefix (ap k (sym same) ∙ lived.here) e in
        let it : by ≡ z = λ i. record { number = same i; prefix = p i } in
        record { above = y; bytes = slice by.prefix (length y.prefix); by = to_layer by; has = has_new; leads = ap (λ v. Some v) it })
        (λ other. led_in z (trie.led z (other_placed z.number z.prefix other e) ne));
    none = λ n more e. let before = sym (lived.other n (λ same. let it : in_place by.prefix ≡ free = sym lived.here ∙ ap k same ∙ e in cc)) ∙ e in
        changed.other (spot n more) (off n more free before (λ s. cc)) ∙ trie.none n more before;
    gone = λ n p m more e. let before = sym (lived.other n (λ same. let it : in_place by.prefix ≡ taken_out p m = sym lived.here ∙ ap k same ∙ e in cc)) ∙ e in
        changed.other (spot n more) (off n more (taken_out p m) before (λ s. cc)) ∙ trie.gone n p m more before;
    unmarked = λ n p more m z e is.
        let before = sym (lived.other n (λ same. let it : in_place by.prefix ≡ unseen p = sym lived.here ∙ ap k same ∙ e in cc)) ∙ e in
        trie.unmarked n p more m z before (sym (changed.other (spot n more) (off n more (unseen p) before (λ s. cc))) ∙ is);
  }

  -- other strings, and that of the new leaf
  leaf_before : (w : Layer) (more : Text) (z : Leaf) → z.text ≢ x.text → Where w more (to_leaf z) → (v : Layer) × (rest : Text) × Has f l v rest (to_leaf z)
  leaf_before w more z ne (is_above here same is) = absurd (cc)
  leaf_before w more z ne (is_old same bytes is) =
      (y, slice by.prefix (length y.prefix), subst (λ t. Has f l y (slice by.prefix (length y.prefix)) t) (sym is) old_has)
  leaf_before w more z ne (is_new same bytes is) = absurd (ne (ap (λ (v : Leaf). v.text) (let e : z ≡ x = cc in e)))
  leaf_before w more z ne (is_as_before other off_it has) = (w, more, has)

  pub parted_there_before : (t : Text) (v : ℕ) → x.text ≢ t → There g k t v → There f l t v
  parted_there_before t v ne it =
      let r = leaf_before it.layer it.bytes it.leaf (λ e. ne (sym e ∙ it.text_is)) (where_it_is it.layer it.bytes (to_leaf it.leaf) it.has) in
      record { layer = r.0; bytes = r.1; leaf = it.leaf; has = r.2; text_is = it.text_is; value_is = it.value_is }

  pub parted_there_after : (t : Text) (v : ℕ) → There f l t v → There g k t v
  parted_there_after t v it = ⊎_elim
      (λ (here : at ≡ spot it.layer.number it.bytes).
      let e : old ≡ to_leaf it.leaf = (let s : Some old ≡ Some (to_leaf it.leaf) = sym was ∙ ap f here ∙ it.has.is in cc) in
      record {
        layer = by;
        bytes = slice (text_of old) (length by.prefix);
        leaf = it.leaf;
        has = subst (λ u. Has g k by (slice (text_of old) (length by.prefix)) u) e has_old;
        text_is = it.text_is;
        value_is = it.value_is;
      })
      (λ ne. there_by f g l k t v it (has_still it.layer it.bytes (to_leaf it.leaf) it.has ne))
      (at_or_not (spot it.layer.number it.bytes))

  pub parted_adds : There g k x.text x.value
  parted_adds = record {
    layer = by;
    bytes = slice x.text (length by.prefix);
    leaf = x;
    has = has_leaf;
    text_is = refl;
    value_is = refl;
  }

  old_leads_off : (z : Layer) → layer_of old ≡ Some z → Begins z.prefix x.text → ⊥
  old_leads_off z e b =
      let text : text_of old ≡ z.prefix = layer_text old z e in
      let whole = layer_whole (length by.prefix) old z e two.old_belongs.whole in
      two.apart (ap (λ s. slice s (length by.prefix)) text ∙ sym (slice_alike z.prefix x.text (length by.prefix) b whole))

  old_ends : next_on x.text (Some old) ≡ None
  old_ends = is_none (next_on x.text (Some old)) (λ z e.
      let next = next_of x.text (Some old) z e in
      let same : old ≡ next.by = (let s = next.is in cc) in
      old_leads_off z (ap layer_of same ∙ next.leads) next.begins)

  old_is_other : told x.text (Some old) ≡ None
  old_is_other = is_none (told x.text (Some old)) (λ v e.
      let its = told_by (Some old) x.text v e in
      let same : old ≡ to_leaf its.leaf = (let s = its.is in cc) in
      two.apart (ap (λ s. slice s (length by.prefix)) (ap text_of same ∙ its.text_is)))

  pub parted_none : says f x.text ≡ None
  parted_none =
      let same : spot_in y x.text ≡ at =
      ap (spot y.number) (slice_alike by.prefix x.text (length y.prefix) two.leaf_belongs fits.whole) in
      says_there f l trie y x.text (Some old) placed (begins_trans y.prefix by.prefix x.text fits.begins two.leaf_belongs) (ap f same ∙ was) old_ends
      ∙ old_is_other

-- A layer without pairs is taken out with its mark.
module _ (f g : Front) (l k : Lives) (trie : Trie f l) (y : Layer) (bytes : Text) (put moment : ℕ) (z : Layer)
    (has : Has f l y bytes (to_mark put z)) (empty : (more : Text) → f (spot z.number more) ≡ None)
    (changed : Changed f g (spot y.number bytes) None) (lived : Lived l k z.number (taken_out z.prefix moment)) where
  z_placed : l z.number ≡ in_place z.prefix
  z_placed = trie.leads y bytes (to_mark put z) z has refl

  not_outermost : z.number ≢ zero
  not_outermost e =
      let p : z.prefix ≡ [] = placed_once l z.number z.prefix [] z_placed (ap l e ∙ trie.root) in
      let whole = (trie.belongs y bytes (to_mark put z) has).0.whole in
      let some = some_bytes (length y.prefix) in
      let none : length z.prefix ≡ 0 = ap length p in omega arith

  take_or_not : (q : Spot) → (spot y.number bytes ≡ q) ⊎ (spot y.number bytes ≢ q)
  take_or_not q = elim (spot_or_not (spot y.number bytes) q) [ inl e ↦ inl e | inr n ↦ inr n.1 ]

  apart_from : (n : ℕ) (more : Text) (a : Life) → l n ≡ a → in_place y.prefix ≢ a → spot y.number bytes ≢ spot n more
  apart_from n more a e ne = elsewhere l (spot y.number bytes) (spot n more) (in_place y.prefix) a has.placed e ne

  not_taken : (n : ℕ) (a : Life) → k n ≡ a → taken_out z.prefix moment ≢ a → z.number ≢ n
  not_taken n a e ne same = ne (sym lived.here ∙ ap k same ∙ e)

  lives_on : (n : ℕ) (a : Life) → k n ≡ a → taken_out z.prefix moment ≢ a → l n ≡ a
  lives_on n a e ne = sym (lived.other n (not_taken n a e ne)) ∙ e

  had : (w : Layer) (more : Text) (t : Thing) → Has g k w more t → Has f l w more t × (spot y.number bytes ≢ spot w.number more)
  had w more t its =
      let ne : spot y.number bytes ≢ spot w.number more = λ here. let nothing : g (spot w.number more) ≡ None = ap g (sym here) ∙ changed.here in
      let something = its.is in cc in (
        record {
          placed = lives_on w.number (in_place w.prefix) its.placed (λ e. cc);
          is = sym (changed.other (spot w.number more) ne) ∙ its.is;
        },
        ne,
      )

  -- what has a pair isn't the layer that is taken out
  kept : (w : Layer) (more : Text) (t : Thing) → Has f l w more t → z.number ≢ w.number
  kept w more t its same = let nothing : f (spot w.number more) ≡ None = ap (λ n. f (spot n more)) (sym same) ∙ empty more in let something = its.is in cc

  keeps : (w : Layer) (more : Text) (t : Thing) → Has f l w more t → spot y.number bytes ≢ spot w.number more → Has g k w more t
  keeps w more t its ne = record {
    placed = lived.other w.number (kept w more t its) ∙ its.placed;
    is = changed.other (spot w.number more) ne ∙ its.is;
  }

  -- nothing else leads to it
  other_layer : (w : Layer) (more : Text) (t : Thing) (v : Layer) → Has f l w more t → spot y.number bytes ≢ spot w.number more → layer_of t ≡ Some v
      → z.number ≢ v.number
  other_layer w more t v its ne e same =
      let it : z ≡ v = placed_same l z v z_placed (trie.leads w more t v its e) same in
      ne (trie.one z y w bytes more (to_mark put z) t has its refl (e ∙ ap (λ u. Some u) (sym it)))

  led_yet : (v : Layer) → z.number ≢ v.number → IsLed f l v → IsLed g k v
  led_yet v other led = ⊎_elim
      (λ (here : spot y.number bytes ≡ spot led.above.number led.bytes).
      let by : Some (to_mark put z) ≡ Some led.by = sym has.is ∙ ap f here ∙ led.has.is in
      let same : Some z ≡ Some v = ap lead by ∙ led.leads in
      absurd (other (ap (λ (w : Layer). w.number) (let e : z ≡ v = cc in e))))
      (λ ne. record { above = led.above; bytes = led.bytes; by = led.by; has = keeps led.above led.bytes led.by led.has ne; leads = led.leads })
      (take_or_not (spot led.above.number led.bytes))

  no_pair : (n : ℕ) (more : Text) → f (spot n more) ≡ None → g (spot n more) ≡ None
  no_pair n more e = ⊎_elim (λ (here : spot y.number bytes ≡ spot n more). ap g (sym here) ∙ changed.here)
      (λ ne. changed.other (spot n more) ne ∙ e) (take_or_not (spot n more))

  pub taken : Trie g k
  taken = record {
    root = lived.other zero not_outermost ∙ trie.root;
    long = λ n p e ne. trie.long n p (lives_on n (in_place p) e (λ s. cc)) ne;
    belongs = λ w more t its. trie.belongs w more t (had w more t its).0;
    leads = λ w more t v its e. let h = had w more t its in
        lived.other v.number (other_layer w more t v h.0 h.1 e) ∙ trie.leads w more t v h.0 e;
    one = λ v w other more rest t s its their e d. trie.one v w other more rest t s (had w more t its).0 (had other rest s their).0 e d;
    led = λ v e ne. led_yet v (not_taken v.number (in_place v.prefix) e (λ s. cc)) (trie.led v (lives_on v.number (in_place v.prefix) e (λ s. cc)) ne);
    none = λ n more e. no_pair n more (trie.none n more (lives_on n free e (λ s. cc)));
    gone = λ n p m more e. no_pair n more (dite (ℕ_discrete z.number n) (λ same. ap (λ i. f (spot i more)) (sym same) ∙ empty more)
        (λ ne. trie.gone n p m more (sym (lived.other n ne) ∙ e)));
    unmarked = λ n p more m v e is. let before = lives_on n (unseen p) e (λ s. cc) in
        trie.unmarked n p more m v before
        (sym (changed.other (spot n more) (apart_from n more (unseen p) before (λ s. cc))) ∙ is);
  }

  pub taken_there_before : (t : Text) (v : ℕ) → There g k t v → There f l t v
  taken_there_before t v it = there_by g f k l t v it (had it.layer it.bytes (to_leaf it.leaf) it.has).0

  pub taken_there_after : (t : Text) (v : ℕ) → There f l t v → There g k t v
  taken_there_after t v it = there_by f g l k t v it (keeps it.layer it.bytes (to_leaf it.leaf) it.has
      (λ here. let same : Some (to_mark put z) ≡ Some (to_leaf it.leaf) = sym has.is ∙ ap f here ∙ it.has.is in cc))

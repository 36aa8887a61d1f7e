-- Changes that leave each layer where it is: the pairs are a trie still, and other strings are said to have what they had.
use Rattle.std.proofs.Common.{◌≡◌, ◌≢◌, ◌⊎◌, inl, inr, ⊎_elim, ℕ, zero, [], length, Option, Some, None, refl, sym, ap, subst, ◌∙◌}
use mathlib.Core.Logic.{dite}
use native.Mathlib.Decide.{ℕ_discrete}
use Rattle.string_layers.specs.Things.{Text, slice, Begins, Layer, Leaf, Thing, to_leaf, to_mark, layer_of, text_of, Spot, Belongs}
use Rattle.string_layers.specs.Fronts.{Front, says}
use Rattle.string_layers.specs.Events.{Life, free, unseen, in_place, taken_out}
use Rattle.string_layers.proofs.Texts.{spot_or_not}
use Rattle.string_layers.proofs.Trie.{spot, Lives, Has, IsLed, Trie, There, there_by, placed_once, says_alike, says_there, leaf_says}

-- One pair changed, or one life.
pub record Changed (f g : Front) (at : Spot) (x : Option Thing) : Type 0 where
  pub here : g at ≡ x
  pub other : (q : Spot) → at ≢ q → g q ≡ f q

pub record Lived (l k : Lives) (n : ℕ) (a : Life) : Type 0 where
  pub here : k n ≡ a
  pub other : (m : ℕ) → n ≢ m → k m ≡ l m

abbrev pub lead : Option Thing → Option Layer
lead None = None
lead (Some x) = layer_of x

pub led_by : (o : Option Thing) (z : Layer) → lead o ≡ Some z → (x : Thing) × (o ≡ Some x) × (layer_of x ≡ Some z)
led_by None z e = absurd (cc)
led_by (Some x) z e = (x, refl, e)

-- spots of layers with unlike lives are two
pub elsewhere : (l : Lives) (at q : Spot) (a b : Life) → l at.within ≡ a → l q.within ≡ b → a ≢ b → at ≢ q
elsewhere l at q a b is its apart e = apart (sym is ∙ ap (λ (s : Spot). l s.within) e ∙ its)

pub placed_same : (l : Lives) (y z : Layer) → l y.number ≡ in_place y.prefix → l z.number ≡ in_place z.prefix → y.number ≡ z.number → y ≡ z
placed_same l y z a b e = let p : y.prefix ≡ z.prefix = placed_once l z.number y.prefix z.prefix (ap l (sym e) ∙ a) b in
    λ i. record { number = e i; prefix = p i }

-- A number without pairs gets another life, before and after which its layer isn't in place.
module _ (f : Front) (l k : Lives) (trie : Trie f l) (n : ℕ) (a : Life) (lived : Lived l k n a) (before : (p : Text) → l n ≢ in_place p)
    (now : (p : Text) → a ≢ in_place p) (none : (bytes : Text) → f (spot n bytes) ≡ None) where
  placed_before : (m : ℕ) (p : Text) → k m ≡ in_place p → l m ≡ in_place p
  placed_before m p e = sym (lived.other m (λ same. now p (sym lived.here ∙ ap k same ∙ e))) ∙ e

  placed_after : (m : ℕ) (p : Text) → l m ≡ in_place p → k m ≡ in_place p
  placed_after m p e = lived.other m (λ same. before p (ap l same ∙ e)) ∙ e

  has_before : (y : Layer) (bytes : Text) (x : Thing) → Has f k y bytes x → Has f l y bytes x
  has_before y bytes x has = record { placed = placed_before y.number y.prefix has.placed; is = has.is }

  has_after : (y : Layer) (bytes : Text) (x : Thing) → Has f l y bytes x → Has f k y bytes x
  has_after y bytes x has = record { placed = placed_after y.number y.prefix has.placed; is = has.is }

  led_after : (z : Layer) → IsLed f l z → IsLed f k z
  led_after z led = record { above = led.above; bytes = led.bytes; by = led.by; has = has_after led.above led.bytes led.by led.has; leads = led.leads }

  pub number_lives : Trie f k
  number_lives = record {
    root = placed_after zero [] trie.root;
    long = λ m p e. trie.long m p (placed_before m p e);
    belongs = λ y bytes x has. trie.belongs y bytes x (has_before y bytes x has);
    leads = λ y bytes x z has e. placed_after z.number z.prefix (trie.leads y bytes x z (has_before y bytes x has) e);
    one = λ z y other bytes more x by has its e d.
        trie.one z y other bytes more x by (has_before y bytes x has) (has_before other more by its) e d;
    led = λ z e ne. led_after z (trie.led z (placed_before z.number z.prefix e) ne);
    none = λ m bytes e. dite (ℕ_discrete n m) (λ same. ap (λ i. f (spot i bytes)) (sym same) ∙ none bytes)
        (λ ne. trie.none m bytes (sym (lived.other m ne) ∙ e));
    gone = λ m p i bytes e. dite (ℕ_discrete n m) (λ same. ap (λ j. f (spot j bytes)) (sym same) ∙ none bytes)
        (λ ne. trie.gone m p i bytes (sym (lived.other m ne) ∙ e));
    unmarked = λ m p bytes i z e is. dite (ℕ_discrete n m)
        (λ same. let nothing : f (spot m bytes) ≡ None = ap (λ j. f (spot j bytes)) (sym same) ∙ none bytes in cc)
        (λ ne. trie.unmarked m p bytes i z (sym (lived.other m ne) ∙ e) is);
  }

  pub there_before : (t : Text) (v : ℕ) → There f k t v → There f l t v
  there_before t v it = there_by f f k l t v it (has_before it.layer it.bytes (to_leaf it.leaf) it.has)

  pub there_after : (t : Text) (v : ℕ) → There f l t v → There f k t v
  there_after t v it = there_by f f l k t v it (has_after it.layer it.bytes (to_leaf it.leaf) it.has)

-- A pair of a layer that nobody knows changes, not to a mark.
module _ (f g : Front) (l : Lives) (trie : Trie f l) (at : Spot) (x : Option Thing) (changed : Changed f g at x) (prefix : Text)
    (unknown : l at.within ≡ unseen prefix) (no_mark : (m : ℕ) (z : Layer) → x ≢ Some (to_mark m z)) where
  apart : (n : ℕ) (bytes : Text) (a : Life) → l n ≡ a → unseen prefix ≢ a → at ≢ spot n bytes
  apart n bytes a e ne = elsewhere l at (spot n bytes) (unseen prefix) a unknown e ne

  away : (y : Layer) (bytes : Text) → l y.number ≡ in_place y.prefix → at ≢ spot y.number bytes
  away y bytes placed = apart y.number bytes (in_place y.prefix) placed (λ e. cc)

  unseen_before : (y : Layer) (bytes : Text) (t : Thing) → Has g l y bytes t → Has f l y bytes t
  unseen_before y bytes t has = record {
    placed = has.placed;
    is = sym (changed.other (spot y.number bytes) (away y bytes has.placed)) ∙ has.is;
  }

  unseen_after : (y : Layer) (bytes : Text) (t : Thing) → Has f l y bytes t → Has g l y bytes t
  unseen_after y bytes t has = record {
    placed = has.placed;
    is = changed.other (spot y.number bytes) (away y bytes has.placed) ∙ has.is;
  }

  unseen_led : (z : Layer) → IsLed f l z → IsLed g l z
  unseen_led z led = record { above = led.above; bytes = led.bytes; by = led.by; has = unseen_after led.above led.bytes led.by led.has; leads = led.leads }

  pub unseen_changes : Trie g l
  unseen_changes = record {
    root = trie.root;
    long = trie.long;
    belongs = λ y bytes t has. trie.belongs y bytes t (unseen_before y bytes t has);
    leads = λ y bytes t z has e. trie.leads y bytes t z (unseen_before y bytes t has) e;
    one = λ z y other bytes more t by has its e d.
        trie.one z y other bytes more t by (unseen_before y bytes t has) (unseen_before other more by its) e d;
    led = λ z e ne. unseen_led z (trie.led z e ne);
    none = λ n bytes e. changed.other (spot n bytes) (apart n bytes free e (λ s. cc)) ∙ trie.none n bytes e;
    gone = λ n p m bytes e. changed.other (spot n bytes) (apart n bytes (taken_out p m) e (λ s. cc)) ∙ trie.gone n p m bytes e;
    unmarked = λ n p bytes m z e is. ⊎_elim
        (λ (same : at ≡ spot n bytes). no_mark m z (sym changed.here ∙ ap g same ∙ is))
        (λ ne. trie.unmarked n p bytes m z e (sym (changed.other (spot n bytes) ne.1) ∙ is))
        (spot_or_not at (spot n bytes));
  }

  pub unseen_there_before : (t : Text) (v : ℕ) → There g l t v → There f l t v
  unseen_there_before t v it = there_by g f l l t v it (unseen_before it.layer it.bytes (to_leaf it.leaf) it.has)

  pub unseen_there_after : (t : Text) (v : ℕ) → There f l t v → There g l t v
  unseen_there_after t v it = there_by f g l l t v it (unseen_after it.layer it.bytes (to_leaf it.leaf) it.has)

abbrev pub IsNotOf : Text → Option Thing → Type 0
IsNotOf t o = (x : Leaf) → o ≡ Some (to_leaf x) → x.text ≢ t

-- A pair of a layer in place changes, and leads to a layer just where it did before, and to the same.
module _ (f g : Front) (l : Lives) (trie : Trie f l) (y : Layer) (bytes : Text) (o x : Option Thing) (placed : l y.number ≡ in_place y.prefix)
    (was : f (spot y.number bytes) ≡ o) (changed : Changed f g (spot y.number bytes) x) (same : lead o ≡ lead x)
    (fits : (t : Thing) → x ≡ Some t → Belongs y t × (bytes ≡ slice (text_of t) (length y.prefix))) where
  at_or_not : (q : Spot) → (spot y.number bytes ≡ q) ⊎ (spot y.number bytes ≢ q)
  at_or_not q = elim (spot_or_not (spot y.number bytes) q) [ inl e ↦ inl e | inr n ↦ inr n.1 ]

  off : (n : ℕ) (more : Text) (a : Life) → l n ≡ a → in_place y.prefix ≢ a → spot y.number bytes ≢ spot n more
  off n more a e ne = elsewhere l (spot y.number bytes) (spot n more) (in_place y.prefix) a placed e ne

  unmoved : (w : Layer) (more : Text) (t : Thing) → Has g l w more t → spot y.number bytes ≢ spot w.number more → Has f l w more t
  unmoved w more t has ne = record { placed = has.placed; is = sym (changed.other (spot w.number more) ne) ∙ has.is }

  stays : (w : Layer) (more : Text) (t : Thing) → Has f l w more t → spot y.number bytes ≢ spot w.number more → Has g l w more t
  stays w more t has ne = record { placed = has.placed; is = changed.other (spot w.number more) ne ∙ has.is }

  -- what led on from there before and after
  was_led : (w : Layer) (more : Text) (t : Thing) (z : Layer) → Has g l w more t → layer_of t ≡ Some z
      → (by : Thing) × Has f l w more by × (layer_of by ≡ Some z)
  was_led w more t z has e = ⊎_elim
      (λ (here : spot y.number bytes ≡ spot w.number more).
      let r = led_by o z (same ∙ ap lead (sym changed.here ∙ ap g here ∙ has.is) ∙ e) in
      (r.0, record { placed = has.placed; is = ap f (sym here) ∙ was ∙ r.1 }, r.2))
      (λ ne. (t, unmoved w more t has ne, e))
      (at_or_not (spot w.number more))

  still_led : (w : Layer) (more : Text) (t : Thing) (z : Layer) → Has f l w more t → layer_of t ≡ Some z
      → (by : Thing) × Has g l w more by × (layer_of by ≡ Some z)
  still_led w more t z has e = ⊎_elim
      (λ (here : spot y.number bytes ≡ spot w.number more).
      let r = led_by x z (sym same ∙ ap lead (sym was ∙ ap f here ∙ has.is) ∙ e) in
      (r.0, record { placed = has.placed; is = ap g (sym here) ∙ changed.here ∙ r.1 }, r.2))
      (λ ne. (t, stays w more t has ne, e))
      (at_or_not (spot w.number more))

  belongs_there : (w : Layer) (more : Text) (t : Thing) → Has g l w more t → Belongs w t × (more ≡ slice (text_of t) (length w.prefix))
  belongs_there w more t has = ⊎_elim
      (λ (here : spot y.number bytes ≡ spot w.number more).
      let b = fits t (sym changed.here ∙ ap g here ∙ has.is) in
      let it : y ≡ w = placed_same l y w placed has.placed (ap (λ (q : Spot). q.within) here) in
      let bits : bytes ≡ more = ap (λ (q : Spot). q.slice) here in
      subst (λ (v : Layer). Belongs v t × (more ≡ slice (text_of t) (length v.prefix))) it (b.0, sym bits ∙ b.1))
      (λ ne. trie.belongs w more t (unmoved w more t has ne))
      (at_or_not (spot w.number more))

  led_still : (z : Layer) → IsLed f l z → IsLed g l z
  led_still z led = let r = still_led led.above led.bytes led.by z led.has led.leads in
      record { above = led.above; bytes = led.bytes; by = r.0; has = r.1; leads = r.2 }

  pub leads_alike : Trie g l
  leads_alike = record {
    root = trie.root;
    long = trie.long;
    belongs = belongs_there;
    leads = λ w more t z has e. let r = was_led w more t z has e in trie.leads w more r.0 z r.1 r.2;
    one = λ z w other more rest t by has its e d.
        let a = was_led w more t z has e in let b = was_led other rest by z its d in
        trie.one z w other more rest a.0 b.0 a.1 b.1 a.2 b.2;
    led = λ z e ne. led_still z (trie.led z e ne);
    none = λ n more e. changed.other (spot n more) (off n more free e (λ s. cc)) ∙ trie.none n more e;
    gone = λ n p m more e. changed.other (spot n more) (off n more (taken_out p m) e (λ s. cc)) ∙ trie.gone n p m more e;
    unmarked = λ n p more m z e is.
        trie.unmarked n p more m z e (sym (changed.other (spot n more) (off n more (unseen p) e (λ s. cc))) ∙ is);
  }

  pub other_there_before : (t : Text) (v : ℕ) → IsNotOf t x → There g l t v → There f l t v
  other_there_before t v not_it it = there_by g f l l t v it (unmoved it.layer it.bytes (to_leaf it.leaf) it.has
      (λ here. not_it it.leaf (sym changed.here ∙ ap g here ∙ it.has.is) it.text_is))

  pub other_there_after : (t : Text) (v : ℕ) → IsNotOf t o → There f l t v → There g l t v
  other_there_after t v not_it it = there_by f g l l t v it (stays it.layer it.bytes (to_leaf it.leaf) it.has
      (λ here. not_it it.leaf (sym was ∙ ap f here ∙ it.has.is) it.text_is))

-- The same as one record.
pub record PairChanges (f g : Front) (l : Lives) : Type 0 where
  pub layer : Layer
  pub bytes : Text
  pub was : Option Thing
  pub now : Option Thing
  pub placed : l layer.number ≡ in_place layer.prefix
  pub is : f (spot layer.number bytes) ≡ was
  pub changed : Changed f g (spot layer.number bytes) now
  pub same : lead was ≡ lead now
  pub fits : (t : Thing) → now ≡ Some t → Belongs layer t × (bytes ≡ slice (text_of t) (length layer.prefix))

pub trie_after : (f g : Front) (l : Lives) → Trie f l → PairChanges f g l → Trie g l
trie_after f g l trie p = leads_alike f g l trie p.layer p.bytes p.was p.now p.placed p.is p.changed p.same p.fits

pub others_say : (f g : Front) (l : Lives) (trie : Trie f l) (p : PairChanges f g l) (t : Text) → IsNotOf t p.was → IsNotOf t p.now
    → says g t ≡ says f t
others_say f g l trie p t before after = says_alike f g l l t trie (trie_after f g l trie p)
    (λ v it. other_there_after f g l trie p.layer p.bytes p.was p.now p.placed p.is p.changed p.same p.fits t v before it)
    (λ v it. other_there_before f g l trie p.layer p.bytes p.was p.now p.placed p.is p.changed p.same p.fits t v after it)

-- what the string whose pair it is has before and after
pub before_none : (f g : Front) (l : Lives) (trie : Trie f l) (p : PairChanges f g l) (t : Text) → Begins p.layer.prefix t
    → p.bytes ≡ slice t (length p.layer.prefix) → p.was ≡ None → says f t ≡ None
before_none f g l trie p t b bytes none = says_there f l trie p.layer t None p.placed b
    (ap (λ s. f (spot p.layer.number s)) (sym bytes) ∙ p.is ∙ none) refl

pub after_none : (f g : Front) (l : Lives) (trie : Trie f l) (p : PairChanges f g l) (t : Text) → Begins p.layer.prefix t
    → p.bytes ≡ slice t (length p.layer.prefix) → p.now ≡ None → says g t ≡ None
after_none f g l trie p t b bytes none = says_there g l (trie_after f g l trie p) p.layer t None p.placed b
    (ap (λ s. g (spot p.layer.number s)) (sym bytes) ∙ p.changed.here ∙ none) refl

pub before_leaf : (f g : Front) (l : Lives) (trie : Trie f l) (p : PairChanges f g l) (x : Leaf) → p.was ≡ Some (to_leaf x)
    → says f x.text ≡ Some x.value
before_leaf f g l trie p x is = leaf_says f l trie p.layer p.bytes x (record { placed = p.placed; is = p.is ∙ is })

pub after_leaf : (f g : Front) (l : Lives) (trie : Trie f l) (p : PairChanges f g l) (x : Leaf) → p.now ≡ Some (to_leaf x)
    → says g x.text ≡ Some x.value
after_leaf f g l trie p x is = leaf_says g l (trie_after f g l trie p) p.layer p.bytes x
    (record { placed = p.placed; is = p.changed.here ∙ is })

-- Each update that a history may have keeps what holds.
use Rattle.std.proofs.Common.{◌≡◌, ◌≢◌, inl, inr, ⊎_elim, ℕ, ◌<◌, List, ◌∷◌, length, Option, Some, None, refl, sym, ap, subst, ◌∙◌}
use Rattle.string_layers.specs.Things.{Text, slice, Begins, Layer, Leaf, Thing, to_leaf, to_layer, to_mark, text_of, spot_in, Belongs}
use Rattle.string_layers.specs.Fronts.{Front, says}
use Rattle.string_layers.specs.Events.{Event, adds, exchanges, parts, removes, marks, puts_back, front, Life, free, unseen, in_place, taken_out, life, Section}
use Rattle.string_layers.specs.Histories.{MayAdd, MayExchange, MayPart, HasJust, MayRemove, MayMark}
use Rattle.string_layers.proofs.Trie.{Lives, Trie, there_says, says_alike}
use Rattle.string_layers.proofs.Frames.{Changed, Lived, PairChanges, trie_after}
use Rattle.string_layers.proofs.Layers.{JustTwo, parted, parted_none, parted_adds, parted_there_after, parted_there_before}
use Rattle.string_layers.proofs.Sections.{changed_by, lived_by, KnownNow, Holds, section_stays, holds_by, marks_were, empty_still, has_not_none, mark_stands, caller_in, caller_unmarked, not_emptied}

-- what a pair leads to may stand where it does
abbrev Fits : Layer → Text → Option Thing → Type 0
Fits y bytes x = (t : Thing) → x ≡ Some t → Belongs y t × (bytes ≡ slice (text_of t) (length y.prefix))

pub fits_by : (y : Layer) (bytes : Text) (x : Thing) → Belongs y x → bytes ≡ slice (text_of x) (length y.prefix) → Fits y bytes (Some x)
fits_by y bytes x b e t is = let same : x ≡ t = cc in
    subst (λ z. Belongs y z × (bytes ≡ slice (text_of z) (length y.prefix))) same (b, e)

pub fits_none : (y : Layer) (bytes : Text) → Fits y bytes None
fits_none y bytes t is = absurd (cc)

pub leaf_fits : (y : Layer) (x : Leaf) → Begins y.prefix x.text → Fits y (slice x.text (length y.prefix)) (Some (to_leaf x))
leaf_fits y x b = fits_by y (slice x.text (length y.prefix)) (to_leaf x) (record { begins = b; whole = tt }) refl

-- An update of a pair in place that leaves the lives as they are.
module _ (h : List Event) (old : Holds h) where
  abbrev pub added : (c : ℕ) (y : Layer) (x : Leaf) → MayAdd h c y x → PairChanges (front h) (front (adds c y x ∷ h)) (life h)
  added c y x may = record {
    layer = y;
    bytes = slice x.text (length y.prefix);
    was = None;
    now = Some (to_leaf x);
    placed = caller_unmarked h old c y may.caller;
    is = may.none;
    changed = changed_by h (adds c y x) (record { at = spot_in y x.text; now = Some (to_leaf x) }) refl;
    same = refl;
    fits = leaf_fits y x may.belongs;
  }

  pub adds_keeps : (c : ℕ) (y : Layer) (x : Leaf) → MayAdd h c y x → Holds (adds c y x ∷ h)
  adds_keeps c y x may =
      let changed = changed_by h (adds c y x) (record { at = spot_in y x.text; now = Some (to_leaf x) }) refl in
      let marks_are = marks_were h (adds c y x) (spot_in y x.text) (Some (to_leaf x)) changed (λ m z e. absurd (cc)) in
      holds_by h (adds c y x) old (trie_after (front h) (front (adds c y x ∷ h)) (life h) old.trie (added c y x may)) (λ n p m is. inl is)
      (λ d s is. section_stays h (adds c y x) s (old.sections d s is) (λ z goes known. known) (λ z among placed. placed) marks_are)
      marks_are (λ m goes less out. out)
      (λ m z q is none out. empty_still (front h) (front (adds c y x ∷ h)) (spot_in y x.text) (Some (to_leaf x)) z.number changed
      (inl (not_emptied h old c y z q m may.caller is out)) none)
      (λ m z was. was) (λ m a was. was)

  pub exchange_fits : (c : ℕ) (y : Layer) (was x : Leaf) → MayExchange h c y was x → Begins y.prefix x.text
  exchange_fits c y was x may =
      let placed = caller_in h old c y (slice x.text (length y.prefix)) (to_leaf was) may.caller may.was in
      let b = old.trie.belongs y (slice x.text (length y.prefix)) (to_leaf was) (record { placed = placed; is = may.was }) in
      subst (λ t. Begins y.prefix t) (sym may.same) b.0.begins

  abbrev pub exchanged : (c : ℕ) (y : Layer) (was x : Leaf) → MayExchange h c y was x → PairChanges (front h) (front (exchanges c y was x ∷ h)) (life h)
  exchanged c y was x may = record {
    layer = y;
    bytes = slice x.text (length y.prefix);
    was = Some (to_leaf was);
    now = Some (to_leaf x);
    placed = caller_in h old c y (slice x.text (length y.prefix)) (to_leaf was) may.caller may.was;
    is = may.was;
    changed = changed_by h (exchanges c y was x) (record { at = spot_in y x.text; now = Some (to_leaf x) }) refl;
    same = refl;
    fits = leaf_fits y x (exchange_fits c y was x may);
  }

  pub exchanges_keeps : (c : ℕ) (y : Layer) (was x : Leaf) → MayExchange h c y was x → Holds (exchanges c y was x ∷ h)
  exchanges_keeps c y was x may =
      let changed = changed_by h (exchanges c y was x) (record { at = spot_in y x.text; now = Some (to_leaf x) }) refl in
      let marks_are = marks_were h (exchanges c y was x) (spot_in y x.text) (Some (to_leaf x)) changed (λ m z e. absurd (cc)) in
      holds_by h (exchanges c y was x) old (trie_after (front h) (front (exchanges c y was x ∷ h)) (life h) old.trie (exchanged c y was x may)) (λ n p m is. inl is)
      (λ d s is. section_stays h (exchanges c y was x) s (old.sections d s is) (λ z goes known. known) (λ z among placed. placed) marks_are)
      marks_are (λ m goes less out. out)
      (λ m z q is none out. empty_still (front h) (front (exchanges c y was x ∷ h)) (spot_in y x.text) (Some (to_leaf x)) z.number changed
      (inl (has_not_none (front h) (spot_in y x.text) (to_leaf was) z.number may.was none)) none)
      (λ m z was. was) (λ m a was. was)

  abbrev pub removed : (c : ℕ) (y : Layer) (x : Leaf) → MayRemove h c y x → PairChanges (front h) (front (removes c y x ∷ h)) (life h)
  removed c y x may = record {
    layer = y;
    bytes = slice x.text (length y.prefix);
    was = Some (to_leaf x);
    now = None;
    placed = caller_in h old c y (slice x.text (length y.prefix)) (to_leaf x) may.caller may.was;
    is = may.was;
    changed = changed_by h (removes c y x) (record { at = spot_in y x.text; now = None }) refl;
    same = refl;
    fits = fits_none y (slice x.text (length y.prefix));
  }

  pub removes_keeps : (c : ℕ) (y : Layer) (x : Leaf) → MayRemove h c y x → Holds (removes c y x ∷ h)
  removes_keeps c y x may =
      let changed = changed_by h (removes c y x) (record { at = spot_in y x.text; now = None }) refl in
      let marks_are = marks_were h (removes c y x) (spot_in y x.text) None changed (λ m z e. absurd (cc)) in
      holds_by h (removes c y x) old (trie_after (front h) (front (removes c y x ∷ h)) (life h) old.trie (removed c y x may)) (λ n p m is. inl is)
      (λ d s is. section_stays h (removes c y x) s (old.sections d s is) (λ z goes known. known) (λ z among placed. placed) marks_are)
      marks_are (λ m goes less out. out)
      (λ m z q is none out. empty_still (front h) (front (removes c y x ∷ h)) (spot_in y x.text) None z.number changed (inr refl) none)
      (λ m z was. was) (λ m a was. was)

  abbrev pub marked : (c : ℕ) (y z : Layer) → MayMark h c y z → PairChanges (front h) (front (marks c y z ∷ h)) (life h)
  marked c y z may =
      let bytes = slice z.prefix (length y.prefix) in
      let placed = caller_in h old c y bytes (to_layer z) may.caller may.was in
      let b = old.trie.belongs y bytes (to_layer z) (record { placed = placed; is = may.was }) in
      record {
        layer = y;
        bytes = slice z.prefix (length y.prefix);
        was = Some (to_layer z);
        now = Some (to_mark (length h) z);
        placed = placed;
        is = may.was;
        changed = changed_by h (marks c y z) (record { at = spot_in y z.prefix; now = Some (to_mark (length h) z) }) refl;
        same = refl;
        fits = fits_by y bytes (to_mark (length h) z) (record { begins = b.0.begins; whole = b.0.whole }) b.1;
      }

  pub marks_keeps : (c : ℕ) (y z : Layer) → MayMark h c y z → Holds (marks c y z ∷ h)
  marks_keeps c y z may =
      let new = Some (to_mark (length h) z) in
      let changed = changed_by h (marks c y z) (record { at = spot_in y z.prefix; now = new }) refl in
      let marks_are = marks_were h (marks c y z) (spot_in y z.prefix) new changed
      (λ m w e. let same : to_mark (length h) z ≡ to_mark m w = cc in (let n : length h ≡ m = cc in sym n)) in
      holds_by h (marks c y z) old (trie_after (front h) (front (marks c y z ∷ h)) (life h) old.trie (marked c y z may)) (λ n p m is. inl is)
      (λ d s is. section_stays h (marks c y z) s (old.sections d s is) (λ w goes known. known) (λ w among placed. placed) marks_are)
      marks_are (λ m goes less out. out)
      (λ m w q is none out. empty_still (front h) (front (marks c y z ∷ h)) (spot_in y z.prefix) new w.number changed
      (inl (has_not_none (front h) (spot_in y z.prefix) (to_layer z) w.number may.was none)) none)
      (λ m w was. was) (λ m a was. was)

  -- a mark is put back, whoever does it: so its layer is the one that has the pair
  abbrev pub put_back : (y : Layer) (m : ℕ) (z : Layer) → front h (spot_in y z.prefix) ≡ Some (to_mark m z)
      → PairChanges (front h) (front (puts_back y m z ∷ h)) (life h)
  put_back y m z was =
      let at = mark_stands h old (spot_in y z.prefix) m z was in
      let its : Layer = record { number = y.number; prefix = at.0 } in
      let bytes = slice z.prefix (length y.prefix) in
      let b = old.trie.belongs its bytes (to_mark m z) (record { placed = at.1; is = was }) in
      record {
        layer = its;
        bytes = slice z.prefix (length y.prefix);
        was = Some (to_mark m z);
        now = Some (to_layer z);
        placed = at.1;
        is = was;
        changed = changed_by h (puts_back y m z) (record { at = spot_in y z.prefix; now = Some (to_layer z) }) refl;
        same = refl;
        fits = fits_by its bytes (to_layer z) (record { begins = b.0.begins; whole = b.0.whole }) b.1;
      }

  pub puts_back_keeps : (y : Layer) (m : ℕ) (z : Layer) → front h (spot_in y z.prefix) ≡ Some (to_mark m z) → Holds (puts_back y m z ∷ h)
  puts_back_keeps y m z was =
      let changed = changed_by h (puts_back y m z) (record { at = spot_in y z.prefix; now = Some (to_layer z) }) refl in
      let marks_are = marks_were h (puts_back y m z) (spot_in y z.prefix) (Some (to_layer z)) changed (λ i w e. absurd (cc)) in
      holds_by h (puts_back y m z) old (trie_after (front h) (front (puts_back y m z ∷ h)) (life h) old.trie (put_back y m z was)) (λ n p i is. inl is)
      (λ d s is. section_stays h (puts_back y m z) s (old.sections d s is) (λ w goes known. known) (λ w among placed. placed) marks_are)
      marks_are (λ m goes less out. out)
      (λ i w q is none out. empty_still (front h) (front (puts_back y m z ∷ h)) (spot_in y z.prefix) (Some (to_layer z)) w.number changed
      (inl (has_not_none (front h) (spot_in y z.prefix) (to_mark m z) w.number was none)) none)
      (λ i w was. was) (λ m a was. was)

  -- what sections know of the layers with other numbers stays
  pub lives_on : (e : Event) (s : Section) (w : Layer) → life (e ∷ h) w.number ≡ life h w.number → KnownNow h s w → KnownNow (e ∷ h) s w
  lives_on e s w same known = ⊎_elim (λ placed. inl (same ∙ placed)) (λ gone. inr (gone.0, same ∙ gone.1, gone.2)) known

  pub known_lives : (s : Section) (w : Layer) (a : Life) → KnownNow h s w → life h w.number ≡ a → a ≢ free × ((p : Text) → a ≢ unseen p)
  known_lives s w a known is = ⊎_elim
      (λ (placed : life h w.number ≡ in_place w.prefix). ((λ e. cc), (λ p e. cc)))
      (λ (gone : (m : ℕ) × (life h w.number ≡ taken_out w.prefix m) × (s.since < m)). let g = gone.1 in ((λ e. cc), (λ p e. cc)))
      known

  -- A layer is put above what stood there.
  two_of : (by : Layer) (was : Thing) (x : Leaf) → HasJust h by was x → JustTwo (front h) by was x
  two_of by was x has = record {
    old_belongs = has.old_belongs;
    leaf_belongs = has.leaf_belongs;
    apart = has.apart;
    has_old = has.has_old;
    has_leaf = has.has_leaf;
    no_other = has.no_other;
  }

  pub in_parting : (c : ℕ) (y : Layer) (was : Thing) (by : Layer) (x : Leaf) → MayPart h c y was by x → life h y.number ≡ in_place y.prefix
  in_parting c y was by x may = caller_in h old c y (slice by.prefix (length y.prefix)) was may.caller may.was

  pub is_parted : (c : ℕ) (y : Layer) (was : Thing) (by : Layer) (x : Leaf) → MayPart h c y was by x
      → Trie (front (parts c y was by x ∷ h)) (life (parts c y was by x ∷ h))
  is_parted c y was by x may = let e = parts c y was by x in
      parted (front h) (front (e ∷ h)) (life h) (life (e ∷ h)) old.trie y by was x (in_parting c y was by x may) may.was may.unknown may.belongs
      (two_of by was x may.has) (changed_by h e (record { at = spot_in y by.prefix; now = Some (to_layer by) }) refl)
      (lived_by h e (record { number = by.number; life = in_place by.prefix }) refl)

  pub parts_keeps : (c : ℕ) (y : Layer) (was : Thing) (by : Layer) (x : Leaf) → MayPart h c y was by x → Holds (parts c y was by x ∷ h)
  parts_keeps c y was by x may =
      let e = parts c y was by x in
      let changed = changed_by h e (record { at = spot_in y by.prefix; now = Some (to_layer by) }) refl in
      let lived = lived_by h e (record { number = by.number; life = in_place by.prefix }) refl in
      let marks_are = marks_were h e (spot_in y by.prefix) (Some (to_layer by)) changed (λ i w s. absurd (cc)) in
      holds_by h e old (is_parted c y was by x may)
      (λ n p m is. inl (sym (lived.other n (λ same. let it : in_place by.prefix ≡ taken_out p m = sym lived.here ∙ ap (life (e ∷ h)) same ∙ is in cc)) ∙ is))
      (λ d s is. section_stays h e s (old.sections d s is)
      (λ w goes known. lives_on e s w (lived.other w.number (λ same. (known_lives s w (unseen by.prefix) known (ap (life h) (sym same) ∙ may.unknown)).1 by.prefix refl)) known)
      (λ w among placed. lived.other w.number (λ same. let it : unseen by.prefix ≡ in_place w.prefix = sym may.unknown ∙ ap (life h) same ∙ placed in cc) ∙ placed)
      marks_are)
      marks_are (λ m goes less out. out)
      (λ m w q is none out. empty_still (front h) (front (e ∷ h)) (spot_in y by.prefix) (Some (to_layer by)) w.number changed
      (inl (has_not_none (front h) (spot_in y by.prefix) was w.number may.was none)) none)
      (λ m w was. was) (λ m a was. was)

  -- what that makes of strings
  pub parts_says : (c : ℕ) (y : Layer) (was : Thing) (by : Layer) (x : Leaf) → MayPart h c y was by x
      → (says (front h) x.text ≡ None) × (says (front (parts c y was by x ∷ h)) x.text ≡ Some x.value)
      × ((t : Text) → t ≢ x.text → says (front (parts c y was by x ∷ h)) t ≡ says (front h) t)
  parts_says c y was by x may =
      let e = parts c y was by x in
      let g : Front = front (e ∷ h) in
      let k : Lives = life (e ∷ h) in
      let placed = in_parting c y was by x may in
      let two = two_of by was x may.has in
      let changed : Changed (front h) g (spot_in y by.prefix) (Some (to_layer by)) =
      changed_by h e (record { at = spot_in y by.prefix; now = Some (to_layer by) }) refl in
      let lived : Lived (life h) k by.number (in_place by.prefix) = lived_by h e (record { number = by.number; life = in_place by.prefix }) refl in
      let next : Trie g k = is_parted c y was by x may in (
        parted_none (front h) g (life h) k old.trie y by was x placed may.was may.unknown may.belongs two changed lived,
        there_says g k next x.text x.value
            (parted_adds (front h) g (life h) k old.trie y by was x placed may.was may.unknown may.belongs two changed lived),
        (λ t ne. says_alike (front h) g (life h) k t old.trie next
            (λ v it. parted_there_after (front h) g (life h) k old.trie y by was x placed may.was may.unknown may.belongs two changed lived t v it)
            (λ v it. parted_there_before (front h) g (life h) k old.trie y by was x placed may.was may.unknown may.belongs two changed lived t v
            (λ same. ne (sym same)) it)),
      )

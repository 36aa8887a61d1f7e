-- Numbers are given out and back, layers are made, and taken out: each such event that a history may have keeps what holds.
use Rattle.std.proofs.Common.{◌≡◌, ◌≢◌, ◌⊎◌, inl, inr, ⊎_elim, ℕ, ◌<◌, List, [], ◌∷◌, length, Option, Some, None, refl, sym, ap, subst, ◌∙◌, arith}
use mathlib.Core.Logic.{dite}
use native.Mathlib.Decide.{ℕ_discrete}
use Rattle.string_layers.specs.Things.{Text, slice, Layer, Thing, to_leaf, to_layer, to_mark, text_of, Spot, spot_in}
use Rattle.string_layers.specs.Fronts.{says}
use Rattle.string_layers.specs.Events.{Event, prepares, clears, gives_out, gives_back, takes_layer, front, Life, free, unseen, in_place, taken_out, life, Section, section}
use Rattle.string_layers.specs.Histories.{IsEmpty, IsUnseen, IsNoMark, MayTakeLayer, MayGiveBack}
use Rattle.string_layers.specs.Laws.{IsFor}
use Rattle.string_layers.proofs.Trie.{spot, Has, Trie, says_there, says_alike}
use Rattle.string_layers.proofs.Frames.{Changed, Lived, placed_same, number_lives, unseen_changes, unseen_there_after, unseen_there_before}
use Rattle.string_layers.proofs.Layers.{taken, taken_there_after, taken_there_before}
use Rattle.string_layers.proofs.Sections.{changed_by, lived_by, Left, left_by, KnownNow, WasNone, Holds, MarksWere, section_stays, holds_by, marks_were, empty_still, mark_stands, mark_leads, left_by_then}
use Rattle.string_layers.proofs.Updates.{lives_on, known_lives}

-- the prefix of a layer that is being made
pub unseen_is : (a : Life) → IsUnseen a → (p : Text) × (a ≡ unseen p)
unseen_is free u = absurd u
unseen_is (unseen p) u = (p, refl)
unseen_is (in_place p) u = absurd u
unseen_is (taken_out p m) u = absurd u

module _ (h : List Event) (old : Holds h) where
  -- a pair of a layer that nobody knows
  makes_keeps : (e : Event) (at : Spot) (x : Option Thing) → Changed (front h) (front (e ∷ h)) at x → IsUnseen (life h at.within)
      → ((m : ℕ) (z : Layer) → x ≢ Some (to_mark m z)) → Trie (front (e ∷ h)) (life h) × MarksWere h e
      × ((m : ℕ) (z : Layer) (q : Spot) → front h q ≡ Some (to_mark m z) → IsEmpty h z.number → Left h m z.prefix → IsEmpty (e ∷ h) z.number)
  makes_keeps e at x changed unknown no_mark =
      let u = unseen_is (life h at.within) unknown in (
        unseen_changes (front h) (front (e ∷ h)) (life h) old.trie at x changed u.0 u.1 no_mark,
        marks_were h e at x changed (λ m z is. absurd (no_mark m z is)),
        (λ m z q is none out. empty_still (front h) (front (e ∷ h)) at x z.number changed
            (inl (λ same. let placed = mark_leads h old q m z is in
            let it : unseen u.0 ≡ in_place z.prefix = sym u.1 ∙ ap (life h) same ∙ placed in cc)) none),
      )

  no_mark_in : (x : Thing) → IsNoMark x → (m : ℕ) (z : Layer) → Some x ≢ Some (to_mark m z)
  no_mark_in (to_leaf x) u m z e = cc
  no_mark_in (to_layer y) u m z e = cc
  no_mark_in (to_mark i y) u m z e = u

  pub prepared : (y : Layer) (x : Thing) → IsUnseen (life h y.number) → IsNoMark x
      → Trie (front (prepares y x ∷ h)) (life h) × MarksWere h (prepares y x)
      × ((m : ℕ) (z : Layer) (q : Spot) → front h q ≡ Some (to_mark m z) → IsEmpty h z.number → Left h m z.prefix → IsEmpty (prepares y x ∷ h) z.number)
  prepared y x unknown no_mark = makes_keeps (prepares y x) (spot_in y (text_of x)) (Some x)
      (changed_by h (prepares y x) (record { at = spot_in y (text_of x); now = Some x }) refl) unknown (no_mark_in x no_mark)

  pub prepares_keeps : (y : Layer) (x : Thing) → IsUnseen (life h y.number) → IsNoMark x → Holds (prepares y x ∷ h)
  prepares_keeps y x unknown no_mark =
      let r = prepared y x unknown no_mark in
      holds_by h (prepares y x) old r.0 (λ n p m is. inl is)
      (λ d s is. section_stays h (prepares y x) s (old.sections d s is) (λ w goes known. known) (λ w among placed. placed) r.1)
      r.1 (λ m goes less out. out) r.2 (λ m w was. was) (λ m a was. was)

  pub cleared : (at : Spot) → IsUnseen (life h at.within)
      → Trie (front (clears at ∷ h)) (life h) × MarksWere h (clears at)
      × ((m : ℕ) (z : Layer) (q : Spot) → front h q ≡ Some (to_mark m z) → IsEmpty h z.number → Left h m z.prefix → IsEmpty (clears at ∷ h) z.number)
  cleared at unknown = makes_keeps (clears at) at None
      (changed_by h (clears at) (record { at = at; now = None }) refl) unknown (λ m z e. cc)

  pub clears_keeps : (at : Spot) → IsUnseen (life h at.within) → Holds (clears at ∷ h)
  clears_keeps at unknown =
      let r = cleared at unknown in
      holds_by h (clears at) old r.0 (λ n p m is. inl is)
      (λ d s is. section_stays h (clears at) s (old.sections d s is) (λ w goes known. known) (λ w among placed. placed) r.1)
      r.1 (λ m goes less out. out) r.2 (λ m w was. was) (λ m a was. was)

  -- A number is given out.
  pub given_out : (y : Layer) → life h y.number ≡ free → Trie (front h) (life (gives_out y ∷ h))
  given_out y is_free = number_lives (front h) (life h) (life (gives_out y ∷ h)) old.trie y.number (unseen y.prefix)
      (lived_by h (gives_out y) (record { number = y.number; life = unseen y.prefix }) refl) (λ p e. let s = is_free in cc) (λ p e. cc)
      (λ bytes. old.trie.none y.number bytes is_free)

  pub gives_out_keeps : (y : Layer) → life h y.number ≡ free → Holds (gives_out y ∷ h)
  gives_out_keeps y is_free =
      let e = gives_out y in
      let lived = lived_by h e (record { number = y.number; life = unseen y.prefix }) refl in
      let marks_are : MarksWere h e = λ q m z is. inl is in
      holds_by h e old (given_out y is_free)
      (λ n p m is. inl (sym (lived.other n (λ same. let it : unseen y.prefix ≡ taken_out p m = sym lived.here ∙ ap (life (e ∷ h)) same ∙ is in cc)) ∙ is))
      (λ d s is. section_stays h e s (old.sections d s is)
      (λ w goes known. lives_on h old e s w (lived.other w.number (λ same. (known_lives h old s w free known (ap (life h) (sym same) ∙ is_free)).0 refl)) known)
      (λ w among placed. lived.other w.number (λ same. let it : free ≡ in_place w.prefix = sym is_free ∙ ap (life h) same ∙ placed in cc) ∙ placed)
      marks_are)
      marks_are (λ m goes less out. out) (λ m z q is none out. none) (λ m w was. was) (λ m a was. was)

  -- A number is given back: it has no pair, and no section knows it.
  back_none : (n : ℕ) (a : Life) → life h n ≡ a → MayGiveBack a h n → (bytes : Text) → front h (spot n bytes) ≡ None
  back_none n free e may = absurd may
  back_none n (unseen p) e may = may
  back_none n (in_place p) e may = absurd may
  back_none n (taken_out p m) e may = λ bytes. old.trie.gone n p m bytes e

  back_apart : (n : ℕ) (a : Life) → MayGiveBack a h n → (p : Text) → a ≢ in_place p
  back_apart n free may p e = may
  back_apart n (unseen q) may p e = cc
  back_apart n (in_place q) may p e = may
  back_apart n (taken_out q m) may p e = cc

  back_unknown : (n : ℕ) (a : Life) → life h n ≡ a → MayGiveBack a h n → (c : ℕ) (s : Section) (w : Layer) → section h c ≡ Some s
      → IsFor s.aim w.prefix → KnownNow h s w → n ≢ w.number
  back_unknown n free e may c s w inside goes known same = may
  back_unknown n (unseen p) e may c s w inside goes known same = (known_lives h old s w (unseen p) known (ap (life h) (sym same) ∙ e)).1 p refl
  back_unknown n (in_place p) e may c s w inside goes known same = may
  back_unknown n (taken_out p m) e may c s w inside goes known same = ⊎_elim
      (λ (placed : life h w.number ≡ in_place w.prefix). let it : taken_out p m ≡ in_place w.prefix = sym e ∙ ap (life h) same ∙ placed in cc)
      (λ (gone : (i : ℕ) × (life h w.number ≡ taken_out w.prefix i) × (s.since < i)).
      let it : taken_out p m ≡ taken_out w.prefix gone.0 = sym e ∙ ap (life h) same ∙ gone.1 in
      let prefix : w.prefix ≡ p = (let q : p ≡ w.prefix = cc in sym q) in
      let moment : m ≡ gone.0 = cc in
      let early = gone.2 in
      let late = left_by h old m p may c s inside (subst (λ t. IsFor s.aim t) prefix goes) in
      omega arith)
      known

  pub given_back : (n : ℕ) → MayGiveBack (life h n) h n → Trie (front h) (life (gives_back n ∷ h))
  given_back n may = number_lives (front h) (life h) (life (gives_back n ∷ h)) old.trie n free
      (lived_by h (gives_back n) (record { number = n; life = free }) refl) (back_apart n (life h n) may) (λ p e. cc)
      (back_none n (life h n) refl may)

  pub gives_back_keeps : (n : ℕ) → MayGiveBack (life h n) h n → Holds (gives_back n ∷ h)
  gives_back_keeps n may =
      let e = gives_back n in
      let lived = lived_by h e (record { number = n; life = free }) refl in
      let marks_are : MarksWere h e = λ q m z is. inl is in
      holds_by h e old (given_back n may)
      (λ i p m is. inl (sym (lived.other i (λ same. let it : free ≡ taken_out p m = sym lived.here ∙ ap (life (e ∷ h)) same ∙ is in cc)) ∙ is))
      (λ d s is. section_stays h e s (old.sections d s is)
      (λ w goes known. lives_on h old e s w (lived.other w.number (back_unknown n (life h n) refl may d s w is goes known)) known)
      (λ w among placed. lived.other w.number (λ same. back_apart n (life h n) may w.prefix (ap (life h) same ∙ placed)) ∙ placed)
      marks_are)
      marks_are (λ m goes less out. out) (λ m z q is none out. none) (λ m w was. was) (λ m a was. was)

  -- A layer is taken out with its mark.
  its_layer : (y : Layer) (m : ℕ) (z : Layer) → MayTakeLayer h y m z → (p : Text) × (life h y.number ≡ in_place p)
  its_layer y m z may = mark_stands h old (spot_in y z.prefix) m z may.was

  pub layer_taken : (y : Layer) (m : ℕ) (z : Layer) → MayTakeLayer h y m z → Trie (front (takes_layer y m z ∷ h)) (life (takes_layer y m z ∷ h))
  layer_taken y m z may =
      let e = takes_layer y m z in
      let in_it = its_layer y m z may in
      taken (front h) (front (e ∷ h)) (life h) (life (e ∷ h)) old.trie (record { number = y.number; prefix = in_it.0 })
      (slice z.prefix (length y.prefix)) m (length h) z (record { placed = in_it.1; is = may.was })
      (old.emptied m z may.empty (spot_in y z.prefix) may.was).0
      (changed_by h e (record { at = spot_in y z.prefix; now = None }) refl)
      (lived_by h e (record { number = z.number; life = taken_out z.prefix (length h) }) refl)

  none_then : (y : Layer) (m : ℕ) (z : Layer) → MayTakeLayer h y m z → WasNone (takes_layer y m z ∷ h) z.prefix (length h)
  none_then y m z may = record {
    later = takes_layer y m z ∷ [];
    before = h;
    is = refl;
    at = refl;
    none = λ t b. says_there (front h) (life h) old.trie z t None (mark_leads h old (spot_in y z.prefix) m z may.was) b
        ((old.emptied m z may.empty (spot_in y z.prefix) may.was).0 (slice t (length z.prefix))) refl;
  }

  known_taken : (y : Layer) (m : ℕ) (z : Layer) → MayTakeLayer h y m z → Lived (life h) (life (takes_layer y m z ∷ h)) z.number (taken_out z.prefix (length h))
      → (s : Section) → s.since < length h → (w : Layer) → KnownNow h s w → KnownNow (takes_layer y m z ∷ h) s w
  known_taken y m z may lived s opened w known = dite (ℕ_discrete z.number w.number)
      (λ same. ⊎_elim
      (λ (placed : life h w.number ≡ in_place w.prefix).
      let it : z ≡ w = placed_same (life h) z w (mark_leads h old (spot_in y z.prefix) m z may.was) placed same in
      inr (length h, subst (λ (v : Layer). life (takes_layer y m z ∷ h) v.number ≡ taken_out v.prefix (length h)) it lived.here, opened))
      (λ (gone : (i : ℕ) × (life h w.number ≡ taken_out w.prefix i) × (s.since < i)).
      let placed = mark_leads h old (spot_in y z.prefix) m z may.was in
      let it : in_place z.prefix ≡ taken_out w.prefix gone.0 = sym placed ∙ ap (life h) same ∙ gone.1 in absurd (cc))
      known)
      (λ ne. lives_on h old (takes_layer y m z) s w (lived.other w.number ne) known)

  went_then : (y : Layer) (m : ℕ) (z : Layer) → MayTakeLayer h y m z → Lived (life h) (life (takes_layer y m z ∷ h)) z.number (taken_out z.prefix (length h))
      → (n : ℕ) (p : Text) (i : ℕ) → life (takes_layer y m z ∷ h) n ≡ taken_out p i → (life h n ≡ taken_out p i) ⊎ WasNone (takes_layer y m z ∷ h) p i
  went_then y m z may lived n p i is = dite (ℕ_discrete z.number n)
      (λ same.
      let it : taken_out z.prefix (length h) ≡ taken_out p i = sym lived.here ∙ ap (life (takes_layer y m z ∷ h)) same ∙ is in
      let prefix : z.prefix ≡ p = cc in let moment : length h ≡ i = cc in
      inr (subst (λ (w : Text × ℕ). WasNone (takes_layer y m z ∷ h) w.0 w.1) (λ j. (prefix j, moment j)) (none_then y m z may)))
      (λ ne. inl (sym (lived.other n ne) ∙ is))

  pub takes_layer_keeps : (y : Layer) (m : ℕ) (z : Layer) → MayTakeLayer h y m z → Holds (takes_layer y m z ∷ h)
  takes_layer_keeps y m z may =
      let e = takes_layer y m z in
      let changed = changed_by h e (record { at = spot_in y z.prefix; now = None }) refl in
      let lived = lived_by h e (record { number = z.number; life = taken_out z.prefix (length h) }) refl in
      let marks_are = marks_were h e (spot_in y z.prefix) None changed (λ i w s. absurd (cc)) in
      let out = (old.emptied m z may.empty (spot_in y z.prefix) may.was).1 in
      holds_by h e old (layer_taken y m z may) (went_then y m z may lived)
      (λ d s is. section_stays h e s (old.sections d s is)
      (λ w goes known. known_taken y m z may lived s ((old.sections d s is).opened) w known)
      (λ w among placed. lived.other w.number (λ same. left_by_then h old d s w z (spot_in y z.prefix) m is among may.was out (sym same)) ∙ placed)
      marks_are)
      marks_are (λ m goes less out. out)
      (λ i w q is none it. empty_still (front h) (front (e ∷ h)) (spot_in y z.prefix) None w.number changed (inr refl) none)
      (λ i w was. was) (λ m a was. was)

  -- no string comes to have another value by it
  pub takes_says : (y : Layer) (m : ℕ) (z : Layer) → MayTakeLayer h y m z → (t : Text) → says (front (takes_layer y m z ∷ h)) t ≡ says (front h) t
  takes_says y m z may t =
      let e = takes_layer y m z in
      let in_it = its_layer y m z may in
      let above : Layer = record { number = y.number; prefix = in_it.0 } in
      let bytes : Text = slice z.prefix (length y.prefix) in
      let has : Has (front h) (life h) above bytes (to_mark m z) = record { placed = in_it.1; is = may.was } in
      let none = (old.emptied m z may.empty (spot_in y z.prefix) may.was).0 in
      let changed : Changed (front h) (front (e ∷ h)) (spot_in y z.prefix) None =
      changed_by h e (record { at = spot_in y z.prefix; now = None }) refl in
      let lived : Lived (life h) (life (e ∷ h)) z.number (taken_out z.prefix (length h)) =
      lived_by h e (record { number = z.number; life = taken_out z.prefix (length h) }) refl in
      says_alike (front h) (front (e ∷ h)) (life h) (life (e ∷ h)) t old.trie (layer_taken y m z may)
      (λ v it. taken_there_after (front h) (front (e ∷ h)) (life h) (life (e ∷ h)) old.trie above bytes m (length h) z has none changed lived t v it)
      (λ v it. taken_there_before (front h) (front (e ∷ h)) (life h) (life (e ∷ h)) old.trie above bytes m (length h) z has none changed lived t v it)

  making_says : (e : Event) (at : Spot) (x : Option Thing) → Changed (front h) (front (e ∷ h)) at x → IsUnseen (life h at.within)
      → ((m : ℕ) (z : Layer) → x ≢ Some (to_mark m z)) → (t : Text) → says (front (e ∷ h)) t ≡ says (front h) t
  making_says e at x changed unknown no_mark t =
      let u = unseen_is (life h at.within) unknown in
      let next = unseen_changes (front h) (front (e ∷ h)) (life h) old.trie at x changed u.0 u.1 no_mark in
      says_alike (front h) (front (e ∷ h)) (life h) (life h) t old.trie next
      (λ v it. unseen_there_after (front h) (front (e ∷ h)) (life h) old.trie at x changed u.0 u.1 no_mark t v it)
      (λ v it. unseen_there_before (front h) (front (e ∷ h)) (life h) old.trie at x changed u.0 u.1 no_mark t v it)

  pub prepares_says : (y : Layer) (x : Thing) → IsUnseen (life h y.number) → IsNoMark x → (t : Text)
      → says (front (prepares y x ∷ h)) t ≡ says (front h) t
  prepares_says y x unknown no_mark t = making_says (prepares y x) (spot_in y (text_of x)) (Some x)
      (changed_by h (prepares y x) (record { at = spot_in y (text_of x); now = Some x }) refl) unknown (no_mark_in x no_mark) t

  pub clears_says : (at : Spot) → IsUnseen (life h at.within) → (t : Text) → says (front (clears at ∷ h)) t ≡ says (front h) t
  clears_says at unknown t = making_says (clears at) at None (changed_by h (clears at) (record { at = at; now = None }) refl) unknown (λ m z e. cc) t

-- The laws, by what holds at each moment.
use Rattle.std.proofs.Common.{◌≡◌, ◌≢◌, ◌⊎◌, inl, inr, ⊎_elim, ℕ, ◌<◌, List, [], ◌∷◌, length, Option, Some, None, refl, sym, ap, subst, ◌∙◌, arith}
use mathlib.Core.Logic.{dite}
use native.Mathlib.Decide.{ℕ_discrete}
use Rattle.string_layers.specs.Things.{Text, slice, Begins, Layer, Leaf, Thing, to_leaf, to_layer, to_mark, text_of, Spot, spot_in}
use Rattle.string_layers.specs.Fronts.{Front, next_on, told, says}
use Rattle.string_layers.specs.Events.{one, Event, enters, leaves, reads, gives_out, gives_back, prepares, clears, adds, exchanges, parts, removes, marks, outwaits, finds_empty, takes_layer, puts_back, front, free, unseen, in_place, taken_out, life, Section, section}
use Rattle.string_layers.specs.Histories.{Outwaited, GoesOnIn, LooksAt, Reaches, from_top, by_found, MayRead, MayAdd, MayExchange, MayPart, MayRemove, MayMark, MayTakeLayer, May}
use Rattle.string_layers.specs.Laws.{IsFor, IsThere, IsTrie, FrontsAreTries, WasSaid, update_of, ChangesOne, Changes, UpdatesChangeOne, WaysEndWithWhatWasSaid, AllAreTold, LeavesAreSaid, WhatIsFoundWasInPlace, NoSectionHasIt, NoSectionComesToIt, prefix_of, NumbersKeepTheirPrefix, IsMakers, NewLayersAreTheirMakers}
use Rattle.string_layers.proofs.Trie.{spot, Trie, There, there_says, says_is_there, says_there, leaf_says, leaf_place}
use Rattle.string_layers.proofs.Frames.{Changed, PairChanges, IsNotOf, others_say, before_none, after_none, before_leaf, after_leaf}
use Rattle.string_layers.proofs.Sections.{changed_by, lived_by, left_by, Holds, reached, with_pair, mark_stands, mark_leads, for_layer}
use Rattle.string_layers.proofs.Updates.{added, exchanged, removed, marked, put_back, parts_says, in_parting}
use Rattle.string_layers.proofs.Numbers.{prepares_says, clears_says, takes_says}
use Rattle.string_layers.proofs.Keeping.{holds}

-- The first law.
abbrev with_prefix : Spot → Text → Layer
with_prefix at prefix = record { number = at.within; prefix = prefix }

there_is : (h : List Event) (text : Text) (value : ℕ) → IsThere h text value → There (front h) (life h) text value
there_is h text value it = record {
  layer = with_prefix it.at it.stands.0;
  bytes = it.at.slice;
  leaf = it.leaf;
  has = record { placed = it.stands.1; is = it.is };
  text_is = it.text_is;
  value_is = it.value_is;
}

is_there : (h : List Event) (text : Text) (value : ℕ) → There (front h) (life h) text value → IsThere h text value
is_there h text value it = record {
  at = spot it.layer.number it.bytes;
  stands = (it.layer.prefix, it.has.placed);
  leaf = it.leaf;
  is = it.has.is;
  text_is = it.text_is;
  value_is = it.value_is;
}

trie_of : (h : List Event) → Trie (front h) (life h) → IsTrie h
trie_of h trie = record {
  one_place = λ at x stands is. leaf_place (front h) (life h) trie (with_prefix at stands.0) at.slice x (record { placed = stands.1; is = is });
  says_it = λ text value it. there_says (front h) (life h) trie text value (there_is h text value it);
  no_other = λ text value e. is_there h text value (says_is_there (front h) (life h) trie text value e);
  led_to = λ y placed ne. let led = trie.led y placed ne in (
    spot led.above.number led.bytes,
    record { stands = (led.above.prefix, led.has.placed); by = led.by; is = led.has.is; leads = led.leads },
  );
  one_pair = λ y at other a b. trie.one y (with_prefix at a.stands.0) (with_prefix other b.stands.0) at.slice other.slice a.by b.by
      (record { placed = a.stands.1; is = a.is }) (record { placed = b.stands.1; is = b.is }) a.leads b.leads;
  out = λ n p m e bytes. trie.gone n p m bytes e;
}

pub fronts_are_tries : FrontsAreTries
fronts_are_tries h is = trie_of h (holds h is).trie

-- The second law.
leaf_not_of : (x : Leaf) (t : Text) → x.text ≢ t → IsNotOf t (Some (to_leaf x))
leaf_not_of x t ne z e same = ne (ap (λ (v : Leaf). v.text) (let it : x ≡ z = cc in it) ∙ same)

none_not_of : (t : Text) → IsNotOf t None
none_not_of t z e same = cc

layer_not_of : (y : Layer) (t : Text) → IsNotOf t (Some (to_layer y))
layer_not_of y t z e same = cc

mark_not_of : (m : ℕ) (y : Layer) (t : Text) → IsNotOf t (Some (to_mark m y))
mark_not_of m y t z e same = cc

module _ (h : List Event) (old : Holds h) where
  adds_one : (c : ℕ) (y : Layer) (x : Leaf) (may : MayAdd h c y x)
      → ChangesOne h (adds c y x) (record { text = x.text; was = None; now = Some x.value })
  adds_one c y x may =
      let g : Front = front (adds c y x ∷ h) in
      let p : PairChanges (front h) g (life h) = added h old c y x may in
      record {
        was = before_none (front h) g (life h) old.trie p x.text may.belongs refl refl;
        now = after_leaf (front h) g (life h) old.trie p x refl;
        others = λ t ne. others_say (front h) g (life h) old.trie p t (none_not_of t) (leaf_not_of x t (λ same. ne (sym same)));
      }

  exchanges_one : (c : ℕ) (y : Layer) (was x : Leaf) (may : MayExchange h c y was x)
      → ChangesOne h (exchanges c y was x) (record { text = x.text; was = Some was.value; now = Some x.value })
  exchanges_one c y was x may =
      let g : Front = front (exchanges c y was x ∷ h) in
      let p : PairChanges (front h) g (life h) = exchanged h old c y was x may in
      record {
        was = ap (says (front h)) may.same ∙ before_leaf (front h) g (life h) old.trie p was refl;
        now = after_leaf (front h) g (life h) old.trie p x refl;
        others = λ t ne. others_say (front h) g (life h) old.trie p t (leaf_not_of was t (λ same. ne (sym same ∙ sym may.same)))
            (leaf_not_of x t (λ same. ne (sym same)));
      }

  removes_one : (c : ℕ) (y : Layer) (x : Leaf) (may : MayRemove h c y x)
      → ChangesOne h (removes c y x) (record { text = x.text; was = Some x.value; now = None })
  removes_one c y x may =
      let g : Front = front (removes c y x ∷ h) in
      let p : PairChanges (front h) g (life h) = removed h old c y x may in
      let b = old.trie.belongs y (slice x.text (length y.prefix)) (to_leaf x) (record { placed = p.placed; is = may.was }) in
      record {
        was = before_leaf (front h) g (life h) old.trie p x refl;
        now = after_none (front h) g (life h) old.trie p x.text b.0.begins refl refl;
        others = λ t ne. others_say (front h) g (life h) old.trie p t (leaf_not_of x t (λ same. ne (sym same))) (none_not_of t);
      }

  marks_none : (c : ℕ) (y z : Layer) → MayMark h c y z → (t : Text) → says (front (marks c y z ∷ h)) t ≡ says (front h) t
  marks_none c y z may t = others_say (front h) (front (marks c y z ∷ h)) (life h) old.trie (marked h old c y z may) t (layer_not_of z t)
      (mark_not_of (length h) z t)

  puts_back_none : (y : Layer) (m : ℕ) (z : Layer) → front h (spot_in y z.prefix) ≡ Some (to_mark m z) → (t : Text)
      → says (front (puts_back y m z ∷ h)) t ≡ says (front h) t
  puts_back_none y m z was t = others_say (front h) (front (puts_back y m z ∷ h)) (life h) old.trie (put_back h old y m z was) t
      (mark_not_of m z t) (layer_not_of z t)

  parts_one : (c : ℕ) (y : Layer) (was : Thing) (by : Layer) (x : Leaf) → MayPart h c y was by x
      → ChangesOne h (parts c y was by x) (record { text = x.text; was = None; now = Some x.value })
  parts_one c y was by x may = let r = parts_says h old c y was by x may in record { was = r.0; now = r.1; others = r.2 }

changes : (h : List Event) (e : Event) → Holds h → May h e → Changes h e (update_of e)
changes h (enters c aim) old may = λ t. refl
changes h (leaves c) old may = λ t. refl
changes h (reads c y bytes x) old may = λ t. refl
changes h (gives_out y) old may = λ t. refl
changes h (gives_back n) old may = λ t. refl
changes h (prepares y x) old may = prepares_says h old y x may.0 may.1
changes h (clears at) old may = clears_says h old at may
changes h (adds c y x) old may = adds_one h old c y x may
changes h (exchanges c y was x) old may = exchanges_one h old c y was x may
changes h (parts c y was by x) old may = parts_one h old c y was by x may
changes h (removes c y x) old may = removes_one h old c y x may
changes h (marks c y z) old may = marks_none h old c y z may
changes h (outwaits begun aim) old may = λ t. refl
changes h (finds_empty m y) old may = λ t. refl
changes h (takes_layer y m z) old may = takes_says h old y m z may
changes h (puts_back y m z) old may = puts_back_none h old y m z may

pub updates_change_one : UpdatesChangeOne
updates_change_one h e is = changes h e (holds h is.0) is.1

-- The third law.
has_its_string : (s : Section) (y : Layer) (text : Text) → Reaches s y → s.aim ≡ one text → Begins y.prefix text
has_its_string s y text from_top e = refl
has_its_string s y text (by_found x z among leads goes) e = subst (λ a. GoesOnIn a z) e goes

way_said : (h : List Event) (old : Holds h) (c : ℕ) (text bytes : Text) (y : Layer) (x : Option Thing) (may : MayRead h c y bytes x)
    → Begins y.prefix text → bytes ≡ slice text (length y.prefix) → next_on text x ≡ None → WasSaid h may.its.since text (told text x)
way_said h old c text bytes y x may b here e =
    ⊎_elim
    (λ (placed : life h y.number ≡ in_place y.prefix). record {
      later = [];
      before = h;
      is = refl;
      after = (old.sections c may.its may.inside).opened;
      said = says_there (front h) (life h) old.trie y text x placed b (ap (λ s. front h (spot y.number s)) (sym here) ∙ may.told) e;
    })
    (λ (gone : (m : ℕ) × (life h y.number ≡ taken_out y.prefix m) × (may.its.since < m)).
    let was = old.went y.number y.prefix gone.0 gone.1 in
    let none : x ≡ None = sym may.told ∙ old.trie.gone y.number y.prefix gone.0 bytes gone.1 in
    record {
      later = was.later;
      before = was.before;
      is = was.is;
      after = subst (λ n. may.its.since < n) (sym was.at) gone.2;
      said = was.none text b ∙ ap (told text) (sym none);
    })
    (reached h old c may.its y may.inside may.reaches)

pub ways_end_with_what_was_said : WaysEndWithWhatWasSaid
ways_end_with_what_was_said h c s text bytes y x is inside aim e =
    let may = is.1 in
    let same : may.its ≡ s = (let both : Some may.its ≡ Some s = sym may.inside ∙ inside in cc) in
    let its_aim : may.its.aim ≡ one text = ap (λ (z : Section). z.aim) same ∙ aim in
    subst (λ (z : Section). WasSaid h z.since text (told text x)) same
    (way_said h (holds h is.0) c text bytes y x may (has_its_string may.its y text may.reaches its_aim)
    (subst (λ a. LooksAt a y bytes) its_aim may.looks) e)

pub all_are_told : AllAreTold
all_are_told h c s text y x is inside b e =
    let may = is.1 in
    let same : may.its ≡ s = (let both : Some may.its ≡ Some s = sym may.inside ∙ inside in cc) in
    subst (λ (z : Section). WasSaid h z.since text (told text x)) same
    (way_said h (holds h is.0) c text (slice text (length y.prefix)) y x may b refl e)

pub leaves_are_said : LeavesAreSaid
leaves_are_said h c y bytes x is =
    let may = is.1 in
    let old = holds h is.0 in
    let placed = with_pair h old may.its y bytes (to_leaf x) (reached h old c may.its y may.inside may.reaches) may.told in
    leaf_says (front h) (life h) old.trie y bytes x (record { placed = placed; is = may.told })

-- The fourth law.
pub what_is_found_was_in_place : WhatIsFoundWasInPlace
what_is_found_was_in_place h c s x is inside among = let its = (holds h is).sections c s inside in (its.seen x among, its.alike x among)

pub no_section_has_it : NoSectionHasIt
no_section_has_it h moment c s x is gone out inside among =
    let its = (holds h is).sections c s inside in
    let was = its.seen x among in
    let late = left_by h (holds h is) moment (text_of x) out c s inside (its.alike x among) in
    let after = was.after in
    gone was.later was.before was.is (omega arith) was.at was.stands was.had

comes_not : (h : List Event) (old : Holds h) (number moment c : ℕ) (prefix : Text) (s : Section) (y : Layer) → life h number ≡ taken_out prefix moment
    → Outwaited h moment prefix → section h c ≡ Some s → Reaches s y → IsFor s.aim y.prefix → y.number ≢ number
comes_not h old number moment c prefix s y gone out inside reaches goes same = ⊎_elim
    (λ (placed : life h y.number ≡ in_place y.prefix). let it : in_place y.prefix ≡ taken_out prefix moment = sym placed ∙ ap (life h) same ∙ gone in cc)
    (λ (left : (m : ℕ) × (life h y.number ≡ taken_out y.prefix m) × (s.since < m)).
    let it : taken_out y.prefix left.0 ≡ taken_out prefix moment = sym left.1 ∙ ap (life h) same ∙ gone in
    let alike : y.prefix ≡ prefix = cc in
    let when : left.0 ≡ moment = cc in
    let early = left.2 in
    let late = left_by h old moment prefix out c s inside (subst (λ t. IsFor s.aim t) alike goes) in
    omega arith)
    (reached h old c s y inside reaches)

no_way : (h : List Event) (old : Holds h) (number moment c : ℕ) (prefix : Text) (s : Section) (y : Layer) → life h number ≡ taken_out prefix moment
    → Outwaited h moment prefix → section h c ≡ Some s → Reaches s y → y.number ≢ number
no_way h old number moment c prefix s y gone out inside from_top same =
    let it : in_place [] ≡ taken_out prefix moment = sym old.trie.root ∙ ap (life h) same ∙ gone in cc
no_way h old number moment c prefix s y gone out inside (by_found x z among leads goes) same =
    comes_not h old number moment c prefix s z gone out inside (by_found x z among leads goes)
    (for_layer s.aim x z leads ((old.sections c s inside).alike x among)) same

pub no_section_comes_to_it : NoSectionComesToIt
no_section_comes_to_it h number moment c prefix s y is gone out inside reaches =
    no_way h (holds h is) number moment c prefix s y gone out inside reaches

-- Numbers.
module _ (h : List Event) (old : Holds h) (number : ℕ) (prefix : Text) (has : prefix_of (life h number) ≡ Some prefix) where
  given_out_keeps : (y : Layer) → life h y.number ≡ free → prefix_of (life (gives_out y ∷ h) number) ≡ Some prefix
  given_out_keeps y is_free = dite (ℕ_discrete y.number number)
      (λ same. let none : prefix_of (life h number) ≡ None = ap (λ n. prefix_of (life h n)) (sym same) ∙ ap prefix_of is_free in absurd (cc))
      (λ ne. ap prefix_of ((lived_by h (gives_out y) (record { number = y.number; life = unseen y.prefix }) refl).other number ne) ∙ has)

  given_back_keeps : (n : ℕ) → (prefix_of (life (gives_back n ∷ h) number) ≡ Some prefix) ⊎ (gives_back n ≡ gives_back number)
  given_back_keeps n = dite (ℕ_discrete n number) (λ same. inr (ap gives_back same))
      (λ ne. inl (ap prefix_of ((lived_by h (gives_back n) (record { number = n; life = free }) refl).other number ne) ∙ has))

  parted_keeps : (c : ℕ) (y : Layer) (was : Thing) (by : Layer) (x : Leaf) → MayPart h c y was by x
      → prefix_of (life (parts c y was by x ∷ h) number) ≡ Some prefix
  parted_keeps c y was by x may =
      let lived = lived_by h (parts c y was by x) (record { number = by.number; life = in_place by.prefix }) refl in
      dite (ℕ_discrete by.number number)
      (λ same. ap (λ n. prefix_of (life (parts c y was by x ∷ h) n)) (sym same) ∙ ap prefix_of lived.here
      ∙ sym (ap prefix_of may.unknown) ∙ ap (λ n. prefix_of (life h n)) same ∙ has)
      (λ ne. ap prefix_of (lived.other number ne) ∙ has)

  taken_keeps : (y : Layer) (m : ℕ) (z : Layer) → MayTakeLayer h y m z → prefix_of (life (takes_layer y m z ∷ h) number) ≡ Some prefix
  taken_keeps y m z may =
      let lived = lived_by h (takes_layer y m z) (record { number = z.number; life = taken_out z.prefix (length h) }) refl in
      dite (ℕ_discrete z.number number)
      (λ same. ap (λ n. prefix_of (life (takes_layer y m z ∷ h) n)) (sym same) ∙ ap prefix_of lived.here
      ∙ sym (ap prefix_of (mark_leads h old (spot_in y z.prefix) m z may.was)) ∙ ap (λ n. prefix_of (life h n)) same ∙ has)
      (λ ne. ap prefix_of (lived.other number ne) ∙ has)

keeps_prefix : (h : List Event) (e : Event) (number : ℕ) (prefix : Text) → Holds h → May h e → prefix_of (life h number) ≡ Some prefix
    → (prefix_of (life (e ∷ h) number) ≡ Some prefix) ⊎ (e ≡ gives_back number)
keeps_prefix h (enters c aim) number prefix old may has = inl has
keeps_prefix h (leaves c) number prefix old may has = inl has
keeps_prefix h (reads c y bytes x) number prefix old may has = inl has
keeps_prefix h (gives_out y) number prefix old may has = inl (given_out_keeps h old number prefix has y may)
keeps_prefix h (gives_back n) number prefix old may has = given_back_keeps h old number prefix has n
keeps_prefix h (prepares y x) number prefix old may has = inl has
keeps_prefix h (clears at) number prefix old may has = inl has
keeps_prefix h (adds c y x) number prefix old may has = inl has
keeps_prefix h (exchanges c y was x) number prefix old may has = inl has
keeps_prefix h (parts c y was by x) number prefix old may has = inl (parted_keeps h old number prefix has c y was by x may)
keeps_prefix h (removes c y x) number prefix old may has = inl has
keeps_prefix h (marks c y z) number prefix old may has = inl has
keeps_prefix h (outwaits begun aim) number prefix old may has = inl has
keeps_prefix h (finds_empty m y) number prefix old may has = inl has
keeps_prefix h (takes_layer y m z) number prefix old may has = inl (taken_keeps h old number prefix has y m z may)
keeps_prefix h (puts_back y m z) number prefix old may has = inl has

pub numbers_keep_their_prefix : NumbersKeepTheirPrefix
numbers_keep_their_prefix h e number prefix is has = keeps_prefix h e number prefix (holds h is.0) is.1 has

-- Layers that are being made.
module _ (h : List Event) (old : Holds h) (number : ℕ) (prefix : Text) (unknown : life h number ≡ unseen prefix) (bytes : Text) where
  not_there : (e : Event) (at : Spot) (x : Option Thing) (p : Text) → Changed (front h) (front (e ∷ h)) at x → life h at.within ≡ in_place p
      → (front (e ∷ h) (spot number bytes) ≡ front h (spot number bytes)) ⊎ IsMakers number e
  not_there e at x p changed placed = inl (changed.other (spot number bytes)
      (λ same. let it : in_place p ≡ unseen prefix = sym placed ∙ ap (λ (q : Spot). life h q.within) same ∙ unknown in cc))

  makers : (e : Event) → May h e → (front (e ∷ h) (spot number bytes) ≡ front h (spot number bytes)) ⊎ IsMakers number e
  makers (enters c aim) may = inl refl
  makers (leaves c) may = inl refl
  makers (reads c y bits x) may = inl refl
  makers (gives_out y) may = inl refl
  makers (gives_back n) may = inl refl
  makers (prepares y x) may = dite (ℕ_discrete y.number number) (λ same. inr same)
      (λ ne. inl ((changed_by h (prepares y x) (record { at = spot_in y (text_of x); now = Some x }) refl).other (spot number bytes)
      (λ same. ne (ap (λ (q : Spot). q.within) same))))
  makers (clears at) may = dite (ℕ_discrete at.within number) (λ same. inr same)
      (λ ne. inl ((changed_by h (clears at) (record { at = at; now = None }) refl).other (spot number bytes)
      (λ same. ne (ap (λ (q : Spot). q.within) same))))
  makers (adds c y x) may = let p = added h old c y x may in not_there (adds c y x) (spot_in y x.text) p.now y.prefix p.changed p.placed
  makers (exchanges c y was x) may = let p = exchanged h old c y was x may in
      not_there (exchanges c y was x) (spot_in y x.text) p.now y.prefix p.changed p.placed
  makers (parts c y was by x) may = not_there (parts c y was by x) (spot_in y by.prefix) (Some (to_layer by)) y.prefix
      (changed_by h (parts c y was by x) (record { at = spot_in y by.prefix; now = Some (to_layer by) }) refl) (in_parting h old c y was by x may)
  makers (removes c y x) may = let p = removed h old c y x may in not_there (removes c y x) (spot_in y x.text) p.now y.prefix p.changed p.placed
  makers (marks c y z) may = let p = marked h old c y z may in not_there (marks c y z) (spot_in y z.prefix) p.now y.prefix p.changed p.placed
  makers (outwaits begun aim) may = inl refl
  makers (finds_empty m y) may = inl refl
  makers (takes_layer y m z) may = let stands = mark_stands h old (spot_in y z.prefix) m z may.was in
      not_there (takes_layer y m z) (spot_in y z.prefix) None stands.0
      (changed_by h (takes_layer y m z) (record { at = spot_in y z.prefix; now = None }) refl) stands.1
  makers (puts_back y m z) may = let p = put_back h old y m z may in
      not_there (puts_back y m z) (spot_in y z.prefix) p.now p.layer.prefix p.changed p.placed

pub new_layers_are_their_makers : NewLayersAreTheirMakers
new_layers_are_their_makers h e number is =
    let old = holds h is.0 in
    record {
      none = λ is_free bytes. old.trie.none number bytes is_free;
      alone = λ prefix unknown bytes. makers h old number prefix unknown bytes e is.1;
    }

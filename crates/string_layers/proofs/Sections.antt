-- What holds at each moment of a history: the pairs are a trie; and of each open section, that no layer that it came to is another one now.
use Rattle.std.proofs.Common.{◌≡◌, ◌≢◌, ◌⊎◌, inl, inr, ⊎_elim, ℕ, zero, ◌<◌, Bool, true, false, nat_eq, List, [], ◌∷◌, ◌++◌, length, Option, Some, None, refl, sym, ap, subst, ◌∙◌, arith}
use Rattle.std.specs.Bool.{Decides}
use Rattle.string_layers.specs.Things.{Text, Begins, Layer, Thing, to_layer, to_mark, layer_of, text_of, Spot, same_spot}
use Rattle.string_layers.specs.Fronts.{Front, says}
use Rattle.string_layers.specs.Events.{Aim, one, all, Event, Change, change_of, after, front, Life, free, unseen, in_place, taken_out, NewLife, life_of, after_life, life, Section, section}
use Rattle.string_layers.specs.Histories.{IsAmong, Reaches, from_top, by_found, ReachesUnmarked, unmarked_top, by_layer, IsIn, IsInUnmarked, IsEmpty, WasEmpty, HasKeyOf, WasWaited, Outwaited}
use Rattle.string_layers.specs.Laws.{IsFor, WasInPlace}
use Rattle.string_layers.proofs.Texts.{if_true, if_false, either, spot_test, layer_text, some_bytes}
use Rattle.string_layers.proofs.Trie.{spot, Trie, placed_once}
use Rattle.string_layers.proofs.Frames.{Changed, Lived, placed_same}

-- an event's change, and its new life
pub number_test : (n m : ℕ) → Decides (nat_eq n m) (n ≡ m)
number_test n m = ((λ e. grind (arith, e)), (λ e. grind (arith, e)))

pub test_false : {P : Type 0} (b : Bool) → Decides b P → (P → ⊥) → b ≡ false
test_false true d ne = absurd (ne (d.0 refl))
test_false false d ne = refl

pub changed_by : (h : List Event) (e : Event) (c : Change) → change_of (length h) e ≡ Some c → Changed (front h) (front (e ∷ h)) c.at c.now
changed_by h e c is = record {
  here = ap (λ o. after o (front h) c.at) is ∙ if_true (same_spot c.at c.at) c.now (front h c.at) ((spot_test c.at c.at).1 refl);
  other = λ q ne. ap (λ o. after o (front h) q) is
      ∙ if_false (same_spot c.at q) c.now (front h q) (test_false (same_spot c.at q) (spot_test c.at q) ne);
}

pub lived_by : (h : List Event) (e : Event) (a : NewLife) → life_of (length h) e ≡ Some a → Lived (life h) (life (e ∷ h)) a.number a.life
lived_by h e a is = record {
  here = ap (λ o. after_life o (life h) a.number) is ∙ if_true (nat_eq a.number a.number) a.life (life h a.number) ((number_test a.number a.number).1 refl);
  other = λ m ne. ap (λ o. after_life o (life h) m) is
      ∙ if_false (nat_eq a.number m) a.life (life h m) (test_false (nat_eq a.number m) (number_test a.number m) ne);
}

-- All sections for which this holds were entered behind the moment.
abbrev pub LeftBy : List Event → ℕ → (Aim → Type 0) → Type 0
LeftBy h moment goes = (c : ℕ) (s : Section) → section h c ≡ Some s → goes s.aim → moment < s.since

abbrev pub Left : List Event → ℕ → Text → Type 0
Left h moment text = LeftBy h moment (λ a. IsFor a text)

-- The layer that a section came to is in place, or was taken out since.
abbrev pub KnownNow : List Event → Section → Layer → Type 0
KnownNow h s y = (life h y.number ≡ in_place y.prefix) ⊎ ((m : ℕ) × (life h y.number ≡ taken_out y.prefix m) × (s.since < m))

-- At the moment at which a layer was taken out nothing was said of its strings.
pub record WasNone (h : List Event) (prefix : Text) (moment : ℕ) : Type 0 where
  pub later : List Event
  pub before : List Event
  pub is : h ≡ later ++ before
  pub at : length before ≡ moment
  pub none : (t : Text) → Begins prefix t → says (front before) t ≡ None

pub record SectionHolds (h : List Event) (s : Section) : Type 0 where
  pub opened : s.since < length h
  pub known : (x : Thing) (y : Layer) → IsAmong x s.found → layer_of x ≡ Some y → KnownNow h s y
  pub stands : (y : Layer) → IsAmong (to_layer y) s.found → life h y.number ≡ in_place y.prefix
  pub marked : (y : Layer) → IsAmong (to_layer y) s.found → (q : Spot) (m : ℕ) (z : Layer) → front h q ≡ Some (to_mark m z) → z.number ≡ y.number
      → s.since < m
  pub alike : (x : Thing) → IsAmong x s.found → IsFor s.aim (text_of x)
  pub seen : (x : Thing) → IsAmong x s.found → WasInPlace h s.since x

pub record Holds (h : List Event) : Type 0 where
  pub trie : Trie (front h) (life h)
  pub went : (n : ℕ) (p : Text) (m : ℕ) → life h n ≡ taken_out p m → WasNone h p m
  pub sections : (c : ℕ) (s : Section) → section h c ≡ Some s → SectionHolds h s
  pub emptied : (m : ℕ) (y : Layer) → WasEmpty h m y → (q : Spot) → front h q ≡ Some (to_mark m y) → IsEmpty h y.number × Left h m y.prefix
  pub put : (q : Spot) (m : ℕ) (z : Layer) → front h q ≡ Some (to_mark m z) → m < length h
  pub found_before : (m : ℕ) (y : Layer) → WasEmpty h m y → m < length h
  pub waited : (m : ℕ) (a : Aim) → WasWaited h m a → (m < length h) × LeftBy h m (HasKeyOf a)

pub none_longer : (h : List Event) (e : Event) (p : Text) (m : ℕ) → WasNone h p m → WasNone (e ∷ h) p m
none_longer h e p m w = record { later = e ∷ w.later; before = w.before; is = ap (λ z. e ∷ z) w.is; at = w.at; none = w.none }

pub place_longer : (h : List Event) (e : Event) (since : ℕ) (x : Thing) → WasInPlace h since x → WasInPlace (e ∷ h) since x
place_longer h e since x w = record {
  later = e ∷ w.later;
  before = w.before;
  is = ap (λ z. e ∷ z) w.is;
  after = w.after;
  at = w.at;
  stands = w.stands;
  had = w.had;
}

-- what a section knows comes to, with a thing that leads to the layer
pub for_layer : (a : Aim) (x : Thing) (y : Layer) → layer_of x ≡ Some y → IsFor a (text_of x) → IsFor a y.prefix
for_layer a x y e f = subst (λ t. IsFor a t) (layer_text x y e) f

abbrev pub MarksWere : List Event → Event → Type 0
MarksWere h e = (q : Spot) (m : ℕ) (z : Layer) → front (e ∷ h) q ≡ Some (to_mark m z) → (front h q ≡ Some (to_mark m z)) ⊎ (m ≡ length h)

-- A section whose own view an event leaves alone.
pub section_stays : (h : List Event) (e : Event) (s : Section) → SectionHolds h s
    → ((y : Layer) → IsFor s.aim y.prefix → KnownNow h s y → KnownNow (e ∷ h) s y)
    → ((y : Layer) → IsAmong (to_layer y) s.found → life h y.number ≡ in_place y.prefix → life (e ∷ h) y.number ≡ in_place y.prefix) → MarksWere h e
    → SectionHolds (e ∷ h) s
section_stays h e s old lives stays marks = record {
  opened = let less = old.opened in omega arith;
  known = λ x y among leads. lives y (for_layer s.aim x y leads (old.alike x among)) (old.known x y among leads);
  stands = λ y among. stays y among (old.stands y among);
  marked = λ y among q m z is same. ⊎_elim (λ before. old.marked y among q m z before same)
      (λ (now : m ≡ length h). let less = old.opened in omega arith) (marks q m z is);
  alike = old.alike;
  seen = λ x among. place_longer h e s.since x (old.seen x among);
}

-- All of it, by what an event leaves and gives.
pub holds_by : (h : List Event) (e : Event) → Holds h → Trie (front (e ∷ h)) (life (e ∷ h))
    → ((n : ℕ) (p : Text) (m : ℕ) → life (e ∷ h) n ≡ taken_out p m → (life h n ≡ taken_out p m) ⊎ WasNone (e ∷ h) p m)
    → ((c : ℕ) (s : Section) → section (e ∷ h) c ≡ Some s → SectionHolds (e ∷ h) s) → MarksWere h e
    → ((m : ℕ) (goes : Aim → Type 0) → m < length h → LeftBy h m goes → LeftBy (e ∷ h) m goes)
    → ((m : ℕ) (z : Layer) (q : Spot) → front h q ≡ Some (to_mark m z) → IsEmpty h z.number → Left h m z.prefix → IsEmpty (e ∷ h) z.number)
    → ((m : ℕ) (y : Layer) → WasEmpty (e ∷ h) m y → WasEmpty h m y) → ((m : ℕ) (a : Aim) → WasWaited (e ∷ h) m a → WasWaited h m a)
    → Holds (e ∷ h)
holds_by h e old trie went sections marks out empty found waits = record {
  trie = trie;
  went = λ n p m is. ⊎_elim (λ before. none_longer h e p m (old.went n p m before)) (λ now. now) (went n p m is);
  sections = sections;
  emptied = λ m y was q is.
      let was_before = found m y was in
      let less = old.found_before m y was_before in
      ⊎_elim
      (λ (before : front h q ≡ Some (to_mark m y)).
      let r = old.emptied m y was_before q before in (empty m y q before r.0 r.1, out m (λ a. IsFor a y.prefix) less r.1))
      (λ (now : m ≡ length h). absurd (omega arith))
      (marks q m y is);
  put = λ q m z is. ⊎_elim (λ before. let less = old.put q m z before in omega arith) (λ (now : m ≡ length h). omega arith) (marks q m z is);
  found_before = λ m y was. let less = old.found_before m y (found m y was) in omega arith;
  waited = λ m a was. let r = old.waited m a (waits m a was) in let less = r.0 in (omega arith, out m (HasKeyOf a) r.0 r.1);
}

-- where the marks were before a pair changed
pub marks_were : (h : List Event) (e : Event) (at : Spot) (x : Option Thing) → Changed (front h) (front (e ∷ h)) at x
    → ((m : ℕ) (z : Layer) → x ≡ Some (to_mark m z) → m ≡ length h) → MarksWere h e
marks_were h e at x changed new q m z is = elim (either (same_spot at q) (spot_test at q)) [
  | inl same ↦ inr (new m z (sym changed.here ∙ ap (front (e ∷ h)) same ∙ is))
  | inr ne ↦ inl (sym (changed.other q ne.1) ∙ is)
]

-- a layer without pairs has none still, where another one's changed, or one was taken out
pub empty_still : (f g : Front) (at : Spot) (x : Option Thing) (n : ℕ) → Changed f g at x → (at.within ≢ n) ⊎ (x ≡ None)
    → ((bytes : Text) → f (spot n bytes) ≡ None) → (bytes : Text) → g (spot n bytes) ≡ None
empty_still f g at x n changed why none bytes = elim (either (same_spot at (spot n bytes)) (spot_test at (spot n bytes))) [
  | inl same ↦ ⊎_elim (λ ne. absurd (ne (ap (λ (q : Spot). q.within) same))) (λ gone. ap g (sym same) ∙ changed.here ∙ gone) why
  | inr ne ↦ changed.other (spot n bytes) ne.1 ∙ none bytes
]

-- a layer that has a pair isn't one without
pub has_not_none : (f : Front) (at : Spot) (x : Thing) (n : ℕ) → f at ≡ Some x → ((bytes : Text) → f (spot n bytes) ≡ None) → at.within ≢ n
has_not_none f at x n is none same = let nothing : f at ≡ None = ap (λ i. f (spot i at.slice)) same ∙ none at.slice in cc

-- Of the layers to which sections come.
module _ (h : List Event) (old : Holds h) where
  -- a mark stands in a layer in place, and so does the layer to which it leads
  life_at : (n : ℕ) (bytes : Text) (m : ℕ) (z : Layer) (a : Life) → life h n ≡ a → front h (spot n bytes) ≡ Some (to_mark m z)
      → (p : Text) × (life h n ≡ in_place p)
  life_at n bytes m z free e is = let nothing = old.trie.none n bytes e in absurd (cc)
  life_at n bytes m z (unseen p) e is = absurd (old.trie.unmarked n p bytes m z e is)
  life_at n bytes m z (in_place p) e is = (p, e)
  life_at n bytes m z (taken_out p i) e is = let nothing = old.trie.gone n p i bytes e in absurd (cc)

  pub mark_stands : (q : Spot) (m : ℕ) (z : Layer) → front h q ≡ Some (to_mark m z) → (p : Text) × (life h q.within ≡ in_place p)
  mark_stands q m z is = life_at q.within q.slice m z (life h q.within) refl is

  pub mark_leads : (q : Spot) (m : ℕ) (z : Layer) → front h q ≡ Some (to_mark m z) → life h z.number ≡ in_place z.prefix
  mark_leads q m z is = let r = mark_stands q m z is in
      old.trie.leads (record { number = q.within; prefix = r.0 }) q.slice (to_mark m z) z (record { placed = r.1; is = is }) refl

  pub mark_inner : (q : Spot) (m : ℕ) (z : Layer) → front h q ≡ Some (to_mark m z) → z.number ≢ zero
  mark_inner q m z is e =
      let r = mark_stands q m z is in
      let whole = (old.trie.belongs (record { number = q.within; prefix = r.0 }) q.slice (to_mark m z) (record { placed = r.1; is = is })).0.whole in
      let p : z.prefix ≡ [] = placed_once (life h) z.number z.prefix [] (mark_leads q m z is) (ap (life h) e ∙ old.trie.root) in
      let some = some_bytes (length r.0) in
      let none : length z.prefix ≡ 0 = ap length p in omega arith

  reached_by : (s : Section) (y : Layer) → SectionHolds h s → Reaches s y → KnownNow h s y
  reached_by s y its from_top = inl old.trie.root
  reached_by s y its (by_found x z among leads goes) = its.known x z among leads

  pub reached : (c : ℕ) (s : Section) (y : Layer) → section h c ≡ Some s → Reaches s y → KnownNow h s y
  reached c s y is reaches = reached_by s y (old.sections c s is) reaches

  pub with_pair : (s : Section) (y : Layer) (bytes : Text) (x : Thing) → KnownNow h s y → front h (spot y.number bytes) ≡ Some x
      → life h y.number ≡ in_place y.prefix
  with_pair s y bytes x known is = ⊎_elim (λ placed. placed)
      (λ (gone : (m : ℕ) × (life h y.number ≡ taken_out y.prefix m) × (s.since < m)).
      let nothing = old.trie.gone y.number y.prefix gone.0 bytes gone.1 in absurd (cc))
      known

  pub caller_in : (c : ℕ) (y : Layer) (bytes : Text) (x : Thing) → IsIn h c y → front h (spot y.number bytes) ≡ Some x
      → life h y.number ≡ in_place y.prefix
  caller_in c y bytes x caller is = with_pair caller.its y bytes x (reached c caller.its y caller.inside caller.reaches) is

  unmarked_by : (s : Section) (y : Layer) → SectionHolds h s → ReachesUnmarked s y → life h y.number ≡ in_place y.prefix
  unmarked_by s y its unmarked_top = old.trie.root
  unmarked_by s y its (by_layer z among goes) = its.stands z among

  pub caller_unmarked : (c : ℕ) (y : Layer) → IsInUnmarked h c y → life h y.number ≡ in_place y.prefix
  caller_unmarked c y caller = unmarked_by caller.its y (old.sections c caller.its caller.inside) caller.reaches

  -- Whoever found a layer without a mark has left when the wait behind the mark is over.
  pub left_by_then : (c : ℕ) (s : Section) (y z : Layer) (q : Spot) (m : ℕ) → section h c ≡ Some s → IsAmong (to_layer y) s.found
      → front h q ≡ Some (to_mark m z) → Left h m z.prefix → y.number ≡ z.number → ⊥
  left_by_then c s y z q m inside among is out same =
      let its = old.sections c s inside in
      let it : y ≡ z = placed_same (life h) y z (its.stands y among) (mark_leads q m z is) same in
      let early = its.marked y among q m z is (sym same) in
      let late = out c s inside (subst (λ (w : Layer). IsFor s.aim w.prefix) it (its.alike (to_layer y) among)) in
      omega arith

  not_emptied_by : (c : ℕ) (s : Section) (y z : Layer) (q : Spot) (m : ℕ) → section h c ≡ Some s → ReachesUnmarked s y
      → front h q ≡ Some (to_mark m z) → Left h m z.prefix → y.number ≢ z.number
  not_emptied_by c s y z q m inside unmarked_top is out same = mark_inner q m z is (sym same)
  not_emptied_by c s y z q m inside (by_layer w among goes) is out same = left_by_then c s w z q m inside among is out same

  pub not_emptied : (c : ℕ) (y z : Layer) (q : Spot) (m : ℕ) → IsInUnmarked h c y → front h q ≡ Some (to_mark m z) → Left h m z.prefix
      → y.number ≢ z.number
  not_emptied c y z q m caller is out = not_emptied_by c caller.its y z q m caller.inside caller.reaches is out

  for_both : (a : Aim) (t : Text) → IsFor a t → HasKeyOf (one t) a ⊎ HasKeyOf all a
  for_both (one u) t goes = inl (sym goes)
  for_both all t goes = inr tt

  -- behind the waits all have left who may have come to what is for the string
  pub left_by : (m : ℕ) (t : Text) → Outwaited h m t → Left h m t
  left_by m t out c s is goes = ⊎_elim (λ mine. (old.waited m (one t) out.its).1 c s is mine) (λ for_all. (old.waited m all out.alls).1 c s is for_all)
      (for_both s.aim t goes)

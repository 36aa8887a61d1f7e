-- Sections are entered and left, and read; what holds at each moment of a history.
use Rattle.std.proofs.Common.{◌≡◌, ◌≢◌, ◌⊎◌, inl, inr, ⊎_elim, ℕ, zero, suc, ◌<◌, ◌≤◌, Bool, true, false, nat_eq, List, [], ◌∷◌, length, Some, None, refl, sym, ap, subst, ◌∙◌, arith, if◌then◌else◌}
use mathlib.Core.Logic.{dite}
use native.Mathlib.Decide.{ℕ_discrete}
use Rattle.string_layers.specs.Things.{Text, slice, Layer, Thing, to_layer, to_mark, layer_of, text_of, Spot}
use Rattle.string_layers.specs.Events.{Aim, one, all, Event, enters, leaves, reads, gives_out, gives_back, prepares, clears, adds, exchanges, parts, removes, marks, outwaits, finds_empty, takes_layer, puts_back, front, in_place, taken_out, life, Section, with_found, section}
use Rattle.string_layers.specs.Histories.{IsAmong, Reaches, from_top, by_found, IsEmpty, LooksAt, MayRead, MayFindEmpty, HasKeyOf, IsOver, WasWaited, May, IsHistory}
use Rattle.string_layers.specs.Laws.{IsFor, WasInPlace}
use Rattle.string_layers.proofs.Texts.{slice_alike}
use Rattle.string_layers.proofs.Trie.{spot, Has, placed_once}
use Rattle.string_layers.proofs.Frames.{placed_same}
use Rattle.string_layers.proofs.Sections.{number_test, LeftBy, Left, left_by, KnownNow, SectionHolds, Holds, MarksWere, none_longer, place_longer, for_layer, section_stays, holds_by, mark_stands, mark_leads, reached, with_pair}
use Rattle.string_layers.proofs.Updates.{adds_keeps, exchanges_keeps, removes_keeps, marks_keeps, puts_back_keeps, parts_keeps}
use Rattle.string_layers.proofs.Numbers.{prepares_keeps, clears_keeps, gives_out_keeps, gives_back_keeps, takes_layer_keeps}

key_trans : (a b c : Aim) → HasKeyOf a b → HasKeyOf b c → HasKeyOf a c
key_trans (one s) (one t) (one u) x y = x ∙ y
key_trans (one s) (one t) all x y = absurd y
key_trans (one s) all c x y = absurd x
key_trans all (one t) c x y = absurd x
key_trans all all c x y = y

-- what a table with one line more has
either_line : {A : Type 0} (b : Bool) (x y z : A) → (if b then x else y) ≡ z → (x ≡ z) ⊎ (y ≡ z)
either_line true x y z e = inl e
either_line false x y z e = inr e

its_line : {A : Type 0} {P : Type 0} (b : Bool) (x y z : A) → (b ≡ true → P) → (if b then x else y) ≡ z → (P × (x ≡ z)) ⊎ (y ≡ z)
its_line true x y z p e = inl (p refl, e)
its_line false x y z p e = inr e

module _ (h : List Event) (old : Holds h) where
  -- an open section that an event leaves, and that leaves the pairs and the lives
  still_open : (e : Event) → ((y : Layer) → life (e ∷ h) y.number ≡ life h y.number) → MarksWere h e → (c : ℕ) (s : Section) → section h c ≡ Some s
      → SectionHolds (e ∷ h) s
  still_open e lives marks_are c s is = section_stays h e s (old.sections c s is)
      (λ y goes known. ⊎_elim (λ placed. inl (lives y ∙ placed)) (λ gone. inr (gone.0, lives y ∙ gone.1, gone.2)) known)
      (λ y among placed. lives y ∙ placed) marks_are

  -- A section is entered.
  abbrev fresh : Aim → Section
  fresh aim = record { since = length h; aim = aim; found = [] }

  fresh_holds : (e : Event) (aim : Aim) → SectionHolds (e ∷ h) (fresh aim)
  fresh_holds e aim = record {
    opened = omega arith;
    known = λ x y among leads. absurd among;
    stands = λ y among. absurd among;
    marked = λ y among q m z is same. absurd among;
    alike = λ x among. absurd among;
    seen = λ x among. absurd among;
  }

  is_fresh : (s t : Section) → Some s ≡ Some t → s ≡ t
  is_fresh s t e = cc

  enters_keeps : (c : ℕ) (aim : Aim) → Holds (enters c aim ∷ h)
  enters_keeps c aim =
      let e = enters c aim in
      let marks_are : MarksWere h e = λ q m z is. inl is in
      holds_by h e old old.trie (λ n p m is. inl is)
      (λ d s is. ⊎_elim
      (λ (new : Some (fresh aim) ≡ Some s). subst (λ (t : Section). SectionHolds (e ∷ h) t) (is_fresh (fresh aim) s new) (fresh_holds e aim))
      (λ before. still_open e (λ y. refl) marks_are d s before)
      (either_line (nat_eq c d) (Some (fresh aim)) (section h d) (Some s) is))
      marks_are
      (λ m want less out d s is goes. ⊎_elim
      (λ (new : Some (fresh aim) ≡ Some s). let since : length h ≡ s.since = ap (λ (z : Section). z.since) (is_fresh (fresh aim) s new) in omega arith)
      (λ before. out d s before goes)
      (either_line (nat_eq c d) (Some (fresh aim)) (section h d) (Some s) is))
      (λ m z q is none out. none) (λ m y was. was) (λ m a was. was)

  leaves_keeps : (c : ℕ) → Holds (leaves c ∷ h)
  leaves_keeps c =
      let e = leaves c in
      let marks_are : MarksWere h e = λ q m z is. inl is in
      let was : (d : ℕ) (s : Section) → section (e ∷ h) d ≡ Some s → section h d ≡ Some s =
      λ d s is. ⊎_elim (λ (gone : None ≡ Some s). absurd (cc)) (λ before. before) (either_line (nat_eq c d) None (section h d) (Some s) is) in
      holds_by h e old old.trie (λ n p m is. inl is) (λ d s is. still_open e (λ y. refl) marks_are d s (was d s is)) marks_are
      (λ m want less out d s is goes. out d s (was d s is) goes) (λ m z q is none out. none) (λ m y was. was) (λ m a was. was)

  -- A section reads that there is no pair.
  reads_none_keeps : (c : ℕ) (y : Layer) (bytes : Text) → Holds (reads c y bytes None ∷ h)
  reads_none_keeps c y bytes =
      let e = reads c y bytes None in
      let marks_are : MarksWere h e = λ q m z is. inl is in
      holds_by h e old old.trie (λ n p m is. inl is) (λ d s is. still_open e (λ z. refl) marks_are d s is) marks_are (λ m goes less out. out)
      (λ m z q is none out. none) (λ m z was. was) (λ m a was. was)

  -- It reads what the pair leads to.
  reaches_for : (s : Section) (y : Layer) → SectionHolds h s → Reaches s y → y.number ≢ zero → IsFor s.aim y.prefix
  reaches_for s y its from_top ne = absurd (ne refl)
  reaches_for s y its (by_found x z among leads goes) ne = for_layer s.aim x z leads (its.alike x among)

  module _ (c : ℕ) (y : Layer) (bytes : Text) (x : Thing) (may : MayRead h c y bytes (Some x)) where
    abbrev its : Section
    its = may.its

    holds_its : SectionHolds h its
    holds_its = old.sections c its may.inside

    read_placed : life h y.number ≡ in_place y.prefix
    read_placed = with_pair h old its y bytes x (reached h old c its y may.inside may.reaches) may.told

    has_read : Has (front h) (life h) y bytes x
    has_read = record { placed = read_placed; is = may.told }

    alike_in : (a : Aim) → LooksAt a y bytes → (y.number ≢ zero → IsFor a y.prefix) → IsFor a (text_of x)
    alike_in all looks goes = tt
    alike_in (one t) looks goes =
        let b = old.trie.belongs y bytes x has_read in
        dite (ℕ_discrete y.number zero)
        (λ e.
        let p : y.prefix ≡ [] = placed_once (life h) y.number y.prefix [] read_placed (ap (life h) e ∙ old.trie.root) in
        ap (λ s. slice t (length s)) (sym p) ∙ sym looks ∙ b.1 ∙ ap (λ s. slice (text_of x) (length s)) p)
        (λ ne. let long = old.trie.long y.number y.prefix read_placed ne in
        goes ne ∙ sym (slice_alike y.prefix (text_of x) 0 b.0.begins (omega arith)))

    read_known : (t : Thing) (w : Layer) → IsAmong t (x ∷ its.found) → layer_of t ≡ Some w → KnownNow h its w
    read_known t w (inl same) leads = inl (old.trie.leads y bytes x w has_read (ap layer_of (sym same) ∙ leads))
    read_known t w (inr among) leads = holds_its.known t w among leads

    read_stands : (w : Layer) → IsAmong (to_layer w) (x ∷ its.found) → life h w.number ≡ in_place w.prefix
    read_stands w (inl same) = old.trie.leads y bytes x w has_read (ap layer_of (sym same))
    read_stands w (inr among) = holds_its.stands w among

    no_mark_there : (w : Layer) → to_layer w ≡ x → (q : Spot) (m : ℕ) (z : Layer) → front h q ≡ Some (to_mark m z) → z.number ≡ w.number → ⊥
    no_mark_there w is q m z at same =
        let leads : layer_of x ≡ Some w = ap layer_of (sym is) in
        let it : z ≡ w = placed_same (life h) z w (mark_leads h old q m z at) (old.trie.leads y bytes x w has_read leads) same in
        let stands = mark_stands h old q m z at in
        let above : Layer = record { number = q.within; prefix = stands.0 } in
        let spots : spot y.number bytes ≡ q = old.trie.one w y above bytes q.slice x (to_mark m z) has_read
        (record { placed = stands.1; is = at }) leads (ap (λ v. Some v) it) in
        let both : Some x ≡ Some (to_mark m z) = sym may.told ∙ ap (front h) spots ∙ at in
        let two : x ≡ to_mark m z = cc in
        let no_two : to_layer w ≡ to_mark m z = is ∙ two in cc

    read_marked : (w : Layer) → IsAmong (to_layer w) (x ∷ its.found) → (q : Spot) (m : ℕ) (z : Layer) → front h q ≡ Some (to_mark m z)
        → z.number ≡ w.number → its.since < m
    read_marked w (inl is) q m z at same = absurd (no_mark_there w is q m z at same)
    read_marked w (inr among) q m z at same = holds_its.marked w among q m z at same

    read_alike : (t : Thing) → IsAmong t (x ∷ its.found) → IsFor its.aim (text_of t)
    read_alike t (inl same) = subst (λ u. IsFor its.aim (text_of u)) (sym same)
        (alike_in its.aim may.looks (λ ne. reaches_for its y holds_its may.reaches ne))
    read_alike t (inr among) = holds_its.alike t among

    read_seen : (e : Event) (t : Thing) → IsAmong t (x ∷ its.found) → WasInPlace (e ∷ h) its.since t
    read_seen e t (inl same) = subst (λ u. WasInPlace (e ∷ h) its.since u) (sym same) (record {
      later = e ∷ [];
      before = h;
      is = refl;
      after = holds_its.opened;
      at = spot y.number bytes;
      stands = (y.prefix, read_placed);
      had = may.told;
    })
    read_seen e t (inr among) = place_longer h e its.since t (holds_its.seen t among)

    abbrev wiser : Section
    wiser = record its { found = x ∷ its.found }

    wiser_holds : SectionHolds (reads c y bytes (Some x) ∷ h) wiser
    wiser_holds = record {
      opened = let less = holds_its.opened in omega arith;
      known = read_known;
      stands = read_stands;
      marked = read_marked;
      alike = read_alike;
      seen = read_seen (reads c y bytes (Some x));
    }

    is_wiser : (d : ℕ) (s : Section) → section (reads c y bytes (Some x) ∷ h) d ≡ Some s → ((c ≡ d) × (wiser ≡ s)) ⊎ (section h d ≡ Some s)
    is_wiser d s is = elim (its_line (nat_eq c d) (with_found x (section h d)) (section h d) (Some s) (number_test c d).0 is) [
      | inl new ↦ inl (new.0, is_fresh wiser s (ap (with_found x) (sym (ap (section h) (sym new.0) ∙ may.inside)) ∙ new.1))
      | inr before ↦ inr before
    ]

    reads_keeps : Holds (reads c y bytes (Some x) ∷ h)
    reads_keeps =
        let e = reads c y bytes (Some x) in
        let marks_are : MarksWere h e = λ q m z is. inl is in
        holds_by h e old old.trie (λ n p m is. inl is)
        (λ d s is. ⊎_elim
        (λ (new : (c ≡ d) × (wiser ≡ s)). subst (λ (t : Section). SectionHolds (e ∷ h) t) new.1 wiser_holds)
        (λ before. still_open e (λ z. refl) marks_are d s before)
        (is_wiser d s is))
        marks_are
        (λ m want less out d s is goes. ⊎_elim
        (λ (new : (c ≡ d) × (wiser ≡ s)). subst (λ (u : Section). m < u.since) new.1
        (out c its may.inside (subst (λ (u : Section). want u.aim) (sym new.1) goes)))
        (λ before. out d s before goes)
        (is_wiser d s is))
        (λ m z q is none out. none) (λ m z was. was) (λ m a was. was)

  -- Who put a mark in place finds its layer without pairs.
  finds_empty_keeps : (m : ℕ) (y : Layer) → MayFindEmpty h m y → Holds (finds_empty m y ∷ h)
  finds_empty_keeps m y may =
      let e = finds_empty m y in
      let marks_are : MarksWere h e = λ q i z is. inl is in
      record {
        trie = old.trie;
        went = λ n p i is. none_longer h e p i (old.went n p i is);
        sections = λ d s is. still_open e (λ z. refl) marks_are d s is;
        emptied = λ i z was q is. ⊎_elim
            (λ (now : (m ≡ i) × (y ≡ z)). subst (λ (w : ℕ × Layer). IsEmpty h w.1.number × Left h w.0 w.1.prefix) (λ j. (now.0 j, now.1 j))
            (may.none, left_by h old m y.prefix may.outwaited))
            (λ before. old.emptied i z before q is)
            was;
        put = λ q i z is. let less = old.put q i z is in omega arith;
        found_before = λ i z was. ⊎_elim (λ (now : (m ≡ i) × (y ≡ z)). let less = (old.waited m (one y.prefix) may.outwaited.its).0 in let same = now.0 in omega arith)
            (λ before. let less = old.found_before i z before in omega arith) was;
        waited = λ i a was. let r = old.waited i a was in let less = r.0 in (omega arith, r.1);
      }

  -- A wait is over.
  waited_then : (begun : ℕ) (aim : Aim) → begun ≤ length h → IsOver h begun aim → (m : ℕ) (a : Aim) → WasWaited (outwaits begun aim ∷ h) m a
      → (m < length (outwaits begun aim ∷ h)) × LeftBy h m (HasKeyOf a)
  waited_then begun aim made over m a was = ⊎_elim
      (λ (now : (m < begun) × HasKeyOf aim a). let less = now.0 in (
        omega arith,
        (λ c s is goes. let late = over c s is (key_trans aim a s.aim now.1 goes) in omega arith),
      ))
      (λ before. let r = old.waited m a before in let less = r.0 in (omega arith, r.1))
      was

  outwaits_keeps : (begun : ℕ) (aim : Aim) → begun ≤ length h → IsOver h begun aim → Holds (outwaits begun aim ∷ h)
  outwaits_keeps begun aim made over =
      let e = outwaits begun aim in
      let marks_are : MarksWere h e = λ q i z is. inl is in
      record {
        trie = old.trie;
        went = λ n p i is. none_longer h e p i (old.went n p i is);
        sections = λ d s is. still_open e (λ z. refl) marks_are d s is;
        emptied = λ i z was q is. old.emptied i z was q is;
        put = λ q i z is. let less = old.put q i z is in omega arith;
        found_before = λ i z was. let less = old.found_before i z was in omega arith;
        waited = waited_then begun aim made over;
      }

keeps : (h : List Event) (e : Event) → Holds h → May h e → Holds (e ∷ h)
keeps h (enters c aim) old may = enters_keeps h old c aim
keeps h (leaves c) old may = leaves_keeps h old c
keeps h (reads c y bytes None) old may = reads_none_keeps h old c y bytes
keeps h (reads c y bytes (Some x)) old may = reads_keeps h old c y bytes x may
keeps h (gives_out y) old may = gives_out_keeps h old y may
keeps h (gives_back n) old may = gives_back_keeps h old n may
keeps h (prepares y x) old may = prepares_keeps h old y x may.0 may.1
keeps h (clears at) old may = clears_keeps h old at may
keeps h (adds c y x) old may = adds_keeps h old c y x may
keeps h (exchanges c y was x) old may = exchanges_keeps h old c y was x may
keeps h (parts c y was by x) old may = parts_keeps h old c y was by x may
keeps h (removes c y x) old may = removes_keeps h old c y x may
keeps h (marks c y z) old may = marks_keeps h old c y z may
keeps h (outwaits begun aim) old may = outwaits_keeps h old begun aim may.0 may.1
keeps h (finds_empty m y) old may = finds_empty_keeps h old m y may
keeps h (takes_layer y m z) old may = takes_layer_keeps h old y m z may
keeps h (puts_back y m z) old may = puts_back_keeps h old y m z may

-- at first there is the outermost layer, without pairs
first_life : (n : ℕ) (p : Text) → life [] n ≡ in_place p → (n ≡ zero) × (p ≡ [])
first_life zero p e = (refl, let s : [] ≡ p = placed_once (life []) zero [] p refl e in sym s)
first_life (suc n) p e = absurd (cc)

no_other_life : (n : ℕ) (p : Text) (m : ℕ) → life [] n ≡ taken_out p m → ⊥
no_other_life zero p m e = cc
no_other_life (suc n) p m e = cc

begins_so : Holds []
begins_so = record {
  trie = record {
    root = refl;
    long = λ n p e ne. absurd (ne (first_life n p e).0);
    belongs = λ y bytes x has. let e = has.is in absurd (cc);
    leads = λ y bytes x z has e. let i = has.is in absurd (cc);
    one = λ z y other bytes more x by has its e d. let i = has.is in absurd (cc);
    led = λ z e ne. absurd (ne (first_life z.number z.prefix e).0);
    none = λ n bytes e. refl;
    gone = λ n p m bytes e. refl;
    unmarked = λ n p bytes m z e is. cc;
  };
  went = λ n p m e. absurd (no_other_life n p m e);
  sections = λ c s is. absurd (cc);
  emptied = λ m y was q is. absurd was;
  put = λ q m z is. absurd (cc);
  found_before = λ m y was. absurd was;
  waited = λ m a was. absurd was;
}

pub holds : (h : List Event) → IsHistory h → Holds h
holds [] is = begins_so
holds (e ∷ h) is = keeps h e (holds h is.0) is.1

-- What the rule tells of a seat and of the words, also after a step; and so, that an act that may be made is a step that the table allows.
-- A class has no more open sections than there are places.
use Rattle.std.proofs.Common.{◌≡◌, ◌≢◌, ℕ, zero, suc, ◌+◌, ◌%◌, ◌<◌, ◌≤◌, ◌==◌, true, false, cond, if◌then◌else◌, List, [], ◌∷◌, Option, Some, None, refl, sym, ap, ◌∙◌, inl, arith, eq-eqb, ne_eqb, ◌*◌, nat_le, ◌&&◌, Bool, ◌++◌, length, sum, subst, inr, ◌-◌, nat_lt, append-nil, set, slice_index, length-set}
use mathlib.Core.Logic.{dite}
use mathlib.Core.Option.{some}
use native.Mathlib.Decide.{dec_le, ℕ_discrete}
use lib.ListN.{get_elem?}
use Rattle.prcu_marks.specs.declared.mark.Mark.{Mark}
use Rattle.hash_core.specs.declared.view.Section.{Section}
use Rattle.hash_core.specs.declared.view.View.{View}
use Rattle.list_laws.specs.Counts.{total, times}
use Rattle.hash_core.specs.Memory.{Memory, IsPath, word_of, is_field, capacity, is_slot_of, IsOfClass, word_count, memory_of, stored}
use Rattle.hash_core.specs.Rule.{inside_count, MemoryRule, seek, HaveDistinctKeys, IsLocked, HasWay, WillAnswer, AnswersFor, IsTurned, BucketRule, Rule}
use Rattle.std.proofs.lemmas.Bool.{lt-ltb, le-leb}
use Rattle.hash_core.specs.declared.words.Field.{Field}
use Rattle.hash_core.specs.declared.words.Field.TheVariants.{Front, Lock, Head, Free, Retired, Key, Value, Next, Chain, Readers}
use Rattle.hash_core.specs.declared.view.SearchState.{SearchState}
use Rattle.hash_core.specs.declared.view.SearchState.TheVariants.{Unread, Passed, Found}
use Rattle.hash_core.specs.declared.view.Hold.{Hold}
use Rattle.prcu_marks.specs.declared.commit.Commit.{Commit}
use Rattle.prcu_marks.specs.Marks.{updates_of, own_of, most_tickets, most_front, updates_by, StaysWord, left_by, said_by}
use Rattle.prcu_marks.proofs.Marks.{updates_of-append, own_of-append}
use Rattle.prcu_model.proofs.Dictionaries.{AreUpdatesFrom-front}
use Rattle.hash_core.specs.Steps.{known_in, ComesTo, IsOnWalk, fresh_hold, StandsAt, section_of, hold_of, field_of, access_of, noted, Needs, done, commit_of, marks_of, said, left}
use Rattle.prcu_model.specs.Dictionary.{map_of, IsLegal, WasSaid}
use Rattle.hash_core.proofs.SlotLists.{seek_slot, path_cons, IsPath-from, slot_within}
use Rattle.list_laws.proofs.Lists.{at_one, all_times, total_part, times_here, times_append, at_below, only_at}
use Rattle.hash_core.proofs.SeatFrames.{Seated, marks_begin, reuse_begins}
use Rattle.hash_core.proofs.Frames.{word_inside, way_slot, chain_slot, free_slot, retired_slot, memory-word, memory-stored}
use Rattle.hash_core.proofs.Locks.{class_small}
use Rattle.hash_core.proofs.Links.{on_chain, absent_now}
use Rattle.hash_core.proofs.Keeping.{full_class, section_is, hold_is, acts_keep, state_of}
use Rattle.hash_core.specs.Laws.{HasPairs}
use Rattle.hash_core.proofs.Stocks.{rule as held_rule, is_known, roles_by}
use Rattle.hash_core.specs.declared.act.Act.{Act}
use Rattle.hash_core.proofs.Sections.{some_reader}
use Rattle.class_hash.specs.Seats.{HasPlace, HasRoom, TableAt}
use Rattle.class_hash.specs.Answers.{IsInformed, IsHeldByOther, GivesAnswer, StandsInClass, IsLink, IsLinkOf, IsFull, FindsFull, TellsWord, IsCounted, Gains}
use Rattle.atomic_table.proofs.Lists.{set_here}
use Rattle.prcu_marks.specs.declared.mark.Mark.TheVariants.{Left}
use Rattle.hash_core.specs.declared.act.Act.TheVariants.{LoadFront, Enter, Leave, SearchLoad, Lock as LockAct, LoadReaders, LockedLoad, TakeSlot, StoreChain, Retire, Fill, OpenCommit, LinkSlot, UnlinkSlot, ReplaceValue, CloseCommit}
use Rattle.hash_core.proofs.Splits.{quiet_turn}
use Rattle.atomic_table.specs.Seated.{TableId}
use Rattle.atomic_table.specs.Table.{State, Me, keeps, Allows}
use Rattle.hash_core.specs.declared.shape.Shape.{Shape}
use Rattle.prcu_marks.proofs.Accesses.{made_by, makes}
use Rattle.prcu_marks.specs.declared.access.Access.{Access}
use Rattle.class_hash.specs.declared.rule.Nothing.{Nothing}
use Rattle.class_hash.specs.Calls.{Touches, tells}
use Rattle.std.specs.FinMap as finite
use Rattle.hash_core.specs.declared.act.Act.TheVariants as act

module _ {V : Type 0} (place : V → ℕ) where
  -- no two of the elements that count have one place
  abbrev AreApart : (V → ℕ) → List V → Type 0
  AreApart f vs = (i j : ℕ) (v w : V) → get_elem? vs i ≡ some v → get_elem? vs j ≡ some w → 1 ≤ f v → 1 ≤ f w → place v ≡ place w → i ≡ j

  abbrev AreFew : (V → ℕ) → ℕ → List V → Type 0
  AreFew f p vs = (i : ℕ) (v : V) → get_elem? vs i ≡ some v → (f v ≤ 1) × (1 ≤ f v → place v < p)

  -- without those at a place
  abbrev without : ℕ → (V → ℕ) → V → ℕ
  without p f v = if place v == p then 0 else f v

  without_here : (p : ℕ) (f : V → ℕ) (v : V) → place v ≡ p → without p f v ≡ 0
  without_here p f v e = ap (λ b. cond b 0 (f v)) (eq-eqb (place v) p e)

  without_else : (p : ℕ) (f : V → ℕ) (v : V) → place v ≢ p → without p f v ≡ f v
  without_else p f v ne = ap (λ b. cond b 0 (f v)) (ne_eqb (place v) p ne)

  without_less : (p : ℕ) (f : V → ℕ) (v : V) → without p f v ≤ f v
  without_less p f v = dite (ℕ_discrete (place v) p) (λ e. let a = without_here p f v e in omega arith)
      (λ ne. let a = without_else p f v ne in omega arith)

  -- where no element of the place counts, nothing is left out
  none_there : (p : ℕ) (f : V → ℕ) (vs : List V) → ((i : ℕ) (v : V) → get_elem? vs i ≡ some v → place v ≡ p → f v ≡ 0)
      → total (without p f) vs ≡ total f vs
  none_there p f [] none = refl
  none_there p f (x ∷ xs) none =
      let rest = none_there p f xs (λ i v e. none (suc i) v e) in
      dite (ℕ_discrete (place x) p)
      (λ e. let a = without_here p f x e in let b = none 0 x refl e in omega arith)
      (λ ne. let a = without_else p f x ne in omega arith)

  -- at most one is left out
  one_there : (p bound : ℕ) (f : V → ℕ) (vs : List V) → AreApart f vs → AreFew f bound vs → total f vs ≤ total (without p f) vs + 1
  one_there p bound f [] apart few = omega arith
  one_there p bound f (x ∷ xs) apart few =
      dite (ℕ_discrete (place x) p)
      (λ e. dite (dec_le 1 (f x))
      (λ counts.
      let rest = none_there p f xs (λ i v there at. dite (dec_le 1 (f v))
      (λ some_one. absurd (let z : 0 ≡ suc i = apart 0 (suc i) x v refl there counts some_one (e ∙ sym at) in omega arith))
      (λ none. omega arith)) in
      let a = without_here p f x e in let b = (few 0 x refl).0 in omega arith)
      (λ none.
      let rest = one_there p bound f xs (λ i j v w a b c d s. let z : suc i ≡ suc j = apart (suc i) (suc j) v w a b c d s in omega arith)
      (λ i v at. few (suc i) v at) in
      let a = without_here p f x e in omega arith))
      (λ ne.
      let rest = one_there p bound f xs (λ i j v w a b c d s. let z : suc i ≡ suc j = apart (suc i) (suc j) v w a b c d s in omega arith)
      (λ i v at. few (suc i) v at) in
      let a = without_else p f x ne in omega arith)

  none_counts : (f : V → ℕ) (vs : List V) → AreFew f 0 vs → total f vs ≡ 0
  none_counts f [] few = refl
  none_counts f (x ∷ xs) few =
      let rest = none_counts f xs (λ i v at. few (suc i) v at) in
      let here = few 0 x refl in
      dite (dec_le 1 (f x)) (λ counts. absurd (let z = here.1 counts in omega arith)) (λ none. omega arith)

  pub few_count : (p : ℕ) (f : V → ℕ) (vs : List V) → AreApart f vs → AreFew f p vs → total f vs ≤ p
  few_count zero f vs apart few = let a = none_counts f vs few in omega arith
  few_count (suc p) f vs apart few =
      let one = one_there p (suc p) f vs apart few in
      let rest = few_count p (without p f) vs
      (λ i j v w a b c d s. let x = without_less p f v in let y = without_less p f w in apart i j v w a b (omega arith) (omega arith) s)
      (λ i v at. let t = few i v at in let most = t.0 in let less = without_less p f v in (
        omega arith,
        λ counts. dite (ℕ_discrete (place v) p) (λ e. absurd (let a = without_here p f v e in omega arith))
            (λ ne. let z = t.1 (omega arith) in omega arith),
      )) in
      omega arith

inside_one : (c : ℕ) (a : Option Section) → inside_count c a ≤ 1
inside_one c None = omega arith
inside_one c (Some s) = elim (s.key % 64 == c) as (λ b. cond b 1 0 ≤ 1) [ true ↦ omega arith | false ↦ omega arith ]

inside_some : (c : ℕ) (a : Option Section) → 1 ≤ inside_count c a → (s : Section) × (a ≡ Some s)
inside_some c None counts = absurd (omega arith)
inside_some c (Some s) counts = (s, refl)

-- the readers word is at most the number of places
pub few_readers : {capacities : List ℕ} {places tickets : ℕ} {m : Memory} {vs : List View} {h : List Mark}
    → MemoryRule capacities places tickets m vs h → (c : ℕ) → total (λ (v : View). inside_count c v.section) vs ≤ places
few_readers {places = places} {vs = vs} r c = few_count (λ (v : View). v.place) places (λ (v : View). inside_count c v.section) vs
    (λ i j v w a b x y same.
    let s = inside_some c v.section x in let t = inside_some c w.section y in
    let live = (r.sections.open_here i v s.0 a s.1).works in let live' = (r.sections.open_here j w t.0 b t.1).works in
    r.apart.apart i j v.place v w a b (inl (omega arith, omega arith)) (inl (omega arith, omega arith)))
    (λ i v a. (
      inside_one c v.section,
      λ x.
          let s = inside_some c v.section x in let live = (r.sections.open_here i v s.0 a s.1).works in
          r.apart.within i v v.place a (inl (omega arith, omega arith)),
    ))

-- What the rule tells of a seat and of the words.

pub key_small : (key : ℕ) → key % 64 < 64
key_small key = omega arith

-- what is of a class lies in the table
slot_inside : (capacities : List ℕ) (c s : ℕ) → is_slot_of capacities c s ≡ true → (nat_le 1 s && nat_le s (sum capacities)) ≡ true
slot_inside capacities c s of =
    let w = slot_within capacities c s of in
    ap (λ b. b && nat_le s (sum capacities)) (le-leb 1 s w.0) ∙ le-leb s (sum capacities) w.1

pub field_inside : (capacities : List ℕ) (c : ℕ) → c < 64 → (field : Field) → IsOfClass capacities c field
    → is_field capacities field ≡ true
field_inside capacities c small (Head d) of = lt-ltb d 64 (omega arith)
field_inside capacities c small (Free d) of = lt-ltb d 64 (omega arith)
field_inside capacities c small (Retired d) of = lt-ltb d 64 (omega arith)
field_inside capacities c small (Key s) of = slot_inside capacities c s of
field_inside capacities c small (Value s) of = slot_inside capacities c s of
field_inside capacities c small (Next s) of = slot_inside capacities c s of
field_inside capacities c small (Chain s) of = slot_inside capacities c s of
field_inside capacities c small _ of = absurd of

-- the first slot of a list is a slot of the class
first_slot : (capacities : List ℕ) (c : ℕ) (next : ℕ → ℕ) (first : ℕ) (xs : List ℕ)
    → ((x : ℕ) → 1 ≤ times x xs → is_slot_of capacities c x ≡ true) → IsPath next first xs → IsLink capacities c first
first_slot capacities c next first xs of path there =
    let p = path_cons next first xs there path in
    of first (let e = ap (times first) p.1 in let t = times_here first p.0 in omega arith)

module _ {capacities : List ℕ} {places tickets : ℕ} {m : Memory} {vs : List View} {h : List Mark} {id : ℕ} {v : View}
    (seat : Seated capacities places tickets m vs h id v) where
  pub few_tickets : v.tickets ≤ most_tickets
  few_tickets = let a = total_part (λ (u : View). u.tickets) vs id v seat.at in let b = seat.rule.tickets_are in let c =
      seat.rule.shape.few_tickets in
      omega arith

  pub few_updates : length (updates_of h) ≤ most_tickets
  few_updates = let b = seat.rule.tickets_are in let c = seat.rule.shape.few_tickets in omega arith

  -- what the view has seen
  pub informed : 1 ≤ v.places → IsInformed capacities places v
  informed works =
      let more = seat.rule.seen.begins id v seat.at in
      record {
        works = works;
        heard = seat.rule.seen.heard id v seat.at;
        legal = AreUpdatesFrom-front finite.empty (updates_of v.seen) (updates_of more.0)
            (subst IsLegal (ap updates_of (sym more.1) ∙ updates_of-append v.seen more.0) seat.rule.legal);
        marks = marks_begin places v.seen h more seat.rule.marks;
        reuse = reuse_begins capacities v.seen h more seat.rule.reuse;
        met = λ p answers. seat.rule.owned.met id v p seat.at answers;
        unused = λ p has far. seat.rule.owned.unused id v p seat.at has far;
        within = λ p far. front_none (own_of p v.seen) (own_of p more.0)
            (sym (own_of-append p v.seen more.0) ∙ ap (own_of p) more.1 ∙ seat.rule.owned.within p far);
      }
    where
      front_none : (xs ys : List Mark) → xs ++ ys ≡ [] → xs ≡ []
      front_none [] ys none = refl
      front_none (x ∷ xs) ys none = absurd (cc)

  -- who holds a lock, where this view holds none
  pub held_by_other : (c : ℕ) → c < 64 → v.hold ≡ None → IsHeldByOther places v (m (Lock c))
  held_by_other c below quiet = by (seat.rule.bucket c).hold (seat.rule.buckets c below).locked
    where
      by : (held : Option Hold) → IsLocked c m vs held → IsHeldByOther places v (m (Lock c))
      by None locked = λ some_holder. absurd (some_holder locked.0)
      by (Some hold) locked = λ some_holder.
          let u : View = locked.view in
          let mine : AnswersFor u u.place =
          (let works = (seat.rule.held.held locked.id u hold locked.there locked.has.holds).1 in inl (omega arith, omega arith)) in (
            u.place,
            locked.has.word,
            seat.rule.apart.within locked.id u u.place locked.there mine,
            λ also.
                let same : id ≡ locked.id = seat.rule.apart.apart id locked.id u.place v u seat.at locked.there also mine in
                let one : v ≡ u = at_one vs id v u seat.at (subst (λ z. get_elem? vs z ≡ some u) (sym same) locked.there) in
                let e : Some hold ≡ None = sym locked.has.holds ∙ ap (λ (z : View). z.hold) (sym one) ∙ quiet in
                absurd (cc),
          )

  pub gives_answer : (section : Section) → v.section ≡ Some section → GivesAnswer h section
  gives_answer section inside =
      let b = (seat.rule.buckets (section.key % 64) (key_small section.key)).answered in
      record {
        absent = λ ended. subst (WillAnswer capacities (section.key % 64) m h (updates_of h)
            (seat.rule.bucket (section.key % 64)).chain section) ended (b.readers id v section seat.at inside refl);
        present = λ value is. b.loaded id v section value seat.at inside refl is;
      }

  pub stands_in_class : (section : Section) → v.section ≡ Some section → StandsInClass capacities section
  stands_in_class section inside =
      let c : ℕ = section.key % 64 in
      let rule = seat.rule.buckets c (key_small section.key) in
      stand_case section.state (rule.answered.readers id v section seat.at inside refl)
    where
      at_slot : (s slot : ℕ) → HasWay capacities (section.key % 64) m h (updates_of h) (seat.rule.bucket (section.key % 64)).chain section s
          → s ≡ slot → is_slot_of capacities (section.key % 64) slot ≡ true
      at_slot s slot way e =
          let c : ℕ = section.key % 64 in
          subst (λ z. is_slot_of capacities c z ≡ true) e
          (way_slot m (seat.rule.buckets c (key_small section.key)).roles section s way)

      stand_case : (state : SearchState)
          → WillAnswer capacities (section.key % 64) m h (updates_of h) (seat.rule.bucket (section.key % 64)).chain section state → (slot : ℕ)
          → StandsAt state slot → is_slot_of capacities (section.key % 64) slot ≡ true
      stand_case (Unread s) will slot stands = at_slot s slot will stands
      stand_case (Passed s) will slot stands = at_slot s slot will.0 stands
      stand_case (Found s) will slot stands = at_slot s slot will.0 stands
      stand_case _ will slot stands = absurd stands

  module _ {hold : Hold} (mine : v.hold ≡ Some hold) where
    small : hold.class < 64
    small = class_small seat mine

    rule : BucketRule capacities hold.class m h (updates_of h) vs (seat.rule.bucket hold.class)
    rule = held_rule seat mine

    known : (field : Field) (number : ℕ) → known_in hold.known field ≡ Some number
        → IsOfClass capacities hold.class field × (m field ≡ number)
    known = is_known seat mine

    -- the slot on the known walk is linked
    comes : (first : ℕ) (before : List ℕ) (slot : ℕ) (xs : List ℕ) → ComesTo hold.known first before slot
        → IsPath (λ s. m (Next s)) first xs
        → (front rest : List ℕ) × (xs ≡ front ++ slot ∷ rest) × IsPath (λ s. m (Next s)) (m (Next slot)) rest
    comes first [] slot xs to path =
        let p = path_cons (λ s. m (Next s)) first xs (λ e. to.1 (sym to.0 ∙ e)) path in
        ([], p.0, p.1 ∙ ap (λ z. z ∷ p.0) to.0, subst (λ z. IsPath (λ s. m (Next s)) (m (Next z)) p.0) to.0 p.2)
    comes first (s ∷ before) slot xs to path =
        let p = path_cons (λ s. m (Next s)) first xs (λ e. to.1 (sym to.0 ∙ e)) path in
        let n = to.2 in
        let word : m (Next first) ≡ n.0 = ap (λ z. m (Next z)) to.0 ∙ (known (Next s) n.0 n.1).1 in
        let q = comes n.0 before slot p.0 n.2 (IsPath-from (λ s. m (Next s)) (m (Next first)) n.0 p.0 word p.2) in
        (first ∷ q.0, q.1, p.1 ∙ ap (λ z. first ∷ z) q.2, q.3)

    pub link_of : (field : Field) → IsOfClass capacities hold.class field → IsLinkOf capacities hold field (m field)
    link_of (Head d) of = subst (λ z. IsLink capacities hold.class (m (Head z))) (sym of)
        (first_slot capacities hold.class (λ s. m (Next s)) (m (Head hold.class)) (seat.rule.bucket hold.class).chain
        (chain_slot rule.roles) rule.chained.path)
    link_of (Free d) of = subst (λ z. IsLink capacities hold.class (m (Free z))) (sym of)
        (first_slot capacities hold.class (λ s. m (Chain s)) (m (Free hold.class)) (seat.rule.bucket hold.class).free
        (free_slot rule.roles) rule.listed.free)
    link_of (Retired d) of = subst (λ z. IsLink capacities hold.class (m (Retired z))) (sym of)
        (first_slot capacities hold.class (λ s. m (Chain s)) (m (Retired hold.class)) (seat.rule.bucket hold.class).retired
        (retired_slot rule.roles) rule.listed.retired)
    link_of (Next slot) of = λ on.
        let head : IsPath (λ s. m (Next s)) on.first (seat.rule.bucket hold.class).chain =
        IsPath-from (λ s. m (Next s)) (m (Head hold.class)) on.first (seat.rule.bucket hold.class).chain
        (known (Head hold.class) on.first on.head).1 rule.chained.path in
        let q = comes on.first on.before slot (seat.rule.bucket hold.class).chain on.comes head in
        first_slot capacities hold.class (λ s. m (Next s)) (m (Next slot)) q.1
        (λ x there. chain_slot rule.roles x
        (let e = ap (times x) q.2 in let a = times_append x q.0 (slot ∷ q.1) in
        let b : times x (slot ∷ q.1) ≡ (cond (lib.Dec.eqb slot x) 1 0) + times x q.1 = refl in omega arith)) q.3
    link_of _ of = tt

    -- what the dictionary gives the key of a slot on the known walk
    pub value_now : (slot key : ℕ) → IsOnWalk hold slot → known_in hold.known (Key slot) ≡ Some key
        → finite.get (map_of (updates_of h)) key ≡ Some (m (Value slot))
    value_now slot key on key_is =
        let chain : List ℕ = (seat.rule.bucket hold.class).chain in
        let head : IsPath (λ s. m (Next s)) on.first (seat.rule.bucket hold.class).chain =
        IsPath-from (λ s. m (Next s)) (m (Head hold.class)) on.first (seat.rule.bucket hold.class).chain
        (known (Head hold.class) on.first on.head).1 rule.chained.path in
        let q = comes on.first on.before slot (seat.rule.bucket hold.class).chain on.comes head in
        let is : m (Key slot) ≡ key = (known (Key slot) key key_is).1 in
        let there : 1 ≤ times slot (seat.rule.bucket hold.class).chain =
        (let e = ap (times slot) q.2 in let a = times_append slot q.0 (slot ∷ q.1) in let b = times_here slot q.1 in omega arith) in
        let class : key % 64 ≡ hold.class = ap (λ z. z % 64) (sym is)
        ∙ all_times (λ s. m (Key s) % 64 ≡ hold.class) (seat.rule.bucket hold.class).chain slot rule.chained.classes there in
        let found : seek m (m (Key slot)) (seat.rule.bucket hold.class).chain ≡ Some (m (Value slot)) =
        ap (seek m (m (Key slot))) q.2 ∙ seek_slot m slot q.0 q.1 (subst (HaveDistinctKeys m) q.2 rule.chained.distinct) in
        rule.mapped.answers key class ∙ subst (λ z. seek m z (seat.rule.bucket hold.class).chain ≡ Some (m (Value slot))) is found

    -- a free slot isn't on the known walk
    pub free_off : (slot : ℕ) → slot ≢ 0 → known_in hold.known (Free hold.class) ≡ Some slot → IsOnWalk hold slot → ⊥
    free_off slot ne first_is on =
        let there : 1 ≤ times slot (seat.rule.bucket hold.class).chain = on_chain seat mine slot on in
        let p = path_cons (λ s. m (Chain s)) slot (seat.rule.bucket hold.class).free ne
        (subst (λ z. IsPath (λ s. m (Chain s)) z (seat.rule.bucket hold.class).free)
        (known (Free hold.class) slot first_is).1 rule.listed.free) in
        let free : 1 ≤ times slot (seat.rule.bucket hold.class).free =
        (let e = ap (times slot) p.1 in let t = times_here slot p.0 in omega arith) in
        in_both _ _ _ _ _ _ _ (roles_by seat mine slot)
        (ap (λ b. cond b 1 0) (free_slot rule.roles slot free)) there free
      where
        in_both : (a b c d e f t : ℕ) → a + b + c + d + e + f ≡ t → t ≡ 1 → 1 ≤ a → 1 ≤ b → ⊥
        in_both a b c d e f t all one first second = absurd (omega arith)

    -- with both lists empty and nothing in hand the class is full
    pub full_now : (field : Field) (n : ℕ) (seen : List Mark) → m field ≡ n → seen ≡ h → FindsFull hold field n
        → IsFull capacities hold seen
    full_now field n seen found same f =
        let none : m (Retired hold.class) ≡ 0 = ap m (sym f.field_is) ∙ found ∙ f.none in
        record {
          pairs = subst (λ z. HasPairs hold.class (map_of (updates_of z)) (capacity capacities hold.class)) (sym same)
              (full_class seat mine f.free none f.taken f.unlinked f.moved);
          absent = λ key class shows. subst (λ z. finite.get (map_of (updates_of z)) key ≡ None) (sym same)
              (rule.mapped.answers key class ∙ absent_now seat mine key shows);
        }

    pub old_value : (slot key old : ℕ) → IsOnWalk hold slot → known_in hold.known (Key slot) ≡ Some key
        → known_in hold.known (Value slot) ≡ Some old → finite.get (map_of (updates_of h)) key ≡ Some old
    old_value slot key old on key_is value_is = value_now slot key on key_is ∙ ap Some (known (Value slot) old value_is).1

  -- the front is never large
  pub front_small : m Front ≤ most_front
  front_small = turn_case seat.rule.turned
    where
      turn_case : IsTurned m vs (length (updates_of h)) → m Front ≤ most_front
      turn_case (inl free) = let a = free.0 in let b = few_updates in omega arith
      turn_case (inr odd) = let o = odd.has in by o.commit.stored o.commit.found o.updates o.word
        where
          by : (t : Bool) (n : ℕ) → n + cond t 2 0 ≡ 2 * length (updates_of h) → m Front ≡ n + 1 → m Front ≤ most_front
          by true n b a = let c = few_updates in omega arith
          by false n b a = let c = few_updates in omega arith

  -- after an update the front shows how many there are
  pub position : (commit : Commit) → v.commit ≡ Some commit → updates_by commit ≡ 2 * length (updates_of h)
  position commit is = turn_case seat.rule.turned
    where
      turn_case : IsTurned m vs (length (updates_of h)) → updates_by commit ≡ 2 * length (updates_of h)
      turn_case (inl free) = absurd (let z : Some commit ≡ None = sym is ∙ free.1 id v seat.at in cc)
      turn_case (inr odd) = elim (only_at vs id v seat.at odd) [
        | inl o ↦ let e : Some commit ≡ Some o.0.commit = sym is ∙ o.0.has in let t : commit ≡ o.0.commit = cc in ap updates_by t ∙ o.0.updates
        | inr none ↦ absurd (let z : Some commit ≡ None = sym is ∙ none in cc)
      ]

  -- the seat's place is one of few, and so are its tickets
  pub has_room : 1 ≤ v.places → HasRoom v
  has_room works = record {
    place = record {
      works = works;
      few = (let last : ℕ = v.place + v.places - 1 in let below = seat.rule.apart.within id v last seat.at (inl (omega arith, omega arith)) in
          let few = seat.rule.shape.few_places in omega arith);
      held = λ hold mine. small mine;
    };
    few_tickets = few_tickets;
  }

module _ {capacities : List ℕ} {places tickets : ℕ} {m : Memory} {vs : List View} {h : List Mark} {id : ℕ} {v : View}
    (seat : Seated capacities places tickets m vs h id v) where
  -- a section's class has its reader
  one_reader : (section : Section) → v.section ≡ Some section → 1 ≤ m (Readers (section.key % 64))
  one_reader section inside = some_reader seat section inside (key_small section.key)

  pub fits : (a : Act) → Needs capacities v a → StaysWord (access_of v a) (m (field_of v a))
  fits (act.Enter key) d =
      let few = few_readers seat.rule (key % 64) in
      let counted = (seat.rule.buckets (key % 64) (key_small key)).counted.readers in
      let most = seat.rule.shape.few_places in
      omega arith
  fits act.Leave d = subst (λ (z : Section). 1 ≤ m (Readers (z.key % 64))) (sym (section_is v d.0 d.1)) (one_reader d.0 d.1)
  fits _ d = tt

-- No step takes a place away.
pub still_places : (v : View) (a : Act) (h : List Mark) (n : ℕ) → (done v a h n).places ≡ v.places
still_places v (act.Lock class) h n = elim (n == 0) as (λ b. (cond b
    (record (noted v (act.Lock class) n) { hold = Some (fresh_hold class) }) (noted v (act.Lock class) n)).places
    ≡ v.places) [ true ↦ refl | false ↦ refl ]
still_places v act.LoadReaders h n = elim (n == 0) as (λ b. (cond b
    (record (noted v act.LoadReaders n) { hold = Some (record (hold_of v) { clear = true }) }) (noted v act.LoadReaders n)).places
    ≡ v.places) [ true ↦ refl | false ↦ refl ]
still_places v (act.OpenCommit even) h n = elim (n == even) as (λ b. (cond b
    (record (noted v (act.OpenCommit even) n) { commit = Some (record { found = even; stored = false }) })
    (noted v (act.OpenCommit even) n)).places ≡ v.places) [ true ↦ refl | false ↦ refl ]
still_places v _ h n = refl

-- The word of an act whose needs are met is one of the table's.
module _ (capacities : List ℕ) (v : View) (place : HasPlace v) where
  held_class : (hold : Hold) → v.hold ≡ Some hold → nat_lt (hold_of v).class 64 ≡ true
  held_class hold is = lt-ltb (hold_of v).class 64 (subst (λ (z : Hold). z.class < 64) (sym (hold_is v hold is)) (place.held hold is))

  pub field_there : (a : Act) → Needs capacities v a → is_field capacities (field_of v a) ≡ true
  field_there act.LoadFront d = refl
  field_there (act.Enter key) d = lt-ltb (key % 64) 64 (key_small key)
  field_there act.Leave d = lt-ltb ((section_of v).key % 64) 64 (key_small (section_of v).key)
  field_there (act.SearchLoad field) d = field_inside capacities (d.0.key % 64) (key_small d.0.key) field d.3
  field_there (act.Lock class) d = lt-ltb class 64 d.0
  field_there act.LoadReaders d = held_class d.0 d.1
  field_there (act.LockedLoad field) d = field_inside capacities d.0.class (place.held d.0 d.1) field d.2
  field_there (act.StoreChain slot number) d = field_inside capacities d.0.class (place.held d.0 d.1.hold_is) (Chain slot) d.2
  field_there (act.Retire slot) d = held_class d.0 d.2.hold_is
  field_there (act.Fill field number) d = field_inside capacities d.0.class (place.held d.0 d.2.hold_is) field d.3
  field_there (act.OpenCommit even) d = refl
  field_there (act.LinkSlot slot key value) d = held_class d.0 d.3.commit.hold_is
  field_there (act.UnlinkSlot link slot key next) d = field_inside capacities d.0.class (place.held d.0 d.2.commit.hold_is) link d.3
  field_there (act.ReplaceValue slot key value) d = field_inside capacities d.0.class (place.held d.0 d.2.commit.hold_is) (Value slot) d.3
  field_there (act.CloseCommit front) d = refl
  field_there _ d = held_class d.0 d.1.hold_is

  pub word_below : (a : Act) (words word : ℕ) → words ≡ word_count capacities → word ≡ word_of (field_of v a) → Needs capacities v a
      → word < words
  word_below a words word all is needs = let below = word_inside capacities (field_of v a) (field_there a needs) in omega arith

-- What the rule tells after a step of an act.

-- leaving adds no update
left_answer : (section : Section) (h : List Mark) (place count : ℕ) → GivesAnswer h section
    → GivesAnswer (h ++ Left place count ∷ []) section
left_answer section h place count gives =
    let same : updates_of (h ++ Left place count ∷ []) ≡ updates_of h =
    updates_of-append h (Left place count ∷ []) ∙ append-nil (updates_of h) in
    record {
      absent = λ ended. subst (λ us. WasSaid us section.key section.from None) (sym same) (gives.absent ended);
      present = λ value is. subst (λ us. WasSaid us section.key section.from (Some value)) (sym same) (gives.present value is);
    }

module _ {capacities : List ℕ} {places tickets : ℕ} {m : Memory} {vs : List View} {h : List Mark} {id : ℕ} {v : View}
    (seat : Seated capacities places tickets m vs h id v) (works : 1 ≤ v.places) where
  -- the seat after the act
  seat_after : (a : Act) → Needs capacities v a → let n = m (field_of v a) in let w = done v a h n in
      Seated capacities places tickets (stored m (field_of v a) (left v a n)) (set vs id w) (h ++ marks_of v a) id w
  seat_after a needs = record {
    rule = (acts_keep (state_of seat.rule) id v a seat.at works needs).rule;
    at = set_here vs id (done v a h (m (field_of v a))) (at_below vs id v seat.at);
  }

  -- after an update
  counted : (a : Act) → Needs capacities v a → let w = done v a h (m (field_of v a)) in
      w.commit ≡ Some (record { found = (commit_of v).found; stored = true }) → w.seen ≡ h ++ marks_of v a → IsCounted v w
  counted a needs made seen = record {
    position = position (seat_after a needs) (record { found = (commit_of v).found; stored = true }) made
        ∙ ap (λ z. 2 * length (updates_of z)) (sym seen);
  }

  pub gains : (t : TableAt) → t.capacities ≡ capacities → t.places ≡ places → (a : Act) → Needs capacities v a
      → Gains t v a h (said v a (m (field_of v a))) (done v a h (m (field_of v a)))
  gains t of_table at_places Leave d =
      subst (GivesAnswer (h ++ Left v.place (section_of v).count ∷ [])) (sym (section_is v d.0 d.1))
      (left_answer d.0 h v.place (section_of v).count (gives_answer seat d.0 d.1))
  gains t of_table at_places (SearchLoad field) d =
      let w : View = done v (SearchLoad field) h (m field) in
      subst (λ cs. StandsInClass cs (section_of w)) (sym of_table)
      (stands_in_class (seat_after (SearchLoad field) d) (section_of w) refl)
  gains t of_table at_places (LockAct class) d = record {
    even = quiet_turn m vs _ seat.rule.turned id v seat.at d.1.1;
    other = subst (λ n. IsHeldByOther n v (m (Lock class))) (sym at_places) (held_by_other seat class d.0 d.1.1);
  }
  gains t of_table at_places (LockedLoad field) d =
      let w : View = done v (LockedLoad field) h (m field) in
      let tells : TellsWord capacities d.0 field (m field) w = record {
        link = link_of seat d.1 field d.2;
        same = λ number is. (is_known seat d.1 field number is).1;
        full = λ f. full_now seat d.1 field (m field) w.seen refl (ap (λ b. cond b h v.seen) (eq-eqb (m field) 0 f.none)) f;
      } in
      subst (λ (z : List ℕ × Hold). TellsWord z.0 z.1 field (m field) w) (λ i. (sym of_table i, sym (hold_is v d.0 d.1) i)) tells
  gains t of_table at_places (TakeSlot slot next) d = subst (λ (z : Hold). IsOnWalk z slot → ⊥) (sym (hold_is v d.0 d.1.hold_is))
      (free_off seat d.1.hold_is slot d.1.some d.1.first)
  gains t of_table at_places (OpenCommit even) d = front_small seat
  gains t of_table at_places (LinkSlot slot key value) d = counted (LinkSlot slot key value) d refl refl
  gains t of_table at_places (UnlinkSlot link slot key next) d = counted (UnlinkSlot link slot key next) d refl refl
  gains t of_table at_places (ReplaceValue slot key value) d = record {
    counted = counted (ReplaceValue slot key value) d refl refl;
    was = λ old is. old_value seat d.2.commit.hold_is slot key old d.2.on_walk d.2.key_is
        (subst (λ (z : Hold). known_in z.known (Value slot) ≡ Some old) (hold_is v d.0 d.2.commit.hold_is) is);
  }
  gains t of_table at_places _ d = tt

-- The one border: where a law keeps the rule, an act is a step that the table allows.

module _ (k : Shape) (t : TableAt) (slots id : ℕ) (me : Me Nothing View) (a : Act)
    (is : is_field k.capacities.items (field_of me.0 a) ≡ true) (works : 1 ≤ me.0.places) (needs : Needs k.capacities.items me.0 a) where
  abbrev Holds : State Nothing View → Type 0
  Holds s = Rule k s.words s.views

  abbrev here : TableAt
  here = record t { capacities = k.capacities.items; places = k.places }

  abbrev access : Access
  access = access_of me.0 a

  allows_field : Allows Holds slots id me (word_of (field_of me.0 a)) (made_by (access_of me.0 a))
      (λ n. tells (record t { capacities = k.capacities.items; places = k.places }) a me (said_by (access_of me.0 a) n))
  allows_field s r len at below =
      let field : Field = field_of me.0 a in
      let m : Memory = memory_of k.capacities.items s.words in
      let h : List Mark = r.marks in
      let found : m field ≡ slice_index s.words (word_of field) = memory-word k.capacities.items s.words field is in
      let left : ℕ = left_by access (m field) in
      let w : View = done me.0 a h (m field) in
      let vs' : List View = set s.views id w in
      let h' : List Mark = h ++ marks_of me.0 a in
      let seat : Seated k.capacities.items k.places k.tickets m s.views h id me.0 = record { rule = r.holds; at = at } in
      let after = seat_after seat works a needs in
      let leaves : made_by access (slice_index s.words (word_of field)) ≡ left =
      ap (made_by access) (sym found) ∙ makes access (m field) (subst (λ z. z < 18446744073709551616) (sym found) below)
      (fits seat a needs) in
      let rule : Rule k (set s.words (word_of field) left) vs' = record {
        marks = h';
        long = length-set s.words (word_of field) left ∙ r.long;
        holds = subst (λ z. MemoryRule k.capacities.items k.places k.tickets z vs' h')
            (sym (memory-stored k.capacities.items s.words field left is r.long)) after.rule;
      } in
      let still : 1 ≤ w.places = subst (λ n. 1 ≤ n) (sym (still_places me.0 a h (m field))) works in
      let telling : tells here a me (said_by access (m field)) (w, me.1) = (
        refl,
        has_room after still,
        record {
          marks = h;
          begins = r.holds.seen.begins id me.0 at;
          goes = refl;
          informed = informed after still;
          gains = gains seat works here refl refl a needs;
        },
      ) in (
        w,
        keeps,
        tt,
        subst (λ z. Rule k (set s.words (word_of field) z) (set s.views id w)) (sym leaves) rule,
        subst (λ z. tells here a me (said_by access z) (w, me.1)) found telling,
      )

-- What the table asks of an access to the word of an act: that it is the seat's, that there is such a word, and that the rule is kept.
pub allowed : {k : Shape} {t picked_table : TableAt} {picked act : Act} {table here : TableId} {id : ℕ} {me : Me Nothing View}
    {word : ℕ} {access : Access} (a : Access) → access ≡ a → here ≡ table → table.words ≡ word_count t.capacities
    → t.capacities ≡ k.capacities.items → t.places ≡ k.places → (picked_table ≡ t) × (picked ≡ act) → Touches t me.0 act access word
    → (here ≡ table) × (word < table.words) × Allows (λ (s : State Nothing View). Rule k s.words s.views) table.slots id me word (made_by a)
    (λ n. tells picked_table picked me (said_by a n))
allowed {k} {t} {picked_table} {picked} {act} {table} {here} {id} {me} {word} {access} a by mine counts capacities places picks asks =
    let needs : Needs k.capacities.items me.0 act = subst (λ cs. Needs cs me.0 act) capacities asks.asks in
    let same_table : record t { capacities = k.capacities.items; places = k.places } ≡ picked_table =
    (λ i. record t { capacities = sym capacities i; places = sym places i }) ∙ sym picks.0 in
    let there = field_there k.capacities.items me.0 asks.place act needs in (
      mine,
      word_below t.capacities me.0 asks.place act table.words word counts asks.at asks.asks,
      subst (λ (x : ℕ × TableAt × Act × Access). Allows (λ (s : State Nothing View). Rule k s.words s.views) table.slots id me x.0
          (made_by x.3) (λ n. tells x.1 x.2 me (said_by x.3 n)))
          (λ i. (sym asks.at i, same_table i, sym picks.1 i, (asks.does ∙ by) i))
          (allows_field k t table.slots id me act there asks.place.works needs),
    )

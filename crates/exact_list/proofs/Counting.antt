-- Which loads were made, one after another.
use Rattle.std.proofs.Common.{◌≡◌, ◌≢◌, ℕ, ◌+◌, ◌*◌, ◌≤◌, cond, Bool, true, false, List, [], ◌∷◌, ◌++◌, length, map, Some, None, refl, sym, ap, subst, ◌∙◌, ⊎_elim, arith, ne_eqb, append_assoc, append-nil, length-append}
use Rattle.std.specs.List.{AllByRecursion}
use Rattle.std.proofs.lemmas.List.{append_cancel_left, map-append}
use Rattle.std.proofs.lemmas.List.Elements.{filter-append, filter_map-append}
use Rattle.prcu_marks.specs.declared.mark.Side.{Side}
use Rattle.prcu_marks.specs.declared.mark.Side.TheVariants.{Right}
use Rattle.core_state.specs.declared.shape.Shape.{Shape}
use Rattle.core_state.specs.declared.words.Field.{Field}
use Rattle.core_state.specs.declared.words.Field.TheVariants.{Key, Value, Link, Front}
use Rattle.core_state.specs.declared.words.Kind.{Kind}
use Rattle.core_state.specs.declared.words.Kind.TheVariants.{K17, K37}
use Rattle.core_state.specs.declared.view.StepMade.{StepMade}
use Rattle.core_state.specs.declared.view.Trail.{Trail}
use Rattle.core_state.specs.declared.view.View.{View}
use Rattle.core_state.specs.Memory.{child_of}
use Rattle.core_state.specs.declared.act.Part.{Part}
use Rattle.core_state.specs.declared.act.Part.TheVariants as part
use Rattle.core_state.specs.declared.act.Act.{Act}
use Rattle.core_state.specs.declared.act.Act.TheVariants.{ListLoad, LookAtFront}
use Rattle.core_state.specs.Acts.{in_slot, kind_of, field_of, noted}
use Rattle.core_laws.proofs.Acting.{stays_at_work}
use Rattle.seat_table.specs.Gains.{Told}
use Rattle.seat_table.specs.Sections.{Makes, is_entry, is_exit, HasEntered, HasLeft}
use Rattle.exact_list.specs.declared.nearest.Found.{Found}
use Rattle.exact_list.specs.declared.way.Next.{Next}
use Rattle.exact_list.specs.declared.way.Next.TheVariants.{At, Lost}
use Rattle.exact_list.specs.declared.way.Passed.{Passed}
use Rattle.exact_list.specs.declared.way.Way.{Way}
use Rattle.exact_list.specs.Loads.{load, loads_of, HasWalked, values_of, how_many, is_key, is_root, IsOneWalk, GoesDown, LeadDown, IsWayDown, IsOneWayDown, HasPassed, NextIs, least_passed}
use Rattle.exact_list.specs.Pairs.{Pair}
use Rattle.exact_list.specs.Tries.{is_load, HasLoaded}
use Rattle.exact_list.proofs.Loading.{child_is, no_child}

-- ---- steps one after another

pub walked_none : (v : View) {walk : List StepMade → Type 0} → walk [] → HasWalked v walk v
walked_none v {walk} is = record { loads = []; made = sym (append-nil v.trail.steps); is = is }

module _ {v u w : View} {before after : List StepMade → Type 0} (z : HasWalked v before u) where
  pub walked_both : {more : List StepMade → Type 0} → HasWalked u more w
      → ((a b : List StepMade) → before a → more b → after (a ++ b)) → HasWalked v after w
  walked_both {more} x on = record {
    loads = z.loads ++ x.loads;
    made = x.made ∙ ap (λ (l : List StepMade). l ++ x.loads) z.made ∙ append_assoc v.trail.steps z.loads x.loads;
    is = on z.loads x.loads z.is x.is;
  }

-- what was walked is such a walk too
pub walked_as : {v w : View} {before after : List StepMade → Type 0} → HasWalked v before w
    → ((a : List StepMade) → before a → after a) → HasWalked v after w
walked_as {v} {w} {before} {after} z on = record { loads = z.loads; made = z.made; is = on z.loads z.is }

-- one load
abbrev pub IsLoad : Field → ℕ → List StepMade → Type 0
IsLoad field n loads = loads ≡ load field n ∷ []

told_step : {k : Shape} {v w : View} {a : Act} {n : ℕ} → Told k v a n w
    → w.trail.steps ≡ v.trail.steps ++ record { kind = kind_of a; field = field_of v.allowance.place a; number = n } ∷ []
told_step {k} {v} {w} {a} {n} t = ap (λ (z : View). z.trail.steps) t.goes ∙ (stays_at_work (noted v a n) t.marks n a).steps

pub walked_load : {k : Shape} {v w : View} {s : ℕ} {p : Part} {n : ℕ} → Told k v (ListLoad s p) n w
    → HasWalked v (IsLoad (in_slot s p) n) w
walked_load {k} {v} {w} {s} {p} {n} t = record { loads = load (in_slot s p) n ∷ []; made = told_step t; is = refl }

-- and one load after others
pub walked_more : {k : Shape} {v u w : View} {before after : List StepMade → Type 0} {s : ℕ} {p : Part} {n : ℕ} → HasWalked v before u
    → Told k u (ListLoad s p) n w → ((a : List StepMade) → before a → after (a ++ load (in_slot s p) n ∷ [])) → HasWalked v after w
walked_more {k} {v} {u} {w} {before} {after} {s} {p} {n} z t on = walked_both z (walked_load t)
    (λ a b is one. subst (λ (l : List StepMade). after (a ++ l)) (sym one) (on a is))

-- a key and then a link
abbrev pub IsHop : ℕ → ℕ → Side → ℕ → List StepMade → Type 0
IsHop s key side n loads = loads ≡ load (Key s) key ∷ load (Link s side) n ∷ []

pub walked_two : {k : Shape} {v u w : View} {s key n : ℕ} {side : Side} → Told k v (ListLoad s part.Key) key u
    → Told k u (ListLoad s (part.Link side)) n w → HasWalked v (IsHop s key side n) w
walked_two {k} {v} {u} {w} {s} {key} {n} {side} first second = walked_more (walked_load first) second
    (λ a one. ap (λ (l : List StepMade). l ++ load (Link s side) n ∷ []) one)

-- ---- counts

pub how_many-append : (which : Field → Bool) (a b : List StepMade) → how_many which (a ++ b) ≡ how_many which a + how_many which b
how_many-append which [] b = omega arith
how_many-append which (t ∷ a) b = let rest = how_many-append which a b in cases (which t.field) rest
  where
    cases : (z : Bool) → how_many which (a ++ b) ≡ how_many which a + how_many which b
        → cond z (how_many which (a ++ b) + 1) (how_many which (a ++ b))
        ≡ cond z (how_many which a + 1) (how_many which a) + how_many which b
    cases true rest = omega (arith, rest)
    cases false rest = rest

pub values-append : (a b : List StepMade) → values_of (a ++ b) ≡ values_of a ++ values_of b
values-append a b = filter_map-append _ a b

-- no link of the root
not_root : (s : ℕ) (side : Side) → s ≢ 0 → is_root (Link s side) ≡ false
not_root s side ne = ne_eqb s 0 ne

link_below : (s n : ℕ) (side : Side) → s ≢ 0 → how_many is_root (load (Link s side) n ∷ []) ≡ 0
link_below s n side ne = ap (λ z. cond z 1 0) (not_root s side ne)

-- ---- a way down in a walk

pub down_none : (way : Way) → GoesDown way way []
down_none way = record { values = refl; roots = refl; passed = omega arith }

module _ (way mid : Way) (loads : List StepMade) (is : GoesDown way mid loads) where
  -- a slot more: its key and a link are loaded
  pub down_more : (new : Way) (s key n : ℕ) (side : Side) → s ≢ 0 → least_passed new ≤ least_passed mid + 1
      → GoesDown way new (loads ++ load (Key s) key ∷ load (Link s side) n ∷ [])
  down_more new s key n side ne one =
      let more : List StepMade = load (Key s) key ∷ load (Link s side) n ∷ [] in
      let keys = how_many-append is_key loads more in
      let roots = how_many-append is_root loads more in
      let below = link_below s n side ne in
      let none = is.roots in
      let passed = is.passed in
      record {
        values = values-append loads more ∙ append-nil (values_of loads) ∙ is.values;
        roots = omega (arith, roots, below, none);
        passed = omega (arith, keys, passed, one);
      }

-- a key and a link are loaded, of a slot that isn't the root
pub walked_hop : {k : Shape} {v u x w : View} {way mid new : Way} {s key n : ℕ} {side : Side} → HasWalked v (GoesDown way mid) u → s ≢ 0
    → Told k u (ListLoad s part.Key) key x → Told k x (ListLoad s (part.Link side)) n w → least_passed new ≤ least_passed mid + 1
    → HasWalked v (GoesDown way new) w
walked_hop {k} {v} {u} {x} {w} {way} {mid} {new} {s} {key} {n} {side} z ne first second one =
    walked_both z (walked_two first second) (λ a b is two. subst (λ (l : List StepMade). GoesDown way new (a ++ l)) (sym two)
    (down_more way mid a is new s key n side ne one))

-- the slot is kept, or all that were kept are given up
pub passed_one : (way : Way) (p : Passed) (new : Way) → HasPassed way p new → least_passed new ≤ least_passed way + 1
passed_one way p new passed = ⊎_elim
    (λ (x : (new.passed.items ≡ way.passed.items ++ p ∷ []) × (new.cut ≡ way.cut)).
    cases way.cut new.cut x.1 (ap length x.0 ∙ length-append way.passed.items (p ∷ [])))
    (λ (x : (length way.passed.items ≡ 64) × (new.passed.items ≡ p ∷ []) × (new.cut ≡ true)).
    subst (λ z. cond z 65 (length new.passed.items) ≤ least_passed way + 1) (sym x.2) (full way.cut x.0))
    passed
  where
    cases : (a b : Bool) → b ≡ a → length new.passed.items ≡ length way.passed.items + 1
        → cond b 65 (length new.passed.items) ≤ cond a 65 (length way.passed.items) + 1
    cases true b e more = subst (λ z. cond z 65 (length new.passed.items) ≤ 66) (sym e) (omega arith)
    cases false b e more = subst (λ z. cond z 65 (length new.passed.items) ≤ length way.passed.items + 1) (sym e) (omega (arith, more))

    full : (a : Bool) → length way.passed.items ≡ 64 → 65 ≤ cond a 65 (length way.passed.items) + 1
    full true is = omega arith
    full false is = omega (arith, is)

-- ---- a walk

-- Just the values of these pairs were loaded so far. For each time but the last that the walk went down from the root it loaded 65 keys,
-- and since then as many as the way has passed slots.
pub record HasCounted (pairs : List Pair) (way : Way) (loads : List StepMade) : Type 0 where
  pub values : values_of loads ≡ map (λ (p : Pair). p.1) pairs
  pub paid : 65 * how_many is_root loads + least_passed way ≤ 65 + how_many is_key loads

-- it begins
counted_first : (pairs : List Pair) (way : Way) (n : ℕ) → pairs ≡ [] → way.passed.items ≡ [] → way.cut ≡ false
    → HasCounted pairs way (load (Link 0 Right) n ∷ [])
counted_first pairs way n none empty whole = record {
  values = sym (ap (map (λ (p : Pair). p.1)) none);
  paid =
      let passed : least_passed way ≡ 0 = (λ i. cond (whole i) 65 (length (empty i))) in
      omega (arith, passed);
}

counted_down : (pairs : List Pair) (way new : Way) (a b : List StepMade) → HasCounted pairs way a → GoesDown way new b
    → HasCounted pairs new (a ++ b)
counted_down pairs way new a b x down =
    let keys = how_many-append is_key a b in
    let roots = how_many-append is_root a b in
    let none = down.roots in
    let passed = down.passed in
    let paid = x.paid in
    record {
      values = values-append a b ∙ (λ i. values_of a ++ down.values i) ∙ append-nil (values_of a) ∙ x.values;
      paid = omega (arith, keys, roots, none, passed, paid);
    }

-- it goes back to a slot of its way
at_slot : (way new : Way) (p : Passed) → NextIs way (At p) new → least_passed new ≤ least_passed way
at_slot way new p is = cases way.cut new.cut is.1 (ap length is.0 ∙ length-append new.passed.items (p ∷ []))
  where
    cases : (a b : Bool) → b ≡ a → length way.passed.items ≡ length new.passed.items + 1
        → cond b 65 (length new.passed.items) ≤ cond a 65 (length way.passed.items)
    cases true b e more = subst (λ z. cond z 65 (length new.passed.items) ≤ 65) (sym e) (omega arith)
    cases false b e more = subst (λ z. cond z 65 (length new.passed.items) ≤ length way.passed.items) (sym e) (omega (arith, more))

counted_at : (pairs : List Pair) (way new : Way) (r : Next) (p : Passed) (loads : List StepMade) → NextIs way r new → r ≡ At p
    → HasCounted pairs way loads → HasCounted pairs new loads
counted_at pairs way new r p loads is at x =
    let less = at_slot way new p (subst (λ z. NextIs way z new) at is) in
    let paid = x.paid in
    record { values = x.values; paid = omega (arith, less, paid) }

-- or begins at the root again
counted_lost : (pairs : List Pair) (way new : Way) (r : Next) (n : ℕ) (loads : List StepMade) → NextIs way r new → r ≡ Lost
    → HasCounted pairs way loads → HasCounted pairs new (loads ++ load (Link 0 Right) n ∷ [])
counted_lost pairs way new r n loads given lost x =
    let is = subst (λ z. NextIs way z new) lost given in
    let was : least_passed way ≡ 65 = (λ i. cond (is.1 i) 65 (length way.passed.items)) in
    let now : least_passed new ≡ 0 = (λ i. cond (is.3 i) 65 (length (is.2 i))) in
    let more : List StepMade = load (Link 0 Right) n ∷ [] in
    let keys = how_many-append is_key loads more in
    let roots = how_many-append is_root loads more in
    let paid = x.paid in
    record {
      values = values-append loads more ∙ append-nil (values_of loads) ∙ x.values;
      paid = omega (arith, was, now, keys, roots, paid);
    }

-- a pair more
counted_pair : (pairs more : List Pair) (way : Way) (s key value : ℕ) (loads : List StepMade) → more ≡ pairs ++ (key, value) ∷ []
    → HasCounted pairs way loads → HasCounted more way (loads ++ load (Value s) value ∷ [])
counted_pair pairs more way s key value loads is x =
    let one : List StepMade = load (Value s) value ∷ [] in
    let keys = how_many-append is_key loads one in
    let roots = how_many-append is_root loads one in
    let paid = x.paid in
    record {
      values = values-append loads one ∙ (λ i. x.values i ++ value ∷ []) ∙ sym (map-append (λ (p : Pair). p.1) pairs ((key, value) ∷ []))
          ∙ sym (ap (map (λ (p : Pair). p.1)) is);
      paid = omega (arith, keys, roots, paid);
    }

counted_link : (pairs : List Pair) (way : Way) (s n : ℕ) (side : Side) (loads : List StepMade) → s ≢ 0 → HasCounted pairs way loads
    → HasCounted pairs way (loads ++ load (Link s side) n ∷ [])
counted_link pairs way s n side loads ne x =
    let one : List StepMade = load (Link s side) n ∷ [] in
    let keys = how_many-append is_key loads one in
    let roots = how_many-append is_root loads one in
    let below = link_below s n side ne in
    let paid = x.paid in
    record {
      values = values-append loads one ∙ append-nil (values_of loads) ∙ x.values;
      paid = omega (arith, keys, roots, below, paid);
    }

-- it ends
counted_all : (pairs : List Pair) (way : Way) (loads : List StepMade) → HasCounted pairs way loads → IsOneWalk pairs None loads
counted_all pairs way loads x = let paid = x.paid in record { values = x.values; roots = omega (arith, paid) }

counted_full : (pairs : List Pair) (way : Way) (s next value : ℕ) (loads : List StepMade) → HasCounted pairs way loads
    → IsOneWalk pairs (Some next) (loads ++ load (Value s) value ∷ [])
counted_full pairs way s next value loads x =
    let one : List StepMade = load (Value s) value ∷ [] in
    let keys = how_many-append is_key loads one in
    let roots = how_many-append is_root loads one in
    let paid = x.paid in
    record {
      values = (value, values-append loads one ∙ (λ i. x.values i ++ value ∷ []));
      roots = omega (arith, keys, roots, paid);
    }

pub counts_first : {k : Shape} {v w : View} {pairs : List Pair} {way : Way} {n : ℕ} → pairs ≡ [] → way.passed.items ≡ [] → way.cut ≡ false
    → Told k v (ListLoad 0 (part.Link Right)) n w → HasWalked v (HasCounted pairs way) w
counts_first {k} {v} {w} {pairs} {way} {n} none empty whole t = walked_as (walked_load t)
    (λ a one. subst (HasCounted pairs way) (sym one) (counted_first pairs way n none empty whole))

module _ {v u : View} {pairs : List Pair} {way : Way} (z : HasWalked v (HasCounted pairs way) u) where
  pub counts_at : (next : Way) {r : Next} {p : Passed} → NextIs way r next → r ≡ At p → HasWalked v (HasCounted pairs next) u
  counts_at next {r} {p} given at = walked_as z (λ a is. counted_at pairs way next r p a given at is)

  pub counts_all : HasWalked v (IsOneWalk pairs None) u
  counts_all = walked_as z (λ a is. counted_all pairs way a is)

  module _ {w : View} where
    pub counts_down : {next : Way} → HasWalked u (GoesDown way next) w → HasWalked v (HasCounted pairs next) w
    counts_down {next} x = walked_both z x (counted_down pairs way next)

    module _ {k : Shape} where
      pub counts_lost : (next : Way) {r : Next} {n : ℕ} → NextIs way r next → r ≡ Lost → Told k u (ListLoad 0 (part.Link Right)) n w
          → HasWalked v (HasCounted pairs next) w
      counts_lost next {r} {n} given lost t = walked_more z t (λ a is. counted_lost pairs way next r n a given lost is)

      pub counts_pair : {s value : ℕ} (more : List Pair) (key : ℕ) → more ≡ pairs ++ (key, value) ∷ []
          → Told k u (ListLoad s part.Value) value w → HasWalked v (HasCounted more way) w
      counts_pair {s} {value} more key added t = walked_more z t (λ a is. counted_pair pairs more way s key value a added is)

      pub counts_link : {s n : ℕ} {side : Side} → s ≢ 0 → Told k u (ListLoad s (part.Link side)) n w → HasWalked v (HasCounted pairs way) w
      counts_link {s} {n} {side} ne t = walked_more z t (λ a is. counted_link pairs way s n side a ne is)

      pub counts_full : {s value : ℕ} (next : ℕ) → Told k u (ListLoad s part.Value) value w → HasWalked v (IsOneWalk pairs (Some next)) w
      counts_full {s} {value} next t = walked_more z t (λ a is. counted_full pairs way s next value a is)

-- ---- one way down

lead_more : (link : ℕ) (loads : List StepMade) (s key n : ℕ) (side : Side) → LeadDown link loads s → s ≢ 0
    → LeadDown link (loads ++ load (Key s) key ∷ load (Link s side) n ∷ []) n
lead_more link [] s key n side is ne = subst (λ l. LeadDown l (load (Key s) key ∷ load (Link s side) n ∷ []) n) (sym is)
    (ne, refl, (side, refl), refl)
lead_more link (t ∷ []) s key n side is ne = absurd is
lead_more link (t ∷ u ∷ loads) s key n side is ne = (is.0, is.1, is.2, lead_more u.number loads s key n side is.3 ne)

way_first : (n : ℕ) → IsWayDown n (load (Link 0 Right) n ∷ [])
way_first n = record { first = n; rest = []; all = refl; down = refl }

way_more : (s key n : ℕ) (side : Side) (loads : List StepMade) → s ≢ 0 → IsWayDown s loads
    → IsWayDown n (loads ++ load (Key s) key ∷ load (Link s side) n ∷ [])
way_more s key n side loads ne x =
    let more : List StepMade = load (Key s) key ∷ load (Link s side) n ∷ [] in
    record {
      first = x.first;
      rest = x.rest ++ more;
      all = ap (λ (l : List StepMade). l ++ more) x.all;
      down = lead_more x.first x.rest s key n side x.down ne;
    }

pub walked_down : {k : Shape} {v u x w : View} {s key n : ℕ} {side : Side} → HasWalked v (IsWayDown s) u → s ≢ 0
    → Told k u (ListLoad s part.Key) key x → Told k x (ListLoad s (part.Link side)) n w → HasWalked v (IsWayDown n) w
walked_down {k} {v} {u} {x} {w} {s} {key} {n} {side} z ne first second = walked_both z (walked_two first second)
    (λ a b is two. subst (λ (l : List StepMade). IsWayDown n (a ++ l)) (sym two) (way_more s key n side a ne is))

pub walked_first : {k : Shape} {v w : View} {n : ℕ} → Told k v (ListLoad 0 (part.Link Right)) n w → HasWalked v (IsWayDown n) w
walked_first {k} {v} {w} {n} t = walked_as (walked_load t) (λ a one. subst (IsWayDown n) (sym one) (way_first n))

pub walked_end : {v u : View} {link : ℕ} → HasWalked v (IsWayDown link) u → child_of link ≡ None → HasWalked v (IsWayDown 0) u
walked_end {v} {u} {link} z is = subst (λ n. HasWalked v (IsWayDown n) u) (no_child link is) z

-- the link leads to a slot
pub walked_to : {v u : View} {link s : ℕ} → HasWalked v (IsWayDown link) u → child_of link ≡ Some s → HasWalked v (IsWayDown s) u
walked_to {v} {u} {link} {s} z is = subst (λ n. HasWalked v (IsWayDown n) u) (child_is link s is).1 z

way_value : (s : ℕ) (pair : Found) (loads : List StepMade) → IsWayDown 0 loads
    → IsOneWayDown (Some pair) (loads ++ load (Value s) pair.value ∷ [])
way_value s pair loads x = (loads, s, x, refl)

-- with the pair that was sought
pub walked_found : {k : Shape} {v u w : View} {s : ℕ} (pair : Found) → HasWalked v (IsWayDown 0) u
    → Told k u (ListLoad s part.Value) pair.value w → HasWalked v (IsOneWayDown (Some pair)) w
walked_found {k} {v} {u} {w} {s} pair z t = walked_more z t (λ a is. way_value s pair a is)

-- ---- the loads of a try

apart_entry : (kind : Kind) → is_entry kind ≡ true → is_load kind ≡ false
apart_entry K17 is = absurd (cc)
apart_entry _ is = refl

apart_exit : (kind : Kind) → is_exit kind ≡ true → is_load kind ≡ false
apart_exit K17 is = absurd (cc)
apart_exit _ is = refl

none_of : (which : Kind → Bool) → ((kind : Kind) → which kind ≡ true → is_load kind ≡ false) → (steps : List StepMade)
    → AllByRecursion (λ (t : StepMade). which t.kind ≡ true) steps → loads_of steps ≡ []
none_of which apart [] all = refl
none_of which apart (t ∷ steps) all =
    ap (λ z. cond z (t ∷ loads_of steps) (loads_of steps)) (apart t.kind all.0) ∙ none_of which apart steps all.1

all_of : (steps : List StepMade) → AllByRecursion (λ (t : StepMade). is_load t.kind ≡ true) steps → loads_of steps ≡ steps
all_of [] all = refl
all_of (t ∷ steps) all =
    ap (λ z. cond z (t ∷ loads_of steps) (loads_of steps)) all.0 ∙ ap (λ (l : List StepMade). t ∷ l) (all_of steps all.1)

loads-append : (a b : List StepMade) → loads_of (a ++ b) ≡ loads_of a ++ loads_of b
loads-append a b = filter-append _ a b

made_steps : {which : Kind → Bool} {a b : Trail} (m : Makes which a b) → b.steps ≡ a.steps ++ m.steps
made_steps {which} {a} {b} m = ap (λ (t : Trail). t.steps) m.trail

loads_made : {which : Kind → Bool} {a b : Trail} (m : Makes which a b) → loads_of b.steps ≡ loads_of a.steps ++ loads_of m.steps
loads_made {which} {a} {b} m = ap loads_of (made_steps m) ∙ loads-append a.steps m.steps

-- after steps that are no loads the loads are the same
quiet_made : {which : Kind → Bool} {a b : Trail} → ((kind : Kind) → which kind ≡ true → is_load kind ≡ false) → Makes which a b
    → loads_of b.steps ≡ loads_of a.steps
quiet_made {which} {a} {b} apart m = loads_made m ∙ (λ i. loads_of a.steps ++ none_of which apart m.steps m.each i)
    ∙ append-nil (loads_of a.steps)

pub quiet_look : {k : Shape} {v w : View} {n : ℕ} → Told k v LookAtFront n w → loads_of w.trail.steps ≡ loads_of v.trail.steps
quiet_look {k} {v} {w} {n} t = ap loads_of (told_step t)
    ∙ loads-append v.trail.steps (record { kind = K37; field = Front; number = n } ∷ []) ∙ append-nil (loads_of v.trail.steps)

pub quiet_entry : {v w : View} {key : ℕ} → HasEntered v key w → loads_of w.trail.steps ≡ loads_of v.trail.steps
quiet_entry {v} {w} {key} x = quiet_made apart_entry x.made

pub quiet_exit : {v w : View} → HasLeft v w → loads_of w.trail.steps ≡ loads_of v.trail.steps
quiet_exit {v} {w} x = quiet_made apart_exit x.made

-- The steps from the first view to the last have just the loads in between.
pub walked_within : (v : View) {a b : View} (w : View) {which : Kind → Bool} {walk : List StepMade → Type 0}
    → loads_of a.trail.steps ≡ loads_of v.trail.steps → HasLoaded a b → loads_of w.trail.steps ≡ loads_of b.trail.steps
    → (m : Makes which v.trail w.trail) → HasWalked a walk b → walk (loads_of m.steps)
walked_within v {a} {b} w {which} {walk} before loads after m x =
    let whole : loads_of v.trail.steps ++ loads_of m.steps ≡ loads_of v.trail.steps ++ loads.made.steps =
    sym (loads_made m) ∙ after ∙ loads_made loads.made
    ∙ (λ i. before i ++ all_of loads.made.steps loads.made.each i) in
    let same : loads.made.steps ≡ x.loads =
    append_cancel_left a.trail.steps loads.made.steps x.loads (sym (made_steps loads.made) ∙ x.made) in
    subst walk (sym (append_cancel_left (loads_of v.trail.steps) (loads_of m.steps) loads.made.steps whole ∙ same)) x.is

-- of loads of which no more is to be said
pub any_walk : {v w : View} → HasLoaded v w → HasWalked v (λ loads. Unit {0}) w
any_walk {v} {w} l = record { loads = l.made.steps; made = made_steps l.made; is = tt }

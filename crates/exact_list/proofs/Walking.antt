-- Walks in order: where they come to, what they gather, and that pairs with their gaps cover a range.
-- Pairs that cover a range of keys, by what a listing found.
use Rattle.std.proofs.Common.{◌≡◌, ℕ, zero, suc, ◌+◌, ◌<◌, ◌≤◌, ◌⊎◌, List, [], ◌∷◌, ◌++◌, length, get_or, Option, Some, None, refl, sym, subst, ◌∙◌, ⊎_elim, inl, inr, arith, ◌≢◌, true, false, ◌^◌, Bool}
use mathlib.Core.Logic.{dite}
use native.Mathlib.Decide.{dec_le, ℕ_discrete}
use Rattle.core_state.specs.declared.view.Fact.{Fact}
use Rattle.core_state.specs.declared.view.Gap.{Gap}
use Rattle.core_state.specs.declared.view.Listing.{Listing}
use Rattle.core_state.specs.Parts.{IsBetween, low_bound, high_bound}
use Rattle.list_laws.specs.Counts.{IsIn}
use Rattle.list_laws.proofs.Lists.{at_below, at_end, in_first, in_second}
use Rattle.exact_list.specs.Pairs.{Pair, IsAt, IsBefore, ArePairsTo, fact_of, Cover, CoversAreExact, PairsAreOne}
use Rattle.exact_list.specs.Tries.{HasFoundMore, AreGaps, HasLoaded, KnowsKey, IsListing, low_before, end_before, IsUpTo}
use Rattle.prcu_marks.specs.declared.mark.Side.{Side}
use Rattle.prcu_marks.specs.declared.mark.Side.TheVariants.{Left, Right}
use Rattle.core_state.specs.declared.shape.Shape.{Shape}
use Rattle.core_state.specs.declared.view.View.{View}
use Rattle.core_state.specs.declared.view.Visit.{Visit}
use Rattle.core_state.specs.Memory.{child_of, across}
use Rattle.core_state.specs.Steps.{no_bounds, narrowed}
use Rattle.core_state.specs.declared.act.Act.TheVariants.{ListLoad}
use Rattle.core_state.specs.Acts.{Asks}
use Rattle.seat_table.specs.Gains.{Told}
use Rattle.exact_list.specs.declared.way.Passed.{Passed}
use Rattle.exact_list.specs.declared.way.Way.{Way}
use Rattle.exact_list.specs.Loads.{most_kept, HasPassed, IsKept, AreKept, HasCome, NextIs, IsOpenTo, bound_on, IsInGap, start_of, HasNext, IsNextTo}
use Rattle.key_interval.specs.Keys.{Interval}
use Rattle.exact_list.proofs.Loading.{child_is, no_child, known_more, leads_fits, leads_to_all, may_read, reads_key, may_go, reads_value, leads_past, still_listing, loaded_none, loaded_both, may_begin, may_value, open_first, bound_first, open_away, bound_away, bound_towards}
use Rattle.exact_list.specs.declared.way.Next.{Next}
use Rattle.exact_list.specs.declared.way.Next.TheVariants.{At, Done, Lost}
use Rattle.core_state.specs.declared.act.Part.TheVariants as part

pub covers_exact : CoversAreExact
covers_exact side map facts gaps low below pairs are_facts are_gaps cover = record {
  in_order = cover.in_order;
  inside = cover.inside;
  there = λ i p at. (let f = cover.found i p at in are_facts f.0 (fact_of p) f.1);
  all = λ key value from to is. ⊎_elim
      (λ (x : (v : ℕ) × IsIn pairs (key, v)).
      let f = cover.found x.1.0 (key, x.0) x.1.1 in
      let one : Some x.0 ≡ Some value = sym (are_facts f.0 (fact_of (key, x.0)) f.1) ∙ is in
      let same : x.0 ≡ value = cc in
      subst (λ z. IsIn pairs (key, z)) same x.1)
      (λ (x : (gap : Gap) × IsIn gaps gap × IsBetween gap key). absurd
      (let none : None ≡ Some value = sym (are_gaps x.1.0 x.0 x.1.1 key x.2) ∙ is in cc))
      (cover.all key from to);
}

-- the keys of a range past another one
abbrev low_past : Side → ℕ → ℕ → ℕ
low_past Left low key = low
low_past Right low key = key + 1

abbrev below_past : Side → ℕ → ℕ → ℕ
below_past Left below key = key
below_past Right below key = below

are_past : (side : Side) (low below key y : ℕ) → low ≤ y → y < below → IsBefore side key y → (low_past side low key ≤ y) × (y < below_past side below key)
are_past Left low below key y from to past = (from, past)
are_past Right low below key y from to past = (omega (arith, past), to)

past_are : (side : Side) (low below key y : ℕ) → low ≤ key → key < below → low_past side low key ≤ y → y < below_past side below key
    → (low ≤ y) × (y < below) × IsBefore side key y
past_are Left low below key y from to least less = (least, omega (arith, to, less), less)
past_are Right low below key y from to least less = (omega (arith, from, least), less, omega (arith, least))

-- no key comes before itself, nor two each before the other
not_itself : (side : Side) (key y : ℕ) → key ≡ y → IsBefore side key y → ⊥
not_itself Left key y same before = absurd (omega (arith, same, before))
not_itself Right key y same before = absurd (omega (arith, same, before))

not_both : (side : Side) (a b : ℕ) → IsBefore side a b → IsBefore side b a → ⊥
not_both Left a b one other = absurd (omega (arith, one, other))
not_both Right a b one other = absurd (omega (arith, one, other))

-- the pairs after the first one
rest_of : (side : Side) (map : ℕ → Option ℕ) (low below : ℕ) (p : Pair) (ps : List Pair) → ArePairsTo side map low below (p ∷ ps)
    → ArePairsTo side map (low_past side low p.0) (below_past side below p.0) ps
rest_of side map low below p ps are = record {
  in_order = λ i j a b at_a at_b less. are.in_order (suc i) (suc j) a b at_a at_b (omega arith);
  inside = λ i a at. (let past = are.in_order 0 (suc i) p a refl at (omega arith) in let inside = are.inside (suc i) a at in
      are_past side low below p.0 a.0 inside.0 inside.1 past);
  there = λ i a at. are.there (suc i) a at;
  all = λ key value from to is. (let first = are.inside 0 p refl in
      let past = past_are side low below p.0 key first.0 first.1 from to in
      behind key value past.2 (are.all key value past.0 past.1 is));
}
  where
    behind : (key value : ℕ) → IsBefore side p.0 key → IsIn (p ∷ ps) (key, value) → IsIn ps (key, value)
    behind key value past (zero, at) = absurd (let e : p ≡ (key, value) = cc in not_itself side p.0 key (λ i. (e i).0) past)
    behind key value past (suc i, at) = (i, at)

-- the first pairs of two such lists are one
first_one : (side : Side) (map : ℕ → Option ℕ) (low below : ℕ) (p q : Pair) (ps qs : List Pair) → ArePairsTo side map low below (p ∷ ps)
    → ArePairsTo side map low below (q ∷ qs) → p ≡ q
first_one side map low below p q ps qs a b =
    let inside_p = a.inside 0 p refl in
    let inside_q = b.inside 0 q refl in
    meets (b.all p.0 p.1 inside_p.0 inside_p.1 (a.there 0 p refl)) (a.all q.0 q.1 inside_q.0 inside_q.1 (b.there 0 q refl))
  where
    meets : IsIn (q ∷ qs) p → IsIn (p ∷ ps) q → p ≡ q
    meets (zero, at) second = (let e : q ≡ p = cc in sym e)
    meets (suc i, at) (zero, at') = (let e : p ≡ q = cc in e)
    meets (suc i, at) (suc j, at') = absurd (not_both side q.0 p.0 (b.in_order 0 (suc i) q p refl at (omega arith))
        (a.in_order 0 (suc j) p q refl at' (omega arith)))

pub pairs_one : PairsAreOne
pairs_one side map low below [] [] a b = refl
pairs_one side map low below [] (q ∷ qs) a b = absurd
    (let inside = b.inside 0 q refl in let has = a.all q.0 q.1 inside.0 inside.1 (b.there 0 q refl) in
    let less = at_below [] has.0 q has.1 in omega arith)
pairs_one side map low below (p ∷ ps) [] a b = absurd
    (let inside = a.inside 0 p refl in let has = b.all p.0 p.1 inside.0 inside.1 (a.there 0 p refl) in
    let less = at_below [] has.0 p has.1 in omega arith)
pairs_one side map low below (p ∷ ps) (q ∷ qs) a b =
    let first = first_one side map low below p q ps qs a b in
    let others = subst (λ z. ArePairsTo side map (low_past side low z.0) (below_past side below z.0) qs) (sym first)
    (rest_of side map low below q qs b) in
    let rest = pairs_one side map (low_past side low p.0) (below_past side below p.0) ps qs (rest_of side map low below p ps a) others in
    (λ i. first i ∷ rest i)

none_at : (i : ℕ) (p : Pair) → IsAt [] i p → ⊥
none_at i p at = (let less = at_below [] i p at in absurd (omega arith))

-- What was gathered by a listing, of the keys past which a walk to a side has come.
abbrev pub Covers : Side → Listing → Interval → ℕ → List Pair → Type 0
Covers side l keys next pairs = Cover side l.facts l.gaps (low_before side keys next) (end_before side keys next) pairs

-- no key is there yet
cover_none : (side : Side) (facts : List Fact) (gaps : List Gap) (low below : ℕ) → low ≡ below → Cover side facts gaps low below []
cover_none side facts gaps low below none = record {
  in_order = λ i j a b at_a at_b less. absurd (none_at i a at_a);
  inside = λ i p at. absurd (none_at i p at);
  found = λ i p at. absurd (none_at i p at);
  all = λ key from to. absurd (omega (arith, none, from, to));
}

pub covers_none : (side : Side) (l : Listing) (keys : Interval) (from : ℕ) → from ≡ start_of side keys → Covers side l keys from []
covers_none Left l keys from start = cover_none Left l.facts l.gaps (from + 1) (keys.high + 1) (omega (arith, start))
covers_none Right l keys from start = cover_none Right l.facts l.gaps keys.low from (sym start)

-- more was found
pub cover_more : (side : Side) (a b : Listing) (low below : ℕ) (pairs : List Pair) → HasFoundMore a b
    → Cover side a.facts a.gaps low below pairs → Cover side b.facts b.gaps low below pairs
cover_more side a b low below pairs more c = record {
  in_order = c.in_order;
  inside = c.inside;
  found = λ i p at. more.facts (fact_of p) (c.found i p at);
  all = λ key from to. ⊎_elim
      (λ (x : (value : ℕ) × IsIn pairs (key, value)). inl x)
      (λ (x : (gap : Gap) × IsIn a.gaps gap × IsBetween gap key). inr (x.0, more.gaps x.0 x.1, x.2))
      (c.all key from to);
}

-- gaps down to another key, and up to another one
cover_gaps : (side : Side) (facts : List Fact) (gaps : List Gap) (low below least most : ℕ) (pairs : List Pair)
    → Cover side facts gaps low below pairs → least ≤ low → below ≤ most → AreGaps gaps least low → AreGaps gaps below most
    → Cover side facts gaps least most pairs
cover_gaps side facts gaps low below least most pairs c less more under above = record {
  in_order = c.in_order;
  inside = λ i p at. (let inside = c.inside i p at in (omega (arith, inside.0, less), omega (arith, inside.1, more)));
  found = c.found;
  all = λ key from to. dite (dec_le low key)
      (λ in_low. dite (dec_le below key) (λ past. inr (above key past to)) (λ inside. c.all key in_low (omega (arith, inside))))
      (λ out. inr (under key from (omega (arith, out))));
}

no_gaps : (gaps : List Gap) (n : ℕ) → AreGaps gaps n n
no_gaps gaps n = λ y from to. absurd (omega (arith, from, to))

-- a key isn't before another one
abbrev pub IsAhead : Side → ℕ → ℕ → Type 0
IsAhead Left from key = key ≤ from
IsAhead Right from key = from ≤ key

-- the keys from one on, for who goes to the side, and before another lie in gaps that were found
abbrev pub AreGapsTo : Side → List Gap → ℕ → ℕ → Type 0
AreGapsTo side gaps from end = (y : ℕ) → IsAhead side from y → IsBefore side y end → IsInGap gaps y

pub covers_gaps : (side : Side) (l : Listing) (keys : Interval) (from next : ℕ) (pairs : List Pair) → Covers side l keys from pairs
    → IsAhead side from next → AreGapsTo side l.gaps from next → Covers side l keys next pairs
covers_gaps Left l keys from next pairs c ahead empty =
    cover_gaps Left l.facts l.gaps (from + 1) (keys.high + 1) (next + 1) (keys.high + 1) pairs c (omega (arith, ahead)) (omega arith)
    (λ y least less. empty y (omega (arith, less)) (omega (arith, least))) (no_gaps l.gaps (keys.high + 1))
covers_gaps Right l keys from next pairs c ahead empty =
    cover_gaps Right l.facts l.gaps keys.low from keys.low next pairs c (omega arith) ahead (no_gaps l.gaps keys.low)
    (λ y least less. empty y least less)

-- all the rest of the range lies in gaps
pub covers_all : (side : Side) (l : Listing) (keys : Interval) (from : ℕ) (pairs : List Pair) → Covers side l keys from pairs
    → IsAhead side (start_of side keys) from → IsUpTo side keys from
    → ((y : ℕ) → keys.low ≤ y → y ≤ keys.high → IsAhead side from y → IsInGap l.gaps y)
    → Cover side l.facts l.gaps keys.low (keys.high + 1) pairs
covers_all Left l keys from pairs c begun up_to empty =
    cover_gaps Left l.facts l.gaps (from + 1) (keys.high + 1) keys.low (keys.high + 1) pairs c (omega (arith, up_to)) (omega arith)
    (λ y least less. empty y least (omega (arith, less, begun)) (omega (arith, less))) (no_gaps l.gaps (keys.high + 1))
covers_all Right l keys from pairs c begun up_to empty =
    cover_gaps Right l.facts l.gaps keys.low from keys.low (keys.high + 1) pairs c (omega arith) (omega (arith, up_to)) (no_gaps l.gaps keys.low)
    (λ y ahead less. empty y (omega (arith, ahead, begun)) (omega (arith, less)) ahead)

-- and one pair more
module _ (side : Side) (facts : List Fact) (gaps : List Gap) (key value : ℕ) (pairs : List Pair) (has : IsIn facts (fact_of (key, value))) where
  cover_pair : (low below least most : ℕ) → Cover side facts gaps low below pairs → (least ≤ low) × (below ≤ most)
      → (least ≤ key) × (key < most) → ((y : ℕ) → low ≤ y → y < below → IsBefore side y key)
      → ((y : ℕ) → least ≤ y → y < most → (key ≢ y) → (low ≤ y) × (y < below))
      → Cover side facts gaps least most (pairs ++ (key, value) ∷ [])
  cover_pair low below least most c wider inside before rest = record {
    in_order = λ i j a b at_a at_b less. orders i j a b less (at_end pairs (key, value) a i at_a) (at_end pairs (key, value) b j at_b);
    inside = λ i p at. ⊎_elim
        (λ (old : IsAt pairs i p). (let in_old = c.inside i p old in (omega (arith, in_old.0, wider.0), omega (arith, in_old.1, wider.1))))
        (λ (new : (i ≡ length pairs) × ((key, value) ≡ p)). subst (λ (z : Pair). (least ≤ z.0) × (z.0 < most)) new.1 inside)
        (at_end pairs (key, value) p i at);
    found = λ i p at. ⊎_elim
        (λ (old : IsAt pairs i p). c.found i p old)
        (λ (new : (i ≡ length pairs) × ((key, value) ≡ p)). subst (λ (z : Pair). IsIn facts (fact_of z)) new.1 has)
        (at_end pairs (key, value) p i at);
    all = λ y from to. dite (ℕ_discrete key y)
        (λ (same : key ≡ y). inl (
          value,
          subst (λ z. IsIn (pairs ++ (key, value) ∷ []) (z, value)) same
              (in_second pairs ((key, value) ∷ []) (key, value) (0, refl)),
        ))
        (λ (other : key ≢ y). let old = rest y from to other in
        ⊎_elim (λ (x : (v : ℕ) × IsIn pairs (y, v)). inl (x.0, in_first pairs ((key, value) ∷ []) (y, x.0) x.1))
        (λ (x : (gap : Gap) × IsIn gaps gap × IsBetween gap y). inr x) (c.all y old.0 old.1));
  }
    where
      orders : (i j : ℕ) (a b : Pair) → i < j → IsAt pairs i a ⊎ ((i ≡ length pairs) × ((key, value) ≡ a))
          → IsAt pairs j b ⊎ ((j ≡ length pairs) × ((key, value) ≡ b)) → IsBefore side a.0 b.0
      orders i j a b less (inl at_a) (inl at_b) = c.in_order i j a b at_a at_b less
      orders i j a b less (inl at_a) (inr new) =
          let old = c.inside i a at_a in
          subst (λ (z : Pair). IsBefore side a.0 z.0) new.1 (before a.0 old.0 old.1)
      orders i j a b less (inr new) (inl at_b) = absurd (let below = at_below pairs j b at_b in let e = new.0 in omega arith)
      orders i j a b less (inr new) (inr other) = absurd (let e = new.0 in let f = other.0 in omega arith)

-- what was gathered of the keys past which a walk to a side has come, and of one more
abbrev pub CoversWith : Side → Listing → Interval → ℕ → List Pair → Type 0
CoversWith Left l keys key pairs = Cover Left l.facts l.gaps key (keys.high + 1) pairs
CoversWith Right l keys key pairs = Cover Right l.facts l.gaps keys.low (key + 1) pairs

pub covers_pair : (side : Side) (l : Listing) (keys : Interval) (key value : ℕ) (pairs : List Pair) → Covers side l keys key pairs
    → IsAhead side (start_of side keys) key → IsIn l.facts (fact_of (key, value)) → CoversWith side l keys key (pairs ++ (key, value) ∷ [])
covers_pair Left l keys key value pairs c begun has =
    cover_pair Left l.facts l.gaps key value pairs has (key + 1) (keys.high + 1) key (keys.high + 1) c (omega arith, omega arith)
    (omega arith, omega (arith, begun)) (λ y least less. omega (arith, least))
    (λ y least less other. (omega (arith, least, other), less))
covers_pair Right l keys key value pairs c begun has =
    cover_pair Right l.facts l.gaps key value pairs has keys.low key keys.low (key + 1) c (omega arith, omega arith)
    (begun, omega arith) (λ y least less. less) (λ y least less other. (least, omega (arith, less, other)))

-- the same of a side that is that one
pub covers_as : {b side : Side} (l : Listing) (keys : Interval) (next : ℕ) (pairs : List Pair) → b ≡ side → Covers b l keys next pairs
    → Covers side l keys next pairs
covers_as {b} {side} l keys next pairs same covers = subst (λ s. Covers s l keys next pairs) same covers

pub up_to_as : {b side : Side} (keys : Interval) (next : ℕ) → b ≡ side → IsUpTo b keys next → IsUpTo side keys next
up_to_as {b} {side} keys next same up_to = subst (λ s. IsUpTo s keys next) same up_to

-- that is of the whole range where the key is its end
pub covers_end : (side : Side) (l : Listing) (keys : Interval) (key : ℕ) (pairs : List Pair) → CoversWith side l keys key pairs
    → key ≡ start_of (across side) keys → Cover side l.facts l.gaps keys.low (keys.high + 1) pairs
covers_end Left l keys key pairs c end = subst (λ n. Cover Left l.facts l.gaps n (keys.high + 1) pairs) end c
covers_end Right l keys key pairs c end = subst (λ n. Cover Right l.facts l.gaps keys.low (n + 1) pairs) end c

-- and else the walk goes on for the keys past it
pub covers_next : (side : Side) (l : Listing) (keys : Interval) (key next : ℕ) (pairs : List Pair) → CoversWith side l keys key pairs
    → IsNextTo side key next → Covers side l keys next pairs
covers_next Left l keys key next pairs c is = subst (λ n. Cover Left l.facts l.gaps n (keys.high + 1) pairs) (sym is) c
covers_next Right l keys key next pairs c is = subst (λ n. Cover Right l.facts l.gaps keys.low n pairs) (sym is) c

-- Keys on the way of a walk, and the ends of its range.

-- what a test denies isn't so
pub denied : {b : Bool} {X : Type 0} → (X → b ≡ true) → b ≡ false → X → ⊥
denied {b} {X} shows is x = absurd (let e : true ≡ false = sym (shows x) ∙ is in cc)

pub ahead_of : (side : Side) (from key : ℕ) → (IsBefore side key from → ⊥) → IsAhead side from key
ahead_of Left from key not = dite (dec_le key from) (λ ahead. ahead) (λ past. absurd (not (omega (arith, past))))
ahead_of Right from key not = dite (dec_le from key) (λ ahead. ahead) (λ past. absurd (not (omega (arith, past))))

pub ahead_too : (side : Side) (a b c : ℕ) → IsAhead side a b → IsAhead side b c → IsAhead side a c
ahead_too Left a b c one other = omega (arith, one, other)
ahead_too Right a b c one other = omega (arith, one, other)

pub ahead_itself : (side : Side) (key : ℕ) → IsAhead side key key
ahead_itself Left key = omega arith
ahead_itself Right key = omega arith

pub ahead_next : (side : Side) (start key next : ℕ) → IsAhead side start key → IsNextTo side key next → IsAhead side start next
ahead_next Left start key next ahead is = omega (arith, ahead, is)
ahead_next Right start key next ahead is = omega (arith, ahead, is)

pub starts_within : (side : Side) (keys : Interval) (from : ℕ) → keys.low ≤ keys.high → from ≡ start_of side keys → IsUpTo side keys from
starts_within Left keys from ordered start = omega (arith, ordered, start)
starts_within Right keys from ordered start = omega (arith, ordered, start)

-- keys of the range fit
pub high_fits : (side : Side) (keys : Interval) {start end : ℕ} → start ≡ start_of side keys → end ≡ start_of (across side) keys
    → start < 2 ^ 64 → end < 2 ^ 64 → keys.high < 2 ^ 64
high_fits Left keys {start} {end} is other fits more = subst (λ n. n < 2 ^ 64) is fits
high_fits Right keys {start} {end} is other fits more = subst (λ n. n < 2 ^ 64) other more

from_fits : (side : Side) (keys : Interval) (from : ℕ) → IsAhead side (start_of side keys) from → IsUpTo side keys from → keys.high < 2 ^ 64
    → from < 2 ^ 64
from_fits Left keys from begun up_to fits = omega (arith, begun, fits)
from_fits Right keys from begun up_to fits = omega (arith, up_to, fits)

-- where the key isn't past the end of the range
module _ (side : Side) (keys : Interval) (key : ℕ) {end : ℕ} (is_end : end ≡ start_of (across side) keys) where
  pub within : (IsBefore side end key → ⊥) → IsUpTo side keys key
  within not = cases side (subst (λ e. IsBefore side e key → ⊥) is_end not)
    where
      cases : (b : Side) → (IsBefore b (start_of (across b) keys) key → ⊥) → IsUpTo b keys key
      cases Left past = dite (dec_le keys.low key) (λ up_to. up_to) (λ out. absurd (past (omega (arith, out))))
      cases Right past = dite (dec_le key keys.high) (λ up_to. up_to) (λ out. absurd (past (omega (arith, out))))

  -- and isn't the end
  module _ (other : key ≢ end) where
    pub next_within : (next : ℕ) → IsUpTo side keys key → IsNextTo side key next → IsUpTo side keys next
    next_within next = cases side (subst (λ e. key ≢ e) is_end other)
      where
        cases : (b : Side) → key ≢ start_of (across b) keys → IsUpTo b keys key → IsNextTo b key next → IsUpTo b keys next
        cases Left not up_to is = omega (arith, up_to, not, is)
        cases Right not up_to is = omega (arith, up_to, not, is)

    pub has_next : keys.high < 2 ^ 64 → IsUpTo side keys key → HasNext side key
    has_next = cases side (subst (λ e. key ≢ e) is_end other)
      where
        cases : (b : Side) → key ≢ start_of (across b) keys → keys.high < 2 ^ 64 → IsUpTo b keys key → HasNext b key
        cases Left not fits up_to = omega (arith, up_to, not)
        cases Right not fits up_to = omega (arith, fits, up_to, not)

-- where a key lies past the end, all of the range is before it
all_before : (side : Side) (keys : Interval) (key y : ℕ) → IsBefore side (start_of (across side) keys) key → keys.low ≤ y → y ≤ keys.high
    → IsBefore side y key
all_before Left keys key y past least most = omega (arith, past, least)
all_before Right keys key y past least most = omega (arith, past, most)

-- keys ahead lie between bounds
ahead_between : (side : Side) (from y end : ℕ) (bounds : Gap) → IsOpenTo side from bounds → bound_on side bounds ≡ Some end
    → IsAhead side from y → IsBefore side y end → IsBetween bounds y
ahead_between Left from y end bounds near is ahead before =
    (subst (λ o. low_bound o ≤ y) (sym is) (omega (arith, before)), omega (arith, ahead, near))
ahead_between Right from y end bounds near is ahead before =
    (omega (arith, near, ahead), subst (λ o. y < high_bound o) (sym is) before)

ahead_between_all : (side : Side) (from y : ℕ) (bounds : Gap) → IsOpenTo side from bounds → bound_on side bounds ≡ None → y < 2 ^ 64
    → IsAhead side from y → IsBetween bounds y
ahead_between_all Left from y bounds near none fits ahead =
    (subst (λ o. low_bound o ≤ y) (sym none) (omega arith), omega (arith, ahead, near))
ahead_between_all Right from y bounds near none fits ahead =
    (omega (arith, near, ahead), subst (λ o. y < high_bound o) (sym none) (omega (arith, fits)))

-- past a key before another the bounds are open to that one
pub open_past : (side : Side) (from key : ℕ) (bounds : Gap) → IsBefore side key from → IsOpenTo side from (narrowed bounds key side)
open_past Left from key bounds before = before
open_past Right from key bounds before = omega (arith, before)

pub next_past : (side : Side) (key next : ℕ) → IsNextTo side key next → IsBefore side key next
next_past Left key next is = omega (arith, is)
next_past Right key next is = omega (arith, is)

-- what stands at an index
pub at_index : (pairs : List Pair) (i : ℕ) (d : Pair) → i < length pairs → IsAt pairs i (get_or pairs i d)
at_index [] i d less = absurd (omega arith)
at_index (p ∷ ps) zero d less = refl
at_index (p ∷ ps) (suc i) d less = at_index ps i d (omega arith)

-- A walk in order, load by load.

module _ (k : Shape) (side : Side) where
  -- the slots of a way, once more was found
  pub kept_more : (a b : List Visit) (first bound : Option ℕ) (ps : List Passed) → ((t : Visit) → IsIn a t → IsIn b t)
      → AreKept k side a first ps bound → AreKept k side b first ps bound
  kept_more a b first bound [] more are = are
  kept_more a b first bound (p ∷ ps) more are = (
    record { bounds = are.0.bounds; ends = are.0.ends; known = known_more k a b p.slot p.key are.0.bounds more are.0.known },
    kept_more a b (Some p.key) bound ps more are.1,
  )

  -- one slot more
  kept_passed : (visits : List Visit) (first bound : Option ℕ) (ps : List Passed) (p : Passed) → AreKept k side visits first ps bound
      → IsKept k side visits bound p → AreKept k side visits first (ps ++ p ∷ []) (Some p.key)
  kept_passed visits first bound [] p are is = (subst (λ o. IsKept k side visits o p) are is, refl)
  kept_passed visits first bound (q ∷ qs) p are is = (are.0, kept_passed visits (Some q.key) bound qs p are.1 is)

  -- and the last one
  record IsLast (visits : List Visit) (first bound : Option ℕ) (ps : List Passed) (p : Passed) : Type 0 where
    before : Option ℕ
    is : IsKept k side visits before p
    rest : AreKept k side visits first ps before
    bound_is : bound ≡ Some p.key

  kept_last : (visits : List Visit) (first bound : Option ℕ) (ps : List Passed) (p : Passed) → AreKept k side visits first (ps ++ p ∷ []) bound
      → IsLast visits first bound ps p
  kept_last visits first bound [] p are = record { before = first; is = are.0; rest = refl; bound_is = are.1 }
  kept_last visits first bound (q ∷ qs) p are = let r = kept_last visits (Some q.key) bound qs p are.1 in
      record { before = r.before; is = r.is; rest = (are.0, r.rest); bound_is = r.bound_is }

-- A walk at a slot whose key it knows.
pub record IsAtKey (k : Shape) (side : Side) (l : Listing) (s key : ℕ) (way : Way) : Type 0 where
  pub bounds : Gap
  pub first : Option ℕ
  pub whole : way.cut ≡ false → first ≡ None
  pub kept : AreKept k side l.visits first way.passed.items (bound_on side bounds)
  pub known : KnowsKey k l.visits s key bounds

-- what a walk met last on its way is where it goes on
pub at_last : (k : Shape) (side : Side) (l : Listing) (from : ℕ) (way new : Way) (p : Passed) → HasCome k side l from 0 way
    → way.passed.items ≡ new.passed.items ++ p ∷ [] → new.cut ≡ way.cut
    → IsAtKey k side l p.slot p.key new × ((gap : Gap) × IsIn l.gaps gap × IsOpenTo side from gap × (bound_on side gap ≡ Some p.key))
at_last k side l from way new p come items cut =
    let r = kept_last k side l.visits come.first (bound_on side come.bounds) new.passed.items p
    (subst (λ ps. AreKept k side l.visits come.first ps (bound_on side come.bounds)) items come.kept) in (
      record {
        bounds = r.is.bounds;
        first = come.first;
        whole = λ e. come.whole (sym cut ∙ e);
        kept = subst (λ o. AreKept k side l.visits come.first new.passed.items o) (sym r.is.ends) r.rest;
        known = r.is.known;
      },
      (come.bounds, come.leads.ended refl, come.near, r.bound_is),
    )

module _ (k : Shape) (side : Side) (v : View) where
  -- the walk begins at the root
  pub begins : (from : ℕ) (way : Way) (u w : View) (n : ℕ) (l : HasLoaded v u) → from < 2 ^ 64 → way.passed.items ≡ []
      → Told k u (ListLoad 0 (part.Link Right)) n w → (m : HasLoaded v w) × HasFoundMore l.after m.after × HasCome k side m.after from n way
  begins from way u w n l fits none t =
      let r = leads_to_all k v u w n l t in (
        r.0,
        r.1,
        record {
          bounds = no_bounds;
          near = open_first side from fits;
          first = None;
          whole = λ e. refl;
          kept = subst (λ ps. AreKept k side r.0.after.visits None ps (bound_on side no_bounds)) (sym none) (bound_first side);
          leads = r.2;
        },
      )

  module _ (u : View) (l : HasLoaded v u) (s : ℕ) where
    -- where the link leads to a slot, its key is loaded
    pub reads : (from : ℕ) (way : Way) (come : HasCome k side l.after from s way) → s ≢ 0 → (w : View) (n : ℕ)
        → Told k u (ListLoad s part.Key) n w
        → (m : HasLoaded v w) × HasFoundMore l.after m.after × ((at : IsAtKey k side m.after s n way) × IsOpenTo side from at.bounds)
    reads from way come ne w n t =
        let r = reads_key k v u l s come.bounds come.leads ne w n t in (
          r.0,
          r.1,
          (
            record {
              bounds = come.bounds;
              first = come.first;
              whole = come.whole;
              kept =
                  kept_more k side l.after.visits r.0.after.visits come.first (bound_on side come.bounds) way.passed.items r.1.visits come.kept;
              known = r.2;
            },
            come.near,
          ),
        )

    module _ (key : ℕ) (way : Way) (at : IsAtKey k side l.after s key way) where
      -- its value is loaded: a pair was found
      pub values : (w : View) (n : ℕ) → Told k u (ListLoad s part.Value) n w
          → (m : HasLoaded v w) × HasFoundMore l.after m.after × IsAtKey k side m.after s key way × IsIn m.after.facts (fact_of (key, n))
      values w n t =
          let r = reads_value k v u l s key at.bounds at.known w n t in (
            r.0,
            r.1,
            record {
              bounds = at.bounds;
              first = at.first;
              whole = at.whole;
              kept = kept_more k side l.after.visits r.0.after.visits at.first (bound_on side at.bounds) way.passed.items r.1.visits at.kept;
              known = known_more k l.after.visits r.0.after.visits s key at.bounds r.1.visits at.known;
            },
            r.2,
          )

      -- a link is loaded, past which the bounds are narrower
      goes : (b : Side) (from : ℕ) (next : Way) (first : Option ℕ) (w : View) (n : ℕ) → IsOpenTo side from (narrowed at.bounds key b)
          → (next.cut ≡ false → first ≡ None)
          → AreKept k side l.after.visits first next.passed.items (bound_on side (narrowed at.bounds key b))
          → Told k u (ListLoad s (part.Link b)) n w
          → (m : HasLoaded v w) × HasFoundMore l.after m.after × HasCome k side m.after from n next
      goes b from next first w n near whole kept t =
          let r = leads_past k v u l s key at.bounds at.known b w n t in
          let past : Gap = narrowed at.bounds key b in (
            r.0,
            r.1,
            record {
              bounds = past;
              near = near;
              first = first;
              whole = whole;
              kept = kept_more k side l.after.visits r.0.after.visits first (bound_on side past) next.passed.items r.1.visits kept;
              leads = r.2;
            },
          )

      -- to the side, past a key that comes before
      pub goes_on : (from : ℕ) (w : View) (n : ℕ) → IsBefore side key from → Told k u (ListLoad s (part.Link side)) n w
          → (m : HasLoaded v w) × HasFoundMore l.after m.after × HasCome k side m.after from n way
      goes_on from w n before t = goes side from way at.first w n (open_past side from key at.bounds before) at.whole
          (subst (λ o. AreKept k side l.after.visits at.first way.passed.items o) (sym (bound_towards side key at.bounds)) at.kept) t

      -- away from it, past another
      pub goes_back : (from : ℕ) (next : Way) (w : View) (n : ℕ) → IsOpenTo side from at.bounds
          → HasPassed way (record { slot = s; key = key }) next → Told k u (ListLoad s (part.Link (across side))) n w
          → (m : HasLoaded v w) × HasFoundMore l.after m.after × HasCome k side m.after from n next
      goes_back from next w n near passed t = ⊎_elim
          (λ (x : (next.passed.items ≡ way.passed.items ++ p ∷ []) × (next.cut ≡ way.cut)).
          goes (across side) from next at.first w n away (λ e. at.whole (sym x.1 ∙ e))
          (subst (λ ps. AreKept k side l.after.visits at.first ps (bound_on side past)) (sym x.0)
          (subst (λ o. AreKept k side l.after.visits at.first (way.passed.items ++ p ∷ []) o) (sym bound)
          (kept_passed k side l.after.visits at.first (bound_on side at.bounds) way.passed.items p at.kept is))) t)
          (λ (x : (length way.passed.items ≡ most_kept) × (next.passed.items ≡ p ∷ []) × (next.cut ≡ true)).
          goes (across side) from next (bound_on side at.bounds) w n away (λ e. absurd (let q : true ≡ false = sym x.2 ∙ e in cc))
          (subst (λ ps. AreKept k side l.after.visits (bound_on side at.bounds) ps (bound_on side past)) (sym x.1) (is, bound)) t)
          passed
        where
          p : Passed
          p = record { slot = s; key = key }

          past : Gap
          past = narrowed at.bounds key (across side)

          away : IsOpenTo side from past
          away = open_away side from key at.bounds near

          bound : bound_on side past ≡ Some key
          bound = bound_away side key at.bounds

          is : IsKept k side l.after.visits (bound_on side at.bounds) p
          is = record { bounds = at.bounds; ends = refl; known = at.known }

-- what was loaded since a view, and where the walk has come to
abbrev pub HasFollowed : Shape → Side → View → View → ℕ → ℕ → Way → Type 0
HasFollowed k side v u from link way = (l : HasLoaded v u) × HasCome k side l.after from link way

-- the same of a side that is that one
pub come_as : {k : Shape} {b side : Side} {l : Listing} {from link : ℕ} {way : Way} → b ≡ side → HasCome k b l from link way
    → HasCome k side l from link way
come_as {k} {b} {side} {l} {from} {link} {way} same come = subst (λ s. HasCome k s l from link way) same come

pub followed_as : {k : Shape} {b side : Side} {v u : View} {from link : ℕ} {way : Way} → b ≡ side → HasFollowed k b v u from link way
    → HasFollowed k side v u from link way
followed_as {k} {b} {side} {v} {u} {from} {link} {way} same followed = (followed.0, come_as same followed.1)

-- the latest link leads to a slot
pub record Comes (k : Shape) (side : Side) (v u : View) (from s : ℕ) (way : Way) : Type 0 where
  pub followed : HasFollowed k side v u from s way
  pub some_slot : s ≢ 0

pub comes_to : {k : Shape} {side : Side} {v u : View} {from link s : ℕ} {way : Way} → HasFollowed k side v u from link way
    → child_of link ≡ Some s → Comes k side v u from s way
comes_to {k} {side} {v} {u} {from} {link} {s} {way} followed is =
    let c = child_is link s is in
    subst (λ z. Comes k side v u from z way) c.1 (record { followed = followed; some_slot = c.0 })

pub comes_none : {k : Shape} {side : Side} {v u : View} {from link : ℕ} {way : Way} → HasFollowed k side v u from link way
    → child_of link ≡ None → HasFollowed k side v u from 0 way
comes_none {k} {side} {v} {u} {from} {link} {way} followed is =
    subst (λ z. HasFollowed k side v u from z way) (no_child link is) followed

-- a link fits the number of a slot
pub link_fits : {k : Shape} {side : Side} {v u : View} {from link : ℕ} {way : Way} → HasFollowed k side v u from link way → link < 4294967296
link_fits {k} {side} {v} {u} {from} {link} {way} followed = leads_fits followed.1.leads

module _ {k : Shape} {side : Side} {v u : View} {from s : ℕ} {way : Way} (z : Comes k side v u from s way) where
  pub may_read_next : Asks k u (ListLoad s part.Key)
  may_read_next = may_read k v u z.followed.0 s z.followed.1.bounds z.followed.1.leads z.some_slot

  module _ {w : View} {key : ℕ} (t : Told k u (ListLoad s part.Key) key w) where
    at_key : (m : HasLoaded v w) × HasFoundMore z.followed.0.after m.after
        × ((at : IsAtKey k side m.after s key way) × IsOpenTo side from at.bounds)
    at_key = reads k side v u z.followed.0 s from way z.followed.1 z.some_slot w key t

    pub may_go_next : (b : Side) → Asks k w (ListLoad s (part.Link b))
    may_go_next b = may_go k v w at_key.0 s key at_key.2.0.bounds at_key.2.0.known b

    pub comes_on : {x : View} {n : ℕ} → IsBefore side key from → Told k w (ListLoad s (part.Link side)) n x
        → HasFollowed k side v x from n way
    comes_on {x} {n} before on = let r = goes_on k side v w at_key.0 s key way at_key.2.0 from x n before on in (r.0, r.2)

    pub comes_back : {x : View} {n : ℕ} {next : Way} {b : Side} → b ≡ across side → HasPassed way (record { slot = s; key = key }) next
        → Told k w (ListLoad s (part.Link b)) n x → HasFollowed k side v x from n next
    comes_back {x} {n} {next} {b} is passed back =
        let r = goes_back k side v w at_key.0 s key way at_key.2.0 from next x n at_key.2.1 passed
        (subst (λ (c : Side). Told k w (ListLoad s (part.Link c)) n x) is back) in
        (r.0, r.2)

-- Pairs are gathered along a walk.

-- What was gathered, where the range is at its end: all of its pairs.
abbrev pub Gathered : Side → View → View → Interval → List Pair → Type 0
Gathered side v u keys pairs = (l : HasLoaded v u) × Cover side l.after.facts l.after.gaps keys.low (keys.high + 1) pairs

pub gathered_as : {b side : Side} {v u : View} (keys : Interval) {pairs : List Pair} → b ≡ side → Gathered b v u keys pairs
    → Gathered side v u keys pairs
gathered_as {b} {side} {v} {u} keys {pairs} same gathered = subst (λ (s : Side). Gathered s v u keys pairs) same gathered

-- What was gathered so far, and where the walk has come to, for the keys from one on.
pub record Walks (k : Shape) (side : Side) (v u : View) (keys : Interval) (from link : ℕ) (pairs : List Pair) (way : Way) : Type 0 where
  pub loaded : HasLoaded v u
  pub covers : Covers side loaded.after keys from pairs
  pub come : HasCome k side loaded.after from link way
  pub begun : IsAhead side (start_of side keys) from
  pub up_to : IsUpTo side keys from

-- The walk met one more pair, whose key is known.
pub record Meets (k : Shape) (side : Side) (v u : View) (keys : Interval) (from : ℕ) (pairs : List Pair) (p : Passed) (way : Way) : Type 0 where
  pub loaded : HasLoaded v u
  pub covers : Covers side loaded.after keys from pairs
  pub gaps : AreGapsTo side loaded.after.gaps from p.key
  pub at : IsAtKey k side loaded.after p.slot p.key way
  pub ahead : IsAhead side from p.key
  pub begun : IsAhead side (start_of side keys) from
  pub up_to : IsUpTo side keys from

pub starts : {k : Shape} {side : Side} {v w : View} {keys : Interval} {from n : ℕ} {pairs : List Pair} {way : Way} → from ≡ start_of side keys
    → keys.low ≤ keys.high → from < 2 ^ 64 → IsListing v → pairs ≡ [] → way.passed.items ≡ [] → Told k v (ListLoad 0 (part.Link Right)) n w
    → Walks k side v w keys from n pairs way
starts {k} {side} {v} {w} {keys} {from} {n} {pairs} {way} start ordered fits x empty none t =
    let l : HasLoaded v v = loaded_none v x in
    let b = begins k side v from way v w n l fits none t in
    record {
      loaded = b.0;
      covers = subst (λ z. Covers side b.0.after keys from z) (sym empty) (covers_none side b.0.after keys from start);
      come = b.2;
      begun = subst (λ z. IsAhead side z from) start (ahead_itself side from);
      up_to = starts_within side keys from ordered start;
    }

-- it went down to an end
pub descends : {k : Shape} {side : Side} {v u w : View} {keys : Interval} {from link : ℕ} {pairs : List Pair} {way next : Way}
    → Walks k side v u keys from link pairs way → (m : HasLoaded u w) × HasCome k side m.after from 0 next
    → Walks k side v w keys from 0 pairs next
descends {k} {side} {v} {u} {w} {keys} {from} {link} {pairs} {way} {next} z d =
    let b = loaded_both v u w z.loaded d.0 in
    let p = subst (λ (x : Listing). Covers side x keys from pairs × HasCome k side x from 0 next) (sym b.1)
    (cover_more side z.loaded.after d.0.after (low_before side keys from) (end_before side keys from) pairs b.2 z.covers, d.1) in
    record { loaded = b.0; covers = p.0; come = p.1; begun = z.begun; up_to = z.up_to }

pub may_restart : {k : Shape} {side : Side} {v u : View} {keys : Interval} {from link : ℕ} {pairs : List Pair} {way : Way}
    → Walks k side v u keys from link pairs way → Asks k u (ListLoad 0 (part.Link Right))
may_restart {k} {side} {v} {u} z = may_begin k v u (still_listing v u z.loaded)

pub restarts : {k : Shape} {side : Side} {v u w : View} {keys : Interval} {from n : ℕ} {pairs : List Pair} {way next : Way} {r : Next}
    → Walks k side v u keys from 0 pairs way → keys.high < 2 ^ 64 → NextIs way r next → r ≡ Lost → Told k u (ListLoad 0 (part.Link Right)) n w
    → Walks k side v w keys from n pairs next
restarts {k} {side} {v} {u} {w} {keys} {from} {n} {pairs} {way} {next} {r} z fits is lost t =
    let none = subst (λ x. NextIs way x next) lost is in
    let b = begins k side v from next u w n z.loaded (from_fits side keys from z.begun z.up_to fits) none.2 t in
    record {
      loaded = b.0;
      covers = cover_more side z.loaded.after b.0.after (low_before side keys from) (end_before side keys from) pairs b.1 z.covers;
      come = b.2;
      begun = z.begun;
      up_to = z.up_to;
    }

-- there is no key more
pub ends : {k : Shape} {side : Side} {v u : View} {keys : Interval} {from : ℕ} {pairs : List Pair} {way : Way} {r : Next} (next : Way)
    → Walks k side v u keys from 0 pairs way → NextIs way r next → r ≡ Done → keys.high < 2 ^ 64 → Gathered side v u keys pairs
ends {k} {side} {v} {u} {keys} {from} {pairs} {way} {r} next z is done fits =
    let none = subst (λ x. NextIs way x next) done is in
    let c = z.come in
    let l = z.loaded.after in
    let bound : bound_on side c.bounds ≡ None =
    subst (λ ps. AreKept k side l.visits c.first ps (bound_on side c.bounds)) none.0 c.kept ∙ c.whole none.1 in (
      z.loaded,
      covers_all side l keys from pairs z.covers z.begun z.up_to
          (λ y least most ahead. (
            c.bounds,
            c.leads.ended refl,
            ahead_between_all side from y c.bounds c.near bound (omega (arith, most, fits)) ahead,
          )),
    )

pub meets : {k : Shape} {side : Side} {v u : View} {keys : Interval} {from : ℕ} {pairs : List Pair} {way next : Way} {r : Next} {p : Passed}
    → Walks k side v u keys from 0 pairs way → NextIs way r next → r ≡ At p → (IsBefore side p.key from → ⊥)
    → Meets k side v u keys from pairs p next
meets {k} {side} {v} {u} {keys} {from} {pairs} {way} {next} {r} {p} z given at not =
    let is = subst (λ x. NextIs way x next) at given in
    let last = at_last k side z.loaded.after from way next p z.come is.0 is.1 in
    let gap = last.1 in
    record {
      loaded = z.loaded;
      covers = z.covers;
      gaps = λ y ahead before. (gap.0, gap.1, ahead_between side from y p.key gap.0 gap.2 gap.3 ahead before);
      at = last.0;
      ahead = ahead_of side from p.key not;
      begun = z.begun;
      up_to = z.up_to;
    }

-- the slot met has a key before
module _ {k : Shape} {side : Side} {v u : View} {keys : Interval} {from : ℕ} {pairs : List Pair} {way : Way} {r : Next} {p : Passed}
    (z : Walks k side v u keys from 0 pairs way) (next : Way) (given : NextIs way r next) (at : r ≡ At p) where
  there_before : IsAtKey k side z.loaded.after p.slot p.key next
  there_before =
      let is = subst (λ x. NextIs way x next) at given in
      (at_last k side z.loaded.after from way next p z.come is.0 is.1).0

  pub some_before : p.slot ≢ 0
  some_before = there_before.known.node.0

  pub may_go_past : Asks k u (ListLoad p.slot (part.Link side))
  may_go_past = may_go k v u z.loaded p.slot p.key there_before.bounds there_before.known side

  pub goes_past : {w : View} {n : ℕ} → IsBefore side p.key from → Told k u (ListLoad p.slot (part.Link side)) n w
      → Walks k side v w keys from n pairs next
  goes_past {w} {n} less t =
      let r = goes_on k side v u z.loaded p.slot p.key next there_before from w n less t in
      record {
        loaded = r.0;
        covers = cover_more side z.loaded.after r.0.after (low_before side keys from) (end_before side keys from) pairs r.1 z.covers;
        come = r.2;
        begun = z.begun;
        up_to = z.up_to;
      }

module _ {k : Shape} {side : Side} {v u : View} {keys : Interval} {from : ℕ} {pairs : List Pair} {p : Passed} {way : Way}
    (z : Meets k side v u keys from pairs p way) where
  -- there is none more, where the key that was met lies past the range
  pub ends_before : {end : ℕ} → end ≡ start_of (across side) keys → IsBefore side end p.key → Gathered side v u keys pairs
  ends_before {end} is_end before_it = let past = subst (λ e. IsBefore side e p.key) is_end before_it in (
    z.loaded,
    covers_all side z.loaded.after keys from pairs z.covers z.begun z.up_to
        (λ y least most ahead. z.gaps y ahead (all_before side keys p.key y past least most)),
  )

  pub some_met : p.slot ≢ 0
  some_met = z.at.known.node.0

  pub may_value_met : Asks k u (ListLoad p.slot part.Value)
  may_value_met = may_value k v u z.loaded p.slot p.key z.at.bounds z.at.known

  begun_there : IsAhead side (start_of side keys) p.key
  begun_there = ahead_too side (start_of side keys) from p.key z.begun z.ahead

  module _ {w : View} {value : ℕ} (t : Told k u (ListLoad p.slot part.Value) value w) where
    pub has_value : (l : HasLoaded v w) × Covers side l.after keys p.key pairs × IsAtKey k side l.after p.slot p.key way
        × IsIn l.after.facts (fact_of (p.key, value))
    has_value =
        let r = values k side v u z.loaded p.slot p.key way z.at w value t in
        let all = covers_gaps side z.loaded.after keys from p.key pairs z.covers z.ahead z.gaps in
        (r.0, cover_more side z.loaded.after r.0.after (low_before side keys p.key) (end_before side keys p.key) pairs r.1 all, r.2, r.3)

    with_pair : (more : List Pair) → more ≡ pairs ++ (p.key, value) ∷ [] → CoversWith side has_value.0.after keys p.key more
    with_pair more is_more = subst (λ x. CoversWith side has_value.0.after keys p.key x) (sym is_more)
        (covers_pair side has_value.0.after keys p.key value pairs has_value.1 begun_there has_value.3)

    -- the pair is the last one of the range
    pub gathers_last : (more : List Pair) → more ≡ pairs ++ (p.key, value) ∷ [] → p.key ≡ start_of (across side) keys
        → Gathered side v w keys more
    gathers_last more is_more end = (has_value.0, covers_end side has_value.0.after keys p.key more (with_pair more is_more) end)

    pub may_go_on : Asks k w (ListLoad p.slot (part.Link side))
    may_go_on = may_go k v w has_value.0 p.slot p.key has_value.2.bounds has_value.2.known side

    pub walks_on : {x : View} {n next : ℕ} (more : List Pair) → more ≡ pairs ++ (p.key, value) ∷ [] → IsNextTo side p.key next
        → IsUpTo side keys next → Told k w (ListLoad p.slot (part.Link side)) n x → Walks k side v x keys next n more way
    walks_on {x} {n} {next} more is_more is_next up_to on =
        let a = has_value in
        let r = goes_on k side v w a.0 p.slot p.key way a.2 next x n (next_past side p.key next is_next) on in
        let c = covers_next side a.0.after keys p.key next more (with_pair more is_more) is_next in
        record {
          loaded = r.0;
          covers = cover_more side a.0.after r.0.after (low_before side keys next) (end_before side keys next) more r.1 c;
          come = r.2;
          begun = ahead_next side (start_of side keys) p.key next begun_there is_next;
          up_to = up_to;
        }

-- Lists of slots: paths and searches along them, lists with one slot left out, the ways of readers, and the slots of a class.
-- Lists of slots that lead from one to the next, and searches along them.
use Rattle.std.proofs.Common.{◌≡◌, ◌≢◌, ℕ, ◌≤◌, ◌==◌, cond, List, [], ◌∷◌, ◌++◌, Some, None, refl, sym, ap, subst, ◌∙◌, arith, eq-eqb, ne_eqb, ◌+◌, ◌⊎◌, inl, inr, true, Option, zero, suc, ◌<◌, take, sum}
use mathlib.Core.Logic.{dite}
use native.Mathlib.Decide.{ℕ_discrete, dec_le}
use Rattle.hash_core.specs.declared.words.Field.TheVariants.{Key, Value, Next}
use Rattle.list_laws.specs.Counts.{times}
use Rattle.hash_core.specs.Memory.{IsPath, Memory, is_slot_of, capacity, base}
use Rattle.hash_core.specs.Rule.{seek, HaveDistinctKeys, IsHeldBack, HasWay, WillAnswer}
use Rattle.list_laws.proofs.Lists.{times_here, times_other, all_change, all_times, times_append}
use Rattle.hash_core.specs.declared.view.Known.{Known}
use Rattle.hash_core.specs.Steps.{known_in, IsWholeWalk, LacksKey, ComesTo}
use Rattle.prcu_marks.specs.declared.mark.Mark.{Mark}
use Rattle.prcu_model.specs.declared.operation.Update.{Update}
use Rattle.hash_core.specs.declared.view.SearchState.{SearchState}
use Rattle.hash_core.specs.declared.view.SearchState.TheVariants.{Start, Unread, Passed, Found, Ended}
use Rattle.hash_core.specs.declared.view.Section.{Section}
use Rattle.prcu_model.specs.Dictionary.{WasSaid}
use Rattle.std.proofs.lemmas.Bool.{ltb-true, leb-true, and_parts}
use Rattle.std.proofs.lemmas.List.Sums.{sum_by-cons}

-- a path goes on where no link on it changes
pub IsPath-same : (next next' : ℕ → ℕ) (first : ℕ) (xs : List ℕ) → ((s : ℕ) → 1 ≤ times s xs → next' s ≡ next s) → IsPath next first xs
    → IsPath next' first xs
IsPath-same next next' first [] same path = path
IsPath-same next next' first (s ∷ ss) same path =
    let here : next' s ≡ next s = same s (let t = times_here s ss in omega arith) in
    let others : (t : ℕ) → 1 ≤ times t ss → next' t ≡ next t = λ t there. same t (omega arith) in
    (path.0, path.1, subst (λ n. IsPath next' n ss) (sym here) (IsPath-same next next' (next s) ss others path.2))

-- a path of another first link
pub IsPath-from : (next : ℕ → ℕ) (first first' : ℕ) (xs : List ℕ) → first ≡ first' → IsPath next first xs → IsPath next first' xs
IsPath-from next first first' xs e path = subst (λ n. IsPath next n xs) e path

-- a link that isn't 0 is the first slot of its path
pub path_cons : (next : ℕ → ℕ) (first : ℕ) (xs : List ℕ) → first ≢ 0 → IsPath next first xs
    → (ss : List ℕ) × (xs ≡ first ∷ ss) × IsPath next (next first) ss
path_cons next first [] some path = absurd (some path)
path_cons next first (s ∷ ss) some path = (ss, ap (λ z. z ∷ ss) (sym path.0), subst (λ z. IsPath next (next z) ss) (sym path.0) path.2)

-- a link that is 0 has an empty path
pub path_none : (next : ℕ → ℕ) (xs : List ℕ) → IsPath next 0 xs → xs ≡ []
path_none next [] path = refl
path_none next (s ∷ ss) path = absurd (let a = path.0 in let b = path.1 in omega arith)

-- a search finds the same where no key or value on its way changes
pub seek-same : (m m' : Memory) (key : ℕ) (xs : List ℕ)
    → ((s : ℕ) → 1 ≤ times s xs → (m' (Key s) ≡ m (Key s)) × (m' (Value s) ≡ m (Value s))) → seek m' key xs ≡ seek m key xs
seek-same m m' key [] same = refl
seek-same m m' key (s ∷ ss) same =
    let here = same s (let t = times_here s ss in omega arith) in
    let rest : seek m' key ss ≡ seek m key ss = seek-same m m' key ss (λ t there. same t (omega arith)) in
    λ i. cond (here.0 i == key) (Some (here.1 i)) (rest i)

pub HaveDistinctKeys-same : (m m' : Memory) (xs : List ℕ)
    → ((s : ℕ) → 1 ≤ times s xs → (m' (Key s) ≡ m (Key s)) × (m' (Value s) ≡ m (Value s))) → HaveDistinctKeys m xs → HaveDistinctKeys m' xs
HaveDistinctKeys-same m m' [] same h = tt
HaveDistinctKeys-same m m' (s ∷ ss) same h =
    let here = same s (let t = times_here s ss in omega arith) in
    let others : (t : ℕ) → 1 ≤ times t ss → (m' (Key t) ≡ m (Key t)) × (m' (Value t) ≡ m (Value t)) = λ t there. same t (omega arith) in
    ((λ i. seek-same m m' (here.0 i) ss others i) ∙ h.0, HaveDistinctKeys-same m m' ss others h.1)

-- what a search finds at the first slot, and past it
pub seek_here : (m : Memory) (key s : ℕ) (ss : List ℕ) → m (Key s) ≡ key → seek m key (s ∷ ss) ≡ Some (m (Value s))
seek_here m key s ss e = ap (λ b. cond b (Some (m (Value s))) (seek m key ss)) (eq-eqb (m (Key s)) key e)

pub seek_past : (m : Memory) (key s : ℕ) (ss : List ℕ) → m (Key s) ≢ key → seek m key (s ∷ ss) ≡ seek m key ss
seek_past m key s ss ne = ap (λ b. cond b (Some (m (Value s))) (seek m key ss)) (ne_eqb (m (Key s)) key ne)

-- a search along two lists, one after the other
pub seek_append : (m : Memory) (key : ℕ) (xs ys : List ℕ) → (seek m key xs ≡ None → seek m key (xs ++ ys) ≡ seek m key ys)
    × ((value : ℕ) → seek m key xs ≡ Some value → seek m key (xs ++ ys) ≡ Some value)
seek_append m key [] ys = (λ e. refl, λ value e. absurd (cc))
seek_append m key (x ∷ xs) ys =
    let rest = seek_append m key xs ys in
    dite (ℕ_discrete (m (Key x)) key)
    (λ e. let a = seek_here m key x xs e in let b = seek_here m key x (xs ++ ys) e in
    (λ none. absurd (let z : Some (m (Value x)) ≡ None = sym a ∙ none in cc), λ value found. b ∙ sym a ∙ found))
    (λ ne. let a = seek_past m key x xs ne in let b = seek_past m key x (xs ++ ys) ne in
    (λ none. b ∙ rest.0 (sym a ∙ none), λ value found. b ∙ rest.1 value (sym a ∙ found)))

-- Lists of slots from which one is left out, and walks that are known.

-- a path that goes past the slot after `p` where the link of `p` does
pub path_past : (next next' : ℕ → ℕ) (first p slot : ℕ) (ys rest : List ℕ) → next' p ≡ next slot
    → ((t : ℕ) → 1 ≤ times t ys → next' t ≡ next t) → ((t : ℕ) → 1 ≤ times t rest → next' t ≡ next t)
    → IsPath next first (ys ++ p ∷ slot ∷ rest) → IsPath next' first (ys ++ p ∷ rest)
path_past next next' first p slot [] rest past before after path =
    (path.0, path.1, subst (λ z. IsPath next' z rest) (sym past) (IsPath-same next next' (next slot) rest after path.2.2))
path_past next next' first p slot (y ∷ ys) rest past before after path = (
  path.0,
  path.1,
  subst (λ z. IsPath next' z (ys ++ p ∷ rest)) (sym (before y (let t = times_here y ys in omega arith)))
      (path_past next next' (next y) p slot ys rest past (λ t there. before t (omega arith)) after path.2),
)

-- a slot on a list cuts it in two
pub cut_at : (x : ℕ) (xs : List ℕ) → 1 ≤ times x xs → (ys zs : List ℕ) × (xs ≡ ys ++ x ∷ zs)
cut_at x [] there = absurd (omega arith)
cut_at x (y ∷ ys) there =
    dite (ℕ_discrete y x)
    (λ e. ([], ys, ap (λ z. z ∷ ys) e))
    (λ ne. let r = cut_at x ys (let t = times_other x y ys ne in omega arith) in (y ∷ r.0, r.1, ap (λ zs. y ∷ zs) r.2))

-- what is past a slot of a path is the path from its link
pub path_back : (next : ℕ → ℕ) (first : ℕ) (ys zs : List ℕ) (x : ℕ) → IsPath next first (ys ++ x ∷ zs) → IsPath next (next x) zs
path_back next first [] zs x path = path.2
path_back next first (y ∷ ys) zs x path = path_back next (next y) ys zs x path.2

-- two cuts of one list: the second's back begins in the first's front, or after it
pub two_cuts : (qs bs fs rs : List ℕ) → qs ++ bs ≡ fs ++ rs
    → ((ks : List ℕ) × (qs ≡ fs ++ ks) × (rs ≡ ks ++ bs)) ⊎ ((ks : List ℕ) × (fs ≡ qs ++ ks) × (bs ≡ ks ++ rs))
two_cuts qs bs [] rs e = inl (qs, refl, sym e)
two_cuts [] bs (f ∷ fs) rs e = inr (f ∷ fs, refl, e)
two_cuts (a ∷ qs) bs (f ∷ fs) rs e =
    let head : a ≡ f = cc in
    let tail : qs ++ bs ≡ fs ++ rs = cc in
    elim (two_cuts qs bs fs rs tail) [
      | inl r ↦ inl (r.0, (λ i. head i ∷ r.1 i), r.2)
      | inr r ↦ inr (r.0, (λ i. sym head i ∷ r.1 i), r.2)
    ]

-- a search that finds nothing passes each slot
pub seek_none_apart : (m : Memory) (key slot : ℕ) (fs rest : List ℕ) → seek m key (fs ++ slot ∷ rest) ≡ None → m (Key slot) ≢ key
seek_none_apart m key slot [] rest none e = let z : Some (m (Value slot)) ≡ None = sym (seek_here m key slot rest e) ∙ none in absurd (cc)
seek_none_apart m key slot (f ∷ fs) rest none e =
    dite (ℕ_discrete (m (Key f)) key)
    (λ same. let z : Some (m (Value f)) ≡ None = sym (seek_here m key f (fs ++ slot ∷ rest) same) ∙ none in absurd (cc))
    (λ ne. seek_none_apart m key slot fs rest (sym (seek_past m key f (fs ++ slot ∷ rest) ne) ∙ none) e)

-- a search for another key finds the same without the slot
pub seek_without : (m : Memory) (key slot : ℕ) (fs rest : List ℕ) → m (Key slot) ≢ key
    → seek m key (fs ++ slot ∷ rest) ≡ seek m key (fs ++ rest)
seek_without m key slot [] rest ne = seek_past m key slot rest ne
seek_without m key slot (f ∷ fs) rest ne = ap (λ z. cond (m (Key f) == key) (Some (m (Value f))) z) (seek_without m key slot fs rest ne)

-- without the slot the keys stay distinct, and its key is found no more
pub distinct_without : (m : Memory) (slot : ℕ) (fs rest : List ℕ) → HaveDistinctKeys m (fs ++ slot ∷ rest)
    → HaveDistinctKeys m (fs ++ rest) × (seek m (m (Key slot)) (fs ++ rest) ≡ None)
distinct_without m slot [] rest d = (d.1, d.0)
distinct_without m slot (f ∷ fs) rest d =
    let ne : m (Key slot) ≢ m (Key f) = seek_none_apart m (m (Key f)) slot fs rest d.0 in
    let r = distinct_without m slot fs rest d.1 in
    ((sym (seek_without m (m (Key f)) slot fs rest ne) ∙ d.0, r.0), seek_past m (m (Key slot)) f (fs ++ rest) (λ e. ne (sym e)) ∙ r.1)

-- a linked slot's key is found
pub seek_some : (m : Memory) (key slot : ℕ) (fs rest : List ℕ) → m (Key slot) ≡ key
    → (value : ℕ) × (seek m key (fs ++ slot ∷ rest) ≡ Some value)
seek_some m key slot [] rest e = (m (Value slot), seek_here m key slot rest e)
seek_some m key slot (f ∷ fs) rest e =
    dite (ℕ_discrete (m (Key f)) key)
    (λ same. (m (Value f), seek_here m key f (fs ++ slot ∷ rest) same))
    (λ ne. let r = seek_some m key slot fs rest e in (r.0, seek_past m key f (fs ++ slot ∷ rest) ne ∙ r.1))

-- and where keys are distinct it is found at that slot
pub seek_slot : (m : Memory) (slot : ℕ) (fs rest : List ℕ) → HaveDistinctKeys m (fs ++ slot ∷ rest)
    → seek m (m (Key slot)) (fs ++ slot ∷ rest) ≡ Some (m (Value slot))
seek_slot m slot [] rest d = seek_here m (m (Key slot)) slot rest refl
seek_slot m slot (f ∷ fs) rest d =
    let ne : m (Key slot) ≢ m (Key f) = seek_none_apart m (m (Key f)) slot fs rest d.0 in
    seek_past m (m (Key slot)) f (fs ++ slot ∷ rest) (λ e. ne (sym e)) ∙ seek_slot m slot fs rest d.1

-- what is known of a walk is so of the path
module _ (known : List Known) (m : Memory) (so : (s n : ℕ) → known_in known (Next s) ≡ Some n → m (Next s) ≡ n) where
  pub whole_path : (first : ℕ) (walk chain : List ℕ) → IsWholeWalk known first walk → IsPath (λ s. m (Next s)) first chain → chain ≡ walk
  whole_path first [] [] w p = refl
  whole_path first [] (x ∷ xs) w p = absurd (let a = p.0 in let b = p.1 in omega arith)
  whole_path first (s ∷ ss) [] w p = absurd (w.1 (sym w.0 ∙ p))
  whole_path first (s ∷ ss) (x ∷ xs) w p =
      let e : x ≡ s = sym p.0 ∙ w.0 in
      let n = w.2 in
      let link : m (Next x) ≡ n.0 = ap (λ z. m (Next z)) e ∙ so s n.0 n.1 in
      let rest : xs ≡ ss = whole_path n.0 ss xs n.2 (subst (λ z. IsPath (λ t. m (Next t)) z xs) link p.2) in
      λ i. e i ∷ rest i

  pub comes_on : (first : ℕ) (before chain : List ℕ) (slot : ℕ) → ComesTo known first before slot → IsPath (λ s. m (Next s)) first chain
      → 1 ≤ times slot chain
  comes_on first [] chain slot c p =
      let r = path_cons (λ s. m (Next s)) first chain (λ e. c.1 (sym c.0 ∙ e)) p in
      let t : times first chain ≡ 1 + times first r.0 = ap (times first) r.1 ∙ times_here first r.0 in
      subst (λ z. 1 ≤ times z chain) c.0 (omega arith)
  comes_on first (s ∷ ss) [] slot c p = absurd (c.1 (sym c.0 ∙ p))
  comes_on first (s ∷ ss) (x ∷ xs) slot c p =
      let e : x ≡ s = sym p.0 ∙ c.0 in
      let n = c.2 in
      let link : m (Next x) ≡ n.0 = ap (λ z. m (Next z)) e ∙ so s n.0 n.1 in
      let r = comes_on n.0 ss xs slot n.2 (subst (λ z. IsPath (λ t. m (Next t)) z xs) link p.2) in omega arith

pub lacks_none : (known : List Known) (m : Memory) → ((s n : ℕ) → known_in known (Key s) ≡ Some n → m (Key s) ≡ n)
    → (key : ℕ) (walk : List ℕ) → LacksKey known key walk → seek m key walk ≡ None
lacks_none known m so key [] l = refl
lacks_none known m so key (s ∷ ss) l = let k = l.0 in
    seek_past m key s ss (λ e. k.2 (sym (so s k.0 k.1) ∙ e)) ∙ lacks_none known m so key ss l.1

-- A value that is replaced at a slot: a search finds what it found, or that value under the slot's key.
pub seek_replaced : (m m' : Memory) (key slot value : ℕ) (xs : List ℕ) → ((s : ℕ) → m' (Key s) ≡ m (Key s))
    → ((s : ℕ) → s ≢ slot → m' (Value s) ≡ m (Value s)) → m' (Value slot) ≡ value
    → (seek m' key xs ≡ seek m key xs) ⊎ ((m (Key slot) ≡ key) × (seek m' key xs ≡ Some value))
seek_replaced m m' key slot value [] keys values new = inl refl
seek_replaced m m' key slot value (x ∷ xs) keys values new =
    dite (ℕ_discrete (m (Key x)) key)
    (λ e. let here = seek_here m' key x xs (keys x ∙ e) in
    dite (ℕ_discrete x slot)
    (λ q. inr (ap (λ z. m (Key z)) (sym q) ∙ e, here ∙ ap Some (ap (λ z. m' (Value z)) q ∙ new)))
    (λ far. inl (here ∙ ap Some (values x far) ∙ sym (seek_here m key x xs e))))
    (λ ne. let past' = seek_past m' key x xs (λ e. ne (sym (keys x) ∙ e)) in let past = seek_past m key x xs ne in
    elim (seek_replaced m m' key slot value xs keys values new) [ inl r ↦ inl (past' ∙ r ∙ sym past) | inr r ↦ inr (r.0, past' ∙ r.1) ])

-- The ways of readers, where the slots on them stay.

-- What a step leaves of the slots on readers' ways: they are linked, or held back by the reader.
pub record KeepsWays (capacities : List ℕ) (c : ℕ) (m m' : Memory) (h h' : List Mark) (us us' : List Update) (chain chain' : List ℕ)
    (section : Section) : Type 0 where
  pub linked : (t : ℕ) → 1 ≤ times t chain → (m' (Key t) ≡ m (Key t)) × (m' (Value t) ≡ m (Value t)) × (m' (Next t) ≡ m (Next t))
  pub old : (t : ℕ) → is_slot_of capacities c t ≡ true → IsHeldBack h section t
      → (m' (Key t) ≡ m (Key t)) × (m' (Value t) ≡ m (Value t)) × (m' (Next t) ≡ m (Next t))
  pub held : (t : ℕ) → is_slot_of capacities c t ≡ true → IsHeldBack h section t → IsHeldBack h' section t
  pub joins : (front rest : List ℕ) → chain ≡ front ++ rest → (front' : List ℕ) × (chain' ≡ front' ++ rest)
  pub said : (answer : Option ℕ) → WasSaid us section.key section.from answer → WasSaid us' section.key section.from answer

module _ {capacities : List ℕ} {c : ℕ} {m m' : Memory} {h h' : List Mark} {us us' : List Update} {chain chain' : List ℕ} {section : Section}
    (keeps : KeepsWays capacities c m m' h h' us us' chain chain' section) where
  on_way : (slot : ℕ) (way : HasWay capacities c m h us chain section slot) (t : ℕ) → 1 ≤ times t (way.olds ++ way.rest)
      → (m' (Key t) ≡ m (Key t)) × (m' (Value t) ≡ m (Value t)) × (m' (Next t) ≡ m (Next t))
  on_way slot way t there =
      let sum = times_append t way.olds way.rest in
      dite (dec_le 1 (times t way.olds))
      (λ in_olds. keeps.old t (all_times (λ s. is_slot_of capacities c s ≡ true) way.olds t way.slots in_olds)
      (all_times (IsHeldBack h section) way.olds t way.held in_olds))
      (λ not_olds. let cut = times_append t way.front way.rest in let whole = ap (times t) way.joins in keeps.linked t (omega arith))

  pub way_still : (slot : ℕ) → HasWay capacities c m h us chain section slot → HasWay capacities c m' h' us' chain' section slot
  way_still slot way =
      let same = on_way slot way in
      let joined = keeps.joins way.front way.rest way.joins in
      record {
        olds = way.olds;
        front = joined.0;
        rest = way.rest;
        some = way.some;
        path = IsPath-same (λ s. m (Next s)) (λ s. m' (Next s)) slot (way.olds ++ way.rest) (λ s there. (same s there).2) way.path;
        held = all_change (IsHeldBack h section) (IsHeldBack h' section) way.olds
            (λ s there p. keeps.held s (all_times (λ t. is_slot_of capacities c t ≡ true) way.olds s way.slots there) p) way.held;
        slots = way.slots;
        joins = joined.1;
        said = subst (WasSaid us' section.key section.from)
            (sym (seek-same m m' section.key (way.olds ++ way.rest) (λ s there. let q = same s there in (q.0, q.1))))
            (keeps.said _ way.said);
      }

  key_still : (slot : ℕ) → HasWay capacities c m h us chain section slot → m' (Key slot) ≡ m (Key slot)
  key_still slot way =
      let first = path_cons (λ s. m (Next s)) slot (way.olds ++ way.rest) way.some way.path in
      (on_way slot way slot (let t = times_here slot first.0 in let e = ap (times slot) first.1 in omega arith)).0

  pub will_still : (state : SearchState) → WillAnswer capacities c m h us chain section state
      → WillAnswer capacities c m' h' us' chain' section state
  will_still Start a = tt
  will_still (Unread s) a = way_still s a
  will_still (Passed s) a = (way_still s a.0, λ e. a.1 (sym (key_still s a.0) ∙ e))
  will_still (Found s) a = (way_still s a.0, key_still s a.0 ∙ a.1)
  will_still Ended a = keeps.said None a

-- Classes own slots of their own.

-- where a slot of a class lies
pub slot_bounds : (capacities : List ℕ) (c s : ℕ) → is_slot_of capacities c s ≡ true
    → (base capacities c < s) × (s ≤ base capacities c + capacity capacities c)
slot_bounds capacities c s e =
    let both = and_parts _ _ e in
    (ltb-true (base capacities c) s both.0, leb-true s (base capacities c + capacity capacities c) both.1)

no_sum : (c : ℕ) → sum (take c []) ≡ 0
no_sum zero = refl
no_sum (suc c) = refl

-- the slots of a class come before those of a later one
pub class_before : (capacities : List ℕ) (c d : ℕ) → c < d → base capacities c + capacity capacities c ≤ base capacities d
class_before [] c d less = let a = no_sum c in omega arith
class_before (x ∷ xs) c zero less = absurd (omega arith)
class_before (x ∷ xs) zero (suc d) less = let a = sum_by-cons (λ (n : ℕ). n) x (take d xs) in omega arith
class_before (x ∷ xs) (suc c) (suc d) less =
    let a = sum_by-cons (λ (n : ℕ). n) x (take d xs) in
    let b = sum_by-cons (λ (n : ℕ). n) x (take c xs) in
    let rest = class_before xs c d (omega arith) in omega arith

pub class_within : (capacities : List ℕ) (c : ℕ) → base capacities c + capacity capacities c ≤ sum capacities
class_within [] c = let a = no_sum c in omega arith
class_within (x ∷ xs) zero = let a = sum_by-cons (λ (n : ℕ). n) x xs in omega arith
class_within (x ∷ xs) (suc c) =
    let a = sum_by-cons (λ (n : ℕ). n) x xs in
    let b = sum_by-cons (λ (n : ℕ). n) x (take c xs) in
    let rest = class_within xs c in omega arith

-- a slot is of one class
pub one_class : (capacities : List ℕ) (c d s : ℕ) → is_slot_of capacities c s ≡ true → is_slot_of capacities d s ≡ true → c ≡ d
one_class capacities c d s of_c of_d =
    let in_c = slot_bounds capacities c s of_c in
    let in_d = slot_bounds capacities d s of_d in
    let low_c = in_c.0 in let high_c = in_c.1 in let low_d = in_d.0 in let high_d = in_d.1 in
    dite (ℕ_discrete c d) (λ e. e) (λ ne. dite (dec_le (suc c) d) (λ less. let z = class_before capacities c d less in absurd (omega arith))
    (λ not_less. let z = class_before capacities d c (omega arith) in absurd (omega arith)))

-- and lies in the table
pub slot_within : (capacities : List ℕ) (c s : ℕ) → is_slot_of capacities c s ≡ true → (1 ≤ s) × (s ≤ sum capacities)
slot_within capacities c s of =
    let bounds = slot_bounds capacities c s of in let low = bounds.0 in let high = bounds.1 in
    let z = class_within capacities c in (omega arith, omega arith)

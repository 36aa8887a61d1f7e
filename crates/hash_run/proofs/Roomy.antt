-- The keys that scripts put, class by class; and where there is a slot for each, no put is told Full.
-- Counting the keys that scripts put, class by class.
use Rattle.std.proofs.Common.{◌≡◌, ℕ, ◌+◌, ◌%◌, ◌<◌, ◌≤◌, true, false, cond, List, [], ◌∷◌, ◌++◌, length, set, get_or, drop, sum, Some, refl, sym, ap, subst, ◌∙◌, arith, append_assoc, length-append, length-set, get_or-set_other, get_or-set_same, eq-eqb, ne_eqb, zero, suc, ◌==◌, ◌||◌, Bool, MatchBool, take, map, None, is_some}
use Rattle.std.specs.List.{slice_get, AllByRecursion, list_any}
use Rattle.std.specs.Ordering.{nat_cmp, eq_by_cmp}
use Rattle.std.proofs.lemmas.List.Sums.{sum_by-cons, sum_by-set}
use mathlib.Core.Logic.{dite}
use native.Mathlib.Decide.{ℕ_discrete, dec_le}
use Rattle.prcu_model.specs.declared.operation.Op.{Op}
use Rattle.prcu_model.specs.declared.operation.Update.{Update}
use Rattle.prcu_model.specs.Dictionary.{Dictionary, updated, updated_all, map_of, map_at, key_of, Room, Explains, tells_update}
use Rattle.prcu_model.specs.Scripts.{op_count, is_put}
use Rattle.prcu_model.proofs.Dictionaries.{len-updated, get-updated_other, get-put, get-del}
use Rattle.prcu_model.proofs.ListFacts.{drop-read, drop-there, all_append, all_front, all_back}
use Rattle.hash_run.specs.Capacities.{puts_of, all_puts, put_keys, class_len, class_counts, AreCapacities}
use Rattle.std.specs.Cmp.{unsigned_tied}
use Rattle.prcu_model.specs.declared.operation.Op.TheVariants.{Put, Get, Del, Set}
use Rattle.prcu_model.specs.declared.operation.Reply.{Reply}
use Rattle.prcu_model.specs.declared.operation.Reply.TheVariants.{New, Full}
use Rattle.prcu_model.specs.declared.operation.Told.{Told}
use Rattle.prcu_model.specs.declared.operation.Line.{Line}
use Rattle.prcu_model.specs.Fronts.{Placed, told_lines, all_told_lines, own_updates_from, told_updates, MayStandBy, MayStandBesideBy, CanBeNumbered}
use Rattle.list_laws.specs.Counts.{times}
use Rattle.hash_core.specs.Laws.{HasPairs}
use Rattle.hash_core.specs.Memory.{capacity}
use Rattle.list_laws.proofs.Lists.{times_here, times_other, times_append, all_times}
use Rattle.hash_core.proofs.SlotLists.{cut_at}
use Rattle.class_hash.specs.Replies.{ExplainsInClasses}
use Rattle.std.specs.FinMap as finite

-- ---- puts

-- one more operation
pub puts_turn : (old before : List Update) (script : List Op) (i : ℕ) (op : Op) → i < length script → op ≡ get_or script i op
    → before ++ puts_of (drop i script) ≡ old ++ puts_of script
    → before ++ (cond (is_put op) (record { caller = 0; op = op } ∷ puts_of (drop (i + 1) script)) (puts_of (drop (i + 1) script))) ≡ old
    ++ puts_of script
puts_turn old before script i op below is so_far = ap (λ z. before ++ puts_of z) (sym (drop-read script i op below is)) ∙ so_far

-- one more script
pub scripts_turn : (before : List Update) (scripts : List (List Op)) (i : ℕ) (script : List Op) → slice_get scripts i ≡ Some script
    → before ++ all_puts (drop i scripts) ≡ all_puts scripts
    → (before ++ puts_of script) ++ all_puts (drop (i + 1) scripts) ≡ all_puts scripts
scripts_turn before scripts i script there so_far =
    append_assoc before (puts_of script) (all_puts (drop (i + 1) scripts))
    ∙ ap (λ z. before ++ all_puts z) (sym (drop-there scripts i script there)) ∙ so_far

length-puts_of : (ops : List Op) → length (puts_of ops) ≤ length ops
length-puts_of [] = omega arith
length-puts_of (op ∷ ops) = let rest = length-puts_of ops in
    elim (is_put op) as (λ b. length (cond b (record { caller = 0; op = op } ∷ puts_of ops) (puts_of ops))
    ≤ length (op ∷ ops)) [ true ↦ omega arith | false ↦ omega arith ]

length-all_puts : (scripts : List (List Op)) → length (all_puts scripts) ≤ op_count scripts
length-all_puts [] = omega arith
length-all_puts (script ∷ scripts) = let first = length-puts_of script in let rest = length-all_puts scripts in
    omega (arith, length-append (puts_of script) (all_puts scripts), sum_by-cons {X = List Op} length script scripts)

len-all : (m : Dictionary) (us : List Update) → finite.len (updated_all m us) ≤ finite.len m + length us
len-all m [] = omega arith
len-all m (u ∷ us) =
    let rest = len-all (updated m u.op) us in
    let one = len-updated m u.op in
    let most : cond (is_put u.op) 1 0 ≤ 1 = elim (is_put u.op) as (λ b. cond b 1 0 ≤ 1) [ true ↦ omega arith | false ↦ omega arith ] in
    omega arith

-- there are no more keys than operations
pub few_keys : (scripts : List (List Op)) → finite.len (map_of (all_puts scripts)) ≤ op_count scripts
few_keys scripts = let a = len-all finite.empty (all_puts scripts) in let b = length-all_puts scripts in
    let none = finite.len-empty nat_cmp ℕ in omega arith

-- ---- counts

pub sum-more : (xs : List ℕ) (k : ℕ) → k < length xs → sum (set xs k (get_or xs k 0 + 1)) ≡ sum xs + 1
sum-more xs k below = let e = sum_by-set (λ (x : ℕ). x) xs k (get_or xs k 0 + 1) 0 below in omega arith

pub length-class_counts : (counts : List ℕ) (es : List (ℕ × ℕ)) → length (class_counts counts es) ≡ length counts
length-class_counts counts [] = refl
length-class_counts counts (e ∷ es) = length-class_counts (set counts (e.0 % 64) (get_or counts (e.0 % 64) 0 + 1)) es
    ∙ length-set counts (e.0 % 64) (get_or counts (e.0 % 64) 0 + 1)

pub sum-class_counts : (counts : List ℕ) (es : List (ℕ × ℕ)) → length counts ≡ 64 → sum (class_counts counts es) ≡ sum counts + length es
sum-class_counts counts [] long = omega arith
sum-class_counts counts (e ∷ es) long =
    let one = sum-more counts (e.0 % 64) (omega arith) in
    let rest = sum-class_counts (set counts (e.0 % 64) (get_or counts (e.0 % 64) 0 + 1)) es
    (length-set counts (e.0 % 64) (get_or counts (e.0 % 64) 0 + 1) ∙ long) in
    omega arith

pub count_at : (counts : List ℕ) (es : List (ℕ × ℕ)) (c : ℕ) → length counts ≡ 64 → c < 64
    → get_or (class_counts counts es) c 0 ≡ get_or counts c 0 + class_len c es
count_at counts [] c long below = omega arith
count_at counts (e ∷ es) c long below =
    let k : ℕ = e.0 % 64 in
    let next : List ℕ = set counts (e.0 % 64) (get_or counts (e.0 % 64) 0 + 1) in
    let rest = count_at (set counts (e.0 % 64) (get_or counts (e.0 % 64) 0 + 1)) es c
    (length-set counts (e.0 % 64) (get_or counts (e.0 % 64) 0 + 1) ∙ long) below in
    dite (ℕ_discrete (e.0 % 64) c)
    (λ same.
    let here : get_or (set counts (e.0 % 64) (get_or counts (e.0 % 64) 0 + 1)) c 0 ≡ get_or counts c 0 + 1 =
    subst (λ z. get_or (set counts (e.0 % 64) (get_or counts (e.0 % 64) 0 + 1)) z 0 ≡ get_or counts z 0 + 1) same
    (get_or-set_same counts (e.0 % 64) (get_or counts (e.0 % 64) 0 + 1) 0 (omega arith)) in
    let counted : class_len c (e ∷ es) ≡ 1 + class_len c es = ap (λ b. cond b 1 0 + class_len c es) (eq-eqb (e.0 % 64) c same) in
    omega arith)
    (λ apart.
    let here : get_or (set counts (e.0 % 64) (get_or counts (e.0 % 64) 0 + 1)) c 0 ≡ get_or counts c 0 =
    get_or-set_other counts (e.0 % 64) c (get_or counts (e.0 % 64) 0 + 1) 0 (λ same. apart (sym same)) in
    let counted : class_len c (e ∷ es) ≡ 0 + class_len c es = ap (λ b. cond b 1 0 + class_len c es) (ne_eqb (e.0 % 64) c apart) in
    omega arith)

-- from counts of 0
pub counted : (scripts : List (List Op)) (counts : List ℕ) → length counts ≡ 64 → ((c : ℕ) → c < 64 → get_or counts c 0 ≡ 0)
    → AreCapacities scripts (class_counts counts (finite.entries (put_keys scripts)))
counted scripts counts long none = record {
  classes = length-class_counts counts (finite.entries (put_keys scripts)) ∙ long;
  each = λ c below. let at = count_at counts (finite.entries (put_keys scripts)) c long below in let z = none c below in omega arith;
}

-- Where each class has as many slots as different keys of it are put, no put is told that no slot is left.

-- ---- keys that are put

-- a put's key is one of the dictionary's
abbrev pub PutsInto : Dictionary → Op → Type 0
PutsInto d (Put key value) = finite.contains_key d key ≡ true
PutsInto d _ = Unit {0}

module _ (d : Dictionary) where
  -- a dictionary that updates make has no keys but those that are put
  updated_within : (m : Dictionary) (op : Op) → PutsInto d op → ((k : ℕ) → finite.contains_key m k ≡ true → finite.contains_key d k ≡ true)
      → (k : ℕ) → finite.contains_key (updated m op) k ≡ true → finite.contains_key d k ≡ true
  updated_within m op into within k there = dite (ℕ_discrete k (key_of op))
      (λ same. subst (λ z. finite.contains_key d z ≡ true) (sym same)
      (own op into (subst (λ z. finite.contains_key (updated m op) z ≡ true) same there)))
      (λ apart. within k (ap is_some (sym (get-updated_other m op k apart)) ∙ there))
    where
      own : (o : Op) → PutsInto d o → finite.contains_key (updated m o) (key_of o) ≡ true → finite.contains_key d (key_of o) ≡ true
      own (Put key value) into_it has = into_it
      own (Get key) into_it has = within key has
      own (Del key) into_it has = absurd (let gone : true ≡ false = sym has ∙ ap is_some (get-del m key) in cc)
      own (Set key value) into_it has = by (finite.contains_key m key) refl
        where
          by : (b : Bool) → finite.contains_key m key ≡ b → finite.contains_key d key ≡ true
          by true is = within key is
          by false is = within key (subst (λ z. finite.contains_key z key ≡ true) (ap (λ b. cond b (finite.insert m key value) m) is) has)

  all_within : (m : Dictionary) (us : List Update) → AllByRecursion (λ u. PutsInto d u.op) us
      → ((k : ℕ) → finite.contains_key m k ≡ true → finite.contains_key d k ≡ true) → (k : ℕ)
      → finite.contains_key (updated_all m us) k ≡ true → finite.contains_key d k ≡ true
  all_within m [] all within = within
  all_within m (u ∷ us) all within = all_within (updated m u.op) us all.1 (updated_within m u.op all.0 within)

  none_there : (k : ℕ) → finite.contains_key (map_of []) k ≡ true → finite.contains_key d k ≡ true
  none_there k there = absurd (let no_key : true ≡ false = sym there ∙ ap is_some (finite.get-empty nat_cmp k) in cc)

  take_all_of : (P : Update → Type 0) (n : ℕ) (us : List Update) → AllByRecursion P us → AllByRecursion P (take n us)
  take_all_of P zero us all = tt
  take_all_of P (suc n) [] all = tt
  take_all_of P (suc n) (u ∷ us) all = (all.0, take_all_of P n us all.1)

  pub front_within : (us : List Update) (front : ℕ) → AllByRecursion (λ u. PutsInto d u.op) us → (k : ℕ)
      → finite.contains_key (map_at us front) k ≡ true → finite.contains_key d k ≡ true
  front_within us front all = all_within finite.empty (take front us) (take_all_of (λ u. PutsInto d u.op) front us all) none_there

-- ---- the dictionary of all puts has each key that is put

abbrev IsPut : Update → Type 0
IsPut u = is_put u.op ≡ true

put_stays : (m : Dictionary) (op : Op) (k : ℕ) → is_put op ≡ true → finite.contains_key m k ≡ true
    → finite.contains_key (updated m op) k ≡ true
put_stays m (Put key value) k is there = by (finite.contains_key m key) refl
  where
    by : (b : Bool) → finite.contains_key m key ≡ b → finite.contains_key (updated m (Put key value)) k ≡ true
    by true has = subst (λ z. finite.contains_key z k ≡ true) (sym (ap (λ b. cond b m (finite.insert m key value)) has)) there
    by false has = dite (ℕ_discrete k key)
        (λ same. subst (λ z. finite.contains_key (updated m (Put key value)) z ≡ true) (sym same) (ap is_some (get-put m key value has)))
        (λ apart. ap is_some (get-updated_other m (Put key value) k apart) ∙ there)
put_stays m _ k is there = absurd (cc)

put_there : (m : Dictionary) (op : Op) → is_put op ≡ true → finite.contains_key (updated m op) (key_of op) ≡ true
put_there m (Put key value) is = by (finite.contains_key m key) refl
  where
    by : (b : Bool) → finite.contains_key m key ≡ b → finite.contains_key (updated m (Put key value)) key ≡ true
    by true has = subst (λ z. finite.contains_key z key ≡ true) (sym (ap (λ b. cond b m (finite.insert m key value)) has)) has
    by false has = ap is_some (get-put m key value has)
put_there m _ is = absurd (cc)

puts_stay : (m : Dictionary) (us : List Update) (k : ℕ) → AllByRecursion IsPut us → finite.contains_key m k ≡ true
    → finite.contains_key (updated_all m us) k ≡ true
puts_stay m [] k all there = there
puts_stay m (u ∷ us) k all there = puts_stay (updated m u.op) us k all.1 (put_stays m u.op k all.0 there)

puts_there : (m : Dictionary) (us : List Update) → AllByRecursion IsPut us
    → AllByRecursion (λ u. finite.contains_key (updated_all m us) (key_of u.op) ≡ true) us
puts_there m [] all = tt
puts_there m (u ∷ us) all = (
  puts_stay (updated m u.op) us (key_of u.op) all.1 (put_there m u.op all.0),
  puts_there (updated m u.op) us all.1,
)

puts_are : (ops : List Op) → AllByRecursion IsPut (puts_of ops)
puts_are [] = tt
puts_are (op ∷ ops) = let rest = puts_are ops in
    elim (is_put op) as (λ b. is_put op ≡ b → AllByRecursion IsPut
    (cond b (record { caller = 0; op = op } ∷ puts_of ops) (puts_of ops))) [ true ↦ λ is. (is, rest) | false ↦ λ is. rest ] refl

all_puts_are : (scripts : List (List Op)) → AllByRecursion IsPut (all_puts scripts)
all_puts_are [] = tt
all_puts_are (script ∷ scripts) = all_append IsPut (puts_of script) (all_puts scripts) (puts_are script) (all_puts_are scripts)

module _ (d : Dictionary) where
  script_puts : (ops : List Op) → AllByRecursion (λ (u : Update). finite.contains_key d (key_of u.op) ≡ true) (puts_of ops)
      → AllByRecursion (PutsInto d) ops
  script_puts [] all = tt
  script_puts (Put key value ∷ ops) all = (all.0, script_puts ops all.1)
  script_puts (_ ∷ ops) all = (tt, script_puts ops all)

  scripts_put : (scripts : List (List Op)) → AllByRecursion (λ (u : Update). finite.contains_key d (key_of u.op) ≡ true) (all_puts scripts)
      → AllByRecursion (AllByRecursion (PutsInto d)) scripts
  scripts_put [] all = tt
  scripts_put (script ∷ scripts) all = (
    script_puts script (all_front (λ (u : Update). finite.contains_key d (key_of u.op) ≡ true) (puts_of script) (all_puts scripts) all),
    scripts_put scripts (all_back (λ (u : Update). finite.contains_key d (key_of u.op) ≡ true) (puts_of script) (all_puts scripts) all),
  )

pub each_put_there : (scripts : List (List Op)) → AllByRecursion (AllByRecursion (PutsInto (put_keys scripts))) scripts
each_put_there scripts = scripts_put (put_keys scripts) scripts (puts_there finite.empty (all_puts scripts) (all_puts_are scripts))

-- ---- counting

-- a list that has nothing that the other hasn't is no longer
times_length : (xs ys : List ℕ) → ((x : ℕ) → times x xs ≤ times x ys) → length xs ≤ length ys
times_length [] ys less = omega arith
times_length (x ∷ xs) ys less =
    let here = times_here x xs in
    let some_time = less x in
    let c = cut_at x ys (omega arith) in
    let rest = times_length xs (c.0 ++ c.1) (λ z.
    let a = less z in
    let b = ap (times z) c.2 in
    let d = times_append z c.0 (x ∷ c.1) in
    let e = times_append z c.0 c.1 in
    let f : times z (x ∷ xs) ≡ cond (x == z) 1 0 + times z xs = refl in
    let g : times z (x ∷ c.1) ≡ cond (x == z) 1 0 + times z c.1 = refl in
    omega arith) in
    let long = ap length c.2 in
    let l = length-append c.0 (x ∷ c.1) in
    let k = length-append c.0 c.1 in
    omega arith

-- the keys of a class among pairs
abbrev class_keys : ℕ → List (ℕ × ℕ) → List ℕ
class_keys c [] = []
class_keys c (e ∷ es) = cond (e.0 % 64 == c) (e.0 ∷ class_keys c es) (class_keys c es)

length-class_keys : (c : ℕ) (es : List (ℕ × ℕ)) → length (class_keys c es) ≡ class_len c es
length-class_keys c [] = refl
length-class_keys c (e ∷ es) = let rest = length-class_keys c es in
    elim (e.0 % 64 == c) as (λ b. length (cond b (e.0 ∷ class_keys c es) (class_keys c es))
    ≡ cond b 1 0 + class_len c es) [ true ↦ omega arith | false ↦ omega arith ]

key_among : (c k : ℕ) (es : List (ℕ × ℕ)) → k % 64 ≡ c → list_any (eq_by_cmp nat_cmp k) (map (λ (e : ℕ × ℕ). e.0) es) ≡ true
    → 1 ≤ times k (class_keys c es)
key_among c k [] class there = absurd (cc)
key_among c k (e ∷ es) class there = dite (ℕ_discrete e.0 k)
    (λ same.
    let test : (e.0 % 64 == c) ≡ true = eq-eqb (e.0 % 64) c (ap (λ z. z % 64) same ∙ class) in
    let is : class_keys c (e ∷ es) ≡ e.0 ∷ class_keys c es = ap (λ b. cond b (e.0 ∷ class_keys c es) (class_keys c es)) test in
    let here : times k (e.0 ∷ class_keys c es) ≡ 1 + times k (class_keys c es) =
    ap (λ b. cond b 1 0 + times k (class_keys c es)) (eq-eqb e.0 k same) in
    let all = ap (times k) is in omega arith)
    (λ apart.
    let other : eq_by_cmp nat_cmp k e.0 ≡ false = unsigned_tied k e.0 ∙ ne_eqb k e.0 (λ same. apart (sym same)) in
    let later : list_any (eq_by_cmp nat_cmp k) (map (λ (z : ℕ × ℕ). z.0) es) ≡ true =
    sym (later_only (eq_by_cmp nat_cmp k e.0) (list_any (eq_by_cmp nat_cmp k) (map (λ (z : ℕ × ℕ). z.0) es)) other) ∙ there in
    let rest = key_among c k es class later in
    by (e.0 % 64 == c) rest)
  where
    later_only : (a b : Bool) → a ≡ false → (a || b) ≡ b
    later_only true b is = absurd (cc)
    later_only false b is = refl

    by : (b : Bool) → 1 ≤ times k (class_keys c es) → 1 ≤ times k (cond b (e.0 ∷ class_keys c es) (class_keys c es))
    by true rest = omega arith
    by false rest = rest

-- A full class has no key left that is put.
module _ (scripts : List (List Op)) (capacities : List ℕ) (right : AreCapacities scripts capacities) where
  abbrev d : Dictionary
  d = put_keys scripts

  never_full : (m : Dictionary) (key : ℕ) → ((k : ℕ) → finite.contains_key m k ≡ true → finite.contains_key (put_keys scripts) k ≡ true)
      → finite.contains_key (put_keys scripts) key ≡ true
      → finite.get m key ≡ None → HasPairs (key % 64) m (capacity capacities (key % 64)) → ⊥
  never_full m key within put none pairs =
      let c : ℕ = key % 64 in
      let small : key % 64 < 64 = omega arith in
      let room = right.each (key % 64) small in
      let missing : times key pairs.keys ≡ 0 = dite (dec_le 1 (times key pairs.keys))
      (λ there. absurd (let is : true ≡ false = sym ((pairs.there key refl).1 there) ∙ ap is_some none in cc))
      (λ not_there. omega arith) in
      let few = times_length (key ∷ pairs.keys) (class_keys (key % 64) (finite.entries (put_keys scripts))) (λ x. among x missing) in
      let long = length-class_keys (key % 64) (finite.entries (put_keys scripts)) in
      let many = pairs.as_many in
      omega arith
    where
      in_class : (x : ℕ) → x % 64 ≡ key % 64 → finite.contains_key (put_keys scripts) x ≡ true
          → 1 ≤ times x (class_keys (key % 64) (finite.entries (put_keys scripts)))
      in_class x class has = key_among (key % 64) x (finite.entries (put_keys scripts)) class
          (sym (finite.contains_key-keys (put_keys scripts) x) ∙ has)

      among : (x : ℕ) → times key pairs.keys ≡ 0 → times x (key ∷ pairs.keys)
          ≤ times x (class_keys (key % 64) (finite.entries (put_keys scripts)))
      among x missing = dite (ℕ_discrete key x)
          (λ same. subst (λ z. times z (key ∷ pairs.keys) ≤ times z (class_keys (key % 64) (finite.entries (put_keys scripts)))) same
          (let here = times_here key pairs.keys in let has = in_class key refl put in omega arith))
          (λ apart.
          let other = times_other x key pairs.keys apart in
          dite (dec_le 1 (times x pairs.keys))
          (λ there.
          let class : x % 64 ≡ key % 64 = all_times (λ z. z % 64 ≡ key % 64) pairs.keys x pairs.of_class there in
          let has = in_class x class (within x ((pairs.there x class).1 there)) in
          let once = pairs.once x in omega arith)
          (λ not_there. omega arith))

  -- what explains a reply here explains it wherever, if no put is told that no slot is left
  plain_row : (room : Room) (m : Dictionary) (op : Op) (reply : Reply) → ((key value : ℕ) → op ≡ Put key value → reply ≡ Full → ⊥)
      → ExplainsInClasses capacities m op reply → Explains room m op reply
  plain_row room m (Put key value) Full not_full e = absurd (not_full key value refl refl)
  plain_row room m _ New not_full e = e
  plain_row room m _ _ not_full e = e

  module _ (room : Room) (us : List Update) (put : AllByRecursion (λ (u : Update). PutsInto (put_keys scripts) u.op) us) where
    row : (front : ℕ) (op : Op) (reply : Reply) → PutsInto (put_keys scripts) op → ExplainsInClasses capacities (map_at us front) op reply
        → Explains room (map_at us front) op reply
    row front op reply into e = plain_row room (map_at us front) op reply
        (λ key value is full.
        let f : ExplainsInClasses capacities (map_at us front) (Put key value) Full =
        subst (λ (z : Op × Reply). ExplainsInClasses capacities (map_at us front) z.0 z.1) (λ i. (is i, full i)) e in
        let i : PutsInto (put_keys scripts) (Put key value) = subst (PutsInto (put_keys scripts)) is into in
        never_full (map_at us front) key (front_within (put_keys scripts) us front put) i f.0 f.1) e

    line_stands : (before : ℕ) (line : Line) (number : ℕ) → PutsInto (put_keys scripts) line.op
        → MayStandBy (ExplainsInClasses capacities) us before line number → MayStandBy (Explains room) us before line number
    line_stands before line number into may =
        elim (tells_update line.reply) as (λ b. MatchBool b ((number ≡ line.number) × (before < number))
        ((before ≤ number) × (number ≤ length us) × ExplainsInClasses capacities (map_at us number) line.op line.reply)
        → MatchBool b ((number ≡ line.number) × (before < number))
        ((before ≤ number) × (number ≤ length us) × Explains room (map_at us number) line.op line.reply)) [
          | true ↦ λ m. m
          | false ↦ λ m. (m.0, m.1, row number line.op line.reply into m.2)
        ] may

    lines_stand : (before : ℕ) (lines : List Line) (numbers : List ℕ)
        → AllByRecursion (λ (line : Line). PutsInto (put_keys scripts) line.op) lines
        → MayStandBesideBy (ExplainsInClasses capacities) us before lines numbers → MayStandBesideBy (Explains room) us before lines numbers
    lines_stand before [] [] all beside = tt
    lines_stand before (line ∷ lines) (n ∷ numbers) all beside =
        (line_stands before line n all.0 beside.0, lines_stand n lines numbers all.1 beside.1)
    lines_stand before _ _ all beside = absurd beside

    pub all_stand : (lists : List (List Line)) → AllByRecursion
        (AllByRecursion (λ (line : Line). PutsInto (put_keys scripts) line.op)) lists
        → AllByRecursion (λ lines. (numbers : List ℕ) × MayStandBesideBy (ExplainsInClasses capacities) us 0 lines numbers) lists
        → AllByRecursion (CanBeNumbered room us) lists
    all_stand [] into all = tt
    all_stand (lines ∷ lists) into all = ((all.0.0, lines_stand 0 lines all.0.0 into.0 all.0.1), all_stand lists into.1 all.1)

-- ---- the updates are the scripts' operations

module _ (P : Op → Type 0) where
  later_own : (b : Bool) (p : Placed) (ps : List Placed) → AllByRecursion (λ (q : Placed). P q.op) (cond b (p ∷ ps) ps)
      → AllByRecursion (λ (q : Placed). P q.op) ps
  later_own true p ps all = all.1
  later_own false p ps all = all

  pub all_from_own : (n : ℕ) (us : List Update) → ((c : ℕ) → AllByRecursion (λ (q : Placed). P q.op) (own_updates_from n c us))
      → AllByRecursion (λ (u : Update). P u.op) us
  all_from_own n [] each = tt
  all_from_own n (u ∷ us) each = (
    (subst (λ b. AllByRecursion (λ (q : Placed). P q.op)
        (cond b (record { position = n; op = u.op } ∷ own_updates_from (n + 1) u.caller us) (own_updates_from (n + 1) u.caller us)))
        (eq-eqb u.caller u.caller refl) (each u.caller)).0,
    all_from_own (n + 1) us (λ c. later_own (u.caller == c) (record { position = n; op = u.op }) (own_updates_from (n + 1) c us) (each c)),
  )

  pub told_from_lines : (lines : List Line) → AllByRecursion (λ (line : Line). P line.op) lines
      → AllByRecursion (λ (q : Placed). P q.op) (told_updates lines)
  told_from_lines [] all = tt
  told_from_lines (line ∷ lines) all = let rest = told_from_lines lines all.1 in
      elim (tells_update line.reply) as (λ b.
      AllByRecursion (λ (q : Placed). P q.op) (cond b (record { position = line.number; op = line.op } ∷ told_updates lines)
      (told_updates lines))) [
        | true ↦ (all.0, rest)
        | false ↦ rest
      ]

  lines_from_ops : (ops : List Op) (tolds : List Told) → AllByRecursion P ops
      → AllByRecursion (λ (line : Line). P line.op) (told_lines ops tolds)
  lines_from_ops (op ∷ ops) (t ∷ tolds) all = (all.0, lines_from_ops ops tolds all.1)
  lines_from_ops _ _ all = tt

  pub all_lines_from_ops : (scripts : List (List Op)) (tolds : List (List Told)) → AllByRecursion (AllByRecursion P) scripts
      → AllByRecursion (AllByRecursion (λ (line : Line). P line.op)) (all_told_lines scripts tolds)
  all_lines_from_ops (s ∷ ss) (t ∷ ts) all = (lines_from_ops s t all.0, all_lines_from_ops ss ts all.1)
  all_lines_from_ops _ _ all = tt

  pub at_number : (lists : List (List Line)) (i : ℕ) → AllByRecursion (AllByRecursion (λ (line : Line). P line.op)) lists
      → AllByRecursion (λ (line : Line). P line.op) (get_or lists i [])
  at_number [] i all = tt
  at_number (l ∷ ls) zero all = all.0
  at_number (l ∷ ls) (suc i) all = at_number ls i all.1

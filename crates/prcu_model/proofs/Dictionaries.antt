-- Dictionaries: what updates make of them, ordered maps that are read as them, and how many pairs they get.
use Rattle.std.proofs.Common.{◌≡◌, ℕ, true, false, cond, ap, ◌≢◌, Bool, Option, Some, None, is_some, refl, ◌∙◌, eq-eqb, ne_eqb, ◌+◌, ◌<◌, List, [], ◌∷◌, ◌++◌, length, take, get_or, T, IsTrue, sym, subst, ◌≤◌, zero, suc, arith, ◌-◌, ◌*◌, max, leb, eqb, MatchBool, map as list_map, count_by}
use Rattle.prcu_model.specs.declared.operation.Op.TheVariants.{Put, Set, Get, Del}
use Rattle.prcu_model.specs.Dictionary.{Dictionary, updated, key_of, updated_all, map_of, map_at, AreUpdatesFrom, Room, Explains, tells_update, plain_reply, history_with, history_after, history_after_all, plain_history}
use Rattle.std.specs.Ordering.{nat_cmp, eq_by_cmp, is_lt, is_eq, ordering_index, ordering_reverse}
use Rattle.std.specs.Cmp.{nat_cmp_total, unsigned_tied, eq_by_cmp_equiv}
use Rattle.prcu_model.specs.declared.operation.Op.{Op}
use Rattle.std.proofs.lemmas.List.{take_more, get_or-map, length-map, get_or_default, take_all}
use Rattle.prcu_model.specs.declared.operation.Update.{Update}
use Rattle.std.specs.declared.cmp.Ordering.TheVariants.{Less, Equal, Greater}
use Rattle.std.specs.List.{AllByRecursion, slice_get}
use Rattle.std.specs.List.Sorted.{IsStrictlySortedBy, IsPartitionPoint, IsNonDecreasingBy}
use Rattle.std.proofs.lemmas.Map.Keys.{sorted_head, sorted_tail, IsDistinct-from_sorted, below_from_sorted}
use Rattle.std.specs.Map.{keys_of, lookup}
use Rattle.std.specs.BTreeMap.{is_at}
use Rattle.std.proofs.Math.Facts.{and_yes, yes_and}
use Rattle.std.proofs.lemmas.Cmp.{ranked}
use Rattle.std.proofs.lemmas.Option.{slice_get-get_or, get_or_from_slice_get}
use Rattle.std.proofs.lemmas.List.Sorted.{IsNonDecreasingBy-from_default}
use Rattle.std.proofs.lemmas.Map.Entries.{lookup_from_place, lookup_at_gap}
use Rattle.std.proofs.lemmas.Bool.Decides.{nat_tests}
use Rattle.std.proofs.lemmas.Bool.{cond-true, cond-false, false≢true}
use Rattle.std.proofs.lemmas.List.Sums.{sum_by-cons}
use Rattle.prcu_model.specs.declared.operation.Reply.TheVariants.{Full, New, Old}
use Rattle.prcu_model.specs.declared.operation.Told.{Told}
use Rattle.prcu_model.specs.declared.operation.Line.{Line}
use Rattle.prcu_model.specs.Scripts.{is_put, put_count, default_slots_of}
use Rattle.prcu_model.specs.Fronts.{Placed, own_updates, own_updates_from, told_updates, all_told_lines, ops_of, MayStand, MayStandBeside, CanBeNumbered, AreExplained, AreExplainable, LacksFull, StaysWithin}
use Rattle.prcu_model.proofs.ListFacts.{ops_of-all_told_lines}
use Rattle.std.specs.FinMap as finite

-- What each update makes of a dictionary, by whether the key is there.

module _ (m : Dictionary) (key value : ℕ) where
  pub updated-put_absent : finite.contains_key m key ≡ false → updated m (Put key value) ≡ finite.insert m key value
  updated-put_absent absent = ap (λ b. cond b m (finite.insert m key value)) absent

  pub updated-put_present : finite.contains_key m key ≡ true → updated m (Put key value) ≡ m
  updated-put_present present = ap (λ b. cond b m (finite.insert m key value)) present

  pub updated-set_absent : finite.contains_key m key ≡ false → updated m (Set key value) ≡ m
  updated-set_absent absent = ap (λ b. cond b (finite.insert m key value) m) absent

  pub updated-set_present : finite.contains_key m key ≡ true → updated m (Set key value) ≡ finite.insert m key value
  updated-set_present present = ap (λ b. cond b (finite.insert m key value) m) present

-- What keys are worth in a dictionary after an update.

-- what a key is worth after an update: by whether the update is of that key, what its key was worth and what the key was
abbrev pub value_after : Bool → Op → Option ℕ → Option ℕ → Option ℕ
value_after is (Put key value) its was = cond (is_some its) was (cond is (Some value) was)
value_after is (Get key) its was = was
value_after is (Del key) its was = cond is None was
value_after is (Set key value) its was = cond (is_some its) (cond is (Some value) was) was

get_case : (b : Bool) (m n : Dictionary) (q : ℕ) → finite.get (cond b m n) q ≡ cond b (finite.get m q) (finite.get n q)
get_case true m n q = refl
get_case false m n q = refl

pub get-updated : (m : Dictionary) (op : Op) (q : ℕ)
    → finite.get (updated m op) q ≡ value_after (eq_by_cmp nat_cmp q (key_of op)) op (finite.get m (key_of op)) (finite.get m q)
get-updated m (Put key value) q = get_case (finite.contains_key m key) m (finite.insert m key value) q
    ∙ ap (λ v. cond (finite.contains_key m key) (finite.get m q) v) (finite.get-insert nat_cmp_total m key value q)
get-updated m (Get key) q = refl
get-updated m (Del key) q = finite.get-remove nat_cmp_total m key q
get-updated m (Set key value) q = get_case (finite.contains_key m key) (finite.insert m key value) m q
    ∙ ap (λ v. cond (finite.contains_key m key) v (finite.get m q)) (finite.get-insert nat_cmp_total m key value q)

stays : (op : Op) (its was : Option ℕ) → value_after false op its was ≡ was
stays (Put key value) None was = refl
stays (Set key value) None was = refl
stays _ _ was = refl

equal : (q : ℕ) → eq_by_cmp nat_cmp q q ≡ true
equal q = unsigned_tied q q ∙ eq-eqb q q refl

apart : (q key : ℕ) → q ≢ key → eq_by_cmp nat_cmp q key ≡ false
apart q key ne = unsigned_tied q key ∙ ne_eqb q key ne

-- another key's value stays
pub get-updated_other : (m : Dictionary) (op : Op) (q : ℕ) → q ≢ key_of op → finite.get (updated m op) q ≡ finite.get m q
get-updated_other m op q ne =
    get-updated m op q ∙ ap (λ b. value_after b op (finite.get m (key_of op)) (finite.get m q)) (apart q (key_of op) ne)
    ∙ stays op (finite.get m (key_of op)) (finite.get m q)

-- what a key is worth after an update of its own
module _ (m : Dictionary) (key : ℕ) where
  pub get-put : (value : ℕ) → finite.contains_key m key ≡ false → finite.get (updated m (Put key value)) key ≡ Some value
  get-put value absent = get-updated m (Put key value) key
      ∙ (λ i. cond (absent i) (finite.get m key) (cond (equal key i) (Some value) (finite.get m key)))

  pub get-del : finite.get (updated m (Del key)) key ≡ None
  get-del = get-updated m (Del key) key ∙ ap (λ b. cond b None (finite.get m key)) (equal key)

  pub get-set : (value : ℕ) → finite.contains_key m key ≡ true → finite.get (updated m (Set key value)) key ≡ Some value
  get-set value present = get-updated m (Set key value) key
      ∙ (λ i. cond (present i) (cond (equal key i) (Some value) (finite.get m key)) (finite.get m key))

-- How the dictionary goes from one front to the next.

pub updated_all-append : (m : Dictionary) (us vs : List Update) → updated_all m (us ++ vs) ≡ updated_all (updated_all m us) vs
updated_all-append m [] vs = refl
updated_all-append m (u ∷ us) vs = updated_all-append (updated m u.op) us vs

-- a history begins with a history
pub AreUpdatesFrom-front : (m : Dictionary) (us vs : List Update) → AreUpdatesFrom m (us ++ vs) → AreUpdatesFrom m us
AreUpdatesFrom-front m [] vs legal = tt
AreUpdatesFrom-front m (u ∷ us) vs legal = (legal.0, AreUpdatesFrom-front (updated m u.op) us vs legal.1)

-- one update at the end
pub map_of-push : (history : List Update) (u : Update) → map_of (history ++ u ∷ []) ≡ updated (map_of history) u.op
map_of-push history u = updated_all-append finite.empty history (u ∷ [])

-- one front on
pub map_at-next : (history : List Update) (front : ℕ) (u : Update) → front < length history
    → map_at history (front + 1) ≡ updated (map_at history front) (get_or history front u).op
map_at-next history front u below = ap map_of (take_more history front u below) ∙ map_of-push (take front history) (get_or history front u)

-- a dictionary is what its pairs make
pub from_sorted-entries : (m : Dictionary) → finite.from_sorted (finite.entries m) ≡ m
from_sorted-entries m = finite.same_entries_map _ m (finite.entries-from_sorted nat_cmp (finite.entries m) (finite.entries_sorted m))

-- An ordered map's entries, read as a dictionary.

-- entries as an ordered map has them
abbrev Pairs : Type 0
Pairs = List (ℕ × ℕ)

is_sorted-cons : (x v : ℕ) (es : Pairs) → AllByRecursion (λ y. nat_cmp x y ≡ Less) (keys_of es) → T (finite.is_sorted nat_cmp es)
    → T (finite.is_sorted nat_cmp ((x, v) ∷ es))
is_sorted-cons x v [] below sorted = tt
is_sorted-cons x v (e ∷ es) below sorted =
    yes_and _ _ (yes_and _ _ (subst (λ r. T (is_lt r)) (sym below.0) tt)
    (and_yes _ _ (is_sorted-cons x v es below.1 (and_yes _ _ sorted).1)).0) sorted

rising : (es : Pairs) → IsStrictlySortedBy nat_cmp (keys_of es) → T (finite.is_sorted nat_cmp es)
rising [] h = tt
rising (e ∷ es) h = is_sorted-cons e.0 e.1 es (sorted_head nat_cmp e.0 (keys_of es) h) (rising es (sorted_tail nat_cmp e.0 (keys_of es) h))

is_true : (b : Bool) → T b → IsTrue b
is_true true h = refl
is_true false h = absurd h

holds : {b : Bool} → IsTrue b → T b
holds e = subst T (sym e) tt

pub is_sorted-from_ordered : (es : Pairs) → IsStrictlySortedBy nat_cmp (keys_of es) → IsTrue (finite.is_sorted nat_cmp es)
is_sorted-from_ordered es h = is_true _ (rising es h)

find-is-lookup : (q : ℕ) (es : Pairs) → finite.find nat_cmp q es ≡ lookup (is_at (nat_cmp q)) es
find-is-lookup q [] = refl
find-is-lookup q (e ∷ es) = ap (cond (is_eq (nat_cmp q e.0)) (Some e.1)) (find-is-lookup q es)

abbrev pub dictionary : Pairs → Dictionary
dictionary es = finite.from_sorted es

pub get-dictionary : (es : Pairs) → IsTrue (finite.is_sorted nat_cmp es) → (q : ℕ)
    → finite.get (dictionary es) q ≡ lookup (is_at (nat_cmp q)) es
get-dictionary es sorted q = finite.get-from_sorted nat_cmp es q (holds sorted) ∙ find-is-lookup q es

pub entries-dictionary : (es : Pairs) → IsTrue (finite.is_sorted nat_cmp es) → finite.entries (dictionary es) ≡ es
entries-dictionary es sorted = finite.entries-from_sorted nat_cmp es (holds sorted)

pub len-dictionary : (es : Pairs) → IsTrue (finite.is_sorted nat_cmp es) → finite.len (dictionary es) ≡ length es
len-dictionary es sorted = finite.len-entries (dictionary es) ∙ ap length (entries-dictionary es sorted)

pub empty-dictionary : dictionary [] ≡ finite.empty
empty-dictionary = finite.empty_of_len (dictionary []) (len-dictionary [] refl)

-- what a map's entries are after the value at a key was changed to another, or taken out
module _ (es fs : Pairs) (sorted : IsTrue (finite.is_sorted nat_cmp es)) (also_sorted : IsTrue (finite.is_sorted nat_cmp fs))
    (key : ℕ) where
  pub dictionary-inserted : (value : ℕ) → ((q : ℕ)
      → lookup (is_at (nat_cmp q)) fs ≡ cond (is_at (nat_cmp key) q) (Some value) (lookup (is_at (nat_cmp q)) es))
      → dictionary fs ≡ finite.insert (dictionary es) key value
  dictionary-inserted value changed =
      finite.same_map nat_cmp_total finite.nat_cmp-IsAntisymmetric _ _ (λ q.
      get-dictionary fs also_sorted q ∙ changed q
      ∙ ap (λ o. cond (is_at (nat_cmp key) q) (Some value) o) (sym (get-dictionary es sorted q))
      ∙ ap (λ b. cond b (Some value) (finite.get (dictionary es) q)) ((eq_by_cmp_equiv nat_cmp_total).symm key q)
      ∙ sym (finite.get-insert nat_cmp_total (dictionary es) key value q))

  pub dictionary-removed : ((q : ℕ) → lookup (is_at (nat_cmp q)) fs ≡ cond (is_at (nat_cmp key) q) None (lookup (is_at (nat_cmp q)) es))
      → dictionary fs ≡ finite.remove (dictionary es) key
  dictionary-removed changed =
      finite.same_map nat_cmp_total finite.nat_cmp-IsAntisymmetric _ _ (λ q.
      get-dictionary fs also_sorted q ∙ changed q
      ∙ ap (λ o. cond (is_at (nat_cmp key) q) None o) (sym (get-dictionary es sorted q))
      ∙ ap (λ b. cond b None (finite.get (dictionary es) q)) ((eq_by_cmp_equiv nat_cmp_total).symm key q)
      ∙ sym (finite.get-remove nat_cmp_total (dictionary es) key q))

-- whether a key is there, by the entries of a map that is seen as this dictionary
pub contains_key-seen : (es : Pairs) (seen : Dictionary) (key : ℕ) → IsTrue (finite.is_sorted nat_cmp es) → dictionary es ≡ seen
    → (there : Bool) → there ≡ is_some (lookup (is_at (nat_cmp key)) es) → finite.contains_key seen key ≡ there
contains_key-seen es seen key sorted is there found =
    ap (λ m. finite.contains_key m key) (sym is) ∙ ap is_some (get-dictionary es sorted key) ∙ sym found

-- What a binary search among pairs with ascending keys finds.

pub below_from_slice_get : {X : Type 0} (xs : List X) (i : ℕ) (x : X) → slice_get xs i ≡ Some x → i < length xs
below_from_slice_get [] i x e = absurd (cc)
below_from_slice_get (y ∷ xs) zero x e = omega arith
below_from_slice_get (y ∷ xs) (suc i) x e = let h = below_from_slice_get xs i x e in omega arith

module _ (es : List (ℕ × ℕ)) (ordered : IsStrictlySortedBy nat_cmp (keys_of es)) (key : ℕ) where
  keys_rise : (i j : ℕ) → i ≤ j → j < length es → (get_or es i (0, 0)).0 ≤ (get_or es j (0, 0)).0
  keys_rise i j le in_range =
      let at_i = get_or-map (λ e. e.0) es i (0, 0) 0 (omega arith) in
      let at_j = get_or-map (λ e. e.0) es j (0, 0) 0 in_range in
      let below : i < j → get_or (keys_of es) i 0 < get_or (keys_of es) j 0 =
      λ lt. below_from_sorted (keys_of es) i j 0 ordered lt (omega (arith, length-map es (λ e. e.0))) in
      grind (arith, λ (same : i ≡ j). ap (λ k. (get_or es k (0, 0)).0) same)

  pub comparisons_rise : IsNonDecreasingBy (λ e. ordering_index (nat_cmp e.0 key)) es
  comparisons_rise = IsNonDecreasingBy-from_default (λ e. ordering_index (nat_cmp e.0 key)) es (0, 0) (λ i j le in_range.
      let rise = keys_rise i j le in_range in grind (arith, nat_tests))

  -- the value that stands where the key was found is the key's
  pub lookup_found : (i : ℕ) (found : ℕ × ℕ) → i < length es → nat_cmp (get_or es i (0, 0)).0 key ≡ Equal → found ≡ get_or es i found
      → lookup (is_at (nat_cmp key)) es ≡ Some found.1
  lookup_found i found in_range equal read =
      let there : slice_get es i ≡ Some found = slice_get-get_or es i found in_range ∙ ap Some (sym read) in
      let same : found.0 ≡ key = ap (λ e. e.0) read ∙ ap (λ e. e.0) (get_or_default es i found (0, 0) in_range)
      ∙ ranked _ key Equal (sym equal) in
      subst (λ k. lookup (is_at (nat_cmp k)) es ≡ Some found.1) same
      (lookup_from_place (eq_by_cmp_equiv nat_cmp_total) es i found.0 found.1 (IsDistinct-from_sorted nat_cmp (keys_of es) ordered) there)

  -- no key is the one that has a gap
  pub lookup_missing : (i : ℕ) → IsPartitionPoint (λ e. nat_cmp e.0 key ≡ Less) (λ e. nat_cmp e.0 key ≡ Greater) es i → i ≤ length es
      → lookup (is_at (nat_cmp key)) es ≡ None
  lookup_missing i parted in_range =
      lookup_at_gap nat_cmp_total key es i ordered
      (λ j e lt there. nat_cmp_total.antisymm key e.0
      ∙ ap ordering_reverse (ap (λ d. nat_cmp d.0 key) (sym (get_or_from_slice_get es j e (0, 0) there))
      ∙ parted.0 j (0, 0) (omega arith) lt))
      (λ e there. nat_cmp_total.antisymm key e.0 ∙ ap ordering_reverse
      (ap (λ d. nat_cmp d.0 key) (sym (get_or_from_slice_get es i e (0, 0) there))
      ∙ parted.1 i (0, 0) (omega arith) (below_from_slice_get es i e there)))

-- With a slot for each put and twenty for each script, no line says that none was left, and at no front are there more
-- pairs than slots.

len_case : (b : Bool) (n k : ℕ) → cond b n k ≤ max n k
len_case true n k = omega arith
len_case false n k = omega arith

-- an update adds a pair at most, and only a put adds one
pub len-updated : (m : Dictionary) (op : Op) → finite.len (updated m op) ≤ finite.len m + cond (is_put op) 1 0
len-updated m (Put key value) =
    elim (finite.contains_key m key) as (λ b. finite.contains_key m key ≡ b → finite.len (cond b m (finite.insert m key value)) ≤ finite.len m + 1) [
      | true ↦ λ e. omega arith
      | false ↦ λ e. let l = finite.len-insert nat_cmp_total m key value ∙ ap (λ b. cond b (finite.len m) (finite.len m + 1)) e in omega (arith, l)
    ] refl
len-updated m (Get key) = omega arith
len-updated m (Del key) =
    let l = finite.len-remove nat_cmp_total m key in
    let c = len_case (finite.contains_key m key) (finite.len m - 1) (finite.len m) in
    omega (arith, l, c)
len-updated m (Set key value) =
    elim (finite.contains_key m key) as (λ b. finite.contains_key m key ≡ b → finite.len (cond b (finite.insert m key value) m) ≤ finite.len m + 0) [
      | true ↦ λ e. let l = finite.len-insert nat_cmp_total m key value ∙ ap (λ b. cond b (finite.len m) (finite.len m + 1)) e in omega (arith, l)
      | false ↦ λ e. omega arith
    ] refl

-- the puts among updates
abbrev update_puts : List Update → ℕ
update_puts [] = 0
update_puts (u ∷ us) = cond (is_put u.op) 1 0 + update_puts us

len-at_front : (m : Dictionary) (us : List Update) (front : ℕ) → finite.len (updated_all m (take front us)) ≤ finite.len m + update_puts us
len-at_front m [] zero = omega arith
len-at_front m (u ∷ us) (suc front) =
    let one = len-updated m u.op in
    let rest = len-at_front (updated m u.op) us front in
    omega (arith, one, rest)
len-at_front m _ _ = omega arith

-- the puts of the callers from this one on
abbrev puts_from : ℕ → List Update → ℕ
puts_from caller [] = 0
puts_from caller (u ∷ us) = cond (leb caller u.caller) (cond (is_put u.op) 1 0) 0 + puts_from caller us

abbrev placed_puts : List Placed → ℕ
placed_puts [] = 0
placed_puts (p ∷ ps) = cond (is_put p.op) 1 0 + placed_puts ps

puts_from_all : (us : List Update) → puts_from 0 us ≡ update_puts us
puts_from_all [] = refl
puts_from_all (u ∷ us) =
    let below : leb 0 u.caller ≡ true = grind (arith, nat_tests) in
    let here = cond-true (leb 0 u.caller) (cond {A = ℕ} (is_put u.op) 1 0) 0 below in
    let rest = puts_from_all us in
    omega (arith, here, rest)

split_case : (b c d : Bool) (later : ℕ) (p : Placed) (ps : List Placed) (rest : ℕ) → cond b 1 0 ≡ cond c 1 0 + cond d 1 0
    → rest ≡ placed_puts ps + later → cond b (cond (is_put p.op) 1 0) 0 + rest
    ≡ placed_puts (cond c (p ∷ ps) ps) + (cond d (cond (is_put p.op) 1 0) 0 + later)
split_case true true false later p ps rest e more = omega (arith, more)
split_case true false true later p ps rest e more = omega (arith, more)
split_case false false false later p ps rest e more = omega (arith, more)
split_case _ _ _ later p ps rest e more = absurd (omega (arith, e))

one_caller : (n caller : ℕ) → cond (leb caller n) 1 0 ≡ cond (eqb n caller) 1 0 + cond (leb (caller + 1) n) 1 0
one_caller n caller = grind (arith, nat_tests)

-- a caller's puts and those of the later callers
puts_from-next : (position caller : ℕ) (us : List Update)
    → puts_from caller us ≡ placed_puts (own_updates_from position caller us) + puts_from (caller + 1) us
puts_from-next position caller [] = refl
puts_from-next position caller (u ∷ us) =
    split_case (leb caller u.caller) (eqb u.caller caller) (leb (caller + 1) u.caller) (puts_from (caller + 1) us)
    (record { position = position; op = u.op })
    (own_updates_from (position + 1) caller us) (puts_from caller us) (one_caller u.caller caller) (puts_from-next (position + 1) caller us)

head_none : (b : Bool) (p : Placed) (ps : List Placed) → cond b (p ∷ ps) ps ≡ [] → (b ≡ false) × (ps ≡ [])
head_none true p ps none = absurd (cc)
head_none false p ps none = (refl, none)

-- no put is of a caller that has no update
puts_from-none : (us : List Update) (position caller : ℕ) → ((k : ℕ) → own_updates_from position (caller + k) us ≡ [])
    → puts_from caller us ≡ 0
puts_from-none [] position caller none = refl
puts_from-none (u ∷ us) position caller none =
    let rest = puts_from-none us (position + 1) caller
    (λ k. (head_none (eqb u.caller (caller + k)) (record { position = position; op = u.op })
    (own_updates_from (position + 1) (caller + k) us) (none k)).1) in
    let other = (head_none (eqb u.caller (caller + (u.caller - caller))) (record { position = position; op = u.op })
    (own_updates_from (position + 1) (caller + (u.caller - caller)) us) (none (u.caller - caller))).0 in
    let early : leb caller u.caller ≡ false = grind (arith, nat_tests, other) in
    let here = cond-false (leb caller u.caller) (cond {A = ℕ} (is_put u.op) 1 0) 0 early in
    omega (arith, here, rest)

-- the puts that lines tell of are among their operations
told_puts : (lines : List Line) → placed_puts (told_updates lines) ≤ count_by is_put (ops_of lines)
told_puts [] = omega arith
told_puts (line ∷ lines) =
    let rest = told_puts lines in
    let more = sum_by-cons (λ o. cond (is_put o) 1 0) line.op (ops_of lines) in
    elim (tells_update line.reply) as (λ b. placed_puts
    (cond b (record { position = line.number; op = line.op } ∷ told_updates lines) (told_updates lines))
    ≤ count_by is_put (ops_of (line ∷ lines))) [
      | true ↦ omega (arith, rest, more)
      | false ↦ omega (arith, rest, more)
    ]

puts_from-lists : (history : List Update) (lists : List (List Line)) (caller : ℕ)
    → ((k : ℕ) → own_updates (caller + k) history ≡ told_updates (get_or lists k []))
    → puts_from caller history ≤ put_count (list_map ops_of lists)
puts_from-lists history [] caller updates = let none = puts_from-none history 1 caller updates in omega (arith, none)
puts_from-lists history (lines ∷ lists) caller updates =
    let split = puts_from-next 1 caller history in
    let first : own_updates caller history ≡ told_updates lines = ap (λ n. own_updates n history) (omega arith) ∙ updates 0 in
    let here = ap placed_puts first in
    let told = told_puts lines in
    let rest = puts_from-lists history lists (caller + 1) (λ k. ap (λ n. own_updates n history) (omega arith) ∙ updates (suc k)) in
    omega (arith, split, here, told, rest, sum_by-cons (count_by is_put) (ops_of lines) (list_map ops_of lists))

-- no dictionary of the history has more pairs than there are puts
pub len-le-put_count : (room : Room) (history : List Update) (lists : List (List Line)) → AreExplained room history lists → (front : ℕ)
    → finite.len (map_at history front) ≤ put_count (list_map ops_of lists)
len-le-put_count room history lists explained front =
    let puts = puts_from-lists history lists 0 (λ k. ap (λ n. own_updates n history) (omega arith) ∙ explained.updates k) in
    let all = puts_from_all history in
    let size = len-at_front finite.empty history front in
    let none = finite.len-empty nat_cmp ℕ in
    omega (arith, size, none, puts, all)

-- Where no dictionary of the history comes near the slots.
module _ (room : Room) (history : List Update)
    (roomy : (front : ℕ) → finite.len (map_at history front) + 20 * (room.scripts - 1) < room.slots) where
  fills : (op : Op) (m : Dictionary) → Explains room m op Full → room.slots ≤ finite.len m + 20 * (room.scripts - 1)
  fills (Put key value) m e = e
  fills _ m e = absurd e

  lacks_line : (before : ℕ) (line : Line) (number : ℕ) → MayStand room history before line number → line.reply ≡ Full → ⊥
  lacks_line before line number may full =
      let stands = subst (λ r. MatchBool (tells_update r) ((number ≡ line.number) × (before < number))
      ((before ≤ number) × (number ≤ length history) × Explains room (map_at history number) line.op r)) full may in
      let near = fills line.op (map_at history number) stands.2 in
      absurd (omega (arith, near, roomy number))

  lacks_lines : (before : ℕ) (lines : List Line) (numbers : List ℕ) → MayStandBeside room history before lines numbers
      → AllByRecursion (λ line. line.reply ≡ Full → ⊥) lines
  lacks_lines before [] numbers beside = tt
  lacks_lines before (line ∷ lines) [] beside = absurd beside
  lacks_lines before (line ∷ lines) (number ∷ numbers) beside =
      (lacks_line before line number beside.0, lacks_lines number lines numbers beside.1)

  lacks_all : (lists : List (List Line)) → AllByRecursion (CanBeNumbered room history) lists → LacksFull lists
  lacks_all [] fronts = tt
  lacks_all (lines ∷ lists) fronts = (lacks_lines 0 lines fronts.0.0 fronts.0.1, lacks_all lists fronts.1)

-- more slots than puts, with twenty for each other script
pub LacksFull-from_slots : (room : Room) (history : List Update) (lists : List (List Line))
    → put_count (list_map ops_of lists) + 20 * (room.scripts - 1) < room.slots → AreExplained room history lists → LacksFull lists
LacksFull-from_slots room history lists enough explained =
    lacks_all room history
    (λ front. let few = len-le-put_count room history lists explained front in omega (arith, few, enough))
    lists explained.fronts

enough_slots : (scripts : List (List Op)) → put_count scripts + 20 * (length scripts - 1) < default_slots_of scripts
enough_slots [] = omega arith
enough_slots (script ∷ scripts) = omega arith

-- the default slots, whatever number of slots the lines were explained with
pub StaysWithin-from_explained : (room : Room) (history : List Update) (lists : List (List Line)) → AreExplained room history lists
    → StaysWithin history (default_slots_of (list_map ops_of lists))
StaysWithin-from_explained room history lists explained front _ =
    let few = len-le-put_count room history lists explained front in
    let enough = enough_slots (list_map ops_of lists) in
    omega (arith, few, enough)

pub LacksFull-from_explained : (history : List Update) (lists : List (List Line))
    → AreExplained (record { scripts = length lists; slots = default_slots_of (list_map ops_of lists) }) history lists → LacksFull lists
LacksFull-from_explained history lists explained =
    LacksFull-from_slots (record { scripts = length lists; slots = default_slots_of (list_map ops_of lists) }) history lists
    (let enough = enough_slots (list_map ops_of lists) in omega (arith, enough, length-map lists ops_of)) explained

pub LacksFull-from_explainable : (scripts : List (List Op)) (tolds : List (List Told)) (history : List Update)
    → AreExplainable scripts tolds history (default_slots_of scripts) → LacksFull (all_told_lines scripts tolds)
LacksFull-from_explainable scripts tolds history able =
    let ops = ops_of-all_told_lines scripts tolds able.lengths in
    let enough = enough_slots scripts in
    LacksFull-from_slots (record { scripts = length scripts; slots = default_slots_of scripts }) history (all_told_lines scripts tolds)
    (omega (arith, enough, ap put_count ops)) able.explained

-- Scripts run one after another on a plain map with a limit: at no front are there more pairs than the limit.

module _ (most : ℕ) where
  -- a put adds its pair only below the limit
  below_limit : (m : Dictionary) (key value : ℕ) → tells_update (plain_reply (Some most) m (Put key value)) ≡ true → finite.len m + 1 ≤ most
  below_limit m key value =
      elim (finite.contains_key m key) as (λ b. tells_update (cond b Old (cond (leb most (finite.len m)) Full New)) ≡ true
      → finite.len m + 1 ≤ most) [
        | true ↦ λ tells. absurd (false≢true tells)
        | false ↦
            elim (leb most (finite.len m)) as (λ f. leb most (finite.len m) ≡ f → tells_update (cond f Full New) ≡ true → finite.len m + 1 ≤ most) [
              | true ↦ λ filled tells. absurd (false≢true tells)
              | false ↦ λ filled _. grind (arith, nat_tests)
            ] refl
      ]

  -- an update that is told keeps to the limit
  keeps_limit : (m : Dictionary) (op : Op) → finite.len m ≤ most → tells_update (plain_reply (Some most) m op) ≡ true
      → finite.len (updated m op) ≤ most
  keeps_limit m (Put key value) fits tells =
      let one = len-updated m (Put key value) in
      let below = below_limit m key value tells in
      omega (arith, one, below)
  keeps_limit m (Get key) fits tells = fits
  keeps_limit m (Del key) fits tells = let same = len-updated m (Del key) in omega (arith, same)
  keeps_limit m (Set key value) fits tells = let same = len-updated m (Set key value) in omega (arith, same)

  -- one update at the end: the fronts of the longer list are those of the shorter, and the whole
  each_front : (m : Dictionary) (us : List Update) (u : Update) → ((front : ℕ) → finite.len (updated_all m (take front us)) ≤ most)
      → finite.len (updated (updated_all m us) u.op) ≤ most → (front : ℕ) → finite.len (updated_all m (take front (us ++ u ∷ []))) ≤ most
  each_front m [] u fits last zero = fits 0
  each_front m [] u fits last (suc zero) = last
  each_front m [] u fits last (suc (suc front)) = last
  each_front m (v ∷ us) u fits last zero = fits 0
  each_front m (v ∷ us) u fits last (suc front) = each_front (updated m v.op) us u (λ f. fits (suc f)) last front

  -- at each front, and past the last one as there
  abbrev Fits : List Update → Type 0
  Fits history = (front : ℕ) → finite.len (map_at history front) ≤ most

  Fits-none : Fits []
  Fits-none zero = let none = finite.len-empty nat_cmp ℕ in omega (arith, none)
  Fits-none (suc front) = let none = finite.len-empty nat_cmp ℕ in omega (arith, none)

  Fits-whole : (history : List Update) → Fits history → finite.len (map_of history) ≤ most
  Fits-whole history fits = subst (λ us. finite.len (map_of us) ≤ most) (take_all (length history) history (omega arith))
      (fits (length history))

  Fits-with : (history : List Update) (caller : ℕ) (op : Op) → Fits history → Fits (history_with (Some most) history caller op)
  Fits-with history caller op fits =
      let u : Update = record { caller = caller; op = op } in
      elim (tells_update (plain_reply (Some most) (map_of history) op)) as (λ b. tells_update (plain_reply (Some most) (map_of history) op)
      ≡ b → Fits (cond b (history ++ u ∷ []) history)) [
        | true ↦ λ tells. each_front finite.empty history u fits (keeps_limit (map_of history) op (Fits-whole history fits) tells)
        | false ↦ λ _. fits
      ] refl

  Fits-after : (history : List Update) (caller : ℕ) (script : List Op) → Fits history
      → Fits (history_after (Some most) history caller script)
  Fits-after history caller [] fits = fits
  Fits-after history caller (op ∷ ops) fits = Fits-after (history_with (Some most) history caller op) caller ops
      (Fits-with history caller op fits)

  Fits-after_all : (history : List Update) (caller : ℕ) (scripts : List (List Op)) → Fits history
      → Fits (history_after_all (Some most) history caller scripts)
  Fits-after_all history caller [] fits = fits
  Fits-after_all history caller (script ∷ scripts) fits =
      Fits-after_all (history_after (Some most) history caller script) (caller + 1) scripts (Fits-after history caller script fits)

  pub plain-StaysWithin : (scripts : List (List Op)) → StaysWithin (plain_history (Some most) scripts) most
  plain-StaysWithin scripts front _ = Fits-after_all [] 0 scripts Fits-none front

-- Lists: their beginnings, scripts with one more operation, and what scripts were told.
use Rattle.std.proofs.Common.{◌≡◌, ◌≤◌, List, [], ◌∷◌, ◌++◌, length, refl, sym, ap, ◌∙◌, append_assoc, arith, ℕ, zero, suc, ◌+◌, ◌-◌, ◌<◌, get_or, set, count_by, cond, length-append, drop, map, Some}
use Rattle.std.specs.List.{AllByRecursion, slice_get}
use mathlib.Core.List.{IsPrefix}
use Rattle.std.proofs.lemmas.List.{map-set, get_or-map, length-map, set-get_or, drop_more}
use Rattle.std.proofs.lemmas.List.Sums.{sum_by-set, sum_by_push, sum_by-le-sum_by, count_by-le-length, get_or-le-sum_by, sum_by-append}
use Rattle.std.specs.Global.{Vec}
use Rattle.prcu_model.specs.declared.operation.Op.{Op}
use Rattle.prcu_model.specs.Scripts.{with_op, op_count, put_count, is_put, items_of, FitsWords, AllFit, Roomy, entries_of}
use Rattle.std.proofs.lemmas.Option.{get_or_from_slice_get, slice_get_within}
use Rattle.prcu_model.specs.declared.operation.Told.{Told}
use Rattle.prcu_model.specs.Fronts.{ops_of, told_lines, all_told_lines}

-- Beginnings of lists, and facts of all elements.

module _ {A : Type 0} where
  pub prefix_self : (xs : List A) → IsPrefix xs xs
  prefix_self [] = ([], refl)
  prefix_self (x ∷ xs) = let r = prefix_self xs in (r.0, ap (λ ys. x ∷ ys) r.1)

  pub prefix_more : (xs ys zs : List A) → IsPrefix xs ys → IsPrefix xs (ys ++ zs)
  prefix_more xs ys zs p = (p.0 ++ zs, sym (append_assoc xs p.0 zs) ∙ ap (λ w. w ++ zs) p.1)

  pub prefix_trans : (xs ys zs : List A) → IsPrefix xs ys → IsPrefix ys zs → IsPrefix xs zs
  prefix_trans xs ys zs p q = (p.0 ++ q.0, sym (append_assoc xs p.0 q.0) ∙ ap (λ w. w ++ q.0) p.1 ∙ q.1)

  -- the shorter of two beginnings of a list begins the longer
  pub prefix_of_longer : (xs ys zs : List A) → IsPrefix xs zs → IsPrefix ys zs → length xs ≤ length ys → IsPrefix xs ys
  prefix_of_longer [] ys zs p q less = (ys, refl)
  prefix_of_longer (x ∷ xs) [] zs p q less = absurd (omega arith)
  prefix_of_longer (x ∷ xs) (y ∷ ys) [] p q less = absurd (let e = p.1 in cc)
  prefix_of_longer (x ∷ xs) (y ∷ ys) (z ∷ zs) p q less =
      let head : x ≡ y = (let a = p.1 in let b = q.1 in cc) in
      let r = prefix_of_longer xs ys zs (p.0, (let e = p.1 in cc)) (q.0, (let e = q.1 in cc)) (omega arith) in
      (r.0, (λ i. head i ∷ r.1 i))

  -- a fact of all elements that follows from another
  pub all_map : (P Q : A → Type 0) (xs : List A) → ((x : A) → P x → Q x) → AllByRecursion P xs → AllByRecursion Q xs
  all_map P Q [] f all = tt
  all_map P Q (x ∷ xs) f all = (f x all.0, all_map P Q xs f all.1)

  pub all_append : (P : A → Type 0) (xs ys : List A) → AllByRecursion P xs → AllByRecursion P ys → AllByRecursion P (xs ++ ys)
  all_append P [] ys p q = q
  all_append P (x ∷ xs) ys p q = (p.0, all_append P xs ys p.1 q)

  pub all_front : (P : A → Type 0) (xs ys : List A) → AllByRecursion P (xs ++ ys) → AllByRecursion P xs
  all_front P [] ys all = tt
  all_front P (x ∷ xs) ys all = (all.0, all_front P xs ys all.1)

  pub all_back : (P : A → Type 0) (xs ys : List A) → AllByRecursion P (xs ++ ys) → AllByRecursion P ys
  all_back P [] ys all = all
  all_back P (x ∷ xs) ys all = all_back P xs ys all.1

-- An operation that is added to the last script: where it goes, and what the counts are then.

-- an operation goes to the last script
pub with_op-last : (before : List (List Op)) (script : List Op) (op : Op)
    → with_op (before ++ script ∷ []) op ≡ before ++ (script ++ op ∷ []) ∷ []
with_op-last [] script op = refl
with_op-last (s ∷ []) script op = refl
with_op-last (s ∷ t ∷ before) script op = ap (λ x. s ∷ x) (with_op-last (t ∷ before) script op)

pub op_count-last : (before : List (List Op)) (script : List Op) → op_count (before ++ script ∷ []) ≡ op_count before + length script
op_count-last before script = omega (arith, sum_by-append length before (script ∷ []))

pub with_op-set : (scripts : List (List Op)) (last : ℕ) (op : Op) → length scripts ≡ last + 1
    → with_op scripts op ≡ set scripts last (get_or scripts last [] ++ op ∷ [])
with_op-set (s ∷ []) zero op e = refl
with_op-set (s ∷ t ∷ scripts) (suc last) op e = ap (λ x. s ∷ x) (with_op-set (t ∷ scripts) last op (omega (arith, e)))
with_op-set _ _ op e = absurd (omega (arith, e))

pub length-with_op : (scripts : List (List Op)) (op : Op) → length (with_op scripts op) ≡ length scripts
length-with_op [] op = refl
length-with_op (s ∷ []) op = refl
length-with_op (s ∷ t ∷ scripts) op = ap suc (length-with_op (t ∷ scripts) op)

module _ (scripts : List (List Op)) (last : ℕ) (op : Op) (is_last : length scripts ≡ last + 1) where
  pub op_count-with_op : op_count (with_op scripts op) ≡ op_count scripts + 1
  op_count-with_op =
      let below : last < length scripts = omega (arith, is_last) in
      let counted = sum_by-set length scripts last (get_or scripts last [] ++ op ∷ []) [] below in
      ap op_count (with_op-set scripts last op is_last) ∙ omega (arith, counted, length-append (get_or scripts last []) (op ∷ []))

  pub put_count-with_op : put_count (with_op scripts op) ≡ put_count scripts + cond (is_put op) 1 0
  put_count-with_op =
      let below : last < length scripts = omega (arith, is_last) in
      let counted = sum_by-set (count_by is_put) scripts last (get_or scripts last [] ++ op ∷ []) [] below in
      ap put_count (with_op-set scripts last op is_last)
      ∙ omega (arith, counted, sum_by_push (λ o. cond (is_put o) 1 0) (get_or scripts last []) op)

-- the last list with the operation at its end
pub items_of-set : (lists : List (Vec Op)) (last : ℕ) (list : Vec Op) (before : Vec Op) (op : Op) → length lists ≡ last + 1
    → before ≡ get_or lists last before → list.items ≡ before.items ++ op ∷ []
    → items_of (set lists last list) ≡ with_op (items_of lists) op
items_of-set lists last list before op is_last was added =
    let below : last < length lists = omega (arith, is_last) in
    let e : get_or (items_of lists) last [] ≡ before.items =
    get_or-map (λ l. l.items) lists last before [] below ∙ ap (λ l. l.items) (sym was) in
    map-set (λ l. l.items) lists last list ∙ ap (set (items_of lists) last) (added ∙ ap (λ x. x ++ op ∷ []) (sym e))
    ∙ sym (with_op-set (items_of lists) last op (length-map lists (λ l. l.items) ∙ is_last))

-- the last list with the same items
pub items_of-set_same : (lists : List (Vec Op)) (last : ℕ) (list : Vec Op) (before : Vec Op) → last < length lists
    → before ≡ get_or lists last before → list.items ≡ before.items → items_of (set lists last list) ≡ items_of lists
items_of-set_same lists last list before below was same =
    let e : get_or (items_of lists) last [] ≡ before.items =
    get_or-map (λ l. l.items) lists last before [] below ∙ ap (λ l. l.items) (sym was) in
    map-set (λ l. l.items) lists last list ∙ ap (set (items_of lists) last) (same ∙ sym e) ∙ set-get_or (items_of lists) last []

pub put_count-le-op_count : (scripts : List (List Op)) → put_count scripts ≤ op_count scripts
put_count-le-op_count scripts = sum_by-le-sum_by (count_by is_put) length scripts (count_by-le-length is_put)

-- the counts after an operation was added, and the limits
pub record CountsWith (now : List (List Op)) (o p : ℕ) : Type 0 where
  pub few_scripts : length now ≤ 64
  pub few_ops : op_count now ≤ 1048576
  pub ops : o ≡ op_count now
  pub puts : p ≡ put_count now
  pub fits : AllFit now

AllFit-with_op : (scripts : List (List Op)) (op : Op) → AllFit scripts → FitsWords op → AllFit (with_op scripts op)
AllFit-with_op [] op all fits = tt
AllFit-with_op (s ∷ []) op all fits = (fits-push s op all.0 fits, tt)
  where
    fits-push : (ops : List Op) (op : Op) → AllByRecursion FitsWords ops → FitsWords op → AllByRecursion FitsWords (ops ++ op ∷ [])
    fits-push [] op all fits = (fits, tt)
    fits-push (o ∷ ops) op all fits = (all.0, fits-push ops op all.1 fits)
AllFit-with_op (s ∷ t ∷ scripts) op all fits = (all.0, AllFit-with_op (t ∷ scripts) op all.1 fits)

pub counts-with_op : (before now : List (List Op)) (op : Op) (ops puts : ℕ) → now ≡ with_op before op → 0 < length before
    → length before ≤ 64 → op_count before < 1048576 → ops ≡ op_count before → puts ≡ put_count before → AllFit before → FitsWords op
    → CountsWith now (ops + 1) (puts + cond (is_put op) 1 0)
counts-with_op before now op ops puts e some few room is_ops is_puts all fits =
    let is_last : length before ≡ (length before - 1) + 1 = omega arith in
    let l = length-with_op before op in
    let o = op_count-with_op before _ op is_last in
    let p = put_count-with_op before _ op is_last in
    rw e (record {
      few_scripts = omega arith;
      few_ops = omega arith;
      ops = omega arith;
      puts = omega arith;
      fits = AllFit-with_op before op all fits;
    })

-- a script is no longer than all of them
pub length-le-op_count : (lists : List (Vec Op)) (i : ℕ) (list : Vec Op) → i < length lists → list ≡ get_or lists i list
    → length list.items ≤ op_count (items_of lists)
length-le-op_count lists i list below there =
    let one = get_or-le-sum_by length (items_of lists) i [] (omega (arith, length-map lists (λ l. l.items))) in
    let same : get_or (items_of lists) i [] ≡ list.items =
    get_or-map (λ l. l.items) lists i list [] below ∙ ap (λ l. l.items) (sym there) in
    omega (arith, one, ap length same)

-- What scripts were told, beside their operations, one script after another.

-- what is left of a list, from an element on
pub drop-read : {X : Type 0} (xs : List X) (i : ℕ) (x : X) → i < length xs → x ≡ get_or xs i x → drop i xs ≡ x ∷ drop (i + 1) xs
drop-read xs i x below is = drop_more xs i x below ∙ ap (λ y. y ∷ drop (i + 1) xs) (sym is)

pub drop-there : {X : Type 0} (xs : List X) (i : ℕ) (x : X) → slice_get xs i ≡ Some x → drop i xs ≡ x ∷ drop (i + 1) xs
drop-there xs i x there = drop-read xs i x (slice_get_within xs i x there) (sym (get_or_from_slice_get xs i x x there))

-- how many operations and answers the scripts have that are left
abbrev pub SameLengths : List (List Op) → List (Roomy Told) → ℕ → Type 0
SameLengths scripts told i = map length (entries_of (drop i told)) ≡ map length (drop i scripts)

module _ (scripts : List (List Op)) (told : List (Roomy Told)) (i : ℕ) (script : List Op) (list : Roomy Told)
    (there : slice_get scripts i ≡ Some script) (below : i < length told) (is : list ≡ get_or told i list) where
  lengths-turn : SameLengths scripts told i → length list.entries ∷ map length (entries_of (drop (i + 1) told)) ≡ length script
      ∷ map length (drop (i + 1) scripts)
  lengths-turn same = rw (drop-there scripts i script there, drop-read told i list below is) at same

  pub same_length : SameLengths scripts told i → length list.entries ≡ length script
  same_length same = let both = lengths-turn same in cc

  pub SameLengths-next : SameLengths scripts told i → SameLengths scripts told (i + 1)
  SameLengths-next same = let both = lengths-turn same in cc

pub same_count : (scripts : List (List Op)) (told : List (Roomy Told)) → map length (entries_of told) ≡ map length scripts
    → length told ≡ length scripts
same_count scripts told same =
    sym (length-map told (λ list. list.entries)) ∙ sym (length-map (entries_of told) length) ∙ ap length same ∙ length-map scripts length

-- the operations of told lines, where each operation is answered
pub ops_of-told_lines : (ops : List Op) (tolds : List Told) → length tolds ≡ length ops → ops_of (told_lines ops tolds) ≡ ops
ops_of-told_lines [] tolds same = refl
ops_of-told_lines (op ∷ ops) [] same = absurd (omega (arith, same))
ops_of-told_lines (op ∷ ops) (told ∷ tolds) same = ap (λ xs. op ∷ xs) (ops_of-told_lines ops tolds (omega (arith, same)))

pub ops_of-all_told_lines : (scripts : List (List Op)) (tolds : List (List Told)) → map length tolds ≡ map length scripts
    → map ops_of (all_told_lines scripts tolds) ≡ scripts
ops_of-all_told_lines [] tolds same = refl
ops_of-all_told_lines (script ∷ scripts) [] same = absurd (cc)
ops_of-all_told_lines (script ∷ scripts) (told ∷ tolds) same =
    let head : length told ≡ length script = cc in
    let tail : map length tolds ≡ map length scripts = cc in
    λ i. ops_of-told_lines script told head i ∷ ops_of-all_told_lines scripts tolds tail i

-- no answers tell no lines
pub told_lines-none : (ops : List Op) → told_lines ops [] ≡ []
told_lines-none [] = refl
told_lines-none (op ∷ ops) = refl

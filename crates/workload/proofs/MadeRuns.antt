-- Made workloads: their operations, keys and sums, and that whatever history explains one comes to the same.
use Rattle.std.proofs.Common.{◌≡◌, ℕ, ◌+◌, ◌^◌, ◌<◌, ◌≤◌, Bool, List, [], ◌∷◌, length, take, get_or, map, sum, sum_by, count_by, sym, ap, ◌∙◌, arith, zero, suc, ◌-◌, ◌*◌, ◌%◌, ◌++◌, refl, append_assoc, length-append, true, false, cond, eqb, ltb, T, Option, Some, None, ◌⊎◌, inl, inr, subst}
use Rattle.std.proofs.lemmas.List.{take-map, length-map, get_or-map, append-nil, take_all}
use Rattle.std.proofs.lemmas.List.Sums.{sum_by-cons, sum_by_more_le, count_by-le-length, sum-map}
use Rattle.prcu_model.specs.declared.operation.Op.{Op}
use Rattle.prcu_model.specs.declared.operation.Reply.{Reply}
use Rattle.prcu_model.specs.declared.operation.Told.{Told}
use Rattle.prcu_model.specs.Scripts.{Roomy, entries_of, op_count, with_op, put_count, default_slots_of}
use Rattle.workload.specs.Summaries.{is_new, is_old, is_val, is_absent, is_gone, replies_of, reply_count, counts_of, HasRoom, key_sum, value_sum, summary_with, plain_summary}
use Rattle.std.specs.List.{range_with_len, AllByRecursion, All}
use Rattle.std.proofs.lemmas.List.FromFn.{map-range_with_len_more, length-map-range_with_len}
use Rattle.prcu_model.proofs.ListFacts.{with_op-last, op_count-last, put_count-le-op_count, ops_of-all_told_lines}
use Rattle.workload.specs.Draws.{made_op, made_ops, made_script, made_scripts, next_state, drawn, IsMade}
use Rattle.prcu_model.specs.declared.operation.Op.TheVariants.{Put, Get, Del, Set}
use Rattle.workload.proofs.OwnKeys.{AllOps, IsOwn, ops-of-history, ArePlain, ArePlain-from_explainable}
use Rattle.prcu_model.specs.Dictionary.{key_of, Dictionary, updated, updated_all, map_of, map_at, IsLegal, Room}
use Rattle.std.specs.FinMap.Entries.{find, below_all, is_sorted}
use Rattle.std.specs.Ordering.{nat_cmp, is_eq, is_lt, eq_by_cmp}
use Rattle.std.specs.declared.cmp.Ordering.TheVariants.{Less, Equal, Greater}
use Rattle.std.specs.Cmp.{nat_cmp_total, tied_itself}
use Rattle.std.proofs.Math.Facts.{and_yes}
use Rattle.prcu_model.specs.declared.operation.Update.{Update}
use Rattle.prcu_model.proofs.Dictionaries.{value_after, get-updated, len-le-put_count}
use Rattle.prcu_model.specs.Fronts.{all_told_lines, AreExplainable}
use Rattle.workload.specs.declared.summing.Summary.{Summary}
use Rattle.std.specs.FinMap as finite

-- Counts of replies, and how high they go.

-- there are no more replies of a name than entries
reply_count-le : (passes : Reply → Bool) (tolds : List (List Told)) → reply_count passes tolds ≤ sum_by length tolds
reply_count-le passes [] = omega arith
reply_count-le passes (told ∷ tolds) =
    let rest = reply_count-le passes tolds in
    let here = count_by-le-length passes (map (λ t. t.reply) told) in
    let same = length-map told (λ t. t.reply) in
    omega (
      arith,
      rest,
      here,
      same,
      sum_by-cons (count_by passes) (map (λ t. t.reply) told) (replies_of tolds),
      sum_by-cons length told tolds,
    )

pub HasRoom-list : (told : List (Roomy Told)) (i : ℕ) (list : Roomy Told) → i < length told → list ≡ get_or told i list
    → sum_by length (entries_of told) < 2 ^ 64 → HasRoom (counts_of (entries_of (take i told))) (length list.entries)
HasRoom-list told i list below is few =
    let there : get_or (entries_of told) i [] ≡ list.entries =
    get_or-map (λ l. l.entries) told i list [] below ∙ ap (λ l. l.entries) (sym is) in
    let count = length-map told (λ l. l.entries) in
    let more = sum_by_more_le length (entries_of told) i [] (omega (arith, below, count)) in
    let front = ap (λ ls. sum_by length ls) (take-map (λ l. l.entries) i told) in
    let lasts = ap length there in
    let most : sum_by length (entries_of (take i told)) + length list.entries < 2 ^ 64 = omega (arith, more, front, lasts, few) in
    record {
      added = omega (arith, most, reply_count-le is_new (entries_of (take i told)));
      present = omega (arith, most, reply_count-le is_old (entries_of (take i told)));
      valued = omega (arith, most, reply_count-le is_val (entries_of (take i told)));
      absent = omega (arith, most, reply_count-le is_absent (entries_of (take i told)));
      removed = omega (arith, most, reply_count-le is_gone (entries_of (take i told)));
    }

-- as many entries as operations
pub entry_count : (scripts : List (List Op)) (tolds : List (List Told)) → map length tolds ≡ map length scripts
    → sum_by length tolds ≡ op_count scripts
entry_count scripts tolds same = sym (sum-map length tolds) ∙ ap sum same ∙ sum-map length scripts

-- A workload as it is made, operation by operation.

length-made_ops : (script state ops : ℕ) → length (made_ops script state ops) ≡ ops
length-made_ops script state zero = refl
length-made_ops script state (suc ops) = ap suc (length-made_ops script (made_op script state).1 ops)

-- Of the script's operations so many were made, and the generator's state gives the others.
pub record HasBegun (first now : List (List Op)) (script state done ops : ℕ) (whole : List Op) : Type 0 where
  pub begun : List Op
  pub now_is : now ≡ first ++ begun ∷ []
  pub count : length begun ≡ done
  pub rest : begun ++ made_ops script state (ops - done) ≡ whole

pub HasBegun-none : (first now : List (List Op)) (script state ops : ℕ) → now ≡ first ++ [] ∷ []
    → HasBegun first now script state 0 ops (made_ops script state ops)
HasBegun-none first now script state ops is = record {
  begun = [];
  now_is = is;
  count = refl;
  rest = ap (made_ops script state) (omega arith);
}

module _ (first now : List (List Op)) (script state done ops : ℕ) (whole : List Op)
    (has : HasBegun first now script state done ops whole) where
  pub HasBegun-some : 0 < length now
  HasBegun-some = omega (arith, ap length has.now_is, length-append first (has.begun ∷ []))

  pub HasBegun-room : done < ops → op_count first + ops ≤ 1048576 → op_count now < 1048576
  HasBegun-room more few = omega (arith, ap op_count has.now_is, op_count-last first has.begun, has.count)

  pub HasBegun-more : (after : List (List Op)) (op : Op) (next : ℕ) → (op, next) ≡ made_op script state → after ≡ with_op now op
      → done < ops → HasBegun first after script next (done + 1) ops whole
  HasBegun-more after op next made is more =
      let left : ops - done ≡ suc (ops - (done + 1)) = omega arith in
      record {
        begun = has.begun ++ op ∷ [];
        now_is = is ∙ ap (λ l. with_op l op) has.now_is ∙ with_op-last first has.begun op;
        count = length-append has.begun (op ∷ []) ∙ omega (arith, has.count);
        rest =
            append_assoc has.begun (op ∷ []) (made_ops script next (ops - (done + 1)))
            ∙ ap (λ r. has.begun ++ r) (λ i. (made i).0 ∷ made_ops script (made i).1 (ops - (done + 1)))
            ∙ ap (λ n. has.begun ++ made_ops script state n) (sym left)
            ∙ has.rest;
      }

  pub HasBegun-all : ops ≤ done → now ≡ first ++ whole ∷ []
  HasBegun-all past =
      let none : ops - done ≡ 0 = omega arith in
      has.now_is ∙ ap (λ s. first ++ s ∷ []) (sym (append-nil has.begun) ∙ ap (λ n. has.begun ++ made_ops script state n) (sym none)
      ∙ has.rest)

-- so many scripts, and one more
pub made_scripts-more : (number scripts ops : ℕ)
    → made_scripts number (scripts + 1) ops ≡ made_scripts number scripts ops ++ made_script number ops scripts ∷ []
made_scripts-more number scripts ops = map-range_with_len_more (made_script number ops) 0 scripts scripts (omega arith)

pub length-made_scripts : (number scripts ops : ℕ) → length (made_scripts number scripts ops) ≡ scripts
length-made_scripts number scripts ops = length-map-range_with_len (made_script number ops) 0 scripts

ops_from : (number first scripts ops : ℕ) → op_count (map (made_script number ops) (range_with_len first scripts)) ≡ scripts * ops
ops_from number first zero ops = omega arith
ops_from number first (suc scripts) ops =
    let one = length-made_ops first ((number + first) % 2 ^ 64) ops in
    let rest = ops_from number (first + 1) scripts ops in
    let more = sum_by-cons length (made_script number ops first) (map (made_script number ops) (range_with_len (first + 1) scripts)) in
    omega (arith, one, rest, more)

pub op_count-made_scripts : (number scripts ops : ℕ) → op_count (made_scripts number scripts ops) ≡ scripts * ops
op_count-made_scripts number scripts ops = ops_from number 0 scripts ops

-- The keys and values of a made workload.

abbrev pub value_of : Op → ℕ
value_of (Put key value) = value
value_of (Set key value) = value
value_of _ = 0

-- An operation that the workload may have in this script.
pub record IsMadeFor (script : ℕ) (op : Op) : Type 0 where
  pub own : key_of op % 64 ≡ script
  pub key : key_of op < 262144
  pub value : value_of op < 2147483648

drawn_low : (state : ℕ) → drawn (next_state state) < 2147483648
unfolding drawn next_state
drawn_low state = omega arith

module _ (script state : ℕ) (few : script < 64) where
  made_op-IsMadeFor : IsMadeFor script (made_op script state).0
  made_op-IsMadeFor =
      let after = next_state (next_state state) in
      let kind = drawn (next_state state) % 4 in
      let key = 64 * (drawn after % 4096) + script in
      elim (ltb kind 2) as (λ b. IsMadeFor script (cond {A = Op × ℕ} b (Put key (drawn (next_state after)), next_state after)
      (cond (eqb kind 2) (Get key, after) (Del key, after))).0) [
        | true ↦ record { own = omega arith; key = omega arith; value = drawn_low after }
        | false ↦ elim (eqb kind 2) as (λ b. IsMadeFor script (cond {A = Op × ℕ} b (Get key, after) (Del key, after)).0) [
          | true ↦ record { own = omega arith; key = omega arith; value = omega arith }
          | false ↦ record { own = omega arith; key = omega arith; value = omega arith }
        ]
      ]

made_ops-IsMadeFor : (script state ops : ℕ) → script < 64 → AllByRecursion (IsMadeFor script) (made_ops script state ops)
made_ops-IsMadeFor script state zero few = tt
made_ops-IsMadeFor script state (suc ops) few =
    (made_op-IsMadeFor script state few, made_ops-IsMadeFor script (made_op script state).1 ops few)

made_from : (number first scripts ops : ℕ) → first + scripts ≤ 64
    → AllOps IsMadeFor first (map (made_script number ops) (range_with_len first scripts))
made_from number first zero ops few = tt
made_from number first (suc scripts) ops few = (
  made_ops-IsMadeFor first ((number + first) % 2 ^ 64) ops (omega (arith, few)),
  made_from number (first + 1) scripts ops (omega (arith, few)),
)

pub made_scripts-IsMadeFor : (number scripts ops : ℕ) → scripts ≤ 64 → AllOps IsMadeFor 0 (made_scripts number scripts ops)
made_scripts-IsMadeFor number scripts ops few = made_from number 0 scripts ops (omega (arith, few))

-- The sums over a dictionary whose keys and values are low.

-- the key and the value are low
abbrev pub IsLow : ℕ → ℕ → Type 0
IsLow key value = (key < 262144) × (value < 2147483648)

abbrev pub AreLow : Dictionary → Type 0
AreLow m = (key value : ℕ) → finite.get m key ≡ Some value → IsLow key value

same_value : (v w : ℕ) → Some v ≡ Some w → v ≡ w
same_value v w e = cc

-- a value that is there after an update was there, or is the update's
case_some : (b : Bool) (v w : ℕ) (was : Option ℕ) → cond b (Some v) was ≡ Some w → (was ≡ Some w) ⊎ ((b ≡ true) × (w ≡ v))
case_some true v w was e = inr (refl, sym (same_value v w e))
case_some false v w was e = inl e

came_from : (b : Bool) (op : Op) (its was : Option ℕ) (w : ℕ) → value_after b op its was ≡ Some w
    → (was ≡ Some w) ⊎ ((b ≡ true) × (w ≡ value_of op))
came_from b (Put key value) None was w e = case_some b value w was e
came_from b (Set key value) (Some v) was w e = case_some b value w was e
came_from true (Del key) its was w e = absurd (cc)
came_from _ _ _ was w e = inl e

tied : (q key : ℕ) → eq_by_cmp nat_cmp q key ≡ true → q ≡ key
tied q key e =
    elim (nat_cmp q key) as (λ r. nat_cmp q key ≡ r → is_eq r ≡ true → q ≡ key) [
      | Less ↦ λ r e. absurd (cc)
      | Equal ↦ λ r e. finite.nat_cmp-IsAntisymmetric q key r
      | Greater ↦ λ r e. absurd (cc)
    ] refl e

AreLow-updated : (m : Dictionary) (op : Op) → IsLow (key_of op) (value_of op) → AreLow m → AreLow (updated m op)
AreLow-updated m op low all key value there =
    let from = came_from (eq_by_cmp nat_cmp key (key_of op)) op (finite.get m (key_of op)) (finite.get m key) value
    (sym (get-updated m op key) ∙ there) in
    elim from as (λ _. IsLow key value) [
      | inl was ↦ all key value was
      | inr new ↦ let same = tied key (key_of op) new.0 in (omega (arith, same, low.0), omega (arith, new.1, low.1))
    ]

AreLow-updated_all : (us : List Update) (m : Dictionary) → All (λ u. IsLow (key_of u.op) (value_of u.op)) us → AreLow m
    → AreLow (updated_all m us)
AreLow-updated_all [] m low all = all
AreLow-updated_all (u ∷ us) m low all =
    AreLow-updated_all us (updated m u.op) (λ k d below. low (suc k) d (omega (arith, below)))
    (AreLow-updated m u.op (low 0 u (omega arith)) all)

pub AreLow-history : (history : List Update) → All (λ u. IsLow (key_of u.op) (value_of u.op)) history → AreLow (map_of history)
AreLow-history history low = AreLow-updated_all history finite.empty low
    (λ key value there. let no : None ≡ Some value = sym (finite.get-empty nat_cmp key) ∙ there in absurd (cc))

not_tied : (q key : ℕ) → T (is_lt (nat_cmp q key)) → eq_by_cmp nat_cmp q key ≡ false
not_tied q key lt =
    elim (nat_cmp q key) as (λ r. T (is_lt r) → is_eq r ≡ false) [
      | Less ↦ λ lt. refl
      | Equal ↦ λ lt. absurd lt
      | Greater ↦ λ lt. refl
    ] lt

find_below : (key : ℕ) (es : List (ℕ × ℕ)) → T (below_all nat_cmp key es) → find nat_cmp key es ≡ None
find_below key [] below = refl
find_below key (e ∷ es) below =
    ap (λ b. cond b (Some e.1) (find nat_cmp key es)) (not_tied key e.0 (and_yes _ _ below).0) ∙ find_below key es (and_yes _ _ below).1

entries_low : (es : List (ℕ × ℕ)) → T (is_sorted nat_cmp es) → ((key value : ℕ) → find nat_cmp key es ≡ Some value → IsLow key value)
    → AllByRecursion (λ e. IsLow e.0 e.1) es
entries_low [] sorted low = tt
entries_low (e ∷ es) sorted low = (
  low e.0 e.1 (ap (λ r. cond (is_eq r) (Some e.1) (find nat_cmp e.0 es)) (tied_itself nat_cmp_total e.0)),
  entries_low es (and_yes _ _ sorted).1 (λ key value there.
      elim (eq_by_cmp nat_cmp key e.0) as (λ b. eq_by_cmp nat_cmp key e.0 ≡ b → IsLow key value) [
        | true ↦ λ same.
            let no : None ≡ Some value = sym (find_below e.0 es (and_yes _ _ sorted).0)
            ∙ ap (λ k. find nat_cmp k es) (sym (tied key e.0 same)) ∙ there in
            absurd (cc)
        | false ↦ λ other. low key value (ap (λ b. cond b (Some e.1) (find nat_cmp key es)) other ∙ there)
      ] refl),
)

sums_low : (es : List (ℕ × ℕ)) → AllByRecursion (λ e. IsLow e.0 e.1) es
    → (sum_by (λ e. e.0) es ≤ 262144 * length es) × (sum_by (λ e. e.1) es ≤ 2147483648 * length es)
sums_low [] low = (omega arith, omega arith)
sums_low (e ∷ es) low =
    let rest = sums_low es low.1 in
    (omega (arith, sum_by-cons (λ e. e.0) e es, rest.0, low.0.0), omega (arith, sum_by-cons (λ e. e.1) e es, rest.1, low.0.1))

-- the sums are below so many times the pairs
pub sums-le : (m : Dictionary) → AreLow m → (key_sum m ≤ 262144 * finite.len m) × (value_sum m ≤ 2147483648 * finite.len m)
sums-le m low =
    let es = finite.entries m in
    let sums = sums_low es (entries_low es (finite.entries_sorted m) (λ key value there. low key value (finite.get-entries m key ∙ there))) in
    let count = finite.len-entries m in
    (omega (arith, sums.0, count), omega (arith, sums.1, count))

-- Each history that explains what a made workload was told comes to the same as the plain map.

-- a key's script
abbrev owner : ℕ → ℕ
owner key = key % 64

-- the summary that these replies and this dictionary make
abbrev summary_by : List (List Op) → List (List Reply) → Dictionary → Summary
summary_by scripts replies m = record {
  scripts = length scripts;
  ops = op_count scripts;
  new = sum_by (count_by is_new) replies;
  old = sum_by (count_by is_old) replies;
  val = sum_by (count_by is_val) replies;
  none = sum_by (count_by is_absent) replies;
  gone = sum_by (count_by is_gone) replies;
  size = finite.len m;
  keys = key_sum m;
  values = value_sum m;
}

own_script : (caller : ℕ) (script : List Op) → AllByRecursion (IsMadeFor caller) script → AllByRecursion (IsOwn owner caller) script
own_script caller [] all = tt
own_script caller (op ∷ script) all = (all.0.own, own_script caller script all.1)

own_scripts : (caller : ℕ) (scripts : List (List Op)) → AllOps IsMadeFor caller scripts → AllOps (IsOwn owner) caller scripts
own_scripts caller [] all = tt
own_scripts caller (script ∷ scripts) all = (own_script caller script all.0, own_scripts (caller + 1) scripts all.1)

module _ (scripts : List (List Op)) (tolds : List (List Told)) (history : List Update) (is_made : IsMade scripts)
    (few : length scripts ≤ 64) (legal : IsLegal history) (able : AreExplainable scripts tolds history (default_slots_of scripts)) where
  all_made : AllOps IsMadeFor 0 scripts
  all_made =
      let count = ap length is_made.made ∙ length-made_scripts is_made.number is_made.count is_made.ops in
      subst (AllOps IsMadeFor 0) (sym is_made.made) (made_scripts-IsMadeFor is_made.number is_made.count is_made.ops (omega (arith, count)))

  are_plain : ArePlain scripts tolds history
  are_plain = ArePlain-from_explainable owner scripts tolds history (own_scripts 0 scripts all_made) legal able

  -- the summary is that of the plain map
  pub summary-is-plain : summary_with scripts tolds (map_of history) ≡ plain_summary scripts
  summary-is-plain = λ i. summary_by scripts (are_plain.replies i) (are_plain.same_map i)

  sums : (key_sum (map_of history) ≤ 262144 * finite.len (map_of history))
      × (value_sum (map_of history) ≤ 2147483648 * finite.len (map_of history))
  sums =
      let room : Room = record { scripts = length scripts; slots = default_slots_of scripts } in
      let ops = ops_of-all_told_lines scripts tolds able.lengths in
      let all = ops-of-history IsMadeFor room history (all_told_lines scripts tolds) able.explained
      (subst (AllOps IsMadeFor 0) (sym ops) all_made) in
      sums-le (map_of history) (AreLow-history history (λ k d below. ((all k d below).key, (all k d below).value)))

  few_pairs : op_count scripts ≤ 1048576 → finite.len (map_of history) ≤ 1048576
  few_pairs short =
      let room : Room = record { scripts = length scripts; slots = default_slots_of scripts } in
      let ops = ap put_count (ops_of-all_told_lines scripts tolds able.lengths) in
      let pairs = len-le-put_count room history (all_told_lines scripts tolds) able.explained (length history) in
      let whole : map_at history (length history) ≡ map_of history = ap map_of (take_all (length history) history (omega arith)) in
      let size = ap finite.len whole in
      omega (arith, ops, pairs, size, short, put_count-le-op_count scripts)

  -- the sums fit
  pub key_sum-fits : op_count scripts ≤ 1048576 → key_sum (map_of history) < 2 ^ 64
  key_sum-fits short = omega (arith, sums.0, few_pairs short)

  pub value_sum-fits : op_count scripts ≤ 1048576 → value_sum (map_of history) < 2 ^ 64
  value_sum-fits short = omega (arith, sums.1, few_pairs short)

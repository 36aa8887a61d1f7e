-- Pairs that are found and written, and the lists of lanes and of their answers.
-- A pair of a range, by the one that is nearest to an end of it.
use Rattle.std.proofs.Common.{◌≡◌, ℕ, ◌<◌, Option, Some, None, subst, arith, zero, suc, ◌≤◌, List, [], ◌∷◌, ◌++◌, length, map, take, drop, length-append, ◌+◌, ◌-◌, slice_set, sym, ap, option_to_list, refl, ◌∙◌}
use Rattle.key_interval.specs.Keys.{Interval, Holds}
use Rattle.prcu_marks.specs.declared.mark.Side.{Side}
use Rattle.prcu_marks.specs.declared.mark.Side.TheVariants.{Left, Right}
use Rattle.prcu_marks.specs.Marks.{updates_of}
use Rattle.exact_list.specs.declared.nearest.Found.{Found}
use Rattle.exact_list.specs.declared.nearest.Nearest.{Nearest}
use Rattle.exact_list.specs.Loads.{IsNearest}
use Rattle.exact_list.specs.Pairs.{had_at, IsAt}
use Rattle.tree_handles.specs.Callers.{CallerAt}
use Rattle.tree_handles.specs.Lists.{FindsPairIn, FindsNoneIn, Seeks, end_of, pair_of}
use Rattle.tree_handles.specs.declared.lists.Pair.{Pair}
use mathlib.Core.Option.{some}
use lib.ListN.{get_elem?, get_or}
use Rattle.core_state.specs.declared.view.View.{View}
use Rattle.core_state.specs.Steps.{first_of, second_of}
use Rattle.list_laws.specs.Counts.{Each}
use Rattle.many_gets.specs.Many.{AreKept}
use Rattle.seat_table.specs.Seats.{ListedAt, SeatAt, TableAt, IsEmptyFor}
use Rattle.tree_handles.specs.Lanes.{AreEmptyFor, AreSeated, AreSplitOff, answer_of}
use Rattle.tree_handles.specs.declared.answers.Answer.{Answer}
use Rattle.exact_list.specs.Pairs as found

-- No key of the range has a pair, where none has on that side of its end; and where the nearest pair isn't of the range.
none_nearest : (map : ℕ → Option ℕ) (side : Side) (keys : Interval) (key : ℕ) → keys.high < 18446744073709551616
    → IsNearest map side (end_of side keys) None → Holds keys key → map key ≡ None
none_nearest map Right keys key few is (from, to) = is key (from, omega (arith, to, few))
none_nearest map Left keys key few is (from, to) = is key to

seeks_so : {c d : CallerAt} {side : Side} {from : ℕ} {n : Nearest} {pair : Option Found} → n.pair ≡ pair → Seeks c side from n d
    → Seeks c side from (record { front = n.front; pair = pair }) d
seeks_so {c} {d} {side} {from} {n} is seeks = subst (λ o. Seeks c side from (record { front = n.front; pair = o }) d) is seeks

module _ {c d : CallerAt} {side : Side} {keys : Interval} {n : Nearest} where
  pub finds_pair : {f : Found} → n.pair ≡ Some f → Holds keys f.key → Seeks c side (end_of side keys) n d
      → FindsPairIn c side keys (f.key, f.value) d
  finds_pair {f} is inside seeks = record { inside = inside; front = n.front; seeks = seeks_so is seeks }

  finds_so : ((key : ℕ) → Holds keys key → had_at (updates_of d.seat.view.seen) n.front key ≡ None) → Seeks c side (end_of side keys) n d
      → FindsNoneIn c side keys d
  finds_so none seeks = record { nearest = n; seeks = seeks; none = none }

  pub finds_none : keys.high < 18446744073709551616 → n.pair ≡ None → Seeks c side (end_of side keys) n d → FindsNoneIn c side keys d
  finds_none few is seeks = finds_so
      (λ key holds. none_nearest (had_at (updates_of d.seat.view.seen) n.front) side keys key few (seeks_so is seeks).is holds) seeks

-- Pairs are written one after another.

pub write_next : (xs : List found.Pair) (ys : List Pair) (i : ℕ) (x : found.Pair) → IsAt xs i x → length xs ≤ length ys
    → slice_set (map pair_of (take i xs) ++ drop i ys) i (pair_of x) ≡ map pair_of (take (suc i) xs) ++ drop (suc i) ys
write_next [] ys i x at room = absurd (cc)
write_next (p ∷ ps) [] i x at room = absurd (omega (arith, room))
write_next (p ∷ ps) (q ∷ qs) zero x at room = (let e : p ≡ x = cc in ap (λ (z : found.Pair). pair_of z ∷ qs) (sym e))
write_next (p ∷ ps) (q ∷ qs) (suc i) x at room = ap (λ zs. pair_of p ∷ zs) (write_next ps qs i x at (omega (arith, room)))

-- Seats that are split off one after another, and what many lookups leave of lanes.

-- what holds of each element, and of one more behind them
pub each_more : {A : Type 0} (P : A → Type 0) (xs : List A) (x : A) → Each xs P → P x → Each (xs ++ x ∷ []) P
each_more P [] x each holds zero a at = (let e : x ≡ a = cc in subst P e holds)
each_more P [] x each holds (suc i) a at = absurd (cc)
each_more P (y ∷ ys) x each holds zero a at = each zero a at
each_more P (y ∷ ys) x each holds (suc i) a at = each_more P ys x (λ j b there. each (suc j) b there) holds i a at

-- one list more is made for a seat that is to be split off
pub empty_more : {t : TableAt} {count : ℕ} {lists : List ListedAt} {list : ListedAt} → AreEmptyFor t count lists → IsEmptyFor t list
    → AreEmptyFor t (count + 1) (lists ++ list ∷ [])
empty_more {t} {count} {lists} {list} are is = record {
  count_is = let a = are.count_is in let b = length-append lists (list ∷ []) in omega arith;
  each = each_more (IsEmptyFor t) lists list are.each is;
}

-- one more seat is split off
pub split_one_more : (v : View) (seats : List SeatAt) (w : View) (s : SeatAt) → AreSplitOff v seats w → s.view ≡ second_of 1 0 w
    → AreSplitOff v (seats ++ s ∷ []) (first_of 1 0 w)
split_one_more v [] w s split is = (subst (λ (z : View). s.view ≡ second_of 1 0 z) split is, ap (first_of 1 0) split)
split_one_more v (t ∷ seats) w s split is = (split.0, split_one_more (first_of 1 0 v) seats w s split.1 is)

-- where there are elements of one list there are those of another that is as long
there_too : {A B : Type 0} (xs : List A) (ys : List B) (i : ℕ) (y : B) → length xs ≡ length ys → get_elem? ys i ≡ some y
    → (x : A) × (get_elem? xs i ≡ some x)
there_too [] [] i y same at = absurd (cc)
there_too (x ∷ xs) (z ∷ ys) zero y same at = (x, refl)
there_too (x ∷ xs) (z ∷ ys) (suc i) y same at = there_too xs ys i y (omega (arith, same)) at
there_too _ _ i y same at = absurd (omega (arith, same))

-- a list that was lent whole comes back as the new one
pub refilled : {A : Type 0} (old new : List A) (n : ℕ) → length old ≡ n → length new ≡ length old → take n (new ++ drop (length new) old) ≡ new
refilled [] [] zero is same = refl
refilled (x ∷ xs) (y ∷ ys) (suc n) is same = ap (λ zs. y ∷ zs) (refilled xs ys n (omega (arith, is)) (omega (arith, same)))
refilled _ _ _ is same = absurd (omega (arith, is, same))

-- seats that were kept are of the table still
pub kept_tables : (table : TableAt) (before after : List SeatAt) → length before ≡ length after → AreKept before after
    → Each before (λ (s : SeatAt). s.table ≡ table) → Each after (λ (s : SeatAt). s.table ≡ table)
kept_tables table before after same kept each i t at =
    let was = there_too before after i t same at in
    (kept i was.0 t was.1 at).0 ∙ each i was.0 was.1

pub kept_seated : (table : TableAt) (before after : List SeatAt) → length before ≡ length after → AreKept before after
    → AreSeated table before → AreSeated table after
kept_seated table before after same kept seated =
    let least = seated.some in
    let most = seated.few in record {
      some = omega arith;
      few = omega arith;
      tables = kept_tables table before after same kept seated.tables;
    }

-- seats that were lent whole come back as they were kept, and are of the table still
pub lent_back : (table : TableAt) (before lent after : List SeatAt) (n : ℕ) → lent ≡ before → length before ≡ n → length after ≡ length lent
    → AreKept lent after → AreSeated table before → (take n (after ++ drop (length after) before) ≡ after) × AreSeated table after
lent_back table before lent after n whole count same kept seated =
    let lengths = ap (λ (xs : List SeatAt). length xs) whole in (
      refilled before after n count (omega (arith, same, lengths)),
      kept_seated table before after (omega (arith, same, lengths)) (subst (λ (xs : List SeatAt). AreKept xs after) whole kept) seated,
    )

module _ {A : Type 0} (P : A → Type 0) where
  each_first : (xs ys : List A) → Each (xs ++ ys) P → Each xs P
  each_first [] ys each i a at = absurd (cc)
  each_first (x ∷ xs) ys each zero a at = each zero a at
  each_first (x ∷ xs) ys each (suc i) a at = each_first xs ys (λ j b there. each (suc j) b there) i a at

  each_end : (xs : List A) (x : A) → Each (xs ++ x ∷ []) P → P x
  each_end [] x each = each zero x refl
  each_end (y ∷ ys) x each = each_end ys x (λ j b there. each (suc j) b there)

  -- what holds of each element holds of the last one, which is taken off, and of those that are left
  pub each_left : (old new : List A) (last : Option A) → old ≡ new ++ option_to_list last → Each old P → Each new P
  each_left old new last is each = each_first new (option_to_list last) (subst (λ (xs : List A). Each xs P) is each)

  pub each_taken : (old new : List A) (last : Option A) (x : A) → old ≡ new ++ option_to_list last → last ≡ Some x → Each old P → P x
  each_taken old new last x is there each = each_end new x (subst (λ (o : Option A). Each (new ++ option_to_list o) P) there
      (subst (λ (xs : List A). Each xs P) is each))

-- the last list is taken for a seat that is split off: it is empty,
pub empty_taken : {t : TableAt} {count : ℕ} {lists : List ListedAt} (rest : List ListedAt) (last : Option ListedAt) {list : ListedAt}
    → lists ≡ rest ++ option_to_list last → last ≡ Some list → AreEmptyFor t count lists → IsEmptyFor t list
empty_taken {t} {lists = lists} rest last {list = list} is there are =
    each_taken (IsEmptyFor t) lists rest last list is there are.each

-- and so are those that are left
pub empty_left : {t : TableAt} {count : ℕ} (fewer : ℕ) {lists rest : List ListedAt} (last : Option ListedAt) {list : ListedAt}
    → lists ≡ rest ++ option_to_list last → last ≡ Some list → AreEmptyFor t count lists → fewer + 1 ≡ count → AreEmptyFor t fewer rest
empty_left {t} fewer {lists = lists} {rest = rest} last {list = list} is there are less = record {
  count_is =
      let whole : lists ≡ rest ++ list ∷ [] = is ∙ ap (λ (o : Option ListedAt). rest ++ option_to_list o) there in
      let same = ap (λ (ls : List ListedAt). length ls) whole in
      let one_more : length (rest ++ list ∷ []) ≡ length rest + 1 = length-append rest (list ∷ []) in
      let many = are.count_is in omega (arith, same, one_more, many, less);
  each = each_left (IsEmptyFor t) lists rest last is are.each;
}

-- one more answer is written
pub answer_next : (xs : List (Option ℕ)) (ys : List Answer) (i : ℕ) → i < length xs → length xs ≤ length ys
    → slice_set (map answer_of (take i xs) ++ drop i ys) i (answer_of (get_or xs i None)) ≡ map answer_of (take (suc i) xs) ++ drop (suc i) ys
answer_next [] ys i inside room = absurd (omega (arith, inside))
answer_next (p ∷ ps) [] i inside room = absurd (omega (arith, room))
answer_next (p ∷ ps) (q ∷ qs) zero inside room = refl
answer_next (p ∷ ps) (q ∷ qs) (suc i) inside room = ap (λ zs. answer_of p ∷ zs) (answer_next ps qs i (omega (arith, inside))
    (omega (arith, room)))

-- Histories that are merged: numbers that are 1 to their count leave no place empty, and a script's own updates have such.
use Rattle.std.proofs.Common.{◌≡◌, ◌≢◌, ℕ, ◌+◌, ◌-◌, ◌<◌, ◌≤◌, Bool, true, false, eqb, List, ◌∷◌, length, get_or, map, refl, arith, [], ◌++◌, min, inl, inr, suc, if◌then◌else◌, drop, Some, ap, ◌∙◌, length-append, IsTrue, zero, set, sym, ◌==◌, subst}
use Rattle.std.specs.List.{All, AllPairs, Any, list_any, IsDistinct, slice_get, count_by}
use Rattle.std.proofs.lemmas.Bool.{eqb-true, eq-eqb, cases_lt}
use Rattle.std.proofs.lemmas.Bool.Decides.{Decides-eqb}
use Rattle.std.proofs.lemmas.List.{get_or-map, get_or_default, length-map, drop_all, length-set, get_or-set_same, get_or-set_other, get_or_append_left, get_or_past, same_lists}
use Rattle.std.proofs.lemmas.List.Elements.{All-cons, All-nil, All-append, All-map}
use Rattle.std.proofs.lemmas.List.Folds.{Any-from_list_any, list_any-from_Any}
use Rattle.std.proofs.lemmas.List.Kept.{AllPairs-cons}
use Rattle.std.proofs.lemmas.Map.Made.{IsDistinct-from_AllPairs}
use Rattle.std.proofs.lemmas.Map.Steps.{length-le_from_distinct_below, le-length_from_below}
use Rattle.prcu_model.specs.declared.operation.Op.TheVariants.{Get}
use Rattle.client_run.specs.Crews.{Numbered, AreOneToCount, numbered_updates, all_numbered_updates, IsHistoryOf, stored, AreInside}
use Rattle.std.proofs.lemmas.List.Sums.{sum_by-cons}
use Rattle.std.proofs.lemmas.Option.{slice_get-get_or, slice_get_within, get_or_from_slice_get}
use Rattle.prcu_model.specs.declared.operation.Op.{Op}
use Rattle.prcu_model.specs.declared.operation.Told.{Told}
use Rattle.prcu_model.specs.declared.operation.Line.{Line}
use Rattle.prcu_model.specs.Scripts.{Roomy, entries_of, op_count}
use Rattle.prcu_model.specs.Dictionary.{tells_update}
use Rattle.prcu_model.specs.Fronts.{Placed, told_lines, all_told_lines, told_updates, own_updates, own_updates_from}
use Rattle.prcu_model.proofs.ListFacts.{drop-there, drop-read, SameLengths, same_length, SameLengths-next, same_count, told_lines-none}
use Rattle.prcu_model.specs.declared.operation.Update.{Update}

-- Numbers that are 1 to their count, each once, leave no place without an update.

abbrev pub places : List Numbered → List ℕ
places updates = map (λ (u : Numbered). u.number - 1) updates

pub none : Numbered
none = record { number = 0; update = record { caller = 0; op = Get 0 } }

pub length-places : (updates : List Numbered) → length (places updates) ≡ length updates
length-places updates = length-map updates (λ (u : Numbered). u.number - 1)

pub place_at : (updates : List Numbered) (k d : ℕ) → k < length updates → get_or (places updates) k d ≡ (get_or updates k none).number - 1
place_at updates k d below = get_or-map (λ (u : Numbered). u.number - 1) updates k none d below

-- updates with numbers that differ have places that differ
pub apart_places : (updates : List Numbered) → All (λ u. 1 ≤ u.number) updates → AllPairs (λ u other. u.number ≢ other.number) updates
    → AllPairs (λ x y. x ≢ y) (places updates)
apart_places updates positive once i j d less below same =
    let inside : j < length updates = omega (arith, length-places updates) in
    let first = place_at updates i d (omega arith) in
    let second = place_at updates j d inside in
    let low = positive i none (omega arith) in
    let also = positive j none inside in
    once i j none less inside (omega arith)

module _ (updates : List Numbered) (numbers : AreOneToCount updates) where
  below_count : All (λ y. y < length updates) (places updates)
  below_count k d below =
      let inside : k < length updates = omega (arith, length-places updates) in
      let read = place_at updates k d inside in
      let positive = numbers.positive k none inside in
      let limit = numbers.limit k none inside in
      omega arith

  module _ (i : ℕ) (inside : i < length updates) where
    -- An i that isn't among them would be one more number below their count.
    no_place_left : list_any (eqb i) (places updates) ≡ false → ⊥
    no_place_left missing =
        let others : All (λ y. i ≢ y) (places updates) = (λ k d below same.
        let x = get_or (places updates) k d in
        let found : list_any (eqb i) (places updates) ≡ true =
        list_any-from_Any (eqb i) (places updates) (k, x, below, get_or_default (places updates) k x d below, eq-eqb i x same) in
        cc) in
        let distinct : IsDistinct eqb (i ∷ places updates) =
        IsDistinct-from_AllPairs Decides-eqb (i ∷ places updates)
        (AllPairs-cons (λ x y. x ≢ y) i (places updates) others (apart_places updates numbers.positive numbers.once)) in
        let all : All (λ y. y < length updates) (i ∷ places updates) =
        All-cons (λ y. y < length updates) i (places updates) inside below_count in
        let many : length (i ∷ places updates) ≤ length updates =
        length-le_from_distinct_below (i ∷ places updates) (length updates) distinct (λ q found.
        let (k, x, below, read, equal) = Any-from_list_any (eqb q) (i ∷ places updates) found in
        let low = all k x below in
        let same = eqb-true q x equal in
        omega arith) in
        omega (arith, length-places updates)

    has_place : (found : Bool) → list_any (eqb i) (places updates) ≡ found → list_any (eqb i) (places updates) ≡ true
    has_place true is = is
    has_place false is = absurd (no_place_left is)

    -- some update has the number of the place
    pub update_at : Any (λ u. u.number ≡ i + 1) updates
    update_at =
        let (k, x, there, is, equal) =
        Any-from_list_any (eqb i) (places updates) (has_place (list_any (eqb i) (places updates)) refl) in
        let below : k < length updates = omega (arith, length-places updates) in
        let read = place_at updates k x below in
        let same = eqb-true i x equal in
        let positive = numbers.positive k none below in
        (k, get_or updates k none, below, get_or_default updates k (get_or updates k none) none below, omega arith)

-- The updates that scripts were told of, one script after another.

-- the updates of the lines that are left, from the next on
abbrev pub own_left : ℕ → List Op → List Told → ℕ → List Numbered
own_left caller script told i = numbered_updates caller (told_lines (drop i script) (drop i told))

-- what an answer tells of, before other updates
abbrev pub with_told : ℕ → Op → Told → List Numbered → List Numbered
with_told caller op told rest =
    if tells_update told.reply then record { number = told.number; update = record { caller = caller; op = op } } ∷ rest else rest

with_told-at : (caller : ℕ) (op : Op) (told : Told) (lines : List Line)
    → numbered_updates caller (record { op = op; reply = told.reply; number = told.number } ∷ lines)
    ≡ with_told caller op told (numbered_updates caller lines)
with_told-at caller op told lines = elim (tells_update told.reply) as (λ tells.
    map (λ (own : Placed). record { number = own.position; update = record { caller = caller; op = own.op } })
    (if tells then record { position = told.number; op = op } ∷ told_updates lines else told_updates lines)
    ≡ (if tells then record { number = told.number; update = record { caller = caller; op = op } } ∷ numbered_updates caller lines
    else numbered_updates caller lines)) [ true ↦ refl | false ↦ refl ]

pub own_left-turn : (caller : ℕ) (script : List Op) (told : List Told) (i : ℕ) (op : Op) (answer : Told) → i < length script
    → i < length told → op ≡ get_or script i op → answer ≡ get_or told i answer
    → own_left caller script told i ≡ with_told caller op answer (own_left caller script told (i + 1))
own_left-turn caller script told i op answer in_script in_told is_op is_answer =
    rw (drop-read script i op in_script is_op, drop-read told i answer in_told is_answer)
    (with_told-at caller op answer (told_lines (drop (i + 1) script) (drop (i + 1) told)))

-- none is left where the operations or the answers end
pub own_left-past : (caller : ℕ) (script : List Op) (told : List Told) (i : ℕ) → i ≡ min (length script) (length told)
    → own_left caller script told i ≡ []
own_left-past caller script told i past =
    elim (cases_lt i (length script)) [
      | inl more ↦ ap (λ tolds. numbered_updates caller (told_lines (drop i script) tolds)) (drop_all i told (omega arith))
          ∙ ap (numbered_updates caller) (told_lines-none (drop i script))
      | inr all ↦ ap (λ ops. numbered_updates caller (told_lines ops (drop i told))) (drop_all i script all)
    ]

-- one more where the answer tells of an update
count-with_told : (caller : ℕ) (op : Op) (told : Told) (rest : List Numbered)
    → length (with_told caller op told rest) ≡ (if tells_update told.reply then 1 else 0) + length rest
count-with_told caller op told rest = elim (tells_update told.reply) as (λ tells.
    length (if tells then record { number = told.number; update = record { caller = caller; op = op } } ∷ rest else rest)
    ≡ (if tells then 1 else 0) + length rest) [ true ↦ omega arith | false ↦ omega arith ]

-- as many as answers that tell of an update
pub length-numbered_updates : (caller : ℕ) (script : List Op) (told : List Told) → length told ≡ length script
    → length (numbered_updates caller (told_lines script told)) ≡ count_by (λ answer. tells_update answer.reply) told
length-numbered_updates caller [] [] same = refl
length-numbered_updates caller (op ∷ script) (answer ∷ told) same =
    let rest = length-numbered_updates caller script told (omega arith) in
    let here = ap length (with_told-at caller op answer (told_lines script told)) in
    let more = count-with_told caller op answer (numbered_updates caller (told_lines script told)) in
    let counted = sum_by-cons (λ (other : Told). if tells_update other.reply then 1 else 0) answer told in
    omega arith
length-numbered_updates caller _ _ same = absurd (omega arith)

-- the updates of the scripts that are left, from script i on
abbrev pub all_left : List (List Op) → List (Roomy Told) → ℕ → List Numbered
all_left scripts told i = all_numbered_updates i (all_told_lines (drop i scripts) (entries_of (drop i told)))

module _ (scripts : List (List Op)) (told : List (Roomy Told)) (i : ℕ) (script : List Op) (list : Roomy Told)
    (there : slice_get scripts i ≡ Some script) (below : i < length told) (is : list ≡ get_or told i list) where
  pub all_left-turn : all_left scripts told i ≡ numbered_updates i (told_lines script list.entries) ++ all_left scripts told (i + 1)
  all_left-turn = rw (drop-there scripts i script there, drop-read told i list below is) refl

pub all_left-end : (scripts : List (List Op)) (told : List (Roomy Told)) (i : ℕ) → length scripts ≤ i → all_left scripts told i ≡ []
all_left-end scripts told i past = ap (λ ss. all_numbered_updates i (all_told_lines ss (entries_of (drop i told))))
    (drop_all i scripts past)

-- no more updates than operations
length-told_updates-le : (script : List Op) (told : List Told) → length (told_updates (told_lines script told)) ≤ length script
length-told_updates-le (op ∷ script) (answer ∷ told) =
    let rest = length-told_updates-le script told in
    elim (tells_update answer.reply) as (λ tells. length
    (if tells then record { position = answer.number; op = op } ∷ told_updates (told_lines script told)
    else told_updates (told_lines script told)) ≤ suc (length script))
    [ true ↦ omega arith | false ↦ omega arith ]
length-told_updates-le _ _ = omega arith

pub length-all_left-le : (caller : ℕ) (scripts : List (List Op)) (tolds : List (List Told))
    → length (all_numbered_updates caller (all_told_lines scripts tolds)) ≤ op_count scripts
length-all_left-le caller (script ∷ scripts) (told ∷ tolds) =
    let own = length-told_updates-le script told in
    let rest = length-all_left-le (caller + 1) scripts tolds in
    let both = length-append (numbered_updates caller (told_lines script told))
    (all_numbered_updates (caller + 1) (all_told_lines scripts tolds)) in
    let mapped = length-map (told_updates (told_lines script told))
    (λ (own : Placed). let numbered : Numbered = record { number = own.position; update = record { caller = caller; op = own.op } } in
    numbered) in
    let counted = sum_by-cons length script scripts in
    omega arith
length-all_left-le caller _ _ = omega arith

-- a list's answers that tell of updates, and the updates that are left after it
pub counted_turn : (scripts : List (List Op)) (told : List (Roomy Told)) (i : ℕ) (list : Roomy Told) → i < length told
    → list ≡ get_or told i list
    → map length (entries_of told) ≡ map length scripts → SameLengths scripts told i
    → SameLengths scripts told (i + 1) × (length (all_left scripts told i)
    ≡ count_by (λ answer. tells_update answer.reply) list.entries + length (all_left scripts told (i + 1)))
counted_turn scripts told i list below is same lengths =
    let many = same_count scripts told same in
    let script = get_or scripts i [] in
    let there : slice_get scripts i ≡ Some script = slice_get-get_or scripts i [] (omega arith) in
    let turn = ap length (all_left-turn scripts told i script list there below is) in
    let both = length-append (numbered_updates i (told_lines script list.entries)) (all_left scripts told (i + 1)) in
    let own = length-numbered_updates i script list.entries (same_length scripts told i script list there below is lengths) in
    (SameLengths-next scripts told i script list there below is lengths, omega arith)

-- Updates stored at numbers that are 1 to their count, each once, make the history.

pub length-stored : (history : List Update) (updates : List Numbered) → length (stored history updates) ≡ length history
length-stored history [] = refl
length-stored history (u ∷ updates) = length-stored (set history (u.number - 1) u.update) updates
    ∙ length-set history (u.number - 1) u.update

-- one list stored, and then another
pub stored-append : (history : List Update) (updates more : List Numbered)
    → stored history (updates ++ more) ≡ stored (stored history updates) more
stored-append history [] more = refl
stored-append history (u ∷ updates) more = stored-append (set history (u.number - 1) u.update) updates more

-- a place that none of the updates has
get_or-stored : (history : List Update) (updates : List Numbered) (place : ℕ) (d : Update) → All (λ u. u.number - 1 ≢ place) updates
    → get_or (stored history updates) place d ≡ get_or history place d
get_or-stored history [] place d others = refl
get_or-stored history (u ∷ updates) place d others =
    let here : u.number - 1 ≢ place = others zero u (omega arith) in
    get_or-stored (set history (u.number - 1) u.update) updates place d (λ k e lt. others (suc k) e (omega arith))
    ∙ get_or-set_other history (u.number - 1) place u.update d (λ same. here (sym same))

-- each update stands at its place
placed : (count : ℕ) (history : List Update) (updates : List Numbered) → length history ≡ count
    → All (λ u. 1 ≤ u.number) updates → All (λ u. u.number ≤ count) updates → AllPairs (λ u other. u.number ≢ other.number) updates
    → (k : ℕ) (d : Numbered) (e : Update) → k < length updates
    → get_or (stored history updates) ((get_or updates k d).number - 1) e ≡ (get_or updates k d).update
placed count history [] same positive limit once k d e lt = absurd (omega arith)
placed count history (u ∷ updates) same positive limit once zero d e lt =
    let here : 1 ≤ u.number = positive zero u (omega arith) in
    let low : u.number ≤ count = limit zero u (omega arith) in
    let others : All (λ v. v.number - 1 ≢ u.number - 1) updates = (λ i v below equal.
    let there = positive (suc i) v (omega arith) in once zero (suc i) v (omega arith) (omega arith) (omega arith)) in
    get_or-stored (set history (u.number - 1) u.update) updates (u.number - 1) e others
    ∙ get_or-set_same history (u.number - 1) u.update e (omega arith)
placed count history (u ∷ updates) same positive limit once (suc k) d e lt =
    placed count (set history (u.number - 1) u.update) updates (length-set history (u.number - 1) u.update ∙ same)
    (λ i v below. positive (suc i) v (omega arith)) (λ i v below. limit (suc i) v (omega arith))
    (λ i j v less below. once (suc i) (suc j) v (omega arith) (omega arith)) k d e (omega arith)

pub inside_from_all : (count : ℕ) (updates : List Numbered) → All (λ u. 1 ≤ u.number) updates → All (λ u. u.number ≤ count) updates
    → AreInside count updates
inside_from_all count [] positive limit = tt
inside_from_all count (u ∷ updates) positive limit = (
  (positive zero u (omega arith), limit zero u (omega arith)),
  inside_from_all count updates (λ k d lt. positive (suc k) d (omega arith)) (λ k d lt. limit (suc k) d (omega arith)),
)

pub inside-append : (count : ℕ) (updates more : List Numbered) → AreInside count (updates ++ more)
    → AreInside count updates × AreInside count more
inside-append count [] more inside = (tt, inside)
inside-append count (u ∷ updates) more inside = let rest = inside-append count updates more inside.1 in ((inside.0, rest.0), rest.1)

-- stored in a list of the right length they are the history
pub IsHistoryOf-stored : (history : List Update) (updates : List Numbered) → length history ≡ length updates → AreOneToCount updates
    → IsHistoryOf updates (stored history updates)
IsHistoryOf-stored history updates same numbers = record {
  count = length-stored history updates ∙ same;
  placed = λ k d below.
      let u = get_or updates k d in
      let positive = numbers.positive k d below in
      let limit = numbers.limit k d below in
      let inside : u.number - 1 < length (stored history updates) = let long = length-stored history updates in omega arith in
      slice_get-get_or (stored history updates) (u.number - 1) u.update inside
      ∙ ap Some (placed (length updates) history updates same numbers.positive numbers.limit numbers.once k d u.update below);
  whole = λ i below. update_at updates numbers i (let long = length-stored history updates in omega arith);
}

-- What an answer tells of is stored, and then the rest.
module _ (caller : ℕ) (op : Op) (answer : Told) (history next : List Update) (rest : List Numbered) where
  pub fits_with_told : AreInside (length history) (with_told caller op answer rest) → IsTrue (tells_update answer.reply)
      → (1 ≤ answer.number) × (answer.number ≤ length history)
  fits_with_told = elim (tells_update answer.reply) as (λ tells. AreInside (length history)
      (if tells then record { number = answer.number; update = record { caller = caller; op = op } } ∷ rest else rest)
      → IsTrue tells → (1 ≤ answer.number) × (answer.number ≤ length history)) [
        | true ↦ λ inside is. inside.0
        | false ↦ λ inside is. absurd (cc)
      ]

  pub stored-with_told : next ≡ (if tells_update answer.reply then set history (answer.number - 1) (record { caller = caller; op = op })
      else history)
      → stored next rest ≡ stored history (with_told caller op answer rest)
  stored-with_told = elim (tells_update answer.reply) as (λ tells. next
      ≡ (if tells then set history (answer.number - 1) (record { caller = caller; op = op }) else history)
      → stored next rest ≡ stored history (if tells then record { number = answer.number; update = record { caller = caller; op = op } }
      ∷ rest else rest))
      [ true ↦ λ is. ap (λ h. stored h rest) is | false ↦ λ is. ap (λ h. stored h rest) is ]

  pub length-with_told : next ≡ (if tells_update answer.reply then set history (answer.number - 1) (record { caller = caller; op = op })
      else history) → length next ≡ length history
  length-with_told = elim (tells_update answer.reply) as (λ tells. next
      ≡ (if tells then set history (answer.number - 1) (record { caller = caller; op = op }) else history) → length next ≡ length history) [
        | true ↦ λ is. ap length is ∙ length-set history (answer.number - 1) (record { caller = caller; op = op })
        | false ↦ λ is. ap length is
      ]

  pub inside-with_told : AreInside (length history) (with_told caller op answer rest) → AreInside (length history) rest
  inside-with_told = elim (tells_update answer.reply) as (λ tells. AreInside (length history)
      (if tells then record { number = answer.number; update = record { caller = caller; op = op } } ∷ rest else rest)
      → AreInside (length history) rest) [ true ↦ λ inside. inside.1 | false ↦ λ inside. inside ]

-- Where each script was told of its own updates of a history, in order, their numbers are 1 to their count, and they
-- make that history.

-- ---- some element of a list

Any-nil : {X : Type 0} (P : X → Type 0) → Any P [] → ⊥
Any-nil P (i, y, below, at, holds) = omega arith

Any-there : {X : Type 0} (P : X → Type 0) (x : X) (xs : List X) → Any P xs → Any P (x ∷ xs)
Any-there P x xs (i, y, below, at, holds) = (suc i, y, omega arith, at, holds)

Any-append_left : {X : Type 0} (P : X → Type 0) (xs ys : List X) → Any P xs → Any P (xs ++ ys)
Any-append_left P xs ys (i, y, below, at, holds) = (
  i,
  y,
  omega (arith, length-append xs ys),
  get_or_append_left xs ys y i below ∙ at,
  holds,
)

Any-append_right : {X : Type 0} (P : X → Type 0) (xs ys : List X) → Any P ys → Any P (xs ++ ys)
Any-append_right P [] ys any = any
Any-append_right P (x ∷ xs) ys any = Any-there P x (xs ++ ys) (Any-append_right P xs ys any)

Any-map : {X Y : Type 0} (P : Y → Type 0) (f : X → Y) (xs : List X) → Any (λ x. P (f x)) xs → Any P (map f xs)
Any-map P f xs (i, y, below, at, holds) = (
  i,
  f y,
  omega (arith, length-map xs f),
  get_or-map f xs i y (f y) below ∙ ap f at,
  holds,
)

AllPairs-append : {X : Type 0} (R : X → X → Type 0) (xs ys : List X) → AllPairs R xs → AllPairs R ys → All (λ x. All (R x) ys) xs
    → AllPairs R (xs ++ ys)
AllPairs-append R [] ys first second cross = second
AllPairs-append R (x ∷ xs) ys first second cross =
    AllPairs-cons R x (xs ++ ys)
    (All-append (R x) xs ys (λ k d below. first zero (suc k) d (omega arith) (omega arith)) (cross zero x (omega arith)))
    (AllPairs-append R xs ys (λ i j d less below. first (suc i) (suc j) d (omega arith) (omega arith)) second
    (λ k d below. cross (suc k) d (omega arith)))

-- ---- a caller's own updates

-- A caller's update at this position of a history whose first update has that one.
abbrev IsOwnAt : ℕ → ℕ → List Update → Placed → Type 0
IsOwnAt position caller us own = (position ≤ own.position)
    × (slice_get us (own.position - position) ≡ Some (record { caller = caller; op = own.op }))

module _ (caller : ℕ) where
  own_places : (us : List Update) (position : ℕ) → All (IsOwnAt position caller us) (own_updates_from position caller us)
  own_places [] position = All-nil (IsOwnAt position caller [])
  own_places (u ∷ us) position =
      let here : Placed = record { position = position; op = u.op } in
      let rest = own_updates_from (position + 1) caller us in
      let later : All (IsOwnAt position caller (u ∷ us)) rest = (λ k d below.
      let own = own_places us (position + 1) k d below in
      let at : (get_or rest k d).position - position ≡ suc ((get_or rest k d).position - (position + 1)) =
      (let low = own.0 in omega arith) in
      ((let low = own.0 in omega arith), rw at own.1)) in
      let by_test : (mine : Bool) → (u.caller == caller) ≡ mine
      → All (IsOwnAt position caller (u ∷ us)) (if mine then here ∷ rest else rest) = (λ mine.
      elim mine as (λ m. (u.caller == caller) ≡ m → All (IsOwnAt position caller (u ∷ us)) (if m then here ∷ rest else rest)) [
        | true ↦ λ is.
            let zeroth : position - position ≡ 0 = omega arith in
            let same : u.caller ≡ caller = eqb-true u.caller caller is in
            All-cons (IsOwnAt position caller (u ∷ us)) here rest
            (omega arith, rw zeroth (ap (λ c. Some (record { caller = c; op = u.op })) same)) later
        | false ↦ λ is. later
      ]) in
      by_test (u.caller == caller) refl

  own_rises : (us : List Update) (position : ℕ) → AllPairs (λ own other. own.position < other.position)
      (own_updates_from position caller us)
  own_rises [] position = λ i j d less below. absurd (omega arith)
  own_rises (u ∷ us) position =
      let here : Placed = record { position = position; op = u.op } in
      let rest = own_updates_from (position + 1) caller us in
      let above : All (λ other. position < other.position) rest =
      (λ k d below. let own = own_places us (position + 1) k d below in let low = own.0 in omega arith) in
      elim (u.caller == caller) as (λ mine. AllPairs (λ own other. own.position < other.position) (if mine then here ∷ rest else rest)) [
        | true ↦ AllPairs-cons (λ own other. own.position < other.position) here rest above (own_rises us (position + 1))
        | false ↦ own_rises us (position + 1)
      ]

own_found : (us : List Update) (position i : ℕ) (u : Update) → slice_get us i ≡ Some u
    → Any (λ own. own.position ≡ position + i) (own_updates_from position u.caller us)
own_found [] position i u there = absurd (cc)
own_found (v ∷ us) position zero u there =
    let here : Placed = record { position = position; op = v.op } in
    let rest = own_updates_from (position + 1) u.caller us in
    let same : v ≡ u = cc in
    let test : (v.caller == u.caller) ≡ true = eq-eqb v.caller u.caller (ap (λ w. w.caller) same) in
    subst (λ (mine : Bool). Any (λ own. own.position ≡ position + 0) (if mine then here ∷ rest else rest)) (sym test)
    (zero, here, (omega arith), refl, omega arith)
own_found (v ∷ us) position (suc i) u there =
    let here : Placed = record { position = position; op = v.op } in
    let rest = own_updates_from (position + 1) u.caller us in
    let (k, own, below, at, is) = own_found us (position + 1) i u there in
    let found : Any (λ own. own.position ≡ position + suc i) rest = (k, own, below, at, omega arith) in
    elim (v.caller == u.caller) as (λ mine. Any (λ own. own.position ≡ position + suc i) (if mine then here ∷ rest else rest)) [
      | true ↦ Any-there (λ own. own.position ≡ position + suc i) here rest found
      | false ↦ found
    ]

-- ---- what the lines tell of

nowhere : Placed
nowhere = record { position = 0; op = Get 0 }

abbrev of_caller : ℕ → Placed → Numbered
of_caller caller own = record { number = own.position; update = record { caller = caller; op = own.op } }

rising_apart : (caller : ℕ) (owns : List Placed) → AllPairs (λ own other. own.position < other.position) owns
    → AllPairs (λ u other. u.number ≢ other.number) (map (of_caller caller) owns)
rising_apart caller owns rises i j d less below same =
    let inside : j < length owns = omega (arith, length-map owns (of_caller caller)) in
    let first = ap (λ (u : Numbered). u.number) (get_or-map (of_caller caller) owns i nowhere d (omega arith)) in
    let second = ap (λ (u : Numbered). u.number) (get_or-map (of_caller caller) owns j nowhere d inside) in
    let rise = rises i j nowhere less inside in
    omega arith

callers_of : (caller : ℕ) (lines : List Line) → All (λ u. u.update.caller ≡ caller) (numbered_updates caller lines)
callers_of caller lines = All-map (λ u. u.update.caller ≡ caller) (of_caller caller) (told_updates lines) (λ k d below. refl)

callers_from : (first : ℕ) (lines : List (List Line)) → All (λ u. first ≤ u.update.caller) (all_numbered_updates first lines)
callers_from first [] = All-nil (λ u. first ≤ u.update.caller)
callers_from first (own ∷ lines) = All-append (λ u. first ≤ u.update.caller) (numbered_updates first own)
    (all_numbered_updates (first + 1) lines)
    (λ k d below. let is = callers_of first own k d below in omega arith)
    (λ k d below. let is = callers_from (first + 1) lines k d below in omega arith)

all_found : (P : Numbered → Type 0) (first : ℕ) (lines : List (List Line)) (c n : ℕ) → n ≡ first + c → c < length lines
    → Any P (numbered_updates n (get_or lines c [])) → Any P (all_numbered_updates first lines)
all_found P first [] c n is below any = absurd (omega arith)
all_found P first (own ∷ lines) zero n is below any =
    let same : n ≡ first = omega arith in
    Any-append_left P (numbered_updates first own) (all_numbered_updates (first + 1) lines)
    (subst (λ (m : ℕ). Any P (numbered_updates m own)) same any)
all_found P first (own ∷ lines) (suc c) n is below any =
    Any-append_right P (numbered_updates first own) (all_numbered_updates (first + 1) lines)
    (all_found P (first + 1) lines c n (omega arith) (omega arith) any)

any_place : (q : ℕ) (updates : List Numbered) → Any (λ u. u.number ≡ q + 1) updates → Any (λ x. eqb q x ≡ true) (places updates)
any_place q updates (i, u, below, at, is) =
    Any-map (λ x. eqb q x ≡ true) (λ (u : Numbered). u.number - 1) updates
    (i, u, below, at, eq-eqb q (u.number - 1) (omega arith))

module _ (history : List Update) where
  -- The update stands at its number in the history.
  abbrev IsPlaced : Numbered → Type 0
  IsPlaced u = (1 ≤ u.number) × (slice_get history (u.number - 1) ≡ Some u.update)

  -- From this caller on, each script's lines tell of its own updates.
  abbrev TellOwn : ℕ → List (List Line) → Type 0
  TellOwn first lines = (c n : ℕ) → n ≡ first + c → own_updates n history ≡ told_updates (get_or lines c [])

  own_placed : (caller : ℕ) (lines : List Line) → own_updates caller history ≡ told_updates lines
      → All IsPlaced (numbered_updates caller lines)
  own_placed caller lines own =
      subst (λ (owns : List Placed). All IsPlaced (map (of_caller caller) owns)) own
      (All-map IsPlaced (of_caller caller) (own_updates caller history) (own_places caller history 1))

  all_placed : (first : ℕ) (lines : List (List Line)) → TellOwn first lines → All IsPlaced (all_numbered_updates first lines)
  all_placed first [] tell = All-nil IsPlaced
  all_placed first (own ∷ lines) tell = All-append IsPlaced (numbered_updates first own) (all_numbered_updates (first + 1) lines)
      (own_placed first own (tell zero first (omega arith))) (all_placed (first + 1) lines (λ c n is. tell (suc c) n (omega arith)))

  all_apart : (first : ℕ) (lines : List (List Line)) → TellOwn first lines
      → AllPairs (λ u other. u.number ≢ other.number) (all_numbered_updates first lines)
  all_apart first [] tell = λ i j d less below. absurd (omega arith)
  all_apart first (own ∷ lines) tell =
      let rest = all_numbered_updates (first + 1) lines in
      let later : TellOwn (first + 1) lines = (λ c n is. tell (suc c) n (omega arith)) in
      let mine = tell zero first (omega arith) in
      AllPairs-append (λ u other. u.number ≢ other.number) (numbered_updates first own) rest
      (rising_apart first (told_updates own) (subst (AllPairs (λ p q. p.position < q.position)) mine (own_rises first history 1)))
      (all_apart (first + 1) lines later)
      (λ k d below m e inside same.
      let u = get_or (numbered_updates first own) k d in
      let other = get_or rest m e in
      let placed = own_placed first own mine k d below in
      let also = all_placed (first + 1) lines later m e inside in
      let there : slice_get history (other.number - 1) ≡ Some u.update =
      subst (λ (n : ℕ). slice_get history (n - 1) ≡ Some u.update) same placed.1 in
      let equal : u.update ≡ other.update = (let stands = also.1 in cc) in
      let caller = callers_of first own k d below in
      let higher = callers_from (first + 1) lines m e inside in
      let callers = ap (λ (v : Update). v.caller) equal in
      omega arith)

  module _ (lines : List (List Line)) (own : (c : ℕ) → own_updates c history ≡ told_updates (get_or lines c [])) where
    tell : TellOwn 0 lines
    tell c n is = (let same : n ≡ c = omega arith in ap (λ m. own_updates m history) same ∙ own c)

    -- each update of the history is told of
    found : (i : ℕ) → i < length history → Any (λ u. u.number ≡ i + 1) (all_numbered_updates 0 lines)
    found i below =
        let d : Update = none.update in
        let u = get_or history i d in
        let mine = own_found history 1 i u (slice_get-get_or history i d below) in
        let told : Any (λ p. p.position ≡ 1 + i) (told_updates (get_or lines u.caller [])) =
        subst (Any (λ p. p.position ≡ 1 + i)) (own u.caller) mine in
        let (k, placed, inside, at, is) = told in
        let numbered : Any (λ v. v.number ≡ i + 1) (numbered_updates u.caller (get_or lines u.caller [])) =
        Any-map (λ v. v.number ≡ i + 1) (of_caller u.caller) (told_updates (get_or lines u.caller []))
        (k, placed, inside, at, omega arith) in
        elim (cases_lt u.caller (length lines)) [
          | inl script ↦ all_found (λ v. v.number ≡ i + 1) 0 lines u.caller u.caller (omega arith) script numbered
          | inr past ↦
              let none_told : Any (λ p. p.position ≡ 1 + i) [] =
              subst (λ (ls : List Line). Any (λ p. p.position ≡ 1 + i) (told_updates ls)) (get_or_past lines u.caller [] past) told in
              absurd (Any-nil (λ p. p.position ≡ 1 + i) none_told)
        ]

    history_count : length history ≡ length (all_numbered_updates 0 lines)
    history_count =
        let updates = all_numbered_updates 0 lines in
        let placed = all_placed 0 lines tell in
        let positive : All (λ u. 1 ≤ u.number) updates = (λ k d below. (placed k d below).0) in
        let distinct : IsDistinct eqb (places updates) =
        IsDistinct-from_AllPairs Decides-eqb (places updates) (apart_places updates positive (all_apart 0 lines tell)) in
        let least : length (places updates) ≤ length history =
        length-le_from_distinct_below (places updates) (length history) distinct (λ q is.
        let (k, x, there, at, equal) = Any-from_list_any (eqb q) (places updates) is in
        let below : k < length updates = omega (arith, length-places updates) in
        let inside = slice_get_within history ((get_or updates k none).number - 1) (get_or updates k none).update
        (placed k none below).1 in
        let read = place_at updates k x below in
        let same = eqb-true q x equal in
        omega arith) in
        let most : length history ≤ length (places updates) = le-length_from_below (places updates) (length history) (λ q below.
        let any = found q below in
        list_any-from_Any (eqb q) (places updates) (any_place q updates any)) in
        omega (arith, length-places updates)

    pub AreOneToCount-own : AreOneToCount (all_numbered_updates 0 lines)
    AreOneToCount-own = record {
      positive = λ k d below. (all_placed 0 lines tell k d below).0;
      limit = λ k d below.
          let u = get_or (all_numbered_updates 0 lines) k d in
          let inside = slice_get_within history (u.number - 1) u.update (all_placed 0 lines tell k d below).1 in
          omega (arith, history_count);
      once = all_apart 0 lines tell;
    }

    pub IsHistoryOf-own : IsHistoryOf (all_numbered_updates 0 lines) history
    IsHistoryOf-own = record {
      count = history_count;
      placed = λ k d below. (all_placed 0 lines tell k d below).1;
      whole = found;
    }

-- A history is told by its numbered updates.

-- what stands at the place of an update
at_place : (updates : List Numbered) (history : List Update) → IsHistoryOf updates history → (k i : ℕ) (u : Numbered) (d : Update)
    → k < length updates → get_or updates k u ≡ u → u.number ≡ i + 1 → get_or history i d ≡ u.update
at_place updates history is k i u d below read number =
    let there : slice_get history (u.number - 1) ≡ Some u.update =
    subst (λ (v : Numbered). slice_get history (v.number - 1) ≡ Some v.update) read (is.placed k u below) in
    let place : u.number - 1 ≡ i = omega arith in
    subst (λ (p : ℕ). get_or history p d ≡ u.update) place (get_or_from_slice_get history (u.number - 1) u.update d there)

-- There is one history of numbered updates.
pub same_history : (updates : List Numbered) (history other : List Update) → IsHistoryOf updates history → IsHistoryOf updates other
    → history ≡ other
same_history updates history other is also = same_lists history other (is.count ∙ sym also.count) (λ i d below.
    let (k, u, inside, at, number) = is.whole i below in
    at_place updates history is k i u d inside at number ∙ sym (at_place updates other also k i u d inside at number))

-- The changes of a key: what they say of its value at each front, and how buckets find them.
use Rattle.std.proofs.Common.{◌≡◌, ◌≢◌, ℕ, zero, suc, ◌+◌, ◌-◌, ◌<◌, ◌≤◌, ◌==◌, ◌⊎◌, inl, inr, Bool, true, false, ◌||◌, IsTrue, cond, Some, None, List, ◌++◌, length, length-append, get_or, refl, sym, ap, subst, ◌∙◌, arith, [], ◌∷◌, length-drop, take, drop}
use Rattle.std.specs.List.{All, slice_get, list_any}
use Rattle.std.specs.Ordering.{nat_cmp, eq_by_cmp}
use Rattle.std.specs.Cmp.{nat_cmp_total}
use Rattle.std.proofs.lemmas.Bool.{cases_lt, cases_eq}
use Rattle.std.proofs.lemmas.Bool.Decides.{nat_tests}
use Rattle.std.proofs.lemmas.List.{get_or_append_left, get_or-append-add, get_or_default, get_or-take, get_or-drop, get_or_push, length-take-le, take-append-drop}
use Rattle.std.proofs.lemmas.List.Folds.{Any-from_list_any, list_any-append, list_any_none}
use Rattle.std.proofs.lemmas.Option.{slice_get-get_or, slice_get_past}
use Rattle.prcu_model.specs.declared.operation.Op.{Op}
use Rattle.prcu_model.specs.declared.operation.Op.TheVariants.{Put, Get, Del, Set}
use Rattle.prcu_model.specs.declared.operation.Reply.{Reply}
use Rattle.prcu_model.specs.declared.operation.Update.{Update}
use Rattle.prcu_model.specs.Dictionary.{Dictionary, updated, map_at, key_of}
use Rattle.prcu_model.proofs.Dictionaries.{map_at-next}
use Rattle.account_text.specs.declared.key_index.Change.{Change}
use Rattle.account_text.specs.Judging.{IsUpTo, IsOrdered, IsCutOut, IsShown, IsChangeOf, AreAllChanged, IsPast, IsFirstShown, IsIndexed, value_for, bucket_of, IsOrderedByBucket, AreStarts, IsInBuckets}
use Rattle.std.specs.FinMap as map

-- What the changes of a key say of its value at each front.

get-insert_other : (m : Dictionary) (k v key : ℕ) → k ≢ key → map.get (map.insert m k v) key ≡ map.get m key
get-insert_other m k v key other =
    let apart : eq_by_cmp nat_cmp key k ≡ false = grind (arith, nat_tests) in
    map.get-insert nat_cmp_total m k v key ∙ ap (λ b. cond b (Some v) (map.get m key)) apart

get-remove_other : (m : Dictionary) (k key : ℕ) → k ≢ key → map.get (map.remove m k) key ≡ map.get m key
get-remove_other m k key other =
    let apart : eq_by_cmp nat_cmp key k ≡ false = grind (arith, nat_tests) in
    map.get-remove nat_cmp_total m k key ∙ ap (λ b. cond b None (map.get m key)) apart

-- an update of another key leaves a key's value
get-updated_other : (m : Dictionary) (op : Op) (key : ℕ) → key_of op ≢ key → map.get (updated m op) key ≡ map.get m key
get-updated_other m (Put k v) key other =
    elim (map.contains_key m k) as (λ b. map.get (cond b m (map.insert m k v)) key
    ≡ map.get m key) [ true ↦ refl | false ↦ get-insert_other m k v key other ]
get-updated_other m (Get k) key other = refl
get-updated_other m (Del k) key other = get-remove_other m k key other
get-updated_other m (Set k v) key other =
    elim (map.contains_key m k) as (λ b. map.get (cond b (map.insert m k v) m) key
    ≡ map.get m key) [ true ↦ get-insert_other m k v key other | false ↦ refl ]

abbrev pub nothing : Change
nothing = record { key = 0; position = 0; value = None }

abbrev no_update : Update
no_update = record { caller = 0; op = Put 0 0 }

-- each update of the key has a change among these
abbrev pub HaveKey : List Update → List Change → ℕ → Type 0
HaveKey history changes key =
    (position : ℕ) → 0 < position → position ≤ length history → key_of (get_or history (position - 1) no_update).op ≡ key
    → IsTrue (list_any (λ change. change.position == position) changes)

module _ (history : List Update) (changes : List Change) (right : All (IsChangeOf history) changes) (key : ℕ)
    (whole : HaveKey history changes key) where
  -- a change of the key, later than one front and no later than another, that has left the value at this one
  pub record IsLast (low high : ℕ) : Type 0 where
    pub place : ℕ
    pub within : place < length changes
    pub key_is : (get_or changes place nothing).key ≡ key
    pub after : low < (get_or changes place nothing).position
    pub until : (get_or changes place nothing).position ≤ high
    pub value : (get_or changes place nothing).value ≡ map.get (map_at history high) key

  -- the update at a front is at the key
  last_here : (low front : ℕ) → low ≤ front → front < length history → key_of (get_or history front no_update).op ≡ key
      → IsLast low (front + 1)
  last_here low front le below own =
      let at_front : (front + 1) - 1 ≡ front = omega arith in
      let some = Any-from_list_any (λ change. change.position == front + 1) changes
      (whole (front + 1) (omega arith) (omega arith) (ap (λ i. key_of (get_or history i no_update).op) at_front ∙ own)) in
      let place = some.0 in
      let there : get_or changes place nothing ≡ some.1 = get_or_default changes place nothing some.1 some.2 ∙ some.3 in
      let at : (get_or changes place nothing).position ≡ front + 1 = ap (λ c. c.position) there ∙ grind (arith, nat_tests, some.4) in
      let is = right place nothing some.2 in
      let before : (get_or changes place nothing).position - 1 ≡ front = omega arith in
      let same : (get_or changes place nothing).key ≡ key =
      is.key no_update ∙ ap (λ i. key_of (get_or history i no_update).op) before ∙ own in
      record {
        place = place;
        within = some.2;
        key_is = same;
        after = omega arith;
        until = omega arith;
        value = is.value ∙ (λ i. map.get (map_at history (at i)) (same i));
      }

  -- Between two fronts a key's value stays, or there is a last change.
  pub last_change : (low n : ℕ) → low + n ≤ length history
      → (map.get (map_at history (low + n)) key ≡ map.get (map_at history low) key) ⊎ IsLast low (low + n)
  last_change low zero fits = let e : low + 0 ≡ low = omega arith in inl (ap (λ f. map.get (map_at history f) key) e)
  last_change low (suc n) fits =
      let next : low + suc n ≡ low + n + 1 = omega arith in
      let below : low + n < length history = omega arith in
      let op = (get_or history (low + n) no_update).op in
      subst (λ f. (map.get (map_at history f) key ≡ map.get (map_at history low) key) ⊎ IsLast low f) (sym next)
      (elim (cases_eq (key_of op) key) [
        | inl own ↦ inr (last_here low (low + n) (omega arith) below own)
        | inr other ↦
            let step : map.get (map_at history (low + n + 1)) key ≡ map.get (map_at history (low + n)) key =
            ap (λ m. map.get m key) (map_at-next history (low + n) no_update below)
            ∙ get-updated_other (map_at history (low + n)) op key other in
            elim (last_change low n (omega arith)) [
              | inl same ↦ inl (step ∙ same)
              | inr c ↦ inr (record {
                place = c.place;
                within = c.within;
                key_is = c.key_is;
                after = c.after;
                until = omega (arith, c.until);
                value = c.value ∙ sym step;
              })
            ]
      ])

  pub last_between : (low high : ℕ) → low ≤ high → high ≤ length history
      → (map.get (map_at history high) key ≡ map.get (map_at history low) key) ⊎ IsLast low high
  last_between low high le fits =
      let n : low + (high - low) ≡ high = omega arith in
      subst (λ f. (map.get (map_at history f) key ≡ map.get (map_at history low) key) ⊎ IsLast low f) n
      (last_change low (high - low) (omega arith))

module _ (P : Change → Type 0) (xs ys : List Change) (all : All P (xs ++ ys)) where
  in_front : All P xs
  in_front i none lt = subst P (get_or_append_left xs ys none i lt) (all i none (omega (arith, length-append xs ys)))

  in_back : All P ys
  in_back i none lt = subst P (get_or-append-add xs ys i none) (all (length xs + i) none (omega (arith, length-append xs ys)))

-- none of these is at the position, where the update there has the key
module _ (history : List Update) (key position : ℕ) (own : key_of (get_or history (position - 1) no_update).op ≡ key) where
  not_at : (change : Change) → IsChangeOf history change → change.key ≢ key → (change.position == position) ≡ false
  not_at change is other = elim (cases_eq change.position position) [
    | inl same ↦ absurd (other (is.key no_update ∙ ap (λ p. key_of (get_or history (p - 1) no_update).op) same ∙ own))
    | inr apart ↦ grind (arith, nat_tests)
  ]

  none_at : (changes : List Change) → All (IsChangeOf history) changes → All (λ change. change.key ≢ key) changes
      → list_any (λ change. change.position == position) changes ≡ false
  none_at changes right others = list_any_none (λ change. change.position == position) changes
      (λ i none lt. not_at (get_or changes i none) (right i none lt) (others i none lt))

-- What is cut out for a key has all its changes.
module _ (history : List Update) (changes part : List Change) (key : ℕ) (right : All (IsChangeOf history) changes)
    (whole : AreAllChanged changes (length history)) (cut : IsCutOut changes part key) where
  all_right : All (IsChangeOf history) (cut.front ++ (part ++ cut.back))
  all_right = subst (All (IsChangeOf history)) cut.is right

  rest_right : All (IsChangeOf history) (part ++ cut.back)
  rest_right = in_back (IsChangeOf history) cut.front (part ++ cut.back) all_right

  pub cut-right : All (IsChangeOf history) part
  cut-right = in_front (IsChangeOf history) part cut.back rest_right

  only : (a b c : Bool) → (a || (b || c)) ≡ true → a ≡ false → c ≡ false → b ≡ true
  only true b c some first last = absurd (cc)
  only false true c some first last = refl
  only false false c some first last = absurd (cc)

  pub cut-whole : HaveKey history part key
  cut-whole position some le own =
      let test = λ (change : Change). change.position == position in
      let all : list_any test (cut.front ++ (part ++ cut.back)) ≡ true = ap (list_any test) (sym cut.is) ∙ whole position some le in
      let parted : (list_any test cut.front || (list_any test part || list_any test cut.back)) ≡ true =
      ap (λ b. list_any test cut.front || b) (sym (list_any-append test part cut.back))
      ∙ sym (list_any-append test cut.front (part ++ cut.back)) ∙ all in
      only (list_any test cut.front) (list_any test part) (list_any test cut.back) parted
      (none_at history key position own cut.front (in_front (IsChangeOf history) cut.front (part ++ cut.back) all_right) cut.none_front)
      (none_at history key position own cut.back (in_back (IsChangeOf history) part cut.back rest_right) cut.none_back)

-- The changes of a key and perhaps of others, those of the key up to the front and the later ones.
pub record AreSplit (history : List Update) (until later : List Change) (key front : ℕ) : Type 0 where
  pub right : All (IsChangeOf history) (until ++ later)
  pub whole : HaveKey history (until ++ later) key
  pub ordered : IsOrdered (until ++ later)
  pub low : All (IsUpTo key front) until
  pub high : All (IsPast key front) later
  pub fits : front ≤ length history

pub are_split : (history : List Update) (sizes : List ℕ) (changes part until later : List Change) (key front : ℕ)
    → IsIndexed history sizes changes → IsCutOut changes part key → IsOrdered part → part ≡ until ++ later → All (IsUpTo key front) until
    → All (IsPast key front) later → front ≤ length history → AreSplit history until later key front
are_split history sizes changes part until later key front indexed cut ordered parts low high fits = record {
  right = subst (All (IsChangeOf history)) parts (cut-right history changes part key indexed.right indexed.whole cut);
  whole = subst (λ cs. HaveKey history cs key) parts (cut-whole history changes part key indexed.right indexed.whole cut);
  ordered = subst IsOrdered parts ordered;
  low = low;
  high = high;
  fits = fits;
}

pub IsOrdered-later : (until later : List Change) → IsOrdered (until ++ later) → IsOrdered later
IsOrdered-later until later ordered i j none le within =
    let rising = ordered (length until + i) (length until + j) none (omega arith) (omega (arith, length-append until later)) in
    subst (λ c. IsUpTo c.key c.position (get_or later i none)) (get_or-append-add until later j none)
    (subst (λ c. IsUpTo (get_or (until ++ later) (length until + j) none).key
    (get_or (until ++ later) (length until + j) none).position c) (get_or-append-add until later i none) rising)

module _ (history : List Update) (until later : List Change) (key front : ℕ) (split : AreSplit history until later key front) where
  right : All (IsChangeOf history) (until ++ later)
  right = split.right

  whole : HaveKey history (until ++ later) key
  whole = split.whole

  ordered : IsOrdered (until ++ later)
  ordered = split.ordered

  low : All (IsUpTo key front) until
  low = split.low

  high : All (IsPast key front) later
  high = split.high

  fits : front ≤ length history
  fits = split.fits

  abbrev changes : List Change
  changes = until ++ later

  -- a change no later than the front is among the first ones
  is_until : (place : ℕ) → place < length changes → (get_or changes place nothing).key ≡ key
      → (get_or changes place nothing).position ≤ front → place < length until
  is_until place within own no_later = elim (cases_lt place (length until)) [
    | inl lt ↦ lt
    | inr past ↦
        let j = place - length until in
        let is : length until + j ≡ place = omega arith in
        let same : get_or changes place nothing ≡ get_or later j nothing =
        ap (λ p. get_or changes p nothing) (sym is) ∙ get_or-append-add until later j nothing in
        let late = high j nothing (omega (arith, length-append until later)) in
        let k = ap (λ c. c.key) same in
        let p = ap (λ c. c.position) same in
        absurd (omega (arith, late.1 (sym k ∙ own)))
  ]

  none_until : length until ≤ 0 → map.get (map_at history front) key ≡ None
  none_until none = elim (last_between history changes right key whole 0 front (omega arith) fits) [
    | inl same ↦ same ∙ map.get-empty nat_cmp key
    | inr c ↦ absurd (omega (arith, is_until c.place c.within c.key_is c.until))
  ]

  abbrev last : Change
  last = get_or changes (length until - 1) nothing

  last_own : 0 < length until → last.key ≡ key → last.value ≡ map.get (map_at history front) key
  last_own some own =
      let is = right (length until - 1) nothing (omega (arith, length-append until later)) in
      let here : last ≡ get_or until (length until - 1) nothing = get_or_append_left until later nothing (length until - 1) (omega arith) in
      let up_to = low (length until - 1) nothing (omega arith) in
      let no_later : last.position ≤ front = omega (arith, ap (λ c. c.position) here, up_to.1 (ap (λ c. c.key) (sym here) ∙ own)) in
      let value : last.value ≡ map.get (map_at history last.position) key = is.value ∙ ap (map.get (map_at history last.position)) own in
      elim (last_between history changes right key whole last.position front no_later fits) [
        | inl same ↦ value ∙ sym same
        | inr c ↦
            let among = is_until c.place c.within c.key_is c.until in
            let rising = ordered c.place (length until - 1) nothing (omega arith) (omega (arith, length-append until later)) in
            absurd (omega (arith, rising.1 (c.key_is ∙ sym own), c.after))
      ]

  last_other : 0 < length until → last.key ≢ key → None ≡ map.get (map_at history front) key
  last_other some other = elim (last_between history changes right key whole 0 front (omega arith) fits) [
    | inl same ↦ sym (same ∙ map.get-empty nat_cmp key)
    | inr c ↦
        let here : last ≡ get_or until (length until - 1) nothing =
        get_or_append_left until later nothing (length until - 1) (omega arith) in
        let up_to = low (length until - 1) nothing (omega arith) in
        let among = is_until c.place c.within c.key_is c.until in
        let rising = ordered c.place (length until - 1) nothing (omega arith) (omega (arith, length-append until later)) in
        let own : last.key ≡ key = omega (arith, ap (λ d. d.key) here, up_to.0, rising.0, c.key_is) in
        absurd (other own)
  ]

  value-last : 0 < length until → value_for key (Some last) ≡ map.get (map_at history front) key
  value-last some = elim (cases_eq last.key key) [
    | inl own ↦ let test : (last.key == key) ≡ true = grind (arith, nat_tests) in ap (λ b. cond b last.value None) test ∙ last_own some own
    | inr other ↦ let test : (last.key == key) ≡ false = grind (arith, nat_tests) in
        ap (λ b. cond b last.value None) test ∙ last_other some other
  ]

  -- the value that the last of the first ones left is that at the front
  pub value-until : value_for key (slice_get until (length until - 1)) ≡ map.get (map_at history front) key
  value-until = elim (cases_lt 0 (length until)) [
    | inr none ↦ ap (value_for key) (slice_get_past until (length until - 1) (omega arith)) ∙ sym (none_until none)
    | inl some ↦
        let here : last ≡ get_or until (length until - 1) nothing =
        get_or_append_left until later nothing (length until - 1) (omega arith) in
        ap (value_for key) (slice_get-get_or until (length until - 1) nothing (omega arith) ∙ ap Some (sym here)) ∙ value-last some
  ]

  at_later : (j : ℕ) → get_or changes (length until + j) nothing ≡ get_or later j nothing
  at_later j = get_or-append-add until later j nothing

  module _ (op : Op) (reply : Reply) (not_now : IsShown op reply (map.get (map_at history front) key) → ⊥) where
    -- a later change of the key that shows the reply, no later than another front
    record IsShownBy (other : ℕ) : Type 0 where
      pub place : ℕ
      pub within : place < length later
      pub key_is : (get_or later place nothing).key ≡ key
      pub no_later : (get_or later place nothing).position ≤ other
      pub shown : IsShown op reply (get_or later place nothing).value

    shown_by : (other : ℕ) → front ≤ other → other ≤ length history → IsShown op reply (map.get (map_at history other) key)
        → IsShownBy other
    shown_by other le within shown = elim (last_between history changes right key whole front other le within) [
      | inl same ↦ absurd (not_now (subst (IsShown op reply) same shown))
      | inr c ↦ elim (cases_lt c.place (length until)) [
        | inl among ↦
            let here : get_or changes c.place nothing ≡ get_or until c.place nothing =
            get_or_append_left until later nothing c.place among in
            let up_to = low c.place nothing among in
            absurd (omega (arith, ap (λ d. d.position) here, up_to.1 (ap (λ d. d.key) (sym here) ∙ c.key_is), c.after))
        | inr past ↦
            let j = c.place - length until in
            let is : length until + j ≡ c.place = omega arith in
            let same : get_or changes c.place nothing ≡ get_or later j nothing = ap (λ p. get_or changes p nothing) (sym is) ∙ at_later j in
            record {
              place = j;
              within = omega (arith, c.within, length-append until later);
              key_is = ap (λ d. d.key) (sym same) ∙ c.key_is;
              no_later = omega (arith, ap (λ d. d.position) same, c.until);
              shown = subst (IsShown op reply) (sym c.value ∙ ap (λ d. d.value) same) shown;
            }
      ]
    ]

    -- where no later change shows the reply, no later front does
    pub none_shown : All (λ change. change.key ≡ key → IsShown op reply change.value → ⊥) later → (other : ℕ) → front ≤ other
        → other ≤ length history → IsShown op reply (map.get (map_at history other) key) → ⊥
    none_shown none other le within shown =
        let by = shown_by other le within shown in
        none by.place nothing by.within by.key_is by.shown

    module _ (position : ℕ) (first : IsFirstShown later key op reply position) where
      is_there : IsChangeOf history (get_or later first.place nothing)
      is_there = subst (IsChangeOf history) (at_later first.place)
          (right (length until + first.place) nothing (omega (arith, first.within, length-append until later)))

      pub first-above : front ≤ position
      first-above = omega (arith, (high first.place nothing first.within).1 (first.key_is nothing), first.is nothing)

      pub first-within : position ≤ length history
      first-within = omega (arith, is_there.within, first.is nothing)

      pub first-shown : IsShown op reply (map.get (map_at history position) key)
      first-shown =
          let value : (get_or later first.place nothing).value ≡ map.get (map_at history position) key =
          is_there.value ∙ (λ i. map.get (map_at history (first.is nothing i)) (first.key_is nothing i)) in
          subst (IsShown op reply) value (first.shown nothing)

      pub first-least : (other : ℕ) → front ≤ other → other < position → IsShown op reply (map.get (map_at history other) key) → ⊥
      first-least other le lt shown =
          let by = shown_by other le (omega (arith, first-within)) shown in
          elim (cases_lt by.place first.place) [
            | inl before ↦ first.first by.place nothing before by.shown
            | inr no_less ↦
                let rising = ordered (length until + first.place) (length until + by.place) nothing (omega arith)
                (omega (arith, by.within, length-append until later)) in
                let one = at_later first.place in
                let two = at_later by.place in
                let keys : (get_or changes (length until + first.place) nothing).key
                ≡ (get_or changes (length until + by.place) nothing).key =
                ap (λ d. d.key) one ∙ first.key_is nothing ∙ sym (ap (λ d. d.key) two ∙ by.key_is) in
                absurd (omega (arith, rising.1 keys, ap (λ d. d.position) one, ap (λ d. d.position) two, first.is nothing, by.no_later))
          ]

-- Where buckets begin, as changes are passed one after another, and what is cut out by them.

-- One number more at the end: it keeps the first ones, and what follows them is this one.
pub push-kept : (xs ys : List ℕ) (x n : ℕ) → ((i : ℕ) → i < n → get_or ys i 0 ≡ get_or xs i 0) → n ≤ length ys → (i : ℕ) → i < n
    → get_or (ys ++ x ∷ []) i 0 ≡ get_or xs i 0
push-kept xs ys x n kept long i lt = get_or_append_left ys (x ∷ []) 0 i (omega arith) ∙ kept i lt

pub push-filled : (ys : List ℕ) (x n : ℕ) → ((i : ℕ) → n ≤ i → i < length ys → get_or ys i 0 ≡ x) → (i : ℕ) → n ≤ i
    → i < length (ys ++ x ∷ []) → get_or (ys ++ x ∷ []) i 0 ≡ x
push-filled ys x n filled i above within = elim (cases_lt i (length ys)) [
  | inl lt ↦ get_or_append_left ys (x ∷ []) 0 i lt ∙ filled i above lt
  | inr last ↦ get_or_push ys x 0 i (omega (arith, length-append ys (x ∷ [])))
]

-- The first buckets begin where they should, when so many changes were passed.
pub record HaveStarts (buckets : ℕ) (changes : List Change) (passed : ℕ) (starts : List ℕ) : Type 0 where
  pub count : length starts ≤ buckets
  pub within : (bucket : ℕ) → bucket < length starts → get_or starts bucket 0 ≤ passed
  pub lower : (bucket i : ℕ) (none : Change) → bucket < length starts → i < get_or starts bucket 0
      → bucket_of buckets (get_or changes i none).key < bucket
  pub others : (bucket i : ℕ) (none : Change) → bucket < length starts → get_or starts bucket 0 ≤ i → i < length changes
      → bucket ≤ bucket_of buckets (get_or changes i none).key
  pub left : (i : ℕ) (none : Change) → i < passed → bucket_of buckets (get_or changes i none).key < length starts

pub starts-none : (buckets : ℕ) (changes : List Change) (starts : List ℕ) → length starts ≡ 0 → HaveStarts buckets changes 0 starts
starts-none buckets changes starts none = record {
  count = omega arith;
  within = λ bucket lt. absurd (omega arith);
  lower = λ bucket i c lt l. absurd (omega arith);
  others = λ bucket i c lt l w. absurd (omega arith);
  left = λ i c lt. absurd (omega arith);
}

module _ (buckets : ℕ) (changes : List Change) (ordered : IsOrderedByBucket buckets changes) (passed : ℕ) (starts more : List ℕ)
    (have : HaveStarts buckets changes passed starts) (count : ℕ) (long : length more ≡ length starts + (count - length starts))
    (kept : (i : ℕ) → i < length starts → get_or more i 0 ≡ get_or starts i 0)
    (filled : (i : ℕ) → length starts ≤ i → i < length more → get_or more i 0 ≡ passed) where
  -- one change more was passed
  module _ (here : Change) (is : here ≡ get_or changes passed nothing) (below : passed < length changes)
      (own : count ≡ bucket_of buckets here.key + 1) (fits : count ≤ buckets) where
    key_is : (none : Change) → bucket_of buckets here.key ≡ bucket_of buckets (get_or changes passed none).key
    key_is none = ap (λ c. bucket_of buckets c.key) (is ∙ get_or_default changes passed nothing none below)

    pub starts-more : HaveStarts buckets changes (passed + 1) more
    starts-more = record {
      count = omega (arith, have.count);
      within = λ bucket lt. elim (cases_lt bucket (length starts)) [
        | inl old ↦ omega (arith, kept bucket old, have.within bucket old)
        | inr new ↦ omega (arith, filled bucket new lt)
      ];
      lower = λ bucket i none lt before. elim (cases_lt bucket (length starts)) [
        | inl old ↦ have.lower bucket i none old (omega (arith, kept bucket old))
        | inr new ↦ omega (arith, have.left i none (omega (arith, filled bucket new lt)))
      ];
      others = λ bucket i none lt from within. elim (cases_lt bucket (length starts)) [
        | inl old ↦ have.others bucket i none old (omega (arith, kept bucket old)) within
        | inr new ↦ omega (arith, (ordered passed i none (omega (arith, filled bucket new lt)) within).0, key_is none)
      ];
      left = λ i none lt. elim (cases_eq i passed) [
        | inl last ↦ let e : bucket_of buckets (get_or changes i none).key ≡ bucket_of buckets here.key =
            ap (λ k. bucket_of buckets (get_or changes k none).key) last ∙ sym (key_is none) in omega (arith, e)
        | inr earlier ↦ omega (arith, have.left i none (omega (arith, earlier)))
      ];
    }

  -- all were passed
  pub starts-all : passed ≡ length changes → count ≡ buckets + 1 → AreStarts buckets changes more
  starts-all all last = record {
    count = omega (arith, have.count);
    within = λ bucket le. elim (cases_lt bucket (length starts)) [
      | inl old ↦ omega (arith, kept bucket old, have.within bucket old)
      | inr new ↦ omega (arith, filled bucket new (omega (arith, have.count)))
    ];
    lower = λ bucket i none le before. elim (cases_lt bucket (length starts)) [
      | inl old ↦ have.lower bucket i none old (omega (arith, kept bucket old))
      | inr new ↦ omega (arith, have.left i none (omega (arith, filled bucket new (omega (arith, have.count)))))
    ];
    others = λ bucket i none le from within. elim (cases_lt bucket (length starts)) [
      | inl old ↦ have.others bucket i none old (omega (arith, kept bucket old)) within
      | inr new ↦ absurd (omega (arith, filled bucket new (omega (arith, have.count))))
    ];
  }

-- the changes from one bucket's beginning to the next one's
module _ (buckets : ℕ) (changes : List Change) (starts : List ℕ) (held : IsInBuckets buckets changes starts) (bucket : ℕ)
    (below : bucket < buckets) where
  abbrev from : ℕ
  from = get_or starts bucket 0

  abbrev until : ℕ
  until = get_or starts (bucket + 1) 0

  until-within : until ≤ length changes
  until-within = held.starts_are.within (bucket + 1) (omega arith)

  from-until : from ≤ until
  from-until = elim (cases_lt until from) [
    | inr le ↦ le
    | inl gt ↦
        let lower = held.starts_are.lower bucket until nothing (omega arith) gt in
        let others = held.starts_are.others (bucket + 1) until nothing (omega arith) (omega arith)
        (omega (arith, held.starts_are.within bucket (omega arith))) in
        absurd (omega (arith, lower, others))
  ]

  module _ (key : ℕ) (own : bucket_of buckets key ≡ bucket) where
    abbrev part : List Change
    part = take (until - from) (drop from changes)

    from-within : from ≤ length changes
    from-within = held.starts_are.within bucket (omega arith)

    long-part : length part ≡ until - from
    long-part = length-take-le (until - from) (drop from changes) (omega (arith, length-drop from changes, until-within))

    none_in_front : (i : ℕ) (none : Change) → i < length (take from changes) → (get_or (take from changes) i none).key ≡ key → ⊥
    none_in_front i none lt is =
        let long = length-take-le from changes from-within in
        let there = get_or-take from changes i none (omega (arith, long)) in
        let same : bucket_of buckets (get_or changes i none).key ≡ bucket =
        ap (λ c. bucket_of buckets c.key) (sym there) ∙ ap (bucket_of buckets) is ∙ own in
        absurd (omega (arith, same, held.starts_are.lower bucket i none (omega arith) (omega (arith, long))))

    abbrev back : List Change
    back = drop (until - from) (drop from changes)

    none_in_back : (i : ℕ) (none : Change) → i < length back → (get_or back i none).key ≡ key → ⊥
    none_in_back i none lt is =
        let there : get_or back i none ≡ get_or changes (from + ((until - from) + i)) none =
        get_or-drop (until - from) (drop from changes) i none ∙ get_or-drop from changes ((until - from) + i) none in
        let same : bucket_of buckets (get_or changes (from + ((until - from) + i)) none).key ≡ bucket =
        ap (λ c. bucket_of buckets c.key) (sym there) ∙ ap (bucket_of buckets) is ∙ own in
        let past = from-until in
        let others = held.starts_are.others (bucket + 1) (from + ((until - from) + i)) none (omega arith) (omega (arith, past))
        (omega (arith, lt, length-drop (until - from) (drop from changes), length-drop from changes)) in
        absurd (omega (arith, same, others))

    cut-out : IsCutOut changes part key
    cut-out = record {
      front = take from changes;
      back = back;
      is = sym (ap (λ rest. take from changes ++ rest) (take-append-drop (until - from) (drop from changes))
          ∙ take-append-drop from changes);
      none_front = none_in_front;
      none_back = none_in_back;
    }

    at_part : (i : ℕ) (none : Change) → i < length part → get_or part i none ≡ get_or changes (from + i) none
    at_part i none lt = get_or-take (until - from) (drop from changes) i none (omega (arith, long-part)) ∙ get_or-drop from changes i none

    in_bucket : (i : ℕ) (none : Change) → i < length part → bucket_of buckets (get_or changes (from + i) none).key ≡ bucket
    in_bucket i none lt =
        let others = held.starts_are.others bucket (from + i) none (omega arith) (omega arith) (omega (arith, long-part, until-within)) in
        let lower = held.starts_are.lower (bucket + 1) (from + i) none (omega arith) (omega (arith, long-part)) in
        omega (arith, others, lower)

    part-ordered : IsOrdered part
    part-ordered i j none le within =
        let same = in_bucket i none (omega arith) ∙ sym (in_bucket j none within) in
        let rising = (held.ordered (from + i) (from + j) none (omega arith) (omega (arith, long-part, until-within))).1 same in
        subst (λ c. IsUpTo c.key c.position (get_or part i none)) (sym (at_part j none within))
        (subst (IsUpTo (get_or changes (from + j) none).key (get_or changes (from + j) none).position)
        (sym (at_part i none (omega arith))) rising)

    -- the same at numbers and a list that were read
    module _ (first last : ℕ) (read : List Change) (first_is : first ≡ get_or starts bucket first)
        (last_is : last ≡ get_or starts (bucket + 1) last) (read_is : read ≡ changes) where
      same_first : first ≡ from
      same_first = first_is ∙ get_or_default starts bucket first 0 (omega (arith, held.starts_are.count))

      same_last : last ≡ until
      same_last = last_is ∙ get_or_default starts (bucket + 1) last 0 (omega (arith, held.starts_are.count))

      pub read-rising : first ≤ last
      read-rising = omega (arith, same_first, same_last, from-until)

      pub read-within : last ≤ length read
      read-within = omega (arith, same_last, until-within, ap length read_is)

      read_part : take (last - first) (drop first read) ≡ part
      read_part = λ i. take (same_last i - same_first i) (drop (same_first i) (read_is i))

      pub read-cut : IsCutOut changes (take (last - first) (drop first read)) key
      read-cut = subst (λ p. IsCutOut changes p key) (sym read_part) cut-out

      pub read-ordered : IsOrdered (take (last - first) (drop first read))
      read-ordered = subst IsOrdered (sym read_part) part-ordered

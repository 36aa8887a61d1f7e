-- One replay of a history: whether it is legal, its sizes and its changes, and the changes put in order.
use Rattle.std.proofs.Common.{ℕ, ◌+◌, ◌<◌, ◌↔◌, List, length, get_or, drop, ◌≡◌, ◌-◌, nat_lt, ◌&&◌, Bool, true, false, cond, Option, Some, is_some, [], ◌∷◌, map as map_list, refl, sym, ap, ◌∙◌, arith, ◌≤◌, ◌==◌, nat_le, ◌||◌, take, subst, inl, inr, ◌++◌, length-drop}
use Rattle.std.proofs.lemmas.List.{drop_more, get_or-take, get_or-drop, get_or_append_left, get_or-append-add, get_or_default, take_rest}
use Rattle.prcu_model.specs.declared.operation.Update.{Update}
use Rattle.prcu_model.specs.Dictionary.{Dictionary, updated, IsUpdateAt, AreUpdatesFrom, map_at, key_of, Room}
use Rattle.std.specs.List.{list_any, All}
use Rattle.std.specs.Ordering.{nat_cmp, eq_by_cmp, is_lt, ordering_then}
use Rattle.std.specs.Cmp.{nat_cmp_total}
use Rattle.std.proofs.lemmas.Bool.{false≢true, cases_eq}
use Rattle.std.proofs.lemmas.Bool.Decides.{nat_tests}
use Rattle.prcu_model.specs.declared.operation.Op.TheVariants.{Put, Del, Set}
use Rattle.prcu_model.proofs.Dictionaries.{updated-put_absent, updated-put_present, updated-set_absent, updated-set_present}
use Rattle.std.specs.List.Sorted.{IsPartitionedBy, IsPartitionPoint, IsSortedByKey, IsPermutation}
use Rattle.std.specs.declared.cmp.Ordering.{Ordering}
use Rattle.std.proofs.lemmas.Cmp.{on_total, then_total}
use Rattle.std.proofs.lemmas.List.Sorted.{sorted_far, ranks_by, All-permutation, list_any-IsPermutation}
use Rattle.account_text.specs.declared.key_index.Change.{Change}
use Rattle.account_text.specs.Judging.{IsPast, bucket_of, IsUpTo, IsOrdered, IsOrderedByBucket, IsFilled, IsChangeOf, AreAllChanged, IsIndexed}
use Rattle.std.proofs.lemmas.List.Elements.{All-push}
use Rattle.std.proofs.lemmas.List.Folds.{list_any-append}
use Rattle.std.specs.FinMap as map

-- The updates of a history that are left, one after another.

module _ (m : Dictionary) (history : List Update) (i : ℕ) (u : Update) (below : i < length history) where
  at_next : AreUpdatesFrom m (drop i history) ↔ (IsUpdateAt m (get_or history i u).op
      × AreUpdatesFrom (updated m (get_or history i u).op) (drop (i + 1) history))
  at_next = rw (drop_more history i u below) (λ h. h, λ h. h)

  -- the next is an update, and so are the others
  pub AreUpdatesFrom-next : (P : Type 0) → IsUpdateAt m (get_or history i u).op → (AreUpdatesFrom m (drop i history) ↔ P)
      → AreUpdatesFrom (updated m (get_or history i u).op) (drop (i + 1) history) ↔ P
  AreUpdatesFrom-next P is same = (λ h. same.0 (at_next.1 (is, h)), λ p. (at_next.0 (same.1 p)).1)

  -- the next isn't
  pub AreUpdatesFrom-none : (P : Type 0) → (IsUpdateAt m (get_or history i u).op → ⊥) → (AreUpdatesFrom m (drop i history) ↔ P) → P → ⊥
  AreUpdatesFrom-none P not_one same p = not_one (at_next.0 (same.1 p)).0

-- What sizes and values say of whether an operation was an update, and whether a history is legal, one update after another.

some_entry : (es : List (ℕ × ℕ)) (p : ℕ → Bool) → list_any p (map_list (λ (e : ℕ × ℕ). e.0) es) ≡ true → 0 < length es
some_entry [] p some = absurd (false≢true some)
some_entry (e ∷ es) p some = omega arith

module _ (m : Dictionary) (key : ℕ) where
  -- a dictionary with a key has a pair
  some_pair : map.contains_key m key ≡ true → 0 < map.len m
  some_pair present =
      let some = some_entry (map.entries m) (eq_by_cmp nat_cmp key) (sym (map.contains_key-keys m key) ∙ present) in
      omega (arith, some, map.len-entries m)

  module _ (before after : ℕ) (old : before ≡ map.len m) where
    -- a put was an update where there is a pair more
    pub was-put : (value : ℕ) → after ≡ map.len (updated m (Put key value))
        → (nat_lt before after ≡ true) ↔ (map.contains_key m key ≡ false)
    was-put value new =
        elim (map.contains_key m key) as (λ b. map.contains_key m key ≡ b → (nat_lt before after ≡ true) ↔ (b ≡ false)) [
          | true ↦ λ present.
              let same : map.len (updated m (Put key value)) ≡ map.len m = ap map.len (updated-put_present m key value present) in
              (λ more. absurd (lower more (omega (arith, old, new, same))), λ e. absurd (false≢true (sym e)))
          | false ↦ λ absent.
              let more : map.len (updated m (Put key value)) ≡ map.len m + 1 =
              ap map.len (updated-put_absent m key value absent) ∙ map.len-insert nat_cmp_total m key value
              ∙ ap (λ b. cond b (map.len m) (map.len m + 1)) absent in
              (λ t. refl, λ t. higher (omega (arith, old, new, more)))
        ] refl
      where
        lower : nat_lt before after ≡ true → after ≡ before → ⊥
        lower t e = absurd (grind (arith, nat_tests))

        higher : before < after → nat_lt before after ≡ true
        higher lt = grind (arith, nat_tests)

    -- a del was one where there is a pair fewer
    pub was-del : after ≡ map.len (updated m (Del key)) → (nat_lt after before ≡ true) ↔ (map.contains_key m key ≡ true)
    was-del new =
        let left = map.len-remove nat_cmp_total m key in
        elim (map.contains_key m key) as (λ b. map.contains_key m key ≡ b → (nat_lt after before ≡ true) ↔ (b ≡ true)) [
          | true ↦ λ present.
              let fewer : map.len (map.remove m key) ≡ map.len m - 1 = left ∙ ap (λ b. cond b (map.len m - 1) (map.len m)) present in
              (λ t. refl, λ t. lower (omega (arith, old, new, fewer, some_pair present)))
          | false ↦ λ absent.
              let same : map.len (map.remove m key) ≡ map.len m = left ∙ ap (λ b. cond b (map.len m - 1) (map.len m)) absent in
              (λ t. absurd (equal t (omega (arith, old, new, same))), λ e. absurd (false≢true e))
        ] refl
      where
        lower : after < before → nat_lt after before ≡ true
        lower lt = grind (arith, nat_tests)

        equal : nat_lt after before ≡ true → after ≡ before → ⊥
        equal t e = absurd (grind (arith, nat_tests))

  -- a set was one where its key has a value afterwards
  pub was-set : (value : ℕ) (left : Option ℕ) → left ≡ map.get (updated m (Set key value)) key
      → (is_some left ≡ true) ↔ (map.contains_key m key ≡ true)
  was-set value left is =
      elim (map.contains_key m key) as (λ b. map.contains_key m key ≡ b → (is_some left ≡ true) ↔ (b ≡ true)) [
        | true ↦ λ present.
            let own : eq_by_cmp nat_cmp key key ≡ true = grind (arith, nat_tests) in
            let some : left ≡ Some value = is ∙ ap (λ n. map.get n key) (updated-set_present m key value present)
            ∙ map.get-insert nat_cmp_total m key value key ∙ ap (λ b. cond b (Some value) (map.get m key)) own in
            (λ t. refl, λ t. ap is_some some)
        | false ↦ λ absent.
            let none : is_some left ≡ false = ap is_some (is ∙ ap (λ n. map.get n key) (updated-set_absent m key value absent)) ∙ absent in
            (λ t. absurd (false≢true (sym none ∙ t)), λ e. absurd (false≢true e))
      ] refl

-- Whether all so far were updates, and what that says of the whole history, one update on.
pub legal-more : (legal was : Bool) (A B U L : Type 0) → (legal ≡ true → A ↔ L) → (legal ≡ false → L → ⊥) → ((was ≡ true) ↔ U)
    → (U → A ↔ L → B ↔ L) → ((U → ⊥) → A ↔ L → L → ⊥) → ((legal && was) ≡ true → B ↔ L) × ((legal && was) ≡ false → L → ⊥)
legal-more true true A B U L still broken test next none = (λ t. next (test.0 refl) (still refl), λ f. absurd (false≢true (sym f)))
legal-more true false A B U L still broken test next none =
    (λ t. absurd (false≢true t), λ f. none (λ u. false≢true (test.1 u)) (still refl))
legal-more false true A B U L still broken test next none = (λ t. absurd (false≢true t), λ f. broken refl)
legal-more false false A B U L still broken test next none = (λ t. absurd (false≢true t), λ f. broken refl)

-- at the end
pub legal-end : (legal : Bool) (A L : Type 0) → (legal ≡ true → A ↔ L) → (legal ≡ false → L → ⊥) → A → (legal ≡ true) ↔ L
legal-end true A L still broken all = (λ t. (still refl).0 all, λ l. refl)
legal-end false A L still broken all = (λ t. absurd (false≢true t), λ l. absurd (broken refl l))

-- The order of changes, and where it is split.

abbrev pub is_up_to : ℕ → ℕ → Change → Bool
is_up_to key front change = nat_lt change.key key || (change.key == key && nat_le change.position front)

module _ (key front : ℕ) where
  tested : (k p : ℕ) → (nat_lt k key || (k == key && nat_le p front)) ≡ true → (k ≤ key) × (k ≡ key → p ≤ front)
  tested k p h = (grind (arith, nat_tests), λ e. grind (arith, nat_tests))

  failed : (k p : ℕ) → (nat_lt k key || (k == key && nat_le p front)) ≡ false → (key ≤ k) × (k ≡ key → front < p)
  failed k p h = (grind (arith, nat_tests), λ e. grind (arith, nat_tests))

  passes : (k p : ℕ) → k ≤ key → (k ≡ key → p ≤ front) → (nat_lt k key || (k == key && nat_le p front)) ≡ true
  passes k p le h = grind (arith, nat_tests)

  pub parted : (changes : List Change) → IsOrdered changes → IsPartitionedBy (is_up_to key front) changes
  parted changes ordered i j none le within h =
      let here = tested _ _ h in
      let rising = ordered i j none le within in
      passes _ _ (omega (arith, here.0, rising.0)) (λ e. omega (arith, here, rising))

  module _ (changes : List Change) (count : ℕ) (point : IsPartitionPoint (λ c. is_up_to key front c ≡ true)
      (λ c. is_up_to key front c ≡ false) changes count) where
    pub until-take : count ≤ length changes → (part : List Change) → part ≡ take count changes → length part ≡ count
        → All (IsUpTo key front) part
    until-take bound part is long =
        subst (All (IsUpTo key front)) (sym is) (λ k none lt.
        let lower : k < count = omega (arith, lt, ap length is, long) in
        subst (IsUpTo key front) (sym (get_or-take count changes k none lower)) (tested _ _ (point.0 k none (omega arith) lower)))

    pub past-drop : (part : List Change) → part ≡ drop count changes → length part + count ≡ length changes → All (IsPast key front) part
    past-drop part is long =
        subst (All (IsPast key front)) (sym is) (λ k none lt.
        let within : count + k < length changes = omega (arith, lt, ap length is, long) in
        subst (IsPast key front) (sym (get_or-drop count changes k none)) (failed _ _ (point.1 (count + k) none (omega arith) within)))

-- by bucket, then by key, and then by position
abbrev pub place_of : ℕ → Change → ℕ × ℕ × ℕ
place_of buckets change = (bucket_of buckets change.key, change.key, change.position)

abbrev pub place_cmp : ℕ × ℕ × ℕ → ℕ × ℕ × ℕ → Ordering
place_cmp x y = ordering_then (ordering_then (nat_cmp x.0 y.0) (nat_cmp x.1 y.1)) (nat_cmp x.2 y.2)

not_less : (c d a b p q : ℕ) → is_lt (ordering_then (ordering_then (nat_cmp c d) (nat_cmp a b)) (nat_cmp p q)) ≡ false
    → (d ≤ c) × (d ≡ c → (b ≤ a) × (b ≡ a → q ≤ p))
not_less c d a b p q h = (grind (arith, nat_tests), λ s. (grind (arith, nat_tests), λ e. grind (arith, nat_tests)))

pub IsOrderedByBucket-from_sorted : (buckets : ℕ) (changes : List Change) → IsSortedByKey (place_of buckets) place_cmp changes
    → IsOrderedByBucket buckets changes
IsOrderedByBucket-from_sorted buckets changes sorted i j none le within =
    not_less _ _ _ _ _ _ (sorted_far (λ x y. is_lt (place_cmp (place_of buckets x) (place_of buckets y)))
    (ranks_by (then_total (then_total (on_total (λ (x : ℕ × ℕ × ℕ). x.0) nat_cmp_total)
    (on_total (λ (x : ℕ × ℕ × ℕ). x.1) nat_cmp_total)) (on_total (λ (x : ℕ × ℕ × ℕ). x.2) nat_cmp_total))
    (place_of buckets)) changes sorted i j none le within)

-- What a replay has gathered, one update on.

module _ (history : List Update) (i : ℕ) (below : i < length history) where
  pub sizes-more : (sizes : List ℕ) (n : ℕ) → length sizes ≡ i + 1
      → ((front : ℕ) → front ≤ i → get_or sizes front 0 ≡ map.len (map_at history front)) → n ≡ map.len (map_at history (i + 1))
      → (front : ℕ) → front ≤ i + 1 → get_or (sizes ++ n ∷ []) front 0 ≡ map.len (map_at history front)
  sizes-more sizes n long size is front le = elim (cases_eq front (i + 1)) [
    | inl new ↦
        let at : length sizes + 0 ≡ front = omega arith in
        ap (λ k. get_or (sizes ++ n ∷ []) k 0) (sym at) ∙ get_or-append-add sizes (n ∷ []) 0 0 ∙ is
        ∙ ap (λ k. map.len (map_at history k)) (sym new)
    | inr old ↦
        let lower : front < length sizes = omega (arith, old) in
        get_or_append_left sizes (n ∷ []) 0 front lower ∙ size front (omega (arith, old))
  ]

  pub right-more : (changes : List Change) (key : ℕ) (value : Option ℕ) (u : Update) → All (IsChangeOf history) changes
      → key ≡ key_of (get_or history i u).op → value ≡ map.get (map_at history (i + 1)) key
      → All (IsChangeOf history) (changes ++ record { key = key; position = i + 1; value = value } ∷ [])
  right-more changes key value u right own is =
      let before : (i + 1) - 1 ≡ i = omega arith in
      All-push (IsChangeOf history) changes (record { key = key; position = i + 1; value = value }) right (record {
        from_one = omega arith;
        within = omega arith;
        key = λ none. own ∙ ap (λ x. key_of x.op) (get_or_default history i u none below)
            ∙ ap (λ k. key_of (get_or history k none).op) (sym before);
        value = is;
      })

  pub whole-more : (changes : List Change) (key : ℕ) (value : Option ℕ) → AreAllChanged changes i
      → AreAllChanged (changes ++ record { key = key; position = i + 1; value = value } ∷ []) (i + 1)
  whole-more changes key value whole position some le = elim (cases_eq position (i + 1)) [
    | inl new ↦
        let here : (i + 1 == position) ≡ true = grind (arith, nat_tests) in
        list_any-append (λ change. change.position == position) changes (record { key = key; position = i + 1; value = value } ∷ [])
        ∙ after (list_any (λ change. change.position == position) changes) (i + 1 == position) here
    | inr old ↦
        list_any-append (λ change. change.position == position) changes (record { key = key; position = i + 1; value = value } ∷ [])
        ∙ before (list_any (λ change. change.position == position) changes) ((i + 1 == position) || false)
        (whole position some (omega (arith, old)))
  ]
    where
      after : (a b : Bool) → b ≡ true → (a || (b || false)) ≡ true
      after true b is = refl
      after false true is = refl
      after false false is = is

      before : (a b : Bool) → a ≡ true → (a || b) ≡ true
      before true b is = refl
      before false b is = absurd (cc)

-- the sizes from a front on, as they are cut out of all
module _ (room : Room) (history : List Update) (sizes : List ℕ) (changes : List Change) (indexed : IsIndexed history sizes changes)
    (before : ℕ) (fits : before ≤ length history) (seen : List ℕ) (same : seen ≡ sizes) where
  abbrev later : List ℕ
  later = take (length seen - before) (drop before seen)

  length-later : length later + before ≡ length history + 1
  length-later = ap (λ l. length l + before) (take_rest seen before)
      ∙ omega (arith, length-drop before seen, ap length same, indexed.fronts)

  size-later : (i : ℕ) → before + i ≤ length history → get_or later i 0 ≡ map.len (map_at history (before + i))
  size-later i within =
      ap (λ l. get_or l i 0) (take_rest seen before) ∙ get_or-drop before seen i 0 ∙ ap (λ l. get_or l (before + i) 0) same
      ∙ indexed.size (before + i) within

  filled_at : (front : ℕ) → before ≤ front → front ≤ length history → IsFilled room (map.len (map_at history front))
      → IsFilled room (get_or later (front - before) 0)
  filled_at front above within filled =
      let is : before + (front - before) ≡ front = omega arith in
      subst (IsFilled room) (ap (λ f. map.len (map_at history f)) (sym is) ∙ sym (size-later (front - before) (omega arith))) filled

  pub none-filled : ((i : ℕ) → i < length later → IsFilled room (get_or later i 0) → ⊥) → (front : ℕ) → before ≤ front
      → front ≤ length history → IsFilled room (map.len (map_at history front)) → ⊥
  none-filled none front above within filled = none (front - before) (omega (arith, length-later)) (filled_at front above within filled)

  pub least-filled : (steps : ℕ) → steps < length later → ((i : ℕ) → i < steps → IsFilled room (get_or later i 0) → ⊥) → (other : ℕ)
      → before ≤ other → other < before + steps → IsFilled room (map.len (map_at history other)) → ⊥
  least-filled steps within first other above lower filled =
      first (other - before) (omega arith) (filled_at other above (omega (arith, length-later)) filled)

-- what a replay has gathered, and the changes in another order
pub indexed-from_replay : (history : List Update) (sizes : List ℕ) (changes moved : List Change) → length sizes ≡ length history + 1
    → ((front : ℕ) → front ≤ length history → get_or sizes front 0 ≡ map.len (map_at history front)) → All (IsChangeOf history) changes
    → AreAllChanged changes (length history) → IsPermutation changes moved → IsIndexed history sizes moved
indexed-from_replay history sizes changes moved fronts size right whole same = record {
  fronts = fronts;
  size = size;
  right = All-permutation (IsChangeOf history) changes moved same right;
  whole = λ position some le. sym (list_any-IsPermutation (λ change. change.position == position) changes moved same)
      ∙ whole position some le;
}

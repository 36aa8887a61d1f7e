-- Lists of views, and of numbers of slots and places.
use Rattle.std.proofs.Common.{◌≡◌, ◌≢◌, ℕ, zero, suc, ◌+◌, ◌<◌, ◌≤◌, ◌⊎◌, Bool, true, false, cond, List, [], ◌∷◌, ◌++◌, length, map, take, set, refl, sym, ap, subst, ◌∙◌, ⊎_elim, inl, inr, arith, eq-eqb, ne_eqb}
use Rattle.std.specs.List.{AllByRecursion}
use Rattle.std.proofs.Math.Seq.{take-append_seam}
use Rattle.std.proofs.lemmas.List.{take-append-le}
use mathlib.Core.Logic.{dite}
use mathlib.Core.Option.{some, some-injective, some-ne-none}
use native.Mathlib.Decide.{dec_le, ℕ_discrete}
use lib.ListN.{get_elem?}
use Rattle.atomic_table.proofs.Lists.{at_set, at_longer, set_here, set_else}
use Rattle.list_laws.specs.Counts.{times, numbers_from, total, IsIn, Each, Somewhere, OnlyOne}

module _ {A : Type 0} where
  pub at_below : (l : List A) (i : ℕ) (a : A) → get_elem? l i ≡ some a → i < length l
  at_below [] i a e = absurd (some-ne-none a (sym e))
  at_below (x ∷ xs) zero a e = omega arith
  at_below (x ∷ xs) (suc i) a e = let p = at_below xs i a e in omega arith

  -- what stands in a list with one more element: it stood there, or is the new one at the end
  pub at_end : (l : List A) (a b : A) (j : ℕ) → get_elem? (l ++ a ∷ []) j ≡ some b → (get_elem? l j ≡ some b) ⊎ ((j ≡ length l) × (a ≡ b))
  at_end [] a b zero e = inr (refl, some-injective a b e)
  at_end [] a b (suc j) e = absurd (some-ne-none b (sym e))
  at_end (x ∷ xs) a b zero e = inl e
  at_end (x ∷ xs) a b (suc j) e = elim (at_end xs a b j e) [ inl t ↦ inl t | inr t ↦ inr (ap suc t.0, t.1) ]

  -- before an element of a list stands the same in a longer one
  pub before_at : (l r : List A) (j : ℕ) (a : A) → get_elem? l j ≡ some a → take j (l ++ r) ≡ take j l
  before_at l r j a e = take-append-le j l r (let b = at_below l j a e in omega arith)

  -- a fact of an element and of those before it, in a list with one more element
  pub past_snoc : (P : List A → A → Type 0) (l : List A) (a b : A) → P l a → ((j : ℕ) → get_elem? l j ≡ some b → P (take j l) b) → (j : ℕ)
      → get_elem? (l ++ a ∷ []) j ≡ some b → P (take j (l ++ a ∷ [])) b
  past_snoc P l a b new old j e = ⊎_elim
      (λ (o : get_elem? l j ≡ some b). subst (λ xs. P xs b) (sym (before_at l (a ∷ []) j b o)) (old j o))
      (λ (n : (j ≡ length l) × (a ≡ b)). subst (λ (z : List A × A). P z.0 z.1)
      (λ i. (sym (ap (λ x. take x (l ++ a ∷ [])) n.0 ∙ take-append_seam l (a ∷ [])) i, n.1 i)) new)
      (at_end l a b j e)

  pub set_twice : (l : List A) (i : ℕ) (a b : A) → set (set l i a) i b ≡ set l i b
  set_twice [] i a b = refl
  set_twice (x ∷ xs) zero a b = refl
  set_twice (x ∷ xs) (suc i) a b = ap (λ ys. x ∷ ys) (set_twice xs i a b)

  -- the element at a place is one
  pub at_one : (l : List A) (i : ℕ) (a b : A) → get_elem? l i ≡ some a → get_elem? l i ≡ some b → a ≡ b
  at_one l i a b ea eb = some-injective a b (sym ea ∙ eb)

  -- a fact of each element, after one has changed
  pub each_set : (P : ℕ → A → Type 0) (vs : List A) (id : ℕ) (w : A) → P id w → ((j : ℕ) (u : A) → j ≢ id → get_elem? vs j ≡ some u → P j u)
      → (j : ℕ) (u : A) → get_elem? (set vs id w) j ≡ some u → P j u
  each_set P vs id w mine others j u e = ⊎_elim (λ (t : (j ≡ id) × (w ≡ u)). subst (λ (x : ℕ × A). P x.0 x.1)
      (λ i. (sym t.0 i, t.1 i)) mine)
      (λ (t : (j ≢ id) × (get_elem? vs j ≡ some u)). others j u t.0 t.1) (at_set vs id j w u e)

  -- the same, where what holds of the old elements follows from what held
  pub each_change : (P Q : A → Type 0) (vs : List A) (id : ℕ) (v w : A) → get_elem? vs id ≡ some v → (P v → Q w) → ((u : A) → P u → Q u)
      → Each vs P → Each (set vs id w) Q
  each_change P Q vs id v w at mine others all = each_set (λ j u. Q u) vs id w (mine (all id v at)) (λ j u other e. others u (all j u e))

  -- the element at this place, where it is the one that has the property
  pub somewhere_at : {P : A → Type 0} (vs : List A) (id : ℕ) (v : A) → get_elem? vs id ≡ some v → (s : Somewhere vs P) → s.id ≡ id → P v
  somewhere_at {P} vs id v at s same = subst P (at_one vs id s.view v (subst (λ j. get_elem? vs j ≡ some s.view) same s.there) at) s.has

  -- the changed element has it
  pub somewhere_here : {P : A → Type 0} (vs : List A) (id : ℕ) (v w : A) → get_elem? vs id ≡ some v → P w → Somewhere (set vs id w) P
  somewhere_here vs id v w at has = record { id = id; view = w; there = set_here vs id w (at_below vs id v at); has = has }

  -- After one has changed: the changed one had it, or another one has it still.
  pub somewhere_set : {P : A → Type 0} (vs : List A) (id : ℕ) (v w : A) → get_elem? vs id ≡ some v → Somewhere vs P
      → P v ⊎ Somewhere (set vs id w) P
  somewhere_set vs id v w at s = dite (ℕ_discrete s.id id) (λ same. inl (somewhere_at vs id v at s same))
      (λ ne. inr (record { id = s.id; view = s.view; there = set_else vs id s.id w ne ∙ s.there; has = s.has }))

  -- the same, where the changed one keeps it
  pub somewhere_still : {P : A → Type 0} (vs : List A) (id : ℕ) (v w : A) → get_elem? vs id ≡ some v → (P v → P w) → Somewhere vs P
      → Somewhere (set vs id w) P
  somewhere_still {P} vs id v w at kept s = ⊎_elim (λ (had : P v). somewhere_here vs id v w at (kept had)) (λ still. still)
      (somewhere_set vs id v w at s)

  -- and back, where the changed one had it
  pub somewhere_was : {P : A → Type 0} (vs : List A) (id : ℕ) (v w : A) → get_elem? vs id ≡ some v → (P w → P v) → Somewhere (set vs id w) P
      → Somewhere vs P
  somewhere_was {P} vs id v w at had s =
      ⊎_elim (λ (t : (s.id ≡ id) × (w ≡ s.view)). record { id = id; view = v; there = at; has = had (subst P (sym t.1) s.has) })
      (λ (t : (s.id ≢ id) × (get_elem? vs s.id ≡ some s.view)). record { id = s.id; view = s.view; there = t.1; has = s.has })
      (at_set vs id s.id w s.view s.there)

  pub somewhere_longer : {P : A → Type 0} (vs us : List A) → Somewhere vs P → Somewhere (vs ++ us) P
  somewhere_longer vs us s = record { id = s.id; view = s.view; there = at_longer vs us s.id s.view s.there; has = s.has }

  -- an element is the only one that has the first property, or has the second
  pub only_at : {P Q : A → Type 0} (vs : List A) (id : ℕ) (v : A) → get_elem? vs id ≡ some v → OnlyOne vs P Q
      → (P v × ((j : ℕ) (u : A) → j ≢ id → get_elem? vs j ≡ some u → Q u)) ⊎ Q v
  only_at {P} vs id v at one = dite (ℕ_discrete one.id id)
      (λ same. inl (
        subst P (at_one vs id one.view v (subst (λ j. get_elem? vs j ≡ some one.view) same one.there) at) one.has,
        λ j u ne e. one.alone j u (λ f. ne (f ∙ same)) e,
      ))
      (λ ne. inr (one.alone id v (λ e. ne (sym e)) at))

  -- after one has changed it is the only one
  pub only_here : {P Q : A → Type 0} (vs : List A) (id : ℕ) (v w : A) → get_elem? vs id ≡ some v → P w
      → ((j : ℕ) (u : A) → j ≢ id → get_elem? vs j ≡ some u → Q u) → OnlyOne (set vs id w) P Q
  only_here {Q = Q} vs id v w at has others = record {
    id = id;
    view = w;
    there = set_here vs id w (at_below vs id v at);
    has = has;
    alone = λ j u ne e. others j u ne (sym (set_else vs id j w ne) ∙ e);
  }

  -- or the only one is the one that was
  pub only_change : {P Q R : A → Type 0} (vs : List A) (id : ℕ) (v w : A) → get_elem? vs id ≡ some v → (P v → R w)
      → ((u : A) → P u → R u) → (Q v → Q w) → OnlyOne vs P Q → OnlyOne (set vs id w) R Q
  only_change {P} {Q} vs id v w at mine others free one = dite (ℕ_discrete one.id id)
      (λ same. only_here vs id v w at
      (mine (subst P (at_one vs id one.view v (subst (λ j. get_elem? vs j ≡ some one.view) same one.there) at) one.has))
      (λ j u ne e. one.alone j u (λ f. ne (f ∙ same)) e))
      (λ ne. record {
        id = one.id;
        view = one.view;
        there = set_else vs id one.id w ne ∙ one.there;
        has = others one.view one.has;
        alone = λ j u far e. each_set (λ k z. k ≢ one.id → Q z) vs id w (λ _. free (one.alone id v (λ f. ne (sym f)) at))
            (λ k z _ q f. one.alone k z f q) j u e far;
      })

  pub total_set : (f : A → ℕ) (vs : List A) (id : ℕ) (v w : A) → get_elem? vs id ≡ some v → total f (set vs id w) + f v ≡ total f vs + f w
  total_set f [] id v w e = absurd (some-ne-none v (sym e))
  total_set f (x ∷ xs) zero v w e = let s = ap f (some-injective x v e) in omega arith
  total_set f (x ∷ xs) (suc id) v w e = let s = total_set f xs id v w e in omega arith

  pub total_same : (f : A → ℕ) (vs : List A) (id : ℕ) (v w : A) → get_elem? vs id ≡ some v → f w ≡ f v → total f (set vs id w) ≡ total f vs
  total_same f vs id v w at same = let s = total_set f vs id v w at in omega arith

  pub total_part : (f : A → ℕ) (vs : List A) (id : ℕ) (v : A) → get_elem? vs id ≡ some v → f v ≤ total f vs
  total_part f [] id v e = absurd (some-ne-none v (sym e))
  total_part f (x ∷ xs) zero v e = let s = ap f (some-injective x v e) in omega arith
  total_part f (x ∷ xs) (suc id) v e = let s = total_part f xs id v e in omega arith

  pub total_append : (f : A → ℕ) (us vs : List A) → total f (us ++ vs) ≡ total f us + total f vs
  total_append f [] vs = omega arith
  total_append f (u ∷ us) vs = let s = total_append f us vs in omega arith

  -- two elements count for two
  pub total_two : (f : A → ℕ) (vs : List A) (i j : ℕ) (v w : A) → get_elem? vs i ≡ some v → get_elem? vs j ≡ some w → i ≢ j
      → f v + f w ≤ total f vs
  total_two f [] i j v w ei ej ne = absurd (some-ne-none v (sym ei))
  total_two f (x ∷ xs) zero zero v w ei ej ne = absurd (ne refl)
  total_two f (x ∷ xs) zero (suc j) v w ei ej ne = let s = ap f (some-injective x v ei) in let t = total_part f xs j w ej in omega arith
  total_two f (x ∷ xs) (suc i) zero v w ei ej ne = let s = ap f (some-injective x w ej) in let t = total_part f xs i v ei in omega arith
  total_two f (x ∷ xs) (suc i) (suc j) v w ei ej ne = let s = total_two f xs i j v w ei ej (λ e. ne (ap suc e)) in omega arith

  -- an element of a list of two parts is one of the first or of the second
  pub in_append : (xs ys : List A) (a : A) → IsIn (xs ++ ys) a → IsIn xs a ⊎ IsIn ys a
  in_append [] ys a i = inr i
  in_append (x ∷ xs) ys a (zero, e) = inl (0, e)
  in_append (x ∷ xs) ys a (suc j, e) = ⊎_elim (λ (t : IsIn xs a). inl (suc t.0, t.1)) (λ t. inr t) (in_append xs ys a (j, e))

  pub in_first : (xs ys : List A) (a : A) → IsIn xs a → IsIn (xs ++ ys) a
  in_first xs ys a i = (i.0, at_longer xs ys i.0 a i.1)

  pub in_second : (xs ys : List A) (a : A) → IsIn ys a → IsIn (xs ++ ys) a
  in_second [] ys a i = i
  in_second (x ∷ xs) ys a i = let r = in_second xs ys a i in (suc r.0, r.1)

-- a number that is 1 or 0 by a test
pub at_most_one : (test : Bool) (n : ℕ) → n ≡ cond test 1 0 → n ≤ 1
at_most_one true n e = omega arith
at_most_one false n e = omega arith

-- how often numbers stand in lists
pub times_append : (x : ℕ) (ys zs : List ℕ) → times x (ys ++ zs) ≡ times x ys + times x zs
times_append x [] zs = omega arith
times_append x (y ∷ ys) zs = let s = times_append x ys zs in omega arith

pub times_here : (x : ℕ) (ys : List ℕ) → times x (x ∷ ys) ≡ 1 + times x ys
times_here x ys = ap (λ b. cond b 1 0 + times x ys) (eq-eqb x x refl)

pub times_other : (x y : ℕ) (ys : List ℕ) → y ≢ x → times x (y ∷ ys) ≡ times x ys
times_other x y ys ne = let e : times x (y ∷ ys) ≡ 0 + times x ys = ap (λ b. cond b 1 0 + times x ys) (ne_eqb y x ne) in omega arith

-- a number that stands in a mapped list
pub times_in : {A : Type 0} (f : A → ℕ) (xs : List A) (a : A) → IsIn xs a → 1 ≤ times (f a) (map f xs)
times_in f [] a i = absurd (some-ne-none a (sym i.1))
times_in f (x ∷ xs) a (zero, e) = let t : times (f a) (f x ∷ map f xs) ≡ 1 + times (f a) (map f xs) =
    subst (λ z. times (f a) (z ∷ map f xs) ≡ 1 + times (f a) (map f xs)) (ap f (sym (some-injective x a e)))
    (times_here (f a) (map f xs)) in omega arith
times_in f (x ∷ xs) a (suc j, e) = let t = times_in f xs a (j, e) in omega arith

-- the numbers of a row, each once
pub times_from : (x first n : ℕ) → 1 ≤ times x (numbers_from first n) → (first ≤ x) × (x < first + n)
times_from x first zero there = absurd (omega arith)
times_from x first (suc n) there =
    dite (ℕ_discrete first x) (λ e. (omega arith, omega arith))
    (λ ne. let t = times_other x first (numbers_from (first + 1) n) ne in let r = times_from x (first + 1) n (omega arith) in
    let low = r.0 in let high = r.1 in (omega arith, omega arith))

pub from_times : (x first n : ℕ) → first ≤ x → x < first + n → times x (numbers_from first n) ≡ 1
from_times x first zero low high = absurd (omega arith)
from_times x first (suc n) low high =
    dite (ℕ_discrete first x)
    (λ e. let t : times x (first ∷ numbers_from (first + 1) n) ≡ 1 + times x (numbers_from (first + 1) n) =
    subst (λ z. times z (first ∷ numbers_from (first + 1) n) ≡ 1 + times z (numbers_from (first + 1) n)) e
    (times_here first (numbers_from (first + 1) n)) in
    dite (dec_le 1 (times x (numbers_from (first + 1) n))) (λ again. absurd (let r = (times_from x (first + 1) n again).0 in omega arith))
    (λ once. omega arith))
    (λ ne. let t = times_other x first (numbers_from (first + 1) n) ne in let r = from_times x (first + 1) n (omega arith) (omega arith) in
    omega arith)

pub not_from : (x first n : ℕ) → (x < first) ⊎ (first + n ≤ x) → times x (numbers_from first n) ≡ 0
not_from x first n out = dite (dec_le 1 (times x (numbers_from first n)))
    (λ there. absurd (let r = times_from x first n there in let low = r.0 in let high = r.1 in
    ⊎_elim (λ (a : x < first). omega arith) (λ (b : first + n ≤ x). omega arith) out)) (λ none. omega arith)

-- what holds of all numbers of a list holds of one that stands there
pub all_times : (P : ℕ → Type 0) (xs : List ℕ) (x : ℕ) → AllByRecursion P xs → 1 ≤ times x xs → P x
all_times P [] x all there = absurd (omega arith)
all_times P (y ∷ ys) x all there =
    dite (ℕ_discrete y x) (λ e. subst P e all.0) (λ ne. let t = times_other x y ys ne in all_times P ys x all.1 (omega arith))

-- a fact of all numbers of a list, where it follows for those that stand there
pub all_from_times : (P : ℕ → Type 0) (xs : List ℕ) → ((x : ℕ) → 1 ≤ times x xs → P x) → AllByRecursion P xs
all_from_times P [] f = tt
all_from_times P (y ∷ ys) f = (
  f y (let t = times_here y ys in omega arith),
  all_from_times P ys (λ x there. f x (dite (ℕ_discrete y x)
      (λ e. let t : times x (y ∷ ys) ≡ 1 + times x ys = subst (λ z. times z (y ∷ ys) ≡ 1 + times z ys) e (times_here y ys) in omega arith)
      (λ ne. let t = times_other x y ys ne in omega arith))),
)

-- one fact from another for the numbers that stand there
pub all_change : (P Q : ℕ → Type 0) (xs : List ℕ) → ((x : ℕ) → 1 ≤ times x xs → P x → Q x) → AllByRecursion P xs → AllByRecursion Q xs
all_change P Q xs f all = all_from_times Q xs (λ x there. f x there (all_times P xs x all there))

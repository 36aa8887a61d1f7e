-- Where the free count is 0 the dictionary is large: each slot is somewhere. It is never larger than the slots: each place keeps one.
use Rattle.std.proofs.Common.{◌≡◌, ℕ, zero, suc, ◌+◌, ◌-◌, ◌*◌, ◌<◌, ◌≤◌, ◌==◌, not, ◌&&◌, Bool, true, false, List, [], ◌∷◌, ◌++◌, length, map, Option, Some, None, refl, sym, ap, subst, ◌∙◌, arith, eq-eqb, ne_eqb, length-append}
use Rattle.std.proofs.Math.Nat.{le-mul_of_pos_right, mul-le-mul_left}
use Rattle.std.proofs.lemmas.Bool.{lt-ltb}
use mathlib.Core.Logic.{dite}
use mathlib.Core.Option.{some, some-injective, some-ne-none}
use native.Mathlib.Decide.{dec_le, ℕ_discrete}
use lib.ListN.{get_elem?}
use Rattle.prcu_marks.specs.declared.mark.Mark.{Mark}
use Rattle.core_state.specs.declared.shape.Shape.{Shape}
use Rattle.core_state.specs.declared.words.Field.TheVariants.{State}
use Rattle.core_state.specs.declared.view.Held.{Held}
use Rattle.core_state.specs.declared.view.Move.{Move}
use Rattle.core_state.specs.declared.view.Retired.{Retired}
use Rattle.core_state.specs.declared.view.Spent.{Spent}
use Rattle.core_state.specs.declared.view.View.{View}
use Rattle.list_laws.specs.Counts.{times, numbers_from, total, IsIn, Each}
use Rattle.core_state.specs.Memory.{sum_below, flag, count_below, has, Memory, slot_count}
use Rattle.core_state.specs.Views.{places_of, slot_list, held_list, joined_spares, spares_of, joined_retired, retired_of, slots_of}
use Rattle.core_state.specs.Steps.{spent_view}
use Rattle.core_state.specs.Parts.{roles_of, HasFewSpent, HasFewSlots, young_count, old_count}
use Rattle.core_state.specs.Invariant.{HoldsNow}
use Rattle.core_frames.specs.Laws.{HoldsNothing, EmptyIsFull, PairsFit}
use Rattle.list_laws.proofs.Lists.{total_part}
use Rattle.core_frames.proofs.Roles.{place_within}
use Rattle.core_frames.proofs.Views.{sum_add, sum_times, times_sum, sum_same, sum_here}

-- sums below a number
sum_one : (f : ℕ → ℕ) (n : ℕ) → ((s : ℕ) → s < n → f s ≡ 1) → sum_below f n ≡ n
sum_one f zero one = refl
sum_one f (suc n) one = let a = one n (omega arith) in let b = sum_one f n (λ s lt. one s (omega arith)) in omega arith

sum_le : (f g : ℕ → ℕ) (n : ℕ) → ((s : ℕ) → s < n → f s ≤ g s) → sum_below f n ≤ sum_below g n
sum_le f g zero le = omega arith
sum_le f g (suc n) le = let a = le n (omega arith) in let b = sum_le f g n (λ s lt. le s (omega arith)) in omega arith

-- sums over views
sum_total : {A : Type 0} (f : ℕ → A → ℕ) (vs : List A) (n : ℕ)
    → sum_below (λ s. total (f s) vs) n ≡ total (λ v. sum_below (λ s. f s v) n) vs
sum_total f [] zero = refl
sum_total f [] (suc n) = let a = sum_total f [] n in omega arith
sum_total f (v ∷ vs) n = sum_add (λ s. f s v) (λ s. total (f s) vs) n ∙ ap (λ x. sum_below (λ s. f s v) n + x) (sum_total f vs n)

total_add : {A : Type 0} (f g : A → ℕ) (vs : List A) → total (λ v. f v + g v) vs ≡ total f vs + total g vs
total_add f g [] = refl
total_add f g (v ∷ vs) = let a = total_add f g vs in omega arith

pub total_le : {A : Type 0} (f g : A → ℕ) (vs : List A) → Each vs (λ v. f v ≤ g v) → total f vs ≤ total g vs
total_le f g [] le = omega arith
total_le f g (v ∷ vs) le = let a = le 0 v refl in let b = total_le f g vs (λ i u e. le (suc i) u e) in omega arith

total_le_but : {A : Type 0} (f g : A → ℕ) (vs : List A) (id more less : ℕ) (v : A) → get_elem? vs id ≡ some v → f v + more ≤ g v + less
    → Each vs (λ v. f v ≤ g v) → total f vs + more ≤ total g vs + less
total_le_but f g [] id more less v at own le = absurd (some-ne-none v (sym at))
total_le_but f g (x ∷ xs) zero more less v at own le =
    let a : f x + more ≤ g x + less = subst (λ z. f z + more ≤ g z + less) (sym (some-injective x v at)) own in
    let b = total_le f g xs (λ i u e. le (suc i) u e) in omega arith
total_le_but f g (x ∷ xs) (suc id) more less v at own le = let a = le 0 x refl in
    let b = total_le_but f g xs id more less v at own (λ i u e. le (suc i) u e) in omega arith

total_times : {A : Type 0} (c : ℕ) (f : A → ℕ) (vs : List A) → total (λ v. c * f v) vs ≡ c * total f vs
total_times c f [] = omega arith
total_times c f (v ∷ vs) = let a = total_times c f vs in let b : c * (f v + total f vs) ≡ c * f v + c * total f vs = omega arith in
    omega arith

length_row : (first n : ℕ) → length (numbers_from first n) ≡ n
length_row first zero = refl
length_row first (suc n) = let a = length_row (first + 1) n in omega arith

length_map : {A : Type 0} (f : A → ℕ) (xs : List A) → length (map f xs) ≡ length xs
length_map f [] = refl
length_map f (x ∷ xs) = let a = length_map f xs in omega arith

length_slot : (o : Option ℕ) → length (slot_list o) ≤ 1
length_slot None = omega arith
length_slot (Some s) = omega arith

length_held : (o : Option Held) → length (held_list o) ≤ 1
length_held None = omega arith
length_held (Some held) = omega arith

flag_most : (b : Bool) → flag b ≤ 1
flag_most true = omega arith
flag_most false = omega arith

has_most : (o : Option Move) → has o ≤ 1
has_most None = omega arith
has_most (Some move) = omega arith

-- the slots that stay at spent places: a spare each, and so many retired ones at most
joined_few : (most : ℕ) (ss : List Spent) → Each ss (HasFewSpent most)
    → length (joined_spares ss) + length (joined_retired ss) ≤ (most + 1) * length ss
joined_few most [] few = omega arith
joined_few most (s ∷ ss) few =
    let a = length-append (slot_list s.spare) (joined_spares ss) in
    let b = length-append s.retired (joined_retired ss) in
    let c = length_slot s.spare in
    let d = (few 0 s refl).few in
    let e = joined_few most ss (λ i t at. few (suc i) t at) in
    omega arith

-- what a view has of slots, with what it has reserved, owes and has under way
abbrev share : View → ℕ
share v = flag v.hands.reserved + (flag v.hands.owes + (has v.moving + length (slots_of v)))

slots_length : (v : View) → length (slots_of v)
    ≡ length (held_list v.hands.hand) + length (held_list v.hands.spare) + (v.allowance.places - 1)
    + length (joined_spares v.allowance.joined) + length v.hands.retired + length (joined_retired v.allowance.joined)
slots_length v =
    let a = length-append (held_list v.hands.hand) (spares_of v ++ map (λ (r : Retired). r.slot) (retired_of v)) in
    let b = length-append (spares_of v) (map (λ (r : Retired). r.slot) (retired_of v)) in
    let c = length-append (held_list v.hands.spare)
    (numbers_from (v.allowance.place + 2) (v.allowance.places - 1) ++ joined_spares v.allowance.joined) in
    let d = length-append (numbers_from (v.allowance.place + 2) (v.allowance.places - 1)) (joined_spares v.allowance.joined) in
    let e = length_row (v.allowance.place + 2) (v.allowance.places - 1) in
    let f = length_map (λ (r : Retired). r.slot) (retired_of v) in
    let g = length-append v.hands.retired (joined_retired v.allowance.joined) in
    omega arith

pub places_length : (v : View) → length (places_of v) ≡ v.allowance.places + length v.allowance.joined
places_length v =
    let a = length-append (numbers_from v.allowance.place v.allowance.places) (map (λ (s : Spent). s.place) v.allowance.joined) in
    let b = length_row v.allowance.place v.allowance.places in
    let c = length_map (λ (s : Spent). s.place) v.allowance.joined in
    omega arith

-- a slot reserved, or one in hand
one_hand : {most : ℕ} (v : View) → HasFewSlots most v → flag v.hands.reserved + length (held_list v.hands.hand) ≤ 1
one_hand v few = cases v.hands.reserved refl
  where
    cases : (b : Bool) → v.hands.reserved ≡ b → flag v.hands.reserved + length (held_list v.hands.hand) ≤ 1
    cases true e = let a = ap flag e in let b = ap (λ o. length (held_list o)) (few.one e) in omega arith
    cases false e = let a = ap flag e in let b = length_held v.hands.hand in omega arith

-- a place that is worked at has at most four slots beside its retired ones, another fewer
share_most : (most : ℕ) (v : View) → HasFewSlots most v → (v.allowance.places ≡ 0 → v ≡ spent_view)
    → share v ≤ (most + 4) * length (places_of v)
share_most most v few spent =
    let a = slots_length v in
    let b = ap (λ n. (most + 4) * n) (places_length v) in
    let c = joined_few most v.allowance.joined few.joined in
    let d = one_hand v few in
    let e = flag_most v.hands.owes in
    let f = has_most v.moving in
    let g = length_held v.hands.spare in
    let r = few.few in
    dite (dec_le 1 v.allowance.places) (λ works. (let own = le-mul_of_pos_right most works in omega arith))
    (λ none. (let z : share v ≡ 0 = ap share (spent (omega arith)) in omega arith))

share_own : (most : ℕ) (v : View) → HasFewSlots most v → HoldsNothing v
    → share v + (most + 4) ≤ (most + 4) * length (places_of v) + (1 + length v.hands.retired)
share_own most v few nothing =
    let a = slots_length v in
    let b = ap (λ n. (most + 4) * n) (places_length v) in
    let c = joined_few most v.allowance.joined few.joined in
    let d = ap flag nothing.reserved in
    let e = ap flag nothing.owes in
    let f = ap has nothing.moving in
    let g = length_held v.hands.spare in
    let h = ap (λ o. length (held_list o)) nothing.hand in
    let works = nothing.works in
    let own = le-mul_of_pos_right most works in
    omega arith

one_less : (c n : ℕ) → 1 ≤ n → c * n ≡ c * (n - 1) + c
one_less c n positive = ap (λ x. c * x) (let e : n ≡ (n - 1) + 1 = omega arith in e) ∙ (let d : (x : ℕ) → c * (x + 1) ≡ c * x + c =
    λ x. omega arith in d (n - 1))

module _ (k : Shape) (m : Memory) (vs : List View) (h : List Mark) (i : HoldsNow k m vs h) where
  -- linked slots are the root, those that hold pairs, and old successors
  linked_most : count_below i.chart.linked (slot_count k) ≤ 1 + young_count i.chart (slot_count k) + old_count i.chart (slot_count k)
  linked_most =
      let a = sum_le (λ s. flag (i.chart.linked s))
      (λ s. flag (0 == s) + (flag (i.chart.linked s && (not (s == 0) && not (i.chart.old s)))
      + flag (i.chart.linked s && i.chart.old s))) (slot_count k) (λ s lt. each s) in
      let b = sum_add (λ s. flag (0 == s)) (λ s. flag (i.chart.linked s && (not (s == 0) && not (i.chart.old s)))
      + flag (i.chart.linked s && i.chart.old s)) (slot_count k) in
      let c = sum_add (λ s. flag (i.chart.linked s && (not (s == 0) && not (i.chart.old s))))
      (λ s. flag (i.chart.linked s && i.chart.old s)) (slot_count k) in
      let d = sum_same 0 (slot_count k) in
      omega arith
    where
      split : (l z o : Bool) → z ≡ false → flag l ≤ flag (l && (not z && not o)) + flag (l && o)
      split true true o e = absurd (cc)
      split true false true e = omega arith
      split true false false e = omega arith
      split false z o e = omega arith

      each : (s : ℕ) → flag (i.chart.linked s) ≤ flag (0 == s)
          + (flag (i.chart.linked s && (not (s == 0) && not (i.chart.old s))) + flag (i.chart.linked s && i.chart.old s))
      each s = dite (ℕ_discrete 0 s)
          (λ e. (let a = ap flag (eq-eqb 0 s e) in let b = flag_most (i.chart.linked s) in omega arith))
          (λ ne. (let a = split (i.chart.linked s) (s == 0) (i.chart.old s) (ne_eqb s 0 (λ e. ne (sym e))) in omega arith))

  -- each slot is counted in one role
  pub all_roles : slot_count k ≡ count_below (λ s. m (State s) == 0) (slot_count k) + count_below i.chart.linked (slot_count k)
      + total (λ (v : View). sum_below (λ s. times s (slots_of v)) (slot_count k)) vs
  all_roles =
      let n : ℕ = slot_count k in
      let one = sum_one (roles_of m i.chart vs) n (λ s lt. i.slots.roles.once s lt) in
      let a = sum_add (λ s. flag (m (State s) == 0) + flag (i.chart.linked s)) (λ s. total (λ (v : View). times s (slots_of v)) vs) n in
      let b = sum_add (λ s. flag (m (State s) == 0)) (λ s. flag (i.chart.linked s)) n in
      let c = sum_total (λ s (v : View). times s (slots_of v)) vs n in
      omega arith

  -- and each place
  pub all_placed : k.places ≡ total (λ (v : View). sum_below (λ p. times p (places_of v)) k.places) vs
  all_placed =
      let a = sum_total (λ p (v : View). times p (places_of v)) vs k.places in
      let b = sum_one (λ p. total (λ (v : View). times p (places_of v)) vs) k.places
      (λ p lt. i.seats.placed p ∙ ap flag (lt-ltb p k.places lt)) in
      omega arith

  all_slots : slot_count k ≤ count_below (λ s. m (State s) == 0) (slot_count k) + count_below i.chart.linked (slot_count k)
      + total (λ (v : View). length (slots_of v)) vs
  all_slots =
      let a = all_roles in
      let b = total_le (λ (v : View). sum_below (λ s. times s (slots_of v)) (slot_count k)) (λ (v : View). length (slots_of v)) vs
      (λ j v at. sum_times (slots_of v) (slot_count k)) in
      omega arith

  pub all_places : total (λ (v : View). length (places_of v)) vs ≤ k.places
  all_places =
      let a = all_placed in
      let b = total_le (λ (v : View). length (places_of v)) (λ (v : View). sum_below (λ p. times p (places_of v)) k.places) vs
      (λ j v at. times_sum (places_of v) k.places (λ x there. place_within k.places vs i.seats.placed j x v at there)) in
      omega arith

pub empty_is_full : EmptyIsFull
empty_is_full k m vs h i id v there nothing empty =
    let few = i.slots.few in
    let spent = i.seats.spent in
    let a = all_slots k m vs h i in
    let b = linked_most k m vs h i in
    let c = i.counts.free in
    let d = i.counts.pairs in
    let e = i.counts.olds in
    let each : ℕ = k.room + 4 in
    let f = total_le_but share (λ (u : View). each * length (places_of u)) vs id each (1 + length v.hands.retired) v there
    (share_own k.room v (few id v there) nothing) (λ j u at. share_most k.room u (few j u at) (spent j u at)) in
    let g = total_times each (λ (u : View). length (places_of u)) vs in
    let p = mul-le-mul_left each (all_places k m vs h i) in
    let q = total_add (λ (u : View). flag u.hands.reserved) (λ (u : View). flag u.hands.owes + (has u.moving + length (slots_of u))) vs in
    let r = total_add (λ (u : View). flag u.hands.owes) (λ (u : View). has u.moving + length (slots_of u)) vs in
    let t = total_add (λ (u : View). has u.moving) (λ (u : View). length (slots_of u)) vs in
    let s = one_less each k.places i.table.some_place in
    omega arith

-- a list with an element isn't empty
length_some : {A : Type 0} (xs : List A) (a : A) → IsIn xs a → 1 ≤ length xs
length_some [] a has = absurd (some-ne-none a (sym has.1))
length_some (x ∷ xs) a has = omega arith

-- a place that was joined keeps a slot
joined_some : {most : ℕ} (ss : List Spent) → Each ss (HasFewSpent most) → length ss ≤ length (joined_spares ss) + length (joined_retired ss)
joined_some [] each = omega arith
joined_some (s ∷ ss) each =
    let a = length-append (slot_list s.spare) (joined_spares ss) in
    let b = length-append s.retired (joined_retired ss) in
    let c = one s.spare refl in
    let d = joined_some ss (λ i t at. each (suc i) t at) in
    omega arith
  where
    one : (o : Option ℕ) → s.spare ≡ o → 1 ≤ length (slot_list s.spare) + length s.retired
    one None e = let r = (each 0 s refl).next_spare e in let a = length_some s.retired r.retired r.has in omega arith
    one (Some t) e = let a = ap (λ x. length (slot_list x)) e in omega arith

-- so does one that is worked at
share_least : {most : ℕ} (v : View) → HasFewSlots most v → (v.allowance.places ≡ 0 → v ≡ spent_view) → length (places_of v) ≤ length (slots_of v)
share_least v few spent =
    let a = slots_length v in
    let b = places_length v in
    let c = joined_some v.allowance.joined few.joined in
    dite (dec_le 1 v.allowance.places)
    (λ works. (let d = one works v.hands.spare refl in omega arith))
    (λ none. (let z : length (places_of v) ≡ 0 = ap (λ u. length (places_of u)) (spent (omega arith)) in omega arith))
  where
    one : 1 ≤ v.allowance.places → (o : Option Held) → v.hands.spare ≡ o → 1 ≤ length (held_list v.hands.spare) + length v.hands.retired
    one works None e = let r = few.next_spare works e in let a = length_some v.hands.retired r.retired r.has in omega arith
    one works (Some held) e = let a = ap (λ x. length (held_list x)) e in omega arith

module _ (k : Shape) (m : Memory) (vs : List View) (h : List Mark) (i : HoldsNow k m vs h) where
  each_place : k.places ≤ total (λ (v : View). length (places_of v)) vs
  each_place =
      let a = all_placed k m vs h i in
      let b = total_le (λ (v : View). sum_below (λ p. times p (places_of v)) k.places) (λ (v : View). length (places_of v)) vs
      (λ j v at. sum_times (places_of v) k.places) in
      omega arith

  -- linked slots are the root and those that hold pairs, and others
  linked_least : 1 + young_count i.chart (slot_count k) ≤ count_below i.chart.linked (slot_count k)
  linked_least =
      let a = sum_le (λ s. flag (0 == s) + flag (i.chart.linked s && (not (s == 0) && not (i.chart.old s)))) (λ s. flag (i.chart.linked s))
      (slot_count k) (λ s lt. each s) in
      let b = sum_add (λ s. flag (0 == s)) (λ s. flag (i.chart.linked s && (not (s == 0) && not (i.chart.old s)))) (slot_count k) in
      let c = sum_here 0 (slot_count k) (omega arith) in
      omega arith
    where
      other : (l z o : Bool) → flag (l && (not z && not o)) ≤ flag l
      other true z o = flag_most (not z && not o)
      other false z o = omega arith

      root : (l z o : Bool) → l ≡ true → z ≡ true → 1 + flag (l && (not z && not o)) ≤ flag l
      root true true o e f = omega arith
      root true false o e f = absurd (cc)
      root false z o e f = absurd (cc)

      each : (s : ℕ) → flag (0 == s) + flag (i.chart.linked s && (not (s == 0) && not (i.chart.old s))) ≤ flag (i.chart.linked s)
      each s = dite (ℕ_discrete 0 s)
          (λ e. (let a = ap flag (eq-eqb 0 s e) in let b =
          root (i.chart.linked s) (s == 0) (i.chart.old s) (ap i.chart.linked (sym e) ∙ i.tree.shape.root) (eq-eqb s 0 (sym e)) in
          omega arith))
          (λ ne. (let a = ap flag (ne_eqb 0 s ne) in let b = other (i.chart.linked s) (s == 0) (i.chart.old s) in omega arith))

  slot_within : (j s : ℕ) (v : View) → get_elem? vs j ≡ some v → 1 ≤ times s (slots_of v) → s < slot_count k
  slot_within j s v at there =
      dite (dec_le (suc s) (slot_count k)) (λ lt. lt)
      (λ far. absurd (let a = total_part (λ (u : View). times s (slots_of u)) vs j v at in let b = i.slots.roles.beyond s (omega arith) in
      omega arith))

  no_more_slots : count_below i.chart.linked (slot_count k) + total (λ (v : View). length (slots_of v)) vs ≤ slot_count k
  no_more_slots =
      let a = all_roles k m vs h i in
      let b = total_le (λ (v : View). length (slots_of v)) (λ (v : View). sum_below (λ s. times s (slots_of v)) (slot_count k)) vs
      (λ j v at. times_sum (slots_of v) (slot_count k) (λ s there. slot_within j s v at there)) in
      omega arith

pub pairs_fit : PairsFit
pairs_fit k m vs h i =
    let a = linked_least k m vs h i in
    let b = no_more_slots k m vs h i in
    let c = each_place k m vs h i in
    let d = total_le (λ (v : View). length (places_of v)) (λ (v : View). length (slots_of v)) vs
    (λ j v at. share_least v (i.slots.few j v at) (i.seats.spent j v at)) in
    let e = i.counts.pairs in
    omega arith

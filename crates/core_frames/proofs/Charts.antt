-- The chart and the words alone: ranges, hops, where searches end, one slot a key, where a listing goes on, what a reader will answer.
use Rattle.std.proofs.Common.{zero, suc, ◌≡◌, ◌≢◌, ℕ, ◌+◌, ◌<◌, ◌≤◌, ◌^◌, Bool, true, false, refl, sym, ap, ◌∙◌, arith, ◌⊎◌, inl, inr, subst, ⊎_elim, Option, None}
use Rattle.std.proofs.lemmas.Bool.Decides.{nat_tests}
use Rattle.std.proofs.lemmas.Bool.{cases_order, cases_eq}
use Rattle.core_state.specs.Tree.{after, next, OnPath, root, down, Chart, low_of, high_of, Belongs, IsShaped, IsInRange, last_of, Hops, answer_at, follow, HoldsMap, Spine, bottom, more, Place, in_range, at_old, at_end, on, Stands, passes, merges, stops as stops_there, goes}
use Rattle.prcu_marks.specs.declared.mark.Side.{Side}
use Rattle.prcu_marks.specs.declared.mark.Side.TheVariants.{Left, Right}
use Rattle.core_state.specs.declared.words.Field.TheVariants.{Key, Link, Value}
use Rattle.core_state.specs.Memory.{Memory}
use Rattle.std.specs.Prelude.{nat_lt, if◌then◌else◌, Some}
use Rattle.core_state.specs.declared.view.Gap.{Gap}
use Rattle.core_state.specs.Steps.{narrowed}
use Rattle.core_state.specs.Parts.{IsBetween, HasBounds, GoesOn, here, past}

-- The path of a search, by ranges.

pub bool_cases : (b : Bool) → (b ≡ true) ⊎ (b ≡ false)
bool_cases true = inl refl
bool_cases false = inr refl

pub after-node : (m : Memory) (s : ℕ) → s ≢ 0 → after m s ≡ m (Key s) + 1
after-node m zero ne = absurd (ne refl)
after-node m (suc s) ne = refl

pub next-left : (m : Memory) (x s : ℕ) → s ≢ 0 → x < m (Key s) → next m x s ≡ m (Link s Left)
next-left m x zero ne lt = absurd (ne refl)
next-left m x (suc s) ne lt = grind (arith, nat_tests)

pub next-right : (m : Memory) (x s : ℕ) → s ≢ 0 → m (Key s) < x → next m x s ≡ m (Link s Right)
next-right m x zero ne lt = absurd (ne refl)
next-right m x (suc s) ne lt = grind (arith, nat_tests)

pub next-here : (m : Memory) (x s : ℕ) → s ≢ 0 → m (Key s) ≡ x → next m x s ≡ 0
next-here m x zero ne e = absurd (ne refl)
next-here m x (suc s) ne e = grind (arith, nat_tests)

-- a search for what belongs below a side goes there
pub next-side : (m : Memory) (n : ℕ) (g : Chart) (x s : ℕ) (b : Side) → IsShaped m n g → m (Link s b) ≢ 0 → low_of m g s b ≤ x
    → x < high_of m g s b → next m x s ≡ m (Link s b)
next-side m n g x zero Left h ne lo hi = absurd (ne h.root_left)
next-side m n g x zero Right h ne lo hi = refl
next-side m n g x (suc s) Left h ne lo hi = next-left m x (suc s) (omega arith) hi
next-side m n g x (suc s) Right h ne lo hi = next-right m x (suc s) (omega arith) (omega arith)

-- a side of a slot leads to c, and x belongs below it
pub record LeadsTo (m : Memory) (g : Chart) (x s c : ℕ) : Type 0 where
  pub side : Side
  pub link : m (Link s side) ≡ c
  pub low : low_of m g s side ≤ x
  pub high : x < high_of m g s side

-- a search that goes on goes to the side below which x belongs
pub next_goes : (m : Memory) (g : Chart) (x s c : ℕ) → IsInRange g x s → next m x s ≡ c → c ≢ 0 → LeadsTo m g x s c
next_goes m g x zero c i e ne = record { side = Right; link = e; low = omega arith; high = i.high }
next_goes m g x (suc s) c i e ne = goes_on m g x (suc s) c i e ne (omega arith) (cases_order x (m (Key (suc s))))
  where
    goes_on : (m : Memory) (g : Chart) (x s c : ℕ) → IsInRange g x s → next m x s ≡ c → c ≢ 0 → s ≢ 0
        → (x ≡ m (Key s)) ⊎ ((x < m (Key s)) ⊎ (m (Key s) < x)) → LeadsTo m g x s c
    goes_on m g x s c i e ne nz (inr (inl lt)) = record { side = Left; link = sym (next-left m x s nz lt) ∙ e; low = i.low; high = lt }
    goes_on m g x s c i e ne nz (inl same) = absurd (ne (sym e ∙ next-here m x s nz (sym same)))
    goes_on m g x s c i e ne nz (inr (inr gt)) = record {
      side = Right;
      link = sym (next-right m x s nz gt) ∙ e;
      low = rw after-node (omega arith);
      high = i.high;
    }

-- the ranges below a side lie in the slot's; below the root nothing is on the left
pub side_within : (m : Memory) (n : ℕ) (g : Chart) (s : ℕ) (b : Side) → IsShaped m n g → g.linked s ≡ true → (s ≡ 0 → b ≡ Right)
    → (g.low s ≤ low_of m g s b) × (high_of m g s b ≤ g.high s)
side_within m n g zero Left h l right = absurd (let e = right refl in cc)
side_within m n g zero Right h l right = (omega (arith, h.root_low), omega arith)
side_within m n g (suc s) b h l right = node (suc s) b l (omega arith) (bool_cases (g.old (suc s)))
  where
    node : (s : ℕ) (b : Side) → g.linked s ≡ true → s ≢ 0 → (g.old s ≡ true) ⊎ (g.old s ≡ false)
        → (g.low s ≤ low_of m g s b) × (high_of m g s b ≤ g.high s)
    node s Left l nz (inl o) = (omega arith, omega (arith, h.displaced s l o))
    node s Right l nz (inl o) = (omega (arith, h.displaced s l o, after-node m s nz), omega arith)
    node s Left l nz (inr o) = (omega arith, omega (arith, h.keyed s l nz o))
    node s Right l nz (inr o) = (omega (arith, h.keyed s l nz o, after-node m s nz), omega arith)

-- what belongs below a side is in the slot's range
pub range_of_side : (m : Memory) (n : ℕ) (g : Chart) (x s : ℕ) (b : Side) → IsShaped m n g → g.linked s ≡ true → (s ≡ 0 → b ≡ Right)
    → Belongs m g x s b → IsInRange g x s
range_of_side m n g x s b h l right k = let r = side_within m n g s b h l right in
    record { linked = l; low = omega (arith, k.0, r.0); high = omega (arith, k.1, r.1) }

-- a side that leads on isn't the root's left
pub leads_right : (m : Memory) (n : ℕ) (g : Chart) (s : ℕ) (b : Side) → IsShaped m n g → m (Link s b) ≢ 0 → s ≡ 0 → b ≡ Right
leads_right m n g s Left h ne z = absurd (ne (ap (λ y. m (Link y Left)) z ∙ h.root_left))
leads_right m n g s Right h ne z = refl

-- the path of a search for x passes linked slots that have x in their range
pub range_on_path : (m : Memory) (n : ℕ) (g : Chart) (x : ℕ) → IsShaped m n g → x < 2 ^ 64 → (s : ℕ) → OnPath m x s → IsInRange g x s
range_on_path m n g x h bound s root = record { linked = h.root; low = omega (arith, h.root_low); high = omega (arith, h.root_high) }
range_on_path m n g x h bound s (down {s = p} p_on e ne) = one_more m n g x h p s (range_on_path m n g x h bound p p_on) e ne
  where
    one_more : (m : Memory) (n : ℕ) (g : Chart) (x : ℕ) → IsShaped m n g → (p c : ℕ) → IsInRange g x p → next m x p ≡ c → c ≢ 0
        → IsInRange g x c
    one_more m n g x h p c i e ne =
        let w = next_goes m g x p c i e ne in
        let k = h.below p c w.side i.linked w.link ne in
        record { linked = k.linked; low = omega (arith, k.low, w.low); high = omega (arith, k.high, w.high) }

-- and each of them, by induction on the rank
pub path_of_range : (m : Memory) (n : ℕ) (g : Chart) (x : ℕ) → IsShaped m n g → (fuel s : ℕ) → g.rank s < fuel → IsInRange g x s
    → OnPath m x s
path_of_range m n g x h zero s lt i = absurd (omega arith)
path_of_range m n g x h (suc fuel) zero lt i = root
path_of_range m n g x h (suc fuel) (suc s) lt i =
    let k = h.hangs (suc s) i.linked (omega arith) in
    let b = h.below (g.up (suc s)) (suc s) (g.side (suc s)) k.above k.link (omega arith) in
    let ne : m (Link (g.up (suc s)) (g.side (suc s))) ≢ 0 = omega (arith, k.link) in
    let lo : low_of m g (g.up (suc s)) (g.side (suc s)) ≤ x = omega (arith, b.low, i.low) in
    let hi : x < high_of m g (g.up (suc s)) (g.side (suc s)) = omega (arith, b.high, i.high) in
    down (path_of_range m n g x h fuel (g.up (suc s)) (omega (arith, b.rank))
    (range_of_side m n g x (g.up (suc s)) (g.side (suc s)) h k.above (leads_right m n g (g.up (suc s)) (g.side (suc s)) h ne) (lo, hi)))
    (next-side m n g x (g.up (suc s)) (g.side (suc s)) h ne lo hi ∙ k.link) (omega arith)

-- A search makes fewer hops than there are slots.

-- how many numbers below n have a greater rank than r
abbrev pub above : (ℕ → ℕ) → ℕ → ℕ → ℕ
above rank r zero = 0
above rank r (suc n) = (if nat_lt r (rank n) then 1 else 0) + above rank r n

one_le : (a b r : ℕ) → a ≤ b → (if nat_lt b r then 1 else 0) ≤ (if nat_lt a r then 1 else 0)
one_le a b r le = grind (arith, nat_tests)

one_lt : (a b r : ℕ) → a < b → r ≡ b → (if nat_lt b r then 1 else 0) < (if nat_lt a r then 1 else 0)
one_lt a b r le e = grind (arith, nat_tests)

above-le : (rank : ℕ → ℕ) (n a b : ℕ) → a ≤ b → above rank b n ≤ above rank a n
above-le rank zero a b le = omega arith
above-le rank (suc n) a b le = omega (arith, one_le a b (rank n) le, above-le rank n a b le)

-- fewer are above what is itself above
pub above-lt : (rank : ℕ → ℕ) (n a c : ℕ) → c < n → a < rank c → above rank (rank c) n < above rank a n
above-lt rank zero a c lt le = absurd (omega arith)
above-lt rank (suc n) a c lt le = ⊎_elim (λ (e : c ≡ n). omega
    (arith, one_lt a (rank c) (rank n) le (ap rank (sym e)), above-le rank n a (rank c) (omega arith)))
    (λ ne. omega (arith, one_le a (rank c) (rank n) (omega arith), above-lt rank n a c (omega arith) le)) (cases_eq c n)

above-most : (rank : ℕ → ℕ) (n r : ℕ) → above rank r n ≤ n
above-most rank zero r = omega arith
above-most rank (suc n) r = omega (arith, at_most_one (nat_lt r (rank n)), above-most rank n r)
  where
    at_most_one : (b : Bool) → (if b then 1 else 0) ≤ 1
    at_most_one true = omega arith
    at_most_one false = omega arith

pub above_less : (rank : ℕ → ℕ) (n a : ℕ) → a < n → above rank (rank a) n < n
above_less rank zero a lt = absurd (omega arith)
above_less rank (suc n) a lt = ⊎_elim (λ (e : a ≡ n). omega (arith, above-most rank n (rank a), none (rank a) (rank n) (ap rank e)))
    (λ ne. omega (arith, at_most_one (nat_lt (rank a) (rank n)), above_less rank n a (omega arith))) (cases_eq a n)
  where
    at_most_one : (b : Bool) → (if b then 1 else 0) ≤ 1
    at_most_one true = omega arith
    at_most_one false = omega arith

    none : (a r : ℕ) → a ≡ r → (if nat_lt a r then 1 else 0) < 1
    none a r e = grind (arith, nat_tests)

-- the end of a search from a slot
pub record Ends (m : Memory) (x : ℕ) (V : ℕ → Type 0) (a most : ℕ) : Type 0 where
  pub hops : ℕ
  pub slot : ℕ
  pub way : Hops m x hops a slot
  pub last : next m x slot ≡ 0
  pub bound : hops ≤ most
  pub met : V slot

-- where each hop leads from slots of V to slots of V of a greater rank, a search ends within n hops
pub ends : (m : Memory) (x n : ℕ) (rank : ℕ → ℕ) (V : ℕ → Type 0)
    → ((s : ℕ) → V s → s < n)
    → ((s : ℕ) → V s → next m x s ≢ 0 → V (next m x s) × (rank s < rank (next m x s)))
    → (fuel a : ℕ) → above rank (rank a) n < fuel → V a
    → Ends m x V a (above rank (rank a) n)
ends m x n rank V small step zero a lt v = absurd (omega arith)
ends m x n rank V small step (suc fuel) a lt v =
    ⊎_elim (λ (e : next m x a ≡ 0). record { hops = 0; slot = a; way = refl; last = e; bound = omega arith; met = v }) (λ ne.
    let w = step a v ne in
    let less : above rank (rank (next m x a)) n < above rank (rank a) n =
    above-lt rank n (rank a) (next m x a) (small (next m x a) w.0) w.1 in
    let r = ends m x n rank V small step fuel (next m x a) (omega arith) w.0 in
    record { hops = suc r.hops; slot = r.slot; way = (ne, r.way); last = r.last; bound = omega (arith, r.bound); met = r.met })
    (cases_eq (next m x a) 0)

pub last_of-hop : (m : Memory) (x fuel a : ℕ) → next m x a ≢ 0 → last_of m x (suc fuel) a ≡ last_of m x fuel (next m x a)
last_of-hop m x fuel a ne = grind (arith, nat_tests)

-- with enough fuel the search is there
pub last_of-ends : (m : Memory) (x k fuel a e : ℕ) → Hops m x k a e → next m x e ≡ 0 → k ≤ fuel → last_of m x fuel a ≡ e
last_of-ends m x zero zero a e w z le = w
last_of-ends m x zero (suc fuel) a e w z le = stay m x fuel a e w z (cases_eq (next m x a) 0)
  where
    stay : (m : Memory) (x fuel a e : ℕ) → a ≡ e → next m x e ≡ 0 → (next m x a ≡ 0) ⊎ (next m x a ≢ 0) → last_of m x (suc fuel) a ≡ e
    stay m x fuel a e w z (inl y) = rw y w
    stay m x fuel a e w z (inr y) = absurd (y (ap (next m x) w ∙ z))
last_of-ends m x (suc k) zero a e w z le = absurd (omega arith)
last_of-ends m x (suc k) (suc fuel) a e w z le =
    rw (last_of-hop m x fuel a w.0) (last_of-ends m x k fuel (next m x a) e w.1 z (omega arith))

-- one hop more at the end
pub hops_more : (m : Memory) (x k a b c : ℕ) → Hops m x k a b → next m x b ≡ c → c ≢ 0 → Hops m x (suc k) a c
hops_more m x zero a b c w e ne = (λ z. ne (sym e ∙ (sym (ap (next m x) w) ∙ z)), ap (next m x) w ∙ e)
hops_more m x (suc k) a b c w e ne = (w.0, hops_more m x k (next m x a) b c w.1 e ne)

pub hops_of_path : (m : Memory) (x s : ℕ) → OnPath m x s → (k : ℕ) × Hops m x k 0 s
hops_of_path m x s root = (0, refl)
hops_of_path m x s (down {s = p} path e ne) = let w = hops_of_path m x p path in (suc w.0, hops_more m x w.0 0 p s w.1 e ne)

-- What a search from the root answers.

-- a search for x from a slot ends at this one, with x in its range
pub record EndsAt (m : Memory) (n : ℕ) (g : Chart) (x a : ℕ) : Type 0 where
  pub slot : ℕ
  pub is : last_of m x n a ≡ slot
  pub last : next m x slot ≡ 0
  pub met : IsInRange g x slot

-- where a search that stands at a linked slot with x in its range ends
pub end_of_range : (m : Memory) (n : ℕ) (g : Chart) (x a : ℕ) → IsShaped m n g → IsInRange g x a → EndsAt m n g x a
end_of_range m n g x a h i =
    let r = ends m x n g.rank (IsInRange g x) (λ s v. h.within s v.linked) (λ s v ne. step m n g x s h v ne)
    (suc (above g.rank (g.rank a) n)) a (omega arith) i in record {
      slot = r.slot;
      is = last_of-ends m x r.hops n a r.slot r.way r.last (omega (arith, r.bound, above_less g.rank n a (h.within a i.linked)));
      last = r.last;
      met = r.met;
    }
  where
    step : (m : Memory) (n : ℕ) (g : Chart) (x s : ℕ) → IsShaped m n g → IsInRange g x s → next m x s ≢ 0
        → IsInRange g x (next m x s) × (g.rank s < g.rank (next m x s))
    step m n g x s h i ne =
        let w = next_goes m g x s (next m x s) i refl ne in
        let k = h.below s (next m x s) w.side i.linked w.link ne in
        (record { linked = k.linked; low = omega (arith, k.low, w.low); high = omega (arith, k.high, w.high) }, k.rank)

-- there is one slot at which a search for x can end
pub one_end : (m : Memory) (n : ℕ) (g : Chart) (x d e : ℕ) → IsShaped m n g → x < 2 ^ 64 → IsInRange g x d → next m x d ≡ 0
    → IsInRange g x e → next m x e ≡ 0 → d ≡ e
one_end m n g x d e h bound i zi j zj =
    let p = hops_of_path m x d (path_of_range m n g x h (suc (g.rank d)) d (omega arith) i) in
    let q = hops_of_path m x e (path_of_range m n g x h (suc (g.rank e)) e (omega arith) j) in
    sym (last_of-ends m x p.0 (p.0 + q.0) 0 d p.1 zi (omega arith)) ∙ last_of-ends m x q.0 (p.0 + q.0) 0 e q.1 zj (omega arith)

-- a search from a slot that has x in its range ends where the search from the root ends
pub same_end : (m : Memory) (n : ℕ) (g : Chart) (x a : ℕ) → IsShaped m n g → x < 2 ^ 64 → IsInRange g x a
    → last_of m x n a ≡ last_of m x n 0
same_end m n g x a h bound i =
    let r = end_of_range m n g x a h i in
    let o = end_of_range m n g x 0 h (range_on_path m n g x h bound 0 root) in
    r.is ∙ one_end m n g x r.slot o.slot h bound r.met r.last o.met o.last ∙ sym o.is

pub answer-here : (m : Memory) (x s v : ℕ) → s ≢ 0 → m (Key s) ≡ x → m (Value s) ≡ v → answer_at m x s ≡ Some v
answer-here m x zero v ne k e = absurd (ne refl)
answer-here m x (suc s) v ne k e = grind (arith, nat_tests)

pub answer-none : (m : Memory) (x s : ℕ) → (s ≢ 0 → m (Key s) ≢ x) → answer_at m x s ≡ None
answer-none m x zero ne = refl
answer-none m x (suc s) ne = grind (arith, nat_tests, ne (omega arith))

-- what a search answers that has ended in its range
pub ended_is : (m : Memory) (n : ℕ) (g : Chart) (map : ℕ → Option ℕ) (x e : ℕ) → IsShaped m n g → HoldsMap m g map → x < 2 ^ 64
    → IsInRange g x e → next m x e ≡ 0 → (o : Option ℕ) → map x ≡ o → answer_at m x e ≡ o
ended_is m n g map x e h p bound i z None q = answer-none m x e (λ ne k. not_there m n g map x e h p i q ne k (bool_cases (g.old e)))
  where
    not_there : (m : Memory) (n : ℕ) (g : Chart) (map : ℕ → Option ℕ) (x e : ℕ) → IsShaped m n g → HoldsMap m g map → IsInRange g x e
        → map x ≡ None → e ≢ 0 → m (Key e) ≡ x → (g.old e ≡ true) ⊎ (g.old e ≡ false) → ⊥
    not_there m n g map x e h p i q ne k (inl o) = omega (arith, h.displaced e i.linked o, i.low)
    not_there m n g map x e h p i q ne k (inr o) = let s = p.sound e i.linked ne o in cc (ap map k)
ended_is m n g map x e h p bound i z (Some v) q =
    let s = p.complete x v q in
    let k = h.keyed s.slot s.linked s.some_slot s.young in
    let j : IsInRange g x s.slot = record { linked = s.linked; low = omega (arith, k.low, s.key); high = omega (arith, k.high, s.key) } in
    ap (answer_at m x) (one_end m n g x e s.slot h bound i z j (next-here m x s.slot s.some_slot s.key))
    ∙ answer-here m x s.slot v s.some_slot s.key s.value

-- a search that stands at a slot with x in its range answers as the map
pub answer_is : (m : Memory) (n : ℕ) (g : Chart) (map : ℕ → Option ℕ) (x a : ℕ) → IsShaped m n g → HoldsMap m g map → x < 2 ^ 64
    → IsInRange g x a → follow m n a x ≡ map x
answer_is m n g map x a h p bound i =
    let r = end_of_range m n g x a h i in
    ap (answer_at m x) r.is ∙ ended_is m n g map x r.slot h p bound r.met r.last (map x) refl

-- One slot for each key, and one link to each slot.

-- the range below a side is within the slot's
pub high_within : (m : Memory) (n : ℕ) (g : Chart) (p : ℕ) (b : Side) → IsShaped m n g → g.linked p ≡ true → m (Link p b) ≢ 0
    → high_of m g p b ≤ g.high p
high_within m n g p Right h l ne = omega arith
high_within m n g p Left h l ne = go m n g p h l ne (cases_eq p 0) (bool_cases (g.old p))
  where
    go : (m : Memory) (n : ℕ) (g : Chart) (p : ℕ) → IsShaped m n g → g.linked p ≡ true → m (Link p Left) ≢ 0 → (p ≡ 0) ⊎ (p ≢ 0)
        → (g.old p ≡ true) ⊎ (g.old p ≡ false) → m (Key p) ≤ g.high p
    go m n g p h l ne (inl z) o = absurd (ne (ap (λ s. m (Link s Left)) z ∙ h.root_left))
    go m n g p h l ne (inr z) (inl o) = absurd (ne (h.displaced p l o).left)
    go m n g p h l ne (inr z) (inr o) = omega (arith, h.keyed p l z o)

pub high_bound : (m : Memory) (n : ℕ) (g : Chart) → IsShaped m n g → (fuel s : ℕ) → g.rank s < fuel → g.linked s ≡ true → g.high s ≤ 2 ^ 64
high_bound m n g h zero s lt l = absurd (omega arith)
high_bound m n g h (suc fuel) zero lt l = omega (arith, h.root_high)
high_bound m n g h (suc fuel) (suc s) lt l =
    let k = h.hangs (suc s) l (omega arith) in
    let b = h.below (g.up (suc s)) (suc s) (g.side (suc s)) k.above k.link (omega arith) in
    omega (
      arith,
      b.high,
      high_within m n g (g.up (suc s)) (g.side (suc s)) h k.above (omega (arith, k.link)),
      high_bound m n g h fuel (g.up (suc s)) (omega (arith, b.rank)) k.above,
    )

pub key_bound : (m : Memory) (n : ℕ) (g : Chart) (s : ℕ) → IsShaped m n g → g.linked s ≡ true → s ≢ 0 → g.old s ≡ false → m (Key s) < 2 ^ 64
key_bound m n g s h l ne o = omega (arith, (h.keyed s l ne o).high, high_bound m n g h (suc (g.rank s)) s (omega arith) l)

pub one_key : (m : Memory) (n : ℕ) (g : Chart) (s d : ℕ) → IsShaped m n g → g.linked s ≡ true → s ≢ 0 → g.old s ≡ false → g.linked d ≡ true
    → d ≢ 0 → g.old d ≡ false → m (Key s) ≡ m (Key d) → s ≡ d
one_key m n g s d h l ne o k nd od e =
    let i = h.keyed s l ne o in
    let j = h.keyed d k nd od in
    one_end m n g (m (Key d)) s d h (key_bound m n g d h k nd od)
    (record { linked = l; low = omega (arith, i.low); high = omega (arith, i.high) }) (next-here m (m (Key d)) s ne e)
    (record { linked = k; low = j.low; high = j.high }) (next-here m (m (Key d)) d nd refl)

pub one_link : (m : Memory) (n : ℕ) (g : Chart) (s p c : ℕ) (a b : Side) → IsShaped m n g → g.linked s ≡ true → g.linked p ≡ true
    → m (Link s a) ≡ c → m (Link p b) ≡ c → c ≢ 0 → (s ≡ p) × (a ≡ b)
one_link m n g s p c a b h l k e f ne =
    let i = h.below s c a l e ne in
    let j = h.below p c b k f ne in
    (sym i.up ∙ j.up, sym i.side ∙ j.side)

-- What carries a listing's walk over a step, and what is past a linked slot.

-- where a walk goes on is linked, or was unlinked since
pub going_known : (m : Memory) (g : Chart) (live : ℕ → Type 0) (map : ℕ → Option ℕ) (bounds : Gap) (s : ℕ) → GoesOn m g live map bounds s
    → (g.linked s ≡ true) ⊎ live s
going_known m g live map bounds s (here has) = inl has.linked
going_known m g live map bounds s (past l pair none rank onward) = inr l

-- What a step leaves of the slots that were unlinked since, and what becomes of one that is linked.
pub record CarriesGoing (m new : Memory) (g to : Chart) (live later : ℕ → Type 0) (map : ℕ → Option ℕ) : Type 0 where
  pub linked : (bounds : Gap) (s : ℕ) → HasBounds g bounds s → GoesOn new to later map bounds s
  pub grow : (s : ℕ) → live s → later s
  pub key : (s : ℕ) → live s → new (Key s) ≡ m (Key s)
  pub value : (s : ℕ) → live s → new (Value s) ≡ m (Value s)
  pub link : (s : ℕ) (b : Side) → live s → new (Link s b) ≡ m (Link s b)
  pub rank : (s c : ℕ) → live s → (g.linked c ≡ true) ⊎ live c → g.rank s < g.rank c → to.rank s < to.rank c

module _ (m new : Memory) (g to : Chart) (live later : ℕ → Type 0) (map : ℕ → Option ℕ) (k : CarriesGoing m new g to live later map) where
  pub carry_going : (bounds : Gap) (s : ℕ) → GoesOn m g live map bounds s → GoesOn new to later map bounds s
  carry_going bounds s (here has) = k.linked bounds s has
  carry_going bounds s (past l pair none rank onward) = past (k.grow s l)
      (ap map (k.key s l) ∙ pair ∙ ap Some (sym (k.value s l)))
      (λ b e y between. none b (sym (k.link s b l) ∙ e) y (subst (λ key. IsBetween (narrowed bounds key b) y) (k.key s l) between))
      (λ b c e nz. (let f = sym (k.link s b l) ∙ e in
      k.rank s c l (going_known m g live map (narrowed bounds (m (Key s)) b) c (onward b c f nz)) (rank b c f nz)))
      (λ b c e nz. subst (λ key. GoesOn new to later map (narrowed bounds key b) c) (sym (k.key s l))
      (carry_going (narrowed bounds (m (Key s)) b) c (onward b c (sym (k.link s b l) ∙ e) nz)))

-- Past the key of a linked slot.
module _ (m : Memory) (n : ℕ) (g : Chart) (map : ℕ → Option ℕ) (h : IsShaped m n g) (q : HoldsMap m g map) (s : ℕ) (nz : s ≢ 0)
    (bounds : Gap) (has : HasBounds g bounds s) where
  -- nothing is found of a key whose search ends in its range at a slot with another
  none_there : (y : ℕ) → y < 2 ^ 64 → IsInRange g y s → next m y s ≡ 0 → m (Key s) ≢ y → map y ≡ None
  none_there y fits range last other = sym (ended_is m n g map y s h q fits range last (map y) refl)
      ∙ answer-none m y s (λ _. other)

  fits_high : (y : ℕ) → y < g.high s → y < 2 ^ 64
  fits_high y lt = let r = high_bound m n g h (suc (g.rank s)) s (omega arith) has.linked in omega arith

  range_left : (y : ℕ) → g.low s ≤ y → y < m (Key s) → IsInRange g y s
  range_left y low lt = record {
    linked = has.linked;
    low = low;
    high = ⊎_elim (λ o. absurd (let a = (h.displaced s has.linked o).low in omega arith))
        (λ young. (let b = (h.keyed s has.linked nz young).high in omega arith)) (bool_cases (g.old s));
  }

  range_right : (y : ℕ) → m (Key s) < y → y < g.high s → IsInRange g y s
  range_right y gt high = record {
    linked = has.linked;
    low = ⊎_elim (λ o. (let a = (h.displaced s has.linked o).low in omega arith))
        (λ young. (let b = (h.keyed s has.linked nz young).low in omega arith)) (bool_cases (g.old s));
    high = high;
  }

  -- an empty side
  pub none_past : (b : Side) → m (Link s b) ≡ 0 → (y : ℕ) → IsBetween (narrowed bounds (m (Key s)) b) y → map y ≡ None
  none_past Left empty y between =
      let low = between.0 in let lt = between.1 in let e = has.low in
      let range = range_left y (omega arith) (omega arith) in
      none_there y (fits_high y range.high) range (next-left m y s nz (omega arith) ∙ empty) (λ same. omega arith)
  none_past Right empty y between =
      let gt = between.0 in let lt = between.1 in let e = has.high in
      let range = range_right y (omega arith) (omega arith) in
      none_there y (fits_high y range.high) range (next-right m y s nz (omega arith) ∙ empty) (λ same. omega arith)

  -- the slot below a side
  pub below_past : (b : Side) (c : ℕ) → m (Link s b) ≡ c → c ≢ 0 → HasBounds g (narrowed bounds (m (Key s)) b) c
  below_past Left c link some_slot = let w = h.below s c Left has.linked link some_slot in
      record { linked = w.linked; low = w.low ∙ has.low; high = w.high }
  below_past Right c link some_slot = let w = h.below s c Right has.linked link some_slot in
      record { linked = w.linked; low = w.low ∙ after-node m s nz; high = w.high ∙ has.high }

  -- so a walk from there goes on where the slot is unlinked, if its pair is one of the map's and its links stay
  pub unlinked_going : (new : Memory) (to : Chart) (later : ℕ → Type 0) → later s → map (m (Key s)) ≡ Some (m (Value s))
      → new (Key s) ≡ m (Key s) → new (Value s) ≡ m (Value s) → ((b : Side) → new (Link s b) ≡ m (Link s b))
      → ((b : Side) (c : ℕ) → m (Link s b) ≡ c → c ≢ 0 → to.rank s < to.rank c)
      → ((b : Side) (c : ℕ) → m (Link s b) ≡ c → c ≢ 0 → HasBounds g (narrowed bounds (m (Key s)) b) c
      → GoesOn new to later map (narrowed bounds (m (Key s)) b) c)
      → GoesOn new to later map bounds s
  unlinked_going new to later gone pair key value link rank onward = past gone
      (ap map key ∙ pair ∙ ap Some (sym value))
      (λ b e y between. none_past b (sym (link b) ∙ e) y (subst (λ i. IsBetween (narrowed bounds i b) y) key between))
      (λ b c e some_slot. rank b c (sym (link b) ∙ e) some_slot)
      (λ b c e some_slot. subst (λ i. GoesOn new to later map (narrowed bounds i b) c) (sym key)
      (onward b c (sym (link b) ∙ e) some_slot (below_past b c (sym (link b) ∙ e) some_slot)))

-- What a reader will answer, and what carries a reader over a step.

-- a hop keeps what is known
pub range_hop : (m : Memory) (n : ℕ) (g : Chart) (x s c : ℕ) → IsShaped m n g → IsInRange g x s → next m x s ≡ c → c ≢ 0
    → IsInRange g x c × (g.rank s < g.rank c)
range_hop m n g x s c h i e ne =
    let w = next_goes m g x s c i e ne in
    let k = h.below s c w.side i.linked w.link ne in
    (record { linked = k.linked; low = omega (arith, k.low, w.low); high = omega (arith, k.high, w.high) }, k.rank)

pub not_root : (m : Memory) (n : ℕ) (g : Chart) (s c : ℕ) → IsShaped m n g → m (Link s Left) ≡ c → c ≢ 0 → s ≢ 0
not_root m n g s c h e ne z = ne (sym e ∙ ap (λ y. m (Link y Left)) z ∙ h.root_left)

-- a search for no more than its key ends at an old successor
pub old_end : (m : Memory) (n : ℕ) (g : Chart) (x u : ℕ) → IsShaped m n g → g.linked u ≡ true → g.old u ≡ true → x ≤ m (Key u)
    → next m x u ≡ 0
old_end m n g x u h l o le = ⊎_elim (λ (e : x ≡ m (Key u)). next-here m x u nz (sym e))
    (λ ne. next-left m x u nz (omega arith) ∙ (h.displaced u l o).left) (cases_eq x (m (Key u)))
  where
    nz : u ≢ 0
    nz z = let e = h.root_new in cc (ap g.old z)

pub end_linked : (m : Memory) (g : Chart) (x u s : ℕ) → Spine m g x u s → g.linked u ≡ true
end_linked m g x u s (bottom e l) = l
end_linked m g x u s (more {c = y} l lt e nz sp) = end_linked m g x u y sp

module _ (m : Memory) (n : ℕ) (g : Chart) (x : ℕ) (live pend : ℕ → Type 0) (told : Option ℕ → Type 0) (h : IsShaped m n g) where
  pub hop : (s c : ℕ) → Place m g x live pend told s → next m x s ≡ c → c ≢ 0 → Place m g x live pend told c × (g.rank s < g.rank c)
  hop s c (in_range i) e ne = let w = range_hop m n g x s c h i e ne in (in_range w.0, w.1)
  hop s c (at_old {u = u} p o z t (bottom w l)) e ne = absurd (ne (sym e ∙ ap (next m x) w ∙ old_end m n g x u h l o z))
  hop s c (at_old {u = u} p o z t (more {c = y} l lt f nz sp)) e ne =
      let is_y : c ≡ y = sym e ∙ next-left m x s (not_root m n g s y h f nz) lt ∙ f in
      (subst (Place m g x live pend told) (sym is_y) (at_old p o z t sp), omega (arith, (h.below s y Left l f nz).rank, ap g.rank is_y))
  hop s c (at_end l z t) e ne = absurd (ne (sym e ∙ z))
  hop s c (on {c = y} l f nz r p) e ne = let is_y : c ≡ y = sym e ∙ f in
      (subst (Place m g x live pend told) (sym is_y) p, omega (arith, r, ap g.rank is_y))

  -- at its end a reader's answer is one that the map had
  pub ended_told : (map : ℕ → Option ℕ) → HoldsMap m g map → x < 2 ^ 64 → told (map x) → (e : ℕ) → Place m g x live pend told e
      → next m x e ≡ 0 → told (answer_at m x e)
  ended_told map q bound now e (in_range i) z = subst told (sym (ended_is m n g map x e h q bound i z (map x) refl)) now
  ended_told map q bound now e (at_old p o y t (bottom w l)) z = subst told (ap (answer_at m x) (sym w)) t
  ended_told map q bound now e (at_old p o y t (more {c = c} l lt f nz sp)) z =
      absurd (nz (sym f ∙ sym (next-left m x e (not_root m n g e c h f nz) lt) ∙ z))
  ended_told map q bound now e (at_end l y t) z = t
  ended_told map q bound now e (on l f nz r p) z = absurd (nz (sym f ∙ z))

  place_small : ((s : ℕ) → live s → s < n) → (s : ℕ) → Place m g x live pend told s → s < n
  place_small small s (in_range i) = h.within s i.linked
  place_small small s (at_old p o z t (bottom w l)) = omega (arith, w, h.within _ l)
  place_small small s (at_old p o z t (more l lt f nz sp)) = h.within s l
  place_small small s (at_end l z t) = small s l
  place_small small s (on l f nz r p) = small s l

  -- wherever a reader stands, its answer is one that the map had since it entered
  pub place_told : (map : ℕ → Option ℕ) → HoldsMap m g map → x < 2 ^ 64 → told (map x) → ((s : ℕ) → live s → s < n) → (s : ℕ)
      → Place m g x live pend told s → told (follow m n s x)
  place_told map q bound now small s p =
      let r = ends m x n g.rank (Place m g x live pend told) (place_small small) (λ y v ne. hop y (next m x y) v refl ne)
      (suc (above g.rank (g.rank s) n)) s (omega arith) p in
      let e : last_of m x n s ≡ r.slot = last_of-ends m x r.hops n s r.slot r.way r.last
      (omega (arith, r.bound, above_less g.rank n s (place_small small s p))) in
      subst told (ap (answer_at m x) (sym e)) (ended_told map q bound now r.slot r.met r.last)

-- what a step has to say of a reader
pub record Carries (m new : Memory) (g to : Chart) (x : ℕ) (live later pend due : ℕ → Type 0)
    (told more_told : Option ℕ → Type 0) : Type 0 where
  pub range : (s : ℕ) → IsInRange g x s → Place new to x later due more_told s
  pub old : (s u : ℕ) → pend u → g.old u ≡ true → x ≤ m (Key u) → told (answer_at m x u) → Spine m g x u s
      → Place new to x later due more_told s
  pub still_live : (s : ℕ) → live s → later s
  pub same_next : (s : ℕ) → live s → next new x s ≡ next m x s
  pub same_answer : (s : ℕ) → live s → answer_at new x s ≡ answer_at m x s
  pub same_rank : (s : ℕ) → (g.linked s ≡ true) ⊎ live s → to.rank s ≡ g.rank s
  pub still_told : (o : Option ℕ) → told o → more_told o

module _ (m new : Memory) (g to : Chart) (x : ℕ) (live later pend due : ℕ → Type 0) (told more_told : Option ℕ → Type 0)
    (k : Carries m new g to x live later pend due told more_told) where
  known : (s : ℕ) → Place m g x live pend told s → (g.linked s ≡ true) ⊎ live s
  known s (in_range i) = inl i.linked
  known s (at_old p o z t (bottom w l)) = inl (ap g.linked w ∙ l)
  known s (at_old p o z t (more l lt f nz sp)) = inl l
  known s (at_end l z t) = inr l
  known s (on l f nz r p) = inr l

  pub carry : (s : ℕ) → Place m g x live pend told s → Place new to x later due more_told s
  carry s (in_range i) = k.range s i
  carry s (at_old {u = u} p o z t sp) = k.old s u p o z t sp
  carry s (at_end l z t) = at_end (k.still_live s l) (k.same_next s l ∙ z)
      (k.still_told (answer_at new x s) (subst told (sym (k.same_answer s l)) t))
  carry s (on {c = c} l f nz r p) = on (k.still_live s l) (k.same_next s l ∙ f) nz
      (omega (arith, r, k.same_rank s (inr l), k.same_rank c (known c p))) (carry c p)

-- Who may pass an old successor.

module _ (m : Memory) (n : ℕ) (g : Chart) (x u : ℕ) (h : IsShaped m n g) (l : g.linked u ≡ true) (o : g.old u ≡ true)
    (le : x ≤ m (Key u)) where
  -- not who is in range
  pub range_past : (k s : ℕ) → IsInRange g x s → Hops m x k s u → ⊥
  range_past zero s i w = omega (arith, (h.displaced u l o).low, i.low, ap g.low w)
  range_past (suc k) s i w = range_past k (next m x s) (range_hop m n g x s (next m x s) h i refl w.0).0 w.1

  -- nor who will pass another
  spine_past : (v : ℕ) → g.linked v ≡ true → g.old v ≡ true → x ≤ m (Key v) → (s : ℕ) → Spine m g x v s → (k : ℕ) → Hops m x k s u → v ≡ u
  spine_past v lv ov lev s (bottom e y) zero w = sym e ∙ w
  spine_past v lv ov lev s (bottom e y) (suc k) w = absurd (w.0 (ap (next m x) e ∙ old_end m n g x v h lv ov lev))
  spine_past v lv ov lev s (more ls lt e nz sp) zero w = absurd (nz (sym e ∙ ap (λ y. m (Link y Left)) w ∙ (h.displaced u l o).left))
  spine_past v lv ov lev s (more {c = c} ls lt e nz sp) (suc k) w =
      spine_past v lv ov lev c sp k (subst (λ y. Hops m x k y u) (next-left m x s (not_root m n g s c h e nz) lt ∙ e) w.1)

  -- so who passes it is one that may: its section entered before the copy link
  pub passes_pends : (live pend : ℕ → Type 0) (told : Option ℕ → Type 0) → ((s : ℕ) → live s → g.linked s ≡ false) → (s : ℕ)
      → Place m g x live pend told s → (k : ℕ) → Hops m x k s u → pend u
  passes_pends live pend told out s (in_range i) k w = absurd (range_past k s i w)
  passes_pends live pend told out s (at_old {u = v} p ov lev t sp) k w = subst pend (spine_past v (end v s sp) ov lev s sp k w) p
    where
      end : (v s : ℕ) → Spine m g x v s → g.linked v ≡ true
      end v s (bottom e y) = y
      end v s (more {c = c} ls lt e nz sp) = end v c sp
  passes_pends live pend told out s (at_end y z t) zero w = let e = out s y in cc (ap g.linked w)
  passes_pends live pend told out s (at_end y z t) (suc k) w = absurd (w.0 z)
  passes_pends live pend told out s (on y e nz r p) zero w = let f = out s y in cc (ap g.linked w)
  passes_pends live pend told out s (on {c = c} y e nz r p) (suc k) w =
      passes_pends live pend told out c p k (subst (λ q. Hops m x k q u) e w.1)

-- What the chart says, in the words of the follow.

hops_of_spine : (m : Memory) (n : ℕ) (g : Chart) (x u s : ℕ) → IsShaped m n g → Spine m g x u s → (k : ℕ) × Hops m x k s u
hops_of_spine m n g x u s h (bottom e l) = (0, e)
hops_of_spine m n g x u s h (more {c = c} l lt e nz sp) =
    let w = hops_of_spine m n g x u c h sp in
    let f : next m x s ≡ c = next-left m x s (not_root m n g s c h e nz) lt ∙ e in
    (suc w.0, (λ z. nz (sym f ∙ z), subst (λ y. Hops m x w.0 y u) (sym f) w.1))

pub stands : (m : Memory) (n : ℕ) (g : Chart) (x : ℕ) (live pend : ℕ → Type 0) (told : Option ℕ → Type 0) → IsShaped m n g
    → ((s : ℕ) → live s → g.linked s ≡ false) → (s : ℕ) → Place m g x live pend told s → Stands m g.linked x pend s
stands m n g x live pend told h out s (in_range i) = merges i.linked (path_of_range m n g x h (suc (g.rank s)) s (omega arith) i)
stands m n g x live pend told h out s (at_old {u = u} p o le t sp) = let w = hops_of_spine m n g x u s h sp in passes w.0 p w.1
stands m n g x live pend told h out s (at_end l z t) = stops_there (out s l) z
stands m n g x live pend told h out s (on {c = c} l e nz r p) =
    goes (out s l) (λ z. nz (sym e ∙ z)) (subst (Stands m g.linked x pend) (sym e) (stands m n g x live pend told h out c p))

-- A key that belongs below an empty side of a linked slot isn't in the map.

module _ (m : Memory) (n : ℕ) (g : Chart) (x s : ℕ) (b : Side) (shape : IsShaped m n g) (linked : g.linked s ≡ true)
    (right_at_root : s ≡ 0 → b ≡ Right) where
  pub stops : m (Link s b) ≡ 0 → Belongs m g x s b → next m x s ≡ 0
  stops empty k = go b right_at_root empty k.0 k.1 (cases_eq s 0)
    where
      go : (b : Side) → (s ≡ 0 → b ≡ Right) → m (Link s b) ≡ 0 → low_of m g s b ≤ x → x < high_of m g s b → (s ≡ 0) ⊎ (s ≢ 0)
          → next m x s ≡ 0
      go Left r e lo hi (inl z) = absurd (let f = r z in cc)
      go Right r e lo hi (inl z) = ap (next m x) z ∙ ap (λ y. m (Link y Right)) (sym z) ∙ e
      go Left r e lo hi (inr z) = next-left m x s z hi ∙ e
      go Right r e lo hi (inr z) = next-right m x s z (omega (arith, lo, after-node m s z)) ∙ e

  not_its_key : (b : Side) → Belongs m g x s b → s ≢ 0 → m (Key s) ≢ x
  not_its_key Left k ne e = omega (arith, k.1, e)
  not_its_key Right k ne e = omega (arith, k.0, e, after-node m s ne)

  pub absent : (map : ℕ → Option ℕ) → HoldsMap m g map → x < 2 ^ 64 → m (Link s b) ≡ 0 → Belongs m g x s b → map x ≡ None
  absent map holds fits empty k = sym (ended_is m n g map x s shape holds fits (range_of_side m n g x s b shape linked right_at_root k)
      (stops empty k) (map x) refl) ∙ answer-none m x s (not_its_key b k)

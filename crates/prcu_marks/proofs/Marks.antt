-- What a list of marks says: after one more mark, of a place's own, of unlinked slots, and of what two seats have seen.
use Rattle.std.proofs.Common.{◌≡◌, ℕ, suc, ◌+◌, ◌≤◌, true, false, cond, List, [], ◌∷◌, ◌++◌, length, Option, None, refl, sym, ap, ◌∙◌, arith, append-nil, length-append, ◌<◌, ◌==◌, Some, zero, Bool, eqb, eq-eqb, ◌≢◌, ne_eqb, subst}
use mathlib.Core.List.{IsPrefix}
use Rattle.prcu_marks.specs.declared.mark.Mark.{Mark}
use Rattle.prcu_marks.specs.declared.mark.Mark.TheVariants.{Entered, Left, Began, Ended, Done, Given, Unlinked, Freed, Moved}
use Rattle.prcu_marks.specs.Marks.{updates_of, Open, next_open, open_from, open_at, next_gone, gone_from, gone_at, is_of, own_of, entered_at, unlinked_from, last_unlinked, longer, moves_in, updates_behind}
use Rattle.std.specs.List.{AllByRecursion, slice_get}
use Rattle.prcu_model.specs.declared.operation.Update.{Update}
use Rattle.prcu_model.specs.Fronts.{own_updates_from}
use Rattle.prcu_marks.specs.Callers.{IsLeftBy, entered_for}
use Rattle.std.proofs.lemmas.Bool.{lt-ltb, le-ltb}
use Rattle.std.proofs.lemmas.List.{nil_from_length}
use mathlib.Core.Logic.{dite}
use native.Mathlib.Decide.{dec_le}
use Rattle.prcu_model.proofs.ListFacts.{prefix_self, prefix_of_longer}

-- What a list of marks says after one more mark.

pub updates_of-append : (h ms : List Mark) → updates_of (h ++ ms) ≡ updates_of h ++ updates_of ms
updates_of-append [] ms = refl
updates_of-append (Done u ∷ h) ms = ap (λ us. u ∷ us) (updates_of-append h ms)
updates_of-append (_ ∷ h) ms = updates_of-append h ms

-- who has seen more has seen no fewer updates
pub updates_below : (a b : List Mark) → IsPrefix a b → length (updates_of a) ≤ length (updates_of b)
updates_below a b p = let e = ap length (ap updates_of (sym p.1) ∙ updates_of-append a p.0) in
    omega (arith, e, length-append (updates_of a) (updates_of p.0))

open_from-snoc : (p i : ℕ) (o : Option Open) (h : List Mark) (m : Mark)
    → open_from p i o (h ++ m ∷ []) ≡ next_open p (i + length h) (open_from p i o h) m
open_from-snoc p i o [] m = let e : i ≡ i + 0 = omega arith in ap (λ k. next_open p k o m) e
open_from-snoc p i o (x ∷ h) m = let e : i + 1 + length h ≡ i + suc (length h) = omega arith in
    open_from-snoc p (i + 1) (next_open p i o x) h m ∙ ap (λ k. next_open p k (open_from p (i + 1) (next_open p i o x) h) m) e

-- the open section of a place, after one more mark
pub open_at-snoc : (p : ℕ) (h : List Mark) (m : Mark) → open_at p (h ++ m ∷ []) ≡ next_open p (length h) (open_at p h) m
open_at-snoc p h m = let e : 0 + length h ≡ length h = omega arith in
    open_from-snoc p 0 None h m ∙ ap (λ k. next_open p k (open_at p h) m) e

gone_from-snoc : (s i : ℕ) (g : Option ℕ) (h : List Mark) (m : Mark)
    → gone_from s i g (h ++ m ∷ []) ≡ next_gone s (i + length h) (gone_from s i g h) m
gone_from-snoc s i g [] m = let e : i ≡ i + 0 = omega arith in ap (λ k. next_gone s k g m) e
gone_from-snoc s i g (x ∷ h) m = let e : i + 1 + length h ≡ i + suc (length h) = omega arith in
    gone_from-snoc s (i + 1) (next_gone s i g x) h m ∙ ap (λ k. next_gone s k (gone_from s (i + 1) (next_gone s i g x) h) m) e

-- where a slot was unlinked, after one more mark
pub gone_at-snoc : (s : ℕ) (h : List Mark) (m : Mark) → gone_at s (h ++ m ∷ []) ≡ next_gone s (length h) (gone_at s h) m
gone_at-snoc s h m = let e : 0 + length h ≡ length h = omega arith in
    gone_from-snoc s 0 None h m ∙ ap (λ k. next_gone s k (gone_from s 0 None h) m) e

pub own_of-append : (p : ℕ) (h ms : List Mark) → own_of p (h ++ ms) ≡ own_of p h ++ own_of p ms
own_of-append p [] ms = refl
own_of-append p (m ∷ h) ms =
    let rest = own_of-append p h ms in
    elim (is_of p m) as (λ b. cond b (m ∷ own_of p (h ++ ms)) (own_of p (h ++ ms)) ≡ cond b (m ∷ own_of p h) (own_of p h)
    ++ own_of p ms) [ true ↦ ap (λ xs. m ∷ xs) rest | false ↦ rest ]

-- where two beginnings have the same marks of a place, so has what is between them
pub own_of-between : (p : ℕ) (a b c : List Mark) → IsPrefix a b → IsPrefix b c → own_of p a ≡ own_of p c → own_of p b ≡ own_of p a
own_of-between p a b c first second same =
    let one : own_of p b ≡ own_of p a ++ own_of p first.0 = ap (own_of p) (sym first.1) ∙ own_of-append p a first.0 in
    let two : own_of p c ≡ own_of p b ++ own_of p second.0 = ap (own_of p) (sym second.1) ∙ own_of-append p b second.0 in
    let long : length (own_of p first.0) ≡ 0 = omega (
      arith,
      ap length one,
      ap length two,
      ap length same,
      length-append (own_of p a) (own_of p first.0),
      length-append (own_of p b) (own_of p second.0),
    ) in
    let none : own_of p first.0 ≡ [] = no_length (own_of p first.0) long in
    one ∙ ap (λ z. own_of p a ++ z) none ∙ append-nil (own_of p a)
  where
    no_length : (xs : List Mark) → length xs ≡ 0 → xs ≡ []
    no_length [] e = refl
    no_length (x ∷ xs) e = absurd (omega arith)

pub entered_at-append : (p : ℕ) (h ms : List Mark) → entered_at p (h ++ ms) ≡ entered_at p h + entered_at p ms
entered_at-append p [] ms = omega arith
entered_at-append p (Entered q c x ∷ h) ms = let e = entered_at-append p h ms in omega arith
entered_at-append p (_ ∷ h) ms = entered_at-append p h ms

-- whether the pairs moved elsewhere, and the updates behind that
pub moves_in-append : (h ms : List Mark) → moves_in (h ++ ms) ≡ moves_in h + moves_in ms
moves_in-append [] ms = omega arith
moves_in-append (Moved ∷ h) ms = let e = moves_in-append h ms in omega arith
moves_in-append (_ ∷ h) ms = moves_in-append h ms

-- where it wasn't said before
pub updates_behind-fresh : (h ms : List Mark) → moves_in h ≡ 0 → updates_behind (h ++ ms) ≡ updates_behind ms
updates_behind-fresh [] ms none = refl
updates_behind-fresh (Moved ∷ h) ms none = absurd (omega arith)
updates_behind-fresh (_ ∷ h) ms none = updates_behind-fresh h ms none

-- a beginning of marks that end there has none behind either
pub behind_front : (h ms : List Mark) → updates_behind (h ++ ms) ≡ [] → updates_behind h ≡ []
behind_front [] ms none = refl
behind_front (Moved ∷ h) ms none = no_update (updates_of h) (updates_of ms) (sym (updates_of-append h ms) ∙ none)
  where
    no_update : (us ws : List Update) → us ++ ws ≡ [] → us ≡ []
    no_update [] ws e = refl
    no_update (u ∷ us) ws e = absurd (cc)
behind_front (_ ∷ h) ms none = behind_front h ms none

-- where no update comes
pub updates_behind-silent : (h ms : List Mark) → updates_of ms ≡ [] → updates_behind ms ≡ [] → updates_behind (h ++ ms) ≡ updates_behind h
updates_behind-silent [] ms silent none = none
updates_behind-silent (Moved ∷ h) ms silent none = updates_of-append h ms ∙ ap (λ us. updates_of h ++ us) silent ∙ append-nil (updates_of h)
updates_behind-silent (_ ∷ h) ms silent none = updates_behind-silent h ms silent none

-- Where in a list of marks the things stand that it says.

-- an unlinking stands in the list
gone_below : (s i : ℕ) (g : Option ℕ) (h : List Mark) (p : ℕ) → ((q : ℕ) → g ≡ Some q → q < i) → gone_from s i g h ≡ Some p
    → p < i + length h
gone_below s i g [] p old e = let l = old p e in omega arith
gone_below s i g (Given t ∷ h) p old e =
    let new : (q : ℕ) → cond (t == s) None g ≡ Some q → q < i + 1 = λ q. elim (t == s) as (λ b. cond b None g ≡ Some q → q < i + 1) [
      | true ↦ λ f. absurd (cc)
      | false ↦ λ f. let z = old q f in omega arith
    ] in
    let l = gone_below s (i + 1) (cond (t == s) None g) h p new e in omega arith
gone_below s i g (Freed t ∷ h) p old e =
    let new : (q : ℕ) → cond (t == s) None g ≡ Some q → q < i + 1 = λ q. elim (t == s) as (λ b. cond b None g ≡ Some q → q < i + 1) [
      | true ↦ λ f. absurd (cc)
      | false ↦ λ f. let z = old q f in omega arith
    ] in
    let l = gone_below s (i + 1) (cond (t == s) None g) h p new e in omega arith
gone_below s i g (Unlinked t ∷ h) p old e =
    let new : (q : ℕ) → cond (t == s) (Some i) g ≡ Some q → q < i + 1 =
    λ q. elim (t == s) as (λ b. cond b (Some i) g ≡ Some q → q < i + 1) [
      | true ↦ λ f. let z : i ≡ q = cc in omega arith
      | false ↦ λ f. let z = old q f in omega arith
    ] in
    let l = gone_below s (i + 1) (cond (t == s) (Some i) g) h p new e in omega arith
gone_below s i g (_ ∷ h) p old e = let l = gone_below s (i + 1) g h p (λ q f. let z = old q f in omega arith) e in omega arith

pub gone_at-below : (s : ℕ) (h : List Mark) (p : ℕ) → gone_at s h ≡ Some p → p < length h
gone_at-below s h p e = let l = gone_below s 0 None h p (λ q f. absurd (cc)) e in omega arith

open_below : (p i : ℕ) (s : Option Open) (h : List Mark) (o : Open) → ((q : Open) → s ≡ Some q → q.at < i) → open_from p i s h ≡ Some o
    → o.at < i + length h
open_below p i s [] o old e = let l = old o e in omega arith
open_below p i s (Entered q c x ∷ h) o old e =
    let new : (z : Open) → cond (q == p) (Some (record { count = c; key = x; at = i })) s ≡ Some z → z.at < i + 1 =
    λ z. elim (q == p) as (λ b. cond b (Some (record { count = c; key = x; at = i })) s ≡ Some z → z.at < i + 1) [
      | true ↦ λ f. (let g : Some i ≡ Some z.at = ap at_of f in let k : i ≡ z.at = cc in omega arith)
      | false ↦ λ f. let k = old z f in omega arith
    ] in
    let l = open_below p (i + 1) (cond (q == p) (Some (record { count = c; key = x; at = i })) s) h o new e in omega arith
  where
    at_of : Option Open → Option ℕ
    at_of None = None
    at_of (Some z) = Some z.at
open_below p i s (Left q c ∷ h) o old e =
    let new : (z : Open) → cond (q == p) None s ≡ Some z → z.at < i + 1 =
    λ z. elim (q == p) as (λ b. cond b None s ≡ Some z → z.at < i + 1) [
      | true ↦ λ f. absurd (cc)
      | false ↦ λ f. let k = old z f in omega arith
    ] in
    let l = open_below p (i + 1) (cond (q == p) None s) h o new e in omega arith
open_below p i s (_ ∷ h) o old e = let l = open_below p (i + 1) s h o (λ q f. let z = old q f in omega arith) e in omega arith

-- an open section was entered in the list
pub open_at-below : (p : ℕ) (h : List Mark) (o : Open) → open_at p h ≡ Some o → o.at < length h
open_at-below p h o e = let l = open_below p 0 None h o (λ q f. absurd (cc)) e in omega arith

-- A place's own marks and updates.

pub own_updates_from-append : (p c : ℕ) (us vs : List Update)
    → own_updates_from p c (us ++ vs) ≡ own_updates_from p c us ++ own_updates_from (p + length us) c vs
own_updates_from-append p c [] vs = ap (λ n. own_updates_from n c vs) (omega arith)
own_updates_from-append p c (u ∷ us) vs =
    let rest : own_updates_from (p + 1) c (us ++ vs) ≡ own_updates_from (p + 1) c us ++ own_updates_from (p + suc (length us)) c vs =
    own_updates_from-append (p + 1) c us vs ∙ ap (λ n. own_updates_from (p + 1) c us ++ own_updates_from n c vs) (omega arith) in
    elim (eqb u.caller c) as (λ b. cond b (record { position = p; op = u.op } ∷ own_updates_from (p + 1) c (us ++ vs))
    (own_updates_from (p + 1) c (us ++ vs))
    ≡ cond b (record { position = p; op = u.op } ∷ own_updates_from (p + 1) c us) (own_updates_from (p + 1) c us)
    ++ own_updates_from (p + suc (length us)) c vs) [
      | true ↦ ap (λ x. record { position = p; op = u.op } ∷ x) rest
      | false ↦ rest
    ]

-- with or without a mark that is no update, the updates are the same
skipped : (b : Bool) (m : Mark) (ms : List Mark) (us : List Update) → updates_of (m ∷ ms) ≡ updates_of ms
    → updates_of (cond b (m ∷ ms) ms) ≡ us → updates_of ms ≡ us
skipped true m ms us same is = sym same ∙ is
skipped false m ms us same is = is

-- a place's own marks are all its own
pub own_twice : (p : ℕ) (h : List Mark) → own_of p (own_of p h) ≡ own_of p h
own_twice p [] = refl
own_twice p (m ∷ h) = by (is_of p m) refl (own_twice p h)
  where
    by : (b : Bool) → is_of p m ≡ b → own_of p (own_of p h) ≡ own_of p h
        → own_of p (cond b (m ∷ own_of p h) (own_of p h)) ≡ cond b (m ∷ own_of p h) (own_of p h)
    by true e rest = ap (λ b. cond b (m ∷ own_of p (own_of p h)) (own_of p (own_of p h))) e ∙ ap (λ xs. m ∷ xs) rest
    by false e rest = rest

module _ (p : ℕ) where
  -- a place that left no update has none
  pub no_own_update : (n : ℕ) (h : List Mark) → updates_of (own_of p h) ≡ [] → own_updates_from n p (updates_of h) ≡ []
  no_own_update n [] none = refl
  no_own_update n (Done u ∷ h) none =
      elim (u.caller == p) as (λ b. updates_of (cond b (Done u ∷ own_of p h) (own_of p h)) ≡ []
      → cond b (record { position = n; op = u.op } ∷ own_updates_from (n + 1) p (updates_of h))
      (own_updates_from (n + 1) p (updates_of h)) ≡ []) [
        | true ↦ λ e. absurd (cc)
        | false ↦ λ e. no_own_update (n + 1) h e
      ] none
  no_own_update n (m ∷ h) none = no_own_update n h (skipped (is_of p m) m (own_of p h) [] refl none)

  -- a place that left one update has it where it stands
  pub one_own_update : (n i : ℕ) (h : List Mark) (u v : Update) → updates_of (own_of p h) ≡ u ∷ [] → slice_get (updates_of h) i ≡ Some v
      → v.caller ≡ p → own_updates_from n p (updates_of h) ≡ record { position = n + i; op = v.op } ∷ []
  one_own_update n i [] u v one there is = absurd (cc)
  one_own_update n zero (Done w ∷ h) u v one there is =
      let same : w ≡ v = cc in
      let test : (w.caller == p) ≡ true = eq-eqb w.caller p (ap (λ (z : Update). z.caller) same ∙ is) in
      let only : updates_of (Done w ∷ own_of p h) ≡ u ∷ [] =
      ap (λ b. updates_of (cond b (Done w ∷ own_of p h) (own_of p h))) (sym test) ∙ one in
      let rest : updates_of (own_of p h) ≡ [] = cc in
      ap (λ b. cond b (record { position = n; op = w.op } ∷ own_updates_from (n + 1) p (updates_of h))
      (own_updates_from (n + 1) p (updates_of h))) test
      ∙ ap (λ xs. record { position = n; op = w.op } ∷ xs) (no_own_update (n + 1) h rest)
      ∙ (let at : n ≡ n + 0 = omega arith in λ j. record { position = at j; op = (same j).op } ∷ [])
  one_own_update n (suc i) (Done w ∷ h) u v one there is =
      elim (w.caller == p) as (λ b. updates_of (cond b (Done w ∷ own_of p h) (own_of p h)) ≡ u ∷ []
      → cond b (record { position = n; op = w.op } ∷ own_updates_from (n + 1) p (updates_of h))
      (own_updates_from (n + 1) p (updates_of h)) ≡ record { position = n + suc i; op = v.op } ∷ []) [
        | true ↦ λ e.
            let none : updates_of (own_of p h) ≡ [] = cc in
            absurd (stands_own (updates_of h) i v there is (n + 1) (no_own_update (n + 1) h none))
        | false ↦ λ e. one_own_update (n + 1) i h u v e there is
            ∙ (let at : n + 1 + i ≡ n + suc i = omega arith in λ j. record { position = at j; op = v.op } ∷ [])
      ] one
    where
      -- an update that stands in a list is among those of its caller
      stands_own : (us : List Update) (k : ℕ) (x : Update) → slice_get us k ≡ Some x → x.caller ≡ p → (m : ℕ) → own_updates_from m p us ≡ []
          → ⊥
      stands_own [] k x at mine m none = absurd (cc)
      stands_own (y ∷ ys) zero x at mine m none =
          let same : y ≡ x = cc in
          let test : (y.caller == p) ≡ true = eq-eqb y.caller p (ap (λ (z : Update). z.caller) same ∙ mine) in
          let e : record { position = m; op = y.op } ∷ own_updates_from (m + 1) p ys ≡ [] =
          ap (λ b. cond b (record { position = m; op = y.op } ∷ own_updates_from (m + 1) p ys) (own_updates_from (m + 1) p ys))
          (sym test) ∙ none in
          absurd (cc)
      stands_own (y ∷ ys) (suc k) x at mine m none =
          elim (y.caller == p) as (λ b. cond b (record { position = m; op = y.op } ∷ own_updates_from (m + 1) p ys)
          (own_updates_from (m + 1) p ys) ≡ [] → ⊥) [
            | true ↦ λ e. absurd (cc)
            | false ↦ λ e. stands_own ys k x at mine (m + 1) e
          ] none
  one_own_update n i (m ∷ h) u v one there is = one_own_update n i h u v (skipped (is_of p m) m (own_of p h) (u ∷ []) refl one) there is

  -- a mark that a call left at the place is its own
  pub left_is_of : (key : ℕ) (m : Mark) → IsLeftBy p key m → is_of p m ≡ true
  left_is_of key (Entered q c x) is = eq-eqb q p is.0
  left_is_of key (Left q c) is = eq-eqb q p is
  left_is_of key (Began q c low high) is = eq-eqb q p is
  left_is_of key (Ended q c) is = eq-eqb q p is
  left_is_of key (Done u) is = eq-eqb u.caller p is
  left_is_of key _ is = absurd is

  pub own_of-all : (ms : List Mark) → AllByRecursion (λ m. is_of p m ≡ true) ms → own_of p ms ≡ ms
  own_of-all [] all = refl
  own_of-all (m ∷ ms) all = ap (λ b. cond b (m ∷ own_of p ms) (own_of p ms)) all.0 ∙ ap (λ xs. m ∷ xs) (own_of-all ms all.1)

pub entered_for-append : (p x : ℕ) (h ms : List Mark) → entered_for p x (h ++ ms) ≡ entered_for p x h + entered_for p x ms
entered_for-append p x [] ms = omega arith
entered_for-append p x (Entered q c y ∷ h) ms = let rest = entered_for-append p x h ms in omega arith
entered_for-append p x (_ ∷ h) ms = entered_for-append p x h ms

-- Where a slot was unlinked last.

-- a mark that unlinks no slot
abbrev pub UnlinksNone : Mark → Type 0
UnlinksNone (Unlinked s) = ⊥
UnlinksNone _ = Unit {0}

last_below : (s i : ℕ) (g : Option ℕ) (h : List Mark) (p : ℕ) → ((q : ℕ) → g ≡ Some q → q < i) → unlinked_from s i g h ≡ Some p
    → p < i + length h
last_below s i g [] p old e = let l = old p e in omega arith
last_below s i g (Unlinked t ∷ h) p old e =
    let new : (q : ℕ) → cond (t == s) (Some i) g ≡ Some q → q < i + 1 =
    λ q. elim (t == s) as (λ b. cond b (Some i) g ≡ Some q → q < i + 1) [
      | true ↦ λ f. let z : i ≡ q = cc in omega arith
      | false ↦ λ f. let z = old q f in omega arith
    ] in
    let l = last_below s (i + 1) (cond (t == s) (Some i) g) h p new e in omega arith
last_below s i g (_ ∷ h) p old e = let l = last_below s (i + 1) g h p (λ q f. let z = old q f in omega arith) e in omega arith

-- the last unlinking stands in the list
pub last_unlinked-below : (s : ℕ) (h : List Mark) (p : ℕ) → last_unlinked s h ≡ Some p → p < length h
last_unlinked-below s h p e = let l = last_below s 0 None h p (λ q f. absurd (cc)) e in omega arith

-- where it was before a mark, and is after it
abbrev pub next_last : ℕ → ℕ → Option ℕ → Mark → Option ℕ
next_last s i last (Unlinked t) = cond (t == s) (Some i) last
next_last s i last _ = last

last_one : (s i : ℕ) (g : Option ℕ) (m : Mark) → unlinked_from s i g (m ∷ []) ≡ next_last s i g m
last_one s i g (Unlinked t) = refl
last_one s i g _ = refl

last_later : (s i : ℕ) (g : Option ℕ) (h : List Mark) (m : Mark) (n : ℕ) → n ≡ i + length h
    → unlinked_from s i g (h ++ m ∷ []) ≡ next_last s n (unlinked_from s i g h) m
last_later s i g [] m n e = last_one s i g m ∙ ap (λ k. next_last s k g m) (let z : i ≡ n = omega arith in z)
last_later s i g (Unlinked t ∷ h) m n e = last_later s (i + 1) (cond (t == s) (Some i) g) h m n (omega arith)
last_later s i g (_ ∷ h) m n e = last_later s (i + 1) g h m n (omega arith)

-- the last unlinking, after one more mark
pub last_unlinked-snoc : (s : ℕ) (h : List Mark) (m : Mark) → last_unlinked s (h ++ m ∷ []) ≡ next_last s (length h) (last_unlinked s h) m
last_unlinked-snoc s h m = last_later s 0 None h m (length h) (omega arith)

next_last-same : (s i : ℕ) (g : Option ℕ) (m : Mark) → UnlinksNone m → next_last s i g m ≡ g
next_last-same s i g (Unlinked t) n = absurd n
next_last-same s i g _ n = refl

pub last_unlinked-same : (h : List Mark) (m : Mark) → UnlinksNone m → (s : ℕ) → last_unlinked s (h ++ m ∷ []) ≡ last_unlinked s h
last_unlinked-same h m n s = last_unlinked-snoc s h m ∙ next_last-same s (length h) (last_unlinked s h) m n

pub last_unlinked-other : (h : List Mark) (s t : ℕ) → t ≢ s → last_unlinked s (h ++ Unlinked t ∷ []) ≡ last_unlinked s h
last_unlinked-other h s t ne = last_unlinked-snoc s h (Unlinked t) ∙ ap (λ b. cond b (Some (length h)) (last_unlinked s h)) (ne_eqb t s ne)

kept : (b : Bool) (g : Option ℕ) (p : ℕ) → cond b None g ≡ Some p → g ≡ Some p
kept true g p o = absurd (cc)
kept false g p o = o

gone_last : (s i : ℕ) (g l : Option ℕ) (h : List Mark) (p : ℕ) → (g ≡ Some p → l ≡ Some p) → gone_from s i g h ≡ Some p
    → unlinked_from s i l h ≡ Some p
gone_last s i g l [] p f e = f e
gone_last s i g l (Given t ∷ h) p f e = gone_last s (i + 1) (cond (t == s) None g) l h p (λ o. f (kept (t == s) g p o)) e
gone_last s i g l (Freed t ∷ h) p f e = gone_last s (i + 1) (cond (t == s) None g) l h p (λ o. f (kept (t == s) g p o)) e
gone_last s i g l (Unlinked t ∷ h) p f e = gone_last s (i + 1) (cond (t == s) (Some i) g) (cond (t == s) (Some i) l) h p (both (t == s)) e
  where
    both : (b : Bool) → cond b (Some i) g ≡ Some p → cond b (Some i) l ≡ Some p
    both true o = o
    both false o = f o
gone_last s i g l (_ ∷ h) p f e = gone_last s (i + 1) g l h p f e

-- where a slot is unlinked and neither given nor freed since, that was its last unlinking
pub last_gone : (s : ℕ) (h : List Mark) (p : ℕ) → gone_at s h ≡ Some p → last_unlinked s h ≡ Some p
last_gone s h p e = gone_last s 0 None None h p (λ o. absurd (cc)) e

-- What two seats have seen: both are beginnings of one list, and the longer one has the other at its beginning.

-- the longer of two lists is one of them
pub longer_case : (P : List Mark → Type 0) (a b : List Mark) → (length b ≤ length a → P a) → (length a < length b → P b) → P (longer a b)
longer_case P a b first second =
    dite (dec_le (suc (length a)) (length b))
    (λ less. subst (λ z. P (cond z b a)) (sym (lt-ltb (length a) (length b) less)) (second less))
    (λ not_less. subst (λ z. P (cond z b a)) (sym (le-ltb (length a) (length b) (omega arith))) (first (omega arith)))

-- a beginning isn't longer than the whole, and is the whole where it is as long
prefix_below : (a h : List Mark) → IsPrefix a h → length a ≤ length h
prefix_below a h p = let e = ap length p.1 in let n = length-append a p.0 in omega arith

prefix_whole : (a h : List Mark) → IsPrefix a h → length h ≤ length a → a ≡ h
prefix_whole a h p long = sym (append-nil a) ∙ ap (λ z. a ++ z)
    (sym (nil_from_length p.0 (let e = ap length p.1 in let n = length-append a p.0 in omega arith))) ∙ p.1

module _ (a b h : List Mark) (first : IsPrefix a h) (second : IsPrefix b h) where
  pub longer_begins : IsPrefix (longer a b) h
  longer_begins = longer_case (λ z. IsPrefix z h) a b (λ _. first) (λ _. second)

  pub longer_first : IsPrefix a (longer a b)
  longer_first = longer_case (λ z. IsPrefix a z) a b (λ _. prefix_self a) (λ less. prefix_of_longer a b h first second (omega arith))

  pub longer_second : IsPrefix b (longer a b)
  longer_second = longer_case (λ z. IsPrefix b z) a b (λ more. prefix_of_longer b a h second first more) (λ _. prefix_self b)

  -- where one of the two is the whole, the longer one is
  pub longer_whole_first : a ≡ h → longer a b ≡ h
  longer_whole_first whole =
      let long = ap length whole in
      let short = prefix_below b h second in
      longer_case (λ z. z ≡ h) a b (λ _. whole) (λ less. absurd (omega arith))

  pub longer_whole_second : b ≡ h → longer a b ≡ h
  longer_whole_second whole =
      let long = ap length whole in
      longer_case (λ z. z ≡ h) a b (λ more. prefix_whole a h first (omega arith)) (λ _. whole)

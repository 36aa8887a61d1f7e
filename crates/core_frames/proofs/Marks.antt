-- What a list of marks says after more marks.
use Rattle.std.proofs.Common.{◌≡◌, ◌≢◌, ℕ, ◌+◌, false, cond, List, [], ◌∷◌, ◌++◌, length, Option, refl, ap, ◌∙◌, ⊎_elim, arith, append-nil, zero, suc, ◌<◌, ◌≤◌, take, Some, None, length-append, subst, sym, ne_eqb, ◌⊎◌, inl, inr, eq-eqb, append_assoc, ◌==◌, Bool, true}
use mathlib.Core.Option.{some, some-injective}
use lib.ListN.{get_elem?}
use Rattle.atomic_table.proofs.Lists.{at_longer, at_last}
use Rattle.prcu_marks.specs.declared.mark.Mark.{Mark}
use Rattle.prcu_marks.specs.declared.mark.Mark.TheVariants.{Entered, Left, Began, Ended, Done, Given, Unlinked, Freed, Moved}
use Rattle.prcu_model.specs.declared.operation.Update.{Update}
use Rattle.prcu_marks.specs.Marks.{updates_of, next_gone, gone_at, is_of, own_of, last_unlinked, entered_at, Open, open_at, next_open, open_from, moves_in, updates_behind}
use Rattle.prcu_marks.proofs.Marks.{updates_of-append, gone_at-snoc, own_of-append, UnlinksNone, last_unlinked-same, open_at-snoc, entered_at-append, last_unlinked-other, moves_in-append, updates_behind-fresh, updates_behind-silent}
use Rattle.core_state.specs.Marks.{begun, begun_at, IsReused, Reuse, AreMarks, IsNextSection, IsNextWait}
use Rattle.list_laws.proofs.Lists.{at_end, past_snoc, at_below}
use Rattle.std.proofs.lemmas.List.{take-append-le}
use Rattle.core_state.specs.Parts.{HasEnded}
use mathlib.Core.List.{IsPrefix}
use Rattle.prcu_model.proofs.ListFacts.{prefix_more, prefix_self, prefix_trans}
use Rattle.prcu_model.specs.declared.operation.Op.TheVariants.{Del, Get}
use Rattle.prcu_model.specs.declared.operation.Op.{Op}
use Rattle.std.proofs.lemmas.Bool.{eqb-true}

-- What one more mark leaves as it was.

-- a mark of a section or a wait
abbrev pub IsOutside : Mark → Type 0
IsOutside (Done u) = ⊥
IsOutside (Given s) = ⊥
IsOutside (Unlinked s) = ⊥
IsOutside (Freed s) = ⊥
IsOutside Moved = ⊥
IsOutside _ = Unit {0}

-- a mark that neither begins nor ends a wait
abbrev pub TurnsNoWait : Mark → Type 0
TurnsNoWait (Began p c low high) = ⊥
TurnsNoWait (Ended p c) = ⊥
TurnsNoWait _ = Unit {0}

unlinks_none : (m : Mark) → IsOutside m → UnlinksNone m
unlinks_none (Unlinked t) o = absurd o
unlinks_none _ o = tt

gone_same : (s i : ℕ) (g : Option ℕ) (m : Mark) → IsOutside m → next_gone s i g m ≡ g
gone_same s i g (Given t) n = absurd n
gone_same s i g (Unlinked t) n = absurd n
gone_same s i g (Freed t) n = absurd n
gone_same s i g _ n = refl

updates_same : (m : Mark) → IsOutside m → updates_of (m ∷ []) ≡ []
updates_same (Done u) n = absurd n
updates_same _ n = refl

not_done : (m : Mark) (u : Update) → IsOutside m → m ≢ Done u
not_done (Done v) u o e = absurd o
not_done _ u o e = cc

-- The marks that came say nothing of updates and slots.
pub record SilentMarks (h h' : List Mark) : Type 0 where
  pub updates : updates_of h' ≡ updates_of h
  pub gone : (s : ℕ) → gone_at s h' ≡ gone_at s h
  pub last : (s : ℕ) → last_unlinked s h' ≡ last_unlinked s h
  pub longer : (j : ℕ) (a : Mark) → get_elem? h j ≡ some a → get_elem? h' j ≡ some a
  pub done : (j : ℕ) (u : Update) → get_elem? h' j ≡ some (Done u) → get_elem? h j ≡ some (Done u)

pub silent_same : (h : List Mark) → SilentMarks h h
silent_same h = record { updates = refl; gone = λ s. refl; last = λ s. refl; longer = λ j a e. e; done = λ j u e. e }

pub silent_snoc : (h : List Mark) (m : Mark) → IsOutside m → SilentMarks h (h ++ m ∷ [])
silent_snoc h m o = record {
  updates = updates_of-append h (m ∷ []) ∙ ap (λ z. updates_of h ++ z) (updates_same m o) ∙ append-nil (updates_of h);
  gone = λ s. gone_at-snoc s h m ∙ gone_same s (length h) (gone_at s h) m o;
  last = λ s. last_unlinked-same h m (unlinks_none m o) s;
  longer = λ j a e. at_longer h (m ∷ []) j a e;
  done = λ j u e. ⊎_elim (λ (t : get_elem? h j ≡ some (Done u)). t) (λ t. absurd (not_done m u o t.1)) (at_end h m (Done u) j e);
}

-- The marks that came say nothing of a move to another table, and add no update behind one.
pub record SameEnd (h h' : List Mark) : Type 0 where
  pub moves : moves_in h' ≡ moves_in h
  pub behind : updates_behind h' ≡ updates_behind h

pub end_same : (h : List Mark) → SameEnd h h
end_same h = record { moves = refl; behind = refl }

pub end_more : (h ms : List Mark) → updates_of ms ≡ [] → moves_in ms ≡ 0 → updates_behind ms ≡ [] → SameEnd h (h ++ ms)
end_more h ms silent moves none = record {
  moves = (let e = moves_in-append h ms in omega arith);
  behind = updates_behind-silent h ms silent none;
}

moves_none : (m : Mark) → IsOutside m → moves_in (m ∷ []) ≡ 0
moves_none Moved o = absurd o
moves_none _ o = refl

behind_none : (m : Mark) → updates_behind (m ∷ []) ≡ []
behind_none Moved = refl
behind_none _ = refl

pub end_snoc : (h : List Mark) (m : Mark) → IsOutside m → SameEnd h (h ++ m ∷ [])
end_snoc h m o = end_more h (m ∷ []) (updates_same m o) (moves_none m o) (behind_none m)

-- The marks that came say nothing of a move. So where none was said before, no update stands behind one.
pub record StaysHere (h h' : List Mark) : Type 0 where
  pub moves : moves_in h' ≡ moves_in h
  pub behind : moves_in h ≡ 0 → updates_behind h' ≡ []

pub here_more : (h ms : List Mark) → moves_in ms ≡ 0 → updates_behind ms ≡ [] → StaysHere h (h ++ ms)
here_more h ms moves none = record {
  moves = (let e = moves_in-append h ms in omega arith);
  behind = λ fresh. updates_behind-fresh h ms fresh ∙ none;
}

-- the mark of a move says nothing of updates and slots
pub silent_moved : (h : List Mark) → SilentMarks h (h ++ Moved ∷ [])
silent_moved h = record {
  updates = updates_of-append h (Moved ∷ []) ∙ append-nil (updates_of h);
  gone = λ s. gone_at-snoc s h Moved;
  last = λ s. last_unlinked-same h Moved tt s;
  longer = λ j a e. at_longer h (Moved ∷ []) j a e;
  done = λ j u e. ⊎_elim (λ (t : get_elem? h j ≡ some (Done u)). t) (λ (t : (j ≡ length h) × (Moved ≡ Done u)). absurd (let q = t.1 in cc))
      (at_end h Moved (Done u) j e);
}

-- how many waits were begun, after one more mark
begun_same : (m : Mark) → TurnsNoWait m → begun (m ∷ []) ≡ 0
begun_same (Began q c a b) n = absurd n
begun_same (Ended q c) n = absurd n
begun_same _ n = refl

pub begun-append : (h ms : List Mark) → begun (h ++ ms) ≡ begun h + begun ms
begun-append [] ms = omega arith
begun-append (Began q c a b ∷ h) ms = let e = begun-append h ms in omega arith
begun-append (_ ∷ h) ms = begun-append h ms

pub begun-same : (h : List Mark) (m : Mark) → TurnsNoWait m → begun (h ++ m ∷ []) ≡ begun h
begun-same h m n = let a = begun-append h (m ∷ []) in let b = begun_same m n in omega arith

begun_at_same : (p : ℕ) (m : Mark) → TurnsNoWait m → begun_at p (m ∷ []) ≡ 0
begun_at_same p (Began q c a b) n = absurd n
begun_at_same p (Ended q c) n = absurd n
begun_at_same p _ n = refl

pub begun_at-append : (p : ℕ) (h ms : List Mark) → begun_at p (h ++ ms) ≡ begun_at p h + begun_at p ms
begun_at-append p [] ms = omega arith
begun_at-append p (Began q c a b ∷ h) ms = let e = begun_at-append p h ms in omega arith
begun_at-append p (_ ∷ h) ms = begun_at-append p h ms

pub begun_at-same : (p : ℕ) (h : List Mark) (m : Mark) → TurnsNoWait m → begun_at p (h ++ m ∷ []) ≡ begun_at p h
begun_at-same p h m n = let a = begun_at-append p h (m ∷ []) in let b = begun_at_same p m n in omega arith

-- the marks of a place, after a mark of another
pub own_of-other : (p : ℕ) (h : List Mark) (m : Mark) → is_of p m ≡ false → own_of p (h ++ m ∷ []) ≡ own_of p h
own_of-other p h m ne = own_of-append p h (m ∷ []) ∙ ap (λ b. own_of p h ++ cond b (m ∷ []) []) ne ∙ append-nil (own_of p h)

-- Where more marks come at the end of the list: what stood in it stands there still, and what the marks of one place leave of waits and of
-- other places.

-- what stands at a place of a list
pub at_some : {A : Type 0} (l : List A) (j : ℕ) → j < length l → (a : A) × (get_elem? l j ≡ some a)
at_some [] j lt = absurd (omega arith)
at_some (x ∷ xs) zero lt = (x, refl)
at_some (x ∷ xs) (suc j) lt = at_some xs j (omega arith)

module _ (h h' : List Mark) (grows : IsPrefix h h') where
  pub cut_at : (n : ℕ) → n ≤ length h → take n h' ≡ take n h
  cut_at n le = subst (λ z. take n z ≡ take n h) grows.1 (take-append-le n h grows.0 le)

  pub longer_at : (j : ℕ) (a : Mark) → get_elem? h j ≡ some a → get_elem? h' j ≡ some a
  longer_at j a e = subst (λ z. get_elem? z j ≡ some a) grows.1 (at_longer h grows.0 j a e)

  pub room_at : length h ≤ length h'
  room_at = let e = ap length grows.1 in let n = length-append h grows.0 in omega arith

  -- what stands in the second list where the first isn't over, stands in the first
  pub back_at : (j : ℕ) (a : Mark) → j < length h → get_elem? h' j ≡ some a → get_elem? h j ≡ some a
  back_at j a lt e = let b = at_some h j lt in b.1 ∙ ap some (some-injective b.0 a (sym (longer_at j b.0 b.1) ∙ e))

pub prefix_snoc : (h : List Mark) (m : Mark) → IsPrefix h (h ++ m ∷ [])
prefix_snoc h m = prefix_more h h (m ∷ []) (prefix_self h)

-- No wait ended with the marks that came, and those that had ended began before.
pub record NoWaitEnded (h h' : List Mark) : Type 0 where
  pub began : (j p c low high : ℕ) → HasEnded h p c → get_elem? h' j ≡ some (Began p c low high) → get_elem? h j ≡ some (Began p c low high)
  pub ended : (j p c : ℕ) → get_elem? h' j ≡ some (Ended p c) → get_elem? h j ≡ some (Ended p c)

pub waits_same : (h : List Mark) → NoWaitEnded h h
waits_same h = record { began = λ j p c low high has e. e; ended = λ j p c e. e }

pub waits_snoc : (h : List Mark) (m : Mark) → TurnsNoWait m → NoWaitEnded h (h ++ m ∷ [])
waits_snoc h m none = record {
  began = λ j p c low high has e. ⊎_elim (λ (o : get_elem? h j ≡ some (Began p c low high)). o) (λ n. absurd (subst TurnsNoWait n.1 none))
      (at_end h m (Began p c low high) j e);
  ended = λ j p c e. ⊎_elim (λ (o : get_elem? h j ≡ some (Ended p c)). o) (λ n. absurd (subst TurnsNoWait n.1 none))
      (at_end h m (Ended p c) j e);
}

-- What the marks that came leave of other places than one.
pub record OtherMarks (place : ℕ) (h h' : List Mark) : Type 0 where
  pub begins : IsPrefix h h'
  pub own : (p : ℕ) → p ≢ place → own_of p h' ≡ own_of p h
  pub opens : (p : ℕ) → p ≢ place → open_at p h' ≡ open_at p h
  pub entries : (p : ℕ) → p ≢ place → entered_at p h' ≡ entered_at p h
  pub waits : (p : ℕ) → p ≢ place → begun_at p h' ≡ begun_at p h

pub others_same : (place : ℕ) (h : List Mark) → OtherMarks place h h
others_same place h = record {
  begins = prefix_self h;
  own = λ p ne. refl;
  opens = λ p ne. refl;
  entries = λ p ne. refl;
  waits = λ p ne. refl;
}

open_other : (p n : ℕ) (o : Option Open) (m : Mark) → is_of p m ≡ false → next_open p n o m ≡ o
open_other p n o (Entered q c x) e = ap (λ b. cond b (Some (record { count = c; key = x; at = n })) o) e
open_other p n o (Left q c) e = ap (λ b. cond b None o) e
open_other p n o _ e = refl

counted_other : (p : ℕ) (m : Mark) → is_of p m ≡ false → (entered_at p (m ∷ []) ≡ 0) × (begun_at p (m ∷ []) ≡ 0)
counted_other p (Entered q c x) e = (ap (λ b. cond b 1 0 + 0) e, refl)
counted_other p (Began q c a b) e = (refl, ap (λ t. cond t 1 0 + 0) e)
counted_other p _ e = (refl, refl)

-- a mark of the place itself
pub others_snoc : (place : ℕ) (h : List Mark) (m : Mark) → ((p : ℕ) → p ≢ place → is_of p m ≡ false) → OtherMarks place h (h ++ m ∷ [])
others_snoc place h m mine = record {
  begins = prefix_snoc h m;
  own = λ p ne. own_of-other p h m (mine p ne);
  opens = λ p ne. open_at-snoc p h m ∙ open_other p (length h) (open_at p h) m (mine p ne);
  entries = λ p ne. (let a = entered_at-append p h (m ∷ []) in let b = (counted_other p m (mine p ne)).0 in omega arith);
  waits = λ p ne. (let a = begun_at-append p h (m ∷ []) in let b = (counted_other p m (mine p ne)).1 in omega arith);
}

-- a mark that doesn't say that a slot is used again leaves reuse as it was
pub reuse_more : (h : List Mark) (m : Mark) → ((s : ℕ) → IsReused m s → ⊥) → Reuse h → Reuse (h ++ m ∷ [])
reuse_more h m none reuse j s i p a o at used last there =
    past_snoc (λ (past : List Mark) (b : Mark). IsReused b s → last_unlinked s past ≡ Some i → open_at p past ≡ Some o → i < o.at) h m a
    (λ again _ _. absurd (none s again)) (λ n old. reuse n s i p a o old) j at used last there

-- Marks of updates, slots and a move: they open and leave no section, and begin and end no wait.

-- a mark of a slot or of a move, or of an update by this place
abbrev pub IsPlain : ℕ → Mark → Type 0
IsPlain place (Done u) = u.caller ≡ place
IsPlain place (Given s) = Unit {0}
IsPlain place (Unlinked s) = Unit {0}
IsPlain place (Freed s) = Unit {0}
IsPlain place Moved = Unit {0}
IsPlain place _ = ⊥

-- The second list is the first with such marks at its end.
pub record PlainMarks (place : ℕ) (h h' : List Mark) : Type 0 where
  pub begins : IsPrefix h h'
  pub longer : (j : ℕ) (a : Mark) → get_elem? h j ≡ some a → get_elem? h' j ≡ some a
  pub room : length h ≤ length h'
  pub cut : (n : ℕ) → n ≤ length h → take n h' ≡ take n h
  pub opens : (p : ℕ) → open_at p h' ≡ open_at p h
  pub entries : (p : ℕ) → entered_at p h' ≡ entered_at p h
  pub waits : begun h' ≡ begun h
  pub waits_at : (p : ℕ) → begun_at p h' ≡ begun_at p h
  pub own : (p : ℕ) → p ≢ place → own_of p h' ≡ own_of p h
  pub began : (j p c low high : ℕ) → get_elem? h' j ≡ some (Began p c low high) → get_elem? h j ≡ some (Began p c low high)
  pub ended : (j p c : ℕ) → get_elem? h' j ≡ some (Ended p c) → get_elem? h j ≡ some (Ended p c)
  pub entered : (j p c x : ℕ) → get_elem? h' j ≡ some (Entered p c x) → get_elem? h j ≡ some (Entered p c x)
  pub left : (j p c : ℕ) → get_elem? h' j ≡ some (Left p c) → get_elem? h j ≡ some (Left p c)

pub plain_trans : (place : ℕ) (a b c : List Mark) → PlainMarks place a b → PlainMarks place b c → PlainMarks place a c
plain_trans place a b c x y = record {
  begins = prefix_trans a b c x.begins y.begins;
  longer = λ j m e. y.longer j m (x.longer j m e);
  room = (let p = x.room in let q = y.room in omega arith);
  cut = λ n le. y.cut n (let p = x.room in omega arith) ∙ x.cut n le;
  opens = λ p. y.opens p ∙ x.opens p;
  entries = λ p. y.entries p ∙ x.entries p;
  waits = y.waits ∙ x.waits;
  waits_at = λ p. y.waits_at p ∙ x.waits_at p;
  own = λ p ne. y.own p ne ∙ x.own p ne;
  began = λ j p n low high e. x.began j p n low high (y.began j p n low high e);
  ended = λ j p n e. x.ended j p n (y.ended j p n e);
  entered = λ j p n k e. x.entered j p n k (y.entered j p n k e);
  left = λ j p n e. x.left j p n (y.left j p n e);
}

module _ (place : ℕ) (h : List Mark) where
  opens_one : (m : Mark) → IsPlain place m → (p : ℕ) → open_at p (h ++ m ∷ []) ≡ open_at p h
  opens_one (Entered q c x) is p = absurd is
  opens_one (Left q c) is p = absurd is
  opens_one m is p = open_at-snoc p h m

  entries_none : (m : Mark) → IsPlain place m → (p : ℕ) → (entered_at p (m ∷ []) ≡ 0) × (begun (m ∷ []) ≡ 0) × (begun_at p (m ∷ []) ≡ 0)
  entries_none (Entered q c x) is p = absurd is
  entries_none (Began q c a b) is p = absurd is
  entries_none _ is p = (refl, refl, refl)

  own_none : (m : Mark) → IsPlain place m → (p : ℕ) → p ≢ place → own_of p (m ∷ []) ≡ []
  own_none (Done u) is p ne = ap (λ b. cond b (Done u ∷ []) []) (ne_eqb u.caller p (λ e. ne (sym e ∙ is)))
  own_none (Given s) is p ne = refl
  own_none (Unlinked s) is p ne = refl
  own_none (Freed s) is p ne = refl
  own_none Moved is p ne = refl
  own_none _ is p ne = absurd is

  pub plain_one : (m : Mark) → IsPlain place m → PlainMarks place h (h ++ m ∷ [])
  plain_one m is = record {
    begins = prefix_more h h (m ∷ []) (prefix_self h);
    longer = λ j a e. at_longer h (m ∷ []) j a e;
    room = (let l = length-append h (m ∷ []) in omega arith);
    cut = λ n le. take-append-le n h (m ∷ []) le;
    opens = opens_one m is;
    entries = λ p. (let a = entered_at-append p h (m ∷ []) in let b = (entries_none m is p).0 in omega arith);
    waits = (let a = begun-append h (m ∷ []) in let b = (entries_none m is 0).1 in omega arith);
    waits_at = λ p. (let a = begun_at-append p h (m ∷ []) in let b = (entries_none m is p).2 in omega arith);
    own = λ p ne. own_of-append p h (m ∷ []) ∙ ap (λ z. own_of p h ++ z) (own_none m is p ne) ∙ append-nil (own_of p h);
    began = λ j p c low high e. ⊎_elim (λ (o : get_elem? h j ≡ some (Began p c low high)). o) (λ n. absurd (subst (IsPlain place) n.1 is))
        (at_end h m (Began p c low high) j e);
    ended = λ j p c e. ⊎_elim (λ (o : get_elem? h j ≡ some (Ended p c)). o) (λ n. absurd (subst (IsPlain place) n.1 is))
        (at_end h m (Ended p c) j e);
    entered = λ j p c x e. ⊎_elim (λ (o : get_elem? h j ≡ some (Entered p c x)). o) (λ n. absurd (subst (IsPlain place) n.1 is))
        (at_end h m (Entered p c x) j e);
    left = λ j p c e. ⊎_elim (λ (o : get_elem? h j ≡ some (Left p c)). o) (λ n. absurd (subst (IsPlain place) n.1 is))
        (at_end h m (Left p c) j e);
  }

-- marks in order stay so, where each delete among those that come is followed by its unlinking
module _ (place : ℕ) (h h' : List Mark) (more : PlainMarks place h h') where
  pub marks_plain : (places : ℕ) → ((j p x : ℕ) → get_elem? h' j ≡ some (Done (record { caller = p; op = Del x }))
      → (s : ℕ) × (get_elem? h' (j + 1) ≡ some (Unlinked s))) → AreMarks places h → AreMarks places h'
  marks_plain places deleted t = record {
    entered = λ j p c x e. (let o = more.entered j p c x e in let r = t.entered j p c x o in
        subst (λ z. IsNextSection places z p c x) (sym (more.cut j (let l = at_below h j _ o in omega arith))) r);
    left = λ j p c e. (let o = more.left j p c e in let r = t.left j p c o in
        (r.0, ap (open_at p) (more.cut j (let l = at_below h j _ o in omega arith)) ∙ r.1, r.2));
    began = λ j p c low high e. (let o = more.began j p c low high e in let r = t.began j p c low high o in
        subst (λ z. IsNextWait places z p c low high) (sym (more.cut j (let l = at_below h j _ o in omega arith))) r);
    ended = λ j p c e. (let r = t.ended j p c (more.ended j p c e) in
        record { at = r.at; low = r.low; high = r.high; before = r.before; begins = more.longer r.at _ r.begins });
    deleted = deleted;
  }

  pub waits_plain : NoWaitEnded h h'
  waits_plain = record { began = λ j p c low high has e. more.began j p c low high e; ended = more.ended }

  pub others_plain : OtherMarks place h h'
  others_plain = record {
    begins = more.begins;
    own = more.own;
    opens = λ p ne. more.opens p;
    entries = λ p ne. more.entries p;
    waits = λ p ne. more.waits_at p;
  }

-- after these marks a slot was just unlinked, and no other slot
pub record IsUnlinkedNow (h h' : List Mark) (d at : ℕ) : Type 0 where
  pub here : gone_at d h' ≡ Some at
  pub gone : (s : ℕ) → s ≢ d → gone_at s h' ≡ gone_at s h
  pub last : (s : ℕ) → s ≢ d → last_unlinked s h' ≡ last_unlinked s h
  pub after : length h ≤ at

-- The marks of an update, of an unlinking, and of a delete: the update, and then the unlinking of its node.

-- where a slot was unlinked last, after one more mark
pub last_done : (h : List Mark) (u : Update) (s : ℕ) → last_unlinked s (h ++ Done u ∷ []) ≡ last_unlinked s h
last_done h u s = last_unlinked-same h (Done u) tt s

pub gone_done : (h : List Mark) (u : Update) (s : ℕ) → gone_at s (h ++ Done u ∷ []) ≡ gone_at s h
gone_done h u s = gone_at-snoc s h (Done u)

pub updates_done : (h : List Mark) (u : Update) → updates_of (h ++ Done u ∷ []) ≡ updates_of h ++ u ∷ []
updates_done h u = updates_of-append h (Done u ∷ [])

pub reuse_done : (h : List Mark) (u : Update) → Reuse h → Reuse (h ++ Done u ∷ [])
reuse_done h u reuse = reuse_more h (Done u) (λ s r. ⊎_elim (λ (e : Done u ≡ Given s). absurd (cc))
    (λ (e : Done u ≡ Freed s). absurd (cc)) r) reuse

pub reuse_unlinked : (h : List Mark) (d : ℕ) → Reuse h → Reuse (h ++ Unlinked d ∷ [])
reuse_unlinked h d reuse = reuse_more h (Unlinked d)
    (λ s r. ⊎_elim (λ (e : Unlinked d ≡ Given s). absurd (cc)) (λ (e : Unlinked d ≡ Freed s). absurd (cc)) r) reuse

pub gone_other : (s t : ℕ) (h : List Mark) → t ≢ s → gone_at s (h ++ Unlinked t ∷ []) ≡ gone_at s h
gone_other s t h ne = gone_at-snoc s h (Unlinked t) ∙ ap (λ b. cond b (Some (length h)) (gone_at s h)) (ne_eqb t s ne)

pub gone_here : (s : ℕ) (h : List Mark) → gone_at s (h ++ Unlinked s ∷ []) ≡ Some (length h)
gone_here s h = gone_at-snoc s h (Unlinked s) ∙ ap (λ b. cond b (Some (length h)) (gone_at s h)) (eq-eqb s s refl)

abbrev op_of : Mark → Op
op_of (Done u) = u.op
op_of _ = Get 0

-- an update that is no delete
pub marks_done : (h : List Mark) (u : Update) → ((x : ℕ) → u.op ≢ Del x) → (places : ℕ) → AreMarks places h
    → AreMarks places (h ++ Done u ∷ [])
marks_done h u none places t = marks_plain u.caller h (h ++ Done u ∷ []) (plain_one u.caller h (Done u) refl) places
    (λ j p x e. ⊎_elim
    (λ (o : get_elem? h j ≡ some (Done (record { caller = p; op = Del x }))). (let r = t.deleted j p x o in
    (r.0, at_longer h (Done u ∷ []) (j + 1) _ r.1)))
    (λ n. absurd (none x (ap op_of n.1))) (at_end h (Done u) (Done (record { caller = p; op = Del x })) j e)) t

-- a slot was unlinked
pub marks_unlinked : (place : ℕ) (h : List Mark) (d places : ℕ) → AreMarks places h → AreMarks places (h ++ Unlinked d ∷ [])
marks_unlinked place h d places t = marks_plain place h (h ++ Unlinked d ∷ []) (plain_one place h (Unlinked d) tt) places
    (λ j p x e. ⊎_elim
    (λ (o : get_elem? h j ≡ some (Done (record { caller = p; op = Del x }))). (let r = t.deleted j p x o in
    (r.0, at_longer h (Unlinked d ∷ []) (j + 1) _ r.1)))
    (λ n. absurd (let q = n.1 in cc)) (at_end h (Unlinked d) (Done (record { caller = p; op = Del x })) j e)) t

pub unlinked_snoc : (h : List Mark) (d : ℕ) → IsUnlinkedNow h (h ++ Unlinked d ∷ []) d (length h)
unlinked_snoc h d = record {
  here = gone_here d h;
  gone = λ s ne. gone_other s d h (λ e. ne (sym e));
  last = λ s ne. last_unlinked-other h s d (λ e. ne (sym e));
  after = omega arith;
}

module _ (h : List Mark) (u : Update) (d : ℕ) where
  abbrev one : List Mark
  one = h ++ Done u ∷ []

  abbrev both : List Mark
  both = h ++ Done u ∷ Unlinked d ∷ []

  both_is : one ++ Unlinked d ∷ [] ≡ both
  both_is = append_assoc h (Done u ∷ []) (Unlinked d ∷ [])

  one_longer : length one ≡ length h + 1
  one_longer = let l = length-append h (Done u ∷ []) in omega arith

  pub delete_updates : updates_of both ≡ updates_of h ++ u ∷ []
  delete_updates = updates_of-append h (Done u ∷ Unlinked d ∷ [])

  pub delete_plain : PlainMarks u.caller h both
  delete_plain = subst (PlainMarks u.caller h) both_is
      (plain_trans u.caller h one (one ++ Unlinked d ∷ []) (plain_one u.caller h (Done u) refl) (plain_one u.caller one (Unlinked d) tt))

  pub delete_gone_here : gone_at d both ≡ Some (length h + 1)
  delete_gone_here = ap (gone_at d) (sym both_is) ∙ gone_here d one ∙ ap Some one_longer

  pub delete_gone_other : (s : ℕ) → s ≢ d → gone_at s both ≡ gone_at s h
  delete_gone_other s ne = ap (gone_at s) (sym both_is) ∙ gone_other s d one (λ e. ne (sym e)) ∙ gone_at-snoc s h (Done u)

  pub delete_last_other : (s : ℕ) → s ≢ d → last_unlinked s both ≡ last_unlinked s h
  delete_last_other s ne = ap (last_unlinked s) (sym both_is) ∙ last_unlinked-other one s d (λ e. ne (sym e)) ∙ last_done h u s

  pub delete_done : get_elem? both (length h) ≡ some (Done u)
  delete_done = subst (λ z. get_elem? z (length h) ≡ some (Done u)) both_is
      (at_longer one (Unlinked d ∷ []) (length h) (Done u) (at_last h (Done u) (length h) refl))

  pub delete_unlinked : get_elem? both (length h + 1) ≡ some (Unlinked d)
  delete_unlinked = subst (λ z. get_elem? z (length h + 1) ≡ some (Unlinked d)) both_is (at_last one (Unlinked d) (length h + 1) one_longer)

  -- an update afterwards is one from before, or the new one
  pub delete_back : (j : ℕ) (x : Update) → get_elem? both j ≡ some (Done x) → (get_elem? h j ≡ some (Done x)) ⊎ (j ≡ length h)
  delete_back j x e = ⊎_elim
      (λ (o : get_elem? one j ≡ some (Done x)). ⊎_elim (λ (p : get_elem? h j ≡ some (Done x)). inl p) (λ n. inr n.0)
      (at_end h (Done u) (Done x) j o))
      (λ n. absurd (let q : Unlinked d ≡ Done x = n.1 in cc))
      (at_end one (Unlinked d) (Done x) j (subst (λ z. get_elem? z j ≡ some (Done x)) (sym both_is) e))

  pub delete_marks : (places : ℕ) → AreMarks places h → AreMarks places both
  delete_marks places t = marks_plain u.caller h both delete_plain places
      (λ j p x e. ⊎_elim
      (λ (o : get_elem? h j ≡ some (Done (record { caller = p; op = Del x }))). (let r = t.deleted j p x o in
      (r.0, delete_plain.longer (j + 1) (Unlinked r.0) r.1)))
      (λ (n : j ≡ length h). (d, ap (λ z. get_elem? both (z + 1)) n ∙ delete_unlinked))
      (delete_back j (record { caller = p; op = Del x }) e)) t

  pub delete_reuse : Reuse h → Reuse both
  delete_reuse reuse = subst Reuse both_is (reuse_unlinked one d (reuse_done h u reuse))

  pub delete_now : IsUnlinkedNow h both d (length h + 1)
  delete_now = record { here = delete_gone_here; gone = delete_gone_other; last = delete_last_other; after = omega arith }

-- Where a section was entered that is open.

-- what stands in a list from a place on
abbrev StandsFrom : ℕ → List Mark → ℕ → Mark → Type 0
StandsFrom i h p m = (j : ℕ) × (p ≡ i + j) × (get_elem? h j ≡ some m)

further : (i : ℕ) (x : Mark) (h : List Mark) (p : ℕ) (m : Mark) → StandsFrom (i + 1) h p m → StandsFrom i (x ∷ h) p m
further i x h p m w = (suc w.0, (let e = w.1 in omega arith), w.2)

-- where a section is open, it was entered there
open_stands : (p i : ℕ) (a : Option Open) (h : List Mark) (o : Open) → open_from p i a h ≡ Some o
    → (a ≡ Some o) ⊎ StandsFrom i h o.at (Entered p o.count o.key)
open_stands p i a [] o e = inl e
open_stands p i a (Began q c x y ∷ h) o e = ⊎_elim (λ w. inl w) (λ w. inr (further i (Began q c x y) h o.at (Entered p o.count o.key) w))
    (open_stands p (i + 1) a h o e)
open_stands p i a (Ended q c ∷ h) o e = ⊎_elim (λ w. inl w) (λ w. inr (further i (Ended q c) h o.at (Entered p o.count o.key) w))
    (open_stands p (i + 1) a h o e)
open_stands p i a (Done u ∷ h) o e = ⊎_elim (λ w. inl w) (λ w. inr (further i (Done u) h o.at (Entered p o.count o.key) w))
    (open_stands p (i + 1) a h o e)
open_stands p i a (Given t ∷ h) o e = ⊎_elim (λ w. inl w) (λ w. inr (further i (Given t) h o.at (Entered p o.count o.key) w))
    (open_stands p (i + 1) a h o e)
open_stands p i a (Freed t ∷ h) o e = ⊎_elim (λ w. inl w) (λ w. inr (further i (Freed t) h o.at (Entered p o.count o.key) w))
    (open_stands p (i + 1) a h o e)
open_stands p i a (Moved ∷ h) o e = ⊎_elim (λ w. inl w) (λ w. inr (further i Moved h o.at (Entered p o.count o.key) w))
    (open_stands p (i + 1) a h o e)
open_stands p i a (Unlinked t ∷ h) o e = ⊎_elim (λ w. inl w) (λ w. inr (further i (Unlinked t) h o.at (Entered p o.count o.key) w))
    (open_stands p (i + 1) a h o e)
open_stands p i a (Left q c ∷ h) o e = ⊎_elim (λ (w : cond (q == p) None a ≡ Some o). inl (kept (q == p) w))
    (λ w. inr (further i (Left q c) h o.at (Entered p o.count o.key) w)) (open_stands p (i + 1) (cond (q == p) None a) h o e)
  where
    kept : (b : Bool) → cond b None a ≡ Some o → a ≡ Some o
    kept true w = absurd (cc)
    kept false w = w
open_stands p i a (Entered q c x ∷ h) o e = ⊎_elim
    (λ (w : cond (q == p) (Some (record { count = c; key = x; at = i })) a ≡ Some o). kept (q == p) refl w)
    (λ w. inr (further i (Entered q c x) h o.at (Entered p o.count o.key) w))
    (open_stands p (i + 1) (cond (q == p) (Some (record { count = c; key = x; at = i })) a) h o e)
  where
    kept : (b : Bool) → (q == p) ≡ b → cond b (Some (record { count = c; key = x; at = i })) a ≡ Some o
        → (a ≡ Some o) ⊎ StandsFrom i (Entered q c x ∷ h) o.at (Entered p o.count o.key)
    kept true same w =
        let it : ◌≡◌ {A = Open} (record { count = c; key = x; at = i }) o = cc in
        inr (
          0,
          (let q : i ≡ o.at = ap (λ (z : Open). z.at) it in omega arith),
          (λ l. some (Entered (eqb-true q p same l) (it l).count (it l).key)),
        )
    kept false same w = inl w

pub open_mark : (p : ℕ) (h : List Mark) (o : Open) → open_at p h ≡ Some o → get_elem? h o.at ≡ some (Entered p o.count o.key)
open_mark p h o e = ⊎_elim (λ (w : None ≡ Some o). absurd (cc))
    (λ (w : StandsFrom 0 h o.at (Entered p o.count o.key)). (let q = w.1 in let same : o.at ≡ w.0 = omega arith in
    ap (get_elem? h) same ∙ w.2)) (open_stands p 0 None h o e)

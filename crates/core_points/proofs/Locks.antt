-- What stands under locks: what is known there, which locks are held, what steps leave of them, and the words that a delete loads.
use Rattle.std.proofs.Common.{◌≡◌, ◌≢◌, ℕ, ◌==◌, cond, Bool, true, false, List, Option, Some, None, refl, ap, ◌∙◌, zero, suc, ◌+◌, ◌≤◌, [], ◌∷◌, map, sym, subst, arith, eq-eqb, ne_eqb, ◌*◌, length, ◌⊎◌, ◌<◌, ◌&&◌, nat_lt, inl, inr, ⊎_elim}
use Rattle.core_state.specs.declared.words.Field.{Field}
use Rattle.core_state.specs.declared.view.HeldLock.{HeldLock}
use Rattle.core_state.specs.declared.view.Known.{Known}
use Rattle.core_state.specs.Memory.{same_field, same_side}
use Rattle.core_state.specs.Views.{known_in, known_of, loaded_in, lock_of, change_lock, note_lock, without_lock, is_emptied, with_emptied}
use Rattle.core_points.specs.Facts.{read_at, AreClear, Owns, SameLocks, one_lock, Bare, Unlocking, Settled, Ready}
use Rattle.core_points.specs.DeleteFacts.{Holds, under, ClearButMark, AreApart, HasLoaded, HoldsAll, HoldsSuccessorLocks, IsLoadedNow, IsSkipped, found_number, target_words, two_children}
use Rattle.core_frames.proofs.Views.{same_self}
use Rattle.core_laws.proofs.Locks.{lock_of-change, changed, change_here, change_other, slots_change, emptied_slot}
use mathlib.Core.Logic.{dite}
use mathlib.Core.Option.{some, some-injective}
use native.Mathlib.Decide.{ℕ_discrete, dec_le}
use Rattle.core_state.specs.declared.view.View.{View}
use Rattle.list_laws.specs.Counts.{IsIn, Each, times}
use Rattle.list_laws.proofs.Lists.{times_here, times_other}
use Rattle.core_points.specs.Programs.{Own, go, Needs, but_first, first_or_root, is_none_left, answer, unlocked, successor_slot, target_word, target_slot, with_found, past_lock}
use Rattle.core_laws.proofs.LockWords.{no_lock_times, without_here}
use Rattle.prcu_marks.specs.declared.mark.Side.{Side}
use Rattle.prcu_marks.specs.declared.mark.Side.TheVariants.{Left, Right}
use Rattle.core_state.specs.Links.{relinked, with_mark}
use Rattle.prcu_marks.specs.declared.mark.Mark.{Mark}
use Rattle.prcu_model.specs.declared.operation.Reply.{Reply}
use Rattle.prcu_model.specs.declared.operation.Reply.TheVariants.{New, Gone, Was}
use Rattle.core_state.specs.declared.shape.Shape.{Shape}
use Rattle.core_state.specs.Steps.{IsNoEnd, after_unlock, after_lock, new_lock}
use Rattle.core_points.specs.declared.stage.Last.{Last}
use Rattle.core_state.specs.declared.act.Act.TheVariants.{Unlock}
use Rattle.core_points.specs.Fits.{Fits, PointUnlock, plain, IsGiven, GoesOn, Point, is_raising, owed}
use Rattle.core_points.specs.Laws.{TellsOnce}
use Rattle.core_points.proofs.Notes.{answers, owns_locked, fits, one_locked, one_noted, owns_more, settled_hand, quiet_unlocking}
use Rattle.std.proofs.lemmas.Bool.{eqb-true}
use Rattle.core_state.specs.declared.words.Field.TheVariants.{Life, Link}
use Rattle.core_points.specs.declared.stage.Found.{Found}
use Rattle.core_points.specs.declared.stage.Node.{Node}
use Rattle.core_points.specs.declared.stage.Successor.{Successor}
use Rattle.core_points.specs.declared.stage.Target.{Target}
use Rattle.core_state.specs.Acts.{in_slot}
use Rattle.core_points.specs.declared.stage.Stage.{Stage}
use Rattle.core_points.specs.declared.stage.Last.TheVariants as last
use Rattle.core_points.specs.declared.stage.Stage.TheVariants as at
use Rattle.core_state.specs.declared.act.Part.TheVariants as part
use Rattle.core_laws.proofs.Looks.{each_map}

-- What is known under locks after one more load or store under one of them.

-- another field is known as before
pub loaded_more : (ls : List HeldLock) (s : ℕ) (kn : Known) (t : ℕ) (field : Field) (x : ℕ) → same_field kn.field field ≡ false
    → loaded_in (under ls t) field ≡ Some x → loaded_in (under (change_lock s (note_lock kn) ls) t) field ≡ Some x
loaded_more ls s kn t field x other known = ap (λ o. loaded_in (known_of o) field) (lock_of-change s (note_lock kn) (λ l. refl) ls t)
    ∙ by (lock_of ls t) (t == s) known
  where
    by : (o : Option HeldLock) (b : Bool) → loaded_in (known_of o) field ≡ Some x
        → loaded_in (known_of (changed (note_lock kn) b o)) field ≡ Some x
    by None b e = e
    by (Some l) true e = ap (λ z. cond z (cond kn.stored None (Some kn.number)) (loaded_in l.known field)) other ∙ e
    by (Some l) false e = e

pub known_more_under : (ls : List HeldLock) (s : ℕ) (kn : Known) (t : ℕ) (field : Field) (x : ℕ) → same_field kn.field field ≡ false
    → known_in (under ls t) field ≡ Some x → known_in (under (change_lock s (note_lock kn) ls) t) field ≡ Some x
known_more_under ls s kn t field x other known =
    ap (λ o. known_in (known_of o) field) (lock_of-change s (note_lock kn) (λ l. refl) ls t) ∙ by (lock_of ls t) (t == s) known
  where
    by : (o : Option HeldLock) (b : Bool) → known_in (known_of o) field ≡ Some x
        → known_in (known_of (changed (note_lock kn) b o)) field ≡ Some x
    by None b e = e
    by (Some l) true e = ap (λ z. cond z (Some kn.number) (known_in l.known field)) other ∙ e
    by (Some l) false e = e

-- what is loaded under a lock that is held is known
pub loaded_now : (ls : List HeldLock) (s : ℕ) (field : Field) (n : ℕ) → Holds ls s
    → loaded_in (under (change_lock s (note_lock (read_at field n)) ls) s) field ≡ Some n
loaded_now ls s field n (l, e) =
    ap (λ o. loaded_in (known_of o) field) (change_here s (note_lock (read_at field n)) (λ l. refl) ls l e)
    ∙ ap (λ z. cond z (Some n) (loaded_in l.known field)) (same_self field)

pub known_now : (ls : List HeldLock) (s : ℕ) (field : Field) (n : ℕ) → Holds ls s
    → known_in (under (change_lock s (note_lock (read_at field n)) ls) s) field ≡ Some n
known_now ls s field n (l, e) =
    ap (λ o. known_in (known_of o) field) (change_here s (note_lock (read_at field n)) (λ l. refl) ls l e)
    ∙ ap (λ z. cond z (Some n) (known_in l.known field)) (same_self field)

-- at another slot all stays
pub under_other : (ls : List HeldLock) (s : ℕ) (f : HeldLock → HeldLock) → ((l : HeldLock) → (f l).slot ≡ l.slot) → (t : ℕ) → t ≢ s
    → under (change_lock s f ls) t ≡ under ls t
under_other ls s f keep t ne = ap known_of (change_other s f keep ls t ne)

-- a lock that is held stays so
pub held_still : (ls : List HeldLock) (s : ℕ) (f : HeldLock → HeldLock) → ((l : HeldLock) → (f l).slot ≡ l.slot) → (t : ℕ) → Holds ls t
    → Holds (change_lock s f ls) t
held_still ls s f keep t (l, e) = (cond (t == s) (f l) l, lock_of-change s f keep ls t ∙ ap (changed f (t == s)) e)

-- Lists of locks: which are held, how often a slot stands there, and what changes leave.

nothing_in : (xs : List ℕ) → ((x : ℕ) → times x xs ≡ 0) → xs ≡ []
nothing_in [] none = refl
nothing_in (y ∷ ys) none = absurd (let a = none y in let b = times_here y ys in omega arith)

abbrev one : Bool → ℕ
one b = cond b 1 0

only_one : (xs : List ℕ) (s : ℕ) → ((x : ℕ) → times x xs ≡ times x (s ∷ [])) → xs ≡ s ∷ []
only_one [] s same = absurd (let a = same s in let b = times_here s [] in omega arith)
only_one (y ∷ ys) s same =
    dite (ℕ_discrete y s)
    (λ e. λ i. e i ∷ nothing_in ys (λ x. (let a = same x in let b : one (y == x) ≡ one (s == x) = ap (λ z. one (z == x)) e in
    omega (arith, a, b))) i)
    (λ ne. absurd (let a = same y in let b = times_here y ys in let c = times_other y s [] (λ e. ne (sym e)) in omega arith))

-- the slots of locks
abbrev pub slots_in : List HeldLock → List ℕ
slots_in = map (λ (l : HeldLock). l.slot)

pub no_locks : (o : Own) (v : View) → Owns o v → v.locks ≡ [] → o.locks ≡ []
no_locks o v w e = nothing_in o.locks (λ x. sym (w.locks_are x) ∙ ap (λ ls. times x (slots_in ls)) e)

pub own_lock : (o : Own) (v : View) (s : ℕ) (locks : List HeldLock) → Owns o v → v.locks ≡ locks → slots_in locks ≡ s ∷ []
    → o.locks ≡ s ∷ []
own_lock o v s locks w e one = only_one o.locks s (λ x. sym (w.locks_are x) ∙ ap (λ ls. times x (slots_in ls)) e ∙ ap (times x) one)

pub no_slots : (ls : List HeldLock) → ((x : ℕ) → times x (slots_in ls) ≡ 0) → ls ≡ []
no_slots [] none = refl
no_slots (l ∷ ls) none = absurd (let a = none l.slot in let b = times_here l.slot (slots_in ls) in omega arith)

-- a slot that stands there is held
pub held_in : (ls : List HeldLock) (s : ℕ) → 1 ≤ times s (slots_in ls) → Holds ls s
held_in [] s some_there = absurd (omega arith)
held_in (l ∷ ls) s some_there =
    dite (ℕ_discrete l.slot s)
    (λ e. (l, ap (λ b. cond b (Some l) (lock_of ls s)) (eq-eqb l.slot s e)))
    (λ ne. (let r = held_in ls s (let t = times_other s l.slot (slots_in ls) ne in omega arith) in
    (r.0, ap (λ b. cond b (Some l) (lock_of ls s)) (ne_eqb l.slot s ne) ∙ r.1)))

pub lock_in : (ls : List HeldLock) (s : ℕ) (l : HeldLock) → lock_of ls s ≡ Some l → IsIn ls l
lock_in [] s l e = cc
lock_in (x ∷ ls) s l e = by (x.slot == s) e (lock_in ls s l)
  where
    by : (b : Bool) → cond b (Some x) (lock_of ls s) ≡ Some l → (lock_of ls s ≡ Some l → IsIn ls l) → IsIn (x ∷ ls) l
    by true q rest = (0, (let same : x ≡ l = cc in ap some same))
    by false q rest = (let r = rest q in (suc r.0, r.1))

-- a lock without an emptied side or a mark
abbrev pub IsClear : HeldLock → Type 0
IsClear l = (l.left_emptied ≡ false) × (l.right_emptied ≡ false) × (l.marked ≡ false)

pub clear_lock : (ls : List HeldLock) (s : ℕ) (l : HeldLock) → AreClear ls → lock_of ls s ≡ Some l → IsClear l
clear_lock ls s l clear e = let i = lock_in ls s l e in clear i.0 l i.1

pub clear_changed : (s : ℕ) (f : HeldLock → HeldLock) → ((l : HeldLock) → IsClear l → IsClear (f l)) → (ls : List HeldLock) → AreClear ls
    → AreClear (change_lock s f ls)
clear_changed s f go ls clear = each_map (λ (l : HeldLock). cond (l.slot == s) (f l) l) IsClear IsClear ls
    (λ l c. by l (l.slot == s) c) clear
  where
    by : (l : HeldLock) (b : Bool) → IsClear l → IsClear (cond b (f l) l)
    by l true c = go l c
    by l false c = c

pub each_more : {A : Type 0} (P : A → Type 0) (a : A) (xs : List A) → P a → Each xs P → Each (a ∷ xs) P
each_more P a xs p each zero b e = subst P (some-injective a b e) p
each_more P a xs p each (suc i) b e = each i b e

pub clear_without : (s : ℕ) (ls : List HeldLock) → AreClear ls → AreClear (without_lock s ls)
clear_without s [] clear = clear
clear_without s (l ∷ ls) clear = by (l.slot == s) (clear_without s ls (λ i a e. clear (suc i) a e))
  where
    by : (b : Bool) → AreClear (without_lock s ls) → AreClear (cond b (without_lock s ls) (l ∷ without_lock s ls))
    by true rest = rest
    by false rest = each_more IsClear l (without_lock s ls) (clear 0 l refl) rest

pub times_without : (s x : ℕ) (ls : List HeldLock) → x ≢ s → times x (slots_in (without_lock s ls)) ≡ times x (slots_in ls)
times_without s x [] ne = refl
times_without s x (l ∷ ls) ne =
    dite (ℕ_discrete l.slot s)
    (λ e. ap (λ b. times x (slots_in (cond b (without_lock s ls) (l ∷ without_lock s ls)))) (eq-eqb l.slot s e) ∙ times_without s x ls ne
    ∙ sym (times_other x l.slot (slots_in ls) (λ same. ne (sym same ∙ e))))
    (λ other. ap (λ b. times x (slots_in (cond b (without_lock s ls) (l ∷ without_lock s ls)))) (ne_eqb l.slot s other)
    ∙ ap (λ n. cond (l.slot == x) 1 0 + n) (times_without s x ls ne))

pub times_gone : (s : ℕ) (ls : List HeldLock) → times s (slots_in (without_lock s ls)) ≡ 0
times_gone s ls = no_lock_times (without_lock s ls) s (without_here s ls)

-- the locks without the first one that is kept
pub same_without : (s : ℕ) (rest : List ℕ) (ls : List HeldLock) → SameLocks (s ∷ rest) ls → ((x : ℕ) → times x (slots_in ls) ≤ 1)
    → SameLocks rest (without_lock s ls)
same_without s rest ls same once x =
    dite (ℕ_discrete x s)
    (λ e. (let a = times_gone s ls in let b : times x (slots_in (without_lock s ls)) ≡ times s (slots_in (without_lock s ls)) =
    ap (λ z. times z (slots_in (without_lock s ls))) e in
    let c = same s in let d = once s in let f = times_here s rest in let g : times x rest ≡ times s rest = ap (λ z. times z rest) e in
    omega arith))
    (λ ne. (let a = times_without s x ls ne in let b = same x in let c = times_other x s rest (λ e. ne (sym e)) in omega arith))

pub clear_one : (s : ℕ) (known : List Known) → AreClear (one_lock s known)
clear_one s known zero l e = subst IsClear (some-injective
    (record { slot = s; known = known; left_emptied = false; right_emptied = false; marked = false }) l e) (refl, refl, refl)
clear_one s known (suc i) l e = cc

-- With one lock.
module _ (o : Own) (v : View) (s : ℕ) (known : List Known) (e : v.locks ≡ one_lock s known) where
  pub one_lock_more : (field : Field) (n : ℕ) (by_store : Bool)
      → let kn : Known = record { field = field; number = n; stored = by_store } in
      change_lock s (note_lock kn) v.locks ≡ one_lock s (kn ∷ known)
  one_lock_more field n by_store = ap (change_lock s (note_lock (record { field = field; number = n; stored = by_store }))) e
      ∙ one_noted s known field n by_store

  pub one_held : lock_of v.locks s ≡ Some (record { slot = s; known = known; left_emptied = false; right_emptied = false; marked = false })
  one_held = ap (λ ls. lock_of ls s) e ∙ one_locked s known

  pub one_clear : AreClear v.locks
  one_clear = subst AreClear (sym e) (clear_one s known)

  pub one_owned : Owns o v → is_none_left o.locks ≡ false
  one_owned owns = ap is_none_left (own_lock o v s _ owns e refl)

  -- what was loaded under it isn't as it should be: it is given up, and the call begins again
  pub one_again : Settled o v None → Owns o v → Ready o → PointUnlock o v last.Again
  one_again q owns ready = (quiet_unlocking q q.turn_is one_clear (one_owned owns), settled_hand o v q, ready)

-- after a first lock was tried: it is held, or the call begins again
pub goes_locking : {o : Own} {v : View} {stage : Stage} (next : Stage) (s n : ℕ) → Fits o stage v → is_raising stage ≡ false
    → v.locks ≡ [] → let held : Own = go (record o { locks = s ∷ o.locks }) next in
    owed held next + 4 * length o.rest + o.kept ≤ v.allowance.tickets
    → owed (go o at.EnterClock) at.EnterClock + 4 * length o.rest + o.kept ≤ v.allowance.tickets
    → Point held next (plain (record v { locks = new_lock s ∷ v.locks })) → Point (go o at.EnterClock) at.EnterClock (plain v)
    → Fits (past_lock o s n next) (past_lock o s n next).stage (after_lock v s n)
goes_locking {o} {v} next s n f still none paid again point start = got (n == 0)
  where
    got : (z : Bool) → let o' : Own = cond z (go (record o { locks = s ∷ o.locks }) next)
        (go o (cond (is_none_left o.locks) at.EnterClock (at.Unlock last.Again))) in
        Fits o' o'.stage (cond z (record v { locks = new_lock s ∷ v.locks }) v)
    got true = fits (owns_more o v s f.owns) (f.unraised still) paid point
    got false = subst (λ ls. let st : Stage = cond (is_none_left ls) at.EnterClock (at.Unlock last.Again) in Fits (go o st) st v)
        (sym (no_locks o v f.owns none))
        (fits f.owns (f.unraised still) again start)

-- Locks after a mark, after a link was stored and a slot was unlinked, and after a tag was raised: but for what the step left, they are
-- clear.

-- a lock with a change where a test holds has its slot
slot_is : (f : HeldLock → HeldLock) → ((l : HeldLock) → (f l).slot ≡ l.slot) → (z : Bool) (l : HeldLock) → (cond z (f l) l).slot ≡ l.slot
slot_is f keep true l = keep l
slot_is f keep false l = refl

-- a change of what isn't known leaves what is known
pub under_flag : (ls : List HeldLock) (s : ℕ) (f : HeldLock → HeldLock) → ((l : HeldLock) → (f l).slot ≡ l.slot)
    → ((l : HeldLock) → (f l).known ≡ l.known) → (t : ℕ) → under (change_lock s f ls) t ≡ under ls t
under_flag ls s f keep known t = ap known_of (lock_of-change s f keep ls t) ∙ by (lock_of ls t) (t == s)
  where
    by : (o : Option HeldLock) (b : Bool) → known_of (changed f b o) ≡ known_of o
    by None b = refl
    by (Some l) true = known l
    by (Some l) false = refl

module _ (kn : Known) where
  -- one lock, marked
  marked_one : (l : HeldLock) (q : Bool) → IsClear l → let x : HeldLock = cond q (note_lock kn l) l in
      let y : HeldLock = cond q (with_mark true x) x in IsClear (cond q (with_mark false y) y)
  marked_one l true c = (c.0, c.1, refl)
  marked_one l false c = c

  marked_at : (d : ℕ) (l : HeldLock) → IsClear l → let x : HeldLock = cond (l.slot == d) (note_lock kn l) l in
      let y : HeldLock = cond (x.slot == d) (with_mark true x) x in IsClear (cond (y.slot == d) (with_mark false y) y)
  marked_at d l c =
      let q : Bool = l.slot == d in
      let x : HeldLock = cond q (note_lock kn l) l in
      let a : x.slot ≡ l.slot = slot_is (note_lock kn) (λ l. refl) q l in
      let y : HeldLock = cond (x.slot == d) (with_mark true x) x in
      let e : y.slot ≡ l.slot = slot_is (with_mark true) (λ l. refl) (x.slot == d) x ∙ a in
      subst (λ z. IsClear (cond z (with_mark false y) y)) (sym (ap (λ t. t == d) e))
      (subst (λ z. let y : HeldLock = cond z (with_mark true x) x in IsClear (cond q (with_mark false y) y)) (sym (ap (λ t. t == d) a))
      (marked_one l q c))

  pub clear_marked : (d : ℕ) (ls : List HeldLock) → AreClear ls
      → ClearButMark (change_lock d (with_mark true) (change_lock d (note_lock kn) ls)) d
  clear_marked d [] clear = clear
  clear_marked d (l ∷ ls) clear = each_more IsClear _ _ (marked_at d l (clear 0 l refl)) (clear_marked d ls (λ i a e. clear (suc i) a e))

  -- one lock, through a link stored in p and the unlinking of d
  stored_one : (l : HeldLock) (a q : Bool) → IsClear (cond q (with_mark false l) l) → let x : HeldLock = cond a (note_lock kn l) l in
      IsClear (cond q (with_mark false x) x)
  stored_one l true true c = c
  stored_one l true false c = c
  stored_one l false q c = c

  stored_at : (p d : ℕ) (l : HeldLock) → IsClear (cond (l.slot == d) (with_mark false l) l) → let x : HeldLock =
      cond (l.slot == p) (note_lock kn l) l in IsClear (cond (x.slot == d) (with_mark false x) x)
  stored_at p d l c =
      let x : HeldLock = cond (l.slot == p) (note_lock kn l) l in
      let a : x.slot ≡ l.slot = slot_is (note_lock kn) (λ l. refl) (l.slot == p) l in
      subst (λ z. IsClear (cond z (with_mark false x) x)) (sym (ap (λ t. t == d) a)) (stored_one l (l.slot == p) (l.slot == d) c)

  pub clear_stored : (p d : ℕ) (ls : List HeldLock) → ClearButMark ls d
      → AreClear (change_lock d (with_mark false) (change_lock p (note_lock kn) ls))
  clear_stored p d [] clear = clear
  clear_stored p d (l ∷ ls) clear = each_more IsClear _ _ (stored_at p d l (clear 0 _ refl))
      (clear_stored p d ls (λ i a e. clear (suc i) a e))

  emptied_one : (b : Side) (l : HeldLock) (a q : Bool) → IsClear (cond q (with_mark false l) l)
      → let x : HeldLock = cond a (note_lock kn l) l in let y : HeldLock = cond a (with_emptied b true x) x in
      let z : HeldLock = cond q (with_mark false y) y in IsClear (cond a (with_emptied b false z) z)
  emptied_one Left l true true c = (refl, c.1, refl)
  emptied_one Left l true false c = (refl, c.1, c.2)
  emptied_one Right l true true c = (c.0, refl, refl)
  emptied_one Right l true false c = (c.0, refl, c.2)
  emptied_one b l false q c = c

  emptied_at : (p d : ℕ) (b : Side) (l : HeldLock) → IsClear (cond (l.slot == d) (with_mark false l) l)
      → let x : HeldLock = cond (l.slot == p) (note_lock kn l) l in let y : HeldLock = cond (x.slot == p) (with_emptied b true x) x in
      let z : HeldLock = cond (y.slot == d) (with_mark false y) y in
      IsClear (cond (z.slot == p) (with_emptied b false z) z)
  emptied_at p d b l c =
      let a : Bool = l.slot == p in
      let q : Bool = l.slot == d in
      let x : HeldLock = cond a (note_lock kn l) l in
      let ex : x.slot ≡ l.slot = slot_is (note_lock kn) (λ l. refl) a l in
      let y : HeldLock = cond (x.slot == p) (with_emptied b true x) x in
      let ey : y.slot ≡ l.slot = slot_is (with_emptied b true) (emptied_slot b true) (x.slot == p) x ∙ ex in
      let z : HeldLock = cond (y.slot == d) (with_mark false y) y in
      let ez : z.slot ≡ l.slot = slot_is (with_mark false) (λ l. refl) (y.slot == d) y ∙ ey in
      subst (λ t. IsClear (cond t (with_emptied b false z) z)) (sym (ap (λ s. s == p) ez))
      (subst (λ t. let z : HeldLock = cond t (with_mark false y) y in IsClear (cond a (with_emptied b false z) z))
      (sym (ap (λ s. s == d) ey))
      (subst (λ t. let y : HeldLock = cond t (with_emptied b true x) x in let z : HeldLock = cond q (with_mark false y) y in
      IsClear (cond a (with_emptied b false z) z)) (sym (ap (λ s. s == p) ex)) (emptied_one b l a q c)))

  pub clear_emptied : (p d : ℕ) (b : Side) (ls : List HeldLock) → ClearButMark ls d
      → AreClear (change_lock p (with_emptied b false)
      (change_lock d (with_mark false) (change_lock p (with_emptied b true) (change_lock p (note_lock kn) ls))))
  clear_emptied p d b [] clear = clear
  clear_emptied p d b (l ∷ ls) clear = each_more IsClear _ _ (emptied_at p d b l (clear 0 _ refl))
      (clear_emptied p d b ls (λ i a e. clear (suc i) a e))

  -- a note beside an emptied side
  noted_one : (b : Side) (l : HeldLock) (a : Bool) → IsClear (cond a (with_emptied b false l) l) → let x : HeldLock =
      cond a (note_lock kn l) l in IsClear (cond a (with_emptied b false x) x)
  noted_one Left l true c = c
  noted_one Right l true c = c
  noted_one b l false c = c

  noted_at : (s : ℕ) (b : Side) (l : HeldLock) → IsClear (cond (l.slot == s) (with_emptied b false l) l) → let x : HeldLock =
      cond (l.slot == s) (note_lock kn l) l in IsClear (cond (x.slot == s) (with_emptied b false x) x)
  noted_at s b l c =
      let x : HeldLock = cond (l.slot == s) (note_lock kn l) l in
      let a : x.slot ≡ l.slot = slot_is (note_lock kn) (λ l. refl) (l.slot == s) l in
      subst (λ z. IsClear (cond z (with_emptied b false x) x)) (sym (ap (λ t. t == s) a)) (noted_one b l (l.slot == s) c)

  pub clear_noted : (s : ℕ) (b : Side) (ls : List HeldLock) → AreClear (change_lock s (with_emptied b false) ls)
      → AreClear (change_lock s (with_emptied b false) (change_lock s (note_lock kn) ls))
  clear_noted s b [] clear = clear
  clear_noted s b (l ∷ ls) clear = each_more IsClear _ _ (noted_at s b l (clear 0 _ refl)) (clear_noted s b ls (λ i a e. clear (suc i) a e))

  -- the lock of the slot in which the link was stored, where that emptied its side
  pub emptied_lock : (p d : ℕ) (b : Side) (ls : List HeldLock) → Holds ls p
      → (lock : HeldLock) × (lock_of (change_lock d (with_mark false)
      (change_lock p (with_emptied b true) (change_lock p (note_lock kn) ls))) p ≡ Some lock) × (is_emptied lock b ≡ true)
  emptied_lock p d b ls (l, e) =
      let one = change_here p (note_lock kn) (λ l. refl) ls l e in
      let two = change_here p (with_emptied b true) (emptied_slot b true) (change_lock p (note_lock kn) ls) (note_lock kn l) one in
      let x : HeldLock = with_emptied b true (note_lock kn l) in (
        cond (p == d) (with_mark false x) x,
        lock_of-change d (with_mark false) (λ l. refl)
            (change_lock p (with_emptied b true) (change_lock p (note_lock kn) ls)) p ∙ ap (changed (with_mark false) (p == d)) two,
        is b (p == d),
      )
    where
      is : (b : Side) (z : Bool) → let x : HeldLock = with_emptied b true (note_lock kn l) in
          is_emptied (cond z (with_mark false x) x) b ≡ true
      is Left true = refl
      is Left false = refl
      is Right true = refl
      is Right false = refl

-- the slots of the locks stay
pub relinked_slots : (p : ℕ) (b : Side) (child d : ℕ) (ls : List HeldLock) → slots_in (relinked p b child d ls) ≡ slots_in ls
relinked_slots p b child d ls = slots_change d (with_mark false) (λ l. refl) (cond (child == 0) (change_lock p (with_emptied b true) ls) ls)
    ∙ by (child == 0)
  where
    by : (z : Bool) → slots_in (cond z (change_lock p (with_emptied b true) ls) ls) ≡ slots_in ls
    by true = slots_change p (with_emptied b true) (emptied_slot b true) ls
    by false = refl

-- Giving up a lock: what the step needs is known, and what the next point needs is known after it.

some_lock : (xs : List ℕ) → is_none_left xs ≡ false → (s : ℕ) × (rest : List ℕ) × (xs ≡ s ∷ rest)
some_lock [] e = cc
some_lock (s ∷ rest) e = (s, rest, refl)

pub none_in : (xs : List ℕ) → is_none_left xs ≡ true → xs ≡ []
none_in [] e = refl
none_in (s ∷ xs) e = cc

module _ (k : Shape) (h : List Mark) (o : Own) (v : View) (n : ℕ) where
  unlock_needs : Owns o v → Unlocking o v → Needs k v n (Unlock (first_or_root o.locks))
  unlock_needs owns u =
      let has = some_lock o.locks u.some in
      let s : ℕ = has.0 in
      let held = held_in v.locks s (let a = owns.locks_are s in let b : times s o.locks ≡ times s (s ∷ has.1) = ap (times s) has.2 in
      let c = times_here s has.1 in omega arith) in
      let clear = clear_lock v.locks s held.0 u.clear held.1 in
      subst (λ x. Needs k v n (Unlock x)) (sym (ap first_or_root has.2))
      (record {
        lock = held.0;
        held = held.1;
        no_end = subst (IsNoEnd s) (sym u.settled) tt;
        left = clear.0;
        right = clear.1;
        unmarked = clear.2;
      })

  unlocking : (l : Last) → Fits o (at.Unlock l) v → Unlocking o v
  unlocking last.Again f = (f.point).0
  unlocking (last.New number) f = (f.point).0
  unlocking (last.Gone number) f = (f.point).0
  unlocking (last.Was value number) f = (f.point).0

  pub needs_unlock : (l : Last) → IsGiven k o v n (at.Unlock l)
  needs_unlock l f = unlock_needs f.owns (unlocking l f)

  -- without the lock
  less : (s : ℕ) (rest : List ℕ) → o.locks ≡ s ∷ rest → TellsOnce v → Owns o v → Owns (record o { locks = rest }) (after_unlock v s)
  less s rest e once owns =
      owns_locked o v owns rest (without_lock s v.locks) (same_without s rest v.locks (λ x. owns.locks_are x ∙ ap (times x) e) once)

  pub next_unlock : (l : Last) → TellsOnce v → GoesOn h o v n (at.Unlock l)
  next_unlock l once f =
      let u = unlocking l f in
      let has = some_lock o.locks u.some in
      subst (λ ls. let less : Own = record o { locks = but_first ls } in
      let o' : Own = cond (is_none_left (but_first ls)) (unlocked less l) (go less (at.Unlock l)) in
      Fits o' o'.stage (after_unlock v (first_or_root ls)))
      (sym has.2) (given_up has.0 has.1 has.2 u (is_none_left has.1) refl)
    where
      given_up : (s : ℕ) (rest : List ℕ) → o.locks ≡ s ∷ rest → Unlocking o v → (z : Bool) → is_none_left rest ≡ z
          → let less : Own = record o { locks = rest } in let o' : Own = cond z (unlocked less l) (go less (at.Unlock l)) in
          Fits o' o'.stage (after_unlock v s)
      given_up s rest e u false more = fits (less s rest e once f.owns) (f.unraised refl) f.tickets (still l f)
        where
          w : View
          w = after_unlock v s

          unlocking' : Unlocking (record o { locks = rest; stage = at.Unlock l }) (plain w)
          unlocking' = record {
            outside = u.outside;
            no_turn = u.no_turn;
            settled = u.settled;
            unreserved = u.unreserved;
            paid = u.paid;
            clear = clear_without s v.locks u.clear;
            some = more;
          }

          still : (l : Last) → Fits o (at.Unlock l) v → PointUnlock (record o { locks = rest; stage = at.Unlock l }) (plain w) l
          still last.Again f = (unlocking', (f.point).1, (f.point).2)
          still (last.New number) f = (unlocking', (f.point).1, (f.point).2, (f.point).3)
          still (last.Gone number) f = (unlocking', (f.point).1, (f.point).2, (f.point).3)
          still (last.Was value number) f = (unlocking', (f.point).1, (f.point).2, (f.point).3)
      given_up s rest e u true none = ends l f
        where
          w : View
          w = after_unlock v s

          owns : Owns (record o { locks = rest }) w
          owns = less s rest e once f.owns

          bare : without_lock s v.locks ≡ []
          bare = no_slots (without_lock s v.locks) (λ x. owns.locks_are x ∙ ap (times x) (none_in rest none))

          nothing : Bare w [] None false
          nothing = record { locks_are = bare; turn_is = u.no_turn; settled = u.settled; reserved_is = u.unreserved; paid = u.paid }

          answered : (reply : Reply) (number : ℕ) → (v.hands.hand ≡ None) × (o.hand ≡ None)
              → 4 * length o.rest + o.kept ≤ v.allowance.tickets → let a : Own = answer (record o { locks = rest }) reply number in
              Fits a a.stage w
          answered reply number hands paid = answers (record o { locks = rest }) w reply number
              (record {
                owns = owns;
                outside = u.outside;
                empty = hands.1;
                bare = nothing;
                no_hand = hands.0;
                unraised = f.unraised refl;
              }) paid

          ends : (l : Last) → Fits o (at.Unlock l) v → let o' : Own = unlocked (record o { locks = rest }) l in Fits o' o'.stage w
          ends last.Again f =
              fits owns (f.unraised refl) f.tickets (u.outside, record { bare = nothing; hand = (f.point).1; ready = (f.point).2 })
          ends (last.New number) f = answered New number ((f.point).1, (f.point).2) (let t = f.tickets in omega arith)
          ends (last.Gone number) f = answered Gone number ((f.point).1, (f.point).2) (let t = f.tickets in omega arith)
          ends (last.Was value number) f = answered (Was value) number ((f.point).1, (f.point).2) (let t = f.tickets in omega arith)

-- The words that a delete loads under its locks: each is of a slot that it locked, and no two of them are one, but for the right of the
-- node, which may be loaded twice.

-- each word's slot is locked
pub word_held : (locks : List HeldLock) (t : Target) (i : ℕ) → HoldsAll locks t → Holds locks (target_slot t i)
word_held locks t i all = by (nat_lt i 2) (nat_lt i 5)
  where
    below : (h : Option Successor) → HoldsSuccessorLocks locks t.node h → Holds locks (successor_slot t.node h i)
    below None u = all.node
    below (Some u) held = at (i == 5) (i == 6)
      where
        at : (a b : Bool) → Holds locks (cond a u.parent (cond b u.parent u.slot))
        at true b = held.2
        at false true = held.2
        at false false = held.1

    by : (a b : Bool) → Holds locks (cond a t.node.parent (cond b t.node.node (successor_slot t.node t.successor i)))
    by true b = all.parent
    by false true = all.node
    by false false = below t.successor all.successor

most_words : (h : Option Successor) → target_words h ≤ 9
most_words None = omega arith
most_words (Some u) = omega arith

-- the words of the node and its parent
node_words : (t : Target) → t.node.parent ≢ t.node.node → (i j : ℕ) → j < i → i < 5 → same_field (target_word t i) (target_word t j) ≡ false
node_words t ne zero j lt small = absurd (omega arith)
node_words t ne (suc zero) zero lt small = refl
node_words t ne (suc zero) (suc j) lt small = absurd (omega arith)
node_words t ne (suc (suc zero)) zero lt small = ne_eqb t.node.node t.node.parent (λ e. ne (sym e))
node_words t ne (suc (suc zero)) (suc zero) lt small = refl
node_words t ne (suc (suc zero)) (suc (suc j)) lt small = absurd (omega arith)
node_words t ne (suc (suc (suc zero))) zero lt small = refl
node_words t ne (suc (suc (suc zero))) (suc zero) lt small =
    ap (λ z. z && same_side Left t.node.side) (ne_eqb t.node.node t.node.parent (λ e. ne (sym e)))
node_words t ne (suc (suc (suc zero))) (suc (suc zero)) lt small = refl
node_words t ne (suc (suc (suc zero))) (suc (suc (suc j))) lt small = absurd (omega arith)
node_words t ne (suc (suc (suc (suc zero)))) zero lt small = refl
node_words t ne (suc (suc (suc (suc zero)))) (suc zero) lt small =
    ap (λ z. z && same_side Right t.node.side) (ne_eqb t.node.node t.node.parent (λ e. ne (sym e)))
node_words t ne (suc (suc (suc (suc zero)))) (suc (suc zero)) lt small = refl
node_words t ne (suc (suc (suc (suc zero)))) (suc (suc (suc zero))) lt small =
    ap (λ z. z && same_side Right Left) (eq-eqb t.node.node t.node.node refl)
node_words t ne (suc (suc (suc (suc zero)))) (suc (suc (suc (suc j)))) lt small = absurd (omega arith)
node_words t ne (suc (suc (suc (suc (suc i))))) j lt small = absurd (omega arith)

other_slot : (s t : ℕ) (a b : Side) → s ≢ t → same_field (Link s a) (Link t b) ≡ false
other_slot s t a b ne = ap (λ z. z && same_side a b) (ne_eqb s t ne)

-- the words of the successor and its parent, beside those before them
module _ (d : Node) (u : Successor) (apart : AreApart d u) where
  abbrev sixth : Bool → Field
  sixth z = in_slot u.parent (cond z (part.Link Right) (part.Link Left))

  fifth_words : u.parent ≢ d.node → (j : ℕ) → j < 5 → same_field (Life u.parent) (target_word (two_children d u) j) ≡ false
  fifth_words below zero lt = ne_eqb u.parent d.parent (apart.walk below).0
  fifth_words below (suc zero) lt = refl
  fifth_words below (suc (suc zero)) lt = ne_eqb u.parent d.node below
  fifth_words below (suc (suc (suc zero))) lt = refl
  fifth_words below (suc (suc (suc (suc zero)))) lt = refl
  fifth_words below (suc (suc (suc (suc (suc j))))) lt = absurd (omega arith)

  sixth_words : d.parent ≢ d.node → (z : Bool) → (u.parent == d.node) ≡ z → (j : ℕ) → j < 6
      → (same_field (sixth z) (target_word (two_children d u) j) ≡ false) ⊎ IsSkipped (two_children d u) 7 j
  sixth_words ne true e zero lt = inl refl
  sixth_words ne true e (suc zero) lt = inl (other_slot u.parent d.parent Right d.side (λ s. ne (sym s ∙ eqb-true u.parent d.node e)))
  sixth_words ne true e (suc (suc zero)) lt = inl refl
  sixth_words ne true e (suc (suc (suc zero))) lt = inl (ap (λ z. z && same_side Right Left) e)
  sixth_words ne true e (suc (suc (suc (suc zero)))) lt =
      inr (record { successor = u; has = refl; below_node = eqb-true u.parent d.node e; which = inr (refl, omega arith) })
  sixth_words ne true e (suc (suc (suc (suc (suc zero))))) lt = inl refl
  sixth_words ne true e (suc (suc (suc (suc (suc (suc j)))))) lt = absurd (omega arith)
  sixth_words ne false e zero lt = inl refl
  sixth_words ne false e (suc zero) lt = inl (other_slot u.parent d.parent Left d.side (apart.walk (not_below e)).0)
    where
      not_below : (u.parent == d.node) ≡ false → u.parent ≢ d.node
      not_below e same = absurd (let q : true ≡ false = sym (eq-eqb u.parent d.node same) ∙ e in cc)
  sixth_words ne false e (suc (suc zero)) lt = inl refl
  sixth_words ne false e (suc (suc (suc zero))) lt = inl (ap (λ z. z && true) e)
  sixth_words ne false e (suc (suc (suc (suc zero)))) lt = inl (ap (λ z. z && false) e)
  sixth_words ne false e (suc (suc (suc (suc (suc zero))))) lt = inl refl
  sixth_words ne false e (suc (suc (suc (suc (suc (suc j)))))) lt = absurd (omega arith)

  seventh_words : (j : ℕ) → j < 7 → (same_field (Life u.slot) (target_word (two_children d u) j) ≡ false) ⊎ IsSkipped (two_children d u) 8 j
  seventh_words zero lt = inl (ne_eqb u.slot d.parent apart.from_parent)
  seventh_words (suc zero) lt = inl refl
  seventh_words (suc (suc zero)) lt = inl (ne_eqb u.slot d.node apart.from_node)
  seventh_words (suc (suc (suc zero))) lt = inl refl
  seventh_words (suc (suc (suc (suc zero)))) lt = inl refl
  seventh_words (suc (suc (suc (suc (suc zero))))) lt = dite (ℕ_discrete u.parent d.node)
      (λ below. inr (record { successor = u; has = refl; below_node = below; which = inl refl }))
      (λ ne. inl (ne_eqb u.slot u.parent (λ e. (apart.walk ne).1 (sym e))))
  seventh_words (suc (suc (suc (suc (suc (suc zero)))))) lt = inl (by (u.parent == d.node))
    where
      by : (z : Bool) → same_field (Life u.slot) (sixth z) ≡ false
      by true = refl
      by false = refl
  seventh_words (suc (suc (suc (suc (suc (suc (suc j))))))) lt = absurd (omega arith)

  eighth_sixth : (z : Bool) → (u.parent == d.node) ≡ z → same_field (Link u.slot Left) (sixth z) ≡ false
  eighth_sixth true e = other_slot u.slot u.parent Left Right (λ s. apart.from_node (s ∙ eqb-true u.parent d.node e))
  eighth_sixth false e = other_slot u.slot u.parent Left Left
      (λ s. (apart.walk (λ same. absurd (let q : true ≡ false = sym (eq-eqb u.parent d.node same) ∙ e in cc))).1 (sym s))

  eighth_words : (j : ℕ) → j < 8 → same_field (Link u.slot Left) (target_word (two_children d u) j) ≡ false
  eighth_words zero lt = refl
  eighth_words (suc zero) lt = other_slot u.slot d.parent Left d.side apart.from_parent
  eighth_words (suc (suc zero)) lt = refl
  eighth_words (suc (suc (suc zero))) lt = other_slot u.slot d.node Left Left apart.from_node
  eighth_words (suc (suc (suc (suc zero)))) lt = other_slot u.slot d.node Left Right apart.from_node
  eighth_words (suc (suc (suc (suc (suc zero))))) lt = refl
  eighth_words (suc (suc (suc (suc (suc (suc zero)))))) lt = eighth_sixth (u.parent == d.node) refl
  eighth_words (suc (suc (suc (suc (suc (suc (suc zero))))))) lt = refl
  eighth_words (suc (suc (suc (suc (suc (suc (suc (suc j)))))))) lt = absurd (omega arith)

  both_words : d.parent ≢ d.node → (i j : ℕ) → j < i → 5 ≤ i → i < 9 → (u.parent ≡ d.node → i ≢ 5)
      → (same_field (target_word (two_children d u) i) (target_word (two_children d u) j) ≡ false) ⊎ IsSkipped (two_children d u) (suc i) j
  both_words ne zero j lt le small now = absurd (omega arith)
  both_words ne (suc zero) j lt le small now = absurd (omega arith)
  both_words ne (suc (suc zero)) j lt le small now = absurd (omega arith)
  both_words ne (suc (suc (suc zero))) j lt le small now = absurd (omega arith)
  both_words ne (suc (suc (suc (suc zero)))) j lt le small now = absurd (omega arith)
  both_words ne (suc (suc (suc (suc (suc zero))))) j lt le small now = inl (fifth_words (λ below. now below refl) j lt)
  both_words ne (suc (suc (suc (suc (suc (suc zero)))))) j lt le small now = sixth_words ne (u.parent == d.node) refl j lt
  both_words ne (suc (suc (suc (suc (suc (suc (suc zero))))))) j lt le small now = seventh_words j lt
  both_words ne (suc (suc (suc (suc (suc (suc (suc (suc zero)))))))) j lt le small now = inl (eighth_words j lt)
  both_words ne (suc (suc (suc (suc (suc (suc (suc (suc (suc i))))))))) j lt le small now = absurd (omega arith)

-- an earlier word isn't the one that is loaded, or is to be loaded twice
pub words_apart : (locks : List HeldLock) (t : Target) (i j : ℕ) → HoldsAll locks t → IsLoadedNow t i → j < i → i < target_words t.successor
    → (same_field (target_word t i) (target_word t j) ≡ false) ⊎ IsSkipped t (suc i) j
words_apart locks t i j all now lt small = dite (dec_le 5 i) (λ le. more t.successor refl le small all.successor)
    (λ few. inl (node_words t all.apart i j lt (omega arith)))
  where
    more : (h : Option Successor) → t.successor ≡ h → 5 ≤ i → i < target_words h → HoldsSuccessorLocks locks t.node h
        → (same_field (target_word t i) (target_word t j) ≡ false) ⊎ IsSkipped t (suc i) j
    more None e le small held = absurd (omega arith)
    more (Some u) e le small held =
        subst (λ h. let x : Target = record { node = t.node; successor = h } in
        (same_field (target_word x i) (target_word x j) ≡ false) ⊎ IsSkipped x (suc i) j) (sym e)
        (both_words t.node u held.0 all.apart i j lt le small (λ below. now u e below))

-- the number that was loaded last, and those before it
number_now : (f : Found) (i n : ℕ) → i < 9 → found_number (with_found f i n) i ≡ n
number_now f zero n lt = refl
number_now f (suc zero) n lt = refl
number_now f (suc (suc zero)) n lt = refl
number_now f (suc (suc (suc zero))) n lt = refl
number_now f (suc (suc (suc (suc zero)))) n lt = refl
number_now f (suc (suc (suc (suc (suc zero))))) n lt = refl
number_now f (suc (suc (suc (suc (suc (suc zero)))))) n lt = refl
number_now f (suc (suc (suc (suc (suc (suc (suc zero))))))) n lt = refl
number_now f (suc (suc (suc (suc (suc (suc (suc (suc zero)))))))) n lt = refl
number_now f (suc (suc (suc (suc (suc (suc (suc (suc (suc i))))))))) n lt = absurd (omega arith)

number_then : (f : Found) (i n j : ℕ) → i ≢ j → j < 9 → found_number (with_found f i n) j ≡ found_number f j
number_then f i n zero ne lt = ap (λ z. cond z n f.parent_life) (ne_eqb i 0 ne)
number_then f i n (suc zero) ne lt = ap (λ z. cond z n f.link) (ne_eqb i 1 ne)
number_then f i n (suc (suc zero)) ne lt = ap (λ z. cond z n f.life) (ne_eqb i 2 ne)
number_then f i n (suc (suc (suc zero))) ne lt = ap (λ z. cond z n f.left) (ne_eqb i 3 ne)
number_then f i n (suc (suc (suc (suc zero)))) ne lt = ap (λ z. cond z n f.right) (ne_eqb i 4 ne)
number_then f i n (suc (suc (suc (suc (suc zero))))) ne lt = ap (λ z. cond z n f.successor_parent_life) (ne_eqb i 5 ne)
number_then f i n (suc (suc (suc (suc (suc (suc zero)))))) ne lt = ap (λ z. cond z n f.successor_link) (ne_eqb i 6 ne)
number_then f i n (suc (suc (suc (suc (suc (suc (suc zero))))))) ne lt = ap (λ z. cond z n f.successor_life) (ne_eqb i 7 ne)
number_then f i n (suc (suc (suc (suc (suc (suc (suc (suc zero)))))))) ne lt = ap (λ z. cond z n f.successor_left) (ne_eqb i 8 ne)
number_then f i n (suc (suc (suc (suc (suc (suc (suc (suc (suc j))))))))) ne lt = absurd (omega arith)

-- one more word was loaded
pub one_more : (locks : List HeldLock) (t : Target) (i : ℕ) (f : Found) (n : ℕ) → HoldsAll locks t → IsLoadedNow t i
    → i < target_words t.successor → HasLoaded locks t i f
    → HasLoaded (change_lock (target_slot t i) (note_lock (read_at (target_word t i) n)) locks) t (suc i) (with_found f i n)
one_more locks t i f n all now small has j lt =
    let most = most_words t.successor in
    dite (ℕ_discrete j i)
    (λ e. inr (subst (λ x. loaded_in (under after (target_slot t x)) (target_word t x) ≡ Some (found_number (with_found f i n) x)) (sym e)
    (loaded_now locks (target_slot t i) (target_word t i) n (word_held locks t i all) ∙ ap Some (sym (number_now f i n (omega arith))))))
    (λ ne. (let before : j < i = omega arith in
    ⊎_elim
    (λ (skip : IsSkipped t i j). inl (later skip))
    (λ known. ⊎_elim
    (λ other. inr (loaded_more locks (target_slot t i) (read_at (target_word t i) n) (target_slot t j) (target_word t j)
    (found_number f j) other known ∙ ap Some (sym (number_then f i n j (λ e. ne (sym e)) (omega arith)))))
    (λ skip. inl skip)
    (words_apart locks t i j all now before small))
    (has j before)))
  where
    after : List HeldLock
    after = change_lock (target_slot t i) (note_lock (read_at (target_word t i) n)) locks

    later : IsSkipped t i j → IsSkipped t (suc i) j
    later skip = record {
      successor = skip.successor;
      has = skip.has;
      below_node = skip.below_node;
      which = ⊎_elim (λ (e : j ≡ 5). inl e) (λ e. inr (e.0, omega (arith, e.1))) skip.which;
    }

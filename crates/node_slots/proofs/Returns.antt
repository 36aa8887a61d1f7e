-- Retired slots go back, each by its steps and one after another, and the seat's list of them with them.
use Rattle.std.proofs.Common.{◌≡◌, ◌≢◌, ℕ, suc, ◌≤◌, ◌==◌, cond, List, [], ◌∷◌, length, map, refl, sym, ap, subst, ◌∙◌, ⊎_elim, arith, eq-eqb, ne_eqb, zero, ◌-◌, ◌++◌, Option, Some, None, inl, inr, append_assoc, append-nil, ◌+◌, ◌<◌, true, false, ◌⊎◌}
use Rattle.std.proofs.lemmas.Bool.{cases_eq}
use Rattle.core_state.specs.declared.view.Retired.{Retired}
use Rattle.list_laws.specs.Counts.{times, IsIn}
use Rattle.list_laws.proofs.Lists.{times_here, times_other, times_in}
use Rattle.seat_table.specs.Seats.{SeatAt, AreListed, unlisted, IsSlotOf}
use Rattle.tree_points.proofs.Passing.{slots_length}
use Rattle.std.specs.List.{AllByRecursion}
use mathlib.Core.List.{IsPrefix}
use Rattle.prcu_model.proofs.ListFacts.{prefix_trans}
use Rattle.core_frames.proofs.Roles.{without_in}
use Rattle.core_state.specs.declared.view.Held.{Held}
use Rattle.core_state.specs.declared.view.View.{View}
use Rattle.core_state.specs.Links.{without_retired, IsRetiredAt, change_retired, NeedsRaiseRetired, NeedsRaiseToHand, NeedsFreeRetired, after_raise_to_spare, after_raise_to_hand, after_raise_retired, after_free_retired, after_count_free}
use Rattle.core_state.specs.Views.{held_list, lock_of, HasLock, note_lock, note_option, note_moving, change_lock}
use Rattle.prcu_marks.specs.declared.mark.Mark.TheVariants.{Given, Freed}
use Rattle.seat_table.proofs.Seats.{unlisted_here, unlisted_other, unlisted_none, unlisted_else}
use Rattle.node_slots.specs.Reclaiming.{IsReady, AreReady, first_of, first_slots, without_slots, without_all, Returns, LeavesEach, return_marks, first_spare, GivesBack, BecomesSpare, BecomesFree, Reuses}
use Rattle.node_slots.proofs.Takes.{leaves_more, first_goes, other_goes}
use mathlib.Core.Option.{some}
use lib.ListN.{get_elem?}
use Rattle.atomic_table.proofs.Lists.{at_map}
use Rattle.prcu_marks.specs.declared.mark.Mark.{Mark}
use Rattle.core_state.specs.declared.shape.Shape.{Shape}
use Rattle.core_state.specs.declared.words.Field.TheVariants.{Life}
use Rattle.core_state.specs.declared.view.HeldLock.{HeldLock}
use Rattle.core_state.specs.declared.view.Known.{Known}
use Rattle.core_state.specs.Memory.{slot_count}
use Rattle.core_state.specs.declared.act.Act.TheVariants.{LoadRetiredLife, RaiseToSpare, RaiseToHand, RaiseRetired, FreeRetired, CountFree}
use Rattle.core_state.specs.Acts.{noted}
use Rattle.seat_table.specs.Gains.{Sees, TellsNow, IsAsked, Told, IsInformed}
use Rattle.seat_table.proofs.SeveralSteps.{goes_from, without_changed}
use Rattle.node_slots.specs.Slots.{next_life}

-- A seat's list of retired slots beside the retired slots that its view has: as many, and each slot as often.

-- the list without the first of its elements that are this number
abbrev drop_one : ℕ → List ℕ → List ℕ
drop_one x [] = []
drop_one x (y ∷ ys) = cond (y == x) ys (y ∷ drop_one x ys)

drop_here : (x : ℕ) (ys : List ℕ) → drop_one x (x ∷ ys) ≡ ys
drop_here x ys = ap (λ b. cond b ys (x ∷ drop_one x ys)) (eq-eqb x x refl)

drop_other : (x y : ℕ) (ys : List ℕ) → y ≢ x → drop_one x (y ∷ ys) ≡ y ∷ drop_one x ys
drop_other x y ys ne = ap (λ b. cond b ys (y ∷ drop_one x ys)) (ne_eqb y x ne)

drop_times : (x : ℕ) (ys : List ℕ) → 1 ≤ times x ys → (t : ℕ) → times t ys ≡ times t (x ∷ drop_one x ys)
drop_times x [] least t = absurd (omega arith)
drop_times x (y ∷ ys) least t = ⊎_elim
    (λ (e : y ≡ x). subst (λ z. times t (z ∷ ys) ≡ times t (x ∷ drop_one x (z ∷ ys))) (sym e)
    (ap (λ l. times t (x ∷ l)) (sym (drop_here x ys))))
    (λ (ne : y ≢ x).
    let rest = drop_times x ys (let a = times_other x y ys ne in omega arith) t in
    let same = ap (λ l. times t (x ∷ l)) (drop_other x y ys ne) in
    omega arith)
    (cases_eq y x)

drop_length : (x : ℕ) (ys : List ℕ) → 1 ≤ times x ys → length ys ≡ suc (length (drop_one x ys))
drop_length x [] least = absurd (omega arith)
drop_length x (y ∷ ys) least = ⊎_elim
    (λ (e : y ≡ x). subst (λ z. length (z ∷ ys) ≡ suc (length (drop_one x (z ∷ ys)))) (sym e)
    (ap (λ l. suc (length l)) (sym (drop_here x ys))))
    (λ (ne : y ≢ x).
    let rest = drop_length x ys (let a = times_other x y ys ne in omega arith) in
    let same = ap length (drop_other x y ys ne) in
    omega arith)
    (cases_eq y x)

-- lists that have each number as often are as long
pub same_length : (xs ys : List ℕ) → ((t : ℕ) → times t xs ≡ times t ys) → length xs ≡ length ys
same_length [] [] same = refl
same_length [] (y ∷ ys) same = absurd (let a = same y in let b = times_here y ys in omega arith)
same_length (x ∷ xs) ys same =
    let least : 1 ≤ times x ys = let a = same x in let b = times_here x xs in omega arith in
    let rest = same_length xs (drop_one x ys) (λ t. let a = same t in let b = drop_times x ys least t in omega arith) in
    let long = drop_length x ys least in
    omega arith

-- as many are listed as are retired
pub listed_length : (s : SeatAt) → AreListed s → length s.listed ≡ length s.view.hands.retired
listed_length s listed = same_length s.listed (map (λ (r : Retired). r.slot) s.view.hands.retired) listed.each
    ∙ slots_length s.view.hands.retired

map_same : (xs : List ℕ) → map (λ (n : ℕ). n) xs ≡ xs
map_same [] = refl
map_same (x ∷ xs) = ap (λ l. x ∷ l) (map_same xs)

-- a slot that stands nowhere in a list isn't in it
pub not_in : (slot : ℕ) (xs : List ℕ) → times slot xs ≡ 0 → IsIn xs slot → ⊥
not_in slot xs none there =
    let once : 1 ≤ times slot xs = subst (λ l. 1 ≤ times slot l) (map_same xs) (times_in (λ (n : ℕ). n) xs slot there) in
    omega arith

-- Listed slots that go back, one after another.

unlisted_less : (s t : ℕ) (xs : List ℕ) → times t xs ≡ 0 → times t (unlisted s xs) ≡ 0
unlisted_less s t xs none = ⊎_elim
    (λ (e : t ≡ s). subst (λ y. times y (unlisted s xs) ≡ 0) (sym e) (unlisted_none s xs))
    (λ (ne : t ≢ s). unlisted_else s t xs ne ∙ none)
    (cases_eq t s)

pub unlisted_length : (s : ℕ) (xs : List ℕ) → length (unlisted s xs) ≤ length xs
unlisted_length s [] = omega arith
unlisted_length s (x ∷ xs) = ⊎_elim
    (λ (e : x ≡ s). subst (λ y. length (unlisted s (y ∷ xs)) ≤ length (y ∷ xs)) (sym e)
    (let a = ap length (unlisted_here s xs) in let c = unlisted_length s xs in omega arith))
    (λ (ne : x ≢ s). let a = ap length (unlisted_other s x xs ne) in let c = unlisted_length s xs in omega arith)
    (cases_eq x s)

-- The first slots of a list, each once.
pub first_none : (n : ℕ) → first_slots n [] ≡ []
first_none zero = refl
first_none (suc n) = refl

pub first_some : (n x : ℕ) (xs : List ℕ) → 1 ≤ n → first_slots n (x ∷ xs) ≡ x ∷ first_slots (n - 1) (unlisted x xs)
first_some zero x xs some_left = absurd (omega arith)
first_some (suc n) x xs some_left = ap (λ m. x ∷ first_slots m (unlisted x xs)) (omega arith)

first_apart : (s n : ℕ) (xs : List ℕ) → times s xs ≡ 0 → AllByRecursion (λ t. t ≢ s) (first_slots n xs)
first_apart s zero xs none = tt
first_apart s (suc n) [] none = tt
first_apart s (suc n) (x ∷ xs) none = ⊎_elim
    (λ (e : x ≡ s). absurd (let a : times s (s ∷ xs) ≡ 0 = subst (λ y. times s (y ∷ xs) ≡ 0) e none in let b = times_here s xs in
    omega arith))
    (λ (ne : x ≢ s). (ne, first_apart s n (unlisted x xs) (unlisted_less x s xs (sym (times_other s x xs ne) ∙ none))))
    (cases_eq x s)

-- one slot more
without_more : (slots : List ℕ) (s : ℕ) (xs : List ℕ) → without_slots (slots ++ s ∷ []) xs ≡ unlisted s (without_slots slots xs)
without_more [] s xs = refl
without_more (x ∷ slots) s xs = without_more slots s (unlisted x xs)

all_more : (slots : List ℕ) (s : ℕ) (rs : List Retired) → without_all (slots ++ s ∷ []) rs ≡ without_retired s (without_all slots rs)
all_more [] s rs = refl
all_more (x ∷ slots) s rs = all_more slots s (without_retired x rs)

-- Slots that are ready stay so while another goes back.
still_ready : (v w : View) (s t : ℕ) → w.hands.retired ≡ without_retired s v.hands.retired → t ≢ s → IsReady v t → IsReady w t
still_ready v w s t gone ne ready =
    let there = without_in s v.hands.retired ready.r (ready.i, ready.at.0) (λ e. ne (sym ready.at.1 ∙ e)) in
    let here : IsIn w.hands.retired ready.r = subst (λ rs. IsIn rs ready.r) (sym gone) there in
    record { i = here.0; r = ready.r; at = (here.1, ready.at.1); unraised = ready.unraised; waited = ready.waited }

all_still_ready : (v w : View) (s : ℕ) → w.hands.retired ≡ without_retired s v.hands.retired → (ts : List ℕ)
    → AllByRecursion (λ t. t ≢ s) ts → AllByRecursion (IsReady v) ts → AllByRecursion (IsReady w) ts
all_still_ready v w s gone [] apart ready = tt
all_still_ready v w s gone (t ∷ ts) apart ready = (still_ready v w s t gone apart.0 ready.0, all_still_ready v w s gone ts apart.1 ready.1)

-- one slot more goes back
abbrev returning : View → View → View
returning w z = record z {
  hands = record z.hands { spare = w.hands.spare; retired = w.hands.retired };
  latest = record z.latest { free = w.latest.free };
  trail = w.trail;
  seen = w.seen;
}

returning_of : (u w : View) {spare : Option Held} {retired : List Retired} {free : Option ℕ} → w ≡ record u {
  hands = record u.hands { spare = spare; retired = retired };
  latest = record u.latest { free = free };
  trail = w.trail;
  seen = w.seen;
} → w ≡ returning w u
returning_of u w is = is ∙ (λ i. record u {
  hands = record u.hands { spare = ap (λ (z : View). z.hands.spare) (sym is) i; retired = ap (λ (z : View). z.hands.retired) (sym is) i };
  latest = record u.latest { free = ap (λ (z : View). z.latest.free) (sym is) i };
  trail = w.trail;
  seen = w.seen;
})

returned_is : (u : View) (s : ℕ) (w : View) → Returns u s w → (w ≡ returning w u) × (w.hands.retired ≡ without_retired s u.hands.retired)
returned_is u s w (inl r) = (returning_of u w r.rest, ap (λ (z : View). z.hands.retired) r.rest)
returned_is u s w (inr r) = (returning_of u w r.rest, ap (λ (z : View). z.hands.retired) r.rest)

-- the mark that it leaves, and the spare then
abbrev Marked : View → List ℕ → View → List ℕ → View → Type 0
Marked v slots u more w = LeavesEach v (return_marks (held_list v.hands.spare) more) w
    × (held_list w.hands.spare ≡ first_spare (held_list v.hands.spare) more)

marked_more : (v : View) (slots : List ℕ) (u : View) (s : ℕ) (w : View) → GivesBack v slots u → Returns u s w
    → Marked v slots u (slots ++ s ∷ []) w
marked_more v slots u s w gives (inl r) =
    let none : first_spare (held_list v.hands.spare) slots ≡ [] = sym gives.spare ∙ ap held_list r.none in
    let goes = first_goes (held_list v.hands.spare) slots s none in
    let same = ap (λ (z : View). z.allowance) gives.rest in (
      subst (λ ms. LeavesEach v ms w) (sym goes.0)
          (leaves_more v u w (return_marks (held_list v.hands.spare) slots) (Given s) gives.marks same
          (ap (λ (z : View). z.allowance) r.rest ∙ same) r.given),
      ap (λ (z : View). held_list z.hands.spare) r.rest ∙ sym goes.1,
    )
marked_more v slots u s w gives (inr r) =
    let spare : Held = r.some.0 in
    let one : first_spare (held_list v.hands.spare) slots ≡ spare.slot ∷ [] = sym gives.spare ∙ ap held_list r.some.1 in
    let goes = other_goes (held_list v.hands.spare) slots s spare.slot one in
    let same = ap (λ (z : View). z.allowance) gives.rest in (
      subst (λ ms. LeavesEach v ms w) (sym goes.0)
          (leaves_more v u w (return_marks (held_list v.hands.spare) slots) (Freed s) gives.marks same
          (ap (λ (z : View). z.allowance) r.rest ∙ same) r.freed),
      ap (λ (z : View). held_list z.hands.spare) r.rest ∙ gives.spare ∙ sym goes.1,
    )

pub gives_none : (v : View) → GivesBack v [] v
gives_none v = record {
  steps = ([], append-nil v.trail.steps);
  marks = none (held_list v.hands.spare);
  spare = same (held_list v.hands.spare);
  rest = refl;
}
  where
    none : (l : List ℕ) → LeavesEach v (return_marks l []) v
    none [] = refl
    none (x ∷ xs) = refl

    same : (l : List ℕ) → l ≡ first_spare l []
    same [] = refl
    same (x ∷ xs) = refl

returned_steps : (v : View) (slot : ℕ) (w : View) → Returns v slot w → IsPrefix v.trail.steps w.trail.steps
returned_steps v slot w (inl r) = r.steps
returned_steps v slot w (inr r) = r.steps

gives_more : (v : View) (slots : List ℕ) (u : View) (s : ℕ) (w : View) → GivesBack v slots u → Returns u s w
    → GivesBack v (slots ++ s ∷ []) w
gives_more v slots u s w gives returns =
    let marked = marked_more v slots u s w gives returns in
    let is = returned_is u s w returns in
    let all : w.hands.retired ≡ without_all (slots ++ s ∷ []) v.hands.retired =
    is.1 ∙ ap (λ (z : View). without_retired s z.hands.retired) gives.rest ∙ sym (all_more slots s v.hands.retired) in record {
      steps = prefix_trans v.trail.steps u.trail.steps w.trail.steps gives.steps (returned_steps u s w returns);
      marks = marked.0;
      spare = marked.1;
      rest = is.0 ∙ ap (returning w) gives.rest ∙ (λ i. record v {
        hands = record v.hands { spare = w.hands.spare; retired = all i };
        latest = record v.latest { free = w.latest.free };
        trail = w.trail;
        seen = w.seen;
      });
    }

-- Some of the first slots went back, and so many are left.
pub record GoesOn (v : View) (old : List ℕ) (count left : ℕ) (u : View) (cur : List ℕ) : Type 0 where
  pub done : List ℕ
  pub split : first_slots count old ≡ done ++ first_slots left cur
  pub gave : GivesBack v done u
  pub listed : cur ≡ without_slots done old
  pub ready : AreReady u (first_slots left cur)

pub goes_none : (v : View) (old : List ℕ) (count : ℕ) → AreReady v (first_slots count old) → GoesOn v old count count v old
goes_none v old count ready = record { done = []; split = refl; gave = gives_none v; listed = refl; ready = ready }

first_is : (cur : List ℕ) (slot : ℕ) → first_of cur ≡ Some slot → (more : List ℕ) × (cur ≡ slot ∷ more)
first_is [] slot e = let bad : None ≡ Some slot = e in absurd (cc)
first_is (x ∷ xs) slot e = let same : Some x ≡ Some slot = e in (xs, cc)

pub none_is : (cur : List ℕ) → first_of cur ≡ None → cur ≡ []
none_is [] e = refl
none_is (x ∷ xs) e = let bad : Some x ≡ None = e in absurd (cc)

module _ (v : View) (old : List ℕ) (count left : ℕ) (u : View) (cur : List ℕ) (on : GoesOn v old count left u cur) (some_left : 1 ≤ left) where
  module _ (slot : ℕ) (first : first_of cur ≡ Some slot) where
    abbrev rest : List ℕ
    rest = first_slots (left - 1) (unlisted slot cur)

    cut : first_slots left cur ≡ slot ∷ rest
    cut =
        let is = first_is cur slot first in
        ap (first_slots left) is.1 ∙ first_some left slot is.0 some_left
        ∙ ap (λ l. slot ∷ first_slots (left - 1) l) (sym (unlisted_here slot is.0) ∙ ap (unlisted slot) (sym is.1))

    all_ready : AllByRecursion (IsReady u) (slot ∷ rest)
    all_ready = (subst (AreReady u) cut on.ready).each

    pub next_ready : IsReady u slot
    next_ready = all_ready.0

    pub goes_more : (w : View) (now : List ℕ) → Returns u slot w → now ≡ unlisted slot cur → GoesOn v old count (left - 1) w now
    goes_more w now returns is = subst (GoesOn v old count (left - 1) w) (sym is) (record {
      done = on.done ++ slot ∷ [];
      split = on.split ∙ ap (λ l. on.done ++ l) cut ∙ sym (append_assoc on.done (slot ∷ []) rest);
      gave = gives_more v on.done u slot w on.gave returns;
      listed = ap (unlisted slot) on.listed ∙ sym (without_more on.done slot old);
      ready = record {
        each = all_still_ready u w slot (returned_is u slot w returns).1 rest
            (first_apart slot (left - 1) (unlisted slot cur) (unlisted_none slot cur)) all_ready.1;
      };
    })

-- all of them went back
pub goes_end : (v : View) (old : List ℕ) (count left : ℕ) (u : View) (cur : List ℕ) → left ≡ 0 → GoesOn v old count left u cur
    → GivesBack v (first_slots count old) u × (cur ≡ without_slots (first_slots count old) old)
goes_end v old count left u cur none on =
    let all : first_slots count old ≡ on.done = on.split ∙ ap (λ n. on.done ++ first_slots n cur) none ∙ append-nil on.done in
    (subst (λ l. GivesBack v l u) (sym all) on.gave, on.listed ∙ ap (λ l. without_slots l old) (sym all))

pub goes_out : (v : View) (old : List ℕ) (count left : ℕ) (u : View) (cur : List ℕ) → first_of cur ≡ None → GoesOn v old count left u cur
    → GivesBack v (first_slots count old) u × (cur ≡ without_slots (first_slots count old) old)
goes_out v old count left u cur none on =
    let all : first_slots count old ≡ on.done = on.split ∙ ap (λ l. on.done ++ first_slots left l) (none_is cur none)
    ∙ ap (λ l. on.done ++ l) (first_none left) ∙ append-nil on.done in
    (subst (λ l. GivesBack v l u) (sym all) on.gave, on.listed ∙ ap (λ l. without_slots l old) (sym all))

-- What the steps of a retired slot that goes back told, one after another.

-- a retired slot that is changed keeps its place
at_changed : (rs : List Retired) (i : ℕ) (r : Retired) (slot : ℕ) (f : Retired → Retired) → get_elem? rs i ≡ some r → r.slot ≡ slot
    → get_elem? (change_retired slot f rs) i ≡ some (f r)
at_changed rs i r slot f at is = at_map (λ (x : Retired). cond (x.slot == slot) (f x) x) rs i r at
    ∙ ap (λ b. some (cond b (f r) r)) (eq-eqb r.slot slot is)

-- what is noted of another slot
aside : (slot : ℕ) (known : Known) (o : Option Held) → ((held : Held) → o ≡ Some held → held.slot ≡ slot → ⊥) → note_option slot known o ≡ o
aside slot known None apart = refl
aside slot known (Some held) apart = ap (λ b. Some (cond b (record held { known = known ∷ held.known }) held))
    (ne_eqb held.slot slot (λ e. apart held refl e))

-- whether there is a spare
pub none_there : (o : Option Held) → IsSlotOf None o → o ≡ None
none_there None is = refl
none_there (Some held) is = absurd is

pub some_there : (o : Option Held) (slot : ℕ) → IsSlotOf (Some slot) o → (held : Held) × (o ≡ Some held)
some_there None slot is = absurd is
some_there (Some held) slot is = (held, refl)

-- a retired slot is one of the table's
retired_inside : (k : Shape) (v : View) (i slot : ℕ) (r : Retired) → IsRetiredAt v i r slot → TellsNow k v → slot < slot_count k
retired_inside k v i slot r at told = subst (λ x. x < slot_count k) at.1 (told.tells.retired_within i r at.0)

pub needs_life : (k : Shape) (v : View) (slot : ℕ) → IsReady v slot → IsAsked k v (LoadRetiredLife slot)
needs_life k v slot ready = λ told. (retired_inside k v ready.i slot ready.r ready.at told, (ready.i, ready.r, ready.at))

module _ (k : Shape) (v : View) (slot : ℕ) (ready : IsReady v slot) (unlocked : v.locks ≡ []) (settled : v.moving ≡ None) (life : ℕ)
    (v1 : View) (first : Told k v (LoadRetiredLife slot) life v1) where
  abbrev note : Known
  note = record { field = Life slot; number = life; stored = false }

  abbrev to : Retired → Retired
  to r = record r { life = Some life }

  abbrev loaded : View
  loaded = record v {
    hands = record v.hands { retired = change_retired slot to v.hands.retired };
    trail = (noted v (LoadRetiredLife slot) life).trail;
  }

  abbrev number : ℕ
  number = next_life life

  loaded_is : v1 ≡ loaded
  loaded_is =
      let locks : change_lock slot (note_lock note) v.locks ≡ v.locks = ap (change_lock slot (note_lock note)) unlocked ∙ sym unlocked in
      let moving : note_moving slot note v.moving ≡ v.moving = ap (note_moving slot note) settled ∙ sym settled in
      let hand = aside slot note v.hands.hand (λ held e is. first.gains.not_both held (inl (e, is)) ready.i ready.r ready.at) in
      let spare = aside slot note v.hands.spare (λ held e is. first.gains.not_both held (inr (e, is)) ready.i ready.r ready.at) in
      first.goes ∙ (λ i. record v {
        locks = locks i;
        moving = moving i;
        hands = record v.hands { hand = hand i; spare = spare i; retired = change_retired slot to v.hands.retired };
        trail = (noted v (LoadRetiredLife slot) life).trail;
      })

  -- its life may be raised
  raises : NeedsRaiseRetired loaded ready.i (to ready.r) slot number
  raises = record {
    retired = (at_changed v.hands.retired ready.i ready.r slot to ready.at.0 ready.at.1, ready.at.1);
    unraised = ready.unraised;
    unlocked = λ (has : HasLock loaded slot). no_lock (subst (λ ls. (lock : HeldLock) × (lock_of ls slot ≡ Some lock)) unlocked has);
    waited = ready.waited;
    life = life;
    loaded = refl;
    next = refl;
  }
    where
      no_lock : ((lock : HeldLock) × (lock_of [] slot ≡ Some lock)) → ⊥
      no_lock has = let e : None ≡ Some has.0 = has.1 in absurd (cc)

  pub needs_spare : v.hands.spare ≡ None → IsAsked k v1 (RaiseToSpare slot number)
  needs_spare none = subst (λ z. IsAsked k z (RaiseToSpare slot number)) (sym loaded_is)
      (λ told. (retired_inside k loaded ready.i slot (to ready.r) raises.retired told, (ready.i, to ready.r, raises, none)))

  pub needs_raised : (spare : Held) → v.hands.spare ≡ Some spare → IsAsked k v1 (RaiseRetired slot number)
  needs_raised spare has = subst (λ z. IsAsked k z (RaiseRetired slot number)) (sym loaded_is)
      (λ told. (
        retired_inside k loaded ready.i slot (to ready.r) raises.retired told,
        (ready.i, to ready.r, raises, (λ none. let e : Some spare ≡ None = sym has ∙ none in cc)),
      ))

  pub becomes_spare : v.hands.spare ≡ None → (w : View) → Told k v1 (RaiseToSpare slot number) number w → BecomesSpare v slot w
  becomes_spare none w second =
      let h : List Mark = second.marks in
      let last : View = after_raise_to_spare (noted loaded (RaiseToSpare slot number) number) slot number h in
      let is : w ≡ last = goes_from loaded_is second in
      let sees : Sees loaded h = subst (λ z. Sees z h) loaded_is second.sees in
      let gone = without_changed slot to (λ r. refl) v.hands.retired in
      subst (BecomesSpare v slot) (sym is) (record {
        none = none;
        life = life;
        steps = prefix_trans v.trail.steps loaded.trail.steps last.trail.steps (_, refl) (_, refl);
        given = record { before = h; seen = record { works = sees.works; begins = sees.begins; own = sees.own }; marked = refl };
        rest = λ i. record v {
          hands = record v.hands { spare = last.hands.spare; retired = gone i };
          trail = last.trail;
          seen = last.seen;
        };
      })

  pub needs_hand : (spare : Held) → v.hands.spare ≡ Some spare → v.hands.hand ≡ None → v.hands.reserved ≡ false → 1 ≤ v.allowance.tickets
      → IsAsked k v1 (RaiseToHand slot number)
  needs_hand spare has empty unreserved ticket = subst (λ z. IsAsked k z (RaiseToHand slot number)) (sym loaded_is)
      (λ told. (
        retired_inside k loaded ready.i slot (to ready.r) raises.retired told,
        (ready.i, to ready.r, to_hand),
      ))
    where
      to_hand : NeedsRaiseToHand loaded ready.i (to ready.r) slot number
      to_hand = record {
        raises = raises;
        spare = λ none. (let e : Some spare ≡ None = sym has ∙ none in cc);
        empty = empty;
        unreserved = unreserved;
        ticket = ticket;
      }

  pub reuses : (w : View) → Told k v1 (RaiseToHand slot number) number w → Reuses v slot w
  reuses w second =
      let h : List Mark = second.marks in
      let last : View = after_raise_to_hand (noted loaded (RaiseToHand slot number) number) slot number h in
      let is : w ≡ last = goes_from loaded_is second in
      let sees : Sees loaded h = subst (λ z. Sees z h) loaded_is second.sees in
      let gone = without_changed slot to (λ r. refl) v.hands.retired in
      subst (Reuses v slot) (sym is) (record {
        life = life;
        given = record { before = h; seen = record { works = sees.works; begins = sees.begins; own = sees.own }; marked = refl };
        rest = λ i. record v {
          allowance = record v.allowance { tickets = v.allowance.tickets - 1 };
          hands = record v.hands { hand = last.hands.hand; retired = gone i };
          trail = last.trail;
          seen = last.seen;
        };
      })

  module _ (v2 : View) (second : Told k v1 (RaiseRetired slot number) number v2) where
    abbrev raise : Retired → Retired
    raise r = record r { raised = true }

    abbrev raised : View
    raised = after_raise_retired (noted loaded (RaiseRetired slot number) number) slot

    raised_is : v2 ≡ raised
    raised_is = goes_from loaded_is second

    frees : v.hands.owes ≡ false → NeedsFreeRetired raised ready.i (raise (to ready.r)) slot
    frees paid = record {
      paid = paid;
      retired = (
        at_changed loaded.hands.retired ready.i (to ready.r) slot raise
            (at_changed v.hands.retired ready.i ready.r slot to ready.at.0 ready.at.1) ready.at.1,
        ready.at.1,
      );
      raised = refl;
    }

    pub needs_freed : v.hands.owes ≡ false → IsAsked k v2 (FreeRetired slot)
    needs_freed paid = subst (λ z. IsAsked k z (FreeRetired slot)) (sym raised_is)
        (λ told. (
          retired_inside k raised ready.i slot (raise (to ready.r)) (frees paid).retired told,
          (ready.i, raise (to ready.r), frees paid),
        ))

    pub becomes_free : (spare : Held) → v.hands.spare ≡ Some spare → v.hands.owes ≡ false → (v3 w : View) (found : ℕ)
        → Told k v2 (FreeRetired slot) 0 v3 → Told k v3 CountFree found w → BecomesFree v slot w
    becomes_free spare has paid v3 w found third fourth =
        let h : List Mark = third.marks in
        let last : View = after_count_free (noted (after_free_retired (noted raised (FreeRetired slot) 0) slot h) CountFree found) found in
        let is : w ≡ last = goes_from (goes_from raised_is third) fourth in
        let sees : Sees raised h = subst (λ z. Sees z h) raised_is third.sees in
        let gone : without_retired slot (change_retired slot raise loaded.hands.retired) ≡ without_retired slot v.hands.retired
        = without_changed slot raise (λ r. refl) loaded.hands.retired ∙ without_changed slot to (λ r. refl) v.hands.retired in
        subst (BecomesFree v slot) (sym is) (record {
          some = (spare, has);
          found = found;
          steps = prefix_trans v.trail.steps raised.trail.steps last.trail.steps
              (prefix_trans v.trail.steps loaded.trail.steps raised.trail.steps (_, refl) (_, refl))
              (prefix_trans raised.trail.steps (after_free_retired (noted raised (FreeRetired slot) 0) slot h).trail.steps last.trail.steps
              (_, refl) (_, refl));
          freed = record { before = h; seen = record { works = sees.works; begins = sees.begins; own = sees.own }; marked = refl };
          rest = λ i. record v {
            hands = record v.hands { owes = sym paid i; retired = gone i };
            latest = record v.latest { free = Some (found + 1) };
            trail = last.trail;
            seen = last.seen;
          };
        })

-- What a seat learns when listed slots go back, one after another.

-- No slot went back so far and the seat is the same, or the seat is informed.
abbrev pub IsSameOrInformed : ℕ → SeatAt → SeatAt → Type 0
IsSameOrInformed turns s t = ((turns ≡ 0) × (t ≡ s)) ⊎ IsInformed t.view

module _ (turns : ℕ) (s t : SeatAt) (so_far : IsSameOrInformed turns s t) where
  pub stays_informed : IsInformed s.view → IsInformed t.view
  stays_informed was = ⊎_elim (λ (same : (turns ≡ 0) × (t ≡ s)). subst (λ (z : SeatAt). IsInformed z.view) (sym same.1) was)
      (λ (now : IsInformed t.view). now) so_far

  -- all turns were made
  pub informed_end : (count : ℕ) → count ≤ turns → 1 ≤ length (first_slots count s.listed) → IsInformed t.view
  informed_end count over some_first = ⊎_elim
      (λ (same : (turns ≡ 0) × (t ≡ s)). absurd (let none : count ≡ 0 = (let zero_turns = same.0 in omega arith) in
      let long = ap (λ n. length (first_slots n s.listed)) none in omega arith))
      (λ (now : IsInformed t.view). now)
      so_far

  -- none is listed any more
  pub informed_out : (count : ℕ) → first_of t.listed ≡ None → 1 ≤ length (first_slots count s.listed) → IsInformed t.view
  informed_out count none some_first = ⊎_elim
      (λ (same : (turns ≡ 0) × (t ≡ s)). absurd (
      let empty : first_slots count s.listed ≡ [] =
      ap (λ (z : SeatAt). first_slots count z.listed) (sym same.1) ∙ ap (first_slots count) (none_is t.listed none)
      ∙ first_none count in
      let long = ap length empty in
      omega arith
      ))
      (λ (now : IsInformed t.view). now)
      so_far

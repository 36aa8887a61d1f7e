-- Some slots of a cookie go back, and it stays good for the others. Another cookie stays good beside a question.
-- Lists without their first slots.
use Rattle.std.proofs.Common.{◌≡◌, ◌≢◌, ℕ, zero, suc, ◌+◌, ◌-◌, ◌≤◌, ◌<◌, Bool, true, false, List, [], ◌∷◌, ◌++◌, length, map, take, min, Some, refl, sym, ap, subst, ◌∙◌, inl, inr, ⊎_elim, arith, append-nil, append_assoc, ◌||◌}
use Rattle.std.specs.List.{AllByRecursion}
use Rattle.std.proofs.lemmas.Bool.{cases_eq}
use Rattle.std.proofs.lemmas.List.{take_at}
use mathlib.Core.List.{IsPrefix}
use mathlib.Core.Option.{some}
use lib.ListN.{get_elem?}
use Rattle.atomic_table.proofs.Lists.{at_map}
use Rattle.prcu_marks.specs.declared.mark.Mark.{Mark}
use Rattle.prcu_marks.specs.declared.mark.Mark.TheVariants.{Began}
use Rattle.prcu_marks.specs.declared.mark.Why.{Why}
use Rattle.core_frames.proofs.Roles.{without_in}
use Rattle.core_state.specs.declared.shape.Shape.{Shape}
use Rattle.core_state.specs.declared.view.Retired.{Retired}
use Rattle.core_state.specs.declared.view.StepMade.{StepMade}
use Rattle.core_state.specs.declared.view.View.{View}
use Rattle.core_state.specs.declared.view.Waiting.{Waiting}
use Rattle.core_state.specs.Links.{IsRetiredAt, without_retired}
use Rattle.core_state.specs.Steps.{is_grace_for, waited_retired}
use Rattle.core_state.specs.Views.{held_list}
use Rattle.list_laws.specs.Counts.{times, IsIn}
use Rattle.list_laws.proofs.Lists.{all_from_times, all_change, all_times, times_append, times_here, times_other}
use Rattle.seat_table.specs.Seats.{SeatAt, unlisted}
use Rattle.seat_table.specs.Sections.{HasBegun}
use Rattle.seat_table.specs.Looks.{FindsNone}
use Rattle.seat_table.specs.Waits.{HasLooked, HasWaited, IsOver}
use Rattle.seat_table.proofs.Seats.{unlisted_here}
use Rattle.seat_table.proofs.SeveralSteps.{seen_more}
use Rattle.node_slots.specs.Reclaiming.{IsReady, AreReady, GivesBack, first_slots, without_slots, without_all, return_marks}
use Rattle.node_slots.proofs.Takes.{each_begins}
use Rattle.grace_cookie.specs.declared.answers.Ask.{Ask}
use Rattle.grace_cookie.specs.declared.answers.Ask.TheVariants.{Over, NotYet, GivenUp}
use Rattle.grace_cookie.specs.Cookies.{CookieAt, IsOf, IsKept, HasKept, AreKept, AreUnraised, everybody, IsLatest, Asked, GivesFirst, HasOutlasted, KeepsLatest, KeepsListed, OthersStay, StaysRetired}
use Rattle.grace_cookie.proofs.Keeping.{unlisted_behind, first_apart, for_good, waits_stay, keeps_latest, keeps_all, listed_all, begins_later, cookies_stay, not_over, seen_later, outlasted_later}

without_behind : (gone xs ys : List ℕ) → ((s : ℕ) → 1 ≤ times s gone → times s xs ≡ 0)
    → without_slots gone (xs ++ ys) ≡ xs ++ without_slots gone ys
without_behind [] xs ys none = refl
without_behind (s ∷ gone) xs ys none =
    ap (without_slots gone) (unlisted_behind s xs ys (none s (let a = times_here s gone in omega arith)))
    ∙ without_behind gone xs (unlisted s ys) (λ t least. none t (⊎_elim
    (λ (e : s ≡ t). subst (λ y. 1 ≤ times y (s ∷ gone)) e (let a = times_here s gone in omega arith))
    (λ (ne : s ≢ t). let a = times_other t s gone ne in omega arith)
    (cases_eq s t)))

-- a list of slots in two parts, the first of this length
pub record IsCut (n : ℕ) (xs : List ℕ) : Type 0 where
  pub gone : List ℕ
  pub left : List ℕ
  pub parts : xs ≡ gone ++ left
  pub many : length gone ≡ n

cut : (n : ℕ) (xs : List ℕ) → n ≤ length xs → IsCut n xs
cut zero xs few = record { gone = []; left = xs; parts = refl; many = refl }
cut (suc n) [] few = absurd (omega arith)
cut (suc n) (x ∷ xs) few = let rest = cut n xs (omega arith) in
    record { gone = x ∷ rest.gone; left = rest.left; parts = ap (λ l. x ∷ l) rest.parts; many = ap suc rest.many }

-- slots that stand apart go, and what stands behind them stays
first_go : (gone left ys : List ℕ) → ((t : ℕ) → times t (gone ++ left) ≤ 1)
    → without_slots gone ((gone ++ left) ++ ys) ≡ left ++ without_slots gone ys
first_go [] left ys once = refl
first_go (x ∷ gone) left ys once =
    let none : times x (gone ++ left) ≡ 0 = let a = once x in let b = times_here x (gone ++ left) in omega arith in
    ap (without_slots gone) (unlisted_here x ((gone ++ left) ++ ys) ∙ unlisted_behind x (gone ++ left) ys none)
    ∙ first_go gone left (unlisted x ys) (λ t. ⊎_elim
    (λ (e : x ≡ t). subst (λ y. times y (gone ++ left) ≤ 1) e (omega arith))
    (λ (ne : x ≢ t). let a = once t in let b = times_other t x (gone ++ left) ne in omega arith)
    (cases_eq x t))

-- a retired slot that doesn't go stays retired
stays_in : (gone : List ℕ) (rs : List Retired) (r : Retired) → times r.slot gone ≡ 0 → IsIn rs r → IsIn (without_all gone rs) r
stays_in [] rs r none there = there
stays_in (s ∷ gone) rs r none there = ⊎_elim
    (λ (e : s ≡ r.slot). absurd (let a : times s (s ∷ gone) ≡ 0 = subst (λ y. times y (s ∷ gone) ≡ 0) (sym e) none in
    let b = times_here s gone in omega arith))
    (λ (ne : s ≢ r.slot). stays_in gone (without_retired s rs) r (let a = times_other r.slot s gone ne in omega arith)
    (without_in s rs r there (λ f. ne (sym f))))
    (cases_eq s r.slot)

-- What slots that go back leave of cookies.

pub gives_latest : (n : ℕ) (s t : SeatAt) → GivesFirst n s t → KeepsLatest s.view t.view
gives_latest n s t gave =
    let e = gave.gives.rest in
    keeps_latest s.view t.view (ap (λ (z : View). z.allowance.place) e)
    (each_begins s.view t.view (return_marks (held_list s.view.hands.spare) (take n s.listed)) gave.gives.marks)
    (ap (λ (z : View). z.counts.waits) e) (ap (λ (z : View). z.wait) e)

module _ (c : CookieAt) (s : SeatAt) (n : ℕ) (few : n ≤ c.slots) (over : c.over ≡ true) (has : HasKept c s) where
  pub kept : AreKept c s
  kept = for_good c s over has

  pub parts : IsCut n kept.slots
  parts = cut n kept.slots (let many = kept.many in omega arith)

  slots_are : s.listed ≡ (parts.gone ++ parts.left) ++ kept.later
  slots_are = kept.listed ∙ ap (λ l. l ++ kept.later) parts.parts

  listed_is : s.listed ≡ parts.gone ++ (parts.left ++ kept.later)
  listed_is = slots_are ∙ append_assoc parts.gone parts.left kept.later

  once : (t : ℕ) → times t (parts.gone ++ parts.left) ≤ 1
  once t = subst (λ l. times t l ≤ 1) parts.parts (kept.apart t)

  gone_once : (t : ℕ) → times t parts.gone ≤ 1
  gone_once t = let a = once t in let b = times_append t parts.gone parts.left in omega arith

  left_once : (t : ℕ) → times t parts.left ≤ 1
  left_once t = let a = once t in let b = times_append t parts.gone parts.left in omega arith

  pub some_head : take n s.listed ≡ parts.gone
  some_head = ap (take n) listed_is ∙ take_at parts.gone (parts.left ++ kept.later) n parts.many

  pub first_some : first_slots n s.listed ≡ parts.gone
  first_some = ap (first_slots n) listed_is ∙ ap (λ m. first_slots m (parts.gone ++ (parts.left ++ kept.later))) (sym parts.many)
      ∙ first_apart parts.gone (parts.left ++ kept.later) gone_once

  pub many_first : length (first_slots n s.listed) ≡ n
  many_first = ap length first_some ∙ parts.many

  one_kept : (slot : ℕ) → 1 ≤ times slot (parts.gone ++ parts.left) → IsKept c s.view slot
  one_kept slot least = all_times (IsKept c s.view) kept.slots slot kept.each (subst (λ l. 1 ≤ times slot l) (sym parts.parts) least)

  pub some_ready : c.keys ≡ everybody → AreUnraised s.view (take n s.listed) → AreReady s.view (first_slots n s.listed)
  some_ready all unraised = subst (AreReady s.view) (sym first_some) (record { each = all_from_times (IsReady s.view) parts.gone one })
    where
      one : (slot : ℕ) → 1 ≤ times slot parts.gone → IsReady s.view slot
      one slot there =
          let here = one_kept slot (let b = times_append slot parts.gone parts.left in omega arith) in
          let still = subst (AreUnraised s.view) some_head unraised in
          let low = all_times (λ x. (i : ℕ) (r : Retired) → IsRetiredAt s.view i r x → r.raised ≡ false) parts.gone slot still there in
          record {
            i = here.i;
            r = here.r;
            at = here.at;
            unraised = low here.i here.r here.at;
            waited = here.waited all over;
          }

  module _ (t : SeatAt) (gives : GivesBack s.view (first_slots n s.listed) t.view)
      (listed : t.listed ≡ without_slots (first_slots n s.listed) s.listed) where
    pub gives_first : GivesFirst n s t
    gives_first = let same = first_some ∙ sym some_head in record {
      gives = subst (λ l. GivesBack s.view l t.view) same gives;
      listed = listed ∙ ap (λ l. without_slots l s.listed) same;
    }

    -- the cookie without the slots that went back
    abbrev less : CookieAt
    less = record c { slots = c.slots - n }

    pub still_of : (k : Shape) → IsOf k c s.view → IsOf k less t.view
    still_of k of = let o = waits_stay k c s.view t.view (gives_latest n s t gives_first) of in
        record { begun = o.begun; began = o.began; outlasted = o.outlasted; going = o.going }

    one_left : (slot : ℕ) → 1 ≤ times slot parts.left → IsKept less t.view slot
    one_left slot there =
        let here = one_kept slot (let b = times_append slot parts.gone parts.left in omega arith) in
        let none : times slot parts.gone ≡ 0 = let a = once slot in let b = times_append slot parts.gone parts.left in omega arith in
        let stays = stays_in parts.gone s.view.hands.retired here.r (subst (λ y. times y parts.gone ≡ 0) (sym here.at.1) none)
        (here.i, here.at.0) in
        let now : t.view.hands.retired ≡ without_all parts.gone s.view.hands.retired =
        ap (λ (z : View). z.hands.retired) gives.rest ∙ ap (λ l. without_all l s.view.hands.retired) first_some in record {
          i = stays.0;
          r = here.r;
          at = (ap (λ rs. get_elem? rs stays.0) now ∙ stays.1, here.at.1);
          since = λ going. not_over c going over;
          waited = here.waited;
        }

    pub still_kept : HasKept less t
    still_kept = record {
      kept = λ _. record {
        slots = parts.left;
        later = without_slots parts.gone kept.later;
        listed = listed ∙ ap (λ l. without_slots l s.listed) first_some ∙ ap (without_slots parts.gone) slots_are
            ∙ first_go parts.gone parts.left kept.later once;
        many = (let a : length kept.slots ≡ length parts.gone + length parts.left = ap length parts.parts ∙ lengths parts.gone parts.left in
            let b = kept.many in let d = parts.many in omega arith);
        apart = left_once;
        each = all_from_times (IsKept less t.view) parts.left one_left;
      };
    }
      where
        lengths : (xs ys : List ℕ) → length (xs ++ ys) ≡ length xs + length ys
        lengths [] ys = omega arith
        lengths (x ∷ xs) ys = let e = lengths xs ys in omega arith

-- A cookie beside a question about another one.

module _ (k : Shape) (c : CookieAt) (s t : SeatAt) (other : CookieAt) (apart : other.count ≢ c.count) (latest : IsLatest c s.view)
    (place : t.view.allowance.place ≡ s.view.allowance.place) (waits : t.view.counts.waits ≡ s.view.counts.waits)
    (seen : IsPrefix s.view.seen t.view.seen) where
  not_latest : IsLatest other t.view → ⊥
  not_latest is = apart (omega arith)

  was_not : IsLatest other s.view → ⊥
  was_not is = apart (omega arith)

  other_of : IsOf k other s.view → IsOf k other t.view
  other_of of = record {
    begun = let a = of.begun in omega arith;
    began = subst (λ p. IsIn t.view.seen (Began p other.count other.keys.low other.keys.high)) (sym place)
        (seen_later s.view.seen t.view.seen (Began s.view.allowance.place other.count other.keys.low other.keys.high) seen of.began);
    outlasted = λ over. subst (λ p. HasOutlasted p other.count other.keys t.view.seen) (sym place)
        (outlasted_later s.view.allowance.place other.count other.keys s.view.seen t.view.seen seen (of.outlasted over));
    going = λ _ is. absurd (not_latest is);
  }

  -- each retired slot is as it was, or was waited for since
  other_kept : t.listed ≡ s.listed → ((i : ℕ) (r : Retired) → get_elem? s.view.hands.retired i ≡ some r
      → (now : Retired) × (get_elem? t.view.hands.retired i ≡ some now) × StaysRetired r now) → HasKept other s → HasKept other t
  other_kept listed stay has = record { kept = λ is. by is other.over refl }
    where
      one : other.over ≡ true → (slot : ℕ) → IsKept other s.view slot → IsKept other t.view slot
      one over slot kept = let now = stay kept.i kept.r kept.at.0 in record {
        i = kept.i;
        r = now.0;
        at = (now.1, now.2.0 ∙ kept.at.1);
        since = λ going. not_over other going over;
        waited = λ all f. now.2.2 (kept.waited all f);
      }

      by : (other.over ≡ false → IsLatest other t.view) → (b : Bool) → other.over ≡ b → AreKept other t
      by is true e = let kept = for_good other s e has in record {
        slots = kept.slots;
        later = kept.later;
        listed = listed ∙ kept.listed;
        many = kept.many;
        apart = kept.apart;
        each = all_change (IsKept other s.view) (IsKept other t.view) kept.slots (λ slot there kept. one e slot kept) kept.each;
      }
      by is false e = absurd (not_latest (is e))

-- the wait ended: each slot stays retired, and may have been waited for
other_over : (k : Shape) (c : CookieAt) (s t : SeatAt) (other : CookieAt) → IsLatest c s.view → IsOver k s.view t.view → t.listed ≡ s.listed
    → other.count ≢ c.count → IsOf k other s.view → IsOf k other t.view × (HasKept other s → HasKept other t)
other_over k c s t other latest over listed apart of =
    let e = over.ended.others in
    let place = ap (λ (z : View). z.allowance.place) e in
    let waits = ap (λ (z : View). z.counts.waits) e in
    let seen = seen_more s.view t.view _ over.ended.leaves in (
      other_of k c s t other apart latest place waits seen of,
      other_kept k c s t other apart latest place waits seen listed (λ i r there. (
        waited_retired over.wait r,
        ap (λ (z : View). get_elem? z.hands.retired i) e ∙ at_map (waited_retired over.wait) s.view.hands.retired i r there,
        (refl, refl, λ yes. ap (λ b. b || is_grace_for over.wait r.unlinked) yes),
      )),
    )

-- it goes on
other_going : (k : Shape) (c : CookieAt) (s t : SeatAt) (other : CookieAt) (wait : Waiting) (steps : List StepMade) (new : Waiting)
    → IsLatest c s.view → HasLooked s.view wait steps new t.view → t.listed ≡ s.listed → other.count ≢ c.count → IsOf k other s.view
    → IsOf k other t.view × (HasKept other s → HasKept other t)
other_going k c s t other wait steps new latest looked listed apart of =
    let e = looked.others in
    let place = ap (λ (z : View). z.allowance.place) e in
    let waits = ap (λ (z : View). z.counts.waits) e in
    let seen : IsPrefix s.view.seen t.view.seen = ([], append-nil s.view.seen ∙ sym (ap (λ (z : View). z.seen) e)) in (
      other_of k c s t other apart latest place waits seen of,
      other_kept k c s t other apart latest place waits seen listed (λ i r there. (
        r,
        ap (λ (z : View). get_elem? z.hands.retired i) e ∙ there,
        (refl, refl, λ yes. yes),
      )),
    )

-- nothing changed
other_same : (k : Shape) (s t : SeatAt) (other : CookieAt) → t.view ≡ s.view → t.listed ≡ s.listed → IsOf k other s.view
    → IsOf k other t.view × (HasKept other s → HasKept other t)
other_same k s t other view listed of =
    let keeps = keeps_all s t (ap (λ (z : View). z.allowance.place) view) ([], append-nil s.view.seen ∙ sym (ap (λ (z : View). z.seen) view))
    (ap (λ (z : View). z.counts.waits) view) (ap (λ (z : View). z.wait) view) (ap (λ (z : View). z.hands.retired) view) listed in (
      waits_stay k other s.view t.view keeps.latest of,
      λ has. (cookies_stay k other s t keeps (λ _. listed_all s t (ap (λ (z : View). z.hands.retired) view) listed) of has).1,
    )

pub others_stay : OthersStay
others_stay k c s Over now t other asked listed apart of = ⊎_elim
    (λ (before : (c.over ≡ true) × (t.view ≡ s.view)). other_same k s t other before.1 listed of)
    (λ (ended : (c.over ≡ false) × IsLatest c s.view × IsOver k s.view t.view × FindsNone c.keys c.clock s.view t.view).
    other_over k c s t other ended.1 ended.2 listed apart of)
    asked.how
others_stay k c s (NotYet why) now t other (wait, steps, new, going, shows) listed apart of =
    other_going k c s t other wait steps new going.latest going.looked listed apart of
others_stay k c s (GivenUp latest) now t other asked listed apart of = other_same k s t other asked.view listed of

-- A cookie beside a later wait of its place: no slot goes back.

pub begun_latest : (v w : View) (low high : ℕ) → HasBegun v low high w → KeepsLatest v w
begun_latest v w low high begun =
    let e = begun.others in
    begins_later v w (ap (λ (z : View). z.allowance.place) e) (seen_more v w _ begun.leaves)
    (let more = ap (λ (z : View). z.counts.waits) e in omega arith)

pub begun_listed : (s t : SeatAt) (low high : ℕ) → HasBegun s.view low high t.view → t.listed ≡ s.listed → KeepsListed s t
begun_listed s t low high begun listed = listed_all s t (ap (λ (z : View). z.hands.retired) begun.others) listed

pub waited_listed : (k : Shape) (s t : SeatAt) (low high : ℕ) → HasWaited k s.view low high t.view → t.listed ≡ s.listed → KeepsListed s t
waited_listed k s t low high (mid, begun, over) listed = record {
  retired = record {
    each = λ i r there. (
      waited_retired over.wait r,
      ap (λ (z : View). get_elem? z.hands.retired i) over.ended.others
          ∙ at_map (waited_retired over.wait) mid.hands.retired i r
          (ap (λ (z : View). get_elem? z.hands.retired i) begun.others ∙ there),
      (refl, refl, λ yes. ap (λ b. b || is_grace_for over.wait r.unlinked) yes),
    );
  };
  listed = ([], listed ∙ sym (append-nil s.listed));
}

-- The first slot of a cookie that is over is used again otherwise, and the cookie stays good for its others.
use Rattle.std.proofs.Common.{◌≡◌, ◌≢◌, ℕ, ◌+◌, ◌-◌, ◌≤◌, true, List, [], ◌∷◌, ◌++◌, length, Some, refl, sym, ap, subst, ◌∙◌, arith}
use mathlib.Core.Option.{some}
use lib.ListN.{get_elem?}
use Rattle.core_state.specs.declared.shape.Shape.{Shape}
use Rattle.core_state.specs.declared.view.Retired.{Retired}
use Rattle.core_state.specs.Views.{IsQuiet}
use Rattle.list_laws.specs.Counts.{times, IsIn}
use Rattle.list_laws.proofs.Lists.{all_from_times, all_times, times_here, times_other}
use Rattle.seat_table.specs.Seats.{SeatAt, unlisted}
use Rattle.seat_table.proofs.Seats.{unlisted_here}
use Rattle.node_slots.specs.Reclaiming.{IsReady, first_of}
use Rattle.tree_points.proofs.Passing.{none_raised}
use Rattle.grace_cookie.specs.Cookies.{CookieAt, AreKept, HasKept, IsKept, IsOf, UsedStay, UsesListed, everybody, less_one}
use Rattle.grace_cookie.proofs.Keeping.{for_good, not_over, unlisted_behind, waits_stay}

-- the slots of a cookie that has one at least
pub record HasFirst (c : CookieAt) (s : SeatAt) : Type 0 where
  pub slot : ℕ
  pub rest : List ℕ
  pub later : List ℕ
  pub listed : s.listed ≡ slot ∷ (rest ++ later)
  pub many : length (slot ∷ rest) ≡ c.slots
  pub apart : (t : ℕ) → times t (slot ∷ rest) ≤ 1
  pub kept : (t : ℕ) → 1 ≤ times t (slot ∷ rest) → IsKept c s.view t

parted : (c : CookieAt) (s : SeatAt) (slots : List ℕ) (kept : AreKept c s) → kept.slots ≡ slots → 1 ≤ length slots → HasFirst c s
parted c s [] kept are least = absurd (omega (arith, least))
parted c s (slot ∷ rest) kept are least = record {
  slot = slot;
  rest = rest;
  later = kept.later;
  listed = kept.listed ∙ ap (λ l. l ++ kept.later) are;
  many = ap length (sym are) ∙ kept.many;
  apart = λ t. subst (λ l. times t l ≤ 1) are (kept.apart t);
  kept = λ t there. all_times (IsKept c s.view) kept.slots t kept.each (subst (λ l. 1 ≤ times t l) (sym are) there);
}

module _ (c : CookieAt) (s : SeatAt) (over : c.over ≡ true) (some_slots : 1 ≤ c.slots) (has : HasKept c s) where
  pub first : HasFirst c s
  first = let kept = for_good c s over has in parted c s kept.slots kept refl (let many = kept.many in omega (arith, many, some_slots))

  first_here : IsKept c s.view first.slot
  first_here = first.kept first.slot (let a = times_here first.slot first.rest in omega arith)

  -- it was waited for, and may be used again
  pub first_ready : c.keys ≡ everybody → IsQuiet s.view → IsReady s.view first.slot
  first_ready all quiet = record {
    i = first_here.i;
    r = first_here.r;
    at = first_here.at;
    unraised = none_raised s.view.hands.retired quiet.raised first_here.i first_here.r first_here.at.0;
    waited = first_here.waited all over;
  }

  pub is_first : first_of s.listed ≡ Some first.slot
  is_first = ap first_of first.listed

  module _ (slot : ℕ) (t : SeatAt) (used : UsesListed slot s t) (same : first_of s.listed ≡ Some slot) where
    slot_is : first.slot ≡ slot
    slot_is = let e : Some first.slot ≡ Some slot = sym is_first ∙ same in cc

    one_left : (x : ℕ) → 1 ≤ times x first.rest → IsKept (less_one c) t.view x
    one_left x there =
        let apart : first.slot ≢ x = (λ e. (let once = first.apart x in
        let here : times x (first.slot ∷ first.rest) ≡ 1 + times x first.rest =
        subst (λ y. times x (y ∷ first.rest) ≡ 1 + times x first.rest) (sym e) (times_here x first.rest) in omega (arith, once, here, there))) in
        let here = first.kept x (let a = times_other x first.slot first.rest apart in omega (arith, a, there)) in
        let now = used.others here.r (here.i, here.at.0) (λ e. apart (slot_is ∙ sym e ∙ here.at.1)) in record {
          i = now.1.0;
          r = now.0;
          at = (now.1.1, now.2.0 ∙ here.at.1);
          since = λ going. not_over c going over;
          waited = λ all f. now.2.2 (here.waited all f);
        }

    pub used_kept : HasKept (less_one c) t
    used_kept = record {
      kept = λ _. record {
        slots = first.rest;
        later = unlisted first.slot first.later;
        listed = used.listed ∙ ap (λ x. unlisted x s.listed) (sym slot_is) ∙ ap (unlisted first.slot) first.listed
            ∙ unlisted_here first.slot (first.rest ++ first.later)
            ∙ unlisted_behind first.slot first.rest first.later (let once = first.apart first.slot in
            let here = times_here first.slot first.rest in omega (arith, once, here));
        many = let many = first.many in omega (arith, many);
        apart = λ x. (let once = first.apart x in omega (arith, once));
        each = all_from_times (IsKept (less_one c) t.view) first.rest one_left;
      };
    }

pub used_stay : UsedStay
used_stay k c slot s t over some_slots same used of has =
    let o = waits_stay k c s.view t.view used.latest of in (
      record { begun = o.begun; began = o.began; outlasted = o.outlasted; going = o.going },
      used_kept c s over some_slots has slot t used same,
    )

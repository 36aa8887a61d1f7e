-- What asking about a keeper, giving slots back by it, and beginning one leave.
use Rattle.std.proofs.Common.{◌≡◌, ◌≢◌, ℕ, ◌+◌, ◌≤◌, ◌<◌, ◌⊎◌, true, false, List, [], ◌∷◌, take, Option, Some, None, inl, inr, refl, sym, ap, subst, ◌∙◌, ⊎_elim, arith, append-nil, length, nat_eq}
use Rattle.std.proofs.lemmas.Bool.{eqb-false}
use mathlib.Core.List.{IsPrefix}
use Rattle.prcu_marks.specs.declared.mark.Mark.{Mark}
use Rattle.prcu_marks.specs.declared.mark.Mark.TheVariants.{Ended}
use Rattle.core_state.specs.declared.shape.Shape.{Shape}
use Rattle.core_state.specs.declared.view.Allowance.{Allowance}
use Rattle.core_state.specs.declared.view.View.{View}
use Rattle.core_state.specs.declared.view.Waiting.{Waiting}
use Rattle.core_state.specs.Views.{held_list}
use Rattle.seat_table.specs.Looks.{FindsNone}
use Rattle.seat_table.specs.Seats.{IsLastFound, SeatAt, shape_of}
use Rattle.seat_table.specs.Waits.{IsOver}
use Rattle.tree_points.specs.Points.{HasAdvanced}
use Rattle.tree_points.proofs.Locks.{allowed, further_by, no_further, advanced_none, advanced_over, advanced_stays}
use Rattle.node_slots.specs.Reclaiming.{return_marks}
use Rattle.node_slots.proofs.Takes.{each_begins, each_own, returned_nobodys}
use Rattle.grace_cookie.specs.declared.answers.Ask.{Ask}
use Rattle.grace_cookie.specs.declared.answers.Ask.TheVariants.{Over, NotYet, GivenUp}
use Rattle.grace_cookie.specs.Cookies.{CookieAt, everybody, IsLatest, IsOf, HasKept, IsSameCookie, Asked, GivesFirst}
use Rattle.grace_cookie.proofs.Giving.{gives_latest, others_stay}
use Rattle.grace_cookie.proofs.Keeping.{waits_stay, same_keys}
use Rattle.tree_handles.specs.Keepers.{AreEnough, FoundNoneFree, HasCookie, HasCookies, HasKeeper, HasLatest, GivesBy, LacksSlots, LeavesEnd, StaysFor, many_kept}

-- nothing was left of marks
nothing_left : (keeper : Option CookieAt) (v w : View) → IsPrefix v.trail.steps w.trail.steps → w.allowance ≡ v.allowance
    → w.counts.waits ≡ v.counts.waits → w.seen ≡ v.seen → LeavesEnd keeper v w
nothing_left keeper v w steps allowance waits seen = record {
  ended = [];
  advanced = advanced_none steps (record
      { rest = allowance ∙ ap (λ n. record v.allowance { tickets = n }) (sym (ap (λ (a : Allowance). a.tickets) allowance)) }) seen;
  ends = inl refl;
  allowance = allowance;
  waits = waits;
}

pub same_left : (keeper : Option CookieAt) (v w : View) → w ≡ v → LeavesEnd keeper v w
same_left keeper v w e = nothing_left keeper v w (no_further v w (ap (λ (z : View). z.trail.steps) e)) (ap (λ (z : View). z.allowance) e)
    (ap (λ (z : View). z.counts.waits) e) (ap (λ (z : View). z.seen) e)

-- slots that go back leave no mark of their place
first_advanced : (n : ℕ) (s t : SeatAt) → GivesFirst n s t → HasAdvanced s.view t.view []
first_advanced n s t gave =
    let g = gave.gives in
    let marks : List Mark = return_marks (held_list s.view.hands.spare) (take n s.listed) in record {
      steps = g.steps;
      same = ap (λ (z : View). z.allowance.place) g.rest;
      allowance = allowed g.rest refl;
      begins = each_begins s.view t.view marks g.marks;
      own = each_own s.view t.view marks (returned_nobodys (held_list s.view.hands.spare) _) g.marks ∙ sym (append-nil _);
    }

first_left : (keeper : Option CookieAt) (v : View) (n : ℕ) (s t : SeatAt) → GivesFirst n s t → LeavesEnd keeper v s.view → LeavesEnd keeper v t.view
first_left keeper v n s t gave left = record {
  ended = left.ended;
  advanced = advanced_stays left.advanced (first_advanced n s t gave);
  ends = left.ends;
  allowance = ap (λ (z : View). z.allowance) gave.gives.rest ∙ left.allowance;
  waits = ap (λ (z : View). z.counts.waits) gave.gives.rest ∙ left.waits;
}

-- the poll ended the wait of the keeper
ended_left : (k : Shape) (c : CookieAt) (v w : View) → IsOf k c v → c.over ≡ false → IsLatest c v → IsOver k v w → LeavesEnd (Some c) v w
ended_left k c v w of going latest over =
    let on = of.going going latest in
    let same : Some over.wait ≡ Some on.0 = sym over.was ∙ on.1 in
    let is : over.wait ≡ on.0 = cc in
    let count : over.wait.count ≡ c.count = ap (λ (z : Waiting). z.count) is ∙ on.2 in record {
      ended = Ended v.allowance.place c.count ∷ [];
      advanced = subst (λ n. HasAdvanced v w (Ended v.allowance.place n ∷ [])) count (advanced_over over);
      ends = inr (c, refl, refl);
      allowance = ap (λ (z : View). z.allowance) over.ended.others;
      waits = ap (λ (z : View). z.counts.waits) over.ended.others;
    }

asked_left : (k : Shape) (c : CookieAt) (v : View) (answer : Ask) (now : CookieAt) (w : View) → IsOf k c v → Asked k c v answer now w
    → LeavesEnd (Some c) v w
asked_left k c v Over now w of asked = ⊎_elim
    (λ (before : (c.over ≡ true) × (w ≡ v)). same_left (Some c) v w before.1)
    (λ (ended : (c.over ≡ false) × IsLatest c v × IsOver k v w × FindsNone c.keys c.clock v w).
    ended_left k c v w of ended.0 ended.1 ended.2)
    asked.how
asked_left k c v (NotYet why) now w of asked =
    let e = (asked.3).looked.others in
    nothing_left (Some c) v w (further_by v w _ (asked.3).looked.makes refl) (ap (λ (z : View). z.allowance) e)
    (ap (λ (z : View). z.counts.waits) e) (ap (λ (z : View). z.seen) e)
asked_left k c v (GivenUp latest) now w of asked = same_left (Some c) v w asked.view

given_left : (c : CookieAt) (v : View) (answer : Ask) (now : CookieAt) (s : SeatAt) (left : Option CookieAt) (t : SeatAt)
    → GivesBy answer now s left t → LeavesEnd (Some c) v s.view → LeavesEnd (Some c) v t.view
given_left c v Over now s left t (most, n, many, is, gave, stays) before = first_left (Some c) v n s t gave before
given_left c v (NotYet why) now s left t gives before = subst (λ (z : SeatAt). LeavesEnd (Some c) v z.view) (sym gives.1) before
given_left c v (GivenUp latest) now s left t gives before = subst (λ (z : SeatAt). LeavesEnd (Some c) v z.view) (sym gives.1) before

-- the keeper was asked about, and what comes of it was done
pub answered_left : (k : Shape) (keeper : Option CookieAt) (c : CookieAt) (s : SeatAt) (answer : Ask) (now : CookieAt) (between : SeatAt)
    (left : Option CookieAt) (t : SeatAt) → keeper ≡ Some c → IsOf k c s.view → Asked k c s.view answer now between.view
    → GivesBy answer now between left t → LeavesEnd keeper s.view t.view
answered_left k keeper c s answer now between left t was of asked gives =
    subst (λ (o : Option CookieAt). LeavesEnd o s.view t.view) (sym was)
    (given_left c s.view answer now between left t gives (asked_left k c s.view answer now between.view of asked))

-- What becomes of both cookies.

-- the keeper that is left is one that was, but for its slots
pub left_keeper : (k : Shape) (c : CookieAt) (left : Option CookieAt) (t : SeatAt) → StaysFor c left → IsOf k c t.view → HasKept c t
    → c.keys ≡ everybody → HasKeeper k left t
left_keeper k c left t stays of kept keys = record {
  each = λ d e. ⊎_elim
      (λ (none : (c.slots ≡ 0) × (left ≡ None)). absurd (let f : None ≡ Some d = sym none.1 ∙ e in cc))
      (λ (some : (1 ≤ c.slots) × (left ≡ Some c)). let f : Some c ≡ Some d = sym some.1 ∙ e in let is : c ≡ d = cc in
      subst (λ (z : CookieAt). IsOf k z t.view × HasKept z t × (z.keys ≡ everybody)) is (of, kept, keys))
      stays;
}

pub left_apart : (c was : CookieAt) (left cookie : Option CookieAt) → StaysFor c left → c.count ≡ was.count
    → ((other : CookieAt) → cookie ≡ Some other → other.count ≢ was.count) → (d other : CookieAt) → left ≡ Some d → cookie ≡ Some other
    → other.count ≢ d.count
left_apart c was left cookie stays count apart d other e f = ⊎_elim
    (λ (none : (c.slots ≡ 0) × (left ≡ None)). absurd (let g : None ≡ Some d = sym none.1 ∙ e in cc))
    (λ (some : (1 ≤ c.slots) × (left ≡ Some c)). let g : Some c ≡ Some d = sym some.1 ∙ e in let is : c ≡ d = cc in
    λ same. apart other f (same ∙ ap (λ (z : CookieAt). z.count) (sym is) ∙ count))
    stays

-- the user's cookie beside the question, and beside the slots that went back
pub user_asked : (k : Shape) (c : CookieAt) (s : SeatAt) (answer : Ask) (now : CookieAt) (t : SeatAt) (cookie : Option CookieAt)
    → Asked k c s.view answer now t.view → t.listed ≡ s.listed → ((other : CookieAt) → cookie ≡ Some other → other.count ≢ c.count)
    → HasCookie k cookie s.view → HasCookie k cookie t.view
user_asked k c s answer now t cookie asked listed apart has = record {
  each = λ other e. (let was = has.each other e in (was.0, (others_stay k c s answer now t other asked listed (apart other e) was.1).0));
}

pub user_given : (k : Shape) (n : ℕ) (s t : SeatAt) (cookie : Option CookieAt) → GivesFirst n s t → HasCookie k cookie s.view
    → HasCookie k cookie t.view
user_given k n s t cookie gave has = record {
  each = λ other e. (let was = has.each other e in (was.0, waits_stay k other s.view t.view (gives_latest n s t gave) was.1));
}

-- the keeper after a question
pub keeper_asked : (k : Shape) (c now : CookieAt) (t : SeatAt) → IsSameCookie c now → IsOf k now t.view → HasKept now t → c.keys ≡ everybody
    → HasKeeper k (Some now) t
keeper_asked k c now t same of kept keys = record {
  each = λ d e. (let is : now ≡ d = cc in
      subst (λ (z : CookieAt). IsOf k z t.view × HasKept z t × (z.keys ≡ everybody)) is (of, kept, same_keys c now same ∙ keys));
}

-- both cookies after it
pub cookies_asked : (k : Shape) (c : CookieAt) (s : SeatAt) (answer : Ask) (now : CookieAt) (t : SeatAt) (cookie : Option CookieAt)
    → Asked k c s.view answer now t.view → t.listed ≡ s.listed → IsSameCookie c now → HasKeeper k (Some now) t
    → HasCookies k cookie (Some c) s → HasCookies k cookie (Some now) t
cookies_asked k c s answer now t cookie asked listed same keeper has = record {
  of_user = user_asked k c s answer now t cookie asked listed (λ other e. has.apart c other refl e) has.of_user;
  of_caller = keeper;
  apart = λ d other e f number. (let is : now ≡ d = cc in
      has.apart c other refl f (number ∙ ap (λ (z : CookieAt). z.count) (sym is) ∙ ap (λ (z : CookieAt). z.count) same));
}

-- where it was given up
pub cookies_given_up : (k : Shape) (c : CookieAt) (s : SeatAt) (latest : ℕ) (now : CookieAt) (t : SeatAt) (cookie : Option CookieAt)
    → Asked k c s.view (GivenUp latest) now t.view → t.listed ≡ s.listed → HasCookies k cookie (Some c) s → HasCookies k cookie None t
cookies_given_up k c s latest now t cookie asked listed has = record {
  of_user = user_asked k c s (GivenUp latest) now t cookie asked listed (λ other e. has.apart c other refl e) has.of_user;
  of_caller = record { each = λ d e. absurd (cc) };
  apart = λ d other e. absurd (cc);
}

-- and after slots went back
pub cookies_given : (k : Shape) (c now : CookieAt) (n : ℕ) (s t : SeatAt) (left cookie : Option CookieAt) → GivesFirst n s t → StaysFor now left
    → now.count ≡ c.count → HasKeeper k left t → HasCookies k cookie (Some c) s → HasCookies k cookie left t
cookies_given k c now n s t left cookie gave stays count keeper has = record {
  of_user = user_given k n s t cookie gave has.of_user;
  of_caller = keeper;
  apart = left_apart now c left cookie stays count (λ other e. has.apart c other refl e);
}

-- The keeper beside a question about the user's cookie, which is kept or not.
pub cookies_polled : (k : Shape) (user : CookieAt) (s : SeatAt) (answer : Ask) (now : CookieAt) (t : SeatAt) (left keeper : Option CookieAt)
    → Asked k user s.view answer now t.view → t.listed ≡ s.listed → IsSameCookie user now → HasCookie k left t.view
    → (left ≡ None) ⊎ (left ≡ Some now) → HasCookies k (Some user) keeper s → HasCookies k left keeper t
cookies_polled k user s answer now t left keeper asked listed same of_user stays has = record {
  of_user = of_user;
  of_caller = record {
    each = λ c e. (let was = has.of_caller.each c e in
        let apart : c.count ≢ user.count = (λ number. has.apart c user e refl (sym number)) in
        let still = others_stay k user s answer now t c asked listed apart was.0 in (still.0, still.1 was.1, was.2));
  };
  apart = λ c other e f number. ⊎_elim
      (λ (none : left ≡ None). absurd (let g : None ≡ Some other = sym none ∙ f in cc))
      (λ (some : left ≡ Some now). let g : Some now ≡ Some other = sym some ∙ f in let is : now ≡ other = cc in
      has.apart c user e refl (sym (ap (λ (z : CookieAt). z.count) same) ∙ ap (λ (z : CookieAt). z.count) is ∙ number))
      stays;
}

-- Whether the user's cookie is of the latest wait.
pub none_latest : (cookie : Option CookieAt) (v : View) → cookie ≡ None → HasLatest cookie v → ⊥
none_latest cookie v none (c, is, count) = absurd (let e : None ≡ Some c = sym none ∙ is in cc)

pub latest_since : (cookie : Option CookieAt) (d : CookieAt) (v : View) (since : ℕ) → cookie ≡ Some d → d.count + since ≡ v.counts.waits
    → HasLatest cookie v → since ≡ 1
latest_since cookie d v since is apart (c, there, count) =
    let same : Some c ≡ Some d = sym there ∙ is in
    let one : c ≡ d = cc in
    let number = ap (λ (z : CookieAt). z.count) one in omega (arith, number, apart, count)

-- what was started before is earlier than the waits of the place
pub user_earlier : (k : Shape) (cookie : Option CookieAt) (v : View) (c : CookieAt) → HasCookie k cookie v → cookie ≡ Some c
    → c.count < v.counts.waits
user_earlier k cookie v c has is = (has.each c is).1.begun

-- A place that last found some slot free found none free in no way.

pub some_free : (s : SeatAt) (seen : ℕ) → IsLastFound s.table.slots seen s.view.latest.free → nat_eq seen 0 ≡ false → FoundNoneFree s → ⊥
some_free s seen found some none = eqb-false seen 0 some (none seen found)

pub not_enough : (s : SeatAt) (seen : ℕ) → IsLastFound s.table.slots seen s.view.latest.free → nat_eq seen 0 ≡ false
    → (many_kept s.table.room ≤ length s.listed → ⊥) → AreEnough s → ⊥
not_enough s seen found some few enough = ⊎_elim few (λ (none : (1 ≤ length s.listed) × FoundNoneFree s). some_free s seen found some none.1) enough

pub not_lacking : (s : SeatAt) (seen : ℕ) → IsLastFound s.table.slots seen s.view.latest.free → nat_eq seen 0 ≡ false
    → (s.table.room ≤ length s.listed + 1 → ⊥) → LacksSlots s → ⊥
not_lacking s seen found some room lacks =
    ⊎_elim room (λ (none : (s.view.hands.spare ≡ None) × FoundNoneFree s). some_free s seen found some none.1) lacks

-- The slots of a keeper that is over: they stay for inserts, and an insert uses one again.
use Rattle.std.proofs.Common.{◌≡◌, ◌≢◌, ◌==◌, ℕ, zero, suc, ◌+◌, ◌-◌, ◌<◌, ◌≤◌, ◌⊎◌, true, false, Bool, not, min, if◌then◌else◌, List, [], ◌∷◌, ◌++◌, length, map, Option, Some, None, inl, inr, refl, sym, ap, subst, ◌∙◌, ⊎_elim, arith, append-nil, eq-eqb, ne_eqb, length-append}
use mathlib.Core.List.{IsPrefix}
use mathlib.Core.Option.{some, some-injective}
use lib.ListN.{get_elem?}
use Rattle.std.specs.Option.{is_some}
use Rattle.std.proofs.Math.Dec.{ltb}
use Rattle.std.proofs.lemmas.Bool.{cases_eq, eqb-false, ltb-true, ltb-false}
use Rattle.atomic_table.proofs.Lists.{at_map}
use Rattle.prcu_model.specs.declared.operation.Op.{Op}
use Rattle.prcu_model.specs.declared.operation.Told.{Told}
use Rattle.core_state.specs.declared.shape.Shape.{Shape}
use Rattle.core_state.specs.declared.view.Held.{Held}
use Rattle.core_state.specs.declared.view.Retired.{Retired}
use Rattle.core_state.specs.declared.view.View.{View}
use Rattle.core_state.specs.Views.{IsQuiet, held_list}
use Rattle.list_laws.specs.Counts.{IsIn}
use Rattle.seat_table.specs.Seats.{SeatAt, shape_of, unlisted}
use Rattle.seat_table.proofs.Seats.{unlisted_here, unlisted_other}
use Rattle.node_slots.specs.Reclaiming.{IsReady, LeavesEach, first_of, first_spare, return_marks}
use Rattle.citrus_tree.specs.declared.insert.Reuse.{Reuse}
use Rattle.citrus_tree.specs.Going.{GivesNoneBack, KeepsSeat, KeepsSeatBy, KeepsSlots, KeepsSlotsBy, MayUse, UsesSlot, retired_marks, without_mark}
use Rattle.citrus_tree.specs.Deletes.{GivesNoneOrAll, Removes}
use Rattle.citrus_tree.specs.declared.delete.Removed.{Removed}
use Rattle.grace_cookie.specs.declared.answers.Ask.TheVariants.{Over}
use Rattle.grace_cookie.specs.Cookies.{CookieAt, GivesFirst, HasKept, IsOf, KeepsLatest, StaysRetired, UsesListed, everybody, less_one}
use Rattle.grace_cookie.proofs.Keeping.{mark_of, marked_at, waits_stay}
use Rattle.grace_cookie.proofs.Using.{first, first_ready, is_first, used_stay}
use Rattle.tree_handles.specs.Callers.{if_over, CallerAt, KeepsKeeper, MayGoOn, StaysUnlessGone}
use Rattle.tree_handles.specs.Calls.{ComesBehind, MayServe}
use Rattle.tree_handles.specs.Keepers.{CanBegin, GoBackNow, HasCookie, HasCookies, HasKeeper, MakesWay, ServesInsert, StartsKeeper, StaysBehind, StaysFor, Tends, TendsTo, one_as_spare, slot_for}
use Rattle.tree_handles.proofs.Cookies.{called_latest, forgotten, gone_first, none_listed, seen_on, stayed_first, stays_good, without}
use Rattle.tree_handles.proofs.Keepers.{left_apart, left_keeper, same_left}
use Rattle.citrus_tree.specs.declared.delete.Removed.TheVariants as removal
use Rattle.citrus_tree.specs.declared.insert.Reuse.TheVariants as reuse

-- Where no slot goes back nothing is changed.

no_marks : (v : View) (o : Option Held) → LeavesEach v (return_marks (held_list o) []) v
no_marks v None = refl
no_marks v (Some held) = refl

same_spare : (o : Option Held) → held_list o ≡ first_spare (held_list o) []
same_spare None = refl
same_spare (Some held) = refl

none_given : (s : SeatAt) → GivesFirst 0 s s
none_given s = record {
  gives = record {
    steps = ([], append-nil s.view.trail.steps);
    marks = no_marks s.view s.view.hands.spare;
    spare = same_spare s.view.hands.spare;
    rest = refl;
  };
  listed = refl;
}

-- a keeper that is over, and whose slots stay, was asked about
pub rests : (k : Shape) (c : CookieAt) (s : SeatAt) → IsOf k c s.view → c.over ≡ true → 1 ≤ c.slots → GoBackNow s 0
    → TendsTo k (Some c) s (Some c) s
rests k c s of over least now = record {
  answer = Over;
  now = c;
  between = s;
  same = refl;
  asked = record { over = over; outlasted = of.outlasted over; how = inl (over, refl) };
  listed = refl;
  gives = (
    0,
    0,
    now,
    omega arith,
    none_given s,
    inr (let all : c.slots - 0 ≡ c.slots = omega arith in
        subst (λ n. (1 ≤ n) × (Some c ≡ Some (record c { slots = n }))) (sym all) (least, refl)),
  );
}

pub rests_some : (k : Shape) (keeper : Option CookieAt) (c : CookieAt) (s : SeatAt) → keeper ≡ Some c → HasKeeper k keeper s → c.over ≡ true
    → 1 ≤ c.slots → GoBackNow s 0 → TendsTo k keeper s keeper s
rests_some k keeper c s is has over least now = subst (λ (o : Option CookieAt). TendsTo k o s o s) (sym is)
    (rests k c s (has.each c is).0 over least now)

pub rests_none : (k : Shape) (keeper : Option CookieAt) (s : SeatAt) → keeper ≡ None → TendsTo k keeper s keeper s
rests_none k keeper s none = subst (λ (o : Option CookieAt). TendsTo k o s o s) (sym none) (refl, refl)

pub no_keeper : (keeper : Option CookieAt) (none : Bool) → is_some keeper ≡ not none → none ≡ true → keeper ≡ None
no_keeper None none there is = refl
no_keeper (Some c) none there is = absurd (let e : true ≡ false = there ∙ ap not is in cc)

-- one whose slots stay makes no way for a later one
pub stays_in_place : (keeper : Option CookieAt) (c : CookieAt) (s : SeatAt) → keeper ≡ Some c → length s.listed + 1 < s.table.room
    → MakesWay keeper s → ⊥
stays_in_place None c s is few makes = cc
stays_in_place (Some other) c s is few makes = let full = makes.full in absurd (omega (arith, few, full))

pub starts_none : (c : CallerAt) → MayGoOn c → (MakesWay c.keeper c.seat → ⊥) → StartsKeeper c c
starts_none c may stays = record {
  index = record { way = refl; table = refl; salt = refl; cookie = refl };
  begins = inl (λ (can : CanBegin c.keeper c.cookie c.seat). stays can.place, refl, refl);
  may = may;
}

pub tends_rest : (c : CallerAt) → MayGoOn c → TendsTo (shape_of c.way c.table) c.keeper c.seat c.keeper c.seat → Tends c c
tends_rest c may tends = record {
  index = record { way = refl; table = refl; salt = refl; cookie = refl };
  tends = tends;
  leaves = same_left c.keeper c.seat.view c.seat.view refl;
  may = may;
}

-- What an insert is told to use.

-- it serves an insert
pub record Serves (keeper : Option CookieAt) (s t : SeatAt) : Type 0 where
  pub c : CookieAt
  pub keeper_is : keeper ≡ Some c
  pub over : c.over ≡ true
  pub least : 1 ≤ c.slots
  pub slot : ℕ
  pub first : first_of s.listed ≡ Some slot
  pub uses : UsesSlot slot s t

-- An insert kept the slots, or the keeper served it.
abbrev pub KeepsOrServes : Option CookieAt → SeatAt → SeatAt → Type 0
KeepsOrServes keeper s t = KeepsSlots s t ⊎ Serves keeper s t

serves_if : (c : CookieAt) (slot : ℕ) (rest : List ℕ) (s t : SeatAt) → s.listed ≡ slot ∷ rest → (over none : Bool) → c.over ≡ over
    → (c.slots == 0) ≡ none → KeepsSlotsBy (if over then (if none then reuse.Free else reuse.Retired slot) else reuse.Free) s t
    → KeepsOrServes (Some c) s t
serves_if c slot rest s t listed false none is is_none kept = inl kept
serves_if c slot rest s t listed true true is is_none kept = inl kept
serves_if c slot rest s t listed true false is is_none kept = ⊎_elim
    (λ (keeps : KeepsSlots s t). inl keeps)
    (λ (uses : UsesSlot slot s t). inr (record {
      c = c;
      keeper_is = refl;
      over = is;
      least = let least = eqb-false c.slots 0 is_none in omega (arith, least);
      slot = slot;
      first = ap first_of listed;
      uses = uses;
    }))
    kept

pub keeps_or_serves : (keeper : Option CookieAt) (listed : List ℕ) (s t : SeatAt) → s.listed ≡ listed → KeepsSlotsBy (slot_for keeper listed) s t
    → KeepsOrServes keeper s t
keeps_or_serves None listed s t is kept = inl kept
keeps_or_serves (Some c) [] s t is kept = inl kept
keeps_or_serves (Some c) (slot ∷ rest) s t is kept = serves_if c slot rest s t is c.over (c.slots == 0) refl refl kept

-- The slot that it is told may be used.

may_if : (k : Shape) (c : CookieAt) (slot : ℕ) (rest : List ℕ) (s : SeatAt) → s.listed ≡ slot ∷ rest → IsOf k c s.view → HasKept c s
    → c.keys ≡ everybody → IsQuiet s.view → (over none : Bool) → c.over ≡ over → (c.slots == 0) ≡ none
    → MayUse (if over then (if none then reuse.Free else reuse.Retired slot) else reuse.Free) s.view
may_if k c slot rest s listed of kept keys quiet false none is is_none = tt
may_if k c slot rest s listed of kept keys quiet true true is is_none = tt
may_if k c slot rest s listed of kept keys quiet true false is is_none =
    let least : 1 ≤ c.slots = (let apart = eqb-false c.slots 0 is_none in omega (arith, apart)) in
    let same : (first c s is least kept).slot ≡ slot =
    (let e : Some (first c s is least kept).slot ≡ Some slot = sym (is_first c s is least kept) ∙ ap first_of listed in cc) in
    subst (IsReady s.view) same (first_ready c s is least kept keys quiet)

pub may_use : (k : Shape) (keeper : Option CookieAt) (listed : List ℕ) (s : SeatAt) → s.listed ≡ listed → HasKeeper k keeper s → IsQuiet s.view
    → MayUse (slot_for keeper listed) s.view
may_use k None listed s is has quiet = tt
may_use k (Some c) [] s is has quiet = tt
may_use k (Some c) (slot ∷ rest) s is has quiet = let one = has.each c refl in
    may_if k c slot rest s is one.0 one.1 one.2 quiet c.over (c.slots == 0) refl refl

-- Lengths tell whether it was used.

not_longer : (slot : ℕ) (xs : List ℕ) → length (unlisted slot xs) ≤ length xs
not_longer slot [] = omega arith
not_longer slot (x ∷ xs) = let less = not_longer slot xs in ⊎_elim
    (λ (e : x ≡ slot). (let gone = ap length (ap (λ y. unlisted slot (y ∷ xs)) e ∙ unlisted_here slot xs) in omega (arith, gone, less)))
    (λ (other : x ≢ slot). (let left = ap length (unlisted_other slot x xs other) in omega (arith, left, less)))
    (cases_eq x slot)

first_is : (xs : List ℕ) (slot : ℕ) → first_of xs ≡ Some slot → (rest : List ℕ) × (xs ≡ slot ∷ rest)
first_is [] slot e = cc
first_is (x ∷ rest) slot e = let same : x ≡ slot = (let f : Some x ≡ Some slot = e in cc) in (rest, ap (λ y. y ∷ rest) same)

pub serves_shorter : {keeper : Option CookieAt} {s t : SeatAt} → Serves keeper s t → length t.listed < length s.listed
serves_shorter {keeper} {s} {t} served =
    let is = first_is s.listed served.slot served.first in
    let left : length t.listed ≡ length (unlisted served.slot is.0) =
    ap length (served.uses.listed ∙ ap (unlisted served.slot) is.1 ∙ unlisted_here served.slot is.0) in
    let less = not_longer served.slot is.0 in
    let long = ap length is.1 in
    omega (arith, left, less, long)

pub keeps_longer : (s t : SeatAt) → GivesNoneBack s t → length s.listed ≤ length t.listed
keeps_longer s t none = let long = ap length none.listed.1 ∙ length-append s.listed none.listed.0 in omega (arith, long)

-- What a cookie's client sees of a slot that was used again.

mark_gone : (slot : ℕ) (x : ℕ × ℕ × Bool) (ms : List (ℕ × ℕ × Bool)) → x.0 ≡ slot → without_mark slot (x ∷ ms) ≡ without_mark slot ms
mark_gone slot x ms e = ap (λ b. if b then without_mark slot ms else x ∷ without_mark slot ms) (eq-eqb x.0 slot e)

mark_left : (slot : ℕ) (x : ℕ × ℕ × Bool) (ms : List (ℕ × ℕ × Bool)) → x.0 ≢ slot → without_mark slot (x ∷ ms) ≡ x ∷ without_mark slot ms
mark_left slot x ms ne = ap (λ b. if b then without_mark slot ms else x ∷ without_mark slot ms) (ne_eqb x.0 slot ne)

in_rest : (slot : ℕ) (x : ℕ × ℕ × Bool) (ms : List (ℕ × ℕ × Bool)) (m : ℕ × ℕ × Bool) → (IsIn ms m → IsIn (without_mark slot ms) m)
    → x.0 ≡ slot → m.0 ≢ slot → IsIn (x ∷ ms) m → IsIn (without_mark slot ms) m
in_rest slot x ms m again e apart (zero, f) = absurd (apart (ap (λ (y : ℕ × ℕ × Bool). y.0) (sym (some-injective x m f)) ∙ e))
in_rest slot x ms m again e apart (suc j, f) = again (j, f)

in_both : (slot : ℕ) (x : ℕ × ℕ × Bool) (ms : List (ℕ × ℕ × Bool)) (m : ℕ × ℕ × Bool) → (IsIn ms m → IsIn (without_mark slot ms) m)
    → IsIn (x ∷ ms) m → IsIn (x ∷ without_mark slot ms) m
in_both slot x ms m again (zero, f) = (0, f)
in_both slot x ms m again (suc j, f) = let there = again (j, f) in (suc there.0, there.1)

in_marks : (slot : ℕ) (ms : List (ℕ × ℕ × Bool)) (m : ℕ × ℕ × Bool) → m.0 ≢ slot → IsIn ms m → IsIn (without_mark slot ms) m
in_marks slot [] m apart there = there
in_marks slot (x ∷ ms) m apart there = ⊎_elim
    (λ (e : x.0 ≡ slot). subst (λ l. IsIn l m) (sym (mark_gone slot x ms e)) (in_rest slot x ms m (in_marks slot ms m apart) e apart there))
    (λ (other : x.0 ≢ slot). subst (λ l. IsIn l m) (sym (mark_left slot x ms other)) (in_both slot x ms m (in_marks slot ms m apart) there))
    (cases_eq x.0 slot)

pub uses_listed : (slot : ℕ) (s t : SeatAt) → KeepsLatest s.view t.view → UsesSlot slot s t → UsesListed slot s t
uses_listed slot s t latest uses = record {
  latest = latest;
  others = λ r there apart.
      (let here = in_marks slot (retired_marks s.view) (mark_of r) apart
      (there.0, at_map mark_of s.view.hands.retired there.0 r there.1) in
      let now = marked_at t.view.hands.retired here.0 (mark_of r) (ap (λ l. get_elem? l here.0) uses.retired ∙ here.1) in (
        now.0,
        (here.0, now.1),
        (
          ap (λ (x : ℕ × ℕ × Bool). x.0) now.2,
          ap (λ (x : ℕ × ℕ × Bool). x.1) now.2,
          λ yes. ap (λ (x : ℕ × ℕ × Bool). x.2) now.2 ∙ yes,
        ),
      ));
  listed = uses.listed;
}

-- What an insert leaves of both cookies.
module _ {n : ℕ} {chosen : Reuse} {keeper : Option CookieAt} (s t : SeatAt) (keeps : KeepsSeatBy n chosen s t) (how : KeepsOrServes keeper s t) where
  pub put_latest : KeepsLatest s.view t.view
  put_latest = record {
    place = ap (λ a. a.place) keeps.allowance.rest;
    seen = seen_on keeps.wait;
    waits = ⊎_elim (λ (kept : KeepsSlots s t). kept.waits)
        (λ (served : Serves keeper s t). (let same = served.uses.waits in omega (arith, same))) how;
    wait = λ same. ⊎_elim (λ (kept : KeepsSlots s t). kept.wait same) (λ (served : Serves keeper s t). served.uses.wait) how;
  }

  -- the keeper served it
  module _ {k : Shape} {cookie left : Option CookieAt} (served : Serves keeper s t) (stays : StaysFor (less_one served.c) left)
      (has : HasCookies k cookie keeper s) where
    pub cookies_served : HasCookies k cookie left t
    cookies_served =
        let with_it = subst (λ (o : Option CookieAt). HasCookies k cookie o s) served.keeper_is has in
        let one = with_it.of_caller.each served.c refl in
        let still = used_stay k served.c served.slot s t served.over served.least served.first
        (uses_listed served.slot s t put_latest served.uses) one.0 one.1 in record {
          of_user = record {
            each = λ c e. (let was = has.of_user.each c e in (was.0, waits_stay k c s.view t.view put_latest was.1));
          };
          of_caller = left_keeper k (less_one served.c) left t stays still.0 still.1 one.2;
          apart = left_apart (less_one served.c) served.c left cookie stays refl (λ other e. with_it.apart served.c other refl e);
        }

  -- What the code finds out: whether a wait was begun, and whether a slot is missing.
  module _ {forgot left : Option CookieAt} (gone used : Bool) (forgets : gone ≡ true → forgot ≡ None) (keeps_on : gone ≡ false → forgot ≡ keeper)
      (no_wait : gone ≡ false → t.view.counts.waits ≡ s.view.counts.waits)
      (missing : used ≡ true → length t.listed < length s.listed) (all_there : used ≡ false → length s.listed ≤ length t.listed)
      (counts : (c : CookieAt) → forgot ≡ Some c → used ≡ true → 1 ≤ c.slots → StaysFor (less_one c) left) (none : forgot ≡ None → left ≡ None)
      (same : used ≡ false → left ≡ forgot) where
    was_used : (served : Serves keeper s t) (b : Bool) → used ≡ b → used ≡ true
    was_used served true e = e
    was_used served false e = absurd (let more = all_there e in let less = serves_shorter served in omega (arith, more, less))

    wasnt_used : KeepsSlots s t → gone ≡ false → (b : Bool) → used ≡ b → used ≡ false
    wasnt_used kept still false e = e
    wasnt_used kept still true e = absurd (let less = missing e in let longer = keeps_longer s t (kept.slots (no_wait still)) in
        omega (arith, less, longer))

    served_left : gone ≡ false → (served : Serves keeper s t) → StaysFor (less_one served.c) left
    served_left still served = counts served.c (keeps_on still ∙ served.keeper_is) (was_used served used refl) served.least

    kept_left : gone ≡ false → KeepsSlots s t → left ≡ keeper
    kept_left still kept = same (wasnt_used kept still used refl) ∙ keeps_on still

    cookies_by : {k : Shape} {cookie : Option CookieAt} (b : Bool) → gone ≡ b → HasCookies k cookie keeper s → HasCookies k cookie left t
    cookies_by {k} {cookie} true e has =
        subst (λ (o : Option CookieAt). HasCookies k cookie o t) (sym (none (forgets e))) (forgotten put_latest has)
    cookies_by {k} {cookie} false e has = ⊎_elim
        (λ (kept : KeepsSlots s t). subst (λ (o : Option CookieAt). HasCookies k cookie o t) (sym (kept_left e kept))
        (stays_good put_latest (none_listed s t (kept.slots (no_wait e))) has))
        (λ (served : Serves keeper s t). cookies_served served (served_left e served) has)
        how

    pub cookies_put : {k : Shape} {cookie : Option CookieAt} → HasCookies k cookie keeper s → HasCookies k cookie left t
    cookies_put has = cookies_by gone refl has

    keeper_by : (gone ≡ true → s.view.counts.waits < t.view.counts.waits) → (b : Bool) → gone ≡ b
        → StaysUnlessGone keeper s left t ⊎ ServesInsert keeper left
    keeper_by later true e = inl (inr (none (forgets e), later e))
    keeper_by later false e = ⊎_elim
        (λ (kept : KeepsSlots s t). inl (inl (kept_left e kept)))
        (λ (served : Serves keeper s t). inr (record {
          c = served.c;
          keeper_is = served.keeper_is;
          over = served.over;
          some = served.least;
          stays = served_left e served;
        }))
        how

    pub keeper_put : (gone ≡ true → s.view.counts.waits < t.view.counts.waits) → StaysUnlessGone keeper s left t ⊎ ServesInsert keeper left
    keeper_put later = keeper_by later gone refl

-- lengths, by what the code compares
pub shorter_by : {xs ys : List ℕ} (zs ws : List ℕ) → zs ≡ xs → ws ≡ ys → ltb (length zs) (length ws) ≡ true → length xs < length ys
shorter_by {xs} {ys} zs ws first second less =
    let a = ltb-true (length zs) (length ws) less in let b = ap length first in let d = ap length second in omega (arith, a, b, d)

pub longer_by : {xs ys : List ℕ} (zs ws : List ℕ) → zs ≡ xs → ws ≡ ys → ltb (length zs) (length ws) ≡ false → length ys ≤ length xs
longer_by {xs} {ys} zs ws first second less =
    let a = ltb-false (length zs) (length ws) less in let b = ap length first in let d = ap length second in omega (arith, a, b, d)

-- what becomes of a caller's keeper
pub may_serve : {b c d : CallerAt} → b ≡ c → (d.lost ≡ false → StaysUnlessGone b.keeper b.seat d.keeper d.seat ⊎ ServesInsert b.keeper d.keeper)
    → MayServe c d
may_serve {d = d} is stays = record {
  kept = λ kept. subst (λ (z : CallerAt). StaysUnlessGone z.keeper z.seat d.keeper d.seat ⊎ ServesInsert z.keeper d.keeper) is (stays kept);
}

-- and what the lift behind it does
pub served_behind : {op : Op} {told : Told} {keeper : Option CookieAt} {mid d : CallerAt} (s : SeatAt)
    → StaysUnlessGone keeper s mid.keeper mid.seat ⊎ ServesInsert keeper mid.keeper → s.view.counts.waits ≤ mid.seat.view.counts.waits
    → KeepsKeeper mid d → ComesBehind op told mid.seat d → d.lost ≡ false
    → StaysUnlessGone keeper s d.keeper d.seat ⊎ ServesInsert keeper d.keeper
served_behind {op} {told} {keeper} {mid} {d} s first least second behind kept = ⊎_elim
    (λ (stays : StaysUnlessGone keeper s mid.keeper mid.seat). inl (⊎_elim
    (λ (still : mid.keeper ≡ keeper). stayed_first op told keeper s mid d least second behind kept still)
    (λ (none : (mid.keeper ≡ None) × (s.view.counts.waits < mid.seat.view.counts.waits)).
    gone_first op told keeper s mid d least second behind kept none.0 none.1)
    stays))
    (λ (serves : ServesInsert keeper mid.keeper). ⊎_elim
    (λ (still : d.keeper ≡ mid.keeper). inr (subst (ServesInsert keeper) (sym still) serves))
    (λ (gone : (d.keeper ≡ None) × (mid.seat.view.counts.waits < d.seat.view.counts.waits)). inl (inr (
      gone.0,
      let more = gone.1 in omega (arith, least, more),
    )))
    (second.kept kept))
    first

-- What a remove leaves of both.

pub removed_slots : (k : Shape) (s t : SeatAt) (key : ℕ) (expected : Option ℕ) (answer : Removed) → Removes k s key expected answer t
    → GivesNoneOrAll s t
removed_slots k s t key expected (removal.Gone number value) r = r.0.slots
removed_slots k s t key expected (removal.Differs found) r = r.0.slots
removed_slots k s t key expected removal.Absent r = r.slots

pub cookies_removed : {k : Shape} {cookie : Option CookieAt} {n : ℕ} (waits : ℕ) (keeper : Option CookieAt) (s t : SeatAt) (left : Option CookieAt)
    → waits ≡ s.view.counts.waits → KeepsSeat n s t → GivesNoneOrAll s t → StaysBehind waits keeper t left → HasCookies k cookie keeper s
    → HasCookies k cookie left t
cookies_removed {k} {cookie} {n} waits keeper s t left were keeps slots behind has = ⊎_elim
    (λ (stays : (left ≡ keeper) × ((t.view.counts.waits ≡ waits) ⊎ (3 ≤ length t.listed))).
    subst (λ (o : Option CookieAt). HasCookies k cookie o t) (sym stays.0) (stays_good (called_latest keeps) (none_listed s t (none_back stays.1)) has))
    (λ (gone : (left ≡ None) × (t.view.counts.waits ≢ waits)). subst (λ (o : Option CookieAt). HasCookies k cookie o t) (sym gone.0)
    (forgotten (called_latest keeps) has))
    behind
  where
    none_back : (t.view.counts.waits ≡ waits) ⊎ (3 ≤ length t.listed) → GivesNoneBack s t
    none_back (inl same) = keeps.slots.slots (same ∙ were)
    none_back (inr many) = ⊎_elim (λ (none : GivesNoneBack s t). none)
        (λ (few : length t.listed ≤ 2). absurd (omega (arith, many, few))) slots

pub keeper_removed : {n : ℕ} (waits : ℕ) (keeper : Option CookieAt) (s t : SeatAt) (left : Option CookieAt) → waits ≡ s.view.counts.waits
    → KeepsSeat n s t → StaysBehind waits keeper t left → StaysUnlessGone keeper s left t
keeper_removed waits keeper s t left were keeps behind = ⊎_elim
    (λ (stays : (left ≡ keeper) × ((t.view.counts.waits ≡ waits) ⊎ (3 ≤ length t.listed))). inl stays.0)
    (λ (gone : (left ≡ None) × (t.view.counts.waits ≢ waits)). inr (
      gone.0,
      let more = keeps.slots.waits in let other = gone.1 in omega (arith, more, other, were),
    ))
    behind

-- What stays of a keeper beside a wait of the user is good.
if_good : {k : Shape} {cookie : Option CookieAt} {s : SeatAt} (c : CookieAt) (over : Bool) → HasCookies k cookie (Some c) s
    → HasCookies k cookie (if over then Some c else None) s
if_good c true has = has
if_good c false has = without has

over_good : {k : Shape} {cookie : Option CookieAt} {s : SeatAt} (keeper : Option CookieAt) → HasCookies k cookie keeper s
    → HasCookies k cookie (if_over keeper) s
over_good None has = has
over_good (Some c) has = if_good c c.over has

pub still_good : {k : Shape} {cookie : Option CookieAt} {s : SeatAt} (keeper left : Option CookieAt) → left ≡ if_over keeper
    → HasCookies k cookie keeper s → HasCookies k cookie left s
still_good {k} {cookie} {s} keeper left is has = subst (λ (o : Option CookieAt). HasCookies k cookie o s) (sym is) (over_good keeper has)

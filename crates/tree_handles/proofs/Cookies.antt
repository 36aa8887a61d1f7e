-- A caller's cookies beside its calls: they stay good, and the keeper is forgotten only where its slots may have gone back.
use Rattle.std.proofs.Common.{◌≤◌, ◌<◌, refl, inl, ◌≡◌, ℕ, ◌+◌, inr, arith, subst, sym, ◌∙◌, true, false, Bool, List, [], Option, Some, None, ap, ⊎_elim, append-nil, nat_eq, not, Result, Ok}
use Rattle.prcu_model.specs.declared.operation.Op.{Op}
use Rattle.prcu_model.specs.declared.operation.Told.{Told}
use Rattle.tree_handles.specs.Callers.{CallerAt, KeepsKeeper, StaysUnlessGone}
use Rattle.tree_handles.specs.Calls.{ComesBehind}
use Rattle.core_state.specs.declared.view.View.{View}
use Rattle.seat_table.specs.Seats.{SeatAt}
use Rattle.core_state.specs.declared.shape.Shape.{Shape}
use mathlib.Core.List.{IsPrefix}
use Rattle.prcu_model.proofs.ListFacts.{prefix_trans}
use Rattle.core_state.specs.declared.view.StepMade.{StepMade}
use Rattle.core_state.specs.Steps.{first_of}
use Rattle.seat_table.specs.Sections.{HasBegun, HasEntered, HasLeft}
use Rattle.seat_table.specs.Waits.{HasWaited}
use Rattle.seat_table.proofs.SeveralSteps.{seen_more}
use Rattle.node_slots.specs.Reclaiming.{HasReclaimed}
use Rattle.citrus_tree.specs.Going.{GivesNoneBack, HasBegunNone, HasBegunFirst, KeepsWait, KeepsSeat}
use Rattle.citrus_tree.specs.Lookups.{HoldsOrNot, IsHolding, Looked}
use Rattle.citrus_tree.proofs.Leavings.{goes_looked}
use Rattle.exact_list.specs.Loads.{HasListed, HasListedAfterTries, HasListedAlone, HasListedByTry}
use Rattle.exact_list.specs.Tries.{Try, HasGivenWay, HasTried}
use Rattle.grace_cookie.specs.Cookies.{CookieAt, KeepsLatest, HasKept, IsOf, KeepsListed, everybody}
use Rattle.grace_cookie.proofs.Keeping.{waits_stay, keeps_latest, begins_later, waits_later, cookies_stay, listed_all, stay_retired}
use Rattle.grace_cookie.proofs.Giving.{begun_latest, begun_listed, waited_listed}
use Rattle.tree_handles.specs.Keepers.{HasCookies}
use Rattle.std.proofs.lemmas.Bool.{eqb-true, eqb-false}
use Rattle.std.proofs.lemmas.Result.{IfOk-at_ok}
use Rattle.std.specs.Prelude.{IfOk}

-- A caller's cookies stay good over its calls.

-- what the seat had seen it has seen still
seen_first : {v w : View} → HasBegunFirst v w → IsPrefix v.seen w.seen
seen_first {v} {w} first = prefix_trans v.seen (first.before).seen w.seen (first.none).seen
    (prefix_trans (first.before).seen (first.after).seen w.seen (seen_more first.before first.after _ (first.begun).leaves) first.seen)

pub seen_on : {v w : View} → KeepsWait v w → IsPrefix v.seen w.seen
seen_on {v} {w} wait = ⊎_elim (λ (none : HasBegunNone v w). none.seen) (λ (first : HasBegunFirst v w). seen_first first) wait

-- a call of the tree keeps the latest wait, and where it gives none back the listed slots
pub called_latest : {n : ℕ} {s t : SeatAt} → KeepsSeat n s t → KeepsLatest s.view t.view
called_latest keeps = record {
  place = ap (λ a. a.place) keeps.allowance.rest;
  seen = seen_on keeps.wait;
  waits = keeps.slots.waits;
  wait = keeps.slots.wait;
}

pub none_listed : (s t : SeatAt) → GivesNoneBack s t → KeepsListed s t
none_listed s t none = record { retired = stay_retired s.view t.view none.retired.0 none.retired.1; listed = none.listed }

module _ {k : Shape} {cookie : Option CookieAt} where
  pub stays_good : {keeper : Option CookieAt} {s t : SeatAt} → KeepsLatest s.view t.view → KeepsListed s t → HasCookies k cookie keeper s
      → HasCookies k cookie keeper t
  stays_good {keeper} {s} {t} latest listed has = record {
    of_user = record { each = λ c e. (let was = has.of_user.each c e in (was.0, waits_stay k c s.view t.view latest was.1)) };
    of_caller = record {
      each = λ c e. (let was = has.of_caller.each c e in
          let now = cookies_stay k c s t (record { latest = latest; slots = λ _. listed }) (λ _. listed) was.0 was.1 in (now.0, now.1, was.2));
    };
    apart = has.apart;
  }

  -- the keeper is forgotten
  pub forgotten : {keeper : Option CookieAt} {s t : SeatAt} → KeepsLatest s.view t.view → HasCookies k cookie keeper s → HasCookies k cookie None t
  forgotten {keeper} {s} {t} latest has = record {
    of_user = record { each = λ c e. (let was = has.of_user.each c e in (was.0, waits_stay k c s.view t.view latest was.1)) };
    of_caller = record { each = λ c e. absurd (cc) };
    apart = λ c other e. absurd (cc);
  }

  -- where there is no keeper any more
  pub without : {keeper : Option CookieAt} {t : SeatAt} → HasCookies k cookie keeper t → HasCookies k cookie None t
  without has = record {
    of_user = has.of_user;
    of_caller = record { each = λ c e. absurd (cc) };
    apart = λ c other e. absurd (cc);
  }

  -- ---- calls of the tree

  -- the keeper is forgotten where slots may have gone back
  pub cookies_unless : {n : ℕ} {keeper left : Option CookieAt} {s t : SeatAt} → KeepsSeat n s t → (gone : Bool) → (gone ≡ true → left ≡ None)
      → (gone ≡ false → left ≡ keeper) → (gone ≡ false → GivesNoneBack s t) → HasCookies k cookie keeper s → HasCookies k cookie left t
  cookies_unless {s = s} {t = t} keeps true none same back has =
      subst (λ (o : Option CookieAt). HasCookies k cookie o t) (sym (none refl)) (forgotten (called_latest keeps) has)
  cookies_unless {s = s} {t = t} keeps false none same back has =
      subst (λ (o : Option CookieAt). HasCookies k cookie o t) (sym (same refl))
      (stays_good (called_latest keeps) (none_listed s t (back refl)) has)

  pub cookies_looked : {keeper : Option CookieAt} {s t : SeatAt} {key : ℕ} {answer : Option ℕ} → Looked s.view key answer t.view
      → t.listed ≡ s.listed → HasCookies k cookie keeper s → HasCookies k cookie keeper t
  cookies_looked {s = s} {t = t} looked listed has =
      let goes = goes_looked looked in
      stays_good (keeps_latest s.view t.view goes.advanced.same goes.advanced.begins goes.waits goes.wait)
      (listed_all s t goes.retired listed) has

  -- ---- sections

  pub cookies_entered : {keeper : Option CookieAt} {s t : SeatAt} {key : ℕ} → HasEntered s.view key t.view → t.listed ≡ s.listed
      → HasCookies k cookie keeper s → HasCookies k cookie keeper t
  cookies_entered {s = s} {t = t} e listed has = stays_good (keeps_latest s.view t.view (ap (λ (z : View). z.allowance.place) e.others)
      (seen_more s.view t.view _ e.leaves) (ap (λ (z : View). z.counts.waits) e.others) (ap (λ (z : View). z.wait) e.others))
      (listed_all s t (ap (λ (z : View). z.hands.retired) e.others) listed) has

  pub cookies_left : {keeper : Option CookieAt} {s t : SeatAt} → HasLeft s.view t.view → t.listed ≡ s.listed → HasCookies k cookie keeper s
      → HasCookies k cookie keeper t
  cookies_left {s = s} {t = t} e listed has = stays_good (keeps_latest s.view t.view (ap (λ (z : View). z.allowance.place) e.others)
      (seen_more s.view t.view _ e.leaves) (ap (λ (z : View). z.counts.waits) e.others) (ap (λ (z : View). z.wait) e.others))
      (listed_all s t (ap (λ (z : View). z.hands.retired) e.others) listed) has

  cookies_holding : {keeper : Option CookieAt} {s t : SeatAt} {key value : ℕ} → IsHolding s.view key value t.view → t.listed ≡ s.listed
      → HasCookies k cookie keeper s → HasCookies k cookie keeper t
  cookies_holding {s = s} {t = t} holding listed has =
      let found = holding.found in
      let e = found.others in
      let entered : SeatAt = record s { view = found.entry } in
      stays_good {s = entered} (keeps_latest found.entry t.view (ap (λ (z : View). z.allowance.place) e)
      ([], append-nil (found.entry).seen ∙ sym (ap (λ (z : View). z.seen) e)) (ap (λ (z : View). z.counts.waits) e)
      (ap (λ (z : View). z.wait) e)) (listed_all entered t (ap (λ (z : View). z.hands.retired) e) listed)
      (cookies_entered {s = s} {t = entered} found.entered refl has)

  pub cookies_held : {keeper : Option CookieAt} {s t : SeatAt} (key : ℕ) (answer : Option ℕ) → HoldsOrNot s.view key answer t.view
      → t.listed ≡ s.listed → HasCookies k cookie keeper s → HasCookies k cookie keeper t
  cookies_held key (Some value) holding listed has = cookies_holding holding listed has
  cookies_held key None looked listed has = cookies_looked looked listed has

  -- ---- lists, waits and shares

  cookies_tried : {keeper : Option CookieAt} {s t : SeatAt} {key : ℕ} {tries : List Try} → HasTried s.view key tries t.view
      → t.listed ≡ s.listed → HasCookies k cookie keeper s → HasCookies k cookie keeper t
  cookies_tried {s = s} {t = t} e listed has = stays_good (keeps_latest s.view t.view (ap (λ (z : View). z.allowance.place) e.others) e.seen
      (ap (λ (z : View). z.counts.waits) e.others) (ap (λ (z : View). z.wait) e.others))
      (listed_all s t (ap (λ (z : View). z.hands.retired) e.others) listed) has

  -- the front was taken, or given back
  cookies_front : {keeper : Option CookieAt} {s t : SeatAt} → t.view.allowance ≡ s.view.allowance → t.view.seen ≡ s.view.seen
      → t.view.counts ≡ s.view.counts → t.view.wait ≡ s.view.wait → t.view.hands ≡ s.view.hands → t.listed ≡ s.listed
      → HasCookies k cookie keeper s → HasCookies k cookie keeper t
  cookies_front {s = s} {t = t} allowance seen counts wait hands listed has =
      stays_good (keeps_latest s.view t.view (ap (λ a. a.place) allowance)
      ([], append-nil s.view.seen ∙ sym seen) (ap (λ c. c.waits) counts) wait) (listed_all s t (ap (λ h. h.retired) hands) listed) has

  cookies_alone : {keeper : Option CookieAt} {s t : SeatAt} {key front : ℕ} {walk : List StepMade → Type 0}
      → HasListedAlone s.view key front walk t.view → t.listed ≡ s.listed → HasCookies k cookie keeper s → HasCookies k cookie keeper t
  cookies_alone {s = s} {t = t} a listed has =
      let takes = a.takes.others in
      let gives = a.gives.others in
      let holding : SeatAt = record s { view = a.holding } in
      let tried : SeatAt = record s { view = a.listed } in
      cookies_front {s = tried} {t = t} (ap (λ (z : View). z.allowance) gives) (ap (λ (z : View). z.seen) gives)
      (ap (λ (z : View). z.counts) gives) (ap (λ (z : View). z.wait) gives) (ap (λ (z : View). z.hands) gives) listed
      (cookies_tried {s = holding} {t = tried} a.tried refl
      (cookies_front {s = s} {t = holding} (ap (λ (z : View). z.allowance) takes) (ap (λ (z : View). z.seen) takes)
      (ap (λ (z : View). z.counts) takes) (ap (λ (z : View). z.wait) takes) (ap (λ (z : View). z.hands) takes) refl has))

  pub cookies_listed : {keeper : Option CookieAt} {s t : SeatAt} {key front most : ℕ} {walk : List StepMade → Type 0}
      → HasListed s.view key front most walk t.view → t.listed ≡ s.listed → HasCookies k cookie keeper s → HasCookies k cookie keeper t
  cookies_listed {s = s} {t = t} {key} {front} {most} {walk} came listed has = ⊎_elim
      (λ (x : HasListedByTry s.view key front most t.view). cookies_tried x.tried listed has)
      (λ (x : HasListedAfterTries s.view key front most walk t.view). cookies_alone {s = record s { view = x.failed }} x.alone listed
      (cookies_tried {s = s} {t = record s { view = x.failed }} x.tried refl has)) came

  pub cookies_gave_way : {keeper : Option CookieAt} {s t : SeatAt} {key most : ℕ} → HasGivenWay s.view key most t.view
      → t.listed ≡ s.listed → HasCookies k cookie keeper s → HasCookies k cookie keeper t
  cookies_gave_way {s = s} {t = t} {key} {most} gave listed has =
      let lost = gave.lost.others in
      let failed : SeatAt = record s { view = gave.failed } in
      cookies_front {s = failed} {t = t} (ap (λ (z : View). z.allowance) lost) (ap (λ (z : View). z.seen) lost)
      (ap (λ (z : View). z.counts) lost) (ap (λ (z : View). z.wait) lost) (ap (λ (z : View). z.hands) lost) listed
      (cookies_tried {s = s} {t = failed} gave.tried refl has)

  pub cookies_waited : {keeper : Option CookieAt} {other : Shape} {s t : SeatAt} {low high : ℕ} → HasWaited other s.view low high t.view
      → t.listed ≡ s.listed → HasCookies k cookie keeper s → HasCookies k cookie keeper t
  cookies_waited {other = other} {s = s} {t = t} {low} {high} waited listed has =
      stays_good (waits_later other s.view t.view low high waited) (waited_listed other s t low high waited listed) has

  pub cookies_shared : {keeper : Option CookieAt} {s t : SeatAt} (handles tickets : ℕ) → t.view ≡ first_of handles tickets s.view
      → t.listed ≡ s.listed → HasCookies k cookie keeper s → HasCookies k cookie keeper t
  cookies_shared {s = s} {t = t} handles tickets e listed has = stays_good (keeps_latest s.view t.view (ap (λ (z : View). z.allowance.place) e)
      ([], append-nil s.view.seen ∙ sym (ap (λ (z : View). z.seen) e)) (ap (λ (z : View). z.counts.waits) e)
      (ap (λ (z : View). z.wait) e)) (listed_all s t (ap (λ (z : View). z.hands.retired) e) listed) has

  -- ---- slots given back

  pub cookies_reclaimed : {keeper : Option CookieAt} {other : Shape} {s t : SeatAt} {listed : List ℕ} → HasReclaimed other s.view listed t.view
      → HasCookies k cookie keeper s → HasCookies k cookie None t
  cookies_reclaimed {s = s} {t = t} back has = forgotten (begins_later s.view t.view (ap (λ (z : View). z.allowance.place) back.rest) back.seen
      (let more : t.view.counts.waits ≡ s.view.counts.waits + 1 = ap (λ (z : View). z.counts.waits) back.rest in omega arith)) has

  -- ---- cookies that are begun

  -- the user's
  pub cookies_begun : {keeper : Option CookieAt} {s t : SeatAt} {low high : ℕ} (new : CookieAt) → HasBegun s.view low high t.view
      → t.listed ≡ s.listed → new.over ≡ false → new.count ≡ s.view.counts.waits → IsOf k new t.view → HasCookies k cookie keeper s
      → HasCookies k (Some new) keeper t
  cookies_begun {keeper} {s} {t} {low} {high} new begun listed going count of has =
      let now = stays_good {keeper = keeper} (begun_latest s.view t.view low high begun) (begun_listed s t low high begun listed) has in record {
        of_user = record { each = λ c e. (let is : new ≡ c = cc in subst (λ (z : CookieAt). (z.over ≡ false) × IsOf k z t.view) is (going, of)) };
        of_caller = now.of_caller;
        apart = λ c other e f same. (let is : new ≡ other = cc in let number = ap (λ (z : CookieAt). z.count) is in
            let earlier = (has.of_caller.each c e).0.begun in omega arith);
      }

  -- the caller's
  pub keeper_begun : {s t : SeatAt} {low high : ℕ} (new : CookieAt) → HasBegun s.view low high t.view → t.listed ≡ s.listed
      → new.count ≡ s.view.counts.waits → new.keys ≡ everybody → IsOf k new t.view → HasKept new t → HasCookies k cookie None s
      → HasCookies k cookie (Some new) t
  keeper_begun {s} {t} {low} {high} new begun listed count keys of kept has =
      let now = stays_good {keeper = None} (begun_latest s.view t.view low high begun) (begun_listed s t low high begun listed) has in record {
        of_user = now.of_user;
        of_caller = record {
          each = λ c e. (let is : new ≡ c = cc in
              subst (λ (z : CookieAt). IsOf k z t.view × HasKept z t × (z.keys ≡ everybody)) is (of, kept, keys));
        };
        apart = λ c other e f same. (let is : new ≡ c = cc in let number = ap (λ (z : CookieAt). z.count) is in
            let earlier = (has.of_user.each other f).1.begun in omega arith);
      }

not_false : (b : Bool) → not b ≡ false → b ≡ true
not_false true e = refl
not_false false e = absurd (cc)

not_true : (b : Bool) → not b ≡ true → b ≡ false
not_true true e = absurd (cc)
not_true false e = refl

-- what a caller compares to know whether its place has begun a wait
pub same_waits : {before after seen now : ℕ} → not (nat_eq now seen) ≡ false → seen ≡ before → now ≡ after → after ≡ before
same_waits {before} {after} {seen} {now} same was is = sym is ∙ eqb-true now seen (not_false (nat_eq now seen) same) ∙ was

-- the cookies are good still after a call of the tree, with no keeper where the place has begun a wait
pub cookies_after : {k : Shape} {cookie keeper left : Option CookieAt} {T E : Type 0} {r : Result T E} {x : T} {s t : SeatAt}
    {before now : ℕ} (n : ℕ) → r ≡ Ok x → IfOk r (λ _. KeepsSeat n s t) → (not (nat_eq now before) ≡ true → left ≡ None)
    → (not (nat_eq now before) ≡ false → left ≡ keeper) → before ≡ s.view.counts.waits → now ≡ t.view.counts.waits
    → HasCookies k cookie keeper s → HasCookies k cookie left t
cookies_after {s = s} {t = t} {before} {now} n is told gone kept was now_is has =
    let keeps = IfOk-at_ok (λ _. KeepsSeat n s t) is told in
    cookies_unless keeps (not (nat_eq now before)) gone kept (λ same. keeps.slots.slots (same_waits same was now_is)) has

-- The keeper over a call of the tree: it is forgotten only where slots may have gone back.

pub keeps_keeper : {b c d : CallerAt} → b ≡ c → (d.lost ≡ false → StaysUnlessGone b.keeper b.seat d.keeper d.seat) → KeepsKeeper c d
keeps_keeper {d = d} is stays = record { kept = λ kept. subst (λ (z : CallerAt). StaysUnlessGone z.keeper z.seat d.keeper d.seat) is (stays kept) }

-- what a caller compares tells that the place has begun a wait
pub later_by : (s t : SeatAt) {before now : ℕ} → s.view.counts.waits ≤ t.view.counts.waits → before ≡ s.view.counts.waits
    → now ≡ t.view.counts.waits → not (nat_eq now before) ≡ true → s.view.counts.waits < t.view.counts.waits
later_by s t {before} {now} least was now_is more =
    let apart = eqb-false now before (not_true (nat_eq now before) more) in omega (arith, least, was, now_is, apart)

begun_since : {T E : Type 0} {r : Result T E} {x : T} (s t : SeatAt) {before now : ℕ} (n : ℕ) → r ≡ Ok x → IfOk r (λ _. KeepsSeat n s t)
    → before ≡ s.view.counts.waits → now ≡ t.view.counts.waits → not (nat_eq now before) ≡ true
    → s.view.counts.waits < t.view.counts.waits
begun_since s t {before} {now} n is told was now_is more =
    let keeps = IfOk-at_ok (λ _. KeepsSeat n s t) is told in later_by s t keeps.slots.waits was now_is more

stays_by : {keeper left : Option CookieAt} (s t : SeatAt) (gone : Bool) → (gone ≡ true → left ≡ None) → (gone ≡ false → left ≡ keeper)
    → (gone ≡ true → s.view.counts.waits < t.view.counts.waits) → StaysUnlessGone keeper s left t
stays_by s t true none same cause = inr (none refl, cause refl)
stays_by s t false none same cause = inl (same refl)

pub keeper_after : {keeper left : Option CookieAt} {T E : Type 0} {r : Result T E} {x : T} (s t : SeatAt) {before now : ℕ} (n : ℕ) → r ≡ Ok x
    → IfOk r (λ _. KeepsSeat n s t) → (not (nat_eq now before) ≡ true → left ≡ None) → (not (nat_eq now before) ≡ false → left ≡ keeper)
    → before ≡ s.view.counts.waits → now ≡ t.view.counts.waits → StaysUnlessGone keeper s left t
keeper_after s t {before} {now} n is told gone kept was now_is =
    stays_by s t (not (nat_eq now before)) gone kept (λ more. begun_since s t n is told was now_is more)

-- the same by what the call leaves of the seat
pub keeper_told : {keeper left : Option CookieAt} (s t : SeatAt) {before now : ℕ} (n : ℕ) → KeepsSeat n s t
    → (not (nat_eq now before) ≡ true → left ≡ None) → (not (nat_eq now before) ≡ false → left ≡ keeper) → before ≡ s.view.counts.waits
    → now ≡ t.view.counts.waits → StaysUnlessGone keeper s left t
keeper_told s t n keeps gone kept was now_is = keeper_after {T = ℕ} {E = ℕ} {r = Ok 0} {x = 0} s t n refl keeps gone kept was now_is

-- the lift behind a put begins more waits, if any
behind_waits : (op : Op) (told : Told) (s : SeatAt) (d : CallerAt) → d.lost ≡ false → ComesBehind op told s d
    → s.view.counts.waits ≤ d.seat.view.counts.waits
behind_waits op told s d kept (inl goes) = let same = ap (λ (z : SeatAt). z.view.counts.waits) goes.seat in omega (arith, same)
behind_waits op told s d kept (inr (key, added, inl lifted)) = lifted.keeps.slots.waits
behind_waits op told s d kept (inr (key, added, inr lost)) = absurd (let e : true ≡ false = sym lost.lost ∙ kept in cc)

module _ (op : Op) (told : Told) (keeper : Option CookieAt) (s : SeatAt) (mid d : CallerAt) (least : s.view.counts.waits ≤ mid.seat.view.counts.waits)
    (second : KeepsKeeper mid d) (behind : ComesBehind op told mid.seat d) (kept : d.lost ≡ false) where
  abbrev IsGone : Type 0
  IsGone = (d.keeper ≡ None) × (mid.seat.view.counts.waits < d.seat.view.counts.waits)

  pub stayed_first : mid.keeper ≡ keeper → StaysUnlessGone keeper s d.keeper d.seat
  stayed_first same = ⊎_elim
      (λ (still : d.keeper ≡ mid.keeper). inl (still ∙ same))
      (λ (gone : IsGone). inr (gone.0, let more = gone.1 in omega (arith, least, more)))
      (second.kept kept)

  pub gone_first : mid.keeper ≡ None → s.view.counts.waits < mid.seat.view.counts.waits → StaysUnlessGone keeper s d.keeper d.seat
  gone_first none more =
      let later = behind_waits op told mid.seat d kept behind in inr (
        ⊎_elim
            (λ (still : d.keeper ≡ mid.keeper). still ∙ none)
            (λ (gone : IsGone). gone.0)
            (second.kept kept),
        omega (arith, more, later),
      )

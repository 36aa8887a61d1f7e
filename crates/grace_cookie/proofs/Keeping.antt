-- The life of a cookie: it is started, asked about, kept over other calls, and its slots go back.
-- How many slots are listed, and that each is a retired one.
use Rattle.std.proofs.Common.{◌≡◌, ℕ, zero, suc, ◌+◌, ◌-◌, ◌≤◌, ◌<◌, List, length, arith, subst, false, [], ◌∷◌, ◌++◌, Some, refl, sym, ap, ◌∙◌, append-nil, ◌&&◌, ◌||◌, Bool, true, inr, ◌≢◌, not, cond, take, ⊎_elim, ne_eqb, map, append_assoc}
use Rattle.core_frames.proofs.Roles.{slots_in, in_without}
use Rattle.core_frames.proofs.Views.{times_sum}
use Rattle.core_state.specs.declared.view.Retired.{Retired}
use Rattle.core_state.specs.Memory.{sum_below}
use Rattle.list_laws.specs.Counts.{times, Each, IsIn}
use Rattle.node_slots.proofs.Reclaims.{retired_at, same_all}
use Rattle.std.specs.List.{AllByRecursion}
use lib.ListN.{get_elem?}
use Rattle.prcu_marks.specs.declared.mark.Mark.{Mark}
use Rattle.prcu_marks.specs.declared.mark.Mark.TheVariants.{Began, Ended}
use Rattle.key_interval.specs.Keys.{Interval}
use Rattle.core_state.specs.declared.shape.Shape.{Shape}
use Rattle.core_state.specs.declared.view.View.{View}
use Rattle.core_state.specs.declared.view.Waiting.{Waiting}
use Rattle.core_state.specs.Steps.{new_wait, waited_retired, is_grace_for}
use Rattle.list_laws.proofs.Lists.{all_from_times, in_second, in_first, all_change, times_here, times_other, all_times}
use Rattle.seat_table.specs.Seats.{SeatAt, unlisted, IsQuietSeat}
use Rattle.seat_table.specs.Sections.{HasBegun}
use Rattle.seat_table.specs.Waits.{IsLatestOf, reached, StopsAt, HaveLeft, HasLooked, HasEnded, IsOver, HasStopped, HasWaited}
use Rattle.seat_table.specs.declared.wait.Grace.{Grace}
use Rattle.grace_cookie.specs.Cookies.{CookieAt, IsOf, IsKept, HasKept, everybody, IsLatest, HasOutlasted, GoesOn, AreKept, IsFoundOver, Asked, AreUnraised, GivesFirst, GivesSome, IsSameCookie, KeepsLatest, KeepsListed, KeepsCookies, KeepsRetired, WaitsStay, CookiesStay, GivesNone, HasGivenBack}
use Rattle.std.proofs.lemmas.Bool.{lt-ltb, cases_eq}
use mathlib.Core.List.{IsPrefix}
use Rattle.atomic_table.proofs.Lists.{at_map, at_longer}
use Rattle.prcu_marks.specs.declared.mark.Why.{Why}
use Rattle.core_state.specs.declared.view.StepMade.{StepMade}
use Rattle.seat_table.specs.Looks.{FindsNone, FindsOnce, IsWithin}
use Rattle.grace_cookie.specs.declared.answers.Ask.TheVariants.{NotYet}
use Rattle.std.proofs.lemmas.List.{take_at}
use Rattle.core_state.specs.Links.{IsRetiredAt, without_retired}
use Rattle.node_slots.specs.Reclaiming.{IsReady, AreReady, GivesBack, first_slots, without_slots, without_all}
use mathlib.Core.Option.{some, some-injective, some-ne-none}
use Rattle.prcu_model.proofs.ListFacts.{prefix_trans}
use Rattle.seat_table.proofs.SeveralSteps.{seen_more}
use Rattle.core_state.specs.Views.{IsQuiet, unraised_among}
use Rattle.tree_points.proofs.Passing.{none_raised, all_unraised}

sum_least : (f : ℕ → ℕ) (n : ℕ) → ((s : ℕ) → f s ≤ 1) → sum_below f n ≤ n
sum_least f zero one = omega arith
sum_least f (suc n) one = let a = sum_least f n one in let b = one n in omega arith

-- slots that are listed once each, and are retired ones, are no more than the table has
pub few_listed : (xs : List ℕ) (rs : List Retired) (n : ℕ) → ((s : ℕ) → times s xs ≡ times s (slots_in rs))
    → ((s : ℕ) → times s (slots_in rs) ≤ 1) → Each rs (λ (r : Retired). r.slot < n) → length xs ≤ n
few_listed xs rs n same once within =
    let below : (s : ℕ) → 1 ≤ times s xs → s < n = λ s there. let at = retired_at s rs (let e = same s in omega arith) in
    subst (λ x. x < n) at.2 (within at.1.0 at.0 at.1.1) in
    let a = times_sum xs n below in
    let b = sum_least (λ s. times s xs) n (λ s. let e = same s in let o = once s in omega arith) in
    omega arith

-- the place has begun no later wait, by what a call found out
pub is_latest : (count waits found own : ℕ) → count < waits → found ≡ waits → own ≡ count → found - 1 ≡ own → waits ≡ count + 1
is_latest count waits found own begun is same test = omega arith

-- A cookie that was just started.

abbrev fresh : {W : Type 0} → Grace W → ℕ → ℕ → CookieAt
fresh grace count slots = record { keys = grace.keys; count = count; slots = slots; over = false; clock = grace.clock; reached = reached grace }

module _ (v w : View) (keys : Interval) (begun : HasBegun v keys.low keys.high w) where
  place_same_begun : w.allowance.place ≡ v.allowance.place
  place_same_begun = ap (λ (z : View). z.allowance.place) begun.others

  waits_more : w.counts.waits ≡ v.counts.waits + 1
  waits_more = ap (λ (z : View). z.counts.waits) begun.others

  pub started_of : {W : Type 0} (k : Shape) (grace : Grace W) (count slots : ℕ) → count ≡ v.counts.waits → grace.keys ≡ keys
      → IsLatestOf k grace w → IsOf k (fresh grace count slots) w
  started_of k grace count slots is are latest =
      let wait : Waiting = latest.0 in
      let same : Some wait ≡ Some (new_wait v keys.low keys.high begun.clock begun.leaves.before) = sym latest.1 ∙ begun.wait_is in
      let wait_is : wait ≡ new_wait v keys.low keys.high begun.clock begun.leaves.before = cc in
      let mark : Mark = Began v.allowance.place v.counts.waits keys.low keys.high in
      let there : IsIn (begun.leaves.before ++ mark ∷ []) mark = in_second begun.leaves.before (mark ∷ []) mark (0, refl) in
      let seen : IsIn w.seen mark = subst (λ l. IsIn l mark) (sym begun.leaves.marked) there in record {
        begun = let a = waits_more in omega arith;
        began = subst (λ (z : ℕ × ℕ × Interval). IsIn w.seen (Began z.0 z.1 z.2.low z.2.high))
            (λ i. (sym place_same_begun i, sym is i, sym are i)) seen;
        outlasted = λ e. absurd (cc);
        going = λ _ _. (wait, latest.1, ap (λ (z : Waiting). z.count) wait_is ∙ sym is, latest.2);
      }

  module _ (c : CookieAt) (s : SeatAt) (now : s.view ≡ w) (same : (t : ℕ) → times t s.listed ≡ times t (slots_in v.hands.retired))
      (once : (t : ℕ) → times t s.listed ≤ 1) (many : c.slots ≡ length s.listed) (going : c.over ≡ false) where
    one_kept : (slot : ℕ) → 1 ≤ times slot s.listed → IsKept c w slot
    one_kept slot least =
        let there = retired_at slot v.hands.retired (let e = same slot in omega arith) in
        let r : Retired = there.0 in
        let i : ℕ = there.1.0 in
        record {
          i = i;
          r = r;
          at = (ap (λ (z : View). get_elem? z.hands.retired i) begun.others ∙ there.1.1, there.2);
          since = λ _. (new_wait v keys.low keys.high begun.clock begun.leaves.before, begun.wait_is, begun.older i r there.1.1);
          waited = λ _ e. absurd (cc);
        }

    pub started_kept : HasKept c s
    started_kept = record {
      kept = λ _. record {
        slots = s.listed;
        later = [];
        listed = sym (append-nil s.listed);
        many = sym many;
        apart = once;
        each = subst (λ (z : View). all s.listed z) (sym now) (all_from_times (IsKept c w) s.listed one_kept);
      };
    }
      where
        all : List ℕ → View → Type 0
        all l z = AllByRecursion (IsKept c z) l

-- A cookie whose wait was polled.

-- a mark that was seen stands among more marks too
pub seen_later : (h more : List Mark) (mark : Mark) → IsPrefix h more → IsIn h mark → IsIn more mark
seen_later h more mark begins there = subst (λ l. IsIn l mark) begins.1 (in_first h begins.0 mark there)

or_true : (b : Bool) → (b || true) ≡ true
or_true true = refl
or_true false = refl

-- The poll ended the wait.
module _ (k : Shape) (c : CookieAt) (v w : View) (of : IsOf k c v) (was : c.over ≡ false) (latest : IsLatest c v)
    (over : IsOver k v w) where
  on : GoesOn k c v
  on = of.going was latest

  wait_same : on.0 ≡ over.wait
  wait_same = let e : Some on.0 ≡ Some over.wait = sym on.1 ∙ over.was in cc

  count_is : over.wait.count ≡ c.count
  count_is = ap (λ (z : Waiting). z.count) (sym wait_same) ∙ on.2

  low_is : over.wait.low ≡ c.keys.low
  low_is = ap (λ (z : Waiting). z.low) (sym wait_same) ∙ on.3.low_is

  high_is : over.wait.high ≡ c.keys.high
  high_is = ap (λ (z : Waiting). z.high) (sym wait_same) ∙ on.3.high_is

  ended : HasEnded v over.wait over.steps over.new w
  ended = over.ended

  place_same : w.allowance.place ≡ v.allowance.place
  place_same = ap (λ (z : View). z.allowance.place) ended.others

  waits_same : w.counts.waits ≡ v.counts.waits
  waits_same = ap (λ (z : View). z.counts.waits) ended.others

  marked : w.seen ≡ ended.leaves.before ++ Ended v.allowance.place c.count ∷ []
  marked = subst (λ n. w.seen ≡ ended.leaves.before ++ Ended v.allowance.place n ∷ []) count_is ended.leaves.marked

  has_left : HaveLeft v.allowance.place c.count c.keys.low c.keys.high w.seen
  has_left = subst (λ (z : ℕ × ℕ × ℕ). HaveLeft v.allowance.place z.0 z.1 z.2 w.seen) (λ i. (count_is i, low_is i, high_is i)) over.left

  abbrev begin_mark : Mark
  begin_mark = Began v.allowance.place c.count c.keys.low c.keys.high

  began_before : IsIn ended.leaves.before begin_mark
  began_before = seen_later v.seen ended.leaves.before begin_mark ended.leaves.seen.begins of.began

  pub has_outlasted : HasOutlasted v.allowance.place c.count c.keys w.seen
  has_outlasted = record {
    before = ended.leaves.before;
    began = began_before;
    ends = ([], append-nil (ended.leaves.before ++ Ended v.allowance.place c.count ∷ []) ∙ sym marked);
    left = subst (HaveLeft v.allowance.place c.count c.keys.low c.keys.high) marked has_left;
  }

  pub found_over : (d : CookieAt) → d.over ≡ true → FindsNone c.keys c.clock v w → IsFoundOver k c v d w
  found_over d e none = record { over = e; outlasted = has_outlasted; how = inr (was, latest, over, none) }

  pub over_of : (d : CookieAt) → d.over ≡ true → d.keys ≡ c.keys → d.count ≡ c.count → IsOf k d w
  over_of d e keys same =
      let all : ◌≡◌ {A = ℕ × ℕ × Interval} (w.allowance.place, d.count, d.keys) (v.allowance.place, c.count, c.keys) =
      λ i. (place_same i, same i, keys i) in
      record {
        begun = let a = of.begun in let b = waits_same in omega arith;
        began = subst (λ (z : ℕ × ℕ × Interval). IsIn w.seen (Began z.0 z.1 z.2.low z.2.high)) (sym all)
            (seen_later ended.leaves.before w.seen begin_mark (Ended v.allowance.place c.count ∷ [], sym marked) began_before);
        outlasted = λ _. subst (λ (z : ℕ × ℕ × Interval). HasOutlasted z.0 z.1 z.2 w.seen) (sym all) has_outlasted;
        going = λ f _. absurd (cc);
      }

  one_waited : (d : CookieAt) → d.over ≡ true → d.keys ≡ c.keys → (slot : ℕ) → IsKept c v slot → IsKept d w slot
  one_waited d e keys slot kept =
      let r : Retired = kept.r in
      let since = kept.since was in
      let same : Some since.0 ≡ Some over.wait = sym since.1 ∙ over.was in
      let wait_is : since.0 ≡ over.wait = cc in
      let late : r.unlinked < over.wait.began = subst (λ (z : Waiting). r.unlinked < z.began) wait_is since.2 in
      let grace : d.keys ≡ everybody → is_grace_for over.wait r.unlinked ≡ true = λ all.
      (let is : c.keys ≡ everybody = sym keys ∙ all in
      ap (λ (z : ℕ × ℕ). is_grace_for (record over.wait { low = z.0; high = z.1 }) r.unlinked)
      (λ i. ((low_is ∙ ap (λ (z : Interval). z.low) is) i, (high_is ∙ ap (λ (z : Interval). z.high) is) i))
      ∙ ap (λ b. b && true) (lt-ltb r.unlinked over.wait.began late)) in
      record {
        i = kept.i;
        r = waited_retired over.wait r;
        at = (
          ap (λ (z : View). get_elem? z.hands.retired kept.i) ended.others
              ∙ at_map (waited_retired over.wait) v.hands.retired kept.i r kept.at.0,
          kept.at.1,
        );
        since = λ f. absurd (cc);
        waited = λ all _. ap (λ b. r.waited || b) (grace all) ∙ or_true r.waited;
      }

  pub over_kept : (d : CookieAt) (s t : SeatAt) → d.over ≡ true → d.keys ≡ c.keys → d.count ≡ c.count → d.slots ≡ c.slots → s.view ≡ v
      → t.view ≡ w → t.listed ≡ s.listed → HasKept c s → HasKept d t
  over_kept d s t e keys count slots was_view now listed has = record {
    kept = λ _.
        let kept : AreKept c s = has.kept (λ _. ap (λ (z : View). z.counts.waits) was_view ∙ latest) in record {
          slots = kept.slots;
          later = kept.later;
          listed = listed ∙ kept.listed;
          many = kept.many ∙ sym slots;
          apart = kept.apart;
          each = subst (λ (z : View). AllByRecursion (IsKept d z) kept.slots) (sym now)
              (all_change (IsKept c v) (IsKept d w) kept.slots (λ slot there one. one_waited d e keys slot one)
              (subst (λ (z : View). AllByRecursion (IsKept c z) kept.slots) was_view kept.each));
        };
  }

-- Everybody's keys have each class. So a poll for everybody looks at no spot before the one to which the cookie had come.
pub everybody_within : (k : Shape) (c : CookieAt) (v : View) → IsOf k c v → c.over ≡ false → IsLatest c v → c.keys ≡ everybody
    → IsWithin c.keys c.reached.class
everybody_within k c v of was latest all =
    let class : ℕ = c.reached.class in
    let less : class < 64 = (of.going was latest).3.small in
    subst (λ z. IsWithin z class) (sym all) (class, omega arith, less, (class, (omega arith, omega arith), omega (arith, less)))

-- It goes on, by what the one look found that stopped it.
pub found_going : {W : Type 0} (k : Shape) (c : CookieAt) (v w : View) (why : Why) (grace : Grace W) (d : CookieAt) → IsOf k c v
    → c.over ≡ false → IsLatest c v → d.over ≡ false → d.reached ≡ reached grace → HasStopped k v why grace w
    → FindsOnce c.keys c.clock v why w → Asked k c v (NotYet why) d w
found_going k c v w why grace d of was latest going come stopped once =
    let p = stopped.on in
    let on = of.going was latest in
    let e : Some p.wait ≡ Some on.0 = sym p.was ∙ on.1 in
    let same : p.wait ≡ on.0 = cc in (
      p.wait,
      p.steps,
      p.new,
      record {
        was = was;
        going = going;
        latest = latest;
        wait_is = p.was;
        count_is = ap (λ (z : Waiting). z.count) same ∙ on.2;
        looked = p.looked;
        once = once;
        there = subst (λ r. StopsAt r why) (sym come) stopped.there;
      },
      stopped.shows,
    )

pub going_kept : (c d : CookieAt) (v w : View) (wait : Waiting) (steps : List StepMade) (new : Waiting) (s t : SeatAt)
    → HasLooked v wait steps new w → v.wait ≡ Some wait → d.over ≡ c.over → d.keys ≡ c.keys → d.count ≡ c.count → d.slots ≡ c.slots
    → s.view ≡ v → t.view ≡ w → t.listed ≡ s.listed → HasKept c s → HasKept d t
going_kept c d v w wait steps new s t looked wait_is over keys count slots was_view now listed has = record {
  kept = λ latest.
      let same : t.view.counts.waits ≡ s.view.counts.waits =
      ap (λ (z : View). z.counts.waits) now ∙ ap (λ (z : View). z.counts.waits) looked.others
      ∙ ap (λ (z : View). z.counts.waits) (sym was_view) in
      let kept : AreKept c s = has.kept (λ f. sym same ∙ latest (over ∙ f) ∙ ap (λ n. n + 1) count) in record {
        slots = kept.slots;
        later = kept.later;
        listed = listed ∙ kept.listed;
        many = kept.many ∙ sym slots;
        apart = kept.apart;
        each = subst (λ (z : View). AllByRecursion (IsKept d z) kept.slots) (sym now)
            (all_change (IsKept c v) (IsKept d w) kept.slots (λ slot there one. on slot one)
            (subst (λ (z : View). AllByRecursion (IsKept c z) kept.slots) was_view kept.each));
      };
}
  where
    on : (slot : ℕ) → IsKept c v slot → IsKept d w slot
    on slot one = record {
      i = one.i;
      r = one.r;
      at = (ap (λ (z : View). get_elem? z.hands.retired one.i) looked.others ∙ one.at.0, one.at.1);
      since = λ f. let since = one.since (sym over ∙ f) in let same : Some since.0 ≡ Some wait = sym since.1 ∙ wait_is in
          let is : since.0 ≡ wait = cc in (
            new,
            looked.wait_is,
            subst (λ n. one.r.unlinked < n) (ap (λ (z : Waiting). z.began) is ∙ sym (ap (λ (z : Waiting). z.began) looked.same)) since.2,
          );
      waited = λ all f. one.waited (sym keys ∙ all) (sym over ∙ f);
    }

-- The slots that go back by a cookie.

pub unlisted_behind : (s : ℕ) (xs ys : List ℕ) → times s xs ≡ 0 → unlisted s (xs ++ ys) ≡ xs ++ unlisted s ys
unlisted_behind s [] ys none = refl
unlisted_behind s (x ∷ xs) ys none = ⊎_elim
    (λ (e : x ≡ s). absurd (let a : times s (s ∷ xs) ≡ 0 = subst (λ y. times s (y ∷ xs) ≡ 0) e none in let b = times_here s xs in
    omega arith))
    (λ (ne : x ≢ s). ap (λ b. cond (not b) (x ∷ unlisted s (xs ++ ys)) (unlisted s (xs ++ ys))) (ne_eqb x s ne)
    ∙ ap (λ l. x ∷ l) (unlisted_behind s xs ys (let a = times_other s x xs ne in omega arith)))
    (cases_eq x s)

-- slots that stand once each at the head of a list are its first ones
pub first_apart : (xs ys : List ℕ) → ((t : ℕ) → times t xs ≤ 1) → first_slots (length xs) (xs ++ ys) ≡ xs
first_apart [] ys once = refl
first_apart (x ∷ xs) ys once =
    let none : times x xs ≡ 0 = let a = once x in let b = times_here x xs in omega arith in
    ap (λ l. x ∷ first_slots (length xs) l) (unlisted_behind x xs ys none) ∙ ap (λ l. x ∷ l) (first_apart xs (unlisted x ys) (λ t. ⊎_elim
    (λ (e : x ≡ t). subst (λ y. times y xs ≤ 1) e (omega arith))
    (λ (ne : x ≢ t). let a = once t in let b = times_other t x xs ne in omega arith)
    (cases_eq x t)))

-- what would hold of a cookie that is over does of one that isn't
pub not_over : (c : CookieAt) {A : Type 0} → c.over ≡ false → c.over ≡ true → A
not_over c going over = absurd (let e : true ≡ false = sym over ∙ going in cc)

-- the slots of one that is over are kept for good
pub for_good : (c : CookieAt) (s : SeatAt) → c.over ≡ true → HasKept c s → AreKept c s
for_good c s over has = has.kept (λ going. not_over c going over)

module _ (c : CookieAt) (s : SeatAt) (kept : AreKept c s) where
  pub head_is : take c.slots s.listed ≡ kept.slots
  head_is = ap (λ n. take n s.listed) (sym kept.many) ∙ ap (take (length kept.slots)) kept.listed
      ∙ take_at kept.slots kept.later (length kept.slots) refl

  pub first_is : first_slots c.slots s.listed ≡ kept.slots
  first_is = ap (λ n. first_slots n s.listed) (sym kept.many) ∙ ap (first_slots (length kept.slots)) kept.listed
      ∙ first_apart kept.slots kept.later kept.apart

  pub some_first : 1 ≤ c.slots → 1 ≤ length (first_slots c.slots s.listed)
  some_first has = let long = ap length first_is in let many = kept.many in omega arith

  pub all_ready : c.keys ≡ everybody → c.over ≡ true → AreUnraised s.view (take c.slots s.listed) → AreReady s.view (first_slots c.slots s.listed)
  all_ready all over unraised = subst (AreReady s.view) (sym first_is) (record { each = all_from_times (IsReady s.view) kept.slots one })
    where
      one : (slot : ℕ) → 1 ≤ times slot kept.slots → IsReady s.view slot
      one slot there =
          let here = all_times (IsKept c s.view) kept.slots slot kept.each there in
          let still = subst (AreUnraised s.view) head_is unraised in
          let low = all_times (λ x. (i : ℕ) (r : Retired) → IsRetiredAt s.view i r x → r.raised ≡ false) kept.slots slot still there in
          record {
            i = here.i;
            r = here.r;
            at = here.at;
            unraised = low here.i here.r here.at;
            waited = here.waited all over;
          }

  pub gives_some : (answer : ℕ) (t : SeatAt) → 1 ≤ c.slots → answer ≡ c.slots → GivesBack s.view (first_slots c.slots s.listed) t.view
      → t.listed ≡ without_slots (first_slots c.slots s.listed) s.listed → GivesSome c s answer t
  gives_some answer t has is gives listed =
      let same = first_is ∙ sym head_is in record {
        some = has;
        answer_is = is;
        first = record {
          gives = subst (λ l. GivesBack s.view l t.view) same gives;
          listed = listed ∙ ap (λ l. without_slots l s.listed) same;
        };
      }

-- A cookie beside other calls of its seat.

pub outlasted_later : (p count : ℕ) (keys : Interval) (h more : List Mark) → IsPrefix h more → HasOutlasted p count keys h
    → HasOutlasted p count keys more
outlasted_later p count keys h more begins has = record {
  before = has.before;
  began = has.began;
  ends = prefix_trans _ h more has.ends begins;
  left = has.left;
}

-- The place has begun no later wait, so none since.
module _ (k : Shape) (c : CookieAt) (v w : View) (keeps : KeepsLatest v w) (of : IsOf k c v) (latest : IsLatest c w) where
  same_waits : w.counts.waits ≡ v.counts.waits
  same_waits = let a = of.begun in let b = keeps.waits in omega arith

  was_latest : IsLatest c v
  was_latest = sym same_waits ∙ latest

pub waits_stay : WaitsStay
waits_stay k c v w keeps of =
    let place : v.allowance.place ≡ w.allowance.place = sym keeps.place in record {
      begun = let a = of.begun in let b = keeps.waits in omega arith;
      began = subst (λ p. IsIn w.seen (Began p c.count c.keys.low c.keys.high)) place
          (seen_later v.seen w.seen (Began v.allowance.place c.count c.keys.low c.keys.high) keeps.seen of.began);
      outlasted = λ over. subst (λ p. HasOutlasted p c.count c.keys w.seen) place
          (outlasted_later v.allowance.place c.count c.keys v.seen w.seen keeps.seen (of.outlasted over));
      going = λ over latest. let on = of.going over (was_latest k c v w keeps of latest) in
          (on.0, keeps.wait (same_waits k c v w keeps of latest) ∙ on.1, on.2, on.3);
    }

module _ (k : Shape) (c : CookieAt) (s t : SeatAt) (keeps : KeepsCookies s t) (of : IsOf k c s.view) where
  same : IsLatest c t.view → t.view.counts.waits ≡ s.view.counts.waits
  same latest = same_waits k c s.view t.view keeps.latest of latest

  one_stays : KeepsListed s t → (c.over ≡ false → IsLatest c t.view) → (slot : ℕ) → IsKept c s.view slot → IsKept c t.view slot
  one_stays listed latest slot kept =
      let now = listed.retired.each kept.i kept.r kept.at.0 in record {
        i = kept.i;
        r = now.0;
        at = (now.1, now.2.0 ∙ kept.at.1);
        since = λ going. let since = kept.since going in
            (since.0, keeps.latest.wait (same (latest going)) ∙ since.1, subst (λ n. n < since.0.began) (sym now.2.1) since.2);
        waited = λ all over. now.2.2 (kept.waited all over);
      }

  all_stay : KeepsListed s t → (c.over ≡ false → IsLatest c t.view) → AreKept c s → AreKept c t
  all_stay listed latest kept = record {
    slots = kept.slots;
    later = kept.later ++ listed.listed.0;
    listed = listed.listed.1 ∙ ap (λ l. l ++ listed.listed.0) kept.listed ∙ append_assoc kept.slots kept.later listed.listed.0;
    many = kept.many;
    apart = kept.apart;
    each = all_change (IsKept c s.view) (IsKept c t.view) kept.slots (λ slot there one. one_stays listed latest slot one) kept.each;
  }

  stays_kept : (c.over ≡ true → KeepsListed s t) → HasKept c s → HasKept c t
  stays_kept over has = record {
    kept = λ latest.
        all_stay (none_back latest c.over refl) latest (has.kept (λ going. was_latest k c s.view t.view keeps.latest of (latest going)));
  }
    where
      none_back : (c.over ≡ false → IsLatest c t.view) → (b : Bool) → c.over ≡ b → KeepsListed s t
      none_back latest true e = over e
      none_back latest false e = keeps.slots (same (latest e))

pub cookies_stay : CookiesStay
cookies_stay k c s t keeps over of has = (waits_stay k c s.view t.view keeps.latest of, stays_kept k c s t keeps of over has)

-- its keys stay over each question
pub same_keys : (c d : CookieAt) → IsSameCookie c d → d.keys ≡ c.keys
same_keys c d same = ap (λ (z : CookieAt). z.keys) same

-- a call that begins no wait
pub keeps_latest : (v w : View) → w.allowance.place ≡ v.allowance.place → IsPrefix v.seen w.seen → w.counts.waits ≡ v.counts.waits
    → w.wait ≡ v.wait → KeepsLatest v w
keeps_latest v w place seen waits wait = record { place = place; seen = seen; waits = omega arith; wait = λ _. wait }

-- a call that begins one
pub begins_later : (v w : View) → w.allowance.place ≡ v.allowance.place → IsPrefix v.seen w.seen → v.counts.waits < w.counts.waits
    → KeepsLatest v w
begins_later v w place seen later = record { place = place; seen = seen; waits = omega arith; wait = λ same. absurd (omega arith) }

-- a wait until all have left
pub waits_later : (k : Shape) (v w : View) (low high : ℕ) → HasWaited k v low high w → KeepsLatest v w
waits_later k v w low high waited =
    let mid : View = waited.0 in
    let begun = waited.1 in
    let over = waited.2 in
    let e = over.ended.others in
    begins_later v w (ap (λ (z : View). z.allowance.place) e ∙ ap (λ (z : View). z.allowance.place) begun.others)
    (prefix_trans v.seen mid.seen w.seen (seen_more v mid _ begun.leaves) (seen_more mid w _ over.ended.leaves))
    (let a = ap (λ (z : View). z.counts.waits) e in let b = ap (λ (z : View). z.counts.waits) begun.others in omega arith)

-- a call that neither retires a slot nor lists one
pub listed_all : (s t : SeatAt) → t.view.hands.retired ≡ s.view.hands.retired → t.listed ≡ s.listed → KeepsListed s t
listed_all s t retired listed = record {
  retired = record { each = λ i r there. (r, ap (λ rs. get_elem? rs i) retired ∙ there, (refl, refl, λ yes. yes)) };
  listed = ([], listed ∙ sym (append-nil s.listed));
}

-- nor begins a wait
pub keeps_all : (s t : SeatAt) → t.view.allowance.place ≡ s.view.allowance.place → IsPrefix s.view.seen t.view.seen
    → t.view.counts.waits ≡ s.view.counts.waits → t.view.wait ≡ s.view.wait → t.view.hands.retired ≡ s.view.hands.retired
    → t.listed ≡ s.listed → KeepsCookies s t
keeps_all s t place seen waits wait retired listed = record {
  latest = keeps_latest s.view t.view place seen waits wait;
  slots = λ _. listed_all s t retired listed;
}

-- a wait until all have left
pub waits_on : (k : Shape) (s t : SeatAt) (low high : ℕ) → HasWaited k s.view low high t.view → KeepsCookies s t
waits_on k s t low high waited =
    let a = ap (λ (z : View). z.counts.waits) waited.2.ended.others in
    let b = ap (λ (z : View). z.counts.waits) waited.1.others in record {
      latest = waits_later k s.view t.view low high waited;
      slots = λ same. absurd (omega arith);
    }

-- the same, where it retires slots and lists them: what is told of each retired slot is its number, where it was unlinked, and whether it
-- was
-- waited for
abbrev pub mark_of : Retired → ℕ × ℕ × Bool
mark_of r = (r.slot, r.unlinked, r.waited)

pub marked_at : (rs : List Retired) (i : ℕ) (x : ℕ × ℕ × Bool) → get_elem? (map mark_of rs) i ≡ some x
    → (r : Retired) × (get_elem? rs i ≡ some r) × (mark_of r ≡ x)
marked_at [] i x e = absurd (some-ne-none x (sym e))
marked_at (r ∷ rs) zero x e = (r, refl, some-injective (mark_of r) x e)
marked_at (r ∷ rs) (suc i) x e = marked_at rs i x e

pub stay_retired : (v w : View) (later : List (ℕ × ℕ × Bool))
    → map (λ (r : Retired). (r.slot, r.unlinked, r.waited)) w.hands.retired
    ≡ map (λ (r : Retired). (r.slot, r.unlinked, r.waited)) v.hands.retired ++ later → KeepsRetired v w
stay_retired v w later same = record {
  each = λ i r there.
      let here = at_longer (map mark_of v.hands.retired) later i (mark_of r) (at_map mark_of v.hands.retired i r there) in
      let now = marked_at w.hands.retired i (mark_of r) (ap (λ l. get_elem? l i) same ∙ here) in (
        now.0,
        now.1,
        (
          ap (λ (x : ℕ × ℕ × Bool). x.0) now.2,
          ap (λ (x : ℕ × ℕ × Bool). x.1) now.2,
          λ yes. ap (λ (x : ℕ × ℕ × Bool). x.2) now.2 ∙ yes,
        ),
      );
}

-- A quiet seat stays quiet where slots went back.

-- no generation of a retired slot of a quiet view was raised
pub quiet_unraised : (v : View) → IsQuiet v → (slots : List ℕ) → AreUnraised v slots
quiet_unraised v quiet [] = tt
quiet_unraised v quiet (slot ∷ slots) = ((λ i r at. none_raised v.hands.retired quiet.raised i r at.0), quiet_unraised v quiet slots)

left_unraised : (slots : List ℕ) (rs : List Retired) → Each rs (λ (r : Retired). r.raised ≡ false)
    → Each (without_all slots rs) (λ (r : Retired). r.raised ≡ false)
left_unraised [] rs none = none
left_unraised (s ∷ slots) rs none = left_unraised slots (without_retired s rs)
    (λ i r there. let was = in_without s rs r (i, there) in none was.0.0 r was.0.1)

pub first_quiet : (n : ℕ) (s t : SeatAt) → GivesFirst n s t → IsQuietSeat s → IsQuietSeat t
first_quiet n s t gave quiet =
    let q : IsQuiet s.view = quiet.view in
    let rs : List Retired = s.view.hands.retired in
    let slots : List ℕ = take n s.listed in
    let e = gave.gives.rest in record {
      view = record {
        section = ap (λ (z : View). z.section) e ∙ q.section;
        locks = ap (λ (z : View). z.locks) e ∙ q.locks;
        reserved = ap (λ (z : View). z.hands.reserved) e ∙ q.reserved;
        hand = ap (λ (z : View). z.hands.hand) e ∙ q.hand;
        moving = ap (λ (z : View). z.moving) e ∙ q.moving;
        owes = ap (λ (z : View). z.hands.owes) e ∙ q.owes;
        commit = ap (λ (z : View). z.commit) e ∙ q.commit;
        raised = ap (λ (z : View). unraised_among z.hands.retired) e
            ∙ all_unraised (without_all slots rs) (left_unraised slots rs (none_raised rs q.raised))
            ∙ ap (λ (z : View). length z.hands.retired) (sym e);
      };
      listed = record {
        each = λ slot. ap (times slot) gave.listed ∙ same_all slots s.listed rs quiet.listed.each slot
            ∙ ap (λ (z : View). times slot (slots_in z.hands.retired)) (sym e);
      };
    }

pub back_quiet : (c : CookieAt) (s : SeatAt) (answer : ℕ) (t : SeatAt) → HasGivenBack c s answer t → IsQuietSeat s → IsQuietSeat t
back_quiet c s answer t back quiet = ⊎_elim
    (λ (kept : GivesNone c s answer t). subst IsQuietSeat (sym kept.same) quiet)
    (λ (gave : GivesSome c s answer t). first_quiet c.slots s t gave.first quiet)
    back

-- Calls of a client that holds a cookie, with what it does about it.
-- What asking about a cookie and starting one leaves.
use Rattle.std.proofs.Common.{◌≡◌, ℕ, ◌+◌, ◌/◌, ◌<◌, ◌≤◌, ◌⊎◌, is_some, true, false, List, [], ◌∷◌, length, take, Option, Some, None, inl, inr, refl, sym, ap, subst, ◌∙◌, ⊎_elim, arith, append-nil, ◌++◌}
use mathlib.Core.List.{IsPrefix}
use Rattle.prcu_model.specs.declared.operation.Op.{Op}
use Rattle.prcu_marks.specs.declared.mark.Mark.{Mark}
use Rattle.prcu_marks.specs.declared.mark.Mark.TheVariants.{Began, Ended}
use Rattle.prcu_marks.specs.Marks.{greatest_key, updates_of, own_of}
use Rattle.core_state.specs.declared.shape.Shape.{Shape}
use Rattle.core_state.specs.declared.view.Allowance.{Allowance}
use Rattle.core_state.specs.declared.view.View.{View}
use Rattle.core_state.specs.declared.view.Waiting.{Waiting}
use Rattle.core_state.specs.Views.{held_list}
use Rattle.seat_table.specs.Gains.{IsInformed}
use Rattle.seat_table.specs.Seats.{SeatAt, TableAt, IsQuietSeat}
use Rattle.seat_table.specs.Waits.{IsOver}
use Rattle.tree_points.specs.Points.{HasAdvanced}
use Rattle.tree_points.proofs.Locks.{allowed, further_by, advanced_none, advanced_on, no_further, advanced_stays, advanced_same, advanced_begun, advanced_over}
use Rattle.node_slots.specs.Reclaiming.{return_marks}
use Rattle.node_slots.proofs.Takes.{each_begins, each_own, returned_nobodys}
use Rattle.grace_cookie.specs.declared.answers.Ask.{Ask}
use Rattle.grace_cookie.specs.declared.answers.Ask.TheVariants.{Over, NotYet, GivenUp}
use Rattle.grace_cookie.specs.Cookies.{CookieAt, IsLatest, IsOf, IsSameCookie, Asked, IsFoundOver, GivesNone, GivesSome, HasGivenBack, KeepsCookies}
use Rattle.tree_run.specs.Clients.{IsGood, GoesOnBy, Asks, WasStarted, Starts, Settles, LeavesWaits, IsFewOrHeld, AreSound, Holding, AsksOn, AsksUntilNone, LacksRoom, MakesRoom, LeavesEnd, CookieClientAt, HasCalled, ChainsMeetFronts}
use Rattle.prcu_model.specs.declared.operation.Told.{Told}
use Rattle.prcu_model.specs.declared.operation.Update.{Update}
use Rattle.prcu_model.specs.Dictionary.{key_of, Explains}
use Rattle.prcu_marks.specs.Callers.{HasAnswered}
use Rattle.citrus_tree.specs.Replies.{caller_of, room_of, ClientAt}
use Rattle.citrus_tree.proofs.Clients.{met_its_own, chain_told}
use Rattle.tree_lift.proofs.Calls.{call_answers, IsPlain, ended_plain, began_plain, no_plain, both_plain, answered_longer, answered_earlier, told_answers}
use Rattle.prcu_marks.proofs.Callers.{told_meets}
use Rattle.citrus_tree.specs.Going.{KeepsSlots}
use Rattle.grace_cookie.proofs.Keeping.{cookies_stay, not_over, stay_retired}
use Rattle.tree_lift.specs.Lifts.{IsToldThenLifts}
use Rattle.tree_lift.specs.Lifts as tree

-- what the seat knows after slots went back: as many waits, and no mark of its place more
pub back_advanced : (c : CookieAt) (s : SeatAt) (number : ℕ) (t : SeatAt) → HasGivenBack c s number t
    → HasAdvanced s.view t.view [] × (t.view.allowance ≡ s.view.allowance) × (t.view.counts.waits ≡ s.view.counts.waits)
back_advanced c s number t back = ⊎_elim
    (λ (none : GivesNone c s number t). let e = ap (λ (z : SeatAt). z.view) none.same in (
      advanced_none (no_further s.view t.view (ap (λ (z : View). z.trail.steps) e)) (allowed e refl) (ap (λ (z : View). z.seen) e),
      ap (λ (z : View). z.allowance) e,
      ap (λ (z : View). z.counts.waits) e,
    ))
    (λ (some : GivesSome c s number t).
    let g = some.first.gives in
    let marks : List Mark = return_marks (held_list s.view.hands.spare) (take c.slots s.listed) in (
      record {
        steps = g.steps;
        same = ap (λ (z : View). z.allowance.place) g.rest;
        allowance = allowed g.rest refl;
        begins = each_begins s.view t.view marks g.marks;
        own = each_own s.view t.view marks (returned_nobodys (held_list s.view.hands.spare) _) g.marks ∙ sym (append-nil _);
      },
      ap (λ (z : View). z.allowance) g.rest,
      ap (λ (z : View). z.counts.waits) g.rest,
    ))
    back

-- the marks that asking leaves, at most the end of the wait of the cookie that was held
record AskLeaves (cookie : Option CookieAt) (v w : View) : Type 0 where
  pub ended : List Mark
  pub advanced : HasAdvanced v w ended
  pub ends : (ended ≡ []) ⊎ ((c : CookieAt) × (cookie ≡ Some c) × (ended ≡ Ended v.allowance.place c.count ∷ []))
  pub allowance : w.allowance ≡ v.allowance
  pub waits : w.counts.waits ≡ v.counts.waits

nothing_left : (cookie : Option CookieAt) (v w : View) → IsPrefix v.trail.steps w.trail.steps → w.allowance ≡ v.allowance
    → w.counts.waits ≡ v.counts.waits → w.seen ≡ v.seen
    → AskLeaves cookie v w
nothing_left cookie v w steps allowance waits seen =
    record {
      ended = [];
      advanced = advanced_none steps (record
          { rest = allowance ∙ ap (λ n. record v.allowance { tickets = n }) (sym (ap (λ (a : Allowance). a.tickets) allowance)) }) seen;
      ends = inl refl;
      allowance = allowance;
      waits = waits;
    }

same_view : (cookie : Option CookieAt) (v : View) (s t : SeatAt) → t ≡ s → AskLeaves cookie v s.view → AskLeaves cookie v t.view
same_view cookie v s t same = subst (λ (z : SeatAt). AskLeaves cookie v z.view) (sym same)

module _ (k : Shape) (c : CookieAt) (s : SeatAt) (going : c.over ≡ false) (of : IsOf k c s.view) (left : Option CookieAt) (t : SeatAt) where
  ended_here : (now : CookieAt) (mid : SeatAt) (number : ℕ) → IsLatest c s.view → IsOver k s.view mid.view → HasGivenBack now mid number t
      → AskLeaves (Some c) s.view t.view
  ended_here now mid number latest over back =
      let on = of.going going latest in
      let same : Some over.wait ≡ Some on.0 = sym over.was ∙ on.1 in
      let is : over.wait ≡ on.0 = cc in
      let count : over.wait.count ≡ c.count = ap (λ (z : Waiting). z.count) is ∙ on.2 in
      let later = back_advanced now mid number t back in
      let first : HasAdvanced s.view mid.view (Ended s.view.allowance.place c.count ∷ []) =
      subst (λ n. HasAdvanced s.view mid.view (Ended s.view.allowance.place n ∷ [])) count (advanced_over over) in
      record {
        ended = Ended s.view.allowance.place c.count ∷ [];
        advanced = advanced_stays first later.0;
        ends = inr (c, refl, refl);
        allowance = later.1 ∙ ap (λ (z : View). z.allowance) over.ended.others;
        waits = later.2 ∙ ap (λ (z : View). z.counts.waits) over.ended.others;
      }

  one_leaves : (answer : Ask) (now : CookieAt) (mid : SeatAt) → Asked k c s.view answer now mid.view → GoesOnBy answer now mid left t
      → AskLeaves (Some c) s.view t.view
  one_leaves Over now mid asked goes = elim asked.how [
    | inl before ↦ absurd (cc)
    | inr over ↦ ended_here now mid goes.1.0 over.1 over.2 goes.1.1
  ]
  one_leaves (NotYet why) now mid asked goes =
      let e = (asked.3).looked.others in
      same_view (Some c) s.view mid t goes.1 (nothing_left (Some c) s.view mid.view
      (further_by s.view mid.view _ (asked.3).looked.makes refl) (ap (λ (z : View). z.allowance) e)
      (ap (λ (z : View). z.counts.waits) e) (ap (λ (z : View). z.seen) e))
  one_leaves (GivenUp latest) now mid asked goes =
      let e = asked.view in
      same_view (Some c) s.view mid t goes.1 (nothing_left (Some c) s.view mid.view
      (no_further s.view mid.view (ap (λ (z : View). z.trail.steps) e)) (ap (λ (z : View). z.allowance) e)
      (ap (λ (z : View). z.counts.waits) e) (ap (λ (z : View). z.seen) e))

asks_leave : (k : Shape) (cookie : Option CookieAt) (s : SeatAt) (left : Option CookieAt) (t : SeatAt) → IsGood k s cookie
    → Asks k cookie s left t → AskLeaves cookie s.view t.view
asks_leave k None s left t good asks = same_view None s.view s t asks.1
    (nothing_left None s.view s.view (no_further s.view s.view refl) refl refl refl)
asks_leave k (Some c) s left t good asks = one_leaves k c s good.0 good.1 left t asks.answer asks.now asks.seat asks.asked asks.goes

-- ---- asking on and on

-- The cookie that was held is held still: nothing was left of marks.
record IsStillHeld (cookie : Option CookieAt) (v : View) (d : CookieAt) (w : View) : Type 0 where
  pub c : CookieAt
  pub was : cookie ≡ Some c
  pub count : d.count ≡ c.count
  pub advanced : HasAdvanced v w []
  pub allowance : w.allowance ≡ v.allowance
  pub waits : w.counts.waits ≡ v.counts.waits

still_going : (k : Shape) (c : CookieAt) (s : SeatAt) (d : CookieAt) (t : SeatAt) (answer : Ask) (now : CookieAt) (mid : SeatAt)
    → IsSameCookie c now → Asked k c s.view answer now mid.view → GoesOnBy answer now mid (Some d) t
    → IsStillHeld (Some c) s.view d t.view
still_going k c s d t Over now mid same asked goes = absurd (let none = goes.0 in cc)
still_going k c s d t (GivenUp latest) now mid same asked goes = absurd (let none = goes.0 in cc)
still_going k c s d t (NotYet why) now mid same asked goes =
    let held = goes.0 in
    let is : d ≡ now = cc in
    let e = (asked.3).looked.others in
    let there : t.view ≡ mid.view = ap (λ (z : SeatAt). z.view) goes.1 in record {
      c = c;
      was = refl;
      count = ap (λ (z : CookieAt). z.count) (is ∙ same);
      advanced = advanced_none (further_by s.view t.view _ (ap (λ (z : View). z.trail) there ∙ (asked.3).looked.makes) refl)
          (allowed (there ∙ e) refl) (ap (λ (z : View). z.seen) (there ∙ e));
      allowance = ap (λ (z : View). z.allowance) (there ∙ e);
      waits = ap (λ (z : View). z.counts.waits) (there ∙ e);
    }

still_once : (k : Shape) (cookie : Option CookieAt) (s : SeatAt) (d : CookieAt) (t : SeatAt) → Asks k cookie s (Some d) t
    → IsStillHeld cookie s.view d t.view
still_once k None s d t asks = absurd (let none = asks.0 in cc)
still_once k (Some c) s d t asks = still_going k c s d t asks.answer asks.now asks.seat asks.same asks.asked asks.goes

still_on : (k : Shape) (cookie : Option CookieAt) (s : SeatAt) (held : List Holding) (d : CookieAt) (t : SeatAt)
    → AsksOn k cookie s held (Some d) t → IsStillHeld cookie s.view d t.view
still_on k cookie s [] d t asks = still_once k cookie s d t asks
still_on k cookie s (h ∷ earlier) d t asks =
    let first = still_on k cookie s earlier h.cookie h.seat asks.0 in
    let next = still_once k (Some h.cookie) h.seat d t asks.2 in
    let was = next.was in
    let is : h.cookie ≡ next.c = cc in record {
      c = first.c;
      was = first.was;
      count = next.count ∙ sym (ap (λ (z : CookieAt). z.count) is) ∙ first.count;
      advanced = advanced_stays first.advanced next.advanced;
      allowance = next.allowance ∙ first.allowance;
      waits = next.waits ∙ first.waits;
    }

-- At the end at most the wait of that cookie was ended.
asks_on_leave : (k : Shape) (cookie : Option CookieAt) (s : SeatAt) (held : List Holding) (left : Option CookieAt) (t : SeatAt)
    → IsGood k s cookie → AsksOn k cookie s held left t → AskLeaves cookie s.view t.view
asks_on_leave k cookie s [] left t good asks = asks_leave k cookie s left t good asks
asks_on_leave k cookie s (h ∷ earlier) left t good asks =
    let first = still_on k cookie s earlier h.cookie h.seat asks.0 in
    let last = asks_leave k (Some h.cookie) h.seat left t asks.1 asks.2 in record {
      ended = last.ended;
      advanced = advanced_on first.advanced last.advanced;
      ends = ⊎_elim (λ (e : last.ended ≡ []). inl e)
          (λ (e : (c : CookieAt) × (Some h.cookie ≡ Some c) × (last.ended ≡ Ended h.seat.view.allowance.place c.count ∷ [])).
          let held = e.1 in
          let is : e.0 ≡ h.cookie = cc in
          inr (
            first.c,
            first.was,
            e.2 ∙ (λ i. Ended (first.allowance i).place ((ap (λ (z : CookieAt). z.count) is ∙ first.count) i)
                ∷ []),
          )) last.ends;
      allowance = last.allowance ∙ first.allowance;
      waits = last.waits ∙ first.waits;
    }

room_leaves : (k : Shape) (op : Op) (cookie : Option CookieAt) (s : SeatAt) (left : Option CookieAt) (t : SeatAt) → IsGood k s cookie
    → MakesRoom k op cookie s left t → AskLeaves cookie s.view t.view
room_leaves k op cookie s left t good room = ⊎_elim
    (λ (none : (LacksRoom op s → ⊥) × (left ≡ cookie) × (t ≡ s)). same_view cookie s.view s t none.2
    (nothing_left cookie s.view s.view (no_further s.view s.view refl) refl refl refl))
    (λ (some : LacksRoom op s × (left ≡ None) × AsksUntilNone k cookie s t). asks_on_leave k cookie s (some.2).held None t good
    (some.2).asks)
    room

module _ (k : Shape) (op : Op) (cookie : Option CookieAt) (s : SeatAt) (left : Option CookieAt) (t : SeatAt) (good : IsGood k s cookie)
    (room : MakesRoom k op cookie s left t) where
  abbrev leaves : AskLeaves cookie s.view t.view
  leaves = room_leaves k op cookie s left t good room

  pub room_ends : LeavesEnd cookie s.view t.view
  room_ends = record { ended = leaves.ended; advanced = leaves.advanced; ends = leaves.ends }

  pub room_allows : t.view.allowance ≡ s.view.allowance
  room_allows = leaves.allowance

-- whatever one finds when one asks next, it was asked for since the start
abbrev pub AsksSince : Shape → Option CookieAt → SeatAt → Option CookieAt → SeatAt → Type 0
AsksSince k cookie s now t = (left : Option CookieAt) (u : SeatAt) → Asks k now t left u
    → (held : List Holding) × AsksOn k cookie s held left u

pub still_asked : (k : Shape) (cookie : Option CookieAt) (s : SeatAt) (now : Option CookieAt) (t : SeatAt) (next : Option CookieAt)
    (u : SeatAt) → AsksSince k cookie s now t → Asks k now t next u → is_some next ≡ true → IsGood k u next
    → AsksSince k cookie s next u
still_asked k cookie s now t None u since asks some good = absurd (cc)
still_asked k cookie s now t (Some d) u since asks some good = λ left w more. let before = since (Some d) u asks in
    (record { cookie = d; seat = u } ∷ before.0, (before.1, good, more))

pub asked_out : (k : Shape) (cookie : Option CookieAt) (s : SeatAt) (now : Option CookieAt) (t : SeatAt) (next : Option CookieAt)
    (u : SeatAt) → AsksSince k cookie s now t → Asks k now t next u → is_some next ≡ false → AsksUntilNone k cookie s u
asked_out k cookie s now t None u since asks none = let all = since None u asks in record { held = all.0; asks = all.1 }
asked_out k cookie s now t (Some d) u since asks none = absurd (cc)

-- the marks that starting leaves, at most the beginning of a wait for everybody
record StartLeaves (v w : View) : Type 0 where
  pub began : List Mark
  pub advanced : HasAdvanced v w began
  pub begins : (began ≡ []) ⊎ (began ≡ Began v.allowance.place v.counts.waits 0 greatest_key ∷ [])
  pub tickets : v.allowance.tickets ≤ w.allowance.tickets + 1

none_started : (s t : SeatAt) → t ≡ s → StartLeaves s.view t.view
none_started s t same = subst (λ (z : SeatAt). StartLeaves s.view z.view) (sym same)
    (record { began = []; advanced = advanced_same; begins = inl refl; tickets = omega arith })

starts_leave : (left : Option CookieAt) (s : SeatAt) (held : Option CookieAt) (t : SeatAt) → Starts left s held t
    → StartLeaves s.view t.view
starts_leave (Some c) s held t starts = none_started s t starts.1
starts_leave None s None t starts = none_started s t starts.1
starts_leave None s (Some c) t starts = record {
  began = Began s.view.allowance.place s.view.counts.waits 0 greatest_key ∷ [];
  advanced = advanced_begun starts.begun;
  begins = inr refl;
  tickets = let e = ap (λ (z : View). z.allowance.tickets) starts.begun.others in omega arith;
}

module _ (k : Shape) (cookie : Option CookieAt) (s : SeatAt) (held : Option CookieAt) (t : SeatAt) (good : IsGood k s cookie)
    (settles : Settles k cookie s held t) where
  asking : AskLeaves cookie s.view settles.between.view
  asking = asks_leave k cookie s settles.left settles.between good settles.asks

  starting : StartLeaves settles.between.view t.view
  starting = starts_leave settles.left settles.between held t settles.starts

  pub settles_leave : LeavesWaits cookie s.view t.view
  settles_leave = record {
    ended = asking.ended;
    began = starting.began;
    advanced = advanced_on asking.advanced starting.advanced;
    ends = asking.ends;
    begins = subst (λ (z : ℕ × ℕ). (starting.began ≡ []) ⊎ (starting.began ≡ Began z.0 z.1 0 greatest_key ∷ []))
        (λ i. ((asking.allowance i).place, asking.waits i)) starting.begins;
  }

  pub settles_pay : s.view.allowance.tickets ≤ t.view.allowance.tickets + 1
  settles_pay = let a = ap (λ (z : Allowance). z.tickets) asking.allowance in let b = starting.tickets in omega arith

-- less than half of the room for retired slots is taken then, or a cookie is held
pub starts_few : (left : Option CookieAt) (s : SeatAt) (held : Option CookieAt) (t : SeatAt) → Starts left s held t → IsFewOrHeld t held
starts_few (Some c) s held t starts = inr (c, starts.0)
starts_few None s None t starts = subst (λ (z : SeatAt). IsFewOrHeld z None) (sym starts.1) (inl starts.0)
starts_few None s (Some c) t starts = inr (c, refl)

pub informed_sound : (w : View) → IsInformed w → AreSound w.seen
informed_sound w informed = record { legal = informed.legal; grace = informed.grace; reuse = informed.reuse }

-- a cookie that wasn't over before, and is found over: the seat learned so by the end of its wait
pub found_informed : (k : Shape) (c : CookieAt) (v : View) (d : CookieAt) (w : View) → c.over ≡ false → IsFoundOver k c v d w → IsInformed w
found_informed k c v d w going found = elim found.how [
  | inl before ↦ absurd (cc)
  | inr over ↦ (over.2).ended.informed
]

pub none_started_few : (held : Option CookieAt) (s : SeatAt) → is_some held ≡ false → length s.view.hands.retired < s.table.room / 2 → Starts held s None s
none_started_few None s none few = (few, refl)
none_started_few (Some c) s none few = absurd (cc)

pub one_started : (held : Option CookieAt) (s : SeatAt) (c : CookieAt) (t : SeatAt) → is_some held ≡ false → WasStarted s c t
    → Starts held s (Some c) t
one_started None s c t none started = started
one_started (Some d) s c t none started = absurd (cc)

-- A call answers as the marks say that it leaves.

-- the marks of what was done about the cookie
module _ (p key : ℕ) (us : List Update) where
  ends_plain : (cookie : Option CookieAt) (ms : List Mark) → (ms ≡ []) ⊎ ((c : CookieAt) × (cookie ≡ Some c) × (ms ≡ Ended p c.count ∷ []))
      → IsPlain p key us ms
  ends_plain cookie ms ends = ⊎_elim (λ (e : ms ≡ []). subst (IsPlain p key us) (sym e) (no_plain p key us))
      (λ (e : (c : CookieAt) × (cookie ≡ Some c) × (ms ≡ Ended p c.count ∷ [])). subst (IsPlain p key us) (sym e.2)
      (ended_plain p key us e.0.count)) ends

  begins_plain : (n : ℕ) (ms : List Mark) → (ms ≡ []) ⊎ (ms ≡ Began p n 0 greatest_key ∷ []) → IsPlain p key us ms
  begins_plain n ms begins = ⊎_elim (λ (e : ms ≡ []). subst (IsPlain p key us) (sym e) (no_plain p key us))
      (λ (e : ms ≡ Began p n 0 greatest_key ∷ []). subst (IsPlain p key us) (sym e) (began_plain p key us n)) begins

pub called_answers : (before : CookieClientAt) (op : Op) (told : Told) (after : CookieClientAt) → HasCalled before op told after
    → HasAnswered (Explains (room_of before.tree.shape)) (caller_of before.tree) op told (caller_of after.tree)
called_answers before op told after call =
    let v : View = before.tree.seat.view in
    let r : View = call.ready.view in
    let m : View = call.called.view in
    let w : View = after.tree.seat.view in
    let explains = Explains (room_of before.tree.shape) in
    let key = key_of op in
    let us = updates_of w.seen in
    let answered = call_answers (record before.tree { seat = call.ready }) op told (record before.tree { seat = call.called }) call.call in
    let ends = call.ends in
    let settled = call.waits in
    let advanced = settled.advanced in
    let place : m.allowance.place ≡ r.allowance.place = answered.place in
    let first = ends_plain v.allowance.place key us before.cookie ends.ended ends.ends in
    let last = both_plain r.allowance.place key us settled.ended settled.began
    (ends_plain r.allowance.place key us call.held settled.ended
    (subst (λ p. (settled.ended ≡ []) ⊎ ((c : CookieAt) × (call.held ≡ Some c)
    × (settled.ended ≡ Ended p c.count ∷ []))) place settled.ends))
    (begins_plain r.allowance.place key us m.counts.waits settled.began
    (subst (λ p. (settled.began ≡ []) ⊎ (settled.began ≡ Began p m.counts.waits 0 greatest_key ∷ [])) place settled.begins)) in
    let until = answered_longer explains (caller_of (record before.tree { seat = call.ready }))
    (caller_of (record before.tree { seat = call.called })) (caller_of after.tree) op told
    (settled.ended ++ settled.began) answered last.none advanced.begins
    advanced.same (ap (λ p. own_of p w.seen) advanced.same ∙ advanced.own) last.keyed last.waits (met_its_own w) in
    answered_earlier explains (caller_of before.tree) (caller_of (record before.tree { seat = call.ready }))
    (caller_of after.tree) op told ends.ended first.none ends.advanced.same ends.advanced.begins until
    (ap (λ p. own_of p r.seen) ends.advanced.same ∙ ends.advanced.own) first.keyed first.waits

-- A call of the tree beside a cookie, and calls one after another.

-- a cookie beside a call of the tree
pub call_keeps : (k : Shape) (op : Op) (told : Told) (s t : SeatAt) → IsToldThenLifts k s.view op told t.view → KeepsSlots s t → KeepsCookies s t
call_keeps k op told s t is slots =
    let answers = told_answers k s.view t.view op told is in record {
      latest = record { place = answers.place; seen = answers.since; waits = slots.waits; wait = slots.wait };
      slots = λ same. let none = slots.slots same in
          record { retired = stay_retired s.view t.view none.retired.0 none.retired.1; listed = none.listed };
    }

pub good_stays : (k : Shape) (cookie : Option CookieAt) (s t : SeatAt) → KeepsCookies s t → IsGood k s cookie → IsGood k t cookie
good_stays k None s t keeps good = tt
good_stays k (Some c) s t keeps good = let still = cookies_stay k c s t keeps (not_over c good.0) good.1 good.2 in (good.0, still.0, still.1, good.3)

-- what is done about the cookie before a call, the call, and what is done about the cookie after it
pub made_call : (shape : Shape) (table : TableAt) (cookie left held : Option CookieAt) (s ready mid t : SeatAt) (op : Op) (told : Told)
    → IsGood shape s cookie → MakesRoom shape op cookie s left ready
    → tree.HasCalled (record { shape = shape; table = table; seat = ready }) op told (record { shape = shape; table = table; seat = mid })
    → IsGood shape mid left → Settles shape left mid held t → IsQuietSeat t → (AreSound mid.view.seen → AreSound t.view.seen)
    → HasCalled (record { tree = record { shape = shape; table = table; seat = s }; cookie = cookie }) op told
    (record { tree = record { shape = shape; table = table; seat = t }; cookie = held })
made_call shape table cookie left held s ready mid t op told first room call good settles quiet sound = record {
  held = left;
  ready = ready;
  called = mid;
  room = room;
  call = call;
  settles = settles;
  same = refl;
  ends = room_ends shape op cookie s left ready first room;
  waits = settles_leave shape left mid held t good settles;
  few = starts_few settles.left settles.between held t settles.starts;
  tickets = let same = ap (λ (z : Allowance). z.tickets) (room_allows shape op cookie s left ready first room) in let a = call.keeps.tickets in
      let b = settles_pay shape left mid held t good settles in omega arith;
  quiet = quiet;
  sound = sound (informed_sound mid.view call.informed);
}

-- a chain of calls, from a client whose place had made no update
pub chains_meet : ChainsMeetFronts
chains_meet ops tolds before after none chain =
    told_meets (Explains (room_of before.tree.shape)) (caller_of before.tree) ops tolds (caller_of after.tree)
    (chain_told HasCalled (λ (c : CookieClientAt). c.tree)
    (λ c op told d call. (
      ap (λ (z : ClientAt). z.shape) call.same,
      called_answers c op told d call,
    )) before.tree.shape ops tolds before after refl none chain)

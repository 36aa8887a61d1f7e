-- Calls with a lift behind the answer: it stays one.
-- Marks that a client leaves after an answer, or before a call: the answer stays one.
use Rattle.std.proofs.Common.{◌≡◌, ℕ, ◌≤◌, ◌-◌, Bool, true, false, MatchBool, List, [], ◌∷◌, ◌++◌, length, Some, inl, refl, sym, ap, subst, ◌∙◌, arith, append_assoc, append-nil, length-append}
use Rattle.std.specs.List.{AllByRecursion, slice_get}
use Rattle.std.proofs.lemmas.Option.{slice_get_within}
use mathlib.Core.List.{IsPrefix}
use Rattle.prcu_model.specs.declared.operation.Op.{Op}
use Rattle.prcu_model.specs.declared.operation.Reply.{Reply}
use Rattle.prcu_model.specs.declared.operation.Told.{Told}
use Rattle.prcu_model.specs.declared.operation.Update.{Update}
use Rattle.prcu_model.specs.Dictionary.{Dictionary, key_of, map_at, Confirms, tells_update, Explains}
use Rattle.prcu_model.proofs.ListFacts.{prefix_trans, all_map, all_append}
use Rattle.prcu_marks.specs.declared.mark.Mark.{Mark}
use Rattle.prcu_marks.specs.declared.mark.Mark.TheVariants.{Began, Ended}
use Rattle.prcu_marks.specs.Marks.{greatest_key, updates_of, own_of}
use Rattle.prcu_marks.specs.Callers.{Caller, HasSeenItsOwn, IsLeftBy, entered_for, WaitsFor, HasMadeUpdate, WasExplained, HasAnswered}
use Rattle.prcu_marks.proofs.Callers.{map_at-longer, waits_longer, slice_get-longer, told_meets}
use Rattle.prcu_marks.proofs.Marks.{updates_of-append, entered_for-append}
use Rattle.citrus_tree.specs.Going.{IsOfTry}
use Rattle.citrus_tree.proofs.Clients.{try_left, try_waits, no_updates, made_answers, met_its_own, chain_told}
use Rattle.prcu_model.specs.declared.operation.Op.TheVariants.{Put, Get, Del, Set}
use Rattle.core_state.specs.declared.shape.Shape.{Shape}
use Rattle.core_state.specs.declared.view.View.{View}
use Rattle.tree_points.proofs.Locks.{advanced_same}
use Rattle.citrus_tree.specs.Replies.{ClientAt, caller_of, IsTold, room_of}
use Rattle.tree_lift.specs.Lifts.{LeavesNoUpdate, IsToldThenLifts, HasCalled, ChainsMeetFronts}

-- ---- more marks after an answer

module _ (explains : Dictionary → Op → Reply → Type 0) (before mid after : Caller) (op : Op) (told : Told) (more : List Mark)
    (answered : HasAnswered explains before op told mid) (none : updates_of more ≡ []) (since : IsPrefix mid.seen after.seen) where
  abbrev rest : List Update
  rest = updates_of since.0

  seen_is : updates_of after.seen ≡ updates_of mid.seen ++ updates_of since.0
  seen_is = ap updates_of (sym since.1) ∙ updates_of-append mid.seen since.0

  updates_are : updates_of (answered.marks ++ more) ≡ updates_of answered.marks
  updates_are = updates_of-append answered.marks more ∙ ap (λ us. updates_of answered.marks ++ us) none
      ∙ append-nil (updates_of answered.marks)

  reply_longer : (b : Bool) → MatchBool b (HasMadeUpdate before op told answered.marks mid.seen)
      (WasExplained explains before op told answered.marks mid.seen)
      → MatchBool b (HasMadeUpdate before op told (answered.marks ++ more) after.seen)
      (WasExplained explains before op told (answered.marks ++ more) after.seen)
  reply_longer true made =
      let inside = slice_get_within (updates_of mid.seen) (told.number - 1) _ made.stands in record {
        left = updates_are ∙ made.left;
        later = made.later;
        stands = subst (λ us. slice_get us (told.number - 1) ≡ Some (record { caller = before.place; op = op })) (sym seen_is)
            (slice_get-longer (updates_of mid.seen) (updates_of since.0) (told.number - 1) _ made.stands);
        confirms = subst (λ d. Confirms d op told.reply)
            (sym (ap (λ us. map_at us (told.number - 1)) seen_is
            ∙ map_at-longer (updates_of mid.seen) (updates_of since.0) (told.number - 1) (omega arith))) made.confirms;
      }
  reply_longer false was =
      let long = ap length seen_is in
      let both = length-append (updates_of mid.seen) (updates_of since.0) in
      let until = was.until in record {
        left = updates_are ∙ was.left;
        front = was.front;
        since = was.since;
        until = omega arith;
        explained = subst (λ d. explains d op told.reply)
            (sym (ap (λ us. map_at us was.front) seen_is
            ∙ map_at-longer (updates_of mid.seen) (updates_of since.0) was.front was.until)) was.explained;
      }

  -- further marks of the place that are of no update, with sections for the key alone
  pub answered_longer : after.place ≡ mid.place → after.own ≡ mid.own ++ more → AllByRecursion (IsLeftBy before.place (key_of op)) more
      → AllByRecursion (WaitsFor (updates_of after.seen)) more → HasSeenItsOwn after
      → HasAnswered explains before op told after
  answered_longer place own keyed waits met = record {
    place = place ∙ answered.place;
    marks = answered.marks ++ more;
    own = own ∙ ap (λ xs. xs ++ more) answered.own ∙ append_assoc before.own answered.marks more;
    keyed = all_append (IsLeftBy before.place (key_of op)) answered.marks more answered.keyed keyed;
    entered = let one = answered.entered in let both = entered_for-append before.place (key_of op) answered.marks more in omega arith;
    waits = all_append (WaitsFor (updates_of after.seen)) answered.marks more
        (subst (λ us. AllByRecursion (WaitsFor us) answered.marks) (sym seen_is)
        (all_map (WaitsFor (updates_of mid.seen)) (WaitsFor (updates_of mid.seen ++ updates_of since.0)) answered.marks
        (waits_longer (updates_of mid.seen) (updates_of since.0)) answered.waits))
        waits;
    since = prefix_trans before.seen mid.seen after.seen answered.since since;
    met = met;
    reply = reply_longer (tells_update told.reply) answered.reply;
  }

-- ---- marks before a call: its answer is one of what began with them

module _ (explains : Dictionary → Op → Reply → Type 0) (before mid after : Caller) (op : Op) (told : Told) (first : List Mark)
    (none : updates_of first ≡ []) (here : mid.place ≡ before.place) (since : IsPrefix before.seen mid.seen)
    (answered : HasAnswered explains mid op told after) where
  updates_later : updates_of (first ++ answered.marks) ≡ updates_of answered.marks
  updates_later = updates_of-append first answered.marks ∙ ap (λ us. us ++ updates_of answered.marks) none

  fewer : length (updates_of before.seen) ≤ length (updates_of mid.seen)
  fewer = let long = ap (λ h. length (updates_of h)) (sym since.1) ∙ ap length (updates_of-append before.seen since.0)
      ∙ length-append (updates_of before.seen) (updates_of since.0) in omega arith

  reply_earlier : (b : Bool) → MatchBool b (HasMadeUpdate mid op told answered.marks after.seen)
      (WasExplained explains mid op told answered.marks after.seen)
      → MatchBool b (HasMadeUpdate before op told (first ++ answered.marks) after.seen)
      (WasExplained explains before op told (first ++ answered.marks) after.seen)
  reply_earlier true made =
      let few = fewer in
      let later = made.later in record {
        left = updates_later ∙ made.left ∙ (λ i. record { caller = here i; op = op } ∷ []);
        later = omega arith;
        stands = subst (λ p. slice_get (updates_of after.seen) (told.number - 1) ≡ Some (record { caller = p; op = op })) here made.stands;
        confirms = made.confirms;
      }
  reply_earlier false was =
      let few = fewer in
      let from = was.since in record {
        left = updates_later ∙ was.left;
        front = was.front;
        since = omega arith;
        until = was.until;
        explained = was.explained;
      }

  -- earlier marks of the place of this kind
  pub answered_earlier : mid.own ≡ before.own ++ first → AllByRecursion (IsLeftBy before.place (key_of op)) first
      → AllByRecursion (WaitsFor (updates_of after.seen)) first → HasAnswered explains before op told after
  answered_earlier own keyed waits = record {
    place = answered.place ∙ here;
    marks = first ++ answered.marks;
    own = answered.own ∙ ap (λ xs. xs ++ answered.marks) own ∙ append_assoc before.own first answered.marks;
    keyed = all_append (IsLeftBy before.place (key_of op)) first answered.marks keyed
        (subst (λ p. AllByRecursion (IsLeftBy p (key_of op)) answered.marks) here answered.keyed);
    entered = let one : 1 ≤ entered_for before.place (key_of op) answered.marks =
        subst (λ p. 1 ≤ entered_for p (key_of op) answered.marks) here answered.entered in
        let both = entered_for-append before.place (key_of op) first answered.marks in omega arith;
    waits = all_append (WaitsFor (updates_of after.seen)) first answered.marks waits answered.waits;
    since = prefix_trans before.seen mid.seen after.seen since answered.since;
    met = answered.met;
    reply = reply_earlier (tells_update told.reply) answered.reply;
  }

-- ---- marks that may follow an answer, or come before a call

module _ (p key : ℕ) (us : List Update) where
  -- at the place: of no update, and with sections for the key alone
  pub record IsPlain (ms : List Mark) : Type 0 where
    pub none : updates_of ms ≡ []
    pub keyed : AllByRecursion (IsLeftBy p key) ms
    pub waits : AllByRecursion (WaitsFor us) ms

  pub ended_plain : (n : ℕ) → IsPlain (Ended p n ∷ [])
  ended_plain n = record { none = refl; keyed = (refl, tt); waits = (tt, tt) }

  pub began_plain : (n : ℕ) → IsPlain (Began p n 0 greatest_key ∷ [])
  began_plain n = record { none = refl; keyed = (refl, tt); waits = (inl (refl, refl), tt) }

  pub no_plain : IsPlain []
  no_plain = record { none = refl; keyed = tt; waits = tt }

  pub both_plain : (xs ys : List Mark) → IsPlain xs → IsPlain ys → IsPlain (xs ++ ys)
  both_plain xs ys a b = record {
    none = updates_of-append xs ys ∙ (λ i. a.none i ++ b.none i);
    keyed = all_append (IsLeftBy p key) xs ys a.keyed b.keyed;
    waits = all_append (WaitsFor us) xs ys a.waits b.waits;
  }

  pub tries_plain : (ms : List Mark) → AllByRecursion (IsOfTry p key) ms → IsPlain ms
  tries_plain ms each = record {
    none = no_updates p key ms each;
    keyed = all_map (IsOfTry p key) (IsLeftBy p key) ms (try_left p key) each;
    waits = all_map (IsOfTry p key) (WaitsFor us) ms (try_waits us p key) each;
  }

-- A call with a lift behind it answers as its marks say, and calls one after another.

-- behind the answer came nothing, or a lift
pub told_alone : (k : Shape) (v : View) (op : Op) (told : Told) (w : View) → IsTold k v op told w → IsToldThenLifts k v op told w
told_alone k v (Put key value) told w puts = record {
  answered = w;
  puts = puts;
  lift = record { marks = []; advanced = advanced_same; each = tt };
}
told_alone k v _ told w is = is

pub told_lifted : (k : Shape) (v : View) (op : Op) (key value : ℕ) (told : Told) (u w : View) → op ≡ Put key value → IsTold k v op told u
    → LeavesNoUpdate u key w → IsToldThenLifts k v op told w
told_lifted k v op key value told u w is puts lift = subst (λ (o : Op). IsToldThenLifts k v o told w) (sym is)
    (record { answered = u; puts = subst (λ (o : Op). IsTold k v o told u) is puts; lift = lift })

-- the caller that a view is
abbrev pub caller_at : View → Caller
caller_at v = record { place = v.allowance.place; own = own_of v.allowance.place v.seen; seen = v.seen }

-- a lift leaves an answer one
lifted_answers : (explains : Dictionary → Op → Reply → Type 0) (before : Caller) (op : Op) (told : Told) (u w : View)
    → LeavesNoUpdate u (key_of op) w → HasAnswered explains before op told (caller_at u) → HasAnswered explains before op told (caller_at w)
lifted_answers explains before op told u w lift answered =
    let advanced = lift.advanced in
    let plain = tries_plain before.place (key_of op) (updates_of w.seen) lift.marks
    (subst (λ p. AllByRecursion (IsOfTry p (key_of op)) lift.marks) answered.place lift.each) in
    answered_longer explains before (caller_at u) (caller_at w) op told lift.marks answered plain.none advanced.begins advanced.same
    (ap (λ p. own_of p w.seen) advanced.same ∙ advanced.own) plain.keyed plain.waits (met_its_own w)

pub told_answers : (k : Shape) (v w : View) (op : Op) (told : Told) → IsToldThenLifts k v op told w
    → HasAnswered (Explains (room_of k)) (caller_at v) op told (caller_at w)
told_answers k v w (Put key value) told is = lifted_answers (Explains (room_of k)) (caller_at v) (Put key value) told is.answered w is.lift
    (made_answers k v is.answered (Put key value) told is.puts)
told_answers k v w (Get key) told is = made_answers k v w (Get key) told is
told_answers k v w (Del key) told is = made_answers k v w (Del key) told is
told_answers k v w (Set key value) told is = made_answers k v w (Set key value) told is

pub call_answers : (before : ClientAt) (op : Op) (told : Told) (after : ClientAt) → HasCalled before op told after
    → HasAnswered (Explains (room_of before.shape)) (caller_of before) op told (caller_of after)
call_answers before op told after call = told_answers before.shape before.seat.view after.seat.view op told call.answer

-- a chain of calls, from a client whose place had made no update
pub chains_meet : ChainsMeetFronts
chains_meet ops tolds before after none chain =
    told_meets (Explains (room_of before.shape)) (caller_of before) ops tolds (caller_of after)
    (chain_told HasCalled (λ c. c) (λ c op told d call. (call.shape, call_answers c op told d call))
    before.shape ops tolds before after refl none chain)

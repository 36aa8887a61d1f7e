-- A call of a client answers as its marks say.
use Rattle.std.proofs.Common.{◌≡◌, ℕ, ◌+◌, ◌-◌, ◌*◌, ◌≤◌, ◌==◌, true, false, cond, MatchBool, List, [], ◌∷◌, ◌++◌, length, Option, Some, None, is_some, refl, sym, ap, subst, ◌∙◌, arith, inl, inr, eq-eqb, append_assoc, append-nil}
use Rattle.std.specs.List.{AllByRecursion, slice_get}
use Rattle.std.specs.FinMap as finite
use Rattle.std.proofs.lemmas.List.{take_all, take_at}
use Rattle.std.proofs.Math.Nat.{mul-le-mul_right}
use mathlib.Core.List.{IsPrefix}
use mathlib.Core.Logic.{dite}
use native.Mathlib.Decide.{dec_le}
use Rattle.prcu_model.specs.declared.operation.Op.{Op}
use Rattle.prcu_model.specs.declared.operation.Op.TheVariants.{Put, Get, Del, Set}
use Rattle.prcu_model.specs.declared.operation.Reply.{Reply}
use Rattle.prcu_model.specs.declared.operation.Reply.TheVariants.{New, Old, Full, Val, Absent, Gone, Was}
use Rattle.prcu_model.specs.declared.operation.Told.{Told}
use Rattle.prcu_model.specs.declared.operation.Update.{Update}
use Rattle.prcu_model.specs.Dictionary.{Dictionary, key_of, map_of, map_at, Explains, Confirms, tells_update}
use Rattle.prcu_model.specs.Fronts.{own_updates}
use Rattle.prcu_model.proofs.ListFacts.{prefix_trans, all_map, all_append}
use Rattle.prcu_marks.specs.declared.mark.Mark.{Mark}
use Rattle.prcu_marks.specs.declared.mark.Mark.TheVariants.{Entered, Left, Began, Ended, Done}
use Rattle.prcu_marks.specs.Callers.{IsChain, Caller, HasSeenItsOwn, IsLeftBy, entered_for, IsMoveWait, WaitsFor, HasMadeUpdate, WasExplained, HasAnswered}
use Rattle.prcu_marks.specs.Callers as callers
use Rattle.prcu_marks.specs.Marks.{updates_of, own_of}
use Rattle.prcu_marks.proofs.Callers.{HasTold, chain_tells, map_at-longer}
use Rattle.prcu_marks.proofs.Marks.{updates_of-append, updates_below, entered_for-append, own_twice}
use Rattle.core_state.specs.declared.shape.Shape.{Shape}
use Rattle.core_state.specs.declared.view.View.{View}
use Rattle.tree_points.specs.Points.{HasAdvanced}
use Rattle.tree_points.proofs.Locks.{advanced_same}
use Rattle.citrus_tree.specs.Going.{IsOfTry}
use Rattle.citrus_tree.specs.Lookups.{Looked, told_of, Gets}
use Rattle.citrus_tree.specs.Replies.{WasAnswered, HasUpdated, HasTried, PutsBy, SetsBy, DelsBy, ClientAt, caller_of, IsTold, room_of}
use Rattle.citrus_tree.proofs.Leavings.{goes_looked, was_answered}

-- ---- marks of a call before its update

pub try_left : (place key : ℕ) (m : Mark) → IsOfTry place key m → IsLeftBy place key m
try_left place key (Began p c low high) is = is.0
try_left place key (Entered p c x) is = is
try_left place key (Left p c) is = is
try_left place key (Ended p c) is = is
try_left place key _ is = absurd is

pub try_waits : (us : List Update) (place key : ℕ) (m : Mark) → IsOfTry place key m → WaitsFor us m
try_waits us place key (Began p c low high) is = inl (is.1, (let top = is.2 in omega arith))
try_waits us place key (Done u) is = absurd is
try_waits us place key _ is = tt

pub no_updates : (place key : ℕ) (ms : List Mark) → AllByRecursion (IsOfTry place key) ms → updates_of ms ≡ []
no_updates place key [] all = refl
no_updates place key (Done u ∷ ms) all = absurd all.0
no_updates place key (_ ∷ ms) all = no_updates place key ms all.1

-- who has seen more has seen no fewer updates, and as many maps more
updates_more : (a b : List Mark) → IsPrefix a b → (more : List Update) × (updates_of b ≡ updates_of a ++ more)
updates_more a b p = (updates_of p.0, ap updates_of (sym p.1) ∙ updates_of-append a p.0)

at_end : (us more : List Update) (x : Update) → slice_get (us ++ x ∷ more) (length us) ≡ Some x
at_end [] more x = refl
at_end (y ∷ us) more x = at_end us more x

-- the caller that a view is
abbrev of_view : View → Caller
of_view v = record { place = v.allowance.place; own = own_of v.allowance.place v.seen; seen = v.seen }

pub met_its_own : (v : View) → HasSeenItsOwn (of_view v)
met_its_own v = sym (own_twice v.allowance.place v.seen)

module _ (explains : Dictionary → Op → Reply → Type 0) (v w : View) (op : Op) (told : Told) where
  own_grows : (marks : List Mark) → HasAdvanced v w marks → own_of w.allowance.place w.seen ≡ own_of v.allowance.place v.seen ++ marks
  own_grows marks advanced = ap (λ p. own_of p w.seen) advanced.same ∙ advanced.own

  -- a call that made no update
  unchanged : (tries : List Mark) → HasTried v (key_of op) tries w → tells_update told.reply ≡ false → (front : ℕ)
      → length (updates_of v.seen) ≤ front → front ≤ length (updates_of w.seen) → explains (map_at (updates_of w.seen) front) op told.reply
      → HasAnswered explains (of_view v) op told (of_view w)
  unchanged tries t tells front low high explained = record {
    place = t.own.same;
    marks = tries;
    own = own_grows tries t.own;
    keyed = all_map (IsOfTry v.allowance.place (key_of op)) (IsLeftBy v.allowance.place (key_of op)) tries
        (try_left v.allowance.place (key_of op)) t.tried.each;
    entered = t.tried.entered;
    waits = all_map (IsOfTry v.allowance.place (key_of op)) (WaitsFor (updates_of w.seen)) tries
        (try_waits (updates_of w.seen) v.allowance.place (key_of op)) t.tried.each;
    since = t.own.begins;
    met = met_its_own w;
    reply = subst (λ b. MatchBool b (HasMadeUpdate (of_view v) op told tries w.seen)
        (WasExplained explains (of_view v) op told tries w.seen)) (sym tells)
        (record {
          left = no_updates v.allowance.place (key_of op) tries t.tried.each;
          front = front;
          since = low;
          until = high;
          explained = explained;
        });
  }

  -- a call that its last search answered
  answered : (tries : List Mark) (answer : Option ℕ) → HasTried v (key_of op) tries w → WasAnswered v (key_of op) answer w
      → tells_update told.reply ≡ false
      → ((m : Dictionary) → finite.get m (key_of op) ≡ answer → explains m op told.reply)
      → HasAnswered explains (of_view v) op told (of_view w)
  answered tries answer t a tells explained =
      let to_end : IsPrefix a.until w.seen = prefix_trans a.until (a.until ++ Left v.allowance.place a.count ∷ []) w.seen
      (Left v.allowance.place a.count ∷ [], refl) a.seen in
      let more = updates_more a.until w.seen to_end in
      let front : ℕ = a.said.front in
      let made = a.said.made in
      let from = a.said.since in
      let low = updates_below v.seen a.before a.since in
      let high = updates_below a.until w.seen to_end in
      unchanged tries t tells a.said.front (omega arith) (omega arith)
      (explained (map_at (updates_of w.seen) a.said.front)
      (ap (λ us. finite.get (map_at us a.said.front) (key_of op)) more.1
      ∙ ap (λ m. finite.get m (key_of op)) (map_at-longer (updates_of a.until) more.0 a.said.front a.said.made) ∙ a.said.answers))

  -- a call that made its update, with the marks that it left before and after
  updated : (tries before after : List Mark) → HasUpdated v op tries before after told.number w → updates_of after ≡ []
      → entered_for v.allowance.place (key_of op) after ≡ entered_for v.allowance.place (key_of op) after
      → AllByRecursion (IsLeftBy v.allowance.place (key_of op)) after → AllByRecursion (WaitsFor (updates_of w.seen)) after
      → tells_update told.reply ≡ true → Confirms (map_of (updates_of before)) op told.reply
      → HasAnswered explains (of_view v) op told (of_view w)
  updated tries before after u none same keyed waits tells confirms =
      let mark : Mark = Done (record { caller = v.allowance.place; op = op }) in
      let more = updates_more (before ++ Done (record { caller = v.allowance.place; op = op }) ∷ []) w.seen u.stands in
      let us_is : updates_of w.seen ≡ updates_of before ++ record { caller = v.allowance.place; op = op } ∷ more.0 =
      more.1 ∙ ap (λ us. us ++ more.0) (updates_of-append before (Done (record { caller = v.allowance.place; op = op }) ∷ []))
      ∙ append_assoc (updates_of before) (record { caller = v.allowance.place; op = op } ∷ []) more.0 in
      let number = u.number_is in
      let below = updates_below v.seen before u.since in
      let place_of : told.number - 1 ≡ length (updates_of before) = omega arith in
      let upto : List Mark = tries ++ Done (record { caller = v.allowance.place; op = op }) ∷ [] in
      let split = entered_for-append v.allowance.place (key_of op)
      (tries ++ Done (record { caller = v.allowance.place; op = op }) ∷ []) after in
      let inner = entered_for-append v.allowance.place (key_of op) tries (Done (record { caller = v.allowance.place; op = op }) ∷ []) in
      let some_search = u.tried.entered in
      record {
        place = u.own.same;
        marks = (tries ++ Done (record { caller = v.allowance.place; op = op }) ∷ []) ++ after;
        own = own_grows ((tries ++ Done (record { caller = v.allowance.place; op = op }) ∷ []) ++ after) u.own;
        keyed = all_append (IsLeftBy v.allowance.place (key_of op))
            (tries ++ Done (record { caller = v.allowance.place; op = op }) ∷ []) after
            (all_append (IsLeftBy v.allowance.place (key_of op)) tries (Done (record { caller = v.allowance.place; op = op }) ∷ [])
            (all_map (IsOfTry v.allowance.place (key_of op)) (IsLeftBy v.allowance.place (key_of op)) tries
            (try_left v.allowance.place (key_of op)) u.tried.each) (refl, tt)) keyed;
        entered = omega arith;
        waits = all_append (WaitsFor (updates_of w.seen)) (tries ++ Done (record { caller = v.allowance.place; op = op }) ∷ []) after
            (all_append (WaitsFor (updates_of w.seen)) tries (Done (record { caller = v.allowance.place; op = op }) ∷ [])
            (all_map (IsOfTry v.allowance.place (key_of op)) (WaitsFor (updates_of w.seen)) tries
            (try_waits (updates_of w.seen) v.allowance.place (key_of op)) u.tried.each) (tt, tt)) waits;
        since = u.own.begins;
        met = met_its_own w;
        reply = subst (λ b. MatchBool b (HasMadeUpdate (of_view v) op told
            ((tries ++ Done (record { caller = v.allowance.place; op = op }) ∷ []) ++ after) w.seen)
            (WasExplained explains (of_view v) op told
            ((tries ++ Done (record { caller = v.allowance.place; op = op }) ∷ []) ++ after) w.seen)) (sym tells)
            (record {
              left = updates_of-append (tries ++ Done (record { caller = v.allowance.place; op = op }) ∷ []) after
                  ∙ ap (λ z. updates_of (tries ++ Done (record { caller = v.allowance.place; op = op }) ∷ []) ++ z) none
                  ∙ append-nil (updates_of (tries ++ Done (record { caller = v.allowance.place; op = op }) ∷ []))
                  ∙ updates_of-append tries (Done (record { caller = v.allowance.place; op = op }) ∷ [])
                  ∙ ap (λ z. z ++ record { caller = v.allowance.place; op = op } ∷ [])
                  (no_updates v.allowance.place (key_of op) tries u.tried.each);
              later = omega arith;
              stands = subst (λ (z : List Update × ℕ). slice_get z.0 z.1 ≡ Some (record { caller = v.allowance.place; op = op }))
                  (λ i. (sym us_is i, sym place_of i)) (at_end (updates_of before) more.0 (record { caller = v.allowance.place; op = op }));
              confirms = subst (λ d. Confirms d op told.reply)
                  (sym (ap (λ (z : List Update × ℕ). map_at z.0 z.1) (λ i. (us_is i, place_of i))
                  ∙ ap map_of (take_at (updates_of before) (record { caller = v.allowance.place; op = op } ∷ more.0)
                  (length (updates_of before)) refl))) confirms;
            });
      }

  -- the map just before the update, and where it stands in the history
  update_there : (tries before after : List Mark) → HasUpdated v op tries before after told.number w
      → (slice_get (updates_of w.seen) (length (updates_of before)) ≡ Some (record { caller = v.allowance.place; op = op }))
      × (map_at (updates_of w.seen) (length (updates_of before)) ≡ map_of (updates_of before))
  update_there tries before after u =
      let more = updates_more (before ++ Done (record { caller = v.allowance.place; op = op }) ∷ []) w.seen u.stands in
      let us_is : updates_of w.seen ≡ updates_of before ++ record { caller = v.allowance.place; op = op } ∷ more.0 =
      more.1 ∙ ap (λ us. us ++ more.0) (updates_of-append before (Done (record { caller = v.allowance.place; op = op }) ∷ []))
      ∙ append_assoc (updates_of before) (record { caller = v.allowance.place; op = op } ∷ []) more.0 in (
        ap (λ us. slice_get us (length (updates_of before))) us_is
            ∙ at_end (updates_of before) more.0 (record { caller = v.allowance.place; op = op }),
        ap (λ us. map_at us (length (updates_of before))) us_is
            ∙ ap map_of (take_at (updates_of before) (record { caller = v.allowance.place; op = op } ∷ more.0)
            (length (updates_of before)) refl),
      )

absent : (m : Dictionary) (key : ℕ) → finite.get m key ≡ None → finite.contains_key m key ≡ false
absent m key none = ap is_some none

-- a lookup by itself is a call that its one search answered
looked_tried : (v w : View) (key : ℕ) (answer : Option ℕ) → Looked v key answer w
    → HasTried v key (Entered v.allowance.place v.counts.sections key ∷ (Left v.allowance.place v.counts.sections ∷ [])) w
    × WasAnswered v key answer w
looked_tried v w key answer l =
    let p : ℕ = v.allowance.place in
    let one : entered_for p key (Entered p v.counts.sections key ∷ (Left p v.counts.sections ∷ [])) ≡ 1 =
    ap (λ b. cond b (cond (key == key) 1 0) 0 + 0) (eq-eqb p p refl) ∙ ap (λ b. cond b 1 0 + 0) (eq-eqb key key refl) in (
      record {
        tried = record { each = ((refl, refl), (refl, tt)); entered = omega arith; once = omega arith };
        own = (goes_looked l).advanced;
      },
      was_answered l advanced_same,
    )

-- What each other place may hold back beyond 16 retired slots is told as slots that the table hasn't.
kept_apart : (slots pairs room others : ℕ) → slots ≤ pairs + (room + 4) * others → slots - (room - 16) * others ≤ pairs + 20 * others
kept_apart slots pairs room others fills = dite (dec_le 16 room)
    (λ many.
    (let same : (more : ℕ) → (more + 16 + 4) * others ≡ more * others + 20 * others = λ more. omega arith in
    let all : (room + 4) * others ≡ (room - 16) * others + 20 * others =
    ap (λ r. (r + 4) * others) (let e : room ≡ (room - 16) + 16 = omega arith in e) ∙ same (room - 16) in
    omega arith))
    (λ few. (let fewer = mul-le-mul_right others (let e : room + 4 ≤ 20 = omega arith in e) in omega arith))

-- With room for 16 the account's table has all slots.
pub sixteen_room : (k : Shape) → k.room ≡ 16 → room_of k ≡ record { scripts = k.places; slots = k.slots }
sixteen_room k is = (λ i. record { scripts = k.places; slots = k.slots - (is i - 16) * (k.places - 1) })
    ∙ (λ i. record { scripts = k.places; slots = all i })
  where
    all : k.slots - (16 - 16) * (k.places - 1) ≡ k.slots
    all = omega arith

-- each call answers as its marks say
module _ (k : Shape) (v w : View) where
  got : (key : ℕ) (told : Told) → Gets v key told w → HasAnswered (Explains (room_of k)) (of_view v) (Get key) told (of_view w)
  got key told g = subst (λ t. HasAnswered (Explains (room_of k)) (of_view v) (Get key) t (of_view w)) (sym g.1) (by g.0 g.2)
    where
      by : (answer : Option ℕ) → Looked v key answer w
          → HasAnswered (Explains (room_of k)) (of_view v) (Get key) (told_of answer) (of_view w)
      by None l = let t = looked_tried v w key None l in
          answered (Explains (room_of k)) v w (Get key) (record { reply = Absent; number = 0 }) _ None t.0 t.1 refl
          (λ m none. absent m key none)
      by (Some value) l = let t = looked_tried v w key (Some value) l in
          answered (Explains (room_of k)) v w (Get key) (record { reply = Val value; number = 0 }) _ (Some value) t.0 t.1 refl (λ m is. is)

  was_put : (key value : ℕ) (tries : List Mark) (reply : Reply) (number : ℕ) → PutsBy k v key value tries reply number w
      → HasAnswered (Explains (room_of k)) (of_view v) (Put key value) (record { reply = reply; number = number }) (of_view w)
  was_put key value tries Old number p = answered (Explains (room_of k)) v w (Put key value) (record { reply = Old; number = number }) tries
      (Some p.2.0) p.1 p.2.1 refl (λ m is. ap is_some is)
  was_put key value tries New number p = updated (Explains (room_of k)) v w (Put key value)
      (record { reply = New; number = number }) tries p.0 [] p.1 refl refl tt tt refl tt
  was_put key value tries Full number p =
      let now : map_at (updates_of w.seen) (length (updates_of w.seen)) ≡ map_of (updates_of w.seen) =
      ap map_of (take_all (length (updates_of w.seen)) (updates_of w.seen) (omega arith)) in
      unchanged (Explains (room_of k)) v w (Put key value) (record { reply = Full; number = number }) tries p.1 refl
      (length (updates_of w.seen)) (updates_below v.seen w.seen p.1.own.begins) (omega arith)
      (subst (λ d. Explains (room_of k) d (Put key value) Full) (sym now)
      (kept_apart k.slots (finite.len (map_of (updates_of w.seen))) k.room (k.places - 1) p.3.fills))
  was_put key value tries _ number p = absurd p

  was_set : (key value : ℕ) (tries : List Mark) (reply : Reply) (number : ℕ) → SetsBy v key value tries reply number w
      → HasAnswered (Explains (room_of k)) (of_view v) (Set key value) (record { reply = reply; number = number }) (of_view w)
  was_set key value tries Absent number p = answered (Explains (room_of k)) v w (Set key value)
      (record { reply = Absent; number = number }) tries None p.1 p.2 refl (λ m none. absent m key none)
  was_set key value tries (Was old) number p = updated (Explains (room_of k)) v w (Set key value)
      (record { reply = Was old; number = number }) tries p.0 [] p.1 refl refl tt tt refl p.2
  was_set key value tries _ number p = absurd p

  was_deleted : (key : ℕ) (tries : List Mark) (reply : Reply) (number : ℕ) → DelsBy v key tries reply number w
      → HasAnswered (Explains (room_of k)) (of_view v) (Del key) (record { reply = reply; number = number }) (of_view w)
  was_deleted key tries Absent number p = answered (Explains (room_of k)) v w (Del key)
      (record { reply = Absent; number = number }) tries None p.1 p.2 refl (λ m none. absent m key none)
  was_deleted key tries Gone number p = elim p.3 [
    | inl none ↦ by [] none refl tt tt
    | inr move ↦
        by (Began v.allowance.place move.0 (key + 1) move.1 ∷ (Ended v.allowance.place move.0 ∷ [])) move.2 refl (refl, (refl, tt)) (
          inr (let there = update_there (Explains (room_of k)) v w (Del key) (record { reply = Gone; number = number }) tries p.0 p.1 p.2 in
              record {
                position = length (updates_of p.0);
                key = key;
                update = there.0;
                low_is = refl;
                next = subst (λ d. callers.IsNextKey d key move.1) (sym there.1) move.3;
              }),
          (tt, tt),
        )
  ]
    where
      by : (after : List Mark) → p.1 ≡ after → updates_of after ≡ [] → AllByRecursion (IsLeftBy v.allowance.place key) after
          → AllByRecursion (WaitsFor (updates_of w.seen)) after
          → HasAnswered (Explains (room_of k)) (of_view v) (Del key) (record { reply = Gone; number = number }) (of_view w)
      by after is none keyed waits = updated (Explains (room_of k)) v w (Del key) (record { reply = Gone; number = number }) tries p.0 after
          (subst (λ a. HasUpdated v (Del key) tries p.0 a number w) is p.2) none refl keyed waits refl tt
  was_deleted key tries _ number p = absurd p

  pub made_answers : (op : Op) (told : Told) → IsTold k v op told w → HasAnswered (Explains (room_of k)) (of_view v) op told (of_view w)
  made_answers (Put key value) told p = was_put key value p.0 told.reply told.number p.1
  made_answers (Get key) told p = got key told p
  made_answers (Del key) told p = was_deleted key p.0 told.reply told.number p.1
  made_answers (Set key value) told p = was_set key value p.0 told.reply told.number p.1

-- a chain of calls, from a client whose place had made no update, where each call keeps the shape and answers as its marks say
pub chain_told : {C : Type 0} (made : C → Op → Told → C → Type 0) (on_tree : C → ClientAt)
    → ((c : C) (op : Op) (told : Told) (d : C) → made c op told d
    → ((on_tree d).shape ≡ (on_tree c).shape) × HasAnswered (Explains (room_of (on_tree c).shape)) (caller_of (on_tree c)) op told
    (caller_of (on_tree d)))
    → (k : Shape) (ops : List Op) (tolds : List Told) (before after : C) → (on_tree before).shape ≡ k
    → own_updates (on_tree before).seat.view.allowance.place (updates_of (on_tree before).seat.view.seen) ≡ []
    → IsChain made before ops tolds after → HasTold (Explains (room_of k)) (caller_of (on_tree before)) ops tolds
    (caller_of (on_tree after))
chain_told {C} made on_tree answers k ops tolds before after same none chain =
    chain_tells kept (λ c. caller_of (on_tree c)) (Explains (room_of k))
    (λ c op told d call. subst (λ z. HasAnswered (Explains (room_of z)) (caller_of (on_tree c)) op told (caller_of (on_tree d))) call.1
    (answers c op told d call.0).1)
    ops tolds before after (met_its_own (on_tree before).seat.view) none (with_shape ops tolds before same chain)
  where
    kept : C → Op → Told → C → Type 0
    kept c op told d = made c op told d × ((on_tree c).shape ≡ k)

    with_shape : (os : List Op) (ts : List Told) (c : C) → (on_tree c).shape ≡ k → IsChain made c os ts after → IsChain kept c os ts after
    with_shape [] [] c is done = done
    with_shape (o ∷ os) (t ∷ ts) c is done = (done.0, (done.1, is), with_shape os ts done.0 ((answers c o t done.0 done.1).0 ∙ is) done.2)
    with_shape _ _ c is done = absurd done

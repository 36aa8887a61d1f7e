-- Polls of the second waiter: where their looks go on, what each look and each turn of a gate comes to, and how many gates are turned.
use Rattle.std.proofs.Common.{◌≡◌, ◌≢◌, ℕ, ◌%◌, ◌<◌, inl, inr, ⊎_elim, Bool, true, false, refl, sym, ap, subst, ◌∙◌, arith, zero, suc, ◌+◌, ◌-◌, ◌≤◌, ◌⊎◌, List, ◌∷◌, ◌++◌, Some, eq-eqb, ne_eqb, length}
use Rattle.core_state.specs.declared.shape.Shape.{Shape}
use Rattle.core_state.specs.declared.words.Field.TheVariants.{Stamp, Gate, Count, Row}
use Rattle.core_state.specs.declared.view.View.{View}
use Rattle.core_state.specs.declared.act.Act.TheVariants.{LoadGate, LookCount, TurnGate}
use Rattle.seat_table.specs.declared.wait.Grace.{Grace}
use Rattle.seat_table.specs.Looks.{LooksAt, IsOnward, IsLater, one_step, HasPassed}
use Rattle.seat_table.specs.Gains.{Told}
use Rattle.seat_table.specs.Waits.{Reached, reached, Made, IsBefore, IsTurnedBefore, HasReached, HasLooked, HasEnded, ended_by, IsLatestOf, IsGoingOn, IsOver}
use Rattle.seat_table.proofs.Waiting.{look_trail, gate_trail, looks_then, looks_as, step_at, step_of, look_passes, look_stays, looks_on, begins_on, have_left, one_wait}
use Rattle.waiters.specs.Classes.{at_next, IsBack, AreClassesOf, EndTurnsRest, WaitTurnsEach}
use mathlib.Core.Logic.{dite}
use mathlib.Core.Option.{some}
use native.Mathlib.Decide.{ℕ_discrete, dec_le}
use Rattle.core_state.specs.declared.shape.Waiter.TheVariants.{Eer, Domain, Deer}
use Rattle.core_state.specs.declared.words.Field.{Field}
use Rattle.core_state.specs.declared.view.Waiting.{Waiting}
use Rattle.core_state.specs.Steps.{IsSpot, keys_of, with_excused, after_look, NeedsGateTurn, after_gate_turn, new_wait}
use Rattle.key_interval.specs.Keys.{Interval, MeetsClass, IsLastClass}
use Rattle.list_laws.specs.Counts.{times, IsIn}
use Rattle.list_laws.proofs.Lists.{times_here, times_other}
use Rattle.core_state.specs.Acts.{MayLook, noted, wait_of}
use Rattle.core_laws.proofs.Acting.{wait_is, may_look as looks}
use Rattle.core_frames.proofs.Views.{times_sum, sum_times, sum_equal, in_times}
use Rattle.core_state.specs.declared.words.Kind.TheVariants as kinds

-- The looks of a poll of the second waiter go on from class to class.

-- a step of a wait, by where it looks
module _ {k : Shape} {v w : View} where
  pub count_made : {class side found : ℕ} {last : Bool} → Told k v (LookCount class side last) found w
      → Made v (one_step kinds.K31 (Count class side) found) w
  count_made {class} {side} {found} {last} told = look_trail v w kinds.K31 (Count class side) found last told.marks told.goes

  pub gate_made : {class found : ℕ} → Told k v (LoadGate class) found w → Made v (one_step kinds.K28 (Gate class) found) w
  gate_made {class} {found} told = gate_trail v w kinds.K28 (Gate class) found class told.goes

  pub turn_made : {class found : ℕ} → Told k v (TurnGate class) found w → Made v (one_step kinds.K32 (Gate class) found) w
  turn_made told = ap (λ (z : View). z.trail) told.goes

  pub gate_turned : {class found : ℕ} (r : Reached) → Told k v (TurnGate class) found w → LooksAt (IsOnward r) v w
  gate_turned {class} {found} r told = step_at (IsOnward r) v w kinds.K32 (Gate class) found (ap (λ (z : View). z.trail) told.goes)
      (λ none. none)

-- from one place of a wait to a later one
pub later_self : (r : Reached) → IsLater r r
later_self r field before = before

pub later_then : (r s t : Reached) → IsLater r s → IsLater s t → IsLater r t
later_then r s t first second field before = second field (first field before)

module _ {W : Type 0} (grace : Grace W) where
  -- a gate that isn't turned may be loaded and turned
  pub later_unturned : (gate : ℕ) (turned : Bool) → grace.turned ≡ false
      → IsLater (reached grace) (reached (record grace { gate = gate; turned = turned }))
  later_unturned gate turned unturned (Stamp p) before = before
  later_unturned gate turned unturned (Count c side) before =
      ⊎_elim (λ (less : c < grace.class). inl less)
      (λ (on : (c ≡ grace.class) × (grace.turned ≡ true) × (side ≢ grace.gate % 2)). absurd
      (let e : false ≡ true = sym unturned ∙ on.1 in cc)) before
  later_unturned gate turned unturned (Row p c) before = before
  later_unturned gate turned unturned _ before = absurd before

  pub later_next : IsLater (reached grace) (reached (at_next grace))
  later_next (Stamp p) before = before
  later_next (Count c side) before = ⊎_elim (λ (less : c < grace.class). inl (omega (arith, less)))
      (λ (on : (c ≡ grace.class) × (grace.turned ≡ true) × (side ≢ grace.gate % 2)). inl (omega (arith, on.0))) before
  later_next (Row p c) before = ⊎_elim (λ (less : p < grace.place). inl less)
      (λ (on : (p ≡ grace.place) × (c < grace.class)). inr (on.0, omega (arith, on.1))) before
  later_next _ before = absurd before

  -- the sides that are looked at
  pub onward_unturned : (side : ℕ) → grace.turned ≡ false → IsOnward (reached grace) (Count grace.class side)
  onward_unturned side unturned before = ⊎_elim (λ (less : grace.class < grace.class). omega (arith, less))
      (λ (on : (grace.class ≡ grace.class) × (grace.turned ≡ true) × (side ≢ grace.gate % 2)). absurd
      (let e : false ≡ true = sym unturned ∙ on.1 in cc)) before

  pub onward_named : IsOnward (reached grace) (Count grace.class (grace.gate % 2))
  onward_named before = ⊎_elim (λ (less : grace.class < grace.class). omega (arith, less))
      (λ (on : (grace.class ≡ grace.class) × (grace.turned ≡ true) × ((grace.gate % 2) ≢ grace.gate % 2)). on.2 refl) before

-- a look after others
pub looked_count : (r : Reached) (class side : ℕ) {u v w : View} → IsOnward r (Count class side) → LooksAt (IsOnward r) u v
    → LooksAt (λ field. field ≡ Count class side) v w → LooksAt (IsOnward r) u w
looked_count r class side {u} {v} {w} there a b =
    looks_then (IsOnward r) u v w a (looks_as (λ field. field ≡ Count class side) (IsOnward r)
    (λ field is. subst (IsOnward r) (sym is) there) v w b)

-- a look at the side that the gate names, after others that go on from an earlier place
pub looked_named : {W : Type 0} (r : Reached) (here : Grace W) {u v w : View} → IsLater r (reached here) → LooksAt (IsOnward r) u v
    → LooksAt (λ field. field ≡ Count here.class (here.gate % 2)) v w → LooksAt (IsOnward r) u w
looked_named r here later a b =
    looked_count r here.class (here.gate % 2) (λ before. onward_named here (later (Count here.class (here.gate % 2)) before)) a b

-- looks from a later place after others
pub looks_later : (r s : Reached) {u v w : View} → IsLater r s → LooksAt (IsOnward r) u v → LooksAt (IsOnward s) v w
    → LooksAt (IsOnward r) u w
looks_later r s {u} {v} {w} later a b = looks_then (IsOnward r) u v w a
    (looks_as (IsOnward s) (IsOnward r) (λ field there before. there (later field before)) v w b)

-- Looks at the sides of a class, turns of its gate, and from class to class.

-- the image of a wait's keys
module _ (wait : Waiting) (keys : Interval) (low : wait.low ≡ keys.low) (high : wait.high ≡ keys.high) (c : ℕ) where
  pub same_image : MeetsClass (keys_of wait) c → MeetsClass keys c
  same_image met = (met.0, (omega (arith, met.1.0, low), omega (arith, met.1.1, high)), met.2)

  pub image_same : MeetsClass keys c → MeetsClass (keys_of wait) c
  image_same met = (met.0, (omega (arith, met.1.0, low), omega (arith, met.1.1, high)), met.2)

-- a load of a side
module _ (k : Shape) (v w : View) (wait : Waiting) (class side found : ℕ) (last : Bool) (was : v.wait ≡ Some wait) where
  side_told : (told : Told k v (LookCount class side last) found w)
      → w ≡ after_look (noted v (LookCount class side last) found) wait (Count class side) last found told.marks
  side_told told = told.goes ∙ ap (λ z. after_look (noted v (LookCount class side last) found) z (Count class side) last found told.marks)
      (wait_is v wait was)

  pub side_passes : Told k v (LookCount class side last) found w → found ≡ 0 → HasPassed v last (Count class side) w
  side_passes told is = (
    wait,
    step_of kinds.K31 (Count class side) found,
    was,
    look_passes v w kinds.K31 (Count class side) wait found told.marks was told.sees told.informed refl last (eq-eqb found 0 is)
        (side_told told),
  )

  pub side_stays : Told k v (LookCount class side last) found w → found ≢ 0
      → HasLooked v wait (step_of kinds.K31 (Count class side) found) wait w
  side_stays told is = look_stays v w kinds.K31 (Count class side) wait found told.marks was told.sees told.informed last
      (ne_eqb found 0 is) (side_told told)

-- from class to class
module _ {W : Type 0} (k : Shape) (domain : k.waiter ≡ Domain) (grace : Grace W) where
  -- What is excused of the sides is excused.
  excused_by : (wait : Waiting) (r : Reached) (excused : List Field)
      → ((c side : ℕ) → IsSpot k wait (Count c side) → IsBefore r (Count c side) → IsIn excused (Count c side)) → (field : Field)
      → IsSpot k wait field → IsBefore r field → IsIn excused field
  excused_by wait r excused counts (Count c side) spot before = counts c side spot before
  excused_by wait r excused counts (Stamp q) spot before = absurd (let e : Domain ≡ Eer = sym domain ∙ spot.0 in cc)
  excused_by wait r excused counts (Row p c) spot before = absurd (let e : Domain ≡ Deer = sym domain ∙ spot.0 in cc)
  excused_by wait r excused counts _ spot before = absurd spot

  -- All sides are excused, with this one of the last class.
  rest : (wait : Waiting) (side : ℕ) → HasReached k grace.keys grace.clock (reached grace) wait → grace.turned ≡ true
      → side ≡ grace.gate % 2 → IsLastClass grace.keys grace.class → (other : Field) → IsSpot k wait other
      → IsIn (Count grace.class side ∷ wait.excused) other
  rest wait side r turned side_is last (Count c s) spot = dite (ℕ_discrete c grace.class)
      (λ here. dite (ℕ_discrete s side)
      (λ same. subst (λ (z : ℕ × ℕ). IsIn (Count z.0 z.1 ∷ wait.excused) (Count c s)) (λ i. (here i, same i)) (0, refl))
      (λ ne. let e = r.excused (Count c s) spot (inr (here, turned, λ is. ne (is ∙ sym side_is))) in (suc e.0, e.1)))
      (λ ne. dite (dec_le (suc c) grace.class)
      (λ less. let e = r.excused (Count c s) spot (inl less) in (suc e.0, e.1))
      (λ not. absurd (last.greatest c (omega (arith, ne, not)) spot.1 (same_image wait grace.keys r.low_is r.high_is c spot.3))))
  rest wait side r turned side_is last (Stamp q) spot = absurd (let e : Domain ≡ Eer = sym domain ∙ spot.0 in cc)
  rest wait side r turned side_is last (Row p c) spot = absurd (let e : Domain ≡ Deer = sym domain ∙ spot.0 in cc)
  rest wait side r turned side_is last _ spot = absurd spot

  pub may_look : (v : View) (side : ℕ) (last : Bool)
      → (last ≡ true → (grace.turned ≡ true) × (side ≡ grace.gate % 2) × IsLastClass grace.keys grace.class) → IsLatestOf k grace v
      → MayLook k v (wait_of v) (Count grace.class side) last
  may_look v side last end latest = looks k v latest.1 latest.2.going
      (λ is. let e = end is in rest latest.0 side latest.2 e.0 e.1 e.2)

  -- After a look that passed the side that the gate doesn't name, the gate may be turned.
  module _ (v u : View) (latest : IsLatestOf k grace v) (unturned : grace.turned ≡ false) (side : ℕ)
      (passed : HasPassed v false (Count grace.class side) u) where
    abbrev between : Waiting
    between = with_excused latest.0 (Count grace.class side)

    looked : HasLooked v latest.0 passed.1 between u
    looked = subst (λ z. HasLooked v z passed.1 (with_excused z (Count grace.class side)) u)
        (one_wait v passed.0 latest.0 passed.2 latest.1) passed.3

    not_turned : IsIn latest.0.turned grace.class → ⊥
    not_turned there = ⊎_elim (λ (less : grace.class < grace.class). omega (arith, less))
        (λ (on : (grace.class ≡ grace.class) × (grace.turned ≡ true)). let e : false ≡ true = sym unturned ∙ on.1 in cc)
        (latest.2.turned domain grace.class there)

    pub may_turn : MeetsClass grace.keys grace.class → NeedsGateTurn u (wait_of u) grace.class
    may_turn met = subst (λ z. NeedsGateTurn u z grace.class) (sym (wait_is u between looked.wait_is)) (record {
      wait_is = looked.wait_is;
      going = latest.2.going;
      small = latest.2.small;
      met = image_same latest.0 grace.keys latest.2.low_is latest.2.high_is grace.class met;
      once = not_turned;
    })

    abbrev after : Waiting
    after = record between { turned = grace.class ∷ latest.0.turned }

    turning : (w : View) (found : ℕ) → Told k u (TurnGate grace.class) found w
        → HasLooked u between (step_of kinds.K32 (Gate grace.class) found) after w
    turning w found told =
        let is : w ≡ after_gate_turn (noted u (TurnGate grace.class) found) between grace.class =
        told.goes ∙ ap (λ z. after_gate_turn (noted u (TurnGate grace.class) found) z grace.class) (wait_is u between looked.wait_is) in
        subst (λ z. HasLooked u between (step_of kinds.K32 (Gate grace.class) found) after z) (sym is)
        (record { wait_is = refl; same = refl; turns = omega arith; makes = refl; others = refl })

    abbrev turned_grace : Grace W
    turned_grace = record grace { turned = true }

    one_more : (c : ℕ) → c < 64 → MeetsClass (keys_of latest.0) c → (c < grace.class) ⊎ ((c ≡ grace.class) × (true ≡ true))
        → times c (grace.class ∷ latest.0.turned) ≡ 1
    one_more c small met before = ⊎_elim
        (λ (less : c < grace.class). times_other c grace.class latest.0.turned (λ is. omega (arith, is, less))
        ∙ latest.2.once domain c small met (inl less))
        (λ (on : (c ≡ grace.class) × (true ≡ true)). subst (λ z. times z (grace.class ∷ latest.0.turned) ≡ 1) (sym on.0)
        (times_here grace.class latest.0.turned ∙ (let none : times grace.class latest.0.turned ≡ 0 =
        dite (dec_le 1 (times grace.class latest.0.turned))
        (λ some_time. absurd (not_turned (in_times grace.class latest.0.turned some_time))) (λ never. omega (arith, never)) in
        omega (arith, none))))
        before

    turned_which : (c : ℕ) → IsIn (grace.class ∷ latest.0.turned) c → (c ≡ grace.class) ⊎ IsIn latest.0.turned c
    turned_which c (zero, is) = inl (let e : some grace.class ≡ some c = is in cc)
    turned_which c (suc i, is) = inr (i, is)

    turned_reached : MeetsClass grace.keys grace.class → side ≡ 1 - grace.gate % 2
        → HasReached k grace.keys grace.clock (reached turned_grace) after
    turned_reached met side_is =
        let r = latest.2 in
        record {
          going = r.going;
          low_is = r.low_is;
          high_is = r.high_is;
          clock_is = r.clock_is;
          inside = r.inside;
          small = r.small;
          excused = excused_by latest.0 (reached turned_grace) (Count grace.class side ∷ latest.0.excused) (λ c s spot before. ⊎_elim
              (λ (less : c < grace.class). let e = r.excused (Count c s) spot (inl less) in (suc e.0, e.1))
              (λ (on : (c ≡ grace.class) × (true ≡ true) × (s ≢ grace.gate % 2)).
              let here = on.0 in
              let same : s ≡ side = omega (arith, on.2, side_is, spot.2) in
              subst (λ (z : ℕ × ℕ). IsIn (Count z.0 z.1 ∷ latest.0.excused) (Count c s)) (λ i. (here i, same i)) (0, refl))
              before);
          met = λ c there. ⊎_elim
              (λ (here : c ≡ grace.class). subst (λ z. (z < 64) × MeetsClass (keys_of latest.0) z) (sym here)
              (r.small, image_same latest.0 grace.keys r.low_is r.high_is grace.class met))
              (λ (old : IsIn latest.0.turned c). r.met c old)
              (turned_which c there);
          turned = λ _ c there. ⊎_elim
              (λ (here : c ≡ grace.class). inr (here, refl))
              (λ (old : IsIn latest.0.turned c). ⊎_elim (λ (less : c < grace.class). inl less)
              (λ (on : (c ≡ grace.class) × (grace.turned ≡ true)). inr (on.0, refl)) (r.turned domain c old))
              (turned_which c there);
          once = λ _. one_more;
        }

    pub turned_on : (w : View) (found : ℕ) → MeetsClass grace.keys grace.class → side ≡ 1 - grace.gate % 2
        → Told k u (TurnGate grace.class) found w → IsGoingOn k v turned_grace w
    turned_on w found met side_is told = record {
      wait = latest.0;
      steps = passed.1 ++ step_of kinds.K32 (Gate grace.class) found;
      new = after;
      was = latest.1;
      looked = looks_on v u w latest.0 between after passed.1 (step_of kinds.K32 (Gate grace.class) found) looked (turning w found told);
      reaches = turned_reached met side_is;
    }

  -- from this class to the next one
  next_reached : (wait new : Waiting) → new ≡ record wait { excused = new.excused } → grace.class < 63
      → HasReached k grace.keys grace.clock (reached grace) wait
      → ((c side : ℕ) → IsSpot k wait (Count c side) → c < grace.class + 1 → IsIn new.excused (Count c side))
      → ((c : ℕ) → MeetsClass (keys_of wait) c → c < grace.class + 1 → IsTurnedBefore (reached grace) c)
      → HasReached k grace.keys grace.clock (reached (at_next grace)) new
  next_reached wait new same less r counts classes =
      subst (λ z. HasReached k grace.keys grace.clock (reached (at_next grace)) z) (sym same) (record {
        going = r.going;
        low_is = r.low_is;
        high_is = r.high_is;
        clock_is = r.clock_is;
        inside = r.inside;
        small = omega (arith, less);
        excused = excused_by wait (reached (at_next grace)) new.excused
            (λ c side spot before. counts c side spot (⊎_elim (λ (l : c < grace.class + 1). l)
            (λ (on : (c ≡ grace.class + 1) × (false ≡ true) × (side ≢ 18446744073709551615 % 2)). absurd (let e = on.1 in cc)) before));
        met = r.met;
        turned = λ _ c there. inl (⊎_elim (λ (l : c < grace.class). omega (arith, l))
            (λ (on : (c ≡ grace.class) × (grace.turned ≡ true)). omega (arith, on.0)) (r.turned domain c there));
        once = λ _ c small met before. r.once domain c small met
            (classes c met (⊎_elim (λ (l : c < grace.class + 1). l)
            (λ (on : (c ≡ grace.class + 1) × (false ≡ true)). absurd (let e = on.1 in cc)) before));
      })

  -- A class that no key has is passed without a look.
  pub skips : (v : View) → grace.class < 63 → (MeetsClass grace.keys grace.class → ⊥) → IsLatestOf k grace v
      → IsGoingOn k v (at_next grace) v
  skips v small none latest =
      let r = latest.2 in
      let below : (c : ℕ) → MeetsClass (keys_of latest.0) c → c < grace.class + 1 → c < grace.class =
      λ c met less. dite (ℕ_discrete c grace.class)
      (λ here. absurd (none (subst (MeetsClass grace.keys) here (same_image latest.0 grace.keys r.low_is r.high_is c met))))
      (λ ne. omega (arith, less, ne)) in
      begins_on k v (at_next grace) (
        latest.0,
        latest.1,
        next_reached latest.0 latest.0 refl small r (λ c side spot less. r.excused (Count c side) spot (inl (below c spot.3 less)))
            (λ c met less. inl (below c met less)),
      )

  -- After a look that passed the side that the gate names, all of this class is passed.
  pub passes_class : (v w : View) (side : ℕ) → grace.class < 63 → grace.turned ≡ true → side ≡ grace.gate % 2 → IsLatestOf k grace v
      → HasPassed v false (Count grace.class side) w → IsGoingOn k v (at_next grace) w
  passes_class v w side small turned side_is latest passed =
      let r = latest.2 in
      let looked = subst (λ z. HasLooked v z passed.1 (with_excused z (Count grace.class side)) w)
      (one_wait v passed.0 latest.0 passed.2 latest.1) passed.3 in record {
        wait = latest.0;
        steps = passed.1;
        new = with_excused latest.0 (Count grace.class side);
        was = latest.1;
        looked = looked;
        reaches = next_reached latest.0 (with_excused latest.0 (Count grace.class side)) refl small r
            (λ c s spot less. dite (ℕ_discrete c grace.class)
            (λ here. dite (ℕ_discrete s side)
            (λ same. subst (λ (z : ℕ × ℕ). IsIn (Count z.0 z.1 ∷ latest.0.excused) (Count c s)) (λ i. (here i, same i)) (0, refl))
            (λ ne. let e = r.excused (Count c s) spot (inr (here, turned, λ is. ne (is ∙ sym side_is))) in (suc e.0, e.1)))
            (λ ne. let e = r.excused (Count c s) spot (inl (omega (arith, less, ne))) in (suc e.0, e.1)))
            (λ c met less. dite (ℕ_discrete c grace.class) (λ here. inr (here, turned)) (λ ne. inl (omega (arith, less, ne))));
      }

  -- At the last class the wait is over.
  pub ends : (v w : View) (side : ℕ) → grace.turned ≡ true → IsLastClass grace.keys grace.class → IsLatestOf k grace v
      → HasPassed v true (Count grace.class side) w → IsOver k v w
  ends v w side turned last latest passed =
      let r = latest.2 in
      let new : Waiting = ended_by latest.0 (Count grace.class side) in
      let ended = subst (λ z. HasEnded v z passed.1 (ended_by z (Count grace.class side)) w)
      (one_wait v passed.0 latest.0 passed.2 latest.1) passed.3 in
      record {
        wait = latest.0;
        steps = passed.1;
        new = new;
        was = latest.1;
        ended = ended;
        turned = record {
          only = r.met;
          each = λ _ c small met. r.once domain c small met
              (dite (ℕ_discrete c grace.class) (λ here. inr (here, turned))
              (λ ne. inl (dite (dec_le (suc c) grace.class) (λ less. less)
              (λ not. absurd (last.greatest c (omega (arith, ne, not)) small (same_image latest.0 grace.keys r.low_is r.high_is c met))))));
        };
        left = have_left v latest.0 passed.1 new w ended;
      }

  -- Beyond the last class all counts were found at 0 and all gates are turned, so that the wait may go back to it.
  pub back_reached : (last : ℕ) (wait : Waiting) → last < grace.class → IsLastClass grace.keys last
      → HasReached k grace.keys grace.clock (reached grace) wait
      → HasReached k grace.keys grace.clock (reached (record grace { class = last; turned = true })) wait
  back_reached last wait beyond is_last r = record {
    going = r.going;
    low_is = r.low_is;
    high_is = r.high_is;
    clock_is = r.clock_is;
    inside = r.inside;
    small = omega (arith, beyond, r.small);
    excused = excused_by wait (reached (record grace { class = last; turned = true })) wait.excused
        (λ c side spot before. r.excused (Count c side) spot
        (inl (⊎_elim (λ (l : c < last). omega (arith, l, beyond))
        (λ (on : (c ≡ last) × (true ≡ true) × (side ≢ grace.gate % 2)). omega (arith, on.0, beyond)) before)));
    met = r.met;
    turned = λ _ c there. at_most c (r.met c there);
    once = λ _ c small met before. r.once domain c small met
        (inl (⊎_elim (λ (l : c < last). omega (arith, l, beyond))
        (λ (on : (c ≡ last) × (true ≡ true)). omega (arith, on.0, beyond)) before));
  }
    where
      at_most : (c : ℕ) → (c < 64) × MeetsClass (keys_of wait) c → (c < last) ⊎ ((c ≡ last) × (true ≡ true))
      at_most c met = dite (ℕ_discrete c last) (λ here. inr (here, refl))
          (λ ne. inl (dite (dec_le (suc c) last) (λ less. less)
          (λ not. absurd (is_last.greatest c (omega (arith, ne, not)) met.0 (same_image wait grace.keys r.low_is r.high_is c met.1)))))

  -- After the classes before the last one, a grace that went back is at the last one.
  pub goes_back : (v u : View) (last : ℕ) (next : Grace W) → last ≤ grace.class → IsLastClass grace.keys last → IsBack last grace next
      → IsGoingOn k v grace u → IsGoingOn k v next u × IsLastClass next.keys next.class
  goes_back v u last next most is_last back come = dite (dec_le grace.class last)
      (λ within. subst (λ (z : Grace W). IsGoingOn k v z u × IsLastClass z.keys z.class) (sym (back.within within))
      (come, let same : last ≡ grace.class = omega (arith, within, most) in subst (IsLastClass grace.keys) same is_last))
      (λ not. let beyond : last < grace.class = omega (arith, not) in
      subst (λ (z : Grace W). IsGoingOn k v z u × IsLastClass z.keys z.class) (sym (back.beyond beyond)) (
        record {
          wait = come.wait;
          steps = come.steps;
          new = come.new;
          was = come.was;
          looked = come.looked;
          reaches = back_reached last come.new beyond is_last come.reaches;
        },
        is_last,
      ))

-- A grace that may have gone back is of the same keys and the same clock.
module _ {W : Type 0} (last : ℕ) (old new : Grace W) (back : IsBack last old new) where
  pub back_keys : new.keys ≡ old.keys
  back_keys = dite (dec_le old.class last) (λ within. ap (λ (z : Grace W). z.keys) (back.within within))
      (λ beyond. ap (λ (z : Grace W). z.keys) (back.beyond (omega (arith, beyond))))

  pub back_clock : new.clock ≡ old.clock
  back_clock = dite (dec_le old.class last) (λ within. ap (λ (z : Grace W). z.clock) (back.within within))
      (λ beyond. ap (λ (z : Grace W). z.clock) (back.beyond (omega (arith, beyond))))

-- How many gates a wait turns.

-- Two lists of the same classes are as long.
module _ (keys : Interval) (xs ys : List ℕ) (one : AreClassesOf keys xs) (other : AreClassesOf keys ys) where
  same_times : (c : ℕ) → times c xs ≡ times c ys
  same_times c = dite (dec_le 1 (times c xs))
      (λ there. let met = one.only c (in_times c xs there) in let a = one.each c met.0 met.1 in let b = other.each c met.0 met.1 in
      omega (arith, a, b))
      (λ none. dite (dec_le 1 (times c ys))
      (λ there. let met = other.only c (in_times c ys there) in let a = one.each c met.0 met.1 in absurd (omega (arith, a, none)))
      (λ neither. omega (arith, none, neither)))

  pub at_most : length xs ≤ length ys
  at_most =
      let a = times_sum xs 64 (λ c there. (one.only c (in_times c xs there)).0) in
      let b = sum_equal (λ c. times c xs) (λ c. times c ys) 64 (λ c less. same_times c) in
      let d = sum_times ys 64 in
      omega (arith, a, b, d)

same_length : (keys : Interval) (xs ys : List ℕ) → AreClassesOf keys xs → AreClassesOf keys ys → length xs ≡ length ys
same_length keys xs ys one other = let a = at_most keys xs ys one other in let b = at_most keys ys xs other one in omega (arith, a, b)

pub end_turns_rest : EndTurnsRest
end_turns_rest k v w wait classes domain was all over =
    let same = one_wait v over.wait wait over.was was in
    let turned : AreClassesOf (keys_of over.wait) over.new.turned =
    subst (λ z. AreClassesOf z over.new.turned) (ap keys_of over.ended.same)
    (record { each = over.turned.each domain; only = over.turned.only }) in
    let lengths = same_length (keys_of wait) over.new.turned classes
    (subst (λ z. AreClassesOf (keys_of z) over.new.turned) same turned) all in
    let turns = subst (λ z. w.counts.turns + length z.turned ≡ v.counts.turns + length over.new.turned) same over.ended.turns in
    omega (arith, lengths, turns)

pub wait_turns_each : WaitTurnsEach
wait_turns_each k v w keys classes domain all waited =
    let begun = waited.1 in
    let rest = end_turns_rest k waited.0 w
    (new_wait v keys.low keys.high begun.clock begun.leaves.before) classes domain begun.wait_is all waited.2 in
    let turns = ap (λ (z : View). z.counts.turns) begun.others in
    omega (arith, rest, turns)

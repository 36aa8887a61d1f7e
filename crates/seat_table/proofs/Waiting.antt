-- Waits look by look, and the polls that make these looks.
use Rattle.std.proofs.Common.{◌≡◌, ℕ, append_assoc, append-nil, List, [], ◌∷◌, ◌++◌, sym, ap, subst, ◌∙◌, if◌then◌else◌, Bool, true, false, Option, Some, None, refl, ◌≤◌, arith, rules, ◌≢◌, ◌%◌, ◌<◌, ⊎_elim, ◌+◌, length, map, ◌==◌, ◌||◌, nat_le, nat_lt, eq-eqb}
use Rattle.std.specs.List.{AllByRecursion, flat_map}
use Rattle.std.proofs.lemmas.Grind.{flat_map-append}
use Rattle.prcu_model.proofs.ListFacts.{all_append, all_map}
use Rattle.prcu_marks.specs.declared.mark.Why.{Why}
use Rattle.core_state.specs.declared.view.StepMade.{StepMade}
use Rattle.core_state.specs.declared.view.Trail.{Trail}
use Rattle.core_state.specs.declared.view.View.{View}
use Rattle.key_interval.specs.Keys.{Interval, IsLastClass, Holds, MeetsClass}
use Rattle.seat_table.specs.Waits.{Made, Reached, reached, start, IsBefore, IsTurnedBefore, IsSameWait, EndWith, Shows, is_look, HasLooked, HasEnded, HaveLeft, ended_by, Passed, IsLatestOf, IsOver, Polled, IsGoingOn, StopsAt, HasReached}
use Rattle.seat_table.specs.Looks.{IsClear, FindsNone, FindsOnce, look_of, LooksAt, IsWithin, HasMet, HasPassed}
use Rattle.prcu_marks.specs.declared.mark.Mark.{Mark}
use Rattle.core_state.specs.declared.words.Field.{Field}
use Rattle.core_state.specs.declared.words.Kind.{Kind}
use Rattle.core_state.specs.declared.view.Section.{Section}
use Rattle.core_state.specs.Steps.{stepped, gated, spot_seen, excuses, ending, with_excused, after_look, IsSpot, new_wait, waited_retired, waited_move, keys_of, is_for}
use Rattle.core_state.specs.Acts.{wait_of, noted}
use mathlib.Core.Logic.{dite}
use native.Mathlib.Decide.{dec_le}
use mathlib.Core.Option.{some}
use lib.ListN.{get_elem?}
use Rattle.atomic_table.proofs.Lists.{at_last}
use Rattle.prcu_marks.specs.declared.mark.Mark.TheVariants.{Ended}
use Rattle.prcu_marks.specs.declared.mark.Why.TheVariants.{Reader, Counter, Row as RowOf}
use Rattle.core_state.specs.declared.shape.Shape.{Shape}
use Rattle.core_state.specs.declared.words.Field.TheVariants.{Announced, Stamp, Count, Row}
use Rattle.core_state.specs.declared.view.Waiting.{Waiting}
use Rattle.seat_table.specs.declared.wait.Grace.{Grace}
use Rattle.seat_table.specs.declared.wait.Poll.TheVariants.{Over, NotYet}
use Rattle.list_laws.specs.Counts.{IsIn, times}
use Rattle.core_state.specs.declared.act.Act.TheVariants.{BeginWait}
use Rattle.seat_table.specs.Gains.{Told, Sees, IsInformed}
use Rattle.seat_table.specs.Sections.{Leaves, EndBy}
use Rattle.std.proofs.lemmas.Bool.{eqb-true, ltb-true, leb-true, lt-ltb, and_from, and_parts, or_cases, or_left, or_right, le-leb, cases_Bool}
use Rattle.core_state.specs.declared.shape.Waiter.TheVariants.{Domain}
use Rattle.core_state.specs.Memory.{idle}
use Rattle.core_laws.proofs.Acting.{wait_is}

-- Looks of a poll, one after another, by what they found.

-- a view's trail with these steps
abbrev pub with_steps : View → List StepMade → Trail
with_steps v l = record v.trail { steps = l }

pub made_then : (u v w : View) (a b : List StepMade) → Made u a v → Made v b w → Made u (a ++ b) w
made_then u v w a b first second =
    second ∙ ap (λ (z : Trail). record z { steps = z.steps ++ b }) first ∙ ap (with_steps u) (append_assoc u.trail.steps a b)

module _ {keys : Interval} {clock : ℕ} where
  pub finds_nothing : {v : View} → FindsNone keys clock v v
  finds_nothing {v} = record { looks = []; makes = ap (with_steps v) (sym (append-nil v.trail.steps)); each = tt }

  -- one look
  pub finds_clear : {v w : View} {steps : List StepMade} → Made v steps w → IsClear keys clock steps → FindsNone keys clock v w
  finds_clear {v} {w} {steps} made clear = record {
    looks = steps ∷ [];
    makes = subst (λ l. Made v l w) (sym (append-nil steps)) made;
    each = (clear, tt);
  }

  -- looks of a wait with these keys and this clock after others of it
  pub finds_then : {u v w : View} {these : Interval} {this : ℕ} → these ≡ keys → this ≡ clock → FindsNone keys clock u v
      → FindsNone these this v w → FindsNone keys clock u w
  finds_then {u} {v} {w} {these} {this} same_keys same_clock a b =
      let each = subst (λ (z : Interval × ℕ). AllByRecursion (IsClear z.0 z.1) b.looks) (λ i. (same_keys i, same_clock i)) b.each in
      record {
        looks = a.looks ++ b.looks;
        makes = subst (λ l. Made u l w) (sym (flat_map-append (λ look. look) a.looks b.looks))
            (made_then u v w (flat_map (λ look. look) a.looks) (flat_map (λ look. look) b.looks) a.makes b.makes);
        each = all_append (IsClear keys clock) a.looks b.looks a.each each;
      }

  -- the look that found a reader in the way
  pub finds_here : {v w : View} {why : Why} → Made v (look_of why) w → FindsOnce keys clock v why w
  finds_here {v} {w} {why} made = record { mid = v; before = finds_nothing; latest = made }

  pub finds_later : {u v w : View} {why : Why} {these : Interval} {this : ℕ} → these ≡ keys → this ≡ clock → FindsNone keys clock u v
      → FindsOnce these this v why w → FindsOnce keys clock u why w
  finds_later same_keys same_clock a b = record { mid = b.mid; before = finds_then same_keys same_clock a b.before; latest = b.latest }

-- Steps one after another, by where they look.

-- the trail after a look of a wait, and after a load of a gate: one step more
module _ (v w : View) (kind : Kind) (field : Field) (found : ℕ) where
  pub look_trail : (last : Bool) (h : List Mark) → w ≡ after_look (stepped v kind field found) (wait_of v) field last found h
      → w.trail ≡ (stepped v kind field found).trail
  look_trail last h goes = ap (λ (z : View). z.trail) goes ∙ looked (excuses (wait_of v) field found) last
    where
      looked : (excused ends : Bool) → (if excused then
          (if ends then ending (stepped v kind field found) (with_excused (wait_of v) field) h
          else record (stepped v kind field found) { wait = Some (with_excused (wait_of v) field) }) else stepped v kind field found).trail
          ≡ (stepped v kind field found).trail
      looked false ends = refl
      looked true false = refl
      looked true true = refl

  pub gate_trail : (class : ℕ) → w ≡ gated (stepped v kind field found) class found v.section
      → w.trail ≡ (stepped v kind field found).trail
  gate_trail class goes = ap (λ (z : View). z.trail) goes ∙ loaded v.section
    where
      loaded : (there : Option Section) → (gated (stepped v kind field found) class found there).trail ≡ (stepped v kind field found).trail
      loaded None = refl
      loaded (Some section) = refl

module _ (such : Field → Type 0) where
  pub looks_none : (v : View) → LooksAt such v v
  looks_none v = record { steps = []; makes = ap (with_steps v) (sym (append-nil v.trail.steps)); each = tt }

  pub looks_then : (u v w : View) → LooksAt such u v → LooksAt such v w → LooksAt such u w
  looks_then u v w a b = record {
    steps = a.steps ++ b.steps;
    makes = b.makes ∙ ap (λ (z : Trail). record z { steps = z.steps ++ b.steps }) a.makes
        ∙ ap (with_steps u) (append_assoc u.trail.steps a.steps b.steps);
    each = all_append (λ (t : StepMade). such (spot_seen t.field)) a.steps b.steps a.each b.each;
  }

  pub looks_as : (other : Field → Type 0) → ((field : Field) → such field → other field) → (v w : View) → LooksAt such v w
      → LooksAt other v w
  looks_as other more v w a = record {
    steps = a.steps;
    makes = a.makes;
    each = all_map (λ (t : StepMade). such (spot_seen t.field)) (λ (t : StepMade). other (spot_seen t.field)) a.steps
        (λ t is. more (spot_seen t.field) is) a.each;
  }

  -- one step
  pub step_at : (v w : View) (kind : Kind) (field : Field) (number : ℕ) → w.trail ≡ (stepped v kind field number).trail
      → such (spot_seen field) → LooksAt such v w
  step_at v w kind field number trail is = record {
    steps = record { kind = kind; field = field; number = number } ∷ [];
    makes = trail;
    each = (is, tt);
  }

  -- a look of a wait
  pub look_at : (v w : View) (kind : Kind) (field : Field) (found : ℕ) (last : Bool) (h : List Mark)
      → w ≡ after_look (stepped v kind field found) (wait_of v) field last found h → such (spot_seen field) → LooksAt such v w
  look_at v w kind field found last h goes is = step_at v w kind field found (look_trail v w kind field found last h goes) is

-- A grace within the classes of its keys isn't beyond the last one.
pub within_last : (keys : Interval) (class last : ℕ) → IsWithin keys class → IsLastClass keys last → class ≤ last
within_last keys class last within is = dite (dec_le class last) (λ most. most)
    (λ beyond. absurd (is.greatest within.0 (omega (arith, within.1, beyond)) within.2 within.3))

-- Looks of a wait, one after another.

abbrev pub step_of : Kind → Field → ℕ → List StepMade
step_of kind field found = record { kind = kind; field = field; number = found } ∷ []

-- one look
module _ (v w : View) (kind : Kind) (field : Field) (wait : Waiting) (found : ℕ) (h : List Mark) (was : v.wait ≡ Some wait)
    (sees : Sees v h) (informed : IsInformed w) where
  passes : is_look kind ≡ true → excuses wait field found ≡ true → (last : Bool) → (b : Bool) → b ≡ true
      → w ≡ (if b then (if last then ending (stepped v kind field found)
      (with_excused wait field) h else record (stepped v kind field found)
      { wait = Some (with_excused wait field) }) else stepped v kind field found) → Passed v wait last (step_of kind field found) field w
  passes looks so false true is told = subst (λ z. HasLooked v wait (step_of kind field found) (with_excused wait field) z) (sym told)
      (record { wait_is = refl; same = refl; turns = refl; makes = refl; others = refl })
  passes looks so true true is told = subst (λ z. HasEnded v wait (step_of kind field found) (ended_by wait field) z) (sym told)
      (record {
        wait_is = refl;
        same = refl;
        ended = refl;
        turns = refl;
        makes = refl;
        ends = record { earlier = []; last = record { kind = kind; field = field; number = found }; whole = refl; kind_is = looks };
        excused = so;
        leaves = record { before = h; seen = sees; marked = refl };
        others = refl;
        informed = subst IsInformed told informed;
      })
  passes looks so last false is told = absurd (search (rules, is))

  pub look_passes : is_look kind ≡ true → (last : Bool) → excuses wait field found ≡ true
      → w ≡ after_look (stepped v kind field found) wait field last found h → Passed v wait last (step_of kind field found) field w
  look_passes looks last is told = passes looks is last (excuses wait field found) is told

  pub look_stays : (last : Bool) → excuses wait field found ≡ false → w ≡ after_look (stepped v kind field found) wait field last found h
      → HasLooked v wait (step_of kind field found) wait w
  look_stays last is told =
      let same : w ≡ stepped v kind field found = rw is at told in
      subst (λ z. HasLooked v wait (step_of kind field found) wait z) (sym same)
      (record { wait_is = was; same = refl; turns = refl; makes = refl; others = refl })

-- what a number shows of a word's readers, by the keys and the clock of the wait
excused_same : (wait : Waiting) (es : List Field) (ts : List ℕ) (over : Bool) (field : Field) (n : ℕ)
    → excuses (record wait { excused = es; turned = ts; ended = over }) field n ≡ excuses wait field n
excused_same wait es ts over (Announced p) n = refl
excused_same wait es ts over _ n = refl

-- one after another
module _ (v mid w : View) (a b c : Waiting) (s t : List StepMade) (first : HasLooked v a s b mid) where
  abbrev changed : View → View
  changed z = record z { enter = w.enter; wait = w.wait; counts = record z.counts { turns = w.counts.turns }; trail = w.trail }

  abbrev between : View
  between = record v { enter = mid.enter; wait = mid.wait; counts = record v.counts { turns = mid.counts.turns }; trail = mid.trail }

  abbrev on : List StepMade → Trail
  on l = record v.trail { steps = l }

  makes : Made mid t w → Made v (s ++ t) w
  makes second = second ∙ ap (λ (z : Trail). record z { steps = z.steps ++ t }) first.makes ∙ ap on (append_assoc v.trail.steps s t)

  same_wait : IsSameWait b c → IsSameWait a c
  same_wait second = second ∙ ap (λ (z : Waiting). record z { excused = c.excused; turned = c.turned; ended = c.ended }) first.same

  turns_on : w.counts.turns + length b.turned ≡ mid.counts.turns + length c.turned
      → w.counts.turns + length a.turned ≡ v.counts.turns + length c.turned
  turns_on second = let e = first.turns in omega arith

  pub looks_on : HasLooked mid b t c w → HasLooked v a (s ++ t) c w
  looks_on second = record {
    wait_is = second.wait_is;
    same = same_wait second.same;
    turns = turns_on second.turns;
    makes = makes second.makes;
    others = second.others ∙ ap changed first.others;
  }

  abbrev finished : Waiting → View → View
  finished wait z = record z {
    enter = w.enter;
    hands = record z.hands { retired = map (waited_retired wait) z.hands.retired };
    moving = waited_move wait z.moving;
    wait = w.wait;
    counts = record z.counts { turns = w.counts.turns };
    trail = w.trail;
    seen = w.seen;
  }

  left_mark : Leaves between (Ended v.allowance.place a.count) w → Leaves v (Ended v.allowance.place a.count) w
  left_mark l = record {
    before = l.before;
    seen = record { works = l.seen.works; begins = l.seen.begins; own = l.seen.own };
    marked = l.marked;
  }

  abbrev ends_on : EndBy is_look t → EndBy is_look (s ++ t)
  ends_on e = record {
    earlier = s ++ e.earlier;
    last = e.last;
    whole = ap (λ l. s ++ l) e.whole ∙ sym (append_assoc s e.earlier (e.last ∷ []));
    kind_is = e.kind_is;
  }

  excused_by : (field : Field) (n : ℕ) → excuses b field n ≡ true → excuses a field n ≡ true
  excused_by field n so = sym (excused_same a b.excused b.turned b.ended field n) ∙ sym (ap (λ z. excuses z field n) first.same) ∙ so

  pub looks_end : HasEnded mid b t c w → HasEnded v a (s ++ t) c w
  looks_end second = record {
    wait_is = second.wait_is;
    same = same_wait second.same;
    ended = second.ended;
    turns = turns_on second.turns;
    makes = makes second.makes;
    ends = ends_on second.ends;
    excused = excused_by second.ends.last.field second.ends.last.number second.excused;
    leaves = left_mark (subst (λ (z : View × ℕ). Leaves z.0 (Ended z.0.allowance.place z.1) w)
        (λ i. (first.others i, ap (λ (x : Waiting). x.count) first.same i)) second.leaves);
    others = second.others ∙ ap (λ (z : View × Waiting). finished z.1 z.0) (λ i. (first.others i, first.same i));
    informed = second.informed;
  }

-- A wait that ended outlasted its readers.
pub have_left : (v : View) (wait : Waiting) (steps : List StepMade) (new : Waiting) (w : View) → HasEnded v wait steps new w
    → HaveLeft v.allowance.place wait.count wait.low wait.high w.seen
have_left v wait steps new w e = record {
  left = λ began at q n x begins entered before least most.
      let end = e.leaves.before in
      let there : get_elem? w.seen (length end) ≡ some (Ended v.allowance.place wait.count) =
      ap (λ l. get_elem? l (length end)) e.leaves.marked ∙ at_last end (Ended v.allowance.place wait.count) (length end) refl in
      let t = e.informed.grace began
      (length end) at v.allowance.place wait.count wait.low wait.high q n x begins there entered before least most in
      (t.at, t.left);
}

abbrev no_more : View → List StepMade → Trail
no_more v l = record v.trail { steps = l }

-- polls, one after another
module _ {W : Type 0} (k : Shape) (v u w : View) (grace next : Grace W) (come : IsGoingOn k v grace u) where
  was_new : (wait : Waiting) → u.wait ≡ Some wait → wait ≡ come.new
  was_new wait was = let one : Some wait ≡ Some come.new = sym was ∙ come.looked.wait_is in cc

  pub latest_on : IsLatestOf k grace u
  latest_on = (come.new, come.looked.wait_is, come.reaches)

  pub polls_on : (why : Why) → Polled k u (NotYet why) next w → IsGoingOn k v next w
  polls_on why stopped =
      let p = stopped.on in
      let second = subst (λ z. HasLooked u z p.steps p.new w) (was_new p.wait p.was) p.looked in
      record {
        wait = come.wait;
        steps = come.steps ++ p.steps;
        new = p.new;
        was = come.was;
        looked = looks_on v u w come.wait come.new p.new come.steps p.steps come.looked second;
        reaches = p.reaches;
      }

  pub polls_end : Polled k u Over next w → IsOver k v w
  polls_end p =
      let second = subst (λ z. HasEnded u z p.steps p.new w) (was_new p.wait p.was) p.ended in
      let ended = looks_end v u w come.wait come.new p.new come.steps p.steps come.looked second in
      record {
        wait = come.wait;
        steps = come.steps ++ p.steps;
        new = p.new;
        was = come.was;
        ended = ended;
        turned = p.turned;
        left = have_left v come.wait (come.steps ++ p.steps) p.new w ended;
      }

pub begins_on : {W : Type 0} (k : Shape) (v : View) (grace : Grace W) → IsLatestOf k grace v → IsGoingOn k v grace v
begins_on k v grace latest = record {
  wait = latest.0;
  steps = [];
  new = latest.0;
  was = latest.1;
  looked = record { wait_is = latest.1; same = refl; turns = refl; makes = ap (no_more v) (sym (append-nil v.trail.steps)); others = refl };
  reaches = latest.2;
}

-- after a look that changed nothing
pub passes_on : (v mid w : View) (wait : Waiting) (s t : List StepMade) (last : Bool) (field : Field) → HasLooked v wait s wait mid
    → Passed mid wait last t field w → Passed v wait last (s ++ t) field w
passes_on v mid w wait s t false field first second = looks_on v mid w wait wait (with_excused wait field) s t first second
passes_on v mid w wait s t true field first second = looks_end v mid w wait wait (ended_by wait field) s t first second

-- What the latest steps show stays so where more steps stand before them, and the wait's keys and clock stay.
end_later : (s t last : List StepMade) → EndWith t last → EndWith (s ++ t) last
end_later s t last e = (s ++ e.0, ap (λ l. s ++ l) e.1 ∙ sym (append_assoc s e.0 last))

pub shows_later : (s t : List StepMade) (wait : Waiting) (why : Why) → Shows wait t why → Shows wait (s ++ t) why
shows_later s t wait (Reader place key stamp) is = (end_later s t _ is.0, is.1, is.2, is.3)
shows_later s t wait (Counter class side count) is = (end_later s t _ is.0, is.1, is.2)
shows_later s t wait (RowOf place class stamp) is = (end_later s t _ is.0, is.1, is.2, is.3)
shows_later s t wait _ is = absurd is

abbrev again : Waiting → Waiting → Waiting
again wait new = record wait { excused = new.excused; turned = new.turned; ended = new.ended }

shows_same : (wait new : Waiting) (steps : List StepMade) (why : Why) → Shows (again wait new) steps why → Shows wait steps why
shows_same wait new steps (Reader place key stamp) is = is
shows_same wait new steps _ is = is

pub shows_by : (wait new : Waiting) → IsSameWait wait new → (steps : List StepMade) (why : Why) → Shows new steps why → Shows wait steps why
shows_by wait new same steps why is = shows_same wait new steps why (subst (λ z. Shows z steps why) same is)

-- A grace that begins at the first place and class is that of a wait that was just begun, whatever the waiter.
pub latest : {W : Type 0} (k : Shape) (v w : View) (keys : Interval) (found : ℕ) (grace : Grace W) → grace.keys ≡ keys → grace.clock ≡ found
    → reached grace ≡ start → Told k v (BeginWait keys.low keys.high) found w → IsLatestOf k grace w
latest k v w keys found grace keys_is clock_is begins told = (
  new_wait (noted v (BeginWait keys.low keys.high) found) keys.low keys.high found told.marks,
  ap (λ (z : View). z.wait) told.goes,
  record {
    going = refl;
    low_is = ap (λ (z : Interval). z.low) (sym keys_is);
    high_is = ap (λ (z : Interval). z.high) (sym keys_is);
    clock_is = sym clock_is;
    inside = omega (arith, place);
    small = omega (arith, class);
    excused = none_before;
    met = λ c in_it. absurd (search (rules, in_it.1));
    turned = λ domain c in_it. absurd (search (rules, in_it.1));
    once = λ domain c small meets before. absurd (no_class c before);
  },
)
  where
    place : grace.place ≡ 0
    place = ap (λ (r : Reached). r.place) begins

    class : grace.class ≡ 0
    class = ap (λ (r : Reached). r.class) begins

    turned : grace.turned ≡ false
    turned = ap (λ (r : Reached). r.turned) begins

    no_class : (c : ℕ) → IsTurnedBefore (reached grace) c → ⊥
    no_class c before = ⊎_elim (λ less. omega (arith, less, class))
        (λ (on : (c ≡ grace.class) × (grace.turned ≡ true)). let e : false ≡ true = sym turned ∙ on.1 in cc) before

    none_before : (field : Field) → IsSpot k (new_wait
        (noted v (BeginWait keys.low keys.high) found) keys.low keys.high found told.marks) field → IsBefore (reached grace) field
        → IsIn [] field
    none_before (Stamp q) spot before = absurd (omega (arith, before, place))
    none_before (Count c side) spot before = absurd
        (⊎_elim (λ less. omega (arith, less, class))
        (λ (on : (c ≡ grace.class) × (grace.turned ≡ true) × (side ≢ grace.gate % 2)). let e : false ≡ true = sym turned ∙ on.1 in
        cc) before)
    none_before (Row p c) spot before = absurd (⊎_elim (λ less. omega (arith, less, place))
        (λ (on : (p ≡ grace.place) × (c < grace.class)). omega (arith, on.1, class)) before)
    none_before _ spot before = absurd before

-- A poll that goes on from part to part, and a look in it.

-- The wait of a view is one.
pub one_wait : (v : View) (a b : Waiting) → v.wait ≡ Some a → v.wait ≡ Some b → a ≡ b
one_wait v a b first second = let one : Some a ≡ Some b = sym first ∙ second in cc

module _ {W : Type 0} (k : Shape) (v u w : View) (grace next : Grace W) (come : IsGoingOn k v grace u) where
  pub goes_further : IsGoingOn k u next w → IsGoingOn k v next w
  goes_further p =
      let second = subst (λ z. HasLooked u z p.steps p.new w) (one_wait u p.wait come.new p.was come.looked.wait_is) p.looked in
      record {
        wait = come.wait;
        steps = come.steps ++ p.steps;
        new = p.new;
        was = come.was;
        looked = looks_on v u w come.wait come.new p.new come.steps p.steps come.looked second;
        reaches = p.reaches;
      }

  pub stops_further : (why : Why) → Polled k u (NotYet why) next w → Polled k v (NotYet why) next w
  unfolding goes_further
  stops_further why p =
      let same = one_wait u p.on.wait come.new p.on.was come.looked.wait_is in
      let shows = shows_later come.steps p.on.steps come.new why (subst (λ z. Shows z p.on.steps why) same p.shows) in
      record {
        on = goes_further p.on;
        shows = shows_by come.wait come.new come.looked.same (come.steps ++ p.on.steps) why shows;
        there = p.there;
      }

-- A look that met a reader stops the poll where it is.
pub stops_here : {W : Type 0} (k : Shape) (v w : View) (grace : Grace W) → IsLatestOf k grace v → (why : Why) → StopsAt (reached grace) why
    → HasMet v why w → Polled k v (NotYet why) grace w
stops_here k v w grace latest why there p =
    let same = one_wait v p.0 latest.0 p.2 latest.1 in
    record {
      on = record {
        wait = latest.0;
        steps = p.1;
        new = latest.0;
        was = latest.1;
        looked = subst (λ z. HasLooked v z p.1 z w) same p.3;
        reaches = latest.2;
      };
      shows = subst (λ z. Shows z p.1 why) same p.4;
      there = there;
    }

pub comes_to : {W : Type 0} (k : Shape) (v u : View) (grace : Grace W) → IsGoingOn k v grace u → IsLatestOf k grace u
comes_to k v u grace come = (come.new, come.looked.wait_is, come.reaches)

-- Polls of any waiter: what its tests show, and from look to look.

falsely : (b : Bool) → (b ≡ true → ⊥) → b ≡ false
falsely b never = ⊎_elim (λ (t : b ≡ true). absurd (never t)) (λ (f : b ≡ false). f) (cases_Bool b)

pub not_so : {P : Type 0} (b : Bool) → (P → b ≡ true) → b ≡ false → P → ⊥
not_so b makes is p = absurd (let e : true ≡ false = sym (makes p) ∙ is in cc)

-- A stamp that is idle or above the wait's clock is no reader's for whom the wait is.
module _ (clock stamp : ℕ) where
  pub stamp_idle : stamp ≡ idle → (stamp == idle || nat_lt clock stamp) ≡ true
  stamp_idle is = or_left (stamp == idle) (nat_lt clock stamp) (eq-eqb stamp idle is)

  pub stamp_late : clock < stamp → (stamp == idle || nat_lt clock stamp) ≡ true
  stamp_late late = or_right (stamp == idle) (nat_lt clock stamp) (lt-ltb clock stamp late)

  pub stamp_stays : stamp ≢ idle → stamp ≤ clock → (stamp == idle || nat_lt clock stamp) ≡ false
  stamp_stays busy early = falsely (stamp == idle || nat_lt clock stamp) (λ t. ⊎_elim
      (λ (e : (stamp == idle) ≡ true). busy (eqb-true stamp idle e))
      (λ (l : nat_lt clock stamp ≡ true). let m : clock < stamp = ltb-true clock stamp l in absurd (omega (arith, m, early)))
      (or_cases (stamp == idle) (nat_lt clock stamp) t))

-- Nor is a key outside the interval.
module _ (wait : Waiting) (keys : Interval) (key : ℕ) (low : wait.low ≡ keys.low) (high : wait.high ≡ keys.high) where
  pub key_out : (Holds keys key → ⊥) → is_for wait key ≡ false
  key_out out = falsely (is_for wait key) (λ t.
      let p = and_parts (nat_le wait.low key) (nat_le key wait.high) t in
      let a : wait.low ≤ key = leb-true wait.low key p.0 in
      let b : key ≤ wait.high = leb-true key wait.high p.1 in
      out (omega (arith, a, low), omega (arith, b, high)))

  pub key_in : Holds keys key → is_for wait key ≡ true
  key_in inside = and_from (nat_le wait.low key) (nat_le key wait.high) (le-leb wait.low key (omega (arith, inside.0, low)))
      (le-leb key wait.high (omega (arith, inside.1, high)))

-- one load, as its call tells it
module _ (v w : View) (kind : Kind) (field : Field) (wait : Waiting) (found : ℕ) (last : Bool) (h : List Mark) (was : v.wait ≡ Some wait)
    (sees : Sees v h) (goes : w ≡ after_look (stepped v kind field found) (wait_of v) field last found h) (informed : IsInformed w) where
  look_is : w ≡ after_look (stepped v kind field found) wait field last found h
  look_is = goes ∙ ap (λ z. after_look (stepped v kind field found) z field last found h) (wait_is v wait was)

  pub load_passes : is_look kind ≡ true → excuses wait field found ≡ true → Passed v wait last (step_of kind field found) field w
  load_passes looks is = look_passes v w kind field wait found h was sees informed looks last is look_is

  pub load_stays : excuses wait field found ≡ false → HasLooked v wait (step_of kind field found) wait w
  load_stays is = look_stays v w kind field wait found h was sees informed last is look_is

-- from look to look
module _ {W : Type 0} (k : Shape) (v u w : View) (grace : Grace W) (come : IsGoingOn k v grace u) where
  same_was : (wait : Waiting) → u.wait ≡ Some wait → wait ≡ come.new
  same_was wait was = let one : Some wait ≡ Some come.new = sym was ∙ come.looked.wait_is in cc

  pub goes_on : (next : Grace W) (field : Field) → HasPassed u false field w
      → HasReached k next.keys next.clock (reached next) (with_excused come.new field) → IsGoingOn k v next w
  goes_on next field p there =
      let second = subst (λ z. HasLooked u z p.1 (with_excused z field) w) (same_was p.0 p.2) p.3 in
      record {
        wait = come.wait;
        steps = come.steps ++ p.1;
        new = with_excused come.new field;
        was = come.was;
        looked = looks_on v u w come.wait come.new (with_excused come.new field) come.steps p.1 come.looked second;
        reaches = there;
      }

  pub is_not_yet : (why : Why) → StopsAt (reached grace) why → HasMet u why w → Polled k v (NotYet why) grace w
  is_not_yet why there p =
      let same = same_was p.0 p.2 in
      let second = subst (λ z. HasLooked u z p.1 z w) same p.3 in
      let shows = shows_later come.steps p.1 come.new why (subst (λ z. Shows z p.1 why) same p.4) in
      record {
        on = record {
          wait = come.wait;
          steps = come.steps ++ p.1;
          new = come.new;
          was = come.was;
          looked = looks_on v u w come.wait come.new come.new come.steps p.1 come.looked second;
          reaches = come.reaches;
        };
        shows = shows_by come.wait come.new come.looked.same (come.steps ++ p.1) why shows;
        there = there;
      }

  pub is_over : (field : Field) → HasPassed u true field w
      → (k.waiter ≡ Domain → (c : ℕ) → c < 64 → MeetsClass (keys_of come.new) c → times c come.new.turned ≡ 1) → IsOver k v w
  is_over field p each =
      let second = subst (λ z. HasEnded u z p.1 (ended_by z field) w) (same_was p.0 p.2) p.3 in
      let ended = looks_end v u w come.wait come.new (ended_by come.new field) come.steps p.1 come.looked second in
      record {
        wait = come.wait;
        steps = come.steps ++ p.1;
        new = ended_by come.new field;
        was = come.was;
        ended = ended;
        turned = record { only = come.reaches.met; each = each };
        left = have_left v come.wait (come.steps ++ p.1) (ended_by come.new field) w ended;
      }

  -- the same for waiters that turn no gates
  pub ends : (field : Field) → HasPassed u true field w → (k.waiter ≡ Domain → ⊥) → IsOver k v w
  ends field p never = is_over field p (λ domain. absurd (never domain))

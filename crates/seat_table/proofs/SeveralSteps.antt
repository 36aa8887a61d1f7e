-- What steps come to that are made one after another: sections, how many they were, notes, and a slot that is seized.
use Rattle.std.proofs.Common.{◌≡◌, ℕ, ap, ◌∙◌, Bool, true, cond, append_assoc, append-nil, eq-eqb, ◌%◌, ◌^◌, ◌<◌, List, [], ◌∷◌, ◌++◌, length, Some, None, refl, sym, subst, ◌+◌, ◌≤◌, arith, length-append, ◌≢◌, Option, ⊎_elim, ne_eqb, ◌*◌, ◌/◌, false, inl}
use Rattle.core_state.specs.declared.shape.Shape.{Shape}
use Rattle.core_state.specs.declared.view.View.{View}
use Rattle.core_state.specs.declared.act.Act.{Act}
use Rattle.core_state.specs.Acts.{noted, after, clocked_at, section_of, field_of, kind_of, clocked_of}
use Rattle.seat_table.specs.Gains.{Told, Sees, IsInformed, GivesAnswer, LeavesAnswer}
use Rattle.std.specs.List.{AllByRecursion}
use mathlib.Core.List.{IsPrefix}
use Rattle.prcu_model.proofs.ListFacts.{all_append}
use Rattle.prcu_marks.specs.declared.mark.Mark.{Mark}
use Rattle.prcu_marks.specs.Marks.{is_of, own_of}
use Rattle.prcu_marks.proofs.Marks.{own_of-append}
use Rattle.core_frames.proofs.Roles.{works_there}
use Rattle.core_state.specs.declared.words.Field.{Field}
use Rattle.core_state.specs.declared.words.Kind.{Kind}
use Rattle.core_state.specs.declared.view.Section.{Section}
use Rattle.core_state.specs.declared.view.StepMade.{StepMade}
use Rattle.core_state.specs.declared.view.Trail.{Trail}
use Rattle.core_state.specs.Steps.{stepped, after_clock_load, after_announce, NeedsEnterByStamp, gated, gate_in, NeedsEnterByCount, NeedsEnterByRow, entering, new_section, leaving, after_begin}
use Rattle.key_interval.specs.Keys.{class_of}
use Rattle.core_state.specs.declared.act.Act.TheVariants.{LoadClock, AnnounceKey, EnterByStamp, LeaveByStamp, BeginWait, LoadGate, EnterByCount, LeaveByCount, EnterByRow, LeaveByRow, Seize, RaiseInHand}
use Rattle.core_laws.proofs.Acting.{section_is, stays_at_work}
use Rattle.seat_table.specs.Sections.{Leaves, Makes, EndBy, is_entry, shows_reader, is_exit, HasEntered, EntersBy, HasLeft, HasBegun, HasMadeAtMost, HasStepped, AreOfEntry}
use Rattle.prcu_marks.specs.declared.mark.Why.{Why}
use Rattle.prcu_marks.specs.declared.mark.Why.TheVariants.{Reader, Counter, Row as RowOf}
use Rattle.core_state.specs.declared.shape.Waiter.{Waiter}
use Rattle.core_state.specs.declared.shape.Waiter.TheVariants.{Eer, Domain, Deer}
use Rattle.core_state.specs.declared.view.Waiting.{Waiting}
use Rattle.seat_table.specs.declared.wait.Grace.{Grace}
use Rattle.seat_table.specs.Waits.{EndWith, HasStopped, Shows}
use Rattle.std.proofs.lemmas.Bool.{cases_eq}
use Rattle.core_state.specs.declared.view.Held.{Held}
use Rattle.core_state.specs.declared.view.Known.{Known}
use Rattle.core_state.specs.declared.view.Retired.{Retired}
use Rattle.core_state.specs.Views.{note_option, known_in}
use Rattle.core_state.specs.Links.{change_retired, without_retired, IsInHand, NeedsFreeInHand, NeedsOwnLife, NeedsRaiseInHand, seized, after_seize, raise_held}
use Rattle.core_state.specs.declared.words.Field.TheVariants.{Life}
use Rattle.core_state.specs.declared.shape.Waiter.TheVariants as waiters
use Rattle.core_state.specs.declared.words.Field.TheVariants as words
use Rattle.core_state.specs.declared.words.Kind.TheVariants as kinds

-- One step after another: what a step leaves, from what its view is.

pub goes_from : {k : Shape} {v x w : View} {a : Act} {found : ℕ} → v ≡ x → (told : Told k v a found w)
    → w ≡ after (noted x a found) a told.marks found
goes_from {k} {v} {x} {w} {a} {found} is told = told.goes ∙ ap (λ z. after (noted z a found) a told.marks found) is

-- What several steps told, one after another: a section is entered, left, and a wait is begun.

-- Steps that are made one after another.
pub made_none : (which : Kind → Bool) (a : Trail) → Makes which a a
made_none which a = record { steps = []; each = tt; trail = sym (ap (λ (l : List StepMade). record a { steps = l }) (append-nil a.steps)) }

abbrev pub made_more : (which : Kind → Bool) (a : Trail) (w : View) (kind : Kind) (field : Field) (number : ℕ) → which kind ≡ true
    → Makes which a w.trail → Makes which a (stepped w kind field number).trail
made_more which a w kind field number is m =
    let t : StepMade = record { kind = kind; field = field; number = number } in
    record {
      steps = m.steps ++ t ∷ [];
      each = all_append (λ (t : StepMade). which t.kind ≡ true) m.steps (t ∷ []) m.each (is, tt);
      trail = (λ i. record (m.trail i) { steps = (m.trail i).steps ++ t ∷ [] })
          ∙ (λ i. record a { steps = append_assoc a.steps m.steps (t ∷ []) i });
    }

-- one step after others
one_more : (a : Trail) (steps : List StepMade) (w : View) (kind : Kind) (field : Field) (number : ℕ)
    → w.trail ≡ record a { steps = a.steps ++ steps } → (stepped w kind field number).trail
    ≡ record a { steps = a.steps ++ (steps ++ record { kind = kind; field = field; number = number } ∷ []) }
one_more a steps w kind field number made =
    let t : StepMade = record { kind = kind; field = field; number = number } in
    (λ i. record (made i) { steps = (made i).steps ++ t ∷ [] }) ∙ (λ i. record a { steps = append_assoc a.steps steps (t ∷ []) i })

all_of : (f g : Kind → Bool) → ((kind : Kind) → f kind ≡ true → g kind ≡ true) → (ts : List StepMade)
    → AllByRecursion (λ (t : StepMade). f t.kind ≡ true) ts → AllByRecursion (λ (t : StepMade). g t.kind ≡ true) ts
all_of f g more [] all = tt
all_of f g more (t ∷ ts) all = (more t.kind all.0, all_of f g more ts all.1)

pub made_both : (f g h : Kind → Bool) → ((kind : Kind) → f kind ≡ true → h kind ≡ true) → ((kind : Kind) → g kind ≡ true → h kind ≡ true)
    → (a b c : Trail) → Makes f a b → Makes g b c → Makes h a c
made_both f g h first second a b c m n = record {
  steps = m.steps ++ n.steps;
  each = all_append (λ (t : StepMade). h t.kind ≡ true) m.steps n.steps (all_of f h first m.steps m.each)
      (all_of g h second n.steps n.each);
  trail = n.trail ∙ (λ i. record (m.trail i) { steps = (m.trail i).steps ++ n.steps })
      ∙ (λ i. record a { steps = append_assoc a.steps m.steps n.steps i });
}

-- One mark after another: what was seen is a beginning of what is seen then.
pub seen_more : (v w : View) (mark : Mark) → Leaves v mark w → IsPrefix v.seen w.seen
seen_more v w mark leaves =
    let more = leaves.seen.begins in
    (more.0 ++ mark ∷ [], sym (append_assoc v.seen more.0 (mark ∷ [])) ∙ ap (λ l. l ++ mark ∷ []) more.1 ∙ sym leaves.marked)

-- and the marks of the own place are one more
pub own_more : (v w : View) (mark : Mark) → is_of v.allowance.place mark ≡ true → Leaves v mark w
    → own_of v.allowance.place w.seen ≡ own_of v.allowance.place v.seen ++ mark ∷ []
own_more v w mark mine leaves =
    ap (own_of v.allowance.place) leaves.marked ∙ own_of-append v.allowance.place leaves.before (mark ∷ [])
    ∙ ap (λ l. l ++ own_of v.allowance.place (mark ∷ [])) (sym (leaves.seen.own v.allowance.place (works_there v leaves.seen.works)))
    ∙ ap (λ b. own_of v.allowance.place v.seen ++ cond b (mark ∷ []) []) mine

-- steps of an entry, of which the last one shows that the seat reads
abbrev Enters : Trail → Trail → Type 0
Enters a b = (made : Makes is_entry a b) × EndBy shows_reader made.steps

enters_by : (a : Trail) (w : View) (kind : Kind) (field : Field) (number : ℕ) → is_entry kind ≡ true → shows_reader kind ≡ true
    → Makes is_entry a w.trail → Enters a (stepped w kind field number).trail
enters_by a w kind field number is shows m = (
  made_more is_entry a w kind field number is m,
  record { earlier = m.steps; last = record { kind = kind; field = field; number = number }; whole = refl; kind_is = shows },
)

-- A section that is entered from a view in which only what was done for it changed.
entered_from : (v u w : View) (key stamp clocked : ℕ) (h : List Mark) → Enters v.trail u.trail
    → u ≡ record v { enter = u.enter; trail = u.trail } → Sees u h → w ≡ entering u key stamp clocked h → IsInformed w → HasEntered v key w
entered_from v u w key stamp clocked h enters same sees is told = subst (HasEntered v key) (sym is)
    (subst (λ z. Sees z h → IsInformed (entering z key stamp clocked h) → HasEntered v key (entering z key stamp clocked h)) (sym same)
    (λ s i. record {
      leaves = record { before = h; seen = record { works = s.works; begins = s.begins; own = s.own }; marked = refl };
      section = new_section (record v { enter = u.enter; trail = u.trail }) key stamp clocked h;
      inside = refl;
      key_is = refl;
      count_is = refl;
      no_list = refl;
      from_is = refl;
      reading_is = refl;
      made = enters.0;
      ends = enters.1;
      others = refl;
      informed = i;
    }) sees (subst IsInformed is told))

-- the first waiter: the clock, the key, then the stamp
module _ (k : Shape) (v : View) (key stamp : ℕ) (v1 v2 : View) (first : Told k v LoadClock stamp v1)
    (second : Told k v1 (AnnounceKey key) key v2) where
  abbrev announced : View
  announced = after_announce (noted (after_clock_load (noted v LoadClock stamp) stamp first.marks) (AnnounceKey key) key) key

  second_is : v2 ≡ announced
  second_is = second.goes ∙ ap (λ z. after_announce (noted z (AnnounceKey key) key) key) first.goes

  -- what the third step of enter needs
  pub needs_entry : v.section ≡ None → v.locks ≡ [] → key < 2 ^ 64 → NeedsEnterByStamp v2 key stamp (clocked_of v2)
  needs_entry outside free fits = subst (λ z. NeedsEnterByStamp z key stamp (clocked_of z)) (sym second_is) (record {
    entry = record { outside = outside; free = free; key_fits = fits };
    clock = refl;
    stamp_is = refl;
    announced = refl;
  })

  pub entered : (w : View) → Told k v2 (EnterByStamp key stamp) stamp w → HasEntered v key w
  entered w third =
      let s = third.sees in
      entered_from v (noted v2 (EnterByStamp key stamp) stamp) w key stamp (clocked_at v2) third.marks
      (subst (λ z. Enters v.trail (noted z (EnterByStamp key stamp) stamp).trail) (sym second_is)
      (enters_by v.trail announced kinds.K5 _ _ refl refl
      (made_more is_entry v.trail (after_clock_load (noted v LoadClock stamp) stamp first.marks) kinds.K4 _ _ refl
      (made_more is_entry v.trail v kinds.K3 _ _ refl (made_none is_entry v.trail)))))
      (subst (λ z. noted z (EnterByStamp key stamp) stamp
      ≡ record v { enter = z.enter; trail = (noted z (EnterByStamp key stamp) stamp).trail }) (sym second_is) refl)
      (record { works = s.works; begins = s.begins; own = s.own }) third.goes third.informed

  pub enters : (w : View) → Told k v2 (EnterByStamp key stamp) stamp w → EntersBy waiters.Eer v key w
  enters w third =
      let loaded : View = after_clock_load (noted v LoadClock stamp) stamp first.marks in
      let place = v.allowance.place in
      let one : StepMade = record { kind = kinds.K3; field = words.Clock; number = stamp } in
      let two : StepMade = record { kind = kinds.K4; field = words.Announced place; number = key } in
      record {
        steps = one ∷ (two ∷ (record { kind = kinds.K5; field = words.Stamp place; number = stamp } ∷ []));
        makes = ap (λ (z : View). z.trail) third.goes ∙ ap (λ z. (noted z (EnterByStamp key stamp) stamp).trail) second_is
            ∙ one_more v.trail (one ∷ (two ∷ [])) announced kinds.K5 (words.Stamp place) stamp
            (one_more v.trail (one ∷ []) loaded kinds.K4 (words.Announced place) key refl);
        are = (stamp, refl);
      }

-- the third waiter: the clock, then the stamp
module _ (k : Shape) (v v1 : View) (key stamp : ℕ) (first : Told k v LoadClock stamp v1) where
  pub needs_row : v.section ≡ None → v.locks ≡ [] → key < 2 ^ 64 → NeedsEnterByRow v1 key stamp (clocked_of v1)
  needs_row outside free fits = subst (λ z. NeedsEnterByRow z key stamp (clocked_of z)) (sym first.goes)
      (record { entry = record { outside = outside; free = free; key_fits = fits }; clock = refl; stamp_is = refl })

  pub entered_row : (w : View) → Told k v1 (EnterByRow key stamp) stamp w → HasEntered v key w
  entered_row w second =
      let s = second.sees in
      entered_from v (noted v1 (EnterByRow key stamp) stamp) w key stamp (clocked_at v1) second.marks
      (subst (λ z. Enters v.trail (noted z (EnterByRow key stamp) stamp).trail) (sym first.goes)
      (enters_by v.trail (after_clock_load (noted v LoadClock stamp) stamp first.marks) kinds.K33 _ _ refl refl
      (made_more is_entry v.trail v kinds.K3 _ _ refl (made_none is_entry v.trail))))
      (subst (λ z. noted z (EnterByRow key stamp) stamp
      ≡ record v { enter = z.enter; trail = (noted z (EnterByRow key stamp) stamp).trail }) (sym first.goes) refl)
      (record { works = s.works; begins = s.begins; own = s.own }) second.goes second.informed

  pub enters_row : (w : View) → Told k v1 (EnterByRow key stamp) stamp w → EntersBy waiters.Deer v key w
  enters_row w second =
      let row : Field = words.Row v.allowance.place (class_of key) in
      let one : StepMade = record { kind = kinds.K3; field = words.Clock; number = stamp } in
      record {
        steps = one ∷ (record { kind = kinds.K33; field = row; number = stamp } ∷ []);
        makes = ap (λ (z : View). z.trail) second.goes ∙ ap (λ z. (noted z (EnterByRow key stamp) stamp).trail) first.goes
            ∙ one_more v.trail (one ∷ []) (after_clock_load (noted v LoadClock stamp) stamp first.marks) kinds.K33 row stamp refl;
        are = (stamp, refl);
      }

-- the second waiter: the gate, then the count
module _ (k : Shape) (v v1 : View) (key gate : ℕ) (outside : v.section ≡ None) (first : Told k v (LoadGate (class_of key)) gate v1) where
  abbrev read : View
  read = noted v (LoadGate (class_of key)) gate

  gate_is : v1 ≡ gated read (class_of key) gate None
  gate_is = first.goes ∙ ap (gated read (class_of key) gate) outside

  pub needs_count : (side : ℕ) → v.locks ≡ [] → key < 2 ^ 64 → side ≡ gate % 2 → NeedsEnterByCount v1 key side
  needs_count side free fits side_is = subst (λ z. NeedsEnterByCount z key side) (sym gate_is) (record {
    entry = record { outside = outside; free = free; key_fits = fits };
    gate = gate;
    gate_is = ap (λ same. cond same (Some gate) (gate_in v.enter.gates (class_of key))) (eq-eqb (class_of key) (class_of key) refl);
    side_is = side_is;
  })

  pub entered_count : (w : View) (side found : ℕ) → Told k v1 (EnterByCount key side) found w → HasEntered v key w
  entered_count w side found second =
      let s = second.sees in
      entered_from v (noted v1 (EnterByCount key side) found) w key side (length second.marks) second.marks
      (subst (λ z. Enters v.trail (noted z (EnterByCount key side) found).trail) (sym gate_is)
      (enters_by v.trail (gated read (class_of key) gate None) kinds.K29 _ _ refl refl
      (made_more is_entry v.trail v kinds.K28 _ _ refl (made_none is_entry v.trail))))
      (subst (λ z. noted z (EnterByCount key side) found
      ≡ record v { enter = z.enter; trail = (noted z (EnterByCount key side) found).trail }) (sym gate_is) refl)
      (record { works = s.works; begins = s.begins; own = s.own }) second.goes second.informed

  pub enters_count : (w : View) (side found : ℕ) → side ≡ gate % 2 → Told k v1 (EnterByCount key side) found w
      → EntersBy waiters.Domain v key w
  enters_count w side found side_is second =
      let count : Field = words.Count (class_of key) side in
      let one : StepMade = record { kind = kinds.K28; field = words.Gate (class_of key); number = gate } in
      record {
        steps = one ∷ (record { kind = kinds.K29; field = count; number = found } ∷ []);
        makes = ap (λ (z : View). z.trail) second.goes ∙ ap (λ z. (noted z (EnterByCount key side) found).trail) gate_is
            ∙ one_more v.trail (one ∷ []) (gated read (class_of key) gate None) kinds.K29 count found refl;
        are = (
          gate,
          found,
          λ i. one ∷ (record { kind = kinds.K29; field = words.Count (class_of key) (side_is i); number = found } ∷ []),
        );
      }

-- A section is left by one step.
left_by : (v w : View) (kind : Kind) (field : Field) (number : ℕ) (section : Section) (h : List Mark) → is_exit kind ≡ true
    → v.section ≡ Some section → Sees v h → w ≡ leaving (stepped v kind field number) (section_of v) h → LeavesAnswer v w → IsInformed w
    → HasLeft v w
unfolding made_none
left_by v w kind field number section h exit was sees goes answers informed =
    let is : w ≡ leaving (stepped v kind field number) section h =
    goes ∙ ap (λ s. leaving (stepped v kind field number) s h) (section_is v section was) in
    subst (HasLeft v) (sym is) (record {
      section = section;
      was = was;
      leaves = record { before = h; seen = sees; marked = refl };
      outside = refl;
      made = made_more is_exit v.trail v kind field number exit (made_none is_exit v.trail);
      once = refl;
      others = refl;
      answer = subst (λ z. GivesAnswer z section) (ap (λ (z : View). z.seen) is) (answers.answer section was);
      informed = subst IsInformed is informed;
    })

module _ (k : Shape) (v w : View) (section : Section) (was : v.section ≡ Some section) (found : ℕ) where
  pub left : Told k v LeaveByStamp found w → HasLeft v w
  left told = left_by v w kinds.K6 _ found section told.marks refl was told.sees told.goes told.gains told.informed

  pub left_count : (class side : ℕ) → Told k v (LeaveByCount class side) found w → HasLeft v w
  left_count class side told = left_by v w kinds.K30 _ found section told.marks refl was told.sees told.goes told.gains told.informed

  pub left_row : (class : ℕ) → Told k v (LeaveByRow class) found w → HasLeft v w
  left_row class told = left_by v w kinds.K34 _ found section told.marks refl was told.sees told.goes told.gains told.informed

pub begun : (k : Shape) (v w : View) (low high found : ℕ) → Told k v (BeginWait low high) found w → HasBegun v low high w
begun k v w low high found told =
    let h : List Mark = told.marks in
    let is : w ≡ after_begin (noted v (BeginWait low high) found) low high found h = told.goes in
    subst (HasBegun v low high) (sym is) (record {
      clock = found;
      leaves = record { before = h; seen = told.sees; marked = refl };
      wait_is = refl;
      older = ((told.before).tells).older;
      moves = λ move is. (((told.before).tells).moves move is).2;
      made = refl;
      others = refl;
      informed = subst IsInformed is told.informed;
    })

-- How many steps a seat has made, from one view to another.

more_steps : (before steps after : List StepMade) → after ≡ before ++ steps → length after ≡ length before + length steps
more_steps before steps after is = ap length is ∙ length-append before steps

pub step_more : (v w : View) (step : StepMade) → w.trail.steps ≡ v.trail.steps ++ step ∷ [] → HasStepped v w
step_more v w step is = let e = more_steps v.trail.steps (step ∷ []) w.trail.steps is in omega (arith, e)

-- each step is one more
pub told_once : {k : Shape} {v w : View} {a : Act} {n : ℕ} → Told k v a n w → length w.trail.steps ≡ length v.trail.steps + 1
told_once {k} {v} {w} {a} {n} t =
    more_steps v.trail.steps (record { kind = kind_of a; field = field_of v.allowance.place a; number = n } ∷ []) w.trail.steps
    (ap (λ (z : View). z.trail.steps) t.goes ∙ (stays_at_work (noted v a n) t.marks n a).steps)

pub told_steps : {k : Shape} {v w : View} {a : Act} {n : ℕ} → Told k v a n w → HasStepped v w
told_steps {k} {v} {w} {a} {n} t =
    step_more v w (record { kind = kind_of a; field = field_of v.allowance.place a; number = n })
    (ap (λ (z : View). z.trail.steps) t.goes ∙ (stays_at_work (noted v a n) t.marks n a).steps)

pub prefix_steps : (v w : View) → IsPrefix v.trail.steps w.trail.steps → length v.trail.steps ≤ length w.trail.steps
prefix_steps v w more = let e = more_steps v.trail.steps more.0 w.trail.steps (sym more.1) in omega (arith, e)

pub makes_steps : (v w : View) {which : Kind → Bool} → Makes which v.trail w.trail → length v.trail.steps ≤ length w.trail.steps
makes_steps v w {which} m = let e = more_steps v.trail.steps m.steps w.trail.steps (ap (λ (t : Trail). t.steps) m.trail) in
    omega (arith, e)

pub enters_steps : {v w : View} {key : ℕ} → HasEntered v key w → HasStepped v w
enters_steps {v} {w} {key} x =
    let e = more_steps v.trail.steps x.made.steps w.trail.steps (ap (λ (t : Trail). t.steps) x.made.trail) in
    let some = more_steps x.ends.earlier (x.ends.last ∷ []) x.made.steps x.ends.whole in
    omega (arith, e, some)

-- A section is entered by three steps at most, and left by one.
few_of_entry : (waiter : Waiter) (place key : ℕ) (steps : List StepMade) → AreOfEntry waiter place key steps → length steps ≤ 3
few_of_entry Eer place key steps are = let e = ap length are.1 in omega (arith, e)
few_of_entry Domain place key steps are = let e = ap length are.2 in omega (arith, e)
few_of_entry Deer place key steps are = let e = ap length are.1 in omega (arith, e)

pub entry_few : {waiter : Waiter} {v w : View} {key : ℕ} → EntersBy waiter v key w → HasMadeAtMost 3 v w
entry_few {waiter} {v} {w} {key} x =
    let e = more_steps v.trail.steps x.steps w.trail.steps (ap (λ (t : Trail). t.steps) x.makes) in
    let few = few_of_entry waiter v.allowance.place key x.steps x.are in
    omega (arith, e, few)

pub left_once : {v w : View} → HasLeft v w → length w.trail.steps ≡ length v.trail.steps + 1
left_once {v} {w} x =
    let e = more_steps v.trail.steps x.made.steps w.trail.steps (ap (λ (t : Trail). t.steps) x.made.trail) in
    let one = x.once in
    omega (arith, e, one)

-- What a poll found that isn't over, it found by a look.
ends_some : (steps last : List StepMade) → EndWith steps last → length last ≤ length steps
ends_some steps last ends = let e = more_steps ends.0 last steps ends.1 in omega (arith, e)

shows_some : (wait : Waiting) (steps : List StepMade) (why : Why) → Shows wait steps why → 1 ≤ length steps
shows_some wait steps (Reader place key stamp) shows = let some = ends_some steps _ shows.0 in omega (arith, some)
shows_some wait steps (Counter class side count) shows = ends_some steps _ shows.0
shows_some wait steps (RowOf place class stamp) shows = ends_some steps _ shows.0
shows_some wait steps _ shows = absurd shows

pub poll_steps : {W : Type 0} {k : Shape} {v w : View} {why : Why} {grace : Grace W} → HasStopped k v why grace w → HasStepped v w
poll_steps {W} {k} {v} {w} {why} {grace} stopped =
    let e = more_steps v.trail.steps stopped.on.steps w.trail.steps (ap (λ (t : Trail). t.steps) stopped.on.looked.makes) in
    let some = shows_some stopped.on.wait stopped.on.steps why stopped.shows in
    omega (arith, e, some)

-- What is noted of slots, for the calls that are made of several steps.

-- a retired slot that was changed and is taken out was taken out
pub without_changed : (s : ℕ) (f : Retired → Retired) → ((r : Retired) → (f r).slot ≡ r.slot) → (rs : List Retired)
    → without_retired s (change_retired s f rs) ≡ without_retired s rs
without_changed s f keeps [] = refl
without_changed s f keeps (x ∷ xs) = ⊎_elim
    (λ (e : x.slot ≡ s).
    ap (λ b. without_retired s (cond b (f x) x ∷ change_retired s f xs)) (eq-eqb x.slot s e)
    ∙ ap (λ b. cond b (without_retired s (change_retired s f xs)) (f x ∷ without_retired s (change_retired s f xs)))
    (eq-eqb (f x).slot s (keeps x ∙ e))
    ∙ without_changed s f keeps xs
    ∙ sym (ap (λ b. cond b (without_retired s xs) (x ∷ without_retired s xs)) (eq-eqb x.slot s e)))
    (λ (ne : x.slot ≢ s).
    ap (λ b. without_retired s (cond b (f x) x ∷ change_retired s f xs)) (ne_eqb x.slot s ne)
    ∙ ap (λ b. cond b (without_retired s (change_retired s f xs)) (x ∷ without_retired s (change_retired s f xs))) (ne_eqb x.slot s ne)
    ∙ ap (λ l. x ∷ l) (without_changed s f keeps xs)
    ∙ sym (ap (λ b. cond b (without_retired s xs) (x ∷ without_retired s xs)) (ne_eqb x.slot s ne)))
    (cases_eq x.slot s)

-- A slot that is seized, raised and freed: what one step told is what the next one needs.

-- the slot is in hand, its life was loaded, and it wasn't raised
pub record HasUnraised (v : View) (slot life : ℕ) : Type 0 where
  pub held : Held
  pub in_hand : IsInHand v held slot
  pub unraised : held.raised ≡ false
  pub loaded : known_in held.known (Life slot) ≡ Some life
  pub paid : v.hands.owes ≡ false

-- a seizing, and the load of the life of the slot that was seized
module _ (k : Shape) (v : View) (slot found : ℕ) (v1 : View) (free : found ≡ 0) (first : Told k v (Seize slot) found v1) where
  abbrev in_hand : View
  in_hand = after_seize (noted v (Seize slot) 0) slot 0 first.marks

  pub seized_is : v1 ≡ in_hand
  seized_is = first.goes ∙ ap (λ n. after_seize (noted v (Seize slot) n) slot n first.marks) free

  pub needs_life : NeedsOwnLife v1 slot
  needs_life = (seized slot, inl (subst (λ z. IsInHand z (seized slot) slot) (sym seized_is) (refl, refl)))

-- its life is raised, and it is freed
module _ (v : View) (slot life number : ℕ) (next : number ≡ 2 * (life / 2 + 1)) (hand : HasUnraised v slot life) where
  pub needs_raise : (held : Held) × NeedsRaiseInHand v held slot number
  needs_raise = (hand.held, record { in_hand = hand.in_hand; unraised = hand.unraised; life = life; loaded = hand.loaded; next = next })

  abbrev note : Known
  note = record { field = Life slot; number = number; stored = true }

  pub needs_free : (k : Shape) (w : View) → Told k v (RaiseInHand slot number) number w → (held : Held) × NeedsFreeInHand w held slot
  needs_free k w told = subst (λ z. (held : Held) × NeedsFreeInHand z held slot) (sym told.goes) (
    record hand.held { known = note ∷ hand.held.known; raised = true },
    record {
      paid = hand.paid;
      in_hand = (
        ap (λ o. raise_held (note_option slot note o)) hand.in_hand.0
            ∙ ap (λ b. raise_held (Some (cond b (record hand.held { known = note ∷ hand.held.known }) hand.held)))
            (eq-eqb hand.held.slot slot hand.in_hand.1),
        hand.in_hand.1,
      );
      raised = refl;
    },
  )

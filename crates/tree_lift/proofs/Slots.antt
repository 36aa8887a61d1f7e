-- A spare and a slot in hand, and what taking them leaves.
use Rattle.std.proofs.Common.{◌≡◌, ◌≢◌, ℕ, ◌≤◌, Bool, true, false, List, [], length, map, Option, Some, None, refl, sym, ap, subst, ◌∙◌, arith}
use mathlib.Core.List.{IsPrefix}
use Rattle.list_laws.specs.Counts.{times}
use Rattle.core_state.specs.declared.shape.Shape.{Shape}
use Rattle.core_state.specs.declared.words.Field.TheVariants.{Life}
use Rattle.core_state.specs.declared.view.Held.{Held}
use Rattle.core_state.specs.declared.view.HeldLock.{HeldLock}
use Rattle.core_state.specs.declared.view.Known.{Known}
use Rattle.core_state.specs.declared.view.Retired.{Retired}
use Rattle.core_state.specs.declared.view.View.{View}
use Rattle.core_state.specs.Views.{change_lock, note_lock, note_moving, note_option, note_held, unraised_among}
use Rattle.core_state.specs.declared.act.Act.TheVariants as acts
use Rattle.core_state.specs.declared.act.Part.TheVariants as part
use Rattle.core_laws.proofs.Acting.{part_word}
use Rattle.seat_table.specs.Gains.{IsInformed, IsAsked, Told}
use Rattle.seat_table.specs.Seats.{SeatAt, IsQuietSeat}
use Rattle.node_slots.specs.Slots.{PutsBack, aged, next_life}
use Rattle.node_slots.specs.Taking.{FoundNone, HasTaken}
use Rattle.node_slots.proofs.Points.{back_advanced, back_retired, taken_in_hand}
use Rattle.tree_points.proofs.Locks.{stays}
use Rattle.citrus_tree.specs.Going.{Goes}
use Rattle.citrus_tree.proofs.Leavings.{goes_on, goes_same}
use Rattle.citrus_tree.proofs.Linking.{goes_none, goes_taken}
use Rattle.tree_turn.specs.Turns.{IsQuietButHand}
use Rattle.tree_lift.specs.Lifts.{SeesToSpare, TakesSlots}

-- Of what makes a seat quiet nothing is other, but for the slot in hand and the spare.
pub record StaysCalm (v w : View) : Type 0 where
  pub section : w.section ≡ v.section
  pub locks : v.locks ≡ [] → w.locks ≡ []
  pub reserved : w.hands.reserved ≡ v.hands.reserved
  pub moving : v.moving ≡ None → w.moving ≡ None
  pub owes : w.hands.owes ≡ v.hands.owes
  pub commit : w.commit ≡ v.commit
  pub retired : w.hands.retired ≡ v.hands.retired
  pub records : w.records ≡ v.records

pub calm_on : {u v w : View} → StaysCalm u v → StaysCalm v w → StaysCalm u w
calm_on a b = record {
  section = b.section ∙ a.section;
  locks = λ none. b.locks (a.locks none);
  reserved = b.reserved ∙ a.reserved;
  moving = λ none. b.moving (a.moving none);
  owes = b.owes ∙ a.owes;
  commit = b.commit ∙ a.commit;
  retired = b.retired ∙ a.retired;
  records = b.records ∙ a.records;
}

-- after a note of a slot, and what else leaves it alone
by_note : (v w : View) (s : ℕ) (known : Known) → w.section ≡ v.section → w.locks ≡ change_lock s (note_lock known) v.locks
    → w.hands.reserved ≡ v.hands.reserved → w.moving ≡ note_moving s known v.moving → w.hands.owes ≡ v.hands.owes → w.commit ≡ v.commit
    → w.hands.retired ≡ v.hands.retired → w.records ≡ v.records → StaysCalm v w
by_note v w s known section locks reserved moving owes commit retired records = record {
  section = section;
  locks = λ none. locks ∙ ap (change_lock s (note_lock known)) none;
  reserved = reserved;
  moving = λ none. moving ∙ ap (note_moving s known) none;
  owes = owes;
  commit = commit;
  retired = retired;
  records = records;
}

pub taken_calm : {v w : View} {slot generation : ℕ} → HasTaken v slot generation w → StaysCalm v w
taken_calm {v} {w} {slot} t =
    let e = t.rest in
    by_note v w slot (record { field = Life slot; number = t.life; stored = false }) (ap (λ (z : View). z.section) e)
    (ap (λ (z : View). z.locks) e) (ap (λ (z : View). z.hands.reserved) e) (ap (λ (z : View). z.moving) e)
    (ap (λ (z : View). z.hands.owes) e) (ap (λ (z : View). z.commit) e) (ap (λ (z : View). z.hands.retired) e)
    (ap (λ (z : View). z.records) e)

pub kept_calm : {k : Shape} {v w : View} {slot n : ℕ} → Told k v (acts.KeepAsSpare slot) n w → StaysCalm v w
kept_calm {k} {v} {w} {slot} {n} t =
    let e = t.goes in
    by_note v w slot (record { field = Life slot; number = n; stored = false }) (ap (λ (z : View). z.section) e)
    (ap (λ (z : View). z.locks) e) (ap (λ (z : View). z.hands.reserved) e) (ap (λ (z : View). z.moving) e)
    (ap (λ (z : View). z.hands.owes) e) (ap (λ (z : View). z.commit) e) (ap (λ (z : View). z.hands.retired) e)
    (ap (λ (z : View). z.records) e)

pub none_calm : {k : Shape} {v w : View} → FoundNone k v w → StaysCalm v w
none_calm {k} {v} {w} n =
    let e = n.rest in record {
      section = ap (λ (z : View). z.section) e;
      locks = λ none. ap (λ (z : View). z.locks) e ∙ none;
      reserved = ap (λ (z : View). z.hands.reserved) e;
      moving = λ none. ap (λ (z : View). z.moving) e ∙ none;
      owes = ap (λ (z : View). z.hands.owes) e;
      commit = ap (λ (z : View). z.commit) e;
      retired = ap (λ (z : View). z.hands.retired) e;
      records = ap (λ (z : View). z.records) e;
    }

pub back_calm : {v w : View} {slot : ℕ} → PutsBack v slot w → StaysCalm v w
back_calm {v} {w} {slot} b =
    let e = b.rest in
    let first : Known = record { field = Life slot; number = b.life; stored = false } in
    let second : Known = record { field = Life slot; number = next_life b.life; stored = true } in record {
      section = ap (λ (z : View). z.section) e;
      locks = λ none. ap (λ (z : View). z.locks) e
          ∙ ap (λ (l : List HeldLock). change_lock slot (note_lock second) (change_lock slot (note_lock first) l)) none;
      reserved = ap (λ (z : View). z.hands.reserved) e;
      moving = λ none. ap (λ (z : View). z.moving) e ∙ ap (λ m. note_moving slot second (note_moving slot first m)) none;
      owes = ap (λ (z : View). z.hands.owes) e;
      commit = ap (λ (z : View). z.commit) e;
      retired = ap (λ (z : View). z.hands.retired) e;
      records = ap (λ (z : View). z.records) e;
    }

-- So a quiet seat stays quiet, where nothing is in hand.
pub quiet_from : (s t : SeatAt) → StaysCalm s.view t.view → t.listed ≡ s.listed → t.view.hands.hand ≡ None → IsQuietSeat s → IsQuietSeat t
quiet_from s t calm listed none q = record {
  view = record {
    section = calm.section ∙ q.view.section;
    locks = calm.locks q.view.locks;
    reserved = calm.reserved ∙ q.view.reserved;
    hand = none;
    moving = calm.moving q.view.moving;
    owes = calm.owes ∙ q.view.owes;
    commit = calm.commit ∙ q.view.commit;
    raised = ap unraised_among calm.retired ∙ q.view.raised ∙ ap (length {A = Retired}) (sym calm.retired);
  };
  listed = record {
    each = λ slot. ap (times slot) listed ∙ q.listed.each slot
        ∙ ap (λ (rs : List Retired). times slot (map (λ (r : Retired). r.slot) rs)) (sym calm.retired);
  };
}

abbrev no_hand : SeatAt → SeatAt
no_hand s = record s { view = record s.view { hands = record s.view.hands { hand = None } } }

but_hand : (s t : SeatAt) → StaysCalm s.view t.view → t.listed ≡ s.listed → IsQuietSeat s → IsQuietButHand t
but_hand s t calm listed q = record {
  quiet = quiet_from s (no_hand t) (record {
    section = calm.section;
    locks = calm.locks;
    reserved = calm.reserved;
    moving = calm.moving;
    owes = calm.owes;
    commit = calm.commit;
    retired = calm.retired;
    records = calm.records;
  }) listed refl q;
}

pub put_back_quiet : {slot : ℕ} (s t : SeatAt) → PutsBack s.view slot t.view → t.listed ≡ s.listed → IsQuietButHand s → IsQuietSeat t
put_back_quiet s t back listed q =
    let calm = back_calm back in
    quiet_from (no_hand s) t (record {
      section = calm.section;
      locks = calm.locks;
      reserved = calm.reserved;
      moving = calm.moving;
      owes = calm.owes;
      commit = calm.commit;
      retired = calm.retired;
      records = calm.records;
    }) listed (ap (λ (z : View). z.hands.hand) back.rest) q.quiet

pub goes_back : {v w : View} {slot : ℕ} → PutsBack v slot w → Goes v w []
goes_back b = record {
  advanced = back_advanced b;
  retired = back_retired b;
  wait = ap (λ (z : View). z.wait) b.rest;
  waits = ap (λ (z : View). z.counts.waits) b.rest;
}

goes_kept : {k : Shape} {v w : View} {slot n : ℕ} → Told k v (acts.KeepAsSpare slot) n w → Goes v w []
goes_kept {slot = slot} t = record {
  advanced = stays (acts.KeepAsSpare slot) refl t;
  retired = ap (λ (z : View). z.hands.retired) t.goes;
  wait = ap (λ (z : View). z.wait) t.goes;
  waits = ap (λ (z : View). z.counts.waits) t.goes;
}

-- a spare that is there stays there
noted_there : (s : ℕ) (known : Known) (o : Option Held) (held : Held) → o ≡ Some held → (new : Held) × (note_option s known o ≡ Some new)
noted_there s known o held e = (note_held s known held, ap (note_option s known) e)

some_there : (o : Option Held) → o ≢ None → (held : Held) × (o ≡ Some held)
some_there None some = absurd (some refl)
some_there (Some held) some = (held, refl)

module _ (k : Shape) (s : SeatAt) (q : IsQuietSeat s) where
  -- the place has a spare
  pub spare_at_once : (t : SeatAt) → t ≡ s → (s.view.hands.spare ≢ None) → SeesToSpare k s true t
  spare_at_once t same some = subst (SeesToSpare k s true) (sym same) (record {
    goes = goes_same s.view;
    quiet = q;
    records = refl;
    tickets = omega arith;
    at_once = λ there. refl;
    spare = λ yes. some_there s.view.hands.spare some;
    full = λ no. absurd (cc);
    informed = λ told. told;
  })

  -- a slot is taken for it
  module _ (none : s.view.hands.spare ≡ None) (slot generation : ℕ) (u : SeatAt) (taken : HasTaken s.view slot generation u.view) where
    pub needs_kept : IsAsked k u.view (acts.KeepAsSpare slot)
    needs_kept = λ told. (
      part_word k slot part.Life (told.tells.hand_within (aged slot taken.life) (taken_in_hand taken)),
      (
        aged slot taken.life,
        record {
          in_hand = (taken_in_hand taken, refl);
          none = ap (λ (z : View). z.hands.spare) taken.rest
              ∙ ap (note_option slot (record { field = Life slot; number = taken.life; stored = false })) none;
        },
      ),
    )

    pub spare_kept : (t : SeatAt) (n : ℕ) → IsPrefix s.view.trail.steps u.view.trail.steps → u.listed ≡ s.listed → t.listed ≡ u.listed
        → 1 ≤ s.view.allowance.tickets → Told k u.view (acts.KeepAsSpare slot) n t.view → SeesToSpare k s true t
    spare_kept t n steps same listed paid told =
        let e = told.goes in
        let there = noted_there slot (record { field = Life slot; number = n; stored = false }) u.view.hands.hand
        (aged slot taken.life) (taken_in_hand taken) in
        record {
          goes = goes_on (goes_taken taken steps) (goes_kept told);
          quiet = quiet_from s t (calm_on (taken_calm taken) (kept_calm told)) (listed ∙ same) (ap (λ (z : View). z.hands.hand) e) q;
          records = (kept_calm told).records ∙ (taken_calm taken).records;
          tickets =
              let a = ap (λ (z : View). z.allowance.tickets) e in
              let b = ap (λ (z : View). z.allowance.tickets) taken.rest in
              omega arith;
          at_once = λ some. absurd (some none);
          spare = λ yes. (there.0, ap (λ (z : View). z.hands.spare) e ∙ there.1);
          full = λ no. absurd (cc);
          informed = λ was. told.informed;
        }

  -- no slot is free
  pub spare_none : (t : SeatAt) → s.view.hands.spare ≡ None → FoundNone k s.view t.view → IsPrefix s.view.trail.steps t.view.trail.steps
      → t.listed ≡ s.listed → IsInformed t.view → SeesToSpare k s false t
  spare_none t none found steps listed informed = record {
    goes = goes_none found steps;
    quiet = quiet_from s t (none_calm found) listed (ap (λ (z : View). z.hands.hand) found.rest ∙ q.view.hand) q;
    records = (none_calm found).records;
    tickets = let a = ap (λ (z : View). z.allowance.tickets) found.rest in omega arith;
    at_once = λ some. absurd (some none);
    spare = λ yes. absurd (cc);
    full = λ no. found.full q.view.moving q.view.owes;
    informed = λ was. informed;
  }

pub one_left : (k : Shape) (s : SeatAt) (some : Bool) (u : SeatAt) → SeesToSpare k s some u → 2 ≤ s.view.allowance.tickets
    → 1 ≤ u.view.allowance.tickets
one_left k s some u sees two = let a = sees.tickets in omega arith

module _ (k : Shape) (s u : SeatAt) (some : SeesToSpare k s true u) where
  fewer_of : s.view.hands.spare ≢ None → s.view.allowance.tickets ≡ u.view.allowance.tickets
  fewer_of there = ap (λ (z : View). z.allowance.tickets) (sym (some.at_once there))

  -- A slot is taken in hand.
  pub takes_both : (t : SeatAt) (slot generation : ℕ) → HasTaken u.view slot generation t.view
      → IsPrefix u.view.trail.steps t.view.trail.steps → t.listed ≡ u.listed → 1 ≤ u.view.allowance.tickets → IsInformed t.view
      → TakesSlots k s true t
  takes_both t slot generation taken steps listed paid informed =
      let e = taken.rest in
      let spare = some.spare refl in
      let there = noted_there slot (record { field = Life slot; number = taken.life; stored = false }) u.view.hands.spare
      spare.0 spare.1 in
      let spent = ap (λ (z : View). z.allowance.tickets) e in
      record {
        goes = goes_on some.goes (goes_taken taken steps);
        records = (taken_calm taken).records ∙ some.records;
        tickets = let a = some.tickets in omega arith;
        fewer = λ had. (let a = fewer_of had in omega arith);
        both = λ yes. record {
          quiet = but_hand u t (taken_calm taken) listed some.quiet;
          hand = aged slot taken.life;
          hand_is = taken_in_hand taken;
          unraised = refl;
          spare = there.0;
          spare_is = ap (λ (z : View). z.hands.spare) e ∙ there.1;
        };
        none = λ no. absurd (cc);
        informed = λ was. informed;
      }

  pub takes_none : (t : SeatAt) → FoundNone k u.view t.view → IsPrefix u.view.trail.steps t.view.trail.steps → t.listed ≡ u.listed
      → IsInformed t.view → TakesSlots k s false t
  takes_none t found steps listed informed =
      let spent = ap (λ (z : View). z.allowance.tickets) found.rest in
      record {
        goes = goes_on some.goes (goes_none found steps);
        records = (none_calm found).records ∙ some.records;
        tickets = let a = some.tickets in omega arith;
        fewer = λ had. (let a = fewer_of had in omega arith);
        both = λ yes. absurd (cc);
        none = λ no. record {
          quiet = quiet_from u t (none_calm found) listed (ap (λ (z : View). z.hands.hand) found.rest ∙ some.quiet.view.hand) some.quiet;
          full = found.full some.quiet.view.moving some.quiet.view.owes;
        };
        informed = λ was. informed;
      }

-- no spare was to be had
pub takes_no_spare : (k : Shape) (s t : SeatAt) → SeesToSpare k s false t → TakesSlots k s false t
takes_no_spare k s t none = record {
  goes = none.goes;
  records = none.records;
  tickets = let a = none.tickets in omega arith;
  fewer = λ had. (let a = ap (λ (z : View). z.allowance.tickets) (none.at_once had) in omega arith);
  both = λ yes. absurd (cc);
  none = λ no. record { quiet = none.quiet; full = none.full refl };
  informed = none.informed;
}

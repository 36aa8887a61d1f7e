-- A call goes from point to point, whatever the point; and it begins and ends.
use Rattle.std.proofs.Common.{◌≡◌, ℕ, List, ap, ◌∙◌, ◌+◌, ◌%◌, if◌then◌else◌, ◌==◌, cond, Bool, true, false, [], ◌∷◌, Some, refl, sym, subst, ◌≤◌, None, ◌≢◌, zero, suc, ◌<◌, map, length, ◌^◌, Option, arith}
use Rattle.prcu_model.specs.declared.operation.Op.{Op}
use Rattle.core_state.specs.declared.shape.Shape.{Shape}
use Rattle.core_state.specs.declared.view.View.{View}
use Rattle.core_points.specs.declared.stage.Stage.{Stage}
use Rattle.core_points.specs.Programs.{Own, field_of, kind_of, is_step, view_after, is_some, act_at, after, begun_with, key_now, value_in, first_point, spare_first}
use Rattle.core_points.specs.Fits.{Fits}
use Rattle.tree_points.specs.Points.{IsAt, IsDone}
use Rattle.prcu_marks.specs.declared.mark.Mark.{Mark}
use Rattle.core_state.specs.declared.words.Field.{Field}
use Rattle.core_points.specs.declared.stage.Aim.{Aim}
use Rattle.core_points.specs.declared.stage.Aim.TheVariants.{Spare, Room}
use Rattle.core_points.specs.declared.stage.Then.{Then}
use Rattle.core_points.specs.declared.stage.Update.{Update}
use Rattle.core_points.specs.declared.stage.Waits.TheVariants.{Reuse}
use Rattle.core_state.specs.declared.act.Act.{Act}
use Rattle.core_state.specs.Acts.{said, noted, Asks, IsWord}
use Rattle.core_state.specs.declared.shape.Waiter.TheVariants.{Eer}
use Rattle.core_points.specs.Laws.{is_finished, IsTold, IsFree}
use Rattle.core_points.proofs.AllPoints.{needs_are_given, next_fits, trails_are_free, acts_are_within}
use Rattle.core_frames.specs.Telling.{IsToldOf}
use Rattle.seat_table.specs.Gains.{TellsNow, Told}
use Rattle.core_state.specs.declared.view.Section.{Section}
use Rattle.core_points.specs.Facts.{HandFits, is_put}
use Rattle.prcu_model.specs.declared.operation.Op.TheVariants.{Put, Del, Set}
use Rattle.prcu_model.specs.Dictionary.{key_of}
use Rattle.std.proofs.lemmas.Bool.{le-leb, lt-leb}
use mathlib.Core.Option.{some-injective}
use Rattle.list_laws.specs.Counts.{Each, times}
use Rattle.core_state.specs.declared.view.Held.{Held}
use Rattle.core_state.specs.declared.view.HeldLock.{HeldLock}
use Rattle.core_state.specs.declared.view.Retired.{Retired}
use Rattle.core_state.specs.Steps.{spare_slot}
use Rattle.core_state.specs.Views.{IsQuiet, Works, unraised_among}
use Rattle.core_points.proofs.Calls.{OfCall, of_call, keeps_call}
use Rattle.core_points.proofs.Notes.{begins}
use Rattle.core_points.proofs.Locks.{slots_in}
use Rattle.core_points.specs.declared.stage.Then.TheVariants as then
use Rattle.core_points.specs.declared.stage.Stage.TheVariants as at

-- A call at another of its points.

-- The call goes on to another point, with what its caller then keeps.
abbrev pub moves_on : {k : Shape} {op : Op} {kept : ℕ} {from to : Stage} {v w : View} (a : IsAt k op kept from v) (o : Own)
    → of_call o ≡ of_call a.own → Fits o to w → IsAt k op kept to w
moves_on a o same fits = record {
  own = o;
  op_is = ap (λ (x : OfCall). x.op) same ∙ a.op_is;
  slots_are = ap (λ (x : OfCall). x.table.slots) same ∙ a.slots_are;
  places_are = ap (λ (x : OfCall). x.table.places) same ∙ a.places_are;
  room_is = ap (λ (x : OfCall). x.table.room) same ∙ a.room_is;
  last = ap (λ (x : OfCall). x.rest) same ∙ a.last;
  keeps = ap (λ (x : OfCall). x.table.kept) same ∙ a.keeps;
  fits = fits;
}

-- At any point of a call: what its step asks is given, and after it the call stands at the next point.

goes_on : (o : Own) (stage : Stage) → is_step (act_at o stage) ≡ true → is_finished stage ≡ false
goes_on o at.Finished is = cc
goes_on o _ is = refl

told_own : (k : Shape) (o : Own) (v : View) (h : List Mark) (word : Field → ℕ) → o.slots ≡ k.slots → o.places ≡ k.places → o.room ≡ k.room
    → IsToldOf k.slots k.places k.room v h word → IsTold o v h word
told_own k o v h word slots places room t =
    subst (λ (z : ℕ × ℕ × ℕ). IsToldOf z.0 z.1 z.2 v h word) (λ i. (sym slots i, sym places i, sym room i)) t

pub needs : {k : Shape} {op : Op} {kept : ℕ} {v : View} {stage : Stage} (a : IsAt k op kept stage v) → is_step (act_at a.own stage) ≡ true
    → TellsNow k v → Asks k v (act_at a.own stage)
needs {k} {op} {kept} {v} {stage} a is now =
    let o : Own = a.own in
    let told = told_own k o v now.marks now.word a.slots_are a.places_are a.room_is now.tells in
    let any : is_step (act_at o stage) ≡ false → k.waiter ≡ Eer = λ no. absurd (let e : true ≡ false = sym is ∙ no in cc) in (
      subst (λ p. IsWord k (field_of p (act_at o stage))) (sym ((a.fits).owns).same)
          (acts_are_within k now.marks o v now.word stage any (sym a.slots_are) (sym a.places_are) (sym a.room_is) told a.fits),
      needs_are_given k now.marks o v now.word 0 stage any (sym a.places_are) (sym a.room_is) told a.fits,
    )

-- the call at the next point, which the view fits
pub goes_to : {k : Shape} {op : Op} {kept : ℕ} {v w : View} {stage : Stage} (a : IsAt k op kept stage v) (n : ℕ)
    → Fits (after a.own n stage) (after a.own n stage).stage w → IsAt k op kept (after a.own n stage).stage w
goes_to {stage = stage} a n fits = moves_on a (after a.own n stage) (keeps_call a.own n stage a.last) fits

pub fits_next : {k : Shape} {op : Op} {kept n : ℕ} {v w : View} {stage : Stage} (a : IsAt k op kept stage v)
    → is_step (act_at a.own stage) ≡ true
    → Told k v (act_at a.own stage) n w → Fits (after a.own n stage) (after a.own n stage).stage w
fits_next {k} {op} {kept} {n} {v} {w} {stage} a is t =
    let o : Own = a.own in
    let act : Act = act_at o stage in
    let h : List Mark = t.marks in
    let word : Field → ℕ = (t.before).word in
    let u : View = noted v act n in
    let free = trails_are_free h o v word stage (kind_of act) (field_of v.allowance.place act) n in
    let told = told_own k o v h word a.slots_are a.places_are a.room_is (t.before).tells in
    let found : said v act (word (field_of o.place act)) ≡ n =
    ap (λ p. said v act (word (field_of p act))) (sym ((a.fits).owns).same) ∙ (t.before).found_is in
    subst (λ x. Fits (after o n stage) (after o n stage).stage x) (sym t.goes)
    (subst (λ s. Fits (after o s stage) (after o s stage).stage (view_after u h s act)) found
    (next_fits h o u word stage (free.1 told) (goes_on o stage is) (free.0 a.fits)))

pub passes : {k : Shape} {op : Op} {kept n : ℕ} {v w : View} {stage : Stage} (a : IsAt k op kept stage v)
    → is_step (act_at a.own stage) ≡ true
    → Told k v (act_at a.own stage) n w → IsAt k op kept (after a.own n stage).stage w
passes {n = n} a is t = goes_to a n (fits_next a is t)

-- Short forms for points whose step or next point depends on what the caller keeps.

-- where the step is this one
pub needs_as : {k : Shape} {op : Op} {kept : ℕ} {v : View} {stage : Stage} {c : Act} (a : IsAt k op kept stage v)
    → is_step (act_at a.own stage) ≡ true → act_at a.own stage ≡ c → TellsNow k v → Asks k v c
needs_as {k} {v = v} a is e now = subst (λ x. Asks k v x) e (needs a is now)

pub passes_as : {k : Shape} {op : Op} {kept n : ℕ} {v w : View} {stage next : Stage} {c : Act} (a : IsAt k op kept stage v)
    → is_step (act_at a.own stage) ≡ true → act_at a.own stage ≡ c → (after a.own n stage).stage ≡ next → Told k v c n w
    → IsAt k op kept next w
passes_as {k} {op} {kept} {n} {v} {w} a is e to t =
    subst (λ x. IsAt k op kept x w) to (passes a is (subst (λ x. Told k v x n w) (sym e) t))

-- one way or the other
pub at_true : {k : Shape} {op : Op} {kept : ℕ} {w : View} {z : Bool} {x : Stage} (y : Stage) → z ≡ true → IsAt k op kept (if z then x else y) w
    → IsAt k op kept x w
at_true {k} {op} {kept} {w} {z} {x} y e a = subst (λ b. IsAt k op kept (if b then x else y) w) e a

pub at_false : {k : Shape} {op : Op} {kept : ℕ} {w : View} {z : Bool} {y : Stage} (x : Stage) → z ≡ false → IsAt k op kept (if z then x else y) w
    → IsAt k op kept y w
at_false {k} {op} {kept} {w} {z} {y} x e a = subst (λ b. IsAt k op kept (if b then x else y) w) e a

pub stage_if : (z : Bool) (x y : Own) → (cond z x y).stage ≡ (if z then x.stage else y.stage)
stage_if true x y = refl
stage_if false x y = refl

-- An update may be begun with any even number that is taken for the front's.
pub commits_any : {k : Shape} {op : Op} {kept e : ℕ} {u : Update} {v : View} → IsAt k op kept (at.Commit u e) v → (expected : ℕ)
    → expected % 2 ≡ 0 → IsAt k op kept (at.Commit u expected) v
commits_any a expected even = moves_on a a.own refl
    (record { owns = a.fits.owns; tickets = a.fits.tickets; unraised = a.fits.unraised; point = ((a.fits.point).0, even) })

-- A slot may be reserved with any number that is taken for the free count's.
pub reserves_any : {k : Shape} {op : Op} {kept e : ℕ} {aim : Aim} {v : View} → IsAt k op kept (at.Reserve aim e) v → (expected : ℕ)
    → 1 ≤ expected → IsAt k op kept (at.Reserve aim expected) v
reserves_any a expected some = moves_on a a.own refl (record {
  owns = a.fits.owns;
  tickets = a.fits.tickets;
  unraised = a.fits.unraised;
  point = record { idle = a.fits.point.idle; some = some; takes = a.fits.point.takes };
})

-- What a point says of the view, for the calls that are made there.

-- a section may be entered, or left
pub outside_enter : {k : Shape} {op : Op} {kept : ℕ} {v : View} → IsAt k op kept at.EnterClock v → v.section ≡ None
outside_enter a = ((a.fits).point).0

pub unlocked_enter : {k : Shape} {op : Op} {kept : ℕ} {v : View} → IsAt k op kept at.EnterClock v → v.locks ≡ []
unlocked_enter a = ((((a.fits).point).1).bare).locks_are

pub inside_leave : {k : Shape} {op : Op} {kept : ℕ} {next : Then} {v : View} → IsAt k op kept (at.Leave next) v
    → (section : Section) × (v.section ≡ Some section)
inside_leave {next = next} {v = v} a = by next (a.fits)
  where
    by : (next : Then) → Fits a.own (at.Leave next) v → (section : Section) × (v.section ≡ Some section)
    by then.Absent f = let i = (((f.point).1).1).2 in (i.section, i.is)
    by (then.Value value) f = let i = (((f.point).1).1).3 in (i.section, i.is)
    by then.Old f = let i = (((f.point).1).1).3 in (i.section, i.is)
    by (then.Link spot) f = let i = ((f.point).1).1 in (i.section, i.is)
    by (then.Replace s generation) f = let i = (((f.point).1).1).2 in (i.section, i.is)
    by (then.Delete t) f = let i = ((f.point).1).1 in (i.section, i.is)

-- a search of another operation than a put has no slot in hand
pub no_hand_enter : {k : Shape} {op : Op} {kept : ℕ} {v : View} → is_put op ≡ false → IsAt k op kept at.EnterClock v → v.hands.hand ≡ None
no_hand_enter {v = v} other a =
    let p = ((a.fits).point).1 in
    let none : a.own.hand ≡ None = (p.ready).empty (ap is_put a.op_is ∙ other) in
    subst (λ x. HandFits x a.own.hand_life (key_now a.own) (value_in a.own.op) v.hands.hand) none p.hand

-- The beginning and the end of a call.

few_unraised : (rs : List Retired) → unraised_among rs ≤ length rs
few_unraised [] = omega arith
few_unraised (r ∷ rs) = by r.raised (few_unraised rs)
  where
    by : (z : Bool) → unraised_among rs ≤ length rs → cond z 0 1 + unraised_among rs ≤ length (r ∷ rs)
    by true le = omega arith
    by false le = omega arith

first_raised : (x : Retired) (rs : List Retired) → unraised_among (x ∷ rs) ≡ length (x ∷ rs)
    → (x.raised ≡ false) × (unraised_among rs ≡ length rs)
first_raised x rs all = by x.raised refl all
  where
    by : (z : Bool) → x.raised ≡ z → cond z 0 1 + unraised_among rs ≡ length (x ∷ rs) → (x.raised ≡ false) × (unraised_among rs ≡ length rs)
    by true is all = absurd (let few = few_unraised rs in omega arith)
    by false is all = (is, omega arith)

pub none_raised : (rs : List Retired) → unraised_among rs ≡ length rs → Each rs (λ (r : Retired). r.raised ≡ false)
none_raised [] all i r e = cc
none_raised (x ∷ rs) all zero r e = ap (λ (y : Retired). y.raised) (sym (some-injective x r e)) ∙ (first_raised x rs all).0
none_raised (x ∷ rs) all (suc i) r e = none_raised rs (first_raised x rs all).1 i r e

abbrev counted : Bool → ℕ
counted z = cond z 0 1

pub all_unraised : (rs : List Retired) → Each rs (λ (r : Retired). r.raised ≡ false) → unraised_among rs ≡ length rs
all_unraised [] each = refl
all_unraised (r ∷ rs) each =
    let rest = all_unraised rs (λ i x e. each (suc i) x e) in
    let first : counted r.raised ≡ 1 = ap counted (each 0 r refl) in
    omega (arith, rest, first)

-- what a caller of one operation keeps between two calls
abbrev new_own : Shape → Op → ℕ → View → Own
new_own k op kept v = record {
  place = v.allowance.place;
  places = k.places;
  slots = k.slots;
  room = k.room;
  op = op;
  rest = [];
  stage = at.Finished;
  told = [];
  hand = None;
  hand_life = 0;
  spare = spare_slot v.hands.spare;
  retired = map (λ (r : Retired). r.slot) v.hands.retired;
  locks = [];
  scan = 1;
  free = 1;
  front = 0;
  kept = kept;
}

module _ (k : Shape) (op : Op) (kept : ℕ) (v : View) (quiet : IsQuiet v) (works : Works v) (some_place : 1 ≤ k.places)
    (fits : key_of op < 2 ^ 64) (paid : kept + 4 ≤ v.allowance.tickets) where
  between : IsFree (new_own k op kept v) v
  between = record {
    owns = record {
      same = refl;
      works = works;
      spare_is = refl;
      retired_are = refl;
      locks_are = λ x. ap (λ (ls : List HeldLock). times x (slots_in ls)) quiet.locks;
      key_fits = fits;
      keys_fit = λ i later e. cc;
      scans = omega arith;
      scans_table = omega arith;
    };
    outside = quiet.section;
    empty = refl;
    bare = record {
      locks_are = quiet.locks;
      turn_is = quiet.commit;
      settled = quiet.moving;
      reserved_is = quiet.reserved;
      paid = quiet.owes;
    };
    no_hand = quiet.hand;
    unraised = none_raised v.hands.retired quiet.raised;
  }

  one_key : Each (op ∷ []) (λ later. key_of later < 2 ^ 64)
  one_key zero later e = subst (λ (x : Op). key_of x < 2 ^ 64) (some-injective op later e) fits
  one_key (suc i) later e = cc

  call : (first : Stage) → first_point (new_own k op kept v) op ≡ first → IsAt k op kept first v
  call first is = record {
    own = begun_with (new_own k op kept v) (op ∷ []);
    op_is = refl;
    slots_are = refl;
    places_are = refl;
    room_is = refl;
    last = refl;
    keeps = refl;
    fits = subst (λ x. Fits (begun_with (new_own k op kept v) (op ∷ [])) x v) is
        (begins (new_own k op kept v) v between (op ∷ []) one_key (omega arith));
  }

pub begins_put : {k : Shape} {kept key value : ℕ} {v : View} → IsQuiet v → Works v → 1 ≤ k.places → key < 2 ^ 64
    → kept + 4 ≤ v.allowance.tickets → IsAt k (Put key value) kept at.EnterClock v
begins_put {k} {kept} {key} {value} {v} quiet works some_place fits paid =
    call k (Put key value) kept v quiet works some_place fits paid at.EnterClock refl

pub begins_set : {k : Shape} {kept key value : ℕ} {v : View} → IsQuiet v → Works v → 1 ≤ k.places → key < 2 ^ 64
    → kept + 4 ≤ v.allowance.tickets → IsAt k (Set key value) kept at.EnterClock v
begins_set {k} {kept} {key} {value} {v} quiet works some_place fits paid =
    call k (Set key value) kept v quiet works some_place fits paid at.EnterClock refl

pub slots_length : (rs : List Retired) → length (map (λ (r : Retired). r.slot) rs) ≡ length rs
slots_length [] = refl
slots_length (r ∷ rs) = ap suc (slots_length rs)

pub begins_room : {k : Shape} {kept key : ℕ} {v : View} → IsQuiet v → Works v → 1 ≤ k.places → key < 2 ^ 64 → kept + 4 ≤ v.allowance.tickets
    → k.room ≤ length v.hands.retired + 1 → IsAt k (Del key) kept (at.Begin (Reuse Room)) v
begins_room {k} {kept} {key} {v} quiet works some_place fits paid many =
    let o : Own = new_own k (Del key) kept v in
    call k (Del key) kept v quiet works some_place fits paid (at.Begin (Reuse Room))
    (ap (λ z. cond z (at.Begin (Reuse Room)) (spare_first o))
    (le-leb k.room (length o.retired + 1) (subst (λ n. k.room ≤ n + 1) (sym (slots_length v.hands.retired)) many)))

has_spare : (held : Option Held) → held ≢ None → is_some (spare_slot held) ≡ true
has_spare None ne = absurd (ne refl)
has_spare (Some held) ne = refl

module _ (k : Shape) (key kept : ℕ) (v : View) (few : length v.hands.retired + 1 < k.room) where
  abbrev o : Own
  o = new_own k (Del key) kept v

  first_is : first_point o (Del key) ≡ spare_first o
  first_is = ap (λ z. cond z (at.Begin (Reuse Room)) (spare_first o))
      (lt-leb k.room (length o.retired + 1) (subst (λ n. n + 1 < k.room) (sym (slots_length v.hands.retired)) few))

pub begins_delete : {k : Shape} {kept key : ℕ} {v : View} → IsQuiet v → Works v → 1 ≤ k.places → key < 2 ^ 64
    → kept + 4 ≤ v.allowance.tickets → length v.hands.retired + 1 < k.room → v.hands.spare ≢ None → IsAt k (Del key) kept at.EnterClock v
begins_delete {k} {kept} {key} {v} quiet works some_place fits paid few given =
    let o : Own = new_own k (Del key) kept v in
    call k (Del key) kept v quiet works some_place fits paid at.EnterClock
    (first_is k key kept v few ∙ ap (λ z. cond z at.EnterClock (at.Reserve Spare (cond (o.free == 0) 1 o.free)))
    (has_spare v.hands.spare given))

pub begins_spare : {k : Shape} {kept key : ℕ} {v : View} → IsQuiet v → Works v → 1 ≤ k.places → key < 2 ^ 64
    → kept + 4 ≤ v.allowance.tickets → length v.hands.retired + 1 < k.room → v.hands.spare ≡ None
    → (expected : ℕ) → 1 ≤ expected → IsAt k (Del key) kept (at.Reserve Spare expected) v
begins_spare {k} {kept} {key} {v} quiet works some_place fits paid few none expected positive =
    let o : Own = new_own k (Del key) kept v in
    reserves_any (call k (Del key) kept v quiet works some_place fits paid (at.Reserve Spare 1)
    (first_is k key kept v few ∙ ap (λ x. cond (is_some (spare_slot x)) at.EnterClock
    (at.Reserve Spare (cond (o.free == 0) 1 o.free))) none)) expected positive

-- A call ends quiet, and has left those tickets alone.
pub is_quiet : {k : Shape} {op : Op} {kept : ℕ} {v : View} → IsDone k op kept v → IsQuiet v
is_quiet {v = v} a =
    let p = (a.fits).point in
    let bare = p.1 in
    record {
      section = p.0;
      locks = bare.locks_are;
      reserved = bare.reserved_is;
      hand = p.2;
      moving = bare.settled;
      owes = bare.paid;
      commit = bare.turn_is;
      raised = all_unraised v.hands.retired ((a.fits).unraised refl);
    }

pub has_kept : {k : Shape} {op : Op} {kept : ℕ} {v : View} → IsDone k op kept v → kept ≤ v.allowance.tickets
has_kept a = (let paid = (a.fits).tickets in let same = a.keeps in omega arith)

-- What the waiter's calls and a wait for everybody come to: a delete leaves its section, waits, and gives retired slots back.
use Rattle.std.proofs.Common.{◌≡◌, ℕ, ◌+◌, ◌<◌, [], Some, refl, sym, subst, false, map, ◌-◌, ap, ◌∙◌, arith, ◌≢◌, ◌*◌, ◌≤◌, true, List, length, Option, None}
use Rattle.prcu_model.specs.declared.operation.Op.{Op}
use Rattle.core_state.specs.declared.shape.Shape.{Shape}
use Rattle.core_state.specs.declared.view.View.{View}
use Rattle.core_points.specs.declared.stage.Target.{Target}
use Rattle.core_points.specs.Programs.{Own, go, key_now, is_some, value_in}
use Rattle.core_points.specs.Fits.{Fits, owed_op}
use Rattle.seat_table.specs.Gains.{StoodInside}
use Rattle.tree_points.specs.Points.{IsAt, HasGivenAll}
use Rattle.tree_points.proofs.Passing.{moves_on}
use Rattle.core_state.specs.declared.view.Section.{Section}
use Rattle.core_state.specs.Steps.{leaving, new_wait, waited_move, waited_retired, spare_slot}
use Rattle.list_laws.specs.Counts.{IsIn, Each, times}
use Rattle.core_state.specs.Acts.{section_of}
use Rattle.core_laws.proofs.Acting.{section_is}
use Rattle.core_points.specs.Facts.{table_of, Bare, Calm, HandFits, HasSpot, Idle, Owns}
use Rattle.core_points.proofs.DeleteSearches.{next_delete}
use Rattle.seat_table.specs.Sections.{HasLeft, HasBegun}
use Rattle.prcu_model.specs.Dictionary.{key_of}
use Rattle.core_points.specs.declared.stage.Moving.{Moving}
use Rattle.core_points.specs.declared.stage.Waits.TheVariants.{Move, Reuse}
use Rattle.core_state.specs.declared.view.Retired.{Retired}
use Rattle.core_state.specs.declared.view.Waiting.{Waiting}
use Rattle.core_points.specs.DeleteFacts.{OutlastsMove}
use Rattle.core_points.proofs.Waits.{graced_move, shifting_waited, same_slots}
use Rattle.seat_table.specs.Waits.{HasWaited, IsOver}
use Rattle.core_points.proofs.Notes.{owns_retired}
use Rattle.prcu_model.specs.declared.operation.Op.TheVariants.{Del}
use Rattle.core_points.specs.declared.stage.Spot.{Spot}
use Rattle.core_points.specs.declared.stage.Aim.{Aim}
use Rattle.core_points.specs.declared.stage.Aim.TheVariants.{Leaf, Spare, Room}
use Rattle.core_points.specs.declared.stage.Stage.{Stage}
use Rattle.core_state.specs.declared.view.Held.{Held}
use Rattle.core_state.specs.declared.view.HeldLock.{HeldLock}
use Rattle.core_state.specs.declared.view.Reading.{Reading}
use Rattle.core_points.proofs.Locks.{slots_in}
use Rattle.core_points.specs.declared.stage.Then.TheVariants as then
use Rattle.core_points.specs.declared.stage.Stage.TheVariants as at
use Rattle.core_laws.proofs.Looks.{each_map}

-- Sections over the points: one is left, with the node of a delete.

module _ (k : Shape) (op : Op) (kept : ℕ) (v w : View) (e : HasLeft v w) where
  abbrev left : View
  left = leaving v e.section []

  -- the view after the section was left, but for what no point after it speaks of
  same_view : w ≡ record left { enter = w.enter; trail = w.trail; seen = w.seen }
  same_view = e.others

  left_fits : (next : Own) → Fits next next.stage (leaving v (section_of v) []) → Fits next next.stage left
  left_fits next f = subst (λ x. Fits next next.stage (leaving v x [])) (section_is v _ e.was) f

  module _ (inside : StoodInside k v) where
    stood : (own : Own) → own.slots ≡ k.slots → own.places ≡ k.places → (section : Section) → v.section ≡ Some section → (s : ℕ)
        → IsIn section.reading.stood s → s < table_of own
    stood own slots places section is s there = subst (λ n. s < n) (λ i. sym slots i + sym places i + 1)
        (inside.stood section s is there).inside

    pub leaves_delete : {t : Target} → IsAt k op kept (at.Leave (then.Delete t)) v → IsAt k op kept (at.TargetLock t 0) w
    leaves_delete {t} a =
        let to : Own = go a.own (at.TargetLock t 0) in
        let f : Fits to (at.TargetLock t 0) left = left_fits to
        (next_delete k [] a.own v 0 t (stood a.own a.slots_are a.places_are) a.fits) in
        let p = f.point in
        moves_on a to refl (subst (Fits to (at.TargetLock t 0)) (sym same_view) (record {
          owns = f.owns;
          tickets = f.tickets;
          unraised = f.unraised;
          point = record {
            quiet = p.quiet;
            deleting = p.deleting;
            target = p.target;
            clear = p.clear;
            long = p.long;
            locks_are = p.locks_are;
            got = p.got;
            more = p.more;
          };
        }))

-- A wait over the points: of the place's retired slots, and of a move.

-- The wait that was begun is the one that ended, and the view after it.
module _ (k : Shape) (v w : View) (low high : ℕ) (waited : HasWaited k v low high w) where
  abbrev pub begun : HasBegun v low high waited.0
  begun = waited.1

  abbrev pub over : IsOver k waited.0 w
  over = waited.2

  abbrev pub the_wait : Waiting
  the_wait = over.wait

  pub is_new : the_wait ≡ new_wait v low high begun.clock begun.leaves.before
  is_new = let q : Some over.wait ≡ Some (new_wait v low high begun.clock begun.leaves.before) = sym over.was ∙ begun.wait_is in cc

  abbrev pub outlasted : View
  outlasted = record v {
    allowance = record v.allowance { tickets = v.allowance.tickets - 1 };
    enter = w.enter;
    hands = record v.hands { retired = map (waited_retired over.wait) v.hands.retired };
    moving = waited_move over.wait v.moving;
    wait = w.wait;
    counts = w.counts;
    trail = w.trail;
    seen = w.seen;
  }

  pub outlasts : w ≡ outlasted
  outlasts =
      let e = over.ended.others in
      let c : w.counts ≡ w.counts = refl in
      e ∙ ap (λ (z : View). record z {
        enter = w.enter;
        hands = record z.hands { retired = map (waited_retired over.wait) z.hands.retired };
        moving = waited_move over.wait z.moving;
        wait = w.wait;
        counts = record z.counts { turns = w.counts.turns };
        trail = w.trail;
        seen = w.seen;
      }) begun.others ∙ ap (λ c. record outlasted { counts = c }) (sym counts_are)
    where
      counts_are : w.counts ≡ record v.counts { waits = v.counts.waits + 1; turns = w.counts.turns }
      counts_are = ap (λ (z : View). z.counts) (over.ended).others
          ∙ ap (λ (z : View). record z.counts { turns = w.counts.turns }) begun.others

-- After the wait of a move the old successor may be unlinked.
pub waits_move : {k : Shape} {op : Op} {kept : ℕ} {v w : View} {m : Moving} → IsAt k op kept (at.Begin (Move m)) v
    → HasWaited k v (key_of op + 1) m.next_key w → IsAt k op kept (at.OldMark m) w
waits_move {k} {op} {kept} {v} {w} {m} a waited =
    moves_on a (go o (at.OldMark m)) refl (subst (Fits (go o (at.OldMark m)) (at.OldMark m))
    (sym (outlasts k v w (key_of op + 1) m.next_key waited)) fits)
  where
    o : Own
    o = a.own

    x : View
    x = outlasted k v w (key_of op + 1) m.next_key waited

    wait : Waiting
    wait = (waited.2).wait

    new : wait ≡ new_wait v (key_of op + 1) m.next_key (waited.1).clock ((waited.1).leaves).before
    new = is_new k v w (key_of op + 1) m.next_key waited

    key_is : key_now o ≡ key_of op
    key_is = ap key_of a.op_is

    out : OutlastsMove (record wait { ended = false }) v.moving (key_now o + 1) m.next_key wait.clock 0
    out = record {
      going = refl;
      low_is = ap (λ (z : Waiting). z.low) new ∙ ap (λ n. n + 1) (sym key_is);
      high_is = ap (λ (z : Waiting). z.high) new;
      clock_is = refl;
      past = λ q lt. absurd (omega arith);
      later = λ move is. subst (λ n. move.made < n) (sym (ap (λ (z : Waiting). z.began) new)) ((waited.1).moves move is);
    }

    fits : Fits (go o (at.OldMark m)) (at.OldMark m) x
    fits =
        let f = a.fits in
        let owns = f.owns in
        let s = (f.point).0 in
        record {
          owns = owns_retired o v owns _ _ (same_slots (waited_retired wait) (λ r. refl) v.hands.retired ∙ owns.retired_are);
          tickets = (let paid = f.tickets in omega arith);
          unraised = λ z. each_map (waited_retired wait) (λ (r : Retired). r.raised ≡ false)
              (λ (r : Retired). r.raised ≡ false) v.hands.retired (λ r q. q) (f.unraised refl);
          point = (
            shifting_waited s (graced_move (record wait { ended = false }) v.moving (key_now o) m wait.clock 0 s.move out),
            (f.point).1,
            (f.point).2,
          );
        }

-- All retired slots were given back, after a wait for everybody.

module _ (o : Own) (v w : View) (aim : Aim) (f : Fits o (at.Begin (Reuse aim)) v) (r : HasGivenAll v w) where
  abbrev new : Own
  new = record o { spare = spare_slot w.hands.spare; retired = [] }

  owns : Owns new w
  owns = record {
    same = r.place ∙ (f.owns).same;
    works = subst (λ x. 1 ≤ x) (sym r.places) (f.owns).works;
    spare_is = refl;
    retired_are = ap (map (λ (x : Retired). x.slot)) r.retired;
    locks_are = λ x. ap (λ (ls : List HeldLock). times x (slots_in ls)) r.locks ∙ (f.owns).locks_are x;
    key_fits = (f.owns).key_fits;
    keys_fit = (f.owns).keys_fit;
    scans = (f.owns).scans;
    scans_table = (f.owns).scans_table;
  }

  unraised : Each w.hands.retired (λ (x : Retired). x.raised ≡ false)
  unraised = subst (λ (xs : List Retired). Each xs (λ (x : Retired). x.raised ≡ false)) (sym r.retired) (λ i x e. cc)

  idle : Idle o v
  idle = (f.point).0

  bare : Bare w [] None false
  bare = let b = idle.bare in record {
    locks_are = r.locks ∙ b.locks_are;
    turn_is = r.commit ∙ b.turn_is;
    settled = r.moving ∙ b.settled;
    reserved_is = r.reserved ∙ b.reserved_is;
    paid = r.owes ∙ b.paid;
  }

  some_spare : (held : Option Held) → held ≢ None → is_some (spare_slot held) ≡ true
  some_spare None ne = absurd (ne refl)
  some_spare (Some held) ne = refl

  ready : Calm new w
  ready = record {
    bare = bare;
    hand = subst (λ x. HandFits x o.hand_life (key_now o) (value_in o.op) w.hands.hand) (sym idle.no_hand) (r.hand ∙ idle.empty);
    ready = record { empty = λ z. idle.no_hand; room = λ z. omega arith; has_spare = λ z. some_spare w.hands.spare r.spare };
  }

  enters_again : (m : ℕ) → owed_op o.op o.hand [] ≤ m → m + 4 * length o.rest + o.kept ≤ w.allowance.tickets → Fits new at.EnterClock w
  enters_again m few paid =
      record { owns = owns; tickets = omega arith; unraised = λ z. unraised; point = (r.section ∙ idle.outside, ready) }

two_owed : {k : Shape} {kept key : ℕ} {stage : Stage} {v : View} (a : IsAt k (Del key) kept stage v) → owed_op a.own.op a.own.hand [] ≤ 2
two_owed a = subst (λ (x : Op). owed_op x a.own.hand [] ≤ 2) (sym a.op_is) (omega arith)

pub reclaims_spare : {k : Shape} {kept key : ℕ} {v w : View} → IsAt k (Del key) kept (at.Begin (Reuse Spare)) v → HasGivenAll v w
    → IsAt k (Del key) kept at.EnterClock w
reclaims_spare {v = v} {w = w} a r = moves_on a (new a.own v w Spare a.fits r) refl
    (enters_again a.own v w Spare a.fits r 2 (two_owed a) (let paid = (a.fits).tickets in let one = r.paid in omega arith))

pub reclaims_room : {k : Shape} {kept key : ℕ} {v w : View} → IsAt k (Del key) kept (at.Begin (Reuse Room)) v → HasGivenAll v w
    → IsAt k (Del key) kept at.EnterClock w
reclaims_room {v = v} {w = w} a r = moves_on a (new a.own v w Room a.fits r) refl
    (enters_again a.own v w Room a.fits r 2 (two_owed a) (let paid = (a.fits).tickets in let one = r.paid in omega arith))

pub reclaims_leaf : {k : Shape} {op : Op} {kept : ℕ} {v w : View} {spot : Spot} → IsAt k op kept (at.Begin (Reuse (Leaf spot))) v
    → HasGivenAll v w → (expected : ℕ) → 1 ≤ expected → IsAt k op kept (at.Reserve (Leaf spot) expected) w
reclaims_leaf {v = v} {w = w} {spot = spot} a r expected positive =
    moves_on a (new a.own v w (Leaf spot) a.fits r) refl (let i = ((a.fits).point).0 in
    let for = ((a.fits).point).1 in
    record {
      owns = owns a.own v w (Leaf spot) a.fits r;
      tickets = (let paid = (a.fits).tickets in let one = r.paid in omega arith);
      unraised = λ z. unraised a.own v w (Leaf spot) a.fits r;
      point = record {
        idle = record {
          outside = r.section ∙ i.outside;
          bare = bare a.own v w (Leaf spot) a.fits r;
          empty = r.hand ∙ i.empty;
          no_hand = i.no_hand;
        };
        some = positive;
        takes = (subst (λ (rs : List Reading). HasSpot (table_of a.own) rs (key_now a.own) spot) (sym r.records) for.0, for.1);
      };
    })

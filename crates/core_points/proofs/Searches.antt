-- The points of a search and of a get, those that leave a section, and the points of a put up to its slot.
use Rattle.std.proofs.Common.{◌≡◌, ℕ, suc, ◌+◌, ◌*◌, ◌==◌, ◌≤◌, cond, Bool, true, false, List, [], ◌∷◌, length, Option, Some, None, refl, sym, ap, subst, ◌∙◌, arith, ◌<◌, ◌-◌, ◌++◌, eq-eqb, ne_eqb, inl}
use Rattle.prcu_marks.specs.declared.mark.Mark.{Mark}
use Rattle.prcu_marks.specs.declared.mark.Side.{Side}
use Rattle.prcu_model.specs.declared.operation.Op.{Op}
use Rattle.prcu_model.specs.declared.operation.Op.TheVariants.{Put, Get, Del, Set}
use Rattle.prcu_model.specs.Dictionary.{key_of}
use Rattle.core_state.specs.declared.shape.Shape.{Shape}
use Rattle.core_state.specs.declared.words.Field.TheVariants.{Key, Value, Link, Life, Tag}
use Rattle.core_state.specs.declared.view.Reading.{Reading}
use Rattle.core_state.specs.declared.view.Section.{Section}
use Rattle.core_state.specs.declared.view.SearchState.{SearchState}
use Rattle.core_state.specs.declared.view.SearchState.TheVariants.{At, Unread, Found, Missed}
use Rattle.core_state.specs.declared.view.View.{View}
use Rattle.list_laws.specs.Counts.{IsIn, Each}
use Rattle.core_state.specs.Memory.{step_side}
use Rattle.core_state.specs.Steps.{new_section, key_stand, after_search_load, leaving, NeedsEnterByStamp}
use Rattle.core_frames.proofs.Views.{link_moves, key_moves, value_moves, missed_stays}
use Rattle.core_state.specs.Acts.{clocked_at, section_of}
use Rattle.core_state.specs.declared.act.Part.TheVariants as part
use Rattle.core_laws.proofs.Acting.{section_is, clocked_is}
use Rattle.core_points.specs.Programs.{Own, go, key_now, after, ended, found, key_read, is_some, value_in, answer, left_section, taking, is_none_left, none_free}
use Rattle.core_points.specs.Facts.{Calm, Inside, InsideParts, Nothing, Stands, is_delete, is_put, is_set, HandFits, HasSpot, Owns, table_of, read_at}
use Rattle.core_points.specs.Fits.{owed, owed_op, Fits, Point, owed_reserve, owed_taken, IsGiven, GoesOn}
use Rattle.core_points.proofs.Notes.{loads_at, stands_on, answers, positive, owns_scanned, owns_noted, bare_noted, bare_reserved, held_here, fits}
use Rattle.prcu_model.specs.declared.operation.Reply.TheVariants.{Old, Val, Absent, Full}
use Rattle.core_state.specs.declared.view.Retired.{Retired}
use Rattle.core_points.specs.declared.stage.Spot.{Spot}
use Rattle.core_points.specs.declared.stage.Aim.TheVariants.{Leaf, Spare, Room}
use Rattle.core_points.specs.declared.stage.Stage.{Stage}
use Rattle.core_points.specs.Laws.{IsFree}
use mathlib.Core.Logic.{dite}
use native.Mathlib.Decide.{ℕ_discrete}
use Rattle.prcu_marks.specs.declared.mark.Mark.TheVariants.{Given}
use Rattle.core_state.specs.Views.{note_option}
use Rattle.core_state.specs.Links.{seized}
use Rattle.core_points.specs.declared.stage.Aim.{Aim}
use Rattle.core_points.specs.declared.stage.Waits.TheVariants.{Reuse}
use Rattle.core_laws.proofs.LockSteps.{known_here}
use Rattle.core_state.specs.declared.act.Part.TheVariants as part
use Rattle.core_points.specs.declared.stage.Then.TheVariants as then
use Rattle.core_points.specs.declared.stage.Stage.TheVariants as at
use Rattle.core_laws.proofs.Searches.{in_more}

-- The points of a search and of a get: what the step needs is known, and what the next point needs is known after it.

first_in : {A : Type 0} (xs : List A) (a : A) → IsIn (a ∷ xs) a
first_in xs a = (0, refl)

-- The points of a caller.
module _ (k : Shape) (h : List Mark) (o : Own) (v : View) (n : ℕ) where
  pub next_clock : GoesOn h o v n at.EnterClock
  next_clock f = let p = f.point in fits f.owns (f.unraised refl) f.tickets (p.0, p.1, (record { number = n; at = length h }, refl, refl))

  pub needs_key : (clock : ℕ) → IsGiven k o v n (at.EnterKey clock)
  needs_key clock f = (f.point).0

  pub next_key : (clock : ℕ) → GoesOn h o v n (at.EnterKey clock)
  next_key clock f = let p = f.point in fits f.owns (f.unraised refl) f.tickets (p.0, p.1, p.2, refl)

  pub needs_stamp : (clock : ℕ) → IsGiven k o v n (at.EnterStamp clock)
  needs_stamp clock f =
      let p = f.point in
      let c = p.2 in
      subst (NeedsEnterByStamp v (key_now o) clock) (sym (clocked_is v c.0 c.1)) (record {
        entry = record { outside = p.0; free = ((p.1).bare).locks_are; key_fits = f.owns.key_fits };
        clock = c.1;
        stamp_is = sym c.2;
        announced = p.3;
      })

  pub next_stamp : (clock : ℕ) → GoesOn h o v n (at.EnterStamp clock)
  next_stamp clock f =
      let p = f.point in
      fits f.owns (f.unraised refl) f.tickets (
        p.1,
        record {
          section = new_section v (key_now o) clock (clocked_at v) h;
          is = refl;
          stands = record { searches = refl; key_is = refl; sought = refl; state_is = refl; here = first_in [] 0 };
          known = refl;
        },
      )

  pub needs_link : (s : ℕ) (b : Side) → IsGiven k o v n (at.AtLink s b)
  needs_link s b f = let i = (f.point).1 in loads_at v i s (part.Link b) (i.stands).here

  ended_point : (op : Op) → o.op ≡ op → (s : ℕ) (b : Side) (w : View) → Calm o w → Inside w (key_now o) (Missed s b) Nothing
      → Point (go o (ended op s b)) (ended op s b) w
  ended_point (Put key value) e s b w calm inside = (calm, ap is_put e, inside)
  ended_point (Get key) e s b w calm inside = (calm, (ap is_put e, (s, b, inside)))
  ended_point (Del key) e s b w calm inside = (calm, (ap is_put e, (s, b, inside)))
  ended_point (Set key value) e s b w calm inside = (calm, (ap is_put e, (s, b, inside)))

  ended_owed : (w : Own) (op : Op) (s : ℕ) (b : Side) (more kept m : ℕ) → owed_op w.op w.hand w.retired + more + kept ≤ m
      → owed w (ended op s b) + more + kept ≤ m
  ended_owed w (Put key value) s b more kept m le = le
  ended_owed w (Get key) s b more kept m le = omega arith
  ended_owed w (Del key) s b more kept m le = omega arith
  ended_owed w (Set key value) s b more kept m le = omega arith

  pub next_link : (s : ℕ) (b : Side) → GoesOn h o v n (at.AtLink s b)
  next_link s b f =
      let p = f.point in
      let i = p.1 in
      let section : Section = i.section in
      subst (λ x. Fits (after o n (at.AtLink s b)) (after o n (at.AtLink s b)).stage (after_search_load v x (Link s b) n))
      (sym (section_is v _ i.is))
      (subst (λ (r : Reading). Fits (after o n (at.AtLink s b)) (after o n (at.AtLink s b)).stage
      (record v { section = Some (record section { reading = r }) })) (sym (link_moves section.reading s b n (i.stands).state_is))
      (go_on (n == 0) section p.0 i.stands i.known))
    where
      go_on : (z : Bool) (section : Section) → Calm o v → Stands section (key_now o) (At s b)
          → section.reading.walk ≡ None →
          let r' : Reading = record section.reading {
            loads =
                record { field = Link s b; number = n; stored = false } ∷ section.reading.loads;
          } in
          Fits (go o (cond z (ended o.op s b) (at.AtKey n s b))) (cond z (ended o.op s b) (at.AtKey n s b))
          (record v {
            section = Some (record section {
              reading =
                  cond z (record r' { state = Missed s b }) (record r' { state = Unread n s b; stood = n ∷ r'.stood });
            });
          })
      go_on true section calm stands none =
          fits f.owns (f.unraised refl)
          (ended_owed (go o (ended o.op s b)) o.op s b (4 * length o.rest) o.kept v.allowance.tickets f.tickets)
          (ended_point o.op refl s b _ calm (record {
            section = _;
            is = refl;
            stands = stands_on _ refl refl stands.here stands;
            known = tt;
          }))
      go_on false section calm stands none = fits f.owns (f.unraised refl) f.tickets (
        calm,
        record {
          section = _;
          is = refl;
          stands = stands_on _ refl refl (first_in section.reading.stood n) stands;
          known = (in_more section.reading.stood n s stands.here, none);
        },
      )

  pub needs_read : (s p : ℕ) (b : Side) → IsGiven k o v n (at.AtKey s p b)
  needs_read s p b f = let i = (f.point).1 in loads_at v i s part.Key (i.stands).here

  is_get : (key : ℕ) → o.op ≡ Get key → o.op ≡ Get (key_now o)
  is_get key e = e ∙ ap (λ x. Get x) (sym (ap key_of e))

  nothing_more : {now : Option Section} {key : ℕ} {state : SearchState} {more : Section → Type 0} → InsideParts now key state more
      → InsideParts now key state Nothing
  nothing_more i = record { section = i.section; is = i.is; stands = i.stands; known = tt }

  found_point : (op : Op) → o.op ≡ op → (s p : ℕ) (b : Side) (w : View) → Calm o w
      → Inside w (key_now o) (Found s p b None) (λ section. IsIn section.reading.stood p × (section.reading.walk ≡ None))
      → Point (go o (found op s p b)) (found op s p b) w
  found_point (Put key value) e s p b w calm i = (calm, (ap is_put e, (s, p, b, nothing_more i)))
  found_point (Get key) e s p b w calm i = (calm, is_get key e, (p, b, nothing_more i))
  found_point (Del key) e s p b w calm i =
      (calm, ap is_delete e, record { section = i.section; is = i.is; stands = i.stands; known = i.known })
  found_point (Set key value) e s p b w calm i = (calm, ap is_set e, (p, b, nothing_more i))

  found_owed : (w : Own) (op : Op) (s p : ℕ) (b : Side) (more kept m : ℕ) → owed_op w.op w.hand w.retired + more + kept ≤ m
      → owed w (found op s p b) + more + kept ≤ m
  found_owed w (Put key value) s p b more kept m le = omega arith
  found_owed w (Get key) s p b more kept m le = le
  found_owed w (Del key) s p b more kept m le = le
  found_owed w (Set key value) s p b more kept m le = le

  pub next_read : (s p : ℕ) (b : Side) → GoesOn h o v n (at.AtKey s p b)
  next_read s p b f =
      let i = (f.point).1 in
      let section : Section = i.section in
      subst (λ x. Fits (after o n (at.AtKey s p b)) (after o n (at.AtKey s p b)).stage (after_search_load v x (Key s) n))
      (sym (section_is v _ i.is))
      (subst (λ (r : Reading). Fits (after o n (at.AtKey s p b)) (after o n (at.AtKey s p b)).stage
      (record v { section = Some (record section { reading = r }) }))
      (sym (key_moves section.reading s p b n (i.stands).state_is
      ∙ ap (λ x. record section.reading {
        loads = record { field = Key s; number = n; stored = false } ∷ section.reading.loads;
        state = key_stand s p b (step_side x n);
      }) (i.stands).sought))
      (go_on (step_side (key_now o) n) section (f.point).0 i.stands i.known))
    where
      go_on : (z : Option Side) (section : Section) → Calm o v → Stands section (key_now o) (Unread s p b)
          → IsIn section.reading.stood p × (section.reading.walk ≡ None) →
          Fits (go o (key_read o s p b z)) (key_read o s p b z)
          (record v {
            section = Some (record section {
              reading =
                  record section.reading {
                    loads = record { field = Key s; number = n; stored = false } ∷ section.reading.loads;
                    state = key_stand s p b z;
                  };
            });
          })
      go_on None section calm stands stood =
          fits f.owns (f.unraised refl)
          (found_owed (go o (found o.op s p b)) o.op s p b (4 * length o.rest) o.kept v.allowance.tickets f.tickets)
          (found_point o.op refl s p b _ calm (record {
            section = _;
            is = refl;
            stands = stands_on _ refl refl stands.here stands;
            known = stood;
          }))
      go_on (Some c) section calm stands stood = fits f.owns (f.unraised refl) f.tickets (
        calm,
        record {
          section = _;
          is = refl;
          stands = stands_on _ refl refl stands.here stands;
          known = stood.1;
        },
      )

  pub needs_value : (s : ℕ) → IsGiven k o v n (at.Value s)
  needs_value s f = let i = ((f.point).2).2 in loads_at v i s part.Value (i.stands).here

  pub next_value : (s : ℕ) → GoesOn h o v n (at.Value s)
  next_value s f =
      let p = (f.point).2 in
      let i = p.2 in
      let section : Section = i.section in
      subst (λ x. Fits (go o (at.Leave (then.Value n))) (at.Leave (then.Value n)) (after_search_load v x (Value s) n))
      (sym (section_is v _ i.is))
      (subst (λ (r : Reading). Fits (go o (at.Leave (then.Value n))) (at.Leave (then.Value n))
      (record v { section = Some (record section { reading = r }) })) (sym (value_moves section.reading s p.0 p.1 n (i.stands).state_is))
      (fits f.owns (f.unraised refl) (let t = f.tickets in omega arith) (
        (f.point).0,
        (
          (f.point).1,
          (
            s,
            p.0,
            p.1,
            record {
              section = _;
              is = refl;
              stands = stands_on _ refl refl (i.stands).here i.stands;
              known = tt;
            },
          ),
        ),
      )))

-- The steps that leave a section at the end of a search, a get or a put: what the next point needs is known after them.

owed_put : (op : Op) (retired : List ℕ) (spot : Spot) → is_put op ≡ true → owed_op op None retired ≡ owed_reserve (Leaf spot) retired
owed_put (Put key value) retired spot e = refl
owed_put (Get key) retired spot e = cc
owed_put (Del key) retired spot e = cc
owed_put (Set key value) retired spot e = cc

module _ (k : Shape) (h : List Mark) (o : Own) (v : View) (n : ℕ) where
  free_after : (section : Section) (hand : Option ℕ) → Each v.hands.retired (λ (r : Retired). r.raised ≡ false) → Owns o v → Calm o v
      → o.hand ≡ None → IsFree o (leaving v section h)
  free_after section hand unraised owns calm empty = record {
    unraised = unraised;
    owns = owns;
    outside = refl;
    empty = empty;
    bare = calm.bare;
    no_hand = subst (λ x. HandFits x o.hand_life (key_now o) (value_in o.op) v.hands.hand) empty calm.hand;
  }

  left_as : (stage : Own) → (section : Section) → v.section ≡ Some section → Fits stage stage.stage (leaving v section h)
      → Fits stage stage.stage (leaving v (section_of v) h)
  left_as stage section e f = subst (λ x. Fits stage stage.stage (leaving v x h)) (sym (section_is v _ e)) f

  pub next_absent : GoesOn h o v n (at.Leave then.Absent)
  next_absent f =
      let p = (f.point).1 in
      let i = (p.1).2 in
      left_as (answer o Absent 0) i.section i.is (answers o (leaving v i.section h) Absent 0
      (free_after i.section o.hand (f.unraised refl) f.owns (f.point).0 (((f.point).0).ready.empty p.0)) (let t = f.tickets in omega arith))

  pub next_val : (value : ℕ) → GoesOn h o v n (at.Leave (then.Value value))
  next_val value f =
      let p = (f.point).1 in
      let i = (p.1).3 in
      left_as (answer o (Val value) 0) i.section i.is (answers o (leaving v i.section h) (Val value) 0
      (free_after i.section o.hand (f.unraised refl) f.owns (f.point).0 (((f.point).0).ready.empty (ap is_put p.0)))
      (let t = f.tickets in omega arith))

  -- a put that found its key answers, or gives its slot back
  pub next_old : GoesOn h o v n (at.Leave then.Old)
  next_old f =
      let p = (f.point).1 in
      let i = (p.1).3 in
      let section : Section = i.section in
      left_as (left_section o then.Old) section i.is (by_hand o.hand refl section)
    where
      by_hand : (hand : Option ℕ) → o.hand ≡ hand → (section : Section) → let o' : Own =
          cond (is_some o.hand) (go o at.Raise) (answer o Old 0) in Fits o' o'.stage (leaving v section h)
      by_hand None e section = subst (λ b. let o' : Own = cond b (go o at.Raise) (answer o Old 0) in Fits o' o'.stage (leaving v section h))
          (sym (ap is_some e))
          (answers o (leaving v section h) Old 0 (free_after section o.hand (f.unraised refl) f.owns (f.point).0 e)
          (let t = f.tickets in omega arith))
      by_hand (Some s) e section = subst (λ b. let o' : Own = cond b (go o at.Raise) (answer o Old 0) in
          Fits o' o'.stage (leaving v section h)) (sym (ap is_some e))
          (fits f.owns (f.unraised refl) f.tickets (refl, (s, e), (f.point).0, ((f.point).1).0))

  -- a put that didn't has a record, and locks its slot or takes one for its leaf
  pub next_link_leaf : (spot : Spot)
      → ((section : Section) → v.section ≡ Some section → (s : ℕ) → IsIn section.reading.stood s → s < table_of o) → GoesOn h o v n (at.Leave (then.Link spot))
  next_link_leaf spot stood f =
      let p = (f.point).1 in
      let i = p.1 in
      let section : Section = i.section in
      let m = i.known in
      left_as (left_section o (then.Link spot)) section i.is
      (by_hand o.hand refl section (record {
        reading = section.reading;
        kept = (0, refl);
        key_is = (i.stands).sought;
        missed = (i.stands).state_is;
        recorded = m.0;
        tag_is = m.1;
        inside = stood section i.is spot.slot (i.stands).here;
      }))
    where
      by_hand : (hand : Option ℕ) → o.hand ≡ hand → (section : Section)
          → HasSpot (table_of o) (leaving v section h).records (key_now o) spot
          → let st : Stage = cond (is_some o.hand) (at.LeafLock spot) (taking o (Leaf spot)) in Fits (go o st) st (leaving v section h)
      by_hand None e section has = subst (λ b. let st : Stage = cond b (at.LeafLock spot) (taking o (Leaf spot)) in
          Fits (go o st) st (leaving v section h)) (sym (ap is_some e))
          (fits f.owns (f.unraised refl) (subst (λ x. x + 4 * length o.rest + o.kept ≤ v.allowance.tickets)
          (ap (λ x. owed_op o.op x o.retired) e ∙ owed_put o.op o.retired spot ((f.point).1).0) f.tickets) (record {
            idle = record {
              outside = refl;
              bare = ((f.point).0).bare;
              empty = subst (λ x. HandFits x o.hand_life (key_now o) (value_in o.op) v.hands.hand) e ((f.point).0).hand;
              no_hand = e;
            };
            some = positive o.free;
            takes = (has, ((f.point).1).0);
          }))
      by_hand (Some s) e section has = subst (λ b. let st : Stage = cond b (at.LeafLock spot) (taking o (Leaf spot)) in
          Fits (go o st) st (leaving v section h)) (sym (ap is_some e))
          (fits f.owns (f.unraised refl) f.tickets (let p = f.point in
          record { outside = refl; taken = (s, e); bare = (p.0).bare; hand = (p.0).hand; has_spot = has; puts = (p.1).0 }))

-- The points of a put: what each step needs is known, and what the next point needs is known after it.

more_owed : (aim : Aim) (retired : List ℕ) → suc (owed_taken aim) ≤ owed_reserve aim retired
more_owed (Leaf spot) [] = omega arith
more_owed (Leaf spot) (s ∷ ss) = omega arith
more_owed Spare retired = omega arith
more_owed Room retired = omega arith

module _ (k : Shape) (h : List Mark) (o : Own) (v : View) (n : ℕ) where
  -- the record: the tag and the life, in the section
  pub needs_spot_tag : (s : ℕ) (b : Side) → IsGiven k o v n (at.SpotTag s b)
  needs_spot_tag s b f = let i = (f.point).2 in loads_at v i s (part.Tag b) (i.stands).here

  pub next_spot_tag : (s : ℕ) (b : Side) → GoesOn h o v n (at.SpotTag s b)
  next_spot_tag s b f =
      let i = (f.point).2 in
      let section : Section = i.section in
      let o' : Own = go o (at.SpotLife s b n) in
      subst (λ x. Fits o' (at.SpotLife s b n) (after_search_load v x (Tag s b) n)) (sym (section_is v _ i.is))
      (subst (λ (r : Reading). Fits o' (at.SpotLife s b n) (record v { section = Some (record section { reading = r }) }))
      (sym (missed_stays section.reading s b (Tag s b) n (i.stands).state_is))
      (fits f.owns (f.unraised refl) f.tickets (
        (f.point).0,
        (f.point).1,
        record {
          section = _;
          is = refl;
          stands = stands_on _ refl (i.stands).state_is (i.stands).here i.stands;
          known = known_here section.reading.loads (Tag s b) n false;
        },
      )))

  pub needs_spot_life : (s : ℕ) (b : Side) (tag : ℕ) → IsGiven k o v n (at.SpotLife s b tag)
  needs_spot_life s b tag f = let i = (f.point).2 in loads_at v i s part.Life (i.stands).here

  pub next_spot_life : (s : ℕ) (b : Side) (tag : ℕ) → GoesOn h o v n (at.SpotLife s b tag)
  next_spot_life s b tag f =
      let i = (f.point).2 in
      let section : Section = i.section in
      let o' : Own = after o n (at.SpotLife s b tag) in
      subst (λ x. Fits o' o'.stage (after_search_load v x (Life s) n)) (sym (section_is v _ i.is))
      (subst (λ (r : Reading). Fits o' o'.stage (record v { section = Some (record section { reading = r }) }))
      (sym (missed_stays section.reading s b (Life s) n (i.stands).state_is))
      (fits f.owns (f.unraised refl) f.tickets (
        (f.point).0,
        (
          (f.point).1,
          record {
            section = _;
            is = refl;
            stands = stands_on _ refl (i.stands).state_is (i.stands).here i.stands;
            known = ((n, known_here section.reading.loads (Life s) n false, refl), i.known);
          },
        ),
      )))

  -- taking a slot, for a leaf or as a spare
  pub needs_reserve : (aim : Aim) (expected : ℕ) → IsGiven k o v n (at.Reserve aim expected)
  needs_reserve aim expected f =
      let p = f.point in
      let i = p.idle in
      record {
        some = p.some;
        unreserved = (i.bare).reserved_is;
        empty = i.empty;
        ticket = (let t = f.tickets in let more = more_owed aim o.retired in omega arith);
      }

  pub next_reserve : (aim : Aim) (expected : ℕ) → GoesOn h o v n (at.Reserve aim expected)
  next_reserve aim expected f = held (n == expected)
    where
      -- where none is free
      empties : (spot : Spot) → Fits o (at.Reserve (Leaf spot) expected) v → (rs : List ℕ) → o.retired ≡ rs → let o' : Own =
          cond (is_none_left rs) (answer (record o { free = 0 }) Full 0) (go (record o { free = 0 }) (at.Begin (Reuse (Leaf spot)))) in
          Fits o' o'.stage (record v { latest = record v.latest { free = Some 0 }; seen = h })
      empties spot f [] e = answers (record o { free = 0 }) _ Full 0
          (let i = (f.point).idle in record {
            owns = f.owns;
            outside = i.outside;
            empty = i.no_hand;
            bare = i.bare;
            no_hand = i.empty;
            unraised = f.unraised refl;
          })
          (let t = f.tickets in omega arith)
      empties spot f (s ∷ ss) e =
          fits f.owns (f.unraised refl)
          (subst (λ rs. owed_reserve (Leaf spot) rs + 4 * length o.rest + o.kept ≤ v.allowance.tickets) e f.tickets)
          ((f.point).idle, (f.point).takes)

      none : (aim : Aim) → Fits o (at.Reserve aim expected) v → let o' : Own = none_free (record o { free = 0 }) aim in
          Fits o' o'.stage (record v { latest = record v.latest { free = Some 0 }; seen = h })
      none (Leaf spot) f = empties spot f o.retired refl
      none Spare f = fits f.owns (f.unraised refl) f.tickets ((f.point).idle, ((f.point).takes).deletes)
      none Room f = absurd (f.point).takes

      held : (z : Bool) → let o' : Own = cond z (go (record o { free = n - 1 }) (at.Seize aim))
          (cond (n == 0) (none_free (record o { free = 0 }) aim) (go (record o { free = n }) (at.Reserve aim n))) in
          Fits o' o'.stage (cond z (record v {
            allowance = record v.allowance { tickets = v.allowance.tickets - 1 };
            hands = record v.hands { reserved = true };
            latest = record v.latest { free = Some (expected - 1) };
          })
          (cond (n == 0) (record v { latest = record v.latest { free = Some 0 }; seen = h })
          (record v { latest = record v.latest { free = Some n } })))
      held true =
          let i = (f.point).idle in
          fits f.owns (f.unraised refl) (let t = f.tickets in let more = more_owed aim o.retired in omega arith) (record {
            outside = i.outside;
            bare = bare_reserved true i.bare;
            empty = i.empty;
            no_hand = i.no_hand;
            takes = (f.point).takes;
          })
      held false = dite (ℕ_discrete n 0)
          (λ e. subst (λ z. let o' : Own = cond z (none_free (record o { free = 0 }) aim)
          (go (record o { free = n }) (at.Reserve aim n)) in
          Fits o' o'.stage (cond z (record v { latest = record v.latest { free = Some 0 }; seen = h })
          (record v { latest = record v.latest { free = Some n } }))) (sym (eq-eqb n 0 e)) (none aim f))
          (λ ne. subst (λ z. let o' : Own = cond z (none_free (record o { free = 0 }) aim)
          (go (record o { free = n }) (at.Reserve aim n)) in
          Fits o' o'.stage (cond z (record v { latest = record v.latest { free = Some 0 }; seen = h })
          (record v { latest = record v.latest { free = Some n } }))) (sym (ne_eqb n 0 ne))
          (fits f.owns (f.unraised refl) f.tickets (record { idle = (f.point).idle; some = omega arith; takes = (f.point).takes })))

  pub needs_seize : (aim : Aim) → IsGiven k o v n (at.Seize aim)
  needs_seize aim f = record { reserved = ((f.point).bare).reserved_is; some = (λ e. let one = f.owns.scans in absurd (omega arith)) }

  pub next_seize : (aim : Aim) → GoesOn h o v n (at.Seize aim)
  next_seize aim f = got (n == 0)
    where
      got : (z : Bool) → let m : Own = record o { scan = cond (o.scan == o.slots + o.places) 1 (o.scan + 1) } in
          let o' : Own = cond z (go (record m { hand = Some o.scan }) (at.Age aim o.scan)) (go m (at.Seize aim)) in
          Fits o' o'.stage (cond z (record v {
            hands = record v.hands { reserved = false; hand = Some (seized o.scan) };
            seen = h ++ Given o.scan ∷ [];
          }) v)
      got true =
          let p = f.point in
          fits (owns_scanned o v f.owns) (f.unraised refl) f.tickets
          (record { outside = p.outside; bare = bare_reserved false p.bare; in_hand = refl; taken = refl; takes = p.takes })
      got false =
          let p = f.point in
          fits (owns_scanned o v f.owns) (f.unraised refl) f.tickets
          (record { outside = p.outside; bare = p.bare; empty = p.empty; no_hand = p.no_hand; takes = p.takes })

  pub needs_age : (aim : Aim) (s : ℕ) → IsGiven k o v n (at.Age aim s)
  needs_age aim s f = (seized s, inl ((f.point).in_hand, refl))

  pub next_age : (spot : Spot) (s : ℕ) → GoesOn h o v n (at.Age (Leaf spot) s)
  next_age spot s f = let p = f.point in fits (owns_noted o v s (Life s) n false f.owns) (f.unraised refl) f.tickets (record {
    outside = p.outside;
    bare = bare_noted v s (Life s) n false [] [] None false p.bare refl;
    slot = s;
    taken = p.taken;
    before = read_at (Life s) n ∷ (seized s).known;
    life_is = known_here (seized s).known (Life s) n false;
    in_hand = ap (note_option s (read_at (Life s) n)) p.in_hand ∙ ap Some (held_here s (read_at (Life s) n) (seized s) refl);
    has_spot = (p.takes).0;
    puts = (p.takes).1;
    small = omega arith;
  })

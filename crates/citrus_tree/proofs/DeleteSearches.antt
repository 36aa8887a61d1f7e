-- What a delete finds: in its section, and by its loads under the locks.
use Rattle.std.proofs.Common.{◌≡◌, ℕ, ◌+◌, ◌≤◌, List, [], ◌∷◌, ◌++◌, map, Option, None, refl, sym, ap, subst, ◌∙◌, arith, ◌≢◌, ◌/◌, ◌<◌, ◌==◌, ◌&&◌, ◌||◌, cond, not, true, false, length, Some, eq-eqb, ne_eqb, zero, suc, ◌-◌, if◌then◌else◌, ◌*◌, ◌^◌, Bool}
use mathlib.Core.List.{IsPrefix}
use Rattle.prcu_marks.specs.declared.mark.Mark.{Mark}
use Rattle.prcu_marks.specs.declared.mark.Mark.TheVariants.{Entered, Left as LeftMark}
use Rattle.prcu_marks.specs.declared.mark.Side.{Side}
use Rattle.prcu_marks.specs.Callers.{entered_for}
use Rattle.prcu_marks.specs.Marks.{own_of}
use Rattle.prcu_model.specs.declared.operation.Op.TheVariants.{Del}
use Rattle.prcu_model.specs.Dictionary.{key_of}
use Rattle.prcu_model.proofs.ListFacts.{prefix_trans}
use Rattle.core_state.specs.declared.shape.Shape.{Shape}
use Rattle.core_state.specs.declared.view.Retired.{Retired}
use Rattle.core_state.specs.declared.view.SearchState.{SearchState}
use Rattle.core_state.specs.declared.view.SearchState.TheVariants.{Found as FoundAt}
use Rattle.core_state.specs.declared.view.View.{View}
use Rattle.core_points.specs.declared.stage.Target.{Target}
use Rattle.list_laws.specs.Counts.{IsIn}
use Rattle.core_points.specs.Facts.{is_delete, read_at, SameLocks, table_of}
use Rattle.core_points.specs.Fits.{Fits}
use Rattle.core_points.proofs.DeleteSearches.{next_delete}
use Rattle.seat_table.specs.Gains.{StoodInside, IsAsked, Told}
use Rattle.seat_table.specs.Sections.{HasLeft, is_entry, is_exit}
use Rattle.tree_points.specs.Points.{IsAt, IsDone, HasAdvanced, HasLocks}
use Rattle.tree_points.proofs.Passing.{moves_on, no_hand_enter, at_false, at_true, needs, passes}
use Rattle.seat_table.proofs.SeveralSteps.{made_both}
use Rattle.citrus_tree.specs.Lookups.{is_load, is_of_lookup, IsSearching, Looked}
use Rattle.citrus_tree.proofs.Searching.{load_is, entry_is, exit_is, noting_load, read_looked, value_moves}
use Rattle.tree_points.proofs.Locks.{allowed, further_by, advanced_entered, advanced_left, advanced_none, advanced_on, advanced_same, advanced_stays, needs_unlock, passes_target_lock_busy, passes_target_lock_first, passes_target_lock_free, passes_unlock, passes_unlock_again, locks_target_lock, no_further}
use Rattle.tree_points.proofs.Waits.{leaves_delete}
use Rattle.citrus_tree.specs.Going.{IsSeated, retired_marks}
use Rattle.citrus_tree.specs.Deletes.{FoundTwoChildren, HasSearched, HasTwo, HasValue, LeavesFor, OnlyLoads, retired_slots, Comes, StandsAt, walked_to, KeepsRest, giving_up, AreLivesSmall}
use Rattle.citrus_tree.specs.Replies.{WasAnswered}
use Rattle.citrus_tree.proofs.Leavings.{goes_looked, was_answered}
use Rattle.prcu_marks.specs.declared.mark.Side.TheVariants.{Left, Right}
use Rattle.prcu_model.specs.declared.operation.Op.{Op}
use Rattle.core_state.specs.declared.view.Reading.{Reading}
use Rattle.core_state.specs.declared.view.Section.{Section}
use Rattle.core_state.specs.declared.words.Field.TheVariants.{Link, Value}
use Rattle.core_state.specs.Memory.{slot_count}
use Rattle.core_state.specs.Steps.{after_search_load, searched, walked, walking}
use Rattle.core_points.specs.declared.stage.Node.{Node}
use Rattle.core_points.specs.declared.stage.Successor.{Successor}
use Rattle.core_points.specs.Programs.{Own, go, past_left, past_right, nothing_found, target_lock, target_locks, successor_holds, target_holds, with_found, past_target_load}
use Rattle.core_state.specs.Acts.{noted}
use Rattle.core_laws.proofs.Acting.{may_search, part_word, section_is}
use Rattle.core_laws.proofs.Searches.{in_more}
use Rattle.citrus_tree.specs.Hops.{slots_in, slots_met}
use Rattle.citrus_tree.proofs.DeleteUpdates.{loads_self, loads_search_load, loads_on, keeps_rest, locks_busy, rest_lock, rest_unlock}
use Rattle.core_state.specs.declared.view.HeldLock.{HeldLock}
use Rattle.list_laws.specs.Counts.{times}
use Rattle.core_points.specs.declared.stage.Stage.{Stage}
use Rattle.core_points.specs.DeleteFacts.{ReadsChildren, first_locks, two_children}
use Rattle.std.proofs.lemmas.Bool.{eqb-true}
use Rattle.core_points.specs.declared.stage.Found.{Found}
use Rattle.core_points.proofs.Links.{both_true}
use Rattle.core_state.specs.declared.act.Part.{Part}
use Rattle.core_points.specs.declared.stage.Then.TheVariants as next
use Rattle.core_points.specs.declared.stage.Stage.TheVariants as at
use Rattle.core_state.specs.declared.act.Act.TheVariants as acts
use Rattle.core_state.specs.declared.act.Part.TheVariants as part
use Rattle.core_points.specs.declared.stage.Last.TheVariants as last

-- The section of a delete: what it found, and where the call goes on.

-- what the section's first steps told
pub seated_by : {k : Shape} {v w : View} {key : ℕ} {state : SearchState} → 1 ≤ k.places → IsSearching v key state w → IsSeated k v
seated_by some_place i = record { works = i.entered.leaves.seen.works; some_place = some_place }

none_held : (locks : List HeldLock) → length locks ≡ 0 → locks ≡ []
none_held [] none = refl
none_held (lock ∷ locks) none = absurd (omega (arith, none))

module _ {k : Shape} {kept key : ℕ} where
  -- the search found the node
  pub at_parent : {v w : View} {p s : ℕ} {b : Side} → IsAt k (Del key) kept at.EnterClock v → IsSearching v key (FoundAt s p b None) w
      → IsAt k (Del key) kept (at.ParentLife p b s) w
  at_parent {v} {w} {p} {s} {b} a i =
      let e = i.entered in
      let same : w ≡ record v {
        enter = i.entry.enter;
        section = w.section;
        counts = record v.counts { sections = v.counts.sections + 1 };
        trail = w.trail;
        seen = i.entry.seen;
      } =
      i.others ∙ ap (λ (z : View). record z { section = w.section; trail = w.trail }) e.others in
      subst (λ (z : View). IsAt k (Del key) kept (at.ParentLife p b s) z) (sym same) (moves_on a a.own refl (record {
        owns = a.fits.owns;
        tickets = a.fits.tickets;
        unraised = a.fits.unraised;
        point = (
          (a.fits.point).1,
          ap is_delete a.op_is,
          record {
            section = record e.section { reading = i.reading };
            is = i.inside;
            stands = record {
              searches = e.no_list;
              key_is = e.key_is ∙ ap key_of (sym a.op_is);
              sought = i.key_is ∙ ap key_of (sym a.op_is);
              state_is = i.state_is;
              here = i.here;
            };
            known = (i.above, i.no_walk);
          },
        );
      }))

  -- or nothing: the call is over
  pub at_end : {v w : View} → IsAt k (Del key) kept at.EnterClock v → Looked v key None w → IsDone k (Del key) kept w
  at_end {v} {w} a l =
      let bare = ((a.fits.point).1).bare in
      let hand = no_hand_enter refl a in
      subst (λ (z : View). IsDone k (Del key) kept z) (sym l.others) (moves_on a a.own refl (record {
        owns = a.fits.owns;
        tickets = (let t = a.fits.tickets in omega arith);
        unraised = a.fits.unraised;
        point = (refl, bare, hand);
      }))

  -- there the call may be given up, with no lock tried
  pub left_there : {v : View} {t : Target} → IsAt k (Del key) kept (at.TargetLock t 0) v → IsDone k (Del key) kept v
  left_there {v} {t} a =
      let p = a.fits.point in
      let q = p.quiet in
      moves_on a a.own refl (record {
        owns = a.fits.owns;
        tickets = (let paid = a.fits.tickets in omega arith);
        unraised = a.fits.unraised;
        point = (
          q.outside,
          record {
            locks_are = none_held v.locks p.long;
            turn_is = q.turn_is;
            settled = q.settled;
            reserved_is = q.unreserved;
            paid = q.paid;
          },
          q.empty,
        );
      })

-- Where the section is left with the target, the call tries its first lock. Where the target has a successor it found two children.
module _ {k : Shape} {op : Op} {kept : ℕ} {v : View} {t : Target} (a : IsAt k op kept (at.Leave (next.Delete t)) v) where
  found_two : {w : View} → HasLeft v w → HasTwo t → FoundTwoChildren (key_of op) w
  found_two {w} left two =
      let i = ((a.fits.point).1).1 in
      let same : ◌≡◌ {A = Section} left.section i.section =
      (let one : Some left.section ≡ Some i.section = sym left.was ∙ i.is in cc) in
      let walks = (subst (λ o. ReadsChildren i.section.reading t.node o) two.1 (i.known).1).0 in record {
        reading = i.section.reading;
        earlier = v.records;
        last = ap (λ (z : View). z.records) left.others ∙ ap (λ (z : Section). z.reading ∷ v.records) same;
        sought = i.stands.sought ∙ ap key_of a.op_is;
        node = t.node.node;
        parent = t.node.parent;
        side = t.node.side;
        found = (None, i.stands.state_is);
        left = t.node.left;
        left_some = walks.left_some;
        left_loaded = walks.left_loaded;
        right = t.node.right;
        right_some = walks.right_some;
        right_loaded = walks.right_loaded;
      }

  -- the value of the node may be loaded before
  pub asks_value : StoodInside k v → IsAsked k v (acts.SearchLoad t.node.node part.Value)
  asks_value inside now =
      let i = ((a.fits.point).1).1 in (
        part_word k t.node.node part.Value (inside.stood i.section t.node.node i.is i.stands.here).inside,
        may_search v t.node.node part.Value i.is i.stands.searches i.stands.here,
      )

pub leaves_now : {k : Shape} {t : Target} {v : View} → StoodInside k v → LeavesFor k t v v
leaves_now {k} {t} {v} inside op kept x a left = (leaves_delete k op kept v x left inside a, found_two a left)

-- what was found of the children stays so with the value loaded
children_valued : (r : Reading) (s n : ℕ) (state : SearchState) (d : Node) (o : Option Successor) → ReadsChildren r d o
    → ReadsChildren (record (noting_load r (Value s) n) { state = state }) d o
children_valued r s n state d None (lives, lacks, had) =
    (record { parent_life = lives.parent_life; node_life = lives.node_life }, lacks, had)
children_valued r s n state d (Some u) (walks, apart) = (
  record {
    left_some = walks.left_some;
    right_some = walks.right_some;
    slot_some = walks.slot_some;
    left_loaded = in_more r.loads (read_at (Value s) n) (read_at (Link d.node Left) d.left) walks.left_loaded;
    right_loaded = in_more r.loads (read_at (Value s) n) (read_at (Link d.node Right) d.right) walks.right_loaded;
    walk = walks.walk;
    slot_stood = walks.slot_stood;
    parent_stood = walks.parent_stood;
  },
  λ far. let x = apart far in (record { parent_life = x.0.parent_life; node_life = x.0.node_life }, x.1, x.2),
)

-- The same where the value of the node was loaded before.
module _ {k : Shape} {op : Op} {kept n : ℕ} {v w : View} {t : Target} (a : IsAt k op kept (at.Leave (next.Delete t)) v)
    (told : Told k v (acts.SearchLoad t.node.node part.Value) n w) where
  abbrev section : Section
  section = (((a.fits.point).1).1).section

  abbrev valued : Reading
  valued = record (noting_load section.reading (Value t.node.node) n) { state = FoundAt t.node.node t.node.parent t.node.side (Some n) }

  valued_view : w ≡ record (noted v (acts.SearchLoad t.node.node part.Value) n) { section = Some (record section { reading = valued }) }
  valued_view =
      let u : View = noted v (acts.SearchLoad t.node.node part.Value) n in
      let i = ((a.fits.point).1).1 in
      told.goes ∙ ap (λ z. after_search_load u z (Value t.node.node) n) (section_is v _ i.is)
      ∙ ap (λ z. record u { section = Some (record section { reading = z }) })
      (value_moves section.reading t.node.node t.node.parent t.node.side n i.stands.state_is)

  pub has_value : HasValue (key_of op) n w
  has_value =
      let i = ((a.fits.point).1).1 in record {
        section = record section { reading = valued };
        inside = ap (λ (z : View). z.section) valued_view;
        sought = i.stands.sought ∙ ap key_of a.op_is;
        slot = t.node.node;
        parent = t.node.parent;
        side = t.node.side;
        found = refl;
      }

  module _ {x : View} (left : HasLeft w x) where
    left_is : ◌≡◌ {A = Section} left.section (record section { reading = valued })
    left_is =
        (let one : Some left.section ≡ Some (record section { reading = valued }) =
        sym left.was ∙ ap (λ (z : View). z.section) valued_view in cc)

    left_view : x ≡ record v { enter = x.enter; section = None; records = valued ∷ v.records; trail = x.trail; seen = x.seen }
    left_view = left.others ∙ (λ j. record (valued_view j) {
      enter = x.enter;
      section = None;
      records = (left_is j).reading ∷ (valued_view j).records;
      trail = x.trail;
      seen = x.seen;
    })

    at_locks : StoodInside k v → IsAt k op kept (at.TargetLock t 0) x
    at_locks inside =
        let i = ((a.fits.point).1).1 in
        let stood : (m : Section) → v.section ≡ Some m → (s : ℕ) → IsIn m.reading.stood s → s < table_of a.own =
        λ m is s there. subst (λ z. s < z) (λ j. sym a.slots_are j + sym a.places_are j + 1) (inside.stood m s is there).inside in
        let to : Own = go a.own (at.TargetLock t 0) in
        let f = next_delete k [] a.own v 0 t stood a.fits in
        let p = f.point in
        moves_on a to refl (subst (Fits to (at.TargetLock t 0)) (sym left_view) (record {
          owns = f.owns;
          tickets = f.tickets;
          unraised = f.unraised;
          point = record {
            quiet = p.quiet;
            deleting = p.deleting;
            target = record {
              reading = valued;
              kept = (0, refl);
              key_is = i.stands.sought;
              found = (Some n, refl);
              within = stood section i.is;
              parent_stood = i.known.0;
              node_stood = i.stands.here;
              children = children_valued section.reading t.node.node n _ t.node t.successor i.known.1;
            };
            clear = p.clear;
            long = p.long;
            locks_are = p.locks_are;
            got = p.got;
            more = p.more;
          };
        }))

    found_both : HasTwo t → FoundTwoChildren (key_of op) x
    found_both two =
        let i = ((a.fits.point).1).1 in
        let walks = (subst (λ o. ReadsChildren section.reading t.node o) two.1 (i.known).1).0 in record {
          reading = valued;
          earlier = v.records;
          last = ap (λ (z : View). z.records) left_view;
          sought = i.stands.sought ∙ ap key_of a.op_is;
          node = t.node.node;
          parent = t.node.parent;
          side = t.node.side;
          found = (Some n, refl);
          left = t.node.left;
          left_some = walks.left_some;
          left_loaded = in_more section.reading.loads (read_at (Value t.node.node) n) (read_at (Link t.node.node Left) t.node.left)
              walks.left_loaded;
          right = t.node.right;
          right_some = walks.right_some;
          right_loaded = in_more section.reading.loads (read_at (Value t.node.node) n) (read_at (Link t.node.node Right) t.node.right)
              walks.right_loaded;
        }

pub leaves_valued : {k : Shape} {n : ℕ} {v w : View} {t : Target} → StoodInside k v
    → Told k v (acts.SearchLoad t.node.node part.Value) n w → LeavesFor k t v w
leaves_valued inside told op kept x a left = (at_locks a told left inside, found_both a told left)

-- What the search answers that has loaded the value: the dictionary gave it at a front of the section.
pub looked_valued : (k : Shape) {v w x y : View} {key value : ℕ} {state : SearchState} → IsSearching v key state w → OnlyLoads w x
    → HasValue key value x → HasLeft x y → Looked v key (Some value) y
looked_valued k {v} {w} {x} {y} {key} {value} i k_loads h left =
    let e = i.entered in
    let read = k_loads.inside (record e.section { reading = i.reading }) i.inside in
    let here : ◌≡◌ {A = Section} h.section (record e.section { reading = read.0 }) =
    (let one : Some h.section ≡ Some (record e.section { reading = read.0 }) = sym h.inside ∙ read.1 in cc) in
    let was : ◌≡◌ {A = Section} left.section h.section =
    (let one : Some left.section ≡ Some h.section = sym left.was ∙ h.inside in cc) in
    (read_looked k v key (Some value) x y (record {
      entry = i.entry;
      entered = e;
      reading = read.0;
      inside = read.1;
      key_is = ap (λ (z : Section). z.reading.key) (sym here) ∙ h.sought;
      others = k_loads.others ∙ ap (λ (z : View). record z { section = x.section; trail = x.trail }) i.others;
      made = made_both is_load is_load is_load (λ kind is. is) (λ kind is. is) i.entry.trail w.trail x.trail i.made k_loads.made;
    }) left (left.answer.present h.slot h.parent value h.side
    (ap (λ (z : Section). z.listing) was ∙ ap (λ (z : Section). z.listing) here ∙ e.no_list)
    (ap (λ (z : Section). z.reading.state) was ∙ h.found))).0

-- What the section leaves.
pub searched_found : {v w x y : View} {key : ℕ} {state : SearchState} → IsSearching v key state w → OnlyLoads w x → HasLeft x y
    → HasSearched v key y
searched_found {v} {w} {x} {y} {key} {state} i k left =
    let e = i.entered in
    let inside : HasAdvanced v w (Entered v.allowance.place v.counts.sections key ∷ []) =
    advanced_stays (advanced_entered e) (advanced_none (further_by i.entry w _ i.made.trail refl) (allowed i.others refl)
    (ap (λ (z : View). z.seen) i.others)) in
    let before : HasAdvanced v x (Entered v.allowance.place v.counts.sections key ∷ []) = advanced_stays inside k.all.advanced in
    record {
      made = made_both is_of_lookup is_exit is_of_lookup (λ kind is. is) exit_is v.trail x.trail y.trail
          (made_both is_of_lookup is_load is_of_lookup (λ kind is. is) load_is v.trail w.trail x.trail
          (made_both is_entry is_load is_of_lookup entry_is load_is v.trail i.entry.trail w.trail e.made i.made) k.made) left.made;
      count = v.counts.sections;
      left = left.section.count;
      advanced = subst (λ p. HasAdvanced v y (Entered v.allowance.place v.counts.sections key ∷ (LeftMark p left.section.count ∷ []))) before.same
          (advanced_on before (advanced_left left));
      waits = record {
        wait = ap (λ (z : View). z.wait) left.others ∙ k.all.waits.wait ∙ ap (λ (z : View). z.wait) i.others
            ∙ ap (λ (z : View). z.wait) e.others;
        count = ap (λ (z : View). z.counts.waits) left.others ∙ k.all.waits.count ∙ ap (λ (z : View). z.counts.waits) i.others
            ∙ ap (λ (z : View). z.counts.waits) e.others;
      };
      retired = ap retired_slots left.others ∙ k.all.retired ∙ ap retired_slots i.others ∙ ap retired_slots e.others;
      stay = ap retired_marks left.others ∙ k.all.stay ∙ ap retired_marks i.others ∙ ap retired_marks e.others;
    }

pub searched_missed : {v w : View} {key : ℕ} {answer : Option ℕ} → Looked v key answer w → HasSearched v key w
searched_missed {v} {w} l =
    let goes = goes_looked l in
    record {
      made = l.made;
      count = v.counts.sections;
      left = v.counts.sections;
      advanced = goes.advanced;
      waits = record { wait = goes.wait; count = goes.waits };
      retired = ap (map (λ (r : Retired). r.slot)) goes.retired;
      stay = ap (map (λ (r : Retired). (r.slot, r.unlinked, r.waited))) goes.retired;
    }

pub answered_now : {v w : View} {key : ℕ} {answer : Option ℕ} → Looked v key answer w → WasAnswered v key answer w
answered_now l = was_answered l advanced_same

-- An answer since a later moment is one since an earlier.
pub answered_before : {u v w : View} {key : ℕ} {answer : Option ℕ} {marks : List Mark} → HasAdvanced u v marks → WasAnswered v key answer w
    → WasAnswered u key answer w
answered_before {u} {v} {w} {key} g a = record {
  count = a.count;
  before = a.before;
  until = a.until;
  since = prefix_trans u.seen v.seen a.before g.begins a.since;
  within = subst (λ p. IsPrefix (a.before ++ Entered p a.count key ∷ []) a.until) g.same a.within;
  seen = subst (λ p. IsPrefix (a.until ++ LeftMark p a.count ∷ []) w.seen) g.same a.seen;
  more = a.more;
  own = subst (λ p. own_of p w.seen ≡ own_of p a.before ++ Entered p a.count key ∷ (LeftMark p a.count ∷ a.more)) g.same a.own;
  last = subst (λ p. entered_for p key a.more ≡ 0) g.same a.last;
  said = a.said;
}

-- What a delete loads in its section: the node that it found, and the successor of that.

pub node_loaded : {k : Shape} {op : Op} {kept n0 n1 n2 n3 : ℕ} {v v1 v2 v3 v4 : View} (p s g0 g1 : ℕ) (b : Side) → g0 ≡ n0 / 2 → g1 ≡ n1 / 2
    → IsAt k op kept (at.ParentLife p b s) v
    → Told k v (acts.SearchLoad p part.Life) n0 v1 → Told k v1 (acts.SearchLoad s part.Life) n1 v2
    → Told k v2 (acts.SearchLoad s (part.Link Left)) n2 v3 → Told k v3 (acts.SearchLoad s (part.Link Right)) n3 v4
    → IsAt k op kept (past_right (record {
      parent = p;
      side = b;
      node = s;
      parent_generation = g0;
      generation = g1;
      left = n2;
      right = n3;
    })) v4
node_loaded {k} {op} {kept} {n0} {n1} {n2} {n3} {v} {v1} {v2} {v3} {v4} p s g0 g1 b first second a t0 t1 t2 t3 =
    subst (λ (z : ℕ × ℕ). IsAt k op kept (past_right
    (record { parent = p; side = b; node = s; parent_generation = z.0; generation = z.1; left = n2; right = n3 })) v4)
    (λ i. (sym first i, sym second i))
    (passes (passes (passes (passes a refl t0) refl t1) refl t2) refl t3)

-- The walk.
pub first_walk : {k : Shape} {op : Op} {kept : ℕ} {v : View} (d : Node) → d.left ≢ 0 → d.right ≢ 0 → IsAt k op kept (past_right d) v
    → IsAt k op kept (at.SuccessorLeft d (walked_to d.node d.right)) v
first_walk d left right a = at_false _ (ap (λ z. z || (d.right == 0)) (ne_eqb d.left 0 left)
    ∙ ne_eqb d.right 0 right) a

pub no_walk : {k : Shape} {op : Op} {kept : ℕ} {v : View} (d : Node) → ((d.left == 0) || (d.right == 0)) ≡ true
    → IsAt k op kept (past_right d) v → IsAt k op kept (at.Leave (next.Delete (record { node = d; successor = None }))) v
no_walk d few a = at_true _ few a

pub slot_fits : {k : Shape} {op : Op} {kept : ℕ} {v : View} (d : Node) (u : Successor) → IsAt k op kept (at.SuccessorLeft d u) v
    → StoodInside k v → u.slot < 4294967296
slot_fits d u a inside =
    let p = (a.fits.point).2 in
    (inside.stood p.section u.slot p.is (((p.known).1).1).slot_stood).fits

pub record Walks (k : Shape) (d : Node) (parent slot : ℕ) (v w : View) : Type 0 where
  pub at : Comes k (at.SuccessorLeft d (walked_to d.node d.right)) v (at.SuccessorLeft d (walked_to parent slot)) w
  pub inside : StoodInside k w
  pub same : OnlyLoads v w

pub walks_first : (k : Shape) (d : Node) (v : View) → StoodInside k v → Walks k d d.node d.right v v
walks_first k d v inside = record { at = λ op kept a. a; inside = inside; same = loads_self v }

pub needs_walk : (k : Shape) (d : Node) (parent slot : ℕ) (v w : View) → StandsAt k (at.SuccessorLeft d (walked_to d.node d.right)) v
    → Walks k d parent slot v w → IsAsked k w (acts.SearchLoad slot (part.Link Left))
needs_walk k d parent slot v w a i = needs (i.at a.0 a.1 a.2) refl

pub walks_to : {k : Shape} {op : Op} {kept n : ℕ} {w x : View} (d : Node) (parent slot : ℕ) → n ≢ 0
    → IsAt k op kept (at.SuccessorLeft d (walked_to parent slot)) w → Told k w (acts.SearchLoad slot (part.Link Left)) n x
    → IsAt k op kept (at.SuccessorLeft d (walked_to slot n)) x
walks_to {n = n} d parent slot some a told = at_false _ (ne_eqb n 0 some) (passes a refl told)

pub walks_on : (k : Shape) (d : Node) (parent slot n : ℕ) (v w x : View) → n ≢ 0 → Walks k d parent slot v w
    → Told k w (acts.SearchLoad slot (part.Link Left)) n x → Walks k d slot n v x
walks_on k d parent slot n v w x some i told = record {
  at = λ op kept a. walks_to d parent slot some (i.at op kept a) told;
  inside = told.stood;
  same = loads_on v w x i.same (loads_search_load k w x _ _ _ told);
}

pub walk_fits : (k : Shape) (d : Node) (parent slot n : ℕ) (v w x : View) → StandsAt k (at.SuccessorLeft d (walked_to d.node d.right)) v
    → n ≢ 0 → Walks k d parent slot v w → Told k w (acts.SearchLoad slot (part.Link Left)) n x → n < 4294967296
walk_fits k d parent slot n v w x a some i told =
    slot_fits d (walked_to slot n) (walks_to d parent slot some (i.at a.0 a.1 a.2) told) told.stood

-- a walk that goes on stands at a slot more
walk_met : {k : Shape} {op : Op} {kept n : ℕ} {w x : View} (d : Node) (parent slot : ℕ) → n ≢ 0
    → IsAt k op kept (at.SuccessorLeft d (walked_to parent slot)) w → Told k w (acts.SearchLoad slot (part.Link Left)) n x
    → slots_met x ≡ slots_met w + 1
walk_met {k} {op} {kept} {n} {w} {x} d parent slot some a told =
    let p = (a.fits.point).2 in
    let r : Reading = record p.section.reading
    { loads = record { field = Link slot Left; number = n; stored = false } ∷ p.section.reading.loads } in
    let there = ap slots_met (told.goes
    ∙ ap (λ z. after_search_load (noted w (acts.SearchLoad slot (part.Link Left)) n) z (Link slot Left) n) (section_is w p.section p.is))
    ∙ ap (λ z. length (searched r z (Link slot Left) n).stood) p.stands.state_is
    ∙ ap (λ z. length (walked r d.node z slot Left n).stood) (((p.known).1).1).walk
    ∙ ap (λ z. length (cond z (walking r slot n) r).stood)
    (ap (λ z. z && not (n == 0)) (eq-eqb slot slot refl) ∙ ap not (ne_eqb n 0 some)) in
    let here = ap slots_in p.is in
    omega (arith, there, here)

-- So it comes to an end.
pub walk_further : (k : Shape) (d : Node) (parent slot n : ℕ) (v w x : View)
    → StandsAt k (at.SuccessorLeft d (walked_to d.node d.right)) v
    → n ≢ 0 → Walks k d parent slot v w → Told k w (acts.SearchLoad slot (part.Link Left)) n x
    → (slots_met x ≡ slots_met w + 1) × (slots_met x ≤ slot_count k)
walk_further k d parent slot n v w x a some i told =
    let on = walks_to d parent slot some (i.at a.0 a.1 a.2) told in
    let p = (on.fits.point).2 in
    let few = (told.stood.few p.section p.is).inside in
    let here = ap slots_in p.is in
    (walk_met d parent slot some (i.at a.0 a.1 a.2) told, omega (arith, few, here))

pub walk_ends : (k : Shape) (d : Node) (parent slot n : ℕ) (v w x : View) → n ≡ 0 → Walks k d parent slot v w
    → Told k w (acts.SearchLoad slot (part.Link Left)) n x
    → Comes k (at.SuccessorLeft d (walked_to d.node d.right)) v (past_left d (walked_to parent slot) 0) x × OnlyLoads v x
walk_ends k d parent slot n v w x none i told = (
  λ op kept a. subst (λ z. IsAt k op kept (past_left d (walked_to parent slot) z) x) none (passes (i.at op kept a) refl told),
  loads_on v w x i.same (loads_search_load k w x _ _ _ told),
)

-- The generations of the successor and of its parent.
pub at_node : {k : Shape} {op : Op} {kept : ℕ} {v : View} (d : Node) (parent slot : ℕ) → parent ≡ d.node
    → IsAt k op kept (past_left d (walked_to parent slot) 0) v → IsAt k op kept (at.SuccessorLife d (walked_to parent slot)) v
at_node d parent slot same a = at_true _ (eq-eqb parent d.node same) a

pub at_other : {k : Shape} {op : Op} {kept : ℕ} {v : View} (d : Node) (parent slot : ℕ) → parent ≢ d.node
    → IsAt k op kept (past_left d (walked_to parent slot) 0) v → IsAt k op kept (at.SuccessorParentLife d (walked_to parent slot)) v
at_other d parent slot other a = at_false _ (ne_eqb parent d.node other) a

pub above_loaded : {k : Shape} {op : Op} {kept n : ℕ} {v w : View} (d : Node) (parent slot g : ℕ) → g ≡ n / 2
    → IsAt k op kept (at.SuccessorParentLife d (walked_to parent slot)) v → Told k v (acts.SearchLoad parent part.Life) n w
    → IsAt k op kept (at.SuccessorLife d (record { parent = parent; slot = slot; parent_generation = g; generation = 0 })) w
above_loaded {k} {op} {kept} {n} {v} {w} d parent slot g e a told =
    subst (λ z. IsAt k op kept (at.SuccessorLife d (record { parent = parent; slot = slot; parent_generation = z; generation = 0 })) w)
    (sym e) (passes a refl told)

pub successor_loaded : {k : Shape} {op : Op} {kept n : ℕ} {v w : View} (d : Node) (parent slot above g : ℕ) → g ≡ n / 2
    → IsAt k op kept (at.SuccessorLife d (record { parent = parent; slot = slot; parent_generation = above; generation = 0 })) v
    → Told k v (acts.SearchLoad slot part.Life) n w
    → IsAt k op kept (at.Leave (next.Delete (record
    { node = d; successor = Some (record { parent = parent; slot = slot; parent_generation = above; generation = g }) }))) w
successor_loaded {k} {op} {kept} {n} {v} {w} d parent slot above g e a told =
    subst (λ z. IsAt k op kept (at.Leave (next.Delete
    (record { node = d; successor = Some (record { parent = parent; slot = slot; parent_generation = above; generation = z }) }))) w)
    (sym e) (passes a refl told)

-- The locks of a delete, got in order and given up in the other order.

-- Before any step nothing changed.
pub rest_none : (v : View) → KeepsRest v v
rest_none v = record {
  advanced = advanced_none (no_further v v refl) (record { rest = refl }) refl;
  waits = record { wait = refl; count = refl };
  retired = refl;
  stay = refl;
}

-- Giving up: so many locks are left.
pub record GivesUp (k : Shape) (t : Target) (count left : ℕ) (v w : View) : Type 0 where
  pub at : Comes k (giving_up count) v (giving_up left) w
  pub locked : HasLocks (first_locks t left) w
  pub rest : KeepsRest v w

pub gives_none : (k : Shape) (t : Target) (count : ℕ) (v : View) → HasLocks (first_locks t count) v → GivesUp k t count count v v
gives_none k t count v locked = record { at = λ op kept a. a; locked = locked; rest = rest_none v }

giving_some : (m : ℕ) → giving_up (suc m) ≡ at.Unlock last.Again
giving_some m = ap (λ z. cond z at.EnterClock (at.Unlock last.Again)) (ne_eqb (suc m) 0 (λ e. omega arith))

pub giving_is : (count m : ℕ) → count ≡ suc m → giving_up count ≡ at.Unlock last.Again
giving_is count m e = ap giving_up e ∙ giving_some m

unlocking : {k : Shape} {op : Op} {kept : ℕ} {w : View} (left m : ℕ) → left ≡ suc m → IsAt k op kept (giving_up left) w
    → IsAt k op kept (at.Unlock last.Again) w
unlocking {k} {op} {kept} {w} left m e a = subst (λ s. IsAt k op kept s w) (giving_is left m e) a

has_next : (t : Target) (left m : ℕ) (w : View) → left ≡ suc m → HasLocks (first_locks t left) w
    → HasLocks (target_lock t m ∷ first_locks t m) w
has_next t left m w e has = subst (λ x. HasLocks (first_locks t x) w) e has

pub needs_give : (k : Shape) (t : Target) (count left m : ℕ) (v w : View) → StandsAt k (giving_up count) v → left ≡ suc m
    → GivesUp k t count left v w → IsAsked k w (acts.Unlock (target_lock t m))
needs_give k t count left m v w a e g = needs_unlock (has_next t left m w e g.locked) (unlocking left m e (g.at a.0 a.1 a.2))

clock_locks : {k : Shape} {op : Op} {kept : ℕ} {w : View} → IsAt k op kept at.EnterClock w → HasLocks [] w
clock_locks a = let bare = a.fits.point.1.bare in
    record { same = λ s. ap (λ (ls : List HeldLock). times s (map (λ (l : HeldLock). l.slot) ls)) bare.locks_are }

pub gives_on : (k : Shape) (t : Target) (count left m n : ℕ) (v w x : View) → StandsAt k (giving_up count) v → left ≡ suc m
    → GivesUp k t count left v w → Told k w (acts.Unlock (target_lock t m)) n x → GivesUp k t count m v x
gives_on k t count left zero n v w x a e g told = record {
  at = λ op kept b. passes_unlock_again (has_next t left zero w e g.locked) (unlocking left zero e (g.at op kept b)) told;
  locked = clock_locks (passes_unlock_again (has_next t left zero w e g.locked) (unlocking left zero e (g.at a.0 a.1 a.2)) told);
  rest = keeps_rest v w x g.rest (rest_unlock k w x _ _ told);
}
gives_on k t count left (suc m) n v w x a e g told = record {
  at = λ op kept b. subst (λ s. IsAt k op kept s x) (sym (giving_some m))
      (passes_unlock (has_next t left (suc m) w e g.locked) (unlocking left (suc m) e (g.at op kept b)) told).0;
  locked = (passes_unlock (has_next t left (suc m) w e g.locked) (unlocking left (suc m) e (g.at a.0 a.1 a.2)) told).1;
  rest = keeps_rest v w x g.rest (rest_unlock k w x _ _ told);
}

-- Getting them: where the call goes on with so many.
abbrev pub locking : Target → ℕ → Stage
locking t i = if i == target_locks t then at.TargetLoad t 0 nothing_found else at.TargetLock t i

pub record Gets (k : Shape) (t : Target) (i : ℕ) (v w : View) : Type 0 where
  pub at : Comes k (at.TargetLock t 0) v (locking t i) w
  pub rest : KeepsRest v w

some_locks : (t : Target) → 2 ≤ target_locks t
some_locks t = by t.successor
  where
    by : (o : Option Successor) → 2 ≤ elim o as (λ _. ℕ) [ None ↦ 2 | Some u ↦ if u.parent == t.node.node then 3 else 4 ]
    by None = omega arith
    by (Some u) = elim (u.parent == t.node.node) as (λ b. 2 ≤ cond b 3 4) [ true ↦ omega arith | false ↦ omega arith ]

pub gets_none : (k : Shape) (t : Target) (v : View) → Gets k t 0 v v
gets_none k t v = record {
  at = λ op kept a. subst (λ s. IsAt k op kept s v) (sym first) a;
  rest = rest_none v;
}
  where
    first : locking t 0 ≡ at.TargetLock t 0
    first = ap (λ z. cond z (at.TargetLoad t 0 nothing_found) (at.TargetLock t 0))
        (ne_eqb 0 (target_locks t) (λ e. (let s = some_locks t in omega arith)))

to_lock : {k : Shape} {op : Op} {kept : ℕ} {w : View} (t : Target) (i : ℕ) → i < target_locks t → IsAt k op kept (locking t i) w
    → IsAt k op kept (at.TargetLock t i) w
to_lock t i lt a = at_false _ (ne_eqb i (target_locks t) (λ e. omega arith)) a

pub needs_get : (k : Shape) (t : Target) (i : ℕ) (v w : View) → StandsAt k (at.TargetLock t 0) v → i < target_locks t → Gets k t i v w
    → IsAsked k w (acts.Lock (target_lock t i))
needs_get k t i v w a lt g = needs (to_lock t i lt (g.at a.0 a.1 a.2)) refl

pub gets_on : (k : Shape) (t : Target) (i n : ℕ) (v w x : View) → i < target_locks t → Gets k t i v w → n ≡ 0
    → Told k w (acts.Lock (target_lock t i)) n x → Gets k t (i + 1) v x
gets_on k t i n v w x lt g free told = record {
  at = λ op kept a. passes_target_lock_free free (to_lock t i lt (g.at op kept a)) told;
  rest = keeps_rest v w x g.rest (rest_lock k w x _ _ told);
}

-- Where one is found taken, those before it are given up.
busy_at : {k : Shape} {op : Op} {kept : ℕ} {w x : View} (t : Target) (i n : ℕ) → n ≢ 0 → IsAt k op kept (at.TargetLock t i) w
    → Told k w (acts.Lock (target_lock t i)) n x → IsAt k op kept (giving_up i) x
busy_at t zero n busy a told = passes_target_lock_first busy a told
busy_at {k} {op} {kept} {w} {x} t (suc i) n busy a told =
    subst (λ s. IsAt k op kept s x) (sym (giving_some i)) (passes_target_lock_busy (suc i) (omega arith) busy a told)

pub gets_busy : (k : Shape) (t : Target) (i n : ℕ) (v w x : View) → i < target_locks t → Gets k t i v w → n ≢ 0
    → Told k w (acts.Lock (target_lock t i)) n x → Comes k (at.TargetLock t 0) v (giving_up i) x
gets_busy k t i n v w x lt g busy told = λ op kept a. busy_at t i n busy (to_lock t i lt (g.at op kept a)) told

pub busy_locks : (k : Shape) (t : Target) (i n : ℕ) (v w x : View) → StandsAt k (at.TargetLock t 0) v → i < target_locks t → Gets k t i v w
    → n ≢ 0 → Told k w (acts.Lock (target_lock t i)) n x → HasLocks (first_locks t i) x
busy_locks k t i n v w x a lt g busy told = record {
  same =
      subst (λ ls. SameLocks (first_locks t i) ls) (sym (locks_busy k w x _ n busy told))
      (locks_target_lock (to_lock t i lt (g.at a.0 a.1 a.2))).same;
}

pub all_got : {k : Shape} {op : Op} {kept : ℕ} {w : View} (t : Target) (i : ℕ) → i ≡ target_locks t → IsAt k op kept (locking t i) w
    → IsAt k op kept (at.TargetLoad t 0 nothing_found) w
all_got {k} {op} {kept} {w} t i e a = subst (λ z. IsAt k op kept (cond z (at.TargetLoad t 0 nothing_found) (at.TargetLock t i)) w)
    (eq-eqb i (target_locks t) e) a

-- Numbers.
pub one_left : (count done : ℕ) → done < count → count - done ≡ suc (count - 1 - done)
one_left count done lt = omega arith

pub below_end : (i end locks : ℕ) → i < end → end ≡ locks → i < locks
below_end i end locks lt e = omega arith

pub at_last_lock : (i end locks : ℕ) → end ≤ i → end ≡ locks → i ≤ locks → i ≡ locks
at_last_lock i end locks ge e le = omega arith

-- What a delete loads under its locks, word by word.

-- The words of the node and its parent come one after another.
next_0 : (d : Node) (o : Option Successor) (f : Found)
    → past_target_load (record { node = d; successor = o }) 0 f ≡ at.TargetLoad (record { node = d; successor = o }) 1 f
next_0 d None f = refl
next_0 d (Some u) f = refl

next_1 : (d : Node) (o : Option Successor) (f : Found)
    → past_target_load (record { node = d; successor = o }) 1 f ≡ at.TargetLoad (record { node = d; successor = o }) 2 f
next_1 d None f = refl
next_1 d (Some u) f = refl

next_2 : (d : Node) (o : Option Successor) (f : Found)
    → past_target_load (record { node = d; successor = o }) 2 f ≡ at.TargetLoad (record { node = d; successor = o }) 3 f
next_2 d None f = refl
next_2 d (Some u) f = refl

next_3 : (d : Node) (o : Option Successor) (f : Found)
    → past_target_load (record { node = d; successor = o }) 3 f ≡ at.TargetLoad (record { node = d; successor = o }) 4 f
next_3 d None f = refl
next_3 d (Some u) f = refl

pub load_0 : {k : Shape} {op : Op} {kept n : ℕ} {v w : View} (t : Target) (f : Found) → IsAt k op kept (at.TargetLoad t 0 f) v
    → Told k v (acts.LockedLoad t.node.parent part.Life) n w → IsAt k op kept (at.TargetLoad t 1 (with_found f 0 n)) w
load_0 {k} {op} {kept} {n} {v} {w} t f a told =
    subst (λ s. IsAt k op kept s w) (next_0 t.node t.successor (with_found f 0 n)) (passes a refl told)

pub load_1 : {k : Shape} {op : Op} {kept n : ℕ} {v w : View} (t : Target) (f : Found) → IsAt k op kept (at.TargetLoad t 1 f) v
    → Told k v (acts.LockedLoad t.node.parent (part.Link t.node.side)) n w → IsAt k op kept (at.TargetLoad t 2 (with_found f 1 n)) w
load_1 {k} {op} {kept} {n} {v} {w} t f a told =
    subst (λ s. IsAt k op kept s w) (next_1 t.node t.successor (with_found f 1 n)) (passes a refl told)

pub load_2 : {k : Shape} {op : Op} {kept n : ℕ} {v w : View} (t : Target) (f : Found) → IsAt k op kept (at.TargetLoad t 2 f) v
    → Told k v (acts.LockedLoad t.node.node part.Life) n w → IsAt k op kept (at.TargetLoad t 3 (with_found f 2 n)) w
load_2 {k} {op} {kept} {n} {v} {w} t f a told =
    subst (λ s. IsAt k op kept s w) (next_2 t.node t.successor (with_found f 2 n)) (passes a refl told)

pub load_3 : {k : Shape} {op : Op} {kept n : ℕ} {v w : View} (t : Target) (f : Found) → IsAt k op kept (at.TargetLoad t 3 f) v
    → Told k v (acts.LockedLoad t.node.node (part.Link Left)) n w → IsAt k op kept (at.TargetLoad t 4 (with_found f 3 n)) w
load_3 {k} {op} {kept} {n} {v} {w} t f a told =
    subst (λ s. IsAt k op kept s w) (next_3 t.node t.successor (with_found f 3 n)) (passes a refl told)

-- Those of the successor: where the node is its parent, the life of that parent is left out.
pub to_link : {k : Shape} {op : Op} {kept : ℕ} {v : View} (d : Node) (u : Successor) (f : Found) → u.parent ≡ d.node
    → IsAt k op kept (past_target_load (two_children d u) 4 f) v → IsAt k op kept (at.TargetLoad (two_children d u) 6 f) v
to_link d u f same a = at_true _ (eq-eqb u.parent d.node same) a

pub to_parent : {k : Shape} {op : Op} {kept : ℕ} {v : View} (d : Node) (u : Successor) (f : Found) → u.parent ≢ d.node
    → IsAt k op kept (past_target_load (two_children d u) 4 f) v → IsAt k op kept (at.TargetLoad (two_children d u) 5 f) v
to_parent d u f other a = at_false _ (ne_eqb u.parent d.node other) a

abbrev link_part : Bool → Part
link_part z = cond z (part.Link Right) (part.Link Left)

pub needs_link_right : {k : Shape} {op : Op} {kept : ℕ} {v : View} (d : Node) (u : Successor) (f : Found) → u.parent ≡ d.node
    → IsAt k op kept (at.TargetLoad (two_children d u) 6 f) v → IsAsked k v (acts.LockedLoad u.parent (part.Link Right))
needs_link_right {k} {op} {kept} {v} d u f same a =
    subst (λ z. IsAsked k v (acts.LockedLoad u.parent (link_part z))) (eq-eqb u.parent d.node same) (needs a refl)

pub load_link_right : {k : Shape} {op : Op} {kept n : ℕ} {v w : View} (d : Node) (u : Successor) (f : Found) → u.parent ≡ d.node
    → IsAt k op kept (at.TargetLoad (two_children d u) 6 f) v → Told k v (acts.LockedLoad u.parent (part.Link Right)) n w
    → IsAt k op kept (at.TargetLoad (two_children d u) 7 (with_found f 6 n)) w
load_link_right {k} {op} {kept} {n} {v} {w} d u f same a told =
    passes a refl (subst (λ z. Told k v (acts.LockedLoad u.parent (link_part z)) n w) (sym (eq-eqb u.parent d.node same)) told)

pub needs_link_left : {k : Shape} {op : Op} {kept : ℕ} {v : View} (d : Node) (u : Successor) (f : Found) → u.parent ≢ d.node
    → IsAt k op kept (at.TargetLoad (two_children d u) 6 f) v → IsAsked k v (acts.LockedLoad u.parent (part.Link Left))
needs_link_left {k} {op} {kept} {v} d u f other a =
    subst (λ z. IsAsked k v (acts.LockedLoad u.parent (link_part z))) (ne_eqb u.parent d.node other) (needs a refl)

pub load_link_left : {k : Shape} {op : Op} {kept n : ℕ} {v w : View} (d : Node) (u : Successor) (f : Found) → u.parent ≢ d.node
    → IsAt k op kept (at.TargetLoad (two_children d u) 6 f) v → Told k v (acts.LockedLoad u.parent (part.Link Left)) n w
    → IsAt k op kept (at.TargetLoad (two_children d u) 7 (with_found f 6 n)) w
load_link_left {k} {op} {kept} {n} {v} {w} d u f other a told =
    passes a refl (subst (λ z. Told k v (acts.LockedLoad u.parent (link_part z)) n w) (sym (ne_eqb u.parent d.node other)) told)

-- A target that holds has lives that were loaded, so they fit a word.
pub small_lives : (t : Target) (f : Found) → target_holds t f ≡ true → f.life < 2 ^ 64 → f.successor_life < 2 ^ 64
    → AreLivesSmall t.node t.successor
small_lives t f holds life old =
    let a = both_true (f.parent_life == 2 * t.node.parent_generation) _ holds in
    let b = both_true (f.link == t.node.node) _ a.1 in
    let c = both_true (f.life == 2 * t.node.generation) (successor_holds t.node t.successor f) b.1 in
    by t.successor c.1 (subst (λ x. x < 2 ^ 64) (eqb-true f.life (2 * t.node.generation) c.0) life)
  where
    by : (o : Option Successor) → successor_holds t.node o f ≡ true → 2 * t.node.generation < 2 ^ 64 → AreLivesSmall t.node o
    by None few small = small
    by (Some u) both small =
        let a = both_true _ _ both in
        let b = both_true _ _ a.1 in
        let c = both_true (f.successor_link == u.slot) _ b.1 in
        let d = both_true (f.successor_life == 2 * u.generation) (f.successor_left == 0) c.1 in
        (small, subst (λ x. x < 2 ^ 64) (eqb-true f.successor_life (2 * u.generation) d.0) old)

-- a target with a successor
pub as_two : (t : Target) (u : Successor) → t.successor ≡ Some u → t ≡ two_children t.node u
as_two t u e = ap (λ o. record { node = t.node; successor = o }) e

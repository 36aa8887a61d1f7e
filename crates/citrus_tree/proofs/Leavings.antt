-- What all calls share: what their steps leave of marks, slots and waits, how they begin, and the front made odd and even.
use Rattle.std.proofs.Common.{◌≡◌, ℕ, ◌+◌, ◌==◌, cond, Bool, true, false, List, [], ◌∷◌, ◌++◌, length, Option, None, refl, sym, ap, subst, ◌∙◌, append_assoc, append-nil, arith, eq-eqb, ◌≢◌, ◌%◌, ◌/◌, Some, ne_eqb, ◌<◌, map, ◌≤◌, inl, inr, ⊎_elim, ◌⊎◌}
use mathlib.Core.List.{IsPrefix}
use Rattle.prcu_marks.specs.declared.mark.Mark.{Mark}
use Rattle.prcu_marks.specs.declared.mark.Mark.TheVariants.{Entered, Left as LeftMark}
use Rattle.prcu_marks.specs.Callers.{entered_for}
use Rattle.prcu_marks.specs.Marks.{updates_of, own_of}
use Rattle.prcu_marks.proofs.Marks.{own_of-append, updates_of-append, entered_for-append}
use Rattle.prcu_model.specs.Dictionary.{WasSaid}
use Rattle.prcu_model.proofs.ListFacts.{prefix_trans}
use Rattle.core_state.specs.declared.shape.Shape.{Shape}
use Rattle.core_state.specs.declared.view.Reading.{Reading}
use Rattle.core_state.specs.declared.view.View.{View}
use Rattle.core_state.specs.declared.words.Kind.{Kind}
use Rattle.core_frames.proofs.Roles.{works_there}
use Rattle.core_state.specs.declared.act.Part.{Part}
use Rattle.seat_table.specs.Gains.{Sees, Told, IsAsked}
use Rattle.seat_table.specs.Sections.{Makes, HasStepped}
use Rattle.core_state.specs.declared.view.HeldLock.{HeldLock}
use Rattle.tree_points.specs.Points.{HasAdvanced, HasLocks, IsAt, KeepsAllowance}
use Rattle.tree_points.proofs.Locks.{allowed, locks_from, further_by, advanced_none, advanced_on, advanced_stays, advanced_same, stays, further, no_further, allowed_on}
use Rattle.citrus_tree.specs.Going.{Goes, LosesFront, Opened, Closed, KeepsSlots, retired_marks, HasBegunFirst, HasBegunNone, KeepsWait, MakesRoom, Reused, TakesSlot, KeepsSeat, KeepsSeatBy, KeepsSlotsBy, GivesNoneBack, RetiresBehind}
use Rattle.citrus_tree.specs.Lookups.{Looked, IsSearching}
use Rattle.citrus_tree.specs.Replies.{WasAnswered}
use Rattle.prcu_model.specs.declared.operation.Op.{Op}
use Rattle.core_state.specs.Steps.{with_front, new_wait}
use Rattle.core_points.specs.declared.stage.Update.{Update}
use Rattle.core_points.specs.Programs.{past_even}
use Rattle.core_state.specs.Acts.{noted}
use Rattle.tree_points.proofs.Passing.{commits_any, passes}
use Rattle.tree_points.proofs.Updates.{passes_commit_made, passes_commit_again}
use Rattle.core_state.specs.declared.view.Retired.{Retired}
use Rattle.seat_table.specs.Seats.{SeatAt, AreListed, IsQuietSeat}
use Rattle.seat_table.specs.Waits.{HasWaited}
use Rattle.node_slots.specs.Reclaiming.{HasReclaimed}
use Rattle.citrus_tree.specs.Deletes.{HasSearched, KeepsRest, BeginsByLookup}
use Rattle.citrus_tree.specs.declared.insert.Reuse.{Reuse}
use Rattle.core_state.specs.declared.view.Waiting.{Waiting}
use Rattle.seat_table.proofs.SeveralSteps.{seen_more, enters_steps, makes_steps, prefix_steps, told_steps}
use Rattle.node_slots.proofs.Takes.{each_begins}
use Rattle.prcu_marks.specs.declared.mark.Side.{Side}
use Rattle.core_state.specs.declared.view.SearchState.{SearchState}
use Rattle.citrus_tree.specs.Hops.{LoadsLinks}
use Rattle.core_state.specs.declared.act.Act.TheVariants as acts
use Rattle.core_points.specs.declared.stage.Stage.TheVariants as at
use Rattle.core_state.specs.Views.{IsQuiet}
use Rattle.core_state.specs.declared.view.Allowance.{Allowance}
use Rattle.list_laws.specs.Counts.{times}

-- What steps and searches leave of marks, and what they leave alone.

-- the retired slots and the waits are the same
record Rest (v x : View) : Type 0 where
  retired : x.hands.retired ≡ v.hands.retired
  wait : x.wait ≡ v.wait
  waits : x.counts.waits ≡ v.counts.waits

rest_if : (z : Bool) (v x y : View) → Rest v x → Rest v y → Rest v (cond z x y)
rest_if true v x y a b = a
rest_if false v x y a b = b

with_rest : {v w : View} {marks : List Mark} → HasAdvanced v w marks → (x : View) → w ≡ x → Rest v x → Goes v w marks
with_rest advanced x e r = record {
  advanced = advanced;
  retired = ap (λ (z : View). z.hands.retired) e ∙ r.retired;
  wait = ap (λ (z : View). z.wait) e ∙ r.wait;
  waits = ap (λ (z : View). z.counts.waits) e ∙ r.waits;
}

pub goes_same : (v : View) → Goes v v []
goes_same v = record { advanced = advanced_same; retired = refl; wait = refl; waits = refl }

pub goes_on : {u v w : View} {first second : List Mark} → Goes u v first → Goes v w second → Goes u w (first ++ second)
goes_on a b = record { advanced = advanced_on a.advanced b.advanced; retired = b.retired ∙ a.retired; wait = b.wait ∙ a.wait; waits = b.waits ∙ a.waits }

pub goes_stays : {u v w : View} {first : List Mark} → Goes u v first → Goes v w [] → Goes u w first
goes_stays a b = record {
  advanced = advanced_stays a.advanced b.advanced;
  retired = b.retired ∙ a.retired;
  wait = b.wait ∙ a.wait;
  waits = b.waits ∙ a.waits;
}

pub goes_lock : {k : Shape} {v w : View} {n s : ℕ} → Told k v (acts.Lock s) n w → Goes v w []
goes_lock {k} {v} {w} {n} {s} t = with_rest (stays (acts.Lock s) refl t) _ t.goes
    (rest_if (n == 0) v _ _ (record { retired = refl; wait = refl; waits = refl }) (record { retired = refl; wait = refl; waits = refl }))

pub goes_load : {k : Shape} {v w : View} {n s : ℕ} {p : Part} → Told k v (acts.LockedLoad s p) n w → Goes v w []
goes_load {k} {v} {w} {n} {s} {p} t = with_rest (stays (acts.LockedLoad s p) refl t) _ t.goes
    (record { retired = refl; wait = refl; waits = refl })

pub goes_unlock : {k : Shape} {v w : View} {n s : ℕ} → Told k v (acts.Unlock s) n w → Goes v w []
goes_unlock {k} {v} {w} {n} {s} t = with_rest (stays (acts.Unlock s) refl t) _ t.goes (record { retired = refl; wait = refl; waits = refl })

pub goes_opened : {v w : View} {front : ℕ} → Opened v front w → Goes v w []
goes_opened e = with_rest (advanced_none e.steps (allowed e.rest refl) (ap (λ (z : View). z.seen) e.rest)) _ e.rest
    (record { retired = refl; wait = refl; waits = refl })

pub goes_closed : {v w : View} → Closed v w → Goes v w []
goes_closed e = with_rest (advanced_none e.steps (allowed e.rest refl) (ap (λ (z : View). z.seen) e.rest)) _ e.rest
    (record { retired = refl; wait = refl; waits = refl })

pub goes_lost : {v w : View} → LosesFront v w → Goes v w []
goes_lost e = with_rest (advanced_none e.steps (allowed e.rest refl) (ap (λ (z : View). z.seen) e.rest)) _ e.rest
    (record { retired = refl; wait = refl; waits = refl })

pub locks_lost : {v w : View} {slots : List ℕ} → LosesFront v w → HasLocks slots v → HasLocks slots w
locks_lost {v} {w} e = locks_from {v = v} {w = w} (ap (λ (z : View). map (λ (l : HeldLock). l.slot) z.locks) e.rest)

-- A section with the key was entered after these marks and left after those, with no mark of its place in between.
module _ (v w : View) (key : ℕ) (before until : List Mark)
    (within : IsPrefix (before ++ Entered v.allowance.place v.counts.sections key ∷ []) until)
    (between : own_of v.allowance.place until ≡ own_of v.allowance.place before ++ Entered v.allowance.place v.counts.sections key ∷ [])
    (seen : w.seen ≡ until ++ LeftMark v.allowance.place v.counts.sections ∷ []) where
  to_end : IsPrefix before w.seen
  to_end = subst (IsPrefix before) (sym seen)
      (prefix_trans before (before ++ Entered v.allowance.place v.counts.sections key
      ∷ []) _ (Entered v.allowance.place v.counts.sections key ∷ [], refl)
      (prefix_trans _ until _ within (LeftMark v.allowance.place v.counts.sections ∷ [], refl)))

  own_section : own_of v.allowance.place w.seen ≡ own_of v.allowance.place before
      ++ Entered v.allowance.place v.counts.sections key ∷ (LeftMark v.allowance.place v.counts.sections ∷ [])
  own_section =
      let p : ℕ = v.allowance.place in
      let e : Mark = Entered p v.counts.sections key in
      let m : Mark = LeftMark p v.counts.sections in
      let last : own_of p w.seen ≡ own_of p until ++ m ∷ [] =
      ap (own_of p) seen ∙ own_of-append p until (m ∷ []) ∙ ap (λ b. own_of p until ++ cond b (m ∷ []) []) (eq-eqb p p refl) in
      last ∙ ap (λ o. o ++ m ∷ []) between ∙ append_assoc (own_of p before) (e ∷ []) (m ∷ [])

  -- it left these two, and changed nothing else
  pub goes_section : {which : Kind → Bool} {r : Reading} → Sees v before → Makes which v.trail w.trail
      → w ≡ record v {
        enter = w.enter;
        section = None;
        records = r ∷ v.records;
        counts = record v.counts { sections = v.counts.sections + 1 };
        trail = w.trail;
        seen = w.seen;
      }
      → Goes v w (Entered v.allowance.place v.counts.sections key ∷ (LeftMark v.allowance.place v.counts.sections ∷ []))
  goes_section sees made others =
      let p : ℕ = v.allowance.place in
      let same : own_of p v.seen ≡ own_of p before = sees.own p (works_there v sees.works) in
      with_rest
      (record {
        steps = further_by v w _ made.trail refl;
        same = ap (λ (z : View). z.allowance.place) others;
        allowance = allowed others refl;
        begins = prefix_trans v.seen before w.seen sees.begins to_end;
        own = own_section ∙ ap (λ o. o ++ Entered p v.counts.sections key ∷ (LeftMark p v.counts.sections ∷ [])) (sym same);
      })
      _ others (record { retired = refl; wait = refl; waits = refl })

module _ {v w : View} {key : ℕ} {answer : Option ℕ} (l : Looked v key answer w) where
  pub goes_looked : Goes v w (Entered v.allowance.place v.counts.sections key ∷ (LeftMark v.allowance.place v.counts.sections ∷ []))
  goes_looked = goes_section v w key l.before l.until l.within l.between l.seen l.sees l.made l.others

  pub was_answered : {u : View} {marks : List Mark} → HasAdvanced u v marks → WasAnswered u key answer w
  was_answered {u} g = record {
    count = v.counts.sections;
    before = l.before;
    until = l.until;
    since = prefix_trans u.seen v.seen l.before g.begins l.sees.begins;
    within = subst (λ p. IsPrefix (l.before ++ Entered p v.counts.sections key ∷ []) l.until) g.same l.within;
    seen = subst (λ p. IsPrefix (l.until ++ LeftMark p v.counts.sections ∷ []) w.seen) g.same
        ([], append-nil (l.until ++ LeftMark v.allowance.place v.counts.sections ∷ []) ∙ sym l.seen);
    more = [];
    own = subst (λ p. own_of p w.seen ≡ own_of p l.before
        ++ Entered p v.counts.sections key ∷ (LeftMark p v.counts.sections ∷ [])) g.same
        (own_section v w key l.before l.until l.within l.between l.seen);
    last = refl;
    said = subst (λ us. WasSaid us key (length (updates_of l.before)) answer)
        (ap updates_of l.seen ∙ updates_of-append l.until (LeftMark v.allowance.place v.counts.sections ∷ [])
        ∙ append-nil (updates_of l.until)) l.said;
  }

-- An answer stays one where the place enters no further section with the key.
pub answered_on : {u v w : View} {key : ℕ} {answer : Option ℕ} {first later : List Mark} → HasAdvanced u v first → WasAnswered u key answer v
    → HasAdvanced v w later → entered_for u.allowance.place key later ≡ 0 → WasAnswered u key answer w
answered_on {u} {v} {w} {key} {later = later} g a n none = record {
  count = a.count;
  before = a.before;
  until = a.until;
  since = a.since;
  within = a.within;
  seen = prefix_trans (a.until ++ LeftMark u.allowance.place a.count ∷ []) v.seen w.seen a.seen n.begins;
  more = a.more ++ later;
  own =
      let p : ℕ = u.allowance.place in
      let after : own_of p w.seen ≡ own_of p v.seen ++ later = subst (λ q. own_of q w.seen ≡ own_of q v.seen ++ later) g.same n.own in
      after ∙ ap (λ o. o ++ later) a.own ∙ append_assoc (own_of p a.before) (Entered p a.count key ∷ (LeftMark p a.count ∷ a.more)) later;
  last = (let split = entered_for-append u.allowance.place key a.more later in let first = a.last in omega arith);
  said = a.said;
}

-- The front made odd and even.

pub tried_none : (v : View) → LosesFront v v
tried_none v = record { steps = no_further v v refl; rest = refl }

module _ (k : Shape) (v w : View) (t : LosesFront v w) where
  pub may_open : (expected : ℕ) → expected % 2 ≡ 0 → v.moving ≡ None → v.commit ≡ None → IsAsked k w (acts.OpenCommit expected)
  may_open expected even settled paid = λ now. (
    tt,
    record { even = even; settled = ap (λ (z : View). z.moving) t.rest ∙ settled; paid = ap (λ (z : View). z.commit) t.rest ∙ paid },
  )

  module _ (expected found : ℕ) (x : View) (told : Told k w (acts.OpenCommit expected) found x) where
    pub opens : found ≡ expected → Opened v found x
    opens same =
        let u : View = noted w (acts.OpenCommit expected) found in
        let goes : x ≡ record (with_front u (expected + 1)) { commit = Some (record { found = expected; stored = false }) } =
        told.goes ∙ ap (λ z. cond z (record (with_front u (expected + 1)) { commit = Some (record { found = expected; stored = false }) })
        (with_front u found)) (eq-eqb found expected same) in
        let latest = ap (λ (z : View). z.latest) goes in
        let trail = ap (λ (z : View). z.trail) goes in
        record {
          steps = prefix_trans v.trail.steps w.trail.steps x.trail.steps t.steps (further w _ goes refl);
          rest = goes ∙ (λ i. record (t.rest i) {
            commit = Some (record { found = (sym same) i; stored = false });
            latest = (sym latest) i;
            trail = (sym trail) i;
          });
        }

    pub tries : found ≢ expected → LosesFront v x
    tries other =
        let u : View = noted w (acts.OpenCommit expected) found in
        let goes : x ≡ with_front u found =
        told.goes ∙ ap (λ z. cond z (record (with_front u (expected + 1)) { commit = Some (record { found = expected; stored = false }) })
        (with_front u found)) (ne_eqb found expected other) in
        let latest = ap (λ (z : View). z.latest) goes in
        let trail = ap (λ (z : View). z.trail) goes in
        record {
          steps = prefix_trans v.trail.steps w.trail.steps x.trail.steps t.steps (further w _ goes refl);
          rest = goes ∙ (λ i. record (t.rest i) { latest = (sym latest) i; trail = (sym trail) i });
        }

    pub opens_at : found ≡ expected → ((op : Op) (kept e : ℕ) (u : Update) → IsAt k op kept (at.Commit u e) v
        → IsAt k op kept (at.Commit u expected) w)
        → (op : Op) (kept e : ℕ) (u : Update) → IsAt k op kept (at.Commit u e) v → IsAt k op kept (at.Store u found) x
    opens_at same go op kept e u a = subst (λ n. IsAt k op kept (at.Store u n) x) (sym same)
        (passes_commit_made same (go op kept e u a) told)

    pub tries_at : found ≢ expected → (next : ℕ) → next % 2 ≡ 0
        → ((op : Op) (kept e : ℕ) (u : Update) → IsAt k op kept (at.Commit u e) v → IsAt k op kept (at.Commit u expected) w)
        → (op : Op) (kept e : ℕ) (u : Update) → IsAt k op kept (at.Commit u e) v → IsAt k op kept (at.Commit u next) x
    tries_at other next even go op kept e u a = passes_commit_again other (go op kept e u a) told next even

pub any_begins : (k : Shape) (v : View) (expected : ℕ) → expected % 2 ≡ 0 → (op : Op) (kept e : ℕ) (u : Update)
    → IsAt k op kept (at.Commit u e) v → IsAt k op kept (at.Commit u expected) v
any_begins k v expected even op kept e u a = commits_any a expected even

module _ (k : Shape) (v w : View) (front : ℕ) where
  pub closes : Told k v (acts.CloseCommit (front + 2)) (front + 2) w → Closed v w
  closes told = let latest = ap (λ (z : View). z.latest) told.goes in let trail = ap (λ (z : View). z.trail) told.goes in
      record {
        steps = further v _ told.goes refl;
        rest = told.goes ∙ (λ i. record v { commit = None; latest = (sym latest) i; trail = (sym trail) i });
      }

  pub closes_at : Told k v (acts.CloseCommit (front + 2)) (front + 2) w → (op : Op) (kept : ℕ) (u : Update)
      → IsAt k op kept (at.Even u front) v → IsAt k op kept (past_even u ((front + 2) / 2)) w
  closes_at told op kept u a = passes a refl told

-- What calls leave of the slots that a place has retired, one after another.

-- nothing is changed, or slots are retired and listed
pub slots_more : (s t : SeatAt) (more : List (ℕ × ℕ × Bool)) (later : List ℕ) → t.view.counts.waits ≡ s.view.counts.waits
    → t.view.wait ≡ s.view.wait → retired_marks t.view ≡ retired_marks s.view ++ more → t.listed ≡ s.listed ++ later → KeepsSlots s t
slots_more s t more later waits wait stay listed =
    record { waits = omega arith; wait = λ _. wait; slots = λ _. record { retired = (more, stay); listed = (later, listed) } }

pub slots_same : (s t : SeatAt) → t.view.counts.waits ≡ s.view.counts.waits → t.view.wait ≡ s.view.wait
    → retired_marks t.view ≡ retired_marks s.view → t.listed ≡ s.listed → KeepsSlots s t
slots_same s t waits wait stay listed = slots_more s t [] [] waits wait (stay ∙ sym (append-nil (retired_marks s.view)))
    (listed ∙ sym (append-nil s.listed))

pub slots_self : (s : SeatAt) → KeepsSlots s s
slots_self s = slots_same s s refl refl refl refl

pub slots_rest : (s t : SeatAt) → KeepsRest s.view t.view → t.listed ≡ s.listed → KeepsSlots s t
slots_rest s t rest listed = slots_same s t rest.waits.count rest.waits.wait rest.stay listed

pub slots_searched : (s t : SeatAt) (key : ℕ) → HasSearched s.view key t.view → t.listed ≡ s.listed → KeepsSlots s t
slots_searched s t key searched listed = slots_same s t searched.waits.count searched.waits.wait searched.stay listed

pub slots_goes : (s t : SeatAt) (marks : List Mark) → Goes s.view t.view marks → t.listed ≡ s.listed → KeepsSlots s t
slots_goes s t marks goes listed = slots_same s t goes.waits goes.wait
    (ap (map (λ (r : Retired). (r.slot, r.unlinked, r.waited))) goes.retired) listed

-- a wait was begun
pub slots_later : (s t : SeatAt) → s.view.counts.waits < t.view.counts.waits → KeepsSlots s t
slots_later s t later = record {
  waits = omega arith;
  wait = λ same. absurd (omega arith);
  slots = λ same. absurd (omega arith);
}

pub waited_later : {k : Shape} {v w : View} {low high : ℕ} → HasWaited k v low high w → v.counts.waits < w.counts.waits
waited_later waited =
    let a = ap (λ (x : View). x.counts.waits) ((waited.2).ended).others in
    let b = ap (λ (x : View). x.counts.waits) (waited.1).others in
    omega arith

pub slots_reclaimed : {k : Shape} {listed : List ℕ} (s t : SeatAt) → HasReclaimed k s.view listed t.view → KeepsSlots s t
slots_reclaimed s t back = slots_later s t (let a = ap (λ (x : View). x.counts.waits) back.rest in omega arith)

-- no slot went back
pub retired_on : (u v w : View) → RetiresBehind u v → RetiresBehind v w → RetiresBehind u w
retired_on u v w a b = (a.0 ++ b.0, b.1 ∙ ap (λ xs. xs ++ b.0) a.1 ∙ append_assoc (retired_marks u) a.0 b.0)

pub retired_same : (v w : View) → retired_marks w ≡ retired_marks v → RetiresBehind v w
retired_same v w stay = ([], stay ∙ sym (append-nil (retired_marks v)))

pub none_back_on : (r s t : SeatAt) → GivesNoneBack r s → GivesNoneBack s t → GivesNoneBack r t
none_back_on r s t f g = record {
  retired = retired_on r.view s.view t.view f.retired g.retired;
  listed = (
    f.listed.0 ++ g.listed.0,
    g.listed.1 ∙ ap (λ xs. xs ++ g.listed.0) f.listed.1 ∙ append_assoc r.listed f.listed.0 g.listed.0,
  );
}

pub none_back_same : (s t : SeatAt) → retired_marks t.view ≡ retired_marks s.view → t.listed ≡ s.listed → GivesNoneBack s t
none_back_same s t stay listed = record { retired = retired_same s.view t.view stay; listed = ([], listed ∙ sym (append-nil s.listed)) }

-- one call after another
pub slots_on : (r s t : SeatAt) → KeepsSlots r s → KeepsSlots s t → KeepsSlots r t
slots_on r s t f g = record {
  waits = let a = f.waits in let b = g.waits in omega arith;
  wait = λ same. g.wait (late same) ∙ f.wait (early same);
  slots = λ same. none_back_on r s t (f.slots (early same)) (g.slots (late same));
}
  where
    early : t.view.counts.waits ≡ r.view.counts.waits → s.view.counts.waits ≡ r.view.counts.waits
    early same = let a = f.waits in let b = g.waits in omega arith

    late : t.view.counts.waits ≡ r.view.counts.waits → t.view.counts.waits ≡ s.view.counts.waits
    late same = let a = f.waits in let b = g.waits in omega arith

pub searched_slots : (r s t : SeatAt) (key : ℕ) → KeepsSlots r s → HasSearched s.view key t.view → t.listed ≡ s.listed → KeepsSlots r t
searched_slots r s t key f searched listed = slots_on r s t f (slots_searched s t key searched listed)

pub goes_slots : (r s t : SeatAt) (marks : List Mark) → KeepsSlots r s → Goes s.view t.view marks → t.listed ≡ s.listed → KeepsSlots r t
goes_slots r s t marks f goes listed = slots_on r s t f (slots_goes s t marks goes listed)

pub rest_slots : (r s t : SeatAt) → KeepsSlots r s → KeepsRest s.view t.view → t.listed ≡ s.listed → KeepsSlots r t
rest_slots r s t f rest listed = slots_on r s t f (slots_rest s t rest listed)

-- What calls leave of the latest wait, one after another.

-- none was begun
pub none_yet : (v : View) → HasBegunNone v v
none_yet v = record { place = refl; seen = ([], append-nil v.seen); count = refl; wait = refl }

pub none_begun : {v w : View} {marks : List Mark} → HasAdvanced v w marks → w.counts.waits ≡ v.counts.waits → w.wait ≡ v.wait → HasBegunNone v w
none_begun advanced count wait = record { place = advanced.same; seen = advanced.begins; count = count; wait = wait }

pub none_on : {u v w : View} → HasBegunNone u v → HasBegunNone v w → HasBegunNone u w
none_on {u} {v} {w} a b = record {
  place = b.place ∙ a.place;
  seen = prefix_trans u.seen v.seen w.seen a.seen b.seen;
  count = b.count ∙ a.count;
  wait = b.wait ∙ a.wait;
}

-- one was
abbrev count_of : Option Waiting → ℕ
count_of None = 0
count_of (Some wait) = wait.count

pub waited_first : {k : Shape} {v w : View} {low high : ℕ} → HasWaited k v low high w → HasBegunFirst v w
waited_first {k} {v} {w} {low} {high} (mid, began, over) =
    let one : Some over.wait ≡ Some (new_wait v low high began.clock began.leaves.before) = sym over.was ∙ began.wait_is in
    let count : over.new.count ≡ v.counts.waits = ap (λ (z : Waiting). z.count) over.ended.same ∙ ap count_of one in record {
      before = v;
      low = low;
      high = high;
      after = mid;
      none = none_yet v;
      begun = began;
      seen = seen_more mid w _ over.ended.leaves;
      wait = over.new;
      latest = over.ended.wait_is;
      later = omega (arith, count);
    }

first_seen : {v w : View} → HasBegunFirst v w → IsPrefix v.seen w.seen
first_seen {v} {w} first = prefix_trans v.seen first.before.seen w.seen first.none.seen
    (prefix_trans first.before.seen first.after.seen w.seen (seen_more first.before first.after _ first.begun.leaves) first.seen)

-- nothing of waits before, or after
pub first_later : {u v w : View} → HasBegunNone u v → HasBegunFirst v w → HasBegunFirst u w
first_later none first = record {
  before = first.before;
  low = first.low;
  high = first.high;
  after = first.after;
  none = none_on none first.none;
  begun = first.begun;
  seen = first.seen;
  wait = first.wait;
  latest = first.latest;
  later = subst (λ n. n ≤ first.wait.count) none.count first.later;
}

pub first_stays : {u v w : View} → HasBegunFirst u v → IsPrefix v.seen w.seen → w.wait ≡ v.wait → HasBegunFirst u w
first_stays {u} {v} {w} first seen same = record {
  before = first.before;
  low = first.low;
  high = first.high;
  after = first.after;
  none = first.none;
  begun = first.begun;
  seen = prefix_trans first.after.seen v.seen w.seen first.seen seen;
  wait = first.wait;
  latest = same ∙ first.latest;
  later = first.later;
}

pub reclaimed_first : {k : Shape} {v w : View} {listed : List ℕ} → HasReclaimed k v listed w → HasBegunFirst v w
reclaimed_first {k} {v} {w} back = first_stays (waited_first back.waits) (each_begins back.waited w _ back.gives.marks)
    (ap (λ (z : View). z.wait) back.gives.rest)

-- one wait, and then another
first_twice : {u v w : View} → HasBegunFirst u v → u.counts.waits ≤ v.counts.waits → HasBegunFirst v w → HasBegunFirst u w
first_twice {u} {v} {w} first more second = record {
  before = first.before;
  low = first.low;
  high = first.high;
  after = first.after;
  none = first.none;
  begun = first.begun;
  seen = prefix_trans first.after.seen v.seen w.seen first.seen (first_seen second);
  wait = second.wait;
  latest = second.latest;
  later = let later = second.later in omega arith;
}

-- one call after another
pub wait_later : {u v w : View} → HasBegunNone u v → KeepsWait v w → KeepsWait u w
wait_later {u} {v} {w} none later = ⊎_elim (λ (still : HasBegunNone v w). inl (none_on none still))
    (λ (first : HasBegunFirst v w). inr (first_later none first)) later

pub wait_on : {u v w : View} → u.counts.waits ≤ v.counts.waits → KeepsWait u v → KeepsWait v w → KeepsWait u w
wait_on {u} {v} {w} more early late = ⊎_elim
    (λ (none : HasBegunNone u v). wait_later none late)
    (λ (first : HasBegunFirst u v). inr (⊎_elim
    (λ (still : HasBegunNone v w). first_stays first still.seen still.wait)
    (λ (second : HasBegunFirst v w). first_twice first more second)
    late))
    early

-- What calls leave of their seat, one after another.

-- what a call leaves of its seat's view
pub record KeepsView (n : ℕ) (v w : View) : Type 0 where
  pub quiet : IsQuiet w
  pub wait : KeepsWait v w
  pub tickets : v.allowance.tickets ≤ w.allowance.tickets + n
  pub allowance : KeepsAllowance v w

pub keeps_seat : {n : ℕ} {chosen : Reuse} {s t : SeatAt} → KeepsView n s.view t.view → AreListed t → KeepsSlotsBy chosen s t
    → KeepsSeatBy n chosen s t
keeps_seat view listed slots = record {
  quiet = record { view = view.quiet; listed = listed };
  wait = view.wait;
  slots = slots;
  tickets = view.tickets;
  allowance = view.allowance;
}

pub listed_on : (s t : SeatAt) → t.listed ≡ s.listed → t.view.hands.retired ≡ s.view.hands.retired → AreListed s → AreListed t
listed_on s t listed retired are = record {
  each =
      λ slot. ap (times slot) listed ∙ are.each slot
      ∙ ap (λ (rs : List Retired). times slot (map (λ (r : Retired). r.slot) rs)) (sym retired);
}

-- it begins no wait, and retires nothing
pub keeps_goes : {n : ℕ} {s t : SeatAt} {marks : List Mark} → KeepsView n s.view t.view → Goes s.view t.view marks → t.listed ≡ s.listed
    → AreListed s → KeepsSeat n s t
keeps_goes {s = s} {t = t} view goes listed are =
    keeps_seat view (listed_on s t listed goes.retired are) (slots_goes s t _ goes listed)

-- a lookup uses no ticket
pub keeps_looked : {s t : SeatAt} {key : ℕ} {answer : Option ℕ} → IsQuietSeat s → Looked s.view key answer t.view → t.listed ≡ s.listed
    → KeepsSeat 0 s t
keeps_looked {s = s} {t = t} q l listed =
    let goes = goes_looked l in
    let same : t.view.allowance ≡ s.view.allowance = ap (λ (z : View). z.allowance) l.others in
    keeps_goes (record {
      quiet = subst IsQuiet (sym l.others) (record {
        section = refl;
        locks = q.view.locks;
        reserved = q.view.reserved;
        hand = q.view.hand;
        moving = q.view.moving;
        owes = q.view.owes;
        commit = q.view.commit;
        raised = q.view.raised;
      });
      wait = inl (none_begun goes.advanced goes.waits goes.wait);
      tickets = (let e = ap (λ (a : Allowance). a.tickets) same in omega arith);
      allowance = goes.advanced.allowance;
    }) goes listed q.listed

-- nothing was done
pub keeps_same : {n : ℕ} {s : SeatAt} → IsQuietSeat s → KeepsSeat n s s
keeps_same {s = s} quiet = record {
  quiet = quiet;
  wait = inl (none_yet s.view);
  slots = slots_self s;
  tickets = omega arith;
  allowance = record { rest = refl };
}

-- another number of tickets bounds what it used
pub keeps_by : {n m : ℕ} {s t : SeatAt} → s.view.allowance.tickets ≤ t.view.allowance.tickets + m → KeepsSeat n s t → KeepsSeat m s t
keeps_by tickets k =
    record { quiet = k.quiet; wait = k.wait; slots = k.slots; tickets = tickets; allowance = k.allowance }

pub keeps_more : {n m : ℕ} {s t : SeatAt} → n ≤ m → KeepsSeat n s t → KeepsSeat m s t
keeps_more more k = keeps_by (let few = k.tickets in omega (arith, more)) k

pub keeps_on : {n m : ℕ} {r s t : SeatAt} → KeepsSeat n r s → KeepsSeat m s t → KeepsSeat (n + m) r t
keeps_on {r = r} {s = s} {t = t} j k = record {
  quiet = k.quiet;
  wait = wait_on j.slots.waits j.wait k.wait;
  slots = slots_on r s t j.slots k.slots;
  tickets = (let first = j.tickets in let second = k.tickets in omega arith);
  allowance = allowed_on j.allowance k.allowance;
}

-- An update begins by a lookup: the first of its tries does.

-- nothing was done yet, or a lookup was made first
abbrev pub MayHaveBegun : View → ℕ → View → Type 0
MayHaveBegun v key w = (w ≡ v) ⊎ BeginsByLookup v key w

pub begins_later : {v w x : View} {key : ℕ} {marks : List Mark} → BeginsByLookup v key w → HasAdvanced w x marks → BeginsByLookup v key x
begins_later {marks = marks} b advanced = record {
  looked = b.looked;
  count = b.count;
  left = b.left;
  section = b.section;
  made = b.made;
  marks = b.marks ++ marks;
  later = advanced_on b.later advanced;
}

pub looked_first : {v w : View} {key : ℕ} {answer : Option ℕ} → Looked v key answer w → BeginsByLookup v key w
looked_first {v} {w} l = record {
  looked = w;
  count = v.counts.sections;
  left = v.counts.sections;
  section = (goes_looked l).advanced;
  made = l.made;
  marks = [];
  later = advanced_same;
}

searched_first : {v w : View} {key : ℕ} → HasSearched v key w → BeginsByLookup v key w
searched_first {v} {w} s = record {
  looked = w;
  count = s.count;
  left = s.left;
  section = s.advanced;
  made = s.made;
  marks = [];
  later = advanced_same;
}

-- one more section of a try
pub begins_looked : {v w x : View} {key : ℕ} {answer : Option ℕ} → MayHaveBegun v key w → Looked w key answer x → BeginsByLookup v key x
begins_looked {v} {w} {x} {key} begun l = ⊎_elim
    (λ (e : w ≡ v). subst (λ z. BeginsByLookup z key x) e (looked_first l))
    (λ (b : BeginsByLookup v key w). begins_later b (goes_looked l).advanced)
    begun

pub begins_searched : {v w x : View} {key : ℕ} → MayHaveBegun v key w → HasSearched w key x → BeginsByLookup v key x
begins_searched {v} {w} {x} {key} begun s = ⊎_elim
    (λ (e : w ≡ v). subst (λ z. BeginsByLookup z key x) e (searched_first s))
    (λ (b : BeginsByLookup v key w). begins_later b s.advanced)
    begun

-- Each round of a call makes a step.

pub search_steps : {v w : View} {key : ℕ} {state : SearchState} → IsSearching v key state w → HasStepped v w
search_steps {v} {w} x =
    let entered = enters_steps x.entered in
    let loaded = makes_steps x.entry w x.made in
    omega (arith, entered, loaded)

pub links_steps : {k : Shape} {v w : View} {s : ℕ} {b : Side} {n : ℕ} → LoadsLinks k v s b n w → HasStepped v w
links_steps {k} {v} {w} {s} {b} {n} l =
    let left = told_steps l.left_told in
    let right = told_steps l.right_told in
    omega (arith, left, right)

pub room_steps : {k : Shape} {v w : View} → MakesRoom k v w → length v.trail.steps ≤ length w.trail.steps
room_steps {k} {v} {w} room =
    ⊎_elim (λ (x : TakesSlot v w). prefix_steps v w x.advanced.steps) (λ (x : Reused k v w). prefix_steps v w x.advanced.steps) room

-- Runs of scripts: their seats are cut and joined, and one history explains what they were told.
-- Seats joined one after another.
use Rattle.std.proofs.Common.{◌≡◌, ℕ, ◌+◌, ◌<◌, ◌≤◌, List, [], ◌∷◌, ◌++◌, length, map, Some, inl, inr, refl, sym, ap, subst, ◌∙◌, arith, append_assoc, append-nil, length-append, ◌-◌, ◌≢◌, zero, suc, true, false, cond, get_or, Option, None, ne_eqb}
use Rattle.std.specs.List.{slice_get, AllByRecursion}
use Rattle.std.proofs.lemmas.Bool.{cases_lt, eqb-true}
use Rattle.std.proofs.lemmas.List.{get_or_append_left, get_or_push, length-map}
use Rattle.std.proofs.lemmas.Option.{slice_get-get_or, slice_get_within, get_or_from_slice_get}
use mathlib.Core.List.{IsPrefix}
use Rattle.prcu_model.proofs.ListFacts.{prefix_self, prefix_trans}
use Rattle.hash_core.specs.declared.view.View.{View}
use Rattle.hash_core.specs.declared.words.Field.TheVariants.{Front}
use Rattle.hash_core.specs.declared.words.Kind.TheVariants.{H2}
use Rattle.list_laws.specs.Counts.{times, numbers_from}
use Rattle.hash_core.specs.Rule.{AnswersFor}
use Rattle.hash_core.specs.Steps.{stepped, IsQuiet, both_of, first_of, second_of}
use Rattle.list_laws.proofs.Lists.{times_append, from_times}
use Rattle.class_hash.specs.Answers.{IsInformed}
use Rattle.class_hash.specs.Seats.{TableAt}
use Rattle.class_hash.specs.Replies.{ClientAt, caller_of, HasCalled, ExplainsInClasses}
use Rattle.hash_run.specs.Crews.{IsDone, IsJoined, StandsFor, all_own, idle_view, client_for}
use Rattle.prcu_marks.specs.declared.mark.Mark.{Mark}
use Rattle.prcu_marks.specs.declared.mark.Mark.TheVariants.{Entered, Left, Began, Ended, Done}
use Rattle.prcu_model.specs.declared.operation.Op.{Op}
use Rattle.prcu_model.specs.declared.operation.Told.{Told}
use Rattle.prcu_model.specs.declared.operation.Line.{Line}
use Rattle.prcu_model.specs.declared.operation.Update.{Update}
use Rattle.prcu_model.specs.Scripts.{Roomy, entries_of}
use Rattle.prcu_marks.specs.Marks.{updates_of, is_of, own_of}
use Rattle.prcu_marks.specs.Callers.{IsChain, Caller, FitsScripts}
use Rattle.prcu_model.specs.Fronts.{Placed, all_told_lines, AreExplainable}
use Rattle.prcu_marks.proofs.Marks.{own_of-append, own_of-all}
use Rattle.prcu_marks.proofs.Callers.{HasTold, HaveTold, newcomer, run_updates, run_lengths, run_confirmed, run_fronts, run_fits}
use Rattle.client_run.specs.Crews.{Work, AreReadyFor, HaveMade, IsCrew, AreDone, HaveMet, HaveRun}
use Rattle.class_hash.proofs.Trying.{chain_has_told, calls_stay}
use Rattle.class_hash.proofs.Seats.{new_informed}
use Rattle.hash_run.specs.Capacities.{put_keys, AreCapacities}
use Rattle.client_run.proofs.Crews.{mapped_at, some_there, entries_are, crew_ready, chain_of, crew_keeps, crew_has_told}
use Rattle.hash_run.proofs.Roomy.{PutsInto, each_put_there, all_stand, all_from_own, told_from_lines, all_lines_from_ops, at_number}

all_own-append : (vs : List View) (v : View) → all_own (vs ++ v ∷ []) ≡ all_own vs ++ v.own
all_own-append [] v = append-nil v.own
all_own-append (u ∷ vs) v = ap (λ xs. u.own ++ xs) (all_own-append vs v) ∙ sym (append_assoc u.own (all_own vs) v.own)

-- the first seat, at place 0
joined_first : (v : View) → IsQuiet v → v.place ≡ 0 → 1 ≤ v.places → IsJoined (v ∷ []) v
joined_first v quiet place works = record {
  quiet = quiet;
  own = sym (append-nil v.own);
  answers = λ p below. inl (omega arith, omega arith);
  seen = λ i u there.
      let below = slice_get_within (v ∷ []) i u there in
      let at : i ≡ 0 = omega arith in
      let first : slice_get (v ∷ []) 0 ≡ Some u = subst (λ n. slice_get (v ∷ []) n ≡ Some u) at there in
      let same : v ≡ u = cc in
      subst (λ (z : View). IsPrefix z.seen v.seen) same (prefix_self v.seen);
}

-- one more, at the next place
joined_more : (vs : List View) (seat other w : View) (front : ℕ) → IsJoined vs seat → IsQuiet other → other.place ≡ length vs
    → 1 ≤ other.places → w ≡ stepped (both_of seat other) H2 Front front → IsPrefix seat.seen w.seen → IsPrefix other.seen w.seen
    → IsJoined (vs ++ other ∷ []) w
joined_more vs seat other w front joined quiet place works is mine theirs = record {
  quiet = (ap (λ (z : View). z.section) is ∙ joined.quiet.0, ap (λ (z : View). z.hold) is ∙ joined.quiet.1);
  own = ap (λ (z : View). z.own) is ∙ ap (λ xs. xs ++ other.own) joined.own ∙ sym (all_own-append vs other);
  answers = λ p below. subst (λ (z : View). AnswersFor z p) (sym is) (answers_now p (let n = length-append vs (other ∷ []) in omega arith));
  seen = λ i u there.
      let read = get_or_from_slice_get (vs ++ other ∷ []) i u u there in
      let below = slice_get_within (vs ++ other ∷ []) i u there in
      let long = length-append vs (other ∷ []) in
      elim (cases_lt i (length vs)) [
        | inl earlier ↦ prefix_trans u.seen seat.seen w.seen
            (joined.seen i u (slice_get-get_or vs i u earlier ∙ ap Some (sym (get_or_append_left vs (other ∷ []) u i earlier) ∙ read))) mine
        | inr late ↦
            let last : length vs ≡ i = omega arith in
            let same : other ≡ u = sym (get_or_push vs other u i last) ∙ read in
            subst (λ (z : View). IsPrefix z.seen w.seen) same theirs
      ];
}
  where
    joined_places : (p : ℕ) → times p (seat.joined ++ (numbers_from other.place other.places ++ other.joined))
        ≡ times p seat.joined + (times p (numbers_from other.place other.places) + times p other.joined)
    joined_places p = let outer = times_append p seat.joined (numbers_from other.place other.places ++ other.joined) in
        let inner = times_append p (numbers_from other.place other.places) other.joined in omega arith

    keeps_answer : (p : ℕ) → AnswersFor seat p → AnswersFor (stepped (both_of seat other) H2 Front front) p
    keeps_answer p (inl has) = inl has
    keeps_answer p (inr there) = inr (let all = joined_places p in omega arith)

    answers_now : (p : ℕ) → p < length vs + 1 → AnswersFor (stepped (both_of seat other) H2 Front front) p
    answers_now p below = elim (cases_lt p (length vs)) [
      | inl earlier ↦ keeps_answer p (joined.answers p earlier)
      | inr late ↦ inr (let all = joined_places p in let there = from_times p other.place other.places (omega arith) (omega arith) in
          omega arith)
    ]

map-push : (cs : List ClientAt) (c : ClientAt)
    → map (λ (client : ClientAt). client.view) (cs ++ c ∷ []) ≡ map (λ (client : ClientAt). client.view) cs ++ c.view ∷ []
map-push [] c = refl
map-push (x ∷ cs) c = ap (λ vs. x.view ∷ vs) (map-push cs c)

module _ (table : TableAt) where
  pub stands_first : (c : ClientAt) (seat : View) → IsDone table 0 c → IsQuiet seat → seat ≡ c.view → StandsFor table (c ∷ []) seat
  stands_first c seat d quiet is =
      let works = d.informed.works in
      subst (StandsFor table (c ∷ [])) (sym is) (record
      { joined = joined_first c.view (subst IsQuiet is quiet) d.place works; informed = d.informed })

  pub stands_more : (cs : List ClientAt) (c : ClientAt) (seat other w : View) (front : ℕ) → IsDone table (length cs) c
      → StandsFor table cs seat → IsQuiet other → other ≡ c.view
      → w ≡ stepped (both_of seat other) H2 Front front → IsPrefix seat.seen w.seen → IsPrefix other.seen w.seen
      → IsInformed table.capacities table.places w → StandsFor table (cs ++ c ∷ []) w
  stands_more cs c seat other w front d so_far quiet same is mine theirs informed =
      let works = d.one_place in
      let place : other.place ≡ length (map (λ (client : ClientAt). client.view) cs) =
      ap (λ (z : View). z.place) same ∙ d.place ∙ sym (length-map cs (λ (client : ClientAt). client.view)) in
      let places = ap (λ (z : View). z.places) same in
      record {
        joined = subst (λ vs. IsJoined vs w) (ap (λ v. map (λ (client : ClientAt). client.view) cs ++ v ∷ []) same ∙ sym (map-push cs c))
            (joined_more (map (λ (client : ClientAt). client.view) cs) seat other w front so_far.joined quiet place
            (omega arith) is mine theirs);
        informed = informed;
      }

-- A seat that has done nothing, cut into one for each script.

-- a split of an idle seat gives its first place away and keeps the others, or the other way about
pub idle_first : (place places tickets away given : ℕ) → places ≡ away + 1 → given ≤ tickets
    → first_of away given (idle_view place places tickets) ≡ idle_view place 1 (tickets - given)
idle_first place places tickets away given all less = ap (λ n. idle_view place n (tickets - given)) (omega arith)

pub idle_second : (place places tickets away given : ℕ) → places ≡ away + 1
    → second_of away given (idle_view place places tickets) ≡ idle_view (place + 1) away given
idle_second place places tickets away given all = ap (λ n. idle_view n away given) (omega arith)

-- A run of scripts on the hash dictionary, from the workers' chains of calls to one explained history.

pub ready : (table : TableAt) (scripts : List (List Op)) (workers : List (Work ClientAt)) → IsCrew (client_for table) scripts workers
    → AreReadyFor (λ (c : ClientAt). c.view.tickets) workers scripts
ready table scripts workers crew = crew_ready (client_for table) scripts (λ (c : ClientAt). c.view.tickets)
    (λ i n. omega arith) workers crew

same_views : (workers : List (Work ClientAt)) → map (λ (c : ClientAt). c.view) (map (λ (w : Work ClientAt). w.client) workers)
    ≡ map (λ (w : Work ClientAt). w.client.view) workers
same_views [] = refl
same_views (w ∷ ws) = ap (λ vs. w.client.view ∷ vs) (same_views ws)

module _ (table : TableAt) (scripts : List (List Op)) (befores afters : List (Work ClientAt))
    (crew : IsCrew (client_for table) scripts befores) (count : length afters ≡ length befores)
    (made : HaveMade HasCalled befores scripts afters) where
  pub all_done : AreDone (IsDone table) afters
  all_done = crew_keeps (client_for table) scripts HasCalled befores afters crew count made (IsDone table)
      (λ i. record {
        table_is = refl;
        place = refl;
        one_place = refl;
        informed = new_informed table.capacities table.places i 1 (length (get_or scripts i [])) (omega arith);
      })
      (λ i c op told d so call.
      let stays = calls_stay c.table.capacities c.view d.view op told call.makes in record {
        table_is = call.table ∙ so.table_is;
        place = stays.0 ∙ so.place;
        one_place = stays.1 ∙ so.one_place;
        informed = subst (λ (t : TableAt). IsInformed t.capacities t.places d.view) so.table_is call.informed;
      })

  -- what the calls of a chain were told
  told_by : (i : ℕ) (ops : List Op) (tolds : List Told) (after : ClientAt)
      → IsChain HasCalled (client_for table i (length ops)) ops tolds after
      → HasTold (ExplainsInClasses table.capacities) (newcomer i) ops tolds (caller_of after)
  told_by i ops tolds after chain = chain_has_told table.capacities ops tolds (client_for table i (length ops)) after refl refl refl chain

  told_at : (i : ℕ) (after : Work ClientAt) → slice_get afters i ≡ Some after
      → HasTold (ExplainsInClasses table.capacities) (newcomer i) (get_or scripts i []) after.told.entries (caller_of after.client)
  told_at i after there = told_by i (get_or scripts i []) after.told.entries after.client
      (chain_of (client_for table) scripts HasCalled befores afters crew count made i after there)

  -- ---- the joined seat

  module _ (seat : View) (stands : StandsFor table (map (λ (w : Work ClientAt). w.client) afters) seat)
      (places : table.places ≡ length scripts) where
    joined : IsJoined (map (λ (w : Work ClientAt). w.client.view) afters) seat
    joined = subst (λ vs. IsJoined vs seat) (same_views afters) stands.joined

    view_at : (i : ℕ) (after : Work ClientAt) → slice_get afters i ≡ Some after
        → slice_get (map (λ (w : Work ClientAt). w.client.view) afters) i ≡ Some after.client.view
    view_at i after there = mapped_at (λ (w : Work ClientAt). w.client.view) afters i after there

    -- marks of another place
    not_of : (p q : ℕ) (m : Mark) → p ≢ q → is_of p m ≡ true → is_of q m ≡ false
    not_of p q (Entered r c x) ne is = ne_eqb r q (λ e. ne (sym (eqb-true r p is) ∙ e))
    not_of p q (Left r c) ne is = ne_eqb r q (λ e. ne (sym (eqb-true r p is) ∙ e))
    not_of p q (Began r c low high) ne is = ne_eqb r q (λ e. ne (sym (eqb-true r p is) ∙ e))
    not_of p q (Ended r c) ne is = ne_eqb r q (λ e. ne (sym (eqb-true r p is) ∙ e))
    not_of p q (Done u) ne is = ne_eqb u.caller q (λ e. ne (sym (eqb-true u.caller p is) ∙ e))
    not_of p q _ ne is = refl

    none_of : (p q : ℕ) (ms : List Mark) → p ≢ q → AllByRecursion (λ m. is_of p m ≡ true) ms → own_of q ms ≡ []
    none_of p q [] ne all = refl
    none_of p q (m ∷ ms) ne all = ap (λ b. cond b (m ∷ own_of q ms) (own_of q ms)) (not_of p q m ne all.0) ∙ none_of p q ms ne all.1

    -- of the marks of all views those of a place are those of the view of its number
    own_among : (vs : List View) (first i : ℕ) → ((j : ℕ) (v : View) → slice_get vs j ≡ Some v
        → AllByRecursion (λ m. is_of (first + j) m ≡ true) v.own) → (k : ℕ) (v : View) → i ≡ first + k → slice_get vs k ≡ Some v
        → own_of i (all_own vs) ≡ v.own
    own_among [] first i each k v at there = absurd (cc)
    own_among (u ∷ vs) first i each zero v at there =
        let same : u ≡ v = cc in
        let mine : AllByRecursion (λ m. is_of i m ≡ true) u.own =
        subst (λ p. AllByRecursion (λ m. is_of p m ≡ true) u.own) (sym at) (each zero u refl) in
        own_of-append i u.own (all_own vs) ∙ ap (λ xs. own_of i u.own ++ xs)
        (none_among vs (first + 1) i (omega arith)
        (λ j w e. subst (λ p. AllByRecursion (λ m. is_of p m ≡ true) w.own) (omega arith) (each (suc j) w e))) ∙ append-nil (own_of i u.own)
        ∙ own_of-all i u.own mine ∙ ap (λ (z : View). z.own) same
      where
        none_among : (ws : List View) (from p : ℕ) → p < from
            → ((j : ℕ) (w : View) → slice_get ws j ≡ Some w → AllByRecursion (λ m. is_of (from + j) m ≡ true) w.own)
            → own_of p (all_own ws) ≡ []
        none_among [] from p low each = refl
        none_among (w ∷ ws) from p low each =
            own_of-append p w.own (all_own ws) ∙ ap (λ xs. xs ++ own_of p (all_own ws))
            (none_of (from + 0) p w.own (λ e. absurd (omega arith)) (each zero w refl)) ∙ none_among ws (from + 1) p (omega arith)
            (λ j x e. subst (λ q. AllByRecursion (λ m. is_of q m ≡ true) x.own) (omega arith) (each (suc j) x e))
    own_among (u ∷ vs) first i each (suc k) v at there =
        own_of-append i u.own (all_own vs) ∙ ap (λ xs. xs ++ own_of i (all_own vs))
        (none_of (first + 0) i u.own (λ e. absurd (omega arith)) (each zero u refl))
        ∙ own_among vs (first + 1) i (λ j w e. subst (λ p. AllByRecursion (λ m. is_of p m ≡ true) w.own) (omega arith)
        (each (suc j) w e)) k v (omega arith) there

    -- each view's marks are those of its place
    each_own : (j : ℕ) (v : View) → slice_get (map (λ (w : Work ClientAt). w.client.view) afters) j ≡ Some v
        → AllByRecursion (λ m. is_of (0 + j) m ≡ true) v.own
    each_own j v there =
        let below : j < length afters = (let n = length-map afters (λ (w : Work ClientAt). w.client.view) in
        let b = slice_get_within (map (λ (w : Work ClientAt). w.client.view) afters) j v there in omega arith) in
        by (slice_get afters j) refl below
      where
        by : (found : Option (Work ClientAt)) → slice_get afters j ≡ found → j < length afters
            → AllByRecursion (λ m. is_of (0 + j) m ≡ true) v.own
        by None none below = absurd (some_there afters j below none)
        by (Some after) is below =
            let told = told_at j after is in
            let same : after.client.view ≡ v = (let e : Some after.client.view ≡ Some v = sym (view_at j after is) ∙ there in cc) in
            let place : j ≡ 0 + j = omega arith in
            subst (λ (z : List Mark × ℕ). AllByRecursion (λ m. is_of z.1 m ≡ true) z.0)
            (λ k. ((sym told.own ∙ ap (λ (z : View). z.own) same) k, place k)) told.mine

    -- the seat has met each caller
    have_met : HaveMet (map (λ (w : Work ClientAt). caller_of w.client) afters) seat.seen
    have_met i c there =
        let below : i < length afters = (let n = length-map afters (λ (w : Work ClientAt). caller_of w.client) in
        let b = slice_get_within (map (λ (w : Work ClientAt). caller_of w.client) afters) i c there in omega arith) in
        by (slice_get afters i) refl below
      where
        by : (found : Option (Work ClientAt)) → slice_get afters i ≡ found → i < length afters
            → IsPrefix c.seen seat.seen × (own_of i seat.seen ≡ own_of i c.own)
        by None none below = absurd (some_there afters i below none)
        by (Some after) is below =
            let told = told_at i after is in
            let same : caller_of after.client ≡ c = (let e : Some (caller_of after.client) ≡ Some c =
            sym (mapped_at (λ (w : Work ClientAt). caller_of w.client) afters i after is) ∙ there in cc) in
            let long = length-map afters (λ (w : Work ClientAt). w.client.view) in
            let mine : own_of i seat.seen ≡ after.client.view.own =
            stands.informed.met i (joined.answers i (omega arith)) ∙ ap (own_of i) joined.own
            ∙ own_among (map (λ (w : Work ClientAt). w.client.view) afters) 0 i each_own i after.client.view (omega arith)
            (view_at i after is) in
            let all : own_of i after.client.view.own ≡ after.client.view.own =
            ap (own_of i) told.own ∙ own_of-all i told.marks told.mine ∙ sym told.own in
            subst (λ (z : Caller). IsPrefix z.seen seat.seen × (own_of i seat.seen ≡ own_of i z.own)) same
            (joined.seen i after.client.view (view_at i after is), mine ∙ sym all)

    pub have_told : HaveTold (ExplainsInClasses table.capacities) scripts (map (λ (w : Work ClientAt). w.told.entries) afters) seat.seen
    have_told = crew_has_told (client_for table) scripts HasCalled befores afters crew count made
        (ExplainsInClasses table.capacities) caller_of told_by seat.seen have_met
        (λ i past. ap updates_of (stands.informed.within i (omega arith))) stands.informed.legal

    -- the run is explained, whatever the number of slots
    module _ (right : AreCapacities scripts table.capacities) where
      abbrev tolds : List (List Told)
      tolds = map (λ (w : Work ClientAt). w.told.entries) afters

      lines_put : AllByRecursion (AllByRecursion (λ (line : Line). PutsInto (put_keys scripts) line.op)) (all_told_lines scripts tolds)
      lines_put = all_lines_from_ops (PutsInto (put_keys scripts)) scripts tolds (each_put_there scripts)

      updates_put : AllByRecursion (λ (u : Update). PutsInto (put_keys scripts) u.op) (updates_of seat.seen)
      updates_put = all_from_own (PutsInto (put_keys scripts)) 1 (updates_of seat.seen) (λ c.
          subst (λ ps. AllByRecursion (λ (q : Placed). PutsInto (put_keys scripts) q.op) ps)
          (sym (run_updates (ExplainsInClasses table.capacities) scripts
          tolds seat.seen have_told c))
          (told_from_lines (PutsInto (put_keys scripts))
          (get_or (all_told_lines scripts tolds) c [])
          (at_number (PutsInto (put_keys scripts)) (all_told_lines scripts
          tolds) c lines_put)))

      run_explained : (slots : ℕ) → AreExplainable scripts tolds (updates_of seat.seen) slots
      run_explained slots = record {
        lengths = run_lengths (ExplainsInClasses table.capacities) scripts tolds seat.seen have_told;
        explained = record {
          updates = run_updates (ExplainsInClasses table.capacities) scripts tolds seat.seen have_told;
          confirmed = run_confirmed (ExplainsInClasses table.capacities) scripts tolds seat.seen have_told;
          fronts = all_stand scripts table.capacities right (record { scripts = length scripts; slots = slots })
              (updates_of seat.seen) updates_put (all_told_lines scripts tolds) lines_put
              (run_fronts (ExplainsInClasses table.capacities) scripts
              tolds seat.seen have_told);
        };
      }

      run_marks : FitsScripts scripts seat.seen
      run_marks = run_fits (ExplainsInClasses table.capacities) scripts tolds seat.seen have_told

-- A run whose clients' seats are one: what its scripts were told was pushed behind nothing.
pub has_run : {table : TableAt} {scripts : List (List Op)} {befores : List (Work ClientAt)} {seat : View}
    {told pushed first : List (Roomy Told)} (afters : List (Work ClientAt)) → IsCrew (client_for table) scripts befores
    → length afters ≡ length befores
    → HaveMade HasCalled befores scripts afters → StandsFor table (map (λ (w : Work ClientAt). w.client) afters) seat → told ≡ pushed
    → pushed ≡ first ++ map (λ (w : Work ClientAt). w.told) afters → first ≡ []
    → HaveRun (client_for table) HasCalled (StandsFor table) scripts told seat
has_run {befores = befores} afters crew count made stands told pushed first = record {
  hired = befores;
  workers = afters;
  crew = crew;
  count = count;
  made = made;
  told_is = told ∙ pushed ∙ ap (λ ts. ts ++ map (λ (w : Work ClientAt). w.told) afters) first;
  joined = stands;
}

-- What it hands on: what was told is explained by the updates that the seat has seen, and its marks are those of such scripts.
module _ {table : TableAt} {scripts : List (List Op)} {told : List (Roomy Told)} {seat : View}
    (run : HaveRun (client_for table) HasCalled (StandsFor table) scripts told seat) (places : table.places ≡ length scripts)
    {capacities : List ℕ} (made : table.capacities ≡ capacities) (right : AreCapacities scripts capacities) where
  pub told_explained : (slots : ℕ) → AreExplainable scripts (entries_of told) (updates_of seat.seen) slots
  told_explained slots = subst (λ ts. AreExplainable scripts ts (updates_of seat.seen) slots)
      (sym (ap entries_of run.told_is ∙ entries_are run.workers))
      (run_explained table scripts run.hired run.workers run.crew run.count run.made seat run.joined places
      (subst (AreCapacities scripts) (sym made) right) slots)

  pub told_marks : FitsScripts scripts seat.seen
  told_marks = run_marks table scripts run.hired run.workers run.crew run.count run.made seat run.joined places
      (subst (AreCapacities scripts) (sym made) right)

-- Runs of scripts on the tree: seats are cut and joined, and one history explains what the clients were told.
-- Seats joined one after another.
use Rattle.std.proofs.Common.{◌≡◌, ℕ, zero, suc, ◌<◌, ◌≤◌, List, [], ◌∷◌, ◌++◌, length, map, Some, inl, inr, refl, sym, ap, subst, ◌∙◌, arith, length-append, ◌+◌, ◌-◌, Bool, true, false, drop, get_or}
use Rattle.std.specs.List.{slice_get}
use Rattle.std.proofs.lemmas.Bool.{cases_lt}
use Rattle.std.proofs.lemmas.List.{get_or_append_left, get_or_push, length-map}
use Rattle.std.proofs.lemmas.Option.{slice_get-get_or, slice_get_within, get_or_from_slice_get}
use mathlib.Core.List.{IsPrefix}
use Rattle.prcu_model.proofs.ListFacts.{prefix_self, prefix_trans}
use Rattle.prcu_marks.specs.declared.mark.Mark.{Mark}
use Rattle.prcu_marks.specs.Marks.{own_of, updates_of}
use Rattle.prcu_marks.specs.Callers.{Caller, FitsScripts, HasAnswered, IsChain}
use Rattle.prcu_marks.proofs.Marks.{own_twice}
use Rattle.client_run.specs.Crews.{HaveMet, Work, AreReadyFor, HaveMade, IsCrew, AreDone}
use Rattle.list_laws.specs.Counts.{times}
use Rattle.core_state.specs.declared.view.View.{View}
use Rattle.core_state.specs.Steps.{after_clock_load, new_view, first_of, second_of}
use Rattle.core_state.specs.Views.{places_of}
use Rattle.core_frames.proofs.Roles.{works_there}
use Rattle.seat_table.specs.Seats.{TableAt, SeatAt, KeepsOwn, region}
use Rattle.core_state.specs.Acts.{noted}
use Rattle.core_state.specs.declared.act.Act.TheVariants.{LoadClock}
use Rattle.tree_run.specs.Runs.{ScriptClientAt, script_caller, IsDone, StandsFor, seat_for, tickets_for, seen_as, HasCalled, left_of, tickets_last, CalledBy, shape_with, client_for, HasRun}
use Rattle.prcu_model.specs.declared.operation.Op.{Op}
use Rattle.prcu_model.specs.Scripts.{op_count, Roomy, entries_of}
use Rattle.client_run.proofs.Crews.{tickets_turn, crew_ready, crew_keeps, crew_has_told, entries_are}
use Rattle.prcu_model.specs.declared.operation.Told.{Told}
use Rattle.citrus_tree.specs.Replies.{ClientAt, room_of}
use Rattle.tree_run.specs.Clients.{CookieClientAt}
use Rattle.tree_run.specs.declared.client.EitherClient.{EitherClient}
use Rattle.tree_run.specs.declared.client.EitherClient.TheVariants.{Waiting, Holding}
use Rattle.prcu_model.specs.Dictionary.{Room, Explains}
use Rattle.prcu_model.specs.Fronts.{AreExplainable, AreExplained, all_told_lines}
use Rattle.prcu_marks.proofs.Callers.{HasTold, newcomer as first_caller, HaveTold, run_updates, run_lengths, run_confirmed, run_fronts, run_fits}
use Rattle.seat_table.specs.Gains.{IsInformed, StaysIn}
use Rattle.citrus_tree.proofs.Clients.{sixteen_room, chain_told}
use Rattle.tree_lift.proofs.Calls.{call_answers}
use Rattle.tree_run.proofs.Calls.{called_answers}
use Rattle.tree_run.specs.declared.running.RunWith.{RunWith}
use Rattle.tree_lift.specs.Lifts as waiting
use Rattle.tree_run.specs.Clients as holding

-- a client whose calls are made has met its own marks
own_met : (i : ℕ) (c : ScriptClientAt) → c.tree.seat.view.allowance.place ≡ i
    → own_of i (script_caller c).own ≡ own_of i c.tree.seat.view.seen
own_met i c at = subst (λ p. own_of i (own_of p c.tree.seat.view.seen) ≡ own_of i c.tree.seat.view.seen) (sym at)
    (own_twice i c.tree.seat.view.seen)

module _ (table : TableAt) where
  -- the first seat, at place 0
  pub joined_first : (c : ScriptClientAt) (seat : SeatAt) → IsDone table 0 c → 1 ≤ seat.view.allowance.places → seat ≡ c.tree.seat
      → StandsFor (c ∷ []) seat
  joined_first c seat d works is = subst (StandsFor (c ∷ [])) (sym is) (record {
    answers = λ p below. (let zero_is : 0 ≡ p = omega arith in let at = d.place in
        subst (λ q. 1 ≤ times q (places_of c.tree.seat.view)) (at ∙ zero_is)
        (works_there c.tree.seat.view (subst (λ (s : SeatAt). 1 ≤ s.view.allowance.places) is works)));
    met = met_one;
  })
    where
      met_one : HaveMet (script_caller c ∷ []) c.tree.seat.view.seen
      met_one zero x there =
          let same : script_caller c ≡ x = cc in
          subst (λ (z : Caller). IsPrefix z.seen c.tree.seat.view.seen × (own_of 0 c.tree.seat.view.seen ≡ own_of 0 z.own)) same
          (prefix_self c.tree.seat.view.seen, sym (own_met 0 c d.place))
      met_one (suc i) x there = absurd (cc)

  -- one more, at the next place
  pub joined_more : (cs : List ScriptClientAt) (c : ScriptClientAt) (seat both : SeatAt) → IsDone table (length cs) c
      → 1 ≤ c.tree.seat.view.allowance.places → StandsFor cs seat → KeepsOwn seat.view c.tree.seat.view both.view
      → StandsFor (cs ++ c ∷ []) both
  joined_more cs c seat both d works so_far keeps = record {
    answers = λ p below.
        let count = keeps.places p in
        let long = length-append cs (c ∷ []) in
        elim (cases_lt p (length cs)) [
          | inl earlier ↦ (let has = so_far.answers p earlier in omega arith)
          | inr late ↦
              let last : length cs ≡ p = omega arith in
              let at = d.place in
              let has : 1 ≤ times p (places_of c.tree.seat.view) =
              subst (λ q. 1 ≤ times q (places_of c.tree.seat.view)) (at ∙ last) (works_there c.tree.seat.view works) in
              omega arith
        ];
    met = λ i x there.
        let callers = map script_caller cs in
        let long = length-map cs script_caller in
        let is : slice_get (map script_caller cs ++ script_caller c ∷ []) i ≡ Some x =
        subst (λ xs. slice_get xs i ≡ Some x) (map-push cs) there in
        let read = get_or_from_slice_get (map script_caller cs ++ script_caller c ∷ []) i x x is in
        let below = slice_get_within (map script_caller cs ++ script_caller c ∷ []) i x is in
        let size = length-append (map script_caller cs) (script_caller c ∷ []) in
        elim (cases_lt i (length (map script_caller cs))) [
          | inl earlier ↦
              let met = so_far.met i x (slice_get-get_or (map script_caller cs) i x earlier
              ∙ ap Some (sym (get_or_append_left (map script_caller cs) (script_caller c ∷ []) x i earlier) ∙ read)) in (
                prefix_trans x.seen seat.view.seen both.view.seen met.0 keeps.first_seen,
                keeps.first_own i (so_far.answers i (omega arith)) ∙ met.1,
              )
          | inr late ↦
              let last : length (map script_caller cs) ≡ i = omega arith in
              let same : script_caller c ≡ x = sym (get_or_push (map script_caller cs) (script_caller c) x i last) ∙ read in
              let at : c.tree.seat.view.allowance.place ≡ i = d.place ∙ sym long ∙ last in
              let has : 1 ≤ times i (places_of c.tree.seat.view) =
              subst (λ q. 1 ≤ times q (places_of c.tree.seat.view)) at (works_there c.tree.seat.view works) in
              subst (λ (z : Caller). IsPrefix z.seen both.view.seen × (own_of i both.view.seen ≡ own_of i z.own)) same
              (keeps.second_seen, keeps.second_own i has ∙ sym (own_met i c at))
        ];
  }
    where
      map-push : (xs : List ScriptClientAt) → map script_caller (xs ++ c ∷ []) ≡ map script_caller xs ++ script_caller c ∷ []
      map-push [] = refl
      map-push (x ∷ xs) = ap (λ ys. script_caller x ∷ ys) (map-push xs)

-- another seat, joined with one that stands for clients, leaves it so
pub joined_other : (clients : List ScriptClientAt) (seat other both : SeatAt) → StandsFor clients seat
    → KeepsOwn seat.view other.view both.view → StandsFor clients both
joined_other clients seat other both so_far keeps = record {
  answers = λ p below. (let count = keeps.places p in let has = so_far.answers p below in omega arith);
  met = λ i x there.
      let met = so_far.met i x there in
      let below : i < length clients = (let n = slice_get_within (map script_caller clients) i x there in
      let long = length-map clients script_caller in omega arith) in
      (prefix_trans x.seen seat.view.seen both.view.seen met.0 keeps.first_seen, keeps.first_own i (so_far.answers i below) ∙ met.1);
}

-- a look at the clock leaves the seat as it was, but for what it knows of the clock
pub looked_still : (clients : List ScriptClientAt) (seat after : SeatAt) (clock : ℕ) (h : List Mark)
    → after.view ≡ after_clock_load (noted seat.view LoadClock clock) clock h → StandsFor clients seat → StandsFor clients after
looked_still clients seat after clock h is so_far = record {
  answers = λ p below. subst (λ (v : View). 1 ≤ times p (places_of v)) (sym is) (so_far.answers p below);
  met = subst (λ (v : View). HaveMet (map script_caller clients) v.seen) (sym is) so_far.met;
}

-- A seat that has done nothing, cut into one for each script.

seat_is : (table : TableAt) (view : View) (looked : ℕ) (s : SeatAt) → s.table ≡ table → s.view ≡ view → s.listed ≡ [] → s.looked ≡ looked
    → s ≡ record { table = table; view = view; listed = []; looked = looked }
seat_is table view looked s of_table sees lists looks =
    λ j. record { table = of_table j; view = sees j; listed = lists j; looked = looks j }

-- a split leaves the first place and gives away the others, or the other way about
pub idle_first : (table : TableAt) (place places tickets away given : ℕ) (was s : SeatAt) → was ≡ seat_for table place places tickets
    → s.table ≡ was.table → s.view ≡ first_of away given was.view → s.listed ≡ was.listed → s.looked ≡ was.looked
    → places ≡ away + 1 → s ≡ seat_for table place 1 (tickets - given)
idle_first table place places tickets away given was s is of_table sees lists looks all =
    let one : places - away ≡ 1 = omega arith in
    seat_is table (new_view place 1 (tickets - given) []) (region table.slots table.places place) s
    (of_table ∙ ap (λ (x : SeatAt). x.table) is)
    (sees ∙ ap (λ (x : SeatAt). first_of away given x.view) is ∙ ap (λ n. new_view place n (tickets - given) []) one)
    (lists ∙ ap (λ (x : SeatAt). x.listed) is) (looks ∙ ap (λ (x : SeatAt). x.looked) is)

pub idle_second : (table : TableAt) (place places tickets away given : ℕ) (was s : SeatAt) → was ≡ seat_for table place places tickets
    → s.table ≡ was.table → s.view ≡ second_of away given was.view → s.listed ≡ []
    → s.looked ≡ region was.table.slots was.table.places s.view.allowance.place
    → places ≡ away + 1 → s ≡ seat_for table (place + 1) away given
idle_second table place places tickets away given was s is of_table sees lists looks all =
    let next : place + places - away ≡ place + 1 = omega arith in
    let new : s.view ≡ new_view (place + 1) away given [] =
    sees ∙ ap (λ (x : SeatAt). second_of away given x.view) is ∙ ap (λ n. new_view n away given []) next in
    seat_is table (new_view (place + 1) away given []) (region table.slots table.places (place + 1)) s
    (of_table ∙ ap (λ (x : SeatAt). x.table) is) new lists
    (looks ∙ (λ j. region (is j).table.slots (is j).table.places (new j).allowance.place))

-- ---- tickets

tickets_add : (cookies : Bool) (a b : ℕ) → tickets_for cookies (a + b) ≡ tickets_for cookies a + tickets_for cookies b
tickets_add true a b = omega arith
tickets_add false a b = omega arith

pub tickets_none : (cookies : Bool) → tickets_for cookies 0 ≡ 0
tickets_none true = refl
tickets_none false = refl

-- those for the scripts from number i on are those for this script and for the ones after it
pub tickets_left : (cookies : Bool) (scripts : List (List Op)) (i : ℕ) (script : List Op) → slice_get scripts i ≡ Some script
    → tickets_for cookies (op_count (drop i scripts))
    ≡ tickets_for cookies (length script) + tickets_for cookies (op_count (drop (i + 1) scripts))
tickets_left cookies scripts i script there = ap (tickets_for cookies) (tickets_turn scripts i script there)
    ∙ tickets_add cookies (length script) (op_count (drop (i + 1) scripts))

-- A call of the client of a script is that of the client that it is.

module _ {W G : Type 0} (was now : EitherClient W G) (op : Op) (told answer : Told) (same : told ≡ answer) where
  pub called_waiting : (client after : ClientAt) → was ≡ Waiting client → now ≡ Waiting after → waiting.HasCalled client op answer after
      → HasCalled (seen_as was) op told (seen_as now)
  called_waiting client after is is_now made =
      let call : HasCalled (seen_as {W = W} {G = G} (Waiting client)) op answer (seen_as {W = W} {G = G} (Waiting after)) =
      record { same = refl; made = made } in
      subst (λ c. HasCalled (seen_as c) op told (seen_as now)) (sym is)
      (subst (λ c. HasCalled (seen_as {W = W} {G = G} (Waiting client)) op told (seen_as c)) (sym is_now)
      (subst (λ t. HasCalled (seen_as {W = W} {G = G} (Waiting client)) op t (seen_as {W = W} {G = G} (Waiting after)))
      (sym same) call))

  pub called_holding : (client after : CookieClientAt) → was ≡ Holding client → now ≡ Holding after
      → holding.HasCalled client op answer after → HasCalled (seen_as was) op told (seen_as now)
  called_holding client after is is_now made =
      let call : HasCalled (seen_as {W = W} {G = G} (Holding client)) op answer (seen_as {W = W} {G = G} (Holding after)) =
      record { same = refl; made = made } in
      subst (λ c. HasCalled (seen_as c) op told (seen_as now)) (sym is)
      (subst (λ c. HasCalled (seen_as {W = W} {G = G} (Holding client)) op told (seen_as c)) (sym is_now)
      (subst (λ t. HasCalled (seen_as {W = W} {G = G} (Holding client)) op t (seen_as {W = W} {G = G} (Holding after)))
      (sym same) call))

-- A run of scripts on the tree, from the workers' chains of calls to one explained history.

-- ---- clients before and after the run

-- a client whose seat has done nothing
idle_done : (how : RunWith) (table : TableAt) (i ops : ℕ) → IsDone table i (client_for how table i ops)
idle_done how table i ops = record { table_is = refl; place = refl }

tickets_suffice : (cookies : Bool) (n : ℕ) → n ≤ tickets_last cookies (tickets_for cookies n)
tickets_suffice true n = omega arith
tickets_suffice false n = omega arith

pub ready : (how : RunWith) (table : TableAt) (scripts : List (List Op)) (workers : List (Work ScriptClientAt))
    → IsCrew (client_for how table) scripts workers → AreReadyFor left_of workers scripts
ready how table scripts workers crew = crew_ready (client_for how table) scripts left_of (λ i n. tickets_suffice how.cookies n) workers crew

-- a call leaves the table, and answers as its marks say, whatever the client is
record Tells (before : ScriptClientAt) (op : Op) (told : Told) (after : ScriptClientAt) : Type 0 where
  pub shape : after.tree.shape ≡ before.tree.shape
  pub table : after.tree.table ≡ before.tree.table
  pub answers : HasAnswered (Explains (room_of before.tree.shape)) (script_caller before) op told (script_caller after)

called_tells : (cookies : Bool) (before : ScriptClientAt) (op : Op) (told : Told) (after : ScriptClientAt)
    → CalledBy cookies before op told after → Tells before op told after
called_tells true before op told after call = record {
  shape = ap (λ (c : ClientAt). c.shape) call.same;
  table = ap (λ (c : ClientAt). c.table) call.same;
  answers = called_answers (record { tree = before.tree; cookie = before.cookie }) op told
      (record { tree = after.tree; cookie = after.cookie }) call;
}
called_tells false before op told after call =
    record {
      shape = call.shape;
      table = call.table;
      answers = call_answers before.tree op told after.tree call;
    }

tells : (before : ScriptClientAt) (op : Op) (told : Told) (after : ScriptClientAt) → HasCalled before op told after
    → Tells before op told after
tells before op told after call = called_tells before.cookies before op told after call.made

same_callers : (workers : List (Work ScriptClientAt))
    → map script_caller (map (λ (w : Work ScriptClientAt). w.client) workers)
    ≡ map (λ (w : Work ScriptClientAt). script_caller w.client) workers
same_callers [] = refl
same_callers (w ∷ ws) = ap (λ cs. script_caller w.client ∷ cs) (same_callers ws)

module _ (how : RunWith) (table : TableAt) (scripts : List (List Op)) (befores afters : List (Work ScriptClientAt))
    (crew : IsCrew (client_for how table) scripts befores) (count : length afters ≡ length befores)
    (runs : HaveMade HasCalled befores scripts afters) where
  pub all_done : AreDone (IsDone table) afters
  all_done = crew_keeps (client_for how table) scripts HasCalled befores afters crew count runs (IsDone table)
      (λ i. idle_done how table i (length (get_or scripts i [])))
      (λ i before op told after so call. let t = tells before op told after call in
      record { table_is = t.table ∙ so.table_is; place = t.answers.place ∙ so.place })

-- ---- the joined seat

module _ {how : RunWith} {table : TableAt} {scripts : List (List Op)} {told : List (Roomy Told)} {seat : SeatAt}
    (run : HasRun how table scripts told seat) where
  -- another seat, whose place is no script's, may be joined with it
  pub run_beside : (other both : SeatAt) → KeepsOwn seat.view other.view both.view → IsInformed both.view
      → HasRun how table scripts told both
  run_beside other both keeps informed = record {
    ran = record {
      hired = run.ran.hired;
      workers = run.ran.workers;
      crew = run.ran.crew;
      count = run.ran.count;
      made = run.ran.made;
      told_is = run.ran.told_is;
      joined = joined_other (map (λ (w : Work ScriptClientAt). w.client) run.ran.workers) seat other both run.ran.joined keeps;
    };
    informed = informed;
  }

  -- the chain of a client's calls, from its first one on
  one_told : (i : ℕ) (ops : List Op) (tolds : List Told) (after : ScriptClientAt)
      → IsChain HasCalled (client_for how table i (length ops)) ops tolds after
      → HasTold (Explains (room_of (shape_with how.waiter table))) (first_caller i) ops tolds (script_caller after)
  one_told i ops tolds after chain =
      chain_told HasCalled (λ (c : ScriptClientAt). c.tree)
      (λ before op told next call. let t = tells before op told next call in (t.shape, t.answers))
      (shape_with how.waiter table) ops tolds (client_for how table i (length ops)) after refl refl chain

  -- What a run hands on, where no other place made an update: its updates explain what was told, as far as the table's slots go.
  module _ (others : (p : ℕ) → length scripts ≤ p → updates_of (own_of p seat.view.seen) ≡ []) where
    have_told : HaveTold (Explains (room_of (shape_with how.waiter table))) scripts (entries_of told) seat.view.seen
    have_told = subst (λ ts. HaveTold (Explains (room_of (shape_with how.waiter table))) scripts ts seat.view.seen)
        (sym (ap entries_of run.ran.told_is ∙ entries_are run.ran.workers))
        (crew_has_told (client_for how table) scripts HasCalled run.ran.hired run.ran.workers run.ran.crew run.ran.count run.ran.made
        (Explains (room_of (shape_with how.waiter table))) script_caller one_told
        seat.view.seen (subst (λ cs. HaveMet cs seat.view.seen)
        (same_callers run.ran.workers) run.ran.joined.met) others run.informed.legal)

    pub run_told : map length (entries_of told) ≡ map length scripts
    run_told = run_lengths (Explains (room_of (shape_with how.waiter table))) scripts (entries_of told) seat.view.seen have_told

    pub run_explained : AreExplained (room_of (shape_with how.waiter table)) (updates_of seat.view.seen)
        (all_told_lines scripts (entries_of told))
    run_explained = record {
      updates = run_updates (Explains (room_of (shape_with how.waiter table))) scripts (entries_of told) seat.view.seen have_told;
      confirmed = run_confirmed (Explains (room_of (shape_with how.waiter table))) scripts (entries_of told) seat.view.seen have_told;
      fronts = run_fronts (Explains (room_of (shape_with how.waiter table))) scripts (entries_of told) seat.view.seen have_told;
    }

    pub run_marks : FitsScripts scripts seat.view.seen
    run_marks = run_fits (Explains (room_of (shape_with how.waiter table))) scripts (entries_of told) seat.view.seen have_told

  -- The same where the table has no other place.
  module _ (stays : StaysIn (shape_with how.waiter table) seat.view) (places : table.places ≡ length scripts) where
    no_others : (p : ℕ) → length scripts ≤ p → updates_of (own_of p seat.view.seen) ≡ []
    no_others p past = ap updates_of (stays.others p (omega arith))

    pub alone_explained : {slots : ℕ} {ts : List (Roomy Told)} → table.slots ≡ slots → table.room ≡ 16 → ts ≡ told
        → AreExplainable scripts (entries_of ts) (updates_of seat.view.seen) slots
    alone_explained {slots} {ts} many sixteen same = subst (λ xs. AreExplainable scripts (entries_of xs) (updates_of seat.view.seen) slots)
        (sym same) (record {
          lengths = run_told no_others;
          explained = subst (λ (room : Room). AreExplained room (updates_of seat.view.seen) (all_told_lines scripts (entries_of told)))
              (sixteen_room (shape_with how.waiter table) sixteen ∙ (λ j. record { scripts = places j; slots = many j }))
              (run_explained no_others);
        })

    pub alone_marks : FitsScripts scripts seat.view.seen
    alone_marks = run_marks no_others

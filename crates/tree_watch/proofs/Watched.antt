-- Watched runs: snapshots that are taken one after another, beside a run of scripts, and the text of both.
-- A place more with its slots: what is explained with them is explained without.
use Rattle.std.proofs.Common.{◌≡◌, ℕ, ◌+◌, ◌-◌, ◌*◌, ◌<◌, ◌≤◌, true, false, MatchBool, List, [], ◌∷◌, length, ◌++◌, Option, Some, None, refl, sym, ap, subst, ◌∙◌, arith, append-nil, append_assoc, length-append, inl, inr}
use Rattle.std.specs.List.{AllByRecursion}
use Rattle.prcu_model.specs.declared.operation.Op.{Op}
use Rattle.prcu_model.specs.declared.operation.Op.TheVariants.{Put, Get, Del, Set}
use Rattle.prcu_model.specs.declared.operation.Reply.{Reply}
use Rattle.prcu_model.specs.declared.operation.Reply.TheVariants.{New, Old, Full, Val, Absent, Gone, Was}
use Rattle.prcu_model.specs.declared.operation.Line.{Line}
use Rattle.prcu_model.specs.declared.operation.Update.{Update}
use Rattle.prcu_model.specs.Dictionary.{Dictionary, map_at, Room, Explains, tells_update, IsLegal}
use Rattle.prcu_model.specs.Fronts.{MayStand, MayStandBeside, CanBeNumbered, AreExplained, all_told_lines, AreExplainable, StaysWithin}
use mathlib.Core.List.{IsPrefix}
use Rattle.prcu_model.proofs.ListFacts.{prefix_self, prefix_trans}
use Rattle.prcu_marks.specs.declared.mark.Mark.{Mark}
use Rattle.prcu_marks.specs.Marks.{updates_of, own_of}
use Rattle.prcu_marks.proofs.Callers.{map_at-longer}
use Rattle.prcu_marks.proofs.Marks.{updates_of-append}
use Rattle.core_state.specs.declared.view.Look.{Look}
use Rattle.core_state.specs.declared.view.View.{View}
use Rattle.key_interval.specs.Keys.{Interval}
use Rattle.exact_list.specs.Tries.{Paged, IsWhole, IsPart, IsBetweenFronts, HasStood, Try, HasTried, marks_from, looks_of, looks_from, numbers_of}
use Rattle.exact_list.specs.Pairs.{had_at}
use Rattle.tree_watch.specs.Snapshots.{SnapshotAt, AreFirstPairs, AreSnapshots, OnlyLists, WereLookedAt, HasLookedAt, watch_part, IsWatchText}
use Rattle.core_state.specs.declared.shape.Shape.{Shape}
use Rattle.core_state.specs.declared.act.Act.TheVariants.{LookAtFront, LoadClock}
use Rattle.core_state.specs.Acts.{Asks}
use Rattle.seat_table.specs.Sections.{HasEntered, HasLeft}
use Rattle.seat_table.specs.Gains.{Told as StepTold, StaysIn}
use Rattle.exact_list.proofs.Trying.{entered_try, may_look, first_try, left_try}
use Rattle.core_state.specs.Steps.{both_of}
use Rattle.seat_table.specs.Seats.{TableAt, SeatAt, KeepsOwn}
use Rattle.tree_run.specs.Runs.{seat_for, ScriptClientAt, shape_with, HasRun}
use Rattle.std.proofs.lemmas.Bool.{cases_lt}
use Rattle.std.proofs.lemmas.List.{length-map}
use Rattle.prcu_model.specs.declared.operation.Told.{Told}
use Rattle.prcu_model.specs.Scripts.{Roomy, entries_of}
use Rattle.prcu_marks.specs.Callers.{FitsScripts}
use Rattle.client_run.specs.Crews.{TellOwnUpdates, Work}
use Rattle.list_laws.specs.Counts.{times}
use Rattle.core_state.specs.Views.{places_of}
use Rattle.core_frames.proofs.Roles.{works_there}
use Rattle.tree_run.specs.declared.running.RunWith.{RunWith}
use Rattle.citrus_tree.proofs.Clients.{sixteen_room}
use Rattle.tree_run.proofs.Finished.{run_told, run_explained, run_marks}
use Rattle.account_text.specs.Account.{IsAccount, HaveReplies}
use Rattle.std.specs.FinMap as finite

-- Where a put may be told `full` in the one room, it may in the other.
module _ (one other : Room) (fuller : (n : ℕ) → one.slots ≤ n + 20 * (one.scripts - 1) → other.slots ≤ n + 20 * (other.scripts - 1))
    (us : List Update) where
  explained : (m : Dictionary) (op : Op) (reply : Reply) → Explains one m op reply → Explains other m op reply
  explained m (Put key value) New e = absurd e
  explained m (Put key value) Old e = e
  explained m (Put key value) Full e = fuller (finite.len m) e
  explained m (Put key value) (Val x) e = absurd e
  explained m (Put key value) Absent e = absurd e
  explained m (Put key value) Gone e = absurd e
  explained m (Put key value) (Was x) e = absurd e
  explained m (Get key) New e = absurd e
  explained m (Get key) Old e = absurd e
  explained m (Get key) Full e = absurd e
  explained m (Get key) (Val x) e = e
  explained m (Get key) Absent e = e
  explained m (Get key) Gone e = absurd e
  explained m (Get key) (Was x) e = absurd e
  explained m (Del key) New e = absurd e
  explained m (Del key) Old e = absurd e
  explained m (Del key) Full e = absurd e
  explained m (Del key) (Val x) e = absurd e
  explained m (Del key) Absent e = e
  explained m (Del key) Gone e = absurd e
  explained m (Del key) (Was x) e = absurd e
  explained m (Set key value) New e = absurd e
  explained m (Set key value) Old e = absurd e
  explained m (Set key value) Full e = absurd e
  explained m (Set key value) (Val x) e = absurd e
  explained m (Set key value) Absent e = e
  explained m (Set key value) Gone e = absurd e
  explained m (Set key value) (Was x) e = absurd e

  stands : (before : ℕ) (line : Line) (number : ℕ) → MayStand one us before line number → MayStand other us before line number
  stands before line number may =
      elim (tells_update line.reply) as (λ b. MatchBool b ((number ≡ line.number) × (before < number))
      ((before ≤ number) × (number ≤ length us) × Explains one (map_at us number) line.op line.reply)
      → MatchBool b ((number ≡ line.number) × (before < number))
      ((before ≤ number) × (number ≤ length us) × Explains other (map_at us number) line.op line.reply)) [
        | true ↦ λ m. m
        | false ↦ λ m. (m.0, m.1, explained (map_at us number) line.op line.reply m.2)
      ] may

  stand : (before : ℕ) (lines : List Line) (numbers : List ℕ) → MayStandBeside one us before lines numbers
      → MayStandBeside other us before lines numbers
  stand before [] [] beside = tt
  stand before [] (n ∷ numbers) beside = absurd beside
  stand before (line ∷ lines) [] beside = absurd beside
  stand before (line ∷ lines) (n ∷ numbers) beside = (stands before line n beside.0, stand n lines numbers beside.1)

  numbered : (scripts : List (List Line)) → AllByRecursion (CanBeNumbered one us) scripts → AllByRecursion (CanBeNumbered other us) scripts
  numbered [] all = tt
  numbered (lines ∷ scripts) all = ((all.0.0, stand 0 lines all.0.0 all.0.1), numbered scripts all.1)

  pub explained_too : (scripts : List (List Line)) → AreExplained one us scripts → AreExplained other us scripts
  explained_too scripts are = record { updates = are.updates; confirmed = are.confirmed; fronts = numbered scripts are.fronts }

-- Snapshots taken one after another by a seat that sees more and more updates.

-- the marks of tries tell of no update
no_update : (place section key : ℕ) (ts : List Try) → updates_of (marks_from place section key ts) ≡ []
no_update place section key [] = refl
no_update place section key (t ∷ ts) = no_update place (section + 1) key ts

pub only_self : (v : View) → OnlyLists v v
only_self v = record { allowance = refl; seen = prefix_self v.seen; looks = prefix_self v.looks; own = refl }

pub only_trans : (u v w : View) → OnlyLists u v → OnlyLists v w → OnlyLists u w
only_trans u v w first second = record {
  allowance = second.allowance ∙ first.allowance;
  seen = prefix_trans u.seen v.seen w.seen first.seen second.seen;
  looks = prefix_trans u.looks v.looks w.looks first.looks second.looks;
  own = subst (λ p. updates_of (own_of p w.seen) ≡ updates_of (own_of p v.seen)) (ap (λ a. a.place) first.allowance) second.own ∙ first.own;
}

-- a list is made of sections alone
pub only_tried : (v w : View) (key : ℕ) (ts : List Try) → HasTried v key ts w → OnlyLists v w
only_tried v w key ts t = record {
  allowance = ap (λ (x : View). x.allowance) t.others;
  seen = t.seen;
  looks = (looks_from v.allowance.place v.counts.sections ts, sym t.looks);
  own = ap updates_of t.own ∙ updates_of-append (own_of v.allowance.place v.seen) (marks_from v.allowance.place v.counts.sections key ts)
      ∙ ap (λ us. updates_of (own_of v.allowance.place v.seen) ++ us) (no_update v.allowance.place v.counts.sections key ts)
      ∙ append-nil (updates_of (own_of v.allowance.place v.seen));
}

-- ---- snapshots of longer histories

had_longer : (us more : List Update) (front : ℕ) → front ≤ length us → had_at us front ≡ had_at (us ++ more) front
had_longer us more front within = (let get : Dictionary → ℕ → Option ℕ = λ m key. finite.get m key in
    sym (ap get (map_at-longer us more front within)))

module _ (low high : ℕ) where
  pub snapshots_since : (us : List Update) (since later : ℕ) (ss : List SnapshotAt) → since ≤ later → AreSnapshots us low high later ss
      → AreSnapshots us low high since ss
  snapshots_since us since later [] less are = tt
  snapshots_since us since later (s ∷ ss) less are = ((let from = are.0 in omega arith), are.1, are.2, are.3)

  pub snapshots_longer : (us more : List Update) (since : ℕ) (ss : List SnapshotAt) → AreSnapshots us low high since ss
      → AreSnapshots (us ++ more) low high since ss
  snapshots_longer us more since [] are = tt
  snapshots_longer us more since (s ∷ ss) are = (
    are.0,
    (let within = are.1 in omega (arith, length-append us more)),
    subst (λ (map : ℕ → Option ℕ). AreFirstPairs map low high s.pairs s.next) (had_longer us more s.front are.1) are.2,
    snapshots_longer us more s.front ss are.3,
  )

  -- one, and then others of a history that begins with that of the first
  pub snapshots_next : (a b : List Mark) (since : ℕ) (s : SnapshotAt) (ss : List SnapshotAt) → IsPrefix a b
      → AreSnapshots (updates_of a) low high since (s ∷ []) → AreSnapshots (updates_of b) low high (length (updates_of a)) ss
      → AreSnapshots (updates_of b) low high since (s ∷ ss)
  snapshots_next a b since s ss begins first others =
      let whole : updates_of a ++ updates_of begins.0 ≡ updates_of b = sym (updates_of-append a begins.0) ∙ ap updates_of begins.1 in
      let one = subst (λ us. AreSnapshots us low high since (s ∷ [])) whole
      (snapshots_longer (updates_of a) (updates_of begins.0) since (s ∷ []) first) in
      (one.0, one.1, one.2, snapshots_since (updates_of b) s.front (length (updates_of a)) ss first.1 others)

  pub snapshots_seen : (a b : List Mark) (since : ℕ) (ss : List SnapshotAt) → IsPrefix a b → AreSnapshots (updates_of a) low high since ss
      → AreSnapshots (updates_of b) low high since ss
  snapshots_seen a b since ss begins are =
      subst (λ us. AreSnapshots us low high since ss) (sym (updates_of-append a begins.0) ∙ ap updates_of begins.1)
      (snapshots_longer (updates_of a) (updates_of begins.0) since ss are)

-- ---- what a list answered is a snapshot

pub whole_taken : (keys : Interval) (before now : List Mark) (front : ℕ) (page : Paged) → page.capacity ≡ 4096 → IsWhole keys now front page
    → IsBetweenFronts front before now
    → AreSnapshots (updates_of now) keys.low keys.high (length (updates_of before))
    (record { front = front; pairs = page.pairs; next = None } ∷ [])
whole_taken keys before now front page room whole between = (between.0, between.1, (whole.pairs, (let fit = whole.fit in omega arith)), tt)

pub part_taken : (keys : Interval) (before now : List Mark) (front next : ℕ) (page : Paged) → page.capacity ≡ 4096
    → IsPart keys now front next page → IsBetweenFronts front before now
    → AreSnapshots (updates_of now) keys.low keys.high (length (updates_of before))
    (record { front = front; pairs = page.pairs; next = Some next } ∷ [])
part_taken keys before now front next page room part between =
    (between.0, between.1, (part.pairs, part.full ∙ room, part.inside, part.there), tt)

-- ---- the looks by which snapshots were found

-- the looks of tries end with those of the last one
last_looks : (place section : ℕ) (ts : List Try) (t : Try)
    → (last : ℕ) × (before : List Look) × (looks_from place section (ts ++ t ∷ []) ≡ before ++ looks_of place last (numbers_of t))
last_looks place section [] t = (section, [], append-nil (looks_of place section (numbers_of t)))
last_looks place section (u ∷ us) t =
    let rest = last_looks place (section + 1) us t in
    let these = looks_of place section (numbers_of u) in
    (rest.0, these ++ rest.1, ap (λ l. these ++ l) rest.2 ∙ sym (append_assoc these rest.1 (looks_of place rest.0 (numbers_of t))))

-- a list that counted, after other looks
pub looked_stood : (u v w : View) (key most : ℕ) (s : SnapshotAt) (ts : List Try) → OnlyLists u v → HasTried v key ts w
    → HasStood s.front most ts → HasLookedAt u w (s ∷ [])
looked_stood u v w key most s ts only tried stood =
    let place : v.allowance.place ≡ u.allowance.place = ap (λ a. a.place) only.allowance in
    let n = v.counts.sections in
    let p = u.allowance.place in
    let t : Try = record { first = 2 * s.front; second = Some (2 * s.front) } in
    let last = last_looks p n stood.1.0 t in
    let earlier = only.looks.0 in
    let ends : looks_from v.allowance.place n ts ≡ last.1 ++ looks_of p last.0 (numbers_of t) =
    ap (λ q. looks_from q n ts) place ∙ ap (looks_from p n) stood.1.2 ∙ last.2 in
    record {
      since = earlier ++ looks_from v.allowance.place n ts;
      added = tried.looks ∙ ap (λ l. l ++ looks_from v.allowance.place n ts) (sym only.looks.1)
          ∙ append_assoc u.looks earlier (looks_from v.allowance.place n ts);
      found = (
        last.0,
        earlier ++ last.1,
        [],
        ap (λ l. earlier ++ l) ends
            ∙ sym (append_assoc earlier last.1 (looks_of p last.0 (numbers_of t))),
        tt,
      );
    }

-- other looks may stand before
pub looked_later : (place : ℕ) (before looks : List Look) (ss : List SnapshotAt) → WereLookedAt place looks ss
    → WereLookedAt place (before ++ looks) ss
looked_later place before looks [] were = tt
looked_later place before looks (s ∷ ss) were =
    (were.0, before ++ were.1, were.2, ap (λ l. before ++ l) were.3 ∙ sym (append_assoc before were.1 _), were.4)

-- one, and then others
pub looked_next : (u v w : View) (s : SnapshotAt) (ss : List SnapshotAt) → OnlyLists u v → HasLookedAt u v (s ∷ []) → HasLookedAt v w ss
    → HasLookedAt u w (s ∷ ss)
looked_next u v w s ss only first others =
    let one = first.found in
    let more = others.since in
    record {
      since = first.since ++ more;
      added = others.added ∙ ap (λ l. l ++ more) first.added ∙ append_assoc u.looks first.since more;
      found = (
        one.0,
        one.1,
        one.2 ++ more,
        ap (λ l. l ++ more) one.3 ∙ append_assoc one.1 _ more,
        looked_later u.allowance.place one.2 more ss (subst (λ p. WereLookedAt p more ss) (ap (λ a. a.place) only.allowance) others.found),
      );
    }

-- A look at the front in a section of its own.

pub may_look_first : (k : Shape) (v : View) (key : ℕ) (w : View) → HasEntered v key w → Asks k w LookAtFront
may_look_first k v key w entered = may_look v key [] w (entered_try v key w entered) k

-- the section is entered and left, and the front looked at once
module _ (k : Shape) (v : View) (key : ℕ) (entered : View) (found : ℕ) (looked left : View) (outside : v.section ≡ None)
    (enters : HasEntered v key entered) (tells : StepTold k entered LookAtFront found looked) (leaves : HasLeft looked left) where
  looked_once : HasTried v key (record { first = found; second = None } ∷ []) left
  looked_once = left_try v key (found ∷ []) looked (first_try k v key key entered found looked refl enters tells) left outside leaves
      (record { first = found; second = None }) refl

  pub only_looked : OnlyLists v left
  only_looked = only_tried v left key (record { first = found; second = None } ∷ []) looked_once

-- The looks of the seat that took the snapshots, in the joined seat.

-- A join puts them behind those of the scripts' seat.
pub joined_looked : (k : Shape) (table : TableAt) (place clock : ℕ) (seat lister both : SeatAt) (ss : List SnapshotAt)
    → StepTold k (both_of seat.view lister.view) LoadClock clock both.view
    → HasLookedAt (seat_for table place 1 0).view lister.view ss → WereLookedAt place both.view.looks ss
joined_looked k table place clock seat lister both ss told looked =
    let joined : both.view.looks ≡ seat.view.looks ++ looked.since =
    ap (λ (v : View). v.looks) told.goes ∙ ap (λ l. seat.view.looks ++ l) looked.added in
    subst (λ l. WereLookedAt place l ss) (sym joined) (looked_later place seat.view.looks looked.since ss looked.found)

-- A watched run, from the scripts' run and the snapshots beside it to one explained history.

-- What a watched run's seat and a history that was merged from what was told have to do with each other.
pub record IsMerged (scripts : List (List Op)) (told : List (Roomy Told)) (seat : SeatAt) (slots : ℕ) (history : List Update) : Type 0 where
  pub history_is : history ≡ updates_of seat.view.seen
  pub explained : AreExplainable scripts (entries_of told) history slots
  pub legal : IsLegal history
  pub within : StaysWithin history (slots + 20)
  pub marks : FitsScripts scripts seat.view.seen

-- no place but the scripts' made an update
others : (how : RunWith) (table : TableAt) (scripts : List (List Op)) (seat : SeatAt) {count : ℕ}
    → StaysIn (shape_with how.waiter table) seat.view → updates_of (own_of (length scripts) seat.view.seen) ≡ [] → table.places ≡ count + 1
    → count ≡ length scripts
    → (p : ℕ) → length scripts ≤ p → updates_of (own_of p seat.view.seen) ≡ []
others how table scripts seat {count} stays idle few all p past = elim (cases_lt p (length scripts + 1)) [
  | inl here ↦ (let same : length scripts ≡ p = omega arith in subst (λ q. updates_of (own_of q seat.view.seen) ≡ []) same idle)
  | inr far ↦ ap updates_of (stays.others p (omega (arith, few, all, far)))
]

module _ {how : RunWith} {table : TableAt} {scripts : List (List Op)} {told : List (Roomy Told)} {seat : SeatAt} {slots count tickets : ℕ}
    (run : HasRun how table scripts told seat) (stays : StaysIn (shape_with how.waiter table) seat.view)
    (idle : updates_of (own_of (length scripts) seat.view.seen) ≡ []) (some : 1 ≤ length scripts)
    (made : (table.slots ≡ slots + 20) × (table.places ≡ count + 1) × (table.tickets ≡ tickets)) (sixteen : table.room ≡ 16) (all : count ≡ length scripts) where
  watched : AreExplainable scripts (entries_of told) (updates_of seat.view.seen) slots
  watched = record {
    lengths = run_told run (others how table scripts seat stays idle made.1 all);
    explained = explained_too (record { scripts = table.places; slots = table.slots }) (record { scripts = length scripts; slots = slots })
        (λ n full. (let many = made.0 in let few = made.1 in omega (arith, many, few, all, full))) (updates_of seat.view.seen) _
        (subst (λ (room : Room). AreExplained room (updates_of seat.view.seen) (all_told_lines scripts (entries_of told)))
        (sixteen_room (shape_with how.waiter table) sixteen) (run_explained run (others how table scripts seat stays idle made.1 all)));
  }

  -- with what was told as it is where it is read
  pub watched_explained : {ts : List (Roomy Told)} → ts ≡ told → AreExplainable scripts (entries_of ts) (updates_of seat.view.seen) slots
  watched_explained same = subst (λ xs. AreExplainable scripts (entries_of xs) (updates_of seat.view.seen) slots) (sym same) watched

  -- with the history that was merged
  pub watched_merged : {ts : List (Roomy Told)} {history : List Update} → ts ≡ told
      → ((us : List Update) → TellOwnUpdates us (all_told_lines scripts (entries_of ts)) → history ≡ us)
      → IsMerged scripts told seat slots history
  watched_merged same only =
      let history_is = only (updates_of seat.view.seen) (watched_explained same).explained.updates in
      record {
        history_is = history_is;
        explained = subst (λ us. AreExplainable scripts (entries_of told) us slots) (sym history_is) watched;
        legal = subst IsLegal (sym history_is) run.informed.legal;
        within = subst (λ us. StaysWithin us (slots + 20)) (sym history_is)
            (subst (StaysWithin (updates_of seat.view.seen)) made.0 stays.within);
        marks = run_marks run (others how table scripts seat stays idle made.1 all);
      }

-- ---- the place of the snapshots

lists_there : (table : TableAt) (place : ℕ) (lister : SeatAt) → OnlyLists (seat_for table place 1 0).view lister.view
    → 1 ≤ times place (places_of lister.view)
lists_there table place lister only = subst (λ q. 1 ≤ times q (places_of lister.view)) (ap (λ a. a.place) only.allowance)
    (works_there lister.view (let n = ap (λ a. a.places) only.allowance in omega arith))

-- It made no update, by what the joined seat has seen.
pub joined_idle : (table : TableAt) (place : ℕ) (seat lister both : SeatAt) → OnlyLists (seat_for table place 1 0).view lister.view
    → KeepsOwn seat.view lister.view both.view → updates_of (own_of place both.view.seen) ≡ []
joined_idle table place seat lister both only keeps =
    ap updates_of (keeps.second_own place (lists_there table place lister only)) ∙ only.own

-- The joined seat answers for it, as for the scripts' places.
module _ {how : RunWith} {table : TableAt} {scripts : List (List Op)} {told : List (Roomy Told)} {seat : SeatAt}
    (run : HasRun how table scripts told seat) where
  script_answers : (p : ℕ) → p < length scripts → 1 ≤ times p (places_of seat.view)
  script_answers p inside =
      let clients = length-map run.ran.workers (λ (w : Work ScriptClientAt). w.client) in
      let count = run.ran.count in
      let hired = run.ran.crew.count in
      run.ran.joined.answers p (omega (arith, clients, count, hired, inside))

  pub joined_answers : (lister both : SeatAt) → OnlyLists (seat_for table (length scripts) 1 0).view lister.view
      → KeepsOwn seat.view lister.view both.view → (p : ℕ) → p < length scripts + 1 → 1 ≤ times p (places_of both.view)
  joined_answers lister both only keeps p inside = elim (cases_lt p (length scripts)) [
    | inl script ↦ (let n = keeps.places p in let has = script_answers p script in omega (arith, n, has))
    | inr last ↦
        let same : length scripts ≡ p = omega (arith, inside, last) in
        let has : 1 ≤ times p (places_of lister.view) =
        subst (λ q. 1 ≤ times q (places_of lister.view)) same (lists_there table (length scripts) lister only) in
        let n = keeps.places p in
        omega (arith, n, has)
  ]

-- A watch text from its account and its snapshots.

pub watch_made : (scripts : List (List Op)) (slots low high : ℕ) (told : List (List Told)) (history : List Update) (account text : List ℕ)
    (snapshots : List SnapshotAt) → length snapshots ≡ 4 → AreSnapshots history low high 0 snapshots
    → (a : IsAccount scripts slots account) × (a.history ≡ history) × HaveReplies told a.lines
    → text ≡ account ++ watch_part low high snapshots
    → (watch : IsWatchText scripts slots low high text) × (watch.account.history ≡ history) × (watch.snapshots ≡ snapshots)
    × HaveReplies told watch.account.lines
watch_made scripts slots low high told history account text snapshots four taken a printed = (
  record {
    account_text = account;
    account = a.0;
    snapshots = snapshots;
    four = four;
    taken = subst (λ us. AreSnapshots us low high 0 snapshots) (sym a.1) taken;
    printed = printed;
  },
  a.1,
  refl,
  a.2,
)

-- What runs write and leave.
use Rattle.std.proofs.Common.{◌≡◌, ℕ, List, length, Option, Some, None, sym, ap, subst, ◌∙◌, zero, suc, ◌≤◌, false, [], ◌∷◌, refl, arith, ◌+◌, map}
use Rattle.std.proofs.lemmas.List.{length-map}
use Rattle.prcu_model.specs.declared.operation.Op.{Op}
use Rattle.prcu_model.specs.Fronts.{AreExplained, ops_of, LacksFull, StaysWithin, AreExplainable}
use Rattle.prcu_model.specs.Scripts.{default_slots_of, Roomy, entries_of}
use Rattle.prcu_model.proofs.Dictionaries.{LacksFull-from_explained, StaysWithin-from_explained}
use Rattle.account_text.specs.Account.{IsAccount, HaveReplies}
use Rattle.command_words.specs.Commands.{slots_of}
use Rattle.std.specs.Ordering.{nat_cmp}
use Rattle.prcu_model.specs.declared.operation.Line.{Line}
use Rattle.prcu_model.specs.declared.operation.Told.{Told}
use Rattle.prcu_model.specs.declared.operation.Update.{Update}
use Rattle.core_machine.specs.Laws.{IsOfSchedule}
use Rattle.prcu_model.specs.Dictionary.{map_at}
use Rattle.script_text.specs.Grammar.{IsScriptText, IsScriptTextUpTo, lines_of}
use Rattle.class_hash.specs.Seats.{SeatAt, TableAt}
use Rattle.core_state.specs.declared.shape.Waiter.{Waiter}
use Rattle.core_state.specs.declared.shape.Waiter.TheVariants.{Eer, Domain, Deer}
use Rattle.hash_core.specs.Steps.{IsQuiet}
use Rattle.command_words.specs.declared.commands.Command.{Command}
use Rattle.command_words.specs.declared.commands.Command.TheVariants.{Run, Check, Load, Watch, Hash as HashCommand}
use Rattle.command_words.specs.declared.commands.Mode.{Mode}
use Rattle.command_words.specs.declared.commands.Mode.TheVariants.{Threads, Schedule}
use Rattle.command_words.specs.declared.statuses.Status.TheVariants.{Done}
use Rattle.tree_run.specs.declared.running.RunWith.{RunWith}
use Rattle.citrus_tool.specs.declared.outcome.Ran.{Ran}
use Rattle.citrus_tool.specs.declared.outcome.Ran.TheVariants.{Nothing, Hash}
use Rattle.citrus_tool.specs.Answers.{AccountsFor, Writes, Leaves, Answered, DrawnTextsAreOne}
use Rattle.citrus_tool.specs.Leavings.{LeavesSome, RunsBy, RunsInThreads, IsDrawn, IsSummedUp, LeavesMade, IsLeftOf, LeavesHash, IsTreeLeftOf, LeavesTree, tree_with, IsWatchedTree, LeavesWatched}
use Rattle.tree_watch.specs.Snapshots.{SnapshotAt, AreSnapshots, none_yet, IsWatchText}
use Rattle.script_text.proofs.ScriptTexts.{one_reading}
use Rattle.account_text.proofs.Accounts.{accounts_are_one}
use Rattle.core_machine.proofs.DrawnRuns.{schedules_are_one}
use Rattle.std.specs.FinMap as finite
use Rattle.seat_table.specs.Seats as tree

-- What follows from how many slots scripts share.

-- with the default slots no line says `full`
pub never_full : (limit : Option ℕ) (scripts : List (List Op)) (text : List ℕ) (account : IsAccount scripts (slots_of limit scripts) text)
    → limit ≡ None → LacksFull account.lines
never_full None scripts text account is =
    let count : length scripts ≡ length account.lines = ap length (sym account.ops) ∙ length-map account.lines ops_of in
    LacksFull-from_explained account.history account.lines
    (subst (λ s. AreExplained (record { scripts = length account.lines; slots = default_slots_of s }) account.history account.lines)
    (sym account.ops)
    (subst (λ n. AreExplained (record {
      scripts = n;
      slots = default_slots_of scripts;
    }) account.history account.lines) count account.explained))
never_full (Some most) scripts text account is = absurd (cc)

-- with the default slots the pairs are at most the slots, whatever run made the account
pub within_default : (scripts : List (List Op)) (text : List ℕ) (account : IsAccount scripts (default_slots_of scripts) text)
    → StaysWithin account.history (default_slots_of scripts)
within_default scripts text account =
    subst (λ s. StaysWithin account.history (default_slots_of s)) account.ops
    (StaysWithin-from_explained (record {
      scripts = length scripts;
      slots = default_slots_of scripts;
    }) account.history account.lines account.explained)

-- What runs leave.

pub some_left : (scripts : List (List Op)) (ran : Ran) (left : Type 0) → 1 ≤ length scripts → left → LeavesSome scripts ran left
some_left [] ran left some is = absurd (omega arith)
some_left (script ∷ scripts) ran left some is = is

-- of the waiter that was chosen
module _ (how : RunWith) (chosen : Waiter) (scripts : List (List Op)) (slots places : ℕ) (told : List (Roomy Told)) (history : List Update)
    (table : tree.TableAt) (seat : tree.SeatAt) where
  tree_left : how.waiter ≡ chosen → 1 ≤ length scripts
      → IsTreeLeftOf (record { waiter = chosen; cookies = how.cookies }) scripts slots places told history table seat
      → LeavesTree how scripts slots places told history (tree_with chosen table seat)
  tree_left is some left =
      subst (λ w. LeavesTree (record { waiter = w; cookies = how.cookies }) scripts slots places told history (tree_with chosen table seat))
      (sym is) (some_left scripts (tree_with chosen table seat) _ some (table, seat, refl, left))

pub none_within : (slots front : ℕ) → finite.len (map_at [] front) ≤ slots
none_within slots zero = let none = finite.len-empty nat_cmp ℕ in omega (arith, none)
none_within slots (suc front) = let none = finite.len-empty nat_cmp ℕ in omega (arith, none)

-- An account was made of a run, by the lists and the history that were read where they had been put.
module _ {scripts : List (List Op)} {slots : ℕ} {text : List ℕ} {told given : List (Roomy Told)} {history seen : List Update}
    (same_told : given ≡ told) (same_history : seen ≡ history)
    (written : (account : IsAccount scripts slots text) × (account.history ≡ seen) × HaveReplies (entries_of given) account.lines) where
  history_is : history ≡ written.0.history
  history_is = sym (written.1 ∙ same_history)

  replies_are : HaveReplies (entries_of told) written.0.lines
  replies_are = subst (λ t. HaveReplies (entries_of t) written.0.lines) same_told written.2

  -- the run's tree beside it
  pub tree_beside : (how : RunWith) (places : ℕ) (table : tree.TableAt) (seat : tree.SeatAt) → StaysWithin history slots
      → IsTreeLeftOf how scripts slots places told history table seat
      → (account : IsAccount scripts slots text) × StaysWithin account.history slots
      × ((told : List (Roomy Told)) × IsTreeLeftOf how scripts slots places told account.history table seat
      × HaveReplies (entries_of told) account.lines)
  tree_beside how places table seat within left = (
    written.0,
    subst (λ h. StaysWithin h slots) history_is within,
    (told, subst (λ h. IsTreeLeftOf how scripts slots places told h table seat) history_is left, replies_are),
  )

  -- the hash dictionary beside it
  pub table_beside : (table : TableAt) (seat : SeatAt) → 1 ≤ length scripts → slots ≡ default_slots_of scripts
      → IsLeftOf scripts told history table seat
      → (account : IsAccount scripts (default_slots_of scripts) text) × LeavesHash scripts account.lines account.history (Hash table seat)
  table_beside table seat some shared left = subst (λ s. (account : IsAccount scripts s text)
      × LeavesHash scripts account.lines account.history (Hash table seat)) shared (
        written.0,
        (
          told,
          some_left scripts (Hash table seat) _ some (table, seat, refl, subst (λ h. IsLeftOf scripts told h table seat) history_is left),
          replies_are,
        ),
      )

-- what a run tells explains the same, read where it was put
pub explained_as : (scripts : List (List Op)) (told seen : List (Roomy Told)) (history others : List Update) (slots : ℕ) → seen ≡ told
    → others ≡ history → AreExplainable scripts (entries_of told) history slots → AreExplainable scripts (entries_of seen) others slots
explained_as scripts told seen history others slots same_told same_history explained =
    subst (λ t. AreExplainable scripts (entries_of t) others slots) (sym same_told)
    (subst (λ h. AreExplainable scripts (entries_of told) h slots) (sym same_history) explained)

-- The tree of the waiter that was chosen is what is left.
pub in_tree : (how : RunWith) (chosen : Waiter) (scripts : List (List Op)) (slots : ℕ) (text : List ℕ) (table : tree.TableAt)
    (seat : tree.SeatAt) → how.waiter ≡ chosen → 1 ≤ length scripts
    → (account : IsAccount scripts slots text) × StaysWithin account.history slots
    × ((told : List (Roomy Told)) × IsTreeLeftOf (record { waiter = chosen; cookies = how.cookies }) scripts slots
    (length scripts) told account.history table seat × HaveReplies (entries_of told) account.lines)
    → (account : IsAccount scripts slots text) × StaysWithin account.history slots
    × RunsInThreads how scripts slots account.lines account.history (tree_with chosen table seat)
in_tree how chosen scripts slots text table seat is some made = (
  made.0,
  made.1,
  (made.2.0, tree_left how chosen scripts slots (length scripts) made.2.0 made.0.history table seat is some made.2.1, made.2.2),
)

-- an account with that history and those replies, which are drawn
pub drawn_account : (scripts : List (List Op)) (slots number : ℕ) (told : List (List Told)) (history : List Update) (text : List ℕ)
    → 1 ≤ length scripts → StaysWithin history slots → IsOfSchedule scripts slots number told history
    → (account : IsAccount scripts slots text) × (account.history ≡ history) × HaveReplies told account.lines
    → (account : IsAccount scripts slots text) × StaysWithin account.history slots
    × IsDrawn scripts slots number account.lines account.history
drawn_account scripts slots number told history text some within drawn account = (
  account.0,
  subst (λ h. StaysWithin h slots) (sym account.1) within,
  subst (IsDrawn scripts slots number account.0.lines) (sym account.1) (by scripts some drawn),
)
  where
    by : (scripts : List (List Op)) → 1 ≤ length scripts → IsOfSchedule scripts slots number told history
        → IsDrawn scripts slots number account.0.lines history
    by [] some drawn = absurd (omega arith)
    by (script ∷ scripts) some drawn = (told, drawn, account.2)

-- the same on the hash dictionary
pub none_hashed : (scripts : List (List Op)) (slots : ℕ) (text : List ℕ) → length scripts ≡ 0 → slots ≡ default_slots_of scripts
    → (account : IsAccount scripts slots text) × (account.history ≡ []) × HaveReplies [] account.lines
    → (account : IsAccount scripts (default_slots_of scripts) text) × LeavesHash scripts account.lines account.history Nothing
none_hashed [] slots text none shared written =
    subst (λ s. (account : IsAccount [] s text) × LeavesHash [] account.lines account.history Nothing) shared
    (written.0, ([], refl, written.2))
none_hashed (script ∷ scripts) slots text none shared written = absurd (omega (arith, none))

-- the account of a script text, and what is left beside it
pub run_written : (limit : Option ℕ) (mode : Mode) (scripts : List (List Op)) (slots : ℕ) (input text : List ℕ) (ran : Ran)
    → IsScriptText input scripts → slots ≡ slots_of limit scripts
    → (account : IsAccount scripts slots text) × StaysWithin account.history slots
    × RunsBy mode scripts slots account.lines account.history ran
    → (writes : Writes (Run limit mode) Done input text) × Leaves (Run limit mode) Done input text writes ran
run_written limit mode scripts slots input text ran read shared made =
    let m = subst (λ s. (account : IsAccount scripts s text) × StaysWithin account.history s
    × RunsBy mode scripts s account.lines account.history ran) shared made in
    by mode m.0 m.1 m.2
  where
    accounts : (account : IsAccount scripts (slots_of limit scripts) text) → StaysWithin account.history (slots_of limit scripts)
        → AccountsFor limit input text
    accounts account within = record {
      scripts = scripts;
      read = read;
      account = account;
      never_full = never_full limit scripts text account;
      within_slots = within;
    }

    by : (mode : Mode) (account : IsAccount scripts (slots_of limit scripts) text) → StaysWithin account.history (slots_of limit scripts)
        → RunsBy mode scripts (slots_of limit scripts) account.lines account.history ran
        → (writes : Writes (Run limit mode) Done input text) × Leaves (Run limit mode) Done input text writes ran
    by (Threads waiter cookies) account within runs = (accounts account within, runs)
    by (Schedule number) account within runs = (record { accounts = accounts account within; drawn = runs.1 }, runs.0)

-- the same of a made workload
pub made_left : (waiter chosen : Waiter) (scripts : List (List Op)) (table : tree.TableAt) (seat : tree.SeatAt) → waiter ≡ chosen
    → 1 ≤ length scripts
    → (told : List (Roomy Told)) × (history : List Update)
    × IsTreeLeftOf (record { waiter = chosen; cookies = false }) scripts (default_slots_of scripts)
    (length scripts) told history table seat × IsSummedUp scripts told history
    → LeavesMade waiter scripts (tree_with chosen table seat)
made_left waiter chosen scripts table seat is some left = record {
  told = left.0;
  history = left.1;
  left = tree_left (record { waiter = waiter; cookies = false }) chosen scripts (default_slots_of scripts)
      (length scripts) left.0 left.1 table seat is some left.2;
  summed = left.3;
}

-- a run without scripts
runs_nothing : (mode : Mode) (scripts : List (List Op)) (slots : ℕ) (lines : List (List Line)) → length scripts ≡ 0 → HaveReplies [] lines
    → RunsBy mode scripts slots lines [] Nothing
runs_nothing (Threads waiter cookies) [] slots lines none replies = ([], refl, replies)
runs_nothing (Schedule number) [] slots lines none replies = (refl, refl)
runs_nothing mode (script ∷ scripts) slots lines none replies = absurd (omega (arith, none))

pub none_left : (mode : Mode) (scripts : List (List Op)) (slots : ℕ) (text : List ℕ) → length scripts ≡ 0
    → (account : IsAccount scripts slots text) × (account.history ≡ []) × HaveReplies [] account.lines
    → (account : IsAccount scripts slots text) × StaysWithin account.history slots
    × RunsBy mode scripts slots account.lines account.history Nothing
none_left mode scripts slots text none written = (
  written.0,
  subst (λ h. StaysWithin h slots) (sym written.1) (λ front at. none_within slots front),
  subst (λ h. RunsBy mode scripts slots written.0.lines h Nothing) (sym written.1)
      (runs_nothing mode scripts slots written.0.lines none written.2),
)

seat_ready : (scripts : List (List Op)) (lines : List (List Line)) (history : List Update) (table : TableAt) (seat : SeatAt)
    → LeavesHash scripts lines history (Hash table seat) → (seat.table ≡ table.id) × IsQuiet seat.view
seat_ready [] lines history table seat made = let e = made.1 in absurd (cc)
seat_ready (script ∷ scripts) lines history table seat made =
    let left = made.1 in
    let same_table : left.0 ≡ table = (let e = left.2 in cc) in
    let same_seat : left.1 ≡ seat = (let e = left.2 in cc) in
    subst (λ (z : TableAt × SeatAt). (z.1.table ≡ z.0.id) × IsQuiet z.1.view) (λ i. (same_table i, same_seat i))
    (left.3.of_table, left.3.quiet)

-- no tree is a table of the hash dictionary
no_tree : (waiter : Waiter) (scripts : List (List Op)) (P : tree.TableAt → tree.SeatAt → Type 0) (table : TableAt) (seat : SeatAt)
    → LeavesSome scripts (Hash table seat) ((t : tree.TableAt) × (s : tree.SeatAt) × (Hash table seat ≡ tree_with waiter t s) × P t s) → ⊥
no_tree waiter [] P table seat left = absurd (cc)
no_tree Eer (script ∷ scripts) P table seat left = let e = left.2 in absurd (cc)
no_tree Domain (script ∷ scripts) P table seat left = let e = left.2 in absurd (cc)
no_tree Deer (script ∷ scripts) P table seat left = let e = left.2 in absurd (cc)

-- a seat that a run on the hash dictionary leaves may go on
pub left_ready : (words : List (List ℕ)) (a b c d : Option (List ℕ)) (ran : Ran) (table : TableAt) (seat : SeatAt)
    → Answered words Done a b c d ran → ran ≡ Hash table seat → (seat.table ≡ table.id) × IsQuiet seat.view
left_ready words a b c d ran table seat answered is =
    by answered.command answered.answered.input answered.answered.text answered.answered.answers
    (subst (Leaves answered.command Done answered.answered.input answered.answered.text answered.answered.answers) is
    answered.answered.leaves)
  where
    by : (command : Command) (input text : List ℕ) (writes : Writes command Done input text)
        → Leaves command Done input text writes (Hash table seat) → (seat.table ≡ table.id) × IsQuiet seat.view
    by (Run slots (Threads waiter cookies)) input text writes left = absurd (no_tree waiter writes.scripts _ table seat left.1)
    by (Run slots (Schedule number)) input text writes left = absurd (cc)
    by (Check slots) input text writes left = absurd (cc)
    by (Load number scripts ops waiter) input text writes left = absurd (no_tree waiter _ _ table seat left.left)
    by (Watch low high slots waiter) input text writes left = absurd (no_tree waiter writes.scripts _ table seat left.1)
    by HashCommand input text writes left = seat_ready writes.scripts writes.account.lines writes.account.history table seat left

-- What a watched run writes and leaves.

-- a dictionary that nobody updated has no pair in any range
none_before : (low high : ℕ) (later : List SnapshotAt) → AreSnapshots [] low high 0 later → AreSnapshots [] low high 0 (none_yet ∷ later)
none_before low high later taken = (
  omega arith,
  omega arith,
  (
    record {
      in_order = λ i j a b first second before. absurd (cc);
      inside = λ i a there. absurd (cc);
      there = λ i a there. absurd (cc);
      all = λ key value from below has. absurd (let none = finite.get-empty {X = ℕ} nat_cmp key in cc);
    },
    omega arith,
  ),
  taken,
)

pub none_listed : (low high : ℕ) → AreSnapshots [] low high 0 (none_yet ∷ none_yet ∷ none_yet ∷ none_yet ∷ [])
none_listed low high =
    none_before low high (none_yet ∷ none_yet ∷ none_yet ∷ [])
    (none_before low high (none_yet ∷ none_yet ∷ []) (none_before low high (none_yet ∷ []) (none_before low high [] tt)))

-- a watched run without scripts
watches_nothing : (waiter : Waiter) (scripts : List (List Op)) (slots : ℕ) (lines : List (List Line)) (history : List Update)
    (lists : List SnapshotAt) → length scripts ≡ 0 → HaveReplies [] lines → LeavesWatched waiter scripts slots lines history lists Nothing
watches_nothing waiter [] slots lines history lists none replies = ([], refl, replies)
watches_nothing waiter (script ∷ scripts) slots lines history lists none replies = absurd (omega (arith, none))

-- A watch text was made.
module _ (scripts : List (List Op)) (slots low high : ℕ) (text : List ℕ) where
  -- without scripts
  pub nothing_watched : (waiter : Waiter) → length scripts ≡ 0
      → (watch : IsWatchText scripts slots low high text) × (watch.account.history ≡ []) × HaveReplies [] watch.account.lines
      → (watch : IsWatchText scripts slots low high text) × StaysWithin watch.account.history (slots + 20)
      × LeavesWatched waiter scripts slots watch.account.lines watch.account.history watch.snapshots Nothing
  nothing_watched waiter none written = (
    written.0,
    subst (λ h. StaysWithin h (slots + 20)) (sym written.1) (λ front at. none_within (slots + 20) front),
    watches_nothing waiter scripts slots written.0.account.lines written.0.account.history written.0.snapshots none written.2,
  )

  -- by the history and the lists of a run, and the run's tree beside it
  pub watched_beside : (waiter : Waiter) (told given : List (Roomy Told)) (history seen : List Update) (lists : List SnapshotAt)
      (table : tree.TableAt) (seat : tree.SeatAt) → given ≡ told → seen ≡ history → StaysWithin history (slots + 20)
      → IsWatchedTree waiter scripts slots told history lists table seat
      → (watch : IsWatchText scripts slots low high text) × (watch.account.history ≡ seen) × (watch.snapshots ≡ lists)
      × HaveReplies (entries_of given) watch.account.lines
      → (watch : IsWatchText scripts slots low high text) × StaysWithin watch.account.history (slots + 20)
      × ((told : List (Roomy Told)) × IsWatchedTree waiter scripts slots told watch.account.history watch.snapshots table seat
      × HaveReplies (entries_of told) watch.account.lines)
  watched_beside waiter told given history seen lists table seat same_told same within left written =
      let is = sym (written.1 ∙ same) in (
        written.0,
        subst (λ h. StaysWithin h (slots + 20)) is within,
        (
          told,
          subst (λ (z : List Update × List SnapshotAt). IsWatchedTree waiter scripts slots told z.0 z.1 table seat)
              (λ i. (is i, sym written.2 i)) left,
          subst (λ t. HaveReplies (entries_of t) written.0.account.lines) same_told written.3,
        ),
      )

  -- The tree of the waiter that was chosen is what is left.
  pub watched_in : (waiter chosen : Waiter) (table : tree.TableAt) (seat : tree.SeatAt) → waiter ≡ chosen → 1 ≤ length scripts
      → (watch : IsWatchText scripts slots low high text) × StaysWithin watch.account.history (slots + 20)
      × ((told : List (Roomy Told)) × IsWatchedTree chosen scripts slots told watch.account.history watch.snapshots table seat
      × HaveReplies (entries_of told) watch.account.lines)
      → (watch : IsWatchText scripts slots low high text) × StaysWithin watch.account.history (slots + 20)
      × LeavesWatched waiter scripts slots watch.account.lines watch.account.history watch.snapshots (tree_with chosen table seat)
  watched_in waiter chosen table seat is some made = (
    made.0,
    made.1,
    subst (λ w. LeavesWatched w scripts slots made.0.account.lines made.0.account.history made.0.snapshots (tree_with chosen table seat))
        (sym is)
        (made.2.0, some_left scripts (tree_with chosen table seat) _ some (table, seat, refl, made.2.1), made.2.2),
  )

-- the watch text of a script text, and what is left beside it
pub watch_written : (low high : ℕ) (limit : Option ℕ) (waiter : Waiter) (scripts : List (List Op)) (slots : ℕ) (input text : List ℕ)
    (ran : Ran) → IsScriptTextUpTo 63 input scripts → slots ≡ slots_of limit scripts
    → (watch : IsWatchText scripts slots low high text) × StaysWithin watch.account.history (slots + 20)
    × LeavesWatched waiter scripts slots watch.account.lines watch.account.history watch.snapshots ran
    → (writes : Writes (Watch low high limit waiter) Done input text) × Leaves (Watch low high limit waiter) Done input text writes ran
watch_written low high limit waiter scripts slots input text ran read shared made =
    let m = subst (λ s. (watch : IsWatchText scripts s low high text) × StaysWithin watch.account.history (s + 20)
    × LeavesWatched waiter scripts s watch.account.lines watch.account.history watch.snapshots ran) shared made in (
      record {
        scripts = scripts;
        read = read;
        watch = m.0;
        never_full = never_full limit scripts m.0.account_text m.0.account;
        within_slots = m.1;
      },
      m.2,
    )

-- The number of a schedule determines what `run` writes.

-- no scripts have no lines, and no replies
none_told : (lists : List (List Line)) → map ops_of lists ≡ [] → HaveReplies [] lists
none_told [] none = refl
none_told (lines ∷ lists) none = absurd (cc)

one_drawn : (scripts : List (List Op)) (slots number : ℕ) (text other_text : List ℕ) (account : IsAccount scripts slots text)
    (other : IsAccount scripts slots other_text) → IsDrawn scripts slots number account.lines account.history
    → IsDrawn scripts slots number other.lines other.history
    → text ≡ other_text
one_drawn [] slots number text other_text account other a b =
    accounts_are_one [] slots [] text other_text account other (a ∙ sym b) (none_told account.lines account.ops)
    (none_told other.lines other.ops)
one_drawn (script ∷ scripts) slots number text other_text account other a b =
    let same = schedules_are_one (script ∷ scripts) slots number a.0 b.0 account.history other.history a.1 b.1 in
    accounts_are_one (script ∷ scripts) slots a.0 text other_text account other same.1 a.2
    (subst (λ told. HaveReplies told other.lines) (sym same.0) b.2)

pub drawn_texts_are_one : DrawnTextsAreOne
drawn_texts_are_one slots number input text other_text one other =
    let read = one_reading 64 (lines_of input) [] other.accounts.scripts one.accounts.scripts other.accounts.read one.accounts.read in
    let again = subst (λ scripts. (account : IsAccount scripts (slots_of slots scripts) other_text)
    × IsDrawn scripts (slots_of slots scripts) number account.lines account.history) read (other.accounts.account, other.drawn) in
    one_drawn one.accounts.scripts
    (slots_of slots one.accounts.scripts) number text other_text one.accounts.account again.0 one.drawn again.1

-- What the calls of a caller come to: its answers, its sections and its tidies.
-- A caller whose call was answered by the tree's, with nothing behind that.
use Rattle.std.proofs.Common.{◌≤◌, refl, inl, ◌≡◌, ℕ, ◌+◌, ◌-◌, ◌*◌, inr, arith, subst, sym, ◌∙◌, true, false, List, [], Option, Some, None, ap, ⊎_elim, append-nil, zero, suc, is_some, length, ◌∷◌, ◌++◌, ◌≢◌}
use Rattle.prcu_model.specs.declared.operation.Op.{Op}
use Rattle.prcu_model.specs.declared.operation.Told.{Told}
use Rattle.tree_handles.specs.Callers.{CallerAt, IsSameCaller, KeepsCookie, KeepsKeeper, IsInside, MayGoOn, pairs_that_fit, slots_for, IsFilled, AreOfOneIndex}
use Rattle.tree_handles.specs.Calls.{KeepsKeeperBy, CausedReady, GetsReady, HasTurnedDown, LacksRoom, MayTurnDown, MeetsLastingReader, TurnsDown, WasTurnedDown, TreeTells, IsCalled, ComesBehind, IsCalledAndKept, CallsMeetFronts, StaysInside, IsLost, WereBusy, CausedBy, IsHinderedBy, Inserts, MissesOnceMore, Upserts, IsBusy, IsBusyTended, IsCalledTended, IsAnsweredTended, IsRemoved, IsRemovedTended, CausedTended}
use Rattle.prcu_marks.specs.Marks.{updates_of, own_of}
use Rattle.prcu_model.specs.Dictionary.{key_of, map_of, Explains}
use Rattle.prcu_model.specs.declared.operation.Op.TheVariants.{Put, Del}
use Rattle.prcu_model.specs.declared.operation.Reply.{Reply}
use Rattle.prcu_model.specs.declared.operation.Reply.TheVariants.{Absent as AbsentReply, Full as FullReply, New as NewReply}
use Rattle.core_state.specs.declared.view.View.{View}
use Rattle.seat_table.specs.Seats.{SeatAt, TableAt, shape_of, IsInside as IsInsideOf}
use Rattle.citrus_tree.specs.Replies.{Puts, PutsBy, ClientAt, caller_of, room_of}
use Rattle.citrus_tree.specs.Deletes.{DelTells, Removes}
use Rattle.citrus_tree.specs.declared.delete.Removed.{Removed}
use Rattle.prcu_marks.proofs.Callers.{told_meets}
use Rattle.prcu_marks.specs.Callers.{HasAnswered}
use Rattle.core_state.specs.declared.shape.Shape.{Shape}
use Rattle.citrus_tree.proofs.Clients.{chain_told}
use Rattle.tree_lift.specs.Lifts.{IsToldThenLifts, LeavesNoUpdate}
use Rattle.tree_lift.proofs.Calls.{answered_earlier, tries_plain, told_alone, told_lifted, told_answers}
use mathlib.Core.List.{IsPrefix}
use Rattle.prcu_model.proofs.ListFacts.{all_append}
use Rattle.core_state.specs.declared.view.StepMade.{StepMade}
use Rattle.seat_table.specs.Sections.{IsQuietButSection}
use Rattle.citrus_tree.specs.Going.{IsOfTry}
use Rattle.exact_list.specs.Loads.{HasListedAfterTries, HasListedAlone, HasListedByTry, IsOneWalk}
use Rattle.exact_list.specs.Tries.{Try, HasGivenWay, HasTried, Paged, marks_from}
use Rattle.grace_cookie.specs.Cookies.{CookieAt, IsGivenUp}
use Rattle.tree_handles.specs.Holds.{CannotAsk}
use Rattle.tree_handles.specs.Lists.{IsLeft, IsPreventedBy, Lists}
use Rattle.key_interval.specs.Keys.{Interval}
use Rattle.core_state.specs.declared.view.Section.{Section}
use Rattle.tree_handles.specs.declared.status.Status.{Status}
use Rattle.tree_handles.specs.declared.status.Status.TheVariants.{Done, Unchanged, Full, More, Moved, New, Busy, BadArgument, NoMemory, Spent, Lost, Holds}
use Rattle.tree_handles.specs.Keepers.{CanBegin, HasBegunKeeper, SeesToKeeper, StartsKeeper, Tends}
use Rattle.exact_list.specs.declared.alone.Exact.{Exact}
use Rattle.tree_handles.specs.Tidying.{Finishes, HasTidied, IsUnwritten, MayTidy, Output, Tidies, LiftsNext, LevelledTo, StopsAt, MakesSlots, Levels, IsOfTidy, LeavesNoUpdates, TidiesMakeNoUpdate}
use Rattle.std.specs.List.{AllByRecursion}
use Rattle.prcu_marks.specs.declared.mark.Mark.{Mark}
use Rattle.prcu_marks.specs.declared.mark.Mark.TheVariants.{Began, Ended}
use Rattle.tree_points.proofs.Locks.{advanced_begun, advanced_on, advanced_same}
use Rattle.tree_points.specs.Points.{HasAdvanced}
use Rattle.exact_list.specs.Pairs.{Pair}
use Rattle.tree_lift.specs.declared.lifting.Stop.{Stop}
use Rattle.tree_handles.specs.declared.tidying.Tally.{Tally}
use Rattle.std.specs.FinMap as finite
use Rattle.citrus_tree.specs.declared.delete.Removed.TheVariants as removal
use Rattle.tree_lift.specs.declared.lifting.Stop.TheVariants as stop
use Rattle.tree_handles.specs.declared.tidying.Ending.TheVariants as ending

-- The slots of a new index: what its handles may keep back, and that it is that of one handle more than all but one keep from it.

pub pairs_fit : (pairs handles keep : ℕ) → 1 ≤ handles
    → slots_for pairs handles keep - (keep + 4) * (handles - 1) ≡ pairs + (keep + 4)
pairs_fit pairs zero keep one = absurd (omega arith)
pairs_fit pairs (suc n) keep one =
    let before : (keep + 4) * (suc n - 1) ≡ (keep + 4) * n = (let less : suc n - 1 ≡ n = omega arith in ap (λ z. (keep + 4) * z) less) in
    let here : (keep + 4) * suc n ≡ (keep + 4) * n + (keep + 4) = omega arith in
    omega (arith, before, here)

pub pairs_fit_in : (t : TableAt) (pairs handles keep : ℕ) → t.slots ≡ slots_for pairs handles keep → t.places ≡ handles → t.room ≡ keep
    → 1 ≤ handles → pairs_that_fit t ≡ pairs + (keep + 4)
pairs_fit_in t pairs handles keep slots places room one =
    let numbers : pairs_that_fit t ≡ slots_for pairs handles keep - (keep + 4) * (handles - 1) =
    λ i. slots i - (room i + 4) * (places i - 1) in numbers ∙ pairs_fit pairs handles keep one

pub nothing_behind : {c d : CallerAt} {op : Op} {told : Told} → KeepsCookie c d → KeepsKeeperBy op c d → MayGoOn c → 4 ≤ c.seat.view.allowance.tickets
    → TreeTells c op told d.seat → MayGoOn d → IsCalled c op told d
nothing_behind {d = d} index keeper before enough tells may = record {
  index = index;
  keeper = keeper;
  before = before;
  enough = enough;
  answered = d.seat;
  tells = tells;
  behind = inl (record { seat = refl; may = may });
}

-- A remove, by what the tree's call told and left of the seat.

tree_tells : {c : CallerAt} {key : ℕ} {told : Told} {s : SeatAt} → s.table ≡ c.table
    → DelTells (shape_of c.way c.table) c.seat key told s → TreeTells c (Del key) told s
tree_tells table d = record { table = table; answer = d.dels; begins = d.begins; keeps = d.keeps; uses = tt; informed = d.informed }

pub removed_so : {c d : CallerAt} (key : ℕ) (expected : Option ℕ) (answer : Removed) → KeepsCookie c d → KeepsKeeper c d → MayGoOn c
    → 4 ≤ c.seat.view.allowance.tickets → d.seat.table ≡ c.table → MayGoOn d
    → Removes (shape_of c.way c.table) c.seat key expected answer d.seat → IsRemoved c key expected answer d
removed_so key expected (removal.Gone number value) index keeper before enough table may r =
    (nothing_behind index keeper before enough (tree_tells table r.0) may, r.1, r.2)
removed_so key expected (removal.Differs found) index keeper before enough table may r = (
  record {
    index = index;
    keeper = keeper;
    before = before;
    enough = enough;
    gave = r.0.gave;
    begins = r.0.begins;
    keeps = r.0.keeps;
    may = may;
  },
  r.1,
)
removed_so key expected removal.Absent index keeper before enough table may r = nothing_behind index keeper before enough (tree_tells table r) may

-- what a take took out is the expected value
pub takes_expected : {c d : CallerAt} {key : ℕ} (expected number value : ℕ) → IsRemovedTended c key (Some expected) (removal.Gone number value) d
    → (n : ℕ) × IsRemovedTended c key (Some expected) (removal.Gone n expected) d
takes_expected {c} {d} {key} expected number value t =
    (number, subst (λ v. IsRemovedTended c key (Some expected) (removal.Gone number v) d) t.removed.removed.2 t)

-- A put that is told Full fills the index: as many pairs are there as always fit.

fitting : (way : ℕ) (table : TableAt) (v w : View) (key value : ℕ) (told : Told) → told.reply ≡ FullReply
    → Puts (shape_of way table) v key value told w → pairs_that_fit table ≤ finite.len (map_of (updates_of w.seen))
fitting way table v w key value told full puts =
    let by = subst (λ (r : Reply). PutsBy (shape_of way table) v key value puts.0 r told.number w) full puts.1 in
    let fills = by.3.fills in
    let kept = (table.room + 4) * (table.places - 1) in
    omega (arith, fills)

-- nothing comes behind a put that is told Full
full_ends : (key value : ℕ) (told : Told) (s : SeatAt) (d : CallerAt) → told.reply ≡ FullReply → ComesBehind (Put key value) told s d → d.seat ≡ s
full_ends key value told s d full (inl goes) = goes.seat
full_ends key value told s d full (inr (at, added, lifted)) = absurd (let e : FullReply ≡ NewReply = sym full ∙ added.new in cc)

pub filled : (c : CallerAt) (key value : ℕ) (d : CallerAt) → IsAnsweredTended c (Put key value) FullReply d → IsFilled d
filled c key value d (told, full, x) =
    let called = x.called in
    let ready = x.ready in
    let answered = called.answered in
    let fits = fitting ready.way ready.table ready.seat.view answered.view key value told full called.tells.answer in
    let seat : d.seat ≡ answered = full_ends key value told answered d full called.behind in record {
      pairs = subst (λ (t : TableAt). pairs_that_fit t ≤ finite.len (map_of (updates_of d.seat.view.seen))) (sym called.index.table)
          (subst (λ (s : SeatAt). pairs_that_fit ready.table ≤ finite.len (map_of (updates_of s.view.seen))) (sym seat) fits);
    }

-- A call of a caller that isn't lost is one of a client that lifts, and so are calls one after another.

-- the client that a caller is
abbrev client_of : CallerAt → ClientAt
client_of c = record { shape = shape_of c.way c.table; table = c.table; seat = c.seat }

told_then : (k : Shape) (c : CallerAt) (op : Op) (told : Told) (s : SeatAt) (d : CallerAt) → IsToldThenLifts k c.seat.view op told s.view
    → d.seat ≡ s → IsToldThenLifts k c.seat.view op told d.seat.view
told_then k c op told s d is same = subst (λ (t : SeatAt). IsToldThenLifts k c.seat.view op told t.view) (sym same) is

comes_behind : (c : CallerAt) (op : Op) (told : Told) (d : CallerAt) (called : IsCalled c op told d) → d.lost ≡ false
    → ComesBehind op told called.answered d → IsToldThenLifts (shape_of c.way c.table) c.seat.view op told d.seat.view
comes_behind c op told d called kept (inl goes) =
    told_then (shape_of c.way c.table) c op told called.answered d
    (told_alone (shape_of c.way c.table) c.seat.view op told called.answered.view called.tells.answer) goes.seat
comes_behind c op told d called kept (inr (key, added, inl lifted)) = told_lifted
    (shape_of c.way c.table) c.seat.view op key added.value told called.answered.view d.seat.view added.put called.tells.answer lifted.updates
comes_behind c op told d called kept (inr (key, added, inr lost)) = absurd (let e : true ≡ false = sym lost.lost ∙ kept in cc)

same_shape : (c : CallerAt) (op : Op) (told : Told) (d : CallerAt) → IsCalled c op told d → shape_of d.way d.table ≡ shape_of c.way c.table
same_shape c op told d called = λ i. shape_of (called.index.way i) (called.index.table i)

-- what came before a call left: the same index, and no mark of an update
record LeftTries (op : Op) (c d : CallerAt) : Type 0 where
  pub shape : shape_of d.way d.table ≡ shape_of c.way c.table
  pub marks : List Mark
  pub advanced : HasAdvanced c.seat.view d.seat.view marks
  pub each : AllByRecursion (IsOfTry c.seat.view.allowance.place (key_of op)) marks

tries_on : (op : Op) (c b d : CallerAt) → LeftTries op c b → LeftTries op b d → LeftTries op c d
tries_on op c b d first last = record {
  shape = last.shape ∙ first.shape;
  marks = first.marks ++ last.marks;
  advanced = advanced_on first.advanced last.advanced;
  each = all_append (IsOfTry c.seat.view.allowance.place (key_of op)) first.marks last.marks first.each
      (subst (λ p. AllByRecursion (IsOfTry p (key_of op)) last.marks) first.advanced.same last.each);
}

busy_tries : (op : Op) (c d : CallerAt) → IsBusy op c d → LeftTries op c d
busy_tries op c d busy = record {
  shape = λ i. shape_of (busy.index.way i) (busy.index.table i);
  marks = busy.gave.tries;
  advanced = busy.gave.tried.own;
  each = busy.gave.tried.tried.each;
}

abbrev AreOfTries : Op → CallerAt → List Mark → Type 0
AreOfTries op c marks = AllByRecursion (IsOfTry c.seat.view.allowance.place (key_of op)) marks

tended_tries : (op : Op) (c d : CallerAt) → Tends c d → LeftTries op c d
tended_tries op c d tends = record {
  shape = λ i. shape_of (tends.index.way i) (tends.index.table i);
  marks = tends.leaves.ended;
  advanced = tends.leaves.advanced;
  each = ⊎_elim
      (λ (none : tends.leaves.ended ≡ []). subst (AreOfTries op c) (sym none) tt)
      (λ (one : (k : CookieAt) × (c.keeper ≡ Some k) × (tends.leaves.ended ≡ Ended c.seat.view.allowance.place k.count ∷ [])).
      subst (AreOfTries op c) (sym one.2) (refl, tt))
      tends.leaves.ends;
}

no_tries : (op : Op) (c d : CallerAt) → d ≡ c → LeftTries op c d
no_tries op c d same = subst (LeftTries op c) (sym same) (record { shape = refl; marks = []; advanced = advanced_same; each = tt })

-- what a caller does to get ready for an update

turn_tries : (key : ℕ) (c d : CallerAt) → WasTurnedDown key c d → LeftTries (Del key) c d
turn_tries key c d turned = tries_on (Del key) c turned.between d (busy_tries (Del key) c turned.between turned.two) (record {
  shape = λ i. shape_of (turned.index.way i) (turned.index.table i);
  marks = turned.updates.marks;
  advanced = turned.updates.advanced;
  each = turned.updates.each;
})

turns_tries : (key times : ℕ) (c d : CallerAt) → TurnsDown key times c d → LeftTries (Del key) c d
turns_tries key zero c d same = no_tries (Del key) c d same
turns_tries key (suc times) c d (a, turns, turned) = tries_on (Del key) c a d (turns_tries key times c a turns) (turn_tries key a d turned)

turned_tries : (op : Op) (c d : CallerAt) → MayTurnDown op c d → LeftTries op c d
turned_tries (Del key) c d turned = turns_tries key turned.times c d turned.turns
turned_tries op c d same = no_tries op c d same

-- no mark, or the beginning of a wait for everybody
started_tries : (op : Op) (c d : CallerAt) → StartsKeeper c d → LeftTries op c d
started_tries op c d starts = ⊎_elim
    (λ (nothing : (CanBegin c.keeper c.cookie c.seat → ⊥) × (d.keeper ≡ c.keeper) × (d.seat ≡ c.seat)). record {
      shape = λ i. shape_of (starts.index.way i) (starts.index.table i);
      marks = [];
      advanced = subst (λ (s : SeatAt). HasAdvanced c.seat.view s.view []) (sym nothing.2) advanced_same;
      each = tt;
    })
    (λ (begun : HasBegunKeeper c.keeper c.cookie c.seat d.keeper d.seat). record {
      shape = λ i. shape_of (starts.index.way i) (starts.index.table i);
      marks = Began c.seat.view.allowance.place c.seat.view.counts.waits 0 18446744073709551615 ∷ [];
      advanced = advanced_begun begun.begun;
      each = ((refl, refl, refl), tt);
    })
    starts.begins

ready_tries : (op : Op) (c d : CallerAt) → GetsReady op c d → LeftTries op c d
ready_tries op c d gets =
    let sees = gets.sees in
    tries_on op c gets.tended d (tries_on op c sees.begun gets.tended (started_tries op c sees.begun sees.starts)
    (tended_tries op sees.begun gets.tended sees.tends)) (turned_tries op gets.tended d gets.turns)

pub index_on : (c b d : CallerAt) → AreOfOneIndex c b → AreOfOneIndex b d → AreOfOneIndex c d
index_on c b d one two = record { way = two.way ∙ one.way; table = two.table ∙ one.table; salt = two.salt ∙ one.salt }

-- the same caller is of the same index
pub of_one_index : (c d : CallerAt) → IsSameCaller c d → AreOfOneIndex c d
of_one_index c d same = record { way = same.way; table = same.table; salt = same.salt }

-- and so is one with the same cookie
pub kept_index : (c d : CallerAt) → KeepsCookie c d → AreOfOneIndex c d
kept_index c d same = record { way = same.way; table = same.table; salt = same.salt }

-- a caller that is ready is of the same index, may go on, and has the tickets of an update
record IsReady (c d : CallerAt) : Type 0 where
  pub index : AreOfOneIndex c d
  pub enough : 4 ≤ d.seat.view.allowance.tickets
  pub may : MayGoOn d

turns_ready : (key times : ℕ) (c a d : CallerAt) → IsReady c a → TurnsDown key times a d → IsReady c d
turns_ready key zero c a d before same = subst (IsReady c) (sym same) before
turns_ready key (suc times) c a d before (b, turns, turned) = record {
  index = index_on c turned.between d
      (index_on c b turned.between (turns_ready key times c a b before turns).index (kept_index b turned.between turned.two.index))
      (of_one_index turned.between d turned.index);
  enough = turned.enough;
  may = turned.may;
}

turned_ready : (op : Op) (c a d : CallerAt) → IsReady c a → MayTurnDown op a d → IsReady c d
turned_ready (Del key) c a d before turned = turns_ready key turned.times c a d before turned.turns
turned_ready op c a d before same = subst (IsReady c) (sym same) before

-- a begun keeper leaves an update its tickets, and a question takes none
started_enough : (c d : CallerAt) → 4 ≤ c.seat.view.allowance.tickets → StartsKeeper c d → 4 ≤ d.seat.view.allowance.tickets
started_enough c d enough starts = ⊎_elim
    (λ (nothing : (CanBegin c.keeper c.cookie c.seat → ⊥) × (d.keeper ≡ c.keeper) × (d.seat ≡ c.seat)).
    subst (λ (s : SeatAt). 4 ≤ s.view.allowance.tickets) (sym nothing.2) enough)
    (λ (begun : HasBegunKeeper c.keeper c.cookie c.seat d.keeper d.seat).
    let one = ap (λ (z : View). z.allowance.tickets) begun.begun.others in let paid = begun.can.paid in omega (arith, one, paid))
    starts.begins

pub sees_enough : (c d : CallerAt) → 4 ≤ c.seat.view.allowance.tickets → SeesToKeeper c d → 4 ≤ d.seat.view.allowance.tickets
sees_enough c d enough sees =
    subst (λ a. 4 ≤ a.tickets) (sym sees.tends.leaves.allowance) (started_enough c sees.begun enough sees.starts)

got_ready : (op : Op) (c d : CallerAt) → 4 ≤ c.seat.view.allowance.tickets → GetsReady op c d → IsReady c d
got_ready op c d enough gets =
    let sees = gets.sees in
    turned_ready op c gets.tended d (record {
      index = index_on c sees.begun gets.tended (kept_index c sees.begun sees.starts.index) (kept_index sees.begun gets.tended sees.tends.index);
      enough = sees_enough c gets.tended enough sees;
      may = sees.tends.may;
    }) gets.turns

left_tries : (calls : ℕ) (op : Op) (c d : CallerAt) → WereBusy calls op c d → LeftTries op c d
left_tries zero op c d same = no_tries op c d same
left_tries (suc calls) op c d (a, busy, last) = tries_on op c a d (left_tries calls op c a busy) (⊎_elim
    (λ (one : IsBusy op a d). busy_tries op a d one)
    (λ (one : IsBusyTended op a d). tries_on op a one.ready d (ready_tries op a one.ready one.gets) (⊎_elim
    (λ (busy : IsBusy op one.ready d). busy_tries op one.ready d busy)
    (λ (lacks : LacksRoom one.ready d). no_tries op one.ready d lacks.same)
    one.busy))
    last)

abbrev Answers : CallerAt → Op → Told → CallerAt → Type 0
Answers c op told d = HasAnswered (Explains (room_of (client_of c).shape)) (caller_of (client_of c)) op told (caller_of (client_of d))

answers_before : (c a : CallerAt) (op : Op) (told : Told) (d : CallerAt) → LeftTries op c a → Answers a op told d → Answers c op told d
answers_before c a op told d left last =
    let plain = tries_plain c.seat.view.allowance.place (key_of op) (updates_of d.seat.view.seen) left.marks left.each in
    answered_earlier (Explains (room_of (shape_of c.way c.table))) (caller_of (client_of c)) (caller_of (client_of a))
    (caller_of (client_of d)) op told left.marks plain.none left.advanced.same left.advanced.begins
    (subst (λ k. HasAnswered (Explains (room_of k)) (caller_of (client_of a)) op told (caller_of (client_of d))) left.shape last)
    (ap (λ p. own_of p a.seat.view.seen) left.advanced.same ∙ left.advanced.own) plain.keyed plain.waits

called_answers : (c : CallerAt) (op : Op) (told : Told) (d : CallerAt) → IsCalled c op told d → d.lost ≡ false → Answers c op told d
called_answers c op told d called kept = told_answers (shape_of c.way c.table) c.seat.view d.seat.view op told
    (comes_behind c op told d called kept called.behind)

tended_answers : (c : CallerAt) (op : Op) (told : Told) (d : CallerAt) → IsCalledTended c op told d → d.lost ≡ false → Answers c op told d
tended_answers c op told d x kept =
    answers_before c x.ready op told d (ready_tries op c x.ready x.gets) (called_answers x.ready op told d x.called kept)

tended_shape : (c : CallerAt) (op : Op) (told : Told) (d : CallerAt) → IsCalledTended c op told d → shape_of d.way d.table ≡ shape_of c.way c.table
tended_shape c op told d x = same_shape x.ready op told d x.called ∙ (ready_tries op c x.ready x.gets).shape

answers : (c : CallerAt) (op : Op) (told : Told) (d : CallerAt) → IsCalledAndKept c op told d
    → ((client_of d).shape ≡ (client_of c).shape)
    × HasAnswered (Explains (room_of (client_of c).shape)) (caller_of (client_of c)) op told (caller_of (client_of d))
answers c op told d x =
    let a = x.first in
    let left = left_tries x.calls op c a x.busy in
    let last : (shape_of d.way d.table ≡ shape_of a.way a.table) × Answers a op told d = ⊎_elim
    (λ (called : IsCalled a op told d). (same_shape a op told d called, called_answers a op told d called x.kept))
    (λ (called : IsCalledTended a op told d). (tended_shape a op told d called, tended_answers a op told d called x.kept))
    x.called in
    (last.0 ∙ left.shape, answers_before c a op told d left last.1)

pub calls_meet : CallsMeetFronts
calls_meet ops tolds before after none chain =
    told_meets (Explains (room_of (shape_of before.way before.table))) (caller_of (client_of before)) ops tolds (caller_of (client_of after))
    (chain_told IsCalledAndKept client_of answers (shape_of before.way before.table) ops tolds before after refl none chain)

-- A question about a cookie that was given up leaves all as it was.
pub given_up : (c : CallerAt) (number latest : ℕ) (cookie now : CookieAt) (t : SeatAt) → MayGoOn c → c.cookie ≡ Some cookie
    → cookie.count ≡ number → IsGivenUp cookie c.seat.view latest now t.view → t ≡ c.seat
    → CannotAsk c number × IsLeft c (record c { seat = t; cookie = Some now })
given_up c number latest cookie now t may was number_is gave same = (
  inr (let a = gave.later in let b = gave.latest_is in omega arith),
  record {
    same = λ i. record c { seat = same i; cookie = (ap (λ z. Some z) gave.cookie ∙ sym was) i };
    may = may;
  },
)

-- Callers that are in a section.

inside_some : (o : Option ℕ) (s : Option Section) → IsInsideOf o s → is_some o ≡ true → (section : Section) × (s ≡ Some section)
inside_some None s inside e = absurd (cc)
inside_some (Some key) None inside e = absurd inside
inside_some (Some key) (Some section) inside e = (section, refl)

-- a caller whose seat tells a key is in a section
pub stays_inside : (c : CallerAt) (o : Option ℕ) → c.lost ≡ false → c.seat.table ≡ c.table → IsQuietButSection c.seat
    → IsInsideOf o c.seat.view.section → is_some o ≡ true → StaysInside c c
stays_inside c o kept seat quiet inside e = record {
  same = refl;
  inside = record { kept = kept; seat = seat; quiet = quiet; inside = inside_some o c.seat.view.section inside e };
}

-- what hinders a call with four tickets is why an update isn't made
pub hinders_update : (op : Op) (status : Status) (c d : CallerAt) → IsHinderedBy 4 status c d → CausedBy op status c d
hinders_update op Busy c d h = absurd h
hinders_update op _ c d h = h

pub hinders_tended : (op : Op) (status : Status) (c d : CallerAt) → IsHinderedBy 4 status c d → CausedTended op status c d
hinders_tended op Busy c d h = absurd h
hinders_tended op _ c d h = h

-- a caller that may go on is in no section
goes_outside : (c : CallerAt) → MayGoOn c → IsInside c → ⊥
goes_outside c may inside = let e : Some inside.inside.0 ≡ None = sym inside.inside.1 ∙ may.quiet.view.section in cc

-- no lift comes behind a call that found the key absent
goes_on_absent : (op : Op) (told : Told) (s : SeatAt) (d : CallerAt) → told.reply ≡ AbsentReply → ComesBehind op told s d → MayGoOn d
goes_on_absent op told s d absent (inl goes) = goes.may
goes_on_absent op told s d absent (inr (key, added, behind)) = absurd (let e : NewReply ≡ AbsentReply = sym added.new ∙ absent in cc)

-- an insert that ends an upsert, of which the set before found the key absent, but where it added the pair
pub insert_ends : (c b d : CallerAt) (key value was old : ℕ) (status : Status) → MissesOnceMore c key value b → status ≢ Done
    → status ≢ Unchanged → Inserts b key value status d → old ≡ was → Upserts c key value was status old d
insert_ends c b d key value was old Done missed not_done not_unchanged inserts same = absurd (not_done refl)
insert_ends c b d key value was old Unchanged missed not_done not_unchanged inserts same = absurd (not_unchanged refl)
insert_ends c b d key value was old Full missed not_done not_unchanged inserts same = (b, missed, inserts.0, inserts.1, same)
insert_ends c b d key value was old New missed not_done not_unchanged inserts same = absurd inserts
insert_ends c b d key value was old Moved missed not_done not_unchanged inserts same = absurd inserts
insert_ends c b d key value was old Holds missed not_done not_unchanged inserts same = absurd
    (goes_outside b (goes_on_absent _ missed.2.0 missed.2.2.answered b missed.2.1 missed.2.2.behind) inserts.inside)
insert_ends c b d key value was old _ missed not_done not_unchanged inserts same = (b, inr (missed, inserts), same)

-- Lifts of ways one after another.

-- A caller that could go on came to another that could, which is lost now.
pub lost_on : (c b d : CallerAt) → MayGoOn c → AreOfOneIndex c b → MayGoOn b → IsLost b d → IsLost c d
lost_on c b d before index may lost = record {
  index = index_on c b d index lost.index;
  lost = lost.lost;
  tired = λ _. lost.tired may.kept;
  earlier = λ e. absurd (let other : true ≡ false = sym e ∙ before.kept in cc);
}

-- Why an update wasn't made that a caller had got ready for.
pub caused_ready : (op : Op) (status : Status) (c d : CallerAt) → CausedBy op status c d → CausedReady op status c d
caused_ready op Busy c d cause = inl cause
caused_ready op _ c d cause = cause

pub caused_tended : (op : Op) (status : Status) (c ready d : CallerAt) → MayGoOn c → 4 ≤ c.seat.view.allowance.tickets → GetsReady op c ready
    → CausedReady op status ready d → CausedTended op status c d
caused_tended op Busy c ready d may enough gets cause = record { ready = ready; gets = gets; busy = cause }
caused_tended op Spent c ready d may enough gets cause =
    absurd (let few = cause.few in let much = (got_ready op c ready enough gets).enough in omega arith)
caused_tended op Lost c ready d may enough gets cause = let is = got_ready op c ready enough gets in
    lost_on c ready d may is.index is.may cause
caused_tended op Holds c ready d may enough gets cause = absurd (goes_outside ready (got_ready op c ready enough gets).may cause.inside)
caused_tended op _ c ready d may enough gets cause = absurd cause

-- The turns before a remove.

-- none yet
pub turned_none : (key : ℕ) (c : CallerAt) → HasTurnedDown key c c
turned_none key c = record { times = 0; few = omega arith; for_reader = λ some. absurd (omega (arith, some)); turns = refl }

-- some, for a reader that is known to stay
abbrev pub turned_some : (key times : ℕ) (c d : CallerAt) → MeetsLastingReader c → times ≤ 64 → TurnsDown key times c d → HasTurnedDown key c d
turned_some key times c d reader few turns = record { times = times; few = few; for_reader = λ _. reader; turns = turns }

-- and one time more
pub turned_again : (key times : ℕ) (c a d : CallerAt) → TurnsDown key times c a → WasTurnedDown key a d → TurnsDown key (times + 1) c d
turned_again key times c a d turns turned =
    let next : times + 1 ≡ suc times = omega arith in subst (λ n. TurnsDown key n c d) (sym next) (a, turns, turned)

-- Listed keys whose ways were lifted are what a tidy answers.
listed_on : (c : CallerAt) (keys : Interval) (page : Paged) (exact : Exact) (b d : CallerAt) → Lists c keys page exact b → IsLost b d
    → IsLost c d
listed_on c keys page exact b d listed lost =
    lost_on c b d listed.looks.before (of_one_index c b listed.looks.index) listed.looks.after lost

pub tidies_listed : (c : CallerAt) (keys : Interval) (turns was : ℕ) (status : Status) (out : Output) (d : CallerAt) (page : Paged)
    (after : Option ℕ) (front : ℕ) (b : CallerAt) → MayTidy c keys turns → page.capacity ≡ 256 → Lists c keys page (record { front = front; next = after }) b
    → Finishes page.pairs turns after b was status out d → Tidies c keys turns was status out d
tidies_listed c keys turns was Done out d page after front b may capacity listed finished =
    record { may = may; page = page; capacity = capacity; after = after; front = front; before = b; listed = listed; finished = finished }
tidies_listed c keys turns was More out d page after front b may capacity listed finished =
    record { may = may; page = page; capacity = capacity; after = after; front = front; before = b; listed = listed; finished = finished }
tidies_listed c keys turns was Full out d page after front b may capacity listed finished =
    record { may = may; page = page; capacity = capacity; after = after; front = front; before = b; listed = listed; finished = finished }
tidies_listed c keys turns was Lost out d page after front b may capacity listed finished =
    (listed_on c keys page (record { front = front; next = after }) b d listed finished.0, finished.1)
tidies_listed c keys turns was _ out d page after front b may capacity listed finished = absurd finished

-- nor is it, where the list was in vain
pub tidies_prevented : (c : CallerAt) (keys : Interval) (turns was : ℕ) (status : Status) (out : Output) (d : CallerAt) → MayTidy c keys turns
    → IsPreventedBy keys.low status c d → IsUnwritten was out → Tidies c keys turns was status out d
tidies_prevented c keys turns was Busy out d may vain unwritten = (may, vain, unwritten)
tidies_prevented c keys turns was Lost out d may lost unwritten = (lost, unwritten)
tidies_prevented c keys turns was Holds out d may stays unwritten = (stays, unwritten)
tidies_prevented c keys turns was _ out d may none unwritten = absurd none

-- A tidy leaves no mark of an update.

of_key : (place key : ℕ) (marks : List Mark) → AllByRecursion (IsOfTry place key) marks → AllByRecursion (IsOfTidy place) marks
of_key place key [] each = tt
of_key place key (m ∷ marks) each = ((key, each.0), of_key place key marks each.1)

plain_none : (v w : View) → w ≡ v → LeavesNoUpdates v w
plain_none v w same = subst (LeavesNoUpdates v) (sym same) (record { marks = []; advanced = advanced_same; each = tt })

plain_one : (key : ℕ) (v w : View) → LeavesNoUpdate v key w → LeavesNoUpdates v w
plain_one key v w left = record { marks = left.marks; advanced = left.advanced; each = of_key v.allowance.place key left.marks left.each }

plain_on : (u v w : View) → LeavesNoUpdates u v → LeavesNoUpdates v w → LeavesNoUpdates u w
plain_on u v w a b = record {
  marks = a.marks ++ b.marks;
  advanced = advanced_on a.advanced b.advanced;
  each = all_append (IsOfTidy u.allowance.place) a.marks b.marks a.each
      (subst (λ p. AllByRecursion (IsOfTidy p) b.marks) a.advanced.same b.each);
}

-- the marks of a list's tries
of_tries : (place section key : ℕ) (tries : List Try) → AllByRecursion (IsOfTidy place) (marks_from place section key tries)
of_tries place section key [] = tt
of_tries place section key (t ∷ tries) = ((key, (refl, refl)), ((key, refl), of_tries place (section + 1) key tries))

plain_tried : (v : View) (key : ℕ) (tries : List Try) (w : View) → HasTried v key tries w → LeavesNoUpdates v w
plain_tried v key tries w tried = record {
  marks = marks_from v.allowance.place v.counts.sections key tries;
  advanced = record {
    steps = (tried.made.steps, sym (ap (λ t. t.steps) tried.made.trail));
    same = ap (λ (z : View). z.allowance.place) tried.others;
    allowance = record { rest = allowance_same };
    begins = tried.seen;
    own = tried.own;
  };
  each = of_tries v.allowance.place v.counts.sections key tries;
}
  where
    allowance_same : w.allowance ≡ record v.allowance { tickets = w.allowance.tickets }
    allowance_same =
        let same = ap (λ (z : View). z.allowance) tried.others in
        subst (λ a. a ≡ record v.allowance { tickets = a.tickets }) (sym same) refl

-- the front was taken, or given back
plain_front : (v w : View) → w.allowance ≡ v.allowance → w.seen ≡ v.seen → IsPrefix v.trail.steps w.trail.steps → LeavesNoUpdates v w
plain_front v w allowance seen steps = record {
  marks = [];
  advanced = record {
    steps = steps;
    same = ap (λ a. a.place) allowance;
    allowance = record { rest = subst (λ a. a ≡ record v.allowance { tickets = a.tickets }) (sym allowance) refl };
    begins = ([], append-nil v.seen ∙ sym seen);
    own = ap (own_of v.allowance.place) seen ∙ sym (append-nil (own_of v.allowance.place v.seen));
  };
  each = tt;
}

plain_alone : (v : View) (key front : ℕ) (walk : List StepMade → Type 0) (w : View) → HasListedAlone v key front walk w
    → LeavesNoUpdates v w
plain_alone v key front walk w a =
    let takes = a.takes.others in
    let gives = a.gives.others in
    plain_on v a.listed w (plain_on v a.holding a.listed
    (plain_front v a.holding (ap (λ (z : View). z.allowance) takes) (ap (λ (z : View). z.seen) takes)
    (a.takes.made.steps, sym (ap (λ t. t.steps) a.takes.made.trail)))
    (plain_tried a.holding key _ a.listed a.tried))
    (plain_front a.listed w (ap (λ (z : View). z.allowance) gives) (ap (λ (z : View). z.seen) gives)
    (_, sym (ap (λ t. t.steps) a.gives.trail)))

plain_listed : (c : CallerAt) (keys : Interval) (page : Paged) (exact : Exact) (d : CallerAt) → Lists c keys page exact d
    → LeavesNoUpdates c.seat.view d.seat.view
plain_listed c keys page exact d listed = ⊎_elim
    (λ (x : HasListedByTry c.seat.view keys.low exact.front 4 d.seat.view). plain_tried c.seat.view keys.low x.tries d.seat.view x.tried)
    (λ (x : HasListedAfterTries c.seat.view keys.low exact.front 4 (IsOneWalk page.pairs exact.next) d.seat.view).
    plain_on c.seat.view x.failed d.seat.view (plain_tried c.seat.view keys.low x.tries x.failed x.tried)
    (plain_alone x.failed keys.low exact.front (IsOneWalk page.pairs exact.next) d.seat.view x.alone))
    listed.looks.came

plain_next : (key turns : ℕ) (ended : Stop) (c : CallerAt) (before : Tally) (d : CallerAt) (after : Tally)
    → LiftsNext key turns ended c before d after → LeavesNoUpdates c.seat.view d.seat.view
plain_next key turns ended c before d after lifts = plain_one key c.seat.view d.seat.view lifts.way.updates

plain_levelled : (pairs : List Pair) (turns : ℕ) (c : CallerAt) (i : ℕ) (n : Tally) (d : CallerAt) → LevelledTo pairs turns c i n d
    → LeavesNoUpdates c.seat.view d.seat.view
plain_levelled pairs turns c zero n d levelled = plain_none c.seat.view d.seat.view (ap (λ (z : CallerAt). z.seat.view) levelled.0)
plain_levelled pairs turns c (suc i) n d (b, m, p, levelled, at, lifts) = plain_on c.seat.view b.seat.view d.seat.view
    (plain_levelled pairs turns c i m b levelled) (plain_next p.0 turns stop.Level b m d n lifts)

plain_stops : (pairs : List Pair) (turns : ℕ) (c : CallerAt) (key : ℕ) (ended : Stop) (n : Tally) (d : CallerAt)
    → StopsAt pairs turns c key ended n d → LeavesNoUpdates c.seat.view d.seat.view
plain_stops pairs turns c key ended n d stops = plain_on c.seat.view stops.before.seat.view d.seat.view
    (plain_levelled pairs turns c stops.i stops.tally stops.before stops.levelled)
    (plain_next stops.pair.0 turns ended stops.before stops.tally d n stops.lifted)

plain_slots : (c d : CallerAt) → MakesSlots c d → LeavesNoUpdates c.seat.view d.seat.view
plain_slots c d (inl none) = plain_none c.seat.view d.seat.view (ap (λ (z : CallerAt). z.seat.view) none.1)
plain_slots c d (inr back) = plain_one 0 c.seat.view d.seat.view (back.updates 0)

plain_short : (pairs : List Pair) (turns : ℕ) (c : CallerAt) (key : ℕ) (n : Tally) (d : CallerAt) → Levels pairs turns c (ending.Short key) n d
    → LeavesNoUpdates c.seat.view d.seat.view
plain_short pairs turns c key n d (inl before) = plain_levelled pairs turns c before.i n d before.levelled
plain_short pairs turns c key n d (inr (inl stops)) = plain_stops pairs turns c key stop.Spent n d stops
plain_short pairs turns c key n d (inr (inr (b, stops, slots))) = plain_on c.seat.view b.seat.view d.seat.view
    (plain_stops pairs turns c key stop.NoSlot n b stops) (plain_slots b d slots)

plain_finished : (pairs : List Pair) (turns : ℕ) (after : Option ℕ) (c : CallerAt) (was : ℕ) (status : Status) (out : Output) (d : CallerAt)
    → d.lost ≡ false → Finishes pairs turns after c was status out d → LeavesNoUpdates c.seat.view d.seat.view
plain_finished pairs turns after c was Done out d kept (n, made, none, same, levels) = plain_levelled pairs turns c (length pairs) n d levels
plain_finished pairs turns after c was More out d kept (n, made, inl (some, levels)) = plain_levelled pairs turns c (length pairs) n d levels
plain_finished pairs turns after c was More out d kept (n, made, inr levels) = plain_short pairs turns c out.next n d levels
plain_finished pairs turns after c was Full out d kept (n, made, levels) = plain_stops pairs turns c out.next stop.NoSlot n d levels.0
plain_finished pairs turns after c was Lost out d kept finished = absurd (let e : true ≡ false = sym finished.0.lost ∙ kept in cc)
plain_finished pairs turns after c was _ out d kept finished = absurd finished

plain_tidied : (c : CallerAt) (keys : Interval) (turns was : ℕ) (status : Status) (out : Output) (d : CallerAt) → d.lost ≡ false
    → HasTidied c keys turns was status out d → LeavesNoUpdates c.seat.view d.seat.view
plain_tidied c keys turns was status out d kept tidied = plain_on c.seat.view tidied.before.seat.view d.seat.view
    (plain_listed c keys tidied.page (record { front = tidied.front; next = tidied.after }) tidied.before tidied.listed)
    (plain_finished tidied.page.pairs turns tidied.after tidied.before was status out d kept tidied.finished)

plain_same : (c d : CallerAt) → d ≡ c → LeavesNoUpdates c.seat.view d.seat.view
plain_same c d same = plain_none c.seat.view d.seat.view (ap (λ (z : CallerAt). z.seat.view) same)

plain_gave_way : (v : View) (key most : ℕ) (w : View) → HasGivenWay v key most w → LeavesNoUpdates v w
plain_gave_way v key most w gave =
    let lost = gave.lost.others in
    plain_on v gave.failed w (plain_tried v key gave.tries gave.failed gave.tried)
    (plain_front gave.failed w (ap (λ (z : View). z.allowance) lost) (ap (λ (z : View). z.seen) lost)
    (gave.lost.made.steps, sym (ap (λ t. t.steps) gave.lost.made.trail)))

pub tidies_plain : TidiesMakeNoUpdate
tidies_plain c keys turns was Done out d kept tidied = plain_tidied c keys turns was Done out d kept tidied
tidies_plain c keys turns was More out d kept tidied = plain_tidied c keys turns was More out d kept tidied
tidies_plain c keys turns was Full out d kept tidied = plain_tidied c keys turns was Full out d kept tidied
tidies_plain c keys turns was Busy out d kept (may, vain, unwritten) = plain_gave_way c.seat.view keys.low 4 d.seat.view vain.gave
tidies_plain c keys turns was BadArgument out d kept (bad, left, unwritten) = plain_same c d left.same
tidies_plain c keys turns was NoMemory out d kept (may, left, unwritten) = plain_same c d left.same
tidies_plain c keys turns was Spent out d kept (good, spent, unwritten) = plain_same c d spent.same
tidies_plain c keys turns was Lost out d kept (lost, unwritten) = absurd (let e : true ≡ false = sym lost.lost ∙ kept in cc)
tidies_plain c keys turns was Holds out d kept (stays, unwritten) = plain_same c d stays.same
tidies_plain c keys turns was _ out d kept none = absurd none.0

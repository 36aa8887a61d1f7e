-- The core's run, and which callers step in one that is drawn from a number.
-- The core's run: the words, what each caller keeps, its view, and the marks, after these callers have stepped in this order.
-- Source: docs/TREE_CALLS.md, "The machine".
use Rattle.std.specs.Prelude.{ℕ, ◌+◌, ◌*◌, ◌/◌, if◌then◌else◌, List, [], ◌∷◌, ◌++◌, length, map, set, None, Some, ◌≡◌, ◌%◌, ◌≤◌, slice_index_or}
use mathlib.Core.Option.{Option, some}
use lib.ListN.{get_elem?}
use Rattle.list_laws.specs.Counts.{total}
use Rattle.prcu_marks.specs.declared.mark.Mark.{Mark}
use Rattle.prcu_marks.specs.Marks.{updates_of, said_by}
use Rattle.prcu_model.specs.declared.operation.Op.{Op}
use Rattle.prcu_model.specs.declared.operation.Op.TheVariants.{Get}
use Rattle.prcu_model.specs.declared.operation.Told.{Told}
use Rattle.prcu_model.specs.declared.operation.Update.{Update}
use Rattle.core_state.specs.declared.shape.Shape.{Shape}
use Rattle.core_state.specs.declared.shape.Waiter.TheVariants.{Eer}
use Rattle.core_state.specs.declared.words.Field.{Field}
use Rattle.core_state.specs.declared.view.View.{View}
use Rattle.core_state.specs.Memory.{Memory, memory_of, stored}
use Rattle.seat_table.specs.Seats.{first_words}
use Rattle.core_laws.specs.Whole.{place_views}
use Rattle.core_state.specs.Acts.{access_of, noted}
use Rattle.core_points.specs.Programs.{Act, field_of, left_of, view_after, marks_of, Own, act_at, after, begun_with}
use Rattle.core_points.specs.Laws.{is_finished}
use Rattle.workload.specs.Draws.{next_state, drawn}
use Rattle.core_points.specs.declared.stage.Stage.TheVariants as at

-- the words, what each caller keeps, each caller's view, and the marks
pub record Core : Type 0 where
  pub memory : Memory
  pub owns : List Own
  pub views : List View
  pub marks : List Mark

-- what each caller was told, and the updates in their order
abbrev pub tolds_of : Core → List (List Told)
tolds_of c = map (λ (o : Own). o.told) c.owns

abbrev pub history_of : Core → List Update
history_of c = updates_of c.marks

-- the number that the step of a caller's point finds, and the one that it tells
abbrev pub found_in : Core → Own → ℕ
found_in c o = c.memory (field_of o.place (act_at o o.stage))

abbrev pub told_in : Core → Own → ℕ
told_in c o = said_by (access_of o.place (act_at o o.stage)) (found_in c o)

-- the core after the step of a caller's point: the act is made on its word, and the caller goes on by the number that it tells
abbrev pub moved : Core → ℕ → Own → View → Core
moved c i o v =
    let a : Act = act_at o o.stage in
    let field : Field = field_of o.place a in
    let n : ℕ = told_in c o in
    let w : View = noted v a n in
    record {
      memory = stored c.memory field (left_of o.place a (found_in c o));
      owns = set c.owns i (after o n o.stage);
      views = set c.views i (view_after w c.marks n a);
      marks = c.marks ++ marks_of w n a;
    }

abbrev pub moved_by : Core → ℕ → Option Own → Option View → Core
moved_by c i (some o) (some v) = if is_finished o.stage then c else moved c i o v
moved_by c i _ _ = c

-- the core after a step of this caller: nothing changes where its script has ended
abbrev pub step : Core → ℕ → Core
step c i = moved_by c i (get_elem? c.owns i) (get_elem? c.views i)

abbrev pub steps : Core → List ℕ → Core
steps c [] = c
steps c (i ∷ is) = steps (step c i) is

-- The core as it is made: the words of a fresh table of the first waiter, one place a script, and 4 tickets for each operation.
abbrev pub tickets_of : List (List Op) → List ℕ
tickets_of scripts = map (λ script. 4 * length script) scripts

abbrev pub shape_of : ℕ → List (List Op) → Shape
shape_of slots scripts = record { waiter = Eer; slots = slots; places = length scripts; room = 16; tickets = total (λ t. t) (tickets_of scripts) }

-- a caller with the spare of its place, whose first scan for a free slot begins at a part of the slots of its own
abbrev pub new_own : Shape → ℕ → Own
new_own k p = record {
  place = p;
  places = k.places;
  slots = k.slots;
  room = k.room;
  op = Get 0;
  rest = [];
  stage = at.Finished;
  told = [];
  hand = None;
  hand_life = 0;
  spare = Some (p + 1);
  retired = [];
  locks = [];
  scan = k.places + 1 + p * k.slots / k.places;
  free = k.slots;
  front = 0;
  kept = 0;
}

abbrev pub made_owns : Shape → ℕ → List (List Op) → List Own
made_owns k p [] = []
made_owns k p (script ∷ scripts) = begun_with (new_own k p) script ∷ made_owns k (p + 1) scripts

abbrev pub new_core : List (List Op) → ℕ → Core
new_core scripts slots =
    let k : Shape = shape_of slots scripts in
    record { memory = memory_of k (first_words k); owns = made_owns k 0 scripts; views = place_views 0 (tickets_of scripts); marks = [] }

-- the core of these scripts and so many slots, after these callers have stepped in this order
abbrev pub core : List (List Op) → ℕ → List ℕ → Core
core scripts slots callers = steps (new_core scripts slots) callers

-- Which callers step in a run that is drawn from a number.
-- Source: docs/TREE_CALLS.md, "The machine"; the generator is that of docs/FORMATS.md, "The made workload".

-- the callers whose scripts haven't ended, ascending
abbrev pub unfinished_from : ℕ → List Own → List ℕ
unfinished_from i [] = []
unfinished_from i (o ∷ os) = if is_finished o.stage then unfinished_from (i + 1) os else i ∷ unfinished_from (i + 1) os

abbrev pub unfinished : Core → List ℕ
unfinished c = unfinished_from 0 c.owns

-- the caller that is drawn at a state
abbrev pub caller_at : Core → ℕ → ℕ
caller_at c state = slice_index_or (unfinished c) (drawn state % length (unfinished c)) 0

-- These callers are drawn from the state on, each after the state has moved, until every script has ended.
abbrev pub AreDrawn : Core → ℕ → List ℕ → Type 0
AreDrawn c state [] = unfinished c ≡ []
AreDrawn c state (i ∷ is) = (1 ≤ length (unfinished c)) × (i ≡ caller_at c (next_state state)) × AreDrawn (step c i) (next_state state) is

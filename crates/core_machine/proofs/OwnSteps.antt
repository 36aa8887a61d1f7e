-- How far a call is, by its point; and what a caller's own steps bring nearer, in any order of callers: so the front is given back.
use Rattle.std.proofs.Common.{◌≡◌, ℕ, true, false, refl, sym, ◌∙◌, Option, Some, None, ◌≢◌, zero, suc, ◌+◌, ◌≤◌, ◌<◌, ◌⊎◌, List, [], ◌∷◌, length, ap, subst, ⊎_elim, arith, ne_eqb, eq-eqb, inl, inr}
use Rattle.std.proofs.lemmas.List.{length-set}
use Rattle.prcu_marks.specs.declared.commit.Commit.{Commit}
use Rattle.prcu_marks.specs.declared.mark.Side.{Side}
use Rattle.core_state.specs.declared.view.Section.{Section}
use Rattle.core_state.specs.declared.words.Field.TheVariants.{Moved}
use Rattle.core_state.specs.declared.view.View.{View}
use Rattle.core_points.specs.declared.stage.Last.{Last}
use Rattle.core_points.specs.declared.stage.Node.{Node}
use Rattle.core_points.specs.declared.stage.Stage.{Stage}
use Rattle.core_points.specs.declared.stage.Successor.{Successor}
use Rattle.core_points.specs.declared.stage.Then.{Then}
use Rattle.core_points.specs.declared.stage.Update.{Update}
use Rattle.core_points.specs.declared.stage.Waits.TheVariants.{Reuse, Move}
use Rattle.core_points.specs.Programs.{Own, Act, field_of, view_after, act_at, after}
use Rattle.core_points.specs.Fits.{Fits, Made, Making, PointUnlock, plain}
use Rattle.core_points.specs.Laws.{is_finished}
use Rattle.core_machine.specs.Laws.{is_getting, Comes, FrontsAreGivenBack, IsFrontFree, IsMachine}
use Rattle.std.proofs.lemmas.Bool.{cases_eq}
use mathlib.Core.Option.{some, some-injective}
use lib.ListN.{get_elem?}
use Rattle.atomic_table.proofs.Lists.{set_here, set_else}
use Rattle.list_laws.proofs.Lists.{at_below, only_at}
use Rattle.list_laws.specs.Counts.{times}
use Rattle.prcu_model.specs.declared.operation.Op.{Op}
use Rattle.prcu_marks.specs.Marks.{said_by, updates_of}
use Rattle.core_state.specs.declared.shape.Shape.{Shape}
use Rattle.core_state.specs.Memory.{flag}
use Rattle.core_laws.specs.Whole.{place_views}
use Rattle.core_state.specs.Acts.{access_of, noted}
use Rattle.core_machine.specs.Runs.{Core, core, made_owns, moved, new_core, shape_of, step, steps, tickets_of, told_in}
use Rattle.core_machine.proofs.Running.{IsRun, step_by, step_runs, core_runs, step_is}
use mathlib.Core.Logic.{dite}
use native.Mathlib.Decide.{ℕ_discrete}
use Rattle.core_state.specs.Parts.{IsOddHere}
use Rattle.core_frames.proofs.PlaceFrames.{not_moved}
use Rattle.core_points.specs.declared.stage.Last.TheVariants as last
use Rattle.core_points.specs.declared.stage.Stage.TheVariants as at
use Rattle.core_points.specs.declared.stage.Update.TheVariants as update

-- What a point says of its caller: before a section or in one, with the front, or neither.

-- the points at which a section is entered
pub data Entering : Stage → Type 0 where
  enter_clock : Entering at.EnterClock
  enter_key : (clock : ℕ) → Entering (at.EnterKey clock)
  enter_stamp : (clock : ℕ) → Entering (at.EnterStamp clock)

-- the points in a section
pub data InSection : Stage → Type 0 where
  in_link : (s : ℕ) (b : Side) → InSection (at.AtLink s b)
  in_key : (s p : ℕ) (b : Side) → InSection (at.AtKey s p b)
  in_leave : (later : Then) → InSection (at.Leave later)
  in_value : (s : ℕ) → InSection (at.Value s)
  in_spot_tag : (s : ℕ) (b : Side) → InSection (at.SpotTag s b)
  in_spot_life : (s : ℕ) (b : Side) (tag : ℕ) → InSection (at.SpotLife s b tag)
  in_set_life : (s : ℕ) → InSection (at.SetLife s)
  in_parent_life : (p : ℕ) (b : Side) (d : ℕ) → InSection (at.ParentLife p b d)
  in_node_life : (d : Node) → InSection (at.NodeLife d)
  in_node_left : (d : Node) → InSection (at.NodeLeft d)
  in_node_right : (d : Node) → InSection (at.NodeRight d)
  in_successor_left : (d : Node) (u : Successor) → InSection (at.SuccessorLeft d u)
  in_successor_parent_life : (d : Node) (u : Successor) → InSection (at.SuccessorParentLife d u)
  in_successor_life : (d : Node) (u : Successor) → InSection (at.SuccessorLife d u)

-- the points with the front
pub data WithFront : Stage → Type 0 where
  storing : (u : Update) (front : ℕ) → WithFront (at.Store u front)
  evening : (u : Update) (front : ℕ) → WithFront (at.Even u front)

pub data Says (stage : Stage) (v : View) : Type 0 where
  enters : Entering stage → v.section ≡ None → v.commit ≡ None → Says stage v
  inside : InSection stage → v.commit ≡ None → Says stage v
  has_front : WithFront stage → v.section ≡ None → (commit : Commit) → v.commit ≡ Some commit → Says stage v
  aside : is_getting stage ≡ false → v.section ≡ None → v.commit ≡ None → Says stage v

module _ (o : Own) (v : View) where
  record Has (commit : Option Commit) : Type 0 where
    outside : v.section ≡ None
    turn_is : v.commit ≡ commit

  making : (u : Update) (commit : Option Commit) → Making o u (plain v) commit → Has commit
  making (update.Leaf spot) commit p = record { outside = p.outside; turn_is = p.bare.turn_is }
  making (update.Value s old) commit p = record { outside = (p.1).quiet.outside; turn_is = (p.1).quiet.turn_is }
  making (update.Bypass d child) commit p = record { outside = p.quiet.outside; turn_is = p.quiet.turn_is }
  making (update.Copy d u next_key copy) commit p =
      record { outside = p.copying.quiet.outside; turn_is = p.copying.quiet.turn_is }

  made : (u : Update) (commit : Option Commit) → Made o u (plain v) commit → Has commit
  made (update.Leaf spot) commit p = record { outside = (p.0).outside; turn_is = (p.0).turn_is }
  made _ commit p = record { outside = (p.0).outside; turn_is = (p.0).turn_is }

  unlocking : (end : Last) → PointUnlock o (plain v) end → Has None
  unlocking last.Again p = record { outside = (p.0).outside; turn_is = (p.0).no_turn }
  unlocking _ p = record { outside = (p.0).outside; turn_is = (p.0).no_turn }

  -- before the front is made even it is this view's
  pub even_commit : (u : Update) (front : ℕ) → Fits o (at.Even u front) v → v.commit ≡ Some (record { found = front; stored = true })
  even_commit u front f = (made u (Some (record { found = front; stored = true })) f.point).turn_is

  has_it : {stage : Stage} {commit : Commit} → WithFront stage → Has (Some commit) → Says stage v
  has_it {commit = commit} front h = has_front front h.outside commit h.turn_is

  neither : {stage : Stage} → is_getting stage ≡ false → Has None → Says stage v
  neither other h = aside other h.outside h.turn_is

  pub says : (stage : Stage) → Fits o stage v → Says stage v
  says at.Finished f = aside refl (f.point).0 ((f.point).1).turn_is
  says at.EnterClock f = enters enter_clock (f.point).0 ((f.point).1).bare.turn_is
  says (at.EnterKey clock) f = enters (enter_key clock) (f.point).0 ((f.point).1).bare.turn_is
  says (at.EnterStamp clock) f = enters (enter_stamp clock) (f.point).0 ((f.point).1).bare.turn_is
  says (at.AtLink s b) f = inside (in_link s b) ((f.point).0).bare.turn_is
  says (at.AtKey s q b) f = inside (in_key s q b) ((f.point).0).bare.turn_is
  says (at.Leave later) f = inside (in_leave later) ((f.point).0).bare.turn_is
  says (at.Value s) f = inside (in_value s) ((f.point).0).bare.turn_is
  says (at.SpotTag s b) f = inside (in_spot_tag s b) ((f.point).0).bare.turn_is
  says (at.SpotLife s b tag) f = inside (in_spot_life s b tag) ((f.point).0).bare.turn_is
  says (at.Reserve aim e) f = aside refl (f.point).idle.outside (f.point).idle.bare.turn_is
  says at.Raise f = aside refl (f.point).0 ((f.point).2).bare.turn_is
  says at.Free f = aside refl (f.point).0 ((f.point).1).turn_is
  says at.Count f = aside refl ((f.point).0).outside ((f.point).0).no_turn
  says (at.Begin (Reuse aim)) f = aside refl ((f.point).0).outside ((f.point).0).bare.turn_is
  says (at.Begin (Move m)) f = aside refl ((f.point).0).outside ((f.point).0).turn_is
  says (at.LookKey (Reuse aim) clock p) f = aside refl ((f.point).0).outside ((f.point).0).bare.turn_is
  says (at.LookKey (Move m) clock p) f = aside refl ((f.point).0).outside ((f.point).0).turn_is
  says (at.LookStamp (Reuse aim) clock p key) f = aside refl ((f.point).0).outside ((f.point).0).bare.turn_is
  says (at.LookStamp (Move m) clock p key) f = aside refl ((f.point).0).outside ((f.point).0).turn_is
  says (at.OldAge aim) f = aside refl ((f.point).0).outside ((f.point).0).bare.turn_is
  says (at.OldRaise aim l) f = aside refl ((f.point).0).outside ((f.point).0).bare.turn_is
  says (at.OldFree aim) f = aside refl (f.point).idle.outside (f.point).idle.bare.turn_is
  says (at.OldCount aim) f = aside refl ((f.point).0).outside ((f.point).0).no_turn
  says (at.Commit u e) f = neither refl (making u None (f.point).0)
  says (at.Store u front) f = has_it (storing u front) (making u (Some (record { found = front; stored = false })) f.point)
  says (at.Even u front) f = has_it (evening u front) (made u (Some (record { found = front; stored = true })) f.point)
  says (at.Unlock end) f = neither refl (unlocking end f.point)
  says (at.SetLife s) f = inside (in_set_life s) ((f.point).0).bare.turn_is
  says (at.SetLock s g) f = aside refl (f.point).quiet.outside (f.point).quiet.turn_is
  says (at.SetCheck s g) f = aside refl (f.point).quiet.outside (f.point).quiet.turn_is
  says (at.SetValue s) f = aside refl ((f.point).1).quiet.outside ((f.point).1).quiet.turn_is
  says (at.ParentLife q b d) f = inside (in_parent_life q b d) ((f.point).0).bare.turn_is
  says (at.NodeLife d) f = inside (in_node_life d) ((f.point).0).bare.turn_is
  says (at.NodeLeft d) f = inside (in_node_left d) ((f.point).0).bare.turn_is
  says (at.NodeRight d) f = inside (in_node_right d) ((f.point).0).bare.turn_is
  says (at.SuccessorLeft d u) f = inside (in_successor_left d u) ((f.point).0).bare.turn_is
  says (at.SuccessorParentLife d u) f = inside (in_successor_parent_life d u) ((f.point).0).bare.turn_is
  says (at.SuccessorLife d u) f = inside (in_successor_life d u) ((f.point).0).bare.turn_is
  says (at.TargetLock t i) f = aside refl (f.point).quiet.outside (f.point).quiet.turn_is
  says (at.TargetLoad t i found) f = aside refl (f.point).quiet.outside (f.point).quiet.turn_is
  says (at.Mark d child) f = aside refl (f.point).quiet.outside (f.point).quiet.turn_is
  says (at.EmptyTag number s b) f = aside refl ((f.point).0).outside ((f.point).0).turn_is
  says (at.EmptyRaise number s b tag) f = aside refl ((f.point).0).outside ((f.point).0).turn_is
  says (at.SuccessorKey d u) f = aside refl (f.point).copying.quiet.outside (f.point).copying.quiet.turn_is
  says (at.SuccessorValue d u key) f = aside refl ((f.point).0).copying.quiet.outside ((f.point).0).copying.quiet.turn_is
  says (at.CopyField d u key value i) f =
      aside refl (f.point).before.copying.quiet.outside (f.point).before.copying.quiet.turn_is
  says (at.CopyAge d u key) f = aside refl ((f.point).0).copying.quiet.outside ((f.point).0).copying.quiet.turn_is
  says (at.CopyLock d u key) f = aside refl ((f.point).0).copying.quiet.outside ((f.point).0).copying.quiet.turn_is
  says (at.CopyMark d u key) f = aside refl (f.point).copying.quiet.outside (f.point).copying.quiet.turn_is
  says (at.OldMark m) f = aside refl ((f.point).0).outside ((f.point).0).turn_is
  says (at.OldRight m) f = aside refl ((f.point).0).outside ((f.point).0).turn_is
  says (at.Unlink m child) f = aside refl ((f.point).0).outside ((f.point).0).turn_is
  says _ f = aside refl (f.point).outside (f.point).bare.turn_is

-- whoever has an open section is at a point in it, and whoever has the front at a point with it
pub section_points : (stage : Stage) (v : View) (section : Section) → v.section ≡ Some section → Says stage v → InSection stage
section_points stage v section is (enters point outside turn) = absurd (let e : None ≡ Some section = sym outside ∙ is in cc)
section_points stage v section is (inside point turn) = point
section_points stage v section is (has_front point outside commit has) = absurd (let e : None ≡ Some section = sym outside ∙ is in cc)
section_points stage v section is (aside other outside turn) = absurd (let e : None ≡ Some section = sym outside ∙ is in cc)

pub front_points : (stage : Stage) (v : View) (commit : Commit) → v.commit ≡ Some commit → Says stage v → WithFront stage
front_points stage v commit is (enters point outside turn) = absurd (let e : None ≡ Some commit = sym turn ∙ is in cc)
front_points stage v commit is (inside point turn) = absurd (let e : None ≡ Some commit = sym turn ∙ is in cc)
front_points stage v commit is (has_front point outside other has) = point
front_points stage v commit is (aside other outside turn) = absurd (let e : None ≡ Some commit = sym turn ∙ is in cc)

-- nobody at these points has ended its script
pub section_goes : (stage : Stage) → InSection stage → is_finished stage ≡ false
section_goes stage (in_link s b) = refl
section_goes stage _ = refl

-- A caller at a point, its next step, and the steps of others between: what each step of its own brings nearer comes.

-- ---- lists

at_index : {A : Type 0} (xs : List A) (i : ℕ) → i < length xs → (x : A) × (get_elem? xs i ≡ some x)
at_index [] i below = absurd (omega (arith, below))
at_index (x ∷ xs) zero below = (x, refl)
at_index (x ∷ xs) (suc i) below = at_index xs i (omega (arith, below))

-- ---- the core

-- the core runs, with a view for each caller
pub record Going (k : Shape) (count : ℕ) (c : Core) : Type 0 where
  pub run : IsRun k c
  pub owns : length c.owns ≡ count
  pub views : length c.views ≡ count

pub goes : (k : Shape) (count : ℕ) (c : Core) (i : ℕ) → Going k count c → Going k count (step c i)
goes k count c i g = record {
  run = step_runs k c i g.run;
  owns = step_by (λ (d : Core). length d.owns ≡ count) c i g.owns
      (λ o v eo ev going. length-set c.owns i (after o (told_in c o) o.stage) ∙ g.owns);
  views = step_by (λ (d : Core). length d.views ≡ count) c i g.views (λ o v eo ev going. length-set c.views i _ ∙ g.views);
}

going_on : (k : Shape) (count : ℕ) (c : Core) (callers : List ℕ) → Going k count c → Going k count (steps c callers)
going_on k count c [] g = g
going_on k count c (i ∷ is) g = going_on k count (step c i) is (goes k count c i g)

owns_count : (k : Shape) (p : ℕ) (scripts : List (List Op)) → length (made_owns k p scripts) ≡ length scripts
owns_count k p [] = refl
owns_count k p (s ∷ ss) = ap suc (owns_count k (p + 1) ss)

views_count : (p : ℕ) (scripts : List (List Op)) → length (place_views p (tickets_of scripts)) ≡ length scripts
views_count p [] = refl
views_count p (s ∷ ss) = ap suc (views_count (p + 1) ss)

pub core_goes : (scripts : List (List Op)) (slots : ℕ) (callers : List ℕ) → IsMachine scripts slots
    → Going (shape_of slots scripts) (length scripts) (core scripts slots callers)
core_goes scripts slots callers m = going_on (shape_of slots scripts) (length scripts) (new_core scripts slots) callers (record {
  run = core_runs scripts slots [] m;
  owns = owns_count (shape_of slots scripts) 0 scripts;
  views = views_count 0 scripts;
})

-- who keeps something has a view, and who has a view keeps something
pub view_of : (k : Shape) (count : ℕ) (c : Core) (i : ℕ) (o : Own) → Going k count c → get_elem? c.owns i ≡ some o
    → (v : View) × (get_elem? c.views i ≡ some v)
view_of k count c i o g e =
    let below = at_below c.owns i o e in let p = g.owns in let q = g.views in at_index c.views i (omega (arith, below, p, q))

pub own_of : (k : Shape) (count : ℕ) (c : Core) (i : ℕ) (v : View) → Going k count c → get_elem? c.views i ≡ some v
    → (o : Own) × (get_elem? c.owns i ≡ some o)
own_of k count c i v g e =
    let below = at_below c.views i v e in let p = g.owns in let q = g.views in at_index c.owns i (omega (arith, below, p, q))

-- ---- a caller at a point

-- the view after an act
abbrev pub view_by : Core → Own → View → Act → View
view_by c o v act = let n = said_by (access_of o.place act) (c.memory (field_of o.place act)) in view_after (noted v act n) c.marks n act

module _ (k : Shape) (count i : ℕ) where
  pub record At (c : Core) (o : Own) (stage : Stage) (v : View) : Type 0 where
    pub going : Going k count c
    pub own : get_elem? c.owns i ≡ some o
    pub stage_is : o.stage ≡ stage
    pub view : get_elem? c.views i ≡ some v

  module _ (c : Core) (o : Own) (stage : Stage) (v : View) (a : At c o stage v) where
    pub fits : Fits o stage v
    fits = subst (λ z. Fits o z v) a.stage_is (a.going.run.callers i o v a.own a.view).fits

    pub at_stage : (later : Stage) → stage ≡ later → At c o later v
    at_stage later e = record { going = a.going; own = a.own; stage_is = a.stage_is ∙ e; view = a.view }

    -- another's step leaves it there
    pub stays_at : (j : ℕ) → j ≢ i → At (step c j) o stage v
    stays_at j ne = record {
      going = goes k count c j a.going;
      own = step_by (λ (d : Core). get_elem? d.owns i ≡ some o) c j a.own
          (λ p u eo eu g. set_else c.owns j i (after p (told_in c p) p.stage) (λ e. ne (sym e)) ∙ a.own);
      stage_is = a.stage_is;
      view = step_by (λ (d : Core). get_elem? d.views i ≡ some v) c j a.view
          (λ p u eo eu g. set_else c.views j i _ (λ e. ne (sym e)) ∙ a.view);
    }

    module _ (unfinished : is_finished stage ≡ false) where
      pub moves : step c i ≡ moved c i o v
      moves = step_is k c i o v a.going.run a.own a.view (subst (λ z. is_finished z ≡ false) (sym a.stage_is) unfinished)

      own_after : get_elem? (step c i).owns i ≡ some (after o (told_in c o) o.stage)
      own_after = subst (λ (d : Core). get_elem? d.owns i ≡ some (after o (told_in c o) o.stage)) (sym moves)
          (set_here c.owns i (after o (told_in c o) o.stage) (at_below c.owns i o a.own))

      view_now : get_elem? (step c i).views i ≡ some (view_by c o v (act_at o o.stage))
      view_now = subst (λ (d : Core). get_elem? d.views i ≡ some (view_by c o v (act_at o o.stage))) (sym moves)
          (set_here c.views i (view_by c o v (act_at o o.stage)) (at_below c.views i v a.view))

      -- where its own step leads
      pub next : let act = act_at o stage in let n = said_by (access_of o.place act) (c.memory (field_of o.place act)) in
          At (step c i) (after o n stage) (after o n stage).stage (view_by c o v act)
      next = subst (λ (z : Stage). let act = act_at o z in let n = said_by (access_of o.place act) (c.memory (field_of o.place act)) in
          At (step c i) (after o n z) (after o n z).stage (view_by c o v act)) a.stage_is
          (record { going = goes k count c i a.going; own = own_after; stage_is = refl; view = view_now })

-- ---- what comes

pub so : (c : Core) (more : List ℕ) (P Q : Core → Type 0) → ((d : Core) → P d → Q d) → Comes c more P → Comes c more Q
so c more P Q then_so r = record { first = r.first; rest = r.rest; parts = r.parts; there = then_so (steps c r.first) r.there }

behind : (c : Core) (j : ℕ) (more : List ℕ) (Q : Core → Type 0) → Comes (step c j) more Q → Comes c (j ∷ more) Q
behind c j more Q r = record { first = j ∷ r.first; rest = r.rest; parts = ap (λ l. j ∷ l) r.parts; there = r.there }

-- A caller is so many steps of its own from what it is to come to: each brings it there or nearer, and no other's takes it back.
module _ (i : ℕ) (From : Core → ℕ → Type 0) (To : Core → Type 0)
    (some_left : (c : Core) (n : ℕ) → From c n → 1 ≤ n)
    (own_step : (c : Core) (n : ℕ) → From c n → To (step c i) ⊎ ((less : ℕ) × (From (step c i) less × (less < n))))
    (other_step : (c : Core) (j n : ℕ) → j ≢ i → From c n → From (step c j) n) where
  pub comes : (more : List ℕ) (c : Core) (n : ℕ) → From c n → n ≤ times i more → Comes c more To
  comes [] c n from few = let one = some_left c n from in absurd (omega (arith, one, few))
  comes (j ∷ more) c n from few = ⊎_elim
      (λ (same : j ≡ i). own same (own_step c n from) (λ d less there le. comes more d less there le))
      (λ ne. behind c j more To (comes more (step c j) n (other_step c j n ne from)
      (let none = ap flag (ne_eqb j i ne) in omega (arith, few, none))))
      (cases_eq j i)
    where
      own : j ≡ i → To (step c i) ⊎ ((less : ℕ) × (From (step c i) less × (less < n)))
          → ((d : Core) (less : ℕ) → From d less → less ≤ times i more → Comes d more To) → Comes c (j ∷ more) To
      own same stepped later = ⊎_elim
          (λ there. record { first = j ∷ []; rest = more; parts = refl; there = subst (λ z. To (step c z)) (sym same) there })
          (λ (near : (less : ℕ) × (From (step c i) less × (less < n))). behind c j more To
          (subst (λ z. Comes (step c z) more To) (sym same) (later (step c i) near.0 near.1.0
          (let lt = near.1.1 in let one = ap flag (eq-eqb j i same) in omega (arith, lt, few, one)))))
          stepped

-- Whoever has the front gives it back: it needs two steps at most, and is held up by nobody.

module _ (k : Shape) (count i : ℕ) where
  -- a caller with the front, and how many steps it is from giving it back
  data HasFront (c : Core) (n : ℕ) : Type 0 where
    to_store : {o : Own} {v : View} (u : Update) (front : ℕ) → At k count i c o (at.Store u front) v → n ≡ 2 → HasFront c n
    to_even : {o : Own} {v : View} (u : Update) (front : ℕ) → At k count i c o (at.Even u front) v → n ≡ 1 → HasFront c n

  some_left : (c : Core) (n : ℕ) → HasFront c n → 1 ≤ n
  some_left c n (to_store u front a is) = omega (arith, is)
  some_left c n (to_even u front a is) = omega (arith, is)

  other_step : (c : Core) (j n : ℕ) → j ≢ i → HasFront c n → HasFront (step c j) n
  other_step c j n ne (to_store {o = o} {v = v} u front a is) = to_store u front (stays_at k count i c o (at.Store u front) v a j ne) is
  other_step c j n ne (to_even {o = o} {v = v} u front a is) = to_even u front (stays_at k count i c o (at.Even u front) v a j ne) is

  -- after its last step with it the front is even, and nobody has it
  module _ (c : Core) (o : Own) (v : View) (u : Update) (front : ℕ) (a : At k count i c o (at.Even u front) v) where
    abbrev now : View
    now = view_by c o v (act_at o (at.Even u front))

    there_now : get_elem? (step c i).views i ≡ some now
    there_now = (next k count i c o (at.Even u front) v a refl).view

    -- nobody else had it
    alone : (commit : Commit) → v.commit ≡ Some commit → (j : ℕ) (w : View) → j ≢ i → get_elem? c.views j ≡ some w → w.commit ≡ None
    alone commit has j w ne there = ⊎_elim
        (λ even. absurd (let e : None ≡ Some commit = sym (even.1 i v a.view) ∙ has in cc))
        (λ (made : IsOddHere c.memory c.views (length (updates_of c.marks))). elim (only_at c.views i v a.view made.odd) [
          | inl o ↦ o.1 j w ne there
          | inr none ↦ absurd (let e : None ≡ Some commit = sym none ∙ has in cc)
        ])
        a.going.run.holds.now.front.turned

    else_same : (j : ℕ) → j ≢ i → get_elem? (step c i).views j ≡ get_elem? c.views j
    else_same j ne = step_by (λ (d : Core). get_elem? d.views j ≡ get_elem? c.views j) c i refl
        (λ p w eo ew g. set_else c.views i j _ ne)

    -- nor have the pairs moved
    here : (commit : Commit) → v.commit ≡ Some commit → (step c i).memory Moved ≡ 0
    here commit has =
        subst (λ (d : Core). d.memory Moved ≡ c.memory Moved) (sym (moves k count i c o (at.Even u front) v a refl))
        (subst (λ (z : Stage). (moved c i (record o { stage = z }) v).memory Moved ≡ c.memory Moved) (sym a.stage_is) refl)
        ∙ not_moved c.memory c.views c.marks i v a.view a.going.run.holds.now.front commit has

    free : (commit : Commit) → v.commit ≡ Some commit → IsFrontFree (step c i)
    free commit has = ⊎_elim
        (λ nobody. record {
          even = (length (updates_of (step c i).marks), (let word = nobody.0 in let none = here commit has in omega arith));
          nobody = nobody.1;
        }) odd_no
        (goes k count c i a.going).run.holds.now.front.turned
      where
        odd_no : IsOddHere (step c i).memory (step c i).views (length (updates_of (step c i).marks)) → IsFrontFree (step c i)
        odd_no made = let odd = made.odd in dite (ℕ_discrete odd.id i)
            (λ same.
            (let is : now ≡ odd.view =
            some-injective now odd.view (sym there_now ∙ subst (λ z. get_elem? (step c i).views z ≡ some odd.view) same odd.there) in
            absurd (let e : None ≡ Some odd.has.commit = subst (λ (w : View). w.commit ≡ Some odd.has.commit) (sym is) odd.has.has in cc)))
            (λ other. absurd (let e : None ≡ Some odd.has.commit =
            sym (alone commit has odd.id odd.view other (sym (else_same odd.id other) ∙ odd.there)) ∙ odd.has.has in cc))

  own_step : (c : Core) (n : ℕ) → HasFront c n
      → IsFrontFree (step c i) ⊎ ((less : ℕ) × (HasFront (step c i) less × (less < n)))
  own_step c n (to_store {o = o} {v = v} u front a is) =
      inr (1, (to_even u front (next k count i c o (at.Store u front) v a refl) refl, omega (arith, is)))
  own_step c n (to_even {o = o} {v = v} u front a is) =
      inl (free c o v u front a (record { found = front; stored = true })
      (even_commit o v u front (fits k count i c o (at.Even u front) v a)))

  from_point : (c : Core) (o : Own) (stage : Stage) (v : View) → At k count i c o stage v → WithFront stage → (more : List ℕ)
      → 2 ≤ times i more → Comes c more IsFrontFree
  from_point c o stage v a (storing u front) more many =
      comes i HasFront IsFrontFree some_left own_step other_step more c 2 (to_store u front a refl) many
  from_point c o stage v a (evening u front) more many =
      comes i HasFront IsFrontFree some_left own_step other_step more c 1 (to_even u front a refl) (omega (arith, many))

pub fronts_are_given_back : FrontsAreGivenBack
fronts_are_given_back scripts slots callers more i v commit m there has many =
    let k : Shape = shape_of slots scripts in
    let count : ℕ = length scripts in
    let c : Core = core scripts slots callers in
    let g : Going k count c = core_goes scripts slots callers m in
    let o = own_of k count c i v g there in
    let a : At k count i c o.0 o.0.stage v = record { going = g; own = o.1; stage_is = refl; view = there } in
    from_point k count i c o.0 o.0.stage v a
    (front_points o.0.stage v commit has (says o.0 v o.0.stage (fits k count i c o.0 o.0.stage v a))) more many

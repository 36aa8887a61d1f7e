-- What is so of all points together, as the laws of the crate say it.
use Rattle.std.proofs.Common.{◌≡◌, ◌≢◌, ℕ, ◌*◌, false, List, [], ◌∷◌, map, Some, refl, sym, ap, subst, ◌∙◌, ⊎_elim, ◌⊎◌, ◌==◌, ◌<◌, cond, Bool, true, Option, None, arith, ◌+◌, ◌-◌, ◌/◌, ◌≤◌, length, inl, ◌++◌, set, inr}
use Rattle.prcu_marks.specs.declared.mark.Mark.{Mark}
use Rattle.core_state.specs.declared.shape.Shape.{Shape}
use Rattle.core_state.specs.declared.shape.Waiter.TheVariants.{Eer}
use Rattle.core_state.specs.declared.words.Field.{Field}
use Rattle.core_state.specs.declared.words.Field.TheVariants.{Life, Link, Tag, Free, Key, Value}
use Rattle.core_state.specs.declared.view.Retired.{Retired}
use Rattle.core_state.specs.declared.view.SearchState.{SearchState}
use Rattle.core_state.specs.declared.view.Section.{Section}
use Rattle.core_state.specs.declared.view.View.{View}
use Rattle.core_state.specs.Views.{LoadedGeneration, loaded_in, known_under, known_in, known_of, lock_of, open_reading, Works}
use Rattle.core_state.specs.Acts.{said, left, done, marks, in_slot, IsWord, noted, section_of}
use Rattle.core_points.specs.declared.stage.Aim.TheVariants.{Leaf, Spare, Room}
use Rattle.core_points.specs.declared.stage.Node.{Node}
use Rattle.core_points.specs.declared.stage.Successor.{Successor}
use Rattle.core_points.specs.declared.stage.Stage.{Stage}
use Rattle.core_points.specs.declared.stage.Waits.TheVariants.{Reuse, Move}
use Rattle.core_points.specs.Programs.{Needs, field_of, view_after, is_step, Own, is_none_left, or_root, target_lock, act_at, after, Act, content_part, first_or_root, is_some, target_part, target_slot, successor_lock, key_now, kind_of}
use Rattle.core_points.specs.Facts.{Inside, Nothing, Owns, table_of, read_at, set_known}
use Rattle.core_points.specs.DeleteFacts.{BeforeCopy, IsAside, under, Holds}
use Rattle.core_points.specs.Laws.{IsTold, SpareComes, NeedsAreGiven, NextFits, RuleTells, TrailsAreFree, is_finished, ActsAreWithin, AnswersAreSaid, PointsKeep}
use Rattle.core_frames.specs.Telling.{IsToldOf}
use Rattle.core_frames.proofs.Telling.{told_of}
use Rattle.core_points.specs.Fits.{Fits, plain}
use Rattle.core_points.proofs.Unlinks.{needs_mark, next_mark, needs_bypass, next_bypass, needs_empty_tag, next_empty_tag, needs_empty_raise, next_empty_raise, needs_old_mark, next_old_mark, needs_old_right, next_old_right, needs_unlink, next_unlink}
use Rattle.core_points.proofs.Links.{needs_commit, next_commit, needs_even, next_even, needs_raise, next_raise, needs_free, next_free, needs_count, next_count, needs_field, next_field, needs_lock, next_lock, needs_life, next_life, needs_side, next_side, needs_tag, next_tag, needs_store, next_store}
use Rattle.core_points.proofs.Copies.{needs_successor_key, next_successor_key, needs_successor_value, next_successor_value, needs_copy_field, next_copy_field, needs_copy_age, next_copy_age, needs_copy_lock, next_copy_lock, needs_copy_mark, next_copy_mark, needs_copy_store, next_copy_store, some_spare}
use Rattle.core_points.proofs.DeleteSearches.{needs_parent_life, next_parent_life, needs_node_life, next_node_life, needs_node_left, next_node_left, needs_node_right, next_node_right, needs_successor_left, next_successor_left, needs_successor_parent, next_successor_parent, needs_successor_life, next_successor_life, next_delete, next_age_spare, needs_keep, next_keep}
use Rattle.core_points.proofs.Searches.{next_absent, next_val, next_old, next_link_leaf, needs_spot_tag, next_spot_tag, needs_spot_life, next_spot_life, needs_reserve, next_reserve, needs_seize, next_seize, needs_age, next_age, next_clock, needs_key, next_key, needs_stamp, next_stamp, needs_link, next_link, needs_read, next_read, needs_value, next_value}
use Rattle.core_points.proofs.Waits.{needs_move_begin, next_move_begin, needs_move_key, next_move_key, needs_move_stamp, next_move_stamp, needs_old_age, next_old_age, needs_old_raise, next_old_raise, needs_old_free, next_old_free, needs_old_count, next_old_count, no_spare, needs_begin, next_begin, needs_look_key, next_look_key, needs_look_stamp, next_look_stamp}
use Rattle.core_points.proofs.Sets.{needs_set_life, next_set_life, next_replace, needs_set_lock, next_set_lock, needs_set_check, next_set_check, needs_set_value, next_set_value, needs_set_store, next_set_store}
use Rattle.core_points.proofs.Targets.{needs_target_lock, next_target_lock, needs_target_load, next_target_load}
use Rattle.core_points.proofs.Locks.{needs_unlock, next_unlock}
use Rattle.core_laws.proofs.Locks.{loaded_known, lock_under, alive, young_locked}
use Rattle.prcu_marks.specs.declared.mark.Side.{Side}
use Rattle.prcu_marks.specs.declared.mark.Side.TheVariants.{Left, Right}
use Rattle.core_state.specs.declared.view.Held.{Held}
use Rattle.core_state.specs.Memory.{slot_count, Memory, stored}
use Rattle.core_state.specs.Links.{IsInHand, IsRetiredAt}
use Rattle.core_state.specs.Steps.{NeedsLockedLoad, NeedsSearchLoad, NeedsLeaveByStamp}
use Rattle.core_points.specs.declared.stage.Target.{Target}
use Rattle.core_state.specs.declared.act.Part.{Part}
use Rattle.core_laws.proofs.Acting.{part_word, may_leave}
use Rattle.core_laws.proofs.Whole.{acts_keep}
use mathlib.Core.Option.{some}
use lib.ListN.{get_elem?}
use Rattle.prcu_marks.specs.Marks.{updates_of, updates_by}
use Rattle.prcu_model.specs.Dictionary.{WasSaid, map_of}
use Rattle.core_state.specs.declared.view.HeldLock.{HeldLock}
use Rattle.core_state.specs.declared.view.Reading.{Reading}
use Rattle.core_state.specs.declared.view.SearchState.TheVariants.{Found, Missed}
use Rattle.core_state.specs.Parts.{StandsWell, IsOddHere}
use Rattle.core_state.specs.Invariant.{HoldsNow, Invariant}
use Rattle.list_laws.specs.Counts.{IsIn}
use Rattle.core_frames.proofs.PlainLaws.{follow_here, searches_are_answered}
use Rattle.list_laws.proofs.Lists.{in_first, in_second, only_at}
use Rattle.core_frames.specs.Laws.{answer_of, KeepsPast}
use Rattle.core_frames.proofs.Counting.{empty_is_full}
use Rattle.core_points.specs.declared.stage.Spot.{Spot}
use Rattle.core_points.proofs.Notes.{one_locked}
use Rattle.core_laws.proofs.LockSteps.{known_here}
use Rattle.core_points.specs.declared.stage.Stage.TheVariants as at
use Rattle.core_points.specs.declared.stage.Then.TheVariants as then
use Rattle.core_points.specs.declared.stage.Update.TheVariants as update
use Rattle.core_state.specs.declared.act.Part.TheVariants as part
use Rattle.std.specs.FinMap as finite

-- All points: what each act needs is given, and after it the view fits the next point.

pub rule_tells : RuleTells
rule_tells k m vs h id o v inv there works slots places room =
    subst (λ (z : ℕ × ℕ × ℕ). IsToldOf z.0 z.1 z.2 v h m) (λ i. (slots i, places i, room i)) (told_of k m vs h id v inv there works)

none_are : (rs : List Retired) (os : List ℕ) → map (λ (r : Retired). r.slot) rs ≡ os → rs ≢ [] → is_none_left os ≡ false
none_are [] os e ne = absurd (ne refl)
none_are (r ∷ rs) os e ne = ap is_none_left (sym e)

pub comes : (o : Own) (v : View) (h : List Mark) (word : Field → ℕ) → IsTold o v h word → Owns o v → SpareComes o
comes o v h word told owns none = none_are v.hands.retired o.retired owns.retired_are
    (told.spare_comes (no_spare v.hands.spare o.spare owns.spare_is none))

-- the spare is none of the slots of a delete whose records hold
is_aside : (o : Own) (v : View) (h : List Mark) (word : Field → ℕ) (d : Node) (u : Successor) → IsTold o v h word → Owns o v
    → BeforeCopy o (plain v) d u → IsAside (or_root o.spare) d u
is_aside o v h word d u told owns p =
    let c = p.copying in
    let both = c.both in
    let r = both.0 in
    let node = both.2 in
    let s = both.3 in
    let spare = some_spare v.hands.spare o.spare owns.spare_is (((c.deleting).1).has_spare (c.deleting).0) in
    let known = λ (t g : ℕ) (e : loaded_in (under v.locks t) (Life t) ≡ Some (2 * g)). loaded_known (under v.locks t) (Life t) (2 * g) e in
    let apart = λ (t g : ℕ) (recorded : LoadedGeneration r t g) (e : loaded_in (under v.locks t) (Life t)
    ≡ Some (2 * g)). λ (same : or_root o.spare ≡ t). told.aside r t g node.kept recorded (known t g e) spare.0 spare.1
    (spare.2 ∙ same) in
    let from_node : or_root o.spare ≢ d.node = apart d.node d.generation node.recorded p.unmarked in
    record {
      parent = apart d.parent d.parent_generation node.parent_recorded node.parent_life;
      node = from_node;
      successor = apart u.slot u.generation s.recorded s.life;
      walk_parent = ⊎_elim
          (λ (x : (u.parent ≡ d.node) × (d.right ≡ u.slot)). λ same. from_node (same ∙ x.0))
          (λ x. apart u.parent u.parent_generation x.1 x.2)
          s.link;
    }

module _ (k : Shape) (h : List Mark) (o : Own) (w : View) (places : k.places ≡ o.places) (room : k.room ≡ o.room) where
  leaves : (key : ℕ) (state : SearchState) (more : Section → Type 0) → Inside w key state more → NeedsLeaveByStamp w (section_of w)
  leaves key state more i = may_leave w i.is

  needs_all : (word : Field → ℕ) → IsTold o w h word → (n : ℕ) (stage : Stage) → (is_step (act_at o stage) ≡ false → k.waiter ≡ Eer)
      → Fits o stage w → Needs k w n (act_at o stage)
  needs_all word told n at.Finished eer f = tt
  needs_all word told n at.EnterClock eer f = tt
  needs_all word told n (at.EnterKey clock) eer f = needs_key k h o w n clock f
  needs_all word told n (at.EnterStamp clock) eer f = needs_stamp k h o w n clock f
  needs_all word told n (at.AtLink s b) eer f = needs_link k h o w n s b f
  needs_all word told n (at.AtKey s p b) eer f = needs_read k h o w n s p b f
  needs_all word told n (at.Leave then.Absent) eer f = leaves _ _ Nothing (((f.point).1).1).2
  needs_all word told n (at.Leave (then.Value value)) eer f = leaves _ _ Nothing (((f.point).1).1).3
  needs_all word told n (at.Leave then.Old) eer f = leaves _ _ Nothing (((f.point).1).1).3
  needs_all word told n (at.Leave (then.Link spot)) eer f = leaves _ _ _ ((f.point).1).1
  needs_all word told n (at.Leave (then.Replace s generation)) eer f = leaves _ _ _ (((f.point).1).1).2
  needs_all word told n (at.Leave (then.Delete t)) eer f = leaves _ _ _ ((f.point).1).1
  needs_all word told n (at.Value s) eer f = needs_value k h o w n s f
  needs_all word told n (at.SpotTag s b) eer f = needs_spot_tag k h o w n s b f
  needs_all word told n (at.SpotLife s b tag) eer f = needs_spot_life k h o w n s b tag f
  needs_all word told n (at.LeafField spot i) eer f = needs_field k h o w n spot i f
  needs_all word told n (at.LeafLock spot) eer f = needs_lock k h o w n spot f
  needs_all word told n (at.LeafLife spot) eer f = needs_life k h o w n spot f
  needs_all word told n (at.LeafSide spot life) eer f = needs_side k h o w n spot life f
  needs_all word told n (at.LeafTag spot life link) eer f = needs_tag k h o w n spot life link f
  needs_all word told n (at.Reserve aim expected) eer f = needs_reserve k h o w n aim expected f
  needs_all word told n (at.Seize aim) eer f = needs_seize k h o w n aim f
  needs_all word told n (at.Age aim s) eer f = needs_age k h o w n aim s f
  needs_all word told n (at.Keep s) eer f = needs_keep k h o w n s f
  needs_all word told n at.Raise eer f = needs_raise k h o w n f
  needs_all word told n at.Free eer f = needs_free k h o w n f
  needs_all word told n at.Count eer f = needs_count k h o w n f
  needs_all word told n (at.Begin (Reuse aim)) eer f = needs_begin k h o w n aim f
  needs_all word told n (at.Begin (Move m)) eer f = needs_move_begin k h o w n m told.moves f
  needs_all word told n (at.LookKey (Reuse aim) clock p) eer f = needs_look_key k h o w n aim clock p (eer refl) places f
  needs_all word told n (at.LookKey (Move m) clock p) eer f = needs_move_key k h o w n m clock p (eer refl) places f
  needs_all word told n (at.LookStamp (Reuse aim) clock p key) eer f = needs_look_stamp k h o w n aim clock p key (eer refl) places f
  needs_all word told n (at.LookStamp (Move m) clock p key) eer f = needs_move_stamp k h o w n m clock p key (eer refl) places f
  needs_all word told n (at.OldAge aim) eer f = needs_old_age k h o w n aim f
  needs_all word told n (at.OldRaise aim life) eer f = needs_old_raise k h o w n aim life f
  needs_all word told n (at.OldFree aim) eer f = needs_old_free k h o w n aim f
  needs_all word told n (at.OldCount aim) eer f = needs_old_count k h o w n aim f
  needs_all word told n (at.Commit u expected) eer f = needs_commit k h o w n u expected f
  needs_all word told n (at.Store (update.Leaf spot) front) eer f = needs_store k h o w n spot front f
  needs_all word told n (at.Store (update.Value s old) front) eer f = needs_set_store k h o w n s old front f
  needs_all word told n (at.Store (update.Bypass d child) front) eer f = needs_bypass k h o w n d child front room told.some_room f
  needs_all word told n (at.Store (update.Copy d u next_key copy) front) eer f = needs_copy_store k h o w n d u next_key copy front room told.some_room f
  needs_all word told n (at.Even u front) eer f = needs_even k h o w n u front f
  needs_all word told n (at.Unlock l) eer f = needs_unlock k h o w n l f
  needs_all word told n (at.SetLife s) eer f = needs_set_life k h o w n s f
  needs_all word told n (at.SetLock s generation) eer f = needs_set_lock k h o w n s generation f
  needs_all word told n (at.SetCheck s generation) eer f = needs_set_check k h o w n s generation f
  needs_all word told n (at.SetValue s) eer f = needs_set_value k h o w n s f
  needs_all word told n (at.ParentLife p b d) eer f = needs_parent_life k h o w n p b d f
  needs_all word told n (at.NodeLife d) eer f = needs_node_life k h o w n d f
  needs_all word told n (at.NodeLeft d) eer f = needs_node_left k h o w n d f
  needs_all word told n (at.NodeRight d) eer f = needs_node_right k h o w n d f
  needs_all word told n (at.SuccessorLeft d u) eer f = needs_successor_left k h o w n d u f
  needs_all word told n (at.SuccessorParentLife d u) eer f = needs_successor_parent k h o w n d u f
  needs_all word told n (at.SuccessorLife d u) eer f = needs_successor_life k h o w n d u f
  needs_all word told n (at.TargetLock t i) eer f = needs_target_lock k h o w n t i f
  needs_all word told n (at.TargetLoad t i found) eer f = needs_target_load k h o w n t i found f
  needs_all word told n (at.Mark d child) eer f = needs_mark k h o w n d child f
  needs_all word told n (at.EmptyTag number s b) eer f = needs_empty_tag k h o w n number s b f
  needs_all word told n (at.EmptyRaise number s b tag) eer f = needs_empty_raise k h o w n number s b tag f
  needs_all word told n (at.SuccessorKey d u) eer f = needs_successor_key k h o w n d u f
  needs_all word told n (at.SuccessorValue d u next_key) eer f = needs_successor_value k h o w n d u next_key f
  needs_all word told n (at.CopyField d u next_key value i) eer f = needs_copy_field k h o w n d u next_key value i f
  needs_all word told n (at.CopyAge d u next_key) eer f = needs_copy_age k h o w n d u next_key f
  needs_all word told n (at.CopyLock d u next_key) eer f = needs_copy_lock k h o w n d u next_key f
  needs_all word told n (at.CopyMark d u next_key) eer f = needs_copy_mark k h o w n d u next_key f
  needs_all word told n (at.OldMark m) eer f = needs_old_mark k h o w n m f
  needs_all word told n (at.OldRight m) eer f = needs_old_right k h o w n m f
  needs_all word told n (at.Unlink m child) eer f = needs_unlink k h o w n m child f

pub needs_are_given : NeedsAreGiven
needs_are_given k h o v word n stage eer places room told f = needs_all k h o v places room word told n stage eer f

-- a shape, for what doesn't speak of it
any : Shape
any = record { waiter = Eer; slots = 0; places = 0; room = 0; tickets = 0 }

module _ (h : List Mark) (o : Own) (v : View) where
  -- where the next point doesn't speak of the number that was found, any does, as 0
  next_all : (word : Field → ℕ) → IsTold o v h word → (stage : Stage) → is_finished stage ≡ false → Fits o stage v
      → let n : ℕ = said v (act_at o stage) (word (field_of o.place (act_at o stage))) in
      Fits (after o n stage) (after o n stage).stage (view_after v h n (act_at o stage))
  next_all word told at.Finished going f = cc
  next_all word told at.EnterClock going f = next_clock any h o v _ f
  next_all word told (at.EnterKey clock) going f = next_key any h o v 0 clock f
  next_all word told (at.EnterStamp clock) going f = next_stamp any h o v 0 clock f
  next_all word told (at.AtLink s b) going f = next_link any h o v _ s b f
  next_all word told (at.AtKey s p b) going f = next_read any h o v _ s p b f
  next_all word told (at.Leave then.Absent) going f = next_absent any h o v 0 f
  next_all word told (at.Leave (then.Value value)) going f = next_val any h o v 0 value f
  next_all word told (at.Leave then.Old) going f = next_old any h o v 0 f
  next_all word told (at.Leave (then.Link spot)) going f = next_link_leaf any h o v 0 spot told.stood f
  next_all word told (at.Leave (then.Replace s generation)) going f = next_replace any h o v 0 s generation told.stood f
  next_all word told (at.Leave (then.Delete t)) going f = next_delete any h o v 0 t told.stood f
  next_all word told (at.Value s) going f = next_value any h o v _ s f
  next_all word told (at.SpotTag s b) going f = next_spot_tag any h o v _ s b f
  next_all word told (at.SpotLife s b tag) going f = next_spot_life any h o v _ s b tag f
  next_all word told (at.LeafField spot i) going f = next_field any h o v 0 spot i f
  next_all word told (at.LeafLock spot) going f = next_lock any h o v _ spot f
  next_all word told (at.LeafLife spot) going f = next_life any h o v _ spot (told.loads spot.slot (Life spot.slot)) f
  next_all word told (at.LeafSide spot life) going f = next_side any h o v _ spot life (told.loads spot.slot (Link spot.slot spot.side)) f
  next_all word told (at.LeafTag spot life link) going f = next_tag any h o v _ spot life link
      (told.loads spot.slot (Tag spot.slot spot.side)) f
  next_all word told (at.Reserve aim expected) going f = next_reserve any h o v _ aim expected f
  next_all word told (at.Seize aim) going f = next_seize any h o v _ aim f
  next_all word told (at.Age (Leaf spot) s) going f = next_age any h o v _ spot s f
  next_all word told (at.Age Spare s) going f = next_age_spare any h o v _ s f
  next_all word told (at.Age Room s) going f = absurd (f.point).takes
  next_all word told (at.Keep s) going f = next_keep any h o v _ s f
  next_all word told at.Raise going f = next_raise any h o v 0 f
  next_all word told at.Free going f = next_free any h o v 0 f
  next_all word told at.Count going f = next_count any h o v _ f
  next_all word told (at.Begin (Reuse aim)) going f = next_begin any h o v _ aim told.some_place told.older f
  next_all word told (at.Begin (Move m)) going f = next_move_begin any h o v _ m told.some_place told.moves f
  next_all word told (at.LookKey (Reuse aim) clock p) going f = next_look_key any h o v _ aim clock p (comes o v h word told f.owns) f
  next_all word told (at.LookKey (Move m) clock p) going f = next_move_key any h o v _ m clock p f
  next_all word told (at.LookStamp (Reuse aim) clock p key) going f = next_look_stamp any h o v _ aim clock p key
      (comes o v h word told f.owns) f
  next_all word told (at.LookStamp (Move m) clock p key) going f = next_move_stamp any h o v _ m clock p key f
  next_all word told (at.OldAge aim) going f = next_old_age any h o v _ aim f
  next_all word told (at.OldRaise aim life) going f = next_old_raise any h o v _ aim life told.alone f
  next_all word told (at.OldFree aim) going f = next_old_free any h o v 0 aim told.alone f
  next_all word told (at.OldCount aim) going f = next_old_count any h o v _ aim (comes o v h word told f.owns) f
  next_all word told (at.Commit u expected) going f = next_commit any h o v _ u expected f
  next_all word told (at.Store (update.Leaf spot) front) going f = next_store any h o v 0 spot front f
  next_all word told (at.Store (update.Value s old) front) going f = next_set_store any h o v 0 s old front f
  next_all word told (at.Store (update.Bypass d child) front) going f = next_bypass any h o v 0 d child front f
  next_all word told (at.Store (update.Copy d u next_key copy) front) going f = next_copy_store any h o v 0 d u next_key copy front f
  next_all word told (at.Even u front) going f = next_even any h o v 0 u front f
  next_all word told (at.Unlock l) going f = next_unlock any h o v 0 l told.once f
  next_all word told (at.SetLife s) going f = next_set_life any h o v _ s f
  next_all word told (at.SetLock s generation) going f = next_set_lock any h o v _ s generation f
  next_all word told (at.SetCheck s generation) going f = next_set_check any h o v _ s generation f
  next_all word told (at.SetValue s) going f = next_set_value any h o v _ s f
  next_all word told (at.ParentLife p b d) going f = next_parent_life any h o v _ p b d f
  next_all word told (at.NodeLife d) going f = next_node_life any h o v _ d f
  next_all word told (at.NodeLeft d) going f = next_node_left any h o v _ d f
  next_all word told (at.NodeRight d) going f = next_node_right any h o v _ d f
  next_all word told (at.SuccessorLeft d u) going f = next_successor_left any h o v _ d u f
  next_all word told (at.SuccessorParentLife d u) going f = next_successor_parent any h o v _ d u f
  next_all word told (at.SuccessorLife d u) going f = next_successor_life any h o v _ d u f
  next_all word told (at.TargetLock t i) going f = next_target_lock any h o v _ t i (λ free held. told.busy (target_lock t i) held free) f
  next_all word told (at.TargetLoad t i found) going f = next_target_load any h o v _ t i found f
  next_all word told (at.Mark d child) going f = next_mark any h o v 0 d child f
  next_all word told (at.EmptyTag number s b) going f = next_empty_tag any h o v _ number s b f
  next_all word told (at.EmptyRaise number s b tag) going f = next_empty_raise any h o v 0 number s b tag f
  next_all word told (at.SuccessorKey d u) going f = next_successor_key any h o v _ d u (is_aside o v h word d u told f.owns f.point) f
  next_all word told (at.SuccessorValue d u next_key) going f = next_successor_value any h o v _ d u next_key f
  next_all word told (at.CopyField d u next_key value i) going f = next_copy_field any h o v 0 d u next_key value i f
  next_all word told (at.CopyAge d u next_key) going f = next_copy_age any h o v _ d u next_key f
  next_all word told (at.CopyLock d u next_key) going f = next_copy_lock any h o v _ d u next_key f
  next_all word told (at.CopyMark d u next_key) going f = next_copy_mark any h o v 0 d u next_key f
  next_all word told (at.OldMark m) going f = next_old_mark any h o v 0 m f
  next_all word told (at.OldRight m) going f = next_old_right any h o v _ m f
  next_all word told (at.Unlink m child) going f = next_unlink any h o v _ m child f

pub next_fits : NextFits
next_fits h o v word stage told going f = next_all h o v word told stage going f

pub trails_are_free : TrailsAreFree
trails_are_free h o v word stage kind field number = (
  (λ f. record { owns = f.owns; tickets = f.tickets; unraised = f.unraised; point = f.point }),
  (λ told. record {
    some_place = told.some_place;
    some_room = told.some_room;
    loads = told.loads;
    older = told.older;
    alone = told.alone;
    spare_comes = told.spare_comes;
    stood = told.stood;
    once = told.once;
    busy = told.busy;
    aside = told.aside;
    moves = told.moves;
    place_within = told.place_within;
    locks_within = told.locks_within;
    hand_within = told.hand_within;
    spare_within = told.spare_within;
    retired_within = told.retired_within;
    move_within = told.move_within;
    links_within = told.links_within;
    old_links_within = told.old_links_within;
  }),
)

-- The word of each act is one of the table's.

-- a slot of a target is one at which the section stood
target_within : (o : Own) (v : View) (t : Target) (i : ℕ) → Fits o (at.TargetLock t i) v → target_lock t i < table_of o
target_within o v t i f = by (i == 0) (i == 1)
  where
    below : (h : Option Successor) → t.successor ≡ h → successor_lock t.node h i < table_of o
    below None e = let has = (f.point).target in has.within t.node.parent has.parent_stood
    below (Some u) e =
        let has = (f.point).target in
        let reads = subst (λ h. Rattle.core_points.specs.DeleteFacts.ReadsChildren has.reading t.node h) e has.children in
        at_successor (has.within u.slot (reads.0).slot_stood)
        (has.within u.parent (reads.0).parent_stood) (u.parent == t.node.node) (i == 2)
      where
        at_successor : u.slot < table_of o → u.parent < table_of o → (a b : Bool) → cond a u.slot (cond b u.parent u.slot) < table_of o
        at_successor s p true b = s
        at_successor s p false true = p
        at_successor s p false false = s

    by : (a b : Bool) → cond a t.node.parent (cond b t.node.node (successor_lock t.node t.successor i)) < table_of o
    by true b = let has = (f.point).target in has.within t.node.parent has.parent_stood
    by false true = let has = (f.point).target in has.within t.node.node has.node_stood
    by false false = below t.successor refl

copy_within : (o : Own) (v : View) (h : List Mark) (word : Field → ℕ) (d : Node) (u : Successor) (next_key : ℕ) → IsTold o v h word
    → Fits o (at.CopyLock d u next_key) v → or_root o.spare < table_of o
copy_within o v h word d u next_key told f = let c = ((f.point).1).has_copy in
    subst (λ x. x < table_of o) c.slot_is (told.spare_within c.held c.spare_is)

module _ (k : Shape) (h : List Mark) (o : Own) (v : View) (word : Field → ℕ) (slots : k.slots ≡ o.slots) (places : k.places ≡ o.places)
    (told : IsTold o v h word) where
  slot_in : (s : ℕ) → s < table_of o → s < slot_count k
  slot_in s lt = omega arith

  place_in : (p : ℕ) → k.waiter ≡ Eer → p < o.places → (k.waiter ≡ Eer) × (p < k.places)
  place_in p eer lt = (eer, omega arith)

  held_in_table : (held : Held) (s : ℕ) → ((v.hands.hand ≡ Some held) × (held.slot ≡ s)) ⊎ ((v.hands.spare ≡ Some held) × (held.slot ≡ s))
      → s < table_of o
  held_in_table held s e = ⊎_elim
      (λ (x : (v.hands.hand ≡ Some held) × (held.slot ≡ s)). subst (λ t. t < table_of o) x.1 (told.hand_within held x.0))
      (λ x. subst (λ t. t < table_of o) x.1 (told.spare_within held x.0)) e

  loaded_in_table : (s : ℕ) (field : Field) (x : ℕ) → loaded_in (known_under v s) field ≡ Some x → s < table_of o
  loaded_in_table s field x e = let l = lock_under v s field x (loaded_known (known_under v s) field x e) in told.locks_within s (l.0, l.1)

  -- a word of a slot that was searched, that is locked, in hand or the spare, or retired
  searched : (s : ℕ) (p : Part) → NeedsSearchLoad v (section_of v) s (in_slot s p) → IsWord k (in_slot s p)
  searched s p d = part_word k s p (slot_in s (told.stood (section_of v) d.section_is s d.stood))

  under_lock : (s : ℕ) → Holds v.locks s → s < slot_count k
  under_lock s holds = slot_in s (told.locks_within s holds)

  locked : (s : ℕ) (p : Part) → NeedsLockedLoad v s (in_slot s p) → IsWord k (in_slot s p)
  locked s p d = part_word k s p (under_lock s d.held)

  filled : (held : Held) (s : ℕ) (p : Part)
      → ((v.hands.hand ≡ Some held) × (held.slot ≡ s)) ⊎ ((v.hands.spare ≡ Some held) × (held.slot ≡ s)) → IsWord k (in_slot s p)
  filled held s p has = part_word k s p (slot_in s (held_in_table held s has))

  in_hand : (held : Held) (s : ℕ) → IsInHand v held s → s < slot_count k
  in_hand held s is = slot_in s (subst (λ t. t < table_of o) is.1 (told.hand_within held is.0))

  retired : (i : ℕ) (r : Retired) (s : ℕ) → IsRetiredAt v i r s → s < slot_count k
  retired i r s is = slot_in s (subst (λ t. t < table_of o) is.1 (told.retired_within i r is.0))

  linked : (s child : ℕ) (b : Side) → loaded_in (known_under v s) (Link s b) ≡ Some child → s < slot_count k
  linked s child b now = slot_in s (loaded_in_table s (Link s b) child now)

  either : (b : Bool) (x y : Act) → Needs k v 0 (cond b x y) → (Needs k v 0 x → IsWord k (field_of v.allowance.place x))
      → (Needs k v 0 y → IsWord k (field_of v.allowance.place y)) → IsWord k (field_of v.allowance.place (cond b x y))
  either true x y d first second = first d
  either false x y d first second = second d

  within : (stage : Stage) → (is_step (act_at o stage) ≡ false → k.waiter ≡ Eer) → Fits o stage v → Needs k v 0 (act_at o stage)
      → IsWord k (field_of v.allowance.place (act_at o stage))
  within (at.EnterKey clock) eer f d = place_in v.allowance.place (eer refl) told.place_within
  within (at.EnterStamp clock) eer f d = place_in v.allowance.place (eer refl) told.place_within
  within (at.AtLink s b) eer f d = searched s (part.Link b) d
  within (at.AtKey s p b) eer f d = searched s part.Key d
  within (at.Leave next) eer f d = place_in v.allowance.place (eer refl) told.place_within
  within (at.Value s) eer f d = searched s part.Value d
  within (at.SpotTag s b) eer f d = searched s (part.Tag b) d
  within (at.SpotLife s b tag) eer f d = searched s part.Life d
  within (at.LeafField spot i) eer f d = filled d.0 (or_root o.hand) (content_part i) (d.1).holder
  within (at.LeafLock spot) eer f d = slot_in spot.slot ((f.point).has_spot).inside
  within (at.LeafLife spot) eer f d = locked spot.slot part.Life d
  within (at.LeafSide spot life) eer f d = locked spot.slot (part.Link spot.side) d
  within (at.LeafTag spot life link) eer f d = locked spot.slot (part.Tag spot.side) d
  within (at.Seize aim) eer f d = slot_in o.scan (let le = f.owns.scans_table in omega arith)
  within (at.Age aim s) eer f d = slot_in s (held_in_table d.0 s d.1)
  within (at.Keep s) eer f d = in_hand d.0 s (d.1).in_hand
  within at.Raise eer f d = in_hand d.0 (or_root o.hand) (d.1).in_hand
  within at.Free eer f d = in_hand d.0 (or_root o.hand) (d.1).in_hand
  within (at.LookKey (Reuse aim) clock p) eer f d = place_in p (eer refl) ((f.point).2)
  within (at.LookKey (Move m) clock p) eer f d = place_in p (eer refl) (((f.point).3).0)
  within (at.LookStamp (Reuse aim) clock p key) eer f d = place_in p (eer refl) ((f.point).2)
  within (at.LookStamp (Move m) clock p key) eer f d = place_in p (eer refl) (((f.point).3).0)
  within (at.OldAge aim) eer f d = retired d.0 d.1 (first_or_root o.retired) d.2
  within (at.OldRaise aim life) eer f d =
      let s : ℕ = first_or_root o.retired in
      either (is_some o.spare) _ _ d (λ x. retired x.0 x.1 s (x.2).retired) (λ x. retired x.0 x.1 s (x.2).retired)
  within (at.OldFree aim) eer f d = retired d.0 d.1 (first_or_root o.retired) (d.2).retired
  within (at.Store (update.Leaf spot) front) eer f d = under_lock spot.slot (d.lock, d.locked)
  within (at.Store (update.Value s old) front) eer f d =
      under_lock s (let l = lock_under v s (Life s) (2 * d.generation) d.life_now in (l.0, l.1))
  within (at.Store (update.Bypass x child) front) eer f d =
      linked x.parent x.node x.side ((d.records).records).link_now
  within (at.Store (update.Copy x u next_key copy) front) eer f d =
      linked x.parent x.node x.side ((d.records).records).link_now
  within (at.Unlock l) eer f d = under_lock (first_or_root o.locks) (d.lock, d.held)
  within (at.SetLife s) eer f d = searched s part.Life d
  within (at.SetLock s generation) eer f d = slot_in s ((f.point).found).inside
  within (at.SetCheck s generation) eer f d = locked s part.Life d
  within (at.SetValue s) eer f d = locked s part.Value d
  within (at.ParentLife p b x) eer f d = searched p part.Life d
  within (at.NodeLife x) eer f d = searched x.node part.Life d
  within (at.NodeLeft x) eer f d = searched x.node (part.Link Left) d
  within (at.NodeRight x) eer f d = searched x.node (part.Link Right) d
  within (at.SuccessorLeft x u) eer f d = searched u.slot (part.Link Left) d
  within (at.SuccessorParentLife x u) eer f d = searched u.parent part.Life d
  within (at.SuccessorLife x u) eer f d = searched u.slot part.Life d
  within (at.TargetLock t i) eer f d = slot_in (target_lock t i) (target_within o v t i f)
  within (at.TargetLoad t i found) eer f d = locked (target_slot t i) (target_part t i) d
  within (at.Mark x child) eer f d = under_lock x.node (d.lock, d.locked)
  within (at.EmptyTag number s b) eer f d = locked s (part.Tag b) d
  within (at.EmptyRaise number s b tag) eer f d = under_lock s (d.lock, d.held)
  within (at.SuccessorKey x u) eer f d = locked u.slot part.Key d
  within (at.SuccessorValue x u next_key) eer f d = locked u.slot part.Value d
  within (at.CopyField x u next_key value i) eer f d = filled d.0 (or_root o.spare) (content_part i) (d.1).holder
  within (at.CopyAge x u next_key) eer f d = slot_in (or_root o.spare) (held_in_table d.0 (or_root o.spare) d.1)
  within (at.CopyLock x u next_key) eer f d = slot_in (or_root o.spare) (copy_within o v h word x u next_key told f)
  within (at.CopyMark x u next_key) eer f d = under_lock x.node (d.lock, d.locked)
  within (at.OldMark m) eer f d = under_lock m.successor.slot (d.lock, d.locked)
  within (at.OldRight m) eer f d = locked m.successor.slot (part.Link Right) d
  within (at.Unlink m child) eer f d =
      either (m.successor.parent == m.node.node) _ _ d
      (λ x. slot_in m.copy (subst (λ t. t < table_of o) x.parent_is (told.move_within x.move x.moving)))
      (λ x. slot_in m.successor.parent (subst (λ t. t < table_of o) x.parent_is (told.move_within x.move x.moving)))
  within _ eer f d = tt

pub acts_are_within : ActsAreWithin
acts_are_within k h o v word stage eer slots places room told f =
    subst (λ p. IsWord k (field_of p (act_at o stage))) f.owns.same
    (within k h o v word slots places told stage eer f (needs_are_given k h o v word 0 stage eer places room told f))

-- The history explains the answers.

-- A search that ended at an empty side, or loaded the value that it found: the dictionary said so since the section was entered.
search_said : (k : Shape) (m : Memory) (vs : List View) (h : List Mark) (id : ℕ) (v : View) (key : ℕ) (state : SearchState)
    (more : Section → Type 0) → HoldsNow k m vs h → get_elem? vs id ≡ some v
    → (i : Inside v key state more) → WasSaid (updates_of h) key (i.section).from (answer_of m (slot_count k) key state)
search_said k m vs h id v key state more inv there i =
    let section : Section = i.section in
    let said = searches_are_answered k m vs h inv section
    (record { id = id; view = v; there = there; has = (i.is, (i.stands).searches) }) in
    subst (λ s. WasSaid (updates_of h) key section.from (answer_of m (slot_count k) key s)) (i.stands).state_is
    (subst (λ x. WasSaid (updates_of h) x section.from (answer_of m (slot_count k) x section.reading.state)) (i.stands).key_is said)

-- A get's answer, as it leaves its section.
value_said : (k : Shape) (m : Memory) (vs : List View) (h : List Mark) (id : ℕ) (v : View) (o : Own) (value : ℕ) → HoldsNow k m vs h
    → get_elem? vs id ≡ some v
    → Fits o (at.Leave (then.Value value)) v → (section : Section) × (v.section ≡ Some section)
    × WasSaid (updates_of h) (key_now o) section.from (Some value)
value_said k m vs h id v o value inv there f =
    let p = (f.point).1 in
    let q = p.1 in
    let i = q.3 in
    (i.section, i.is, search_said k m vs h id v (key_now o) (Found q.0 q.1 q.2 (Some value)) Nothing inv there i)

absent_said : (k : Shape) (m : Memory) (vs : List View) (h : List Mark) (id : ℕ) (v : View) (o : Own) → HoldsNow k m vs h
    → get_elem? vs id ≡ some v
    → Fits o (at.Leave then.Absent) v → (section : Section) × (v.section ≡ Some section)
    × WasSaid (updates_of h) (key_now o) section.from None
absent_said k m vs h id v o inv there f =
    let p = (f.point).1 in
    let q = p.1 in
    let i = q.2 in
    (i.section, i.is, search_said k m vs h id v (key_now o) (Missed q.0 q.1) Nothing inv there i)

-- A put that found its key: it had a value.
old_said : (k : Shape) (m : Memory) (vs : List View) (h : List Mark) (id : ℕ) (v : View) (o : Own) → HoldsNow k m vs h
    → get_elem? vs id ≡ some v → Fits o (at.Leave then.Old) v
    → (section : Section) × (v.section ≡ Some section) × ((value : ℕ) × WasSaid (updates_of h) (key_now o) section.from (Some value))
old_said k m vs h id v o inv there f =
    let p = (f.point).1 in
    let q = p.1 in
    let i = q.3 in
    let section : Section = i.section in
    let r : Reading = section.reading in
    let s : ℕ = q.0 in
    let kept = in_first (open_reading v.section) v.records r (subst (λ x. IsIn (open_reading x) r) (sym i.is) (0, refl)) in
    let reading = inv.readers.readings id v there kept.0 r kept.1 in
    let well = subst (StandsWell r) (i.stands).state_is reading.well in
    let stood = (inv.readers.served id v there section i.is).stood s (i.stands).here in
    let key : m (Key s) ≡ key_now o = stood.key r.key well.1 ∙ (i.stands).sought in (
      section,
      i.is,
      (
        m (Value s),
        subst (WasSaid (updates_of h) (key_now o) section.from)
            (follow_here m (slot_count k) s (key_now o) (well.0).some_slot key)
            (search_said k m vs h id v (key_now o) (Found s q.1 q.2 None) Nothing inv there i),
      ),
    )

none_retired : (rs : List Retired) (os : List ℕ) → map (λ (r : Retired). r.slot) rs ≡ os → is_none_left os ≡ true → length rs ≡ 0
none_retired [] os e none = refl
none_retired (r ∷ rs) os e none = absurd (let q : false ≡ true = ap is_none_left e ∙ none in cc)

full_said : (k : Shape) (m : Memory) (vs : List View) (h : List Mark) (id : ℕ) (v : View) (o : Own) (spot : Spot) (expected : ℕ)
    → HoldsNow k m vs h → get_elem? vs id ≡ some v
    → Fits o (at.Reserve (Leaf spot) expected) v → is_none_left o.retired ≡ true → m Free ≡ 0
    → k.slots ≤ finite.len (map_of (updates_of h)) + (k.room + 4) * (k.places - 1)
full_said k m vs h id v o spot expected inv there f none empty =
    let i = (f.point).idle in
    let b = i.bare in
    let full = empty_is_full k m vs h inv id v there
    (record { works = f.owns.works; reserved = b.reserved_is; hand = i.empty; owes = b.paid; moving = b.settled }) empty in
    let no = none_retired v.hands.retired o.retired f.owns.retired_are none in omega arith

-- The number of an update is its place in the history.
is_numbered : (k : Shape) (m : Memory) (vs : List View) (h : List Mark) (id : ℕ) (v : View) (front : ℕ) → HoldsNow k m vs h
    → get_elem? vs id ≡ some v → v.commit ≡ Some (record { found = front; stored = false })
    → (front + 2) / 2 ≡ length (updates_of h) + 1
is_numbered k m vs h id v front inv there made_odd = ⊎_elim
    (λ even. absurd (let none = even.1 id v there in let q : None ≡ Some (record { found = front; stored = false }) = sym none ∙ made_odd in
    cc))
    (λ (made : IsOddHere m vs (length (updates_of h))). elim (only_at vs id v there made.odd) [
      | inl o ↦ let t : Some o.0.commit ≡ Some (record { found = front; stored = false }) = sym o.0.has ∙ made_odd in
          let e : o.0.commit ≡ record { found = front; stored = false } = cc in
          let count : front + 0 ≡ 2 * length (updates_of h) = ap updates_by (sym e) ∙ o.0.updates in omega arith
      | inr none ↦ absurd (let q : None ≡ Some (record { found = front; stored = false }) = sym none ∙ made_odd in cc)
    ])
    inv.front.turned

-- the value that a set loaded under its lock is the key's now
old_is : (k : Shape) (m : Memory) (vs : List View) (h : List Mark) (id : ℕ) (v : View) (o : Own) (s old front : ℕ) → HoldsNow k m vs h
    → get_elem? vs id ≡ some v → Fits o (at.Store (update.Value s old) front) v
    → finite.get (map_of (updates_of h)) (key_now o) ≡ Some old
old_is k m vs h id v o s old front inv there f =
    let g : ℕ = (f.point).0 in
    let p = (f.point).1 in
    let has = p.found in
    let r : Reading = has.reading in
    let kept = in_second (open_reading v.section) v.records r has.kept in
    let known = known_of-one in
    let a = alive k m vs h inv id v there r s g kept has.recorded (known (Life s) (2 * g) (known_here [] (Life s) (2 * g) false)) in
    let reading = inv.readers.readings id v there kept.0 r kept.1 in
    let found = has.found in
    let well = subst (StandsWell r) found.3 reading.well in
    let young = young_locked k m vs h inv id v there (p.quiet).settled s (a.lock, a.locked) a.on in
    let l = a.recorded in
    let key : m (Key s) ≡ r.key = (inv.locks.readings id v there kept.0 r kept.1).keys s l.0 r.key l.1
    (let x = a.life in let e = l.2 in omega arith) well.1 in
    let value : m (Value s) ≡ old = (inv.locks.known id v there s a.lock a.locked).fields r a.generation old (Value s) kept a.recorded
    (inl a.life) (under_own a.lock a.locked) in
    ap (finite.get (map_of (updates_of h))) (sym has.key_is ∙ sym key) ∙ inv.tree.map.sound s a.on (well.0).some_slot young ∙ ap Some value
  where
    is : lock_of v.locks s ≡ Some (record {
      slot = s;
      known = set_known s (f.point).0 old;
      left_emptied = false;
      right_emptied = false;
      marked = false;
    })
    is = ap (λ ls. lock_of ls s) ((f.point).1).locks_are ∙ one_locked s (set_known s (f.point).0 old)

    known_of-one : (field : Field) (x : ℕ) → known_in (set_known s (f.point).0 old) field ≡ Some x
        → known_in (known_of (lock_of v.locks s)) field ≡ Some x
    known_of-one field x e = ap (λ l. known_in (known_of l) field) is ∙ e

    under_own : (lock : HeldLock) → lock_of v.locks s ≡ Some lock → known_in lock.known (Value s) ≡ Some old
    under_own lock e = ap (λ l. known_in (known_of l) (Value s)) (sym e)
        ∙ known_of-one (Value s) old (known_here (read_at (Life s) (2 * (f.point).0) ∷ []) (Value s) old false)

pub answers_are_said : AnswersAreSaid
answers_are_said k m vs h id o v (at.Leave then.Absent) inv there f = absent_said k m vs h id v o inv there f
answers_are_said k m vs h id o v (at.Leave (then.Value value)) inv there f = value_said k m vs h id v o value inv there f
answers_are_said k m vs h id o v (at.Leave then.Old) inv there f = old_said k m vs h id v o inv there f
answers_are_said k m vs h id o v (at.Reserve (Leaf spot) expected) inv there f = full_said k m vs h id v o spot expected inv there f
answers_are_said k m vs h id o v (at.Store (update.Leaf spot) front) inv there f =
    (is_numbered k m vs h id v front inv there (((f.point).bare).turn_is), tt)
answers_are_said k m vs h id o v (at.Store (update.Value s old) front) inv there f =
    (is_numbered k m vs h id v front inv there ((((f.point).1).quiet).turn_is), old_is k m vs h id v o s old front inv there f)
answers_are_said k m vs h id o v (at.Store (update.Bypass d child) front) inv there f =
    (is_numbered k m vs h id v front inv there (((f.point).quiet).turn_is), tt)
answers_are_said k m vs h id o v (at.Store (update.Copy d u next_key copy) front) inv there f =
    (is_numbered k m vs h id v front inv there ((((f.point).copying).quiet).turn_is), tt)
answers_are_said k m vs h id o v _ inv there f = tt

-- Whoever makes the act of its point keeps the invariant, and fits the next point.

pub points_keep : PointsKeep
points_keep k m vs h id o v inv there eer slots places room going f =
    let a : Act = act_at o o.stage in
    let works : Works v = f.owns.works in
    let told : IsTold o v h m = rule_tells k m vs h id o v inv.now there works slots places room in
    let has = acts_are_within k h o v m o.stage (λ is. eer) slots places room told f in
    let needs = needs_are_given k h o v m 0 o.stage (λ is. eer) places room told f in
    let keeps : (p : ℕ) → v.allowance.place ≡ p → Invariant k (stored m (field_of p a) (left v a (m (field_of p a))))
    (set vs id (done v a h (m (field_of p a)))) (h ++ marks v a (m (field_of p a)))
    × KeepsPast m h (stored m (field_of p a) (left v a (m (field_of p a))))
    = λ p same. subst (λ p. Invariant k (stored m (field_of p a) (left v a (m (field_of p a)))) (set vs id (done v a h (m (field_of p a))))
    (h ++ marks v a (m (field_of p a))) × KeepsPast m h (stored m (field_of p a) (left v a (m (field_of p a))))) same
    (acts_keep k m vs h id v a inv there works (subst (λ p. IsWord k (field_of p a)) (sym f.owns.same) has, needs)) in
    let kept = keeps o.place f.owns.same in
    let n : ℕ = m (field_of o.place a) in
    let u : View = noted v a (said v a n) in
    let free = trails_are_free h o v m o.stage (kind_of a) (field_of v.allowance.place a) (said v a n) in
    (kept.0, kept.1, next_fits h o u m o.stage (free.1 told) going (free.0 f))

-- What a view has at each point: its tickets, and what it knows.
use Rattle.std.specs.Prelude.{ℕ, ◌+◌, ◌-◌, if◌then◌else◌, List, Option, Some, None, ◌≡◌, ◌≢◌, ◌*◌, ◌%◌, ◌<◌, ◌≤◌, ◌==◌, Bool, true, false, [], ◌∷◌, length}
use Rattle.prcu_model.specs.declared.operation.Op.{Op}
use Rattle.prcu_model.specs.declared.operation.Op.TheVariants.{Put, Get, Del, Set}
use Rattle.core_points.specs.declared.stage.Aim.{Aim}
use Rattle.core_points.specs.declared.stage.Aim.TheVariants.{Leaf, Spare, Room}
use Rattle.core_points.specs.declared.stage.Then.{Then}
use Rattle.core_points.specs.declared.stage.Last.{Last}
use Rattle.core_points.specs.declared.stage.Update.{Update}
use Rattle.core_points.specs.declared.stage.Waits.{Waits}
use Rattle.core_points.specs.declared.stage.Waits.TheVariants.{Reuse, Move}
use Rattle.core_points.specs.declared.stage.Stage.{Stage}
use Rattle.core_points.specs.Programs.{Own, Needs, view_after, act_at, after, is_none_left, key_now, or_root}
use Rattle.prcu_marks.specs.declared.mark.Mark.{Mark}
use Rattle.prcu_marks.specs.declared.mark.Side.{Side}
use Rattle.core_state.specs.declared.shape.Shape.{Shape}
use Rattle.prcu_marks.specs.declared.mark.Side.TheVariants.{Left, Right}
use Rattle.core_state.specs.declared.words.Field.TheVariants.{Life, Key, Link, Tag}
use Rattle.core_state.specs.declared.view.Clocked.{Clocked}
use Rattle.core_state.specs.declared.view.Retired.{Retired}
use Rattle.core_state.specs.declared.view.SearchState.TheVariants.{At, Unread, Found, Missed}
use Rattle.prcu_marks.specs.declared.commit.Commit.{Commit}
use Rattle.core_state.specs.declared.view.View.{View}
use Rattle.list_laws.specs.Counts.{IsIn, Each}
use Rattle.core_state.specs.Views.{known_in, LoadedGeneration}
use Rattle.core_points.specs.declared.stage.Moving.{Moving}
use Rattle.core_points.specs.Facts.{is_put, is_delete, is_set, read_at, Bare, Inside, Nothing, one_lock, spot_known, AreClear, Owns, Ready, Hand, Calm, Putting, Idle, ForAim, Reserving, Seizing, Aging, Filling, Keeping, HasRaised, FirstAged, GivingBack, Outlasting, Owing, Settled, HasLocks, Unlocking, Setting, set_known}
use Rattle.core_points.specs.DeleteFacts.{ReadsLives, WalksTo, ReadsParent, ReadsChildren, AreApart, OnNode, under, ClearButMark, Bypassing, IsAside, BeforeCopy, CopyFilling, IsFilled, BothMarking, CopyMaking, Shifting, HoldsOld, OutlastingMove, Emptied, Anything, Relinked, TargetLocking, TargetLoading, FewMarking}
use Rattle.core_points.specs.declared.stage.Then.TheVariants as then
use Rattle.core_points.specs.declared.stage.Last.TheVariants as last
use Rattle.core_points.specs.declared.stage.Update.TheVariants as update
use Rattle.core_points.specs.declared.stage.Stage.TheVariants as at

-- The tickets that the rest of a call may use, at each of its points.
-- Source: docs/TREE_CALLS.md, "The calls".

-- The tickets that the rest of a call may use.
abbrev pub owed_op : Op → Option ℕ → List ℕ → ℕ
owed_op (Get key) hand retired = 0
owed_op (Put key value) None retired = if is_none_left retired then 2 else 3
owed_op (Put key value) (Some s) retired = 1
owed_op (Del key) hand retired = 2
owed_op (Set key value) hand retired = 1

abbrev pub owed_reserve : Aim → List ℕ → ℕ
owed_reserve (Leaf spot) retired = if is_none_left retired then 2 else 3
owed_reserve aim retired = 3

abbrev pub owed_taken : Aim → ℕ
owed_taken (Leaf spot) = 1
owed_taken aim = 2

abbrev pub owed_given : Waits → ℕ
owed_given (Reuse (Leaf spot)) = 2
owed_given (Reuse Spare) = 2
owed_given (Reuse Room) = 3
owed_given (Move m) = 0

abbrev pub owed_update : Update → ℕ
owed_update (update.Copy d u next_key copy) = 2
owed_update u = 1

abbrev pub owed_last : Own → Last → ℕ
owed_last o last.Again = owed_op o.op o.hand o.retired
owed_last o l = 0

abbrev pub owed_next : Own → Then → ℕ
owed_next o (then.Link spot) = owed_op o.op o.hand o.retired
owed_next o (then.Replace s generation) = 1
owed_next o (then.Delete t) = 2
owed_next o _ = 0

abbrev pub owed : Own → Stage → ℕ
owed o at.Finished = 0
owed o at.Raise = 0
owed o at.Free = 0
owed o at.Count = 0
owed o (at.Leave next) = owed_next o next
owed o (at.Reserve aim expected) = owed_reserve aim o.retired
owed o (at.Seize aim) = owed_taken aim
owed o (at.Age aim s) = owed_taken aim
owed o (at.Keep s) = 2
owed o (at.Begin waits) = 1 + owed_given waits
owed o (at.LookKey waits clock p) = owed_given waits
owed o (at.LookStamp waits clock p key) = owed_given waits
owed o (at.OldAge aim) = owed_given (Reuse aim)
owed o (at.OldRaise aim life) = owed_given (Reuse aim)
owed o (at.OldFree aim) = owed_given (Reuse aim)
owed o (at.OldCount aim) = owed_given (Reuse aim)
owed o (at.LeafField spot i) = 1
owed o (at.Commit u expected) = owed_update u
owed o (at.Store u front) = owed_update u
owed o (at.Even u front) = owed_update u - 1
owed o (at.Unlock l) = owed_last o l
owed o (at.EmptyTag number s b) = 0
owed o (at.EmptyRaise number s b tag) = 0
owed o (at.OldMark m) = 0
owed o (at.OldRight m) = 0
owed o (at.Unlink m child) = 0
owed o _ = owed_op o.op o.hand o.retired

-- What the view of a caller knows at each point of its program: enough for the step that it makes there.
-- Source: docs/TREE_CALLS.md, "The calls".

abbrev pub PointLeave : Own → View → Then → Type 0
PointLeave o v then.Absent = (is_put o.op ≡ false) × ((s : ℕ) × (b : Side) × Inside v (key_now o) (Missed s b) Nothing)
PointLeave o v (then.Value value) = (o.op ≡ Get (key_now o))
    × ((s p : ℕ) × (b : Side) × Inside v (key_now o) (Found s p b (Some value)) Nothing)
PointLeave o v then.Old = (is_put o.op ≡ true) × ((s p : ℕ) × (b : Side) × Inside v (key_now o) (Found s p b None) Nothing)
PointLeave o v (then.Link spot) = (is_put o.op ≡ true) × Inside v (key_now o) (Missed spot.slot spot.side) (λ section.
    LoadedGeneration section.reading spot.slot spot.generation × (known_in section.reading.loads (Tag spot.slot spot.side) ≡ Some spot.tag))
PointLeave o v (then.Replace s generation) = (is_set o.op ≡ true)
    × ((p : ℕ) × (b : Side) × Inside v (key_now o) (Found s p b None) (λ section. LoadedGeneration section.reading s generation))
PointLeave o v (then.Delete t) = (is_delete o.op ≡ true)
    × Inside v (key_now o) (Found t.node.node t.node.parent t.node.side None)
    (λ section. IsIn section.reading.stood t.node.parent × ReadsChildren section.reading t.node t.successor)

abbrev pub PointUnlock : Own → View → Last → Type 0
PointUnlock o v last.Again = Unlocking o v × Hand o v × Ready o
PointUnlock o v (last.New number) = Unlocking o v × (v.hands.hand ≡ None) × (o.hand ≡ None) × (is_put o.op ≡ true)
PointUnlock o v (last.Gone number) = Unlocking o v × (v.hands.hand ≡ None) × (o.hand ≡ None) × (is_delete o.op ≡ true)
PointUnlock o v (last.Was value number) = Unlocking o v × (v.hands.hand ≡ None) × (o.hand ≡ None) × (is_set o.op ≡ true)

-- an update that is to be made, with the front odd or not yet
abbrev pub Making : Own → Update → View → Option Commit → Type 0
Making o (update.Leaf spot) v commit = Putting o v spot (one_lock spot.slot (spot_known spot)) commit
Making o (update.Value s old) v commit = (generation : ℕ) × Setting o v s generation (one_lock s (set_known s generation old)) commit
Making o (update.Bypass d child) v commit = Bypassing o v d child commit
Making o (update.Copy d u next_key copy) v commit = CopyMaking o v d u next_key copy commit

-- an update that was made, with the front odd still
abbrev pub Made : Own → Update → View → Option Commit → Type 0
Made o (update.Leaf spot) v commit = Settled o v commit × HasLocks o × AreClear v.locks × (is_put o.op ≡ true)
Made o (update.Value s old) v commit = Settled o v commit × HasLocks o × AreClear v.locks × (is_set o.op ≡ true)
Made o (update.Bypass d child) v commit = Settled o v commit × HasLocks o × Relinked (child == 0) v.locks d.parent d.side
    × (is_delete o.op ≡ true)
Made o (update.Copy d u next_key copy) v commit =
    let m : Moving = record { node = d; successor = u; copy = copy; next_key = next_key; number = 0 } in
    Shifting o v m false commit × HoldsOld v.locks m false × AreClear v.locks

-- What is known at each point: of a search, a get and a put; of giving back slots; of taking a spare; of a set; and of a delete.
abbrev pub Point : Own → Stage → View → Type 0
Point o at.Finished v = (v.section ≡ None) × Bare v [] None false × (v.hands.hand ≡ None)
Point o at.EnterClock v = (v.section ≡ None) × Calm o v
Point o (at.EnterKey clock) v = (v.section ≡ None) × Calm o v × ((c : Clocked) × (v.enter.clock ≡ Some c) × (c.number ≡ clock))
Point o (at.EnterStamp clock) v = (v.section ≡ None) × Calm o v × ((c : Clocked) × (v.enter.clock ≡ Some c) × (c.number ≡ clock))
    × (v.enter.announced ≡ Some (key_now o))
Point o (at.AtLink s b) v = Calm o v × Inside v (key_now o) (At s b) (λ section. section.reading.walk ≡ None)
Point o (at.AtKey s p b) v = Calm o v × Inside v (key_now o) (Unread s p b)
    (λ section. IsIn section.reading.stood p × (section.reading.walk ≡ None))
Point o (at.Value s) v = Calm o v × (o.op ≡ Get (key_now o)) × ((p : ℕ) × (b : Side) × Inside v (key_now o) (Found s p b None) Nothing)
Point o (at.Leave next) v = Calm o v × PointLeave o v next
Point o (at.SpotTag s b) v = Calm o v × (is_put o.op ≡ true) × Inside v (key_now o) (Missed s b) Nothing
Point o (at.SpotLife s b tag) v = Calm o v × (is_put o.op ≡ true)
    × Inside v (key_now o) (Missed s b) (λ section. known_in section.reading.loads (Tag s b) ≡ Some tag)
Point o (at.Reserve aim expected) v = Reserving o v aim expected
Point o (at.Seize aim) v = Seizing o v aim
Point o (at.Age aim s) v = Aging o v aim s
Point o (at.LeafField spot i) v = Filling o v spot i
Point o (at.LeafLock spot) v = Putting o v spot [] None
Point o (at.LeafLife spot) v = Putting o v spot (one_lock spot.slot []) None
Point o (at.LeafSide spot life) v = Putting o v spot (one_lock spot.slot (read_at (Life spot.slot) life ∷ [])) None
Point o (at.LeafTag spot life link) v = Putting o v spot
    (one_lock spot.slot (read_at (Link spot.slot spot.side) link ∷ (read_at (Life spot.slot) life ∷ []))) None
Point o (at.Commit u expected) v = Making o u v None × (expected % 2 ≡ 0)
Point o (at.Store u front) v = Making o u v (Some (record { found = front; stored = false }))
Point o (at.Even u front) v = Made o u v (Some (record { found = front; stored = true }))
Point o (at.Unlock last) v = PointUnlock o v last
Point o at.Raise v = (v.section ≡ None) × ((s : ℕ) × (o.hand ≡ Some s)) × Calm o v × (is_put o.op ≡ true)
Point o at.Free v = (v.section ≡ None) × Bare v [] None false × HasRaised o.hand v.hands.hand × (is_put o.op ≡ true)
Point o at.Count v = Owing o v × (is_put o.op ≡ true)
Point o (at.Begin (Reuse aim)) v = Idle o v × ForAim o v aim
Point o (at.LookKey (Reuse aim) clock p) v = Idle o v × ForAim o v aim × (p < o.places) × Outlasting o v clock p
Point o (at.LookStamp (Reuse aim) clock p key) v = Idle o v × ForAim o v aim × (p < o.places) × Outlasting o v clock p
Point o (at.OldAge aim) v = Idle o v × ForAim o v aim × (is_none_left o.retired ≡ false)
    × Each v.hands.retired (λ (r : Retired). r.waited ≡ true)
Point o (at.OldRaise aim life) v = Idle o v × ForAim o v aim × Each v.hands.retired (λ (r : Retired). r.waited ≡ true)
    × FirstAged v.hands.retired life
Point o (at.OldFree aim) v = GivingBack o v aim
Point o (at.OldCount aim) v = Owing o v × ForAim o v aim × Each v.hands.retired (λ (r : Retired). r.waited ≡ true)
-- a spare is taken
Point o (at.Keep s) v = Keeping o v s
-- a set
Point o (at.SetLife s) v = Calm o v × (is_set o.op ≡ true) × ((p : ℕ) × (b : Side) × Inside v (key_now o) (Found s p b None) Nothing)
Point o (at.SetLock s generation) v = Setting o v s generation [] None
Point o (at.SetCheck s generation) v = Setting o v s generation (one_lock s []) None
Point o (at.SetValue s) v = (generation : ℕ) × Setting o v s generation (one_lock s (read_at (Life s) (2 * generation) ∷ [])) None
-- a delete, in its section
Point o (at.ParentLife p b d) v = OnNode o v d p b (λ r. r.walk ≡ None)
Point o (at.NodeLife d) v = OnNode o v d.node d.parent d.side
    (λ r. LoadedGeneration r d.parent d.parent_generation × (r.walk ≡ None))
Point o (at.NodeLeft d) v = OnNode o v d.node d.parent d.side (λ r. ReadsLives r d × (r.walk ≡ None))
Point o (at.NodeRight d) v = OnNode o v d.node d.parent d.side
    (λ r. ReadsLives r d × (known_in r.loads (Link d.node Left) ≡ Some d.left) × IsIn r.loads (read_at (Link d.node Left) d.left)
    × (r.walk ≡ None))
Point o (at.SuccessorLeft d u) v = OnNode o v d.node d.parent d.side (λ r. ReadsLives r d × WalksTo r d u)
Point o (at.SuccessorParentLife d u) v = OnNode o v d.node d.parent d.side (λ r. ReadsLives r d × WalksTo r d u × (u.parent ≢ d.node))
Point o (at.SuccessorLife d u) v = OnNode o v d.node d.parent d.side
    (λ r. WalksTo r d u × (AreApart d u → ReadsLives r d × ReadsParent r d u))
-- its locks, and the loads under them
Point o (at.TargetLock t i) v = TargetLocking o v t i
Point o (at.TargetLoad t i found) v = TargetLoading o v t i found
-- few children
Point o (at.Mark d child) v = FewMarking o v d child
Point o (at.EmptyTag number s b) v = Settled o v None × HasLocks o × Emptied v.locks s b Anything × (is_delete o.op ≡ true)
Point o (at.EmptyRaise number s b tag) v = Settled o v None × HasLocks o
    × Emptied v.locks s b (λ lock. known_in lock.known (Tag s b) ≡ Some tag) × (is_delete o.op ≡ true)
-- two children
Point o (at.SuccessorKey d u) v = BeforeCopy o v d u
Point o (at.SuccessorValue d u next_key) v = BeforeCopy o v d u × IsAside (or_root o.spare) d u
    × (known_in (under v.locks u.slot) (Key u.slot) ≡ Some next_key)
Point o (at.CopyField d u next_key value i) v = CopyFilling o v d u next_key value i
Point o (at.CopyAge d u next_key) v = BeforeCopy o v d u × IsFilled v d u next_key (or_root o.spare)
Point o (at.CopyLock d u next_key) v = BeforeCopy o v d u × IsFilled v d u next_key (or_root o.spare)
Point o (at.CopyMark d u next_key) v = BothMarking o v d u next_key (or_root o.spare)
-- the move
Point o (at.Begin (Move m)) v = Shifting o v m false None × HoldsOld v.locks m false × AreClear v.locks
Point o (at.LookKey (Move m) clock p) v = Shifting o v m false None × HoldsOld v.locks m false × AreClear v.locks
    × OutlastingMove o v m clock p
Point o (at.LookStamp (Move m) clock p key) v =
    Shifting o v m false None × HoldsOld v.locks m false × AreClear v.locks × OutlastingMove o v m clock p
Point o (at.OldMark m) v = Shifting o v m true None × HoldsOld v.locks m false × AreClear v.locks
Point o (at.OldRight m) v = Shifting o v m true None × HoldsOld v.locks m true × ClearButMark v.locks m.successor.slot
Point o (at.Unlink m child) v = Shifting o v m true None × HoldsOld v.locks m true × ClearButMark v.locks m.successor.slot
    × (known_in (under v.locks m.successor.slot) (Link m.successor.slot Right) ≡ Some child)

abbrev pub is_raising : Stage → Bool
is_raising (at.OldFree aim) = true
is_raising _ = false

-- the view without its trail, of which no point speaks
abbrev pub plain : View → View
plain v = record v { trail = record { steps = []; joined = [] } }

pub record Fits (o : Own) (stage : Stage) (v : View) : Type 0 where
  pub owns : Owns o v
  pub tickets : owed o stage + 4 * length o.rest + o.kept ≤ v.allowance.tickets
  pub unraised : is_raising stage ≡ false → Each v.hands.retired (λ (r : Retired). r.raised ≡ false)
  pub point : Point o stage (plain v)

-- What is shown of each point: its step has what it needs, and after it the next point's facts hold.

abbrev pub IsGiven : Shape → Own → View → ℕ → Stage → Type 0
IsGiven k o v n stage = Fits o stage v → Needs k v n (act_at o stage)

abbrev pub GoesOn : List Mark → Own → View → ℕ → Stage → Type 0
GoesOn h o v n stage = Fits o stage v → Fits (after o n stage) (after o n stage).stage (view_after v h n (act_at o stage))

-- The steps as values: the word of each, what it does to the number there, what it needs, the view after it, and its marks.
-- Source: docs/TREE_INVARIANT.md, "The steps of the tree".
use Rattle.std.specs.Prelude.{◌≡◌, ◌≢◌, ℕ, ◌+◌, ◌-◌, ◌<◌, ◌==◌, if◌then◌else◌, Bool, true, false, List, [], ◌∷◌, Some, None, unwrap_or, ◌^◌, ◌≤◌, ◌⊎◌}
use Rattle.prcu_marks.specs.declared.mark.Mark.{Mark}
use Rattle.prcu_marks.specs.declared.mark.Mark.TheVariants.{Entered, Left as LeftMark, Began, Given, Unlinked, Freed, Moved as MovedMark}
use Rattle.prcu_marks.specs.declared.mark.Side.TheVariants.{Left, Right}
use Rattle.prcu_marks.specs.declared.commit.Commit.{Commit}
use Rattle.prcu_model.specs.declared.operation.Op.TheVariants.{Put, Del, Set}
use Rattle.key_interval.specs.Keys.{class_of}
use Rattle.list_laws.specs.Counts.{IsIn}
use Rattle.core_state.specs.declared.shape.Shape.{Shape}
use Rattle.core_state.specs.declared.shape.Waiter.TheVariants.{Eer, Domain, Deer}
use Rattle.core_state.specs.declared.words.Field.{Field}
use Rattle.core_state.specs.declared.words.Kind.{Kind}
use Rattle.core_state.specs.declared.words.Kind.TheVariants.{K3, K4, K5, K6, K7, K8, K9, K10, K11, K12, K13, K14, K15, K16, K17, K18, K19, K20, K21, K22, K23, K24, K25, K26, K27, K28, K29, K30, K31, K32, K33, K34, K35, K36, K37, K38, K39, K41, K42}
use Rattle.core_state.specs.declared.view.Clocked.{Clocked}
use Rattle.core_state.specs.declared.view.Held.{Held}
use Rattle.core_state.specs.declared.view.Listing.{Listing}
use Rattle.core_state.specs.declared.view.Retired.{Retired}
use Rattle.core_state.specs.declared.view.Section.{Section}
use Rattle.core_state.specs.declared.view.View.{View}
use Rattle.core_state.specs.declared.view.Waiting.{Waiting}
use Rattle.core_state.specs.Memory.{slot_count, idle, apart, is_field, lock_base, state_base, waiter_base, word_of, word_count}
use Rattle.core_state.specs.Steps.{stepped, unknown_slot, after_clock_load, NeedsAnnounce, after_announce, fresh_reading, entering, NeedsEnterByStamp, NeedsLeaveByStamp, NeedsGateLoad, after_gate_load, NeedsEnterByCount, after_enter_by_count, NeedsLeaveByCount, NeedsEnterByRow, NeedsLeaveByRow, leaving, NeedsBegin, after_begin, NeedsGateTurn, after_gate_turn, IsSpot, spot_seen, after_look, look_marks, NeedsLock, after_lock, NeedsUnlock, after_unlock, NeedsLockedLoad, after_locked_load, NeedsOpenCommit, after_open_commit, NeedsRaiseTag, after_raise_tag, NeedsCloseCommit, after_close_commit, NeedsGiveFrontBack, NeedsStoreMoved, after_store_moved, after_load_moved, new_listing, NeedsSearchLoad, after_search_load, NeedsFrontLook, after_front_look, NeedsListLoad, after_list_load, done_by}
use Rattle.core_state.specs.Links.{IsRetiredAt, after_retired_life, NeedsRaiseRetired, after_raise_to_spare, NeedsRaiseToHand, after_raise_to_hand, after_raise_retired, NeedsFreeRetired, after_free_retired, NeedsOwnLife, after_own_life, NeedsKeptAsSpare, after_kept_as_spare, NeedsReserve, after_reserve, NeedsSeize, after_seize, NeedsFill, after_fill, NeedsRaiseInHand, after_raise_in_hand, NeedsFreeInHand, after_free_in_hand, NeedsCountFree, after_count_free, NeedsLeafLink, after_leaf_link, NeedsBypass, after_bypass, NeedsMark, after_mark, NeedsReplace, after_replace, NeedsCopyLink, after_copy_link, NeedsUnlinkOld, after_unlink_old, NeedsRotate, after_rotate, rotate_marks}
use Rattle.prcu_marks.specs.declared.access.Access.{Access}
use Rattle.prcu_marks.specs.Marks.{left_by, said_by}
use Rattle.prcu_marks.specs.declared.access.Access.TheVariants.{Load, Store, Exchange, Add, Subtract, Flip}
use Rattle.core_state.specs.declared.act.Part.{Part}
use Rattle.core_state.specs.declared.act.Act.{Act}
use Rattle.core_state.specs.declared.act.Act.TheVariants.{LoadClock, AnnounceKey, EnterByStamp, LeaveByStamp, BeginWait, LookKey, LookStamp, LoadOwnLife, KeepAsSpare, LoadRetiredLife, Reserve, Seize, Fill, RaiseInHand, RaiseToSpare, RaiseToHand, RaiseRetired, Lock, Unlock, FreeInHand, FreeRetired, CountFree, SearchLoad, ListLoad, LockedLoad, OpenCommit, LinkLeaf, Bypass, Mark as MarkNode, RaiseTag, CloseCommit, LinkCopy, UnlinkLeft, UnlinkRight, LoadGate, EnterByCount, LeaveByCount, LookCount, TurnGate, EnterByRow, LeaveByRow, LookRow, ReplaceValue, LookAtFront, Rotate, GiveFrontBack, StoreMoved, LoadMoved}
use Rattle.core_state.specs.declared.words.Field.TheVariants.{Clock, Front, Free, Moved, Announced, Stamp, Gate, Count, Row}
use Rattle.core_state.specs.declared.layout.Rows.{Rows}
use Rattle.core_state.specs.declared.words.Field.TheVariants as word
use Rattle.core_state.specs.declared.act.Part.TheVariants as part

-- the word of a slot's part
abbrev pub in_slot : ℕ → Part → Field
in_slot s part.Life = word.Life s
in_slot s part.Key = word.Key s
in_slot s part.Value = word.Value s
in_slot s (part.Link b) = word.Link s b
in_slot s (part.Tag b) = word.Tag s b

-- the kind of step as which it is noted in a trail
abbrev pub kind_of : Act → Kind
kind_of LoadClock = K3
kind_of (AnnounceKey key) = K4
kind_of (EnterByStamp key stamp) = K5
kind_of LeaveByStamp = K6
kind_of (BeginWait low high) = K7
kind_of (LookKey p last) = K8
kind_of (LookStamp p last) = K8
kind_of (LoadOwnLife slot) = K9
kind_of (KeepAsSpare slot) = K9
kind_of (LoadRetiredLife slot) = K9
kind_of (Reserve expected) = K10
kind_of (Seize slot) = K11
kind_of (Fill slot p number) = K12
kind_of (RaiseInHand slot number) = K12
kind_of (RaiseToSpare slot number) = K12
kind_of (RaiseToHand slot number) = K12
kind_of (RaiseRetired slot number) = K12
kind_of (Lock slot) = K13
kind_of (Unlock slot) = K14
kind_of (FreeInHand slot) = K15
kind_of (FreeRetired slot) = K15
kind_of CountFree = K16
kind_of (SearchLoad slot p) = K17
kind_of (ListLoad slot p) = K17
kind_of (LockedLoad slot p) = K18
kind_of (OpenCommit expected) = K19
kind_of (LinkLeaf slot b leaf key value) = K20
kind_of (Bypass parent b node child key) = K21
kind_of (MarkNode slot life) = K22
kind_of (RaiseTag slot b tag) = K23
kind_of (CloseCommit front) = K24
kind_of (LinkCopy parent b node copy old old_parent key next_key) = K25
kind_of (UnlinkLeft parent old child) = K26
kind_of (UnlinkRight copy old child) = K27
kind_of (LoadGate class) = K28
kind_of (EnterByCount key side) = K29
kind_of (LeaveByCount class side) = K30
kind_of (LookCount class side last) = K31
kind_of (TurnGate class) = K32
kind_of (EnterByRow key stamp) = K33
kind_of (LeaveByRow class) = K34
kind_of (LookRow p class last) = K35
kind_of (ReplaceValue slot key value) = K36
kind_of LookAtFront = K37
kind_of (Rotate parent b node child top) = K38
kind_of (GiveFrontBack front) = K39
kind_of StoreMoved = K41
kind_of LoadMoved = K42

-- the word that it is on, for the place of who makes it
abbrev pub field_of : ℕ → Act → Field
field_of place LoadClock = word.Clock
field_of place (AnnounceKey key) = word.Announced place
field_of place (EnterByStamp key stamp) = word.Stamp place
field_of place LeaveByStamp = word.Stamp place
field_of place (BeginWait low high) = word.Clock
field_of place (LookKey p last) = word.Announced p
field_of place (LookStamp p last) = word.Stamp p
field_of place (LoadOwnLife slot) = word.Life slot
field_of place (KeepAsSpare slot) = word.Life slot
field_of place (LoadRetiredLife slot) = word.Life slot
field_of place (Reserve expected) = word.Free
field_of place (Seize slot) = word.State slot
field_of place (Fill slot p number) = in_slot slot p
field_of place (RaiseInHand slot number) = word.Life slot
field_of place (RaiseToSpare slot number) = word.Life slot
field_of place (RaiseToHand slot number) = word.Life slot
field_of place (RaiseRetired slot number) = word.Life slot
field_of place (Lock slot) = word.Lock slot
field_of place (Unlock slot) = word.Lock slot
field_of place (FreeInHand slot) = word.State slot
field_of place (FreeRetired slot) = word.State slot
field_of place CountFree = word.Free
field_of place (SearchLoad slot p) = in_slot slot p
field_of place (ListLoad slot p) = in_slot slot p
field_of place (LockedLoad slot p) = in_slot slot p
field_of place (OpenCommit expected) = word.Front
field_of place (LinkLeaf slot b leaf key value) = word.Link slot b
field_of place (Bypass parent b node child key) = word.Link parent b
field_of place (MarkNode slot life) = word.Life slot
field_of place (RaiseTag slot b tag) = word.Tag slot b
field_of place (CloseCommit front) = word.Front
field_of place (LinkCopy parent b node copy old old_parent key next_key) = word.Link parent b
field_of place (UnlinkLeft parent old child) = word.Link parent Left
field_of place (UnlinkRight copy old child) = word.Link copy Right
field_of place (LoadGate class) = word.Gate class
field_of place (EnterByCount key side) = word.Count (class_of key) side
field_of place (LeaveByCount class side) = word.Count class side
field_of place (LookCount class side last) = word.Count class side
field_of place (TurnGate class) = word.Gate class
field_of place (EnterByRow key stamp) = word.Row place (class_of key)
field_of place (LeaveByRow class) = word.Row place class
field_of place (LookRow p class last) = word.Row p class
field_of place (ReplaceValue slot key value) = word.Value slot
field_of place LookAtFront = word.Front
field_of place (Rotate parent b node child top) = word.Link parent b
field_of place (GiveFrontBack front) = word.Front
field_of place StoreMoved = word.Moved
field_of place LoadMoved = word.Moved

-- what it does to that word
abbrev pub access_of : ℕ → Act → Access
access_of place (AnnounceKey key) = Store key
access_of place (EnterByStamp key stamp) = Store stamp
access_of place LeaveByStamp = Store idle
access_of place (BeginWait low high) = Add 1
access_of place (Reserve expected) = Exchange expected (expected - 1)
access_of place (Seize slot) = Exchange 0 1
access_of place (Fill slot p number) = Store number
access_of place (RaiseInHand slot number) = Store number
access_of place (RaiseToSpare slot number) = Store number
access_of place (RaiseToHand slot number) = Store number
access_of place (RaiseRetired slot number) = Store number
access_of place (Lock slot) = Exchange 0 (place + 1)
access_of place (Unlock slot) = Store 0
access_of place (FreeInHand slot) = Store 0
access_of place (FreeRetired slot) = Store 0
access_of place CountFree = Add 1
access_of place (OpenCommit expected) = Exchange expected (expected + 1)
access_of place (LinkLeaf slot b leaf key value) = Store leaf
access_of place (Bypass parent b node child key) = Store child
access_of place (MarkNode slot life) = Store (life + 1)
access_of place (RaiseTag slot b tag) = Store (tag + 1)
access_of place (CloseCommit front) = Store front
access_of place (LinkCopy parent b node copy old old_parent key next_key) = Store copy
access_of place (UnlinkLeft parent old child) = Store child
access_of place (UnlinkRight copy old child) = Store child
access_of place (EnterByCount key side) = Add 1
access_of place (LeaveByCount class side) = Subtract 1
access_of place (TurnGate class) = Flip
access_of place (EnterByRow key stamp) = Store stamp
access_of place (LeaveByRow class) = Store idle
access_of place (ReplaceValue slot key value) = Store value
access_of place (Rotate parent b node child top) = Store top
access_of place (GiveFrontBack front) = Store front
access_of place StoreMoved = Store 1
access_of place _ = Load

-- the view with the step in its trail
abbrev pub noted : View → Act → ℕ → View
noted v a number = stepped v (kind_of a) (field_of v.allowance.place a) number

-- The table has the word: its place, class, side or slot is one of the table's, and the waiter is the one whose word it is.
abbrev pub IsWord : Shape → Field → Type 0
IsWord k word.Clock = Unit {0}
IsWord k word.Front = Unit {0}
IsWord k word.Free = Unit {0}
IsWord k word.Moved = Unit {0}
IsWord k (word.Announced p) = (k.waiter ≡ Eer) × (p < k.places)
IsWord k (word.Stamp p) = (k.waiter ≡ Eer) × (p < k.places)
IsWord k (word.Gate c) = (k.waiter ≡ Domain) × (c < 64)
IsWord k (word.Count c side) = (k.waiter ≡ Domain) × (c < 64) × (side < 2)
IsWord k (word.Row p c) = (k.waiter ≡ Deer) × (p < k.places) × (c < 64)
IsWord k (word.State s) = s < slot_count k
IsWord k (word.Lock s) = s < slot_count k
IsWord k (word.Life s) = s < slot_count k
IsWord k (word.Key s) = s < slot_count k
IsWord k (word.Value s) = s < slot_count k
IsWord k (word.Link s b) = s < slot_count k
IsWord k (word.Tag s b) = s < slot_count k

-- What a view has open, or anything where it has nothing open: an act that needs it says that it is there.
abbrev pub clocked_of : View → Clocked
clocked_of v = unwrap_or v.enter.clock (record { number = 0; at = 0 })

abbrev pub clocked_at : View → ℕ
clocked_at v = (clocked_of v).at

abbrev pub some_section : Section
some_section = record { key = 0; count = 0; entered = 0; from = 0; stamp = 0; clocked = 0; reading = fresh_reading 0; listing = None }

abbrev pub section_of : View → Section
section_of v = unwrap_or v.section some_section

abbrev pub listing_of : Section → Listing
listing_of section = unwrap_or section.listing (new_listing 0)

abbrev pub some_wait : Waiting
some_wait = record { count = 0; low = 0; high = 0; clock = 0; began = 0; excused = []; turned = []; ended = false }

abbrev pub wait_of : View → Waiting
wait_of v = unwrap_or v.wait some_wait

abbrev pub commit_of : View → Commit
commit_of v = unwrap_or v.commit (record { found = 0; stored = false })

abbrev pub spare_of : View → Held
spare_of v = unwrap_or v.hands.spare (unknown_slot 0)

-- K8, K31 and K35: a waiter loads a word. The last look comes after all other spots were excused by loads of this wait: where it excuses
-- too, the wait ends.
pub record MayLook (k : Shape) (v : View) (wait : Waiting) (field : Field) (last : Bool) : Type 0 where
  pub wait_is : v.wait ≡ Some wait
  pub going : wait.ended ≡ false
  pub rest : last ≡ true → (other : Field) → IsSpot k wait other → IsIn (spot_seen field ∷ wait.excused) other

-- what it needs of the view
abbrev pub Needs : Shape → View → Act → Type 0
Needs k v LoadClock = Unit {0}
Needs k v (AnnounceKey key) = NeedsAnnounce v
Needs k v (EnterByStamp key stamp) = NeedsEnterByStamp v key stamp (clocked_of v)
Needs k v LeaveByStamp = NeedsLeaveByStamp v (section_of v)
Needs k v (BeginWait low high) = NeedsBegin v low high
Needs k v (LookKey p last) = MayLook k v (wait_of v) (word.Announced p) last
Needs k v (LookStamp p last) = MayLook k v (wait_of v) (word.Stamp p) last
Needs k v (LoadOwnLife slot) = NeedsOwnLife v slot
Needs k v (KeepAsSpare slot) = (held : Held) × NeedsKeptAsSpare v held slot
Needs k v (LoadRetiredLife slot) = (i : ℕ) × (r : Retired) × IsRetiredAt v i r slot
Needs k v (Reserve expected) = NeedsReserve v expected
Needs k v (Seize slot) = NeedsSeize v slot
Needs k v (Fill slot p number) = (held : Held) × NeedsFill v held slot (in_slot slot p)
Needs k v (RaiseInHand slot number) = (held : Held) × NeedsRaiseInHand v held slot number
Needs k v (RaiseToSpare slot number) = (i : ℕ) × (r : Retired) × NeedsRaiseRetired v i r slot number × (v.hands.spare ≡ None)
Needs k v (RaiseToHand slot number) = (i : ℕ) × (r : Retired) × NeedsRaiseToHand v i r slot number
Needs k v (RaiseRetired slot number) = (i : ℕ) × (r : Retired) × NeedsRaiseRetired v i r slot number × (v.hands.spare ≢ None)
Needs k v (Lock slot) = NeedsLock v
Needs k v (Unlock slot) = NeedsUnlock v slot
Needs k v (FreeInHand slot) = (held : Held) × NeedsFreeInHand v held slot
Needs k v (FreeRetired slot) = (i : ℕ) × (r : Retired) × NeedsFreeRetired v i r slot
Needs k v CountFree = NeedsCountFree v
Needs k v (SearchLoad slot p) = NeedsSearchLoad v (section_of v) slot (in_slot slot p)
Needs k v (ListLoad slot p) = NeedsListLoad v (section_of v) (listing_of (section_of v)) slot (in_slot slot p)
Needs k v (LockedLoad slot p) = NeedsLockedLoad v slot (in_slot slot p)
Needs k v (OpenCommit expected) = NeedsOpenCommit v expected
Needs k v (LinkLeaf slot b leaf key value) = NeedsLeafLink v (commit_of v) slot b leaf key value
Needs k v (Bypass parent b node child key) = NeedsBypass k.room v (commit_of v) parent b node child key
Needs k v (MarkNode slot life) = NeedsMark v slot life
Needs k v (RaiseTag slot b tag) = NeedsRaiseTag v slot b tag
Needs k v (CloseCommit front) = NeedsCloseCommit v front
Needs k v (LinkCopy parent b node copy old old_parent key next_key) =
    NeedsCopyLink k.room v (commit_of v) (spare_of v) parent b node copy old old_parent key next_key
Needs k v (UnlinkLeft parent old child) = NeedsUnlinkOld v parent Left old child
Needs k v (UnlinkRight copy old child) = NeedsUnlinkOld v copy Right old child
Needs k v (LoadGate class) = NeedsGateLoad v
Needs k v (EnterByCount key side) = NeedsEnterByCount v key side
Needs k v (LeaveByCount class side) = NeedsLeaveByCount v (section_of v) class side
Needs k v (LookCount class side last) = MayLook k v (wait_of v) (word.Count class side) last
Needs k v (TurnGate class) = NeedsGateTurn v (wait_of v) class
Needs k v (EnterByRow key stamp) = NeedsEnterByRow v key stamp (clocked_of v)
Needs k v (LeaveByRow class) = NeedsLeaveByRow v (section_of v) class
Needs k v (LookRow p class last) = MayLook k v (wait_of v) (word.Row p class) last
Needs k v (ReplaceValue slot key value) = NeedsReplace v (commit_of v) slot key
Needs k v LookAtFront = NeedsFrontLook v (section_of v)
Needs k v (Rotate parent b node child top) = NeedsRotate k.room v (spare_of v) parent b node child top
Needs k v (GiveFrontBack front) = NeedsGiveFrontBack v front
Needs k v StoreMoved = NeedsStoreMoved v
Needs k v LoadMoved = Unit {0}

-- What the act asks of the table and of the view.
abbrev pub Asks : Shape → View → Act → Type 0
Asks k v a = IsWord k (field_of v.allowance.place a) × Needs k v a

-- The view after it, by all marks before it and the number that it tells; v is the view before, with the step in its trail.
abbrev pub after : View → Act → List Mark → ℕ → View
after v LoadClock h n = after_clock_load v n h
after v (AnnounceKey key) h n = after_announce v key
after v (EnterByStamp key stamp) h n = entering v key stamp (clocked_at v) h
after v LeaveByStamp h n = leaving v (section_of v) h
after v (BeginWait low high) h n = after_begin v low high n h
after v (LookKey p last) h n = after_look v (wait_of v) (word.Announced p) last n h
after v (LookStamp p last) h n = after_look v (wait_of v) (word.Stamp p) last n h
after v (LoadOwnLife slot) h n = after_own_life v slot n
after v (KeepAsSpare slot) h n = after_kept_as_spare v slot n
after v (LoadRetiredLife slot) h n = after_retired_life v slot n
after v (Reserve expected) h n = after_reserve v expected n h
after v (Seize slot) h n = after_seize v slot n h
after v (Fill slot p number) h n = after_fill v slot (in_slot slot p) number
after v (RaiseInHand slot number) h n = after_raise_in_hand v slot number
after v (RaiseToSpare slot number) h n = after_raise_to_spare v slot number h
after v (RaiseToHand slot number) h n = after_raise_to_hand v slot number h
after v (RaiseRetired slot number) h n = after_raise_retired v slot
after v (Lock slot) h n = after_lock v slot n
after v (Unlock slot) h n = after_unlock v slot
after v (FreeInHand slot) h n = after_free_in_hand v slot h
after v (FreeRetired slot) h n = after_free_retired v slot h
after v CountFree h n = after_count_free v n
after v (SearchLoad slot p) h n = after_search_load v (section_of v) (in_slot slot p) n
after v (ListLoad slot p) h n = after_list_load v (section_of v) (listing_of (section_of v)) slot (in_slot slot p) n
after v (LockedLoad slot p) h n = after_locked_load v slot (in_slot slot p) n
after v (OpenCommit expected) h n = after_open_commit v expected n
after v (LinkLeaf slot b leaf key value) h n = after_leaf_link v (commit_of v) slot b leaf key value h
after v (Bypass parent b node child key) h n = after_bypass v (commit_of v) parent b node child key h
after v (MarkNode slot life) h n = after_mark v slot life
after v (RaiseTag slot b tag) h n = after_raise_tag v slot b tag
after v (CloseCommit front) h n = after_close_commit v front
after v (LinkCopy parent b node copy old old_parent key next_key) h n =
    after_copy_link v (commit_of v) (spare_of v) parent b node old old_parent key next_key h
after v (UnlinkLeft parent old child) h n = after_unlink_old v parent Left old child h
after v (UnlinkRight copy old child) h n = after_unlink_old v copy Right old child h
after v (LoadGate class) h n = after_gate_load v class n
after v (EnterByCount key side) h n = after_enter_by_count v key side h
after v (LeaveByCount class side) h n = leaving v (section_of v) h
after v (LookCount class side last) h n = after_look v (wait_of v) (word.Count class side) last n h
after v (TurnGate class) h n = after_gate_turn v (wait_of v) class
after v (EnterByRow key stamp) h n = entering v key stamp (clocked_at v) h
after v (LeaveByRow class) h n = leaving v (section_of v) h
after v (LookRow p class last) h n = after_look v (wait_of v) (word.Row p class) last n h
after v (ReplaceValue slot key value) h n = after_replace v (commit_of v) slot key value h
after v LookAtFront h n = after_front_look v (section_of v) n h
after v (Rotate parent b node child top) h n = after_rotate v parent b node child top h
after v (GiveFrontBack front) h n = after_close_commit v front
after v StoreMoved h n = after_store_moved v h
after v LoadMoved h n = after_load_moved v n h

-- the marks that it leaves
abbrev pub marks_of : View → Act → ℕ → List Mark
marks_of v (EnterByStamp key stamp) n = Entered v.allowance.place v.counts.sections key ∷ []
marks_of v LeaveByStamp n = LeftMark v.allowance.place (section_of v).count ∷ []
marks_of v (BeginWait low high) n = Began v.allowance.place v.counts.waits low high ∷ []
marks_of v (LookKey p last) n = look_marks v (wait_of v) (word.Announced p) last n
marks_of v (LookStamp p last) n = look_marks v (wait_of v) (word.Stamp p) last n
marks_of v (Seize slot) n = if n == 0 then Given slot ∷ [] else []
marks_of v (RaiseToSpare slot number) n = Given slot ∷ []
marks_of v (RaiseToHand slot number) n = Given slot ∷ []
marks_of v (FreeInHand slot) n = Freed slot ∷ []
marks_of v (FreeRetired slot) n = Freed slot ∷ []
marks_of v (LinkLeaf slot b leaf key value) n = done_by v (Put key value) ∷ []
marks_of v (Bypass parent b node child key) n = done_by v (Del key) ∷ Unlinked node ∷ []
marks_of v (LinkCopy parent b node copy old old_parent key next_key) n = done_by v (Del key) ∷ Unlinked node ∷ []
marks_of v (UnlinkLeft parent old child) n = Unlinked old ∷ []
marks_of v (UnlinkRight copy old child) n = Unlinked old ∷ []
marks_of v (EnterByCount key side) n = Entered v.allowance.place v.counts.sections key ∷ []
marks_of v (LeaveByCount class side) n = LeftMark v.allowance.place (section_of v).count ∷ []
marks_of v (LookCount class side last) n = look_marks v (wait_of v) (word.Count class side) last n
marks_of v (EnterByRow key stamp) n = Entered v.allowance.place v.counts.sections key ∷ []
marks_of v (LeaveByRow class) n = LeftMark v.allowance.place (section_of v).count ∷ []
marks_of v (LookRow p class last) n = look_marks v (wait_of v) (word.Row p class) last n
marks_of v (ReplaceValue slot key value) n = done_by v (Set key value) ∷ []
marks_of v (Rotate parent b node child top) n = rotate_marks node child
marks_of v StoreMoved n = MovedMark ∷ []
marks_of v _ n = []

-- the number that it tells, and leaves, where it finds one
abbrev pub said : View → Act → ℕ → ℕ
said v a n = said_by (access_of v.allowance.place a) n

abbrev pub left : View → Act → ℕ → ℕ
left v a n = left_by (access_of v.allowance.place a) n

-- the view after it, as a seat makes it, noted in its trail; and its marks
abbrev pub done : View → Act → List Mark → ℕ → View
done v a h n = after (noted v a (said v a n)) a h (said v a n)

abbrev pub marks : View → Act → ℕ → List Mark
marks v a n = marks_of (noted v a (said v a n)) a (said v a n)

-- How words stand beside each other in the table's row, and who writes which.
-- Source: docs/TREE_INVARIANT.md, "The words of the tree's table".

-- The slots are as many as in such a table, and its rows begin where they do there.
pub record AreRows (k : Shape) (rows : Rows) : Type 0 where
  pub count : rows.count ≡ slot_count k
  pub locks : rows.locks ≡ lock_base k
  pub states : rows.states ≡ state_base k
  pub waiter : rows.waiter ≡ waiter_base k

-- The waiter's words begin before it in the largest row, with 2^32 slots and places: no index of a word is too large for a number of 64 bits.
abbrev pub most_words : ℕ
most_words = 2 ^ 40

-- No two fields stand at one place of the row.
abbrev pub NoPlaceIsShared : Type 0
NoPlaceIsShared = (k : Shape) (f g : Field) → is_field k f ≡ true → is_field k g ≡ true → word_of k f ≡ word_of k g → f ≡ g

-- Each field stands within the row.
abbrev pub FieldsAreWithin : Type 0
FieldsAreWithin = (k : Shape) (f : Field) → is_field k f ≡ true → word_of k f < word_count k

-- The words that stand apart from others: the clock, the front, the free count, the word of a move, a place's words of the first or third
-- waiter, a class's of the second, and the words of all slots.
pub data Group : Type 0 where
  clock_word : Group
  front_word : Group
  free_word : Group
  moved_word : Group
  place_words : ℕ → Group
  class_words : ℕ → Group
  slot_words : Group

abbrev pub group_of : Field → Group
group_of Clock = clock_word
group_of Front = front_word
group_of Free = free_word
group_of Moved = moved_word
group_of (Announced p) = place_words p
group_of (Stamp p) = place_words p
group_of (Gate c) = class_words c
group_of (Count c side) = class_words c
group_of (Row p c) = place_words p
group_of _ = slot_words

-- Words of two groups stand sixteen words apart at least. So wherever the row begins, no line and no pair of lines has both.
abbrev pub GroupsAreApart : Type 0
GroupsAreApart = (k : Shape) (f g : Field) → is_field k f ≡ true → is_field k g ≡ true → group_of f ≢ group_of g
    → word_of k f < word_of k g → word_of k f + apart ≤ word_of k g

-- A place's words are written at that place alone: any other place loads them.
abbrev pub PlacesWriteTheirOwn : Type 0
PlacesWriteTheirOwn = (place p : ℕ) (a : Act) → group_of (field_of place a) ≡ place_words p
    → (p ≡ place) ⊎ (access_of place a ≡ Load)

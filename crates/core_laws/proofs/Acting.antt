-- What is shown of all acts, by cases: which marks an act leaves, what the view has seen after it, which acts leave an open section alone,
-- what none of them changes, and that an act may be noted in the trail before it or after it.
use Rattle.std.proofs.Common.{inl, inr, ◌⊎◌, ◌≡◌, ◌≢◌, ◌<◌, ◌≤◌, ◌&&◌, true, false, Option, Some, None, sym, ap, subst, ◌∙◌, ℕ, ◌+◌, ◌-◌, ◌==◌, cond, Bool, List, [], ◌∷◌, ◌++◌, refl, ne_eqb, append-nil, unwrap_or}
use Rattle.std.proofs.lemmas.Bool.{lt-ltb, and_from}
use Rattle.prcu_marks.specs.declared.mark.Mark.{Mark}
use Rattle.prcu_marks.specs.declared.mark.Mark.TheVariants.{Entered, Left as LeftMark, Began, Ended, Given, Unlinked}
use Rattle.prcu_marks.specs.Marks.{is_of, own_of, updates_of}
use Rattle.prcu_marks.specs.declared.commit.Commit.{Commit}
use Rattle.prcu_model.specs.declared.operation.Op.{Op}
use Rattle.prcu_model.specs.declared.operation.Op.TheVariants.{Put, Del, Set}
use Rattle.prcu_model.specs.declared.operation.Update.{Update}
use Rattle.core_state.specs.declared.shape.Shape.{Shape}
use Rattle.core_state.specs.declared.shape.Waiter.TheVariants.{Eer, Domain, Deer}
use Rattle.core_state.specs.declared.words.Field.{Field}
use Rattle.core_state.specs.declared.words.Field.TheVariants as word
use Rattle.core_state.specs.declared.words.Kind.{Kind}
use Rattle.core_state.specs.declared.view.Clocked.{Clocked}
use Rattle.core_state.specs.declared.view.Held.{Held}
use Rattle.core_state.specs.declared.view.Section.{Section}
use Rattle.core_state.specs.declared.view.View.{View}
use Rattle.core_state.specs.declared.view.Waiting.{Waiting}
use Rattle.core_state.specs.Memory.{same_waiter, is_field, slot_count}
use Rattle.core_state.specs.Steps.{stepped, unknown_slot, NeedsLeaveByStamp, gated, excuses, ending, with_excused, after_look, look_marks, done_by, after_lock, with_front, NeedsSearchLoad, IsSpot, spot_seen, NeedsListLoad, NeedsFrontLook, new_listing}
use Rattle.core_state.specs.declared.act.Part.{Part}
use Rattle.core_state.specs.declared.act.Part.TheVariants as part
use Rattle.core_state.specs.declared.act.Act.{Act}
use Rattle.core_state.specs.declared.act.Act.TheVariants.{EnterByStamp, LeaveByStamp, BeginWait, LookKey, LookStamp, Reserve, Seize, Lock, SearchLoad, ListLoad, OpenCommit, LinkLeaf, Bypass, LinkCopy, LoadGate, EnterByCount, LeaveByCount, LookCount, EnterByRow, LeaveByRow, LookRow, ReplaceValue, LookAtFront, LoadMoved}
use Rattle.core_state.specs.Acts.{in_slot, IsWord, clocked_of, some_section, section_of, some_wait, wait_of, commit_of, spare_of, after, marks_of, MayLook, listing_of}
use Rattle.core_state.specs.Links.{after_reserve, reserving, with_free, after_seize, HasCommit}
use Rattle.core_state.specs.Views.{IsLoadable}
use Rattle.list_laws.specs.Counts.{IsIn}
use Rattle.core_state.specs.declared.view.Listing.{Listing}
use Rattle.core_state.specs.declared.view.Visit.{Visit}

-- The table has the words of which a law says so by a test.
pub has_word : (k : Shape) (field : Field) → IsWord k field → is_field k field ≡ true
has_word k word.Clock is = refl
has_word k word.Front is = refl
has_word k word.Free is = refl
has_word k word.Moved is = refl
has_word k (word.Announced p) is = and_from _ _ (ap (λ w. same_waiter w Eer) is.0) (lt-ltb p k.places is.1)
has_word k (word.Stamp p) is = and_from _ _ (ap (λ w. same_waiter w Eer) is.0) (lt-ltb p k.places is.1)
has_word k (word.Gate c) is = and_from _ _ (ap (λ w. same_waiter w Domain) is.0) (lt-ltb c 64 is.1)
has_word k (word.Count c side) is = and_from _ _ (ap (λ w. same_waiter w Domain) is.0)
    (and_from _ _ (lt-ltb c 64 is.1) (lt-ltb side 2 is.2))
has_word k (word.Row p c) is = and_from _ _ (ap (λ w. same_waiter w Deer) is.0) (and_from _ _ (lt-ltb p k.places is.1) (lt-ltb c 64 is.2))
has_word k _ is = lt-ltb _ (slot_count k) is

-- What a view has open, where it has it open.
pub section_is : (v : View) (section : Section) → v.section ≡ Some section → section_of v ≡ section
section_is v section is = ap (λ o. unwrap_or o some_section) is

pub wait_is : (v : View) (wait : Waiting) → v.wait ≡ Some wait → wait_of v ≡ wait
wait_is v wait is = ap (λ o. unwrap_or o some_wait) is

pub commit_is : (v : View) (commit : Commit) → v.commit ≡ Some commit → commit_of v ≡ commit
commit_is v commit is = ap (λ o. unwrap_or o (record { found = 0; stored = false })) is

pub spare_is : (v : View) (held : Held) → v.hands.spare ≡ Some held → spare_of v ≡ held
spare_is v held is = ap (λ o. unwrap_or o (unknown_slot 0)) is

pub clocked_is : (v : View) (clocked : Clocked) → v.enter.clock ≡ Some clocked → clocked_of v ≡ clocked
clocked_is v clocked is = ap (λ o. unwrap_or o (record { number = 0; at = 0 })) is

-- What is needed of what a view has open, from what is known of it.
pub may_update : (v : View) {found : ℕ} → v.commit ≡ Some (record { found = found; stored = false }) → 1 ≤ v.allowance.tickets
    → HasCommit v (commit_of v)
may_update v {found} is ticket = subst (HasCommit v) (sym (commit_is v (record { found = found; stored = false }) is))
    (record { commit_is = is; unmade = refl; ticket = ticket })

pub part_loadable : (s : ℕ) (p : Part) → IsLoadable s (in_slot s p)
part_loadable s part.Life = refl
part_loadable s _ = refl

pub may_search : (v : View) {section : Section} (s : ℕ) (p : Part) → v.section ≡ Some section → section.listing ≡ None
    → IsIn section.reading.stood s → NeedsSearchLoad v (section_of v) s (in_slot s p)
may_search v {section} s p is searches stood = subst (λ x. NeedsSearchLoad v x s (in_slot s p)) (sym (section_is v section is))
    (record { section_is = is; searches = searches; stood = stood; loadable = part_loadable s p })

pub may_list : (v : View) {section : Section} {listing : Listing} (s : ℕ) (p : Part) → v.section ≡ Some section
    → section.listing ≡ Some listing → (s ≡ 0) ⊎ ((t : Visit) × IsIn listing.visits t × (t.slot ≡ s)) → IsLoadable s (in_slot s p)
    → NeedsListLoad v (section_of v) (listing_of (section_of v)) s (in_slot s p)
may_list v {section} {listing} s p is lists been loadable =
    subst (λ x. NeedsListLoad v x (listing_of x) s (in_slot s p)) (sym (section_is v section is))
    (subst (λ x. NeedsListLoad v section x s (in_slot s p)) (sym (ap (λ o. unwrap_or o (new_listing 0)) lists))
    (record { section_is = is; lists = lists; been = been; loadable = loadable }))

pub may_look_at_front : (v : View) {section : Section} → v.section ≡ Some section → section.reading.loads ≡ []
    → NeedsFrontLook v (section_of v)
may_look_at_front v {section} is first = subst (NeedsFrontLook v) (sym (section_is v section is))
    (record { section_is = is; first = first })

pub may_leave : (v : View) {section : Section} → v.section ≡ Some section → NeedsLeaveByStamp v (section_of v)
may_leave v {section} is = is ∙ ap Some (sym (section_is v section is))

pub may_look : (k : Shape) (v : View) {wait : Waiting} {field : Field} {last : Bool} → v.wait ≡ Some wait → wait.ended ≡ false
    → (last ≡ true → (other : Field) → IsSpot k wait other → IsIn (spot_seen field ∷ wait.excused) other)
    → MayLook k v (wait_of v) field last
may_look k v {wait} {field} {last} is going rest = subst (λ x. MayLook k v x field last) (sym (wait_is v wait is))
    (record { wait_is = is; going = going; rest = rest })

-- ---- words

-- the table has each part of its slots
pub part_word : (k : Shape) (s : ℕ) (p : Part) → s < slot_count k → IsWord k (in_slot s p)
part_word k s part.Life below = below
part_word k s _ below = below

-- ---- what is left, where what it finds decides

module _ (v : View) (n : ℕ) where
  look_updates : (wait : Waiting) (field : Field) (last : Bool) → updates_of (look_marks v wait field last n) ≡ []
  look_updates wait field last = by (excuses wait field n && last)
    where
      by : (b : Bool) → updates_of (cond b (Ended v.allowance.place wait.count ∷ []) []) ≡ []
      by true = refl
      by false = refl

  seize_updates : (slot : ℕ) (b : Bool) → updates_of (cond b (Given slot ∷ []) []) ≡ []
  seize_updates slot true = refl
  seize_updates slot false = refl

-- a slot that is found free is given, which is no place's mark
pub seized_none : (slot p : ℕ) (b : Bool) → own_of p (cond b (Given slot ∷ []) []) ≡ []
seized_none slot p true = refl
seized_none slot p false = refl

-- ---- the update of an act

-- its operation, if it makes an update
abbrev pub op_of : Act → Option Op
op_of (LinkLeaf slot b leaf key value) = Some (Put key value)
op_of (Bypass parent b node child key) = Some (Del key)
op_of (LinkCopy parent b node copy old old_parent key next_key) = Some (Del key)
op_of (ReplaceValue slot key value) = Some (Set key value)
op_of _ = None

abbrev pub updates_by : ℕ → Option Op → List Update
updates_by place None = []
updates_by place (Some op) = record { caller = place; op = op } ∷ []

-- it leaves this update, and no other
pub updates_made : (v : View) (n : ℕ) (a : Act) → updates_of (marks_of v a n) ≡ updates_by v.allowance.place (op_of a)
updates_made v n (LookKey p last) = look_updates v n (wait_of v) (word.Announced p) last
updates_made v n (LookStamp p last) = look_updates v n (wait_of v) (word.Stamp p) last
updates_made v n (LookCount class side last) = look_updates v n (wait_of v) (word.Count class side) last
updates_made v n (LookRow p class last) = look_updates v n (wait_of v) (word.Row p class) last
updates_made v n (Seize slot) = seize_updates v n slot (n == 0)
updates_made v n _ = refl

-- ---- the marks of an act are of the place that makes it, or of none

module _ (v : View) (n p : ℕ) (other : v.allowance.place ≢ p) where
  one_none : (m : Mark) (rest : List Mark) → is_of p m ≡ (v.allowance.place == p) → own_of p rest ≡ [] → own_of p (m ∷ rest) ≡ []
  one_none m rest is none = ap (λ b. cond b (m ∷ own_of p rest) (own_of p rest)) (is ∙ ne_eqb v.allowance.place p other) ∙ none

  look_none : (wait : Waiting) (field : Field) (last : Bool) → own_of p (look_marks v wait field last n) ≡ []
  look_none wait field last = by (excuses wait field n && last)
    where
      by : (b : Bool) → own_of p (cond b (Ended v.allowance.place wait.count ∷ []) []) ≡ []
      by true = one_none (Ended v.allowance.place wait.count) [] refl refl
      by false = refl

  entered_none : (key : ℕ) → own_of p (Entered v.allowance.place v.counts.sections key ∷ []) ≡ []
  entered_none key = one_none (Entered v.allowance.place v.counts.sections key) [] refl refl

  left_none : own_of p (LeftMark v.allowance.place (section_of v).count ∷ []) ≡ []
  left_none = one_none (LeftMark v.allowance.place (section_of v).count) [] refl refl

  done_none : (op : Op) (rest : List Mark) → own_of p rest ≡ [] → own_of p (done_by v op ∷ rest) ≡ []
  done_none op rest none = one_none (done_by v op) rest refl none

  pub others_none : (a : Act) → own_of p (marks_of v a n) ≡ []
  others_none (EnterByStamp key stamp) = entered_none key
  others_none LeaveByStamp = left_none
  others_none (BeginWait low high) = one_none (Began v.allowance.place v.counts.waits low high) [] refl refl
  others_none (LookKey q last) = look_none (wait_of v) (word.Announced q) last
  others_none (LookStamp q last) = look_none (wait_of v) (word.Stamp q) last
  others_none (Seize slot) = seized_none slot p (n == 0)
  others_none (LinkLeaf slot b leaf key value) = done_none (Put key value) [] refl
  others_none (Bypass parent b node child key) = done_none (Del key) (Unlinked node ∷ []) refl
  others_none (LinkCopy parent b node copy old old_parent key next_key) = done_none (Del key) (Unlinked node ∷ []) refl
  others_none (EnterByCount key side) = entered_none key
  others_none (LeaveByCount class side) = left_none
  others_none (LookCount class side last) = look_none (wait_of v) (word.Count class side) last
  others_none (EnterByRow key stamp) = entered_none key
  others_none (LeaveByRow class) = left_none
  others_none (LookRow q class last) = look_none (wait_of v) (word.Row q class) last
  others_none (ReplaceValue slot key value) = done_none (Set key value) [] refl
  others_none _ = refl

-- ---- the place, and what the view has seen after it

-- Either the act left no mark and the view has seen what it had, or it has seen all marks with those of the act.
abbrev pub HasSeen : List Mark → List Mark → List Mark → List Mark → Type 0
HasSeen before h made seen = ((made ≡ []) × (seen ≡ before)) ⊎ (seen ≡ h ++ made)

-- the acts that enter a section, leave one or load in one
abbrev pub moves_search : Act → Bool
moves_search (EnterByStamp key stamp) = true
moves_search LeaveByStamp = true
moves_search (SearchLoad slot p) = true
moves_search (ListLoad slot p) = true
moves_search (EnterByCount key side) = true
moves_search (LeaveByCount class side) = true
moves_search (EnterByRow key stamp) = true
moves_search (LeaveByRow class) = true
moves_search LookAtFront = true
moves_search _ = false

-- What an act changes neither of: all of the allowance but the tickets, and the trail in which it was noted.
pub record StaysAtWork (v w : View) : Type 0 where
  pub allowance : w.allowance ≡ record v.allowance { tickets = w.allowance.tickets }
  pub steps : w.trail.steps ≡ v.trail.steps

abbrev works_on : {v w : View} → w.allowance ≡ record v.allowance { tickets = w.allowance.tickets } → w.trail.steps ≡ v.trail.steps
    → StaysAtWork v w
works_on allowance steps = record { allowance = allowance; steps = steps }

module _ (v : View) (h : List Mark) (n : ℕ) where
  either_is : (b : Bool) (x y : View) (section : Option Section) → x.section ≡ section → y.section ≡ section
      → (cond b x y).section ≡ section
  either_is true x y section ix iy = ix
  either_is false x y section ix iy = iy

  either_works : (b : Bool) (x y : View) → StaysAtWork v x → StaysAtWork v y → StaysAtWork v (cond b x y)
  either_works true x y kx ky = kx
  either_works false x y kx ky = ky

  either_seen : (b : Bool) (x y : View) (ms : List Mark) → HasSeen v.seen h ms x.seen → HasSeen v.seen h ms y.seen
      → HasSeen v.seen h ms (cond b x y).seen
  either_seen true x y ms sx sy = sx
  either_seen false x y ms sx sy = sy

  unmarked : HasSeen v.seen h [] v.seen
  unmarked = inl (refl, refl)

  all_seen : HasSeen v.seen h [] h
  all_seen = inr (sym (append-nil h))

  all_with : {ms : List Mark} → HasSeen v.seen h ms (h ++ ms)
  all_with = inr refl

  given_seen : (slot : ℕ) (b : Bool) (x y : View) → x.seen ≡ h ++ Given slot ∷ [] → y.seen ≡ v.seen
      → HasSeen v.seen h (cond b (Given slot ∷ []) []) (cond b x y).seen
  given_seen slot true x y sx sy = inr sx
  given_seen slot false x y sx sy = inl (refl, sy)

  look_seen : (wait : Waiting) (field : Field) (last : Bool)
      → HasSeen v.seen h (look_marks v wait field last n) (after_look v wait field last n h).seen
  look_seen wait field last = by (excuses wait field n) last
    where
      by : (b l : Bool) → HasSeen v.seen h (cond (b && l) (Ended v.allowance.place wait.count ∷ []) [])
          (cond b (cond l (ending v (with_excused wait field) h) (record v { wait = Some (with_excused wait field) })) v).seen
      by true true = inr refl
      by true false = inl (refl, refl)
      by false l = inl (refl, refl)

  gate_seen : (class : ℕ) (section : Option Section) → (gated v class n section).seen ≡ v.seen
  gate_seen class None = refl
  gate_seen class (Some section) = refl

  pub has_seen : (a : Act) → HasSeen v.seen h (marks_of v a n) (after v a h n).seen
  has_seen (LookKey p last) = look_seen (wait_of v) (word.Announced p) last
  has_seen (LookStamp p last) = look_seen (wait_of v) (word.Stamp p) last
  has_seen (Reserve expected) = either_seen (n == expected) _ _ [] unmarked (either_seen (n == 0) _ _ [] all_seen unmarked)
  has_seen (Seize slot) = given_seen slot (n == 0) _ _ refl refl
  has_seen (Lock slot) = either_seen (n == 0) _ _ [] unmarked unmarked
  has_seen (OpenCommit expected) = either_seen (n == expected) _ _ [] unmarked unmarked
  has_seen (LoadGate class) = inl (refl, gate_seen class v.section)
  has_seen LoadMoved = either_seen (n == 0) _ _ [] unmarked all_seen
  has_seen (LookCount class side last) = look_seen (wait_of v) (word.Count class side) last
  has_seen (LookRow p class last) = look_seen (wait_of v) (word.Row p class) last
  has_seen LookAtFront = all_seen
  -- the others leave no mark and let nothing be seen, or let all marks be seen with their own
  has_seen _ = first_of (search unmarked, search all_with)

  gate_stays : (class : ℕ) (section : Option Section) → (gated v class n section).section ≡ v.section
  gate_stays class None = refl
  gate_stays class (Some section) = refl

  gate_works : (class : ℕ) (section : Option Section) → StaysAtWork v (gated v class n section)
  gate_works class None = works_on refl refl
  gate_works class (Some section) = works_on refl refl

  look_works : (wait : Waiting) (field : Field) (last : Bool) → StaysAtWork v (after_look v wait field last n h)
  look_works wait field last = either_works (excuses wait field n) _ _
      (either_works last _ _ (works_on refl refl) (works_on refl refl)) (works_on refl refl)

  look_stays : (wait : Waiting) (field : Field) (last : Bool) → (after_look v wait field last n h).section ≡ v.section
  look_stays wait field last = either_is (excuses wait field n) _ _ v.section (either_is last _ _ v.section refl refl) refl

  pub section_stays : (a : Act) → moves_search a ≡ false → (after v a h n).section ≡ v.section
  section_stays (LookKey p last) quiet = look_stays (wait_of v) (word.Announced p) last
  section_stays (LookStamp p last) quiet = look_stays (wait_of v) (word.Stamp p) last
  section_stays (Reserve expected) quiet = either_is (n == expected) _ _ v.section refl (either_is (n == 0) _ _ v.section refl refl)
  section_stays (Seize slot) quiet = either_is (n == 0) _ _ v.section refl refl
  section_stays (Lock slot) quiet = either_is (n == 0) _ _ v.section refl refl
  section_stays (OpenCommit expected) quiet = either_is (n == expected) _ _ v.section refl refl
  section_stays (LoadGate class) quiet = gate_stays class v.section
  section_stays LoadMoved quiet = either_is (n == 0) _ _ v.section refl refl
  section_stays (LookCount class side last) quiet = look_stays (wait_of v) (word.Count class side) last
  section_stays (LookRow p class last) quiet = look_stays (wait_of v) (word.Row p class) last
  -- the others leave the section, or move the search
  section_stays _ quiet = cc

  -- who makes it stays where it is, with all but its tickets
  pub stays_at_work : (a : Act) → StaysAtWork v (after v a h n)
  stays_at_work (LookKey p last) = look_works (wait_of v) (word.Announced p) last
  stays_at_work (LookStamp p last) = look_works (wait_of v) (word.Stamp p) last
  stays_at_work (Reserve expected) = either_works (n == expected) _ _ (works_on refl refl)
      (either_works (n == 0) _ _ (works_on refl refl) (works_on refl refl))
  stays_at_work (Seize slot) = either_works (n == 0) _ _ (works_on refl refl) (works_on refl refl)
  stays_at_work (Lock slot) = either_works (n == 0) _ _ (works_on refl refl) (works_on refl refl)
  stays_at_work (OpenCommit expected) = either_works (n == expected) _ _ (works_on refl refl) (works_on refl refl)
  stays_at_work (LoadGate class) = gate_works class v.section
  stays_at_work LoadMoved = either_works (n == 0) _ _ (works_on refl refl) (works_on refl refl)
  stays_at_work (LookCount class side last) = look_works (wait_of v) (word.Count class side) last
  stays_at_work (LookRow p class last) = look_works (wait_of v) (word.Row p class) last
  stays_at_work _ = works_on refl refl

-- ---- noted before it or after it

module _ (v : View) (kind : Kind) (on : Field) (number : ℕ) where
  -- a view with this step in its trail
  abbrev note : View → View
  note x = stepped x kind on number

  either_noted : (b : Bool) (x y : View) → cond b (note x) (note y) ≡ note (cond b x y)
  either_noted true x y = refl
  either_noted false x y = refl

  -- no trail is read
  pub marks_noted : (a : Act) (n : ℕ) → marks_of (note v) a n ≡ marks_of v a n
  marks_noted a n = refl

  gate_noted : (class n : ℕ) (section : Option Section) → gated (note v) class n section ≡ note (gated v class n section)
  gate_noted class n None = refl
  gate_noted class n (Some section) = refl

  module _ (h : List Mark) (n : ℕ) where
    look_noted : (wait : Waiting) (field : Field) (last : Bool)
        → after_look (note v) wait field last n h ≡ note (after_look v wait field last n h)
    look_noted wait field last = by (excuses wait field n) last
      where
        by : (b l : Bool) → cond b (cond l (ending (note v) (with_excused wait field) h)
            (record (note v) { wait = Some (with_excused wait field) })) (note v)
            ≡ note (cond b (cond l (ending v (with_excused wait field) h) (record v { wait = Some (with_excused wait field) })) v)
        by true true = refl
        by true false = refl
        by false l = refl

    reserve_noted : (expected : ℕ) → after_reserve (note v) expected n h ≡ note (after_reserve v expected n h)
    reserve_noted expected = by (n == expected) (n == 0)
      where
        by : (b c : Bool) → cond b (reserving (with_free (note v) (expected - 1)))
            (cond c (record (with_free (note v) 0) { seen = h }) (with_free (note v) n))
            ≡ note (cond b (reserving (with_free v (expected - 1))) (cond c (record (with_free v 0) { seen = h }) (with_free v n)))
        by true c = refl
        by false true = refl
        by false false = refl

    pub noted_after : (a : Act) → after (note v) a h n ≡ note (after v a h n)
    noted_after (LookKey p last) = look_noted (wait_of v) (word.Announced p) last
    noted_after (LookStamp p last) = look_noted (wait_of v) (word.Stamp p) last
    noted_after (Reserve expected) = reserve_noted expected
    noted_after (Seize slot) = either_noted (n == 0) (after_seize v slot 0 h) v
    noted_after (Lock slot) = either_noted (n == 0) (after_lock v slot 0) v
    noted_after (OpenCommit expected) = either_noted (n == expected)
        (record (with_front v (expected + 1)) { commit = Some (record { found = expected; stored = false }) }) (with_front v n)
    noted_after (LoadGate class) = gate_noted class n v.section
    noted_after LoadMoved = either_noted (n == 0) v (record v { seen = h })
    noted_after (LookCount class side last) = look_noted (wait_of v) (word.Count class side) last
    noted_after (LookRow p class last) = look_noted (wait_of v) (word.Row p class) last
    noted_after _ = refl

-- How far a call is, at each point and by its marks, and what its replies are explained by.
-- How far a call is, by what its marks say: it searches, it is in a section, it has left one, it found its key present, or it has made
-- its update.
use Rattle.std.proofs.Common.{◌≡◌, ◌⊎◌, ℕ, ◌+◌, ◌-◌, ◌/◌, ◌≤◌, nat_le, ◌^◌, cond, Bool, true, false, MatchBool, List, [], ◌∷◌, ◌++◌, length, Option, Some, None, refl, sym, ap, subst, ◌∙◌, ⊎_elim, inr, arith, append_assoc, append-nil, length-append, is_some, ◌&&◌, eq-eqb, ◌==◌, ◌||◌, inl, ◌*◌}
use Rattle.std.specs.List.{AllByRecursion, slice_get}
use mathlib.Core.List.{IsPrefix}
use Rattle.std.proofs.lemmas.Option.{slice_get_within}
use Rattle.prcu_marks.specs.declared.mark.Mark.{Mark}
use Rattle.prcu_marks.specs.declared.mark.Mark.TheVariants.{Began, Left as LeftMark, Ended, Given}
use Rattle.prcu_model.specs.declared.operation.Op.{Op}
use Rattle.prcu_model.specs.declared.operation.Op.TheVariants.{Put, Del, Set}
use Rattle.prcu_model.specs.declared.operation.Reply.{Reply}
use Rattle.prcu_model.specs.declared.operation.Reply.TheVariants.{New, Old, Gone, Was, Full, Absent}
use Rattle.prcu_model.specs.declared.operation.Told.{Told}
use Rattle.prcu_model.specs.declared.operation.Update.{Update}
use Rattle.prcu_model.specs.Dictionary.{key_of, map_at, Room, Explains, Confirms, tells_update, Dictionary, WasSaid}
use Rattle.prcu_marks.specs.Marks.{updates_of, own_of, is_of}
use Rattle.prcu_marks.specs.Callers.{Caller, IsLeftBy, entered_for, WaitsFor, IsMoveWait, HasMadeUpdate, WasExplained, HasAnswered}
use Rattle.prcu_model.proofs.ListFacts.{prefix_self, prefix_more, all_map, all_append}
use Rattle.prcu_marks.proofs.Marks.{updates_of-append, own_of-append, updates_below, entered_for-append, own_twice}
use Rattle.prcu_marks.proofs.Callers.{HasTold, map_at-longer, told_more, waits_longer, slice_get-longer, newcomer}
use Rattle.core_state.specs.declared.view.Section.{Section}
use Rattle.core_points.specs.declared.stage.Aim.{Aim}
use Rattle.core_points.specs.declared.stage.Aim.TheVariants.{Leaf, Spare, Room as ForRoom}
use Rattle.core_points.specs.declared.stage.Update.{Update as Making}
use Rattle.core_points.specs.declared.stage.Waits.{Waits}
use Rattle.core_points.specs.declared.stage.Waits.TheVariants.{Reuse, Move}
use Rattle.core_points.specs.declared.stage.Stage.{Stage}
use Rattle.core_points.specs.Programs.{Own, key_now, answer, begun_with, first_point, Act, marks_of, go, is_none_left, is_some as has_slot, deleting, ended, past_left, past_right, past_target_load, verdict, excused, found, giving, past_lock, wait_over, last_right, target_holds, value_in}
use Rattle.core_points.specs.Laws.{is_finished}
use Rattle.core_state.specs.declared.words.Field.{Field}
use Rattle.core_state.specs.declared.view.View.{View}
use Rattle.core_state.specs.declared.view.Waiting.{Waiting}
use Rattle.core_state.specs.Steps.{excuses, look_marks}
use Rattle.core_points.specs.declared.stage.Found.{Found}
use Rattle.core_points.specs.declared.stage.Node.{Node}
use Rattle.core_points.specs.declared.stage.Successor.{Successor}
use Rattle.core_points.specs.declared.stage.Target.{Target}
use Rattle.prcu_marks.specs.declared.mark.Side.{Side}
use Rattle.core_points.specs.Facts.{is_delete, is_put, is_set}
use Rattle.core_points.specs.declared.stage.Last.TheVariants as last
use Rattle.core_points.specs.declared.stage.Update.TheVariants as update
use Rattle.core_points.specs.declared.stage.Stage.TheVariants as at
use Rattle.std.specs.FinMap as finite

pub data Phase : Type 0 where
  searching : Phase
  inside : Phase
  outside : Phase
  present : Phase
  made : (number : ℕ) (reply : Reply) → Phase
  moving : (number next : ℕ) → Phase

abbrev pub made_as : Making → ℕ → Phase
made_as (update.Leaf spot) number = made number New
made_as (update.Value s old) number = made number (Was old)
made_as (update.Bypass d child) number = made number Gone
made_as (update.Copy d u next_key copy) number = moving number next_key

-- a put that lacks a slot has searched; a delete takes one before it searches
abbrev pub aiming : Aim → Phase
aiming (Leaf spot) = outside
aiming Spare = searching
aiming ForRoom = searching

abbrev pub waiting : Waits → Phase
waiting (Reuse aim) = aiming aim
waiting (Move m) = made m.number Gone

abbrev pub phase : Stage → Phase
phase at.Finished = searching
phase at.EnterClock = searching
phase (at.EnterKey clock) = searching
phase (at.EnterStamp clock) = searching
phase (at.Keep s) = searching
phase (at.AtLink s b) = inside
phase (at.AtKey s p b) = inside
phase (at.Leave next) = inside
phase (at.Value s) = inside
phase (at.SpotTag s b) = inside
phase (at.SpotLife s b tag) = inside
phase (at.SetLife s) = inside
phase (at.ParentLife p b d) = inside
phase (at.NodeLife d) = inside
phase (at.NodeLeft d) = inside
phase (at.NodeRight d) = inside
phase (at.SuccessorLeft d u) = inside
phase (at.SuccessorParentLife d u) = inside
phase (at.SuccessorLife d u) = inside
phase (at.Reserve aim expected) = aiming aim
phase (at.Seize aim) = aiming aim
phase (at.Age aim s) = aiming aim
phase at.Raise = present
phase at.Free = present
phase at.Count = present
phase (at.Begin (Reuse aim)) = aiming aim
phase (at.Begin (Move m)) = moving m.number m.next_key
phase (at.LookKey waits clock p) = waiting waits
phase (at.LookStamp waits clock p key) = waiting waits
phase (at.OldAge aim) = aiming aim
phase (at.OldRaise aim life) = aiming aim
phase (at.OldFree aim) = aiming aim
phase (at.OldCount aim) = aiming aim
phase (at.Even u front) = made_as u ((front + 2) / 2)
phase (at.Unlock last.Again) = searching
phase (at.Unlock (last.New number)) = made number New
phase (at.Unlock (last.Gone number)) = made number Gone
phase (at.Unlock (last.Was value number)) = made number (Was value)
phase (at.EmptyTag number s b) = made number Gone
phase (at.EmptyRaise number s b tag) = made number Gone
phase (at.OldMark m) = made m.number Gone
phase (at.OldRight m) = made m.number Gone
phase (at.Unlink m child) = made m.number Gone
-- the section was left, or isn't needed any more, and no update is made
phase _ = outside

-- the caller at the place, as it was at its last answer
abbrev pub at_answer : ℕ → List Mark → List Mark → Caller
at_answer i own seen = record { place = i; own = own; seen = seen }

-- a section that was entered after so many updates, or none
abbrev pub IsLate : ℕ → Option Section → Type 0
IsLate n None = Unit {0}
IsLate n (Some s) = n ≤ s.from

-- what the marks of the call say, of which all marks are the later list
abbrev pub Known : Room → Phase → Caller → Op → List Mark → List Mark → Option Section → Type 0
Known room searching c op h marks section = updates_of marks ≡ []
Known room inside c op h marks section = (updates_of marks ≡ []) × (1 ≤ entered_for c.place (key_of op) marks)
    × IsLate (length (updates_of c.seen)) section
Known room outside c op h marks section = (updates_of marks ≡ []) × (1 ≤ entered_for c.place (key_of op) marks)
Known room present c op h marks section = (1 ≤ entered_for c.place (key_of op) marks)
    × WasExplained (Explains room) c op (record { reply = Old; number = 0 }) marks h
Known room (made number reply) c op h marks section =
    (1 ≤ entered_for c.place (key_of op) marks) × HasMadeUpdate c op (record { reply = reply; number = number }) marks h
Known room (moving number next) c op h marks section =
    (1 ≤ entered_for c.place (key_of op) marks) × HasMadeUpdate c op (record { reply = Gone; number = number }) marks h
    × IsMoveWait (updates_of h) c.place (key_of op + 1) next

-- the marks of the place since its last answer
pub record Since (c : Caller) (key : ℕ) (h marks : List Mark) : Type 0 where
  pub own : own_of c.place h ≡ c.own ++ marks
  pub keyed : AllByRecursion (IsLeftBy c.place key) marks
  pub waits : AllByRecursion (WaitsFor (updates_of h)) marks
  pub seen : IsPrefix c.seen h

-- what is left of the script, with the operation in hand
abbrev pub IsToDo : Bool → Own → List Op → List Mark → Type 0
IsToDo true o todo marks = (todo ≡ []) × (marks ≡ [])
IsToDo false o todo marks = todo ≡ o.op ∷ o.rest

-- what a caller has told, and how far its call is
pub record Tells (room : Room) (i : ℕ) (script : List Op) (o : Own) (section : Option Section) (h : List Mark) : Type 0 where
  pub done : List Op
  pub own : List Mark
  pub seen : List Mark
  pub told : HasTold (Explains room) (newcomer i) done o.told (at_answer i own seen)
  pub todo : List Op
  pub whole : done ++ todo ≡ script
  pub marks : List Mark
  pub since : Since (at_answer i own seen) (key_now o) h marks
  pub left : IsToDo (is_finished o.stage) o todo marks
  pub known : Known room (phase o.stage) (at_answer i own seen) o.op h marks section

-- ---- later marks

module _ (room : Room) (c : Caller) (op : Op) (h more marks mine : List Mark) (none : updates_of mine ≡ []) where
  updates_now : updates_of (h ++ more) ≡ updates_of h ++ updates_of more
  updates_now = updates_of-append h more

  updates_same : updates_of (marks ++ mine) ≡ updates_of marks
  updates_same = updates_of-append marks mine ∙ ap (λ us. updates_of marks ++ us) none ∙ append-nil (updates_of marks)

  pub entered_more : 1 ≤ entered_for c.place (key_of op) marks → 1 ≤ entered_for c.place (key_of op) (marks ++ mine)
  entered_more some = let split = entered_for-append c.place (key_of op) marks mine in omega arith

  pub made_later : (told : Told) → HasMadeUpdate c op told marks h → HasMadeUpdate c op told (marks ++ mine) (h ++ more)
  made_later told m =
      let inside_list = slice_get_within (updates_of h) (told.number - 1) (record { caller = c.place; op = op }) m.stands in record {
        left = updates_same ∙ m.left;
        later = m.later;
        stands = subst (λ us. slice_get us (told.number - 1) ≡ Some (record { caller = c.place; op = op })) (sym updates_now)
            (slice_get-longer (updates_of h) (updates_of more) (told.number - 1) (record { caller = c.place; op = op }) m.stands);
        confirms = subst (λ us. Confirms (map_at us (told.number - 1)) op told.reply) (sym updates_now)
            (subst (λ d. Confirms d op told.reply) (sym
            (map_at-longer (updates_of h) (updates_of more) (told.number - 1) (omega arith))) m.confirms);
      }

  pub explained_later : (told : Told) → WasExplained (Explains room) c op told marks h
      → WasExplained (Explains room) c op told (marks ++ mine) (h ++ more)
  explained_later told w =
      let until = w.until in
      let long = length-append (updates_of h) (updates_of more) in
      let now = ap length updates_now in record {
        left = updates_same ∙ w.left;
        front = w.front;
        since = w.since;
        until = omega arith;
        explained = subst (λ us. Explains room (map_at us w.front) op told.reply) (sym updates_now)
            (subst (λ d. Explains room d op told.reply) (sym (map_at-longer (updates_of h) (updates_of more) w.front until)) w.explained);
      }

  pub move_later : (low high : ℕ) → IsMoveWait (updates_of h) c.place low high → IsMoveWait (updates_of (h ++ more)) c.place low high
  move_later low high move = ⊎_elim
      (λ (all : (low ≡ 0) × (high + 1 ≡ 2 ^ 64)). absurd (let e = all.0 in let l = move.low_is in omega arith))
      (λ (m : IsMoveWait (updates_of h ++ updates_of more) c.place low high). subst (λ us. IsMoveWait us c.place low high)
      (sym updates_now) m)
      (waits_longer (updates_of h) (updates_of more) (Began c.place 0 low high) (inr move))

  -- what is known stays so, where a section that is open stays open
  pub known_later : (p : Phase) (before after : Option Section)
      → (p ≡ inside → IsLate (length (updates_of c.seen)) before → IsLate (length (updates_of c.seen)) after)
      → Known room p c op h marks before → Known room p c op (h ++ more) (marks ++ mine) after
  known_later searching before after stays k = updates_same ∙ k
  known_later inside before after stays k = (updates_same ∙ k.0, entered_more k.1, stays refl k.2)
  known_later outside before after stays k = (updates_same ∙ k.0, entered_more k.1)
  known_later present before after stays k = (entered_more k.0, explained_later (record { reply = Old; number = 0 }) k.1)
  known_later (made number reply) before after stays k = (entered_more k.0, made_later (record { reply = reply; number = number }) k.1)
  known_later (moving number next) before after stays k =
      (entered_more k.0, made_later (record { reply = Gone; number = number }) k.1, move_later (key_of op + 1) next k.2)

  pub since_later : own_of c.place more ≡ mine → AllByRecursion (IsLeftBy c.place (key_of op)) mine
      → AllByRecursion (WaitsFor (updates_of (h ++ more))) mine → Since c (key_of op) h marks
      → Since c (key_of op) (h ++ more) (marks ++ mine)
  since_later own keyed waits s = record {
    own = own_of-append c.place h more ∙ ap (λ xs. xs ++ own_of c.place more) s.own ∙ ap (λ xs. (c.own ++ marks) ++ xs) own
        ∙ append_assoc c.own marks mine;
    keyed = all_append (IsLeftBy c.place (key_of op)) marks mine s.keyed keyed;
    waits = all_append (WaitsFor (updates_of (h ++ more))) marks mine
        (subst (λ us. AllByRecursion (WaitsFor us) marks) (sym updates_now)
        (all_map (WaitsFor (updates_of h)) (WaitsFor (updates_of h ++ updates_of more)) marks
        (waits_longer (updates_of h) (updates_of more)) s.waits)) waits;
    seen = prefix_more c.seen h more s.seen;
  }

-- what another caller's marks leave
pub others_tell : (room : Room) (i : ℕ) (script : List Op) (o : Own) (section : Option Section) (h more : List Mark) → own_of i more ≡ []
    → Tells room i script o section h → Tells room i script o section (h ++ more)
others_tell room i script o section h more none t =
    let c : Caller = at_answer i t.own t.seen in
    let same : t.marks ++ [] ≡ t.marks = append-nil t.marks in record {
      done = t.done;
      own = t.own;
      seen = t.seen;
      told = t.told;
      todo = t.todo;
      whole = t.whole;
      marks = t.marks ++ [];
      since = since_later room c o.op h more t.marks [] refl none tt tt t.since;
      left = subst (λ ms. IsToDo (is_finished o.stage) o t.todo ms) (sym same) t.left;
      known = known_later room c o.op h more t.marks [] refl (phase o.stage) section section (λ e late. late) t.known;
    }

-- ---- the own step

-- The marks that a step leaves: those of the place among them are for the call's key, and no update.
pub record Adds (i key : ℕ) (us : List Update) (more : List Mark) : Type 0 where
  pub mine : List Mark
  pub own : own_of i more ≡ mine
  pub keyed : AllByRecursion (IsLeftBy i key) mine
  pub waits : AllByRecursion (WaitsFor us) mine
  pub updates : updates_of mine ≡ []

pub no_marks : (i key : ℕ) (us : List Update) (more : List Mark) → own_of i more ≡ [] → Adds i key us more
no_marks i key us more none = record { mine = []; own = none; keyed = tt; waits = tt; updates = refl }

-- what no point changes but one that answers
abbrev pub said : Own → Op × List Op × List Told
said o = (o.op, o.rest, o.told)

-- a point that goes on with a phase, or starts again
abbrev pub Leads : Phase → Phase → Type 0
Leads p q = (p ≡ q) ⊎ ((p ≡ outside) × (q ≡ searching))

abbrev pub Next : Own → Phase → Own → Type 0
Next o p o' = (said o' ≡ said o) × (is_finished o'.stage ≡ false) × Leads p (phase o'.stage)

pub either_next : (o : Own) (p : Phase) (b : Bool) (x y : Own) → Next o p x → Next o p y → Next o p (cond b x y)
either_next o p true x y nx ny = nx
either_next o p false x y nx ny = ny

-- a call begins by searching
pub first_phase : (o' : Own) (op : Op) → (is_finished (first_point o' op) ≡ false) × (phase (first_point o' op) ≡ searching)
first_phase o' (Del key) = either (nat_le o'.room (length o'.retired + 1)) _ _ (refl, refl) (either (is_some o'.spare) _ _ (refl, refl) (refl, refl))
  where
    either : (b : Bool) (x y : Stage) → (is_finished x ≡ false) × (phase x ≡ searching) → (is_finished y ≡ false) × (phase y ≡ searching)
        → (is_finished (cond b x y) ≡ false) × (phase (cond b x y) ≡ searching)
    either true x y p q = p
    either false x y p q = q
first_phase o' _ = (refl, refl)

module _ (room : Room) (i : ℕ) (script : List Op) (o : Own) (section : Option Section) (h : List Mark) (t : Tells room i script o section h)
    (going : is_finished o.stage ≡ false) where
  abbrev caller : Caller
  caller = at_answer i t.own t.seen

  todo_is : t.todo ≡ o.op ∷ o.rest
  todo_is = subst (λ b. IsToDo b o t.todo t.marks) going t.left

  pub seen_before : length (updates_of t.seen) ≤ length (updates_of h)
  seen_before = updates_below t.seen h t.since.seen

  -- the step leaves these marks, and what is known then is known
  pub tells_by : (more mine : List Mark) (o' : Own) (after : Option Section) → said o' ≡ said o → is_finished o'.stage ≡ false
      → Since (at_answer i t.own t.seen) (key_of o.op) (h ++ more) (t.marks ++ mine)
      → Known room (phase o'.stage) (at_answer i t.own t.seen) o.op (h ++ more) (t.marks ++ mine) after
      → Tells room i script o' after (h ++ more)
  tells_by more mine o' after same goes since known =
      let op_is : o'.op ≡ o.op = ap (λ (s : Op × List Op × List Told). s.0) same in
      let rest_is : o'.rest ≡ o.rest = ap (λ (s : Op × List Op × List Told). s.1) same in
      let told_is : o'.told ≡ o.told = ap (λ (s : Op × List Op × List Told). s.2) same in record {
        done = t.done;
        own = t.own;
        seen = t.seen;
        told = subst (λ ts. HasTold (Explains room) (newcomer i) t.done ts (at_answer i t.own t.seen)) (sym told_is) t.told;
        todo = t.todo;
        whole = t.whole;
        marks = t.marks ++ mine;
        since = subst (λ op. Since (at_answer i t.own t.seen) (key_of op) (h ++ more) (t.marks ++ mine)) (sym op_is) since;
        left = subst (λ b. IsToDo b o' t.todo (t.marks ++ mine)) (sym goes) (todo_is ∙ (λ j. sym op_is j ∷ sym rest_is j));
        known = subst (λ op. Known room (phase o'.stage) (at_answer i t.own t.seen) op (h ++ more) (t.marks ++ mine) after)
            (sym op_is) known;
      }

  -- a step that makes no update and ends no call
  pub goes_on : (more : List Mark) → Adds i (key_of o.op) (updates_of (h ++ more)) more → (o' : Own) (after : Option Section)
      → Next o (phase o.stage) o'
      → (phase o.stage ≡ inside → IsLate (length (updates_of t.seen)) section → IsLate (length (updates_of t.seen)) after)
      → Tells room i script o' after (h ++ more)
  goes_on more a o' after next stays =
      let c : Caller = at_answer i t.own t.seen in
      let since = since_later room c o.op h more t.marks a.mine a.updates a.own a.keyed a.waits t.since in
      let known : Known room (phase o.stage) c o.op (h ++ more) (t.marks ++ a.mine) after =
      known_later room c o.op h more t.marks a.mine a.updates (phase o.stage) section after stays t.known in
      tells_by more a.mine o' after next.0 next.1 since
      (⊎_elim
      (λ (e : phase o.stage ≡ phase o'.stage). subst (λ q. Known room q c o.op (h ++ more) (t.marks ++ a.mine) after) e known)
      (λ (e : (phase o.stage ≡ outside) × (phase o'.stage ≡ searching)). subst (λ q. Known room q c o.op (h ++ more)
      (t.marks ++ a.mine) after) (sym e.1) (subst (λ q. Known room q c o.op (h ++ more) (t.marks ++ a.mine) after) e.0 known).0)
      next.2)

  -- a step that ends the call with this answer
  pub answers_so : (more : List Mark) → Adds i (key_of o.op) (updates_of (h ++ more)) more
      → (o' : Own) (after : Option Section) (reply : Reply) (number : ℕ) → said o' ≡ said o
      → 1 ≤ entered_for i (key_of o.op) t.marks
      → ((mine : List Mark) → updates_of mine ≡ [] → let told : Told = record { reply = reply; number = number } in
      MatchBool (tells_update reply) (HasMadeUpdate (at_answer i t.own t.seen) o.op told (t.marks ++ mine) (h ++ more))
      (WasExplained (Explains room) (at_answer i t.own t.seen) o.op told (t.marks ++ mine) (h ++ more)))
      → Tells room i script (answer o' reply number) after (h ++ more)
  answers_so more a o' after reply number same entered replies =
      let c : Caller = at_answer i t.own t.seen in
      let told : Told = record { reply = reply; number = number } in
      let marks : List Mark = t.marks ++ a.mine in
      let since : Since c (key_of o.op) (h ++ more) marks =
      since_later room c o.op h more t.marks a.mine a.updates a.own a.keyed a.waits t.since in
      let d : Caller = at_answer i (t.own ++ marks) (h ++ more) in
      let answered : HasAnswered (Explains room) c o.op told d = record {
        place = refl;
        marks = marks;
        own = refl;
        keyed = since.keyed;
        entered = entered_more room c o.op h more t.marks a.mine a.updates entered;
        waits = since.waits;
        since = since.seen;
        met = sym (ap (own_of i) (sym since.own) ∙ own_twice i (h ++ more));
        reply = replies a.mine a.updates;
      } in
      let all : HasTold (Explains room) (newcomer i) (t.done ++ o.op ∷ []) (o.told ++ told ∷ []) d =
      told_more (Explains room) (newcomer i) t.done o.told c t.told o.op told d answered in
      let told_is : o'.told ≡ o.told = ap (λ (s : Op × List Op × List Told). s.2) same in
      let rest_is : o'.rest ≡ o.rest = ap (λ (s : Op × List Op × List Told). s.1) same in
      begins (record o' { told = o'.told ++ told ∷ [] }) (t.own ++ marks)
      (subst (λ ts. HasTold (Explains room) (newcomer i) (t.done ++ o.op ∷ []) (ts ++ told ∷ []) d) (sym told_is) all)
      (record { own = since.own ∙ sym (append-nil (t.own ++ marks)); keyed = tt; waits = tt; seen = prefix_self (h ++ more) })
      o'.rest (append_assoc t.done (o.op ∷ []) o'.rest ∙ ap (λ os. t.done ++ o.op ∷ os) rest_is ∙ ap (λ os. t.done ++ os) (sym todo_is)
      ∙ t.whole)
    where
      begins : (x : Own) (own : List Mark) → HasTold (Explains room) (newcomer i) (t.done ++ o.op ∷ []) x.told (at_answer i own (h ++ more))
          → Since (at_answer i own (h ++ more)) 0 (h ++ more) [] → (ops : List Op) → (t.done ++ o.op ∷ []) ++ ops ≡ script
          → Tells room i script (begun_with x ops) after (h ++ more)
      begins x own told since [] whole = record {
        done = t.done ++ o.op ∷ [];
        own = own;
        seen = h ++ more;
        told = told;
        todo = [];
        whole = whole;
        marks = [];
        since = record { own = since.own; keyed = tt; waits = tt; seen = since.seen };
        left = (refl, refl);
        known = refl;
      }
      begins x own told since (op ∷ ops) whole =
          let first = first_phase x op in record {
            done = t.done ++ o.op ∷ [];
            own = own;
            seen = h ++ more;
            told = told;
            todo = op ∷ ops;
            whole = whole;
            marks = [];
            since = record { own = since.own; keyed = tt; waits = tt; seen = since.seen };
            left = subst (λ b. IsToDo b (begun_with x (op ∷ ops)) (op ∷ ops) []) (sym first.0) refl;
            known = subst (λ p. Known room p (at_answer i own (h ++ more)) op (h ++ more) [] after) (sym first.1) refl;
          }

-- The marks of the acts that make no update and enter no section.

pub own_one : (i : ℕ) (m : Mark) → is_of i m ≡ true → own_of i (m ∷ []) ≡ m ∷ []
own_one i m is = ap (λ b. cond b (m ∷ []) []) is

module _ (i key : ℕ) (us : List Update) (v : View) (place : v.allowance.place ≡ i) where
  -- a section is left
  pub left_adds : (count : ℕ) → Adds i key us (LeftMark v.allowance.place count ∷ [])
  left_adds count =
      let m : Mark = LeftMark v.allowance.place count in
      record { mine = m ∷ []; own = own_one i m (eq-eqb v.allowance.place i place); keyed = (place, tt); waits = (tt, tt); updates = refl }

  -- a wait begins
  pub began_adds : (count low high : ℕ) → WaitsFor us (Began v.allowance.place count low high)
      → Adds i key us (Began v.allowance.place count low high ∷ [])
  began_adds count low high waits =
      let m : Mark = Began v.allowance.place count low high in
      record {
        mine = m ∷ [];
        own = own_one i m (eq-eqb v.allowance.place i place);
        keyed = (place, tt);
        waits = (waits, tt);
        updates = refl;
      }

  -- a look, which may end its wait
  pub look_adds : (wait : Waiting) (field : Field) (last : Bool) (n : ℕ) → Adds i key us (look_marks v wait field last n)
  look_adds wait field last n = by_end (excuses wait field n && last)
    where
      by_end : (b : Bool) → Adds i key us (cond b (Ended v.allowance.place wait.count ∷ []) [])
      by_end true = let m : Mark = Ended v.allowance.place wait.count in
          record {
            mine = m ∷ [];
            own = own_one i m (eq-eqb v.allowance.place i place);
            keyed = (place, tt);
            waits = (tt, tt);
            updates = refl;
          }
      by_end false = no_marks i key us [] refl

  -- a state is exchanged
  pub seize_adds : (slot : ℕ) (b : Bool) → Adds i key us (cond b (Given slot ∷ []) [])
  seize_adds slot true = no_marks i key us (Given slot ∷ []) refl
  seize_adds slot false = no_marks i key us [] refl

  -- one of two acts
  pub either_adds : (n : ℕ) (b : Bool) (x y : Act) → Adds i key us (marks_of v n x) → Adds i key us (marks_of v n y)
      → Adds i key us (marks_of v n (cond b x y))
  either_adds n true x y p q = p
  either_adds n false x y p q = q

-- How far a call is at the point to which a step leads.

pub aim_outside : (aim : Aim) → aiming aim ≡ inside → ⊥
aim_outside (Leaf spot) e = absurd (cc)
aim_outside _ e = absurd (cc)

pub wait_outside : (waits : Waits) → waiting waits ≡ inside → ⊥
wait_outside (Reuse aim) e = aim_outside aim e
wait_outside (Move m) e = absurd (cc)

pub stage_next : (o : Own) (p : Phase) (o' : Own) (b : Bool) (x y : Stage) → Next o p (go o' x) → Next o p (go o' y)
    → Next o p (go o' (cond b x y))
stage_next o p o' true x y nx ny = nx
stage_next o p o' false x y nx ny = ny

pub either_tells : (room : Room) (i : ℕ) (script : List Op) (section : Option Section) (h : List Mark) (b : Bool) (x y : Own)
    → (b ≡ true → Tells room i script x section h) → (b ≡ false → Tells room i script y section h)
    → Tells room i script (cond b x y) section h
either_tells room i script section h true x y tx ty = tx refl
either_tells room i script section h false x y tx ty = ty refl

pub ended_next : (o o' : Own) (op : Op) (s : ℕ) (b : Side) → said o' ≡ said o → Next o inside (go o' (ended op s b))
ended_next o o' (Put key value) s b same = (same, refl, inl refl)
ended_next o o' _ s b same = (same, refl, inl refl)

pub found_next : (o o' : Own) (op : Op) (s p : ℕ) (b : Side) → said o' ≡ said o → Next o inside (go o' (found op s p b))
found_next o o' (Put key value) s p b same = (same, refl, inl refl)
found_next o o' _ s p b same = (same, refl, inl refl)

pub lock_next : (o o' : Own) (s n : ℕ) (next : Stage) → said o' ≡ said o → is_finished next ≡ false → phase next ≡ outside
    → Next o outside (past_lock o' s n next)
lock_next o o' s n next same going is = either_next o outside (n == 0) _ _ (same, going, inl (sym is))
    (stage_next o outside o' (is_none_left o'.locks) _ _ (same, refl, inr (refl, refl)) (same, refl, inr (refl, refl)))

pub giving_next : (o o' : Own) (aim : Aim) → said o' ≡ said o → Next o (aiming aim) (giving o' aim)
giving_next o o' (Leaf spot) same = stage_next o outside o' (is_none_left o'.retired) _ _ (same, refl, inl refl) (same, refl, inl refl)
giving_next o o' Spare same = stage_next o searching o' (is_none_left o'.retired) _ _ (same, refl, inl refl) (same, refl, inl refl)
giving_next o o' ForRoom same = stage_next o searching o'
    (is_none_left o'.retired) _ _ (stage_next o searching o' (has_slot o'.spare) _ _ (same, refl, inl refl) (same, refl, inl refl))
    (same, refl, inl refl)

wait_next : (o o' : Own) (waits : Waits) → said o' ≡ said o → Next o (waiting waits) (wait_over o' waits)
wait_next o o' (Reuse aim) same = giving_next o o' aim same
wait_next o o' (Move m) same = (same, refl, inl refl)

pub place_next : (o o' : Own) (waits : Waits) (clock p : ℕ) → said o' ≡ said o → Next o (waiting waits) (excused o' waits clock p)
place_next o o' waits clock p same = either_next o (waiting waits) (p + 1 == o'.places) _ _ (wait_next o o' waits same)
    (same, refl, inl refl)

pub right_next : (o o' : Own) (d : Node) → said o' ≡ said o → Next o inside (go o' (past_right d))
right_next o o' d same = stage_next o inside o' ((d.left == 0) || (d.right == 0)) _ _ (same, refl, inl refl) (same, refl, inl refl)

pub left_next : (o o' : Own) (d : Node) (u : Successor) (n : ℕ) → said o' ≡ said o → Next o inside (go o' (past_left d u n))
left_next o o' d u n same = stage_next o inside o'
    (n == 0) _ _ (stage_next o inside o' (u.parent == d.node) _ _ (same, refl, inl refl) (same, refl, inl refl)) (same, refl, inl refl)

deleting_next : (o o' : Own) (d : Node) (x : Option Successor) → said o' ≡ said o → Next o outside (go o' (deleting d x))
deleting_next o o' d None same = (same, refl, inl refl)
deleting_next o o' d (Some u) same = (same, refl, inl refl)

verdict_next : (o o' : Own) (t : Target) (f : Found) → said o' ≡ said o → Next o outside (go o' (verdict t f))
verdict_next o o' t f same = stage_next o outside o'
    (target_holds t f) _ _ (deleting_next o o' (record t.node { left = f.left; right = last_right t.node t.successor f }) t.successor same)
    (same, refl, inr (refl, refl))

pub target_next : (o o' : Own) (t : Target) (j : ℕ) (f : Found) → said o' ≡ said o → Next o outside (go o' (past_target_load t j f))
target_next o o' t j f same = by t.successor
  where
    by : (x : Option Successor) → Next o outside (go o' (elim x as (λ _. Stage) [
      | None ↦ cond (j == 4) (verdict t f) (at.TargetLoad t (j + 1) f)
      | Some u ↦ cond (j == 8) (verdict t f) (cond ((j == 4) && (u.parent == t.node.node)) (at.TargetLoad t 6 f)
          (at.TargetLoad t (j + 1) f))
    ]))
    by None = stage_next o outside o' (j == 4) _ _ (verdict_next o o' t f same) (same, refl, inl refl)
    by (Some u) = stage_next o outside o' (j == 8) _ _ (verdict_next o o' t f same)
        (stage_next o outside o' ((j == 4) && (u.parent == t.node.node)) _ _ (same, refl, inl refl) (same, refl, inl refl))

-- What the replies of a caller are explained by.

pub absent_explained : (room : Room) (op : Op) (m : Dictionary) → is_put op ≡ false → finite.get m (key_of op) ≡ None
    → Explains room m op Absent
absent_explained room (Put key value) m other none = absurd (cc)
absent_explained room _ m other none = ap is_some none

pub old_explained : (room : Room) (op : Op) (m : Dictionary) (value : ℕ) → is_put op ≡ true → finite.get m (key_of op) ≡ Some value
    → Explains room m op Old
old_explained room (Put key v) m value put is = ap is_some is
old_explained room _ m value put is = absurd (cc)

pub full_explained : (room : Room) (op : Op) (m : Dictionary) → is_put op ≡ true → room.slots ≤ finite.len m + 20 * (room.scripts - 1)
    → Explains room m op Full
full_explained room (Put key v) m put large = large
full_explained room _ m put large = absurd (cc)

pub put_is : (op : Op) → is_put op ≡ true → Put (key_of op) (value_in op) ≡ op
put_is (Put key value) e = refl
put_is _ e = absurd (cc)

pub del_is : (op : Op) → is_delete op ≡ true → Del (key_of op) ≡ op
del_is (Del key) e = refl
del_is _ e = absurd (cc)

pub set_is : (op : Op) → is_set op ≡ true → Set (key_of op) (value_in op) ≡ op
set_is (Set key value) e = refl
set_is _ e = absurd (cc)

pub new_confirms : (op : Op) (d : Dictionary) → is_put op ≡ true → Confirms d op New
new_confirms (Put key value) d e = tt
new_confirms _ d e = absurd (cc)

pub gone_confirms : (op : Op) (d : Dictionary) → is_delete op ≡ true → Confirms d op Gone
gone_confirms (Del key) d e = tt
gone_confirms _ d e = absurd (cc)

pub was_confirms : (op : Op) (d : Dictionary) (old : ℕ) → is_set op ≡ true → finite.get d (key_of op) ≡ Some old → Confirms d op (Was old)
was_confirms (Set key value) d old e is = is
was_confirms _ d old e is = absurd (cc)

-- a search's answer, at a front since its section was entered
pub said_explains : (room : Room) (c : Caller) (op : Op) (h marks : List Mark) (reply : Reply) (from : ℕ) (answers : Option ℕ)
    → updates_of marks ≡ [] → length (updates_of c.seen) ≤ from → WasSaid (updates_of h) (key_of op) from answers
    → ((m : Dictionary) → finite.get m (key_of op) ≡ answers → Explains room m op reply)
    → WasExplained (Explains room) c op (record { reply = reply; number = 0 }) marks h
said_explains room c op h marks reply from answers none late w explains = record {
  left = none;
  front = w.front;
  since = (let s = w.since in omega arith);
  until = w.made;
  explained = explains (map_at (updates_of h) w.front) w.answers;
}

-- Whole calls: tries of an update, Full exactly where no slot is left, and what a client is answered.
-- Tries of an update: a search, the lock, a walk under it, and the lock given up or the update made.
use Rattle.std.proofs.Common.{◌≡◌, ℕ, ◌+◌, ◌-◌, ◌%◌, ◌≤◌, ◌==◌, true, cond, arith, eq-eqb, List, [], ◌∷◌, ◌++◌, length, Option, Some, None, IfNone, IfSome, is_some, refl, sym, ap, subst, ◌∙◌, append_assoc, append-nil, ◌↔◌, false, MatchBool, inl, length-append}
use Rattle.std.specs.List.{AllByRecursion, slice_get}
use mathlib.Core.List.{IsPrefix}
use Rattle.prcu_marks.specs.declared.mark.Mark.{Mark}
use Rattle.prcu_marks.specs.declared.mark.Mark.TheVariants.{Entered, Left, Done, Unlinked}
use Rattle.prcu_model.specs.declared.operation.Op.{Op}
use Rattle.prcu_model.specs.declared.operation.Op.TheVariants.{Put, Set, Del, Get}
use Rattle.prcu_model.specs.declared.operation.Reply.TheVariants.{New, Old, Full, Gone, Was, Val, Absent}
use Rattle.hash_core.specs.declared.words.Field.TheVariants.{Lock, Free, Retired}
use Rattle.hash_core.specs.declared.words.Kind.TheVariants.{H7, H9}
use Rattle.hash_core.specs.declared.view.Hold.{Hold}
use Rattle.hash_core.specs.declared.view.StepMade.{StepMade}
use Rattle.hash_core.specs.declared.view.View.{View}
use Rattle.prcu_model.specs.Dictionary.{key_of, map_of, IsLegal, Dictionary, map_at, Confirms, tells_update}
use Rattle.prcu_marks.specs.Marks.{updates_of}
use Rattle.hash_core.specs.Laws.{HasPairs}
use Rattle.hash_core.specs.Memory.{capacity, is_slot_of, IsOfClass}
use Rattle.class_hash.specs.Answers.{IsFull, IsInformed}
use Rattle.hash_core.specs.Steps.{ShowsAbsent, IsQuiet, NeedsUnlock, fresh_hold, hold_of}
use Rattle.prcu_model.proofs.ListFacts.{all_append, prefix_self, prefix_trans, all_map}
use Rattle.class_hash.proofs.Walking.{adds_step, adds_both, lookup_plain, NoneOrLookup, begins_more, begins_on, begins_by, goes_by}
use Rattle.prcu_marks.specs.Callers.{entered_for, Caller, HasSeenItsOwn, IsLeftBy, WaitsFor, HasMadeUpdate, WasExplained, HasAnswered, IsChain}
use Rattle.prcu_marks.proofs.Marks.{entered_for-append, updates_of-append, updates_below}
use Rattle.class_hash.specs.Calls.{AddsNoLists, BeginsByLookup, Looked, HasLoaded, IsFoundAt, HasFinished, Unlocks, Lists, loads_free, LoadNoLists, LoadsBothEmpty}
use Rattle.class_hash.specs.Updates.{HasLocked, MayReplace, Replaced, link_after, MayUnlink, Removed, with_update, MayAdd, Linked, Added, LeavesFull}
use Rattle.class_hash.specs.Replies.{IsOfSection, HasTried, HasUpdated, HasWalked, told_added, PutsBy, Puts, SetsBy, DelsBy, told_of, Gets, ChainsMeetFronts, ClientAt, caller_of, Makes, HasCalled, ExplainsInClasses}
use Rattle.std.proofs.lemmas.List.{append_cancel_left, take_all, take_at}
use Rattle.prcu_model.specs.declared.operation.Reply.{Reply}
use Rattle.prcu_model.specs.declared.operation.Told.{Told}
use Rattle.prcu_model.specs.declared.operation.Update.{Update}
use Rattle.class_hash.specs.Seats.{TableAt}
use Rattle.prcu_model.specs.Fronts.{own_updates}
use Rattle.prcu_marks.proofs.Callers.{HasTold, chain_tells, told_meets}
use Rattle.hash_core.specs.declared.act.Act.TheVariants as act
use Rattle.std.specs.FinMap as finite

pub nothing_tried : (v : View) (key : ℕ) → HasTried v key v
nothing_tried v key = record { marks = []; plain = tt; own = sym (append-nil v.own); seen = prefix_self v.seen; view = refl }

pub still_quiet : (v w : View) (key : ℕ) → IsQuiet v → HasTried v key w → IsQuiet w
still_quiet v w key quiet t = (ap (λ (z : View). z.section) t.view ∙ quiet.0, ap (λ (z : View). z.hold) t.view ∙ quiet.1)

pub looked_quiet : (w x : View) (key : ℕ) (answer : Option ℕ) → IsQuiet w → Looked w key answer x → IsQuiet x
looked_quiet w x key answer quiet l = (ap (λ (z : View). z.section) l.view, ap (λ (z : View). z.hold) l.view ∙ quiet.1)

-- a bucket that was locked is held
pub locked_holds : {v w : View} {class : ℕ} → HasLocked v class w → w.hold ≡ Some (fresh_hold class)
locked_holds k = ap (λ (u : View). u.hold) k.view

-- from the search to the walk
module _ {v w x y z : View} {key class : ℕ} {answer : Option ℕ} {new : Hold} (quiet : IsQuiet v) (t : HasTried v key w)
    (l : Looked w key answer x) (k : HasLocked x class y)
    (n : HasLoaded y (fresh_hold class) z new) (no_turn : x.commit ≡ None) where
  marks : List Mark
  marks = Entered w.place w.sections key ∷ Left w.place w.sections ∷ []

  -- a view with the section of the search behind it
  abbrev after_section : View → View
  after_section u = record u {
    section = None;
    sections = w.sections + 1;
    own = (w.own ++ Entered w.place w.sections key ∷ []) ++ Left w.place w.sections ∷ [];
  }

  x_is : x ≡ record (after_section w) { trail = x.trail; seen = x.seen }
  x_is = l.view ∙ (λ j. record (after_section w) { trail = (sym l.view j).trail; seen = (sym l.view j).seen })

  -- after the walk: that of the start, but for the lock, what was seen and done
  abbrev walked : View
  walked = record (after_section v) { hold = Some new; trail = z.trail; seen = z.seen }

  z_is : z ≡ walked
  z_is = n.view ∙ (λ j. record (k.view j) { hold = Some new; trail = z.trail; seen = z.seen })
      ∙ (λ j. record (x_is j) { hold = Some new; trail = z.trail; seen = z.seen })
      ∙ (λ j. record (after_section (t.view j)) { hold = Some new; trail = z.trail; seen = z.seen })

  -- a view outside a section and without a lock is so as the first was
  as_quiet : (u : View) → ◌≡◌ {A = View} (record u { section = None; hold = None }) (record u { section = v.section; hold = v.hold })
  as_quiet u = λ i. record u { section = sym quiet.0 i; hold = sym quiet.1 i }

  same_place : w.place ≡ v.place
  same_place = ap (λ (u : View). u.place) t.view

  seen_x : IsPrefix w.seen x.seen
  seen_x = subst (IsPrefix w.seen) (sym (ap (λ (u : View). u.seen) l.view))
      (prefix_trans w.seen l.before _ l.since (prefix_trans l.before
      (l.before ++ Entered w.place w.sections key ∷ []) _ (Entered w.place w.sections key ∷ [], refl)
      (prefix_trans _ l.until _ l.within (Left w.place w.sections ∷ [], refl))))

  seen_z : IsPrefix v.seen z.seen
  seen_z = prefix_trans v.seen w.seen z.seen t.seen
      (prefix_trans w.seen x.seen z.seen seen_x (subst (λ s. IsPrefix s z.seen) (ap (λ (u : View). u.seen) k.view) n.seen))

  -- the lists weren't loaded
  trail_z : AddsNoLists v.trail w.trail → AddsNoLists v.trail z.trail
  trail_z before =
      let searched : AddsNoLists w.trail x.trail =
      record { steps = l.steps; plain = lookup_plain key l.steps l.made; trail = ap (λ (u : View). u.trail) l.view } in
      adds_both v.trail w.trail z.trail before (adds_both w.trail x.trail z.trail searched
      (adds_both x.trail y.trail z.trail k.trail n.trail))

  own_z : z.own ≡ v.own ++ (t.marks ++ Entered w.place w.sections key ∷ Left w.place w.sections ∷ [])
  own_z = ap (λ (u : View). u.own) z_is ∙ append_assoc w.own (Entered w.place w.sections key ∷ []) (Left w.place w.sections ∷ [])
      ∙ ap (λ o. o ++ Entered w.place w.sections key ∷ Left w.place w.sections ∷ []) t.own
      ∙ append_assoc v.own t.marks (Entered w.place w.sections key ∷ Left w.place w.sections ∷ [])

  plain_z : AllByRecursion (IsOfSection v.place key) (t.marks ++ Entered w.place w.sections key ∷ Left w.place w.sections ∷ [])
  plain_z = all_append (IsOfSection v.place key) t.marks (Entered w.place w.sections key ∷ Left w.place w.sections ∷ []) t.plain
      ((same_place, refl), (same_place, tt))

  searched_z : 1 ≤ entered_for v.place key (t.marks ++ Entered w.place w.sections key ∷ Left w.place w.sections ∷ [])
  searched_z =
      let split = entered_for-append v.place key t.marks (Entered w.place w.sections key ∷ Left w.place w.sections ∷ []) in
      let one : entered_for v.place key (Entered w.place w.sections key ∷ Left w.place w.sections ∷ []) ≡ 1 =
      ap (λ b. cond b (cond (key == key) 1 0) 0 + 0) (eq-eqb w.place v.place same_place) ∙ ap (λ b. cond b 1 0 + 0) (eq-eqb key key refl) in
      omega arith

  turn_z : z.commit ≡ None
  turn_z = ap (λ (u : View). u.commit) n.view ∙ ap (λ (u : View). u.commit) k.view ∙ no_turn

  needs_z : NeedsUnlock z new
  needs_z = record {
    hold_is = ap (λ (u : View). u.hold) n.view;
    taken = ap (λ (h : Hold). h.taken) n.only;
    unlinked = ap (λ (h : Hold). h.unlinked) n.only;
    moved = ap (λ (h : Hold). h.moved) n.only;
    even = turn_z;
  }

  pub has_finished : HasFinished z
  has_finished = (new, needs_z)

  pub may_replace : (capacities : List ℕ) (previous : Option ℕ) (slot : ℕ) → IsFoundAt key new previous slot
      → is_slot_of capacities class slot ≡ true → 1 ≤ v.tickets → MayReplace capacities z slot key
  may_replace capacities previous slot found of ticket = record {
    hold = new;
    finished = needs_z;
    on = found.on;
    key_is = found.key_is;
    slot_is = subst (λ (h : Hold). is_slot_of capacities h.class slot ≡ true) (sym n.only) of;
    ticket = subst (λ q. 1 ≤ q) (sym (ap (λ (u : View). u.tickets) z_is)) ticket;
  }

  pub tried_again : (u : View) → Unlocks z u → HasTried v key u
  tried_again u e =
      let F : View → View = goes_by act.Unlock [] 0 in
      let u_is : u ≡ F walked = e ∙ ap F z_is in
      let whole : u ≡ record (F walked) { section = v.section; hold = v.hold } = u_is ∙ as_quiet (F walked) in
      record {
        marks = t.marks ++ Entered w.place w.sections key ∷ Left w.place w.sections ∷ [];
        plain = plain_z;
        own = ap (λ (y : View). y.own) e ∙ own_z;
        seen = subst (IsPrefix v.seen) (sym (ap (λ (y : View). y.seen) e)) seen_z;
        view = whole ∙ sym (ap (λ (y : View). record v { sections = y.sections; own = y.own; trail = y.trail; seen = y.seen }) whole);
      }

  pub tried_on : AddsNoLists v.trail w.trail → (u : View) → Unlocks z u → AddsNoLists v.trail u.trail
  tried_on before u e = subst (λ (y : View). AddsNoLists v.trail y.trail) (sym e)
      (adds_step v.trail z.trail H7 (Lock (hold_of z).class) 0 refl (trail_z before))

  -- the update left the seat quiet
  pub replaced_quiet : {u : View} {value old number : ℕ} → Replaced z key value old number u → IsQuiet u
  replaced_quiet r = (ap (λ (y : View). y.section) r.view ∙ ap (λ (y : View). y.section) z_is, ap (λ (y : View). y.hold) r.view)

  pub removed_quiet : {u : View} {number : ℕ} → Removed z key number u → IsQuiet u
  removed_quiet r = (ap (λ (y : View). y.section) r.view ∙ ap (λ (y : View). y.section) z_is, ap (λ (y : View). y.hold) r.view)

  -- the update that was made after the walk is the one of the call
  updated_by : (op : Op) (before more : List Mark) (number : ℕ) (u : View) → key_of op ≡ key → IsPrefix z.seen before
      → IsLegal (updates_of u.seen) → number ≡ length (updates_of u.seen) → u ≡ with_update z op before more u.trail
      → HasUpdated v op before more number u
  updated_by op before more number u key_is since legal number_is view =
      let place : z.place ≡ v.place = ap (λ (y : View). y.place) z_is in
      let F : View → View = λ y. record y {
        tickets = y.tickets - 1;
        hold = None;
        own = z.own ++ Done (record { caller = z.place; op = op }) ∷ [];
        trail = u.trail;
        seen = before ++ Done (record { caller = z.place; op = op }) ∷ more;
      } in
      let u_is : u ≡ F walked = view ∙ ap F z_is in
      let whole : u ≡ record (F walked) { section = v.section; hold = v.hold } = u_is ∙ as_quiet (F walked) in record {
        marks = t.marks ++ Entered w.place w.sections key ∷ Left w.place w.sections ∷ [];
        plain = subst (λ x. AllByRecursion (IsOfSection v.place x)
            (t.marks ++ Entered w.place w.sections key ∷ Left w.place w.sections ∷ [])) (sym key_is) plain_z;
        searched = subst (λ x. 1 ≤ entered_for v.place x
            (t.marks ++ Entered w.place w.sections key ∷ Left w.place w.sections ∷ [])) (sym key_is) searched_z;
        own = ap (λ (y : View). y.own) view ∙ ap (λ o. o ++ Done (record { caller = z.place; op = op }) ∷ []) own_z
            ∙ ap (λ p. (v.own ++ (t.marks ++ Entered w.place w.sections key ∷ Left w.place w.sections ∷ []))
            ++ Done (record { caller = p; op = op }) ∷ []) place;
        since = prefix_trans v.seen z.seen before seen_z since;
        seen = ap (λ (y : View). y.seen) view ∙ ap (λ p. before ++ Done (record { caller = p; op = op }) ∷ more) place;
        legal = legal;
        number_is = number_is;
        view = whole ∙ sym (ap (λ (y : View). record v
            { tickets = v.tickets - 1; sections = y.sections; own = y.own; trail = y.trail; seen = y.seen }) whole);
      }

  pub updated_once : (u : View) (value old number : ℕ) → Replaced z key value old number u → SetsBy v key value (Was old) number u
  updated_once u value old number r = record {
    before = r.before;
    updated = updated_by (Set key value) r.before [] number u refl r.since r.legal r.number_is r.view;
    was = r.was;
  }

  pub may_unlink : (capacities : List ℕ) (previous : Option ℕ) (slot : ℕ) → IsFoundAt key new previous slot
      → is_slot_of capacities class slot ≡ true → IfSome previous (λ p. is_slot_of capacities class p ≡ true) → 1 ≤ v.tickets
      → MayUnlink capacities z previous slot key
  may_unlink capacities previous slot found of from ticket = record {
    hold = new;
    finished = needs_z;
    found = found;
    link = subst (λ (h : Hold). IsOfClass capacities h.class (link_after h.class previous)) (sym n.only) (by previous from);
    slot_is = subst (λ (h : Hold). is_slot_of capacities h.class slot ≡ true) (sym n.only) of;
    ticket = subst (λ q. 1 ≤ q) (sym (ap (λ (u : View). u.tickets) z_is)) ticket;
  }
    where
      by : (p : Option ℕ) → IfSome p (λ q. is_slot_of capacities class q ≡ true) → IsOfClass capacities class (link_after class p)
      by None f = refl
      by (Some q) f = f

  pub removed_once : (u : View) (number : ℕ) → Removed z key number u → DelsBy v key Gone number u
  removed_once u number r = record {
    before = r.before;
    slot = r.slot;
    updated = updated_by (Del key) r.before (Unlinked r.slot ∷ []) number u refl r.since r.legal r.number_is r.view;
  }

  pub may_add : key % 64 ≡ class → ShowsAbsent new key → 1 ≤ v.tickets → MayAdd z key
  may_add of absent ticket = record {
    hold = new;
    finished = needs_z;
    class = of ∙ sym (ap (λ (h : Hold). h.class) n.only);
    absent = absent;
    ticket = subst (λ q. 1 ≤ q) (sym (ap (λ (u : View). u.tickets) z_is)) ticket;
  }

  -- nothing but the lock, what was seen and done has changed
  walked_is : z ≡ record v { sections = z.sections; hold = Some new; own = z.own; trail = z.trail; seen = z.seen }
  walked_is =
      let whole : z ≡ record walked { section = v.section } = z_is ∙ ap (λ q. record walked { section = q }) (sym quiet.0) in
      whole ∙ sym (ap (λ (y : View). record v {
        sections = y.sections;
        hold = Some new;
        own = y.own;
        trail = y.trail;
        seen = y.seen;
      }) whole)

  has_walked : AddsNoLists v.trail w.trail → key % 64 ≡ class → ShowsAbsent new key → HasWalked v key z
  has_walked before of absent = record {
    hold = new;
    class = ap (λ (h : Hold). h.class) n.only ∙ sym of;
    absent = absent;
    trail = trail_z before;
    seen = seen_z;
    view = walked_is;
  }

  pub added_once : (capacities : List ℕ) (u : View) (value number : ℕ) → AddsNoLists v.trail w.trail → key % 64 ≡ class
      → ShowsAbsent new key → Added capacities z key value number u → PutsBy capacities v key value New number u
  added_once capacities u value number before of absent a =
      let r : Linked z key value number u = a.linked in record {
        before = r.before;
        slot = a.slot;
        updated = updated_by (Put key value) r.before [] number u refl r.since r.legal r.number_is r.view;
        given = record {
          before = a.given.before;
          since = prefix_trans v.seen z.seen a.given.before seen_z a.given.since;
          until = a.given.until;
        };
        locked = z;
        walked = has_walked before of absent;
        room = a.room;
      }

  pub full_once : (capacities : List ℕ) (u : View) (value : ℕ) → AddsNoLists v.trail w.trail → key % 64 ≡ class → ShowsAbsent new key
      → LeavesFull capacities z u → PutsBy capacities v key value Full 0 u
  full_once capacities u value before of absent left =
      let l : Lists capacities z 0 0 left.listed = left.lists in
      let e : Unlocks left.listed u = left.unlocks in
      let F : View → View = λ q. record q { hold = None; trail = u.trail; seen = left.listed.seen } in
      let first : u ≡ record left.listed { hold = None; trail = u.trail } =
      e ∙ sym (ap (λ (q : View). record left.listed { hold = None; trail = q.trail }) e) in
      let u_is : u ≡ F walked = first ∙ ap F l.rest ∙ ap F z_is in
      let whole : u ≡ record (F walked) { section = v.section; hold = v.hold } = u_is ∙ as_quiet (F walked) in
      let same : l.hold ≡ new = (let q : Some l.hold ≡ Some new = sym l.is ∙ ap (λ (q : View). q.hold) n.view in cc) in
      let class_new : new.class ≡ key % 64 = ap (λ (h : Hold). h.class) n.only ∙ sym of in
      let full : IsFull capacities new u.seen = subst (λ s. IsFull capacities new s) (sym (ap (λ (q : View). q.seen) first))
      (subst (λ (k : Hold). IsFull capacities k left.listed.seen) same (l.full refl refl)) in
      let own_u : u.own ≡ z.own = ap (λ (q : View). q.own) first ∙ ap (λ (q : View). q.own) l.rest in record {
        tried = record {
          marks = t.marks ++ Entered w.place w.sections key ∷ Left w.place w.sections ∷ [];
          plain = plain_z;
          own = own_u ∙ own_z;
          seen = subst (IsPrefix v.seen) (sym (ap (λ (q : View). q.seen) first))
              (prefix_trans v.seen z.seen left.listed.seen seen_z l.seen);
          view = whole ∙ sym (ap (λ (q : View). record v { sections = q.sections; own = q.own; trail = q.trail; seen = q.seen }) whole);
        };
        searched = searched_z;
        locked = z;
        walked = has_walked before of absent;
        leaves = left;
        room = record {
          absent = full.absent key (sym class_new) absent;
          pairs = subst (λ d. HasPairs d (map_of (updates_of u.seen)) (capacity capacities d)) class_new full.pairs;
        };
        none = refl;
      }

  pub put_once : (capacities : List ℕ) (u : View) (value : ℕ) (answer : Option ℕ) → AddsNoLists v.trail w.trail → key % 64 ≡ class
      → ShowsAbsent new key → IfNone answer (LeavesFull capacities z u)
      → IfSome answer (λ number. Added capacities z key value number u) → Puts capacities v key value (told_added answer) u
  put_once capacities u value None before of absent left added = full_once capacities u value before of absent left
  put_once capacities u value (Some number) before of absent left added = added_once capacities u value number before of absent added

-- a search that found the key
pub found_once : (capacities : List ℕ) (v w x : View) (key value : ℕ) (answer : Option ℕ) → is_some answer ≡ true → HasTried v key w
    → AddsNoLists v.trail w.trail → Looked w key answer x → PutsBy capacities v key value Old 0 x
found_once capacities v w x key value None is t before l = absurd (cc)
found_once capacities v w x key value (Some old) is t before l = record {
  before = w;
  tried = t;
  old = old;
  looked = l;
  none = refl;
  trail = adds_both v.trail w.trail x.trail before
      (record { steps = l.steps; plain = lookup_plain key l.steps l.made; trail = ap (λ (u : View). u.trail) l.view });
}

-- two steps more
listed_once : (a b : List StepMade) (s t : StepMade) → b ≡ (a ++ s ∷ []) ++ t ∷ [] → b ≡ a ++ s ∷ t ∷ []
listed_once a b s t e = e ∙ append_assoc a (s ∷ []) (t ∷ [])

-- The first steps of an update are those of a lookup: after a search, after the walk behind it, and after the lock was given up or the
-- update made.
module _ {start : List StepMade} {w x : View} {key : ℕ} {answer : Option ℕ} (tried : NoneOrLookup key start w.trail)
    (l : Looked w key answer x) where
  pub searched_first : BeginsByLookup key start x.trail
  searched_first = begins_by tried l.made (ap (λ (u : View). u.trail) l.view)

  module _ {y z : View} {class : ℕ} {hold new : Hold} (k : HasLocked x class y) (n : HasLoaded y hold z new) where
    pub walked_first : BeginsByLookup key start z.trail
    walked_first = begins_on (begins_on searched_first k.trail) n.trail

    pub given_up_first : {u : View} → Unlocks z u → BeginsByLookup key start u.trail
    given_up_first {u} e = begins_more walked_first (record { kind = H7; field = Lock (hold_of z).class; number = 0 } ∷ [])
        (ap (λ (q : View). q.trail) e)

    pub added_first : (capacities : List ℕ) (u : View) (value : ℕ) (added : Option ℕ) → IfNone added (LeavesFull capacities z u)
        → IfSome added (λ number. Added capacities z key value number u) → BeginsByLookup key start u.trail
    added_first capacities u value None left made =
        begins_more (begins_more walked_first _ (listed_once _ _ _ _ left.lists.trail))
        (record { kind = H7; field = Lock (hold_of left.listed).class; number = 0 } ∷ []) (ap (λ (q : View). q.trail) left.unlocks)
    added_first capacities u value (Some number) left made =
        begins_on (begins_more walked_first _ (listed_once _ _ _ _ made.room.lists.trail)) made.room.trail

-- A put is told Full exactly where both lists were loaded as 0.

none_within : (xs : List StepMade) (s : StepMade) (ys : List StepMade) → LoadNoLists (xs ++ s ∷ ys) → loads_free s.kind s.field ≡ false
none_within [] s ys plain = plain.0
none_within (x ∷ xs) s ys plain = none_within xs s ys plain.1

no_load : (steps xs : List StepMade) (s : StepMade) (ys : List StepMade) → LoadNoLists steps → loads_free s.kind s.field ≡ true
    → steps ≡ xs ++ s ∷ ys → ⊥
no_load steps xs s ys plain loads e = let none = none_within xs s ys (subst LoadNoLists e plain) in absurd (cc)

-- steps of which one loads the lists can be cut there in one way
cut_once : (xs : List StepMade) (s : StepMade) (ys xs' : List StepMade) (s' : StepMade) (ys' : List StepMade) → LoadNoLists xs
    → LoadNoLists ys → loads_free s'.kind s'.field ≡ true → xs ++ s ∷ ys ≡ xs' ++ s' ∷ ys' → (s ≡ s') × (ys ≡ ys')
cut_once [] s ys [] s' ys' before after loads e = (cc, cc)
cut_once [] s ys (x' ∷ xs') s' ys' before after loads e = absurd (no_load ys xs' s' ys' after loads cc)
cut_once (x ∷ xs) s ys [] s' ys' before after loads e = let same : x ≡ s' = cc in
    let none : loads_free s'.kind s'.field ≡ false = subst (λ (z : StepMade). loads_free z.kind z.field ≡ false) same before.0 in
    absurd (cc)
cut_once (x ∷ xs) s ys (x' ∷ xs') s' ys' before after loads e = cut_once xs s ys xs' s' ys' before.1 after loads cc

abbrev loaded : ℕ → ℕ → StepMade
loaded class free = record { kind = H9; field = Free class; number = free }

abbrev loaded_next : ℕ → ℕ → StepMade
loaded_next class retired = record { kind = H9; field = Retired class; number = retired }

-- the steps of a call that loads the lists once
once : (v u x w before after : List StepMade) (a b : StepMade) → u ≡ v ++ before → x ≡ (u ++ a ∷ []) ++ b ∷ [] → w ≡ x ++ after
    → w ≡ v ++ (before ++ a ∷ b ∷ after)
once v u x w before after a b first second third =
    third ∙ ap (λ t. t ++ after) second ∙ ap (λ t. ((t ++ a ∷ []) ++ b ∷ []) ++ after) first ∙ append_assoc ((v ++ before) ++ a ∷ []) (b ∷ []) after
    ∙ append_assoc (v ++ before) (a ∷ []) (b ∷ after) ∙ append_assoc v before (a ∷ b ∷ after)

module _ (capacities : List ℕ) (v w : View) (key value : ℕ) where
  exactly : (reply : Reply) (number : ℕ) → PutsBy capacities v key value reply number w
      → (reply ≡ Full) ↔ LoadsBothEmpty (key % 64) v.trail w.trail
  exactly Old number p = (
    λ e. absurd (cc),
    λ both.
        let on = p.trail in
        absurd (no_load on.steps both.earlier (loaded (key % 64) 0) (loaded_next (key % 64) 0 ∷ both.later) on.plain refl
        (append_cancel_left v.trail on.steps _ (sym on.trail ∙ both.trail))),
  )
  exactly New number p = (λ e. absurd (cc), λ both. absurd (not_both both))
    where
      not_both : LoadsBothEmpty (key % 64) v.trail w.trail → ⊥
      not_both both =
          let u : View = p.locked in
          let walked = p.walked in
          let room = p.room in
          let l = room.lists in
          let a : StepMade = loaded l.hold.class room.free in
          let b : StepMade = loaded_next l.hold.class room.retired in
          let whole = once v.trail u.trail room.listed.trail w.trail walked.trail.steps room.trail.steps (loaded l.hold.class room.free)
          (loaded_next l.hold.class room.retired) walked.trail.trail l.trail room.trail.trail in
          let cut = cut_once walked.trail.steps (loaded l.hold.class room.free)
          (loaded_next l.hold.class room.retired ∷ room.trail.steps) both.earlier (loaded (key % 64) 0)
          (loaded_next (key % 64) 0 ∷ both.later) walked.trail.plain (refl, room.trail.plain) refl
          (append_cancel_left v.trail _ _ (sym whole ∙ both.trail)) in
          let next : loaded_next l.hold.class room.retired ≡ loaded_next (key % 64) 0 = (let e = cut.1 in cc) in
          room.some (ap (λ (s : StepMade). s.number) cut.0) (ap (λ (s : StepMade). s.number) next)
  exactly Full number p = (λ e. both, λ b. refl)
    where
      both : LoadsBothEmpty (key % 64) v.trail w.trail
      both =
          let u : View = p.locked in
          let walked = p.walked in
          let x : View = p.leaves.listed in
          let l : Lists capacities p.locked 0 0 p.leaves.listed = p.leaves.lists in
          let e = p.leaves.unlocks in
          let same : l.hold ≡ walked.hold = (let q : Some l.hold ≡ Some walked.hold = sym l.is ∙ ap (λ (z : View). z.hold) walked.view in
          cc) in
          let class : l.hold.class ≡ key % 64 = ap (λ (k : Hold). k.class) same ∙ walked.class in
          record {
            earlier = walked.trail.steps;
            later = record { kind = H7; field = Lock (hold_of p.leaves.listed).class; number = 0 } ∷ [];
            trail = subst (λ c. w.trail ≡ v.trail ++ (walked.trail.steps
                ++ loaded c 0 ∷ loaded_next c 0 ∷ record { kind = H7; field = Lock (hold_of p.leaves.listed).class; number = 0 }
                ∷ [])) class
                (once v.trail u.trail x.trail w.trail walked.trail.steps
                (record { kind = H7; field = Lock (hold_of p.leaves.listed).class; number = 0 } ∷ []) (loaded l.hold.class 0)
                (loaded_next l.hold.class 0) walked.trail.trail l.trail (ap (λ (z : View). z.trail) e));
          }
  exactly _ number p = absurd p

  pub full_exactly : (told : Told) → Puts capacities v key value told w → (told.reply ≡ Full) ↔ LoadsBothEmpty (key % 64) v.trail w.trail
  full_exactly told p = exactly told.reply told.number p

-- A call of a client answers as its marks say.

-- ---- marks of sections

section_left : (place key : ℕ) (m : Mark) → IsOfSection place key m → IsLeftBy place key m
section_left place key (Entered p c x) is = is
section_left place key (Left p c) is = is
section_left place key _ is = absurd is

section_waits : (us : List Update) (place key : ℕ) (m : Mark) → IsOfSection place key m → WaitsFor us m
section_waits us place key (Entered p c x) is = tt
section_waits us place key (Left p c) is = tt
section_waits us place key _ is = absurd is

no_updates : (place key : ℕ) (ms : List Mark) → AllByRecursion (IsOfSection place key) ms → updates_of ms ≡ []
no_updates place key [] all = refl
no_updates place key (Entered p c x ∷ ms) all = no_updates place key ms all.1
no_updates place key (Left p c ∷ ms) all = no_updates place key ms all.1
no_updates place key (_ ∷ ms) all = absurd all.0

module _ (explains : Dictionary → Op → Reply → Type 0) (v w : View) (op : Op) (told : Told)
    (met : HasSeenItsOwn (record { place = w.place; own = w.own; seen = w.seen })) where
  abbrev before : Caller
  before = record { place = v.place; own = v.own; seen = v.seen }

  abbrev after : Caller
  after = record { place = w.place; own = w.own; seen = w.seen }

  -- a call that made no update
  unchanged : (marks : List Mark) → w.place ≡ v.place → w.own ≡ v.own ++ marks → AllByRecursion (IsOfSection v.place (key_of op)) marks
      → 1 ≤ entered_for v.place (key_of op) marks → IsPrefix v.seen w.seen
      → tells_update told.reply ≡ false → (front : ℕ) → length (updates_of v.seen) ≤ front → front ≤ length (updates_of w.seen)
      → explains (map_at (updates_of w.seen) front) op told.reply
      → HasAnswered explains (record { place = v.place; own = v.own; seen = v.seen }) op told
      (record { place = w.place; own = w.own; seen = w.seen })
  unchanged marks place own plain entered since tells front low high explained = record {
    place = place;
    marks = marks;
    own = own;
    keyed = all_map (IsOfSection v.place (key_of op)) (IsLeftBy v.place (key_of op)) marks (section_left v.place (key_of op)) plain;
    entered = entered;
    waits = all_map (IsOfSection v.place (key_of op)) (WaitsFor (updates_of w.seen)) marks
        (section_waits (updates_of w.seen) v.place (key_of op)) plain;
    since = since;
    met = met;
    reply = subst (λ b. MatchBool b (HasMadeUpdate before op told marks w.seen) (WasExplained explains before op told marks w.seen))
        (sym tells)
        (record { left = no_updates v.place (key_of op) marks plain; front = front; since = low; until = high; explained = explained });
  }

  -- a search that was the call's last, after others
  looked : (u : View) (answer : Option ℕ) → HasTried v (key_of op) u → Looked u (key_of op) answer w → tells_update told.reply ≡ false
      → ((m : Dictionary) → finite.get m (key_of op) ≡ answer → explains m op told.reply)
      → HasAnswered explains (record { place = v.place; own = v.own; seen = v.seen }) op told
      (record { place = w.place; own = w.own; seen = w.seen })
  looked u answer t l tells explained =
      let key : ℕ = key_of op in
      let place : u.place ≡ v.place = ap (λ (z : View). z.place) t.view in
      let last : List Mark = Entered u.place u.sections (key_of op) ∷ Left u.place u.sections ∷ [] in
      let marks : List Mark = t.marks ++ Entered u.place u.sections (key_of op) ∷ Left u.place u.sections ∷ [] in
      let own : w.own ≡ v.own ++ (t.marks ++ Entered u.place u.sections (key_of op) ∷ Left u.place u.sections ∷ []) =
      ap (λ (z : View). z.own) l.view ∙ append_assoc u.own (Entered u.place u.sections (key_of op) ∷ []) (Left u.place u.sections ∷ [])
      ∙ ap (λ o. o ++ Entered u.place u.sections (key_of op) ∷ Left u.place u.sections ∷ []) t.own
      ∙ append_assoc v.own t.marks (Entered u.place u.sections (key_of op) ∷ Left u.place u.sections ∷ []) in
      let split = entered_for-append v.place (key_of op) t.marks (Entered u.place u.sections (key_of op) ∷ Left u.place u.sections ∷ []) in
      let one : entered_for v.place (key_of op) (Entered u.place u.sections (key_of op) ∷ Left u.place u.sections ∷ []) ≡ 1 =
      ap (λ b. cond b (cond (key_of op == key_of op) 1 0) 0 + 0) (eq-eqb u.place v.place place)
      ∙ ap (λ b. cond b 1 0 + 0) (eq-eqb (key_of op) (key_of op) refl) in
      let to_before : IsPrefix v.seen l.before = prefix_trans v.seen u.seen l.before t.seen l.since in
      let to_end : IsPrefix l.before w.seen = subst (IsPrefix l.before) (sym (ap (λ (z : View). z.seen) l.view))
      (prefix_trans l.before (l.before ++ Entered u.place u.sections (key_of op) ∷ []) _ (
        Entered u.place u.sections (key_of op) ∷ [],
        refl,
      ) (prefix_trans _ l.until _ l.within (Left u.place u.sections ∷ [], refl))) in
      let low = updates_below v.seen l.before to_before in
      let since = l.said.since in
      unchanged (t.marks ++ Entered u.place u.sections (key_of op) ∷ Left u.place u.sections ∷ [])
      (ap (λ (z : View). z.place) l.view ∙ place) own
      (all_append (IsOfSection v.place (key_of op)) t.marks (Entered u.place u.sections (key_of op) ∷ Left u.place u.sections ∷ []) t.plain
      ((place, refl), (place, tt))) (omega arith) (prefix_trans v.seen l.before w.seen to_before to_end) tells
      l.said.front (omega arith) l.said.made (explained (map_at (updates_of w.seen) l.said.front) l.said.answers)

  -- a call that made its update
  updated : (h more : List Mark) → updates_of more ≡ [] → HasUpdated v op h more told.number w → tells_update told.reply ≡ true
      → Confirms (map_of (updates_of h)) op told.reply
      → HasAnswered explains (record { place = v.place; own = v.own; seen = v.seen }) op told
      (record { place = w.place; own = w.own; seen = w.seen })
  updated h more none u tells confirms =
      let mark : Mark = Done (record { caller = v.place; op = op }) in
      let us_is : updates_of w.seen ≡ updates_of h ++ record { caller = v.place; op = op } ∷ [] =
      ap updates_of u.seen ∙ updates_of-append h (Done (record { caller = v.place; op = op }) ∷ more)
      ∙ ap (λ z. updates_of h ++ record { caller = v.place; op = op } ∷ z) none in
      let long : length (updates_of w.seen) ≡ length (updates_of h) + 1 =
      ap length us_is ∙ length-append (updates_of h) (record { caller = v.place; op = op } ∷ []) in
      let number = u.number_is in
      let below = updates_below v.seen h u.since in
      let place_of : told.number - 1 ≡ length (updates_of h) = omega arith in
      record {
        place = ap (λ (z : View). z.place) u.view;
        marks = u.marks ++ Done (record { caller = v.place; op = op }) ∷ [];
        own = u.own ∙ append_assoc v.own u.marks (Done (record { caller = v.place; op = op }) ∷ []);
        keyed = all_append (IsLeftBy v.place (key_of op)) u.marks (Done (record { caller = v.place; op = op }) ∷ [])
            (all_map (IsOfSection v.place (key_of op)) (IsLeftBy v.place (key_of op)) u.marks (section_left v.place (key_of op)) u.plain)
            (refl, tt);
        entered = (let split = entered_for-append v.place (key_of op) u.marks (Done (record { caller = v.place; op = op }) ∷ []) in
            let some_search = u.searched in omega arith);
        waits = all_append (WaitsFor (updates_of w.seen)) u.marks (Done (record { caller = v.place; op = op }) ∷ [])
            (all_map (IsOfSection v.place (key_of op)) (WaitsFor (updates_of w.seen)) u.marks
            (section_waits (updates_of w.seen) v.place (key_of op)) u.plain) (tt, tt);
        since = subst (IsPrefix v.seen) (sym u.seen)
            (prefix_trans v.seen h _ u.since (Done (record { caller = v.place; op = op }) ∷ more, refl));
        met = met;
        reply = subst (λ b. MatchBool b (HasMadeUpdate before op told (u.marks ++ Done (record { caller = v.place; op = op }) ∷ []) w.seen)
            (WasExplained explains before op told (u.marks ++ Done (record { caller = v.place; op = op }) ∷ []) w.seen)) (sym tells)
            (record {
              left = updates_of-append u.marks (Done (record { caller = v.place; op = op }) ∷ [])
                  ∙ ap (λ z. z ++ record { caller = v.place; op = op } ∷ []) (no_updates v.place (key_of op) u.marks u.plain);
              later = omega arith;
              stands = subst (λ (z : List Update × ℕ). slice_get z.0 z.1 ≡ Some (record { caller = v.place; op = op }))
                  (λ i. (sym us_is i, sym place_of i)) (at_end (updates_of h) (record { caller = v.place; op = op }));
              confirms = subst (λ d. Confirms d op told.reply)
                  (sym (ap (λ (z : List Update × ℕ). map_at z.0 z.1) (λ i. (us_is i, place_of i))
                  ∙ ap map_of (take_at (updates_of h) (record { caller = v.place; op = op } ∷ []) (length (updates_of h)) refl))) confirms;
            });
      }
    where
      at_end : (us : List Update) (x : Update) → slice_get (us ++ x ∷ []) (length us) ≡ Some x
      at_end [] x = refl
      at_end (y ∷ us) x = at_end us x

absent : (capacities : List ℕ) (m : Dictionary) (key : ℕ) → finite.get m key ≡ None → finite.contains_key m key ≡ false
absent capacities m key none = ap is_some none

-- each call answers as its marks say
module _ (capacities : List ℕ) (v w : View) (places : ℕ) (informed : IsInformed capacities places w) where
  met_here : HasSeenItsOwn (record { place = w.place; own = w.own; seen = w.seen })
  met_here = informed.met w.place (inl (omega arith, (let works = informed.works in omega arith)))

  got : (key : ℕ) (told : Told) → Gets v key told w
      → HasAnswered (ExplainsInClasses capacities) (record { place = v.place; own = v.own; seen = v.seen }) (Get key) told
      (record { place = w.place; own = w.own; seen = w.seen })
  got key told g = subst (λ t. HasAnswered (ExplainsInClasses capacities) (record { place = v.place; own = v.own; seen = v.seen })
      (Get key) t (record { place = w.place; own = w.own; seen = w.seen })) (sym g.1) (by g.0 g.2)
    where
      by : (answer : Option ℕ) → Looked v key answer w
          → HasAnswered (ExplainsInClasses capacities) (record { place = v.place; own = v.own; seen = v.seen }) (Get key) (told_of answer)
          (record { place = w.place; own = w.own; seen = w.seen })
      by None l = looked (ExplainsInClasses capacities) v w (Get key) (record { reply = Absent; number = 0 }) met_here v None
          (nothing_tried v key) l refl (λ m none. absent capacities m key none)
      by (Some value) l = looked (ExplainsInClasses capacities) v w (Get key) (record { reply = Val value; number = 0 }) met_here v
          (Some value) (nothing_tried v key) l refl (λ m is. is)

  was_put : (key value : ℕ) (reply : Reply) (number : ℕ) → PutsBy capacities v key value reply number w
      → HasAnswered (ExplainsInClasses capacities) (record { place = v.place; own = v.own; seen = v.seen }) (Put key value)
      (record { reply = reply; number = number }) (record { place = w.place; own = w.own; seen = w.seen })
  was_put key value Old number p = looked (ExplainsInClasses capacities) v w (Put key value)
      (record { reply = Old; number = number }) met_here p.before (Some p.old) p.tried p.looked refl (λ m is. ap is_some is)
  was_put key value New number p = updated (ExplainsInClasses capacities) v w (Put key value)
      (record { reply = New; number = number }) met_here p.before [] refl p.updated refl tt
  was_put key value Full number p =
      let t = p.tried in
      let us : List Update = updates_of w.seen in
      let now : map_at (updates_of w.seen) (length (updates_of w.seen)) ≡ map_of (updates_of w.seen) =
      ap map_of (take_all (length (updates_of w.seen)) (updates_of w.seen) (omega arith)) in
      unchanged (ExplainsInClasses capacities) v w (Put key value) (record { reply = Full; number = number }) met_here t.marks
      (ap (λ (z : View). z.place) t.view) t.own t.plain p.searched t.seen refl (length (updates_of w.seen))
      (updates_below v.seen w.seen t.seen) (omega arith)
      (subst (λ d. ExplainsInClasses capacities d (Put key value) Full) (sym now) (p.room.absent, p.room.pairs))
  was_put key value _ number p = absurd p

  was_set : (key value : ℕ) (reply : Reply) (number : ℕ) → SetsBy v key value reply number w
      → HasAnswered (ExplainsInClasses capacities) (record { place = v.place; own = v.own; seen = v.seen }) (Set key value)
      (record { reply = reply; number = number }) (record { place = w.place; own = w.own; seen = w.seen })
  was_set key value Absent number p = looked (ExplainsInClasses capacities) v w (Set key value)
      (record { reply = Absent; number = number }) met_here p.before None p.tried p.looked refl (λ m none. absent capacities m key none)
  was_set key value (Was old) number p = updated (ExplainsInClasses capacities) v w (Set key value)
      (record { reply = Was old; number = number }) met_here p.before [] refl p.updated refl p.was
  was_set key value _ number p = absurd p

  was_deleted : (key : ℕ) (reply : Reply) (number : ℕ) → DelsBy v key reply number w
      → HasAnswered (ExplainsInClasses capacities) (record { place = v.place; own = v.own; seen = v.seen }) (Del key)
      (record { reply = reply; number = number }) (record { place = w.place; own = w.own; seen = w.seen })
  was_deleted key Absent number p = looked (ExplainsInClasses capacities) v w (Del key)
      (record { reply = Absent; number = number }) met_here p.before None p.tried p.looked refl (λ m none. absent capacities m key none)
  was_deleted key Gone number p = updated (ExplainsInClasses capacities) v w (Del key)
      (record { reply = Gone; number = number }) met_here p.before (Unlinked p.slot ∷ []) refl p.updated refl tt
  was_deleted key _ number p = absurd p

  pub made_answers : (op : Op) (told : Told) → Makes capacities v op told w
      → HasAnswered (ExplainsInClasses capacities) (record { place = v.place; own = v.own; seen = v.seen }) op told
      (record { place = w.place; own = w.own; seen = w.seen })
  made_answers (Put key value) told p = was_put key value told.reply told.number p
  made_answers (Get key) told p = got key told p
  made_answers (Del key) told p = was_deleted key told.reply told.number p
  made_answers (Set key value) told p = was_set key value told.reply told.number p

-- a chain of calls, from a client whose place had made no update
pub chain_has_told : (capacities : List ℕ) (ops : List Op) (tolds : List Told) (before after : ClientAt)
    → before.table.capacities ≡ capacities → HasSeenItsOwn (caller_of before)
    → own_updates before.view.place (updates_of before.view.seen) ≡ []
    → IsChain HasCalled before ops tolds after → HasTold (ExplainsInClasses capacities) (caller_of before) ops tolds (caller_of after)
chain_has_told capacities ops tolds before after same met none chain =
    let made : ClientAt → Op → Told → ClientAt → Type 0 = λ c op told d. HasCalled c op told d × (c.table.capacities ≡ capacities) in
    chain_tells made caller_of (ExplainsInClasses capacities)
    (λ c op told d call. subst (λ cs. HasAnswered (ExplainsInClasses cs) (caller_of c) op told (caller_of d)) call.1
    (made_answers c.table.capacities c.view d.view c.table.places call.0.informed op told call.0.makes))
    ops tolds before after met none (with_capacities ops tolds before same chain)
  where
    with_capacities : (os : List Op) (ts : List Told) (c : ClientAt) → c.table.capacities ≡ capacities → IsChain HasCalled c os ts after
        → IsChain (λ (x : ClientAt) (op : Op) (told : Told) (y : ClientAt). HasCalled x op told y
        × (x.table.capacities ≡ capacities)) c os ts after
    with_capacities [] [] c is done = done
    with_capacities (o ∷ os) (t ∷ ts) c is done =
        (done.0, (done.1, is), with_capacities os ts done.0 (ap (λ (z : TableAt). z.capacities) done.1.table ∙ is) done.2)
    with_capacities _ _ c is done = absurd done

pub chains_meet : ChainsMeetFronts
chains_meet ops tolds before after informed none chain =
    told_meets (ExplainsInClasses before.table.capacities) (caller_of before) ops tolds (caller_of after)
    (chain_has_told before.table.capacities ops tolds before after refl
    (informed.met before.view.place (inl (omega arith, (let works = informed.works in omega arith)))) none chain)

-- a search after others leaves the seat at its places
looked_stays : (v u w : View) (key : ℕ) (answer : Option ℕ) → HasTried v key u → Looked u key answer w
    → (w.place ≡ v.place) × (w.places ≡ v.places)
looked_stays v u w key answer tried looked = (
  ap (λ (z : View). z.place) looked.view ∙ ap (λ (z : View). z.place) tried.view,
  ap (λ (z : View). z.places) looked.view ∙ ap (λ (z : View). z.places) tried.view,
)

-- so does a call
pub calls_stay : (capacities : List ℕ) (v w : View) (op : Op) (told : Told) → Makes capacities v op told w
    → (w.place ≡ v.place) × (w.places ≡ v.places)
calls_stay capacities v w (Get key) told g = (ap (λ (z : View). z.place) g.2.view, ap (λ (z : View). z.places) g.2.view)
calls_stay capacities v w (Put key value) told p = by told.reply told.number p
  where
    by : (reply : Reply) (number : ℕ) → PutsBy capacities v key value reply number w → (w.place ≡ v.place) × (w.places ≡ v.places)
    by Old number q = looked_stays v q.before w key (Some q.old) q.tried q.looked
    by New number q = (ap (λ (z : View). z.place) q.updated.view, ap (λ (z : View). z.places) q.updated.view)
    by Full number q = (ap (λ (z : View). z.place) q.tried.view, ap (λ (z : View). z.places) q.tried.view)
    by _ number q = absurd q
calls_stay capacities v w (Set key value) told p = by told.reply told.number p
  where
    by : (reply : Reply) (number : ℕ) → SetsBy v key value reply number w → (w.place ≡ v.place) × (w.places ≡ v.places)
    by Absent number q = looked_stays v q.before w key None q.tried q.looked
    by (Was old) number q = (ap (λ (z : View). z.place) q.updated.view, ap (λ (z : View). z.places) q.updated.view)
    by _ number q = absurd q
calls_stay capacities v w (Del key) told p = by told.reply told.number p
  where
    by : (reply : Reply) (number : ℕ) → DelsBy v key reply number w → (w.place ≡ v.place) × (w.places ≡ v.places)
    by Absent number q = looked_stays v q.before w key None q.tried q.looked
    by Gone number q = (ap (λ (z : View). z.place) q.updated.view, ap (λ (z : View). z.places) q.updated.view)
    by _ number q = absurd q

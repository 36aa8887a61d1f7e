-- What all points rest on: what one more load or store leaves known, where a caller's next operation begins, and loads of a section that
-- has found its key.
use Rattle.std.proofs.Common.{◌+◌, ◌≤◌, sym, subst, arith, ◌≡◌, ℕ, ◌==◌, cond, Bool, true, false, List, [], ◌∷◌, map, Option, Some, None, refl, ap, ◌∙◌, eq-eqb, ne_eqb, zero, suc, ◌*◌, ◌^◌, ◌<◌, nat_le, ◌++◌, length, ◌-◌, ◌&&◌, not, ◌/◌}
use mathlib.Core.Logic.{dite}
use native.Mathlib.Decide.{ℕ_discrete, dec_le}
use Rattle.prcu_marks.specs.declared.mark.Side.TheVariants.{Left, Right}
use Rattle.core_state.specs.declared.words.Field.{Field}
use Rattle.core_state.specs.declared.words.Field.TheVariants.{Life, Key, Value, Link}
use Rattle.core_state.specs.declared.view.Held.{Held}
use Rattle.core_state.specs.declared.view.HeldLock.{HeldLock}
use Rattle.core_state.specs.declared.view.Known.{Known}
use Rattle.core_state.specs.declared.view.Move.{Move}
use Rattle.core_state.specs.declared.view.Section.{Section}
use Rattle.core_state.specs.declared.view.Reading.{Reading}
use Rattle.core_state.specs.declared.view.SearchState.{SearchState}
use Rattle.core_state.specs.Parts.{state_slot}
use Rattle.prcu_marks.specs.declared.commit.Commit.{Commit}
use Rattle.core_state.specs.declared.view.Retired.{Retired}
use Rattle.core_state.specs.declared.view.View.{View}
use Rattle.core_state.specs.Views.{known_in, LoadedGeneration, lock_of, change_lock, note_lock, note_held, note_option, note_moving, noting}
use Rattle.core_state.specs.Steps.{leaving, new_lock, spare_slot, loaded, searched, walked, walking, after_search_load, NeedsSearchLoad}
use Rattle.list_laws.specs.Counts.{IsIn, times, Each}
use Rattle.core_points.specs.Programs.{Own, is_none_left, is_some, key_now, value_in, answer, begun_with, first_point, spare_first, go}
use Rattle.core_points.specs.Facts.{AreClear, Bare, BareParts, HandFits, IsLeaf, Owns, SettledParts, SameLocks, Stands, UnlockingParts, leaf_held, one_lock, read_at, stored_at, Idle, IsReady, OwnsParts, Settled, Calm, Ready, is_delete, is_put, is_set, Inside}
use Rattle.core_points.specs.Laws.{Tells, NewViewsAreFree, IsFree}
use Rattle.core_laws.proofs.LockSteps.{known_here, known_still}
use Rattle.std.proofs.lemmas.Bool.{le-leb}
use Rattle.prcu_model.specs.declared.operation.Op.{Op}
use Rattle.prcu_model.specs.declared.operation.Op.TheVariants.{Put, Get, Del, Set}
use Rattle.prcu_model.specs.declared.operation.Reply.{Reply}
use Rattle.prcu_model.specs.Dictionary.{key_of}
use Rattle.core_points.specs.declared.stage.Aim.TheVariants.{Spare, Room}
use Rattle.core_points.specs.declared.stage.Waits.TheVariants.{Reuse}
use Rattle.core_points.specs.declared.stage.Stage.{Stage}
use Rattle.core_points.specs.Fits.{owed_op, Fits, plain, owed, Point}
use Rattle.prcu_marks.specs.declared.mark.Mark.{Mark}
use Rattle.prcu_marks.specs.declared.mark.Side.{Side}
use Rattle.core_state.specs.declared.view.SearchState.TheVariants.{Found}
use Rattle.core_state.specs.declared.view.Walk.{Walk}
use Rattle.core_state.specs.Acts.{section_of, in_slot}
use Rattle.core_state.specs.declared.act.Part.{Part}
use Rattle.core_laws.proofs.Acting.{section_is, may_search}
use Rattle.core_points.specs.declared.stage.Stage.TheVariants as at
use Rattle.core_laws.proofs.Searches.{in_more}

-- What is known after one more load or store, of a view's groups.

slot_noted : (kn : Known) (l : HeldLock) (b : Bool) → (cond b (note_lock kn l) l).slot ≡ l.slot
slot_noted kn l true = refl
slot_noted kn l false = refl

slots_noted : (s : ℕ) (kn : Known) (ls : List HeldLock)
    → map (λ (l : HeldLock). l.slot) (change_lock s (note_lock kn) ls) ≡ map (λ (l : HeldLock). l.slot) ls
slots_noted s kn [] = refl
slots_noted s kn (l ∷ ls) = ap (λ x. x ∷ map (λ (l : HeldLock). l.slot) (change_lock s (note_lock kn) ls)) (slot_noted kn l (l.slot == s))
    ∙ ap (λ xs. l.slot ∷ xs) (slots_noted s kn ls)

held_noted : (kn : Known) (h : Held) (b : Bool) → (cond b (record h { known = kn ∷ h.known }) h).slot ≡ h.slot
held_noted kn h true = refl
held_noted kn h false = refl

pub spare_noted : (s : ℕ) (kn : Known) (o : Option Held) → spare_slot (note_option s kn o) ≡ spare_slot o
spare_noted s kn None = refl
spare_noted s kn (Some h) = ap Some (held_noted kn h (h.slot == s))

-- a note changes none of the slots that the place has, nor the slots of its locks
pub owns_noted : (o : Own) (v : View) (s : ℕ) (field : Field) (n : ℕ) (by_store : Bool) → Owns o v → Owns o (noting v s field n by_store)
owns_noted o v s field n by_store w =
    let kn : Known = record { field = field; number = n; stored = by_store } in record {
      same = w.same;
      works = w.works;
      spare_is = spare_noted s kn v.hands.spare ∙ w.spare_is;
      retired_are = w.retired_are;
      locks_are = λ x. ap (times x) (slots_noted s kn v.locks) ∙ w.locks_are x;
      key_fits = w.key_fits;
      keys_fit = w.keys_fit;
      scans = w.scans;
      scans_table = w.scans_table;
    }

-- with other locks, of which the caller has the slots
pub owns_locked : (o : Own) (v : View) → Owns o v → (slots : List ℕ) (locks : List HeldLock) → SameLocks slots locks
    → Owns (record o { locks = slots }) (record v { locks = locks })
owns_locked o v w slots locks are = record {
  same = w.same;
  works = w.works;
  spare_is = w.spare_is;
  retired_are = w.retired_are;
  locks_are = are;
  key_fits = w.key_fits;
  keys_fit = w.keys_fit;
  scans = w.scans;
  scans_table = w.scans_table;
}

-- other locks of the same slots
pub owns_relocked : (o : Own) (v : View) (locks : List HeldLock)
    → map (λ (l : HeldLock). l.slot) locks ≡ map (λ (l : HeldLock). l.slot) v.locks → Owns o v → Owns o (record v { locks = locks })
owns_relocked o v locks slots w = owns_locked o v w o.locks locks (λ x. ap (times x) slots ∙ w.locks_are x)

-- one lock more
pub owns_more : (o : Own) (v : View) (s : ℕ) → Owns o v
    → Owns (record o { locks = s ∷ o.locks }) (record v { locks = new_lock s ∷ v.locks })
owns_more o v s w = owns_locked o v w (s ∷ o.locks) (new_lock s ∷ v.locks) (λ x. ap (λ t. cond (s == x) 1 0 + t) (w.locks_are x))

-- the scan goes on by a slot
next_scan : (z : Bool) (s : ℕ) → 1 ≤ cond z 1 (s + 1)
next_scan true s = omega arith
next_scan false s = omega arith

next_within : (s most : ℕ) → 1 ≤ s → s ≤ most → cond (s == most) 1 (s + 1) ≤ most
next_within s most some le =
    dite (ℕ_discrete s most)
    (λ e. subst (λ z. cond z 1 (s + 1) ≤ most) (sym (eq-eqb s most e)) (omega arith))
    (λ ne. subst (λ z. cond z 1 (s + 1) ≤ most) (sym (ne_eqb s most ne)) (omega arith))

-- at another number for the next slot to try
pub owns_scanning : (o : Own) (v : View) → Owns o v → (s : ℕ) → 1 ≤ s → s ≤ o.slots + o.places → Owns (record o { scan = s }) v
owns_scanning o v w s some few = record {
  same = w.same;
  works = w.works;
  spare_is = w.spare_is;
  retired_are = w.retired_are;
  locks_are = w.locks_are;
  key_fits = w.key_fits;
  keys_fit = w.keys_fit;
  scans = some;
  scans_table = few;
}

pub owns_scanned : (o : Own) (v : View) → Owns o v → Owns (record o { scan = cond (o.scan == o.slots + o.places) 1 (o.scan + 1) }) v
owns_scanned o v w =
    owns_scanning o v w _ (next_scan (o.scan == o.slots + o.places) o.scan) (next_within o.scan (o.slots + o.places) w.scans w.scans_table)

-- with other retired slots, of which the caller has the numbers
pub owns_retired : (o : Own) (v : View) → Owns o v → (slots : List ℕ) (retired : List Retired)
    → map (λ (r : Retired). r.slot) retired ≡ slots
    → Owns (record o { retired = slots }) (record v { hands = record v.hands { retired = retired } })
owns_retired o v w slots retired are = record {
  same = w.same;
  works = w.works;
  spare_is = w.spare_is;
  retired_are = are;
  locks_are = w.locks_are;
  key_fits = w.key_fits;
  keys_fit = w.keys_fit;
  scans = w.scans;
  scans_table = w.scans_table;
}

-- with another spare or none, of which the caller has the number
pub owns_spared : (o : Own) (v : View) → Owns o v → (slot : Option ℕ) (spare : Option Held) → spare_slot spare ≡ slot
    → Owns (record o { spare = slot }) (record v { hands = record v.hands { spare = spare } })
owns_spared o v w slot spare is = record {
  same = w.same;
  works = w.works;
  spare_is = is;
  retired_are = w.retired_are;
  locks_are = w.locks_are;
  key_fits = w.key_fits;
  keys_fit = w.keys_fit;
  scans = w.scans;
  scans_table = w.scans_table;
}

-- a section stays one for its key after a load
pub stands_on : {section : Section} {key : ℕ} {state state' : SearchState} (r : Reading) → r.key ≡ section.reading.key → r.state ≡ state'
    → IsIn r.stood (state_slot state') → Stands section key state → Stands (record section { reading = r }) key state'
stands_on r same is here s = record { searches = s.searches; key_is = s.key_is; sought = same ∙ s.sought; state_is = is; here = here }

-- what is quiet stays so when the front is turned, and before locks are given up
pub quiet_turned : {commit turn now here : Option Commit} {o_hand : Option ℕ} {section : Option Section} {moving : Option Move}
    {reserved owes : Bool} {hand : Option Held} → here ≡ now → SettledParts commit o_hand section turn moving reserved owes hand
    → SettledParts now o_hand section here moving reserved owes hand
quiet_turned e q = record {
  outside = q.outside;
  turn_is = e;
  settled = q.settled;
  unreserved = q.unreserved;
  paid = q.paid;
  empty = q.empty;
  no_hand = q.no_hand;
}

pub quiet_unlocking : {commit turn now : Option Commit} {o_hand : Option ℕ} {section : Option Section} {moving : Option Move}
    {reserved owes : Bool} {hand : Option Held} {o_locks : List ℕ} {locks : List HeldLock}
    → SettledParts commit o_hand section turn moving reserved owes hand → now ≡ None → AreClear locks → is_none_left o_locks ≡ false
    → UnlockingParts o_locks section now moving reserved owes locks
quiet_unlocking q even clear some = record {
  outside = q.outside;
  no_turn = even;
  settled = q.settled;
  unreserved = q.unreserved;
  paid = q.paid;
  clear = clear;
  some = some;
}

-- a note changes nothing of what is quiet
pub settled_noted : (o : Own) (v : View) (s : ℕ) (field : Field) (n : ℕ) (by_store : Bool) (commit : Option Commit) → Settled o v commit
    → Settled o (noting v s field n by_store) commit
settled_noted o v s field n by_store commit q =
    let kn : Known = record { field = field; number = n; stored = by_store } in
    record {
      outside = q.outside;
      turn_is = q.turn_is;
      settled = ap (note_moving s kn) q.settled;
      unreserved = q.unreserved;
      paid = q.paid;
      empty = ap (note_option s kn) q.empty;
      no_hand = q.no_hand;
    }

pub settled_hand : (o : Own) (v : View) → Settled o v None → HandFits o.hand o.hand_life (key_now o) (value_in o.op) v.hands.hand
settled_hand o v q = subst (λ x. HandFits x o.hand_life (key_now o) (value_in o.op) v.hands.hand) (sym q.no_hand) q.empty

-- the caller's call starts again with nothing held
pub settled_calm : (o : Own) (v : View) → Settled o v None → v.locks ≡ [] → Ready o → Calm o v
settled_calm o v q none ready = record {
  bare = record { locks_are = none; turn_is = q.turn_is; settled = q.settled; reserved_is = q.unreserved; paid = q.paid };
  hand = settled_hand o v q;
  ready = ready;
}

-- outside the section, with no slot in hand
pub calm_quiet : (o : Own) (v : View) (section : Section) (h : List Mark) → Calm o v → is_put o.op ≡ false
    → Settled o (leaving v section h) None
calm_quiet o v section h c no_put =
    let none = (c.ready).empty no_put in
    record {
      outside = refl;
      turn_is = (c.bare).turn_is;
      settled = (c.bare).settled;
      unreserved = (c.bare).reserved_is;
      paid = (c.bare).paid;
      empty = subst (λ x. HandFits x o.hand_life (key_now o) (value_in o.op) v.hands.hand) none c.hand;
      no_hand = none;
    }

pub bare_noted : (v : View) (s : ℕ) (field : Field) (n : ℕ) (by_store : Bool) (locks more : List HeldLock) (commit : Option Commit)
    (reserved : Bool) → Bare v locks commit reserved
    → change_lock s (note_lock (record { field = field; number = n; stored = by_store })) locks ≡ more
    → Bare (noting v s field n by_store) more commit reserved
bare_noted v s field n by_store locks more commit reserved b e =
    let kn : Known = record { field = field; number = n; stored = by_store } in
    record {
      locks_are = ap (change_lock s (note_lock kn)) b.locks_are ∙ e;
      turn_is = b.turn_is;
      settled = ap (note_moving s kn) b.settled;
      reserved_is = b.reserved_is;
      paid = b.paid;
    }

-- with a reservation, or without it
pub bare_reserved : {locks held : List HeldLock} {commit turn : Option Commit} {reserved reserves owes : Bool} {moving : Option Move}
    (now : Bool) → BareParts locks commit reserved held turn moving reserves owes → BareParts locks commit now held turn moving now owes
bare_reserved now b = record { locks_are = b.locks_are; turn_is = b.turn_is; settled = b.settled; reserved_is = refl; paid = b.paid }

-- the one lock with one more entry
pub one_noted : (s : ℕ) (known : List Known) (field : Field) (n : ℕ) (by_store : Bool)
    → change_lock s (note_lock (record { field = field; number = n; stored = by_store })) (one_lock s known)
    ≡ one_lock s (record { field = field; number = n; stored = by_store } ∷ known)
one_noted s known field n by_store =
    let l : HeldLock = record { slot = s; known = known; left_emptied = false; right_emptied = false; marked = false } in
    ap (λ b. cond b (note_lock (record { field = field; number = n; stored = by_store }) l) l ∷ []) (eq-eqb s s refl)

pub one_locked : (s : ℕ) (known : List Known) → lock_of (one_lock s known) s
    ≡ Some (record { slot = s; known = known; left_emptied = false; right_emptied = false; marked = false })
one_locked s known = ap (λ b. cond b (Some (record
    { slot = s; known = known; left_emptied = false; right_emptied = false; marked = false })) None) (eq-eqb s s refl)

-- a slot in hand with one more entry of its own
pub held_here : (s : ℕ) (kn : Known) (held : Held) → held.slot ≡ s → note_held s kn held ≡ record held { known = kn ∷ held.known }
held_here s kn held e = ap (λ b. cond b (record held { known = kn ∷ held.known }) held) (eq-eqb held.slot s e)

-- A leaf in hand stays one, where a load finds what was known.
leaf_more : (held : Held) (t life key value : ℕ) (field : Field) (n : ℕ)
    → ((number : ℕ) → known_in held.known field ≡ Some number → n ≡ number)
    → IsLeaf held t life key value → IsLeaf (record held
    { known = record { field = field; number = n; stored = false } ∷ held.known }) t life key value
leaf_more held t life key value field n told l = record {
  slot_is = l.slot_is;
  unraised = l.unraised;
  life_is = known_still held.known field (Life t) n life false (λ e. told life (ap (known_in held.known) e ∙ l.life_is)) l.life_is;
  key_is = known_still held.known field (Key t) n key false (λ e. told key (ap (known_in held.known) e ∙ l.key_is)) l.key_is;
  value_is = known_still held.known field (Value t) n value false (λ e. told value (ap (known_in held.known) e ∙ l.value_is)) l.value_is;
  left_is = known_still held.known field (Link t Left) n 0 false (λ e. told 0 (ap (known_in held.known) e ∙ l.left_is)) l.left_is;
  right_is = known_still held.known field (Link t Right) n 0 false (λ e. told 0 (ap (known_in held.known) e ∙ l.right_is)) l.right_is;
}

pub hand_noted : (hand : Option ℕ) (life key value : ℕ) (v : View) (s : ℕ) (field : Field) (n : ℕ) → Tells v s field n
    → HandFits hand life key value v.hands.hand
    → HandFits hand life key value (note_option s (record { field = field; number = n; stored = false }) v.hands.hand)
hand_noted None life key value v s field n told e = ap (note_option s (record { field = field; number = n; stored = false })) e
hand_noted (Some t) life key value v s field n told (held, e, leaf) =
    let kn : Known = record { field = field; number = n; stored = false } in
    dite (ℕ_discrete held.slot s)
    (λ same. (
      record held { known = kn ∷ held.known },
      ap (note_option s kn) e ∙ ap Some (held_here s kn held same),
      leaf_more held t life key value field n (told held e same) leaf,
    ))
    (λ other. (
      held,
      ap (note_option s kn) e ∙ ap (λ b. Some (cond b (record held { known = kn ∷ held.known }) held))
          (ne_eqb held.slot s other),
      leaf,
    ))

-- the four fields of a leaf, once stored
pub leaf_is : (before : List Known) (s life key value : ℕ) → known_in before (Life s) ≡ Some life
    → IsLeaf (leaf_held before s key value 4) s life key value
leaf_is before s life key value known = record {
  slot_is = refl;
  unraised = refl;
  life_is = known;
  key_is = known_here before (Key s) key true;
  value_is = known_here (stored_at (Key s) key ∷ before) (Value s) value true;
  left_is = known_still (leaf_held before s key value 3).known (Link s Right) (Link s Left) 0 0 true (λ e. refl)
      (known_here (leaf_held before s key value 2).known (Link s Left) 0 true);
  right_is = known_here (leaf_held before s key value 3).known (Link s Right) 0 true;
}

-- a point where no retired slot is raised: what the caller owns, its tickets, and what is known there
pub fits : {o : Own} {v : View} {stage : Stage} → Owns o v → Each v.hands.retired (λ (r : Retired). r.raised ≡ false)
    → owed o stage + 4 * length o.rest + o.kept ≤ v.allowance.tickets → Point o stage (plain v) → Fits o stage v
fits owns unraised paid point = record { owns = owns; unraised = λ z. unraised; tickets = paid; point = point }

-- What a load in a section needs, of a slot at which its search stood.
pub loads_at : (v : View) {key : ℕ} {state : SearchState} {more : Section → Type 0} (i : Inside v key state more) (s : ℕ) (p : Part)
    → IsIn i.section.reading.stood s → NeedsSearchLoad v (section_of v) s (in_slot s p)
loads_at v i s p stood = may_search v s p i.is i.stands.searches stood

-- After an answer the first point of the next operation.

owed_start : (op : Op) (hand : Option ℕ) (retired : List ℕ) → hand ≡ None → owed_op op hand retired ≤ 3
owed_start (Put key value) hand [] e = subst (λ x. owed_op (Put key value) x [] ≤ 3) (sym e) (omega arith)
owed_start (Put key value) hand (s ∷ ss) e = subst (λ x. owed_op (Put key value) x (s ∷ ss) ≤ 3) (sym e) (omega arith)
owed_start (Get key) hand retired e = omega arith
owed_start (Del key) hand retired e = omega arith
owed_start (Set key value) hand retired e = omega arith

pub none_is : (spare : Option ℕ) → is_some spare ≡ false → spare ≡ None
none_is None e = refl
none_is (Some s) e = cc

pub positive : (x : ℕ) → 1 ≤ cond (x == 0) 1 x
positive zero = omega arith
positive (suc x) = subst (λ b. 1 ≤ cond b 1 (suc x)) (sym (ne_eqb (suc x) 0 (λ e. absurd (omega arith)))) (omega arith)

pub ready_put : {most : ℕ} (op : Op) (hand spare : Option ℕ) (retired : List ℕ) → is_put op ≡ true → IsReady most op hand spare retired
ready_put (Put key value) hand spare retired e = record { empty = λ z. cc; room = λ z. cc; has_spare = λ z. cc }
ready_put (Get key) hand spare retired e = cc
ready_put (Del key) hand spare retired e = cc
ready_put (Set key value) hand spare retired e = cc

pub ready_set : {most : ℕ} (op : Op) (hand spare : Option ℕ) (retired : List ℕ) → is_set op ≡ true → hand ≡ None → IsReady most op hand spare retired
ready_set (Set key value) hand spare retired e none = record { empty = λ z. none; room = λ z. cc; has_spare = λ z. cc }
ready_set (Put key value) hand spare retired e none = cc
ready_set (Get key) hand spare retired e none = cc
ready_set (Del key) hand spare retired e none = cc

-- a set is one of its key and value, and owes a ticket
pub the_set : (op : Op) → is_set op ≡ true → op ≡ Set (key_of op) (value_in op)
the_set (Set key value) e = refl
the_set (Put key value) e = cc
the_set (Get key) e = cc
the_set (Del key) e = cc

pub set_owed : (o : Own) → is_set o.op ≡ true → owed_op o.op o.hand o.retired ≡ 1
set_owed o e = ap (λ x. owed_op x o.hand o.retired) (the_set o.op e)

module _ (o : Own) (v : View) (free : IsFree o v) where
  owns_for : (key : ℕ) (rest : List Op) → key < 2 ^ 64 → Each rest (λ later. key_of later < 2 ^ 64)
      → OwnsParts o.place key rest o.scan (o.slots
      + o.places) o.spare o.retired o.locks v.allowance.place v.allowance.places v.hands.spare v.hands.retired v.locks
  owns_for key rest fits all_fit = record {
    same = free.owns.same;
    works = free.owns.works;
    spare_is = free.owns.spare_is;
    retired_are = free.owns.retired_are;
    locks_are = free.owns.locks_are;
    key_fits = fits;
    keys_fit = all_fit;
    scans = free.owns.scans;
    scans_table = free.owns.scans_table;
  }

  owns_op : (op : Op) (ops : List Op) → Each (op ∷ ops) (λ later. key_of later < 2 ^ 64)
      → OwnsParts o.place (key_of op) ops o.scan (o.slots
      + o.places) o.spare o.retired o.locks v.allowance.place v.allowance.places v.hands.spare v.hands.retired v.locks
  owns_op op ops fit = owns_for (key_of op) ops (fit 0 op refl) (λ i a e. fit (suc i) a e)

  starts : (op : Op) (ops : List Op) → IsReady o.room op o.hand o.spare o.retired → Each (op ∷ ops) (λ later. key_of later < 2 ^ 64)
      → 4 * length (op ∷ ops) + o.kept ≤ v.allowance.tickets
      → Fits (record o { op = op; rest = ops; stage = at.EnterClock }) at.EnterClock v
  starts op ops ready fit paid = record {
    owns = owns_op op ops fit;
    unraised = λ z. free.unraised;
    tickets = (let few = owed_start op o.hand o.retired free.empty in omega arith);
    point = (
      free.outside,
      record {
        bare = free.bare;
        hand = subst (λ x. HandFits x o.hand_life (key_of op) (value_in op) v.hands.hand) (sym free.empty) free.no_hand;
        ready = ready;
      },
    );
  }

  -- an operation that isn't a delete
  ready_other : (op : Op) → is_delete op ≡ false → IsReady o.room op o.hand o.spare o.retired
  ready_other op other = record {
    empty = λ z. free.empty;
    room = λ is. absurd (let q : true ≡ false = sym is ∙ other in cc);
    has_spare = λ is. absurd (let q : true ≡ false = sym is ∙ other in cc);
  }

  first : (op : Op) (ops : List Op) → Each (op ∷ ops) (λ later. key_of later < 2 ^ 64)
      → 4 * length (op ∷ ops) + o.kept ≤ v.allowance.tickets
      → Fits (record o { op = op; rest = ops; stage = first_point o op }) (first_point o op) v
  first (Put key value) ops fit paid = starts (Put key value) ops (ready_other (Put key value) refl) fit paid
  first (Get key) ops fit paid = starts (Get key) ops (ready_other (Get key) refl) fit paid
  first (Set key value) ops fit paid = starts (Set key value) ops (ready_other (Set key value) refl) fit paid
  first (Del key) ops fit paid = many (nat_le o.room (length o.retired + 1)) refl
    where
      idle : Idle (record o { op = Del key; rest = ops; stage = at.EnterClock }) (plain v)
      idle = record { outside = free.outside; bare = free.bare; empty = free.no_hand; no_hand = free.empty }

      few : nat_le o.room (length o.retired + 1) ≡ false → length o.retired ≤ o.room - 2
      few e = dite (dec_le o.room (length o.retired + 1))
          (λ le. absurd (let q : true ≡ false = sym (le-leb o.room (length o.retired + 1) le) ∙ e in cc)) (λ lt. omega arith)

      has_spare : length o.retired ≤ o.room - 2 → (z : Bool) → is_some o.spare ≡ z → let st : Stage =
          cond z at.EnterClock (at.Reserve Spare (cond (o.free == 0) 1 o.free)) in
          Fits (record o { op = Del key; rest = ops; stage = st }) st v
      has_spare room true e = starts (Del key) ops (record { empty = λ z. free.empty; room = λ z. room; has_spare = λ z. e }) fit paid
      has_spare room false e = record {
        owns = owns_op (Del key) ops fit;
        unraised = λ z. free.unraised;
        tickets = omega arith;
        point = record {
          idle = idle;
          some = positive o.free;
          takes = record { deletes = refl; room = room; no_spare = none_is o.spare e };
        };
      }

      many : (z : Bool) → nat_le o.room (length o.retired + 1) ≡ z → let st : Stage = cond z (at.Begin (Reuse Room)) (spare_first o) in
          Fits (record o { op = Del key; rest = ops; stage = st }) st v
      many true e = record { owns = owns_op (Del key) ops fit; unraised = λ z. free.unraised; tickets = omega arith; point = (idle, refl) }
      many false e = has_spare (few e) (is_some o.spare) refl

  pub begins : (ops : List Op) → Each ops (λ later. key_of later < 2 ^ 64) → 4 * length ops + o.kept ≤ v.allowance.tickets
      → Fits (begun_with o ops) (begun_with o ops).stage v
  begins [] fit paid = record {
    owns = owns_for (key_now o) [] free.owns.key_fits fit;
    unraised = λ z. free.unraised;
    tickets = omega arith;
    point = (free.outside, free.bare, free.no_hand);
  }
  begins (op ∷ ops) fit paid = first op ops fit paid

-- a caller that answers goes on with its next operation
pub answers : (o : Own) (v : View) (reply : Reply) (number : ℕ) → IsFree o v → 4 * length o.rest + o.kept ≤ v.allowance.tickets
    → Fits (answer o reply number) (answer o reply number).stage v
answers o v reply number free paid = begins (record o { told = o.told ++ record { reply = reply; number = number } ∷ [] }) v
    (record {
      owns = free.owns;
      outside = free.outside;
      empty = free.empty;
      bare = free.bare;
      no_hand = free.no_hand;
      unraised = free.unraised;
    }) o.rest free.owns.keys_fit paid

-- a new view
pub new_views_are_free : NewViewsAreFree
new_views_are_free o tickets seen hand spare retired locks some few key keys = record {
  owns = record {
    same = refl;
    works = omega arith;
    spare_is = sym spare;
    retired_are = sym retired;
    locks_are = λ x. ap (times x) (sym locks);
    key_fits = key;
    keys_fit = keys;
    scans = some;
    scans_table = few;
  };
  outside = refl;
  empty = hand;
  bare = record { locks_are = refl; turn_is = refl; settled = refl; reserved_is = refl; paid = refl };
  no_hand = refl;
  unraised = λ i r e. cc;
}

-- A load in a section that has found its key: where the search stands stays, and what it loaded is known.

-- what a load leaves of a reading that has found its key
pub record StillFound (r r' : Reading) (field : Field) (n : ℕ) : Type 0 where
  pub state : r'.state ≡ r.state
  pub key : r'.key ≡ r.key
  pub loads : r'.loads ≡ read_at field n ∷ r.loads
  pub stood : (s : ℕ) → IsIn r.stood s → IsIn r'.stood s

abbrev with_load : Reading → Field → ℕ → Reading
with_load r field n = record r { loads = read_at field n ∷ r.loads }

pub life_loaded : (r : Reading) (s p : ℕ) (b : Side) (t n : ℕ) → r.state ≡ Found s p b None → loaded r (Life t) n ≡ with_load r (Life t) n
life_loaded r s p b t n e = ap (λ z. searched (with_load r (Life t) n) z (Life t) n) e

pub link_loaded : (r : Reading) (s p : ℕ) (b : Side) (t : ℕ) (c : Side) (n : ℕ) → r.state ≡ Found s p b None
    → loaded r (Link t c) n ≡ walked (with_load r (Link t c) n) s r.walk t c n
link_loaded r s p b t c n e = ap (λ z. searched (with_load r (Link t c) n) z (Link t c) n) e

loaded_only : (r : Reading) (field : Field) (n : ℕ) → StillFound r (with_load r field n) field n
loaded_only r field n = record { state = refl; key = refl; loads = refl; stood = λ s i. i }

pub life_walk : (r : Reading) (s p : ℕ) (b : Side) (t n : ℕ) → r.state ≡ Found s p b None → r.walk ≡ None
    → (loaded r (Life t) n).walk ≡ None
life_walk r s p b t n e none = ap (λ (x : Reading). x.walk) (life_loaded r s p b t n e) ∙ none

pub left_walk : (r : Reading) (s p : ℕ) (b : Side) (t n : ℕ) → r.state ≡ Found s p b None → r.walk ≡ None
    → (loaded r (Link t Left) n).walk ≡ None
left_walk r s p b t n e none = ap (λ (x : Reading). x.walk) (link_loaded r s p b t Left n e
    ∙ ap (λ z. walked (with_load r (Link t Left) n) s z t Left n) none) ∙ none

pub life_still : (r : Reading) (s p : ℕ) (b : Side) (t n : ℕ) → r.state ≡ Found s p b None → StillFound r (loaded r (Life t) n) (Life t) n
life_still r s p b t n e = subst (λ (x : Reading). StillFound r x (Life t) n) (sym (life_loaded r s p b t n e)) (loaded_only r (Life t) n)

pub here_loaded : (r r' : Reading) (field : Field) (n : ℕ) → StillFound r r' field n → known_in r'.loads field ≡ Some n
here_loaded r r' field n still = ap (λ ls. known_in ls field) still.loads ∙ known_here r.loads field n false

pub life_here : (r r' : Reading) (t n : ℕ) → StillFound r r' (Life t) n → LoadedGeneration r' t (n / 2)
life_here r r' t n still = (n, here_loaded r r' (Life t) n still, refl)

walk_on : (r : Reading) (d : ℕ) (t : ℕ) (c : Side) (n : ℕ) (parent : ℕ) (z : Bool)
    → StillFound r (cond z (walking (with_load r (Link t c) n) parent n) (with_load r (Link t c) n)) (Link t c) n
walk_on r d t c n parent true = record { state = refl; key = refl; loads = refl; stood = λ s i. in_more r.stood n s i }
walk_on r d t c n parent false = loaded_only r (Link t c) n

walked_still : (r : Reading) (d : ℕ) (walk : Option Walk) (t : ℕ) (c : Side) (n : ℕ)
    → StillFound r (walked (with_load r (Link t c) n) d walk t c n) (Link t c) n
walked_still r d None t Right n = walk_on r d t Right n d (t == d && not (n == 0))
walked_still r d (Some walk) t Right n = loaded_only r (Link t Right) n
walked_still r d None t Left n = loaded_only r (Link t Left) n
walked_still r d (Some walk) t Left n = walk_on r d t Left n walk.slot (t == walk.slot && not (n == 0))

pub link_still : (r : Reading) (s p : ℕ) (b : Side) (t : ℕ) (c : Side) (n : ℕ) → r.state ≡ Found s p b None
    → StillFound r (loaded r (Link t c) n) (Link t c) n
link_still r s p b t c n e = subst (λ (x : Reading). StillFound r x (Link t c) n) (sym (link_loaded r s p b t c n e))
    (walked_still r s r.walk t c n)

-- the next point in the section
module _ (h : List Mark) (o : Own) (v : View) (n : ℕ) where
  pub found_next : (s p : ℕ) (b : Side) (field : Field) (more more' : Reading → Type 0) (stage' : Stage)
      → Owns o v → Each v.hands.retired (λ (r : Retired). r.raised ≡ false)
      → owed (go o stage') stage' + 4 * length o.rest + o.kept ≤ v.allowance.tickets
      → Inside v (key_now o) (Found s p b None) (λ section. more section.reading)
      → ((r : Reading) → r.state ≡ Found s p b None → IsIn r.stood s → more r
      → StillFound r (loaded r field n) field n × more' (loaded r field n))
      → ((section : Section) → Inside (record v { section = Some section }) (key_now o) (Found s p b None)
      (λ section. more' section.reading) → Point (go o stage') stage' (plain (record v { section = Some section })))
      → Fits (go o stage') stage' (after_search_load v (section_of v) field n)
  found_next s p b field more more' stage' owns unraised paid i goes point =
      let section : Section = i.section in
      let went = goes section.reading (i.stands).state_is (i.stands).here i.known in
      let still = went.0 in
      let now : Section = record section { reading = loaded section.reading field n } in
      subst (λ x. Fits (go o stage') stage' (after_search_load v x field n)) (sym (section_is v _ i.is))
      (record {
        owns = owns;
        unraised = λ z. unraised;
        tickets = paid;
        point = point now (record {
          section = now;
          is = refl;
          stands = stands_on _ still.key (still.state ∙ (i.stands).state_is) (still.stood s (i.stands).here) i.stands;
          known = went.1;
        });
      })

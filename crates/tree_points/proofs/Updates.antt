-- The points of an update: its stores, the mark before a copy, and the front.
use Rattle.std.proofs.Common.{◌≡◌, ℕ, ◌+◌, ◌*◌, cond, true, false, List, [], ◌++◌, ◌∷◌, Some, refl, sym, ap, subst, ◌∙◌, eq-eqb, length, length-append, arith, ◌%◌, ◌≢◌, ◌==◌, if◌then◌else◌, ne_eqb}
use mathlib.Core.List.{IsPrefix}
use Rattle.prcu_marks.proofs.Marks.{updates_of-append}
use Rattle.prcu_model.specs.Dictionary.{key_of}
use Rattle.prcu_model.specs.declared.operation.Update.{Update}
use Rattle.core_state.specs.declared.view.HeldLock.{HeldLock}
use Rattle.core_state.specs.declared.view.Known.{Known}
use Rattle.core_state.specs.Parts.{map_now}
use Rattle.core_points.specs.Facts.{one_lock, read_at, set_known}
use Rattle.core_points.proofs.Notes.{one_locked}
use Rattle.tree_points.specs.Points.{HasAdvanced, HasUpdated, KeepsAllowance, IsAt}
use Rattle.prcu_marks.specs.declared.mark.Side.{Side}
use Rattle.prcu_model.specs.declared.operation.Op.{Op}
use Rattle.prcu_model.specs.declared.operation.Op.TheVariants.{Put, Set}
use Rattle.core_state.specs.declared.shape.Shape.{Shape}
use Rattle.core_state.specs.declared.view.View.{View}
use Rattle.core_points.specs.declared.stage.Spot.{Spot}
use Rattle.core_points.specs.declared.stage.Node.{Node}
use Rattle.core_points.specs.declared.stage.Successor.{Successor}
use Rattle.seat_table.specs.Gains.{Sees, TellsNow, Told}
use Rattle.tree_points.proofs.Passing.{needs_as, passes, passes_as, commits_any, at_false, at_true, stage_if}
use Rattle.core_points.specs.Programs.{value_in, key_now, or_root, act_at, go}
use Rattle.core_state.specs.Acts.{Asks}
use Rattle.prcu_marks.specs.declared.mark.Mark.{Mark}
use Rattle.prcu_marks.specs.declared.mark.Mark.TheVariants.{Done}
use Rattle.prcu_marks.specs.Marks.{own_of, updates_of}
use Rattle.core_state.specs.declared.words.Field.TheVariants.{Life, Link, Value}
use Rattle.core_state.specs.Views.{known_in, known_of, known_under, lock_of}
use Rattle.core_points.proofs.Locks.{slots_in}
use Rattle.seat_table.specs.Seats.{IsSlotOf}
use Rattle.tree_points.proofs.Locks.{slot_in_hand, slot_of, allowed, further, advanced_with, noting_same, own_spare}
use Rattle.core_points.specs.declared.stage.Update.{Update as Making}
use Rattle.core_points.specs.declared.stage.Update.TheVariants as update
use Rattle.core_points.specs.declared.stage.Stage.TheVariants as at
use Rattle.core_state.specs.declared.act.Act.TheVariants as acts

-- The four stores that make an update: what each is asked for, and of a put's and a set's the mark that it leaves, and the locks that are
-- held after it.

-- a step after all marks, of which the first is the place's
one_advanced : {v w : View} (h more : List Mark) (op : Op) → (own_of v.allowance.place more ≡ []) → IsPrefix v.trail.steps w.trail.steps
    → Sees v h
    → KeepsAllowance v w
    → w.seen ≡ h ++ Done (record { caller = v.allowance.place; op = op }) ∷ more
    → HasAdvanced v w (Done (record { caller = v.allowance.place; op = op }) ∷ [])
one_advanced {v} {w} h more op none steps sees keeps seen =
    let p : ℕ = v.allowance.place in
    let first : Mark = Done (record { caller = p; op = op }) in
    subst (HasAdvanced v w) (ap (λ z. cond z (first ∷ own_of p more) (own_of p more)) (eq-eqb p p refl) ∙ ap (λ l. first ∷ l) none)
    (advanced_with h (first ∷ more) steps sees keeps seen)

abbrev updated : {v w : View} (h more : List Mark) (op : Op) (front : ℕ) → (own_of v.allowance.place more ≡ []) → updates_of more ≡ []
    → IsPrefix v.trail.steps w.trail.steps → Sees v h → KeepsAllowance v w
    → w.seen ≡ h ++ Done (record { caller = v.allowance.place; op = op }) ∷ more
    → front + 2 ≡ 2 * length (updates_of w.seen) → HasUpdated v op front w
updated {v} {w} h more op front none no_update steps sees keeps seen found = record {
  before = h;
  sees = sees;
  more = more;
  seen = seen;
  advanced = one_advanced h more op none steps sees keeps seen;
  counted =
      let u : Update = record { caller = v.allowance.place; op = op } in
      let all : length (updates_of w.seen) ≡ length (updates_of h ++ u ∷ updates_of more) =
      ap (λ l. length (updates_of l)) seen ∙ ap length (updates_of-append h (Done u ∷ more)) in
      let sum : length (updates_of h ++ u ∷ updates_of more) ≡ length (updates_of h) + length (u ∷ updates_of more) =
      length-append (updates_of h) (u ∷ updates_of more) in
      let one : length (u ∷ updates_of more) ≡ 1 = ap (λ l. length (u ∷ l)) no_update in
      omega arith;
}

-- the value that a set loaded under its lock
pub the_value : (v : View) (s generation old : ℕ) → v.locks ≡ one_lock s (set_known s generation old)
    → known_in (known_under v s) (Value s) ≡ Some old
the_value v s generation old e =
    let known : List Known = set_known s generation old in
    ap (λ (ls : List HeldLock). known_in (known_of (lock_of ls s)) (Value s)) e
    ∙ ap (λ l. known_in (known_of l) (Value s)) (one_locked s known)
    ∙ ap (λ z. cond z (Some old) (known_in (read_at (Life s) (2 * generation) ∷ []) (Value s))) (eq-eqb s s refl)

module _ {k : Shape} {kept n : ℕ} {v w : View} where
  pub updated_leaf : {key value leaf front : ℕ} {spot : Spot} → IsAt k (Put key value) kept (at.Store (update.Leaf spot) front) v
      → Told k v (acts.LinkLeaf spot.slot spot.side leaf key value) n w → HasUpdated v (Put key value) front w
  updated_leaf {key} {value} {leaf} {front} a t =
      updated t.marks [] (Put key value) front refl refl (further v _ t.goes refl) t.sees (allowed t.goes refl)
      (ap (λ (z : View). z.seen) t.goes)
      ((t.gains).found (record { found = front; stored = false }) (((a.fits).point).bare).turn_is)

  -- a set's value was the key's, as the set loaded it
  pub updated_value : {key value s old front : ℕ} → IsAt k (Set key value) kept (at.Store (update.Value s old) front) v
      → Told k v (acts.ReplaceValue s key value) n w
      → (u : HasUpdated v (Set key value) front w) × (map_now u.before key ≡ Some old)
  updated_value {key} {value} {s} {old} {front} a t = (
    updated t.marks [] (Set key value) front refl refl (further v _ t.goes refl) t.sees (allowed t.goes refl)
        (ap (λ (z : View). z.seen) t.goes)
        (((t.gains).counted).found (record { found = front; stored = false }) ((((a.fits).point).1).quiet).turn_is),
    (t.gains).was old (the_value v s ((a.fits).point).0 old (((a.fits).point).1).locks_are),
  )

  pub advanced_store_leaf : {key value leaf front : ℕ} {spot : Spot} → IsAt k (Put key value) kept (at.Store (update.Leaf spot) front) v
      → Told k v (acts.LinkLeaf spot.slot spot.side leaf key value) n w
      → HasAdvanced v w (Done (record { caller = v.allowance.place; op = Put key value }) ∷ [])
  advanced_store_leaf a t = (updated_leaf a t).advanced

  pub advanced_store_value : {key value s old front : ℕ} → IsAt k (Set key value) kept (at.Store (update.Value s old) front) v
      → Told k v (acts.ReplaceValue s key value) n w
      → HasAdvanced v w (Done (record { caller = v.allowance.place; op = Set key value }) ∷ [])
  advanced_store_value a t = ((updated_value a t).0).advanced

-- What the table asks for each of them is given, and the front is made even next.
pub needs_store_bypass : {k : Shape} {op : Op} {kept : ℕ} {v : View} {d : Node} {child : ℕ} {front : ℕ}
    → IsAt k op kept (at.Store (update.Bypass d child) front) v → TellsNow k v
    → Asks k v (acts.Bypass d.parent d.side d.node child (key_of op))
needs_store_bypass {d = d} {child = child} a now =
    needs_as a refl (ap (λ (x : Op). acts.Bypass d.parent d.side d.node child (key_of x)) a.op_is) now

pub passes_store_bypass : {k : Shape} {op : Op} {kept n : ℕ} {v w : View} {d : Node} {child : ℕ} {front : ℕ}
    → IsAt k op kept (at.Store (update.Bypass d child) front) v → Told k v (acts.Bypass d.parent d.side d.node child (key_of op)) n w
    → IsAt k op kept (at.Even (update.Bypass d child) front) w
passes_store_bypass {d = d} {child = child} a t =
    passes_as a refl (ap (λ (x : Op). acts.Bypass d.parent d.side d.node child (key_of x)) a.op_is) refl t

pub needs_store_copy : {k : Shape} {op : Op} {kept : ℕ} {v : View} {d : Node} {u : Successor} {next_key : ℕ} {copy : ℕ} {front : ℕ}
    → IsAt k op kept (at.Store (update.Copy d u next_key copy) front) v → TellsNow k v
    → Asks k v (acts.LinkCopy d.parent d.side d.node copy u.slot u.parent (key_of op) next_key)
needs_store_copy {d = d} {u = u} {next_key = next_key} {copy = copy} a now =
    needs_as a refl (ap (λ (x : Op). acts.LinkCopy d.parent d.side d.node copy u.slot u.parent (key_of x) next_key) a.op_is) now

pub passes_store_copy : {k : Shape} {op : Op} {kept n : ℕ} {v w : View} {d : Node} {u : Successor} {next_key : ℕ} {copy : ℕ} {front : ℕ}
    → IsAt k op kept (at.Store (update.Copy d u next_key copy) front) v
    → Told k v (acts.LinkCopy d.parent d.side d.node copy u.slot u.parent (key_of op) next_key) n w
    → IsAt k op kept (at.Even (update.Copy d u next_key copy) front) w
passes_store_copy {d = d} {u = u} {next_key = next_key} {copy = copy} a t =
    passes_as a refl (ap (λ (x : Op). acts.LinkCopy d.parent d.side d.node copy u.slot u.parent (key_of x) next_key) a.op_is) refl t

-- a set's store is of its operation's value
pub needs_store_value : {k : Shape} {kept key value : ℕ} {v : View} {s old front : ℕ}
    → IsAt k (Set key value) kept (at.Store (update.Value s old) front) v → TellsNow k v → Asks k v (acts.ReplaceValue s key value)
needs_store_value {s = s} a now = needs_as a refl (ap (λ (x : Op). acts.ReplaceValue s (key_of x) (value_in x)) a.op_is) now

pub passes_store_value : {k : Shape} {kept n key value : ℕ} {v w : View} {s old front : ℕ}
    → IsAt k (Set key value) kept (at.Store (update.Value s old) front) v → Told k v (acts.ReplaceValue s key value) n w
    → IsAt k (Set key value) kept (at.Even (update.Value s old) front) w
passes_store_value {s = s} a t = passes_as a refl (ap (λ (x : Op). acts.ReplaceValue s (key_of x) (value_in x)) a.op_is) refl t

-- a put's store is of the slot in hand
linked_case : {k : Shape} {op : Op} {kept leaf front : ℕ} {v : View} {spot : Spot}
    (a : IsAt k op kept (at.Store (update.Leaf spot) front) v) → IsSlotOf (Some leaf) v.hands.hand
    → act_at a.own (at.Store (update.Leaf spot) front) ≡ acts.LinkLeaf spot.slot spot.side leaf (key_of op) (value_in op)
linked_case {op = op} {leaf = leaf} {v = v} {spot = spot} a is =
    let hand : a.own.hand ≡ Some leaf = sym (slot_in_hand a.own.hand _ _ _ v.hands.hand ((a.fits).point).hand)
    ∙ slot_of v.hands.hand leaf is in
    ap (λ x. acts.LinkLeaf spot.slot spot.side (or_root x) (key_now a.own) (value_in a.own.op)) hand
    ∙ ap (λ (x : Op). acts.LinkLeaf spot.slot spot.side leaf (key_of x) (value_in x)) a.op_is

pub needs_store_leaf : {k : Shape} {op : Op} {kept leaf front : ℕ} {v : View} {spot : Spot} → IsSlotOf (Some leaf) v.hands.hand
    → IsAt k op kept (at.Store (update.Leaf spot) front) v → TellsNow k v
    → Asks k v (acts.LinkLeaf spot.slot spot.side leaf (key_of op) (value_in op))
needs_store_leaf is a now = needs_as a refl (linked_case a is) now

pub passes_store_leaf : {k : Shape} {op : Op} {kept n leaf front : ℕ} {v w : View} {spot : Spot} → IsSlotOf (Some leaf) v.hands.hand
    → IsAt k op kept (at.Store (update.Leaf spot) front) v → Told k v (acts.LinkLeaf spot.slot spot.side leaf (key_of op) (value_in op)) n w
    → IsAt k op kept (at.Even (update.Leaf spot) front) w
passes_store_leaf is a t = passes_as a refl (linked_case a is) refl t

-- The locks stay the same by these two.
module _ {k : Shape} {n : ℕ} {v w : View} where
  pub locks_link : {s leaf key value : ℕ} {b : Side} → Told k v (acts.LinkLeaf s b leaf key value) n w → slots_in w.locks ≡ slots_in v.locks
  locks_link {s} {leaf} {b = b} t = ap (λ (z : View). slots_in z.locks) t.goes ∙ (noting_same v s (Link s b) leaf true).locks

  pub locks_replace : {s key value : ℕ} → Told k v (acts.ReplaceValue s key value) n w → slots_in w.locks ≡ slots_in v.locks
  locks_replace {s} {key} {value} t = ap (λ (z : View). slots_in z.locks) t.goes ∙ (noting_same v s (Value s) value true).locks

-- The node of a delete with two children is marked, and its update begun with any even number.
pub passes_copy_mark : {k : Shape} {op : Op} {kept n copy next_key : ℕ} {v w : View} {d : Node} {u : Successor}
    → IsSlotOf (Some copy) v.hands.spare → IsAt k op kept (at.CopyMark d u next_key) v → Told k v (acts.Mark d.node (2 * d.generation)) n w
    → (expected : ℕ) → expected % 2 ≡ 0 → IsAt k op kept (at.Commit (update.Copy d u next_key copy) expected) w
passes_copy_mark {k} {op} {kept} {n} {copy} {next_key} {v} {w} {d} {u} is a t expected even =
    subst (λ x. IsAt k op kept (at.Commit (update.Copy d u next_key (or_root x)) expected) w) (own_spare a is)
    (commits_any (passes a refl t) expected even)

-- The front is made odd, or was found otherwise.
pub passes_commit : {k : Shape} {op : Op} {kept n : ℕ} {v w : View} {up : Making} {expected : ℕ} → IsAt k op kept (at.Commit up expected) v
    → Told k v (acts.OpenCommit expected) n w → IsAt k op kept (if n == expected then at.Store up expected else at.Commit up (n + n % 2)) w
passes_commit {k} {op} {kept} {n} {v} {w} {up} {expected} a t =
    passes_as a refl refl (stage_if (n == expected) (go (record a.own { front = expected + 1 }) (at.Store up expected)) (go (record a.own { front = n }) (at.Commit up (n + n % 2)))) t

pub passes_commit_made : {k : Shape} {op : Op} {kept n : ℕ} {v w : View} {up : Making} {expected : ℕ} → n ≡ expected
    → IsAt k op kept (at.Commit up expected) v → Told k v (acts.OpenCommit expected) n w → IsAt k op kept (at.Store up expected) w
passes_commit_made {n = n} {expected = expected} same a t = at_true _ (eq-eqb n expected same) (passes_commit a t)

pub passes_commit_again : {k : Shape} {op : Op} {kept n : ℕ} {v w : View} {up : Making} {expected : ℕ} → n ≢ expected
    → IsAt k op kept (at.Commit up expected) v → Told k v (acts.OpenCommit expected) n w → (next : ℕ) → next % 2 ≡ 0
    → IsAt k op kept (at.Commit up next) w
passes_commit_again {n = n} {expected = expected} other a t next even =
    commits_any (at_false _ (ne_eqb n expected other) (passes_commit a t)) next even

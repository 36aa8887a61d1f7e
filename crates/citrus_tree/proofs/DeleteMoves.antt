-- What a delete does under its locks, point by point: a bypass, or a move; and what these retire.
use Rattle.std.proofs.Common.{◌≡◌, ℕ, List, [], ◌∷◌, ◌++◌, ◌⊎◌, inl, inr, ⊎_elim, refl, sym, subst, ◌∙◌, append-nil, ◌≢◌, suc, ◌+◌, ◌<◌, ◌≤◌, None, length, map, ap, arith, ◌-◌, ◌*◌, ◌/◌, ◌==◌, ◌&&◌, ◌||◌, nat_lt, if◌then◌else◌, cond, Bool, true, false, Some, eq-eqb, ne_eqb, Option}
use mathlib.Core.List.{IsPrefix}
use Rattle.prcu_marks.specs.declared.mark.Mark.{Mark}
use Rattle.prcu_marks.specs.declared.mark.Mark.TheVariants.{Done, Unlinked, Began, Ended}
use Rattle.prcu_model.specs.declared.operation.Op.TheVariants.{Del}
use Rattle.prcu_model.specs.declared.operation.Reply.{Reply}
use Rattle.prcu_model.specs.declared.operation.Reply.TheVariants.{Gone}
use Rattle.prcu_model.proofs.ListFacts.{prefix_trans}
use Rattle.core_state.specs.declared.view.View.{View}
use Rattle.seat_table.specs.Gains.{Sees, Told, IsAsked}
use Rattle.seat_table.specs.Seats.{SeatAt, AreListed, IsSlotOf}
use Rattle.tree_points.specs.Points.{HasAdvanced, IsAt, HasLocks}
use Rattle.citrus_tree.specs.Deletes.{HasDone, RetiresBy, retired_slots, KeepsAll, relinked_at, KeepsValue, KeepsWaits, HasCopied, HasDeleted}
use Rattle.citrus_tree.specs.Replies.{AreUnlinkedSince, IsUnlinkedSince, RetiresInOrder, IsMoveWait}
use Rattle.std.proofs.lemmas.Bool.{cases_eq}
use Rattle.std.proofs.lemmas.List.{map-append}
use Rattle.core_state.specs.declared.view.Retired.{Retired}
use Rattle.list_laws.specs.Counts.{times, IsIn}
use Rattle.list_laws.proofs.Lists.{times_here, times_other, times_append}
use mathlib.Core.Option.{some}
use lib.ListN.{get_elem?}
use Rattle.prcu_model.specs.declared.operation.Op.{Op}
use Rattle.core_state.specs.declared.shape.Shape.{Shape}
use Rattle.core_points.specs.declared.stage.Node.{Node}
use Rattle.core_points.specs.Programs.{deleting, or_root, move_locks, is_some}
use Rattle.tree_points.proofs.Passing.{slots_length, needs, passes, commits_any}
use Rattle.node_slots.proofs.Returns.{listed_length, not_in}
use Rattle.core_state.specs.declared.view.Waiting.{Waiting}
use Rattle.core_state.specs.Steps.{is_grace_for, new_wait, waited_retired, spare_slot}
use Rattle.key_interval.specs.Keys.{Interval}
use Rattle.core_points.specs.declared.stage.Moving.{Moving}
use Rattle.seat_table.specs.Waits.{HasWaited}
use Rattle.prcu_marks.specs.declared.mark.Side.{Side}
use Rattle.prcu_marks.specs.declared.mark.Side.TheVariants.{Left, Right}
use Rattle.core_state.specs.declared.view.HeldLock.{HeldLock}
use Rattle.core_state.specs.declared.words.Field.{Field}
use Rattle.core_state.specs.declared.words.Field.TheVariants.{Life, Link}
use Rattle.core_state.specs.Views.{known_in, known_under}
use Rattle.core_frames.specs.Telling.{IsToldOf}
use Rattle.tree_points.proofs.Locks.{allowed, needs_copy, needs_copy_age, own_spare, passes_copy, passes_copy_age, further, advanced_on}
use Rattle.citrus_tree.specs.Going.{Opened, Closed, RetiresBehind, retired_marks}
use Rattle.citrus_tree.proofs.DeleteUpdates.{keeps, keeps_on, keeps_fill, keeps_locked_load, keeps_own_life, spare_fill, spare_locked_load, spare_own_life, value_fill, value_load, value_on, value_own_life, unlinked_gone}
use Rattle.core_laws.proofs.Locks.{loaded_known}
use Rattle.core_points.specs.declared.stage.Successor.{Successor}
use Rattle.core_frames.proofs.Roles.{map_append}
use Rattle.core_state.specs.declared.view.Held.{Held}
use Rattle.core_points.specs.declared.stage.Stage.TheVariants as at
use Rattle.core_points.specs.declared.stage.Last.TheVariants as last
use Rattle.core_points.specs.declared.stage.Update.TheVariants as update
use Rattle.core_state.specs.declared.act.Act.TheVariants as acts
use Rattle.core_state.specs.declared.act.Part.TheVariants as part

-- In which order a delete retires and lists its slots.

-- The old successor was unlinked after what had been seen.
pub unlinked_there : (v w : View) (h : List Mark) (old : ℕ) → Sees v h → w.seen ≡ h ++ Unlinked old ∷ [] → IsUnlinkedSince v.seen old w.seen
unlinked_there v w h old sees e = record { until = h; since = sees.begins; stands = ([], append-nil (h ++ Unlinked old ∷ []) ∙ sym e) }

pub unlinked_on : {old : ℕ} {before from seen later : List Mark} → IsPrefix before from → IsUnlinkedSince from old seen
    → IsPrefix seen later → IsUnlinkedSince before old later
unlinked_on {old} {before} {from} {seen} {later} first i last = record {
  until = i.until;
  since = prefix_trans before from i.until first i.since;
  stands = prefix_trans (i.until ++ Unlinked old ∷ []) seen later i.stands last;
}

-- The slot that the update took out is listed alone,
pub one_retired : (s t : SeatAt) (key node number : ℕ) → HasDone s.view (Del key) node [] number t.view → t.listed ≡ s.listed ++ node ∷ []
    → RetiresInOrder s key number t
one_retired s t key node number d listed = record {
  before = d.before;
  number_is = d.number_is;
  deleted = node;
  unlinked = d.stands;
  old = [];
  later = tt;
  kept = s.listed;
  kept_is = inl refl;
  listed = listed;
}

-- or the old successor behind it.
pub two_retired : (s t u : SeatAt) (key node old number : ℕ) → HasDone s.view (Del key) node [] number t.view → t.listed ≡ s.listed
    → IsUnlinkedSince t.view.seen old u.view.seen → u.listed ≡ t.listed ++ node ∷ (old ∷ []) → RetiresInOrder s key number u
two_retired s t u key node old number d same i listed = record {
  before = d.before;
  number_is = d.number_is;
  deleted = node;
  unlinked = prefix_trans _ t.view.seen u.view.seen d.stands
      (prefix_trans t.view.seen i.until u.view.seen i.since
      (prefix_trans i.until (i.until ++ Unlinked old ∷ []) u.view.seen (Unlinked old ∷ [], refl) i.stands));
  old = old ∷ [];
  later = unlinked_on d.stands i ([], append-nil u.view.seen);
  kept = t.listed;
  kept_is = inl same;
  listed = listed;
}

-- So it lists two at most.
pub few_retired : (s t : SeatAt) (key number : ℕ) → RetiresInOrder s key number t → length t.listed ≤ length s.listed + 2
few_retired s t key number x =
    let long = ap length x.listed ∙ lengths x.kept (x.deleted ∷ x.old) in
    let old : length x.old ≤ 1 = few _ _ x.old x.later in
    ⊎_elim
    (λ (e : x.kept ≡ s.listed). let a = ap length e in omega arith)
    (λ (e : x.kept ≡ []). let a = ap length e in omega arith)
    x.kept_is
  where
    lengths : (xs ys : List ℕ) → length (xs ++ ys) ≡ length xs + length ys
    lengths [] ys = omega arith
    lengths (y ∷ xs) ys = let e = lengths xs ys in omega arith

    few : (from seen : List Mark) (old : List ℕ) → AreUnlinkedSince from old seen → length old ≤ 1
    few from seen [] later = omega arith
    few from seen (o ∷ []) later = omega arith
    few from seen (o ∷ (other ∷ more)) later = absurd later

-- What came before leaves the list as it was, or empty.
pub retires_before : {marks : List Mark} (r s t : SeatAt) (key number : ℕ) → HasAdvanced r.view s.view marks
    → (s.listed ≡ r.listed) ⊎ (s.listed ≡ []) → RetiresInOrder s key number t → RetiresInOrder r key number t
retires_before r s t key number g first x = record {
  before = x.before;
  number_is = x.number_is;
  deleted = x.deleted;
  unlinked = subst (λ p. IsPrefix (x.before ++ Done (record { caller = p; op = Del key })
      ∷ (Unlinked x.deleted ∷ [])) t.view.seen) g.same x.unlinked;
  old = x.old;
  later = subst (λ p. AreUnlinkedSince (x.before
      ++ Done (record { caller = p; op = Del key }) ∷ (Unlinked x.deleted ∷ [])) x.old t.view.seen) g.same x.later;
  kept = x.kept;
  kept_is = ⊎_elim (λ (e : x.kept ≡ s.listed). ⊎_elim (λ (f : s.listed ≡ r.listed). inl (e ∙ f)) (λ (f : s.listed ≡ []). inr (e ∙ f)) first)
      (λ (e : x.kept ≡ []). inr e) x.kept_is;
  listed = x.listed;
}

pub when_gone : {s t : SeatAt} {key number : ℕ} {reply : Reply} → reply ≡ Gone → RetiresBy s key reply number t
    → RetiresInOrder s key number t
when_gone {s} {t} {key} {number} e x = subst (λ (r : Reply). RetiresBy s key r number t) e x

-- The retired slots that a seat lists, and those that its view has.

-- a slot that is retired stands somewhere
pub in_slots : (rs : List Retired) (s : ℕ) → 1 ≤ times s (map (λ (r : Retired). r.slot) rs)
    → (i : ℕ) × (r : Retired) × ((get_elem? rs i ≡ some r) × (r.slot ≡ s))
in_slots [] s least = absurd (omega arith)
in_slots (r ∷ rs) s least = ⊎_elim
    (λ (e : r.slot ≡ s). (0, r, (refl, e)))
    (λ (ne : r.slot ≢ s).
    let rest = in_slots rs s (let a = times_other s r.slot (map (λ (x : Retired). x.slot) rs) ne in omega arith) in
    (suc rest.0, rest.1, ((rest.2).0, (rest.2).1)))
    (cases_eq r.slot s)

-- One more is retired, which isn't listed yet.
module _ (v w : View) (slot : ℕ) (more : retired_slots w ≡ retired_slots v ++ slot ∷ []) where
  more_times : (t : ℕ) → times t (retired_slots w) ≡ times t (retired_slots v) + times t (slot ∷ [])
  more_times t = ap (times t) more ∙ times_append t (retired_slots v) (slot ∷ [])

  pub now_retired : 1 ≤ times slot (retired_slots w)
  now_retired = let a = more_times slot in let b = times_here slot [] in omega arith

  pub yet_unlisted : (listed : List ℕ) → ((t : ℕ) → times t listed ≡ times t (retired_slots v)) → times slot (retired_slots w) ≤ 1
      → IsIn listed slot → ⊥
  yet_unlisted listed each once = not_in slot listed
      (let a = more_times slot in let b = times_here slot [] in let e = each slot in omega arith)

  pub listed_more : (listed : List ℕ) → ((t : ℕ) → times t listed ≡ times t (retired_slots v)) → (t : ℕ)
      → times t (listed ++ slot ∷ []) ≡ times t (retired_slots w)
  listed_more listed each t = times_append t listed (slot ∷ []) ∙ (let a = more_times t in let e = each t in omega arith)

-- A delete has room.
pub few_listed : {k : Shape} {op : Op} {kept : ℕ} (s : SeatAt) (d : Node) → IsAt k op kept (deleting d None) s.view → 16 ≤ k.room
    → AreListed s → length s.listed < k.room
few_listed s d a roomy listed =
    let few : length a.own.retired ≤ a.own.room - 2 = ((a.fits.point).deleting).1.room ((a.fits.point).deleting).0 in
    let room = a.room_is in
    let same : length (map (λ (r : Retired). r.slot) s.view.hands.retired) ≡ length a.own.retired = ap length a.fits.owns.retired_are in
    let long = listed_length s listed in
    let slots = slots_length s.view.hands.retired in
    omega arith

-- The wait of a move, and what is retired after it.

pub waited_for : {k : Shape} {v w : View} {keys : Interval} (low high : ℕ) → keys ≡ record { low = low; high = high }
    → HasWaited k v keys.low keys.high w → HasWaited k v low high w
waited_for {k} {v} {w} low high e waited = subst (λ (x : Interval). HasWaited k v x.low x.high w) e waited

waited_slots : (wait : Waiting) (rs : List Retired)
    → map (λ (r : Retired). r.slot) (map (waited_retired wait) rs) ≡ map (λ (r : Retired). r.slot) rs
waited_slots wait [] = refl
waited_slots wait (r ∷ rs) = ap (λ xs. r.slot ∷ xs) (waited_slots wait rs)

pub waited_keeps : {k : Shape} {v w : View} {low high : ℕ} → HasWaited k v low high w → retired_slots w ≡ retired_slots v
waited_keeps {k} {v} {w} (mid, began, over) =
    ap (λ (x : View). map (λ (r : Retired). r.slot) x.hands.retired) over.ended.others ∙ waited_slots over.wait mid.hands.retired
    ∙ ap (λ (x : View). map (λ (r : Retired). r.slot) x.hands.retired) began.others

-- It isn't for everybody, so that no slot was waited for by it.
low_first : (low : ℕ) (wait : Waiting) (u : ℕ) → wait.low ≡ low → low ≢ 0 → is_grace_for wait u ≡ false
low_first low wait u is ne = ap (λ b. nat_lt u wait.began && (b && (wait.high == 18446744073709551615)))
    (ap (λ n. n == 0) is ∙ ne_eqb low 0 ne) ∙ and_none (nat_lt u wait.began) (wait.high == 18446744073709551615)
  where
    and_none : (a x : Bool) → (a && (false && x)) ≡ false
    and_none true x = refl
    and_none false x = refl

abbrev mark_of : Retired → ℕ × ℕ × Bool
mark_of r = (r.slot, r.unlinked, r.waited)

abbrev record_marks : Retired → Bool → List (ℕ × ℕ × Bool) → List (ℕ × ℕ × Bool)
record_marks r waited later = (r.slot, r.unlinked, waited) ∷ later

waited_marks : (low : ℕ) (wait : Waiting) (rs : List Retired) → wait.low ≡ low → low ≢ 0 → map mark_of (map (waited_retired wait) rs) ≡ map mark_of rs
waited_marks low wait [] is ne = refl
waited_marks low wait (r ∷ rs) is ne =
    let same : (r.waited || is_grace_for wait r.unlinked) ≡ r.waited = ap (λ b. r.waited || b) (low_first low wait r.unlinked is ne) ∙ or_none r.waited in
    ap (λ b. record_marks r b (map mark_of (map (waited_retired wait) rs))) same ∙ ap (λ l. mark_of r ∷ l) (waited_marks low wait rs is ne)
  where
    or_none : (a : Bool) → (a || false) ≡ a
    or_none true = refl
    or_none false = refl

pub waited_stays : {k : Shape} {v w : View} {low high : ℕ} → HasWaited k v low high w → low ≢ 0 → retired_marks w ≡ retired_marks v
waited_stays {k} {v} {w} {low} {high} (mid, began, over) ne =
    let same : Some over.wait ≡ Some (new_wait v low high began.clock began.leaves.before) = sym over.was ∙ began.wait_is in
    let wait_is : over.wait ≡ new_wait v low high began.clock began.leaves.before = cc in
    ap retired_marks over.ended.others ∙ waited_marks low over.wait mid.hands.retired (ap (λ (x : Waiting). x.low) wait_is) ne
    ∙ ap retired_marks began.others

-- Two more are retired, of which none is listed yet.
module _ (listed : List ℕ) (v w : View) (node old : ℕ) (each : (t : ℕ) → times t listed + times t (node ∷ []) ≡ times t (retired_slots v))
    (more : retired_slots w ≡ retired_slots v ++ old ∷ []) where
  two_times : (t : ℕ) → times t (retired_slots w) ≡ times t listed + times t (node ∷ []) + times t (old ∷ [])
  two_times t = (let a = ap (times t) more ∙ times_append t (retired_slots v) (old ∷ []) in let e = each t in omega (arith, a, e))

  pub node_retired : 1 ≤ times node (retired_slots w)
  node_retired = let a = two_times node in let b = times_here node [] in omega arith

  pub old_retired : 1 ≤ times old (retired_slots w)
  old_retired = let a = two_times old in let b = times_here old [] in omega arith

  pub node_unlisted : times node (retired_slots w) ≤ 1 → IsIn listed node → ⊥
  node_unlisted once = not_in node listed (let a = two_times node in let b = times_here node [] in omega arith)

  pub old_unlisted : times old (retired_slots w) ≤ 1 → IsIn (listed ++ node ∷ []) old → ⊥
  old_unlisted once = not_in old (listed ++ node ∷ [])
      (let a = two_times old in let b = times_here old [] in let d = times_append old listed (node ∷ []) in omega arith)

  pub two_listed : (t : ℕ) → times t ((listed ++ node ∷ []) ++ old ∷ []) ≡ times t (retired_slots w)
  two_listed t = (let a = two_times t in let b = times_append t (listed ++ node ∷ []) (old ∷ []) in
      let d = times_append t listed (node ∷ []) in omega arith)

pub length_more : (xs : List ℕ) (x : ℕ) → length (xs ++ x ∷ []) ≡ length xs + 1
length_more [] x = refl
length_more (y ∷ xs) x = let e = length_more xs x in omega arith

-- A bypass, point by point.

pub opened_keeps : (v w : View) (front : ℕ) → Opened v front w → KeepsAll v w
opened_keeps v w front e = keeps v w e.steps (allowed e.rest refl) (ap (λ (x : View). x.seen) e.rest) (ap (λ (x : View). x.wait) e.rest)
    (ap (λ (x : View). x.counts.waits) e.rest) (ap retired_marks e.rest) (ap (λ (x : View). map (λ (l : HeldLock). l.slot) x.locks) e.rest)

pub closed_keeps : (v w : View) → Closed v w → KeepsAll v w
closed_keeps v w e = keeps v w e.steps (allowed e.rest refl) (ap (λ (x : View). x.seen) e.rest) (ap (λ (x : View). x.wait) e.rest)
    (ap (λ (x : View). x.counts.waits) e.rest) (ap retired_marks e.rest) (ap (λ (x : View). map (λ (l : HeldLock). l.slot) x.locks) e.rest)

abbrev pub only : Node → ℕ
only d = if d.left == 0 then d.right else d.left

-- the child is a slot, or there is none: its number fits 32 bits
child_fits : {k : Shape} {op : Op} {kept : ℕ} {v : View} {h : List Mark} {word : Field → ℕ} (d : Node) → IsAt k op kept (deleting d None) v
    → IsToldOf k.slots k.places k.room v h word → only d < 4294967296
child_fits {k} {op} {kept} {v} d a told = by (d.left == 0)
  where
    life : known_in (known_under v d.node) (Life d.node) ≡ Some (2 * d.generation)
    life = loaded_known (known_under v d.node) (Life d.node) (2 * d.generation) (a.fits.point).unmarked

    by : (z : Bool) → cond z d.right d.left < 4294967296
    by true = let f = (a.fits.point).few in (told.links_within f.0 d.node d.generation f.2.kept f.2.recorded life Right d.right
        (loaded_known (known_under v d.node) (Link d.node Right) d.right f.2.right)).1
    by false = let f = (a.fits.point).few in (told.links_within f.0 d.node d.generation f.2.kept f.2.recorded life Left d.left
        (loaded_known (known_under v d.node) (Link d.node Left) d.left f.2.left)).1

-- so the number that is taken for it is it
pub child_is : {k : Shape} {op : Op} {kept n link child : ℕ} {v w : View} (d : Node) → (link < 4294967296 → child ≡ link) → link ≡ only d
    → IsAt k op kept (deleting d None) v → Told k v (acts.Mark d.node (2 * d.generation)) n w → child ≡ only d
child_is d is link_is a t = is (subst (λ x. x < 4294967296) (sym link_is) (child_fits d a t.before.tells)) ∙ link_is

module _ {k : Shape} {op : Op} {kept : ℕ} (d : Node) (child : ℕ) (is : child ≡ only d) where
  pub marking : {v : View} → IsAt k op kept (deleting d None) v → IsAt k op kept (at.Mark d child) v
  marking {v} a = subst (λ x. IsAt k op kept (at.Mark d x) v) (sym is) a

  pub marked : {v w : View} {n : ℕ} → IsAt k op kept (deleting d None) v → Told k v (acts.Mark d.node (2 * d.generation)) n w
      → IsAt k op kept (at.Commit (update.Bypass d child) 0) w
  marked a t = commits_any (passes (marking a) refl t) 0 refl

-- with the front to be opened, and open
pub bypass_paid : {k : Shape} {op : Op} {kept child e : ℕ} {v : View} (d : Node) → IsAt k op kept (at.Commit (update.Bypass d child) e) v
    → (v.moving ≡ None) × (v.commit ≡ None)
bypass_paid d a = let q = ((a.fits.point).0).quiet in (q.settled, q.turn_is)

pub settled : {k : Shape} {op : Op} {kept number child : ℕ} {v : View} (slot : ℕ) (b : Side) → child ≢ 0
    → IsAt k op kept (relinked_at number slot b child) v → IsAt k op kept (at.Unlock (last.Gone number)) v
settled {k} {op} {kept} {number} {child} {v} slot b some_child a =
    subst (λ z. IsAt k op kept (if z then at.EmptyTag number slot b else at.Unlock (last.Gone number)) v) (ne_eqb child 0 some_child) a

pub emptied : {k : Shape} {op : Op} {kept number slot child : ℕ} {v : View} (b : Side) → child ≡ 0
    → IsAt k op kept (relinked_at number slot b child) v → IsAt k op kept (at.EmptyTag number slot b) v
emptied {k} {op} {kept} {number} {slot} {child} {v} b none a =
    subst (λ z. IsAt k op kept (if z then at.EmptyTag number slot b else at.Unlock (last.Gone number)) v) (eq-eqb child 0 none) a

pub half_two : (front : ℕ) → front / 2 + 1 ≡ (front + 2) / 2
half_two front = omega arith

-- A move fills the spare as its copy, step by step.

module _ {k : Shape} {op : Op} {kept : ℕ} {d : Node} {u : Successor} {v : View} (copy : ℕ) (spare : IsSlotOf (Some copy) v.hands.spare)
    (a : IsAt k op kept (at.SuccessorKey d u) v) where
  pub loads_key : IsAsked k v (acts.LockedLoad u.slot part.Key)
  loads_key = needs a refl

  module _ {next_key : ℕ} {v1 : View} (t1 : Told k v (acts.LockedLoad u.slot part.Key) next_key v1) where
    at1 : IsAt k op kept (at.SuccessorValue d u next_key) v1
    at1 = passes a refl t1

    spare1 : IsSlotOf (Some copy) v1.hands.spare
    spare1 = spare_locked_load k _ _ _ _ _ copy t1 spare

    pub loads_value : IsAsked k v1 (acts.LockedLoad u.slot part.Value)
    loads_value = needs at1 refl

    module _ {value : ℕ} {v2 : View} (t2 : Told k v1 (acts.LockedLoad u.slot part.Value) value v2) where
      at2 : IsAt k op kept (at.CopyField d u next_key value 0) v2
      at2 = passes at1 refl t2

      spare2 : IsSlotOf (Some copy) v2.hands.spare
      spare2 = spare_locked_load k _ _ _ _ _ copy t2 spare1

      pub copies_key : IsAsked k v2 (acts.Fill copy part.Key next_key)
      copies_key = needs_copy 0 spare2 at2

      module _ {n3 : ℕ} {v3 : View} (t3 : Told k v2 (acts.Fill copy part.Key next_key) n3 v3) where
        at3 : IsAt k op kept (at.CopyField d u next_key value 1) v3
        at3 = passes_copy 0 spare2 at2 t3

        spare3 : IsSlotOf (Some copy) v3.hands.spare
        spare3 = spare_fill k _ _ _ _ _ _ copy t3 spare2

        pub copies_value : IsAsked k v3 (acts.Fill copy part.Value value)
        copies_value = needs_copy 1 spare3 at3

        module _ {n4 : ℕ} {v4 : View} (t4 : Told k v3 (acts.Fill copy part.Value value) n4 v4) where
          at4 : IsAt k op kept (at.CopyField d u next_key value 2) v4
          at4 = passes_copy 1 spare3 at3 t4

          spare4 : IsSlotOf (Some copy) v4.hands.spare
          spare4 = spare_fill k _ _ _ _ _ _ copy t4 spare3

          pub copies_left : IsAsked k v4 (acts.Fill copy (part.Link Left) d.left)
          copies_left = needs_copy 2 spare4 at4

          module _ {n5 : ℕ} {v5 : View} (t5 : Told k v4 (acts.Fill copy (part.Link Left) d.left) n5 v5) where
            at5 : IsAt k op kept (at.CopyField d u next_key value 3) v5
            at5 = passes_copy 2 spare4 at4 t5

            spare5 : IsSlotOf (Some copy) v5.hands.spare
            spare5 = spare_fill k _ _ _ _ _ _ copy t5 spare4

            pub copies_right : IsAsked k v5 (acts.Fill copy (part.Link Right) d.right)
            copies_right = needs_copy 3 spare5 at5

            module _ {n6 : ℕ} {v6 : View} (t6 : Told k v5 (acts.Fill copy (part.Link Right) d.right) n6 v6) where
              at6 : IsAt k op kept (at.CopyAge d u next_key) v6
              at6 = passes_copy 3 spare5 at5 t6

              spare6 : IsSlotOf (Some copy) v6.hands.spare
              spare6 = spare_fill k _ _ _ _ _ _ copy t6 spare5

              pub loads_age : IsAsked k v6 (acts.LoadOwnLife copy)
              loads_age = needs_copy_age spare6 at6

              module _ {n7 : ℕ} {v7 : View} (t7 : Told k v6 (acts.LoadOwnLife copy) n7 v7) where
                pub copied_at : IsAt k op kept (at.CopyLock d u next_key) v7
                copied_at = passes_copy_age spare6 at6 t7

                pub copied_spare : IsSlotOf (Some copy) v7.hands.spare
                copied_spare = spare_own_life k _ _ _ _ copy t7 spare6

                pub copied_same : KeepsAll v v7
                copied_same =
                    let rest = keeps_on _ _ _ (keeps_fill k _ _ _ _ _ _ t5)
                    (keeps_on _ _ _ (keeps_fill k _ _ _ _ _ _ t6) (keeps_own_life k _ _ _ _ t7)) in
                    let pair = keeps_on _ _ _ (keeps_fill k _ _ _ _ _ _ t3) (keeps_on _ _ _ (keeps_fill k _ _ _ _ _ _ t4) rest) in
                    keeps_on _ _ _ (keeps_locked_load k _ _ _ _ _ t1) (keeps_on _ _ _ (keeps_locked_load k _ _ _ _ _ t2) pair)

                -- the node's value is known as before: what was loaded is of the successor, and what was filled is in the copy
                pub copied_value : KeepsValue d.node v v7
                copied_value =
                    let q = at1.fits.point in
                    let both = ((q.0).copying).both in
                    let apart : u.slot ≢ d.node = (both.3).apart.from_node in
                    let aside : copy ≢ d.node = (λ same. (q.1).node (ap or_root (own_spare at1 spare1) ∙ same)) in
                    value_on (value_load u.slot d.node part.Key refl t1)
                    (value_on (value_load u.slot d.node part.Value (ne_eqb u.slot d.node apart) t2)
                    (value_on (value_fill copy d.node part.Key refl t3)
                    (value_on (value_fill copy d.node part.Value (ne_eqb copy d.node aside) t4)
                    (value_on (value_fill copy d.node (part.Link Left) refl t5)
                    (value_on (value_fill copy d.node (part.Link Right) refl t6) (value_own_life copy d.node t7))))))

-- A move, point by point.

pub copy_paid : {k : Shape} {op : Op} {kept next_key copy e : ℕ} {v : View} (d : Node) (u : Successor)
    → IsAt k op kept (at.Commit (update.Copy d u next_key copy) e) v → (v.moving ≡ None) × (v.commit ≡ None)
copy_paid d u a = let q = (((a.fits.point).0).copying).quiet in (q.settled, q.turn_is)

-- the right of the old successor is a slot, or there is none: its number fits 32 bits
right_fits : {k : Shape} {op : Op} {kept child : ℕ} {v : View} {h : List Mark} {word : Field → ℕ} (m : Moving)
    → IsAt k op kept (at.Unlink m child) v → IsToldOf k.slots k.places k.room v h word → child < 4294967296
right_fits {child = child} {v = v} m a told =
    let p = a.fits.point in
    let i = (p.0).move in
    (told.old_links_within i.move i.is Right child
    (subst (λ s. known_in (known_under v s) (Link s Right) ≡ Some child) (sym i.old_is) p.3)).1

-- so the number that is taken for it is it
pub unlinking : {k : Shape} {op : Op} {kept right child : ℕ} {v : View} {h : List Mark} {word : Field → ℕ} (m : Moving)
    → (right < 4294967296 → child ≡ right) → IsToldOf k.slots k.places k.room v h word → IsAt k op kept (at.Unlink m right) v
    → IsAt k op kept (at.Unlink m child) v
unlinking {k} {op} {kept} {right} {child} {v} m is told a = subst (λ x. IsAt k op kept (at.Unlink m x) v) (sym (is (right_fits m a told))) a

-- what the unlinking leaves
pub record Unlinks (v : View) (old : ℕ) (w : View) : Type 0 where
  pub advanced : HasAdvanced v w []
  pub unlinked : IsUnlinkedSince v.seen old w.seen
  pub retired : retired_slots w ≡ retired_slots v ++ old ∷ []
  pub stay : RetiresBehind v w
  pub waits : KeepsWaits v w

pub copy_unlinks : (k : Shape) (v w : View) (copy old child n : ℕ) → Told k v (acts.UnlinkRight copy old child) n w → Unlinks v old w
copy_unlinks k v w copy old child n t = record {
  advanced = unlinked_gone v w t.marks old (further v _ t.goes refl) t.sees (allowed t.goes refl) (ap (λ (x : View). x.seen) t.goes);
  unlinked = unlinked_there v w t.marks old t.sees (ap (λ (x : View). x.seen) t.goes);
  retired = ap retired_slots t.goes ∙ map_append v.hands.retired _;
  stay = (_, ap retired_marks t.goes ∙ map-append (λ (r : Retired). (r.slot, r.unlinked, r.waited)) v.hands.retired _);
  waits = record { wait = ap (λ (x : View). x.wait) t.goes; count = ap (λ (x : View). x.counts.waits) t.goes };
}

pub parent_unlinks : (k : Shape) (v w : View) (parent old child n : ℕ) → Told k v (acts.UnlinkLeft parent old child) n w → Unlinks v old w
parent_unlinks k v w parent old child n t = record {
  advanced = unlinked_gone v w t.marks old (further v _ t.goes refl) t.sees (allowed t.goes refl) (ap (λ (x : View). x.seen) t.goes);
  unlinked = unlinked_there v w t.marks old t.sees (ap (λ (x : View). x.seen) t.goes);
  retired = ap retired_slots t.goes ∙ map_append v.hands.retired _;
  stay = (_, ap retired_marks t.goes ∙ map-append (λ (r : Retired). (r.slot, r.unlinked, r.waited)) v.hands.retired _);
  waits = record { wait = ap (λ (x : View). x.wait) t.goes; count = ap (λ (x : View). x.counts.waits) t.goes };
}

-- the locks of a move
pub below_same : {v : View} (m : Moving) → m.successor.parent ≡ m.node.node → HasLocks (move_locks m) v
    → HasLocks (m.successor.slot ∷ m.copy ∷ (m.node.node ∷ (m.node.parent ∷ []))) v
below_same {v} m e has = subst (λ z. HasLocks (m.successor.slot
    ∷ cond z (m.copy ∷ (m.node.node ∷ (m.node.parent ∷ []))) (m.successor.parent ∷ (m.copy ∷ (m.node.node ∷ (m.node.parent ∷ []))))) v)
    (eq-eqb m.successor.parent m.node.node e) has

pub below_other : {v : View} (m : Moving) → m.successor.parent ≢ m.node.node → HasLocks (move_locks m) v
    → HasLocks (m.successor.slot ∷ m.successor.parent ∷ (m.copy ∷ (m.node.node ∷ (m.node.parent ∷ [])))) v
below_other {v} m e has = subst (λ z. HasLocks
    (m.successor.slot ∷ cond z (m.copy ∷ (m.node.node ∷ (m.node.parent ∷ [])))
    (m.successor.parent ∷ (m.copy ∷ (m.node.node ∷ (m.node.parent ∷ []))))) v) (ne_eqb m.successor.parent m.node.node e) has

-- A move whole: its copy, its wait and its end.

-- a delete has a spare, and room
no_spare : (o : Option Held) → IsSlotOf None o → is_some (spare_slot o) ≡ true → ⊥
no_spare None is e = cc
no_spare (Some held) is e = is

pub has_spare : {k : Shape} {op : Op} {kept : ℕ} {v : View} (d : Node) (u : Successor) → IsAt k op kept (at.SuccessorKey d u) v
    → IsSlotOf None v.hands.spare → ⊥
has_spare {v = v} d u a is = no_spare v.hands.spare is
    (let del = ((a.fits.point).copying).deleting in ap is_some a.fits.owns.spare_is ∙ del.1.has_spare del.0)

pub few_moved : {k : Shape} {op : Op} {kept : ℕ} (s : SeatAt) (d : Node) (u : Successor) → IsAt k op kept (at.SuccessorKey d u) s.view
    → 16 ≤ k.room → AreListed s → length s.listed + 1 < k.room
few_moved s d u a roomy listed =
    let del = ((a.fits.point).copying).deleting in
    let few : length a.own.retired ≤ a.own.room - 2 = del.1.room del.0 in
    let room = a.room_is in
    let same : length (map (λ (r : Retired). r.slot) s.view.hands.retired) ≡ length a.own.retired = ap length a.fits.owns.retired_are in
    let long = listed_length s listed in
    let slots = slots_length s.view.hands.retired in
    omega arith

pub one_listed : (listed : List ℕ) (v w : View) (node : ℕ) → ((t : ℕ) → times t listed ≡ times t (retired_slots v))
    → retired_slots w ≡ retired_slots v ++ node ∷ [] → (t : ℕ) → times t listed + times t (node ∷ []) ≡ times t (retired_slots w)
one_listed listed v w node each more t = (let a = ap (times t) more ∙ times_append t (retired_slots v) (node ∷ []) in let e = each t in
    omega (arith, a, e))

-- its update, with the wait after it
pub move_deletes : (v w x y : View) (key next_key node number : ℕ) → HasAdvanced v w [] → HasCopied w key next_key node number x
    → HasAdvanced x y (Began x.allowance.place x.counts.waits (key + 1) next_key ∷ (Ended x.allowance.place x.counts.waits ∷ []))
    → HasDeleted v key number y
move_deletes v w x y key next_key node number first copied later =
    let place : x.allowance.place ≡ v.allowance.place = copied.done.advanced.same ∙ first.same in
    let mine = subst (λ p. HasAdvanced v x (Done (record { caller = p; op = Del key }) ∷ [])) first.same (advanced_on first copied.done.advanced) in
    let marks = λ (p : ℕ). Began p x.counts.waits (key + 1) next_key ∷ (Ended p x.counts.waits ∷ []) in
    record {
      node = node;
      after = marks v.allowance.place;
      done = record {
        before = copied.done.before;
        advanced = advanced_on mine (subst (λ p. HasAdvanced x y (marks p)) place later);
        since = prefix_trans v.seen w.seen copied.done.before first.begins copied.done.since;
        stands = subst (λ p. IsPrefix (copied.done.before
            ++ Done (record { caller = p; op = Del key }) ∷ (Unlinked node ∷ [])) y.seen) first.same
            (prefix_trans _ x.seen y.seen copied.done.stands later.begins);
        number_is = copied.done.number_is;
      };
      move = inr (x.counts.waits, next_key, refl, copied.next);
    }

-- Nothing of the place's own was left before.
pub deleted_later : (v w x : View) (key number : ℕ) → HasAdvanced v w [] → HasDeleted w key number x → HasDeleted v key number x
deleted_later v w x key number g d = record {
  node = d.node;
  after = d.after;
  done = record {
    before = d.done.before;
    advanced = subst (λ p. HasAdvanced v x (Done (record { caller = p; op = Del key }) ∷ d.after)) g.same (advanced_on g d.done.advanced);
    since = prefix_trans v.seen w.seen d.done.before g.begins d.done.since;
    stands = subst (λ p. IsPrefix (d.done.before ++ Done (record { caller = p; op = Del key })
        ∷ (Unlinked d.node ∷ [])) x.seen) g.same d.done.stands;
    number_is = d.done.number_is;
  };
  move = ⊎_elim (λ (none : d.after ≡ []). inl none)
      (λ (m : IsMoveWait w d.done.before key d.after). inr
      (m.0, m.1, m.2 ∙ ap (λ p. Began p m.0 (key + 1) m.1 ∷ (Ended p m.0 ∷ [])) g.same, m.3)) d.move;
}

pub bypass_deletes : (v w : View) (key node number : ℕ) → HasDone v (Del key) node [] number w → HasDeleted v key number w
bypass_deletes v w key node number d = record { node = node; after = []; done = d; move = inl refl }

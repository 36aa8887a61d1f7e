-- The frames of five groups: slots, locks, counts, the front and seats.
use Rattle.std.proofs.Common.{◌≡◌, ℕ, ◌+◌, ◌<◌, ◌≤◌, ◌==◌, List, length, set, sym, ap, subst, ◌∙◌, None, true, ◌/◌, ◌⊎◌, [], map, Some, ⊎_elim, inl, inr, ◌*◌, arith, refl, ◌≢◌, Bool, false, cond, ◌^◌, ◌∷◌, ◌++◌, Option, ne_eqb, length-append}
use mathlib.Core.Option.{some}
use mathlib.Core.Logic.{dite}
use lib.ListN.{get_elem?}
use Rattle.prcu_marks.specs.declared.mark.Mark.{Mark}
use Rattle.core_state.specs.declared.words.Field.TheVariants.{State, Life, Lock, Tag, Clock, Free, Front, Moved}
use Rattle.core_state.specs.declared.view.Held.{Held}
use Rattle.core_state.specs.declared.view.Retired.{Retired}
use Rattle.core_state.specs.declared.view.View.{View}
use Rattle.list_laws.specs.Counts.{times, total, IsIn, Each}
use Rattle.core_state.specs.Memory.{flag, IsEven, IsOdd, Memory, sum_below, count_below, has}
use Rattle.core_state.specs.Views.{retired_of, slots_of, known_in, lock_of, LoadedGeneration, readings_of, unraised_of, emptied_among, Works, places_of, open_of, IsUnused}
use Rattle.core_state.specs.Tree.{Chart}
use Rattle.core_state.specs.Parts.{HasFewSpent, HasFewSlots, IsRetired, IsRetiredOf, IsHeldKnown, AreHandsKnown, SlotParts, IsHolderOf, HasFewLocks, IsUnraised, IsLockKept, IsLockKnown, IsReadingKept, LockParts, turns_to_come, CountParts, linked_count, young_count, old_count, IsTurned, IsOddHere, IsLast, FrontParts, HasMet, IsOwned, SectionStands, IsCounted, SeatParts, HasRetired, HasOpen, MakesOdd, HasUnraised, IsHandKnown}
use Rattle.list_laws.proofs.Lists.{each_change, total_same, total_set, each_set, somewhere_at, somewhere_here, somewhere_still, only_at, only_change}
use Rattle.core_frames.proofs.Marks.{SilentMarks, SameEnd, begun_at-same, OtherMarks, cut_at, others_same, others_snoc}
use Rattle.core_frames.proofs.Views.{SameSlots, own_same, content_same, retired_same, spares_same, slots_same, OwnSlots, SameNodes, own_slots, SamePlaces, places_same}
use native.Mathlib.Decide.{ℕ_discrete}
use Rattle.core_state.specs.declared.words.Field.{Field}
use Rattle.core_state.specs.declared.view.HeldLock.{HeldLock}
use Rattle.core_state.specs.declared.view.Reading.{Reading}
use Rattle.core_state.specs.declared.view.Section.{Section}
use Rattle.core_frames.proofs.TreeFrames.{generation_back}
use Rattle.prcu_marks.specs.declared.mark.Side.TheVariants.{Left, Right}
use Rattle.prcu_model.specs.Dictionary.{map_of, IsLegal}
use Rattle.prcu_marks.specs.Marks.{updates_of, Open, open_at, own_of, entered_at, updates_by, gone_at}
use Rattle.prcu_marks.specs.declared.commit.Commit.{Commit}
use Rattle.std.proofs.Math.Seq.{take-append_seam}
use Rattle.prcu_marks.specs.declared.mark.Mark.TheVariants.{Entered, Left as LeftMark}
use Rattle.core_state.specs.declared.view.Meeting.{Meeting}
use Rattle.core_state.specs.Marks.{begun_at}
use Rattle.core_state.specs.Steps.{spent_view, entering, leaving, new_section}
use Rattle.core_frames.proofs.Roles.{works_there, unused_there, places_apart, place_within, open_entered, open_left, entered_here, entered_left}
use mathlib.Core.List.{IsPrefix}
use Rattle.core_frames.proofs.WaitFrames.{Sees}
use Rattle.prcu_marks.proofs.Marks.{open_at-below}
use Rattle.std.specs.FinMap as finite
use Rattle.core_state.specs.Links.{IsContent}

-- The parts on slots read the slots' words, the hands, places and moves of views, and where slots were unlinked. A step that leaves
-- these keeps them.

-- A retired slot is what it was, where its life and contents are, and it was unlinked at the same mark.
pub retired_by : (m m' : Memory) (h h' : List Mark) (r : Retired) → gone_at r.slot h' ≡ gone_at r.slot h
    → m' (Life r.slot) ≡ m (Life r.slot) → ((field : Field) → IsContent r.slot field → m' field ≡ m field) → IsRetired m h r
    → IsRetired m' h' r
retired_by m m' h h' r gone life contents i = record {
  unlinked = gone ∙ i.unlinked;
  some_slot = i.some_slot;
  marked = λ e. subst IsOdd (sym life) (i.marked e);
  life = λ number e f. life ∙ i.life number e f;
  stays = λ field number e c f. contents field c ∙ i.stays field number e c f;
  unmarked = λ e. subst IsEven (sym life) (i.unmarked e);
  after_wait = i.after_wait;
}

-- Where nodes and states are the same, so are these parts: no lock word is read.
module _ (m m' : Memory) (nodes : SameNodes m m') (states : (s : ℕ) → m' (State s) ≡ m (State s)) where
  even_same : (s : ℕ) → IsEven (m (Life s)) → IsEven (m' (Life s))
  even_same s e = subst IsEven (sym (nodes.life s)) e

  held_same : (held : Held) → IsHeldKnown m held → IsHeldKnown m' held
  held_same held i field number e = let r = i field number e in (r.0, own_same m m' nodes states held.slot field r.0 ∙ r.1)

  hand_same : (held : Held) → IsHandKnown m held → IsHandKnown m' held
  hand_same held i = record { known = held_same held i.known; even = even_same held.slot i.even }

  hands_same : (u : View) → AreHandsKnown m u → AreHandsKnown m' u
  hands_same u i = record {
    hand = λ held is. hand_same held (i.hand held is);
    spare = λ held is. held_same held (i.spare held is);
    copy = λ move is. hand_same move.copy (i.copy move is);
    spares = λ s has. even_same s (i.spares s has);
  }

  retired_is : (h h' : List Mark) (r : Retired) → SilentMarks h h' → IsRetired m h r → IsRetired m' h' r
  retired_is h h' r quiet = retired_by m m' h h' r (quiet.gone r.slot) (nodes.life r.slot)
      (λ field c. content_same m m' nodes r.slot field c)

  pub slots_elsewhere : {room : ℕ} (n : ℕ) (g : Chart) (vs : List View) (h h' : List Mark) → SilentMarks h h' → SlotParts room m n g vs h
      → SlotParts room m' n g vs h'
  slots_elsewhere n g vs h h' quiet t = record {
    roles = record {
      once = λ s lt. ap (λ x. flag (x == 0) + flag (g.linked s) + total (λ (u : View). times s (slots_of u)) vs) (states s)
          ∙ t.roles.once s lt;
      beyond = t.roles.beyond;
      states = λ s lt. subst (λ x. x ≤ 1) (sym (states s)) (t.roles.states s lt);
    };
    few = t.few;
    free = λ s lt e. even_same s (t.free s lt (sym (states s) ∙ e));
    root = nodes.life 0 ∙ t.root;
    hands = λ j u e. hands_same u (t.hands j u e);
    retired = λ j u e n r is. retired_is h h' r quiet (t.retired j u e n r is);
    unlinked = λ s p gone. t.unlinked s p (sym (quiet.gone s) ∙ gone);
  }

-- A slot that is retired of some view stays so, where the step's view has its own ones still.
pub retired_of_by : (vs : List View) (id : ℕ) (v w : View) → get_elem? vs id ≡ some v
    → ((r : Retired) → IsIn (retired_of v) r → IsIn (retired_of w) r) → (s : ℕ) → IsRetiredOf vs s → IsRetiredOf (set vs id w) s
retired_of_by vs id v w there keeps s = somewhere_still vs id v w there (λ (x : HasRetired v s).
    record { retired = x.retired; has = keeps x.retired x.has; slot = x.slot })

-- Where the view changes what it has in hand, it has to say what that leaves.
module _ (m : Memory) (n : ℕ) (g : Chart) (vs : List View) (id : ℕ) (v w : View) (h : List Mark) (there : get_elem? vs id ≡ some v) where
  pub retired_of_still : retired_of w ≡ retired_of v → (s : ℕ) → IsRetiredOf vs s → IsRetiredOf (set vs id w) s
  retired_of_still same = retired_of_by vs id v w there (λ r has. subst (λ rs. IsIn rs r) (sym same) has)

  pub slots_by : {room : ℕ} → ((s : ℕ) → times s (slots_of w) ≡ times s (slots_of v)) → (HasFewSlots room v → HasFewSlots room w)
      → (AreHandsKnown m v → AreHandsKnown m w) → (Each (retired_of v) (IsRetired m h) → Each (retired_of w) (IsRetired m h))
      → ((s : ℕ) → IsRetiredOf vs s → IsRetiredOf (set vs id w) s) → SlotParts room m n g vs h
      → SlotParts room m n g (set vs id w) h
  slots_by {room} slots few hands retired forth t =
      let whole : (s : ℕ) → total (λ (u : View). times s (slots_of u)) (set vs id w) ≡ total (λ (u : View). times s (slots_of u)) vs =
      λ s. total_same (λ (u : View). times s (slots_of u)) vs id v w there (slots s) in
      record {
        roles = record {
          once = λ s lt. ap (λ x. flag (m (State s) == 0) + flag (g.linked s) + x) (whole s) ∙ t.roles.once s lt;
          beyond = λ s far. whole s ∙ t.roles.beyond s far;
          states = t.roles.states;
        };
        few = each_change (HasFewSlots room) (HasFewSlots room) vs id v w there few (λ u i. i) t.few;
        free = t.free;
        root = t.root;
        hands = each_change (AreHandsKnown m) (AreHandsKnown m) vs id v w there hands (λ u i. i) t.hands;
        retired = each_change (λ (u : View). Each (retired_of u) (IsRetired m h))
            (λ (u : View). Each (retired_of u) (IsRetired m h)) vs id v w there retired (λ u i. i) t.retired;
        unlinked = λ s p gone. forth s (t.unlinked s p gone);
      }

-- What a step leaves of a view for the parts on slots: its own slots and its move. It may reserve one where none is in hand.
pub record SameForSlots (v w : View) : Type 0 where
  pub own : own_slots w ≡ own_slots v
  pub moving : w.moving ≡ v.moving
  pub one : (v.hands.reserved ≡ true → v.hands.hand ≡ None) → w.hands.reserved ≡ true → w.hands.hand ≡ None

few_same : {most : ℕ} (v w : View) → SameForSlots v w → HasFewSlots most v → HasFewSlots most w
few_same {most} v w e i = record {
  one = e.one i.one;
  few = subst (λ (x : OwnSlots). length x.retired ≤ most) (sym e.own) i.few;
  room = λ move is. subst (λ (x : OwnSlots). length x.retired < most) (sym e.own) (i.room move (sym e.moving ∙ is));
  joined = subst (λ (x : OwnSlots). Each x.joined (HasFewSpent most)) (sym e.own) i.joined;
  next_spare = λ works none. subst (λ (x : OwnSlots). HasUnraised x.retired) (sym e.own)
      (i.next_spare (subst (λ (x : OwnSlots). 1 ≤ x.places) e.own works) ((λ n. (sym e.own n).spare) ∙ none));
}

hands_view : (m : Memory) (v w : View) → SameForSlots v w → AreHandsKnown m v → AreHandsKnown m w
hands_view m v w e i = record {
  hand = λ held is. i.hand held ((λ n. (sym e.own n).hand) ∙ is);
  spare = λ held is. i.spare held ((λ n. (sym e.own n).spare) ∙ is);
  copy = λ move is. i.copy move (sym e.moving ∙ is);
  spares = λ s has. i.spares s (subst (λ l. 1 ≤ times s l) (spares_same v w e.own) has);
}

pub slot_frame : {room : ℕ} (m m' : Memory) (n : ℕ) (g : Chart) (vs : List View) (id : ℕ) (v w : View) (h h' : List Mark)
    → get_elem? vs id ≡ some v → SameSlots m m' → SameForSlots v w → SilentMarks h h' → SlotParts room m n g vs h
    → SlotParts room m' n g (set vs id w) h'
slot_frame m m' n g vs id v w h h' there slots same quiet t =
    slots_by m' n g vs id v w h' there (λ s. ap (times s) (slots_same v w same.own)) (few_same v w same) (hands_view m' v w same)
    (λ rs. subst (λ x. Each x (IsRetired m' h')) (sym (retired_same v w same.own)) rs)
    (retired_of_still m' n g vs id v w h' there (retired_same v w same.own))
    (slots_elsewhere m m' slots.nodes slots.state n g vs h h' quiet t)

-- The parts on locks read the slots' words but their states, and of a view its place, locks, retired slots, move, and what its sections
-- found out. A step that leaves these keeps them; a section in which nothing was loaded may come.

pub record SameForLocks (v w : View) : Type 0 where
  pub place : w.allowance.place ≡ v.allowance.place
  pub locks : w.locks ≡ v.locks
  pub unraised : (s : ℕ) → IsUnraised v s → IsUnraised w s
  pub settled : v.moving ≡ None → w.moving ≡ None
  pub outside : (section : Section) → w.section ≡ Some section → (v.locks ≡ []) × (v.moving ≡ None)
  pub readings : (r : Reading) → IsIn (readings_of w) r → IsIn (readings_of v) r ⊎ (r.loads ≡ [])

no_load : (r : Reading) (s generation : ℕ) → r.loads ≡ [] → LoadedGeneration r s generation → ⊥
no_load r s generation none loaded = absurd (let e : None ≡ Some loaded.0 = ap (λ ls. known_in ls (Life s)) (sym none) ∙ loaded.1 in cc)

no_known : (r : Reading) (field : Field) (number : ℕ) → r.loads ≡ [] → known_in r.loads field ≡ Some number → ⊥
no_known r field number none known = absurd (let e : None ≡ Some number = ap (λ ls. known_in ls field) (sym none) ∙ known in cc)

-- nothing was loaded, so nothing has to be so
pub reading_empty : (m : Memory) (g : Chart) (r : Reading) → r.loads ≡ [] → IsReadingKept m g r
reading_empty m g r none = record {
  generations = λ s life e. absurd (no_known r (Life s) life none e);
  tags = λ s number b e. absurd (no_known r (Tag s b) number none e);
  linked = λ s life e f. absurd (no_known r (Life s) life none e);
  keys = λ s life key e f k. absurd (no_known r (Life s) life none e);
}

few_locks_same : (v w : View) → SameForLocks v w → HasFewLocks v → HasFewLocks w
few_locks_same v w e i = record {
  once = λ s. subst (λ ls. times s (map (λ (l : HeldLock). l.slot) ls) ≤ 1) (sym e.locks) (i.once s);
  few = subst (λ ls. length ls ≤ 5) (sym e.locks) i.few;
  outside = λ section is. (let r = e.outside section is in (e.locks ∙ r.0, e.settled r.1));
}

-- What is kept of locks and of readings, where nodes and states are the same.
module _ (m m' : Memory) (nodes : SameNodes m m') (states : (s : ℕ) → m' (State s) ≡ m (State s)) (g : Chart) where
  odd_back : (s : ℕ) → IsOdd (m' (Life s)) → IsOdd (m (Life s))
  odd_back s e = subst IsOdd (nodes.life s) e

  odd_still : (s : ℕ) → IsOdd (m (Life s)) → IsOdd (m' (Life s))
  odd_still s e = subst IsOdd (sym (nodes.life s)) e

  pub kept_same : (u z : View) (s : ℕ) (lock : HeldLock) → (IsUnraised u s → IsUnraised z s) → IsLockKept m g u s lock
      → IsLockKept m' g z s lock
  kept_same u z s lock e i = record {
    marked = λ q. (let r = i.marked q in (r.0, odd_still s r.1));
    own_mark = λ l o. i.own_mark l (odd_back s o);
    emptied = λ b q. (let r = i.emptied b q in (nodes.link s b ∙ r.0, ⊎_elim (λ l. inl l) (λ (x : IsUnraised u s). inr (e x)) r.1));
  }

  pub known_same : (u z : View) (s : ℕ) (lock : HeldLock)
      → ((r : Reading) → IsIn (readings_of z) r → IsIn (readings_of u) r ⊎ (r.loads ≡ [])) → IsLockKnown m u s lock
      → IsLockKnown m' z s lock
  known_same u z s lock back i = record {
    own = i.own;
    tags = λ b number e. nodes.tag s b ∙ i.tags b number e;
    fields = λ r generation number field has loaded same e. ⊎_elim
        (λ there. own_same m m' nodes states s field (i.own field number e)
        ∙ i.fields r generation number field there loaded (generation_back m m' nodes s generation lock same) e)
        (λ none. absurd (no_load r s generation none loaded)) (back r has);
    lives = λ r generation has loaded e. ⊎_elim (λ there. nodes.life s ∙ i.lives r generation there loaded e)
        (λ none. absurd (no_load r s generation none loaded)) (back r has);
    marked_life = λ q. i.marked_life q ∙ ap Some (sym (nodes.life s));
  }

  pub reading_same : (r : Reading) → IsReadingKept m g r → IsReadingKept m' g r
  reading_same r i = record {
    generations = λ s life e. subst (λ x. life / 2 ≤ x / 2) (sym (nodes.life s)) (i.generations s life e);
    tags = λ s number b e. subst (λ x. number ≤ x) (sym (nodes.tag s b)) (i.tags s number b e);
    linked = λ s life e f. i.linked s life e (sym (nodes.life s) ∙ f);
    keys = λ s life key e f k. nodes.key s ∙ i.keys s life key e (ap (λ x. x / 2) (sym (nodes.life s)) ∙ f) k;
  }

pub lock_frame : (m m' : Memory) (n : ℕ) (g : Chart) (vs : List View) (id : ℕ) (v w : View)
    → get_elem? vs id ≡ some v → SameSlots m m' → SameForLocks v w → LockParts m n g vs → LockParts m' n g (set vs id w)
lock_frame m m' n g vs id v w there slots same t =
    let holder : (s : ℕ) (lock : HeldLock) → IsHolderOf vs s lock → IsHolderOf (set vs id w) s lock = λ s lock i.
    somewhere_still vs id v w there (λ held. ap (λ ls. lock_of ls s) same.locks ∙ held) i in
    record {
      locked = record {
        held = each_change (λ (u : View). (s : ℕ) (lock : HeldLock) → lock_of u.locks s ≡ Some lock
            → (m (Lock s) ≡ u.allowance.place + 1) × (s < n))
            (λ (u : View). (s : ℕ) (lock : HeldLock) → lock_of u.locks s ≡ Some lock
            → (m' (Lock s) ≡ u.allowance.place + 1) × (s < n)) vs id v w there
            (λ i s lock e. (let r = i s lock (ap (λ ls. lock_of ls s) (sym same.locks) ∙ e) in
            (slots.lock s ∙ r.0 ∙ ap (λ x. x + 1) (sym same.place), r.1)))
            (λ u i s lock e. (let r = i s lock e in (slots.lock s ∙ r.0, r.1))) t.locked.held;
        named = λ s lt ne. (let r = t.locked.named s lt (λ e. ne (slots.lock s ∙ e)) in (r.0, holder s r.0 r.1));
      };
      few = each_change HasFewLocks HasFewLocks vs id v w there (few_locks_same v w same) (λ u i. i) t.few;
      kept = each_change (λ (u : View). (s : ℕ) (lock : HeldLock) → lock_of u.locks s ≡ Some lock → IsLockKept m g u s lock)
          (λ (u : View). (s : ℕ) (lock : HeldLock) → lock_of u.locks s ≡ Some lock → IsLockKept m' g u s lock) vs id v w there
          (λ i s lock e. kept_same m m' slots.nodes slots.state g v w s lock (same.unraised s)
          (i s lock (ap (λ ls. lock_of ls s) (sym same.locks) ∙ e)))
          (λ u i s lock e. kept_same m m' slots.nodes slots.state g u u s lock (λ x. x) (i s lock e)) t.kept;
      marked = λ s l o. (let r = t.marked s l (odd_back m m' slots.nodes slots.state g s o) in (r.0, holder s r.0 r.1, r.2));
      known = each_change (λ (u : View). (s : ℕ) (lock : HeldLock) → lock_of u.locks s ≡ Some lock → IsLockKnown m u s lock)
          (λ (u : View). (s : ℕ) (lock : HeldLock) → lock_of u.locks s ≡ Some lock → IsLockKnown m' u s lock) vs id v w there
          (λ i s lock e. known_same m m' slots.nodes slots.state g v w s lock same.readings
          (i s lock (ap (λ ls. lock_of ls s) (sym same.locks) ∙ e)))
          (λ u i s lock e. known_same m m' slots.nodes slots.state g u u s lock (λ r has. inl has) (i s lock e)) t.known;
      readings = each_change (λ (u : View). Each (readings_of u) (IsReadingKept m g))
          (λ (u : View). Each (readings_of u) (IsReadingKept m' g)) vs id v w there
          (λ i j r e. ⊎_elim (λ (x : IsIn (readings_of v) r). reading_same m m' slots.nodes slots.state g r (i x.0 r x.1))
          (λ none. reading_empty m' g r none) (same.readings r (j, e)))
          (λ u i j r e. reading_same m m' slots.nodes slots.state g r (i j r e)) t.readings;
    }

-- The parts on counts read the clock, the free count, states, lives and tags; of a view its tickets, hands, locks, move, wait and turns;
-- the chart and the updates. A step says by how much it changes a word, a sum over the words, and what its view adds to the sums.

-- What a view adds to the sums.
pub record Numbers : Type 0 where
  pub tickets : ℕ
  pub reserved : ℕ
  pub owes : ℕ
  pub unraised : ℕ
  pub emptied : ℕ
  pub pending : ℕ
  pub turns : ℕ

abbrev pub numbers_of : View → Numbers
numbers_of u = record {
  tickets = u.allowance.tickets;
  reserved = flag u.hands.reserved;
  owes = flag u.hands.owes;
  unraised = unraised_of u;
  emptied = emptied_among u.locks;
  pending = has u.moving;
  turns = u.counts.turns + turns_to_come u.wait;
}

-- the sums over the words of slots
abbrev pub free_slots : Memory → ℕ → ℕ
free_slots m n = count_below (λ s. m (State s) == 0) n

abbrev pub generations_in : Memory → ℕ → ℕ
generations_in m n = sum_below (λ s. m (Life s) / 2) n

abbrev pub tags_raised : Memory → ℕ → ℕ
tags_raised m n = sum_below (λ s. m (Tag s Left) + m (Tag s Right)) n

-- What a step does to the counts, with what its view adds before and after.
pub record CountsStep (m m' : Memory) (n : ℕ) (g to : Chart) (h h' : List Mark) (a b : Numbers) : Type 0 where
  pub free : m' Free + b.reserved + b.owes + free_slots m n ≡ m Free + a.reserved + a.owes + free_slots m' n
  pub clock : m' Clock + length (updates_of h') + b.tickets ≤ m Clock + length (updates_of h) + a.tickets
  pub generations : generations_in m' n + b.reserved + linked_count to n + b.unraised + b.tickets
      ≤ generations_in m n + a.reserved + linked_count g n + a.unraised + a.tickets
  pub tags : tags_raised m' n + b.emptied + b.pending + b.tickets ≤ tags_raised m n + a.emptied + a.pending + a.tickets
  pub turns : b.turns + 64 * m Clock ≤ a.turns + 64 * m' Clock
  pub pairs : young_count to n + finite.len (map_of (updates_of h)) ≡ young_count g n + finite.len (map_of (updates_of h'))
  pub olds : old_count to n + a.pending ≡ old_count g n + b.pending

pub counts_by : (tickets : ℕ) (m m' : Memory) (n : ℕ) (g to : Chart) (vs : List View) (id : ℕ) (v w : View) (h h' : List Mark)
    → get_elem? vs id ≡ some v → CountsStep m m' n g to h h' (numbers_of v) (numbers_of w)
    → CountParts tickets m n g vs h → CountParts tickets m' n to (set vs id w) h'
counts_by tickets m m' n g to vs id v w h h' there step t =
    let reserved = total_set (λ (u : View). flag u.hands.reserved) vs id v w there in
    let owes = total_set (λ (u : View). flag u.hands.owes) vs id v w there in
    let left = total_set (λ (u : View). u.allowance.tickets) vs id v w there in
    let unraised = total_set unraised_of vs id v w there in
    let emptied = total_set (λ (u : View). emptied_among u.locks) vs id v w there in
    let pending = total_set (λ (u : View). has u.moving) vs id v w there in
    let turns = total_set (λ (u : View). u.counts.turns + turns_to_come u.wait) vs id v w there in
    record {
      free = (let a = t.free in let b = step.free in omega arith);
      clock = (let a = t.clock in let b = step.clock in omega arith);
      generations = (let a = t.generations in let b = step.generations in omega arith);
      tags = (let a = t.tags in let b = step.tags in omega arith);
      turns = (let a = t.turns in let b = step.turns in omega arith);
      pairs = (let a = t.pairs in let b = step.pairs in omega arith);
      olds = (let a = t.olds in let b = step.olds in omega arith);
    }

-- that a step leaves them
pub record SameSums (m m' : Memory) (n : ℕ) : Type 0 where
  pub states : free_slots m' n ≡ free_slots m n
  pub lives : generations_in m' n ≡ generations_in m n
  pub tags : tags_raised m' n ≡ tags_raised m n

pub sums_same : (m m' : Memory) (n : ℕ) → SameNodes m m' → ((s : ℕ) → m' (State s) ≡ m (State s)) → SameSums m m' n
sums_same m m' n nodes states = record {
  states = λ i. count_below (λ s. states s i == 0) n;
  lives = λ i. sum_below (λ s. nodes.life s i / 2) n;
  tags = λ i. sum_below (λ s. nodes.tag s Left i + nodes.tag s Right i) n;
}

-- The same of a step that leaves the slots' words, the chart and the updates.
pub record NumbersStep (m m' : Memory) (a b : Numbers) : Type 0 where
  pub free : m' Free + b.reserved + b.owes ≡ m Free + a.reserved + a.owes
  pub clock : m' Clock + b.tickets ≤ m Clock + a.tickets
  pub generations : b.reserved + b.unraised + b.tickets ≤ a.reserved + a.unraised + a.tickets
  pub tags : b.emptied + b.tickets ≤ a.emptied + a.tickets
  pub turns : b.turns + 64 * m Clock ≤ a.turns + 64 * m' Clock
  pub pending : b.pending ≡ a.pending

-- where the view adds the same
pub numbers_stay : (m m' : Memory) (a b : Numbers) → m' Clock ≡ m Clock → m' Free ≡ m Free → b ≡ a → NumbersStep m m' a b
numbers_stay m m' a b clock free same = subst (NumbersStep m m' a) (sym same)
    (record { free = omega arith; clock = omega arith; generations = omega arith; tags = omega arith; turns = omega arith; pending = refl })

pub counts_still : (tickets : ℕ) (m m' : Memory) (n : ℕ) (g : Chart) (vs : List View) (id : ℕ) (v w : View) (h h' : List Mark)
    → get_elem? vs id ≡ some v → SameSums m m' n → updates_of h' ≡ updates_of h → NumbersStep m m' (numbers_of v) (numbers_of w)
    → CountParts tickets m n g vs h → CountParts tickets m' n g (set vs id w) h'
counts_still tickets m m' n g vs id v w h h' there sums updates step t =
    let states = sums.states in
    let lives = sums.lives in
    let tags = sums.tags in
    let many = ap length updates in
    let pairs = ap (λ us. finite.len (map_of us)) updates in
    let pending = step.pending in
    counts_by tickets m m' n g g vs id v w h h' there (record {
      free = (let a = step.free in omega arith);
      clock = (let a = step.clock in omega arith);
      generations = (let a = step.generations in omega arith);
      tags = (let a = step.tags in omega arith);
      turns = step.turns;
      pairs = omega arith;
      olds = omega arith;
    }) t

-- What a step leaves of a view for the parts on counts, but for its turns.
pub record SameNumbers (v w : View) : Type 0 where
  pub tickets : w.allowance.tickets ≡ v.allowance.tickets
  pub reserved : w.hands.reserved ≡ v.hands.reserved
  pub owes : w.hands.owes ≡ v.hands.owes
  pub unraised : unraised_of w ≤ unraised_of v
  pub locks : w.locks ≡ v.locks
  pub moving : has w.moving ≡ has v.moving

pub counts_kept : (tickets : ℕ) (m m' : Memory) (n : ℕ) (g : Chart) (vs : List View) (id : ℕ) (v w : View) (h h' : List Mark)
    → get_elem? vs id ≡ some v → SameSlots m m' → m' Clock ≡ m Clock → m' Free ≡ m Free → SameNumbers v w → SilentMarks h h'
    → w.counts.turns ≡ v.counts.turns → w.wait ≡ v.wait → CountParts tickets m n g vs h → CountParts tickets m' n g (set vs id w) h'
counts_kept tickets m m' n g vs id v w h h' there slots clock free same quiet turns wait t =
    let left = same.tickets in
    let reserved = ap flag same.reserved in
    let owes = ap flag same.owes in
    let unraised = same.unraised in
    let emptied = ap emptied_among same.locks in
    let turned : w.counts.turns + turns_to_come w.wait ≡ v.counts.turns + turns_to_come v.wait = λ i. turns i + turns_to_come (wait i) in
    counts_still tickets m m' n g vs id v w h h' there (sums_same m m' n slots.nodes slots.state) quiet.updates
    (record {
      free = omega arith;
      clock = omega arith;
      generations = omega arith;
      tags = omega arith;
      turns = omega arith;
      pending = same.moving;
    }) t

-- a step that leaves all that is counted
pub count_frame : (tickets : ℕ) (m m' : Memory) (n : ℕ) (g : Chart) (vs : List View) (id : ℕ) (v w : View) (h h' : List Mark)
    → get_elem? vs id ≡ some v → SameSlots m m' → m' Clock ≡ m Clock → m' Free ≡ m Free → numbers_of w ≡ numbers_of v → SilentMarks h h'
    → CountParts tickets m n g vs h → CountParts tickets m' n g (set vs id w) h'
count_frame tickets m m' n g vs id v w h h' there slots clock free same quiet t =
    counts_still tickets m m' n g vs id v w h h' there (sums_same m m' n slots.nodes slots.state) quiet.updates
    (numbers_stay m m' (numbers_of v) (numbers_of w) clock free same) t

-- The parts on the front read the front, the word of a move, the commits of views, whether they have a move, the updates and where these
-- end. A step that leaves these keeps them. What they say of the front by itself, and to the view whose commit is open.

-- the front and the word of a move are the same
pub record SameFront (m m' : Memory) : Type 0 where
  pub front : m' Front ≡ m Front
  pub moved : m' Moved ≡ m Moved

pub front_stays : (m m' : Memory) → m' Front ≡ m Front → m' Moved ≡ m Moved → SameFront m m'
front_stays m m' front moved = record { front = front; moved = moved }

pub last_by : (m m' : Memory) (h h' : List Mark) → m' Moved ≡ m Moved → SameEnd h h' → IsLast m h → IsLast m' h'
last_by m m' h h' moved same t = record {
  word = moved ∙ t.word ∙ sym same.moves;
  once = (let e = same.moves in let o = t.once in omega arith);
  none = same.behind ∙ t.none;
}

pub front_by : (m m' : Memory) (vs : List View) (id : ℕ) (v w : View) (h h' : List Mark)
    → get_elem? vs id ≡ some v → SameFront m m' → w.commit ≡ v.commit → (v.moving ≡ None → w.moving ≡ None)
    → updates_of h' ≡ updates_of h → SameEnd h h' → FrontParts m vs h → FrontParts m' (set vs id w) h'
front_by m m' vs id v w h h' there words commit settled updates same t =
    let front = words.front in
    let odd : IsOddHere m vs (length (updates_of h)) → IsTurned m' (set vs id w) (length (updates_of h)) = λ i. inr (record {
      here = words.moved ∙ i.here;
      odd = only_change vs id v w there
          (λ (x : MakesOdd m (length (updates_of h)) v). record { commit = x.commit; has = commit ∙ x.has; word = front ∙ x.word; updates = x.updates })
          (λ u (x : MakesOdd m (length (updates_of h)) u). record { commit = x.commit; has = x.has; word = front ∙ x.word; updates = x.updates })
          (λ (none : v.commit ≡ None). commit ∙ none) i.odd;
    }) in
    record {
      turned = subst (λ us. IsTurned m' (set vs id w) (length us)) (sym updates) (⊎_elim
          (λ (i : (m Front ≡ 2 * length (updates_of h) + m Moved) × Each vs (λ (u : View). u.commit ≡ None)). inl (
            front ∙ i.0 ∙ ap (λ n. 2 * length (updates_of h) + n) (sym words.moved),
            each_change (λ (u : View). u.commit ≡ None) (λ (u : View). u.commit ≡ None) vs id v w there (λ e. commit ∙ e)
                (λ u e. e) i.1,
          )) odd t.turned);
      last = last_by m m' h h' words.moved same t.last;
      settled = each_change (λ (u : View). (x : Commit) → u.commit ≡ Some x → x.stored ≡ false → u.moving ≡ None)
          (λ (u : View). (x : Commit) → u.commit ≡ Some x → x.stored ≡ false → u.moving ≡ None) vs id v w there
          (λ i x is unmade. settled (i x (sym commit ∙ is) unmade)) (λ u i. i) t.settled;
      legal = subst IsLegal (sym updates) t.legal;
    }

pub front_frame : (m m' : Memory) (vs : List View) (id : ℕ) (v w : View) (h h' : List Mark)
    → get_elem? vs id ≡ some v → SameFront m m' → w.commit ≡ v.commit → (v.moving ≡ None → w.moving ≡ None) → SilentMarks h h'
    → SameEnd h h' → FrontParts m vs h → FrontParts m' (set vs id w) h'
front_frame m m' vs id v w h h' there words commit settled quiet same t =
    front_by m m' vs id v w h h' there words commit settled quiet.updates same t

-- the word of a move is 0 or 1
pub moved_small : (m : Memory) (vs : List View) (h : List Mark) → FrontParts m vs h → m Moved ≤ 1
moved_small m vs h t = let w = t.last.word in let o = t.last.once in omega arith

-- The front is at most one more than twice the number of updates, and where it is even just that.
pub front_counts : (m : Memory) (vs : List View) (h : List Mark) → FrontParts m vs h
    → (m Front ≤ 2 * length (updates_of h) + 1) × (IsEven (m Front) → m Front ≡ 2 * length (updates_of h))
front_counts m vs h t =
    let small = moved_small m vs h t in
    ⊎_elim
    (λ (free : (m Front ≡ 2 * length (updates_of h) + m Moved) × Each vs (λ (u : View). u.commit ≡ None)).
    (let word = free.0 in omega arith, λ even. (let word = free.0 in omega arith)))
    (λ (made : IsOddHere m vs (length (updates_of h))). let o = made.odd.has in
    by_stored o.commit.stored o.commit.found o.updates o.word) t.turned
  where
    by_stored : (stored : Bool) (found : ℕ) → found + cond stored 2 0 ≡ 2 * length (updates_of h) → m Front ≡ found + 1
        → (m Front ≤ 2 * length (updates_of h) + 1) × (IsEven (m Front) → m Front ≡ 2 * length (updates_of h))
    by_stored true found updates word = (omega arith, λ even. absurd (omega arith))
    by_stored false found updates word = (omega arith, λ even. absurd (omega arith))

-- Where a view's commit is open the front is odd by it, and no other view has one.
pub odd_by : (m : Memory) (vs : List View) (h : List Mark) (id : ℕ) (v : View) → get_elem? vs id ≡ some v → FrontParts m vs h
    → (commit : Commit) → v.commit ≡ Some commit
    → (m Front ≡ commit.found + 1) × (updates_by commit ≡ 2 * length (updates_of h))
    × ((j : ℕ) (u : View) → j ≢ id → get_elem? vs j ≡ some u → u.commit ≡ None)
odd_by m vs h id v there t commit mine = ⊎_elim
    (λ (free : (m Front ≡ 2 * length (updates_of h) + m Moved) × Each vs (λ (u : View). u.commit ≡ None)). absurd
    (let q : None ≡ Some commit = sym (free.1 id v there) ∙ mine in cc))
    (λ (made : IsOddHere m vs (length (updates_of h))). elim (only_at vs id v there made.odd) [
      | inl o ↦ let same : Some o.0.commit ≡ Some commit = sym o.0.has ∙ mine in let is : o.0.commit ≡ commit = cc in
          (o.0.word ∙ ap (λ (x : Commit). x.found + 1) is, sym (ap updates_by is) ∙ o.0.updates, o.1)
      | inr none ↦ absurd (let q : None ≡ Some commit = sym none ∙ mine in cc)
    ])
    t.turned

-- and the pairs haven't moved
pub not_moved : (m : Memory) (vs : List View) (h : List Mark) (id : ℕ) (v : View) → get_elem? vs id ≡ some v → FrontParts m vs h
    → (commit : Commit) → v.commit ≡ Some commit → m Moved ≡ 0
not_moved m vs h id v there t commit mine = ⊎_elim
    (λ (free : (m Front ≡ 2 * length (updates_of h) + m Moved) × Each vs (λ (u : View). u.commit ≡ None)). absurd
    (let q : None ≡ Some commit = sym (free.1 id v there) ∙ mine in cc))
    (λ (made : IsOddHere m vs (length (updates_of h))). made.here) t.turned

-- The parts on seats read places, sections and how many there were, what views have seen, and the marks. A step leaves places alone; a
-- section it may leave as it is, or enter or leave one.

-- a section of a place is open by the marks only where a view has it open
module _ (places : ℕ) (vs : List View) (id : ℕ) (v : View) (h : List Mark) (there : get_elem? vs id ≡ some v) (works : Works v)
    (t : SeatParts places vs h) where
  open_is : (o : Open) → open_at v.allowance.place h ≡ Some o → HasOpen v v.allowance.place o
  open_is o e =
      let i = t.opened v.allowance.place o e in
      let s = t.sections i.id i.view i.there i.has.section i.has.is_open in
      let same = places_apart places vs t.placed i.id id v.allowance.place i.view v i.there there
      (subst (λ p. 1 ≤ times p (places_of i.view)) i.has.place (works_there i.view s.works)) (works_there v works) in
      somewhere_at vs id v there i same

  pub open_none : v.section ≡ None → open_at v.allowance.place h ≡ None
  open_none outside = cases (open_at v.allowance.place h) refl
    where
      cases : (o : Option Open) → open_at v.allowance.place h ≡ o → o ≡ None
      cases None e = refl
      cases (Some o) e = let i = open_is o e in absurd (let q : None ≡ Some i.section = sym outside ∙ i.is_open in cc)

-- a section stands after more marks, in a view that is at the same place
section_stands : (h h' : List Mark) (u z : View) (section : Section) → IsPrefix h h' → z.allowance.place ≡ u.allowance.place → Works z
    → open_at u.allowance.place h' ≡ open_at u.allowance.place h → SectionStands h u section → SectionStands h' z section
section_stands h h' u z section grows place works opens s = record {
  works = works;
  is_open = ap (λ p. open_at p h') place ∙ opens ∙ s.is_open;
  from = s.from ∙ ap (λ x. length (updates_of x))
      (sym (cut_at h h' grows section.entered (let o = open_at-below u.allowance.place h (open_of section) s.is_open in omega arith)));
  key_fits = s.key_fits;
  sought = s.sought;
}

module _ (places : ℕ) (vs : List View) (id : ℕ) (v w : View) (h h' : List Mark) (there : get_elem? vs id ≡ some v) (works : Works v)
    (same : SamePlaces v w) (others : OtherMarks v.allowance.place h h') (sees : Sees h h' v w) (counted : IsCounted h' w)
    (t : SeatParts places vs h) where
  -- the places of another view
  far : (j p : ℕ) (u : View) → j ≢ id → get_elem? vs j ≡ some u → 1 ≤ times p (places_of u) → p ≢ v.allowance.place
  far j p u ne e has at = ne (places_apart places vs t.placed j id p u v e there has
      (subst (λ q. 1 ≤ times q (places_of v)) (sym at) (works_there v works)))

  works_still : Works w
  works_still = subst (λ x. 1 ≤ x) (sym same.places) works

  -- earlier joins are a matter of old marks
  met_stands : (meeting : Meeting) → HasMet h meeting → HasMet h' meeting
  met_stands meeting x = record {
    past = (let e = ap length others.begins.1 in let n = length-append h others.begins.0 in let low = x.past in omega arith);
    begins = subst (IsPrefix meeting.seen) (sym (cut_at h h' others.begins meeting.until x.past)) x.begins;
    own = λ p has. ap (own_of p) (cut_at h h' others.begins meeting.until x.past) ∙ x.own p has;
  }

  joined_stand : Each w.allowance.met (HasMet h')
  joined_stand i meeting at = met_stands meeting
      ((t.owned id v there).joined i meeting (subst (λ (xs : List Meeting). get_elem? xs i ≡ some meeting) same.met at))

  owned_by : Sees h h' v w → IsOwned h' w
  owned_by (inl all) = record { met = λ p has. ap (own_of p) all; unused = own_unused; joined = joined_stand }
    where
      own_unused : (p : ℕ) → IsUnused w p → own_of p h' ≡ []
      own_unused p u = let a = same.place in let b = same.places in let low = u.0 in let high = u.1 in
          others.own p (λ e. omega arith) ∙ (t.owned id v there).unused p (omega arith, omega arith)
  owned_by (inr none) = record {
    met = λ p has. ap (own_of p) none.1 ∙ (t.owned id v there).met p (subst (λ l. 1 ≤ times p l) (places_same v w same) has)
        ∙ ap (own_of p) (sym none.0);
    unused = λ p u. (let a = same.place in let b = same.places in let low = u.0 in let high = u.1 in
        ap (own_of p) none.0 ∙ (t.owned id v there).unused p (omega arith, omega arith));
    joined = joined_stand;
  }

  -- the step says how its own section stands, and that it is the one that is open
  pub seat_frame_by : ((section : Section) → w.section ≡ Some section → SectionStands h' w section)
      → ((o : Open) → open_at v.allowance.place h' ≡ Some o → HasOpen w v.allowance.place o) → SeatParts places (set vs id w) h'
  seat_frame_by own opened = record {
    placed = λ p. total_same (λ (u : View). times p (places_of u)) vs id v w there (ap (times p) (places_same v w same)) ∙ t.placed p;
    spent = each_change (λ (u : View). u.allowance.places ≡ 0 → u ≡ spent_view)
        (λ (u : View). u.allowance.places ≡ 0 → u ≡ spent_view) vs id v w there (λ i none. absurd (let e = same.places in omega arith))
        (λ u i. i) t.spent;
    owned = each_set (λ j u. IsOwned h' u) vs id w (owned_by sees)
        (λ j u ne e. (let i = t.owned j u e in record {
          met = λ p has. i.met p has ∙ sym (others.own p (far j p u ne e has));
          unused = λ p x. others.own p (far j p u ne e (unused_there u p x)) ∙ i.unused p x;
          joined = λ n meeting at. met_stands meeting (i.joined n meeting at);
        }));
    within = λ p le. others.own p (λ e. let lt = place_within places vs t.placed id v.allowance.place v there (works_there v works) in
        absurd (omega arith)) ∙ t.within p le;
    sections = each_set (λ j u. (section : Section) → u.section ≡ Some section → SectionStands h' u section) vs id w own
        (λ j u ne e section is. (let s = t.sections j u e section is in
        section_stands h h' u u section others.begins refl s.works
        (others.opens u.allowance.place (far j u.allowance.place u ne e (works_there u s.works))) s));
    opened = λ p o e. dite (ℕ_discrete p v.allowance.place)
        (λ here. somewhere_here vs id v w there
        (subst (λ q. HasOpen w q o) (sym here) (opened o (ap (λ q. open_at q h') (sym here) ∙ e))))
        (λ ne. somewhere_still vs id v w there (λ (own : HasOpen v p o). absurd (ne (sym own.place)))
        (t.opened p o (sym (others.opens p ne) ∙ e)));
    counted = each_set (λ j u. Works u → IsCounted h' u) vs id w (λ _. counted)
        (λ j u ne e here. (let c = t.counted j u e here in let f = far j u.allowance.place u ne e (works_there u here) in
        record {
          sections = c.sections ∙ sym (others.entries u.allowance.place f);
          waits = c.waits ∙ sym (others.waits u.allowance.place f);
        }));
  }

  -- the view's section is as it was
  pub seat_frame_still : w.section ≡ v.section → open_at v.allowance.place h' ≡ open_at v.allowance.place h
      → SeatParts places (set vs id w) h'
  seat_frame_still section opens =
      seat_frame_by
      (λ s is. section_stands h h' v w s others.begins same.place works_still opens (t.sections id v there s (sym section ∙ is)))
      (λ o e. (let i = open_is places vs id v h there works t o (sym opens ∙ e) in
      record { place = same.place; section = i.section; is_open = section ∙ i.is_open; by_marks = i.by_marks }))

-- What a step leaves of a view for the parts on seats, where it leaves no mark.
pub record SameForSeats (v w : View) : Type 0 where
  pub places : SamePlaces v w
  pub seen : w.seen ≡ v.seen
  pub section : w.section ≡ v.section
  pub sections : w.counts.sections ≡ v.counts.sections
  pub waits : w.counts.waits ≡ v.counts.waits

-- how many sections and waits there were, at a place that got no mark of them
pub counted_still : (h h' : List Mark) (v w : View) → w.allowance.place ≡ v.allowance.place
    → entered_at v.allowance.place h' ≡ entered_at v.allowance.place h → begun_at v.allowance.place h' ≡ begun_at v.allowance.place h
    → w.counts.sections ≡ v.counts.sections → w.counts.waits ≡ v.counts.waits → IsCounted h v → IsCounted h' w
counted_still h h' v w place entries begins sections waits c =
    record {
      sections = sections ∙ c.sections ∙ sym entries ∙ ap (λ p. entered_at p h') (sym place);
      waits = waits ∙ c.waits ∙ sym begins ∙ ap (λ p. begun_at p h') (sym place);
    }

pub seat_frame : (places : ℕ) (vs : List View) (id : ℕ) (v w : View) (h : List Mark) → get_elem? vs id ≡ some v → Works v → SameForSeats v w
    → SeatParts places vs h → SeatParts places (set vs id w) h
seat_frame places vs id v w h there works same t =
    seat_frame_still places vs id v w h h there works same.places (others_same v.allowance.place h) (inr (refl, same.seen))
    (counted_still h h v w same.places.place refl refl same.sections same.waits (t.counted id v there works)) t same.section refl

module _ (places : ℕ) (vs : List View) (id : ℕ) (v : View) (h : List Mark) (there : get_elem? vs id ≡ some v) (works : Works v)
    (t : SeatParts places vs h) where
  own_only : (p : ℕ) → p ≢ v.allowance.place → (v.allowance.place == p) ≡ false
  own_only p ne = ne_eqb v.allowance.place p (λ e. ne (sym e))

  -- a section is entered
  pub seats_enter : (key stamp clocked : ℕ) → key < 2 ^ 64
      → SeatParts places (set vs id (entering v key stamp clocked h)) (h ++ Entered v.allowance.place v.counts.sections key ∷ [])
  seats_enter key stamp clocked key_fits =
      let w : View = entering v key stamp clocked h in
      let mark : Mark = Entered v.allowance.place v.counts.sections key in
      let section : Section = new_section v key stamp clocked h in
      let c = t.counted id v there works in
      let sections = c.sections in
      let one = entered_here v.allowance.place h v.counts.sections key in
      let stands : SectionStands (h ++ mark ∷ []) w section = record {
        works = works;
        is_open = open_entered v.allowance.place h v.counts.sections key;
        from = ap (λ z. length (updates_of z)) (sym (take-append_seam h (mark ∷ [])));
        key_fits = key_fits;
        sought = refl;
      } in
      seat_frame_by places vs id v w h (h ++ mark ∷ []) there works (record { place = refl; places = refl; joined = refl; met = refl })
      (others_snoc v.allowance.place h mark own_only) (inl refl)
      (record { sections = omega arith; waits = c.waits ∙ sym (begun_at-same v.allowance.place h mark tt) }) t
      (λ s is. (let e : section ≡ s = cc in subst (SectionStands (h ++ mark ∷ []) w) e stands))
      (λ o e. (let now : Some (open_of section) ≡ Some o = sym (open_entered v.allowance.place h v.counts.sections key) ∙ e in
      let same : open_of section ≡ o = cc in record { place = refl; section = section; is_open = refl; by_marks = sym same }))

  -- a section is left
  pub seats_left : (section : Section)
      → SeatParts places (set vs id (leaving v section h)) (h ++ LeftMark v.allowance.place section.count ∷ [])
  seats_left section =
      let w : View = leaving v section h in
      let mark : Mark = LeftMark v.allowance.place section.count in
      seat_frame_by places vs id v w h (h ++ mark ∷ []) there works (record { place = refl; places = refl; joined = refl; met = refl })
      (others_snoc v.allowance.place h mark own_only) (inl refl)
      (counted_still h (h ++ mark ∷ []) v w refl (entered_left v.allowance.place h v.allowance.place section.count)
      (begun_at-same v.allowance.place h mark tt) refl refl (t.counted id v there works)) t
      (λ s none. absurd (let e : None ≡ Some s = none in cc))
      (λ o e. absurd (let q : None ≡ Some o = sym (open_left v.allowance.place h section.count) ∙ e in cc))

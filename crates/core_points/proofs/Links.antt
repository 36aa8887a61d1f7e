-- The points of a put from its leaf's fields to its link, of a slot that is put back, and of the front around every update.
use Rattle.std.proofs.Common.{◌≡◌, ℕ, zero, suc, ◌+◌, ◌*◌, ◌%◌, ◌==◌, ◌<◌, ◌≤◌, ◌&&◌, cond, Bool, true, false, List, [], ◌∷◌, length, Option, Some, None, refl, sym, ap, subst, ◌∙◌, arith, inl, ◌/◌}
use Rattle.std.proofs.lemmas.Bool.{eqb-true}
use Rattle.prcu_marks.specs.declared.mark.Mark.{Mark}
use Rattle.prcu_marks.specs.declared.mark.Side.TheVariants.{Left, Right}
use Rattle.prcu_model.specs.declared.operation.Op.{Op}
use Rattle.prcu_model.specs.declared.operation.Op.TheVariants.{Put, Get, Del, Set}
use Rattle.core_state.specs.declared.shape.Shape.{Shape}
use Rattle.core_state.specs.declared.words.Field.{Field}
use Rattle.core_state.specs.declared.words.Field.TheVariants.{Life, Key, Value, Link, Tag}
use Rattle.core_state.specs.declared.view.HeldLock.{HeldLock}
use Rattle.core_state.specs.declared.view.Known.{Known}
use Rattle.core_state.specs.declared.view.View.{View}
use Rattle.core_state.specs.Views.{known_in, lock_of, HasLock, note_option, noting, is_emptied}
use Rattle.core_state.specs.Links.{IsContent, after_leaf_link, raise_held, after_raise_in_hand}
use Rattle.core_state.specs.Steps.{new_lock}
use Rattle.core_points.specs.declared.stage.Spot.{Spot}
use Rattle.core_points.specs.declared.stage.Stage.{Stage}
use Rattle.core_points.specs.Programs.{Needs, view_after, Own, content, contents, go, is_none_left, key_now, or_root, value_in, act_at, after, committing}
use Rattle.core_points.specs.Facts.{AreClear, HandFits, Putting, is_put, leaf_held, one_lock, read_at, spot_known, stored_at}
use Rattle.core_points.specs.Fits.{IsGiven, GoesOn, owed_op, Fits, plain, Making, Made}
use Rattle.core_points.specs.Laws.{Tells}
use Rattle.core_points.proofs.Notes.{fits, ready_put, owns_noted, bare_noted, one_noted, one_locked, held_here, hand_noted, leaf_is, answers, quiet_turned, quiet_unlocking}
use Rattle.core_points.proofs.Locks.{goes_locking, own_lock, clear_one}
use Rattle.prcu_marks.specs.declared.mark.Side.{Side}
use Rattle.core_state.specs.declared.view.Held.{Held}
use Rattle.core_laws.proofs.Acting.{commit_is, may_update}
use Rattle.core_state.specs.declared.act.Act.TheVariants.{LinkLeaf, RaiseInHand, FreeInHand}
use Rattle.core_laws.proofs.LockSteps.{known_here}
use Rattle.prcu_model.specs.declared.operation.Reply.TheVariants.{Old}
use Rattle.prcu_marks.specs.declared.commit.Commit.{Commit}
use Rattle.core_points.specs.declared.stage.Update.{Update}
use Rattle.core_points.specs.DeleteFacts.{Relinked}
use Rattle.core_points.specs.declared.stage.Last.TheVariants as last
use Rattle.core_points.specs.declared.stage.Update.TheVariants as update
use Rattle.core_points.specs.declared.stage.Stage.TheVariants as at

-- The points of a put from its leaf's fields on: what each step needs is known, and what the next point needs is known after it.

lt_three : (m : ℕ) → suc (suc (suc (suc m))) ≤ 3 → ⊥
lt_three m le = absurd (omega arith)

pub both_true : (a b : Bool) → (a && b) ≡ true → (a ≡ true) × (b ≡ true)
both_true true b e = (refl, e)
both_true false b e = cc

pub made_even : (x : ℕ) → (x + x % 2) % 2 ≡ 0
made_even x = omega arith

module _ (k : Shape) (h : List Mark) (o : Own) (v : View) (n : ℕ) where
  -- the fields of the leaf
  pub needs_field : (spot : Spot) (i : ℕ) → IsGiven k o v n (at.LeafField spot i)
  needs_field spot i f =
      let p = f.point in
      let root : or_root o.hand ≡ p.slot = ap or_root p.taken in (
        leaf_held p.before p.slot (key_now o) (value_in o.op) i,
        record { holder = inl (p.in_hand, sym root); content = is_content i p.small (or_root o.hand) },
      )
    where
      is_content : (i : ℕ) → i ≤ 3 → (s : ℕ) → IsContent s (content s i)
      is_content zero le s = refl
      is_content (suc zero) le s = refl
      is_content (suc (suc zero)) le s = refl
      is_content (suc (suc (suc zero))) le s = refl
      is_content (suc (suc (suc (suc m)))) le s = absurd (lt_three m le)

  pub next_field : (spot : Spot) (i : ℕ) → GoesOn h o v n (at.LeafField spot i)
  next_field spot i f =
      let p = f.point in
      subst (λ x. Fits (after o n (at.LeafField spot i)) (after o n (at.LeafField spot i)).stage
      (noting v x (content x i) (contents (key_now o) (value_in o.op) 0 0 i) true)) (sym (ap or_root p.taken))
      (filled i p.small p.slot p.taken p.life_is p.in_hand)
    where
      before : List Known
      before = (f.point).before

      put_hand : (s : ℕ) (i j : ℕ) (field : Field) (number : ℕ)
          → v.hands.hand ≡ Some (leaf_held before s (key_now o) (value_in o.op) i)
          → (leaf_held before s (key_now o) (value_in o.op) j).known ≡ stored_at field number
          ∷ (leaf_held before s (key_now o) (value_in o.op) i).known
          → note_option s (stored_at field number) v.hands.hand ≡ Some (leaf_held before s (key_now o) (value_in o.op) j)
      put_hand s i j field number e same = ap (note_option s (stored_at field number)) e
          ∙ ap Some (held_here s (stored_at field number) (leaf_held before s (key_now o) (value_in o.op) i) refl)
          ∙ ap (λ (ks : List Known). Some (record { slot = s; known = ks; raised = false })) (sym same)

      more : (s i j : ℕ) (field : Field) (number : ℕ) → j ≤ 3 → o.hand ≡ Some s → known_in before (Life s) ≡ Some o.hand_life
          → v.hands.hand ≡ Some (leaf_held before s (key_now o) (value_in o.op) i)
          → (leaf_held before s (key_now o) (value_in o.op) j).known ≡ stored_at field number
          ∷ (leaf_held before s (key_now o) (value_in o.op) i).known
          → Fits (go o (at.LeafField spot j)) (at.LeafField spot j) (noting v s field number true)
      more s i j field number le is life e same = fits (owns_noted o v s field number true f.owns) (f.unraised refl) f.tickets (record {
        outside = (f.point).outside;
        bare = bare_noted v s field number true [] [] None false (f.point).bare refl;
        slot = s;
        taken = is;
        before = before;
        life_is = life;
        in_hand = put_hand s i j field number e same;
        has_spot = (f.point).has_spot;
        puts = (f.point).puts;
        small = le;
      })

      filled : (i : ℕ) → i ≤ 3 → (s : ℕ) → o.hand ≡ Some s → known_in before (Life s) ≡ Some o.hand_life
          → v.hands.hand ≡ Some (leaf_held before s (key_now o) (value_in o.op) i)
          → let st : Stage = cond (i == 3) (at.LeafLock spot) (at.LeafField spot (i + 1)) in
          Fits (go o st) st (noting v s (content s i) (contents (key_now o) (value_in o.op) 0 0 i) true)
      filled zero le s is life e = more s 0 1 (Key s) (key_now o) (omega arith) is life e refl
      filled (suc zero) le s is life e = more s 1 2 (Value s) (value_in o.op) (omega arith) is life e refl
      filled (suc (suc zero)) le s is life e = more s 2 3 (Link s Left) 0 (omega arith) is life e refl
      filled (suc (suc (suc zero))) le s is life e =
          fits (owns_noted o v s (Link s Right) 0 true f.owns) (f.unraised refl)
          (subst (λ x. owed_op o.op x o.retired + 4 * length o.rest + o.kept ≤ v.allowance.tickets) (sym is)
          (one_owed o.op (f.point).puts s f.tickets)) (record {
            outside = (f.point).outside;
            taken = (s, is);
            bare = bare_noted v s (Link s Right) 0 true [] [] None false (f.point).bare refl;
            hand = subst (λ x. HandFits x o.hand_life (key_now o) (value_in o.op) (note_option s (stored_at (Link s Right) 0) v.hands.hand))
                (sym is) (
                  leaf_held before s (key_now o) (value_in o.op) 4,
                  put_hand s 3 4 (Link s Right) 0 e refl,
                  leaf_is before s o.hand_life (key_now o) (value_in o.op) life,
                );
            has_spot = (f.point).has_spot;
            puts = (f.point).puts;
          })
        where
          one_owed : (op : Op) → is_put op ≡ true → (s : ℕ) → 1 + 4 * length o.rest + o.kept ≤ v.allowance.tickets
              → owed_op op (Some s) o.retired + 4 * length o.rest + o.kept ≤ v.allowance.tickets
          one_owed (Put key value) e s le = le
          one_owed (Get key) e s le = cc
          one_owed (Del key) e s le = cc
          one_owed (Set key value) e s le = cc
      filled (suc (suc (suc (suc m)))) le s is life e = absurd (lt_three m le)

  -- the lock
  pub needs_lock : (spot : Spot) → IsGiven k o v n (at.LeafLock spot)
  needs_lock spot f = record {
    outside = (f.point).outside;
    few = subst (λ (ls : List HeldLock). length ls < 5) (sym ((f.point).bare).locks_are) (omega arith);
  }

  pub next_lock : (spot : Spot) → GoesOn h o v n (at.LeafLock spot)
  next_lock spot f =
      let p = f.point in
      let b = p.bare in
      let more = ap (λ ls. new_lock spot.slot ∷ ls) b.locks_are in
      goes_locking (at.LeafLife spot) spot.slot n f refl b.locks_are f.tickets f.tickets (record {
        outside = p.outside;
        taken = p.taken;
        bare = record { locks_are = more; turn_is = b.turn_is; settled = b.settled; reserved_is = b.reserved_is; paid = b.paid };
        hand = p.hand;
        has_spot = p.has_spot;
        puts = p.puts;
      }) (p.outside, record { bare = b; hand = p.hand; ready = ready_put o.op o.hand o.spare o.retired p.puts })

  -- a load under the lock
  needs_under : (s : ℕ) (known : List Known) → v.locks ≡ one_lock s known → HasLock v s
  needs_under s known e = (_, ap (λ ls. lock_of ls s) e ∙ one_locked s known)

  pub needs_life : (spot : Spot) → IsGiven k o v n (at.LeafLife spot)
  needs_life spot f = record { held = needs_under spot.slot _ ((f.point).bare).locks_are; loadable = refl }

  putting_more : (spot : Spot) (known : List Known) (field : Field) (stage : Stage) → Tells v spot.slot field n
      → Putting o (plain v) spot (one_lock spot.slot known) None
      → Putting (go o stage) (plain (noting v spot.slot field n false)) spot (one_lock spot.slot (read_at field n ∷ known)) None
  putting_more spot known field stage told p = record {
    outside = p.outside;
    taken = p.taken;
    bare = bare_noted v spot.slot field n false (one_lock spot.slot known) (one_lock spot.slot (read_at field n ∷ known)) None false p.bare
        (one_noted spot.slot known field n false);
    hand = hand_noted o.hand o.hand_life (key_now o) (value_in o.op) v spot.slot field n told p.hand;
    has_spot = p.has_spot;
    puts = p.puts;
  }

  pub next_life : (spot : Spot) → Tells v spot.slot (Life spot.slot) n → GoesOn h o v n (at.LeafLife spot)
  next_life spot told f =
      fits (owns_noted o v spot.slot (Life spot.slot) n false f.owns) (f.unraised refl) f.tickets
      (putting_more spot [] (Life spot.slot) _ told f.point)

  pub needs_side : (spot : Spot) (life : ℕ) → IsGiven k o v n (at.LeafSide spot life)
  needs_side spot life f = record { held = needs_under spot.slot _ ((f.point).bare).locks_are; loadable = refl }

  pub next_side : (spot : Spot) (life : ℕ) → Tells v spot.slot (Link spot.slot spot.side) n → GoesOn h o v n (at.LeafSide spot life)
  next_side spot life told f =
      fits (owns_noted o v spot.slot (Link spot.slot spot.side) n false f.owns) (f.unraised refl) f.tickets
      (putting_more spot (read_at (Life spot.slot) life ∷ []) (Link spot.slot spot.side) _ told f.point)

  pub needs_tag : (spot : Spot) (life link : ℕ) → IsGiven k o v n (at.LeafTag spot life link)
  needs_tag spot life link f = record { held = needs_under spot.slot _ ((f.point).bare).locks_are; loadable = refl }

  pub next_tag : (spot : Spot) (life link : ℕ) → Tells v spot.slot (Tag spot.slot spot.side) n → GoesOn h o v n (at.LeafTag spot life link)
  next_tag spot life link told f =
      judged ((life == 2 * spot.generation) && ((link == 0) && (n == spot.tag))) refl
      (putting_more spot (read_at (Link spot.slot spot.side) link ∷ (read_at (Life spot.slot) life ∷ []))
      (Tag spot.slot spot.side) o.stage told f.point)
    where
      judged : (z : Bool) → ((life == 2 * spot.generation) && ((link == 0) && (n == spot.tag))) ≡ z
          → Putting o (plain (noting v spot.slot (Tag spot.slot spot.side) n false)) spot
          (one_lock spot.slot (read_at (Tag spot.slot spot.side) n
          ∷ (read_at (Link spot.slot spot.side) link ∷ (read_at (Life spot.slot) life ∷ [])))) None
          → let st : Stage = cond z (committing o (update.Leaf spot)) (at.Unlock last.Again) in
          Fits (go o st) st (noting v spot.slot (Tag spot.slot spot.side) n false)
      judged true e p =
          let a = both_true (life == 2 * spot.generation) ((link == 0) && (n == spot.tag)) e in
          let b = both_true (link == 0) (n == spot.tag) a.1 in
          let same : one_lock spot.slot (read_at (Tag spot.slot spot.side) n
          ∷ (read_at (Link spot.slot spot.side) link ∷ (read_at (Life spot.slot) life ∷ []))) ≡ one_lock spot.slot (spot_known spot) =
          ap (λ x. one_lock spot.slot (read_at (Tag spot.slot spot.side) x
          ∷ (read_at (Link spot.slot spot.side) link ∷ (read_at (Life spot.slot) life ∷ [])))) (eqb-true n spot.tag b.1)
          ∙ ap (λ x. one_lock spot.slot (read_at (Tag spot.slot spot.side) spot.tag
          ∷ (read_at (Link spot.slot spot.side) x ∷ (read_at (Life spot.slot) life ∷ [])))) (eqb-true link 0 b.0)
          ∙ ap (λ x. one_lock spot.slot (read_at (Tag spot.slot spot.side) spot.tag
          ∷ (read_at (Link spot.slot spot.side) 0 ∷ (read_at (Life spot.slot) x ∷ [])))) (eqb-true life (2 * spot.generation) a.0) in
          fits (owns_noted o v spot.slot (Tag spot.slot spot.side) n false f.owns)
          (f.unraised refl) (put_owed o.op p.puts o.hand f.tickets) (
            record {
              outside = p.outside;
              taken = p.taken;
              bare = record {
                locks_are = (p.bare).locks_are ∙ same;
                turn_is = (p.bare).turn_is;
                settled = (p.bare).settled;
                reserved_is = (p.bare).reserved_is;
                paid = (p.bare).paid;
              };
              hand = p.hand;
              has_spot = p.has_spot;
              puts = p.puts;
            },
            made_even o.front,
          )
        where
          put_owed : (op : Op) → is_put op ≡ true → (hand : Option ℕ)
              → owed_op op hand o.retired + 4 * length o.rest + o.kept ≤ v.allowance.tickets
              → 1 + 4 * length o.rest + o.kept ≤ v.allowance.tickets
          put_owed (Put key value) e (Some s) le = le
          put_owed (Put key value) e None le = less o.retired le
            where
              less : (rs : List ℕ) → owed_op (Put key value) None rs + 4 * length o.rest + o.kept ≤ v.allowance.tickets
                  → 1 + 4 * length o.rest + o.kept ≤ v.allowance.tickets
              less [] le = omega arith
              less (r ∷ rs) le = omega arith
          put_owed (Get key) e hand le = cc
          put_owed (Del key) e hand le = cc
          put_owed (Set key value) e hand le = cc
      judged false e p = fits (owns_noted o v spot.slot (Tag spot.slot spot.side) n false f.owns) (f.unraised refl) f.tickets (
        record {
          outside = p.outside;
          no_turn = (p.bare).turn_is;
          settled = (p.bare).settled;
          unreserved = (p.bare).reserved_is;
          paid = (p.bare).paid;
          clear = subst AreClear (sym (p.bare).locks_are) (clear_one spot.slot
              (read_at (Tag spot.slot spot.side) n ∷ (read_at (Link spot.slot spot.side) link ∷ (read_at (Life spot.slot) life ∷ []))));
          some = ap is_none_left (own_lock o (noting v spot.slot (Tag spot.slot spot.side) n false) spot.slot _ (owns_noted o v spot.slot
              (Tag spot.slot spot.side) n false f.owns) (p.bare).locks_are refl);
        },
        p.hand,
        ready_put o.op o.hand o.spare o.retired p.puts,
      )

-- The point of a put that links its leaf: what the step needs is known, and what the next point needs is known after it.

module _ (k : Shape) (h : List Mark) (o : Own) (v : View) (n : ℕ) where
  -- the link of the leaf
  pub needs_store : (spot : Spot) (front : ℕ) → IsGiven k o v n (at.Store (update.Leaf spot) front)
  needs_store spot front f =
      let p = f.point in
      let hand = p.taken in
      let b = p.bare in
      let has = p.has_spot in
      let leaf = subst (λ x. HandFits x o.hand_life (key_now o) (value_in o.op) v.hands.hand) hand.1 p.hand in
      let is = leaf.2 in
      subst (λ s. Needs k v n (LinkLeaf spot.slot spot.side s (key_now o) (value_in o.op))) (sym (ap or_root hand.1)) (record {
        has_commit = may_update v b.turn_is (let t = f.tickets in omega arith);
        reading = has.reading;
        kept = has.kept;
        sought = has.key_is;
        missed = has.missed;
        generation = spot.generation;
        generation_is = has.recorded;
        tag = spot.tag;
        tag_is = has.tag_is;
        lock = record { slot = spot.slot; known = spot_known spot; left_emptied = false; right_emptied = false; marked = false };
        locked = ap (λ ls. lock_of ls spot.slot) b.locks_are ∙ one_locked spot.slot (spot_known spot);
        life_now = known_here [] (Life spot.slot) (2 * spot.generation) false;
        empty_now = known_here (read_at (Life spot.slot) (2 * spot.generation) ∷ []) (Link spot.slot spot.side) 0 false;
        tag_now = known_here (read_at (Link spot.slot spot.side) 0 ∷ (read_at (Life spot.slot) (2 * spot.generation) ∷ []))
            (Tag spot.slot spot.side) spot.tag false;
        settled = settled spot.side;
        held = leaf.0;
        in_hand = (leaf.1, is.slot_is);
        unraised = is.unraised;
        key_is = is.key_is ∙ ap Some (sym has.key_is);
        value_is = is.value_is;
        left_is = is.left_is;
        right_is = is.right_is;
      })
    where
      settled : (b : Side) → is_emptied (record {
        slot = spot.slot;
        known = spot_known spot;
        left_emptied = false;
        right_emptied = false;
        marked = false;
      }) b ≡ false
      settled Left = refl
      settled Right = refl

  pub next_store : (spot : Spot) (front : ℕ) → GoesOn h o v n (at.Store (update.Leaf spot) front)
  next_store spot front f =
      let p = f.point in
      let leaf : ℕ = or_root o.hand in
      let o' : Own = after o n (at.Store (update.Leaf spot) front) in
      let w : View = noting v spot.slot (Link spot.slot spot.side) leaf true in
      let owns = owns_noted o v spot.slot (Link spot.slot spot.side) leaf true f.owns in
      let b = bare_noted v spot.slot (Link spot.slot spot.side) leaf true (one_lock spot.slot (spot_known spot))
      (one_lock spot.slot (stored_at (Link spot.slot spot.side) leaf ∷ spot_known spot))
      (Some (record { found = front; stored = false })) false p.bare
      (one_noted spot.slot (spot_known spot) (Link spot.slot spot.side) leaf true) in
      subst (λ x. Fits o' o'.stage (after_leaf_link v x spot.slot spot.side leaf (key_now o) (value_in o.op) h))
      (sym (commit_is v _ (p.bare).turn_is))
      (fits owns (f.unraised refl) (let t = f.tickets in omega arith) (
        record {
          outside = p.outside;
          turn_is = refl;
          settled = b.settled;
          unreserved = b.reserved_is;
          paid = b.paid;
          empty = refl;
          no_hand = refl;
        },
        ap is_none_left (own_lock o w spot.slot _ owns b.locks_are refl),
        subst AreClear (sym b.locks_are) (clear_one spot.slot (stored_at (Link spot.slot spot.side) leaf ∷ spot_known spot)),
        p.puts,
      ))

-- The points of giving back the slot in hand: what each step needs is known, and what the next point needs is known after it.

module _ (k : Shape) (h : List Mark) (o : Own) (v : View) (n : ℕ) where
  pub needs_raise : IsGiven k o v n at.Raise
  needs_raise f =
      let hand = (f.point).1 in
      let leaf = subst (λ x. HandFits x o.hand_life (key_now o) (value_in o.op) v.hands.hand) hand.1 ((f.point).2).hand in
      let is = leaf.2 in
      subst (λ s. Needs k v n (RaiseInHand s (2 * (o.hand_life / 2 + 1)))) (sym (ap or_root hand.1))
      (leaf.0, record { in_hand = (leaf.1, is.slot_is); unraised = is.unraised; life = o.hand_life; loaded = is.life_is; next = refl })

  pub next_raise : GoesOn h o v n at.Raise
  next_raise f =
      let hand = (f.point).1 in
      let s : ℕ = hand.0 in
      let number : ℕ = 2 * (o.hand_life / 2 + 1) in
      let leaf = subst (λ x. HandFits x o.hand_life (key_now o) (value_in o.op) v.hands.hand) hand.1 ((f.point).2).hand in
      let held : Held = leaf.0 in
      let raised : Held = record held { known = stored_at (Life s) number ∷ held.known; raised = true } in
      let e : raise_held (note_option s (stored_at (Life s) number) v.hands.hand) ≡ Some raised =
      ap (λ x. raise_held (note_option s (stored_at (Life s) number) x)) leaf.1
      ∙ ap (λ x. raise_held (Some x)) (held_here s (stored_at (Life s) number) held (leaf.2).slot_is) in
      subst (λ x. Fits (go o at.Free) at.Free (after_raise_in_hand v x number)) (sym (ap or_root hand.1))
      (fits (owns_noted o v s (Life s) number true f.owns) (f.unraised refl) f.tickets (
        (f.point).0,
        bare_noted v s (Life s) number true [] [] None false ((f.point).2).bare refl,
        record { slot = s; held = raised; taken = hand.1; slot_is = (leaf.2).slot_is; raised = refl; in_hand = e },
        (f.point).3,
      ))

  pub needs_free : IsGiven k o v n at.Free
  needs_free f =
      let q = (f.point).2 in
      subst (λ s. Needs k v n (FreeInHand s)) (sym (ap or_root q.taken))
      (q.held, record { paid = ((f.point).1).paid; in_hand = (q.in_hand, q.slot_is); raised = q.raised })

  pub next_free : GoesOn h o v n at.Free
  next_free f = let b = (f.point).1 in fits f.owns (f.unraised refl) f.tickets (
    record {
      outside = (f.point).0;
      no_hand = refl;
      empty = refl;
      unlocked = b.locks_are;
      no_turn = b.turn_is;
      settled = b.settled;
      unreserved = b.reserved_is;
      owing = refl;
    },
    (f.point).3,
  )

  pub needs_count : IsGiven k o v n at.Count
  needs_count f = ((f.point).0).owing

  pub next_count : GoesOn h o v n at.Count
  next_count f = let p = (f.point).0 in
      answers (record o { free = n + 1 }) (view_after v h n (act_at o at.Count)) Old 0
      (record {
        owns = f.owns;
        outside = p.outside;
        empty = p.no_hand;
        bare = record { locks_are = p.unlocked; turn_is = p.no_turn; settled = p.settled; reserved_is = p.unreserved; paid = refl };
        no_hand = p.empty;
        unraised = f.unraised refl;
      })
      (let t = f.tickets in omega arith)

-- The front made odd and even again around an update: what the steps need is known, and what the next points need is known after them.

module _ (k : Shape) (h : List Mark) (o : Own) (v : View) (n : ℕ) where
  -- the front by this view, and the pending move, at an update that is to be made
  making_front : (u : Update) (commit : Option Commit) → Making o u (plain v) commit → (v.commit ≡ commit) × (v.moving ≡ None)
  making_front (update.Leaf spot) commit p = ((p.bare).turn_is, (p.bare).settled)
  making_front (update.Value s old) commit p = let q = (p.1).quiet in (q.turn_is, q.settled)
  making_front (update.Bypass d child) commit p = let q = p.quiet in (q.turn_is, q.settled)
  making_front (update.Copy d u next_key copy) commit p = let q = (p.copying).quiet in (q.turn_is, q.settled)

  pub needs_commit : (u : Update) (expected : ℕ) → IsGiven k o v n (at.Commit u expected)
  needs_commit u expected f = let q = making_front u None (f.point).0 in record { even = (f.point).1; settled = q.1; paid = q.0 }

  -- the front was found, or is odd now
  turned : (u : Update) (o' : Own) (w : View) (turn commit : Option Commit) → turn ≡ commit → Making o u (plain v) None
      → Making (record o { front = o'.front; stage = o'.stage }) u (plain (record v { latest = w.latest; commit = turn })) commit
  turned (update.Leaf spot) o' w turn commit e p =
      let b = p.bare in record {
        outside = p.outside;
        taken = p.taken;
        bare = record { locks_are = b.locks_are; turn_is = e; settled = b.settled; reserved_is = b.reserved_is; paid = b.paid };
        hand = p.hand;
        has_spot = p.has_spot;
        puts = p.puts;
      }
  turned (update.Value s old) o' w turn commit e p =
      let q = p.1 in (p.0, record { quiet = quiet_turned e q.quiet; locks_are = q.locks_are; found = q.found; sets = q.sets })
  turned (update.Bypass d child) o' w turn commit e p = record {
    quiet = quiet_turned e p.quiet;
    deleting = p.deleting;
    has_locks = p.has_locks;
    few = p.few;
    marked = p.marked;
    clear = p.clear;
    child_is = p.child_is;
  }
  turned (update.Copy d u next_key copy) o' w turn commit e p =
      let c = p.copying in record {
        copying = record { quiet = quiet_turned e c.quiet; deleting = c.deleting; both = c.both };
        filled = p.filled;
        marked = p.marked;
        clear = p.clear;
        locks_are = p.locks_are;
        copy_held = p.copy_held;
      }

  pub next_commit : (u : Update) (expected : ℕ) → GoesOn h o v n (at.Commit u expected)
  next_commit u expected f = got (n == expected)
    where
      got : (z : Bool) → let o' : Own = cond z (go (record o { front = expected + 1 }) (at.Store u expected))
          (go (record o { front = n }) (at.Commit u (n + n % 2))) in
          Fits o' o'.stage (cond z (record v {
            latest = record v.latest { front = Some (expected + 1) };
            commit = Some (record { found = expected; stored = false });
          }) (record v { latest = record v.latest { front = Some n } }))
      got true =
          let w : View = record v { latest = record v.latest { front = Some (expected + 1) } } in
          fits f.owns (f.unraised refl) f.tickets
          (turned u (record o { front = expected + 1; stage = at.Store u expected }) w _ _ refl (f.point).0)
      got false =
          let w : View = record v { latest = record v.latest { front = Some n } } in
          fits f.owns (f.unraised refl) f.tickets (
            turned u (record o { front = n; stage = at.Commit u (n + n % 2) }) w v.commit None (making_front u None (f.point).0).0
                (f.point).0,
            made_even n,
          )

  made_front : (u : Update) (commit : Option Commit) → Made o u (plain v) commit → v.commit ≡ commit
  made_front (update.Leaf spot) commit p = (p.0).turn_is
  made_front (update.Value s old) commit p = (p.0).turn_is
  made_front (update.Bypass d child) commit p = (p.0).turn_is
  made_front (update.Copy d u next_key copy) commit p = (p.0).turn_is

  pub needs_even : (u : Update) (front : ℕ) → IsGiven k o v n (at.Even u front)
  needs_even u front f = (front, made_front u (Some (record { found = front; stored = true })) f.point, refl)

  pub next_even : (u : Update) (front : ℕ) → GoesOn h o v n (at.Even u front)
  next_even (update.Leaf spot) front f =
      let q = (f.point).0 in
      fits f.owns (f.unraised refl) f.tickets (quiet_unlocking q refl (f.point).2 (f.point).1, q.empty, q.no_hand, (f.point).3)
  next_even (update.Value s old) front f =
      let q = (f.point).0 in
      fits f.owns (f.unraised refl) f.tickets (quiet_unlocking q refl (f.point).2 (f.point).1, q.empty, q.no_hand, (f.point).3)
  next_even (update.Bypass d child) front f = by (child == 0) (f.point).2
    where
      by : (z : Bool) → Relinked z v.locks d.parent d.side
          → let st : Stage = cond z (at.EmptyTag ((front + 2) / 2) d.parent d.side) (at.Unlock (last.Gone ((front + 2) / 2))) in
          Fits (go (record o { front = front + 2 }) st) st
          (record v { latest = record v.latest { front = Some (front + 2) }; commit = None })
      by true r = fits f.owns (f.unraised refl) f.tickets (quiet_turned refl (f.point).0, (f.point).1, r, (f.point).3)
      by false r =
          let q = (f.point).0 in
          fits f.owns (f.unraised refl) f.tickets (quiet_unlocking q refl r (f.point).1, q.empty, q.no_hand, (f.point).3)
  next_even (update.Copy d u next_key copy) front f =
      let p = f.point in
      let q = p.0 in
      let is = q.move in
      let old = p.1 in
      fits f.owns (f.unraised refl) f.tickets (
        record {
          outside = q.outside;
          turn_is = refl;
          unreserved = q.unreserved;
          paid = q.paid;
          empty = q.empty;
          no_hand = q.no_hand;
          move = record {
            move = is.move;
            is = is.is;
            key_is = is.key_is;
            next_is = is.next_is;
            copy_is = is.copy_is;
            old_is = is.old_is;
            parent_is = is.parent_is;
            waited_is = is.waited_is;
          };
          locks_are = q.locks_are;
          parent_held = q.parent_held;
          apart = q.apart;
          deletes = q.deletes;
        },
        record { lock = old.lock; locked = old.locked; marked_is = old.marked_is; life = old.life },
        p.2,
      )

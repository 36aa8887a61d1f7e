-- A turn under its three locks: they are got and given up, the words are loaded, and the two nodes are replaced.
use Rattle.std.proofs.Common.{◌≡◌, ◌≢◌, ℕ, false, List, [], ◌∷◌, ◌++◌, None, refl, sym, ap, ◌∙◌, inl, inr, arith, ◌+◌, ◌-◌, ◌*◌, ◌<◌, ◌≤◌, true, length, Some, subst}
use Rattle.core_state.specs.declared.shape.Shape.{Shape}
use Rattle.core_state.specs.declared.view.HeldLock.{HeldLock}
use Rattle.core_state.specs.declared.view.Known.{Known}
use Rattle.core_state.specs.declared.view.StepMade.{StepMade}
use Rattle.core_state.specs.declared.view.View.{View}
use Rattle.core_state.specs.Steps.{new_lock}
use Rattle.core_state.specs.Views.{lock_of, change_lock, HasLock, known_in, known_of, known_under, loaded_in, note_lock, LoadedGeneration}
use Rattle.core_state.specs.declared.act.Act.TheVariants.{Lock, Unlock, Mark as MarkNode, Rotate}
use Rattle.seat_table.specs.Gains.{IsAsked, Told, Sees}
use Rattle.node_slots.specs.Taking.{MakesSteps}
use Rattle.tree_turn.specs.declared.turn.Turn.{Turn}
use Rattle.tree_turn.specs.declared.turn.NodeWords.{NodeWords}
use Rattle.core_state.specs.declared.words.Field.TheVariants.{Life, Link}
use Rattle.tree_turn.specs.Turns.{AreThree, locking, unlocking, loading, node_loads, loaded, held_lock, three_locks, node_known, knowing, adding, IsAside, ThreeAside, HasLocked, HasGivenUp, HasUnlocked, HasLoaded, HasLoadedAll, HasRecorded, lower_content, upper_content, fill_steps, marking, rotating, filled, parent_known, content_known, loaded_locks, learning, IsHeldSlot, HasFilled, HasReplaced, MayReplace}
use Rattle.tree_turn.proofs.Standing.{lock_first, lock_child, lock_node, lock_parent, change_child, change_node, change_parent, without_first, without_next, without_child, without_node, without_parent, Stands, stands_first, steps_both, locks_on, misses_on, unlocks_on, asks_lock, asks_unlock, lock_there, Reads, lock_other, standing, settles, IsOff, learning_here, learning_off, marks_on, known_first, loaded_first, other_known, turn_known, value_known, key_known}
use Rattle.prcu_marks.specs.declared.mark.Mark.{Mark}
use Rattle.core_state.specs.declared.words.Field.{Field}
use Rattle.core_state.specs.declared.view.Held.{Held}
use Rattle.core_state.specs.declared.view.Retired.{Retired}
use Rattle.core_state.specs.Links.{IsMarkedNode, NeedsMark, newly_retired, with_mark, NeedsRotate, Rotation, rotate_marks}
use Rattle.core_state.specs.Acts.{noted}
use Rattle.list_laws.specs.Counts.{IsIn}
use Rattle.seat_table.proofs.SeveralSteps.{goes_from}
use Rattle.tree_turn.specs.declared.turn.Content.{Content}
use Rattle.tree_turn.specs.declared.turn.TurnWords.{TurnWords}
use Rattle.core_laws.proofs.Acting.{spare_is}

-- The three locks are got or not, and given up; the words are loaded under them.

-- Nothing is left of what was tried but the steps.
gives_up : {v : View} {steps : List StepMade} {u : View} → v.locks ≡ [] → Stands v [] v.hands.hand v.hands.spare steps u
    → u ≡ record v { trail = u.trail }
gives_up {v} {steps} {u} free st = st.is ∙ (λ i. record v { locks = sym free i; trail = ap (λ (z : View). z.trail) (sym st.is) i })

made_by : {v : View} {steps : List StepMade} {u : View} → Stands v [] v.hands.hand v.hands.spare steps u → MakesSteps v steps u
made_by st = ap (λ (z : View). z.trail) st.is

module _ {k : Shape} {v : View} {t : Turn} (three : AreThree k t) (outside : v.section ≡ None) (free : v.locks ≡ [])
    (settled : v.moving ≡ None) where
  pub asks_first : IsAsked k v (Lock t.parent)
  asks_first = asks_lock (stands_first v [] free) t.parent outside (omega arith) three.parent_slot.inside

  -- the parent's lock is taken
  pub parent_busy : {u : View} (found : ℕ) → found ≢ 0 → Told k v (Lock t.parent) found u → HasGivenUp v t u
  parent_busy found some told = let st = misses_on (stands_first v [] free) t.parent found some told in
      record { found = found; taken = some; made = inl (made_by st); rest = gives_up free st }

  module _ {v1 : View} {found : ℕ} (got : found ≡ 0) (first : Told k v (Lock t.parent) found v1) where
    one_held : Stands v (new_lock t.parent ∷ []) v.hands.hand v.hands.spare (locking t.parent 0 ∷ []) v1
    one_held = locks_on (stands_first v [] free) t.parent found got first

    pub asks_second : IsAsked k v1 (Lock t.node)
    asks_second = asks_lock one_held t.node outside (omega arith) three.node_slot.inside

    -- the node's lock is taken
    module _ {u : View} (taken : ℕ) (some : taken ≢ 0) (second : Told k v1 (Lock t.node) taken u) where
      stands_missed : Stands v (new_lock t.parent ∷ []) v.hands.hand v.hands.spare (locking t.parent 0 ∷ (locking t.node taken ∷ [])) u
      stands_missed = misses_on one_held t.node taken some second

      pub asks_back : IsAsked k u (Unlock t.parent)
      asks_back = asks_unlock stands_missed settled t.parent (new_lock t.parent) (lock_first t.parent (new_lock t.parent) [] refl)
          refl refl refl

      pub node_busy : {w : View} → Told k u (Unlock t.parent) 0 w → HasGivenUp v t w
      node_busy told = let st = unlocks_on stands_missed t.parent [] (without_first t.parent (new_lock t.parent) [] refl) told in
          record { found = taken; taken = some; made = inr (inl (made_by st)); rest = gives_up free st }

    module _ {v2 : View} {also : ℕ} (got_node : also ≡ 0) (second : Told k v1 (Lock t.node) also v2) where
      two_held : Stands v (new_lock t.node ∷ (new_lock t.parent ∷ [])) v.hands.hand v.hands.spare
          (locking t.parent 0 ∷ (locking t.node 0 ∷ [])) v2
      two_held = locks_on one_held t.node also got_node second

      pub asks_third : IsAsked k v2 (Lock t.child)
      asks_third = asks_lock two_held t.child outside (omega arith) three.child_slot.inside

      -- all are got
      pub all_got : {w : View} {last : ℕ} → last ≡ 0 → Told k v2 (Lock t.child) last w → HasLocked v t w
      all_got {last = last} got_child third = (locks_on two_held t.child last got_child third).is

      -- the child's lock is taken
      module _ {u : View} (taken : ℕ) (some : taken ≢ 0) (third : Told k v2 (Lock t.child) taken u) where
        stands_last : Stands v (new_lock t.node ∷ (new_lock t.parent ∷ [])) v.hands.hand v.hands.spare
            (locking t.parent 0 ∷ (locking t.node 0 ∷ (locking t.child taken ∷ []))) u
        stands_last = misses_on two_held t.child taken some third

        pub asks_node_back : IsAsked k u (Unlock t.node)
        asks_node_back = asks_unlock stands_last settled t.node (new_lock t.node)
            (lock_first t.node (new_lock t.node) (new_lock t.parent ∷ []) refl) refl refl refl

        module _ {u' : View} (fourth : Told k u (Unlock t.node) 0 u') where
          stands_back : Stands v (new_lock t.parent ∷ []) v.hands.hand v.hands.spare
              (locking t.parent 0 ∷ (locking t.node 0 ∷ (locking t.child taken ∷ (unlocking t.node ∷ [])))) u'
          stands_back = unlocks_on stands_last t.node (new_lock t.parent ∷ [])
              (without_first t.node (new_lock t.node) (new_lock t.parent ∷ []) refl
              ∙ without_next t.node (new_lock t.parent) [] (λ e. three.node_apart (sym e))) fourth

          pub asks_parent_back : IsAsked k u' (Unlock t.parent)
          asks_parent_back = asks_unlock stands_back settled t.parent (new_lock t.parent)
              (lock_first t.parent (new_lock t.parent) [] refl) refl refl refl

          pub child_busy : {w : View} → Told k u' (Unlock t.parent) 0 w → HasGivenUp v t w
          child_busy told = let st = unlocks_on stands_back t.parent [] (without_first t.parent (new_lock t.parent) [] refl) told in
              record { found = taken; taken = some; made = inr (inr (made_by st)); rest = gives_up free st }

-- They are given up.
module _ {k : Shape} (v : View) (t : Turn) (three : AreThree k t) (parent node child : List Known)
    (locked : v.locks ≡ three_locks t parent node child) (settled : v.moving ≡ None) where
  abbrev held_child : HeldLock
  held_child = held_lock t.child child false

  abbrev held_node : HeldLock
  held_node = held_lock t.node node false

  abbrev held_parent : HeldLock
  held_parent = held_lock t.parent parent false

  begins : Stands v (held_child ∷ (held_node ∷ (held_parent ∷ []))) v.hands.hand v.hands.spare [] v
  begins = stands_first v _ locked

  pub asks_unlock_child : IsAsked k v (Unlock t.child)
  asks_unlock_child = asks_unlock begins settled t.child held_child
      (lock_child t three held_child held_node held_parent refl refl refl) refl refl refl

  module _ {v1 : View} (first : Told k v (Unlock t.child) 0 v1) where
    child_given : Stands v (held_node ∷ (held_parent ∷ [])) v.hands.hand v.hands.spare (unlocking t.child ∷ []) v1
    child_given = unlocks_on begins t.child (held_node ∷ (held_parent ∷ []))
        (without_child t three held_child held_node held_parent refl refl refl) first

    pub asks_unlock_node : IsAsked k v1 (Unlock t.node)
    asks_unlock_node = asks_unlock child_given settled t.node held_node (lock_first t.node held_node (held_parent ∷ []) refl) refl refl refl

    module _ {v2 : View} (second : Told k v1 (Unlock t.node) 0 v2) where
      node_given : Stands v (held_parent ∷ []) v.hands.hand v.hands.spare (unlocking t.child ∷ (unlocking t.node ∷ [])) v2
      node_given = unlocks_on child_given t.node (held_parent ∷ [])
          (without_node t three held_child held_node held_parent refl refl refl) second

      pub asks_unlock_parent : IsAsked k v2 (Unlock t.parent)
      asks_unlock_parent = asks_unlock node_given settled t.parent held_parent (lock_first t.parent held_parent [] refl) refl refl refl

      pub all_given_up : {w : View} → Told k v2 (Unlock t.parent) 0 w → HasUnlocked v t w
      all_given_up third = (unlocks_on node_given t.parent []
          (without_parent t three held_child held_node held_parent refl refl refl) third).is

-- The words of the three are loaded under their locks.
still_aside : {v : View} {locks : List HeldLock} {steps : List StepMade} {u : View} {s : ℕ}
    → Stands v locks v.hands.hand v.hands.spare steps u → IsAside v s → IsAside u s
still_aside st aside = record {
  not_hand = λ held e. aside.not_hand held (ap (λ (z : View). z.hands.hand) (sym st.is) ∙ e);
  not_spare = λ held e. aside.not_spare held (ap (λ (z : View). z.hands.spare) (sym st.is) ∙ e);
}

module _ {k : Shape} {v : View} {t : Turn} (three : AreThree k t) (locked : v.locks ≡ three_locks t [] [] [])
    (aside : ThreeAside v t) (settled : v.moving ≡ None) where
  pub parent_locked : HasLock v t.parent
  parent_locked = (
    held_lock t.parent [] false,
    ap (λ ls. lock_of ls t.parent) locked ∙ lock_parent t three (held_lock t.child [] false) (held_lock t.node [] false)
        (held_lock t.parent [] false) refl refl refl,
  )

  -- where those of the parent are loaded
  module _ {u : View} {life link : ℕ}
      (reads : Reads v t.parent (loaded (Link t.parent t.side) link ∷ (loaded (Life t.parent) life ∷ []))
      (loading (Life t.parent) life ∷ (loading (Link t.parent t.side) link ∷ [])) u) where
    abbrev child_free : HeldLock
    child_free = held_lock t.child [] false

    abbrev node_free : HeldLock
    node_free = held_lock t.node [] false

    abbrev parent_read : HeldLock
    parent_read = held_lock t.parent (loaded (Link t.parent t.side) link ∷ (loaded (Life t.parent) life ∷ [])) false

    abbrev ones : List StepMade
    ones = loading (Life t.parent) life ∷ (loading (Link t.parent t.side) link ∷ [])

    stands_parent : Stands v (child_free ∷ (node_free ∷ (parent_read ∷ []))) v.hands.hand v.hands.spare ones u
    stands_parent = record {
      is =
          let more : HeldLock → HeldLock = knowing parent_read.known in
          let locks = ap (change_lock t.parent more) locked
          ∙ change_parent t three child_free node_free (held_lock t.parent [] false) refl refl refl more in
          (reads.stands).is ∙ (λ i. record v { locks = locks i; trail = adding v.trail ones });
    }

    pub node_locked : HasLock u t.node
    node_locked = (
      node_free,
      lock_there stands_parent t.node node_free
          (lock_node t three child_free node_free parent_read refl refl refl),
    )

    pub node_stays : IsAside u t.node
    node_stays = still_aside stands_parent aside.node_aside

    pub node_settled : u.moving ≡ None
    node_settled = ap (λ (z : View). z.moving) stands_parent.is ∙ settled

    -- and those of the node
    module _ {u2 : View} (n : NodeWords)
        (second : HasLoaded u t.node (node_known t.node t.turn n) (node_loads t.node t.turn n) u2) where
      abbrev node_read : HeldLock
      node_read = held_lock t.node (node_known t.node t.turn n) false

      abbrev twos : List StepMade
      twos = ones ++ node_loads t.node t.turn n

      stands_node : Stands v (child_free ∷ (node_read ∷ (parent_read ∷ []))) v.hands.hand v.hands.spare twos u2
      stands_node = record {
        is =
            let more : HeldLock → HeldLock = knowing node_read.known in
            let locks = change_node t three child_free node_free parent_read refl refl refl more in
            second ∙ ap (λ (z : View). record z {
              locks = change_lock t.node more z.locks;
              trail = adding z.trail (node_loads t.node t.turn n);
            }) stands_parent.is ∙ (λ i. record v {
              locks = locks i;
              trail = steps_both v.trail ones (node_loads t.node t.turn n) i;
            });
      }

      pub child_locked : HasLock u2 t.child
      child_locked = (
        child_free,
        lock_there stands_node t.child child_free
            (lock_child t three child_free node_read parent_read refl refl refl),
      )

      pub child_stays : IsAside u2 t.child
      child_stays = still_aside stands_node aside.child_aside

      pub child_settled : u2.moving ≡ None
      child_settled = ap (λ (z : View). z.moving) stands_node.is ∙ settled

      -- and those of the child
      pub all_loaded : {w : View} (m : NodeWords)
          → HasLoaded u2 t.child (node_known t.child t.turn m) (node_loads t.child t.turn m) w
          → HasLoadedAll v t (record { parent_life = life; link = link; node = n; child = m }) w
      all_loaded {w} m third =
          let more : HeldLock → HeldLock = knowing (node_known t.child t.turn m) in
          let locks = change_child t three child_free node_read parent_read refl refl refl more in
          third ∙ ap (λ (z : View). record z {
            locks = change_lock t.child more z.locks;
            trail = adding z.trail (node_loads t.child t.turn m);
          }) stands_node.is ∙ (λ i. record v {
            locks = locks i;
            trail = steps_both v.trail twos (node_loads t.child t.turn m) i;
          })

-- A node and its child are replaced: what each step asks, and what all of them leave.

module _ {k : Shape} {v : View} {t : Turn} {words : TurnWords} {bottom top : ℕ} (recorded : HasRecorded k v t)
    (may : MayReplace k.room v t words bottom top) where
  abbrev low : Content
  low = lower_content words

  abbrev high : Content
  high = upper_content words bottom

  abbrev lower : Held
  lower = record may.lower { known = content_known bottom t.turn low ++ may.lower.known }

  abbrev upper : Held
  upper = record may.upper { known = content_known top t.turn high ++ may.upper.known }

  abbrev child_lock : HeldLock
  child_lock = held_lock t.child (node_known t.child t.turn words.child) false

  abbrev node_lock : HeldLock
  node_lock = held_lock t.node (node_known t.node t.turn words.node) false

  abbrev parent_lock : HeldLock
  parent_lock = held_lock t.parent (parent_known t words) false

  upper_off : may.upper.slot ≢ bottom
  upper_off e = may.aside.two (sym e ∙ may.spare_is.1)

  lower_off : may.lower.slot ≢ top
  lower_off e = may.aside.two (sym may.hand_is.1 ∙ e)

  -- the slot in hand is filled
  pub bottom_held : IsHeldSlot v bottom
  bottom_held = (may.lower, inl may.hand_is)

  pub bottom_free : lock_of v.locks bottom ≡ None
  bottom_free = ap (λ ls. lock_of ls bottom) may.locks_are
      ∙ lock_other t recorded.three child_lock node_lock parent_lock refl refl refl bottom may.aside.bottom_parent may.aside.bottom_node
      may.aside.bottom_child

  abbrev first_steps : List StepMade
  first_steps = fill_steps bottom t.turn low

  module _ {v1 : View} (first : HasFilled v bottom t.turn low v1) where
    stands_1 : Stands v (loaded_locks t words) (Some lower) (Some may.upper) first_steps v1
    stands_1 = record {
      is =
          let known : List Known = content_known bottom t.turn low in
          let hand = ap (learning bottom known) may.hand_is.0 ∙ learning_here bottom known may.lower may.hand_is.1 in
          let spare = ap (learning bottom known) may.spare_is.0 ∙ learning_off bottom known may.upper upper_off in
          first ∙ (λ i. record v {
            locks = may.locks_are i;
            hands = record v.hands { hand = hand i; spare = spare i };
            trail = adding v.trail first_steps;
          });
    }

    pub settled_1 : v1.moving ≡ None
    settled_1 = ap (λ (z : View). z.moving) stands_1.is ∙ may.settled

    pub top_held : IsHeldSlot v1 top
    top_held = (may.upper, inr (ap (λ (z : View). z.hands.spare) stands_1.is, may.spare_is.1))

    pub top_free : lock_of v1.locks top ≡ None
    top_free = ap (λ (z : View). lock_of z.locks top) stands_1.is
        ∙ lock_other t recorded.three child_lock node_lock parent_lock refl refl refl top may.aside.top_parent may.aside.top_node
        may.aside.top_child

    -- the spare is filled
    abbrev second_steps : List StepMade
    second_steps = first_steps ++ fill_steps top t.turn high

    module _ {v2 : View} (second : HasFilled v1 top t.turn high v2) where
      stands_2 : Stands v (loaded_locks t words) (Some lower) (Some upper) second_steps v2
      stands_2 = record {
        is =
            let known : List Known = content_known top t.turn high in
            let hand = learning_off top known lower lower_off in
            let spare = learning_here top known may.upper may.spare_is.1 in
            second ∙ ap (λ (z : View). record z {
              hands = record z.hands { hand = learning top known z.hands.hand; spare = learning top known z.hands.spare };
              trail = adding z.trail (fill_steps top t.turn high);
            }) stands_1.is ∙ (λ i. record v {
              locks = loaded_locks t words;
              hands = record v.hands { hand = hand i; spare = spare i };
              trail = steps_both v.trail first_steps (fill_steps top t.turn high) i;
            });
      }

      -- A node that is locked, unmarked and recorded may be marked.
      marks : {u : View} {locks : List HeldLock} {steps : List StepMade} → Stands v locks (Some lower) (Some upper) steps u
          → (s life generation : ℕ) (known : List Known) → lock_of locks s ≡ Some (held_lock s known false)
          → LoadedGeneration recorded.reading s generation → life ≡ 2 * generation → known_in known (Life s) ≡ Some life
          → loaded_in known (Life s) ≡ Some life → s ≢ 0 → NeedsMark u s life
      marks {u} st s life generation known locked age even there loaded some = record {
        lock = held_lock s known false;
        locked = lock_there st s (held_lock s known false) locked;
        life_now = there;
        unmarked = let e = even in omega arith;
        why = inr (inr (record {
          settled = ap (λ (z : View). z.moving) st.is ∙ may.settled;
          reading = recorded.reading;
          kept = subst (λ (z : View). IsIn z.records recorded.reading) (sym st.is) recorded.kept;
          unmarked = (
            generation,
            age,
            ap (λ o. loaded_in (known_of o) (Life s)) (lock_there st s (held_lock s known false) locked)
                ∙ loaded ∙ ap Some even,
          );
          some_slot = some;
        }));
      }

      pub asks_mark_node : IsAsked k v2 (MarkNode t.node words.node.life)
      asks_mark_node = λ told.
          (let needs = marks stands_2 t.node words.node.life t.node_generation (node_known t.node t.turn words.node)
          (lock_node t recorded.three child_lock node_lock parent_lock refl refl refl) recorded.node_age may.as_recorded.node_life
          (known_first (Life t.node) words.node.life false []) (loaded_first (Life t.node) words.node.life []) recorded.three.some_node in
          (told.tells.locks_within t.node (needs.lock, needs.locked), needs))

      node_off : IsOff t.node (Some lower) × IsOff t.node (Some upper)
      node_off = (
        (λ held e is. may.aside.bottom_node (sym may.hand_is.1 ∙ (let q : lower ≡ held = cc in ap (λ (h : Held). h.slot) q) ∙ is)),
        (λ held e is. may.aside.top_node (sym may.spare_is.1 ∙ (let q : upper ≡ held = cc in ap (λ (h : Held). h.slot) q) ∙ is)),
      )

      child_off : IsOff t.child (Some lower) × IsOff t.child (Some upper)
      child_off = (
        (λ held e is. may.aside.bottom_child (sym may.hand_is.1 ∙ (let q : lower ≡ held = cc in ap (λ (h : Held). h.slot) q) ∙ is)),
        (λ held e is. may.aside.top_child (sym may.spare_is.1 ∙ (let q : upper ≡ held = cc in ap (λ (h : Held). h.slot) q) ∙ is)),
      )

      abbrev node_marked : HeldLock
      node_marked = held_lock t.node (filled (Life t.node) (words.node.life + 1) ∷ node_known t.node t.turn words.node) true

      abbrev child_marked : HeldLock
      child_marked = held_lock t.child (filled (Life t.child) (words.child.life + 1) ∷ node_known t.child t.turn words.child) true

      -- the node is marked
      abbrev third_locks : List HeldLock
      third_locks = child_lock ∷ (node_marked ∷ (parent_lock ∷ []))

      abbrev third_steps : List StepMade
      third_steps = second_steps ++ marking t.node words.node.life ∷ []

      module _ {v3 : View} (third : Told k v2 (MarkNode t.node words.node.life) (words.node.life + 1) v3) where
        stands_3 : Stands v third_locks (Some lower) (Some upper) third_steps v3
        stands_3 = record {
          is =
              let note : HeldLock → HeldLock = note_lock (filled (Life t.node) (words.node.life + 1)) in
              let more = marks_on stands_2 may.settled t.node words.node.life node_off.0 node_off.1 third in
              let locks = ap (change_lock t.node (with_mark true))
              (change_node t recorded.three child_lock node_lock parent_lock refl refl refl note)
              ∙ change_node t recorded.three child_lock (note node_lock) parent_lock refl refl refl (with_mark true) in
              more.is ∙ ap (λ ls. standing v ls (Some lower) (Some upper) third_steps) locks;
        }

        pub asks_mark_child : IsAsked k v3 (MarkNode t.child words.child.life)
        asks_mark_child = λ told.
            (let needs = marks stands_3 t.child words.child.life t.child_generation (node_known t.child t.turn words.child)
            (lock_child t recorded.three child_lock node_marked parent_lock refl refl refl) recorded.child_age may.as_recorded.child_life
            (known_first (Life t.child) words.child.life false []) (loaded_first (Life t.child) words.child.life [])
            recorded.three.some_child in
            (told.tells.locks_within t.child (needs.lock, needs.locked), needs))

        -- the child is marked
        abbrev fourth_locks : List HeldLock
        fourth_locks = child_marked ∷ (node_marked ∷ (parent_lock ∷ []))

        abbrev fourth_steps : List StepMade
        fourth_steps = third_steps ++ marking t.child words.child.life ∷ []

        module _ {v4 : View} (fourth : Told k v3 (MarkNode t.child words.child.life) (words.child.life + 1) v4) where
          stands_4 : Stands v fourth_locks (Some lower) (Some upper) fourth_steps v4
          stands_4 = record {
            is =
                let note : HeldLock → HeldLock = note_lock (filled (Life t.child) (words.child.life + 1)) in
                let more = marks_on stands_3 may.settled t.child words.child.life child_off.0 child_off.1 fourth in
                let locks = ap (change_lock t.child (with_mark true))
                (change_child t recorded.three child_lock node_marked parent_lock refl refl refl note)
                ∙ change_child t recorded.three (note child_lock) node_marked parent_lock refl refl refl (with_mark true) in
                more.is ∙ ap (λ ls. standing v ls (Some lower) (Some upper) fourth_steps) locks;
          }

          parent_there : lock_of v4.locks t.parent ≡ Some parent_lock
          parent_there = lock_there stands_4 t.parent parent_lock
              (lock_parent t recorded.three child_marked node_marked parent_lock refl refl refl)

          node_there : lock_of v4.locks t.node ≡ Some node_marked
          node_there = lock_there stands_4 t.node node_marked
              (lock_node t recorded.three child_marked node_marked parent_lock refl refl refl)

          child_there : lock_of v4.locks t.child ≡ Some child_marked
          child_there = lock_there stands_4 t.child child_marked
              (lock_child t recorded.three child_marked node_marked parent_lock refl refl refl)

          -- what is known under a lock
          under : (s : ℕ) (lock : HeldLock) (field : Field) → lock_of v4.locks s ≡ Some lock
              → known_in (known_under v4 s) field ≡ known_in lock.known field
          under s lock field there = ap (λ o. known_in (known_of o) field) there

          abbrev up : Content
          up = words.node.content

          abbrev down : Content
          down = words.child.content

          abbrev node_rest : List Known
          node_rest = record { field = Life t.node; number = words.node.life; stored = false } ∷ []

          abbrev child_rest : List Known
          child_rest = record { field = Life t.child; number = words.child.life; stored = false } ∷ []

          is_marked : (s generation life : ℕ) (known : List Known) → LoadedGeneration recorded.reading s generation
              → lock_of v4.locks s ≡ Some (held_lock s (filled (Life s) (life + 1) ∷ known) true) → life ≡ 2 * generation
              → IsMarkedNode v4 recorded.reading s
          is_marked s generation life known age there even = record {
            generation = generation;
            lock = held_lock s (filled (Life s) (life + 1) ∷ known) true;
            recorded = age;
            locked = there;
            marked = refl;
            life = known_first (Life s) (life + 1) true known ∙ ap (λ n. Some (n + 1)) even;
          }

          abbrev turning : Rotation
          turning = record {
            turn = t.turn;
            node_key = up.key;
            node_value = up.value;
            child_key = down.key;
            child_value = down.value;
            outer = down.turn_link;
            inner = down.other_link;
            far = up.other_link;
            bottom = bottom;
          }

          needs : NeedsRotate k.room v4 upper t.parent t.side t.node t.child top
          needs = record {
            settled = ap (λ (z : View). z.moving) stands_4.is ∙ may.settled;
            ticket = subst (λ (z : View). 1 ≤ z.allowance.tickets) (sym stands_4.is) may.ticket;
            room = subst (λ (z : View). length z.hands.retired + 1 < k.room) (sym stands_4.is) may.room;
            reading = recorded.reading;
            kept = subst (λ (z : View). IsIn z.records recorded.reading) (sym stands_4.is) recorded.kept;
            parent_now = (
              t.parent_generation,
              recorded.parent_age,
              ap (λ o. loaded_in (known_of o) (Life t.parent)) parent_there
                  ∙ loaded_first (Life t.parent) words.parent_life [] ∙ ap Some may.as_recorded.parent_life,
            );
            link_now = under t.parent parent_lock (Link t.parent t.side) parent_there
                ∙ known_first (Link t.parent t.side) words.link false (record {
                  field = Life t.parent;
                  number = words.parent_life;
                  stored = false;
                } ∷ []) ∙ ap Some may.as_recorded.link;
            node_marked = is_marked t.node t.node_generation words.node.life (node_known t.node t.turn words.node) recorded.node_age
                node_there may.as_recorded.node_life;
            child_marked = is_marked t.child t.child_generation words.child.life (node_known t.child t.turn words.child) recorded.child_age
                child_there may.as_recorded.child_life;
            turning = turning;
            node_is = record {
              key_is = under t.node node_marked _ node_there
                  ∙ key_known t.node t.turn up.key up.value up.turn_link up.other_link false node_rest;
              value_is = under t.node node_marked _ node_there
                  ∙ value_known t.node t.turn up.key up.value up.turn_link up.other_link false node_rest;
              near_is = under t.node node_marked _ node_there
                  ∙ turn_known t.node t.turn up.key up.value up.turn_link up.other_link false node_rest ∙ ap Some may.as_recorded.turn_link;
              far_is = under t.node node_marked _ node_there
                  ∙ other_known t.node t.turn up.key up.value up.turn_link up.other_link false node_rest;
            };
            child_is = record {
              key_is = under t.child child_marked _ child_there
                  ∙ key_known t.child t.turn down.key down.value down.turn_link down.other_link false child_rest;
              value_is = under t.child child_marked _ child_there
                  ∙ value_known t.child t.turn down.key down.value down.turn_link down.other_link false child_rest;
              near_is = under t.child child_marked _ child_there
                  ∙ turn_known t.child t.turn down.key down.value down.turn_link down.other_link false child_rest;
              far_is = under t.child child_marked _ child_there
                  ∙ other_known t.child t.turn down.key down.value down.turn_link down.other_link false child_rest;
            };
            spare_is = (ap (λ (z : View). z.hands.spare) stands_4.is, may.spare_is.1);
            lower = lower;
            hand_is = (ap (λ (z : View). z.hands.hand) stands_4.is, may.hand_is.1);
            unraised = may.unraised;
            top_is = record {
              key_is = key_known top t.turn high.key high.value high.turn_link high.other_link true may.upper.known;
              value_is = value_known top t.turn high.key high.value high.turn_link high.other_link true may.upper.known;
              near_is = turn_known top t.turn high.key high.value high.turn_link high.other_link true may.upper.known;
              far_is = other_known top t.turn high.key high.value high.turn_link high.other_link true may.upper.known;
            };
            bottom_is = record {
              key_is = key_known bottom t.turn low.key low.value low.turn_link low.other_link true may.lower.known;
              value_is = value_known bottom t.turn low.key low.value low.turn_link low.other_link true may.lower.known;
              near_is = turn_known bottom t.turn low.key low.value low.turn_link low.other_link true may.lower.known;
              far_is = other_known bottom t.turn low.key low.value low.turn_link low.other_link true may.lower.known;
            };
          }

          pub asks_rotate : IsAsked k v4 (Rotate t.parent t.side t.node t.child top)
          asks_rotate = λ told. (
            told.tells.locks_within t.parent (parent_lock, parent_there),
            subst (λ z. NeedsRotate k.room v4 z t.parent t.side t.node t.child top) (sym (spare_is v4 upper needs.spare_is.0)) needs,
          )

          -- the two are replaced
          module _ {w : View} (fifth : Told k v4 (Rotate t.parent t.side t.node t.child top) top w) where
            pub replaced : HasReplaced v t words bottom top w
            replaced =
                let h : List Mark = fifth.marks in
                let x : View = noted (standing v fourth_locks (Some lower) (Some upper) fourth_steps)
                (Rotate t.parent t.side t.node t.child top) top in
                let kn : Known = filled (Link t.parent t.side) top in
                let parent_words : List Known = kn ∷ parent_known t words in
                let parent_noted : HeldLock = held_lock t.parent parent_words false in
                let node_unmarked : HeldLock = with_mark false node_marked in
                let child_unmarked : HeldLock = with_mark false child_marked in
                let locks = ap (λ ls. change_lock t.child (with_mark false) (change_lock t.node (with_mark false) ls))
                (change_parent t recorded.three child_marked node_marked parent_lock refl refl refl (note_lock kn))
                ∙ ap (change_lock t.child (with_mark false))
                (change_node t recorded.three child_marked node_marked parent_noted refl refl refl (with_mark false))
                ∙ change_child t recorded.three child_marked node_unmarked parent_noted refl refl refl (with_mark false) in
                let sees : Sees (standing v fourth_locks (Some lower) (Some upper) fourth_steps) h =
                subst (λ z. Sees z h) stands_4.is fifth.sees in
                let node_gone : Retired = newly_retired x t.node (length h) in
                let child_gone : Retired = newly_retired x t.child (length h + 1) in
                record {
                  before = h;
                  sees = record { works = sees.works; begins = sees.begins; own = sees.own };
                  node_gone = node_gone;
                  node_is = record { slot_is = refl; unlinked_is = refl; unraised = refl; unwaited = refl };
                  child_gone = child_gone;
                  child_is = record { slot_is = refl; unlinked_is = refl; unraised = refl; unwaited = refl };
                  parent_words = parent_words;
                  node_words = node_unmarked.known;
                  child_words = child_unmarked.known;
                  rest = goes_from stands_4.is fifth ∙ (λ i. record v {
                    allowance = record v.allowance { tickets = v.allowance.tickets - 1 };
                    locks = locks i;
                    hands = record v.hands {
                      hand = None;
                      spare = None;
                      retired = v.hands.retired ++ node_gone ∷ (child_gone ∷ []);
                    };
                    moving = settles v may.settled t.parent kn i;
                    trail = steps_both v.trail fourth_steps (rotating t top ∷ []) i;
                    seen = h ++ rotate_marks t.node t.child;
                  });
                }

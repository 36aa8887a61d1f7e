-- The section of a node that is turned down: its loads, and what they find out; and what the call comes to.
use Rattle.std.proofs.Common.{◌≡◌, ◌≢◌, ◌/◌, ◌⊎◌, ⊎_elim, ℕ, ◌+◌, ◌≤◌, ◌<◌, ◌&&◌, ◌==◌, cond, not, true, false, Bool, List, ◌∷◌, length, arith, Some, None, refl, sym, ap, subst, ◌∙◌, inl, inr, eq-eqb, ne_eqb}
use Rattle.prcu_marks.specs.declared.mark.Side.{Side}
use Rattle.prcu_marks.specs.declared.mark.Side.TheVariants.{Left, Right}
use Rattle.core_state.specs.declared.shape.Shape.{Shape}
use Rattle.core_state.specs.declared.words.Field.{Field}
use Rattle.core_state.specs.declared.words.Field.TheVariants.{Life, Link}
use Rattle.core_state.specs.declared.view.Known.{Known}
use Rattle.core_state.specs.declared.view.Reading.{Reading}
use Rattle.core_state.specs.declared.view.SearchState.{SearchState}
use Rattle.core_state.specs.declared.view.SearchState.TheVariants.{Found}
use Rattle.core_state.specs.declared.view.View.{View}
use Rattle.core_state.specs.Steps.{loaded, searched, walked, walking}
use Rattle.core_state.specs.Views.{known_in}
use Rattle.core_laws.proofs.Searches.{in_more}
use Rattle.list_laws.specs.Counts.{IsIn}
use Rattle.seat_table.specs.Gains.{IsSlot}
use Rattle.citrus_tree.specs.Lookups.{IsSearching}
use Rattle.tree_turn.specs.declared.turn.Turn.{Turn}
use Rattle.seat_table.specs.Seats.{SeatAt, IsQuietSeat}
use Rattle.tree_points.proofs.Locks.{advanced_same}
use Rattle.tree_turn.specs.Turns.{HasRecorded}
use Rattle.tree_lift.specs.declared.sinking.Sunk.{Sunk}
use Rattle.tree_lift.specs.declared.sinking.Sunk.TheVariants.{Turned, Moved, Low, NoRoom, NoSlot}
use Rattle.tree_lift.specs.declared.trying.Outcome.{Outcome}
use Rattle.tree_lift.specs.Ways.{IsReading}
use Rattle.tree_lift.specs.Lifts.{CanPayTurn, ComesOf, LeavesNoUpdate, MakesRoom, Proceeds, Reclaims, TakesSlots, TriesTurn}
use Rattle.tree_lift.specs.Sinks.{FindsDown, IsLow, IsTwice, RecordsDown, Sinks, TriesDown}
use Rattle.tree_lift.proofs.Attempts.{HasRoom, LeavesTried, few_read, has_room, last_takes, left_none, pays_read, proceeds_read, proceeds_same, proceeds_takes, quiet_read, read_tickets, recorded_read, tried_leaves}
use Rattle.tree_lift.proofs.Slots.{goes_back}
use Rattle.tree_lift.proofs.Ways.{aged_is, noted_load}
use Rattle.tree_lift.specs.declared.trying.Outcome.TheVariants as outcome

-- A search is a way down, of which nothing was found out but where it stands.
pub reading_of : {v w : View} {key : ℕ} {state : SearchState} → (i : IsSearching v key state w)
    → IsReading v key i.reading w
reading_of i = record { entry = i.entry; entered = i.entered; inside = i.inside; others = i.others; made = i.made }

-- A section that found the node of its key, in which no walk began.
pub record HasFoundNode (key node parent : ℕ) (side : Side) (r : Reading) : Type 0 where
  pub sought : r.key ≡ key
  pub state_is : r.state ≡ Found node parent side None
  pub no_walk : r.walk ≡ None
  pub node_stood : IsIn r.stood node
  pub parent_stood : IsIn r.stood parent

pub found_node : {v w : View} {key : ℕ} {node parent : ℕ} {side : Side} → (i : IsSearching v key (Found node parent side None) w)
    → HasFoundNode key node parent side i.reading
found_node i = record {
  sought = i.key_is;
  state_is = i.state_is;
  no_walk = i.no_walk;
  node_stood = i.here;
  parent_stood = i.above;
}

module _ (key node parent : ℕ) (side : Side) (r : Reading) (f : HasFoundNode key node parent side r) where
  -- The left link moves nothing.
  module _ (left : ℕ) where
    abbrev first : Reading
    first = loaded r (Link node Left) left

    first_is : first ≡ noted_load r (Link node Left) left
    first_is =
        let r' : Reading = noted_load r (Link node Left) left in
        ap (λ z. searched r' z (Link node Left) left) f.state_is ∙ ap (λ z. walked r' node z node Left left) f.no_walk

    pub node_stands : IsIn first.stood node
    node_stands = subst (λ (z : Reading). IsIn z.stood node) (sym first_is) f.node_stood

    -- The right one begins a walk, where it leads to a slot.
    module _ (right : ℕ) where
      abbrev second : Reading
      second = loaded first (Link node Right) right

      abbrev noted : Reading
      noted = noted_load (noted_load r (Link node Left) left) (Link node Right) right

      second_from : second ≡ walked noted node None node Right right
      second_from =
          ap (λ (z : Reading). loaded z (Link node Right) right) first_is
          ∙ ap (λ z. searched noted z (Link node Right) right) f.state_is ∙ ap (λ z. walked noted node z node Right right) f.no_walk

      abbrev IsSecond : Reading → Type 0
      IsSecond z = (z.key ≡ r.key) × (z.state ≡ r.state) × (z.loads ≡ noted.loads)

      second_facts : (b : Bool) → IsSecond (cond b (walking noted node right) noted)
      second_facts true = (refl, refl, refl)
      second_facts false = (refl, refl, refl)

      pub second_is : IsSecond second
      second_is = subst IsSecond (sym second_from) (second_facts ((node == node) && not (right == 0)))

      left_known : known_in second.loads (Link node Left) ≡ Some left
      left_known = ap (λ l. known_in l (Link node Left)) second_is.2
          ∙ ap (λ z. cond (z && false) (Some right) (cond (z && true) (Some left) (known_in r.loads (Link node Left)))) (eq-eqb node node refl)

      -- A child is missing.
      pub low_left : left ≡ 0 → IsLow key second
      low_left none = record {
        sought = second_is.0 ∙ f.sought;
        why = inr (inl (node, parent, side, Left, second_is.1 ∙ f.state_is, left_known ∙ ap Some none));
      }

      right_known : known_in second.loads (Link node Right) ≡ Some right
      right_known = ap (λ l. known_in l (Link node Right)) second_is.2
          ∙ ap (λ z. cond (z && true) (Some right) (known_in (noted_load r (Link node Left) left).loads (Link node Right))) (eq-eqb node node refl)

      pub low_right : right ≡ 0 → IsLow key second
      low_right none = record {
        sought = second_is.0 ∙ f.sought;
        why = inr (inl (node, parent, side, Right, second_is.1 ∙ f.state_is, right_known ∙ ap Some none));
      }

      -- or a slot is there twice
      pub low_twice : IsTwice node parent right → IsLow key second
      low_twice twice = record {
        sought = second_is.0 ∙ f.sought;
        why = inr (inr (node, parent, right, side, second_is.1 ∙ f.state_is, right_known, twice));
      }

      -- Both children are there.
      module _ (left_some : left ≢ 0) (right_some : right ≢ 0) where
        stood_is : second.stood ≡ right ∷ r.stood
        stood_is = ap (λ (z : Reading). z.stood) second_from
            ∙ ap (λ z. (cond (z && not (right == 0)) (walking noted node right) noted).stood) (eq-eqb node node refl)
            ∙ ap (λ z. (cond (not z) (walking noted node right) noted).stood) (ne_eqb right 0 right_some)

        pub child_stands : IsIn second.stood right
        child_stands = subst (λ l. IsIn l right) (sym stood_is) (0, refl)

        pub parent_stands : IsIn second.stood parent
        parent_stands = subst (λ l. IsIn l parent) (sym stood_is) (in_more r.stood right parent f.parent_stood)

        node_stays : IsIn second.stood node
        node_stays = subst (λ l. IsIn l node) (sym stood_is) (in_more r.stood right node f.node_stood)

        module _ (parent_life : ℕ) where
          abbrev third : Reading
          third = loaded second (Life parent) parent_life

          third_is : third ≡ noted_load second (Life parent) parent_life
          third_is = aged_is second parent parent_life

          pub node_after : IsIn third.stood node
          node_after = subst (λ (z : Reading). IsIn z.stood node) (sym third_is) node_stays

          module _ (node_life : ℕ) where
            abbrev fourth : Reading
            fourth = loaded third (Life node) node_life

            fourth_is : fourth ≡ noted_load (noted_load second (Life parent) parent_life) (Life node) node_life
            fourth_is = aged_is third node node_life ∙ ap (λ z. noted_load z (Life node) node_life) third_is

            pub child_after : IsIn fourth.stood right
            child_after = subst (λ (z : Reading). IsIn z.stood right) (sym fourth_is) child_stands

            module _ (child_life : ℕ) where
              abbrev fifth : Reading
              fifth = loaded fourth (Life right) child_life

              abbrev aged : Reading
              aged = noted_load (noted_load (noted_load second (Life parent) parent_life) (Life node) node_life) (Life right) child_life

              fifth_is : fifth ≡ aged
              fifth_is = aged_is fourth right child_life ∙ ap (λ z. noted_load z (Life right) child_life) fourth_is

              known_is : (field : Field) (n : ℕ) → known_in aged.loads field ≡ Some n → known_in fifth.loads field ≡ Some n
              known_is field n e = ap (λ (z : Reading). known_in z.loads field) fifth_is ∙ e

              -- a life that was loaded last, or before another one
              here : (s n : ℕ) (ks : List Known) → known_in (record { field = Life s; number = n; stored = false } ∷ ks) (Life s) ≡ Some n
              here s n ks = ap (λ z. cond z (Some n) (known_in ks (Life s))) (eq-eqb s s refl)

              skip : (a s n : ℕ) (ks : List Known) → a ≢ s
                  → known_in (record { field = Life a; number = n; stored = false } ∷ ks) (Life s) ≡ known_in ks (Life s)
              skip a s n ks ne = ap (λ z. cond z (Some n) (known_in ks (Life s))) (ne_eqb a s ne)

              abbrev under_node : List Known
              under_node = (noted_load second (Life parent) parent_life).loads

              abbrev under_child : List Known
              under_child = record { field = Life node; number = node_life; stored = false } ∷ under_node

              pub records_down : (k : Shape) (parent_generation node_generation child_generation : ℕ) → IsSlot k parent → IsSlot k node
                  → IsSlot k right → node ≢ 0 → parent ≢ node → node ≢ right → right ≢ parent → parent_generation ≡ parent_life / 2
                  → node_generation ≡ node_life / 2 → child_generation ≡ child_life / 2
                  → RecordsDown k key (record {
                    parent = parent;
                    side = side;
                    node = node;
                    turn = Right;
                    child = right;
                    parent_generation = parent_generation;
                    node_generation = node_generation;
                    child_generation = child_generation;
                  }) fifth
              records_down k parent_generation node_generation child_generation parent_slot node_slot child_slot some_node node_apart child_apart
                  child_off parent_half node_half child_half = record {
                    ages = record {
                      three = record {
                        parent_slot = parent_slot;
                        node_slot = node_slot;
                        child_slot = child_slot;
                        node_apart = λ e. node_apart (sym e);
                        child_apart = λ e. child_apart (sym e);
                        child_off = child_off;
                        some_node = some_node;
                        some_child = right_some;
                      };
                      parent_age = (
                        parent_life,
                        known_is (Life parent) parent_life (skip right parent child_life under_child child_off
                            ∙ skip node parent node_life under_node (λ e. node_apart (sym e)) ∙ here parent parent_life second.loads),
                        parent_half,
                      );
                      node_age = (
                        node_life,
                        known_is (Life node) node_life (skip right node child_life under_child (λ e. child_apart (sym e))
                            ∙ here node node_life under_node),
                        node_half,
                      );
                      child_age = (child_life, known_is (Life right) child_life (here right child_life under_child), child_half);
                    };
                    sought = ap (λ (z : Reading). z.key) fifth_is ∙ second_is.0 ∙ f.sought;
                    found = ap (λ (z : Reading). z.state) fifth_is ∙ second_is.1 ∙ f.state_is;
                    downward = refl;
                    left = left;
                    left_some = left_some;
                    left_is = known_is (Link node Left) left left_known;
                    right_is = known_is (Link node Right) right right_known;
                  }

-- What a call comes to.

-- Where it isn't to stand still for room, nothing was done.
pub room_found : (k : Shape) (s t : SeatAt) → MakesRoom k false s true t → (t ≡ s) × (length s.view.hands.retired + 1 < k.room)
room_found k s t = ⊎_elim (λ (there : (t ≡ s) × (length s.view.hands.retired + 1 < k.room)). there)
    (λ (back : Reclaims k false s t). absurd (let other : false ≡ true = back.stands_still in cc))

-- what it leaves, and what it answers
pub record EndsSink (k : Shape) (key : ℕ) (s : SeatAt) (answer : Sunk) (t : SeatAt) : Type 0 where
  pub proceeds : Proceeds key false s t
  pub sinks : Sinks k s.view key answer t.view
  pub tickets : s.view.allowance.tickets ≤ t.view.allowance.tickets + 3
  pub quiet : IsQuietSeat t

pub sinks_lacking : (k : Shape) (key : ℕ) (s t : SeatAt) → MakesRoom k false s false t → IsQuietSeat s → EndsSink k key s NoRoom t
sinks_lacking k key s t none quiet = subst (EndsSink k key s NoRoom) (sym none.0) (record {
  proceeds = proceeds_same key false s;
  sinks = (refl, none.2);
  tickets = omega arith;
  quiet = quiet;
})

module _ (k : Shape) (key : ℕ) (s : SeatAt) (few : length s.view.hands.retired + 1 < k.room) (quiet : IsQuietSeat s) where
  room : HasRoom k key false s s
  room = has_room k key false s s (inl (refl, few)) (λ told. told) quiet

  module _ (u : SeatAt) (listed : u.listed ≡ s.listed) where
    pub sinks_low : FindsDown k s.view key None u.view → EndsSink k key s Low u
    sinks_low found = record {
      proceeds = proceeds_read k key false s s room u found.0 found.1 listed;
      sinks = found;
      tickets = read_tickets k key false s s room u found.0 found.1 listed;
      quiet = quiet_read k key false s s room u found.0 found.1 listed;
    }

    module _ (turn : Turn) (found : FindsDown k s.view key (Some turn) u.view) where
      pub quiet_down : IsQuietSeat u
      quiet_down = quiet_read k key false s s room u found.0 found.1 listed

      pub pays_down : 3 ≤ s.view.allowance.tickets → CanPayTurn u.view
      pays_down = pays_read k key false s s room u found.0 found.1 listed

      pub few_down : length u.view.hands.retired + 1 < k.room
      few_down = few_read k key false s s room u found.0 found.1 listed

      pub recorded_down : HasRecorded k u.view turn
      recorded_down = recorded_read k key false s s room u found.0 found.1 listed turn found.2.ages

      leaves_down : (o : Outcome) (z : SeatAt) → TriesTurn k u turn o z → LeavesTried key false s z
      leaves_down = tried_leaves k key false s s room u found.0 found.1 listed turn

      tries_down : (made : Bool) (x : SeatAt) → TakesSlots k u true x → x.listed ≡ u.listed → (after w : View) → ComesOf made x.view turn after
          → LeavesNoUpdate after key w → w.hands.retired ≡ after.hands.retired → TriesDown k s.view key made w
      tries_down made x takes same after w comes later stay = record {
        turn = turn;
        reading = found.0;
        recorded = found.2;
        before = x.view;
        last = last_takes k key false s s room u found.0 found.1 listed true x takes same;
        earlier = (proceeds_takes k key false s s room u found.0 found.1 listed true x takes same).updates;
        retired = takes.goes.retired ∙ ap (λ (z : View). z.hands.retired) found.1.others;
        after = after;
        comes = comes;
        later = later;
        stay = stay;
      }

      pub sinks_turned : (z : SeatAt) → TriesTurn k u turn outcome.Turned z → EndsSink k key s Turned z
      sinks_turned z tries =
          let all = leaves_down outcome.Turned z tries in record {
            proceeds = all.proceeds;
            sinks = tries_down true tries.taken tries.takes tries.same z.view z.view tries.came.turned (left_none key advanced_same) refl;
            tickets = all.tickets;
            quiet = all.quiet;
          }

      pub sinks_moved : (z : SeatAt) → TriesTurn k u turn outcome.Refused z → EndsSink k key s Moved z
      sinks_moved z tries =
          let all = leaves_down outcome.Refused z tries in
          let lost = tries.came in
          let goes = goes_back lost.back in record {
            proceeds = all.proceeds;
            sinks = tries_down false tries.taken tries.takes tries.same lost.refused.view z.view lost.none (left_none key goes.advanced)
                goes.retired;
            tickets = all.tickets;
            quiet = all.quiet;
          }

      pub sinks_none : (z : SeatAt) → TriesTurn k u turn outcome.NoSlot z → EndsSink k key s NoSlot z
      sinks_none z tries =
          let all = leaves_down outcome.NoSlot z tries in record {
            proceeds = all.proceeds;
            sinks = (tries.0.none refl).full;
            tickets = all.tickets;
            quiet = all.quiet;
          }

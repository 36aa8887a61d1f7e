-- A value replaced and a slot unlinked, under a bucket's lock.
-- Updates under a bucket's lock.
use Rattle.std.proofs.Common.{◌≡◌, ◌≢◌, ℕ, ◌+◌, ◌*◌, ◌/◌, ◌%◌, ◌≤◌, true, false, cond, [], length, Option, Some, refl, sym, ap, subst, ◌∙◌, arith, eq-eqb, ne_eqb, ◌∷◌, None}
use mathlib.Core.List.{IsPrefix}
use Rattle.prcu_model.specs.declared.operation.Op.TheVariants.{Set, Del}
use Rattle.prcu_model.specs.Dictionary.{IsLegal}
use Rattle.hash_core.specs.declared.words.Field.TheVariants.{Front, Lock, Head, Key, Value, Retired, Next, Chain}
use Rattle.hash_core.specs.declared.words.Kind.TheVariants.{H6, H7, H12, H15, H16, H10, H14}
use Rattle.hash_core.specs.declared.words.Field.{Field}
use Rattle.hash_core.specs.declared.words.Kind.{Kind}
use Rattle.hash_core.specs.declared.view.Hold.{Hold}
use Rattle.prcu_marks.specs.declared.commit.Commit.{Commit}
use Rattle.hash_core.specs.declared.view.View.{View}
use Rattle.prcu_marks.specs.Marks.{updates_of, most_front}
use Rattle.hash_core.specs.Steps.{known_in, knowing, stepped, NeedsUnlock, NeedsReplace, NeedsEven, after_lock, fresh_hold, hold_of, commit_of, LinksTo, NeedsUnlink, NeedsPush, NeedsChain}
use Rattle.hash_core.specs.Memory.{is_slot_of, IsOfClass}
use Rattle.class_hash.specs.Seats.{TableAt}
use Rattle.class_hash.specs.Calls.{Told, loads_free, AddsNoLists, HasFinished, Unlocks, HasLoaded, KnowsMore, IsLinkedFrom}
use Rattle.class_hash.specs.Updates.{HasStepped, HasLocked, HasTurned, MayReplace, Replaced, with_update, link_after, MayUnlink, Removed}
use Rattle.class_hash.proofs.Walking.{known_here, comes_to_still, goes_by, goes_on, adds_none, adds_step, adds_both, loaded_first, loaded_second, knows_second}
use Rattle.prcu_model.proofs.ListFacts.{prefix_trans}
use Rattle.prcu_marks.specs.declared.mark.Mark.TheVariants.{Unlinked}
use Rattle.hash_core.specs.declared.act.Act.TheVariants as act

-- no step was made yet
pub not_stepped : (v : View) → HasStepped v v
not_stepped v = record { trail = adds_none v.trail; view = refl }

-- a lock that was free
pub locked : (table : TableAt) (v w x : View) (class : ℕ) → HasStepped v w → Told table w (act.Lock class) 0 x → HasLocked v class x
locked table v w x class idle told =
    let whole : x ≡ after_lock (stepped (record v { trail = w.trail }) H6 (Lock class) 0) class 0 =
    told.goes ∙ ap (λ (z : View). after_lock (stepped z H6 (Lock class) 0) class 0) idle.view in
    record {
      trail = subst (λ (z : View). AddsNoLists v.trail z.trail) (sym whole) (adds_step v.trail w.trail H6 (Lock class) 0 refl idle.trail);
      view = whole ∙ sym (ap (λ (z : View). record v { hold = Some (fresh_hold class); trail = z.trail }) whole);
    }

-- who has just locked a bucket has begun nothing there, and may give it up
pub locked_finished : (table : TableAt) (v w : View) (class : ℕ) → Told table v (act.Lock class) 0 w → HasFinished w
locked_finished table v w class told = (
  fresh_hold class,
  record {
    hold_is = ap (λ (z : View). z.hold) told.goes;
    taken = refl;
    unlinked = refl;
    moved = refl;
    even = ap (λ (z : View). z.commit) told.goes ∙ told.gains.even;
  },
)

-- a step that left nothing but the trail
stepped_on : (v w x : View) (kind : Kind) (field : Field) (n : ℕ) → loads_free kind field ≡ false → HasStepped v w
    → x ≡ stepped w kind field n → HasStepped v x
stepped_on v w x kind field n plain idle e =
    let whole : x ≡ stepped (record v { trail = w.trail }) kind field n = e ∙ ap (λ (z : View). stepped z kind field n) idle.view in
    record {
      trail = subst (λ (z : View). AddsNoLists v.trail z.trail) (sym whole) (adds_step v.trail w.trail kind field n plain idle.trail);
      view = whole ∙ sym (ap (λ (z : View). record v { trail = z.trail }) whole);
    }

-- a lock that was held
pub not_locked : (table : TableAt) (v w x : View) (class found : ℕ) → found ≢ 0 → HasStepped v w → Told table w (act.Lock class) found x
    → HasStepped v x
not_locked table v w x class found ne idle told =
    stepped_on v w x H6 (Lock class) found refl idle
    (told.goes ∙ ap (λ b. cond b (record (stepped w H6 (Lock class) found) { hold = Some (fresh_hold class) })
    (stepped w H6 (Lock class) found)) (ne_eqb found 0 ne))

-- the front was even, and is odd
pub turned : (table : TableAt) (v w x : View) (even found : ℕ) → found ≡ even → HasStepped v w
    → Told table w (act.OpenCommit even) found x → HasTurned v even x
turned table v w x even found same idle told =
    let odd : View → View = λ z. record (stepped z H12 Front found) { commit = Some (record { found = even; stored = false }) } in
    let e : x ≡ odd w = told.goes ∙ ap (λ b. cond b (odd w) (stepped w H12 Front found)) (eq-eqb found even same) in
    let whole : x ≡ odd (record v { trail = w.trail }) = e ∙ ap odd idle.view in
    record {
      small = subst (λ n. n ≤ most_front) same told.gains;
      trail = subst (λ (z : View). AddsNoLists v.trail z.trail) (sym whole) (adds_step v.trail w.trail H12 Front found refl idle.trail);
      view = whole ∙ sym (ap (λ (z : View). record v { commit = Some (record { found = even; stored = false }); trail = z.trail }) whole);
    }

-- the front was another
pub not_turned : (table : TableAt) (v w x : View) (even found : ℕ) → found ≢ even → HasStepped v w
    → Told table w (act.OpenCommit even) found x → HasStepped v x
not_turned table v w x even found ne idle told =
    stepped_on v w x H12 Front found refl idle (told.goes
    ∙ ap (λ b. cond b (record (stepped w H12 Front found) { commit = Some (record { found = even; stored = false }) })
    (stepped w H12 Front found)) (ne_eqb found even ne))

pub even_next : (found : ℕ) → (found + found % 2) % 2 ≡ 0
even_next found = omega arith

pub still_held : (v w : View) (hold : Hold) → v.hold ≡ Some hold → HasStepped v w → w.hold ≡ Some hold
still_held v w hold is idle = ap (λ (z : View). z.hold) idle.view ∙ is

-- after the load of the value
pub holds_loaded : {table : TableAt} {v w_read : View} {slot key old : ℕ} → MayReplace table.capacities v slot key
    → Told table v (act.LockedLoad (Value slot)) old w_read → (hold : Hold) × (w_read.hold ≡ Some hold)
holds_loaded {table} {v} {w_read} {slot} {key} {old} may a = (
  knowing may.hold (Value slot) old,
  ap (λ (z : View). z.hold) (loaded_first may.finished.hold_is a refl).view,
)

-- the value was loaded, the front made odd, the value replaced, the front made even, the lock given up
module _ {table : TableAt} {v w_read w_odd : View} {slot key old even : ℕ} (value : ℕ) (may : MayReplace table.capacities v slot key)
    (a : Told table v (act.LockedLoad (Value slot)) old w_read) (b : HasTurned w_read even w_odd) where
  value_loaded : HasLoaded v may.hold w_read (knowing may.hold (Value slot) old)
  value_loaded = loaded_first may.finished.hold_is a refl

  value_known : KnowsMore may.hold.known (knowing may.hold (Value slot) old).known
  value_known = value_loaded.more

  abbrev odd_view : View
  odd_view = record v {
    hold = Some (knowing may.hold (Value slot) old);
    commit = Some (record { found = even; stored = false });
    trail = w_odd.trail;
    seen = w_read.seen;
  }

  odd_is : w_odd ≡ odd_view
  odd_is = b.view ∙ ap (λ (z : View). record z {
    commit = Some (record { found = even; stored = false });
    trail = w_odd.trail;
    seen = w_read.seen;
  }) value_loaded.view

  pub may_store : (hold : Hold) × (e : ℕ) × NeedsReplace w_odd hold e slot key × (is_slot_of table.capacities hold.class slot ≡ true)
  may_store = (
    knowing may.hold (Value slot) old,
    even,
    record {
      commit = record {
        hold_is = ap (λ (z : View). z.hold) odd_is;
        commit_is = ap (λ (z : View). z.commit) odd_is;
        ticket = subst (λ n. 1 ≤ n) (sym (ap (λ (z : View). z.tickets) odd_is)) may.ticket;
      };
      on_walk = record {
        first = may.on.first;
        before = may.on.before;
        head = value_known (Head may.hold.class) may.on.first may.on.head;
        comes = comes_to_still may.hold.known (knowing may.hold
            (Value slot) old).known value_known may.on.first may.on.before slot may.on.comes;
      };
      key_is = value_known (Key slot) key may.key_is;
    },
    may.slot_is,
  )

  module _ {w_stored : View} (c : Told table w_odd (act.ReplaceValue slot key value) value w_stored) where
    abbrev replaced_view : View
    replaced_view = goes_by (act.ReplaceValue slot key value) c.marks value odd_view

    replaced_is : w_stored ≡ replaced_view
    replaced_is = goes_on odd_is c

    pub may_even_replaced : (e : ℕ) × NeedsEven w_stored e × (even + 2 ≡ e + 2)
    may_even_replaced = (even, ap (λ (z : View). z.commit) replaced_is, refl)

    module _ {w_closed : View} (d : Told table w_stored (act.CloseCommit (even + 2)) (even + 2) w_closed) where
      abbrev even_view : View
      even_view = goes_by (act.CloseCommit (even + 2)) d.marks (even + 2) replaced_view

      even_is : w_closed ≡ even_view
      even_is = goes_on replaced_is d

      pub may_unlock_replaced : (hold : Hold) × NeedsUnlock w_closed hold
      may_unlock_replaced = (
        knowing (knowing may.hold (Value slot) old) (Value slot) value,
        record {
          hold_is = ap (λ (z : View). z.hold) even_is;
          taken = may.finished.taken;
          unlinked = may.finished.unlinked;
          moved = may.finished.moved;
          even = ap (λ (z : View). z.commit) even_is;
        },
      )

      pub replaced : {w_left : View} → Unlocks w_closed w_left → Replaced v key value old (even / 2 + 1) w_left
      replaced {w_left} e =
          let last : w_left ≡ goes_by act.Unlock [] 0 even_view = e ∙ ap (goes_by act.Unlock [] 0) even_is in
          let seen_left : w_left.seen ≡ w_stored.seen = ap (λ (z : View). z.seen) last ∙ sym (ap (λ (z : View). z.seen) replaced_is) in
          let known_odd : hold_of w_odd ≡ knowing may.hold (Value slot) old = ap hold_of odd_is in
          let front_odd : (commit_of w_odd).found ≡ even = ap (λ (z : View). (commit_of z).found) odd_is in
          let p : (commit_of w_odd).found + 2 ≡ 2 * length (updates_of w_stored.seen) = c.gains.counted.position in
          let from_read : IsPrefix w_read.seen c.marks = subst (λ (z : View). IsPrefix z.seen c.marks) odd_is c.begins in
          record {
            before = c.marks;
            since = prefix_trans v.seen w_read.seen c.marks value_loaded.seen from_read;
            was = c.gains.was old (subst (λ (k : Hold). known_in k.known (Value slot) ≡ Some old) (sym known_odd)
                (known_here may.hold (Value slot) old));
            legal = subst (λ z. IsLegal (updates_of z)) (sym seen_left) c.informed.legal;
            number_is = (let half : even / 2 + 1 ≡ length (updates_of w_stored.seen) = omega arith in half)
                ∙ ap (λ z. length (updates_of z)) (sym seen_left);
            view = last ∙ ap (λ (t : Option Commit). record (goes_by act.Unlock [] 0 even_view) { commit = t }) (sym may.finished.even)
                ∙ sym (ap (λ (z : View). with_update v (Set key value) c.marks [] z.trail) last);
          }

      pub replaced_trail : {w_left : View} → Unlocks w_closed w_left → AddsNoLists v.trail w_left.trail
      replaced_trail {w_left} e =
          let last : w_left ≡ goes_by act.Unlock [] 0 even_view = e ∙ ap (goes_by act.Unlock [] 0) even_is in
          subst (λ (z : View). AddsNoLists v.trail z.trail) (sym last)
          (adds_step v.trail _ H7 (Lock may.hold.class) 0 refl (adds_step v.trail _ H16 Front (even + 2) refl
          (adds_step v.trail w_odd.trail H15 (Value slot) value refl (adds_both v.trail w_read.trail w_odd.trail value_loaded.trail b.trail))))

-- A slot unlinked under a bucket's lock.

-- the next of the slot and the first retired slot were loaded
module _ {table : TableAt} {v : View} {previous : Option ℕ} {slot key : ℕ} (may : MayUnlink table.capacities v previous slot key) {next : ℕ}
    {w_next : View} (a : Told table v (act.LockedLoad (Next slot)) next w_next) where
  pub may_load_retired : {class : ℕ} → class ≡ may.hold.class → (hold : Hold) × (w_next.hold ≡ Some hold) × (class ≡ hold.class)
  may_load_retired is = (knowing may.hold (Next slot) next, ap (λ (z : View). z.hold) (loaded_first may.finished.hold_is a refl).view, is)

  module _ {class first : ℕ} (is : class ≡ may.hold.class) {w_both : View}
      (b : Told table w_next (act.LockedLoad (Retired class)) first w_both) where
    abbrev hold_both : Hold
    hold_both = knowing (knowing may.hold (Next slot) next) (Retired class) first

    both_loaded : HasLoaded v may.hold w_both hold_both
    both_loaded = loaded_second may.finished.hold_is a refl b refl

    pub holds_both : (hold : Hold) × (w_both.hold ≡ Some hold)
    holds_both = (hold_both, ap (λ (z : View). z.hold) both_loaded.view)

    module _ {even : ℕ} {w_odd : View} (t : HasTurned w_both even w_odd) where
      abbrev turned_view : View
      turned_view = record v {
        hold = Some hold_both;
        commit = Some (record { found = even; stored = false });
        trail = w_odd.trail;
        seen = w_both.seen;
      }

      turned_is : w_odd ≡ turned_view
      turned_is = t.view ∙ ap (λ (z : View). record z {
        commit = Some (record { found = even; stored = false });
        trail = w_odd.trail;
        seen = w_both.seen;
      }) both_loaded.view

      link_by : (p : Option ℕ) → IsLinkedFrom may.hold p slot → LinksTo hold_both (link_after may.hold.class p)
          × (known_in hold_both.known (link_after may.hold.class p) ≡ Some slot)
      link_by None f = (refl, both_loaded.more (Head may.hold.class) slot f)
      link_by (Some p) f = (
        record {
          first = f.0.first;
          before = f.0.before;
          head = both_loaded.more (Head may.hold.class) f.0.first f.0.head;
          comes = comes_to_still may.hold.known (knowing (knowing may.hold (Next slot) next)
              (Retired class) first).known both_loaded.more f.0.first f.0.before p f.0.comes;
        },
        both_loaded.more (Next p) slot f.1,
      )

      needs_cut : NeedsUnlink w_odd hold_both even (link_after may.hold.class previous) slot key next
      needs_cut = record {
        commit = record {
          hold_is = ap (λ (z : View). z.hold) turned_is;
          commit_is = ap (λ (z : View). z.commit) turned_is;
          ticket = subst (λ n. 1 ≤ n) (sym (ap (λ (z : View). z.tickets) turned_is)) may.ticket;
        };
        empty = may.finished.unlinked;
        link_is = (link_by previous may.found.from).0;
        linked = (link_by previous may.found.from).1;
        some = may.found.some;
        key_is = both_loaded.more (Key slot) key may.found.key_is;
        next_is = knows_second may.finished.hold_is a refl b (Next slot) next (known_here may.hold (Next slot) next);
      }

      same_link : link_after may.hold.class previous ≡ link_after class previous
      same_link = ap (λ c. link_after c previous) (sym is)

      pub may_cut : {link : Field} → link ≡ link_after class previous
          → (hold : Hold) × (e : ℕ) × NeedsUnlink w_odd hold e link slot key next × IsOfClass table.capacities hold.class link
      may_cut at = (
        hold_both,
        even,
        subst (λ z. NeedsUnlink w_odd hold_both even z slot key next) (same_link ∙ sym at) needs_cut,
        subst (λ z. IsOfClass table.capacities may.hold.class z) (same_link ∙ sym at) may.link,
      )

      module _ {link : Field} (at : link ≡ link_after class previous) {w_cut : View}
          (c : Told table w_odd (act.UnlinkSlot link slot key next) next w_cut) where
        abbrev hold_cut : Hold
        hold_cut = record (knowing hold_both link next) { clear = false; unlinked = Some slot }

        abbrev unlinked_view : View
        unlinked_view = goes_by (act.UnlinkSlot link slot key next) c.marks next turned_view

        unlinked_is : w_cut ≡ unlinked_view
        unlinked_is = goes_on turned_is c

        pub may_chain : (hold : Hold) × NeedsChain w_cut hold slot × (is_slot_of table.capacities hold.class slot ≡ true)
        may_chain = (hold_cut, record { hold_is = ap (λ (z : View). z.hold) unlinked_is; unlinked = refl }, may.slot_is)

        module _ {w_chained : View} (d : Told table w_cut (act.StoreChain slot first) first w_chained) where
          abbrev hold_chained : Hold
          hold_chained = knowing hold_cut (Chain slot) first

          abbrev chained_view : View
          chained_view = goes_by (act.StoreChain slot first) d.marks first unlinked_view

          chained_is : w_chained ≡ chained_view
          chained_is = goes_on unlinked_is d

          -- the retired word is known past the link and the chain
          past_link : (p : Option ℕ)
              → known_in (knowing (knowing hold_both (link_after class p) next)
              (Chain slot) first).known (Retired may.hold.class) ≡ Some first
          past_link None = subst (λ z. known_in hold_both.known (Retired z)
              ≡ Some first) is (known_here (knowing may.hold (Next slot) next) (Retired class) first)
          past_link (Some p) = subst (λ z. known_in hold_both.known (Retired z)
              ≡ Some first) is (known_here (knowing may.hold (Next slot) next) (Retired class) first)

          pub may_push : (hold : Hold) × (other : ℕ) × NeedsPush w_chained hold slot other
          may_push = (
            hold_chained,
            first,
            record {
              hold_is = ap (λ (z : View). z.hold) chained_is;
              unlinked = refl;
              first_is = subst (λ l. known_in (knowing (knowing hold_both l next) (Chain slot) first).known
                  (Retired may.hold.class) ≡ Some first) (sym at) (past_link previous);
              chained = known_here hold_cut (Chain slot) first;
            },
          )

          module _ {w_pushed : View} (e : Told table w_chained (act.Retire slot) slot w_pushed) where
            abbrev hold_pushed : Hold
            hold_pushed = record (knowing hold_chained (Retired may.hold.class) slot) { unlinked = None }

            abbrev retired_view : View
            retired_view = goes_by (act.Retire slot) e.marks slot chained_view

            retired_is : w_pushed ≡ retired_view
            retired_is = goes_on chained_is e

            pub may_even_unlinked : (n : ℕ) × NeedsEven w_pushed n × (even + 2 ≡ n + 2)
            may_even_unlinked = (even, ap (λ (z : View). z.commit) retired_is, refl)

            module _ {w_closed : View} (f : Told table w_pushed (act.CloseCommit (even + 2)) (even + 2) w_closed) where
              abbrev closed_view : View
              closed_view = goes_by (act.CloseCommit (even + 2)) f.marks (even + 2) retired_view

              closed_is : w_closed ≡ closed_view
              closed_is = goes_on retired_is f

              pub may_unlock_unlinked : (hold : Hold) × NeedsUnlock w_closed hold
              may_unlock_unlinked = (
                hold_pushed,
                record {
                  hold_is = ap (λ (z : View). z.hold) closed_is;
                  taken = may.finished.taken;
                  unlinked = refl;
                  moved = may.finished.moved;
                  even = ap (λ (z : View). z.commit) closed_is;
                },
              )

              pub removed : {w_left : View} → Unlocks w_closed w_left → Removed v key (even / 2 + 1) w_left
              removed {w_left} g =
                  let last : w_left ≡ goes_by act.Unlock [] 0 closed_view = g ∙ ap (goes_by act.Unlock [] 0) closed_is in
                  let front_odd : (commit_of w_odd).found ≡ even = ap (λ (z : View). (commit_of z).found) turned_is in
                  let p : (commit_of w_odd).found + 2 ≡ 2 * length (updates_of w_cut.seen) = c.gains.position in
                  let seen_left : w_left.seen ≡ w_cut.seen = ap (λ (z : View). z.seen) last ∙ sym (ap (λ (z : View). z.seen) unlinked_is) in
                  let from_both : IsPrefix w_both.seen c.marks = subst (λ (z : View). IsPrefix z.seen c.marks) turned_is c.begins in
                  record {
                    before = c.marks;
                    slot = slot;
                    since = prefix_trans v.seen w_both.seen c.marks both_loaded.seen from_both;
                    legal = subst (λ z. IsLegal (updates_of z)) (sym seen_left) c.informed.legal;
                    number_is = (let half : even / 2 + 1 ≡ length (updates_of w_cut.seen) = omega arith in half)
                        ∙ ap (λ z. length (updates_of z)) (sym seen_left);
                    view = last ∙ ap (λ (q : Option Commit). record (goes_by act.Unlock [] 0 closed_view) { commit = q }) (sym may.finished.even)
                        ∙ sym (ap (λ (z : View). with_update v (Del key) c.marks (Unlinked slot ∷ []) z.trail) last);
                  }

              pub removed_trail : {w_left : View} → Unlocks w_closed w_left → AddsNoLists v.trail w_left.trail
              removed_trail {w_left} g =
                  let last : w_left ≡ goes_by act.Unlock [] 0 closed_view = g ∙ ap (goes_by act.Unlock [] 0) closed_is in
                  subst (λ (z : View). AddsNoLists v.trail z.trail) (sym last)
                  (adds_step v.trail _ H7 (Lock may.hold.class) 0 refl (adds_step v.trail _ H16 Front (even + 2) refl
                  (adds_step v.trail _ H10 (Retired may.hold.class) slot refl
                  (adds_step v.trail _ H10 (Chain slot) first refl (adds_step v.trail w_odd.trail H14 link next refl
                  (adds_both v.trail w_both.trail w_odd.trail both_loaded.trail t.trail))))))

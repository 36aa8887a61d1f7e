-- A slot taken, filled and linked, under a bucket's lock.
-- A slot taken and filled under a bucket's lock.
use Rattle.std.proofs.Common.{◌≡◌, ◌≢◌, ℕ, ◌≤◌, true, cond, List, [], ◌∷◌, ◌++◌, Some, refl, sym, ap, subst, ◌∙◌, arith, ne_eqb, ◌+◌, ◌*◌, ◌/◌, false, length, Option, None}
use Rattle.std.specs.List.{AllByRecursion}
use mathlib.Core.List.{IsPrefix}
use Rattle.prcu_marks.specs.declared.mark.Mark.TheVariants.{Given}
use Rattle.prcu_marks.specs.declared.mark.Why.{Why}
use Rattle.prcu_marks.specs.declared.mark.Why.TheVariants.{Counter}
use Rattle.hash_core.specs.declared.words.Field.TheVariants.{Readers, Head, Free, Retired, Key, Value, Next, Chain, Front, Lock}
use Rattle.hash_core.specs.declared.words.Kind.TheVariants.{H8, H10, H11, H7, H13, H16}
use Rattle.hash_core.specs.declared.view.Hold.{Hold}
use Rattle.hash_core.specs.declared.view.Known.{Known}
use Rattle.hash_core.specs.declared.view.View.{View}
use Rattle.hash_core.specs.Memory.{is_slot_of}
use Rattle.hash_core.specs.Steps.{known_in, knowing, IsWholeWalk, ShowsAbsent, ComesTo, IsOnWalk, stepped, NeedsUnlock, NeedsTake, NeedsWrite, hold_of, NeedsLink, NeedsEven, after_link, commit_of}
use Rattle.hash_core.proofs.SlotLists.{slot_within}
use Rattle.class_hash.specs.declared.bucket.Poll.TheVariants.{NotYet}
use Rattle.class_hash.specs.Seats.{TableAt}
use Rattle.class_hash.specs.Calls.{Told, HasFinished, Lists, MayPoll, Refilled, Polls, polled, AddsNoLists, HasLoaded, KnowsMore, Unlocks}
use Rattle.class_hash.proofs.Walking.{goes_by, goes_on, known_here, lacks_still, whole_kept, lacks_kept, adds_none, adds_step, adds_both, loaded_first, loaded_second, knows_second, kept_absent}
use Rattle.class_hash.specs.Updates.{HasStepped, HasPolled, HasFree, MayFill, Filled, HasTurned, with_update, MayAdd, MayLink, Linked, Added}
use Rattle.prcu_model.proofs.ListFacts.{prefix_trans}
use Rattle.prcu_model.specs.declared.operation.Op.TheVariants.{Put}
use Rattle.prcu_model.specs.Dictionary.{IsLegal}
use Rattle.prcu_marks.specs.declared.commit.Commit.{Commit}
use Rattle.prcu_marks.specs.Marks.{updates_of}
use Rattle.hash_core.proofs.Keeping.{hold_is}
use Rattle.hash_core.specs.declared.act.Act.TheVariants as act

-- a walk that never comes to a slot
pub avoids : (known : List Known) (slot first : ℕ) (ss : List ℕ) → IsWholeWalk known first ss
    → ((before : List ℕ) → ComesTo known first before slot → ⊥) → AllByRecursion (λ s. s ≢ slot) ss
avoids known slot first [] w never = tt
avoids known slot first (s ∷ ss) w never = (
  (λ e. never [] (w.0 ∙ e, λ z. w.1 (e ∙ z))),
  avoids known slot w.2.0 ss w.2.2 (λ before c. never (s ∷ before) (w.0, w.1, (w.2.0, w.2.1, c))),
)

pub whole_still : (before after : List Known) → KnowsMore before after → (first : ℕ) (ss : List ℕ) → IsWholeWalk before first ss
    → IsWholeWalk after first ss
whole_still before after more first [] w = w
whole_still before after more first (s ∷ ss) w =
    (w.0, w.1, (w.2.0, more (Next s) w.2.0 w.2.1, whole_still before after more w.2.0 ss w.2.2))

-- a key that is known to be absent is so after loads
pub absent_still : (old : Hold) (known : List Known) (key : ℕ) → KnowsMore old.known known → ShowsAbsent old key
    → ShowsAbsent (record old { known = known }) key
absent_still old known key more shows = record {
  first = shows.first;
  walk = shows.walk;
  head = more (Head old.class) shows.first shows.head;
  whole = whole_still old.known known more shows.first shows.walk shows.whole;
  lacks = lacks_still old.known known more key shows.walk shows.lacks;
}

-- the slot was taken from the free list, and a pair and a next stored in it
abbrev pub taken_hold : Hold → ℕ → ℕ → Hold
taken_hold hold slot next = record (knowing hold (Free hold.class) next) { taken = Some slot }

abbrev pub filled_hold : Hold → ℕ → ℕ → ℕ → ℕ → ℕ → Hold
filled_hold hold slot next key value first = knowing (knowing (knowing (taken_hold hold slot next) (Key slot) key) (Value slot) value)
    (Next slot) first

-- and after stores in a slot that isn't on the walk
filled_absent : (hold : Hold) (slot next key value first other : ℕ) → (IsOnWalk hold slot → ⊥) → ShowsAbsent hold other
    → ShowsAbsent (filled_hold hold slot next key value first) other
filled_absent hold slot next key value first other off shows =
    let away : AllByRecursion (λ s. s ≢ slot) shows.walk =
    avoids hold.known slot shows.first shows.walk shows.whole
    (λ before c. off (record { first = shows.first; before = before; head = shows.head; comes = c })) in
    record {
      first = shows.first;
      walk = shows.walk;
      head = shows.head;
      whole = whole_kept hold.known
          (filled_hold hold slot next key value first).known slot nexts keys shows.first shows.walk away shows.whole;
      lacks = lacks_kept hold.known (filled_hold hold slot next key value first).known slot nexts keys other shows.walk away shows.lacks;
    }
  where
    nexts : (s : ℕ) → s ≢ slot → known_in (filled_hold hold slot next key value first).known (Next s) ≡ known_in hold.known (Next s)
    nexts s ne = ap (λ t. cond t (Some first) (known_in hold.known (Next s))) (ne_eqb slot s (λ e. ne (sym e)))

    keys : (s : ℕ) → s ≢ slot → known_in (filled_hold hold slot next key value first).known (Key s) ≡ known_in hold.known (Key s)
    keys s ne = ap (λ t. cond t (Some key) (known_in hold.known (Key s))) (ne_eqb slot s (λ e. ne (sym e)))

-- looks for readers that found some changed nothing
pub may_poll_still : (v w : View) → MayPoll v → HasStepped v w → MayPoll w
may_poll_still v w may idle = record {
  hold = may.hold;
  finished = record {
    hold_is = ap (λ (z : View). z.hold) idle.view ∙ may.finished.hold_is;
    taken = may.finished.taken;
    unlinked = may.finished.unlinked;
    moved = may.finished.moved;
    even = ap (λ (z : View). z.commit) idle.view ∙ may.finished.even;
  };
  free = may.free;
  first = may.first;
  some = may.some;
  retired = may.retired;
}

pub polled_on : (v w x : View) → HasStepped v w → Refilled w x → HasPolled v x
polled_on v w x idle r =
    let F : View → View = λ z. record (stepped (stepped (stepped z H8 (Readers r.hold.class) 0) H10 (Retired r.hold.class) 0) H10
    (Free r.hold.class) r.first) { hold = Some (polled r.hold r.first) } in
    let whole : x ≡ F (record v { trail = w.trail }) = r.rest ∙ ap F idle.view in
    record {
      hold = r.hold;
      is = sym (ap (λ (z : View). z.hold) idle.view) ∙ r.is;
      first = r.first;
      retired = r.retired;
      trail = subst (λ (z : View). AddsNoLists v.trail z.trail) (sym whole)
          (adds_step v.trail _ H10 (Free r.hold.class) r.first refl
          (adds_step v.trail _ H10 (Retired r.hold.class) 0 refl (adds_step v.trail w.trail H8 (Readers r.hold.class) 0 refl idle.trail)));
      view = whole ∙ sym (ap (λ (z : View). record v { hold = Some (polled r.hold r.first); trail = z.trail }) whole);
    }

pub waited_on : (v w x : View) (why : Why) → HasStepped v w → Polls w (NotYet why) x → HasStepped v x
waited_on v w x (Counter class side count) idle p =
    let F : View → View = λ z. stepped z H8 (Readers p.1.hold.class) count in
    let whole : x ≡ F (record v { trail = w.trail }) = p.1.rest ∙ ap F idle.view in
    record {
      trail = subst (λ (z : View). AddsNoLists v.trail z.trail) (sym whole)
          (adds_step v.trail w.trail H8 (Readers p.1.hold.class) count refl idle.trail);
      view = whole ∙ sym (ap (λ (z : View). record v { trail = z.trail }) whole);
    }
waited_on v w x _ idle p = absurd p

-- from the lists to a slot that is free
module _ (capacities : List ℕ) (v : View) (f : HasFinished v) (free retired : ℕ) (x : View) (l : Lists capacities v free retired x) where
  abbrev listed_hold : Hold
  listed_hold = knowing (knowing l.hold (Free l.hold.class) free) (Retired l.hold.class) retired

  needs : NeedsUnlock v l.hold
  needs = let z : Some f.0 ≡ Some l.hold = sym f.1.hold_is ∙ l.is in let e : f.0 ≡ l.hold = cc in subst (NeedsUnlock v) e f.1

  needs_listed : NeedsUnlock x listed_hold
  needs_listed = record {
    hold_is = ap (λ (z : View). z.hold) l.rest;
    taken = needs.taken;
    unlinked = needs.unlinked;
    moved = needs.moved;
    even = ap (λ (z : View). z.commit) l.rest ∙ needs.even;
  }

  free_is : known_in listed_hold.known (Free l.hold.class) ≡ Some free
  free_is = known_here l.hold (Free l.hold.class) free

  retired_is : known_in listed_hold.known (Retired l.hold.class) ≡ Some retired
  retired_is = known_here (knowing l.hold (Free l.hold.class) free) (Retired l.hold.class) retired

  pub finished_listed : HasFinished x
  finished_listed = (listed_hold, needs_listed)

  pub free_listed : free ≢ 0 → HasFree capacities v free x
  free_listed ne = record {
    hold = l.hold;
    new = listed_hold;
    was = l.is;
    finished = needs_listed;
    class = refl;
    first = free_is;
    slot_is = l.free_link ne;
    absent = λ key. kept_absent l.hold listed_hold key refl (λ s. refl) (λ s. refl);
    room = record { listed = x; free = free; retired = retired; lists = l; some = λ none. absurd (ne none); trail = adds_none x.trail };
    seen = l.seen;
    view = l.rest;
  }

  pub may_poll : free ≡ 0 → retired ≢ 0 → MayPoll x
  may_poll none ne = record {
    hold = listed_hold;
    finished = needs_listed;
    free = free_is ∙ ap Some none;
    first = retired;
    some = ne;
    retired = retired_is;
  }

  pub free_polled : retired ≢ 0 → (y : View) → HasPolled x y → HasFree capacities v retired y
  free_polled ne y p =
      let same : p.hold ≡ listed_hold = (let z : Some p.hold ≡ Some listed_hold = sym p.is ∙ ap (λ (u : View). u.hold) l.rest in cc) in
      let known : known_in listed_hold.known (Retired l.hold.class) ≡ Some p.first =
      subst (λ (k : Hold). known_in k.known (Retired k.class) ≡ Some p.first) same p.retired in
      let number : p.first ≡ retired = (let z : Some p.first ≡ Some retired = sym known ∙ retired_is in cc) in
      let whole : y ≡ record v { hold = Some (polled listed_hold retired); trail = y.trail; seen = x.seen } =
      p.view ∙ ap (λ (k : Hold). record x { hold = Some (polled k p.first); trail = y.trail }) same
      ∙ ap (λ n. record x { hold = Some (polled listed_hold n); trail = y.trail }) number
      ∙ ap (λ (u : View). record u { hold = Some (polled listed_hold retired); trail = y.trail; seen = x.seen }) l.rest in
      record {
        hold = l.hold;
        new = polled listed_hold retired;
        was = l.is;
        finished = record {
          hold_is = ap (λ (u : View). u.hold) whole;
          taken = needs.taken;
          unlinked = needs.unlinked;
          moved = refl;
          even = ap (λ (u : View). u.commit) whole ∙ needs.even;
        };
        class = refl;
        first = known_here (knowing listed_hold (Retired l.hold.class) 0) (Free l.hold.class) retired;
        slot_is = l.retired_link ne;
        absent = λ key. kept_absent l.hold (polled listed_hold retired) key refl (λ s. refl) (λ s. refl);
        room = record { listed = x; free = free; retired = retired; lists = l; some = λ _. ne; trail = p.trail };
        seen = subst (IsPrefix v.seen) (sym (ap (λ (u : View). u.seen) whole)) l.seen;
        view = whole ∙ sym (ap (λ (u : View). record v { hold = Some (polled listed_hold retired); trail = y.trail; seen = u.seen }) whole);
      }

-- the chain of the slot and the head were loaded
module _ {table : TableAt} {v : View} {slot key : ℕ} (value : ℕ) (may : MayFill table.capacities v slot key) {next : ℕ}
    {w_chain : View} (a : Told table v (act.LockedLoad (Chain slot)) next w_chain) where
  pub may_load_head : {class : ℕ} → class ≡ may.hold.class → (hold : Hold) × (w_chain.hold ≡ Some hold) × (class ≡ hold.class)
  may_load_head is = (knowing may.hold (Chain slot) next, ap (λ (z : View). z.hold) (loaded_first may.finished.hold_is a refl).view, is)

  module _ {class first : ℕ} (is : class ≡ may.hold.class) {w_both : View} (b : Told table w_chain (act.LockedLoad (Head class)) first w_both) where
    abbrev hold_both : Hold
    hold_both = knowing (knowing may.hold (Chain slot) next) (Head class) first

    both_loaded : HasLoaded v may.hold w_both hold_both
    both_loaded = loaded_second may.finished.hold_is a refl b refl

    some_slot : slot ≢ 0
    some_slot e = let w = slot_within table.capacities may.hold.class slot may.slot_is in let p : 1 ≤ slot = w.0 in absurd (omega arith)

    pub may_take : (hold : Hold) × NeedsTake w_both hold slot next
    may_take = (
      hold_both,
      record {
        hold_is = ap (λ (z : View). z.hold) both_loaded.view;
        some = some_slot;
        first = both_loaded.more (Free may.hold.class) slot may.first;
        next_is = knows_second may.finished.hold_is a refl b (Chain slot) next (known_here may.hold (Chain slot) next);
        empty = may.finished.taken;
      },
    )

    abbrev loaded_view : View
    loaded_view = record v { hold = Some hold_both; trail = w_both.trail; seen = w_both.seen }

    module _ {w_taken : View} (t : Told table w_both (act.TakeSlot slot next) next w_taken) where
      abbrev hold_taken : Hold
      hold_taken = taken_hold hold_both slot next

      abbrev taken_view : View
      taken_view = goes_by (act.TakeSlot slot next) t.marks next loaded_view

      taken_is : w_taken ≡ taken_view
      taken_is = goes_on both_loaded.view t

      pub may_write_key : (hold : Hold) × (other : ℕ) × NeedsWrite w_taken hold other (Key slot)
          × (is_slot_of table.capacities hold.class slot ≡ true)
      may_write_key = (hold_taken, slot, record { hold_is = ap (λ (z : View). z.hold) taken_is; taken = refl; field_is = refl }, may.slot_is)

      module _ {w_keyed : View} (d : Told table w_taken (act.Fill (Key slot) key) key w_keyed) where
        abbrev hold_keyed : Hold
        hold_keyed = knowing hold_taken (Key slot) key

        abbrev keyed_view : View
        keyed_view = goes_by (act.Fill (Key slot) key) d.marks key taken_view

        keyed_is : w_keyed ≡ keyed_view
        keyed_is = goes_on taken_is d

        pub may_write_value : (hold : Hold) × (other : ℕ) × NeedsWrite w_keyed hold other (Value slot)
            × (is_slot_of table.capacities hold.class slot ≡ true)
        may_write_value = (hold_keyed, slot, record { hold_is = ap (λ (z : View). z.hold) keyed_is; taken = refl; field_is = refl }, may.slot_is)

        module _ {w_valued : View} (e : Told table w_keyed (act.Fill (Value slot) value) value w_valued) where
          abbrev hold_valued : Hold
          hold_valued = knowing hold_keyed (Value slot) value

          abbrev valued_view : View
          valued_view = goes_by (act.Fill (Value slot) value) e.marks value keyed_view

          valued_is : w_valued ≡ valued_view
          valued_is = goes_on keyed_is e

          pub may_write_next : (hold : Hold) × (other : ℕ) × NeedsWrite w_valued hold other (Next slot)
              × (is_slot_of table.capacities hold.class slot ≡ true)
          may_write_next = (hold_valued, slot, record { hold_is = ap (λ (z : View). z.hold) valued_is; taken = refl; field_is = refl }, may.slot_is)

          pub filled : {w_filled : View} → Told table w_valued (act.Fill (Next slot) first) first w_filled → Filled v slot key value w_filled
          filled {w_filled} g =
              let filled_is : w_filled ≡ goes_by (act.Fill (Next slot) first) g.marks first valued_view = goes_on valued_is g in
              let off : IsOnWalk hold_both slot → ⊥ = subst (λ (k : Hold). IsOnWalk k slot → ⊥) (ap hold_of both_loaded.view) t.gains in
              record {
                before = t.marks;
                since = prefix_trans v.seen w_both.seen t.marks both_loaded.seen t.begins;
                may = record {
                  hold = knowing hold_valued (Next slot) first;
                  first = first;
                  is = ap (λ (z : View). z.hold) filled_is;
                  taken = refl;
                  unlinked = may.finished.unlinked;
                  moved = may.finished.moved;
                  commit = ap (λ (z : View). z.commit) filled_is ∙ may.finished.even;
                  key_is = known_here hold_taken (Key slot) key;
                  value_is = known_here hold_keyed (Value slot) value;
                  next_is = known_here hold_valued (Next slot) first;
                  head_is = subst (λ z. known_in hold_both.known (Head z) ≡ Some first) is
                      (known_here (knowing may.hold (Chain slot) next) (Head class) first);
                  class = may.class;
                  absent = filled_absent hold_both slot next key value first key off
                      (absent_still may.hold hold_both.known key both_loaded.more may.absent);
                  ticket = subst (λ n. 1 ≤ n) (sym (ap (λ (z : View). z.tickets) filled_is)) may.ticket;
                };
                trail = subst (λ (z : View). AddsNoLists v.trail z.trail) (sym filled_is)
                    (adds_step v.trail _ H11 (Next slot) first refl
                    (adds_step v.trail _ H11 (Value slot) value refl
                    (adds_step v.trail _ H11 (Key slot) key refl
                    (adds_step v.trail w_both.trail H10 (Free may.hold.class) next refl both_loaded.trail))));
                view = filled_is ∙ sym (ap (λ (z : View). record v
                    { hold = z.hold; trail = z.trail; seen = t.marks ++ Given slot ∷ [] }) filled_is);
              }

-- A slot linked under a bucket's lock.

-- the front was made odd, the slot linked, the front made even, and the lock given up
module _ {v : View} {slot key value : ℕ} (may : MayLink v slot key value) {even : ℕ} {w_odd : View} (t : HasTurned v even w_odd) where
  pub may_link : (hold : Hold) × (e first : ℕ) × NeedsLink w_odd hold e slot key value first
  may_link = (
    may.hold,
    even,
    may.first,
    record {
      commit = record {
        hold_is = ap (λ (z : View). z.hold) t.view ∙ may.is;
        commit_is = ap (λ (z : View). z.commit) t.view;
        ticket = subst (λ n. 1 ≤ n) (sym (ap (λ (z : View). z.tickets) t.view)) may.ticket;
      };
      taken = may.taken;
      key_is = may.key_is;
      value_is = may.value_is;
      next_is = may.next_is;
      head_is = may.head_is;
      class = may.class;
      absent = may.absent;
    },
  )

  abbrev odd_view : View
  odd_view = record v { commit = Some (record { found = even; stored = false }); trail = w_odd.trail }

  module _ {table : TableAt} {w_linked : View} (c : Told table w_odd (act.LinkSlot slot key value) slot w_linked) where
    abbrev linked_view : View
    linked_view = after_link (stepped odd_view H13 (Head may.hold.class) slot) may.hold even slot key value c.marks

    linked_is : w_linked ≡ linked_view
    linked_is = goes_on t.view c ∙ ap (λ (k : Hold). after_link (stepped odd_view H13 (Head k.class) slot) k even slot key value c.marks)
        (hold_is v may.hold may.is)

    pub may_even : (e : ℕ) × NeedsEven w_linked e × (even + 2 ≡ e + 2)
    may_even = (even, ap (λ (z : View). z.commit) linked_is, refl)

    module _ {w_closed : View} (d : Told table w_linked (act.CloseCommit (even + 2)) (even + 2) w_closed) where
      abbrev closed_view : View
      closed_view = goes_by (act.CloseCommit (even + 2)) d.marks (even + 2) linked_view

      closed_is : w_closed ≡ closed_view
      closed_is = goes_on linked_is d

      pub may_unlock : (hold : Hold) × NeedsUnlock w_closed hold
      may_unlock = (
        record (knowing may.hold (Head may.hold.class) slot) { taken = None },
        record {
          hold_is = ap (λ (z : View). z.hold) closed_is;
          taken = refl;
          unlinked = may.unlinked;
          moved = may.moved;
          even = ap (λ (z : View). z.commit) closed_is;
        },
      )

      pub linked : {w_left : View} → Unlocks w_closed w_left → Linked v key value (even / 2 + 1) w_left
      linked {w_left} e =
          let last : w_left ≡ goes_by act.Unlock [] 0 closed_view = e ∙ ap (goes_by act.Unlock [] 0) closed_is in
          let front_odd : (commit_of w_odd).found ≡ even = ap (λ (z : View). (commit_of z).found) t.view in
          let p : (commit_of w_odd).found + 2 ≡ 2 * length (updates_of w_linked.seen) = c.gains.position in
          let seen_left : w_left.seen ≡ w_linked.seen = ap (λ (z : View). z.seen) last ∙ sym (ap (λ (z : View). z.seen) linked_is) in
          record {
            before = c.marks;
            since = subst (λ (z : View). IsPrefix z.seen c.marks) t.view c.begins;
            legal = subst (λ z. IsLegal (updates_of z)) (sym seen_left) c.informed.legal;
            number_is = (let half : even / 2 + 1 ≡ length (updates_of w_linked.seen) = omega arith in half)
                ∙ ap (λ z. length (updates_of z)) (sym seen_left);
            view = last ∙ ap (λ (q : Option Commit). record (goes_by act.Unlock [] 0 closed_view) { commit = q }) (sym may.commit)
                ∙ sym (ap (λ (z : View). with_update v (Put key value) c.marks [] z.trail) last);
          }

      pub linked_trail : {w_left : View} → Unlocks w_closed w_left → AddsNoLists v.trail w_left.trail
      linked_trail {w_left} e =
          let last : w_left ≡ goes_by act.Unlock [] 0 closed_view = e ∙ ap (goes_by act.Unlock [] 0) closed_is in
          subst (λ (z : View). AddsNoLists v.trail z.trail) (sym last)
          (adds_step v.trail _ H7 (Lock may.hold.class) 0 refl
          (adds_step v.trail _ H16 Front (even + 2) refl (adds_step v.trail w_odd.trail H13 (Head may.hold.class) slot refl t.trail)))

-- a slot that is free may be filled
pub may_fill : (capacities : List ℕ) (v x : View) (key free slot : ℕ) → MayAdd v key → HasFree capacities v free x → slot ≡ free
    → MayFill capacities x slot key
may_fill capacities v x key free slot may f is =
    let same : may.hold ≡ f.hold = (let z : Some may.hold ≡ Some f.hold = sym may.finished.hold_is ∙ f.was in cc) in
    subst (λ n. MayFill capacities x n key) (sym is)
    (record {
      hold = f.new;
      finished = f.finished;
      class = may.class ∙ ap (λ (k : Hold). k.class) same ∙ sym f.class;
      absent = f.absent key (subst (λ (k : Hold). ShowsAbsent k key) same may.absent);
      ticket = subst (λ n. 1 ≤ n) (sym (ap (λ (z : View). z.tickets) f.view)) may.ticket;
      first = f.first;
      slot_is = subst (λ c. is_slot_of capacities c free ≡ true) (sym f.class) f.slot_is;
    })

pub added : (capacities : List ℕ) (v x y w : View) (key value free slot number : ℕ) → HasFree capacities v free x
    → Filled x slot key value y → Linked y key value number w → AddsNoLists y.trail w.trail → Added capacities v key value number w
added capacities v x y w key value free slot number f g l on =
    let F : View → View = λ z. with_update z (Put key value) l.before [] w.trail in
    let since : IsPrefix v.seen g.before = prefix_trans v.seen x.seen g.before f.seen g.since in
    let until_w : AddsNoLists x.trail w.trail = adds_both x.trail y.trail w.trail g.trail on in
    let until : IsPrefix (g.before ++ Given slot ∷ []) l.before = subst (λ (z : View). IsPrefix z.seen l.before) g.view l.since in
    record {
      linked = record {
        before = l.before;
        since = prefix_trans v.seen g.before l.before since
            (prefix_trans g.before (g.before ++ Given slot ∷ []) l.before (Given slot ∷ [], refl) until);
        legal = l.legal;
        number_is = l.number_is;
        view = l.view ∙ ap F g.view ∙ ap F f.view;
      };
      slot = slot;
      given = record { before = g.before; since = since; until = until };
      room = record {
        listed = f.room.listed;
        free = f.room.free;
        retired = f.room.retired;
        lists = f.room.lists;
        some = f.room.some;
        trail = adds_both f.room.listed.trail x.trail w.trail f.room.trail until_w;
      };
    }

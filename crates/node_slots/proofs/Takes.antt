-- A slot is taken and put back, and a lock is given up: what their steps leave and told, one after another.
use Rattle.std.specs.List.{AllByRecursion}
use Rattle.std.proofs.Common.{◌≡◌, ℕ, false, List, [], ◌∷◌, ◌++◌, map, refl, sym, ap, subst, ◌∙◌, append-nil, cond, ◌/◌, ◌≤◌, ◌==◌, Some, arith, eq-eqb, ◌≢◌, ◌+◌, ◌<◌, append_assoc, length-append, ◌-◌, true, Option, None}
use mathlib.Core.List.{IsPrefix}
use Rattle.prcu_model.proofs.ListFacts.{prefix_trans, all_append}
use Rattle.prcu_marks.specs.declared.mark.Mark.{Mark}
use Rattle.prcu_marks.specs.declared.mark.Mark.TheVariants.{Given, Freed}
use Rattle.prcu_marks.specs.Marks.{is_of, own_of, most_life}
use Rattle.prcu_marks.proofs.Marks.{own_of-append}
use Rattle.core_frames.proofs.Roles.{works_there}
use Rattle.core_state.specs.declared.view.Allowance.{Allowance}
use Rattle.core_state.specs.declared.view.View.{View}
use Rattle.seat_table.specs.Gains.{Sees, Told, TellsNow}
use Rattle.seat_table.specs.Sections.{Leaves}
use Rattle.seat_table.proofs.SeveralSteps.{seen_more, goes_from, seized_is, HasUnraised, needs_free}
use Rattle.node_slots.specs.Reclaiming.{LeavesEach, return_marks, first_spare}
use Rattle.core_state.specs.declared.shape.Shape.{Shape}
use Rattle.core_state.specs.declared.words.Field.TheVariants.{Life}
use Rattle.core_state.specs.declared.view.Known.{Known}
use Rattle.core_state.specs.Views.{noting, known_in, note_option, lock_of}
use Rattle.core_state.specs.Links.{seized, after_seize, after_own_life, IsInHand, NeedsFreeInHand, after_raise_in_hand, after_free_in_hand, after_count_free}
use Rattle.core_state.specs.declared.act.Act.TheVariants.{LoadOwnLife, Seize, RaiseInHand, FreeInHand, CountFree}
use Rattle.core_state.specs.Acts.{noted}
use Rattle.node_slots.specs.Slots.{aged, HasSeized, Reserved, FoundEmpty, FoundOther, FoundTaken, with_slot, next_life, renewing, PutsBack, HasLocked}
use Rattle.core_state.specs.declared.view.StepMade.{StepMade}
use Rattle.core_state.specs.declared.view.Trail.{Trail}
use Rattle.seat_table.specs.declared.notes.TheConstants.{MOST_NOTED}
use Rattle.seat_table.specs.Seats.{next_slot, after_look, IsLastFound, IsSlotOf}
use Rattle.node_slots.specs.Taking.{exchange, look, own_life, MakesSteps, AreLost, IsMiss, after_field, come_to, GoRound, TriesFor, TriesInVain, LosesTries, ReservesAtLast, Misses, MissesNoted, MissesInRound, Finds, FindsNoted, FindsInRound, HasTried, HasReserved, FoundNone, HasScanned, HasGot, HasTaken}
use Rattle.core_state.specs.declared.view.Held.{Held}
use Rattle.core_state.specs.Memory.{slot_count}
use Rattle.core_frames.proofs.Views.{same_self}
use Rattle.core_state.specs.Steps.{new_lock, IsNoEnd, NeedsUnlock}

-- Marks that are left one after another.

-- a mark is left by whoever has seen this much, and may work so
pub leaves_same : (v u w : View) (mark : Mark) → u.allowance ≡ v.allowance → u.seen ≡ v.seen → Leaves u mark w → Leaves v mark w
leaves_same v u w mark allowance seen leaves =
    let s = leaves.seen in
    let mid : Sees (record v { allowance = u.allowance; seen = u.seen }) leaves.before =
    record { works = s.works; begins = s.begins; own = s.own } in
    let moved : Sees (record v { allowance = v.allowance; seen = v.seen }) leaves.before =
    subst (λ (z : Allowance × List Mark). Sees (record v { allowance = z.0; seen = z.1 }) leaves.before)
    (λ i. (allowance i, seen i)) mid in
    record { before = leaves.before; seen = record { works = moved.works; begins = moved.begins; own = moved.own }; marked = leaves.marked }

pub leaves_more : (v u w : View) (marks : List Mark) (mark : Mark) → LeavesEach v marks u → u.allowance ≡ v.allowance
    → w.allowance ≡ v.allowance → Leaves u mark w → LeavesEach v (marks ++ mark ∷ []) w
leaves_more v u w [] mark seen same still leaves = (w, still, leaves_same v u w mark same seen leaves, refl)
leaves_more v u w (m ∷ ms) mark each same still leaves =
    (each.0, each.1, each.2, leaves_more each.0 u w ms mark each.3 (same ∙ sym each.1) (still ∙ sym each.1) leaves)

pub each_begins : (v w : View) (marks : List Mark) → LeavesEach v marks w → IsPrefix v.seen w.seen
each_begins v w [] seen = ([], append-nil v.seen ∙ sym seen)
each_begins v w (m ∷ ms) each = prefix_trans v.seen (each.0).seen w.seen (seen_more v each.0 m each.2) (each_begins each.0 w ms each.3)

-- marks that aren't of a place leave those of the place as they are
abbrev pub IsNobodys : Mark → Type 0
IsNobodys mark = (p : ℕ) → is_of p mark ≡ false

pub each_own : (v w : View) (marks : List Mark) → AllByRecursion IsNobodys marks → LeavesEach v marks w
    → own_of v.allowance.place w.seen ≡ own_of v.allowance.place v.seen
each_own v w [] none seen = ap (own_of v.allowance.place) seen
each_own v w (m ∷ ms) none each =
    let mid : View = each.0 in
    let p : ℕ = v.allowance.place in
    let leaves = each.2 in
    let later : own_of p w.seen ≡ own_of p mid.seen =
    subst (λ (a : Allowance). own_of a.place w.seen ≡ own_of a.place mid.seen) each.1 (each_own mid w ms none.1 each.3) in
    later ∙ ap (own_of p) leaves.marked ∙ own_of-append p leaves.before (m ∷ [])
    ∙ ap (λ b. own_of p leaves.before ++ cond b (m ∷ []) []) (none.0 p) ∙ append-nil (own_of p leaves.before)
    ∙ sym (leaves.seen.own p (works_there v leaves.seen.works))

freed_nobodys : (slots : List ℕ) → AllByRecursion IsNobodys (map Freed slots)
freed_nobodys [] = tt
freed_nobodys (s ∷ ss) = ((λ p. refl), freed_nobodys ss)

pub returned_nobodys : (spare slots : List ℕ) → AllByRecursion IsNobodys (return_marks spare slots)
returned_nobodys [] [] = tt
returned_nobodys [] (s ∷ ss) = ((λ p. refl), freed_nobodys ss)
returned_nobodys (x ∷ xs) slots = freed_nobodys slots

freed_more : (slots : List ℕ) (s : ℕ) → map Freed (slots ++ s ∷ []) ≡ map Freed slots ++ Freed s ∷ []
freed_more [] s = refl
freed_more (x ∷ xs) s = ap (λ l. Freed x ∷ l) (freed_more xs s)

-- one slot more goes back: it is the first where there is no spare yet
pub first_goes : (spare slots : List ℕ) (s : ℕ) → first_spare spare slots ≡ []
    → (return_marks spare (slots ++ s ∷ []) ≡ return_marks spare slots ++ Given s ∷ []) × (first_spare spare (slots ++ s ∷ []) ≡ s ∷ [])
first_goes [] [] s e = (refl, refl)
first_goes [] (x ∷ xs) s e = absurd (cc)
first_goes (x ∷ xs) slots s e = absurd (cc)

pub other_goes : (spare slots : List ℕ) (s x : ℕ) → first_spare spare slots ≡ x ∷ []
    → (return_marks spare (slots ++ s ∷ []) ≡ return_marks spare slots ++ Freed s ∷ [])
    × (first_spare spare (slots ++ s ∷ []) ≡ first_spare spare slots)
other_goes [] [] s x e = absurd (cc)
other_goes [] (y ∷ ys) s x e = (ap (λ l. Given y ∷ l) (freed_more ys s), refl)
other_goes (y ∷ ys) slots s x e = (freed_more slots s, refl)

-- What the two steps of a seizing told, one after the other.

module _ (k : Shape) (v : View) (slot found : ℕ) (v1 : View) (free : found ≡ 0) (first : Told k v (Seize slot) found v1) where
  abbrev in_hand : View
  in_hand = after_seize (noted v (Seize slot) 0) slot 0 first.marks

  pub has_seized : (w : View) (life : ℕ) → Told k v1 (LoadOwnLife slot) life w → HasSeized v slot (life / 2) w
  has_seized w life second =
      let known : Known = record { field = Life slot; number = life; stored = false } in
      let last : View = after_own_life (noted in_hand (LoadOwnLife slot) life) slot life in
      let is : w ≡ last = goes_from (seized_is k v slot found v1 free first) second in
      let fits : life ≤ most_life = second.fits in
      let here : cond (slot == slot) (record (seized slot) { known = known ∷ (seized slot).known }) (seized slot) ≡ aged slot life =
      ap (λ b. cond b (record (seized slot) { known = known ∷ (seized slot).known }) (seized slot)) (eq-eqb slot slot refl) in
      let u : View = noting v slot (Life slot) life false in
      subst (HasSeized v slot (life / 2)) (sym is) (record {
        life = life;
        generation_is = refl;
        few = omega arith;
        given = record { before = first.marks; seen = first.sees; marked = refl };
        rest = λ i. record u { hands = record u.hands { reserved = false; hand = Some (here i) }; trail = last.trail; seen = last.seen };
      })

-- The steps of a take, one after another.

makes_none : (v : View) → MakesSteps v [] v
makes_none v = ap (λ l. record v.trail { steps = l }) (sym (append-nil v.trail.steps))

makes_both : (v u w : View) (xs ys : List StepMade) → MakesSteps v xs u → MakesSteps u ys w → MakesSteps v (xs ++ ys) w
makes_both v u w xs ys first second = second ∙ ap (λ (t : Trail). record t { steps = t.steps ++ ys }) first
    ∙ ap (λ l. record v.trail { steps = l }) (append_assoc v.trail.steps xs ys)

-- Exchanges of the free count.
lost_on : (e : ℕ) (ts : List StepMade) (n found : ℕ) → AreLost e ts n → found ≢ 0 → found ≢ n → AreLost e (ts ++ exchange found ∷ []) found
lost_on e [] n found is some other = (refl, some, (λ same. other (same ∙ sym is)), refl)
lost_on e (t ∷ ts) n found is some other = (is.0, is.1, is.2, lost_on t.number ts n found is.3 some other)

pub loses_none : (k : Shape) (v : View) (seen expected : ℕ) → IsLastFound k.slots seen v.latest.free → (1 ≤ seen → expected ≡ seen)
    → (seen ≡ 0 → expected ≡ 1) → LosesTries k v expected v
loses_none k v seen expected last same one = record {
  lost = [];
  retries = record { first = expected; is_first = record { seen = seen; last = last; same = same; one = one }; are_lost = refl };
  makes = makes_none v;
}

module _ (k : Shape) (v u w : View) (expected : ℕ) (l : LosesTries k v expected u) where
  pub loses_more : (found : ℕ) → FoundOther u expected found w → LosesTries k v found w
  loses_more found other = record {
    lost = l.lost ++ exchange found ∷ [];
    retries = record {
      first = l.retries.first;
      is_first = l.retries.is_first;
      are_lost = lost_on l.retries.first l.lost expected found l.retries.are_lost other.some other.other;
    };
    makes = makes_both v u w l.lost (exchange found ∷ []) l.makes (ap (λ (z : View). z.trail) other.rest);
  }

  pub reserves_at_last : Reserved u expected w → ReservesAtLast k v w
  reserves_at_last is = record {
    lost = l.lost;
    expected = expected;
    retries = l.retries;
    makes = makes_both v u w l.lost (exchange expected ∷ []) l.makes (ap (λ (z : View). z.trail) is);
  }

  pub tries_in_vain : (looked now : ℕ) → now ≡ looked → FoundEmpty k u w → TriesInVain k v looked w now
  tries_in_vain looked now stays empty = record {
    lost = l.lost;
    expected = expected;
    retries = l.retries;
    makes = makes_both v u w l.lost (exchange 0 ∷ []) l.makes (ap (λ (z : View). z.trail) empty.rest);
    comes = stays;
  }

-- Looks at slots.
come_on : (last looked : ℕ) (ts us : List StepMade) → come_to last looked (ts ++ us) ≡ come_to last (come_to last looked ts) us
come_on last looked [] us = refl
come_on last looked (t ∷ ts) us = come_on last (after_field last looked t.field) ts us

is_miss : (slot found : ℕ) → found ≢ 0 → IsMiss (look slot found)
is_miss slot found taken = record { slot = slot; is = refl; taken = taken }

-- a look at the next slot moves the scans on to it
moves_on : (last looked : ℕ) → after_look last looked (next_slot last looked) ≡ next_slot last looked
moves_on last looked = ap (λ b. cond b (next_slot last looked) looked) (eq-eqb (next_slot last looked) (next_slot last looked) refl)

-- one more look, at the slot after
round_more : (last looked slot found : ℕ) (ts : List StepMade) → GoRound last looked ts → slot ≡ next_slot last (come_to last looked ts)
    → GoRound last looked (ts ++ look slot found ∷ [])
round_more last looked slot found [] go is = (ap (λ s. look s found) is, tt)
round_more last looked slot found (t ∷ ts) go is =
    let moved : come_to last looked (t ∷ ts) ≡ come_to last (next_slot last looked) ts =
    ap (λ (z : StepMade). come_to last looked (z ∷ ts)) go.0 ∙ ap (λ z. come_to last z ts) (moves_on last looked) in
    (go.0, round_more last (next_slot last looked) slot found ts go.1 (is ∙ ap (next_slot last) moved))

module _ (last : ℕ) (v : View) (looked : ℕ) where
  abbrev misses_none : Misses last v looked v looked
  misses_none = record { missed = []; each = tt; makes = makes_none v; comes = refl }

  pub noted_none : (count : ℕ) → MissesNoted last v looked count v looked
  noted_none count = record { misses = misses_none; few = omega arith }

  pub noted_most : (count most : ℕ) (w : View) (now : ℕ) → count ≤ most → MissesNoted last v looked count w now
      → MissesNoted last v looked most w now
  noted_most count most w now less m = let few = m.few in record { misses = m.misses; few = omega arith }

  pub round_none : MissesInRound last v looked v looked
  round_none = record { misses = misses_none; go_round = tt }

  module _ (u w : View) (at next slot : ℕ) (moved : next ≡ after_look last at slot) (m : Misses last v looked u at) where
    abbrev more : (found : ℕ) → FoundTaken u slot found w → Misses last v looked w next
    more found taken = record {
      missed = m.missed ++ look slot found ∷ [];
      each = all_append IsMiss m.missed (look slot found ∷ []) m.each (is_miss slot found taken.some, tt);
      makes = makes_both v u w m.missed (look slot found ∷ []) m.makes (ap (λ (z : View). z.trail) taken.rest);
      comes = moved ∙ ap (λ z. after_look last z slot) m.comes ∙ sym (come_on last looked m.missed (look slot found ∷ []));
    }

    -- the look that got a slot
    abbrev finds : (generation : ℕ) → HasSeized u slot generation w → Finds last v looked slot w next
    finds generation seized =
        let two : List StepMade = look slot 0 ∷ own_life slot seized.life ∷ [] in
        let got : MakesSteps u two w = ap (λ (z : View). z.trail) seized.rest
        ∙ ap (λ l. record u.trail { steps = l }) (append_assoc u.trail.steps (look slot 0 ∷ []) (own_life slot seized.life ∷ [])) in
        record {
          missed = m.missed;
          each = m.each;
          life = seized.life;
          makes = makes_both v u w m.missed two m.makes got
              ∙ ap (λ l. record v.trail { steps = v.trail.steps ++ l })
              (sym (append_assoc m.missed (look slot 0 ∷ []) (own_life slot seized.life ∷ [])));
          comes = moved ∙ ap (λ z. after_look last z slot) m.comes ∙ sym (come_on last looked m.missed (look slot 0 ∷ []));
        }

  -- At slots that the seat noted.
  module _ (u w : View) (at next slot count : ℕ) (moved : next ≡ after_look last at slot) (m : MissesNoted last v looked count u at) where
    pub noted_more : (found : ℕ) → FoundTaken u slot found w → MissesNoted last v looked (count + 1) w next
    noted_more found taken = let long = length-append m.misses.missed (look slot found ∷ []) in let few = m.few in
        record { misses = more u w at next slot moved m.misses found taken; few = omega arith }

    pub finds_noted : (generation : ℕ) → count < MOST_NOTED → HasSeized u slot generation w → FindsNoted last v looked slot w next
    finds_noted generation small seized = let few = m.few in
        record { finds = finds u w at next slot moved m.misses generation seized; few = omega arith }

  -- At one slot after another.
  module _ (u w : View) (at next slot : ℕ) (moved : next ≡ after_look last at slot) (after : slot ≡ next_slot last at)
      (m : MissesInRound last v looked u at) where
    pub round_missed : (found : ℕ) → FoundTaken u slot found w → MissesInRound last v looked w next
    round_missed found taken = record {
      misses = more u w at next slot moved m.misses found taken;
      go_round = round_more last looked slot found m.misses.missed m.go_round (after ∙ ap (next_slot last) m.misses.comes);
    }

    pub round_found : (generation : ℕ) → HasSeized u slot generation w → FindsInRound last v looked slot w next
    round_found generation seized = record {
      finds = finds u w at next slot moved m.misses generation seized;
      go_round = round_more last looked slot 0 m.misses.missed m.go_round (after ∙ ap (next_slot last) m.misses.comes);
    }

-- A reservation, and the looks for a slot.
module _ (k : Shape) (v u : View) (looked slot : ℕ) (r : ReservesAtLast k v u) where
  abbrev last : ℕ
  last = k.slots + k.places

  pub tries_noted : (w : View) (now : ℕ) → FindsNoted last u looked slot w now → TriesFor k v looked slot w now
  tries_noted w now f =
      let looks : List StepMade = f.finds.missed ++ look slot 0 ∷ [] in record {
        lost = r.lost;
        expected = r.expected;
        retries = r.retries;
        looks = looks;
        are_looks = record {
          missed = f.finds.missed;
          each = f.finds.each;
          ends = refl;
          noted = looks;
          round = [];
          parts = sym (append-nil looks);
          few = (let long = length-append f.finds.missed (look slot 0 ∷ []) in let few = f.few in omega arith);
          go_round = tt;
        };
        life = f.finds.life;
        makes = makes_both v u w _ _ r.makes f.finds.makes;
        comes = f.finds.comes;
      }

  pub tries_round : (x w : View) (at now : ℕ) → MissesNoted last u looked MOST_NOTED x at → FindsInRound last x at slot w now
      → TriesFor k v looked slot w now
  tries_round x w at now m f =
      let missed : List StepMade = m.misses.missed in
      let round : List StepMade = f.finds.missed ++ look slot 0 ∷ [] in record {
        lost = r.lost;
        expected = r.expected;
        retries = r.retries;
        looks = missed ++ round;
        are_looks = record {
          missed = missed ++ f.finds.missed;
          each = all_append IsMiss missed f.finds.missed m.misses.each f.finds.each;
          ends = sym (append_assoc missed f.finds.missed (look slot 0 ∷ []));
          noted = missed;
          round = round;
          parts = refl;
          few = m.few;
          go_round = subst (λ z. GoRound last z round) m.misses.comes f.go_round;
        };
        life = f.finds.life;
        makes = makes_both v u w _ _ r.makes (makes_both u x w _ _ m.misses.makes f.finds.makes
            ∙ ap (λ l. record u.trail { steps = u.trail.steps ++ l }) (sym (append_assoc missed round (own_life slot f.finds.life ∷ []))));
        comes = f.finds.comes ∙ ap (λ z. come_to last z round) m.misses.comes ∙ sym (come_on last looked missed round);
      }

-- What the loops of a take told, one after another.

-- Exchanges of the free count.
module _ (v u w : View) (tried : HasTried v u) where
  abbrev trying : View → View
  trying z = record z { latest = record z.latest { free = w.latest.free }; trail = w.trail }

  pub tried_again : (expected found : ℕ) → FoundOther u expected found w → HasTried v w
  tried_again expected found other =
      let e : w ≡ trying u = other.rest ∙ (λ i. record u {
        latest = record u.latest { free = ap (λ (z : View). z.latest.free) (sym other.rest) i };
        trail = ap (λ (z : View). z.trail) (sym other.rest) i;
      }) in record {
        rest = e ∙ ap trying tried.rest;
      }

  pub then_reserved : (expected : ℕ) → 1 ≤ expected → Reserved u expected w → HasReserved v w
  then_reserved expected some is =
      let change : View → View = λ z. record z {
        allowance = record z.allowance { tickets = z.allowance.tickets - 1 };
        hands = record z.hands { reserved = true };
        latest = record z.latest { free = w.latest.free };
        trail = w.trail;
      } in
      let e : w ≡ change u = is ∙ (λ i. record u {
        allowance = record u.allowance { tickets = u.allowance.tickets - 1 };
        hands = record u.hands { reserved = true };
        latest = record u.latest { free = ap (λ (z : View). z.latest.free) (sym is) i };
        trail = ap (λ (z : View). z.trail) (sym is) i;
      }) in record {
        rest = e ∙ ap change tried.rest;
      }

  pub then_none : (k : Shape) → FoundEmpty k u w → FoundNone k v w
  then_none k empty =
      let e = ap (λ (z : View). z.trail) empty.rest in
      let change : View → View = λ z. record z { latest = record z.latest { free = Some 0 }; trail = w.trail; seen = w.seen } in
      let same : w ≡ change u = empty.rest ∙ (λ i. record u
      { latest = record u.latest { free = Some 0 }; trail = sym e i; seen = w.seen }) in
      let sees = subst (λ z. Sees z w.seen) tried.rest empty.sees in record {
        sees = record { works = sees.works; begins = sees.begins; own = sees.own };
        full = λ settled paid. empty.full (ap (λ (z : View). z.moving) tried.rest ∙ settled)
            (ap (λ (z : View). z.hands.owes) tried.rest ∙ paid);
        spare_comes = λ none nothing. empty.spare_comes (ap (λ (z : View). z.hands.spare) (sym empty.rest) ∙ none)
            (ap (λ (z : View). z.hands.retired) (sym empty.rest) ∙ nothing);
        rest = same ∙ ap change tried.rest;
      }

-- A scan.

pub tried_none : (v : View) → HasTried v v
tried_none v = record { rest = refl }

module _ (v u w : View) (slot : ℕ) (scanned : HasScanned v u) where
  -- who scanned may still work so
  still_leaves : Leaves u (Given slot) w → Leaves v (Given slot) w
  still_leaves = leaves_same v u w (Given slot) (ap (λ (z : View). z.allowance) scanned.rest) (ap (λ (z : View). z.seen) scanned.rest)

  pub got : (generation : ℕ) → HasSeized u slot generation w → HasGot v slot generation w
  got generation seized = record {
    life = seized.life;
    generation_is = seized.generation_is;
    few = seized.few;
    given = still_leaves seized.given;
    rest = seized.rest ∙ (λ i. record (with_slot slot seized.life w u) { trail = ap (λ (z : View). z.trail) (sym seized.rest) i })
        ∙ ap (with_slot slot seized.life w) scanned.rest;
  }

pub got_later : (v u w : View) (slot generation : ℕ) → HasScanned v u → HasGot u slot generation w → HasGot v slot generation w
got_later v u w slot generation scanned had = record {
  life = had.life;
  generation_is = had.generation_is;
  few = had.few;
  given = still_leaves v u w slot scanned had.given;
  rest = had.rest ∙ ap (with_slot slot had.life w) scanned.rest;
}

-- A reservation, and a slot for it.
pub taken : (v u w : View) (slot generation : ℕ) → v.hands.reserved ≡ false → HasReserved v u → HasGot u slot generation w
    → HasTaken v slot generation w
taken v u w slot generation unreserved reserved had =
    let life : ℕ = had.life in
    let n : View = noting v slot (Life slot) life false in
    let free = ap (λ (z : View). z.latest.free) had.rest in
    let given = subst (λ z. Leaves z (Given slot) w) reserved.rest had.given in record {
      life = life;
      generation_is = had.generation_is;
      few = had.few;
      given = record {
        before = given.before;
        seen = record { works = given.seen.works; begins = given.seen.begins; own = given.seen.own };
        marked = given.marked;
      };
      rest = had.rest ∙ ap (with_slot slot life w) reserved.rest ∙ (λ i. record n {
        allowance = record v.allowance { tickets = v.allowance.tickets - 1 };
        hands = record n.hands { reserved = sym unreserved i; hand = Some (aged slot life) };
        latest = record v.latest { free = sym free i };
        trail = w.trail;
        seen = w.seen;
      });
    }

-- A slot that was taken may be put back.
pub may_put_back : (v w : View) (slot generation : ℕ) → HasTaken v slot generation w
    → (held : Held) × (w.hands.hand ≡ Some held) × (held.raised ≡ false)
may_put_back v w slot generation had = (aged slot had.life, ap (λ (z : View). z.hands.hand) had.rest, refl)

-- What the steps of a slot that is put back told, one after another.

-- the slot in hand
pub slot_is : (o : Option Held) (held : Held) (slot : ℕ) → o ≡ Some held → IsSlotOf (Some slot) o → slot ≡ held.slot
slot_is None held slot e is = absurd is
slot_is (Some other) held slot e is = let same : other ≡ held = cc in is ∙ ap (λ (h : Held). h.slot) same

pub some_slot : (o : Option Held) (held : Held) → o ≡ Some held → IsSlotOf None o → ⊥
some_slot None held e is = absurd (cc)
some_slot (Some other) held e is = is

pub hand_inside : (k : Shape) (v : View) (held : Held) (slot : ℕ) → TellsNow k v → v.hands.hand ≡ Some held → slot ≡ held.slot
    → slot < slot_count k
hand_inside k v held slot told there is = subst (λ s. s < slot_count k) (sym is) (told.tells.hand_within held there)

module _ (k : Shape) (v : View) (held : Held) (slot life : ℕ) (hand : IsInHand v held slot) (unraised : held.raised ≡ false)
    (paid : v.hands.owes ≡ false) (v1 : View) (first : Told k v (LoadOwnLife slot) life v1) where
  abbrev aging : View
  aging = after_own_life (noted v (LoadOwnLife slot) life) slot life

  abbrev note : Known
  note = record { field = Life slot; number = life; stored = false }

  pub unraised_there : HasUnraised v1 slot life
  unraised_there = subst (λ z. HasUnraised z slot life) (sym first.goes) (record {
    held = record held { known = note ∷ held.known };
    in_hand = (
      ap (note_option slot note) hand.0 ∙ ap (λ b. Some (cond b (record held { known = note ∷ held.known }) held))
          (eq-eqb held.slot slot hand.1),
      hand.1,
    );
    unraised = unraised;
    loaded = ap (λ b. cond b (Some life) (known_in held.known (Life slot))) (same_self (Life slot));
    paid = paid;
  })

  abbrev number : ℕ
  number = next_life life

  module _ (v2 : View) (second : Told k v1 (RaiseInHand slot number) number v2) where
    abbrev raised : View
    raised = after_raise_in_hand (noted aging (RaiseInHand slot number) number) slot number

    pub frees : (held : Held) × NeedsFreeInHand v2 held slot
    frees = needs_free v1 slot life number refl unraised_there k v2 second

    pub puts_back : (v3 w : View) (found : ℕ) → Told k v2 (FreeInHand slot) 0 v3 → Told k v3 CountFree found w → PutsBack v slot w
    puts_back v3 w found third fourth =
        let h : List Mark = third.marks in
        let last : View = after_count_free (noted (after_free_in_hand (noted raised (FreeInHand slot) 0) slot h) CountFree found) found in
        let raised_is : v2 ≡ raised = goes_from first.goes second in
        let is : w ≡ last = goes_from (goes_from raised_is third) fourth in
        let sees : Sees raised h = subst (λ z. Sees z h) raised_is third.sees in
        let u : View = renewing v slot life in
        subst (PutsBack v slot) (sym is) (record {
          life = life;
          found = found;
          freed = record { before = h; seen = record { works = sees.works; begins = sees.begins; own = sees.own }; marked = refl };
          rest = λ i. record u {
            hands = record u.hands { owes = sym paid i; hand = None };
            latest = record v.latest { free = Some (found + 1) };
            trail = last.trail;
            seen = last.seen;
          };
        })

-- A lock that was got may be given up again.

pub may_unlock : (v w : View) (slot : ℕ) → v.moving ≡ None → HasLocked v slot w → NeedsUnlock w slot
may_unlock v w slot settled is = subst (λ z. NeedsUnlock z slot) (sym is) (record {
  lock = new_lock slot;
  held = ap (λ b. cond b (Some (new_lock slot)) (lock_of v.locks slot)) (eq-eqb slot slot refl);
  no_end = subst (IsNoEnd slot) (sym settled) tt;
  left = refl;
  right = refl;
  unmarked = refl;
})

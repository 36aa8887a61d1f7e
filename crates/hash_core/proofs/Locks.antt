-- The steps on locks and on the front, and what an update leaves.
-- The kinds of step on locks and on the front, and the loads under a lock.
use Rattle.std.proofs.Common.{◌≡◌, ◌≢◌, ◌⊎◌, ℕ, ◌+◌, ◌*◌, ◌%◌, ◌<◌, ◌≤◌, Bool, true, false, cond, List, [], ◌++◌, length, set, Option, Some, None, refl, sym, ap, subst, ◌∙◌, inl, inr, arith, eq-eqb, append-nil, ◌∷◌, ne_eqb, length-append}
use mathlib.Core.Option.{some}
use lib.ListN.{get_elem?}
use Rattle.prcu_marks.specs.declared.mark.Mark.{Mark}
use Rattle.prcu_model.specs.declared.operation.Update.{Update}
use Rattle.hash_core.specs.declared.words.Field.{Field}
use Rattle.hash_core.specs.declared.words.Field.TheVariants.{Front, Lock, Readers, Chain}
use Rattle.hash_core.specs.declared.view.Section.{Section}
use Rattle.hash_core.specs.declared.view.Hold.{Hold}
use Rattle.hash_core.specs.declared.view.Known.{Known}
use Rattle.prcu_marks.specs.declared.commit.Commit.{Commit}
use Rattle.hash_core.specs.declared.view.View.{View}
use Rattle.hash_core.specs.Memory.{IsPath, Memory, same_field, stored, is_slot_of, IsOfClass, AreMarks, ReuseByClass}
use Rattle.prcu_marks.specs.Marks.{updates_of, open_at, own_of, entered_at, updates_by}
use Rattle.hash_core.specs.Steps.{done_by, known_in, knowing, IsQuiet, fresh_hold, NeedsUnlock, after_unlock, NeedsCommit, NeedsEven, after_even, HasCommit, updated_view}
use Rattle.hash_core.specs.Rule.{Bucket, inside_count, AreCounted, HoldsOther, IsLocked, AreClean, IsFreeOfReaders, HaveOneRole, taken_of, unlinked_of, moved_of, link_of, AreAnswered, HasNoCommit, IsTurned, AreOwned, BucketRule, MemoryRule, roles_of}
use Rattle.prcu_model.specs.Dictionary.{WasSaid, updated, map_of, IsUpdateAt, IsLegal}
use Rattle.list_laws.proofs.Lists.{each_set, total_set, total_part, only_at, only_here}
use Rattle.hash_core.proofs.Frames.{SameSlots, SameSection, SameHold, SameView, clean_by, same_words, lock_words, front_words, stored_here, same_self, same_is, WillBeTold, still_told, answered_set, told_of}
use Rattle.hash_core.proofs.SeatFrames.{Seated, seen_same, seen_whole, apart_same, owned_same, open_same, held_still, same_marks, same_section, same_hold, seats_same, section_back, section_forth, tickets_same, no_marks, seat_holds, SeatsRule, after_step, after_quiet, owned_more, SameSeat}
use Rattle.prcu_model.specs.declared.operation.Op.{Op}
use Rattle.prcu_model.proofs.Dictionaries.{map_of-push}
use Rattle.prcu_marks.proofs.Callers.{legal_more, said_now}
use Rattle.std.specs.FinMap as finite

-- the parts on a class that read views, where another view has the same section
module _ {capacities : List ℕ} {places tickets : ℕ} {m : Memory} {vs : List View} {h : List Mark} {id : ℕ} {v : View}
    (seat : Seated capacities places tickets m vs h id v) (c : ℕ) (w : View)
    (same : w.section ≡ v.section) where
  pub counted_still : AreCounted c m vs → AreCounted c m (set vs id w)
  counted_still counted = record {
    readers = let sum = total_set (λ (z : View). inside_count c z.section) vs id v w seat.at in let e = ap (inside_count c) same in
        let was = counted.readers in omega arith;
  }

  pub free_still : (s : ℕ) → IsFreeOfReaders c h vs s → IsFreeOfReaders c h (set vs id w) s
  free_still s free p j u section gone there is class = each_set (λ k z. z.section ≡ Some section → p < section.entered) vs id w
      (λ mine. free p id v section gone seat.at (sym same ∙ mine) class)
      (λ k z far e theirs. free p k z section gone e theirs class) j u there is

  -- readers' answers, where what each will be told stays so
  pub answered_each : {m' : Memory} {h' : List Mark} {us' : List Update} {chain chain' : List ℕ}
      → AreAnswered capacities c m h (updates_of h) vs chain
      → ((j : ℕ) (u : View) (section : Section) → get_elem? vs j ≡ some u → u.section ≡ Some section → section.key % 64 ≡ c
      → WillBeTold capacities c m h (updates_of h) chain section → WillBeTold capacities c m' h' us' chain' section)
      → AreAnswered capacities c m' h' us' (set vs id w) chain'
  answered_each answered step = answered_set vs id w
      (λ section mine class. let is = sym same ∙ mine in
      step id v section seat.at is class (told_of answered id v section seat.at is class))
      (λ j u section there is class. step j u section there is class (told_of answered j u section there is class))

  -- in a memory whose slots are the same
  pub answered_still : (m' : Memory) (b : Bucket) → SameSlots capacities c m m' → HaveOneRole capacities c b
      → AreAnswered capacities c m h (updates_of h) vs b.chain → AreAnswered capacities c m' h (updates_of h) (set vs id w) b.chain
  answered_still m' b slots roles answered =
      answered_each answered (λ j u section _ _ _. still_told m m' slots (same_marks capacities c h) roles section)

module _ {capacities : List ℕ} {places tickets : ℕ} {m : Memory} {vs : List View} {h : List Mark} {id : ℕ} {v : View}
    (seat : Seated capacities places tickets m vs h id v) where
  -- who holds a lock is the holder of its class
  pub holder_of : (c : ℕ) → c < 64 → (hold : Hold) → v.hold ≡ Some hold → hold.class ≡ c → (seat.rule.bucket c).hold ≡ Some hold
  holder_of c small hold mine class = holder_case (seat.rule.bucket c).hold refl (seat.rule.buckets c small).locked
    where
      holder_case : (held : Option Hold) → (seat.rule.bucket c).hold ≡ held → IsLocked c m vs held → (seat.rule.bucket c).hold ≡ Some hold
      holder_case None is locked = absurd (locked.1 id v seat.at hold mine class)
      holder_case (Some other) is locked =
          elim (only_at vs id v seat.at locked) [ inl o ↦ is ∙ sym o.0.holds ∙ mine | inr free ↦ absurd (free hold mine class) ]

  pub class_small : {hold : Hold} → v.hold ≡ Some hold → hold.class < 64
  class_small {hold} mine = (seat.rule.held.held id v hold seat.at mine).0

  pub works : {hold : Hold} → v.hold ≡ Some hold → 1 ≤ v.places
  works {hold} mine = (seat.rule.held.held id v hold seat.at mine).1

  -- the parts on seats, where a holder stays one
  pub holder_stays : {hold : Hold} → v.hold ≡ Some hold → (new : Hold) → new.class ≡ hold.class → (seen : List Mark)
      → SameSeat v (record v { hold = Some new; seen = seen })
  holder_stays mine new class seen = seat_holds v (Some new) v.trail seen (λ commit held is had. (new, refl))
      (λ other is. let e : new ≡ other = cc in
      (subst (λ (z : Hold). z.class < 64) e (subst (λ z. z < 64) (sym class) (class_small mine)), works mine))

  -- slots that are to be free stay so
  pub clean_still : (c : ℕ) (w : View) → w.section ≡ v.section → (b : Bucket) → (new : Option Hold)
      → ((hold : Hold) → new ≡ Some hold → hold.clear ≡ true → (s : ℕ) → is_slot_of capacities c s ≡ true → IsFreeOfReaders c h vs s)
      → AreClean capacities c h vs b → AreClean capacities c h (set vs id w) (record b { hold = new })
  clean_still c w section b new = clean_by capacities c h h vs (set vs id w) b (record b { hold = new })
      (free_still seat c w section) refl refl

  -- A class's bucket where its lock is stored: who holds it now knows nothing yet, and has in hand what the last holder had.
  bucket_passed : (c n : ℕ) (small : c < 64) (new : Option Hold) → ((hold : Hold) → new ≡ Some hold → fresh_hold c ≡ hold)
      → taken_of (seat.rule.bucket c).hold ≡ taken_of new → unlinked_of (seat.rule.bucket c).hold ≡ unlinked_of new
      → moved_of (seat.rule.bucket c).hold ≡ moved_of new → IsLocked c (stored m (Lock c) n) (set vs id (record v { hold = new })) new
      → BucketRule capacities c (stored m (Lock c) n) h (updates_of h) (set vs id (record v { hold = new }))
      (record (seat.rule.bucket c) { hold = new })
  bucket_passed c n small new fresh taken unlinked moved locked =
      let bucket : Bucket = seat.rule.bucket c in
      let b = seat.rule.buckets c small in
      let w : View = record v { hold = new } in
      record {
        chained = record { path = b.chained.path; classes = b.chained.classes; distinct = b.chained.distinct };
        listed = record {
          free = b.listed.free;
          retired = b.listed.retired;
          moved = subst (λ z. IsPath (λ s. m (Chain s)) (link_of z) bucket.moved) moved b.listed.moved;
        };
        roles = record { once = λ x. (λ i. roles_of bucket (sym taken i) (sym unlinked i) x) ∙ b.roles.once x };
        mapped = record { answers = b.mapped.answers };
        locked = locked;
        known = record {
          known = λ hold field number is found. absurd
              (let z : known_in hold.known field ≡ None = ap (λ (y : Hold). known_in y.known field) (sym (fresh hold is)) in cc);
        };
        ages = record {
          chain = b.ages.chain;
          taken = λ s is. b.ages.taken s (taken ∙ is);
          retired = b.ages.retired;
          moved = b.ages.moved;
          unlinked = λ s is. b.ages.unlinked s (unlinked ∙ is);
        };
        counted = record { readers = (counted_still seat c w refl b.counted).readers };
        clean = clean_still c w refl bucket new (λ hold is yes s of. absurd
            (let z : hold.clear ≡ false = ap (λ (y : Hold). y.clear) (sym (fresh hold is)) in cc)) b.clean;
        answered = answered_still seat c w refl (stored m (Lock c) n) bucket (λ s _. (refl, refl, refl, refl)) b.roles b.answered;
      }

  -- H6, where the lock was free
  module _ (c : ℕ) (small : c < 64) (quiet : IsQuiet v) (place : 1 ≤ v.places) (free : m (Lock c) ≡ 0) where
    abbrev w_lock : View
    w_lock = record v { hold = Some (fresh_hold c) }

    abbrev m_lock : Memory
    m_lock = stored m (Lock c) (v.place + 1)

    nobody : (seat.rule.bucket c).hold ≡ None
    nobody = none_case (seat.rule.bucket c).hold refl (seat.rule.buckets c small).locked
      where
        none_case : (held : Option Hold) → (seat.rule.bucket c).hold ≡ held → IsLocked c m vs held → (seat.rule.bucket c).hold ≡ None
        none_case None is locked = is
        none_case (Some hold) is locked = absurd (let a = locked.has.word in omega arith)

    abbrev b_lock : Bucket
    b_lock = record (seat.rule.bucket c) { hold = Some (fresh_hold c) }

    seats_lock : SeatsRule capacities places tickets m_lock (set vs id w_lock) h
    seats_lock = seats_same seat w_lock m_lock
        (seat_holds v (Some (fresh_hold c)) v.trail v.seen (λ commit hold is held. (fresh_hold c, refl))
        (λ hold is. let e : fresh_hold c ≡ hold = cc in (subst (λ (z : Hold). z.class < 64) e small, place))) (inl refl) refl

    bucket_lock : c < 64 → BucketRule capacities c m_lock h (updates_of h) (set vs id w_lock) b_lock
    bucket_lock _ = bucket_passed c (v.place + 1) small (Some (fresh_hold c)) (λ hold is. cc) (ap taken_of nobody) (ap unlinked_of nobody)
        (ap moved_of nobody) (only_here vs id v w_lock seat.at
        (record { holds = refl; class = refl; word = stored_here m (Lock c) (v.place + 1) (same_self (Lock c)) })
        (λ j u _ e. (subst (IsLocked c m vs) nobody (seat.rule.buckets c small).locked).1 j u e))

    pub law_lock : MemoryRule capacities places tickets m_lock (set vs id w_lock) h
    law_lock = after_step seat w_lock seats_lock c b_lock bucket_lock
        (λ d _ ne. record {
          words = lock_words capacities c d m (v.place + 1) ne;
          marks = same_marks capacities d h;
          view = record {
            place = refl;
            section = same_section d v.section;
            hold = subst (λ z. SameHold d z w_lock.hold) (sym quiet.1) (λ e. ne (sym e));
          };
        })

  -- H7
  module _ (hold : Hold) (needs : NeedsUnlock v hold) where
    abbrev w_unlock : View
    w_unlock = after_unlock v

    abbrev m_unlock : Memory
    m_unlock = stored m (Lock hold.class) 0

    abbrev b_unlock : Bucket
    b_unlock = record (seat.rule.bucket hold.class) { hold = None }

    seats_unlock : SeatsRule capacities places tickets m_unlock (set vs id w_unlock) h
    seats_unlock = seats_same seat w_unlock m_unlock
        (seat_holds v None v.trail v.seen (λ commit held is mine. absurd (let z : Some commit ≡ None = sym is ∙ needs.even in cc))
        (λ other is. absurd (cc))) (inl refl) refl

    bucket_unlock : hold.class < 64 → BucketRule capacities hold.class m_unlock h (updates_of h) (set vs id w_unlock) b_unlock
    bucket_unlock small =
        let c : ℕ = hold.class in
        let mine : (seat.rule.bucket c).hold ≡ Some hold = holder_of c small hold needs.hold_is refl in
        let locked = subst (IsLocked c m vs) mine (seat.rule.buckets c small).locked in
        bucket_passed c 0 small None (λ other is. absurd (cc)) (ap taken_of mine ∙ needs.taken) (ap unlinked_of mine ∙ needs.unlinked)
        (ap moved_of mine ∙ needs.moved) (
          stored_here m (Lock c) 0 (same_self (Lock c)),
          each_set (λ k z. HoldsOther c z) vs id w_unlock (λ other is. absurd (cc)) (elim (only_at vs id v seat.at locked) [
            | inl o ↦ o.1
            | inr free ↦ absurd (free hold needs.hold_is refl)
          ]),
        )

    pub law_unlock : MemoryRule capacities places tickets m_unlock (set vs id w_unlock) h
    law_unlock = after_step seat w_unlock seats_unlock hold.class b_unlock bucket_unlock
        (λ d _ ne. record {
          words = lock_words capacities hold.class d m 0 ne;
          marks = same_marks capacities d h;
          view = record {
            place = refl;
            section = same_section d v.section;
            hold = subst (λ z. SameHold d z None) (sym needs.hold_is) (λ e. ne (sym e));
          };
        })

  -- the bucket of the holder, with what it knows and does now
  abbrev held_bucket : Hold → Hold → Bucket
  held_bucket hold new = record (seat.rule.bucket hold.class) { hold = Some new }

  -- the holder is the same view
  pub locked_by : (hold new : Hold) → v.hold ≡ Some hold → new.class ≡ hold.class → (m' : Memory)
      → m' (Lock hold.class) ≡ m (Lock hold.class) → (w : View) → w.hold ≡ Some new → w.place ≡ v.place
      → IsLocked hold.class m' (set vs id w) (Some new)
  locked_by hold new mine class m' word w is place =
      let c : ℕ = hold.class in
      let locked = subst (IsLocked c m vs) (holder_of c (class_small mine) hold mine refl)
      (seat.rule.buckets c (class_small mine)).locked in
      elim (only_at vs id v seat.at locked) [
        | inl o ↦ only_here vs id v w seat.at (record { holds = is; class = class; word = word ∙ o.0.word ∙ ap (λ n. n + 1) (sym place) }) o.1
        | inr free ↦ absurd (free hold mine refl)
      ]

  -- what the holder does is nothing to other classes
  pub elsewhere_held : (d : ℕ) (hold new : Hold) → v.hold ≡ Some hold → new.class ≡ hold.class → d ≢ hold.class → (w : View)
      → w.hold ≡ Some new → w.place ≡ v.place → w.section ≡ v.section → SameView d v w
  elsewhere_held d hold new mine class ne w is place section = record {
    place = place;
    section = subst (SameSection d v.section) (sym section) (same_section d v.section);
    hold = subst (λ (q : Option Hold × Option Hold). SameHold d q.0 q.1) (λ i. (sym mine i, sym is i))
        (inr (λ e. ne (sym e), λ e. ne (sym e ∙ class)));
  }

  -- the rule of the holder's bucket stays where the holder learns what words are, or that no reader is in the class
  holder_learns : (hold : Hold) → v.hold ≡ Some hold → (known : List Known) (clear : Bool) (seen : List Mark)
      → ((field : Field) (number : ℕ) → ((f : Field) (n : ℕ) → known_in hold.known f ≡ Some n
      → IsOfClass capacities hold.class f × (m f ≡ n)) → known_in known field ≡ Some number
      → IsOfClass capacities hold.class field × (m field ≡ number))
      → (hold.class < 64 → clear ≡ true → (s : ℕ) → is_slot_of capacities hold.class s ≡ true → IsFreeOfReaders hold.class h vs s)
      → hold.class < 64 → BucketRule capacities hold.class m h (updates_of h)
      (set vs id (record v { hold = Some (record hold { known = known; clear = clear }); seen = seen }))
      (held_bucket hold (record hold { known = known; clear = clear }))
  holder_learns hold mine known clear seen words none small =
      let c : ℕ = hold.class in
      let new : Hold = record hold { known = known; clear = clear } in
      let w : View = record v { hold = Some new; seen = seen } in
      let b = seat.rule.buckets c small in
      let had : (seat.rule.bucket c).hold ≡ Some hold = holder_of c small hold mine refl in
      record {
        chained = b.chained;
        listed = record {
          free = b.listed.free;
          retired = b.listed.retired;
          moved = subst (λ z. IsPath (λ s. m (Chain s)) (link_of (moved_of z)) (seat.rule.bucket c).moved) had b.listed.moved;
        };
        roles = record {
          once = λ x. subst (λ z. roles_of (seat.rule.bucket c) (taken_of z) (unlinked_of z) x ≡ cond (is_slot_of capacities c x) 1 0) had
              (b.roles.once x);
        };
        mapped = b.mapped;
        locked = locked_by hold new mine refl m refl w refl refl;
        known = record {
          known = λ other field number is found. words field number (λ f n has. b.known.known hold f n had has)
              (let e : new ≡ other = cc in subst (λ (z : Hold). known_in z.known field ≡ Some number) (sym e) found);
        };
        ages = record {
          chain = b.ages.chain;
          taken = λ s is. b.ages.taken s (ap taken_of had ∙ is);
          retired = b.ages.retired;
          moved = b.ages.moved;
          unlinked = λ s is. b.ages.unlinked s (ap unlinked_of had ∙ is);
        };
        counted = counted_still seat c w refl b.counted;
        clean = clean_still c w refl (seat.rule.bucket c) (Some new)
            (λ other is yes. let e : new ≡ other = cc in none small (ap (λ (z : Hold). z.clear) e ∙ yes)) b.clean;
        answered = answered_still seat c w refl m (seat.rule.bucket c) (λ s _. (refl, refl, refl, refl)) b.roles b.answered;
      }

  -- H8, where no reader was found
  module _ (hold : Hold) (mine : v.hold ≡ Some hold) (nobody_reads : m (Readers hold.class) ≡ 0) where
    abbrev new_clear : Hold
    new_clear = record hold { clear = true }

    abbrev w_clear : View
    w_clear = record v { hold = Some new_clear }

    no_section : hold.class < 64 → (j : ℕ) (u : View) (section : Section) → get_elem? vs j ≡ some u → u.section ≡ Some section
        → section.key % 64 ≢ hold.class
    no_section small j u section there is class =
        let part = total_part (λ (z : View). inside_count hold.class z.section) vs j u there in
        let one : inside_count hold.class u.section ≡ 1 =
        ap (inside_count hold.class) is ∙ ap (λ t. cond t 1 0) (eq-eqb (section.key % 64) hold.class class) in
        let was = (seat.rule.buckets hold.class small).counted.readers in
        omega arith

    pub law_readers_load : MemoryRule capacities places tickets m (set vs id w_clear) h
    law_readers_load = after_step seat w_clear (seats_same seat w_clear m (holder_stays mine new_clear refl v.seen) (inl refl) refl)
        hold.class (held_bucket hold new_clear)
        (holder_learns hold mine hold.known true v.seen (λ field number old. old field number)
        (λ small yes s of p j u section gone there inside class. absurd (no_section small j u section there inside class)))
        (λ d _ ne. record {
          words = same_words capacities d m;
          marks = same_marks capacities d h;
          view = elsewhere_held d hold new_clear mine refl ne w_clear refl refl refl;
        })

  -- H9
  module _ (hold : Hold) (mine : v.hold ≡ Some hold) (field : Field) (of : IsOfClass capacities hold.class field) (see : Bool) where
    abbrev new_load : Hold
    new_load = knowing hold field (m field)

    abbrev w_load : View
    w_load = record v { hold = Some new_load; seen = cond see h v.seen }

    known_load : (other : Field) (number : ℕ) → ((f : Field) (n : ℕ) → known_in hold.known f ≡ Some n
        → IsOfClass capacities hold.class f × (m f ≡ n)) → known_in new_load.known other ≡ Some number
        → IsOfClass capacities hold.class other × (m other ≡ number)
    known_load other number old found = known_case (same_field field other) refl found
      where
        known_case : (t : Bool) → same_field field other ≡ t → cond t (Some (m field)) (known_in hold.known other) ≡ Some number
            → IsOfClass capacities hold.class other × (m other ≡ number)
        known_case true same e = let q : field ≡ other = same_is field other same in
            (subst (IsOfClass capacities hold.class) q of, ap m (sym q) ∙ cc)
        known_case false same e = old other number e

    sees_load : (t : Bool) → (cond t h v.seen ≡ v.seen) ⊎ (cond t h v.seen ≡ h)
    sees_load true = inr refl
    sees_load false = inl refl

    seats_load : SeatsRule capacities places tickets m (set vs id w_load) h
    seats_load = seats_same seat w_load m (holder_stays mine new_load refl w_load.seen) (sees_load see) refl

    pub law_held_load : MemoryRule capacities places tickets m (set vs id w_load) h
    law_held_load = after_step seat w_load seats_load hold.class (held_bucket hold new_load)
        (holder_learns hold mine new_load.known hold.clear w_load.seen known_load
        (λ small. (seat.rule.buckets hold.class small).clean.clear hold (holder_of hold.class small hold mine refl)))
        (λ d _ ne. record {
          words = same_words capacities d m;
          marks = same_marks capacities d h;
          view = elsewhere_held d hold new_load mine refl ne w_load refl refl refl;
        })

  -- the front is stored, and what the view has of its turn changes
  front_stored : (number : ℕ) (commit : Option Commit)
      → IsTurned (stored m Front number) (set vs id (record v { commit = commit })) (length (updates_of h))
      → MemoryRule capacities places tickets (stored m Front number) (set vs id (record v { commit = commit })) h
  front_stored number commit turned =
      let w : View = record v { commit = commit } in
      let to : Memory = stored m Front number in
      after_quiet seat w (record {
        seen = seen_same seat w refl refl;
        apart = apart_same seat w (record { place = refl; places = refl; joined = refl });
        owned = subst (AreOwned places (set vs id w)) (append-nil h)
            (owned_same seat w [] (record { place = refl; places = refl; joined = refl }) refl (inl refl) no_marks);
        sections = open_same seat w h refl refl refl (section_back v w refl) (section_forth v w refl) (λ p. refl) (λ p. refl) (omega arith);
        held = held_still seat w (λ other is. seat.rule.held.held id v other seat.at is);
        turned = turned;
        tickets_are = tickets_same seat w refl;
        legal = seat.rule.legal;
        marks = seat.rule.marks;
        reuse = seat.rule.reuse;
      })
      (λ d _. record {
        words = front_words capacities d m number;
        marks = same_marks capacities d h;
        view = record { place = refl; section = same_section d v.section; hold = same_hold d v.hold };
      })

  -- H12, where the front was the even number
  module _ (hold : Hold) (even : ℕ) (needs : NeedsCommit v hold even) (found : m Front ≡ even) where
    abbrev turn_commit : Commit
    turn_commit = record { found = even; stored = false }

    abbrev w_commit : View
    w_commit = record v { commit = Some turn_commit }

    abbrev m_commit : Memory
    m_commit = stored m Front (even + 1)

    turned_commit : IsTurned m_commit (set vs id w_commit) (length (updates_of h))
    turned_commit = turn_case seat.rule.turned
      where
        turn_case : IsTurned m vs (length (updates_of h)) → IsTurned m_commit (set vs id w_commit) (length (updates_of h))
        turn_case (inl free) = inr (only_here vs id v w_commit seat.at (record {
          commit = turn_commit;
          hold = hold;
          has = refl;
          holds = needs.0;
          word = refl;
          updates = let a = free.0 in omega arith;
        }) (λ j u _ e. free.1 j u e))
        turn_case (inr odd) = let o = odd.has in absurd (parity o.commit.stored o.commit.found o.updates o.word)
          where
            parity : (t : Bool) (n : ℕ) → n + cond t 2 0 ≡ 2 * length (updates_of h) → m Front ≡ n + 1 → ⊥
            parity true n b a = let z = needs.1 in omega arith
            parity false n b a = let z = needs.1 in omega arith

    pub law_commit : MemoryRule capacities places tickets m_commit (set vs id w_commit) h
    law_commit = front_stored (even + 1) (Some turn_commit) turned_commit

  -- H16
  module _ (even : ℕ) (needs : NeedsEven v even) where
    abbrev w_even : View
    w_even = after_even v

    abbrev m_even : Memory
    m_even = stored m Front (even + 2)

    turned_even : IsTurned m_even (set vs id w_even) (length (updates_of h))
    turned_even = turn_case seat.rule.turned
      where
        turn_case : IsTurned m vs (length (updates_of h)) → IsTurned m_even (set vs id w_even) (length (updates_of h))
        turn_case (inl free) = absurd (let z : Some (record { found = even; stored = true }) ≡ None = sym needs ∙ free.1 id v seat.at in cc)
        turn_case (inr odd) = elim (only_at vs id v seat.at odd) [
          | inl o ↦
              let commit : Some (record { found = even; stored = true }) ≡ Some o.0.commit = sym needs ∙ o.0.has in
              let by : updates_by (record { found = even; stored = true }) ≡ updates_by o.0.commit =
              ap (λ (o : Option Commit). turn_updates o) commit in
              inl ((let b = o.0.updates in omega arith), each_set (λ k z. HasNoCommit z) vs id w_even refl o.1)
          | inr none ↦ absurd (let z : Some (record { found = even; stored = true }) ≡ None = sym needs ∙ none in cc)
        ]
          where
            turn_updates : Option Commit → ℕ
            turn_updates None = 0
            turn_updates (Some t) = updates_by t

    pub law_even : MemoryRule capacities places tickets m_even (set vs id w_even) h
    law_even = front_stored (even + 2) None turned_even

-- What an update leaves of the parts on seats and on other classes, and what it makes of the dictionary.

-- what the last front says
pub said_after : (us : List Update) (u : Update) (key from : ℕ) (answer : Option ℕ) → from ≤ length us
    → finite.get (updated (map_of us) u.op) key ≡ answer → WasSaid (us ++ u ∷ []) key from answer
said_after us u key from answer since e =
    let l = length-append us (u ∷ []) in
    subst (WasSaid (us ++ u ∷ []) key from) (ap (λ z. finite.get z key) (map_of-push us u) ∙ e)
    (said_now (us ++ u ∷ []) key from (omega arith))

module _ {capacities : List ℕ} {places tickets : ℕ} {m : Memory} {vs : List View} {h : List Mark} {id : ℕ} {v : View}
    (seat : Seated capacities places tickets m vs h id v)
    {hold : Hold} (mine : v.hold ≡ Some hold) {even : ℕ} (commit : HasCommit v hold even) where
  -- the front is odd by this view
  pub turned_by : (m Front ≡ even + 1) × (even ≡ 2 * length (updates_of h))
      × ((j : ℕ) (u : View) → j ≢ id → get_elem? vs j ≡ some u → HasNoCommit u)
  turned_by = elim seat.rule.turned [
    | inl quiet ↦ absurd (let a : None ≡ Some (record { found = even; stored = false }) = sym (quiet.1 id v seat.at) ∙ commit.commit_is in cc)
    | inr odd ↦ elim (only_at vs id v seat.at odd) [
      | inl o ↦
          let there : Some o.0.commit ≡ Some (record { found = even; stored = false }) = sym o.0.has ∙ commit.commit_is in
          let it : ◌≡◌ {A = Commit} o.0.commit (record { found = even; stored = false }) = cc in
          let found : o.0.commit.found ≡ even = ap (λ (z : Commit). z.found) it in
          let count : updates_by o.0.commit ≡ updates_by (record { found = even; stored = false }) = ap updates_by it in
          (let a = o.0.word in omega arith, let a = o.0.updates in omega arith, o.1)
      | inr none ↦ absurd (let a : None ≡ Some (record { found = even; stored = false }) = sym none ∙ commit.commit_is in cc)
    ]
  ]

  module _ (op : Op) (new : Hold) (class : new.class ≡ hold.class) (m' : Memory) (front : m' Front ≡ m Front) (more : List Mark)
      (longer : updates_of (h ++ done_by v op ∷ more) ≡ updates_of h ++ record { caller = v.place; op = op } ∷ [])
      (none : (p : ℕ) → own_of p more ≡ [])
      (opened : (p : ℕ) → open_at p (h ++ done_by v op ∷ more) ≡ open_at p h)
      (entered : (p : ℕ) → entered_at p (h ++ done_by v op ∷ more) ≡ entered_at p h)
      (order : AreMarks places (h ++ done_by v op ∷ more))
      (reuse : ReuseByClass capacities (h ++ done_by v op ∷ more))
      (is_update : IsUpdateAt (map_of (updates_of h)) op)
    where
      abbrev w_new : View
      w_new = updated_view v new even op h more

      abbrev h_new : List Mark
      h_new = h ++ done_by v op ∷ more

      one_longer : length (updates_of h_new) ≡ length (updates_of h) + 1
      one_longer = ap length longer ∙ length-append (updates_of h) (record { caller = v.place; op = op } ∷ [])

      pub seats_updated : SeatsRule capacities places tickets m' (set vs id w_new) h_new
      seats_updated = record {
        seen = seen_whole seat w_new h_new refl refl (done_by v op ∷ more, refl);
        apart = apart_same seat w_new (record { place = refl; places = refl; joined = refl });
        owned = owned_more seat w_new more (done_by v op)
            (record { place = refl; places = refl; joined = refl }) (works seat mine) refl refl
            (eq-eqb v.place v.place refl) (λ p ne. ne_eqb v.place p (λ e. ne (sym e))) none;
        sections = open_same seat w_new h_new refl refl refl (section_back v w_new refl)
            (section_forth v w_new refl) opened entered (let n = one_longer in omega arith);
        held = held_still seat w_new (λ other is. let e : new ≡ other = cc in (
          subst (λ (z : Hold). z.class < 64) e (subst (λ z. z < 64) (sym class) (class_small seat mine)),
          works seat mine,
        ));
        turned = inr (only_here vs id v w_new seat.at (record {
          commit = record { found = even; stored = true };
          hold = new;
          has = refl;
          holds = refl;
          word = front ∙ turned_by.0;
          updates = let a = turned_by.1 in let n = one_longer in omega arith;
        }) turned_by.2);
        tickets_are =
            (let sum = total_set (λ (z : View). z.tickets) vs id v w_new seat.at in
            let was = seat.rule.tickets_are in
            let some_ticket = commit.ticket in
            let part = total_part (λ (z : View). z.tickets) vs id v seat.at in
            let n = one_longer in omega arith);
        legal = subst IsLegal (sym longer) (legal_more (updates_of h) (record { caller = v.place; op = op }) seat.rule.legal is_update);
        marks = order;
        reuse = reuse;
      }

-- The kinds of step that enter and leave a section, and its loads.
use Rattle.std.proofs.Common.{◌≡◌, ◌≢◌, ℕ, ◌+◌, ◌-◌, ◌%◌, ◌^◌, ◌<◌, ◌≤◌, ◌==◌, true, cond, List, [], ◌∷◌, ◌++◌, length, set, Option, Some, None, refl, sym, ap, subst, ◌∙◌, inl, inr, arith, eq-eqb, ne_eqb, append-nil, append_assoc}
use Rattle.std.specs.List.{AllByRecursion}
use Rattle.std.specs.FinMap as finite
use mathlib.Core.Logic.{dite}
use mathlib.Core.Option.{some}
use native.Mathlib.Decide.{ℕ_discrete}
use lib.ListN.{get_elem?}
use Rattle.prcu_marks.specs.declared.mark.Mark.{Mark}
use Rattle.prcu_marks.specs.declared.mark.Mark.TheVariants.{Entered, Left, Ended}
use Rattle.prcu_model.specs.Dictionary.{map_of, IsLegal, WasSaid}
use Rattle.prcu_marks.proofs.Callers.{said_now}
use Rattle.hash_core.specs.declared.words.Field.{Field}
use Rattle.hash_core.specs.declared.words.Field.TheVariants.{Readers, Head, Key, Value, Next}
use Rattle.hash_core.specs.declared.view.SearchState.{SearchState}
use Rattle.hash_core.specs.declared.view.SearchState.TheVariants.{Start, Unread, Passed, Found, Ended}
use Rattle.hash_core.specs.declared.view.Section.{Section}
use Rattle.hash_core.specs.declared.view.View.{View}
use Rattle.list_laws.specs.Counts.{total}
use Rattle.hash_core.specs.Memory.{IsPath, Memory, stored, is_slot_of, IsOfClass}
use Rattle.prcu_marks.specs.Marks.{updates_of, Open, open_at, gone_at, entered_at, last_unlinked}
use Rattle.hash_core.specs.Rule.{Bucket, seek, inside_count, IsKnown, IsFreeOfReaders, AreClean, IsHeldBack, HasWay, WillAnswer, open_of, AreOpen, IsTurned, BucketRule, MemoryRule, HasOpen, IsOpenHere}
use Rattle.hash_core.specs.Steps.{after_enter, after_leave, after_search_load, link_stand, searched, MayLoad}
use Rattle.prcu_model.proofs.ListFacts.{all_map}
use Rattle.list_laws.proofs.Lists.{each_set, total_set, total_part, somewhere_at, somewhere_here, somewhere_still}
use Rattle.hash_core.proofs.SlotLists.{path_cons, path_none, seek_here, seek_past}
use Rattle.prcu_marks.proofs.Marks.{open_at-snoc, updates_of-append, entered_at-append, last_unlinked-below, last_unlinked-same}
use Rattle.hash_core.proofs.SeatFrames.{Seated, marks_snoc, gone_at-same, reuse_more, seen_whole, apart_same, owned_more, held_still, turned_same, same_marks, same_hold, seats_same, tickets_same, SeatsRule, after_step}
use Rattle.hash_core.proofs.Frames.{SameMarks, SameSection, locked_same, frame_ages_same, clean_by, same_words, readers_words, stored_here, same_self, answered_set, WillBeTold, still_told, told_of}

-- a link that was loaded: the end, or the next slot
link_case : (P : SearchState → Type 0) (link : ℕ) → (link ≡ 0 → P Ended) → (link ≢ 0 → P (Unread link)) → P (link_stand link)
link_case P link end more = dite (ℕ_discrete link 0) (λ e. subst P (sym (ap (λ b. cond b Ended (Unread link)) (eq-eqb link 0 e))) (end e))
    (λ ne. subst P (sym (ap (λ b. cond b Ended (Unread link)) (ne_eqb link 0 ne))) (more ne))

-- slots that no section holds back, where one view's section is another
pub free_each : (c : ℕ) (h h' : List Mark) (vs : List View) (id : ℕ) (w : View) (s : ℕ) → last_unlinked s h' ≡ last_unlinked s h
    → ((p : ℕ) (section : Section) → last_unlinked s h ≡ Some p → w.section ≡ Some section → section.key % 64 ≡ c → p < section.entered)
    → IsFreeOfReaders c h vs s → IsFreeOfReaders c h' (set vs id w) s
free_each c h h' vs id w s same mine free p j u section was there is class =
    each_set (λ k z. z.section ≡ Some section → p < section.entered) vs id w
    (λ e. mine p section (sym same ∙ was) e class)
    (λ k z other e theirs. free p k z section (sym same ∙ was) e theirs class) j u there is

-- the same of all slots that are to be free
pub clean_each : (capacities : List ℕ) (c : ℕ) (h h' : List Mark) (vs : List View) (id : ℕ) (w : View) (b : Bucket)
    → ((s : ℕ) → last_unlinked s h' ≡ last_unlinked s h)
    → ((s p : ℕ) (section : Section) → IsFreeOfReaders c h vs s → last_unlinked s h ≡ Some p → w.section ≡ Some section
    → section.key % 64 ≡ c → p < section.entered) → AreClean capacities c h vs b → AreClean capacities c h' (set vs id w) b
clean_each capacities c h h' vs id w b same mine clean = clean_by capacities c h h' vs (set vs id w) b b
    (λ s free. free_each c h h' vs id w s (same s) (λ p section. mine s p section free) free) refl refl clean.clear clean

module _ {capacities : List ℕ} {places tickets : ℕ} {m : Memory} {vs : List View} {h : List Mark} {id : ℕ} {v : View}
    (seat : Seated capacities places tickets m vs h id v) where
  -- no other view works at the place
  other_place : (j : ℕ) (u : View) → j ≢ id → get_elem? vs j ≡ some u → 1 ≤ v.places → 1 ≤ u.places → u.place ≢ v.place
  other_place j u ne there mine theirs e =
      ne (seat.rule.apart.apart j id u.place u v there seat.at (inl (omega arith, omega arith)) (inl (omega arith, omega arith)))

  -- what a load of another field gives, where the memory is the same
  known_same : (d : ℕ) (m' : Memory) → ((field : Field) → IsOfClass capacities d field → m' field ≡ m field)
      → IsKnown capacities d m (seat.rule.bucket d).hold → IsKnown capacities d m' (seat.rule.bucket d).hold
  known_same d m' same known = record {
    known = λ hold field number is found. let k = known.known hold field number is found in
        (k.0, same field k.0 ∙ k.1);
  }

  -- how many read a class is no field of it
  readers_stay : (c n : ℕ) (field : Field) → IsOfClass capacities c field → stored m (Readers c) n field ≡ m field
  readers_stay c n (Readers d) of = absurd of
  readers_stay c n _ of = refl

  module _ (key : ℕ) (fits : key < 2 ^ 64) (works : 1 ≤ v.places) (outside : v.section ≡ None) where
    abbrev section_enter : Section
    section_enter = record { key = key; count = v.sections; entered = length h; from = length (updates_of h); state = Start; loaded = None }

    abbrev mark_enter : Mark
    mark_enter = Entered v.place v.sections key

    abbrev h_enter : List Mark
    h_enter = h ++ mark_enter ∷ []

    abbrev w_enter : View
    w_enter = after_enter v key h

    abbrev m_enter : Memory
    m_enter = stored m (Readers (key % 64)) (m (Readers (key % 64)) + 1)

    same_updates_enter : updates_of h_enter ≡ updates_of h
    same_updates_enter = updates_of-append h (mark_enter ∷ []) ∙ append-nil (updates_of h)

    same_marks_enter : (d : ℕ) → SameMarks capacities d h h_enter (updates_of h) (updates_of h_enter)
    same_marks_enter d = record {
      more = [];
      longer = same_updates_enter ∙ sym (append-nil _);
      gone = λ s _. gone_at-same h mark_enter tt s;
      last = λ s _. last_unlinked-same h mark_enter tt s;
      pairs = λ k class. ap (λ us. finite.get (map_of us) k) same_updates_enter;
    }

    open_here_enter : open_at v.place h_enter ≡ Some (open_of section_enter)
    open_here_enter = open_at-snoc v.place h mark_enter ∙ ap (λ b. cond b (Some (open_of section_enter)) (open_at v.place h))
        (eq-eqb v.place v.place refl)

    open_else_enter : (p : ℕ) → p ≢ v.place → open_at p h_enter ≡ open_at p h
    open_else_enter p ne = open_at-snoc p h mark_enter ∙ ap (λ b. cond b (Some (open_of section_enter)) (open_at p h))
        (ne_eqb v.place p (λ e. ne (sym e)))

    -- no section is open at the place
    closed_enter : open_at v.place h ≡ None
    closed_enter = closed_case (open_at v.place h) refl
      where
        closed_case : (o : Option Open) → open_at v.place h ≡ o → o ≡ None
        closed_case None is = refl
        closed_case (Some o) is =
            let q = seat.rule.sections.all v.place o is in
            let there = seat.rule.sections.open_here q.id q.view q.has.section q.there q.has.inside in
            let me : q.id ≡ id = seat.rule.apart.apart q.id id v.place q.view v q.there seat.at
            (let e = q.has.place in let w = there.works in inl (omega arith, omega arith)) (inl (omega arith, omega arith)) in
            let mine : HasOpen v v.place o = somewhere_at vs id v seat.at q me in
            absurd (let z : Some mine.section ≡ None = sym mine.inside ∙ outside in cc)

    sections_enter : AreOpen (set vs id w_enter) h_enter (updates_of h_enter)
    sections_enter = record {
      open_here = λ j u section there is. each_set
          (λ k z. z.section ≡ Some section → IsOpenHere z h_enter (updates_of h_enter) section) vs id w_enter
          (λ mine. let e : section_enter ≡ section = cc in subst (IsOpenHere w_enter h_enter (updates_of h_enter)) e (record {
            works = works;
            opened = open_here_enter;
            since = let n = ap length same_updates_enter in omega arith;
            fits = fits;
          }))
          (λ k z other e theirs. let o = seat.rule.sections.open_here k z section e theirs in record {
            works = o.works;
            opened = open_else_enter z.place (other_place k z other e works o.works) ∙ o.opened;
            since = let n = ap length same_updates_enter in let a = o.since in omega arith;
            fits = o.fits;
          }) j u there is;
      entered = λ j u there has. each_set (λ k z. 1 ≤ z.places → z.sections ≡ entered_at z.place h_enter) vs id w_enter
          (λ mine. let a = entered_at-append v.place h (mark_enter ∷ []) in
          let one : entered_at v.place (mark_enter ∷ []) ≡ 1 = ap (λ b. cond b 1 0 + 0) (eq-eqb v.place v.place refl) in
          let old = seat.rule.sections.entered id v seat.at works in omega arith)
          (λ k z other e theirs. let a = entered_at-append z.place h (mark_enter ∷ []) in
          let none : entered_at z.place (mark_enter ∷ []) ≡ 0 =
          ap (λ b. cond b 1 0 + 0) (ne_eqb v.place z.place (λ f. other_place k z other e works theirs (sym f))) in
          let old = seat.rule.sections.entered k z e theirs in omega arith) j u there has;
      all = λ p o is. dite (ℕ_discrete p v.place)
          (λ e. let now : open_at v.place h_enter ≡ Some o = subst (λ q. open_at q h_enter ≡ Some o) e is in
          let same : open_of section_enter ≡ o = cc (open_here_enter, now) in
          somewhere_here vs id v w_enter seat.at (record { place = sym e; section = section_enter; inside = refl; is = sym same }))
          (λ ne. somewhere_still vs id v w_enter seat.at
          (λ (mine : HasOpen v p o). absurd (let z : Some mine.section ≡ None = sym mine.inside ∙ outside in cc))
          (seat.rule.sections.all p o (sym (open_else_enter p ne) ∙ is)));
    }

    seats_enter : SeatsRule capacities places tickets m_enter (set vs id w_enter) h_enter
    seats_enter = record {
      seen = seen_whole seat w_enter h_enter refl refl (mark_enter ∷ [], refl);
      apart = apart_same seat w_enter (record { place = refl; places = refl; joined = refl });
      owned = owned_more seat w_enter [] mark_enter (record { place = refl; places = refl; joined = refl }) works refl refl
          (eq-eqb v.place v.place refl) (λ p ne. ne_eqb v.place p (λ e. ne (sym e))) (λ p. refl);
      sections = sections_enter;
      held = held_still seat w_enter (λ hold is. seat.rule.held.held id v hold seat.at is);
      turned = subst (IsTurned m_enter (set vs id w_enter)) (sym (ap length same_updates_enter))
          (turned_same seat w_enter m_enter refl refl (λ commit hold is held. (hold, held)));
      tickets_are = ap (λ us. length us + total (λ (z : View). z.tickets) (set vs id w_enter)) same_updates_enter
          ∙ tickets_same seat w_enter refl;
      legal = subst IsLegal (sym same_updates_enter) seat.rule.legal;
      marks = marks_snoc places h mark_enter (
        seat.rule.apart.within id v v.place seat.at (inl (omega arith, omega arith)),
        fits,
        seat.rule.sections.entered id v seat.at works,
        closed_enter,
      ) seat.rule.marks;
      reuse = reuse_more capacities h mark_enter (λ s e. absurd (cc)) seat.rule.reuse;
    }

    bucket_enter : key % 64 < 64 → BucketRule capacities (key % 64) m_enter h_enter (updates_of h_enter) (set vs id w_enter)
        (seat.rule.bucket (key % 64))
    bucket_enter small =
        let c : ℕ = key % 64 in
        let b = seat.rule.buckets c small in
        let marks = same_marks_enter c in
        let gone : (s : ℕ) → gone_at s h_enter ≡ gone_at s h = gone_at-same h mark_enter tt in
        record {
          chained = record { path = b.chained.path; classes = b.chained.classes; distinct = b.chained.distinct };
          listed = record { free = b.listed.free; retired = b.listed.retired; moved = b.listed.moved };
          roles = b.roles;
          mapped = record { answers = λ k class. marks.pairs k class ∙ b.mapped.answers k class };
          locked = locked_same c m m_enter vs id v w_enter seat.at refl refl (same_hold c v.hold) (seat.rule.bucket c).hold b.locked;
          known = known_same c m_enter (readers_stay c (m (Readers c) + 1)) b.known;
          ages = frame_ages_same h h_enter (λ s _. gone s) b.roles b.ages;
          counted = record {
            readers =
                let sum = total_set (λ (z : View). inside_count c z.section) vs id v w_enter seat.at in
                let before : inside_count c v.section ≡ 0 = ap (inside_count c) outside in
                let now : inside_count c w_enter.section ≡ 1 = ap (λ t. cond t 1 0) (eq-eqb (key % 64) c refl) in
                let word : m_enter (Readers c) ≡ m (Readers c) + 1 = stored_here m (Readers c) (m (Readers c) + 1) (same_self (Readers c)) in
                let was = b.counted.readers in
                omega arith;
          };
          clean = clean_each capacities c h h_enter vs id w_enter (seat.rule.bucket c) (last_unlinked-same h mark_enter tt)
              (λ s p section free was is class. let e : section_enter ≡ section = cc in let l = last_unlinked-below s h p was in
              subst (λ (z : Section). p < z.entered) e l) b.clean;
          answered = answered_set vs id w_enter
              (λ section mine class. let e : section_enter ≡ section = cc in
              subst (WillBeTold capacities c m_enter h_enter (updates_of h_enter) (seat.rule.bucket c).chain) e (tt, λ value read. absurd (cc)))
              (λ j u section there is class. still_told m m_enter (λ s _. (refl, refl, refl, refl)) marks b.roles section
              (told_of b.answered j u section there is class));
        }

    -- H3 keeps the rule
    pub law_enter : MemoryRule capacities places tickets m_enter (set vs id w_enter) h_enter
    law_enter = after_step seat w_enter seats_enter (key % 64) (seat.rule.bucket (key % 64)) bucket_enter
        (λ d small ne. record {
          words = readers_words capacities (key % 64) d m (m (Readers (key % 64)) + 1) ne;
          marks = same_marks_enter d;
          view = record {
            place = refl;
            section = subst (λ z. SameSection d z w_enter.section) (sym outside) (λ e. ne (sym e));
            hold = same_hold d v.hold;
          };
        })

  module _ (section : Section) (inside : v.section ≡ Some section) where
    works_leave : 1 ≤ v.places
    works_leave = (seat.rule.sections.open_here id v section seat.at inside).works

    abbrev mark_leave : Mark
    mark_leave = Left v.place section.count

    abbrev h_leave : List Mark
    h_leave = h ++ mark_leave ∷ []

    abbrev w_leave : View
    w_leave = after_leave v section h

    abbrev m_leave : Memory
    m_leave = stored m (Readers (section.key % 64)) (m (Readers (section.key % 64)) - 1)

    same_updates_leave : updates_of h_leave ≡ updates_of h
    same_updates_leave = updates_of-append h (mark_leave ∷ []) ∙ append-nil (updates_of h)

    same_marks_leave : (d : ℕ) → SameMarks capacities d h h_leave (updates_of h) (updates_of h_leave)
    same_marks_leave d = record {
      more = [];
      longer = same_updates_leave ∙ sym (append-nil _);
      gone = λ s _. gone_at-same h mark_leave tt s;
      last = λ s _. last_unlinked-same h mark_leave tt s;
      pairs = λ k class. ap (λ us. finite.get (map_of us) k) same_updates_leave;
    }

    open_here_leave : open_at v.place h_leave ≡ None
    open_here_leave = open_at-snoc v.place h mark_leave ∙ ap (λ b. cond b None (open_at v.place h)) (eq-eqb v.place v.place refl)

    open_else_leave : (p : ℕ) → p ≢ v.place → open_at p h_leave ≡ open_at p h
    open_else_leave p ne = open_at-snoc p h mark_leave ∙ ap (λ b. cond b None (open_at p h)) (ne_eqb v.place p (λ e. ne (sym e)))

    same_entered_leave : (p : ℕ) → entered_at p h_leave ≡ entered_at p h
    same_entered_leave p = let a = entered_at-append p h (mark_leave ∷ []) in omega arith

    sections_leave : AreOpen (set vs id w_leave) h_leave (updates_of h_leave)
    sections_leave = record {
      open_here = λ j u other there is. each_set
          (λ k z. z.section ≡ Some other → IsOpenHere z h_leave (updates_of h_leave) other) vs id w_leave (λ mine. absurd (cc))
          (λ k z far e theirs. let o = seat.rule.sections.open_here k z other e theirs in record {
            works = o.works;
            opened = open_else_leave z.place (other_place k z far e works_leave o.works) ∙ o.opened;
            since = let n = ap length same_updates_leave in let a = o.since in omega arith;
            fits = o.fits;
          }) j u there is;
      entered = λ j u there has. each_set (λ k z. 1 ≤ z.places → z.sections ≡ entered_at z.place h_leave) vs id w_leave
          (λ mine. seat.rule.sections.entered id v seat.at works_leave ∙ sym (same_entered_leave v.place))
          (λ k z far e theirs. seat.rule.sections.entered k z e theirs ∙ sym (same_entered_leave z.place)) j u there has;
      all = λ p o is. dite (ℕ_discrete p v.place)
          (λ e. absurd (let now : open_at v.place h_leave ≡ Some o = subst (λ q. open_at q h_leave ≡ Some o) e is in
          let z : None ≡ Some o = sym open_here_leave ∙ now in cc))
          (λ ne. somewhere_still vs id v w_leave seat.at (λ (mine : HasOpen v p o). absurd (ne (sym mine.place)))
          (seat.rule.sections.all p o (sym (open_else_leave p ne) ∙ is)));
    }

    seats_leave : SeatsRule capacities places tickets m_leave (set vs id w_leave) h_leave
    seats_leave = record {
      seen = seen_whole seat w_leave h_leave refl refl (mark_leave ∷ [], refl);
      apart = apart_same seat w_leave (record { place = refl; places = refl; joined = refl });
      owned = owned_more seat w_leave [] mark_leave (record { place = refl; places = refl; joined = refl }) works_leave refl refl
          (eq-eqb v.place v.place refl) (λ p ne. ne_eqb v.place p (λ e. ne (sym e))) (λ p. refl);
      sections = sections_leave;
      held = held_still seat w_leave (λ hold is. seat.rule.held.held id v hold seat.at is);
      turned = subst (IsTurned m_leave (set vs id w_leave)) (sym (ap length same_updates_leave))
          (turned_same seat w_leave m_leave refl refl (λ commit hold is held. (hold, held)));
      tickets_are = ap (λ us. length us + total (λ (z : View). z.tickets) (set vs id w_leave)) same_updates_leave
          ∙ tickets_same seat w_leave refl;
      legal = subst IsLegal (sym same_updates_leave) seat.rule.legal;
      marks = marks_snoc places h mark_leave (open_of section, (seat.rule.sections.open_here id v section seat.at inside).opened, refl) seat.rule.marks;
      reuse = reuse_more capacities h mark_leave (λ s e. absurd (cc)) seat.rule.reuse;
    }

    -- the readers word counts the section
    pub some_reader : section.key % 64 < 64 → 1 ≤ m (Readers (section.key % 64))
    some_reader small =
        let c : ℕ = section.key % 64 in
        let part = total_part (λ (z : View). inside_count c z.section) vs id v seat.at in
        let before : inside_count c v.section ≡ 1 = ap (inside_count c) inside ∙ ap (λ t. cond t 1 0) (eq-eqb (section.key % 64) c refl) in
        let was = (seat.rule.buckets c small).counted.readers in
        omega arith

    bucket_leave : section.key % 64 < 64 → BucketRule capacities (section.key % 64) m_leave h_leave (updates_of h_leave) (set vs id w_leave)
        (seat.rule.bucket (section.key % 64))
    bucket_leave small =
        let c : ℕ = section.key % 64 in
        let b = seat.rule.buckets c small in
        let marks = same_marks_leave c in
        let gone : (s : ℕ) → gone_at s h_leave ≡ gone_at s h = gone_at-same h mark_leave tt in
        record {
          chained = record { path = b.chained.path; classes = b.chained.classes; distinct = b.chained.distinct };
          listed = record { free = b.listed.free; retired = b.listed.retired; moved = b.listed.moved };
          roles = b.roles;
          mapped = record { answers = λ k class. marks.pairs k class ∙ b.mapped.answers k class };
          locked = locked_same c m m_leave vs id v w_leave seat.at refl refl (same_hold c v.hold) (seat.rule.bucket c).hold b.locked;
          known = known_same c m_leave (readers_stay c (m (Readers c) - 1)) b.known;
          ages = frame_ages_same h h_leave (λ s _. gone s) b.roles b.ages;
          counted = record {
            readers =
                let sum = total_set (λ (z : View). inside_count c z.section) vs id v w_leave seat.at in
                let before : inside_count c v.section ≡ 1 =
                ap (inside_count c) inside ∙ ap (λ t. cond t 1 0) (eq-eqb (section.key % 64) c refl) in
                let word : m_leave (Readers c) ≡ m (Readers c) - 1 = stored_here m (Readers c) (m (Readers c) - 1) (same_self (Readers c)) in
                let was = b.counted.readers in
                let has = some_reader small in
                omega arith;
          };
          clean = clean_each capacities c h h_leave vs id w_leave (seat.rule.bucket c) (last_unlinked-same h mark_leave tt)
              (λ s p other free was is class. absurd (cc)) b.clean;
          answered = answered_set vs id w_leave (λ section mine class. absurd (cc))
              (λ j u other there is class. still_told m m_leave (λ s _. (refl, refl, refl, refl)) marks b.roles other
              (told_of b.answered j u other there is class));
        }

    -- H4 keeps the rule
    pub law_leave : MemoryRule capacities places tickets m_leave (set vs id w_leave) h_leave
    law_leave = after_step seat w_leave seats_leave (section.key % 64) (seat.rule.bucket (section.key % 64)) bucket_leave
        (λ d small ne. record {
          words = readers_words capacities (section.key % 64) d m (m (Readers (section.key % 64)) - 1) ne;
          marks = same_marks_leave d;
          view = record {
            place = refl;
            section = subst (λ z. SameSection d z None) (sym inside) (λ e. ne (sym e));
            hold = same_hold d v.hold;
          };
        })

    -- H5: where the search goes on, its way goes on
    module _ (c : ℕ) (small : c < 64) (class : section.key % 64 ≡ c) where
      -- what the dictionary says now
      says : (answer : Option ℕ) → seek m section.key (seat.rule.bucket c).chain ≡ answer → WasSaid (updates_of h) section.key section.from answer
      says answer is = subst (WasSaid (updates_of h) section.key section.from) ((seat.rule.buckets c small).mapped.answers section.key class ∙ is)
          (said_now (updates_of h) section.key section.from (seat.rule.sections.open_here id v section seat.at inside).since)

      -- from the head
      pub way_from_head : (link : ℕ) → link ≡ m (Head c)
          → WillAnswer capacities c m h (updates_of h) (seat.rule.bucket c).chain section (link_stand link)
      way_from_head link is = link_case (WillAnswer capacities c m h (updates_of h) (seat.rule.bucket c).chain section) link
          (λ e.
          let none : (seat.rule.bucket c).chain ≡ [] = path_none (λ s. m (Next s)) (seat.rule.bucket c).chain
          (subst (λ z. IsPath (λ s. m (Next s)) z (seat.rule.bucket c).chain) (sym is ∙ e) (seat.rule.buckets c small).chained.path) in
          says None (ap (seek m section.key) none))
          (λ ne. record {
            olds = [];
            front = [];
            rest = (seat.rule.bucket c).chain;
            some = ne;
            path = subst (λ z. IsPath (λ s. m (Next s)) z (seat.rule.bucket c).chain) (sym is) (seat.rule.buckets c small).chained.path;
            held = tt;
            slots = tt;
            joins = refl;
            said = says _ refl;
          })

      -- past a slot with another key
      pub way_past : (slot link : ℕ) → HasWay capacities c m h (updates_of h) (seat.rule.bucket c).chain section slot → m (Key slot) ≢ section.key
          → link ≡ m (Next slot) → WillAnswer capacities c m h (updates_of h) (seat.rule.bucket c).chain section (link_stand link)
      way_past slot link way other is = goes way.olds way.rest way.front way.path way.held way.slots way.joins way.said
        where
          past : (olds rest front : List ℕ) → (link' : ℕ) → link' ≡ m (Next slot) → IsPath (λ s. m (Next s)) (m (Next slot)) (olds ++ rest)
              → AllByRecursion (IsHeldBack h section) olds → AllByRecursion (λ s. is_slot_of capacities c s ≡ true) olds
              → (seat.rule.bucket c).chain ≡ front ++ rest
              → WasSaid (updates_of h) section.key section.from (seek m section.key (olds ++ rest))
              → WillAnswer capacities c m h (updates_of h) (seat.rule.bucket c).chain section (link_stand link')
          past olds rest front link' at_next path held slots joins said =
              link_case (WillAnswer capacities c m h (updates_of h) (seat.rule.bucket c).chain section) link'
              (λ e.
              let none : olds ++ rest ≡ [] = path_none (λ s. m (Next s)) (olds ++ rest)
              (subst (λ z. IsPath (λ s. m (Next s)) z (olds ++ rest)) (sym at_next ∙ e) path) in
              subst (λ z. WasSaid (updates_of h) section.key section.from (seek m section.key z)) none said)
              (λ ne. record {
                olds = olds;
                front = front;
                rest = rest;
                some = ne;
                path = subst (λ z. IsPath (λ s. m (Next s)) z (olds ++ rest)) (sym at_next) path;
                held = held;
                slots = slots;
                joins = joins;
                said = said;
              })

          goes : (olds rest front : List ℕ) → IsPath (λ s. m (Next s)) slot (olds ++ rest) → AllByRecursion (IsHeldBack h section) olds
              → AllByRecursion (λ s. is_slot_of capacities c s ≡ true) olds → (seat.rule.bucket c).chain ≡ front ++ rest
              → WasSaid (updates_of h) section.key section.from (seek m section.key (olds ++ rest))
              → WillAnswer capacities c m h (updates_of h) (seat.rule.bucket c).chain section (link_stand link)
          goes [] [] front path held slots joins said = absurd (way.some path)
          goes [] (s ∷ ss) front path held slots joins said =
              past [] ss (front ++ s ∷ []) link is (subst (λ z. IsPath (λ t. m (Next t)) (m (Next z)) ss) (sym path.0) path.2) tt tt
              (joins ∙ sym (append_assoc front (s ∷ []) ss))
              (subst (WasSaid (updates_of h) section.key section.from)
              (seek_past m section.key s ss (λ e. other (ap (λ z. m (Key z)) path.0 ∙ e))) said)
          goes (t ∷ ts) rest front path held slots joins said =
              past ts rest front link is (subst (λ z. IsPath (λ u. m (Next u)) (m (Next z)) (ts ++ rest))
              (sym path.0) path.2) held.1 slots.1 joins
              (subst (WasSaid (updates_of h) section.key section.from)
              (seek_past m section.key t (ts ++ rest) (λ e. other (ap (λ z. m (Key z)) path.0 ∙ e))) said)

      -- the value at the slot found
      pub value_said : (slot : ℕ) → HasWay capacities c m h (updates_of h) (seat.rule.bucket c).chain section slot → m (Key slot) ≡ section.key
          → WasSaid (updates_of h) section.key section.from (Some (m (Value slot)))
      value_said slot way found =
          let first = path_cons (λ s. m (Next s)) slot (way.olds ++ way.rest) way.some way.path in
          subst (WasSaid (updates_of h) section.key section.from)
          (ap (seek m section.key) first.1 ∙ seek_here m section.key slot first.0 found) way.said

    -- what the search will answer after a load, and what value it has loaded
    module _ (c : ℕ) (small : c < 64) (class : section.key % 64 ≡ c) (field : Field) (may : MayLoad section field) where
      abbrev Will : SearchState → Type 0
      Will state = WillAnswer capacities c m h (updates_of h) (seat.rule.bucket c).chain section state

      will_case : (state : SearchState) (f : Field) → MayLoad (record section { state = state }) f → Will state → Will section.state
          → Will (searched section state f (m f)).state
      will_case Start (Head d) may will now = way_from_head c small class (m (Head d)) (ap (λ z. m (Head z)) (sym may ∙ class))
      will_case (Unread s) (Key t) may will now =
          dite (ℕ_discrete (m (Key t)) section.key)
          (λ e. subst Will (sym (ap (λ b. cond b (Found s) (Passed s)) (eq-eqb (m (Key t)) section.key e)))
          (will, ap (λ z. m (Key z)) may ∙ e))
          (λ ne. subst Will (sym (ap (λ b. cond b (Found s) (Passed s)) (ne_eqb (m (Key t)) section.key ne)))
          (will, λ e. ne (ap (λ z. m (Key z)) (sym may) ∙ e)))
      will_case (Passed s) (Next t) may will now = way_past c small class s (m (Next t)) will.0 will.1 (ap (λ z. m (Next z)) (sym may))
      will_case (Found s) (Value t) may will now = now
      will_case _ _ may will now = now

      loaded_case : (state : SearchState) (f : Field) → MayLoad (record section { state = state }) f → Will state
          → ((value : ℕ) → section.loaded ≡ Some value → WasSaid (updates_of h) section.key section.from (Some value))
          → (value : ℕ) → (searched section state f (m f)).loaded ≡ Some value
          → WasSaid (updates_of h) section.key section.from (Some value)
      loaded_case (Found s) (Value t) may will now value is =
          let e : m (Value s) ≡ value = let z : m (Value t) ≡ value = cc in ap (λ y. m (Value y)) may ∙ z in
          subst (λ n. WasSaid (updates_of h) section.key section.from (Some n)) e (value_said c small class s will.0 will.1)
      loaded_case Start (Head d) may will now value is = now value is
      loaded_case (Unread s) (Key t) may will now value is = now value is
      loaded_case (Passed s) (Next t) may will now value is = now value is
      loaded_case _ _ may will now value is = now value is

    searched_same : (state : SearchState) (f : Field) (n : ℕ)
        → (open_of (searched section state f n) ≡ open_of section) × ((searched section state f n).from ≡ section.from)
    searched_same Start (Head d) n = (refl, refl)
    searched_same (Unread s) (Key t) n = (refl, refl)
    searched_same (Passed s) (Next t) n = (refl, refl)
    searched_same (Found s) (Value t) n = (refl, refl)
    searched_same _ _ n = (refl, refl)

    module _ (field : Field) (may : MayLoad section field) where
      abbrev section_load : Section
      section_load = searched section section.state field (m field)

      abbrev w_load : View
      w_load = after_search_load v section field (m field)

      key_load : section_load.key ≡ section.key
      key_load = ap (λ (o : Open). o.key) (searched_same section.state field (m field)).0

      entered_load : section_load.entered ≡ section.entered
      entered_load = ap (λ (o : Open). o.at) (searched_same section.state field (m field)).0

      seats_load : SeatsRule capacities places tickets m (set vs id w_load) h
      seats_load = seats_same seat w_load m
          (record {
            places = record { place = refl; places = refl; joined = refl };
            tickets = refl;
            sections = refl;
            back = λ new is. let e : section_load ≡ new = cc in let s = searched_same section.state field (m field) in
                (section, inside, ap open_of (sym e) ∙ s.0, ap (λ (z : Section). z.from) (sym e) ∙ s.1);
            forth = λ old is. let e : section ≡ old = cc in
                (section_load, refl, ap open_of (sym e) ∙ sym (searched_same section.state field (m field)).0);
            commit = refl;
            kept = λ commit hold is held. (hold, held);
            held = λ hold is. seat.rule.held.held id v hold seat.at is;
            own = refl;
            heard = refl;
          }) (inl refl) refl

      bucket_load : section.key % 64 < 64 → BucketRule capacities (section.key % 64) m h (updates_of h) (set vs id w_load)
          (seat.rule.bucket (section.key % 64))
      bucket_load small =
          let c : ℕ = section.key % 64 in
          let b = seat.rule.buckets c small in
          let will = b.answered.readers id v section seat.at inside refl in
          record {
            chained = b.chained;
            listed = b.listed;
            roles = b.roles;
            mapped = b.mapped;
            locked = locked_same c m m vs id v w_load seat.at refl refl (same_hold c v.hold) (seat.rule.bucket c).hold b.locked;
            known = b.known;
            ages = b.ages;
            counted = record {
              readers =
                  let sum = total_set (λ (z : View). inside_count c z.section) vs id v w_load seat.at in
                  let before : inside_count c v.section ≡ cond (section.key % 64 == c) 1 0 = ap (inside_count c) inside in
                  let now : inside_count c w_load.section ≡ cond (section.key % 64 == c) 1 0 = ap (λ k. cond (k % 64 == c) 1 0) key_load in
                  let was = b.counted.readers in
                  omega arith;
            };
            clean = clean_each capacities c h h vs id w_load (seat.rule.bucket c) (λ s. refl)
                (λ s p new free was is class. let e : section_load ≡ new = cc in
                let l = free p id v section was seat.at inside refl in
                let f : section.entered ≡ new.entered = sym entered_load ∙ ap (λ (z : Section). z.entered) e in omega arith) b.clean;
            answered = answered_set vs id w_load
                (λ new mine class. let e : section_load ≡ new = cc in
                subst (WillBeTold capacities c m h (updates_of h) (seat.rule.bucket c).chain) e (
                  same_will c section_load section_load.state (searched_same section.state field (m field)).0
                      (searched_same section.state field (m field)).1 (will_case c small refl field may section.state field may will will),
                  λ value read.
                      let said = loaded_case c small refl field may section.state field may will
                      (λ n has. b.answered.loaded id v section n seat.at inside refl has) value read in
                      let s = searched_same section.state field (m field) in
                      subst (λ (q : ℕ × ℕ). WasSaid (updates_of h) q.0 q.1 (Some value)) (λ i. (sym key_load i, sym s.1 i)) said,
                ))
                (λ j u. told_of b.answered j u);
          }
        where
          -- what is answered is read of the key, the entry and the front alone
          same_will : (c : ℕ) (new : Section) (state : SearchState) → open_of new ≡ open_of section → new.from ≡ section.from
              → WillAnswer capacities c m h (updates_of h) (seat.rule.bucket c).chain section state
              → WillAnswer capacities c m h (updates_of h) (seat.rule.bucket c).chain new state
          same_will c new state o f will = like state will
            where
              key : new.key ≡ section.key
              key = ap (λ (z : Open). z.key) o

              entered : section.entered ≡ new.entered
              entered = ap (λ (z : Open). z.at) (sym o)

              said_like : (answer : ℕ → Option ℕ) → WasSaid (updates_of h) section.key section.from (answer section.key)
                  → WasSaid (updates_of h) new.key new.from (answer new.key)
              said_like answer said = subst (λ (q : ℕ × ℕ). WasSaid (updates_of h) q.0 q.1 (answer q.0)) (λ i. (sym key i, sym f i)) said

              way_like : (slot : ℕ) → HasWay capacities c m h (updates_of h) (seat.rule.bucket c).chain section slot
                  → HasWay capacities c m h (updates_of h) (seat.rule.bucket c).chain new slot
              way_like slot way = record {
                olds = way.olds;
                front = way.front;
                rest = way.rest;
                some = way.some;
                path = way.path;
                held = all_map (IsHeldBack h section) (IsHeldBack h new) way.olds
                    (λ t p. (p.0, p.1, subst (λ z. z < p.0) entered p.2)) way.held;
                slots = way.slots;
                joins = way.joins;
                said = said_like (λ k. seek m k (way.olds ++ way.rest)) way.said;
              }

              like : (st : SearchState) → WillAnswer capacities c m h (updates_of h) (seat.rule.bucket c).chain section st
                  → WillAnswer capacities c m h (updates_of h) (seat.rule.bucket c).chain new st
              like Start w = tt
              like (Unread s) w = way_like s w
              like (Passed s) w = (way_like s w.0, λ e. w.1 (e ∙ key))
              like (Found s) w = (way_like s w.0, w.1 ∙ sym key)
              like Ended w = said_like (λ _. None) w

      -- H5 keeps the rule
      pub law_search_load : MemoryRule capacities places tickets m (set vs id w_load) h
      law_search_load = after_step seat w_load seats_load (section.key % 64) (seat.rule.bucket (section.key % 64)) bucket_load
          (λ d small ne. record {
            words = same_words capacities d m;
            marks = same_marks capacities d h;
            view = record {
              place = refl;
              section = subst (λ z. SameSection d z w_load.section) (sym inside)
                  (inr (λ e. ne (sym e), λ e. ne (sym e ∙ ap (λ k. k % 64) key_load)));
              hold = same_hold d v.hold;
            };
          })

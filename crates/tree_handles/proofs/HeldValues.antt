-- A value that was taken out may be given up after a wait: by marks, and by what calls say.
-- Marks and updates at the end of beginnings.
use Rattle.std.proofs.Common.{◌≡◌, ℕ, zero, suc, ◌+◌, ◌<◌, ◌≤◌, List, [], ◌∷◌, ◌++◌, length, take, refl, sym, ap, subst, ◌∙◌, arith, append_assoc, length-append, ◌⊎◌, inl, inr, ⊎_elim, Bool, true, Option, Some, None, is_some, cond, eq-eqb}
use mathlib.Core.Logic.{dite}
use mathlib.Core.List.{IsPrefix}
use mathlib.Core.Option.{some, some-injective, some-ne-none}
use native.Mathlib.Decide.{dec_le, ℕ_discrete}
use lib.ListN.{get_elem?}
use Rattle.prcu_marks.specs.declared.mark.Mark.{Mark}
use Rattle.prcu_marks.specs.declared.mark.Mark.TheVariants.{Entered, Left, Began, Ended, Done, Given, Unlinked, Freed, Moved}
use Rattle.prcu_marks.specs.Marks.{updates_of, own_of}
use Rattle.prcu_marks.proofs.Marks.{updates_of-append, updates_below, own_of-append}
use Rattle.prcu_model.specs.declared.operation.Update.{Update}
use Rattle.prcu_model.proofs.ListFacts.{prefix_trans, prefix_of_longer}
use Rattle.std.proofs.lemmas.List.{length-take-le}
use Rattle.prcu_model.specs.declared.operation.Op.{Op}
use Rattle.prcu_model.specs.declared.operation.Op.TheVariants.{Put, Del, Set}
use Rattle.prcu_model.specs.Dictionary.{Dictionary, key_of, map_of, updated, updated_all}
use Rattle.prcu_model.proofs.Dictionaries.{updated_all-append, value_after, get-updated, get-updated_other, map_of-push, get-del, get-set}
use Rattle.key_interval.specs.Keys.{Interval, Holds}
use Rattle.core_state.specs.Marks.{Grace}
use Rattle.tree_handles.specs.HeldValues.{HasFound, WasWaited, LeftFirst, Puts, WasPut, HeldIsLeftFirst, TakenIsLeftFirst, TakesOrReplaces, by_del, by_set, by_compare, OutlivesItsHolders, OutlivesItsLookups, HoldsBack, WaitsCount, PollsCount, OwnWaitsAreLater}
use Rattle.prcu_model.specs.declared.operation.Reply.{Reply}
use Rattle.prcu_model.specs.declared.operation.Reply.TheVariants.{Gone, Was}
use Rattle.prcu_model.specs.declared.operation.Told.{Told}
use Rattle.core_state.specs.declared.shape.Shape.{Shape}
use Rattle.core_state.specs.declared.view.View.{View}
use Rattle.core_state.specs.declared.view.Waiting.{Waiting}
use Rattle.core_state.specs.Steps.{new_wait}
use Rattle.citrus_tree.specs.declared.comparing.Compared.TheVariants.{Replaced}
use Rattle.citrus_tree.specs.Replies.{Compares, ComparesBy, Dels, DelsBy, HasUpdated, Sets, SetsBy}
use Rattle.citrus_tree.specs.Lookups.{IsHolding, Looked}
use Rattle.std.specs.FinMap as finite

module _ {A : Type 0} where
  -- the last one of a beginning
  pub stands_at : (a : List A) (m : A) (h : List A) → IsPrefix (a ++ m ∷ []) h → get_elem? h (length a) ≡ some m
  stands_at a m h p = subst (λ z. get_elem? z (length a) ≡ some m) p.1 (there a p.0)
    where
      there : (a more : List A) → get_elem? ((a ++ m ∷ []) ++ more) (length a) ≡ some m
      there [] more = refl
      there (x ∷ a) more = there a more

  pub longer : (a : List A) (m : A) (h : List A) → IsPrefix (a ++ m ∷ []) h → length a < length h
  longer a m h p =
      let all : length (a ++ m ∷ []) + length p.0 ≡ length h = sym (length-append (a ++ m ∷ []) p.0) ∙ ap length p.1 in
      let one : length (a ++ m ∷ []) ≡ length a + 1 = length-append a (m ∷ []) in omega arith

  pub without_last : (a : List A) (m : A) (h : List A) → IsPrefix (a ++ m ∷ []) h → IsPrefix a h
  without_last a m h p = prefix_trans a (a ++ m ∷ []) h (m ∷ [], refl) p

  -- two beginnings, one of which is shorter
  pub within : (a : List A) (m : A) (b h : List A) → IsPrefix (a ++ m ∷ []) h → IsPrefix b h → length a < length b
      → IsPrefix (a ++ m ∷ []) b
  within a m b h p q less =
      let one : length (a ++ m ∷ []) ≡ length a + 1 = length-append a (m ∷ []) in
      prefix_of_longer (a ++ m ∷ []) b h p q (omega arith)

  pub begins_before : (a : List A) (m : A) (b : List A) (n : A) (h : List A) → IsPrefix (a ++ m ∷ []) h → IsPrefix (b ++ n ∷ []) h
      → length a < length b → IsPrefix (a ++ m ∷ []) b
  begins_before a m b n h p q less = within a m b h p (without_last b n h q) less

  -- what stands in a list ends a beginning of it
  pub ends_at : (h : List A) (i : ℕ) (m : A) → get_elem? h i ≡ some m → (a : List A) × (length a ≡ i) × IsPrefix (a ++ m ∷ []) h
  ends_at [] i m e = absurd (some-ne-none m (sym e))
  ends_at (x ∷ h) zero m e = ([], refl, (h, ap (λ z. z ∷ h) (sym (some-injective x m e))))
  ends_at (x ∷ h) (suc i) m e = let r = ends_at h i m e in (x ∷ r.0, ap suc r.1, (r.2.0, ap (λ z. x ∷ z) r.2.1))

  -- the first so many are a beginning, which has all shorter ones
  pub take_begins : (i : ℕ) (xs : List A) → IsPrefix (take i xs) xs
  take_begins zero xs = (xs, refl)
  take_begins (suc i) [] = ([], refl)
  take_begins (suc i) (x ∷ xs) = let r = take_begins i xs in (r.0, ap (λ z. x ∷ z) r.1)

  pub begins_take : (a xs : List A) (i : ℕ) → IsPrefix a xs → length a ≤ i → IsPrefix a (take i xs)
  begins_take [] xs i p less = (take i xs, refl)
  begins_take (m ∷ a) xs zero p less = absurd (omega arith)
  begins_take (m ∷ a) [] (suc i) p less = absurd (let e = p.1 in cc)
  begins_take (m ∷ a) (x ∷ xs) (suc i) p less =
      let head : m ≡ x = (let e = p.1 in cc) in
      let r = begins_take a xs i (p.0, (let e = p.1 in cc)) (omega arith) in
      (r.0, (λ j. head j ∷ r.1 j))

  -- a beginning of the rest, behind the first part
  pub more_behind : (a b rest xs : List A) (m : A) → IsPrefix (b ++ m ∷ []) rest → a ++ rest ≡ xs → IsPrefix ((a ++ b) ++ m ∷ []) xs
  more_behind a b rest xs m p e = subst (λ z. IsPrefix z xs) (sym (append_assoc a b (m ∷ [])))
      (p.0, append_assoc a (b ++ m ∷ []) p.0 ∙ ap (λ z. a ++ z) p.1 ∙ e)

-- the updates of a beginning
pub updates_past : (a b : List Mark) → IsPrefix a b → IsPrefix (updates_of a) (updates_of b)
updates_past a b p = (updates_of p.0, sym (updates_of-append a p.0) ∙ ap updates_of p.1)

pub updates_begin : (a : List Mark) (u : Update) (b : List Mark) → IsPrefix (a ++ Done u ∷ []) b
    → IsPrefix (updates_of a ++ u ∷ []) (updates_of b)
updates_begin a u b p = subst (λ z. IsPrefix z (updates_of b)) (updates_of-append a (Done u ∷ [])) (updates_past (a ++ Done u ∷ []) b p)

-- an update counts from behind its mark on
pub counted : (a : List Mark) (u : Update) (b : List Mark) → IsPrefix (a ++ Done u ∷ []) b
    → length (updates_of a) + 1 ≤ length (updates_of b)
counted a u b p =
    let below = updates_below (a ++ Done u ∷ []) b p in
    let all : length (updates_of (a ++ Done u ∷ [])) ≡ length (updates_of a) + 1 =
    ap length (updates_of-append a (Done u ∷ [])) ∙ length-append (updates_of a) (u ∷ []) in omega arith

-- so what has as many updates begins with it
pub holds_update : (a : List Mark) (u : Update) (b h : List Mark) → IsPrefix (a ++ Done u ∷ []) h → IsPrefix b h
    → length (updates_of a) + 1 ≤ length (updates_of b) → length a < length b
holds_update a u b h p q many = dite (dec_le (length b) (length a))
    (λ short. absurd (let below = updates_below b a (prefix_of_longer b a h q (without_last a (Done u) h p) short) in omega arith))
    (λ less. omega arith)

-- the mark of an update
abbrev HasMark : List Mark → List Update → Update → Type 0
HasMark h us u = (a : List Mark) × (updates_of a ≡ us) × IsPrefix (a ++ Done u ∷ []) h

behind : (m : Mark) (h : List Mark) (us : List Update) (u : Update) → ((a : List Mark) → updates_of (m ∷ a) ≡ updates_of a)
    → HasMark h us u → HasMark (m ∷ h) us u
behind m h us u none r = (m ∷ r.0, none r.0 ∙ r.1, (r.2.0, ap (λ z. m ∷ z) r.2.1))

kept : (w : Update) (h : List Mark) (us : List Update) (u : Update) → HasMark h us u → HasMark (Done w ∷ h) (w ∷ us) u
kept w h us u r = (Done w ∷ r.0, ap (λ z. w ∷ z) r.1, (r.2.0, ap (λ z. Done w ∷ z) r.2.1))

pub mark_of : (h : List Mark) (us : List Update) (u : Update) → IsPrefix (us ++ u ∷ []) (updates_of h) → HasMark h us u
mark_of [] us u p = absurd (let less = longer us u [] p in omega arith)
mark_of (Done w ∷ h) [] u p = let same : u ≡ w = (let e = p.1 in cc) in ([], refl, (h, ap (λ z. Done z ∷ h) same))
mark_of (Done w ∷ h) (x ∷ us) u p =
    let same : w ≡ x = (let e = p.1 in cc) in
    subst (λ z. HasMark (Done w ∷ h) (z ∷ us) u) same (kept w h us u (mark_of h us u (p.0, (let e = p.1 in cc))))
mark_of (Entered q c x ∷ h) us u p = behind (Entered q c x) h us u (λ a. refl) (mark_of h us u p)
mark_of (Left q c ∷ h) us u p = behind (Left q c) h us u (λ a. refl) (mark_of h us u p)
mark_of (Began q c low high ∷ h) us u p = behind (Began q c low high) h us u (λ a. refl) (mark_of h us u p)
mark_of (Ended q c ∷ h) us u p = behind (Ended q c) h us u (λ a. refl) (mark_of h us u p)
mark_of (Given s ∷ h) us u p = behind (Given s) h us u (λ a. refl) (mark_of h us u p)
mark_of (Unlinked s ∷ h) us u p = behind (Unlinked s) h us u (λ a. refl) (mark_of h us u p)
mark_of (Freed s ∷ h) us u p = behind (Freed s) h us u (λ a. refl) (mark_of h us u p)
mark_of (Moved ∷ h) us u p = behind Moved h us u (λ a. refl) (mark_of h us u p)

-- Where sections, updates and waits stand among marks.

-- a key has a value after an update that it hadn't before: the update gave it
by_after : (is : Bool) (op : Op) (its was : Option ℕ) (value : ℕ) → value_after is op its was ≡ Some value
    → (was ≡ Some value) ⊎ Puts op (key_of op) value
by_after is (Put key v) (Some x) was value e = inl e
by_after true (Put key v) None was value e = inr (inl (let same : v ≡ value = cc in ap (λ z. Put key z) same))
by_after is (Set key v) None was value e = inl e
by_after true (Set key v) (Some x) was value e = inr (inr (let same : v ≡ value = cc in ap (λ z. Set key z) same))
by_after true (Del key) its was value e = absurd (cc)
by_after _ _ _ was value e = inl e

put_by : (m : Dictionary) (op : Op) (key value : ℕ) → finite.get (updated m op) key ≡ Some value
    → (finite.get m key ≡ Some value) ⊎ Puts op key value
put_by m op key value e = dite (ℕ_discrete key (key_of op))
    (λ same. ⊎_elim (λ was. inl was) (λ puts. inr (subst (λ z. Puts op z value) (sym same) puts))
    (by_after _ op _ _ value (sym (get-updated m op key) ∙ e)))
    (λ ne. inl (sym (get-updated_other m op key ne) ∙ e))

pub is_or_not : (o : Option ℕ) (value : ℕ) → (o ≡ Some value) ⊎ (o ≡ Some value → ⊥)
is_or_not None value = inr (λ e. cc)
is_or_not (Some x) value = dite (ℕ_discrete x value) (λ e. inl (ap (λ z. Some z) e))
    (λ ne. inr (λ e. ne (let same : x ≡ value = cc in same)))

-- updates after which a key has a value that it hadn't before them
put_among : (m : Dictionary) (us : List Update) (key value : ℕ) → (finite.get m key ≡ Some value → ⊥)
    → finite.get (updated_all m us) key ≡ Some value
    → (before : List Update) × (u : Update) × Puts u.op key value × IsPrefix (before ++ u ∷ []) us
put_among m [] key value none e = absurd (none e)
put_among m (u ∷ us) key value none e = ⊎_elim
    (λ now. ⊎_elim (λ was. absurd (none was)) (λ puts. ([], u, puts, (us, refl))) (put_by m u.op key value now))
    (λ not_yet. let r = put_among (updated m u.op) us key value not_yet e in
    (u ∷ r.0, r.1, r.2, (r.3.0, ap (λ z. u ∷ z) r.3.1)))
    (is_or_not (finite.get (updated m u.op) key) value)

-- an update behind so many others is a later one
put_there : (h : List Mark) (us more : List Update) (u : Update) (key value front : ℕ) → Puts u.op key value
    → IsPrefix ((us ++ more) ++ u ∷ []) (updates_of h) → length (us ++ more) < front → WasPut h key value (length us + 1) front
put_there h us more u key value front puts there less =
    let mark = mark_of h (us ++ more) u there in
    let long = length-append us more in
    let count : length (updates_of mark.0) ≡ length (us ++ more) = ap length mark.1 in
    record { before = mark.0; update = u; stands = mark.2; later = omega arith; among = omega arith; puts = puts }

module _ (h until : List Mark) (q c key value : ℕ) (found : HasFound until q c key value) (past : IsPrefix until h) where
  abbrev front : ℕ
  front = found.said.front

  enters : IsPrefix (found.before ++ Entered q c key ∷ []) h
  enters = prefix_trans (found.before ++ Entered q c key ∷ []) until h found.enters past

  -- what was found before an update was found by a section that was entered before it
  entered_first : (made : List Mark) (u : Update) → IsPrefix (made ++ Done u ∷ []) h → front ≤ length (updates_of made)
      → length found.before < length made
  entered_first made u stands low = dite (dec_le (length made) (length found.before))
      (λ above. dite (ℕ_discrete (length made) (length found.before))
      (λ same. absurd (let both : some (Done u) ≡ some (Entered q c key) =
      sym (stands_at made (Done u) h stands) ∙ ap (get_elem? h) same ∙ stands_at found.before (Entered q c key) h enters in cc))
      (λ ne. absurd (let more = counted made u found.before
      (begins_before made (Done u) found.before (Entered q c key) h stands enters (omega arith)) in
      let since = found.said.since in omega arith)))
      (λ less. omega arith)

  -- and left before a wait for its key that was begun after the update ended
  pub left_before : (made : List Mark) (u : Update) (p n : ℕ) (keys : Interval) → Grace h → IsPrefix (made ++ Done u ∷ []) h
      → front ≤ length (updates_of made) → WasWaited h (length (updates_of made) + 1) keys p n → Holds keys key
      → (left : LeftFirst h q c key p n) × (left.entered ≡ found.before)
  left_before made u p n keys grace stands low wait holds =
      let first = entered_first made u stands low in
      let begun : IsPrefix wait.before h = without_last wait.before (Began p n keys.low keys.high) h wait.begins in
      let second = holds_update made u wait.before h stands begun wait.after in
      let left = grace (length wait.before) (length wait.until) (length found.before) p n keys.low keys.high q c key
      (stands_at wait.before (Began p n keys.low keys.high) h wait.begins) (stands_at wait.until (Ended p n) h wait.ends)
      (stands_at found.before (Entered q c key) h enters) (omega arith) holds.0 holds.1 in
      let here = ends_at h left.at (Left q c) left.left in
      let long = here.1 in
      let after = left.after in
      let before = left.before in (
        record {
          entered = found.before;
          left = here.0;
          ended = wait.until;
          enters = begins_before found.before (Entered q c key) here.0 (Left q c) h enters here.2 (omega arith);
          leaves = begins_before here.0 (Left q c) wait.until (Ended p n) h here.2 wait.ends (omega arith);
          ends = wait.ends;
        },
        refl,
      )

  -- what was found after an update after which the key hadn't the value, a later one had put there
  pub put_later : (made : List Mark) (u : Update) → IsPrefix (made ++ Done u ∷ []) h → length (updates_of made) + 1 ≤ front
      → (finite.get (map_of (updates_of made ++ u ∷ [])) key ≡ Some value → ⊥) → WasPut h key value (length (updates_of made) + 1 + 1) front
  put_later made u stands above gone =
      let us : List Update = updates_of made ++ u ∷ [] in
      let all : List Update = take front (updates_of until) in
      let long : length us ≡ length (updates_of made) + 1 = length-append (updates_of made) (u ∷ []) in
      let whole : length all ≡ front = length-take-le front (updates_of until) found.said.made in
      let seen : IsPrefix (made ++ Done u ∷ []) until = within made (Done u) until h stands past
      (holds_update made u until h stands past (let made_all = found.said.made in omega arith)) in
      let first : IsPrefix us all = begins_take us (updates_of until) front (updates_begin made u until seen) (omega arith) in
      let last : finite.get (updated_all (map_of us) first.0) key ≡ Some value =
      ap (λ d. finite.get d key) (sym (updated_all-append finite.empty us first.0)) ∙ ap (λ z. finite.get (map_of z) key) first.1
      ∙ found.said.answers in
      let put = put_among (map_of us) first.0 key value gone last in
      let there : IsPrefix ((us ++ put.0) ++ put.1 ∷ []) all = more_behind us put.0 first.0 all put.1 put.3 first.1 in
      let less : length (us ++ put.0) < front = subst (λ z. length (us ++ put.0) < z) whole (longer (us ++ put.0) put.1 all there) in
      subst (λ z. WasPut h key value (z + 1) front) long (put_there h us put.0 put.1 key value front put.2
      (prefix_trans ((us ++ put.0) ++ put.1 ∷ []) all (updates_of h) there
      (prefix_trans all (updates_of until) (updates_of h) (take_begins front (updates_of until)) (updates_past until h past))) less)

pub held_is_left_first : HeldIsLeftFirst
held_is_left_first h until q c key value number p n keys grace found past taken waited holds =
    let number_is = taken.number_is in
    dite (dec_le found.said.front (length (updates_of taken.before)))
    (λ low. inl (left_before h until q c key value found past taken.before taken.update p n keys grace taken.stands low
    (subst (λ z. WasWaited h z keys p n) number_is waited) holds).0)
    (λ above. inr (subst (λ z. WasPut h key value (z + 1) found.said.front) (sym number_is)
    (put_later h until q c key value found past taken.before taken.update taken.stands (omega arith) taken.gone)))

pub taken_is_left_first : TakenIsLeftFirst
taken_is_left_first h until q c key value number p n keys grace found past taken never waited holds =
    ⊎_elim (λ left. left)
    (λ (put : WasPut h key value (number + 1) found.said.front). absurd (never (record {
      before = put.before;
      update = put.update;
      stands = put.stands;
      later = put.later;
      among = counted put.before put.update h put.stands;
      puts = put.puts;
    })))
    (held_is_left_first h until q c key value number p n keys grace found past taken waited holds)

-- From what calls say to marks.

-- the holder has seen its section's beginning last
seen_is : (v w : View) (key value : ℕ) (held : IsHolding v key value w)
    → w.seen ≡ held.found.entered.leaves.before ++ Entered v.allowance.place v.counts.sections key ∷ []
seen_is v w key value held = ap (λ (z : View). z.seen) held.found.others ∙ held.found.entered.leaves.marked

-- a section that a hold entered found the value
abbrev held_found : (v w : View) (key value : ℕ) (held : IsHolding v key value w)
    → HasFound held.marks v.allowance.place v.counts.sections key value
held_found v w key value held = record {
  before = held.found.entered.leaves.before;
  enters = subst (λ z. IsPrefix z held.marks) (seen_is v w key value held) held.sees.begins;
  said = held.said;
}

-- and so does a lookup that is over
abbrev looked_found : (v x : View) (key value : ℕ) → Looked v key (Some value) x
    → HasFound x.seen v.allowance.place v.counts.sections key value
looked_found v x key value l = record {
  before = l.before;
  enters = subst (λ z. IsPrefix (l.before ++ Entered v.allowance.place v.counts.sections key ∷ []) z) (sym l.seen)
      (prefix_trans (l.before ++ Entered v.allowance.place v.counts.sections key ∷ []) l.until _ l.within
      (Left v.allowance.place v.counts.sections ∷ [], refl));
  said = l.said;
}

-- The update of a del or a set, after which the key has no value, or the one that was set.
record IsMade (key number : ℕ) (e : View) : Type 0 where
  pub before : List Mark
  pub update : Update
  pub stands : IsPrefix (before ++ Done update ∷ []) e.seen
  pub number_is : number ≡ length (updates_of before) + 1
  pub leaves : (value : ℕ) → finite.get (map_of (updates_of before ++ update ∷ [])) key ≡ Some value → Puts update.op key value

of_del : (k : Shape) (d e : View) (key : ℕ) (told : Told) → told.reply ≡ Gone → Dels k d key told e → IsMade key told.number e
of_del k d e key told gone dels =
    let by : DelsBy d key dels.0 Gone told.number e = subst (λ (r : Reply). DelsBy d key dels.0 r told.number e) gone dels.1 in
    let u : Update = record { caller = d.allowance.place; op = Del key } in
    record {
      before = by.0;
      update = u;
      stands = by.2.stands;
      number_is = by.2.number_is;
      leaves = λ value has. absurd (let none : None ≡ Some value =
          sym (ap (λ m. finite.get m key) (map_of-push (updates_of by.0) u) ∙ get-del (map_of (updates_of by.0)) key) ∙ has in cc);
    }

-- the update of a call that gave the key another value
of_gift : (d e : View) (key other old number : ℕ) (tries before : List Mark) → HasUpdated d (Set key other) tries before [] number e
    → finite.get (map_of (updates_of before)) key ≡ Some old → IsMade key number e
of_gift d e key other old number tries before updated has_old =
    let u : Update = record { caller = d.allowance.place; op = Set key other } in
    let m = map_of (updates_of before) in
    record {
      before = before;
      update = u;
      stands = updated.stands;
      number_is = updated.number_is;
      leaves = λ value has. inr (let now : Some other ≡ Some value = sym (ap (λ m. finite.get m key) (map_of-push (updates_of before) u)
          ∙ get-set m key other (ap (λ o. is_some o) has_old)) ∙ has in
          let same : other ≡ value = cc in ap (λ z. Set key z) same);
    }

of_set : (d e : View) (key other old : ℕ) (told : Told) → told.reply ≡ Was old → Sets d key other told e → IsMade key told.number e
of_set d e key other old told was sets =
    let by : SetsBy d key other sets.0 (Was old) told.number e =
    subst (λ (r : Reply). SetsBy d key other sets.0 r told.number e) was sets.1 in
    of_gift d e key other old told.number sets.0 by.0 by.1 by.2

of_compare : (d e : View) (key expected other number : ℕ) → Compares d key expected other (Replaced number) e → IsMade key number e
of_compare d e key expected other number compares =
    let by : ComparesBy d key expected other compares.0 (Replaced number) e = compares.1 in
    of_gift d e key other expected number compares.0 by.0 by.1 by.2

made_of : (k : Shape) (d e : View) (key number : ℕ) → TakesOrReplaces k d key number e → IsMade key number e
made_of k d e key number (by_del told is gone dels) = subst (λ n. IsMade key n e) is (of_del k d e key told gone dels)
made_of k d e key number (by_set told old other is was sets) = subst (λ n. IsMade key n e) is (of_set d e key other old told was sets)
made_of k d e key number (by_compare expected other compares) = of_compare d e key expected other number compares

module _ (h until : List Mark) (q c key value : ℕ) (found : HasFound until q c key value) (past : IsPrefix until h) (e : View) (number : ℕ)
    (made : IsMade key number e) (seen : IsPrefix e.seen h) where
  stands : IsPrefix (made.before ++ Done made.update ∷ []) h
  stands = prefix_trans (made.before ++ Done made.update ∷ []) e.seen h made.stands seen

  -- what was found after the update, it or a later one had put there
  put_then : length (updates_of made.before) + 1 ≤ found.said.front → WasPut h key value number found.said.front
  put_then above = by_value (is_or_not (finite.get (map_of (updates_of made.before ++ made.update ∷ [])) key) value)
    where
      by_value : (finite.get (map_of (updates_of made.before ++ made.update ∷ [])) key ≡ Some value)
          ⊎ (finite.get (map_of (updates_of made.before ++ made.update ∷ [])) key ≡ Some value → ⊥)
          → WasPut h key value number found.said.front
      by_value (inl same) = record {
        before = made.before;
        update = made.update;
        stands = stands;
        later = let is = made.number_is in omega arith;
        among = above;
        puts = made.leaves value same;
      }
      by_value (inr gone) =
          let put = put_later h until q c key value found past made.before made.update stands above gone in
          let is = made.number_is in
          let later = put.later in
          record { before = put.before; update = put.update; stands = put.stands; later = omega arith; among = put.among; puts = put.puts }

  left_or_put : (p n : ℕ) (keys : Interval) → Grace h → WasWaited h number keys p n → Holds keys key
      → ((left : LeftFirst h q c key p n) × (left.entered ≡ found.before)) ⊎ WasPut h key value number found.said.front
  left_or_put p n keys grace waited holds = dite (dec_le found.said.front (length (updates_of made.before)))
      (λ low. inl (left_before h until q c key value found past made.before made.update p n keys grace stands low
      (subst (λ z. WasWaited h z keys p n) made.number_is waited) holds))
      (λ above. inr (put_then (omega arith)))

pub outlives_its_holders : OutlivesItsHolders
outlives_its_holders k h v w d e key value number p n keys grace held past taken seen waited holds =
    ⊎_elim (λ (left : _ × _). inl left.0) (λ put. inr put)
    (left_or_put h held.marks v.allowance.place v.counts.sections key value (held_found v w key value held) past e number
    (made_of k d e key number taken) seen p n keys grace waited holds)

pub outlives_its_lookups : OutlivesItsLookups
outlives_its_lookups k h v x d e key value number p n keys grace looked past taken seen waited holds =
    ⊎_elim (λ (left : _ × _). inl left.0) (λ put. inr put)
    (left_or_put h x.seen v.allowance.place v.counts.sections key value (looked_found v x key value looked) past e number
    (made_of k d e key number taken) seen p n keys grace waited holds)

own_below : (p : ℕ) (a b : List Mark) → IsPrefix a b → length (own_of p a) ≤ length (own_of p b)
own_below p a b begins =
    let all = ap length (ap (own_of p) (sym begins.1) ∙ own_of-append p a begins.0) in
    omega (arith, all, length-append (own_of p a) (own_of p begins.0))

-- a place whose section was left has left a mark since it was entered
moved_on : (h : List Mark) (q c key : ℕ) (entered left : List Mark) → IsPrefix (entered ++ Entered q c key ∷ []) left
    → IsPrefix (left ++ Left q c ∷ []) h → own_of q h ≡ own_of q (entered ++ Entered q c key ∷ []) → ⊥
moved_on h q c key entered left enters leaves same =
    let first = own_below q (entered ++ Entered q c key ∷ []) left enters in
    let last = own_below q (left ++ Left q c ∷ []) h leaves in
    let one : own_of q (left ++ Left q c ∷ []) ≡ own_of q left ++ Left q c ∷ [] = own_of-append q left (Left q c ∷ [])
    ∙ ap (λ b. own_of q left ++ cond b (Left q c ∷ []) []) (eq-eqb q q refl) in
    let long = ap length one ∙ length-append (own_of q left) (Left q c ∷ []) in
    let still = ap length same in
    omega arith

pub holds_back : HoldsBack
holds_back k h v w d e key value number p n keys grace held past still taken seen waited holds =
    let q = v.allowance.place in
    let c = v.counts.sections in
    let entered = held.found.entered.leaves.before in
    ⊎_elim
    (λ (first : (left : LeftFirst h q c key p n) × (left.entered ≡ entered)). absurd (moved_on h q c key entered first.0.left
    (subst (λ z. IsPrefix (z ++ Entered q c key ∷ []) first.0.left) first.1 first.0.enters)
    (prefix_trans (first.0.left ++ Left q c ∷ []) first.0.ended h first.0.leaves (without_last first.0.ended (Ended p n) h first.0.ends))
    (still ∙ ap (own_of q) (seen_is v w key value held))))
    (λ put. put)
    (left_or_put h held.marks q c key value (held_found v w key value held) past e number
    (made_of k d e key number taken) seen p n keys grace waited holds)

pub polls_count : PollsCount
polls_count h until g f keys number begun later seen ends = record {
  before = begun.leaves.before;
  begins = subst (λ z. IsPrefix z h) begun.leaves.marked seen;
  after = later;
  until = until;
  ends = ends;
}

-- the wait that is over is the one that was begun
count_of : (a b : Waiting) → Some a ≡ Some b → a.count ≡ b.count
count_of a b e = let same : a ≡ b = cc in ap (λ (z : Waiting). z.count) same

pub waits_count : WaitsCount
waits_count k h g f keys number waited later seen =
    let mid = waited.0 in
    let over = waited.2 in
    let place : mid.allowance.place ≡ g.allowance.place = ap (λ (z : View). z.allowance.place) waited.1.others in
    let begun = new_wait g keys.low keys.high waited.1.clock waited.1.leaves.before in
    let count : over.wait.count ≡ g.counts.waits = count_of over.wait begun (sym over.was ∙ waited.1.wait_is) in
    let ended = over.ended.leaves in
    let all : IsPrefix (ended.before ++ Ended mid.allowance.place over.wait.count ∷ []) h =
    subst (λ z. IsPrefix z h) ended.marked seen in
    polls_count h ended.before g mid keys number waited.1 later
    (prefix_trans mid.seen ended.before h ended.seen.begins
    (without_last ended.before (Ended mid.allowance.place over.wait.count) h all))
    (subst (λ (z : ℕ × ℕ). IsPrefix (ended.before ++ Ended z.0 z.1 ∷ []) h) (λ i. (place i, count i)) all)

pub own_waits_are_later : OwnWaitsAreLater
own_waits_are_later k d e g f key number keys taken seen begun =
    let made = made_of k d e key number taken in
    let is = made.number_is in
    let more = counted made.before made.update begun.leaves.before
    (prefix_trans (made.before ++ Done made.update ∷ []) e.seen begun.leaves.before made.stands
    (prefix_trans e.seen g.seen begun.leaves.before seen begun.leaves.seen.begins)) in
    omega arith

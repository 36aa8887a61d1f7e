-- Scripts judged by a history: each caller's own updates, the numbers beside the lines, and all scripts one by one.
use Rattle.std.proofs.Common.{◌≡◌, ℕ, ◌+◌, ◌<◌, ◌≤◌, ◌==◌, inl, inr, true, false, List, [], ◌∷◌, ◌++◌, length, get_or, set, take, sym, ap, ◌∙◌, arith, get_or-set_same, get_or-set_other, zero, suc, ◌↔◌, ◌⊎◌, Bool, cond, Some, length-drop, drop, refl, MatchBool, min, map, subst}
use Rattle.std.proofs.lemmas.Bool.{cases_eq, false≢true, cases_lt}
use Rattle.std.proofs.lemmas.Bool.Decides.{nat_tests}
use Rattle.std.proofs.lemmas.List.{get_or_append_left, get_or_default, get_or_push, drop_all, drop_more, get_or_past}
use Rattle.std.proofs.lemmas.List.Sums.{count_by-le-length, count_by_more_yes, count_by_more_no, sum_by-cons, get_or-le-sum_by}
use Rattle.prcu_model.specs.declared.operation.Op.TheVariants.{Put}
use Rattle.prcu_model.specs.declared.operation.Update.{Update}
use Rattle.account_text.specs.Judging.{own_count, IsTold, AreToldFrom, line_of, IsScriptExplained}
use Rattle.std.specs.List.{slice_get, All, AllByRecursion}
use Rattle.std.proofs.lemmas.Option.{slice_get_within, get_or_from_slice_get}
use Rattle.prcu_model.specs.declared.operation.Op.{Op}
use Rattle.prcu_model.specs.declared.operation.Line.{Line}
use Rattle.prcu_model.specs.Dictionary.{tells_update, map_at, Room, Explains}
use Rattle.prcu_model.specs.Fronts.{Placed, own_updates, own_updates_from, told_updates, told_lines, MayStand, MayStandBeside, IsLeastFor, AreNumbered, all_told_lines, IsConfirmed, CanBeNumbered, AreExplained, AreExplainable}
use Rattle.prcu_model.proofs.ListFacts.{drop-there, told_lines-none, drop-read, SameLengths}
use Rattle.prcu_model.specs.declared.operation.Told.{Told}
use Rattle.prcu_model.specs.Scripts.{Roomy, entries_of, op_count}

-- The updates of each caller, counted one after another.

abbrev pub no_update : Update
no_update = record { caller = 0; op = Put 0 0 }

module _ (history : List Update) (i : ℕ) (below : i < length history) where
  abbrev pub owner : ℕ
  owner = (get_or history i no_update).caller

  pub counts-more : (counts : List ℕ) (n : ℕ) → ((caller : ℕ) → caller < length counts
      → get_or counts caller 0 ≡ own_count caller (take i history)) → owner < length counts → n ≡ own_count owner (take i history)
      → (caller : ℕ) → caller < length counts → get_or (set counts owner (n + 1)) caller 0 ≡ own_count caller (take (i + 1) history)
  counts-more counts n count there is caller within = elim (cases_eq caller owner) [
    | inl own ↦
        let test : ((get_or history i no_update).caller == caller) ≡ true = grind (arith, nat_tests) in
        ap (λ k. get_or (set counts owner (n + 1)) k 0) own ∙ get_or-set_same counts owner (n + 1) 0 there
        ∙ ap (λ m. m + 1) (is ∙ ap (λ k. own_count k (take i history)) (sym own))
        ∙ sym (count_by_more_yes (λ (u : Update). u.caller == caller) history i no_update below test)
    | inr other ↦
        let test : ((get_or history i no_update).caller == caller) ≡ false = grind (arith, nat_tests) in
        get_or-set_other counts owner caller (n + 1) 0 other ∙ count caller within
        ∙ sym (count_by_more_no (λ (u : Update). u.caller == caller) history i no_update below test)
  ]

  pub turns-more : (turns : List ℕ) (n : ℕ) → length turns ≡ i
      → ((j : ℕ) (none : Update) → j < i → get_or turns j 0 ≡ own_count (get_or history j none).caller (take j history))
      → n ≡ own_count owner (take i history) → (j : ℕ) (none : Update) → j < i + 1
      → get_or (turns ++ n ∷ []) j 0 ≡ own_count (get_or history j none).caller (take j history)
  turns-more turns n long turn is j none lower = elim (cases_eq j i) [
    | inl new ↦
        get_or_push turns n 0 j (long ∙ sym new) ∙ is
        ∙ ap (λ (u : Update). own_count u.caller (take i history)) (get_or_default history i no_update none below)
        ∙ ap (λ k. own_count (get_or history k none).caller (take k history)) (sym new)
    | inr old ↦
        let within : j < length turns = omega (arith, old) in
        get_or_append_left turns (n ∷ []) 0 j within ∙ turn j none (omega (arith, old))
  ]

-- a caller has no more updates than there are
pub own_count-le : (caller : ℕ) (us : List Update) → own_count caller us ≤ length us
own_count-le caller us = count_by-le-length (λ (u : Update). u.caller == caller) us

-- A caller's updates by their turns, and lines that tell of them.

-- a list with or without another element at its front
length_cond : {X : Type 0} (b : Bool) (x : X) (xs : List X) (n : ℕ) → length xs ≡ n → length (cond b (x ∷ xs) xs) ≡ cond b 1 0 + n
length_cond true x xs n e = omega arith
length_cond false x xs n e = omega arith

at_cond : {X : Type 0} (b : Bool) (x y : X) (xs : List X) (n : ℕ) → slice_get xs n ≡ Some y
    → slice_get (cond b (x ∷ xs) xs) (cond b 1 0 + n) ≡ Some y
at_cond true x y xs n e = let next : 1 + n ≡ suc n = omega arith in ap (slice_get (x ∷ xs)) next ∙ e
at_cond false x y xs n e = let same : 0 + n ≡ n = omega arith in ap (slice_get xs) same ∙ e

first_cond : {X : Type 0} (b : Bool) (x : X) (xs : List X) → b ≡ true → slice_get (cond b (x ∷ xs) xs) 0 ≡ Some x
first_cond true x xs is = refl
first_cond false x xs is = absurd (cc)

-- what stands in such a list is the first, or one of the others
parts_cond : {X : Type 0} (b : Bool) (x y : X) (xs : List X) (n : ℕ) → slice_get (cond b (x ∷ xs) xs) n ≡ Some y
    → ((b ≡ true) × (n ≡ 0) × (x ≡ y)) ⊎ ((m : ℕ) × (cond b 1 0 + m ≡ n) × (slice_get xs m ≡ Some y))
parts_cond true x y xs zero e = inl (refl, refl, cc)
parts_cond true x y xs (suc n) e = inr (n, omega arith, e)
parts_cond false x y xs n e = inr (n, omega arith, e)

abbrev placed : ℕ → Update → Placed
placed position u = record { position = position; op = u.op }

module _ (caller : ℕ) where
  count-cons : (u : Update) (us : List Update) → own_count caller (u ∷ us) ≡ cond (u.caller == caller) 1 0 + own_count caller us
  count-cons u us = sum_by-cons (λ (x : Update). cond (x.caller == caller) 1 0) u us

  pub length-own : (us : List Update) (position : ℕ) → length (own_updates_from position caller us) ≡ own_count caller us
  length-own [] position = refl
  length-own (u ∷ us) position =
      length_cond (u.caller == caller) (placed position u) (own_updates_from (position + 1) caller us) (own_count caller us)
      (length-own us (position + 1))
      ∙ sym (count-cons u us)

  -- an update of the caller stands at its turn
  own-at : (us : List Update) (position i : ℕ) (none : Update) → i < length us → (get_or us i none).caller ≡ caller
      → slice_get (own_updates_from position caller us) (own_count caller (take i us)) ≡ Some (placed (position + i) (get_or us i none))
  own-at [] position i none below own = absurd (omega (arith, below))
  own-at (u ∷ us) position zero none below own =
      let is : (u.caller == caller) ≡ true = grind (arith, nat_tests) in
      let here : position ≡ position + 0 = omega arith in
      first_cond (u.caller == caller) (placed position u) (own_updates_from (position + 1) caller us) is ∙ ap (λ p. Some (placed p u)) here
  own-at (u ∷ us) position (suc i) none below own =
      let next : position + 1 + i ≡ position + suc i = omega arith in
      ap (slice_get (own_updates_from position caller (u ∷ us))) (count-cons u (take i us))
      ∙ at_cond (u.caller == caller) (placed position u) (placed (position + suc i) (get_or us i none))
      (own_updates_from (position + 1) caller us) (own_count caller (take i us))
      (own-at us (position + 1) i none (omega arith) own ∙ ap (λ p. Some (placed p (get_or us i none))) next)

  -- where an update that stands at a turn is in the history
  pub record IsAt (us : List Update) (position turn : ℕ) (is : Placed) : Type 0 where
    pub place : ℕ
    pub within : place < length us
    pub own : (none : Update) → (get_or us place none).caller ≡ caller
    pub position_is : position + place ≡ is.position
    pub op : (none : Update) → (get_or us place none).op ≡ is.op
    pub turn_is : own_count caller (take place us) ≡ turn

  pub at-own : (us : List Update) (position turn : ℕ) (is : Placed) → slice_get (own_updates_from position caller us) turn ≡ Some is
      → IsAt us position turn is
  at-own [] position turn is e = absurd (cc)
  at-own (u ∷ us) position turn is e = elim (parts_cond (u.caller == caller) (placed position u) is
      (own_updates_from (position + 1) caller us) turn e) [
        | inl here ↦
            let own : u.caller ≡ caller = grind (arith, nat_tests, here.0) in
            record {
              place = 0;
              within = omega arith;
              own = λ none. own;
              position_is = omega (arith, ap (λ p. p.position) here.2);
              op = λ none. ap (λ p. p.op) here.2;
              turn_is = sym here.1;
            }
        | inr later ↦
            let rest = at-own us (position + 1) later.0 is later.2 in
            record {
              place = suc rest.place;
              within = omega (arith, rest.within);
              own = rest.own;
              position_is = omega (arith, rest.position_is);
              op = rest.op;
              turn_is = count-cons u (take rest.place us) ∙ ap (λ n. cond (u.caller == caller) 1 0 + n) rest.turn_is ∙ later.1;
            }
      ]

module _ (history : List Update) (caller : ℕ) where
  -- An update is at its turn exactly where it is the caller's, at this position, with so many before it.
  pub own-is : (position turn : ℕ) (op : Op) (i : ℕ) (none : Update) → position ≡ i + 1 → i < length history
      → ((get_or history i none).caller ≡ caller) × ((get_or history i none).op ≡ op) × (own_count caller (take i history) ≡ turn)
      ↔ (slice_get (own_updates caller history) turn ≡ Some (record { position = position; op = op }))
  own-is position turn op i none at below = (
    λ h.
        let position_is : 1 + i ≡ position = omega arith in
        ap (slice_get (own_updates caller history)) (sym h.2) ∙ own-at caller history 1 i none below h.0
        ∙ (λ k. Some (record { position = position_is k; op = h.1 k })),
    λ e.
        let is = at-own caller history 1 turn (record { position = position; op = op }) e in
        let place : is.place ≡ i = omega (arith, is.position_is) in (
          ap (λ k. (get_or history k none).caller) (sym place) ∙ is.own none,
          ap (λ k. (get_or history k none).op) (sym place) ∙ is.op none,
          ap (λ k. own_count caller (take k history)) (sym place) ∙ is.turn_is,
        ),
  )

  pub own-bounds : (position turn : ℕ) (op : Op)
      → slice_get (own_updates caller history) turn ≡ Some (record { position = position; op = op })
      → (0 < position) × (position ≤ length history)
  own-bounds position turn op e =
      let is = at-own caller history 1 turn (record { position = position; op = op }) e in
      (omega (arith, is.position_is), omega (arith, is.position_is, is.within))

  pub own-turn : (turn : ℕ) (is : Placed) → slice_get (own_updates caller history) turn ≡ Some is
      → turn < length (own_updates caller history)
  own-turn turn is e = slice_get_within (own_updates caller history) turn is e

  -- no line tells exactly of no update
  pub AreToldFrom-end : (turn : ℕ) → turn ≤ length (own_updates caller history)
      → AreToldFrom history caller turn [] ↔ (turn ≡ length (own_updates caller history))
  AreToldFrom-end turn le = (
    λ h. omega (arith, ap length h.updates, length-drop turn (own_updates caller history)),
    λ all. record { updates = drop_all turn (own_updates caller history) (omega (arith, all)); confirmed = tt },
  )

-- what a line adds to what lines tell, by whether it tells of an update
told_case : (b : Bool) (p : Placed) (ps : List Placed) → b ≡ true → cond b (p ∷ ps) ps ≡ p ∷ ps
told_case b p ps is = ap (λ b. cond b (p ∷ ps) ps) is

other_case : (b : Bool) (p : Placed) (ps : List Placed) → b ≡ false → cond b (p ∷ ps) ps ≡ ps
other_case b p ps is = ap (λ b. cond b (p ∷ ps) ps) is

first_left : {X : Type 0} (xs ys : List X) (n : ℕ) (y : X) → drop n xs ≡ y ∷ ys → (slice_get xs n ≡ Some y) × (drop (n + 1) xs ≡ ys)
first_left [] ys zero y e = absurd (cc)
first_left [] ys (suc n) y e = absurd (cc)
first_left (x ∷ xs) ys zero y e = (cc, cc)
first_left (x ∷ xs) ys (suc n) y e =
    let next : suc n + 1 ≡ suc (n + 1) = omega arith in
    let rest = first_left xs ys n y e in
    (rest.0, ap (λ k. drop k (x ∷ xs)) next ∙ rest.1)

module _ (history : List Update) (caller turn : ℕ) (line : Line) (lines : List Line) where
  -- a line that tells of no update
  pub AreToldFrom-other : tells_update line.reply ≡ false
      → AreToldFrom history caller turn (line ∷ lines) ↔ AreToldFrom history caller turn lines
  AreToldFrom-other is =
      let same = other_case (tells_update line.reply) (record { position = line.number; op = line.op }) (told_updates lines) is in (
        λ h. record { updates = h.updates ∙ same; confirmed = h.confirmed.1 },
        λ h. record { updates = h.updates ∙ sym same; confirmed = ((λ tells. absurd (false≢true (sym is ∙ tells))), h.confirmed) },
      )

  -- a line that tells of one
  pub AreToldFrom-next : tells_update line.reply ≡ true
      → AreToldFrom history caller turn (line ∷ lines) ↔ (IsTold history caller turn line × AreToldFrom history caller (turn + 1) lines)
  AreToldFrom-next is =
      let same = told_case (tells_update line.reply) (record { position = line.number; op = line.op }) (told_updates lines) is in (
        λ h.
            let left = first_left (own_updates caller history) (told_updates lines) turn (record { position = line.number; op = line.op })
            (h.updates ∙ same) in
            ((left.0, h.confirmed.0 is), record { updates = left.1; confirmed = h.confirmed.1 }),
        λ h. record {
          updates = drop-there (own_updates caller history) turn (record { position = line.number; op = line.op }) h.0.0
              ∙ ap (λ ps. record { position = line.number; op = line.op } ∷ ps) h.1.updates ∙ sym same;
          confirmed = ((λ _. h.0.1), h.1.confirmed);
        },
      )

-- The numbers that may stand beside a script's lines, one line after another.

-- the lines that are left, from the next on
pub told_lines-drop : (ops : List Op) (tolds : List Told) (i : ℕ) (op : Op) (told : Told) → i < length ops → i < length tolds
    → told_lines (drop i ops) (drop i tolds) ≡ line_of (get_or ops i op) (get_or tolds i told)
    ∷ told_lines (drop (i + 1) ops) (drop (i + 1) tolds)
told_lines-drop ops tolds i op told in_ops in_tolds =
    ap (λ os. told_lines os (drop i tolds)) (drop_more ops i op in_ops)
    ∙ ap (told_lines (get_or ops i op ∷ drop (i + 1) ops)) (drop_more tolds i told in_tolds)

-- the next line that is left, where it was read
pub told_lines-turn : (ops : List Op) (tolds : List Told) (i : ℕ) (op : Op) (told : Told) → i < length ops → i < length tolds
    → op ≡ get_or ops i op → told ≡ get_or tolds i told
    → told_lines (drop i ops) (drop i tolds) ≡ line_of op told ∷ told_lines (drop (i + 1) ops) (drop (i + 1) tolds)
told_lines-turn ops tolds i op told in_ops in_tolds is_op is_told =
    let rest = told_lines (drop (i + 1) ops) (drop (i + 1) tolds) in
    told_lines-drop ops tolds i op told in_ops in_tolds ∙ ap (λ o. line_of o (get_or tolds i told) ∷ rest) (sym is_op)
    ∙ ap (λ t. line_of op t ∷ rest) (sym is_told)

pub told_lines-end : (ops : List Op) (tolds : List Told) (i : ℕ) → length ops ≤ i → told_lines (drop i ops) (drop i tolds) ≡ []
told_lines-end ops tolds i past = ap (λ os. told_lines os (drop i tolds)) (drop_all i ops past)

-- none is left where the operations or the answers end
pub told_lines-past : (ops : List Op) (tolds : List Told) (i : ℕ) → i ≡ min (length ops) (length tolds)
    → told_lines (drop i ops) (drop i tolds) ≡ []
told_lines-past ops tolds i past =
    elim (cases_lt i (length ops)) [
      | inl more ↦ ap (told_lines (drop i ops)) (drop_all i tolds (omega arith)) ∙ told_lines-none (drop i ops)
      | inr all ↦ told_lines-end ops tolds i all
    ]

module _ (room : Room) (history : List Update) where
  lower_case : (b : Bool) (low high number position : ℕ) (E : Type 0) → low ≤ high
      → MatchBool b ((number ≡ position) × (high < number)) ((high ≤ number) × (number ≤ length history) × E)
      → MatchBool b ((number ≡ position) × (low < number)) ((low ≤ number) × (number ≤ length history) × E)
  lower_case true low high number position E le h = (h.0, omega arith)
  lower_case false low high number position E le h = (omega arith, h.1, h.2)

  -- what may stand after a number may stand after a smaller one
  pub MayStand-lower : (low high : ℕ) (line : Line) (number : ℕ) → low ≤ high → MayStand room history high line number
      → MayStand room history low line number
  MayStand-lower low high line number le h = lower_case (tells_update line.reply) low high number line.number
      (Explains room (map_at history number) line.op line.reply) le h

  pub MayStandBeside-lower : (low high : ℕ) (lines : List Line) (numbers : List ℕ) → low ≤ high
      → MayStandBeside room history high lines numbers → MayStandBeside room history low lines numbers
  MayStandBeside-lower low high [] [] le h = h
  MayStandBeside-lower low high (line ∷ lines) (n ∷ ns) le h = (MayStand-lower low high line n le h.0, h.1)
  MayStandBeside-lower low high _ _ le h = h

  -- numbers may stand beside lines, after a number
  abbrev pub Can : ℕ → List Line → Type 0
  Can before lines = (numbers : List ℕ) × MayStandBeside room history before lines numbers

  rest_numbered : (before : ℕ) (line : Line) (lines : List Line) (numbers : List ℕ) (number : ℕ)
      → IsLeastFor room history before line number → MayStandBeside room history before (line ∷ lines) numbers → Can number lines
  rest_numbered before line lines [] number least h = absurd h
  rest_numbered before line lines (n ∷ ns) number least h = (ns, MayStandBeside-lower number n lines ns (least.1 n h.0) h.1)

  -- the least number leaves the others possible
  pub Can-rest : (before : ℕ) (line : Line) (lines : List Line) (number : ℕ) → IsLeastFor room history before line number
      → Can before (line ∷ lines) → Can number lines
  Can-rest before line lines number least h = rest_numbered before line lines h.0 number least h.1

  -- a number more at the front
  pub Can-more : (before : ℕ) (line : Line) (lines : List Line) (number : ℕ) → MayStand room history before line number → Can number lines
      → Can before (line ∷ lines)
  Can-more before line lines number stands h = (number ∷ h.0, (stands, h.1))

  -- a line more at the end of the numbered ones
  pub AreNumbered-next : (before : ℕ) (told line : Line) (left rest : List Line) → line.op ≡ told.op → line.reply ≡ told.reply
      → IsLeastFor room history before told line.number → AreNumbered room history line.number left rest
      → AreNumbered room history before (told ∷ left) (line ∷ rest)
  AreNumbered-next before told line left rest op reply least h = (op, reply, least, h)

-- The scripts' lines, one script after another.

-- a script has at most as many operations as all of them
pub length-le-op_count : (scripts : List (List Op)) (i : ℕ) (script : List Op) → slice_get scripts i ≡ Some script
    → length script ≤ op_count scripts
length-le-op_count scripts i script there =
    let le = get_or-le-sum_by length scripts i [] (slice_get_within scripts i script there) in
    omega (arith, ap length (get_or_from_slice_get scripts i script [] there))

-- the lines that are left, from script i on
abbrev pub lines_left : List (List Op) → List (Roomy Told) → ℕ → List (List Line)
lines_left scripts told i = all_told_lines (drop i scripts) (entries_of (drop i told))

module _ (scripts : List (List Op)) (told : List (Roomy Told)) (i : ℕ) (script : List Op) (list : Roomy Told)
    (there : slice_get scripts i ≡ Some script) (below : i < length told) (is : list ≡ get_or told i list) where
  pub lines_left-turn : lines_left scripts told i ≡ told_lines script list.entries ∷ lines_left scripts told (i + 1)
  lines_left-turn = rw (drop-there scripts i script there, drop-read told i list below is) refl

  -- the script's answers are as many as its operations, and so in the other scripts
  pub SameLengths-turn : length list.entries ≡ length script → SameLengths scripts told (i + 1) → SameLengths scripts told i
  SameLengths-turn same rest = rw (drop-there scripts i script there, drop-read told i list below is) (λ k. same k ∷ rest k)

pub SameLengths-end : (scripts : List (List Op)) (told : List (Roomy Told)) (i : ℕ) → length scripts ≤ i → length told ≤ i
    → SameLengths scripts told i
SameLengths-end scripts told i past also = rw (drop_all i scripts past, drop_all i told also) refl

pub lines_left-end : (scripts : List (List Op)) (told : List (Roomy Told)) (i : ℕ) → length scripts ≤ i → lines_left scripts told i ≡ []
lines_left-end scripts told i past = ap (λ ss. all_told_lines ss (entries_of (drop i told))) (drop_all i scripts past)

-- Scripts that are explained one by one are explained as a whole, where no update is of another caller.

-- a list with or without another element at its front, where it is empty
tail_none : {X : Type 0} (b : Bool) (x : X) (xs : List X) → cond b (x ∷ xs) xs ≡ [] → xs ≡ []
tail_none true x xs none = absurd (cc)
tail_none false x xs none = none

some_there : {X : Type 0} (b : Bool) (x : X) (xs : List X) → b ≡ true → cond b (x ∷ xs) xs ≡ [] → ⊥
some_there true x xs is none = absurd (cc)
some_there false x xs is none = absurd (cc)

abbrev pub AreBelow : ℕ → List Update → Type 0
AreBelow n us = All (λ u. u.caller < n) us

module _ (n : ℕ) where
  -- a caller past the others has no update
  none_own : (us : List Update) (position caller : ℕ) → AreBelow n us → n ≤ caller → own_updates_from position caller us ≡ []
  none_own [] position caller all past = refl
  none_own (u ∷ us) position caller all past =
      let below : u.caller < n = all 0 u (omega arith) in
      let other : (u.caller == caller) ≡ false = grind (arith, nat_tests) in
      ap (λ b. cond b (record { position = position; op = u.op } ∷ own_updates_from (position + 1) caller us)
      (own_updates_from (position + 1) caller us)) other
      ∙ none_own us (position + 1) caller (λ k d h. all (suc k) d (omega arith)) past

  -- where no caller past the others has an update, all are of those
  below_from_none : (us : List Update) (position : ℕ) → ((caller : ℕ) → n ≤ caller → own_updates_from position caller us ≡ [])
      → AreBelow n us
  below_from_none [] position none = λ k d h. absurd (omega (arith, h))
  below_from_none (u ∷ us) position none =
      elim [
        | zero ↦ λ d h. elim (cases_lt u.caller n) [
          | inl lt ↦ lt
          | inr past ↦
              let own : (u.caller == u.caller) ≡ true = grind (arith, nat_tests) in
              absurd (some_there (u.caller == u.caller) (record { position = position; op = u.op })
              (own_updates_from (position + 1) u.caller us) own (none u.caller past))
        ]
        | suc k ↦ λ d h. below_from_none us (position + 1)
            (λ caller past. tail_none (u.caller == caller) (record { position = position; op = u.op })
            (own_updates_from (position + 1) caller us) (none caller past)) k d (omega (arith, h))
      ]

module _ (room : Room) (history : List Update) where
  -- each script is explained, where the first of these has this caller
  abbrev pub AreAllExplained : ℕ → List (List Line) → Type 0
  AreAllExplained caller [] = Unit {0}
  AreAllExplained caller (lines ∷ lists) = IsScriptExplained room history caller lines × AreAllExplained (caller + 1) lists

  -- each script's updates are told
  abbrev AreOwnTold : ℕ → List (List Line) → Type 0
  AreOwnTold caller lists = (k : ℕ) → k < length lists → own_updates (caller + k) history ≡ told_updates (get_or lists k [])

  all_from : (lists : List (List Line)) (caller : ℕ) → AreOwnTold caller lists → AllByRecursion (AllByRecursion (IsConfirmed history)) lists
      → AllByRecursion (CanBeNumbered room history) lists → AreAllExplained caller lists
  all_from [] caller updates confirmed fronts = tt
  all_from (lines ∷ lists) caller updates confirmed fronts =
      let first : caller + 0 ≡ caller = omega arith in
      let more : (k : ℕ) → caller + suc k ≡ caller + 1 + k = λ k. omega arith in (
        record {
          updates = subst (λ n. own_updates n history ≡ told_updates lines) first (updates 0 (omega arith));
          confirmed = confirmed.0;
          fronts = fronts.0;
        },
        all_from lists (caller + 1) (λ k below. subst (λ n. own_updates n history ≡ told_updates (get_or lists k [])) (more k)
            (updates (suc k) (omega (arith, below)))) confirmed.1 fronts.1,
      )

  updates_of : (lists : List (List Line)) (caller : ℕ) → AreAllExplained caller lists → AreOwnTold caller lists
  updates_of [] caller all = λ k below. absurd (omega (arith, below))
  updates_of (lines ∷ lists) caller all =
      elim [
        | zero ↦ λ below. let first : caller ≡ caller + 0 = omega arith in
            subst (λ n. own_updates n history ≡ told_updates lines) first all.0.updates
        | suc k ↦ λ below.
            let more : caller + 1 + k ≡ caller + suc k = omega arith in
            subst (λ n. own_updates n history ≡ told_updates (get_or lists k [])) more
            (updates_of lists (caller + 1) all.1 k (omega (arith, below)))
      ]

  confirmed_of : (lists : List (List Line)) (caller : ℕ) → AreAllExplained caller lists
      → AllByRecursion (AllByRecursion (IsConfirmed history)) lists
  confirmed_of [] caller all = tt
  confirmed_of (lines ∷ lists) caller all = (all.0.confirmed, confirmed_of lists (caller + 1) all.1)

  fronts_of : (lists : List (List Line)) (caller : ℕ) → AreAllExplained caller lists → AllByRecursion (CanBeNumbered room history) lists
  fronts_of [] caller all = tt
  fronts_of (lines ∷ lists) caller all = (all.0.fronts, fronts_of lists (caller + 1) all.1)

  AreExplained-from_all : (lists : List (List Line)) → AreBelow (length lists) history → AreAllExplained 0 lists
      → AreExplained room history lists
  AreExplained-from_all lists below all = record {
    updates = λ c. elim (cases_lt c (length lists)) [
      | inl lt ↦ let zero_more : 0 + c ≡ c = omega arith in
          subst (λ n. own_updates n history ≡ told_updates (get_or lists c [])) zero_more (updates_of lists 0 all c lt)
      | inr past ↦ none_own (length lists) history 1 c below past ∙ sym (ap told_updates (get_or_past lists c [] past))
    ];
    confirmed = confirmed_of lists 0 all;
    fronts = fronts_of lists 0 all;
  }

  all_from_explained : (lists : List (List Line)) → AreExplained room history lists → AreAllExplained 0 lists
  all_from_explained lists explained =
      all_from lists 0 (λ k lt. let zero_more : k ≡ 0 + k = omega arith in
      subst (λ n. own_updates n history ≡ told_updates (get_or lists k [])) zero_more
      (explained.updates k)) explained.confirmed explained.fronts

  below_from_explained : (lists : List (List Line)) → AreExplained room history lists → AreBelow (length lists) history
  below_from_explained lists explained = below_from_none (length lists) history 1
      (λ c past. explained.updates c ∙ ap told_updates (get_or_past lists c [] past))

count_lines : (scripts : List (List Op)) (tolds : List (List Told)) → map length tolds ≡ map length scripts
    → length (all_told_lines scripts tolds) ≡ length scripts
count_lines [] tolds same = refl
count_lines (script ∷ scripts) [] same = absurd (cc)
count_lines (script ∷ scripts) (told ∷ tolds) same =
    let tail : map length tolds ≡ map length scripts = cc in
    ap suc (count_lines scripts tolds tail)

module _ (scripts : List (List Op)) (tolds : List (List Told)) (history : List Update) (slots : ℕ) where
  abbrev room : Room
  room = record { scripts = length scripts; slots = slots }

  -- where each operation is answered and no update is of another caller, the scripts can be looked at one by one
  pub AreExplainable-one_by_one : map length tolds ≡ map length scripts → AreBelow (length scripts) history
      → AreAllExplained room history 0 (all_told_lines scripts tolds) ↔ AreExplainable scripts tolds history slots
  AreExplainable-one_by_one same below =
      let count = count_lines scripts tolds same in
      let lines_below : AreBelow (length (all_told_lines scripts tolds)) history = subst (λ n. AreBelow n history) (sym count) below in (
        λ all. record { lengths = same; explained = AreExplained-from_all room history (all_told_lines scripts tolds) lines_below all },
        λ able. all_from_explained room history (all_told_lines scripts tolds) able.explained,
      )

  pub below_from_explainable : AreExplainable scripts tolds history slots → AreBelow (length scripts) history
  below_from_explainable able = subst (λ n. AreBelow n history) (count_lines scripts tolds able.lengths)
      (below_from_explained room history (all_told_lines scripts tolds) able.explained)

-- a room of so many scripts
pub room_of : (shared : Room) (count : ℕ) → shared.scripts ≡ count → record { scripts = count; slots = shared.slots } ≡ shared
room_of shared count is = λ i. record { scripts = sym is i; slots = shared.slots }

-- the same where the scripts' number is that of a room
pub AreExplainable-by_room : (scripts : List (List Op)) (tolds : List (List Told)) (history : List Update) (shared : Room)
    → shared.scripts ≡ length scripts → map length tolds ≡ map length scripts → AreBelow (length scripts) history
    → AreAllExplained shared history 0 (all_told_lines scripts tolds) ↔ AreExplainable scripts tolds history shared.slots
AreExplainable-by_room scripts tolds history shared is same below =
    subst (λ r. AreAllExplained r history 0 (all_told_lines scripts tolds) ↔ AreExplainable scripts tolds history shared.slots)
    (room_of shared (length scripts) is) (AreExplainable-one_by_one scripts tolds history shared.slots same below)

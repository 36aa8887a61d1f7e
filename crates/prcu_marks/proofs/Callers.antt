-- Calls of clients: their chains, what the lines of one caller fit, histories that grow, and runs of scripts.
use Rattle.std.proofs.Common.{◌≡◌, ℕ, ◌+◌, ◌≤◌, List, [], ◌∷◌, ◌++◌, length, refl, sym, ap, subst, arith, append_assoc, append-nil, zero, suc, ◌-◌, ◌<◌, ◌==◌, Bool, true, false, cond, MatchBool, IsTrue, Some, ◌∙◌, inl, inr, length-append, eq-eqb, Option, take_all, get_or, map}
use Rattle.prcu_model.specs.declared.operation.Op.{Op}
use Rattle.prcu_model.specs.declared.operation.Told.{Told}
use Rattle.prcu_marks.specs.Callers.{IsChain, Caller, HasSeenItsOwn, IsLeftBy, entered_for, WaitsFor, HasMadeUpdate, WasExplained, HasAnswered, MeetsFronts, asking, FitsScript, FitsScripts}
use Rattle.std.specs.List.{AllByRecursion, slice_get}
use Rattle.std.proofs.lemmas.Bool.{false≢true, eqb-true, cases_lt}
use Rattle.std.proofs.lemmas.List.{append_cancel_left, take-append-le, get_or_past}
use Rattle.std.proofs.lemmas.Option.{slice_get_within}
use mathlib.Core.List.{IsPrefix}
use Rattle.prcu_marks.specs.declared.mark.Mark.{Mark}
use Rattle.prcu_marks.specs.declared.mark.Mark.TheVariants.{Entered, Began}
use Rattle.prcu_model.specs.declared.operation.Reply.{Reply}
use Rattle.prcu_model.specs.declared.operation.Line.{Line}
use Rattle.prcu_model.specs.declared.operation.Update.{Update}
use Rattle.prcu_model.specs.Dictionary.{Dictionary, key_of, map_of, map_at, Confirms, tells_update, WasSaid, updated, updated_all, IsUpdateAt, AreUpdatesFrom, IsLegal}
use Rattle.prcu_marks.specs.Marks.{updates_of, is_of, own_of}
use Rattle.prcu_model.specs.Fronts.{told_lines, own_updates, own_updates_from, told_updates, IsConfirmed, MayStandBy, MayStandBesideBy, all_told_lines}
use Rattle.prcu_model.proofs.ListFacts.{prefix_self, prefix_trans, all_map, all_append}
use Rattle.prcu_marks.proofs.Marks.{updates_of-append, own_of-append, own_updates_from-append, no_own_update, one_own_update, left_is_of, own_of-all, entered_for-append}
use Rattle.std.specs.FinMap as finite

-- What holds of chains of calls, whatever the client.

module _ {C : Type 0} (made : C → Op → Told → C → Type 0) where
  -- what holds of the calls so far and of the client that they leave, and is kept by each call, is kept by the chain
  pub chain_carries : (P : List Op → List Told → C → Type 0)
      → ((ops : List Op) (tolds : List Told) (before : C) (op : Op) (told : Told) (after : C) → P ops tolds before
      → made before op told after → P (ops ++ op ∷ []) (tolds ++ told ∷ []) after)
      → (earlier_ops : List Op) (earlier_tolds : List Told) (ops : List Op) (tolds : List Told) (before after : C)
      → P earlier_ops earlier_tolds before → IsChain made before ops tolds after → P (earlier_ops ++ ops) (earlier_tolds ++ tolds) after
  chain_carries P keeps earlier_ops earlier_tolds [] [] before after holds chain =
      simp append-nil (subst (λ (client : C). P earlier_ops earlier_tolds client) (sym chain) holds)
  chain_carries P keeps earlier_ops earlier_tolds (op ∷ ops) (told ∷ tolds) before after holds chain =
      let rest = chain_carries P keeps (earlier_ops ++ op ∷ []) (earlier_tolds ++ told ∷ []) ops tolds chain.0 after
      (keeps earlier_ops earlier_tolds before op told chain.0 holds chain.1) chain.2 in
      simp append_assoc at rest
  chain_carries P keeps earlier_ops earlier_tolds _ _ before after holds chain = absurd chain

  -- what each call keeps the chain keeps
  pub chain_keeps : (P : C → Type 0) → ((before : C) (op : Op) (told : Told) (after : C) → P before → made before op told after → P after)
      → (ops : List Op) (tolds : List Told) (before after : C) → P before → IsChain made before ops tolds after → P after
  chain_keeps P keeps ops tolds before after = chain_carries (λ _ _ client. P client) (λ _ _. keeps) [] [] ops tolds before after

  -- a chain, and one from where it ends
  pub chain_append : (ops : List Op) (tolds : List Told) (more_ops : List Op) (more_tolds : List Told) (before middle after : C)
      → IsChain made before ops tolds middle → IsChain made middle more_ops more_tolds after
      → IsChain made before (ops ++ more_ops) (tolds ++ more_tolds) after
  chain_append [] [] more_ops more_tolds before middle after first second =
      subst (λ (client : C). IsChain made client more_ops more_tolds after) first second
  chain_append (op ∷ ops) (told ∷ tolds) more_ops more_tolds before middle after first second =
      (first.0, first.1, chain_append ops tolds more_ops more_tolds first.0 middle after first.2 second)
  chain_append _ _ more_ops more_tolds before middle after first second = absurd first

  -- a chain, and one more call
  pub chain_push : (ops : List Op) (tolds : List Told) (op : Op) (told : Told) (before middle after : C)
      → IsChain made before ops tolds middle → made middle op told after → IsChain made before (ops ++ op ∷ []) (tolds ++ told ∷ []) after
  chain_push ops tolds op told before middle after chain call =
      chain_append ops tolds (op ∷ []) (told ∷ []) before middle after chain (after, call, refl)

-- A chain of calls of one caller: the lines that it tells of fit the updates that the caller has seen.

-- ---- more updates

-- the dictionary at a front doesn't change with later updates
pub map_at-longer : (us more : List Update) (front : ℕ) → front ≤ length us → map_at (us ++ more) front ≡ map_at us front
map_at-longer us more front within = ap map_of (take-append-le front us more within)

pub slice_get-longer : (us more : List Update) (i : ℕ) (u : Update) → slice_get us i ≡ Some u → slice_get (us ++ more) i ≡ Some u
slice_get-longer [] more i u there = absurd (cc)
slice_get-longer (v ∷ us) more zero u there = there
slice_get-longer (v ∷ us) more (suc i) u there = slice_get-longer us more i u there

-- what stands behind a list
pub slice_get-past : (us more : List Update) (i : ℕ) (u : Update) → slice_get (us ++ more) i ≡ Some u → length us ≤ i
    → slice_get more (i - length us) ≡ Some u
slice_get-past [] more i u there past = (let e : i - 0 ≡ i = omega arith in rw e there)
slice_get-past (v ∷ us) more zero u there past = absurd (omega arith)
slice_get-past (v ∷ us) more (suc i) u there past =
    (let e : suc i - suc (length us) ≡ i - length us = omega arith in rw e (slice_get-past us more i u there (omega arith)))

module _ (explains : Dictionary → Op → Reply → Type 0) (us more : List Update) where
  MayStandBy-longer : (before : ℕ) (line : Line) (number : ℕ) → MayStandBy explains us before line number
      → MayStandBy explains (us ++ more) before line number
  MayStandBy-longer before line number may =
      elim (tells_update line.reply) as (λ b. MatchBool b ((number ≡ line.number) × (before < number))
      ((before ≤ number) × (number ≤ length us) × explains (map_at us number) line.op line.reply)
      → MatchBool b ((number ≡ line.number) × (before < number))
      ((before ≤ number) × (number ≤ length (us ++ more)) × explains (map_at (us ++ more) number) line.op line.reply)) [
        | true ↦ λ m. m
        | false ↦ λ m. (
          m.0,
          (let within = m.1 in omega (arith, length-append us more)),
          subst (λ d. explains d line.op line.reply) (sym (map_at-longer us more number m.1)) m.2,
        )
      ] may

  pub MayStandBesideBy-longer : (before : ℕ) (lines : List Line) (numbers : List ℕ) → MayStandBesideBy explains us before lines numbers
      → MayStandBesideBy explains (us ++ more) before lines numbers
  MayStandBesideBy-longer before [] [] beside = tt
  MayStandBesideBy-longer before (line ∷ lines) (number ∷ numbers) beside =
      (MayStandBy-longer before line number beside.0, MayStandBesideBy-longer number lines numbers beside.1)
  MayStandBesideBy-longer before _ _ beside = absurd beside

-- An update that the line tells of is confirmed, and its number is one of the history.
pub record IsSettled (history : List Update) (line : Line) : Type 0 where
  pub confirmed : IsConfirmed history line
  pub within : IsTrue (tells_update line.reply) → line.number ≤ length history

pub settled_longer : (us more : List Update) (line : Line) → IsSettled us line → IsSettled (us ++ more) line
settled_longer us more line s = record {
  confirmed = λ tells. let within = s.within tells in
      subst (λ d. Confirms d line.op line.reply) (sym (map_at-longer us more (line.number - 1) (omega arith))) (s.confirmed tells);
  within = λ tells. let within = s.within tells in omega (arith, length-append us more);
}

pub waits_longer : (us more : List Update) (m : Mark) → WaitsFor us m → WaitsFor (us ++ more) m
waits_longer us more (Began p c low high) (inl all) = inl all
waits_longer us more (Began p c low high) (inr move) = inr (record {
  position = move.position;
  key = move.key;
  update = slice_get-longer us more move.position _ move.update;
  low_is = move.low_is;
  next =
      let below = slice_get_within us move.position _ move.update in
      let same = map_at-longer us more move.position (omega arith) in
      record {
        above = move.next.above;
        there = subst (λ d. finite.contains_key d high ≡ true) (sym same) move.next.there;
        least = λ other more_key has. move.next.least other more_key (subst (λ d. finite.contains_key d other ≡ true) same has);
      };
})
waits_longer us more _ w = tt

-- ---- one more line

told_lines-snoc : (ops : List Op) (tolds : List Told) (op : Op) (told : Told) → length tolds ≡ length ops
    → told_lines (ops ++ op ∷ []) (tolds ++ told ∷ []) ≡ told_lines ops tolds
    ++ record { op = op; reply = told.reply; number = told.number } ∷ []
told_lines-snoc [] [] op told same = refl
told_lines-snoc (o ∷ ops) (t ∷ tolds) op told same =
    ap (λ xs. record { op = o; reply = t.reply; number = t.number } ∷ xs) (told_lines-snoc ops tolds op told (omega (arith, same)))
told_lines-snoc _ _ op told same = absurd (omega (arith, same))

told_updates-snoc : (lines : List Line) (line : Line)
    → told_updates (lines ++ line ∷ []) ≡ told_updates lines
    ++ cond (tells_update line.reply) (record { position = line.number; op = line.op } ∷ []) []
told_updates-snoc [] line = refl
told_updates-snoc (l ∷ lines) line =
    elim (tells_update l.reply) as (λ b. cond b (record { position = l.number; op = l.op } ∷ told_updates (lines ++ line ∷ []))
    (told_updates (lines ++ line ∷ []))
    ≡ cond b (record { position = l.number; op = l.op } ∷ told_updates lines) (told_updates lines)
    ++ cond (tells_update line.reply) (record { position = line.number; op = line.op } ∷ []) []) [
      | true ↦ ap (λ xs. record { position = l.number; op = l.op } ∷ xs) (told_updates-snoc lines line)
      | false ↦ told_updates-snoc lines line
    ]

-- the last of numbers, or the one before them
abbrev pub last_number : ℕ → List ℕ → ℕ
last_number before [] = before
last_number before (number ∷ numbers) = last_number number numbers

last_number-snoc : (before : ℕ) (numbers : List ℕ) (number : ℕ) → last_number before (numbers ++ number ∷ []) ≡ number
last_number-snoc before [] number = refl
last_number-snoc before (n ∷ numbers) number = last_number-snoc n numbers number

MayStandBesideBy-snoc : (explains : Dictionary → Op → Reply → Type 0) (us : List Update) (before : ℕ) (lines : List Line) (numbers : List ℕ)
    (line : Line) (number : ℕ)
    → MayStandBesideBy explains us before lines numbers → MayStandBy explains us (last_number before numbers) line number
    → MayStandBesideBy explains us before (lines ++ line ∷ []) (numbers ++ number ∷ [])
MayStandBesideBy-snoc explains us before [] [] line number beside may = (may, tt)
MayStandBesideBy-snoc explains us before (l ∷ lines) (n ∷ numbers) line number beside may =
    (beside.0, MayStandBesideBy-snoc explains us n lines numbers line number beside.1 may)
MayStandBesideBy-snoc explains us before _ _ line number beside may = absurd beside

asking-snoc : (key : ℕ) (ops : List Op) (op : Op) → asking key (ops ++ op ∷ []) ≡ asking key ops + cond (key_of op == key) 1 0
asking-snoc key [] op = omega arith
asking-snoc key (o ∷ ops) op = let rest = asking-snoc key ops op in omega arith

-- a section's key is one that the operations ask for
abbrev pub IsAskedBy : List Op → Mark → Type 0
IsAskedBy ops (Entered p c x) = 1 ≤ asking x ops
IsAskedBy ops _ = Unit {0}

asked_more : (ops : List Op) (op : Op) (m : Mark) → IsAskedBy ops m → IsAskedBy (ops ++ op ∷ []) m
asked_more ops op (Entered p c x) a = omega (arith, asking-snoc x ops op)
asked_more ops op _ a = tt

asked_last : (place : ℕ) (ops : List Op) (op : Op) (m : Mark) → IsLeftBy place (key_of op) m → IsAskedBy (ops ++ op ∷ []) m
asked_last place ops op (Entered p c x) left =
    let here : asking x (ops ++ op ∷ []) ≡ asking x ops + 1 =
    asking-snoc x ops op ∙ ap (λ b. asking x ops + cond b 1 0) (eq-eqb (key_of op) x (sym left.1)) in
    omega (arith, here)
asked_last place ops op _ left = tt

-- ---- the chain

-- What a caller's calls so far have left, from a caller whose place had made no update: its updates are those that the lines
-- tell of, each line has its front or position, and the marks are those of the operations.
pub record HasTold (explains : Dictionary → Op → Reply → Type 0) (start : Caller) (ops : List Op) (tolds : List Told)
    (c : Caller) : Type 0 where
  pub lengths : length tolds ≡ length ops
  pub place : c.place ≡ start.place
  pub marks : List Mark
  pub own : c.own ≡ start.own ++ marks
  pub since : IsPrefix start.seen c.seen
  pub met : HasSeenItsOwn c
  pub updates : own_updates start.place (updates_of c.seen) ≡ told_updates (told_lines ops tolds)
  pub settled : AllByRecursion (IsSettled (updates_of c.seen)) (told_lines ops tolds)
  pub numbers : List ℕ
  pub beside : MayStandBesideBy explains (updates_of c.seen) 0 (told_lines ops tolds) numbers
  pub ends : last_number 0 numbers ≤ length (updates_of c.seen)
  pub mine : AllByRecursion (λ m. is_of start.place m ≡ true) marks
  pub asked : AllByRecursion (IsAskedBy ops) marks
  pub enough : (key : ℕ) → asking key ops ≤ entered_for start.place key marks
  pub waits : AllByRecursion (WaitsFor (updates_of c.seen)) marks

module _ (explains : Dictionary → Op → Reply → Type 0) (start : Caller) where
  pub told_nothing : HasSeenItsOwn start → own_updates start.place (updates_of start.seen) ≡ [] → HasTold explains start [] [] start
  told_nothing met none = record {
    lengths = refl;
    place = refl;
    marks = [];
    own = sym (append-nil start.own);
    since = prefix_self start.seen;
    met = met;
    updates = none;
    settled = tt;
    numbers = [];
    beside = tt;
    ends = omega arith;
    mine = tt;
    asked = tt;
    enough = λ key. omega arith;
    waits = tt;
  }

  module _ (ops : List Op) (tolds : List Told) (c : Caller) (so_far : HasTold explains start ops tolds c) (op : Op) (told : Told)
      (d : Caller) (answered : HasAnswered explains c op told d) where
    abbrev line : Line
    line = record { op = op; reply = told.reply; number = told.number }

    abbrev us : List Update
    us = updates_of c.seen

    abbrev rest : List Mark
    rest = answered.since.0

    seen_is : updates_of d.seen ≡ updates_of c.seen ++ updates_of answered.since.0
    seen_is = ap updates_of (sym answered.since.1) ∙ updates_of-append c.seen answered.since.0

    mine_now : AllByRecursion (λ m. is_of start.place m ≡ true) answered.marks
    mine_now = all_map (IsLeftBy c.place (key_of op)) (λ m. is_of start.place m ≡ true) answered.marks
        (λ m left. subst (λ p. is_of p m ≡ true) so_far.place (left_is_of c.place (key_of op) m left)) answered.keyed

    -- what was seen since has just the marks of the place that the call left
    rest_own : own_of start.place answered.since.0 ≡ answered.marks
    rest_own =
        let p : ℕ = start.place in
        let before : own_of start.place c.seen ≡ own_of start.place c.own =
        subst (λ q. own_of q c.seen ≡ own_of q c.own) so_far.place so_far.met in
        let after : own_of start.place d.seen ≡ own_of start.place d.own =
        subst (λ q. own_of q d.seen ≡ own_of q d.own) (answered.place ∙ so_far.place) answered.met in
        append_cancel_left (own_of start.place c.own) (own_of start.place answered.since.0) answered.marks
        (ap (λ xs. xs ++ own_of start.place answered.since.0) (sym before) ∙ sym (own_of-append start.place c.seen answered.since.0)
        ∙ ap (own_of start.place) answered.since.1 ∙ after
        ∙ ap (own_of start.place) answered.own ∙ own_of-append start.place c.own answered.marks
        ∙ ap (λ xs. own_of start.place c.own ++ xs) (own_of-all start.place answered.marks mine_now))

    own_is : own_updates start.place (updates_of d.seen) ≡ own_updates start.place (updates_of c.seen)
        ++ own_updates_from (1 + length (updates_of c.seen)) start.place (updates_of answered.since.0)
    own_is = ap (own_updates start.place) seen_is ∙ own_updates_from-append 1 start.place (updates_of c.seen) (updates_of answered.since.0)

    lines_are : told_lines (ops ++ op ∷ []) (tolds ++ told ∷ []) ≡ told_lines ops tolds
        ++ record { op = op; reply = told.reply; number = told.number } ∷ []
    lines_are = told_lines-snoc ops tolds op told so_far.lengths

    -- the update that the call made, where it told of one
    own_now : (b : Bool) → tells_update told.reply ≡ b
        → MatchBool b (HasMadeUpdate c op told answered.marks d.seen) (WasExplained explains c op told answered.marks d.seen)
        → own_updates_from (1 + length (updates_of c.seen)) start.place (updates_of answered.since.0)
        ≡ cond b (record { position = told.number; op = op } ∷ []) []
    own_now true is made =
        let later = made.later in
        let there : slice_get (updates_of answered.since.0) (told.number - 1 - length (updates_of c.seen))
        ≡ Some (record { caller = c.place; op = op }) =
        slice_get-past (updates_of c.seen) (updates_of answered.since.0) (told.number - 1) (record { caller = c.place; op = op })
        (subst (λ z. slice_get z (told.number - 1) ≡ Some (record { caller = c.place; op = op })) seen_is made.stands) (omega arith) in
        let at : 1 + length (updates_of c.seen) + (told.number - 1 - length (updates_of c.seen)) ≡ told.number = omega arith in
        one_own_update start.place (1 + length (updates_of c.seen)) (told.number - 1 - length (updates_of c.seen)) answered.since.0
        (record { caller = c.place; op = op }) (record { caller = c.place; op = op })
        (ap updates_of rest_own ∙ made.left) there so_far.place
        ∙ (λ i. record { position = at i; op = op } ∷ [])
    own_now false is explained = no_own_update start.place (1 + length (updates_of c.seen)) answered.since.0
        (ap updates_of rest_own ∙ explained.left)

    updates_now : own_updates start.place (updates_of d.seen) ≡ told_updates (told_lines (ops ++ op ∷ []) (tolds ++ told ∷ []))
    updates_now =
        own_is ∙ ap (λ xs. xs ++ own_updates_from (1 + length (updates_of c.seen)) start.place (updates_of answered.since.0)) so_far.updates
        ∙ ap (λ xs. told_updates (told_lines ops tolds) ++ xs) (own_now (tells_update told.reply) refl answered.reply)
        ∙ sym (ap told_updates lines_are ∙ told_updates-snoc (told_lines ops tolds)
        (record { op = op; reply = told.reply; number = told.number }))

    -- the line's number, and that it may stand
    number_now : (b : Bool) → tells_update told.reply ≡ b
        → MatchBool b (HasMadeUpdate c op told answered.marks d.seen) (WasExplained explains c op told answered.marks d.seen)
        → (number : ℕ) × MatchBool b ((number ≡ told.number) × (last_number 0 so_far.numbers < number))
        ((last_number 0 so_far.numbers ≤ number) × (number ≤ length (updates_of d.seen))
        × explains (map_at (updates_of d.seen) number) op told.reply) × (number ≤ length (updates_of d.seen))
    number_now true is made =
        let later = made.later in let ends = so_far.ends in
        let inside = slice_get_within (updates_of d.seen) (told.number - 1) _ made.stands in
        (told.number, (refl, omega arith), omega arith)
    number_now false is explained = let since = explained.since in let ends = so_far.ends in
        (explained.front, (omega arith, explained.until, explained.explained), explained.until)

    settled_now : (b : Bool) → tells_update told.reply ≡ b
        → MatchBool b (HasMadeUpdate c op told answered.marks d.seen) (WasExplained explains c op told answered.marks d.seen)
        → IsSettled (updates_of d.seen) (record { op = op; reply = told.reply; number = told.number })
    settled_now true is made = record {
      confirmed = λ tells. made.confirms;
      within = λ tells. let inside = slice_get_within (updates_of d.seen) (told.number - 1) _ made.stands in omega arith;
    }
    settled_now false is explained = record {
      confirmed = λ tells. absurd (false≢true (sym is ∙ tells));
      within = λ tells. absurd (false≢true (sym is ∙ tells));
    }

    enough_now : (key : ℕ) → asking key (ops ++ op ∷ []) ≤ entered_for start.place key (so_far.marks ++ answered.marks)
    enough_now key =
        let before = so_far.enough key in
        let split = entered_for-append start.place key so_far.marks answered.marks in
        let one = asking-snoc key ops op in
        let entered : 1 ≤ entered_for start.place (key_of op) answered.marks =
        subst (λ p. 1 ≤ entered_for p (key_of op) answered.marks) so_far.place answered.entered in
        let here : cond (key_of op == key) 1 0 ≤ entered_for start.place key answered.marks =
        elim (key_of op == key) as (λ b. (key_of op == key) ≡ b → cond b 1 0 ≤ entered_for start.place key answered.marks) [
          | true ↦ λ e. subst (λ k. 1 ≤ entered_for start.place k answered.marks) (eqb-true (key_of op) key e) entered
          | false ↦ λ e. omega arith
        ] refl in
        omega (arith, before, split, one, here)

    pub told_more : HasTold explains start (ops ++ op ∷ []) (tolds ++ told ∷ []) d
    told_more =
        let number = number_now (tells_update told.reply) refl answered.reply in
        let longer : AllByRecursion (IsSettled (updates_of d.seen)) (told_lines ops tolds) =
        subst (λ z. AllByRecursion (IsSettled z) (told_lines ops tolds)) (sym seen_is)
        (all_map (IsSettled (updates_of c.seen)) (IsSettled (updates_of c.seen ++ updates_of answered.since.0)) (told_lines ops tolds)
        (settled_longer (updates_of c.seen) (updates_of answered.since.0)) so_far.settled) in
        let beside : MayStandBesideBy explains (updates_of d.seen) 0 (told_lines ops tolds) so_far.numbers =
        subst (λ z. MayStandBesideBy explains z 0 (told_lines ops tolds) so_far.numbers) (sym seen_is)
        (MayStandBesideBy-longer explains (updates_of c.seen) (updates_of answered.since.0) 0
        (told_lines ops tolds) so_far.numbers so_far.beside) in
        record {
          lengths = omega (arith, so_far.lengths, length-append ops (op ∷ []), length-append tolds (told ∷ []));
          place = answered.place ∙ so_far.place;
          marks = so_far.marks ++ answered.marks;
          own = answered.own ∙ ap (λ xs. xs ++ answered.marks) so_far.own ∙ append_assoc start.own so_far.marks answered.marks;
          since = prefix_trans start.seen c.seen d.seen so_far.since answered.since;
          met = answered.met;
          updates = updates_now;
          settled = subst (AllByRecursion (IsSettled (updates_of d.seen))) (sym lines_are)
              (all_append (IsSettled (updates_of d.seen)) (told_lines ops tolds)
              (record { op = op; reply = told.reply; number = told.number } ∷ []) longer
              (settled_now (tells_update told.reply) refl answered.reply, tt));
          numbers = so_far.numbers ++ number.0 ∷ [];
          beside = subst (λ z. MayStandBesideBy explains (updates_of d.seen) 0 z (so_far.numbers ++ number.0 ∷ [])) (sym lines_are)
              (MayStandBesideBy-snoc explains (updates_of d.seen) 0 (told_lines ops tolds) so_far.numbers
              (record { op = op; reply = told.reply; number = told.number }) number.0 beside number.1);
          ends = subst (λ n. n ≤ length (updates_of d.seen)) (sym (last_number-snoc 0 so_far.numbers number.0)) number.2;
          mine = all_append (λ m. is_of start.place m ≡ true) so_far.marks answered.marks so_far.mine mine_now;
          asked = all_append (IsAskedBy (ops ++ op ∷ [])) so_far.marks answered.marks
              (all_map (IsAskedBy ops) (IsAskedBy (ops ++ op ∷ [])) so_far.marks (asked_more ops op) so_far.asked)
              (all_map (IsLeftBy c.place (key_of op)) (IsAskedBy (ops ++ op ∷ [])) answered.marks
              (asked_last c.place ops op) answered.keyed);
          enough = enough_now;
          waits = all_append (WaitsFor (updates_of d.seen)) so_far.marks answered.marks
              (subst (λ z. AllByRecursion (WaitsFor z) so_far.marks) (sym seen_is)
              (all_map (WaitsFor (updates_of c.seen)) (WaitsFor (updates_of c.seen ++ updates_of answered.since.0)) so_far.marks
              (waits_longer (updates_of c.seen) (updates_of answered.since.0)) so_far.waits)) answered.waits;
        }

-- A chain of calls, each of which answered, from a caller whose place had made no update.
pub chain_tells : {C : Type 0} (made : C → Op → Told → C → Type 0) (caller_of : C → Caller) (explains : Dictionary → Op → Reply → Type 0)
    → ((before : C) (op : Op) (told : Told) (after : C) → made before op told after
    → HasAnswered explains (caller_of before) op told (caller_of after))
    → (ops : List Op) (tolds : List Told) (before after : C) → HasSeenItsOwn (caller_of before)
    → own_updates (caller_of before).place (updates_of (caller_of before).seen) ≡ []
    → IsChain made before ops tolds after → HasTold explains (caller_of before) ops tolds (caller_of after)
chain_tells made caller_of explains answers ops tolds before after met none chain =
    chain_carries made (λ os ts c. HasTold explains (caller_of before) os ts (caller_of c))
    (λ os ts c op told d so_far call. told_more explains (caller_of before) os ts (caller_of c) so_far op told (caller_of d)
    (answers c op told d call))
    [] [] ops tolds before after (told_nothing explains (caller_of before) met none) chain

-- so the lines meet what is asked of one caller's
pub told_meets : (explains : Dictionary → Op → Reply → Type 0) (start : Caller) (ops : List Op) (tolds : List Told) (c : Caller)
    → HasTold explains start ops tolds c → MeetsFronts explains (updates_of c.seen) start.place (told_lines ops tolds)
told_meets explains start ops tolds c told = record {
  updates = told.updates;
  confirmed = all_map (IsSettled (updates_of c.seen)) (IsConfirmed (updates_of c.seen)) (told_lines ops tolds)
      (λ line s. s.confirmed) told.settled;
  numbers = told.numbers;
  fronts = told.beside;
}

-- A history with more updates at its end: it stays legal, what was said stays said, and what its dictionary says now.

legal_from : (m : Dictionary) (us : List Update) (u : Update) → AreUpdatesFrom m us
    → ((n : Dictionary) → n ≡ updated_all m us → IsUpdateAt n u.op) → AreUpdatesFrom m (us ++ u ∷ [])
legal_from m [] u a last = (last m refl, tt)
legal_from m (x ∷ us) u a last = (a.0, legal_from (updated m x.op) us u a.1 last)

-- a history with one more update at the end
pub legal_more : (us : List Update) (u : Update) → IsLegal us → IsUpdateAt (map_of us) u.op → IsLegal (us ++ u ∷ [])
legal_more us u legal last = legal_from finite.empty us u legal (λ n e. subst (λ z. IsUpdateAt z u.op) (sym e) last)

-- what was said stays said
pub said_longer : (us more : List Update) (key from : ℕ) (answer : Option ℕ) → WasSaid us key from answer
    → WasSaid (us ++ more) key from answer
said_longer us more key from answer said = record {
  front = said.front;
  since = said.since;
  made = (let l = length-append us more in let a = said.made in omega arith);
  answers = ap (λ z. finite.get z key) (map_at-longer us more said.front said.made) ∙ said.answers;
}

-- what the dictionary says now
pub said_now : (us : List Update) (key from : ℕ) → from ≤ length us → WasSaid us key from (finite.get (map_of us) key)
said_now us key from since = record {
  front = length us;
  since = since;
  made = omega arith;
  answers = ap (λ z. finite.get (map_of z) key) (take_all (length us) us (omega arith));
}

-- A run of scripts, each by a caller at the place of its number: what the callers' chains tell of together.

-- a caller that has left and seen nothing
abbrev pub newcomer : ℕ → Caller
newcomer place = record { place = place; own = []; seen = [] }

-- The caller of each script made its calls, and all marks begin with those that it has seen, with no others of its place.
-- Other places made no update.
pub record HaveTold (explains : Dictionary → Op → Reply → Type 0) (scripts : List (List Op)) (tolds : List (List Told))
    (marks : List Mark) : Type 0 where
  pub count : length tolds ≡ length scripts
  pub each : (i : ℕ) → i < length scripts → (c : Caller) × HasTold explains (newcomer i) (get_or scripts i []) (get_or tolds i []) c
      × IsPrefix c.seen marks × (own_of i marks ≡ own_of i c.own)
  pub others : (i : ℕ) → length scripts ≤ i → updates_of (own_of i marks) ≡ []
  pub legal : IsLegal (updates_of marks)

lines_at : (scripts : List (List Op)) (tolds : List (List Told)) (i : ℕ) → length tolds ≡ length scripts → i < length scripts
    → get_or (all_told_lines scripts tolds) i [] ≡ told_lines (get_or scripts i []) (get_or tolds i [])
lines_at [] tolds i same below = absurd (omega arith)
lines_at (s ∷ ss) [] i same below = absurd (omega (arith, same))
lines_at (s ∷ ss) (t ∷ ts) zero same below = refl
lines_at (s ∷ ss) (t ∷ ts) (suc i) same below = lines_at ss ts i (omega (arith, same)) (omega arith)

lines_count : (scripts : List (List Op)) (tolds : List (List Told)) → length tolds ≡ length scripts
    → length (all_told_lines scripts tolds) ≡ length scripts
lines_count [] [] same = refl
lines_count (s ∷ ss) (t ∷ ts) same = ap suc (lines_count ss ts (omega (arith, same)))
lines_count _ _ same = absurd (omega (arith, same))

same_lengths : (scripts : List (List Op)) (tolds : List (List Told)) → length tolds ≡ length scripts
    → ((i : ℕ) → i < length scripts → length (get_or tolds i []) ≡ length (get_or scripts i [])) → map length tolds ≡ map length scripts
same_lengths [] [] same each = refl
same_lengths (s ∷ ss) (t ∷ ts) same each = let first = each zero (omega arith) in
    let others = same_lengths ss ts (omega (arith, same)) (λ i below. each (suc i) (omega arith)) in λ j. first j ∷ others j
same_lengths _ _ same each = absurd (omega (arith, same))

-- a fact of all lists from that of each by its number
by_number : (P : List Line → Type 0) (lists : List (List Line)) → ((i : ℕ) → i < length lists → P (get_or lists i []))
    → AllByRecursion P lists
by_number P [] each = tt
by_number P (l ∷ ls) each = (each zero (omega arith), by_number P ls (λ i below. each (suc i) (omega arith)))

-- ---- marks of scripts

all_both : (P Q : Mark → Type 0) (ms : List Mark) → AllByRecursion P ms → AllByRecursion Q ms → AllByRecursion (λ m. P m × Q m) ms
all_both P Q [] p q = tt
all_both P Q (m ∷ ms) p q = ((p.0, q.0), all_both P Q ms p.1 q.1)

all_later : (P : Mark → Type 0) (b : Bool) (m : Mark) (ms : List Mark) → AllByRecursion P (cond b (m ∷ ms) ms) → AllByRecursion P ms
all_later P true m ms all = all.1
all_later P false m ms all = all

entered_either : (p x : ℕ) (b : Bool) (m : Mark) (h : List Mark) → entered_for p x (m ∷ own_of p h) ≡ entered_for p x (own_of p h)
    → entered_for p x (own_of p h) ≡ entered_for p x h → entered_for p x (cond b (m ∷ own_of p h) (own_of p h)) ≡ entered_for p x h
entered_either p x true m h same rest = same ∙ rest
entered_either p x false m h same rest = rest

-- how many sections were entered at a place is told by its own marks
entered_for-own : (p x : ℕ) (h : List Mark) → entered_for p x (own_of p h) ≡ entered_for p x h
entered_for-own p x [] = refl
entered_for-own p x (Entered q c y ∷ h) =
    elim (q == p) as (λ b. (q == p) ≡ b → entered_for p x (cond b (Entered q c y ∷ own_of p h) (own_of p h))
    ≡ cond (q == p) (cond (y == x) 1 0) 0 + entered_for p x h) [
      | true ↦ λ e. let rest = entered_for-own p x h in omega arith
      | false ↦ λ e. (let none = entered_none p x q y e in let rest = entered_for-own p x h in omega arith)
    ] refl
  where
    entered_none : (p x q y : ℕ) → (q == p) ≡ false → cond (q == p) (cond {A = ℕ} (y == x) 1 0) 0 ≡ 0
    entered_none p x q y e = ap (λ b. cond b (cond {A = ℕ} (y == x) 1 0) 0) e
entered_for-own p x (m ∷ h) = entered_either p x (is_of p m) m h refl (entered_for-own p x h)

-- what fits among each place's own marks fits among all
fits_all : (scripts : List (List Op)) (done : List Update) (h : List Mark)
    → ((p : ℕ) → p < length scripts → AllByRecursion (FitsScript scripts done) (own_of p h)) → AllByRecursion (FitsScript scripts done) h
fits_all scripts done [] each = tt
fits_all scripts done (m ∷ h) each = (
  here m each,
  fits_all scripts done h (λ p below. all_later (FitsScript scripts done) (is_of p m) m (own_of p h) (each p below)),
)
  where
    first : (p : ℕ) (n : Mark) → is_of p n ≡ true → AllByRecursion (FitsScript scripts done) (own_of p (n ∷ h)) → FitsScript scripts done n
    first p n is all = (subst (λ b. AllByRecursion (FitsScript scripts done) (cond b (n ∷ own_of p h) (own_of p h))) is all).0

    here : (n : Mark) → ((p : ℕ) → p < length scripts → AllByRecursion (FitsScript scripts done) (own_of p (n ∷ h)))
        → FitsScript scripts done n
    here (Entered q c x) all = λ below. first q (Entered q c x) (eq-eqb q q refl) (all q below) below
    here (Began q c low high) all = λ below. first q (Began q c low high) (eq-eqb q q refl) (all q below) below
    here _ all = tt

-- a mark of the place fits where its key is asked for and its wait is right
fits_own : (scripts : List (List Op)) (done : List Update) (p : ℕ) (m : Mark)
    → (is_of p m ≡ true) × (IsAskedBy (get_or scripts p []) m × WaitsFor done m) → FitsScript scripts done m
fits_own scripts done p (Entered q c x) f = λ below. let same : q ≡ p = eqb-true q p f.0 in
    subst (λ z. 1 ≤ asking x (get_or scripts z [])) (sym same) f.1.0
fits_own scripts done p (Began q c low high) f = λ below. f.1.1
fits_own scripts done p _ f = tt

-- ---- the run

module _ (explains : Dictionary → Op → Reply → Type 0) (scripts : List (List Op)) (tolds : List (List Told)) (marks : List Mark)
    (told : HaveTold explains scripts tolds marks) where
  abbrev lists : List (List Line)
  lists = all_told_lines scripts tolds

  -- what is seen of later than a caller has seen has none of its marks
  later_none : (i : ℕ) (below : i < length scripts) → own_of i (told.each i below).2.0 ≡ []
  later_none i below =
      let e = told.each i below in
      let mine : own_of i e.0.seen ≡ own_of i e.0.own = subst (λ p. own_of p e.0.seen ≡ own_of p e.0.own) e.1.place e.1.met in
      append_cancel_left (own_of i e.0.seen) (own_of i e.2.0) []
      (sym (own_of-append i e.0.seen e.2.0) ∙ ap (own_of i) e.2.1 ∙ e.3 ∙ sym mine ∙ sym (append-nil (own_of i e.0.seen)))

  whole : (i : ℕ) (below : i < length scripts) → updates_of marks ≡ updates_of (told.each i below).0.seen
      ++ updates_of (told.each i below).2.0
  whole i below = let e = told.each i below in ap updates_of (sym e.2.1) ∙ updates_of-append e.0.seen e.2.0

  own_told : (c : ℕ) → own_updates c (updates_of marks) ≡ told_updates (get_or (all_told_lines scripts tolds) c [])
  own_told c = elim (cases_lt c (length scripts)) [
    | inl below ↦
        let e = told.each c below in
        ap (own_updates c) (whole c below) ∙ own_updates_from-append 1 c (updates_of e.0.seen) (updates_of e.2.0)
        ∙ ap (λ xs. own_updates c (updates_of e.0.seen) ++ xs)
        (no_own_update c (1 + length (updates_of e.0.seen)) e.2.0 (ap updates_of (later_none c below)))
        ∙ append-nil (own_updates c (updates_of e.0.seen)) ∙ e.1.updates ∙ ap told_updates (sym (lines_at scripts tolds c told.count below))
    | inr past ↦
        no_own_update c 1 marks (told.others c past)
        ∙ ap told_updates (sym (get_or_past (all_told_lines scripts tolds) c []
        (let n = lines_count scripts tolds told.count in omega arith)))
  ]

  -- Each script's lines tell of just its caller's own updates.
  pub run_updates : (c : ℕ) → own_updates c (updates_of marks) ≡ told_updates (get_or (all_told_lines scripts tolds) c [])
  run_updates = own_told

  pub run_lengths : map length tolds ≡ map length scripts
  run_lengths = same_lengths scripts tolds told.count (λ i below. (told.each i below).1.lengths)

  settled_at : (i : ℕ) (below : i < length scripts)
      → AllByRecursion (IsSettled (updates_of marks)) (get_or (all_told_lines scripts tolds) i [])
  settled_at i below =
      let e = told.each i below in
      subst (λ ls. AllByRecursion (IsSettled (updates_of marks)) ls) (sym (lines_at scripts tolds i told.count below))
      (subst (λ us. AllByRecursion (IsSettled us) (told_lines (get_or scripts i []) (get_or tolds i []))) (sym (whole i below))
      (all_map (IsSettled (updates_of e.0.seen)) (IsSettled (updates_of e.0.seen ++ updates_of e.2.0))
      (told_lines (get_or scripts i []) (get_or tolds i [])) (settled_longer (updates_of e.0.seen) (updates_of e.2.0)) e.1.settled))

  pub run_confirmed : AllByRecursion (AllByRecursion (IsConfirmed (updates_of marks))) (all_told_lines scripts tolds)
  run_confirmed = by_number (AllByRecursion (IsConfirmed (updates_of marks))) (all_told_lines scripts tolds)
      (λ i below. all_map (IsSettled (updates_of marks)) (IsConfirmed (updates_of marks)) (get_or (all_told_lines scripts tolds) i [])
      (λ line s. s.confirmed) (settled_at i (let n = lines_count scripts tolds told.count in omega arith)))

  pub run_fronts : AllByRecursion (λ lines. (numbers : List ℕ) × MayStandBesideBy explains (updates_of marks) 0 lines numbers)
      (all_told_lines scripts tolds)
  run_fronts = by_number (λ lines. (numbers : List ℕ) × MayStandBesideBy explains (updates_of marks) 0 lines numbers)
      (all_told_lines scripts tolds)
      (λ i there.
      let below : i < length scripts = (let n = lines_count scripts tolds told.count in omega arith) in
      let e = told.each i below in
      subst (λ ls. (numbers : List ℕ) × MayStandBesideBy explains (updates_of marks) 0 ls numbers)
      (sym (lines_at scripts tolds i told.count below)) (
        e.1.numbers,
        subst (λ us. MayStandBesideBy explains us 0 (told_lines (get_or scripts i []) (get_or tolds i [])) e.1.numbers)
            (sym (whole i below)) (MayStandBesideBy-longer explains (updates_of e.0.seen) (updates_of e.2.0) 0
            (told_lines (get_or scripts i []) (get_or tolds i [])) e.1.numbers e.1.beside),
      ))

  -- the marks of a script's place are those of its caller's calls
  own_marks : (i : ℕ) (below : i < length scripts) → own_of i marks ≡ (told.each i below).1.marks
  own_marks i below = let e = told.each i below in e.3 ∙ ap (own_of i) e.1.own ∙ own_of-all i e.1.marks e.1.mine

  pub run_fits : FitsScripts scripts (marks)
  run_fits = record {
    legal = told.legal;
    each = fits_all scripts (updates_of marks) marks (λ i below.
        let e = told.each i below in
        let waits : AllByRecursion (WaitsFor (updates_of marks)) e.1.marks =
        subst (λ us. AllByRecursion (WaitsFor us) (told.each i below).1.marks) (sym (whole i below))
        (all_map (WaitsFor (updates_of e.0.seen)) (WaitsFor (updates_of e.0.seen ++ updates_of e.2.0)) e.1.marks
        (waits_longer (updates_of e.0.seen) (updates_of e.2.0)) e.1.waits) in
        subst (AllByRecursion (FitsScript scripts (updates_of marks))) (sym (own_marks i below))
        (all_map (λ m. (is_of i m ≡ true) × (IsAskedBy (get_or scripts i []) m × WaitsFor (updates_of marks) m))
        (FitsScript scripts (updates_of marks)) e.1.marks (fits_own scripts (updates_of marks) i)
        (all_both (λ m. is_of i m ≡ true) (λ m. IsAskedBy (get_or scripts i []) m × WaitsFor (updates_of marks) m) e.1.marks e.1.mine
        (all_both (IsAskedBy (get_or scripts i [])) (WaitsFor (updates_of marks)) e.1.marks e.1.asked waits))));
    enough = λ i key below.
        let e = told.each i below in
        subst (λ n. asking key (get_or scripts i []) ≤ n) (ap (entered_for i key) (sym (own_marks i below)) ∙ entered_for-own i key marks)
        (e.1.enough key);
  }

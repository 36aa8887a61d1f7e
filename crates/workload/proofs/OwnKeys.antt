-- Scripts whose keys are their own are told what the plain map tells them.
use Rattle.std.proofs.Common.{◌≡◌, ℕ, Bool, true, false, cond, Some, None, is_some, refl, sym, ap, ◌∙◌, ◌≢◌, zero, suc, ◌+◌, ◌<◌, ◌≤◌, eqb, List, [], ◌∷◌, length, drop, get_or, subst, inl, inr, arith, ◌-◌, MatchBool, ◌++◌, take, map as list_map}
use Rattle.prcu_model.specs.declared.operation.Op.{Op}
use Rattle.prcu_model.specs.declared.operation.Op.TheVariants.{Put, Get, Del, Set}
use Rattle.prcu_model.specs.declared.operation.Reply.{Reply}
use Rattle.prcu_model.specs.declared.operation.Reply.TheVariants.{New, Old, Full, Val, Absent, Gone, Was}
use Rattle.prcu_model.specs.Dictionary.{Dictionary, key_of, IsUpdateAt, Room, Explains, Confirms, with_value, plain_reply, updated, map_of, map_at, updated_all, IsLegal, AreUpdatesFrom, tells_update, history_with, history_after, told_after, history_after_all, told_after_all, plain_history, plain_tolds}
use Rattle.std.specs.Ordering.{nat_cmp, eq_by_cmp}
use Rattle.std.specs.List.{All, AllByRecursion}
use Rattle.std.proofs.lemmas.Bool.{cases_lt}
use Rattle.std.proofs.lemmas.Bool.Decides.{nat_tests}
use Rattle.std.proofs.lemmas.List.{drop_more, drop_all, take_all}
use Rattle.prcu_model.specs.declared.operation.Update.{Update}
use Rattle.prcu_model.specs.Fronts.{Placed, own_updates_from, told_lines, told_updates, IsConfirmed, MayStandBeside, LacksFull, own_updates, all_told_lines, ops_of, CanBeNumbered, AreExplained, AreExplainable}
use Rattle.prcu_model.proofs.Dictionaries.{map_at-next, value_after, get-updated, get-updated_other, map_of-push, LacksFull-from_explainable}
use Rattle.prcu_model.specs.declared.operation.Told.{Told}
use Rattle.prcu_model.specs.declared.operation.Line.{Line}
use Rattle.std.specs.Cmp.{nat_cmp_total}
use Rattle.prcu_model.specs.Scripts.{default_slots_of}
use Rattle.workload.specs.Summaries.{replies_of}
use Rattle.prcu_model.proofs.ListFacts.{ops_of-all_told_lines}
use Rattle.std.specs.FinMap as map

-- A reply that is explained or confirmed is the plain dictionary's.

absent : {A : Type 0} (b : Bool) (x y : A) → b ≡ false → y ≡ cond b x y
absent true x y e = absurd (cc)
absent false x y e = refl

present : {A : Type 0} (b : Bool) (x y : A) → b ≡ true → x ≡ cond b x y
present true x y e = refl
present false x y e = absurd (cc)

valued : (reply : ℕ → Reply) (m : Dictionary) (key : ℕ) → map.contains_key m key ≡ false → Absent ≡ with_value reply (map.get m key)
valued reply m key e =
    elim (map.get m key) as (λ o. is_some o ≡ false → Absent ≡ with_value reply o) [
      | None ↦ λ e. refl
      | Some v ↦ λ e. absurd (cc)
    ] e

explained_at : (room : Room) (m : Dictionary) (op : Op) (reply : Reply) → Explains room m op reply → (reply ≡ Full → ⊥)
    → reply ≡ plain_reply None m op
explained_at room m (Get key) (Val value) e lacks = sym (ap (with_value Val) e)
explained_at room m (Get key) Absent e lacks = valued Val m key e
explained_at room m (Del key) Absent e lacks = absent (map.contains_key m key) Gone Absent e
explained_at room m (Set key value) Absent e lacks = valued Was m key e
explained_at room m (Put key value) Old e lacks = present (map.contains_key m key) Old New e
explained_at room m (Put key value) Full e lacks = absurd (lacks refl)
explained_at room m _ _ e lacks = absurd e

confirmed_at : (m : Dictionary) (op : Op) (reply : Reply) → Confirms m op reply → IsUpdateAt m op → reply ≡ plain_reply None m op
confirmed_at m (Put key value) New e is = absent (map.contains_key m key) Old New is
confirmed_at m (Del key) Gone e is = present (map.contains_key m key) Gone Absent is
confirmed_at m (Set key value) (Was old) e is = sym (ap (with_value Was) e)
confirmed_at m _ _ e is = absurd e

-- two dictionaries answer an operation alike where its key is worth the same
alike : (m n : Dictionary) (op : Op) → map.get m (key_of op) ≡ map.get n (key_of op) → plain_reply None m op ≡ plain_reply None n op
alike m n (Put key value) e = ap (λ o. cond (is_some o) Old New) e
alike m n (Get key) e = ap (with_value Val) e
alike m n (Del key) e = ap (λ o. cond (is_some o) Gone Absent) e
alike m n (Set key value) e = ap (with_value Was) e

module _ (m n : Dictionary) (op : Op) (reply : Reply) (same : map.get m (key_of op) ≡ map.get n (key_of op)) where
  pub plain_from_explained : (room : Room) → Explains room m op reply → (reply ≡ Full → ⊥) → reply ≡ plain_reply None n op
  plain_from_explained room explains lacks = explained_at room m op reply explains lacks ∙ alike m n op same

  pub plain_from_confirmed : Confirms m op reply → IsUpdateAt m op → reply ≡ plain_reply None n op
  plain_from_confirmed confirms is = confirmed_at m op reply confirms is ∙ alike m n op same

-- What a caller's keys are worth, where each caller's updates are of keys of its own.

module _ (owner : ℕ → ℕ) where
  -- the keys of this caller are worth the same in both
  abbrev pub Agrees : ℕ → Dictionary → Dictionary → Type 0
  Agrees caller m n = (q : ℕ) → owner q ≡ caller → map.get m q ≡ map.get n q

  abbrev pub IsOwn : ℕ → Op → Type 0
  IsOwn caller op = owner (key_of op) ≡ caller

  -- after the caller's own update of both
  pub Agrees-updated : (caller : ℕ) (m n : Dictionary) (op : Op) → IsOwn caller op → Agrees caller m n
      → Agrees caller (updated m op) (updated n op)
  Agrees-updated caller m n op own agrees q is =
      get-updated m op q ∙ (λ i. value_after (eq_by_cmp nat_cmp q (key_of op)) op (agrees (key_of op) own i) (agrees q is i))
      ∙ sym (get-updated n op q)

  -- after an update of another caller
  pub Agrees-other : (caller other : ℕ) (m : Dictionary) (op : Op) → IsOwn other op → other ≢ caller → Agrees caller m (updated m op)
  Agrees-other caller other m op own ne q is = sym (get-updated_other m op q (λ e. ne (sym own ∙ ap owner (sym e) ∙ is)))

-- these positions are all past a front
abbrev pub ArePast : ℕ → List Placed → Type 0
ArePast front ps = AllByRecursion (λ p. front < p.position) ps

pub ArePast-earlier : (front earlier : ℕ) (ps : List Placed) → earlier ≤ front → ArePast front ps → ArePast earlier ps
ArePast-earlier front earlier [] le past = tt
ArePast-earlier front earlier (p ∷ ps) le past = (omega (arith, past.0), ArePast-earlier front earlier ps le past.1)

own_past : (us : List Update) (position caller front : ℕ) → front < position → ArePast front (own_updates_from position caller us)
own_past [] position caller front lt = tt
own_past (u ∷ us) position caller front lt =
    let rest = own_past us (position + 1) caller front (omega arith) in
    elim (eqb u.caller caller) as (λ b. ArePast front
    (cond b (record { position = position; op = u.op } ∷ own_updates_from (position + 1) caller us)
    (own_updates_from (position + 1) caller us))) [
      | true ↦ (lt, rest)
      | false ↦ rest
    ]

abbrev pub some_update : Update
some_update = record { caller = 0; op = Get 0 }

module _ (owner : ℕ → ℕ) (history : List Update) (all_own : All (λ u. IsOwn owner u.caller u.op) history) (caller : ℕ) where
  -- the caller's updates after a front
  abbrev pub ahead : ℕ → List Placed
  ahead front = own_updates_from (front + 1) caller (drop front history)

  ahead-next : (front : ℕ) → front < length history → ahead front
      ≡ cond (eqb (get_or history front some_update).caller caller)
      (record { position = front + 1; op = (get_or history front some_update).op } ∷ ahead (front + 1)) (ahead (front + 1))
  ahead-next front below = ap (own_updates_from (front + 1) caller) (drop_more history front some_update below)

  -- where none of them comes before the next front, nothing of the caller's keys changes
  skip_one : (front : ℕ) → ArePast (front + 1) (ahead front)
      → (ahead (front + 1) ≡ ahead front) × Agrees owner caller (map_at history front) (map_at history (front + 1))
  skip_one front past = elim (cases_lt front (length history)) [
    | inl below ↦
        let u = get_or history front some_update in
        let next = ahead-next front below in
        let rest = subst (ArePast (front + 1)) next past in
        let one = map_at-next history front some_update below in
        elim (eqb u.caller caller) as (λ b. eqb u.caller caller ≡ b
        → ArePast (front + 1) (cond b (record { position = front + 1; op = u.op } ∷ ahead (front + 1)) (ahead (front + 1)))
        → ahead front ≡ cond b (record { position = front + 1; op = u.op } ∷ ahead (front + 1)) (ahead (front + 1))
        → (ahead (front + 1) ≡ ahead front) × Agrees owner caller (map_at history front) (map_at history (front + 1))) [
          | true ↦ λ is past next. absurd (omega (arith, past.0))
          | false ↦ λ is past next.
              let ne : u.caller ≢ caller = grind (arith, nat_tests) in (
                sym next,
                subst (λ m. Agrees owner caller (map_at history front) m) (sym one)
                    (Agrees-other owner caller u.caller (map_at history front) u.op (all_own front some_update below) ne),
              )
        ] refl rest next
    | inr end ↦
        let none = drop_all front history end in
        let also = drop_all (front + 1) history (omega arith) in
        let before : ahead front ≡ [] = ap (own_updates_from (front + 1) caller) none in
        let after : ahead (front + 1) ≡ [] = ap (own_updates_from (front + 1 + 1) caller) also in
        let same : map_at history front ≡ map_at history (front + 1) =
        ap map_of (take_all front history end ∙ sym (take_all (front + 1) history (omega arith))) in
        (after ∙ sym before, λ q is. ap (λ m. map.get m q) same)
  ]

  pub skip : (count front : ℕ) → ArePast (front + count) (ahead front)
      → (ahead (front + count) ≡ ahead front) × Agrees owner caller (map_at history front) (map_at history (front + count))
  skip zero front past = subst (λ n. (ahead n ≡ ahead front) × Agrees owner caller (map_at history front) (map_at history n)) (omega arith)
      (refl, λ q is. refl)
  skip (suc count) front past =
      let one = skip_one front (ArePast-earlier (front + suc count) (front + 1) (ahead front) (omega arith) past) in
      let rest = skip count (front + 1) (subst (λ n. ArePast n (ahead (front + 1))) (omega arith)
      (subst (ArePast (front + suc count)) (sym one.0) past)) in
      subst (λ n. (ahead n ≡ ahead front) × Agrees owner caller (map_at history front) (map_at history n)) (omega arith)
      (rest.0 ∙ one.0, λ q is. one.1 q is ∙ rest.1 q is)

  -- to the end, where none is left
  pub skip_all : (front : ℕ) → ahead front ≡ [] → Agrees owner caller (map_at history front) (map_of history)
  skip_all front none =
      let whole : map_at history (front + length history) ≡ map_of history =
      ap map_of (take_all (front + length history) history (omega arith)) in
      subst (λ m. Agrees owner caller (map_at history front) m) whole
      (skip (length history) front (subst (ArePast (front + length history)) (sym none) tt)).1

  -- What the next update of the history is, where it is the caller's.
  pub record IsNext (front : ℕ) (op : Op) (rest : List Placed) : Type 0 where
    pub below : front < length history
    pub its_op : (get_or history front some_update).op ≡ op
    pub its_caller : (get_or history front some_update).caller ≡ caller
    pub later : ahead (front + 1) ≡ rest

  pub next_found : (front : ℕ) (op : Op) (rest : List Placed) → ahead front ≡ record { position = front + 1; op = op } ∷ rest
      → IsNext front op rest
  next_found front op rest is = elim (cases_lt front (length history)) [
    | inl below ↦
        let u = get_or history front some_update in
        let next : cond (eqb u.caller caller) (record { position = front + 1; op = u.op } ∷ ahead (front + 1)) (ahead (front + 1))
        ≡ record { position = front + 1; op = op } ∷ rest = sym (ahead-next front below) ∙ is in
        elim (eqb u.caller caller) as (λ b. eqb u.caller caller ≡ b
        → cond b (record { position = front + 1; op = u.op } ∷ ahead (front + 1)) (ahead (front + 1))
        ≡ record { position = front + 1; op = op } ∷ rest → IsNext front op rest) [
          | true ↦ λ mine e.
              let head : ◌≡◌ {A = Placed} (record { position = front + 1; op = u.op }) (record { position = front + 1; op = op }) = cc in
              let caller_is : u.caller ≡ caller = grind (arith, nat_tests) in
              record { below = below; its_op = ap (λ p. p.op) head; its_caller = caller_is; later = cc }
          | false ↦ λ other e.
              let past = own_past (drop (front + 1) history) (front + 1 + 1) caller (front + 1) (omega arith) in
              absurd (omega (arith, (subst (ArePast (front + 1)) e past).0))
        ] refl next
    | inr end ↦
        let before : ahead front ≡ [] = ap (own_updates_from (front + 1) caller) (drop_all front history end) in
        let no : [] ≡ record { position = front + 1; op = op } ∷ rest = sym before ∙ is in
        absurd (cc)
  ]

-- Along a script's lines: its replies are those of the plain map, where its keys are its own.

update_at : (m : Dictionary) (us : List Update) (front : ℕ) (u : Update) → AreUpdatesFrom m us → front < length us
    → IsUpdateAt (updated_all m (take front us)) (get_or us front u).op
update_at m [] front u legal below = absurd (omega (arith, below))
update_at m (v ∷ us) zero u legal below = legal.0
update_at m (v ∷ us) (suc front) u legal below = update_at (updated m v.op) us front u legal.1 (omega (arith, below))

-- what the lines tell of comes after the number before them
told_past : (room : Room) (history : List Update) (before : ℕ) (lines : List Line) (numbers : List ℕ)
    → MayStandBeside room history before lines numbers → ArePast before (told_updates lines)
told_past room history before [] numbers beside = tt
told_past room history before (line ∷ lines) [] beside = absurd beside
told_past room history before (line ∷ lines) (number ∷ numbers) beside =
    let rest = told_past room history number lines numbers beside.1 in
    elim (tells_update line.reply) as (λ b. MatchBool b ((number ≡ line.number) × (before < number))
    ((before ≤ number) × (number ≤ length history) × Explains room (map_at history number) line.op line.reply)
    → ArePast before (cond b (record { position = line.number; op = line.op } ∷ told_updates lines) (told_updates lines))) [
      | true ↦ λ may. (omega (arith, may.0, may.1), ArePast-earlier number before (told_updates lines) (omega (arith, may.1)) rest)
      | false ↦ λ may. ArePast-earlier number before (told_updates lines) may.0 rest
    ] beside.0

module _ (owner : ℕ → ℕ) (room : Room) (history : List Update) (all_own : All (λ u. IsOwn owner u.caller u.op) history)
    (legal : IsLegal history) (caller : ℕ) where
  -- Where a run of the plain map stands that has made the history h, and a walk of the lines that are left.
  record Stands (h : List Update) (front : ℕ) (told : List Placed) : Type 0 where
    own : ahead owner history all_own caller front ≡ told
    agrees : Agrees owner caller (map_at history front) (map_of h)

  module _ (h : List Update) (before : ℕ) (op : Op) (own_key : IsOwn owner caller op) (reply : Reply) (told : List Placed) where
    -- What a line's reply is, and where both stand after it.
    record Passes (after : List Update) (number : ℕ) : Type 0 where
      is_plain : reply ≡ plain_reply None (map_of h) op
      stands : Stands after number told

    pass_other : (number : ℕ) → before ≤ number → Explains room (map_at history number) op reply → (reply ≡ Full → ⊥) → ArePast number told
        → Stands h before told → Passes h number
    pass_other number le explains lacks past stands =
        let there : before + (number - before) ≡ number = omega arith in
        let skipped = subst (λ n. (ahead owner history all_own caller n ≡ ahead owner history all_own caller before)
        × Agrees owner caller (map_at history before) (map_at history n)) there
        (skip owner history all_own caller (number - before) before
        (subst (λ n. ArePast n (ahead owner history all_own caller before)) (sym there)
        (subst (ArePast number) (sym stands.own) past))) in
        let agrees : Agrees owner caller (map_at history number) (map_of h) = λ q is. sym (skipped.1 q is) ∙ stands.agrees q is in
        record {
          is_plain = plain_from_explained (map_at history number) (map_of h) op reply (agrees (key_of op) own_key) room explains lacks;
          stands = record { own = skipped.0 ∙ stands.own; agrees = agrees };
        }

    pass_update : (u : Update) → u.op ≡ op → (number : ℕ) → before < number → Confirms (map_at history (number - 1)) op reply
        → ArePast number told → Stands h before (record { position = number; op = op } ∷ told) → Passes (h ++ u ∷ []) number
    pass_update u is_op number lt confirms past stands =
        let p = number - 1 in
        let one : number ≡ p + 1 = omega arith in
        let there : before + (p - before) ≡ p = omega arith in
        let all_past : ArePast p (record { position = number; op = op } ∷ told) =
        (omega arith, ArePast-earlier number p told (omega arith) past) in
        let skipped = subst (λ n. (ahead owner history all_own caller n ≡ ahead owner history all_own caller before)
        × Agrees owner caller (map_at history before) (map_at history n)) there
        (skip owner history all_own caller (p - before) before
        (subst (λ n. ArePast n (ahead owner history all_own caller before)) (sym there)
        (subst (ArePast p) (sym stands.own) all_past))) in
        let agrees : Agrees owner caller (map_at history p) (map_of h) = λ q is. sym (skipped.1 q is) ∙ stands.agrees q is in
        let next = next_found owner history all_own caller p op told
        (skipped.0 ∙ stands.own ∙ ap (λ n. record { position = n; op = op } ∷ told) one) in
        let is_update : IsUpdateAt (map_at history p) op =
        subst (IsUpdateAt (map_at history p)) next.its_op (update_at map.empty history p some_update legal next.below) in
        let step : map_at history number ≡ updated (map_at history p) op =
        ap (map_at history) one ∙ map_at-next history p some_update next.below ∙ ap (updated (map_at history p)) next.its_op in
        let pushed : map_of (h ++ u ∷ []) ≡ updated (map_of h) op = map_of-push h u ∙ ap (updated (map_of h)) is_op in
        record {
          is_plain = plain_from_confirmed (map_at history p) (map_of h) op reply (agrees (key_of op) own_key) confirms is_update;
          stands = record {
            own = ap (ahead owner history all_own caller) one ∙ next.later;
            agrees = λ q is. ap (λ m. map.get m q) step ∙ Agrees-updated owner caller (map_at history p) (map_of h) op own_key agrees q is
                ∙ ap (λ m. map.get m q) (sym pushed);
          };
        }

  -- What the script was told is what it is told by the plain map, and at the end both agree on its keys.
  pub record IsPlain (h : List Update) (ops : List Op) (tolds : List Told) : Type 0 where
    pub replies : list_map (λ told. told.reply) tolds ≡ list_map (λ told. told.reply) (told_after None h caller ops)
    pub agrees : Agrees owner caller (map_of history) (map_of (history_after None h caller ops))

  IsPlain-next : (h : List Update) (op : Op) (ops : List Op) (told : Told) (tolds : List Told) → told.reply ≡ plain_reply None (map_of h) op
      → IsPlain (history_with None h caller op) ops tolds → IsPlain h (op ∷ ops) (told ∷ tolds)
  IsPlain-next h op ops told tolds is rest = record { replies = λ i. is i ∷ rest.replies i; agrees = rest.agrees }

  pub plain_along : (ops : List Op) (tolds : List Told) (h : List Update) (front : ℕ) (numbers : List ℕ) → length tolds ≡ length ops
      → AllByRecursion (IsOwn owner caller) ops
      → MayStandBeside room history front (told_lines ops tolds) numbers → AllByRecursion (IsConfirmed history) (told_lines ops tolds)
      → AllByRecursion (λ line. line.reply ≡ Full → ⊥) (told_lines ops tolds)
      → ahead owner history all_own caller front ≡ told_updates (told_lines ops tolds)
      → Agrees owner caller (map_at history front) (map_of h) → IsPlain h ops tolds
  plain_along [] [] h front numbers same own beside confirmed lacks ahead_is agrees =
      record { replies = refl; agrees = λ q is. sym (skip_all owner history all_own caller front ahead_is q is) ∙ agrees q is }
  plain_along (op ∷ ops) (told ∷ tolds) h front [] same own beside confirmed lacks ahead_is agrees = absurd beside
  plain_along (op ∷ ops) (told ∷ tolds) h front (number ∷ numbers) same own beside confirmed lacks ahead_is agrees =
      let line : Line = record { op = op; reply = told.reply; number = told.number } in
      let lines = told_lines ops tolds in
      let rest_told = told_updates lines in
      let past = told_past room history number lines numbers beside.1 in
      let fewer : length tolds ≡ length ops = omega (arith, same) in
      let u : Update = record { caller = caller; op = op } in
      elim (tells_update told.reply) as (λ b. tells_update told.reply ≡ b
      → MatchBool b ((number ≡ told.number) × (front < number))
      ((front ≤ number) × (number ≤ length history) × Explains room (map_at history number) op told.reply)
      → ahead owner history all_own caller front ≡ cond b (record { position = told.number; op = op } ∷ rest_told) rest_told
      → IsPlain h (op ∷ ops) (told ∷ tolds)) [
        | true ↦ λ tells may ahead_is.
            let confirms : Confirms (map_at history (number - 1)) op told.reply =
            subst (λ n. Confirms (map_at history (n - 1)) op told.reply) (sym may.0) (confirmed.0 tells) in
            let passed = pass_update h front op own.0 told.reply rest_told u refl number may.1 confirms past
            (record { own = ahead_is ∙ ap (λ n. record { position = n; op = op } ∷ rest_told) (sym may.0); agrees = agrees }) in
            let with : h ++ u ∷ [] ≡ history_with None h caller op =
            sym (ap (λ b. cond b (h ++ u ∷ []) h) (sym (ap tells_update passed.is_plain) ∙ tells)) in
            IsPlain-next h op ops told tolds passed.is_plain (subst (λ after. IsPlain after ops tolds) with
            (plain_along ops tolds
            (h ++ u ∷ []) number numbers fewer own.1 beside.1 confirmed.1 lacks.1 passed.stands.own passed.stands.agrees))
        | false ↦ λ tells may ahead_is.
            let passed = pass_other h front op own.0 told.reply rest_told number may.0 may.2 lacks.0 past
            (record { own = ahead_is; agrees = agrees }) in
            let with : h ≡ history_with None h caller op =
            sym (ap (λ b. cond b (h ++ u ∷ []) h) (sym (ap tells_update passed.is_plain) ∙ tells)) in
            IsPlain-next h op ops told tolds passed.is_plain (subst (λ after. IsPlain after ops tolds) with
            (plain_along ops tolds h number numbers fewer own.1 beside.1 confirmed.1 lacks.1 passed.stands.own passed.stands.agrees))
      ] refl beside.0 ahead_is
  plain_along _ _ h front numbers same own beside confirmed lacks ahead_is agrees = absurd (omega (arith, same))

-- a script changes no other caller's keys
pub keeps_others : (owner : ℕ → ℕ) (caller : ℕ) (ops : List Op) (h : List Update) (q : ℕ) → AllByRecursion (IsOwn owner caller) ops
    → (owner q ≡ caller → ⊥) → map.get (map_of (history_after None h caller ops)) q ≡ map.get (map_of h) q
keeps_others owner caller [] h q own ne = refl
keeps_others owner caller (op ∷ ops) h q own ne =
    let u : Update = record { caller = caller; op = op } in
    elim (tells_update (plain_reply None (map_of h) op)) as (λ b. map.get
    (map_of (history_after None (cond b (h ++ u ∷ []) h) caller ops)) q ≡ map.get (map_of h) q) [
      | true ↦
          keeps_others owner caller ops (h ++ u ∷ []) q own.1 ne ∙ ap (λ m. map.get m q) (map_of-push h u)
          ∙ get-updated_other (map_of h) op q (λ e. ne (ap owner e ∙ own.0))
      | false ↦ keeps_others owner caller ops h q own.1 ne
    ]

-- Scripts whose keys are their own are told what the plain map tells them, and leave the dictionary that it leaves.

-- What holds of a caller's operations, at the scripts from this caller on.
module _ (P : ℕ → Op → Type 0) where
  abbrev pub AllOps : ℕ → List (List Op) → Type 0
  AllOps caller [] = Unit {0}
  AllOps caller (script ∷ scripts) = AllByRecursion (P caller) script × AllOps (caller + 1) scripts

  ops_at : (lists : List (List Line)) (caller k : ℕ) → AllOps caller (list_map ops_of lists)
      → AllByRecursion (P (caller + k)) (ops_of (get_or lists k []))
  ops_at [] caller k all = tt
  ops_at (lines ∷ lists) caller zero all = let here : caller ≡ caller + 0 = omega arith in
      subst (λ n. AllByRecursion (P n) (ops_of lines)) here all.0
  ops_at (lines ∷ lists) caller (suc k) all =
      let here : caller + 1 + k ≡ caller + suc k = omega arith in
      subst (λ n. AllByRecursion (P n) (ops_of (get_or lists k []))) here (ops_at lists (caller + 1) k all.1)

  told_ops : (caller : ℕ) (lines : List Line) → AllByRecursion (P caller) (ops_of lines)
      → AllByRecursion (λ p. P caller p.op) (told_updates lines)
  told_ops caller [] all = tt
  told_ops caller (line ∷ lines) all =
      let rest = told_ops caller lines all.1 in
      elim (tells_update line.reply) as (λ b. AllByRecursion (λ p. P caller p.op)
      (cond b (record { position = line.number; op = line.op } ∷ told_updates lines) (told_updates lines))) [
        | true ↦ (all.0, rest)
        | false ↦ rest
      ]

  tail_of : (Q : Placed → Type 0) (b : Bool) (p : Placed) (ps : List Placed) → AllByRecursion Q (cond b (p ∷ ps) ps) → AllByRecursion Q ps
  tail_of Q true p ps all = all.1
  tail_of Q false p ps all = all

  head_of : (Q : Placed → Type 0) (b : Bool) (p : Placed) (ps : List Placed) → b ≡ true → AllByRecursion Q (cond b (p ∷ ps) ps) → Q p
  head_of Q true p ps is all = all.0
  head_of Q false p ps is all = absurd (cc)

  own_ops : (us : List Update) (position : ℕ) → ((caller : ℕ) → AllByRecursion (λ p. P caller p.op) (own_updates_from position caller us))
      → All (λ u. P u.caller u.op) us
  own_ops [] position all = λ k d below. absurd (omega (arith, below))
  own_ops (u ∷ us) position all = elim [
    | zero ↦ λ d below.
        let mine : eqb u.caller u.caller ≡ true = grind (arith, nat_tests) in
        head_of (λ p. P u.caller p.op) (eqb u.caller u.caller) (record { position = position; op = u.op })
        (own_updates_from (position + 1) u.caller us) mine (all u.caller)
    | suc k ↦ λ d below.
        own_ops us (position + 1) (λ caller. tail_of (λ p. P caller p.op) (eqb u.caller caller) (record { position = position; op = u.op })
        (own_updates_from (position + 1) caller us) (all caller)) k d (omega (arith, below))
  ]

  -- and so of the updates of a history that explains what they were told
  pub ops-of-history : (room : Room) (history : List Update) (lists : List (List Line)) → AreExplained room history lists
      → AllOps 0 (list_map ops_of lists) → All (λ u. P u.caller u.op) history
  ops-of-history room history lists explained all =
      own_ops history 1 (λ caller. subst (AllByRecursion (λ p. P caller p.op)) (sym (explained.updates caller))
      (told_ops caller (get_or lists caller [])
      (let here : 0 + caller ≡ caller = omega arith in
      subst (λ n. AllByRecursion (P n) (ops_of (get_or lists caller []))) here (ops_at lists 0 caller all))))

module _ (owner : ℕ → ℕ) (room : Room) (history : List Update) (all_own : All (λ u. IsOwn owner u.caller u.op) history)
    (legal : IsLegal history) where
  -- The scripts from this caller on were told what the plain map tells them after the history h, and the dictionaries are
  -- the same at the end.
  record AllPlain (caller : ℕ) (h : List Update) (scripts : List (List Op)) (tolds : List (List Told)) : Type 0 where
    replies : replies_of tolds ≡ replies_of (told_after_all None h caller scripts)
    same : (q : ℕ) → map.get (map_of history) q ≡ map.get (map_of (history_after_all None h caller scripts)) q

  plain_from : (scripts : List (List Op)) (tolds : List (List Told)) (caller : ℕ) (h : List Update)
      → list_map length tolds ≡ list_map length scripts → AllOps (IsOwn owner) caller scripts
      → ((k : ℕ) → own_updates (caller + k) history ≡ told_updates (get_or (all_told_lines scripts tolds) k []))
      → AllByRecursion (AllByRecursion (IsConfirmed history)) (all_told_lines scripts tolds)
      → AllByRecursion (CanBeNumbered room history) (all_told_lines scripts tolds) → LacksFull (all_told_lines scripts tolds)
      → ((q : ℕ) → owner q < caller → map.get (map_of history) q ≡ map.get (map_of h) q)
      → ((q : ℕ) → caller ≤ owner q → map.get (map_of h) q ≡ None) → AllPlain caller h scripts tolds
  plain_from [] [] caller h lengths own updates confirmed fronts lacks earlier later = record {
    replies = refl;
    same = λ q. elim (cases_lt (owner q) caller) [
      | inl lt ↦ earlier q lt
      | inr past ↦
          let k = owner q - caller in
          let none : own_updates (owner q) history ≡ [] = ap (λ n. own_updates n history) (omega arith) ∙ updates k in
          sym (skip_all owner history all_own (owner q) 0 none q refl) ∙ map.get-empty nat_cmp q ∙ sym (later q past)
    ];
  }
  plain_from (script ∷ scripts) (told ∷ tolds) caller h lengths own updates confirmed fronts lacks earlier later =
      let first : length told ≡ length script = cc in
      let others : list_map length tolds ≡ list_map length scripts = cc in
      let mine : own_updates caller history ≡ told_updates (told_lines script told) =
      ap (λ n. own_updates n history) (omega arith) ∙ updates 0 in
      let one = plain_along owner room history all_own legal caller script told h 0 fronts.0.0 first own.0 fronts.0.1 confirmed.0 lacks.0
      mine
      (λ q is. map.get-empty nat_cmp q ∙ sym (later q (omega (arith, is)))) in
      let after = history_after None h caller script in
      let rest = plain_from scripts tolds (caller + 1) after others own.1
      (λ k. ap (λ n. own_updates n history) (omega arith) ∙ updates (suc k)) confirmed.1 fronts.1 lacks.1
      (λ q lt. elim (cases_lt (owner q) caller) [
        | inl before ↦ earlier q before ∙ sym (keeps_others owner caller script h q own.0 (λ e. absurd (omega (arith, e, before))))
        | inr past ↦ one.agrees q (omega arith)
      ])
      (λ q past. keeps_others owner caller script h q own.0 (λ e. absurd (omega (arith, e, past))) ∙ later q (omega (arith, past))) in
      record { replies = λ i. one.replies i ∷ rest.replies i; same = rest.same }
  plain_from _ _ caller h lengths own updates confirmed fronts lacks earlier later = absurd (cc)

-- What the plain map tells and leaves.
pub record ArePlain (scripts : List (List Op)) (tolds : List (List Told)) (history : List Update) : Type 0 where
  pub replies : replies_of tolds ≡ replies_of (plain_tolds None scripts)
  pub same_map : map_of history ≡ map_of (plain_history None scripts)

-- With the default slots, each history that explains what the scripts were told comes to the same.
pub ArePlain-from_explainable : (owner : ℕ → ℕ) (scripts : List (List Op)) (tolds : List (List Told)) (history : List Update)
    → AllOps (IsOwn owner) 0 scripts → IsLegal history → AreExplainable scripts tolds history (default_slots_of scripts)
    → ArePlain scripts tolds history
ArePlain-from_explainable owner scripts tolds history own legal able =
    let room : Room = record { scripts = length scripts; slots = default_slots_of scripts } in
    let lists = all_told_lines scripts tolds in
    let ops = ops_of-all_told_lines scripts tolds able.lengths in
    let all_own = ops-of-history (IsOwn owner) room history lists able.explained (subst (AllOps (IsOwn owner) 0) (sym ops) own) in
    let plain = plain_from owner room history all_own legal scripts tolds 0 [] able.lengths own
    (λ k. ap (λ n. own_updates n history) (omega arith) ∙ able.explained.updates k) able.explained.confirmed able.explained.fronts
    (LacksFull-from_explainable scripts tolds history able)
    (λ q lt. absurd (omega (arith, lt))) (λ q past. map.get-empty nat_cmp q) in
    record { replies = plain.replies; same_map = map.same_map nat_cmp_total map.nat_cmp-IsAntisymmetric _ _ plain.same }

-- Accounts: their lines are explained, their replies determine them, they are the prints of what they claim, and their numbers fit.
use Rattle.std.proofs.Common.{◌≡◌, ℕ, ◌-◌, Bool, true, false, cond, IsTrue, MatchBool, List, [], ◌∷◌, length, get_or, map, zero, suc, refl, sym, subst, ◌∙◌, arith, ◌<◌, ◌≤◌, drop, ap, ◌↔◌, Decides, ◌+◌, ◌^◌, eqb, ◌++◌, take, flat_map, codes, decimal, inl, inr, Some, None, length-append}
use Rattle.std.specs.List.{AllByRecursion}
use Rattle.prcu_model.specs.declared.operation.Op.{Op}
use Rattle.prcu_model.specs.declared.operation.Told.{Told}
use Rattle.prcu_model.specs.declared.operation.Line.{Line}
use Rattle.prcu_model.specs.declared.operation.Update.{Update}
use Rattle.prcu_model.specs.Dictionary.{map_at, map_of, IsLegal, Room, Confirms, tells_update, Explains, Dictionary, updated, updated_all}
use Rattle.prcu_model.specs.Fronts.{told_lines, all_told_lines, told_updates, Placed, IsConfirmed, MayStand, MayStandBeside, CanBeNumbered, AreExplained, AreExplainable, IsLeastFor, AreNumbered, AllAreNumbered, ops_of, own_updates, own_updates_from}
use Rattle.account_text.specs.Account.{IsAccount, HaveReplies, account_of, AccountsAreOne, IsPrinted, history_from, scripts_from, pair_text, tolds_of, FitsReply, FitsLine, FitsUpdate, Fit}
use Rattle.prcu_model.proofs.ListFacts.{ops_of-all_told_lines}
use Rattle.prcu_model.specs.declared.operation.Reply.{Reply}
use Rattle.std.specs.Ordering.{nat_cmp, eq_by_cmp}
use Rattle.std.specs.Cmp.{nat_cmp_total}
use Rattle.std.proofs.lemmas.Bool.{false≢true, cases_lt}
use Rattle.std.proofs.lemmas.List.{length-map, get_or_past}
use Rattle.std.proofs.lemmas.Bool.Decides.{nat_tests}
use Rattle.prcu_model.specs.declared.operation.Op.TheVariants.{Put, Get, Del, Set}
use Rattle.prcu_model.specs.declared.operation.Reply.TheVariants.{Val, Was}
use Rattle.prcu_model.specs.Scripts.{FitsWords, AllFit}
use Rattle.script_text.specs.Grammar.{op_text}
use Rattle.std.specs.FinMap as finite

-- The numbered lines of scripts are explained, as what the scripts were told is.

-- the line with another number
abbrev renumbered : Line → ℕ → Line
renumbered told number = record { op = told.op; reply = told.reply; number = number }

-- an update keeps its number
Kept : Line → ℕ → Type 0
Kept told number = IsTrue (tells_update told.reply) → number ≡ told.number

kept_case : (b : Bool) (number position : ℕ) (P Q : Type 0) → MatchBool b ((number ≡ position) × P) Q → IsTrue b → number ≡ position
kept_case true number position P Q h is = h.0
kept_case false number position P Q h is = absurd (cc)

stand_case : (b : Bool) (number p q : ℕ) (P Q : Type 0) → (IsTrue b → p ≡ q) → MatchBool b ((number ≡ p) × P) Q
    → MatchBool b ((number ≡ q) × P) Q
stand_case true number p q P Q same h = (h.0 ∙ same refl, h.1)
stand_case false number p q P Q same h = h

module _ (room : Room) (history : List Update) where
  Kept-from_stand : (before : ℕ) (told : Line) (number : ℕ) → MayStand room history before told number → Kept told number
  unfolding Kept
  Kept-from_stand before told number h = kept_case (tells_update told.reply) number told.number _ _ h

  MayStand-renumbered : (before : ℕ) (told : Line) (number other : ℕ) → Kept told number → MayStand room history before told other
      → MayStand room history before (renumbered told number) other
  unfolding Kept
  MayStand-renumbered before told number other kept h =
      stand_case (tells_update told.reply) other told.number number _ _ (λ is. sym (kept is)) h

  MayStand-as_told : (before : ℕ) (told : Line) (number other : ℕ) → Kept told number
      → MayStand room history before (renumbered told number) other → MayStand room history before told other
  unfolding Kept
  MayStand-as_told before told number other kept h = stand_case (tells_update told.reply) other number told.number _ _ kept h

  IsConfirmed-renumbered : (told : Line) (number : ℕ) → Kept told number → IsConfirmed history told
      → IsConfirmed history (renumbered told number)
  unfolding Kept
  IsConfirmed-renumbered told number kept h = λ is. subst (λ n. Confirms (map_at history (n - 1)) told.op told.reply) (sym (kept is)) (h is)

  IsLeastFor-renumbered : (before : ℕ) (told : Line) (number : ℕ) → Kept told number → IsLeastFor room history before told number
      → IsLeastFor room history before (renumbered told number) number
  IsLeastFor-renumbered before told number kept least = (
    MayStand-renumbered before told number number kept least.0,
    λ other h. least.1 other (MayStand-as_told before told number other kept h),
  )

  -- the line with its number, where that is all that has changed
  as_renumbered : (told line : Line) → line.op ≡ told.op → line.reply ≡ told.reply → line ≡ renumbered told line.number
  as_renumbered told line op reply = λ i. record { op = op i; reply = reply i; number = line.number }

  updates_case : (b : Bool) (told : Line) (number : ℕ) (lines tolds : List Placed) → (IsTrue b → number ≡ told.number) → lines ≡ tolds
      → cond b (record { position = number; op = told.op } ∷ lines) lines
      ≡ cond b (record { position = told.number; op = told.op } ∷ tolds) tolds
  updates_case true told number lines tolds kept same = λ i. record { position = kept refl i; op = told.op } ∷ same i
  updates_case false told number lines tolds kept same = same

  numbers_of : List Line → List ℕ
  numbers_of lines = map (λ line. line.number) lines

  -- What one numbered line keeps.
  record Keeps (before : ℕ) (told line : Line) : Type 0 where
    confirmed : IsConfirmed history told → IsConfirmed history line
    updates : (lines tolds : List Line) → told_updates lines ≡ told_updates tolds
        → told_updates (line ∷ lines) ≡ told_updates (told ∷ tolds)
    least : IsLeastFor room history before line line.number

  keeps_renumbered : (before : ℕ) (told : Line) (number : ℕ) → IsLeastFor room history before told number
      → Keeps before told (renumbered told number)
  unfolding Kept
  keeps_renumbered before told number least =
      let kept = Kept-from_stand before told number least.0 in
      record {
        confirmed = IsConfirmed-renumbered told number kept;
        updates = λ lines tolds same. updates_case (tells_update told.reply) told number (told_updates lines)
            (told_updates tolds) kept same;
        least = IsLeastFor-renumbered before told number kept least;
      }

  keeps : (before : ℕ) (told line : Line) → line.op ≡ told.op → line.reply ≡ told.reply → IsLeastFor room history before told line.number
      → Keeps before told line
  keeps before told line op reply least = subst (Keeps before told) (sym (as_renumbered told line op reply))
      (keeps_renumbered before told line.number least)

  -- The same of a script's lines.
  record KeepsAll (before : ℕ) (tolds lines : List Line) : Type 0 where
    ops : ops_of lines ≡ ops_of tolds
    confirmed : AllByRecursion (IsConfirmed history) tolds → AllByRecursion (IsConfirmed history) lines
    updates : told_updates lines ≡ told_updates tolds
    beside : MayStandBeside room history before lines (numbers_of lines)
    numbered : AreNumbered room history before lines lines

  keeps_all : (before : ℕ) (tolds lines : List Line) → AreNumbered room history before tolds lines → KeepsAll before tolds lines
  unfolding numbers_of
  keeps_all before [] [] h = record { ops = refl; confirmed = λ c. c; updates = refl; beside = tt; numbered = tt }
  keeps_all before (told ∷ tolds) (line ∷ lines) h =
      let one = keeps before told line h.0 h.1 h.2 in
      let others = keeps_all line.number tolds lines h.3 in
      record {
        ops = λ i. h.0 i ∷ others.ops i;
        confirmed = λ c. (one.confirmed c.0, others.confirmed c.1);
        updates = one.updates lines tolds others.updates;
        beside = (one.least.0, others.beside);
        numbered = (refl, refl, one.least, others.numbered);
      }
  keeps_all before _ _ h = absurd h

  -- The same of all scripts.
  record KeepsScripts (tolds lists : List (List Line)) : Type 0 where
    ops : map ops_of lists ≡ map ops_of tolds
    confirmed : AllByRecursion (AllByRecursion (IsConfirmed history)) tolds → AllByRecursion (AllByRecursion (IsConfirmed history)) lists
    updates : (c : ℕ) → told_updates (get_or lists c []) ≡ told_updates (get_or tolds c [])
    fronts : AllByRecursion (CanBeNumbered room history) lists
    numbered : AllAreNumbered room history lists lists

  keeps_scripts : (tolds lists : List (List Line)) → AllAreNumbered room history tolds lists → KeepsScripts tolds lists
  keeps_scripts [] [] h = record { ops = refl; confirmed = λ c. c; updates = λ c. refl; fronts = tt; numbered = tt }
  keeps_scripts (told ∷ tolds) (lines ∷ lists) h =
      let one = keeps_all 0 told lines h.0 in
      let others = keeps_scripts tolds lists h.1 in
      record {
        ops = λ i. one.ops i ∷ others.ops i;
        confirmed = λ c. (one.confirmed c.0, others.confirmed c.1);
        updates = elim [ zero ↦ one.updates | suc c ↦ others.updates c ];
        fronts = ((numbers_of lines, one.beside), others.fronts);
        numbered = (one.numbered, others.numbered);
      }
  keeps_scripts _ _ h = absurd h

  -- what is explained stays explained when it is numbered
  AreExplained-numbered : (tolds lists : List (List Line)) → AreExplained room history tolds → AllAreNumbered room history tolds lists
      → AreExplained room history lists
  AreExplained-numbered tolds lists explained numbered =
      let kept = keeps_scripts tolds lists numbered in
      record {
        updates = λ c. explained.updates c ∙ sym (kept.updates c);
        confirmed = kept.confirmed explained.confirmed;
        fronts = kept.fronts;
      }

  -- numbered lines have the replies that were told
  replies_told : (before : ℕ) (ops : List Op) (tolds : List Told) (lines : List Line) → length tolds ≡ length ops
      → AreNumbered room history before (told_lines ops tolds) lines → map (λ line. line.reply) lines ≡ map (λ answer. answer.reply) tolds
  replies_told before [] [] [] same h = refl
  replies_told before [] (told ∷ tolds) lines same h = absurd (omega (arith, same))
  replies_told before (op ∷ ops) [] lines same h = absurd (omega (arith, same))
  replies_told before (op ∷ ops) (told ∷ tolds) (line ∷ lines) same h =
      let others = replies_told line.number ops tolds lines (omega (arith, same)) h.3 in
      λ i. h.1 i ∷ others i
  replies_told before _ _ _ same h = absurd h

  HaveReplies-numbered : (scripts : List (List Op)) (tolds : List (List Told)) (lists : List (List Line))
      → map length tolds ≡ map length scripts → AllAreNumbered room history (all_told_lines scripts tolds) lists → HaveReplies tolds lists
  HaveReplies-numbered [] [] [] same h = refl
  HaveReplies-numbered [] (told ∷ tolds) lists same h = absurd (cc)
  HaveReplies-numbered (script ∷ scripts) [] lists same h = absurd (cc)
  HaveReplies-numbered (script ∷ scripts) (told ∷ tolds) (lines ∷ lists) same h =
      let head : length told ≡ length script = cc in
      let tail : map length tolds ≡ map length scripts = cc in
      let others = HaveReplies-numbered scripts tolds lists tail h.1 in
      λ i. replies_told 0 script told lines head h.0 i ∷ others i
  HaveReplies-numbered _ _ _ same h = absurd h

-- the numbered lines of what scripts were told make an account of the scripts, whose history is this one and whose replies are those
pub IsAccount-as_told : (scripts : List (List Op)) (tolds : List (List Told)) (history : List Update) (slots : ℕ) (lists : List (List Line))
    → AreExplainable scripts tolds history slots → AllAreNumbered (record { scripts = length scripts; slots = slots }) history
    (all_told_lines scripts tolds) lists → IsLegal history
    → (account : IsAccount scripts slots (account_of lists history (finite.entries (map_of history)))) × (account.history ≡ history)
    × HaveReplies tolds account.lines
IsAccount-as_told scripts tolds history slots lists able numbered legal =
    let room : Room = record { scripts = length scripts; slots = slots } in
    let told = all_told_lines scripts tolds in
    let kept = keeps_scripts room history told lists numbered in (
      record {
        lines = lists;
        history = history;
        ops = kept.ops ∙ ops_of-all_told_lines scripts tolds able.lengths;
        legal = legal;
        explained = AreExplained-numbered room history told lists able.explained numbered;
        numbered = kept.numbered;
        printed = refl;
      },
      refl,
      HaveReplies-numbered room history scripts tolds lists able.lengths numbered,
    )

-- the same without the replies
pub IsAccount-with_history : (scripts : List (List Op)) (tolds : List (List Told)) (history : List Update) (slots : ℕ)
    (lists : List (List Line)) → AreExplainable scripts tolds history slots
    → AllAreNumbered (record { scripts = length scripts; slots = slots }) history (all_told_lines scripts tolds) lists → IsLegal history
    → (account : IsAccount scripts slots (account_of lists history (finite.entries (map_of history)))) × (account.history ≡ history)
IsAccount-with_history scripts tolds history slots lists able numbered legal =
    let told = IsAccount-as_told scripts tolds history slots lists able numbered legal in
    (told.0, told.1)

pub IsAccount-numbered : (scripts : List (List Op)) (tolds : List (List Told)) (history : List Update) (slots : ℕ)
    (lists : List (List Line)) → AreExplainable scripts tolds history slots
    → AllAreNumbered (record { scripts = length scripts; slots = slots }) history (all_told_lines scripts tolds) lists → IsLegal history
    → IsAccount scripts slots (account_of lists history (finite.entries (map_of history)))
IsAccount-numbered scripts tolds history slots lists able numbered legal =
    (IsAccount-with_history scripts tolds history slots lists able numbered legal).0

-- An account is determined by its scripts, its slots, its history and its replies.

-- At an update the number is told, and else it is the least of the same numbers.
one_number : (b : Bool) (before p q : ℕ) (op : Op) (xs ys : List Placed) (Q : ℕ → Type 0)
    → cond b (record { position = p; op = op } ∷ xs) xs ≡ cond b (record { position = q; op = op } ∷ ys) ys
    → MatchBool b ((p ≡ p) × (before < p)) (Q p) × ((n : ℕ) → MatchBool b ((n ≡ p) × (before < n)) (Q n) → p ≤ n)
    → MatchBool b ((q ≡ q) × (before < q)) (Q q) × ((n : ℕ) → MatchBool b ((n ≡ q) × (before < n)) (Q n) → q ≤ n) → (p ≡ q) × (xs ≡ ys)
one_number true before p q op xs ys Q same first second =
    (ap (λ (ps : List Placed). (get_or ps 0 (record { position = p; op = op })).position) same, ap (drop 1) same)
one_number false before p q op xs ys Q same first second = (omega (arith, first.1 q second.0, second.1 p first.0), same)

replies_of : List Line → List Reply
replies_of lines = map (λ line. line.reply) lines

module _ (room : Room) (history : List Update) where
  one_script : (before : ℕ) (xs ys : List Line) → ops_of xs ≡ ops_of ys → replies_of xs ≡ replies_of ys → told_updates xs ≡ told_updates ys
      → AreNumbered room history before xs xs → AreNumbered room history before ys ys → xs ≡ ys
  unfolding replies_of
  one_script before [] [] ops replies updates h k = refl
  one_script before (x ∷ xs) (y ∷ ys) ops replies updates h k =
      let op : y.op ≡ x.op = cc in
      let reply : y.reply ≡ x.reply = cc in
      let other_ops : ops_of xs ≡ ops_of ys = cc in
      let other_replies : replies_of xs ≡ replies_of ys = cc in
      let same : y ≡ record { op = x.op; reply = x.reply; number = y.number } =
      λ i. record { op = op i; reply = reply i; number = y.number } in
      let number = one_number (tells_update x.reply) before x.number y.number x.op (told_updates xs) (told_updates ys)
      (λ n. (before ≤ n) × (n ≤ length history) × Explains room (map_at history n) x.op x.reply)
      (subst (λ z. told_updates (x ∷ xs) ≡ told_updates (z ∷ ys)) same updates) h.2
      (subst (λ z. IsLeastFor room history before z z.number) same k.2) in
      let others = one_script x.number xs ys other_ops other_replies number.1 h.3
      (subst (λ n. AreNumbered room history n ys ys) (sym number.0) k.3) in
      λ i. record { op = sym op i; reply = sym reply i; number = number.0 i } ∷ others i
  one_script before _ _ ops replies updates h k = absurd (cc)

  all_scripts : (xs ys : List (List Line)) → map ops_of xs ≡ map ops_of ys → map replies_of xs ≡ map replies_of ys
      → ((c : ℕ) → told_updates (get_or xs c []) ≡ told_updates (get_or ys c [])) → AllAreNumbered room history xs xs
      → AllAreNumbered room history ys ys → xs ≡ ys
  all_scripts [] [] ops replies updates h k = refl
  all_scripts (x ∷ xs) (y ∷ ys) ops replies updates h k =
      let first = one_script 0 x y (cc) (cc) (updates 0) h.0 k.0 in
      let others = all_scripts xs ys (cc) (cc) (λ c. updates (suc c)) h.1 k.1 in
      λ i. first i ∷ others i
  all_scripts _ _ ops replies updates h k = absurd (cc)

pub accounts_are_one : AccountsAreOne
unfolding replies_of
accounts_are_one scripts slots told text other_text account other same first second =
    let room : Room = record { scripts = length scripts; slots = slots } in
    let updates : (c : ℕ) → told_updates (get_or account.lines c []) ≡ told_updates (get_or other.lines c []) =
    λ c. sym (account.explained.updates c) ∙ ap (own_updates c) same ∙ other.explained.updates c in
    let numbered = subst (λ h. AllAreNumbered room h other.lines other.lines) (sym same) other.numbered in
    let lines = all_scripts room account.history account.lines other.lines (account.ops ∙ sym other.ops)
    (first ∙ sym second) updates account.numbered numbered in
    account.printed ∙ (λ i. account_of (lines i) (same i) (finite.entries (map_of (same i)))) ∙ sym other.printed

-- A text that is an account is the print of its claims, and the other way round.

told_lines-back : (lines : List Line) → told_lines (ops_of lines) (tolds_of lines) ≡ lines
told_lines-back [] = refl
told_lines-back (line ∷ lines) = ap (λ ls. line ∷ ls) (told_lines-back lines)

all_told_lines-back : (lists : List (List Line)) → all_told_lines (map ops_of lists) (map tolds_of lists) ≡ lists
all_told_lines-back [] = refl
all_told_lines-back (lines ∷ lists) = λ i. told_lines-back lines i ∷ all_told_lines-back lists i

length-tolds_of : (lines : List Line) → length (tolds_of lines) ≡ length (ops_of lines)
length-tolds_of [] = refl
length-tolds_of (line ∷ lines) = omega (arith, length-tolds_of lines)

lengths-tolds_of : (lists : List (List Line)) → map length (map tolds_of lists) ≡ map length (map ops_of lists)
lengths-tolds_of [] = refl
lengths-tolds_of (lines ∷ lists) = λ i. length-tolds_of lines i ∷ lengths-tolds_of lists i

module _ (room : Room) (history : List Update) where
  one_least : (before : ℕ) (told : Line) (m n : ℕ) → IsLeastFor room history before told m → IsLeastFor room history before told n → m ≡ n
  one_least before told m n first second = omega (arith, first.1 n second.0, second.1 m first.0)

  one_numbering : (before : ℕ) (told a b : List Line) → AreNumbered room history before told a → AreNumbered room history before told b
      → a ≡ b
  one_numbering before [] [] [] h k = refl
  one_numbering before [] (x ∷ a) b h k = absurd h
  one_numbering before (t ∷ told) [] b h k = absurd h
  one_numbering before (t ∷ told) (x ∷ a) (y ∷ b) h k =
      let number = one_least before t x.number y.number h.2 k.2 in
      let same : x ≡ y = λ i. record { op = (h.0 ∙ sym k.0) i; reply = (h.1 ∙ sym k.1) i; number = number i } in
      let others = one_numbering x.number told a b h.3 (subst (λ n. AreNumbered room history n told b) (sym number) k.3) in
      λ i. same i ∷ others i
  one_numbering before _ _ _ h k = absurd k

  one_numbering_of_all : (told a b : List (List Line)) → AllAreNumbered room history told a → AllAreNumbered room history told b → a ≡ b
  one_numbering_of_all [] [] [] h k = refl
  one_numbering_of_all [] (x ∷ a) b h k = absurd h
  one_numbering_of_all (t ∷ told) [] b h k = absurd h
  one_numbering_of_all (t ∷ told) (x ∷ a) (y ∷ b) h k =
      let first = one_numbering 0 t x y h.0 k.0 in
      let others = one_numbering_of_all told a b h.1 k.1 in
      λ i. first i ∷ others i
  one_numbering_of_all _ _ _ h k = absurd k

-- what is printed is an account
pub IsAccount-from_printed : (scripts : List (List Op)) (slots : ℕ) (told : List (List Told)) (history : List Update) (text : List ℕ)
    → IsPrinted scripts slots told history text → IsAccount scripts slots text
IsAccount-from_printed scripts slots told history text p =
    subst (IsAccount scripts slots) (sym p.printed) (IsAccount-numbered scripts told history slots p.lines p.explainable p.numbered p.legal)

-- an account is the print of its own claims
pub IsPrinted-from_account : (scripts : List (List Op)) (slots : ℕ) (text : List ℕ) (a : IsAccount scripts slots text)
    → IsPrinted scripts slots (map tolds_of a.lines) a.history text
IsPrinted-from_account scripts slots text a =
    let room : Room = record { scripts = length scripts; slots = slots } in
    let back : all_told_lines scripts (map tolds_of a.lines) ≡ a.lines =
    ap (λ ss. all_told_lines ss (map tolds_of a.lines)) (sym a.ops) ∙ all_told_lines-back a.lines in
    record {
      legal = a.legal;
      explainable = record {
        lengths = lengths-tolds_of a.lines ∙ ap (map length) a.ops;
        explained = subst (AreExplained room a.history) (sym back) a.explained;
      };
      lines = a.lines;
      numbered = subst (λ told. AllAreNumbered room a.history told a.lines) (sym back) a.numbered;
      printed = a.printed;
    }

-- the lines that the number rule gives are the only ones that can be printed
pub printed-text : (scripts : List (List Op)) (slots : ℕ) (told : List (List Told)) (history : List Update) (text : List ℕ)
    (lines : List (List Line)) → AllAreNumbered (record { scripts = length scripts; slots = slots }) history
    (all_told_lines scripts told) lines → IsPrinted scripts slots told history text
    → text ≡ account_of lines history (finite.entries (map_of history))
printed-text scripts slots told history text lines numbered p =
    p.printed ∙ ap (λ ls. account_of ls history (finite.entries (map_of history)))
    (one_numbering_of_all (record { scripts = length scripts; slots = slots }) history
    (all_told_lines scripts told) p.lines lines p.numbered numbered)

-- where the claims hold, the text is their print exactly where it equals the bytes that were written
pub IsPrinted-compared : (scripts : List (List Op)) (slots : ℕ) (told : List (List Told)) (history : List Update) (text : List ℕ)
    (lines : List (List Line)) → IsLegal history → AreExplainable scripts told history slots
    → AllAreNumbered (record { scripts = length scripts; slots = slots }) history (all_told_lines scripts told) lines → (written : List ℕ)
    → written ≡ account_of lines history (finite.entries (map_of history)) → (answer : Bool) → Decides answer (written ≡ text)
    → IsTrue answer ↔ IsPrinted scripts slots told history text
IsPrinted-compared scripts slots told history text lines legal explainable numbered written is answer same = (
  λ e. record { legal = legal; explainable = explainable; lines = lines; numbered = numbered; printed = sym (same.0 e) ∙ is },
  λ p. same.1 (is ∙ sym (printed-text scripts slots told history text lines numbered p)),
)

-- Where an account's claims are found, the text is their print exactly where it is an account.
pub IsAccount-by_claims : (scripts : List (List Op)) (slots : ℕ) (text : List ℕ) (told : List (List Told)) (history : List Update)
    → ((a : IsAccount scripts slots text) → (told ≡ map tolds_of a.lines) × (history ≡ a.history)) → (answer : Bool)
    → IsTrue answer ↔ IsPrinted scripts slots told history text → IsTrue answer ↔ IsAccount scripts slots text
IsAccount-by_claims scripts slots text told history claims answer decides = (
  λ e. IsAccount-from_printed scripts slots told history text (decides.0 e),
  λ a. let found = claims a in
      decides.1 (subst (λ t. IsPrinted scripts slots t history text) (sym found.0)
      (subst (λ h. IsPrinted scripts slots (map tolds_of a.lines) h text) (sym found.1) (IsPrinted-from_account scripts slots text a))),
)

-- The numbers of an account fit the words of the machine.

-- every value of the dictionary fits
abbrev FitsMap : Dictionary → Type 0
FitsMap m = (key value : ℕ) → finite.get m key ≡ Some value → value < 2 ^ 64

FitsMap-empty : FitsMap finite.empty
FitsMap-empty key value e = let none = finite.get-empty {X = ℕ} nat_cmp key in absurd (cc)

FitsMap-insert : (m : Dictionary) (k v : ℕ) → FitsMap m → v < 2 ^ 64 → FitsMap (finite.insert m k v)
FitsMap-insert m k v fits small key value e =
    let found = sym (finite.get-insert nat_cmp_total m k v key) ∙ e in
    elim (eq_by_cmp nat_cmp key k) as (λ b. cond b (Some v) (finite.get m key) ≡ Some value → value < 2 ^ 64) [
      | true ↦ λ h. let same : v ≡ value = cc in omega (arith, same)
      | false ↦ λ h. fits key value h
    ] found

FitsMap-remove : (m : Dictionary) (k : ℕ) → FitsMap m → FitsMap (finite.remove m k)
FitsMap-remove m k fits key value e =
    let found = sym (finite.get-remove nat_cmp_total m k key) ∙ e in
    elim (eq_by_cmp nat_cmp key k) as (λ b. cond b None (finite.get m key) ≡ Some value → value < 2 ^ 64) [
      | true ↦ λ h. absurd (cc)
      | false ↦ λ h. fits key value h
    ] found

FitsMap-updated : (m : Dictionary) (op : Op) → FitsMap m → FitsWords op → FitsMap (updated m op)
FitsMap-updated m (Put k v) fits words =
    elim (finite.contains_key m k) as (λ b. FitsMap
    (cond b m (finite.insert m k v))) [ true ↦ fits | false ↦ FitsMap-insert m k v fits words.1 ]
FitsMap-updated m (Get k) fits words = fits
FitsMap-updated m (Del k) fits words = FitsMap-remove m k fits
FitsMap-updated m (Set k v) fits words =
    elim (finite.contains_key m k) as (λ b. FitsMap
    (cond b (finite.insert m k v) m)) [ true ↦ FitsMap-insert m k v fits words.1 | false ↦ fits ]

abbrev OpsFit : List Update → Type 0
OpsFit us = AllByRecursion (λ u. FitsWords u.op) us

FitsMap-updated_all : (m : Dictionary) (us : List Update) → FitsMap m → OpsFit us → FitsMap (updated_all m us)
FitsMap-updated_all m [] fits ops = fits
FitsMap-updated_all m (u ∷ us) fits ops = FitsMap-updated_all (updated m u.op) us (FitsMap-updated m u.op fits ops.0) ops.1

OpsFit-take : (n : ℕ) (us : List Update) → OpsFit us → OpsFit (take n us)
OpsFit-take zero us ops = tt
OpsFit-take (suc n) [] ops = tt
OpsFit-take (suc n) (u ∷ us) ops = (ops.0, OpsFit-take n us ops.1)

FitsMap-at : (history : List Update) (front : ℕ) → OpsFit history → FitsMap (map_at history front)
FitsMap-at history front ops = FitsMap-updated_all finite.empty (take front history) FitsMap-empty (OpsFit-take front history ops)

-- a reply that a dictionary explains or confirms has a value that fits
FitsReply-explained : (room : Room) (m : Dictionary) (op : Op) (reply : Reply) → FitsMap m → Explains room m op reply → FitsReply reply
FitsReply-explained room m (Get key) (Val value) fits h = fits key value h
FitsReply-explained room m _ (Val value) fits h = absurd h
FitsReply-explained room m _ (Was value) fits h = absurd h
FitsReply-explained room m _ _ fits h = tt

FitsReply-confirmed : (m : Dictionary) (op : Op) (reply : Reply) → FitsMap m → Confirms m op reply → FitsReply reply
FitsReply-confirmed m (Set key v) (Was value) fits h = fits key value h
FitsReply-confirmed m _ (Was value) fits h = absurd h
FitsReply-confirmed m _ (Val value) fits h = absurd h
FitsReply-confirmed m _ _ fits h = tt

-- positions of updates are within the history
own_updates_from-within : (p c : ℕ) (us : List Update)
    → AllByRecursion (λ placed. placed.position < p + length us) (own_updates_from p c us)
own_updates_from-within p c [] = tt
own_updates_from-within p c (u ∷ us) =
    let rest = weaker (p + 1 + length us) (p + suc (length us)) (omega arith) (own_updates_from (p + 1) c us)
    (own_updates_from-within (p + 1) c us) in
    elim (eqb u.caller c) as (λ b. AllByRecursion (λ placed. placed.position < p + suc (length us))
    (cond b (record { position = p; op = u.op } ∷ own_updates_from (p + 1) c us) (own_updates_from (p + 1) c us))) [
      | true ↦ (omega arith, rest)
      | false ↦ rest
    ]
  where
    weaker : (m n : ℕ) → m ≤ n → (placed : List Placed) → AllByRecursion (λ x. x.position < m) placed
        → AllByRecursion (λ x. x.position < n) placed
    weaker m n le [] all = tt
    weaker m n le (x ∷ xs) all = let first = all.0 in (omega arith, weaker m n le xs all.1)

-- What holds of the updates that lines tell of holds of each line that tells of one.
from_told_updates : (P : ℕ → Op → Type 0) (lines : List Line) → AllByRecursion (λ x. P x.position x.op) (told_updates lines)
    → AllByRecursion (λ line. IsTrue (tells_update line.reply) → P line.number line.op) lines
from_told_updates P [] all = tt
from_told_updates P (line ∷ lines) all =
    elim (tells_update line.reply) as (λ b. AllByRecursion (λ x. P x.position x.op)
    (cond b (record { position = line.number; op = line.op } ∷ told_updates lines) (told_updates lines))
    → (IsTrue b → P line.number line.op) × AllByRecursion (λ l. IsTrue (tells_update l.reply) → P l.number l.op) lines) [
      | true ↦ λ h. ((λ is. h.0), from_told_updates P lines h.1)
      | false ↦ λ h. ((λ is. absurd (false≢true is)), from_told_updates P lines h)
    ] all

to_told_updates : (P : Op → Type 0) (lines : List Line) → AllByRecursion (λ line. P line.op) lines
    → AllByRecursion (λ x. P x.op) (told_updates lines)
to_told_updates P [] all = tt
to_told_updates P (line ∷ lines) all =
    let rest = to_told_updates P lines all.1 in
    elim (tells_update line.reply) as (λ b. AllByRecursion (λ x. P x.op)
    (cond b (record { position = line.number; op = line.op } ∷ told_updates lines) (told_updates lines))) [
      | true ↦ (all.0, rest)
      | false ↦ rest
    ]

same : (n : ℕ) → eqb n n ≡ true
same n = grind (arith, nat_tests)

-- What holds of every caller's own updates holds of all.
from_own_updates : (P : ℕ → Op → Type 0) (p : ℕ) (us : List Update) → ((c : ℕ) → AllByRecursion (λ x. P c x.op) (own_updates_from p c us))
    → AllByRecursion (λ u. P u.caller u.op) us
from_own_updates P p [] all = tt
from_own_updates P p (u ∷ us) all =
    (first, from_own_updates P (p + 1) us rest)
  where
    cases : (c : ℕ) (b : Bool) → AllByRecursion (λ x. P c x.op)
        (cond b (record { position = p; op = u.op } ∷ own_updates_from (p + 1) c us) (own_updates_from (p + 1) c us))
        → AllByRecursion (λ x. P c x.op) (own_updates_from (p + 1) c us)
    cases c true h = h.1
    cases c false h = h

    rest : (c : ℕ) → AllByRecursion (λ x. P c x.op) (own_updates_from (p + 1) c us)
    rest c = cases c (eqb u.caller c) (all c)

    first : P u.caller u.op
    first = (subst (λ b. AllByRecursion (λ x. P u.caller x.op)
        (cond b (record { position = p; op = u.op } ∷ own_updates_from (p + 1) u.caller us) (own_updates_from (p + 1) u.caller us)))
        (same u.caller) (all u.caller)).0

-- by index and by recursion
from_index : (Q : List Line → Type 0) (lists : List (List Line)) → ((c : ℕ) → Q (get_or lists c [])) → AllByRecursion Q lists
from_index Q [] all = tt
from_index Q (lines ∷ lists) all = (all 0, from_index Q lists (λ c. all (suc c)))

at_index : (Q : List Line → Type 0) (lists : List (List Line)) → Q [] → AllByRecursion Q lists → (c : ℕ) → Q (get_or lists c [])
at_index Q [] none all c = none
at_index Q (lines ∷ lists) none all zero = all.0
at_index Q (lines ∷ lists) none all (suc c) = at_index Q lists none all.1 c

line_ops : (lines : List Line) → AllByRecursion FitsWords (ops_of lines) → AllByRecursion (λ line. FitsWords line.op) lines
line_ops [] all = tt
line_ops (line ∷ lines) all = (all.0, line_ops lines all.1)

told_ops : (lists : List (List Line)) → AllFit (map ops_of lists)
    → AllByRecursion (λ lines. AllByRecursion (λ x. FitsWords x.op) (told_updates lines)) lists
told_ops [] all = tt
told_ops (lines ∷ lists) all = (to_told_updates FitsWords lines (line_ops lines all.0), told_ops lists all.1)

anything : (Q : Type 0) (xs : List Placed) → Q → AllByRecursion (λ x. Q) xs
anything Q [] q = tt
anything Q (x ∷ xs) q = (q, anything Q xs q)

both : (us : List Update) → AllByRecursion (λ u. u.caller < 2 ^ 32) us → OpsFit us → AllByRecursion FitsUpdate us
both [] callers ops = tt
both (u ∷ us) callers ops = ((callers.0, ops.0), both us callers.1 ops.1)

length-history_from : (n : ℕ) (us : List Update) → length us ≤ length (history_from n us)
length-history_from n [] = omega arith
length-history_from n (u ∷ us) =
    let front = decimal n ++ codes " " ++ decimal u.caller ++ codes " " ++ op_text u.op in
    omega (
      arith,
      length-history_from (n + 1) us,
      length-append (front ++ codes "\n") (history_from (n + 1) us),
      length-append front (codes "\n"),
    )

length-account : (lists : List (List Line)) (history : List Update) (final : List (ℕ × ℕ))
    → length history ≤ length (account_of lists history final)
length-account lists history final =
    let scripts = scripts_from 0 lists in
    let head = codes "history " ++ decimal (length history) ++ codes "\n" in
    let updates = history_from 1 history in
    let pairs = codes "final " ++ decimal (length final) ++ codes "\n" ++ flat_map pair_text final in
    omega (
      arith,
      length-history_from 1 history,
      length-append (scripts ++ (head ++ updates) ++ pairs) (codes "end\n"),
      length-append (scripts ++ (head ++ updates)) pairs,
      length-append scripts (head ++ updates),
      length-append head updates,
    )

module _ (room : Room) (history : List Update) (ops : OpsFit history) (short : length history < 2 ^ 64) where
  line_fits : (before : ℕ) (line : Line) → MayStand room history before line line.number → IsConfirmed history line
      → (IsTrue (tells_update line.reply) → line.number < 1 + length history) → FitsLine line
  line_fits before line stands confirmed within =
      elim (tells_update line.reply) as (λ b. MatchBool b ((line.number ≡ line.number) × (before < line.number))
      ((before ≤ line.number) × (line.number ≤ length history) × Explains room (map_at history line.number) line.op line.reply)
      → (IsTrue b → Confirms (map_at history (line.number - 1)) line.op line.reply) → (IsTrue b → line.number < 1 + length history)
      → FitsLine line) [
        | true ↦ λ h k w. (
          FitsReply-confirmed (map_at history (line.number - 1)) line.op line.reply
              (FitsMap-at history (line.number - 1) ops) (k refl),
          let n = w refl in omega arith,
        )
        | false ↦ λ h k w. (
          FitsReply-explained room (map_at history line.number) line.op line.reply
              (FitsMap-at history line.number ops) h.2,
          let n = h.1 in omega arith,
        )
      ] stands confirmed within

  lines_fit : (before : ℕ) (lines : List Line) → AreNumbered room history before lines lines → AllByRecursion (IsConfirmed history) lines
      → AllByRecursion (λ line. IsTrue (tells_update line.reply) → line.number < 1 + length history) lines → AllByRecursion FitsLine lines
  lines_fit before [] numbered confirmed within = tt
  lines_fit before (line ∷ lines) numbered confirmed within =
      (line_fits before line numbered.2.0 confirmed.0 within.0, lines_fit line.number lines numbered.3 confirmed.1 within.1)

  lists_fit : (lists : List (List Line)) → AllAreNumbered room history lists lists
      → AllByRecursion (AllByRecursion (IsConfirmed history)) lists
      → AllByRecursion (λ lines. AllByRecursion (λ line. IsTrue (tells_update line.reply) → line.number < 1 + length history) lines) lists
      → AllByRecursion (AllByRecursion FitsLine) lists
  lists_fit [] numbered confirmed within = tt
  lists_fit (lines ∷ lists) numbered confirmed within =
      (lines_fit 0 lines numbered.0 confirmed.0 within.0, lists_fit lists numbered.1 confirmed.1 within.1)

-- an account of scripts whose numbers fit, in a text that fits, has numbers that fit
pub Fit-account : (scripts : List (List Op)) (slots : ℕ) (text : List ℕ) (a : IsAccount scripts slots text) → AllFit scripts
    → length scripts ≤ 64 → length text < 2 ^ 64 → Fit scripts a.lines a.history
Fit-account scripts slots text a fits few long =
    let told = told_ops a.lines (subst AllFit (sym a.ops) fits) in
    let ops : OpsFit a.history = from_own_updates (λ c op. FitsWords op) 1 a.history (λ c.
    subst (AllByRecursion (λ x. FitsWords x.op)) (sym (a.explained.updates c))
    (at_index (λ lines. AllByRecursion (λ x. FitsWords x.op) (told_updates lines)) a.lines tt told c)) in
    let many : length a.lines ≡ length scripts = sym (length-map a.lines ops_of) ∙ ap length a.ops in
    let callers : AllByRecursion (λ u. u.caller < 2 ^ 32) a.history = from_own_updates (λ c op. c < 2 ^ 32) 1 a.history (λ c.
    subst (AllByRecursion (λ x. c < 2 ^ 32)) (sym (a.explained.updates c))
    (elim (cases_lt c (length a.lines)) [
      | inl below ↦ anything (c < 2 ^ 32) (told_updates (get_or a.lines c [])) (omega arith)
      | inr past ↦ subst (λ lines. AllByRecursion (λ x. c < 2 ^ 32) (told_updates lines)) (sym (get_or_past a.lines c [] past)) tt
    ])) in
    let short : length a.history < 2 ^ 64 = omega
    (arith, length-account a.lines a.history (finite.entries (map_of a.history)), ap length a.printed) in
    let within = from_index (λ lines. AllByRecursion
    (λ line. IsTrue (tells_update line.reply) → line.number < 1 + length a.history) lines) a.lines (λ c.
    from_told_updates (λ n op. n < 1 + length a.history) (get_or a.lines c [])
    (subst (AllByRecursion (λ x. x.position < 1 + length a.history)) (a.explained.updates c) (own_updates_from-within 1 c a.history))) in
    record {
      ops = a.ops;
      scripts_fit = fits;
      lines_fit = lists_fit (record {
        scripts = length scripts;
        slots = slots;
      }) a.history ops short a.lines a.numbered a.explained.confirmed within;
      history_fits = both a.history callers ops;
      short = short;
    }

-- Texts of scripts: their lines, numbers and operations, that each has one reading, and that what is printed is read again.
use Rattle.std.proofs.Common.{◌≡◌, ◌≢◌, ℕ, ◌<◌, false, eqb, List, [], ◌∷◌, ◌++◌, length, inl, inr, refl, ap, ◌∙◌, arith, append_assoc, flat_map, ◌+◌, ◌-◌, ◌*◌, ◌^◌, ◌≤◌, get_or, take, Option, Some, None, MatchOption, sym, codes, min, slice_get, subst, length-append, map}
use Rattle.std.specs.List.{All}
use Rattle.std.proofs.lemmas.Bool.Decides.{eqb_tells}
use Rattle.std.proofs.lemmas.List.Elements.{All-head, All-tail, All-nil, All-cons, All-append, All-from_get_or, All-more, All-map, All-weaker, All-from_recursion}
use Rattle.script_text.specs.Grammar.{lines_of, Lacks, IsParted, op_text, IsBlank, BeginsScript, AddsOperation, IsGoodLineUpTo, ReadsUpTo, IsScriptTextUpTo, IsFirstBadUpTo, op_line, script_text, scripts_text, Reads, IsScriptText}
use Rattle.std.specs.Fmt.{decimal}
use Rattle.std.specs.Int.{IsInRange, IsOutOfRange}
use Rattle.std.specs.Option.{SomeIff}
use Rattle.std.specs.Str.Parse.{AllDigits, digits_value}
use Rattle.std.proofs.lemmas.Bool.{cases_eq}
use Rattle.std.proofs.lemmas.Fmt.{decimal_is_IsNumeral, decimal-digits_value, decimal_nonempty, first_decimal, decimal_digit, decimal_injective}
use Rattle.std.proofs.lemmas.Int.Digits.{digits_value_more, digits_more}
use Rattle.std.proofs.lemmas.Str.{digit_value_digit}
use Rattle.std.proofs.lemmas.Str.Parse.{digit_at, digits_value-take-le, numerals_by_value, tells_digits}
use Rattle.prcu_model.specs.declared.operation.Op.{Op}
use Rattle.prcu_model.specs.declared.operation.Op.TheVariants.{Put, Get, Del, Set}
use Rattle.prcu_model.specs.Scripts.{FitsWords, with_op, op_count}
use Rattle.std.proofs.lemmas.List.{take_at, append-nil, flat_map_more, take_more}
use Rattle.prcu_model.proofs.ListFacts.{length-with_op, with_op-last, op_count-last}
use Rattle.std.proofs.lemmas.List.Concat.{flat_map-append}
use Rattle.std.proofs.lemmas.List.Sums.{sum_by-append}
use Rattle.std.proofs.lemmas.Option.{slice_get_within, get_or_from_slice_get}

-- Where a list of bytes is cut at some byte, and the lines of a text.

eqb-no : (a b : ℕ) → a ≢ b → eqb a b ≡ false
eqb-no a b ne = elim (eqb_tells a b) [ inl y ↦ absurd (ne y.1) | inr n ↦ n.0 ]

-- What stands before the first of a byte, and after it, is told by the list.
pub same_parts : (byte : ℕ) (front front' rest rest' : List ℕ) → Lacks front byte → Lacks front' byte
    → front ++ byte ∷ rest ≡ front' ++ byte ∷ rest' → (front ≡ front') × (rest ≡ rest')
same_parts byte [] [] rest rest' f f' e = (refl, cc)
same_parts byte [] (b ∷ front') rest rest' f f' e = absurd (All-head (λ x. x ≢ byte) b front' f' cc)
same_parts byte (a ∷ front) [] rest rest' f f' e = absurd (All-head (λ x. x ≢ byte) a front f cc)
same_parts byte (a ∷ front) (b ∷ front') rest rest' f f' e =
    let same : a ≡ b = cc in
    let more : front ++ byte ∷ rest ≡ front' ++ byte ∷ rest' = cc in
    let h = same_parts byte front front' rest rest' (All-tail (λ x. x ≢ byte) a front f) (All-tail (λ x. x ≢ byte) b front' f') more in
    (cc (h.0), h.1)

-- A text begins with the line before its first byte 10.
pub lines_of-parted : (line rest : List ℕ) → Lacks line 10 → lines_of (line ++ 10 ∷ rest) ≡ line ∷ lines_of rest
lines_of-parted [] rest l = refl
lines_of-parted (b ∷ line) rest l =
    let other : eqb b 10 ≡ false = eqb-no b 10 (All-head (λ x. x ≢ 10) b line l) in
    rw (other, lines_of-parted line rest (All-tail (λ x. x ≢ 10) b line l)) refl

-- A text without byte 10 is one line.
pub lines_of-one : (b : ℕ) (line : List ℕ) → Lacks (b ∷ line) 10 → lines_of (b ∷ line) ≡ (b ∷ line) ∷ []
lines_of-one b [] l =
    let other : eqb b 10 ≡ false = eqb-no b 10 (All-head (λ x. x ≢ 10) b [] l) in
    rw other refl
lines_of-one b (c ∷ line) l =
    let other : eqb b 10 ≡ false = eqb-no b 10 (All-head (λ x. x ≢ 10) b (c ∷ line) l) in
    rw (other, lines_of-one c line (All-tail (λ x. x ≢ 10) b (c ∷ line) l)) refl

-- a line with its byte 10
abbrev pub ended : List ℕ → List ℕ
ended line = line ++ 10 ∷ []

-- The lines of lines that are ended are these.
pub lines_of-flat_map : (lines : List (List ℕ)) → All (λ l. Lacks l 10) lines → lines_of (flat_map ended lines) ≡ lines
lines_of-flat_map [] l = refl
lines_of-flat_map (line ∷ lines) l =
    ap lines_of (append_assoc line (10 ∷ []) (flat_map ended lines))
    ∙ lines_of-parted line (flat_map ended lines) (All-head (λ x. Lacks x 10) line lines l)
    ∙ ap (λ x. line ∷ x) (lines_of-flat_map lines (All-tail (λ x. Lacks x 10) line lines l))

-- the same two, as splitting tells them
pub lines_of-IsParted : (text line rest : List ℕ) → IsParted text 10 line rest → lines_of text ≡ line ∷ lines_of rest
lines_of-IsParted text line rest p = ap lines_of p.whole ∙ lines_of-parted line rest p.first

pub lines_of-last : (text : List ℕ) → 0 < length text → Lacks text 10 → lines_of text ≡ text ∷ []
lines_of-last [] some l = absurd (omega arith)
lines_of-last (b ∷ line) some l = lines_of-one b line l

-- Digits one after another, and which bytes are a number in decimal.

module _ (ds : List ℕ) (i : ℕ) (here : i < length ds) where
  pub no_digit : IsOutOfRange 48 57 (get_or ds i 0) → AllDigits 10 ds → ⊥
  no_digit out all =
      let r = digit_at ds i all here in
      elim out [ inl low ↦ omega arith | inr high ↦ omega arith ]

  module _ (digit : IsInRange 48 57 (get_or ds i 0)) where
    value_with : digits_value 10 (take (i + 1) ds) ≡ digits_value 10 (take i ds) * 10 + (get_or ds i 0 - 48)
    value_with = digits_value_more 10 ds i here ∙ omega (arith, digit_value_digit (get_or ds i 0) digit)

    -- one more digit
    pub read_more : (value : ℕ) → AllDigits 10 (take i ds) → value ≡ digits_value 10 (take i ds)
        → AllDigits 10 (take (i + 1) ds) × (value * 10 + (get_or ds i 0 - 48) ≡ digits_value 10 (take (i + 1) ds))
    read_more value all is =
        (digits_more 10 ds i here all (omega (arith, digit_value_digit (get_or ds i 0) digit)), omega (arith, value_with))

    pub too_large : (value : ℕ) → value ≡ digits_value 10 (take i ds) → 2 ^ 64 ≤ value * 10 + (get_or ds i 0 - 48)
        → digits_value 10 ds < 2 ^ 64 → ⊥
    too_large value is large small = omega (arith, value_with, digits_value-take-le 10 ds (i + 1) (omega arith))

pub empty_no_decimal : (ds : List ℕ) → length ds ≡ 0 → (n : ℕ) → n < 2 ^ 64 → ds ≡ decimal n → ⊥
empty_no_decimal ds none n small e = omega (arith, decimal_nonempty n small, ap length e)

pub zero_no_decimal : (ds : List ℕ) → 1 < length ds → get_or ds 0 0 ≡ 48 → (n : ℕ) → n < 2 ^ 64 → ds ≡ decimal n → ⊥
zero_no_decimal ds more zero n small e =
    elim (cases_eq n 0) [
      | inl z ↦ let d : length (decimal n) ≡ 1 = rw z (ap length (decimal_digit 0 (omega arith))) in omega (arith, ap length e)
      | inr p ↦ omega (arith, first_decimal n (omega arith) small, ap (λ x. get_or x 0 0) e)
    ]

-- Without a leading zero, the digits of a number are what is printed of it.
pub decimal_from_digits : (ds : List ℕ) (r : Option ℕ) → SomeIff r (AllDigits 10 ds × (digits_value 10 ds < 2 ^ 64)) (digits_value 10 ds)
    → 0 < length ds → (get_or ds 0 0 ≡ 48 → length ds ≡ 1) → MatchOption r ((n : ℕ) → n < 2 ^ 64 → ds ≡ decimal n → ⊥) (λ n. ds ≡ decimal n)
decimal_from_digits ds None bad some lead = λ n small e.
    let d = decimal_is_IsNumeral n small in
    bad (rw e d.0.1, omega (arith, ap (digits_value 10) e, d.1))
decimal_from_digits ds (Some n) h some lead =
    sym (ap decimal h.1 ∙ decimal-digits_value (numerals_by_value (AllDigits 10) tells_digits) ds h.0.0 some lead h.0.1)

-- The text of an operation: its bytes, and that it tells the operation.

-- A number in decimal has digits alone.
pub Lacks-decimal : (n byte : ℕ) → n < 2 ^ 64 → byte < 48 → Lacks (decimal n) byte
Lacks-decimal n byte small low =
    All-from_get_or (λ b. b ≢ byte) (decimal n) 0 (λ i here.
    let digit = digit_at (decimal n) i ((decimal_is_IsNumeral n small).0.1) here in
    omega arith)

-- two numbers, parted by a space
abbrev pub pair_text : ℕ → ℕ → List ℕ
pair_text m n = decimal m ++ 32 ∷ decimal n

-- the first word of an operation's text
abbrev pub word_of : Op → List ℕ
word_of (Put key value) = codes "put"
word_of (Get key) = codes "get"
word_of (Del key) = codes "del"
word_of (Set key value) = codes "set"

-- what stands after the first space
abbrev pub words_of : Op → List ℕ
words_of (Put key value) = pair_text key value
words_of (Get key) = decimal key
words_of (Del key) = decimal key
words_of (Set key value) = pair_text key value

pub op_text_is : (op : Op) → op_text op ≡ word_of op ++ 32 ∷ words_of op
op_text_is (Put key value) = ap (λ x. codes "put " ++ x) (append_assoc (decimal key) (codes " ") (decimal value))
op_text_is (Set key value) = ap (λ x. codes "set " ++ x) (append_assoc (decimal key) (codes " ") (decimal value))
op_text_is _ = refl

three : (a b c byte : ℕ) → a ≢ byte → b ≢ byte → c ≢ byte → Lacks (a ∷ b ∷ c ∷ []) byte
three a b c byte na nb nc =
    All-cons (λ x. x ≢ byte) a (b ∷ c ∷ []) na (All-cons (λ x. x ≢ byte) b (c ∷ []) nb
    (All-cons (λ x. x ≢ byte) c [] nc (All-nil (λ x. x ≢ byte))))

-- The words have none of these bytes.
pub Lacks-word : (op : Op) (byte : ℕ) → byte < 97 → Lacks (word_of op) byte
Lacks-word (Put key value) byte low = three 112 117 116 byte (omega arith) (omega arith) (omega arith)
Lacks-word (Get key) byte low = three 103 101 116 byte (omega arith) (omega arith) (omega arith)
Lacks-word (Del key) byte low = three 100 101 108 byte (omega arith) (omega arith) (omega arith)
Lacks-word (Set key value) byte low = three 115 101 116 byte (omega arith) (omega arith) (omega arith)

Lacks-pair : (m n byte : ℕ) → m < 2 ^ 64 → n < 2 ^ 64 → byte < 32 → Lacks (pair_text m n) byte
Lacks-pair m n byte is_m is_n low =
    All-append (λ x. x ≢ byte) (decimal m) (32 ∷ decimal n) (Lacks-decimal m byte is_m (omega arith))
    (All-cons (λ x. x ≢ byte) 32 (decimal n) (omega arith) (Lacks-decimal n byte is_n (omega arith)))

Lacks-words : (op : Op) (byte : ℕ) → FitsWords op → byte < 32 → Lacks (words_of op) byte
Lacks-words (Put key value) byte fits low = Lacks-pair key value byte fits.0 fits.1 low
Lacks-words (Get key) byte fits low = Lacks-decimal key byte fits (omega arith)
Lacks-words (Del key) byte fits low = Lacks-decimal key byte fits (omega arith)
Lacks-words (Set key value) byte fits low = Lacks-pair key value byte fits.0 fits.1 low

-- An operation's text has no byte below 32, so no byte 10.
pub Lacks-op_text : (op : Op) (byte : ℕ) → FitsWords op → byte < 32 → Lacks (op_text op) byte
Lacks-op_text op byte fits low =
    rw (op_text_is op) (All-append (λ x. x ≢ byte) (word_of op) (32 ∷ words_of op) (Lacks-word op byte (omega arith))
    (All-cons (λ x. x ≢ byte) 32 (words_of op) (omega arith) (Lacks-words op byte fits low)))

-- Two numbers are told by their text.
pub pair_text-injective : (m n m' n' : ℕ) → m < 2 ^ 64 → n < 2 ^ 64 → m' < 2 ^ 64 → n' < 2 ^ 64 → pair_text m n ≡ pair_text m' n'
    → (m ≡ m') × (n ≡ n')
pair_text-injective m n m' n' is_m is_n is_m' is_n' e =
    let parts = same_parts 32 (decimal m) (decimal m') (decimal n) (decimal n') (Lacks-decimal m 32 is_m (omega arith))
    (Lacks-decimal m' 32 is_m' (omega arith)) e in
    (decimal_injective m m' is_m is_m' parts.0, decimal_injective n n' is_n is_n' parts.1)

-- The first word and the others tell the operation.
same_op : (o p : Op) → FitsWords o → FitsWords p → word_of o ≡ word_of p → words_of o ≡ words_of p → o ≡ p
same_op (Put k v) (Put l w) f g e h = let both = pair_text-injective k v l w f.0 f.1 g.0 g.1 h in cc (both.0, both.1)
same_op (Get k) (Get l) f g e h = ap Get (decimal_injective k l f g h)
same_op (Del k) (Del l) f g e h = ap Del (decimal_injective k l f g h)
same_op (Set k v) (Set l w) f g e h = let both = pair_text-injective k v l w f.0 f.1 g.0 g.1 h in cc (both.0, both.1)
-- two different words differ in their first letter
same_op _ _ f g e h = absurd (omega (arith, ap (λ x. get_or x 0 0) e))

-- An operation is told by its text.
pub op_text-injective : (o p : Op) → FitsWords o → FitsWords p → op_text o ≡ op_text p → o ≡ p
op_text-injective o p f g e =
    let parts = same_parts 32 (word_of o) (word_of p) (words_of o) (words_of p) (Lacks-word o 32 (omega arith))
    (Lacks-word p 32 (omega arith)) (sym (op_text_is o) ∙ e ∙ op_text_is p) in
    same_op o p f g parts.0 parts.1

-- Bytes that are two numbers are parted at the space between them.
pub pair_parts : (bytes first second : List ℕ) (m n : ℕ) → m < 2 ^ 64 → IsParted bytes 32 first second
    → bytes ≡ decimal m ++ codes " " ++ decimal n → (first ≡ decimal m) × (second ≡ decimal n)
pair_parts bytes first second m n small p e =
    same_parts 32 first (decimal m) second (decimal n) p.first (Lacks-decimal m 32 small (omega arith))
    (sym p.whole ∙ e ∙ append_assoc (decimal m) (codes " ") (decimal n))

-- An operation's text begins with a letter.
pub first_of_op_text : (op : Op) → 97 ≤ get_or (op_text op) 0 0
first_of_op_text (Put key value) = omega arith
first_of_op_text _ = omega arith

-- Its first word has three letters.
pub fourth_of_op_text : (op : Op) → get_or (op_text op) 3 0 ≡ 32
fourth_of_op_text (Put key value) = refl
fourth_of_op_text _ = refl

-- A line after some scripts gives one list of scripts, and so does a text.

-- The three kinds of lines exclude one another.
no_blank_script : (line : List ℕ) → IsBlank line → line ≡ codes "script" → ⊥
no_blank_script line (inl e) s = omega (arith, ap length (sym e ∙ s))
no_blank_script line (inr b) s = omega (arith, ap (λ x. get_or x 0 0) (sym b.1 ∙ s))

no_blank_op : (line : List ℕ) (op : Op) → IsBlank line → line ≡ op_text op → ⊥
no_blank_op line op (inl e) t = omega (arith, first_of_op_text op, ap (λ x. get_or x 0 0) (sym e ∙ t))
no_blank_op line op (inr b) t = omega (arith, first_of_op_text op, ap (λ x. get_or x 0 0) (sym b.1 ∙ t))

no_script_op : (op : Op) → op_text op ≡ codes "script" → ⊥
no_script_op op e = omega (arith, fourth_of_op_text op, ap (λ x. get_or x 3 0) e)

same_begun : {most : ℕ} {before a b : List (List Op)} {line : List ℕ} → BeginsScript most before line a → BeginsScript most before line b
    → a ≡ b
same_begun s t = s.begun ∙ sym t.begun

same_added : {before a b : List (List Op)} {line : List ℕ} → AddsOperation before line a → AddsOperation before line b → a ≡ b
same_added {before} s t =
    s.added ∙ ap (with_op before) (op_text-injective s.op t.op s.fits t.fits (sym s.text ∙ t.text)) ∙ sym t.added

module _ (most : ℕ) where
  pub one_after : (before a b : List (List Op)) (line : List ℕ) → IsGoodLineUpTo most before line a → IsGoodLineUpTo most before line b
      → a ≡ b
  one_after before a b line (inl s) (inl t) = s.1 ∙ sym t.1
  one_after before a b line (inl s) (inr (inl t)) = absurd (no_blank_script line s.0 t.text)
  one_after before a b line (inl s) (inr (inr t)) = absurd (no_blank_op line t.op s.0 t.text)
  one_after before a b line (inr (inl s)) (inl t) = absurd (no_blank_script line t.0 s.text)
  one_after before a b line (inr (inl s)) (inr (inl t)) = same_begun s t
  one_after before a b line (inr (inl s)) (inr (inr t)) = absurd (no_script_op t.op (sym t.text ∙ s.text))
  one_after before a b line (inr (inr s)) (inl t) = absurd (no_blank_op line s.op t.0 s.text)
  one_after before a b line (inr (inr s)) (inr (inl t)) = absurd (no_script_op s.op (sym s.text ∙ t.text))
  one_after before a b line (inr (inr s)) (inr (inr t)) = same_added s t

  -- One list of scripts is left by the same lines.
  pub one_reading : (lines : List (List ℕ)) (before a b : List (List Op)) → ReadsUpTo most before lines a → ReadsUpTo most before lines b
      → a ≡ b
  one_reading [] before a b r s = r ∙ sym s
  one_reading (line ∷ lines) before a b r s =
      let same : r.0 ≡ s.0 = one_after before r.0 s.0 line r.1 s.1 in
      let P : List (List Op) → Type 0 = λ x. ReadsUpTo most x lines a in
      one_reading lines s.0 a b (subst P same r.2) s.2

  -- there are no more scripts than there may be
  good_few : (before after : List (List Op)) (line : List ℕ) → IsGoodLineUpTo most before line after → length before ≤ most
      → length after ≤ most
  good_few before after line (inl s) few = (let n = ap length s.1 in omega arith)
  good_few before after line (inr (inl s)) few =
      (let n = ap length s.begun in let room = s.room in omega (arith, length-append before ([] ∷ [])))
  good_few before after line (inr (inr s)) few = (let n = ap length s.added ∙ length-with_op before s.op in omega arith)

  pub reads_few : (lines : List (List ℕ)) (before after : List (List Op)) → ReadsUpTo most before lines after → length before ≤ most
      → length after ≤ most
  reads_few [] before after r few = (let n = ap length r in omega arith)
  reads_few (line ∷ lines) before after r few = reads_few lines r.0 after r.2 (good_few before r.0 line r.1 few)

  -- lines after lines
  pub Reads-append : (lines more : List (List ℕ)) (before between after : List (List Op)) → ReadsUpTo most before lines between
      → ReadsUpTo most between more after → ReadsUpTo most before (lines ++ more) after
  Reads-append [] more before between after r s = let P : List (List Op) → Type 0 = λ x. ReadsUpTo most x more after in subst P r s
  Reads-append (line ∷ lines) more before between after r s = (r.0, r.1, Reads-append lines more r.0 between after r.2 s)

  pub Reads-split : (lines more : List (List ℕ)) (before after : List (List Op)) → ReadsUpTo most before (lines ++ more) after
      → (between : List (List Op)) × ReadsUpTo most before lines between × ReadsUpTo most between more after
  Reads-split [] more before after r = (before, refl, r)
  Reads-split (line ∷ lines) more before after r =
      let h = Reads-split lines more r.0 after r.2 in
      (h.0, (r.0, r.1, h.1), h.2)

  slice_get_at : (xs : List (List ℕ)) (y : List ℕ) (ys : List (List ℕ)) → slice_get (xs ++ y ∷ ys) (length xs) ≡ Some y
  slice_get_at [] y ys = refl
  slice_get_at (x ∷ xs) y ys = slice_get_at xs y ys

  -- What parsing knows when some lines are read: these are the first of the text's, the others are those of the rest,
  -- and the scripts are what they left.
  pub record HasRead (text rest : List ℕ) (number : ℕ) (scripts : List (List Op)) : Type 0 where
    pub lines : List (List ℕ)
    pub cut : lines_of text ≡ lines ++ lines_of rest
    pub read : ReadsUpTo most [] lines scripts
    pub counted : number ≡ min (length lines) 4294967295

  pub HasRead-start : (text : List ℕ) → HasRead text text 0 []
  HasRead-start text = record { lines = []; cut = refl; read = refl; counted = refl }

  module _ {text rest : List ℕ} {number : ℕ} {scripts : List (List Op)} (h : HasRead text rest number scripts) where
    joined : (line after : List ℕ) → lines_of rest ≡ line ∷ lines_of after → lines_of text ≡ h.lines ++ line ∷ lines_of after
    joined line after cut = h.cut ∙ ap (λ x. h.lines ++ x) cut

    pub HasRead-more : (line after : List ℕ) (next : ℕ) (now : List (List Op)) → lines_of rest ≡ line ∷ lines_of after
        → IsGoodLineUpTo most scripts line now → next ≡ min (number + 1) 4294967295 → HasRead text after next now
    HasRead-more line after next now cut good is = record {
      lines = h.lines ++ line ∷ [];
      cut = joined line after cut ∙ sym (append_assoc h.lines (line ∷ []) (lines_of after));
      read = Reads-append h.lines (line ∷ []) [] scripts now h.read (now, good, refl);
      counted = omega (arith, h.counted, length-append h.lines (line ∷ []));
    }

    -- at the text's end
    whole : rest ≡ [] → lines_of text ≡ h.lines
    whole end = h.cut ∙ ap (λ x. h.lines ++ lines_of x) end ∙ append-nil h.lines

    pub is_read : rest ≡ [] → IsScriptTextUpTo most text scripts
    is_read end = let P : List (List ℕ) → Type 0 = λ x. ReadsUpTo most [] x scripts in subst P (sym (whole end)) h.read

    pub is_read_once : rest ≡ [] → (others : List (List Op)) → IsScriptTextUpTo most text others → others ≡ scripts
    is_read_once end others r = one_reading (lines_of text) [] others scripts r (is_read end)

    -- at a bad line
    module _ (line after : List ℕ) (cut : lines_of rest ≡ line ∷ lines_of after)
        (bad : (now : List (List Op)) → IsGoodLineUpTo most scripts line now → ⊥) where
      pub is_first_bad : (next : ℕ) → next ≡ min (number + 1) 4294967295
          → (first : ℕ) × IsFirstBadUpTo most text first × (next ≡ min first 4294967295)
      is_first_bad next is =
          let number_is : (length h.lines + 1) - 1 ≡ length h.lines = omega arith in
          let all = joined line after cut in (
            length h.lines + 1,
            record {
              before = scripts;
              line = line;
              counted = omega arith;
              there = rw (number_is, all) (slice_get_at h.lines line (lines_of after));
              good = rw (number_is, all, take_at h.lines (line ∷ lines_of after) (length h.lines) refl) h.read;
              bad = bad;
            },
            omega (arith, h.counted),
          )

      pub is_not_read : (others : List (List Op)) → IsScriptTextUpTo most text others → ⊥
      is_not_read others r =
          let P : List (List ℕ) → Type 0 = λ x. ReadsUpTo most [] x others in
          let two = Reads-split h.lines (line ∷ lines_of after) [] others (subst P (joined line after cut) r) in
          let same : two.0 ≡ scripts = one_reading h.lines [] two.0 scripts two.1 h.read in
          let Q : List (List Op) → Type 0 = λ x. IsGoodLineUpTo most x line two.2.0 in
          bad two.2.0 (subst Q same two.2.1)

-- The text of scripts, one operation and one script after another, and that it is read again as these scripts.

-- one more of a list
flat_map_take : {X A : Type 0} (f : X → List A) (bs : List A) (xs : List X) (i : ℕ) (d : X) → i < length xs
    → (bs ++ flat_map f (take i xs)) ++ f (get_or xs i d) ≡ bs ++ flat_map f (take (i + 1) xs)
flat_map_take f bs xs i d here =
    flat_map_more f bs (take i xs) (get_or xs i d) ∙ ap (λ x. bs ++ flat_map f x) (sym (take_more xs i d here))

-- one more operation of the script stands in the text
pub record AddsOpText (before after : List ℕ) (script : List Op) (i : ℕ) : Type 0 where
  pub text : after ≡ before ++ script_text (take (i + 1) script)
  pub fits : All FitsWords (take (i + 1) script)

pub script_text-more : (before out said after : List ℕ) (script : List Op) (i : ℕ) (d : Op) → i < length script
    → out ≡ before ++ script_text (take i script) → All FitsWords (take i script)
    → said ≡ out ++ op_text (get_or script i d) → FitsWords (get_or script i d) → after ≡ said ++ 10 ∷ []
    → AddsOpText before after script i
script_text-more before out said after script i d here is fits more fit ends = record {
  text =
      ends ∙ ap (λ x. x ++ 10 ∷ []) (more ∙ ap (λ x. x ++ op_text (get_or script i d)) is)
      ∙ append_assoc (before ++ script_text (take i script)) (op_text (get_or script i d)) (10 ∷ [])
      ∙ append_assoc before (script_text (take i script)) (op_line (get_or script i d))
      ∙ ap (λ x. before ++ x) (flat_map_take op_line (codes "script\n") script i d here);
  fits = All-more FitsWords script i d here fits fit;
}

-- one more script stands in the text
pub record AddsScriptText (after : List ℕ) (scripts : List (List Op)) (i : ℕ) : Type 0 where
  pub text : after ≡ scripts_text (take (i + 1) scripts)
  pub fits : All (All FitsWords) (take (i + 1) scripts)

pub scripts_text-more : (out after : List ℕ) (scripts : List (List Op)) (i : ℕ) (script : List Op) → slice_get scripts i ≡ Some script
    → out ≡ scripts_text (take i scripts) → All (All FitsWords) (take i scripts)
    → after ≡ out ++ script_text script → All FitsWords script
    → AddsScriptText after scripts i
scripts_text-more out after scripts i script there is fits more fit =
    let here : i < length scripts = slice_get_within scripts i script there in
    let e : get_or scripts i [] ≡ script = get_or_from_slice_get scripts i script [] there in
    let P : List Op → Type 0 = All FitsWords in
    record {
      text = more ∙ ap (λ x. x ++ script_text script) is ∙ ap (λ x. scripts_text (take i scripts) ++ script_text x) (sym e)
          ∙ flat_map_take script_text [] scripts i [] here;
      fits = All-more (All FitsWords) scripts i [] here fits (subst P (sym e) fit);
    }

-- the lines of a script
abbrev script_lines : List Op → List (List ℕ)
script_lines script = codes "script" ∷ map op_text script

op_lines-ended : (ops : List Op) → flat_map op_line ops ≡ flat_map ended (map op_text ops)
op_lines-ended [] = refl
op_lines-ended (op ∷ ops) = ap (λ x. op_line op ++ x) (op_lines-ended ops)

scripts_text-ended : (scripts : List (List Op)) → scripts_text scripts ≡ flat_map ended (flat_map script_lines scripts)
scripts_text-ended [] = refl
scripts_text-ended (script ∷ scripts) =
    ap (λ x. codes "script\n" ++ x) (ap (λ x. x ++ scripts_text scripts) (op_lines-ended script)
    ∙ ap (λ x. flat_map ended (map op_text script) ++ x) (scripts_text-ended scripts)
    ∙ sym (flat_map-append ended (map op_text script) (flat_map script_lines scripts)))

Lacks-script : Lacks (codes "script") 10
Lacks-script = All-from_recursion (λ b. b ≢ 10) (codes "script")
    (omega arith, (omega arith, (omega arith, (omega arith, (omega arith, (omega arith, tt))))))

Lacks-lines : (scripts : List (List Op)) → All (All FitsWords) scripts → All (λ line. Lacks line 10) (flat_map script_lines scripts)
Lacks-lines [] fits = All-nil (λ line. Lacks line 10)
Lacks-lines (script ∷ scripts) fits =
    All-cons (λ line. Lacks line 10) (codes "script") (map op_text script ++ flat_map script_lines scripts) Lacks-script
    (All-append (λ line. Lacks line 10) (map op_text script) (flat_map script_lines scripts)
    (All-map (λ line. Lacks line 10) op_text script
    (All-weaker FitsWords (λ op. Lacks (op_text op) 10) (λ op fit. Lacks-op_text op 10 fit (omega arith)) script
    (All-head (All FitsWords) script scripts fits)))
    (Lacks-lines scripts (All-tail (All FitsWords) script scripts fits)))

lines_of-scripts_text : (scripts : List (List Op)) → All (All FitsWords) scripts
    → lines_of (scripts_text scripts) ≡ flat_map script_lines scripts
lines_of-scripts_text scripts fits =
    ap lines_of (scripts_text-ended scripts) ∙ lines_of-flat_map (flat_map script_lines scripts) (Lacks-lines scripts fits)

op_count-cons : (script : List Op) (scripts : List (List Op)) → op_count (script ∷ scripts) ≡ length script + op_count scripts
op_count-cons script scripts = omega (arith, sum_by-append length (script ∷ []) scripts)

-- The operations of the last script are read one after another.
Reads-ops : (before : List (List Op)) (done ops : List Op) → All FitsWords ops → op_count before + length done + length ops ≤ 1048576
    → Reads (before ++ done ∷ []) (map op_text ops) (before ++ (done ++ ops) ∷ [])
Reads-ops before done [] fits room = ap (λ x. before ++ x ∷ []) (append-nil done)
Reads-ops before done (op ∷ ops) fits room =
    let P : List Op → Type 0 = λ x. Reads (before ++ (done ++ op ∷ []) ∷ []) (map op_text ops) (before ++ x ∷ []) in (
      before ++ (done ++ op ∷ []) ∷ [],
      inr (inr (record {
        op = op;
        text = refl;
        fits = All-head FitsWords op ops fits;
        script = omega (arith, length-append before (done ∷ []));
        room = omega (arith, op_count-last before done);
        added = sym (with_op-last before done op);
      })),
      subst P (append_assoc done (op ∷ []) ops) (Reads-ops before (done ++ op ∷ []) ops (All-tail FitsWords op ops fits)
          (omega (arith, length-append done (op ∷ [])))),
    )

Reads-script : (before : List (List Op)) (script : List Op) → All FitsWords script → length before < 64
    → op_count before + length script ≤ 1048576
    → Reads before (script_lines script) (before ++ script ∷ [])
Reads-script before script fits few room = (
  before ++ [] ∷ [],
  inr (inl (record { text = refl; room = few; begun = refl })),
  Reads-ops before [] script fits (omega arith),
)

Reads-scripts : (before scripts : List (List Op)) → All (All FitsWords) scripts → length before + length scripts ≤ 64
    → op_count before + op_count scripts ≤ 1048576
    → Reads before (flat_map script_lines scripts) (before ++ scripts)
Reads-scripts before [] fits few room = append-nil before
Reads-scripts before (script ∷ scripts) fits few room =
    let counted = op_count-cons script scripts in
    let others : Reads (before ++ script ∷ []) (flat_map script_lines scripts) ((before ++ script ∷ []) ++ scripts) =
    Reads-scripts (before ++ script ∷ []) scripts (All-tail (All FitsWords) script scripts fits)
    (omega (arith, length-append before (script ∷ []))) (omega (arith, op_count-last before script)) in
    let P : List (List Op) → Type 0 = λ x. Reads (before ++ script ∷ []) (flat_map script_lines scripts) x in
    Reads-append 64 (script_lines script) (flat_map script_lines scripts) before (before ++ script ∷ []) (before ++ script ∷ scripts)
    (Reads-script before script (All-head (All FitsWords) script scripts fits) (omega arith) (omega arith))
    (subst P (append_assoc before (script ∷ []) scripts) others)

pub scripts_text-again : (scripts : List (List Op)) → All (All FitsWords) scripts → length scripts ≤ 64 → op_count scripts ≤ 1048576
    → IsScriptText (scripts_text scripts) scripts
scripts_text-again scripts fits few room =
    let P : List (List ℕ) → Type 0 = λ x. Reads [] x scripts in
    subst P (sym (lines_of-scripts_text scripts fits)) (Reads-scripts [] scripts fits (omega arith) (omega arith))

-- What is wrong with a bad line, as far as the line alone shows it.
-- Source: docs/FORMATS.md, "Common mistakes".
use Rattle.std.specs.Prelude.{◌≡◌, ◌≢◌, ℕ, ◌^◌, ◌<◌, ◌≤◌, ◌-◌, ◌⊎◌, List, [], ◌∷◌, All, Contains, slice_index_or, codes, decimal}
use Rattle.command_words.specs.declared.line_faults.LineFault.{LineFault}
use Rattle.command_words.specs.declared.line_faults.LineFault.TheVariants.{CarriageReturn, Tab, ByteOrderMark, Spacing, Unknown, TooFew, TooMany, NoNumber, TooLarge, OneScriptTooMany, Misplaced}
use Rattle.script_text.specs.Grammar.{lines_of, Lacks, IsParted}

-- the line of the text with this number, counted from 1, or nothing
abbrev pub line_at : List ℕ → ℕ → List ℕ
line_at text number = slice_index_or (lines_of text) (number - 1) []

-- the words with which an operation of one number begins, and those of two
abbrev pub TakesOne : List ℕ → Type 0
TakesOne word = (word ≡ codes "get") ⊎ (word ≡ codes "del")

abbrev pub TakesTwo : List ℕ → Type 0
TakesTwo word = (word ≡ codes "put") ⊎ (word ≡ codes "set")

-- a word that no line begins with but a comment
abbrev pub IsUnknown : List ℕ → Type 0
IsUnknown word = (TakesOne word → ⊥) × (TakesTwo word → ⊥) × (word ≢ codes "script")

-- a number below 2^64 in decimal
abbrev pub IsNumber : List ℕ → Type 0
IsNumber word = (n : ℕ) × (n < 2 ^ 64) × (word ≡ decimal n)

-- digits, of which the first isn't 0
abbrev pub AreDigits : List ℕ → Type 0
AreDigits word = All (λ b. (48 ≤ b) × (b ≤ 57)) word × ((rest : List ℕ) → word ≡ 48 ∷ rest → ⊥)

-- A word where a number should stand. Where it is one, the operation stands where none may.
abbrev pub IsFaultOfNumber : LineFault → List ℕ → Type 0
IsFaultOfNumber Spacing word = word ≡ []
IsFaultOfNumber Misplaced word = IsNumber word
IsFaultOfNumber TooLarge word = (word ≢ []) × (IsNumber word → ⊥) × AreDigits word
IsFaultOfNumber NoNumber word = (word ≢ []) × (IsNumber word → ⊥) × (AreDigits word → ⊥)
IsFaultOfNumber _ word = ⊥

-- What follows a word that takes one number.
abbrev pub IsFaultOfOne : LineFault → List ℕ → Type 0
IsFaultOfOne fault rest =
    (Lacks rest 32 × IsFaultOfNumber fault rest)
    ⊎ ((front back : List ℕ) × IsParted rest 32 front back
    × (((front ≡ []) × (fault ≡ Spacing)) ⊎ ((front ≢ []) × (fault ≡ TooMany))))

-- What follows a word that takes two.
abbrev pub IsFaultOfTwo : LineFault → List ℕ → Type 0
IsFaultOfTwo fault rest =
    (Lacks rest 32 × (fault ≡ TooFew))
    ⊎ ((first second : List ℕ) × IsParted rest 32 first second
    × ((IsNumber first × IsFaultOfOne fault second) ⊎ ((IsNumber first → ⊥) × IsFaultOfNumber fault first)))

-- A line of one word.
abbrev pub IsFaultOfWord : LineFault → List ℕ → Type 0
IsFaultOfWord Unknown word = IsUnknown word
IsFaultOfWord TooFew word = TakesOne word ⊎ TakesTwo word
IsFaultOfWord OneScriptTooMany word = word ≡ codes "script"
IsFaultOfWord _ word = ⊥

-- A line of several words, or with a space at an end.
abbrev pub IsFaultOfWords : LineFault → List ℕ → List ℕ → Type 0
IsFaultOfWords fault word rest =
    ((word ≡ []) × (fault ≡ Spacing))
    ⊎ ((word ≡ codes "script") × (fault ≡ TooMany))
    ⊎ (TakesOne word × IsFaultOfOne fault rest)
    ⊎ (TakesTwo word × IsFaultOfTwo fault rest)
    ⊎ ((word ≢ []) × IsUnknown word × (fault ≡ Unknown))

-- the bytes 239, 187 and 191 first
abbrev pub HasMark : List ℕ → Type 0
HasMark line = (rest : List ℕ) × (line ≡ 239 ∷ 187 ∷ 191 ∷ rest)

-- What no script has at all goes before what is wrong with words.
abbrev pub IsFaultOf : LineFault → List ℕ → Type 0
IsFaultOf fault line =
    (Contains line 13 × (fault ≡ CarriageReturn))
    ⊎ ((Contains line 13 → ⊥) × Contains line 9 × (fault ≡ Tab))
    ⊎ ((Contains line 13 → ⊥) × (Contains line 9 → ⊥) × HasMark line × (fault ≡ ByteOrderMark))
    ⊎ ((Contains line 13 → ⊥) × (Contains line 9 → ⊥) × (HasMark line → ⊥) × Lacks line 32 × IsFaultOfWord fault line)
    ⊎ ((Contains line 13 → ⊥) × (Contains line 9 → ⊥) × (HasMark line → ⊥)
    × ((word rest : List ℕ) × IsParted line 32 word rest × IsFaultOfWords fault word rest))

-- the line that tells a fault, with its end
abbrev pub fault_line : LineFault → List ℕ
fault_line CarriageReturn = codes "the line has a carriage return\n"
fault_line Tab = codes "the line has a tab\n"
fault_line ByteOrderMark = codes "the line begins with a byte order mark\n"
fault_line Spacing = codes "the line has a space that is not between two words\n"
fault_line Unknown = codes "the line begins with none of script, put, get, del, set and #\n"
fault_line TooFew = codes "the line lacks a key or a value\n"
fault_line TooMany = codes "the line has more words than its first one takes\n"
fault_line NoNumber = codes "the line has a key or a value that is no number: digits alone, without a zero before them\n"
fault_line TooLarge = codes "the line has a number above 18446744073709551615\n"
fault_line OneScriptTooMany = codes "the line begins one script too many: a text has at most 64, and 63 for watch\n"
fault_line Misplaced = codes "the operation stands before the first line script, or after 1048576 others\n"

-- The grammar of scripts: where bytes are parted, lines and operations, and which texts are scripts.
use Rattle.std.specs.Prelude.{◌≡◌, ◌≢◌, ℕ, List, ◌∷◌, ◌++◌, All, ◌==◌, if◌then◌else◌, [], codes, decimal, flat_map, ◌-◌, ◌<◌, ◌≤◌, ◌⊎◌, length, take, slice_get, Some}
use Rattle.prcu_model.specs.declared.operation.Op.{Op}
use Rattle.prcu_model.specs.declared.operation.Op.TheVariants.{Put, Get, Del, Set}
use Rattle.prcu_model.specs.Scripts.{with_op, op_count, FitsWords}

-- A list of bytes, parted at the first of some byte.
-- Source: docs/FORMATS.md, "Scripts".

-- no such byte is among them
abbrev pub Lacks : List ℕ → ℕ → Type 0
Lacks bytes byte = All (λ b. b ≢ byte) bytes

-- front is what stands before the first such byte, and rest what stands after it
pub record IsParted (bytes : List ℕ) (byte : ℕ) (front rest : List ℕ) : Type 0 where
  pub whole : bytes ≡ front ++ byte ∷ rest
  pub first : Lacks front byte

-- The lines of a text, and the text of an operation.
-- Source: docs/FORMATS.md, "Scripts".

-- a byte before the first of these lines, or alone where there is none
abbrev pub onto_first : ℕ → List (List ℕ) → List (List ℕ)
onto_first byte [] = (byte ∷ []) ∷ []
onto_first byte (line ∷ lines) = (byte ∷ line) ∷ lines

-- The text, cut at each byte 10. Where it ends with byte 10, nothing follows that.
abbrev pub lines_of : List ℕ → List (List ℕ)
lines_of [] = []
lines_of (byte ∷ bytes) = if byte == 10 then [] ∷ lines_of bytes else onto_first byte (lines_of bytes)

-- an operation's words, parted by one space. A number has no leading zero.
abbrev pub op_text : Op → List ℕ
op_text (Put key value) = codes "put " ++ decimal key ++ codes " " ++ decimal value
op_text (Get key) = codes "get " ++ decimal key
op_text (Del key) = codes "del " ++ decimal key
op_text (Set key value) = codes "set " ++ decimal key ++ codes " " ++ decimal value

abbrev pub op_line : Op → List ℕ
op_line op = op_text op ++ 10 ∷ []

-- one script's lines, without comments and blank lines
abbrev pub script_text : List Op → List ℕ
script_text script = codes "script\n" ++ flat_map op_line script

-- the one text of scripts without comments and blank lines
abbrev pub scripts_text : List (List Op) → List ℕ
scripts_text scripts = flat_map script_text scripts

-- Which texts are scripts.
-- Source: docs/FORMATS.md, "Scripts".

-- nothing at all, or a comment, which begins with `#`
abbrev pub IsBlank : List ℕ → Type 0
IsBlank line = (line ≡ []) ⊎ ((comment : List ℕ) × (line ≡ codes "#" ++ comment))

-- The line begins one more script, of which there are at most so many.
pub record BeginsScript (most : ℕ) (before : List (List Op)) (line : List ℕ) (after : List (List Op)) : Type 0 where
  pub text : line ≡ codes "script"
  pub room : length before < most
  pub begun : after ≡ before ++ [] ∷ []

-- The line adds an operation to the last script. There are at most 1,048,576 in all, and a number is below 2^64.
pub record AddsOperation (before : List (List Op)) (line : List ℕ) (after : List (List Op)) : Type 0 where
  pub op : Op
  pub text : line ≡ op_text op
  pub fits : FitsWords op
  pub script : 0 < length before
  pub room : op_count before < 1048576
  pub added : after ≡ with_op before op

-- The line is good after the scripts that were read before it, and leaves these.
abbrev pub IsGoodLineUpTo : ℕ → List (List Op) → List ℕ → List (List Op) → Type 0
IsGoodLineUpTo most before line after = (IsBlank line × (after ≡ before)) ⊎ BeginsScript most before line after
    ⊎ AddsOperation before line after

-- The lines are good, one after another.
abbrev pub ReadsUpTo : ℕ → List (List Op) → List (List ℕ) → List (List Op) → Type 0
ReadsUpTo most before [] after = after ≡ before
ReadsUpTo most before (line ∷ lines) after = (between : List (List Op)) × IsGoodLineUpTo most before line between
    × ReadsUpTo most between lines after

-- The text is in the grammar, where it may hold so many scripts, and these are its scripts.
abbrev pub IsScriptTextUpTo : ℕ → List ℕ → List (List Op) → Type 0
IsScriptTextUpTo most text scripts = ReadsUpTo most [] (lines_of text) scripts

-- The line with this number, counted from 1, is the first that isn't good after the lines before it.
pub record IsFirstBadUpTo (most : ℕ) (text : List ℕ) (number : ℕ) : Type 0 where
  pub before : List (List Op)
  pub line : List ℕ
  pub counted : 1 ≤ number
  pub there : slice_get (lines_of text) (number - 1) ≡ Some line
  pub good : ReadsUpTo most [] (take (number - 1) (lines_of text)) before
  pub bad : (after : List (List Op)) → IsGoodLineUpTo most before line after → ⊥

-- A text holds at most 64 scripts.
abbrev pub Reads : List (List Op) → List (List ℕ) → List (List Op) → Type 0
Reads = ReadsUpTo 64

abbrev pub IsScriptText : List ℕ → List (List Op) → Type 0
IsScriptText = IsScriptTextUpTo 64

abbrev pub IsFirstBad : List ℕ → ℕ → Type 0
IsFirstBad = IsFirstBadUpTo 64

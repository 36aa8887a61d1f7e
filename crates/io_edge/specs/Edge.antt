-- Bytes that come from outside or go there: of any source and sink, of a whole text, in memory, and of std's streams.
use Rattle.std.specs.Prelude.{◌≡◌, ℕ, ◌+◌, ◌<◌, ◌⊎◌, min, List, [], ◌++◌, Option, Some, None, zero, suc, ◌≤◌, ◌↔◌, length}

-- What is known of bytes that come from outside or go there.
-- Source: docs/ARCHITECTURE.md, "The edge".

-- A count of faults went up, or stands at the last value, from which it can't go up.
abbrev pub Rose : ℕ → ℕ → Type 0
Rose before after = (before < after) ⊎ (after ≡ 18446744073709551615)

-- One more, up to the last value, at which a count stays.
abbrev pub raised : ℕ → ℕ
raised count = min (count + 1) 18446744073709551615

-- Where it is told which bytes are left, these were the first of them, and the others are left.
abbrev pub Takes : Option (List ℕ) → Option (List ℕ) → List ℕ → Type 0
Takes None after taken = after ≡ None
Takes (Some bytes) after taken = (rest : List ℕ) × (bytes ≡ taken ++ rest) × (after ≡ Some rest)

-- Where it is told which bytes are left, none is.
abbrev pub IsAtEnd : Option (List ℕ) → Type 0
IsAtEnd None = Unit {0}
IsAtEnd (Some bytes) = bytes ≡ []

-- Where it is told which bytes were written, these came after them.
abbrev pub Appends : Option (List ℕ) → Option (List ℕ) → List ℕ → Type 0
Appends None after piece = after ≡ None
Appends (Some bytes) after piece = after ≡ Some (bytes ++ piece)

-- Where it is told which bytes were written, a front of the text came after them.
abbrev pub AppendsFront : Option (List ℕ) → Option (List ℕ) → List ℕ → Type 0
AppendsFront before after text = (front rest : List ℕ) × (text ≡ front ++ rest) × Appends before after front

-- What a call takes that reads up to a limit.
-- Source: docs/ARCHITECTURE.md, "The edge".

-- These bytes were taken, at most one past the limit. The text is too long exactly where they pass the limit.
abbrev pub TakesToLimit : ℕ → Option (List ℕ) → Option (List ℕ) → Type 0 → Type 0
TakesToLimit limit before after is_too_long =
    (taken : List ℕ) × Takes before after taken × (length taken ≤ limit + 1) × (is_too_long ↔ (limit < length taken))

-- So many reads, each of which took a byte at least, led from one source to another.
abbrev pub TookBytes : {S : Type 0} → (S → ℕ → ℕ → S → Type 0) → ℕ → S → S → Type 0
TookBytes reads zero before after = after ≡ before
TookBytes {S} reads (suc count) before after =
    (mid : S) × (room taken : ℕ) × TookBytes reads count before mid × (1 ≤ taken) × reads mid room taken after

-- Reads led from one source to another, of which the last told the end, and each other one took a byte at least. So none
-- came after the end was told.
pub record ReadsToEnd {S : Type 0} (reads : S → ℕ → ℕ → S → Type 0) (before after : S) : Type 0 where
  pub count : ℕ
  pub last : S
  pub room : ℕ
  pub took : TookBytes reads count before last
  pub some_room : 1 ≤ room
  pub told : reads last room 0 after

-- What contracts see of sources and sinks in memory.
-- Source: docs/ARCHITECTURE.md, "The edge".

-- A source in memory: the bytes that are left, how many a read gives at the most, the numbers of the calls that fail,
-- counted from 0, how many calls were made, and how many of them failed.
pub record Supply : Type 0 where
  pub rest : List ℕ
  pub piece : ℕ
  pub fails : List ℕ
  pub calls : ℕ
  pub faults : ℕ

-- A source in memory that never fails: the bytes that are left, and how many a read gives at the most.
pub record SteadySupply : Type 0 where
  pub rest : List ℕ
  pub piece : ℕ

-- A sink in memory: the bytes that were written, how many more have room, how many a write takes at the most, the
-- numbers of the calls that fail, counted from 0, how many calls were made, and how many of them failed.
pub record Store : Type 0 where
  pub bytes : List ℕ
  pub free : ℕ
  pub piece : ℕ
  pub fails : List ℕ
  pub calls : ℕ
  pub faults : ℕ

-- What contracts see of std's readers and writers.
-- Source: docs/ARCHITECTURE.md, "The edge".

-- How often a reader or a writer failed. Nothing else of it is known.
pub record Untold : Type 0 where
  pub faults : ℕ

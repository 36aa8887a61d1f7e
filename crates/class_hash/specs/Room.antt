-- What a seat remembers, beside its view.
-- Source: docs/HASH_DICTIONARY.md, "The hash dictionary".
use Rattle.std.specs.Prelude.{◌≡◌, ℕ, Option, Some, None}
use Rattle.hash_core.specs.declared.words.Field.{Field}
use Rattle.hash_core.specs.declared.words.Field.TheVariants.{Free as FreeWord, Retired as RetiredWord}
use Rattle.hash_core.specs.declared.view.Hold.{Hold}
use Rattle.class_hash.specs.declared.seat.Bucket.{Bucket}
use Rattle.class_hash.specs.declared.seat.Stock.{Stock}
use Rattle.class_hash.specs.declared.seat.Stock.TheVariants.{Free, Retired}
use Rattle.hash_core.specs.declared.view.View.{View}
use Rattle.class_hash.specs.Seats.{HasRoom, IsInside, IsBucket}

-- the bucket whose lock the seat holds, if it holds one
abbrev pub IsHolding : Option Bucket → Option Hold → Type 0
IsHolding None None = Unit {0}
IsHolding (Some bucket) (Some hold) = IsBucket bucket.class bucket.free bucket.retired hold
IsHolding _ _ = ⊥

-- The numbers that a seat keeps when the program runs.
pub record Numbers : Type 0 where
  pub place : ℕ
  pub places : ℕ
  pub tickets : ℕ
  pub key : Option ℕ
  pub bucket : Option Bucket

-- They are those of its view, which works at a place of the table.
pub record IsSeat (n : Numbers) (v : View) : Type 0 where
  pub room : HasRoom v
  pub place : v.place ≡ n.place
  pub places : v.places ≡ n.places
  pub tickets : v.tickets ≡ n.tickets
  pub key : IsInside n.key v.section
  pub bucket : IsHolding n.bucket v.hold

-- which list begins at a field
abbrev pub stock_of : Field → Option Stock
stock_of (FreeWord c) = Some Free
stock_of (RetiredWord c) = Some Retired
stock_of _ = None

-- with the first word of a list as it is now
abbrev pub remembers : Option Bucket → Option Stock → ℕ → Option Bucket
remembers None stock number = None
remembers (Some bucket) None number = Some bucket
remembers (Some bucket) (Some Free) number = Some (record bucket { free = Some number })
remembers (Some bucket) (Some Retired) number = Some (record bucket { retired = Some number })

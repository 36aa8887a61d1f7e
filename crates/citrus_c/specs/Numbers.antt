-- What a function of C says by a number.
-- Source: docs/EMBEDDING.md, "Statuses".
use Rattle.std.specs.Prelude.{◌≡◌, ℤ}
use Rattle.tree_handles.specs.Callers.{code_of}
use Rattle.tree_handles.specs.declared.status.Status.{Status}

-- it is the number of a status of which this holds
abbrev pub Says : ℤ → (Status → Type 0) → Type 0
Says number holds = (status : Status) × (number ≡ code_of status) × holds status

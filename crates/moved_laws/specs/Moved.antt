-- A table whose pairs moved to another one, by its marks. The marks h are all of the table at some moment; a seat has seen a beginning of them.
-- Source: docs/TREE_INVARIANT.md, "The tree's marks".
use Rattle.std.specs.Prelude.{◌≡◌, ℕ, ◌+◌, ◌<◌, ◌≤◌, List, [], ◌++◌, length, take, Option}
use mathlib.Core.Option.{some}
use mathlib.Core.List.{IsPrefix}
use lib.ListN.{get_elem?}
use Rattle.prcu_marks.specs.declared.mark.Mark.{Mark}
use Rattle.prcu_marks.specs.declared.mark.Mark.TheVariants.{Entered, Began, Ended}
use Rattle.prcu_marks.specs.Marks.{updates_of, moves_in, updates_behind}
use Rattle.prcu_model.specs.declared.operation.Update.{Update}
use Rattle.prcu_model.specs.Dictionary.{WasSaid}
use Rattle.core_state.specs.Marks.{Grace, WasLeft}

abbrev pub LastIsKnown : Type 0
LastIsKnown = (h seen : List Mark) → updates_behind h ≡ [] → IsPrefix seen h → 1 ≤ moves_in seen → updates_of seen ≡ updates_of h

abbrev pub KnownIsOne : Type 0
KnownIsOne = (h one other : List Mark) → updates_behind h ≡ [] → IsPrefix one h → 1 ≤ moves_in one → IsPrefix other h → 1 ≤ moves_in other
    → updates_of one ≡ updates_of other

-- A seat entered a section, and had seen no move by then: its look in the section found none, and so none of the marks that there were at the look
-- says so. A wait that began behind the move has ended.
abbrev pub EnteredBeforeIsLeft : Type 0
EnteredBeforeIsLeft = (h seen : List Mark) (e q c x b p n low high j : ℕ) → Grace h → IsPrefix seen h → moves_in seen ≡ 0
    → get_elem? seen e ≡ some (Entered q c x) → get_elem? h b ≡ some (Began p n low high) → 1 ≤ moves_in (take b h)
    → get_elem? h j ≡ some (Ended p n) → low ≤ x → x ≤ high → WasLeft h q c e j

-- A call was told this by what its seat has seen; the later updates are made elsewhere.
abbrev pub AnswersAreJoined : Type 0
AnswersAreJoined = (h seen : List Mark) (later : List Update) (key since : ℕ) (answer : Option ℕ) → IsPrefix seen h
    → WasSaid (updates_of seen) key since answer → WasSaid (updates_of h ++ later) key since answer

-- A table whose pairs moved, by its marks.
use Rattle.std.proofs.Common.{◌≡◌, ℕ, ◌+◌, ◌<◌, ◌≤◌, List, [], ◌∷◌, ◌++◌, length, take, drop, Option, refl, sym, ap, subst, ◌∙◌, arith, append-nil, append_assoc, length-append}
use Rattle.std.specs.FinMap as finite
use Rattle.std.proofs.lemmas.List.{take-append-le, take-append-drop}
use mathlib.Core.Logic.{dite}
use mathlib.Core.Option.{some}
use mathlib.Core.List.{IsPrefix}
use native.Mathlib.Decide.{dec_le}
use lib.ListN.{get_elem?}
use Rattle.atomic_table.proofs.Lists.{at_longer}
use Rattle.list_laws.proofs.Lists.{at_below}
use Rattle.prcu_marks.specs.declared.mark.Mark.{Mark}
use Rattle.prcu_marks.specs.declared.mark.Mark.TheVariants.{Entered, Moved}
use Rattle.prcu_marks.specs.Marks.{updates_of, moves_in, updates_behind}
use Rattle.prcu_marks.proofs.Marks.{updates_of-append, moves_in-append}
use Rattle.prcu_model.specs.declared.operation.Update.{Update}
use Rattle.prcu_model.specs.Dictionary.{map_of, WasSaid}
use Rattle.moved_laws.specs.Moved.{LastIsKnown, KnownIsOne, EnteredBeforeIsLeft, AnswersAreJoined}

second_none : (us ws : List Update) → us ++ ws ≡ [] → ws ≡ []
second_none [] ws e = e
second_none (u ∷ us) ws e = absurd (cc)

-- what comes behind a beginning that has the move has no update
none_more : (seen more : List Mark) → updates_behind (seen ++ more) ≡ [] → 1 ≤ moves_in seen → updates_of more ≡ []
none_more [] more none some_move = absurd (omega arith)
none_more (Moved ∷ seen) more none some_move = second_none (updates_of seen) (updates_of more) (sym (updates_of-append seen more) ∙ none)
none_more (_ ∷ seen) more none some_move = none_more seen more none some_move

pub last_is_known : LastIsKnown
last_is_known h seen last begins some_move =
    let none = none_more seen begins.0 (ap updates_behind begins.1 ∙ last) some_move in
    sym (append-nil (updates_of seen)) ∙ ap (λ us. updates_of seen ++ us) (sym none) ∙ sym (updates_of-append seen begins.0)
    ∙ ap updates_of begins.1

pub known_is_one : KnownIsOne
known_is_one h one other last first has second had =
    last_is_known h one last first has ∙ sym (last_is_known h other last second had)

-- a part of a beginning without the move hasn't it either
part_none : (b : ℕ) (seen : List Mark) → moves_in seen ≡ 0 → moves_in (take b seen) ≡ 0
part_none b seen none =
    let e : moves_in (take b seen ++ drop b seen) ≡ moves_in seen = ap moves_in (take-append-drop b seen) in
    let s = moves_in-append (take b seen) (drop b seen) in
    omega arith

pub entered_before_is_left : EnteredBeforeIsLeft
entered_before_is_left h seen e q c x b p n low high j grace begins none entered began behind ended least most =
    let below = at_below seen e (Entered q c x) entered in
    let there : get_elem? h e ≡ some (Entered q c x) =
    subst (λ z. get_elem? z e ≡ some (Entered q c x)) begins.1 (at_longer seen begins.0 e (Entered q c x) entered) in
    let before : e < b = dite (dec_le b e)
    (λ early.
    let same : take b h ≡ take b seen =
    subst (λ z. take b z ≡ take b seen) begins.1 (take-append-le b seen begins.0 (omega arith)) in
    let fresh = part_none b seen none in
    let late : 1 ≤ moves_in (take b seen) = subst (λ z. 1 ≤ moves_in z) same behind in
    absurd (omega arith))
    (λ late. omega arith) in
    grace b j e p n low high q c x began ended there before least most

pub answers_are_joined : AnswersAreJoined
answers_are_joined h seen later key since answer begins said =
    let more : List Update = updates_of begins.0 ++ later in
    let is : updates_of seen ++ more ≡ updates_of h ++ later =
    sym (append_assoc (updates_of seen) (updates_of begins.0) later)
    ∙ ap (λ us. us ++ later) (sym (updates_of-append seen begins.0) ∙ ap updates_of begins.1) in
    subst (λ us. WasSaid us key since answer) is (record {
      front = said.front;
      since = said.since;
      made = (let m = said.made in let a = length-append (updates_of seen) more in omega arith);
      answers = ap (λ us. finite.get (map_of us) key) (take-append-le said.front (updates_of seen) more said.made) ∙ said.answers;
    })

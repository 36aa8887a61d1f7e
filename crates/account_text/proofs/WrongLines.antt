-- One more line before others, of which it is known which are right.
use Rattle.std.proofs.Common.{◌≡◌, ℕ, ◌+◌, ◌<◌, suc, List, [], ◌∷◌, inl, inr, Some, slice_get, ap, sym, subst, ◌∙◌, arith}
use Rattle.std.proofs.lemmas.Bool.{cases_eq}
use Rattle.std.proofs.lemmas.Option.{get_or_from_slice_get, slice_get-map}
use Rattle.std.specs.Option.{option_map}
use Rattle.prcu_model.specs.declared.operation.Op.{Op}
use Rattle.prcu_model.specs.declared.operation.Line.{Line}
use Rattle.prcu_model.specs.declared.operation.Told.{Told}
use Rattle.prcu_model.specs.Fronts.{told_lines}
use Rattle.prcu_model.specs.Scripts.{Roomy, entries_of}
use Rattle.account_text.specs.Judging.{Course}
use Rattle.account_text.specs.WrongLines.{IsRight, AreRight, IsWrongAt, IsScriptRight, script_lines, turn_after}

module _ (course : Course) (caller turn before : ℕ) (line : Line) (lines : List Line) (right : IsRight course caller turn before line)
    (next : ℕ) (is_next : turn_after turn line ≡ next) where
  pub right_next : AreRight course caller next line.number lines → AreRight course caller turn before (line ∷ lines)
  right_next rest = (right, subst (λ t. AreRight course caller t line.number lines) (sym is_next) rest)

  pub wrong_next : (n : ℕ) → IsWrongAt course caller next line.number lines n → IsWrongAt course caller turn before (line ∷ lines) (suc n)
  wrong_next n rest = (right, subst (λ t. IsWrongAt course caller t line.number lines n) (sym is_next) rest)

module _ (scripts : List (List Op)) (told : List (Roomy Told)) (i : ℕ) (script : List Op) (list : Roomy Told)
    (here : slice_get scripts i ≡ Some script) (there : slice_get told i ≡ Some list) where
  -- the lines of a script, by what stands at its number
  pub lines_there : told_lines script list.entries ≡ script_lines scripts (entries_of told) i
  lines_there =
      let answers : slice_get (entries_of told) i ≡ Some list.entries =
      slice_get-map (λ (l : Roomy Told). l.entries) told i ∙ ap (option_map (λ (l : Roomy Told). l.entries)) there in
      sym (λ k. told_lines (get_or_from_slice_get scripts i script [] here k) (get_or_from_slice_get (entries_of told) i list.entries [] answers k))

  -- one script more is right
  pub right_more : (course : Course) → ((n : ℕ) → n < i → IsScriptRight course scripts (entries_of told) n)
      → AreRight course i 0 0 (told_lines script list.entries)
      → (n : ℕ) → n < i + 1 → IsScriptRight course scripts (entries_of told) n
  right_more course before this n below = elim (cases_eq n i) [
    | inl last ↦ subst (IsScriptRight course scripts (entries_of told)) (sym last) (subst (AreRight course i 0 0) lines_there this)
    | inr other ↦ before n (omega (arith, below, other))
  ]

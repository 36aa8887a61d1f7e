use Rattle.std.proofs.Common.{◌≡◌, Option, Some, None, MatchOption, ap, sym, ◌∙◌}
use Rattle.std.proofs.Common.{List, ℕ}
use Rattle.prcu_model.specs.declared.operation.Op.{Op}
use Rattle.prcu_model.specs.Scripts.{FitsWords}
use Rattle.script_text.specs.Grammar.{op_text}
use Rattle.script_text.proofs.ScriptTexts.{op_text-injective}
use Rattle.account_text.proofs.reading.last_op.Goals as goal

the_op : (line : List ℕ) (r : Option Op) → MatchOption r ((o : Op) → FitsWords o → line ≡ op_text o → ⊥)
    (λ o. (line ≡ op_text o) × FitsWords o) → (op : Op) → FitsWords op → line ≡ op_text op → r ≡ Some op
the_op line None none op fits is = absurd (none op fits is)
the_op line (Some o) some op fits is = ap Some (op_text-injective o op some.1 fits (sym some.0 ∙ is))

pub returns : goal.returns
returns c = the_op c.args.bytes.now c.read_op.result c.read_op.ensures

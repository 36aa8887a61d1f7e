use Rattle.std.proofs.Common.{◌≡◌, ◌++◌, All, take}
use Rattle.prcu_model.specs.Scripts.{FitsWords}
use Rattle.script_text.specs.Grammar.{script_text}
use Rattle.script_text.proofs.printing.push_script.Given as goal

abbrev pub invariant-loop-op : goal.invariant-loop-op
invariant-loop-op l =
    record {
      text : l.out.items ≡ l.fn.out.items ++ script_text (take l.op-index l.script);
      fits : All FitsWords (take l.op-index l.script);
    }

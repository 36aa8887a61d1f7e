use Rattle.std.proofs.Common.{◌≡◌, ◌≤◌, ◌+◌, ◌-◌, drop}
use Rattle.script_text.specs.Grammar.{lines_of}
use Rattle.command_words.proofs.line_faults.line_of.Given as goal

abbrev pub invariant-loop : goal.invariant-loop
invariant-loop l = record {
  from : 1 ≤ l.counter;
  within : l.counter ≤ 1 + (l.number - 1);
  rest : lines_of l.rest ≡ drop (l.counter - 1) (lines_of l.text);
}

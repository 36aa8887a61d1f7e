use Rattle.std.proofs.Common.{◌≡◌, ◌+◌, ◌-◌, drop, ap, ◌∙◌, arith}
use Rattle.std.proofs.lemmas.List.{drop-drop}
use Rattle.script_text.specs.Grammar.{lines_of}
use Rattle.command_words.proofs.line_faults.line_of.Goals as goal

pub loop-preserved : goal.loop-preserved
loop-preserved c =
    let inv = c.loop.invariant in
    let lines = lines_of c.args.text.now in
    let next : c.loop.counter - 1 + 1 ≡ c.loop.counter + 1 - 1 = omega (arith, inv.from) in
    record {
      from = omega (arith, inv.from);
      within = omega (arith, inv.from, inv.within, c.loop-test.true);
      rest = c.skip_line-rest.ensures ∙ ap (drop 1) inv.rest ∙ drop-drop 1 (c.loop.counter - 1) lines ∙ ap (λ n. drop n lines) next;
    }

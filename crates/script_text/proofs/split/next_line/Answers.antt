use Rattle.std.proofs.Common.{◌≡◌, ◌<◌, ◌-◌, [], length, take, drop, arith}
use Rattle.std.proofs.lemmas.Bool.Decides.{nat_tests}
use Rattle.std.proofs.lemmas.List.{nil_from_length, length-take, length-drop}
use Rattle.script_text.proofs.ScriptTexts.{lines_of-IsParted, lines_of-last}
use Rattle.script_text.proofs.split.next_line.Goals as goal

pub returns-in-Some-clause-cut : goal.returns-in-Some-clause-cut
returns-in-Some-clause-cut c =
    lines_of-IsParted c.args.text.now c.in-Some.line.now c.in-Some.rest.now c.in-Some.ensures.some

pub returns-in-None-clause-cut : goal.returns-in-None-clause-cut
returns-in-None-clause-cut c =
    let text = c.args.text.now in
    let some : 0 < length text = grind (arith, nat_tests) in
    let end : take (length text - length text) (drop (length text) text) ≡ [] =
    nil_from_length _ (simp (length-take, length-drop) (omega arith)) in
    rw end (lines_of-last text some c.in-None.ensures.none)

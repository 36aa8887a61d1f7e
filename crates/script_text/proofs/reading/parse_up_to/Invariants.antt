use Rattle.std.proofs.Common.{length}
use Rattle.script_text.proofs.ScriptTexts.{HasRead}
use Rattle.script_text.proofs.reading.parse_up_to.Given as goal

abbrev pub invariant-loop-line : goal.invariant-loop-line
invariant-loop-line l = HasRead l.most l.text l.rest l.number l.scripts

abbrev pub decreases-loop-line : goal.decreases-loop-line
decreases-loop-line l = length l.rest

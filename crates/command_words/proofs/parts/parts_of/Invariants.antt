use Rattle.std.proofs.Common.{◌-◌, length}
use Rattle.command_words.proofs.Inputs.{CutAt}
use Rattle.command_words.proofs.parts.parts_of.Given as goal

abbrev pub invariant-loop-line : goal.invariant-loop-line
invariant-loop-line l = CutAt l.input l.at

abbrev pub decreases-loop-line : goal.decreases-loop-line
decreases-loop-line l = length l.input - l.at

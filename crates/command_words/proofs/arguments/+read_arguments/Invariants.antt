use Rattle.std.proofs.Common.{length}
use Rattle.command_words.proofs.arguments.+read_arguments.Given as goal

-- each argument takes a word at least
abbrev pub decreases-read_arguments : goal.decreases-read_arguments
decreases-read_arguments l = length l.words.now

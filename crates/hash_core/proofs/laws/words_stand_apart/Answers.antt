use Rattle.hash_core.proofs.Frames.{one_place, word_inside, lines_are_own}
use Rattle.hash_core.proofs.laws.words_stand_apart.Goals as goal

pub returns-clause-places : goal.returns-clause-places
returns-clause-places c = one_place

pub returns-clause-within : goal.returns-clause-within
returns-clause-within c = word_inside

pub returns-clause-lines : goal.returns-clause-lines
returns-clause-lines c = lines_are_own

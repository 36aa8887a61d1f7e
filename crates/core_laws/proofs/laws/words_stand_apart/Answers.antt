use Rattle.core_laws.proofs.Places.{one_place, word_inside, groups_are_apart, places_write_their_own}
use Rattle.core_laws.proofs.laws.words_stand_apart.Goals as goal

pub returns-clause-places : goal.returns-clause-places
returns-clause-places c = one_place

pub returns-clause-within : goal.returns-clause-within
returns-clause-within c = word_inside

pub returns-clause-groups : goal.returns-clause-groups
returns-clause-groups c = groups_are_apart

pub returns-clause-own : goal.returns-clause-own
returns-clause-own c = places_write_their_own

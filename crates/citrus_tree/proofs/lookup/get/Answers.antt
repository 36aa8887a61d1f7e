use Rattle.citrus_tree.proofs.Leavings.{keeps_looked, looked_first}
use Rattle.citrus_tree.proofs.lookup.get.Goals as goal

pub returns-in-Some-clause-begins : goal.returns-in-Some-clause-begins
returns-in-Some-clause-begins g c = looked_first c.look_up.ensures.looked

pub returns-in-None-clause-begins : goal.returns-in-None-clause-begins
returns-in-None-clause-begins g c = looked_first c.look_up.ensures.looked

pub returns-in-Some-clause-keeps : goal.returns-in-Some-clause-keeps
returns-in-Some-clause-keeps g c = keeps_looked c.requires.quiet c.look_up.ensures.looked c.look_up.ensures.seat.1

pub returns-in-None-clause-keeps : goal.returns-in-None-clause-keeps
returns-in-None-clause-keeps g c = keeps_looked c.requires.quiet c.look_up.ensures.looked c.look_up.ensures.seat.1

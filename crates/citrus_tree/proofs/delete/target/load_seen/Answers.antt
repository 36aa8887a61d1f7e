use Rattle.seat_table.specs.Seats.{shape_of}
use Rattle.citrus_tree.proofs.DeleteSearches.{asks_value, has_value, leaves_now, leaves_valued}
use Rattle.citrus_tree.proofs.DeleteUpdates.{loads_self, loads_search_load}
use Rattle.citrus_tree.proofs.delete.target.load_seen.Goals as goal

pub returns-then-not-looks-clause-leaves : goal.returns-then-not-looks-clause-leaves
returns-then-not-looks-clause-leaves g c = leaves_now c.requires.inside

pub returns-then-not-looks-clause-same : goal.returns-then-not-looks-clause-same
returns-then-not-looks-clause-same g c = loads_self c.args.seat.now.view

pub search_load-requires-clause-asks : goal.search_load-requires-clause-asks
search_load-requires-clause-asks g c = asks_value (c.requires.at).2 c.requires.inside

pub returns-clause-seen : goal.returns-clause-seen
returns-clause-seen g c = λ op kept a. has_value a c.search_load.ensures.told

pub returns-clause-leaves : goal.returns-clause-leaves
returns-clause-leaves g c = leaves_valued c.requires.inside c.search_load.ensures.told

pub returns-clause-same : goal.returns-clause-same
returns-clause-same g c = loads_search_load (shape_of g.W.WaitWords.WAY c.args.table.now) _ _ _ _ _ c.search_load.ensures.told

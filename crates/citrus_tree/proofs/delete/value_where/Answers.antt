use Rattle.seat_table.specs.Seats.{shape_of}
use Rattle.citrus_tree.proofs.DeleteUpdates.{keeps_locked_load, keeps_self, loads_value, value_known, value_loaded_at}
use Rattle.citrus_tree.proofs.delete.value_where.Goals as goal

pub locked_load-requires-clause-asks : goal.locked_load-requires-clause-asks
locked_load-requires-clause-asks g c = loads_value c.args.node c.args.successor c.requires.at.2

pub returns-clause-at : goal.returns-clause-at
returns-clause-at g c op kept a = value_loaded_at c.args.node c.args.successor a c.locked_load.ensures.told

pub returns-clause-value : goal.returns-clause-value
returns-clause-value g c = value_known c.args.node c.args.successor c.requires.at.2 c.locked_load.ensures.told

pub returns-clause-same : goal.returns-clause-same
returns-clause-same g c = keeps_locked_load (shape_of g.W.WaitWords.WAY c.args.table.now) _ _ _ _ _ c.locked_load.ensures.told

pub returns-then-not-tells_value-clause-same : goal.returns-then-not-tells_value-clause-same
returns-then-not-tells_value-clause-same g c = keeps_self c.args.seat.now.view

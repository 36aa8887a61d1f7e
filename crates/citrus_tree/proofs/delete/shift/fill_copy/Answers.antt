use Rattle.citrus_tree.proofs.DeleteMoves.{loads_key, loads_value, copies_key, copies_value, copies_left, copies_right, loads_age, copied_at, copied_spare, copied_same, copied_value}
use Rattle.citrus_tree.proofs.delete.shift.fill_copy.Goals as goal

pub locked_load-next_key-requires-clause-asks : goal.locked_load-next_key-requires-clause-asks
locked_load-next_key-requires-clause-asks g c = loads_key c.args.copy c.requires.spare c.requires.at.2

pub locked_load-value-requires-clause-asks : goal.locked_load-value-requires-clause-asks
locked_load-value-requires-clause-asks g c = loads_value c.args.copy c.requires.spare c.requires.at.2 c.locked_load-next_key.ensures.told

pub fill-requires-clause-asks : goal.fill-requires-clause-asks
fill-requires-clause-asks g c =
    copies_key c.args.copy c.requires.spare c.requires.at.2 c.locked_load-next_key.ensures.told c.locked_load-value.ensures.told

pub fill-requires-2-clause-asks : goal.fill-requires-2-clause-asks
fill-requires-2-clause-asks g c =
    copies_value c.args.copy c.requires.spare c.requires.at.2 c.locked_load-next_key.ensures.told c.locked_load-value.ensures.told
    c.fill.ensures.told

pub fill-requires-3-clause-asks : goal.fill-requires-3-clause-asks
fill-requires-3-clause-asks g c =
    copies_left c.args.copy c.requires.spare c.requires.at.2 c.locked_load-next_key.ensures.told c.locked_load-value.ensures.told
    c.fill.ensures.told c.fill-2.ensures.told

pub fill-requires-4-clause-asks : goal.fill-requires-4-clause-asks
fill-requires-4-clause-asks g c =
    copies_right c.args.copy c.requires.spare c.requires.at.2 c.locked_load-next_key.ensures.told c.locked_load-value.ensures.told
    c.fill.ensures.told c.fill-2.ensures.told c.fill-3.ensures.told

pub load_own_life-requires-clause-asks : goal.load_own_life-requires-clause-asks
load_own_life-requires-clause-asks g c =
    loads_age c.args.copy c.requires.spare c.requires.at.2 c.locked_load-next_key.ensures.told c.locked_load-value.ensures.told
    c.fill.ensures.told c.fill-2.ensures.told c.fill-3.ensures.told c.fill-4.ensures.told

pub returns-clause-at : goal.returns-clause-at
returns-clause-at g c op kept a =
    copied_at c.args.copy c.requires.spare a c.locked_load-next_key.ensures.told c.locked_load-value.ensures.told c.fill.ensures.told
    c.fill-2.ensures.told c.fill-3.ensures.told c.fill-4.ensures.told c.load_own_life.ensures.told

pub returns-clause-spare : goal.returns-clause-spare
returns-clause-spare g c =
    copied_spare c.args.copy c.requires.spare c.requires.at.2 c.locked_load-next_key.ensures.told c.locked_load-value.ensures.told
    c.fill.ensures.told c.fill-2.ensures.told c.fill-3.ensures.told c.fill-4.ensures.told c.load_own_life.ensures.told

pub returns-clause-same : goal.returns-clause-same
returns-clause-same g c =
    copied_same c.args.copy c.requires.spare c.requires.at.2 c.locked_load-next_key.ensures.told c.locked_load-value.ensures.told
    c.fill.ensures.told c.fill-2.ensures.told c.fill-3.ensures.told c.fill-4.ensures.told c.load_own_life.ensures.told

pub returns-clause-value : goal.returns-clause-value
returns-clause-value g c =
    copied_value c.args.copy c.requires.spare c.requires.at.2 c.locked_load-next_key.ensures.told c.locked_load-value.ensures.told
    c.fill.ensures.told c.fill-2.ensures.told c.fill-3.ensures.told c.fill-4.ensures.told c.load_own_life.ensures.told

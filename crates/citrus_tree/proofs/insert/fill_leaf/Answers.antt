use Rattle.citrus_tree.proofs.Linking.{fills_key, fills_value, fills_left, fills_right, filled_hand, filled_goes, filled_at}
use Rattle.citrus_tree.proofs.insert.fill_leaf.Goals as goal

pub fill-requires-clause-asks : goal.fill-requires-clause-asks
fill-requires-clause-asks g c = fills_key c.requires.slot c.requires.at.2

pub fill-requires-2-clause-asks : goal.fill-requires-2-clause-asks
fill-requires-2-clause-asks g c = fills_value c.requires.slot c.requires.at.2 c.fill.ensures.told

pub fill-requires-3-clause-asks : goal.fill-requires-3-clause-asks
fill-requires-3-clause-asks g c = fills_left c.requires.slot c.requires.at.2 c.fill.ensures.told c.fill-2.ensures.told

pub fill-requires-4-clause-asks : goal.fill-requires-4-clause-asks
fill-requires-4-clause-asks g c =
    fills_right c.requires.slot c.requires.at.2 c.fill.ensures.told c.fill-2.ensures.told c.fill-3.ensures.told

pub returns-clause-slot : goal.returns-clause-slot
returns-clause-slot g c =
    filled_hand c.requires.slot c.requires.at.2 c.fill.ensures.told c.fill-2.ensures.told c.fill-3.ensures.told c.fill-4.ensures.told

pub returns-clause-goes : goal.returns-clause-goes
returns-clause-goes g c =
    filled_goes c.requires.slot c.requires.at.2 c.fill.ensures.told c.fill-2.ensures.told c.fill-3.ensures.told c.fill-4.ensures.told

pub returns-clause-at : goal.returns-clause-at
returns-clause-at g c kept spot a =
    filled_at c.requires.slot a c.fill.ensures.told c.fill-2.ensures.told c.fill-3.ensures.told c.fill-4.ensures.told

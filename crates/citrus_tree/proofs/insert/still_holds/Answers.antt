use Rattle.citrus_tree.proofs.Linking.{checks_life, checks_side, checks_tag, checked_goes, checked_locks, checked_hand, checked_at}
use Rattle.citrus_tree.proofs.insert.still_holds.Goals as goal

pub locked_load-life-requires-clause-asks : goal.locked_load-life-requires-clause-asks
locked_load-life-requires-clause-asks g c = checks_life c.requires.at.2

pub locked_load-link-requires-clause-asks : goal.locked_load-link-requires-clause-asks
locked_load-link-requires-clause-asks g c = checks_side c.requires.at.2 c.locked_load-life.ensures.told

pub locked_load-tag-requires-clause-asks : goal.locked_load-tag-requires-clause-asks
locked_load-tag-requires-clause-asks g c = checks_tag c.requires.at.2 c.locked_load-life.ensures.told c.locked_load-link.ensures.told

pub returns-clause-slot : goal.returns-clause-slot
returns-clause-slot g c =
    checked_hand c.requires.at.2 c.locked_load-life.ensures.told c.locked_load-link.ensures.told c.locked_load-tag.ensures.told

pub returns-clause-locked : goal.returns-clause-locked
returns-clause-locked g c =
    checked_locks c.requires.at.2 c.locked_load-life.ensures.told c.locked_load-link.ensures.told c.locked_load-tag.ensures.told

pub returns-clause-goes : goal.returns-clause-goes
returns-clause-goes g c =
    checked_goes c.requires.at.2 c.locked_load-life.ensures.told c.locked_load-link.ensures.told c.locked_load-tag.ensures.told

pub returns-clause-at : goal.returns-clause-at
returns-clause-at g c op kept a =
    checked_at a c.locked_load-life.ensures.told c.locked_load-link.ensures.told c.locked_load-tag.ensures.told c.is_as_recorded.result
    c.is_as_recorded.ensures.holds c.is_as_recorded.ensures.fails

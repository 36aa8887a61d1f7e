use Rattle.class_hash.proofs.Putting.{may_link, may_even, may_unlock, linked, linked_trail}
use Rattle.class_hash.proofs.puts.link.Goals as goal

pub link_slot-requires-clause-asks : goal.link_slot-requires-clause-asks
link_slot-requires-clause-asks g c = may_link c.requires.case c.open_commit-even.ensures.view

pub close_commit-requires-clause-asks : goal.close_commit-requires-clause-asks
close_commit-requires-clause-asks g c = may_even c.requires.case c.open_commit-even.ensures.view c.link_slot.ensures.told

pub unlock-requires-clause-asks : goal.unlock-requires-clause-asks
unlock-requires-clause-asks g c =
    may_unlock c.requires.case c.open_commit-even.ensures.view c.link_slot.ensures.told c.close_commit.ensures.told

pub returns-clause-view : goal.returns-clause-view
returns-clause-view g c =
    linked c.requires.case c.open_commit-even.ensures.view c.link_slot.ensures.told c.close_commit.ensures.told c.unlock.ensures.told.goes

pub returns-clause-trail : goal.returns-clause-trail
returns-clause-trail g c =
    linked_trail c.requires.case c.open_commit-even.ensures.view c.link_slot.ensures.told c.close_commit.ensures.told
    c.unlock.ensures.told.goes

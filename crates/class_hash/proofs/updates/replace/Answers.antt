use Rattle.class_hash.proofs.Updating.{holds_loaded, may_store, may_even_replaced, may_unlock_replaced, replaced, replaced_trail}
use Rattle.class_hash.proofs.updates.replace.Goals as goal

pub open_commit-even-requires-clause-held : goal.open_commit-even-requires-clause-held
open_commit-even-requires-clause-held g c = holds_loaded c.requires.case c.locked_load-old.ensures.told

pub replace_value-requires-clause-asks : goal.replace_value-requires-clause-asks
replace_value-requires-clause-asks g c =
    may_store c.args.value c.requires.case c.locked_load-old.ensures.told c.open_commit-even.ensures.view

pub close_commit-requires-clause-asks : goal.close_commit-requires-clause-asks
close_commit-requires-clause-asks g c =
    may_even_replaced c.args.value c.requires.case c.locked_load-old.ensures.told c.open_commit-even.ensures.view c.replace_value.ensures.told

pub unlock-requires-clause-asks : goal.unlock-requires-clause-asks
unlock-requires-clause-asks g c =
    may_unlock_replaced c.args.value c.requires.case c.locked_load-old.ensures.told c.open_commit-even.ensures.view c.replace_value.ensures.told
    c.close_commit.ensures.told

pub returns-clause-view : goal.returns-clause-view
returns-clause-view g c =
    replaced c.args.value c.requires.case c.locked_load-old.ensures.told c.open_commit-even.ensures.view c.replace_value.ensures.told
    c.close_commit.ensures.told c.unlock.ensures.told.goes

pub returns-clause-trail : goal.returns-clause-trail
returns-clause-trail g c =
    replaced_trail c.args.value c.requires.case c.locked_load-old.ensures.told c.open_commit-even.ensures.view c.replace_value.ensures.told
    c.close_commit.ensures.told c.unlock.ensures.told.goes

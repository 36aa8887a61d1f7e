use Rattle.citrus_tree.proofs.descent.go_down.Goals as goal

pub load_links-links-requires-clause-searching : goal.load_links-links-requires-clause-searching
load_links-links-requires-clause-searching g c = (c.requires.searching.0, c.args.key, c.requires.searching.1)

pub look_on-requires-clause-loaded : goal.look_on-requires-clause-loaded
look_on-requires-clause-loaded g c = (
  c.requires.searching.0,
  record {
    slot = c.args.slot;
    side = c.args.side;
    before = c.args.seat.now.view;
    is_slot = c.requires.slot;
    searching = c.requires.searching.1;
    loads = c.load_links-links.ensures.loads;
  },
)

pub returns-clause-loads : goal.returns-clause-loads
returns-clause-loads g c = c.look_on.ensures.loads _ _ _ c.load_links-links.ensures.loads

pub returns-clause-slot : goal.returns-clause-slot
returns-clause-slot g c = c.look_on.ensures.slot _ c.args.side c.requires.slot

pub returns-clause-searching : goal.returns-clause-searching
returns-clause-searching g c v i = c.look_on.ensures.searching v _ _ _ i c.load_links-links.ensures.loads

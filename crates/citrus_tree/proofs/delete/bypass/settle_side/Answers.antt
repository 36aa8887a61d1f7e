use Rattle.citrus_tree.proofs.DeleteMoves.{settled, emptied}
use Rattle.citrus_tree.proofs.DeleteUpdates.{keeps_self}
use Rattle.citrus_tree.proofs.delete.bypass.settle_side.Goals as goal

pub returns-then-child-ne0-clause-at : goal.returns-then-child-ne0-clause-at
returns-then-child-ne0-clause-at g c = λ number op kept a. settled c.args.slot c.args.side c.if-child-ne0.true a

pub returns-then-child-ne0-clause-same : goal.returns-then-child-ne0-clause-same
returns-then-child-ne0-clause-same g c = keeps_self c.args.seat.now.view

pub raise_tag-requires-clause-at : goal.raise_tag-requires-clause-at
raise_tag-requires-clause-at g c = let a = c.requires.at in (a.0, ((a.1).0, (a.1).1, emptied c.args.side c.if-child-ne0.false (a.1).2))

pub returns-clause-at : goal.returns-clause-at
returns-clause-at g c = λ number op kept a. c.raise_tag.ensures.at number op kept (emptied c.args.side c.if-child-ne0.false a)

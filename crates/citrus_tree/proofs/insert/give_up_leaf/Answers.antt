use Rattle.std.proofs.Common.{subst}
use Rattle.seat_table.specs.Seats.{IsSlotOf}
use Rattle.citrus_tree.proofs.Linking.{gives_up, gives_up_at}
use Rattle.citrus_tree.proofs.insert.give_up_leaf.Goals as goal

pub returns-clause-goes : goal.returns-clause-goes
returns-clause-goes g c = gives_up c.in-Some._slot
    (subst (λ r. IsSlotOf r c.args.seat.now.view.hands.hand) c.in-Some.is c.in_hand.ensures) c.put_back.ensures.view

pub returns-clause-at : goal.returns-clause-at
returns-clause-at g c op kept a = gives_up_at c.in-Some._slot
    (subst (λ r. IsSlotOf r c.args.seat.now.view.hands.hand) c.in-Some.is c.in_hand.ensures) c.put_back.ensures.view a

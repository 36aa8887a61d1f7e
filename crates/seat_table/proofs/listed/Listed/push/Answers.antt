use Rattle.std.proofs.Common.{rules, sym, subst, arith}
use Rattle.list_laws.specs.Counts.{IsIn}
use Rattle.seat_table.specs.Seats.{ListedAt}
use Rattle.seat_table.proofs.Seats.{listed_more, moved_more}
use Rattle.seat_table.proofs.listed.Listed.push.Goals as goal

pub invariant_of-self : goal.invariant_of-self
invariant_of-self c =
    let absent = subst (λ (l : ListedAt). IsIn l.slots c.args.slot → ⊥) (sym c.self.view_is) c.requires.absent in
    let more = moved_more _ _ _ _ (c.self.invariant.1) absent c.move_up.ensures.items c.push_reserved.ensures.items in
    (more.0, more.1, search rules)

pub invariant_of-self-2 : goal.invariant_of-self-2
invariant_of-self-2 c =
    let absent = subst (λ (l : ListedAt). IsIn l.slots c.args.slot → ⊥) (sym c.self.view_is) c.requires.absent in
    let more = listed_more _ _ _ _ (c.self.invariant.0) (c.self.invariant.1) absent c.push_reserved-2.ensures.items in
    (more.0, more.1, search rules)

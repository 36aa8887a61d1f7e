use Rattle.std.proofs.Common.{refl, subst, sym}
use Rattle.tree_handles.specs.Callers.{CallerAt}
use Rattle.tree_handles.specs.Keepers.{IsUnderWay, LacksSlots}
use Rattle.tree_handles.proofs.caller.Caller.lacks_room.Goals as goal

pub returns-then-is_under_way-clause-holds : goal.returns-then-is_under_way-clause-holds
returns-then-is_under_way-clause-holds g c lacks = record {
  same = refl;
  may = c.requires.may;
  going = subst (λ (z : CallerAt). IsUnderWay z.keeper) c.self.view_is (c.is_under_way.ensures.holds c.if-is_under_way.true);
  lacks = subst (λ (z : CallerAt). LacksSlots z.seat) c.self.view_is (c.lacks_slots.ensures.holds lacks);
}

pub returns-then-is_under_way-clause-fails : goal.returns-then-is_under_way-clause-fails
returns-then-is_under_way-clause-fails g c some lacks =
    c.lacks_slots.ensures.fails some (subst (λ (z : CallerAt). LacksSlots z.seat) (sym c.self.view_is) lacks.lacks)

use Rattle.std.proofs.Common.{◌≡◌, ◌∙◌, ap, subst, sym}
use Rattle.std_alloc.specs.Arc.{arc_value}
use Rattle.seat_table.specs.Seats.{shape_of}
use Rattle.citrus_tree.specs.declared.insert.Reuse.TheVariants.{Retired}
use Rattle.tree_handles.specs.Callers.{CallerAt}
use Rattle.tree_handles.specs.Keepers.{MakesWay, TendsTo, slot_for}
use Rattle.tree_handles.proofs.Callers.{sees_enough}
use Rattle.tree_handles.proofs.Serving.{starts_none, tends_rest}
use Rattle.tree_handles.proofs.caller.Caller.see_to_keeper.Goals as goal

-- it is at rest
pub returns-in-Some-clause-sees : goal.returns-in-Some-clause-sees
returns-in-Some-clause-sees g c =
    let kept = ap (λ (z : CallerAt). z.lost) c.self.view_is ∙ c.requires.may.kept in record {
      begun = c.args.self.now;
      starts = starts_none c.args.self.now c.requires.may
          (subst (λ (z : CallerAt). MakesWay z.keeper z.seat → ⊥) c.self.view_is c.in-Some.ensures.stays);
      tends = tends_rest c.args.self.now c.requires.may
          (subst (λ (z : CallerAt). TendsTo (shape_of z.way z.table) z.keeper z.seat z.keeper z.seat) c.self.view_is
          (c.in-Some.ensures.rests (shape_of g.W.WaitWords.WAY (arc_value c.self.inside.shared)) (c.self.invariant.2 kept).of_caller));
    }

pub returns-in-Some-clause-slot : goal.returns-in-Some-clause-slot
returns-in-Some-clause-slot g c = sym (subst (λ (z : CallerAt). slot_for z.keeper z.seat.listed ≡ Retired c.in-Some.slot) c.self.view_is
    c.in-Some.ensures.first)

pub returns-clause-sees : goal.returns-clause-sees
returns-clause-sees g c = record { begun = c.start_keeper.new.self; starts = c.start_keeper.ensures; tends = c.tend.ensures }

pub returns-clause-tickets : goal.returns-clause-tickets
returns-clause-tickets g c = sees_enough c.args.self.now c.tend.new.self c.requires.tickets
    (record { begun = c.start_keeper.new.self; starts = c.start_keeper.ensures; tends = c.tend.ensures })

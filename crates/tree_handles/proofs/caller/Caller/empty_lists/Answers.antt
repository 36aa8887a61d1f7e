use Rattle.std.proofs.Common.{rules, ◌≡◌, sym, subst}
use Rattle.seat_table.specs.Seats.{TableAt, IsEmptyFor}
use Rattle.tree_handles.specs.Lanes.{AreEmptyFor}
use Rattle.tree_handles.proofs.LaneLists.{empty_more}
use Rattle.tree_handles.proofs.caller.Caller.empty_lists.Goals as goal

pub loop-made-preserved : goal.loop-made-preserved
loop-made-preserved g c =
    let before = c.loop-made.invariant in
    let same : c.self.inside.seat.table ≡ c.args.self.now.table = search rules in record {
      few = search rules;
      lists = subst (AreEmptyFor _ _) (sym c.push_reserved.ensures.items)
          (empty_more before.lists (subst (λ (t : TableAt). IsEmptyFor t c.in-Ok-empty_list.list) same c.in-Ok-empty_list.ensures));
      length_is = search rules;
      room = search rules;
    }

use Rattle.std.proofs.Common.{◌≡◌, ◌≤◌}
use Rattle.std.specs.Vec.{vec_len, vec_capacity}
use Rattle.tree_handles.specs.Lanes.{AreEmptyFor}
use Rattle.tree_handles.proofs.caller.Caller.empty_lists.Given as goal

-- so many lists were made
abbrev pub invariant-loop-made : goal.invariant-loop-made
invariant-loop-made g l = record {
  few : l.made ≤ l.count;
  lists : AreEmptyFor l.fn.self.table l.made l.lists.items;
  length_is : vec_len l.lists ≡ l.made;
  room : vec_capacity l.lists ≡ l.count;
}

use Rattle.std.proofs.Common.{◌≡◌, length, replicate}
use Rattle.tree_handles.proofs.shared.Shared.new.Given as goal

-- each cell so far is for seats of this table
abbrev pub invariant-loop : goal.invariant-loop
invariant-loop g l = l.cells.items ≡ replicate (length l.cells.items) l.fn.table

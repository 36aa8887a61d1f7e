-- Lanes by their waiter.
-- Source: docs/WAITERS.md, "Which waiter to take".
use Rattle.tree_handles.specs.declared.any_lanes.LanesByWaiter.{LanesByWaiter}
use Rattle.tree_handles.specs.declared.any_lanes.LanesByWaiter.TheVariants.{Eer, Domain, Deer}
use Rattle.tree_handles.specs.Lanes.{LanesAt}

-- the lanes, whatever their waiter
abbrev pub lanes_of : LanesByWaiter → LanesAt
lanes_of (Eer l) = l
lanes_of (Domain l) = l
lanes_of (Deer l) = l

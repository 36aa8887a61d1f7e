-- What a pointer, a handle and lanes own.
-- What a pointer owns: nothing at null, and else what a box owns.
use base.Fml.{Fml, feq}
use denote.RattleType.{RattleType}
use denote.RawPtr.{Ptr, null_ptr}
use Rattle.std.specs.declared.option.Option.{Option}
use Rattle.std.specs.declared.option.Option.TheVariants.{None, Some}
use Rattle.std.specs.Box.Ownership.{box_owns}
use Rattle.std.specs.Global.{Global}
use Rattle.std.specs.contracts.impls.GlobalAllocator.TheImpl.{ghosts}
use base.Stored.{Coded}
use Rattle.std.specs.Coded.{coded_option}
use Rattle.tree_handles.specs.contracts.any_caller.AnyCaller.{the_row as caller_row}
use Rattle.tree_handles.specs.contracts.lane_room.LaneRoom.{the_row as lanes_row}

abbrev pub owns : (R : RattleType) → Global → Ptr → Option R.Denot → Fml
owns R alloc p None = feq Ptr p null_ptr
owns R alloc p (Some x) = box_owns (ghosts.dealloc_token alloc) R p x

-- What a handle owns.

abbrev pub handle_owns : Global → Ptr → Option caller_row.Denot → Fml
handle_owns = owns caller_row

abbrev pub held_coded : Coded (Option caller_row.Denot)
held_coded = coded_option caller_row.coded

-- What lanes own.

abbrev pub lanes_own : Global → Ptr → Option lanes_row.Denot → Fml
lanes_own = owns lanes_row

abbrev pub room_coded : Coded (Option lanes_row.Denot)
room_coded = coded_option lanes_row.coded

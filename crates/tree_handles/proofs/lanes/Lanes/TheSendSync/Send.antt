-- Lanes may cross threads: so may what they lead to, and any thread may free its block.
use denote.Struct.Struct.{exits_of}
use denote.Struct.Owning.{shape, fields, to}
use denote.Param.Send.{IsSend, AllSend, owning_send, struct_send, sendable}
use Rattle.std_alloc.proofs.SendSync.{quiet}
use Rattle.std.proofs.alloc.Global.TheSendSync as handle
use Rattle.tree_handles.specs.contracts.lane_room.LaneRoom as LaneRoom
use Rattle.tree_handles.proofs.Crossing.{lanes, owned_keyless}
use Rattle.tree_handles.specs.contracts.lanes.Lanes.{the_row, the_type}

pub send : IsSend the_row
send =
    let all : AllSend (fields the_type) = (search sendable, (handle.the_field_send, tt)) in
    owning_send the_type all (λ d. owned_keyless LaneRoom.the_row lanes d.alloc d.at d.held)
    (λ k. quiet (to the_type) (exits_of k (fields the_type)) ((struct_send (shape the_type) all).leaving k))

-- What a handle leads to may go to another thread. Nobody reads a seat that lies in a cell, so what callers share may be shared.
use mir.Raw.{raw as raw_type}
use base.Shift.{Keyless}
use denote.RattleType.{RattleType}
use denote.Memory.{lone}
use denote.RawPtr.{Ptr}
use denote.Struct.Struct.{Struct}
use denote.Struct.Declared.{fields, shape}
use denote.Param.Send.{IsSend, IsSync, AllSend, AllSync, part_keyless, recorded_send, recorded_sync, struct_send, struct_sync, sendable}
use Rattle.atomic_table.specs.contracts.shared.Seat as raw
use Rattle.atomic_table.proofs.shared.Seat.TheSendSync as raw_crosses
use Rattle.counted_slot.proofs.Counted.TheSendSync as counted
use Rattle.arrayvec.proofs.array_vec.ArrayVec.TheSendSync as array
use Rattle.std.proofs.option.Option.TheSendSync as option
use Rattle.std.proofs.sync.atomic.AtomicU64.TheSendSync as atomic
use Rattle.std.proofs.Crossing as heap
use Rattle.std_alloc.proofs.SendSync.{lies}
use Rattle.std.specs.declared.alloc.Global.{Global}
use Rattle.std.specs.declared.option.Option.{Option}
use Rattle.std.specs.declared.option.Option.TheVariants.{None, Some}
use Rattle.seat_table.specs.declared.wait.WaitPart as Part
use Rattle.seat_table.specs.declared.waiter.WaitWords as Words
use Rattle.seat_table.specs.contracts.seat.Seat.TheInside as Inside
use Rattle.seat_table.proofs.listed.Listed.TheSendSync as listed
use Rattle.seat_table.proofs.rule.Nothing.TheSendSync as nothing
use Rattle.seat_table.proofs.seat.Seat.TheSendSync as seat
use Rattle.seat_table.proofs.table.CitrusTable.TheSendSync as table
use Rattle.grace_cookie.proofs.cookies.Cookie.TheSendSync as cookie
use Rattle.tree_handles.specs.Ownership.{owns}
use Rattle.tree_handles.specs.contracts.front_queue.FrontQueue as Queue
use Rattle.tree_handles.specs.contracts.spinning.Spinning as Spins
use Rattle.tree_handles.specs.contracts.shared.Left as Left
use Rattle.tree_handles.specs.contracts.shared.Shared as Shared
use Rattle.tree_handles.specs.contracts.shared.Shared.TheInside as SharedInside
use Rattle.tree_handles.specs.contracts.caller.Caller as Caller
use Rattle.tree_handles.specs.contracts.caller.Caller.TheInside as CallerInside
use Rattle.tree_handles.specs.contracts.any_caller.AnyCaller as AnyCaller
use Rattle.tree_handles.specs.contracts.lane_seats.LaneSeats as LaneSeats
use Rattle.tree_handles.specs.contracts.lane_room.LaneRoom as LaneRoom
use Rattle.crossbeam_utils.proofs.cache_padded.CachePadded.TheSendSync as padded
use Rattle.tree_handles.proofs.front_queue.FrontQueue.TheSendSync as queue
use Rattle.tree_handles.proofs.spinning.Spinning.TheSendSync as spinning
use Rattle.tree_handles.proofs.shared.Left.TheSendSync as left
use Rattle.tree_handles.proofs.shared.Shared.TheSendSync as shared

-- of a seat of the kit a `&` shows nothing
raw_sync : (S V : RattleType) → IsSend S → IsSync (raw.the_row S V)
raw_sync S V s = record { shared = λ d b o κ q. part_keyless (raw.the_row S V) (raw_crosses.the_send S V s) q d b o }

spinning_send : IsSend (Spins.the_field).row
spinning_send = search (sendable, spinning.the_send, heap.crosses) depth 30

queue_sync : IsSync (Queue.the_field).row
queue_sync = search (sendable, queue.the_sync, padded.the_sync, heap.Vec-sync, atomic.the_sync) depth 20

module _ (W : RattleType) (p : Part.Ghosts W.Denot) (w : Words.Ghosts W.Denot) where
  inside_sync : IsSync (Inside.the_row W w)
  inside_sync =
      let T = Inside.the_type W w in
      let all : AllSync (fields T) = search (sendable, raw_sync, nothing.the_send, array.the_sync, listed.the_sync) depth 60 in
      recorded_sync (Struct (shape T)) T.D T.to T.to_one (struct_sync (shape T) all)

  left_sync : IsSync (Left.the_row W w)
  left_sync = let i = inside_sync in search sendable depth 20

  shared_inside_sync : IsSync (SharedInside.the_row W p w)
  shared_inside_sync =
      let y = left_sync in
      let T = SharedInside.the_type W p w in
      let all : AllSync (fields T) = (
        search (sendable, table.the_sync) depth 30,
        (
          search (sendable, counted.the_sync, left.the_send, heap.Vec-sync, option.the_sync, option.the_send) depth 30,
          (queue_sync, (search (sendable, atomic.the_sync) depth 30, tt)),
        ),
      ) in
      recorded_sync (Struct (shape T)) T.D T.to T.to_one (struct_sync (shape T) all)

  shared_sync : IsSync (Shared.the_row W p w)
  shared_sync = let i = shared_inside_sync in search sendable depth 20

  inside_send : IsSend (CallerInside.the_row W p w)
  inside_send =
      let y = shared_sync in
      let T = CallerInside.the_type W p w in
      let all : AllSend (fields T) = search (sendable, heap.Arc-send, shared.the_send, seat.the_send, cookie.the_send, spinning_send) depth 60 in
      recorded_send (Struct (shape T)) T.D T.to T.to_one (struct_send (shape T) all)

  caller_send : IsSend (Caller.the_row W p w)
  caller_send = let i = inside_send in search sendable depth 20

  lanes_send : IsSend (LaneSeats.the_row W p w)
  lanes_send = let y = shared_sync in search (sendable, heap.Arc-send, heap.Vec-send, shared.the_send, seat.the_send) depth 30

pub caller : IsSend AnyCaller.the_row
caller = search (sendable, caller_send) depth 20

pub lanes : IsSend LaneRoom.the_row
lanes = search (sendable, lanes_send, option.the_send) depth 20

-- What a pointer to a box owns goes with it, where the value may cross: any thread may free its block.
pub owned_keyless : (R : RattleType) → IsSend R → (a : Global) (p : Ptr) (k : Option R.Denot) → Keyless (owns R a p k)
owned_keyless R s a p None = tt
owned_keyless R s a p (Some x) = (lies R s p x, heap.frees.frees a (raw_type (lone R.mir)) p)

use Rattle.std.proofs.Common.{◌≡◌, length, ◌-◌, ◌≤◌, take}
use Rattle.io_edge.specs.Edge.{Appends}
use Rattle.io_edge.proofs.whole.write_pieces.Given as goal

abbrev pub invariant-loop-written : goal.invariant-loop-written
invariant-loop-written g l =
    (l.written ≤ length l.text) × Appends (g.K.Sink.bytes l.initial.sink) (g.K.Sink.bytes l.sink) (take l.written l.text)
    × (g.K.Sink.faults l.sink ≡ g.K.Sink.faults l.initial.sink)

abbrev pub decreases-loop-written : goal.decreases-loop-written
decreases-loop-written g l = length l.text - l.written

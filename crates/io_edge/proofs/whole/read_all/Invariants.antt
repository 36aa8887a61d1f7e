use Rattle.std.proofs.Common.{◌≡◌, ℕ, length, ◌-◌, ◌<◌, ◌≤◌, vec_len}
use Rattle.io_edge.specs.Edge.{Takes, TookBytes}
use Rattle.io_edge.proofs.whole.read_all.Given as goal

abbrev pub invariant-loop-text : goal.invariant-loop-text
invariant-loop-text g l =
    (0 < length l.buffer) × (vec_len l.text ≤ l.limit) × Takes (g.S.Source.rest l.initial.source) (g.S.Source.rest l.source) l.text.items
    × (g.S.Source.faults l.source ≡ g.S.Source.faults l.initial.source)
    × ((count : ℕ) × TookBytes g.S.Source.reads count l.initial.source l.source)

abbrev pub decreases-loop-text : goal.decreases-loop-text
decreases-loop-text g l = l.limit - vec_len l.text

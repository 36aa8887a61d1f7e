use Rattle.std.proofs.Common.{ap, take, drop, ◌∙◌}
use Rattle.io_edge.proofs.Told.{Takes-piece}
use Rattle.io_edge.proofs.memory_source.MemorySourceSource.read.Goals as goal

pub returns-clause-taken : goal.returns-clause-taken
returns-clause-taken c =
    Takes-piece c.self.inside.bytes.items c.args.self.now.rest _ c.self.inside.at c.copy_piece-count.result
    (ap (λ s. s.rest) c.self.view_is) (c.copy_piece-count.ensures.copied
    ∙ ap (λ x. take c.copy_piece-count.result (drop c.self.inside.at x)) c.deref-2.ensures.value)

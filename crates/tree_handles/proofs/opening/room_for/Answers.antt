use Rattle.std.proofs.Common.{arith, sym, ◌∙◌}
use Rattle.tree_handles.proofs.Keeps.{keep_own, keep_usual}
use Rattle.tree_handles.proofs.opening.room_for.Goals as goal

pub returns-then-keep-eq-USUAL : goal.returns-then-keep-eq-USUAL
returns-then-keep-eq-USUAL c = c.usual_room.ensures.usual ∙ sym (keep_usual c.args.pairs c.args.handles c.args.keep c.if-keep-eq-USUAL.true)

pub returns : goal.returns
returns c = sym (keep_own c.args.pairs c.args.handles c.args.keep (omega (arith, c.if-keep-eq-USUAL.false)))

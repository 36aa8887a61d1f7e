use Rattle.std.proofs.Common.{ℕ, arith, length-take, length-drop}
use Rattle.io_edge.proofs.Told.{Appends-more, AppendsFront-failed}
use Rattle.io_edge.proofs.whole.write_pieces.Goals as goal

pub returns-in-Err-clause-front : goal.returns-in-Err-clause-front
returns-in-Err-clause-front g c = AppendsFront-failed _ _ _ _ _ c.loop-written.invariant.1 c.in-Err.ensures.unwritten

pub loop-written-preserved : goal.loop-written-preserved
loop-written-preserved g c = (
  omega (arith, length-take {A = ℕ}, length-drop {A = ℕ}, c.in-Ok.ensures.within),
  Appends-more _ _ _ _ _ _ c.loop-written.invariant.1 c.in-Ok.ensures.appended,
  omega (arith, c.in-Ok.ensures.unfailed),
)

use Rattle.std.proofs.Common.{IfErr, IfOk, sym, subst, arith}
use Rattle.prcu_model.specs.declared.operation.Op.{Op}
use Rattle.seat_table.specs.Seats.{shape_of}
use Rattle.citrus_tree.specs.Deletes.{Begins}
use Rattle.citrus_tree.specs.Replies.{GaveWay, IsTold}
use Rattle.citrus_tree.specs.declared.answer.Called.{Called}
use Rattle.citrus_tree.proofs.Leavings.{keeps_more}
use Rattle.citrus_tree.proofs.patient.call.Goals as goal

pub returns-in-Put-clause-told : goal.returns-in-Put-clause-told
returns-in-Put-clause-told g c = subst (λ (o : Op). IfOk c.put.result (λ answer. IfOk answer (λ (called : Called). IsTold
    (shape_of g.W.WaitWords.WAY c.args.table.now) c.args.seat.now.view o called.told c.put.new.seat.view))) (sym c.in-Put.is) c.put.ensures.puts

pub returns-in-Put-clause-busy : goal.returns-in-Put-clause-busy
returns-in-Put-clause-busy g c = subst (λ (o : Op). IfOk c.put.result (λ answer. IfErr answer (λ _. GaveWay
    (shape_of g.W.WaitWords.WAY c.args.table.now) c.args.seat.now.view o c.put.new.seat.view))) (sym c.in-Put.is) c.put.ensures.busy

pub returns-in-Put-clause-begins : goal.returns-in-Put-clause-begins
returns-in-Put-clause-begins g c = subst (λ (o : Op). IfOk c.put.result
    (λ _. Begins (shape_of g.W.WaitWords.WAY c.args.table.now) c.args.seat.now.view o c.put.new.seat.view)) (sym c.in-Put.is) c.put.ensures.begins

pub returns-in-Get-clause-begins : goal.returns-in-Get-clause-begins
returns-in-Get-clause-begins g c =
    subst (λ (o : Op). Begins (shape_of g.W.WaitWords.WAY c.args.table.now) c.args.seat.now.view o c.get.new.seat.view) (sym c.in-Get.is)
    c.get.ensures.begins

pub returns-in-Get-clause-keeps : goal.returns-in-Get-clause-keeps
returns-in-Get-clause-keeps g c = keeps_more (omega arith) c.get.ensures.keeps

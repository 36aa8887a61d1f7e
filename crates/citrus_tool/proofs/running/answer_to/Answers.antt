use Rattle.std.proofs.Common.{sym, subst, IfOk}
use Rattle.std.proofs.lemmas.Result.{IfOk-weaker}
use Rattle.command_words.specs.declared.commands.Command.{Command}
use Rattle.citrus_tool.specs.Answers.{Writes, Leaves}
use Rattle.citrus_tool.proofs.running.answer_to.Goals as goal

pub returns-in-Run : goal.returns-in-Run
returns-in-Run g c =
    let input = c.args.input.now in
    subst (λ (k : Command). IfOk c.run.result (λ answer. (writes : Writes k answer.status input answer.text.items)
    × Leaves k answer.status input answer.text.items writes answer.ran))
    (sym c.in-Run.is) c.run.ensures

pub returns-in-Load : goal.returns-in-Load
returns-in-Load g c =
    let input = c.args.input.now in
    subst (λ (k : Command). IfOk c.load.result (λ answer. (writes : Writes k answer.status input answer.text.items)
    × Leaves k answer.status input answer.text.items writes answer.ran))
    (sym c.in-Load.is) (IfOk-weaker c.load.result _ _ (λ answer made. made input) c.load.ensures)

pub returns-in-Hash : goal.returns-in-Hash
returns-in-Hash g c =
    let input = c.args.input.now in
    subst (λ (k : Command). IfOk c.hash.result (λ answer. (writes : Writes k answer.status input answer.text.items)
    × Leaves k answer.status input answer.text.items writes answer.ran))
    (sym c.in-Hash.is) c.hash.ensures

pub returns-in-Watch : goal.returns-in-Watch
returns-in-Watch g c =
    let input = c.args.input.now in
    subst (λ (k : Command). IfOk c.watch.result (λ answer. (writes : Writes k answer.status input answer.text.items)
    × Leaves k answer.status input answer.text.items writes answer.ran))
    (sym c.in-Watch.is) c.watch.ensures

use Rattle.std.proofs.Common.{ap, subst, ◌∙◌}
use Rattle.workload.specs.Summaries.{plain_summary, summary_text}
use Rattle.citrus_tool.specs.Leavings.{LeavesMade}
use Rattle.citrus_tool.proofs.running.load.Goals as goal

pub returns : goal.returns
returns g c = λ input.
    let is = c.in_ok-made.ensures in (
      c.in_ok-text.ensures.text ∙ ap (λ s. summary_text (plain_summary s)) is,
      subst (λ s. LeavesMade c.args.waiter s c.in_ok-text.ran) is c.in_ok-text.ensures.left,
    )

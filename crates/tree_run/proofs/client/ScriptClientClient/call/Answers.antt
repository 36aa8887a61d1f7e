use Rattle.std.proofs.Common.{ap, subst}
use Rattle.tree_run.specs.Runs.{seen_as, HasCalled}
use Rattle.tree_run.proofs.Finished.{called_waiting, called_holding}
use Rattle.tree_run.proofs.client.ScriptClientClient.call.Goals as goal
use Rattle.tree_run.proofs.client.ScriptClientClient.call.Goals.{in-Waiting, in-Holding}

pub returns-clause-made : goal.returns-clause-made
returns-clause-made g c =
    let was = c.self.inside.client in
    let now = c.match-self.self-inside.client in
    let told = c.match-self.result in
    subst (λ z. HasCalled z c.args.op told (seen_as now)) c.self.view_is (elim c.match-self.branch [
      | in-Waiting w ↦ called_waiting was now c.args.op told w.call.result w.result-is w.in-Waiting.client w.call.new.self w.in-Waiting.is
          (ap (λ s. s.client) w.self-inside-is) w.call.ensures.made
      | in-Holding w ↦
          called_holding was now c.args.op told w.call-in-Holding.result w.result-is w.in-Holding.client w.call-in-Holding.new.self
          w.in-Holding.is (ap (λ s. s.client) w.self-inside-is) w.call-in-Holding.ensures.made
    ])

use Rattle.std.proofs.Common.{◌<◌, length, sym, ◌∙◌}
use Rattle.std.proofs.lemmas.Grind.{get_or_default_zero}
use Rattle.account_text.proofs.JudgedScripts.{length-own}
use Rattle.account_text.proofs.turns.Turns.count_of.Goals as goal

pub returns : goal.returns
returns c =
    let t = c.self.inside in
    let there : c.args.caller < length t.counts.items = rw (← c.self.view_is) at c.requires in
    rw (← c.self.view_is) (c.index.ensures ∙ get_or_default_zero t.counts.items c.args.caller c.index.result.now there
    ∙ c.self.invariant.count c.args.caller there ∙ sym (length-own c.args.caller t.history.now 1))

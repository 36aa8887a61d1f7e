use Rattle.std.proofs.Common.{◌≡◌, ◌<◌, List, length, sym, subst}
use Rattle.exact_list.specs.Pairs.{Pair, IsAt}
use Rattle.exact_list.proofs.Walking.{at_index}
use Rattle.exact_list.proofs.page.Page.pair.Goals as goal

pub returns : goal.returns
returns c =
    let items : c.self.inside.pairs.items ≡ c.args.self.now.pairs = (λ i. (c.self.view_is i).pairs) in
    let less = subst (λ (z : List Pair). c.args.i < length z) (sym items) c.requires in
    subst (λ (z : List Pair). IsAt z c.args.i c.index.result.now) items
    (subst (λ (z : Pair). IsAt c.self.inside.pairs.items c.args.i z) (sym c.index.ensures)
    (at_index c.self.inside.pairs.items c.args.i c.index.result.now less))

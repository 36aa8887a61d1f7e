use Rattle.std.proofs.Common.{◌∙◌}
use Rattle.tree_handles.proofs.Cookies.{keeper_begun, without}
use Rattle.tree_handles.proofs.keeper.begin.Goals as goal

pub returns-clause-cookies : goal.returns-clause-cookies
returns-clause-cookies g c =
    keeper_begun c.start.result c.start.ensures.begun c.start.ensures.seat.1 c.start.ensures.count (c.start.ensures.keys ∙ c.all.ensures)
    c.start.ensures.of c.start.ensures.kept
    (without c.requires.cookies)

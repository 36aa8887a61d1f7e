use Rattle.citrus_tree.proofs.Leavings.{goes_looked}
use Rattle.grace_cookie.proofs.Keeping.{keeps_all, listed_all}
use Rattle.tree_tests.proofs.tree.cookies.get_beside.Goals as goal

pub returns-clause-keeps : goal.returns-clause-keeps
returns-clause-keeps c =
    let goes = goes_looked c.get-reply.ensures.gets.2 in
    keeps_all c.args.seat.now c.get-reply.new.seat goes.advanced.same goes.advanced.begins goes.waits goes.wait goes.retired
    c.get-reply.ensures.listed

pub returns-clause-listed : goal.returns-clause-listed
returns-clause-listed c =
    let goes = goes_looked c.get-reply.ensures.gets.2 in
    listed_all c.args.seat.now c.get-reply.new.seat goes.retired c.get-reply.ensures.listed

use Rattle.seat_table.specs.Seats.{shape_of}
use Rattle.grace_cookie.proofs.Keeping.{cookies_stay, not_over, waits_on}
use Rattle.tree_tests.proofs.tree.cookies.a_later_wait_gives_the_cookie_up.Goals as goal

pub ask-requires-clause-of : goal.ask-requires-clause-of
ask-requires-clause-of g c =
    let k = shape_of 0 c.in_ok-table.table in
    let keeps = waits_on k c.start-cookie.new.seat c.wait_for_readers.new.seat _ _ c.wait_for_readers.ensures.waited in
    (cookies_stay k c.start-cookie.result c.start-cookie.new.seat c.wait_for_readers.new.seat keeps
    (not_over c.start-cookie.result c.start-cookie.ensures.going) c.start-cookie.ensures.of
    c.start-cookie.ensures.kept).0

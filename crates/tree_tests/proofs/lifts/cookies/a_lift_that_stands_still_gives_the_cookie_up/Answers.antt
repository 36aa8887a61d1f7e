use Rattle.seat_table.specs.Seats.{shape_of}
use Rattle.grace_cookie.proofs.Keeping.{cookies_stay, not_over}
use Rattle.tree_tests.proofs.lifts.cookies.a_lift_that_stands_still_gives_the_cookie_up.Goals as goal

pub ask-requires-clause-of : goal.ask-requires-clause-of
ask-requires-clause-of g c =
    (cookies_stay
    (shape_of 0 c.in_ok-table.table) c.start-cookie.result c.start-cookie.new.seat c.lift_beside-after.new.seat
    c.lift_beside-after.ensures.keeps (not_over c.start-cookie.result c.start-cookie.ensures.going)
    c.start-cookie.ensures.of c.start-cookie.ensures.kept).0

use Rattle.std.proofs.Common.{◌∙◌}
use Rattle.seat_table.specs.Seats.{shape_of}
use Rattle.grace_cookie.proofs.Keeping.{cookies_stay, not_over, same_keys, quiet_unraised}
use Rattle.tree_tests.proofs.lifts.cookies.slots_of_lifts_go_back_once_the_cookie_is_over.Goals as goal

pub ask-requires-clause-of : goal.ask-requires-clause-of
ask-requires-clause-of g c =
    (cookies_stay
    (shape_of 0 c.in_ok-table.table) c.start-cookie.result c.start-cookie.new.seat c.lift_beside-beside.new.seat
    c.lift_beside-beside.ensures.keeps (not_over c.start-cookie.result c.start-cookie.ensures.going)
    c.start-cookie.ensures.of c.start-cookie.ensures.kept).0

pub give_back-given-requires-clause-kept : goal.give_back-given-requires-clause-kept
give_back-given-requires-clause-kept g c =
    let kept = (cookies_stay
    (shape_of 0 c.in_ok-table.table) c.start-cookie.result c.start-cookie.new.seat c.lift_beside-beside.new.seat
    c.lift_beside-beside.ensures.keeps (not_over c.start-cookie.result c.start-cookie.ensures.going)
    c.start-cookie.ensures.of c.start-cookie.ensures.kept).1 in
    c.ask-2.ensures.kept (c.ask.ensures.kept kept)

pub give_back-given-requires-clause-unraised : goal.give_back-given-requires-clause-unraised
give_back-given-requires-clause-unraised g c = quiet_unraised c.ask-2.new.seat.view
    (c.ask-2.ensures.quiet (c.ask.ensures.quiet c.lift_beside-beside.ensures.quiet)).view _

pub give_back-given-requires-clause-everybody : goal.give_back-given-requires-clause-everybody
give_back-given-requires-clause-everybody g c =
    same_keys c.ask.new.cookie c.ask-2.new.cookie c.ask-2.ensures.cookie
    ∙ same_keys c.start-cookie.result c.ask.new.cookie c.ask.ensures.cookie ∙ c.start-cookie.ensures.keys ∙ c.all.ensures

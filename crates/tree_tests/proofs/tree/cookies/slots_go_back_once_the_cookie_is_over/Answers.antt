use Rattle.std.proofs.Common.{◌∙◌}
use Rattle.seat_table.specs.Seats.{shape_of}
use Rattle.grace_cookie.proofs.Keeping.{cookies_stay, same_keys, quiet_unraised}
use Rattle.tree_tests.proofs.tree.cookies.slots_go_back_once_the_cookie_is_over.Goals as goal

pub ask-requires-2-clause-of : goal.ask-requires-2-clause-of
ask-requires-2-clause-of g c =
    (cookies_stay
    (shape_of 0 c.in_ok-table.table) c.ask.new.cookie c.ask.new.seat c.get_beside-reply.new.seat c.get_beside-reply.ensures.keeps
    (λ _. c.get_beside-reply.ensures.listed)
    c.ask.ensures.of (c.ask.ensures.kept c.start-cookie.ensures.kept)).0

pub give_back-given-requires-clause-kept : goal.give_back-given-requires-clause-kept
give_back-given-requires-clause-kept g c = c.ask-2.ensures.kept
    (cookies_stay
    (shape_of 0 c.in_ok-table.table) c.ask.new.cookie c.ask.new.seat c.get_beside-reply.new.seat c.get_beside-reply.ensures.keeps
    (λ _. c.get_beside-reply.ensures.listed)
    c.ask.ensures.of (c.ask.ensures.kept c.start-cookie.ensures.kept)).1

pub give_back-given-requires-clause-unraised : goal.give_back-given-requires-clause-unraised
give_back-given-requires-clause-unraised g c = quiet_unraised c.ask-2.new.seat.view
    (c.ask-2.ensures.quiet c.get_beside-reply.ensures.quiet).view _

pub give_back-given-requires-clause-everybody : goal.give_back-given-requires-clause-everybody
give_back-given-requires-clause-everybody g c =
    same_keys c.ask.new.cookie c.ask-2.new.cookie c.ask-2.ensures.cookie
    ∙ same_keys c.start-cookie.result c.ask.new.cookie c.ask.ensures.cookie ∙ c.start-cookie.ensures.keys ∙ c.all.ensures

use Rattle.std.proofs.Common.{rules, [], ◌∷◌, refl, ap, ◌∙◌, arith}
use Rattle.std.proofs.lemmas.Result.{IfErr-at_err, IfOk-at_ok}
use Rattle.seat_table.proofs.SeveralSteps.{told_steps, makes_steps}
use Rattle.exact_list.proofs.Loading.{loaded_anyway, if_err}
use Rattle.core_state.specs.declared.view.View.{View}
use Rattle.seat_table.specs.Seats.{shape_of}
use Rattle.exact_list.proofs.Counting.{any_walk}
use Rattle.exact_list.proofs.Trying.{first_try, loaded_try, may_look, begun_listing, lists_holding, may_give, alone, alone_holds, alone_recent, quiet_alone, alone_tickets, quiet_lost}
use Rattle.exact_list.proofs.alone.list_alone.Goals as goal

pub enter-requires-clause-outside : goal.enter-requires-clause-outside
enter-requires-clause-outside g c = ap (λ (v : View). v.section) (IfOk-at_ok _ c.in-Ok.is c.in_ok-front.ensures.taken).others ∙ c.requires.quiet.view.section

pub enter-requires-clause-unlocked : goal.enter-requires-clause-unlocked
enter-requires-clause-unlocked g c = ap (λ (v : View). v.locks) (IfOk-at_ok _ c.in-Ok.is c.in_ok-front.ensures.taken).others ∙ c.requires.quiet.view.locks

pub gather-gathered-requires-clause-listing : goal.gather-gathered-requires-clause-listing
gather-gathered-requires-clause-listing g c =
    let k = shape_of g.W.WaitWords.WAY c.args.table.now in
    let v = c.take_front.new.seat.view in
    let key = c.args.keys.now.low in
    let i = first_try k v key c.low.result c.enter.new.seat.view c.look_at_front.result c.look_at_front.new.seat.view
    c.low.ensures.low c.enter.ensures.entered c.look_at_front.ensures.told in
    begun_listing v key c.look_at_front.result c.look_at_front.new.seat.view i

pub look_at_front-requires-2-clause-asks : goal.look_at_front-requires-2-clause-asks
look_at_front-requires-2-clause-asks g c = λ told.
    let k = shape_of g.W.WaitWords.WAY c.args.table.now in
    let v = c.take_front.new.seat.view in
    let key = c.args.keys.now.low in
    let first = c.look_at_front.result in
    let a = c.look_at_front.new.seat.view in
    let b = c.gather-gathered.new.seat.view in
    let i = first_try k v key c.low.result c.enter.new.seat.view first a c.low.ensures.low c.enter.ensures.entered
    c.look_at_front.ensures.told in
    may_look v key (first ∷ []) b (loaded_try v key (first ∷ []) a i b
    (loaded_anyway _ c.gather-gathered.result c.gather-gathered.ensures.gathered c.gather-gathered.ensures.left_off)) k

pub give_front_back-requires-clause-asks : goal.give_front_back-requires-clause-asks
give_front_back-requires-clause-asks g c =
    may_give (lists_holding c.requires.quiet.view.section (IfOk-at_ok _ c.in-Ok.is c.in_ok-front.ensures.taken) c.low.ensures.low c.enter.ensures.entered
    c.look_at_front.ensures.told (loaded_anyway _ c.gather-gathered.result c.gather-gathered.ensures.gathered c.gather-gathered.ensures.left_off) c.look_at_front-2.ensures.told c.leave.ensures.left)

pub returns-in-Err-clause-quiet : goal.returns-in-Err-clause-quiet
returns-in-Err-clause-quiet g c = quiet_lost (IfErr-at_err _ c.in-Err.is c.in_ok-front.ensures.busy) c.take_front.ensures.seat.1 c.requires.quiet

pub returns-in-Err-clause-tickets : goal.returns-in-Err-clause-tickets
returns-in-Err-clause-tickets g c = ap (λ (v : View). v.allowance.tickets) (IfErr-at_err _ c.in-Err.is c.in_ok-front.ensures.busy).others

pub returns-in_err-front-clause-quiet : goal.returns-in_err-front-clause-quiet
returns-in_err-front-clause-quiet g c = quiet_lost c.in_err-front.ensures.lost c.take_front.ensures.seat.1 c.requires.quiet

pub returns-in_err-front-clause-tickets : goal.returns-in_err-front-clause-tickets
returns-in_err-front-clause-tickets g c = ap (λ (v : View). v.allowance.tickets) c.in_err-front.ensures.lost.others

pub returns-in_err-next-clause-quiet : goal.returns-in_err-next-clause-quiet
returns-in_err-next-clause-quiet g c =
    let x = lists_holding c.requires.quiet.view.section (IfOk-at_ok _ c.in-Ok.is c.in_ok-front.ensures.taken) c.low.ensures.low c.enter.ensures.entered
    c.look_at_front.ensures.told c.in_err-next.ensures.left_off c.look_at_front-2.ensures.told c.leave.ensures.left in
    quiet_alone (alone x refl c.give_front_back.new.seat.view c.give_front_back.ensures.told (any_walk c.in_err-next.ensures.left_off)) (search rules) c.requires.quiet

pub returns-in_err-next-clause-tickets : goal.returns-in_err-next-clause-tickets
returns-in_err-next-clause-tickets g c =
    let x = lists_holding c.requires.quiet.view.section (IfOk-at_ok _ c.in-Ok.is c.in_ok-front.ensures.taken) c.low.ensures.low c.enter.ensures.entered
    c.look_at_front.ensures.told c.in_err-next.ensures.left_off c.look_at_front-2.ensures.told c.leave.ensures.left in
    alone_tickets (alone x refl c.give_front_back.new.seat.view c.give_front_back.ensures.told (any_walk c.in_err-next.ensures.left_off))

pub returns-in_err-next-clause-tired : goal.returns-in_err-next-clause-tired
returns-in_err-next-clause-tired g c =
    let made = c.in_err-next.ensures.tired in
    let look = told_steps c.look_at_front-2.ensures.told in
    let leave = makes_steps c.look_at_front-2.new.seat.view c.leave.new.seat.view c.leave.ensures.left.made in
    let give = told_steps c.give_front_back.ensures.told in
    if_err c.from_residual-in_err-next.result (omega (arith, made, look, leave, give))

pub returns-clause-quiet : goal.returns-clause-quiet
returns-clause-quiet g c =
    let x = lists_holding c.requires.quiet.view.section (IfOk-at_ok _ c.in-Ok.is c.in_ok-front.ensures.taken) c.low.ensures.low c.enter.ensures.entered
    c.look_at_front.ensures.told c.in_ok-next.ensures.gathered.0 c.look_at_front-2.ensures.told c.leave.ensures.left in
    quiet_alone (alone x c.front_of.ensures c.give_front_back.new.seat.view c.give_front_back.ensures.told c.in_ok-next.ensures.walked) (search rules) c.requires.quiet

pub returns-clause-tickets : goal.returns-clause-tickets
returns-clause-tickets g c =
    let x = lists_holding c.requires.quiet.view.section (IfOk-at_ok _ c.in-Ok.is c.in_ok-front.ensures.taken) c.low.ensures.low c.enter.ensures.entered
    c.look_at_front.ensures.told c.in_ok-next.ensures.gathered.0 c.look_at_front-2.ensures.told c.leave.ensures.left in
    alone_tickets (alone x c.front_of.ensures c.give_front_back.new.seat.view c.give_front_back.ensures.told c.in_ok-next.ensures.walked)

pub returns-clause-alone : goal.returns-clause-alone
returns-clause-alone g c =
    let x = lists_holding c.requires.quiet.view.section (IfOk-at_ok _ c.in-Ok.is c.in_ok-front.ensures.taken) c.low.ensures.low c.enter.ensures.entered
    c.look_at_front.ensures.told c.in_ok-next.ensures.gathered.0 c.look_at_front-2.ensures.told c.leave.ensures.left in
    alone x c.front_of.ensures c.give_front_back.new.seat.view c.give_front_back.ensures.told c.in_ok-next.ensures.walked

pub returns-clause-holds : goal.returns-clause-holds
returns-clause-holds g c =
    let x = lists_holding c.requires.quiet.view.section (IfOk-at_ok _ c.in-Ok.is c.in_ok-front.ensures.taken) c.low.ensures.low c.enter.ensures.entered
    c.look_at_front.ensures.told c.in_ok-next.ensures.gathered.0 c.look_at_front-2.ensures.told c.leave.ensures.left in
    alone_holds x c.front_of.ensures c.give_front_back.new.seat.view c.give_front_back.ensures.told g.D.Direction.SIDE c.args.keys.now c.in_ok-next.next
    c.gather-gathered.new.page c.in_ok-next.ensures.page.1 c.in_ok-next.ensures.gathered.1

pub returns-clause-recent : goal.returns-clause-recent
returns-clause-recent g c =
    let x = lists_holding c.requires.quiet.view.section (IfOk-at_ok _ c.in-Ok.is c.in_ok-front.ensures.taken) c.low.ensures.low c.enter.ensures.entered
    c.look_at_front.ensures.told c.in_ok-next.ensures.gathered.0 c.look_at_front-2.ensures.told c.leave.ensures.left in
    alone_recent x c.front_of.ensures c.give_front_back.new.seat.view c.give_front_back.ensures.told

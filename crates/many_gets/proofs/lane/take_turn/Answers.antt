use Rattle.std.proofs.Common.{refl}
use Rattle.citrus_tree.specs.declared.descent.Step.TheVariants.{Moved}
use Rattle.seat_table.specs.Seats.{shape_of}
use Rattle.many_gets.proofs.Lanes.{sought_is, stands_on, has_come, come_found, come_missed, goes_on, lane_moved, lane_next}
use Rattle.many_gets.proofs.lane.take_turn.Goals as goal

pub load_links-requires-clause-searching : goal.load_links-requires-clause-searching
load_links-requires-clause-searching g c =
    let p = c.requires.is.4 in let k = shape_of g.W.WaitWords.WAY c.args.table.now in let lane = c.args.lane.now in (
      p.last.view,
      lane.key,
      (has_come c.args.keys.now lane.index p.last k lane.key lane.ahead c.args.seat.now c.look_on.new.seat c.look_on.ensures.seat.0
          c.look_on.ensures.seat.1 (Moved c.in-Moved.slot c.in-Moved.side) c.in-Moved.ensures.slot c.in-Moved.ensures.searching c.in-Moved.ensures.costs
          (sought_is c.args.keys.now lane.index p.last k lane.searches lane.key lane.ahead c.args.seat.now c.if-not-lane.false p.at)).2,
    )

pub take_next-requires-clause-come : goal.take_next-requires-clause-come
take_next-requires-clause-come g c =
    let p = c.requires.is.4 in let k = shape_of g.W.WaitWords.WAY c.args.table.now in let lane = c.args.lane.now in (
      p.last,
      p.quiet,
      c.requires.is.3,
      come_found c.args.keys.now lane.index p.last k lane.key lane.ahead c.args.seat.now c.look_on.new.seat c.look_on.ensures.seat.0
          c.look_on.ensures.seat.1
          (sought_is c.args.keys.now lane.index p.last k lane.searches lane.key lane.ahead c.args.seat.now c.if-not-lane.false p.at)
          c.in-Found.slot c.in-Found.ensures.slot c.in-Found.ensures.searching c.in-Found.ensures.costs,
    )

pub take_next-requires-in-Ended-clause-come : goal.take_next-requires-in-Ended-clause-come
take_next-requires-in-Ended-clause-come g c =
    let p = c.requires.is.4 in let k = shape_of g.W.WaitWords.WAY c.args.table.now in let lane = c.args.lane.now in (
      p.last,
      p.quiet,
      c.requires.is.3,
      come_missed c.args.keys.now lane.index p.last k lane.key lane.ahead c.args.seat.now c.look_on.new.seat c.look_on.ensures.seat.0
          c.look_on.ensures.seat.1
          (sought_is c.args.keys.now lane.index p.last k lane.searches lane.key lane.ahead c.args.seat.now c.if-not-lane.false p.at)
          c.in-Ended.ensures.slot c.in-Ended.ensures.searching c.in-Ended.ensures.costs,
    )

pub returns-in-Moved-clause-is : goal.returns-in-Moved-clause-is
returns-in-Moved-clause-is g c number s less room p =
    let k = shape_of g.W.WaitWords.WAY c.args.table.now in let lane = c.args.lane.now in
    lane_moved
    g.W.WaitWords.WAY c.args.table.now c.args.keys.now c.args.answers.now c.args.answers.now c.args.count number s lane c.args.seat.now p
    (record lane { ahead = c.load_links.result.ahead }) c.load_links.new.seat refl
    (λ l at_l.
    let q = sought_is c.args.keys.now lane.index l k lane.searches lane.key lane.ahead c.args.seat.now c.if-not-lane.false at_l in
    stands_on c.args.keys.now lane.index l k lane.searches lane.key c.load_links.result.ahead c.load_links.new.seat c.if-not-lane.false (
      q.0,
      goes_on c.args.keys.now lane.index l k lane.key lane.ahead c.args.seat.now c.look_on.new.seat c.look_on.ensures.seat.0
          c.look_on.ensures.seat.1 q c.in-Moved.slot c.in-Moved.side c.in-Moved.ensures.slot c.in-Moved.ensures.searching c.in-Moved.ensures.costs
          c.load_links.result.ahead c.load_links.new.seat c.load_links.ensures.seat.0 c.load_links.ensures.seat.1 c.load_links.ensures.loads,
    ))

pub returns-in-Found-clause-is : goal.returns-in-Found-clause-is
returns-in-Found-clause-is g c number s less room p =
    let k = shape_of g.W.WaitWords.WAY c.args.table.now in let lane = c.args.lane.now in
    lane_next
    g.W.WaitWords.WAY c.args.table.now c.args.keys.now c.args.answers.now c.take_next.new.answers c.args.count number s lane
    c.args.seat.now p c.take_next.new.lane c.take_next.new.seat less c.take_next.ensures.others c.take_next.ensures.index
    (λ l at_l. c.take_next.ensures.next l room
    (come_found c.args.keys.now lane.index l k lane.key lane.ahead c.args.seat.now c.look_on.new.seat c.look_on.ensures.seat.0
    c.look_on.ensures.seat.1
    (sought_is c.args.keys.now lane.index l k lane.searches lane.key lane.ahead c.args.seat.now c.if-not-lane.false at_l)
    c.in-Found.slot c.in-Found.ensures.slot c.in-Found.ensures.searching c.in-Found.ensures.costs))

pub returns-in-Ended-clause-is : goal.returns-in-Ended-clause-is
returns-in-Ended-clause-is g c number s less room p =
    let k = shape_of g.W.WaitWords.WAY c.args.table.now in let lane = c.args.lane.now in
    lane_next
    g.W.WaitWords.WAY c.args.table.now c.args.keys.now c.args.answers.now c.take_next-in-Ended.new.answers c.args.count number s lane
    c.args.seat.now p c.take_next-in-Ended.new.lane c.take_next-in-Ended.new.seat less c.take_next-in-Ended.ensures.others
    c.take_next-in-Ended.ensures.index
    (λ l at_l. c.take_next-in-Ended.ensures.next l room
    (come_missed c.args.keys.now lane.index l k lane.key lane.ahead c.args.seat.now c.look_on.new.seat c.look_on.ensures.seat.0
    c.look_on.ensures.seat.1
    (sought_is c.args.keys.now lane.index l k lane.searches lane.key lane.ahead c.args.seat.now c.if-not-lane.false at_l)
    c.in-Ended.ensures.slot c.in-Ended.ensures.searching c.in-Ended.ensures.costs))

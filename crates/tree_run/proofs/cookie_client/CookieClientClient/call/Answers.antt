use Rattle.std.proofs.Common.{refl, sym, subst}
use Rattle.core_state.specs.declared.shape.Shape.{Shape}
use Rattle.seat_table.specs.Seats.{shape_of}
use Rattle.tree_run.specs.Clients.{IsGood, Settles, MakesRoom, CookieClientAt, HasCalled}
use Rattle.tree_run.proofs.Calls.{call_keeps, good_stays, made_call}
use Rattle.tree_run.proofs.cookie_client.CookieClientClient.call.Goals as goal

pub settle-self-inside-requires-clause-good : goal.settle-self-inside-requires-clause-good
settle-self-inside-requires-clause-good g c =
    let k : Shape = shape_of g.W.WaitWords.WAY c.self.inside.table.now in
    let e = c.call_and_lift-told.ensures in
    let room = c.make_room-self-inside in
    let value = c.take-2.ensures.value in
    subst (IsGood k c.call_and_lift-told.new.seat) (sym value)
    (good_stays k room.result room.new.seat c.call_and_lift-told.new.seat
    (call_keeps k c.args.op c.call_and_lift-told.result room.new.seat c.call_and_lift-told.new.seat e.told e.keeps.slots) room.ensures.good)

pub returns-clause-made : goal.returns-clause-made
returns-clause-made g c =
    let k : Shape = shape_of g.W.WaitWords.WAY c.self.inside.table.now in
    let cookie = c.self.inside.cookie in
    let s = c.self.inside.seat in
    let room = c.make_room-self-inside in
    let ready = room.new.seat in
    let mid = c.call_and_lift-told.new.seat in
    let t = c.settle-self-inside.new.seat in
    let e = c.call_and_lift-told.ensures in
    let after = c.settle-self-inside.ensures in
    let made = subst (λ held. MakesRoom k c.args.op held s room.result ready) c.take.ensures.value room.ensures.room in
    let good = good_stays k room.result ready mid (call_keeps k c.args.op c.call_and_lift-told.result ready mid e.told e.keeps.slots) room.ensures.good in
    let settles = subst (λ held. Settles k held mid c.settle-self-inside.result t) c.take-2.ensures.value after.settles in
    let now : CookieClientAt = record {
      tree = record { shape = k; table = c.self.inside.table.now; seat = t };
      cookie = c.settle-self-inside.result;
    } in
    subst (λ z. HasCalled z c.args.op c.call_and_lift-told.result now) c.self.view_is
    (made_call k c.self.inside.table.now cookie room.result c.settle-self-inside.result s ready mid t c.args.op c.call_and_lift-told.result
    c.self.invariant.2 made
    (record {
      shape = refl;
      table = refl;
      answer = e.told;
      keeps = e.keeps;
      informed = e.informed;
    })
    good settles after.quiet after.sound)

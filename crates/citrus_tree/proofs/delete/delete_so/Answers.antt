use Rattle.std.proofs.Common.{◌≡◌, ℕ, Option, refl, subst, sym, true}
use Rattle.std.proofs.lemmas.Result.{IfErr-at_err, IfErr-weaker, IfOk-at_ok, IfOk-weaker}
use Rattle.std.specs.Option.{IfSome}
use Rattle.seat_table.specs.Gains.{IsInformed}
use Rattle.seat_table.specs.Seats.{shape_of}
use Rattle.citrus_tree.specs.declared.delete.Outcome.{Outcome}
use Rattle.citrus_tree.specs.Going.{IsExpected}
use Rattle.citrus_tree.specs.Deletes.{DelGaveWay, DelTells, DelsAtOnce, FoundExpected, FoundOther, FoundTwoChildren, GaveWayAtOnce, IfDiffers, IfTold, IfTwo, RetiresBy}
use Rattle.citrus_tree.specs.Replies.{TellsValue}
use Rattle.citrus_tree.proofs.DeleteSearches.{answered_before}
use Rattle.prcu_model.specs.declared.operation.Told.{Told}
use Rattle.citrus_tree.proofs.DeleteLooks.{differs_weaker, looked_gave, looked_other, looked_tells, looked_waits, never_two, tells_none, told_weaker}
use Rattle.citrus_tree.proofs.DeleteTries.{del_way, dels, dels_allowance, keeps_wait, ends_keeps, none_or_all}
use Rattle.citrus_tree.proofs.Leavings.{slots_on, keeps_seat}
use Rattle.citrus_tree.proofs.DeleteMoves.{retires_before, when_gone}
use Rattle.citrus_tree.proofs.DeleteUpdates.{told_since}
use Rattle.citrus_tree.proofs.delete.delete_so.Goals as goal

pub returns-in-Ok-Told-clause-tells : goal.returns-in-Ok-Told-clause-tells
returns-in-Ok-Told-clause-tells g c =
    let k = shape_of g.W.WaitWords.WAY c.args.table.now in
    let v = c.make_room.new.seat.view in
    let w = c.delete.new.seat.view in
    let made = c.in_ok-busy.ensures in
    let e = c.in_ok-told.ensures in
    let ok = c.in-Ok-Told.is in
    let is = c.in-Ok-Told.field-0-is in
    let told = c.in-Ok-Told.told in
    let all = dels made.room c.args.key w told
    (subst (λ (o : Outcome). IfTold o (λ told value. DelsAtOnce v c.args.key told w)) is (IfOk-at_ok _ ok e.dels)) in record {
      dels = all;
      begins = record { ready = v; room = made.room; at_once = made.at_once; lookup = e.begins };
      retires = λ gone. retires_before c.args.seat.now c.make_room.new.seat c.delete.new.seat c.args.key told.number
          made.room.advanced made.kept (when_gone gone (subst (λ (o : Outcome). IfTold o
          (λ told value. RetiresBy c.make_room.new.seat c.args.key told.reply told.number c.delete.new.seat)) is (IfOk-at_ok _ ok e.retires)));
      keeps = keeps_seat
          (ends_keeps c.args.seat.now.view (IfOk-at_ok _ c.in_default.is made.at) c.ranges.key.fits c.requires.tickets e.done
          (keeps_wait made.room c.args.key w e.wait)
          (dels_allowance k c.args.seat.now.view w c.args.key told all))
          e.listed
          (slots_on c.args.seat.now c.make_room.new.seat c.delete.new.seat made.slots e.slots);
      slots = none_or_all c.args.seat.now c.make_room.new.seat c.delete.new.seat made.stays e.stays e.few;
      informed = subst (λ (o : Outcome). IfTold o (λ told value. IsInformed w)) is (IfOk-at_ok _ ok e.informed);
    }

pub returns-in-Ok-Told-clause-value : goal.returns-in-Ok-Told-clause-value
returns-in-Ok-Told-clause-value g c tells = told_since c.delete.new.seat.view c.args.key c.in-Ok-Told.told c.in-Ok-Told.value
    c.in_ok-busy.ensures.room (subst (λ (o : Outcome). IfTold o (λ told value. c.args.manner.tells_value ≡ true
    → TellsValue c.make_room.new.seat.view c.args.key told value c.delete.new.seat.view)) c.in-Ok-Told.field-0-is
    (IfOk-at_ok _ c.in-Ok-Told.is c.in_ok-told.ensures.value) tells)

pub returns-in-Ok-Told-clause-unwaited : goal.returns-in-Ok-Told-clause-unwaited
returns-in-Ok-Told-clause-unwaited g c = λ leaves.
    let made = c.in_ok-busy.ensures in
    record { ready = c.make_room.new.seat.view; room = made.room; at_once = made.at_once; waits = c.in_ok-told.ensures.unwaited leaves }

pub returns-in-Ok-TwoChildren-clause-asked : goal.returns-in-Ok-TwoChildren-clause-asked
returns-in-Ok-TwoChildren-clause-asked g c = subst (λ (o : Outcome). IfTwo o (c.args.manner.leaves_two ≡ true)) c.in-Ok-TwoChildren.field-0-is
    (IfOk-at_ok _ c.in-Ok-TwoChildren.is c.in_ok-told.ensures.asked)

pub returns-in-Ok-TwoChildren-clause-two : goal.returns-in-Ok-TwoChildren-clause-two
returns-in-Ok-TwoChildren-clause-two g c = subst (λ (o : Outcome). IfTwo o (FoundTwoChildren c.args.key c.delete.new.seat.view))
    c.in-Ok-TwoChildren.field-0-is (IfOk-at_ok _ c.in-Ok-TwoChildren.is c.in_ok-told.ensures.two)

pub returns-in-Ok-TwoChildren-clause-seen : goal.returns-in-Ok-TwoChildren-clause-seen
returns-in-Ok-TwoChildren-clause-seen g c = subst (λ (o : Outcome). IfTwo o (FoundExpected c.args.key c.args.manner.expected c.delete.new.seat.view))
    c.in-Ok-TwoChildren.field-0-is (IfOk-at_ok _ c.in-Ok-TwoChildren.is c.in_ok-told.ensures.seen)

pub returns-in-Ok-TwoChildren-clause-left : goal.returns-in-Ok-TwoChildren-clause-left
returns-in-Ok-TwoChildren-clause-left g c =
    let v = c.make_room.new.seat.view in
    let w = c.delete.new.seat.view in
    let made = c.in_ok-busy.ensures in
    let e = c.in_ok-told.ensures in
    let way = del_way made.room c.args.key
    (subst (λ (o : Outcome). IfTwo o (GaveWayAtOnce v c.args.key w)) c.in-Ok-TwoChildren.field-0-is (IfOk-at_ok _ c.in-Ok-TwoChildren.is e.left)) in record {
      gave = way;
      begins = record { ready = v; room = made.room; at_once = made.at_once; lookup = e.begins };
      keeps = keeps_seat
          (ends_keeps c.args.seat.now.view (IfOk-at_ok _ c.in_default.is made.at) c.ranges.key.fits c.requires.tickets e.done
          (keeps_wait made.room c.args.key w e.wait) way.tried.own.allowance)
          e.listed
          (slots_on c.args.seat.now c.make_room.new.seat c.delete.new.seat made.slots e.slots);
      slots = none_or_all c.args.seat.now c.make_room.new.seat c.delete.new.seat made.stays e.stays e.few;
    }

pub returns-in-Ok-TwoChildren-clause-unwaited : goal.returns-in-Ok-TwoChildren-clause-unwaited
returns-in-Ok-TwoChildren-clause-unwaited g c = λ leaves.
    let made = c.in_ok-busy.ensures in
    record { ready = c.make_room.new.seat.view; room = made.room; at_once = made.at_once; waits = c.in_ok-told.ensures.unwaited leaves }

pub returns-in-Ok-Differs-clause-other : goal.returns-in-Ok-Differs-clause-other
returns-in-Ok-Differs-clause-other g c =
    let v = c.make_room.new.seat.view in
    let w = c.delete.new.seat.view in
    let made = c.in_ok-busy.ensures in
    let e = c.in_ok-told.ensures in
    let way = del_way made.room c.args.key
    (subst (λ (o : Outcome). IfDiffers o (λ found. GaveWayAtOnce v c.args.key w)) c.in-Ok-Differs.field-0-is (IfOk-at_ok _ c.in-Ok-Differs.is e.other)) in record {
      gave = way;
      begins = record { ready = v; room = made.room; at_once = made.at_once; lookup = e.begins };
      keeps = keeps_seat
          (ends_keeps c.args.seat.now.view (IfOk-at_ok _ c.in_default.is made.at) c.ranges.key.fits c.requires.tickets e.done
          (keeps_wait made.room c.args.key w e.wait) way.tried.own.allowance)
          e.listed
          (slots_on c.args.seat.now c.make_room.new.seat c.delete.new.seat made.slots e.slots);
      slots = none_or_all c.args.seat.now c.make_room.new.seat c.delete.new.seat made.stays e.stays e.few;
    }

pub returns-in-Ok-Differs-clause-unwaited : goal.returns-in-Ok-Differs-clause-unwaited
returns-in-Ok-Differs-clause-unwaited g c = λ leaves.
    let made = c.in_ok-busy.ensures in
    record { ready = c.make_room.new.seat.view; room = made.room; at_once = made.at_once; waits = c.in_ok-told.ensures.unwaited leaves }

pub returns-in-Ok-Told-clause-wanted : goal.returns-in-Ok-Told-clause-wanted
returns-in-Ok-Told-clause-wanted g c = subst (λ (o : Outcome). IfTold o
    (λ told value. IfSome value (λ taken. IsExpected c.args.manner.expected taken))) c.in-Ok-Told.field-0-is
    (IfOk-at_ok _ c.in-Ok-Told.is c.in_ok-told.ensures.wanted)

pub returns-in-Ok-Differs-clause-differs : goal.returns-in-Ok-Differs-clause-differs
returns-in-Ok-Differs-clause-differs g c =
    let found = subst (λ (o : Outcome). IfDiffers o
    (λ found. FoundOther c.make_room.new.seat.view c.args.key c.args.manner.expected found c.delete.new.seat.view)) c.in-Ok-Differs.field-0-is
    (IfOk-at_ok _ c.in-Ok-Differs.is c.in_ok-told.ensures.differs) in
    (answered_before c.in_ok-busy.ensures.room.advanced found.0, found.1, found.2)

pub returns-in-Err-2-clause-busy : goal.returns-in-Err-2-clause-busy
returns-in-Err-2-clause-busy g c =
    let made = c.in_ok-busy.ensures in
    let e = c.in_ok-told.ensures in
    let way = del_way made.room c.args.key (IfErr-at_err _ c.in-Err-2.is e.busy) in record {
      gave = way;
      begins = record { ready = c.make_room.new.seat.view; room = made.room; at_once = made.at_once; lookup = e.begins };
      keeps = keeps_seat
          (ends_keeps c.args.seat.now.view (IfOk-at_ok _ c.in_default.is made.at) c.ranges.key.fits c.requires.tickets e.done
          (keeps_wait made.room c.args.key c.delete.new.seat.view e.wait) way.tried.own.allowance)
          e.listed
          (slots_on c.args.seat.now c.make_room.new.seat c.delete.new.seat made.slots e.slots);
      slots = none_or_all c.args.seat.now c.make_room.new.seat c.delete.new.seat made.stays e.stays e.few;
    }

pub returns-in-Err-2-clause-unwaited : goal.returns-in-Err-2-clause-unwaited
returns-in-Err-2-clause-unwaited g c = λ leaves.
    let made = c.in_ok-busy.ensures in
    record { ready = c.make_room.new.seat.view; room = made.room; at_once = made.at_once; waits = c.in_ok-told.ensures.unwaited leaves }

pub delete-requires-clause-at : goal.delete-requires-clause-at
delete-requires-clause-at g c = (0, IfOk-at_ok _ c.in_default.is c.in_ok-busy.ensures.at c.args.key 0 c.ranges.key.fits c.requires.tickets)

-- where it lacked slots it came to what a lookup told

pub returns-in-Err-clause-tells : goal.returns-in-Err-clause-tells
returns-in-Err-clause-tells g c =
    let k = shape_of g.W.WaitWords.WAY c.args.table.now in
    let made = c.in_ok-busy.ensures in
    let looks = c.look_instead.ensures in
    IfOk-weaker c.look_instead.result _ _ (λ (o : Outcome) says. told_weaker o _ (λ told value. DelTells k c.args.seat.now c.args.key told
    c.look_instead.new.seat) (λ told value absent. subst (λ (x : Told). DelTells k c.args.seat.now c.args.key x c.look_instead.new.seat)
    (sym absent.0) (looked_tells made.room made.at_once made.stays (IfErr-at_err _ c.in-Err.is made.busy) looks.keeps looks.seat.1 absent.2 refl))
    says) looks.absent

pub returns-in-Err-clause-value : goal.returns-in-Err-clause-value
returns-in-Err-clause-value g c =
    IfOk-weaker c.look_instead.result _ _ (λ (o : Outcome) says. told_weaker o _ (λ told value. c.args.manner.tells_value ≡ true
    → TellsValue c.args.seat.now.view c.args.key told value c.look_instead.new.seat.view) (λ told value absent tells.
    tells_none c.args.seat.now.view c.look_instead.new.seat.view c.args.key told value absent.0 absent.1) says) c.look_instead.ensures.absent

pub returns-in-Err-clause-wanted : goal.returns-in-Err-clause-wanted
returns-in-Err-clause-wanted g c =
    IfOk-weaker c.look_instead.result _ _ (λ (o : Outcome) says. told_weaker o _
    (λ told value. IfSome value (λ taken. IsExpected c.args.manner.expected taken)) (λ told value absent.
    subst (λ (v : Option ℕ). IfSome v (λ taken. IsExpected c.args.manner.expected taken)) (sym absent.1) tt) says) c.look_instead.ensures.absent

pub returns-in-Err-clause-differs : goal.returns-in-Err-clause-differs
returns-in-Err-clause-differs g c =
    let k = shape_of g.W.WaitWords.WAY c.args.table.now in
    let made = c.in_ok-busy.ensures in
    let looks = c.look_instead.ensures in
    IfOk-weaker c.look_instead.result _ _ (λ (o : Outcome) says. differs_weaker o _ (λ found. FoundOther c.args.seat.now.view c.args.key
    c.args.manner.expected found c.look_instead.new.seat.view) (λ found other. looked_other made.room made.at_once made.stays
    (IfErr-at_err _ c.in-Err.is made.busy) looks.keeps looks.seat.1 other.0 c.args.manner.expected found refl other.1) says) looks.differs

pub returns-in-Err-clause-other : goal.returns-in-Err-clause-other
returns-in-Err-clause-other g c =
    let k = shape_of g.W.WaitWords.WAY c.args.table.now in
    let made = c.in_ok-busy.ensures in
    let looks = c.look_instead.ensures in
    IfOk-weaker c.look_instead.result _ _ (λ (o : Outcome) says. differs_weaker o _ (λ found. DelGaveWay k c.args.seat.now c.args.key
    c.look_instead.new.seat) (λ found other. looked_gave made.room made.at_once made.stays (IfErr-at_err _ c.in-Err.is made.busy) looks.keeps
    looks.seat.1 looks.looked.1) says) looks.differs

pub returns-in-Err-clause-asked : goal.returns-in-Err-clause-asked
returns-in-Err-clause-asked g c =
    IfOk-weaker c.look_instead.result _ _ (λ (o : Outcome) says. never_two o (c.args.manner.leaves_two ≡ true) says) c.look_instead.ensures.takes

pub returns-in-Err-clause-two : goal.returns-in-Err-clause-two
returns-in-Err-clause-two g c = IfOk-weaker c.look_instead.result _ _
    (λ (o : Outcome) says. never_two o (FoundTwoChildren c.args.key c.look_instead.new.seat.view) says) c.look_instead.ensures.takes

pub returns-in-Err-clause-seen : goal.returns-in-Err-clause-seen
returns-in-Err-clause-seen g c = IfOk-weaker c.look_instead.result _ _ (λ (o : Outcome) says. never_two o
    (FoundExpected c.args.key c.args.manner.expected c.look_instead.new.seat.view) says) c.look_instead.ensures.takes

pub returns-in-Err-clause-left : goal.returns-in-Err-clause-left
returns-in-Err-clause-left g c = IfOk-weaker c.look_instead.result _ _ (λ (o : Outcome) says. never_two o
    (DelGaveWay (shape_of g.W.WaitWords.WAY c.args.table.now) c.args.seat.now c.args.key c.look_instead.new.seat) says)
    c.look_instead.ensures.takes

pub returns-in-Err-clause-busy : goal.returns-in-Err-clause-busy
returns-in-Err-clause-busy g c =
    let k = shape_of g.W.WaitWords.WAY c.args.table.now in
    let made = c.in_ok-busy.ensures in
    let looks = c.look_instead.ensures in
    IfErr-weaker c.look_instead.result _ _ (λ busy present. looked_gave {k = k} made.room made.at_once made.stays
    (IfErr-at_err _ c.in-Err.is made.busy) looks.keeps looks.seat.1 looks.looked.1) looks.present

pub returns-in-Err-clause-unwaited : goal.returns-in-Err-clause-unwaited
returns-in-Err-clause-unwaited g c = λ leaves.
    let made = c.in_ok-busy.ensures in
    let looks = c.look_instead.ensures in
    looked_waits made.room made.at_once made.stays (IfErr-at_err _ c.in-Err.is made.busy) looks.keeps looks.seat.1 looks.looked.1

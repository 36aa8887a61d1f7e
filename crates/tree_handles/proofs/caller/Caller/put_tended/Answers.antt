use Rattle.std.proofs.Common.{◌≡◌, ◌∙◌, ap, refl, rules, subst, sym}
use Rattle.std.proofs.lemmas.Result.{IfOk-at_ok}
use Rattle.std_alloc.specs.Arc.{arc_value}
use Rattle.prcu_model.specs.declared.operation.Reply.TheVariants.{New}
use Rattle.seat_table.specs.Seats.{IsQuietSeat, shape_of}
use Rattle.citrus_tree.specs.declared.insert.Reuse.{Reuse}
use Rattle.citrus_tree.specs.Going.{KeepsSeatBy, MayUse, TakesBy}
use Rattle.tree_handles.specs.Callers.{CallerAt}
use Rattle.tree_handles.specs.Keepers.{slot_for}
use Rattle.tree_handles.proofs.Cookies.{later_by, same_waits}
use Rattle.tree_handles.proofs.Keepers.{user_earlier}
use Rattle.tree_handles.proofs.Serving.{cookies_put, keeper_put, keeps_or_serves, longer_by, may_serve, may_use, put_latest, served_behind, shorter_by}
use Rattle.tree_handles.proofs.caller.Caller.put_tended.Goals as goal

pub serves_next-again-requires : goal.serves_next-again-requires
serves_next-again-requires g c = record {
  begun = λ d is. user_earlier (shape_of g.W.WaitWords.WAY (arc_value c.self.inside.shared)) c.self.inside.cookie c.self.inside.seat.view d
      (c.self.invariant.2 (ap (λ (z : CallerAt). z.lost) c.self.view_is ∙ c.requires.may.kept)).of_user is;
}

pub put_reusing-answer-requires-clause-ready : goal.put_reusing-answer-requires-clause-ready
put_reusing-answer-requires-clause-ready g c =
    let kept = ap (λ (z : CallerAt). z.lost) c.self.view_is ∙ c.requires.may.kept in
    let quiet = subst (λ (z : CallerAt). IsQuietSeat z.seat) (sym c.self.view_is) c.requires.may.quiet in
    subst (λ (r : Reuse). MayUse r c.self.inside.seat.view) (sym (subst (λ (z : CallerAt). c.args.reuse ≡ slot_for z.keeper z.seat.listed) (sym c.self.view_is) c.requires.slot))
    (may_use (shape_of g.W.WaitWords.WAY (arc_value c.self.inside.shared)) c.self.inside.keeper c.self.inside.seat.listed c.self.inside.seat refl
    (c.self.invariant.2 kept).of_caller quiet.view)

-- the seat as the put left it, and what came behind
pub returns-in-Ok-Ok-clause-called : goal.returns-in-Ok-Ok-clause-called
returns-in-Ok-Ok-clause-called g c =
    let keeps : KeepsSeatBy 4 (slot_for c.self.inside.keeper c.self.inside.seat.listed) c.self.inside.seat c.put_reusing-answer.new.seat = subst (λ (r : Reuse). KeepsSeatBy 4 r c.self.inside.seat c.put_reusing-answer.new.seat) (subst (λ (z : CallerAt). c.args.reuse ≡ slot_for z.keeper z.seat.listed) (sym c.self.view_is) c.requires.slot)
    (IfOk-at_ok (λ _. KeepsSeatBy 4 c.args.reuse c.self.inside.seat c.put_reusing-answer.new.seat) c.in-Ok-Ok.is c.put_reusing-answer.ensures.keeps) in
    let how = keeps_or_serves c.self.inside.keeper c.self.inside.seat.listed c.self.inside.seat c.put_reusing-answer.new.seat refl keeps.slots in
    let least = (put_latest c.self.inside.seat c.put_reusing-answer.new.seat keeps how).waits in
    let uses : c.in-Ok-Ok.called.told.reply ≡ New → TakesBy c.args.reuse c.self.inside.seat.view.hands.spare c.self.inside.seat c.put_reusing-answer.new.seat = search rules in record {
      index = search rules;
      keeper = may_serve c.self.view_is (served_behind c.self.inside.seat (keeper_put c.self.inside.seat c.put_reusing-answer.new.seat keeps how _ _ c.forget_if.ensures.gone (λ same. c.forget_if.ensures.kept same)
          (λ same. same_waits same c.waits-waits.ensures c.waits.ensures) (shorter_by _ _ c.retired.ensures c.retired-kept.ensures)
          (longer_by _ _ c.retired.ensures c.retired-kept.ensures) c.count_reused.ensures.used c.count_reused.ensures.none
          (λ same. c.count_reused.ensures.kept same)
          (later_by c.self.inside.seat c.put_reusing-answer.new.seat least c.waits-waits.ensures c.waits.ensures)) least c.lift_behind.ensures.keeper c.lift_behind.ensures.behind);
      before = search rules;
      enough = search rules;
      answered = c.put_reusing-answer.new.seat;
      tells = record {
        table = search rules;
        answer = search rules;
        begins = search rules;
        keeps = subst (λ (z : CallerAt). KeepsSeatBy 4 (slot_for z.keeper z.seat.listed) z.seat c.put_reusing-answer.new.seat) c.self.view_is keeps;
        uses = subst (λ (z : CallerAt). c.in-Ok-Ok.called.told.reply ≡ New → TakesBy (slot_for z.keeper z.seat.listed) z.seat.view.hands.spare z.seat
            c.put_reusing-answer.new.seat) c.self.view_is
            (subst (λ (r : Reuse). c.in-Ok-Ok.called.told.reply ≡ New → TakesBy r c.self.inside.seat.view.hands.spare c.self.inside.seat c.put_reusing-answer.new.seat)
            (subst (λ (z : CallerAt). c.args.reuse ≡ slot_for z.keeper z.seat.listed) (sym c.self.view_is) c.requires.slot) uses);
        informed = search rules;
      };
      behind = c.lift_behind.ensures.behind;
    }

pub returns-in-Ok-Err-clause-cause : goal.returns-in-Ok-Err-clause-cause
returns-in-Ok-Err-clause-cause g c =
    let keeps : KeepsSeatBy 4 (slot_for c.self.inside.keeper c.self.inside.seat.listed) c.self.inside.seat c.put_reusing-answer.new.seat = subst (λ (r : Reuse). KeepsSeatBy 4 r c.self.inside.seat c.put_reusing-answer.new.seat) (subst (λ (z : CallerAt). c.args.reuse ≡ slot_for z.keeper z.seat.listed) (sym c.self.view_is) c.requires.slot)
    (IfOk-at_ok (λ _. KeepsSeatBy 4 c.args.reuse c.self.inside.seat c.put_reusing-answer.new.seat) c.in-Ok-Err.is c.put_reusing-answer.ensures.keeps) in
    let how = keeps_or_serves c.self.inside.keeper c.self.inside.seat.listed c.self.inside.seat c.put_reusing-answer.new.seat refl keeps.slots in
    let least = (put_latest c.self.inside.seat c.put_reusing-answer.new.seat keeps how).waits in record {
      index = search rules;
      keeper = may_serve c.self.view_is (λ _. keeper_put c.self.inside.seat c.put_reusing-answer.new.seat keeps how _ _ c.forget_if.ensures.gone (λ same. c.forget_if.ensures.kept same)
          (λ same. same_waits same c.waits-waits.ensures c.waits.ensures) (shorter_by _ _ c.retired.ensures c.retired-kept.ensures)
          (longer_by _ _ c.retired.ensures c.retired-kept.ensures) c.count_reused.ensures.used c.count_reused.ensures.none
          (λ same. c.count_reused.ensures.kept same)
          (later_by c.self.inside.seat c.put_reusing-answer.new.seat least c.waits-waits.ensures c.waits.ensures));
      before = search rules;
      enough = search rules;
      gave = search rules;
      begins = search rules;
      keeps = subst (λ (z : CallerAt). KeepsSeatBy 4 (slot_for z.keeper z.seat.listed) z.seat c.put_reusing-answer.new.seat) c.self.view_is keeps;
      may = search rules;
    }

-- the cookies are good still, without the keeper where a wait was begun
pub invariant_of-self : goal.invariant_of-self
invariant_of-self g c =
    let keeps : KeepsSeatBy 4 (slot_for c.self.inside.keeper c.self.inside.seat.listed) c.self.inside.seat c.put_reusing-answer.new.seat = subst (λ (r : Reuse). KeepsSeatBy 4 r c.self.inside.seat c.put_reusing-answer.new.seat) (subst (λ (z : CallerAt). c.args.reuse ≡ slot_for z.keeper z.seat.listed) (sym c.self.view_is) c.requires.slot)
    (IfOk-at_ok (λ _. KeepsSeatBy 4 c.args.reuse c.self.inside.seat c.put_reusing-answer.new.seat) c.in-Ok-Ok.is c.put_reusing-answer.ensures.keeps) in
    let how = keeps_or_serves c.self.inside.keeper c.self.inside.seat.listed c.self.inside.seat c.put_reusing-answer.new.seat refl keeps.slots in (
      search rules,
      search rules,
      λ kept. cookies_put c.self.inside.seat c.put_reusing-answer.new.seat keeps how _ _ c.forget_if.ensures.gone (λ same. c.forget_if.ensures.kept same)
          (λ same. same_waits same c.waits-waits.ensures c.waits.ensures) (shorter_by _ _ c.retired.ensures c.retired-kept.ensures)
          (longer_by _ _ c.retired.ensures c.retired-kept.ensures) c.count_reused.ensures.used c.count_reused.ensures.none
          (λ same. c.count_reused.ensures.kept same) (c.self.invariant.2 kept),
    )

pub invariant_of-self-in-Ok-Err : goal.invariant_of-self-in-Ok-Err
invariant_of-self-in-Ok-Err g c =
    let keeps : KeepsSeatBy 4 (slot_for c.self.inside.keeper c.self.inside.seat.listed) c.self.inside.seat c.put_reusing-answer.new.seat = subst (λ (r : Reuse). KeepsSeatBy 4 r c.self.inside.seat c.put_reusing-answer.new.seat) (subst (λ (z : CallerAt). c.args.reuse ≡ slot_for z.keeper z.seat.listed) (sym c.self.view_is) c.requires.slot)
    (IfOk-at_ok (λ _. KeepsSeatBy 4 c.args.reuse c.self.inside.seat c.put_reusing-answer.new.seat) c.in-Ok-Err.is c.put_reusing-answer.ensures.keeps) in
    let how = keeps_or_serves c.self.inside.keeper c.self.inside.seat.listed c.self.inside.seat c.put_reusing-answer.new.seat refl keeps.slots in (
      search rules,
      search rules,
      λ kept. cookies_put c.self.inside.seat c.put_reusing-answer.new.seat keeps how _ _ c.forget_if.ensures.gone (λ same. c.forget_if.ensures.kept same)
          (λ same. same_waits same c.waits-waits.ensures c.waits.ensures) (shorter_by _ _ c.retired.ensures c.retired-kept.ensures)
          (longer_by _ _ c.retired.ensures c.retired-kept.ensures) c.count_reused.ensures.used c.count_reused.ensures.none
          (λ same. c.count_reused.ensures.kept same) (c.self.invariant.2 kept),
    )

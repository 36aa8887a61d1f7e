use Rattle.std.proofs.Common.{◌∙◌, ap, rules}
use Rattle.std_alloc.specs.Arc.{arc_value}
use Rattle.seat_table.specs.Seats.{shape_of}
use Rattle.citrus_tree.specs.Deletes.{DelGaveWay, Removes}
use Rattle.citrus_tree.specs.Going.{KeepsSeat}
use Rattle.tree_handles.specs.Callers.{CallerAt}
use Rattle.tree_handles.proofs.Callers.{removed_so}
use Rattle.tree_handles.proofs.Cookies.{cookies_unless, keeper_told, keeps_keeper, same_waits}
use Rattle.tree_handles.proofs.Keepers.{user_earlier}
use Rattle.tree_handles.proofs.caller.Caller.bypass.Goals as goal

pub serves_next-again-requires : goal.serves_next-again-requires
serves_next-again-requires g c = record {
  begun = λ d is. user_earlier (shape_of g.W.WaitWords.WAY (arc_value c.self.inside.shared)) c.self.inside.cookie c.self.inside.seat.view d
      (c.self.invariant.2 (ap (λ (z : CallerAt). z.lost) c.self.view_is ∙ c.requires.may.kept)).of_user is;
}

pub returns-in-Ok-Ok-Some-clause-taken : goal.returns-in-Ok-Ok-Some-clause-taken
returns-in-Ok-Ok-Some-clause-taken g c =
    let all : Removes (shape_of g.W.WaitWords.WAY c.table-table.result.now) c.self.inside.seat c.args.key c.args.expected
    c.in-Ok-Ok-Some.removed c.remove_by_bypass-answer.new.seat = search rules in
    let keeps : KeepsSeat 4 c.self.inside.seat c.remove_by_bypass-answer.new.seat = search rules in
    removed_so c.args.key c.args.expected c.in-Ok-Ok-Some.removed (search rules)
    (keeps_keeper c.self.view_is (λ _. keeper_told c.self.inside.seat c.remove_by_bypass-answer.new.seat 4 keeps c.forget_if.ensures.gone
    (λ same. c.forget_if.ensures.kept same) c.waits-waits.ensures c.waits.ensures))
    (search rules) (search rules) (search rules) (search rules) (search rules)

pub returns-in-Ok-Ok-None-clause-two : goal.returns-in-Ok-Ok-None-clause-two
returns-in-Ok-Ok-None-clause-two g c =
    let left : DelGaveWay (shape_of g.W.WaitWords.WAY c.table-table.result.now) c.self.inside.seat c.args.key
    c.remove_by_bypass-answer.new.seat = search rules in (
      record {
        index = search rules;
        keeper = keeps_keeper c.self.view_is (λ _. keeper_told c.self.inside.seat c.remove_by_bypass-answer.new.seat 4 left.keeps c.forget_if.ensures.gone
            (λ same. c.forget_if.ensures.kept same) c.waits-waits.ensures c.waits.ensures);
        before = search rules;
        enough = search rules;
        gave = search rules;
        begins = search rules;
        keeps = search rules;
        may = search rules;
      },
      search rules,
    )

pub returns-in-Ok-Err-clause-cause : goal.returns-in-Ok-Err-clause-cause
returns-in-Ok-Err-clause-cause g c =
    let left : DelGaveWay (shape_of g.W.WaitWords.WAY c.table-table.result.now) c.self.inside.seat c.args.key
    c.remove_by_bypass-answer.new.seat = search rules in record {
      index = search rules;
      keeper = keeps_keeper c.self.view_is (λ _. keeper_told c.self.inside.seat c.remove_by_bypass-answer.new.seat 4 left.keeps c.forget_if.ensures.gone
          (λ same. c.forget_if.ensures.kept same) c.waits-waits.ensures c.waits.ensures);
      before = search rules;
      enough = search rules;
      gave = search rules;
      begins = search rules;
      keeps = search rules;
      may = search rules;
    }

-- the cookies are good still, without the keeper where a wait was begun
pub invariant_of-self : goal.invariant_of-self
invariant_of-self g c =
    let keeps : KeepsSeat 4 c.self.inside.seat c.remove_by_bypass-answer.new.seat = search rules in (
      search rules,
      search rules,
      λ kept. cookies_unless keeps _ c.forget_if.ensures.gone (λ same. c.forget_if.ensures.kept same)
          (λ same. keeps.slots.slots (same_waits same c.waits-waits.ensures c.waits.ensures)) (c.self.invariant.2 kept),
    )

pub invariant_of-self-in-Ok-Ok-None : goal.invariant_of-self-in-Ok-Ok-None
invariant_of-self-in-Ok-Ok-None g c =
    let left : DelGaveWay (shape_of g.W.WaitWords.WAY c.table-table.result.now) c.self.inside.seat c.args.key
    c.remove_by_bypass-answer.new.seat = search rules in (
      search rules,
      search rules,
      λ kept. cookies_unless left.keeps _ c.forget_if.ensures.gone (λ same. c.forget_if.ensures.kept same)
          (λ same. left.keeps.slots.slots (same_waits same c.waits-waits.ensures c.waits.ensures)) (c.self.invariant.2 kept),
    )

pub invariant_of-self-in-Ok-Err : goal.invariant_of-self-in-Ok-Err
invariant_of-self-in-Ok-Err g c =
    let left : DelGaveWay (shape_of g.W.WaitWords.WAY c.table-table.result.now) c.self.inside.seat c.args.key
    c.remove_by_bypass-answer.new.seat = search rules in (
      search rules,
      search rules,
      λ kept. cookies_unless left.keeps _ c.forget_if.ensures.gone (λ same. c.forget_if.ensures.kept same)
          (λ same. left.keeps.slots.slots (same_waits same c.waits-waits.ensures c.waits.ensures)) (c.self.invariant.2 kept),
    )

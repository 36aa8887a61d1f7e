use Rattle.std.proofs.Common.{length, ap, arith}
use Rattle.account_text.proofs.JudgedScripts.{own-bounds}
use Rattle.account_text.proofs.judging.is_told.Goals as goal

pub overflow_sub-told : goal.overflow_sub-told
overflow_sub-told c =
    omega (
      arith,
      own-bounds c.args.turns.now.history c.args.caller c.args.told.number c.args.turn c.args.op
          (c.is_update.ensures.0 c.if-is_update.true),
    )

pub confirms-requires : goal.confirms-requires
confirms-requires c =
    let bounds = own-bounds c.args.turns.now.history c.args.caller c.args.told.number c.args.turn c.args.op
    (c.is_update.ensures.0 c.if-is_update.true) in
    omega (arith, bounds, ap length c.requires)

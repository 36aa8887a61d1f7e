use Rattle.std.proofs.Common.{◌≡◌, suc, ◌+◌, ◌-◌, length, vec_len, take, ap, arith, rules, length-append, length-take-le}
use Rattle.std.proofs.lemmas.Result.{err_from_is_err_and}
use Rattle.io_edge.proofs.Told.{Takes-append, TakesToLimit-append}
use Rattle.io_edge.proofs.whole.read_all.Goals as goal

pub returns-in_err-taken-clause-too_long : goal.returns-in_err-taken-clause-too_long
returns-in_err-taken-clause-too_long g c =
    let p = err_from_is_err_and c.from_residual.result c.from_residual.ensures.1 in
    let room : length c.loop-text.text.items + (c.args.limit - vec_len c.loop-text.text) ≡ c.args.limit = omega arith in
    rw (p.1, p.2) (TakesToLimit-append _ _ _ _ _ _ _ _ c.loop-text.invariant.2 room (λ q. cc) (λ q. cc) c.in_err-taken.ensures.too_long)

pub loop-text-preserved : goal.loop-text-preserved
loop-text-preserved g c =
    let inv = c.loop-text.invariant in
    let took = c.in_ok-taken.ensures in
    let led = took.led in (
      search rules,
      omega (arith, took.short),
      rw took.added (Takes-append _ _ _ _ _ inv.2 took.taken),
      omega (arith, took.no_fault (λ q. absurd (cc (q)))),
      (suc inv.4.0, (c.loop-text.source, led.0, c.in_ok-taken.taken, inv.4.1, omega arith, led.2)),
    )

pub loop-text-smaller : goal.loop-text-smaller
loop-text-smaller g c =
    let took = c.in_ok-taken.ensures in
    let piece = take c.in_ok-taken.taken c.take_piece.new.buffer in
    omega (
      arith,
      took.short,
      ap length took.added,
      length-append c.loop-text.text.items piece,
      length-take-le c.in_ok-taken.taken c.take_piece.new.buffer took.within,
    )

use Rattle.std.proofs.Common.{[], length, ap, arith}
use Rattle.std.proofs.lemmas.List.Sums.{sum_by_more}
use Rattle.std.proofs.lemmas.Option.{get_or_from_slice_get, slice_get_within}
use Rattle.citrus_tool.proofs.details.line_of_place.Goals as goal

pub loop-i-preserved : goal.loop-i-preserved
loop-i-preserved c =
    let scripts = c.args.scripts.now in
    let script = c.script.result.now in
    let inv = c.loop-i.invariant in
    let more = sum_by_more length scripts c.loop-i.i [] (slice_get_within scripts c.loop-i.i script c.script.ensures.script) in
    let here = ap length (get_or_from_slice_get scripts c.loop-i.i script [] c.script.ensures.script) in
    record { is = omega (arith, inv.is, more, here); few = omega (arith, inv.few, c.script.ensures.limit) }

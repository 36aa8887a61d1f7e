use Rattle.std.proofs.Common.{◌≡◌, ◌+◌, ◌↔◌, true, length, get_or, drop, ap, sym, ◌∙◌}
use Rattle.std.specs.FinMap as map
use Rattle.std.proofs.lemmas.List.{length_push}
use Rattle.prcu_model.specs.declared.operation.Op.TheVariants.{Put}
use Rattle.prcu_model.specs.declared.operation.Update.{Update}
use Rattle.prcu_model.specs.Dictionary.{updated, map_at, IsUpdateAt, IsLegal, AreUpdatesFrom}
use Rattle.prcu_model.proofs.Dictionaries.{map_at-next}
use Rattle.account_text.proofs.Replays.{AreUpdatesFrom-next, AreUpdatesFrom-none, legal-more, sizes-more, right-more, whole-more}
use Rattle.account_text.proofs.timeline.replay.Goals as goal

abbrev no_update : Update
no_update = record { caller = 0; op = Put 0 0 }

pub loop-i-preserved : goal.loop-i-preserved
loop-i-preserved c =
    let history = c.args.history.now in
    let i = c.loop-i.i in
    let inv = c.loop-i.invariant in
    let before = c.loop-i.map in
    let op = (get_or history i no_update).op in
    let made : c.update.new.self ≡ updated before op = c.in_ok-update.ensures.ok in
    let here : c.update.new.self ≡ map_at history (i + 1) =
    made ∙ ap (λ m. updated m op) inv.here ∙ sym (map_at-next history i no_update c.loop-i-test.true) in
    let was : (c.was_update-legal.result ≡ true) ↔ IsUpdateAt before op =
    c.was_update-legal.ensures before c.len-before.ensures (c.len-after.ensures ∙ ap map.len made)
    (c.get-value.ensures ∙ (λ j. map.get (made j) (c.key_of-key.ensures j))) in
    let legal = legal-more c.loop-i.legal c.was_update-legal.result (AreUpdatesFrom before (drop i history))
    (AreUpdatesFrom (updated before op) (drop (i + 1) history)) (IsUpdateAt before op) (IsLegal history) inv.still inv.broken was
    (λ is. AreUpdatesFrom-next before history i no_update c.loop-i-test.true (IsLegal history) is)
    (λ not_one. AreUpdatesFrom-none before history i no_update c.loop-i-test.true (IsLegal history) not_one) in
    record {
      here = here;
      fronts = ap length c.in_ok-push-2.ensures.items ∙ length_push c.loop-i.sizes.items c.len-after.result ∙ ap (λ n. n + 1) inv.fronts;
      size = rw c.in_ok-push-2.ensures.items
          (sizes-more history i c.loop-i-test.true c.loop-i.sizes.items c.len-after.result inv.fronts inv.size
          (c.len-after.ensures ∙ ap map.len here));
      right = rw c.in_ok-push-3.ensures.items
          (right-more history i c.loop-i-test.true c.loop-i.changes.items c.key_of-key.result c.get-value.result no_update inv.right
          c.key_of-key.ensures (c.get-value.ensures ∙ ap (λ m. map.get m c.key_of-key.result) here));
      whole = rw c.in_ok-push-3.ensures.items
          (whole-more history i c.loop-i-test.true c.loop-i.changes.items c.key_of-key.result c.get-value.result inv.whole);
      still = rw made legal.0;
      broken = legal.1;
    }

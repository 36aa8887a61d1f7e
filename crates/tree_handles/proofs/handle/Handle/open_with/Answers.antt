use Rattle.std.proofs.Common.{arith, ◌≡◌, ◌≤◌}
use Rattle.tree_handles.specs.Opening.{most_pairs, options_size}
use Rattle.tree_handles.proofs.Keeps.{opens_so}
use Rattle.tree_handles.proofs.handle.Handle.open_with.Goals.{else-options-eq-OPTIONS_SIZE-via-then-options-eq-OPTIONS_SIZE+else-options-gt-MOST_PAIRS, else-options-eq-OPTIONS_SIZE-via-else-options-eq-OPTIONS_SIZE}
use Rattle.tree_handles.proofs.handle.Handle.open_with.Goals as goal

-- by the test before it a record of the known size has no more pairs than fit
pub returns : goal.returns
returns c =
    let few : c.args.options.now.size ≡ options_size → c.args.options.now.pairs ≤ most_pairs =
    elim c.else-options-eq-OPTIONS_SIZE.branch [
      | else-options-eq-OPTIONS_SIZE-via-then-options-eq-OPTIONS_SIZE+else-options-gt-MOST_PAIRS w ↦
          λ known. omega (arith, w.if-options-gt-MOST_PAIRS.false)
      | else-options-eq-OPTIONS_SIZE-via-else-options-eq-OPTIONS_SIZE w ↦
          λ known. absurd (omega (arith, known, w.if-options-eq-OPTIONS_SIZE.false))
    ] in record {
      opened = opens_so c.args.options.now c.args.self.now.held c.open_keeping.new.self.held few c.open_keeping.result
          c.open_keeping.ensures.opened;
    }

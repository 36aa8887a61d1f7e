use Rattle.std.proofs.Common.{rules, ◌≡◌, suc, ◌+◌, ◌++◌, map, take, drop, slice_set, None, subst, ap, ◌∙◌, arith}
use lib.ListN.{get_or}
use Rattle.tree_handles.specs.Lanes.{answer_of}
use Rattle.tree_handles.proofs.LaneLists.{answer_next}
use Rattle.tree_handles.proofs.answers.write_answers.Goals as goal

pub loop-i-preserved : goal.loop-i-preserved
loop-i-preserved c =
    let i = c.loop-i.i in
    let found = c.args.found.now in
    let answers = c.args.answers.now in
    let one : suc i ≡ i + 1 = omega arith in record {
      few = search rules;
      written = ap (λ ps. slice_set ps i c.answer_for.result) c.loop-i.invariant.written
          ∙ (ap (λ a. slice_set (map answer_of (take i found) ++ drop i answers) i a) c.answer_for.ensures
          ∙ subst (λ n. slice_set (map answer_of (take i found) ++ drop i answers) i (answer_of (get_or found i None))
          ≡ map answer_of (take n found) ++ drop n answers) one (answer_next found answers i c.loop-i-test.true c.requires.room));
    }

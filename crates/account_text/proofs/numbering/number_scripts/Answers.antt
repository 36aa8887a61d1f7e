use Rattle.std.proofs.Common.{◌≡◌, ◌+◌, ◌∷◌, [], length, sym, ap, subst, ◌∙◌, arith, append_assoc}
use Rattle.std.specs.List.{AllByRecursion}
use Rattle.std.proofs.lemmas.List.{append-nil, map-append}
use Rattle.prcu_model.specs.Scripts.{entries_of}
use Rattle.prcu_model.specs.Fronts.{CanBeNumbered, AreNumbered, AllAreNumbered, told_lines, all_told_lines}
use Rattle.account_text.proofs.JudgedScripts.{lines_left, lines_left-turn, lines_left-end, length-le-op_count, room_of}
use Rattle.account_text.proofs.numbering.number_scripts.Goals as goal
use Rattle.account_text.proofs.numbering.number_scripts.Goals.{After-entries}
use Rattle.prcu_model.proofs.ListFacts.{same_length, SameLengths-next, same_count}

next_script : (c : After-entries) → lines_left c.args.scripts.now c.args.told.now c.loop-i.i
    ≡ told_lines c.script-script.result.now c.entries.result.now ∷ lines_left c.args.scripts.now c.args.told.now (c.loop-i.i + 1)
next_script c =
    lines_left-turn c.args.scripts.now c.args.told.now c.loop-i.i c.script-script.result.now c.index-told-i.result
    c.script-script.ensures.script c.loop-i-test.true c.index-told-i.is
    ∙ ap (λ told. told_lines c.script-script.result.now told ∷ lines_left c.args.scripts.now c.args.told.now (c.loop-i.i + 1))
    (sym c.entries.ensures)

pub number_script-requires-clause-same_length : goal.number_script-requires-clause-same_length
number_script-requires-clause-same_length c =
    ap length c.entries.ensures
    ∙ same_length c.args.scripts.now c.args.told.now c.loop-i.i c.script-script.result.now c.index-told-i.result
    c.script-script.ensures.script c.loop-i-test.true c.index-told-i.is c.loop-i.invariant.lengths

pub number_script-requires-clause-fits : goal.number_script-requires-clause-fits
number_script-requires-clause-fits c =
    omega (arith, length-le-op_count c.args.scripts.now c.loop-i.i c.script-script.result.now c.script-script.ensures.script)

pub number_script-requires-clause-can : goal.number_script-requires-clause-can
number_script-requires-clause-can c =
    let course = c.args.timeline.now in
    let here = next_script (goal.at.number_script-requires-clause-can c).After-entries in
    let can = subst (AllByRecursion (CanBeNumbered course.room course.history)) here c.loop-i.invariant.can in
    can.0

pub loop-i-init : goal.loop-i-init
loop-i-init c =
    let course = c.args.timeline.now in
    let able = c.requires.explained in
    record {
      lengths = able.lengths;
      can = subst (λ room. AllByRecursion (CanBeNumbered room course.history)
          (all_told_lines c.args.scripts.now (entries_of c.args.told.now)))
          (room_of course.room (length c.args.scripts.now) c.requires.scripts) able.explained.fronts;
      numbered = λ rest h. rw c.in_ok-lists.ensures.items h;
    }

pub loop-i-preserved : goal.loop-i-preserved
loop-i-preserved c =
    let course = c.args.timeline.now in
    let inv = c.loop-i.invariant in
    let left = lines_left c.args.scripts.now c.args.told.now in
    let here = next_script (goal.at.loop-i-preserved c).After-entries in
    let told = told_lines c.script-script.result.now c.entries.result.now in
    let list = c.in_ok-number_script.field-0.entries in
    let numbered : AreNumbered course.room course.history 0 told list = c.in_ok-number_script.ensures in
    record {
      lengths = SameLengths-next c.args.scripts.now c.args.told.now c.loop-i.i c.script-script.result.now c.index-told-i.result
          c.script-script.ensures.script c.loop-i-test.true c.index-told-i.is inv.lengths;
      can = (subst (AllByRecursion (CanBeNumbered course.room course.history)) here inv.can).1;
      numbered = λ rest later.
          let from_here : AllAreNumbered course.room course.history (left c.loop-i.i) (list ∷ rest) = rw here (numbered, later) in
          rw (c.in_ok-push.ensures.items, map-append, append_assoc) (inv.numbered (list ∷ rest) from_here);
    }

pub returns : goal.returns
returns c =
    let course = c.args.timeline.now in
    let none = lines_left-end c.args.scripts.now c.args.told.now c.loop-i.i
    (omega (arith, same_count c.args.scripts.now c.args.told.now c.requires.explained.lengths)) in
    let all = c.loop-i.invariant.numbered [] (subst (λ left. AllAreNumbered course.room course.history left []) (sym none) tt) in
    rw append-nil at all

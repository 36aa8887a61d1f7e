use Rattle.std.proofs.Common.{◌≡◌, ◌+◌, ◌∷◌, [], length, ap, sym, subst, ◌∙◌, arith, append_assoc}
use Rattle.std.proofs.lemmas.Bool.{false≢true}
use Rattle.std.proofs.lemmas.List.{append-nil, map-append}
use Rattle.prcu_model.specs.Scripts.{entries_of}
use Rattle.prcu_model.specs.Fronts.{AreNumbered, AllAreNumbered, told_lines}
use Rattle.account_text.specs.Judging.{IsScriptExplained}
use Rattle.account_text.proofs.JudgedScripts.{lines_left, lines_left-turn, lines_left-end, AreBelow, AreExplainable-by_room, below_from_explainable}
use Rattle.account_text.proofs.judging.explain.Goals as goal
use Rattle.account_text.proofs.judging.explain.Goals.{After-entries-answers, then-not-are_all_answered-via-then-not-are_all_answered, then-not-are_all_answered-via-else-not-are_all_answered+then-not-are_callers_below}
use Rattle.prcu_model.proofs.ListFacts.{same_count, same_length, SameLengths-next}

next_script : (c : After-entries-answers) → lines_left c.args.scripts.now c.args.told.now c.loop-i.i
    ≡ told_lines c.script-script.result.now c.entries-answers.result.now ∷ lines_left c.args.scripts.now c.args.told.now (c.loop-i.i + 1)
next_script c =
    lines_left-turn c.args.scripts.now c.args.told.now c.loop-i.i c.script-script.result.now c.index-told-i.result
    c.script-script.ensures.script c.loop-i-test.true c.index-told-i.is
    ∙ ap (λ list. told_lines c.script-script.result.now list ∷ lines_left c.args.scripts.now c.args.told.now (c.loop-i.i + 1))
    (sym c.entries-answers.ensures)

pub returns-then-not-are_all_answered-clause-none : goal.returns-then-not-are_all_answered-clause-none
returns-then-not-are_all_answered-clause-none c = λ able.
    elim c.then-not-are_all_answered.branch [
      | then-not-are_all_answered-via-then-not-are_all_answered w ↦ absurd
          (false≢true (sym w.if-not-are_all_answered.true ∙ c.are_all_answered.ensures.1 able.lengths))
      | then-not-are_all_answered-via-else-not-are_all_answered+then-not-are_callers_below w ↦
          let below = below_from_explainable c.args.scripts.now
          (entries_of c.args.told.now) c.args.timeline.now.history c.args.timeline.now.room.slots able in
          absurd (false≢true (sym w.if-not-are_callers_below.true
          ∙ w.are_callers_below.ensures.1 (rw (c.history-history.ensures, w.count.ensures.count) below)))
    ]

pub explain_script-requires-clause-same_length : goal.explain_script-requires-clause-same_length
explain_script-requires-clause-same_length c =
    ap length c.entries-answers.ensures
    ∙ same_length c.args.scripts.now c.args.told.now c.loop-i.i c.script-script.result.now c.index-told-i.result
    c.script-script.ensures.script c.loop-i-test.true c.index-told-i.is c.loop-i.invariant.lengths

pub returns-in_default-clause-none : goal.returns-in_default-clause-none
returns-in_default-clause-none c = λ able.
    let course = c.args.timeline.now in
    let scripts = c.args.scripts.now in
    let same = rw (next_script (goal.at.returns-in_default-clause-none c).After-entries-answers) at c.loop-i.invariant.same in
    let lengths = c.are_all_answered.ensures.0 c.if-not-are_all_answered.false in
    let below : AreBelow (length scripts) course.history =
    rw (c.history-history.ensures, c.count.ensures.count) at (c.are_callers_below.ensures.0 c.if-not-are_callers_below.false) in
    let whole = AreExplainable-by_room scripts (entries_of c.args.told.now) course.history course.room c.requires lengths below in
    let none = rw c.in_default.is at c.in_ok-lines.ensures.none in
    none (same.1 (whole.1 able)).0

pub loop-i-preserved : goal.loop-i-preserved
loop-i-preserved c =
    let course = c.args.timeline.now in
    let inv = c.loop-i.invariant in
    let left = lines_left c.args.scripts.now c.args.told.now in
    let here = next_script (goal.at.loop-i-preserved c).After-entries-answers in
    let told = told_lines c.script-script.result.now c.entries-answers.result.now in
    let list = c.in-Some.lines.entries in
    let this : IsScriptExplained course.room course.history c.loop-i.i told = rw c.in-Some.is at c.in_ok-lines.ensures.explained in
    let numbered : AreNumbered course.room course.history 0 told list = rw c.in-Some.is at c.in_ok-lines.ensures.numbered in
    let same = rw here at inv.same in
    record {
      lengths = SameLengths-next c.args.scripts.now c.args.told.now c.loop-i.i c.script-script.result.now c.index-told-i.result
          c.script-script.ensures.script c.loop-i-test.true c.index-told-i.is inv.lengths;
      same = (λ rest. same.0 (this, rest), λ all. (same.1 all).1);
      numbered = λ rest later.
          let from_here : AllAreNumbered course.room course.history (left c.loop-i.i) (list ∷ rest) = rw here (numbered, later) in
          rw (c.in_ok-push.ensures.items, map-append, append_assoc) (inv.numbered (list ∷ rest) from_here);
    }

pub returns-clause-explained : goal.returns-clause-explained
returns-clause-explained c =
    let course = c.args.timeline.now in
    let scripts = c.args.scripts.now in
    let lengths = c.are_all_answered.ensures.0 c.if-not-are_all_answered.false in
    let below : AreBelow (length scripts) course.history =
    rw (c.history-history.ensures, c.count.ensures.count) at (c.are_callers_below.ensures.0 c.if-not-are_callers_below.false) in
    let whole = AreExplainable-by_room scripts (entries_of c.args.told.now) course.history course.room c.requires lengths below in
    let none = lines_left-end scripts c.args.told.now c.loop-i.i (omega (arith, same_count scripts c.args.told.now lengths)) in
    let same = rw none at c.loop-i.invariant.same in
    whole.0 (same.0 tt)

pub returns-clause-numbered : goal.returns-clause-numbered
returns-clause-numbered c =
    let course = c.args.timeline.now in
    let lengths = c.are_all_answered.ensures.0 c.if-not-are_all_answered.false in
    let none = lines_left-end c.args.scripts.now c.args.told.now c.loop-i.i
    (omega (arith, same_count c.args.scripts.now c.args.told.now lengths)) in
    let all = c.loop-i.invariant.numbered [] (subst (λ left. AllAreNumbered course.room course.history left []) (sym none) tt) in
    rw append-nil at all

use Rattle.std.proofs.Common.{◌≡◌, ℕ, ◌+◌, ◌∷◌, ◌++◌, [], Some, List, drop, refl, subst, ap, ◌∙◌, arith}
use Rattle.std.specs.List.{slice_get}
use Rattle.std.proofs.lemmas.List.{drop_more, drop_all, map-append}
use Rattle.std.proofs.lemmas.Option.{get_or_from_slice_get, slice_get_within}
use Rattle.prcu_model.specs.declared.operation.Op.{Op}
use Rattle.prcu_model.specs.Scripts.{entries_of}
use Rattle.account_text.proofs.AccountTexts.{HasReadScripts, first_script, HasReadScripts-end}
use Rattle.account_text.proofs.reading.read_scripts.Goals as goal

drop-there : (scripts : List (List Op)) (i : ℕ) (script : List Op) → slice_get scripts i ≡ Some script
    → drop i scripts ≡ script ∷ drop (i + 1) scripts
drop-there scripts i script there =
    drop_more scripts i script (slice_get_within scripts i script there)
    ∙ ap (λ x. x ∷ drop (i + 1) scripts) (get_or_from_slice_get scripts i script script there)

pub returns-in_default : goal.returns-in_default
returns-in_default c lines more tells =
    let scripts = c.args.scripts.now in
    let i = c.loop-i.i in
    let entries = entries_of c.loop-i.told.items in
    let here = drop_more scripts i [] (omega (arith, c.loop-i-test.true, c.count-i-end.ensures.count)) in
    let h = subst (λ (x : List (List Op)). HasReadScripts i c.loop-i.rest.now x entries lines more) here
    (c.loop-i.invariant lines more tells) in
    let first = first_script i c.loop-i.rest.now _ (drop (i + 1) scripts) entries lines more h in
    c.in_default.ensures _ first.body_lines first.begins

pub returns-in_default-2 : goal.returns-in_default-2
returns-in_default-2 c lines more tells =
    let scripts = c.args.scripts.now in
    let i = c.loop-i.i in
    let entries = entries_of c.loop-i.told.items in
    let here = drop-there scripts i c.script.result.now c.script.ensures.script in
    let h = subst (λ (x : List (List Op)). HasReadScripts i c.loop-i.rest.now x entries lines more) here
    (c.loop-i.invariant lines more tells) in
    let first = first_script i c.loop-i.rest.now _ (drop (i + 1) scripts) entries lines more h in
    let body = c.in-Some.ensures _ first.body_lines first.begins in
    rw c.in_default-2.is at (c.in_ok-list.ensures first.part first.others (first.tells c.in-Some.lines.now body))

pub loop-i-preserved : goal.loop-i-preserved
loop-i-preserved c lines more tells =
    let scripts = c.args.scripts.now in
    let i = c.loop-i.i in
    let entries = entries_of c.loop-i.told.items in
    let here = drop-there scripts i c.script.result.now c.script.ensures.script in
    let h = subst (λ (x : List (List Op)). HasReadScripts i c.loop-i.rest.now x entries lines more) here
    (c.loop-i.invariant lines more tells) in
    let first = first_script i c.loop-i.rest.now _ (drop (i + 1) scripts) entries lines more h in
    let body = c.in-Some.ensures _ first.body_lines first.begins in
    let read = rw c.in-Some-2.is at (c.in_ok-list.ensures first.part first.others (first.tells c.in-Some.lines.now body)) in
    let grown : entries_of c.push.new.self.items ≡ entries ++ c.in-Some-2.list.entries ∷ [] =
    rw (c.in_ok-push.ensures.items, map-append) refl in
    first.next c.in-Some-2.after.now c.in-Some-2.list.entries (entries_of c.push.new.self.items) read.0 read.1 grown

pub returns : goal.returns
returns c lines more tells =
    let scripts = c.args.scripts.now in
    let i = c.loop-i.i in
    let entries = entries_of c.loop-i.told.items in
    let none = drop_all i scripts (omega (arith, c.loop-i-test.false, c.count-i-end.ensures.count)) in
    let h = subst (λ (x : List (List Op)). HasReadScripts i c.loop-i.rest.now x entries lines more) none
    (c.loop-i.invariant lines more tells) in
    HasReadScripts-end i c.loop-i.rest.now entries lines more h

use Rattle.std.proofs.Common.{◌≡◌, [], map, length, string_bytes, ap, arith}
use Rattle.std.proofs.lemmas.Bool.Decides.{nat_tests}
use Rattle.std.proofs.lemmas.List.{take_rest, drop-map, length-map, nil_from_length}
use Rattle.command_words.proofs.Inputs.{none_found, not_spelled, not_followed, read_others, AreSpelled-more}
use Rattle.command_words.proofs.arguments.+read_arguments.Goals as goal

pub returns-then-is_empty-clause-only : goal.returns-then-is_empty-clause-only
returns-then-is_empty-clause-only t c =
    let none : length c.args.words.now ≡ 0 = grind (arith, nat_tests) in
    none_found (map string_bytes c.args.words.now) c.args.so_far (ap (map string_bytes) (nil_from_length c.args.words.now none))

pub returns-in_err-next-clause-only : goal.returns-in_err-next-clause-only
returns-in_err-next-clause-only t c = λ arguments found spelled joined.
    let some : map string_bytes c.args.words.now ≡ [] → ⊥ = λ none. let l = ap length none in
    let m = length-map c.args.words.now string_bytes in grind (arith, nat_tests) in
    not_spelled (map string_bytes c.args.words.now) _ some c.in_err-next.ensures.only arguments spelled

pub returns-in_err-with-clause-only : goal.returns-in_err-with-clause-only
returns-in_err-with-clause-only t c = λ arguments found spelled joined.
    let some : map string_bytes c.args.words.now ≡ [] → ⊥ = λ none. let l = ap length none in
    let m = length-map c.args.words.now string_bytes in grind (arith, nat_tests) in
    not_followed (map string_bytes c.args.words.now) some c.in_ok-next.next.argument c.in_ok-next.next.taken c.in_ok-next.ensures.some
    (omega (arith, c.in_ok-next.ensures.within.1, length-map c.args.words.now string_bytes))
    c.args.so_far _ c.in_err-with.ensures.none arguments found spelled joined

pub returns-clause-some : goal.returns-clause-some
returns-clause-some t c =
    let some : map string_bytes c.args.words.now ≡ [] → ⊥ = λ none. let l = ap length none in
    let m = length-map c.args.words.now string_bytes in grind (arith, nat_tests) in
    let rest = rw take_rest at c.read_arguments.ensures.some in
    AreSpelled-more (map string_bytes c.args.words.now) some c.in_ok-next.next.argument c.in_ok-next.next.taken c.in_ok-next.ensures.some
    (omega (arith, c.in_ok-next.ensures.within.1, length-map c.args.words.now string_bytes))
    c.args.so_far c.in_ok-with.field-0 c.in_ok-with.ensures.some c.read_arguments.result (rw drop-map rest)

pub returns-clause-only : goal.returns-clause-only
returns-clause-only t c =
    let some : map string_bytes c.args.words.now ≡ [] → ⊥ = λ none. let l = ap length none in
    let m = length-map c.args.words.now string_bytes in grind (arith, nat_tests) in
    let rest = rw take_rest at c.read_arguments.ensures.only in
    read_others (map string_bytes c.args.words.now) some c.in_ok-next.next.argument c.in_ok-next.next.taken c.in_ok-next.ensures.some
    (omega (arith, c.in_ok-next.ensures.within.1, length-map c.args.words.now string_bytes))
    c.args.so_far c.in_ok-with.field-0 c.in_ok-with.ensures.some c.read_arguments.result (rw drop-map rest)

use Rattle.command_words.proofs.Reports.{front_of_first, front_of_second, OnErr-of, OnErr-by, OnOk-by}
use Rattle.io_edge.proofs.Told.{Appends-append}
use Rattle.command_words.proofs.statuses.write_detail.Goals as goal

pub returns-in_err-write_all-in-Unexplained-clause-front : goal.returns-in_err-write_all-in-Unexplained-clause-front
returns-in_err-write_all-in-Unexplained-clause-front g c =
    rw c.in-Unexplained.is (OnErr-of c.from_residual.result _
    (front_of_first _ _ _ _ c.in_err-write_all-in-Unexplained.ensures.front))

pub returns-in_err-write_number-in-Unexplained-clause-front : goal.returns-in_err-write_number-in-Unexplained-clause-front
returns-in_err-write_number-in-Unexplained-clause-front g c =
    rw c.in-Unexplained.is (OnErr-of c.from_residual-in_err-write_number-in-Unexplained.result _
    (front_of_second _ _ _ _ _ c.in_ok-write_all-in-Unexplained.ensures.whole
    (front_of_first _ _ _ _ c.in_err-write_number-in-Unexplained.ensures.front)))

pub returns-in_ok-write_number-in-Unexplained-clause-whole : goal.returns-in_ok-write_number-in-Unexplained-clause-whole
returns-in_ok-write_number-in-Unexplained-clause-whole g c =
    rw c.in-Unexplained.is (OnOk-by c.write_all-in-Unexplained-2.result _ _
    (λ last. Appends-append _ _ _ _ _ c.in_ok-write_all-in-Unexplained.ensures.whole
    (Appends-append _ _ _ _ _ c.in_ok-write_number-in-Unexplained.ensures.whole last)) c.write_all-in-Unexplained-2.ensures.whole)

pub returns-in_ok-write_number-in-Unexplained-clause-front : goal.returns-in_ok-write_number-in-Unexplained-clause-front
returns-in_ok-write_number-in-Unexplained-clause-front g c =
    rw c.in-Unexplained.is (OnErr-by c.write_all-in-Unexplained-2.result _ _
    (λ last. front_of_second _ _ _ _ _ c.in_ok-write_all-in-Unexplained.ensures.whole
    (front_of_second _ _ _ _ _ c.in_ok-write_number-in-Unexplained.ensures.whole last)) c.write_all-in-Unexplained-2.ensures.front)

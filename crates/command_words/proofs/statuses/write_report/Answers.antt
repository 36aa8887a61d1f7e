use Rattle.command_words.proofs.Reports.{front_of_first, front_of_second, OnErr-of, OnErr-by}
use Rattle.command_words.proofs.statuses.write_report.Goals as goal

pub returns-in_err-write_detail-clause-front : goal.returns-in_err-write_detail-clause-front
returns-in_err-write_detail-clause-front g c =
    OnErr-of c.from_residual.result _ (front_of_first _ _ _ _ c.in_err-write_detail.ensures.front)

pub returns-clause-front : goal.returns-clause-front
returns-clause-front g c =
    OnErr-by c.write_all.result _ _
    (λ last. front_of_second _ _ _ _ _ c.in_ok-write_detail.ensures.whole last) (rw c.line.ensures at c.write_all.ensures.front)

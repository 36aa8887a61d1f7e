use Rattle.command_words.proofs.Reports.{front_told}
use Rattle.command_words.proofs.statuses.tell.Goals as goal

pub returns-clause-front : goal.returns-clause-front
returns-clause-front g c = front_told c.write_report.result _ _ _ c.write_report.ensures.whole c.write_report.ensures.front

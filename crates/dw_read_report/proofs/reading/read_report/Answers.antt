use Rattle.dw_read_report.proofs.TakenLines.{report_found}
use Rattle.dw_read_report.proofs.reading.read_report.Goals as goal

pub returns-clause-found : goal.returns-clause-found
returns-clause-found c = report_found c.args.bytes.now c.read_up_to_end.result c.read_up_to_end.ensures.exact

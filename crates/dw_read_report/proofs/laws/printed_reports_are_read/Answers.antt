use Rattle.dw_read_report.proofs.AgainLines.{journal_again, report_again}
use Rattle.dw_read_report.proofs.laws.printed_reports_are_read.Goals as goal

pub returns : goal.returns
returns c = record {
  reports = report_again;
  journals = journal_again;
}

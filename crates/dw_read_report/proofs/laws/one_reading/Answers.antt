use Rattle.dw_read_report.proofs.AgainLines.{one_journal}
use Rattle.dw_read_report.proofs.laws.one_reading.Goals as goal

pub returns : goal.returns
returns c = one_journal

use Rattle.dw_value.proofs.ReadDates.{date_read, read_date_only}
use Rattle.dw_value.proofs.laws.dates_are_read.Goals as goal

pub returns : goal.returns
returns c = record { read = date_read; only = read_date_only }

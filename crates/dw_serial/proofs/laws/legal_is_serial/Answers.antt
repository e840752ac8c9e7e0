use Rattle.dw_serial.proofs.Theorem.{legal_serial}
use Rattle.dw_serial.proofs.laws.legal_is_serial.Goals as goal

pub returns : goal.returns
returns c = legal_serial

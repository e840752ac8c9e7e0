use Rattle.dw_serial.proofs.Effects.{applies}
use Rattle.dw_serial.proofs.laws.commits_apply_changes.Goals as goal

pub returns : goal.returns
returns c = applies

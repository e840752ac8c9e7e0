use Rattle.dw_print.proofs.ReadBack.{shown_apart}
use Rattle.dw_print.proofs.laws.shown_fields_are_apart.Goals as goal

pub returns : goal.returns
returns c = shown_apart

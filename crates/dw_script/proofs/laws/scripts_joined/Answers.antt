use Rattle.dw_script.proofs.Joined.{statements-joined, left_open-joined, ends_outside-joined}
use Rattle.dw_script.proofs.laws.scripts_joined.Goals as goal

pub returns : goal.returns
returns c = record { statements = statements-joined; left_open = left_open-joined; ends_outside = ends_outside-joined }

use Rattle.dw_script.proofs.Quoted.{statements-quoted, ends_outside-quoted, statements-named, ends_outside-named}
use Rattle.dw_script.proofs.laws.texts_kept.Goals as goal

pub returns : goal.returns
returns c = record { statements = statements-quoted; closed = ends_outside-quoted; names = statements-named; names_closed = ends_outside-named }

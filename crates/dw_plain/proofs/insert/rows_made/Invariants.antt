-- The rows so far fit, and stand in front of what is left.
use Rattle.std.proofs.Common.{◌≡◌, drop}
use Rattle.dw_model.specs.Inserting.{names_given, rows_made}
use Rattle.dw_plain.proofs.InsertLemmas.{ahead}
use Rattle.dw_plain.proofs.insert.rows_made.Given as goal

abbrev pub invariant-loop-tuple : goal.invariant-loop-tuple
invariant-loop-tuple l =
    rows_made l.columns (names_given l.columns l.listed) l.tuples
    ≡ ahead l.rows (rows_made l.columns (names_given l.columns l.listed) (drop l.tuple-index l.tuples))

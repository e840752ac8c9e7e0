-- The values so far fit, and stand in front of what is left.
use Rattle.std.proofs.Common.{◌≡◌, drop}
use Rattle.dw_model.specs.Inserting.{names_given, values_made}
use Rattle.dw_plain.proofs.InsertLemmas.{ahead}
use Rattle.dw_plain.proofs.insert.values_made.Given as goal

abbrev pub invariant-loop-place : goal.invariant-loop-place
invariant-loop-place l =
    values_made (names_given l.columns l.listed) l.tuple l.columns
    ≡ ahead l.values (values_made (names_given l.columns l.listed) l.tuple (drop l.place l.columns))

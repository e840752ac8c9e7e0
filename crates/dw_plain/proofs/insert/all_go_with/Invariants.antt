-- Each tuple so far goes with the columns.
use Rattle.std.proofs.Common.{◌≡◌, drop}
use Rattle.std.specs.List.{list_all}
use Rattle.dw_model.specs.Inserting.{names_given, tuple_goes_with}
use Rattle.dw_plain.proofs.insert.all_go_with.Given as goal

abbrev pub invariant-loop-tuple : goal.invariant-loop-tuple
invariant-loop-tuple l =
    list_all (tuple_goes_with l.columns (names_given l.columns l.listed)) l.tuples
    ≡ list_all (tuple_goes_with l.columns (names_given l.columns l.listed)) (drop l.tuple-index l.tuples)

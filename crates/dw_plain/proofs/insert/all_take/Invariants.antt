-- Each column so far takes what the tuple has for it.
use Rattle.std.proofs.Common.{◌≡◌, drop}
use Rattle.std.specs.List.{list_all}
use Rattle.dw_model.specs.Inserting.{names_given}
use Rattle.dw_plain.specs.Places.{takes_given}
use Rattle.dw_plain.proofs.insert.all_take.Given as goal

abbrev pub invariant-loop-place : goal.invariant-loop-place
invariant-loop-place l =
    list_all (takes_given (names_given l.columns l.listed) l.tuple) l.columns
    ≡ list_all (takes_given (names_given l.columns l.listed) l.tuple) (drop l.place l.columns)

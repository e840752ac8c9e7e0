-- What is written so far, with what the values that are left give, is what all values give.
use Rattle.std.proofs.Common.{◌≡◌, ◌++◌, drop}
use Rattle.std.specs.Prelude.{flat_map}
use Rattle.dw_model.specs.Selection.{shown_all}
use Rattle.dw_print.specs.Fields.{shown_field, after_bar}
use Rattle.dw_print.specs.Rows.{kinds_in}
use Rattle.dw_print.proofs.rows.write_more_values.Given as goal

abbrev pub invariant-loop-place : goal.invariant-loop-place
invariant-loop-place l =
    l.out.items ++ flat_map (after_bar shown_field) (shown_all (kinds_in (drop l.place l.columns)) (drop l.place l.values))
    ≡ l.initial.out.items ++ flat_map (after_bar shown_field) (shown_all (kinds_in l.columns) l.values)

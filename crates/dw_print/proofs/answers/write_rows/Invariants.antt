-- The rows so far are written, and their fields are of their types.
use Rattle.std.proofs.Common.{◌≡◌, ◌++◌, take}
use Rattle.std.specs.Prelude.{flat_map}
use Rattle.std.specs.List.{AllByRecursion}
use Rattle.dw_print.specs.Rows.{fields_line}
use Rattle.dw_print.specs.Typed.{IsTypedField}
use Rattle.dw_print.proofs.answers.write_rows.Given as goal

abbrev pub invariant-loop-row : goal.invariant-loop-row
invariant-loop-row l = record {
  text : l.out.items ≡ l.initial.out.items ++ flat_map fields_line (take l.row-index l.rows);
  typed : AllByRecursion (AllByRecursion IsTypedField) (take l.row-index l.rows);
}

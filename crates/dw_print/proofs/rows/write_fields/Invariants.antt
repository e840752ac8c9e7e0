-- Of the fields after the first, those so far are written, and are of their types.
use Rattle.std.proofs.Common.{◌≡◌, ◌++◌, take}
use Rattle.std.specs.Prelude.{flat_map}
use Rattle.std.specs.List.{AllByRecursion}
use Rattle.dw_print.specs.Fields.{shown_field, after_bar}
use Rattle.dw_print.specs.Typed.{IsTypedField}
use Rattle.dw_print.proofs.rows.write_fields.Given as goal

abbrev pub invariant-loop-shown : goal.invariant-loop-shown
invariant-loop-shown l = record {
  text : l.out.items ≡ l.initial.out.items ++ flat_map (after_bar shown_field) (take l.shown-index l.rest);
  typed : AllByRecursion IsTypedField (take l.shown-index l.rest);
}

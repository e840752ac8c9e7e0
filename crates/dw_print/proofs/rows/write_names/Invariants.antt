-- Of the names after the first, those so far are written, and are in UTF-8.
use Rattle.std.proofs.Common.{◌≡◌, ◌++◌, take}
use Rattle.std.specs.Prelude.{flat_map}
use Rattle.std.specs.List.{AllByRecursion}
use Rattle.std.specs.Str.{IsUtf8}
use Rattle.dw_print.specs.Fields.{field, after_bar}
use Rattle.dw_print.proofs.rows.write_names.Given as goal

abbrev pub invariant-loop-name : goal.invariant-loop-name
invariant-loop-name l = record {
  text : l.out.items ≡ l.initial.out.items ++ flat_map (after_bar field) (take l.name-index l.rest);
  typed : AllByRecursion IsUtf8 (take l.name-index l.rest);
}

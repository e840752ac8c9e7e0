-- The table with the parts so far.
use Rattle.std.proofs.Common.{◌≡◌, ◌++◌}
use Rattle.std.specs.Prelude.{flat_map}
use Rattle.dw_parse.specs.Tables.{columns_in, dist_keys_in, sort_keys_in, names_in}
use Rattle.dw_parse.proofs.tables.add_parts.Given as goal

abbrev pub invariant-loop-part : goal.invariant-loop-part
invariant-loop-part l = record {
  name : l.spec.name ≡ l.initial.spec.name;
  columns : l.spec.columns ≡ l.initial.spec.columns ++ flat_map columns_in l.yielded;
  style : l.spec.style ≡ l.initial.spec.style;
  dist_keys : l.spec.dist_keys ≡ l.initial.spec.dist_keys ++ flat_map dist_keys_in l.yielded;
  sort_keys : l.spec.sort_keys ≡ l.initial.spec.sort_keys ++ flat_map sort_keys_in l.yielded;
  named : l.spec.named ≡ l.initial.spec.named ++ flat_map names_in l.yielded;
}

-- The table with the attributes so far.
use Rattle.std.proofs.Common.{◌≡◌, ◌++◌}
use Rattle.std.specs.Prelude.{flat_map}
use Rattle.dw_parse.specs.Tables.{later, last_of, style_said, dist_keys_of, sort_keys_of, names_of}
use Rattle.dw_parse.proofs.tables.add_attributes.Given as goal

abbrev pub invariant-loop-attribute : goal.invariant-loop-attribute
invariant-loop-attribute l = record {
  name : l.spec.name ≡ l.initial.spec.name;
  columns : l.spec.columns ≡ l.initial.spec.columns;
  style : l.spec.style ≡ later l.initial.spec.style (last_of style_said l.yielded);
  dist_keys : l.spec.dist_keys ≡ l.initial.spec.dist_keys ++ flat_map dist_keys_of l.yielded;
  sort_keys : l.spec.sort_keys ≡ l.initial.spec.sort_keys ++ flat_map sort_keys_of l.yielded;
  named : l.spec.named ≡ l.initial.spec.named ++ flat_map names_of l.yielded;
}

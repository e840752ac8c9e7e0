-- What the options so far say.
use Rattle.std.proofs.Common.{◌≡◌, false}
use Rattle.std.specs.Prelude.{unwrap_or}
use Rattle.dw_parse.specs.Tables.{last_of, not_null_said, default_said, encoding_said}
use Rattle.dw_parse.proofs.tables.column_made.Given as goal

abbrev pub invariant-loop-option : goal.invariant-loop-option
invariant-loop-option l = record {
  not_null : l.not_null ≡ unwrap_or (last_of not_null_said l.yielded) false;
  default : l.default ≡ last_of default_said l.yielded;
  encoding : l.encoding ≡ last_of encoding_said l.yielded;
}

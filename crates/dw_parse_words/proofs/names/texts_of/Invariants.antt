-- The names so far.
use Rattle.std.proofs.Common.{◌≡◌}
use Rattle.dw_parse_words.proofs.names.texts_of.Given as goal

abbrev pub invariant-loop-table : goal.invariant-loop-table
invariant-loop-table l = l.names ≡ l.yielded

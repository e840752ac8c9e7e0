-- What is written so far, with what the tables that are left give, is what all tables give.
use Rattle.std.proofs.Common.{◌≡◌, ◌++◌, drop}
use Rattle.std.specs.Prelude.{flat_map}
use Rattle.dw_model.specs.Entries.{pairs_of}
use Rattle.dw_print.specs.Tables.{named_lines}
use Rattle.dw_print.proofs.tables.write_entries.Given as goal

abbrev pub invariant-loop-entry : goal.invariant-loop-entry
invariant-loop-entry l =
    l.out.items ++ flat_map named_lines (pairs_of (drop l.entry-index l.entries)) ≡ l.initial.out.items ++ flat_map named_lines (pairs_of l.entries)

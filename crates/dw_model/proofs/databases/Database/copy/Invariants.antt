-- The copy has the names and tables of the entries that the loop has passed.
use Rattle.std.proofs.Common.{◌≡◌, take}
use Rattle.dw_model.specs.Entries.{pairs_of}
use Rattle.dw_model.proofs.databases.Database.copy.Given as goal

abbrev pub invariant-loop-entry : goal.invariant-loop-entry
invariant-loop-entry l = pairs_of l.entries.items ≡ pairs_of (take l.entry-index l.entry-items)

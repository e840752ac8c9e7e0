-- The definitions so far are in the list.
use Rattle.std.proofs.Common.{◌≡◌, take}
use Rattle.dw_model.specs.Objects.{defs_of}
use Rattle.dw_model.proofs.objects.definitions.Given as goal

abbrev pub invariant-loop-table : goal.invariant-loop-table
invariant-loop-table l = l.objects ≡ defs_of (take l.table-index l.tables)

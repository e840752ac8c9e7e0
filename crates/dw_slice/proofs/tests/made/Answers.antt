-- The definition has the column.
use Rattle.std.proofs.Common.{sym, subst, List}
use Rattle.dw_slice.specs.declared.packed.Storage.{Storage}
use Rattle.dw_slice.specs.Slices.{AreEntries}
use Rattle.dw_slice.proofs.tests.made.Goals as goal

pub of_entries-requires-clause-entries : goal.of_entries-requires-clause-entries
of_entries-requires-clause-entries c = subst (λ (columns : List Storage). AreEntries columns c.in_ok-given.given) (sym c.in_ok-def.ensures) c.in_ok-given.ensures

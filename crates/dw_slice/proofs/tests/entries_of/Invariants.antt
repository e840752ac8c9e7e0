-- The ledger of the steps.
use Rattle.dw_slice.proofs.tests.entries_of.Given as goal

abbrev pub ghosts-entries_by : goal.ghosts-entries_by
ghosts-entries_by a = record { name = a.blank.name; parts = a.blank.parts }

-- The tables of the objects that the loop has passed, from the last.
use Rattle.std.proofs.Common.{◌≡◌, drop}
use Rattle.dw_journal.specs.Contents.{Effect, with_tables}
use Rattle.dw_commit.proofs.installing.install.Given as goal

abbrev pub invariant-loop-place : goal.invariant-loop-place
invariant-loop-place l =
    let effect : Effect = record { taken = l.taken; changes = l.view.changes; view = l.view.database } in
    l.next ≡ with_tables effect l.database (drop l.place l.taken.writes) l.database

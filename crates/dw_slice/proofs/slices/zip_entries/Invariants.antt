-- The entries so far.
use Rattle.std.proofs.Common.{◌≡◌, take}
use Rattle.dw_slice.specs.Chunks.{zip_entries}
use Rattle.dw_slice.proofs.slices.zip_entries.Given as goal

abbrev pub invariant-loop-place : goal.invariant-loop-place
invariant-loop-place l = l.entries.items ≡ zip_entries (take l.place l.marks) (take l.place l.rows)

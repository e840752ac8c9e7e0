-- The columns that the loop has passed are the same.
use Rattle.std.proofs.Common.{◌≡◌, take}
use Rattle.dw_commit.proofs.installing.are_alike.Given as goal

abbrev pub invariant-loop-place : goal.invariant-loop-place
invariant-loop-place l = take l.place l.a ≡ take l.place l.b

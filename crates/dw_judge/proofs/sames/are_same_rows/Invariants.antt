-- What the loop has passed is the same.
use Rattle.std.proofs.Common.{◌≡◌, length, take}
use Rattle.dw_judge.proofs.sames.are_same_rows.Given as goal

abbrev pub invariant-loop-place : goal.invariant-loop-place
invariant-loop-place l = (take l.place l.a ≡ take l.place l.b) × (length l.a ≡ length l.b)

use Rattle.std.proofs.Common.{◌≡◌, drop}
use Rattle.dw_io.specs.Memory.{bytes_under}
use Rattle.dw_io.proofs.memory.place_of.Given as goal

-- none of the files before `place` has the name
abbrev pub invariant-loop-place : goal.invariant-loop-place
invariant-loop-place l = bytes_under l.file-items l.name ≡ bytes_under (drop l.place l.file-items) l.name

use Rattle.std.proofs.Common.{◌≡◌, ◌≤◌, ◌++◌, IsSome, length, ◌-◌}
use Rattle.dw_io.proofs.whole.read_rest.Given as goal

-- what was read and what is left make what was left at first, and the faults did not fall
abbrev pub invariant-loop-read : goal.invariant-loop-read
invariant-loop-read g l =
    (length l.bytes.items ≤ l.limit) × (g.F.Files.held l.files ≡ g.F.Files.held l.initial.files) × (g.F.Files.faults l.initial.files ≤ g.F.Files.faults l.files) × (IsSome (g.F.Files.held l.initial.files) → g.F.Files.left l.initial.files ≡ l.bytes.items ++ g.F.Files.left l.files)

abbrev pub decreases-loop-read : goal.decreases-loop-read
decreases-loop-read g l = l.limit - length l.bytes.items

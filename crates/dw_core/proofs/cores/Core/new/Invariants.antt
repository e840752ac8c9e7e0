-- There are so many sessions yet, none of which has done anything.
use Rattle.std.proofs.Common.{◌≡◌, length}
use Rattle.dw_core.proofs.NewCores.{AreFresh}
use Rattle.dw_core.proofs.cores.Core.new.Given as goal

abbrev pub invariant-loop : goal.invariant-loop
invariant-loop l = (length l.sessions.items ≡ l.counter) × AreFresh l.sessions.items

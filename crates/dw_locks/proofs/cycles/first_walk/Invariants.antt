use Rattle.std.proofs.Common.{◌≡◌, ◌-◌, ◌<◌, ◌++◌, length}
use Rattle.std.specs.Prelude.{option_map}
use Rattle.dw_locks.specs.Walks.{waits_in, first_walk}
use Rattle.dw_locks.proofs.cycles.first_walk.Given as goal

-- the walk so far, and then the first walk over the steps that are left
abbrev pub invariant-loop-turn : goal.invariant-loop-turn
invariant-loop-turn l = record {
  within : l.from < length l.waits;
  goes_on : first_walk (waits_in l.waits) l.session l.steps l.session
      ≡ option_map (λ rest. l.walk ++ rest) (first_walk (waits_in l.waits) l.session (l.steps - l.turn) l.from);
}

use Rattle.std.proofs.Common.{suc, arith}
use Rattle.dw_journal.specs.Locks.{would_wait_for}
use Rattle.dw_locks.proofs.CycleLemmas.{shortest, absent, positive}
use Rattle.dw_locks.proofs.LeastCycles.{least_deadlock}
use Rattle.dw_locks.proofs.laws.deadlocks_are_shortest_cycles.Goals as goal

pub returns-clause-cycle : goal.returns-clause-cycle
returns-clause-cycle c = λ state session asked cycle found.
    let first = shortest (would_wait_for state session asked) session 0 (suc state.sessions) cycle found in first.cycle_is

pub returns-clause-shortest : goal.returns-clause-shortest
returns-clause-shortest c = λ state session asked cycle other found is.
    let first = shortest (would_wait_for state session asked) session 0 (suc state.sessions) cycle found in
    first.least other is (positive session other is.begins)

pub returns-clause-least : goal.returns-clause-least
returns-clause-least c = λ state session asked cycle other found is long. least_deadlock state session asked cycle other found is long

pub returns-clause-none : goal.returns-clause-none
returns-clause-none c = λ state session asked other none is within.
    absent (would_wait_for state session asked) session 0 (suc state.sessions) other none is (positive session other is.begins) (omega (arith, within))

use Rattle.dw_locks.proofs.SearchLemmas.{HasSearched}
use Rattle.dw_locks.proofs.cycles.first_cycle.Given as goal

-- no walk of so few steps as there are levels closes a cycle
abbrev pub invariant-loop : goal.invariant-loop
invariant-loop l = HasSearched l.waits l.session l.counter l.levels l.level

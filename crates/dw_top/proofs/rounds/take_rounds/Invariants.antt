use Rattle.std.specs.Prelude.{ℕ}
use Rattle.dw_journal.specs.Driven.{rounds_of}
use Rattle.dw_top.specs.Rounds.{Leads, total_left}
use Rattle.dw_top.proofs.rounds.take_rounds.Given as goal

abbrev pub invariant-loop-engine : goal.invariant-loop-engine
invariant-loop-engine l = (rounds : ℕ) × Leads (rounds_of l.sessions rounds) l.fn.engine l.engine

abbrev pub decreases-loop-engine : goal.decreases-loop-engine
decreases-loop-engine l = total_left l.engine l.sessions

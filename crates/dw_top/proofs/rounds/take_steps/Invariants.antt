use Rattle.std.specs.Prelude.{replicate}
use Rattle.dw_journal.specs.Driven.{OfSession}
use Rattle.dw_top.specs.Rounds.{Leads}
use Rattle.dw_top.proofs.rounds.take_steps.Given as goal

abbrev pub invariant-loop : goal.invariant-loop
invariant-loop l = Leads (replicate l.counter (OfSession l.session)) l.fn.engine l.engine

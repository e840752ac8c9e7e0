use Rattle.std.proofs.Common.{◌≡◌}
use Rattle.dw_journal.specs.Worlds.{session_count}
use Rattle.dw_engine.proofs.tests.run.Given as goal

abbrev pub invariant-loop : goal.invariant-loop
invariant-loop l = l.sessions ≡ session_count l.engine.world

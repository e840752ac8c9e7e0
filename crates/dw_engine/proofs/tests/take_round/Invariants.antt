use Rattle.std.proofs.Common.{◌≡◌}
use Rattle.dw_journal.specs.Worlds.{session_count}
use Rattle.dw_engine.proofs.tests.take_round.Given as goal

abbrev pub invariant-loop-before : goal.invariant-loop-before
invariant-loop-before l = l.sessions ≡ session_count l.engine.world

use Rattle.std.proofs.Common.{◌≡◌}
use Rattle.dw_journal.specs.Worlds.{session_count}
use Rattle.dw_engine.proofs.tests.take_moves.Given as goal

abbrev pub invariant-loop-digit : goal.invariant-loop-digit
invariant-loop-digit l = l.sessions ≡ session_count l.engine.world

use Rattle.std.proofs.Common.{◌≡◌}
use Rattle.dw_journal.specs.Worlds.{session_count}
use Rattle.dw_engine.proofs.tests.kept_after.Given as goal

abbrev pub invariant-loop-moves : goal.invariant-loop-moves
invariant-loop-moves l = l.sessions ≡ session_count l.engine.world

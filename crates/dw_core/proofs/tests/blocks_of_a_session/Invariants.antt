-- The world has two sessions.
use Rattle.std.proofs.Common.{◌≡◌}
use Rattle.dw_journal.specs.Worlds.{session_count}
use Rattle.dw_core.proofs.tests.blocks_of_a_session.Given as goal

abbrev pub invariant-loop : goal.invariant-loop
invariant-loop g l = session_count l.core.world ≡ 2

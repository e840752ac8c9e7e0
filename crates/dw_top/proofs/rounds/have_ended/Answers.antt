use Rattle.std.proofs.Common.{◌≡◌, ℕ, zero, suc, ◌<◌, ◌≤◌, true, arith}
use Rattle.dw_journal.specs.Worlds.{IsSession, session_count}
use Rattle.dw_journal.specs.History.{History, has_ended}
use Rattle.dw_top.proofs.rounds.have_ended.Goals as goal

all_ended : (history : History) (count : ℕ) → session_count history.world ≤ count → ((t : ℕ) → t < count → has_ended (suc t) history.events ≡ true)
    → (session : ℕ) → IsSession history.world session → has_ended session history.events ≡ true
all_ended history count most each zero within = absurd (omega (arith, within.0))
all_ended history count most each (suc t) within = each t (omega (arith, most, within.1))

pub returns-clause-ended : goal.returns-clause-ended
returns-clause-ended c is session within =
    all_ended c.args.engine.now c.loop-before.before (omega (arith, c.requires.sessions, c.loop-before-test.false)) c.loop-before.invariant session within

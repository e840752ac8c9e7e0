-- The sessions so far are at their end.
use Rattle.std.proofs.Common.{◌≡◌, ◌<◌, ℕ, suc, true}
use Rattle.dw_journal.specs.History.{has_ended}
use Rattle.dw_top.proofs.rounds.have_ended.Given as goal

abbrev pub invariant-loop-before : goal.invariant-loop-before
invariant-loop-before l = (t : ℕ) → t < l.before → has_ended (suc t) l.engine.events ≡ true
